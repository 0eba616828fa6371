-- The next coordinator over any test of who is in use: a struck one is never the next, so it is no matter whether it still is.
use Prim.Native.Nat.{ℕ, zero, suc, ◌+◌, ◌<◌, ◌≤◌}
use mathlib.Core.Path.{◌≡◌, refl, sym, ap, ◌∙◌}
use mathlib.Core.Logic.{◌≢◌}
use mathlib.Core.Bool.{Bool, true, false, cond, not, ◌&&◌}
use lib.Dec.{eqb, ltb}
use borrow.Author.Tests.{ltb-true, ltb-false, lt-ltb, ne_eqb}
use native.Mathlib.Omega.{arith}
use native.Mathlib.Decide.{dec_lt}
use Rattle.marks.specs.Marks.{Marks, marked, lowest_from, lowest, both, above, next_up}
use Rattle.marks.specs.MarksLaws.{lowest_from_passes, lowest_from_least, marked_both}
use Rattle.packet.specs.declared.Place.{Place}
use Rattle.table.specs.Table.{is_at}
use Rattle.claims.proofs.State.Fun.{never, and_true, and_intro}

abbrev lowest_of : (ℕ → Bool) → ℕ
lowest_of f = lowest_from f 8 0

abbrev or_else : ℕ → ℕ → ℕ
or_else i j = cond (ltb i 8) i j

-- the next higher number that passes the test, after the highest the lowest
unfoldable pub next_over : (ℕ → Bool) → ℕ → ℕ
next_over f x = or_else (lowest_of (λ k. f k && ltb x k)) (lowest_of f)

-- the coordinator that a table names after a fault, where f says who is in use then
abbrev pub lead_over : Place → ℕ → (ℕ → Bool) → ℕ
lead_over p k f = cond (is_at p k) (next_over f k) k

lowest_same : (f g : ℕ → Bool) (n i : ℕ) → i + n ≡ 8 → ((k : ℕ) → k < 8 → f k ≡ g k) → lowest_from f n i ≡ lowest_from g n i
lowest_same f g zero i e h = refl
lowest_same f g (suc n) i e h = rw (h i (omega arith), lowest_same f g n (i + 1) (omega arith) h)

pub next_same : (f g : ℕ → Bool) (x : ℕ) → ((k : ℕ) → k < 8 → f k ≡ g k) → next_over f x ≡ next_over g x
unfolding next_over
next_same f g x h =
    rw (lowest_same f g 8 0 refl h, lowest_same (λ k. f k && ltb x k) (λ k. g k && ltb x k) 8 0 refl (λ k l. ap (λ (b : Bool). b && ltb x k) (h k l)))

-- of a table's marks it is what the rule gives
pub next_over_lem : (m : Marks) (x : ℕ) → next_up m x ≡ next_over (marked m) x
unfolding next_up next_over lowest
next_over_lem m x =
    ap (λ (i : ℕ). or_else i (lowest_of (marked m)))
    (lowest_same (marked (both m (above x))) (λ k. marked m k && ltb x k) 8 0 refl (λ k l. marked_both m (above x) k l ∙ ap (λ (b : Bool). marked m k && b) (at k l)))
  where
    at : (k : ℕ) → k < 8 → marked (above x) k ≡ ltb x k
    at zero l = refl
    at (suc zero) l = refl
    at (suc (suc zero)) l = refl
    at (suc (suc (suc zero))) l = refl
    at (suc (suc (suc (suc zero)))) l = refl
    at (suc (suc (suc (suc (suc zero))))) l = refl
    at (suc (suc (suc (suc (suc (suc zero)))))) l = refl
    at (suc (suc (suc (suc (suc (suc (suc zero))))))) l = refl
    at (suc (suc (suc (suc (suc (suc (suc (suc k)))))))) l = absurd (omega arith)

-- the second of all
pub next_one : (f : ℕ → Bool) → f 1 ≡ true → next_over f 0 ≡ 1
unfolding next_over
next_one f e = go (f 0)
  where
    go : (t : Bool) → or_else (cond (t && false) 0 (cond (f 1 && true) 1 (lowest_from (λ k. f k && ltb 0 k) 6 2))) (lowest_of f) ≡ 1
    go true = rw e
    go false = rw e

module _ (f : ℕ → Bool) where
  lowest_is : (k : ℕ) → k < 8 → f k ≡ true → ((j : ℕ) → j < k → f j ≡ false) → lowest_of f ≡ k
  lowest_is k l e below = go (lowest_of f) (lowest_from_passes f 8 0) (lowest_from_least f 8 0 refl)
    where
      go : (i : ℕ) → (i < 8 → f i ≡ true) → ((j : ℕ) → 0 ≤ j → j < i → f j ≡ false) → i ≡ k
      go i passes least = elim (dec_lt i k) [
        | yes b ↦ absurd (never (passes (omega arith)) (below i b))
        | no b ↦ elim (dec_lt k i) [ yes c ↦ absurd (never e (least k (omega arith) c)) | no c ↦ omega arith ]
      ]

  lowest_below : (k : ℕ) → f k ≡ true → k < lowest_of f → ⊥
  lowest_below k e l = never e (lowest_from_least f 8 0 refl k (omega arith) l)

module _ (f : ℕ → Bool) (x y : ℕ) (ly : y < 8) (other : y ≢ x) (fy : f y ≡ true) where
  abbrev without : ℕ → Bool
  without k = f k && not (eqb k x)

  above_same : (k : ℕ) → k < 8 → (without k && ltb x k) ≡ (f k && ltb x k)
  above_same k l = go (ltb x k) refl
    where
      drop_last : (s : Bool) → (s && true) ≡ s
      drop_last true = refl
      drop_last false = refl

      no_last : (s : Bool) → (s && false) ≡ false
      no_last true = refl
      no_last false = refl

      go : (t : Bool) → ltb x k ≡ t → (without k && t) ≡ (f k && t)
      go true e = let b = ltb-true x k e in rw (ne_eqb k x (λ q. omega arith)) (drop_last (f k && true))
      go false e = no_last (without k) ∙ sym (no_last (f k))

  lowest_most : lowest_of f ≤ y
  lowest_most = go (lowest_of f) (lowest_below f y fy)
    where
      go : (i : ℕ) → (y < i → ⊥) → i ≤ y
      go i h = elim (dec_lt y i) [ yes b ↦ absurd (h b) | no b ↦ omega arith ]

  -- where none is above x, the lowest is below it
  lowest_under : ltb (lowest_of (λ k. f k && ltb x k)) 8 ≡ false → lowest_of f < x
  lowest_under none = go (lowest_of (λ k. f k && ltb x k)) none (lowest_below (λ k. f k && ltb x k) y)
    where
      go : (i : ℕ) → ltb i 8 ≡ false → ((f y && ltb x y) ≡ true → y < i → ⊥) → lowest_of f < x
      go i e h = elim (dec_lt x y) [
        | yes b ↦ absurd (h (and_intro fy (lt-ltb x y b)) (let c = ltb-false i 8 e in omega arith))
        | no b ↦ omega (arith, lowest_most)
      ]

  -- the next one that is above x
  abbrev up : ℕ
  up = lowest_of (λ k. f k && ltb x k)

  pub next_without : next_over without x ≡ next_over f x
  unfolding next_over
  next_without =
      ap (λ (i : ℕ). or_else i (lowest_of without)) (lowest_same (λ k. without k && ltb x k) (λ k. f k && ltb x k) 8 0 refl above_same)
      ∙ go (ltb (lowest_of (λ k. f k && ltb x k)) 8) refl
    where
      go : (t : Bool) → ltb up 8 ≡ t → cond t up (lowest_of without) ≡ cond t up (lowest_of f)
      go true e = refl
      go false e =
          let under = lowest_under e in
          lowest_is without (lowest_of f) (omega (arith, lowest_most))
          (and_intro (lowest_from_passes f 8 0 (omega (arith, lowest_most))) (ap not (ne_eqb (lowest_of f) x (λ q. omega arith))))
          (λ j l. ap (λ (b : Bool). b && not (eqb j x)) (lowest_from_least f 8 0 refl j (omega arith) l))

  -- the next one is in use, and is another
  pub next_other : (next_over f x < 8) × (f (next_over f x) ≡ true) × (next_over f x ≢ x)
  unfolding next_over
  next_other = go (ltb up 8) refl
    where
      passes : up < 8 → (f up && ltb x up) ≡ true
      passes = lowest_from_passes (λ k. f k && ltb x k) 8 0

      go : (t : Bool) → ltb up 8 ≡ t → (cond t up (lowest_of f) < 8) × (f (cond t up (lowest_of f)) ≡ true) × (cond t up (lowest_of f) ≢ x)
      go true e =
          let l = ltb-true up 8 e in
          let p = and_true {s = f up} (passes l) in
          (l, p.0, λ q. let m = ltb-true x up p.1 in omega (arith, q))
      go false e =
          let under = lowest_under e in
          (omega (arith, lowest_most), lowest_from_passes f 8 0 (omega (arith, lowest_most)), λ q. omega (arith, q))
