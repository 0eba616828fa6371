-- The records of a list, as the code takes them off: up to w octets, or up to the end.
use Prim.Native.Nat.{ℕ, zero, suc, ◌+◌, ◌-◌, ◌*◌, ◌/◌, ◌≤◌, ◌<◌, ◌^◌, min}
use mathlib.Core.Path.{◌≡◌, refl, sym, ap, ◌∙◌}
use mathlib.Core.List.{List, [], ◌∷◌}
use native.Mathlib.Nat.{zero-add, suc-add, mul-le-mul_right}
use native.Mathlib.Omega.{arith, min_cases}
use lib.ListN.{length, take, drop, length-take, length-drop, drop_of_length-le}
use lib.Seq.{sets, drop-drop, take_all, take-nil, take-take}
use native.Mathlib.Decide.{dec_lt}
use borrow.Author.Tests.{ne_eqb}
use Rattle.protocol.specs.Listing.{parts, records}
use Rattle.buffer.specs.Written.{Written, stored_from}
use Rattle.buffer.proofs.Texts.{stored_sets}

pub some_part : (w n : ℕ) (l : List ℕ) → 0 < length l → parts w (suc n) l ≡ take w l ∷ parts w n (drop w l)
unfolding parts
some_part w n l h = rw (ne_eqb (length l) 0 (λ z. omega arith))

pub no_octets : (w n : ℕ) → parts w n [] ≡ []
unfolding parts
no_octets w zero = refl
no_octets w (suc n) = refl

pub no_more : (l : List ℕ) → length l ≤ 0 → l ≡ []
no_more [] h = refl
no_more (x ∷ l) h = absurd (omega arith)

-- any number of parts will do that is enough for the octets
pub enough : (w n m : ℕ) (l : List ℕ) → length l ≤ w * n → length l ≤ w * m → parts w n l ≡ parts w m l
enough w zero m l h k = rw (no_more l (omega arith)) (no_octets w zero ∙ sym (no_octets w m))
enough w (suc n) zero l h k = rw (no_more l (omega arith)) (no_octets w (suc n) ∙ sym (no_octets w zero))
enough w (suc n) (suc m) l h k = elim (dec_lt 0 (length l)) [
  | yes p ↦ some_part w n l p
      ∙ ap (λ (r : List (List ℕ)). take w l ∷ r) (enough w n m (drop w l) (omega (arith, length-drop w l)) (omega (arith, length-drop w l)))
      ∙ sym (some_part w m l p)
  | no q ↦ rw (no_more l (omega arith)) (no_octets w (suc n) ∙ sym (no_octets w (suc m)))
]

-- the first n parts need no more octets than theirs
drop_take : (n m : ℕ) (l : List ℕ) → drop n (take (n + m) l) ≡ take m (drop n l)
drop_take zero m l = rw zero-add
drop_take (suc n) m [] = rw (take-nil (suc n + m), take-nil m)
drop_take (suc n) m (x ∷ l) = rw suc-add (drop_take n m l)

pub first_parts : (w n : ℕ) (l : List ℕ) → 0 < w → parts w n (take (w * n) l) ≡ parts w n l
unfolding parts
first_parts w zero l p = refl
first_parts w (suc n) [] p = rw (take-nil (w * suc n))
first_parts w (suc n) (x ∷ l) p =
    let s : List ℕ = x ∷ l in
    let e : w * suc n ≡ w + w * n = omega arith in
    rw e (some_part w n (take (w + w * n) s) (omega (arith, length-take (w + w * n) s))
    ∙ rw (take-take w (w + w * n) s (omega arith), drop_take w (w * n) s, first_parts w n (drop w s) p) (sym (some_part w n s (omega arith))))

pub part : (w from to : ℕ) (l : List ℕ) → from < length l → to ≡ min (from + w) (length l) → take (to - from) (drop from l) ≡ take w (drop from l)
part w from to l m e =
    min_cases (from + w) (length l) _
    (λ s q. let whole : to - from ≡ w = omega arith in rw whole)
    (λ s q.
    let all : length (drop from l) ≤ to - from = omega (arith, length-drop from l) in
    let few : length (drop from l) ≤ w = omega (arith, length-drop from l) in
    rw (take_all (to - from) (drop from l) all, take_all w (drop from l) few))

-- the first w octets, or all where there are fewer, and those behind them
taken_of : (w n : ℕ) (l : List ℕ) → n ≡ min w (length l) → take n l ≡ take w l
taken_of w n l e = min_cases w (length l) _ (λ s q. rw (e, q)) (λ s q. rw (e, q, take_all (length l) l (omega arith), take_all w l s))

left_of : (w n : ℕ) (l : List ℕ) → n ≡ min w (length l) → drop n l ≡ drop w l
left_of w n l e =
    min_cases w (length l) _ (λ s q. rw (e, q)) (λ s q. rw (e, q, drop_of_length-le l {i = length l} (omega arith), drop_of_length-le l {i = w} s))

-- ---- how many there are

pub at_most : (w n : ℕ) (l : List ℕ) → length (parts w n l) ≤ n
unfolding parts
at_most w zero l = omega arith
at_most w (suc n) l = elim (dec_lt 0 (length l)) [
  | yes p ↦ omega (arith, ap length (some_part w n l p), at_most w n (drop w l))
  | no q ↦ rw (no_more l (omega arith)) (omega (arith, ap length (no_octets w (suc n))))
]

pub count : (n : ℕ) (l : List ℕ) → length l ≤ 6 * n → length (records n l) ≡ (length l + 5) / 6
count zero l h = rw (no_more l (omega arith)) (ap length (no_octets 6 zero))
count (suc n) l h = elim (dec_lt 0 (length l)) [
  | yes p ↦ ap length (some_part 6 n l p) ∙ omega (arith, count n (drop 6 l) (omega (arith, length-drop 6 l)), length-drop 6 l)
  | no q ↦ rw (no_more l (omega arith)) (ap length (no_octets 6 (suc n)))
]

-- ---- a run over them

-- `all` is the state after a list of records, `said` what each of them is answered
module _ {S : Type 0} (w : ℕ) (all : S → List (List ℕ) → S) (said : S → List (List ℕ) → List ℕ) where
  -- what is left to do with the octets `rest`: to the state, and from place `at` on to the buffer
  pub record To-do (l : List ℕ) (whole : S) (full buffer : List ℕ) (s : S) (rest : List ℕ) (at : ℕ) : Type 0 where
    pub within : length rest ≤ length l
    pub undone : all s (parts w (length l) rest) ≡ whole
    pub unsaid : stored_from at (said s (parts w (length l) rest)) buffer ≡ full

  pub start : (l buffer : List ℕ) (s : S) → ((rs : List (List ℕ)) → length (said s rs) ≡ length rs) → length l < 2 ^ 64
      → To-do l (all s (parts w (length l) l)) (sets buffer 0 (said s (parts w (length l) l))) buffer s l 0
  start l buffer s each h = record {
    within = omega arith;
    undone = refl;
    unsaid = stored_sets 0 (said s (parts w (length l) l)) buffer (omega (arith, each (parts w (length l) l), at_most w (length l) l));
  }

  module _ {l full buffer : List ℕ} {whole s : S} {rest : List ℕ} {at : ℕ} (d : To-do l whole full buffer s rest at) where
    first : 0 < w → 0 < length rest → parts w (length l) rest ≡ take w rest ∷ parts w (length l) (drop w rest)
    first p m =
        let room : 1 * length l ≤ w * length l = mul-le-mul_right (length l) p in
        enough w (length l) (suc (length l)) rest (omega (arith, d.within)) (omega (arith, d.within))
        ∙ some_part w (length l) rest m

    -- a record more: the next n octets, w of them or what there are
    pub turn : {s' : S} {answer n end : ℕ} {buffer' : List ℕ} → 0 < w → 0 < length rest → n ≡ min w (length rest)
        → ((rs : List (List ℕ)) → all s (take n rest ∷ rs) ≡ all s' rs)
        → ((rs : List (List ℕ)) → said s (take n rest ∷ rs) ≡ answer ∷ said s' rs)
        → Written (answer ∷ []) at buffer end buffer' → To-do l whole full buffer' s' (drop n rest) end
    turn {s'} {answer} {n} {end} {buffer'} p m t onward told v = record {
      within = omega (arith, d.within, length-drop n rest);
      undone = rw (left_of w n rest t) (sym (onward others) ∙ ap (all s) these ∙ d.undone);
      unsaid = rw (v.ends, v.stored, left_of w n rest t)
          (ap (λ (answers : List ℕ). stored_from at answers buffer) (sym (told others) ∙ ap (said s) these) ∙ d.unsaid);
    }
      where
        others : List (List ℕ)
        others = parts w (length l) (drop w rest)

        these : take n rest ∷ others ≡ parts w (length l) rest
        these = ap (λ (r : List ℕ). r ∷ others) (taken_of w n rest t) ∙ sym (first p m)

    pub ended : all s [] ≡ s → said s [] ≡ [] → length rest ≤ 0 → (s ≡ whole) × (buffer ≡ full)
    ended still silent h =
        let none : parts w (length l) rest ≡ [] = ap (parts w (length l)) (no_more rest h) ∙ no_octets w (length l) in (
          sym still ∙ sym (ap (all s) none) ∙ d.undone,
          sym (ap (λ (answers : List ℕ). stored_from at answers buffer) (ap (said s) none ∙ silent)) ∙ d.unsaid,
        )
