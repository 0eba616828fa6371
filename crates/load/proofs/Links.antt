-- The rows that right link entries make: eight by eight, both ways, no mark for oneself, none past n.
use Prim.Native.Nat.{ℕ, zero, suc, ◌+◌, ◌-◌, ◌≤◌, ◌<◌}
use mathlib.Core.Path.{◌≡◌, refl, sym, ◌∙◌, ap}
use mathlib.Core.Bool.{true, false, ◌&&◌, and-eq-true_iff, true≢false}
use mathlib.Core.List.{List, [], ◌∷◌}
use mathlib.Core.Logic.{◌⊎◌, inl, inr, ⊎_elim}
use native.Mathlib.Omega.{arith}
use native.Mathlib.Decide.{ℕ_discrete}
use lib.ListN.{length, get_or, set, replicate, length-set, get_or-replicate}
use lib.Seq.{get_or-set_same}
use lib.Dec.{leb, ltb}
use borrow.Author.Tests.{leb-true, ltb-true}
use Rattle.marks.specs.Marks.{Marks, marked, no_marks}
use Rattle.marks.specs.Reach.{Rows, mark, connected}
use Rattle.load.specs.Load.{cabinet_count, lower_of, higher_of, link_right, rises_to, links_right, linked, link_rows}

pub record Fair (n : ℕ) (rows : Rows) : Type 0 where
  pub size : length rows ≡ 8
  pub row_size : (i : ℕ) → i < 8 → length (get_or rows i []) ≡ 8
  pub both_ways : (i j : ℕ) → mark rows i j ≡ true → mark rows j i ≡ true
  pub not_self : (i : ℕ) → mark rows i i ≡ true → ⊥
  pub below : (i j : ℕ) → mark rows i j ≡ true → (i < n) × (j < n)

pub connected_same : {rows rows' : Rows} {marks marks' : Marks} → rows ≡ rows' → marks ≡ marks' → connected rows marks ≡ connected rows' marks'
connected_same {rows} {rows'} {marks} p q = ap (λ (r : Rows). connected r marks) p ∙ ap (λ (m : Marks). connected rows' m) q

-- ---- one mark more

kept : (m : Marks) (k j : ℕ) → marked m j ≡ true → marked (set m k true) j ≡ true
kept [] k j h = h
kept (x ∷ m) zero zero h = refl
kept (x ∷ m) zero (suc j) h = h
kept (x ∷ m) (suc k) zero h = h
kept (x ∷ m) (suc k) (suc j) h = kept m k j h

added : (m : Marks) (k j : ℕ) → marked (set m k true) j ≡ true → (j ≡ k) ⊎ (marked m j ≡ true)
added [] k j h = inr h
added (x ∷ m) zero zero h = inl refl
added (x ∷ m) zero (suc j) h = inr h
added (x ∷ m) (suc k) zero h = inr h
added (x ∷ m) (suc k) (suc j) h = ⊎_elim (λ q. inl (ap suc q)) (λ e. inr e) (added m k j h)

linked_keeps : (rows : Rows) (a b i j : ℕ) → mark rows i j ≡ true → mark (linked rows a b) i j ≡ true
linked_keeps [] a b i j h = h
linked_keeps (row ∷ rows) zero b zero j h = kept row b j h
linked_keeps (row ∷ rows) zero b (suc i) j h = h
linked_keeps (row ∷ rows) (suc a) b zero j h = h
linked_keeps (row ∷ rows) (suc a) b (suc i) j h = linked_keeps rows a b i j h

linked_adds : (rows : Rows) (a b i j : ℕ) → mark (linked rows a b) i j ≡ true → ((i ≡ a) × (j ≡ b)) ⊎ (mark rows i j ≡ true)
linked_adds [] a b i j h = inr h
linked_adds (row ∷ rows) zero b zero j h = ⊎_elim (λ q. inl (refl, q)) (λ e. inr e) (added row b j h)
linked_adds (row ∷ rows) zero b (suc i) j h = inr h
linked_adds (row ∷ rows) (suc a) b zero j h = inr h
linked_adds (row ∷ rows) (suc a) b (suc i) j h = ⊎_elim (λ q. inl (ap suc q.0, q.1)) (λ e. inr e) (linked_adds rows a b i j h)

linked_there : (rows : Rows) (a b : ℕ) → a < length rows → b < length (get_or rows a []) → mark (linked rows a b) a b ≡ true
linked_there [] a b h l = absurd (omega arith)
linked_there (row ∷ rows) zero b h l = get_or-set_same row b true false l
linked_there (row ∷ rows) (suc a) b h l = linked_there rows a b (omega arith) l

linked_row : (rows : Rows) (a b i : ℕ) → length (get_or (linked rows a b) i []) ≡ length (get_or rows i [])
linked_row [] a b i = refl
linked_row (row ∷ rows) zero b zero = length-set row b true
linked_row (row ∷ rows) zero b (suc i) = refl
linked_row (row ∷ rows) (suc a) b zero = refl
linked_row (row ∷ rows) (suc a) b (suc i) = linked_row rows a b i

-- ---- one link more

module _ (n a b : ℕ) (rows : Rows) (fair : Fair n rows) (most : n ≤ 8) (rises : a < b) (within : b < n) where
  -- a mark that stands afterwards is one of the two, or stood before
  two_more : (i j : ℕ) → mark (linked (linked rows a b) b a) i j ≡ true → ((i ≡ b) × (j ≡ a)) ⊎ (((i ≡ a) × (j ≡ b)) ⊎ (mark rows i j ≡ true))
  two_more i j h = ⊎_elim (λ q. inl q) (λ e. inr (linked_adds rows a b i j e)) (linked_adds (linked rows a b) b a i j h)

  there : mark (linked (linked rows a b) b a) a b ≡ true
  there =
      linked_keeps (linked rows a b) b a a b
      (linked_there rows a b (omega (arith, fair.size)) (omega (arith, fair.row_size a (omega arith))))

  back : mark (linked (linked rows a b) b a) b a ≡ true
  back =
      linked_there (linked rows a b) b a
      (omega (arith, length-set rows a (set (get_or rows a []) b true), fair.size))
      (omega (arith, linked_row rows a b b, fair.row_size b (omega arith)))

  at : {i j k l : ℕ} → i ≡ k → j ≡ l → mark (linked (linked rows a b) b a) k l ≡ true → mark (linked (linked rows a b) b a) i j ≡ true
  at p q h = rw (p, q) h

  pub fair_link : Fair n (linked (linked rows a b) b a)
  fair_link = record {
    size = length-set (linked rows a b) b _ ∙ (length-set rows a _ ∙ fair.size);
    row_size = λ i l. linked_row (linked rows a b) b a i ∙ (linked_row rows a b i ∙ fair.row_size i l);
    both_ways = λ i j h. ⊎_elim
        (λ q. at q.1 q.0 there)
        (λ e. ⊎_elim
        (λ q. at q.1 q.0 back)
        (λ o. linked_keeps (linked rows a b) b a j i (linked_keeps rows a b j i (fair.both_ways i j o)))
        e)
        (two_more i j h);
    not_self = λ i h. ⊎_elim (λ q. omega arith) (λ e. ⊎_elim (λ q. omega arith) (λ o. fair.not_self i o) e) (two_more i i h);
    below = λ i j h. ⊎_elim
        (λ q. (omega arith, omega arith))
        (λ e. ⊎_elim (λ q. (omega arith, omega arith)) (λ o. fair.below i j o) e)
        (two_more i j h);
  }

-- ---- from no link on

none_marked : (k j : ℕ) → marked (replicate k false) j ≡ false
none_marked zero j = refl
none_marked (suc k) zero = refl
none_marked (suc k) (suc j) = none_marked k j

none : (k i j : ℕ) → mark (replicate k no_marks) i j ≡ false
none zero i j = refl
none (suc k) zero j = none_marked 8 j
none (suc k) (suc i) j = none k i j

never : (i j : ℕ) → mark (replicate 8 no_marks) i j ≡ true → ⊥
never i j h = true≢false (sym h ∙ none 8 i j)

no_links : (n : ℕ) → Fair n (replicate 8 no_marks)
no_links n = record {
  size = refl;
  row_size = λ i l. ap length (get_or-replicate 8 i no_marks [] l);
  both_ways = λ i j h. absurd (never i j h);
  not_self = λ i h. never i i h;
  below = λ i j h. absurd (never i j h);
}

-- what a right entry says of its two numbers, less one
module _ (f : List ℕ) (k : ℕ) (right : link_right f k ≡ true) where
  right_parts : (1 ≤ lower_of f k) × (lower_of f k < higher_of f k) × (higher_of f k ≤ cabinet_count f)
  right_parts =
      let first = (and-eq-true_iff (leb 1 (lower_of f k)) (ltb (lower_of f k) (higher_of f k) && leb (higher_of f k) (cabinet_count f))).0 right in
      let rest = (and-eq-true_iff (ltb (lower_of f k) (higher_of f k)) (leb (higher_of f k) (cabinet_count f))).0 first.1 in
      (leb-true 1 (lower_of f k) first.0, ltb-true (lower_of f k) (higher_of f k) rest.0, leb-true (higher_of f k) (cabinet_count f) rest.1)

  lower_first : lower_of f k - 1 < higher_of f k - 1
  lower_first = let p = right_parts in omega arith

  higher_within : higher_of f k - 1 < cabinet_count f
  higher_within = let p = right_parts in omega arith

-- the last of right entries is right, and so are those before it
last_right : (f : List ℕ) (k : ℕ) → links_right (suc k) f ≡ true → (links_right k f ≡ true) × (link_right f k ≡ true)
last_right f k right =
    let parts = (and-eq-true_iff (links_right k f) (link_right f k && rises_to f k)).0 right in
    (parts.0, ((and-eq-true_iff (link_right f k) (rises_to f k)).0 parts.1).0)

pub fair_links : (f : List ℕ) (m : ℕ) → cabinet_count f ≤ 8 → links_right m f ≡ true → Fair (cabinet_count f) (link_rows m f)
fair_links f zero most right = no_links (cabinet_count f)
fair_links f (suc k) most right =
    let parts = last_right f k right in
    fair_link (cabinet_count f) (lower_of f k - 1) (higher_of f k - 1) (link_rows k f) (fair_links f k most parts.0) most (lower_first f k parts.1) (higher_within f k parts.1)

-- ---- the links are those of the entries

pub entry_linked : (f : List ℕ) (m : ℕ) → cabinet_count f ≤ 8 → links_right m f ≡ true → (k : ℕ) → k < m
    → mark (link_rows m f) (lower_of f k - 1) (higher_of f k - 1) ≡ true
entry_linked f zero most right k h = absurd (omega arith)
entry_linked f (suc m) most right k h =
    let parts = last_right f m right in
    let a = lower_of f m - 1 in
    let b = higher_of f m - 1 in
    elim (ℕ_discrete k m) [
      | yes q ↦ rw q (there (cabinet_count f) a b (link_rows m f) (fair_links f m most parts.0) most (lower_first f m parts.1) (higher_within f m parts.1))
      | no d ↦ linked_keeps (linked (link_rows m f) a b) b a _ _ (linked_keeps (link_rows m f) a b _ _ (entry_linked f m most parts.0 k (omega arith)))
    ]

pub only_entries : (f : List ℕ) (m : ℕ) → cabinet_count f ≤ 8 → links_right m f ≡ true → (i j : ℕ) → i < j → mark (link_rows m f) i j ≡ true
    → (k : ℕ) × (k < m) × (lower_of f k ≡ i + 1) × (higher_of f k ≡ j + 1)
only_entries f zero most right i j h e = absurd (never i j e)
only_entries f (suc m) most right i j h e =
    let parts = last_right f m right in
    let named = right_parts f m parts.1 in
    ⊎_elim
    (λ q. absurd (omega arith))
    (λ r. ⊎_elim
    (λ q. (m, omega arith, omega arith, omega arith))
    (λ o. let earlier = only_entries f m most parts.0 i j h o in (earlier.0, omega arith, earlier.2, earlier.3))
    r)
    (two_more (cabinet_count f) (lower_of f m - 1) (higher_of f m - 1) (link_rows m f) (fair_links f m most parts.0) most (lower_first f m parts.1) (higher_within f m parts.1) i j e)
