-- What the reach check says: over the links marked in a row what passes from working cabinet to working cabinet, and holds of one, holds of all.
use Prim.Native.Nat.{ℕ, zero, suc, ◌<◌, ◌≤◌}
use mathlib.Core.Path.{◌≡◌, refl, sym, ap, ◌∙◌}
use mathlib.Core.Bool.{Bool, true, false}
use mathlib.Core.List.{List, [], ◌∷◌}
use lib.ListN.{length, get_or, get_or-eq_default}
use native.Mathlib.Omega.{arith}
use native.Mathlib.Decide.{dec_lt}
use Rattle.marks.specs.Marks.{Marks, marked, no_marks, lowest}
use Rattle.marks.specs.MarksLaws.{lowest_marked, lowest_le_marked}
use Rattle.marks.specs.Reach.{Rows, mark, connected}
use Rattle.marks.specs.ReachLaws.{Path, here, step, connected_paths}
use Rattle.state.specs.State.{works}
use Rattle.group.specs.declared.Row.{Row}
use Rattle.group.specs.declared.Group.{Group}
use Rattle.group.specs.Group.{cabinet, state_of, line, outgoing, working, rows_of, of_rows, with_sound}
use Rattle.claims.proofs.State.Fun.{never}
use Rattle.claims.proofs.State.View.{view, set_sound}

-- the fact about reach, of any links and any cabinets that work
abbrev pub Reach : (ℕ → Bool) → (ℕ → ℕ → Bool) → Type 0
Reach work sound =
    (P : ℕ → Bool) → ((i j : ℕ) → P i ≡ true → work i ≡ true → work j ≡ true → sound i j ≡ true → P j ≡ true)
    → (i : ℕ) → work i ≡ true → P i ≡ true → (j : ℕ) → work j ≡ true → P j ≡ true

-- it holds of the same cabinets over more links
pub reach_more : (work others : ℕ → Bool) (sound links : ℕ → ℕ → Bool) → ((c : ℕ) → work c ≡ true → others c ≡ true) → ((c : ℕ) → others c ≡ true → work c ≡ true)
    → ((c d : ℕ) → sound c d ≡ true → links c d ≡ true) → Reach work sound → Reach others links
reach_more work others sound links to from more reach P passes i wi pi j wj =
    reach P (λ x y px wx wy s. passes x y px (to x wx) (to y wy) (more x y s)) i (from i wi) pi j (from j wj)

module _ (rows : Rows) (ones : Marks) where
  path_works : (s : ℕ) → marked ones s ≡ true → {j : ℕ} → Path rows ones s j → marked ones j ≡ true
  path_works s e here = e
  path_works s e (step p l w m) = w

  module _ (work : ℕ → Bool) (marks : (i : ℕ) → marked ones i ≡ true → work i ≡ true) (back : (i j : ℕ) → mark rows i j ≡ mark rows j i)
      (P : ℕ → Bool) (passes : (i j : ℕ) → P i ≡ true → work i ≡ true → work j ≡ true → mark rows i j ≡ true → P j ≡ true) (s : ℕ) (first : marked ones s ≡ true) where
    path_on : {j : ℕ} → Path rows ones s j → P s ≡ true → P j ≡ true
    path_on here e = e
    path_on (step {i} {j} p l w m) e = passes i j (path_on p e) (marks i (path_works s first p)) (marks j w) m

    path_back : {j : ℕ} → Path rows ones s j → P j ≡ true → P s ≡ true
    path_back here e = e
    path_back (step {i} {j} p l w m) e = path_back p (passes j i e (marks j w) (marks i (path_works s first p)) (back j i ∙ m))

-- every cabinet that works is below 8 and marked, and who is marked works
pub reach_of : (rows : Rows) (ones : Marks) (work : ℕ → Bool) → connected rows ones ≡ true → ((i : ℕ) → work i ≡ true → (i < 8) × (marked ones i ≡ true))
    → ((i : ℕ) → marked ones i ≡ true → work i ≡ true) → ((i j : ℕ) → mark rows i j ≡ mark rows j i) → Reach work (mark rows)
reach_of rows ones work all has marks back P passes i wi pi j wj =
    let s = lowest ones in
    let hi = has i wi in
    let hj = has j wj in
    let l : s < 8 = omega (arith, lowest_le_marked ones i hi.1, hi.0) in
    let first = lowest_marked ones l in
    path_on rows ones work marks back P passes s first (connected_paths rows ones all j hj.0 hj.1)
    (path_back rows ones work marks back P passes s first (connected_paths rows ones all i hi.0 hi.1) pi)

-- ---- the group's rows

pub working_at : (g : Group) (i : ℕ) → i < 8 → marked (working g) i ≡ works (state_of g i)
unfolding working
working_at g zero h = refl
working_at g (suc zero) h = refl
working_at g (suc (suc zero)) h = refl
working_at g (suc (suc (suc zero))) h = refl
working_at g (suc (suc (suc (suc zero)))) h = refl
working_at g (suc (suc (suc (suc (suc zero))))) h = refl
working_at g (suc (suc (suc (suc (suc (suc zero)))))) h = refl
working_at g (suc (suc (suc (suc (suc (suc (suc zero))))))) h = refl
working_at g (suc (suc (suc (suc (suc (suc (suc (suc i)))))))) h = absurd (omega arith)

pub working_past : (g : Group) (i : ℕ) → 8 ≤ i → marked (working g) i ≡ false
unfolding working
working_past g i h = get_or-eq_default (working g) false {n = i} h

pub working_marks : (g : Group) (i : ℕ) → marked (working g) i ≡ true → works (state_of g i) ≡ true
working_marks g i e = elim (dec_lt i 8) [
  | yes l ↦ sym (working_at g i l) ∙ e
  | no n ↦ absurd (never e (working_past g i (omega arith)))
]

-- the reach check on the group's working cabinets, over links that go both ways
pub reach_group : (g : Group) (rows : Rows) → connected rows (working g) ≡ true → ((i : ℕ) → works (state_of g i) ≡ true → i < 8)
    → ((i j : ℕ) → mark rows i j ≡ mark rows j i) → Reach (λ i. works (state_of g i)) (mark rows)
reach_group g rows all below back =
    reach_of rows (working g) (λ i. works (state_of g i)) all (λ i e. (below i e, working_at g i (below i e) ∙ e)) (working_marks g) back

-- ---- links marked anew

other_default : {A : Type 0} (l : List A) (i : ℕ) (d e : A) → i < length l → get_or l i d ≡ get_or l i e
other_default [] i d e h = absurd (omega arith)
other_default (x ∷ l) zero d e h = refl
other_default (x ∷ l) (suc i) d e h = other_default l i d e (omega arith)

row_back : (rs : Rows) (i : ℕ) → i < 8 → get_or (rows_of (of_rows rs)) i [] ≡ get_or rs i no_marks
unfolding rows_of of_rows
row_back rs zero h = refl
row_back rs (suc zero) h = refl
row_back rs (suc (suc zero)) h = refl
row_back rs (suc (suc (suc zero))) h = refl
row_back rs (suc (suc (suc (suc zero)))) h = refl
row_back rs (suc (suc (suc (suc (suc zero))))) h = refl
row_back rs (suc (suc (suc (suc (suc (suc zero)))))) h = refl
row_back rs (suc (suc (suc (suc (suc (suc (suc zero))))))) h = refl
row_back rs (suc (suc (suc (suc (suc (suc (suc (suc i)))))))) h = absurd (omega arith)

row_past : (rs : Rows) (i : ℕ) → 8 ≤ i → get_or (rows_of (of_rows rs)) i [] ≡ []
unfolding rows_of of_rows
row_past rs i h = get_or-eq_default (rows_of (of_rows rs)) [] {n = i} h

pub mark_rows : (rs : Rows) → length rs ≡ 8 → (i j : ℕ) → mark (rows_of (of_rows rs)) i j ≡ mark rs i j
mark_rows rs e i j = elim (dec_lt i 8) [
  | yes l ↦ ap (λ (r : Marks). marked r j) (row_back rs i l ∙ other_default rs i no_marks [] (omega arith))
  | no n ↦ ap (λ (r : Marks). marked r j) (row_past rs i (omega arith) ∙ sym (get_or-eq_default rs [] {n = i} (omega arith)))
]

pub length_rows : (s : List Row) → length (rows_of s) ≡ 8
unfolding rows_of
length_rows s = refl

pub view_sound : (g : Group) (rs : Rows) → length rs ≡ 8 → view (with_sound g rs) ≡ set_sound (view g) (mark rs)
unfolding cabinet outgoing line with_sound
view_sound g rs e = λ t. record {
  own = (view g).own;
  side = (view g).side;
  lines = (view g).lines;
  slots = (view g).slots;
  sound = λ i j. mark_rows rs e i j t;
}
