-- Demand 3 of every moment of a run: the theorem of `claims`, for the operations before a moment and the one that comes then.
use Prim.Native.Nat.{ℕ, zero, suc, ◌≤◌, ◌<◌}
use mathlib.Core.Path.{◌≡◌, refl, sym, ap, ◌∙◌, subst}
use mathlib.Core.Bool.{Bool, true, false, cond}
use mathlib.Core.List.{List, [], ◌∷◌, map}
use lib.ListN.{length, get_or, take}
use lib.Seq.{sets}
use lib.Dec.{eqb}
use mir.Syntax.{w8}
use mir.Val.{Fits}
use borrow.Author.Tests.{eq-eqb, ne_eqb, eqb-true}
use native.Mathlib.Omega.{arith}
use native.Mathlib.Decide.{dec_lt}
use Rattle.group.specs.declared.Group.{Group}
use Rattle.group.specs.declared.Outcome.{Outcome}
use Rattle.group.specs.Group.{answering}
use Rattle.load.specs.Load.{load, cabinet_count, feeder_total}
use Rattle.protocol.specs.declared.Site.{Site}
use Rattle.protocol.specs.Listing.{parts}
use Rattle.protocol.specs.History.{Operation, stepping, pointing, returning, World, advance, run, opening, ends}
use Rattle.protocol.specs.Restored.{Restored, Octets, OctetsIn, AllOctets}
use Rattle.protocol.specs.Evening.{operate, operate_all, answers_to, no_operation}
use Rattle.claims.proofs.State.Octets.{parts_octets}
use Rattle.claims.proofs.Claims.Demand.{demand_three, same_state}
use Rattle.replay.specs.Replay.{at_first, after, replayed, answers_of, EndsWell}

-- ---- the run and the groups of it

abbrev site_of : World → Site
site_of w = record { group = w.group; points = w.points }

run_groups : (xs : List Operation) (w : World) → (run w xs).group ≡ (operate_all (site_of w) xs).group
unfolding run advance operate_all operate
run_groups [] w = refl
run_groups (stepping r ∷ xs) w = run_groups xs (advance w (stepping r))
run_groups (pointing name ∷ xs) w = run_groups xs (advance w (pointing name))
run_groups (returning name ∷ xs) w = run_groups xs (advance w (returning name))

-- one operation more
next_moment : (m : ℕ) (xs : List Operation) (w : World)
    → (length xs ≤ m → run w (take (suc m) xs) ≡ run w (take m xs)) × (m < length xs → run w (take (suc m) xs) ≡ advance (run w (take m xs)) (get_or xs m no_operation))
unfolding run
next_moment m [] w = ((λ h. none m), (λ h. absurd (omega arith)))
  where
    none : (m : ℕ) → run w (take (suc m) []) ≡ run w (take m [])
    none zero = refl
    none (suc m) = refl
next_moment zero (x ∷ xs) w = ((λ h. absurd (omega arith)), (λ h. refl))
next_moment (suc m) (x ∷ xs) w =
    let ih = next_moment m xs (advance w x) in
    ((λ h. ih.0 (omega arith)), (λ h. ih.1 (omega arith)))

-- ---- octets

-- what the machine holds in a slice of octets
typed : (l : List ℕ) → ((i : ℕ) → Fits w8 (get_or l i 0)) → Octets l
typed l h i = omega (arith, h i)

-- of the operations that the parts of a list stand for
module _ (f : List ℕ → Operation) (each : (r : List ℕ) → Octets r → OctetsIn (f r)) (w : ℕ) where
  pub all_octets : (n : ℕ) (l : List ℕ) → ((i : ℕ) → Fits w8 (get_or l i 0)) → AllOctets (map f (parts w n l))
  all_octets n l in_List = parts_octets f each w n l (typed l in_List)

octets_before : (m : ℕ) (xs : List Operation) → AllOctets xs → AllOctets (take m xs)
octets_before zero xs o = tt
octets_before (suc m) [] o = tt
octets_before (suc m) (x ∷ xs) o = (o.0, octets_before m xs o.1)

octets_at : (m : ℕ) (xs : List Operation) → AllOctets xs → OctetsIn (get_or xs m no_operation)
octets_at m [] o = λ i. omega arith
octets_at zero (x ∷ xs) o = o.0
octets_at (suc m) (x ∷ xs) o = octets_at m xs o.1

-- ---- what a function that runs a file promises

module _ (file : List ℕ) (xs : List Operation) {o : Outcome} (e : o ≡ load file) where
  taken : o.answer ≡ 0 → eqb (load file).answer 0 ≡ true
  taken z = eq-eqb (load file).answer 0 (sym (ap (λ (x : Outcome). x.answer) e) ∙ z)

  left : (o.answer ≡ 0 → ⊥) → eqb (load file).answer 0 ≡ false
  left n = ne_eqb (load file).answer 0 (λ z. n (ap (λ (x : Outcome). x.answer) e ∙ z))

  pub accepted : {g : Group} → o.answer ≡ 0 → g ≡ (operate_all (at_first o.group) xs).group → answering 0 g ≡ replayed file xs
  accepted z q =
      rw (taken z) (ap (answering 0) (q ∙ ap (λ (x : Outcome). (operate_all (at_first x.group) xs).group) e ∙ sym (run_groups xs (opening (load file).group))))

  pub answered : (before : List ℕ) {after : List ℕ} → o.answer ≡ 0 → after ≡ sets before 0 (answers_to (at_first o.group) xs)
      → after ≡ sets before 0 (answers_of file xs)
  answered before z q = rw (taken z, ← e) q

  pub refused : (o.answer ≡ 0 → ⊥) → o ≡ replayed file xs
  refused n = rw (left n) e

  pub unanswered : (buffer : List ℕ) → (o.answer ≡ 0 → ⊥) → buffer ≡ sets buffer 0 (answers_of file xs)
  unanswered buffer n = rw (left n)

-- ---- what its result says

same_answer : (file : List ℕ) (xs : List Operation) → (replayed file xs).answer ≡ (load file).answer
same_answer file xs = go (eqb (load file).answer 0) refl
  where
    go : (t : Bool) → eqb (load file).answer 0 ≡ t → (cond t (answering 0 (run (opening (load file).group) xs).group) (load file)).answer ≡ (load file).answer
    go true e = sym (eqb-true (load file).answer 0 e)
    go false e = refl

module _ (file : List ℕ) (xs : List Operation) {o : Outcome} (e : o ≡ replayed file xs) where
  -- the answer of the whole is that of load
  pub answer_of : o.answer ≡ (load file).answer
  answer_of = ap (λ (x : Outcome). x.answer) e ∙ same_answer file xs

  pub loaded : o.answer ≡ 0 → eqb (load file).answer 0 ≡ true
  loaded z = eq-eqb (load file).answer 0 (sym answer_of ∙ z)

  pub unloaded : (o.answer ≡ 0 → ⊥) → eqb (load file).answer 0 ≡ false
  unloaded n = ne_eqb (load file).answer 0 (λ q. n (answer_of ∙ q))

  -- and where that is 0, the group is that after the last operation
  pub group_of : o.answer ≡ 0 → o.group ≡ (operate_all (at_first (load file).group) xs).group
  group_of z = ap (λ (x : Outcome). x.group) (rw (loaded z) at e) ∙ run_groups xs (opening (load file).group)

-- ---- demand 3

pub ends_well : (file : List ℕ) → ((i : ℕ) → Fits w8 (get_or file i 0)) → (xs : List Operation) → AllOctets xs → (load file).answer ≡ 0 → EndsWell file xs
ends_well file in_file xs octets e m j v en =
    let moments = next_moment m xs (opening (load file).group) in
    elim (dec_lt m (length xs)) [
      | yes l ↦
          subst (λ (w : World). Restored (cabinet_count file) (feeder_total file) w.history w.group) (sym (moments.1 l))
          (demand_three file (typed file in_file) e (take m xs) (octets_before m xs octets) (get_or xs m no_operation) (octets_at m xs octets) j v
          (subst (λ (w : World). ends (after file xs m).group w.group j ≡ true) (moments.1 l) en))
      | no n ↦
          absurd (same_state (after file xs m).group j (subst (λ (w : World). ends (after file xs m).group w.group j ≡ true) (moments.0 (omega arith)) en))
    ]
