-- A run of one record is its step.
use Prim.Native.Nat.{ℕ, ◌≤◌, ◌<◌}
use mathlib.Core.Path.{◌≡◌, refl, ◌∙◌}
use mathlib.Core.Bool.{false}
use mathlib.Core.List.{List, [], ◌∷◌}
use native.Mathlib.Omega.{arith}
use lib.ListN.{length, get_or, drop_of_length-le}
use lib.Seq.{sets, take_all}
use borrow.Author.Tests.{ne_eqb}
use Rattle.points.specs.declared.Points.{Points}
use Rattle.group.specs.declared.Group.{Group}
use Rattle.group.specs.Group.{answering}
use Rattle.protocol.specs.Listing.{parts}
use Rattle.protocol.specs.Entry.{step}
use Rattle.protocol.specs.Evening.{operate, operate_all, answers_to}
use Rattle.steps.specs.Steps.{operations_of}
use Rattle.steps.proofs.Records.{some_part, no_octets}

one_part : (x : ℕ) (l : List ℕ) → length (x ∷ l) ≤ 6 → parts 6 (length (x ∷ l)) (x ∷ l) ≡ (x ∷ l) ∷ []
one_part x l h =
    some_part 6 (length l) (x ∷ l) (omega arith)
    ∙ rw (take_all 6 (x ∷ l) h, drop_of_length-le (x ∷ l) {i = 6} h, no_octets 6 (length l))

pub one_record : (g : Group) (ps : Points) (r : List ℕ) (d : ℕ) → length r ≤ 6
    → answering (get_or (sets (8 ∷ []) 0 (answers_to (record { group = g; points = ps }) (operations_of false r))) 0 d)
    (operate_all (record { group = g; points = ps }) (operations_of false r)).group
    ≡ step g r
unfolding operate operate_all answers_to step parts
one_record g ps [] d h = refl
one_record g ps (x ∷ l) d h = rw (one_part x l h)

-- more octets are no step record
pub too_many : (g : Group) (r : List ℕ) → 6 < length r → answering 8 g ≡ step g r
unfolding step
too_many g r h = rw (ne_eqb (length r) 6 (λ e. omega arith))
