-- Checks 10 to 12, on the number of cabinets, on whether the group is crashed, and on the two cabinets that a step names.
use Rattle.std.specs.Prelude.{ℕ, Bool, true, not, ◌&&◌, leb}
use Rattle.state.specs.State.{works}
use Rattle.cabinet.specs.declared.Cabinet.{Cabinet}
use Rattle.protocol.specs.declared.Step.{Step}
use Rattle.protocol.specs.declared.Step.TheVariants.{Send, Note, Begin, Deliver, Write, Saved, Fetch, Restored, Fail, Damage, Lose, Trip, Unsure}
use Rattle.protocol.specs.Kinds.{need}
use Rattle.protocol.specs.Entry.{first_of, second_of}

-- "12 a failed (in deliver, b failed; saved and damage skip this check)", by whether the first and the second that a step names work
abbrev pub actor_works_of : Step → Bool → Bool → Bool
actor_works_of (Send a b p q) first second = first
actor_works_of (Note a p q) first second = first
actor_works_of (Begin a) first second = first
actor_works_of (Deliver a b) first second = second
actor_works_of (Write a) first second = first
actor_works_of (Saved a) first second = true
actor_works_of (Fetch a) first second = first
actor_works_of (Restored a) first second = first
actor_works_of (Fail a) first second = first
actor_works_of (Damage a b p w) first second = true
actor_works_of (Lose a b p) first second = first
actor_works_of (Trip a) first second = first
actor_works_of (Unsure a) first second = first

-- "cabinets, numbered 1 to n"
abbrev pub is_cabinet_of : ℕ → ℕ → Bool
is_cabinet_of n a = leb 1 a && leb a n

abbrev pub entry_refusal_of : ℕ → Bool → Step → Cabinet → Cabinet → ℕ
entry_refusal_of n crashed s c d =
    need (not crashed) 10
    (need (is_cabinet_of n (first_of s) && is_cabinet_of n (second_of s)) 11
    (need (actor_works_of s (works c.phase.state) (works d.phase.state)) 12 0))
