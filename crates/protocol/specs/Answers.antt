-- Document 01, "Steps", with document 02: the refusal numbers that the papers list for each kind of step, and which of its checks refuses.
use Rattle.std.specs.Prelude.{ℕ, ◌-◌, Bool, false, ◌||◌, List, [], ◌∷◌, ◌++◌, eqb}
use Rattle.group.specs.declared.Group.{Group}
use Rattle.protocol.specs.declared.Step.{Step}
use Rattle.protocol.specs.declared.Step.TheVariants.{Send, Note, Begin, Deliver, Write, Saved, Fetch, Restored, Fail, Damage, Lose, Trip, Unsure}
use Rattle.protocol.specs.declared.Decoded.{Decoded}
use Rattle.protocol.specs.declared.Decoded.TheVariants.{Malformed, Unused, Taken}
use Rattle.protocol.specs.Kinds.{send_refusal, note_refusal, begin_refusal, deliver_refusal, write_refusal, saved_refusal, fetch_refusal, restored_refusal, damage_refusal, lose_refusal, unsure_refusal}

-- k stands in the list
abbrev pub among : ℕ → List ℕ → Bool
among k [] = false
among k (x ∷ xs) = eqb k x || among k xs

-- "12 a failed (in deliver, b failed; saved and damage skip this check)"
abbrev pub work_numbers : Step → List ℕ
work_numbers (Send a b p q) = 12 ∷ []
work_numbers (Note a p q) = 12 ∷ []
work_numbers (Begin a) = 12 ∷ []
work_numbers (Deliver a b) = 12 ∷ []
work_numbers (Write a) = 12 ∷ []
work_numbers (Saved a) = []
work_numbers (Fetch a) = 12 ∷ []
work_numbers (Restored a) = 12 ∷ []
work_numbers (Fail a) = 12 ∷ []
work_numbers (Damage a b p w) = []
work_numbers (Lose a b p) = 12 ∷ []
work_numbers (Trip a) = 12 ∷ []
work_numbers (Unsure a) = 12 ∷ []

-- the numbers under each kind
abbrev pub kind_numbers : Step → List ℕ
kind_numbers (Send a b p q) = 13 ∷ 14 ∷ 15 ∷ 16 ∷ 17 ∷ []
kind_numbers (Note a p q) = 14 ∷ 15 ∷ []
kind_numbers (Begin a) = 14 ∷ []
kind_numbers (Deliver a b) = 13 ∷ 18 ∷ []
kind_numbers (Write a) = 14 ∷ 19 ∷ []
kind_numbers (Saved a) = 19 ∷ []
kind_numbers (Fetch a) = 14 ∷ 19 ∷ []
kind_numbers (Restored a) = 14 ∷ 19 ∷ []
kind_numbers (Fail a) = []
kind_numbers (Damage a b p w) = 13 ∷ 18 ∷ 15 ∷ 20 ∷ []
kind_numbers (Lose a b p) = 13 ∷ 18 ∷ 20 ∷ []
kind_numbers (Trip a) = []
kind_numbers (Unsure a) = 14 ∷ 19 ∷ []

-- "Every step first": 8, 9, or 10 to 12 and then those of the kind
abbrev pub refusal_numbers : Decoded → List ℕ
refusal_numbers Malformed = 8 ∷ []
refusal_numbers Unused = 9 ∷ []
refusal_numbers (Taken s) = 10 ∷ 11 ∷ work_numbers s ++ kind_numbers s

-- what a kind's own checks say: 0 where the step is taken
abbrev pub kind_refusal : Group → Step → ℕ
kind_refusal g (Send a b p q) = send_refusal g (a - 1) (b - 1) p q
kind_refusal g (Note a p q) = note_refusal g (a - 1) p q
kind_refusal g (Begin a) = begin_refusal g (a - 1)
kind_refusal g (Deliver a b) = deliver_refusal g (a - 1) (b - 1)
kind_refusal g (Write a) = write_refusal g (a - 1)
kind_refusal g (Saved a) = saved_refusal g (a - 1)
kind_refusal g (Fetch a) = fetch_refusal g (a - 1)
kind_refusal g (Restored a) = restored_refusal g (a - 1)
kind_refusal g (Fail a) = 0
kind_refusal g (Damage a b p w) = damage_refusal g (a - 1) (b - 1) p w
kind_refusal g (Lose a b p) = lose_refusal g (a - 1) (b - 1) p
kind_refusal g (Trip a) = 0
kind_refusal g (Unsure a) = unsure_refusal g (a - 1)
