-- Document 02, card 9: the premises of `pairs.TwoRuns` in the pairs of runs of `protocol.Workshop`, which have a damaged workshop packet, a point and a
-- return, a trip and recoveries, in packet version 1 and in 2; and in a pair in which a home trips, comes back and its partner fails (card 10).
use Rattle.std.specs.Prelude.{ℕ, ◌≡◌, true, List, [], ◌∷◌, ◌++◌, get_or, length, replicate, take}
use Rattle.outlet.specs.declared.Outlet.TheVariants.{W}
use Rattle.image.specs.Image.{booking}
use Rattle.group.specs.declared.Group.{Group}
use Rattle.group.specs.Group.{cabinet, slot}
use Rattle.load.specs.Load.{load}
use Rattle.protocol.specs.History.{Operation, steps}
use Rattle.protocol.specs.Evening.{operate_all, answers_to}
use Rattle.protocol.specs.Restored.{Octets, AllOctets}
use Rattle.protocol.specs.Marked.{deliver}
use Rattle.protocol.specs.Partners.{file_with, committed_while_away, partner_fails_next}
use Rattle.protocol.specs.Workshop.{send_w, Twins, twins_one, twins_two}
use Rattle.pairs.specs.TwoRuns.{SameBut, SendsTaken, loaded, Agree}
use Rattle.pairs.specs.Instances.{entry_with}

abbrev pub joined : List (List Operation) → List Operation
joined [] = []
joined (p ∷ ps) = p ++ joined ps

-- the operations of the one run, and of the other
abbrev pub first_of : Twins → List Operation
first_of t = joined (t.parts (λ k. get_or t.amounts k 0))

abbrev pub second_of : Twins → List Operation
second_of t = joined (t.parts (λ k. get_or t.others k 0))

pub record Meets (t : Twins) : Type 0 where
  pub octets : Octets t.file
  pub loads : (load t.file).answer ≡ 0
  pub first : AllOctets (first_of t)
  pub second : AllOctets (second_of t)
  pub same : SameBut (first_of t) (second_of t)
  pub taken : SendsTaken (loaded t.file) (first_of t)
  pub taken_too : SendsTaken (loaded t.file) (second_of t)

-- so the theorem says of them that all answers agree, and what it names after each operation
abbrev pub AgreeIn : Twins → Type 0
AgreeIn t =
    (answers_to (loaded t.file) (first_of t) ≡ answers_to (loaded t.file) (second_of t))
    × ((k : ℕ) → Agree (operate_all (loaded t.file) (take k (first_of t))) (operate_all (loaded t.file) (take k (second_of t))))

abbrev pub TwinsAgree : Type 0
TwinsAgree = Meets twins_one × Meets twins_two × AgreeIn twins_one × AgreeIn twins_two

-- ---- a home trips, comes back, and its partner fails

-- the run of `Partners.partner_fails_next`, in which 1 sends to 2 for the workshop before the save, and 2 to 3 after it
abbrev pub twins_away : Twins
twins_away = record {
  file = file_with (entry_with 4 1 100 40000 4 ∷ entry_with 4 0 50 5 0 ∷ entry_with 4 0 20 7 0 ∷ entry_with 4 1 30 11 1 ∷ []) (1 ∷ 2 ∷ 2 ∷ 3 ∷ 3 ∷ 4 ∷ []);
  parts = λ q.
      steps (send_w 1 2 (q 0) ∷ deliver 1 2 ∷ committed_while_away ++ send_w 2 3 (q 1) ∷ [])
      ∷ partner_fails_next.since ∷ (partner_fails_next.last ∷ []) ∷ [];
  amounts = 40000 ∷ 30000 ∷ [];
  others = 1 ∷ 2 ∷ [];
}

-- the workshop's booking of 2 in the slot of the save, as 4 has it and as 1 has it, and in its image; the group is handed on, so that it is computed
-- once
abbrev pub workshop_in : Group → List ℕ
workshop_in g = booking W (slot g 3 1 true) ∷ booking W (slot g 0 1 true) ∷ booking W (cabinet g 1).image ∷ []

-- every operation is taken. 4 took what went to 1 alone while it was away, and 2 has it back from 4 when 1 has failed: in each run its own
abbrev pub AwayAgree : Type 0
AwayAgree =
    Meets twins_away × AgreeIn twins_away
    × (answers_to (loaded twins_away.file) (first_of twins_away) ≡ replicate (length (first_of twins_away)) 0)
    × (workshop_in (operate_all (loaded twins_away.file) (first_of twins_away)).group ≡ 40005 ∷ 40005 ∷ 40005 ∷ [])
    × (workshop_in (operate_all (loaded twins_away.file) (second_of twins_away)).group ≡ 6 ∷ 6 ∷ 6 ∷ [])
