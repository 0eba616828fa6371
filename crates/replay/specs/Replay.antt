-- The run of a file and a list of operations, what these are answered, and demand 3 of every moment of it.
use Rattle.std.specs.Prelude.{ℕ, suc, ◌≡◌, true, cond, List, [], length, take, eqb}
use Rattle.points.specs.Points.{no_points}
use Rattle.group.specs.declared.Group.{Group}
use Rattle.group.specs.declared.Outcome.{Outcome}
use Rattle.state.specs.State.{works}
use Rattle.group.specs.Group.{state_of, answering}
use Rattle.load.specs.Load.{load, cabinet_count, feeder_total}
use Rattle.protocol.specs.declared.Site.{Site}
use Rattle.protocol.specs.Listing.{records}
use Rattle.protocol.specs.History.{Operation, World, ends}
use Rattle.protocol.specs.Restored.{Restored, world_after}
use Rattle.protocol.specs.Evening.{answers_to}

-- all records of a list: six octets each, and a short last one counts
abbrev pub records_in : List ℕ → List (List ℕ)
records_in list = records (length list) list

-- a group as loaded: it has no points
abbrev pub at_first : Group → Site
at_first g = record { group = g; points = no_points }

-- the group, its points and its history after the first m of the operations xs
abbrev pub after : List ℕ → List Operation → ℕ → World
after file xs m = world_after file (take m xs)

-- what load answers, and where it answers 0 the group after the last operation
abbrev pub replayed : List ℕ → List Operation → Outcome
replayed file xs = cond (eqb (load file).answer 0) (answering 0 (world_after file xs).group) (load file)

-- what the operations are answered; none is made where load refuses
abbrev pub answers_of : List ℕ → List Operation → List ℕ
answers_of file xs = cond (eqb (load file).answer 0) (answers_to (at_first (load file).group) xs) []

-- demand 3, whichever operation it is in which the coordinator of a working cabinet j ends a recovery
abbrev pub EndsWell : List ℕ → List Operation → Type 0
EndsWell file xs =
    (m j : ℕ) → works (state_of (after file xs m).group j) ≡ true → ends (after file xs m).group (after file xs (suc m)).group j ≡ true
    → Restored (cabinet_count file) (feeder_total file) (after file xs (suc m)).history (after file xs (suc m)).group
