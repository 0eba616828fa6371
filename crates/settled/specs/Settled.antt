-- Document 02, card 8: "Which word settled it?" The note that a group keeps of it: who entered recovering first, and why.
use Rattle.std.specs.Prelude.{ℕ, Bool, true, false, cond, ◌||◌, Option, None, Some}
use Rattle.state.specs.declared.State.{State}
use Rattle.state.specs.declared.State.TheVariants.{CheckpBegin, Checkpointing}
use Rattle.state.specs.State.{is_in}
use Rattle.settled.specs.declared.Reason.{Reason}
use Rattle.settled.specs.declared.Reason.TheVariants.{Led, Unfinished, InNormal, Decided}
use Rattle.settled.specs.declared.First.{First}

-- the first of the latest recovery in which a cabinet has entered recovering, if there was one
abbrev pub Settled : Type 0
Settled = Option First

-- "R its reason, 1 to 4: it was coordinator before the fault and knew, it was in a save with pieces unfinished, it was in normal, or it
-- decided under the unsure rule"
abbrev pub number_of : Reason → ℕ
number_of Led = 1
number_of Unfinished = 2
number_of InNormal = 3
number_of Decided = 4

-- "in a save with pieces unfinished": from its begin to its last piece
abbrev pub unfinished : State → Bool
unfinished s = is_in s CheckpBegin || is_in s Checkpointing

-- "The first that fits, in that order", of a cabinet that knows its version as it enters error: so it decides nothing, and past its last piece
-- only a coordinator knows (`claims.Word.WordOfHistory` says that nothing else comes)
abbrev pub reason_of : Bool → State → Reason
reason_of leads s = cond leads Led (cond (unfinished s) Unfinished InNormal)

abbrev pub first_of : ℕ → Reason → First
first_of i r = record { cabinet = i; reason = r; going = true }

-- "I is the first cabinet that entered recovering": nobody who enters while the recovery goes on
abbrev pub enters : Settled → ℕ → Reason → Settled
enters None i r = Some (first_of i r)
enters (Some f) i r = cond f.going (Some f) (Some (first_of i r))

-- "The latest recovery in which one has entered is meant": over its end the first one stays
abbrev pub ends : Settled → Settled
ends None = None
ends (Some f) = Some (record { cabinet = f.cabinet; reason = f.reason; going = false })
