-- What a cabinet does with a packet that it takes over a line in use, by the packet and its own state.
-- `before` is the group with the packet still in the line: a crash changes nothing but states, so it starts from there.
use Rattle.std.specs.Prelude.{ℕ, Bool, true, false, cond, not, ◌&&◌, ◌||◌, get_or, eqb}
use Rattle.marks.specs.Marks.{marked}
use Rattle.packet.specs.declared.Payload.{Payload}
use Rattle.packet.specs.declared.Check.{Check}
use Rattle.packet.specs.declared.Place.{Place}
use Rattle.packet.specs.declared.Packet.{Packet}
use Rattle.packet.specs.declared.Packet.TheVariants.{Empty, Normal as NormalPacket, Checkp, Resume, Recover, Fault, Invalid}
use Rattle.packet.specs.Packet.{start_check, same_check, fits}
use Rattle.state.specs.declared.State.{State}
use Rattle.state.specs.declared.State.TheVariants.{Normal, CheckpBegin, Checkpointed, Error, Recovered}
use Rattle.cabinet.specs.declared.Cabinet.{Cabinet}
use Rattle.group.specs.declared.Group.{Group}
use Rattle.group.specs.declared.Outcome.{Outcome}
use Rattle.cabinet.specs.Alarm.{is_for}
use Rattle.state.specs.State.{is_in, in_saving, in_recovery}
use Rattle.cabinet.specs.Cabinet.{coordinator, taking}
use Rattle.group.specs.Group.{cabinet, with_cabinet, state_of, taken, crashed}
use Rattle.protocol.specs.Moves.{join, take_checkp, adopt, recover_with, enter_error, hear, find_link_fault, end_recovery}

-- in normal or one of the three saving states
abbrev pub serving : State → Bool
serving s = is_in s Normal || (is_in s CheckpBegin || in_saving s)

-- "In checkp-begin, normal packets are taken from neighbours whose checkp has not come"
abbrev pub takes_from : Cabinet → ℕ → Bool
takes_from c a = is_in c.phase.state Normal || (is_in c.phase.state CheckpBegin && not (marked c.noted.come a))

-- document 02, card 7: "The receiver compares on taking it": so one whose check does not fit is not taken
abbrev pub takes : Cabinet → ℕ → Payload → Bool
takes c a p = takes_from c a && fits p

-- ".. one from another neighbour, or any normal packet in checkpointing or checkpointed, is a link fault"; "inequality is a link fault then
-- and there, its amount not added"
unfoldable pub receive_normal : Group → Group → ℕ → ℕ → Payload → Outcome
receive_normal before g a b p =
    cond (takes (cabinet g b) a p) (taken (with_cabinet g b (taking (cabinet g b) a p)))
    (cond (serving (state_of g b)) (find_link_fault before g a b) (taken g))

-- "A cabinet in normal that receives checkp compares first, then does the same."
abbrev pub join_if : Bool → Group → ℕ → Group
join_if true g b = join g b
join_if false g b = g

-- "Every checkp is compared when taken in these two states; unequal values mean a link fault."
unfoldable pub receive_checkp : Group → Group → ℕ → ℕ → Check → Outcome
receive_checkp before g a b v =
    cond (is_in (state_of g b) Normal || is_in (state_of g b) CheckpBegin)
    (cond (same_check v (get_or (cabinet g b).registers.taken a start_check))
    (taken (take_checkp (join_if (is_in (state_of g b) Normal) g b) a b))
    (find_link_fault before g a b))
    (taken g)

-- "everything from a neighbour is dropped until its fault packet has come"; a coordinator ends no recovery on resume
abbrev pub resumes_from : Cabinet → ℕ → ℕ → Bool
resumes_from c a b = is_in c.phase.state Recovered && (marked c.noted.heard a && not (eqb (coordinator c) b))

-- resume is taken in checkpointed and in recovered
unfoldable pub receive_resume : Group → ℕ → ℕ → Outcome
receive_resume g a b =
    cond (is_in (state_of g b) Checkpointed) (taken (adopt g a b))
    (cond (resumes_from (cabinet g b) a b) (taken (end_recovery g b)) (taken g))

-- "If unknown, stay in error until recover comes"
unfoldable pub receive_recover : Group → ℕ → ℕ → Bool → Outcome
receive_recover g a b v =
    cond (is_in (state_of g b) Error && marked (cabinet g b).noted.heard a) (taken (recover_with g b v)) (taken g)

-- "A cabinet in normal or a saving state that receives fault enters error for that place, and has heard that neighbour."
-- "A fault for the same place is noted; for another place it crashes the group."
unfoldable pub receive_fault : Group → Group → ℕ → ℕ → Place → Outcome
receive_fault before g a b p =
    cond (serving (state_of g b)) (taken (hear (enter_error g b p) a b))
    (cond (in_recovery (state_of g b))
    (cond (is_for (cabinet g b).phase.alarm p) (taken (hear g a b)) (crashed before))
    (taken g))

-- "An invalid packet, in normal or in the three saving states, is a link fault between sender and receiver."
unfoldable pub receive_invalid : Group → Group → ℕ → ℕ → Outcome
receive_invalid before g a b = cond (serving (state_of g b)) (find_link_fault before g a b) (taken g)

abbrev pub receive : Group → Group → ℕ → ℕ → Packet → Outcome
receive before g a b Empty = taken g
receive before g a b (NormalPacket p) = receive_normal before g a b p
receive before g a b (Checkp v) = receive_checkp before g a b v
receive before g a b Resume = receive_resume g a b
receive before g a b (Recover v) = receive_recover g a b v
receive before g a b (Fault p) = receive_fault before g a b p
receive before g a b Invalid = receive_invalid before g a b
