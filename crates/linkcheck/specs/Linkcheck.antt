-- What a cabinet does with a normal packet, a checkp and an invalid one, on the cabinet and its lines: whether it finds a link fault, and what
-- it does where it finds none.
use Rattle.std.specs.Prelude.{ℕ, Bool, cond, not, ◌&&◌, ◌||◌, get_or}
use Rattle.packet.specs.declared.Payload.{Payload}
use Rattle.packet.specs.declared.Check.{Check}
use Rattle.packet.specs.Packet.{start_check, same_check}
use Rattle.line.specs.Line.{rest}
use Rattle.state.specs.declared.State.{State}
use Rattle.state.specs.declared.State.TheVariants.{Normal, CheckpBegin}
use Rattle.state.specs.State.{is_in}
use Rattle.cabinet.specs.declared.Cabinet.{Cabinet}
use Rattle.cabinet.specs.Cabinet.{taking, comparing, cutting}
use Rattle.group.specs.declared.Group.{Group}
use Rattle.group.specs.declared.Outcome.{Outcome}
use Rattle.group.specs.Group.{line, with_line}
use Rattle.seat.specs.declared.Seat.{Seat}
use Rattle.seat.specs.Seat.{with_seat_cabinet}
use Rattle.protocol.specs.Moves.{find_link_fault}
use Rattle.protocol.specs.Receive.{serving, takes}
use Rattle.moves.specs.Seats.{join}

-- a link fault found at b at the oldest packet of the line from a, which leaves the line; a crash starts from the group before
unfoldable pub link_fault : Group → ℕ → ℕ → Outcome
link_fault g a b = find_link_fault g (with_line g a b (rest (line g a b))) a b

-- ---- a normal packet

-- ".. one from another neighbour, or any normal packet in checkpointing or checkpointed, is a link fault"; "inequality is a link fault then
-- and there, its amount not added"
unfoldable pub normal_faulty : Cabinet → ℕ → Payload → Bool
normal_faulty c a p = not (takes c a p) && serving c.phase.state

unfoldable pub normal_taken : Cabinet → ℕ → Payload → Cabinet
normal_taken c a p = cond (takes c a p) (taking c a p) c

-- ---- a checkp

-- "Every checkp is compared when taken in these two states; unequal values mean a link fault."
abbrev pub compares : State → Bool
compares s = is_in s Normal || is_in s CheckpBegin

unfoldable pub checkp_faulty : Cabinet → ℕ → Check → Bool
checkp_faulty c a v = compares c.phase.state && not (same_check v (get_or c.registers.taken a start_check))

-- take checkp: an equal comparison with the checkp from a
unfoldable pub take_checkp : Seat → ℕ → Seat
take_checkp s a = with_seat_cabinet s (cutting (comparing s.cabinet a))

-- "A cabinet in normal that receives checkp compares first, then does the same."
abbrev pub join_if : Bool → Seat → Seat
join_if asked s = cond asked (join s) s

unfoldable pub checkp_taken : Seat → ℕ → Seat
checkp_taken s a =
    cond (compares s.cabinet.phase.state) (take_checkp (join_if (is_in s.cabinet.phase.state Normal) s) a) s

-- ---- an invalid packet

-- "An invalid packet, in normal or in the three saving states, is a link fault between sender and receiver."
abbrev pub invalid_faulty : Cabinet → Bool
invalid_faulty c = serving c.phase.state
