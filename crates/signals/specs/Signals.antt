-- What a cabinet does with resume, recover and fault, on the cabinet and its lines.
use Rattle.std.specs.Prelude.{ℕ, Bool, false, cond, not, ◌&&◌, set}
use Rattle.marks.specs.Marks.{marked}
use Rattle.packet.specs.declared.Place.{Place}
use Rattle.packet.specs.declared.Packet.TheVariants.{Resume}
use Rattle.state.specs.declared.State.TheVariants.{Checkpointed, Error}
use Rattle.state.specs.State.{is_in, in_recovery, adopted}
use Rattle.settled.specs.Settled.{Settled}
use Rattle.cabinet.specs.declared.Cabinet.{Cabinet}
use Rattle.cabinet.specs.Alarm.{is_for}
use Rattle.cabinet.specs.Cabinet.{in_use, resuming, hearing}
use Rattle.outgoing.specs.Lines.{put_all}
use Rattle.seat.specs.declared.Seat.{Seat}
use Rattle.seat.specs.Seat.{with_seat_cabinet, with_seat_lines}
use Rattle.protocol.specs.Receive.{serving, resumes_from}
use Rattle.moves.specs.Seats.{recover_with, enter_error, word_by, end_recovery}

-- ---- resume

-- in checkpointed: "sets version to 1 − old, enters normal and puts resume on its other lines"
unfoldable pub adopt : Seat → ℕ → Seat
adopt s a =
    with_seat_lines (with_seat_cabinet s (resuming s.cabinet (adopted s.cabinet.phase.version)))
    (put_all (set (in_use s.cabinet) a false) Resume s.lines)

-- resume is taken in checkpointed and in recovered
unfoldable pub resume_taken : Seat → ℕ → ℕ → Seat
resume_taken s a b =
    cond (is_in s.cabinet.phase.state Checkpointed) (adopt s a) (cond (resumes_from s.cabinet a b) (end_recovery s) s)

-- ---- recover

-- "If unknown, stay in error until recover comes"
unfoldable pub recover_taken : Seat → ℕ → Bool → Seat
recover_taken s a v = cond (is_in s.cabinet.phase.state Error && marked s.cabinet.noted.heard a) (recover_with s v) s

-- ---- fault

-- the cabinet has had a's fault packet
unfoldable pub hear : Seat → ℕ → Seat
hear s a = with_seat_cabinet s (hearing s.cabinet a)

-- "A fault for the same place is noted; for another place it crashes the group."
unfoldable pub fault_crashes : Cabinet → Place → Bool
fault_crashes c p = in_recovery c.phase.state && not (is_for c.phase.alarm p)

-- "A cabinet in normal or a saving state that receives fault enters error for that place, and has heard that neighbour."
unfoldable pub fault_taken : Seat → ℕ → ℕ → Place → Seat
fault_taken s a b p =
    cond (serving s.cabinet.phase.state) (hear (enter_error s b p) a) (cond (in_recovery s.cabinet.phase.state) (hear s a) s)

-- .. and by its word it may settle the recovery; cabinet b is c before it
unfoldable pub fault_word : Settled → Cabinet → ℕ → Settled
fault_word x c b = cond (serving c.phase.state) (word_by x c b) x
