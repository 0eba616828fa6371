-- The moves of `protocol` that one cabinet makes, on the cabinet and its outgoing lines. That each, stored back, is the move of the group is
-- proved in proofs/Stored.antt.
use Rattle.std.specs.Prelude.{ℕ, Bool}
use Rattle.packet.specs.declared.Place.{Place}
use Rattle.packet.specs.declared.Packet.{Packet}
use Rattle.packet.specs.declared.Packet.TheVariants.{Resume, Recover, Fault}
use Rattle.state.specs.declared.Version.{Version}
use Rattle.state.specs.declared.Version.TheVariants.{Known, Unknown, Lost}
use Rattle.state.specs.State.{flipped}
use Rattle.settled.specs.declared.Reason.{Reason}
use Rattle.settled.specs.Settled.{Settled}
use Rattle.settled.specs.Settled.{enters}
use Rattle.cabinet.specs.declared.Cabinet.{Cabinet}
use Rattle.cabinet.specs.Cabinet.{in_use, beginning, cutting, resuming, recovering, alarmed}
use Rattle.outgoing.specs.Lines.{empty_lines, put_all, put_checkps}
use Rattle.seat.specs.declared.Seat.{Seat}
use Rattle.seat.specs.Seat.{with_seat_cabinet, with_seat_lines}
use Rattle.protocol.specs.Moves.{reason_for}

-- a packet on all lines in use
unfoldable pub broadcast : Seat → Packet → Seat
broadcast s p = with_seat_lines s (put_all (in_use s.cabinet) p s.lines)

-- ---- saving

-- join: "enters checkp-begin and puts checkp on all lines in use"
unfoldable pub join : Seat → Seat
join s =
    with_seat_lines (with_seat_cabinet s (beginning s.cabinet))
    (put_checkps (in_use s.cabinet) s.cabinet.registers.sent s.lines)

-- cut: if the checkps of all neighbours in use have come, the cabinet enters checkpointing
unfoldable pub cut_if_all : Seat → Seat
cut_if_all s = with_seat_cabinet s (cutting s.cabinet)

-- enter normal with a version, and put resume on all lines in use
unfoldable pub resume_with : Seat → Version → Seat
resume_with s v = broadcast (with_seat_cabinet s (resuming s.cabinet v)) Resume

-- commit: "it flips its version, enters normal and puts resume everywhere"
unfoldable pub commit : Seat → Seat
commit s = resume_with s (flipped s.cabinet.phase.version)

-- ---- failing and recovering

-- go on with a known version: "put recover with it and enter recovering"
unfoldable pub recover_with : Seat → Bool → Seat
recover_with s v = broadcast (with_seat_cabinet s (recovering s.cabinet v)) (Recover v)

-- .. "If the version is known"
abbrev pub recover_if_known : Seat → Version → Seat
recover_if_known s (Known v) = recover_with s v
recover_if_known s (Unknown v) = s
recover_if_known s Lost = s

-- enter error: strike, empty every outgoing line, forget, put fault; "If the version is known, put recover with it"
unfoldable pub raise : Seat → ℕ → Place → Seat
raise s i p = broadcast (with_seat_lines (with_seat_cabinet s (alarmed s.cabinet i p)) empty_lines) (Fault p)

unfoldable pub enter_error : Seat → ℕ → Place → Seat
enter_error s i p = recover_if_known (raise s i p) s.cabinet.phase.version

-- .. and by this word of its own the cabinet may settle the recovery (document 02, card 8)
abbrev pub word_if_known : Version → Settled → ℕ → Reason → Settled
word_if_known (Known v) x i r = enters x i r
word_if_known (Unknown v) x i r = x
word_if_known Lost x i r = x

-- c is cabinet i before it enters error
unfoldable pub word_by : Settled → Cabinet → ℕ → Settled
word_by x c i = word_if_known c.phase.version x i (reason_for c i)

-- end the recovery: "it enters normal and puts resume on all lines in use"
unfoldable pub end_recovery : Seat → Seat
end_recovery s = resume_with s s.cabinet.phase.version
