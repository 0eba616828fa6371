-- Deliver, on the line from a to b and on b's cabinet and lines: what b finds at the packet, and what it does where it finds nothing. That it is,
-- stored back, the step of the group is proved in proofs/Stored.antt.
use Rattle.std.specs.Prelude.{ℕ, Bool, true, false, cond, not}
use Rattle.marks.specs.Marks.{marked}
use Rattle.packet.specs.declared.Packet.{Packet}
use Rattle.packet.specs.declared.Packet.TheVariants.{Empty, Normal as NormalPacket, Checkp, Resume, Recover, Fault, Invalid}
use Rattle.packet.specs.Packet.{is_empty}
use Rattle.line.specs.declared.Line.{Line}
use Rattle.line.specs.Line.{oldest, rest}
use Rattle.settled.specs.Settled.{Settled}
use Rattle.cabinet.specs.declared.Cabinet.{Cabinet}
use Rattle.cabinet.specs.Cabinet.{in_use}
use Rattle.seat.specs.declared.Seat.{Seat}
use Rattle.seat.specs.declared.SpotAnswer.{SpotAnswer}
use Rattle.seat.specs.Seat.{spot}
use Rattle.protocol.specs.Kinds.{need}
use Rattle.linkcheck.specs.Linkcheck.{normal_faulty, normal_taken, checkp_faulty, checkp_taken, invalid_faulty}
use Rattle.signals.specs.Signals.{resume_taken, recover_taken, fault_crashes, fault_taken, fault_word}
use Rattle.delivery.specs.declared.Finding.{Finding}
use Rattle.delivery.specs.declared.Finding.TheVariants.{Fine, LinkFault, Crash}

abbrev pub deliver_refusal : Bool → Line → ℕ
deliver_refusal linked l = need linked 13 (need (not (is_empty (oldest l))) 18 0)

-- ---- what is found at the packet

abbrev pub fault_if : Bool → Finding
fault_if found = cond found LinkFault Fine

abbrev pub crash_if : Bool → Finding
crash_if found = cond found Crash Fine

abbrev pub finding_by : Cabinet → ℕ → Packet → Finding
finding_by c a Empty = Fine
finding_by c a (NormalPacket p) = fault_if (normal_faulty c a p)
finding_by c a (Checkp v) = fault_if (checkp_faulty c a v)
finding_by c a Resume = Fine
finding_by c a (Recover v) = Fine
finding_by c a (Fault p) = crash_if (fault_crashes c p)
finding_by c a Invalid = fault_if (invalid_faulty c)

-- "Over a link struck at b it is dropped."
unfoldable pub finding : Cabinet → ℕ → Packet → Finding
finding c a p = cond (marked (in_use c) a) (finding_by c a p) Fine

-- ---- what b does with it

-- the packets at which a cabinet may put packets on lines of its own
abbrev pub is_signal : Packet → Bool
is_signal Empty = false
is_signal (NormalPacket p) = false
is_signal (Checkp v) = true
is_signal Resume = true
is_signal (Recover v) = true
is_signal (Fault p) = true
is_signal Invalid = false

-- with one that is no signal
abbrev pub taken_by : Cabinet → ℕ → Packet → Cabinet
taken_by c a Empty = c
taken_by c a (NormalPacket p) = normal_taken c a p
taken_by c a (Checkp v) = c
taken_by c a Resume = c
taken_by c a (Recover v) = c
taken_by c a (Fault p) = c
taken_by c a Invalid = c

unfoldable pub take : Cabinet → Line → ℕ → SpotAnswer
take c l a = spot 0 (cond (marked (in_use c) a) (taken_by c a (oldest l)) c) (rest l)

-- with a signal
abbrev pub heard_by : Seat → ℕ → ℕ → Packet → Seat
heard_by s a b Empty = s
heard_by s a b (NormalPacket p) = s
heard_by s a b (Checkp v) = checkp_taken s a
heard_by s a b Resume = resume_taken s a b
heard_by s a b (Recover v) = recover_taken s a v
heard_by s a b (Fault p) = fault_taken s a b p
heard_by s a b Invalid = s

unfoldable pub hear : Seat → ℕ → ℕ → Packet → Seat
hear s a b p = cond (marked (in_use s.cabinet) a) (heard_by s a b p) s

-- ---- which word settles the recovery then; cabinet b is c before it

abbrev pub word_from : Settled → Cabinet → ℕ → Packet → Settled
word_from x c b Empty = x
word_from x c b (NormalPacket p) = x
word_from x c b (Checkp v) = x
word_from x c b Resume = x
word_from x c b (Recover v) = x
word_from x c b (Fault p) = fault_word x c b
word_from x c b Invalid = x

unfoldable pub word_after : Settled → Cabinet → ℕ → ℕ → Packet → Settled
word_after x c a b p = cond (marked (in_use c) a) (word_from x c b p) x
