-- How long the octets of lines and of a cabinet are.
use Rattle.std.proofs.Common.{ℕ, zero, suc, ◌*◌, ◌≤◌, Bool, true, false, cond, [], ◌∷◌, length, arith, length-append}
use Rattle.packet.specs.declared.Packet.{Packet}
use Rattle.packet.specs.declared.Packet.TheVariants.{Empty, Normal, Checkp, Resume, Recover, Fault, Invalid}
use Rattle.line.specs.declared.Line.{Line}
use Rattle.line.specs.Line.{packet_at}
use Rattle.outgoing.specs.declared.Outgoing.{Outgoing}
use Rattle.outgoing.specs.Lines.{line_to}
use Rattle.state.specs.State.{works}
use Rattle.cabinet.specs.declared.Cabinet.{Cabinet}
use Rattle.group.specs.declared.Group.{Group}
use Rattle.group.specs.Group.{outgoing}
use Rattle.layout.specs.Layout.{packet_octets, packets_to, line_octets, lines_to, lines_from, detail_octets, cabinet_octets}

-- ---- lines: twelve packets of at most four octets each, and the octet 0

packet_length : (p : Packet) → length (packet_octets p) ≤ 4
unfolding packet_octets
packet_length Empty = omega arith
packet_length (Normal p) = omega arith
packet_length (Checkp v) = omega arith
packet_length Resume = omega arith
packet_length (Recover v) = omega arith
packet_length (Fault p) = omega arith
packet_length Invalid = omega arith

packets_length : (k : ℕ) (l : Line) → length (packets_to k l) ≤ 4 * k
packets_length zero l = omega arith
packets_length (suc k) l = rw (length-append (packets_to k l) (packet_octets (packet_at l k))) (omega (arith, packets_length k l, packet_length (packet_at l k)))

pub line_length : (l : Line) → length (line_octets l) ≤ 49
unfolding line_octets
line_length l = rw (length-append (packets_to 12 l) (0 ∷ [])) (omega (arith, packets_length 12 l))

lines_to_length : (n : ℕ) (o : Outgoing) → length (lines_to n o) ≤ 49 * n
lines_to_length zero o = omega arith
lines_to_length (suc n) o = rw (length-append (lines_to n o) (line_octets (line_to o n))) (omega (arith, lines_to_length n o, line_length (line_to o n)))

-- the lines from the first a of n cabinets
lines_from_length : (a n : ℕ) (g : Group) → length (lines_from a n g) ≤ 49 * (a * n)
lines_from_length zero n g = omega arith
lines_from_length (suc a) n g = rw (length-append (lines_from a n g) (lines_to n (outgoing g a))) (omega (arith, lines_from_length a n g, lines_to_length n (outgoing g a)))

pub lines_length : (n : ℕ) (g : Group) → length (lines_from n n g) ≤ 49 * (n * n)
lines_length n g = lines_from_length n n g

-- ---- a cabinet

-- what is told of a cabinet that works, or nothing
rest_length : (b : Bool) (c : Cabinet) (h : ℕ) → length (cond b (detail_octets c h) []) ≤ 13
unfolding detail_octets
rest_length true c h = omega arith
rest_length false c h = omega arith

pub cabinet_length : (c : Cabinet) (h did : ℕ) → length (cabinet_octets c h did) ≤ 15
unfolding cabinet_octets
cabinet_length c h did = omega (arith, rest_length (works c.phase.state) c h)
