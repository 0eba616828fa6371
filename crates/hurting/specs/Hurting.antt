-- Damage and lose, on the line from a and on c, the cabinet at its end. That each, stored back, is the step of the group is proved in
-- proofs/Stored.antt.
use Rattle.std.specs.Prelude.{ℕ, Bool, cond, not, ◌&&◌}
use Rattle.marks.specs.Marks.{marked}
use Rattle.packet.specs.declared.Pattern.{Pattern}
use Rattle.packet.specs.declared.Packet.{Packet}
use Rattle.packet.specs.declared.PacketVersion.{PacketVersion}
use Rattle.packet.specs.Packet.{is_empty, is_normal, pattern_right, damaged}
use Rattle.line.specs.declared.Line.{Line}
use Rattle.line.specs.Line.{packet_at, replaced, without}
use Rattle.cabinet.specs.declared.Cabinet.{Cabinet}
use Rattle.cabinet.specs.Cabinet.{hurt_from}
use Rattle.seat.specs.declared.SpotAnswer.{SpotAnswer}
use Rattle.seat.specs.Seat.{spot}
use Rattle.protocol.specs.Kinds.{need}

-- ---- what damage and loss share

-- "a normal packet of that line was hurt since the receiver's register restarted", damaged or lost: it may be once
abbrev pub hurt_already : Cabinet → ℕ → Packet → Bool
hurt_already c a p = is_normal p && marked c.registers.hurt a

-- "One hurt for each line still holds, loss or damage": the receiver's mark
abbrev pub hurt_if : Bool → Cabinet → ℕ → Cabinet
hurt_if asked c a = cond asked (hurt_from c a) c

-- ---- 11 damage

-- 15 as the packet version has it
abbrev pub damage_refusal : Bool → Line → Cabinet → ℕ → ℕ → Pattern → PacketVersion → ℕ
damage_refusal linked l c a p w v =
    need linked 13
    (need (not (is_empty (packet_at l p))) 18
    (need (pattern_right v w) 15
    (need (not (hurt_already c a (packet_at l p))) 20 0)))

unfoldable pub damage : Cabinet → Line → ℕ → ℕ → Pattern → SpotAnswer
damage c l a p w = spot 0 (hurt_if (is_normal (packet_at l p)) c a) (replaced l p (damaged (packet_at l p) w))

-- ---- 12 lose

-- "lose has damage's 13, 18 and 20, 18 also for a fail-safe packet"
abbrev pub lose_refusal : Bool → Line → Cabinet → ℕ → ℕ → ℕ
lose_refusal linked l c a p =
    need linked 13 (need (is_normal (packet_at l p)) 18 (need (not (hurt_already c a (packet_at l p))) 20 0))

-- "removes the normal packet at place p from a line"
unfoldable pub lose : Cabinet → Line → ℕ → ℕ → SpotAnswer
lose c l a p = spot 0 (hurt_from c a) (without l p)
