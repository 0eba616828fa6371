-- `put_packet`: nothing for an empty cell, or the four octets.
use Rattle.std.proofs.Common.{refl}
use Rattle.buffer.proofs.Texts.{nothing}
use Rattle.layout.specs.Layout.{packet_octets}
use Rattle.layout.proofs.put_packet.Goals as goal

pub returns-then-not-is_empty : goal.returns-then-not-is_empty
unfolding packet_octets
returns-then-not-is_empty c = rw (← c.is_empty.ensures, c.if-not-is_empty.true, ← c.four_octets.ensures) c.word.ensures

pub returns-else-not-is_empty : goal.returns-else-not-is_empty
unfolding packet_octets
returns-else-not-is_empty c = rw (← c.is_empty.ensures, c.if-not-is_empty.false) (record { written = nothing _ _; same_buffer = refl })
