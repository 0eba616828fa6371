-- `packet::Check::step` runs over the three octets and the packet's own check, and counts one more.
use Rattle.crc.specs.Crc.{crc_from}
use Rattle.packet.proofs.Check.step.Goals as goal

pub returns : goal.returns
unfolding crc_from
returns c = rw (c.over_own.ensures, c.over_three.ensures)
