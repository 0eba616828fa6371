-- `packet::hurt_by` meets its contract, by whether the packet carries a check.
use Rattle.packet.specs.Packet.{hurt_by}
use Rattle.packet.proofs.hurt_by.Goals as goal

pub returns-in-None : goal.returns-in-None
unfolding hurt_by
returns-in-None c = rw c.in-None.is

pub returns-in-Some : goal.returns-in-Some
unfolding hurt_by
returns-in-Some c = rw (c.in-Some.is, c.shifted-number.ensures)
