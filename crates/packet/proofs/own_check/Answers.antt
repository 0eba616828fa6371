-- `packet::own_check` meets its contract: a register at its start, run over the three octets.
use Rattle.packet.specs.Packet.{own_check}
use Rattle.packet.proofs.own_check.Goals as goal

pub returns : goal.returns
unfolding own_check
returns c = rw c.over_three.ensures
