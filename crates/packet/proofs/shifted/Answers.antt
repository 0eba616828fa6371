-- `packet::shifted` meets its contract, by whether the shift is in reach.
use Rattle.std.proofs.Common.{arith}
use Rattle.std.proofs.lemmas.Grind.{common_steps}
use Rattle.packet.specs.Packet.{shifted}
use Rattle.packet.proofs.shifted.Goals as goal

pub returns-then-in_reach : goal.returns-then-in_reach
unfolding shifted
returns-then-in_reach c = grind (arith, common_steps)

pub returns-else-in_reach : goal.returns-else-in_reach
unfolding shifted
returns-else-in_reach c = grind (arith, common_steps)
