-- `pattern_right` asks one after the other.
use Rattle.std.proofs.Common.{arith}
use Rattle.std.proofs.lemmas.Grind.{common_steps}
use Rattle.packet.specs.Packet.{pattern_right}
use Rattle.packet.proofs.pattern_right.Goals as goal

pub returns-then-shifted-lt4294967296 : goal.returns-then-shifted-lt4294967296
unfolding pattern_right
returns-then-shifted-lt4294967296 c = grind (arith, common_steps)

pub returns-else-shifted-lt4294967296 : goal.returns-else-shifted-lt4294967296
unfolding pattern_right
returns-else-shifted-lt4294967296 c = grind (arith, common_steps)
