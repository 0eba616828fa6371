-- Past the last line nothing is set.
use Rattle.std.proofs.Common.{rules, arith}
use Rattle.std.proofs.lemmas.Grind.{common_steps}
use Rattle.outgoing.specs.Lines.{with_line_to}
use Rattle.outgoing.proofs.Outgoing.with_line_to.Goals as goal

pub returns-then-j-lt8 : goal.returns-then-j-lt8
unfolding with_line_to
returns-then-j-lt8 c = search rules

pub returns-else-j-lt8 : goal.returns-else-j-lt8
unfolding with_line_to
returns-else-j-lt8 c = grind (arith, common_steps)
