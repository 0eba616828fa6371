-- Past the last line it is the empty one.
use Rattle.std.proofs.Common.{rules}
use Rattle.outgoing.specs.Lines.{line_to}
use Rattle.outgoing.proofs.Outgoing.line_to.Goals as goal

pub returns : goal.returns
unfolding line_to
returns c = search rules
