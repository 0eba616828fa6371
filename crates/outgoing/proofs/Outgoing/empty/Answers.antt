-- A row of empty lines.
use Rattle.std.proofs.Common.{rules}
use Rattle.outgoing.specs.Lines.{empty_lines}
use Rattle.outgoing.proofs.Outgoing.empty.Goals as goal

pub returns : goal.returns
unfolding empty_lines
returns c = search rules
