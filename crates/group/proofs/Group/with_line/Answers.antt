-- `group::Group::with_line` meets its contract: the definition unfolds.
use Rattle.std.proofs.Common.{rules}
use Rattle.group.specs.Group.{with_line}
use Rattle.group.proofs.Group.with_line.Goals as goal

pub returns : goal.returns
unfolding with_line
returns c = search rules
