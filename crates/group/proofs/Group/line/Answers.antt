-- `group::Group::line` meets its contract: the definition unfolds.
use Rattle.std.proofs.Common.{rules}
use Rattle.group.specs.Group.{line}
use Rattle.group.proofs.Group.line.Goals as goal

pub returns : goal.returns
unfolding line
returns c = search rules
