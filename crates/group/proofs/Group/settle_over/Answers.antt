-- `group::Group::settle_over` meets its contract: the definition unfolds.
use Rattle.std.proofs.Common.{rules}
use Rattle.group.specs.Group.{settle_over}
use Rattle.group.proofs.Group.settle_over.Goals as goal

pub returns : goal.returns
unfolding settle_over
returns c = search rules
