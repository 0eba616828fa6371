-- `group::Group::outgoing` meets its contract: past the last cabinet there are only empty lines.
use Rattle.std.proofs.Common.{rules}
use Rattle.group.specs.Group.{outgoing}
use Rattle.group.proofs.Group.outgoing.Goals as goal

pub returns-in-Some : goal.returns-in-Some
unfolding outgoing
returns-in-Some c = search rules

pub returns-in-None : goal.returns-in-None
unfolding outgoing
returns-in-None c = search rules
