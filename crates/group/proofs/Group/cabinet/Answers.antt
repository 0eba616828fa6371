-- `group::Group::cabinet` meets its contract: it is the absent cabinet past the last place.
use Rattle.std.proofs.Common.{rules}
use Rattle.group.specs.Group.{cabinet}
use Rattle.group.proofs.Group.cabinet.Goals as goal

pub returns-in-Some : goal.returns-in-Some
unfolding cabinet
returns-in-Some c = search rules

pub returns-in-None : goal.returns-in-None
unfolding cabinet
returns-in-None c = search rules
