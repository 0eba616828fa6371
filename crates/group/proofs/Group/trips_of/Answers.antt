-- `group::Group::trips_of` meets its contract: past the last place there are none.
use Rattle.std.proofs.Common.{rules}
use Rattle.group.specs.Group.{trips_of}
use Rattle.group.proofs.Group.trips_of.Goals as goal

pub returns : goal.returns
unfolding trips_of
returns c = search rules
