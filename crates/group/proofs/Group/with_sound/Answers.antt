-- `group::Group::with_sound` meets its contract: the definition unfolds.
use Rattle.std.proofs.Common.{rules}
use Rattle.group.specs.Group.{with_sound}
use Rattle.group.proofs.Group.with_sound.Goals as goal

pub returns : goal.returns
unfolding with_sound
returns c = search rules
