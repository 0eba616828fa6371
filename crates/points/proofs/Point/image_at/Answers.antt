-- `image_at` meets its contract: past the last place it is the default.
use Rattle.std.proofs.Common.{rules}
use Rattle.points.specs.Points.{image_at}
use Rattle.points.proofs.Point.image_at.Goals as goal

pub returns : goal.returns
unfolding image_at
returns c = search rules
