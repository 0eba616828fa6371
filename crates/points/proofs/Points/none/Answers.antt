-- `Points::none` meets its contract.
use Rattle.std.proofs.Common.{refl}
use Rattle.points.specs.Points.{no_points}
use Rattle.points.proofs.Points.none.Goals as goal

pub returns : goal.returns
unfolding no_points
returns c = refl
