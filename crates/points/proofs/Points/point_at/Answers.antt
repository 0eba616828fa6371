-- `point_at` meets its contract: where no point stands it is the default.
use Rattle.points.specs.Points.{point_at}
use Rattle.points.proofs.Points.point_at.Goals as goal

pub returns : goal.returns
unfolding point_at
returns c = rw (c.unwrap_or.ensures, c.held_at.ensures, c.none.ensures)
