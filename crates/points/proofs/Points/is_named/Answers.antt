-- `is_named` compares the names where a point stands.
use Rattle.std.proofs.Common.{rules, ◌≡◌, Some}
use Rattle.points.specs.Points.{point_at, held_at}
use Rattle.points.proofs.Names.{compared}
use Rattle.points.proofs.Points.is_named.Goals as goal

pub returns-in-Some-Some : goal.returns-in-Some-Some
unfolding point_at
returns-in-Some-Some c =
    let held : held_at c.args.self.now c.args.i ≡ Some c.in-Some-Some.point = search rules in
    rw (held, c.eq.ensures) (compared c.in-Some-Some.point.name c.args.name)
