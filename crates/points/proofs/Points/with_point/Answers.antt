-- `with_point` meets its contract: past the last place nothing is set.
use borrow.Author.Rules.{rules}
use mathlib.Core.Path.{◌≡◌, refl}
use native.Mathlib.Omega.{arith}
use lib.ListN.{length}
use lib.Seq.{set_out}
use Rattle.points.proofs.Points.with_point.Goals as goal

pub returns-then-i-lt4 : goal.returns-then-i-lt4
returns-then-i-lt4 c = refl

pub returns-else-i-lt4 : goal.returns-else-i-lt4
returns-else-i-lt4 c = let a = c.args in
    let h : length a.self.places ≡ 4 = search rules in
    rw (set_out a.self.places a.i a.p (omega arith))
