-- None of the places that `place_of` has passed passes the test.
use Rattle.std.proofs.Common.{ℕ, ◌<◌, ◌≡◌, false}
use Rattle.points.specs.Points.{is_named}
use Rattle.points.proofs.Points.place_of.Given as goal

abbrev pub invariant-loop-i : goal.invariant-loop-i
invariant-loop-i l = (k : ℕ) → k < l.i → is_named l.self l.name k ≡ false
