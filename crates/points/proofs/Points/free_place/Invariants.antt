-- None of the places that `free_place` has passed passes the test.
use Rattle.std.proofs.Common.{ℕ, ◌<◌, ◌≡◌, false}
use Rattle.points.specs.Points.{is_free}
use Rattle.points.proofs.Points.free_place.Given as goal

abbrev pub invariant-loop-i : goal.invariant-loop-i
invariant-loop-i l = (k : ℕ) → k < l.i → is_free l.self k ≡ false
