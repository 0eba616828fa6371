-- `place_for`, by whether the name is used.
use borrow.Author.Tests.{le-ltb, lt-ltb}
use Rattle.points.specs.Points.{place_for}
use Rattle.points.proofs.Points.place_for.Goals as goal

pub returns-then-old-lt4 : goal.returns-then-old-lt4
unfolding place_for
returns-then-old-lt4 c = rw (← c.place_of-old.ensures, lt-ltb _ _ c.if-old-lt4.true)

pub returns-else-old-lt4 : goal.returns-else-old-lt4
unfolding place_for
returns-else-old-lt4 c = rw (c.free_place.ensures, ← c.place_of-old.ensures, le-ltb _ _ c.if-old-lt4.false)
