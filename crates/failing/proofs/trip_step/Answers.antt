-- `trip_step`, by whether it is the third.
use borrow.Author.Tests.{le-ltb, lt-ltb}
use Rattle.protocol.specs.Kinds.{trip_step}
use Rattle.failing.proofs.trip_step.Goals as goal

pub returns-then-count-lt2 : goal.returns-then-count-lt2
unfolding trip_step
returns-then-count-lt2 c = rw (c.trip_once.ensures, ← c.trips_of-count.ensures, lt-ltb _ _ c.if-count-lt2.true)

pub returns-else-count-lt2 : goal.returns-else-count-lt2
unfolding trip_step
returns-else-count-lt2 c = rw (c.fail_step.ensures, ← c.trips_of-count.ensures, le-ltb _ _ c.if-count-lt2.false)
