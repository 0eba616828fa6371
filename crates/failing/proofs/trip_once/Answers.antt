-- `trip_once`, by whether it crashes the group.
use Rattle.protocol.specs.Kinds.{trip_once}
use Rattle.failing.proofs.trip_once.Goals as goal

pub returns-then-trip_crashes : goal.returns-then-trip_crashes
unfolding trip_once
returns-then-trip_crashes c = rw (c.crashed.ensures, ← c.trip_crashes.ensures, c.if-trip_crashes.true)

pub returns-else-trip_crashes : goal.returns-else-trip_crashes
unfolding trip_once
returns-else-trip_crashes c = rw (c.taken.ensures, c.alarm_neighbours.ensures, c.trip-h.ensures, c.leave.ensures, c.with_trips_of.ensures, ← c.trip_crashes.ensures, c.if-trip_crashes.false)
