-- `fail_step`, by whether it crashes the group.
use Rattle.protocol.specs.Kinds.{fail_step}
use Rattle.failing.proofs.fail_step.Goals as goal

pub returns-then-fail_crashes : goal.returns-then-fail_crashes
unfolding fail_step
returns-then-fail_crashes c = rw (c.crashed.ensures, ← c.fail_crashes.ensures, c.if-fail_crashes.true)

pub returns-else-fail_crashes : goal.returns-else-fail_crashes
unfolding fail_step
returns-else-fail_crashes c = rw (c.taken.ensures, c.alarm_neighbours.ensures, c.mark_failed-h.ensures, c.leave.ensures, ← c.fail_crashes.ensures, c.if-fail_crashes.false)
