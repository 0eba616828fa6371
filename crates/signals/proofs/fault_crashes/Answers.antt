-- `fault_crashes`, by whether the cabinet is in recovery.
use Rattle.signals.specs.Signals.{fault_crashes}
use Rattle.signals.proofs.fault_crashes.Goals as goal

pub returns-then-in_recovery : goal.returns-then-in_recovery
unfolding fault_crashes
returns-then-in_recovery c = rw (c.is_for.ensures, ← c.in_recovery.ensures, c.if-in_recovery.true)

pub returns-else-in_recovery : goal.returns-else-in_recovery
unfolding fault_crashes
returns-else-in_recovery c = rw (← c.in_recovery.ensures, c.if-in_recovery.false)
