-- `fault_taken`, by the state of the cabinet.
use Rattle.signals.specs.Signals.{fault_taken}
use Rattle.signals.proofs.fault_taken.Goals as goal

pub returns-then-serving : goal.returns-then-serving
unfolding fault_taken
returns-then-serving c = rw (c.hear.ensures, c.enter_error.ensures, ← c.serving.ensures, c.if-serving.true)

pub returns-then-in_recovery : goal.returns-then-in_recovery
unfolding fault_taken
returns-then-in_recovery c = rw (c.hear-then-in_recovery.ensures, ← c.serving.ensures, c.if-serving.false, ← c.in_recovery.ensures, c.if-in_recovery.true)

pub returns-else-in_recovery : goal.returns-else-in_recovery
unfolding fault_taken
returns-else-in_recovery c = rw (← c.serving.ensures, c.if-serving.false, ← c.in_recovery.ensures, c.if-in_recovery.false)
