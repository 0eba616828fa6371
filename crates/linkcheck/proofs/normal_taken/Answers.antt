-- `normal_taken`, by whether the packet is taken.
use Rattle.linkcheck.specs.Linkcheck.{normal_taken}
use Rattle.linkcheck.proofs.normal_taken.Goals as goal

pub returns-then-takes : goal.returns-then-takes
unfolding normal_taken
returns-then-takes c = rw (c.taking.ensures, ← c.takes.ensures, c.if-takes.true)

pub returns-else-takes : goal.returns-else-takes
unfolding normal_taken
returns-else-takes c = rw (← c.takes.ensures, c.if-takes.false)
