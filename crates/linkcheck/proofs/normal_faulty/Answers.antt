-- `normal_faulty`, by whether the packet is taken.
use Rattle.linkcheck.specs.Linkcheck.{normal_faulty}
use Rattle.linkcheck.proofs.normal_faulty.Goals as goal

pub returns-then-not-takes : goal.returns-then-not-takes
unfolding normal_faulty
returns-then-not-takes c = rw (← c.takes.ensures, c.if-not-takes.true, c.serving.ensures)

pub returns-else-not-takes : goal.returns-else-not-takes
unfolding normal_faulty
returns-else-not-takes c = rw (← c.takes.ensures, c.if-not-takes.false)
