-- `survey::is_quiet` meets its contract.
use Rattle.group.specs.Group.{quiet}
use Rattle.survey.proofs.is_quiet.Goals as goal

pub returns-then-covers : goal.returns-then-covers
unfolding quiet
returns-then-covers c = rw (← c.normal_ones.ensures, ← c.working.ensures, ← c.covers.ensures, c.if-covers.true, ← c.laden_ones.ensures, ← c.some.ensures)

pub returns-else-covers : goal.returns-else-covers
unfolding quiet
returns-else-covers c = rw (← c.normal_ones.ensures, ← c.working.ensures, ← c.covers.ensures, c.if-covers.false)
