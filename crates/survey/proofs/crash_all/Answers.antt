-- `survey::crash_all` meets its contract.
use Rattle.group.specs.Group.{crash_all}
use Rattle.survey.proofs.crash_all.Goals as goal

pub returns : goal.returns
unfolding crash_all
returns c = rw c.crashing_ones.ensures
