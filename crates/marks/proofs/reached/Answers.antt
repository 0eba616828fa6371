-- `reached` has enough fuel, since no more than eight are unseen at the start.
use Rattle.marks.specs.ReachLaws.{first_unseen}
use Rattle.marks.proofs.reached.Goals as goal

pub returns : goal.returns
returns c = rw (← c.first.ensures) (c.grow.ensures 8 (rw c.first.ensures (first_unseen c.args.working)))
