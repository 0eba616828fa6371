-- `struck` clears two marks, one after the other.
use Rattle.marks.specs.Reach.{struck}
use Rattle.marks.proofs.struck.Goals as goal

pub returns : goal.returns
unfolding struck
returns c = rw (c.cleared-2.ensures, c.cleared.ensures)
