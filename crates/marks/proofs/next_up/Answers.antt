-- `marks::next_up` meets its contract.
use Rattle.marks.specs.Marks.{next_up}
use Rattle.marks.proofs.next_up.Goals as goal

pub returns : goal.returns
unfolding next_up
returns c = rw (c.or_lowest.ensures, c.lowest.ensures, c.both.ensures, c.above.ensures)
