-- `deeds`: a mark for each of the three.
use Rattle.events.specs.Deeds.{deeds}
use Rattle.events.proofs.deeds.Goals as goal

pub returns : goal.returns
unfolding deeds
returns c = rw (c.mark-3.ensures.value, c.cuts.ensures, c.mark-2.ensures.value, c.empties_in.ensures, c.mark.ensures.value, c.empties_out.ensures)
