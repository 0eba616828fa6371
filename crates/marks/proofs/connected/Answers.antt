-- `connected` asks whether the reached ones cover the working ones.
use Rattle.marks.specs.Reach.{connected}
use Rattle.marks.proofs.connected.Goals as goal

pub returns : goal.returns
unfolding connected
returns c = rw (c.covers.ensures, c.reached.ensures)
