-- `cut_if_all` follows its definition, call by call.
use Rattle.moves.specs.Seats.{cut_if_all}
use Rattle.moves.proofs.cut_if_all.Goals as goal

pub returns : goal.returns
unfolding cut_if_all
returns c = rw (c.with_cabinet.ensures, c.cutting.ensures)
