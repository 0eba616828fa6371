-- `recover_with` follows its definition, call by call.
use Rattle.moves.specs.Seats.{recover_with}
use Rattle.moves.proofs.recover_with.Goals as goal

pub returns : goal.returns
unfolding recover_with
returns c = rw (c.broadcast.ensures, c.with_cabinet.ensures, c.recovering.ensures)
