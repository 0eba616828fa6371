-- `resume_with` follows its definition, call by call.
use Rattle.moves.specs.Seats.{resume_with}
use Rattle.moves.proofs.resume_with.Goals as goal

pub returns : goal.returns
unfolding resume_with
returns c = rw (c.broadcast.ensures, c.with_cabinet.ensures, c.resuming.ensures)
