-- `commit` follows its definition, call by call.
use Rattle.moves.specs.Seats.{commit}
use Rattle.moves.proofs.commit.Goals as goal

pub returns : goal.returns
unfolding commit
returns c = rw (c.resume_with.ensures, c.flipped.ensures)
