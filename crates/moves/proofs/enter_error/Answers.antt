-- `enter_error` follows its definition, call by call.
use Rattle.moves.specs.Seats.{enter_error}
use Rattle.moves.proofs.enter_error.Goals as goal

pub returns : goal.returns
unfolding enter_error
returns c = rw (c.recover_if_known.ensures, c.raise.ensures)
