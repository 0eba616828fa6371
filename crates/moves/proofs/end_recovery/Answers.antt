-- `end_recovery` follows its definition, call by call.
use Rattle.moves.specs.Seats.{end_recovery}
use Rattle.moves.proofs.end_recovery.Goals as goal

pub returns : goal.returns
unfolding end_recovery
returns c = rw c.resume_with.ensures
