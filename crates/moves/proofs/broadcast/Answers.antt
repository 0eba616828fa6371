-- `broadcast` follows its definition, call by call.
use Rattle.moves.specs.Seats.{broadcast}
use Rattle.moves.proofs.broadcast.Goals as goal

pub returns : goal.returns
unfolding broadcast
returns c = rw (c.with_lines.ensures, c.put_all.ensures, c.in_use.ensures)
