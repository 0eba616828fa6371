-- `raise` follows its definition, call by call.
use Rattle.moves.specs.Seats.{raise}
use Rattle.moves.proofs.raise.Goals as goal

pub returns : goal.returns
unfolding raise
returns c = rw (c.broadcast.ensures, c.with_lines.ensures, c.empty.ensures, c.with_cabinet-struck.ensures, c.alarmed.ensures)
