-- `join` follows its definition, call by call.
use Rattle.moves.specs.Seats.{join}
use Rattle.moves.proofs.join.Goals as goal

pub returns : goal.returns
unfolding join
returns c = rw (c.with_lines.ensures, c.put_checkps.ensures, c.in_use.ensures, c.with_cabinet-begun.ensures, c.beginning.ensures)
