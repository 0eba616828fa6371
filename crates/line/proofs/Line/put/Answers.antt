-- `line::Line::put` meets its contract: the packet goes where the search for an empty cell ends.
use Rattle.line.proofs.Cells.{put_at}
use Rattle.line.proofs.Line.put.Goals as goal

pub returns : goal.returns
returns c = rw (put_at c.args.self.cells c.args.p, c.replaced.ensures, c.first_empty.ensures)
