-- `pass_reports` changes the partner and then the cabinet itself.
use Rattle.protocol.specs.Moves.{pass_reports}
use Rattle.failing.proofs.pass_reports.Goals as goal

pub returns : goal.returns
unfolding pass_reports
returns c = rw (c.with_cabinet.ensures, c.owing_none.ensures, c.with_cabinet-h.ensures, c.owing_also.ensures, c.cabinet.ensures, c.cabinet-c.ensures)
