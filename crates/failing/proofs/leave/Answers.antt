-- `leave` changes the store and then passes the reports on.
use Rattle.protocol.specs.Moves.{leave}
use Rattle.failing.proofs.leave.Goals as goal

pub returns : goal.returns
unfolding leave
returns c = rw (c.pass_reports.ensures, c.partner.ensures, c.with_store.ensures, c.leaves.ensures)
