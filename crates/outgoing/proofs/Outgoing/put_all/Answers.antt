-- `outgoing::Outgoing::put_all` meets its contract.
use Rattle.outgoing.specs.Lines.{put_all}
use Rattle.outgoing.proofs.Outgoing.put_all.Goals as goal

pub returns : goal.returns
unfolding put_all
returns c = rw c.put_row.ensures
