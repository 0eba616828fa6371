-- `outgoing::Outgoing::put_checkps` meets its contract.
use Rattle.outgoing.specs.Lines.{put_checkps}
use Rattle.outgoing.proofs.Outgoing.put_checkps.Goals as goal

pub returns : goal.returns
unfolding put_checkps
returns c = rw (c.put_row.ensures, c.checkps.ensures)
