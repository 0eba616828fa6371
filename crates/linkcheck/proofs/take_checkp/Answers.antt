-- `take_checkp` follows its definition, call by call.
use Rattle.linkcheck.specs.Linkcheck.{take_checkp}
use Rattle.linkcheck.proofs.take_checkp.Goals as goal

pub returns : goal.returns
unfolding take_checkp
returns c = rw (c.with_cabinet.ensures, c.cutting.ensures, c.comparing.ensures)
