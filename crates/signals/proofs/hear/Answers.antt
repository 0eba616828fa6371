-- `hear` follows its definition, call by call.
use Rattle.signals.specs.Signals.{hear}
use Rattle.signals.proofs.hear.Goals as goal

pub returns : goal.returns
unfolding hear
returns c = rw (c.with_cabinet.ensures, c.hearing.ensures)
