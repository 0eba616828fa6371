-- `mark_failed` follows its definition, call by call.
use Rattle.protocol.specs.Moves.{mark_failed}
use Rattle.failing.proofs.mark_failed.Goals as goal

pub returns : goal.returns
unfolding mark_failed
returns c = rw (c.emptied.ensures, c.with_outgoing.ensures, c.empty.ensures, c.with_cabinet-h.ensures, c.with_state.ensures, c.cabinet.ensures)
