-- `trip` follows its definition, call by call.
use Rattle.protocol.specs.Moves.{trip}
use Rattle.failing.proofs.trip.Goals as goal

pub returns : goal.returns
unfolding trip
returns c = rw (c.emptied.ensures, c.alarm.ensures, c.with_cabinet-h.ensures, c.blanked.ensures, c.cabinet.ensures)
