-- `slot_at` follows its definition, call by call.
use Rattle.store.specs.Store.{slot_at}
use Rattle.store.proofs.Store.slot_at.Goals as goal

pub returns : goal.returns
unfolding slot_at
returns c = rw (c.image.ensures, c.copy_at.ensures)
