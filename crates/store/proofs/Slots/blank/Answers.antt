-- `store::Slots::blank` meets its contract.
use Rattle.store.specs.Store.{blank_slots}
use Rattle.store.proofs.Slots.blank.Goals as goal

pub returns : goal.returns
unfolding blank_slots
returns c = rw c.blank-image.ensures
