-- `set_slots` follows its definition.
use Rattle.std.proofs.Common.{refl}
use Rattle.store.specs.Store.{set_slots}
use Rattle.store.proofs.Store.set_slots.Goals as goal

pub returns : goal.returns
unfolding set_slots
returns c = refl
