-- `leaves` follows its definition.
use Rattle.store.specs.Store.{leaves}
use Rattle.store.proofs.Store.leaves.Goals as goal

pub returns : goal.returns
unfolding leaves
returns c = rw c.set_mark.ensures
