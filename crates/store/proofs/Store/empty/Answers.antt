-- `empty` follows its definition, call by call.
use Rattle.store.specs.Store.{empty_store}
use Rattle.store.proofs.Store.empty.Goals as goal

pub returns : goal.returns
unfolding empty_store
returns c = rw (c.blank-2.ensures, c.blank.ensures)
