-- `is_last` asks one after the other.
use Rattle.std.proofs.Common.{rules}
use Rattle.store.specs.Store.{is_last}
use Rattle.store.proofs.Store.is_last.Goals as goal

pub returns-then-is_store : goal.returns-then-is_store
unfolding is_last
returns-then-is_store c = search rules

pub returns-else-is_store : goal.returns-else-is_store
unfolding is_last
returns-else-is_store c = search rules
