-- `is_away` asks one after the other.
use Rattle.std.proofs.Common.{rules}
use Rattle.store.specs.Store.{is_away}
use Rattle.store.proofs.Store.is_away.Goals as goal

pub returns-then-is_store : goal.returns-then-is_store
unfolding is_away
returns-then-is_store c = search rules

pub returns-else-is_store : goal.returns-else-is_store
unfolding is_away
returns-else-is_store c = search rules
