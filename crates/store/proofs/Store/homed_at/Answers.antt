use Rattle.std.proofs.Common.{rules}
use Rattle.marks.proofs.Rows.{row_of_calls}
use Rattle.store.specs.Store.{is_homed_at, homed_at}
use Rattle.store.proofs.Store.homed_at.Goals as goal

pub returns : goal.returns
unfolding homed_at
returns c = row_of_calls _ (is_homed_at c.args.self c.args.a) _ (λ i y q l called. search rules) _ c.from_fn.ensures.items
