use Rattle.std.proofs.Common.{rules}
use Rattle.marks.proofs.Rows.{row_of_calls}
use Rattle.store.specs.Store.{first_back, second_back, comes_back}
use Rattle.store.proofs.Store.comes_back.Goals as goal

pub returns : goal.returns
unfolding comes_back
returns c = rw (
  c.set_mark.ensures,
  row_of_calls _ (first_back c.args.self c.args.a) _ (λ i y q l called. search rules) _ c.from_fn.ensures.items,
  row_of_calls _ (second_back c.args.self c.args.a) _ (λ i y q l called. search rules) _ c.from_fn-2.ensures.items,
)
