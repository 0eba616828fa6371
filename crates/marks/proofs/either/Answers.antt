-- The row is that of what its closure gives at each number.
use Rattle.std.proofs.Common.{rules}
use Rattle.marks.specs.Marks.{either, in_either}
use Rattle.marks.proofs.Rows.{row_of_calls}
use Rattle.marks.proofs.either.Goals as goal

pub returns : goal.returns
unfolding either
returns c = row_of_calls _ (in_either c.args.a c.args.b) _ (λ i y q l called. search rules) _ c.from_fn.ensures.items
