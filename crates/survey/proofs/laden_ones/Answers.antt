-- `survey::laden_ones` asks each of the eight.
use Rattle.std.proofs.Common.{rules}
use Rattle.marks.proofs.Rows.{row_of_calls}
use Rattle.group.specs.Group.{has_laden, laden_ones}
use Rattle.survey.proofs.laden_ones.Goals as goal

pub returns : goal.returns
unfolding laden_ones
returns c = row_of_calls _ (has_laden c.args.g) _ (λ i y q l called. search rules) _ c.from_fn.ensures.items
