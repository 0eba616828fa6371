-- `survey::normal_ones` asks each of the eight.
use Rattle.std.proofs.Common.{rules}
use Rattle.marks.proofs.Rows.{row_of_calls}
use Rattle.state.specs.declared.State.TheVariants.{Normal}
use Rattle.state.specs.State.{is_in}
use Rattle.group.specs.Group.{state_of, normal_ones}
use Rattle.survey.proofs.normal_ones.Goals as goal

pub returns : goal.returns
unfolding normal_ones
returns c = row_of_calls _ (λ i. is_in (state_of c.args.g i) Normal) _ (λ i y q l called. search rules) _ c.from_fn.ensures.items
