-- `survey::working` asks each of the eight.
use Rattle.std.proofs.Common.{rules}
use Rattle.marks.proofs.Rows.{row_of_calls}
use Rattle.state.specs.State.{works}
use Rattle.group.specs.Group.{state_of, working}
use Rattle.survey.proofs.working.Goals as goal

pub returns : goal.returns
unfolding working
returns c = row_of_calls _ (λ i. works (state_of c.args.g i)) _ (λ i y q l called. search rules) _ c.from_fn.ensures.items
