-- `survey::any_recovering` asks each of the eight in turn.
use Rattle.std.proofs.Common.{rules, tests, ◌∙◌}
use Rattle.std.proofs.lemmas.Iterator.{YieldsList-from_slice}
use Rattle.std.proofs.lemmas.Iterator.Search.{any_from_yields_List}
use Rattle.state.specs.State.{in_recovery}
use Rattle.survey.proofs.Rows.{eight_asked}
use Rattle.survey.proofs.any_recovering.Goals as goal

pub returns : goal.returns
returns c =
    any_from_yields_List (λ c. in_recovery c.phase.state) _ _ _ c.any.ensures.ran (YieldsList-from_slice c.args.cs cc) (λ x b q k. search (rules, tests))
    ∙ eight_asked (λ c. in_recovery c.phase.state) c.args.cs (search rules)
