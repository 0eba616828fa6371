-- `survey::is_crashed` meets its contract.
use mathlib.Core.Path.{◌∙◌}
use Rattle.survey.proofs.Rows.{any_crashed}
use Rattle.survey.proofs.is_crashed.Goals as goal

pub returns : goal.returns
returns c = c.any_crashed.ensures ∙ any_crashed c.args.g
