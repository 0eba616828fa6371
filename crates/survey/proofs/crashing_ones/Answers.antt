-- `survey::crashing_ones` asks each of the eight.
use Rattle.std.proofs.Common.{rules}
use Rattle.marks.proofs.Rows.{row_of_calls}
use Rattle.cabinet.specs.Cabinet.{crashing}
use Rattle.group.specs.Group.{cabinet, crash_all}
use Rattle.survey.proofs.crashing_ones.Goals as goal

pub returns : goal.returns
unfolding crash_all
returns c = row_of_calls _ (λ i. crashing (cabinet c.args.g i)) _ (λ i y q l called. search rules) _ c.from_fn.ensures.items
