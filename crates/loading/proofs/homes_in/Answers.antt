use Rattle.std.proofs.Common.{rules}
use Rattle.load.specs.Load.{home_number}
use Rattle.marks.proofs.Rows.{row_of_calls}
use Rattle.loading.proofs.homes_in.Goals as goal

pub returns : goal.returns
returns c = row_of_calls _ (home_number c.args.file.now) _ (λ i y q l called. search rules) _ c.from_fn.ensures.items
