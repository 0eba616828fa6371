use Rattle.std.proofs.Common.{rules}
use Rattle.load.specs.Load.{cabinet_of}
use Rattle.marks.proofs.Rows.{row_of_calls}
use Rattle.loading.proofs.cabinets_of.Goals as goal

pub returns : goal.returns
returns c = row_of_calls _ (cabinet_of c.args.file.now c.args.rows) _ (λ i y q l called. search rules) _ c.from_fn.ensures.items
