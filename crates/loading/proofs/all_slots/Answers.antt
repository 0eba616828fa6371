use Rattle.std.proofs.Common.{rules}
use Rattle.load.specs.Load.{slots_of}
use Rattle.marks.proofs.Rows.{row_of_calls}
use Rattle.loading.proofs.all_slots.Goals as goal

pub returns : goal.returns
returns c = row_of_calls _ (slots_of c.args.file.now) _ (λ i y q l called. search rules) _ c.from_fn.ensures.items
