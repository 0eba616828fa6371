use Rattle.std.proofs.Common.{rules}
use Rattle.protocol.specs.Points.{both_slots}
use Rattle.marks.proofs.Rows.{row_of_calls}
use Rattle.planning.proofs.slots_set.Goals as goal

pub returns : goal.returns
returns c = row_of_calls _ (both_slots c.args.p) _ (λ i y q l called. search rules) _ c.from_fn.ensures.items
