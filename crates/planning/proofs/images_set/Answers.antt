use Rattle.std.proofs.Common.{rules}
use Rattle.protocol.specs.Points.{with_point_image}
use Rattle.marks.proofs.Rows.{row_of_calls}
use Rattle.planning.proofs.images_set.Goals as goal

pub returns : goal.returns
returns c = row_of_calls _ (with_point_image c.args.g c.args.p) _ (λ i y q l called. search rules) _ c.from_fn.ensures.items
