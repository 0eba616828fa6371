-- `group::of_rows` makes each row of its own.
use Rattle.std.proofs.Common.{rules}
use Rattle.marks.specs.Marks.{no_marks}
use Rattle.group.specs.Group.{of_rows}
use Rattle.group.proofs.Mapped.{row_of_map}
use Rattle.group.proofs.of_rows.Goals as goal

pub returns : goal.returns
unfolding of_rows
returns c = row_of_map _ (λ marks. record { marks = marks }) _ (λ x y q called. search rules) _ _ no_marks c.map.ensures.items
