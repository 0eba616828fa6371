-- `group::rows_of` makes each row of its own.
use Rattle.std.proofs.Common.{rules}
use Rattle.group.specs.Group.{rows_of, no_row}
use Rattle.group.proofs.Mapped.{row_of_map}
use Rattle.group.proofs.rows_of.Goals as goal

pub returns : goal.returns
unfolding rows_of
returns c = row_of_map _ (λ row. row.marks) _ (λ x y q called. search rules) _ _ no_row c.map.ensures.items
