-- `name_in`, by the record's length.
use Rattle.std.proofs.Common.{rules, ◌∙◌, ◌+◌, get_or}
use borrow.Author.Tests.{eq-eqb, ne_eqb}
use Rattle.marks.proofs.Rows.{row_of_calls}
use Rattle.turns.specs.Turns.{name_in}
use Rattle.turns.proofs.Names.{the_eight}
use Rattle.turns.proofs.name_in.Goals as goal

pub returns-then-octets-eq9 : goal.returns-then-octets-eq9
unfolding name_in
returns-then-octets-eq9 c =
    let l = c.args.octets.now in
    rw (eq-eqb _ _ c.if-octets-eq9.true)
    (row_of_calls _ (λ i. get_or l (i + 1) 0) _ (λ i y q m called. search rules) _ c.from_fn.ensures.items ∙ the_eight l c.if-octets-eq9.true)

pub returns-else-octets-eq9 : goal.returns-else-octets-eq9
unfolding name_in
returns-else-octets-eq9 c = rw (ne_eqb _ _ c.if-octets-eq9.false)
