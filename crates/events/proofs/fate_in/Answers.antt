-- `fate_in`: the fate where the operation is taken, and none where it is not.
use borrow.Author.Tests.{eq-eqb, ne_eqb}
use Rattle.events.specs.Fates.{fate_in}
use Rattle.events.proofs.fate_in.Goals as goal

pub returns-then-answer-eq0 : goal.returns-then-answer-eq0
unfolding fate_in
returns-then-answer-eq0 c = rw (c.fate_by.ensures, eq-eqb _ _ c.if-answer-eq0.true)

pub returns-else-answer-eq0 : goal.returns-else-answer-eq0
unfolding fate_in
returns-else-answer-eq0 c = rw (ne_eqb _ _ c.if-answer-eq0.false)
