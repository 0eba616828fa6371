-- `ended_in`: the end where the operation is taken, and none where it is not.
use borrow.Author.Tests.{eq-eqb, ne_eqb}
use Rattle.events.specs.Fates.{ended_in}
use Rattle.events.proofs.ended_in.Goals as goal

pub returns-then-answer-eq0 : goal.returns-then-answer-eq0
unfolding ended_in
returns-then-answer-eq0 c = rw (c.ended_by.ensures, eq-eqb _ _ c.if-answer-eq0.true)

pub returns-else-answer-eq0 : goal.returns-else-answer-eq0
unfolding ended_in
returns-else-answer-eq0 c = rw (ne_eqb _ _ c.if-answer-eq0.false)
