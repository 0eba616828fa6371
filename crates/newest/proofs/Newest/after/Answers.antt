-- `after`: the operation's own rule where it is taken, and no change where it is not.
use borrow.Author.Tests.{eq-eqb, ne_eqb}
use Rattle.newest.specs.Newest.{newest_in}
use Rattle.newest.proofs.Newest.after.Goals as goal

pub returns-then-answer-eq0 : goal.returns-then-answer-eq0
unfolding newest_in
returns-then-answer-eq0 c = rw (c.by.ensures, eq-eqb _ _ c.if-answer-eq0.true)

pub returns-else-answer-eq0 : goal.returns-else-answer-eq0
unfolding newest_in
returns-else-answer-eq0 c = rw (ne_eqb _ _ c.if-answer-eq0.false)
