-- The goals of `emptied` that the check leaves.
use Rattle.std.proofs.Common.{◌∙◌, add-one}
use lib.ListN.{length-set}
use Rattle.failing.proofs.Turns.{emptied_next}
use Rattle.failing.proofs.emptied.Goals as goal

pub loop-i-preserved : goal.loop-i-preserved
loop-i-preserved c = (rw (c.with_line_to.ensures, c.empty.ensures, add-one) (emptied_next _ c.loop-i.h _ _ _ c.loop-i.invariant.1 c.loop-i-test.true c.loop-i.invariant.0), length-set c.loop-i.h.outgoing _ _ ∙ c.loop-i.invariant.1)
