-- The goals of `put_all_lines` that the check leaves.
use Rattle.std.proofs.Common.{add-one}
use Rattle.buffer.proofs.Texts.{and_then}
use Rattle.layout.proofs.put_all_lines.Goals as goal

pub loop-a-preserved : goal.loop-a-preserved
loop-a-preserved c = rw (add-one c.loop-a.a) (and_then c.loop-a.invariant (rw c.outgoing.ensures at c.put_lines.ensures))
