-- The goals of `put_lines` that the check leaves.
use Rattle.std.proofs.Common.{add-one}
use Rattle.buffer.proofs.Texts.{and_then}
use Rattle.layout.proofs.put_lines.Goals as goal

pub loop-b-preserved : goal.loop-b-preserved
loop-b-preserved c = rw (add-one c.loop-b.b) (and_then c.loop-b.invariant (rw c.line_to.ensures at c.put_line.ensures))
