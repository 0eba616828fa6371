-- The goals of `cab_lines` that the check leaves.
use Rattle.std.proofs.Common.{add-one}
use Rattle.buffer.proofs.Texts.{and_then}
use Rattle.report.proofs.cab_lines.Goals as goal

pub loop-i-preserved : goal.loop-i-preserved
loop-i-preserved c = rw (add-one c.loop-i.i) (and_then c.loop-i.invariant (rw c.cabinet.ensures at c.cab_line.ensures))
