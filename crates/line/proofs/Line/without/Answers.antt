-- The goals of `without` that the check leaves.
use Rattle.std.proofs.Common.{◌∙◌, arith}
use lib.ListN.{length-set}
use Rattle.line.proofs.Cells.{loss_behind, loss_ended}
use Rattle.line.proofs.Line.without.Goals as goal

pub loop-k-preserved : goal.loop-k-preserved
loop-k-preserved c =
    let at = c.loop-k in (
      length-set at.l.cells at.k _ ∙ at.invariant.0,
      rw c.packet_at-behind.ensures (at.invariant.1 ∙ loss_behind at.l.cells at.k),
    )

pub returns : goal.returns
returns c =
    let at = c.loop-k in
    rw (at.invariant.1, loss_ended at.l.cells at.k (omega (arith, at.invariant.0)))
