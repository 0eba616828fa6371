-- The goals of `put_cabinets` that the check leaves.
use Rattle.std.proofs.Common.{add-one}
use Rattle.buffer.proofs.Texts.{and_then}
use Rattle.rows.proofs.put_cabinets.Goals as goal

pub loop-i-preserved : goal.loop-i-preserved
loop-i-preserved c =
    let one = rw (c.deeds-did.ensures, c.cabinet.ensures, c.cabinet-c.ensures, c.home.ensures) at c.put_cabinet.ensures in
    rw (add-one c.loop-i.i) (and_then c.loop-i.invariant one)
