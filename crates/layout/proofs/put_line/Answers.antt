-- The goals of `put_line` that the check leaves.
use Rattle.std.proofs.Common.{◌≡◌, add-one, arith}
use Rattle.buffer.proofs.Texts.{and_then}
use Rattle.layout.specs.Layout.{line_octets}
use Rattle.layout.proofs.put_line.Goals as goal

pub loop-k-preserved : goal.loop-k-preserved
loop-k-preserved c = rw (add-one c.loop-k.k) (and_then c.loop-k.invariant (rw c.packet_at.ensures at c.put_packet.ensures))

pub returns : goal.returns
unfolding line_octets
returns c =
    let all : c.loop-k.k ≡ 12 = omega arith in
    and_then (rw all at c.loop-k.invariant) c.put.ensures
