-- `feeder_total` adds up in order: the invariant is that `total` is the sum of the entries passed, each of which has at most two bookings of two octets.
use Rattle.std.proofs.Common.{◌≡◌, ◌≤◌, ◌*◌}
use Rattle.group.specs.Group.{sum}
use Rattle.load.specs.Load.{entry_total}
use Rattle.reading.proofs.feeder_total.Given as goal

abbrev pub invariant-loop-i : goal.invariant-loop-i
invariant-loop-i l = (l.total ≤ 131071 * l.i) × (l.total ≡ sum (λ k. entry_total l.file l.party k) l.i)
