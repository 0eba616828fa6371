-- `put_rows` goes through the records in order: the invariant is that all rows are written but those of the octets that are left.
use Rattle.std.proofs.Common.{◌≡◌, ◌≤◌, ◌-◌, ◌*◌, length}
use Rattle.turns.specs.Turns.{record_size}
use Rattle.chronicle.specs.Kept.{rows_of}
use Rattle.report.proofs.Chunks.{Ahead}
use Rattle.chronicle.proofs.Turns.{rows_left}
use Rattle.chronicle.proofs.put_rows.Given as goal

abbrev pub invariant-loop-i : goal.invariant-loop-i
invariant-loop-i l =
    let left = l.i-iterator.iter in
    let i = l.i-iterator.count in
    (left.size ≡ record_size l.plan) × (length left.rest.now ≤ (10000 - i) * record_size l.plan)
    × Ahead (rows_of l.plan l.initial.here l.list) (rows_left l.plan i l.here l.newest left.rest.now) l.initial.out l.out
