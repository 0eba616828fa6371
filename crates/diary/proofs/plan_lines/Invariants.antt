-- `plan_lines` goes through the records in order: the invariant is that all lines are written but those of the octets that are left.
use Rattle.std.proofs.Common.{◌≡◌, ◌≤◌, ◌-◌, ◌*◌, length}
use Rattle.protocol.specs.Evening.{plan_records, plan_lines}
use Rattle.report.proofs.Chunks.{Ahead}
use Rattle.diary.proofs.Lines.{lines_from}
use Rattle.diary.proofs.plan_lines.Given as goal

abbrev pub invariant-loop-i : goal.invariant-loop-i
invariant-loop-i l =
    let left = l.i-iterator.iter in
    let i = l.i-iterator.count in
    (left.size ≡ 9) × (length left.rest.now ≤ (10000 - i) * 9)
    × Ahead (plan_lines 1 (plan_records (length l.list) l.list) l.answers) (lines_from i left.rest.now l.answers) l.initial.out l.out
