-- The goals of `step_lines` that the check leaves.
use Rattle.std.proofs.Common.{add-one, take-suc, rules, arith}
use lib.ListN.{get_or, take}
use lib.Seq.{length-take-le}
use Rattle.buffer.proofs.Texts.{and_then}
use Rattle.report.proofs.Lines.{next_line}
use Rattle.report.proofs.step_lines.Goals as goal

pub loop-i-preserved : goal.loop-i-preserved
loop-i-preserved c = let i = c.loop-i.i in
    let answers = c.args.answers.now in
    let number = next_line (take i answers) i (get_or answers i 0) (length-take-le i answers (omega arith)) in
    rw (add-one i, take-suc answers i 0 (search rules), number) (and_then c.loop-i.invariant c.step_line.ensures)
