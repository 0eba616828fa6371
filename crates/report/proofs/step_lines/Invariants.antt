-- `step_lines` goes through the answers in order: the invariant is that the lines of those passed are written.
use Rattle.std.proofs.Common.{take}
use Rattle.buffer.specs.Added.{Added}
use Rattle.protocol.specs.Listing.{step_lines}
use Rattle.report.proofs.step_lines.Given as goal

abbrev pub invariant-loop-i : goal.invariant-loop-i
invariant-loop-i l = Added (step_lines 1 (take l.i l.answers)) l.initial.out l.out
