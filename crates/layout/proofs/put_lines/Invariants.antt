-- `put_lines` goes through the receivers in order: the invariant is that the lines to those passed are written.
use Rattle.buffer.specs.Added.{Added}
use Rattle.layout.specs.Layout.{lines_to}
use Rattle.layout.proofs.put_lines.Given as goal

abbrev pub invariant-loop-b : goal.invariant-loop-b
invariant-loop-b l = Added (lines_to l.b l.o) l.initial.out l.out
