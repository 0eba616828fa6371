-- `put_all_lines` goes through the senders in order: the invariant is that the lines from those passed are written.
use Rattle.buffer.specs.Added.{Added}
use Rattle.layout.specs.Layout.{lines_from}
use Rattle.layout.proofs.put_all_lines.Given as goal

abbrev pub invariant-loop-a : goal.invariant-loop-a
invariant-loop-a l = Added (lines_from l.a l.n l.g) l.initial.out l.out
