-- `put_line` goes through the places in order: the invariant is that the packets of those passed are written.
use Rattle.buffer.specs.Added.{Added}
use Rattle.layout.specs.Layout.{packets_to}
use Rattle.layout.proofs.put_line.Given as goal

abbrev pub invariant-loop-k : goal.invariant-loop-k
invariant-loop-k l = Added (packets_to l.k l.l) l.initial.out l.out
