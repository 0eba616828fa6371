-- `put_cabinets` goes through the cabinets in order: the invariant is that those passed are written.
use Rattle.buffer.specs.Added.{Added}
use Rattle.rows.specs.Rows.{cabinets_to}
use Rattle.rows.proofs.put_cabinets.Given as goal

abbrev pub invariant-loop-i : goal.invariant-loop-i
invariant-loop-i l = Added (cabinets_to l.i l.before l.after) l.initial.out l.out
