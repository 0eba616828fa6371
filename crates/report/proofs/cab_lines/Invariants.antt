-- `cab_lines` goes through the cabinets in order: the invariant is that the lines of those passed are written.
use Rattle.protocol.specs.Listing.{cab_lines}
use Rattle.buffer.specs.Added.{Added}
use Rattle.report.proofs.cab_lines.Given as goal

abbrev pub invariant-loop-i : goal.invariant-loop-i
invariant-loop-i l = Added (cab_lines l.i l.g) l.initial.out l.out
