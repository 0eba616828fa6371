-- `line::first_empty` meets its contract. The loop's invariant: the cells passed are full.
use Rattle.std.proofs.Common.{◌≡◌, ◌+◌, drop}
use Rattle.line.specs.Line.{first_empty}
use Rattle.line.proofs.first_empty.Given as goal

abbrev pub invariant-loop-place : goal.invariant-loop-place
invariant-loop-place l = first_empty l.fn.l.cells ≡ l.place + first_empty (drop l.place l.fn.l.cells)
