-- `line::Line::normals` meets its contract. The loop's invariant: the count is that of the cells passed.
use Rattle.std.proofs.Common.{◌≡◌, ◌≤◌, ◌+◌, drop}
use Rattle.line.specs.Line.{normals_in}
use Rattle.line.proofs.Line.normals.Given as goal

abbrev pub invariant-loop-c : goal.invariant-loop-c
invariant-loop-c l = (l.count ≤ l.c-index) × (normals_in l.party l.fn.self.cells ≡ l.count + normals_in l.party (drop l.c-index l.fn.self.cells))
