-- `line::Line::without` meets its contract. The loop's invariant: the line asked for is this one without its k-th cell.
use Rattle.std.proofs.Common.{◌≡◌, length}
use Rattle.line.specs.Line.{without_cells}
use Rattle.line.proofs.Line.without.Given as goal

abbrev pub invariant-loop-k : goal.invariant-loop-k
invariant-loop-k l = (length l.l.cells ≡ 12) × (without_cells l.fn.self.cells l.fn.place ≡ without_cells l.l.cells l.k)
