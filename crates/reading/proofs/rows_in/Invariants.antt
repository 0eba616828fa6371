-- `rows_in` takes the entries in order: the invariant is that the rows are those of the entries passed.
use Rattle.std.proofs.Common.{◌≡◌}
use Rattle.load.specs.Load.{link_rows}
use Rattle.reading.proofs.rows_in.Given as goal

abbrev pub invariant-loop-k : goal.invariant-loop-k
invariant-loop-k l = l.rows ≡ link_rows l.k l.file
