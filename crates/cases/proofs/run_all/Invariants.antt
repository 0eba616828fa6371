-- `run_all`: the cases counted are at most those run.
use Rattle.std.proofs.Common.{◌+◌, ◌≤◌}
use Rattle.cases.proofs.run_all.Given as goal

abbrev pub invariant-loop-number : goal.invariant-loop-number
invariant-loop-number g l = l.tally.agree + l.tally.differ ≤ l.number
