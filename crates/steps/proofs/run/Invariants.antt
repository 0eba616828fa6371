-- `run` goes through the records in order: the invariant is what is left to do, and that the group has its eight of each. Each arm of the loop is one of the arms of Arms.antt.
use lib.ListN.{length}
use lib.Seq.{sets}
use Rattle.protocol.specs.Evening.{operate_all, answers_to}
use Rattle.steps.specs.Steps.{operations_of}
use Rattle.steps.proofs.Holding.{Holds}
use Rattle.steps.proofs.run.Given as goal

abbrev pub invariant-loop-rest : goal.invariant-loop-rest
invariant-loop-rest l =
    Holds l.plan l.list (operate_all (record { group = l.initial.g; points = l.initial.points }) (operations_of l.plan l.list))
    (sets l.initial.answers 0 (answers_to (record { group = l.initial.g; points = l.initial.points }) (operations_of l.plan l.list))) l.answers l.g l.points l.settled l.rest l.at

abbrev pub decreases-loop-rest : goal.decreases-loop-rest
decreases-loop-rest l = length l.rest
