-- `alarm_neighbours`. The loop's invariant: the cabinets passed have had their turn, the others are as they were.
use Rattle.failing.proofs.Turns.{Alarmed}
use Rattle.failing.proofs.alarm_neighbours.Given as goal

abbrev pub invariant-loop-i : goal.invariant-loop-i
invariant-loop-i l = Alarmed l.initial.h l.a l.p l.h l.settled l.i
