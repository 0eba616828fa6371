-- `emptied`. The loop's invariant: the lines to a from the cabinets passed are emptied, and there are eight rows of lines.
use Rattle.std.proofs.Common.{◌≡◌, length}
use Rattle.protocol.specs.Moves.{emptied_to}
use Rattle.failing.proofs.emptied.Given as goal

abbrev pub invariant-loop-i : goal.invariant-loop-i
invariant-loop-i l = (l.h ≡ emptied_to l.i l.initial.h l.a) × (length l.h.outgoing ≡ 8)
