-- `fate_of`: what is found at the packet, then whether it is heeded.
use Rattle.events.specs.Fates.{fate_of}
use Rattle.events.proofs.fate_of.Goals as goal

pub returns-then-is_fault : goal.returns-then-is_fault
unfolding fate_of
returns-then-is_fault c = rw (← c.finds.ensures, ← c.is_fault.ensures, c.if-is_fault.true)

pub returns-then-taken : goal.returns-then-taken
unfolding fate_of
returns-then-taken c = rw (← c.finds.ensures, ← c.is_fault.ensures, c.if-is_fault.false, ← c.is_taken-taken.ensures, c.if-taken.true)

pub returns-else-taken : goal.returns-else-taken
unfolding fate_of
returns-else-taken c = rw (← c.finds.ensures, ← c.is_fault.ensures, c.if-is_fault.false, ← c.is_taken-taken.ensures, c.if-taken.false)
