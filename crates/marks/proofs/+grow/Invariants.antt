-- The measure of `grow` is the number not yet seen, which the next one's mark makes one fewer.
use Rattle.marks.specs.Reach.{unseen}
use Rattle.marks.proofs.+grow.Given as goal

abbrev pub decreases-grow : goal.decreases-grow
decreases-grow l = unseen l.seen
