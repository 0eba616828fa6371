-- `piece_to`, by whether the store is present and which one it is.
use Rattle.store.specs.Share.{piece_to}
use Rattle.store.proofs.Share.piece_to.Goals as goal

pub returns-then-not-present : goal.returns-then-not-present
unfolding piece_to
returns-then-not-present c = rw c.if-not-present.true

pub returns-then-first : goal.returns-then-first
unfolding piece_to
returns-then-first c = rw (c.with_piece.ensures, c.if-not-present.false, c.if-first.true)

pub returns-else-first : goal.returns-else-first
unfolding piece_to
returns-else-first c = rw (c.with_piece-else-first.ensures, c.if-not-present.false, c.if-first.false)
