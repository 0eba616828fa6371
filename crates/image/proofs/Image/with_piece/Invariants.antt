-- `with_piece` goes through the piece in order: the octets passed are copied.
use Rattle.std.proofs.Common.{◌≡◌}
use Rattle.image.specs.Image.{piece_to}
use Rattle.image.proofs.Image.with_piece.Given as goal

abbrev pub invariant-loop-n : goal.invariant-loop-n
invariant-loop-n l = l.to ≡ piece_to l.n l.k l.from l.initial.to
