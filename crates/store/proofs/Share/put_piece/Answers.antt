-- `put_piece` follows its definition, call by call.
use Rattle.store.specs.Share.{put_piece_in}
use Rattle.store.proofs.Share.put_piece.Goals as goal

pub returns : goal.returns
unfolding put_piece_in
returns c = rw (c.piece_to-2.ensures, c.piece_to.ensures)
