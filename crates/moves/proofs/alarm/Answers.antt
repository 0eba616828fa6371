-- `alarm` is the move of the group, stored back.
use mathlib.Core.Path.{◌≡◌, sym, ◌∙◌}
use lib.ListN.{length}
use borrow.Author.Rules.{rules}
use Rattle.moves.proofs.Stored.{error_stored}
use Rattle.moves.proofs.alarm.Goals as goal

pub returns : goal.returns
returns c = let a = c.args in
    let h : length a.g.cabinets ≡ 8 = search rules in
    let k : length a.g.outgoing ≡ 8 = search rules in
    rw (c.with_settled.ensures, c.word_by.ensures, c.stored.ensures, c.enter_error.ensures, c.taken_out-s.ensures)
    (sym (error_stored a.g a.i a.p (h ∙ sym k)))
