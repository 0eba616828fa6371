-- `word_by`, by the version.
use Rattle.std.proofs.Common.{rules, ⊎_elim}
use Rattle.moves.specs.Seats.{word_by}
use Rattle.moves.proofs.word_by.Goals as goal

pub returns-in-Known : goal.returns-in-Known
unfolding word_by
returns-in-Known c = rw (c.enters.ensures, c.reason_for.ensures, c.in-Known.is)

pub returns-in-Unknown : goal.returns-in-Unknown
unfolding word_by
returns-in-Unknown c = ⊎_elim (λ x. search rules) (λ x. search rules) c.in-Unknown.is
