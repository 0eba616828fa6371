-- `answer_line`: its parts in order.
use Rattle.buffer.proofs.Texts.{and_then}
use Rattle.text.proofs.answer_line.Goals as goal

pub returns : goal.returns
returns c = and_then (and_then (and_then c.word.ensures c.number.ensures) c.number-2.ensures) c.put.ensures
