-- `cab_line`: its parts in order.
use Rattle.buffer.proofs.Texts.{and_then}
use Rattle.text.proofs.cab_line.Goals as goal

pub returns : goal.returns
returns c = and_then (and_then (and_then c.word.ensures c.number.ensures) c.cab_rest.ensures) c.put.ensures
