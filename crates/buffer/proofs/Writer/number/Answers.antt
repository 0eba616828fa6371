-- `number`: a space, then the digits, of which there are at most five.
use Rattle.std.proofs.Common.{rules}
use Rattle.buffer.proofs.Texts.{and_then}
use Rattle.buffer.proofs.Writer.number.Goals as goal

pub returns : goal.returns
returns c = and_then c.put.ensures (c.decimal.ensures 4 (search rules))
