-- `decimal` writes a number's digits for any number of places that hold it.
use Rattle.buffer.proofs.Digits.{one, more}
use Rattle.buffer.proofs.Writer.+decimal.Goals as goal
use Rattle.buffer.proofs.Writer.+decimal.Goals.{then-n-ge10, else-n-ge10}

pub returns : goal.returns
returns t c = elim c.if-n-ge10.branch [
  | then-n-ge10 w ↦ more w.if-n-ge10.true c.digit.ensures (rw w.self-is w.decimal.ensures) c.put.ensures
  | else-n-ge10 w ↦ one w.if-n-ge10.false c.digit.ensures (rw w.self-is at c.put.ensures)
]
