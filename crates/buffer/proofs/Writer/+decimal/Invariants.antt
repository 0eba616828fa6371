-- The measure of `decimal` is the number itself.
use Rattle.buffer.proofs.Writer.+decimal.Given as goal

abbrev pub decreases-decimal : goal.decreases-decimal
decreases-decimal l = l.n
