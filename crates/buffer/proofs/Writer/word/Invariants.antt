-- `word` goes through its text in order: the invariant is that the octets passed are written.
use Rattle.std.proofs.Common.{take}
use Rattle.buffer.specs.Added.{Added}
use Rattle.buffer.proofs.Writer.word.Given as goal

abbrev pub invariant-loop-octet : goal.invariant-loop-octet
invariant-loop-octet l = Added (take l.octet-index l.text) l.initial.self l.self
