-- `fault_word`, by the state of the cabinet.
use Rattle.signals.specs.Signals.{fault_word}
use Rattle.signals.proofs.fault_word.Goals as goal

pub returns-then-serving : goal.returns-then-serving
unfolding fault_word
returns-then-serving c = rw (c.word_by.ensures, ← c.serving.ensures, c.if-serving.true)

pub returns-else-serving : goal.returns-else-serving
unfolding fault_word
returns-else-serving c = rw (← c.serving.ensures, c.if-serving.false)
