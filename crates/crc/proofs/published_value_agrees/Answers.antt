-- `crc::published_value_agrees` meets its contract: `check` gives the definition's value, and `vectors` has it computed.
-- Assumes nothing.
use mathlib.Core.Path.{◌∙◌}
use borrow.Author.Tests.{eq-eqb}
use Rattle.crc.proofs.Laws.{vectors}
use Rattle.crc.proofs.published_value_agrees.Goals as goal

pub returns : goal.returns
returns c = eq-eqb c.check.result 0x29B1 (c.check.ensures ∙ vectors.1)
