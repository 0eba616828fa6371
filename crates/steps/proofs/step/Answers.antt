-- `step` is a run of one record; more than six octets are none.
use mathlib.Core.Path.{◌∙◌}
use native.Mathlib.Omega.{arith}
use Rattle.steps.proofs.One.{one_record, too_many}
use Rattle.steps.proofs.step.Goals as goal

pub returns-then-octets-gt6 : goal.returns-then-octets-gt6
returns-then-octets-gt6 c = c.answering.ensures ∙ too_many _ _ c.if-octets-gt6.true

pub returns : goal.returns
returns c =
    let ran = c.run-after.ensures in
    rw (c.answering-2.ensures, ran.answers_after, ran.value) (one_record _ _ _ _ (omega arith))
