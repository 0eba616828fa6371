-- `crashes` is the three tests of its contract, the second asked of the row of cabinets.
use Rattle.std.proofs.Common.{◌≡◌, ◌∙◌, sym, true, false, true≢false}
use Rattle.group.specs.Group.{some, recovering_ones}
use Rattle.survey.proofs.Rows.{any_recovering}
use Rattle.failing.proofs.crashes.Goals.{then-is_last, else-is_last}
use Rattle.failing.proofs.crashes.Goals as goal

pub returns-then-any_recovering : goal.returns-then-any_recovering
returns-then-any_recovering c =
    elim c.if-is_last.branch [
      | then-is_last w ↦ rw (c.if-any_recovering.true, ← c.is_last.ensures, w.if-is_last.true)
      | else-is_last w ↦
          let recovers : some (recovering_ones c.args.g) ≡ true = sym (any_recovering c.args.g) ∙ sym w.any_recovering.ensures ∙ sym w.value-is ∙ c.if-any_recovering.true in
          rw (c.if-any_recovering.true, ← c.is_last.ensures, w.if-is_last.false, recovers)
    ]

pub returns-else-any_recovering : goal.returns-else-any_recovering
returns-else-any_recovering c =
    elim c.if-is_last.branch [
      | then-is_last w ↦ let never : true ≡ false = cc in absurd (true≢false never)
      | else-is_last w ↦
          let goes_on : some (recovering_ones c.args.g) ≡ false = sym (any_recovering c.args.g) ∙ sym w.any_recovering.ensures ∙ sym w.value-is ∙ c.if-any_recovering.false in
          rw (← c.is_last.ensures, w.if-is_last.false, goes_on)
    ]
