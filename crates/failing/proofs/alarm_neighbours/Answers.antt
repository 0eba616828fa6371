-- The goals of `alarm_neighbours` that the check leaves.
use Rattle.std.proofs.Common.{rules, add-one, ◌∙◌, sym}
use Rattle.failing.proofs.Turns.{none_yet, next, passed}
use Rattle.failing.proofs.alarm_neighbours.Goals.{then-is_neighbour, else-is_neighbour}
use Rattle.failing.proofs.alarm_neighbours.Goals as goal

pub loop-i-init : goal.loop-i-init
loop-i-init c = none_yet _ _ _ (search rules) (search rules)

pub loop-i-preserved : goal.loop-i-preserved
loop-i-preserved c =
    elim c.if-is_neighbour.branch [
      | then-is_neighbour w ↦
          rw (w.h-is, w.settled-is, add-one)
          (next _ _ w.enter_error-left.result _ c.loop-i.invariant c.loop-i-test.true (sym c.is_neighbour.ensures ∙ w.if-is_neighbour.true) w.enter_error-left.ensures w.word_by-settled.ensures)
      | else-is_neighbour w ↦
          rw (w.h-is, w.settled-is, add-one)
          (passed _ c.loop-i.invariant c.loop-i-test.true (sym c.is_neighbour.ensures ∙ w.if-is_neighbour.false))
    ]
