-- The goals of `plan_lines` that the check leaves, by the chunk that the iterator gives.
use Rattle.std.proofs.Common.{◌≡◌, length, min, ◌∙◌}
use Rattle.diary.proofs.Lines.{one_more, few_left, at_end}
use Rattle.diary.proofs.plan_lines.Goals as goal

pub loop-i-preserved : goal.loop-i-preserved
loop-i-preserved c = let left = c.loop-i.i-iterator in
    let first = c.in-Some.record.now in
    let rest = c.next.new.self.iter.rest.now in
    let step = c.in-Some.ensures.steps in
    let i = c.loop-i.invariant in
    let size : length first ≡ min 9 (length left.iter.rest.now) = rw i.0 at step.0.1.1 in (
      step.0.0 ∙ i.0,
      rw step.2 (few_left left.count first rest step.0.1.0 size i.1),
      rw step.2 (one_more left.count c.args.answers.now first rest step.0.1.0 size step.0.1.2 i.2 (rw step.1 at c.plan_line.ensures)),
    )

pub returns : goal.returns
returns c = at_end c.loop-i.i-iterator.count c.args.answers.now c.loop-i.i-iterator.iter.rest.now c.in-None.ensures.steps.0.1.0 c.loop-i.invariant.2
