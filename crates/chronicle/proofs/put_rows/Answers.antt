-- The goals of `put_rows` that the check leaves, by the chunk that the iterator gives.
use Rattle.std.proofs.Common.{◌≡◌, length, min, ◌∙◌, rules}
use Rattle.turns.specs.Turns.{record_size}
use Rattle.chronicle.proofs.Turns.{begun, going, few_left, at_end}
use Rattle.chronicle.proofs.put_rows.Goals as goal

pub loop-i-init : goal.loop-i-init
loop-i-init c = let left = c.into_iter-i-iterator.result in
    let a = c.args in
    let none : left.count ≡ 0 = search rules in
    let all : left.iter.rest.now ≡ a.list.now = search rules in
    (search rules, rw (none, all) c.requires, begun a.plan a.site a.list.now _ _ _ _ none c.start-newest.ensures all)

pub loop-i-preserved : goal.loop-i-preserved
loop-i-preserved c = let left = c.loop-i.i-iterator in
    let plan = c.args.plan in
    let first = c.in-Some.record.now in
    let rest = c.next.new.self.iter.rest.now in
    let step = c.in-Some.ensures.steps in
    let i = c.loop-i.invariant in
    let size : length first ≡ min (record_size plan) (length left.iter.rest.now) = rw i.0 at step.0.1.1 in (
      step.0.0 ∙ i.0,
      rw step.2 (few_left plan left.count first rest step.0.1.0 size i.1),
      rw step.2 (going plan left.count first rest c.loop-i.here c.loop-i.newest step.0.1.0 size step.0.1.2 i.2 c.turn-t.ensures c.order_of.ensures c.sort_for-sort.ensures
          (rw step.1 at c.after-newest.ensures) c.put_row.ensures),
    )

pub returns : goal.returns
returns c = at_end c.args.plan c.loop-i.i-iterator.count c.loop-i.i-iterator.iter.rest.now c.loop-i.here c.loop-i.newest c.in-None.ensures.steps.0.1.0 c.loop-i.invariant.2
