-- `place_of` asks the places in order.
use Rattle.std.proofs.Common.{◌∙◌, sym, arith}
use Rattle.points.specs.Points.{is_named, place_of}
use Rattle.points.proofs.Places.{first_is, first_none}
use Rattle.points.proofs.Points.place_of.Goals as goal

pub returns-then-is_named : goal.returns-then-is_named
unfolding place_of
returns-then-is_named c =
    first_is (is_named c.args.self.now c.args.name) c.loop-i.i c.loop-i-test.true c.loop-i.invariant (sym c.is_named.ensures ∙ c.if-is_named.true)

pub returns : goal.returns
unfolding place_of
returns c = first_none (is_named c.args.self.now c.args.name) (λ k l. c.loop-i.invariant k (omega arith))
