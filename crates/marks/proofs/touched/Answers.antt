-- `any` asks the eight in order, and the definition groups its answers the other way.
use Rattle.std.proofs.Common.{rules, ◌&&◌, refl, ◌∙◌}
use Rattle.std.proofs.Math.Bool.{or_assoc, or-false}
use Rattle.std.proofs.lemmas.Iterator.{YieldsList-from_range}
use Rattle.std.proofs.lemmas.Iterator.Search.{any_from_yields_List}
use Rattle.marks.specs.Marks.{marked}
use Rattle.marks.specs.Reach.{mark}
use Rattle.marks.proofs.touched.Goals as goal

pub returns : goal.returns
returns c =
    any_from_yields_List (λ i. marked c.args.seen i && mark c.args.rows i c.args.j) _ _ _ c.any.ensures.ran (YieldsList-from_range 0 8 8 refl refl) (λ x b q k. search rules)
    ∙ simp (or_assoc, or-false)
