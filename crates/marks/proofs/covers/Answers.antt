-- `all` asks the eight in order, and the definition groups its answers the other way.
use Rattle.std.proofs.Common.{rules, ◌||◌, not, refl, ◌∙◌}
use Rattle.std.proofs.Math.Bool.{and_assoc, and-true}
use Rattle.std.proofs.lemmas.Iterator.{YieldsList-from_range}
use Rattle.std.proofs.lemmas.Iterator.Search.{all_from_yields_List}
use Rattle.marks.specs.Marks.{marked, covers}
use Rattle.marks.proofs.covers.Goals as goal

pub returns : goal.returns
unfolding covers
returns c =
    all_from_yields_List (λ i. not (marked c.args.want i) || marked c.args.have i) _ _ _ c.all.ensures.ran (YieldsList-from_range 0 8 8 refl refl) (λ x b q k. search rules)
    ∙ simp (and_assoc, and-true)
