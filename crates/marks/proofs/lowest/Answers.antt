-- `find` gives the first of the eight that is marked.
use Rattle.std.proofs.Common.{rules, ◌≡◌, true, false, ◌∙◌}
use Rattle.std.proofs.lemmas.Iterator.{first_from_Range}
use Rattle.marks.specs.Marks.{marked, lowest}
use Rattle.marks.proofs.Searches.{lowest_found}
use Rattle.marks.proofs.lowest.Goals as goal

pub returns : goal.returns
unfolding lowest
returns c = c.unwrap_or.ensures ∙ lowest_found (marked c.args.marks) _
    (first_from_Range _ _ _ _ (λ k. marked c.args.marks k ≡ true) (λ k. marked c.args.marks k ≡ false) c.find.ensures.ran (λ x q k. search rules) (λ x q k. search rules))
