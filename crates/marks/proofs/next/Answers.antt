-- `find` gives the first of the eight that is fresh.
use Rattle.std.proofs.Common.{rules, ◌≡◌, true, false, ◌∙◌}
use Rattle.std.proofs.lemmas.Iterator.{first_from_Range}
use Rattle.marks.specs.Reach.{fresh}
use Rattle.marks.proofs.Searches.{lowest_found}
use Rattle.marks.proofs.next.Goals as goal

pub returns : goal.returns
returns c = c.unwrap_or.ensures ∙ lowest_found (fresh c.args.rows c.args.working c.args.seen) _
    (first_from_Range _ _ _ _ (λ k. fresh c.args.rows c.args.working c.args.seen k ≡ true) (λ k. fresh c.args.rows c.args.working c.args.seen k ≡ false) c.find.ensures.ran (λ x q k. search rules) (λ x q k. search rules))
