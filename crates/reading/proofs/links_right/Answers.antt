use Rattle.std.proofs.Common.{rules, refl, ◌∙◌, ap, ◌&&◌}
use Rattle.load.specs.Load.{link_right, rises_to, links_right}
use Rattle.reading.proofs.Entries.{all_below}
use Rattle.reading.proofs.links_right.Goals as goal

pub returns : goal.returns
returns c =
    let file = c.args.file.now in
    all_below (λ k. link_right file k && rises_to file k) (λ n. links_right n file) refl (λ n. refl) c.link_count.result _ _ _ c.all.ensures.ran (λ x b q called. search rules)
    ∙ ap (λ n. links_right n file) c.link_count.ensures
