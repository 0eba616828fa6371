use Rattle.std.proofs.Common.{rules, refl, ◌∙◌, ap}
use Rattle.load.specs.Load.{cabinet_right, cabinets_right}
use Rattle.reading.proofs.Entries.{all_below}
use Rattle.reading.proofs.cabinets_right.Goals as goal

pub returns : goal.returns
returns c =
    let file = c.args.file.now in
    all_below (cabinet_right file) (λ n. cabinets_right n file) refl (λ n. refl) c.number.result _ _ _ c.all.ensures.ran (λ x b q called. search rules)
    ∙ ap (λ n. cabinets_right n file) c.number.ensures
