-- `fold` takes the register over the octets in order, as the definition does.
-- Assumes nothing.
use Rattle.std.proofs.Common.{rules, ℕ, ◌≡◌, List, [], ◌∷◌, ◌++◌, refl, sym, ap, ◌∙◌}
use Rattle.std.proofs.lemmas.Fn.{fold_over, fronts}
use Rattle.std.proofs.lemmas.Iterator.{YieldsList-from_slice}
use Rattle.crc.specs.Crc.{crc_octet, crc_from}
use Rattle.crc.proofs.Laws.{from_append}
use Rattle.crc.proofs.over.Goals as goal

-- one octet more
one_more : (r : ℕ) (xs : List ℕ) (x : ℕ) (a b : ℕ) → a ≡ crc_from r xs → b ≡ crc_octet a x → b ≡ crc_from r (xs ++ (x ∷ []))
unfolding crc_from
one_more r xs x a b e f = f ∙ ap (λ (k : ℕ). crc_octet k x) e ∙ sym (from_append xs (x ∷ []) r)

pub returns : goal.returns
unfolding crc_from
returns c =
    fold_over fronts (λ y. y.now) _ (λ xs a. a ≡ crc_from c.args.register xs) _
    (λ xs a x b f e k. (one_more c.args.register xs x.now a b e (search rules), search rules))
    c.iter.result c.args.octets.now c.args.register _ (YieldsList-from_slice c.args.octets.now cc).runs refl c.fold.ensures.ran
