-- What a search over the eight numbers gives.
use Rattle.std.proofs.Common.{ℕ, ◌≡◌, ◌<◌, ◌≤◌, Bool, true, false, Option, Some, None, refl, arith}
use Rattle.std.specs.Option.{MatchOption, unwrap_or}
use Rattle.marks.specs.Marks.{lowest_from}
use Rattle.marks.specs.MarksLaws.{lowest_from_le_eight, lowest_from_passes, lowest_from_least, never_both}

module _ (test : ℕ → Bool) where
  -- the lowest that passes, 8 where none does
  record Lowest (l : ℕ) : Type 0 where
    within : l ≤ 8
    passes : l < 8 → test l ≡ true
    least : (k : ℕ) → k < l → test k ≡ false

  not_below : (l m : ℕ) → Lowest l → Lowest m → l < m → ⊥
  not_below l m a b h = let w = b.within in never_both (test l) (a.passes (omega arith)) (b.least l h)

  same : (l m : ℕ) → Lowest l → Lowest m → l ≡ m
  same l m a b = let f = not_below l m a b in let g = not_below m l b a in omega arith

  lowest_from_lowest : Lowest (lowest_from test 8 0)
  lowest_from_lowest = record {
    within = lowest_from_le_eight test 8 0 refl;
    passes = lowest_from_passes test 8 0;
    least = λ k h. lowest_from_least test 8 0 refl k (omega arith) h;
  }

  -- what `find` gives, 8 where it gives none, is the lowest that passes
  pub lowest_found : (r : Option ℕ)
      → MatchOption r ((k : ℕ) → 0 ≤ k → k < 8 → test k ≡ false) (λ i. (0 ≤ i) × (i < 8) × (test i ≡ true) × ((k : ℕ) → 0 ≤ k → k < i → test k ≡ false))
      → unwrap_or r 8 ≡ lowest_from test 8 0
  lowest_found None none = same 8 (lowest_from test 8 0) (record { within = omega arith; passes = λ h. absurd (omega arith); least = λ k h. none k (omega arith) h }) lowest_from_lowest
  lowest_found (Some i) found = same i (lowest_from test 8 0) (record { within = omega (arith, found.1); passes = λ h. found.2; least = λ k h. found.3 k (omega arith) h }) lowest_from_lowest
