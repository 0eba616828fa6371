-- The comparison of two names is that of arrays.
use Rattle.std.proofs.Common.{ℕ, ◌≡◌, List, [], ◌∷◌, refl, eqb}
use Rattle.std.specs.Cmp.Lexicographic.{pointwise}
use Rattle.points.specs.Points.{same_name}

pub compared : (a b : List ℕ) → pointwise eqb a b ≡ same_name a b
unfolding same_name
compared [] [] = refl
compared [] (y ∷ ys) = refl
compared (x ∷ xs) [] = refl
compared (x ∷ xs) (y ∷ ys) = rw (compared xs ys)
