-- What is asked of the row of cabinets is what is asked of the group.
use mathlib.Core.Path.{◌≡◌, refl}
use mathlib.Core.Bool.{Bool, true, false, ◌||◌}
use mathlib.Core.List.{List, [], ◌∷◌}
use native.Mathlib.Omega.{arith}
use lib.ListN.{length}
use Rattle.std.specs.List.{list_any}
use Rattle.marks.specs.Marks.{lowest}
use Rattle.state.specs.declared.State.TheVariants.{Crashed}
use Rattle.state.specs.State.{is_in, in_recovery}
use Rattle.cabinet.specs.declared.Cabinet.{Cabinet}
use Rattle.group.specs.declared.Group.{Group}
use Rattle.group.specs.Group.{cabinet, some, is_crashed, recovering_ones}
use Rattle.survey.specs.Survey.{any_of}

pub any_crashed : (g : Group) → any_of (λ c. is_in c.phase.state Crashed) g.cabinets ≡ is_crashed g
unfolding is_crashed cabinet
any_crashed g = refl

pub any_recovering : (g : Group) → any_of (λ c. in_recovery c.phase.state) g.cabinets ≡ some (recovering_ones g)
unfolding recovering_ones cabinet
any_recovering g = refl

-- one of eight marks stands where the lowest is below eight
some_of : (a b c d e f g h : Bool) → a || (b || (c || (d || (e || (f || (g || (h || false))))))) ≡ some (a ∷ b ∷ c ∷ d ∷ e ∷ f ∷ g ∷ h ∷ [])
unfolding some lowest
some_of true b c d e f g h = refl
some_of false true c d e f g h = refl
some_of false false true d e f g h = refl
some_of false false false true e f g h = refl
some_of false false false false true f g h = refl
some_of false false false false false true g h = refl
some_of false false false false false false true h = refl
some_of false false false false false false false true = refl
some_of false false false false false false false false = refl

-- the test is asked of each of the eight
pub eight_asked : (f : Cabinet → Bool) (cs : List Cabinet) → length cs ≡ 8 → list_any f cs ≡ any_of f cs
eight_asked f (s ∷ t ∷ u ∷ v ∷ w ∷ x ∷ y ∷ z ∷ []) e = some_of (f s) (f t) (f u) (f v) (f w) (f x) (f y) (f z)
eight_asked f [] e = absurd (omega (arith, e))
eight_asked f (s ∷ []) e = absurd (omega (arith, e))
eight_asked f (s ∷ t ∷ []) e = absurd (omega (arith, e))
eight_asked f (s ∷ t ∷ u ∷ []) e = absurd (omega (arith, e))
eight_asked f (s ∷ t ∷ u ∷ v ∷ []) e = absurd (omega (arith, e))
eight_asked f (s ∷ t ∷ u ∷ v ∷ w ∷ []) e = absurd (omega (arith, e))
eight_asked f (s ∷ t ∷ u ∷ v ∷ w ∷ x ∷ []) e = absurd (omega (arith, e))
eight_asked f (s ∷ t ∷ u ∷ v ∷ w ∷ x ∷ y ∷ []) e = absurd (omega (arith, e))
eight_asked f (s ∷ t ∷ u ∷ v ∷ w ∷ x ∷ y ∷ z ∷ q ∷ r) e = absurd (omega (arith, e))
