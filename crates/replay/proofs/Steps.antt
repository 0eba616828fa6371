-- A list of step records, one at a time.
use Prim.Native.Nat.{ℕ, suc}
use mathlib.Core.Path.{◌≡◌, refl, ap}
use mathlib.Core.List.{List, [], ◌∷◌}
use lib.ListN.{length}
use Rattle.points.specs.declared.Points.{Points}
use Rattle.group.specs.declared.Group.{Group}
use Rattle.protocol.specs.Entry.{step, step_all, answers_from}
use Rattle.protocol.specs.History.{steps}
use Rattle.protocol.specs.Evening.{operate, operate_all, answers_to}

pub each_answered : (rs : List (List ℕ)) (g : Group) → length (answers_from g rs) ≡ length rs
unfolding answers_from
each_answered [] g = refl
each_answered (r ∷ rs) g = ap suc (each_answered rs (step g r).group)

-- they are operations too, whatever points there are
pub steps_groups : (rs : List (List ℕ)) (g : Group) (ps : Points) → step_all g rs ≡ (operate_all (record { group = g; points = ps }) (steps rs)).group
unfolding step_all operate_all operate
steps_groups [] g ps = refl
steps_groups (r ∷ rs) g ps = steps_groups rs (step g r).group ps

pub steps_answers : (rs : List (List ℕ)) (g : Group) (ps : Points) → answers_from g rs ≡ answers_to (record { group = g; points = ps }) (steps rs)
unfolding answers_from answers_to operate
steps_answers [] g ps = refl
steps_answers (r ∷ rs) g ps = ap (λ (rest : List ℕ). (step g r).answer ∷ rest) (steps_answers rs (step g r).group ps)
