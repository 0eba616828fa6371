-- The records of a list of steps, or of a plan, one at a time.
use Prim.Native.Nat.{ℕ, suc}
use mathlib.Core.Path.{◌≡◌, refl, ap}
use mathlib.Core.Bool.{Bool}
use mathlib.Core.List.{List, [], ◌∷◌, map}
use lib.ListN.{length, length-map}
use Rattle.protocol.specs.declared.Site.{Site}
use Rattle.protocol.specs.declared.Turn.{Turn}
use Rattle.protocol.specs.History.{Operation}
use Rattle.protocol.specs.Evening.{operate, operate_all, answers_to}
use Rattle.turns.specs.Turns.{operation_in}

-- what a list of records makes of a group and its points, and what they are answered
abbrev pub all_of : Bool → Site → List (List ℕ) → Site
all_of plan s rs = operate_all s (map (operation_in plan) rs)

abbrev pub said_of : Bool → Site → List (List ℕ) → List ℕ
said_of plan s rs = answers_to s (map (operation_in plan) rs)

pub none_made : (plan : Bool) (s : Site) → all_of plan s [] ≡ s
unfolding operate_all
none_made plan s = refl

pub none_said : (plan : Bool) (s : Site) → said_of plan s [] ≡ []
unfolding answers_to
none_said plan s = refl

pub one_made : (plan : Bool) (s : Site) (r : List ℕ) {t : Turn} → operate s (operation_in plan r) ≡ t → (rs : List (List ℕ))
    → all_of plan s (r ∷ rs) ≡ all_of plan t.site rs
unfolding operate_all
one_made plan s r e rs = rw (← e)

pub one_said : (plan : Bool) (s : Site) (r : List ℕ) {t : Turn} → operate s (operation_in plan r) ≡ t → (rs : List (List ℕ))
    → said_of plan s (r ∷ rs) ≡ t.answer ∷ said_of plan t.site rs
unfolding answers_to
one_said plan s r e rs = rw (← e)

pub an_answer_each : (xs : List Operation) (s : Site) → length (answers_to s xs) ≡ length xs
unfolding answers_to
an_answer_each [] s = refl
an_answer_each (x ∷ xs) s = ap suc (an_answer_each xs (operate s x).site)

pub each_said : (plan : Bool) (rs : List (List ℕ)) (s : Site) → length (said_of plan s rs) ≡ length rs
each_said plan rs s = rw (an_answer_each (map (operation_in plan) rs) s) (length-map rs (operation_in plan))
