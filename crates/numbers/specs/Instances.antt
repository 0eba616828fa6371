-- Closed runs in which a save is passed over: the numbers of the saves as the history gives them, newest first, and the number that the run keeps.
use Rattle.std.specs.Prelude.{ℕ, suc, ◌≡◌, List, [], ◌∷◌, ◌++◌}
use Rattle.load.specs.Load.{load}
use Rattle.protocol.specs.History.{Operation, World, advance, opening}
use Rattle.protocol.specs.Examples.{Example, passed_over}
use Rattle.protocol.specs.Returns.{return_stays}
use Rattle.turns.specs.Turns.{order_for}
use Rattle.newest.specs.declared.Newest.{Newest}
use Rattle.newest.specs.Sorts.{sort_for}
use Rattle.newest.specs.Newest.{start_newest, newest_in}
use Rattle.numbers.specs.Numbers.{numbers_after, answer_to}

-- what is told before operation k
pub record Told : Type 0 where
  pub k : ℕ
  pub world : World
  pub numbers : List ℕ
  pub newest : Newest

-- the world after the operation is handed on, so that it is computed once
abbrev pub tell_on : Told → Operation → World → Told
tell_on t x w = record {
  k = suc t.k;
  world = w;
  numbers = numbers_after t.k t.world w t.numbers;
  newest = newest_in (answer_to t.world x) t.newest t.k t.world.group w.group (sort_for (order_for x));
}

unfoldable pub tell : Told → List Operation → Told
tell t [] = t
tell t (x ∷ xs) = tell (tell_on t x (advance t.world x)) xs

abbrev pub at_start : Example → Told
at_start e = record { k = 1; world = opening (load e.file).group; numbers = []; newest = start_newest }

abbrev pub said_of : Told → List ℕ × ℕ
said_of t = (t.numbers, t.newest.number)

-- at the fault, and at the recovery's end, in one walk
abbrev pub said_both : Told → List Operation → (List ℕ × ℕ) × (List ℕ × ℕ)
said_both t xs = (said_of t, said_of (tell t xs))

unfoldable pub told : Example → (List ℕ × ℕ) × (List ℕ × ℕ)
told e = said_both (tell (at_start e) e.before) (e.since ++ e.last ∷ [])

-- two saves, committed in steps 23 and 50; the second is passed over, and the first comes back
abbrev pub SecondPassedOver : Type 0
SecondPassedOver = told passed_over ≡ ((50 ∷ 23 ∷ [], 50), (23 ∷ [], 23))

-- saves committed in operations 23 and 49, a return to a point in 52, and a save of 74 that is passed over: it gives way to the return
abbrev pub ReturnStays : Type 0
ReturnStays = told return_stays ≡ ((74 ∷ 52 ∷ 49 ∷ 23 ∷ [], 74), (52 ∷ 49 ∷ 23 ∷ [], 52))
