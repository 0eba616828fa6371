-- Of each save in the history's list the number of the operation that made it, and so of the one that the rule gives.
use Rattle.std.specs.Prelude.{ℕ, suc, ◌≡◌, cond, List, [], ◌∷◌, length, get_or, drop, ltb}
use Rattle.load.specs.Load.{load}
use Rattle.protocol.specs.declared.Site.{Site}
use Rattle.protocol.specs.History.{Save, Operation, World, advance, opening}
use Rattle.protocol.specs.Restored.{Octets, AllOctets}
use Rattle.protocol.specs.Evening.{operate}
use Rattle.turns.specs.Turns.{order_for}
use Rattle.newest.specs.declared.Newest.{Newest}
use Rattle.newest.specs.Sorts.{sort_for}
use Rattle.newest.specs.Newest.{start_newest, newest_in}

-- operation k makes a save where the list is longer after it, and passes the newest over where it is shorter
abbrev pub renumbered : ℕ → List Save → List Save → List ℕ → List ℕ
renumbered k before after numbers =
    cond (ltb (length before) (length after)) (k ∷ numbers) (cond (ltb (length after) (length before)) (drop 1 numbers) numbers)

-- 0 for the start
abbrev pub number_of : List ℕ → ℕ
number_of numbers = get_or numbers 0 0

-- the numbers after operation k, which takes world w to w'
abbrev pub numbers_after : ℕ → World → World → List ℕ → List ℕ
numbers_after k w w' numbers = renumbered k w.history.saves w'.history.saves numbers

abbrev pub site_of : World → Site
site_of w = record { group = w.group; points = w.points }

abbrev pub answer_to : World → Operation → ℕ
answer_to w x = (operate (site_of w) x).answer

-- what the run keeps, after operation k
abbrev pub newest_after : ℕ → World → Operation → Newest → Newest
newest_after k w x m = newest_in (answer_to w x) m k w.group (advance w x).group (sort_for (order_for x))

-- ---- the claim: at every moment of every run from a loaded file both give one number

abbrev pub numbers_from : ℕ → World → List ℕ → List Operation → List ℕ
numbers_from k w numbers [] = numbers
numbers_from k w numbers (x ∷ xs) = numbers_from (suc k) (advance w x) (numbers_after k w (advance w x) numbers) xs

abbrev pub newest_from : ℕ → World → Newest → List Operation → Newest
newest_from k w m [] = m
newest_from k w m (x ∷ xs) = newest_from (suc k) (advance w x) (newest_after k w x m) xs

abbrev pub KeptAsNumbered : Type 0
KeptAsNumbered =
    (f : List ℕ) → Octets f → (load f).answer ≡ 0 → (xs : List Operation) → AllOctets xs
    → (newest_from 1 (opening (load f).group) start_newest xs).number ≡ number_of (numbers_from 1 (opening (load f).group) [] xs)
