-- The rows with the number of the save that a run keeps are the chronicle's: for every run from a loaded file.
use Prim.Native.Nat.{ℕ, suc}
use mathlib.Core.Path.{◌≡◌, refl, ap, ◌∙◌}
use mathlib.Core.List.{List, [], ◌∷◌, ◌++◌}
use Rattle.outlet.specs.declared.Party.{Party}
use Rattle.load.specs.Load.{load, feeder_total}
use Rattle.protocol.specs.Evening.{operate}
use Rattle.protocol.specs.History.{Operation, stepping, pointing, returning, World, advance, opening}
use Rattle.protocol.specs.Restored.{Octets, AllOctets}
use Rattle.claims.proofs.Claims.Demand.{Good, one_more}
use Rattle.replay.specs.Replay.{at_first}
use Rattle.turns.specs.Turns.{order_for}
use Rattle.newest.specs.declared.Newest.{Newest}
use Rattle.newest.specs.Sorts.{sort_for}
use Rattle.newest.specs.Newest.{start_newest}
use Rattle.numbers.specs.Numbers.{site_of, answer_to, number_of, numbers_after, newest_after}
use Rattle.numbers.proofs.Follows.{Follows, follows, follows_start}
use Rattle.numbers.proofs.Numbers.{good_opening}
use Rattle.rows.specs.Rows.{row_octets}
use Rattle.chronicle.specs.Chronicle.{rows_from}
use Rattle.chronicle.specs.Kept.{rows_by}

step_site : (x : Operation) (w : World) → (operate (site_of w) x).site ≡ site_of (advance w x)
unfolding operate advance
step_site (stepping r) w = refl
step_site (pointing name) w = refl
step_site (returning name) w = refl

same_rows : (total : Party → ℕ) (xs : List Operation) (w : World) → Good total w → AllOctets xs → (k : ℕ) (m : Newest) (numbers : List ℕ)
    → Follows m numbers w.history → rows_by k (site_of w) m xs ≡ rows_from k w numbers xs
same_rows total [] w good o k m numbers f = refl
same_rows total (x ∷ xs) w good o k m numbers f =
    let later = follows total w good x k m numbers f in
    rw (step_site x w)
    (ap (λ (n : ℕ). row n ++ rows_by (suc k) (site_of (advance w x)) (newest_after k w x m) xs) later.number
    ∙ ap (λ (rest : List ℕ). row (number_of (numbers_after k w (advance w x) numbers)) ++ rest)
    (same_rows total xs (advance w x) (one_more total w good x o.0).0 o.1 (suc k) (newest_after k w x m) (numbers_after k w (advance w x) numbers) later))
  where
    row : ℕ → List ℕ
    row n = row_octets (answer_to w x) w.group (advance w x).group (sort_for (order_for x)) n

pub rows_same : (file : List ℕ) → Octets file → (load file).answer ≡ 0 → (xs : List Operation) → AllOctets xs
    → rows_by 1 (at_first (load file).group) start_newest xs ≡ rows_from 1 (opening (load file).group) [] xs
rows_same file of e xs o =
    same_rows (feeder_total file) xs (opening (load file).group) (good_opening file of e) o 1 start_newest [] (follows_start (load file).group)
