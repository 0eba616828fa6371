-- How long a chronicle is.
use Prim.Native.Nat.{ℕ, suc, ◌*◌, ◌≤◌}
use mathlib.Core.List.{List, [], ◌∷◌}
use native.Mathlib.Omega.{arith}
use lib.ListN.{length, length-append}
use Rattle.protocol.specs.History.{Operation, World, advance}
use Rattle.claims.proofs.Claims.Demand.{advance_n}
use Rattle.turns.specs.Turns.{order_for}
use Rattle.newest.specs.Sorts.{sort_for}
use Rattle.numbers.specs.Numbers.{answer_to, numbers_after, number_of}
use Rattle.rows.specs.Rows.{row_octets}
use Rattle.rows.proofs.Lengths.{row_length}
use Rattle.chronicle.specs.Chronicle.{rows_from}

pub rows_length : (xs : List Operation) (k : ℕ) (w : World) (numbers : List ℕ) → w.group.n ≤ 8 → length (rows_from k w numbers xs) ≤ 3263 * length xs
rows_length [] k w numbers h = omega arith
rows_length (x ∷ xs) k w numbers h =
    let w' = advance w x in
    let n : w'.group.n ≤ 8 = omega (arith, advance_n x w) in
    let later = numbers_after k w w' numbers in
    let row = row_octets (answer_to w x) w.group w'.group (sort_for (order_for x)) (number_of later) in
    rw (length-append row (rows_from (suc k) w' later xs))
    (omega (arith, row_length (answer_to w x) w.group w'.group (sort_for (order_for x)) (number_of later) n, rows_length xs (suc k) w' later n))
