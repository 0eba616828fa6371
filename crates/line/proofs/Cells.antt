-- Laws on the cells of a line: what one more cell says of the first empty one, of the count, and of a loss.
use Prim.Native.Nat.{ℕ, zero, suc, ◌+◌, ◌≤◌}
use native.Mathlib.Numerals.{add-one}
use native.Mathlib.Omega.{arith}
use mathlib.Core.Bool.{Bool, true, false, cond}
use mathlib.Core.Path.{◌≡◌, refl, ap}
use mathlib.Core.List.{List, [], ◌∷◌}
use lib.ListN.{length, get_or, set}
use Rattle.packet.specs.declared.Packet.{Packet}
use Rattle.line.specs.declared.Cell.{Cell}
use Rattle.packet.specs.Packet.{is_empty}
use Rattle.line.specs.Line.{empty_cell, put_cells, first_empty, without_cells}

-- a packet is put where the search ends
put_here : (b : Bool) (c : Cell) (cs : List Cell) (p : Packet) → put_cells cs p ≡ set cs (first_empty cs) (record { packet = p })
    → cond b (record { packet = p } ∷ cs) (c ∷ put_cells cs p) ≡ set (c ∷ cs) (cond b 0 (suc (first_empty cs))) (record { packet = p })
put_here true c cs p e = refl
put_here false c cs p e = ap (λ (l : List Cell). c ∷ l) e

pub put_at : (l : List Cell) (p : Packet) → put_cells l p ≡ set l (first_empty l) (record { packet = p })
put_at [] p = refl
put_at (c ∷ cs) p = put_here (is_empty c.packet) c cs p (put_at cs p)

-- to lose a cell is to copy the one behind it there and lose that one
behind : (l : List Cell) (k : ℕ) → without_cells l k ≡ without_cells (set l k (get_or l (suc k) empty_cell)) (suc k)
behind [] k = refl
behind (c ∷ []) zero = refl
behind (c ∷ d ∷ cs) zero = refl
behind (c ∷ cs) (suc k) = ap (λ (l : List Cell). c ∷ l) (behind cs k)

pub loss_behind : (l : List Cell) (k : ℕ) → without_cells l k ≡ without_cells (set l k (get_or l (k + 1) empty_cell)) (k + 1)
loss_behind l k = rw add-one (behind l k)

-- past the last cell there is nothing to lose
pub loss_ended : (l : List Cell) (k : ℕ) → length l ≤ k → without_cells l k ≡ l
loss_ended [] k h = refl
loss_ended (c ∷ cs) zero h = absurd (omega arith)
loss_ended (c ∷ cs) (suc k) h = ap (λ (l : List Cell). c ∷ l) (loss_ended cs k (omega arith))
