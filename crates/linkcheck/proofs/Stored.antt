-- A normal packet, a checkp and an invalid one at a cabinet of the group, by whether it finds a link fault: what it does on itself and its lines,
-- stored back.
use Prim.Native.Nat.{ℕ}
use mathlib.Core.Path.{◌≡◌, refl, sym, ap, ◌∙◌}
use mathlib.Core.Bool.{Bool, true, false, cond, not, ◌&&◌, false≢true}
use lib.ListN.{length, get_or}
use Rattle.packet.specs.declared.Payload.{Payload}
use Rattle.packet.specs.declared.Check.{Check}
use Rattle.packet.specs.Packet.{start_check, same_check}
use Rattle.state.specs.declared.State.TheVariants.{Normal}
use Rattle.state.specs.State.{is_in}
use Rattle.cabinet.specs.declared.Cabinet.{Cabinet}
use Rattle.cabinet.specs.Cabinet.{taking, comparing}
use Rattle.group.specs.declared.Group.{Group}
use Rattle.group.specs.declared.Outcome.{Outcome}
use Rattle.group.specs.Group.{cabinet, with_cabinet, state_of, taken}
use Rattle.seat.proofs.Same.{cabinet_same}
use Rattle.seat.specs.declared.Seat.{Seat}
use Rattle.seat.specs.Seat.{seat, with_seat, with_seat_cabinet}
use Rattle.seat.proofs.Laws.{seat_then, seat_same, cabinet_stored, length_stays}
use Rattle.protocol.specs.Moves as G
use Rattle.protocol.specs.Receive as R
use Rattle.moves.specs.Seats as M
use Rattle.moves.proofs.Stored as moves
use Rattle.linkcheck.specs.Linkcheck as C

-- ---- a normal packet

normal_by : (t s : Bool) (fault : Outcome) (g : Group) (b : ℕ) (c : Cabinet) → not t && s ≡ false
    → cond t (taken (with_cabinet g b c)) (cond s fault (taken g)) ≡ taken (with_cabinet g b (cond t c (cabinet g b)))
normal_by true s fault g b c h = refl
normal_by false true fault g b c h = absurd (false≢true (sym h))
normal_by false false fault g b c h = ap taken (sym (cabinet_same g b))

pub normal_stored : (before g : Group) (a b : ℕ) (p : Payload) → C.normal_faulty (cabinet g b) a p ≡ false
    → R.receive_normal before g a b p ≡ taken (with_cabinet g b (C.normal_taken (cabinet g b) a p))
unfolding R.receive_normal C.normal_faulty C.normal_taken
normal_stored before g a b p h =
    normal_by (R.takes (cabinet g b) a p) (R.serving (state_of g b)) (G.find_link_fault before g a b) g b (taking (cabinet g b) a p) h

fault_by : (t s : Bool) (fault x y : Outcome) → not t && s ≡ true → cond t x (cond s fault y) ≡ fault
fault_by true s fault x y h = absurd (false≢true h)
fault_by false true fault x y h = refl
fault_by false false fault x y h = absurd (false≢true h)

pub normal_fault : (before g : Group) (a b : ℕ) (p : Payload) → C.normal_faulty (cabinet g b) a p ≡ true
    → R.receive_normal before g a b p ≡ G.find_link_fault before g a b
unfolding R.receive_normal C.normal_faulty
normal_fault before g a b p h =
    fault_by (R.takes (cabinet g b) a p) (R.serving (state_of g b)) (G.find_link_fault before g a b)
    (taken (with_cabinet g b (taking (cabinet g b) a p))) (taken g) h

-- ---- a checkp

take_stored : (g : Group) (a b : ℕ) → length g.cabinets ≡ length g.outgoing
    → G.take_checkp g a b ≡ with_seat g b (C.take_checkp (seat g b) a)
unfolding G.take_checkp C.take_checkp M.cut_if_all
take_stored g a b e =
    let s = with_seat_cabinet (seat g b) (comparing (cabinet g b) a) in
    rw (cabinet_stored g b (comparing (cabinet g b) a)) (moves.cut_stored (with_seat g b s) b ∙ seat_then M.cut_if_all g b s e)

join_then : (g : Group) (a b : ℕ) (n : Bool) → length g.cabinets ≡ length g.outgoing
    → G.take_checkp (R.join_if n g b) a b ≡ with_seat g b (C.take_checkp (C.join_if n (seat g b)) a)
join_then g a b true e =
    rw (moves.join_stored g b)
    (take_stored (with_seat g b (M.join (seat g b))) a b (length_stays g b (M.join (seat g b)) e)
    ∙ seat_then (λ s. C.take_checkp s a) g b (M.join (seat g b)) e)
join_then g a b false e = take_stored g a b e

checkp_by : (t s : Bool) (fault : Outcome) (g x : Group) (b : ℕ) (u : Seat) → x ≡ with_seat g b u → t && not s ≡ false
    → cond t (cond s (taken x) fault) (taken g) ≡ taken (with_seat g b (cond t u (seat g b)))
checkp_by true true fault g x b u e h = ap taken e
checkp_by true false fault g x b u e h = absurd (false≢true (sym h))
checkp_by false s fault g x b u e h = ap taken (sym (seat_same g b))

pub checkp_stored : (before g : Group) (a b : ℕ) (v : Check) → length g.cabinets ≡ length g.outgoing
    → C.checkp_faulty (cabinet g b) a v ≡ false → R.receive_checkp before g a b v ≡ taken (with_seat g b (C.checkp_taken (seat g b) a))
unfolding R.receive_checkp C.checkp_faulty C.checkp_taken
checkp_stored before g a b v e h =
    checkp_by (C.compares (state_of g b)) (same_check v (get_or (cabinet g b).registers.taken a start_check)) (G.find_link_fault before g a b) g
    (G.take_checkp (R.join_if (is_in (state_of g b) Normal) g b) a b) b (C.take_checkp (C.join_if (is_in (state_of g b) Normal) (seat g b)) a)
    (join_then g a b (is_in (state_of g b) Normal) e) h

unequal_by : (t s : Bool) (fault x y : Outcome) → t && not s ≡ true → cond t (cond s x fault) y ≡ fault
unequal_by true true fault x y h = absurd (false≢true h)
unequal_by true false fault x y h = refl
unequal_by false s fault x y h = absurd (false≢true h)

pub checkp_fault : (before g : Group) (a b : ℕ) (v : Check) → C.checkp_faulty (cabinet g b) a v ≡ true
    → R.receive_checkp before g a b v ≡ G.find_link_fault before g a b
unfolding R.receive_checkp C.checkp_faulty
checkp_fault before g a b v h =
    unequal_by (C.compares (state_of g b)) (same_check v (get_or (cabinet g b).registers.taken a start_check)) (G.find_link_fault before g a b)
    (taken (G.take_checkp (R.join_if (is_in (state_of g b) Normal) g b) a b)) (taken g) h

-- ---- an invalid packet

pub invalid_dropped : (before g : Group) (a b : ℕ) → C.invalid_faulty (cabinet g b) ≡ false → R.receive_invalid before g a b ≡ taken g
unfolding R.receive_invalid
invalid_dropped before g a b h = rw h

pub invalid_fault : (before g : Group) (a b : ℕ) → C.invalid_faulty (cabinet g b) ≡ true
    → R.receive_invalid before g a b ≡ G.find_link_fault before g a b
unfolding R.receive_invalid
invalid_fault before g a b h = rw h
