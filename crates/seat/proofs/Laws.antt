-- A seat taken out of a group and put into it: what is read back, what a second store leaves, and the stores of its parts.
use Prim.Native.Nat.{ℕ, zero, suc, ◌<◌, ◌≤◌}
use mathlib.Core.Path.{◌≡◌, refl, sym, ap, ◌∙◌}
use mathlib.Core.Logic.{◌≢◌}
use mathlib.Core.List.{List, [], ◌∷◌}
use lib.ListN.{length, set, length-set}
use lib.Seq.{set_out, set-get_or, get_or-set_same, get_or-set_other}
use native.Mathlib.Omega.{arith}
use native.Mathlib.Decide.{dec_lt}
use Rattle.cabinet.specs.declared.Cabinet.{Cabinet}
use Rattle.cabinet.specs.Cabinet.{absent}
use Rattle.outgoing.specs.declared.Outgoing.{Outgoing}
use Rattle.outgoing.specs.Lines.{empty_lines}
use Rattle.group.specs.declared.Group.{Group}
use Rattle.group.specs.Group.{cabinet, with_cabinet, outgoing, with_outgoing}
use Rattle.seat.specs.declared.Seat.{Seat}
use Rattle.seat.specs.Seat.{seat, with_seat, with_seat_cabinet, with_seat_lines}

pub set_twice : {A : Type 0} (l : List A) (i : ℕ) (x y : A) → set (set l i x) i y ≡ set l i y
set_twice [] i x y = refl
set_twice (z ∷ l) zero x y = refl
set_twice (z ∷ l) (suc i) x y = ap (λ m. z ∷ m) (set_twice l i x y)

-- ---- what is read back

pub seat_there : (g : Group) (i : ℕ) (s : Seat) → i < length g.cabinets → i < length g.outgoing → seat (with_seat g i s) i ≡ s
unfolding cabinet with_cabinet outgoing with_outgoing
seat_there g i s h k = λ t. record {
  cabinet = get_or-set_same g.cabinets i s.cabinet absent h t;
  lines = get_or-set_same g.outgoing i s.lines empty_lines k t;
}

pub seat_other : (g : Group) (i j : ℕ) (s : Seat) → j ≢ i → seat (with_seat g i s) j ≡ seat g j
unfolding cabinet with_cabinet outgoing with_outgoing
seat_other g i j s n = λ t. record {
  cabinet = get_or-set_other g.cabinets i j s.cabinet absent n t;
  lines = get_or-set_other g.outgoing i j s.lines empty_lines n t;
}

-- ---- stores

parts : (g : Group) {cs ds : List Cabinet} {os ps : List Outgoing} → cs ≡ ds → os ≡ ps
    → ◌≡◌ {A = Group}
    (record { n = g.n; cabinets = cs; links = g.links; sound = g.sound; outgoing = os; store = g.store; trips = g.trips; packets = g.packets; settled = g.settled })
    (record { n = g.n; cabinets = ds; links = g.links; sound = g.sound; outgoing = ps; store = g.store; trips = g.trips; packets = g.packets; settled = g.settled })
parts g e f = λ t. record {
  n = g.n;
  cabinets = e t;
  links = g.links;
  sound = g.sound;
  outgoing = f t;
  store = g.store;
  trips = g.trips;
  packets = g.packets;
  settled = g.settled;
}

pub seat_twice : (g : Group) (i : ℕ) (s t : Seat) → with_seat (with_seat g i s) i t ≡ with_seat g i t
unfolding with_cabinet with_outgoing
seat_twice g i s t =
    parts g (set_twice g.cabinets i s.cabinet t.cabinet) (set_twice g.outgoing i s.lines t.lines)

pub seat_same : (g : Group) (i : ℕ) → with_seat g i (seat g i) ≡ g
unfolding cabinet with_cabinet outgoing with_outgoing
seat_same g i = parts g (set-get_or g.cabinets i absent) (set-get_or g.outgoing i empty_lines)

-- past the end nothing is stored
pub seat_past : (g : Group) (i : ℕ) (s : Seat) → length g.cabinets ≤ i → length g.outgoing ≤ i → with_seat g i s ≡ g
unfolding with_cabinet with_outgoing
seat_past g i s h k = parts g (set_out g.cabinets i s.cabinet h) (set_out g.outgoing i s.lines k)

-- a move after a store, where there are as many cabinets as rows of lines: within or past the end
pub seat_then : (f : Seat → Seat) (g : Group) (i : ℕ) (s : Seat) → length g.cabinets ≡ length g.outgoing
    → with_seat (with_seat g i s) i (f (seat (with_seat g i s) i)) ≡ with_seat g i (f s)
seat_then f g i s e = elim (dec_lt i (length g.cabinets)) [
  | yes h ↦ rw (seat_there g i s h (omega arith)) (seat_twice g i s (f s))
  | no n ↦ rw (seat_past g i s (omega arith) (omega arith)) (seat_past g i (f (seat g i)) (omega arith) (omega arith) ∙ sym (seat_past g i (f s) (omega arith) (omega arith)))
]

-- ---- its parts

pub cabinet_stored : (g : Group) (i : ℕ) (c : Cabinet) → with_cabinet g i c ≡ with_seat g i (with_seat_cabinet (seat g i) c)
unfolding with_cabinet outgoing with_outgoing
cabinet_stored g i c = parts g refl (sym (set-get_or g.outgoing i empty_lines))

pub lines_stored : (g : Group) (i : ℕ) (o : Outgoing) → with_outgoing g i o ≡ with_seat g i (with_seat_lines (seat g i) o)
unfolding cabinet with_cabinet with_outgoing
lines_stored g i o = parts g (sym (set-get_or g.cabinets i absent)) refl

pub both_stored : (g : Group) (i : ℕ) (c : Cabinet) (o : Outgoing) → with_cabinet (with_outgoing g i o) i c ≡ with_seat g i (record { cabinet = c; lines = o })
unfolding with_cabinet with_outgoing
both_stored g i c o = refl

-- ---- what stays

pub settled_stays : (g : Group) (i : ℕ) (s : Seat) → (with_seat g i s).settled ≡ g.settled
unfolding with_cabinet with_outgoing
settled_stays g i s = refl

pub length_stays : (g : Group) (i : ℕ) (s : Seat) → length g.cabinets ≡ length g.outgoing
    → length (with_seat g i s).cabinets ≡ length (with_seat g i s).outgoing
unfolding with_cabinet with_outgoing
length_stays g i s e =
    length-set g.cabinets i s.cabinet ∙ e ∙ sym (length-set g.outgoing i s.lines)
