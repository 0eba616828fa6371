-- One turn of each loop over the eight cabinets: what is stored at place i is the group's move of cabinet i.
use Prim.Native.Nat.{ℕ, suc, ◌≤◌, ◌<◌}
use mathlib.Core.Path.{◌≡◌, refl, sym, ap, ◌∙◌}
use mathlib.Core.Bool.{Bool, true, false, ◌&&◌}
use lib.ListN.{length, get_or, set, length-set}
use lib.Seq.{get_or-set_other}
use native.Mathlib.Omega.{arith}
use Rattle.marks.specs.Marks.{marked}
use Rattle.marks.proofs.Lists.{get_d_in}
use Rattle.packet.specs.declared.Place.{Place}
use Rattle.line.specs.Line.{empty_line}
use Rattle.state.specs.State.{works}
use Rattle.settled.specs.Settled.{Settled}
use Rattle.cabinet.specs.declared.Cabinet.{Cabinet}
use Rattle.cabinet.specs.Cabinet.{absent, in_use}
use Rattle.outgoing.specs.declared.Outgoing.{Outgoing}
use Rattle.outgoing.specs.Lines.{empty_lines, with_line_to}
use Rattle.group.specs.declared.Group.{Group}
use Rattle.group.specs.Group.{cabinet, with_cabinet, with_cabinets, outgoing, with_outgoing, with_line, with_lines, with_settled}
use Rattle.seat.specs.declared.Seat.{Seat}
use Rattle.seat.specs.Seat.{seat, with_seat}
use Rattle.protocol.specs.Moves.{emptied_to, neighbours, enter_error_if, alarm_to}
use Rattle.moves.specs.Seats.{enter_error, word_by}
use Rattle.moves.proofs.Stored.{error_stored}

-- ---- the lines to cabinet a

pub emptied_next : (g h : Group) (i a : ℕ) (x : Outgoing) → length h.outgoing ≡ 8 → i < 8 → h ≡ emptied_to i g a
    → with_lines h (set h.outgoing i (with_line_to (get_or h.outgoing i x) a empty_line)) ≡ emptied_to (suc i) g a
unfolding outgoing with_outgoing with_line
emptied_next g h i a x l b e = rw (get_d_in h.outgoing i x empty_lines (omega arith)) (ap (λ k. with_line k i a empty_line) e)

-- ---- the neighbours of cabinet a

-- what a cabinet is asked
abbrev pub asked : Cabinet → ℕ → Bool
asked c a = works c.phase.state && marked (in_use c) a

-- the first i cabinets have had their turn: with the word put in they are alarmed, and those from i on are as they were
pub record Alarmed (g : Group) (a : ℕ) (p : Place) (h : Group) (w : Settled) (i : ℕ) : Type 0 where
  pub low : i ≤ 8
  pub so_far : with_settled h w ≡ alarm_to i g a p
  pub to_come : (j : ℕ) → i ≤ j → cabinet h j ≡ cabinet g j
  pub cabinets : length h.cabinets ≡ 8
  pub lines : length h.outgoing ≡ 8

pub none_yet : (g : Group) (a : ℕ) (p : Place) → length g.cabinets ≡ 8 → length g.outgoing ≡ 8 → Alarmed g a p g g.settled 0
unfolding alarm_to
none_yet g a p cs os = record { low = omega arith; so_far = refl; to_come = λ j _. refl; cabinets = cs; lines = os }

-- what stands at a place is its cabinet, which is asked as at the start
asked_now : {g h : Group} {a i : ℕ} {p : Place} {w : Settled} (x : Cabinet) → Alarmed g a p h w i → i < 8 → asked (get_or h.cabinets i x) a ≡ neighbours g i a
unfolding cabinet
asked_now {h = h} {a = a} {i = i} x z l = ap (λ d. asked d a) (get_d_in h.cabinets i x absent (rw z.cabinets l) ∙ z.to_come i (omega arith))

pub next : {g h : Group} {a i : ℕ} {p : Place} {w : Settled} (x : Cabinet) (y : Outgoing) (s : Seat) (v : Settled)
    → Alarmed g a p h w i → i < 8
    → asked (get_or h.cabinets i x) a ≡ true
    → s ≡ enter_error (record { cabinet = get_or h.cabinets i x; lines = get_or h.outgoing i y }) i p
    → v ≡ word_by w (get_or h.cabinets i x) i
    → Alarmed g a p (with_lines (with_cabinets h (set h.cabinets i s.cabinet)) (set h.outgoing i s.lines)) v (suc i)
unfolding alarm_to cabinet with_cabinet outgoing with_outgoing
next {g = g} {h = h} {a = a} {i = i} {p = p} {w = w} x y s v z l eb es ev =
    let c : get_or h.cabinets i x ≡ cabinet h i = get_d_in h.cabinets i x absent (rw z.cabinets l) in
    let o : get_or h.outgoing i y ≡ outgoing h i = get_d_in h.outgoing i y empty_lines (rw z.lines l) in
    let same : neighbours g i a ≡ true = sym (asked_now x z l) ∙ eb in
    let there : s ≡ enter_error (seat h i) i p = es ∙ rw (c, o) in
    let word : v ≡ word_by w (cabinet h i) i = ev ∙ rw c in
    let turned : with_settled (with_seat h i (enter_error (seat h i) i p)) (word_by w (cabinet h i) i) ≡ enter_error_if true (with_settled h w) i p
    = sym (error_stored (with_settled h w) i p (z.cabinets ∙ sym z.lines)) in
    record {
      low = omega arith;
      so_far = rw (there, word) (turned ∙ ap (λ k. enter_error_if true k i p) z.so_far ∙ ap (λ b. enter_error_if b (alarm_to i g a p) i p) (sym same));
      to_come = λ j k. get_or-set_other h.cabinets i j s.cabinet absent (λ e. omega arith) ∙ z.to_come j (omega arith);
      cabinets = length-set h.cabinets i s.cabinet ∙ z.cabinets;
      lines = length-set h.outgoing i s.lines ∙ z.lines;
    }

-- one that is no neighbour is left as it is
pub passed : {g h : Group} {a i : ℕ} {p : Place} {w : Settled} (x : Cabinet) → Alarmed g a p h w i → i < 8
    → asked (get_or h.cabinets i x) a ≡ false → Alarmed g a p h w (suc i)
unfolding alarm_to
passed {g = g} {a = a} {i = i} {p = p} x z l eb =
    let same : neighbours g i a ≡ false = sym (asked_now x z l) ∙ eb in
    record {
      low = omega arith;
      so_far = z.so_far ∙ ap (λ b. enter_error_if b (alarm_to i g a p) i p) (sym same);
      to_come = λ j k. z.to_come j (omega arith);
      cabinets = z.cabinets;
      lines = z.lines;
    }
