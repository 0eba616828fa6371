-- A comparison tells whether a packet of its line was hurt, and packets of a line that is not hurt fit.
use Prim.Native.Nat.{ℕ, zero, suc}
use mathlib.Core.Path.{◌≡◌, refl, sym, ap, ◌∙◌, subst}
use mathlib.Core.Bool.{Bool, true, false, not, ◌||◌, false≢true}
use mathlib.Core.List.{List, [], ◌∷◌, ◌++◌}
use native.Mathlib.Omega.{arith}
use lib.ListN.{get_or, drop}
use Rattle.marks.specs.Marks.{marked}
use Rattle.outlet.specs.declared.Party.{Party}
use Rattle.packet.specs.declared.Payload.{Payload}
use Rattle.packet.specs.declared.Check.{Check}
use Rattle.packet.specs.declared.Packet.{Packet}
use Rattle.packet.specs.declared.Packet.TheVariants.{Empty, Normal as NormalPacket, Checkp, Resume, Recover, Fault, Invalid}
use Rattle.packet.specs.Packet.{start_check, same_check, fits, is_empty}
use Rattle.line.specs.declared.Cell.{Cell}
use Rattle.line.specs.Line.{empty_cell, rest, packet_at}
use Rattle.state.specs.declared.State.{State}
use Rattle.state.specs.declared.State.TheVariants.{Failed, Normal, CheckpBegin, Checkpointing, Checkpointed, Error, Recovering, Recovered, Crashed}
use Rattle.state.specs.State.{is_in, works, in_recovery}
use Rattle.group.specs.declared.Group.{Group}
use Rattle.group.specs.Group.{cabinet, state_of, line, some, recovering_ones}
use Rattle.protocol.specs.History.{History}
use Rattle.claims.specs.Bounds.{packet_of, content}
use Rattle.claims.specs.Hurts.{Compares, ComparedAsHurt, FitsUnhurt}
use Rattle.claims.proofs.State.Fun.{never}
use Rattle.claims.proofs.State.View.{view}
use Rattle.claims.proofs.State.ViewMoves.{sim_off}
use Rattle.claims.proofs.State.Cells.{nothing_there}
use Rattle.claims.proofs.Answers.Tests.{same_check_lem}
use Rattle.claims.proofs.Invariant.Facts.{unaware, amounts_in, Fitting, Differ}
use Rattle.claims.proofs.Invariant.Logs.{differ_none, fitting_drop}
use Rattle.claims.proofs.Invariant.Words.{un_of, live_line, linked_used}
use Rattle.claims.proofs.Moves.Comparing.{unequal_hurt, equal_unhurt, mark_tells}
use Rattle.claims.proofs.Moves.Unopened.{nobody}
use Rattle.claims.proofs.Claims.Demand.{Runs}
use Rattle.claims.proofs.Claims.Bounds.{running}

-- ---- a comparison

open_calm : (s : State) → (is_in s Normal || is_in s CheckpBegin) ≡ true → (works s ≡ true) × (in_recovery s ≡ false)
open_calm Failed e = absurd (false≢true e)
open_calm Normal e = (refl, refl)
open_calm CheckpBegin e = (refl, refl)
open_calm Checkpointing e = absurd (false≢true e)
open_calm Checkpointed e = absurd (false≢true e)
open_calm Error e = absurd (false≢true e)
open_calm Recovering e = absurd (false≢true e)
open_calm Recovered e = absurd (false≢true e)
open_calm Crashed e = absurd (false≢true e)

module _ {total : Party → ℕ} {g : Group} {h : History} (w : Runs total g h) where
  pub compared : (a b : ℕ) (v : Check) → Compares g a b v
      → (same_check v (get_or (cabinet g b).registers.taken a start_check) ≡ not (marked (cabinet g b).registers.hurt a))
      × (marked (cabinet g b).registers.hurt a ≡ h.hurt a b)
  compared a b v n =
      let γ = w.ghost in
      let k = content (rest (line g a b)).cells in
      let here : (view g).lines a b ≡ Checkp v ∷ k = sim_off g a b (ap is_empty n.comes) ∙ ap (λ (p : Packet). p ∷ k) n.comes in
      let calm = open_calm (state_of g b) n.ready in
      let un : unaware γ.big ((view g).own b) ≡ true = un_of γ.big ((view g).own b) calm.0 calm.1 in
      let register = get_or (cabinet g b).registers.taken a start_check in
      let same = same_check_lem v register in (
        told (same_check v register) (marked (cabinet g b).registers.hurt a)
            (λ t. equal_unhurt g.n total (view g) γ w.inv a b v k here un (same.0 t))
            (λ t. unequal_hurt g.n total (view g) γ w.inv a b v k here un (λ q. never (same.1 q) t)),
        mark_tells g.n total (view g) γ w.inv a b v k here un ∙ sym (w.past.hurt a b),
      )
    where
      told : (x y : Bool) → (x ≡ true → y ≡ false) → (x ≡ false → y ≡ true) → x ≡ not y
      told true y p q = sym (ap not (p refl))
      told false y p q = sym (ap not (q refl))

pub compared_as_hurt : ComparedAsHurt
compared_as_hurt f of e xs o c = compared (running f of e xs o c)

-- ---- packets of a line that is not hurt

fitting_right : (k l : List Payload) → Fitting (k ++ l) → Fitting l
unfolding Fitting
fitting_right [] l f = f
fitting_right (p ∷ k) l f = fitting_right k l f.1

fitting_rest : (q : Packet) (l : List Packet) → Fitting (amounts_in (packet_of q l)) → Fitting (amounts_in l)
unfolding Fitting amounts_in
fitting_rest Empty l f = f
fitting_rest (NormalPacket p) l f = f.1
fitting_rest (Checkp v) l f = f
fitting_rest Resume l f = f
fitting_rest (Recover v) l f = f
fitting_rest (Fault p) l f = f
fitting_rest Invalid l f = f

fitting_cell : (cs : List Cell) (k : ℕ) (p : Payload) → (get_or cs k empty_cell).packet ≡ NormalPacket p → Fitting (amounts_in (content cs)) → fits p ≡ true
unfolding content Fitting amounts_in
fitting_cell [] k p e f = absurd (let z : ◌≡◌ {A = ℕ} 0 1 = cc in omega arith)
fitting_cell (c ∷ cs) zero p e f = (subst (λ (q : Packet). Fitting (amounts_in (packet_of q (content cs)))) e f).0
fitting_cell (c ∷ cs) (suc k) p e f = fitting_cell cs k p e (fitting_rest c.packet (content cs) f)

pub fitting : {total : Party → ℕ} {g : Group} {h : History} → Runs total g h → some (recovering_ones g) ≡ false → (a b k : ℕ) (p : Payload)
    → packet_at (line g a b) k ≡ NormalPacket p → marked (cabinet g b).registers.hurt a ≡ false → fits p ≡ true
fitting {total} {g} w calm a b k p here unhurt =
    let γ = w.ghost in
    let i = w.inv in
    let v = view g in
    let pair = i.core.pairs a b in
    let ends = live_line pair (λ z. nothing_there (line g a b).cells k z (ap is_empty here)) in
    let none = nobody total g γ w.fit i calm in
    let ua = un_of γ.big (v.own a) ends.0 (none a) in
    let ub = un_of γ.big (v.own b) ends.1 (none b) in
    let stream = pair.stream (linked_used pair ua ((i.core.nodes a).placed ends.0) ends.2) ua ub in
    let wire = γ.wire a b in
    let same = differ_none (subst (λ (t : Bool). Differ t (drop wire.ver wire.sent) (drop wire.ver wire.taken ++ amounts_in (v.lines a b))) unhurt stream.differ) in
    fitting_cell (line g a b).cells k p here
    (fitting_right (drop wire.ver wire.taken) (amounts_in (v.lines a b)) (subst Fitting same (fitting_drop wire.ver wire.sent pair.fit.0)))

pub fits_unhurt : FitsUnhurt
fits_unhurt f of e xs o c = fitting (running f of e xs o c)
