-- Kind 4, deliver, of a fault or a recover packet over a line in use at its receiver: whatever the receiver does, short of a crash, keeps
-- what a step owes, and nothing is noted in the history.
use Prim.Native.Nat.{ℕ, ◌<◌}
use mathlib.Core.Path.{◌≡◌, refl, sym, ap, ◌∙◌}
use mathlib.Core.Logic.{◌≢◌}
use mathlib.Core.Bool.{Bool, true, false, cond, ◌&&◌, true≢false}
use mathlib.Core.List.{[], nil≢cons}
use native.Mathlib.Omega.{arith}
use Rattle.marks.specs.Marks.{marked}
use Rattle.outlet.specs.declared.Party.{Party}
use Rattle.packet.specs.declared.Payload.{Payload}
use Rattle.packet.specs.declared.Place.{Place}
use Rattle.packet.specs.declared.Packet.{Packet}
use Rattle.packet.specs.declared.Packet.TheVariants.{Empty, Normal as NormalPacket, Checkp, Resume, Recover, Fault, Invalid}
use Rattle.packet.specs.Packet.{is_normal, fits}
use Rattle.line.specs.Line.{oldest}
use Rattle.state.specs.declared.State.{State}
use Rattle.state.specs.declared.State.TheVariants.{Normal, Checkpointed, Error}
use Rattle.cabinet.specs.declared.Cabinet.{Cabinet}
use Rattle.cabinet.specs.Alarm.{is_for}
use Rattle.state.specs.State.{is_in, works, in_recovery}
use Rattle.group.specs.declared.Group.{Group}
use Rattle.group.specs.declared.Outcome.{Outcome}
use Rattle.group.specs.Group.{cabinet, state_of, line, with_line, with_outgoing, taken}
use Rattle.protocol.specs.Moves.{recover_with, enter_error, hear}
use Rattle.protocol.specs.Receive.{serving, receive_recover, receive_fault}
use Rattle.protocol.specs.History.{History, logged, with_taken, goes, note_taken, note_known, note_cuts}
use Rattle.claims.proofs.State.Fun.{never, and_true, cond_elim, and_off}
use Rattle.claims.proofs.State.View.{view}
use Rattle.claims.proofs.State.Sim.{Fit}
use Rattle.claims.proofs.Invariant.States.{serves_or_restores, not_both}
use Rattle.claims.proofs.Invariant.Facts.{Ghost}
use Rattle.claims.proofs.Invariant.Whole.{Inv}
use Rattle.claims.proofs.Invariant.Past.{Past, Kept, goes_not_normal}
use Rattle.claims.proofs.Invariant.Words.{live_line}
use Rattle.claims.proofs.Moves.Hearing.{off, off_line, keeps_heard, heard_aware}
use Rattle.claims.proofs.Moves.Recovering.{error_aware, keeps_recover, keeps_recover_dropped}
use Rattle.claims.proofs.Moves.Faulted.{keeps_fault, fault_not_normal}

-- ---- the history

pub taken_none : (t : Bool) (h : History) (a b : ℕ) (p : Packet) → is_normal p ≡ false → note_taken t h a b p ≡ h
taken_none true h a b Empty e = refl
taken_none true h a b (NormalPacket p) e = absurd (true≢false e)
taken_none true h a b (Checkp v) e = refl
taken_none true h a b Resume e = refl
taken_none true h a b (Recover v) e = refl
taken_none true h a b (Fault p) e = refl
taken_none true h a b Invalid e = refl
taken_none false h a b p e = refl

-- nor is one that does not fit its check
pub taken_unfit : (t : Bool) (h : History) (a b : ℕ) (p : Payload) → fits p ≡ false → note_taken t h a b (NormalPacket p) ≡ h
taken_unfit true h a b p e = ap (λ (f : Bool). cond f (with_taken h (logged h.taken a b p)) h) e
taken_unfit false h a b p e = refl

pub known_none : (t : Bool) (h : History) → t ≡ false → note_known t h ≡ h
known_none true h e = absurd (true≢false e)
known_none false h e = refl

pub off_cabinet : (g : Group) (a b c : ℕ) → cabinet (off g a b) c ≡ cabinet g c
unfolding cabinet with_line with_outgoing
off_cabinet g a b c = refl

-- ---- what the receiver does

module _ (total : Party → ℕ) (g : Group) (h : History) (γ : Ghost) (w : Fit g) (i : Inv g.n total (view g) γ) (past : Past g.n (view g) γ h)
    (a b : ℕ) (la : a < 8) (lb : b < 8) (other : a ≢ b) where
  -- a taken step, with nothing to note
  abbrev pub Unnoted : Outcome → Type 0
  Unnoted o = o.answer ≡ 0 → Kept total g γ o.group (note_cuts h g o.group) × (goes g o.group b Checkpointed Normal ≡ false)

  same_state : state_of (off g a b) b ≡ state_of g b
  same_state = ap (λ (c : Cabinet). c.phase.state) (off_cabinet g a b b)

  module _ (q : Place) (fault : oldest (line g a b) ≡ Fault q) where
    some_packet : (view g).lines a b ≡ [] → ⊥
    some_packet e = nil≢cons (sym e ∙ off_line g a b (Fault q) fault refl)

    b_works : works (state_of g b) ≡ true
    b_works = (live_line (i.core.pairs a b) some_packet).1

    taken_serving : serving (state_of g b) ≡ true → Unnoted (taken (hear (enter_error (off g a b) b q) a b))
    taken_serving e f = (
      keeps_fault total g h γ w i past a b la lb other q fault e,
      and_off (is_in (state_of g b) Checkpointed) _ (fault_not_normal total g h γ w i past a b la lb other q fault e),
    )

    taken_restoring : in_recovery (state_of g b) ≡ true → is_for (cabinet g b).phase.alarm q ≡ true → Unnoted (taken (hear (off g a b) a b))
    taken_restoring e m f =
        let k = keeps_heard total g h γ w i past a b la lb other q fault e m in
        (k, and_off (is_in (state_of g b) Checkpointed) _ (goes_not_normal k.stays.goes b (heard_aware total g h γ w i past a b la lb other q fault e m)))

    pub keeps_receive_fault : Unnoted (receive_fault g (off g a b) a b q)
    unfolding receive_fault
    keeps_receive_fault =
        cond_elim Unnoted (serving (state_of (off g a b) b)) (λ e. taken_serving (ap serving (sym same_state) ∙ e))
        (λ e. cond_elim Unnoted (in_recovery (state_of (off g a b) b))
        (λ r. cond_elim Unnoted (is_for (cabinet (off g a b) b).phase.alarm q)
        (λ m. taken_restoring (ap in_recovery (sym same_state) ∙ r) (ap (λ (c : Cabinet). is_for c.phase.alarm q) (sym (off_cabinet g a b b)) ∙ m))
        (λ m f. absurd (omega arith)))
        (λ r. absurd (never (serves_or_restores (state_of g b) b_works (i.core.nodes b).running (ap serving (sym same_state) ∙ e)) (ap in_recovery (sym same_state) ∙ r))))

  module _ (x : Bool) (recover : oldest (line g a b) ≡ Recover x) where
    taken_error : is_in (state_of g b) Error ≡ true → marked (cabinet g b).noted.heard a ≡ true → Unnoted (taken (recover_with (off g a b) b x))
    taken_error e m f =
        let k = keeps_recover total g h γ w i past a b la lb x recover e m in
        (k, and_off (is_in (state_of g b) Checkpointed) _ (goes_not_normal k.stays.goes b (error_aware total g h γ w i past a b la lb x recover e m)))

    left_out : Unnoted (taken (off g a b))
    left_out f = (
      keeps_recover_dropped total g h γ w i past a b la lb x recover,
      ap (λ (s : State). is_in (state_of g b) Checkpointed && is_in s Normal) same_state ∙ not_both (state_of g b) Checkpointed Normal refl,
    )

    pub keeps_receive_recover : Unnoted (receive_recover (off g a b) a b x)
    unfolding receive_recover
    keeps_receive_recover =
        cond_elim Unnoted (is_in (state_of (off g a b) b) Error && marked (cabinet (off g a b) b).noted.heard a)
        (λ e. let u = and_true {s = is_in (state_of (off g a b) b) Error} e in
        taken_error (ap (λ (s : State). is_in s Error) (sym same_state) ∙ u.0) (ap (λ (c : Cabinet). marked c.noted.heard a) (sym (off_cabinet g a b b)) ∙ u.1))
        (λ e. left_out)
