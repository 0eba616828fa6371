-- Resume, recover and fault at a cabinet of the group: what it does on itself and its lines, stored back.
use Prim.Native.Nat.{ℕ}
use mathlib.Core.Path.{◌≡◌, refl, sym, ap, ◌∙◌}
use mathlib.Core.Bool.{Bool, true, false, cond, not, ◌&&◌, false≢true}
use lib.ListN.{length}
use Rattle.marks.specs.Marks.{marked}
use Rattle.packet.specs.declared.Place.{Place}
use Rattle.state.specs.declared.State.{State}
use Rattle.state.specs.declared.State.TheVariants.{Failed, Normal, CheckpBegin, Checkpointing, Checkpointed, Error, Recovering, Recovered, Crashed}
use Rattle.state.specs.State.{is_in, in_recovery}
use Rattle.settled.specs.Settled.{Settled}
use Rattle.cabinet.specs.Alarm.{is_for}
use Rattle.cabinet.specs.Cabinet.{hearing}
use Rattle.group.specs.declared.Group.{Group}
use Rattle.group.specs.declared.Outcome.{Outcome}
use Rattle.group.specs.Group.{cabinet, with_cabinet, state_of, with_outgoing, with_settled, taken, crashed}
use Rattle.seat.specs.declared.Seat.{Seat}
use Rattle.seat.specs.Seat.{seat, with_seat}
use Rattle.seat.proofs.Laws.{seat_then, seat_same, cabinet_stored}
use Rattle.protocol.specs.Moves as G
use Rattle.protocol.specs.Receive.{serving, resumes_from, receive_resume, receive_recover, receive_fault}
use Rattle.moves.specs.Seats as M
use Rattle.moves.proofs.Stored as moves
use Rattle.signals.specs.Signals as S

-- ---- resume

adopt_stored : (g : Group) (a b : ℕ) → G.adopt g a b ≡ with_seat g b (S.adopt (seat g b) a)
unfolding G.adopt S.adopt
adopt_stored g a b = refl

resume_by : (t s : Bool) (g x y : Group) (b : ℕ) (u v : Seat) → x ≡ with_seat g b u → y ≡ with_seat g b v
    → cond t (taken x) (cond s (taken y) (taken g)) ≡ taken (with_seat g b (cond t u (cond s v (seat g b))))
resume_by true s g x y b u v e f = ap taken e
resume_by false true g x y b u v e f = ap taken f
resume_by false false g x y b u v e f = ap taken (sym (seat_same g b))

pub resume_stored : (g : Group) (a b : ℕ) → length g.cabinets ≡ length g.outgoing
    → receive_resume g a b ≡ taken (with_seat g b (S.resume_taken (seat g b) a b))
unfolding receive_resume S.resume_taken
resume_stored g a b e =
    resume_by (is_in (state_of g b) Checkpointed) (resumes_from (cabinet g b) a b) g (G.adopt g a b) (G.end_recovery g b) b
    (S.adopt (seat g b) a) (M.end_recovery (seat g b)) (adopt_stored g a b) (moves.end_stored g b e)

-- ---- recover

recover_by : (t : Bool) (g x : Group) (b : ℕ) (u : Seat) → x ≡ with_seat g b u
    → cond t (taken x) (taken g) ≡ taken (with_seat g b (cond t u (seat g b)))
recover_by true g x b u e = ap taken e
recover_by false g x b u e = ap taken (sym (seat_same g b))

pub recover_stored : (g : Group) (a b : ℕ) (v : Bool) → length g.cabinets ≡ length g.outgoing
    → receive_recover g a b v ≡ taken (with_seat g b (S.recover_taken (seat g b) a v))
unfolding receive_recover S.recover_taken
recover_stored g a b v e =
    recover_by (is_in (state_of g b) Error && marked (cabinet g b).noted.heard a) g (G.recover_with g b v) b (M.recover_with (seat g b) v)
    (moves.recover_stored g b v e)

-- ---- fault

hear_stored : (g : Group) (a b : ℕ) → G.hear g a b ≡ with_seat g b (S.hear (seat g b) a)
unfolding G.hear S.hear
hear_stored g a b = cabinet_stored g b (hearing (cabinet g b) a)

-- hearing leaves the word alone
hear_settled : (g : Group) (x : Settled) (a b : ℕ) → G.hear (with_settled g x) a b ≡ with_settled (G.hear g a b) x
unfolding G.hear with_cabinet cabinet
hear_settled g x a b = refl

hear_error : (g : Group) (a b : ℕ) (p : Place) → length g.cabinets ≡ length g.outgoing
    → G.hear (G.enter_error g b p) a b
    ≡ with_settled (with_seat g b (S.hear (M.enter_error (seat g b) b p) a)) (M.word_by g.settled (cabinet g b) b)
hear_error g a b p e =
    rw (moves.error_stored g b p e, hear_settled (with_seat g b (M.enter_error (seat g b) b p)) (M.word_by g.settled (cabinet g b) b) a b)
    (ap (λ h. with_settled h (M.word_by g.settled (cabinet g b) b))
    (hear_stored (with_seat g b (M.enter_error (seat g b) b p)) a b ∙ seat_then (λ s. S.hear s a) g b (M.enter_error (seat g b) b p) e))

-- no word but the one that was
pub word_same : (g : Group) (b : ℕ) (s : Seat) → with_settled (with_seat g b s) g.settled ≡ with_seat g b s
unfolding with_cabinet with_outgoing
word_same g b s = refl

fault_by : (t s z : Bool) (g x y : Group) (crash : Outcome) (b : ℕ) (u v : Seat) (w : Settled) → x ≡ with_settled (with_seat g b u) w
    → y ≡ with_seat g b v → s && not z ≡ false
    → cond t (taken x) (cond s (cond z (taken y) crash) (taken g))
    ≡ taken (with_settled (with_seat g b (cond t u (cond s v (seat g b)))) (cond t w g.settled))
fault_by true s z g x y crash b u v w e f h = ap taken e
fault_by false true true g x y crash b u v w e f h = ap taken (f ∙ sym (word_same g b v))
fault_by false true false g x y crash b u v w e f h = absurd (false≢true (sym h))
fault_by false false z g x y crash b u v w e f h = ap taken (sym (seat_same g b) ∙ sym (word_same g b (seat g b)))

pub fault_stored : (before g : Group) (a b : ℕ) (p : Place) → length g.cabinets ≡ length g.outgoing
    → S.fault_crashes (cabinet g b) p ≡ false
    → receive_fault before g a b p
    ≡ taken (with_settled (with_seat g b (S.fault_taken (seat g b) a b p)) (S.fault_word g.settled (cabinet g b) b))
unfolding receive_fault S.fault_crashes S.fault_taken S.fault_word
fault_stored before g a b p e h =
    fault_by (serving (state_of g b)) (in_recovery (state_of g b)) (is_for (cabinet g b).phase.alarm p) g (G.hear (G.enter_error g b p) a b)
    (G.hear g a b) (crashed before) b (S.hear (M.enter_error (seat g b) b p) a) (S.hear (seat g b) a)
    (M.word_by g.settled (cabinet g b) b) (hear_error g a b p e) (hear_stored g a b) h

-- a cabinet in recovery does not serve
recovery_alone : (s : State) → in_recovery s ≡ true → serving s ≡ false
recovery_alone Failed e = refl
recovery_alone Normal e = absurd (false≢true e)
recovery_alone CheckpBegin e = absurd (false≢true e)
recovery_alone Checkpointing e = absurd (false≢true e)
recovery_alone Checkpointed e = absurd (false≢true e)
recovery_alone Error e = refl
recovery_alone Recovering e = refl
recovery_alone Recovered e = refl
recovery_alone Crashed e = refl

crash_by : (t s z : Bool) (x y w crash : Outcome) → (s ≡ true → t ≡ false) → s && not z ≡ true
    → cond t x (cond s (cond z y crash) w) ≡ crash
crash_by true true z x y w crash n h = absurd (false≢true (sym (n refl)))
crash_by true false z x y w crash n h = absurd (false≢true h)
crash_by false true true x y w crash n h = absurd (false≢true h)
crash_by false true false x y w crash n h = refl
crash_by false false z x y w crash n h = absurd (false≢true h)

pub fault_crash : (before g : Group) (a b : ℕ) (p : Place) → S.fault_crashes (cabinet g b) p ≡ true
    → receive_fault before g a b p ≡ crashed before
unfolding receive_fault S.fault_crashes
fault_crash before g a b p h =
    crash_by (serving (state_of g b)) (in_recovery (state_of g b)) (is_for (cabinet g b).phase.alarm p) (taken (G.hear (G.enter_error g b p) a b))
    (taken (G.hear g a b)) (taken g) (crashed before) (recovery_alone (state_of g b)) h
