-- A packet that is dropped leaves its line and changes nothing else, at one that is found faulty the receiver has found a link fault, and the
-- amount of a normal one that is taken is added. And the deeds of a line's two ends tell whether it was emptied.
use Prim.Native.Nat.{ℕ}
use mathlib.Core.Path.{◌≡◌, refl, sym, ap, ◌∙◌}
use mathlib.Core.Bool.{Bool, true, false, cond, not, ◌&&◌, ◌||◌, false≢true}
use lib.ListN.{get_or}
use lib.Dec.{eqb}
use Rattle.marks.specs.Marks.{marked}
use Rattle.packet.specs.declared.Payload.{Payload}
use Rattle.packet.specs.declared.Check.{Check}
use Rattle.packet.specs.declared.Place.{Place}
use Rattle.packet.specs.declared.Packet.{Packet}
use Rattle.packet.specs.declared.Packet.TheVariants.{Empty, Normal as NormalPacket, Checkp, Resume, Recover, Fault, Invalid}
use Rattle.packet.specs.Packet.{start_check, same_check}
use Rattle.line.specs.Line.{oldest}
use Rattle.state.specs.declared.State.{State}
use Rattle.state.specs.declared.State.TheVariants.{Normal, Checkpointed, Error}
use Rattle.state.specs.State.{is_in, in_recovery}
use Rattle.cabinet.specs.declared.Cabinet.{Cabinet}
use Rattle.cabinet.specs.Alarm.{is_for}
use Rattle.cabinet.specs.Cabinet.{in_use, taking}
use Rattle.group.specs.declared.Group.{Group}
use Rattle.group.specs.declared.Outcome.{Outcome}
use Rattle.group.specs.Group.{cabinet, with_cabinet, with_outgoing, line, with_line, taken, crashed}
use Rattle.protocol.specs.Moves.{take_checkp, adopt, recover_with, enter_error, hear, find_link_fault, end_recovery}
use Rattle.protocol.specs.Receive.{serving, takes, join_if, resumes_from, receive, receive_normal, receive_checkp, receive_resume, receive_recover, receive_fault, receive_invalid}
use Rattle.protocol.specs.Kinds.{delivered}
use Rattle.linkcheck.specs.Linkcheck.{compares, link_fault, normal_faulty, checkp_faulty}
use Rattle.signals.specs.Signals.{fault_crashes}
use Rattle.delivery.specs.declared.Finding.{Finding}
use Rattle.delivery.specs.declared.Finding.TheVariants.{Fine, LinkFault, Crash}
use Rattle.delivery.specs.Delivery.{fault_if, crash_if, finding_by, finding}
use Rattle.delivery.proofs.Stored as D
use Rattle.claims.specs.Fifo.{enters_error, fails, trips}
use Rattle.events.specs.Fates.{heeds, is_fault, fate_of, left_behind, DroppedChangesNothing, FoundAtIt, TakenIsAdded}
use Rattle.events.specs.Deeds.{EmptiedAsTold}

-- ---- fates differ

differs : {A : Type 0} {m n : ℕ} → m ≡ n → eqb m n ≡ false → eqb n n ≡ true → A
differs {n} e f t = absurd (false≢true (sym f ∙ ap (λ k. eqb k n) e ∙ t))

-- the fate, by what is found and whether it is heeded
abbrev told : Finding → Bool → ℕ
told f heeded = cond (is_fault f) 3 (cond heeded 1 2)

-- ---- a packet that is dropped

-- by the tests that the rules ask, each with what it leads to; z is no change
module _ {A : Type 0} where
  unheeded : (x : Bool) → told Fine x ≡ 2 → (t z : A) → cond x t z ≡ z
  unheeded true e t z = differs e refl refl
  unheeded false e t z = refl

  normal_dropped : (takes serves : Bool) → told (fault_if (not takes && serves)) takes ≡ 2 → (t f z : A)
      → cond takes t (cond serves f z) ≡ z
  normal_dropped true serves e t f z = differs e refl refl
  normal_dropped false true e t f z = differs e refl refl
  normal_dropped false false e t f z = refl

  checkp_dropped : (compares same : Bool) → told (fault_if (compares && not same)) compares ≡ 2 → (t f z : A)
      → cond compares (cond same t f) z ≡ z
  checkp_dropped true true e t f z = differs e refl refl
  checkp_dropped true false e t f z = differs e refl refl
  checkp_dropped false same e t f z = refl

  resume_dropped : (x y : Bool) → told Fine (x || y) ≡ 2 → (t u z : A) → cond x t (cond y u z) ≡ z
  resume_dropped true y e t u z = differs e refl refl
  resume_dropped false true e t u z = differs e refl refl
  resume_dropped false false e t u z = refl

  fault_dropped : (serves recovers here : Bool) → told (crash_if (recovers && not here)) (serves || recovers) ≡ 2 → (t u c z : A)
      → cond serves t (cond recovers (cond here u c) z) ≡ z
  fault_dropped true true true e t u c z = differs e refl refl
  fault_dropped true true false e t u c z = differs e refl refl
  fault_dropped true false here e t u c z = differs e refl refl
  fault_dropped false true true e t u c z = differs e refl refl
  fault_dropped false true false e t u c z = differs e refl refl
  fault_dropped false false here e t u c z = refl

  invalid_dropped : (serves : Bool) → told (fault_if serves) false ≡ 2 → (f z : A) → cond serves f z ≡ z
  invalid_dropped true e f z = differs e refl refl
  invalid_dropped false e f z = refl

-- over a link in use
module _ (g : Group) (a b : ℕ) where
  abbrev here : Cabinet
  here = cabinet g b

  abbrev state : State
  state = here.phase.state

  -- no change but the line
  abbrev left : Outcome
  left = taken (left_behind g a b)

  abbrev faulty : Outcome
  faulty = find_link_fault g (left_behind g a b) a b

  abbrev Dropped : Packet → Type 0
  Dropped p = told (finding_by here a p) (heeds here a b p) ≡ 2 → receive g (left_behind g a b) a b p ≡ left

  normal : (p : Payload) → Dropped (NormalPacket p)
  unfolding receive_normal normal_faulty cabinet with_line with_outgoing
  normal p e = normal_dropped (takes here a p) (serving state) e (taken (with_cabinet (left_behind g a b) b (taking here a p))) faulty left

  checkp : (v : Check) → Dropped (Checkp v)
  unfolding receive_checkp checkp_faulty cabinet with_line with_outgoing
  checkp v e =
      checkp_dropped (compares state) (same_check v (get_or here.registers.taken a start_check)) e
      (taken (take_checkp (join_if (is_in state Normal) (left_behind g a b) b) a b)) faulty left

  resume : Dropped Resume
  unfolding receive_resume cabinet with_line with_outgoing
  resume e =
      resume_dropped (is_in state Checkpointed) (resumes_from here a b) e (taken (adopt (left_behind g a b) a b))
      (taken (end_recovery (left_behind g a b) b)) left

  recover : (v : Bool) → Dropped (Recover v)
  unfolding receive_recover cabinet with_line with_outgoing
  recover v e = unheeded (is_in state Error && marked here.noted.heard a) e (taken (recover_with (left_behind g a b) b v)) left

  fault : (p : Place) → Dropped (Fault p)
  unfolding receive_fault fault_crashes cabinet with_line with_outgoing
  fault p e =
      fault_dropped (serving state) (in_recovery state) (is_for here.phase.alarm p) e (taken (hear (enter_error (left_behind g a b) b p) a b))
      (taken (hear (left_behind g a b) a b)) (crashed g) left

  invalid : Dropped Invalid
  unfolding receive_invalid cabinet with_line with_outgoing
  invalid e = invalid_dropped (serving state) e faulty left

  received : (p : Packet) → Dropped p
  received Empty e = refl
  received (NormalPacket p) e = normal p e
  received (Checkp v) e = checkp v e
  received Resume e = resume e
  received (Recover v) e = recover v e
  received (Fault p) e = fault p e
  received Invalid e = invalid e

-- over a struck one it is dropped, whatever it is
dropped : (used : Bool) (g : Group) (a b : ℕ) (p : Packet)
    → told (cond used (finding_by (cabinet g b) a p) Fine) (used && heeds (cabinet g b) a b p) ≡ 2
    → cond used (receive g (left_behind g a b) a b p) (taken (left_behind g a b)) ≡ taken (left_behind g a b)
dropped true g a b p e = received g a b p e
dropped false g a b p e = refl

pub dropped_changes_nothing : DroppedChangesNothing
unfolding fate_of finding delivered
dropped_changes_nothing g a b e = dropped (marked (in_use (cabinet g b)) a) g a b (oldest (line g a b)) e

-- ---- a link fault

found : (f : Finding) (heeded : Bool) → told f heeded ≡ 3 → f ≡ LinkFault
found Fine true e = differs e refl refl
found Fine false e = differs e refl refl
found LinkFault heeded e = refl
found Crash true e = differs e refl refl
found Crash false e = differs e refl refl

pub found_at_it : FoundAtIt
unfolding fate_of link_fault
found_at_it g a b e =
    D.fault g a b
    (found (finding (cabinet g b) a (oldest (line g a b))) (marked (in_use (cabinet g b)) a && heeds (cabinet g b) a b (oldest (line g a b))) e)

-- ---- a normal packet that is taken

added : {A : Type 0} (used takes serves : Bool) → told (cond used (fault_if (not takes && serves)) Fine) (used && takes) ≡ 1 → (t f z w : A)
    → cond used (cond takes t (cond serves f z)) w ≡ t
added true true serves e t f z w = refl
added true false true e t f z w = differs e refl refl
added true false false e t f z w = differs e refl refl
added false takes serves e t f z w = differs e refl refl

added_by : (g : Group) (a b : ℕ) (p : Payload) → fate_of (cabinet g b) a b (NormalPacket p) ≡ 1
    → cond (marked (in_use (cabinet g b)) a) (receive g (left_behind g a b) a b (NormalPacket p)) (taken (left_behind g a b))
    ≡ taken (with_cabinet (left_behind g a b) b (taking (cabinet g b) a p))
unfolding fate_of finding receive_normal normal_faulty cabinet with_line with_outgoing
added_by g a b p e =
    added (marked (in_use (here g a b)) a) (takes (here g a b) a p) (serving (state g a b)) e
    (taken (with_cabinet (left_behind g a b) b (taking (here g a b) a p))) (faulty g a b) (left g a b) (left g a b)

pub taken_is_added : TakenIsAdded
unfolding delivered
taken_is_added g a b p e n =
    ap (λ q. cond (marked (in_use (cabinet g b)) a) (receive g (left_behind g a b) a b q) (taken (left_behind g a b))) n
    ∙ added_by g a b p (ap (fate_of (cabinet g b) a b) (sym n) ∙ e)

-- ---- lines emptied

regroup : (x y z : Bool) → (x || (y || z)) ≡ ((x || y) || z)
regroup true y z = refl
regroup false y z = refl

pub emptied_as_told : EmptiedAsTold
emptied_as_told g g' a b =
    regroup (enters_error (cabinet g a) (cabinet g' a)) (fails (cabinet g a) (cabinet g' a))
    (fails (cabinet g b) (cabinet g' b) || trips (cabinet g b) (cabinet g' b) b)
