-- Moves in which nobody enters error or goes on from it: the note stays, and nobody enters recovering.
use Prim.Native.Nat.{ℕ, zero, suc}
use mathlib.Core.Path.{◌≡◌, refl, sym, ap, ◌∙◌, subst}
use mathlib.Core.Logic.{◌⊎◌, inl, inr, ⊎_elim}
use mathlib.Core.Bool.{Bool, true, false}
use mathlib.Core.List.{List, [], ◌∷◌}
use lib.ListN.{get_or, set}
use lib.Dec.{ltb}
use Rattle.marks.specs.Marks.{covers}
use Rattle.outlet.specs.Outlet.{ends_of}
use Rattle.packet.specs.declared.Payload.{Payload}
use Rattle.packet.specs.declared.Pattern.{Pattern}
use Rattle.packet.specs.declared.Packet.{Packet}
use Rattle.packet.specs.declared.Packet.TheVariants.{Resume}
use Rattle.packet.specs.Packet.{is_normal, damaged}
use Rattle.line.specs.declared.Line.{Line}
use Rattle.line.specs.Line.{packet_at, replaced}
use Rattle.state.specs.declared.State.TheVariants.{Checkpointing, Recovering}
use Rattle.state.specs.declared.Version.{Version}
use Rattle.state.specs.State.{in_recovery}
use Rattle.store.specs.declared.Store.{Store}
use Rattle.store.specs.Store.{partner, is_away, homed_at, leaves, comes_back}
use Rattle.cabinet.specs.declared.Phase.{Phase}
use Rattle.cabinet.specs.declared.Cabinet.{Cabinet}
use Rattle.cabinet.specs.Cabinet.{absent, in_use, sending, taking, hurt_from, beginning, comparing, owing, owing_also, owing_but, owing_none, saved_for, resuming, hearing, restored_for, unsure_for, with_state}
use Rattle.outgoing.specs.declared.Outgoing.{Outgoing}
use Rattle.group.specs.declared.Group.{Group}
use Rattle.group.specs.Group.{cabinet, with_cabinet, state_of, with_outgoing, line, with_line, with_store, forget_trips}
use Rattle.protocol.specs.Moves.{broadcast, join, cut_if_all, take_checkp, resume_with, commit, adopt, hear, pass_reports, leave, drop_reports, come_back, end_recovery}
use Rattle.protocol.specs.Receive.{join_if}
use Rattle.protocol.specs.Kinds.{carried, sent, piece_saved, write_piece, owe_if, report_saved, commit_if_all, fetch_piece, report_restored, come_back_if_away, hurt_if, hurt, lost, report_unsure}
use Rattle.claims.proofs.State.Fun.{cond_elim}
use Rattle.claims.proofs.State.View.{Own, own_of}
use Rattle.claims.proofs.Word.Turns.{Calm, calm_out, calm_then}

-- a cabinet by itself, whatever its home
abbrev pub bare_of : Cabinet → Own
bare_of c = own_of 0 false c

pub record Still (g g' : Group) : Type 0 where
  pub same : g'.settled ≡ g.settled
  pub at : (i : ℕ) → Calm (bare_of (cabinet g i)) (bare_of (cabinet g' i))

pub still_then : {g g' g'' : Group} → Still g g' → Still g' g'' → Still g g''
still_then {g} {g'} {g''} p q = record {
  same = q.same ∙ p.same;
  at = λ i. calm_then (bare_of (cabinet g i)) (bare_of (cabinet g' i)) (bare_of (cabinet g'' i)) (p.at i) (q.at i);
}

-- no cabinet changes
pub still_same : (g g' : Group) → g'.settled ≡ g.settled → ((i : ℕ) → cabinet g' i ≡ cabinet g i) → Still g g'
still_same g g' e f = record { same = e; at = λ i _. inl (ap (λ (c : Cabinet). c.phase.state) (f i), ap (λ (c : Cabinet). c.phase.version) (f i)) }

-- ---- one cabinet is replaced

set_cases : {A : Type 0} (l : List A) (i j : ℕ) (v d : A) → ((j ≡ i) × (get_or (set l i v) j d ≡ v)) ⊎ (get_or (set l i v) j d ≡ get_or l j d)
set_cases [] i j v d = inr refl
set_cases (x ∷ xs) zero zero v d = inl (refl, refl)
set_cases (x ∷ xs) zero (suc j) v d = inr refl
set_cases (x ∷ xs) (suc i) zero v d = inr refl
set_cases (x ∷ xs) (suc i) (suc j) v d = ⊎_elim (λ e. inl (ap suc e.0, e.1)) (λ e. inr e) (set_cases xs i j v d)

pub still_cabinet : (g : Group) (i : ℕ) (c : Cabinet) → Calm (bare_of (cabinet g i)) (bare_of c) → Still g (with_cabinet g i c)
unfolding cabinet with_cabinet
still_cabinet g i c h = record {
  same = refl;
  at = λ j. ⊎_elim
      (λ e. subst (λ (x : Cabinet). Calm (bare_of (get_or g.cabinets j absent)) (bare_of x)) (sym e.1)
      (subst (λ (k : ℕ). Calm (bare_of (get_or g.cabinets k absent)) (bare_of c)) (sym e.0) h))
      (λ e. subst (λ (x : Cabinet). Calm (bare_of (get_or g.cabinets j absent)) (bare_of x)) (sym e) (λ _. inl (refl, refl)))
      (set_cases g.cabinets i j c absent);
}

-- its state and version stay
pub still_noted : (g : Group) (i : ℕ) (c : Cabinet) → c.phase.state ≡ (cabinet g i).phase.state → c.phase.version ≡ (cabinet g i).phase.version → Still g (with_cabinet g i c)
still_noted g i c e f = still_cabinet g i c (λ _. inl (e, f))

-- it goes to a state out of a recovery
pub still_out : (g : Group) (i : ℕ) (c : Cabinet) → in_recovery c.phase.state ≡ false → Still g (with_cabinet g i c)
still_out g i c e = still_cabinet g i c (calm_out (bare_of (cabinet g i)) (bare_of c) e)

-- ---- lines, the store and trips

pub still_outgoing : (g : Group) (i : ℕ) (o : Outgoing) → Still g (with_outgoing g i o)
unfolding cabinet with_outgoing
still_outgoing g i o = still_same g _ refl (λ j. refl)

pub still_line : (g : Group) (a b : ℕ) (l : Line) → Still g (with_line g a b l)
unfolding cabinet with_line with_outgoing
still_line g a b l = still_same g _ refl (λ j. refl)

still_store : (g : Group) (s : Store) → Still g (with_store g s)
unfolding cabinet
still_store g s = still_same g _ refl (λ j. refl)

still_forget : (g : Group) → Still g (forget_trips g)
unfolding cabinet forget_trips
still_forget g = still_same g _ refl (λ j. refl)

still_broadcast : (g : Group) (i : ℕ) (p : Packet) → Still g (broadcast g i p)
unfolding broadcast
still_broadcast g i p = still_outgoing g i _

-- ---- the moves

still_join : (g : Group) (i : ℕ) → Still g (join g i)
unfolding join
still_join g i = still_then (still_outgoing g i _) (still_out _ i (beginning (cabinet g i)) refl)

still_cut : (g : Group) (i : ℕ) → Still g (cut_if_all g i)
unfolding cut_if_all
still_cut g i =
    cond_elim (λ (c : Cabinet). Still g (with_cabinet g i c)) (covers (cabinet g i).noted.come (in_use (cabinet g i)))
    (λ _. still_out g i (with_state (cabinet g i) Checkpointing) refl) (λ _. still_noted g i (cabinet g i) refl refl)

pub still_begin : (g : Group) (i : ℕ) → Still g (cut_if_all (join g i) i)
still_begin g i = still_then (still_join g i) (still_cut (join g i) i)

still_join_if : (t : Bool) (g : Group) (b : ℕ) → Still g (join_if t g b)
still_join_if true g b = still_join g b
still_join_if false g b = still_same g g refl (λ i. refl)

still_take : (g : Group) (a b : ℕ) → Still g (take_checkp g a b)
unfolding take_checkp
still_take g a b = still_then (still_noted g b (comparing (cabinet g b) a) refl refl) (still_cut _ b)

pub still_checkp : (t : Bool) (g : Group) (a b : ℕ) → Still g (take_checkp (join_if t g b) a b)
still_checkp t g a b = still_then (still_join_if t g b) (still_take _ a b)

still_resume : (g : Group) (i : ℕ) (v : Version) → Still g (resume_with g i v)
unfolding resume_with
still_resume g i v = still_then (still_out g i (resuming (cabinet g i) v) refl) (still_broadcast _ i Resume)

pub still_end : (g : Group) (i : ℕ) → Still g (end_recovery g i)
unfolding end_recovery
still_end g i = still_resume g i _

still_commit : (g : Group) (k : ℕ) → Still g (commit g k)
unfolding commit
still_commit g k = still_then (still_resume g k _) (still_forget _)

pub still_adopt : (g : Group) (a b : ℕ) → Still g (adopt g a b)
unfolding adopt
still_adopt g a b = still_then (still_out g b (resuming (cabinet g b) _) refl) (still_outgoing _ b _)

pub still_hear : (g : Group) (a b : ℕ) → Still g (hear g a b)
unfolding hear
still_hear g a b = still_noted g b (hearing (cabinet g b) a) refl refl

pub still_taking : (g : Group) (a b : ℕ) (p : Payload) → Still g (with_cabinet g b (taking (cabinet g b) a p))
still_taking g a b p = still_noted g b (taking (cabinet g b) a p) refl refl

-- ---- the kinds

pub still_sent : (g : Group) (a b p q : ℕ) → Still g (sent g a b p q)
unfolding sent
still_sent g a b p q = still_then (still_noted g a (sending (cabinet g a) b (ends_of p).from (carried g p q)) refl refl) (still_line _ a b _)

still_piece : (g : Group) (a : ℕ) → Still g (write_piece g a)
unfolding write_piece cabinet
still_piece g a =
    let g1 = with_store g (piece_saved g a) in
    still_then (still_store g (piece_saved g a))
    (cond_elim (λ (c : Cabinet). Still g1 (with_cabinet g1 a c)) (ltb (cabinet g a).noted.pieces 3) (λ _. still_noted g1 a _ refl refl) (λ _. still_out g1 a _ refl))

-- a store leaves, and comes back
phase_kept : (g : Group) (i : ℕ) (c : Cabinet) → c.phase ≡ (cabinet g i).phase → (j : ℕ) → (cabinet (with_cabinet g i c) j).phase ≡ (cabinet g j).phase
unfolding cabinet with_cabinet
phase_kept g i c e j =
    ⊎_elim (λ x. ap (λ (y : Cabinet). y.phase) x.1 ∙ e ∙ ap (λ (k : ℕ). (get_or g.cabinets k absent).phase) (sym x.0))
    (λ x. ap (λ (y : Cabinet). y.phase) x) (set_cases g.cabinets i j c absent)

pub still_leave : (g : Group) (a : ℕ) → Still g (leave g a)
unfolding leave pass_reports cabinet
still_leave g a =
    let g1 = with_store g (leaves g.store a) in
    let p = partner g.store a in
    let also = owing_also (cabinet g p) (cabinet g a).owed in
    let same = phase_kept g1 p also refl a in
    still_then (still_store g (leaves g.store a))
    (still_then (still_noted g1 p also refl refl) (still_noted (with_cabinet g1 p also) a (owing_none (cabinet g a)) (ap (λ (x : Phase). x.state) (sym same)) (ap (λ (x : Phase). x.version) (sym same))))

pub still_back : (g : Group) (a : ℕ) → Still g (come_back_if_away g a)
unfolding come_back_if_away come_back drop_reports cabinet
still_back g a =
    let g1 = with_store g (comes_back g.store a) in
    cond_elim (Still g) (is_away g.store a)
    (λ _. still_then (still_store g (comes_back g.store a))
    (still_noted g1 (partner g.store a) (owing_but (cabinet g (partner g.store a)) (homed_at g1.store a)) refl refl))
    (λ _. still_same g g refl (λ j. refl))

pub still_write : (t : Bool) (g : Group) (h a : ℕ) → Still g (owe_if t (write_piece g a) h a)
still_write true g h a = still_then (still_piece g a) (still_noted _ h (owing (cabinet (write_piece g a) h) a true) refl refl)
still_write false g h a = still_piece g a

pub still_saved : (g : Group) (a h k : ℕ) → Still g (commit_if_all (report_saved g a h k) k)
unfolding commit_if_all report_saved
still_saved g a h k =
    let g1 = with_cabinet g h (owing (cabinet g h) a false) in
    let told : Still g (with_cabinet g1 k (saved_for (cabinet g1 k) a)) = still_then (still_noted g h (owing (cabinet g h) a false) refl refl) (still_noted g1 k (saved_for (cabinet g1 k) a) refl refl) in
    cond_elim (Still g) (covers (cabinet _ k).noted.saved (cabinet _ k).table.cabinets) (λ _. still_then told (still_commit _ k)) (λ _. told)

pub still_fetch : (g : Group) (a : ℕ) → state_of g a ≡ Recovering → Still g (fetch_piece g a)
unfolding fetch_piece
still_fetch g a e =
    cond_elim (λ (c : Cabinet). Still g (with_cabinet g a c)) (ltb (cabinet g a).noted.pieces 3) (λ _. still_noted g a _ refl refl) (λ _. still_cabinet g a _ (λ _. inr (e, refl)))

pub still_reported : (g : Group) (a k : ℕ) → Still g (report_restored g a k)
unfolding report_restored
still_reported g a k = still_noted g k (restored_for (cabinet g k) a) refl refl

pub still_unsure : (g : Group) (a k : ℕ) → Still g (report_unsure g a k)
unfolding report_unsure
still_unsure g a k = still_noted g k (unsure_for (cabinet g k) a) refl refl

still_hurt_if : (t : Bool) (g : Group) (a b : ℕ) → Still g (hurt_if t g a b)
still_hurt_if true g a b = still_noted g b (hurt_from (cabinet g b) a) refl refl
still_hurt_if false g a b = still_same g g refl (λ i. refl)

pub still_hurt : (g : Group) (a b p : ℕ) (w : Pattern) → Still g (hurt g a b p w)
unfolding hurt
still_hurt g a b p w =
    let l = replaced (line g a b) p (damaged (packet_at (line g a b) p) w) in
    still_then (still_line g a b l) (still_hurt_if (is_normal (packet_at (line g a b) p)) (with_line g a b l) a b)

pub still_lost : (g : Group) (a b p : ℕ) → Still g (lost g a b p)
unfolding lost
still_lost g a b p = still_then (still_line g a b _) (still_hurt_if true _ a b)
