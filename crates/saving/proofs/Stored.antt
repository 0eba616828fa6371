-- Begin, write and saved of the group are those on the cabinets, lines and slots that they touch, stored back.
use Prim.Native.Nat.{ℕ, zero, suc}
use mathlib.Core.Path.{◌≡◌, refl, sym, ap, ◌∙◌}
use mathlib.Core.Bool.{Bool, true, false, cond, not}
use mathlib.Core.List.{List, [], ◌∷◌}
use lib.ListN.{length, get_or, set, length-set}
use lib.Dec.{eqb, ltb}
use Rattle.marks.specs.Marks.{covers}
use Rattle.state.specs.State.{bit_of}
use Rattle.store.specs.Store.{home_in}
use Rattle.store.specs.declared.Share.{Share}
use Rattle.store.specs.Share.{share, with_share, serves_in}
use Rattle.store.proofs.Shared.{share_same, share_put}
use Rattle.cabinet.specs.declared.Cabinet.{Cabinet}
use Rattle.cabinet.specs.Cabinet.{absent, coordinator, cutting, wrote, owing, saved_for}
use Rattle.group.specs.declared.Group.{Group}
use Rattle.group.specs.declared.Outcome.{Outcome}
use Rattle.group.specs.Group.{cabinet, with_cabinet, outgoing, with_outgoing, with_cabinets, with_lines, with_store, with_trips, no_trips, forget_trips, answering, taken}
use Rattle.seat.specs.declared.Seat.{Seat}
use Rattle.seat.proofs.Same.{cabinet_same}
use Rattle.seat.specs.Seat.{seat, with_seat, answered}
use Rattle.seat.proofs.Laws.{seat_then, seat_same, cabinet_stored, length_stays}
use Rattle.protocol.specs.Moves as M
use Rattle.protocol.specs.Kinds as G
use Rattle.moves.specs.Seats as S
use Rattle.moves.proofs.Stored.{join_stored, commit_stored}
use Rattle.saving.specs.declared.KeptAnswer.{KeptAnswer}
use Rattle.saving.specs.Saving.{begin_refusal, begin, write_refusal, leaving, piece_saved, write, owe_if, saved_refusal, all_saved, commit_if_all, trips_after}

-- ---- a cabinet read and stored

-- what is stored over a place read back is stored there at once
again : (f : Cabinet → Cabinet) (l : List Cabinet) (i : ℕ) (c d : Cabinet) → set (set l i c) i (f (get_or (set l i c) i d)) ≡ set l i (f c)
again f [] i c d = refl
again f (x ∷ l) zero c d = refl
again f (x ∷ l) (suc i) c d = ap (λ (r : List Cabinet). x ∷ r) (again f l i c d)

-- ---- 3 begin

cut_then : (g : Group) (i : ℕ) (s : Seat) → M.cut_if_all (with_seat g i s) i ≡ with_seat g i (S.cut_if_all s)
unfolding M.cut_if_all S.cut_if_all cabinet with_cabinet with_outgoing
cut_then g i s = ap (λ cs. with_lines (with_cabinets g cs) (set g.outgoing i s.lines)) (again cutting g.cabinets i s.cabinet absent)

begin_by : (g : Group) (a : ℕ) (h : Group) (s : Seat) (k : ℕ) (t : Bool) → h ≡ with_seat g a s
    → cond t (taken h) (answering k g)
    ≡ answering (cond t (answered 0 s) (answered k (seat g a))).answer (with_seat g a (cond t (answered 0 s) (answered k (seat g a))).seat)
begin_by g a h s k true e = ap taken e
begin_by g a h s k false e = ap (answering k) (sym (seat_same g a))

pub begin_stored : (g : Group) (a : ℕ)
    → G.begin_step g a ≡ answering (begin (seat g a) a).answer (with_seat g a (begin (seat g a) a).seat)
unfolding G.begin_step begin
begin_stored g a =
    begin_by g a (M.cut_if_all (M.join g a) a) (S.cut_if_all (S.join (seat g a))) (begin_refusal (cabinet g a) a) (eqb (begin_refusal (cabinet g a) a) 0)
    (ap (λ h. M.cut_if_all h a) (join_stored g a) ∙ cut_then g a (S.join (seat g a)))

-- ---- 5 write

-- the store that serves cabinet a
abbrev pub home_of : Group → ℕ → ℕ
home_of g a = serves_in (share g.store a)

-- cabinet a and its share of the store, stored back
abbrev pub keep : Group → ℕ → Cabinet → Share → Group
keep g a c x = with_store (with_cabinet g a c) (with_share g.store a x)

-- .. and its home, which may owe a report on it
abbrev pub keep_all : Group → ℕ → KeptAnswer → Outcome
keep_all g a r =
    answering r.answer (with_cabinet (keep g a r.cabinet r.share) (home_of g a) (owe_if r.owes (cabinet (keep g a r.cabinet r.share) (home_of g a)) a))

pub kept_same : (g : Group) (a : ℕ) → keep g a (cabinet g a) (share g.store a) ≡ g
kept_same g a = ap (λ h. with_store h (with_share g.store a (share g.store a))) (cabinet_same g a) ∙ ap (with_store g) (share_same g.store a)

owe_stored : (b : Bool) (g : Group) (h a : ℕ) → G.owe_if b g h a ≡ with_cabinet g h (owe_if b (cabinet g h) a)
owe_stored true g h a = refl
owe_stored false g h a = sym (cabinet_same g h)

-- a refusal stores what was read
pub refused_same : (g : Group) (a k : ℕ) → answering k g ≡ keep_all g a (leaving k (cabinet g a) (share g.store a) false)
refused_same g a k =
    ap (answering k)
    (sym (cabinet_same (keep g a (cabinet g a) (share g.store a)) (home_of g a) ∙ kept_same g a))

pub kept_by : (g : Group) (a : ℕ) (h : Group) (r : KeptAnswer) (k : ℕ) (t : Bool) → taken h ≡ keep_all g a r
    → cond t (taken h) (answering k g) ≡ keep_all g a (cond t r (leaving k (cabinet g a) (share g.store a) false))
kept_by g a h r k true e = e
kept_by g a h r k false e = refused_same g a k

piece_stored : (g : Group) (a : ℕ) → G.write_piece g a ≡ keep g a (wrote (cabinet g a) a) (piece_saved (share g.store a) (cabinet g a))
unfolding G.write_piece with_cabinet
piece_stored g a =
    ap (with_store (with_cabinet g a (wrote (cabinet g a) a)))
    (sym (share_put g.store a (not (bit_of (cabinet g a).phase.version)) (cabinet g a).noted.pieces (cabinet g a).image))

written : (g : Group) (a : ℕ) (b : Bool)
    → taken (G.owe_if b (G.write_piece g a) (home_of g a) a)
    ≡ keep_all g a (leaving 0 (wrote (cabinet g a) a) (piece_saved (share g.store a) (cabinet g a)) b)
written g a b =
    ap taken
    (ap (λ h. G.owe_if b h (home_of g a) a) (piece_stored g a)
    ∙ owe_stored b (keep g a (wrote (cabinet g a) a) (piece_saved (share g.store a) (cabinet g a))) (home_of g a) a)

pub write_stored : (g : Group) (a : ℕ)
    → G.write_step g a ≡ keep_all g a (write (cabinet g a) (cabinet g (home_of g a)) (share g.store a) a)
unfolding G.write_step write share home_in
write_stored g a =
    let r = write_refusal (cabinet g a) (cabinet g (home_of g a)) in
    let b = not (ltb (cabinet g a).noted.pieces 3) in
    kept_by g a (G.owe_if b (G.write_piece g a) (home_of g a) a)
    (leaving 0 (wrote (cabinet g a) a) (piece_saved (share g.store a) (cabinet g a)) b) r (eqb r 0) (written g a b)

-- ---- 6 saved

pub saved_refused : (g : Group) (a : ℕ)
    → G.saved_refusal g a ≡ saved_refusal (cabinet g (home_of g a)) (cabinet g (coordinator (cabinet g (home_of g a)))) a
unfolding share home_in
saved_refused g a = refl

-- the group once home h owes the report on a no more
abbrev pub reported : Group → ℕ → ℕ → Group
reported g a h = with_cabinet g h (owing (cabinet g h) a false)

-- what a changed cabinet is asked, read back; past the end the change makes no difference
pub told : (ask : Cabinet → Bool) (change : Cabinet → Cabinet) → ask absent ≡ ask (change absent) → (l : List Cabinet) (k : ℕ)
    → ask (get_or (set l k (change (get_or l k absent))) k absent) ≡ ask (change (get_or l k absent))
told ask change e [] k = e
told ask change e (x ∷ l) zero = refl
told ask change e (x ∷ l) (suc k) = told ask change e l k

-- past the end nothing is wanted
none_wanted : (a : ℕ) → all_saved absent ≡ all_saved (saved_for absent a)
unfolding covers
none_wanted a = refl

saved_by : (g : Group) (k : ℕ) (s : Seat) (t : Bool) → length g.cabinets ≡ length g.outgoing
    → cond t (M.commit (with_seat g k s) k) (with_seat g k s) ≡ with_trips (with_seat g k (cond t (S.commit s) s)) (cond t no_trips g.trips)
unfolding forget_trips with_cabinet with_outgoing
saved_by g k s true e =
    commit_stored (with_seat g k s) k (length_stays g k s e) ∙ ap (λ h. with_trips h no_trips) (seat_then S.commit g k s e)
saved_by g k s false e = refl

pub saved_stored : (g : Group) (a h k : ℕ) → length g.cabinets ≡ length g.outgoing
    → G.commit_if_all (G.report_saved g a h k) k
    ≡ with_trips
    (with_seat (reported g a h) k (commit_if_all (record { cabinet = saved_for (cabinet (reported g a h) k) a; lines = outgoing (reported g a h) k })))
    (trips_after (saved_for (cabinet (reported g a h) k) a) g.trips)
unfolding G.commit_if_all G.report_saved commit_if_all trips_after cabinet with_cabinet outgoing with_outgoing
saved_stored g a h k e =
    let m = reported g a h in
    let c = saved_for (cabinet m k) a in
    let s : Seat = record { cabinet = c; lines = outgoing m k } in
    ap (λ x. cond (all_saved (cabinet x k)) (M.commit x k) x) (cabinet_stored m k c)
    ∙ (ap (λ t. cond t (M.commit (with_seat m k s) k) (with_seat m k s)) (told all_saved (λ x. saved_for x a) (none_wanted a) m.cabinets k)
    ∙ saved_by m k s (all_saved c) (length-set g.cabinets h (owing (cabinet g h) a false) ∙ e))
