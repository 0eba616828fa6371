-- What a step makes of a group, covered, is a function of the covered group: for every kind that reads nothing covered the step itself, and for the
-- three that do (a send, a packet taken, damage) the same step without what is covered. The comparison at a checkp is handed in by its result.
use Prim.Native.Nat.{ℕ, ◌+◌, ◌≤◌}
use mathlib.Core.Path.{◌≡◌, refl, sym, ap, ◌∙◌}
use mathlib.Core.Bool.{Bool, true, false, cond, not, ◌&&◌, ◌||◌}
use lib.ListN.{get_or, set}
use lib.Dec.{eqb, ltb, leb}
use borrow.Author.Tests.{eqb-true, leb-true}
use Rattle.marks.specs.Marks.{marked, covers}
use Rattle.marks.specs.Reach.{mark, connected}
use Rattle.packet.specs.declared.Payload.{Payload}
use Rattle.packet.specs.declared.Check.{Check}
use Rattle.packet.specs.declared.Place.TheVariants.{Failed as AtFailed, Tripped as AtTripped}
use Rattle.packet.specs.declared.Packet.{Packet}
use Rattle.packet.specs.declared.Packet.TheVariants.{Empty, Normal as NormalPacket, Checkp, Resume, Recover, Fault, Invalid}
use Rattle.packet.specs.Packet.{start_check, same_check, fits, is_empty, is_normal}
use Rattle.line.specs.Line.{oldest, rest, packet_at, without}
use Rattle.image.specs.declared.Image.{Image}
use Rattle.image.specs.Image.{first_note, with_octet, with_piece}
use Rattle.state.specs.declared.State.TheVariants.{Normal, CheckpBegin, Checkpointing, Checkpointed, Error, Recovering, Recovered}
use Rattle.state.specs.State.{is_in, in_recovery, in_restoring, in_saving, bit_of}
use Rattle.settled.specs.declared.Reason.TheVariants.{Decided}
use Rattle.store.specs.declared.Store.{Store}
use Rattle.store.specs.Store.{is_last, is_away, put_piece}
use Rattle.cabinet.specs.declared.Cabinet.{Cabinet}
use Rattle.cabinet.specs.Alarm.{is_for}
use Rattle.cabinet.specs.Cabinet.{in_use, coordinator, with_image, taking, hurt_from, wrote, owing, saved_for, fetched, restored_for, unsure_for}
use Rattle.group.specs.declared.Group.{Group}
use Rattle.group.specs.declared.Outcome.{Outcome}
use Rattle.group.specs.Group.{cabinet, with_cabinet, state_of, with_outgoing, line, with_line, with_store, home, slot, rows_of, some, working, recovering_ones, trips_of, with_trips_of, settle_over, answering, taken, crashed}
use Rattle.protocol.specs.Moves.{take_checkp, recover_with, find_link_fault}
use Rattle.protocol.specs.Receive.{serving, takes, takes_from, join_if, resumes_from, receive_normal, receive_checkp, receive_resume, receive_recover, receive_fault, receive_invalid, receive}
use Rattle.protocol.specs.Kinds.{need, or_refuse, note_refusal, note_step, begin_step, deliver_refusal, delivered, deliver_step, piece_saved, write_piece, owe_if, write_step, report_saved, commit_if_all, saved_step, fetch_piece, fetch_step, report_restored, come_back_if_away, end_if_all, restored_step, fail_crashes, fail_step, hurt_already, mark_hurt, unless_recovering, lose_refusal, lost, lose_step, trip_crashes, trip_once, trip_step, is_unsure, takes_unsure, report_unsure, decide_if_all, unsure_step}
use Rattle.claims.proofs.State.Fun.{and_true}
use Rattle.claims.proofs.State.Every.{second}
use Rattle.pairs.specs.Covered.{cover_image, cover_payload, cover_packet, cover_cabinet, cover_store, cover, cover_outcome}
use Rattle.pairs.proofs.Parts.{note_covered, whole_piece_covered, empty_covered, normal_covered, at_covered, rest_covered, without_covered, fits_covered}
use Rattle.pairs.proofs.Cabinets.{taking_bus, take_covered, wrote_covered, fetch_covered}
use Rattle.pairs.proofs.Stores.{last_kept, away_kept, piece_put}
use Rattle.pairs.proofs.Groups.{cabinet_at, line_at, store_at, home_at, slot_at_lem, cabinet_put, line_put, store_put, Covers, is, path, Commutes, onto, at_cabinet, reads, working_covered, recovering_covered, join_covered, cut_all_covered, take_checkp_covered, reading, commit_covered, adopt_covered, recover_covered, settle_covered, error_covered, hear_covered, leave_covered, come_back_covered, failed_covered, trip_covered, alarm_covered, end_covered, lost_covered, crash_all_covered, link_fault_covered}

-- ---- outcomes

pub data Gives (o p : Outcome) : Type 0 where
  gives : cover_outcome o ≡ p → Gives o p

pub given : {o p : Outcome} → Gives o p → cover_outcome o ≡ p
given (gives e) = e

pub took : {x y : Group} → Covers x y → Gives (taken x) (taken y)
took e = gives (ap taken (path e))

-- a choice by a test that reads the same
pub both : {t u : Bool} → t ≡ u → {o o' p p' : Outcome} → Gives o p → Gives o' p' → Gives (cond t o o') (cond u p p')
both {t} {u} same p q = rw (sym same) (go t p q)
  where
    go : (t : Bool) {o o' p p' : Outcome} → Gives o p → Gives o' p' → Gives (cond t o o') (cond t p p')
    go true x y = x
    go false x y = y

either : {t u : Bool} → t ≡ u → {x x' y y' : Group} → Covers x y → Covers x' y' → Covers (cond t x x') (cond u y y')
either {t} {u} same p q = rw (sym same) (go t p q)
  where
    go : (t : Bool) {x x' y y' : Group} → Covers x y → Covers x' y' → Covers (cond t x x') (cond t y y')
    go true x y = x
    go false x y = y

by : (t : Bool) {o o' p p' : Outcome} → Gives o p → Gives o' p' → Gives (cond t o o') (cond t p p')
by true x y = x
by false x y = y

-- nothing is done
dropped : (g : Group) → Gives (taken g) (taken (cover g))
dropped g = gives refl

refusing : (k : ℕ) (g : Group) → Gives (answering k g) (answering k (cover g))
refusing k g = gives refl

pub refused : {k l : ℕ} → k ≡ l → (g : Group) {o p : Outcome} → Gives o p → Gives (or_refuse k g o) (or_refuse l (cover g) p)
refused {k} {l} same g e = rw (sym same) (by (eqb k 0) e (refusing k g))

-- .. where the step matters only if nothing refuses it
pub refused_or : {k l : ℕ} → k ≡ l → (g : Group) {o p : Outcome} → (k ≡ 0 → Gives o p) → Gives (or_refuse k g o) (or_refuse l (cover g) p)
refused_or {k} {l} same g {o} {p} e = rw (sym same) (go (eqb k 0) refl)
  where
    go : (t : Bool) → eqb k 0 ≡ t → Gives (cond t o (answering k g)) (cond t p (answering k (cover g)))
    go true q = e (eqb-true k 0 q)
    go false q = refusing k g

abbrev Kind : (Group → Outcome) → Type 0
Kind k = (g : Group) → Gives (k g) (k (cover g))

-- ---- a packet received

-- a normal packet, by a covered group
abbrev pub normal_received : Group → Group → ℕ → ℕ → Payload → Outcome
normal_received before g a b p =
    cond (takes (cabinet g b) a p) (taken (with_cabinet g b (taking_bus (cabinet g b) a p)))
    (cond (serving (state_of g b)) (find_link_fault before g a b) (taken g))

-- a checkp, with what the comparison says
abbrev pub checkp_received : Bool → Group → Group → ℕ → ℕ → Outcome
checkp_received t before g a b =
    cond (is_in (state_of g b) Normal || is_in (state_of g b) CheckpBegin)
    (cond t (taken (take_checkp (join_if (is_in (state_of g b) Normal) g b) a b)) (find_link_fault before g a b))
    (taken g)

abbrev pub received : Bool → Group → Group → ℕ → ℕ → Packet → Outcome
received t before g a b Empty = taken g
received t before g a b (NormalPacket p) = normal_received before g a b p
received t before g a b (Checkp v) = checkp_received t before g a b
received t before g a b Resume = receive_resume g a b
received t before g a b (Recover v) = receive_recover g a b v
received t before g a b (Fault p) = receive_fault before g a b p
received t before g a b Invalid = receive_invalid before g a b

-- what the comparison says of a checkp from a
abbrev pub agrees : Cabinet → ℕ → Packet → Bool
agrees c a Empty = true
agrees c a (NormalPacket p) = true
agrees c a (Checkp v) = same_check v (get_or c.registers.taken a start_check)
agrees c a Resume = true
agrees c a (Recover v) = true
agrees c a (Fault p) = true
agrees c a Invalid = true

abbrev pub deliver_with : Bool → Group → ℕ → ℕ → Outcome
deliver_with t g a b =
    or_refuse (deliver_refusal g a b) g
    (cond (marked (in_use (cabinet g b)) a) (received t g (with_line g a b (rest (line g a b))) a b (oldest (line g a b)))
    (taken (with_line g a b (rest (line g a b)))))

deliver_refusal_lem : (a b : ℕ) (g : Group) → deliver_refusal g a b ≡ deliver_refusal (cover g) a b
unfolding cover
deliver_refusal_lem a b g =
    ap (λ t. need (mark (rows_of g.links) a b) 13 (need (not t) 18 0)) (sym (ap (λ l. is_empty (oldest l)) (line_at g a b) ∙ ap is_empty (at_covered (line g a b) 0) ∙ empty_covered (oldest (line g a b))))

module _ (before g : Group) (a b : ℕ) where
  link_fault : Gives (find_link_fault before g a b) (find_link_fault (cover before) (cover g) a b)
  link_fault = gives (link_fault_covered before g a b)

  same : {A : Type 0} (f : Cabinet → A) → ((x : Cabinet) → f (cover_cabinet x) ≡ f x) → f (cabinet g b) ≡ f (cabinet (cover g) b)
  same f kept = sym (reads f g b ∙ kept (cabinet g b))

  -- of a normal packet taken the covered group sees what a covered cabinet does
  receive_normal_lem : (p : Payload) → Gives (receive_normal before g a b p) (normal_received (cover before) (cover g) a b (cover_payload p))
  unfolding receive_normal
  receive_normal_lem p =
      both (same (λ x. takes_from x a && fits p) (λ x. refl) ∙ ap (λ t. takes_from (cabinet (cover g) b) a && t) (sym (fits_covered p)))
      (took (is (cabinet_put g b (taking (cabinet g b) a p) ∙ ap (with_cabinet (cover g) b) (take_covered (cabinet g b) a p ∙ ap (λ (x : Cabinet). taking_bus x a (cover_payload p)) (sym (cabinet_at g b))))))
      (both (same (λ x. serving x.phase.state) (λ x. refl)) link_fault (dropped g))

  receive_checkp_lem : (v : Check)
      → Gives (receive_checkp before g a b v) (checkp_received (same_check v (get_or (cabinet g b).registers.taken a start_check)) (cover before) (cover g) a b)
  unfolding receive_checkp
  receive_checkp_lem v =
      both (same (λ x. is_in x.phase.state Normal || is_in x.phase.state CheckpBegin) (λ x. refl))
      (by (same_check v (get_or (cabinet g b).registers.taken a start_check)) (took (onto (take_checkp_covered a b) joined)) link_fault) (dropped g)
    where
      joining : (t u : Bool) → t ≡ u → Covers (join_if t g b) (join_if u (cover g) b)
      joining true u e = rw (sym e) (join_covered b g)
      joining false u e = rw (sym e) (is refl)

      joined : Covers (join_if (is_in (state_of g b) Normal) g b) (join_if (is_in (state_of (cover g) b) Normal) (cover g) b)
      joined = joining (is_in (state_of g b) Normal) (is_in (state_of (cover g) b) Normal) (same (λ x. is_in x.phase.state Normal) (λ x. refl))

  receive_covered : (p : Packet) → Gives (receive before g a b p) (received (agrees (cabinet g b) a p) (cover before) (cover g) a b (cover_packet p))
  unfolding receive_resume receive_recover receive_fault receive_invalid
  receive_covered Empty = gives refl
  receive_covered (NormalPacket p) = receive_normal_lem p
  receive_covered (Checkp v) = receive_checkp_lem v
  receive_covered Resume =
      both (same (λ x. is_in x.phase.state Checkpointed) (λ x. refl)) (took (adopt_covered a b g))
      (both (same (λ x. resumes_from x a b) (λ x. refl)) (took (end_covered b g)) (dropped g))
  receive_covered (Recover v) =
      both (same (λ x. is_in x.phase.state Error && marked x.noted.heard a) (λ x. refl)) (took (recover_covered b v g)) (dropped g)
  receive_covered (Fault p) =
      both (same (λ x. serving x.phase.state) (λ x. refl)) (took (onto (hear_covered a b) (error_covered b p g)))
      (both (same (λ x. in_recovery x.phase.state) (λ x. refl))
      (both (same (λ x. is_for x.phase.alarm p) (λ x. refl)) (took (hear_covered a b g)) (gives (crash_all_covered before))) (dropped g))
  receive_covered Invalid = both (same (λ x. serving x.phase.state) (λ x. refl)) link_fault (dropped g)

pub deliver_covered : (a b : ℕ) (g : Group) → Gives (deliver_step g a b) (deliver_with (agrees (cabinet g b) a (oldest (line g a b))) (cover g) a b)
unfolding deliver_step delivered with_line with_outgoing cabinet
deliver_covered a b g =
    refused (deliver_refusal_lem a b g) g
    (both (sym (reads (λ x. marked (in_use x) a) g b))
    (gives (given (receive_covered g left a b (oldest (line g a b)))
    ∙ ap (λ (x : Group). received t (cover g) x a b (cover_packet (oldest (line g a b)))) left_covered
    ∙ ap (received t (cover g) (with_line (cover g) a b (rest (line (cover g) a b))) a b) oldest_same))
    (took (is left_covered)))
  where
    left : Group
    left = with_line g a b (rest (line g a b))

    t : Bool
    t = agrees (cabinet g b) a (oldest (line g a b))

    left_covered : cover left ≡ with_line (cover g) a b (rest (line (cover g) a b))
    left_covered = line_put g a b (rest (line g a b)) ∙ ap (with_line (cover g) a b) (rest_covered (line g a b) ∙ ap rest (sym (line_at g a b)))

    oldest_same : cover_packet (oldest (line g a b)) ≡ oldest (line (cover g) a b)
    oldest_same = sym (ap oldest (line_at g a b) ∙ at_covered (line g a b) 0)

-- ---- the kinds that read nothing covered

-- what is read of a cabinet
pub at : {A : Type 0} (f : Cabinet → A) → ((x : Cabinet) → f (cover_cabinet x) ≡ f x) → (g : Group) (i : ℕ) → f (cabinet g i) ≡ f (cabinet (cover g) i)
at f kept g i = sym (reads f g i ∙ kept (cabinet g i))

pub note_step_lem : (a p q : ℕ) → Kind (λ g. note_step g a p q)
unfolding note_step
note_step_lem a p q g =
    refused_or (at (λ c. need (is_in c.phase.state Normal) 14 (need (leb first_note p && (leb p 31 && leb q 255)) 15 0)) (λ c. refl) g a) g
    (λ none. took (is (cabinet_put g a (with_image (cabinet g a) (with_octet (cabinet g a).image p q))
    ∙ ap (λ (m : Image). with_cabinet (cover g) a (with_image (cover_cabinet (cabinet g a)) m)) (note_covered (cabinet g a).image p q (noted none))
    ∙ ap (λ (c : Cabinet). with_cabinet (cover g) a (with_image c (with_octet c.image p q))) (sym (cabinet_at g a)))))
  where
    noted : note_refusal g a p q ≡ 0 → first_note ≤ p
    noted none = leb-true first_note p (and_true {s = leb first_note p} (second (is_in (state_of g a) Normal) (leb first_note p && (leb p 31 && leb q 255)) none)).0

pub begin_step_lem : (a : ℕ) → Kind (λ g. begin_step g a)
unfolding begin_step
begin_step_lem a g =
    refused (at (λ c. need (is_in c.phase.state Normal && eqb (coordinator c) a) 14 0) (λ c. refl) g a) g (took (onto (cut_all_covered a) (join_covered a g)))

-- what is read of a cabinet, and of another
of_two : {A B : Type 0} (f : Cabinet → B) (k : B → Cabinet → A) → ((x : Cabinet) → f (cover_cabinet x) ≡ f x) → ((y : B) (x : Cabinet) → k y (cover_cabinet x) ≡ k y x)
    → (g : Group) (a : ℕ) {i j : ℕ} → i ≡ j → k (f (cabinet g a)) (cabinet g i) ≡ k (f (cabinet (cover g) a)) (cabinet (cover g) j)
of_two f k kept same g a {i} named =
    at (k (f (cabinet g a))) (same (f (cabinet g a))) g i
    ∙ ap (λ y. k y (cabinet (cover g) i)) (at f kept g a)
    ∙ ap (λ j. k (f (cabinet (cover g) a)) (cabinet (cover g) j)) named

-- .. that the first names
twice : {A B : Type 0} (f : Cabinet → B) (i : Cabinet → ℕ) (k : B → Cabinet → A)
    → ((x : Cabinet) → f (cover_cabinet x) ≡ f x) → ((x : Cabinet) → i (cover_cabinet x) ≡ i x) → ((y : B) (x : Cabinet) → k y (cover_cabinet x) ≡ k y x)
    → (g : Group) (a : ℕ) → k (f (cabinet g a)) (cabinet g (i (cabinet g a))) ≡ k (f (cabinet (cover g) a)) (cabinet (cover g) (i (cabinet (cover g) a)))
twice f i k kept named same g a = of_two f k kept same g a (at i named g a)

-- .. or that is its home
home_same : (g : Group) (a : ℕ) → home g a ≡ home (cover g) a
home_same g a = sym (home_at g a)

at_home : {A : Type 0} (f : Cabinet → A) → ((x : Cabinet) → f (cover_cabinet x) ≡ f x) → (g : Group) (a : ℕ) → f (cabinet g (home g a)) ≡ f (cabinet (cover g) (home (cover g) a))
at_home f kept g a = at f kept g (home g a) ∙ ap (λ h. f (cabinet (cover g) h)) (home_same g a)

-- piece k of c's image goes to the slot that its version does not name
abbrev saves : Store → ℕ → Cabinet → Store
saves s a c = put_piece s a (not (bit_of c.phase.version)) c.noted.pieces c.image

write_piece_lem : (a : ℕ) → Commutes (λ g. write_piece g a)
unfolding write_piece cabinet
write_piece_lem a g =
    onto {m = λ x. with_cabinet x a (wrote (cabinet x a) a)} (at_cabinet (λ c. wrote c a) (wrote_covered a) a)
    (is (store_put g (piece_saved g a)
    ∙ ap (with_store (cover g)) (piece_put a (not (bit_of (cabinet g a).phase.version)) (cabinet g a).noted.pieces (cabinet g a).image g.store
    ∙ ap (λ (c : Cabinet). saves (cover_store g.store) a c) (sym (cabinet_at g a)) ∙ ap (λ (s : Store). saves s a (cabinet (cover g) a)) (sym (store_at g)))))

pub write_step_lem : (a : ℕ) → Kind (λ g. write_step g a)
unfolding write_step
write_step_lem a g =
    refused (of_two (λ c. is_in c.phase.state Checkpointing) (λ t c. need t 14 (need (not (in_recovery c.phase.state)) 19 0)) (λ c. refl) (λ t c. refl) g a (home_same g a)) g
    (took (is (path (owed (not (ltb (cabinet g a).noted.pieces 3)) (home g a) (write_piece_lem a g))
    ∙ ap (λ (c : Cabinet). owe_if (not (ltb c.noted.pieces 3)) (write_piece (cover g) a) (home g a) a) (sym (cabinet_at g a))
    ∙ ap (λ h. owe_if (not (ltb (cabinet (cover g) a).noted.pieces 3)) (write_piece (cover g) a) h a) (home_same g a))))
  where
    owed : (t : Bool) (h : ℕ) {x y : Group} → Covers x y → Covers (owe_if t x h a) (owe_if t y h a)
    owed true h e = onto {m = λ x. with_cabinet x h (owing (cabinet x h) a true)} (at_cabinet (λ c. owing c a true) (λ c. refl) h) e
    owed false h e = e

-- the coordinator in the table of a's home
abbrev leads : Group → ℕ → ℕ
leads g a = coordinator (cabinet g (home g a))

leads_same : (g : Group) (a : ℕ) → leads g a ≡ leads (cover g) a
leads_same g a = at_home coordinator (λ c. refl) g a

report_saved_lem : (a h k : ℕ) → Commutes (λ g. report_saved g a h k)
unfolding report_saved
report_saved_lem a h k g =
    onto {m = λ x. with_cabinet x k (saved_for (cabinet x k) a)} (at_cabinet (λ c. saved_for c a) (λ c. refl) k) (at_cabinet (λ c. owing c a false) (λ c. refl) h g)

commit_all : (k : ℕ) → Commutes (λ g. commit_if_all g k)
unfolding commit_if_all
commit_all k g = either (at (λ c. covers c.noted.saved c.table.cabinets) (λ c. refl) g k) (commit_covered k g) (is refl)

pub saved_step_lem : (a : ℕ) → Kind (λ g. saved_step g a)
unfolding saved_step
saved_step_lem a g =
    refused (ap (λ k. need (marked (cabinet g (home g a)).owed a && in_saving (state_of g k)) 19 0) (leads_same g a)
    ∙ ap (λ t. need (t && in_saving (state_of g (leads (cover g) a))) 19 0) (at_home (λ c. marked c.owed a) (λ c. refl) g a)
    ∙ at (λ c. need (marked (cabinet (cover g) (home (cover g) a)).owed a && in_saving c.phase.state) 19 0) (λ c. refl) g (leads (cover g) a)) g
    (took (is (path (onto (commit_all (leads g a)) (report_saved_lem a (home g a) (leads g a) g))
    ∙ ap (λ k. commit_if_all (report_saved (cover g) a (home g a) k) k) (leads_same g a)
    ∙ ap (λ h. commit_if_all (report_saved (cover g) a h (leads (cover g) a)) (leads (cover g) a)) (home_same g a))))

pub fetch_step_lem : (a : ℕ) → Kind (λ g. fetch_step g a)
unfolding fetch_step fetch_piece
fetch_step_lem a g =
    refused (of_two (λ c. is_in c.phase.state Recovering) (λ t c. need t 14 (need (in_restoring c.phase.state) 19 0)) (λ c. refl) (λ t c. refl) g a (home_same g a)) g
    (took (is (cabinet_put g a (fetched (cabinet g a) (with_piece (cabinet g a).noted.pieces kept (cabinet g a).image))
    ∙ ap (with_cabinet (cover g) a) (fetch_covered (cabinet g a) (with_piece (cabinet g a).noted.pieces kept (cabinet g a).image)
    ∙ ap (fetched (cover_cabinet (cabinet g a))) (whole_piece_covered (cabinet g a).noted.pieces kept (cabinet g a).image
    ∙ ap (λ (m : Image). with_piece (cabinet g a).noted.pieces m (cover_image (cabinet g a).image)) kept_same))
    ∙ ap (λ (c : Cabinet). with_cabinet (cover g) a (fetched c (with_piece c.noted.pieces (slot (cover g) (home (cover g) a) a (bit_of (cabinet (cover g) (home (cover g) a)).phase.version)) c.image))) (sym (cabinet_at g a)))))
  where
    v : Bool
    v = bit_of (cabinet g (home g a)).phase.version

    kept : Image
    kept = slot g (home g a) a v

    kept_same : cover_image kept ≡ slot (cover g) (home (cover g) a) a (bit_of (cabinet (cover g) (home (cover g) a)).phase.version)
    kept_same =
        sym (slot_at_lem g (home g a) a v) ∙ ap (λ h. slot (cover g) h a v) (home_same g a)
        ∙ ap (slot (cover g) (home (cover g) a) a) (at_home (λ c. bit_of c.phase.version) (λ c. refl) g a)

-- the coordinator in the table of a
abbrev chief : Group → ℕ → ℕ
chief g a = coordinator (cabinet g a)

chief_same : (g : Group) (a : ℕ) → chief g a ≡ chief (cover g) a
chief_same g a = at coordinator (λ c. refl) g a

settle_over_lem : Commutes settle_over
unfolding settle_over cover
settle_over_lem g = is refl

end_all : (k : ℕ) → Commutes (λ g. end_if_all g k)
unfolding end_if_all
end_all k g =
    either (at (λ c. is_in c.phase.state Recovered && covers c.noted.restored c.table.cabinets) (λ c. refl) g k)
    (onto settle_over_lem (onto (end_covered k) (lost_covered k g))) (is refl)

back_if_away : (a : ℕ) → Commutes (λ g. come_back_if_away g a)
unfolding come_back_if_away
back_if_away a g =
    either (sym (ap (λ (s : Store). is_away s a) (store_at g) ∙ away_kept g.store a)) (come_back_covered a g) (is refl)

pub restored_step_lem : (a : ℕ) → Kind (λ g. restored_step g a)
unfolding restored_step report_restored
restored_step_lem a g =
    refused (twice {A = ℕ} {B = Bool × Bool} (λ c. (is_in c.phase.state Recovered, covers c.noted.heard (in_use c))) coordinator
    (λ t k. need t.0 14 (need (not (marked k.noted.restored a) && (t.1 && in_restoring k.phase.state)) 19 0)) (λ c. refl) (λ c. refl) (λ t c. refl) g a) g
    (took (is (path (onto (end_all (chief g a)) (onto (back_if_away a) (at_cabinet (λ c. restored_for c a) (λ c. refl) (chief g a) g)))
    ∙ ap (λ k. end_if_all (come_back_if_away (report_restored (cover g) a k) a) k) (chief_same g a))))

-- what a fail and a trip ask before they crash the group
reach_same : (g : Group) (a : ℕ) → connected (rows_of g.sound) (set (working g) a false) ≡ connected (rows_of (cover g).sound) (set (working (cover g)) a false)
unfolding cover
reach_same g a = ap (λ m. connected (rows_of g.sound) (set m a false)) (sym (working_covered g))

last_same : (g : Group) (a : ℕ) → is_last g.store a ≡ is_last (cover g).store a
last_same g a = sym (ap (λ (s : Store). is_last s a) (store_at g) ∙ last_kept g.store a)

fail_crashes_lem : (g : Group) (a : ℕ) → fail_crashes g a ≡ fail_crashes (cover g) a
fail_crashes_lem g a =
    ap (λ t. is_last g.store a || (some (recovering_ones g) || not t)) (reach_same g a)
    ∙ ap (λ m. is_last g.store a || (some m || not (connected (rows_of (cover g).sound) (set (working (cover g)) a false)))) (sym (recovering_covered g))
    ∙ ap (λ t. t || (some (recovering_ones (cover g)) || not (connected (rows_of (cover g).sound) (set (working (cover g)) a false)))) (last_same g a)

pub fail_step_lem : (a : ℕ) → Kind (λ g. fail_step g a)
unfolding fail_step
fail_step_lem a g =
    both (fail_crashes_lem g a) (gives (crash_all_covered g)) (took (onto (alarm_covered 8 a (AtFailed a)) (onto (failed_covered a) (leave_covered a g))))

trip_crashes_lem : (g : Group) (a : ℕ) → trip_crashes g a ≡ trip_crashes (cover g) a
trip_crashes_lem g a =
    ap (λ t. is_last g.store a || (some (recovering_ones g) || (eqb (coordinator (cabinet g a)) a && not t))) (reach_same g a)
    ∙ ap (λ m. is_last g.store a || (some m || (eqb (coordinator (cabinet g a)) a && not (connected (rows_of (cover g).sound) (set (working (cover g)) a false))))) (sym (recovering_covered g))
    ∙ at (λ c. is_last g.store a || (some (recovering_ones (cover g)) || (eqb (coordinator c) a && not (connected (rows_of (cover g).sound) (set (working (cover g)) a false))))) (λ c. refl) g a
    ∙ ap (λ t. t || (some (recovering_ones (cover g)) || (eqb (coordinator (cabinet (cover g) a)) a && not (connected (rows_of (cover g).sound) (set (working (cover g)) a false))))) (last_same g a)

count_trip : (a k : ℕ) → Commutes (λ g. with_trips_of g a k)
unfolding with_trips_of cover
count_trip a k g = is refl

trips_same : (g : Group) (a : ℕ) → trips_of g a ≡ trips_of (cover g) a
unfolding trips_of cover
trips_same g a = refl

trip_once_lem : (a k : ℕ) → Kind (λ g. trip_once g a k)
unfolding trip_once
trip_once_lem a k g =
    both (trip_crashes_lem g a) (gives (crash_all_covered g))
    (took (onto (alarm_covered 8 a (AtTripped a)) (onto (trip_covered a) (onto (leave_covered a) (count_trip a k g)))))

pub trip_step_lem : (a : ℕ) → Kind (λ g. trip_step g a)
unfolding trip_step
trip_step_lem a g =
    both (ap (λ k. ltb k 2) (trips_same g a))
    (gives (given (trip_once_lem a (trips_of g a + 1) g) ∙ ap (λ k. trip_once (cover g) a (k + 1)) (trips_same g a))) (fail_step_lem a g)

decide_all : (k : ℕ) → Commutes (λ g. decide_if_all g k)
unfolding decide_if_all
decide_all k g =
    either (at (λ c. covers c.noted.unsure c.table.cabinets) (λ c. refl) g k)
    (onto (settle_covered k Decided) (reading (λ c. bit_of c.phase.version) (λ v x. recover_with x k v) (λ v. recover_covered k v) (λ c. refl) k g)) (is refl)

pub unsure_step_lem : (a : ℕ) → Kind (λ g. unsure_step g a)
unfolding unsure_step report_unsure
unsure_step_lem a g =
    refused (twice {A = ℕ} {B = Bool} (λ c. is_unsure c && c.noted.former) coordinator
    (λ t k. need t 14 (need (takes_unsure k a) 19 0)) (λ c. refl) (λ c. refl) (λ t c. refl) g a) g
    (took (is (path (onto (decide_all (chief g a)) (at_cabinet (λ c. unsure_for c a) (λ c. refl) (chief g a) g))
    ∙ ap (λ k. decide_if_all (report_unsure (cover g) a k) k) (chief_same g a))))

-- ---- damage and loss

pub mark_hurt_lem : (a b : ℕ) → Commutes (λ g. mark_hurt g a b)
mark_hurt_lem a b g = at_cabinet (λ c. hurt_from c a) (λ c. refl) b g

pub packet_same : (g : Group) (a b k : ℕ) → cover_packet (packet_at (line g a b) k) ≡ packet_at (line (cover g) a b) k
packet_same g a b k = sym (ap (λ l. packet_at l k) (line_at g a b) ∙ at_covered (line g a b) k)

pub normal_same : (g : Group) (a b k : ℕ) → is_normal (packet_at (line g a b) k) ≡ is_normal (packet_at (line (cover g) a b) k)
normal_same g a b k = sym (normal_covered (packet_at (line g a b) k)) ∙ ap is_normal (packet_same g a b k)

pub hurt_same : (g : Group) (a b k : ℕ) → hurt_already g a b (packet_at (line g a b) k) ≡ hurt_already (cover g) a b (packet_at (line (cover g) a b) k)
hurt_same g a b k =
    ap (λ t. t && marked (cabinet g b).registers.hurt a) (normal_same g a b k)
    ∙ at (λ c. is_normal (packet_at (line (cover g) a b) k) && marked c.registers.hurt a) (λ c. refl) g b

pub unless_open : (g : Group) {x y : Group} → (some (recovering_ones g) ≡ false → Covers x y) → Gives (unless_recovering g x) (unless_recovering (cover g) y)
unless_open g {x} {y} e = rw (recovering_covered g) (go (some (recovering_ones g)) refl)
  where
    go : (t : Bool) → some (recovering_ones g) ≡ t → Gives (cond t (crashed g) (taken x)) (cond t (crashed (cover g)) (taken y))
    go true q = gives (crash_all_covered g)
    go false q = took (e q)

lost_packet : (a b k : ℕ) → Commutes (λ g. lost g a b k)
unfolding lost
lost_packet a b k g =
    onto (mark_hurt_lem a b)
    (is (line_put g a b (without (line g a b) k) ∙ ap (with_line (cover g) a b) (without_covered (line g a b) k ∙ ap (λ l. without l k) (sym (line_at g a b)))))

lose_refusal_lem : (g : Group) (a b k : ℕ) → lose_refusal g a b k ≡ lose_refusal (cover g) a b k
unfolding cover
lose_refusal_lem g a b k =
    ap (λ t. need (mark (rows_of g.links) a b) 13 (need t 18 (need (not (hurt_already g a b (packet_at (line g a b) k))) 20 0))) (normal_same g a b k)
    ∙ ap (λ t. need (mark (rows_of g.links) a b) 13 (need (is_normal (packet_at (line (cover g) a b) k)) 18 (need (not t) 20 0))) (hurt_same g a b k)

pub lose_step_lem : (a b k : ℕ) → Kind (λ g. lose_step g a b k)
unfolding lose_step
lose_step_lem a b k g = refused (lose_refusal_lem g a b k) g (unless_open g (λ still. lost_packet a b k g))
