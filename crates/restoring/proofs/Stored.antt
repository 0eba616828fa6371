-- Fetch, restored and unsure of the group are those on the cabinets, lines and slots that they touch, stored back.
use Rattle.std.specs.Prelude.{None, Some}
use Prim.Native.Nat.{ℕ}
use mathlib.Core.Path.{◌≡◌, refl, sym, ap, ◌∙◌}
use mathlib.Core.Bool.{Bool, true, false, cond, ◌||◌}
use lib.ListN.{length, length-set}
use lib.Dec.{eqb}
use Rattle.marks.specs.Marks.{covers}
use Rattle.packet.specs.declared.Place.TheVariants.{Failed as AtFailed, Tripped as AtTripped, Link as AtLink}
use Rattle.state.specs.declared.Version.{Version}
use Rattle.state.specs.State.{bit_of}
use Rattle.settled.specs.declared.Reason.TheVariants.{Decided}
use Rattle.settled.specs.Settled.{enters}
use Rattle.image.specs.Image.{with_piece}
use Rattle.store.specs.Store.{home_in, is_away}
use Rattle.store.specs.Share.{share}
use Rattle.store.proofs.Shared.{share_same, share_slot}
use Rattle.cabinet.specs.Alarm.{Alarm}
use Rattle.cabinet.specs.Cabinet.{absent, coordinator, fetched, restored_for, unsure_for, with_version}
use Rattle.group.specs.declared.Group.{Group}
use Rattle.group.specs.Group.{cabinet, with_cabinet, outgoing, with_outgoing, with_store, with_settled, settle, taken}
use Rattle.seat.specs.declared.Seat.{Seat}
use Rattle.seat.specs.Seat.{seat, with_seat}
use Rattle.seat.proofs.Laws.{seat_then, cabinet_stored, length_stays}
use Rattle.protocol.specs.Moves as M
use Rattle.protocol.specs.Kinds as G
use Rattle.moves.specs.Seats as S
use Rattle.moves.proofs.Stored.{recover_stored, end_stored}
use Rattle.saving.specs.Saving.{leaving}
use Rattle.seat.proofs.Same.{cabinet_same}
use Rattle.saving.proofs.Stored.{home_of, keep, keep_all, kept_by, told}
use Rattle.restoring.specs.Restoring.{fetch_refusal, fetch_piece, fetch, restored_refusal, all_restored, closes, closing, unsure_refusal, all_unsure, decide_if_all, word_after}

-- ---- 7 fetch

piece_stored : (g : Group) (a : ℕ)
    → G.fetch_piece g a ≡ keep g a (fetch_piece (cabinet g a) (cabinet g (home_of g a)) (share g.store a)) (share g.store a)
unfolding G.fetch_piece fetch_piece share home_in with_cabinet
piece_stored g a =
    let c = cabinet g a in
    let home = cabinet g (home_of g a) in
    ap (λ m. with_cabinet g a (fetched c (with_piece c.noted.pieces m c.image))) (sym (share_slot g.store (home_of g a) a (bit_of home.phase.version)))
    ∙ ap (with_store (with_cabinet g a (fetch_piece c home (share g.store a)))) (sym (share_same g.store a))

fetch_taken : (g : Group) (a : ℕ)
    → taken (G.fetch_piece g a) ≡ keep_all g a (leaving 0 (fetch_piece (cabinet g a) (cabinet g (home_of g a)) (share g.store a)) (share g.store a) false)
fetch_taken g a =
    ap taken (piece_stored g a ∙ sym (cabinet_same (keep g a (fetch_piece (cabinet g a) (cabinet g (home_of g a)) (share g.store a)) (share g.store a)) (home_of g a)))

pub fetch_stored : (g : Group) (a : ℕ)
    → G.fetch_step g a ≡ keep_all g a (fetch (cabinet g a) (cabinet g (home_of g a)) (share g.store a))
unfolding G.fetch_step fetch share home_in
fetch_stored g a =
    let r = fetch_refusal (cabinet g a) (cabinet g (home_of g a)) in
    kept_by g a (G.fetch_piece g a)
    (leaving 0 (fetch_piece (cabinet g a) (cabinet g (home_of g a)) (share g.store a)) (share g.store a) false) r (eqb r 0) (fetch_taken g a)

-- ---- 8 restored

pub restored_refused : (g : Group) (a : ℕ)
    → G.restored_refusal g a ≡ restored_refusal (cabinet g a) (cabinet g (coordinator (cabinet g a))) a
restored_refused g a = refl

-- a note leaves as many cabinets as rows of lines
note_length : (x : Alarm) (g : Group) (v : Version) → length g.cabinets ≡ length g.outgoing
    → length (M.note_for x g v).cabinets ≡ length (M.note_for x g v).outgoing
unfolding with_cabinet
note_length None g v e = e
note_length (Some (AtFailed x)) g v e = length-set g.cabinets x (with_version (cabinet g x) v) ∙ e
note_length (Some (AtTripped x)) g v e = e
note_length (Some (AtLink x y)) g v e = e

-- the end of a recovery, once the failed cabinet's slot is noted
pub end_noted : (g : Group) (k : ℕ) → length g.cabinets ≡ length g.outgoing
    → M.end_recovery (M.note_lost g k) k ≡ with_seat (M.note_lost g k) k (S.end_recovery (seat (M.note_lost g k) k))
unfolding M.note_lost
end_noted g k e = end_stored (M.note_lost g k) k (note_length (cabinet g k).phase.alarm g (cabinet g k).phase.version e)

-- where nothing closes, nothing more is done
not_closing : (g : Group) (a k : ℕ) → is_away g.store a ≡ false → all_restored (cabinet g k) ≡ false → closing g a k ≡ g
unfolding closing G.end_if_all G.come_back_if_away
not_closing g a k e f = rw (e, f) refl

closed_by : (g : Group) (a k : ℕ) (s : Seat) (away all : Bool) → is_away g.store a ≡ away → all_restored s.cabinet ≡ all
    → closing (with_seat g k s) a k ≡ cond (away || all) (closing (with_seat g k s) a k) (with_seat g k s)
unfolding cabinet with_cabinet with_outgoing
closed_by g a k s true all e f = refl
closed_by g a k s false true e f = refl
closed_by g a k s false false e f = not_closing (with_seat g k s) a k e (told all_restored (λ x. s.cabinet) (sym f) g.cabinets k ∙ f)

pub restored_stored : (g : Group) (a k : ℕ)
    → G.end_if_all (G.come_back_if_away (G.report_restored g a k) a) k
    ≡ cond (closes (is_away g.store a) (restored_for (cabinet g k) a))
    (closing (with_seat g k (record { cabinet = restored_for (cabinet g k) a; lines = outgoing g k })) a k)
    (with_seat g k (record { cabinet = restored_for (cabinet g k) a; lines = outgoing g k }))
unfolding G.report_restored closing closes
restored_stored g a k =
    let c = restored_for (cabinet g k) a in
    let s : Seat = record { cabinet = c; lines = outgoing g k } in
    ap (λ h. closing h a k) (cabinet_stored g k c) ∙ closed_by g a k s (is_away g.store a) (all_restored c) refl refl

-- ---- 14 unsure

pub unsure_refused : (g : Group) (a : ℕ)
    → G.unsure_refusal g a ≡ unsure_refusal (cabinet g a) (cabinet g (coordinator (cabinet g a))) a
unsure_refused g a = refl

-- past the end nothing is wanted
none_wanted : (a : ℕ) → all_unsure absent ≡ all_unsure (unsure_for absent a)
unfolding covers
none_wanted a = refl

decided_by : (g : Group) (k : ℕ) (s : Seat) (t : Bool) → length g.cabinets ≡ length g.outgoing
    → cond t (settle (M.recover_with (with_seat g k s) k (bit_of (cabinet (with_seat g k s) k).phase.version)) k Decided) (with_seat g k s)
    ≡ with_settled (with_seat g k (cond t (S.recover_with s (bit_of s.cabinet.phase.version)) s)) (cond t (enters g.settled k Decided) g.settled)
unfolding settle with_cabinet with_outgoing
decided_by g k s true e =
    ap (λ h. settle h k Decided)
    (recover_stored (with_seat g k s) k (bit_of (cabinet (with_seat g k s) k).phase.version) (length_stays g k s e)
    ∙ seat_then (λ t. S.recover_with t (bit_of t.cabinet.phase.version)) g k s e)
decided_by g k s false e = refl

pub unsure_stored : (g : Group) (a k : ℕ) → length g.cabinets ≡ length g.outgoing
    → G.decide_if_all (G.report_unsure g a k) k
    ≡ with_settled (with_seat g k (decide_if_all (record { cabinet = unsure_for (cabinet g k) a; lines = outgoing g k })))
    (word_after (unsure_for (cabinet g k) a) k g.settled)
unfolding G.decide_if_all G.report_unsure decide_if_all word_after cabinet with_cabinet outgoing with_outgoing
unsure_stored g a k e =
    let c = unsure_for (cabinet g k) a in
    let s : Seat = record { cabinet = c; lines = outgoing g k } in
    let x = with_seat g k s in
    ap (λ h. cond (all_unsure (cabinet h k)) (settle (M.recover_with h k (bit_of (cabinet h k).phase.version)) k Decided) h) (cabinet_stored g k c)
    ∙ (ap (λ t. cond t (settle (M.recover_with x k (bit_of (cabinet x k).phase.version)) k Decided) x) (told all_unsure (λ x. unsure_for x a) (none_wanted a) g.cabinets k)
    ∙ decided_by g k s (all_unsure c) e)
