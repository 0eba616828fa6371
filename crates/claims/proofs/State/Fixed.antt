-- No step changes how many cabinets a group has, nor its packet version; and the store is changed by a piece, by a store that leaves and by one that
-- comes back.
use Rattle.std.specs.Prelude.{None, Some}
use Prim.Native.Nat.{ℕ, zero, suc, ◌-◌}
use mathlib.Core.Path.{◌≡◌, refl, sym, ap, ◌∙◌}
use mathlib.Core.Bool.{Bool, true, false, cond, not, ◌&&◌, ◌||◌}
use mathlib.Core.List.{List}
use lib.ListN.{get_or}
use lib.Dec.{eqb, ltb}
use borrow.Author.Tests.{eqb-false}
use native.Mathlib.Omega.{arith}
use Rattle.marks.specs.Marks.{marked, covers}
use Rattle.marks.specs.Reach.{struck, connected}
use Rattle.packet.specs.declared.Place.{Place}
use Rattle.packet.specs.declared.Place.TheVariants.{Failed as AtFailed, Tripped as AtTripped, Link as AtLink}
use Rattle.packet.specs.declared.PacketVersion.{PacketVersion}
use Rattle.packet.specs.declared.Pattern.{Pattern}
use Rattle.packet.specs.declared.Packet.{Packet}
use Rattle.packet.specs.declared.Packet.TheVariants.{Empty, Normal as NormalPacket, Checkp, Resume, Recover, Fault, Invalid}
use Rattle.packet.specs.Packet.{is_normal, same_check, start_check, link_place, damaged}
use Rattle.line.specs.Line.{oldest, rest, packet_at, replaced}
use Rattle.state.specs.declared.State.TheVariants.{Normal, CheckpBegin, Checkpointed, Error, Recovered}
use Rattle.state.specs.declared.Version.{Version}
use Rattle.state.specs.declared.Version.TheVariants.{Known, Unknown, Lost}
use Rattle.settled.specs.declared.Reason.{Reason}
use Rattle.cabinet.specs.Alarm.{Alarm}
use Rattle.cabinet.specs.Alarm.{is_for}
use Rattle.state.specs.State.{is_in, in_recovery}
use Rattle.cabinet.specs.Cabinet.{in_use}
use Rattle.store.specs.declared.Store.{Store}
use Rattle.store.specs.Store.{is_away, leaves, comes_back}
use Rattle.group.specs.declared.Group.{Group}
use Rattle.group.specs.declared.Outcome.{Outcome}
use Rattle.group.specs.Group.{cabinet, with_cabinet, state_of, with_outgoing, line, with_line, home, rows_of, with_sound, working, some, recovering_ones, trips_of, with_trips_of, forget_trips, settle, settle_over, taken, crash_all, crashed}
use Rattle.protocol.specs.declared.Step.{Step}
use Rattle.protocol.specs.declared.Step.TheVariants.{Send, Note, Begin, Deliver, Write, Saved, Fetch, Restored, Fail, Damage, Lose, Trip, Unsure}
use Rattle.protocol.specs.declared.Decoded.{Decoded}
use Rattle.protocol.specs.declared.Decoded.TheVariants.{Malformed, Unused, Taken}
use Rattle.protocol.specs.Moves.{broadcast, join, cut_if_all, take_checkp, resume_with, commit, adopt, recover_with, recover_if_known, raise, reason_for, enter_error, hear, find_link_fault, emptied_to, pass_reports, leave, drop_reports, come_back, mark_failed, trip, neighbours, enter_error_if, alarm_to, end_recovery, note_at, note_for, note_lost}
use Rattle.protocol.specs.Receive.{serving, takes, join_if, resumes_from, receive_normal, receive_checkp, receive_resume, receive_recover, receive_fault, receive_invalid, receive}
use Rattle.protocol.specs.Kinds.{or_refuse, send_step, send_refusal, sent, note_step, note_refusal, begin_step, begin_refusal, deliver_step, deliver_refusal, delivered, write_step, write_refusal, piece_saved, write_piece, owe_if, saved_step, saved_refusal, report_saved, commit_if_all, fetch_step, fetch_refusal, fetch_piece, restored_step, restored_refusal, report_restored, come_back_if_away, end_if_all, fail_step, fail_crashes, hurt_if, hurt, damage_step, damage_refusal, lost, lose_step, lose_refusal, trip_step, trip_once, trip_crashes, unsure_step, unsure_refusal, report_unsure, decide_if_all}
use Rattle.protocol.specs.Entry.{step, step_decoded, perform, entry_refusal, decode}
use Rattle.claims.proofs.State.Fun.{cond_elim}

abbrev pub fixed : Group → ℕ × PacketVersion
fixed g = (g.n, g.packets)

-- .. and most moves leave the store as it was
abbrev shell : Group → (ℕ × PacketVersion) × Store
shell g = (fixed g, g.store)

-- ---- the moves

pub join_fixed : (g : Group) (i : ℕ) → shell (join g i) ≡ shell g
unfolding join with_cabinet with_outgoing
join_fixed g i = refl

resume_fixed : (g : Group) (i : ℕ) (v : Version) → shell (resume_with g i v) ≡ shell g
unfolding resume_with broadcast with_outgoing with_cabinet
resume_fixed g i v = refl

note_at_fixed : (p : Place) (g : Group) (v : Version) → shell (note_at p g v) ≡ shell g
unfolding with_cabinet
note_at_fixed (AtFailed x) g v = refl
note_at_fixed (AtTripped x) g v = refl
note_at_fixed (AtLink x y) g v = refl

note_for_fixed : (a : Alarm) (g : Group) (v : Version) → shell (note_for a g v) ≡ shell g
note_for_fixed None g v = refl
note_for_fixed (Some p) g v = note_at_fixed p g v

note_fixed : (g : Group) (k : ℕ) → shell (note_lost g k) ≡ shell g
unfolding note_lost
note_fixed g k = note_for_fixed (cabinet g k).phase.alarm g (cabinet g k).phase.version

recover_fixed : (g : Group) (i : ℕ) (v : Bool) → shell (recover_with g i v) ≡ shell g
unfolding recover_with broadcast with_outgoing with_cabinet
recover_fixed g i v = refl

pub recover_n : (g : Group) (i : ℕ) (v : Bool) → (recover_with g i v).n ≡ g.n
recover_n g i v = ap (λ (x : (ℕ × PacketVersion) × Store). x.0.0) (recover_fixed g i v)

settle_fixed : (g : Group) (i : ℕ) (r : Reason) → shell (settle g i r) ≡ shell g
unfolding settle
settle_fixed g i r = refl

over_fixed : (g : Group) → shell (settle_over g) ≡ shell g
unfolding settle_over
over_fixed g = refl

raise_fixed : (g : Group) (i : ℕ) (p : Place) → shell (raise g i p) ≡ shell g
unfolding raise broadcast with_outgoing with_cabinet
raise_fixed g i p = refl

error_fixed : (g : Group) (i : ℕ) (p : Place) → shell (enter_error g i p) ≡ shell g
unfolding enter_error
error_fixed g i p = go (cabinet g i).phase.version
  where
    go : (v : Version) → shell (recover_if_known (raise g i p) i v (reason_for (cabinet g i) i)) ≡ shell g
    go (Known v) = settle_fixed _ i _ ∙ recover_fixed (raise g i p) i v ∙ raise_fixed g i p
    go (Unknown v) = raise_fixed g i p
    go Lost = raise_fixed g i p

emptied_fixed : (n : ℕ) (g : Group) (a : ℕ) → shell (emptied_to n g a) ≡ shell g
unfolding with_line with_outgoing
emptied_fixed zero g a = refl
emptied_fixed (suc n) g a = emptied_fixed n g a

failed_fixed : (g : Group) (a : ℕ) → shell (mark_failed g a) ≡ shell g
unfolding mark_failed with_outgoing with_cabinet
failed_fixed g a = emptied_fixed 8 _ a

trip_fixed : (g : Group) (a : ℕ) → shell (trip g a) ≡ shell g
unfolding trip with_cabinet
trip_fixed g a = emptied_fixed 8 _ a ∙ error_fixed _ a (AtTripped a)

alarm_fixed : (n : ℕ) (g : Group) (a : ℕ) (p : Place) → shell (alarm_to n g a p) ≡ shell g
unfolding alarm_to
alarm_fixed zero g a p = refl
alarm_fixed (suc n) g a p = go (neighbours g n a) (alarm_fixed n g a p)
  where
    go : (t : Bool) → shell (alarm_to n g a p) ≡ shell g → shell (enter_error_if t (alarm_to n g a p) n p) ≡ shell g
    go true e = error_fixed (alarm_to n g a p) n p ∙ e
    go false e = e

crash_fixed : (g : Group) → shell (crash_all g) ≡ shell g
unfolding crash_all
crash_fixed g = refl

off_fixed : (g : Group) (a b : ℕ) → shell (with_line g a b (rest (line g a b))) ≡ shell g
unfolding with_line with_outgoing
off_fixed g a b = refl

cut_fixed : (g : Group) (i : ℕ) → shell (cut_if_all g i) ≡ shell g
unfolding cut_if_all with_cabinet
cut_fixed g i = refl

-- ---- a packet received

module _ (before g : Group) (a b : ℕ) (same : shell before ≡ shell g) where
  abbrev Same : Outcome → Type 0
  Same o = shell o.group ≡ shell g

  link_fixed : Same (find_link_fault before g a b)
  unfolding find_link_fault with_sound
  link_fixed =
      cond_elim Same (connected (struck (rows_of g.sound) a b) (working g)) (λ _. error_fixed _ b (link_place a b)) (λ _. crash_fixed before ∙ same)

  receive_fixed : (p : Packet) → Same (receive before g a b p)
  unfolding receive_normal receive_checkp receive_resume receive_recover receive_fault receive_invalid with_cabinet take_checkp adopt with_outgoing hear end_recovery
  receive_fixed Empty = refl
  receive_fixed (NormalPacket p) =
      cond_elim Same (takes (cabinet g b) a p) (λ _. refl) (λ _. cond_elim Same (serving (state_of g b)) (λ _. link_fixed) (λ _. refl))
  receive_fixed (Checkp v) =
      cond_elim Same (is_in (state_of g b) Normal || is_in (state_of g b) CheckpBegin)
      (λ _. cond_elim Same (same_check v (get_or (cabinet g b).registers.taken a start_check)) (λ _. cut_fixed _ b ∙ joined (is_in (state_of g b) Normal)) (λ _. link_fixed))
      (λ _. refl)
    where
      joined : (t : Bool) → shell (join_if t g b) ≡ shell g
      joined true = join_fixed g b
      joined false = refl
  receive_fixed Resume =
      cond_elim Same (is_in (state_of g b) Checkpointed) (λ _. refl)
      (λ _. cond_elim Same (resumes_from (cabinet g b) a b) (λ _. resume_fixed g b _) (λ _. refl))
  receive_fixed (Recover v) =
      cond_elim Same (is_in (state_of g b) Error && marked (cabinet g b).noted.heard a) (λ _. recover_fixed g b v) (λ _. refl)
  receive_fixed (Fault p) =
      cond_elim Same (serving (state_of g b)) (λ _. error_fixed g b p)
      (λ _. cond_elim Same (in_recovery (state_of g b)) (λ _. cond_elim Same (is_for (cabinet g b).phase.alarm p) (λ _. refl) (λ _. crash_fixed before ∙ same)) (λ _. refl))
  receive_fixed Invalid = cond_elim Same (serving (state_of g b)) (λ _. link_fixed) (λ _. refl)

-- ---- a store leaves and comes back

leave_fixed : (g : Group) (a : ℕ) → shell (leave g a) ≡ (fixed g, leaves g.store a)
unfolding leave pass_reports with_cabinet
leave_fixed g a = refl

-- the store once a has reported restored
abbrev back_in : Store → ℕ → Store
back_in s a = cond (is_away s a) (comes_back s a) s

back_fixed : (g : Group) (a : ℕ) → shell (come_back_if_away g a) ≡ (fixed g, back_in g.store a)
unfolding come_back_if_away come_back drop_reports with_cabinet
back_fixed g a = go (is_away g.store a)
  where
    go : (t : Bool) → shell (cond t (come_back g a) g) ≡ (fixed g, cond t (comes_back g.store a) g.store)
    go true = refl
    go false = refl

-- ---- the kinds

-- what a step that is taken makes of the store
abbrev pub store_by : Group → Step → Store
store_by g (Send a b p q) = g.store
store_by g (Note a p q) = g.store
store_by g (Begin a) = g.store
store_by g (Deliver a b) = g.store
store_by g (Write a) = piece_saved g (a - 1)
store_by g (Saved a) = g.store
store_by g (Fetch a) = g.store
store_by g (Restored a) = back_in g.store (a - 1)
store_by g (Fail a) = leaves g.store (a - 1)
store_by g (Damage a b p w) = g.store
store_by g (Lose a b p) = g.store
store_by g (Trip a) = leaves g.store (a - 1)
store_by g (Unsure a) = g.store

module _ (g : Group) where
  -- a step leaves n and the packet version, and, taken, makes s of the store
  record Makes (s : Store) (o : Outcome) : Type 0 where
    stays : fixed o.group ≡ fixed g
    stored : o.answer ≡ 0 → o.group.store ≡ s

  makes : {s : Store} {x : Group} → shell x ≡ (fixed g, s) → Makes s (taken x)
  makes e = record { stays = ap (λ (y : (ℕ × PacketVersion) × Store). y.0) e; stored = λ _. ap (λ (y : (ℕ × PacketVersion) × Store). y.1) e }

  refused : (s : Store) (k : ℕ) (o : Outcome) → Makes s o → Makes s (or_refuse k g o)
  refused s k o e = cond_elim (Makes s) (eqb k 0) (λ _. e) (λ f. record { stays = refl; stored = λ a. absurd (eqb-false k 0 f a) })

  crash_makes : (s : Store) → Makes s (crashed g)
  crash_makes s = record { stays = ap (λ (y : (ℕ × PacketVersion) × Store). y.0) (crash_fixed g); stored = λ a. absurd (omega arith) }

  -- what a packet does, taken or not
  keeps : {o : Outcome} → shell o.group ≡ shell g → Makes g.store o
  keeps e = record { stays = ap (λ (y : (ℕ × PacketVersion) × Store). y.0) e; stored = λ _. ap (λ (y : (ℕ × PacketVersion) × Store). y.1) e }

  deliver_fixed : (a b : ℕ) → Makes g.store (deliver_step g a b)
  unfolding deliver_step delivered
  deliver_fixed a b =
      refused g.store (deliver_refusal g a b) _
      (cond_elim (Makes g.store) (marked (in_use (cabinet g b)) a)
      (λ _. keeps (receive_fixed g _ a b (sym (off_fixed g a b)) (oldest (line g a b)) ∙ off_fixed g a b)) (λ _. keeps (off_fixed g a b)))

  write_fixed : (a : ℕ) → Makes (piece_saved g a) (write_step g a)
  unfolding write_step write_piece with_cabinet
  write_fixed a = refused (piece_saved g a) (write_refusal g a) _ (makes (owed (not (ltb (cabinet g a).noted.pieces 3))))
    where
      owed : (t : Bool) → shell (owe_if t (write_piece g a) (home g a) a) ≡ (fixed g, piece_saved g a)
      owed true = refl
      owed false = refl

  saved_fixed : (a : ℕ) → Makes g.store (saved_step g a)
  unfolding saved_step report_saved commit_if_all commit with_cabinet forget_trips
  saved_fixed a =
      refused g.store (saved_refusal g a) _
      (makes (cond_elim (λ (x : Group). shell x ≡ shell g) (covers (cabinet _ _).noted.saved (cabinet _ _).table.cabinets) (λ _. resume_fixed _ _ _) (λ _. refl)))

  restored_fixed : (a : ℕ) → Makes (back_in g.store a) (restored_step g a)
  unfolding restored_step report_restored end_if_all end_recovery with_cabinet
  restored_fixed a =
      refused (back_in g.store a) (restored_refusal g a) _
      (makes (cond_elim (λ (x : Group). shell x ≡ (fixed g, back_in g.store a)) (is_in (state_of _ _) Recovered && covers (cabinet _ _).noted.restored (cabinet _ _).table.cabinets)
      (λ _. over_fixed _ ∙ resume_fixed _ _ _ ∙ note_fixed _ _ ∙ back_fixed _ a) (λ _. back_fixed _ a)))

  unsure_fixed : (a : ℕ) → Makes g.store (unsure_step g a)
  unfolding unsure_step report_unsure decide_if_all with_cabinet
  unsure_fixed a =
      refused g.store (unsure_refusal g a) _
      (makes (cond_elim (λ (x : Group). shell x ≡ shell g) (covers (cabinet _ _).noted.unsure (cabinet _ _).table.cabinets) (λ _. settle_fixed _ _ _ ∙ recover_fixed _ _ _) (λ _. refl)))

  damage_fixed : (a b p : ℕ) (w : Pattern) → Makes g.store (damage_step g a b p w)
  unfolding damage_step hurt with_line with_outgoing with_cabinet
  damage_fixed a b p w =
      refused g.store (damage_refusal g a b p w) _
      (cond_elim (Makes g.store) (some (recovering_ones g)) (λ _. crash_makes g.store) (λ _. makes (marked_one (is_normal (packet_at (line g a b) p)))))
    where
      marked_one : (t : Bool) → shell (hurt_if t (with_line g a b (replaced (line g a b) p (damaged (packet_at (line g a b) p) w))) a b) ≡ shell g
      marked_one true = refl
      marked_one false = refl

  lose_fixed : (a b p : ℕ) → Makes g.store (lose_step g a b p)
  unfolding lose_step lost with_line with_outgoing with_cabinet
  lose_fixed a b p =
      refused g.store (lose_refusal g a b p) _ (cond_elim (Makes g.store) (some (recovering_ones g)) (λ _. crash_makes g.store) (λ _. makes refl))

  fail_fixed : (a : ℕ) → Makes (leaves g.store a) (fail_step g a)
  unfolding fail_step
  fail_fixed a =
      cond_elim (Makes (leaves g.store a)) (fail_crashes g a) (λ _. crash_makes _)
      (λ _. makes (alarm_fixed 8 _ a (AtFailed a) ∙ failed_fixed _ a ∙ leave_fixed g a))

  trips_fixed : (a : ℕ) → Makes (leaves g.store a) (trip_step g a)
  unfolding trip_step trip_once with_trips_of
  trips_fixed a =
      cond_elim (Makes (leaves g.store a)) (ltb (trips_of g a) 2)
      (λ _. cond_elim (Makes (leaves g.store a)) (trip_crashes g a) (λ _. crash_makes _)
      (λ _. makes (alarm_fixed 8 _ a (AtTripped a) ∙ trip_fixed _ a ∙ leave_fixed _ a))) (λ _. fail_fixed a)

  perform_fixed : (s : Step) → Makes (store_by g s) (perform g s)
  unfolding send_step sent note_step begin_step fetch_step fetch_piece with_cabinet with_line with_outgoing
  perform_fixed (Send a b p q) = refused g.store (send_refusal g (a - 1) (b - 1) p q) _ (makes refl)
  perform_fixed (Note a p q) = refused g.store (note_refusal g (a - 1) p q) _ (makes refl)
  perform_fixed (Begin a) = refused g.store (begin_refusal g (a - 1)) _ (makes (cut_fixed (join g (a - 1)) (a - 1) ∙ join_fixed g (a - 1)))
  perform_fixed (Deliver a b) = deliver_fixed (a - 1) (b - 1)
  perform_fixed (Write a) = write_fixed (a - 1)
  perform_fixed (Saved a) = saved_fixed (a - 1)
  perform_fixed (Fetch a) = refused g.store (fetch_refusal g (a - 1)) _ (makes refl)
  perform_fixed (Restored a) = restored_fixed (a - 1)
  perform_fixed (Fail a) = fail_fixed (a - 1)
  perform_fixed (Damage a b p w) = damage_fixed (a - 1) (b - 1) p w
  perform_fixed (Lose a b p) = lose_fixed (a - 1) (b - 1) p
  perform_fixed (Trip a) = trips_fixed (a - 1)
  perform_fixed (Unsure a) = unsure_fixed (a - 1)

  decoded_fixed : (d : Decoded) → fixed (step_decoded g d).group ≡ fixed g
  decoded_fixed Malformed = refl
  decoded_fixed Unused = refl
  decoded_fixed (Taken s) = (refused (store_by g s) (entry_refusal g s) _ (perform_fixed s)).stays

  pub step_fixed : (r : List ℕ) → fixed (step g r).group ≡ fixed g
  unfolding step
  step_fixed r = decoded_fixed (decode r)

  pub step_n : (r : List ℕ) → (step g r).group.n ≡ g.n
  step_n r = ap (λ (x : ℕ × PacketVersion). x.0) (step_fixed r)

  pub step_store : (r : List ℕ) (s : Step) → decode r ≡ Taken s → (step g r).answer ≡ 0 → (step g r).group.store ≡ store_by g s
  unfolding step
  step_store r s e = rw e (refused (store_by g s) (entry_refusal g s) (perform g s) (perform_fixed s)).stored
