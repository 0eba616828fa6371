-- Each kind of step, where it is taken: what it does to each cabinet, who enters recovering in it, and what is noted.
use Rattle.std.specs.Prelude.{None, Some}
use Prim.Native.Nat.{ℕ, zero, suc, ◌+◌, ◌-◌, ◌<◌}
use mathlib.Core.Path.{◌≡◌, refl, sym, ap, ◌∙◌, subst}
use mathlib.Core.Logic.{◌≢◌, inr}
use mathlib.Core.Bool.{Bool, true, false, not, ◌&&◌, ◌||◌}
use lib.ListN.{get_or, set}
use lib.Dec.{eqb, ltb}
use borrow.Author.Tests.{eqb-true, eqb-false}
use native.Mathlib.Omega.{arith}
use native.Mathlib.Decide.{ℕ_discrete}
use Rattle.marks.specs.Marks.{marked, covers}
use Rattle.marks.specs.Reach.{Rows, struck, connected}
use Rattle.outlet.specs.declared.Party.{Party}
use Rattle.packet.specs.declared.Place.{Place}
use Rattle.packet.specs.declared.Place.TheVariants.{Failed as AtFailed, Tripped as AtTripped, Link as AtLink}
use Rattle.packet.specs.declared.Packet.{Packet}
use Rattle.packet.specs.declared.Packet.TheVariants.{Empty, Normal as NormalPacket, Checkp, Resume, Recover, Fault, Invalid}
use Rattle.packet.specs.Packet.{same_check, start_check, link_place}
use Rattle.line.specs.Line.{oldest, rest}
use Rattle.state.specs.declared.State.{State}
use Rattle.state.specs.declared.State.TheVariants.{Failed, Normal, CheckpBegin, Checkpointed, Error, Recovering, Recovered}
use Rattle.state.specs.declared.Version.{Version}
use Rattle.state.specs.declared.Version.TheVariants.{Known, Unknown, Lost}
use Rattle.state.specs.State.{is_in, works, in_recovery, is_unknown}
use Rattle.settled.specs.declared.Reason.TheVariants.{Decided}
use Rattle.settled.specs.Settled.{enters, ends as note_ends}
use Rattle.cabinet.specs.declared.Cabinet.{Cabinet}
use Rattle.cabinet.specs.Alarm.{Alarm}
use Rattle.cabinet.specs.Alarm.{is_for}
use Rattle.cabinet.specs.Cabinet.{in_use, coordinator, blanked}
use Rattle.store.specs.Store.{home_in}
use Rattle.group.specs.declared.Group.{Group}
use Rattle.group.specs.declared.Outcome.{Outcome}
use Rattle.group.specs.Group.{cabinet, with_cabinet, state_of, with_outgoing, line, with_line, rows_of, with_sound, working, some, recovering_ones, trips_of, with_trips_of, is_crashed, settle, settle_over}
use Rattle.protocol.specs.declared.Step.{Step}
use Rattle.protocol.specs.declared.Step.TheVariants.{Send, Note, Begin, Deliver, Write, Saved, Fetch, Restored as RestoredStep, Fail, Damage, Lose, Trip, Unsure}
use Rattle.protocol.specs.Moves.{broadcast, recover_with, reason_for, enter_error, hear, find_link_fault, emptied_to, pass_reports, leave, mark_failed, trip, alarm_to, end_recovery, note_lost, note_for, note_at}
use Rattle.protocol.specs.Receive.{serving, takes, resumes_from, receive_normal, receive_checkp, receive_resume, receive_recover, receive_fault, receive_invalid, receive}
use Rattle.protocol.specs.Kinds.{or_refuse, send_refusal, send_step, note_refusal, note_step, begin_refusal, begin_step, deliver_refusal, delivered, deliver_step, write_refusal, write_step, saved_refusal, saved_step, fetch_refusal, fetch_step, restored_refusal, report_restored, come_back_if_away, end_if_all, restored_step, fail_crashes, fail_step, damage_refusal, damage_step, lose_refusal, lose_step, trip_crashes, trip_once, trip_step, unsure_refusal, report_unsure, decide_if_all, unsure_step}
use Rattle.protocol.specs.Entry.{first_of, second_of, actor_works, is_cabinet, entry_refusal, perform}
use Rattle.protocol.specs.History.{History, upd, ends}
use Rattle.claims.proofs.State.Fun.{never, and_true, cond_elim, upd_same, upd_other, upd_id}
use Rattle.claims.proofs.State.Every.{passed, asks_unsure, with_line_lem, ok_enter_error, ok_mark_failed, ok_trip}
use Rattle.claims.proofs.State.View.{View, Own, view}
use Rattle.claims.proofs.State.Shape.{Shaped, Lined, Pictured, shaped}
use Rattle.claims.proofs.State.Sim.{Fit, cabinet_same, in_use_lem}
use Rattle.claims.proofs.State.ViewMoves.{lead_after, o_phase, v_failed, sim_hear}
use Rattle.claims.proofs.Answers.Tests.{in_state}
use Rattle.claims.proofs.Invariant.States.{serving_calm, opens_serve}
use Rattle.claims.proofs.Invariant.Facts.{Ghost}
use Rattle.claims.proofs.Invariant.Whole.{Inv, work_of}
use Rattle.claims.proofs.Invariant.Past.{Past}
use Rattle.claims.proofs.Invariant.Staying.{SomeKnows, Reports}
use Rattle.claims.proofs.Moves.ErrorSeen.{o_erred}
use Rattle.claims.proofs.Moves.Alarming.{near}
use Rattle.claims.proofs.Moves.LinkFault.{fit_sound}
use Rattle.claims.proofs.Moves.Recovering as going
use Rattle.claims.proofs.Moves.Leaving.{Left}
use Rattle.claims.proofs.Moves.FailStep as failing
use Rattle.claims.proofs.Moves.TripStep as tripping
use Rattle.claims.proofs.Moves.UnsureStep as deciding
use Rattle.claims.proofs.Moves.RestoredStep as ending
use Rattle.claims.proofs.Claims.Stepping.{named_below}
use Rattle.claims.proofs.Word.Turns.{Turned, out, kept, errs, newly, newly_same, newly_other, Who, nobody, settled_by, who_up, who_errs, errs_turned, calm_turned, calm_newly, turned_home, who_home}
use Rattle.claims.proofs.Word.Stills.{Still, still_then, still_line, still_noted, still_begin, still_checkp, still_end, still_adopt, still_hear, still_taking, still_sent, still_write, still_saved, still_fetch, still_reported, still_unsure, still_hurt, still_lost, still_back}
use Rattle.claims.proofs.Word.Alarms.{error_note, error_owns, Asked, asked}

-- ---- what a step brings

-- cabinet b alone enters recovering, from error
pub record GoesOn (v w : ℕ → Own) (b : ℕ) : Type 0 where
  pub below : b < 8
  pub erred : (v b).state ≡ Error
  pub restores : (w b).state ≡ Recovering
  pub others : (j : ℕ) → j ≢ b → w j ≡ v j

-- t trips, d says that who enters decides, and e that the step ends a recovery
pub data Turn (g : Group) (γ : Ghost) (g' : Group) (t : ℕ) (d e : Bool) : Type 0 where
  turns : e ≡ false → ((j : ℕ) → Turned ((view g).own j) ((view g').own j)) → Who (view g).own (view g').own g.settled g'.settled t 8 → Turn g γ g' t d e
  -- on a recover packet: its sender knows
  hears : e ≡ false → (b : ℕ) → GoesOn (view g).own (view g').own b → g'.settled ≡ g.settled → SomeKnows (view g) γ → Turn g γ g' t d e
  decides : e ≡ false → d ≡ true → (b : ℕ) → GoesOn (view g).own (view g').own b → g'.settled ≡ enters g.settled b Decided
      → (x : Bool) → ((view g).own b).version ≡ Unknown x → Turn g γ g' t d e
  over : e ≡ true → (j : ℕ) → works (state_of g j) ≡ true → ends g g' j ≡ true → ((j : ℕ) → newly ((view g).own j) ((view g').own j) ≡ false) → g'.settled ≡ note_ends g.settled → Turn g γ g' t d e

still_turn : {g g' : Group} {γ : Ghost} {t : ℕ} {d : Bool} → Still g g' → Turn g γ g' t d false
still_turn {g} {g'} s =
    turns refl (λ j. calm_turned ((view g).own j) ((view g').own j) (s.at j)) (nobody s.same (λ j _. calm_newly ((view g).own j) ((view g').own j) (s.at j)))

-- what is said of the group that a store has left is said of the group
left_turn : {total : Party → ℕ} {g : Group} {γ : Ghost} {a : ℕ} {y : Group} {t : ℕ} {d : Bool} → Left total g γ a
    → ((j : ℕ) → Turned ((view (leave g a)).own j) ((view y).own j)) → Who (view (leave g a)).own (view y).own (leave g a).settled y.settled t 8 → Turn g γ y t d false
unfolding leave pass_reports with_cabinet
left_turn {g} {y} {t} gone f who =
    turns refl
    (λ j. turned_home {h = gone.homes j} {p = gone.presents j} (subst (λ (u : View). Turned (u.own j) ((view y).own j)) gone.seen (f j)))
    (who_home {h = gone.homes} {p = gone.presents} (subst (λ (u : View). Who u.own (view y).own g.settled y.settled t 8) gone.seen who))

-- and so what is said of it with another count of trips
counted_turn : (g : Group) (a n : ℕ) {γ : Ghost} {y : Group} {t : ℕ} {d e : Bool} → Turn (with_trips_of g a n) γ y t d e → Turn g γ y t d e
unfolding with_trips_of cabinet
counted_turn g a n (turns e f who) = turns e f who
counted_turn g a n (hears e b x s k) = hears e b record { below = x.below; erred = x.erred; restores = x.restores; others = x.others } s k
counted_turn g a n (decides e d b x s v q) = decides e d b record { below = x.below; erred = x.erred; restores = x.restores; others = x.others } s v q
counted_turn g a n (over e j u f o s) = over e j u f o s

-- cabinet b enters error
error_turn : {γ : Ghost} {d : Bool} (g y : Group) (b : ℕ) → b < 8 → works (state_of g b) ≡ true → in_recovery (state_of g b) ≡ false → (q : Place) (k : ℕ)
    → (view y).own ≡ upd (view g).own b (o_erred ((view g).own b) q k) → y.settled ≡ settled_by (cabinet g b).phase.version g.settled b (reason_for (cabinet g b) b)
    → Turn g γ y 8 d false
error_turn g y b l w c q k owns note = turns refl at who
  where
    o : Own
    o = o_erred ((view g).own b) q k

    here : (view y).own b ≡ o
    here = ap (λ (f : ℕ → Own). f b) owns ∙ upd_same (view g).own b o

    there : (j : ℕ) → j ≢ b → (view y).own j ≡ (view g).own j
    there j n = ap (λ (f : ℕ → Own). f j) owns ∙ upd_other (view g).own b o j n

    at : (j : ℕ) → Turned ((view g).own j) ((view y).own j)
    at j = elim (ℕ_discrete j b) [
      | yes e ↦ rw e (errs_turned ((view g).own b) ((view y).own b) w c (ap (λ (x : Own). x.state) here) (ap (λ (x : Own). x.version) here))
      | no n ↦ kept (ap (λ (x : Own). x.state) (there j n)) (ap (λ (x : Own). x.version) (there j n))
    ]

    quiet : (j : ℕ) → j ≢ b → newly ((view g).own j) ((view y).own j) ≡ false
    quiet j n = newly_same ((view g).own j) ((view y).own j) (ap (λ (x : Own). x.state) (there j n))

    who : Who (view g).own (view y).own g.settled y.settled 8 8
    who =
        who_up (view g).own g.settled 8 (b + 1) (view y).own y.settled 8 (omega arith) (λ j m. quiet j (λ e. omega arith))
        (subst (λ (n : ℕ). Who (view g).own (view y).own g.settled y.settled 8 n) (omega arith)
        (who_errs (view g).own g.settled 8 b (view g).own (view y).own g.settled y.settled (λ j m. there j (λ e. omega arith)) w c (λ e. omega arith)
        (ap (λ (x : Own). x.state) here) note (nobody refl (λ j m. newly_same ((view g).own j) ((view g).own j) refl))))

-- which cabinet trips in a step, and whether the step ends a recovery
abbrev pub trips_in : Step → ℕ
trips_in (Send a b p q) = 8
trips_in (Note a p q) = 8
trips_in (Begin a) = 8
trips_in (Deliver a b) = 8
trips_in (Write a) = 8
trips_in (Saved a) = 8
trips_in (Fetch a) = 8
trips_in (RestoredStep a) = 8
trips_in (Fail a) = 8
trips_in (Damage a b p w) = 8
trips_in (Lose a b p) = 8
trips_in (Trip a) = a - 1
trips_in (Unsure a) = 8

abbrev pub ends_in : Group → Group → Step → Bool
ends_in g g' (Send a b p q) = false
ends_in g g' (Note a p q) = false
ends_in g g' (Begin a) = false
ends_in g g' (Deliver a b) = false
ends_in g g' (Write a) = false
ends_in g g' (Saved a) = false
ends_in g g' (Fetch a) = false
ends_in g g' (RestoredStep a) = ends g g' (a - 1)
ends_in g g' (Fail a) = false
ends_in g g' (Damage a b p w) = false
ends_in g g' (Lose a b p) = false
ends_in g g' (Trip a) = false
ends_in g g' (Unsure a) = false

-- ---- the kinds

module _ (total : Party → ℕ) (g : Group) (h : History) (γ : Ghost) (w : Fit g) (i : Inv g.n total (view g) γ) (past : Past g.n (view g) γ h)
    (reports : Reports (view g)) where
  -- ---- deliver

  module _ (a b : ℕ) (la : a < 8) (lb : b < 8) where
    -- the packet is off the line
    abbrev off : Group
    off = with_line g a b (rest (line g a b))

    off_still : Still g off
    off_still = still_line g a b _

    off_fit : Fit off
    off_fit = with_line_lem Shaped Lined Pictured shaped g a b (rest (line g a b)) (shaped.less (line g a b) (w.lines a b)) w

    off_owns : (view off).own ≡ (view g).own
    unfolding cabinet with_line with_outgoing
    off_owns = refl

    off_cabinet : cabinet off b ≡ cabinet g b
    unfolding cabinet with_line with_outgoing
    off_cabinet = refl

    abbrev Taken : Outcome → Type 0
    Taken o = o.answer ≡ 0 → Turn g γ o.group 8 false false

    plain : (y : Group) → Still off y → Taken (record { answer = 0; group = y })
    plain y s _ = still_turn (still_then off_still s)

    dropped : Taken (record { answer = 0; group = off })
    dropped _ = still_turn off_still

    calm_b : serving (state_of off b) ≡ true → (works (state_of g b) ≡ true) × (in_recovery (state_of g b) ≡ false)
    calm_b e = serving_calm (state_of g b) (ap (λ (c : Cabinet). serving c.phase.state) (sym off_cabinet) ∙ e)

    sounded : (rows : Rows) → (view (with_sound off rows)).own ≡ (view g).own
    unfolding cabinet with_line with_outgoing with_sound
    sounded rows = refl

    sound_note : (rows : Rows) → settled_by (cabinet (with_sound off rows) b).phase.version (with_sound off rows).settled b (reason_for (cabinet (with_sound off rows) b) b)
        ≡ settled_by (cabinet g b).phase.version g.settled b (reason_for (cabinet g b) b)
    unfolding cabinet with_line with_outgoing with_sound
    sound_note rows = refl

    link_turn : serving (state_of off b) ≡ true → Taken (find_link_fault g off a b)
    unfolding find_link_fault
    link_turn e =
        let rows = struck (rows_of off.sound) a b in
        let q = link_place a b in
        let c = calm_b e in
        let k = lead_after (view (with_sound off rows)) b q in
        cond_elim Taken (connected rows (working off))
        (λ _ _. error_turn g (enter_error (with_sound off rows) b q) b lb c.0 c.1 q k
        (error_owns (with_sound off rows) (fit_sound off rows off_fit) b q lb ∙ ap (λ (f : ℕ → Own). upd f b (o_erred (f b) q k)) (sounded rows))
        (error_note (with_sound off rows) b q ∙ sound_note rows))
        (λ _ f. absurd (omega arith))

    -- the fault of a neighbour: b enters error, and has heard it
    heard_owns : (y : Group) → Fit y → (view (hear y a b)).own ≡ (view y).own
    heard_owns y fit = ap (λ (u : View). u.own) (sim_hear y fit a b la lb) ∙ upd_id (view y).own b

    heard_note : (y : Group) → (hear y a b).settled ≡ y.settled
    unfolding hear with_cabinet
    heard_note y = refl

    off_said : settled_by (cabinet off b).phase.version off.settled b (reason_for (cabinet off b) b) ≡ settled_by (cabinet g b).phase.version g.settled b (reason_for (cabinet g b) b)
    unfolding cabinet with_line with_outgoing
    off_said = refl

    fault_turn : (q : Place) → serving (state_of off b) ≡ true → Taken (record { answer = 0; group = hear (enter_error off b q) a b })
    fault_turn q e _ =
        let c = calm_b e in
        let k = lead_after (view off) b q in
        error_turn g (hear (enter_error off b q) a b) b lb c.0 c.1 q k
        (heard_owns (enter_error off b q) (ok_enter_error Shaped Lined Pictured shaped off b q off_fit) ∙ error_owns off off_fit b q lb
        ∙ ap (λ (f : ℕ → Own). upd f b (o_erred (f b) q k)) off_owns)
        (heard_note (enter_error off b q) ∙ error_note off b q ∙ off_said)

    -- a recover packet: b goes on from error, and its sender knows
    recover_note : (x : Bool) → (recover_with off b x).settled ≡ g.settled
    unfolding recover_with broadcast with_outgoing with_cabinet with_line
    recover_note x = refl

    recover_turn : (x : Bool) → oldest (line g a b) ≡ Recover x → is_in (state_of g b) Error ≡ true → marked (cabinet g b).noted.heard a ≡ true
        → Taken (record { answer = 0; group = recover_with off b x })
    recover_turn x p e m _ =
        let o : Own = o_phase ((view g).own b) Recovering (Known x) ((view g).own b).alarm in
        let owns : (view (recover_with off b x)).own ≡ upd (view g).own b o = ap (λ (u : View). u.own) (going.going total g h γ w i past a b la lb x p e m) in
        hears refl b (record {
          below = lb;
          erred = (in_state (state_of g b) Error).0 e;
          restores = ap (λ (f : ℕ → Own). (f b).state) owns ∙ ap (λ (y : Own). y.state) (upd_same (view g).own b o);
          others = λ j n. ap (λ (f : ℕ → Own). f j) owns ∙ upd_other (view g).own b o j n;
        })
        (recover_note x) (a, going.a_aware total g h γ w i past a b la lb x p e m, ap is_unknown (going.a_knows total g h γ w i past a b la lb x p e m))

    received : (p : Packet) → oldest (line g a b) ≡ p → Taken (receive g off a b p)
    unfolding receive_normal receive_checkp receive_resume receive_recover receive_fault receive_invalid
    received Empty e = dropped
    received (NormalPacket p) e =
        cond_elim Taken (takes (cabinet off b) a p) (λ _. plain _ (still_taking off a b p)) (λ _. cond_elim Taken (serving (state_of off b)) link_turn (λ _. dropped))
    received (Checkp v) e =
        cond_elim Taken (is_in (state_of off b) Normal || is_in (state_of off b) CheckpBegin)
        (λ u. cond_elim Taken (same_check v (get_or (cabinet off b).registers.taken a start_check))
        (λ _. plain _ (still_checkp (is_in (state_of off b) Normal) off a b)) (λ _. link_turn (opens_serve (state_of off b) u)))
        (λ _. dropped)
    received Resume e =
        cond_elim Taken (is_in (state_of off b) Checkpointed) (λ _. plain _ (still_adopt off a b))
        (λ _. cond_elim Taken (resumes_from (cabinet off b) a b) (λ _. plain _ (still_end off b)) (λ _. dropped))
    received (Recover x) e =
        cond_elim Taken (is_in (state_of off b) Error && marked (cabinet off b).noted.heard a)
        (λ u. let m = and_true {s = is_in (state_of off b) Error} u in
        recover_turn x e (ap (λ (c : Cabinet). is_in c.phase.state Error) (sym off_cabinet) ∙ m.0) (ap (λ (c : Cabinet). marked c.noted.heard a) (sym off_cabinet) ∙ m.1))
        (λ _. dropped)
    received (Fault q) e =
        cond_elim Taken (serving (state_of off b)) (fault_turn q)
        (λ _. cond_elim Taken (in_recovery (state_of off b))
        (λ _. cond_elim Taken (is_for (cabinet off b).phase.alarm q) (λ _. plain _ (still_hear off a b)) (λ _ f. absurd (omega arith))) (λ _. dropped))
    received Invalid e = cond_elim Taken (serving (state_of off b)) link_turn (λ _. dropped)

    deliver_turn : Taken (deliver_step g a b)
    unfolding deliver_step delivered
    deliver_turn =
        cond_elim Taken (eqb (deliver_refusal g a b) 0)
        (λ _. cond_elim Taken (marked (in_use (cabinet g b)) a) (λ _. received (oldest (line g a b)) refl) (λ _. dropped))
        (λ e f. absurd (eqb-false (deliver_refusal g a b) 0 e f))

  -- ---- restored

  module _ (a : ℕ) (la : a < 8) (up : works (state_of g a) ≡ true) (fine : restored_refusal g a ≡ 0) where
    abbrev k : ℕ
    k = coordinator (cabinet g a)

    abbrev g1 : Group
    g1 = come_back_if_away (report_restored g a k) a

    still1 : Still g g1
    still1 = still_then (still_reported g a k) (still_back (report_restored g a k) a)

    noted_at : (p : Place) (y : Group) (v : Version) → (note_at p y v).settled ≡ y.settled
    unfolding with_cabinet
    noted_at (AtFailed x) y v = refl
    noted_at (AtTripped x) y v = refl
    noted_at (AtLink x z) y v = refl

    noted_for : (p : Alarm) (y : Group) (v : Version) → (note_for p y v).settled ≡ y.settled
    noted_for None y v = refl
    noted_for (Some p) y v = noted_at p y v

    noted_lost : (y : Group) → (note_lost y k).settled ≡ y.settled
    unfolding note_lost
    noted_lost y = noted_for (cabinet y k).phase.alarm y (cabinet y k).phase.version

    over_note : (settle_over (end_recovery (note_lost g1 k) k)).settled ≡ note_ends g.settled
    unfolding settle_over
    over_note = ap note_ends ((still_end (note_lost g1 k) k).same ∙ noted_lost g1 ∙ still1.same)

    restored_turn : {d : Bool} → Turn g γ (end_if_all g1 k) 8 d (ends g (end_if_all g1 k) a)
    unfolding end_if_all
    restored_turn {d} =
        cond_elim (λ (y : Group). Turn g γ y 8 d (ends g y a)) (is_in (state_of g1 k) Recovered && covers (cabinet g1 k).noted.restored (cabinet g1 k).table.cabinets)
        (λ e. over (ending.ending total g h γ w i past reports a la up fine e) a up (ending.ending total g h γ w i past reports a la up fine e) (λ j. elim (ℕ_discrete j k) [
          | yes q ↦ newly_other ((view g).own j) ((view (settle_over (end_recovery (note_lost g1 k) k))).own j)
              (ap (λ (x : ℕ). is_in (state_of (settle_over (end_recovery (note_lost g1 k) k)) x) Recovering) q ∙ ap (λ (s : State). is_in s Recovering) (ending.normal_k total g h γ w i past reports a la up fine e))
          | no n ↦ newly_same ((view g).own j) ((view (settle_over (end_recovery (note_lost g1 k) k))).own j) (ending.state2 total g h γ w i past reports a la up fine e j n)
        ]) over_note)
        (λ _. subst (Turn g γ g1 8 d) (sym (ending.not_yet total g h γ w i past reports a la up fine)) (still_turn still1))

  -- ---- unsure

  module _ (a : ℕ) (la : a < 8) (fine : unsure_refusal g a ≡ 0) where
    abbrev c : ℕ
    c = coordinator (cabinet g a)

    abbrev told : Group
    told = report_unsure g a c

    decided_note : (x : Bool) → (settle (recover_with told c x) c Decided).settled ≡ enters g.settled c Decided
    unfolding settle recover_with broadcast with_outgoing with_cabinet report_unsure
    decided_note x = refl

    unsure_turn : Turn g γ (decide_if_all told c) 8 true false
    unfolding decide_if_all
    unsure_turn =
        cond_elim (λ (y : Group). Turn g γ y 8 true false) (covers (cabinet told c).noted.unsure (cabinet told c).table.cabinets)
        (λ e. let o = deciding.old total g h γ w i past reports a la fine e in
        decides refl refl c (record {
          below = deciding.k_below total g h γ w i past reports a la fine;
          erred = deciding.k_error total g h γ w i past reports a la fine e;
          restores = deciding.goes_recovering total g h γ w i past reports a la fine e;
          others = deciding.other2 total g h γ w i past reports a la fine e;
        })
        (decided_note _) o.0 o.1)
        (λ _. still_turn (still_unsure g a c))

  -- ---- fail and trip

  module _ (a : ℕ) (la : a < 8) (an : a < g.n) (up : works (state_of g a) ≡ true) where
    emptied_note : (n : ℕ) (y : Group) → (emptied_to n y a).settled ≡ y.settled
    unfolding with_line with_outgoing
    emptied_note zero y = refl
    emptied_note (suc n) y = emptied_note n y

    failed_note : (y : Group) → (mark_failed y a).settled ≡ y.settled
    unfolding mark_failed with_outgoing with_cabinet
    failed_note y = emptied_note 8 _

    module _ (fine : fail_crashes g a ≡ false) where
      abbrev left : Group
      left = leave g a

      abbrev gone : Left total g γ a
      gone = failing.gone total g h γ w i past a la an up fine

      abbrev past1 : Past left.n (view left) γ h
      past1 = failing.past1 total g h γ w i past a la an up fine

      abbrev an1 : a < left.n
      an1 = failing.an1 total g h γ w i past a la an up fine

      abbrev up1 : work_of (view left) a ≡ true
      up1 = failing.up1 total g h γ w i past a la an up fine

      abbrev down : Group
      down = mark_failed left a

      seen : view down ≡ v_failed (view left) a
      seen = failing.seen total left h γ gone.fit gone.inv past1 a la an1 up1 (failing.found1 total g h γ w i past a la an up fine)

      down_state : ((view down).own a).state ≡ Failed
      down_state = ap (λ (u : View). (u.own a).state) seen ∙ ap (λ (o : Own). o.state) (upd_same (view left).own a _)

      all_asked : (t : ℕ) (whole : (j : ℕ) → j < 8 → j ≢ a → j ≢ t) → Asked left down (ok_mark_failed Shaped Lined Pictured shaped left a gone.fit) a t (AtFailed a)
          (λ j n. ap (λ (u : View). u.own j) seen ∙ upd_other (view left).own a _ j n) (failed_note left)
          (failing.nobody total left h γ gone.fit gone.inv past1 a la an1 up1 (failing.found1 total g h γ w i past a la an up fine))
          (ap (λ (s : State). is_in s Recovering) down_state) (λ e. never (and_true {s = works (state_of down a)} e).0 (ap works down_state)) whole
          8 (alarm_to 8 down a (AtFailed a))
      all_asked t whole = asked _ _ _ _ _ _ _ _ _ _ _ _ 8 (omega arith)

      -- who fails in a third trip is not among those that enter either
      fail_turn : {d : Bool} (t : ℕ) → ((j : ℕ) → j < 8 → j ≢ a → j ≢ t) → Turn g γ (alarm_to 8 down a (AtFailed a)) t d false
      fail_turn t whole =
          left_turn gone (λ j. elim (ℕ_discrete j a) [
            | yes e ↦ out (ap (λ (x : ℕ). in_recovery ((view (alarm_to 8 down a (AtFailed a))).own x).state) e ∙ ap (λ (o : Own). in_recovery o.state) (all_asked t whole).self ∙ ap in_recovery down_state)
            | no n ↦ (all_asked t whole).others j n
          ]) (all_asked t whole).who

    module _ (fine : trip_crashes g a ≡ false) (n : ℕ) where
      abbrev counted : Group
      counted = with_trips_of g a n

      abbrev left_k : Group
      left_k = leave counted a

      abbrev gone_k : Left total counted γ a
      gone_k = tripping.gone total g h γ w i past a la an up fine n

      abbrev past1_k : Past left_k.n (view left_k) γ h
      past1_k = tripping.past1 total g h γ w i past a la an up fine n

      abbrev an1_k : a < left_k.n
      an1_k = tripping.an1 total g h γ w i past a la an up fine n

      abbrev up1_k : work_of (view left_k) a ≡ true
      up1_k = tripping.up1 total g h γ w i past a la an up fine n

      abbrev found1_k : (((view left_k).own a).present ≡ false) × (some (recovering_ones left_k) ≡ false)
          × (eqb (coordinator (cabinet left_k a)) a ≡ true → connected (rows_of left_k.sound) (set (working left_k) a false) ≡ true)
      found1_k = tripping.found1 total g h γ w i past a la an up fine n

      abbrev fell : Group
      fell = trip left_k a

      abbrev after : Group
      after = alarm_to 8 fell a (AtTripped a)

      -- it knows no more, so it has no word
      unsaid : (y : Group) → (cabinet y a).phase.version ≡ Lost → (enter_error y a (AtTripped a)).settled ≡ y.settled
      unsaid y e = error_note y a (AtTripped a) ∙ ap (λ (x : Version). settled_by x y.settled a (reason_for (cabinet y a) a)) e

      abbrev blank : Group
      blank = with_cabinet left_k a (blanked (cabinet left_k a))

      blank_lost : (cabinet blank a).phase.version ≡ Lost
      blank_lost = ap (λ (c : Cabinet). c.phase.version) (cabinet_same left_k gone_k.fit.frame a (blanked (cabinet left_k a)) la)

      blank_note : blank.settled ≡ left_k.settled
      unfolding with_cabinet
      blank_note = refl

      fell_note : fell.settled ≡ left_k.settled
      unfolding trip
      fell_note = emptied_note 8 (enter_error blank a (AtTripped a)) ∙ unsaid blank blank_lost ∙ blank_note

      tripped : (((view fell).own a).state ≡ Error) × (((view fell).own a).version ≡ Lost)
      tripped = tripping.down_own total left_k h γ gone_k.fit gone_k.inv past1_k a la an1_k up1_k found1_k

      fell_fit : Fit fell
      fell_fit = ok_trip Shaped Lined Pictured shaped left_k a gone_k.fit

      nobody_left_k : (c : ℕ) → in_recovery ((view left_k).own c).state ≡ false
      nobody_left_k = tripping.nobody total left_k h γ gone_k.fit gone_k.inv past1_k a la an1_k up1_k found1_k

      all_tripped : Asked left_k fell fell_fit a a (AtTripped a)
          (λ j d. ap (λ (u : View). u.own j) (tripping.seen total left_k h γ gone_k.fit gone_k.inv past1_k a la an1_k up1_k found1_k)
          ∙ tripping.own_down total left_k h γ gone_k.fit gone_k.inv past1_k a la an1_k up1_k found1_k j d) fell_note
          nobody_left_k (ap (λ (s : State). is_in s Recovering) tripped.0)
          (λ e. tripping.near_other total left_k h γ gone_k.fit gone_k.inv past1_k a la an1_k up1_k found1_k a
          (subst (λ (u : View). near u a a ≡ true) (tripping.seen total left_k h γ gone_k.fit gone_k.inv past1_k a la an1_k up1_k found1_k) (rw (← in_use_lem (cabinet fell a) (fell_fit.cabs a) a) e)) refl)
          (λ j l d. d) 8 after
      all_tripped = asked _ _ _ _ _ _ _ _ _ _ _ _ 8 (omega arith)

      trip_turn : {d : Bool} → Turn g γ after a d false
      trip_turn =
          counted_turn g a n (left_turn gone_k (λ j. elim (ℕ_discrete j a) [
            | yes e ↦ rw e (errs up1_k (nobody_left_k a) (ap (λ (o : Own). o.state) all_tripped.self ∙ tripped.0)
                (inr (ap (λ (o : Own). o.version) all_tripped.self ∙ tripped.1)))
            | no d ↦ all_tripped.others j d
          ]) all_tripped.who)

  -- ---- every kind

  abbrev Owed : Step → Outcome → Type 0
  Owed s o = o.answer ≡ 0 → Turn g γ o.group (trips_in s) (asks_unsure s) (ends_in g o.group s)

  checked : (s : Step) (n : ℕ) (o : Outcome) → (n ≡ 0 → Owed s o) → Owed s (or_refuse n g o)
  checked s n o f = cond_elim (Owed s) (eqb n 0) (λ e. f (eqb-true n 0 e)) (λ e a. absurd (eqb-false n 0 e a))

  abbrev below : (x : ℕ) → is_cabinet g x ≡ true → (x - 1 < g.n) × (x - 1 < 8)
  below = named_below total g γ i

  -- a fail, or a third trip of the same cabinet
  failed : (t a : ℕ) → is_cabinet g a ≡ true → works (state_of g (a - 1)) ≡ true → ((j : ℕ) → j < 8 → j ≢ a - 1 → j ≢ t) → (fail_step g (a - 1)).answer ≡ 0
      → Turn g γ (fail_step g (a - 1)).group t false false
  unfolding fail_step
  failed t a c u whole =
      cond_elim (λ (o : Outcome). o.answer ≡ 0 → Turn g γ o.group t false false) (fail_crashes g (a - 1)) (λ _ e. absurd (omega arith))
      (λ e _. fail_turn (a - 1) (below a c).1 (below a c).0 u e t whole)

  performed : (s : Step) → (is_cabinet g (first_of s) ≡ true) × (is_cabinet g (second_of s) ≡ true) → actor_works g s ≡ true → Owed s (perform g s)
  unfolding send_step note_step begin_step write_step saved_step fetch_step restored_step damage_step lose_step trip_step trip_once unsure_step
  performed (Send a b p q) c u = checked (Send a b p q) (send_refusal g (a - 1) (b - 1) p q) _ (λ _ _. still_turn (still_sent g (a - 1) (b - 1) p q))
  performed (Note a p q) c u = checked (Note a p q) (note_refusal g (a - 1) p q) _ (λ _ _. still_turn (still_noted g (a - 1) _ refl refl))
  performed (Begin a) c u = checked (Begin a) (begin_refusal g (a - 1)) _ (λ _ _. still_turn (still_begin g (a - 1)))
  performed (Deliver a b) c u = deliver_turn (a - 1) (b - 1) (below a c.0).1 (below b c.1).1
  performed (Write a) c u = checked (Write a) (write_refusal g (a - 1)) _ (λ _ _. still_turn (still_write (not (ltb (cabinet g (a - 1)).noted.pieces 3)) g (home_in g.store (a - 1)) (a - 1)))
  performed (Saved a) c u = checked (Saved a) (saved_refusal g (a - 1)) _ (λ _ _. still_turn (still_saved g (a - 1) _ _))
  performed (Fetch a) c u =
      checked (Fetch a) (fetch_refusal g (a - 1)) _
      (λ e _. still_turn (still_fetch g (a - 1) ((in_state (state_of g (a - 1)) Recovering).0 (passed (is_in (state_of g (a - 1)) Recovering) 13 _ e).0)))
  performed (RestoredStep a) c u = checked (RestoredStep a) (restored_refusal g (a - 1)) _ (λ e _. restored_turn (a - 1) (below a c.0).1 u e)
  performed (Fail a) c u = failed 8 a c.0 u (λ j l n e. omega arith)
  performed (Damage a b p x) c u =
      checked (Damage a b p x) (damage_refusal g (a - 1) (b - 1) p x) _
      (λ _. cond_elim (Owed (Damage a b p x)) (some (recovering_ones g)) (λ _ f. absurd (omega arith)) (λ _ _. still_turn (still_hurt g (a - 1) (b - 1) p x)))
  performed (Lose a b p) c u =
      checked (Lose a b p) (lose_refusal g (a - 1) (b - 1) p) _
      (λ _. cond_elim (Owed (Lose a b p)) (some (recovering_ones g)) (λ _ f. absurd (omega arith)) (λ _ _. still_turn (still_lost g (a - 1) (b - 1) p)))
  performed (Trip a) c u =
      cond_elim (Owed (Trip a)) (ltb (trips_of g (a - 1)) 2)
      (λ _. cond_elim (Owed (Trip a)) (trip_crashes g (a - 1)) (λ _ f. absurd (omega arith))
      (λ e _. trip_turn (a - 1) (below a c.0).1 (below a c.0).0 u e (trips_of g (a - 1) + 1)))
      (λ _. failed (a - 1) a c.0 u (λ j l n. n))
  performed (Unsure a) c u = checked (Unsure a) (unsure_refusal g (a - 1)) _ (λ e _. unsure_turn (a - 1) (below a c.0).1 e)

  pub entered_turn : (s : Step) → Owed s (or_refuse (entry_refusal g s) g (perform g s))
  entered_turn s =
      checked s (entry_refusal g s) (perform g s)
      (λ e. let one = passed (not (is_crashed g)) 9 _ e in
      let two = passed (is_cabinet g (first_of s) && is_cabinet g (second_of s)) 10 _ one.1 in
      performed s (and_true {s = is_cabinet g (first_of s)} two.0) (passed (actor_works g s) 11 0 two.1).0)
