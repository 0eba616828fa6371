-- In every run each cabinet's home is present and works, both stores of a pair have the same slots, and the marks of who is present say what the
-- steps taken say.
use Prim.Native.Nat.{ℕ, zero, suc, ◌-◌, ◌<◌}
use mathlib.Core.Path.{◌≡◌, refl, sym, ap, ◌∙◌, subst}
use mathlib.Core.Logic.{◌≢◌, ◌⊎◌, ⊎_elim}
use mathlib.Core.Bool.{Bool, true, false, cond, not, ◌&&◌}
use mathlib.Core.List.{List, [], ◌∷◌}
use lib.ListN.{length, get_or-eq_default}
use lib.Seq.{get_or-set_same}
use lib.Dec.{eqb}
use borrow.Author.Tests.{eqb-true, eqb-false, eq-eqb, ne_eqb}
use native.Mathlib.Omega.{arith}
use native.Mathlib.Decide.{ℕ_discrete, dec_lt}
use Rattle.outlet.specs.declared.Party.{Party}
use Rattle.packet.specs.declared.Place.{Place}
use Rattle.packet.specs.declared.Place.TheVariants.{Failed as AtFailed}
use Rattle.state.specs.declared.State.TheVariants.{Failed}
use Rattle.state.specs.declared.Version.{Version}
use Rattle.state.specs.declared.Version.TheVariants.{Known, Unknown, Lost}
use Rattle.state.specs.State.{works}
use Rattle.store.specs.declared.Store.{Store}
use Rattle.store.specs.Store.{is_store, is_present, home_in, is_last, is_away, leaves, comes_back, set_slots}
use Rattle.store.specs.Served.{Served}
use Rattle.store.proofs.Laws.{leave_present, back_present, piece_present, piece_stores}
use Rattle.cabinet.specs.declared.Cabinet.{Cabinet}
use Rattle.settled.specs.declared.Reason.{Reason}
use Rattle.outgoing.specs.declared.Outgoing.{Outgoing}
use Rattle.outgoing.specs.Lines.{empty_lines}
use Rattle.cabinet.specs.Cabinet.{absent, with_state, alarmed, recovering}
use Rattle.group.specs.declared.Group.{Group}
use Rattle.group.specs.declared.Outcome.{Outcome}
use Rattle.group.specs.Group.{cabinet, with_cabinet, state_of, with_outgoing, with_line, is_crashed, settle}
use Rattle.load.specs.Load.{load, feeder_total}
use Rattle.load.proofs.Loaded.{the_group}
use Rattle.protocol.specs.declared.Step.{Step}
use Rattle.protocol.specs.declared.Step.TheVariants.{Send, Note, Begin, Deliver, Write, Saved, Fetch, Restored, Fail, Damage, Lose, Trip, Unsure}
use Rattle.protocol.specs.declared.Decoded.{Decoded}
use Rattle.protocol.specs.declared.Decoded.TheVariants.{Malformed, Unused, Taken}
use Rattle.protocol.specs.Moves.{broadcast, recover_with, recover_if_known, raise, reason_for, enter_error, emptied_to, mark_failed, leave, neighbours, enter_error_if, alarm_to}
use Rattle.protocol.specs.Kinds.{fail_crashes, fail_step}
use Rattle.protocol.specs.Entry.{step, step_decoded, decode, is_cabinet, entry_refusal}
use Rattle.points.specs.declared.Point.{Point}
use Rattle.points.specs.declared.Points.{Points}
use Rattle.points.specs.Points.{point_at, place_of}
use Rattle.protocol.specs.Points.{with_point_image, returned, return_refusal, return_to}
use Rattle.protocol.specs.History.{History, upd, Operation, stepping, pointing, returning, World, advance, run, opening}
use Rattle.protocol.specs.Restored.{Octets, AllOctets, world_after}
use Rattle.claims.specs.Stores.{StoresServe, HomesWork, PresentAsSaid, away_by, note_away, away_from, away_after}
use Rattle.claims.proofs.State.Fun.{never, is_true, is_false, and_true, and_intro, cond_elim, or-false, or_split, or_left, or_right, upd_elim, upd_same, upd_other, not_true_false, row, row_at}
use Rattle.claims.proofs.State.Every.{passed, ok_leave}
use Rattle.claims.proofs.State.Shape.{Shaped, Lined, Pictured, shaped}
use Rattle.claims.proofs.State.Sim.{Fit}
use Rattle.claims.proofs.State.Fixed.{store_by, step_store}
use Rattle.claims.proofs.Moves.Leaving.{cabinet_beside}
use Rattle.claims.proofs.Claims.Stepping.{named_below}
use Rattle.claims.proofs.Claims.Demand.{Runs, Good, taken_runs, crash_holds, stopped, one_more, every_list, count_after}
use Rattle.claims.proofs.Answers.Entry.{refusal_keeps}

-- ---- homes and copies

pub stores_serve : StoresServe
stores_serve f of e xs o = (every_list f of e xs o).fit.frame.store

pub homes_work : HomesWork
homes_work f of e xs o fine c l =
    let g = (world_after f xs).group in
    ⊎_elim (λ k. absurd (never k fine))
    (λ u.
    let ground = u.inv.core.ground in
    let p = ground.home_present c (subst (λ (n : ℕ). c < n) (sym (count_after f of e xs)) l) in
    (p, ground.present_works (home_in g.store c) p))
    (every_list f of e xs o).going

-- ---- who is present

-- what the marks and the steps taken have in common
pub record Says (s : Store) (work away : ℕ → Bool) : Type 0 where
  pub there : (i : ℕ) → is_present s i ≡ true → away i ≡ false
  pub gone : (i : ℕ) → is_store s i ≡ true → work i ≡ true → away i ≡ false → is_present s i ≡ true

-- fewer work, and the store is another
says_on : {s s' : Store} {work work' away : ℕ → Bool} → ((i : ℕ) → is_present s' i ≡ is_present s i) → ((i : ℕ) → is_store s' i ≡ is_store s i)
    → ((i : ℕ) → work' i ≡ true → work i ≡ true) → Says s work away → Says s' work' away
says_on p q f h = record { there = λ i e. h.there i (sym (p i) ∙ e); gone = λ i e w a. p i ∙ h.gone i (sym (q i) ∙ e) (f i w) a }

-- a store that leaves has tripped, or does not work
says_left : (s : Store) {work work' away away' : ℕ → Bool} (a : ℕ) → ((i : ℕ) → work' i ≡ true → work i ≡ true) → ((i : ℕ) → i ≢ a → away' i ≡ away i)
    → (work' a ≡ true → away' a ≡ false → ⊥) → Says s work away → Says (leaves s a) work' away'
unfolding leaves
says_left s {work'} {away'} a f same off h = record {
  there = λ i e.
      let x = and_true {s = is_present s i} (sym (leave_present s a i) ∙ e) in
      same i (λ q. never (eq-eqb i a q) (not_true_false x.1)) ∙ h.there i x.0;
  gone = λ i e w k. elim (ℕ_discrete i a) [
    | yes q ↦ absurd (off (subst (λ (j : ℕ). work' j ≡ true) q w) (subst (λ (j : ℕ). away' j ≡ false) q k))
    | no d ↦ leave_present s a i ∙ and_intro (h.gone i e (f i w) (sym (same i d) ∙ k)) (ap not (ne_eqb i a d))
  ];
}

back_stores : (s : Store) (a i : ℕ) → is_store (comes_back s a) i ≡ is_store s i
unfolding comes_back
back_stores s a i = refl

away_is : (s : Store) (a : ℕ) → is_store s a ≡ true → is_present s a ≡ false → is_away s a ≡ true
unfolding is_away
away_is s a e f = and_intro e (ap not f)

-- one that has reported restored is back, or was there, or is no store
says_back : (s : Store) → Served s → {work work' away : ℕ → Bool} (a : ℕ) → ((i : ℕ) → work' i ≡ true → work i ≡ true)
    → Says s work away → Says (cond (is_away s a) (comes_back s a) s) work' (upd away a false)
says_back s served {work} {work'} {away} a f h = go (is_away s a) refl
  where
    off : (i : ℕ) → away i ≡ false → upd away a false i ≡ false
    off i e = upd_elim (λ (t : Bool). t ≡ false) away a false i (λ _. refl) (λ _. e)

    was : (i : ℕ) → i ≢ a → upd away a false i ≡ false → away i ≡ false
    was i d e = sym (upd_other away a false i d) ∙ e

    go : (t : Bool) → is_away s a ≡ t → Says (cond t (comes_back s a) s) work' (upd away a false)
    go true e = record {
      there = λ i k.
          ⊎_elim (λ x. off i (h.there i x)) (λ x. ap (upd away a false) (eqb-true i a x) ∙ upd_same away a false)
          (or_split (is_present s i) (eqb i a) (sym (back_present s served a e i) ∙ k));
      gone = λ i k w x. back_present s served a e i ∙ elim (ℕ_discrete i a) [
        | yes q ↦ or_right (is_present s i) (eqb i a) (eq-eqb i a q)
        | no d ↦ or_left (is_present s i) (eqb i a) (h.gone i (sym (back_stores s a i) ∙ k) (f i w) (was i d x))
      ];
    }
    go false e = record {
      there = λ i k. off i (h.there i k);
      gone = λ i k w x. elim (ℕ_discrete i a) [
        | yes q ↦ is_true (is_present s i) (λ m. never (here (ap (is_store s) (sym q) ∙ k) (ap (is_present s) (sym q) ∙ m)) e)
        | no d ↦ h.gone i k (f i w) (was i d x)
      ];
    }
      where
        here : is_store s a ≡ true → is_present s a ≡ false → is_away s a ≡ true
        here = away_is s a

-- ---- who fails does not work

lines_beside : (g : Group) (i : ℕ) (o : Outgoing) (j : ℕ) → cabinet (with_outgoing g i o) j ≡ cabinet g j
unfolding with_outgoing cabinet
lines_beside g i o j = refl

settle_beside : (g : Group) (i : ℕ) (r : Reason) (j : ℕ) → cabinet (settle g i r) j ≡ cabinet g j
unfolding settle cabinet
settle_beside g i r j = refl

module _ (g : Group) (i j : ℕ) (d : j ≢ i) where
  put_beside : (c : Cabinet) (o : Outgoing) → cabinet (with_outgoing (with_cabinet g i c) i o) j ≡ cabinet g j
  put_beside c o = lines_beside (with_cabinet g i c) i o j ∙ cabinet_beside g i c j d

  raise_beside : (p : Place) → cabinet (raise g i p) j ≡ cabinet g j
  unfolding raise broadcast
  raise_beside p = lines_beside _ i _ j ∙ put_beside (alarmed (cabinet g i) i p) empty_lines

recover_beside : (g : Group) (i j : ℕ) → j ≢ i → (v : Bool) → cabinet (recover_with g i v) j ≡ cabinet g j
unfolding recover_with broadcast
recover_beside g i j d v = put_beside g i j d (recovering (cabinet g i) v) _

error_beside : (g : Group) (i : ℕ) (p : Place) (j : ℕ) → j ≢ i → cabinet (enter_error g i p) j ≡ cabinet g j
unfolding enter_error
error_beside g i p j d = go (cabinet g i).phase.version
  where
    go : (v : Version) → cabinet (recover_if_known (raise g i p) i v (reason_for (cabinet g i) i)) j ≡ cabinet g j
    go (Known v) = settle_beside _ i _ j ∙ recover_beside (raise g i p) i j d v ∙ raise_beside g i j d p
    go (Unknown v) = raise_beside g i j d p
    go Lost = raise_beside g i j d p

emptied_cabinet : (n : ℕ) (g : Group) (a j : ℕ) → cabinet (emptied_to n g a) j ≡ cabinet g j
unfolding with_line with_outgoing cabinet
emptied_cabinet zero g a j = refl
emptied_cabinet (suc n) g a j = emptied_cabinet n g a j

alarm_self : (n : ℕ) (g : Group) (a : ℕ) (p : Place) → works (state_of g a) ≡ false → works (state_of (alarm_to n g a p) a) ≡ false
unfolding alarm_to
alarm_self zero g a p e = e
alarm_self (suc n) g a p e = go (neighbours g n a) refl (alarm_self n g a p e)
  where
    go : (t : Bool) → neighbours g n a ≡ t → works (state_of (alarm_to n g a p) a) ≡ false → works (state_of (enter_error_if t (alarm_to n g a p) n p) a) ≡ false
    go true k before =
        let d : a ≢ n = λ q. never (and_true {s = works (state_of g n)} k).0 (ap (λ (j : ℕ). works (state_of g j)) (sym q) ∙ e) in
        ap (λ (c : Cabinet). works c.phase.state) (error_beside (alarm_to n g a p) n p a d) ∙ before
    go false k before = before

failed_self : (g : Group) → length g.cabinets ≡ 8 → (a : ℕ) → a < 8 → works (state_of (mark_failed g a) a) ≡ false
unfolding mark_failed with_outgoing with_cabinet cabinet
failed_self g e a l =
    ap (λ (c : Cabinet). works c.phase.state) (emptied_cabinet 8 _ a a ∙ get_or-set_same g.cabinets a (with_state (cabinet g a) Failed) absent (omega arith))

fail_down : (g : Group) → Fit g → (a : ℕ) → a < 8 → (fail_step g a).answer ≡ 0 → works (state_of (fail_step g a).group a) ≡ false
unfolding fail_step
fail_down g fit a l =
    cond_elim (λ (x : Outcome). x.answer ≡ 0 → works (state_of x.group a) ≡ false) (fail_crashes g a) (λ _ e. absurd (omega arith))
    (λ e _. alarm_self 8 (mark_failed (leave g a) a) a (AtFailed a)
    (failed_self (leave g a) (ok_leave Shaped Lined Pictured shaped g a (or-false {s = is_last g.store a} e).0 fit).frame.cabinets a l))

-- ---- one operation

module _ (total : Party → ℕ) (g : Group) (h : History) (u : Runs total g h) (r : List ℕ) (o : Octets r) where
  abbrev g' : Group
  g' = (step g r).group

  abbrev Saying : (ℕ → Bool) → Group → Type 0
  Saying away x = Says x.store (λ i. works (state_of x i)) away

  -- who does not work does not come to work
  fewer : (step g r).answer ≡ 0 → (i : ℕ) → works (state_of g' i) ≡ true → works (state_of g i) ≡ true
  fewer a i w =
      is_true (works (state_of g i)) (λ e.
      never w (⊎_elim (λ x. x.gone i e) (λ x. x.gone i e) (taken_runs total g h r o u a).1))

  -- who fails does not work any more
  named : (a : ℕ) → entry_refusal g (Fail a) ≡ 0 → a - 1 < 8
  named a k =
      let x = (passed (is_cabinet g a && is_cabinet g a) 10 _ (passed (not (is_crashed g)) 9 _ k).1).0 in
      (named_below total g u.ghost u.inv a (and_true {s = is_cabinet g a} x).0).1

  abbrev Down : ℕ → Outcome → Type 0
  Down a x = x.answer ≡ 0 → works (state_of x.group (a - 1)) ≡ false

  failed_down : (a : ℕ) → Down a (step_decoded g (Taken (Fail a)))
  failed_down a =
      cond_elim (Down a) (eqb (entry_refusal g (Fail a)) 0) (λ z. fail_down g u.fit (a - 1) (named a (eqb-true (entry_refusal g (Fail a)) 0 z)))
      (λ z w. absurd (eqb-false (entry_refusal g (Fail a)) 0 z w))

  fails : (a : ℕ) → decode r ≡ Taken (Fail a) → (step g r).answer ≡ 0 → works (state_of g' (a - 1)) ≡ false
  unfolding step
  fails a e = subst (λ (d : Decoded). Down a (step_decoded g d)) (sym e) (failed_down a)

  taken_says : (away : ℕ → Bool) (s : Step) → decode r ≡ Taken s → (step g r).answer ≡ 0 → Saying away g → Says (store_by g s) (λ i. works (state_of g' i)) (away_by away s)
  taken_says away (Send x y p q) e a k = says_on (λ i. refl) (λ i. refl) (fewer a) k
  taken_says away (Note x p q) e a k = says_on (λ i. refl) (λ i. refl) (fewer a) k
  taken_says away (Begin x) e a k = says_on (λ i. refl) (λ i. refl) (fewer a) k
  taken_says away (Deliver x y) e a k = says_on (λ i. refl) (λ i. refl) (fewer a) k
  taken_says away (Write x) e a k = says_on (λ i. piece_present g.store (x - 1) _ _ _ i) (λ i. piece_stores g.store (x - 1) _ _ _ i) (fewer a) k
  taken_says away (Saved x) e a k = says_on (λ i. refl) (λ i. refl) (fewer a) k
  taken_says away (Fetch x) e a k = says_on (λ i. refl) (λ i. refl) (fewer a) k
  taken_says away (Restored x) e a k = says_back g.store u.fit.frame.store (x - 1) (fewer a) k
  taken_says away (Fail x) e a k = says_left g.store (x - 1) (fewer a) (λ i d. refl) (λ w _. never w (fails x e a)) k
  taken_says away (Damage x y p w) e a k = says_on (λ i. refl) (λ i. refl) (fewer a) k
  taken_says away (Lose x y p) e a k = says_on (λ i. refl) (λ i. refl) (fewer a) k
  taken_says away (Trip x) e a k =
      says_left g.store (x - 1) (fewer a) (λ i d. upd_other away (x - 1) true i d) (λ _ f. never (upd_same away (x - 1) true) f) k
  taken_says away (Unsure x) e a k = says_on (λ i. refl) (λ i. refl) (fewer a) k

  no_step : (n : ℕ) → (step_decoded g (decode r)).answer ≡ suc n → (step g r).answer ≡ 0 → ⊥
  unfolding step
  no_step n e a = omega arith

  decoded_says : (away : ℕ → Bool) (d : Decoded) → decode r ≡ d → (step g r).answer ≡ 0 → Saying away g → Saying (note_away away (step g r).answer d) g'
  decoded_says away Malformed e a k = absurd (no_step 7 (ap (λ (d : Decoded). (step_decoded g d).answer) e) a)
  decoded_says away Unused e a k = absurd (no_step 8 (ap (λ (d : Decoded). (step_decoded g d).answer) e) a)
  decoded_says away (Taken s) e a k =
      rw (a, step_store g r s e a) (taken_says away s e a k)

  pub step_says : (away : ℕ → Bool) → Saying away g → is_crashed g' ≡ false → Saying (note_away away (step g r).answer (decode r)) g'
  step_says away k fine = elim (ℕ_discrete (step g r).answer 0) [
    | yes a ↦ decoded_says away (decode r) refl a k
    | no n ↦ elim (ℕ_discrete (step g r).answer 50) [
      | yes f ↦ absurd (never (crash_holds total g h r o u f) fine)
      | no m ↦ subst (Saying (note_away away (step g r).answer (decode r))) (sym (refusal_keeps g r n m)) (unnoted (decode r) n)
    ]
  ]
    where
      unnoted : (d : Decoded) → ((step g r).answer ≡ 0 → ⊥) → Saying (note_away away (step g r).answer d) g
      unnoted Malformed n = k
      unnoted Unused n = k
      unnoted (Taken s) n = rw (ne_eqb (step g r).answer 0 n) k

-- ---- every list

-- every store of a file that loads is present
starts_present : (f : List ℕ) → Octets f → (load f).answer ≡ 0 → (j : ℕ) → is_store (load f).group.store j ≡ true → is_present (load f).group.store j ≡ true
starts_present f of e j = rw (the_group f e) (λ k. k)

return_store : (ps : Points) (g : Group) (name : List ℕ) (i : ℕ)
    → (is_present (return_to ps g name).group.store i ≡ is_present g.store i) × (is_store (return_to ps g name).group.store i ≡ is_store g.store i)
unfolding return_to returned set_slots
return_store ps g name i =
    cond_elim (λ (x : Outcome). (is_present x.group.store i ≡ is_present g.store i) × (is_store x.group.store i ≡ is_store g.store i))
    (eqb (return_refusal ps g name) 0) (λ _. (refl, refl)) (λ _. (refl, refl))

returned_at : (g : Group) (p : Point) (i : ℕ) → i < 8 → cabinet (returned g p) i ≡ with_point_image g p i
unfolding returned cabinet
returned_at g p i l = row_at (with_point_image g p) absent i l

returned_past : (g : Group) (p : Point) (i : ℕ) → (i < 8 → ⊥) → cabinet (returned g p) i ≡ absent
unfolding returned cabinet
returned_past g p i l = get_or-eq_default (row (with_point_image g p)) absent {n = i} (omega arith)

return_fewer : (ps : Points) (g : Group) (name : List ℕ) (i : ℕ) → works (state_of (return_to ps g name).group i) ≡ true → works (state_of g i) ≡ true
unfolding return_to
return_fewer ps g name i =
    cond_elim (λ (x : Outcome). works (state_of x.group i) ≡ true → works (state_of g i) ≡ true) (eqb (return_refusal ps g name) 0)
    (λ _. at_point (point_at ps (place_of ps name)) i) (λ _ e. e)
  where
    at_point : (p : Point) (i : ℕ) → works (state_of (returned g p) i) ≡ true → works (state_of g i) ≡ true
    at_point p i e = elim (dec_lt i 8) [
      | yes l ↦ ap (λ (c : Cabinet). works c.phase.state) (sym (returned_at g p i l)) ∙ e
      | no n ↦ absurd (never e (ap (λ (c : Cabinet). works c.phase.state) (returned_past g p i n)))
    ]

return_crashed : (ps : Points) (g : Group) (name : List ℕ) → is_crashed g ≡ true → is_crashed (return_to ps g name).group ≡ true
unfolding return_to
return_crashed ps g name e = rw e e

-- what is said of a world that goes on
abbrev Told : World → (ℕ → Bool) → Type 0
Told w away = is_crashed w.group ≡ false → Says w.group.store (λ i. works (state_of w.group i)) away

module _ (total : Party → ℕ) (w : World) (good : Good total w) (away : ℕ → Bool) (told : Told w away) where
  -- a group that is crashed stays so
  was_fine : (r : List ℕ) → is_crashed (step w.group r).group ≡ false → is_crashed w.group ≡ false
  was_fine r e = is_false (is_crashed w.group) (λ c. never (ap is_crashed (stopped w.group r c) ∙ c) e)

  by_step : (r : List ℕ) → Octets r → Told (advance w (stepping r)) (note_away away (step w.group r).answer (decode r))
  unfolding advance
  by_step r o fine =
      let before = was_fine r fine in
      ⊎_elim (λ c. absurd (never c before)) (λ u. step_says total w.group w.history u r o away (told before) fine) good.going

  by_point : (name : List ℕ) → Told (advance w (pointing name)) away
  unfolding advance
  by_point name = told

  by_return : (name : List ℕ) → Told (advance w (returning name)) away
  unfolding advance
  by_return name fine =
      says_on (λ i. (return_store w.points w.group name i).0) (λ i. (return_store w.points w.group name i).1)
      (return_fewer w.points w.group name)
      (told (is_false (is_crashed w.group) (λ c. never (return_crashed w.points w.group name c) fine)))

told_run : (total : Party → ℕ) (xs : List Operation) (w : World) → AllOctets xs → Good total w → (away : ℕ → Bool) → Told w away → Told (run w xs) (away_from w away xs)
unfolding run away_from
told_run total [] w o good away told = told
told_run total (stepping r ∷ xs) w o good away told =
    told_run total xs (advance w (stepping r)) o.1 (one_more total w good (stepping r) o.0).0 _ (by_step total w good away told r o.0)
told_run total (pointing name ∷ xs) w o good away told =
    told_run total xs (advance w (pointing name)) o.1 (one_more total w good (pointing name) o.0).0 away (by_point total w good away told name)
told_run total (returning name ∷ xs) w o good away told =
    told_run total xs (advance w (returning name)) o.1 (one_more total w good (returning name) o.0).0 away (by_return total w good away told name)

all_told : (f : List ℕ) → Octets f → (load f).answer ≡ 0 → (xs : List Operation) → AllOctets xs → Told (world_after f xs) (away_after f xs)
unfolding run
all_told f of e xs o =
    told_run (feeder_total f) xs (opening (load f).group) o (every_list f of e [] tt) (λ j. false)
    (λ _. record { there = λ j k. refl; gone = λ j k w _. starts_present f of e j k })

pub present_as_said : PresentAsSaid
present_as_said f of e xs o fine i = go (is_present s i) refl
  where
    g : Group
    g = (world_after f xs).group

    s : Store
    s = g.store

    says : Says s (λ j. works (state_of g j)) (away_after f xs)
    says = all_told f of e xs o fine

    runs : Runs (feeder_total f) g (world_after f xs).history
    runs = ⊎_elim (λ c. absurd (never c fine)) (λ u. u) (every_list f of e xs o).going

    go : (t : Bool) → is_present s i ≡ t → t ≡ (is_store s i && (works (state_of g i) && not (away_after f xs i)))
    go true k =
        sym (and_intro (runs.fit.frame.store.present_stores i k) (and_intro (runs.inv.core.ground.present_works i k) (ap not (says.there i k))))
    go false k =
        sym (is_false _ (λ x.
        let y = and_true {s = is_store s i} x in
        let z = and_true {s = works (state_of g i)} y.1 in
        never (says.gone i y.0 z.0 (not_true_false z.1)) k))
