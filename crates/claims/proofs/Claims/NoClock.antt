-- Card 6's sentence. A recovery that ended had one fault place, places do not change while a cabinet is aware of its fault, so at the wait
-- all of them had lost their coordinator and name one that leads now: each report is taken, the last one decides, and the save stays.
use Rattle.std.specs.Prelude.{Some}
use Prim.Native.Nat.{ℕ, zero, suc, ◌+◌, ◌-◌, ◌<◌, ◌≤◌}
use mathlib.Core.Path.{◌≡◌, refl, sym, ap, ◌∙◌, subst}
use mathlib.Core.Logic.{◌≢◌, inr, ⊎_elim}
use mathlib.Core.Bool.{Bool, true, false, cond, not}
use mathlib.Core.List.{List, [], ◌∷◌, map}
use lib.Dec.{eqb, ltb}
use borrow.Author.Tests.{eqb-true, eq-eqb, ne_eqb, le-leb}
use native.Mathlib.Omega.{arith}
use native.Mathlib.Decide.{ℕ_discrete}
use Rattle.marks.specs.Marks.{covers}
use Rattle.marks.specs.MarksLaws.{covers_has, has_covers}
use Rattle.outlet.specs.declared.Party.{Party}
use Rattle.packet.specs.declared.Place.{Place}
use Rattle.packet.specs.declared.Place.TheVariants.{Failed as AtFailed}
use Rattle.state.specs.declared.State.{State}
use Rattle.state.specs.declared.State.TheVariants.{Error, Recovering}
use Rattle.state.specs.State.{is_in, works, is_unknown}
use Rattle.cabinet.specs.Cabinet.{coordinator}
use Rattle.points.specs.declared.Point.{Point}
use Rattle.points.specs.Points.{point_at, place_of}
use Rattle.group.specs.declared.Group.{Group}
use Rattle.group.specs.declared.Outcome.{Outcome}
use Rattle.group.specs.Group.{cabinet, state_of, is_crashed, quiet, taken}
use Rattle.load.specs.Load.{load, cabinet_count, feeder_total}
use Rattle.load.proofs.Loaded.{starts}
use Rattle.protocol.specs.declared.Step.TheVariants.{Unsure}
use Rattle.protocol.specs.declared.Decoded.TheVariants.{Taken}
use Rattle.protocol.specs.Kinds.{is_unsure, takes_unsure, unsure_refusal, report_unsure, decide_if_all, unsure_step}
use Rattle.protocol.specs.Wait.{wait_over_refusal, waited_over}
use Rattle.protocol.specs.Entry.{decode, step, entry_refusal, is_cabinet}
use Rattle.protocol.specs.Points.{returned, return_refusal, return_to}
use Rattle.protocol.specs.History.{Save, History, Operation, stepping, pointing, returning, World, advance, run, latest, note_cuts, record_decoded}
use Rattle.protocol.specs.Restored.{Restored, Octets, OctetsIn}
use Rattle.claims.specs.NoClock.{NoReports, WaitTaken, waited, Reached, start, next, wait, is_report, loaded, operated, waited_at, BeforeUnreported, unsure_record, report, times, OneOfEach, AllTaken, NoClock, NoClockBefore}
use Rattle.claims.proofs.State.Fun.{never, is_true, is_false, and_true, and_intro, not_true_false, cond_elim, upd_pair}
use Rattle.claims.proofs.State.Every.{passed, ok_recover_with, every_step, asks_in, decode_asks}
use Rattle.claims.proofs.State.Fixed.{step_n, recover_n}
use Rattle.claims.proofs.State.View.{View, Own, Side, view}
use Rattle.claims.proofs.State.Shape.{Shaped, Lined, Pictured, shaped}
use Rattle.claims.proofs.State.Sim.{Fit}
use Rattle.claims.proofs.State.Methods.{hits_cabinet}
use Rattle.claims.proofs.State.Loaded.{loaded_fit}
use Rattle.claims.proofs.Answers.Tests.{in_state}
use Rattle.claims.proofs.Answers.Entry.{refusal_keeps, crash_stops}
use Rattle.claims.proofs.Invariant.States.{place_same, error_recovers}
use Rattle.claims.proofs.Invariant.Facts.{Ghost}
use Rattle.claims.proofs.Invariant.Whole.{Inv, aware_of}
use Rattle.claims.proofs.Invariant.Staying.{Silent, reports_none, error_aware}
use Rattle.claims.proofs.Invariant.Past.{Past, Went, quiet_of}
use Rattle.claims.proofs.Invariant.Words.{aware_works}
use Rattle.claims.proofs.Invariant.Points.{PointsHeld, found}
use Rattle.claims.proofs.Invariant.Opening.{starts_silent}
use Rattle.claims.proofs.Moves.FirstFault.{g_frozen}
use Rattle.claims.proofs.Moves.Deciding.{led_on, heir_works, chief_lost}
use Rattle.claims.proofs.Moves.UnsureStep.{seen1, own1, mark_here, mark_there, keeps_unsure, decided_state, undecided}
use Rattle.claims.proofs.Moves.WaitingOver.{wait_aware, wait_former, wait_unsure, waited_inv, waited_goes, waited_past, waited_silent}
use Rattle.claims.proofs.Moves.Ending.{misses}
use Rattle.claims.proofs.Moves.Returning.{nobody, states_returned}
use Rattle.claims.proofs.Claims.Demand.{Runs, Good, one_more, every_list, advance_n, run_n, stopped, taken_runs, crash_error}
use Rattle.claims.proofs.Claims.During.{Since, During, during_goes, to_end}

-- ---- a wait keeps what holds of every run

waited_n : (g : Group) (a : ℕ) → (waited_over g a).n ≡ g.n
unfolding waited_over
waited_n g a = recover_n g a _

no_marks_lem : (g : Group) → NoReports g → Silent (view g)
no_marks_lem g none c e d = none c d ((in_state (state_of g c) Error).0 e)

module _ (total : Party → ℕ) (g : Group) (h : History) (w : Runs total g h) (a : ℕ) (fine : wait_over_refusal g a ≡ 0) (none : NoReports g) where
  abbrev i : Inv g.n total (view g) w.ghost
  i = w.inv

  fit' : Fit (waited_over g a)
  unfolding waited_over
  fit' = ok_recover_with Shaped Lined Pictured shaped g a _ w.fit

  waited_runs : Runs total (waited_over g a) h
  waited_runs = record {
    ghost = g_frozen w.ghost;
    fit = fit';
    inv = subst (λ (m : ℕ). Inv m total (view (waited_over g a)) (g_frozen w.ghost)) (sym (waited_n g a)) (waited_inv total g h w.ghost w.fit i w.past a fine);
    past = subst (λ (m : ℕ). Past m (view (waited_over g a)) (g_frozen w.ghost) h) (sym (waited_n g a)) (waited_past total g h w.ghost w.fit i w.past a fine);
    reports = reports_none (view (waited_over g a)) (waited_silent total g h w.ghost w.fit i w.past a fine (no_marks_lem g none));
  }

-- not crashed, so that the invariant holds
runs_of : (total : Party → ℕ) (w : World) → Good total w → is_crashed w.group ≡ false → Runs total w.group w.history
runs_of total w g c = ⊎_elim (λ x. absurd (never x c)) (λ x. x) g.going

good_wait : (total : Party → ℕ) (w : World) → Good total w → (a : ℕ) → WaitTaken w.group a → NoReports w.group → Good total (waited w a)
good_wait total w g a t none =
    let r = waited_runs total w.group w.history (runs_of total w g t.running) a t.fine none in
    record {
      fit = r.fit;
      points = subst (λ (m : ℕ). PointsHeld m total w.points w.history.points) (sym (waited_n w.group a)) g.points;
      going = inr r;
    }

module _ (f : List ℕ) (of : Octets f) (e : (load f).answer ≡ 0) where
  reached_good : (w : World) → Reached f w → Good (feeder_total f) w
  unfolding run
  reached_good _ start = every_list f of e [] tt
  reached_good _ (next {w} x o r) = (one_more (feeder_total f) w (reached_good w r) x o).0
  reached_good _ (wait {w} a t none r) = good_wait (feeder_total f) w (reached_good w r) a t none

  reached_n : (w : World) → Reached f w → w.group.n ≡ cabinet_count f
  reached_n _ start = (starts f of e).count
  reached_n _ (next {w} x o r) = advance_n x w ∙ reached_n w r
  reached_n _ (wait {w} a t none r) = waited_n w.group a ∙ reached_n w r

-- ---- in runs of before the card nobody's report stands

module _ (total : Party → ℕ) (w : World) (good : Good total w) (none : Silent (view w.group)) where
  abbrev g₀ : Group
  g₀ = w.group

  silent_step : (r : List ℕ) → Octets r → asks_in (decode r) ≡ false → Silent (view (step g₀ r).group)
  silent_step r o e = ⊎_elim (λ c. rw (stopped g₀ r c) none) going good.going
    where
      going : Runs total g₀ w.history → Silent (view (step g₀ r).group)
      going u = elim (ℕ_discrete (step g₀ r).answer 0) [
        | yes a ↦ (taken_runs total g₀ w.history r o u a).3 e none
        | no n ↦ elim (ℕ_discrete (step g₀ r).answer 50) [
          | yes f ↦ λ c x. absurd (never x (ap (λ (y : Group). is_in (state_of y c) Error) (crash_stops g₀ r f) ∙ crash_error g₀ c))
          | no m ↦ rw (refusal_keeps g₀ r n m) none
        ]
      ]

  silent_return : (name : List ℕ) → Silent (view (return_to w.points g₀ name).group)
  unfolding return_to
  silent_return name =
      cond_elim (λ (x : Outcome). Silent (view x.group)) (eqb (return_refusal w.points g₀ name) 0) (λ e. back (eqb-true (return_refusal w.points g₀ name) 0 e)) (λ _. none)
    where
      p : Point
      p = point_at w.points (place_of w.points name)

      -- nobody is in error in a quiet group
      back : return_refusal w.points g₀ name ≡ 0 → Silent (view (returned g₀ p))
      back e c x =
          let one = passed (not (is_crashed g₀)) 9 _ e in
          let two = passed (ltb (place_of w.points name) 4) 20 _ one.1 in
          let three = passed (quiet g₀) 21 0 two.1 in
          let u = runs_of total w good (not_true_false one.0) in
          let held = (found good.points name two.0).2 in
          absurd (never (error_recovers (state_of g₀ c) (ap (λ (s : State). is_in s Error) (sym (states_returned g₀ good.fit p held c)) ∙ x))
          (nobody total g₀ w.history u.ghost u.fit u.inv u.past three.0 c))

  silent_next : (x : Operation) → OctetsIn x → is_report x ≡ false → Silent (view (advance w x).group)
  unfolding advance
  silent_next (stepping r) o e = silent_step r o (decode_asks r o e)
  silent_next (pointing name) o e = none
  silent_next (returning name) o e = silent_return name

pub before_unreported : BeforeUnreported
before_unreported f of e _ loaded =
    (start, λ c j x. starts_silent f (load f).group (starts f of e) (loaded_fit f of e) c ((in_state (state_of (load f).group c) Error).1 x) j)
before_unreported f of e _ (operated {w} x o q b) =
    let r = before_unreported f of e w b in
    (next x o r.0, λ c j z. silent_next (feeder_total f) w (reached_good f of e w r.0) (no_marks_lem w.group r.1) x o q c ((in_state (state_of (advance w x).group c) Error).1 z) j)
before_unreported f of e _ (waited_at {w} a t b) =
    let r = before_unreported f of e w b in
    let u = runs_of (feeder_total f) w (reached_good f of e w r.0) t.running in (
      wait a t r.1 r.0,
      λ c j z. waited_silent (feeder_total f) w.group w.history u.ghost u.fit u.inv u.past a t.fine (no_marks_lem w.group r.1) c
          ((in_state (state_of (waited_over w.group a) c) Error).1 z) j,
    )

-- ---- the wait, of which the recovery ended: all have one place

module _ (total : Party → ℕ) (g : Group) (γ : Ghost) (i : Inv g.n total (view g) γ) (a : ℕ) (fine : wait_over_refusal g a ≡ 0)
    (one : (c : ℕ) → works (state_of g c) ≡ true → (cabinet g c).phase.alarm ≡ (cabinet g a).phase.alarm) where
  abbrev v : View
  v = view g

  abbrev k : ℕ
  k = coordinator (cabinet g a)

  aware_at : (c : ℕ) → works (state_of g c) ≡ true → aware_of v γ c ≡ true
  aware_at c w = error_aware v γ (quiet_of i) c (wait_unsure total g γ i a fine c w).0

  abbrev a_aware : aware_of v γ a ≡ true
  a_aware = wait_aware total g γ i a fine

  abbrev place : (q : Place) × ((v.own a).alarm ≡ Some q)
  place = (i.core.nodes a).place_known a_aware

  -- so all had lost their coordinator, and name the one that a names
  former_at : (c : ℕ) → works (state_of g c) ≡ true → (v.own c).former ≡ true
  former_at c w =
      ((i.core.leads c).moved (aware_at c w) place.0 (one c w ∙ place.1)).0
      ∙ sym ((i.core.leads a).moved a_aware place.0 place.1).0 ∙ wait_former total g γ i a fine

  lead_at : (c : ℕ) → works (state_of g c) ≡ true → (v.own c).lead ≡ k
  lead_at c w =
      ((i.core.leads c).moved (aware_at c w) place.0 (one c w ∙ place.1)).1 ∙ sym ((i.core.leads a).moved a_aware place.0 place.1).1

  k_works : works (state_of g k) ≡ true
  k_works =
      ap (λ (c : ℕ). works (state_of g c)) (led_on g.n total v γ i a a_aware (wait_former total g γ i a fine))
      ∙ heir_works g.n total v γ i (chief_lost g.n total v γ i a a_aware (wait_former total g γ i a fine))

  k_error : is_in (state_of g k) Error ≡ true
  k_error = (wait_unsure total g γ i a fine k k_works).0

  -- the table of that one has just those that work
  in_table : (c : ℕ) → works (state_of g c) ≡ true → (v.side k c).cab ≡ true
  in_table c w =
      let q = one k k_works ∙ place.1 in
      ((i.core.pairs k c).struck (aware_at k k_works) place.0 q).0
      ∙ rw ((i.core.nodes c).placed w, misses place.0 (i.places.from_one k (aware_at k k_works) place.0 q) c w)

  table_works : (d : ℕ) → (v.side k d).cab ≡ true → works (state_of g d) ≡ true
  table_works d t =
      let q = one k k_works ∙ place.1 in
      let c = and_true {s = (γ.mind d).tab} (sym ((i.core.pairs k d).struck (aware_at k k_works) place.0 q).0 ∙ t) in
      is_true (works (state_of g d)) (λ f.
      let x = i.places.failed_for d c.0 f in
      let same : place.0 ≡ AtFailed d = place_same (sym place.1 ∙ sym (one x.0 (aware_works γ.big (v.own x.0) x.1)) ∙ x.2) in
      never c.1 (ap (λ (p : Place). not (hits_cabinet p d)) same ∙ ap not (eq-eqb d d refl)))

-- ---- the reports

less_one : (c : ℕ) → suc c - 1 ≡ c
less_one c = omega arith

crashed_same : (g g' : Group) → ((c : ℕ) → state_of g' c ≡ state_of g c) → is_crashed g' ≡ is_crashed g
unfolding is_crashed
crashed_same g g' e = rw (e 0, e 1, e 2, e 3, e 4, e 5, e 6, e 7)

module _ (total : Party → ℕ) (g : Group) (γ : Ghost) (i : Inv g.n total (view g) γ) (a : ℕ) (t : WaitTaken g a)
    (one : (c : ℕ) → works (state_of g c) ≡ true → (cabinet g c).phase.alarm ≡ (cabinet g a).phase.alarm) (since : Since) where
  abbrev lead : ℕ
  lead = coordinator (cabinet g a)

  abbrev fine : wait_over_refusal g a ≡ 0
  fine = t.fine

  -- no cabinet's report stands that is still in the list
  record Asked (cs : List ℕ) (w : World) : Type 0 where
    pub during : During since w.group w.history
    pub own : (c : ℕ) → (view w.group).own c ≡ (view g).own c
    pub cab : (d : ℕ) → ((view w.group).side lead d).cab ≡ ((view g).side lead d).cab
    pub mark : (d : ℕ) → works (state_of g d) ≡ true → ((view w.group).side lead d).unsure ≡ eqb (times d cs) 0
    pub count : w.group.n ≡ g.n

  -- each cabinet is in it once at most, if it works
  abbrev Once : List ℕ → Type 0
  Once cs = (d : ℕ) → times d cs ≤ cond (works (state_of g d)) 1 0

  module _ (c : ℕ) (cs : List ℕ) (w : World) (x : Asked (c ∷ cs) w) (once : Once (c ∷ cs)) where
    abbrev g' : Group
    g' = w.group

    abbrev run_at : Runs since.total g' w.history
    run_at = x.during.runs

    here_once : times c (c ∷ cs) ≡ suc (times c cs)
    unfolding times
    here_once = let e = ap (λ (b : Bool). cond b 1 0 + times c cs) (eq-eqb c c refl) in omega arith

    c_works : works (state_of g c) ≡ true
    c_works = is_true (works (state_of g c)) (λ f. let o = once c in let l : times c (c ∷ cs) ≤ 0 = rw f at o in omega (arith, here_once))

    no_more : times c cs ≡ 0
    no_more = let o = once c in let l : times c (c ∷ cs) ≤ 1 = rw c_works at o in omega (arith, here_once)

    once_more : Once cs
    unfolding times
    once_more d = omega (arith, once d)

    c_below : c < g.n
    c_below = i.core.ground.within c ((i.core.nodes c).placed c_works)

    c_eight : c < 8
    c_eight = omega (arith, c_below, i.core.ground.most)

    c_unsure : (is_in (state_of g c) Error ≡ true) × (is_unknown (cabinet g c).phase.version ≡ true)
    c_unsure = wait_unsure total g γ i a fine c c_works

    leads : coordinator (cabinet g' c) ≡ lead
    leads = ap (λ (o : Own). o.lead) (x.own c) ∙ lead_at total g γ i a fine one c c_works

    unmarked : ((view g').side lead c).unsure ≡ false
    unmarked = x.mark c c_works ∙ ne_eqb (times c (c ∷ cs)) 0 (λ q. omega (arith, here_once, q))

    is_unsure_lem : is_unsure (cabinet g' c) ≡ true
    is_unsure_lem =
        and_intro (ap (λ (o : Own). is_in o.state Error) (x.own c) ∙ c_unsure.0) (ap (λ (o : Own). is_unknown o.version) (x.own c) ∙ c_unsure.1)

    takes : takes_unsure (cabinet g' (coordinator (cabinet g' c))) c ≡ true
    takes =
        subst (λ (j : ℕ). takes_unsure (cabinet g' j) c ≡ true) (sym leads)
        (and_intro (ap not unmarked) (ap (λ (o : Own). is_in o.state Error) (x.own lead) ∙ k_error total g γ i a fine one))

    not_refused : unsure_refusal g' c ≡ 0
    not_refused = rw (is_unsure_lem, ap (λ (o : Own). o.former) (x.own c) ∙ former_at total g γ i a fine one c c_works, takes)

    named : is_cabinet g' (suc c) ≡ true
    named = and_intro (le-leb 1 (suc c) (omega arith)) (le-leb (suc c) g'.n (omega (arith, x.count, c_below)))

    entered : entry_refusal g' (Unsure (suc c)) ≡ 0
    entered =
        rw (
          crashed_same g g' (λ d. ap (λ (o : Own). o.state) (x.own d)) ∙ t.running,
          named,
          ap (λ (j : ℕ). works (state_of g' j)) (less_one c) ∙ ap (λ (o : Own). works o.state) (x.own c) ∙ c_works,
        )

    abbrev after : Group
    after = decide_if_all (report_unsure g' c (coordinator (cabinet g' c))) (coordinator (cabinet g' c))

    stepped : step g' (unsure_record c) ≡ taken after
    unfolding step unsure_step
    stepped =
        rw entered
        (ap (λ (j : ℕ). unsure_step g' j) (less_one c) ∙ rw not_refused)

    answered : (step g' (unsure_record c)).answer ≡ 0
    answered = ap (λ (o : Outcome). o.answer) stepped

    -- ---- what it leaves

    went : Went since.total g' run_at.ghost after (note_cuts w.history g' after)
    went =
        keeps_unsure since.total g' w.history run_at.ghost run_at.fit run_at.inv run_at.past run_at.reports c c_eight not_refused

    octets : Octets (unsure_record c)
    octets zero = omega arith
    octets (suc zero) = omega (arith, c_eight)
    octets (suc (suc zero)) = omega arith
    octets (suc (suc (suc zero))) = omega arith
    octets (suc (suc (suc (suc zero)))) = omega arith
    octets (suc (suc (suc (suc (suc zero))))) = omega arith
    octets (suc (suc (suc (suc (suc (suc n)))))) = omega arith

    after_n : after.n ≡ g'.n
    after_n = ap (λ (o : Outcome). o.group.n) (sym stepped) ∙ step_n g' (unsure_record c)

    after_runs : Runs since.total after (note_cuts w.history g' after)
    after_runs = record {
      ghost = went.ghost;
      fit = subst Fit (ap (λ (o : Outcome). o.group) stepped) (every_step Shaped Lined Pictured shaped g' (unsure_record c) octets run_at.fit);
      inv = subst (λ (m : ℕ). Inv m since.total (view after) went.ghost) (sym after_n) went.inv;
      past = subst (λ (m : ℕ). Past m (view after) went.ghost (note_cuts w.history g' after)) (sym after_n) went.past;
      reports = went.reports;
    }

    after_during : During since after (note_cuts w.history g' after)
    unfolding after_runs
    after_during = during_goes x.during after_runs went.goes (refl, refl)

    group_is : (advance w (report c)).group ≡ after
    unfolding advance
    group_is = ap (λ (o : Outcome). o.group) stepped

    history_is : (advance w (report c)).history ≡ note_cuts w.history g' after
    unfolding advance
    history_is = ap (λ (o : Outcome). record_decoded w.history g' o (Taken (Unsure (suc c)))) stepped

    next_during : During since (advance w (report c)).group (advance w (report c)).history
    next_during =
        subst (λ (y : Group). During since y (advance w (report c)).history) (sym group_is)
        (subst (During since after) (sym history_is) after_during)

    -- ---- the marks at the one that leads

    abbrev led : ℕ
    led = coordinator (cabinet g' c)

    abbrev g1 : Group
    g1 = report_unsure g' c led

    cab_at : (d : ℕ) → ((view g1).side lead d).cab ≡ ((view g).side lead d).cab
    cab_at d =
        ap (λ (y : View). (y.side lead d).cab) (seen1 since.total g' w.history run_at.ghost run_at.fit run_at.inv run_at.past run_at.reports c c_eight not_refused)
        ∙ upd_pair (λ (s : Side). s.cab ≡ ((view g').side lead d).cab) (view g').side led c _ lead d
        (λ p q. ap (λ (j : ℕ). ((view g').side j c).cab) (sym p) ∙ ap (λ (j : ℕ). ((view g').side lead j).cab) (sym q)) refl
        ∙ x.cab d

    mark_new : ((view g1).side lead c).unsure ≡ true
    mark_new =
        subst (λ (j : ℕ). ((view g1).side j c).unsure ≡ true) leads
        (mark_here since.total g' w.history run_at.ghost run_at.fit run_at.inv run_at.past run_at.reports c c_eight not_refused)

    mark_old : (d : ℕ) → d ≢ c → works (state_of g d) ≡ true → ((view g1).side lead d).unsure ≡ eqb (times d cs) 0
    unfolding times
    mark_old d n wd =
        mark_there since.total g' w.history run_at.ghost run_at.fit run_at.inv run_at.past run_at.reports c c_eight not_refused lead d (λ _ q. n q)
        ∙ x.mark d wd ∙ ap (λ (b : Bool). eqb (cond b 1 0 + times d cs) 0) (ne_eqb d c n) ∙ ap (λ (m : ℕ). eqb m 0) none_before
      where
        none_before : 0 + times d cs ≡ times d cs
        none_before = omega arith

    mark_at : (d : ℕ) → works (state_of g d) ≡ true → ((view g1).side lead d).unsure ≡ eqb (times d cs) 0
    mark_at d wd = elim (ℕ_discrete d c) [
      | yes e ↦ ap (λ (j : ℕ). ((view g1).side lead j).unsure) e ∙ mark_new ∙ sym (ap (λ (j : ℕ). eqb (times j cs) 0) e ∙ ap (λ (m : ℕ). eqb m 0) no_more)
      | no n ↦ mark_old d n wd
    ]

    abbrev All : ℕ → Bool
    All j = covers (cabinet g1 j).noted.unsure (cabinet g1 j).table.cabinets

    -- one that is still to come has no mark
    still_out : (d : ℕ) → works (state_of g d) ≡ true → 1 ≤ times d cs → All led ≡ false
    still_out d wd l =
        subst (λ (j : ℕ). All j ≡ false) (sym leads)
        (is_false (All lead) (λ e. never (covers_has (cabinet g1 lead).noted.unsure (cabinet g1 lead).table.cabinets e d
        (omega (arith, i.core.ground.within d ((i.core.nodes d).placed wd), i.core.ground.most)) (cab_at d ∙ in_table total g γ i a fine one d wd))
        (mark_at d wd ∙ ne_eqb (times d cs) 0 (λ q. omega (arith, q)))))

    -- where none is, all have one
    all_in : ((d : ℕ) → times d cs ≡ 0) → All led ≡ true
    all_in none =
        subst (λ (j : ℕ). All j ≡ true) (sym leads)
        (has_covers (cabinet g1 lead).noted.unsure (cabinet g1 lead).table.cabinets
        (λ d l m. mark_at d (table_works total g γ i a fine one d (sym (cab_at d) ∙ m)) ∙ ap (λ (j : ℕ). eqb j 0) (none d)))

    asked_next : (d : ℕ) → works (state_of g d) ≡ true → 1 ≤ times d cs → Asked cs (advance w (report c))
    asked_next d wd l =
        let out = still_out d wd l in
        let same : (advance w (report c)).group ≡ g1 = group_is ∙ undecided since.total g' w.history run_at.ghost run_at.fit run_at.inv run_at.past run_at.reports c c_eight not_refused out in
        record {
          during = next_during;
          own = λ j. ap (λ (y : Group). (view y).own j) same
              ∙ own1 since.total g' w.history run_at.ghost run_at.fit run_at.inv run_at.past run_at.reports c c_eight not_refused j ∙ x.own j;
          cab = λ j. ap (λ (y : Group). ((view y).side lead j).cab) same ∙ cab_at j;
          mark = λ j wj. ap (λ (y : Group). ((view y).side lead j).unsure) same ∙ mark_at j wj;
          count = ap (λ (y : Group). y.n) group_is ∙ after_n ∙ x.count;
        }

    leads_on : All led ≡ true → state_of (advance w (report c)).group lead ≡ Recovering
    leads_on e =
        ap (λ (y : Group). state_of y lead) group_is
        ∙ subst (λ (j : ℕ). state_of after j ≡ Recovering) leads
        (decided_state since.total g' w.history run_at.ghost run_at.fit run_at.inv run_at.past run_at.reports c c_eight not_refused e)

  -- ---- one after the other

  abbrev Reported : List ℕ → World → Type 0
  Reported cs w =
      AllTaken w cs × (state_of (run w (map report cs)).group lead ≡ Recovering)
      × During since (run w (map report cs)).group (run w (map report cs)).history

  all_reported : (c : ℕ) (cs : List ℕ) (w : World) → Asked (c ∷ cs) w → Once (c ∷ cs) → Reported (c ∷ cs) w
  unfolding run AllTaken times
  all_reported c [] w x o = ((answered c [] w x o, tt), leads_on c [] w x o (all_in c [] w x o (λ d. refl)), next_during c [] w x o)
  all_reported c (d ∷ cs) w x o =
      let more = once_more c (d ∷ cs) w x o in
      let here : 1 ≤ times d (d ∷ cs) = (let e = ap (λ (b : Bool). cond b 1 0 + times d cs) (eq-eqb d d refl) in omega arith) in
      let wd : works (state_of g d) ≡ true = is_true (works (state_of g d)) (λ f. let l : times d (d ∷ cs) ≤ 0 = (let m = more d in rw f at m) in omega arith) in
      let r = all_reported d cs (advance w (report c)) (asked_next c (d ∷ cs) w x o d wd here) more in
      ((answered c (d ∷ cs) w x o, r.0), r.1, r.2)

-- ---- the sentence

abbrev since_wait : (Party → ℕ) → World → Since
since_wait total w = record {
  total = total;
  there = λ c. works (state_of w.group c);
  place = λ c. (cabinet w.group c).phase.alarm;
  save = latest w.history;
}

module _ (total : Party → ℕ) (w : World) (r : Runs total w.group w.history) (a : ℕ) (t : WaitTaken w.group a) (none : NoReports w.group) where
  abbrev gw : Group
  gw = w.group

  works_a : works (state_of gw a) ≡ true
  works_a = aware_works r.ghost.big ((view gw).own a) (wait_aware total gw r.ghost r.inv a t.fine)

  at_wait : During (since_wait total w) gw w.history
  at_wait = record {
    runs = r;
    on = λ c wc. (error_aware (view gw) r.ghost (quiet_of r.inv) c (wait_unsure total gw r.ghost r.inv a t.fine c wc).0, refl);
    off = λ c wc. wc;
    save = (refl, refl);
  }

  after_wait : During (since_wait total w) (waited_over gw a) w.history
  unfolding at_wait waited_runs
  after_wait =
      during_goes at_wait (waited_runs total gw w.history r a t.fine none)
      (waited_goes total gw w.history r.ghost r.fit r.inv r.past a t.fine) (refl, refl)

  -- one report of each, where all have one place
  module _ (one : (c : ℕ) → works (state_of gw c) ≡ true → (cabinet gw c).phase.alarm ≡ (cabinet gw a).phase.alarm) where
    abbrev AskedAt : List ℕ → Type 0
    AskedAt cs = Asked total gw r.ghost r.inv a t one (since_wait total w) cs w

    asked_first : (cs : List ℕ) → OneOfEach gw cs → AskedAt cs
    asked_first cs each = record {
      during = at_wait;
      own = λ c. refl;
      cab = λ d. refl;
      mark = λ d wd.
          no_marks_lem gw none (coordinator (cabinet gw a)) (k_error total gw r.ghost r.inv a t.fine one) d
          ∙ sym (ap (λ (n : ℕ). eqb n 0) (each d ∙ ap (λ (b : Bool). cond b 1 0) wd));
      count = refl;
    }

    one_of_each : (cs : List ℕ) → OneOfEach gw cs → Reported total gw r.ghost r.inv a t one (since_wait total w) cs w
    unfolding times
    one_of_each [] each = absurd (omega (arith, each a ∙ ap (λ (b : Bool). cond b 1 0) works_a))
    one_of_each (c ∷ cs) each =
        all_reported total gw r.ghost r.inv a t one (since_wait total w) c cs w (asked_first (c ∷ cs) each) (λ d. omega (arith, each d))

same_known : (x y : Save) → x.by ≡ y.by → x.cut ≡ y.cut → x.known ≡ y.known → x ≡ y
same_known x y by cut known = λ i. record { by = by i; cut = cut i; known = known i }

pub no_clock : NoClock
no_clock f of e w reached a t none xs ox u ended cs each =
    let total = feeder_total f in
    let runs = runs_of total w (reached_good f of e w reached) t.running in
    let end = to_end (since_wait total w) xs (waited w a) (after_wait total w runs a t none) ox u ended in
    let all = one_of_each total w runs a t none (λ c wc. end.2 c a wc (works_a total w runs a t none)) cs each in
    record {
      restored = subst (λ (m : ℕ). Restored m total u.history u.group) (waited_n w.group a ∙ reached_n f of e w reached) end.0;
      taken = all.0;
      decided = all.1;
      same = λ ys oy z ends.
          let later = to_end (since_wait total w) ys (run w (map report cs)) all.2 oy z ends in (
            subst (λ (m : ℕ). Restored m total z.history z.group) (run_n (map report cs) w ∙ reached_n f of e w reached) later.0,
            same_known (latest u.history) (latest z.history) (end.1.0.0 ∙ sym later.1.0.0) (end.1.0.1 ∙ sym later.1.0.1) (end.1.1 ∙ sym later.1.1),
          );
    }

pub no_clock_before : NoClockBefore
no_clock_before f of e w b a t = let r = before_unreported f of e w b in no_clock f of e w r.0 a t r.1
