-- Kind 13, trip, where it is no third one: a cabinet trips, the commit of a save that it alone knew of is undone, and its neighbours enter error.
use Rattle.std.specs.Prelude.{Some}
use Prim.Native.Nat.{ℕ, ◌<◌}
use mathlib.Core.Path.{◌≡◌, refl, sym, ap, ◌∙◌, subst}
use mathlib.Core.Logic.{◌≢◌, inl, inr}
use mathlib.Core.Bool.{Bool, true, false, not, ◌&&◌, ◌||◌, false≢true, true≢false}
use lib.ListN.{set}
use lib.Dec.{eqb}
use borrow.Author.Tests.{eq-eqb, ne_eqb}
use native.Mathlib.Omega.{arith}
use native.Mathlib.Decide.{ℕ_discrete}
use Rattle.marks.specs.Reach.{connected}
use Rattle.outlet.specs.declared.Party.{Party}
use Rattle.packet.specs.declared.Place.{Place}
use Rattle.packet.specs.declared.Place.TheVariants.{Tripped as AtTripped}
use Rattle.state.specs.declared.State.{State}
use Rattle.state.specs.declared.State.TheVariants.{Checkpointing, Checkpointed, Error}
use Rattle.state.specs.declared.Version.TheVariants.{Lost}
use Rattle.state.specs.State.{is_in, works, in_recovery, in_saving}
use Rattle.table.specs.Table.{is_at}
use Rattle.cabinet.specs.Cabinet.{coordinator}
use Rattle.store.specs.Store.{is_last}
use Rattle.group.specs.declared.Group.{Group}
use Rattle.group.specs.Group.{cabinet, state_of, outgoing, line, rows_of, working, with_trips_of, some, recovering_ones}
use Rattle.protocol.specs.Moves.{leave, trip, alarm_to}
use Rattle.protocol.specs.Kinds.{trip_crashes}
use Rattle.protocol.specs.History.{History, note_passed, note_cuts}
use Rattle.claims.proofs.State.Fun.{never, is_true, is_false, and_true, and_intro, upd_elim, upd_same}
use Rattle.claims.proofs.State.Every.{ok_trip}
use Rattle.claims.proofs.State.View.{View, Own, Side, used, view}
use Rattle.claims.proofs.State.Shape.{Shaped, Lined, Pictured, shaped}
use Rattle.claims.proofs.State.Sim.{Fit}
use Rattle.claims.proofs.State.Methods.{s_alarmed}
use Rattle.claims.proofs.State.ViewMoves.{sim_tripped, view_counted, fit_counted}
use Rattle.claims.proofs.Answers.Tests.{in_state}
use Rattle.claims.proofs.Invariant.States.{place_same, saving_works, error_recovers}
use Rattle.claims.proofs.Invariant.Facts.{Ghost}
use Rattle.claims.proofs.Invariant.Whole.{Core, Inv, PlacesOf, MeetsOf, Place-of, tripped, work_of, aware_of, alarm_of, tab_of, lk_of}
use Rattle.claims.proofs.Invariant.Past.{Past, Kept, no_cuts}
use Rattle.claims.proofs.Invariant.Words.{aware_recovers}
use Rattle.claims.proofs.Invariant.Reaching.{Reach}
use Rattle.claims.proofs.Invariant.Staying.{stays_none}
use Rattle.claims.proofs.Moves.FirstFault.{g_faulted}
use Rattle.claims.proofs.Moves.ErrorSeen.{strike_used}
use Rattle.claims.proofs.Moves.Leaving.{Left, store_leaves, state_left, lead_left, working_left, calm_left, sound_left, past_left, from_left}
use Rattle.claims.proofs.Moves.Unopened as openly
use Rattle.claims.proofs.Moves.Undoing.{g_lost, g_undo}
use Rattle.claims.proofs.Moves.Alarming.{Alarmed, near, g_said, alarm_all}
use Rattle.claims.proofs.Moves.Failing.{rest_reached, uncut}
use Rattle.claims.proofs.Moves.FailPlaces.{below_eight}
use Rattle.claims.proofs.Moves.FailStep.{past_big, kept_known, kept_other, past_undone, fail_reach}
use Rattle.claims.proofs.Moves.Tripping.{tripped as v_down, tripped_seen, trip_works, other_own, trip_own, trip_unused, tripped_other, tripped_chief, tripped_undone}

split_or : (x y z w : Bool) → (x || (y || (z && not w))) ≡ false → (x ≡ false) × (y ≡ false) × (z ≡ true → w ≡ true)
split_or true y z w e = absurd (true≢false e)
split_or false true z w e = absurd (true≢false e)
split_or false false true true e = (refl, refl, λ f. refl)
split_or false false true false e = absurd (true≢false e)
split_or false false false w e = (refl, refl, λ f. absurd (false≢true f))

module _ (total : Party → ℕ) (g : Group) (h : History) (γ : Ghost) (fit : Fit g) (i : Inv g.n total (view g) γ) (past : Past g.n (view g) γ h)
    (a : ℕ) (la : a < 8) (an : a < g.n) (up : work_of (view g) a ≡ true)
    (checks : (((view g).own a).present ≡ false) × (some (recovering_ones g) ≡ false)
    × (eqb (coordinator (cabinet g a)) a ≡ true → connected (rows_of g.sound) (set (working g) a false) ≡ true)) where
  abbrev v : View
  v = view g

  abbrev q : Place
  q = AtTripped a

  abbrev g1 : Group
  g1 = trip g a

  abbrev g' : Group
  g' = alarm_to 8 g1 a q

  abbrev h' : History
  h' = note_passed h a

  pub nobody : (c : ℕ) → in_recovery (v.own c).state ≡ false
  nobody = openly.nobody total g γ fit i checks.1

  unfaulted : γ.big.faulted ≡ false
  unfaulted = openly.unfaulted total g γ fit i checks.1

  present : (c : ℕ) → (γ.mind c).tab ≡ true → work_of v c ≡ true
  present = openly.present total g γ fit i checks.1

  alive : γ.big.alive ≡ true
  alive = openly.alive total g γ fit i checks.1

  another : (j : ℕ) × (j ≢ a) × (work_of v j ≡ true)
  another = openly.another total g γ fit i checks.1 a an checks.0

  flipped : Core g.n total v (g_faulted γ)
  flipped = openly.flipped total g γ fit i checks.1

  pub seen : view g1 ≡ v_down v a
  seen = sim_tripped g fit a la ∙ tripped_seen v a

  below : (c : ℕ) → work_of v c ≡ true → c < 8
  below = below_eight g.n total a v γ i unfaulted up another nobody

  -- ---- the tripped cabinet and the others

  works_down : (c : ℕ) → work_of (v_down v a) c ≡ work_of v c
  works_down = trip_works g.n total v (g_faulted γ) flipped nobody refl a up (λ d. i.meets a d up)

  pub own_down : (c : ℕ) → c ≢ a → (v_down v a).own c ≡ v.own c
  own_down = other_own g.n total v (g_faulted γ) flipped nobody refl a up (λ d. i.meets a d up)

  -- it is in error and has no version
  pub down_own : (((view g1).own a).state ≡ Error) × (((view g1).own a).version ≡ Lost)
  down_own =
      let e = ap (λ (u : View). u.own a) seen ∙ trip_own g.n total v (g_faulted γ) flipped nobody refl a up (λ d. i.meets a d up) in
      (ap (λ (o : Own). o.state) e, ap (λ (o : Own). o.version) e)

  used_down : (c d : ℕ) → used ((v_down v a).side c d) ≡ true → used (v.side c d) ≡ true
  used_down c d =
      upd_elim (λ (s : ℕ → Side). used (s d) ≡ true → used (v.side c d) ≡ true) v.side a (λ d. s_alarmed q a d (v.side a d)) c
      (λ e u. ap (λ (j : ℕ). used (v.side j d)) e ∙ strike_used q a d (v.side a d) u) (λ n u. u)

  -- a neighbour is another cabinet: it was not in error
  pub near_other : (c : ℕ) → near (v_down v a) a c ≡ true → c ≢ a
  near_other c e f =
      never (subst (λ (j : ℕ). used ((v_down v a).side j a) ≡ true) f (and_true {s = work_of (v_down v a) c} e).1)
      (trip_unused g.n total v (g_faulted γ) flipped nobody refl a up (λ d. i.meets a d up))

  none_near : (c : ℕ) → near (v_down v a) a c ≡ true → (in_recovery ((v_down v a).own c).state ≡ false) × (is_at q c ≡ false)
  none_near c e =
      let d = near_other c e in
      (ap (λ (o : Own). in_recovery o.state) (own_down c d) ∙ nobody c, ne_eqb a c (λ f. d (sym f)))

  meets_down : (c d : ℕ) → work_of (v_down v a) c ≡ true → used ((v_down v a).side c d) ≡ true → work_of (v_down v a) d ≡ true
  meets_down c d w u = works_down d ∙ i.meets c d (sym (works_down c) ∙ w) (used_down c d u)

  -- ---- what is left once the ghost after the trip is settled

  module _ (δ : Ghost) (core : Core g.n total (v_down v a) δ) (faulted : δ.big.faulted ≡ true)
      (tabs : (c : ℕ) → (δ.mind c).tab ≡ (γ.mind c).tab) (links : (c d : ℕ) → (δ.wire c d).lk ≡ (γ.wire c d).lk)
      (left : (w : View) (t : Bool) → ((j : ℕ) → work_of w j ≡ true → work_of v j ≡ true)
      → ((j : ℕ) → is_in (w.own j).state Checkpointed ≡ true → is_in (v.own j).state Checkpointed ≡ true) → Past g.n w (g_said δ t) h') where
    alarmed : Alarmed g.n total 8 a q (v_down v a) δ (view g')
    alarmed =
        subst (λ (u : View). Alarmed g.n total 8 a q u δ (view g')) seen
        (alarm_all g.n total a q g1 (ok_trip Shaped Lined Pictured shaped g a fit) δ
        (subst (λ (u : View). Core g.n total u δ) (sym seen) core) faulted
        (subst (λ (u : View). (c : ℕ) → near u a c ≡ true → (in_recovery (u.own c).state ≡ false) × (is_at q c ≡ false)) (sym seen) none_near)
        (subst (λ (u : View). (c d : ℕ) → work_of u c ≡ true → used (s_alarmed q c d (u.side c d)) ≡ true → work_of u d ≡ true) (sym seen)
        (λ c d w u. meets_down c d w (strike_used q c d ((v_down v a).side c d) u)))
        8 (omega arith))

    abbrev δ' : Ghost
    δ' = g_said δ alarmed.said

    work_after : (c : ℕ) → work_of (view g') c ≡ work_of v c
    work_after c = alarmed.worked c ∙ works_down c

    own_a : (view g').own a ≡ (v_down v a).own a
    own_a = (alarmed.others a (inr (is_false (near (v_down v a) a a) (λ e. near_other a e refl)))).0

    aware_a : (aware_of (view g') δ' a ≡ true) × (alarm_of (view g') a ≡ Some q)
    aware_a =
        let down = trip_own g.n total v (g_faulted γ) flipped nobody refl a up (λ d. i.meets a d up) in
        (and_intro faulted (ap (λ (o : Own). in_recovery o.state) (own_a ∙ down)), ap (λ (o : Own). o.alarm) (own_a ∙ down))

    -- whoever is aware has that place
    place_of : (c : ℕ) → aware_of (view g') δ' c ≡ true → alarm_of (view g') c ≡ Some q
    place_of c e = elim (ℕ_discrete c a) [
      | yes f ↦ ap (alarm_of (view g')) f ∙ aware_a.1
      | no d ↦
          let n = is_true (near (v_down v a) a c) (λ f.
          never (aware_recovers δ'.big ((view g').own c) e) (ap (λ (o : Own). in_recovery o.state) ((alarmed.others c (inr f)).0 ∙ own_down c d) ∙ nobody c)) in
          (alarmed.told c (below c (sym (works_down c) ∙ (and_true {s = work_of (v_down v a) c} n).0)) n).1
    ]

    places : PlacesOf (view g') δ'
    places = record {
      standing = λ e. absurd (never faulted e);
      failed_for = λ x t w. absurd (never (work_after x ∙ present x (sym (tabs x) ∙ t)) w);
      faulty_for = λ x y l m e.
          absurd (never (sym (links x y) ∙ m) (i.places.standing unfaulted x y ∙ ap (λ (s : ℕ → ℕ → Bool). s x y) (sym alarmed.sound) ∙ e));
      someone = λ e. (a, aware_a.0);
      from_one = λ c e p f.
          subst (Place-of (work_of (view g')) (tab_of δ') (aware_of (view g') δ') (alarm_of (view g')) (lk_of δ') (view g').sound)
          (place_same (sym (place_of c e) ∙ f)) (tripped a aware_a.0 aware_a.1);
    }

    meets_after : MeetsOf (view g')
    meets_after c d w u = go (near (v_down v a) a c) refl
      where
        before : work_of (v_down v a) c ≡ true
        before = sym (alarmed.worked c) ∙ w

        go : (t : Bool) → near (v_down v a) a c ≡ t → work_of (view g') d ≡ true
        go true f =
            let s = ap used (sym ((alarmed.told c (below c (sym (works_down c) ∙ before)) f).2 d)) ∙ u in
            alarmed.worked d ∙ meets_down c d before (strike_used q c d ((v_down v a).side c d) s)
        go false f = alarmed.worked d ∙ meets_down c d before (ap (λ (x : ℕ → Side). used (x d)) (sym (alarmed.others c (inr f)).1) ∙ u)

    -- no cabinet has its cut in the step, nor comes to wait
    no_new : (s : State) → in_saving s ≡ true → (c : ℕ) → is_in (state_of g' c) s ≡ true → is_in (state_of g c) s ≡ true
    no_new s saves c e = elim (ℕ_discrete c a) [
      | yes f ↦ absurd (never (and_true {s = δ'.big.faulted} aware_a.0).1
          (ap (λ (j : ℕ). in_recovery (state_of g' j)) (sym f) ∙ ap in_recovery state_is ∙ (saving_works s saves).1))
      | no d ↦ go d (near (v_down v a) a c) refl
    ]
      where
        state_is : state_of g' c ≡ s
        state_is = (in_state (state_of g' c) s).0 e

        go : c ≢ a → (t : Bool) → near (v_down v a) a c ≡ t → is_in (state_of g c) s ≡ true
        go d true f =
            let l = below c (sym (works_down c) ∙ (and_true {s = work_of (v_down v a) c} f).0) in
            absurd (never (alarmed.told c l f).0 (ap in_recovery state_is ∙ (saving_works s saves).1))
        go d false f = ap (λ (x : Own). is_in x.state s) (sym ((alarmed.others c (inr f)).0 ∙ own_down c d)) ∙ e

    -- nobody's report stands at one that entered error
    no_reports : (c : ℕ) → is_in (state_of g' c) Error ≡ true → (d : ℕ) → ((view g').side c d).unsure ≡ false
    no_reports c e d = go (near (v_down v a) a c) refl
      where
        go : (t : Bool) → near (v_down v a) a c ≡ t → ((view g').side c d).unsure ≡ false
        go true f =
            let l = below c (sym (works_down c) ∙ (and_true {s = work_of (v_down v a) c} f).0) in
            ap (λ (s : Side). s.unsure) ((alarmed.told c l f).2 d)
        go false f = elim (ℕ_discrete c a) [
          | yes q ↦ ap (λ (s : ℕ → Side). (s d).unsure) (alarmed.others c (inr f)).1 ∙ ap (λ (j : ℕ). ((v_down v a).side j d).unsure) q
              ∙ ap (λ (s : ℕ → Side). (s d).unsure) (upd_same v.side a (λ j. s_alarmed (AtTripped a) a j (v.side a j)))
          | no n ↦ absurd (never (error_recovers (state_of g' c) e) (ap (λ (x : Own). in_recovery x.state) ((alarmed.others c (inr f)).0 ∙ own_down c n) ∙ nobody c))
        ]

    settled : Kept total g γ g' (note_cuts h' g g')
    settled = record {
      ghost = δ';
      inv = record { core = alarmed.core; places = places; meets = meets_after };
      past = rw (no_cuts h' g g' (no_new Checkpointing refl)) (left (view g') alarmed.said (λ j e. sym (work_after j) ∙ e) (no_new Checkpointed refl));
      stays = stays_none v γ (view g') δ' nobody (λ c f. work_after c ∙ f) no_reports;
    }

  -- ---- by what the ghost makes of it

  module _ (chief : a ≡ γ.big.chief) where
    its_own : eqb (coordinator (cabinet g a)) a ≡ true
    its_own = eq-eqb _ a ((flipped.leads a).steady (and_intro up (ap not (nobody a))) ∙ sym chief)

    others_reached : Reach (λ c. tab_of γ c && not (eqb c γ.big.chief)) (lk_of γ)
    others_reached =
        rest_reached g.n total v (g_faulted γ) flipped nobody refl a checks.0
        (fail_reach g a la i.core.ground.sound_both below (checks.2 its_own)) alive present chief

    no_cut : γ.big.adopted ≡ false → (γ.mind γ.big.chief).done ≡ false
    no_cut =
        uncut g.n total v (g_faulted γ) flipped nobody refl a checks.0
        (fail_reach g a la i.core.ground.sound_both below (checks.2 its_own)) alive present chief

    keeps_chief : (t : Bool) → γ.big.adopted ≡ t → Kept total g γ g' (note_cuts h' g g')
    keeps_chief true e =
        settled (g_lost (g_faulted γ))
        (tripped_chief g.n total v (g_faulted γ) flipped nobody refl a up (λ d. i.meets a d up) alive present chief others_reached checks.0 e
        (λ j d w. i.core.chain.company j d w (inl (unfaulted, e))))
        refl (λ c. refl) (λ c d. refl)
        (λ w t f s. rw (kept_known g.n v γ h past a e)
        (past_big g.n v w γ (g_said (g_lost (g_faulted γ)) t).big h refl refl refl refl (λ x. absurd (false≢true x)) f s past))
    keeps_chief false e =
        settled (g_undo (g_faulted γ))
        (tripped_undone g.n total v (g_faulted γ) flipped nobody refl a up (λ d. i.meets a d up) alive present chief others_reached checks.0 e (no_cut e))
        refl (λ c. refl) (λ c d. refl)
        (λ w t f s. past_undone g.n v γ h past a e chief another.0 (λ x. another.1 (x ∙ sym chief)) another.2 (λ c m. ((i.core.nodes c).gone m).1 e)
        i.core.ground.within w (λ c u. (i.core.nodes c).placed (f c u)) (g_said (g_undo (g_faulted γ)) t).big refl refl refl)

  keeps_left : Kept total g γ g' (note_cuts h' g g')
  keeps_left = elim (ℕ_discrete a γ.big.chief) [
    | yes e ↦ keeps_chief e γ.big.adopted refl
    | no d ↦ settled (g_faulted γ)
        (tripped_other g.n total v (g_faulted γ) flipped nobody refl a up (λ d. i.meets a d up) alive present d)
        refl (λ c. refl) (λ c d. refl)
        (λ w t f s. rw (kept_other g.n v γ h past a d) (past_big g.n v w γ (g_said (g_faulted γ) t).big h refl refl refl refl (λ e. e) f s past))
  ]

-- ---- the step

module _ (total : Party → ℕ) (g : Group) (h : History) (γ : Ghost) (fit : Fit g) (i : Inv g.n total (view g) γ) (past : Past g.n (view g) γ h)
    (a : ℕ) (la : a < 8) (an : a < g.n) (up : work_of (view g) a ≡ true) (fine : trip_crashes g a ≡ false) (k : ℕ) where
  found : (is_last g.store a ≡ false) × (some (recovering_ones g) ≡ false)
      × (eqb (coordinator (cabinet g a)) a ≡ true → connected (rows_of g.sound) (set (working g) a false) ≡ true)
  found =
      split_or (is_last g.store a) (some (recovering_ones g)) (eqb (coordinator (cabinet g a)) a) (connected (rows_of g.sound) (set (working g) a false)) fine

  -- the counts of trips are no part of what is seen
  abbrev gk : Group
  gk = with_trips_of g a k

  abbrev fit_k : Fit gk
  fit_k = fit_counted g a k fit

  inv_k : Inv gk.n total (view gk) γ
  unfolding with_trips_of
  inv_k = subst (λ (u : View). Inv g.n total u γ) (sym (view_counted g a k)) i

  past_k : Past gk.n (view gk) γ h
  unfolding with_trips_of
  past_k = subst (λ (u : View). Past g.n u γ h) (sym (view_counted g a k)) past

  pub none_recovers : (c : ℕ) → in_recovery ((view g).own c).state ≡ false
  none_recovers = openly.nobody total g γ fit i found.1

  found_calm : some (recovering_ones gk) ≡ false
  unfolding with_trips_of recovering_ones cabinet
  found_calm = found.1

  found_reach : eqb (coordinator (cabinet gk a)) a ≡ true → connected (rows_of gk.sound) (set (working gk) a false) ≡ true
  unfolding with_trips_of working cabinet
  found_reach = found.2

  an_k : a < gk.n
  unfolding with_trips_of
  an_k = an

  up_k : works (state_of gk a) ≡ true
  unfolding with_trips_of cabinet
  up_k = up

  -- what is owed of the group with the counts is owed of the group
  back_k : (g' : Group) → Kept total gk γ g' (note_cuts (note_passed h a) gk g') → Kept total g γ g' (note_cuts (note_passed h a) g g')
  unfolding with_trips_of cabinet outgoing line
  back_k g' k = record { ghost = k.ghost; inv = k.inv; past = k.past; stays = k.stays }

  pub gone : Left total gk γ a
  unfolding with_trips_of cabinet
  gone = store_leaves total gk γ fit_k inv_k a la found.0 none_recovers

  -- the group without the store, and what was found, in it
  abbrev pub g_l : Group
  g_l = leave gk a

  pub past1 : Past g_l.n (view g_l) γ h
  past1 = past_left total gk γ a gone past_k

  pub an1 : a < g_l.n
  an1 = subst (λ (n : ℕ). a < n) (sym gone.number) an_k

  pub up1 : work_of (view g_l) a ≡ true
  up1 = ap works (state_left total gk γ a gone a) ∙ up_k

  pub found1 : (((view g_l).own a).present ≡ false) × (some (recovering_ones g_l) ≡ false)
      × (eqb (coordinator (cabinet g_l a)) a ≡ true → connected (rows_of g_l.sound) (set (working g_l) a false) ≡ true)
  found1 = (
    gone.absent,
    calm_left total gk γ a gone found_calm,
    λ e. rw (working_left total gk γ a gone, sound_left total gk γ a gone) (found_reach (ap (λ (x : ℕ). eqb x a) (sym (lead_left total gk γ a gone a)) ∙ e)),
  )

  abbrev after : Group
  after = alarm_to 8 (trip g_l a) a (AtTripped a)

  pub keeps_trip : Kept total g γ after (note_cuts (note_passed h a) g after)
  keeps_trip =
      back_k after (from_left total gk γ a gone after (note_passed h a) (keeps_left total g_l h γ gone.fit gone.inv past1 a la an1 up1 found1))
