-- Kind 14, unsure: the report alone keeps the invariant; where it is the last one, nobody knows its version and the coordinator is lost, so
-- that the one that leads goes on with its old version.
use Prim.Native.Nat.{ℕ, ◌<◌}
use mathlib.Core.Path.{◌≡◌, refl, sym, ap, ◌∙◌, subst, fun_ext}
use mathlib.Core.Logic.{◌≢◌}
use mathlib.Core.Bool.{Bool, true, false, not, ◌&&◌}
use mathlib.Core.List.{List}
use native.Mathlib.Omega.{arith}
use native.Mathlib.Decide.{ℕ_discrete}
use Rattle.marks.specs.Marks.{marked, covers}
use Rattle.marks.specs.MarksLaws.{covers_has}
use Rattle.outlet.specs.declared.Party.{Party}
use Rattle.packet.specs.declared.Packet.{Packet}
use Rattle.state.specs.declared.State.{State}
use Rattle.state.specs.declared.State.TheVariants.{Error, Recovering}
use Rattle.state.specs.declared.Version.TheVariants.{Unknown}
use Rattle.state.specs.State.{is_in, in_recovery, is_unknown, bit_of}
use Rattle.settled.specs.declared.Reason.TheVariants.{Decided}
use Rattle.cabinet.specs.Cabinet.{coordinator}
use Rattle.group.specs.declared.Group.{Group}
use Rattle.group.specs.Group.{cabinet, state_of, settle}
use Rattle.protocol.specs.Moves.{recover_with}
use Rattle.protocol.specs.Kinds.{need, is_unsure, takes_unsure, unsure_refusal, report_unsure, decide_if_all}
use Rattle.protocol.specs.History.{History, note_cuts}
use Rattle.claims.proofs.State.Fun.{never, is_true, is_false, and_true, and_intro, not_true_false, cond_elim, kept_at, upd_same, upd_other, upd_pair, pair_same, pair_other}
use Rattle.claims.proofs.State.Every.{passed, with_cabinet_lem}
use Rattle.claims.proofs.State.View.{View, Own, Side, view}
use Rattle.claims.proofs.State.Shape.{Shaped, Lined, Pictured, shaped}
use Rattle.claims.proofs.State.Sim.{Fit}
use Rattle.claims.proofs.State.Methods.{s_marks}
use Rattle.claims.proofs.State.ViewMoves.{v_unsure, view_settle, sim_unsure}
use Rattle.claims.proofs.Answers.Tests.{in_state}
use Rattle.claims.proofs.Invariant.States.{error_recovers}
use Rattle.claims.proofs.Invariant.Facts.{Big, Mind, Wire, Ghost, Pair, aware}
use Rattle.claims.proofs.Invariant.Whole.{Inv, work_of, aware_of}
use Rattle.claims.proofs.Invariant.Staying.{Goes, Reports, phase_same, goes_same, error_aware, no_fault_lem}
use Rattle.claims.proofs.Invariant.Past.{Past, Went, past_still, quiet_of}
use Rattle.claims.proofs.Invariant.Words.{aware_works}
use Rattle.claims.proofs.Invariant.Marking.{mark_inv}
use Rattle.claims.proofs.Moves.FirstFault.{g_frozen}
use Rattle.claims.proofs.Moves.ErrorSeen.{v_recover, sim_recover'}
use Rattle.claims.proofs.Moves.Recovering.{frozen_past, past_going, goes_going}
use Rattle.claims.proofs.Moves.Deciding.{chief_lost, led_on, heir_below, heir_other, old_is_top, decided_inv}
use Rattle.claims.proofs.Moves.Ending.{misses}

-- ---- the mark

abbrev s_unsure : Side → Side
s_unsure s = s_marks s s.come s.saved s.restored s.heard true

module _ (b : Big) (c d : ℕ) (o : Own) (m : Mind) (p : Own) (n : Mind) (s t : Side) (l : List Packet) (w : Wire) (h : Pair b c d o m p n s t l w) where
  unsure_from : Pair b c d o m p n (s_unsure s) t l w
  unsure_from = search

  unsure_to : Pair b c d o m p n s (s_unsure t) l w
  unsure_to = search

unsure_inv : (n : ℕ) (total : Party → ℕ) (v : View) (γ : Ghost) → Inv n total v γ → (k a : ℕ) → Inv n total (v_unsure v k a) γ
unsure_inv n total v γ i k a =
    mark_inv n total v γ i k a (s_unsure (v.side k a)) refl (λ t p. unsure_from _ _ _ _ _ _ _ _ _ _ _ p) (λ s p. unsure_to _ _ _ _ _ _ _ _ _ _ _ p)

-- ---- the step

module _ (total : Party → ℕ) (g : Group) (h : History) (γ : Ghost) (w : Fit g) (i : Inv g.n total (view g) γ) (past : Past g.n (view g) γ h)
    (reports : Reports (view g)) (a : ℕ) (la : a < 8) (fine : unsure_refusal g a ≡ 0) where
  abbrev v : View
  v = view g

  abbrev k : ℕ
  k = coordinator (cabinet g a)

  abbrev checks : (is_unsure (cabinet g a) ≡ true) × ((cabinet g a).noted.former ≡ true) × (marked (cabinet g k).noted.unsure a ≡ false) × (is_in (state_of g k) Error ≡ true)
  checks =
      let one = passed (is_unsure (cabinet g a) && (cabinet g a).noted.former) 13 (need (takes_unsure (cabinet g k) a) 19 0) fine in
      let two = and_true {s = is_unsure (cabinet g a)} one.0 in
      let three = and_true {s = not (marked (cabinet g k).noted.unsure a)} (passed (takes_unsure (cabinet g k) a) 18 0 one.1).0 in
      (two.0, two.1, not_true_false three.0, three.1)

  abbrev a_unsure : (is_in (state_of g a) Error ≡ true) × (is_unknown (cabinet g a).phase.version ≡ true)
  a_unsure = and_true {s = is_in (state_of g a) Error} checks.0

  a_aware : aware_of v γ a ≡ true
  a_aware = error_aware v γ (quiet_of i) a a_unsure.0

  k_aware : aware_of v γ k ≡ true
  k_aware = error_aware v γ (quiet_of i) k checks.3

  -- the coordinator is lost, and k leads after it
  lost : γ.big.alive ≡ false
  lost = chief_lost g.n total v γ i a a_aware checks.1

  k_heir : k ≡ γ.big.heir
  k_heir = led_on g.n total v γ i a a_aware checks.1

  pub k_below : k < 8
  k_below = rw k_heir (heir_below g.n total v γ i lost)

  k_other : k ≢ γ.big.chief
  k_other e = heir_other g.n total v γ i lost (sym k_heir ∙ e)

  -- ---- the report

  abbrev g1 : Group
  g1 = report_unsure g a k

  pub seen1 : view g1 ≡ v_unsure v k a
  unfolding report_unsure
  seen1 = sim_unsure g w k a k_below la

  fit1 : Fit g1
  unfolding report_unsure
  fit1 = with_cabinet_lem Shaped Lined Pictured shaped g k _ (shaped.unsure_for (cabinet g k) a (w.cabs k)) w

  inv1 : Inv g.n total (view g1) γ
  inv1 = subst (λ (x : View). Inv g.n total x γ) (sym seen1) (unsure_inv g.n total v γ i k a)

  pub own1 : (c : ℕ) → (view g1).own c ≡ v.own c
  own1 c = ap (λ (x : View). x.own c) seen1 ∙ kept_at (λ (x : Own). x) v.own k (v.own k) refl c

  state1 : (c : ℕ) → state_of g1 c ≡ state_of g c
  state1 c = ap (λ (o : Own). o.state) (own1 c)

  -- the marks: one more
  pub mark_here : ((view g1).side k a).unsure ≡ true
  mark_here = ap (λ (x : View). (x.side k a).unsure) seen1 ∙ ap (λ (s : Side). s.unsure) (pair_same v.side k a _)

  pub mark_there : (c d : ℕ) → (c ≡ k → d ≡ a → ⊥) → ((view g1).side c d).unsure ≡ (v.side c d).unsure
  mark_there c d n = ap (λ (x : View). (x.side c d).unsure) seen1 ∙ ap (λ (s : Side). s.unsure) (pair_other v.side k a _ c d n)

  abbrev From : View → ℕ → ℕ → Type 0
  From u c d = (in_recovery (u.own d).state ≡ true) × ((u.own d).former ≡ true) × ((u.own d).lead ≡ c)

  from1 : (c d : ℕ) → is_in (v.own c).state Error ≡ true → ((view g1).side c d).unsure ≡ true → From v c d
  from1 c d e m = elim (ℕ_discrete c k) [
    | yes p ↦ elim (ℕ_discrete d a) [
      | yes q ↦ rw q (error_recovers (state_of g a) a_unsure.0, checks.1, sym p)
      | no n ↦ reports.from c d e (sym (mark_there c d (λ _ y. n y)) ∙ m)
    ]
    | no n ↦ reports.from c d e (sym (mark_there c d (λ x _. n x)) ∙ m)
  ]

  -- who knows is not a
  knower : (x : ℕ) → is_unknown (v.own x).version ≡ false → x ≢ a
  knower x u e = never a_unsure.1 (ap (λ (j : ℕ). is_unknown (v.own j).version) (sym e) ∙ u)

  reports1 : Reports (view g1)
  reports1 = record {
    from = λ c d e m.
        let f = from1 c d (ap (λ (s : State). is_in s Error) (sym (state1 c)) ∙ e) m in
        (ap in_recovery (state1 d) ∙ f.0, ap (λ (o : Own). o.former) (own1 d) ∙ f.1, ap (λ (o : Own). o.lead) (own1 d) ∙ f.2);
    sure = λ c x e r u.
        let f = reports.sure c x (ap (λ (s : State). is_in s Error) (sym (state1 c)) ∙ e) (ap in_recovery (sym (state1 x)) ∙ r)
        (ap (λ (o : Own). is_unknown o.version) (sym (own1 x)) ∙ u) in (
          f.0,
          ap in_recovery (state1 f.0) ∙ f.1,
          ap (λ (o : Own). is_unknown o.version) (own1 f.0) ∙ f.2,
          mark_there c f.0 (λ _ y. knower f.0 f.2 y) ∙ f.3,
        );
  }

  noted : Went total g γ g1 (note_cuts h g g1)
  noted = record {
    ghost = γ;
    inv = inv1;
    past = past_still g g1 state1 past;
    reports = reports1;
    goes = goes_same v γ (view g1) γ (λ c. phase_same (own1 c)) no_fault_lem;
  }

  -- ---- the decision

  module _ (full : covers (cabinet g1 k).noted.unsure (cabinet g1 k).table.cabinets ≡ true) where
    faulted : γ.big.faulted ≡ true
    faulted = (and_true {s = γ.big.faulted} k_aware).0

    -- every working cabinet is in the table of k, so has its mark there
    all_marked : (c : ℕ) → work_of v c ≡ true → ((view g1).side k c).unsure ≡ true
    all_marked c wc =
        let q = (i.core.nodes k).place_known k_aware in
        let t = (i.core.nodes c).placed wc in
        let cab : (v.side k c).cab ≡ true = ((i.core.pairs k c).struck k_aware q.0 q.1).0 ∙ rw (t, misses q.0 (i.places.from_one k k_aware q.0 q.1) c wc) in
        covers_has (cabinet g1 k).noted.unsure (cabinet g1 k).table.cabinets full c (omega (arith, i.core.ground.within c t, i.core.ground.most))
        (ap (λ (x : View). (x.side k c).cab) seen1
        ∙ upd_pair (λ (s : Side). s.cab ≡ (v.side k c).cab) v.side k a _ k c (λ _ y. ap (λ (j : ℕ). (v.side k j).cab) (sym y)) refl ∙ cab)

    from_all : (c : ℕ) → work_of v c ≡ true → From v k c
    from_all c wc = from1 k c checks.3 (all_marked c wc)

    -- nobody knows: there would be one that knows and has no mark there
    unsure_all : (c : ℕ) → work_of v c ≡ true → is_unknown (v.own c).version ≡ true
    unsure_all c wc = is_true (is_unknown (v.own c).version) (λ u.
        let f = reports.sure k c checks.3 (from_all c wc).0 u in
        let x = and_intro faulted f.1 in
        never (sym (mark_there k f.0 (λ _ y. knower f.0 f.2 y)) ∙ all_marked f.0 (aware_works γ.big (v.own f.0) x)) f.3)

    k_works : work_of v k ≡ true
    k_works = aware_works γ.big (v.own k) k_aware

    pub k_error : state_of g k ≡ Error
    k_error = (in_state (state_of g k) Error).0 checks.3

    pub old : (x : Bool) × ((cabinet g k).phase.version ≡ Unknown x) × (x ≡ γ.big.topv)
    old = old_is_top g.n total v γ i lost unsure_all k k_works k_other

    bit : bit_of (cabinet g1 k).phase.version ≡ γ.big.topv
    bit = ap (λ (o : Own). bit_of o.version) (own1 k) ∙ ap bit_of old.1 ∙ old.2

    aware1 : aware_of (view g1) γ k ≡ true
    aware1 = ap (λ (o : Own). aware γ.big o) (own1 k) ∙ k_aware

    abbrev g2 : Group
    g2 = settle (recover_with g1 k (bit_of (cabinet g1 k).phase.version)) k Decided

    seen2 : view g2 ≡ v_recover (view g1) k γ.big.topv
    seen2 =
        view_settle _ k Decided
        ∙ sim_recover' g.n total g1 γ fit1 inv1.core k (bit_of (cabinet g1 k).phase.version) k_below aware1
        ∙ ap (v_recover (view g1) k) bit

    own_same : (view g1).own ≡ v.own
    own_same = fun_ext own1

    goes2 : Goes v γ (view g2) (g_frozen γ)
    goes2 = goes_going total g h γ (g_frozen γ) g2 (view g1) k γ.big.topv own_same no_fault_lem k_aware seen2 i

    -- k is its own coordinator, so it has no mark at another in error
    left_error : (c : ℕ) → is_in ((view g2).own c).state Error ≡ true → c ≢ k
    left_error c e q =
        never e (ap (λ (j : ℕ). is_in ((view g2).own j).state Error) q ∙ ap (λ (x : View). is_in (x.own k).state Error) seen2
        ∙ ap (λ (o : Own). is_in o.state Error) (upd_same (view g1).own k _))

    pub other2 : (c : ℕ) → c ≢ k → (view g2).own c ≡ v.own c
    other2 c n = ap (λ (x : View). x.own c) seen2 ∙ upd_other (view g1).own k _ c n ∙ own1 c

    known2 : is_unknown ((view g2).own k).version ≡ false
    known2 = ap (λ (x : View). is_unknown (x.own k).version) seen2 ∙ ap (λ (o : Own). is_unknown o.version) (upd_same (view g1).own k _)

    marks2 : (c d : ℕ) → c ≢ k → ((view g2).side c d).unsure ≡ (v.side c d).unsure
    marks2 c d n =
        ap (λ (x : View). (x.side c d).unsure) seen2 ∙ ap (λ (f : ℕ → Side). (f d).unsure) (upd_other (view g1).side k _ c n)
        ∙ mark_there c d (λ x _. n x)

    reports2 : Reports (view g2)
    reports2 = record {
      from = λ c d e m.
          let n = left_error c e in
          let f = reports.from c d (ap (λ (o : Own). is_in o.state Error) (sym (other2 c n)) ∙ e) (sym (marks2 c d n) ∙ m) in
          let o = goes2.on d (and_intro faulted f.0) in
          ((and_true {s = γ.big.faulted} o.0).1, o.3 ∙ f.1, o.2 ∙ f.2);
      sure = λ c x e r u.
          let n = left_error c e in (
            k,
            (and_true {s = γ.big.faulted} (goes2.on k k_aware).0).1,
            known2,
            marks2 c k n ∙ is_false (v.side c k).unsure (λ m.
                n (sym (reports.from c k (ap (λ (o : Own). is_in o.state Error) (sym (other2 c n)) ∙ e) m).2 ∙ (from_all k k_works).2)),
          );
    }

    pub goes_recovering : state_of g2 k ≡ Recovering
    goes_recovering = ap (λ (x : View). (x.own k).state) seen2 ∙ ap (λ (o : Own). o.state) (upd_same (view g1).own k _)

    decided : Went total g γ g2 (note_cuts h g g2)
    decided = record {
      ghost = g_frozen γ;
      inv = subst (λ (x : View). Inv g.n total x (g_frozen γ)) (sym seen2)
          (decided_inv g.n total (view g1) γ inv1 lost k aware1 (state1 k ∙ k_error));
      past = past_going total g h γ (g_frozen γ) g2 (view g1) k γ.big.topv own_same no_fault_lem k_aware seen2 (frozen_past g.n v γ h true past);
      reports = reports2;
      goes = goes2;
    }

  pub keeps_unsure : Went total g γ (decide_if_all g1 k) (note_cuts h g (decide_if_all g1 k))
  unfolding decide_if_all
  keeps_unsure =
      cond_elim (λ (y : Group). Went total g γ y (note_cuts h g y)) (covers (cabinet g1 k).noted.unsure (cabinet g1 k).table.cabinets) decided (λ _. noted)

  pub decided_state : covers (cabinet g1 k).noted.unsure (cabinet g1 k).table.cabinets ≡ true → state_of (decide_if_all g1 k) k ≡ Recovering
  unfolding decide_if_all
  decided_state e = rw e (goes_recovering e)

  pub undecided : covers (cabinet g1 k).noted.unsure (cabinet g1 k).table.cabinets ≡ false → decide_if_all g1 k ≡ g1
  unfolding decide_if_all
  undecided e = rw e
