-- Kind 8, restored: the report alone keeps the invariant, and where it ends the recovery demand 3 holds.
use Rattle.std.specs.Prelude.{Some}
use Prim.Native.Nat.{ℕ, ◌<◌}
use mathlib.Core.Path.{◌≡◌, refl, sym, ap, ◌∙◌, subst}
use mathlib.Core.Logic.{◌≢◌, ◌⊎◌, inl, inr, ⊎_elim}
use mathlib.Core.Bool.{Bool, true, false, cond, not, ◌&&◌, true≢false, false≢true}
use mathlib.Core.Option.{Option, none, some}
use lib.ListN.{length, get_or-eq_default}
use native.Mathlib.Omega.{arith}
use native.Mathlib.Decide.{ℕ_discrete, dec_lt}
use Rattle.marks.specs.Marks.{Marks, marked, covers}
use Rattle.marks.specs.MarksLaws.{covers_has}
use Rattle.outlet.specs.declared.Party.{Party}
use Rattle.packet.specs.declared.Place.{Place}
use Rattle.state.specs.declared.State.{State}
use Rattle.state.specs.declared.State.TheVariants.{Normal, Checkpointing, Error, Recovering, Recovered, Checkpointed}
use Rattle.state.specs.declared.Version.{Version}
use Rattle.state.specs.declared.Version.TheVariants.{Known}
use Rattle.image.specs.declared.Image.{Image}
use Rattle.state.specs.State.{is_in, works, in_restoring, bit_of}
use Rattle.image.specs.Image.{booked}
use Rattle.cabinet.specs.Cabinet.{in_use, coordinator}
use Rattle.group.specs.declared.Group.{Group}
use Rattle.group.specs.Group.{cabinet, with_cabinet, state_of, settle_over}
use Rattle.protocol.specs.Moves.{end_recovery, note_lost}
use Rattle.protocol.specs.Kinds.{may_report, restored_refusal, report_restored, come_back_if_away, end_if_all}
use Rattle.protocol.specs.History.{Cut, History, latest, image_in, lost_now, note_end, note_cuts, ends, goes}
use Rattle.protocol.specs.Restored.{Restored, counted, amperes}
use Rattle.claims.proofs.State.Fun.{never, is_true, is_false, and_true, and_intro, cond_elim, upd_same, upd_other, sum_cong, kept_at, kept_pair}
use Rattle.claims.proofs.State.Every.{passed, with_cabinet_lem, ok_note_lost}
use Rattle.claims.proofs.State.View.{View, Own, Side, view, used}
use Rattle.claims.proofs.State.Leading.{next_over}
use Rattle.claims.proofs.State.Shape.{Shaped, Lined, Pictured, shaped}
use Rattle.claims.proofs.State.Sim.{Fit, in_use_lem}
use Rattle.claims.proofs.State.Methods.{s_cleared, hits_cabinet}
use Rattle.claims.proofs.State.ViewMoves.{Room, view_over, v_resumed, v_restored, sim_restored, sim_resume, Versions, sim_note}
use Rattle.claims.proofs.Answers.Tests.{in_state}
use Rattle.claims.proofs.Invariant.States.{restoring_one, restoring_works, known_is_known}
use Rattle.claims.proofs.Invariant.Facts.{Mind, Ghost, unaware}
use Rattle.claims.proofs.Invariant.Whole.{Inv, work_of, aware_of}
use Rattle.claims.proofs.Invariant.Past.{Past, HeldIn, Kept, Next, OnePlace, kept_next, no_cuts, quiet_of, past_same, cut_held, tops_add}
use Rattle.claims.proofs.Invariant.Words.{un_not_aware, un_or_aware, aware_works, aware_faulted, chief_of, room_aware}
use Rattle.claims.proofs.Invariant.Marking.{past_mind}
use Rattle.claims.proofs.Invariant.Staying.{Reports, reports_none, phase_same, stays_same, no_fault_lem, SamePhase}
use Rattle.claims.proofs.Moves.Rousing.{o_resumed, roused, seen_roused}
use Rattle.claims.proofs.Moves.ComingBack.{Back, comes_back_lem}
use Rattle.claims.proofs.Moves.Restoring.{g_ready, ready_inv, marked_inv, m_ready}
use Rattle.claims.proofs.Moves.EndPairs.{b_end, m_end, w_end}
use Rattle.claims.proofs.Moves.Remembering.{Remembered, remembered}
use Rattle.claims.proofs.Moves.Ending.{the_place, one_place, tabs_at, one_lead, ended_inv, all_aware, all_recovered}

past_row : (m : Marks) (j : ℕ) → length m ≡ 8 → marked m j ≡ true → j < 8
past_row m j e t = elim (dec_lt j 8) [ yes l ↦ l | no n ↦ absurd (never t (get_or-eq_default m false {n = j} (omega arith))) ]

module _ (total : Party → ℕ) (g : Group) (h : History) (γ : Ghost) (w : Fit g) (i : Inv g.n total (view g) γ) (past : Past g.n (view g) γ h)
    (reports : Reports (view g)) (a : ℕ) (la : a < 8) (works_a : works (state_of g a) ≡ true) (fine : restored_refusal g a ≡ 0) where
  abbrev k : ℕ
  k = coordinator (cabinet g a)

  recovered_a : state_of g a ≡ Recovered
  recovered_a = (in_state (state_of g a) Recovered).0 (passed (is_in (state_of g a) Recovered) 13 _ fine).0

  may : may_report (cabinet g a) (cabinet g k) a ≡ true
  may = (passed (may_report (cabinet g a) (cabinet g k) a) 18 0 (passed (is_in (state_of g a) Recovered) 13 _ fine).1).0

  may_parts : (covers (cabinet g a).noted.heard (in_use (cabinet g a)) ≡ true) × (in_restoring (state_of g k) ≡ true)
  may_parts = and_true {s = covers (cabinet g a).noted.heard (in_use (cabinet g a))} (and_true {s = not (marked (cabinet g k).noted.restored a)} may).1

  -- a recovered cabinet that is not aware of a fault has a coordinator in normal or saving
  aware_a : aware_of (view g) γ a ≡ true
  aware_a = ⊎_elim (λ u. absurd (not_calm u)) (λ x. x) (un_or_aware γ.big ((view g).own a) works_a)
    where
      no_fault_lem : unaware γ.big ((view g).own a) ≡ true → γ.big.faulted ≡ false
      no_fault_lem u = is_false γ.big.faulted (λ f. un_not_aware γ.big ((view g).own a) u (and_intro f (rw recovered_a)))

      not_recovered : γ.big.faulted ≡ false → k ≡ γ.big.chief → state_of g k ≡ Recovered → ⊥
      not_recovered f c e = ((i.core.nodes k).in_recovered (rw (f, e)) e).1 c

      not_calm : unaware γ.big ((view g).own a) ≡ true → ⊥
      not_calm u =
          ⊎_elim (λ e. never (ap (λ (s : State). is_in s Recovering) e) ((i.core.nodes k).quiet (no_fault_lem u)).1)
          (not_recovered (no_fault_lem u) (chief_of g.n total g γ i.core a u)) (restoring_one (state_of g k) may_parts.1)

  faulted : γ.big.faulted ≡ true
  faulted = aware_faulted γ.big ((view g).own a) aware_a

  aware_k : aware_of (view g) γ k ≡ true
  aware_k = and_intro faulted (restoring_works (state_of g k) may_parts.1).0

  lk : k < 8
  lk =
      let below = i.core.ground.within k ((i.core.nodes k).placed (aware_works γ.big ((view g).own k) aware_k)) in
      omega (arith, below, i.core.ground.most)

  heard_all : (d : ℕ) → used ((view g).side a d) ≡ true → ((view g).side a d).heard ≡ true
  heard_all d u = elim (dec_lt d 8) [
    | yes l ↦ covers_has (cabinet g a).noted.heard (in_use (cabinet g a)) may_parts.0 d l (in_use_lem (cabinet g a) (w.cabs a) d ∙ u)
    | no n ↦ absurd (n (past_row (cabinet g a).table.links d (w.cabs a).links (and_true {s = ((view g).side a d).link} u).0))
  ]

  abbrev g0 : Group
  g0 = report_restored g a k

  abbrev γ1 : Ghost
  γ1 = g_ready γ a

  seen0 : view g0 ≡ v_restored (view g) k a
  unfolding report_restored
  seen0 = sim_restored g w k a lk la

  inv0 : Inv g.n total (view g0) γ1
  inv0 =
      subst (λ (x : View). Inv g.n total x γ1) (sym seen0)
      (marked_inv g.n total (view g) γ1 (ready_inv g.n total (view g) γ i a aware_a recovered_a heard_all) k a (ap (λ (m : Mind). m.ready) (upd_same γ.mind a _)))

  own0 : (c : ℕ) → (view g0).own c ≡ (view g).own c
  own0 c = ap (λ (x : View). x.own c) seen0 ∙ kept_at (λ (x : Own). x) (view g).own k ((view g).own k) refl c

  fit0 : Fit g0
  unfolding report_restored
  fit0 = with_cabinet_lem Shaped Lined Pictured shaped g k _ (shaped.restored_for (cabinet g k) a (w.cabs k)) w

  n0 : g0.n ≡ g.n
  unfolding report_restored with_cabinet
  n0 = refl

  -- a store that was away is back
  abbrev g1 : Group
  g1 = come_back_if_away g0 a

  back : Back g.n total g0 γ1 a g1
  back = subst (λ (m : ℕ). Back m total g0 γ1 a g1) n0 (comes_back_lem total g0 γ1 fit0 (subst (λ (m : ℕ). Inv m total (view g0) γ1) (sym n0) inv0) a (ap (λ (o : Own). works o.state) (own0 a) ∙ works_a))

  inv1 : Inv g.n total (view g1) γ1
  inv1 = back.inv

  fit1 : Fit g1
  fit1 = back.fit

  n1 : g1.n ≡ g.n
  n1 = back.number ∙ n0

  phase1 : (c : ℕ) → SamePhase ((view g1).own c) ((view g).own c)
  phase1 c =
      let x = back.phase c in
      let e = phase_same (own0 c) in
      (x.0 ∙ e.0, x.1 ∙ e.1, x.2 ∙ e.2, x.3 ∙ e.3, x.4 ∙ e.4)

  state1 : (c : ℕ) → state_of g1 c ≡ state_of g c
  state1 c = (phase1 c).0

  past1 : Past g.n (view g1) γ1 h
  past1 = past_same state1 (past_mind g.n (view g) γ h past a (m_ready (γ.mind a)) refl refl refl refl refl refl)

  -- ---- where the report was not the last one

  pub reported_only : Kept total g γ g1 (note_cuts h g g1)
  reported_only = record {
    ghost = γ1;
    inv = inv1;
    past = rw (no_cuts h g g1 (λ c e. ap (λ (s : State). is_in s Checkpointing) (sym (state1 c)) ∙ e)) past1;
    stays = stays_same (view g) γ (quiet_of i) (view g1) γ1 phase1
        (λ c d. back.unsure c d ∙ ap (λ (x : View). (x.side c d).unsure) seen0 ∙ kept_pair (λ (s : Side). s.unsure) (view g).side k a _ refl c d) no_fault_lem;
  }

  -- ---- where it was

  abbrev last : Bool
  last = is_in (state_of g1 k) Recovered && covers (cabinet g1 k).noted.restored (cabinet g1 k).table.cabinets

  module _ (e : last ≡ true) where
    recovered_1 : state_of g1 k ≡ Recovered
    recovered_1 = (in_state (state_of g1 k) Recovered).0 (and_true {s = is_in (state_of g1 k) Recovered} e).0

    reported_1 : (j : ℕ) → ((view g1).side k j).cab ≡ true → ((view g1).side k j).restored ≡ true
    reported_1 j c =
        covers_has (cabinet g1 k).noted.restored (cabinet g1 k).table.cabinets (and_true {s = is_in (state_of g1 k) Recovered} e).1 j
        (past_row (cabinet g1 k).table.cabinets j (fit1.cabs k).cabs c) c

    aware_1 : aware_of (view g1) γ1 k ≡ true
    aware_1 = and_intro faulted (rw recovered_1)

    -- the place that k entered error for, and its note

    abbrev at : (q : Place) × (((view g1).own k).alarm ≡ Some q)
    at = the_place g.n total (view g1) γ1 inv1 k aware_1 reported_1

    abbrev g_n : Group
    g_n = note_lost g1 k

    seen_n : Versions (view g1) (view g_n)
    seen_n = sim_note g1 fit1 k

    note_n : Remembered g.n total (view g1) γ1 k at.0 (view g_n)
    note_n =
        subst (λ (m : ℕ). Remembered m total (view g1) γ1 k at.0 (view g_n)) n1
        (remembered total g1 γ1 fit1 (subst (λ (m : ℕ). Inv m total (view g1) γ1) (sym n1) inv1) k aware_1 at.0 at.1)

    inv_n : Inv g.n total (view g_n) γ1
    inv_n = note_n.inv

    fit_n : Fit g_n
    fit_n = ok_note_lost Shaped Lined Pictured shaped g1 k fit1

    state_1 : (c : ℕ) → state_of g_n c ≡ state_of g1 c
    state_1 c = ap (λ (o : Own). o.state) (seen_n.own c).1

    state_n : (c : ℕ) → state_of g_n c ≡ state_of g c
    state_n c = state_1 c ∙ state1 c

    past_n : Past g.n (view g_n) γ1 h
    past_n = past_same state_1 past1

    recovered_k : state_of g_n k ≡ Recovered
    recovered_k = state_1 k ∙ recovered_1

    all_reported : (j : ℕ) → ((view g_n).side k j).cab ≡ true → ((view g_n).side k j).restored ≡ true
    all_reported j c =
        ap (λ (s : Side). s.restored) (seen_n.sides k j) ∙ reported_1 j (ap (λ (s : Side). s.cab) (sym (seen_n.sides k j)) ∙ c)

    aware_n : aware_of (view g_n) γ1 k ≡ true
    aware_n = and_intro faulted (rw recovered_k)

    -- who failed since the last recovery's end is that place, and k knows the version of the save
    note : (d : ℕ) → (γ1.mind d).tab ≡ true → work_of (view g_n) d ≡ false → bit_of ((view g_n).own d).version ≡ γ1.big.topv
    note d t w =
        let hit = tabs_at g.n total (view g1) γ1 inv1 k aware_1 reported_1 d ∙ sym (ap works (state_1 d)) ∙ w in
        let y = known_is_known ((view g1).own k).version ((inv1.core.nodes k).unknown_aware aware_1 ∙ ap (λ (s : State). is_in s Error) recovered_1) in
        ap bit_of (note_n.note d (hit_of t hit))
        ∙ (inv1.core.nodes k).known (ap works recovered_1) (bit_of ((view g1).own k).version) y
      where
        hit_of : (γ1.mind d).tab ≡ true → ((γ1.mind d).tab && not (hits_cabinet at.0 d)) ≡ false → hits_cabinet at.0 d ≡ true
        hit_of t f = is_true (hits_cabinet at.0 d) (λ n. never (and_intro t (ap not n)) f)

    work_a : work_of (view g_n) a ≡ true
    work_a = ap works (state_n a) ∙ works_a

    lead_a : ((view g_n).own a).lead ≡ k
    lead_a =
        ap (λ (o : Own). o.lead) (seen_n.own a).1 ∙ (phase1 a).3

    led : (j : ℕ) → work_of (view g_n) j ≡ true → ((view g_n).own j).lead ≡ k
    led j x = one_lead g.n total (view g_n) γ1 inv_n k aware_n all_reported j a x work_a ∙ lead_a

    work_k : work_of (view g_n) k ≡ true
    work_k = rw recovered_k

    abbrev x : Version
    x = (cabinet g_n k).phase.version

    abbrev g2 : Group
    g2 = settle_over (end_recovery g_n k)

    room_n : Room (v_resumed (view g_n) k x) k
    room_n d u =
        room_aware g.n total (view g_n) γ1 inv_n.core k aware_n d
        (sym (ap (λ (f : ℕ → Side). used (f d)) (upd_same (view g_n).side k (λ b. s_cleared ((view g_n).side k b)))) ∙ u)

    seen2 : view g2 ≡ roused (view g_n) k x
    unfolding end_recovery
    seen2 = view_over _ ∙ sim_resume g_n fit_n k x lk room_n ∙ seen_roused (view g_n) k x

    abbrev γ2 : Ghost
    γ2 = record { big = b_end γ.big k (next_over (work_of (view g_n)) k); mind = λ c. m_end (γ1.mind c) (work_of (view g_n) c); wire = λ c d. w_end ((view g_n).sound c d) }

    inv2 : Inv g.n total (view g2) γ2
    inv2 =
        subst (λ (y : View). Inv g.n total y γ2) (sym seen2)
        (ended_inv g.n total (view g_n) γ1 inv_n k aware_n all_reported led note)

    pub state2 : (c : ℕ) → c ≢ k → state_of g2 c ≡ state_of g c
    state2 c d = ap (λ (y : View). (y.own c).state) seen2 ∙ ap (λ (o : Own). o.state) (upd_other (view g_n).own k (o_resumed ((view g_n).own k) x) c d) ∙ state_n c

    pub normal_k : state_of g2 k ≡ Normal
    normal_k = ap (λ (y : View). (y.own k).state) seen2 ∙ ap (λ (o : Own). o.state) (upd_same (view g_n).own k (o_resumed ((view g_n).own k) x))

    work2 : (c : ℕ) → works (state_of g2 c) ≡ work_of (view g_n) c
    work2 c = elim (ℕ_discrete c k) [
      | yes f ↦ ap (λ (j : ℕ). works (state_of g2 j)) f ∙ ap works normal_k ∙ sym work_k ∙ ap (work_of (view g_n)) (sym f)
      | no d ↦ ap works (state2 c d ∙ sym (state_n c))
    ]

    pub ending : ends g g2 a ≡ true
    ending = and_intro (ap (λ (s : State). is_in s Recovered) (sym (state_n k) ∙ recovered_k)) (ap (λ (s : State). is_in s Normal) normal_k)

    abbrev h2 : History
    h2 = note_end true h g2

    no_new_cut : (c : ℕ) → is_in (state_of g2 c) Checkpointing ≡ true → is_in (state_of g c) Checkpointing ≡ true
    no_new_cut c f = elim (ℕ_discrete c k) [
      | yes q ↦ absurd (never (sym (ap (λ (j : ℕ). is_in (state_of g2 j) Checkpointing) q) ∙ f) (ap (λ (s : State). is_in s Checkpointing) normal_k))
      | no d ↦ ap (λ (s : State). is_in s Checkpointing) (sym (state2 c d)) ∙ f
    ]

    history2 : note_cuts (note_end (ends g g2 a) h g2) g g2 ≡ h2
    history2 = ap (λ (t : Bool). note_cuts (note_end t h g2) g g2) ending ∙ no_cuts h2 g g2 no_new_cut

    -- a failed cabinet's image is the one in the save restored after it failed
    lost_held : (c : ℕ) (m : Image) → HeldIn (h.lost c) ((latest h).cut c) m → (t : Bool) → works (state_of g2 c) ≡ t
        → ((t ≡ true) × HeldIn (h2.lost c) ((latest h).cut c) m) ⊎ ((t ≡ false) × (h2.lost c ≡ some m))
    lost_held c m (inl f) true v = inl (refl, inl (ap (lost_now h g2 c) f))
    lost_held c m (inl f) false v = inr (refl, ap (lost_now h g2 c) f)
    lost_held c m (inr f) true v =
        inl (refl, inr (ap (lost_now h g2 c) f.0 ∙ ap (λ (t : Bool). cond t none (image_in ((latest h).cut c))) v, f.1))
    lost_held c m (inr f) false v =
        inr (
          refl,
          ap (lost_now h g2 c) f.0 ∙ ap (λ (t : Bool). cond t none (image_in ((latest h).cut c))) v
              ∙ ap image_in f.1.1 ∙ ap some f.1.2,
        )

    held_now : (c : ℕ) (m : Image) → HeldIn (h.lost c) ((latest h).cut c) m → HeldIn (h2.lost c) ((latest h).cut c) m
    held_now c m f = ⊎_elim (λ y. y.1) (λ y. inl y.1) (lost_held c m f (works (state_of g2 c)) refl)

    lost_now_lem : (c : ℕ) (m : Image) → HeldIn (h.lost c) ((latest h).cut c) m → works (state_of g2 c) ≡ false → h2.lost c ≡ some m
    lost_now_lem c m f v = ⊎_elim (λ y. absurd (true≢false (sym y.0))) (λ y. y.1) (lost_held c m f false v)

    none_lost : (c : ℕ) → work_of (view g_n) c ≡ true → h2.lost c ≡ none
    none_lost c v =
        ap (lost_now h g2 c) (past_n.present c ((inv_n.core.nodes c).placed v))
        ∙ ap (λ (t : Bool). cond t none (image_in ((latest h).cut c))) (work2 c ∙ v)

    aware_at : (c : ℕ) → work_of (view g_n) c ≡ true → aware_of (view g_n) γ1 c ≡ true
    aware_at = all_aware g.n total (view g_n) γ1 inv_n k aware_n all_reported

    recovered_at : (c : ℕ) → work_of (view g_n) c ≡ true → ((view g_n).own c).state ≡ Recovered
    recovered_at = all_recovered g.n total (view g_n) γ1 inv_n k aware_n all_reported

    kept2 : {A : Type 0} (f : Own → A) → f (o_resumed ((view g_n).own k) x) ≡ f ((view g_n).own k) → (c : ℕ) → f ((view g2).own c) ≡ f ((view g_n).own c)
    kept2 f r c = ap (λ (y : View). f (y.own c)) seen2 ∙ kept_at f (view g_n).own k (o_resumed ((view g_n).own k) x) r c

    none_waits : (c : ℕ) → is_in (state_of g2 c) Checkpointed ≡ true → ⊥
    none_waits c s =
        let e = sym (kept2 (λ (o : Own). is_in o.state Checkpointed) (rw recovered_k) c) ∙ s in
        never e (ap (λ (y : State). is_in y Checkpointed) (recovered_at c (ap works ((in_state ((view g_n).own c).state Checkpointed).0 e))))

    past2 : Past g.n (view g2) γ2 h2
    past2 = record {
      sent = λ c d. refl;
      taken = λ c d. refl;
      damaged = λ y. refl;
      hurt = λ c d. refl;
      cuts = λ y c d. absurd (false≢true d);
      no_cut = λ y f. absurd (false≢true f);
      known = past_n.known ∙ ((inv_n.core.nodes k).restored aware_n recovered_k).1;
      tops = λ c l. held_now c (γ1.mind c).top (past_n.tops c l);
      balanced = past_n.balanced;
      present = none_lost;
      gone = λ c l t. lost_now_lem c (γ1.mind c).top (past_n.tops c l) (work2 c ∙ t);
      beyond = past_n.beyond;
      below = λ f. absurd (true≢false f);
      begun = ⊎_elim (λ f. absurd (false≢true f)) (λ f. absurd (true≢false f));
      waits = λ c s _. absurd (none_waits c s);
    }

    -- ---- demand 3 at the recovery's end

    one_version : (c : ℕ) → work_of (view g_n) c ≡ true → (cabinet g2 c).phase.version ≡ Known γ.big.topv
    one_version c v =
        let y = known_is_known ((view g_n).own c).version ((inv_n.core.nodes c).unknown_aware (aware_at c v) ∙ ap (λ (s : State). is_in s Error) (recovered_at c v)) in
        kept2 (λ (o : Own). o.version) refl c ∙ y ∙ ap Known ((inv_n.core.nodes c).known v (bit_of ((view g_n).own c).version) y)

    image_top : (c : ℕ) → work_of (view g_n) c ≡ true → (cabinet g2 c).image ≡ (γ1.mind c).top
    image_top c v = kept2 (λ (o : Own). o.image) refl c ∙ ((inv_n.core.nodes c).restored (aware_at c v) (recovered_at c v)).0

    counts : (y : Party) (c : ℕ) → c < g.n → amperes y (counted h2 g2 c) ≡ booked y (γ1.mind c).top
    counts y c l = go (work_of (view g_n) c) refl
      where
        go : (t : Bool) → work_of (view g_n) c ≡ t → amperes y (counted h2 g2 c) ≡ booked y (γ1.mind c).top
        go true v =
            let x = cut_held inv_n past_n c v in
            ap (λ (t : Bool). amperes y (cond t (image_in ((latest h).cut c)) (h2.lost c))) (work2 c ∙ v)
            ∙ ap (λ (o : Option Cut). amperes y (image_in o)) x.1 ∙ ap (booked y) x.2
        go false v =
            ap (λ (t : Bool). amperes y (cond t (image_in ((latest h).cut c)) (h2.lost c))) (work2 c ∙ v)
            ∙ ap (amperes y) (lost_now_lem c (γ1.mind c).top (past_n.tops c l) (work2 c ∙ v))

    demand_three : Restored g.n total h2 g2
    demand_three = record {
      version = γ.big.topv;
      known = λ c l v. one_version c (sym (work2 c) ∙ v);
      held = λ c l v.
          let u = sym (work2 c) ∙ v in
          let y = cut_held inv_n past_n c u in
          (y.0, y.1, image_top c u ∙ sym y.2);
      balanced = past_n.balanced;
      lost = λ c l v. ((γ1.mind c).top, lost_now_lem c (γ1.mind c).top (past_n.tops c l) v);
      adds = λ y. sum_cong _ _ g.n (λ c l. counts y c l) ∙ tops_add inv_n past_n y;
    }

    -- they were all in error for one place
    one_alarm : OnePlace (view g)
    one_alarm c d wc wd =
        let at_one : (j : ℕ) → work_of (view g) j ≡ true → ((view g).own j).alarm ≡ Some at.0 = λ j x.
        sym (phase1 j).2 ∙ one_place g.n total (view g1) γ1 inv1 k aware_1 reported_1 j (ap works (state1 j) ∙ x) in
        at_one c wc ∙ sym (at_one d wd)

    pub ended_next : (t : Bool) → Next total g γ g2 (note_cuts (note_end (ends g g2 a) h g2) g g2) t
    ended_next t = record {
      ghost = γ2;
      inv = inv2;
      past = subst (Past g.n (view g2) γ2) (sym history2) past2;
      reports = reports_none (view g2) (λ c f. absurd (never f (quiet_of inv2 c refl)));
      silent = λ _ _ c f. absurd (never f (quiet_of inv2 c refl));
      fate = inr (record { restored = subst (λ (y : History). Restored g.n total y g2) (sym history2) demand_three; known = subst (λ (y : History). (latest y).known ≡ true) (sym history2) past2.known; place = one_alarm; over = refl; gone = λ c f. work2 c ∙ ap works (state_n c) ∙ f; who = (a, works_a, ending) });
    }

  pub not_yet : ends g g1 a ≡ false
  not_yet = is_false (ends g g1 a) went
    where
      went : goes g g1 k Recovered Normal ≡ true → ⊥
      went e =
          let f = and_true {s = is_in (state_of g k) Recovered} e in
          never (ap (λ (s : State). is_in s Normal) (sym (state1 k)) ∙ f.1) (ap (λ (s : State). is_in s Normal) ((in_state (state_of g k) Recovered).0 f.0))

  reported_next : (b : Bool) → Next total g γ g1 (note_cuts (note_end (ends g g1 a) h g1) g g1) b
  reported_next b = subst (λ (t : Bool). Next total g γ g1 (note_cuts (note_end t h g1) g g1) b) (sym not_yet) (kept_next i reports reported_only)

  pub keeps_restored : (b : Bool) → Next total g γ (end_if_all g1 k) (note_cuts (note_end (ends g (end_if_all g1 k) a) h (end_if_all g1 k)) g (end_if_all g1 k)) b
  unfolding end_if_all
  keeps_restored b =
      cond_elim (λ (y : Group). Next total g γ y (note_cuts (note_end (ends g y a) h y) g y) b) last (λ e. ended_next e b) (λ _. reported_next b)
