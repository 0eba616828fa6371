-- Kind 6, saved: the report, and with the last one the commit; the history then has the new save on top.
use Prim.Native.Nat.{ℕ, ◌<◌}
use mathlib.Core.Path.{◌≡◌, refl, sym, ap, ◌∙◌, subst}
use mathlib.Core.Logic.{◌≢◌, ◌⊎◌, inl, inr, ⊎_elim}
use mathlib.Core.Bool.{Bool, true, false, cond, not, ◌&&◌, false≢true}
use mathlib.Core.Option.{Option, some}
use borrow.Author.Tests.{eq-eqb}
use native.Mathlib.Omega.{arith}
use Rattle.marks.specs.Marks.{marked, covers}
use Rattle.marks.specs.MarksLaws.{covers_has}
use Rattle.outlet.specs.declared.Party.{Party}
use Rattle.packet.specs.declared.Packet.TheVariants.{Resume}
use Rattle.state.specs.declared.State.{State}
use Rattle.state.specs.declared.State.TheVariants.{Normal, Checkpointing, Checkpointed}
use Rattle.state.specs.declared.Version.{Version}
use Rattle.state.specs.declared.Version.TheVariants.{Known}
use Rattle.state.specs.State.{is_in, works, in_recovery, in_saving, bit_of, flipped}
use Rattle.image.specs.Image.{booked}
use Rattle.cabinet.specs.Cabinet.{coordinator}
use Rattle.store.specs.Store.{home_in}
use Rattle.group.specs.declared.Group.{Group}
use Rattle.group.specs.Group.{cabinet, state_of}
use Rattle.protocol.specs.Moves.{commit, resume_with}
use Rattle.protocol.specs.Kinds.{saved_refusal, report_saved, commit_if_all}
use Rattle.protocol.specs.History.{History, Cut, latest, commits, note_commit, note_cuts, upd}
use Rattle.protocol.specs.Restored.{sent_in, taken_in}
use Rattle.claims.proofs.State.Fun.{never, is_false, and_true, upd_elim, upd_same, upd_other, kept_at, kept_pair}
use Rattle.claims.proofs.State.Every.{passed, ok_report_saved}
use Rattle.claims.proofs.State.View.{View, Own, Side, used, view}
use Rattle.claims.proofs.State.Shape.{Shaped, Lined, Pictured, shaped}
use Rattle.claims.proofs.State.Sim.{Fit}
use Rattle.claims.proofs.State.ViewMoves.{Room, v_broadcast, v_resumed, sim_resume, view_forget, v_owe}
use Rattle.claims.proofs.Invariant.States.{known_is_known, saving_works}
use Rattle.claims.proofs.Invariant.Facts.{Ghost, unaware, linked, Mind}
use Rattle.claims.proofs.Invariant.Whole.{Inv, NodeAt, work_of}
use Rattle.claims.proofs.Invariant.Past.{Past, HeldIn, Kept, no_cuts, past_same, quiet_of}
use Rattle.claims.proofs.Invariant.Words.{chief_lives, un_of, un_works, chief_of, room_calm}
use Rattle.claims.proofs.Invariant.Marking.{past_mind}
use Rattle.claims.proofs.Invariant.Staying.{Stays, phase_same, stays_same, stays_then, no_fault_lem}
use Rattle.claims.proofs.Moves.Reporting.{g_told, m_told, v_reported, report_inv, sim_report}
use Rattle.claims.proofs.Moves.CommitPairs.{g_commit, m_commit}
use Rattle.claims.proofs.Moves.CommitNodes.{wrote_state}
use Rattle.claims.proofs.Moves.Committing.{v_commit, commit_inv, lives, through, equal}

-- ---- the commit in the group

pub sim_commit : (g : Group) → Fit g → (k : ℕ) → k < 8 → (x : Bool) → (cabinet g k).phase.version ≡ Known x → Room (view g) k
    → view (commit g k) ≡ v_broadcast (v_resumed (view g) k (Known (not x))) k Resume
unfolding commit
sim_commit g w k l x e room =
    view_forget (resume_with g k (flipped (cabinet g k).phase.version))
    ∙ ap (λ (y : Version). view (resume_with g k y)) (ap flipped e)
    ∙ sim_resume g w k (Known (not x)) l (λ b us. room b (sym (ap (λ (f : ℕ → Side). used (f b)) (upd_same (view g).side k _)) ∙ us))

-- ---- the commit in the history

module _ (n : ℕ) (total : Party → ℕ) (v : View) (γ : Ghost) (h : History) (i : Inv n total v γ) (un : unaware γ.big (v.own γ.big.chief) ≡ true)
    (all : (c : ℕ) → (γ.mind c).tab ≡ true → ((γ.mind c).wrote ≡ true) × ((γ.mind c).told ≡ true)) (p : Past n v γ h) where
  abbrev k : ℕ
  k = γ.big.chief

  alive : γ.big.alive ≡ true
  alive = lives n total v γ i un all

  done : (c : ℕ) → (γ.mind c).tab ≡ true → (γ.mind c).done ≡ true
  done c t = (through n total v γ i un all c t).1

  begun : γ.big.begun ≡ true
  begun = sym ((i.core.nodes k).chief_begun refl) ∙ (through n total v γ i un all k i.core.ground.chief_in).0

  off : (c d : ℕ) → ((γ.mind c).tab && (γ.mind d).tab) ≡ false → linked (γ.mind c) (γ.mind d) (γ.wire c d) ≡ false
  off c d e = is_false _ (λ q. never (and_true {s = (γ.wire c d).lk} q).1 e)

  gave : (c d : ℕ) → sent_in (h.cuts c) d ≡ (γ.wire c d).sent
  gave c d = go (γ.mind c).tab refl
    where
      go : (t : Bool) → (γ.mind c).tab ≡ t → sent_in (h.cuts c) d ≡ (γ.wire c d).sent
      go true e = let x = p.cuts alive c (done c e) in ap (λ (y : Option Cut). sent_in y d) x.1 ∙ x.3 d
      go false e =
          ap (λ (y : Option Cut). sent_in y d) (p.no_cut alive begun c e)
          ∙ sym ((i.core.pairs c d).apart (off c d (is_false _ (λ q. never (and_true {s = (γ.mind c).tab} q).0 e)))).0

  took : (c d : ℕ) → taken_in (h.cuts d) c ≡ (γ.wire c d).taken
  took c d = go (γ.mind d).tab refl
    where
      go : (t : Bool) → (γ.mind d).tab ≡ t → taken_in (h.cuts d) c ≡ (γ.wire c d).taken
      go true e = let x = p.cuts alive d (done d e) in ap (λ (y : Option Cut). taken_in y c) x.1 ∙ x.4 c
      go false e =
          ap (λ (y : Option Cut). taken_in y c) (p.no_cut alive begun d e)
          ∙ sym ((i.core.pairs c d).apart (off c d (is_false _ (λ q. never (and_true {s = (γ.mind c).tab} q).1 e)))).1

  held : (c : ℕ) → c < n → HeldIn (h.lost c) (h.cuts c) (m_commit (γ.mind c)).top
  held c l = go (γ.mind c).tab refl
    where
      go : (t : Bool) → (γ.mind c).tab ≡ t → HeldIn (h.lost c) (h.cuts c) (cond t (γ.mind c).cut (γ.mind c).top)
      go true e = let x = p.cuts alive c (done c e) in inr (p.present c e, (x.0, x.1, x.2))
      go false e = inl (p.gone c l e)

  top_out : (c : ℕ) → (γ.mind c).tab ≡ false → (m_commit (γ.mind c)).top ≡ (γ.mind c).top
  top_out c e = ap (λ (t : Bool). cond t (γ.mind c).cut (γ.mind c).top) e

  -- the save before was known, or the coordinator works alone
  known_below : (j : ℕ) → j ≢ k → work_of (v_commit v γ) j ≡ true → (latest h).known ≡ true
  known_below j d w = go γ.big.adopted refl
    where
      go : (t : Bool) → γ.big.adopted ≡ t → (latest h).known ≡ true
      go true e = p.known ∙ e
      go false e =
          absurd (d (i.core.chain.alone e (done k i.core.ground.chief_in) j (sym (ap (λ (o : Own). works o.state) (upd_other v.own k _ j d)) ∙ w)))

  pub past_commit : Past n (v_commit v γ) (g_commit γ) (note_commit true h k)
  past_commit = record {
    sent = p.sent;
    taken = p.taken;
    damaged = p.damaged;
    hurt = p.hurt;
    cuts = λ a c e. absurd (false≢true e);
    no_cut = λ a e. absurd (false≢true e);
    known = refl;
    tops = held;
    balanced = λ c d. took c d ∙ sym (equal n total v γ i un all c d).0 ∙ sym (gave c d);
    present = p.present;
    gone = λ c l e. p.gone c l e ∙ ap some (sym (top_out c e));
    beyond = λ y c l. ap (booked y) (top_out c (is_false (γ.mind c).tab (λ e. omega (arith, i.core.ground.within c e)))) ∙ p.beyond y c l;
    below = λ e. (record { by = k; cut = h.cuts; known = false }, h.saves, refl, refl, known_below, p.tops, p.balanced);
    begun = λ _. p.begun (inl begun);
    waits = λ c s j. (refl, (_, h.saves, refl));
  }

-- ---- the step

module _ (total : Party → ℕ) (g : Group) (h : History) (γ : Ghost) (w : Fit g) (i : Inv g.n total (view g) γ) (past : Past g.n (view g) γ h)
    (a : ℕ) (la : a < 8) (fine : saved_refusal g a ≡ 0) where
  abbrev v : View
  v = view g

  abbrev home : ℕ
  home = home_in g.store a

  abbrev K : ℕ
  K = γ.big.chief

  checks : ((v.side home a).owed ≡ true) × (in_saving (state_of g (coordinator (cabinet g home))) ≡ true)
  checks =
      and_true {s = marked (cabinet g home).owed a}
      (passed (marked (cabinet g home).owed a && in_saving (state_of g (coordinator (cabinet g home)))) 18 0 fine).0

  home_calm : unaware γ.big (v.own home) ≡ true
  home_calm = ((i.core.pairs home a).owes checks.0).2

  is_chief : coordinator (cabinet g home) ≡ K
  is_chief = chief_of g.n total g γ i.core home home_calm

  chief_saves : in_saving (v.own K).state ≡ true
  chief_saves = ap (λ (j : ℕ). in_saving (state_of g j)) (sym is_chief) ∙ checks.1

  chief_calm : unaware γ.big (v.own K) ≡ true
  chief_calm = let s = saving_works (v.own K).state chief_saves in un_of γ.big (v.own K) s.0 s.1

  pub chief_alive : γ.big.alive ≡ true
  chief_alive = chief_lives g.n total v γ i.core chief_calm

  home_below : home < 8
  home_below = omega (arith, i.core.ground.within home ((i.core.nodes home).placed (un_works γ.big (v.own home) home_calm)), i.core.ground.most)

  chief_below : K < 8
  chief_below = omega (arith, i.core.ground.within K i.core.ground.chief_in, i.core.ground.most)

  -- ---- the report

  abbrev g1 : Group
  g1 = report_saved g a home K

  abbrev γ1 : Ghost
  γ1 = g_told γ a

  seen1 : view g1 ≡ v_reported v a home K
  seen1 = sim_report g w a home K la home_below chief_below

  fit1 : Fit g1
  fit1 = ok_report_saved Shaped Lined Pictured shaped g a home K w

  inv1 : Inv g.n total (view g1) γ1
  inv1 = subst (λ (x : View). Inv g.n total x γ1) (sym seen1) (report_inv g.n total v γ i a home K checks.0 chief_saves)

  state1 : (c : ℕ) → ((view g1).own c).state ≡ (v.own c).state
  state1 c =
      ap (λ (x : View). (x.own c).state) seen1
      ∙ kept_at (λ (x : Own). x.state) (upd v.own home (v.own home)) K (upd v.own home (v.own home) K) refl c
      ∙ kept_at (λ (x : Own). x.state) v.own home (v.own home) refl c

  past1 : Past g.n (view g1) γ1 h
  past1 = past_same state1 (past_mind g.n v γ h past a (m_told (γ.mind a)) refl refl refl refl refl refl)

  own1 : (c : ℕ) → (view g1).own c ≡ v.own c
  own1 c =
      ap (λ (x : View). x.own c) seen1
      ∙ kept_at (λ (x : Own). x) (upd v.own home (v.own home)) K (upd v.own home (v.own home) K) refl c
      ∙ kept_at (λ (x : Own). x) v.own home (v.own home) refl c

  unsure1 : (c d : ℕ) → ((view g1).side c d).unsure ≡ (v.side c d).unsure
  unsure1 c d =
      ap (λ (x : View). (x.side c d).unsure) seen1
      ∙ kept_pair (λ (x : Side). x.unsure) (v_owe v home a false).side K a _ refl c d ∙ kept_pair (λ (x : Side). x.unsure) v.side home a _ refl c d

  stays1 : Stays v γ (view g1) γ1
  stays1 = stays_same v γ (quiet_of i) (view g1) γ1 (λ c. phase_same (own1 c)) unsure1 no_fault_lem

  keeps_report : Kept total g γ g1 (note_cuts h g g1)
  keeps_report = record {
    ghost = γ1;
    inv = inv1;
    past = rw (no_cuts h g g1 (λ c e. ap (λ (s : State). is_in s Checkpointing) (sym (state1 c)) ∙ e)) past1;
    stays = stays1;
  }

  not_normal : commits g g1 K ≡ false
  not_normal =
      is_false (commits g g1 K)
      (λ e. never (and_true {s = in_saving (state_of g K)} e).1 (ap (λ (s : State). is_in s Normal) (state1 K) ∙ (saving_works (v.own K).state chief_saves).2))

  -- ---- the commit

  module _ (full : covers (cabinet g1 K).noted.saved (cabinet g1 K).table.cabinets ≡ true) where
    calm1 : unaware γ1.big ((view g1).own K) ≡ true
    calm1 = subst (λ (s : State). (works s && not (γ.big.faulted && in_recovery s)) ≡ true) (sym (state1 K)) chief_calm

    all : (c : ℕ) → (γ1.mind c).tab ≡ true → ((γ1.mind c).wrote ≡ true) × ((γ1.mind c).told ≡ true)
    all c t =
        let r = inv1.core.pairs K c in
        let l : c < 8 = omega (arith, inv1.core.ground.within c t, inv1.core.ground.most) in
        r.reported refl (ap in_saving (state1 K) ∙ chief_saves) calm1
        (covers_has (cabinet g1 K).noted.saved (cabinet g1 K).table.cabinets full c l ((r.table calm1).0 ∙ t))

    abbrev chief_node : NodeAt (view g1) γ1 K
    chief_node = inv1.core.nodes K

    saved1 : state_of g1 K ≡ Checkpointed
    saved1 = wrote_state _ _ _ _ _ chief_node calm1 (all K inv1.core.ground.chief_in).0

    version1 : (cabinet g1 K).phase.version ≡ Known γ.big.topv
    version1 =
        let k = known_is_known (cabinet g1 K).phase.version (chief_node.unknown_at calm1 ∙ rw (saved1, eq-eqb K K refl)) in
        k ∙ ap Known (chief_node.known (un_works γ1.big ((view g1).own K) calm1) (bit_of (cabinet g1 K).phase.version) k)

    abbrev g2 : Group
    g2 = commit g1 K

    seen2 : view g2 ≡ v_commit (view g1) γ1
    seen2 = sim_commit g1 fit1 K chief_below γ.big.topv version1 (room_calm g.n total g1 γ1 fit1 inv1.core K calm1)

    state_of_lem : (c : ℕ) → (((view g2).own c).state ≡ (v.own c).state) ⊎ ((c ≡ K) × (((view g2).own c).state ≡ Normal))
    state_of_lem c =
        subst (λ (x : View). ((x.own c).state ≡ (v.own c).state) ⊎ ((c ≡ K) × ((x.own c).state ≡ Normal))) (sym seen2)
        (upd_elim (λ (x : Own). (x.state ≡ (v.own c).state) ⊎ ((c ≡ K) × (x.state ≡ Normal))) (view g1).own K _ c (λ e. inr (e, refl)) (λ d. inl (state1 c)))

    normal2 : state_of g2 K ≡ Normal
    normal2 = ap (λ (x : View). (x.own K).state) seen2 ∙ ap (λ (x : Own). x.state) (upd_same (view g1).own K _)

    goes_normal : commits g g2 K ≡ true
    goes_normal = rw (sym (state1 K) ∙ saved1, normal2)

    no_new_cut : (c : ℕ) → is_in (state_of g2 c) Checkpointing ≡ true → is_in (state_of g c) Checkpointing ≡ true
    no_new_cut c e =
        ⊎_elim (λ s. ap (λ (x : State). is_in x Checkpointing) (sym s) ∙ e)
        (λ s. absurd (never e (ap (λ (x : State). is_in x Checkpointing) s.1))) (state_of_lem c)

    keeps_commit : Kept total g γ g2 (note_cuts (note_commit true h K) g g2)
    keeps_commit = record {
      ghost = g_commit γ1;
      inv = subst (λ (x : View). Inv g.n total x (g_commit γ1)) (sym seen2) (commit_inv g.n total (view g1) γ1 inv1 calm1 all);
      past = rw (no_cuts (note_commit true h K) g g2 no_new_cut)
          (subst (λ (x : View). Past g.n x (g_commit γ1) (note_commit true h K)) (sym seen2) (past_commit g.n total (view g1) γ1 h inv1 calm1 all past1));
      stays = stays_then stays1 (view g2) (g_commit γ1) K _ _ (ap (λ (u : View). u.own) seen2) (ap (λ (u : View). u.side) seen2) calm1 (λ e. absurd (never e refl)) no_fault_lem;
    }

  -- ---- together

  abbrev pub After : ℕ → Group
  After k = commit_if_all (report_saved g a home k) k

  abbrev pub Owed : ℕ → Group → Type 0
  Owed k g' = Kept total g γ g' (note_cuts (note_commit (commits g g' k) h k) g g')

  keeps_chief : Owed K (After K)
  unfolding commit_if_all
  keeps_chief = go (covers (cabinet g1 K).noted.saved (cabinet g1 K).table.cabinets) refl
    where
      go : (t : Bool) → covers (cabinet g1 K).noted.saved (cabinet g1 K).table.cabinets ≡ t → Owed K (cond t (commit g1 K) g1)
      go true e = subst (λ (t : Bool). Kept total g γ (commit g1 K) (note_cuts (note_commit t h K) g (commit g1 K))) (sym (goes_normal e)) (keeps_commit e)
      go false e = subst (λ (t : Bool). Kept total g γ g1 (note_cuts (note_commit t h K) g g1)) (sym not_normal) keeps_report

  -- a save is committed once all have written it
  abbrev Wrote : ℕ → Type 0
  Wrote k = commits g (After k) k ≡ true → (c : ℕ) → (γ.mind c).tab ≡ true → (γ.mind c).wrote ≡ true

  wrote_chief : Wrote K
  unfolding commit_if_all
  wrote_chief = go (covers (cabinet g1 K).noted.saved (cabinet g1 K).table.cabinets) refl
    where
      same : {A : Type 0} (f : Mind → A) → f (m_told (γ.mind a)) ≡ f (γ.mind a) → (c : ℕ) → f (γ1.mind c) ≡ f (γ.mind c)
      same f e = kept_at f γ.mind a (m_told (γ.mind a)) e

      go : (t : Bool) → covers (cabinet g1 K).noted.saved (cabinet g1 K).table.cabinets ≡ t → commits g (cond t (commit g1 K) g1) K ≡ true
          → (c : ℕ) → (γ.mind c).tab ≡ true → (γ.mind c).wrote ≡ true
      go true e f c t = sym (same (λ m. m.wrote) refl c) ∙ (all e c (same (λ m. m.tab) refl c ∙ t)).0
      go false e f c t = absurd (never f not_normal)

  pub all_wrote : Wrote (coordinator (cabinet g home))
  all_wrote = subst Wrote (sym is_chief) wrote_chief

  pub keeps_saved : Owed (coordinator (cabinet g home)) (After (coordinator (cabinet g home)))
  keeps_saved = subst (λ (k : ℕ). Owed k (After k)) (sym is_chief) keeps_chief
