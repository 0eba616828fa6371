-- Kind 10, fail: a cabinet fails, the commit of a save that it alone knew of is undone, and its neighbours enter error.
use Prim.Native.Nat.{ℕ, ◌<◌}
use mathlib.Core.Path.{◌≡◌, refl, sym, ap, ◌∙◌, subst}
use mathlib.Core.Logic.{◌≢◌, inl, inr, ⊎_elim}
use mathlib.Core.Bool.{Bool, true, false, cond, not, ◌||◌, false≢true, true≢false, ◌&&◌}
use mathlib.Core.List.{List, [], ◌∷◌}
use mathlib.Core.Option.{some as just}
use lib.ListN.{length, set}
use lib.Seq.{get_or-set_same, get_or-set_other}
use lib.Dec.{eqb}
use borrow.Author.Tests.{eq-eqb, ne_eqb}
use native.Mathlib.Omega.{arith}
use native.Mathlib.Decide.{ℕ_discrete}
use Rattle.marks.specs.Marks.{marked}
use Rattle.marks.specs.Reach.{connected}
use Rattle.outlet.specs.declared.Party.{Party}
use Rattle.packet.specs.declared.Place.TheVariants.{Failed as AtFailed}
use Rattle.table.specs.Table.{is_at}
use Rattle.state.specs.declared.State.{State}
use Rattle.state.specs.declared.State.TheVariants.{Checkpointing, Checkpointed, Error}
use Rattle.image.specs.declared.Image.{Image}
use Rattle.state.specs.State.{is_in, works, in_recovery, in_saving}
use Rattle.image.specs.Image.{booked}
use Rattle.store.specs.Store.{is_last}
use Rattle.group.specs.declared.Group.{Group}
use Rattle.group.specs.Group.{state_of, rows_of, working, some, recovering_ones}
use Rattle.protocol.specs.Moves.{leave, mark_failed, alarm_to}
use Rattle.protocol.specs.Kinds.{fail_crashes}
use Rattle.protocol.specs.History.{Save, History, newest, passes_over, pass_over, with_saves, with_standing, note_passed, note_cuts}
use Rattle.claims.proofs.State.Fun.{never, is_false, and_true, and_not, same_at}
use Rattle.claims.proofs.State.Methods.{s_alarmed}
use Rattle.claims.proofs.State.Every.{ok_mark_failed}
use Rattle.claims.proofs.State.View.{View, Own, used, view, Side}
use Rattle.claims.proofs.State.Shape.{Shaped, Lined, Pictured, shaped}
use Rattle.claims.proofs.State.Sim.{Fit}
use Rattle.claims.proofs.State.ViewMoves.{v_failed, sim_failed}
use Rattle.claims.proofs.Answers.Tests.{in_state}
use Rattle.claims.proofs.Invariant.States.{saving_works, error_recovers}
use Rattle.claims.proofs.Invariant.Facts.{Big, Ghost}
use Rattle.claims.proofs.Invariant.Whole.{Core, Inv, work_of}
use Rattle.claims.proofs.Invariant.Past.{Past, Kept, no_cuts}
use Rattle.claims.proofs.Invariant.Reaching.{Reach, reach_of, working_at, working_marks}
use Rattle.claims.proofs.Invariant.Staying.{stays_none}
use Rattle.claims.proofs.Moves.FirstFault.{g_faulted, g_big}
use Rattle.claims.proofs.Moves.Leaving.{Left, store_leaves, state_left, working_left, calm_left, sound_left, past_left, from_left}
use Rattle.claims.proofs.Moves.Unopened as openly
use Rattle.claims.proofs.Moves.Undoing.{g_lost, g_undo}
use Rattle.claims.proofs.Moves.Failing.{failed_own, other_own, still_works, works_on, failed_other, failed_chief, failed_undone}
use Rattle.claims.proofs.Moves.Alarming.{Alarmed, near, g_said, alarm_all}
use Rattle.claims.proofs.Moves.FailPlaces.{below_eight, struck_meets, failed_none, alarmed_inv}

-- ---- the history

-- the history says nothing of a fault, nor who works but for the coordinator
pub past_big : (n : ℕ) (v w : View) (γ : Ghost) (b : Big) (h : History) → b.clean ≡ γ.big.clean → b.adopted ≡ γ.big.adopted
    → b.chief ≡ γ.big.chief → b.begun ≡ γ.big.begun → (b.alive ≡ true → γ.big.alive ≡ true)
    → ((j : ℕ) → work_of w j ≡ true → work_of v j ≡ true)
    → ((j : ℕ) → is_in (w.own j).state Checkpointed ≡ true → is_in (v.own j).state Checkpointed ≡ true) → Past n v γ h → Past n w (g_big γ b) h
past_big n v w γ b h clean adopted chief begun alive fewer wait p = record {
  sent = p.sent;
  taken = p.taken;
  damaged = λ y. p.damaged y ∙ ap not (sym (same_at clean y));
  hurt = p.hurt;
  cuts = λ a. p.cuts (alive a);
  no_cut = λ a e. p.no_cut (alive a) (sym begun ∙ e);
  known = p.known ∙ sym adopted;
  tops = p.tops;
  balanced = p.balanced;
  present = p.present;
  gone = p.gone;
  beyond = p.beyond;
  below = λ e.
      let x = p.below (sym adopted ∙ e) in
      (x.0, x.1, x.2, x.3 ∙ sym chief, (λ j d k. x.4 j (λ q. d (q ∙ sym chief)) (fewer j k)), x.5, x.6);
  begun = ⊎_elim (λ e. p.begun (inl (sym begun ∙ e))) (λ e. p.begun (inr (sym adopted ∙ e)));
  waits = λ c s. p.waits c (wait c s);
}

-- a save that some know of is not passed over, nor one by another coordinator
known_stays : (a : ℕ) (l : List Save) (s : Save) → (newest l s).known ≡ true → passes_over a l ≡ false
known_stays a [] s e = refl
known_stays a (x ∷ xs) s e = and_not (eqb x.by a) x.known e

other_stays : (a : ℕ) (l xs : List Save) (x : Save) → l ≡ x ∷ xs → x.by ≢ a → passes_over a l ≡ false
other_stays a l xs x e d = rw (e, ne_eqb x.by a d)

all_stay : (a : ℕ) (l : List Save) → passes_over a l ≡ false → pass_over a l ≡ l
all_stay a [] e = refl
all_stay a (x ∷ xs) e = ap (λ (t : Bool). cond t xs (x ∷ xs)) e

still_standing : (s t : Bool) → t ≡ false → (s && not t) ≡ s
still_standing true t e = ap not e
still_standing false t e = refl

none_passed : (h : History) (a : ℕ) → passes_over a h.saves ≡ false → note_passed h a ≡ h
none_passed h a e = λ t. with_standing (with_saves h (all_stay a h.saves e t)) (still_standing h.standing (passes_over a h.saves) e t)

mine_goes : (a : ℕ) (l xs : List Save) (x : Save) → l ≡ x ∷ xs → x.by ≡ a → x.known ≡ false → pass_over a l ≡ xs
mine_goes a l xs x e b k = rw (e, eq-eqb x.by a b, k)

module _ (n : ℕ) (v : View) (γ : Ghost) (h : History) (p : Past n v γ h) (a : ℕ) where
  pub kept_known : γ.big.adopted ≡ true → note_passed h a ≡ h
  kept_known e = none_passed h a (known_stays a h.saves h.start (p.known ∙ e))

  pub kept_other : a ≢ γ.big.chief → note_passed h a ≡ h
  kept_other d = go γ.big.adopted refl
    where
      go : (t : Bool) → γ.big.adopted ≡ t → note_passed h a ≡ h
      go true e = kept_known e
      go false e = let x = p.below e in none_passed h a (other_stays a h.saves x.1 x.0 x.2 (λ q. d (sym q ∙ x.3)))

  -- the newest save is passed over: the rule gives the one before
  pub past_undone : γ.big.adopted ≡ false → a ≡ γ.big.chief → (j : ℕ) → j ≢ γ.big.chief → work_of v j ≡ true
      → ((c : ℕ) → (γ.mind c).tab ≡ false → (γ.mind c).prev ≡ (γ.mind c).top) → ((c : ℕ) → (γ.mind c).tab ≡ true → c < n)
      → (w : View) → ((c : ℕ) → work_of w c ≡ true → (γ.mind c).tab ≡ true) → (b : Big) → b.clean ≡ γ.big.clean → b.adopted ≡ true → b.alive ≡ false
      → Past n w (g_big (g_undo γ) b) (note_passed h a)
  past_undone fresh chief j other up same within w placed b clean adopted dead =
      let x = p.below fresh in
      let unknown : x.0.known ≡ false = ap (λ (l : List Save). (newest l h.start).known) (sym x.2) ∙ p.known ∙ fresh in
      rw (mine_goes a h.saves x.1 x.0 x.2 (x.3 ∙ sym chief) unknown) (record {
        sent = p.sent;
        taken = p.taken;
        damaged = λ y. p.damaged y ∙ ap not (sym (same_at clean y));
        hurt = p.hurt;
        cuts = λ e. absurd (never e dead);
        no_cut = λ e. absurd (never e dead);
        known = x.4 j other up ∙ sym adopted;
        tops = x.5;
        balanced = x.6;
        present = p.present;
        gone = λ c l e. p.gone c l e ∙ ap (λ (m : Image). just m) (sym (same c e));
        beyond = λ y c l. ap (booked y) (same c (is_false (γ.mind c).tab (λ e. omega (arith, within c e)))) ∙ p.beyond y c l;
        below = λ e. absurd (never adopted e);
        begun = λ _. p.begun (inr fresh);
        waits = λ c s e. absurd (never (placed c (ap works ((in_state (w.own c).state Checkpointed).0 s))) e);
      })

-- ---- the check, with the failing cabinet left out

length_working : (g : Group) → length (working g) ≡ 8
unfolding working
length_working g = refl

pub fail_reach : (g : Group) (a : ℕ) → a < 8 → ((c d : ℕ) → (view g).sound c d ≡ (view g).sound d c) → ((c : ℕ) → work_of (view g) c ≡ true → c < 8)
    → connected (rows_of g.sound) (set (working g) a false) ≡ true → Reach (work_of (v_failed (view g) a)) (view g).sound
fail_reach g a la both below all =
    reach_of (rows_of g.sound) (set (working g) a false) (work_of (v_failed (view g) a)) all
    (λ c e.
    let x = still_works (view g) a c e in
    (below c x.1, get_or-set_other (working g) a c false false x.0 ∙ working_at g c (below c x.1) ∙ x.1))
    left both
  where
    left : (c : ℕ) → marked (set (working g) a false) c ≡ true → work_of (v_failed (view g) a) c ≡ true
    left c e = elim (ℕ_discrete c a) [
      | yes q ↦ absurd (never (ap (marked (set (working g) a false)) (sym q) ∙ e)
          (get_or-set_same (working g) a false false (omega (arith, length_working g))))
      | no d ↦ works_on (view g) a c d (working_marks g c (sym (get_or-set_other (working g) a c false false d) ∙ e))
    ]

-- ---- the step, once a store has left

split_or : (x y z : Bool) → (x || (y || not z)) ≡ false → (x ≡ false) × (y ≡ false) × (z ≡ true)
split_or true y z e = absurd (true≢false e)
split_or false true z e = absurd (true≢false e)
split_or false false true e = (refl, refl, refl)
split_or false false false e = absurd (true≢false e)

module _ (total : Party → ℕ) (g : Group) (h : History) (γ : Ghost) (fit : Fit g) (i : Inv g.n total (view g) γ) (past : Past g.n (view g) γ h)
    (a : ℕ) (la : a < 8) (an : a < g.n) (up : work_of (view g) a ≡ true)
    (checks : (((view g).own a).present ≡ false) × (some (recovering_ones g) ≡ false) × (connected (rows_of g.sound) (set (working g) a false) ≡ true)) where
  abbrev v : View
  v = view g

  abbrev g' : Group
  g' = alarm_to 8 (mark_failed g a) a (AtFailed a)

  abbrev h' : History
  h' = note_passed h a

  pub nobody : (c : ℕ) → in_recovery (v.own c).state ≡ false
  nobody = openly.nobody total g γ fit i checks.1

  unfaulted : γ.big.faulted ≡ false
  unfaulted = openly.unfaulted total g γ fit i checks.1

  present : (c : ℕ) → (γ.mind c).tab ≡ true → work_of v c ≡ true
  present = openly.present total g γ fit i checks.1

  alive : γ.big.alive ≡ true
  alive = openly.alive total g γ fit i checks.1

  another : (j : ℕ) × (j ≢ a) × (work_of v j ≡ true)
  another = openly.another total g γ fit i checks.1 a an checks.0

  flipped : Core g.n total v (g_faulted γ)
  flipped = openly.flipped total g γ fit i checks.1

  reaches : Reach (work_of (v_failed v a)) v.sound
  reaches = fail_reach g a la i.core.ground.sound_both (below_eight g.n total a v γ i unfaulted up another nobody) checks.2

  pub seen : view (mark_failed g a) ≡ v_failed v a
  seen = sim_failed g fit a la

  -- what is left once the ghost after the fail is settled
  module _ (δ : Ghost) (core : Core g.n total (v_failed v a) δ) (faulted : δ.big.faulted ≡ true)
      (tabs : (c : ℕ) → (δ.mind c).tab ≡ (γ.mind c).tab) (links : (c d : ℕ) → (δ.wire c d).lk ≡ (γ.wire c d).lk)
      (left : (w : View) (t : Bool) → ((j : ℕ) → work_of w j ≡ true → work_of v j ≡ true)
      → ((j : ℕ) → is_in (w.own j).state Checkpointed ≡ true → is_in (v.own j).state Checkpointed ≡ true) → Past g.n w (g_said δ t) h') where
    alarmed : Alarmed g.n total 8 a (AtFailed a) (v_failed v a) δ (view g')
    alarmed =
        subst (λ (u : View). Alarmed g.n total 8 a (AtFailed a) u δ (view g')) seen
        (alarm_all g.n total a (AtFailed a) (mark_failed g a) (ok_mark_failed Shaped Lined Pictured shaped g a fit) δ
        (subst (λ (u : View). Core g.n total u δ) (sym seen) core) faulted
        (subst (λ (u : View). (c : ℕ) → near u a c ≡ true → (in_recovery (u.own c).state ≡ false) × (is_at (AtFailed a) c ≡ false)) (sym seen)
        (failed_none g.n total a v γ i unfaulted up another nobody))
        (subst (λ (u : View). (c d : ℕ) → work_of u c ≡ true → used (s_alarmed (AtFailed a) c d (u.side c d)) ≡ true → work_of u d ≡ true) (sym seen)
        (struck_meets g.n total a v γ i unfaulted up another nobody))
        8 (omega arith))

    fewer_work : (j : ℕ) → work_of (view g') j ≡ true → work_of v j ≡ true
    fewer_work j e = (still_works v a j (sym (alarmed.worked j) ∙ e)).1

    -- no cabinet has its cut in the step, nor comes to wait
    no_new : (s : State) → in_saving s ≡ true → (c : ℕ) → is_in (state_of g' c) s ≡ true → is_in (state_of g c) s ≡ true
    no_new s saves c e = go (near (v_failed v a) a c) refl
      where
        state_is : state_of g' c ≡ s
        state_is = (in_state (state_of g' c) s).0 e

        go : (t : Bool) → near (v_failed v a) a c ≡ t → is_in (state_of g c) s ≡ true
        go true f =
            let w = (still_works v a c (and_true {s = work_of (v_failed v a) c} f).0).1 in
            let l = below_eight g.n total a v γ i unfaulted up another nobody c w in
            absurd (never (alarmed.told c l f).0 (ap in_recovery state_is ∙ (saving_works s saves).1))
        go false f =
            let o = (alarmed.others c (inr f)).0 in
            elim (ℕ_discrete c a) [
              | yes q ↦ absurd (never saves (ap in_saving (sym state_is ∙ ap (λ (x : Own). x.state) (o ∙ ap (λ (k : ℕ). (v_failed v a).own k) q ∙ failed_own v a))))
              | no d ↦ ap (λ (x : Own). is_in x.state s) (sym (o ∙ other_own v a c d)) ∙ e
            ]

    -- nobody's report stands at one that entered error
    no_reports : (c : ℕ) → is_in (state_of g' c) Error ≡ true → (d : ℕ) → ((view g').side c d).unsure ≡ false
    no_reports c e d = go (near (v_failed v a) a c) refl
      where
        go : (t : Bool) → near (v_failed v a) a c ≡ t → ((view g').side c d).unsure ≡ false
        go true f =
            let w = (still_works v a c (and_true {s = work_of (v_failed v a) c} f).0).1 in
            ap (λ (s : Side). s.unsure) ((alarmed.told c (below_eight g.n total a v γ i unfaulted up another nobody c w) f).2 d)
        go false f =
            let o = (alarmed.others c (inr f)).0 in
            let r : in_recovery ((v_failed v a).own c).state ≡ true = ap (λ (x : Own). in_recovery x.state) (sym o) ∙ error_recovers (state_of g' c) e in
            elim (ℕ_discrete c a) [
              | yes q ↦ absurd (false≢true (sym (ap (λ (x : Own). in_recovery x.state) (ap (λ (k : ℕ). (v_failed v a).own k) q ∙ failed_own v a)) ∙ r))
              | no n ↦ absurd (never (ap (λ (x : Own). in_recovery x.state) (sym (other_own v a c n)) ∙ r) (nobody c))
            ]

    settled : Kept total g γ g' (note_cuts h' g g')
    settled = record {
      ghost = g_said δ alarmed.said;
      inv = alarmed_inv g.n total a v γ i unfaulted up another nobody δ (view g') alarmed faulted tabs links;
      past = rw (no_cuts h' g g' (no_new Checkpointing refl)) (left (view g') alarmed.said fewer_work (no_new Checkpointed refl));
      stays = stays_none v γ (view g') (g_said δ alarmed.said) nobody (λ c f. is_false _ (λ e. never (fewer_work c e) f)) no_reports;
    }

  keeps_left : Kept total g γ g' (note_cuts h' g g')
  keeps_left = elim (ℕ_discrete a γ.big.chief) [
    | yes q ↦ chief γ.big.adopted refl q
    | no d ↦ settled (g_faulted γ) (failed_other g.n total v (g_faulted γ) flipped nobody refl a checks.0 reaches alive present d)
        refl (λ c. refl) (λ c d. refl)
        (λ w t f s. rw (kept_other g.n v γ h past a d) (past_big g.n v w γ (g_said (g_faulted γ) t).big h refl refl refl refl (λ e. e) f s past))
  ]
    where
      chief : (t : Bool) → γ.big.adopted ≡ t → a ≡ γ.big.chief → Kept total g γ g' (note_cuts h' g g')
      chief true e q =
          settled (g_lost (g_faulted γ))
          (failed_chief g.n total v (g_faulted γ) flipped nobody refl a checks.0 reaches alive present q e
          (λ j d w. i.core.chain.company j d w (inl (unfaulted, e))))
          refl (λ c. refl) (λ c d. refl)
          (λ w t f s. rw (kept_known g.n v γ h past a e)
          (past_big g.n v w γ (g_said (g_lost (g_faulted γ)) t).big h refl refl refl refl (λ x. absurd (false≢true x)) f s past))
      chief false e q =
          settled (g_undo (g_faulted γ)) (failed_undone g.n total v (g_faulted γ) flipped nobody refl a checks.0 reaches alive present q e)
          refl (λ c. refl) (λ c d. refl)
          (λ w t f s. past_undone g.n v γ h past a e q another.0 (λ x. another.1 (x ∙ sym q)) another.2 (λ c k. ((i.core.nodes c).gone k).1 e)
          i.core.ground.within w (λ c u. (i.core.nodes c).placed (f c u)) (g_said (g_undo (g_faulted γ)) t).big refl refl refl)

-- ---- the step

module _ (total : Party → ℕ) (g : Group) (h : History) (γ : Ghost) (fit : Fit g) (i : Inv g.n total (view g) γ) (past : Past g.n (view g) γ h)
    (a : ℕ) (la : a < 8) (an : a < g.n) (up : work_of (view g) a ≡ true) (fine : fail_crashes g a ≡ false) where
  found : (is_last g.store a ≡ false) × (some (recovering_ones g) ≡ false) × (connected (rows_of g.sound) (set (working g) a false) ≡ true)
  found = split_or (is_last g.store a) (some (recovering_ones g)) (connected (rows_of g.sound) (set (working g) a false)) fine

  pub none_recovers : (c : ℕ) → in_recovery ((view g).own c).state ≡ false
  none_recovers = openly.nobody total g γ fit i found.1

  -- the group without the store, and what was found, in it
  abbrev pub g_l : Group
  g_l = leave g a

  pub gone : Left total g γ a
  gone = store_leaves total g γ fit i a la found.0 none_recovers

  pub past1 : Past g_l.n (view g_l) γ h
  past1 = past_left total g γ a gone past

  pub an1 : a < g_l.n
  an1 = subst (λ (n : ℕ). a < n) (sym gone.number) an

  pub up1 : work_of (view g_l) a ≡ true
  up1 = ap works (state_left total g γ a gone a) ∙ up

  pub found1 : (((view g_l).own a).present ≡ false) × (some (recovering_ones g_l) ≡ false) × (connected (rows_of g_l.sound) (set (working g_l) a false) ≡ true)
  found1 = (gone.absent, calm_left total g γ a gone found.1, rw (working_left total g γ a gone, sound_left total g γ a gone) found.2)

  abbrev after : Group
  after = alarm_to 8 (mark_failed g_l a) a (AtFailed a)

  pub keeps_fail : Kept total g γ after (note_cuts (note_passed h a) g after)
  keeps_fail =
      from_left total g γ a gone after (note_passed h a) (keeps_left total g_l h γ gone.fit gone.inv past1 a la an1 up1 found1)
