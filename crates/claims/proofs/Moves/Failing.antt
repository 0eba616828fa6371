-- A cabinet fails: its state, its lines both ways, and what the ghost makes of it. The fault places are owed until its neighbours have
-- entered error.
use Prim.Native.Nat.{ℕ}
use mathlib.Core.Path.{◌≡◌, refl, sym, ap, ◌∙◌, subst}
use mathlib.Core.Logic.{◌≢◌, ◌⊎◌, inl, inr, ⊎_elim}
use mathlib.Core.Bool.{Bool, true, false, not, ◌&&◌, ◌||◌, false≢true, true≢false}
use mathlib.Core.List.{List, []}
use lib.Dec.{eqb}
use borrow.Author.Tests.{eqb-false, ne_eqb}
use native.Mathlib.Omega.{arith}
use native.Mathlib.Decide.{ℕ_discrete}
use Rattle.outlet.specs.declared.Party.{Party}
use Rattle.packet.specs.declared.Packet.{Packet}
use Rattle.state.specs.declared.State.TheVariants.{Failed}
use Rattle.state.specs.declared.Version.TheVariants.{Lost}
use Rattle.image.specs.declared.Image.{Image}
use Rattle.state.specs.State.{works, in_recovery, is_unknown}
use Rattle.claims.proofs.State.Fun.{never, is_false, and_true, and_intro, not_true_false, upd_case, upd_elim, upd_same, upd_other, upd_id, kept}
use Rattle.claims.proofs.State.View.{View, Own, Side}
use Rattle.claims.proofs.State.ViewMoves.{v_failed, o_phase}
use Rattle.claims.proofs.Invariant.Facts.{Big, Mind, Wire, Ghost, Pair, Node, Books, Lead, aware, unaware, amounts_in, Amounts, amount, count, checkp_last}
use Rattle.claims.proofs.Invariant.Whole.{Ground, Core, PairAt, NodeAt, BooksAt, work_of, calm_of, known_of, present_of, home_of, tab_of, lk_of}
use Rattle.claims.proofs.Invariant.Words.{un_of, un_works, aware_recovers, lead_lost}
use Rattle.claims.proofs.Invariant.Reaching.{Reach, reach_more}
use Rattle.claims.proofs.Invariant.Frame.{same_ghost, move_pairs, move_nodes, move_books}
use Rattle.claims.proofs.Moves.Emptying.{line_from, line_to, line_aside}
use Rattle.claims.proofs.Moves.Undoing.{b_lost, b_undo, g_lost, g_undo, Waiting, Tripped, lost_pair, lost_node, lost_books, undone_pair, undone_node, undone_books}

abbrev pub o_failed : Own → Own
o_failed o = o_phase o Failed o.version o.alarm

or_left : (x y : Bool) → (x || false) ≡ true → (x || y) ≡ true
or_left true y e = refl
or_left false y e = absurd (false≢true e)

-- ---- a pair with the failed cabinet: its line is empty

module _ (b : Big) (c d : ℕ) (o : Own) (m : Mind) (p : Own) (n : Mind) (s t : Side) (l : List Packet) (w : Wire) (h : Pair b c d o m p n s t l w) where
  not_aware : (o : Own) → in_recovery o.state ≡ false → {A : Type 0} → aware b o ≡ true → A
  not_aware o e a = absurd (never (aware_recovers b o a) e)

  failed_aware : {A : Type 0} → aware b (o_failed o) ≡ true → A
  failed_aware a = not_aware (o_failed o) refl a

  pub fail_from : in_recovery p.state ≡ false → s.owed ≡ false → Pair b c d (o_failed o) m p n s t [] w
  unfolding count checkp_last amounts_in Amounts amount
  fail_from calm bare = record {
    table = λ u. absurd (false≢true u);
    struck = failed_aware;
    closed_joined = h.closed_joined;
    closed_equal = h.closed_equal;
    closed_empty = λ k e u. refl;
    apart = h.apart;
    owes = λ e. absurd (never e bare);
    owes_home = h.owes_home;
    reported = λ e i. absurd (false≢true i);
    begun_bare = λ e i. absurd (false≢true i);
    readied = failed_aware;
    ready_heard = h.ready_heard;
    silent = λ e. refl;
    alarms = failed_aware;
    unheard = failed_aware;
    heard = λ e. refl;
    heard_of = λ e. not_aware p calm (and_true {s = aware b p} e).0;
    no_fault = λ u. refl;
    no_checkp = λ u e. refl;
    last_checkp = λ u. absurd (false≢true u);
    behind_empty = λ e. inl refl;
    resumed = λ k u. absurd (false≢true u);
    came = h.came;
    tail_heard = h.tail_heard;
    stream = λ k u. absurd (false≢true u);
    fresh = failed_aware;
    room = λ u. omega arith;
    sound = λ e. refl;
    unhurt = h.unhurt;
    no_more = λ y e. omega (arith, h.no_more y e);
    small = (h.small.0, (h.small.1.0, search));
    fit = h.fit;
  }

  pub fail_to : in_recovery o.state ≡ false → Pair b c d o m (o_failed p) n s t [] w
  unfolding count checkp_last amounts_in Amounts amount
  fail_to calm = record {
    table = h.table;
    struck = not_aware o calm;
    closed_joined = λ k e. h.closed_joined k (or_left n.done _ e);
    closed_equal = λ k e. h.closed_equal k (or_left n.done _ e);
    closed_empty = λ k e u. refl;
    apart = h.apart;
    owes = h.owes;
    owes_home = h.owes_home;
    reported = h.reported;
    begun_bare = h.begun_bare;
    readied = h.readied;
    ready_heard = h.ready_heard;
    silent = λ e. refl;
    alarms = not_aware o calm;
    unheard = not_aware o calm;
    heard = λ e. refl;
    heard_of = λ e. not_aware (o_failed p) refl (and_true {s = aware b (o_failed p)} e).0;
    no_fault = λ u. refl;
    no_checkp = λ u e. refl;
    last_checkp = λ u. search;
    behind_empty = λ e. inl refl;
    resumed = λ k u e f. absurd (false≢true f);
    came = λ k u. absurd (false≢true u);
    tail_heard = λ k u. absurd (false≢true u);
    stream = λ k u v. absurd (false≢true v);
    fresh = not_aware o calm;
    room = λ u. omega arith;
    sound = λ e. refl;
    unhurt = λ e u. absurd (false≢true u);
    no_more = λ y e. omega (arith, h.no_more y e);
    small = (h.small.0, (h.small.1.0, search));
    fit = h.fit;
  }

-- ---- the failed cabinet

module _ (b : Big) (c : ℕ) (o : Own) (m : Mind) (z : Bool → Image) (h : Node b c o m z)
    (faulted : b.faulted ≡ true) (calm : in_recovery o.state ≡ false) where
  no_alarm : {A : Type 0} → aware b (o_failed o) ≡ true → A
  no_alarm a = absurd (never (aware_recovers b (o_failed o) a) refl)

  pub fail_node : Node b c (o_failed o) m z
  fail_node = record {
    placed = λ e. absurd (false≢true e);
    present = λ e. absurd (never faulted e);
    running = refl;
    quiet = λ e. (refl, refl);
    place_known = no_alarm;
    in_normal = λ u. absurd (false≢true u);
    in_begin = λ u. absurd (false≢true u);
    in_checkpointing = λ u. absurd (false≢true u);
    in_checkpointed = λ u. absurd (false≢true u);
    chief_saved = λ u. absurd (false≢true u);
    in_recovered = λ u. absurd (false≢true u);
    in_error = no_alarm;
    in_recovering = no_alarm;
    restored = no_alarm;
    ready_is = λ e. absurd (never (aware_recovers b o (h.ready_is e).0) calm);
    told_wrote = h.told_wrote;
    wrote_done = h.wrote_done;
    done_joined = h.done_joined;
    joined_tab = h.joined_tab;
    joined_begun = h.joined_begun;
    chief_begun = h.chief_begun;
    known = λ e. absurd (false≢true e);
    unknown_at = λ u. absurd (false≢true u);
    unknown_aware = no_alarm;
    old_joined = λ e. absurd (false≢true e);
    old_before = λ e. absurd (false≢true e);
    knows = no_alarm;
    waits = λ e d f. absurd (false≢true f);
    cut_image = λ e d u. absurd (false≢true u);
    gone = h.gone;
    slot_top = h.slot_top;
    slot_prev = h.slot_prev;
    slot_cut = h.slot_cut;
    slot_pieces = λ e u. absurd (false≢true u);
    noted = h.noted;
    sizes = h.sizes;
  }

pub fail_books : (b : Big) (o : Own) (m : Mind) (out got : Party → ℕ) → Books b o m out got → Books b (o_failed o) m out got
fail_books b o m out got h = record { bounded = h.bounded; live = λ u. absurd (false≢true u); at_cut = h.at_cut }

-- ---- the group with the failed cabinet

module _ (v : View) (a : ℕ) where
  pub failed_own : (v_failed v a).own a ≡ o_failed (v.own a)
  failed_own = upd_same v.own a (o_failed (v.own a))

  pub other_own : (c : ℕ) → c ≢ a → (v_failed v a).own c ≡ v.own c
  other_own c d = upd_other v.own a (o_failed (v.own a)) c d

  pub failed_side : (c : ℕ) → (v_failed v a).side c ≡ v.side c
  failed_side c = ap (λ (f : ℕ → ℕ → Side). f c) (upd_id v.side a)

  pub failed_off : work_of (v_failed v a) a ≡ false
  failed_off = ap (λ (o : Own). works o.state) failed_own

  pub still_works : (c : ℕ) → work_of (v_failed v a) c ≡ true → (c ≢ a) × (work_of v c ≡ true)
  still_works c e = elim (ℕ_discrete c a) [
    | yes q ↦ absurd (never e (ap (work_of (v_failed v a)) q ∙ failed_off))
    | no d ↦ (d, ap (λ (o : Own). works o.state) (sym (other_own c d)) ∙ e)
  ]

  pub works_on : (c : ℕ) → c ≢ a → work_of v c ≡ true → work_of (v_failed v a) c ≡ true
  works_on c d e = ap (λ (o : Own). works o.state) (other_own c d) ∙ e

  pub none_recovers : ((c : ℕ) → in_recovery (v.own c).state ≡ false) → (c : ℕ) → in_recovery ((v_failed v a).own c).state ≡ false
  none_recovers none c = upd_elim (λ (o : Own). in_recovery o.state ≡ false) v.own a (o_failed (v.own a)) c (λ e. refl) (λ d. none c)

module _ (n : ℕ) (total : Party → ℕ) (v : View) (γ : Ghost) (i : Core n total v γ) (none : (c : ℕ) → in_recovery (v.own c).state ≡ false)
    (faulted : γ.big.faulted ≡ true) (a : ℕ) (no_store : (v.own a).present ≡ false) where
  abbrev lines' : ℕ → ℕ → List Packet
  lines' = (v_failed v a).lines

  from_empty : (j : ℕ) → lines' a j ≡ []
  from_empty j = line_from n total v γ i a (λ b. []) j (λ e. refl)

  to_empty : (c : ℕ) → c ≢ a → lines' c a ≡ []
  to_empty = line_to n total v γ i a (λ b. [])

  others_stay : (c d : ℕ) → c ≢ a → d ≢ a → lines' c d ≡ v.lines c d
  others_stay = line_aside n total v γ i a (λ b. [])

  -- who is no home owes nothing
  bare : (d : ℕ) → (v.side a d).owed ≡ false
  bare d =
      is_false (v.side a d).owed (λ e.
      let h = i.pairs a d in
      let t = (i.nodes d).joined_tab ((i.nodes d).done_joined ((i.nodes d).wrote_done (h.owes e).0)) in
      never (ap (λ (c : ℕ). (v.own c).present) (sym (h.owes_home e)) ∙ i.ground.home_present d (i.ground.within d t)) no_store)

  abbrev o' : Own
  o' = o_failed (v.own a)

  pub failed_pairs : (c d : ℕ) → PairAt (v_failed v a) γ c d
  failed_pairs c d =
      let h = i.pairs in
      subst (λ (δ : Ghost). PairAt (v_failed v a) δ c d) (same_ghost γ a)
      (move_pairs v γ γ.big a o' (γ.mind a) (v.side a) lines' v.slots γ.wire others_stay (λ c d n m. refl) (λ c d n m. h c d)
      (λ j n. rw (from_empty j) (fail_from _ _ _ _ _ _ _ _ _ _ _ (h a j) (none j) (bare j)))
      (rw (from_empty a) (fail_to _ _ _ _ _ _ _ _ _ _ _ (fail_from _ _ _ _ _ _ _ _ _ _ _ (h a a) (none a) (bare a)) refl))
      (λ k n. rw (to_empty k n) (fail_to _ _ _ _ _ _ _ _ _ _ _ (h k a) (none k)))
      c d)

  pub failed_nodes : (c : ℕ) → NodeAt (v_failed v a) γ c
  failed_nodes c =
      subst (λ (δ : Ghost). NodeAt (v_failed v a) δ c) (same_ghost γ a)
      (move_nodes v γ γ.big a o' (γ.mind a) (v.side a) lines' v.slots γ.wire (λ j d. refl) (λ j d. i.nodes j)
      (fail_node _ _ _ _ _ (i.nodes a) faulted (none a)) c)

  pub failed_books : (c : ℕ) → BooksAt (v_failed v a) γ c
  failed_books c =
      subst (λ (δ : Ghost). BooksAt (v_failed v a) δ c) (same_ghost γ a)
      (move_books v γ γ.big a o' (γ.mind a) (v.side a) lines' v.slots γ.wire (λ j. refl) (λ j. refl) (λ j n. i.books j)
      (fail_books _ _ _ _ _ (i.books a)) c)

  -- who works, by the check of the fail
  failed_ground : Reach (work_of (v_failed v a)) v.sound → (alive : Bool)
      → (alive ≡ false → (c : ℕ) → tab_of γ c ≡ true → c ≢ γ.big.chief → work_of (v_failed v a) c ≡ true)
      → (alive ≡ false → Reach (λ c. tab_of γ c && not (eqb c γ.big.chief)) (lk_of γ)) → (alive ≡ false → (j : ℕ) × (j ≢ γ.big.chief) × (work_of (v_failed v a) j ≡ true))
      → Ground n γ.big.chief γ.big.heir alive (work_of (v_failed v a)) (tab_of γ) (present_of (v_failed v a)) (home_of (v_failed v a)) (lk_of γ) v.sound
  failed_ground reach alive others left other =
      let g = i.ground in
      rw (kept (λ (x : Own). x.home) v.own a o' refl, kept (λ (x : Own). x.present) v.own a o' refl) (record {
        most = g.most;
        within = g.within;
        chief_in = g.chief_in;
        heir_is = g.heir_is;
        link_both = g.link_both;
        link_other = g.link_other;
        sound_both = g.sound_both;
        sound_links = g.sound_links;
        home_present = g.home_present;
        present_works = λ c e. works_on v a c (λ q. never (ap (λ (x : ℕ). (v.own x).present) (sym q) ∙ e) no_store) (g.present_works c e);
        reach = reach;
        others_work = others;
        others_reach = left;
        other = other;
      })

  no_version : (c : ℕ) → works (v.own c).state ≡ true → (v.own c).version ≡ Lost → ⊥
  no_version c w e = never (aware_recovers γ.big (v.own c) ((i.leads c).blank w e).0) (none c)

  -- whoever was not calm is not
  calm_less : (b : Big) → b.faulted ≡ γ.big.faulted → (c : ℕ) → calm_of v γ c ≡ false → unaware b ((v_failed v a).own c) ≡ false
  calm_less b e c f =
      upd_elim (λ (o : Own). unaware b o ≡ false) v.own a o' c (λ q. refl) (λ d. rw e f)

  module _ (reach : Reach (work_of (v_failed v a)) v.sound) (alive : γ.big.alive ≡ true) (all : (c : ℕ) → (γ.mind c).tab ≡ true → work_of v c ≡ true) where
    lead_failed : a ≢ γ.big.chief → Lead γ.big a o'
    lead_failed other = record {
      steady = λ u. absurd (false≢true u);
      moved = λ e. absurd (never (aware_recovers γ.big o' e) refl);
      lives = λ k. absurd (other k);
      fallen = λ k. absurd (other k);
      blank = λ w. absurd (false≢true w);
    }

    -- another cabinet than the coordinator fails
    pub failed_other : a ≢ γ.big.chief → Core n total (v_failed v a) γ
    failed_other other = record {
      pairs = failed_pairs;
      nodes = failed_nodes;
      books = failed_books;
      leads = λ c. upd_case (λ k o. Lead γ.big k o) v.own a o' (lead_failed other) (λ k d. i.leads k) c;
      ground = failed_ground reach γ.big.alive (λ e. absurd (never alive e)) (λ e. absurd (never alive e)) (λ e. absurd (never alive e));
      chain = record {
        no_commit = λ f.
            ⊎_elim (λ e. inl (calm_less γ.big refl _ e)) (λ e. inr (e.0, e.1, calm_less γ.big refl _ e.2, e.3)) (i.chain.no_commit f);
        lives = i.chain.lives;
        alone = λ e f j w. i.chain.alone e f j (still_works v a j w).1;
        company = λ j d w. ⊎_elim (λ e. absurd (never faulted e.0)) (λ e. absurd (never alive e));
      };
      sums = i.sums;
    }

    -- the coordinator fails
    module _ (chief : a ≡ γ.big.chief) where
      -- it is lost: the others work, and are reached without it
      rest_works : (c : ℕ) → (γ.mind c).tab ≡ true → c ≢ γ.big.chief → work_of (v_failed v a) c ≡ true
      rest_works c t d = works_on v a c (λ q. d (q ∙ chief)) (all c t)

      pub rest_reached : Reach (λ c. tab_of γ c && not (eqb c γ.big.chief)) (lk_of γ)
      rest_reached =
          reach_more (work_of (v_failed v a)) (λ c. tab_of γ c && not (eqb c γ.big.chief)) v.sound (lk_of γ)
          (λ c w. let x = still_works v a c w in and_intro ((i.nodes c).placed x.1) (ap not (ne_eqb c γ.big.chief (λ q. x.0 (q ∙ sym chief)))))
          (λ c e. let x = and_true {s = tab_of γ c} e in rest_works c x.0 (eqb-false c γ.big.chief (not_true_false x.1)))
          i.ground.sound_links reach

      -- its home is another
      rest_one : (j : ℕ) × (j ≢ γ.big.chief) × (work_of (v_failed v a) j ≡ true)
      rest_one =
          let home = (v.own a).home in
          let stores = i.ground.home_present a (i.ground.within a (ap (tab_of γ) chief ∙ i.ground.chief_in)) in
          let d : home ≢ a = λ q. never (ap (λ (c : ℕ). (v.own c).present) (sym q) ∙ stores) no_store in
          (home, (λ q. d (q ∙ sym chief)), works_on v a home d (i.ground.present_works home stores))

      leads_lost : (b : Big) → b.alive ≡ false → b.chief ≡ γ.big.chief → (c : ℕ) → Lead b c ((v_failed v a).own c)
      leads_lost b dead same =
          upd_case (λ k o. Lead b k o) v.own a o'
          (lead_lost b a o' refl dead (λ k. refl) (λ w. absurd (false≢true w)) (λ w. absurd (false≢true w)))
          (λ k d. lead_lost b k (v.own k) (none k) dead (λ q. absurd (d (q ∙ same ∙ sym chief)))
          (λ w. (i.leads k).steady (un_of γ.big (v.own k) w (none k)) ∙ sym same) (no_version k))

      no_calm : (b : Big) → unaware b ((v_failed v a).own γ.big.chief) ≡ false
      no_calm b = ap (λ (c : ℕ). unaware b ((v_failed v a).own c)) (sym chief) ∙ ap (unaware b) (failed_own v a)

      pub failed_chief : γ.big.adopted ≡ true
          → ((j : ℕ) → j ≢ γ.big.chief → work_of v j ≡ true
          → (c : ℕ) × (c ≢ γ.big.chief) × (work_of v c ≡ true) × ((known_of v c ≡ true) ⊎ ((γ.mind c).joined ≡ true)))
          → Core n total (v_failed v a) (g_lost γ)
      failed_chief adopted company = record {
        pairs = λ c d. lost_pair _ _ _ _ _ _ _ _ _ _ _ (failed_pairs c d);
        nodes = λ c. lost_node _ _ _ _ _ (failed_nodes c);
        books = λ c. lost_books _ _ _ _ _ (failed_books c);
        leads = leads_lost (b_lost γ.big) refl refl;
        ground = failed_ground reach false (λ e. rest_works) (λ e. rest_reached) (λ e. rest_one);
        chain = record {
          no_commit = λ f. inl (no_calm (b_lost γ.big));
          lives = λ e. absurd (never adopted e);
          alone = λ e. absurd (never adopted e);
          company = λ j d w e.
              let x = company j d (still_works v a j w).1 in
              let nx : x.0 ≢ a = λ q. x.1 (q ∙ chief) in
              let same = ap (λ (o : Own). not (is_unknown o.version)) (other_own v a x.0 nx) in
              (x.0, x.1, works_on v a x.0 nx x.2, ⊎_elim (λ k. inl (same ∙ k)) (λ k. inr k) x.3);
        };
        sums = i.sums;
      }

      -- the others wait for the resume of the save that the coordinator alone knows of
      waiting : γ.big.adopted ≡ false → (c : ℕ) → Waiting γ.big c ((v_failed v a).own c) (γ.mind c)
      waiting fresh c u =
          let x = still_works v a c (un_works γ.big ((v_failed v a).own c) u) in
          let nc : c ≢ γ.big.chief = λ q. x.0 (q ∙ sym chief) in
          let y = (i.nodes c).waits fresh nc x.1 in
          (nc, y.0, ap (λ (o : Own). o.state) (other_own v a c x.0) ∙ y.1 (un_of γ.big (v.own c) x.1 (none c)))

      not_tripped : (c : ℕ) → Tripped γ.big ((v_failed v a).own c)
      not_tripped c e = absurd (never (aware_recovers γ.big ((v_failed v a).own c) e) (none_recovers v a none c))

      -- nor has the coordinator its cut in a new one: it would work alone, and be its own home
      pub uncut : γ.big.adopted ≡ false → (γ.mind γ.big.chief).done ≡ false
      uncut fresh =
          let k = γ.big.chief in
          let home = (v.own k).home in
          let stores = i.ground.home_present k (i.ground.within k i.ground.chief_in) in
          is_false _ (λ e. never (ap (λ (c : ℕ). (v.own c).present)
          (chief ∙ sym (i.chain.alone fresh e home (i.ground.present_works home stores))) ∙ stores) no_store)

      pub failed_undone : γ.big.adopted ≡ false → Core n total (v_failed v a) (g_undo γ)
      failed_undone fresh = record {
        pairs = λ c d. undone_pair _ _ _ _ _ _ _ _ _ _ _ (failed_pairs c d) (waiting fresh c) (waiting fresh d)
            (failed_nodes c).placed (failed_nodes d).placed
            (λ e. (i.nodes d).joined_tab ((i.nodes d).done_joined ((i.nodes d).wrote_done e)));
        nodes = λ c. undone_node _ _ _ _ _ (failed_nodes c) (waiting fresh c) (not_tripped c) fresh
            (λ q. ap (λ (k : ℕ). (γ.mind k).tab) q ∙ i.ground.chief_in) (λ q. ap (λ (k : ℕ). (γ.mind k).done) q ∙ uncut fresh);
        books = λ c. undone_books _ _ _ _ _ (failed_books c);
        leads = leads_lost (b_undo γ.big) refl refl;
        ground = failed_ground reach false (λ e. rest_works) (λ e. rest_reached) (λ e. rest_one);
        chain = record {
          no_commit = λ f. inl (no_calm (b_undo γ.big));
          lives = λ e. absurd (true≢false e);
          alone = λ e. absurd (true≢false e);
          company = λ j d w e. (j, d, w, inr ((i.nodes j).placed (still_works v a j w).1));
        };
        sums = record { least = i.sums.least; bases = i.sums.bases; tops = i.sums.prevs fresh; prevs = λ e. absurd (true≢false e) };
      }
