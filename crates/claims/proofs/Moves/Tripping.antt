-- A cabinet trips: it is in error for its own trip, with its image and version gone, and nothing is left on the lines to it. Every fact holds
-- again at once; that of the fault places is shown once its neighbours have entered error. What the ghost makes of it is what it makes of a fail.
use Rattle.std.specs.Prelude.{Some}
use Prim.Native.Nat.{ℕ}
use mathlib.Core.Path.{◌≡◌, refl, sym, ap, ◌∙◌, subst}
use mathlib.Core.Logic.{◌≢◌, ◌⊎◌, inl, inr, ⊎_elim}
use mathlib.Core.Bool.{Bool, true, false, cond, not, ◌&&◌, true≢false}
use mathlib.Core.List.{List, []}
use lib.Dec.{eqb}
use native.Mathlib.Omega.{arith}
use native.Mathlib.Decide.{ℕ_discrete}
use Rattle.outlet.specs.declared.Party.{Party}
use Rattle.packet.specs.declared.Place.{Place}
use Rattle.packet.specs.declared.Place.TheVariants.{Tripped as AtTripped}
use Rattle.packet.specs.declared.Packet.{Packet}
use Rattle.state.specs.declared.State.TheVariants.{Error}
use Rattle.state.specs.declared.Version.TheVariants.{Lost}
use Rattle.image.specs.declared.Image.{Image}
use Rattle.state.specs.State.{works, in_recovery, is_unknown}
use Rattle.table.specs.Table.{is_at}
use Rattle.protocol.specs.History.{upd}
use Rattle.claims.proofs.State.Fun.{never, is_false, and_true, and_intro, and_same, upd_case, upd_elim, upd_same, upd_other, upd_twice, kept_at}
use Rattle.claims.proofs.State.View.{View, Own, Side, used}
use Rattle.claims.proofs.State.Leading.{next_over, lead_over, next_same}
use Rattle.claims.proofs.State.Methods.{s_alarmed}
use Rattle.claims.proofs.State.ViewMoves.{v_blank, v_tripped, v_emptied, o_blank, o_alarmed, lead_after}
use Rattle.claims.proofs.Invariant.States.{place_same, other_state, known_not_lost, unknown_not_lost}
use Rattle.claims.proofs.Invariant.Facts.{Big, Mind, Wire, Ghost, Pair, Node, Books, Lead, Alarms, aware, unaware, amounts_in, Amounts, amount, count, checkp_last}
use Rattle.claims.proofs.Invariant.Whole.{Ground, Core, PairAt, NodeAt, BooksAt, GroundOf, work_of, calm_of, known_of, present_of, home_of, tab_of, lk_of}
use Rattle.claims.proofs.Invariant.Words.{un_of, un_works, un_not_aware, aware_recovers, aware_not_un, lead_lost}
use Rattle.claims.proofs.Invariant.Reaching.{Reach}
use Rattle.claims.proofs.Invariant.Frame.{moved, same_ghost, move_pairs, move_nodes, move_books, move_ground}
use Rattle.claims.proofs.Moves.ErrorSeen.{o_erred, s_erred, erred_line, raised, raise_seen}
use Rattle.claims.proofs.Moves.Erring.{erred_from, erred_to}
use Rattle.claims.proofs.Moves.Emptying.{line_from, line_to, line_aside}
use Rattle.claims.proofs.Moves.Undoing.{b_lost, b_undo, g_lost, g_undo, Waiting, Tripped, lost_pair, lost_node, lost_books, undone_pair, undone_node, undone_books}

-- ---- the view

abbrev pub o_tripped : Own → ℕ → ℕ → Own
o_tripped o a k = o_erred (o_blank o) (AtTripped a) k

-- the tripped cabinet's lines out
abbrev faults : View → ℕ → ℕ → List Packet
faults v a d = erred_line Lost (AtTripped a) (used (s_erred v a (AtTripped a) d))

abbrev pub tripped : View → ℕ → View
tripped v a =
    v_emptied 8 (moved v a (o_tripped (v.own a) a (lead_after v a (AtTripped a))) (s_erred v a (AtTripped a)) (upd v.lines a (faults v a)) v.slots) a

module _ (v : View) (a : ℕ) where
  abbrev q₀ : Place
  q₀ = AtTripped a

  side_blank : (v_blank v a).side a ≡ v.side a
  side_blank = upd_same v.side a (v.side a)

  own_blank : (v_blank v a).own a ≡ o_blank (v.own a)
  own_blank = upd_same v.own a (o_blank (v.own a))

  sides_blank : s_erred (v_blank v a) a q₀ ≡ s_erred v a q₀
  sides_blank = ap (λ (s : ℕ → Side). λ d. s_alarmed q₀ a d (s d)) side_blank

  owns : (raised (v_blank v a) a q₀).own ≡ upd v.own a (o_tripped (v.own a) a (lead_after v a q₀))
  owns =
      upd_twice v.own a _ _
      ∙ ap (upd v.own a) (λ t. o_alarmed (own_blank t) q₀ (lead_over q₀ (own_blank t).lead (λ d. (sides_blank t d).cab)))

  sides : (raised (v_blank v a) a q₀).side ≡ upd v.side a (s_erred v a q₀)
  sides = upd_twice v.side a _ _ ∙ ap (upd v.side a) sides_blank

  raised_blank : raised (v_blank v a) a q₀ ≡ moved v a (o_tripped (v.own a) a (lead_after v a q₀)) (s_erred v a q₀) (upd v.lines a (faults v a)) v.slots
  raised_blank = λ t. record {
    own = owns t;
    side = sides t;
    lines = upd v.lines a (λ d. erred_line Lost q₀ (used (sides_blank t d)));
    slots = v.slots;
    sound = v.sound;
  }

  pub tripped_seen : v_tripped v a ≡ tripped v a
  tripped_seen = ap (λ (u : View). v_emptied 8 u a) (raise_seen (v_blank v a) a q₀ ∙ raised_blank)

-- ---- a pair with the tripped cabinet

-- of who is not aware no pair reads version or image
module _ (b : Big) (c d : ℕ) (o : Own) (m : Mind) (p : Own) (n : Mind) (s t : Side) (l : List Packet) (w : Wire) (h : Pair b c d o m p n s t l w) where
  blank_from : unaware b o ≡ true → Pair b c d (o_blank o) m p n s t l w
  blank_from un =
      let al : aware b o ≡ true → (q : Place) → o.alarm ≡ Some q → Alarms Lost q l = λ a. absurd (un_not_aware b o un a) in
      search

  blank_to : Pair b c d o m (o_blank p) n s t l w
  blank_to = search

  -- what stands on a line to who is aware is dropped
  emptied_to : in_recovery o.state ≡ false → aware b p ≡ true → Pair b c d o m p n s t [] w
  unfolding count checkp_last amounts_in Amounts amount
  emptied_to calm aw = record {
    table = h.table;
    struck = h.struck;
    closed_joined = h.closed_joined;
    closed_equal = h.closed_equal;
    closed_empty = λ k e u. refl;
    apart = h.apart;
    owes = h.owes;
    owes_home = h.owes_home;
    reported = h.reported;
    begun_bare = h.begun_bare;
    readied = h.readied;
    ready_heard = h.ready_heard;
    silent = λ e. refl;
    alarms = none;
    unheard = none;
    heard = λ e. refl;
    heard_of = h.heard_of;
    no_fault = λ u. refl;
    no_checkp = λ u e. refl;
    last_checkp = λ u. search;
    behind_empty = λ e. inl refl;
    resumed = λ k u e f. no (and_true {s = unaware b p} f).0;
    came = h.came;
    tail_heard = h.tail_heard;
    stream = λ k u. no;
    fresh = h.fresh;
    room = λ u. omega arith;
    sound = λ e. refl;
    unhurt = h.unhurt;
    no_more = λ y e. omega (arith, h.no_more y e);
    small = (h.small.0, (h.small.1.0, search));
    fit = h.fit;
  }
    where
      none : {A : Type 0} → aware b o ≡ true → A
      none a = absurd (never (aware_recovers b o a) calm)

      no : {A : Type 0} → unaware b p ≡ true → A
      no u = absurd (un_not_aware b p u aw)

-- ---- the tripped cabinet

module _ (b : Big) (c : ℕ) (o : Own) (m : Mind) (z : Bool → Image) (h : Node b c o m z) (fault : b.faulted ≡ true) (un : unaware b o ≡ true) (y : ℕ) where
  pub trip_aware : aware b (o_tripped o c y) ≡ true
  trip_aware = and_intro fault refl

  not_calm : {A : Type 0} → unaware b (o_tripped o c y) ≡ true → A
  not_calm u = absurd (un_not_aware b (o_tripped o c y) u trip_aware)

  unready : m.ready ≡ false
  unready = is_false m.ready (λ e. un_not_aware b o un (h.ready_is e).0)

  trip_node : Node b c (o_tripped o c y) m z
  trip_node =
      let w = un_works b o un in
      record {
        placed = λ e. h.placed w;
        present = λ e f. refl;
        running = refl;
        quiet = λ e. absurd (never fault e);
        place_known = λ a. (AtTripped c, refl);
        in_normal = not_calm;
        in_begin = not_calm;
        in_checkpointing = not_calm;
        in_checkpointed = not_calm;
        chief_saved = not_calm;
        in_recovered = not_calm;
        in_error = λ a e. refl;
        in_recovering = λ a e. absurd (other_state refl refl e);
        restored = λ a e. absurd (other_state refl refl e);
        ready_is = λ e. absurd (never e unready);
        told_wrote = h.told_wrote;
        wrote_done = h.wrote_done;
        done_joined = h.done_joined;
        joined_tab = h.joined_tab;
        joined_begun = h.joined_begun;
        chief_begun = h.chief_begun;
        known = λ e v k. absurd (known_not_lost (sym k));
        unknown_at = not_calm;
        unknown_aware = λ a. refl;
        old_joined = λ e v k. absurd (unknown_not_lost (sym k));
        old_before = λ e v k. absurd (unknown_not_lost (sym k));
        knows = λ a e. absurd (true≢false e);
        waits = λ a n e. ((h.waits a n w).0, not_calm);
        cut_image = λ a d. not_calm;
        gone = h.gone;
        slot_top = h.slot_top;
        slot_prev = h.slot_prev;
        slot_cut = h.slot_cut;
        slot_pieces = λ a. not_calm;
        noted = λ e. absurd (never (h.placed w) e);
        sizes = h.sizes;
      }

  trip_books : (out got : Party → ℕ) → Books b o m out got → Books b (o_tripped o c y) m out got
  trip_books out got k = record { bounded = k.bounded; live = not_calm; at_cut = k.at_cut }

-- ---- the group with the tripped cabinet; nobody else is in error, recovering or recovered

module _ (n : ℕ) (total : Party → ℕ) (v : View) (γ : Ghost) (i : Core n total v γ) (none : (c : ℕ) → in_recovery (v.own c).state ≡ false)
    (fault : γ.big.faulted ≡ true) (a : ℕ) (up : work_of v a ≡ true) (meets : (d : ℕ) → used (v.side a d) ≡ true → work_of v d ≡ true) where
  abbrev q : Place
  q = AtTripped a

  abbrev y : ℕ
  y = lead_after v a q

  abbrev o' : Own
  o' = o_tripped (v.own a) a y

  abbrev s' : ℕ → Side
  s' = s_erred v a q

  abbrev lines' : ℕ → ℕ → List Packet
  lines' = (tripped v a).lines

  calm : unaware γ.big (v.own a) ≡ true
  calm = un_of γ.big (v.own a) up (none a)

  aware_a : aware γ.big o' ≡ true
  aware_a = trip_aware γ.big a (v.own a) (γ.mind a) (v.slots a) (i.nodes a) fault calm y

  -- it has no line to itself
  unused_self : used (s' a) ≡ false
  unused_self =
      is_false (used (s' a)) (λ e.
      never (sym ((i.pairs a a).table calm).1 ∙ (and_true {s = (v.side a a).link} (and_true {s = (v.side a a).link && true} e).0).0)
      (i.ground.link_other a))

  no_fault_self : faults v a a ≡ []
  no_fault_self = ap (λ (t : Bool). erred_line Lost q t) unused_self

  from_line : (d : ℕ) → lines' a d ≡ faults v a d
  from_line d = line_from n total v γ i a (faults v a) d (λ e. ap (faults v a) e ∙ no_fault_self)

  to_line : (c : ℕ) → c ≢ a → lines' c a ≡ []
  to_line = line_to n total v γ i a (faults v a)

  others_stay : (c d : ℕ) → c ≢ a → d ≢ a → lines' c d ≡ v.lines c d
  others_stay = line_aside n total v γ i a (faults v a)

  free : (γ.mind a).ready ≡ false
  free = unready γ.big a (v.own a) (γ.mind a) (v.slots a) (i.nodes a) fault calm y

  strikes_none : (d : ℕ) → used (s' d) ≡ true → work_of v d ≡ true
  strikes_none d e = meets d (and_intro (and_true {s = (v.side a d).link} (and_true {s = (v.side a d).link && true} e).0).0
      (and_true {s = (v.side a d).cab} (and_true {s = (v.side a d).link && true} e).1).0)

  trip_pairs : (c d : ℕ) → PairAt (tripped v a) γ c d
  trip_pairs c d =
      let h = i.pairs in
      subst (λ (δ : Ghost). PairAt (tripped v a) δ c d) (same_ghost γ a)
      (move_pairs v γ γ.big a o' (γ.mind a) s' lines' v.slots γ.wire others_stay (λ x z e f. refl) (λ x z e f. h x z)
      (λ j e. rw (from_line j) (erred_from _ _ _ _ _ _ _ _ _ _ _ (blank_from _ _ _ _ _ _ _ _ _ _ _ (h a j) calm) fault q y calm (strikes_none j)))
      (rw (from_line a) (erred_to _ _ _ _ _ _ _ _ _ _ _
      (erred_from _ _ _ _ _ _ _ _ _ _ _ (blank_to _ _ _ _ _ _ _ _ _ _ _ (blank_from _ _ _ _ _ _ _ _ _ _ _ (h a a) calm)) fault q y calm (strikes_none a)) fault q y calm free))
      (λ j e. rw (to_line j e) (emptied_to _ _ _ _ _ _ _ _ _ _ _
      (erred_to _ _ _ _ _ _ _ _ _ _ _ (blank_to _ _ _ _ _ _ _ _ _ _ _ (h j a)) fault q y calm free) (none j) aware_a))
      c d)

  trip_nodes : (c : ℕ) → NodeAt (tripped v a) γ c
  trip_nodes c =
      subst (λ (δ : Ghost). NodeAt (tripped v a) δ c) (same_ghost γ a)
      (move_nodes v γ γ.big a o' (γ.mind a) s' lines' v.slots γ.wire (λ j d. refl) (λ j d. i.nodes j)
      (trip_node γ.big a (v.own a) (γ.mind a) (v.slots a) (i.nodes a) fault calm y) c)

  trip_bookss : (c : ℕ) → BooksAt (tripped v a) γ c
  trip_bookss c =
      subst (λ (δ : Ghost). BooksAt (tripped v a) δ c) (same_ghost γ a)
      (move_books v γ γ.big a o' (γ.mind a) s' lines' v.slots γ.wire (λ j. refl) (λ j. refl) (λ j d. i.books j)
      (trip_books γ.big a (v.own a) (γ.mind a) (v.slots a) (i.nodes a) fault calm y _ _ (i.books a)) c)

  -- ---- who works is as before

  work_same : works o'.state ≡ works (v.own a).state
  work_same = sym up

  pub trip_works : (c : ℕ) → work_of (tripped v a) c ≡ work_of v c
  trip_works = kept_at (λ (x : Own). works x.state) v.own a o' work_same

  trip_ground : GroundOf n (tripped v a) γ
  trip_ground =
      subst (GroundOf n (tripped v a)) (same_ghost γ a)
      (move_ground v γ a o' (γ.mind a) s' lines' v.slots γ.wire work_same refl (λ x z. refl) γ.big refl refl refl refl refl i.ground)

  -- the coordinator is lost: the others work, and are reached without it
  lost_ground : ((c : ℕ) → tab_of γ c ≡ true → work_of v c ≡ true) → Reach (λ c. tab_of γ c && not (eqb c γ.big.chief)) (lk_of γ)
      → present_of v γ.big.chief ≡ false
      → Ground n γ.big.chief γ.big.heir false (work_of (tripped v a)) (tab_of γ) (present_of (tripped v a)) (home_of (tripped v a)) (lk_of γ) v.sound
  lost_ground all left bare =
      let g = trip_ground in
      record {
        most = g.most;
        within = g.within;
        chief_in = g.chief_in;
        heir_is = g.heir_is;
        link_both = g.link_both;
        link_other = g.link_other;
        sound_both = g.sound_both;
        sound_links = g.sound_links;
        home_present = g.home_present;
        present_works = g.present_works;
        reach = g.reach;
        others_work = λ e c t d. trip_works c ∙ all c t;
        others_reach = λ e. left;
        other = λ e.
            let home = (v.own γ.big.chief).home in
            let stores = i.ground.home_present γ.big.chief (i.ground.within γ.big.chief i.ground.chief_in) in
            (home, (λ q. never (ap (present_of v) (sym q) ∙ stores) bare), trip_works home ∙ i.ground.present_works home stores);
      }

  -- ---- who leads

  pub trip_own : (tripped v a).own a ≡ o'
  trip_own = upd_same v.own a o'

  pub trip_unused : used ((tripped v a).side a a) ≡ false
  trip_unused = ap (λ (s : ℕ → Side). used (s a)) (upd_same v.side a s') ∙ unused_self

  pub other_own : (c : ℕ) → c ≢ a → (tripped v a).own c ≡ v.own c
  other_own c d = upd_other v.own a o' c d

  next_lead : y ≡ cond (is_at q γ.big.chief) γ.big.heir γ.big.chief
  next_lead =
      ap (λ (k : ℕ). lead_over q k (λ d. (s' d).cab)) ((i.leads a).steady calm) ∙ go (is_at q γ.big.chief)
    where
      go : (t : Bool) → cond t (next_over (λ d. (s' d).cab) γ.big.chief) γ.big.chief ≡ cond t γ.big.heir γ.big.chief
      go true =
          next_same (λ d. (s' d).cab) (tab_of γ) γ.big.chief (λ d l. and_same (v.side a d).cab ∙ ((i.pairs a d).table calm).0) ∙ sym i.ground.heir_is
      go false = refl

  -- the tripped cabinet, once the ghost's group is b
  lead_a : (b : Big) → b.faulted ≡ true → b.chief ≡ γ.big.chief → b.heir ≡ γ.big.heir → (a ≡ b.chief → b.alive ≡ false) → (b.alive ≡ false → a ≡ b.chief)
      → Lead b a o'
  lead_a b faulted chief heir dead falls = record {
    steady = λ u. absurd (un_not_aware b o' u (and_intro faulted refl));
    moved = λ e p f. (
      ap (is_at q) ((i.leads a).steady calm ∙ sym chief) ∙ ap (λ (r : Place). is_at r b.chief) (place_same f),
      next_lead ∙ sym (rw (chief, heir))
          ∙ ap (λ (r : Place). cond (is_at r b.chief) b.heir b.chief) (place_same f),
    );
    lives = λ k e. absurd (never e (dead k));
    fallen = λ k e. aware_not_un b o' (and_intro faulted refl);
    blank = λ w e. (and_intro faulted refl, falls);
  }

  no_version : (c : ℕ) → works (v.own c).state ≡ true → (v.own c).version ≡ Lost → ⊥
  no_version c w e = never (aware_recovers γ.big (v.own c) ((i.leads c).blank w e).0) (none c)

  leads_lost : a ≡ γ.big.chief → (b : Big) → b.faulted ≡ true → b.chief ≡ γ.big.chief → b.heir ≡ γ.big.heir → b.alive ≡ false
      → (c : ℕ) → Lead b c ((tripped v a).own c)
  leads_lost chief b faulted same heir dead =
      upd_case (λ k o. Lead b k o) v.own a o'
      (lead_a b faulted same heir (λ e. dead) (λ e. chief ∙ sym same))
      (λ k d. lead_lost b k (v.own k) (none k) dead (λ e. absurd (d (e ∙ same ∙ sym chief)))
      (λ w. (i.leads k).steady (un_of γ.big (v.own k) w (none k)) ∙ sym same) (no_version k))

  -- ---- versions

  less_calm : (b : Big) → b.faulted ≡ true → (c : ℕ) → calm_of v γ c ≡ false → unaware b ((tripped v a).own c) ≡ false
  less_calm b e c f =
      upd_elim (λ (o : Own). unaware b o ≡ false) v.own a o' c (λ r. aware_not_un b o' (and_intro e refl))
      (λ d. ap (λ (t : Bool). works (v.own c).state && not (t && in_recovery (v.own c).state)) (e ∙ sym fault) ∙ f)

  no_calm : a ≡ γ.big.chief → (b : Big) → b.faulted ≡ true → unaware b ((tripped v a).own γ.big.chief) ≡ false
  no_calm chief b e =
      subst (λ (k : ℕ). unaware b ((tripped v a).own k) ≡ false) chief (subst (λ (o : Own). unaware b o ≡ false) (sym trip_own) (aware_not_un b o' (and_intro e refl)))

  module _ (alive : γ.big.alive ≡ true) (all : (c : ℕ) → tab_of γ c ≡ true → work_of v c ≡ true) where
    -- another cabinet than the coordinator trips
    pub tripped_other : a ≢ γ.big.chief → Core n total (tripped v a) γ
    tripped_other other = record {
      pairs = trip_pairs;
      nodes = trip_nodes;
      books = trip_bookss;
      leads = upd_case (λ k o. Lead γ.big k o) v.own a o'
          (lead_a γ.big fault refl refl (λ e. absurd (other e)) (λ e. absurd (never alive e))) (λ k d. i.leads k);
      ground = trip_ground;
      chain = record {
        no_commit = λ f.
            ⊎_elim (λ e. inl (less_calm γ.big fault _ e)) (λ e. inr (e.0, e.1, less_calm γ.big fault _ e.2, e.3)) (i.chain.no_commit f);
        lives = i.chain.lives;
        alone = λ e f j w. i.chain.alone e f j (sym (trip_works j) ∙ w);
        company = λ j d w. ⊎_elim (λ e. absurd (never fault e.0)) (λ e. absurd (never alive e));
      };
      sums = i.sums;
    }

    -- the coordinator trips; left is the check with it left out
    module _ (chief : a ≡ γ.big.chief) (left : Reach (λ c. tab_of γ c && not (eqb c γ.big.chief)) (lk_of γ)) (bare : present_of v a ≡ false) where
      pub tripped_chief : γ.big.adopted ≡ true
          → ((j : ℕ) → j ≢ γ.big.chief → work_of v j ≡ true
          → (c : ℕ) × (c ≢ γ.big.chief) × (work_of v c ≡ true) × ((known_of v c ≡ true) ⊎ ((γ.mind c).joined ≡ true)))
          → Core n total (tripped v a) (g_lost γ)
      tripped_chief adopted company = record {
        pairs = λ c d. lost_pair _ _ _ _ _ _ _ _ _ _ _ (trip_pairs c d);
        nodes = λ c. lost_node _ _ _ _ _ (trip_nodes c);
        books = λ c. lost_books _ _ _ _ _ (trip_bookss c);
        leads = leads_lost chief (b_lost γ.big) fault refl refl refl;
        ground = lost_ground all left (ap (present_of v) (sym chief) ∙ bare);
        chain = record {
          no_commit = λ f. inl (no_calm chief (b_lost γ.big) fault);
          lives = λ e. absurd (never adopted e);
          alone = λ e. absurd (never adopted e);
          company = λ j d w e.
              let x = company j d (sym (trip_works j) ∙ w) in
              let nx : x.0 ≢ a = λ z. x.1 (z ∙ chief) in
              let same = ap (λ (o : Own). not (is_unknown o.version)) (other_own x.0 nx) in
              (x.0, x.1, trip_works x.0 ∙ x.2, ⊎_elim (λ k. inl (same ∙ k)) (λ k. inr k) x.3);
        };
        sums = i.sums;
      }

      -- the others wait for the resume of the save that the coordinator alone knows of
      waiting : γ.big.adopted ≡ false → (c : ℕ) → Waiting γ.big c ((tripped v a).own c) (γ.mind c)
      waiting fresh c u = elim (ℕ_discrete c a) [
        | yes e ↦ absurd (never u (subst (λ (k : ℕ). unaware γ.big ((tripped v a).own k) ≡ false) (sym (e ∙ chief)) (no_calm chief γ.big fault)))
        | no d ↦
            let w = sym (trip_works c) ∙ un_works γ.big ((tripped v a).own c) u in
            let nc : c ≢ γ.big.chief = λ e. d (e ∙ sym chief) in
            let x = (i.nodes c).waits fresh nc w in
            (nc, x.0, ap (λ (o : Own). o.state) (other_own c d) ∙ x.1 (un_of γ.big (v.own c) w (none c)))
      ]

      blanked : (c : ℕ) → Tripped γ.big ((tripped v a).own c)
      blanked c =
          upd_elim (λ (o : Own). aware γ.big o ≡ true → (o.state ≡ Error) × (o.version ≡ Lost)) v.own a o' c
          (λ e aw. (refl, refl)) (λ d aw. absurd (never (aware_recovers γ.big (v.own c) aw) (none c)))

      -- it has no cut in a new save, which only one that works alone would have
      pub tripped_undone : γ.big.adopted ≡ false → (γ.mind γ.big.chief).done ≡ false → Core n total (tripped v a) (g_undo γ)
      tripped_undone fresh uncut = record {
        pairs = λ c d. undone_pair _ _ _ _ _ _ _ _ _ _ _ (trip_pairs c d) (waiting fresh c) (waiting fresh d)
            (trip_nodes c).placed (trip_nodes d).placed
            (λ e. (i.nodes d).joined_tab ((i.nodes d).done_joined ((i.nodes d).wrote_done e)));
        nodes = λ c. undone_node _ _ _ _ _ (trip_nodes c) (waiting fresh c) (blanked c) fresh
            (λ e. ap (λ (k : ℕ). (γ.mind k).tab) e ∙ i.ground.chief_in) (λ e. ap (λ (k : ℕ). (γ.mind k).done) e ∙ uncut);
        books = λ c. undone_books _ _ _ _ _ (trip_bookss c);
        leads = leads_lost chief (b_undo γ.big) fault refl refl refl;
        ground = lost_ground all left (ap (present_of v) (sym chief) ∙ bare);
        chain = record {
          no_commit = λ f. inl (no_calm chief (b_undo γ.big) fault);
          lives = λ e. absurd (true≢false e);
          alone = λ e. absurd (true≢false e);
          company = λ j d w e. (j, d, w, inr ((i.nodes j).placed (sym (trip_works j) ∙ w)));
        };
        sums = record { least = i.sums.least; bases = i.sums.bases; tops = i.sums.prevs fresh; prevs = λ e. absurd (true≢false e) };
      }
