-- The cut: with the checkps of all neighbours in use a cabinet goes from checkp-begin to checkpointing. Its image is that of the save.
use Prim.Native.Nat.{ℕ}
use mathlib.Core.Path.{◌≡◌, refl, sym, ap, ◌∙◌}
use mathlib.Core.Bool.{Bool, true, false, not, ◌&&◌, false≢true, true≢false}
use mathlib.Core.List.{List}
use lib.Dec.{eqb}
use borrow.Author.Tests.{eqb-true, eqb-false, eq-eqb}
use native.Mathlib.Omega.{arith}
use native.Mathlib.Decide.{ℕ_discrete}
use Rattle.outlet.specs.declared.Party.{Party}
use Rattle.packet.specs.declared.Packet.{Packet}
use Rattle.state.specs.declared.State.{State}
use Rattle.state.specs.declared.State.TheVariants.{Normal, CheckpBegin, Checkpointing, Checkpointed, Recovered}
use Rattle.image.specs.declared.Image.{Image}
use Rattle.state.specs.State.{is_in, works, in_recovery, is_unknown}
use Rattle.protocol.specs.History.{upd}
use Rattle.claims.proofs.State.Fun.{never, is_true, is_false, and_true, and_intro, upd_other, and-false, or_right, kept}
use Rattle.claims.proofs.State.View.{View, Own, Side, used}
use Rattle.claims.proofs.State.Shape.{Pictured}
use Rattle.claims.proofs.State.ViewMoves.{o_phase, v_cut}
use Rattle.claims.proofs.Invariant.Facts.{Big, Mind, Wire, Ghost, Pair, Node, Books, aware, unaware, linked, behind, closed}
use Rattle.claims.proofs.Invariant.Whole.{Inv, PairAt, ChainOf}
use Rattle.claims.proofs.Invariant.Words.{un_of, un_works, un_not_aware, linked_back, used_linked, lead_same}
use Rattle.claims.proofs.Invariant.Frame.{minded, move_pairs, move_nodes, move_books, move_leads, move_ground, move_places, move_meets, move_sums}

abbrev pub m_cut : Mind → Image → Mind
m_cut m x = record {
  tab = m.tab;
  joined = m.joined;
  done = true;
  wrote = m.wrote;
  told = m.told;
  ready = m.ready;
  cut = x;
  base = m.base;
  top = m.top;
  prev = m.prev;
}

abbrev pub g_cut : Ghost → ℕ → Image → Ghost
g_cut γ c x = minded γ γ.big c (m_cut (γ.mind c) x) γ.wire

abbrev pub o_cut : Own → Own
o_cut o = o_phase o Checkpointing o.version o.alarm

-- ---- the pairs

-- the one that cuts is the sender
module _ (b : Big) (c d : ℕ) (o : Own) (m : Mind) (p : Own) (n : Mind) (s t : Side) (l : List Packet) (w : Wire) (h : Pair b c d o m p n s t l w)
    (un : unaware b o ≡ true) (begins : o.state ≡ CheckpBegin) (x : Image) where
  un_cut : unaware b (o_cut o) ≡ true
  un_cut = un_of b (o_cut o) refl refl

  not_aware : {A : Type 0} → aware b (o_cut o) ≡ true → A
  not_aware e = absurd (un_not_aware b (o_cut o) un_cut e)

  not_behind : behind b o m ≡ false
  not_behind = is_false (behind b o m) (λ e. false≢true (rw begins at (and_true {s = unaware b o} e).1))

  bare : c ≡ b.chief → s.saved ≡ false
  bare e = h.begun_bare e (rw begins) un

  pub cut_from : Pair b c d (o_cut o) (m_cut m x) p n s t l w
  cut_from = record {
    table = λ u. h.table un;
    struck = λ a. not_aware a;
    closed_joined = h.closed_joined;
    closed_equal = h.closed_equal;
    closed_empty = λ k e u. h.closed_empty k e un;
    apart = h.apart;
    owes = λ e. ((h.owes e).0, (h.owes e).1, un_cut);
    owes_home = h.owes_home;
    reported = λ e f u v. absurd (never v (bare e));
    begun_bare = λ e f. absurd (false≢true f);
    readied = λ a. not_aware a;
    ready_heard = h.ready_heard;
    silent = λ e. h.silent (rw (un_works b o un) e);
    alarms = λ a. not_aware a;
    unheard = λ a. not_aware a;
    heard = h.heard;
    heard_of = λ e. absurd (un_not_aware b o un (h.heard_of e).0);
    no_fault = λ u. h.no_fault un;
    no_checkp = λ u. h.no_checkp un;
    last_checkp = λ u. h.last_checkp un;
    behind_empty = λ e. absurd (false≢true (and_true {s = unaware b (o_cut o)} e).1);
    resumed = λ k u f e. h.resumed k un not_behind e;
    came = h.came;
    tail_heard = h.tail_heard;
    stream = λ k u. h.stream k un;
    fresh = λ a. not_aware a;
    room = λ u. h.room un;
    sound = h.sound;
    unhurt = h.unhurt;
    no_more = h.no_more;
    small = h.small;
    fit = h.fit;
  }

-- the one that cuts is the receiver
module _ (b : Big) (c d : ℕ) (o : Own) (m : Mind) (p : Own) (n : Mind) (s t : Side) (l : List Packet) (w : Wire) (h : Pair b c d o m p n s t l w)
    (un : unaware b p ≡ true) (begins : p.state ≡ CheckpBegin) (all : linked m n w ≡ true → t.come ≡ true) (x : Image) where
  closed_yet : linked m n w ≡ true → closed b p n t ≡ true
  closed_yet k = or_right n.done _ (and_intro (ap (λ (z : State). is_in z CheckpBegin) begins) (and_intro un (all k)))

  unheard_yet : (aware b p && t.heard) ≡ false
  unheard_yet = is_false _ (λ e. un_not_aware b p un (and_true {s = aware b p} e).0)

  not_heard : {A : Type 0} → (aware b (o_cut p) && t.heard) ≡ true → A
  not_heard e = absurd (un_not_aware b (o_cut p) (un_of b (o_cut p) refl refl) (and_true {s = aware b (o_cut p)} e).0)

  pub cut_to : Pair b c d o m (o_cut p) (m_cut n x) s t l w
  cut_to = record {
    table = h.table;
    struck = h.struck;
    closed_joined = λ k e. h.closed_joined k (closed_yet k);
    closed_equal = λ k e. h.closed_equal k (closed_yet k);
    closed_empty = λ k e. h.closed_empty k (closed_yet k);
    apart = h.apart;
    owes = h.owes;
    owes_home = h.owes_home;
    reported = h.reported;
    begun_bare = h.begun_bare;
    readied = h.readied;
    ready_heard = h.ready_heard;
    silent = λ e. h.silent (rw (un_works b p un) e);
    alarms = h.alarms;
    unheard = λ a us q e. h.unheard a us (un_works b p un) unheard_yet;
    heard = λ e. not_heard e;
    heard_of = λ e. not_heard e;
    no_fault = h.no_fault;
    no_checkp = h.no_checkp;
    last_checkp = h.last_checkp;
    behind_empty = h.behind_empty;
    resumed = λ k u f e. absurd (false≢true (and_true {s = unaware b (o_cut p)} e).1);
    came = λ k u e. all k;
    tail_heard = λ k u e. absurd (false≢true e);
    stream = λ k u up. h.stream k u un;
    fresh = h.fresh;
    room = h.room;
    sound = h.sound;
    unhurt = λ e u. h.unhurt e un;
    no_more = h.no_more;
    small = h.small;
    fit = h.fit;
  }

-- ---- the cabinet

module _ (b : Big) (c : ℕ) (o : Own) (m : Mind) (z : Bool → Image) (h : Node b c o m z) (un : unaware b o ≡ true) (begins : o.state ≡ CheckpBegin)
    (whole : Pictured o.image) where
  un_node : unaware b (o_cut o) ≡ true
  un_node = un_of b (o_cut o) refl refl

  no_aware : {A : Type 0} → aware b (o_cut o) ≡ true → A
  no_aware e = absurd (un_not_aware b (o_cut o) un_node e)

  not_state : {A : Type 0} (s : State) → is_in Checkpointing s ≡ false → Checkpointing ≡ s → A
  not_state s f e = absurd (never (rw (← e)) f)

  is_known : is_unknown o.version ≡ false
  is_known = h.unknown_at un ∙ rw begins

  unwritten : m.wrote ≡ false
  unwritten = is_false _ (λ e. never (h.wrote_done e) (h.in_begin un begins).1)

  no_pieces : o.pieces ≡ 0
  no_pieces = (h.in_begin un begins).2

  cut_node : Node b c (o_cut o) (m_cut m o.image) z
  cut_node = record {
    placed = λ e. h.placed (un_works b o un);
    present = λ e f. refl;
    running = refl;
    quiet = λ e. (refl, refl);
    place_known = no_aware;
    in_normal = λ u e. not_state Normal refl e;
    in_begin = λ u e. not_state CheckpBegin refl e;
    in_checkpointing = λ u e. (refl, unwritten, omega (arith, no_pieces));
    in_checkpointed = λ u e. not_state Checkpointed refl e;
    chief_saved = λ u e. not_state Checkpointed refl e;
    in_recovered = λ u e. not_state Recovered refl e;
    in_error = no_aware;
    in_recovering = no_aware;
    restored = no_aware;
    ready_is = λ e. absurd (un_not_aware b o un (h.ready_is e).0);
    told_wrote = h.told_wrote;
    wrote_done = λ e. refl;
    done_joined = λ e. (h.in_begin un begins).0;
    joined_tab = h.joined_tab;
    joined_begun = h.joined_begun;
    chief_begun = h.chief_begun;
    known = λ e. h.known (un_works b o un);
    unknown_at = λ u. is_known;
    unknown_aware = no_aware;
    old_joined = λ e v f j. absurd (never (ap is_unknown f) is_known);
    old_before = λ e v f j. absurd (never (ap is_unknown f) is_known);
    knows = no_aware;
    waits = λ e d f. absurd (never (h.in_begin un begins).0 (h.waits e d (un_works b o un)).0);
    cut_image = λ a e u. refl;
    gone = h.gone;
    slot_top = h.slot_top;
    slot_prev = λ a e d. h.slot_prev a e (λ q. absurd (true≢false (d q)));
    slot_cut = λ a e. absurd (never e unwritten);
    slot_pieces = λ a u e i l. absurd (omega (arith, no_pieces));
    noted = h.noted;
    sizes = (whole, h.sizes.1);
  }

cut_books : (b : Big) (o : Own) (m : Mind) (out got : Party → ℕ) → unaware b o ≡ true → Books b o m out got → Books b (o_cut o) (m_cut m o.image) out got
cut_books b o m out got un h = record { bounded = h.bounded; live = λ u. h.live un; at_cut = λ a e. h.live un }

-- ---- together

module _ (n : ℕ) (total : Party → ℕ) (v : View) (γ : Ghost) (i : Inv n total v γ) (c : ℕ) (un : unaware γ.big (v.own c) ≡ true)
    (begins : (v.own c).state ≡ CheckpBegin) (whole : Pictured (v.own c).image)
    (all : (d : ℕ) → used (v.side c d) ≡ true → (v.side c d).come ≡ true) where
  abbrev o' : Own
  o' = o_cut (v.own c)

  abbrev m' : Mind
  m' = m_cut (γ.mind c) (v.own c).image

  come_linked : (d : ℕ) → linked (γ.mind d) (γ.mind c) (γ.wire d c) ≡ true → (v.side c d).come ≡ true
  come_linked d k = all d (used_linked (i.core.pairs c d) un (linked_back n v γ i.core.ground d c k))

  from_one_lem : (j : ℕ) → Pair γ.big c j o' m' (v.own j) (γ.mind j) (v.side c j) (v.side j c) (v.lines c j) (γ.wire c j)
  from_one_lem j = cut_from _ _ _ _ _ _ _ _ _ _ _ (i.core.pairs c j) un begins (v.own c).image

  cut_pairs : (k j : ℕ) → PairAt (v_cut v c) (g_cut γ c (v.own c).image) k j
  cut_pairs =
      move_pairs v γ γ.big c o' m' (v.side c) v.lines v.slots γ.wire (λ k j d e. refl) (λ k j d e. refl) (λ k j d e. i.core.pairs k j)
      (λ j d. from_one_lem j) (cut_to _ _ _ _ _ _ _ _ _ _ _ (from_one_lem c) un begins (come_linked c) (v.own c).image)
      (λ k d. cut_to _ _ _ _ _ _ _ _ _ _ _ (i.core.pairs k c) un begins (come_linked k) (v.own c).image)

  -- while only the coordinator knows of the newest save, it cuts only if it works alone
  reached : γ.big.adopted ≡ false → c ≡ γ.big.chief → (j k : ℕ) → eqb j c ≡ true → works (v.own j).state ≡ true → works (v.own k).state ≡ true
      → v.sound j k ≡ true → eqb k c ≡ true
  reached ad ch j k e wj wk so = is_true (eqb k c) (λ f.
      let back : linked (γ.mind k) (γ.mind c) (γ.wire k c) ≡ true = linked_back n v γ i.core.ground c k link in
      never ((i.core.pairs k c).closed_joined back (closes (come_linked k back)))
      ((i.core.nodes k).waits ad (λ q. eqb-false k c f (q ∙ sym ch)) wk).0)
    where
      link : linked (γ.mind c) (γ.mind k) (γ.wire c k) ≡ true
      link =
          and_intro (i.core.ground.sound_links c k (ap (λ (y : ℕ). v.sound y k) (sym (eqb-true j c e)) ∙ so))
          (and_intro ((i.core.nodes c).placed (un_works γ.big (v.own c) un)) ((i.core.nodes k).placed wk))

      closes : (v.side c k).come ≡ true → closed γ.big (v.own c) (γ.mind c) (v.side c k) ≡ true
      closes y = or_right (γ.mind c).done _ (and_intro (ap (λ (s : State). is_in s CheckpBegin) begins) (and_intro un y))

  alone : γ.big.adopted ≡ false → (upd γ.mind c m' γ.big.chief).done ≡ true → (j : ℕ) → works (v.own j).state ≡ true → j ≡ γ.big.chief
  alone ad e j wj = elim (ℕ_discrete γ.big.chief c) [
    | yes q ↦ eqb-true j c
        (i.core.ground.reach (λ x. eqb x c) (reached ad (sym q)) c (un_works γ.big (v.own c) un) (eq-eqb c c refl) j wj)
        ∙ sym q
    | no d ↦ i.core.chain.alone ad (ap (λ (x : Mind). x.done) (sym (upd_other γ.mind c m' γ.big.chief d)) ∙ e) j wj
  ]

  cut_chain : ChainOf (v_cut v c) (g_cut γ c (v.own c).image)
  cut_chain =
      let h = i.core.chain in
      let b = γ.big in
      rw (
        kept (λ (x : Own). works x.state && not (b.faulted && in_recovery x.state)) v.own c o' (un_of b o' refl refl ∙ sym un),
        kept (λ (x : Own). works x.state) v.own c o' (sym (un_works b (v.own c) un)),
        kept (λ (x : Own). not (is_unknown x.version)) v.own c o' refl,
        kept (λ (x : Mind). x.tab) γ.mind c m' refl,
        kept (λ (x : Mind). x.joined) γ.mind c m' refl,
        kept (λ (x : Mind). x.wrote) γ.mind c m' refl,
      ) (record { no_commit = h.no_commit; lives = h.lives; alone = alone; company = h.company })

  pub cut_inv : Inv n total (v_cut v c) (g_cut γ c (v.own c).image)
  cut_inv = record {
    core = record {
      pairs = cut_pairs;
      nodes = move_nodes v γ γ.big c o' m' (v.side c) v.lines v.slots γ.wire (λ j d. refl) (λ j d. i.core.nodes j)
          (cut_node _ _ _ _ _ (i.core.nodes c) un begins whole);
      books = move_books v γ γ.big c o' m' (v.side c) v.lines v.slots γ.wire (λ j. refl) (λ j. refl) (λ j d. i.core.books j)
          (cut_books _ _ _ _ _ un (i.core.books c));
      leads = move_leads v γ γ.big c o' m' (v.side c) v.lines v.slots γ.wire (λ j d. i.core.leads j)
          (lead_same γ.big c (v.own c) o' (i.core.leads c) works_on unknowing refl refl refl (λ e. e));
      ground = move_ground v γ c o' m' (v.side c) v.lines v.slots γ.wire works_on refl (λ i j. refl) γ.big
          refl refl refl refl refl i.core.ground;
      chain = cut_chain;
      sums = move_sums total γ γ.big c m' γ.wire refl refl refl refl i.core.sums;
    };
    places = move_places v γ c o' m' (v.side c) v.lines v.slots γ.wire works_on refl (λ i j. refl) γ.big refl
        unknowing refl i.places;
    meets = move_meets v c o' (v.side c) v.lines v.slots works_on (λ d. refl) i.meets;
  }
    where
      works_on : works o'.state ≡ works (v.own c).state
      works_on = sym (un_works γ.big (v.own c) un)

      unknowing : aware γ.big o' ≡ aware γ.big (v.own c)
      unknowing = and-false γ.big.faulted ∙ sym (is_false (aware γ.big (v.own c)) (λ e. un_not_aware γ.big (v.own c) un e))
