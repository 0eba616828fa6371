-- Kind 7, fetch: a piece of the image comes from the slot of the home's version, which is that of the save that the rule gives; with the last
-- piece the cabinet holds its image in that save, and its registers start anew.
use Prim.Native.Nat.{ℕ, ◌+◌, ◌*◌, ◌<◌}
use mathlib.Core.Path.{◌≡◌, refl, sym, ap, ◌∙◌, subst, fun_ext}
use mathlib.Core.Logic.{inr, ⊎_elim}
use mathlib.Core.Bool.{Bool, true, false, cond, not, ◌&&◌, false≢true, true≢false}
use mathlib.Core.List.{List}
use lib.Dec.{ltb}
use borrow.Author.Tests.{ltb-true, ltb-false}
use native.Mathlib.Omega.{arith}
use Rattle.outlet.specs.declared.Party.{Party}
use Rattle.packet.specs.declared.Packet.{Packet}
use Rattle.state.specs.declared.State.{State}
use Rattle.state.specs.declared.State.TheVariants.{CheckpBegin, Checkpointing, Error, Recovering, Recovered}
use Rattle.image.specs.declared.Image.{Image}
use Rattle.state.specs.State.{is_in, works, in_restoring, is_unknown, bit_of}
use Rattle.image.specs.Image.{with_piece}
use Rattle.registers.specs.Registers.{start_registers}
use Rattle.cabinet.specs.Cabinet.{with_image, with_pieces, with_registers, with_state, fetched}
use Rattle.store.specs.Store.{home_in}
use Rattle.group.specs.declared.Group.{Group}
use Rattle.group.specs.Group.{cabinet, with_cabinet, state_of, slot}
use Rattle.protocol.specs.History.{History, upd, goes, note_known, note_cuts}
use Rattle.protocol.specs.Kinds.{fetch_refusal, fetch_piece}
use Rattle.claims.proofs.State.Fun.{never, is_true, is_false, and_true, and_intro, upd_same, kept_at}
use Rattle.claims.proofs.State.Every.{passed}
use Rattle.claims.proofs.State.View.{View, Own, Side, view, own_in, side_of, set_cabinet}
use Rattle.claims.proofs.State.Shape.{Pictured, shaped}
use Rattle.claims.proofs.State.Sim.{Fit, view_cabinet}
use Rattle.claims.proofs.State.Methods.{s_fresh, side_fetched}
use Rattle.claims.proofs.State.ViewMoves.{o_image, o_phase, o_pieces}
use Rattle.claims.proofs.Answers.Tests.{in_state}
use Rattle.claims.proofs.Invariant.States.{known_is_known, restoring_works, other_state}
use Rattle.claims.proofs.Invariant.Facts.{Big, Mind, Wire, Ghost, Pair, Node, Books, SameTo, aware, unaware, behind, closed}
use Rattle.claims.proofs.Invariant.Whole.{Inv, PairAt}
use Rattle.claims.proofs.Invariant.Past.{Past, Kept, past_turn, quiet_of}
use Rattle.claims.proofs.Invariant.Words.{un_not_aware, aware_works, aware_not_un, lead_same}
use Rattle.claims.proofs.Invariant.Frame.{same_ghost, minded, move_pairs, move_nodes, move_books, move_leads, move_ground, move_places, move_meets, move_chain, move_sums, quiet_inv}
use Rattle.claims.proofs.Invariant.Staying.{Stays, stays_on, Faults, no_fault_lem}
use Rattle.claims.proofs.Moves.Waking.{g_adopted, adopted_pair, adopted_node, adopted_books, adopted_lead}
use Rattle.claims.proofs.Moves.Pieces.{piece_more, all_pieces}
use Rattle.claims.proofs.Moves.Adopting.{past_adopted}

-- ---- the save that the rule gives is known to have been restored

pub adopted_inv : (n : ℕ) (total : Party → ℕ) (v : View) (γ : Ghost) → γ.big.faulted ≡ true → Inv n total v γ → Inv n total v (g_adopted γ)
adopted_inv n total v γ faulted i = record {
  core = record {
    pairs = λ c d. adopted_pair _ _ _ _ _ _ _ _ _ _ _ (i.core.pairs c d);
    nodes = λ c. adopted_node _ _ _ _ _ (i.core.nodes c);
    books = λ c. adopted_books _ _ _ _ _ (i.core.books c);
    leads = λ c. adopted_lead _ _ _ (i.core.leads c);
    ground = i.core.ground;
    chain = record {
      no_commit = i.core.chain.no_commit;
      lives = λ e. absurd (true≢false e);
      alone = λ e. absurd (true≢false e);
      company = λ j d w e. i.core.chain.company j d w (⊎_elim (λ f. absurd (never faulted f.0)) (λ f. inr f) e);
    };
    sums = record { least = i.core.sums.least; bases = i.core.sums.bases; tops = i.core.sums.tops; prevs = λ e. absurd (true≢false e) };
  };
  places = i.places;
  meets = i.meets;
}

-- ---- one piece, not the last

abbrev o_piece : Own → ℕ → Image → Own
o_piece o k x = o_image (o_pieces o k) x

-- neither the image nor the number of pieces is a matter to any pair
module _ (b : Big) (c d : ℕ) (o : Own) (m : Mind) (p : Own) (n : Mind) (s t : Side) (l : List Packet) (w : Wire)
    (h : Pair b c d o m p n s t l w) where
  pub piece_from : (k : ℕ) (x : Image) → Pair b c d (o_piece o k x) m p n s t l w
  piece_from k x = search

  pub piece_to_lem : (k : ℕ) (x : Image) → Pair b c d o m (o_piece p k x) n s t l w
  piece_to_lem k x = search

module _ (b : Big) (c : ℕ) (o : Own) (m : Mind) (z : Bool → Image) (h : Node b c o m z) (aw : aware b o ≡ true) (state : o.state ≡ Recovering) where
  no_calm : {A : Type 0} → unaware b o ≡ true → A
  no_calm u = absurd (un_not_aware b o u aw)

  piece_node : (k : ℕ) (x : Image) → k < 4 → SameTo (8 * k) x m.top → Node b c (o_piece o k x) m z
  piece_node k x l e =
      let ib : unaware b o ≡ true → o.state ≡ CheckpBegin → (m.joined ≡ true) × (m.done ≡ false) × (k ≡ 0) = no_calm in
      let ic : unaware b o ≡ true → o.state ≡ Checkpointing → (m.done ≡ true) × (m.wrote ≡ false) × (k < 4) = no_calm in
      let ie : aware b o ≡ true → o.state ≡ Error → k ≡ 0 = λ a e. absurd (other_state state refl e) in
      let ir : aware b o ≡ true → o.state ≡ Recovering → (k < 4) × SameTo (8 * k) x m.top = λ a q. (l, e) in
      let re : aware b o ≡ true → o.state ≡ Recovered → (x ≡ m.top) × (b.adopted ≡ true) = λ a e. absurd (other_state state refl e) in
      let cu : b.alive ≡ true → m.done ≡ true → unaware b o ≡ true → x ≡ m.cut = λ a d. no_calm in
      let sp : b.alive ≡ true → unaware b o ≡ true → o.state ≡ Checkpointing → SameTo (8 * k) (z (not b.topv)) m.cut = λ a. no_calm in
      search

  piece_books : (k : ℕ) (x : Image) (out got : Party → ℕ) → Books b o m out got → Books b (o_piece o k x) m out got
  piece_books k x out got f = record { bounded = f.bounded; live = no_calm; at_cut = f.at_cut }

abbrev pieced : View → ℕ → ℕ → Image → View
pieced v c k x = set_cabinet v c (o_piece (v.own c) k x) (v.side c)

module _ (n : ℕ) (total : Party → ℕ) (v : View) (γ : Ghost) (i : Inv n total v γ) (c : ℕ) (aw : aware γ.big (v.own c) ≡ true)
    (state : (v.own c).state ≡ Recovering) (k : ℕ) (x : Image) (l : k < 4) (e : SameTo (8 * k) x (γ.mind c).top) where
  abbrev o' : Own
  o' = o_piece (v.own c) k x

  pieced_pairs : (j d : ℕ) → PairAt (pieced v c k x) (minded γ γ.big c (γ.mind c) γ.wire) j d
  pieced_pairs =
      let h = i.core.pairs in
      move_pairs v γ γ.big c o' (γ.mind c) (v.side c) v.lines v.slots γ.wire (λ j d f q. refl) (λ j d f q. refl) (λ j d f q. h j d)
      (λ d f. piece_from _ _ _ _ _ _ _ _ _ _ _ (h c d) k x)
      (piece_to_lem _ _ _ _ _ _ _ _ _ _ _ (piece_from _ _ _ _ _ _ _ _ _ _ _ (h c c) k x) k x)
      (λ d f. piece_to_lem _ _ _ _ _ _ _ _ _ _ _ (h d c) k x)

  pieced_inv : Inv n total (pieced v c k x) γ
  pieced_inv =
      subst (λ (δ : Ghost). Inv n total (pieced v c k x) δ) (same_ghost γ c)
      (quiet_inv n total v γ i c o' (γ.mind c) (v.side c) v.lines v.slots γ.wire
      (refl, refl, refl, refl, refl, refl, refl) (refl, refl, refl, refl, refl, refl, refl) (λ j d. refl) (λ d. refl)
      pieced_pairs
      (move_nodes v γ γ.big c o' (γ.mind c) (v.side c) v.lines v.slots γ.wire (λ j d. refl) (λ j d. i.core.nodes j)
      (piece_node _ _ _ _ _ (i.core.nodes c) aw state k x l e))
      (move_books v γ γ.big c o' (γ.mind c) (v.side c) v.lines v.slots γ.wire (λ j. refl) (λ j. refl) (λ j d. i.core.books j)
      (piece_books _ _ _ _ _ (i.core.nodes c) aw state k x _ _ (i.core.books c))))

-- ---- the last piece

abbrev o_last : Own → Image → Own
o_last o x = o_piece (o_phase o Recovered o.version o.alarm) 4 x

module _ (b : Big) (o : Own) (x : Image) (aw : aware b o ≡ true) where
  last_aware : aware b (o_last o x) ≡ true
  last_aware = and_intro (and_true {s = b.faulted} aw).0 refl

  no_last_calm : {A : Type 0} → unaware b (o_last o x) ≡ true → A
  no_last_calm u = absurd (un_not_aware b (o_last o x) u last_aware)

  no_last_behind : {A : Type 0} (m : Mind) → behind b (o_last o x) m ≡ true → A
  no_last_behind m e = no_last_calm (and_true {s = unaware b (o_last o x)} e).0

  -- a fault packet heard by a cabinet that is aware either way
  heard_before : (t : Bool) → (aware b (o_last o x) && t) ≡ true → (aware b o && t) ≡ true
  heard_before t e = and_intro aw (and_true {s = aware b (o_last o x)} e).1

  unheard_before : (t : Bool) → (aware b (o_last o x) && t) ≡ false → (aware b o && t) ≡ false
  unheard_before t e = is_false _ (λ f. never (and_intro last_aware (and_true {s = aware b o} f).1) e)

module _ (b : Big) (c d : ℕ) (o : Own) (m : Mind) (p : Own) (n : Mind) (s t : Side) (l : List Packet) (w : Wire)
    (h : Pair b c d o m p n s t l w) (x : Image) where
  module _ (aw : aware b o ≡ true) where
    calm_no : {A : Type 0} → unaware b (o_last o x) ≡ true → A
    calm_no u = no_last_calm b o x aw u

    pub last_from : Pair b c d (o_last o x) m p n (s_fresh s) t l w
    last_from = record {
      table = calm_no;
      struck = λ a. h.struck aw;
      closed_joined = h.closed_joined;
      closed_equal = h.closed_equal;
      closed_empty = λ j e. calm_no;
      apart = h.apart;
      owes = λ e. absurd (un_not_aware b o (h.owes e).2 aw);
      owes_home = h.owes_home;
      reported = λ e f. calm_no;
      begun_bare = λ e f. calm_no;
      readied = λ a. h.readied aw;
      ready_heard = h.ready_heard;
      silent = λ e. h.silent (rw (aware_works b o aw) e);
      alarms = λ a. h.alarms aw;
      unheard = λ a. h.unheard aw;
      heard = h.heard;
      heard_of = λ e. (last_aware b o x aw, (h.heard_of e).1);
      no_fault = calm_no;
      no_checkp = calm_no;
      last_checkp = calm_no;
      behind_empty = no_last_behind b o x aw m;
      resumed = λ j. calm_no;
      came = h.came;
      tail_heard = h.tail_heard;
      stream = λ j. calm_no;
      fresh = λ a e. (refl, refl, refl);
      room = calm_no;
      sound = h.sound;
      unhurt = h.unhurt;
      no_more = h.no_more;
      small = h.small;
      fit = h.fit;
    }

  module _ (aw : aware b p ≡ true) where
    calm_none : {A : Type 0} → unaware b (o_last p x) ≡ true → A
    calm_none u = no_last_calm b p x aw u

    closed_before : closed b (o_last p x) n (s_fresh t) ≡ true → closed b p n t ≡ true
    closed_before e = go n.done refl
      where
        go : (u : Bool) → n.done ≡ u → closed b p n t ≡ true
        go true f = rw f
        go false f = absurd (false≢true (rw f at e))

    pub last_to : Pair b c d o m (o_last p x) n s (s_fresh t) l w
    last_to = record {
      table = h.table;
      struck = h.struck;
      closed_joined = λ j e. h.closed_joined j (closed_before e);
      closed_equal = λ j e. h.closed_equal j (closed_before e);
      closed_empty = λ j e. h.closed_empty j (closed_before e);
      apart = h.apart;
      owes = h.owes;
      owes_home = h.owes_home;
      reported = h.reported;
      begun_bare = h.begun_bare;
      readied = h.readied;
      ready_heard = h.ready_heard;
      silent = λ e. h.silent (rw (aware_works b p aw) e);
      alarms = h.alarms;
      unheard = λ a us wp f. h.unheard a us (aware_works b p aw) (unheard_before b p x aw t.heard f);
      heard = λ e. h.heard (heard_before b p x aw t.heard e);
      heard_of = λ e. h.heard_of (heard_before b p x aw t.heard e);
      no_fault = h.no_fault;
      no_checkp = h.no_checkp;
      last_checkp = h.last_checkp;
      behind_empty = h.behind_empty;
      resumed = λ j u f. no_last_behind b p x aw n;
      came = λ j. calm_none;
      tail_heard = λ j. calm_none;
      stream = λ j u. calm_none;
      fresh = h.fresh;
      room = h.room;
      sound = h.sound;
      unhurt = λ e. calm_none;
      no_more = h.no_more;
      small = h.small;
      fit = h.fit;
    }

module _ (b : Big) (c : ℕ) (o : Own) (m : Mind) (z : Bool → Image) (h : Node b c o m z) (aw : aware b o ≡ true) (state : o.state ≡ Recovering)
    (adopted : b.adopted ≡ true) (x : Image) where
  none_calm : {A : Type 0} → unaware b (o_last o x) ≡ true → A
  none_calm u = no_last_calm b o x aw u

  no_first : {A : Type 0} → b.adopted ≡ false → A
  no_first e = absurd (never adopted e)

  recovered_not : {A : Type 0} (s : State) → is_in Recovered s ≡ false → Recovered ≡ s → A
  recovered_not s f e = absurd (other_state refl f e)

  last_node : x ≡ m.top → Node b c (o_last o x) m z
  last_node same =
      let at_work = aware_works b o aw in
      record {
        placed = λ e. h.placed at_work;
        present = λ e f. refl;
        running = refl;
        quiet = λ e. absurd (never (and_true {s = b.faulted} aw).0 e);
        place_known = λ a. h.place_known aw;
        in_normal = none_calm;
        in_begin = none_calm;
        in_checkpointing = none_calm;
        in_checkpointed = none_calm;
        chief_saved = none_calm;
        in_recovered = none_calm;
        in_error = λ a. recovered_not Error refl;
        in_recovering = λ a. recovered_not Recovering refl;
        restored = λ a e. (same, adopted);
        ready_is = λ e. (last_aware b o x aw, refl);
        told_wrote = h.told_wrote;
        wrote_done = h.wrote_done;
        done_joined = h.done_joined;
        joined_tab = h.joined_tab;
        joined_begun = h.joined_begun;
        chief_begun = h.chief_begun;
        known = λ e. h.known at_work;
        unknown_at = none_calm;
        unknown_aware = λ a. h.unknown_aware aw ∙ rw state;
        old_joined = λ e. h.old_joined at_work;
        old_before = λ e. h.old_before at_work;
        knows = λ a. h.knows aw;
        waits = no_first;
        cut_image = λ a e. none_calm;
        gone = h.gone;
        slot_top = h.slot_top;
        slot_prev = λ e. no_first e;
        slot_cut = h.slot_cut;
        slot_pieces = λ a. none_calm;
        noted = h.noted;
        sizes = h.sizes;
      }

  last_books : (out got : Party → ℕ) → Books b o m out got → Books b (o_last o x) m out got
  last_books out got f = record { bounded = f.bounded; live = none_calm; at_cut = f.at_cut }

abbrev lasted : View → ℕ → Image → View
lasted v c x = set_cabinet v c (o_last (v.own c) x) (λ d. s_fresh (v.side c d))

module _ (n : ℕ) (total : Party → ℕ) (v : View) (γ : Ghost) (i : Inv n total v γ) (c : ℕ) (aw : aware γ.big (v.own c) ≡ true)
    (state : (v.own c).state ≡ Recovering) (adopted : γ.big.adopted ≡ true) (x : Image) (same : x ≡ (γ.mind c).top) where
  abbrev o'' : Own
  o'' = o_last (v.own c) x

  abbrev s'' : ℕ → Side
  s'' d = s_fresh (v.side c d)

  work_same : works o''.state ≡ works (v.own c).state
  work_same = sym (aware_works γ.big (v.own c) aw)

  aware_same : aware γ.big o'' ≡ aware γ.big (v.own c)
  aware_same = last_aware γ.big (v.own c) x aw ∙ sym aw

  calm_same : unaware γ.big o'' ≡ unaware γ.big (v.own c)
  calm_same = aware_not_un γ.big o'' (last_aware γ.big (v.own c) x aw) ∙ sym (aware_not_un γ.big (v.own c) aw)

  lasted_pairs : (j d : ℕ) → PairAt (lasted v c x) (minded γ γ.big c (γ.mind c) γ.wire) j d
  lasted_pairs =
      let h = i.core.pairs in
      move_pairs v γ γ.big c o'' (γ.mind c) s'' v.lines v.slots γ.wire (λ j d f q. refl) (λ j d f q. refl) (λ j d f q. h j d)
      (λ d f. last_from _ _ _ _ _ _ _ _ _ _ _ (h c d) x aw)
      (last_to _ _ _ _ _ _ _ _ _ _ _ (last_from _ _ _ _ _ _ _ _ _ _ _ (h c c) x aw) x aw)
      (λ d f. last_to _ _ _ _ _ _ _ _ _ _ _ (h d c) x aw)

  lasted_inv : Inv n total (lasted v c x) γ
  lasted_inv = subst (λ (δ : Ghost). Inv n total (lasted v c x) δ) (same_ghost γ c) (record {
    core = record {
      pairs = lasted_pairs;
      nodes = move_nodes v γ γ.big c o'' (γ.mind c) s'' v.lines v.slots γ.wire (λ j d. refl) (λ j d. i.core.nodes j)
          (last_node _ _ _ _ _ (i.core.nodes c) aw state adopted x same);
      books = move_books v γ γ.big c o'' (γ.mind c) s'' v.lines v.slots γ.wire (λ j. refl) (λ j. refl) (λ j d. i.core.books j)
          (last_books _ _ _ _ _ (i.core.nodes c) aw state adopted x _ _ (i.core.books c));
      leads = move_leads v γ γ.big c o'' (γ.mind c) s'' v.lines v.slots γ.wire (λ j d. i.core.leads j)
          (lead_same γ.big c (v.own c) o'' (i.core.leads c) work_same aware_same refl refl refl (λ e. e));
      ground = move_ground v γ c o'' (γ.mind c) s'' v.lines v.slots γ.wire work_same refl (λ j d. refl) γ.big
          refl refl refl refl refl i.core.ground;
      chain = move_chain v γ c o'' (γ.mind c) s'' v.lines v.slots γ.wire work_same calm_same refl refl refl refl refl i.core.chain;
      sums = move_sums total γ γ.big c (γ.mind c) γ.wire refl refl refl refl i.core.sums;
    };
    places = move_places v γ c o'' (γ.mind c) s'' v.lines v.slots γ.wire work_same refl (λ j d. refl) γ.big
        refl aware_same refl i.places;
    meets = move_meets v c o'' s'' v.lines v.slots work_same (λ d. refl) i.meets;
  })

-- ---- the step

module _ (total : Party → ℕ) (g : Group) (h : History) (γ : Ghost) (w : Fit g) (i : Inv g.n total (view g) γ) (past : Past g.n (view g) γ h)
    (a : ℕ) (la : a < 8) (fine : fetch_refusal g a ≡ 0) where
  abbrev v : View
  v = view g

  abbrev home : ℕ
  home = home_in g.store a

  state : state_of g a ≡ Recovering
  state = (in_state (state_of g a) Recovering).0 (passed (is_in (state_of g a) Recovering) 13 _ fine).0

  home_restores : in_restoring (state_of g home) ≡ true
  home_restores = (passed (in_restoring (state_of g home)) 18 0 (passed (is_in (state_of g a) Recovering) 13 _ fine).1).0

  -- nobody is in recovering where no fault was
  faulted : γ.big.faulted ≡ true
  faulted = is_true γ.big.faulted (λ e. never ((in_state (state_of g a) Recovering).1 state) ((i.core.nodes a).quiet e).1)

  aw : aware γ.big (v.own a) ≡ true
  aw = and_intro faulted (rw state)

  home_aware : aware γ.big (v.own home) ≡ true
  home_aware = and_intro faulted (restoring_works (state_of g home) home_restores).0

  -- the home's version is known, so it names the save that the rule gives
  home_version : bit_of (cabinet g home).phase.version ≡ γ.big.topv
  home_version =
      (i.core.nodes home).known (aware_works γ.big (v.own home) home_aware) (bit_of (v.own home).version)
      (known_is_known (v.own home).version ((i.core.nodes home).unknown_aware home_aware ∙ (restoring_works (state_of g home) home_restores).1))

  abbrev k : ℕ
  k = (cabinet g a).noted.pieces

  abbrev from : Image
  from = slot g home a (bit_of (cabinet g home).phase.version)

  abbrev x : Image
  x = with_piece k from (cabinet g a).image

  top : from ≡ (γ.mind a).top
  top = ap (slot g home a) home_version ∙ (i.core.nodes a).slot_top ((i.core.nodes a).placed (aware_works γ.big (v.own a) aw))

  few : k < 4
  few = ((i.core.nodes a).in_recovering aw state).0

  more : SameTo (8 * (k + 1)) x (γ.mind a).top
  more =
      subst (λ (y : Image). SameTo (8 * (k + 1)) (with_piece k y (cabinet g a).image) (γ.mind a).top) (sym top)
      (piece_more k (γ.mind a).top (cabinet g a).image (w.cabs a).image few ((i.core.nodes a).in_recovering aw state).1)

  pictured : Pictured x
  pictured = shaped.pieced k from (cabinet g a).image (w.slots home a (bit_of (cabinet g home).phase.version)) (w.cabs a).image

  abbrev g' : Group
  g' = fetch_piece g a

  piece_seen : ltb k 3 ≡ true → view g' ≡ pieced v a (k + 1) x
  unfolding fetch_piece
  piece_seen e =
      ap (λ (t : Bool). view (with_cabinet g a (cond t (with_image (with_pieces (cabinet g a) (k + 1)) x)
      (with_image (with_registers (with_pieces (with_state (cabinet g a) Recovered) 4) start_registers) x)))) e
      ∙ view_cabinet g w.frame a _ la

  last_seen : ltb k 3 ≡ false → view g' ≡ lasted v a x
  unfolding fetch_piece
  last_seen e =
      view_cabinet g w.frame a (fetched (cabinet g a) x) la
      ∙ (λ t. set_cabinet v a (own t) (side t))
    where
      own : own_in g a (fetched (cabinet g a) x) ≡ o_last (v.own a) x
      own = rw e

      side : side_of (fetched (cabinet g a) x) ≡ (λ d. s_fresh (v.side a d))
      side = fun_ext (λ d. side_fetched (cabinet g a) x d ∙ rw e)

  -- its version is known
  sure : is_unknown (v.own a).version ≡ false
  sure = (i.core.nodes a).unknown_aware aw ∙ rw state

  -- no cabinet but this one changes its state, and it stays in the recovery
  module _ (o : Own) (restores : in_restoring o.state ≡ true) (seen : (view g').own ≡ upd v.own a o) where
    past_kept : {δ : Ghost} {e : History} → Past g.n v δ e → Past g.n (view g') δ (note_cuts e g g')
    past_kept =
        past_turn g g' a o (λ c. ap (λ (y : ℕ → Own). (y c).state) seen)
        ((restoring_works o.state restores).4 ∙ sym (aware_works γ.big (v.own a) aw)) (restoring_works o.state restores).2

    stays_so : (δ : Ghost) → Faults v γ δ
        → (o.version ≡ (v.own a).version) × (o.alarm ≡ (v.own a).alarm) × (o.lead ≡ (v.own a).lead) × (o.former ≡ (v.own a).former)
        → ((d j : ℕ) → ((view g').side d j).unsure ≡ (v.side d j).unsure) → Stays v γ (view g') δ
    stays_so δ f same sides =
        stays_on v γ (quiet_of i) (view g') δ a o seen f aw (restoring_works o.state restores).0 (same.1, same.2, same.3) sides
        (restoring_works o.state restores).1 (ap is_unknown same.0 ∙ sure) (λ u. absurd (never u sure))

    goes_is : goes g g' a Recovering Recovered ≡ is_in o.state Recovered
    goes_is =
        ap (λ (s : State). is_in s Recovering && is_in (state_of g' a) Recovered) state
        ∙ ap (λ (y : ℕ → Own). is_in (y a).state Recovered) seen
        ∙ ap (λ (y : Own). is_in y.state Recovered) (upd_same v.own a o)

  abbrev Owed : Type 0
  Owed = Kept total g γ g' (note_cuts (note_known (goes g g' a Recovering Recovered) h) g g')

  keeps_piece : ltb k 3 ≡ true → Owed
  keeps_piece e =
      let seen = piece_seen e in
      let o : Own = o_piece (v.own a) (k + 1) x in
      let still : in_restoring o.state ≡ true = rw state in
      let own : (view g').own ≡ upd v.own a o = ap (λ (u : View). u.own) seen in
      let none : goes g g' a Recovering Recovered ≡ false = goes_is o still own ∙ rw state in
      record {
        ghost = γ;
        inv = subst (λ (u : View). Inv g.n total u γ) (sym seen)
            (pieced_inv g.n total v γ i a aw state (k + 1) x (omega (arith, ltb-true k 3 e)) more);
        past = subst (λ (t : Bool). Past g.n (view g') γ (note_cuts (note_known t h) g g')) (sym none)
            (past_kept o still own past);
        stays = stays_so o still own γ no_fault_lem (refl, refl, refl, refl)
            (λ d j. ap (λ (u : View). (u.side d j).unsure) seen ∙ ap (λ (s : ℕ → Side). (s j).unsure) (kept_at (λ (s : ℕ → Side). s) v.side a (v.side a) refl d));
      }

  keeps_last : ltb k 3 ≡ false → Owed
  keeps_last e =
      let seen = last_seen e in
      let o : Own = o_last (v.own a) x in
      let own : (view g').own ≡ upd v.own a o = ap (λ (u : View). u.own) seen in
      let is-three : k + 1 ≡ 4 = omega (arith, ltb-false k 3 e, few) in
      let whole : x ≡ (γ.mind a).top =
      all_pieces x (γ.mind a).top pictured (i.core.nodes a).sizes.1.0
      (subst (λ (j : ℕ). SameTo (8 * j) x (γ.mind a).top) is-three more) in
      record {
        ghost = g_adopted γ;
        inv = subst (λ (u : View). Inv g.n total u (g_adopted γ)) (sym seen)
            (lasted_inv g.n total v (g_adopted γ) (adopted_inv g.n total v γ faulted i) a aw state refl x whole);
        past = subst (λ (t : Bool). Past g.n (view g') (g_adopted γ) (note_cuts (note_known t h) g g')) (sym (goes_is o refl own))
            (past_kept o refl own (past_adopted g.n v γ h past));
        stays = stays_so o refl own (g_adopted γ) no_fault_lem (refl, refl, refl, refl)
            (λ d j. ap (λ (u : View). (u.side d j).unsure) seen ∙ kept_at (λ (s : ℕ → Side). (s j).unsure) v.side a (λ c. s_fresh (v.side a c)) refl d);
      }

  pub keeps_fetch : Owed
  keeps_fetch = go (ltb k 3) refl
    where
      go : (t : Bool) → ltb k 3 ≡ t → Owed
      go true e = keeps_piece e
      go false e = keeps_last e
