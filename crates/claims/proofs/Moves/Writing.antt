-- Kind 5, write: a piece of the cut goes to the slot that the save under way will name; with the last one the cabinet has written, and
-- its home owes the report.
use Prim.Native.Nat.{ℕ, ◌+◌, ◌*◌, ◌<◌}
use mathlib.Core.Path.{◌≡◌, refl, sym, ap, ◌∙◌, subst}
use mathlib.Core.Logic.{◌≢◌, ◌⊎◌, inl, inr, ⊎_elim}
use mathlib.Core.Bool.{Bool, true, false, cond, not, ◌&&◌, false≢true, true≢false}
use mathlib.Core.List.{List}
use lib.Dec.{eqb, ltb}
use borrow.Author.Tests.{eq-eqb, ne_eqb, ltb-true, ltb-false}
use native.Mathlib.Omega.{arith}
use native.Mathlib.Decide.{ℕ_discrete}
use Rattle.outlet.specs.declared.Party.{Party}
use Rattle.packet.specs.declared.Packet.{Packet}
use Rattle.state.specs.declared.State.{State}
use Rattle.state.specs.declared.State.TheVariants.{CheckpBegin, Checkpointing, Checkpointed, Error, Recovering}
use Rattle.state.specs.declared.Version.{Version}
use Rattle.state.specs.declared.Version.TheVariants.{Known, Unknown, Lost}
use Rattle.image.specs.declared.Image.{Image}
use Rattle.cabinet.specs.declared.Cabinet.{Cabinet}
use Rattle.state.specs.State.{is_in, works, in_recovery, is_unknown, bit_of, doubted}
use Rattle.image.specs.Image.{with_piece}
use Rattle.cabinet.specs.Cabinet.{coordinator, wrote}
use Rattle.store.specs.Store.{is_present, home_in}
use Rattle.group.specs.declared.Group.{Group}
use Rattle.group.specs.Group.{cabinet, with_store, state_of, slot}
use Rattle.protocol.specs.Kinds.{need, write_refusal, piece_saved, write_piece, owe_if}
use Rattle.protocol.specs.History.{History, note_cuts, upd}
use Rattle.claims.proofs.State.Fun.{never, not_true_false, cond_elim, is_false, and_true, upd_elim, upd_same, upd_other, kept_at, kept_pair}
use Rattle.claims.proofs.State.Every.{passed, ok_piece, ok_write_piece}
use Rattle.claims.proofs.State.View.{View, Own, Side, own_of, own_in, side_of, same, view, set_cabinet, set_slot}
use Rattle.claims.proofs.State.Shape.{Shaped, Lined, Pictured, shaped}
use Rattle.claims.proofs.State.Sim.{Fit, view_cabinet, view_piece}
use Rattle.claims.proofs.State.Methods.{s_owed}
use Rattle.claims.proofs.State.ViewMoves.{o_pieces, v_owe, sim_owe}
use Rattle.claims.proofs.Answers.Tests.{in_state}
use Rattle.claims.proofs.Invariant.States.{known_is_known, known_not_lost, unknown_not_lost, other_state}
use Rattle.claims.proofs.Invariant.Facts.{Big, Mind, Wire, Ghost, Pair, Node, Books, SameTo, aware, unaware, behind, closed}
use Rattle.claims.proofs.Invariant.Whole.{Inv, PairAt, NodeAt, ChainOf, work_of, calm_of, known_of, tab_of, out_of, got_of}
use Rattle.claims.proofs.Invariant.Past.{Past, Kept, no_cuts, past_view, calm_stays}
use Rattle.claims.proofs.Invariant.Words.{un_works, un_not_aware, un_of, chief_of, lead_same}
use Rattle.claims.proofs.Invariant.Frame.{same_ghost, moved, minded, move_pairs, move_nodes, move_books, move_leads, move_ground, move_places, move_meets, move_sums, quiet_inv}
use Rattle.claims.proofs.Invariant.Marking.{mark_inv, past_mind}
use Rattle.claims.proofs.Invariant.Staying.{Stays, phase_same, stays_marked, no_fault_lem}
use Rattle.claims.proofs.Moves.Pieces.{piece_more, all_pieces}

-- in a saving state no fault is known
pub saving_calm : (b : Big) (o : Own) → o.state ≡ Checkpointed → unaware b o ≡ true
saving_calm b o e = un_of b o (rw e) (rw e)

-- ---- a piece more, no matter to any pair

module _ (b : Big) (c d : ℕ) (o : Own) (m : Mind) (p : Own) (n : Mind) (s t : Side) (l : List Packet) (w : Wire) (h : Pair b c d o m p n s t l w) where
  pub pieces_from : (x : ℕ) → Pair b c d (o_pieces o x) m p n s t l w
  pieces_from x = search

  pub pieces_to : (x : ℕ) → Pair b c d o m (o_pieces p x) n s t l w
  pieces_to x = search

-- ---- the last piece

abbrev pub o_written : Own → Version → Own
o_written o x = record { state = Checkpointed; version = x; alarm = o.alarm; pieces = 4; image = o.image; home = o.home; present = o.present; lead = o.lead; former = o.former }

abbrev pub m_wrote : Mind → Mind
m_wrote m = record { tab = m.tab; joined = m.joined; done = m.done; wrote = true; told = m.told; ready = m.ready; cut = m.cut; base = m.base; top = m.top; prev = m.prev }

module _ (b : Big) (o : Own) (x : Version) where
  abbrev o' : Own
  o' = o_written o x

  pub calm_after : unaware b o' ≡ true
  calm_after = saving_calm b o' refl

  pub not_aware_after : {A : Type 0} → aware b o' ≡ true → A
  not_aware_after e = absurd (un_not_aware b o' calm_after e)

  -- one that has joined waits for no resume
  pub not_behind_after : (m : Mind) → m.joined ≡ true → {A : Type 0} → behind b o' m ≡ true → A
  not_behind_after m j e = absurd (never (rw j at (and_true {s = unaware b o'} e).1) refl)

module _ (b : Big) (c d : ℕ) (o : Own) (m : Mind) (p : Own) (n : Mind) (s t : Side) (l : List Packet) (w : Wire) (h : Pair b c d o m p n s t l w) (x : Version) where
  not_behind_before : o.state ≡ Checkpointing → behind b o m ≡ false
  not_behind_before at = is_false (behind b o m) (λ e. never (rw at at (and_true {s = unaware b o} e).1) refl)

  pub written_from : unaware b o ≡ true → o.state ≡ Checkpointing → m.joined ≡ true → Pair b c d (o_written o x) (m_wrote m) p n s t l w
  written_from un at j =
      record {
        table = λ u. h.table un;
        struck = λ e. not_aware_after b o x e;
        closed_joined = h.closed_joined;
        closed_equal = h.closed_equal;
        closed_empty = λ k e u. h.closed_empty k e un;
        apart = h.apart;
        owes = λ e. let f = h.owes e in (f.0, f.1, calm_after b o x);
        owes_home = h.owes_home;
        reported = λ e f u g. h.reported e (rw at) un g;
        begun_bare = λ e f. absurd (false≢true f);
        readied = λ e. not_aware_after b o x e;
        ready_heard = h.ready_heard;
        silent = λ e. h.silent (rw at e);
        alarms = λ e. not_aware_after b o x e;
        unheard = λ e. not_aware_after b o x e;
        heard = h.heard;
        heard_of = λ e. absurd (un_not_aware b o un (h.heard_of e).0);
        no_fault = λ u. h.no_fault un;
        no_checkp = λ u. h.no_checkp un;
        last_checkp = λ u. h.last_checkp un;
        behind_empty = not_behind_after b o x m j;
        resumed = λ k u f g. h.resumed k un (not_behind_before at) g;
        came = h.came;
        tail_heard = h.tail_heard;
        stream = λ k u up. h.stream k un up;
        fresh = λ e. not_aware_after b o x e;
        room = λ u. h.room un;
        sound = h.sound;
        unhurt = h.unhurt;
        no_more = h.no_more;
        small = h.small;
        fit = h.fit;
      }

  pub written_to : unaware b p ≡ true → p.state ≡ Checkpointing → n.done ≡ true → n.joined ≡ true → Pair b c d o m (o_written p x) (m_wrote n) s t l w
  written_to un at done j =
      let cl : closed b p n t ≡ true = rw done in
      let na : (aware b p && t.heard) ≡ false = is_false (aware b p && t.heard) (λ e. un_not_aware b p un (and_true {s = aware b p} e).0) in
      record {
        table = h.table;
        struck = h.struck;
        closed_joined = λ k e. h.closed_joined k cl;
        closed_equal = λ k e. h.closed_equal k cl;
        closed_empty = λ k e. h.closed_empty k cl;
        apart = h.apart;
        owes = λ e. let f = h.owes e in (refl, f.1, f.2);
        owes_home = h.owes_home;
        reported = λ e f u g. (refl, (h.reported e f u g).1);
        begun_bare = h.begun_bare;
        readied = h.readied;
        ready_heard = h.ready_heard;
        silent = λ e. h.silent (rw at e);
        alarms = h.alarms;
        unheard = λ a u f e. h.unheard a u (rw at) na;
        heard = λ e. not_aware_after b p x (and_true {s = aware b (o_written p x)} e).0;
        heard_of = λ e. not_aware_after b p x (and_true {s = aware b (o_written p x)} e).0;
        no_fault = h.no_fault;
        no_checkp = h.no_checkp;
        last_checkp = h.last_checkp;
        behind_empty = h.behind_empty;
        resumed = λ k u f. not_behind_after b p x n j;
        came = λ k u e. h.came k un (rw at);
        tail_heard = λ k u e. absurd (false≢true e);
        stream = λ k u up. h.stream k u un;
        fresh = h.fresh;
        room = h.room;
        sound = h.sound;
        unhurt = λ e u. h.unhurt e un;
        no_more = h.no_more;
        small = h.small;
        fit = h.fit;
      }

-- ---- the cabinet: y are its slots with the piece written

module _ (b : Big) (c : ℕ) (o : Own) (m : Mind) (z y : Bool → Image) (h : Node b c o m z) (un : unaware b o ≡ true) (at : o.state ≡ Checkpointing)
    (keeps : y b.topv ≡ z b.topv) where
  abbrev has : (m.done ≡ true) × (m.wrote ≡ false) × (o.pieces < 4)
  has = h.in_checkpointing un at

  is_joined : m.joined ≡ true
  is_joined = h.done_joined has.0

  not_aware : {A : Type 0} → aware b o ≡ true → A
  not_aware e = absurd (un_not_aware b o un e)

  -- whoever has joined waits for no resume of the save before
  not_waiting : {A : Type 0} → b.adopted ≡ false → c ≢ b.chief → A
  not_waiting e n = absurd (never is_joined (h.waits e n (un_works b o un)).0)

  -- nor does the coordinator, which has its cut
  not_before : {A : Type 0} → b.adopted ≡ false → (c ≡ b.chief → m.done ≡ false) → A
  not_before e d = not_waiting e (λ q. never has.0 (d q))

  not_gone : {A : Type 0} → m.tab ≡ false → A
  not_gone e = absurd (never (h.placed (un_works b o un)) e)

  pub part_node : o.pieces < 3 → (b.alive ≡ true → SameTo (8 * (o.pieces + 1)) (y (not b.topv)) m.cut) → Node b c (o_pieces o (o.pieces + 1)) m y
  part_node few more =
      let ib : unaware b o ≡ true → o.state ≡ CheckpBegin → (m.joined ≡ true) × (m.done ≡ false) × (o.pieces + 1 ≡ 0) = λ u e. absurd (other_state at refl e) in
      let ic : unaware b o ≡ true → o.state ≡ Checkpointing → (m.done ≡ true) × (m.wrote ≡ false) × (o.pieces + 1 < 4) = λ u e. (has.0, has.1, omega arith) in
      let ie : aware b o ≡ true → o.state ≡ Error → o.pieces + 1 ≡ 0 = not_aware in
      let ir : aware b o ≡ true → o.state ≡ Recovering → (o.pieces + 1 < 4) × SameTo (8 * (o.pieces + 1)) o.image m.top = not_aware in
      let st : m.tab ≡ true → y b.topv ≡ m.top = λ e. keeps ∙ h.slot_top e in
      let sp : b.adopted ≡ false → m.tab ≡ true → (c ≡ b.chief → m.done ≡ false) → y (not b.topv) ≡ m.prev = λ e t d. not_before e d in
      let sc : b.alive ≡ true → m.wrote ≡ true → y (not b.topv) ≡ m.cut = λ e f. absurd (never f has.1) in
      let sl : b.alive ≡ true → unaware b o ≡ true → o.state ≡ Checkpointing → SameTo (8 * (o.pieces + 1)) (y (not b.topv)) m.cut = λ e f k. more e in
      let sn : m.tab ≡ false → y (bit_of o.version) ≡ m.top = not_gone in
      search

  module _ (x : Version) (mine : c ≡ b.chief → x ≡ Known b.topv) (other : c ≢ b.chief → x ≡ Unknown b.topv) where
    known_is : (v : Bool) → x ≡ Known v → v ≡ b.topv
    known_is v e = elim (ℕ_discrete c b.chief) [
      | yes q ↦ ap bit_of (sym e ∙ mine q)
      | no d ↦ absurd (false≢true (ap is_unknown (sym e ∙ other d)))
    ]

    unknown_is : (v : Bool) → x ≡ Unknown v → v ≡ b.topv
    unknown_is v e = elim (ℕ_discrete c b.chief) [
      | yes q ↦ absurd (true≢false (ap is_unknown (sym e ∙ mine q)))
      | no d ↦ ap bit_of (sym e ∙ other d)
    ]

    unknown_others : is_unknown x ≡ not (eqb c b.chief)
    unknown_others = elim (ℕ_discrete c b.chief) [
      | yes q ↦ ap is_unknown (mine q) ∙ sym (ap not (eq-eqb c b.chief q))
      | no d ↦ ap is_unknown (other d) ∙ sym (ap not (ne_eqb c b.chief d))
    ]

    pub last_node : (b.alive ≡ true → y (not b.topv) ≡ m.cut) → Node b c (o_written o x) (m_wrote m) y
    last_node all = record {
      placed = λ e. h.placed (un_works b o un);
      present = λ e f. refl;
      running = refl;
      quiet = λ e. (refl, refl);
      place_known = λ e. not_aware_after b o x e;
      in_normal = λ u e. absurd (other_state refl refl e);
      in_begin = λ u e. absurd (other_state refl refl e);
      in_checkpointing = λ u e. absurd (other_state refl refl e);
      in_checkpointed = λ u e. inr refl;
      chief_saved = λ u e q. is_joined;
      in_recovered = λ u e. absurd (other_state refl refl e);
      in_error = λ e. not_aware_after b o x e;
      in_recovering = λ e. not_aware_after b o x e;
      restored = λ e. not_aware_after b o x e;
      ready_is = λ e. not_aware (h.ready_is e).0;
      told_wrote = λ e. refl;
      wrote_done = λ e. has.0;
      done_joined = h.done_joined;
      joined_tab = h.joined_tab;
      joined_begun = h.joined_begun;
      chief_begun = h.chief_begun;
      known = λ e v f. known_is v f;
      unknown_at = λ u. unknown_others;
      unknown_aware = λ e. not_aware_after b o x e;
      old_joined = λ e v f j. (refl, unknown_is v f);
      old_before = λ e v f j. absurd (never is_joined j);
      knows = λ e. not_aware_after b o x e;
      waits = λ e n. not_waiting e n;
      cut_image = λ a e u. h.cut_image a e un;
      gone = h.gone;
      slot_top = λ e. keeps ∙ h.slot_top e;
      slot_prev = λ e t d. not_before e d;
      slot_cut = λ a e. all a;
      slot_pieces = λ a u e. absurd (other_state refl refl e);
      noted = not_gone;
      sizes = h.sizes;
    }

pub last_books : (b : Big) (o : Own) (m : Mind) (out got : Party → ℕ) (x : Version) → unaware b o ≡ true → Books b o m out got → Books b (o_written o x) (m_wrote m) out got
last_books b o m out got x un h = record { bounded = h.bounded; live = λ u. h.live un; at_cut = h.at_cut }

-- ---- together

-- the slots of cabinet a with an image in one of them
abbrev pub stored : View → ℕ → Bool → Image → ℕ → Bool → Image
stored v a x m = upd v.slots a (λ y. cond (same x y) m (v.slots a y))

same_itself : (x : Bool) → same x x ≡ true
same_itself true = refl
same_itself false = refl

not_same : (x : Bool) → same (not x) x ≡ false
not_same true = refl
not_same false = refl

module _ (v : View) (a : ℕ) (x : Bool) (m : Image) where
  pub stored_here : stored v a x m a x ≡ m
  stored_here = ap (λ (f : Bool → Image). f x) (upd_same v.slots a _) ∙ rw (same_itself x)

  pub stored_other : stored v a (not x) m a x ≡ v.slots a x
  stored_other = ap (λ (f : Bool → Image). f x) (upd_same v.slots a _) ∙ rw (not_same x)

  pub stored_there : (i : ℕ) → i ≢ a → stored v a x m i ≡ v.slots i
  stored_there i n = upd_other v.slots a _ i n

module _ (n : ℕ) (total : Party → ℕ) (v : View) (γ : Ghost) (a : ℕ) (i : Inv n total v γ) (un : unaware γ.big (v.own a) ≡ true)
    (at : (v.own a).state ≡ Checkpointing) (x : Image) where
  abbrev z' : ℕ → Bool → Image
  z' = stored v a (not γ.big.topv) x

  abbrev node : NodeAt v γ a
  node = i.core.nodes a

  abbrev part : Own
  part = o_pieces (v.own a) ((v.own a).pieces + 1)

  abbrev γp : Ghost
  γp = minded γ γ.big a (γ.mind a) γ.wire

  part_pairs : (k j : ℕ) → PairAt (moved v a part (v.side a) v.lines z') γp k j
  part_pairs =
      let h = i.core.pairs in
      move_pairs v γ γ.big a part (γ.mind a) (v.side a) v.lines z' γ.wire (λ k j n d. refl) (λ k j n d. refl) (λ k j n d. h k j)
      (λ j n. pieces_from _ _ _ _ _ _ _ _ _ _ _ (h a j) _)
      (pieces_to _ _ _ _ _ _ _ _ _ _ _ (pieces_from _ _ _ _ _ _ _ _ _ _ _ (h a a) _) _)
      (λ k n. pieces_to _ _ _ _ _ _ _ _ _ _ _ (h k a) _)

  part_books : Books γ.big part (γ.mind a) (out_of γ a) (got_of γ a)
  part_books = let h = i.core.books a in record { bounded = h.bounded; live = h.live; at_cut = h.at_cut }

  pub part_inv : (v.own a).pieces < 3 → (γ.big.alive ≡ true → SameTo (8 * ((v.own a).pieces + 1)) x (γ.mind a).cut)
      → Inv n total (moved v a part (v.side a) v.lines z') γ
  part_inv few more =
      subst (λ (δ : Ghost). Inv n total (moved v a part (v.side a) v.lines z') δ) (same_ghost γ a)
      (quiet_inv n total v γ i a part (γ.mind a) (v.side a) v.lines z' γ.wire
      (refl, refl, refl, refl, refl, refl, refl) (refl, refl, refl, refl, refl, refl, refl) (λ i j. refl) (λ d. refl)
      part_pairs
      (move_nodes v γ γ.big a part (γ.mind a) (v.side a) v.lines z' γ.wire (stored_there v a (not γ.big.topv) x) (λ j d. i.core.nodes j)
      (part_node _ _ _ _ (v.slots a) (z' a) node un at (stored_other v a γ.big.topv x) few
      (λ e. rw (stored_here v a (not γ.big.topv) x) (more e))))
      (move_books v γ γ.big a part (γ.mind a) (v.side a) v.lines z' γ.wire (λ j. refl) (λ j. refl) (λ j d. i.core.books j) part_books))

  module _ (y : Version) (mine : a ≡ γ.big.chief → y ≡ Known γ.big.topv) (other : a ≢ γ.big.chief → y ≡ Unknown γ.big.topv) where
    abbrev last : Own
    last = o_written (v.own a) y

    abbrev γw : Ghost
    γw = minded γ γ.big a (m_wrote (γ.mind a)) γ.wire

    abbrev vw : View
    vw = moved v a last (v.side a) v.lines z'

    done_here : (γ.mind a).done ≡ true
    done_here = (node.in_checkpointing un at).0

    joined_here : (γ.mind a).joined ≡ true
    joined_here = node.done_joined done_here

    last_pairs : (k j : ℕ) → PairAt vw γw k j
    last_pairs =
        let h = i.core.pairs in
        move_pairs v γ γ.big a last (m_wrote (γ.mind a)) (v.side a) v.lines z' γ.wire (λ k j n d. refl) (λ k j n d. refl) (λ k j n d. h k j)
        (λ j n. written_from _ _ _ _ _ _ _ _ _ _ _ (h a j) y un at joined_here)
        (self (γ.wire a a) (written_from _ _ _ _ _ _ _ _ _ _ _ (h a a) y un at joined_here))
        (λ k n. written_to _ _ _ _ _ _ _ _ _ _ _ (h k a) y un at done_here joined_here)
      where
        self : (w : Wire)
            → Pair γ.big a a last (m_wrote (γ.mind a)) (v.own a) (γ.mind a) (v.side a a) (v.side a a) (v.lines a a) w
            → Pair γ.big a a last (m_wrote (γ.mind a)) last (m_wrote (γ.mind a)) (v.side a a) (v.side a a) (v.lines a a) w
        self w h = written_to _ _ _ _ _ _ _ _ _ _ _ h y un at done_here joined_here

    work_kept : works last.state ≡ works (v.own a).state
    work_kept = rw at

    calm_kept : unaware γ.big last ≡ unaware γ.big (v.own a)
    calm_kept = rw at

    aware_kept : aware γ.big last ≡ aware γ.big (v.own a)
    aware_kept = rw at

    -- the one that keeps a commit from following is not this one
    last_no_commit : (w : ℕ) → tab_of γ w ≡ true → calm_of v γ w ≡ false → (γ.mind w).wrote ≡ false
        → (tab_of γw w ≡ true) × (calm_of vw γw w ≡ false) × ((γw.mind w).wrote ≡ false)
    last_no_commit w t c f =
        let d : w ≢ a = λ e. never un (ap (calm_of v γ) (sym e) ∙ c) in (
          kept_at (λ (x : Mind). x.tab) γ.mind a (m_wrote (γ.mind a)) refl w ∙ t,
          kept_at (λ (x : Own). unaware γ.big x) v.own a last calm_kept w ∙ c,
          ap (λ (x : Mind). x.wrote) (upd_other γ.mind a (m_wrote (γ.mind a)) w d) ∙ f,
        )

    last_knows : (c : ℕ) → (known_of v c ≡ true) ⊎ ((γ.mind c).joined ≡ true) → (known_of vw c ≡ true) ⊎ ((γw.mind c).joined ≡ true)
    last_knows c e = elim (ℕ_discrete c a) [
      | yes q ↦ inr (ap (λ (x : ℕ). (γw.mind x).joined) q ∙ ap (λ (x : Mind). x.joined) (upd_same γ.mind a (m_wrote (γ.mind a))) ∙ joined_here)
      | no d ↦ rw (upd_other γ.mind a (m_wrote (γ.mind a)) c d, upd_other v.own a last c d) e
    ]

    work_at : (c : ℕ) → work_of vw c ≡ work_of v c
    work_at = kept_at (λ (x : Own). works x.state) v.own a last work_kept

    last_chain : ChainOf vw γw
    last_chain =
        let h = i.core.chain in
        record {
          no_commit = λ f. ⊎_elim
              (λ e. inl (kept_at (λ (x : Own). unaware γ.big x) v.own a last calm_kept γ.big.chief ∙ e))
              (λ e. let r = last_no_commit e.0 e.1 e.2 e.3 in inr (e.0, r.0, r.1, r.2)) (h.no_commit f);
          lives = h.lives;
          alone = λ e f j g. h.alone e (sym (kept_at (λ (x : Mind). x.done) γ.mind a (m_wrote (γ.mind a)) refl γ.big.chief) ∙ f) j (sym (work_at j) ∙ g);
          company = λ j d w e. let c = h.company j d (sym (work_at j) ∙ w) e in (c.0, c.1, work_at c.0 ∙ c.2, last_knows c.0 c.3);
        }

    -- it is the known one, or the old one is kept
    not_lost : y ≡ Lost → ⊥
    not_lost e = elim (ℕ_discrete a γ.big.chief) [
      | yes q ↦ known_not_lost (sym (mine q) ∙ e)
      | no d ↦ unknown_not_lost (sym (other d) ∙ e)
    ]

    pub last_inv : (γ.big.alive ≡ true → x ≡ (γ.mind a).cut) → Inv n total vw γw
    last_inv all = record {
      core = record {
        pairs = last_pairs;
        nodes = move_nodes v γ γ.big a last (m_wrote (γ.mind a)) (v.side a) v.lines z' γ.wire (stored_there v a (not γ.big.topv) x)
            (λ j d. i.core.nodes j)
            (last_node _ _ _ _ (v.slots a) (z' a) node un at (stored_other v a γ.big.topv x) y mine other
            (λ e. stored_here v a (not γ.big.topv) x ∙ all e));
        books = move_books v γ γ.big a last (m_wrote (γ.mind a)) (v.side a) v.lines z' γ.wire (λ j. refl) (λ j. refl) (λ j d. i.core.books j)
            (last_books _ _ _ _ _ y un (i.core.books a));
        leads = move_leads v γ γ.big a last (m_wrote (γ.mind a)) (v.side a) v.lines z' γ.wire (λ j d. i.core.leads j)
            (lead_same γ.big a (v.own a) last (i.core.leads a) work_kept aware_kept refl refl refl (λ e. absurd (not_lost e)));
        ground = move_ground v γ a last (m_wrote (γ.mind a)) (v.side a) v.lines z' γ.wire work_kept refl (λ i j. refl) γ.big refl refl refl refl refl i.core.ground;
        chain = last_chain;
        sums = move_sums total γ γ.big a (m_wrote (γ.mind a)) γ.wire refl refl refl refl i.core.sums;
      };
      places = move_places v γ a last (m_wrote (γ.mind a)) (v.side a) v.lines z' γ.wire work_kept refl (λ i j. refl) γ.big refl aware_kept refl i.places;
      meets = move_meets v a last (v.side a) v.lines z' work_kept (λ d. refl) i.meets;
    }

-- ---- a report owed, or made

module _ (b : Big) (c d : ℕ) (o : Own) (m : Mind) (p : Own) (n : Mind) (s t : Side) (l : List Packet) (w : Wire) (h : Pair b c d o m p n s t l w) (x : Bool) where
  pub owed_from : (x ≡ true → (n.wrote ≡ true) × (n.told ≡ false) × (unaware b o ≡ true)) → (x ≡ true → p.home ≡ c) → Pair b c d o m p n (s_owed s x) t l w
  owed_from owes home = search

  pub owed_to : Pair b c d o m p n s (s_owed t x) l w
  owed_to = search

pub owe_inv : (n : ℕ) (total : Party → ℕ) (v : View) (γ : Ghost) → Inv n total v γ → (h a : ℕ) (x : Bool)
    → (x ≡ true → ((γ.mind a).wrote ≡ true) × ((γ.mind a).told ≡ false) × (unaware γ.big (v.own h) ≡ true)) → (x ≡ true → (v.own a).home ≡ h)
    → Inv n total (v_owe v h a x) γ
owe_inv n total v γ i h a x owes home =
    mark_inv n total v γ i h a (s_owed (v.side h a) x) refl (λ t p. owed_from _ _ _ _ _ _ _ _ _ _ _ p x owes home) (λ s p. owed_to _ _ _ _ _ _ _ _ _ _ _ p x)

-- ---- the step

side_wrote : (c : Cabinet) (a : ℕ) → side_of (wrote c a) ≡ side_of c
side_wrote c a = cond_elim (λ (x : Cabinet). side_of x ≡ side_of c) (ltb c.noted.pieces 3) (λ e. refl) (λ e. refl)

abbrev o_wrote : Bool → Own → Cabinet → ℕ → Own
o_wrote t o c a =
    cond t (o_pieces o (c.noted.pieces + 1)) (o_written o (cond (eqb (coordinator c) a) c.phase.version (doubted c.phase.version)))

own_wrote : (h : ℕ) (p : Bool) (c : Cabinet) (a : ℕ) (t : Bool) → ltb c.noted.pieces 3 ≡ t → own_of h p (wrote c a) ≡ o_wrote t (own_of h p c) c a
own_wrote h p c a true e = rw e
own_wrote h p c a false e = rw e

pub sim_write : (g : Group) → Fit g → (a : ℕ) → a < 8 → is_present g.store (home_in g.store a) ≡ true
    → (t : Bool) → ltb (cabinet g a).noted.pieces 3 ≡ t → (x : Bool) → bit_of (cabinet g a).phase.version ≡ x
    → view (write_piece g a)
    ≡ moved (view g) a (o_wrote t ((view g).own a) (cabinet g a) a) ((view g).side a) (view g).lines
    (stored (view g) a (not x) (with_piece (cabinet g a).noted.pieces (cabinet g a).image (slot g (home_in g.store a) a (not x))))
unfolding write_piece cabinet
sim_write g w a la here t e x f =
    let y = not (bit_of (cabinet g a).phase.version) in
    let k = (cabinet g a).noted.pieces in
    let m = (cabinet g a).image in
    let seen = view_piece g w.frame.store a la here y k m in
    let own : (view (with_store g (piece_saved g a))).own a ≡ (view g).own a = ap (λ (u : View). u.own a) seen in
    view_cabinet _ (ok_piece Shaped Lined Pictured shaped g w a).frame a (wrote (cabinet g a) a) la
    ∙ ap (λ (s : ℕ → Side). set_cabinet (view (with_store g (piece_saved g a))) a (own_in (with_store g (piece_saved g a)) a (wrote (cabinet g a) a)) s) (side_wrote (cabinet g a) a)
    ∙ ap (λ (o : Own). set_cabinet (view (with_store g (piece_saved g a))) a o ((view g).side a)) (own_wrote _ _ (cabinet g a) a t e)
    ∙ ap (λ (u : View). set_cabinet u a (o_wrote t (u.own a) (cabinet g a) a) ((view g).side a)) seen
    ∙ ap (λ (z : Bool). set_cabinet (set_slot (view g) a (not z) (with_piece k m (slot g (home_in g.store a) a (not z)))) a (o_wrote t ((view g).own a) (cabinet g a) a) ((view g).side a)) f

module _ (total : Party → ℕ) (g : Group) (h : History) (γ : Ghost) (w : Fit g) (i : Inv g.n total (view g) γ) (past : Past g.n (view g) γ h)
    (a : ℕ) (la : a < 8) (ln : a < g.n) (fine : write_refusal g a ≡ 0) where
  abbrev v : View
  v = view g

  abbrev home : ℕ
  home = home_in g.store a

  here : is_present g.store home ≡ true
  here = i.core.ground.home_present a ln

  checks : (is_in (state_of g a) Checkpointing ≡ true) × (not (in_recovery (state_of g home)) ≡ true)
  checks =
      let p = passed (is_in (state_of g a) Checkpointing) 13 (need (not (in_recovery (state_of g home))) 19 0) fine in
      (p.0, (passed (not (in_recovery (state_of g home))) 18 0 p.1).0)

  cutting_now : state_of g a ≡ Checkpointing
  cutting_now = (in_state (state_of g a) Checkpointing).0 checks.0

  calm : unaware γ.big (v.own a) ≡ true
  calm = un_of γ.big (v.own a) (rw cutting_now) (rw cutting_now)

  abbrev at_node : NodeAt v γ a
  at_node = i.core.nodes a

  abbrev now : ((γ.mind a).done ≡ true) × ((γ.mind a).wrote ≡ false) × ((v.own a).pieces < 4)
  now = at_node.in_checkpointing calm cutting_now

  version_known : (v.own a).version ≡ Known γ.big.topv
  version_known =
      let k = known_is_known (v.own a).version (at_node.unknown_at calm ∙ rw cutting_now) in
      k ∙ ap Known (at_node.known (un_works γ.big (v.own a) calm) (bit_of (v.own a).version) k)

  bit : bit_of (v.own a).version ≡ γ.big.topv
  bit = ap bit_of version_known

  abbrev new : Image
  new = with_piece (v.own a).pieces (v.own a).image (v.slots a (not γ.big.topv))

  more : γ.big.alive ≡ true → SameTo (8 * ((v.own a).pieces + 1)) new (γ.mind a).cut
  more e =
      let c : (v.own a).image ≡ (γ.mind a).cut = at_node.cut_image e now.0 calm in
      subst (λ (m : Image). SameTo (8 * ((v.own a).pieces + 1)) new m) c
      (piece_more (v.own a).pieces (v.own a).image (v.slots a (not γ.big.topv)) (w.slots home a (not γ.big.topv)) now.2
      (subst (λ (m : Image). SameTo (8 * (v.own a).pieces) (v.slots a (not γ.big.topv)) m) (sym c) (at_node.slot_pieces e calm cutting_now)))

  -- what the group and the history owe, given what becomes of the states
  closing : (g' : Group) (δ : Ghost) → Inv g.n total (view g') δ → Past g.n v δ h
      → ((c : ℕ) → (((view g').own c).state ≡ (v.own c).state) ⊎ ((c ≡ a) × (((view g').own c).state ≡ Checkpointed)))
      → (δ.mind a).joined ≡ (γ.mind a).joined → Stays v γ (view g') δ → Kept total g γ g' (note_cuts h g g')
  closing g' δ inv p states joined stays = record {
    ghost = δ;
    inv = inv;
    past = rw (no_cuts h g g' no_cut) (past_view works_same waited p);
    stays = stays;
  }
    where
      no_cut : (c : ℕ) → is_in (state_of g' c) Checkpointing ≡ true → is_in (state_of g c) Checkpointing ≡ true
      no_cut c e = ⊎_elim (λ s. ap (λ (x : State). is_in x Checkpointing) (sym s) ∙ e)
          (λ s. ap (λ (j : ℕ). is_in (state_of g j) Checkpointing) s.0 ∙ checks.0) (states c)

      works_same : (c : ℕ) → work_of (view g') c ≡ work_of v c
      works_same c = ⊎_elim (λ s. ap works s)
          (λ s. ap works s.1 ∙ sym (ap (λ (j : ℕ). works (state_of g j)) s.0 ∙ ap works cutting_now)) (states c)

      -- the cabinet has joined the save that it writes
      waited : (c : ℕ) → is_in (state_of g' c) Checkpointed ≡ true → (δ.mind c).joined ≡ false → is_in (state_of g c) Checkpointed ≡ true
      waited c e f = ⊎_elim (λ s. ap (λ (x : State). is_in x Checkpointed) (sym s) ∙ e)
          (λ s. absurd (never (at_node.done_joined now.0) (sym joined ∙ ap (λ (j : ℕ). (δ.mind j).joined) (sym s.0) ∙ f))) (states c)

  state_at : (o : Own) (z : ℕ → Bool → Image) (c : ℕ) → (o.state ≡ (v.own a).state) ⊎ (o.state ≡ Checkpointed)
      → (((moved v a o (v.side a) v.lines z).own c).state ≡ (v.own c).state) ⊎ ((c ≡ a) × (((moved v a o (v.side a) v.lines z).own c).state ≡ Checkpointed))
  state_at o z c e =
      upd_elim (λ (x : Own). (x.state ≡ (v.own c).state) ⊎ ((c ≡ a) × (x.state ≡ Checkpointed))) v.own a o c
      (λ q. ⊎_elim (λ s. inl (s ∙ ap (λ (j : ℕ). (v.own j).state) (sym q))) (λ s. inr (q, s)) e) (λ n. inl refl)

  -- ---- a piece before the last

  keeps_part : ltb (v.own a).pieces 3 ≡ true → Kept total g γ (write_piece g a) (note_cuts h g (write_piece g a))
  keeps_part few =
      let seen = sim_write g w a la here true few γ.big.topv bit in
      let o : Own = o_pieces (v.own a) ((v.own a).pieces + 1) in
      let z : ℕ → Bool → Image = stored v a (not γ.big.topv) new in
      closing (write_piece g a) γ
      (subst (λ (x : View). Inv g.n total x γ) (sym seen)
      (part_inv g.n total v γ a i calm cutting_now new (ltb-true (v.own a).pieces 3 few) more)) past
      (λ c. subst (λ (x : View). ((x.own c).state ≡ (v.own c).state) ⊎ ((c ≡ a) × ((x.own c).state ≡ Checkpointed))) (sym seen) (state_at o z c (inl refl))) refl
      (calm_stays i (view (write_piece g a)) γ a _ _ (ap (λ (u : View). u.own) seen) (ap (λ (u : View). u.side) seen) calm (rw cutting_now) no_fault_lem)

  -- ---- the last piece

  module _ (full : ltb (v.own a).pieces 3 ≡ false) where
    abbrev o1 : Own
    o1 = o_wrote false (v.own a) (cabinet g a) a

    abbrev v1 : View
    v1 = moved v a o1 (v.side a) v.lines (stored v a (not γ.big.topv) new)

    abbrev γ1 : Ghost
    γ1 = minded γ γ.big a (m_wrote (γ.mind a)) γ.wire

    seen_last : view (write_piece g a) ≡ v1
    seen_last = sim_write g w a la here false full γ.big.topv bit

    is_chief : coordinator (cabinet g a) ≡ γ.big.chief
    is_chief = chief_of g.n total g γ i.core a calm

    mine : a ≡ γ.big.chief → o1.version ≡ Known γ.big.topv
    mine e = rw (eq-eqb (coordinator (cabinet g a)) a (is_chief ∙ sym e)) version_known

    other : a ≢ γ.big.chief → o1.version ≡ Unknown γ.big.topv
    other d = rw (ne_eqb (coordinator (cabinet g a)) a (λ e. d (sym e ∙ is_chief))) (ap doubted version_known)

    whole : γ.big.alive ≡ true → new ≡ (γ.mind a).cut
    whole e =
        all_pieces new (γ.mind a).cut (shaped.pieced (v.own a).pieces _ _ (w.cabs a).image (w.slots home a (not γ.big.topv))) at_node.sizes.0
        (λ j l. more e j (omega (arith, ltb-false (v.own a).pieces 3 full)))

    inv_last : Inv g.n total v1 γ1
    inv_last = last_inv g.n total v γ a i calm cutting_now new o1.version mine other whole

    home_works : works (state_of g home) ≡ true
    home_works = i.core.ground.present_works home here

    home_calm : unaware γ.big (v.own home) ≡ true
    home_calm = un_of γ.big (v.own home) home_works (not_true_false checks.1)

    home_below : home < 8
    home_below = omega (arith, i.core.ground.within home ((i.core.nodes home).placed home_works), i.core.ground.most)

    not_told : (γ.mind a).told ≡ false
    not_told = is_false (γ.mind a).told (λ e. never (at_node.told_wrote e) now.1)

    owes_now : ((γ1.mind a).wrote ≡ true) × ((γ1.mind a).told ≡ false) × (unaware γ1.big (v1.own home) ≡ true)
    owes_now = (
      ap (λ (x : Mind). x.wrote) (upd_same γ.mind a (m_wrote (γ.mind a))),
      ap (λ (x : Mind). x.told) (upd_same γ.mind a (m_wrote (γ.mind a))) ∙ not_told,
      kept_at (λ (x : Own). unaware γ.big x) v.own a o1 (calm_after γ.big (v.own a) o1.version ∙ sym calm) home ∙ home_calm,
    )

    abbrev g2 : Group
    g2 = owe_if true (write_piece g a) home a

    seen_owed : view g2 ≡ v_owe v1 home a true
    seen_owed = sim_owe (write_piece g a) (ok_write_piece Shaped Lined Pictured shaped g w a) home a true home_below la ∙ ap (λ (x : View). v_owe x home a true) seen_last

    inv_owed : Inv g.n total (v_owe v1 home a true) γ1
    inv_owed =
        owe_inv g.n total v1 γ1 inv_last home a true (λ e. owes_now)
        (λ e. kept_at (λ (x : Own). x.home) v.own a o1 refl a)

    states_owed : (c : ℕ) → (((v_owe v1 home a true).own c).state ≡ (v.own c).state) ⊎ ((c ≡ a) × (((v_owe v1 home a true).own c).state ≡ Checkpointed))
    states_owed c =
        let e : ((v_owe v1 home a true).own c).state ≡ (v1.own c).state = kept_at (λ (x : Own). x.state) v1.own home (v1.own home) refl c in
        ⊎_elim (λ s. inl (e ∙ s)) (λ s. inr (s.0, e ∙ s.1)) (state_at o1 v1.slots c (inr refl))

    keeps_last : Kept total g γ g2 (note_cuts h g g2)
    keeps_last =
        closing g2 γ1 (subst (λ (x : View). Inv g.n total x γ1) (sym seen_owed) inv_owed)
        (past_mind g.n v γ h past a (m_wrote (γ.mind a)) refl refl refl refl refl refl)
        (λ c. subst (λ (x : View). ((x.own c).state ≡ (v.own c).state) ⊎ ((c ≡ a) × ((x.own c).state ≡ Checkpointed))) (sym seen_owed) (states_owed c))
        (kept_at (λ (x : Mind). x.joined) γ.mind a (m_wrote (γ.mind a)) refl a)
        (stays_marked (calm_stays i v1 γ1 a _ _ refl refl calm refl no_fault_lem) (view g2) γ1
        (λ c. phase_same (ap (λ (x : View). x.own c) seen_owed ∙ kept_at (λ (x : Own). x) v1.own home (v1.own home) refl c))
        (λ c d. ap (λ (x : View). (x.side c d).unsure) seen_owed ∙ kept_pair (λ (x : Side). x.unsure) v1.side home a _ refl c d) no_fault_lem)

  abbrev gw : Group
  gw = owe_if (not (ltb (cabinet g a).noted.pieces 3)) (write_piece g a) home a

  pub keeps_write : Kept total g γ gw (note_cuts h g gw)
  keeps_write = go (ltb (v.own a).pieces 3) refl
    where
      go : (t : Bool) → ltb (v.own a).pieces 3 ≡ t
          → Kept total g γ (owe_if (not t) (write_piece g a) home a) (note_cuts h g (owe_if (not t) (write_piece g a) home a))
      go true e = keeps_part e
      go false e = keeps_last e
