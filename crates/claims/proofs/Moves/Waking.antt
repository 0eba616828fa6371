-- A cabinet that waits for a resume goes on in normal, with the version of the save that the rule gives, and puts resume on lines out of
-- it: on all those to cabinets that wait for one. Both a resume taken in checkpointed and one taken in recovered are this move.
use Prim.Native.Nat.{ℕ}
use mathlib.Core.Path.{◌≡◌, refl, sym, ap, ◌∙◌, subst}
use mathlib.Core.Logic.{◌≢◌, ◌⊎◌, inl, ⊎_elim}
use mathlib.Core.Bool.{Bool, true, false, not, false≢true, true≢false}
use mathlib.Core.List.{List, [], ◌∷◌, nil≢cons}
use lib.ListN.{get_or}
use native.Mathlib.Omega.{arith}
use Rattle.outlet.specs.declared.Party.{Party}
use Rattle.packet.specs.declared.Packet.{Packet}
use Rattle.packet.specs.declared.Packet.TheVariants.{Empty, Resume}
use Rattle.packet.specs.Packet.{is_empty}
use Rattle.state.specs.declared.State.{State}
use Rattle.state.specs.declared.State.TheVariants.{Normal, CheckpBegin, Checkpointing, Checkpointed, Recovered}
use Rattle.state.specs.declared.Version.{Version}
use Rattle.state.specs.declared.Version.TheVariants.{Known}
use Rattle.image.specs.declared.Image.{Image}
use Rattle.state.specs.State.{is_in, works}
use Rattle.protocol.specs.History.{upd}
use Rattle.claims.proofs.State.Fun.{never, is_false, and_true, upd_elim, upd_same, upd_other, upd_id, kept, upd_swap}
use Rattle.claims.proofs.State.View.{View, Own, Side, used, set_line}
use Rattle.claims.proofs.State.Methods.{s_cleared}
use Rattle.claims.proofs.Invariant.States.{known_same, known_not_unknown, known_not_lost, other_state}
use Rattle.claims.proofs.Invariant.Facts.{Big, Mind, Wire, Ghost, Pair, Node, Books, Lead, aware, unaware, linked, behind}
use Rattle.claims.proofs.Invariant.Whole.{Inv, PairAt, NodeAt, BooksAt, LeadAt, GroundOf, PlacesOf, ChainOf, SumsOf}
use Rattle.claims.proofs.Invariant.Logs.{resumed_by, no_resume}
use Rattle.claims.proofs.Invariant.Words.{un_of, un_works, un_not_aware, un_or_aware, live_line, linked_used, lead_calm}
use Rattle.claims.proofs.Invariant.Frame.{moved, minded, move_pairs, move_nodes, move_books, move_leads, move_ground, move_meets}
use Rattle.claims.proofs.Moves.Dropping.{drop_inv}
use Rattle.claims.proofs.Moves.Rousing.{o_resumed, resumed_un, resumed_not_aware, resumed_not_behind, wait_short, roused_from, roused_to, roused_places}

-- ---- the save that the rule gives is known to some other cabinet

abbrev pub b_adopted : Big → Big
b_adopted b = record {
  faulted = b.faulted;
  topv = b.topv;
  adopted = true;
  chief = b.chief;
  heir = b.heir;
  alive = b.alive;
  begun = b.begun;
  frozen = b.frozen;
  calm = b.calm;
  clean = b.clean;
}

pub adopted_same : (b : Big) → b.adopted ≡ true → b_adopted b ≡ b
adopted_same b e = λ i. record {
  faulted = b.faulted;
  topv = b.topv;
  adopted = sym e i;
  chief = b.chief;
  heir = b.heir;
  alive = b.alive;
  begun = b.begun;
  frozen = b.frozen;
  calm = b.calm;
  clean = b.clean;
}

pub adopted_pair : (b : Big) (c d : ℕ) (o : Own) (m : Mind) (p : Own) (n : Mind) (s t : Side) (l : List Packet) (w : Wire)
    → Pair b c d o m p n s t l w → Pair (b_adopted b) c d o m p n s t l w
adopted_pair b c d o m p n s t l w h = search

pub adopted_node : (b : Big) (c : ℕ) (o : Own) (m : Mind) (z : Bool → Image) → Node b c o m z → Node (b_adopted b) c o m z
adopted_node b c o m z h =
    let re : aware b o ≡ true → o.state ≡ Recovered → (o.image ≡ m.top) × ((b_adopted b).adopted ≡ true) = λ a e. ((h.restored a e).0, refl) in
    let wa : (b_adopted b).adopted ≡ false → c ≢ b.chief → works o.state ≡ true → (m.joined ≡ false) × (unaware b o ≡ true → o.state ≡ Checkpointed)
    = λ e. absurd (true≢false e) in
    let go : m.tab ≡ false → (m.base ≡ m.top) × ((b_adopted b).adopted ≡ false → m.prev ≡ m.top)
    = λ e. ((h.gone e).0, λ f. absurd (true≢false f)) in
    let sp : (b_adopted b).adopted ≡ false → m.tab ≡ true → (c ≡ b.chief → m.done ≡ false) → z (not b.topv) ≡ m.prev = λ e. absurd (true≢false e) in
    search

pub adopted_books : (b : Big) (o : Own) (m : Mind) (out got : Party → ℕ) → Books b o m out got → Books (b_adopted b) o m out got
adopted_books b o m out got h = record { bounded = h.bounded; live = h.live; at_cut = h.at_cut }

-- who leads does not hang on the save
pub adopted_lead : (b : Big) (c : ℕ) (o : Own) → Lead b c o → Lead (b_adopted b) c o
adopted_lead b c o h = record { steady = h.steady; moved = h.moved; lives = h.lives; fallen = h.fallen; blank = h.blank }

module _ (b : Big) (o : Own) (m : Mind) (wait : behind b o m ≡ true) where
  pub wait_un : unaware b o ≡ true
  wait_un = (and_true {s = unaware b o} wait).0

-- ---- the cabinet by itself

module _ {A : Type 0} where
  not_normal : (s : State) → is_in Normal s ≡ false → Normal ≡ s → A
  not_normal s f e = absurd (other_state refl f e)

module _ (b : Big) (c : ℕ) (o : Own) (m : Mind) (z : Bool → Image) (h : Node b c o m z) (wait : behind b o m ≡ true) (fresh : m.joined ≡ false) where
  pub undone : m.done ≡ false
  undone = is_false m.done (λ e. never (h.done_joined e) fresh)

  pub unready : m.ready ≡ false
  unready = is_false m.ready (λ e. un_not_aware b o (wait_un b o m wait) (h.ready_is e).0)

  abbrev o' : Own
  o' = o_resumed o (Known b.topv)

  unaware_now : {A : Type 0} → aware b o' ≡ true → A
  unaware_now e = resumed_not_aware b o (Known b.topv) e

  was_working : works o.state ≡ true
  was_working = un_works b o (wait_un b o m wait)

  pub wake_node : Node (b_adopted b) c o' m z
  wake_node = record {
    placed = λ e. h.placed was_working;
    present = λ e f. refl;
    running = refl;
    quiet = λ e. (refl, refl);
    place_known = unaware_now;
    in_normal = λ u e. fresh;
    in_begin = λ u. not_normal CheckpBegin refl;
    in_checkpointing = λ u. not_normal Checkpointing refl;
    in_checkpointed = λ u. not_normal Checkpointed refl;
    chief_saved = λ u. not_normal Checkpointed refl;
    in_recovered = λ u. not_normal Recovered refl;
    in_error = unaware_now;
    in_recovering = unaware_now;
    restored = unaware_now;
    ready_is = λ e. absurd (never e unready);
    told_wrote = h.told_wrote;
    wrote_done = h.wrote_done;
    done_joined = h.done_joined;
    joined_tab = h.joined_tab;
    joined_begun = h.joined_begun;
    chief_begun = h.chief_begun;
    known = λ e v f. sym (known_same f);
    unknown_at = λ e. refl;
    unknown_aware = unaware_now;
    old_joined = λ e v f. absurd (known_not_unknown f);
    old_before = λ e v f. absurd (known_not_unknown f);
    knows = unaware_now;
    waits = λ e. absurd (true≢false e);
    cut_image = λ a e. absurd (never e undone);
    gone = λ e. ((h.gone e).0, λ f. absurd (true≢false f));
    slot_top = h.slot_top;
    slot_prev = λ e. absurd (true≢false e);
    slot_cut = h.slot_cut;
    slot_pieces = λ a u. not_normal Checkpointing refl;
    noted = λ e. absurd (never (h.placed was_working) e);
    sizes = h.sizes;
  }

  pub wake_books : (out got : Party → ℕ) → Books b o m out got → Books (b_adopted b) o' m out got
  wake_books out got k = record { bounded = k.bounded; live = λ u. k.live (wait_un b o m wait); at_cut = k.at_cut }

-- ---- the group

-- the lines once a resume is put on those asked for
abbrev pub woken_lines : View → ℕ → (ℕ → Bool) → ℕ → ℕ → List Packet
woken_lines v c r = upd v.lines c (λ d. resumed_by (r d) (v.lines c d))

abbrev pub woken : View → ℕ → Version → (ℕ → Bool) → View
woken v c x r = moved v c (o_resumed (v.own c) x) (λ d. s_cleared (v.side c d)) (woken_lines v c r) v.slots

abbrev pub g_adopted : Ghost → Ghost
g_adopted γ = record { big = b_adopted γ.big; mind = γ.mind; wire = γ.wire }

module _ (n : ℕ) (total : Party → ℕ) (v : View) (γ : Ghost) (i : Inv n total v γ) (c : ℕ) (wait : behind γ.big (v.own c) (γ.mind c) ≡ true)
    (fresh : (γ.mind c).joined ≡ false) (other : c ≢ γ.big.chief) (r : ℕ → Bool) (where-used : (d : ℕ) → r d ≡ true → used (v.side c d) ≡ true)
    (where-waited : (d : ℕ) → linked (γ.mind c) (γ.mind d) (γ.wire c d) ≡ true → behind γ.big (v.own d) (γ.mind d) ≡ true → r d ≡ true) where
  abbrev x : Version
  x = Known γ.big.topv

  abbrev own' : Own
  own' = o_resumed (v.own c) x

  abbrev side' : ℕ → Side
  side' d = s_cleared (v.side c d)

  abbrev γ' : Ghost
  γ' = minded γ (b_adopted γ.big) c (γ.mind c) γ.wire

  calm : unaware γ.big (v.own c) ≡ true
  calm = wait_un γ.big (v.own c) (γ.mind c) wait

  calm_same : unaware γ.big own' ≡ unaware γ.big (v.own c)
  calm_same = resumed_un γ.big (v.own c) x ∙ sym calm

  work_same : works own'.state ≡ works (v.own c).state
  work_same = sym (un_works γ.big (v.own c) calm)

  from : (d : ℕ)
      → Pair (b_adopted γ.big) c d own' (γ.mind c) (v.own d) (γ.mind d) (side' d) (v.side d c) (resumed_by (r d) (v.lines c d)) (γ.wire c d)
  from d =
      let h = i.core.pairs c d in
      roused_from (b_adopted γ.big) c d _ _ _ _ _ _ _ _ (adopted_pair _ _ _ _ _ _ _ _ _ _ _ h) calm (wait_short h wait) (λ j e. never (h.closed_joined j e) fresh)
      (λ e. i.meets c d (un_works γ.big (v.own c) calm) e) x (r d) (where-used d) (where-waited d)

  not_done : (γ.mind c).done ≡ false
  not_done = undone _ _ _ _ _ (i.core.nodes c) wait fresh

  not_ready : (γ.mind c).ready ≡ false
  not_ready = unready _ _ _ _ _ (i.core.nodes c) wait fresh

  self : Pair (b_adopted γ.big) c c own' (γ.mind c) own' (γ.mind c) (side' c) (side' c) (resumed_by (r c) (v.lines c c)) (γ.wire c c)
  self = roused_to (b_adopted γ.big) c c _ _ _ _ _ _ _ _ (from c) calm fresh not_done not_ready x

  to : (d : ℕ) → Pair (b_adopted γ.big) d c (v.own d) (γ.mind d) own' (γ.mind c) (v.side d c) (side' d) (v.lines d c) (γ.wire d c)
  to d = roused_to (b_adopted γ.big) d c _ _ _ _ _ _ _ _ (adopted_pair _ _ _ _ _ _ _ _ _ _ _ (i.core.pairs d c)) calm fresh not_done not_ready x

  row : woken_lines v c r c ≡ (λ d. resumed_by (r d) (v.lines c d))
  row = upd_same v.lines c _

  woken_pairs : (j k : ℕ) → PairAt (woken v c x r) γ' j k
  woken_pairs =
      move_pairs v γ (b_adopted γ.big) c own' (γ.mind c) side' (woken_lines v c r) v.slots γ.wire
      (λ j k e f. ap (λ (y : ℕ → List Packet). y k) (upd_other v.lines c _ j e)) (λ j k e f. refl)
      (λ j k e f. adopted_pair _ _ _ _ _ _ _ _ _ _ _ (i.core.pairs j k))
      (λ d e. rw row (from d)) (rw row self)
      (λ d e. rw (upd_other v.lines c (λ k. resumed_by (r k) (v.lines c k)) d e) (to d))

  woken_nodes : (j : ℕ) → NodeAt (woken v c x r) γ' j
  woken_nodes =
      move_nodes v γ (b_adopted γ.big) c own' (γ.mind c) side' (woken_lines v c r) v.slots γ.wire (λ j e. refl)
      (λ j e. adopted_node _ _ _ _ _ (i.core.nodes j)) (wake_node _ _ _ _ _ (i.core.nodes c) wait fresh)

  woken_books : (j : ℕ) → BooksAt (woken v c x r) γ' j
  woken_books =
      move_books v γ (b_adopted γ.big) c own' (γ.mind c) side' (woken_lines v c r) v.slots γ.wire (λ j. refl) (λ j. refl)
      (λ j e. adopted_books _ _ _ _ _ (i.core.books j)) (wake_books _ _ _ _ _ (i.core.nodes c) wait fresh _ _ (i.core.books c))

  woken_leads : (j : ℕ) → LeadAt (woken v c x r) γ' j
  woken_leads =
      move_leads v γ (b_adopted γ.big) c own' (γ.mind c) side' (woken_lines v c r) v.slots γ.wire
      (λ j e. adopted_lead _ _ _ (i.core.leads j))
      (adopted_lead _ _ _ (lead_calm γ.big c (v.own c) own' (i.core.leads c) calm (resumed_un γ.big (v.own c) x) refl known_not_lost))

  woken_ground : GroundOf n (woken v c x r) γ'
  woken_ground =
      move_ground v γ c own' (γ.mind c) side' (woken_lines v c r) v.slots γ.wire work_same refl (λ j k. refl) (b_adopted γ.big)
      refl refl refl refl refl i.core.ground

  same : γ' ≡ g_adopted γ
  same = λ t. record { big = b_adopted γ.big; mind = upd_id γ.mind c t; wire = γ.wire }

  -- the cabinet itself knows its version
  woken_chain : ChainOf (woken v c x r) (g_adopted γ)
  woken_chain = record {
    no_commit = subst
        (λ (f : ℕ → Bool). γ.big.frozen ≡ true
        → (f γ.big.chief ≡ false) ⊎ ((w : ℕ) × ((γ.mind w).tab ≡ true) × (f w ≡ false) × ((γ.mind w).wrote ≡ false)))
        (sym (kept (λ (y : Own). unaware γ.big y) v.own c own' calm_same)) i.core.chain.no_commit;
    lives = λ e. absurd (true≢false e);
    alone = λ e. absurd (true≢false e);
    company = λ j d w e. (c, other, rw (upd_same v.own c own'), inl (rw (upd_same v.own c own')));
  }

  woken_sums : SumsOf total (g_adopted γ)
  woken_sums =
      let f = i.core.sums in
      record { least = f.least; bases = f.bases; tops = f.tops; prevs = λ e. absurd (true≢false e) }

  pub woken_inv : Inv n total (woken v c x r) (g_adopted γ)
  woken_inv = subst (λ (δ : Ghost). Inv n total (woken v c x r) δ) same (record {
    core = record {
      pairs = woken_pairs;
      nodes = woken_nodes;
      books = woken_books;
      leads = woken_leads;
      ground = woken_ground;
      chain = subst (λ (δ : Ghost). ChainOf (woken v c x r) δ) (sym same) woken_chain;
      sums = subst (λ (δ : Ghost). SumsOf total δ) (sym same) woken_sums;
    };
    places = subst (λ (δ : Ghost). PlacesOf (woken v c x r) δ) (sym same) (roused_places v γ c x calm side' (woken_lines v c r) v.slots i.places);
    meets = move_meets v c own' side' (woken_lines v c r) v.slots work_same (λ d. refl)
        i.meets;
  })

-- ---- a resume that stands in a line

module _ (n : ℕ) (total : Party → ℕ) (v : View) (γ : Ghost) (i : Inv n total v γ) (a b j : ℕ) (there : get_or (v.lines a b) j Empty ≡ Resume) where
  some : v.lines a b ≡ [] → ⊥
  some e = true≢false (ap (λ (l : List Packet). is_empty (get_or l j Empty)) (sym e) ∙ ap is_empty there)

  ends : (works (v.own a).state ≡ true) × (works (v.own b).state ≡ true) × (used (v.side a b) ≡ true)
  ends = live_line (i.core.pairs a b) some

  -- the sender knows of no fault
  calm_at : unaware γ.big (v.own a) ≡ true
  calm_at = ⊎_elim (λ u. u) knows_none (un_or_aware γ.big (v.own a) ends.0)
    where
      knows_none : aware γ.big (v.own a) ≡ true → unaware γ.big (v.own a) ≡ true
      knows_none e = let q = (i.core.nodes a).place_known e in absurd (no_resume _ q.0 _ ((i.core.pairs a b).alarms e q.0 q.1) j there)

  linked_at : linked (γ.mind a) (γ.mind b) (γ.wire a b) ≡ true
  linked_at = linked_used (i.core.pairs a b) calm_at ((i.core.nodes a).placed ends.0) ends.2

  -- one that has its cut has had all packets of this neighbour
  pub resume_open : (works (v.own b).state ≡ true) × ((γ.mind b).done ≡ false)
  resume_open = (ends.1, is_false (γ.mind b).done (λ e. some ((i.core.pairs a b).closed_empty linked_at (rw e) calm_at)))

  -- who waits for it in checkpointed has joined no save since, and does not coordinate
  pub resume_fresh : (v.own b).state ≡ Checkpointed → ((γ.mind b).joined ≡ false) × (b ≢ γ.big.chief)
  resume_fresh saved =
      let f = i.core.nodes b in
      let un = un_of γ.big (v.own b) (rw saved) (rw saved) in
      let fresh = ⊎_elim (λ e. e) (λ e. absurd (never (f.wrote_done e) resume_open.1)) (f.in_checkpointed un saved) in
      (fresh, λ e. never (f.chief_saved un saved e) fresh)

-- ---- and stands first in it

module _ (n : ℕ) (total : Party → ℕ) (v : View) (γ : Ghost) (i : Inv n total v γ) (a b : ℕ) (k : List Packet) (line : v.lines a b ≡ Resume ∷ k) where
  abbrev first : get_or (v.lines a b) 0 Empty ≡ Resume
  first = ap (λ (l : List Packet). get_or l 0 Empty) line

  pub sender_calm : unaware γ.big (v.own a) ≡ true
  sender_calm = calm_at n total v γ i a b 0 first

  pub resume_linked : linked (γ.mind a) (γ.mind b) (γ.wire a b) ≡ true
  resume_linked = linked_at n total v γ i a b 0 first

  pub resume_other : a ≢ b
  resume_other e =
      never (and_true {s = (γ.wire a b).lk} resume_linked).0 (ap (λ (j : ℕ). (γ.wire a j).lk) (sym e) ∙ i.core.ground.link_other a)

  -- and waits for none itself
  pub sender_ahead : behind γ.big (v.own a) (γ.mind a) ≡ true → ⊥
  sender_ahead e =
      ⊎_elim (λ f. nil≢cons (sym f ∙ line)) (λ f. let q = sym line ∙ f.2 in let z : ◌≡◌ {A = ℕ} 0 1 = cc in omega arith)
      ((i.core.pairs a b).behind_empty e)

  -- it comes off the line once the receiver has gone on
  pub woken_off : behind γ.big (v.own b) (γ.mind b) ≡ true → (γ.mind b).joined ≡ false → b ≢ γ.big.chief → (r : ℕ → Bool)
      → ((d : ℕ) → r d ≡ true → used (v.side b d) ≡ true)
      → ((d : ℕ) → linked (γ.mind b) (γ.mind d) (γ.wire b d) ≡ true → behind γ.big (v.own d) (γ.mind d) ≡ true → r d ≡ true)
      → Inv n total (set_line (woken v b (Known γ.big.topv) r) a b k) (g_adopted γ)
  woken_off wait fresh other r where-used where-waited =
      drop_inv n total (woken v b (Known γ.big.topv) r) (g_adopted γ)
      (woken_inv n total v γ i b wait fresh other r where-used where-waited) a b Resume k
      (ap (λ (y : ℕ → List Packet). y b) (upd_other v.lines b _ a resume_other) ∙ line)
      (λ e. absurd (false≢true e))
      (λ e. absurd (upd_elim (λ (y : Own). behind γ.big y (γ.mind b) ≡ true → ⊥) v.own b _ b
      (λ f. resumed_not_behind γ.big (v.own b) (Known γ.big.topv) (γ.mind b)) (λ f. absurd (f refl)) e))
      (λ e. absurd (false≢true e))

-- ---- the order of going on and of taking the packet off is no matter

pub woken_swap : (v : View) (a b : ℕ) (k : List Packet) (x : Version) (r : ℕ → Bool) → a ≢ b
    → woken (set_line v a b k) b x r ≡ set_line (woken v b x r) a b k
woken_swap v a b k x r n = λ t. record {
  own = (woken v b x r).own;
  side = (woken v b x r).side;
  lines = lines t;
  slots = v.slots;
  sound = v.sound;
}
  where
    lines : (woken (set_line v a b k) b x r).lines ≡ (set_line (woken v b x r) a b k).lines
    lines =
        ap (λ (y : ℕ → List Packet). upd (upd v.lines a (upd (v.lines a) b k)) b (λ d. resumed_by (r d) (y d)))
        (upd_other v.lines a _ b (λ e. n (sym e)))
        ∙ upd_swap v.lines a b (upd (v.lines a) b k) (λ d. resumed_by (r d) (v.lines b d)) n
        ∙ ap (λ (y : ℕ → List Packet). upd (woken_lines v b r) a (upd y b k)) (sym (upd_other v.lines b _ a n))
