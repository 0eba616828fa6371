-- A cabinet in normal joins the save: it enters checkp-begin and puts a checkp on each line in use, with that line's register.
use Prim.Native.Nat.{ℕ, ◌+◌, ◌≤◌}
use mathlib.Core.Path.{◌≡◌, refl, sym, ap, ◌∙◌}
use mathlib.Core.Logic.{◌≢◌, ◌⊎◌, inl, inr, ⊎_elim}
use mathlib.Core.Bool.{Bool, true, false, cond, not, ◌&&◌, false≢true, true≢false}
use mathlib.Core.List.{List, [], ◌∷◌, ◌++◌}
use native.Mathlib.Omega.{arith}
use Rattle.outlet.specs.declared.Party.{Party}
use Rattle.packet.specs.declared.Check.{Check}
use Rattle.packet.specs.declared.Packet.{Packet}
use Rattle.packet.specs.declared.Packet.TheVariants.{Empty, Normal as NormalPacket, Checkp, Resume, Recover, Fault, Invalid}
use Rattle.packet.specs.Packet.{start_check}
use Rattle.state.specs.declared.State.{State}
use Rattle.state.specs.declared.State.TheVariants.{Failed, Normal, CheckpBegin, Checkpointing, Checkpointed, Error, Recovering, Recovered, Crashed}
use Rattle.image.specs.declared.Image.{Image}
use Rattle.state.specs.State.{is_in, works, in_recovery, is_unknown}
use Rattle.protocol.specs.History.{upd}
use Rattle.claims.proofs.State.Fun.{never, is_false, and_true, and_intro, cond_elim, upd_elim, upd_same, upd_other, and-false, or_right, kept}
use Rattle.claims.proofs.State.View.{View, Own, Side, used}
use Rattle.claims.proofs.State.Methods.{s_begun}
use Rattle.claims.proofs.State.ViewMoves.{o_phase, o_bare, v_put, v_join}
use Rattle.claims.proofs.Invariant.Facts.{Big, Mind, Wire, Ghost, Pair, Stream, Node, Books, Lead, aware, unaware, linked, behind, closed, amounts_in, count, is_fault, is_safe, is_invalid, checkp_last, resume_first}
use Rattle.claims.proofs.Invariant.Whole.{Inv, PairAt, ChainOf}
use Rattle.claims.proofs.Invariant.Logs.{count_snoc, resume_more, checkp_last_lem, amounts_plain}
use Rattle.claims.proofs.Invariant.Words.{un_of, un_works, un_not_aware, used_linked, lead_calm}
use Rattle.claims.proofs.Invariant.Frame.{minded, move_pairs, move_nodes, move_books, move_leads, move_ground, move_places, move_meets, move_sums}

-- ---- the ghost

-- the save under way has begun
abbrev pub b_begun : Big → Big
b_begun b = record {
  faulted = b.faulted;
  topv = b.topv;
  adopted = b.adopted;
  chief = b.chief;
  heir = b.heir;
  alive = b.alive;
  begun = true;
  frozen = b.frozen;
  calm = b.calm;
  clean = b.clean;
}

abbrev pub m_joined : Mind → Mind
m_joined m = record {
  tab = m.tab;
  joined = true;
  done = m.done;
  wrote = m.wrote;
  told = m.told;
  ready = m.ready;
  cut = m.cut;
  base = m.base;
  top = m.top;
  prev = m.prev;
}

abbrev pub g_join : Ghost → ℕ → Ghost
g_join γ c = minded γ (b_begun γ.big) c (m_joined (γ.mind c)) γ.wire

abbrev pub o_begun : Own → Own
o_begun o = o_bare (o_phase o CheckpBegin o.version o.alarm)

-- who may join: the coordinator of no save under way, or another cabinet once that one has, and all know of the save before
abbrev pub Joins : Big → ℕ → Type 0
Joins b c = ((c ≡ b.chief) × (b.begun ≡ false)) ⊎ ((b.begun ≡ true) × (c ≢ b.chief) × (b.adopted ≡ true))

-- ---- a checkp put last

abbrev in_checkp : Packet → Check
in_checkp Empty = start_check
in_checkp (NormalPacket p) = start_check
in_checkp (Checkp v) = v
in_checkp Resume = start_check
in_checkp (Recover v) = start_check
in_checkp (Fault p) = start_check
in_checkp Invalid = start_check

abbrev last_in : Check → List Packet → Check
last_in x [] = x
last_in x (p ∷ l) = last_in (in_checkp p) l

last_snoc : (x v : Check) (l : List Packet) → last_in x (l ++ (Checkp v ∷ [])) ≡ v
last_snoc x v [] = refl
last_snoc x v (p ∷ l) = last_snoc (in_checkp p) v l

same_last : (u v : Check) (l k : List Packet) → l ++ (Checkp u ∷ []) ≡ k ++ (Checkp v ∷ []) → v ≡ u
same_last u v l k e = sym (last_snoc start_check v k) ∙ (sym (ap (last_in start_check) e) ∙ last_snoc start_check u l)

-- ---- states

-- whoever is not between a fault and the end of its recovery is not aware of a fault
pub calm_state : (b : Big) (o : Own) → in_recovery o.state ≡ false → aware b o ≡ false
calm_state b o e = rw e (and-false b.faulted)

-- a cabinet that knows of no fault and has joined has cut, or waits for checkps in checkp-begin
pub joined_state : (b : Big) (c : ℕ) (o : Own) (m : Mind) (z : Bool → Image) → Node b c o m z → unaware b o ≡ true → m.joined ≡ true
    → (m.done ≡ true) ⊎ (o.state ≡ CheckpBegin)
joined_state b c o m z h un j = go o.state refl
  where
    aware_in : in_recovery o.state ≡ true → is_in o.state Recovered ≡ false → ⊥
    aware_in r f = cases b.faulted refl
      where
        cases : (t : Bool) → b.faulted ≡ t → ⊥
        cases true e = un_not_aware b o un (and_intro e r)
        cases false e = out o.state (h.quiet e).0 (h.quiet e).1 f r
          where
            out : (s : State) → is_in s Error ≡ false → is_in s Recovering ≡ false → is_in s Recovered ≡ false → in_recovery s ≡ true → ⊥
            out s x y k q = never q (rw (x, y, k))

    go : (s : State) → o.state ≡ s → (m.done ≡ true) ⊎ (o.state ≡ CheckpBegin)
    go Failed e = absurd (never (un_works b o un) (rw e))
    go Normal e = absurd (never j (h.in_normal un e))
    go CheckpBegin e = inr e
    go Checkpointing e = inl (h.in_checkpointing un e).0
    go Checkpointed e = ⊎_elim (λ x. absurd (never j x)) (λ x. inl (h.wrote_done x)) (h.in_checkpointed un e)
    go Error e = absurd (aware_in (rw e) (rw e))
    go Recovering e = absurd (aware_in (rw e) (rw e))
    go Recovered e = absurd (never j (h.in_recovered un e).0)
    go Crashed e = absurd (false≢true (sym h.running ∙ rw e))

-- ---- the pairs

-- no pair asks whether a save is under way
pub begun_pair : (b : Big) (c d : ℕ) (o : Own) (m : Mind) (p : Own) (n : Mind) (s t : Side) (l : List Packet) (w : Wire) → Pair b c d o m p n s t l w
    → Pair (b_begun b) c d o m p n s t l w
begun_pair b c d o m p n s t l w h = search

-- the one that joins is the sender
module _ (b : Big) (c d : ℕ) (o : Own) (m : Mind) (p : Own) (n : Mind) (s t : Side) (l : List Packet) (w : Wire) (h : Pair b c d o m p n s t l w)
    (un : unaware b o ≡ true) (normal : o.state ≡ Normal) (apart : m.joined ≡ false) (meet : used s ≡ true → works p.state ≡ true)
    (ahead : unaware b p ≡ true → n.joined ≡ true → (n.done ≡ true) ⊎ (p.state ≡ CheckpBegin)) where
  abbrev l' : List Packet
  l' = cond (used s) (l ++ (Checkp s.put ∷ [])) l

  un_joined : unaware b (o_begun o) ≡ true
  un_joined = un_of b (o_begun o) refl refl

  not_aware : {A : Type 0} → aware b (o_begun o) ≡ true → A
  not_aware e = absurd (un_not_aware b (o_begun o) un_joined e)

  not_closed : linked m n w ≡ true → closed b p n t ≡ true → ⊥
  not_closed k e = never (h.closed_joined k e) apart

  -- what the line holds besides the new packet
  line_count : (f : Packet → Bool) (j : ℕ) → cond (f (Checkp s.put)) 1 0 ≤ j → count f l' ≤ count f l + j
  line_count f j e =
      cond_elim (λ (x : List Packet). count f x ≤ count f l + j) (used s) (λ u. omega (arith, count_snoc f l (Checkp s.put))) (λ u. omega arith)

  none_more : (f : Packet → Bool) → f (Checkp s.put) ≡ false → count f l ≡ 0 → count f l' ≡ 0
  none_more f e z = omega (arith, line_count f 0 (rw e (omega arith)))

  same_amounts : amounts_in l' ≡ amounts_in l
  unfolding amounts_in
  same_amounts = cond_elim (λ (x : List Packet). amounts_in x ≡ amounts_in l) (used s) (λ u. amounts_plain l (Checkp s.put) refl) (λ u. refl)

  lively : (works p.state && used s) ≡ false → l' ≡ []
  lively e =
      cond_elim (λ (x : List Packet). x ≡ []) (used s) (λ u. absurd (never (and_intro (meet u) u) e))
      (λ u. h.silent (rw (un_works b o un) e))

  not_come : unaware b p ≡ true → linked m n w ≡ true → (n.joined && t.come) ≡ false
  not_come up k = is_false _ (λ e.
      let f = and_true {s = n.joined} e in
      ⊎_elim (λ x. not_closed k (rw x)) (λ x. not_closed k (begins x f.1)) (ahead up f.0))
    where
      begins : p.state ≡ CheckpBegin → t.come ≡ true → closed b p n t ≡ true
      begins x y = or_right n.done _ (and_intro (ap (λ (z : State). is_in z CheckpBegin) x) (and_intro up y))

  streams : linked m n w ≡ true → unaware b p ≡ true → Stream (true && not (n.joined && t.come)) t.hurt (s_begun s).put t.took w l'
  streams k up =
      let f = h.stream k un up in
      let us : used s ≡ true = used_linked h un k in
      record {
        equal = f.equal;
        within = f.within;
        within_sent = f.within_sent;
        differ = rw same_amounts f.differ;
        reads = f.reads;
        writes = rw (us, not_come up k);
        carries = λ v j e. same_last s.put v l j (rw us at e) ∙ (rw apart at f.writes);
        on_way = λ e y. rw same_amounts (f.on_way e y);
        tells = f.tells;
      }

  pub join_from : Pair b c d (o_begun o) (m_joined m) p n (s_begun s) t l' w
  join_from = record {
    table = λ u. h.table un;
    struck = λ a. not_aware a;
    closed_joined = λ k e. refl;
    closed_equal = h.closed_equal;
    closed_empty = λ k e u. absurd (not_closed k e);
    apart = h.apart;
    owes = λ e. ((h.owes e).0, (h.owes e).1, un_joined);
    owes_home = h.owes_home;
    reported = λ e f. absurd (false≢true f);
    begun_bare = λ e f u. refl;
    readied = λ a. not_aware a;
    ready_heard = h.ready_heard;
    silent = lively;
    alarms = λ a. not_aware a;
    unheard = λ a. not_aware a;
    heard = λ e. absurd (un_not_aware b o un (h.heard_of e).0);
    heard_of = λ e. absurd (un_not_aware b o un (h.heard_of e).0);
    no_fault = λ u. none_more is_fault refl (h.no_fault un);
    no_checkp = λ u f. absurd (true≢false f);
    last_checkp = λ u. cond_elim checkp_last (used s) (λ e. checkp_last_lem l (Checkp s.put) (h.no_checkp un apart)) (λ e. h.last_checkp un);
    behind_empty = λ e. absurd (false≢true (and_true {s = unaware b (o_begun o)} e).1);
    resumed = λ k u f e. cond_elim (λ (x : List Packet). resume_first x ≡ true) (used s) (λ z. resume_more l _ (before k e)) (λ z. before k e);
    came = h.came;
    tail_heard = h.tail_heard;
    stream = λ k u up. streams k up;
    fresh = λ a. not_aware a;
    room = λ u. omega (arith, line_count is_safe 1 (omega arith), rw apart at (h.room un));
    sound = λ e. none_more is_invalid refl (h.sound e);
    unhurt = h.unhurt;
    no_more = λ y e. rw same_amounts (h.no_more y e);
    small = (h.small.0, (h.small.1.0, rw same_amounts h.small.1.1));
    fit = h.fit;
  }
    where
      before : linked m n w ≡ true → behind b p n ≡ true → resume_first l ≡ true
      before k e = h.resumed k un (is_false (behind b o m) (λ x. false≢true (rw normal at (and_true {s = unaware b o} x).1))) e

-- the one that joins is the receiver
module _ (b : Big) (c d : ℕ) (o : Own) (m : Mind) (p : Own) (n : Mind) (s t : Side) (l : List Packet) (w : Wire) (h : Pair b c d o m p n s t l w)
    (un : unaware b p ≡ true) (normal : p.state ≡ Normal) (apart : n.joined ≡ false) (begun : n.done ≡ false) (unready : n.ready ≡ false) where
  not_heard : (aware b (o_begun p) && false) ≡ true → ⊥
  not_heard e = false≢true (and_true {s = aware b (o_begun p)} e).1

  no_close : closed b (o_begun p) (m_joined n) (s_begun t) ≡ true → ⊥
  no_close e = never e (rw begun (and-false (unaware b (o_begun p))))

  pub join_to : Pair b c d o m (o_begun p) (m_joined n) s (s_begun t) l w
  join_to = record {
    table = h.table;
    struck = h.struck;
    closed_joined = λ k e. absurd (no_close e);
    closed_equal = λ k e. absurd (no_close e);
    closed_empty = λ k e. absurd (no_close e);
    apart = h.apart;
    owes = h.owes;
    owes_home = h.owes_home;
    reported = h.reported;
    begun_bare = h.begun_bare;
    readied = h.readied;
    ready_heard = λ e. absurd (never e unready);
    silent = λ e. h.silent (rw (un_works b p un) e);
    alarms = h.alarms;
    unheard = λ a us x e. h.unheard a us (un_works b p un) (rw (calm_state b p (rw normal)));
    heard = λ e. absurd (not_heard e);
    heard_of = λ e. absurd (not_heard e);
    no_fault = h.no_fault;
    no_checkp = h.no_checkp;
    last_checkp = h.last_checkp;
    behind_empty = h.behind_empty;
    resumed = λ k u f e. absurd (false≢true (and_true {s = unaware b (o_begun p)} e).1);
    came = λ k u e. absurd (false≢true e);
    tail_heard = λ k u e. absurd (false≢true e);
    stream = λ k u up. rw apart at (h.stream k u un);
    fresh = h.fresh;
    room = h.room;
    sound = h.sound;
    unhurt = λ e u. h.unhurt e un;
    no_more = h.no_more;
    small = h.small;
    fit = h.fit;
  }

-- ---- the cabinets

-- every other one
module _ (b : Big) (c i : ℕ) (o : Own) (m : Mind) (z : Bool → Image) (h : Node b i o m z) (joins : Joins b c) (other : i ≢ c) where
  begun_node : Node (b_begun b) i o m z
  begun_node =
      let jb : m.joined ≡ true → ◌≡◌ {A = Bool} true true = λ e. refl in
      let cb : i ≡ b.chief → m.joined ≡ true = λ e. ⊎_elim (λ x. absurd (other (e ∙ sym x.0))) (λ x. h.chief_begun e ∙ x.0) joins in
      search

-- the one that joins
module _ (b : Big) (c : ℕ) (o : Own) (m : Mind) (z : Bool → Image) (h : Node b c o m z) (un : unaware b o ≡ true) (normal : o.state ≡ Normal)
    (joins : Joins b c) where
  node_apart : m.joined ≡ false
  node_apart = h.in_normal un normal

  node_begun : m.done ≡ false
  node_begun = is_false _ (λ e. never (h.done_joined e) node_apart)

  node_unready : m.ready ≡ false
  node_unready = is_false _ (λ e. un_not_aware b o un (h.ready_is e).0)

  un_node : unaware b (o_begun o) ≡ true
  un_node = un_of b (o_begun o) refl refl

  no_aware : {A : Type 0} → aware b (o_begun o) ≡ true → A
  no_aware e = absurd (un_not_aware b (o_begun o) un_node e)

  not_state : {A : Type 0} (s : State) → is_in CheckpBegin s ≡ false → CheckpBegin ≡ s → A
  not_state s f e = absurd (never (rw (← e)) f)

  is_known : is_unknown o.version ≡ false
  is_known = h.unknown_at un ∙ rw normal

  join_node : Node (b_begun b) c (o_begun o) (m_joined m) z
  join_node = record {
    placed = λ e. h.placed (un_works b o un);
    present = λ e f. refl;
    running = refl;
    quiet = λ e. (refl, refl);
    place_known = no_aware;
    in_normal = λ u e. not_state Normal refl e;
    in_begin = λ u e. (refl, node_begun, refl);
    in_checkpointing = λ u e. not_state Checkpointing refl e;
    in_checkpointed = λ u e. not_state Checkpointed refl e;
    chief_saved = λ u e f. refl;
    in_recovered = λ u e. not_state Recovered refl e;
    in_error = no_aware;
    in_recovering = no_aware;
    restored = no_aware;
    ready_is = λ e. absurd (never e node_unready);
    told_wrote = h.told_wrote;
    wrote_done = h.wrote_done;
    done_joined = λ e. refl;
    joined_tab = λ e. h.placed (un_works b o un);
    joined_begun = λ e. refl;
    chief_begun = λ e. refl;
    known = λ e. h.known (un_works b o un);
    unknown_at = λ u. is_known;
    unknown_aware = no_aware;
    old_joined = λ e v f j. absurd (never (ap is_unknown f) is_known);
    old_before = λ e v f j. absurd (true≢false j);
    knows = no_aware;
    waits = λ e d. ⊎_elim (λ x. absurd (d x.0)) (λ x. absurd (never x.2 e)) joins;
    cut_image = λ a e. absurd (never e node_begun);
    gone = h.gone;
    slot_top = h.slot_top;
    slot_prev = h.slot_prev;
    slot_cut = h.slot_cut;
    slot_pieces = λ a u e. not_state Checkpointing refl e;
    noted = h.noted;
    sizes = h.sizes;
  }

begun_books : (b : Big) (o : Own) (m : Mind) (out got : Party → ℕ) → Books b o m out got → Books (b_begun b) o m out got
begun_books b o m out got h = record { bounded = h.bounded; live = h.live; at_cut = h.at_cut }

join_books : (b : Big) (o : Own) (m : Mind) (out got : Party → ℕ) → unaware b o ≡ true → Books b o m out got → Books (b_begun b) (o_begun o) (m_joined m) out got
join_books b o m out got un h = record { bounded = h.bounded; live = λ u. h.live un; at_cut = h.at_cut }

-- who leads does not hang on the save
begun_lead : (b : Big) (c : ℕ) (o : Own) → Lead b c o → Lead (b_begun b) c o
begun_lead b c o h = record { steady = h.steady; moved = h.moved; lives = h.lives; fallen = h.fallen; blank = h.blank }

-- ---- together

module _ (n : ℕ) (total : Party → ℕ) (v : View) (γ : Ghost) (i : Inv n total v γ) (c : ℕ) (un : unaware γ.big (v.own c) ≡ true)
    (normal : (v.own c).state ≡ Normal) (joins : Joins γ.big c) where
  abbrev lines' : ℕ → ℕ → List Packet
  lines' = upd v.lines c (v_put v c (λ b. Checkp (v.side c b).put))

  abbrev o' : Own
  o' = o_begun (v.own c)

  abbrev m' : Mind
  m' = m_joined (γ.mind c)

  abbrev s' : ℕ → Side
  s' d = s_begun (v.side c d)

  unjoined : (γ.mind c).joined ≡ false
  unjoined = node_apart _ _ _ _ _ (i.core.nodes c) un normal joins

  from_one_lem : (j : ℕ) → Pair (b_begun γ.big) c j o' m' (v.own j) (γ.mind j) (s' j) (v.side j c) (lines' c j) (γ.wire c j)
  from_one_lem j =
      rw (upd_same v.lines c (v_put v c (λ b. Checkp (v.side c b).put)))
      (begun_pair _ _ _ _ _ _ _ _ _ _ _
      (join_from _ _ _ _ _ _ _ _ _ _ _ (i.core.pairs c j) un normal unjoined (i.meets c j (un_works γ.big (v.own c) un))
      (joined_state _ _ _ _ _ (i.core.nodes j))))

  to_one : (k : ℕ) (o : Own) (m : Mind) (s : Side) (l : List Packet)
      → Pair (b_begun γ.big) k c o m (v.own c) (γ.mind c) s (v.side c k) l (γ.wire k c)
      → Pair (b_begun γ.big) k c o m o' m' s (s' k) l (γ.wire k c)
  to_one k o m s l h =
      join_to _ _ _ _ _ _ _ _ _ _ _ h un normal unjoined (node_begun _ _ _ _ _ (i.core.nodes c) un normal joins)
      (node_unready _ _ _ _ _ (i.core.nodes c) un normal joins)

  join_pairs : (k j : ℕ) → PairAt (v_join v c) (g_join γ c) k j
  join_pairs =
      move_pairs v γ (b_begun γ.big) c o' m' s' lines' v.slots γ.wire
      (λ k j d e. ap (λ (f : ℕ → List Packet). f j) (upd_other v.lines c _ k d)) (λ k j d e. refl)
      (λ k j d e. begun_pair _ _ _ _ _ _ _ _ _ _ _ (i.core.pairs k j)) (λ j d. from_one_lem j)
      (to_one c o' m' (s' c) (lines' c c) (from_one_lem c))
      (λ k d. rw (upd_other v.lines c (v_put v c (λ b. Checkp (v.side c b).put)) k d)
      (to_one k (v.own k) (γ.mind k) (v.side k c) (v.lines k c) (begun_pair _ _ _ _ _ _ _ _ _ _ _ (i.core.pairs k c))))

  join_chain : ChainOf (v_join v c) (g_join γ c)
  join_chain =
      let h = i.core.chain in
      let b = γ.big in
      rw (
        kept (λ (x : Own). works x.state && not (b.faulted && in_recovery x.state)) v.own c o' (un_of b o' refl refl ∙ sym un),
        kept (λ (x : Own). works x.state) v.own c o' (sym (un_works b (v.own c) un)),
        kept (λ (x : Own). not (is_unknown x.version)) v.own c o' refl,
        kept (λ (x : Mind). x.tab) γ.mind c m' refl,
        kept (λ (x : Mind). x.done) γ.mind c m' refl,
        kept (λ (x : Mind). x.wrote) γ.mind c m' refl,
      ) (record {
        no_commit = h.no_commit;
        lives = h.lives;
        alone = h.alone;
        company = λ j d w e. let x = h.company j d w e in (x.0, x.1, x.2, ⊎_elim inl (λ y. inr (grows x.0 y)) x.3);
      })
    where
      grows : (j : ℕ) → (γ.mind j).joined ≡ true → (upd γ.mind c m' j).joined ≡ true
      grows j e = upd_elim (λ (x : Mind). x.joined ≡ true) γ.mind c m' j (λ q. refl) (λ d. e)

  -- its version is not lost, since it is not aware of a fault
  join_lead : Lead γ.big c o'
  join_lead =
      let h = i.core.leads c in
      lead_calm γ.big c (v.own c) o' h un (un_of γ.big o' refl refl) refl
      (λ e. un_not_aware γ.big (v.own c) un (h.blank (un_works γ.big (v.own c) un) e).0)

  pub join_inv : Inv n total (v_join v c) (g_join γ c)
  join_inv = record {
    core = record {
      pairs = join_pairs;
      nodes = move_nodes v γ (b_begun γ.big) c o' m' s' lines' v.slots γ.wire (λ j d. refl)
          (λ j d. begun_node _ c _ _ _ _ (i.core.nodes j) joins d) (join_node _ _ _ _ _ (i.core.nodes c) un normal joins);
      books = move_books v γ (b_begun γ.big) c o' m' s' lines' v.slots γ.wire (λ j. refl) (λ j. refl)
          (λ j d. begun_books _ _ _ _ _ (i.core.books j)) (join_books _ _ _ _ _ un (i.core.books c));
      leads = move_leads v γ (b_begun γ.big) c o' m' s' lines' v.slots γ.wire (λ j d. begun_lead _ _ _ (i.core.leads j)) (begun_lead _ _ _ join_lead);
      ground = move_ground v γ c o' m' s' lines' v.slots γ.wire works_on refl (λ i j. refl) (b_begun γ.big)
          refl refl refl refl refl i.core.ground;
      chain = join_chain;
      sums = move_sums total γ (b_begun γ.big) c m' γ.wire refl refl refl refl i.core.sums;
    };
    places = move_places v γ c o' m' s' lines' v.slots γ.wire works_on refl (λ i j. refl) (b_begun γ.big) refl
        (calm_state γ.big o' refl ∙ sym (calm_state γ.big (v.own c) (rw normal))) refl i.places;
    meets = move_meets v c o' s' lines' v.slots works_on (λ d. refl) i.meets;
  }
    where
      works_on : works o'.state ≡ works (v.own c).state
      works_on = sym (un_works γ.big (v.own c) un)
