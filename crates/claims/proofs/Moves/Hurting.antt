-- A packet of one line is hurt while nobody recovers: what damage and loss have in common. The group is calm no more, and where the packet
-- is a normal one the receiver's hurt mark is set.
use Prim.Native.Nat.{ℕ, ◌+◌, ◌<◌, ◌≤◌}
use mathlib.Core.Path.{◌≡◌, refl, sym, ap, ◌∙◌, subst}
use mathlib.Core.Logic.{◌≢◌, ⊎_elim}
use mathlib.Core.Bool.{Bool, true, false, cond, not, ◌&&◌, ◌||◌, false≢true, true≢false}
use mathlib.Core.List.{List, [], ◌∷◌, ◌++◌}
use lib.ListN.{drop}
use native.Mathlib.Omega.{arith}
use native.Mathlib.Decide.{ℕ_discrete}
use Rattle.outlet.specs.declared.Party.{Party}
use Rattle.packet.specs.declared.Payload.{Payload}
use Rattle.packet.specs.declared.Check.{Check}
use Rattle.packet.specs.declared.Packet.{Packet}
use Rattle.packet.specs.declared.Packet.TheVariants.{Empty, Normal as NormalPacket, Checkp, Resume, Recover, Fault, Invalid}
use Rattle.packet.specs.Packet.{start_check}
use Rattle.state.specs.declared.State.{State}
use Rattle.state.specs.declared.State.TheVariants.{Error, Recovering, Recovered}
use Rattle.image.specs.declared.Image.{Image}
use Rattle.state.specs.State.{is_in, in_recovery}
use Rattle.group.specs.declared.Group.{Group}
use Rattle.protocol.specs.Kinds.{hurt_if}
use Rattle.protocol.specs.History.{History, upd, with_damaged, with_hurt, note_hurt}
use Rattle.claims.proofs.State.Fun.{never, and_true, upd_same, upd_other, upd_id, kept_at, pair_same, pair_other, pair_both}
use Rattle.claims.proofs.State.View.{View, Own, Side, used, view, set_line}
use Rattle.claims.proofs.State.Sim.{Fit}
use Rattle.claims.proofs.State.Methods.{s_registers}
use Rattle.claims.proofs.State.ViewMoves.{v_hurt, sim_hurt}
use Rattle.claims.proofs.Invariant.Facts.{Big, Mind, Wire, Ghost, Pair, Node, Stream, aware, unaware, linked, closed, amounts_in, amount, Amounts, count, is_fault, is_checkp, is_safe, is_invalid, checkp_last, resumes, resume_first, amount_of, Fitting, Differ, later}
use Rattle.claims.proofs.Invariant.Whole.{Inv}
use Rattle.claims.proofs.Invariant.Past.{Past}
use Rattle.claims.proofs.Invariant.Logs.{differ_none, fitting_drop}
use Rattle.claims.proofs.Invariant.Words.{un_of, un_not_aware, linked_used, live_line}
use Rattle.claims.proofs.Invariant.Frame.{move_pairs, move_nodes, move_books, out_kept, got_kept, same_mind, quiet_inv}
use Rattle.claims.proofs.Moves.Sending.{wires, g_wire, wire_kept}

-- ---- a line of which a packet behind the first is hurt

pub resumes_later : (x : Packet) (r s : Bool) → (r ≡ true → s ≡ true) → resumes x r ≡ true → resumes x s ≡ true
resumes_later Empty r s f e = absurd (false≢true e)
resumes_later (NormalPacket p) r s f e = absurd (false≢true e)
resumes_later (Checkp v) r s f e = absurd (false≢true e)
resumes_later Resume r s f e = refl
resumes_later (Recover v) r s f e = f e
resumes_later (Fault p) r s f e = absurd (false≢true e)
resumes_later Invalid r s f e = refl

pub differ_later : (x : Packet) (r s : List Payload) → Differ true r s → Differ true (amount_of x r) (amount_of x s)
differ_later Empty r s d = d
differ_later (NormalPacket p) r s d = later d
differ_later (Checkp v) r s d = d
differ_later Resume r s d = d
differ_later (Recover v) r s d = d
differ_later (Fault p) r s d = d
differ_later Invalid r s d = d

pub small_later : (x : Packet) (r s : List Payload) → (Amounts r → Amounts s) → Amounts (amount_of x r) → Amounts (amount_of x s)
unfolding Amounts
small_later Empty r s f a = f a
small_later (NormalPacket p) r s f a = (a.0, f a.1)
small_later (Checkp v) r s f a = f a
small_later Resume r s f a = f a
small_later (Recover v) r s f a = f a
small_later (Fault p) r s f a = f a
small_later Invalid r s f a = f a

pub less_later : (y : Party) (x : Packet) (r s : List Payload) → amount y r ≤ amount y s → amount y (amount_of x r) ≤ amount y (amount_of x s)
unfolding amount
less_later y Empty r s h = h
less_later y (NormalPacket p) r s h = omega arith
less_later y (Checkp v) r s h = h
less_later y Resume r s h = h
less_later y (Recover v) r s h = h
less_later y (Fault p) r s h = h
less_later y Invalid r s h = h

-- ---- nobody recovers

not_recovered : (s : State) → in_recovery s ≡ false → is_in s Recovered ≡ false
not_recovered s = go (is_in s Error) (is_in s Recovering) (is_in s Recovered)
  where
    go : (x y z : Bool) → (x || (y || z)) ≡ false → z ≡ false
    go true y z e = absurd (true≢false e)
    go false true z e = absurd (true≢false e)
    go false false z e = e

-- the ends of a line with a packet know of no fault, are linked, and are two
line_runs : (n : ℕ) (total : Party → ℕ) (v : View) (γ : Ghost) → Inv n total v γ → ((c : ℕ) → in_recovery (v.own c).state ≡ false)
    → (a b : ℕ) → (v.lines a b ≡ [] → ⊥)
    → (unaware γ.big (v.own a) ≡ true) × (unaware γ.big (v.own b) ≡ true) × (linked (γ.mind a) (γ.mind b) (γ.wire a b) ≡ true) × (a ≢ b)
line_runs n total v γ i nobody a b full =
    let h = i.core.pairs a b in
    let alive = live_line h full in
    let un = un_of γ.big (v.own a) alive.0 (nobody a) in
    let j = linked_used h un ((i.core.nodes a).placed alive.0) alive.2 in (
      un,
      un_of γ.big (v.own b) alive.1 (nobody b),
      j,
      (λ e. never (and_true {s = (γ.wire a b).lk} j).0 (ap (λ (x : ℕ). (γ.wire a x).lk) (sym e) ∙ i.core.ground.link_other a)),
    )

-- ---- the ghost: no longer calm, and of each party clean as it is told

abbrev b_hurt : Big → (Party → Bool) → Big
b_hurt b x = record {
  faulted = b.faulted;
  topv = b.topv;
  adopted = b.adopted;
  chief = b.chief;
  heir = b.heir;
  alive = b.alive;
  begun = b.begun;
  frozen = b.frozen;
  calm = false;
  clean = x;
}

abbrev pub g_uncalm : Ghost → (Party → Bool) → Ghost
g_uncalm γ x = record { big = b_hurt γ.big x; mind = γ.mind; wire = γ.wire }

module _ (b : Big) (x : Party → Bool) (still : (y : Party) → x y ≡ true → b.clean y ≡ true) where
  stained : (c d : ℕ) (o : Own) (m : Mind) (p : Own) (n : Mind) (s t : Side) (l : List Packet) (w : Wire) → Pair b c d o m p n s t l w
      → Pair (b_hurt b x) c d o m p n s t l w
  stained c d o m p n s t l w h =
      let so : false ≡ true → count is_invalid l ≡ 0 = λ e. absurd (false≢true e) in
      let un : false ≡ true → unaware b p ≡ true → t.hurt ≡ false = λ e. absurd (false≢true e) in
      let nm : (y : Party) → x y ≡ true → w.got y + amount y (amounts_in l) ≤ w.out y = λ y e. h.no_more y (still y e) in
      search

  stained_node : (c : ℕ) (o : Own) (m : Mind) (z : Bool → Image) → in_recovery o.state ≡ false → Node b c o m z → Node (b_hurt b x) c o m z
  stained_node c o m z r h =
      let ir : unaware b o ≡ true → o.state ≡ Recovered → (m.joined ≡ false) × (c ≢ b.chief) × (false ≡ true)
      = λ u e. absurd (never (ap in_recovery e) r) in
      search

uncalm_inv : (n : ℕ) (total : Party → ℕ) (v : View) (γ : Ghost) → Inv n total v γ → ((c : ℕ) → in_recovery (v.own c).state ≡ false)
    → (x : Party → Bool) → ((y : Party) → x y ≡ true → γ.big.clean y ≡ true) → Inv n total v (g_uncalm γ x)
uncalm_inv n total v γ i nobody x still = record {
  core = record {
    pairs = λ c d. stained γ.big x still c d _ _ _ _ _ _ _ _ (i.core.pairs c d);
    nodes = λ c. stained_node γ.big x still c _ _ _ (nobody c) (i.core.nodes c);
    books = λ c. let h = i.core.books c in record { bounded = h.bounded; live = h.live; at_cut = h.at_cut };
    leads = λ c. let h = i.core.leads c in record { steady = h.steady; moved = h.moved; lives = h.lives; fallen = h.fallen; blank = h.blank };
    ground = i.core.ground;
    chain = let h = i.core.chain in record { no_commit = h.no_commit; lives = h.lives; alone = h.alone; company = h.company };
    sums = i.core.sums;
  };
  places = i.places;
  meets = i.meets;
}

-- ---- one line with a packet hurt: x says whether it is a normal one

-- the receiver's side
abbrev s_hurt : Bool → Side → Side
s_hurt x s = s_registers s s.put s.took (cond x true s.hurt)

abbrev pub w_hurt : Bool → Wire → Wire
w_hurt x w = record { sent = w.sent; taken = w.taken; ver = w.ver; out = w.out; got = w.got; hurt = cond x true w.hurt; lk = w.lk }

abbrev pub v_hit : View → ℕ → ℕ → Bool → List Packet → View
v_hit v a b x l = record {
  own = v.own;
  side = upd v.side b (upd (v.side b) a (s_hurt x (v.side b a)));
  lines = upd v.lines a (upd (v.lines a) b l);
  slots = v.slots;
  sound = v.sound;
}

abbrev pub g_hit : Ghost → ℕ → ℕ → Bool → Ghost
g_hit γ a b x = g_wire γ a b (w_hurt x (γ.wire a b))

-- what is left of a line with one packet hurt
pub record Hit (x : Bool) (l l' : List Packet) : Type 0 where
  pub full : l ≡ [] → ⊥
  pub faults : count is_fault l ≡ 0 → count is_fault l' ≡ 0
  pub checkps : count is_checkp l ≡ 0 → count is_checkp l' ≡ 0
  pub last : checkp_last l → checkp_last l'
  pub ended : checkp_last l → (v : Check) (k : List Packet) → l' ≡ k ++ (Checkp v ∷ []) → (r : List Packet) × (l ≡ r ++ (Checkp v ∷ []))
  pub resumed : resume_first l ≡ true → resume_first l' ≡ true
  pub safe : count is_safe l' ≤ count is_safe l
  pub other : x ≡ true → Fitting (amounts_in l) → Differ true (amounts_in l) (amounts_in l')
  pub same : x ≡ false → amounts_in l' ≡ amounts_in l
  pub small : Amounts (amounts_in l) → Amounts (amounts_in l')

differ_after : (u : List Payload) {r s : List Payload} → Differ true r s → Differ true (u ++ r) (u ++ s)
differ_after [] d = d
differ_after (p ∷ u) d = later (differ_after u d)

fitting_after : (k l : List Payload) → Fitting (k ++ l) → Fitting l
unfolding Fitting
fitting_after [] l f = f
fitting_after (p ∷ k) l f = fitting_after k l f.1

unhurt_both : (x y : Bool) → cond x true y ≡ false → (x ≡ false) × (y ≡ false)
unhurt_both true y e = absurd (true≢false e)
unhurt_both false y e = (refl, e)

module _ (b : Big) (c d : ℕ) (o : Own) (m : Mind) (p : Own) (n : Mind) (s t : Side) (l : List Packet) (w : Wire) (h : Pair b c d o m p n s t l w)
    (upset : b.calm ≡ false) (un : unaware b o ≡ true) (up : unaware b p ≡ true) (joined : linked m n w ≡ true) (served : is_in o.state Recovered ≡ false)
    (x : Bool) (l' : List Packet) (hit : Hit x l l') (once : x ≡ true → t.hurt ≡ false)
    (less : (y : Party) → b.clean y ≡ true → amount y (amounts_in l') ≤ amount y (amounts_in l)) where
  not_aware : {A : Type 0} → aware b o ≡ true → A
  not_aware a = absurd (un_not_aware b o un a)

  open_yet : {A : Type 0} → closed b p n t ≡ true → A
  open_yet e = absurd (hit.full (h.closed_empty joined e un))

  -- one packet differs or is missing now, where it is a normal one
  hit_differ : Differ t.hurt (drop w.ver w.sent) (drop w.ver w.taken ++ amounts_in l)
      → Differ (s_hurt x t).hurt (drop w.ver w.sent) (drop w.ver w.taken ++ amounts_in l')
  hit_differ f = go x refl
    where
      go : (y : Bool) → x ≡ y → Differ (cond y true t.hurt) (drop w.ver w.sent) (drop w.ver w.taken ++ amounts_in l')
      go true e =
          let z : drop w.ver w.sent ≡ drop w.ver w.taken ++ amounts_in l = differ_none (rw (once e) at f) in
          rw z (differ_after (drop w.ver w.taken)
          (hit.other e (fitting_after (drop w.ver w.taken) (amounts_in l) (subst Fitting z (fitting_drop w.ver w.sent h.fit.0)))))
      go false e = rw (hit.same e) f

  hit_stream : Stream (m.joined && not (n.joined && t.come)) (s_hurt x t).hurt s.put t.took (w_hurt x w) l'
  hit_stream =
      let f = h.stream joined un up in
      record {
        equal = f.equal;
        within = f.within;
        within_sent = f.within_sent;
        differ = hit_differ f.differ;
        reads = f.reads;
        writes = f.writes;
        carries = λ v r e. let y = hit.ended (h.last_checkp un) v r e in f.carries v y.0 y.1;
        on_way = λ e y. let z = unhurt_both x t.hurt e in omega (arith, f.on_way z.1 y, ap (amount y) (hit.same z.0));
        tells = ap (λ (y : Bool). cond x true y) f.tells;
      }

  hit_pair : Pair b c d o m p n s (s_hurt x t) l' (w_hurt x w)
  hit_pair = record {
    table = h.table;
    struck = h.struck;
    closed_joined = h.closed_joined;
    closed_equal = λ j e a. open_yet e;
    closed_empty = λ j e u. open_yet e;
    apart = λ e. absurd (never joined e);
    owes = h.owes;
    owes_home = h.owes_home;
    reported = h.reported;
    begun_bare = h.begun_bare;
    readied = h.readied;
    ready_heard = h.ready_heard;
    silent = λ e. absurd (hit.full (h.silent e));
    alarms = not_aware;
    unheard = not_aware;
    heard = λ e. absurd (un_not_aware b p up (and_true {s = aware b p} e).0);
    heard_of = h.heard_of;
    no_fault = λ u. hit.faults (h.no_fault u);
    no_checkp = λ u j. hit.checkps (h.no_checkp u j);
    last_checkp = λ u. hit.last (h.last_checkp u);
    behind_empty = λ e. ⊎_elim (λ f. absurd (hit.full f)) (λ f. absurd (never f.1 served)) (h.behind_empty e);
    resumed = λ j u f e. hit.resumed (h.resumed j u f e);
    came = h.came;
    tail_heard = h.tail_heard;
    stream = λ j u v. hit_stream;
    fresh = not_aware;
    room = λ u. omega (arith, hit.safe, h.room u);
    sound = λ e. absurd (never e upset);
    unhurt = λ e u. absurd (never e upset);
    no_more = λ y e. omega (arith, h.no_more y e, less y e);
    small = (h.small.0, (h.small.1.0, hit.small h.small.1.1));
    fit = h.fit;
  }

-- the pair back: the hurt mark stands at the sending end
hurt_from : (b : Big) (c d : ℕ) (o : Own) (m : Mind) (p : Own) (n : Mind) (s t : Side) (l : List Packet) (w : Wire) → Pair b c d o m p n s t l w
    → (aware b o ≡ true → ⊥) → (x : Bool) → Pair b c d o m p n (s_registers s s.put s.took x) t l w
hurt_from b c d o m p n s t l w h calm x =
    let f : aware b o ≡ true → is_in o.state Recovered ≡ true → (s.put ≡ start_check) × (s.took ≡ start_check) × (x ≡ false) = λ a. absurd (calm a) in
    search

module _ (n : ℕ) (total : Party → ℕ) (v : View) (γ : Ghost) (i : Inv n total v γ) (a b : ℕ) (other : a ≢ b) (calm : aware γ.big (v.own b) ≡ true → ⊥)
    (x : Bool) (l : List Packet)
    (hit : Pair γ.big a b (v.own a) (γ.mind a) (v.own b) (γ.mind b) (v.side a b) (s_hurt x (v.side b a)) l (w_hurt x (γ.wire a b))) where
  abbrev to_a : Side
  to_a = s_hurt x (v.side b a)

  abbrev sides : ℕ → Side
  sides = upd (v.side b) a to_a

  abbrev lines' : ℕ → ℕ → List Packet
  lines' = upd v.lines a (upd (v.lines a) b l)

  abbrev wire' : Wire
  wire' = w_hurt x (γ.wire a b)

  abbrev w' : ℕ → ℕ → Wire
  w' = wires γ a b wire'

  away : b ≢ a
  away e = other (sym e)

  hit_to : (c : ℕ) → c ≢ b → Pair γ.big c b (v.own c) (γ.mind c) (v.own b) (γ.mind b) (v.side c b) (sides c) (lines' c b) (w' c b)
  hit_to c d = elim (ℕ_discrete c a) [
    | yes e ↦ rw (e, upd_same (v.side b) a to_a, pair_same v.lines a b l, pair_same γ.wire a b wire') hit
    | no f ↦ rw (upd_other (v.side b) a to_a c f, pair_other v.lines a b l c b (λ y z. f y), pair_other γ.wire a b wire' c b (λ y z. f y)) (i.core.pairs c b)
  ]

  hit_self : Pair γ.big b b (v.own b) (γ.mind b) (v.own b) (γ.mind b) (sides b) (sides b) (lines' b b) (w' b b)
  hit_self =
      rw (upd_other (v.side b) a to_a b away, pair_other v.lines a b l b b (λ y z. away y), pair_other γ.wire a b wire' b b (λ y z. away y)) (i.core.pairs b b)

  hit_from : (c : ℕ) → c ≢ b → Pair γ.big b c (v.own b) (γ.mind b) (v.own c) (γ.mind c) (sides c) (v.side c b) (lines' b c) (w' b c)
  hit_from c d =
      rw (pair_other v.lines a b l b c (λ y z. d z), pair_other γ.wire a b wire' b c (λ y z. d z))
      (elim (ℕ_discrete c a) [
        | yes e ↦ rw (e, upd_same (v.side b) a to_a) (hurt_from _ _ _ _ _ _ _ _ _ _ _ (i.core.pairs b a) calm to_a.hurt)
        | no f ↦ rw (upd_other (v.side b) a to_a c f) (i.core.pairs b c)
      ])

  abbrev δ : Ghost
  δ = record { big = γ.big; mind = upd γ.mind b (γ.mind b); wire = w' }

  abbrev v' : View
  v' = record { own = upd v.own b (v.own b); side = upd v.side b sides; lines = lines'; slots = v.slots; sound = v.sound }

  moved_inv : Inv n total v' δ
  moved_inv =
      quiet_inv n total v γ i b (v.own b) (γ.mind b) sides lines' v.slots w'
      (refl, refl, refl, refl, refl, refl, refl) (refl, refl, refl, refl, refl, refl, refl) (wire_kept (λ (y : Wire). y.lk) γ a b wire' refl)
      (kept_at used (v.side b) a to_a refl)
      (move_pairs v γ γ.big b (v.own b) (γ.mind b) sides lines' v.slots w' (λ c d n m. pair_other v.lines a b l c d (λ y z. m z))
      (λ c d n m. pair_other γ.wire a b wire' c d (λ y z. m z)) (λ c d n m. i.core.pairs c d) hit_from hit_self hit_to)
      (move_nodes v γ γ.big b (v.own b) (γ.mind b) sides lines' v.slots w' (λ c d. refl) (λ c d. i.core.nodes c) (i.core.nodes b))
      (move_books v γ γ.big b (v.own b) (γ.mind b) sides lines' v.slots w' (λ c. out_kept γ δ c (λ d. wire_kept (λ (y : Wire). y.out) γ a b wire' refl c d))
      (λ c. got_kept γ δ c (λ d. wire_kept (λ (y : Wire). y.got) γ a b wire' refl d c)) (λ c d. i.core.books c) (i.core.books b))

  same_own : v' ≡ v_hit v a b x l
  same_own = λ t. record { own = upd_id v.own b t; side = upd v.side b sides; lines = lines'; slots = v.slots; sound = v.sound }

  hit_inv : Inv n total (v_hit v a b x l) (g_hit γ a b x)
  hit_inv =
      subst (λ (u : View). Inv n total u (g_hit γ a b x)) same_own
      (subst (λ (ε : Ghost). Inv n total v' ε) (same_mind γ γ.big b w') moved_inv)

-- ---- together: a packet of the line from a to b is hurt

module _ (n : ℕ) (total : Party → ℕ) (v : View) (γ : Ghost) (i : Inv n total v γ) (nobody : (c : ℕ) → in_recovery (v.own c).state ≡ false) (a b : ℕ)
    (x : Bool) (clean : Party → Bool) (l : List Packet) (hit : Hit x (v.lines a b) l) (once : x ≡ true → (v.side b a).hurt ≡ false)
    (was : (y : Party) → clean y ≡ true → γ.big.clean y ≡ true) (less : (y : Party) → clean y ≡ true → amount y (amounts_in l) ≤ amount y (amounts_in (v.lines a b))) where
  pub hurt_inv : Inv n total (v_hit v a b x l) (g_hit (g_uncalm γ clean) a b x)
  hurt_inv =
      let ε : Ghost = g_uncalm γ clean in
      let j = uncalm_inv n total v γ i nobody clean was in
      let r = line_runs n total v ε j nobody a b hit.full in
      hit_inv n total v ε j a b r.3 (un_not_aware ε.big (v.own b) r.1) x l
      (hit_pair _ _ _ _ _ _ _ _ _ _ _ (j.core.pairs a b) refl r.0 r.1 r.2 (not_recovered (v.own a).state (nobody a)) x l hit once less)

-- ---- the group

-- the line is set, and the mark where it is asked
pub seen_mark : (v : View) (g : Group) → Fit g → (a b : ℕ) → a < 8 → b < 8 → (l : List Packet) → view g ≡ set_line v a b l
    → (x : Bool) → view (hurt_if x g a b) ≡ v_hit v a b x l
seen_mark v g w a b la lb l e true =
    sim_hurt g w a b la lb ∙ ap (λ (u : View). v_hurt u a b) e
    ∙ (λ t. record { own = upd_id v.own b t; side = (v_hit v a b true l).side; lines = (v_hit v a b true l).lines; slots = v.slots; sound = v.sound })
seen_mark v g w a b la lb l e false =
    e ∙ (λ t. record { own = v.own; side = unchanged t; lines = (v_hit v a b false l).lines; slots = v.slots; sound = v.sound })
  where
    unchanged : v.side ≡ upd v.side b (upd (v.side b) a (s_hurt false (v.side b a)))
    unchanged = sym (upd_id v.side b) ∙ ap (upd v.side b) (sym (upd_id (v.side b) a))

-- ---- the history

-- what is noted of lines that were hurt is what the ghost has of them
pub note_hit : {n : ℕ} {v : View} {γ : Ghost} {h : History} → Past n v γ h → (a b c d : ℕ) → (note_hurt h a b).hurt c d ≡ ((g_hit γ a b true).wire c d).hurt
note_hit {γ} {h} p a b = pair_both (λ (y : Wire). y.hurt) h.hurt γ.wire a b true (w_hurt true (γ.wire a b)) refl p.hurt

pub hit_past : {n : ℕ} {v : View} {γ : Ghost} {h : History} → Past n v γ h → (a b : ℕ) (x : Bool) (clean damaged : Party → Bool) (hurt : ℕ → ℕ → Bool) → ((y : Party) → damaged y ≡ not (clean y))
    → ((c d : ℕ) → hurt c d ≡ ((g_hit γ a b x).wire c d).hurt) → Past n v (g_hit (g_uncalm γ clean) a b x) (with_hurt (with_damaged h damaged) hurt)
hit_past {γ} p a b x clean damaged hurt e f = record {
  sent = λ c d. p.sent c d ∙ sym (kept (λ (y : Wire). y.sent) refl c d);
  taken = λ c d. p.taken c d ∙ sym (kept (λ (y : Wire). y.taken) refl c d);
  damaged = e;
  hurt = f;
  cuts = λ a c q.
      let y = p.cuts a c q in
      (y.0, y.1, y.2, (λ d. y.3 d ∙ sym (kept (λ (y : Wire). y.sent) refl c d)), (λ d. y.4 d ∙ sym (kept (λ (y : Wire). y.taken) refl d c)));
  no_cut = p.no_cut;
  known = p.known;
  tops = p.tops;
  balanced = p.balanced;
  present = p.present;
  gone = p.gone;
  beyond = p.beyond;
  below = p.below;
  begun = p.begun;
  waits = p.waits;
}
  where
    kept : {A : Type 0} (g : Wire → A) → g (w_hurt x (γ.wire a b)) ≡ g (γ.wire a b) → (c d : ℕ) → g ((g_hit γ a b x).wire c d) ≡ g (γ.wire c d)
    kept g r c d = wire_kept g γ a b (w_hurt x (γ.wire a b)) r c d
