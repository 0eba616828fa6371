-- A move at one cabinet: what pairs and cabinets without it held they still hold, so a move owes the pairs from it, those to it, the
-- pair of it with itself, and the cabinet.
use Prim.Native.Nat.{ℕ}
use mathlib.Core.Path.{◌≡◌, sym, ap, ◌∙◌, fun_ext, refl}
use mathlib.Core.Logic.{◌≢◌}
use mathlib.Core.Bool.{Bool, true, not, ◌&&◌}
use mathlib.Core.List.{List}
use native.Mathlib.Decide.{ℕ_discrete}
use Rattle.outlet.specs.declared.Party.{Party}
use Rattle.packet.specs.declared.Packet.{Packet}
use Rattle.image.specs.declared.Image.{Image}
use Rattle.state.specs.State.{works, in_recovery, is_unknown}
use Rattle.protocol.specs.History.{upd}
use Rattle.state.specs.declared.State.{State}
use Rattle.claims.proofs.State.Fun.{upd_elim, upd_same, upd_other, sum_cong, upd_id, kept, kept_at, same_at}
use Rattle.claims.proofs.State.View.{View, Own, Side, used}
use Rattle.claims.proofs.Invariant.Facts.{Big, Mind, Wire, Ghost, Pair, Node, Books, Lead, aware, unaware}
use Rattle.claims.proofs.Invariant.Words.{lead_same}
use Rattle.claims.proofs.Invariant.Whole.{PairAt, NodeAt, BooksAt, LeadAt, GroundOf, PlacesOf, MeetsOf, ChainOf, SumsOf, lk_of, out_of, got_of, Inv}

-- ---- the group and the ghost after a move at c; lines, logs and slots are given whole

abbrev pub moved : View → ℕ → Own → (ℕ → Side) → (ℕ → ℕ → List Packet) → (ℕ → Bool → Image) → View
moved v c o s l z = record { own = upd v.own c o; side = upd v.side c s; lines = l; slots = z; sound = v.sound }

abbrev pub minded : Ghost → Big → ℕ → Mind → (ℕ → ℕ → Wire) → Ghost
minded γ b c m w = record { big = b; mind = upd γ.mind c m; wire = w }

module _ (v : View) (γ : Ghost) (b : Big) (c : ℕ) (o : Own) (m : Mind) (s : ℕ → Side) (l : ℕ → ℕ → List Packet) (z : ℕ → Bool → Image)
    (w : ℕ → ℕ → Wire) where
  abbrev v' : View
  v' = moved v c o s l z

  abbrev γ' : Ghost
  γ' = minded γ b c m w

  -- a pair that the move leaves alone, but for the group's ghost
  abbrev pub Aside : ℕ → ℕ → Type 0
  Aside i j = Pair b i j (v.own i) (γ.mind i) (v.own j) (γ.mind j) (v.side i j) (v.side j i) (v.lines i j) (γ.wire i j)

  pub move_pairs : ((i j : ℕ) → i ≢ c → j ≢ c → l i j ≡ v.lines i j) → ((i j : ℕ) → i ≢ c → j ≢ c → w i j ≡ γ.wire i j)
      → ((i j : ℕ) → i ≢ c → j ≢ c → Aside i j)
      → ((j : ℕ) → j ≢ c → Pair b c j o m (v.own j) (γ.mind j) (s j) (v.side j c) (l c j) (w c j))
      → Pair b c c o m o m (s c) (s c) (l c c) (w c c)
      → ((i : ℕ) → i ≢ c → Pair b i c (v.own i) (γ.mind i) o m (v.side i c) (s i) (l i c) (w i c))
      → (i j : ℕ) → PairAt v' γ' i j
  move_pairs lines wires aside from self to i j = elim (ℕ_discrete i c) [
    | yes e ↦ elim (ℕ_discrete j c) [
      | yes f ↦ rw (e, f, upd_same v.own c o, upd_same γ.mind c m, upd_same v.side c s) self
      | no n ↦ rw (e, upd_same v.own c o, upd_same γ.mind c m, upd_same v.side c s, upd_other v.own c o j n, upd_other γ.mind c m j n, upd_other v.side c s j n) (from j n)
    ]
    | no d ↦ elim (ℕ_discrete j c) [
      | yes f ↦ rw (f, upd_same v.own c o, upd_same γ.mind c m, upd_same v.side c s, upd_other v.own c o i d, upd_other γ.mind c m i d, upd_other v.side c s i d) (to i d)
      | no n ↦ rw (upd_other v.own c o i d, upd_other γ.mind c m i d, upd_other v.side c s i d, upd_other v.own c o j n, upd_other γ.mind c m j n, upd_other v.side c s j n, lines i j d n, wires i j d n) (aside i j d n)
    ]
  ]

  pub move_nodes : ((i : ℕ) → i ≢ c → z i ≡ v.slots i) → ((i : ℕ) → i ≢ c → Node b i (v.own i) (γ.mind i) (v.slots i))
      → Node b c o m (z c) → (i : ℕ) → NodeAt v' γ' i
  move_nodes slots aside node i = elim (ℕ_discrete i c) [
    | yes e ↦ rw (e, upd_same v.own c o, upd_same γ.mind c m) node
    | no d ↦ rw (upd_other v.own c o i d, upd_other γ.mind c m i d, slots i d) (aside i d)
  ]

  pub move_leads : ((i : ℕ) → i ≢ c → Lead b i (v.own i)) → Lead b c o → (i : ℕ) → LeadAt v' γ' i
  move_leads aside lead i = elim (ℕ_discrete i c) [
    | yes e ↦ rw (e, upd_same v.own c o) lead
    | no d ↦ rw (upd_other v.own c o i d) (aside i d)
  ]

  -- where what a cabinet sent and took stays, what it owes is said of the sums as they were
  pub move_books : ((i : ℕ) → out_of γ' i ≡ out_of γ i) → ((i : ℕ) → got_of γ' i ≡ got_of γ i)
      → ((i : ℕ) → i ≢ c → Books b (v.own i) (γ.mind i) (out_of γ i) (got_of γ i)) → Books b o m (out_of γ c) (got_of γ c) → (i : ℕ) → BooksAt v' γ' i
  move_books out got aside books i = rw (out i, got i) (elim (ℕ_discrete i c) [
    | yes e ↦ rw (e, upd_same v.own c o, upd_same γ.mind c m) books
    | no d ↦ rw (upd_other v.own c o i d, upd_other γ.mind c m i d) (aside i d)
  ])

-- sums over the lines, where what was sent and taken stays
pub out_kept : (γ δ : Ghost) (c : ℕ) → ((d : ℕ) → (δ.wire c d).out ≡ (γ.wire c d).out) → out_of δ c ≡ out_of γ c
out_kept γ δ c e = fun_ext (λ y. sum_cong _ _ 8 (λ d l. same_at (e d) y))

pub got_kept : (γ δ : Ghost) (c : ℕ) → ((d : ℕ) → (δ.wire d c).got ≡ (γ.wire d c).got) → got_of δ c ≡ got_of γ c
got_kept γ δ c e = fun_ext (λ y. sum_cong _ _ 8 (λ d l. same_at (e d) y))

-- ---- facts about the whole group, where the functions that they read stay

-- a move at c that leaves its work, home, table and links alone
module _ (v : View) (γ : Ghost) (c : ℕ) (o : Own) (m : Mind) (s : ℕ → Side) (l : ℕ → ℕ → List Packet) (z : ℕ → Bool → Image)
    (w : ℕ → ℕ → Wire) (work : works o.state ≡ works (v.own c).state) (tab : m.tab ≡ (γ.mind c).tab) (links : (i j : ℕ) → (w i j).lk ≡ (γ.wire i j).lk) where
  lk_kept : ◌≡◌ {A = ℕ → ℕ → Bool} (λ i j. (w i j).lk) (lk_of γ)
  lk_kept = fun_ext (λ i. fun_ext (λ j. links i j))

  pub move_ground : {n : ℕ} (b : Big) → b.chief ≡ γ.big.chief → b.heir ≡ γ.big.heir → b.alive ≡ γ.big.alive → o.home ≡ (v.own c).home → o.present ≡ (v.own c).present
      → GroundOf n v γ → GroundOf n (moved v c o s l z) (minded γ b c m w)
  move_ground {n} b chief heir alive home store g =
      rw (
        chief,
        heir,
        alive,
        kept (λ (x : Own). works x.state) v.own c o work,
        kept (λ (x : Own). x.home) v.own c o home,
        kept (λ (x : Own). x.present) v.own c o store,
        kept (λ (x : Mind). x.tab) γ.mind c m tab,
        lk_kept,
      ) g

  pub move_places : (b : Big) → b.faulted ≡ γ.big.faulted → aware γ.big o ≡ aware γ.big (v.own c) → o.alarm ≡ (v.own c).alarm
      → PlacesOf v γ → PlacesOf (moved v c o s l z) (minded γ b c m w)
  move_places b faulted here alarm p =
      rw (
        faulted,
        kept (λ (x : Own). γ.big.faulted && in_recovery x.state) v.own c o here,
        kept (λ (x : Own). works x.state) v.own c o work,
        kept (λ (x : Own). x.alarm) v.own c o alarm,
        kept (λ (x : Mind). x.tab) γ.mind c m tab,
        lk_kept,
      ) p

pub move_sums : (total : Party → ℕ) (γ : Ghost) (b : Big) (c : ℕ) (m : Mind) (w : ℕ → ℕ → Wire) → b.adopted ≡ γ.big.adopted
    → m.base ≡ (γ.mind c).base → m.top ≡ (γ.mind c).top → m.prev ≡ (γ.mind c).prev → SumsOf total γ → SumsOf total (minded γ b c m w)
move_sums total γ b c m w adopted base top prev h =
    rw (
      adopted,
      kept (λ (x : Mind). x.base) γ.mind c m base,
      kept (λ (x : Mind). x.top) γ.mind c m top,
      kept (λ (x : Mind). x.prev) γ.mind c m prev,
    ) h

-- no failed neighbour comes into use
pub move_meets : (v : View) (c : ℕ) (o : Own) (s : ℕ → Side) (l : ℕ → ℕ → List Packet) (z : ℕ → Bool → Image)
    → works o.state ≡ works (v.own c).state → ((d : ℕ) → used (s d) ≡ used (v.side c d)) → MeetsOf v → MeetsOf (moved v c o s l z)
move_meets v c o s l z work uses h i d =
    rw (
      kept_at (λ (x : Own). works x.state) v.own c o work i,
      kept_at (λ (x : Own). works x.state) v.own c o work d,
    ) (λ e u. h i d e (upd_elim (λ (x : ℕ → Side). used (x d) ≡ true → used (v.side i d) ≡ true) v.side c s i
    (λ q x. ap (λ (j : ℕ). used (v.side j d)) q ∙ sym (uses d) ∙ x) (λ n x. x) u))

module _ (v : View) (γ : Ghost) (c : ℕ) (o : Own) (m : Mind) (s : ℕ → Side) (l : ℕ → ℕ → List Packet) (z : ℕ → Bool → Image) (w : ℕ → ℕ → Wire)
    (work : works o.state ≡ works (v.own c).state) where
  -- a cabinet's progress in the save and its knowledge of its version stay
  pub move_chain : unaware γ.big o ≡ unaware γ.big (v.own c) → m.tab ≡ (γ.mind c).tab → m.joined ≡ (γ.mind c).joined → m.done ≡ (γ.mind c).done
      → m.wrote ≡ (γ.mind c).wrote → is_unknown o.version ≡ is_unknown (v.own c).version
      → ChainOf v γ → ChainOf (moved v c o s l z) (minded γ γ.big c m w)
  move_chain calm tab joined done wrote unknown h =
      rw (
        kept (λ (x : Own). works x.state && not (γ.big.faulted && in_recovery x.state)) v.own c o calm,
        kept (λ (x : Own). works x.state) v.own c o work,
        kept (λ (x : Own). not (is_unknown x.version)) v.own c o (ap not unknown),
        kept (λ (x : Mind). x.tab) γ.mind c m tab,
        kept (λ (x : Mind). x.joined) γ.mind c m joined,
        kept (λ (x : Mind). x.done) γ.mind c m done,
        kept (λ (x : Mind). x.wrote) γ.mind c m wrote,
      ) h

-- a move that leaves what the ghost has of the cabinets as it was
pub same_mind : (γ : Ghost) (b : Big) (c : ℕ) (w : ℕ → ℕ → Wire) → minded γ b c (γ.mind c) w ≡ record { big = b; mind = γ.mind; wire = w }
same_mind γ b c w = λ t. record { big = b; mind = upd_id γ.mind c t; wire = w }

pub same_ghost : (γ : Ghost) (c : ℕ) → minded γ γ.big c (γ.mind c) γ.wire ≡ γ
same_ghost γ c = same_mind γ γ.big c γ.wire

-- and one that leaves the view as it was
pub same_view : (v : View) (c : ℕ) → moved v c (v.own c) (v.side c) v.lines v.slots ≡ v
same_view v c = λ t. record { own = upd_id v.own c t; side = upd_id v.side c t; lines = v.lines; slots = v.slots; sound = v.sound }

-- ---- a move that leaves a cabinet's phase, home and store, and its progress in the save, as they were

abbrev pub SameOwn : Own → Own → Type 0
SameOwn o x =
    (o.state ≡ x.state) × (o.version ≡ x.version) × (o.alarm ≡ x.alarm) × (o.home ≡ x.home) × (o.present ≡ x.present)
    × (o.lead ≡ x.lead) × (o.former ≡ x.former)

abbrev pub SameMind : Mind → Mind → Type 0
SameMind m k =
    (m.tab ≡ k.tab) × (m.joined ≡ k.joined) × (m.done ≡ k.done) × (m.wrote ≡ k.wrote) × (m.base ≡ k.base) × (m.top ≡ k.top) × (m.prev ≡ k.prev)

module _ (n : ℕ) (total : Party → ℕ) (v : View) (γ : Ghost) (i : Inv n total v γ) (c : ℕ) (o : Own) (m : Mind) (s : ℕ → Side) (l : ℕ → ℕ → List Packet)
    (z : ℕ → Bool → Image) (w : ℕ → ℕ → Wire) (e : SameOwn o (v.own c)) (f : SameMind m (γ.mind c)) (links : (a d : ℕ) → (w a d).lk ≡ (γ.wire a d).lk)
    (uses : (d : ℕ) → used (s d) ≡ used (v.side c d)) where
  work : works o.state ≡ works (v.own c).state
  work = ap works e.0

  calm : unaware γ.big o ≡ unaware γ.big (v.own c)
  calm = ap (λ (x : State). works x && not (γ.big.faulted && in_recovery x)) e.0

  -- it owes the pairs, the cabinets and the bookings
  pub quiet_inv : ((a d : ℕ) → PairAt (moved v c o s l z) (minded γ γ.big c m w) a d) → ((a : ℕ) → NodeAt (moved v c o s l z) (minded γ γ.big c m w) a)
      → ((a : ℕ) → BooksAt (moved v c o s l z) (minded γ γ.big c m w) a) → Inv n total (moved v c o s l z) (minded γ γ.big c m w)
  quiet_inv pairs nodes books = record {
    core = record {
      pairs = pairs;
      nodes = nodes;
      books = books;
      leads = move_leads v γ γ.big c o m s l z w (λ j d. i.core.leads j)
          (lead_same γ.big c (v.own c) o (i.core.leads c) work (ap (λ (x : State). γ.big.faulted && in_recovery x) e.0) e.2 e.5 e.6 (λ q. sym e.1 ∙ q));
      ground = move_ground v γ c o m s l z w work f.0 links γ.big refl refl refl e.3 e.4 i.core.ground;
      chain = move_chain v γ c o m s l z w work calm f.0 f.1 f.2 f.3 (ap is_unknown e.1) i.core.chain;
      sums = move_sums total γ γ.big c m w refl f.4 f.5 f.6 i.core.sums;
    };
    places = move_places v γ c o m s l z w work f.0 links γ.big refl (ap (λ (x : State). γ.big.faulted && in_recovery x) e.0) e.2 i.places;
    meets = move_meets v c o s l z work uses i.meets;
  }
