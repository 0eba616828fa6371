-- A packet taken off a line and dropped: where it is no normal packet that counts, no resume that is waited for and no fault packet that
-- is still to be heard, all facts stay. Only the pair of sender and receiver reads the line.
use Prim.Native.Nat.{ℕ, ◌<◌}
use mathlib.Core.Path.{◌≡◌, sym, ap, subst}
use mathlib.Core.Logic.{◌⊎◌, inl, ⊎_elim}
use mathlib.Core.Bool.{Bool, true, false, not, ◌&&◌}
use mathlib.Core.List.{List, [], ◌∷◌, ◌++◌, nil≢cons}
use lib.ListN.{drop}
use native.Mathlib.Omega.{arith}
use native.Mathlib.Decide.{ℕ_discrete}
use Rattle.outlet.specs.declared.Party.{Party}
use Rattle.packet.specs.declared.Payload.{Payload}
use Rattle.packet.specs.declared.Packet.{Packet}
use Rattle.packet.specs.declared.Packet.TheVariants.{Recover}
use Rattle.packet.specs.Packet.{is_empty, is_normal}
use Rattle.line.specs.Line.{oldest, rest}
use Rattle.state.specs.declared.State.TheVariants.{Recovered}
use Rattle.state.specs.State.{is_in}
use Rattle.group.specs.declared.Group.{Group}
use Rattle.group.specs.Group.{line, with_line}
use Rattle.protocol.specs.History.{History, upd, note_cuts}
use Rattle.claims.proofs.State.Fun.{never, is_false, upd_same, upd_other}
use Rattle.claims.proofs.State.View.{View, Own, Side, used, content, view, set_line}
use Rattle.claims.proofs.State.Sim.{Fit}
use Rattle.claims.proofs.State.ViewMoves.{sim_off, view_off}
use Rattle.claims.proofs.Invariant.Facts.{Big, Mind, Wire, Ghost, Pair, Stream, aware, unaware, linked, behind, count, is_fault, is_checkp, is_invalid, checkp_last, resume_first, Differ, amount}
use Rattle.claims.proofs.Invariant.Whole.{Inv, PairAt}
use Rattle.claims.proofs.Invariant.Past.{Past, Kept, past_still, quiet_of}
use Rattle.claims.proofs.Invariant.Logs.{head_eq, tail_eq, alarms_rest, amounts_rest, amount_rest, small_rest, count_rest}
use Rattle.claims.proofs.Invariant.Staying.{stays_same, phase_same, no_fault_lem}

-- ---- the pair of sender and receiver

module _ (b : Big) (c d : ℕ) (o : Own) (m : Mind) (p : Own) (n : Mind) (s t : Side) (x : Packet) (k : List Packet) (w : Wire)
    (h : Pair b c d o m p n s t (x ∷ k) w) where
  rest_stream : is_normal x ≡ false → linked m n w ≡ true → unaware b o ≡ true → unaware b p ≡ true
      → Stream (m.joined && not (n.joined && t.come)) t.hurt s.put t.took w k
  rest_stream plain j u up =
      let f = h.stream j u up in
      record {
        equal = f.equal;
        within = f.within;
        within_sent = f.within_sent;
        differ = subst (λ (r : List Payload). Differ t.hurt (drop w.ver w.sent) (drop w.ver w.taken ++ r)) (amounts_rest x k plain) f.differ;
        reads = f.reads;
        writes = f.writes;
        carries = λ v r e. f.carries v (x ∷ r) (ap (λ (y : List Packet). x ∷ y) e);
        on_way = λ e y. omega (arith, f.on_way e y, ap (amount y) (amounts_rest x k plain));
        tells = f.tells;
      }

  rest_end : (x ∷ k ≡ []) ⊎ ((v : Bool) × (is_in o.state Recovered ≡ true) × (x ∷ k ≡ Recover v ∷ [])) → k ≡ []
  rest_end = ⊎_elim (λ e. absurd (nil≢cons (sym e))) (λ e. tail_eq e.2)

  pub drop_pair : (is_normal x ≡ true → unaware b p ≡ true → linked m n w ≡ true → ⊥)
      → (behind b o m ≡ false → behind b p n ≡ true → unaware b o ≡ true → linked m n w ≡ true → resume_first k ≡ true)
      → (is_fault x ≡ true → (used s && used t) ≡ true → (aware b p && t.heard) ≡ true) → Pair b c d o m p n s t k w
  unfolding count checkp_last
  drop_pair plain waits hears = record {
    table = h.table;
    struck = h.struck;
    closed_joined = h.closed_joined;
    closed_equal = h.closed_equal;
    closed_empty = λ j e u. absurd (nil≢cons (sym (h.closed_empty j e u)));
    apart = h.apart;
    owes = h.owes;
    owes_home = h.owes_home;
    reported = h.reported;
    begun_bare = h.begun_bare;
    readied = h.readied;
    ready_heard = h.ready_heard;
    silent = λ e. absurd (nil≢cons (sym (h.silent e)));
    alarms = λ a q e. alarms_rest o.version q x k (h.alarms a q e);
    unheard = λ a us wp un q e. let f = h.unheard a us wp un q e in absurd (never (hears (ap is_fault (head_eq f.1)) us) un);
    heard = λ e. count_rest is_fault x k (h.heard e);
    heard_of = h.heard_of;
    no_fault = λ u. count_rest is_fault x k (h.no_fault u);
    no_checkp = λ u j. count_rest is_checkp x k (h.no_checkp u j);
    last_checkp = λ u. (h.last_checkp u).1;
    behind_empty = λ e. inl (rest_end (h.behind_empty e));
    resumed = λ j u f e. waits f e u j;
    came = h.came;
    tail_heard = h.tail_heard;
    stream = λ j u up. rest_stream (is_false (is_normal x) (λ e. plain e up j)) j u up;
    fresh = h.fresh;
    room = λ u. omega (arith, h.room u);
    sound = λ e. count_rest is_invalid x k (h.sound e);
    unhurt = h.unhurt;
    no_more = λ y e. omega (arith, h.no_more y e, amount_rest y x k);
    small = (h.small.0, (h.small.1.0, small_rest x k h.small.1.1));
    fit = h.fit;
  }

-- ---- the group

-- a line may be changed where its pair is told anew: no other fact reads it
module _ (n : ℕ) (total : Party → ℕ) (v : View) (γ : Ghost) (i : Inv n total v γ) (a b : ℕ) (k : List Packet)
    (here : Pair γ.big a b (v.own a) (γ.mind a) (v.own b) (γ.mind b) (v.side a b) (v.side b a) k (γ.wire a b)) where
  line_pairs : (c d : ℕ) → PairAt (set_line v a b k) γ c d
  line_pairs c d = elim (ℕ_discrete c a) [
    | yes f ↦ elim (ℕ_discrete d b) [
      | yes j ↦ rw (f, j, upd_same v.lines a (upd (v.lines a) b k), upd_same (v.lines a) b k) here
      | no j ↦ rw (f, upd_same v.lines a (upd (v.lines a) b k), upd_other (v.lines a) b k d j) (i.core.pairs a d)
    ]
    | no f ↦ rw (upd_other v.lines a (upd (v.lines a) b k) c f) (i.core.pairs c d)
  ]

  pub line_inv : Inv n total (set_line v a b k) γ
  line_inv = record {
    core = record { pairs = line_pairs; nodes = i.core.nodes; books = i.core.books; leads = i.core.leads; ground = i.core.ground; chain = i.core.chain; sums = i.core.sums };
    places = i.places;
    meets = i.meets;
  }

module _ (n : ℕ) (total : Party → ℕ) (v : View) (γ : Ghost) (i : Inv n total v γ) (a b : ℕ) (p : Packet) (k : List Packet) (e : v.lines a b ≡ p ∷ k) where
  -- the pair as the packet still stands on its line
  pub head_pair : Pair γ.big a b (v.own a) (γ.mind a) (v.own b) (γ.mind b) (v.side a b) (v.side b a) (p ∷ k) (γ.wire a b)
  head_pair =
      subst (λ (l : List Packet). Pair γ.big a b (v.own a) (γ.mind a) (v.own b) (γ.mind b) (v.side a b) (v.side b a) l (γ.wire a b)) e (i.core.pairs a b)

  pub drop_inv : (is_normal p ≡ true → unaware γ.big (v.own b) ≡ true → linked (γ.mind a) (γ.mind b) (γ.wire a b) ≡ true → ⊥)
      → (behind γ.big (v.own b) (γ.mind b) ≡ true → unaware γ.big (v.own a) ≡ true → linked (γ.mind a) (γ.mind b) (γ.wire a b) ≡ true
      → resume_first k ≡ true)
      → (is_fault p ≡ true → (used (v.side a b) && used (v.side b a)) ≡ true → (aware γ.big (v.own b) && (v.side b a).heard) ≡ true)
      → Inv n total (set_line v a b k) γ
  drop_inv plain waits hears = line_inv n total v γ i a b k (drop_pair _ _ _ _ _ _ _ _ _ p k _ head_pair plain (λ f. waits) hears)

-- ---- the step

module _ (total : Party → ℕ) (g : Group) (h : History) (γ : Ghost) (w : Fit g) (i : Inv g.n total (view g) γ) (past : Past g.n (view g) γ h)
    (a b : ℕ) (la : a < 8) (lb : b < 8) (full : is_empty (oldest (line g a b)) ≡ false) where
  abbrev g' : Group
  g' = with_line g a b (rest (line g a b))

  abbrev left : List Packet
  left = content (rest (line g a b)).cells

  seen : view g' ≡ set_line (view g) a b left
  seen = view_off g w a b la lb

  state_kept : (c : ℕ) → ((view g').own c).state ≡ ((view g).own c).state
  state_kept c = ap (λ (x : View). (x.own c).state) seen

  -- a packet that is only taken off
  pub keeps_drop : (is_normal (oldest (line g a b)) ≡ true → unaware γ.big ((view g).own b) ≡ true → linked (γ.mind a) (γ.mind b) (γ.wire a b) ≡ true → ⊥)
      → (behind γ.big ((view g).own b) (γ.mind b) ≡ true → unaware γ.big ((view g).own a) ≡ true → linked (γ.mind a) (γ.mind b) (γ.wire a b) ≡ true
      → resume_first left ≡ true)
      → (is_fault (oldest (line g a b)) ≡ true → (used ((view g).side a b) && used ((view g).side b a)) ≡ true → (aware γ.big ((view g).own b) && ((view g).side b a).heard) ≡ true)
      → Kept total g γ g' (note_cuts h g g')
  keeps_drop plain waits hears = record {
    ghost = γ;
    inv = subst (λ (x : View). Inv g.n total x γ) (sym seen)
        (drop_inv g.n total (view g) γ i a b (oldest (line g a b)) left (sim_off g a b full) plain waits hears);
    past = past_still g g' state_kept past;
    stays = stays_same (view g) γ (quiet_of i) (view g') γ (λ c. phase_same (ap (λ (x : View). x.own c) seen)) (λ c d. ap (λ (x : View). (x.side c d).unsure) seen) no_fault_lem;
  }
