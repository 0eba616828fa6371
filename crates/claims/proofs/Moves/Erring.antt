-- A cabinet enters error: all facts hold again, and the fault place is one that some cabinet knows of.
use Rattle.std.specs.Prelude.{Some}
use Prim.Native.Nat.{ℕ, ◌<◌}
use mathlib.Core.Path.{◌≡◌, refl, sym, ap, ◌∙◌, subst}
use mathlib.Core.Logic.{◌≢◌, ◌⊎◌, inl, inr, ⊎_elim}
use mathlib.Core.Bool.{Bool, true, false, cond, not, ◌&&◌, ◌||◌, true≢false, false≢true}
use mathlib.Core.List.{List, [], ◌∷◌}
use borrow.Author.Tests.{ne_eqb, eq-eqb, eqb-true}
use native.Mathlib.Omega.{arith}
use native.Mathlib.Decide.{ℕ_discrete}
use Rattle.outlet.specs.declared.Party.{Party}
use Rattle.packet.specs.declared.Place.{Place}
use Rattle.packet.specs.declared.Place.TheVariants.{Failed as AtFailed, Tripped as AtTripped, Link as AtLink}
use Rattle.packet.specs.declared.Packet.{Packet}
use Rattle.packet.specs.declared.Packet.TheVariants.{Fault}
use Rattle.state.specs.declared.State.{State}
use Rattle.state.specs.declared.State.TheVariants.{Failed, Normal, CheckpBegin, Checkpointing, Checkpointed, Error, Recovering, Recovered, Crashed}
use lib.Dec.{eqb}
use Rattle.table.specs.Table.{is_at}
use Rattle.cabinet.specs.Alarm.{Alarm}
use Rattle.image.specs.declared.Image.{Image}
use Rattle.state.specs.State.{is_in, works, in_recovery, is_unknown}
use Rattle.protocol.specs.History.{History, upd}
use Rattle.claims.proofs.State.Fun.{never, is_true, is_false, and_true, and_intro, and_same, upd_elim, upd_same, upd_other, or_right, or_left, kept_at, or_map}
use Rattle.claims.proofs.State.View.{View, Own, Side, used, set_sound}
use Rattle.claims.proofs.State.Leading.{next_over, lead_over, next_same, next_without}
use Rattle.claims.proofs.State.Methods.{s_alarmed, hits_cabinet, hits_link}
use Rattle.claims.proofs.State.ViewMoves.{lead_after}
use Rattle.claims.proofs.Invariant.States.{place_same}
use Rattle.claims.proofs.Invariant.Facts.{Big, Mind, Wire, Ghost, Pair, Node, Books, Lead, aware, unaware, closed, amount, Amounts}
use Rattle.claims.proofs.Invariant.Whole.{Core, Place-of, failed, tripped, faulty, PairAt, PlacesOf, MeetsOf, ChainOf, work_of, alarm_of, aware_of, calm_of, known_of, tab_of, lk_of}
use Rattle.claims.proofs.Invariant.Past.{Past}
use Rattle.claims.proofs.Invariant.Words.{un_of, un_works, un_not_aware, aware_recovers, aware_not_un}
use Rattle.claims.proofs.Invariant.Frame.{minded, move_pairs, move_nodes, move_books, move_leads, move_ground, move_sums, same_mind}
use Rattle.claims.proofs.Moves.FirstFault.{b_faulted, b_frozen, g_big, g_faulted, g_error, fault_core}
use Rattle.claims.proofs.Moves.ErrorSeen.{v_error, erred_state, erred_rest, erred_line, o_erred, s_erred, erred, error_seen, erred_recovers, erred_works, erred_running, erred_not_begun, erred_not_restored, erred_unknown, erred_alarms, erred_sound, erred_bare, strike_used, error_works}

-- ---- pairs

-- the group's ghost frozen is no matter to any pair
pub frozen_pair : (b : Big) (k : Bool) (c d : ℕ) (o : Own) (m : Mind) (p : Own) (n : Mind) (s t : Side) (l : List Packet) (w : Wire)
    → Pair b c d o m p n s t l w → Pair (b_frozen b k) c d o m p n s t l w
frozen_pair b k c d o m p n s t l w h = search

pub frozen_lead : (b : Big) (k : Bool) (c : ℕ) (o : Own) → Lead b c o → Lead (b_frozen b k) c o
frozen_lead b k c o h = record { steady = h.steady; moved = h.moved; lives = h.lives; fallen = h.fallen; blank = h.blank }

-- a struck coordinator is not the one after it, nor is it where it is not struck
next_left : (tab : ℕ → Bool) (q : Place) (k c : ℕ) → is_at q k ≡ true → c ≢ k → c < 8 → tab c ≡ true
    → next_over (λ d. tab d && not (hits_cabinet q d)) k ≡ next_over tab k
next_left tab (AtFailed x) k c e d l t =
    ap (λ (y : ℕ). next_over (λ d. tab d && not (eqb d y)) k) (eqb-true x k e) ∙ next_without tab k c l d t
next_left tab (AtTripped x) k c e d l t = next_same (λ d. tab d && true) tab k (λ d m. and_same (tab d))
next_left tab (AtLink x y) k c e d l t = absurd (false≢true e)

module _ (b : Big) (fault : b.faulted ≡ true) (o : Own) (q : Place) (j : ℕ) where
  erred_aware : aware b (o_erred o q j) ≡ true
  erred_aware = and_intro fault (erred_recovers o.version)

  not_calm : {A : Type 0} → unaware b (o_erred o q j) ≡ true → A
  not_calm e = absurd (un_not_aware b (o_erred o q j) e erred_aware)

module _ (b : Big) (c d : ℕ) (o : Own) (m : Mind) (p : Own) (n : Mind) (s t : Side) (l : List Packet) (w : Wire) (h : Pair b c d o m p n s t l w)
    (fault : b.faulted ≡ true) (q : Place) (y : ℕ) where
  abbrev s' : Side
  s' = s_alarmed q c d s

  abbrev l' : List Packet
  l' = erred_line o.version q (used (s_alarmed q c d s))

  pub erred_from : unaware b o ≡ true → (used s' ≡ true → works p.state ≡ true) → Pair b c d (o_erred o q y) m p n s' t l' w
  unfolding amount Amounts
  erred_from un meets =
      record {
        table = no;
        struck = λ a r e. let k = h.table un in rw (← place_same e) (ap (λ (x : Bool). x && not (hits_cabinet q d)) k.0, ap (λ (x : Bool). x && not (hits_link q c d)) k.1);
        closed_joined = h.closed_joined;
        closed_equal = h.closed_equal;
        closed_empty = λ j e. no;
        apart = h.apart;
        owes = λ e. absurd (false≢true e);
        owes_home = λ e. absurd (false≢true e);
        reported = λ e i. no;
        begun_bare = λ e i. no;
        readied = λ a e. absurd (false≢true e);
        ready_heard = h.ready_heard;
        silent = λ e. none (used s') refl e;
        alarms = λ a r e. rw (← place_same e) (erred_alarms o.version q (used s'));
        unheard = λ a u e f r g. rw (← place_same g) (first (used s') (and_true {s = used s'} u).0);
        heard = λ e. absurd (un_not_aware b o un (h.heard_of e).0);
        heard_of = λ e. absurd (un_not_aware b o un (h.heard_of e).0);
        no_fault = no;
        no_checkp = no;
        last_checkp = no;
        behind_empty = λ e. no (and_true {s = unaware b (o_erred o q y)} e).0;
        resumed = λ j. no;
        came = h.came;
        tail_heard = h.tail_heard;
        stream = λ j. no;
        fresh = λ a e. absurd (never e (erred_not_restored o.version));
        room = no;
        sound = λ e. erred_sound o.version q (used s');
        unhurt = h.unhurt;
        no_more = λ y e. omega (arith, h.no_more y e, ap (amount y) (erred_bare o.version q (used s')));
        small = (h.small.0, (h.small.1.0, rw (erred_bare o.version q (used s')) tt));
        fit = h.fit;
      }
    where
      no : {A : Type 0} → unaware b (o_erred o q y) ≡ true → A
      no = not_calm b fault o q y

      none : (u : Bool) → used s' ≡ u → (works (erred_state o.version) && (works p.state && u)) ≡ false → erred_line o.version q u ≡ []
      none true e f = absurd (never (and_intro (erred_works o.version) (and_intro (meets e) refl)) f)
      none false e f = refl

      first : (u : Bool) → u ≡ true → (k : List Packet) × (erred_line o.version q u ≡ Fault q ∷ k)
      first true e = (erred_rest o.version, refl)
      first false e = absurd (false≢true e)

module _ (b : Big) (c d : ℕ) (o : Own) (m : Mind) (p : Own) (n : Mind) (s t : Side) (l : List Packet) (w : Wire) (h : Pair b c d o m p n s t l w)
    (fault : b.faulted ≡ true) (q : Place) (y : ℕ) where
  pub erred_to : unaware b p ≡ true → n.ready ≡ false → Pair b c d o m (o_erred p q y) n s (s_alarmed q d c t) l w
  erred_to up unready =
      record {
        table = h.table;
        struck = h.struck;
        closed_joined = λ j e. h.closed_joined j (closes e);
        closed_equal = λ j e. h.closed_equal j (closes e);
        closed_empty = λ j e. h.closed_empty j (closes e);
        apart = h.apart;
        owes = h.owes;
        owes_home = h.owes_home;
        reported = h.reported;
        begun_bare = h.begun_bare;
        readied = h.readied;
        ready_heard = λ e. absurd (never e unready);
        silent = λ e. h.silent (silences (works o.state) (used s) e);
        alarms = h.alarms;
        unheard = λ a u e f. h.unheard a
            (let k = and_true {s = used s} u in and_intro k.0 (strike_used q d c t k.1))
            (un_works b p up)
            (is_false (aware b p && t.heard) (λ k. un_not_aware b p up (and_true {s = aware b p} k).0));
        heard = λ e. absurd (false≢true (and_true {s = aware b (o_erred p q y)} e).1);
        heard_of = λ e. absurd (false≢true (and_true {s = aware b (o_erred p q y)} e).1);
        no_fault = h.no_fault;
        no_checkp = h.no_checkp;
        last_checkp = h.last_checkp;
        behind_empty = h.behind_empty;
        resumed = λ j u e f. no (and_true {s = unaware b (o_erred p q y)} f).0;
        came = λ j. no;
        tail_heard = λ j. no;
        stream = λ j u. no;
        fresh = h.fresh;
        room = h.room;
        sound = h.sound;
        unhurt = λ e. no;
        no_more = h.no_more;
        small = h.small;
        fit = h.fit;
      }
    where
      no : {A : Type 0} → unaware b (o_erred p q y) ≡ true → A
      no = not_calm b fault p q y

      closes : closed b (o_erred p q y) n (s_alarmed q d c t) ≡ true → closed b p n t ≡ true
      closes e = or_map n.done _ _ (λ k. absurd (never (and_true {s = is_in (erred_state p.version) CheckpBegin} k).0 (erred_not_begun p.version))) e

      silences : (x y : Bool) → (x && (works (erred_state p.version) && y)) ≡ false → (x && (works p.state && y)) ≡ false
      silences x y e = rw (un_works b p up) (rw (erred_works p.version) at e)

-- ---- the cabinet

pub frozen_node : (b : Big) (k : Bool) (c : ℕ) (o : Own) (m : Mind) (z : Bool → Image) → (b.frozen ≡ true → k ≡ true) → Node b c o m z → Node (b_frozen b k) c o m z
frozen_node b k c o m z f h = let kn : aware b o ≡ true → is_unknown o.version ≡ false → k ≡ true = λ a e. f (h.knows a e) in search

pub frozen_books : (b : Big) (k : Bool) (o : Own) (m : Mind) (out got : Party → ℕ) → Books b o m out got → Books (b_frozen b k) o m out got
frozen_books b k o m out got h = record { bounded = h.bounded; live = h.live; at_cut = h.at_cut }

module _ (b : Big) (c : ℕ) (o : Own) (m : Mind) (z : Bool → Image) (h : Node b c o m z) (fault : b.faulted ≡ true) (un : unaware b o ≡ true) (q : Place) (y : ℕ) where
  unready : m.ready ≡ false
  unready = is_false m.ready (λ e. un_not_aware b o un (h.ready_is e).0)

  -- unaware, with its version known and not the coordinator, it has not written
  unwritten : is_unknown o.version ≡ false → c ≢ b.chief → m.wrote ≡ false
  unwritten known other = go o.state refl
    where
      no_join : m.joined ≡ false → m.wrote ≡ false
      no_join j = is_false m.wrote (λ e. never (h.done_joined (h.wrote_done e)) j)

      no_done : m.done ≡ false → m.wrote ≡ false
      no_done d = is_false m.wrote (λ e. never (h.wrote_done e) d)

      recovers : in_recovery o.state ≡ true → m.wrote ≡ false
      recovers r = absurd (un_not_aware b o un (and_intro fault r))

      go : (s : State) → o.state ≡ s → m.wrote ≡ false
      go Failed e = absurd (false≢true (ap works (sym e) ∙ un_works b o un))
      go Normal e = no_join (h.in_normal un e)
      go CheckpBegin e = no_done (h.in_begin un e).1
      go Checkpointing e = (h.in_checkpointing un e).1
      go Checkpointed e =
          absurd (never (h.unknown_at un ∙ and_intro (ap (λ (s : State). is_in s Checkpointed) e) (ap not (ne_eqb c b.chief other))) known)
      go Error e = recovers (ap in_recovery e)
      go Recovering e = recovers (ap in_recovery e)
      go Recovered e = recovers (ap in_recovery e)
      go Crashed e = absurd (never (ap (λ (s : State). is_in s Crashed) e) h.running)

  erred_node : Node (b_frozen b (b.frozen || not (is_unknown o.version))) c (o_erred o q y) m z
  erred_node =
      let w = un_works b o un in
      record {
        placed = λ e. h.placed w;
        present = λ e f. erred_works o.version;
        running = erred_running o.version;
        quiet = λ e. absurd (never fault e);
        place_known = λ a. (q, refl);
        in_normal = no;
        in_begin = no;
        in_checkpointing = no;
        in_checkpointed = no;
        chief_saved = no;
        in_recovered = no;
        in_error = λ a e. refl;
        in_recovering = λ a e. (omega arith, λ i l. absurd (omega arith));
        restored = λ a e. absurd (never (ap (λ (s : State). is_in s Recovered) e) (erred_not_restored o.version));
        ready_is = λ e. absurd (never e unready);
        told_wrote = h.told_wrote;
        wrote_done = h.wrote_done;
        done_joined = h.done_joined;
        joined_tab = h.joined_tab;
        joined_begun = h.joined_begun;
        chief_begun = h.chief_begun;
        known = λ e. h.known w;
        unknown_at = no;
        unknown_aware = λ a. erred_unknown o.version;
        old_joined = λ e. h.old_joined w;
        old_before = λ e. h.old_before w;
        knows = λ a e. or_right b.frozen (not (is_unknown o.version)) (ap not e);
        waits = λ a n e. ((h.waits a n w).0, no);
        cut_image = λ a d. no;
        gone = h.gone;
        slot_top = h.slot_top;
        slot_prev = h.slot_prev;
        slot_cut = h.slot_cut;
        slot_pieces = λ a. no;
        noted = h.noted;
        sizes = h.sizes;
      }
    where
      no : {A : Type 0} → unaware b (o_erred o q y) ≡ true → A
      no = not_calm b fault o q y

  erred_books : (out got : Party → ℕ) → Books b o m out got → Books (b_frozen b (b.frozen || not (is_unknown o.version))) (o_erred o q y) m out got
  erred_books out got k = record { bounded = k.bounded; live = λ u. not_calm b fault o q y u; at_cut = k.at_cut }

-- ---- together

module _ (n : ℕ) (total : Party → ℕ) (v : View) (γ : Ghost) (i : Core n total v γ) (c : ℕ) (un : unaware γ.big (v.own c) ≡ true) (fault : γ.big.faulted ≡ true) (q : Place)
    (other : is_at q c ≡ false) (meets : (d : ℕ) → used (s_alarmed q c d (v.side c d)) ≡ true → work_of v d ≡ true) where
  abbrev y' : ℕ
  y' = lead_after v c q

  abbrev o' : Own
  o' = o_erred (v.own c) q y'

  abbrev k' : Bool
  k' = not (is_unknown (v.own c).version)

  abbrev b' : Big
  b' = b_frozen γ.big (γ.big.frozen || k')

  abbrev δ : Ghost
  δ = minded γ b' c (γ.mind c) γ.wire

  abbrev row : ℕ → List Packet
  row d = erred_line (v.own c).version q (used (s_erred v c q d))

  abbrev ls : ℕ → ℕ → List Packet
  ls = upd v.lines c row

  row_same : (d : ℕ) → ls c d ≡ row d
  row_same d = ap (λ (f : ℕ → List Packet). f d) (upd_same v.lines c row)

  row_other : (a d : ℕ) → a ≢ c → ls a d ≡ v.lines a d
  row_other a d e = ap (λ (f : ℕ → List Packet). f d) (upd_other v.lines c row a e)

  error_pairs : (a d : ℕ) → PairAt (erred v c q) δ a d
  error_pairs =
      let h = i.pairs in
      let free = unready _ _ _ _ _ (i.nodes c) fault un q y' in
      move_pairs v γ b' c o' (γ.mind c) (s_erred v c q) ls v.slots γ.wire (λ a d e f. row_other a d e) (λ a d e f. refl)
      (λ a d e f. frozen_pair _ _ _ _ _ _ _ _ _ _ _ _ (h a d))
      (λ d e. rw (row_same d) (frozen_pair _ _ _ _ _ _ _ _ _ _ _ _ (erred_from _ _ _ _ _ _ _ _ _ _ _ (h c d) fault q y' un (meets d))))
      (rw (row_same c) (frozen_pair _ _ _ _ _ _ _ _ _ _ _ _
      (erred_to _ _ _ _ _ _ _ _ _ _ _ (erred_from _ _ _ _ _ _ _ _ _ _ _ (h c c) fault q y' un (meets c)) fault q y' un free)))
      (λ a e. rw (row_other a c e) (frozen_pair _ _ _ _ _ _ _ _ _ _ _ _ (erred_to _ _ _ _ _ _ _ _ _ _ _ (h a c) fault q y' un free)))

  -- the coordinator that it names: where the fault is the coordinator, the one after it
  next_lead : y' ≡ cond (is_at q γ.big.chief) γ.big.heir γ.big.chief
  next_lead =
      ap (λ (k : ℕ). lead_over q k (λ d. (s_erred v c q d).cab)) ((i.leads c).steady un) ∙ go (is_at q γ.big.chief) refl
    where
      go : (t : Bool) → is_at q γ.big.chief ≡ t
          → cond t (next_over (λ d. (s_erred v c q d).cab) γ.big.chief) γ.big.chief ≡ cond t γ.big.heir γ.big.chief
      go true e =
          next_same (λ d. (s_erred v c q d).cab) (λ d. (γ.mind d).tab && not (hits_cabinet q d)) γ.big.chief (λ d l. ap (λ (x : Bool). x && not (hits_cabinet q d)) ((i.pairs c d).table un).0)
          ∙ next_left (tab_of γ) q γ.big.chief c e (λ f. never e (ap (is_at q) (sym f) ∙ other))
          (omega (arith, i.ground.within c ((i.nodes c).placed (un_works γ.big (v.own c) un)), i.ground.most))
          ((i.nodes c).placed (un_works γ.big (v.own c) un))
          ∙ sym i.ground.heir_is
      go false e = refl

  error_lead : Lead b' c o'
  error_lead =
      let h = i.leads c in
      let aw = erred_aware γ.big fault (v.own c) q y' in
      record {
        steady = λ u. not_calm γ.big fault (v.own c) q y' u;
        moved = λ a p e. (
          ap (is_at q) (h.steady un) ∙ ap (λ (r : Place). is_at r γ.big.chief) (place_same e),
          next_lead ∙ ap (λ (r : Place). cond (is_at r γ.big.chief) γ.big.heir γ.big.chief) (place_same e),
        );
        lives = λ k e. (erred_works (v.own c).version, λ a f. never (trip_at c) (ap (λ (r : Place). is_at r c) (place_same (sym f)) ∙ other));
        fallen = λ k e. aware_not_un γ.big o' aw;
        blank = λ w e. absurd (un_not_aware γ.big (v.own c) un (h.blank (un_works γ.big (v.own c) un) e).0);
      }
    where
      trip_at : (x : ℕ) → is_at (AtTripped x) x ≡ true
      trip_at x = eq-eqb x x refl

  work_same : works o'.state ≡ works (v.own c).state
  work_same = erred_works (v.own c).version ∙ sym (un_works γ.big (v.own c) un)

  error_work : (j : ℕ) → work_of (erred v c q) j ≡ work_of v j
  error_work = kept_at (λ (x : Own). works x.state) v.own c o' work_same

  -- whoever knew of a fault, or failed, is calm no more
  less_calm : (j : ℕ) → calm_of v γ j ≡ false → calm_of (erred v c q) γ j ≡ false
  less_calm j = upd_elim (λ (x : Own). calm_of v γ j ≡ false → unaware γ.big x ≡ false) v.own c o' j
      (λ e f. aware_not_un γ.big o' (erred_aware γ.big fault (v.own c) q y')) (λ e f. f)

  error_aware : aware γ.big ((erred v c q).own c) ≡ true
  error_aware = subst (λ (x : Own). aware γ.big x ≡ true) (sym (upd_same v.own c o')) (erred_aware γ.big fault (v.own c) q y')

  -- no commit can follow
  abbrev Stopped : Type 0
  Stopped =
      (calm_of (erred v c q) γ γ.big.chief ≡ false)
      ⊎ ((w : ℕ) × ((γ.mind w).tab ≡ true) × (calm_of (erred v c q) γ w ≡ false) × ((γ.mind w).wrote ≡ false))

  error_chain : ChainOf (erred v c q) (g_big γ b')
  error_chain =
      let h = i.chain in
      let known : (j : ℕ) → known_of (erred v c q) j ≡ known_of v j = kept_at (λ (x : Own). not (is_unknown x.version)) v.own c o' refl in
      record {
        no_commit = λ e. go γ.big.frozen k' refl refl e;
        lives = h.lives;
        alone = λ a d j w. h.alone a d j (sym (error_work j) ∙ w);
        company = λ j d w e. let f = h.company j d (sym (error_work j) ∙ w) e in (f.0, f.1, error_work f.0 ∙ f.2, ⊎_elim (λ k. inl (known f.0 ∙ k)) (λ k. inr k) f.3);
      }
    where
      go : (f k : Bool) → γ.big.frozen ≡ f → k' ≡ k → (f || k) ≡ true → Stopped
      go true k ef ek e = ⊎_elim (λ x. inl (less_calm γ.big.chief x)) (λ x. inr (x.0, x.1, less_calm x.0 x.2, x.3)) (i.chain.no_commit ef)
      go false true ef ek e = elim (ℕ_discrete c γ.big.chief) [
        | yes s ↦ inl (subst (λ (j : ℕ). calm_of (erred v c q) γ j ≡ false) s (aware_not_un γ.big ((erred v c q).own c) error_aware))
        | no s ↦ inr (
          c,
          (i.nodes c).placed (un_works γ.big (v.own c) un),
          aware_not_un γ.big ((erred v c q).own c) error_aware,
          unwritten _ _ _ _ _ (i.nodes c) fault un q y' (is_false (is_unknown (v.own c).version) (λ x. never ek (ap not x))) s,
        )
      ]
      go false false ef ek e = absurd (false≢true e)

  erred_core : Core n total (erred v c q) δ
  erred_core = record {
    pairs = error_pairs;
    nodes = move_nodes v γ b' c o' (γ.mind c) (s_erred v c q) ls v.slots γ.wire (λ j d. refl) (λ j d. frozen_node _ _ _ _ _ _ (or_left γ.big.frozen k') (i.nodes j))
        (erred_node _ _ _ _ _ (i.nodes c) fault un q y');
    books = move_books v γ b' c o' (γ.mind c) (s_erred v c q) ls v.slots γ.wire (λ j. refl) (λ j. refl) (λ j d. frozen_books _ _ _ _ _ _ (i.books j))
        (erred_books _ _ _ _ _ (i.nodes c) fault un q y' _ _ (i.books c));
    leads = move_leads v γ b' c o' (γ.mind c) (s_erred v c q) ls v.slots γ.wire (λ j d. frozen_lead _ _ _ _ (i.leads j)) error_lead;
    ground = move_ground v γ c o' (γ.mind c) (s_erred v c q) ls v.slots γ.wire work_same refl (λ a d. refl) b' refl refl refl refl refl i.ground;
    chain = subst (λ (x : Ghost). ChainOf (erred v c q) x) (sym (same_mind γ b' c γ.wire)) error_chain;
    sums = move_sums total γ b' c (γ.mind c) γ.wire refl refl refl refl i.sums;
  }

  pub error_core : Core n total (v_error v c q) (g_error γ (v.own c))
  error_core =
      subst (λ (u : View). Core n total u (g_error γ (v.own c))) (sym (error_seen v c q))
      (subst (λ (x : Ghost). Core n total (erred v c q) x) (same_mind γ b' c γ.wire) erred_core)

-- ---- the whole group

pub error_meets : (v : View) (c : ℕ) (q : Place) → works (v.own c).state ≡ true → MeetsOf v → MeetsOf (v_error v c q)
error_meets v c q w h a d works_a uses =
    error_works v c q w d ∙ h a d (sym (error_works v c q w a) ∙ works_a)
    (upd_elim (λ (f : ℕ → Side). used (f d) ≡ true → used (v.side a d) ≡ true) v.side c (s_erred v c q) a
    (λ e k. subst (λ (j : ℕ). used (v.side j d) ≡ true) (sym e) (strike_used q c d (v.side c d) k)) (λ n k. k)
    (ap (λ (u : View). used (u.side a d)) (sym (error_seen v c q)) ∙ uses))

-- who works stays as it was, whoever knew of a fault knows of the same one, and no link is mended
pub place_map : (work work' tab knows knows' : ℕ → Bool) (alarm alarm' : ℕ → Alarm) (lk sound sound' : ℕ → ℕ → Bool) → ((x : ℕ) → work' x ≡ work x)
    → ((x : ℕ) → knows x ≡ true → (knows' x ≡ true) × (alarm' x ≡ alarm x)) → ((x y : ℕ) → sound x y ≡ false → sound' x y ≡ false)
    → (p : Place) → Place-of work tab knows alarm lk sound p → Place-of work' tab knows' alarm' lk sound' p
place_map work work' tab knows knows' alarm alarm' lk sound sound' same still worse p (failed x t w) = failed x t (same x ∙ w)
place_map work work' tab knows knows' alarm alarm' lk sound sound' same still worse p (tripped x k a) = tripped x (still x k).0 ((still x k).1 ∙ a)
place_map work work' tab knows knows' alarm alarm' lk sound sound' same still worse p (faulty x y l k s) = faulty x y l k (worse x y s)

-- the fault places once c has entered error for place q; sound is which links stand then
module _ (v : View) (γ : Ghost) (c : ℕ) (un : unaware γ.big (v.own c) ≡ true) (q : Place) (sound : ℕ → ℕ → Bool)
    (first : γ.big.faulted ≡ false → (j : ℕ) → in_recovery (v.own j).state ≡ false)
    (lost : (x y : ℕ) → x < y → lk_of γ x y ≡ true → sound x y ≡ false → (v.sound x y ≡ false) ⊎ (q ≡ AtLink x y))
    (worse : (x y : ℕ) → v.sound x y ≡ false → sound x y ≡ false)
    (place : Place-of (work_of v) (tab_of γ) (aware_of v γ) (alarm_of v) (lk_of γ) sound q) (h : PlacesOf v γ) where
  abbrev e' : View
  e' = set_sound (erred v c q) sound

  abbrev ε : Ghost
  ε = g_error (g_faulted γ) (v.own c)

  same_work : (j : ℕ) → work_of e' j ≡ work_of v j
  same_work = kept_at (λ (x : Own). works x.state) v.own c (o_erred (v.own c) q (lead_after v c q)) (erred_works (v.own c).version ∙ sym (un_works γ.big (v.own c) un))

  still : (j : ℕ) → aware_of v γ j ≡ true → (aware_of e' ε j ≡ true) × (alarm_of e' j ≡ alarm_of v j)
  still j a = upd_elim (λ (x : Own). (in_recovery x.state ≡ true) × (x.alarm ≡ (v.own j).alarm)) v.own c (o_erred (v.own c) q (lead_after v c q)) j
      (λ e. absurd (un_not_aware γ.big (v.own c) un (subst (λ (k : ℕ). aware_of v γ k ≡ true) e a)))
      (λ n. (aware_recovers γ.big (v.own j) a, refl))

  itself : (aware_of e' ε c ≡ true) × (alarm_of e' c ≡ Some q)
  itself = subst (λ (x : Own). (in_recovery x.state ≡ true) × (x.alarm ≡ Some q)) (sym (upd_same v.own c (o_erred (v.own c) q (lead_after v c q))))
      (erred_recovers (v.own c).version, refl)

  -- a place as before is one after it
  moved_on : (p : Place) (k : ℕ → ℕ → Bool) → ((x y : ℕ) → k x y ≡ false → sound x y ≡ false) → Place-of (work_of v) (tab_of γ) (aware_of v γ) (alarm_of v) (lk_of γ) k p
      → Place-of (work_of e') (tab_of γ) (aware_of e' ε) (alarm_of e') (lk_of γ) sound p
  moved_on p k less at = place_map (work_of v) (work_of e') (tab_of γ) (aware_of v γ) (aware_of e' ε) (alarm_of v) (alarm_of e') (lk_of γ) k sound same_work still less p at

  from_one_lem : (j : ℕ) → aware_of e' ε j ≡ true → (p : Place) → alarm_of e' j ≡ Some p → Place-of (work_of e') (tab_of γ) (aware_of e' ε) (alarm_of e') (lk_of γ) sound p
  from_one_lem j = upd_elim (λ (x : Own). in_recovery x.state ≡ true → (p : Place) → x.alarm ≡ Some p
      → Place-of (work_of e') (tab_of γ) (aware_of e' ε) (alarm_of e') (lk_of γ) sound p)
      v.own c (o_erred (v.own c) q (lead_after v c q)) j
      (λ e a p f. subst (λ (r : Place). Place-of (work_of e') (tab_of γ) (aware_of e' ε) (alarm_of e') (lk_of γ) sound r) (place_same f) (moved_on q sound (λ x y s. s) place))
      (λ n a p f. moved_on p v.sound worse (h.from_one j (and_intro (known_of_lem a) a) p f))
    where
      known_of_lem : in_recovery (v.own j).state ≡ true → γ.big.faulted ≡ true
      known_of_lem a = is_true γ.big.faulted (λ f. never a (first f j))

  erred_places : PlacesOf e' ε
  erred_places = record {
    standing = λ e. absurd (true≢false e);
    failed_for = λ x t w. let k = h.failed_for x t (sym (same_work x) ∙ w) in let s = still k.0 k.1 in (k.0, s.0, s.1 ∙ k.2);
    faulty_for = λ x y l k s. ⊎_elim
        (λ e. let f = h.faulty_for x y l k e in let r = still f.0 f.1 in (f.0, r.0, r.1 ∙ f.2))
        (λ e. (c, itself.0, itself.1 ∙ ap Some e)) (lost x y l k s);
    someone = λ e. (c, itself.0);
    from_one = from_one_lem;
  }

  pub error_places_at : PlacesOf (set_sound (v_error v c q) sound) (g_error (g_faulted γ) (v.own c))
  error_places_at = subst (λ (u : View). PlacesOf (set_sound u sound) ε) (sym (error_seen v c q)) erred_places

-- a cabinet that is not in error, recovering or recovered enters error
pub enter_core : (n : ℕ) (total : Party → ℕ) (v : View) (γ : Ghost) → Core n total v γ → (γ.big.faulted ≡ false → (j : ℕ) → in_recovery (v.own j).state ≡ false)
    → (c : ℕ) → works (v.own c).state ≡ true → in_recovery (v.own c).state ≡ false → (q : Place) → is_at q c ≡ false
    → ((d : ℕ) → used (s_alarmed q c d (v.side c d)) ≡ true → work_of v d ≡ true) → Core n total (v_error v c q) (g_error (g_faulted γ) (v.own c))
enter_core n total v γ i first c w r q other meets =
    error_core n total v (g_faulted γ) (fault_core n total v γ i first) c (un_of (b_faulted γ.big) (v.own c) w r) refl q other meets

-- the history reads nothing of it
pub error_past : (n : ℕ) (v : View) (γ : Ghost) (h : History) (o : Own) → Past n v γ h → Past n v (g_error (g_faulted γ) o) h
error_past n v γ h o p = search
