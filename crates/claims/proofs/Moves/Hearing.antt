-- A fault packet heard: it comes off the line, and the receiver has heard the sender. Both are aware of the fault and have the same
-- place, so every fact stands. Kind 4, deliver: a fault packet taken in error, recovering or recovered.
use Rattle.std.specs.Prelude.{Some}
use Prim.Native.Nat.{ℕ, ◌<◌}
use mathlib.Core.Path.{◌≡◌, refl, sym, ap, ◌∙◌, subst}
use mathlib.Core.Logic.{◌≢◌, ⊎_elim}
use mathlib.Core.Bool.{Bool, true, false, cond, ◌&&◌}
use mathlib.Core.List.{List, [], ◌∷◌, ◌++◌, nil≢cons}
use native.Mathlib.Omega.{arith}
use native.Mathlib.Decide.{ℕ_discrete}
use Rattle.outlet.specs.declared.Party.{Party}
use Rattle.packet.specs.declared.Place.{Place}
use Rattle.packet.specs.declared.Packet.{Packet}
use Rattle.packet.specs.declared.Packet.TheVariants.{Recover, Fault}
use Rattle.packet.specs.Packet.{is_empty}
use Rattle.line.specs.Line.{oldest, rest}
use Rattle.state.specs.declared.Version.{Version}
use Rattle.cabinet.specs.Alarm.{is_for}
use Rattle.state.specs.State.{works, in_recovery}
use Rattle.group.specs.declared.Group.{Group}
use Rattle.group.specs.Group.{cabinet, state_of, line, with_line}
use Rattle.protocol.specs.History.{History, upd, note_cuts}
use Rattle.protocol.specs.Moves.{hear}
use Rattle.claims.proofs.State.Fun.{never, is_true, and_true, and_intro, upd_elim, upd_same, upd_other, kept_at, kept_pair}
use Rattle.claims.proofs.State.Every.{with_line_lem}
use Rattle.claims.proofs.State.View.{View, Own, Side, used, content, view, set_line}
use Rattle.claims.proofs.State.Shape.{Shaped, Lined, Pictured, shaped}
use Rattle.claims.proofs.State.Sim.{Fit}
use Rattle.claims.proofs.State.Methods.{s_marks}
use Rattle.claims.proofs.State.ViewMoves.{v_hear, sim_hear, sim_off, view_off}
use Rattle.claims.proofs.Answers.Tests.{fault_for}
use Rattle.claims.proofs.Invariant.States.{place_same}
use Rattle.claims.proofs.Invariant.Facts.{Big, Mind, Wire, Ghost, Pair, Alarms, aware, unaware, is_fault, is_invalid, count, amounts_in}
use Rattle.claims.proofs.Invariant.Whole.{Inv}
use Rattle.claims.proofs.Invariant.Past.{Past, Kept, past_still, quiet_of}
use Rattle.claims.proofs.Invariant.Words.{un_not_aware, un_or_aware, aware_faulted, live_line}
use Rattle.claims.proofs.Invariant.Frame.{same_ghost, minded, move_pairs, move_nodes, move_books, quiet_inv}
use Rattle.claims.proofs.Invariant.Staying.{stays_same, phase_same, no_fault_lem}

-- ---- a fault packet at the head of a line

cond_none : (r v : Bool) → count is_fault (cond r (Recover v ∷ []) []) ≡ 0
unfolding count
cond_none true v = refl
cond_none false v = refl

-- what an aware cabinet's line holds behind its fault packet
pub fault_head : (x : Version) (q r : Place) (k : List Packet) → Alarms x r (Fault q ∷ k) → (r ≡ q) × (count is_fault k ≡ 0) × Alarms x r k
fault_head x q r k a = go a.faults a.recovers refl a.is
  where
    go : (f u : Bool) → a.recovers ≡ u → Fault q ∷ k ≡ cond f (Fault r ∷ []) [] ++ cond u (Recover a.value ∷ []) []
        → (r ≡ q) × (count is_fault k ≡ 0) × Alarms x r k
    go true u f e =
        let is : k ≡ cond u (Recover a.value ∷ []) [] = cc in
        let same : r ≡ q = cc in
        (same, ap (count is_fault) is ∙ cond_none u a.value, record { faults = false; recovers = u; value = a.value; is = is; knows = λ g. a.knows (f ∙ g) })
    go false true f e = let z : ◌≡◌ {A = ℕ} 0 1 = cc in absurd (omega arith)
    go false false f e = absurd (nil≢cons (sym e))

one_fault : (q : Place) (k : List Packet) → count is_fault (Fault q ∷ k) ≡ 0 → ⊥
unfolding count
one_fault q k e = omega arith

module _ {b : Big} {c d : ℕ} {o : Own} {m : Mind} {p : Own} {n : Mind} {s t : Side} {k : List Packet} {w : Wire} {q : Place}
    (h : Pair b c d o m p n s t (Fault q ∷ k) w) where
  -- its sender is aware of the fault
  pub fault_aware : aware b o ≡ true
  fault_aware =
      ⊎_elim (λ u. absurd (one_fault q k (h.no_fault u))) (λ e. e) (un_or_aware b o (live_line h (λ e. nil≢cons (sym e))).0)

  -- and has its place
  pub fault_place : ((aware b o ≡ true) → (r : Place) × (o.alarm ≡ Some r)) → o.alarm ≡ Some q
  fault_place known =
      let r = known fault_aware in
      r.1 ∙ ap Some (fault_head o.version q r.0 k (h.alarms fault_aware r.0 r.1)).0

-- ---- the pair of the line, and the pair back

abbrev pub s_heard : Side → Side
s_heard s = s_marks s s.come s.saved s.restored true s.unsure

module _ (b : Big) (c d : ℕ) (o : Own) (m : Mind) (p : Own) (n : Mind) (s t : Side) (k : List Packet) (w : Wire) (q : Place)
    (h : Pair b c d o m p n s t (Fault q ∷ k) w) (known : (aware b o ≡ true) → (r : Place) × (o.alarm ≡ Some r)) (up : aware b p ≡ true) (for-it : p.alarm ≡ Some q) where
  no_calm : {A : Type 0} → unaware b o ≡ true → A
  no_calm u = absurd (un_not_aware b o u (fault_aware h))

  at_place : o.alarm ≡ Some q
  at_place = fault_place h known

  left : (count is_fault k ≡ 0) × Alarms o.version q k
  left = let f = fault_head o.version q q k (h.alarms (fault_aware h) q at_place) in (f.1, f.2)

  lively : (works o.state && (works p.state && used s)) ≡ true
  lively = is_true _ (λ e. nil≢cons (sym (h.silent e)))

  invalid_left : count is_invalid (Fault q ∷ k) ≡ 0 → count is_invalid k ≡ 0
  unfolding count
  invalid_left e = omega (arith, e)

  same_amounts : amounts_in (Fault q ∷ k) ≡ amounts_in k
  unfolding amounts_in
  same_amounts = refl

  pub hear_to : Pair b c d o m p n s (s_heard t) k w
  hear_to = record {
    table = h.table;
    struck = h.struck;
    closed_joined = h.closed_joined;
    closed_equal = h.closed_equal;
    closed_empty = λ j e u. no_calm u;
    apart = h.apart;
    owes = h.owes;
    owes_home = h.owes_home;
    reported = h.reported;
    begun_bare = h.begun_bare;
    readied = h.readied;
    ready_heard = λ e u. refl;
    silent = λ e. absurd (never lively e);
    alarms = λ a r e. subst (λ (x : Place). Alarms o.version x k) (place_same (sym at_place ∙ e)) left.1;
    unheard = λ a u x e. absurd (never (and_intro up refl) e);
    heard = λ e. left.0;
    heard_of = λ e. (fault_aware h, at_place ∙ sym for-it);
    no_fault = no_calm;
    no_checkp = no_calm;
    last_checkp = no_calm;
    behind_empty = λ e. no_calm (and_true {s = unaware b o} e).0;
    resumed = λ j u. no_calm u;
    came = h.came;
    tail_heard = λ j u e. refl;
    stream = λ j u. no_calm u;
    fresh = h.fresh;
    room = no_calm;
    sound = λ e. invalid_left (h.sound e);
    unhurt = h.unhurt;
    no_more = λ y e. rw (← same_amounts) (h.no_more y e);
    small = (h.small.0, (h.small.1.0, rw (← same_amounts) h.small.1.1));
    fit = h.fit;
  }

pub hear_from : (b : Big) (c d : ℕ) (o : Own) (m : Mind) (p : Own) (n : Mind) (s t : Side) (l : List Packet) (w : Wire) → Pair b c d o m p n s t l w
    → Pair b c d o m p n (s_heard s) t l w
hear_from b c d o m p n s t l w h = search

-- ---- together

abbrev pub v_heard : View → ℕ → ℕ → List Packet → View
v_heard v a b k = set_line (v_hear v a b) a b k

module _ (n : ℕ) (total : Party → ℕ) (v : View) (γ : Ghost) (i : Inv n total v γ) (a b : ℕ) (other : a ≢ b) (q : Place) (k : List Packet)
    (is : v.lines a b ≡ Fault q ∷ k) (up : aware γ.big (v.own b) ≡ true) (for-it : (v.own b).alarm ≡ Some q) where
  abbrev s' : ℕ → Side
  s' = upd (v.side b) a (s_heard (v.side b a))

  abbrev l' : ℕ → ℕ → List Packet
  l' = upd v.lines a (upd (v.lines a) b k)

  abbrev γ' : Ghost
  γ' = minded γ γ.big b (γ.mind b) γ.wire

  line_to : (c d : ℕ) → d ≢ b → l' c d ≡ v.lines c d
  line_to c d e =
      upd_elim (λ (f : ℕ → List Packet). f d ≡ v.lines c d) v.lines a _ c
      (λ x. upd_other (v.lines a) b k d e ∙ ap (λ (y : ℕ). v.lines y d) (sym x)) (λ x. refl)

  line_from : (c d : ℕ) → c ≢ a → l' c d ≡ v.lines c d
  line_from c d e = ap (λ (f : ℕ → List Packet). f d) (upd_other v.lines a (upd (v.lines a) b k) c e)

  line_at : l' a b ≡ k
  line_at = ap (λ (f : ℕ → List Packet). f b) (upd_same v.lines a (upd (v.lines a) b k)) ∙ upd_same (v.lines a) b k

  from : (j : ℕ) → j ≢ b → Pair γ.big b j (v.own b) (γ.mind b) (v.own j) (γ.mind j) (s' j) (v.side j b) (l' b j) (γ.wire b j)
  from j e =
      rw (line_to b j e)
      (upd_elim (λ (x : Side). Pair γ.big b j (v.own b) (γ.mind b) (v.own j) (γ.mind j) x (v.side j b) (v.lines b j) (γ.wire b j)) (v.side b) a _ j
      (λ x. rw x (hear_from _ _ _ _ _ _ _ _ _ _ _ (i.core.pairs b a))) (λ x. i.core.pairs b j))

  to : (j : ℕ) → j ≢ b → Pair γ.big j b (v.own j) (γ.mind j) (v.own b) (γ.mind b) (v.side j b) (s' j) (l' j b) (γ.wire j b)
  to j e = elim (ℕ_discrete j a) [
    | yes x ↦ rw (x, upd_same (v.side b) a (s_heard (v.side b a)), line_at)
        (hear_to _ _ _ _ _ _ _ _ _ _ _ q (rw is at (i.core.pairs a b)) (i.core.nodes a).place_known up for-it)
    | no x ↦ rw (upd_other (v.side b) a (s_heard (v.side b a)) j x, line_from j b x) (i.core.pairs j b)
  ]

  self : Pair γ.big b b (v.own b) (γ.mind b) (v.own b) (γ.mind b) (s' b) (s' b) (l' b b) (γ.wire b b)
  self = rw (upd_other (v.side b) a (s_heard (v.side b a)) b (λ e. other (sym e)), line_from b b (λ e. other (sym e))) (i.core.pairs b b)

  same_use : (d : ℕ) → used (s' d) ≡ used (v.side b d)
  same_use d = kept_at used (v.side b) a (s_heard (v.side b a)) refl d

  heard_inv : Inv n total (v_heard v a b k) γ'
  heard_inv = quiet_inv n total v γ i b (v.own b) (γ.mind b) s' l' v.slots γ.wire
      (refl, refl, refl, refl, refl, refl, refl) (refl, refl, refl, refl, refl, refl, refl) (λ i j. refl) same_use
      (move_pairs v γ γ.big b (v.own b) (γ.mind b) s' l' v.slots γ.wire (λ c d x y. line_to c d y) (λ c d x y. refl)
      (λ c d x y. i.core.pairs c d) from self to)
      (move_nodes v γ γ.big b (v.own b) (γ.mind b) s' l' v.slots γ.wire (λ j d. refl) (λ j d. i.core.nodes j) (i.core.nodes b))
      (move_books v γ γ.big b (v.own b) (γ.mind b) s' l' v.slots γ.wire (λ j. refl) (λ j. refl) (λ j d. i.core.books j) (i.core.books b))

  pub hear_inv : Inv n total (v_heard v a b k) γ
  hear_inv = subst (λ (δ : Ghost). Inv n total (v_heard v a b k) δ) (same_ghost γ b) heard_inv

-- ---- a packet taken off a line, in the group

module _ (g : Group) (a b : ℕ) where
  abbrev pub off : Group
  off = with_line g a b (rest (line g a b))

  abbrev pub left_of : List Packet
  left_of = content (rest (line g a b)).cells

  pub off_fit : Fit g → Fit off
  off_fit w = with_line_lem Shaped Lined Pictured shaped g a b (rest (line g a b)) (shaped.less (line g a b) (w.lines a b)) w

  -- the line as it was, by its oldest packet
  pub off_line : (p : Packet) → oldest (line g a b) ≡ p → is_empty p ≡ false → (view g).lines a b ≡ p ∷ left_of
  off_line p e f = sim_off g a b (ap is_empty e ∙ f) ∙ ap (λ (x : Packet). x ∷ left_of) e

-- ---- the step

module _ (total : Party → ℕ) (g : Group) (h : History) (γ : Ghost) (w : Fit g) (i : Inv g.n total (view g) γ) (past : Past g.n (view g) γ h)
    (a b : ℕ) (la : a < 8) (lb : b < 8) (other : a ≢ b) (q : Place) (fault : oldest (line g a b) ≡ Fault q)
    (restoring : in_recovery (state_of g b) ≡ true) (for-it : is_for (cabinet g b).phase.alarm q ≡ true) where
  abbrev g1 : Group
  g1 = off g a b

  abbrev k : List Packet
  k = left_of g a b

  abbrev g' : Group
  g' = hear g1 a b

  is_line : (view g).lines a b ≡ Fault q ∷ k
  is_line = off_line g a b (Fault q) fault refl

  -- the sender is aware of the fault, so the receiver is
  pub heard_aware : aware γ.big ((view g).own b) ≡ true
  heard_aware = and_intro (aware_faulted γ.big ((view g).own a) (fault_aware {d = b} (rw is_line at (i.core.pairs a b)))) restoring

  seen : view g' ≡ v_heard (view g) a b k
  seen = sim_hear g1 (off_fit g a b w) a b la lb ∙ ap (λ (x : View). v_hear x a b) (view_off g w a b la lb)

  state_kept : (c : ℕ) → ((view g').own c).state ≡ ((view g).own c).state
  state_kept c = ap (λ (x : View). (x.own c).state) seen ∙ kept_at (λ (x : Own). x.state) (view g).own b _ refl c

  own_kept : (c : ℕ) → (view g').own c ≡ (view g).own c
  own_kept c = ap (λ (x : View). x.own c) seen ∙ kept_at (λ (x : Own). x) (view g).own b _ refl c

  unsure_kept : (c d : ℕ) → ((view g').side c d).unsure ≡ ((view g).side c d).unsure
  unsure_kept c d = ap (λ (x : View). (x.side c d).unsure) seen ∙ kept_pair (λ (s : Side). s.unsure) (view g).side b a _ refl c d

  pub keeps_heard : Kept total g γ g' (note_cuts h g g')
  keeps_heard = record {
    ghost = γ;
    inv = subst (λ (x : View). Inv g.n total x γ) (sym seen)
        (hear_inv g.n total (view g) γ i a b other q k is_line heard_aware ((fault_for (cabinet g b).phase.alarm q).0 for-it));
    past = past_still g g' state_kept past;
    stays = stays_same (view g) γ (quiet_of i) (view g') γ (λ c. phase_same (own_kept c)) unsure_kept no_fault_lem;
  }
