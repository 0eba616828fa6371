-- Kind 3, begin, and kind 4 where a checkp is taken whose value is the register's: the cabinet joins the save if it is in normal,
-- compares, and cuts if the checkps of all neighbours in use have come.
use Prim.Native.Nat.{ℕ, suc, ◌<◌}
use mathlib.Core.Path.{◌≡◌, refl, sym, ap, ◌∙◌, subst}
use mathlib.Core.Logic.{◌≢◌, inl, inr, ⊎_elim}
use mathlib.Core.Bool.{Bool, true, false, cond, not, ◌&&◌, ◌||◌, true≢false}
use mathlib.Core.List.{List, [], ◌∷◌, ◌++◌}
use mathlib.Core.Option.{Option, none, some}
use lib.ListN.{get_or}
use lib.Dec.{eqb}
use borrow.Author.Tests.{eqb-true}
use native.Mathlib.Omega.{arith}
use native.Mathlib.Decide.{ℕ_discrete, dec_lt}
use Rattle.marks.specs.Marks.{marked, covers}
use Rattle.marks.specs.MarksLaws.{covers_has}
use Rattle.outlet.specs.declared.Party.{Party}
use Rattle.packet.specs.declared.Check.{Check}
use Rattle.packet.specs.declared.Packet.{Packet}
use Rattle.packet.specs.declared.Packet.TheVariants.{Checkp}
use Rattle.packet.specs.Packet.{start_check, same_check}
use Rattle.line.specs.Line.{oldest, rest}
use Rattle.state.specs.declared.State.{State}
use Rattle.state.specs.declared.State.TheVariants.{Normal, CheckpBegin, Checkpointing, Checkpointed}
use Rattle.state.specs.State.{is_in, works}
use Rattle.image.specs.Image.{booked}
use Rattle.cabinet.specs.Cabinet.{in_use, coordinator, comparing, with_state}
use Rattle.group.specs.declared.Group.{Group}
use Rattle.group.specs.Group.{cabinet, with_cabinet, state_of, line, with_line}
use Rattle.protocol.specs.declared.Step.TheVariants.{Begin}
use Rattle.protocol.specs.Moves.{join, cut_if_all, take_checkp}
use Rattle.protocol.specs.Receive.{join_if}
use Rattle.protocol.specs.Kinds.{begin_refusal}
use Rattle.protocol.specs.History.{upd, Cut, History, with_cuts, with_begun, observe, note_cuts, cut_in}
use Rattle.claims.proofs.State.Fun.{never, is_true, and_true, upd_elim, upd_same, upd_other, upd_id, kept_at, kept_pair, is_false, same_at}
use Rattle.claims.proofs.State.Every.{passed, with_cabinet_lem, with_line_lem, ok_join}
use Rattle.claims.proofs.State.View.{View, Own, Side, used, content, view, set_line}
use Rattle.claims.proofs.State.Shape.{Shaped, Lined, Pictured, shaped}
use Rattle.claims.proofs.State.Sim.{Fit, view_cabinet, in_use_lem, past_use}
use Rattle.claims.proofs.State.ViewMoves.{Room, v_put, v_join, v_compare, v_cut, sim_join, sim_compare, sim_cut, sim_off, view_off}
use Rattle.claims.proofs.Answers.Tests.{in_state, same_check_lem}
use Rattle.claims.proofs.Invariant.Facts.{Mind, Wire, Ghost, unaware}
use Rattle.claims.proofs.Invariant.Whole.{Inv}
use Rattle.claims.proofs.Invariant.Past.{Past, Kept, after, no_cuts, past_one, past_same, quiet_of, calm_stays}
use Rattle.claims.proofs.Invariant.Words.{un_of, un_works, chief_of, room_calm}
use Rattle.claims.proofs.Invariant.Staying.{Stays, phase_same, stays_marked, stays_then, stays_self, no_fault_lem}
use Rattle.claims.proofs.Moves.Joining.{Joins, m_joined, g_join, join_inv}
use Rattle.claims.proofs.Moves.Comparing.{w_covered, g_compare, checkp_joined, checkp_other, between, compare_inv}
use Rattle.claims.proofs.Moves.Cutting.{m_cut, g_cut, cut_inv}

-- ---- the history beside another ghost

module _ (n : ℕ) (v : View) (γ δ : Ghost) (h : History)
    (sent : (c d : ℕ) → (δ.wire c d).sent ≡ (γ.wire c d).sent) (taken : (c d : ℕ) → (δ.wire c d).taken ≡ (γ.wire c d).taken)
    (hurt : (c d : ℕ) → (δ.wire c d).hurt ≡ (γ.wire c d).hurt) (clean : δ.big.clean ≡ γ.big.clean) (alive : δ.big.alive ≡ γ.big.alive) (adopted : δ.big.adopted ≡ γ.big.adopted)
    (chief : δ.big.chief ≡ γ.big.chief) (tab : (c : ℕ) → (δ.mind c).tab ≡ (γ.mind c).tab)
    (top : (c : ℕ) → (δ.mind c).top ≡ (γ.mind c).top) (prev : (c : ℕ) → (δ.mind c).prev ≡ (γ.mind c).prev)
    (joins : (c : ℕ) → (γ.mind c).joined ≡ true → (δ.mind c).joined ≡ true) (begins : δ.big.begun ≡ true → h.begun ≡ true) where
  abbrev CutAt : Ghost → History → ℕ → Type 0
  CutAt ε k c = (x : Cut) × (k.cuts c ≡ some x) × (x.image ≡ (ε.mind c).cut)
      × ((d : ℕ) → x.sent d ≡ (ε.wire c d).sent) × ((d : ℕ) → x.taken d ≡ (ε.wire d c).taken)

  -- where only how far the save is has changed, and the cuts are those of k
  pub past_ghost : (cuts' : ℕ → Option Cut) → (δ.big.alive ≡ true → (c : ℕ) → (δ.mind c).done ≡ true → CutAt δ (with_cuts h cuts') c)
      → (δ.big.alive ≡ true → δ.big.begun ≡ true → (c : ℕ) → (δ.mind c).tab ≡ false → cuts' c ≡ none)
      → Past n v γ h → Past n v δ (with_cuts h cuts')
  past_ghost cuts' cuts no_cut p = record {
    sent = λ c d. p.sent c d ∙ sym (sent c d);
    taken = λ c d. p.taken c d ∙ sym (taken c d);
    damaged = λ y. p.damaged y ∙ sym (ap not (same_at clean y));
    hurt = λ c d. p.hurt c d ∙ sym (hurt c d);
    cuts = cuts;
    no_cut = no_cut;
    known = p.known ∙ sym adopted;
    tops = λ c l. rw (top c) (p.tops c l);
    balanced = p.balanced;
    present = λ c e. p.present c (sym (tab c) ∙ e);
    gone = λ c l e. p.gone c l (sym (tab c) ∙ e) ∙ ap some (sym (top c));
    beyond = λ y c l. ap (booked y) (top c) ∙ p.beyond y c l;
    below = λ e. let b = p.below (sym adopted ∙ e) in
        (b.0, b.1, b.2, b.3 ∙ sym chief, (λ j d k. b.4 j (λ q. d (q ∙ sym chief)) k), (λ c l. rw (prev c) (b.5 c l)), b.6);
    begun = ⊎_elim begins (λ e. p.begun (inr (sym adopted ∙ e)));
    waits = λ c s e. p.waits c s (is_false (γ.mind c).joined (λ j. never (joins c j) e));
  }

join_more : (γ : Ghost) (c x : ℕ) → (γ.mind x).joined ≡ true → ((g_join γ c).mind x).joined ≡ true
join_more γ c x e = upd_elim (λ (m : Mind). m.joined ≡ true) γ.mind c (m_joined (γ.mind c)) x (λ _. refl) (λ _. e)

-- a cabinet joins the save under way
pub past_join : (n : ℕ) (v : View) (γ : Ghost) (h : History) (c : ℕ) → γ.big.begun ≡ true → Past n v γ h → Past n v (g_join γ c) h
past_join n v γ h c begun p =
    past_ghost n v γ (g_join γ c) h (λ x y. refl) (λ x y. refl) (λ x y. refl) refl refl refl refl (one (λ m. m.tab) refl) (one (λ m. m.top) refl)
    (one (λ m. m.prev) refl) (join_more γ c) (λ _. p.begun (inl begun)) h.cuts
    (λ a x e. let y = p.cuts a x (sym (one (λ m. m.done) refl x) ∙ e) in (y.0, y.1, y.2 ∙ sym (one (λ m. m.cut) refl x), y.3, y.4))
    (λ a e x f. p.no_cut a begun x (sym (one (λ m. m.tab) refl x) ∙ f)) p
  where
    one : {A : Type 0} (f : Mind → A) → f (m_joined (γ.mind c)) ≡ f (γ.mind c) → (x : ℕ) → f ((g_join γ c).mind x) ≡ f (γ.mind x)
    one f e x = kept_at f γ.mind c (m_joined (γ.mind c)) e x

-- a begin is noted
past_begun : {n : ℕ} {v : View} {γ : Ghost} {h : History} → Past n v γ h → Past n v γ (with_begun h true)
past_begun p = record {
  sent = p.sent;
  taken = p.taken;
  damaged = p.damaged;
  hurt = p.hurt;
  cuts = p.cuts;
  no_cut = p.no_cut;
  known = p.known;
  tops = p.tops;
  balanced = p.balanced;
  present = p.present;
  gone = p.gone;
  beyond = p.beyond;
  below = p.below;
  begun = λ _. refl;
  waits = p.waits;
}

-- a new save begins: no cabinet has a cut in it
pub past_begin : (n : ℕ) (total : Party → ℕ) (v : View) (γ : Ghost) (h : History) (c : ℕ) → Inv n total v γ → γ.big.begun ≡ false → Past n v γ h
    → (g g' : Group) → Past n v (g_join γ c) (observe h g g' (Begin (suc c)))
past_begin n total v γ h c i fresh p g g' =
    past_ghost n v γ (g_join γ c) (with_begun h true) (λ x y. refl) (λ x y. refl) (λ x y. refl) refl refl refl refl (one (λ m. m.tab) refl) (one (λ m. m.top) refl)
    (one (λ m. m.prev) refl) (join_more γ c) (λ _. refl) (λ x. none)
    (λ a x e. absurd (never ((i.core.nodes x).joined_begun ((i.core.nodes x).done_joined (sym (one (λ m. m.done) refl x) ∙ e))) fresh))
    (λ a e x f. refl) (past_begun p)
  where
    one : {A : Type 0} (f : Mind → A) → f (m_joined (γ.mind c)) ≡ f (γ.mind c) → (x : ℕ) → f ((g_join γ c).mind x) ≡ f (γ.mind x)
    one f e x = kept_at f γ.mind c (m_joined (γ.mind c)) e x

-- a comparison adds nothing to the logs
pub past_compare : (n : ℕ) (v : View) (γ : Ghost) (h : History) (a b : ℕ) → Past n v γ h → Past n v (g_compare γ a b) h
past_compare n v γ h a b p =
    past_ghost n v γ (g_compare γ a b) h sent taken (kept_pair (λ (y : Wire). y.hurt) γ.wire a b (w_covered (γ.wire a b)) refl) refl refl refl refl (λ x. refl) (λ x. refl) (λ x. refl) (λ x e. e)
    (λ e. p.begun (inl e)) h.cuts
    (λ e x f. let y = p.cuts e x f in (y.0, y.1, y.2, (λ d. y.3 d ∙ sym (sent x d)), (λ d. y.4 d ∙ sym (taken d x)))) p.no_cut p
  where
    sent : (c d : ℕ) → ((g_compare γ a b).wire c d).sent ≡ (γ.wire c d).sent
    sent = kept_pair (λ (y : Wire). y.sent) γ.wire a b (w_covered (γ.wire a b)) refl

    taken : (c d : ℕ) → ((g_compare γ a b).wire c d).taken ≡ (γ.wire c d).taken
    taken = kept_pair (λ (y : Wire). y.taken) γ.wire a b (w_covered (γ.wire a b)) refl

-- ---- the cut, if all checkps have come

module _ (total : Party → ℕ) (g₀ : Group) (γ₀ : Ghost) (h : History) (g : Group) (w : Fit g) (γ : Ghost) (i : Inv g₀.n total (view g) γ)
    (past : Past g₀.n (view g) γ h) (stays : Stays (view g₀) γ₀ (view g) γ) (c : ℕ) (lc : c < 8) (begins : state_of g c ≡ CheckpBegin)
    (before : (d : ℕ) → is_in (state_of g d) Checkpointing ≡ true → is_in (state_of g₀ d) Checkpointing ≡ true)
    (uncut : is_in (state_of g₀ c) Checkpointing ≡ false) where
  un : unaware γ.big ((view g).own c) ≡ true
  un = un_of γ.big ((view g).own c) (rw begins) (rw begins)

  abbrev Cutting : Bool → Group
  Cutting t = with_cabinet g c (cond t (with_state (cabinet g c) Checkpointing) (cabinet g c))

  -- not yet
  same_view : view (Cutting false) ≡ view g
  same_view =
      view_cabinet g w.frame c (cabinet g c) lc
      ∙ (λ t. record {
        own = upd_id (view g).own c t;
        side = upd_id (view g).side c t;
        lines = (view g).lines;
        slots = (view g).slots;
        sound = (view g).sound;
      })

  same_state : (d : ℕ) → state_of (Cutting false) d ≡ state_of g d
  same_state d = ap (λ (x : View). (x.own d).state) same_view

  keeps_wait : Kept total g₀ γ₀ (Cutting false) (note_cuts h g₀ (Cutting false))
  keeps_wait = record {
    ghost = γ;
    inv = subst (λ (x : View). Inv g₀.n total x γ) (sym same_view) i;
    past = rw (no_cuts h g₀ (Cutting false) (λ d e. before d (ap (λ (s : State). is_in s Checkpointing) (sym (same_state d)) ∙ e)))
        (subst (λ (x : View). Past g₀.n x γ h) (sym same_view) past);
    stays = stays_marked stays (view (Cutting false)) γ (λ d. phase_same (ap (λ (x : View). x.own d) same_view)) (λ d j. ap (λ (x : View). (x.side d j).unsure) same_view) no_fault_lem;
  }

  -- all have come
  module _ (all : covers (cabinet g c).noted.come (in_use (cabinet g c)) ≡ true) where
    abbrev g' : Group
    g' = Cutting true

    abbrev γ' : Ghost
    γ' = g_cut γ c ((view g).own c).image

    come_all : (d : ℕ) → used ((view g).side c d) ≡ true → ((view g).side c d).come ≡ true
    come_all d u =
        let m : marked (in_use (cabinet g c)) d ≡ true = in_use_lem (cabinet g c) (w.cabs c) d ∙ u in
        elim (dec_lt d 8) [
          | yes l ↦ covers_has (cabinet g c).noted.come (in_use (cabinet g c)) all d l m
          | no x ↦ absurd (never m (past_use (cabinet g c) d (omega arith)))
        ]

    seen : view g' ≡ v_cut (view g) c
    seen = sim_cut g w c lc

    cut_state : state_of g' c ≡ Checkpointing
    cut_state = ap (λ (x : View). (x.own c).state) seen ∙ ap (λ (o : Own). o.state) (upd_same (view g).own c _)

    other_state : (d : ℕ) → d ≢ c → state_of g' d ≡ state_of g d
    other_state d n = ap (λ (x : View). (x.own d).state) seen ∙ ap (λ (o : Own). o.state) (upd_other (view g).own c _ d n)

    cut_image : (cabinet g' c).image ≡ ((view g).own c).image
    cut_image = ap (λ (x : View). (x.own c).image) seen ∙ ap (λ (o : Own). o.image) (upd_same (view g).own c _)

    abbrev cuts' : ℕ → Option Cut
    cuts' = (note_cuts h g₀ g').cuts

    cut_here : cuts' c ≡ some (cut_in h g' c)
    cut_here = rw (cut_state, uncut)

    cut_there : (d : ℕ) → d ≢ c → cuts' d ≡ h.cuts d
    cut_there d n = go _ _ (λ e. before d (ap (λ (s : State). is_in s Checkpointing) (sym (other_state d n)) ∙ e))
      where
        go : (s u : Bool) → (s ≡ true → u ≡ true) → cond (s && not u) (some (cut_in h g' d)) (h.cuts d) ≡ h.cuts d
        go true true f = refl
        go true false f = absurd (true≢false (sym (f refl)))
        go false u f = refl

    one : {A : Type 0} (f : Mind → A) → f (m_cut (γ.mind c) ((view g).own c).image) ≡ f (γ.mind c) → (x : ℕ) → f (γ'.mind x) ≡ f (γ.mind x)
    one f e x = kept_at f γ.mind c (m_cut (γ.mind c) ((view g).own c).image) e x

    tabbed : (x : ℕ) → (γ.mind x).tab ≡ false → x ≢ c
    tabbed x f e = never ((i.core.nodes c).placed (un_works γ.big ((view g).own c) un)) (ap (λ (y : ℕ). (γ.mind y).tab) (sym e) ∙ f)

    abbrev CutOf : ℕ → Mind → Type 0
    CutOf x m = (y : Cut) × (cuts' x ≡ some y) × (y.image ≡ m.cut)
        × ((d : ℕ) → y.sent d ≡ (γ.wire x d).sent) × ((d : ℕ) → y.taken d ≡ (γ.wire d x).taken)

    cut_of : γ.big.alive ≡ true → (x : ℕ) → (γ'.mind x).done ≡ true → CutOf x (γ'.mind x)
    cut_of a x = upd_elim (λ (m : Mind). m.done ≡ true → CutOf x m) γ.mind c _ x
        (λ q e. rw q (cut_in h g' c, cut_here, cut_image, past.sent c, λ d. past.taken d c))
        (λ n e. let y = past.cuts a x e in (y.0, cut_there x n ∙ y.1, y.2, y.3, y.4))

    past_cut : Past g₀.n (view g) γ' (note_cuts h g₀ g')
    past_cut =
        past_ghost g₀.n (view g) γ γ' h (λ x y. refl) (λ x y. refl) (λ x y. refl) refl refl refl refl (one (λ m. m.tab) refl) (one (λ m. m.top) refl)
        (one (λ m. m.prev) refl) (λ x e. one (λ m. m.joined) refl x ∙ e) (λ e. past.begun (inl e)) cuts' cut_of
        (λ a e x f. let g = sym (one (λ m. m.tab) refl x) ∙ f in cut_there x (tabbed x g) ∙ past.no_cut a e x g) past

    keeps_done : Kept total g₀ γ₀ g' (note_cuts h g₀ g')
    keeps_done = record {
      ghost = γ';
      inv = subst (λ (x : View). Inv g₀.n total x γ') (sym seen) (cut_inv g₀.n total (view g) γ i c un begins (w.cabs c).image come_all);
      past = past_one c _ (λ d. ap (λ (x : View). (x.own d).state) seen) (sym (ap works begins)) refl past_cut;
      stays = stays_then stays (view g') γ' c _ _ (ap (λ (u : View). u.own) seen) (ap (λ (u : View). u.side) seen) un (λ e. absurd (never e refl)) no_fault_lem;
    }

  pub keeps_cut : Kept total g₀ γ₀ (cut_if_all g c) (note_cuts h g₀ (cut_if_all g c))
  unfolding cut_if_all
  keeps_cut = go (covers (cabinet g c).noted.come (in_use (cabinet g c))) refl
    where
      go : (t : Bool) → covers (cabinet g c).noted.come (in_use (cabinet g c)) ≡ t → Kept total g₀ γ₀ (Cutting t) (note_cuts h g₀ (Cutting t))
      go true e = keeps_done e
      go false e = keeps_wait

-- ---- 3 begin

module _ (total : Party → ℕ) (g : Group) (h : History) (γ : Ghost) (w : Fit g) (i : Inv g.n total (view g) γ) (past : Past g.n (view g) γ h)
    (a : ℕ) (la : a < 8) (fine : begin_refusal g a ≡ 0) where
  asked : (is_in (state_of g a) Normal ≡ true) × (eqb (coordinator (cabinet g a)) a ≡ true)
  asked = and_true {s = is_in (state_of g a) Normal} (passed (is_in (state_of g a) Normal && eqb (coordinator (cabinet g a)) a) 13 0 fine).0

  normal : state_of g a ≡ Normal
  normal = (in_state (state_of g a) Normal).0 asked.0

  calm : unaware γ.big ((view g).own a) ≡ true
  calm = un_of γ.big ((view g).own a) (rw normal) (rw normal)

  chief : a ≡ γ.big.chief
  chief = sym (eqb-true (coordinator (cabinet g a)) a asked.1) ∙ chief_of g.n total g γ i.core a calm

  -- its last save is over
  fresh : γ.big.begun ≡ false
  fresh = sym ((i.core.nodes a).chief_begun chief) ∙ (i.core.nodes a).in_normal calm normal

  begin_seen : view (join g a) ≡ v_join (view g) a
  begin_seen = sim_join g w a la (room_calm g.n total g γ w i.core a calm)

  begin_state : state_of (join g a) a ≡ CheckpBegin
  begin_state = ap (λ (x : View). (x.own a).state) begin_seen ∙ ap (λ (o : Own). o.state) (upd_same (view g).own a _)

  begin_other : (d : ℕ) → d ≢ a → state_of (join g a) d ≡ state_of g d
  begin_other d n = ap (λ (x : View). (x.own d).state) begin_seen ∙ ap (λ (o : Own). o.state) (upd_other (view g).own a _ d n)

  pub keeps_begin : Kept total g γ (cut_if_all (join g a) a) (after h g (cut_if_all (join g a) a) (Begin (suc a)))
  keeps_begin =
      keeps_cut total g γ (observe h g (cut_if_all (join g a) a) (Begin (suc a))) (join g a) (ok_join Shaped Lined Pictured shaped g a w) (g_join γ a)
      (subst (λ (x : View). Inv g.n total x (g_join γ a)) (sym begin_seen) (join_inv g.n total (view g) γ i a calm normal (inl (chief, fresh))))
      (past_one a _ (λ d. ap (λ (x : View). (x.own d).state) begin_seen) (sym (ap works normal)) refl
      (past_begin g.n total (view g) γ h a i fresh past g (cut_if_all (join g a) a)))
      (calm_stays i (view (join g a)) (g_join γ a) a _ _ (ap (λ (u : View). u.own) begin_seen) (ap (λ (u : View). u.side) begin_seen) calm refl no_fault_lem) a la begin_state
      (λ d e. elim (ℕ_discrete d a) [
        | yes q ↦ absurd (never e (rw (ap (λ (x : ℕ). state_of (join g a) x) q, begin_state)))
        | no n ↦ ap (λ (s : State). is_in s Checkpointing) (sym (begin_other d n)) ∙ e
      ]) (rw normal)

-- ---- 4 deliver: a checkp whose value is the register's

-- a packet comes off the line before or after its receiver joins
module _ (v : View) (a b : ℕ) (k : List Packet) (other : b ≢ a) where
  abbrev put_on : ℕ → List Packet
  put_on = v_put v b (λ d. Checkp (v.side b d).put)

  abbrev taken_off : ℕ → ℕ → List Packet
  taken_off = upd v.lines a (upd (v.lines a) b k)

  apart : a ≢ b
  apart e = other (sym e)

  same_put : v_put (set_line v a b k) b (λ d. Checkp (v.side b d).put) ≡ put_on
  same_put =
      ap {B = ℕ → List Packet} (λ (f : ℕ → List Packet) (d : ℕ). cond (used (v.side b d)) (f d ++ (Checkp (v.side b d).put ∷ [])) (f d))
      (upd_other v.lines a (upd (v.lines a) b k) b other)

  same_lines : (c : ℕ) → (v_join (set_line v a b k) b).lines c ≡ (set_line (v_join v b) a b k).lines c
  same_lines c = elim (ℕ_discrete c a) [
    | yes e ↦ rw e
        (upd_other taken_off b _ a apart ∙ (upd_same v.lines a (upd (v.lines a) b k)
        ∙ sym (upd_same (upd v.lines b put_on) a _ ∙ ap (λ (f : ℕ → List Packet). upd f b k) (upd_other v.lines b put_on a apart))))
    | no n ↦ elim (ℕ_discrete c b) [
      | yes e ↦ rw e (upd_same taken_off b _ ∙ (same_put ∙ sym (upd_other (upd v.lines b put_on) a _ b other ∙ upd_same v.lines b put_on)))
      | no m ↦ upd_other taken_off b _ c m
          ∙ (upd_other v.lines a (upd (v.lines a) b k) c n ∙ sym (upd_other (upd v.lines b put_on) a _ c n ∙ upd_other v.lines b put_on c m))
    ]
  ]

  join_off : v_join (set_line v a b k) b ≡ set_line (v_join v b) a b k
  join_off = λ t. record {
    own = (v_join v b).own;
    side = (v_join v b).side;
    lines = λ c. same_lines c t;
    slots = v.slots;
    sound = v.sound;
  }

-- in checkp-begin: u is the view with the packet still in the line
module _ (total : Party → ℕ) (g₀ : Group) (γ₀ : Ghost) (h : History) (g : Group) (w : Fit g) (γ : Ghost) (u : View)
    (i : Inv g₀.n total u γ) (past : Past g₀.n u γ h) (went : Stays (view g₀) γ₀ u γ) (a b : ℕ) (la : a < 8) (lb : b < 8) (x : Check) (k : List Packet)
    (first : u.lines a b ≡ Checkp x ∷ k) (off : view g ≡ set_line u a b k) (begins : (u.own b).state ≡ CheckpBegin)
    (equal : x ≡ (u.side b a).took) (others : (d : ℕ) → d ≢ b → (u.own d).state ≡ state_of g₀ d)
    (uncut : is_in (state_of g₀ b) Checkpointing ≡ false) where
  abbrev compared : Group
  compared = with_cabinet g b (comparing (cabinet g b) a)

  compared_seen : view compared ≡ set_line (v_compare u a b) a b k
  compared_seen = sim_compare g w a b la lb ∙ ap (λ (y : View). v_compare y a b) off

  compared_state : (d : ℕ) → state_of compared d ≡ (u.own d).state
  compared_state d = ap (λ (y : View). (y.own d).state) compared_seen ∙ kept_at (λ (o : Own). o.state) u.own b (u.own b) refl d

  keeps_taken : Kept total g₀ γ₀ (take_checkp g a b) (note_cuts h g₀ (take_checkp g a b))
  unfolding take_checkp
  keeps_taken =
      keeps_cut total g₀ γ₀ h compared
      (with_cabinet_lem Shaped Lined Pictured shaped g b _ (shaped.comparing (cabinet g b) a (w.cabs b)) w) (g_compare γ a b)
      (subst (λ (y : View). Inv g₀.n total y (g_compare γ a b)) (sym compared_seen)
      (compare_inv g₀.n total u γ i a b x k first (un_of γ.big (u.own b) (rw begins) (rw begins)) equal begins))
      (past_same compared_state (past_compare g₀.n u γ h a b past))
      (stays_marked went (view compared) (g_compare γ a b)
      (λ d. phase_same (ap (λ (y : View). y.own d) compared_seen ∙ kept_at (λ (o : Own). o) u.own b (u.own b) refl d))
      (λ d j. ap (λ (y : View). (y.side d j).unsure) compared_seen ∙ kept_pair (λ (s : Side). s.unsure) u.side b a _ refl d j) no_fault_lem)
      b lb (compared_state b ∙ begins)
      (λ d e. elim (ℕ_discrete d b) [
        | yes q ↦ absurd (never e (rw (ap (λ (y : ℕ). state_of compared y) q, compared_state b, begins)))
        | no n ↦ ap (λ (s : State). is_in s Checkpointing) (sym (compared_state d ∙ others d n)) ∙ e
      ]) uncut

module _ (total : Party → ℕ) (g : Group) (h : History) (γ : Ghost) (w : Fit g) (i : Inv g.n total (view g) γ) (past : Past g.n (view g) γ h)
    (a b : ℕ) (la : a < 8) (lb : b < 8) (x : Check) (first : oldest (line g a b) ≡ Checkp x) where
  -- the packet is off the line
  abbrev g₁ : Group
  g₁ = with_line g a b (rest (line g a b))

  abbrev left : List Packet
  left = content (rest (line g a b)).cells

  off_seen : view g₁ ≡ set_line (view g) a b left
  off_seen = view_off g w a b la lb

  off_state : (d : ℕ) → state_of g₁ d ≡ state_of g d
  off_state d = ap (λ (y : View). (y.own d).state) off_seen

  off_fit : Fit g₁
  off_fit = with_line_lem Shaped Lined Pictured shaped g a b _ (shaped.less (line g a b) (w.lines a b)) w

  in_line : (view g).lines a b ≡ Checkp x ∷ left
  in_line = sim_off g a b (rw first) ∙ ap (λ (p : Packet). p ∷ left) first

  -- in normal it joins first
  module _ (normal : state_of g b ≡ Normal) (equal : x ≡ ((view g).side b a).took) where
    calm_b : unaware γ.big ((view g).own b) ≡ true
    calm_b = un_of γ.big ((view g).own b) (rw normal) (rw normal)

    other : b ≢ a
    other = checkp_other g.n total (view g) γ i a b x left in_line calm_b

    has_begun : γ.big.begun ≡ true
    has_begun =
        (i.core.nodes a).joined_begun
        (checkp_joined _ _ _ _ _ _ _ _ _ _ _ _ (between g.n total (view g) γ i a b x left in_line calm_b) _ (i.core.nodes a))

    no_chief : b ≢ γ.big.chief
    no_chief e = never ((i.core.nodes b).chief_begun e ∙ has_begun) ((i.core.nodes b).in_normal calm_b normal)

    all_know : γ.big.adopted ≡ true
    all_know = is_true γ.big.adopted (λ f.
        let s = ((i.core.nodes b).waits f no_chief (un_works γ.big ((view g).own b) calm_b)).1 calm_b in
        never (ap (λ (y : State). is_in y Checkpointed) s) (rw normal))

    joins : Joins γ.big b
    joins = inr (has_begun, no_chief, all_know)

    off_room : Room (view g₁) b
    off_room = subst (λ (y : View). Room y b) (sym off_seen) (λ d us.
        rw (upd_other (view g).lines a (upd ((view g).lines a) b left) b other) (room_calm g.n total g γ w i.core b calm_b d us))

    joined_seen : view (join g₁ b) ≡ set_line (v_join (view g) b) a b left
    joined_seen = sim_join g₁ off_fit b lb off_room ∙ (ap (λ (y : View). v_join y b) off_seen ∙ join_off (view g) a b left other)

    keeps_joined : Kept total g γ (take_checkp (join g₁ b) a b) (note_cuts h g (take_checkp (join g₁ b) a b))
    keeps_joined =
        keeps_taken total g γ h (join g₁ b) (ok_join Shaped Lined Pictured shaped g₁ b off_fit) (g_join γ b) (v_join (view g) b)
        (join_inv g.n total (view g) γ i b calm_b normal joins)
        (past_one b _ (λ d. refl) (sym (ap works normal)) refl (past_join g.n (view g) γ h b has_begun past))
        (calm_stays i (v_join (view g) b) (g_join γ b) b _ _ refl refl calm_b refl no_fault_lem)
        a b la lb x left (ap (λ (f : ℕ → List Packet). f b) (upd_other (view g).lines b _ a (λ e. other (sym e))) ∙ in_line) joined_seen
        (ap (λ (o : Own). o.state) (upd_same (view g).own b _))
        (equal ∙ sym (ap (λ (f : ℕ → Side). (f a).took) (upd_same (view g).side b _)))
        (λ d n. ap (λ (o : Own). o.state) (upd_other (view g).own b _ d n)) (rw normal)

  -- the tests are those that the receiver makes once the packet is off the line
  pub keeps_checkp : (is_in (state_of g₁ b) Normal || is_in (state_of g₁ b) CheckpBegin) ≡ true
      → same_check x (get_or (cabinet g₁ b).registers.taken a start_check) ≡ true
      → Kept total g γ (take_checkp (join_if (is_in (state_of g₁ b) Normal) g₁ b) a b)
      (note_cuts h g (take_checkp (join_if (is_in (state_of g₁ b) Normal) g₁ b) a b))
  keeps_checkp serves same = go (is_in (state_of g₁ b) Normal) refl serves
    where
      equal : x ≡ ((view g).side b a).took
      equal = (same_check_lem x _).0 same ∙ ap (λ (y : View). (y.side b a).took) off_seen

      go : (t : Bool) → is_in (state_of g₁ b) Normal ≡ t → (t || is_in (state_of g₁ b) CheckpBegin) ≡ true
          → Kept total g γ (take_checkp (join_if t g₁ b) a b) (note_cuts h g (take_checkp (join_if t g₁ b) a b))
      go true e f = keeps_joined (sym (off_state b) ∙ (in_state (state_of g₁ b) Normal).0 e) equal
      go false e f =
          let begins : state_of g b ≡ CheckpBegin = sym (off_state b) ∙ (in_state (state_of g₁ b) CheckpBegin).0 f in
          keeps_taken total g γ h g₁ off_fit γ (view g) i past (stays_self (view g) γ (quiet_of i)) a b la lb x left in_line off_seen begins equal (λ d n. refl) (rw begins)
