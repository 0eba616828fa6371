-- Finding a link fault: the receiver of a bad packet strikes the link and enters error for it. Damage alone brings a bad packet, so no
-- recovery has just ended, and the fault is the first or the group knows of one.
use Prim.Native.Nat.{ℕ, ◌<◌}
use mathlib.Core.Path.{◌≡◌, refl, sym, ap, ◌∙◌, subst}
use mathlib.Core.Logic.{◌≢◌, ◌⊎◌, inl, inr, ⊎_elim}
use mathlib.Core.Bool.{Bool, true, false, not, ◌&&◌}
use mathlib.Core.List.{List, ◌∷◌}
use borrow.Author.Tests.{eq-eqb, ne_eqb, lt-ltb, le-ltb}
use native.Mathlib.Omega.{arith}
use native.Mathlib.Decide.{ℕ_discrete, dec_lt}
use lib.Dec.{ltb}
use Rattle.table.specs.Table.{is_at}
use Rattle.marks.specs.Marks.{marked}
use Rattle.marks.specs.Reach.{Rows, mark, struck, connected}
use Rattle.marks.specs.ReachLaws.{struck_there, struck_back, struck_other, length_struck}
use Rattle.outlet.specs.declared.Party.{Party}
use Rattle.packet.specs.declared.Place.{Place}
use Rattle.packet.specs.declared.Place.TheVariants.{Link as AtLink}
use Rattle.packet.specs.declared.Payload.{Payload}
use Rattle.packet.specs.declared.Check.{Check}
use Rattle.packet.specs.declared.Packet.{Packet}
use Rattle.packet.specs.declared.Packet.TheVariants.{Normal as NormalPacket, Checkp, Invalid}
use Rattle.line.specs.declared.Line.{Line}
use Rattle.packet.specs.Packet.{link_place, fits, is_empty}
use Rattle.line.specs.Line.{oldest, rest}
use Rattle.state.specs.declared.State.{State}
use Rattle.state.specs.declared.State.TheVariants.{Failed, Normal, CheckpBegin, Checkpointing, Checkpointed, Error, Recovering, Recovered, Crashed}
use Rattle.state.specs.State.{is_in, works, in_recovery}
use Rattle.cabinet.specs.Cabinet.{in_use}
use Rattle.group.specs.declared.Group.{Group}
use Rattle.group.specs.Group.{cabinet, state_of, outgoing, line, with_outgoing, with_line, rows_of, with_sound, working}
use Rattle.protocol.specs.History.{History, upd, note_cuts}
use Rattle.protocol.specs.Moves.{enter_error}
use Rattle.protocol.specs.Receive.{serving}
use Rattle.claims.proofs.State.Fun.{never, is_false, and_true, and_intro, cond_elim, upd_other, upd_swap}
use Rattle.claims.proofs.State.Every.{with_line_lem}
use Rattle.claims.proofs.State.View.{View, Side, used, content, view, set_line, set_sound}
use Rattle.claims.proofs.State.Shape.{Shaped, Lined, Pictured, shaped}
use Rattle.claims.proofs.State.Sim.{Fit, in_use_lem}
use Rattle.claims.proofs.State.Methods.{hits_link, s_alarmed}
use Rattle.claims.proofs.State.ViewMoves.{lead_after, sim_off, view_off}
use Rattle.claims.proofs.Invariant.States.{serving_calm}
use Rattle.claims.proofs.Invariant.Facts.{Ghost, aware, unaware, count, is_invalid}
use Rattle.claims.proofs.Invariant.Whole.{Core, Inv, GroundOf, Place-of, faulty, work_of, aware_of, alarm_of, tab_of, lk_of}
use Rattle.claims.proofs.Invariant.Past.{Past, Kept, past_turn, quiet_of}
use Rattle.claims.proofs.Invariant.Words.{un_of, un_not_aware}
use Rattle.claims.proofs.Invariant.Reaching.{Reach, reach_group, length_rows, view_sound}
use Rattle.claims.proofs.Invariant.Staying.{stays_calm}
use Rattle.claims.proofs.Moves.Dropping.{drop_inv}
use Rattle.claims.proofs.Moves.Taking.{take_unfit}
use Rattle.claims.proofs.Moves.Comparing.{unequal_hurt}
use Rattle.claims.proofs.Moves.FirstFault.{g_faulted, g_error}
use Rattle.claims.proofs.Moves.ErrorSeen.{v_error, erred, erred_line, s_erred, error_seen, error_knows, error_side, error_line, error_works, erred_not_saving, error_here, strike_used, sim_error, o_erred, erred_works}
use Rattle.claims.proofs.Moves.Erring.{error_meets, error_past, error_places_at, enter_core}

-- ---- a link's place

-- a link is no cabinet
link_at : (a b k : ℕ) → is_at (link_place a b) k ≡ false
link_at a b k = cond_elim (λ (p : Place). is_at p k ≡ false) (ltb a b) (λ e. refl) (λ e. refl)

place_up : (a b : ℕ) → a < b → link_place a b ≡ AtLink a b
place_up a b l = rw (lt-ltb a b l)

place_down : (a b : ℕ) → b < a → link_place a b ≡ AtLink b a
place_down a b l = rw (le-ltb a b (omega arith))

-- the strike takes the link from the receiver's table
link_hit : (a b : ℕ) → a ≢ b → hits_link (link_place a b) b a ≡ true
link_hit a b n = elim (dec_lt a b) [
  | yes l ↦ subst (λ (q : Place). hits_link q b a ≡ true) (sym (place_up a b l)) (rw (ne_eqb b a (λ e. n (sym e)), eq-eqb b b refl, eq-eqb a a refl))
  | no m ↦ subst (λ (q : Place). hits_link q b a ≡ true) (sym (place_down a b (apart m))) (rw (eq-eqb b b refl, eq-eqb a a refl))
]
  where
    apart : (a < b → ⊥) → b < a
    apart m = omega arith

struck_unused : (a b : ℕ) (s : Side) → a ≢ b → used (s_alarmed (link_place a b) b a s) ≡ false
struck_unused a b s n = is_false _ (λ e. never (link_hit a b n) (no_hit (and_true {s = s.link} (and_true {s = s.link && not (hits_link (link_place a b) b a)} e).0).1))
  where
    no_hit : not (hits_link (link_place a b) b a) ≡ true → hits_link (link_place a b) b a ≡ false
    no_hit e = is_false (hits_link (link_place a b) b a) (λ f. never e (ap not f))

-- ---- nobody is on the way out of a recovery where a packet was damaged or lost

upset_first : (n : ℕ) (total : Party → ℕ) (v : View) (γ : Ghost) → Core n total v γ → (γ.big.calm ≡ true → ⊥)
    → γ.big.faulted ≡ false → (j : ℕ) → in_recovery (v.own j).state ≡ false
upset_first n total v γ i upset calm j = go (v.own j).state refl
  where
    un : (s : State) → (v.own j).state ≡ s → works s ≡ true → unaware γ.big (v.own j) ≡ true
    un s e w = rw (e, calm) (and_intro w refl)

    go : (s : State) → (v.own j).state ≡ s → in_recovery s ≡ false
    go Failed e = refl
    go Normal e = refl
    go CheckpBegin e = refl
    go Checkpointing e = refl
    go Checkpointed e = refl
    go Error e = absurd (never (ap (λ (s : State). is_in s Error) e) ((i.nodes j).quiet calm).0)
    go Recovering e = absurd (never (ap (λ (s : State). is_in s Recovering) e) ((i.nodes j).quiet calm).1)
    go Recovered e = let k = (i.nodes j).in_recovered (un Recovered e refl) e in absurd (upset k.2)
    go Crashed e = refl

-- ---- the links once that of a and b is struck

module _ (old sound : ℕ → ℕ → Bool) (a b : ℕ) (other : a ≢ b) (there : sound a b ≡ false) (back : sound b a ≡ false)
    (elsewhere : (x y : ℕ) → ((x ≡ a) × (y ≡ b) → ⊥) → ((x ≡ b) × (y ≡ a) → ⊥) → sound x y ≡ old x y) where
  -- a pair of cabinets is the ends of the link, one way or the other, or its link is as it was
  ends : (x y : ℕ) → ((x ≡ a) × (y ≡ b)) ⊎ (((x ≡ b) × (y ≡ a)) ⊎ (sound x y ≡ old x y))
  ends x y = elim (ℕ_discrete x a) [
    | yes e ↦ elim (ℕ_discrete y b) [
      | yes f ↦ inl (e, f)
      | no g ↦ inr (inr (elsewhere x y (λ r. g r.1) (λ r. other (sym e ∙ r.0))))
    ]
    | no d ↦ elim (ℕ_discrete x b) [
      | yes e ↦ elim (ℕ_discrete y a) [
        | yes f ↦ inr (inl (e, f))
        | no g ↦ inr (inr (elsewhere x y (λ r. d r.0) (λ r. g r.1)))
      ]
      | no f ↦ inr (inr (elsewhere x y (λ r. d r.0) (λ r. f r.0)))
    ]
  ]

  worse : (x y : ℕ) → old x y ≡ false → sound x y ≡ false
  worse x y e = ⊎_elim (λ r. rw (r.0, r.1) there) (λ s. ⊎_elim (λ r. rw (r.0, r.1) back) (λ r. r ∙ e) s) (ends x y)

  sound_both_lem : ((x y : ℕ) → old x y ≡ old y x) → (x y : ℕ) → sound x y ≡ sound y x
  sound_both_lem both x y =
      ⊎_elim (λ r. rw (r.0, r.1) (there ∙ sym back)) (λ s. ⊎_elim (λ r. rw (r.0, r.1) (back ∙ sym there)) (λ r. r ∙ turn r) s) (ends x y)
    where
      turn : sound x y ≡ old x y → old x y ≡ sound y x
      turn r = ⊎_elim
          (λ e. sym r ∙ rw (e.0, e.1) (back ∙ sym there))
          (λ s. ⊎_elim (λ e. sym r ∙ rw (e.0, e.1) (there ∙ sym back)) (λ e. both x y ∙ sym e) s) (ends y x)

-- ---- the group as the view sees it

module _ (n : ℕ) (total : Party → ℕ) (v : View) (γ : Ghost) (i : Inv n total v γ) (a b : ℕ) (other : a ≢ b) (p : Packet) (k : List Packet) (here : v.lines a b ≡ p ∷ k)
    (wb : works (v.own b).state ≡ true) (rb : in_recovery (v.own b).state ≡ false) (uses : used (v.side b a) ≡ true)
    (upset : γ.big.calm ≡ true → ⊥) (sound : ℕ → ℕ → Bool) (there : sound a b ≡ false) (back : sound b a ≡ false)
    (elsewhere : (x y : ℕ) → ((x ≡ a) × (y ≡ b) → ⊥) → ((x ≡ b) × (y ≡ a) → ⊥) → sound x y ≡ v.sound x y) (reach : Reach (work_of v) sound) where
  abbrev q : Place
  q = link_place a b

  abbrev δ : Ghost
  δ = g_error (g_faulted γ) (v.own b)

  pairings : (x y : ℕ) → ((x ≡ a) × (y ≡ b)) ⊎ (((x ≡ b) × (y ≡ a)) ⊎ (sound x y ≡ v.sound x y))
  pairings = ends v.sound sound a b other there back elsewhere

  un : unaware γ.big (v.own b) ≡ true
  un = un_of γ.big (v.own b) wb rb

  first : γ.big.faulted ≡ false → (j : ℕ) → in_recovery (v.own j).state ≡ false
  first = upset_first n total v γ i.core upset

  -- the link was one of the group's
  linked_here : lk_of γ b a ≡ true
  linked_here = sym ((i.core.pairs b a).table un).1 ∙ (and_true {s = (v.side b a).link} uses).0

  place : Place-of (work_of v) (tab_of γ) (aware_of v γ) (alarm_of v) (lk_of γ) sound q
  place = elim (dec_lt a b) [
    | yes l ↦ subst (λ (r : Place). Place-of (work_of v) (tab_of γ) (aware_of v γ) (alarm_of v) (lk_of γ) sound r) (sym (place_up a b l))
        (faulty a b l (i.core.ground.link_both a b ∙ linked_here) there)
    | no m ↦ let l : b < a = omega arith in
        subst (λ (r : Place). Place-of (work_of v) (tab_of γ) (aware_of v γ) (alarm_of v) (lk_of γ) sound r) (sym (place_down a b l)) (faulty b a l linked_here back)
  ]

  lost : (x y : ℕ) → x < y → lk_of γ x y ≡ true → sound x y ≡ false → (v.sound x y ≡ false) ⊎ (q ≡ AtLink x y)
  lost x y l e s =
      ⊎_elim (λ r. inr (rw (r.0, r.1) (place_up a b (subst (λ (z : ℕ). z < b) r.0 (subst (λ (z : ℕ). x < z) r.1 l)))))
      (λ t. ⊎_elim (λ r. inr (rw (r.0, r.1) (place_down a b (subst (λ (z : ℕ). z < a) r.0 (subst (λ (z : ℕ). x < z) r.1 l))))) (λ r. inl (sym r ∙ s)) t)
      (pairings x y)

  entered : Core n total (v_error v b q) δ
  entered = enter_core n total v γ i.core first b wb rb q (link_at a b b) (λ d u. i.meets b d wb (strike_used q b d (v.side b d) u))

  grounded : GroundOf n (set_sound (v_error v b q) sound) δ
  grounded =
      let h = entered.ground in
      let same = error_works v b q wb in
      record {
        most = h.most;
        within = h.within;
        chief_in = h.chief_in;
        heir_is = h.heir_is;
        link_both = h.link_both;
        link_other = h.link_other;
        sound_both = sound_both_lem v.sound sound a b other there back elsewhere i.core.ground.sound_both;
        sound_links = λ x y e. ⊎_elim (λ r. absurd (never e (rw (r.0, r.1) there)))
            (λ s. ⊎_elim (λ r. absurd (never e (rw (r.0, r.1) back))) (λ r. i.core.ground.sound_links x y (sym r ∙ e)) s) (pairings x y);
        home_present = h.home_present;
        present_works = h.present_works;
        reach = λ P passes x wx px y wy.
            reach P (λ c d pc wc wd s. passes c d pc (same c ∙ wc) (same d ∙ wd) s) x (sym (same x) ∙ wx) px y (sym (same y) ∙ wy);
        others_work = h.others_work;
        others_reach = h.others_reach;
        other = h.other;
      }

  struck_inv : Inv n total (set_sound (v_error v b q) sound) δ
  struck_inv = record {
    core = record { pairs = entered.pairs; nodes = entered.nodes; books = entered.books; leads = entered.leads; ground = grounded; chain = entered.chain; sums = entered.sums };
    places = error_places_at v γ b un q sound first lost (worse v.sound sound a b other there back elsewhere) place i.places;
    meets = error_meets v b q wb i.meets;
  }

  pub link_fault_inv : Inv n total (set_line (set_sound (v_error v b q) sound) a b k) δ
  link_fault_inv =
      drop_inv n total (set_sound (v_error v b q) sound) δ struck_inv a b p k (error_line v b q a b other ∙ here)
      (λ e u. absurd (un_not_aware δ.big ((v_error v b q).own b) u knows))
      (λ e. absurd (un_not_aware δ.big ((v_error v b q).own b) (and_true {s = unaware δ.big ((v_error v b q).own b)} e).0 knows))
      (λ e u. absurd (never (and_true {s = used ((v_error v b q).side a b)} u).1 (ap used (error_side v b q a) ∙ struck_unused a b (v.side b a) other)))
    where
      knows : aware δ.big ((v_error v b q).own b) ≡ true
      knows = error_knows v b q

-- ---- the order of the changes: the packet came off and the link was struck first

fault_order : (v : View) (a b : ℕ) (q : Place) (k : List Packet) (sound : ℕ → ℕ → Bool) → a ≢ b
    → v_error (set_sound (set_line v a b k) sound) b q ≡ set_line (set_sound (v_error v b q) sound) a b k
fault_order v a b q k sound other =
    error_seen (set_sound (set_line v a b k) sound) b q ∙ swap ∙ ap (λ (u : View). set_line (set_sound u sound) a b k) (sym (error_seen v b q))
  where
    row : ℕ → List Packet
    row d = erred_line (v.own b).version q (used (s_erred v b q d))

    rows : upd (upd v.lines a (upd (v.lines a) b k)) b row ≡ upd (upd v.lines b row) a (upd (upd v.lines b row a) b k)
    rows = upd_swap v.lines a b (upd (v.lines a) b k) row other
        ∙ ap (λ (f : ℕ → List Packet). upd (upd v.lines b row) a (upd f b k)) (sym (upd_other v.lines b row a other))

    swap : erred (set_sound (set_line v a b k) sound) b q ≡ set_line (set_sound (erred v b q) sound) a b k
    swap = λ t. record { own = (erred v b q).own; side = (erred v b q).side; lines = rows t; slots = v.slots; sound = sound }

-- ---- the step

sound_kept : (g : Group) (a b : ℕ) (l : Line) → (with_line g a b l).sound ≡ g.sound
unfolding with_line with_outgoing
sound_kept g a b l = refl

working_kept : (g : Group) (a b : ℕ) (l : Line) → working (with_line g a b l) ≡ working g
unfolding with_line with_outgoing working cabinet
working_kept g a b l = refl

pub fit_sound : (g : Group) (rs : Rows) → Fit g → Fit (with_sound g rs)
unfolding cabinet outgoing line with_sound
fit_sound g rs h = record {
  frame = record { cabinets = h.frame.cabinets; outs = h.frame.outs; lines = h.frame.lines; store = h.frame.store };
  cabs = h.cabs;
  lines = h.lines;
  slots = h.slots;
}

module _ (total : Party → ℕ) (g : Group) (h : History) (γ : Ghost) (w : Fit g) (i : Inv g.n total (view g) γ) (past : Past g.n (view g) γ h)
    (a b : ℕ) (la : a < 8) (lb : b < 8) (other : a ≢ b) (full : is_empty (oldest (line g a b)) ≡ false) (uses : marked (in_use (cabinet g b)) a ≡ true)
    (serves : serving (state_of g b) ≡ true) where
  -- the packet is off the line
  abbrev g1 : Group
  g1 = with_line g a b (rest (line g a b))

  abbrev rows : Rows
  rows = struck (rows_of g1.sound) a b

  abbrev left : List Packet
  left = content (rest (line g a b)).cells

  abbrev g' : Group
  g' = enter_error (with_sound g1 rows) b (link_place a b)

  fit1 : Fit g1
  fit1 = with_line_lem Shaped Lined Pictured shaped g a b (rest (line g a b)) (shaped.less (line g a b) (w.lines a b)) w

  abbrev after : View
  after = set_line (set_sound (v_error (view g) b (link_place a b)) (mark rows)) a b left

  seen : view g' ≡ after
  seen =
      sim_error (with_sound g1 rows) (fit_sound g1 rows fit1) b (link_place a b) lb
      ∙ ap (λ (u : View). v_error u b (link_place a b))
      (view_sound g1 rows (length_struck (rows_of g1.sound) a b ∙ length_rows g1.sound) ∙ ap (λ (u : View). set_sound u (mark rows)) (view_off g w a b la lb))
      ∙ fault_order (view g) a b (link_place a b) left (mark rows) other

  abbrev calm : (works (state_of g b) ≡ true) × (in_recovery (state_of g b) ≡ false)
  calm = serving_calm (state_of g b) serves

  elsewhere : (x y : ℕ) → ((x ≡ a) × (y ≡ b) → ⊥) → ((x ≡ b) × (y ≡ a) → ⊥) → mark rows x y ≡ (view g).sound x y
  elsewhere x y d e =
      struck_other (rows_of g1.sound) a b x y d e ∙ ap (λ s. mark (rows_of s) x y) (sound_kept g a b (rest (line g a b)))

  below : (j : ℕ) → works (state_of g j) ≡ true → j < 8
  below j e = omega (arith, i.core.ground.within j ((i.core.nodes j).placed e), i.core.ground.most)

  module _ (upset : γ.big.calm ≡ true → ⊥) (all : connected rows (working g1) ≡ true) where
    reaches : Reach (work_of (view g)) (mark rows)
    reaches =
        reach_group g rows (ap (connected rows) (sym (working_kept g a b (rest (line g a b)))) ∙ all) below
        (sound_both_lem (view g).sound (mark rows) a b other (struck_there (rows_of g1.sound) a b) (struck_back (rows_of g1.sound) a b) elsewhere
        i.core.ground.sound_both)

    inv_after : Inv g.n total after (g_error (g_faulted γ) ((view g).own b))
    inv_after =
        link_fault_inv g.n total (view g) γ i a b other (oldest (line g a b)) left (sim_off g a b full) calm.0 calm.1
        (sym (in_use_lem (cabinet g b) (w.cabs b) a) ∙ uses) upset (mark rows) (struck_there (rows_of g1.sound) a b) (struck_back (rows_of g1.sound) a b)
        elsewhere reaches

    pub keeps_link_fault : Kept total g γ g' (note_cuts h g g')
    keeps_link_fault = record {
      ghost = g_error (g_faulted γ) ((view g).own b);
      inv = subst (λ (x : View). Inv g.n total x (g_error (g_faulted γ) ((view g).own b))) (sym seen) inv_after;
      past = past_turn g g' b (o_erred ((view g).own b) (link_place a b) (lead_after (view g) b (link_place a b)))
          (λ c. ap (λ (u : View). (u.own c).state) seen ∙ ap (λ (u : View). (u.own c).state) (error_seen (view g) b (link_place a b)))
          (erred_works (cabinet g b).phase.version ∙ sym calm.0) (erred_not_saving (cabinet g b).phase.version)
          (error_past g.n (view g) γ h ((view g).own b) past);
      stays = stays_calm (view g) γ (quiet_of i) (view g') (g_error (g_faulted γ) ((view g).own b)) b _ _
          (ap (λ (u : View). u.own) seen ∙ ap (λ (u : View). u.own) (error_seen (view g) b (link_place a b)))
          (ap (λ (u : View). u.side) seen ∙ ap (λ (u : View). u.side) (error_seen (view g) b (link_place a b)))
          (un_of γ.big ((view g).own b) calm.0 calm.1) (λ e d. refl)
          (λ f. refl, λ e _. upset_first g.n total (view g) γ i.core upset e);
    }

  pub fault_state : is_in (state_of g' b) Normal ≡ false
  fault_state = ap (λ (u : View). is_in (u.own b).state Normal) seen ∙ error_here (view g) b (link_place a b)

  -- damage to the packet itself
  pub invalid_upset : oldest (line g a b) ≡ Invalid → γ.big.calm ≡ true → ⊥
  unfolding count
  invalid_upset e c =
      let here = sim_off g a b full ∙ ap (λ (p : Packet). p ∷ left) e in
      let z : count is_invalid (Invalid ∷ left) ≡ 0 = subst (λ (l : List Packet). count is_invalid l ≡ 0) here ((i.core.pairs a b).sound c) in
      omega arith

  -- damage to a packet that carries its own check
  pub unfit_upset : (q : Payload) → oldest (line g a b) ≡ NormalPacket q → fits q ≡ false → γ.big.calm ≡ true → ⊥
  unfit_upset q e u c =
      let un = un_of γ.big ((view g).own b) calm.0 calm.1 in
      never (take_unfit g.n total (view g) γ i a b la q left (sim_off g a b full ∙ ap (λ (p : Packet). p ∷ left) e) un u) ((i.core.pairs a b).unhurt c un)

  -- damage to a packet before it, or its loss: the values are unequal
  pub unequal_upset : (x : Check) → oldest (line g a b) ≡ Checkp x → x ≢ ((view g).side b a).took → γ.big.calm ≡ true → ⊥
  unequal_upset x e n c =
      let un = un_of γ.big ((view g).own b) calm.0 calm.1 in
      never (unequal_hurt g.n total (view g) γ i a b x left (sim_off g a b full ∙ ap (λ (p : Packet). p ∷ left) e) un n) ((i.core.pairs a b).unhurt c un)
