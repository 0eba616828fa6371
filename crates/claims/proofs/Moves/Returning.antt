-- Document 02, card 1, in a quiet group: a point keeps the images of the save that the rule gives, and a return sets every image, every
-- slot and that save to the point's, with nothing sent or taken since.
use Prim.Native.Nat.{ℕ, zero, ◌+◌, ◌*◌, ◌<◌, ◌≤◌}
use mathlib.Core.Path.{◌≡◌, refl, sym, ap, ◌∙◌, fun_ext, subst}
use mathlib.Core.Logic.{◌≢◌, inl, inr, ⊎_elim}
use mathlib.Core.Bool.{Bool, true, false, cond, not, ◌&&◌, true≢false}
use mathlib.Core.List.{List, [], ◌∷◌}
use mathlib.Core.Option.{Option, none, some as just}
use lib.ListN.{get_or, get_or-eq_default}
use lib.Dec.{eqb, ltb}
use borrow.Author.Tests.{ltb-false}
use native.Mathlib.Omega.{arith}
use native.Mathlib.Decide.{dec_lt}
use Rattle.marks.specs.Marks.{lowest, covers}
use Rattle.marks.specs.MarksLaws.{lowest_le_marked, covers_has}
use Rattle.outlet.specs.declared.Party.{Party}
use Rattle.packet.specs.declared.Check.{Check}
use Rattle.packet.specs.declared.Packet.{Packet}
use Rattle.line.specs.declared.Cell.{Cell}
use Rattle.packet.specs.Packet.{is_empty}
use Rattle.line.specs.Line.{empty_cell}
use Rattle.outgoing.specs.Lines.{is_laden, laden}
use Rattle.state.specs.declared.State.{State}
use Rattle.state.specs.declared.State.TheVariants.{Failed, Normal, Checkpointing, Checkpointed, Recovering, Error}
use Rattle.state.specs.declared.Version.{Version}
use Rattle.state.specs.declared.Version.TheVariants.{Known}
use Rattle.image.specs.declared.Image.{Image}
use Rattle.cabinet.specs.declared.Cabinet.{Cabinet}
use Rattle.state.specs.State.{is_in, works, in_recovery, is_unknown, bit_of}
use Rattle.image.specs.Image.{booked, blank_image}
use Rattle.cabinet.specs.Cabinet.{absent, with_image}
use Rattle.points.specs.declared.Point.{Point}
use Rattle.points.specs.declared.Points.{Points}
use Rattle.points.specs.Points.{with_point, image_at, place_for}
use Rattle.store.specs.declared.Slots.{Slots}
use Rattle.store.specs.declared.Store.{Store}
use Rattle.store.specs.Store.{blank_slots, slot_in, is_present, file_home, copy_at, slot_at, of_each}
use Rattle.store.specs.Served.{Served}
use Rattle.store.proofs.Laws.{set_kept, set_home, set_present, set_slot}
use Rattle.group.specs.declared.Group.{Group}
use Rattle.group.specs.Group.{cabinet, state_of, outgoing, line, home, slot, some, working, normal_ones, has_laden, laden_ones, quiet}
use Rattle.protocol.specs.Points.{image_kept, images_kept, point_of, with_point_image, both_slots, returned}
use Rattle.protocol.specs.History.{History, bare_cut, latest, image_now, note_point, note_return}
use Rattle.claims.specs.Points.{KeptOf}
use Rattle.claims.proofs.State.Fun.{never, is_true, is_false, and_true, and_off, not_true_false, sum_cong, sum_zero, row, row_at, row_all}
use Rattle.claims.proofs.State.View.{View, Own, Side, own_of, side_of, content, view}
use Rattle.claims.proofs.State.Cells.{Packed, empty_is}
use Rattle.claims.proofs.State.Shape.{Shaped, Pictured}
use Rattle.claims.proofs.State.Sim.{Fit}
use Rattle.claims.proofs.State.ViewMoves.{o_image}
use Rattle.claims.proofs.Answers.Tests.{in_state, those_marked}
use Rattle.claims.proofs.Invariant.States.{failed_state, known_is_known}
use Rattle.claims.proofs.Invariant.Facts.{Big, Mind, Wire, Ghost, Pair, Node, Stream, aware, SameTo, unaware, linked, closed, amounts_in, amount, nothing}
use Rattle.claims.proofs.Invariant.Whole.{Inv, BooksAt, out_of, got_of}
use Rattle.claims.proofs.Invariant.Past.{Past, Kept, HeldIn, bare_balanced, held_now, cut_held}
use Rattle.claims.proofs.Invariant.Words.{un_of, aware_recovers}
use Rattle.claims.proofs.Invariant.Points.{PointHeld, PointsHeld, one_more}
use Rattle.claims.proofs.Invariant.Staying.{stays_none}

-- ---- slots past the eighth cabinet

either_way : {A : Type 0} (t : Bool) (x : A) → cond t x x ≡ x
either_way true x = refl
either_way false x = refl

blank_both : record { zero = blank_image; one = blank_image } ≡ blank_slots
unfolding blank_slots
blank_both = refl

slot_past : (s : Store) → Served s → (h c : ℕ) (t : Bool) → 8 ≤ c → slot_at s h c t ≡ blank_image
unfolding slot_at copy_at blank_slots
slot_past s w h c t l =
    rw (
      get_or-eq_default s.firsts blank_slots {n = c} (omega (arith, w.eight_firsts)),
      get_or-eq_default s.seconds blank_slots {n = c} (omega (arith, w.eight_seconds)),
      either_way (eqb h (file_home s c)) blank_slots,
    ) (either_way t blank_image)

-- ---- what is marked of none

none_marked : (f : ℕ → Bool) → some (row f) ≡ false → (k : ℕ) → k < 8 → f k ≡ false
unfolding some
none_marked f e k l =
    is_false (f k) (λ t.
    let m = lowest_le_marked (row f) k (row_at f false k l ∙ t) in
    let n = ltb-false (lowest (row f)) 8 e in
    omega arith)

-- a line whose first cell is empty
no_packets_lem : (cs : List Cell) → Packed cs → is_empty (get_or cs 0 empty_cell).packet ≡ true → content cs ≡ []
unfolding content Packed
no_packets_lem [] h e = refl
no_packets_lem (c ∷ cs) h e = rw (empty_is c.packet e) (h.0 e)

-- ---- what a return makes of the view and of the ghost

abbrev pub v_returned : View → Point → View
v_returned v p = record { own = λ c. o_image (v.own c) (image_at p c); side = v.side; lines = v.lines; slots = λ c x. image_at p c; sound = v.sound }

abbrev b_set : Big → Big
b_set b = record { faulted = b.faulted; topv = b.topv; adopted = true; chief = b.chief; heir = b.heir; alive = b.alive; begun = b.begun; frozen = b.frozen; calm = b.calm; clean = b.clean }

abbrev m_set : Mind → Image → Mind
m_set m x = record { tab = m.tab; joined = m.joined; done = m.done; wrote = m.wrote; told = m.told; ready = m.ready; cut = m.cut; base = x; top = x; prev = m.prev }

abbrev w_set : Wire → Wire
w_set w = record { sent = w.sent; taken = w.taken; ver = w.ver; out = nothing; got = nothing; hurt = w.hurt; lk = w.lk }

abbrev pub g_returned : Ghost → Point → Ghost
g_returned γ p = record { big = b_set γ.big; mind = λ c. m_set (γ.mind c) (image_at p c); wire = λ c d. w_set (γ.wire c d) }

-- ---- pairs and cabinets

set_stream : {waiting hurt : Bool} {put took : Check} {w : Wire} {l : List Packet} → l ≡ [] → Stream waiting hurt put took w l
    → Stream waiting hurt put took (w_set w) l
unfolding amounts_in amount
set_stream {hurt} {w} {l} e s = let way : hurt ≡ false → (y : Party) → (w_set w).out y ≡ (w_set w).got y + amount y (amounts_in l) = λ _ y. rw e in search

set_pair : {b : Big} {c d : ℕ} {o : Own} {m : Mind} {p : Own} {n : Mind} {s t : Side} {l : List Packet} {w : Wire} (x y : Image) → l ≡ []
    → Pair b c d o m p n s t l w → Pair (b_set b) c d (o_image o x) (m_set m x) (o_image p y) (m_set n y) s t l (w_set w)
unfolding amounts_in amount
set_pair {b} {o} {m} {p} {n} {s} {t} {l} {w} x y e h =
    let equal : linked m n w ≡ true → closed b p n t ≡ true → b.alive ≡ true → (w.sent ≡ w.taken) × ((w_set w).out ≡ (w_set w).got) × (w.hurt ≡ false) =
    λ k z a. let y = h.closed_equal k z a in (y.0, refl, y.2) in
    let apart : linked m n w ≡ false → (w.sent ≡ []) × (w.taken ≡ []) × ((w_set w).out ≡ nothing) × ((w_set w).got ≡ nothing) × (w.hurt ≡ false) =
    λ k. let z = h.apart k in (z.0, z.1, refl, refl, z.4) in
    let stream : linked m n w ≡ true → unaware b o ≡ true → unaware b p ≡ true
    → Stream (m.joined && not (n.joined && t.come)) t.hurt s.put t.took (w_set w) l = λ k u v. set_stream e (h.stream k u v) in
    let fewer : (y : Party) → b.clean y ≡ true → (w_set w).got y + amount y (amounts_in l) ≤ (w_set w).out y = λ y _. rw e (omega arith) in
    search

-- of a cabinet that has not joined a save
set_node : {b : Big} {c : ℕ} {o : Own} {m : Mind} {z : Bool → Image} (x : Image) → Pictured x → m.joined ≡ false
    → Node b c o m z → Node (b_set b) c (o_image o x) (m_set m x) (λ _. x)
set_node {b} {c} {o} {m} x size off h =
    let open_yet : m.done ≡ true → ⊥ = λ e. never (h.done_joined e) off in
    let going : aware b o ≡ true → o.state ≡ Recovering → (o.pieces < 4) × SameTo (8 * o.pieces) x x =
    λ a e. ((h.in_recovering a e).0, (λ i l. refl)) in
    let waits : (b_set b).adopted ≡ false → c ≢ b.chief → works o.state ≡ true
    → (m.joined ≡ false) × (unaware b o ≡ true → o.state ≡ Checkpointed) = λ e. absurd (true≢false e) in
    let cut : b.alive ≡ true → m.done ≡ true → unaware b o ≡ true → x ≡ m.cut = λ a e. absurd (open_yet e) in
    let gone : m.tab ≡ false → (x ≡ x) × ((b_set b).adopted ≡ false → m.prev ≡ x) = λ e. (refl, (λ f. absurd (true≢false f))) in
    let before : (b_set b).adopted ≡ false → m.tab ≡ true → (c ≡ b.chief → m.done ≡ false) → x ≡ m.prev = λ e. absurd (true≢false e) in
    let written : b.alive ≡ true → m.wrote ≡ true → x ≡ m.cut = λ a e. absurd (open_yet (h.wrote_done e)) in
    let pieces : b.alive ≡ true → unaware b o ≡ true → o.state ≡ Checkpointing → SameTo (8 * o.pieces) x m.cut =
    λ a u e. absurd (open_yet (h.in_checkpointing u e).0) in
    search

-- ---- the history of a point and of a return

-- a point changes nothing that the ghost stands for
pub past_point : {n : ℕ} {v : View} {γ : Ghost} {h : History} → Past n v γ h → (name : List ℕ) → Past n v γ (note_point h name)
past_point p name = search

-- ---- a quiet group

module _ (total : Party → ℕ) (g : Group) (h : History) (γ : Ghost) (w : Fit g) (i : Inv g.n total (view g) γ) (past : Past g.n (view g) γ h)
    (q : quiet g ≡ true) where
  abbrev v : View
  v = view g

  checks : (covers (normal_ones g) (working g) ≡ true) × (some (laden_ones g) ≡ false)
  unfolding quiet
  checks = let b = and_true {s = covers (normal_ones g) (working g)} q in (b.0, not_true_false b.1)

  below_eight : (c : ℕ) → works (state_of g c) ≡ true → c < 8
  below_eight c e = omega (arith, i.core.ground.within c ((i.core.nodes c).placed e), i.core.ground.most)

  pub in_normal : (c : ℕ) → works (state_of g c) ≡ true → state_of g c ≡ Normal
  unfolding normal_ones working
  in_normal c e =
      let l = below_eight c e in
      (in_state (state_of g c) Normal).0
      (sym (those_marked (λ x. is_in x.phase.state Normal) g c l)
      ∙ covers_has (normal_ones g) (working g) checks.0 c l (those_marked (λ x. works x.phase.state) g c l ∙ e))

  -- what holds of failed and of normal holds of each state
  only : (P : State → Type 0) (c : ℕ) → P Failed → P Normal → P (state_of g c)
  only P c f n = go (works (state_of g c)) refl
    where
      go : (t : Bool) → works (state_of g c) ≡ t → P (state_of g c)
      go true e = subst P (sym (in_normal c e)) n
      go false e = subst P (sym (failed_state (state_of g c) e)) f

  pub nobody : (c : ℕ) → in_recovery (state_of g c) ≡ false
  nobody c = only (λ s. in_recovery s ≡ false) c refl refl

  nobody_aware : (c : ℕ) → aware γ.big (v.own c) ≡ true → ⊥
  nobody_aware c a = never (aware_recovers γ.big (v.own c) a) (nobody c)

  pub all_unaware : (c : ℕ) → works (state_of g c) ≡ true → unaware γ.big (v.own c) ≡ true
  all_unaware c e = un_of γ.big (v.own c) e (nobody c)

  -- so no fault is open, the tables are who works, and no save is under way
  pub unfaulted : γ.big.faulted ≡ false
  unfaulted = is_false γ.big.faulted (λ e. let x = i.places.someone e in nobody_aware x.0 x.1)

  pub tab_works : (c : ℕ) → (γ.mind c).tab ≡ works (state_of g c)
  tab_works c = same (γ.mind c).tab (works (state_of g c)) ((i.core.nodes c).present unfaulted) (i.core.nodes c).placed
    where
      same : (s t : Bool) → (s ≡ true → t ≡ true) → (t ≡ true → s ≡ true) → s ≡ t
      same true t f b = sym (f refl)
      same false t f b = sym (is_false t (λ e. never (b e) refl))

  pub not_joined : (c : ℕ) → (γ.mind c).joined ≡ false
  not_joined c =
      is_false (γ.mind c).joined (λ j.
      let e = (i.core.nodes c).present unfaulted ((i.core.nodes c).joined_tab j) in
      never j ((i.core.nodes c).in_normal (all_unaware c e) (in_normal c e)))

  pub not_begun : γ.big.begun ≡ false
  not_begun = sym ((i.core.nodes γ.big.chief).chief_begun refl) ∙ not_joined γ.big.chief

  -- every working cabinet knows the version of the save that the rule gives
  pub all_known : (c : ℕ) → works (state_of g c) ≡ true → (cabinet g c).phase.version ≡ Known γ.big.topv
  all_known c e =
      let known = known_is_known (cabinet g c).phase.version ((i.core.nodes c).unknown_at (all_unaware c e) ∙ rw (in_normal c e)) in
      known ∙ ap Known ((i.core.nodes c).known e (bit_of (cabinet g c).phase.version) known)

  -- nothing is on the way, numbers past the last cabinet included
  pub no_line : (a b : ℕ) → v.lines a b ≡ []
  unfolding laden_ones laden line
  no_line a b = elim (dec_lt a 8) [
    | yes la ↦ elim (dec_lt b 8) [
      | yes lb ↦
          no_packets_lem (line g a b).cells (w.lines a b).packed
          (not-false (none_marked (is_laden (outgoing g a)) (none_marked (has_laden g) checks.1 a la) b lb))
      | no n ↦ (i.core.pairs a b).silent (and_off (works (state_of g a)) _ (rw (gone b (omega arith))))
    ]
    | no n ↦ (i.core.pairs a b).silent (rw (gone a (omega arith)))
  ]
    where
      not-false : {t : Bool} → not t ≡ false → t ≡ true
      not-false {t} e = is_true t (λ f. never (ap not f) e)

      gone : (c : ℕ) → 8 ≤ c → works (state_of g c) ≡ false
      gone c l = is_false (works (state_of g c)) (λ e. let k = below_eight c e in omega arith)

  -- ---- a point is taken

  -- of a working cabinet by its version, of a failed one by the version noted for it
  pub kept_top : (c : ℕ) → image_kept g c ≡ (γ.mind c).top
  kept_top c = go (works (state_of g c)) refl
    where
      go : (t : Bool) → works (state_of g c) ≡ t → image_kept g c ≡ (γ.mind c).top
      go true e = ap (λ (x : Version). slot g (home g c) c (bit_of x)) (all_known c e) ∙ (i.core.nodes c).slot_top ((i.core.nodes c).placed e)
      go false e = (i.core.nodes c).noted (tab_works c ∙ e)

  pub point_keeps : (c : ℕ) → c < g.n → KeptOf g h (image_kept g) c
  point_keeps c l = (
    (λ e. let y = cut_held i past c e in (y.0, y.1, kept_top c ∙ sym y.2)),
    (λ e. past.gone c l (tab_works c ∙ e) ∙ ap just (sym (kept_top c))),
  )

  module _ (name : List ℕ) where
    pub point_image : (c : ℕ) → image_at (point_of g name) c ≡ image_kept g c
    unfolding image_at images_kept
    point_image c = row_all (image_kept g) blank_image (λ k l. blank k l (bit_of (cabinet g k).phase.version)) c
      where
        blank : (k : ℕ) → 8 ≤ k → (t : Bool) → slot g (home g k) k t ≡ blank_image
        blank k l t = slot_past g.store w.frame.store (home g k) k t l

    top_image : (c : ℕ) → image_at (point_of g name) c ≡ (γ.mind c).top
    top_image c = point_image c ∙ kept_top c

    pub point_held : PointHeld g.n total (image_now h) (point_of g name)
    unfolding images_kept
    point_held = record {
      eight = refl;
      held = λ c l. held_now (h.lost c) ((latest h).cut c) (γ.mind c).top (past.tops c l) ∙ ap just (sym (top_image c));
      beyond = λ y c l. ap (booked y) (top_image c) ∙ past.beyond y c l;
      adds = λ y. sum_cong (λ c. booked y (image_at (point_of g name) c)) (λ c. booked y (γ.mind c).top) 8 (λ c l. ap (booked y) (top_image c)) ∙ i.core.sums.tops y;
      sized = λ c. subst Pictured (sym (top_image c)) (i.core.nodes c).sizes.1.0;
    }

    pub keeps_point : {ps : Points} → PointsHeld g.n total ps h.points → ltb (place_for ps name) 4 ≡ true
        → PointsHeld g.n total (with_point ps (place_for ps name) (point_of g name)) (note_point h name).points
    keeps_point held room = one_more held (point_of g name) (image_now h) point_held room

-- ---- the group after a return

module _ {n : ℕ} {total : Party → ℕ} {images : ℕ → Option Image} (g : Group) (w : Fit g) (p : Point) (held : PointHeld n total images p) where
  past_image : (c : ℕ) → 8 ≤ c → image_at p c ≡ blank_image
  unfolding image_at
  past_image c l = get_or-eq_default p.images blank_image {n = c} (omega (arith, held.eight))

  returned_cabinet : (c : ℕ) → cabinet (returned g p) c ≡ with_image (cabinet g c) (image_at p c)
  unfolding cabinet returned
  returned_cabinet c =
      row_all (with_point_image g p) absent
      (λ k l. rw (past_image k l, get_or-eq_default g.cabinets absent {n = k} (omega (arith, w.frame.cabinets)))) c

  returned_slot : (h c : ℕ) (t : Bool) → slot (returned g p) h c t ≡ image_at p c
  unfolding returned
  returned_slot h c t =
      set_slot g.store (of_each (both_slots p)) h c t
      ∙ ap (λ (x : Slots). slot_in x t) (row_all (both_slots p) blank_slots (λ k l. rw (past_image k l) blank_both) c) ∙ either_way t (image_at p c)

  homes_returned : (c : ℕ) → home (returned g p) c ≡ home g c
  unfolding returned
  homes_returned c = set_home g.store (of_each (both_slots p)) c

  present_returned : (c : ℕ) → is_present (returned g p).store c ≡ is_present g.store c
  unfolding returned
  present_returned c = set_present g.store (of_each (both_slots p)) c

  pub states_returned : (c : ℕ) → state_of (returned g p) c ≡ state_of g c
  states_returned c = ap (λ (x : Cabinet). x.phase.state) (returned_cabinet c)

  pub n_returned : (returned g p).n ≡ g.n
  unfolding returned
  n_returned = refl

  pub view_returned : view (returned g p) ≡ v_returned (view g) p
  unfolding returned line outgoing
  view_returned = λ t. record {
    own = λ c. own_of (homes_returned c t) (present_returned c t) (returned_cabinet c t);
    side = fun_ext (λ c. ap side_of (returned_cabinet c)) t;
    lines = (view g).lines;
    slots = fun_ext (λ c. fun_ext (λ x. returned_slot (home (returned g p) c) c x)) t;
    sound = (view g).sound;
  }

  pub fit_returned : Fit (returned g p)
  unfolding returned line outgoing
  fit_returned = record {
    frame = record { cabinets = refl; outs = w.frame.outs; lines = w.frame.lines; store = set_kept g.store w.frame.store (of_each (both_slots p)) refl };
    cabs = λ c. rw (returned_cabinet c) (imaged (cabinet g c) (w.cabs c) (held.sized c));
    lines = w.lines;
    slots = λ h c x. rw (returned_slot h c x) (held.sized c);
  }
    where
      imaged : (c : Cabinet) {m : Image} → Shaped c → Pictured m → Shaped (with_image c m)
      imaged c s m = search

-- ---- a return in a quiet group

module _ (total : Party → ℕ) (g : Group) (h : History) (γ : Ghost) (w : Fit g) (i : Inv g.n total (view g) γ) (past : Past g.n (view g) γ h)
    (q : quiet g ≡ true) (p : Point) (images : ℕ → Option Image) (held : PointHeld g.n total images p) where
  abbrev v' : View
  v' = v_returned (view g) p

  abbrev γ' : Ghost
  γ' = g_returned γ p

  set_books : (c : ℕ) → BooksAt v' γ' c
  set_books c =
      let out : (y : Party) → out_of γ' c y ≡ 0 = λ y. sum_zero (λ d. 0) 8 (λ j l. refl) in
      let got : (y : Party) → got_of γ' c y ≡ 0 = λ y. sum_zero (λ d. 0) 8 (λ j l. refl) in
      record {
        bounded = λ y. omega (arith, out y);
        live = λ u y. (0, omega (arith, out y, got y));
        at_cut = λ a e. absurd (never ((i.core.nodes c).done_joined e) (not_joined total g h γ w i past q c));
      }

  set_inv : Inv g.n total v' γ'
  set_inv = record {
    core = record {
      pairs = λ c d. set_pair (image_at p c) (image_at p d) (no_line total g h γ w i past q c d) (i.core.pairs c d);
      nodes = λ c. set_node (image_at p c) (held.sized c) (not_joined total g h γ w i past q c) (i.core.nodes c);
      books = set_books;
      leads = λ c. let l = i.core.leads c in record { steady = l.steady; moved = l.moved; lives = l.lives; fallen = l.fallen; blank = l.blank };
      ground = i.core.ground;
      chain = record {
        no_commit = i.core.chain.no_commit;
        lives = λ e. absurd (true≢false e);
        alone = λ e. absurd (true≢false e);
        company = λ j d e _. (j, d, e, inl (ap (λ (x : Version). not (is_unknown x)) (all_known total g h γ w i past q j e)));
      };
      sums = record { least = i.core.sums.least; bases = held.adds; tops = held.adds; prevs = λ e. absurd (true≢false e) };
    };
    places = i.places;
    meets = i.meets;
  }

  abbrev h' : History
  h' = note_return (just images) h g

  set_past : Past g.n v' γ' h'
  set_past = record {
    sent = past.sent;
    taken = past.taken;
    damaged = past.damaged;
    hurt = past.hurt;
    cuts = past.cuts;
    no_cut = past.no_cut;
    known = refl;
    tops = λ c l. top_held c l (works (state_of g c));
    balanced = bare_balanced images;
    present = λ c e. ap (λ (t : Bool). cond t none (images c)) (sym (tab_works total g h γ w i past q c) ∙ e);
    gone = λ c l e. ap (λ (t : Bool). cond t none (images c)) (sym (tab_works total g h γ w i past q c) ∙ e) ∙ held.held c l;
    beyond = held.beyond;
    below = λ e. absurd (true≢false e);
    begun = ⊎_elim (λ e. absurd (never e (not_begun total g h γ w i past q))) (λ e. absurd (true≢false e));
    waits = λ c s _. absurd (never s (only total g h γ w i past q (λ s. is_in s Checkpointed ≡ false) c refl refl));
  }
    where
      top_held : (c : ℕ) → c < g.n → (t : Bool) → HeldIn (cond t none (images c)) (bare_cut (images c)) (image_at p c)
      top_held c l true = inr (refl, (record { image = image_at p c; sent = λ j. []; taken = λ j. [] }, ap bare_cut (held.held c l), refl))
      top_held c l false = inl (held.held c l)

  pub keeps_return : Kept total g γ (returned g p) (note_return (just images) h g)
  keeps_return =
      let seen = sym (view_returned g w p held) in
      record {
        ghost = γ';
        inv = subst (λ (x : View). Inv g.n total x γ') seen set_inv;
        past = subst (λ (x : View). Past g.n x γ' h') seen set_past;
        stays = stays_none (view g) γ (view (returned g p)) γ' (λ c. only total g h γ w i past q (λ s. in_recovery s ≡ false) c refl refl)
            (λ c e. ap works (states_returned g w p held c) ∙ e)
            (λ c e. absurd (never (ap (λ (s : State). is_in s Error) (sym (states_returned g w p held c)) ∙ e) (only total g h γ w i past q (λ s. is_in s Error ≡ false) c refl refl)));
      }
