-- The invariant holds of every group as it is loaded.
use Prim.Native.Nat.{ℕ, ◌<◌, ◌≤◌}
use mathlib.Core.Path.{◌≡◌, refl, sym, ap, ◌∙◌, subst}
use mathlib.Core.Logic.{inl, inr, ⊎_elim}
use mathlib.Core.Bool.{Bool, true, false, cond, not, ◌&&◌, ◌||◌, true≢false, false≢true}
use mathlib.Core.List.{List, []}
use mathlib.Core.Option.{none, some}
use lib.ListN.{get_or}
use lib.Dec.{ltb, eqb}
use borrow.Author.Tests.{ltb-true, ltb-false, lt-ltb}
use native.Mathlib.Omega.{arith}
use native.Mathlib.Decide.{dec_lt}
use Rattle.marks.specs.Marks.{Marks, marked, no_marks}
use Rattle.marks.specs.Reach.{mark}
use Rattle.packet.specs.declared.Packet.{Packet}
use Rattle.packet.specs.Packet.{start_check}
use Rattle.state.specs.declared.State.{State}
use Rattle.state.specs.declared.State.TheVariants.{Failed, Normal, CheckpBegin, Checkpointing, Checkpointed, Error, Recovering, Recovered, Crashed}
use Rattle.state.specs.declared.Version.{Version}
use Rattle.state.specs.declared.Version.TheVariants.{Known, Unknown}
use Rattle.image.specs.declared.Image.{Image}
use Rattle.cabinet.specs.declared.Cabinet.{Cabinet}
use Rattle.state.specs.State.{is_in, works, in_saving, is_unknown, bit_of}
use Rattle.image.specs.Image.{booked}
use Rattle.cabinet.specs.Cabinet.{absent}
use Rattle.group.specs.declared.Group.{Group}
use Rattle.group.specs.Group.{cabinet, home, slot, rows_of, sum}
use Rattle.load.specs.Load.{feeder_total}
use Rattle.load.specs.Starts.{Starts}
use Rattle.protocol.specs.History.{Cut, at_start, bare_cut}
use Rattle.marks.proofs.Lists.{get_d_in}
use Rattle.outlet.specs.declared.Party.{Party}
use Rattle.outlet.specs.declared.Party.TheVariants.{Buses, Workshop}
use Rattle.claims.proofs.State.Fun.{never, and_true, sum_zero, sum_tail}
use Rattle.claims.proofs.State.View.{Own, Side, view, content}
use Rattle.claims.proofs.State.Shape.{Pictured}
use Rattle.claims.proofs.State.Sim.{Fit}
use Rattle.claims.proofs.State.Methods.{no_marks_lem, all_start}
use Rattle.claims.proofs.Invariant.Facts.{Big, Mind, Wire, Ghost, Pair, Node, Stream, unaware, behind, closed, amounts_in, count, checkp_last, Amounts, Fitting, amount, same, is_checkp, nothing}
use Rattle.claims.proofs.Invariant.Whole.{Inv, PairAt, NodeAt, BooksAt, LeadAt, GroundOf, PlacesOf, ChainOf, work_of, out_of, got_of}
use Rattle.claims.proofs.Invariant.Past.{Past, bare_balanced, quiet_of}
use Rattle.claims.proofs.Invariant.Logs.{check_none, no_checkp_end, count_none}
use Rattle.claims.proofs.Invariant.Words.{un_works}
use Rattle.claims.proofs.Invariant.Reaching.{reach_group}
use Rattle.claims.proofs.Invariant.States.{known_not_lost}
use Rattle.claims.proofs.Invariant.Staying.{Silent}
use Rattle.claims.proofs.State.Leading.{next_one}

-- ---- the ghost at the start

abbrev b₀ : Big
b₀ = record { faulted = false; topv = false; adopted = true; chief = 0; heir = 1; alive = true; begun = false; frozen = false; calm = true; clean = λ y. true }

abbrev m₀ : Bool → Image → Mind
m₀ t x = record { tab = t; joined = false; done = false; wrote = false; told = false; ready = false; cut = x; base = x; top = x; prev = x }

abbrev w₀ : Bool → Wire
w₀ t = record { sent = []; taken = []; ver = 0; out = nothing; got = nothing; hurt = false; lk = t }

-- a cabinet at the start: in normal with version 0, or no cabinet at all
record Ready (tab : Bool) (o : Own) : Type 0 where
  normal : tab ≡ true → o.state ≡ Normal
  version : o.version ≡ Known false
  absent : tab ≡ false → o.state ≡ Failed

record Clear (s : Side) : Type 0 where
  come : s.come ≡ false
  saved : s.saved ≡ false
  restored : s.restored ≡ false
  heard : s.heard ≡ false
  owed : s.owed ≡ false
  hurt : s.hurt ≡ false
  put : s.put ≡ start_check
  took : s.took ≡ start_check

module _ (tab : Bool) (o : Own) (r : Ready tab o) where
  -- what is said of normal and of failed holds of its state
  only : (P : State → Type 0) → P Normal → P Failed → P o.state
  only P n f = go tab refl
    where
      go : (t : Bool) → tab ≡ t → P o.state
      go true e = subst P (sym (r.normal e)) n
      go false e = subst P (sym (r.absent e)) f

  working_tab : works o.state ≡ tab
  working_tab = go tab refl
    where
      go : (t : Bool) → tab ≡ t → works o.state ≡ t
      go true e = ap works (r.normal e)
      go false e = ap works (r.absent e)

module _ (c d : ℕ) (o p : Own) (x y : Image) (s t : Side) (to td lk : Bool) (ro : Ready to o) (rp : Ready td p) (cs : Clear s) (ct : Clear t)
    (tables : to ≡ true → (s.cab ≡ td) × (s.link ≡ lk)) where
  start_stream : Stream false t.hurt s.put t.took (w₀ lk) []
  unfolding amounts_in amount
  start_stream = record {
    equal = refl;
    within = omega arith;
    within_sent = omega arith;
    differ = rw ct.hurt same;
    reads = ct.took ∙ sym check_none;
    writes = cs.put ∙ sym check_none;
    carries = λ v k e. absurd (no_checkp_end [] v k (count_none is_checkp) e);
    on_way = λ e y. refl;
    tells = ct.hurt;
  }

  p_not : (s : State) → is_in Normal s ≡ false → is_in Failed s ≡ false → is_in p.state s ≡ true → ⊥
  p_not s n f e = never e (only td p rp (λ z. is_in z s ≡ false) n f)

  p_free : behind b₀ p (m₀ td y) ≡ true → ⊥
  p_free e = never (and_true {s = unaware b₀ p} e).1 (only td p rp (λ z. ((is_in z Checkpointed && true) || is_in z Recovered) ≡ false) refl refl)

  p_saves : in_saving p.state ≡ true → ⊥
  p_saves e = never e (only td p rp (λ z. in_saving z ≡ false) refl refl)

  o_saves : in_saving o.state ≡ true → ⊥
  o_saves e = never e (only to o ro (λ z. in_saving z ≡ false) refl refl)

  p_open : closed b₀ p (m₀ td y) t ≡ true → ⊥
  p_open e = p_not CheckpBegin refl refl (and_true {s = is_in p.state CheckpBegin} e).0

  start_pair : Pair b₀ c d o (m₀ to x) p (m₀ td y) s t [] (w₀ lk)
  unfolding count checkp_last Amounts Fitting amounts_in amount
  start_pair = record {
    table = λ u. tables (sym (working_tab to o ro) ∙ un_works b₀ o u);
    struck = λ a. absurd (false≢true a);
    closed_joined = λ k e. absurd (p_open e);
    closed_equal = λ k e a. (refl, refl, refl);
    closed_empty = λ k e u. refl;
    apart = λ e. (refl, refl, refl, refl, refl);
    owes = λ e. absurd (never e cs.owed);
    owes_home = λ e. absurd (never e cs.owed);
    reported = λ i e. absurd (o_saves e);
    begun_bare = λ i e u. cs.saved;
    readied = λ a. absurd (false≢true a);
    ready_heard = λ e. absurd (false≢true e);
    silent = λ e. refl;
    alarms = λ a. absurd (false≢true a);
    unheard = λ a. absurd (false≢true a);
    heard = λ e. refl;
    heard_of = λ e. absurd (false≢true e);
    no_fault = λ u. refl;
    no_checkp = λ u f. refl;
    last_checkp = λ u. tt;
    behind_empty = λ e. inl refl;
    resumed = λ k u f e. absurd (p_free e);
    came = λ k u e. absurd (p_saves e);
    tail_heard = λ k u e. absurd (p_not Recovered refl refl e);
    stream = λ k u v. start_stream;
    fresh = λ a. absurd (false≢true a);
    room = λ u. omega arith;
    sound = λ e. refl;
    unhurt = λ e u. ct.hurt;
    no_more = λ y e. omega arith;
    small = (tt, (tt, tt));
    fit = (tt, tt);
  }

module _ (c : ℕ) (o : Own) (x : Image) (t : Bool) (z : Bool → Image) (r : Ready t o) (slot : z false ≡ x) (size : Pictured x) where
  not_in : {A : Type 0} (s : State) → is_in Normal s ≡ false → is_in Failed s ≡ false → is_in s s ≡ true → o.state ≡ s → A
  not_in s n f y e = absurd (never (ap (λ (q : State). is_in q s) e ∙ y) (only t o r (λ q. is_in q s ≡ false) n f))

  unknown_not : {A : Type 0} (v : Bool) → o.version ≡ Unknown v → A
  unknown_not v e = absurd (never (ap is_unknown e) (ap is_unknown r.version))

  start_node : Node b₀ c o (m₀ t x) z
  start_node = record {
    placed = λ w. sym (working_tab t o r) ∙ w;
    present = λ f w. working_tab t o r ∙ w;
    running = only t o r (λ q. is_in q Crashed ≡ false) refl refl;
    quiet = λ f. (only t o r (λ q. is_in q Error ≡ false) refl refl, only t o r (λ q. is_in q Recovering ≡ false) refl refl);
    place_known = λ a. absurd (false≢true a);
    in_normal = λ u e. refl;
    in_begin = λ u e. not_in CheckpBegin refl refl refl e;
    in_checkpointing = λ u e. not_in Checkpointing refl refl refl e;
    in_checkpointed = λ u e. not_in Checkpointed refl refl refl e;
    chief_saved = λ u e. not_in Checkpointed refl refl refl e;
    in_recovered = λ u e. not_in Recovered refl refl refl e;
    in_error = λ a. absurd (false≢true a);
    in_recovering = λ a. absurd (false≢true a);
    restored = λ a. absurd (false≢true a);
    ready_is = λ e. absurd (false≢true e);
    told_wrote = λ e. absurd (false≢true e);
    wrote_done = λ e. absurd (false≢true e);
    done_joined = λ e. absurd (false≢true e);
    joined_tab = λ e. absurd (false≢true e);
    joined_begun = λ e. absurd (false≢true e);
    chief_begun = λ e. refl;
    known = λ w v e. known_false v (sym e ∙ r.version);
    unknown_at = λ u. ap is_unknown r.version ∙ only t o r (λ q. false ≡ (is_in q Checkpointed && not (eqb c 0))) refl refl;
    unknown_aware = λ a. absurd (false≢true a);
    old_joined = λ w v e. unknown_not v e;
    old_before = λ w v e. unknown_not v e;
    knows = λ a. absurd (false≢true a);
    waits = λ e. absurd (true≢false e);
    cut_image = λ a e. absurd (false≢true e);
    gone = λ e. (refl, λ f. refl);
    slot_top = λ e. slot;
    slot_prev = λ e. absurd (true≢false e);
    slot_cut = λ a e. absurd (false≢true e);
    slot_pieces = λ a u e. not_in Checkpointing refl refl refl e;
    noted = λ e. ap (λ (y : Version). z (bit_of y)) r.version ∙ slot;
    sizes = (size, (size, size));
  }
    where
      known_false : (v : Bool) → Known v ≡ Known false → v ≡ false
      known_false true e = let z : ◌≡◌ {A = ℕ} 0 1 = cc in absurd (omega arith)
      known_false false e = refl

-- ---- a loaded group

module _ (f : List ℕ) (g : Group) (st : Starts f g) (fit : Fit g) where
  abbrev tab₀ : ℕ → Bool
  tab₀ c = ltb c g.n

  abbrev γ₀ : Ghost
  γ₀ = record { big = b₀; mind = λ c. m₀ (tab₀ c) (cabinet g c).image; wire = λ c d. w₀ (mark (rows_of g.links) c d) }

  below : (c : ℕ) → tab₀ c ≡ true → c < g.n
  below c e = ltb-true c g.n e

  past_n : (c : ℕ) → tab₀ c ≡ false → g.n ≤ c
  past_n c e = ltb-false c g.n e

  -- what holds of a cabinet of the file and of no cabinet holds of each
  each : (P : Cabinet → Type 0) (c : ℕ) → (c < g.n → P (cabinet g c)) → P absent → P (cabinet g c)
  each P c y n = elim (dec_lt c g.n) [ yes l ↦ y l | no m ↦ subst P (sym (st.past c (omega arith))) n ]

  ready₀ : (c : ℕ) → Ready (tab₀ c) ((view g).own c)
  ready₀ c = record {
    normal = λ e. ap (λ p. p.state) (st.phase c (below c e));
    version = each (λ x. x.phase.version ≡ Known false) c (λ l. ap (λ p. p.version) (st.phase c l)) refl;
    absent = λ e. ap (λ (x : Cabinet). x.phase.state) (st.past c (past_n c e));
  }

  clear₀ : (c d : ℕ) → Clear ((view g).side c d)
  clear₀ c d = record {
    come = each (λ x. marked x.noted.come d ≡ false) c (λ l. ap (λ n. marked n.come d) (st.noted c l) ∙ no_marks_lem d) (no_marks_lem d);
    saved = each (λ x. marked x.noted.saved d ≡ false) c (λ l. ap (λ n. marked n.saved d) (st.noted c l) ∙ no_marks_lem d) (no_marks_lem d);
    restored = each (λ x. marked x.noted.restored d ≡ false) c (λ l. ap (λ n. marked n.restored d) (st.noted c l) ∙ no_marks_lem d) (no_marks_lem d);
    heard = each (λ x. marked x.noted.heard d ≡ false) c (λ l. ap (λ n. marked n.heard d) (st.noted c l) ∙ no_marks_lem d) (no_marks_lem d);
    owed = each (λ x. marked x.owed d ≡ false) c (λ l. ap (λ m. marked m d) (st.owed c l) ∙ no_marks_lem d) (no_marks_lem d);
    hurt = each (λ x. marked x.registers.hurt d ≡ false) c (λ l. ap (λ r. marked r.hurt d) (st.registers c l) ∙ no_marks_lem d) (no_marks_lem d);
    put = each (λ x. get_or x.registers.sent d start_check ≡ start_check) c (λ l. ap (λ r. get_or r.sent d start_check) (st.registers c l) ∙ all_start d) (all_start d);
    took = each (λ x. get_or x.registers.taken d start_check ≡ start_check) c (λ l. ap (λ r. get_or r.taken d start_check) (st.registers c l) ∙ all_start d) (all_start d);
  }

  row_default : (c : ℕ) → c < 8 → get_or (rows_of g.links) c no_marks ≡ get_or (rows_of g.links) c []
  row_default c l = get_d_in (rows_of g.links) c no_marks [] (omega (arith, st.eight_rows))

  tables₀ : (c d : ℕ) → tab₀ c ≡ true → (((view g).side c d).cab ≡ tab₀ d) × (((view g).side c d).link ≡ mark (rows_of g.links) c d)
  tables₀ c d e =
      let l = below c e in (
        ap (λ (m : Marks). marked m d) (st.in_table c l) ∙ st.presence d,
        ap (λ (m : Marks). marked m d) (st.own_links c l ∙ row_default c (omega (arith, st.most))),
      )

  empty₀ : (c d : ℕ) → (view g).lines c d ≡ []
  unfolding content
  empty₀ c d = ap (λ l. content l.cells) (st.empty c d)

  pairs₀ : (c d : ℕ) → PairAt (view g) γ₀ c d
  pairs₀ c d =
      subst (λ (l : List Packet). Pair b₀ c d ((view g).own c) (γ₀.mind c) ((view g).own d) (γ₀.mind d) ((view g).side c d) ((view g).side d c) l (γ₀.wire c d)) (sym (empty₀ c d))
      (start_pair c d ((view g).own c) ((view g).own d) (cabinet g c).image (cabinet g d).image ((view g).side c d) ((view g).side d c) (tab₀ c) (tab₀ d)
      (mark (rows_of g.links) c d) (ready₀ c) (ready₀ d) (clear₀ c d) (clear₀ d c) (tables₀ c d))

  slots₀ : (c : ℕ) → slot g (home g c) c false ≡ (cabinet g c).image
  slots₀ c = elim (dec_lt c g.n) [
    | yes l ↦ st.slot_zero (home g c) c l
    | no m ↦ st.slot_past (home g c) c false (omega arith) ∙ ap (λ (x : Cabinet). x.image) (sym (st.past c (omega arith)))
  ]

  nodes₀ : (c : ℕ) → NodeAt (view g) γ₀ c
  nodes₀ c = start_node c ((view g).own c) (cabinet g c).image (tab₀ c) (slot g (home g c) c) (ready₀ c) (slots₀ c) (fit.cabs c).image

  nothing_out : (c : ℕ) (y : Party) → out_of γ₀ c y ≡ 0
  nothing_out c y = sum_zero (λ d. 0) 8 (λ j l. refl)

  nothing_got : (c : ℕ) (y : Party) → got_of γ₀ c y ≡ 0
  nothing_got c y = sum_zero (λ d. 0) 8 (λ j l. refl)

  books₀ : (c : ℕ) → BooksAt (view g) γ₀ c
  books₀ c = record {
    bounded = λ y. omega (arith, nothing_out c y);
    live = λ u y. (0, omega (arith, nothing_out c y, nothing_got c y));
    at_cut = λ a e. absurd (false≢true e);
  }

  works₀ : (c : ℕ) → work_of (view g) c ≡ tab₀ c
  works₀ c = working_tab (tab₀ c) ((view g).own c) (ready₀ c)

  -- every table names cabinet 0
  leads₀ : (c : ℕ) → LeadAt (view g) γ₀ c
  leads₀ c = record {
    steady = λ u.
        let l = below c (sym (works₀ c) ∙ un_works b₀ ((view g).own c) u) in
        ap (λ (x : Cabinet). x.table.lead) (st.starting c l);
    moved = λ a. absurd (false≢true a);
    lives = λ k e. (ap (work_of (view g)) k ∙ works₀ 0 ∙ lt-ltb 0 g.n (omega (arith, st.least)), λ a. absurd (false≢true a));
    fallen = λ k e. absurd (true≢false e);
    blank = λ w e. absurd (known_not_lost (sym (ready₀ c).version ∙ e));
  }

  sound₀ : rows_of g.sound ≡ rows_of g.links
  sound₀ = ap rows_of st.all_sound

  ground₀ : GroundOf g.n (view g) γ₀
  ground₀ = record {
    most = st.most;
    within = below;
    chief_in = lt-ltb 0 g.n (omega (arith, st.least));
    heir_is = sym (next_one tab₀ (lt-ltb 1 g.n (omega (arith, st.least))));
    link_both = st.both_ways;
    link_other = st.not_self;
    sound_both = λ c d. rw sound₀ (st.both_ways c d);
    sound_links = λ c d e. sym (ap (λ r. mark r c d) sound₀) ∙ e;
    home_present = st.home_present;
    present_works = λ c e. works₀ c ∙ lt-ltb c g.n (st.present_below c e);
    reach = reach_group g (rows_of g.sound) st.joined (λ c e. omega (arith, below c (sym (works₀ c) ∙ e), st.most)) (λ c d. rw sound₀ (st.both_ways c d));
    others_work = λ e. absurd (true≢false e);
    others_reach = λ e. absurd (true≢false e);
    other = λ e. absurd (true≢false e);
  }

  places₀ : PlacesOf (view g) γ₀
  places₀ = record {
    standing = λ e c d. sym (ap (λ r. mark r c d) sound₀);
    failed_for = λ x t w. absurd (never t (sym (works₀ x) ∙ w));
    faulty_for = λ x y l t s. absurd (never t (sym (ap (λ r. mark r x y) sound₀) ∙ s));
    someone = λ e. absurd (false≢true e);
    from_one = λ c e. absurd (false≢true e);
  }

  chain₀ : ChainOf (view g) γ₀
  chain₀ = record {
    no_commit = λ e. absurd (false≢true e);
    lives = λ e. refl;
    alone = λ e. absurd (true≢false e);
    company = λ j d w x. (j, d, w, inl (ap (λ (y : Version). not (is_unknown y)) (ready₀ j).version));
  }

  image_past : (y : Party) (c : ℕ) → g.n ≤ c → booked y (cabinet g c).image ≡ 0
  image_past Buses c l = ap (λ (x : Cabinet). booked Buses x.image) (st.past c l)
  image_past Workshop c l = ap (λ (x : Cabinet). booked Workshop x.image) (st.past c l)

  total₀ : (y : Party) → sum (λ c. booked y (cabinet g c).image) 8 ≡ feeder_total f y
  total₀ y = sum_tail (λ c. booked y (cabinet g c).image) g.n 8 st.most (image_past y) ∙ st.total y

  pub starts_inv : Inv g.n (feeder_total f) (view g) γ₀
  starts_inv = record {
    core = record {
      pairs = pairs₀;
      nodes = nodes₀;
      books = books₀;
      leads = leads₀;
      ground = ground₀;
      chain = chain₀;
      sums = record { least = λ y. omega (arith, st.total_most y); bases = total₀; tops = total₀; prevs = λ e. absurd (true≢false e) };
    };
    places = places₀;
    meets = λ c d w u.
        works₀ d ∙ sym (tables₀ c d (sym (works₀ c) ∙ w)).0 ∙ (and_true {s = ((view g).side c d).link} u).1;
  }

  pub starts_silent : Silent (view g)
  starts_silent c e = absurd (never e (quiet_of starts_inv c refl))

  abbrev first : ℕ → Cut
  first c = record { image = (cabinet g c).image; sent = λ j. []; taken = λ j. [] }

  pub starts_past : Past g.n (view g) γ₀ (at_start g)
  starts_past = record {
    sent = λ c d. refl;
    taken = λ c d. refl;
    damaged = λ y. refl;
    hurt = λ c d. refl;
    cuts = λ e c d. absurd (false≢true d);
    no_cut = λ e b. absurd (false≢true b);
    known = refl;
    tops = λ c l. inr (refl, (first c, ap (λ (t : Bool). bare_cut (cond t (some (cabinet g c).image) none)) (lt-ltb c g.n l), refl));
    balanced = bare_balanced (λ i. cond (ltb i g.n) (some (cabinet g i).image) none);
    present = λ c e. refl;
    gone = λ c l e. absurd (never (lt-ltb c g.n l) e);
    beyond = image_past;
    below = λ e. absurd (true≢false e);
    begun = ⊎_elim (λ e. absurd (false≢true e)) (λ e. absurd (true≢false e));
    waits = λ c s j. absurd (never s (only (tab₀ c) ((view g).own c) (ready₀ c) (λ (x : State). is_in x Checkpointed ≡ false) refl refl));
  }
