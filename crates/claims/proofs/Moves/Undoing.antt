-- The coordinator fails or trips. While it alone knew of the newest save the commit is undone: that save is the one under way again, written by
-- all, and the rule gives the one before. Facts about a pair and about one cabinet.
use Prim.Native.Nat.{ℕ, ◌*◌}
use mathlib.Core.Path.{◌≡◌, refl, sym, ap, ◌∙◌, subst}
use mathlib.Core.Logic.{◌≢◌, inl, inr, ⊎_elim}
use mathlib.Core.Bool.{Bool, true, false, not, ◌&&◌, ◌||◌, false≢true, true≢false}
use mathlib.Core.List.{List, []}
use borrow.Author.Tests.{ne_eqb}
use native.Mathlib.Omega.{arith}
use Rattle.outlet.specs.declared.Party.{Party}
use Rattle.packet.specs.declared.Packet.{Packet}
use Rattle.state.specs.declared.State.{State}
use Rattle.state.specs.declared.State.TheVariants.{Normal, CheckpBegin, Checkpointing, Checkpointed, Error, Recovered}
use Rattle.state.specs.declared.Version.TheVariants.{Unknown, Lost}
use Rattle.image.specs.declared.Image.{Image}
use Rattle.state.specs.State.{is_in, works, is_unknown}
use Rattle.claims.proofs.State.Fun.{never, is_false, and_true, and_intro, or_right}
use Rattle.claims.proofs.State.View.{Own, Side}
use Rattle.claims.proofs.Answers.Tests.{in_state}
use Rattle.claims.proofs.Invariant.States.{other_state, unknown_not_lost}
use Rattle.claims.proofs.Invariant.Facts.{Big, Mind, Wire, Ghost, Pair, Node, Books, Stream, SameTo, aware, unaware, linked, behind, closed, count, is_checkp, checkp_last}
use Rattle.claims.proofs.Invariant.Words.{un_works, un_or_aware}

abbrev pub b_lost : Big → Big
b_lost b = record {
  faulted = b.faulted;
  topv = b.topv;
  adopted = b.adopted;
  chief = b.chief;
  heir = b.heir;
  alive = false;
  begun = b.begun;
  frozen = b.frozen;
  calm = b.calm;
  clean = b.clean;
}

abbrev pub b_undo : Big → Big
b_undo b = record {
  faulted = b.faulted;
  topv = not b.topv;
  adopted = true;
  chief = b.chief;
  heir = b.heir;
  alive = false;
  begun = true;
  frozen = b.frozen;
  calm = b.calm;
  clean = b.clean;
}

abbrev pub m_undo : Mind → Mind
m_undo m = record {
  tab = m.tab;
  joined = m.tab;
  done = m.tab;
  wrote = m.tab;
  told = false;
  ready = m.ready;
  cut = m.top;
  base = m.base;
  top = m.prev;
  prev = m.prev;
}

abbrev pub g_lost : Ghost → Ghost
g_lost γ = record { big = b_lost γ.big; mind = γ.mind; wire = γ.wire }

abbrev pub g_undo : Ghost → Ghost
g_undo γ = record { big = b_undo γ.big; mind = λ c. m_undo (γ.mind c); wire = γ.wire }

-- ---- only the coordinator is lost

pub lost_pair : (b : Big) (c d : ℕ) (o : Own) (m : Mind) (p : Own) (n : Mind) (s t : Side) (l : List Packet) (w : Wire)
    → Pair b c d o m p n s t l w → Pair (b_lost b) c d o m p n s t l w
lost_pair b c d o m p n s t l w h =
    let e : linked m n w ≡ true → closed b p n t ≡ true → false ≡ true → (w.sent ≡ w.taken) × (w.out ≡ w.got) × (w.hurt ≡ false) = λ k f a. absurd (false≢true a) in
    search

pub lost_node : (b : Big) (c : ℕ) (o : Own) (m : Mind) (z : Bool → Image) → Node b c o m z → Node (b_lost b) c o m z
lost_node b c o m z h =
    let e : false ≡ true → m.done ≡ true → unaware b o ≡ true → o.image ≡ m.cut = λ a. absurd (false≢true a) in
    let f : false ≡ true → m.wrote ≡ true → z (not b.topv) ≡ m.cut = λ a. absurd (false≢true a) in
    let g : false ≡ true → unaware b o ≡ true → o.state ≡ Checkpointing → SameTo (8 * o.pieces) (z (not b.topv)) m.cut = λ a. absurd (false≢true a) in
    search

pub lost_books : (b : Big) (o : Own) (m : Mind) (out got : Party → ℕ) → Books b o m out got → Books (b_lost b) o m out got
lost_books b o m out got h = record { bounded = h.bounded; live = h.live; at_cut = λ a. absurd (false≢true a) }

-- ---- the commit is undone

-- whoever is not aware of the fault waits for the resume; the coordinator has failed, or is in error with its version lost
abbrev pub Waiting : Big → ℕ → Own → Mind → Type 0
Waiting b c o m = unaware b o ≡ true → (c ≢ b.chief) × (m.joined ≡ false) × (o.state ≡ Checkpointed)

abbrev pub Tripped : Big → Own → Type 0
Tripped b o = aware b o ≡ true → (o.state ≡ Error) × (o.version ≡ Lost)

module _ (b : Big) (c d : ℕ) (o : Own) (m : Mind) (p : Own) (n : Mind) (s t : Side) (l : List Packet) (w : Wire) (h : Pair b c d o m p n s t l w)
    (here : Waiting b c o m) (there : Waiting b d p n)
    (tab : works o.state ≡ true → m.tab ≡ true) (tab' : works p.state ≡ true → n.tab ≡ true)
    (wrote : n.wrote ≡ true → n.tab ≡ true) where
  -- a cabinet that waits has put nothing on its lines
  none_put : unaware b o ≡ true → l ≡ []
  none_put un =
      let x = here un in
      ⊎_elim (λ e. e) (λ e. absurd (other_state x.2 refl ((in_state o.state Recovered).0 e.1)))
      (h.behind_empty (and_intro un (waits _ _ _ ((in_state o.state Checkpointed).1 x.2) x.1)))
    where
      waits : (f g j : Bool) → f ≡ true → j ≡ false → ((f && not j) || g) ≡ true
      waits f g j e k = rw (e, k)

  not_behind : behind b p (m_undo n) ≡ true → ⊥
  not_behind e =
      let u = and_true {s = unaware b p} e in
      let x = there u.0 in
      never u.1 (neither (is_in p.state Checkpointed) _ _ (tab' (un_works b p u.0))
      (is_false _ (λ r. other_state x.2 refl ((in_state p.state Recovered).0 r))))
    where
      neither : (f g j : Bool) → j ≡ true → g ≡ false → ((f && not j) || g) ≡ false
      neither true g j e k = rw (e, k)
      neither false g j e k = k

  -- all have joined and compared: the sender's register is as it was
  undone_stream : linked m n w ≡ true → unaware b o ≡ true → unaware b p ≡ true
      → Stream (m.tab && not (n.tab && t.come)) t.hurt s.put t.took w l
  undone_stream k un up =
      let x = here un in
      let y = there up in
      let co : t.come ≡ true = h.came k up (or_right (is_in p.state Checkpointing) _ ((in_state p.state Checkpointed).1 y.2)) in
      subst (λ (q : Bool). Stream q t.hurt s.put t.took w l)
      (ap (λ (q : Bool). q && not (n.joined && t.come)) x.1 ∙ sym (rw (tab (un_works b o un), tab' (un_works b p up), co)))
      (h.stream k un up)

  pub undone_pair : Pair (b_undo b) c d o (m_undo m) p (m_undo n) s t l w
  unfolding count checkp_last
  undone_pair = record {
    table = h.table;
    struck = h.struck;
    closed_joined = λ k e. (and_true {s = m.tab} (and_true {s = w.lk} k).1).0;
    closed_equal = λ k e a. absurd (false≢true a);
    closed_empty = λ k e u. none_put u;
    apart = h.apart;
    owes = λ e. (wrote (h.owes e).0, refl, (h.owes e).2);
    owes_home = h.owes_home;
    reported = λ e i u. absurd ((here u).0 e);
    begun_bare = λ e i u. absurd ((here u).0 e);
    readied = h.readied;
    ready_heard = h.ready_heard;
    silent = h.silent;
    alarms = h.alarms;
    unheard = h.unheard;
    heard = h.heard;
    heard_of = h.heard_of;
    no_fault = h.no_fault;
    no_checkp = λ u e. ap (count is_checkp) (none_put u);
    last_checkp = h.last_checkp;
    behind_empty = λ e. inl (none_put (and_true {s = unaware b o} e).0);
    resumed = λ k u e f. absurd (not_behind f);
    came = h.came;
    tail_heard = h.tail_heard;
    stream = undone_stream;
    fresh = h.fresh;
    room = λ u. rw (none_put u) (omega arith);
    sound = h.sound;
    unhurt = h.unhurt;
    no_more = h.no_more;
    small = h.small;
    fit = h.fit;
  }

module _ (b : Big) (c : ℕ) (o : Own) (m : Mind) (z : Bool → Image) (h : Node b c o m z) (here : Waiting b c o m)
    (lost : Tripped b o) (not_yet : b.adopted ≡ false) (chief : c ≡ b.chief → m.tab ≡ true) (uncut : c ≡ b.chief → m.done ≡ false) where
  not_in : (s : State) → is_in Checkpointed s ≡ false → unaware b o ≡ true → o.state ≡ s → ⊥
  not_in s f u e = other_state (here u).2 f e

  in_doubt : works o.state ≡ true → is_unknown o.version ≡ true
  in_doubt e =
      ⊎_elim (λ u. let x = here u in
      h.unknown_at u ∙ and_intro ((in_state o.state Checkpointed).1 x.2) (ap not (ne_eqb c b.chief x.0)))
      (λ a. ap is_unknown (lost a).1) (un_or_aware b o e)

  -- whoever has an old version waits
  old_waits : works o.state ≡ true → (v : Bool) → o.version ≡ Unknown v → unaware b o ≡ true
  old_waits e v k = ⊎_elim (λ u. u) (λ a. absurd (unknown_not_lost (sym k ∙ (lost a).1))) (un_or_aware b o e)

  pub undone_node : Node (b_undo b) c o (m_undo m) z
  undone_node = record {
    placed = h.placed;
    present = h.present;
    running = h.running;
    quiet = h.quiet;
    place_known = h.place_known;
    in_normal = λ u e. absurd (not_in Normal refl u e);
    in_begin = λ u e. absurd (not_in CheckpBegin refl u e);
    in_checkpointing = λ u e. absurd (not_in Checkpointing refl u e);
    in_checkpointed = λ u e. inr (h.placed (un_works b o u));
    chief_saved = λ u e k. h.placed (un_works b o u);
    in_recovered = λ u e. absurd (not_in Recovered refl u e);
    in_error = h.in_error;
    in_recovering = λ a e. absurd (other_state (lost a).0 refl e);
    restored = λ a e. absurd (other_state (lost a).0 refl e);
    ready_is = h.ready_is;
    told_wrote = λ e. absurd (false≢true e);
    wrote_done = λ e. e;
    done_joined = λ e. e;
    joined_tab = λ e. e;
    joined_begun = λ e. refl;
    chief_begun = chief;
    known = λ e v k. absurd (never (in_doubt e) (ap is_unknown k));
    unknown_at = h.unknown_at;
    unknown_aware = h.unknown_aware;
    old_joined = λ e v k j. (h.placed e, h.old_before e v k (here (old_waits e v k)).1);
    old_before = λ e v k j. absurd (never (h.placed e) j);
    knows = h.knows;
    waits = λ e. absurd (true≢false e);
    cut_image = λ a. absurd (false≢true a);
    gone = λ e. let x = h.gone e in (x.0 ∙ sym (x.1 not_yet), λ a. absurd (true≢false a));
    slot_top = λ e. h.slot_prev not_yet e uncut;
    slot_prev = λ e. absurd (true≢false e);
    slot_cut = λ a. absurd (false≢true a);
    slot_pieces = λ a. absurd (false≢true a);
    noted = λ e. h.noted e ∙ sym ((h.gone e).1 not_yet);
    sizes = (h.sizes.1.0, (h.sizes.1.1, h.sizes.1.1));
  }

pub undone_books : (b : Big) (o : Own) (m : Mind) (out got : Party → ℕ) → Books b o m out got → Books (b_undo b) o (m_undo m) out got
undone_books b o m out got h = record { bounded = h.bounded; live = h.live; at_cut = λ a. absurd (false≢true a) }
