-- The commit, seen at a pair of cabinets: the ghost of every cabinet turns to the new save.
use Prim.Native.Nat.{ℕ}
use mathlib.Core.Path.{◌≡◌, refl, ap, ◌∙◌, subst}
use mathlib.Core.Logic.{inl}
use mathlib.Core.Bool.{Bool, true, false, cond, not, ◌&&◌, false≢true}
use mathlib.Core.List.{List, []}
use native.Mathlib.Omega.{arith}
use Rattle.packet.specs.declared.Packet.{Packet}
use Rattle.state.specs.declared.State.TheVariants.{CheckpBegin, Checkpointed}
use Rattle.state.specs.State.{is_in, works, in_saving}
use Rattle.claims.proofs.State.Fun.{never, is_false, and_true, and_intro}
use Rattle.claims.proofs.State.View.{Own, Side, used}
use Rattle.claims.proofs.State.Methods.{s_marks}
use Rattle.claims.proofs.Answers.Tests.{in_state}
use Rattle.claims.proofs.Invariant.States.{other_state}
use Rattle.claims.proofs.Invariant.Facts.{Big, Mind, Wire, Ghost, Pair, Stream, unaware, linked, behind, closed, count, is_checkp, is_safe}
use Rattle.claims.proofs.Invariant.Logs.{count_none}
use Rattle.claims.proofs.Invariant.Words.{linked_used}

-- ---- the ghost

abbrev pub b_commit : Big → Big
b_commit b = record {
  faulted = b.faulted;
  topv = not b.topv;
  adopted = false;
  chief = b.chief;
  heir = b.heir;
  alive = b.alive;
  begun = false;
  frozen = b.frozen;
  calm = b.calm;
  clean = b.clean;
}

abbrev pub m_commit : Mind → Mind
m_commit m = record {
  tab = m.tab;
  joined = false;
  done = false;
  wrote = false;
  told = false;
  ready = m.ready;
  cut = m.cut;
  base = m.base;
  top = cond m.tab m.cut m.top;
  prev = m.top;
}

abbrev pub g_commit : Ghost → Ghost
g_commit γ = record { big = b_commit γ.big; mind = λ c. m_commit (γ.mind c); wire = γ.wire }

abbrev pub s_unsaved : Side → Side
s_unsaved s = s_marks s s.come false s.restored s.heard s.unsure

-- every cabinet in use has gone through the whole save
abbrev pub Through : Mind → Type 0
Through m = m.tab ≡ true → (m.joined ≡ true) × (m.done ≡ true) × (m.wrote ≡ true) × (m.told ≡ true)

-- ---- the coordinator's marks go first

module _ (b : Big) (c d : ℕ) (o : Own) (m : Mind) (p : Own) (n : Mind) (s t : Side) (l : List Packet) (w : Wire) (h : Pair b c d o m p n s t l w) where
  pub unsaved_from : Pair b c d o m p n (s_unsaved s) t l w
  unsaved_from =
      let re : c ≡ b.chief → in_saving o.state ≡ true → unaware b o ≡ true → ◌≡◌ {A = Bool} false true → (n.wrote ≡ true) × (n.told ≡ true) = λ e f u g. absurd (false≢true g) in
      let be : c ≡ b.chief → is_in o.state CheckpBegin ≡ true → unaware b o ≡ true → ◌≡◌ {A = Bool} false false = λ e f u. refl in
      search

-- ---- the ghost turns

module _ (b : Big) (c d : ℕ) (o : Own) (m : Mind) (p : Own) (n : Mind) (s t : Side) (l : List Packet) (w : Wire) (h : Pair b c d o m p n s t l w)
    (unsaved : c ≡ b.chief → s.saved ≡ false) (mine : unaware b o ≡ true → (m.tab ≡ true) × (o.state ≡ Checkpointed))
    (theirs : unaware b p ≡ true → (n.tab ≡ true) × (p.state ≡ Checkpointed)) (throughM : Through m) (throughN : Through n)
    (toldN : n.wrote ≡ true → n.told ≡ true) where
  -- nothing is on its way from a cabinet that knows of no fault
  pub line_empty : unaware b o ≡ true → l ≡ []
  line_empty un = go (linked m n w) refl
    where
      go : (k : Bool) → linked m n w ≡ k → l ≡ []
      go true k =
          let tabs = and_true {s = m.tab} (and_true {s = w.lk} k).1 in
          h.closed_empty k (rw (throughN tabs.1).1) un
      go false k =
          let off = is_false (used s) (λ us. never (linked_used h un (mine un).0 us) k) in
          h.silent (is_false (works o.state && (works p.state && used s))
          (λ e. never (and_true {s = works p.state} (and_true {s = works o.state} e).1).1 off))

  pub not_closed : closed (b_commit b) p (m_commit n) t ≡ true → ⊥
  not_closed e =
      let parts = and_true {s = is_in p.state CheckpBegin} e in
      let un = (and_true {s = unaware b p} parts.1).0 in
      other_state (theirs un).1 refl ((in_state p.state CheckpBegin).0 parts.0)

  behind_now : unaware b o ≡ true → behind (b_commit b) o (m_commit m) ≡ true
  behind_now un = and_intro un (rw (mine un).1)

  not_waiting : linked m n w ≡ true → unaware b p ≡ true → (m.joined && not (n.joined && t.come)) ≡ false
  not_waiting k up =
      let tabs = and_true {s = m.tab} (and_true {s = w.lk} k).1 in
      rw ((throughM tabs.0).0, (throughN tabs.1).0, h.came k up (rw (theirs up).1))

  pub turned : Pair (b_commit b) c d o (m_commit m) p (m_commit n) s t l w
  turned = record {
    table = h.table;
    struck = h.struck;
    closed_joined = λ k e. absurd (not_closed e);
    closed_equal = λ k e. absurd (not_closed e);
    closed_empty = λ k e. absurd (not_closed e);
    apart = h.apart;
    owes = λ e. let f = h.owes e in absurd (never (toldN f.0) f.1);
    owes_home = h.owes_home;
    reported = λ q f u e. absurd (never e (unsaved q));
    begun_bare = h.begun_bare;
    readied = h.readied;
    ready_heard = h.ready_heard;
    silent = h.silent;
    alarms = h.alarms;
    unheard = h.unheard;
    heard = h.heard;
    heard_of = h.heard_of;
    no_fault = h.no_fault;
    no_checkp = λ u j. ap (count is_checkp) (line_empty u) ∙ count_none is_checkp;
    last_checkp = h.last_checkp;
    behind_empty = λ e. inl (line_empty (and_true {s = unaware b o} e).0);
    resumed = λ k u f. absurd (never (behind_now u) f);
    came = h.came;
    tail_heard = h.tail_heard;
    stream = λ k u up. subst (λ (x : Bool). Stream x t.hurt s.put t.took w l) (not_waiting k up) (h.stream k u up);
    fresh = h.fresh;
    room = λ u. omega (arith, ap (count is_safe) (line_empty u), count_none is_safe);
    sound = h.sound;
    unhurt = h.unhurt;
    no_more = h.no_more;
    small = h.small;
    fit = h.fit;
  }
