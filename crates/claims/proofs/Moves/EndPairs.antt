-- The end of a recovery, for a pair of cabinets: every working cabinet is recovered, has the one fault place and has heard its
-- neighbours, so with the fault forgotten every pair starts anew. The coordinator's own change comes after it.
use Rattle.std.specs.Prelude.{Some}
use Prim.Native.Nat.{ℕ}
use mathlib.Core.Path.{◌≡◌, refl, sym, ap, ◌∙◌, subst}
use mathlib.Core.Logic.{inl, inr, ⊎_elim}
use mathlib.Core.Bool.{Bool, true, false, cond, not, ◌&&◌, false≢true}
use mathlib.Core.List.{List, [], ◌∷◌, ◌++◌}
use native.Mathlib.Omega.{arith}
use Rattle.packet.specs.declared.Place.{Place}
use Rattle.packet.specs.declared.Packet.{Packet}
use Rattle.packet.specs.declared.Packet.TheVariants.{Recover, Fault}
use Rattle.packet.specs.Packet.{start_check}
use Rattle.state.specs.declared.State.{State}
use Rattle.state.specs.declared.State.TheVariants.{CheckpBegin, Recovered}
use Rattle.state.specs.declared.Version.{Version}
use Rattle.state.specs.State.{is_in, works, in_saving}
use Rattle.claims.proofs.State.Fun.{never, and_true, and_intro}
use Rattle.claims.proofs.State.View.{Own, Side, used}
use Rattle.claims.proofs.State.Methods.{hits_cabinet, hits_link}
use Rattle.claims.proofs.Invariant.Facts.{Big, Mind, Wire, Pair, Stream, Alarms, aware, unaware, linked, behind, closed, amounts_in, count, is_fault, Amounts, Fitting, same, amount, nothing}
use Rattle.claims.proofs.Invariant.Logs.{check_none, Short, Bare, short_bare, no_checkp_end}
use Rattle.claims.proofs.Invariant.Words.{un_works, un_not_aware}

-- ---- the ghost as a recovery's end leaves it

abbrev pub b_end : Big → ℕ → ℕ → Big
b_end b k x = record { faulted = false; topv = b.topv; adopted = true; chief = k; heir = x; alive = true; begun = false; frozen = false; calm = true; clean = λ y. true }

abbrev pub m_end : Mind → Bool → Mind
m_end m t = record {
  tab = t;
  joined = false;
  done = false;
  wrote = false;
  told = false;
  ready = false;
  cut = m.cut;
  base = m.top;
  top = m.top;
  prev = m.prev;
}

abbrev pub w_end : Bool → Wire
w_end t = record { sent = []; taken = []; ver = 0; out = nothing; got = nothing; hurt = false; lk = t }

-- ---- what is left on a line: at most a recover

left_of : (v : Version) (q : Place) (l : List Packet) → Alarms v q l → count is_fault l ≡ 0 → Short l
unfolding count
left_of v q l a z = go a.faults a.recovers a.is
  where
    go : (f r : Bool) → l ≡ cond f (Fault q ∷ []) [] ++ cond r (Recover a.value ∷ []) [] → Short l
    go true r e = absurd (omega (arith, ap (count is_fault) e))
    go false true e = inr (a.value, e)
    go false false e = inl e

-- ---- a cabinet at the end of a recovery: failed, or recovered with place q

pub record Done (b : Big) (q : Place) (o : Own) (m : Mind) : Type 0 where
  pub knows : works o.state ≡ true → aware b o ≡ true
  pub recovered : works o.state ≡ true → o.state ≡ Recovered
  pub place : works o.state ≡ true → o.alarm ≡ Some q
  pub ready : works o.state ≡ true → m.ready ≡ true

module _ (b : Big) (k x : ℕ) (q : Place) (c d : ℕ) (o : Own) (m : Mind) (p : Own) (n : Mind) (s t : Side) (l : List Packet) (w : Wire)
    (h : Pair b c d o m p n s t l w) (co : Done b q o m) (pd : Done b q p n) (sound : Bool)
    (tabs : (n.tab && not (hits_cabinet q d)) ≡ works p.state) (links : (w.lk && not (hits_link q c d)) ≡ sound)
    (back : works p.state ≡ true → works o.state ≡ true → sound ≡ true → used t ≡ true)
    (fresh-back : works p.state ≡ true → (t.put ≡ start_check) × (t.took ≡ start_check) × (t.hurt ≡ false)) where
  abbrev b' : Big
  b' = b_end b k x

  o_works : unaware b' o ≡ true → works o.state ≡ true
  o_works = un_works b' o

  p_works : unaware b' p ≡ true → works p.state ≡ true
  p_works = un_works b' p

  table' : works o.state ≡ true → (s.cab ≡ works p.state) × (s.link ≡ sound)
  table' wo =
      let f = h.struck (co.knows wo) q (co.place wo) in
      (f.0 ∙ tabs, f.1 ∙ links)

  heard_it : works o.state ≡ true → works p.state ≡ true → used t ≡ true → (aware b p && t.heard) ≡ true
  heard_it wo wp u = and_intro (pd.knows wp) (h.ready_heard (pd.ready wp) u)

  left : works o.state ≡ true → Short l
  left wo = go (works p.state && used s) refl
    where
      go : (x : Bool) → (works p.state && used s) ≡ x → Short l
      go true e =
          let u = and_true {s = works p.state} e in
          let v = and_true {s = s.link} {t = s.cab} u.1 in
          left_of o.version q l (h.alarms (co.knows wo) q (co.place wo))
          (h.heard (heard_it wo u.0 (back u.0 wo (sym (table' wo).1 ∙ v.0))))
      go false e = inl (h.silent (rw (wo, e)))

  bare : Bare l
  bare = go (works o.state) refl
    where
      go : (x : Bool) → works o.state ≡ x → Bare l
      go true e = short_bare false l (left e)
      go false e = short_bare false l (inl (h.silent (rw e)))

  o_behind : unaware b' o ≡ true → behind b' o (m_end m true) ≡ true
  o_behind u = and_intro u (rw (co.recovered (o_works u)))

  p_state : (x : State) → is_in Recovered x ≡ false → unaware b' p ≡ true → is_in p.state x ≡ true → ⊥
  p_state x n u e = never (subst (λ (y : State). is_in y x ≡ true) (pd.recovered (p_works u)) e) n

  p_saving : unaware b' p ≡ true → in_saving p.state ≡ true → ⊥
  p_saving u e = false≢true (subst (λ (y : State). in_saving y ≡ true) (pd.recovered (p_works u)) e)

  o_saving : unaware b' o ≡ true → in_saving o.state ≡ true → ⊥
  o_saving u e = false≢true (subst (λ (y : State). in_saving y ≡ true) (co.recovered (o_works u)) e)

  o_begin : unaware b' o ≡ true → is_in o.state CheckpBegin ≡ true → ⊥
  o_begin u e = false≢true (subst (λ (y : State). is_in y CheckpBegin ≡ true) (co.recovered (o_works u)) e)

  open_yet : closed b' p (m_end n (works p.state)) t ≡ true → ⊥
  open_yet e =
      let f = and_true {s = is_in p.state CheckpBegin} e in
      p_state CheckpBegin refl (and_true {s = unaware b' p} f.1).0 f.0

  streams : unaware b' o ≡ true → unaware b' p ≡ true → Stream false t.hurt s.put t.took (w_end sound) l
  unfolding amount
  streams u v =
      let wo = o_works u in
      let f = h.fresh (co.knows wo) (rw (co.recovered wo)) in
      let e = fresh-back (p_works v) in
      record {
        equal = refl;
        within = omega arith;
        within_sent = omega arith;
        differ = rw (e.2, bare.none) same;
        reads = e.1 ∙ sym check_none;
        writes = f.0 ∙ sym check_none;
        carries = λ x j y. absurd (no_checkp_end l x j bare.checkps y);
        on_way = λ x y. omega (arith, ap (amount y) bare.none);
        tells = e.2;
      }

  owed_none : s.owed ≡ true → ⊥
  owed_none e =
      let u = (h.owes e).2 in
      un_not_aware b o u (co.knows (un_works b o u))

  pub ended_pair : Pair b' c d o (m_end m (works o.state)) p (m_end n (works p.state)) s t l (w_end sound)
  unfolding Amounts Fitting amount
  ended_pair = record {
    table = λ u. table' (o_works u);
    struck = λ a. absurd (false≢true a);
    closed_joined = λ j e. absurd (open_yet e);
    closed_equal = λ j e a. absurd (open_yet e);
    closed_empty = λ j e u. absurd (open_yet e);
    apart = λ e. (refl, refl, refl, refl, refl);
    owes = λ e. absurd (owed_none e);
    owes_home = h.owes_home;
    reported = λ i e u. absurd (o_saving u e);
    begun_bare = λ i e u. absurd (o_begin u e);
    readied = λ a. absurd (false≢true a);
    ready_heard = λ e. absurd (false≢true e);
    silent = h.silent;
    alarms = λ a. absurd (false≢true a);
    unheard = λ a. absurd (false≢true a);
    heard = λ e. absurd (false≢true e);
    heard_of = λ e. absurd (false≢true e);
    no_fault = λ u. bare.faults;
    no_checkp = λ u f. bare.checkps;
    last_checkp = λ u. bare.last;
    behind_empty = λ e. ⊎_elim (λ x. inl x) (λ x. inr (x.0, rw (co.recovered (behind_works e)), x.1)) (left (behind_works e));
    resumed = λ j u f e. absurd (never (o_behind u) f);
    came = λ j u e. absurd (p_saving u e);
    tail_heard = λ j u e. (and_true {s = aware b p} (heard_it (linked_works j) (p_works u) (back (p_works u) (linked_works j) (and_true {s = sound} j).0))).1;
    stream = λ j u v. streams u v;
    fresh = λ a. absurd (false≢true a);
    room = λ u. omega (arith, bare.safe);
    sound = λ e. bare.invalids;
    unhurt = λ e u. (fresh-back (p_works u)).2;
    no_more = λ y e. omega (arith, ap (amount y) bare.none);
    small = (tt, (tt, small_line));
    fit = (tt, tt);
  }
    where
      behind_works : behind b' o (m_end m (works o.state)) ≡ true → works o.state ≡ true
      behind_works e = o_works (and_true {s = unaware b' o} e).0

      linked_works : linked (m_end m (works o.state)) (m_end n (works p.state)) (w_end sound) ≡ true → works o.state ≡ true
      linked_works e = (and_true {s = works o.state} (and_true {s = sound} e).1).0

      small_line : Amounts (amounts_in l)
      small_line = h.small.1.1
