-- What a step leaves of the cabinets that are aware of a fault, and the reports of unsure ones (F5, F7). The reports stand beside the
-- invariant: a step that is none of them and decides nothing owes `Stays`, and from that they are kept.
use Prim.Native.Nat.{ℕ}
use mathlib.Core.Path.{◌≡◌, refl, sym, ap, ◌∙◌}
use mathlib.Core.Logic.{◌≢◌}
use mathlib.Core.Bool.{Bool, true, false}
use native.Mathlib.Decide.{ℕ_discrete}
use Rattle.state.specs.declared.State.{State}
use Rattle.state.specs.declared.State.TheVariants.{Error}
use Rattle.state.specs.State.{is_in, works, in_recovery, is_unknown}
use Rattle.protocol.specs.History.{upd}
use Rattle.claims.proofs.State.Fun.{never, is_true, is_false, and_true, and_intro, upd_same, upd_other}
use Rattle.claims.proofs.State.View.{View, Own, Side}
use Rattle.claims.proofs.Invariant.States.{error_recovers}
use Rattle.claims.proofs.Invariant.Facts.{Ghost, unaware}
use Rattle.claims.proofs.Invariant.Whole.{aware_of, work_of}
use Rattle.claims.proofs.Invariant.Words.{un_not_aware, un_works, aware_works}

-- ---- what a step leaves

-- what a step does to whether there is a fault: it stays, and one comes only where nobody is in error, recovering or recovered
abbrev pub Faults : View → Ghost → Ghost → Type 0
Faults v γ δ = (γ.big.faulted ≡ true → δ.big.faulted ≡ true) × (γ.big.faulted ≡ false → δ.big.faulted ≡ true → (c : ℕ) → in_recovery (v.own c).state ≡ false)

-- nothing, where what is said of it before and after is the same
pub no_fault_lem : {t : Bool} {A : Type 0} → (t ≡ true → t ≡ true) × (t ≡ false → t ≡ true → A)
no_fault_lem = (λ f. f, λ f e. absurd (never e f))

-- who is aware of a fault stays so, for its place and with its lead; who has failed stays failed
pub record Goes (v : View) (γ : Ghost) (w : View) (δ : Ghost) : Type 0 where
  pub first : γ.big.faulted ≡ false → δ.big.faulted ≡ true → (c : ℕ) → in_recovery (v.own c).state ≡ false
  pub on : (c : ℕ) → aware_of v γ c ≡ true
      → (aware_of w δ c ≡ true) × ((w.own c).alarm ≡ (v.own c).alarm) × ((w.own c).lead ≡ (v.own c).lead) × ((w.own c).former ≡ (v.own c).former)
  pub gone : (c : ℕ) → work_of v c ≡ false → work_of w c ≡ false

-- some cabinet that is aware of a fault knows its version
abbrev pub SomeKnows : View → Ghost → Type 0
SomeKnows v γ = (x : ℕ) × (aware_of v γ x ≡ true) × (is_unknown (v.own x).version ≡ false)

-- and no report comes, nor does a cabinet in error go on where nobody knows
pub record Stays (v : View) (γ : Ghost) (w : View) (δ : Ghost) : Type 0 where
  pub goes : Goes v γ w δ
  pub knows : (c : ℕ) → aware_of v γ c ≡ true → is_unknown (v.own c).version ≡ false → is_unknown (w.own c).version ≡ false
  pub learns : (c : ℕ) → aware_of v γ c ≡ true → is_unknown (v.own c).version ≡ true → is_unknown (w.own c).version ≡ false → SomeKnows v γ
  pub marks : (c : ℕ) → aware_of v γ c ≡ true → is_in (w.own c).state Error ≡ true
      → (is_in (v.own c).state Error ≡ true) × ((d : ℕ) → (w.side c d).unsure ≡ (v.side c d).unsure)
  pub bare : (c : ℕ) → aware_of v γ c ≡ false → is_in (w.own c).state Error ≡ true → (d : ℕ) → (w.side c d).unsure ≡ false

-- of what a cabinet holds of itself this is all that they read
abbrev pub SamePhase : Own → Own → Type 0
SamePhase o x = (o.state ≡ x.state) × (o.version ≡ x.version) × (o.alarm ≡ x.alarm) × (o.lead ≡ x.lead) × (o.former ≡ x.former)

pub phase_same : {o x : Own} → o ≡ x → SamePhase o x
phase_same e = (ap (λ (y : Own). y.state) e, ap (λ (y : Own). y.version) e, ap (λ (y : Own). y.alarm) e, ap (λ (y : Own). y.lead) e, ap (λ (y : Own). y.former) e)

pub goes_same : (v : View) (γ : Ghost) (w : View) (δ : Ghost) → ((c : ℕ) → SamePhase (w.own c) (v.own c)) → Faults v γ δ → Goes v γ w δ
goes_same v γ w δ same faults = record {
  first = faults.1;
  on = λ c a.
      let f = and_true {s = γ.big.faulted} a in
      (and_intro (faults.0 f.0) (ap in_recovery (same c).0 ∙ f.1), (same c).2, (same c).3, (same c).4);
  gone = λ c e. ap works (same c).0 ∙ e;
}

-- ---- a step, and then what changes none of that

module _ {v : View} {γ : Ghost} {w : View} {δ : Ghost} (h : Stays v γ w δ) where
  first_then : (ε : Ghost) → Faults v δ ε → γ.big.faulted ≡ false → ε.big.faulted ≡ true → (c : ℕ) → in_recovery (v.own c).state ≡ false
  first_then ε faults e f = go δ.big.faulted refl
    where
      go : (t : Bool) → δ.big.faulted ≡ t → (c : ℕ) → in_recovery (v.own c).state ≡ false
      go true k = h.goes.first e k
      go false k = faults.1 k f

  pub stays_marked : (u : View) (ε : Ghost) → ((c : ℕ) → SamePhase (u.own c) (w.own c)) → ((c d : ℕ) → (u.side c d).unsure ≡ (w.side c d).unsure)
      → Faults v δ ε → Stays v γ u ε
  stays_marked u ε same reports faults = record {
    goes = record {
      first = first_then ε faults;
      on = λ c a. let o = h.goes.on c a in let f = and_true {s = δ.big.faulted} o.0 in (
        and_intro (faults.0 f.0) (ap in_recovery (same c).0 ∙ f.1),
        (same c).2 ∙ o.1,
        (same c).3 ∙ o.2,
        (same c).4 ∙ o.3,
      );
      gone = λ c e. ap works (same c).0 ∙ h.goes.gone c e;
    };
    knows = λ c a k. ap is_unknown (same c).1 ∙ h.knows c a k;
    learns = λ c a k l. h.learns c a k (ap is_unknown (sym (same c).1) ∙ l);
    marks = λ c a e. let m = h.marks c a (ap (λ (s : State). is_in s Error) (sym (same c).0) ∙ e) in (m.0, λ d. reports c d ∙ m.1 d);
    bare = λ c a e d. reports c d ∙ h.bare c a (ap (λ (s : State). is_in s Error) (sym (same c).0) ∙ e) d;
  }

  -- .. and then a move of a cabinet that is not aware of a fault: it may enter error, with no report at it
  module _ (u : View) (ε : Ghost) (c : ℕ) (o : Own) (s : ℕ → Side) (own : u.own ≡ upd w.own c o) (side : u.side ≡ upd w.side c s)
      (un : unaware δ.big (w.own c) ≡ true) (none : is_in o.state Error ≡ true → (d : ℕ) → (s d).unsure ≡ false)
      (faults : Faults v δ ε) where
    own_here : u.own c ≡ o
    own_here = ap (λ (f : ℕ → Own). f c) own ∙ upd_same w.own c o

    own_there : (d : ℕ) → d ≢ c → u.own d ≡ w.own d
    own_there d n = ap (λ (f : ℕ → Own). f d) own ∙ upd_other w.own c o d n

    side_here : u.side c ≡ s
    side_here = ap (λ (f : ℕ → ℕ → Side). f c) side ∙ upd_same w.side c s

    side_there : (d : ℕ) → d ≢ c → u.side d ≡ w.side d
    side_there d n = ap (λ (f : ℕ → ℕ → Side). f d) side ∙ upd_other w.side c s d n

    -- it was not aware of one before
    not_it : (d : ℕ) → aware_of v γ d ≡ true → d ≢ c
    not_it d a e = un_not_aware δ.big (w.own c) un (ap (aware_of w δ) (sym e) ∙ (h.goes.on d a).0)

    works_before : (d : ℕ) → work_of v d ≡ false → d ≢ c
    works_before d f e = never (un_works δ.big (w.own c) un) (ap (work_of w) (sym e) ∙ h.goes.gone d f)

    pub stays_then : Stays v γ u ε
    stays_then = record {
      goes = record {
        first = first_then ε faults;
        on = λ d a. let k = h.goes.on d a in let e = own_there d (not_it d a) in let f = and_true {s = δ.big.faulted} k.0 in (
          and_intro (faults.0 f.0) (ap (λ (x : Own). in_recovery x.state) e ∙ f.1),
          ap (λ (x : Own). x.alarm) e ∙ k.1,
          ap (λ (x : Own). x.lead) e ∙ k.2,
          ap (λ (x : Own). x.former) e ∙ k.3,
        );
        gone = λ d f. ap (λ (x : Own). works x.state) (own_there d (works_before d f)) ∙ h.goes.gone d f;
      };
      knows = λ d a k. ap (λ (x : Own). is_unknown x.version) (own_there d (not_it d a)) ∙ h.knows d a k;
      learns = λ d a k l. h.learns d a k (ap (λ (x : Own). is_unknown x.version) (sym (own_there d (not_it d a))) ∙ l);
      marks = λ d a e.
          let m = h.marks d a (ap (λ (x : Own). is_in x.state Error) (sym (own_there d (not_it d a))) ∙ e) in
          (m.0, λ j. ap (λ (f : ℕ → Side). (f j).unsure) (side_there d (not_it d a)) ∙ m.1 j);
      bare = λ d a e j. elim (ℕ_discrete d c) [
        | yes q ↦ ap (λ (x : ℕ). (u.side x j).unsure) q ∙ ap (λ (f : ℕ → Side). (f j).unsure) side_here
            ∙ none (sym (ap (λ (x : ℕ). is_in (u.own x).state Error) q ∙ ap (λ (x : Own). is_in x.state Error) own_here) ∙ e) j
        | no n ↦ ap (λ (f : ℕ → Side). (f j).unsure) (side_there d n)
            ∙ h.bare d a (ap (λ (x : Own). is_in x.state Error) (sym (own_there d n)) ∙ e) j
      ];
    }

-- ---- one step alone; nobody is in error without a fault

module _ (v : View) (γ : Ghost) (quiet : (c : ℕ) → γ.big.faulted ≡ false → is_in (v.own c).state Error ≡ false) where
  -- who is in error is aware of a fault
  pub error_aware : (c : ℕ) → is_in (v.own c).state Error ≡ true → aware_of v γ c ≡ true
  error_aware c e = and_intro (is_true γ.big.faulted (λ f. never e (quiet c f))) (error_recovers (v.own c).state e)

  pub stays_self : Stays v γ v γ
  stays_self = record {
    goes = record { first = λ e f. absurd (never f e); on = λ c a. (a, refl, refl, refl); gone = λ c e. e };
    knows = λ c a k. k;
    learns = λ c a k l. absurd (never k l);
    marks = λ c a e. (e, λ d. refl);
    bare = λ c a e. absurd (never (error_aware c e) a);
  }

  pub stays_same : (w : View) (δ : Ghost) → ((c : ℕ) → SamePhase (w.own c) (v.own c)) → ((c d : ℕ) → (w.side c d).unsure ≡ (v.side c d).unsure)
      → Faults v γ δ → Stays v γ w δ
  stays_same = stays_marked stays_self

  pub stays_calm : (w : View) (δ : Ghost) (c : ℕ) (o : Own) (s : ℕ → Side) → w.own ≡ upd v.own c o → w.side ≡ upd v.side c s
      → unaware γ.big (v.own c) ≡ true → (is_in o.state Error ≡ true → (d : ℕ) → (s d).unsure ≡ false)
      → Faults v γ δ → Stays v γ w δ
  stays_calm = stays_then stays_self

  -- a cabinet that is aware of a fault goes on
  module _ (w : View) (δ : Ghost) (c : ℕ) (o : Own) (own : w.own ≡ upd v.own c o) (faults : Faults v γ δ)
      (aw : aware_of v γ c ≡ true) (restores : in_recovery o.state ≡ true)
      (same : (o.alarm ≡ (v.own c).alarm) × (o.lead ≡ (v.own c).lead) × (o.former ≡ (v.own c).former)) where
    here : w.own c ≡ o
    here = ap (λ (f : ℕ → Own). f c) own ∙ upd_same v.own c o

    there : (d : ℕ) → d ≢ c → w.own d ≡ v.own d
    there d n = ap (λ (f : ℕ → Own). f d) own ∙ upd_other v.own c o d n

    pub goes_on : Goes v γ w δ
    goes_on = record {
      first = faults.1;
      on = λ d a. let f = and_true {s = γ.big.faulted} a in elim (ℕ_discrete d c) [
        | yes e ↦ rw e (
          and_intro (faults.0 f.0) (ap (λ (x : Own). in_recovery x.state) here ∙ restores),
          ap (λ (x : Own). x.alarm) here ∙ same.0,
          ap (λ (x : Own). x.lead) here ∙ same.1,
          ap (λ (x : Own). x.former) here ∙ same.2,
        )
        | no n ↦ let e = there d n in (
          and_intro (faults.0 f.0) (ap (λ (x : Own). in_recovery x.state) e ∙ f.1),
          ap (λ (x : Own). x.alarm) e,
          ap (λ (x : Own). x.lead) e,
          ap (λ (x : Own). x.former) e,
        )
      ];
      gone = λ d f. elim (ℕ_discrete d c) [
        | yes e ↦ absurd (never (aware_works γ.big (v.own c) aw) (ap (work_of v) (sym e) ∙ f))
        | no n ↦ ap (λ (x : Own). works x.state) (there d n) ∙ f
      ];
    }

    -- with a version that another one knows, or that it knew
    pub stays_on : ((d j : ℕ) → (w.side d j).unsure ≡ (v.side d j).unsure) → is_in o.state Error ≡ false → is_unknown o.version ≡ false
        → (is_unknown (v.own c).version ≡ true → SomeKnows v γ) → Stays v γ w δ
    stays_on reports left known learnt = record {
      goes = goes_on;
      knows = λ d a k. elim (ℕ_discrete d c) [
        | yes e ↦ ap (λ (x : ℕ). is_unknown (w.own x).version) e ∙ ap (λ (x : Own). is_unknown x.version) here ∙ known
        | no n ↦ ap (λ (x : Own). is_unknown x.version) (there d n) ∙ k
      ];
      learns = λ d a k l. elim (ℕ_discrete d c) [
        | yes e ↦ learnt (ap (λ (x : ℕ). is_unknown (v.own x).version) (sym e) ∙ k)
        | no n ↦ absurd (never k (sym (ap (λ (x : Own). is_unknown x.version) (there d n)) ∙ l))
      ];
      marks = λ d a e. (in_error d e, reports d);
      bare = λ d a e. absurd (never (error_aware d (in_error d e)) a);
    }
      where
        in_error : (d : ℕ) → is_in (w.own d).state Error ≡ true → is_in (v.own d).state Error ≡ true
        in_error d e = elim (ℕ_discrete d c) [
          | yes q ↦ absurd (never e (ap (λ (x : ℕ). is_in (w.own x).state Error) q ∙ ap (λ (x : Own). is_in x.state Error) here ∙ left))
          | no n ↦ ap (λ (x : Own). is_in x.state Error) (sym (there d n)) ∙ e
        ]

-- a step before which nobody is in error, recovering or recovered
pub stays_none : (v : View) (γ : Ghost) (w : View) (δ : Ghost) → ((c : ℕ) → in_recovery (v.own c).state ≡ false) → ((c : ℕ) → work_of v c ≡ false → work_of w c ≡ false)
    → ((c : ℕ) → is_in (w.own c).state Error ≡ true → (d : ℕ) → (w.side c d).unsure ≡ false) → Stays v γ w δ
stays_none v γ w δ nobody gone none = record {
  goes = record { first = λ _ _. nobody; on = λ c a. absurd (not_aware c a); gone = gone };
  knows = λ c a. absurd (not_aware c a);
  learns = λ c a. absurd (not_aware c a);
  marks = λ c a. absurd (not_aware c a);
  bare = λ c a. none c;
}
  where
    not_aware : (c : ℕ) → aware_of v γ c ≡ true → ⊥
    not_aware c a = never (and_true {s = γ.big.faulted} a).1 (nobody c)

-- ---- the reports

pub record Reports (v : View) : Type 0 where
  -- F5: a report at a cabinet in error is that of one in error, recovering or recovered whose fault was its coordinator, and whom that cabinet leads
  pub from : (c d : ℕ) → is_in (v.own c).state Error ≡ true → (v.side c d).unsure ≡ true
      → (in_recovery (v.own d).state ≡ true) × ((v.own d).former ≡ true) × ((v.own d).lead ≡ c)
  -- F7: where one in error, recovering or recovered knows its version, there is such a one without a report there
  pub sure : (c x : ℕ) → is_in (v.own c).state Error ≡ true → in_recovery (v.own x).state ≡ true → is_unknown (v.own x).version ≡ false
      → (w : ℕ) × (in_recovery (v.own w).state ≡ true) × (is_unknown (v.own w).version ≡ false) × ((v.side c w).unsure ≡ false)

-- nobody's report stands
abbrev pub Silent : View → Type 0
Silent v = (c : ℕ) → is_in (v.own c).state Error ≡ true → (d : ℕ) → (v.side c d).unsure ≡ false

pub reports_none : (v : View) → Silent v → Reports v
reports_none v none = record { from = λ c d e m. absurd (never m (none c e d)); sure = λ c x e r k. (x, r, k, none c e x) }

module _ (v : View) (γ : Ghost) (quiet : (c : ℕ) → γ.big.faulted ≡ false → is_in (v.own c).state Error ≡ false) (w : View) (δ : Ghost)
    (h : Stays v γ w δ) (r : Reports v) where
  -- who has a report at a cabinet in error
  from_one_lem : (c d : ℕ) → is_in (v.own c).state Error ≡ true → (v.side c d).unsure ≡ true → (in_recovery (w.own d).state ≡ true) × ((w.own d).former ≡ true) × ((w.own d).lead ≡ c)
  from_one_lem c d e m =
      let f = r.from c d e m in
      let o = h.goes.on d (aware_here c d e f.0) in
      ((and_true {s = δ.big.faulted} o.0).1, o.3 ∙ f.1, o.2 ∙ f.2)
    where
      aware_here : (c d : ℕ) → is_in (v.own c).state Error ≡ true → in_recovery (v.own d).state ≡ true → aware_of v γ d ≡ true
      aware_here c d e x = and_intro (and_true {s = γ.big.faulted} (error_aware v γ quiet c e)).0 x

  abbrev Witness : ℕ → Type 0
  Witness c = (x : ℕ) × (in_recovery (w.own x).state ≡ true) × (is_unknown (w.own x).version ≡ false) × ((w.side c x).unsure ≡ false)

  module _ (c : ℕ) (e : is_in (v.own c).state Error ≡ true) (same : (d : ℕ) → (w.side c d).unsure ≡ (v.side c d).unsure) where
    fault : γ.big.faulted ≡ true
    fault = (and_true {s = γ.big.faulted} (error_aware v γ quiet c e)).0

    by_known : SomeKnows v γ → Witness c
    by_known k =
        let f = r.sure c k.0 e (and_true {s = γ.big.faulted} k.1).1 k.2 in
        let a = and_intro fault f.1 in
        (f.0, (and_true {s = δ.big.faulted} (h.goes.on f.0 a).0).1, h.knows f.0 a f.2, same f.0 ∙ f.3)

    by_one : (x : ℕ) → in_recovery (w.own x).state ≡ true → is_unknown (w.own x).version ≡ false → Witness c
    by_one x rec k = go (aware_of v γ x) refl
      where
        go : (t : Bool) → aware_of v γ x ≡ t → Witness c
        go true a = old (is_unknown (v.own x).version) refl
          where
            old : (t : Bool) → is_unknown (v.own x).version ≡ t → Witness c
            old true u = by_known (h.learns x a u k)
            old false u = by_known (x, a, u)
        go false a =
            (x, rec, k, same x ∙ is_false (v.side c x).unsure (λ m. never (and_intro fault (r.from c x e m).0) a))

  pub reports_kept : Reports w
  reports_kept = record {
    from = λ c d e m. go_from c d e m (aware_of v γ c) refl;
    sure = λ c x e rec k. go_sure c x e rec k (aware_of v γ c) refl;
  }
    where
      go_from : (c d : ℕ) → is_in (w.own c).state Error ≡ true → (w.side c d).unsure ≡ true → (t : Bool) → aware_of v γ c ≡ t
          → (in_recovery (w.own d).state ≡ true) × ((w.own d).former ≡ true) × ((w.own d).lead ≡ c)
      go_from c d e m true a = let s = h.marks c a e in from_one_lem c d s.0 (sym (s.1 d) ∙ m)
      go_from c d e m false a = absurd (never m (h.bare c a e d))

      go_sure : (c x : ℕ) → is_in (w.own c).state Error ≡ true → in_recovery (w.own x).state ≡ true → is_unknown (w.own x).version ≡ false → (t : Bool) → aware_of v γ c ≡ t → Witness c
      go_sure c x e rec k true a = let s = h.marks c a e in by_one c s.0 s.1 x rec k
      go_sure c x e rec k false a = (x, rec, k, h.bare c a e x)

-- where none stood none comes
pub none_comes : (v : View) (γ : Ghost) (w : View) (δ : Ghost) → Stays v γ w δ → Silent v → Silent w
none_comes v γ w δ h none c e d = go (aware_of v γ c) refl
  where
    go : (t : Bool) → aware_of v γ c ≡ t → (w.side c d).unsure ≡ false
    go true a = let s = h.marks c a e in s.1 d ∙ none c s.0 d
    go false a = h.bare c a e d
