-- What an outcome may be, and how that goes along the checks of a rule: stated once over chains of `need`, `or_refuse` and `cond`.
use Prim.Native.Nat.{ℕ}
use mathlib.Core.Path.{◌≡◌, refl, sym, ◌∙◌, ap}
use mathlib.Core.Bool.{Bool, true, false, cond, not, ◌||◌, false≢true, true≢false}
use mathlib.Core.List.{List, [], ◌∷◌, ◌++◌, append-nil}
use mathlib.Core.Logic.{◌↔◌, ◌⊎◌, inl, inr}
use lib.Dec.{eqb}
use borrow.Author.Tests.{eqb-true, eqb-false, eq-eqb}
use native.Mathlib.Omega.{arith}
use Rattle.group.specs.declared.Group.{Group}
use Rattle.group.specs.declared.Outcome.{Outcome}
use Rattle.group.specs.Group.{answering, taken, crash_all, crashed}
use Rattle.protocol.specs.Kinds.{need, or_refuse}
use Rattle.protocol.specs.Answers.{among}
use Rattle.claims.proofs.State.Fun.{or_right, or_left}
use Rattle.claims.proofs.Answers.Tests.{Reflects}

-- ---- which refusal

-- no refusal, or one of the numbers listed
pub data Listed (ks : List ℕ) : ℕ → Type 0 where
  nothing : Listed ks 0
  one_of : {k : ℕ} → among k ks ≡ true → Listed ks k

-- one check more in front
pub checks : (t : Bool) (k : ℕ) {next : ℕ} {ks : List ℕ} → Listed ks next → Listed (k ∷ ks) (need t k next)
checks true k nothing = nothing
checks true k {next} {ks} (one_of e) = one_of (or_right (eqb next k) (among next ks) e)
checks false k {ks = ks} l = one_of (or_left (eqb k k) (among k ks) (eq-eqb k k refl))

among_left : (k : ℕ) (ks ls : List ℕ) → among k ks ≡ true → among k (ks ++ ls) ≡ true
among_left k [] ls e = absurd (false≢true e)
among_left k (x ∷ ks) ls e = go (eqb k x) (among_left k ks ls) e
  where
    go : (t : Bool) → (among k ks ≡ true → among k (ks ++ ls) ≡ true) → t || among k ks ≡ true → t || among k (ks ++ ls) ≡ true
    go true later e = refl
    go false later e = later e

among_right : (k : ℕ) (ks ls : List ℕ) → among k ls ≡ true → among k (ks ++ ls) ≡ true
among_right k [] ls e = e
among_right k (x ∷ ks) ls e = or_right (eqb k x) (among k (ks ++ ls)) (among_right k ks ls e)

number : {ks : List ℕ} {k : ℕ} → Listed ks k → (k ≡ 0 → ⊥) → among k ks ≡ true
number nothing n = absurd (n refl)
number (one_of m) n = m

not_fifty : (ks : List ℕ) → among 50 ks ≡ false → (k : ℕ) → among k ks ≡ true → k ≡ 50 → ⊥
not_fifty ks none k m e = true≢false (sym m ∙ (ap (λ (j : ℕ). among j ks) e ∙ none))

-- ---- outcomes

-- taken, and C does not hold; crashed, and C holds; or refused by a number of the list, and C does not hold
pub data Answer (g : Group) (ks : List ℕ) (C : Type 0) : Outcome → Type 0 where
  took : {g' : Group} → (C → ⊥) → Answer g ks C (taken g')
  crash : C → Answer g ks C (crashed g)
  refused : {k : ℕ} → among k ks ≡ true → (C → ⊥) → Answer g ks C (answering k g)

module _ {g : Group} where
  -- the same, said another way
  pub recast : {ks : List ℕ} {C D : Type 0} {o : Outcome} → (C ↔ D) → Answer g ks C o → Answer g ks D o
  recast e (took n) = took (λ d. n (e.1 d))
  recast e (crash c) = crash (e.0 c)
  recast e (refused m n) = refused m (λ d. n (e.1 d))

  wider : (ks : List ℕ) {ls : List ℕ} {C : Type 0} {o : Outcome} → Answer g ls C o → Answer g (ks ++ ls) C o
  wider ks (took n) = took n
  wider ks (crash c) = crash c
  wider ks {ls} (refused {k} m n) = refused (among_right k ks ls m) n

  -- a chain of checks in front
  pub refusing : (k : ℕ) {ks ls : List ℕ} {C : Type 0} {o : Outcome} → Listed ks k → Answer g ls C o
      → Answer g (ks ++ ls) ((k ≡ 0) × C) (or_refuse k g o)
  refusing k {ks} {ls} {C} {o} l a = go (eqb k 0) refl
    where
      go : (t : Bool) → eqb k 0 ≡ t → Answer g (ks ++ ls) ((k ≡ 0) × C) (cond t o (answering k g))
      go true e = recast (λ c. (eqb-true k 0 e, c), λ p. p.1) (wider ks a)
      go false e =
          refused (among_left k ks ls (number l (eqb-false k 0 e))) (λ p. eqb-false k 0 e p.0)

  pub guarded : (k : ℕ) {ks : List ℕ} {C : Type 0} {o : Outcome} → Listed ks k → Answer g [] C o → Answer g ks ((k ≡ 0) × C) (or_refuse k g o)
  guarded k {ks} l a = rw (append-nil ks) at (refusing k l a)

  pub either : (t : Bool) {ks : List ℕ} {C : Type 0} {o p : Outcome} → Answer g ks C o → Answer g ks C p → Answer g ks C (cond t o p)
  either true a b = a
  either false a b = b

  -- a test, where the step may crash only on one side
  module _ {ks : List ℕ} {C P : Type 0} where
    pub only_if : (t : Bool) {o : Outcome} (g' : Group) → Reflects t P → Answer g ks C o → Answer g ks (P × C) (cond t o (taken g'))
    only_if true g' r a = recast (λ c. (r.0 refl, c), λ p. p.1) a
    only_if false g' r a = took (λ p. false≢true (r.1 p.0))

    pub unless : (t : Bool) {o : Outcome} (g' : Group) → Reflects t P → Answer g ks C o → Answer g ks ((P → ⊥) × C) (cond t (taken g') o)
    unless true g' r a = took (λ p. p.0 (r.0 refl))
    unless false g' r a = recast (λ c. (λ p. false≢true (r.1 p), c), λ p. p.1) a

  pub crash_if : (t : Bool) {ks : List ℕ} {P : Type 0} (g' : Group) → Reflects t P → Answer g ks P (cond t (crashed g) (taken g'))
  crash_if true g' r = crash (r.0 refl)
  crash_if false g' r = took (λ p. false≢true (r.1 p))

  pub crash_unless : (t : Bool) {ks : List ℕ} {P : Type 0} (g' : Group) → Reflects (not t) P → Answer g ks P (cond t (taken g') (crashed g))
  crash_unless true g' r = took (λ p. false≢true (r.1 p))
  crash_unless false g' r = crash (r.0 refl)

  -- ---- what follows

  module _ {ks : List ℕ} {C : Type 0} where
    -- "A refusal leaves group and store unchanged."
    pub keeps : {o : Outcome} → Answer g ks C o → (o.answer ≡ 0 → ⊥) → (o.answer ≡ 50 → ⊥) → o.group ≡ g
    keeps (took n) z f = absurd (z refl)
    keeps (crash c) z f = absurd (f refl)
    keeps (refused m n) z f = refl

    pub listed : {o : Outcome} → Answer g ks C o → (o.answer ≡ 0) ⊎ ((o.answer ≡ 50) ⊎ (among o.answer ks ≡ true))
    listed (took n) = inl refl
    listed (crash c) = inr (inl refl)
    listed (refused m n) = inr (inr m)

    module _ (none : among 50 ks ≡ false) where
      -- "crash .. puts every working cabinet .. in crashed and does nothing else"
      pub crashes_all : {o : Outcome} → Answer g ks C o → o.answer ≡ 50 → o.group ≡ crash_all g
      crashes_all (took n) e = absurd (omega arith)
      crashes_all (crash c) e = refl
      crashes_all (refused {k} m n) e = absurd (not_fifty ks none k m e)

      pub exactly : {o : Outcome} → Answer g ks C o → (o.answer ≡ 50) ↔ C
      exactly (took n) = (λ e. absurd (omega arith), λ c. absurd (n c))
      exactly (crash c) = (λ e. c, λ d. refl)
      exactly (refused {k} m n) = (λ e. absurd (not_fifty ks none k m e), λ c. absurd (n c))
