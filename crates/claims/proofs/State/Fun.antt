-- Functions with one value replaced, choices by a test, and sums: what all facts about every cabinet are made of.
use Prim.Native.Nat.{ℕ, zero, suc, ◌+◌, ◌<◌, ◌≤◌}
use mathlib.Core.Path.{◌≡◌, refl, sym, ◌∙◌, fun_ext, subst, ap}
use mathlib.Core.Logic.{◌≢◌, ◌⊎◌, inl, inr}
use mathlib.Core.Bool.{Bool, true, false, cond, not, ◌&&◌, false≢true, true≢false, ◌||◌}
use mathlib.Core.List.{List, [], ◌∷◌}
use lib.ListN.{get_or, get_or-eq_default}
use lib.Dec.{eqb}
use borrow.Author.Tests.{eqb-true, eqb-false, eq-eqb, ne_eqb}
use native.Mathlib.Omega.{arith}
use native.Mathlib.Decide.{ℕ_discrete, dec_lt}
use Rattle.protocol.specs.History.{upd}
use Rattle.group.specs.Group.{sum}

pub never : {t : Bool} → t ≡ true → t ≡ false → ⊥
never e f = true≢false (sym e ∙ f)

pub is_true : (t : Bool) → (t ≡ false → ⊥) → t ≡ true
is_true true n = refl
is_true false n = absurd (n refl)

pub is_false : (t : Bool) → (t ≡ true → ⊥) → t ≡ false
is_false true n = absurd (n refl)
is_false false n = refl

pub and_true : {s t : Bool} → (s && t) ≡ true → (s ≡ true) × (t ≡ true)
and_true {s = true} {t} e = (refl, e)
and_true {s = false} {t} e = absurd (false≢true e)

pub and_intro : {s t : Bool} → s ≡ true → t ≡ true → (s && t) ≡ true
and_intro {s} {t} p q = rw (p, q)

pub not_true_false : {s : Bool} → not s ≡ true → s ≡ false
not_true_false {s = true} e = absurd (false≢true e)
not_true_false {s = false} e = refl

pub not_not : (t : Bool) → not (not t) ≡ t
not_not true = refl
not_not false = refl

pub and-false : (t : Bool) → (t && false) ≡ false
and-false true = refl
and-false false = refl

pub and_same : (t : Bool) → (t && true) ≡ t
and_same true = refl
and_same false = refl

pub and_off : (s t : Bool) → t ≡ false → (s && t) ≡ false
and_off s t e = rw e (and-false s)

pub and_not : (s t : Bool) → t ≡ true → (s && not t) ≡ false
and_not s t e = rw e (and-false s)

pub or_left : (s t : Bool) → s ≡ true → (s || t) ≡ true
or_left s t e = rw e

pub or-false : {s t : Bool} → (s || t) ≡ false → (s ≡ false) × (t ≡ false)
or-false {s = true} {t} e = absurd (true≢false e)
or-false {s = false} {t} e = (refl, e)

pub or_right : (s t : Bool) → t ≡ true → (s || t) ≡ true
or_right true t e = refl
or_right false t e = e

pub or_map : (x y z : Bool) → (y ≡ true → z ≡ true) → (x || y) ≡ true → (x || z) ≡ true
or_map true y z f e = refl
or_map false y z f e = f e

pub or_split : (s t : Bool) → (s || t) ≡ true → (s ≡ true) ⊎ (t ≡ true)
or_split true t e = inl refl
or_split false t e = inr e

module _ {A : Type 0} where
  -- every case split on a test goes through this
  pub cond_elim : (P : A → Type 0) (t : Bool) {x y : A} → (t ≡ true → P x) → (t ≡ false → P y) → P (cond t x y)
  cond_elim P true f g = f refl
  cond_elim P false f g = g refl

  pub upd_elim : (P : A → Type 0) (f : ℕ → A) (a : ℕ) (v : A) (i : ℕ) → (i ≡ a → P v) → (i ≢ a → P (f i)) → P (upd f a v i)
  unfolding upd
  upd_elim P f a v i y n = cond_elim P (eqb i a) (λ e. y (eqb-true i a e)) (λ e. n (eqb-false i a e))

  pub upd_same : (f : ℕ → A) (a : ℕ) (v : A) → upd f a v a ≡ v
  unfolding upd
  upd_same f a v = rw (eq-eqb a a refl)

  pub upd_other : (f : ℕ → A) (a : ℕ) (v : A) (i : ℕ) → i ≢ a → upd f a v i ≡ f i
  unfolding upd
  upd_other f a v i n = rw (ne_eqb i a n)

-- equal functions, at a value
pub same_at : {A B : Type 0} {f g : A → B} → f ≡ g → (x : A) → f x ≡ g x
same_at {A} {B} e x = ap (λ (h : A → B). h x) e

pub upd_id : {A : Type 0} (g : ℕ → A) (c : ℕ) → upd g c (g c) ≡ g
upd_id g c = fun_ext (λ i. upd_elim (λ y. y ≡ g i) g c (g c) i (λ e. ap g (sym e)) (λ n. refl))

pub upd_twice : {A : Type 0} (f : ℕ → A) (c : ℕ) (x y : A) → upd (upd f c x) c y ≡ upd f c y
upd_twice {A} f c x y =
    fun_ext (λ i. upd_elim (λ (z : A). upd (upd f c x) c y i ≡ z) f c y i
    (λ e. rw e (upd_same (upd f c x) c y)) (λ n. upd_other (upd f c x) c y i n ∙ upd_other f c x i n))

pub upd_swap : {A : Type 0} (f : ℕ → A) (a b : ℕ) (x y : A) → a ≢ b → upd (upd f a x) b y ≡ upd (upd f b y) a x
upd_swap {A} f a b x y n =
    fun_ext (λ j. upd_elim (λ (z : A). z ≡ upd (upd f b y) a x j) (upd f a x) b y j
    (λ e. rw e (sym (upd_other (upd f b y) a x b (λ r. n (sym r)) ∙ upd_same f b y)))
    (λ d. upd_elim (λ (z : A). z ≡ upd (upd f b y) a x j) f a x j
    (λ e. rw e (sym (upd_same (upd f b y) a x)))
    (λ e. sym (upd_other (upd f b y) a x j e ∙ upd_other f b y j d))))

-- one value replaced: what holds of it at its place and of the others at theirs holds everywhere
pub upd_case : {A : Type 0} (P : ℕ → A → Type 0) (f : ℕ → A) (a : ℕ) (x : A) → P a x → ((i : ℕ) → i ≢ a → P i (f i)) → (i : ℕ) → P i (upd f a x i)
upd_case P f a x here there i = upd_elim (P i) f a x i (λ e. subst (λ (j : ℕ). P j x) (sym e) here) (there i)

-- what a function of the cabinets reads is the same where the one value replaced reads the same
pub kept : {A B : Type 0} (f : A → B) (g : ℕ → A) (c : ℕ) (x : A) → f x ≡ f (g c) → ◌≡◌ {A = ℕ → B} (λ i. f (upd g c x i)) (λ i. f (g i))
kept {A} {B} f g c x e = fun_ext (λ i. upd_elim (λ (y : A). f y ≡ f (g i)) g c x i (λ q. e ∙ ap (λ (j : ℕ). f (g j)) (sym q)) (λ n. refl))

pub kept_at : {A B : Type 0} (f : A → B) (g : ℕ → A) (c : ℕ) (x : A) → f x ≡ f (g c) → (i : ℕ) → f (upd g c x i) ≡ f (g i)
kept_at {A} {B} f g c x e i = ap (λ (h : ℕ → B). h i) (kept f g c x e)

-- what a function of a pair gives there, with one value replaced
pub upd_pair : {A : Type 0} (P : A → Type 0) (f : ℕ → ℕ → A) (a b : ℕ) (x : A) (c d : ℕ)
    → (c ≡ a → d ≡ b → P x) → P (f c d) → P (upd f a (upd (f a) b x) c d)
upd_pair P f a b x c d here there = elim (ℕ_discrete c a) [
  | yes e ↦ elim (ℕ_discrete d b) [
    | yes j ↦ rw (e, j, upd_same f a (upd (f a) b x), upd_same (f a) b x) (here e j)
    | no j ↦ rw (e, upd_same f a (upd (f a) b x), upd_other (f a) b x d j) (rw e at there)
  ]
  | no n ↦ rw (upd_other f a (upd (f a) b x) c n) there
]

pub pair_same : {A : Type 0} (f : ℕ → ℕ → A) (a b : ℕ) (x : A) → upd f a (upd (f a) b x) a b ≡ x
pair_same f a b x = rw (upd_same f a (upd (f a) b x), upd_same (f a) b x)

pub pair_other : {A : Type 0} (f : ℕ → ℕ → A) (a b : ℕ) (x : A) (c d : ℕ) → (c ≡ a → d ≡ b → ⊥) → upd f a (upd (f a) b x) c d ≡ f c d
pair_other f a b x c d n = upd_pair (λ y. y ≡ f c d) f a b x c d (λ e j. absurd (n e j)) refl

-- one value replaced on both sides of a reading
pub pair_both : {A B : Type 0} (k : B → A) (f : ℕ → ℕ → A) (g : ℕ → ℕ → B) (a b : ℕ) (x : A) (y : B) → x ≡ k y → ((c d : ℕ) → f c d ≡ k (g c d))
    → (c d : ℕ) → upd f a (upd (f a) b x) c d ≡ k (upd g a (upd (g a) b y) c d)
pair_both k f g a b x y e h c d = elim (ℕ_discrete c a) [
  | yes p ↦ elim (ℕ_discrete d b) [
    | yes q ↦ rw (p, q, pair_same f a b x, pair_same g a b y) e
    | no q ↦ rw (pair_other f a b x c d (λ _ z. q z), pair_other g a b y c d (λ _ z. q z)) (h c d)
  ]
  | no p ↦ rw (pair_other f a b x c d (λ z _. p z), pair_other g a b y c d (λ z _. p z)) (h c d)
]

-- a reading of one pair's value that the change leaves alone
pub kept_pair : {A B : Type 0} (f : A → B) (g : ℕ → ℕ → A) (a b : ℕ) (x : A) → f x ≡ f (g a b)
    → (i j : ℕ) → f (upd g a (upd (g a) b x) i j) ≡ f (g i j)
kept_pair {A} {B} f g a b x e i j =
    upd_elim (λ (h : ℕ → A). f (h j) ≡ f (g i j)) g a (upd (g a) b x) i
    (λ q. kept_at f (g a) b x e j ∙ ap (λ (y : ℕ). f (g y j)) (sym q)) (λ d. refl)

-- ---- sums over the first n numbers

pub sum_cong : (f g : ℕ → ℕ) (n : ℕ) → ((i : ℕ) → i < n → f i ≡ g i) → sum f n ≡ sum g n
unfolding sum
sum_cong f g zero h = refl
sum_cong f g (suc n) h =
    let ih : sum f n ≡ sum g n = sum_cong f g n (λ i l. h i (omega arith)) in
    omega (arith, h n (omega arith))

-- two functions that agree everywhere but at a
pub sum_at : (f g : ℕ → ℕ) (a n : ℕ) → a < n → ((i : ℕ) → i ≢ a → g i ≡ f i) → sum g n + f a ≡ sum f n + g a
unfolding sum
sum_at f g a zero l h = omega arith
sum_at f g a (suc n) l h = elim (ℕ_discrete n a) [
  | yes e ↦ let r : sum g n ≡ sum f n = sum_cong g f n (λ i k. h i (omega arith)) in
      rw e (omega (arith, rw e at r))
  | no d ↦ omega (arith, sum_at f g a n (omega arith) h, h n d)
]

pub sum_add : (f g : ℕ → ℕ) (n : ℕ) → sum (λ i. f i + g i) n ≡ sum f n + sum g n
unfolding sum
sum_add f g zero = refl
sum_add f g (suc n) = omega (arith, sum_add f g n)

pub sum_zero : (f : ℕ → ℕ) (n : ℕ) → ((i : ℕ) → i < n → f i ≡ 0) → sum f n ≡ 0
unfolding sum
sum_zero f zero h = refl
sum_zero f (suc n) h = omega (arith, h n (omega arith), sum_zero f n (λ i l. h i (omega arith)))

-- the order of two sums does not matter
pub sum_swap : (f : ℕ → ℕ → ℕ) (m n : ℕ) → sum (λ i. sum (λ j. f i j) n) m ≡ sum (λ j. sum (λ i. f i j) m) n
unfolding sum
sum_swap f zero n = sym (sum_zero (λ j. sum (λ i. f i j) zero) n (λ j l. refl))
sum_swap f (suc m) n =
    let one : sum (λ j. f m j + sum (λ i. f i j) m) n ≡ sum (λ j. f m j) n + sum (λ j. sum (λ i. f i j) m) n = sum_add (λ j. f m j) (λ j. sum (λ i. f i j) m) n in
    omega (arith, one, sum_swap f m n)

-- a sum that is 0 from some number on
pub sum_tail : (f : ℕ → ℕ) (n k : ℕ) → n ≤ k → ((c : ℕ) → n ≤ c → f c ≡ 0) → sum f k ≡ sum f n
unfolding sum
sum_tail f n zero l z = ap (sum f) (zero_below n l)
  where
    zero_below : (n : ℕ) → n ≤ 0 → 0 ≡ n
    zero_below n l = omega arith
sum_tail f n (suc k) l z = elim (dec_lt k n) [
  | yes e ↦ ap (sum f) (same n k l e)
  | no d ↦ omega (arith, z k (omega arith), sum_tail f n k (omega arith) z)
]
  where
    same : (n k : ℕ) → n ≤ suc k → k < n → suc k ≡ n
    same n k l e = omega arith

-- ---- eight in a row

abbrev pub row : {A : Type 0} → (ℕ → A) → List A
row f = f 0 ∷ f 1 ∷ f 2 ∷ f 3 ∷ f 4 ∷ f 5 ∷ f 6 ∷ f 7 ∷ []

pub row_at : {A : Type 0} (f : ℕ → A) (d : A) (k : ℕ) → k < 8 → get_or (row f) k d ≡ f k
row_at f d zero l = refl
row_at f d (suc zero) l = refl
row_at f d (suc (suc zero)) l = refl
row_at f d (suc (suc (suc zero))) l = refl
row_at f d (suc (suc (suc (suc zero)))) l = refl
row_at f d (suc (suc (suc (suc (suc zero))))) l = refl
row_at f d (suc (suc (suc (suc (suc (suc zero)))))) l = refl
row_at f d (suc (suc (suc (suc (suc (suc (suc zero))))))) l = refl
row_at f d (suc (suc (suc (suc (suc (suc (suc (suc k)))))))) l = absurd (omega arith)

-- also past the eighth, where the function gives what stands there
pub row_all : {A : Type 0} (f : ℕ → A) (d : A) → ((k : ℕ) → 8 ≤ k → f k ≡ d) → (k : ℕ) → get_or (row f) k d ≡ f k
row_all f d past k = elim (dec_lt k 8) [
  | yes l ↦ row_at f d k l
  | no n ↦ get_or-eq_default (row f) d {n = k} (omega arith) ∙ sym (past k (omega arith))
]
