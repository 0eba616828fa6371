-- Laws of marks: which is the lowest, what covers, what stands in both, in either and in one alone.
use Rattle.std.specs.Prelude.{ℕ, zero, suc, ◌+◌, ◌≤◌, ◌<◌, ◌≡◌, refl, Bool, true, false, cond, not, ◌&&◌, ◌||◌}
use Rattle.std.proofs.Common.{sym, ◌∙◌, ap, true≢false, ⊎_elim, eq-or-lt_of_le, arith}
use Rattle.std.proofs.Math.Bool.{and-eq-true_iff}
use Rattle.std.proofs.Math.Decide.{dec_lt}
use Rattle.marks.specs.Marks.{Marks, marked, lowest_from, lowest, covers_to, covers, both, either, without}

-- what holds of each answer, given the test, holds of the choice
pub cond_elim : {A : Type 0} (P : A → Type 0) (b : Bool) (x y : A) → (b ≡ true → P x) → (b ≡ false → P y) → P (cond b x y)
cond_elim P true x y t f = t refl
cond_elim P false x y t f = f refl

pub never_both : (b : Bool) → b ≡ true → b ≡ false → ⊥
never_both b t f = true≢false (sym t ∙ f)

pub true_unless : (b : Bool) → (b ≡ false → ⊥) → b ≡ true
true_unless true h = refl
true_unless false h = absurd (h refl)

-- ---- the lowest number that passes a test

module _ (test : ℕ → Bool) where
  pub lowest_from_le_eight : (n i : ℕ) → i + n ≡ 8 → lowest_from test n i ≤ 8
  lowest_from_le_eight zero i e = omega arith
  lowest_from_le_eight (suc n) i e =
      cond_elim (λ k. k ≤ 8) (test i) i (lowest_from test n (i + 1)) (λ t. omega arith) (λ f. lowest_from_le_eight n (i + 1) (omega arith))

  pub lowest_from_passes : (n i : ℕ) → lowest_from test n i < 8 → test (lowest_from test n i) ≡ true
  lowest_from_passes zero i h = absurd (omega arith)
  lowest_from_passes (suc n) i h =
      cond_elim (λ k. k < 8 → test k ≡ true) (test i) i (lowest_from test n (i + 1)) (λ t l. t) (λ f l. lowest_from_passes n (i + 1) l) h

  pub lowest_from_least : (n i : ℕ) → i + n ≡ 8 → (k : ℕ) → i ≤ k → k < lowest_from test n i → test k ≡ false
  lowest_from_least zero i e k from h = absurd (omega arith)
  lowest_from_least (suc n) i e k from h =
      cond_elim (λ l. k < l → test k ≡ false) (test i) i (lowest_from test n (i + 1))
      (λ t l. absurd (omega arith))
      (λ f l. ⊎_elim (λ q. ap test (sym q) ∙ f) (λ m. lowest_from_least n (i + 1) (omega arith) k (omega arith) l) (eq-or-lt_of_le from))
      h

pub lowest_marked : (m : Marks) → lowest m < 8 → marked m (lowest m) ≡ true
unfolding lowest
lowest_marked m h = lowest_from_passes (marked m) 8 0 h

pub lowest_least : (m : Marks) (k : ℕ) → k < lowest m → marked m k ≡ false
unfolding lowest
lowest_least m k h = lowest_from_least (marked m) 8 0 refl k (omega arith) h

-- no marked one is below the lowest
pub lowest_le_marked : (m : Marks) (k : ℕ) → marked m k ≡ true → lowest m ≤ k
lowest_le_marked m k h = go (lowest m) (lowest_least m k)
  where
    go : (l : ℕ) → (k < l → marked m k ≡ false) → l ≤ k
    go l f = elim (dec_lt k l) [ yes b ↦ absurd (never_both (marked m k) h (f b)) | no b ↦ omega arith ]

-- ---- what is wanted is had

wanted_had : (w h : Bool) → not w || h ≡ true → w ≡ true → h ≡ true
wanted_had true h e t = e
wanted_had false h e t = absurd (never_both false t refl)

had_wanted : (w h : Bool) → (w ≡ true → h ≡ true) → not w || h ≡ true
had_wanted true h f = f refl
had_wanted false h f = refl

module _ (h w : Marks) where
  covers_to_has : (n : ℕ) → covers_to n h w ≡ true → (i : ℕ) → i < n → marked w i ≡ true → marked h i ≡ true
  covers_to_has zero c i l e = absurd (omega arith)
  covers_to_has (suc n) c i l e =
      let parts = (and-eq-true_iff (covers_to n h w) (not (marked w n) || marked h n)).0 c in
      ⊎_elim
      (λ q. ap (marked h) q ∙ wanted_had (marked w n) (marked h n) parts.1 (ap (marked w) (sym q) ∙ e))
      (λ m. covers_to_has n parts.0 i m e)
      (eq-or-lt_of_le (upto i l))
    where
      upto : (i : ℕ) → i < suc n → i ≤ n
      upto i l = omega arith

  has_covers_to : (n : ℕ) → ((i : ℕ) → i < n → marked w i ≡ true → marked h i ≡ true) → covers_to n h w ≡ true
  has_covers_to zero f = refl
  has_covers_to (suc n) f =
      (and-eq-true_iff (covers_to n h w) (not (marked w n) || marked h n)).1
      (has_covers_to n (λ i l e. f i (omega arith) e), had_wanted (marked w n) (marked h n) (f n (omega arith)))

  pub covers_has : covers h w ≡ true → (i : ℕ) → i < 8 → marked w i ≡ true → marked h i ≡ true
  unfolding covers
  covers_has c = covers_to_has 8 c

  pub has_covers : ((i : ℕ) → i < 8 → marked w i ≡ true → marked h i ≡ true) → covers h w ≡ true
  unfolding covers
  has_covers f = has_covers_to 8 f

-- ---- what stands in both

pub marked_both : (a b : Marks) (i : ℕ) → i < 8 → marked (both a b) i ≡ (marked a i && marked b i)
unfolding both
marked_both a b zero h = refl
marked_both a b (suc zero) h = refl
marked_both a b (suc (suc zero)) h = refl
marked_both a b (suc (suc (suc zero))) h = refl
marked_both a b (suc (suc (suc (suc zero)))) h = refl
marked_both a b (suc (suc (suc (suc (suc zero))))) h = refl
marked_both a b (suc (suc (suc (suc (suc (suc zero)))))) h = refl
marked_both a b (suc (suc (suc (suc (suc (suc (suc zero))))))) h = refl
marked_both a b (suc (suc (suc (suc (suc (suc (suc (suc i)))))))) h = absurd (omega arith)

pub marked_either : (a b : Marks) (i : ℕ) → i < 8 → marked (either a b) i ≡ (marked a i || marked b i)
unfolding either
marked_either a b zero h = refl
marked_either a b (suc zero) h = refl
marked_either a b (suc (suc zero)) h = refl
marked_either a b (suc (suc (suc zero))) h = refl
marked_either a b (suc (suc (suc (suc zero)))) h = refl
marked_either a b (suc (suc (suc (suc (suc zero))))) h = refl
marked_either a b (suc (suc (suc (suc (suc (suc zero)))))) h = refl
marked_either a b (suc (suc (suc (suc (suc (suc (suc zero))))))) h = refl
marked_either a b (suc (suc (suc (suc (suc (suc (suc (suc i)))))))) h = absurd (omega arith)

pub marked_without : (a b : Marks) (i : ℕ) → i < 8 → marked (without a b) i ≡ (marked a i && not (marked b i))
unfolding without
marked_without a b zero h = refl
marked_without a b (suc zero) h = refl
marked_without a b (suc (suc zero)) h = refl
marked_without a b (suc (suc (suc zero))) h = refl
marked_without a b (suc (suc (suc (suc zero)))) h = refl
marked_without a b (suc (suc (suc (suc (suc zero))))) h = refl
marked_without a b (suc (suc (suc (suc (suc (suc zero)))))) h = refl
marked_without a b (suc (suc (suc (suc (suc (suc (suc zero))))))) h = refl
marked_without a b (suc (suc (suc (suc (suc (suc (suc (suc i)))))))) h = absurd (omega arith)
