-- Laws of lists and choices that the proofs of this crate share.
use Prim.Native.Nat.{ℕ, zero, suc, ◌≤◌, ◌<◌}
use mathlib.Core.Path.{◌≡◌, refl, sym, ◌∙◌}
use mathlib.Core.Bool.{Bool, true, false, cond}
use mathlib.Core.List.{List, [], ◌∷◌}
use native.Mathlib.Omega.{arith}
use native.Mathlib.Decide.{dec_lt}
use lib.ListN.{length, get_or, replicate, get_or-eq_default}
use lib.Seq.{ext_get_or}

module _ {A : Type 0} where
  -- lists of eight are equal if their elements are
  pub eight : {a₀ a₁ a₂ a₃ a₄ a₅ a₆ a₇ b₀ b₁ b₂ b₃ b₄ b₅ b₆ b₇ : A}
      → a₀ ≡ b₀ → a₁ ≡ b₁ → a₂ ≡ b₂ → a₃ ≡ b₃ → a₄ ≡ b₄ → a₅ ≡ b₅ → a₆ ≡ b₆ → a₇ ≡ b₇
      → ◌≡◌ {A = List A} (a₀ ∷ a₁ ∷ a₂ ∷ a₃ ∷ a₄ ∷ a₅ ∷ a₆ ∷ a₇ ∷ []) (b₀ ∷ b₁ ∷ b₂ ∷ b₃ ∷ b₄ ∷ b₅ ∷ b₆ ∷ b₇ ∷ [])
  eight p₀ p₁ p₂ p₃ p₄ p₅ p₆ p₇ = cc

  -- a list of eight that a function makes, read at a place
  pub made : (F : ℕ → A) (d : A) (i : ℕ) → i < 8 → get_or (F 0 ∷ F 1 ∷ F 2 ∷ F 3 ∷ F 4 ∷ F 5 ∷ F 6 ∷ F 7 ∷ []) i d ≡ F i
  made F d zero h = refl
  made F d (suc zero) h = refl
  made F d (suc (suc zero)) h = refl
  made F d (suc (suc (suc zero))) h = refl
  made F d (suc (suc (suc (suc zero)))) h = refl
  made F d (suc (suc (suc (suc (suc zero))))) h = refl
  made F d (suc (suc (suc (suc (suc (suc zero)))))) h = refl
  made F d (suc (suc (suc (suc (suc (suc (suc zero))))))) h = refl
  made F d (suc (suc (suc (suc (suc (suc (suc (suc i)))))))) h = absurd (omega arith)

  -- .. and anywhere, where it makes the default past the eighth
  pub made_all : (F : ℕ → A) (d : A) → ((i : ℕ) → 8 ≤ i → F i ≡ d) → (i : ℕ) → get_or (F 0 ∷ F 1 ∷ F 2 ∷ F 3 ∷ F 4 ∷ F 5 ∷ F 6 ∷ F 7 ∷ []) i d ≡ F i
  made_all F d past i = elim (dec_lt i 8) [
    | yes h ↦ made F d i h
    | no h ↦ get_or-eq_default (F 0 ∷ F 1 ∷ F 2 ∷ F 3 ∷ F 4 ∷ F 5 ∷ F 6 ∷ F 7 ∷ []) d {n = i} (omega arith) ∙ sym (past i (omega arith))
  ]

  -- a list of eight, its elements read one by one
  pub read_back : (xs : List A) (d : A) → length xs ≡ 8
      → get_or xs 0 d ∷ get_or xs 1 d ∷ get_or xs 2 d ∷ get_or xs 3 d ∷ get_or xs 4 d ∷ get_or xs 5 d ∷ get_or xs 6 d ∷ get_or xs 7 d ∷ [] ≡ xs
  read_back xs d e = ext_get_or d _ xs (sym e) (λ i h. made (λ k. get_or xs k d) d i h)

  -- a repeated value, read anywhere with itself as the default
  pub repeated : (n i : ℕ) (x : A) → get_or (replicate n x) i x ≡ x
  repeated zero i x = refl
  repeated (suc n) zero x = refl
  repeated (suc n) (suc i) x = repeated n i x

  pub chosen : (b : Bool) (x y : A) → b ≡ true → cond b x y ≡ x
  chosen b x y e = rw e

  pub other : (b : Bool) (x y : A) → b ≡ false → cond b x y ≡ y
  other b x y e = rw e
