-- A row that `array::from_fn` made is the row of what its closure gives.
use Rattle.std.proofs.Common.{ℕ, zero, suc, ◌≡◌, ◌<◌, ◌≤◌, ◌+◌, List, [], ◌∷◌, get_or, refl, ◌∙◌, sym, subst, ⊎_elim, eq-or-lt_of_le, arith, set, ap, length}
use Rattle.std.proofs.lemmas.List.{same_lists}
use Rattle.marks.proofs.Lists.{get_d_in}
use Rattle.std.specs.Array.{IsFromFnResult, IsFromFnResultFrom}
use Rattle.std.specs.Fn.{Called}
use denote.Param.Members.{Mut}

abbrev pub row_of : {B : Type 0} → (ℕ → B) → List B
row_of h = h 0 ∷ h 1 ∷ h 2 ∷ h 3 ∷ h 4 ∷ h 5 ∷ h 6 ∷ h 7 ∷ []

pub get_or-row_of : {B : Type 0} (h : ℕ → B) (d : B) (i : ℕ) → i < 8 → get_or (row_of h) i d ≡ h i
get_or-row_of h d zero l = refl
get_or-row_of h d (suc zero) l = refl
get_or-row_of h d (suc (suc zero)) l = refl
get_or-row_of h d (suc (suc (suc zero))) l = refl
get_or-row_of h d (suc (suc (suc (suc zero)))) l = refl
get_or-row_of h d (suc (suc (suc (suc (suc zero))))) l = refl
get_or-row_of h d (suc (suc (suc (suc (suc (suc zero)))))) l = refl
get_or-row_of h d (suc (suc (suc (suc (suc (suc (suc zero))))))) l = refl
get_or-row_of h d (suc (suc (suc (suc (suc (suc (suc (suc i)))))))) l = absurd (omega arith)

module _ {F B : Type 0} (g : Mut F (ℕ × Unit {0}) B) (h : ℕ → B) (f : F) (each : (i : ℕ) (y : B) (q : F) → i < 8 → Called g f (i, tt) y q → (y ≡ h i) × (q ≡ f)) where
  read_from : (ys : List B) (d : B) (n i : ℕ) → i + n ≡ 8 → IsFromFnResultFrom g f ys i n → (k : ℕ) → i ≤ k → k < 8 → get_or ys k d ≡ h k
  read_from ys d zero i e made k from l = absurd (omega arith)
  read_from ys d (suc n) i e made k from l =
      let told = each i made.1 made.0 (omega arith) made.3 in
      ⊎_elim
      (λ q. subst (λ m. get_or ys m d ≡ h m) q (made.2.1 d ∙ told.0))
      (λ m. read_from ys d n (i + 1) (omega arith) (subst (λ r. IsFromFnResultFrom g r ys (i + 1) n) told.1 made.4) k (omega arith) l)
      (eq-or-lt_of_le from)

  pub row_of_calls : (ys : List B) → IsFromFnResult g f ys 8 → ys ≡ row_of h
  row_of_calls ys made =
      same_lists ys (row_of h) made.long
      (λ k d l. let m : k < 8 = subst (λ n. k < n) made.long l in
      read_from ys d 8 0 refl made.each k (omega arith) m ∙ sym (get_or-row_of h d k m))

-- A row of eight that is gone through from 0 up, each element replaced by what f makes of it, is the row of what f makes.
module _ {A : Type 0} (f : ℕ → A → A) (d : A) where
  abbrev pub gone_through : ℕ → List A → List A
  gone_through zero xs = xs
  gone_through (suc n) xs = set (gone_through n xs) n (f n (get_or (gone_through n xs) n d))

  own_row : (xs : List A) → length xs ≡ 8 → row_of (λ i. get_or xs i d) ≡ xs
  own_row xs long =
      same_lists (row_of (λ i. get_or xs i d)) xs (sym long)
      (λ k e l. get_or-row_of (λ i. get_or xs i d) e k l ∙ get_d_in xs k d e (subst (λ n. k < n) (sym long) l))

  pub row_gone_through : (xs : List A) → length xs ≡ 8 → row_of (λ i. f i (get_or xs i d)) ≡ gone_through 8 xs
  row_gone_through xs long = ap (gone_through 8) (own_row xs long)
