-- A row that `map` made is the row of what its closure gives of each.
use Rattle.std.proofs.Common.{ℕ, zero, suc, ◌≡◌, ◌<◌, ◌≤◌, ◌+◌, List, get_or, refl, ap, ◌∙◌, sym, subst, ⊎_elim, eq-or-lt_of_le, arith}
use Rattle.std.proofs.lemmas.List.{same_lists}
use Rattle.std.specs.Array.{IsMapOf, MapsFrom}
use Rattle.std.specs.Fn.{Called}
use denote.Param.Members.{Mut}
use Rattle.marks.proofs.Rows.{row_of, get_or-row_of}

module _ {F A B : Type 0} (g : Mut F (A × Unit {0}) B) (h : A → B) (f : F) (each : (x : A) (y : B) (q : F) → Called g f (x, tt) y q → (y ≡ h x) × (q ≡ f)) where
  read_from : (xs : List A) (ys : List B) (d : A) (e : B) (n i : ℕ) → i + n ≡ 8 → MapsFrom g f xs ys i n → (k : ℕ) → i ≤ k → k < 8 → get_or ys k e ≡ h (get_or xs k d)
  read_from xs ys d e zero i s made k from l = absurd (omega arith)
  read_from xs ys d e (suc n) i s made k from l =
      let told = each made.1 made.2 made.0 made.5 in
      ⊎_elim
      (λ q. subst (λ m. get_or ys m e ≡ h (get_or xs m d)) q (made.4.1 e ∙ told.0 ∙ ap h (sym (made.3.1 d))))
      (λ m. read_from xs ys d e n (i + 1) (omega arith) (subst (λ r. MapsFrom g r xs ys (i + 1) n) told.1 made.6) k (omega arith) l)
      (eq-or-lt_of_le from)

  pub row_of_map : (xs : List A) (ys : List B) (d : A) → IsMapOf g f xs ys 8 → ys ≡ row_of (λ i. h (get_or xs i d))
  row_of_map xs ys d made =
      same_lists ys (row_of (λ i. h (get_or xs i d))) made.long
      (λ k e l. let m : k < 8 = subst (λ n. k < n) made.long l in
      read_from xs ys d e 8 0 refl made.each k (omega arith) m ∙ sym (get_or-row_of (λ i. h (get_or xs i d)) e k m))
