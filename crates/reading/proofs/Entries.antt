-- `all` over the numbers below n answers what a definition says that takes them one by one.
use Rattle.std.proofs.Common.{List, ℕ, zero, suc, ◌≡◌, ◌≤◌, ◌<◌, length, get_or, refl, sym, subst, ◌∙◌, Bool, true, false, ◌&&◌, arith, ⊎_elim, eq-or-lt_of_le}
use Rattle.std.specs.Prelude.{Option, MatchOption}
use Rattle.std.specs.Bool.{MatchBool}
use Rattle.std.specs.Fn.{Called}
use Rattle.std.specs.Iterator.{YieldsThen}
use Rattle.std.specs.List.{range_with_len, FoldsTo, AllWithin, HoldsAt}
use Rattle.std.proofs.lemmas.List.FromFn.{length-range_with_len, get_or-range_with_len}
use Rattle.std.proofs.lemmas.Iterator.{YieldsList-from_range, cases_from_all}
use Rattle.std.proofs.iter.Yields.{nat_range_steps}
use Rattle.std.specs.declared.ops.Range.{Range}
use denote.Param.Members.{Mut}

never : (b : Bool) → (b && false) ≡ false
never true = refl
never false = refl

module _ (test so : ℕ → Bool) (none : so 0 ≡ true) (more : (n : ℕ) → so (suc n) ≡ (so n && test n)) where
  right : (n : ℕ) → ((k : ℕ) → k < n → test k ≡ true) → so n ≡ true
  right zero h = none
  right (suc n) h = more n ∙ rw (right n (λ k l. h k (omega arith)), h n (omega arith))

  wrong : (n k : ℕ) → k < n → test k ≡ false → so n ≡ false
  wrong zero k l e = absurd (omega arith)
  wrong (suc n) k l e =
      let upto : k ≤ n = omega arith in
      more n ∙ ⊎_elim (λ q. rw (subst (λ i. test i ≡ false) q e) (never (so n))) (λ m. rw (wrong n k m e)) (eq-or-lt_of_le upto)

  answers : (n : ℕ) (r : Bool) → MatchBool r (AllWithin (λ k. test k ≡ true) (range_with_len 0 n) 0 (length (range_with_len 0 n)))
      ((k : ℕ) × (k < length (range_with_len 0 n)) × HoldsAt (λ k. test k ≡ false) (range_with_len 0 n) k) → r ≡ so n
  answers n true m = sym (right n (λ k l.
      let at : get_or (range_with_len 0 n) k 0 ≡ k = omega (arith, get_or-range_with_len 0 n k 0 l) in
      subst (λ i. test i ≡ true) at (m k 0 (omega arith) (omega (arith, length-range_with_len 0 n)))))
  answers n false m =
      let l : m.0 < n = omega (arith, length-range_with_len 0 n, m.1) in
      let at : get_or (range_with_len 0 n) m.0 0 ≡ m.0 = omega (arith, get_or-range_with_len 0 n m.0 0 l) in
      sym (wrong n m.0 l (subst (λ i. test i ≡ false) at (m.2 0)))

  pub all_below : {F : Type 0} {g : Mut F (ℕ × Unit {0}) Bool} (n : ℕ) (u : Range ℕ) (f : F) (r : Bool)
      → (xs : List ℕ) × (o : Option ℕ) × (j : F) × YieldsThen nat_range_steps (record { start = 0; end = n }) xs o u × FoldsTo (λ p x q. Called g p (x, tt) true q) f xs j × MatchOption o (r ≡ true) (λ x. (r ≡ false) × ((h : F) × Called g j (x, tt) false h))
      → ((x : ℕ) (b : Bool) (q : F) → Called g f (x, tt) b q → (q ≡ f) × (b ≡ test x)) → r ≡ so n
  all_below n u f r ran each =
      answers n r (cases_from_all u f r (λ k. test k ≡ true) (λ k. test k ≡ false) ran (YieldsList-from_range 0 n n refl (omega arith))
      (λ x q c. let told = each x true q c in (told.0, sym told.1)) (λ x q c. sym (each x false q c).1))
