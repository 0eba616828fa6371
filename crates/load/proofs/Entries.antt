-- What check 4 says of the cabinet entries of a file that it passes.
use Prim.Native.Nat.{ℕ, zero, suc, ◌+◌, ◌-◌, ◌≤◌, ◌<◌}
use mathlib.Core.Path.{◌≡◌, refl, ◌∙◌, ap}
use mathlib.Core.Bool.{Bool, true, false, not, ◌||◌, and-eq-true_iff}
use mathlib.Core.List.{List}
use mathlib.Core.Logic.{◌≢◌, ◌⊎◌, inl, inr, ⊎_elim}
use native.Mathlib.Omega.{arith}
use native.Mathlib.Decide.{ℕ_discrete}
use native.Mathlib.Nat.{eq-or-lt_of_le}
use lib.Dec.{leb, eqb}
use borrow.Author.Tests.{leb-true, eqb-true, eqb-false, not-true}
use Rattle.load.specs.Load.{cabinet_count, home_of, store_mark, partner_of, partners_right, partner_right, cabinet_right, cabinets_right}

or_split : (s t : Bool) → (s || t) ≡ true → (s ≡ true) ⊎ (t ≡ true)
or_split true t e = inl refl
or_split false t e = inr e

module _ (f : List ℕ) where
  pub right_at : (n : ℕ) → cabinets_right n f ≡ true → (i : ℕ) → i < n → cabinet_right f i ≡ true
  right_at zero r i h = absurd (omega arith)
  right_at (suc n) r i h =
      let parts = (and-eq-true_iff (cabinets_right n f) (cabinet_right f n)).0 r in
      ⊎_elim (λ q. ap (cabinet_right f) q ∙ parts.1) (λ l. right_at n parts.0 i l) (eq-or-lt_of_le (upto h))
    where
      upto : i < suc n → i ≤ n
      upto l = omega arith

  -- a partner that is named: one of 1 to n, another one, a store, and it names i
  pub record Named (i : ℕ) : Type 0 where
    pub first : 0 < partner_of f i
    pub last : partner_of f i ≤ cabinet_count f
    pub another : partner_of f i ≢ i + 1
    pub stores : eqb (store_mark f (partner_of f i - 1)) 1 ≡ true
    pub names : partner_of f (partner_of f i - 1) ≡ i + 1
    pub by_store : eqb (store_mark f i) 1 ≡ true

  pub record Entry (i : ℕ) : Type 0 where
    pub home_first : 1 ≤ home_of f i
    pub home_last : home_of f i ≤ cabinet_count f
    pub home_stores : eqb (store_mark f (home_of f i - 1)) 1 ≡ true
    pub partner : (partner_of f i ≡ 0) ⊎ Named i

  named : (i : ℕ) → partner_right f i ≡ true → (partner_of f i ≡ 0) ⊎ Named i
  named i r = elim (or_split (eqb (partner_of f i) 0) _ r) [
    | inl e ↦ inl (eqb-true (partner_of f i) 0 e)
    | inr e ↦
        let p = partner_of f i in
        let all = (and-eq-true_iff (eqb (store_mark f i) 1) (partners_right f i p)).0 e in
        let lasts = (and-eq-true_iff (leb p (cabinet_count f)) _).0 all.1 in
        let others = (and-eq-true_iff (not (eqb p (i + 1))) _).0 lasts.1 in
        let stores = (and-eq-true_iff (eqb (store_mark f (p - 1)) 1) (eqb (partner_of f (p - 1)) (i + 1))).0 others.1 in
        go all.0 (leb-true p (cabinet_count f) lasts.0) (eqb-false p (i + 1) (not-true (eqb p (i + 1)) others.0)) stores.0
        (eqb-true (partner_of f (p - 1)) (i + 1) stores.1)
  ]
    where
      go : eqb (store_mark f i) 1 ≡ true → partner_of f i ≤ cabinet_count f → partner_of f i ≢ i + 1 → eqb (store_mark f (partner_of f i - 1)) 1 ≡ true
          → partner_of f (partner_of f i - 1) ≡ i + 1 → (partner_of f i ≡ 0) ⊎ Named i
      go by last another stores names = elim (ℕ_discrete (partner_of f i) 0) [
        | yes q ↦ inl q
        | no n ↦ inr (record { first = omega arith; last = last; another = another; stores = stores; names = names; by_store = by })
      ]

  pub right_entry : (i : ℕ) → cabinet_right f i ≡ true → Entry i
  right_entry i r =
      let home = home_of f i in
      let all = ((and-eq-true_iff (leb (store_mark f i) 1) _).0 r).1 in
      let first = (and-eq-true_iff (leb 1 home) _).0 all in
      let last = (and-eq-true_iff (leb home (cabinet_count f)) _).0 first.1 in
      let stores = (and-eq-true_iff (eqb (store_mark f (home - 1)) 1) (partner_right f i)).0 last.1 in
      record {
        home_first = leb-true 1 home first.0;
        home_last = leb-true home (cabinet_count f) last.0;
        home_stores = stores.0;
        partner = named i stores.1;
      }
