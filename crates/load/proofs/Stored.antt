-- The store that a file makes: its homes, stores, partners and slots at every number, and what holds of it.
use Prim.Native.Nat.{ℕ, ◌-◌, ◌≤◌, ◌<◌}
use mathlib.Core.Path.{◌≡◌, refl, sym, ◌∙◌, ap}
use mathlib.Core.Bool.{Bool, true, false, cond, ◌&&◌, and-eq-true_iff}
use mathlib.Core.List.{List}
use mathlib.Core.Logic.{◌≢◌, ◌⊎◌, inl, inr, ⊎_elim}
use native.Mathlib.Omega.{arith}
use native.Mathlib.Decide.{dec_lt}
use lib.ListN.{get_or}
use lib.Dec.{ltb, eqb}
use borrow.Author.Tests.{lt-ltb, le-ltb, ltb-true}
use Rattle.image.specs.declared.Image.{Image}
use Rattle.image.specs.Image.{blank_image}
use Rattle.store.specs.declared.Slots.{Slots}
use Rattle.store.specs.declared.Store.{Store}
use Rattle.store.specs.Store.{blank_slots, file_home, is_store, partner, is_present, home_in, copy_at, slot_at, of_each}
use Rattle.store.specs.Served.{Served}
use Rattle.load.specs.Load.{cabinet_count, home_of, store_mark, partner_of, image_of, slots_of, home_number, is_store_in, partner_number, store_of}
use Rattle.load.proofs.Lists.{made_all, chosen, other}
use Rattle.load.proofs.Entries.{Named, Entry}

and_fails : (s t : Bool) → s ≡ false → (s && t) ≡ false
and_fails s t e = rw e

and_fails_too : (s t : Bool) → t ≡ false → (s && t) ≡ false
and_fails_too true t e = e
and_fails_too false t e = refl

and_both : (s t : Bool) → s ≡ true → t ≡ true → (s && t) ≡ true
and_both s t p q = rw (p, q)

either : (t : Bool) {x : Slots} → cond t x x ≡ x
either true = refl
either false = refl

-- ---- the entries' numbers

module _ (f : List ℕ) where
  home_in_lem : (i : ℕ) → i < cabinet_count f → home_number f i ≡ home_of f i - 1
  home_in_lem i h = chosen (ltb i (cabinet_count f)) (home_of f i - 1) 8 (lt-ltb i (cabinet_count f) h)

  home_past : (i : ℕ) → cabinet_count f ≤ i → home_number f i ≡ 8
  home_past i h = other (ltb i (cabinet_count f)) (home_of f i - 1) 8 (le-ltb i (cabinet_count f) h)

  pub store_in : (i : ℕ) → i < cabinet_count f → is_store_in f i ≡ eqb (store_mark f i) 1
  store_in i h = rw (lt-ltb i (cabinet_count f) h)

  store_past : (i : ℕ) → cabinet_count f ≤ i → is_store_in f i ≡ false
  store_past i h = and_fails (ltb i (cabinet_count f)) (eqb (store_mark f i) 1) (le-ltb i (cabinet_count f) h)

  store_within : (i : ℕ) → is_store_in f i ≡ true → i < cabinet_count f
  store_within i e = ltb-true i (cabinet_count f) ((and-eq-true_iff (ltb i (cabinet_count f)) (eqb (store_mark f i) 1)).0 e).0

  partner_none : (i : ℕ) → partner_of f i ≡ 0 → partner_number f i ≡ 8
  partner_none i e =
      other (ltb i (cabinet_count f) && ltb 0 (partner_of f i)) (partner_of f i - 1) 8
      (and_fails_too (ltb i (cabinet_count f)) (ltb 0 (partner_of f i)) (le-ltb 0 (partner_of f i) (omega arith)))

  partner_named : (i : ℕ) → i < cabinet_count f → 0 < partner_of f i → partner_number f i ≡ partner_of f i - 1
  partner_named i h p =
      chosen (ltb i (cabinet_count f) && ltb 0 (partner_of f i)) (partner_of f i - 1) 8
      (and_both (ltb i (cabinet_count f)) (ltb 0 (partner_of f i)) (lt-ltb i (cabinet_count f) h) (lt-ltb 0 (partner_of f i) p))

  pub partner_in : (i : ℕ) → i < cabinet_count f → partner_number f i ≡ cond (ltb 0 (partner_of f i)) (partner_of f i - 1) 8
  partner_in i h = rw (lt-ltb i (cabinet_count f) h)

  partner_past : (i : ℕ) → cabinet_count f ≤ i → partner_number f i ≡ 8
  partner_past i h =
      other (ltb i (cabinet_count f) && ltb 0 (partner_of f i)) (partner_of f i - 1) 8
      (and_fails (ltb i (cabinet_count f)) (ltb 0 (partner_of f i)) (le-ltb i (cabinet_count f) h))

  slots_past : (i : ℕ) → cabinet_count f ≤ i → slots_of f i ≡ blank_slots
  slots_past i h = other (ltb i (cabinet_count f)) (record { zero = image_of f i; one = blank_image }) blank_slots (le-ltb i (cabinet_count f) h)

-- ---- what stands at a number

module _ (f : List ℕ) (most : cabinet_count f ≤ 8) where
  abbrev st : Store
  st = store_of f

  pub home_at : (i : ℕ) → file_home st i ≡ home_number f i
  home_at = made_all (home_number f) 8 (λ i h. home_past f i (omega arith))

  pub store_at : (i : ℕ) → is_store st i ≡ is_store_in f i
  store_at = made_all (is_store_in f) false (λ i h. store_past f i (omega arith))

  pub partner_at : (i : ℕ) → partner st i ≡ partner_number f i
  partner_at = made_all (partner_number f) 8 (λ i h. partner_past f i (omega arith))

  slots_at : (i : ℕ) → get_or (of_each (slots_of f)) i blank_slots ≡ slots_of f i
  slots_at = made_all (slots_of f) blank_slots (λ i h. slots_past f i (omega arith))

  -- every store has the same
  copy_at_lem : (h i : ℕ) → copy_at st h i ≡ slots_of f i
  unfolding copy_at
  copy_at_lem h i = either (eqb h (file_home st i)) ∙ slots_at i

  pub slot_here : (h i : ℕ) → i < cabinet_count f → slot_at st h i false ≡ image_of f i
  unfolding slot_at
  slot_here h i l =
      ap (λ (s : Slots). s.zero)
      (copy_at_lem h i ∙ chosen (ltb i (cabinet_count f)) (record { zero = image_of f i; one = blank_image }) blank_slots (lt-ltb i (cabinet_count f) l))

  pub slot_gone : (h i : ℕ) (v : Bool) → cabinet_count f ≤ i → slot_at st h i v ≡ blank_image
  unfolding slot_at blank_slots
  slot_gone h i true l = ap (λ (s : Slots). s.one) (copy_at_lem h i ∙ slots_past f i l)
  slot_gone h i false l = ap (λ (s : Slots). s.zero) (copy_at_lem h i ∙ slots_past f i l)

  pub slot_one : (h i : ℕ) → slot_at st h i true ≡ blank_image
  unfolding slot_at
  slot_one h i = elim (dec_lt i (cabinet_count f)) [
    | yes l ↦ ap (λ (s : Slots). s.one)
        (copy_at_lem h i ∙ chosen (ltb i (cabinet_count f)) (record { zero = image_of f i; one = blank_image }) blank_slots (lt-ltb i (cabinet_count f) l))
    | no l ↦ slot_gone h i true (omega arith)
  ]

  -- what holds of the starting image and of a blank one, holds of every slot
  pub either_slot : (P : Image → Type 0) (h i : ℕ) (v : Bool) → P (image_of f i) → P blank_image → P (slot_at st h i v)
  either_slot P h i true s a = rw (slot_one h i) a
  either_slot P h i false s a =
      elim (dec_lt i (cabinet_count f)) [ yes l ↦ rw (slot_here h i l) s | no l ↦ rw (slot_gone h i false (omega arith)) a ]

  -- ---- where every entry is right

  module _ (entry : (i : ℕ) → i < cabinet_count f → Entry f i) where
    within : (i : ℕ) → is_store st i ≡ true → i < cabinet_count f
    within i e = store_within f i (sym (store_at i) ∙ e)

    pub home_is : (i : ℕ) → i < cabinet_count f → file_home st i ≡ home_of f i - 1
    home_is i h = home_at i ∙ home_in_lem f i h

    home_stores : (i : ℕ) → i < cabinet_count f → is_store st (file_home st i) ≡ true
    home_stores i h =
        let e = entry i h in
        ap (is_store st) (home_is i h) ∙ (store_at (home_of f i - 1) ∙ (store_in f (home_of f i - 1) (omega (arith, e.home_first, e.home_last)) ∙ e.home_stores))

    homed : (c : ℕ) → (file_home st c ≡ 8) ⊎ (is_store st (file_home st c) ≡ true)
    homed c = elim (dec_lt c (cabinet_count f)) [ yes h ↦ inr (home_stores c h) | no h ↦ inl (home_at c ∙ home_past f c (omega arith)) ]

    -- a store's partner: none, or one that names it
    partnered : (h : ℕ) → is_store st h ≡ true
        → (partner st h ≡ 8) ⊎ ((partner st h ≢ h) × (partner st (partner st h) ≡ h))
    partnered h e = ⊎_elim
        (λ q. inl (partner_at h ∙ partner_none f h q))
        (λ n. inr (
          (λ q. n.another (omega (arith, n.first, sym (is n) ∙ q))),
          ap (partner st) (is n)
              ∙ (partner_at (partner_of f h - 1)
              ∙ (partner_named f (partner_of f h - 1) (omega (arith, n.first, n.last)) (omega (arith, n.names)) ∙ omega (arith, n.names))),
        ))
        (entry h (within h e)).partner
      where
        is : Named f h → partner st h ≡ partner_of f h - 1
        is n = partner_at h ∙ partner_named f h (within h e) n.first

    -- who names one is a store, and so is the one named
    paired : (h : ℕ) → (partner st h ≡ 8) ⊎ ((is_store st h ≡ true) × (is_store st (partner st h) ≡ true))
    paired h = elim (dec_lt h (cabinet_count f)) [
      | yes l ↦ ⊎_elim (λ q. inl (partner_at h ∙ partner_none f h q))
          (λ n. inr (
            store_at h ∙ (store_in f h l ∙ n.by_store),
            ap (is_store st) (partner_at h ∙ partner_named f h l n.first)
                ∙ (store_at (partner_of f h - 1) ∙ (store_in f (partner_of f h - 1) (omega (arith, n.first, n.last)) ∙ n.stores)),
          ))
          (entry h l).partner
      | no l ↦ inl (partner_at h ∙ partner_past f h (omega arith))
    ]

    pub served : Served st
    unfolding home_in copy_at
    served = record {
      eight_partners = refl;
      eight_present = refl;
      eight_firsts = refl;
      eight_seconds = refl;
      homed = homed;
      store_below = λ h e. omega (arith, within h e);
      paired = paired;
      other = λ h e q. ⊎_elim (λ p. omega (arith, within h e, p, q)) (λ p. p.0 q) (partnered h e);
      each_other = λ h e k. ⊎_elim (λ p. absurd (omega (arith, within (partner st h) k, p))) (λ p. p.1) (partnered h e);
      present_stores = λ h e. e;
      served = λ c e. ap (is_present st) (chosen (is_present st (file_home st c)) (file_home st c) (partner st (file_home st c)) e) ∙ e;
      alike = λ c p q. either (eqb (file_home st c) (file_home st c)) ∙ sym (either (eqb (partner st (file_home st c)) (file_home st c)));
    }

    -- every cabinet's home is present, and is the file's
    pub home_is_in : (i : ℕ) → i < cabinet_count f → home_in st i ≡ home_of f i - 1
    unfolding home_in
    home_is_in i h =
        chosen (is_present st (file_home st i)) (file_home st i) (partner st (file_home st i)) (home_stores i h) ∙ home_is i h

    pub home_there : (i : ℕ) → i < cabinet_count f → is_present st (home_in st i) ≡ true
    home_there i h = served.served i (home_stores i h)

    pub present_within : (h : ℕ) → is_present st h ≡ true → h < cabinet_count f
    present_within h e = within h e
