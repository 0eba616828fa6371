-- What each change of the store keeps, and what it makes of each cabinet's home and slots.
use Prim.Native.Nat.{ℕ, zero, suc, ◌<◌}
use mathlib.Core.Path.{◌≡◌, refl, sym, ◌∙◌, ap}
use mathlib.Core.Logic.{◌≢◌, ◌⊎◌, inl, inr, ⊎_elim}
use mathlib.Core.Bool.{Bool, true, false, cond, not, ◌&&◌, ◌||◌, true≢false, and-eq-true_iff}
use mathlib.Core.List.{List, [], ◌∷◌}
use native.Mathlib.Omega.{arith}
use native.Mathlib.Decide.{ℕ_discrete, dec_lt}
use lib.ListN.{length, get_or, set, length-set, get_or-eq_default}
use lib.Seq.{get_or-set_same, get_or-set_other, set_out}
use lib.Dec.{eqb}
use borrow.Author.Tests.{eqb-true, eq-eqb, ne_eqb, not-true, not-false}
use Rattle.marks.specs.Marks.{Marks, marked}
use Rattle.image.specs.declared.Image.{Image}
use Rattle.image.specs.Image.{blank_image, with_piece}
use Rattle.store.specs.declared.Slots.{Slots}
use Rattle.store.specs.declared.Store.{Store}
use Rattle.store.specs.Store.{blank_slots, slot_in, with_slot_in, with_firsts, with_seconds, file_home, is_store, partner, is_present, home_in, is_last, is_away, first_of, second_of, copy_at, with_copy_at, slot_at, piece_at, put_piece, leaves, first_back, second_back, of_each, comes_back, set_slots}
use Rattle.store.specs.Served.{Served}

-- ---- tests and choices

-- the two versions are one
abbrev pub same : Bool → Bool → Bool
same a b = cond a b (not b)

never : {t : Bool} → t ≡ true → t ≡ false → ⊥
never e f = true≢false (sym e ∙ f)

either : (t : Bool) → (t ≡ true) ⊎ (t ≡ false)
either true = inl refl
either false = inr refl

and_same : (t : Bool) → t ≡ (t && true)
and_same true = refl
and_same false = refl

and-false : (t : Bool) → false ≡ (t && false)
and-false true = refl
and-false false = refl

or_true : (t : Bool) → true ≡ (t || true)
or_true true = refl
or_true false = refl

or-false : (t : Bool) → t ≡ (t || false)
or-false true = refl
or-false false = refl

or_split : (s t : Bool) → (s || t) ≡ true → (s ≡ true) ⊎ (t ≡ true)
or_split true t e = inl refl
or_split false t e = inr e

module _ {A : Type 0} where
  chosen : (t : Bool) (x y : A) → t ≡ true → cond t x y ≡ x
  chosen t x y e = rw e

  other : (t : Bool) (x y : A) → t ≡ false → cond t x y ≡ y
  other t x y e = rw e

  -- a choice between equal ones
  alike : (t u : Bool) {x y : A} → x ≡ y → cond t x y ≡ cond u x y
  alike true true e = refl
  alike true false e = e
  alike false true e = sym e
  alike false false e = refl

-- ---- marks

unset : (l : Marks) (a : ℕ) → marked (set l a false) a ≡ false
unset [] a = refl
unset (x ∷ l) zero = refl
unset (x ∷ l) (suc a) = unset l a

unset_mark : (l : Marks) (a h : ℕ) → marked (set l a false) h ≡ (marked l h && not (eqb h a))
unset_mark l a h = elim (ℕ_discrete h a) [
  | yes e ↦ rw (e, eq-eqb a a refl, unset l a) (and-false (marked l a))
  | no n ↦ rw (ne_eqb h a n, get_or-set_other l a h false false n) (and_same (marked l h))
]

set_mark : (l : Marks) (a h : ℕ) → a < length l → marked (set l a true) h ≡ (marked l h || eqb h a)
set_mark l a h b = elim (ℕ_discrete h a) [
  | yes e ↦ rw (e, eq-eqb a a refl, get_or-set_same l a true false b) (or_true (marked l a))
  | no n ↦ rw (ne_eqb h a n, get_or-set_other l a h true false n) (or-false (marked l h))
]

-- ---- who is present

pub leave_present : (s : Store) (a h : ℕ) → is_present (leaves s a) h ≡ (is_present s h && not (eqb h a))
unfolding leaves
leave_present s a h = unset_mark s.present a h

pub not_last : (s : Store) (a : ℕ) → is_last s a ≡ false → is_store s a ≡ true → is_present s (partner s a) ≡ true
unfolding is_last
not_last s a e h = not-false (is_present s (partner s a)) (sym (ap (λ (t : Bool). t && not (is_present s (partner s a))) h) ∙ e)

pub away_store : (s : Store) (a : ℕ) → is_away s a ≡ true → (is_store s a ≡ true) × (is_present s a ≡ false)
unfolding is_away
away_store s a e =
    let p = (and-eq-true_iff (is_store s a) (not (is_present s a))).0 e in
    (p.0, not-true (is_present s a) p.1)

pub back_present : (s : Store) → Served s → (a : ℕ) → is_away s a ≡ true → (h : ℕ) → is_present (comes_back s a) h ≡ (is_present s h || eqb h a)
unfolding comes_back
back_present s ok a e h =
    let below = ok.store_below a (away_store s a e).0 in
    set_mark s.present a h (omega (arith, ok.eight_present))

-- ---- the home

home_there : (s : Store) (c : ℕ) → is_present s (file_home s c) ≡ true → home_in s c ≡ file_home s c
unfolding home_in
home_there s c e = chosen (is_present s (file_home s c)) (file_home s c) (partner s (file_home s c)) e

home_gone : (s : Store) (c : ℕ) → is_present s (file_home s c) ≡ false → home_in s c ≡ partner s (file_home s c)
unfolding home_in
home_gone s c e = other (is_present s (file_home s c)) (file_home s c) (partner s (file_home s c)) e

pub away_home : (s : Store) (a : ℕ) → is_away s a ≡ true → (c : ℕ) → file_home s c ≡ a → home_in s c ≡ partner s a
away_home s a e c h = home_gone s c (ap (is_present s) h ∙ (away_store s a e).1) ∙ ap (partner s) h

module _ (s : Store) (ok : Served s) where
  -- no cabinet has the number 8
  none_partner : partner s 8 ≡ 8
  none_partner = get_or-eq_default s.partners 8 (omega (arith, ok.eight_partners))

  -- a store that is present is not its own partner
  apart : (h : ℕ) → is_present s h ≡ true → partner s h ≢ h
  apart h e = ok.other h (ok.present_stores h e)

  -- where a cabinet's home in the file is not present, its partner is, or the file names none
  stands_in : (c : ℕ) → is_present s (file_home s c) ≡ false
      → ((file_home s c ≡ 8) × (partner s (file_home s c) ≡ 8)) ⊎ ((is_store s (file_home s c) ≡ true) × (is_present s (partner s (file_home s c)) ≡ true))
  stands_in c e =
      ⊎_elim
      (λ n. inl (n, ap (partner s) n ∙ none_partner))
      (λ h. inr (h, sym (ap (is_present s) (home_gone s c e)) ∙ ok.served c h))
      (ok.homed c)

  -- a store that stands in for another is the last of its pair
  is_last_lem : (a f : ℕ) → is_last s a ≡ false → is_store s f ≡ true → is_present s f ≡ false → is_present s (partner s f) ≡ true → partner s f ≡ a → ⊥
  is_last_lem a f l h e p q =
      let stores = ok.present_stores (partner s f) p in
      let back : partner s a ≡ f = sym (ap (partner s) q) ∙ ok.each_other f h stores in
      never (not_last s a l (sym (ap (is_store s) q) ∙ stores)) (ap (is_present s) back ∙ e)

-- ---- the slots that a store has

first_at : (s : Store) (c : ℕ) → copy_at s (file_home s c) c ≡ first_of s c
unfolding copy_at
first_at s c = chosen (eqb (file_home s c) (file_home s c)) (first_of s c) (second_of s c) (eq-eqb (file_home s c) (file_home s c) refl)

second_at : (s : Store) (h c : ℕ) → h ≢ file_home s c → copy_at s h c ≡ second_of s c
unfolding copy_at
second_at s h c n = other (eqb h (file_home s c)) (first_of s c) (second_of s c) (ne_eqb h (file_home s c) n)

module _ (s : Store) (ok : Served s) where
  -- where both of a pair are present, they have the same
  one_copy : (c : ℕ) → is_present s (file_home s c) ≡ true → is_present s (partner s (file_home s c)) ≡ true → first_of s c ≡ second_of s c
  one_copy c p q =
      sym (first_at s c) ∙ (ok.alike c p q ∙ second_at s (partner s (file_home s c)) c (apart s ok (file_home s c) p))

  -- other slots, which are the same where both of a pair are present
  lists_kept : (xs ys : List Slots) → length xs ≡ 8 → length ys ≡ 8
      → ((c : ℕ) → is_present s (file_home s c) ≡ true → is_present s (partner s (file_home s c)) ≡ true → get_or xs c blank_slots ≡ get_or ys c blank_slots)
      → Served (with_seconds (with_firsts s xs) ys)
  unfolding home_in copy_at
  lists_kept xs ys l m e = record {
    eight_partners = ok.eight_partners;
    eight_present = ok.eight_present;
    eight_firsts = l;
    eight_seconds = m;
    homed = ok.homed;
    store_below = ok.store_below;
    paired = ok.paired;
    other = ok.other;
    each_other = ok.each_other;
    present_stores = ok.present_stores;
    served = ok.served;
    alike = λ c p q. alike (eqb (file_home s c) (file_home s c)) (eqb (partner s (file_home s c)) (file_home s c)) (e c p q);
  }

-- ---- a piece is written

-- the slots with piece k of image m in slot v
abbrev written : Slots → Bool → ℕ → Image → Slots
written x v k m = with_slot_in x v (with_piece k m (slot_in x v))

written_slot : (x : Slots) (v : Bool) (k : ℕ) (m : Image) (w : Bool)
    → slot_in (written x v k m) w ≡ cond (same v w) (with_piece k m (slot_in x v)) (slot_in x w)
written_slot x true k m true = refl
written_slot x true k m false = refl
written_slot x false k m true = refl
written_slot x false k m false = refl

-- what holds of the store before, and of it with the piece at either place, holds of it with the piece at h
piece_elim : (Q : Store → Type 0) (s : Store) (h c : ℕ) (v : Bool) (k : ℕ) (m : Image) → Q s
    → Q (with_firsts s (set s.firsts c (written (copy_at s h c) v k m)))
    → Q (with_seconds s (set s.seconds c (written (copy_at s h c) v k m)))
    → Q (piece_at s h c v k m)
unfolding piece_at with_copy_at slot_at
piece_elim Q s h c v k m q f g = go (is_present s h) (eqb h (file_home s c))
  where
    go : (t u : Bool) → Q (cond t (cond u (with_firsts s (set s.firsts c (written (copy_at s h c) v k m))) (with_seconds s (set s.seconds c (written (copy_at s h c) v k m)))) s)
    go true true = f
    go true false = g
    go false u = q

module _ (h c : ℕ) (v : Bool) (k : ℕ) (m : Image) where
  at_home : (s : Store) (d : ℕ) → home_in (piece_at s h c v k m) d ≡ home_in s d
  unfolding home_in
  at_home s d = piece_elim (λ (r : Store). home_in r d ≡ home_in s d) s h c v k m refl refl refl

  at_present : (s : Store) (g : ℕ) → is_present (piece_at s h c v k m) g ≡ is_present s g
  at_present s g = piece_elim (λ (r : Store). is_present r g ≡ is_present s g) s h c v k m refl refl refl

  at_stores : (s : Store) (g : ℕ) → is_store (piece_at s h c v k m) g ≡ is_store s g
  at_stores s g = piece_elim (λ (r : Store). is_store r g ≡ is_store s g) s h c v k m refl refl refl

  at_other : (s : Store) (g d : ℕ) (w : Bool) → d ≢ c → slot_at (piece_at s h c v k m) g d w ≡ slot_at s g d w
  unfolding slot_at copy_at
  at_other s g d w n =
      piece_elim (λ (r : Store). slot_at r g d w ≡ slot_at s g d w) s h c v k m refl
      (ap (λ (x : Slots). slot_in (cond (eqb g (file_home s d)) x (second_of s d)) w) (get_or-set_other s.firsts c d _ blank_slots n))
      (ap (λ (x : Slots). slot_in (cond (eqb g (file_home s d)) (first_of s d) x) w) (get_or-set_other s.seconds c d _ blank_slots n))

module _ (s : Store) (c : ℕ) (v : Bool) (k : ℕ) (m : Image) where
  pub piece_home : (d : ℕ) → home_in (put_piece s c v k m) d ≡ home_in s d
  unfolding put_piece
  piece_home d = at_home (partner s (file_home s c)) c v k m (piece_at s (file_home s c) c v k m) d ∙ at_home (file_home s c) c v k m s d

  pub piece_present : (h : ℕ) → is_present (put_piece s c v k m) h ≡ is_present s h
  unfolding put_piece
  piece_present h = at_present (partner s (file_home s c)) c v k m (piece_at s (file_home s c) c v k m) h ∙ at_present (file_home s c) c v k m s h

  pub piece_stores : (h : ℕ) → is_store (put_piece s c v k m) h ≡ is_store s h
  unfolding put_piece
  piece_stores h = at_stores (partner s (file_home s c)) c v k m (piece_at s (file_home s c) c v k m) h ∙ at_stores (file_home s c) c v k m s h

  pub piece_other : (h d : ℕ) (w : Bool) → d ≢ c → slot_at (put_piece s c v k m) h d w ≡ slot_at s h d w
  unfolding put_piece
  piece_other h d w n =
      at_other (partner s (file_home s c)) c v k m (piece_at s (file_home s c) c v k m) h d w n ∙ at_other (file_home s c) c v k m s h d w n

-- ---- .. at both stores of a pair: exactly what becomes of the two lists

set_if : (s : Store) (t : Bool) (xs : List Slots) → cond t (with_firsts s xs) s ≡ with_firsts s (cond t xs s.firsts)
set_if s true xs = refl
set_if s false xs = refl

module _ (c : ℕ) (v : Bool) (k : ℕ) (m : Image) where
  at_first : (s : Store)
      → piece_at s (file_home s c) c v k m ≡ with_firsts s (cond (is_present s (file_home s c)) (set s.firsts c (written (first_of s c) v k m)) s.firsts)
  unfolding piece_at with_copy_at slot_at
  at_first s =
      rw (eq-eqb (file_home s c) (file_home s c) refl, first_at s c)
      (set_if s (is_present s (file_home s c)) (set s.firsts c (written (first_of s c) v k m)))

  at_second : (s : Store) (h : ℕ) → (is_present s h ≡ true → h ≢ file_home s c)
      → piece_at s h c v k m ≡ with_seconds s (cond (is_present s h) (set s.seconds c (written (second_of s c) v k m)) s.seconds)
  unfolding piece_at with_copy_at slot_at
  at_second s h n = elim (either (is_present s h)) [
    | inl e ↦ rw (e, ne_eqb h (file_home s c) (n e), second_at s h c (n e))
    | inr e ↦ rw e
  ]

set_alike : (xs ys : List Slots) (c : ℕ) (d : Slots) → length xs ≡ length ys → get_or xs c d ≡ get_or ys c d → {x y : Slots} → x ≡ y
    → get_or (set xs c x) c d ≡ get_or (set ys c y) c d
set_alike xs ys c d l e {x} {y} q = elim (dec_lt c (length xs)) [
  | yes h ↦ get_or-set_same xs c x d h ∙ (q ∙ sym (get_or-set_same ys c y d (omega arith)))
  | no h ↦ ap (λ (r : List Slots). get_or r c d) (set_out xs c x (omega arith)) ∙ (e ∙ sym (ap (λ (r : List Slots). get_or r c d) (set_out ys c y (omega arith))))
]

length_if : (t : Bool) (xs : List Slots) (c : ℕ) (x : Slots) → length (cond t (set xs c x) xs) ≡ length xs
length_if true xs c x = length-set xs c x
length_if false xs c x = refl

other_if : (t : Bool) (xs : List Slots) (c d : ℕ) (x : Slots) → d ≢ c → get_or (cond t (set xs c x) xs) d blank_slots ≡ get_or xs d blank_slots
other_if true xs c d x n = get_or-set_other xs c d x blank_slots n
other_if false xs c d x n = refl

module _ (s : Store) (ok : Served s) where
  module _ (c : ℕ) (v : Bool) (k : ℕ) (m : Image) where
    abbrev firsts_with : List Slots
    firsts_with = cond (is_present s (file_home s c)) (set s.firsts c (written (first_of s c) v k m)) s.firsts

    abbrev seconds_with : List Slots
    seconds_with = cond (is_present s (partner s (file_home s c))) (set s.seconds c (written (second_of s c) v k m)) s.seconds

    -- a partner that is present is another store
    apart_too : is_present s (partner s (file_home s c)) ≡ true → partner s (file_home s c) ≢ file_home s c
    apart_too e q = apart s ok (file_home s c) (sym (ap (is_present s) q) ∙ e) q

    abbrev after : Store
    after = with_seconds (with_firsts s firsts_with) seconds_with

    put_made : put_piece s c v k m ≡ after
    unfolding put_piece
    put_made =
        ap (λ (r : Store). piece_at r (partner s (file_home s c)) c v k m) (at_first c v k m s)
        ∙ at_second c v k m (with_firsts s firsts_with) (partner s (file_home s c)) apart_too

    both_with : (d : ℕ) → is_present s (file_home s d) ≡ true → is_present s (partner s (file_home s d)) ≡ true
        → get_or firsts_with d blank_slots ≡ get_or seconds_with d blank_slots
    both_with d p q = elim (ℕ_discrete d c) [
      | yes e ↦ at_c e
      | no n ↦ other_if (is_present s (file_home s c)) s.firsts c d (written (first_of s c) v k m) n
          ∙ (one_copy s ok d p q ∙ sym (other_if (is_present s (partner s (file_home s c))) s.seconds c d (written (second_of s c) v k m) n))
    ]
      where
        at_c : d ≡ c → get_or firsts_with d blank_slots ≡ get_or seconds_with d blank_slots
        at_c e =
            let here : is_present s (file_home s c) ≡ true = sym (ap (λ (i : ℕ). is_present s (file_home s i)) e) ∙ p in
            let there : is_present s (partner s (file_home s c)) ≡ true = sym (ap (λ (i : ℕ). is_present s (partner s (file_home s i))) e) ∙ q in
            let one = one_copy s ok c here there in
            rw (e, here, there)
            (set_alike s.firsts s.seconds c blank_slots (ok.eight_firsts ∙ sym ok.eight_seconds) one (ap (λ (x : Slots). written x v k m) one))

    copy_here : c < 8 → is_present s (home_in s c) ≡ true → copy_at (put_piece s c v k m) (home_in s c) c ≡ written (copy_at s (home_in s c) c) v k m
    copy_here b e = rw put_made (go (either (is_present s (file_home s c))))
      where
        go : (is_present s (file_home s c) ≡ true) ⊎ (is_present s (file_home s c) ≡ false)
            → copy_at after (home_in s c) c ≡ written (copy_at s (home_in s c) c) v k m
        go (inl i) =
            rw (home_there s c i, first_at s c)
            (first_at after c
            ∙ (ap (λ (r : List Slots). get_or r c blank_slots) (chosen (is_present s (file_home s c)) _ _ i)
            ∙ get_or-set_same s.firsts c (written (first_of s c) v k m) blank_slots (omega (arith, ok.eight_firsts))))
        go (inr i) =
            let there : is_present s (partner s (file_home s c)) ≡ true = sym (ap (is_present s) (home_gone s c i)) ∙ e in
            let n = apart_too there in
            rw (home_gone s c i, second_at s (partner s (file_home s c)) c n)
            (second_at after (partner s (file_home s c)) c n
            ∙ (ap (λ (r : List Slots). get_or r c blank_slots) (chosen (is_present s (partner s (file_home s c))) _ _ there)
            ∙ get_or-set_same s.seconds c (written (second_of s c) v k m) blank_slots (omega (arith, ok.eight_seconds))))

  pub piece_kept : (c : ℕ) (v : Bool) (k : ℕ) (m : Image) → Served (put_piece s c v k m)
  piece_kept c v k m =
      rw (put_made c v k m)
      (lists_kept s ok (firsts_with c v k m) (seconds_with c v k m)
      (length_if (is_present s (file_home s c)) s.firsts c _ ∙ ok.eight_firsts)
      (length_if (is_present s (partner s (file_home s c))) s.seconds c _ ∙ ok.eight_seconds)
      (both_with c v k m))

  pub piece_here : (c : ℕ) → c < 8 → is_present s (home_in s c) ≡ true → (v : Bool) (k : ℕ) (m : Image) (w : Bool)
      → slot_at (put_piece s c v k m) (home_in s c) c w
      ≡ cond (same v w) (with_piece k m (slot_at s (home_in s c) c v)) (slot_at s (home_in s c) c w)
  unfolding slot_at
  piece_here c b e v k m w = ap (λ (x : Slots). slot_in x w) (copy_here c v k m b e) ∙ written_slot (copy_at s (home_in s c) c) v k m w

-- ---- a store leaves

leave_copy : (s : Store) (a h c : ℕ) → copy_at (leaves s a) h c ≡ copy_at s h c
unfolding leaves copy_at
leave_copy s a h c = refl

still_there : (s : Store) (a h : ℕ) → h ≢ a → is_present (leaves s a) h ≡ is_present s h
still_there s a h n = leave_present s a h ∙ rw (ne_eqb h a n) (sym (and_same (is_present s h)))

has_left : (s : Store) (a : ℕ) → is_present (leaves s a) a ≡ false
has_left s a = leave_present s a a ∙ rw (eq-eqb a a refl) (sym (and-false (is_present s a)))

-- who is there afterwards was there before
was_there : (s : Store) (a h : ℕ) → is_present (leaves s a) h ≡ true → is_present s h ≡ true
was_there s a h e = ((and-eq-true_iff (is_present s h) (not (eqb h a))).0 (sym (leave_present s a h) ∙ e)).0

module _ (s : Store) (a c : ℕ) where
  -- the partner is home instead of the one that left, and the others stay
  home_left : file_home s c ≡ a → home_in (leaves s a) c ≡ partner s a
  unfolding leaves
  home_left q = home_gone (leaves s a) c (ap (is_present (leaves s a)) q ∙ has_left s a) ∙ ap (partner s) q

  home_stays : file_home s c ≢ a → home_in (leaves s a) c ≡ home_in s c
  unfolding leaves home_in
  home_stays n = ap (λ (t : Bool). cond t (file_home s c) (partner s (file_home s c))) (still_there s a (file_home s c) n)

module _ (s : Store) (ok : Served s) (a : ℕ) where
  -- no other cabinet has as its home a store that is not the last of its pair
  home_not : is_last s a ≡ false → (c : ℕ) → (a < 8) ⊎ (is_store s (file_home s c) ≡ true) → file_home s c ≢ a → home_in s c ≢ a
  home_not l c b n q = go (either (is_present s (file_home s c)))
    where
      late : is_present s (file_home s c) ≡ false → is_store s (file_home s c) ≡ true → ⊥
      late e h =
          is_last_lem s ok a (file_home s c) l h e (sym (ap (is_present s) (home_gone s c e)) ∙ ok.served c h) (sym (home_gone s c e) ∙ q)

      none : a < 8 → is_present s (file_home s c) ≡ false → ⊥
      none k e =
          ⊎_elim (λ (p : (file_home s c ≡ 8) × (partner s (file_home s c) ≡ 8)). omega (arith, sym (home_gone s c e) ∙ q, p.1)) (λ p. late e p.0)
          (stands_in s ok c e)

      go : (is_present s (file_home s c) ≡ true) ⊎ (is_present s (file_home s c) ≡ false) → ⊥
      go (inl e) = n (sym (home_there s c e) ∙ q)
      go (inr e) = ⊎_elim (λ k. none k e) (λ h. late e h) b

  leave_served : is_last s a ≡ false → (c : ℕ) → is_store s (file_home s c) ≡ true → is_present (leaves s a) (home_in (leaves s a) c) ≡ true
  leave_served l c h = elim (ℕ_discrete (file_home s c) a) [
    | yes q ↦
        let stores : is_store s a ≡ true = sym (ap (is_store s) q) ∙ h in
        rw (home_left s a c q) (still_there s a (partner s a) (ok.other a stores) ∙ not_last s a l stores)
    | no n ↦ rw (home_stays s a c n) (still_there s a (home_in s c) (home_not l c (inr h) n) ∙ ok.served c h)
  ]

  pub leave_kept : is_last s a ≡ false → Served (leaves s a)
  unfolding leaves copy_at
  leave_kept l = record {
    eight_partners = ok.eight_partners;
    eight_present = length-set s.present a false ∙ ok.eight_present;
    eight_firsts = ok.eight_firsts;
    eight_seconds = ok.eight_seconds;
    homed = ok.homed;
    store_below = ok.store_below;
    paired = ok.paired;
    other = ok.other;
    each_other = ok.each_other;
    present_stores = λ h e. ok.present_stores h (was_there s a h e);
    served = leave_served l;
    alike = λ c p q. ok.alike c (was_there s a (file_home s c) p) (was_there s a (partner s (file_home s c)) q);
  }

  pub leave_home : a < 8 → is_last s a ≡ false → (c : ℕ) → home_in (leaves s a) c ≡ cond (eqb (home_in s c) a) (partner s a) (home_in s c)
  leave_home b l c = elim (ℕ_discrete (file_home s c) a) [
    | yes q ↦ home_left s a c q ∙ sym (go q (either (is_present s (file_home s c))))
    | no n ↦ home_stays s a c n ∙ sym (other (eqb (home_in s c) a) (partner s a) (home_in s c) (ne_eqb (home_in s c) a (home_not l c (inl b) n)))
  ]
    where
      go : file_home s c ≡ a → (is_present s (file_home s c) ≡ true) ⊎ (is_present s (file_home s c) ≡ false)
          → cond (eqb (home_in s c) a) (partner s a) (home_in s c) ≡ partner s a
      go q (inl e) = chosen (eqb (home_in s c) a) (partner s a) (home_in s c) (eq-eqb (home_in s c) a (home_there s c e ∙ q))
      go q (inr e) = alike (eqb (home_in s c) a) true (sym (home_gone s c e ∙ ap (partner s) q))

  -- the partner has the same slots
  leave_copies : is_last s a ≡ false → (c : ℕ) → copy_at s (home_in (leaves s a) c) c ≡ copy_at s (home_in s c) c
  leave_copies l c = elim (ℕ_discrete (file_home s c) a) [
    | yes q ↦ ap (λ (h : ℕ). copy_at s h c) (home_left s a c q ∙ ap (partner s) (sym q)) ∙ gone q (either (is_present s (file_home s c)))
    | no n ↦ ap (λ (h : ℕ). copy_at s h c) (home_stays s a c n)
  ]
    where
      gone : file_home s c ≡ a → (is_present s (file_home s c) ≡ true) ⊎ (is_present s (file_home s c) ≡ false)
          → copy_at s (partner s (file_home s c)) c ≡ copy_at s (home_in s c) c
      gone q (inl e) =
          let stores : is_store s a ≡ true = sym (ap (is_store s) q) ∙ ok.present_stores (file_home s c) e in
          sym (ok.alike c e (ap (λ (h : ℕ). is_present s (partner s h)) q ∙ not_last s a l stores)) ∙ ap (λ (h : ℕ). copy_at s h c) (sym (home_there s c e))
      gone q (inr e) = ap (λ (h : ℕ). copy_at s h c) (sym (home_gone s c e))

  pub leave_slot : a < 8 → is_last s a ≡ false → (c : ℕ) (v : Bool) → slot_at (leaves s a) (home_in (leaves s a) c) c v ≡ slot_at s (home_in s c) c v
  unfolding slot_at
  leave_slot b l c v = ap (λ (x : Slots). slot_in x v) (leave_copy s a (home_in (leaves s a) c) c ∙ leave_copies l c)

-- ---- a store comes back

-- a list of eight that a function makes, read at a place
each_at : (F : ℕ → Slots) (c : ℕ) → c < 8 → get_or (of_each F) c blank_slots ≡ F c
each_at F zero h = refl
each_at F (suc zero) h = refl
each_at F (suc (suc zero)) h = refl
each_at F (suc (suc (suc zero))) h = refl
each_at F (suc (suc (suc (suc zero)))) h = refl
each_at F (suc (suc (suc (suc (suc zero))))) h = refl
each_at F (suc (suc (suc (suc (suc (suc zero)))))) h = refl
each_at F (suc (suc (suc (suc (suc (suc (suc zero))))))) h = refl
each_at F (suc (suc (suc (suc (suc (suc (suc (suc c)))))))) h = absurd (omega arith)

each_past : (F : ℕ → Slots) (c : ℕ) → (c < 8 → ⊥) → get_or (of_each F) c blank_slots ≡ blank_slots
each_past F c h = get_or-eq_default (of_each F) blank_slots {n = c} (omega arith)

module _ (s : Store) (ok : Served s) (a : ℕ) where
  first_blank : (c : ℕ) → (c < 8 → ⊥) → blank_slots ≡ first_of s c
  first_blank c h = sym (get_or-eq_default s.firsts blank_slots {n = c} (omega (arith, ok.eight_firsts)))

  second_blank : (c : ℕ) → (c < 8 → ⊥) → blank_slots ≡ second_of s c
  second_blank c h = sym (get_or-eq_default s.seconds blank_slots {n = c} (omega (arith, ok.eight_seconds)))

  back_first : (c : ℕ) → first_of (comes_back s a) c ≡ first_back s a c
  unfolding comes_back
  back_first c = elim (dec_lt c 8) [
    | yes h ↦ each_at (first_back s a) c h
    | no h ↦ each_past (first_back s a) c h ∙ (second_blank c h ∙ alike true (eqb (file_home s c) a) (sym (second_blank c h) ∙ first_blank c h))
  ]

  back_second : (c : ℕ) → second_of (comes_back s a) c ≡ second_back s a c
  unfolding comes_back
  back_second c = elim (dec_lt c 8) [
    | yes h ↦ each_at (second_back s a) c h
    | no h ↦ each_past (second_back s a) c h
        ∙ (first_blank c h ∙ alike true (eqb (file_home s c) (partner s a)) (sym (first_blank c h) ∙ second_blank c h))
  ]

  back_at_first : (c : ℕ) → copy_at (comes_back s a) (file_home s c) c ≡ first_back s a c
  unfolding comes_back
  back_at_first c = first_at (comes_back s a) c ∙ back_first c

  back_at_second : (h c : ℕ) → h ≢ file_home s c → copy_at (comes_back s a) h c ≡ second_back s a c
  unfolding comes_back
  back_at_second h c n = second_at (comes_back s a) h c n ∙ back_second c

  -- of the cabinets whose home it is in the file, a takes the second slots, and its partner the first of its own; the others stay
  taken : (c : ℕ) → file_home s c ≡ a → first_back s a c ≡ second_of s c
  taken c q = chosen (eqb (file_home s c) a) (second_of s c) (first_of s c) (eq-eqb (file_home s c) a q)

  given : (c : ℕ) → file_home s c ≡ partner s a → second_back s a c ≡ first_of s c
  given c q = chosen (eqb (file_home s c) (partner s a)) (first_of s c) (second_of s c) (eq-eqb (file_home s c) (partner s a) q)

  first_stays : (c : ℕ) → file_home s c ≢ a → first_back s a c ≡ first_of s c
  first_stays c n = other (eqb (file_home s c) a) (second_of s c) (first_of s c) (ne_eqb (file_home s c) a n)

  second_stays : (c : ℕ) → file_home s c ≢ partner s a → second_back s a c ≡ second_of s c
  second_stays c n = other (eqb (file_home s c) (partner s a)) (first_of s c) (second_of s c) (ne_eqb (file_home s c) (partner s a) n)

  module _ (away : is_away s a ≡ true) where
    is_back : is_present (comes_back s a) a ≡ true
    is_back = back_present s ok a away a ∙ rw (eq-eqb a a refl) (sym (or_true (is_present s a)))

    -- the others are there or not, as before
    as_before : (h : ℕ) → h ≢ a → is_present (comes_back s a) h ≡ is_present s h
    as_before h n = back_present s ok a away h ∙ rw (ne_eqb h a n) (sym (or-false (is_present s h)))

    also_there : (h : ℕ) → is_present s h ≡ true → is_present (comes_back s a) h ≡ true
    also_there h e = back_present s ok a away h ∙ rw e

    home_again : (c : ℕ) → file_home s c ≡ a → home_in (comes_back s a) c ≡ a
    unfolding comes_back
    home_again c q = home_there (comes_back s a) c (ap (is_present (comes_back s a)) q ∙ is_back) ∙ q

    home_still : (c : ℕ) → file_home s c ≢ a → home_in (comes_back s a) c ≡ home_in s c
    unfolding comes_back home_in
    home_still c n = ap (λ (t : Bool). cond t (file_home s c) (partner s (file_home s c))) (as_before (file_home s c) n)

    pub back_home : (c : ℕ) → home_in (comes_back s a) c ≡ cond (eqb (file_home s c) a) a (home_in s c)
    back_home c = elim (ℕ_discrete (file_home s c) a) [
      | yes q ↦ home_again c q ∙ sym (chosen (eqb (file_home s c) a) a (home_in s c) (eq-eqb (file_home s c) a q))
      | no n ↦ home_still c n ∙ sym (other (eqb (file_home s c) a) a (home_in s c) (ne_eqb (file_home s c) a n))
    ]

    back_served : (c : ℕ) → is_store s (file_home s c) ≡ true → is_present (comes_back s a) (home_in (comes_back s a) c) ≡ true
    back_served c h = elim (ℕ_discrete (file_home s c) a) [
      | yes q ↦ rw (home_again c q) is_back
      | no n ↦ rw (home_still c n) (also_there (home_in s c) (ok.served c h))
    ]

    not_partner : (c : ℕ) → file_home s c ≡ a → file_home s c ≢ partner s a
    not_partner c q r = ok.other a (away_store s a away).0 (sym r ∙ q)

    -- both of a pair have the same afterwards
    both_back : (c : ℕ) → is_present (comes_back s a) (file_home s c) ≡ true → is_present (comes_back s a) (partner s (file_home s c)) ≡ true
        → first_back s a c ≡ second_back s a c
    both_back c p r = elim (ℕ_discrete (file_home s c) a) [
      | yes q ↦ taken c q ∙ sym (second_stays c (not_partner c q))
      | no n ↦ elim (ℕ_discrete (file_home s c) (partner s a)) [
        | yes q ↦ first_stays c n ∙ sym (given c q)
        | no k ↦
            let there : is_present s (file_home s c) ≡ true = sym (as_before (file_home s c) n) ∙ p in
            first_stays c n
            ∙ (one_copy s ok c there (sym (as_before (partner s (file_home s c)) (not_back k there)) ∙ r) ∙ sym (second_stays c k))
      ]
    ]
      where
        not_back : file_home s c ≢ partner s a → is_present s (file_home s c) ≡ true → partner s (file_home s c) ≢ a
        not_back k there e =
            let stores = ok.present_stores (file_home s c) there in
            k (sym (ok.each_other (file_home s c) stores (ap (is_store s) e ∙ (away_store s a away).0)) ∙ ap (partner s) e)

    pub back_kept : Served (comes_back s a)
    unfolding comes_back copy_at
    back_kept = record {
      eight_partners = ok.eight_partners;
      eight_present = length-set s.present a true ∙ ok.eight_present;
      eight_firsts = refl;
      eight_seconds = refl;
      homed = ok.homed;
      store_below = ok.store_below;
      paired = ok.paired;
      other = ok.other;
      each_other = ok.each_other;
      present_stores = λ h e. ⊎_elim
          (λ p. ok.present_stores h p)
          (λ q. ap (is_store s) (eqb-true h a q) ∙ (away_store s a away).0)
          (or_split (is_present s h) (eqb h a) (sym (back_present s ok a away h) ∙ e));
      served = back_served;
      alike = λ c p q. alike (eqb (file_home s c) (file_home s c)) (eqb (partner s (file_home s c)) (file_home s c))
          (back_first c ∙ (both_back c p q ∙ sym (back_second c)));
    }

    -- a cabinet whose home stands in for another is not one of a's partner
    not_given : (c : ℕ) → is_present s (file_home s c) ≡ false → partner s (file_home s c) ≢ file_home s c → file_home s c ≢ partner s a
    not_given c e n q =
        ⊎_elim
        (λ p. n (p.1 ∙ sym p.0))
        (λ p.
        let stores = away_store s a away in
        let back : partner s (file_home s c) ≡ a = ap (partner s) q ∙ ok.each_other a stores.0 (sym (ap (is_store s) q) ∙ p.0) in
        never p.1 (ap (is_present s) back ∙ stores.1))
        (stands_in s ok c e)

    -- each cabinet's home has the same slots
    back_copies : (c : ℕ) → copy_at (comes_back s a) (home_in (comes_back s a) c) c ≡ copy_at s (home_in s c) c
    back_copies c = elim (ℕ_discrete (file_home s c) a) [ yes q ↦ again q | no n ↦ still n (either (is_present s (file_home s c))) ]
      where
        again : file_home s c ≡ a → copy_at (comes_back s a) (home_in (comes_back s a) c) c ≡ copy_at s (home_in s c) c
        again q =
            let p = home_gone s c (ap (is_present s) q ∙ (away_store s a away).1) in
            let n : partner s (file_home s c) ≢ file_home s c = λ r. ok.other a (away_store s a away).0 (sym (ap (partner s) q) ∙ (r ∙ q)) in
            rw (home_again c q ∙ sym q, p, second_at s (partner s (file_home s c)) c n) (back_at_first c ∙ taken c q)

        still : file_home s c ≢ a → (is_present s (file_home s c) ≡ true) ⊎ (is_present s (file_home s c) ≡ false)
            → copy_at (comes_back s a) (home_in (comes_back s a) c) c ≡ copy_at s (home_in s c) c
        still n (inl e) = rw (home_still c n, home_there s c e, first_at s c) (back_at_first c ∙ first_stays c n)
        still n (inr e) = elim (ℕ_discrete (partner s (file_home s c)) (file_home s c)) [
          | yes q ↦ rw (home_still c n, home_gone s c e ∙ q, first_at s c) (back_at_first c ∙ first_stays c n)
          | no k ↦ rw (home_still c n, home_gone s c e, second_at s (partner s (file_home s c)) c k)
              (back_at_second (partner s (file_home s c)) c k ∙ second_stays c (not_given c e k))
        ]

    pub back_slot : (c : ℕ) (v : Bool) → slot_at (comes_back s a) (home_in (comes_back s a) c) c v ≡ slot_at s (home_in s c) c v
    unfolding slot_at
    back_slot c v = ap (λ (x : Slots). slot_in x v) (back_copies c)

-- ---- all slots become others

pub set_kept : (s : Store) → Served s → (xs : List Slots) → length xs ≡ 8 → Served (set_slots s xs)
unfolding set_slots
set_kept s ok xs e = lists_kept s ok xs xs e e (λ c p q. refl)

pub set_home : (s : Store) (xs : List Slots) (c : ℕ) → home_in (set_slots s xs) c ≡ home_in s c
unfolding set_slots home_in
set_home s xs c = refl

pub set_present : (s : Store) (xs : List Slots) (h : ℕ) → is_present (set_slots s xs) h ≡ is_present s h
unfolding set_slots
set_present s xs h = refl

pub set_slot : (s : Store) (xs : List Slots) (h c : ℕ) (v : Bool) → slot_at (set_slots s xs) h c v ≡ slot_in (get_or xs c blank_slots) v
unfolding set_slots slot_at copy_at
set_slot s xs h c v = ap (λ (x : Slots). slot_in x v) (alike (eqb h (file_home s c)) true refl)

-- ---- what holds of every image in a slot

abbrev pub Held : (Image → Type 0) → Store → Type 0
Held P s = (h c : ℕ) (v : Bool) → P (slot_at s h c v)

module _ (P : Image → Type 0) (s : Store) where
  first_held : Held P s → (c : ℕ) (v : Bool) → P (slot_in (first_of s c) v)
  unfolding slot_at
  first_held all c v = rw (first_at s c) at (all (file_home s c) c v)

  second_held : Held P s → (c : ℕ) (v : Bool) → P (slot_in (second_of s c) v)
  unfolding slot_at
  second_held all c v = rw (second_at s (suc (file_home s c)) c (λ q. omega arith)) at (all (suc (file_home s c)) c v)

-- a stored element, read anywhere
stored_elim : (Q : Slots → Type 0) (l : List Slots) (i j : ℕ) (x d : Slots) → Q x → Q (get_or l j d) → Q (get_or (set l i x) j d)
stored_elim Q [] i j x d new old = old
stored_elim Q (y ∷ l) zero zero x d new old = new
stored_elim Q (y ∷ l) zero (suc j) x d new old = old
stored_elim Q (y ∷ l) (suc i) zero x d new old = old
stored_elim Q (y ∷ l) (suc i) (suc j) x d new old = stored_elim Q l i j x d new old

choice_elim : (Q : Slots → Type 0) (t : Bool) {x y : Slots} → Q x → Q y → Q (cond t x y)
choice_elim Q true p q = p
choice_elim Q false p q = q

each_elim : (Q : Slots → Type 0) (F : ℕ → Slots) (c : ℕ) → Q (F c) → Q blank_slots → Q (get_or (of_each F) c blank_slots)
each_elim Q F c here past = elim (dec_lt c 8) [ yes h ↦ rw (each_at F c h) here | no h ↦ rw (each_past F c h) past ]

module _ (P : Image → Type 0) where
  -- what holds of both lists' images holds of every store's
  lists_held : (s : Store) → ((c : ℕ) (v : Bool) → P (slot_in (first_of s c) v)) → ((c : ℕ) (v : Bool) → P (slot_in (second_of s c) v)) → Held P s
  unfolding slot_at copy_at
  lists_held s f g h c v = choice_elim (λ x. P (slot_in x v)) (eqb h (file_home s c)) (f c v) (g c v)

  written_held : (x : Slots) (v : Bool) (k : ℕ) (m : Image) → ((y : Image) → P y → P (with_piece k m y)) → ((w : Bool) → P (slot_in x w))
      → (w : Bool) → P (slot_in (written x v k m) w)
  written_held x true k m keep old true = keep x.one (old true)
  written_held x true k m keep old false = old false
  written_held x false k m keep old true = old true
  written_held x false k m keep old false = keep x.zero (old false)

  blank_held : P blank_image → (w : Bool) → P (slot_in blank_slots w)
  unfolding blank_slots
  blank_held p true = p
  blank_held p false = p

  at_held : (s : Store) → Held P s → (h c : ℕ) (v : Bool) (k : ℕ) (m : Image) → ((x : Image) → P x → P (with_piece k m x))
      → Held P (piece_at s h c v k m)
  unfolding slot_at
  at_held s all h c v k m keep =
      let new = written_held (copy_at s h c) v k m keep (all h c) in
      piece_elim (Held P) s h c v k m all
      (lists_held (with_firsts s (set s.firsts c (written (copy_at s h c) v k m)))
      (λ d w. stored_elim (λ x. P (slot_in x w)) s.firsts c d (written (copy_at s h c) v k m) blank_slots (new w) (first_held P s all d w))
      (second_held P s all))
      (lists_held (with_seconds s (set s.seconds c (written (copy_at s h c) v k m)))
      (first_held P s all)
      (λ d w. stored_elim (λ x. P (slot_in x w)) s.seconds c d (written (copy_at s h c) v k m) blank_slots (new w) (second_held P s all d w)))

module _ (P : Image → Type 0) (s : Store) where
  pub piece_held : Held P s → (c : ℕ) (v : Bool) (k : ℕ) (m : Image) → ((x : Image) → P x → P (with_piece k m x)) → Held P (put_piece s c v k m)
  unfolding put_piece
  piece_held all c v k m keep =
      at_held P (piece_at s (file_home s c) c v k m) (at_held P s all (file_home s c) c v k m keep) (partner s (file_home s c)) c v k m keep

  pub leave_held : Held P s → (a : ℕ) → Held P (leaves s a)
  unfolding leaves
  leave_held all a = lists_held P (leaves s a) (first_held P s all) (second_held P s all)

  pub back_held : Held P s → P blank_image → (a : ℕ) → Held P (comes_back s a)
  unfolding comes_back
  back_held all blank a =
      lists_held P (comes_back s a)
      (λ c v. each_elim (λ x. P (slot_in x v)) (first_back s a) c
      (choice_elim (λ x. P (slot_in x v)) (eqb (file_home s c) a) (second_held P s all c v) (first_held P s all c v))
      (blank_held P blank v))
      (λ c v. each_elim (λ x. P (slot_in x v)) (second_back s a) c
      (choice_elim (λ x. P (slot_in x v)) (eqb (file_home s c) (partner s a)) (first_held P s all c v) (second_held P s all c v))
      (blank_held P blank v))

  pub set_held : (xs : List Slots) → ((c : ℕ) (v : Bool) → P (slot_in (get_or xs c blank_slots) v)) → Held P (set_slots s xs)
  unfolding set_slots
  set_held xs all = lists_held P (set_slots s xs) all all
