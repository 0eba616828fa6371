-- What covers the store goes through every change of it; who is home, who is present and who is whose partner is not covered.
use Prim.Native.Nat.{ℕ}
use mathlib.Core.Path.{◌≡◌, refl, sym, ap, ◌∙◌}
use mathlib.Core.Bool.{Bool, true, false, cond}
use mathlib.Core.List.{List, map}
use lib.ListN.{set, get_or-map}
use lib.Dec.{eqb}
use Rattle.image.specs.declared.Image.{Image}
use Rattle.image.specs.Image.{with_piece}
use Rattle.store.specs.declared.Slots.{Slots}
use Rattle.store.specs.declared.Store.{Store}
use Rattle.store.specs.Store.{blank_slots, slot_in, with_slot_in, with_present, with_firsts, with_seconds, file_home, partner, is_present, home_in, is_last, is_away, is_homed_at, homed_at, first_of, second_of, copy_at, with_copy_at, slot_at, with_piece_at, piece_at, put_piece, leaves, first_back, second_back, of_each, comes_back, set_slots}
use Rattle.pairs.specs.Covered.{cover_from, cover_image, cover_slots, cover_store}
use Rattle.pairs.proofs.Parts.{map_set, choose, whole_piece_covered}

-- ---- what is not covered

pub home_kept : (s : Store) (c : ℕ) → home_in (cover_store s) c ≡ home_in s c
unfolding home_in
home_kept s c = refl

pub last_kept : (s : Store) (a : ℕ) → is_last (cover_store s) a ≡ is_last s a
unfolding is_last
last_kept s a = refl

pub away_kept : (s : Store) (a : ℕ) → is_away (cover_store s) a ≡ is_away s a
unfolding is_away
away_kept s a = refl

pub homed_kept : (s : Store) (a : ℕ) → homed_at (cover_store s) a ≡ homed_at s a
unfolding homed_at
homed_kept s a = refl

-- ---- slots, read

first_at : (s : Store) (c : ℕ) → first_of (cover_store s) c ≡ cover_slots (first_of s c)
unfolding blank_slots cover_image cover_from
first_at s c = get_or-map cover_slots s.firsts c blank_slots

second_at : (s : Store) (c : ℕ) → second_of (cover_store s) c ≡ cover_slots (second_of s c)
unfolding blank_slots cover_image cover_from
second_at s c = get_or-map cover_slots s.seconds c blank_slots

-- a choice between two of them
chosen : (t : Bool) {x y : Slots} (x' y' : Slots) → x ≡ cover_slots x' → y ≡ cover_slots y' → cond t x y ≡ cover_slots (cond t x' y')
chosen true x' y' e f = e
chosen false x' y' e f = f

copy_at_lem : (s : Store) (h c : ℕ) → copy_at (cover_store s) h c ≡ cover_slots (copy_at s h c)
unfolding copy_at
copy_at_lem s h c = chosen (eqb h (file_home s c)) (first_of s c) (second_of s c) (first_at s c) (second_at s c)

pub slot_kept : (s : Store) (h c : ℕ) (v : Bool) → slot_at (cover_store s) h c v ≡ cover_image (slot_at s h c v)
unfolding slot_at
slot_kept s h c v =
    ap (λ (x : Slots). slot_in x v) (copy_at_lem s h c) ∙ sym (choose cover_image v (copy_at s h c).one (copy_at s h c).zero)

-- ---- and replaced

put_in : (x : Slots) (v : Bool) (m : Image) → cover_slots (with_slot_in x v m) ≡ with_slot_in (cover_slots x) v (cover_image m)
put_in x v m = choose cover_slots v _ _

copy_put : (s : Store) (h c : ℕ) (x : Slots) → cover_store (with_copy_at s h c x) ≡ with_copy_at (cover_store s) h c (cover_slots x)
unfolding with_copy_at
copy_put s h c x =
    choose cover_store (eqb h (file_home s c)) _ _
    ∙ ap (λ (l : List Slots). cond (eqb h (file_home s c)) (with_firsts (cover_store s) l) (cover_store (with_seconds s (set s.seconds c x))))
    (map_set cover_slots s.firsts c x)
    ∙ ap (λ (l : List Slots). cond (eqb h (file_home s c)) (with_firsts (cover_store s) (set (map cover_slots s.firsts) c (cover_slots x))) (with_seconds (cover_store s) l))
    (map_set cover_slots s.seconds c x)

with_piece_lem : (s : Store) (h c : ℕ) (v : Bool) (k : ℕ) (m : Image) → cover_store (with_piece_at s h c v k m) ≡ with_piece_at (cover_store s) h c v k (cover_image m)
with_piece_lem s h c v k m =
    copy_put s h c (with_slot_in (copy_at s h c) v (with_piece k m (slot_at s h c v)))
    ∙ ap (with_copy_at (cover_store s) h c)
    (put_in (copy_at s h c) v (with_piece k m (slot_at s h c v))
    ∙ ap (with_slot_in (cover_slots (copy_at s h c)) v)
    (whole_piece_covered k m (slot_at s h c v) ∙ ap (with_piece k (cover_image m)) (sym (slot_kept s h c v)))
    ∙ ap (λ (x : Slots). with_slot_in x v (with_piece k (cover_image m) (slot_at (cover_store s) h c v))) (sym (copy_at_lem s h c)))

piece_at_lem : (s : Store) (h c : ℕ) (v : Bool) (k : ℕ) (m : Image) → cover_store (piece_at s h c v k m) ≡ piece_at (cover_store s) h c v k (cover_image m)
unfolding piece_at
piece_at_lem s h c v k m =
    choose cover_store (is_present s h) _ _ ∙ ap (λ (x : Store). cond (is_present s h) x (cover_store s)) (with_piece_lem s h c v k m)

-- "Pieces go to both while both work."
pub piece_put : (c : ℕ) (v : Bool) (k : ℕ) (m : Image) (s : Store) → cover_store (put_piece s c v k m) ≡ put_piece (cover_store s) c v k (cover_image m)
unfolding put_piece
piece_put c v k m s =
    piece_at_lem (piece_at s (file_home s c) c v k m) (partner s (file_home s c)) c v k m
    ∙ ap (λ (x : Store). piece_at x (partner s (file_home s c)) c v k (cover_image m)) (piece_at_lem s (file_home s c) c v k m)

-- ---- a store leaves, and comes back with the other's slots

pub leaves_covered : (a : ℕ) (s : Store) → cover_store (leaves s a) ≡ leaves (cover_store s) a
unfolding leaves
leaves_covered a s = refl

pub back_covered : (a : ℕ) (s : Store) → cover_store (comes_back s a) ≡ comes_back (cover_store s) a
unfolding comes_back
back_covered a s =
    ap (λ (l : List Slots). with_present (with_seconds (with_firsts s l) (map cover_slots (of_each (second_back s a)))) (set s.present a true))
    (rw (first 0, first 1, first 2, first 3, first 4, first 5, first 6, first 7))
    ∙ ap (λ (l : List Slots). with_present (with_seconds (with_firsts s (of_each (first_back (cover_store s) a))) l) (set s.present a true))
    (rw (second 0, second 1, second 2, second 3, second 4, second 5, second 6, second 7))
  where
    first : (c : ℕ) → first_back (cover_store s) a c ≡ cover_slots (first_back s a c)
    first c = chosen (is_homed_at s a c) (second_of s c) (first_of s c) (second_at s c) (first_at s c)

    second : (c : ℕ) → second_back (cover_store s) a c ≡ cover_slots (second_back s a c)
    second c = chosen (is_homed_at s (partner s a) c) (first_of s c) (second_of s c) (first_at s c) (second_at s c)

-- ---- a return

pub slots_set : (s : Store) (xs : List Slots) → cover_store (set_slots s xs) ≡ set_slots (cover_store s) (map cover_slots xs)
unfolding set_slots
slots_set s xs = refl
