-- The store: which cabinets keep saved images, who is home for whom, and each cabinet's two slots, which a store and its partner both have
-- (document 02, card 10). Cabinets are numbered from 0 here; 8 is a number that no cabinet has: the partner of a store that names none.
-- Those marked `unfoldable` stay shut unless unfolded, so that a caller's goal names them and does not spell them out.
use Rattle.std.specs.Prelude.{ℕ, Bool, true, false, cond, not, ◌&&◌, List, [], ◌∷◌, get_or, set, replicate, eqb}
use Rattle.marks.specs.Marks.{Marks, marked, no_marks}
use Rattle.image.specs.declared.Image.{Image}
use Rattle.image.specs.Image.{blank_image, with_piece}
use Rattle.store.specs.declared.Slots.{Slots}
use Rattle.store.specs.declared.Store.{Store}

-- ---- "The store has two slots for each cabinet, version 0 and version 1."

unfoldable pub blank_slots : Slots
blank_slots = record { zero = blank_image; one = blank_image }

abbrev pub slot_in : Slots → Bool → Image
slot_in x v = cond v x.one x.zero

abbrev pub with_slot_in : Slots → Bool → Image → Slots
with_slot_in x v m = cond v (record { zero = x.zero; one = m }) (record { zero = m; one = x.one })

-- ---- the components, each replaced by one function

abbrev pub with_present : Store → Marks → Store
with_present s m = record { homes = s.homes; stores = s.stores; partners = s.partners; present = m; firsts = s.firsts; seconds = s.seconds }

abbrev pub with_firsts : Store → List Slots → Store
with_firsts s xs = record { homes = s.homes; stores = s.stores; partners = s.partners; present = s.present; firsts = xs; seconds = s.seconds }

abbrev pub with_seconds : Store → List Slots → Store
with_seconds s xs = record { homes = s.homes; stores = s.stores; partners = s.partners; present = s.present; firsts = s.firsts; seconds = xs }

-- the store of no cabinets
unfoldable pub empty_store : Store
empty_store = record {
  homes = replicate 8 8;
  stores = no_marks;
  partners = replicate 8 8;
  present = no_marks;
  firsts = replicate 8 blank_slots;
  seconds = replicate 8 blank_slots;
}

-- ---- who keeps them

-- "each cabinet has one store cabinet as its home": the one that the file names
abbrev pub file_home : Store → ℕ → ℕ
file_home s c = get_or s.homes c 8

abbrev pub is_store : Store → ℕ → Bool
is_store s h = marked s.stores h

-- "A store cabinet may name one partner store"
abbrev pub partner : Store → ℕ → ℕ
partner s h = get_or s.partners h 8

-- store h works, and is not away: tripped and not yet reported restored
abbrev pub is_present : Store → ℕ → Bool
is_present s h = marked s.present h

-- "When one fails or trips, the other is home for its cabinets"
unfoldable pub home_in : Store → ℕ → ℕ
home_in s c = cond (is_present s (file_home s c)) (file_home s c) (partner s (file_home s c))

-- a is a store, and without it "neither is left"
unfoldable pub is_last : Store → ℕ → Bool
is_last s a = is_store s a && not (is_present s (partner s a))

-- a store that has left; one that works is then away
unfoldable pub is_away : Store → ℕ → Bool
is_away s a = is_store s a && not (is_present s a)

-- the cabinets whose home in the file is a
abbrev pub is_homed_at : Store → ℕ → ℕ → Bool
is_homed_at s a c = eqb (file_home s c) a

unfoldable pub homed_at : Store → ℕ → Marks
homed_at s a =
    is_homed_at s a 0 ∷ is_homed_at s a 1 ∷ is_homed_at s a 2 ∷ is_homed_at s a 3 ∷ is_homed_at s a 4 ∷ is_homed_at s a 5 ∷ is_homed_at s a 6
    ∷ is_homed_at s a 7 ∷ []

-- ---- each cabinet's slots, once at its home in the file and once at that one's partner

abbrev pub first_of : Store → ℕ → Slots
first_of s c = get_or s.firsts c blank_slots

abbrev pub second_of : Store → ℕ → Slots
second_of s c = get_or s.seconds c blank_slots

-- those that store h has of cabinet c
unfoldable pub copy_at : Store → ℕ → ℕ → Slots
copy_at s h c = cond (eqb h (file_home s c)) (first_of s c) (second_of s c)

unfoldable pub with_copy_at : Store → ℕ → ℕ → Slots → Store
with_copy_at s h c x =
    cond (eqb h (file_home s c)) (with_firsts s (set s.firsts c x)) (with_seconds s (set s.seconds c x))

-- slot v of cabinet c, as store h has it
unfoldable pub slot_at : Store → ℕ → ℕ → Bool → Image
slot_at s h c v = slot_in (copy_at s h c) v

-- ---- what changes them

-- piece k of image m goes to slot v of cabinet c at store h
abbrev pub with_piece_at : Store → ℕ → ℕ → Bool → ℕ → Image → Store
with_piece_at s h c v k m = with_copy_at s h c (with_slot_in (copy_at s h c) v (with_piece k m (slot_at s h c v)))

unfoldable pub piece_at : Store → ℕ → ℕ → Bool → ℕ → Image → Store
piece_at s h c v k m = cond (is_present s h) (with_piece_at s h c v k m) s

-- "Pieces go to both while both work."
unfoldable pub put_piece : Store → ℕ → Bool → ℕ → Image → Store
put_piece s c v k m = piece_at (piece_at s (file_home s c) c v k m) (partner s (file_home s c)) c v k m

-- store a fails or trips
unfoldable pub leaves : Store → ℕ → Store
leaves s a = with_present s (set s.present a false)

-- "A tripped partner takes the other's slots": of the cabinets whose home in the file is the one that comes back, a, and of those whose home
-- is its partner
abbrev pub first_back : Store → ℕ → ℕ → Slots
first_back s a c = cond (is_homed_at s a c) (second_of s c) (first_of s c)

abbrev pub second_back : Store → ℕ → ℕ → Slots
second_back s a c = cond (is_homed_at s (partner s a) c) (first_of s c) (second_of s c)

abbrev pub of_each : (ℕ → Slots) → List Slots
of_each f = f 0 ∷ f 1 ∷ f 2 ∷ f 3 ∷ f 4 ∷ f 5 ∷ f 6 ∷ f 7 ∷ []

-- ".. and is home again"
unfoldable pub comes_back : Store → ℕ → Store
comes_back s a =
    with_present (with_seconds (with_firsts s (of_each (first_back s a))) (of_each (second_back s a))) (set s.present a true)

-- all slots become these, at both stores of each pair
unfoldable pub set_slots : Store → List Slots → Store
set_slots s xs = with_seconds (with_firsts s xs) xs
