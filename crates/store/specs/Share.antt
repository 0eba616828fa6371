-- What the stores of a pair have of one cabinet: its slots at its home in the file and at that one's partner. A step that writes a piece or
-- fetches one touches this part of the store and no other.
use Rattle.std.specs.Prelude.{ℕ, Bool, true, cond, set, eqb}
use Rattle.image.specs.declared.Image.{Image}
use Rattle.image.specs.Image.{with_piece}
use Rattle.store.specs.declared.Slots.{Slots}
use Rattle.store.specs.declared.Share.{Share}
use Rattle.store.specs.declared.Store.{Store}
use Rattle.store.specs.Store.{slot_in, with_slot_in, with_firsts, with_seconds, file_home, partner, is_present, first_of, second_of}

-- ---- out of the store, and into it

unfoldable pub share : Store → ℕ → Share
share s c = record {
  first = first_of s c;
  second = second_of s c;
  home = file_home s c;
  partner = partner s (file_home s c);
  here = is_present s (file_home s c);
  there = is_present s (partner s (file_home s c));
}

unfoldable pub with_share : Store → ℕ → Share → Store
with_share s c x = with_seconds (with_firsts s (set s.firsts c x.first)) (set s.seconds c x.second)

-- ---- what is read there

-- "When one fails or trips, the other is home for its cabinets"
abbrev pub serves_in : Share → ℕ
serves_in x = cond x.here x.home x.partner

-- slot v, as store h has it
abbrev pub slot_in_share : Share → ℕ → Bool → Image
slot_in_share x h v = cond (eqb h x.home) (slot_in x.first v) (slot_in x.second v)

-- ---- what changes there

abbrev pub with_first : Share → Slots → Share
with_first x y = record { first = y; second = x.second; home = x.home; partner = x.partner; here = x.here; there = x.there }

abbrev pub with_second : Share → Slots → Share
with_second x y = record { first = x.first; second = y; home = x.home; partner = x.partner; here = x.here; there = x.there }

-- the slots with piece k of image m in slot v
abbrev pub with_piece_in : Slots → Bool → ℕ → Image → Slots
with_piece_in x v k m = with_slot_in x v (with_piece k m (slot_in x v))

-- piece k of image m goes to slot v at the home in the file (first) or at its partner, if that one is present
unfoldable pub piece_to : Share → Bool → Bool → Bool → ℕ → Image → Share
piece_to x first present v k m =
    cond present (cond first (with_first x (with_piece_in x.first v k m)) (with_second x (with_piece_in x.second v k m))) x

-- "Pieces go to both while both work."
unfoldable pub put_piece_in : Share → Bool → ℕ → Image → Share
put_piece_in x v k m = piece_to (piece_to x true x.here v k m) (eqb x.partner x.home) x.there v k m
