-- A cabinet's image: 32 octets, with the booking of each outlet, the workshop's and notes (document 02, cards 2 and 9), moved in four pieces.
use Rattle.std.specs.Prelude.{ℕ, zero, suc, ◌+◌, ◌-◌, ◌*◌, ◌/◌, ◌%◌, replicate, slice_index, slice_set}
use Rattle.outlet.specs.declared.Outlet.{Outlet}
use Rattle.outlet.specs.declared.Outlet.TheVariants.{A, B, W}
use Rattle.outlet.specs.declared.Party.{Party}
use Rattle.outlet.specs.declared.Party.TheVariants.{Buses, Workshop}
use Rattle.image.specs.declared.Image.{Image}

abbrev pub blank_image : Image
blank_image = record { octets = replicate 32 0 }

abbrev pub with_octet : Image → ℕ → ℕ → Image
with_octet m p v = record { octets = slice_set m.octets p v }

-- ---- bookings, each "in amperes"

-- "Octets 0 and 1 become A's booking, 2 and 3 B's"; "The depot workshop gets its own booking in octets 4 and 5": the first octet of each
abbrev pub booking_at : Outlet → ℕ
booking_at A = 0
booking_at B = 2
booking_at W = 4

abbrev pub booking : Outlet → Image → ℕ
booking o m = slice_index m.octets (booking_at o) * 256 + slice_index m.octets (booking_at o + 1)

-- what an image books for a party: for the buses the sum over both outlets
abbrev pub booked : Party → Image → ℕ
booked Buses m = booking A m + booking B m
booked Workshop m = booking W m

abbrev pub with_booking : Image → Outlet → ℕ → Image
with_booking m o v = with_octet (with_octet m (booking_at o) (v / 256)) (booking_at o + 1) (v % 256)

-- a send taken: q leaves the booking of the sending outlet
abbrev pub charged : Image → Outlet → ℕ → Image
charged m o q = with_booking m o (booking o m - q)

-- "A receiver adds an amount modulo 65,536": to the booking of the receiving outlet
abbrev pub credited : Image → Outlet → ℕ → Image
credited m o q = with_booking m o ((booking o m + q) % 65536)

-- ---- notes

-- "notes begin at 6"
abbrev pub first_note : ℕ
first_note = 6

-- ---- pieces

-- "It moves in four pieces of 8 octets, 0 to 3": the first n octets of piece k, from one image into another
abbrev pub piece_to : ℕ → ℕ → Image → Image → Image
piece_to zero k from to = to
piece_to (suc n) k from to = with_octet (piece_to n k from to) (k * 8 + n) (slice_index from.octets (k * 8 + n))

abbrev pub with_piece : ℕ → Image → Image → Image
with_piece k from to = piece_to 8 k from to
