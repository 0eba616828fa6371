-- Document 01, "Packets and the link check", with document 02, cards 2, 3, 5 and 7: what packets carry, the check registers, fault places, damage.
use Rattle.std.specs.Prelude.{ℕ, ◌+◌, ◌*◌, ◌/◌, ◌%◌, ◌^◌, Bool, true, false, cond, ◌&&◌, List, [], ◌∷◌, ◌++◌, ◌==◌, bit_xor, nat_le, nat_lt, Option, None, Some}
use Rattle.outlet.specs.declared.Outlet.{Outlet}
use Rattle.outlet.specs.declared.Party.{Party}
use Rattle.outlet.specs.Outlet.{octet_of, party_of, same_party}
use Rattle.crc.specs.Crc.{start, crc_from, crc}
use Rattle.packet.specs.declared.PacketVersion.{PacketVersion}
use Rattle.packet.specs.declared.PacketVersion.TheVariants.{One, Two}
use Rattle.packet.specs.declared.Pattern.{Pattern}
use Rattle.packet.specs.declared.Payload.{Payload}
use Rattle.packet.specs.declared.Check.{Check}
use Rattle.packet.specs.declared.Place.{Place}
use Rattle.packet.specs.declared.Place.TheVariants.{Failed, Tripped, Link}
use Rattle.packet.specs.declared.Packet.{Packet}
use Rattle.packet.specs.declared.Packet.TheVariants.{Empty, Normal, Checkp, Resume, Recover, Fault, Invalid}

-- the check that a normal packet carries of itself, if any
abbrev pub OwnCheck : Type 0
OwnCheck = Option ℕ

-- ---- what a normal packet carries

-- "A normal packet is three octets"; "the normal packet's first octet holds the receiving outlet", then the amount, high octet first
abbrev pub first_three : Outlet → ℕ → List ℕ
first_three o m = octet_of o ∷ m / 256 ∷ m % 256 ∷ []

-- ".. two more octets, the CRC-16 of the packet's first three"
unfoldable pub own_check : Outlet → ℕ → ℕ
own_check o m = crc (first_three o m)

-- a packet as it is put: "Groups of packet version 2 send normal packets with two more octets"
abbrev pub own_in : PacketVersion → Outlet → ℕ → OwnCheck
own_in One o m = None
own_in Two o m = Some (own_check o m)

abbrev pub packed : PacketVersion → Outlet → ℕ → Payload
packed v o m = record { outlet = o; amount = m; own = own_in v o m }

abbrev pub own_octets : OwnCheck → List ℕ
own_octets None = []
own_octets (Some c) = c / 256 ∷ c % 256 ∷ []

abbrev pub octets_of : Payload → List ℕ
octets_of p = first_three p.outlet p.amount ++ own_octets p.own

-- "The receiver compares on taking it": a packet that carries no check of its own has nothing to compare
abbrev pub fits_with : OwnCheck → ℕ → Bool
fits_with None x = true
fits_with (Some c) x = c == x

unfoldable pub fits : Payload → Bool
fits p = fits_with p.own (own_check p.outlet p.amount)

-- ---- check registers

-- "The check value becomes the CRC and a count of packets modulo 65,536": a register at its start, and after one more normal packet
abbrev pub start_check : Check
start_check = record { crc = start; count = 0 }

abbrev pub step_check : Check → Payload → Check
step_check c p = record { crc = crc_from c.crc (octets_of p); count = (c.count + 1) % 65536 }

-- the comparison of a checkp, which "carries both", with a register
abbrev pub same_check : Check → Check → Bool
same_check c d = c.crc == d.crc && c.count == d.count

-- ---- fault places, and what a packet is

-- a link's place, "named lower number first"
abbrev pub link_place : ℕ → ℕ → Place
link_place a b = cond (nat_lt a b) (Link a b) (Link b a)

-- "A fault packet now says failed or tripped": the two are different places
abbrev pub same_place : Place → Place → Bool
same_place (Failed a) (Failed b) = a == b
same_place (Failed a) (Tripped b) = false
same_place (Failed a) (Link b c) = false
same_place (Tripped a) (Failed b) = false
same_place (Tripped a) (Tripped b) = a == b
same_place (Tripped a) (Link b c) = false
same_place (Link a b) (Failed c) = false
same_place (Link a b) (Tripped c) = false
same_place (Link a b) (Link c d) = a == c && b == d

abbrev pub is_empty : Packet → Bool
is_empty Empty = true
is_empty (Normal p) = false
is_empty (Checkp c) = false
is_empty Resume = false
is_empty (Recover v) = false
is_empty (Fault p) = false
is_empty Invalid = false

abbrev pub is_normal : Packet → Bool
is_normal Empty = false
is_normal (Normal p) = true
is_normal (Checkp c) = false
is_normal Resume = false
is_normal (Recover v) = false
is_normal (Fault p) = false
is_normal Invalid = false

-- a normal packet of a party, which its first octet tells
abbrev pub is_of : Party → Packet → Bool
is_of y Empty = false
is_of y (Normal p) = same_party (party_of p.outlet) y
is_of y (Checkp c) = false
is_of y Resume = false
is_of y (Recover v) = false
is_of y (Fault p) = false
is_of y Invalid = false

-- ---- damage

-- "the high three bits of p shift q by 0 to 7 bits from the low end, then by octets as b's high four bits say (0 to 2)"
abbrev pub in_reach : Pattern → Bool
in_reach w = nat_le w.bits 7 && nat_le w.octets 2

-- the pattern so shifted, as one number; a shift out of reach is refused and leaves nothing
unfoldable pub shifted : Pattern → ℕ
shifted w = cond (in_reach w) (w.mask * 2 ^ (w.bits + 8 * w.octets)) 0

-- "a non-zero shift in version 1"
abbrev pub may_shift : PacketVersion → Pattern → Bool
may_shift One w = w.bits == 0 && w.octets == 0
may_shift Two w = true

-- the patterns that damage takes. 15: "q is 0"; "also for an octet shift above 2, a shifted pattern outside the four octets, and a non-zero
-- shift in version 1"
unfoldable pub pattern_right : PacketVersion → Pattern → Bool
pattern_right v w = nat_lt 0 w.mask && (in_reach w && (nat_lt (shifted w) (2 ^ 32) && may_shift v w))

-- "Damage may hit all five octets but the first": amount and check are one number of four octets, on which the shifted pattern is XORed.
-- Where a packet carries no check, the "pattern q XORed on a normal amount". The outlet is left as it is
abbrev pub hurt_as : OwnCheck → Payload → Pattern → Payload
hurt_as None p w = record { outlet = p.outlet; amount = bit_xor p.amount w.mask; own = None }
hurt_as (Some c) p w = record {
  outlet = p.outlet;
  amount = bit_xor p.amount (shifted w / 65536 % 65536);
  own = Some (bit_xor c (shifted w % 65536));
}

unfoldable pub hurt_by : Payload → Pattern → Payload
hurt_by p w = hurt_as p.own p w

-- "A fail-safe packet hit by damage is invalid"
abbrev pub damaged : Packet → Pattern → Packet
damaged Empty w = Empty
damaged (Normal p) w = Normal (hurt_by p w)
damaged (Checkp c) w = Invalid
damaged Resume w = Invalid
damaged (Recover v) w = Invalid
damaged (Fault p) w = Invalid
damaged Invalid w = Invalid
