-- The check value of document 01, "Packets and the link check": CRC-16 bit by bit.
-- Assumes nothing.
use Rattle.std.specs.Prelude.{List, [], ◌∷◌, ℕ, zero, suc, ◌*◌, ◌/◌, ◌%◌}
use Rattle.std.specs.Int.Bits.{bit_xor}

-- "polynomial 0x1021 (that of ITU-T V.41)": x¹⁶ + x¹² + x⁵ + 1, whose first term is the bit that falls out
abbrev pub polynomial : ℕ
polynomial = 0x1021

-- "start 0xFFFF"
abbrev pub start : ℕ
start = 0xFFFF

-- one bit, "high bit first": where the bit that falls out is 1, the polynomial is xored in; the register moves up by one within 16 bits
-- (in this order, since computing an xor takes as many steps as its first number has digits, and half of the time that has none)
unfoldable pub crc_bit : ℕ → ℕ
crc_bit r = bit_xor (r / 32768 % 2 * polynomial) (r * 2 % 65536)

-- n bits, one after the other, "high bit first" still
unfoldable pub crc_bits : ℕ → ℕ → ℕ
crc_bits zero r = r
crc_bits (suc n) r = crc_bits n (crc_bit r)

-- one octet, "no reflection": it joins the register's high octet as it is, and eight bits are shifted out
unfoldable pub crc_octet : ℕ → ℕ → ℕ
crc_octet r x = crc_bits 8 (bit_xor r (x * 256))

-- the register after a list of octets, in order; "no final change": the register itself is the value
unfoldable pub crc_from : ℕ → List ℕ → ℕ
crc_from r [] = r
crc_from r (x ∷ xs) = crc_from (crc_octet r x) xs

-- "The check value" of a list of octets
abbrev pub crc : List ℕ → ℕ
crc xs = crc_from start xs
