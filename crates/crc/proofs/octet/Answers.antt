-- `crc::octet` meets its contract. What the code gives passes through xor, as the definition does, and antt computes that the two agree
-- on the registers and octets with a single 1.
-- Assumes nothing.
use mathlib.Core.Path.{◌≡◌, refl}
use Prim.Native.Nat.{ℕ}
use borrow.Author.Rules.{rules}
use Rattle.crc.specs.Crc.{crc_bit, crc_bits, crc_octet}
use Rattle.crc.proofs.Xor.{Linear₂}
use Rattle.crc.proofs.Rules.{Rule, value_of, register, octet, up, down, mask, join, linear, at_powers, decided₂}
use Rattle.crc.proofs.Laws.{octet_linear}
use Rattle.crc.proofs.octet.Goals as goal

-- its lines, as rules
abbrev joined : Rule
joined = join register (up 8 octet)

abbrev folded : Rule
folded = join joined (down 4 (mask 4 12 joined))

abbrev out : Rule
out = down 8 folded

abbrev stored : Rule
stored = join (join (join (up 8 folded) (up 12 out)) (up 5 out)) out

-- what the code gives
abbrev code : ℕ → ℕ → ℕ
code = value_of stored

octets_agree : at_powers (code 0) 8 ≡ at_powers (crc_octet 0) 8
unfolding crc_octet crc_bits crc_bit
octets_agree = refl

registers_agree : at_powers (λ r. code r 0) 16 ≡ at_powers (λ r. crc_octet r 0) 16
unfolding crc_octet crc_bits crc_bit
registers_agree = refl

code_linear : Linear₂ code
code_linear = linear stored

pub returns : goal.returns
returns c =
    decided₂ code crc_octet code_linear octet_linear registers_agree octets_agree c.args.register c.args.octet (search rules)
    (search rules)
