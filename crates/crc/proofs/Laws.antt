-- Laws of the check value: its steps pass through xor, nothing is lost on the way, changes within 16 bits are seen, and the published values.
-- Assumes nothing.
use mathlib.Core.Path.{◌≡◌, refl, sym, ap, ap₂, ◌∙◌}
use mathlib.Core.List.{List, [], ◌∷◌, ◌++◌}
use Prim.Native.Nat.{ℕ, zero, suc, ◌+◌, ◌*◌, ◌/◌, ◌%◌, ◌^◌, ◌<◌}
use native.Mathlib.Nat.{mul-one, mul-le-mul_left, pow-suc}
use native.Mathlib.Omega.{arith}
use lib.Bits.{bit_xor, xor_add_and, xor_shr, xor_mod, xor_lt, xor_comm, xor_zero_l, xor_zero_r, xor_self, xor_shifted}
use lib.ListN.{length, replicate}
use lib.Pow.{pow_pos, mod-pow-add}
use Rattle.crc.specs.Crc.{polynomial, start, crc_bit, crc_bits, crc_octet, crc_from, crc}
use Rattle.crc.proofs.Xor.{Linear, Linear₂, xor_assoc, xor_swap, xor_medial, xor_split, xor_bits_times, xor_cancel, xor_cancel_low, xor_shift}

-- What steps do to the register

-- a step passes through xor
bit_linear : Linear crc_bit
unfolding crc_bit
bit_linear a b =
    let fed = xor_bits_times polynomial (a / 32768 % 2) (b / 32768 % 2) (omega arith) (omega arith) in
    rw (xor_shift 1 a b, xor_mod (a * 2) (b * 2) 16, xor_shr a b 15, xor_mod (a / 32768) (b / 32768) 1, fed)
    (xor_medial (a / 32768 % 2 * polynomial) (b / 32768 % 2 * polynomial) (a * 2 % 65536) (b * 2 % 65536))

-- and so do n steps
bits_linear : (n : ℕ) → Linear (crc_bits n)
unfolding crc_bits
bits_linear zero a b = refl
bits_linear (suc n) a b = ap (crc_bits n) (bit_linear a b) ∙ bits_linear n (crc_bit a) (crc_bit b)

-- and an octet, with the register
pub octet_linear : Linear₂ crc_octet
unfolding crc_octet
octet_linear a b x y =
    rw (xor_shift 8 x y, xor_medial a b (x * 256) (y * 256)) (bits_linear 8 (bit_xor a (x * 256)) (bit_xor b (y * 256)))

-- what stands below the highest bit moves up by one, and no more
bit_up : (low : ℕ) → low < 32768 → crc_bit low ≡ low * 2
unfolding crc_bit
bit_up low below =
    let none_out : low / 32768 ≡ 0 = omega arith in
    let fits : low * 2 % 65536 ≡ low * 2 = omega arith in
    rw (none_out, fits) (xor_zero_l (low * 2))

-- the same over n steps, for what does not reach the top in them
bits_up : (n low : ℕ) → low * 2 ^ n < 65536 → crc_bits n low ≡ low * 2 ^ n
unfolding crc_bits
bits_up zero low below = sym (mul-one low)
bits_up (suc n) low below =
    let doubled : low * 2 ^ suc n ≡ low * (2 ^ n * 2) = ap (λ (x : ℕ). low * x) (pow-suc 2 n) in
    ap (crc_bits n) (bit_up low (omega (arith, mul-le-mul_left low (pow_pos n)))) ∙ bits_up n (low * 2) (omega arith) ∙ omega arith

-- so it passes through n steps beside anything else
bits_pass : (n a low : ℕ) → low * 2 ^ n < 65536 → crc_bits n (bit_xor a low) ≡ bit_xor (crc_bits n a) (low * 2 ^ n)
bits_pass n a low below = bits_linear n a low ∙ ap (bit_xor (crc_bits n a)) (bits_up n low below)

-- a number is its high part and its low octet, joined by xor
halves : (m : ℕ) → m ≡ bit_xor (m / 256 * 256) (m % 256)
halves = xor_split 8

-- The register stays within 16 bits

bit_lt : (a : ℕ) → crc_bit a < 65536
unfolding crc_bit
bit_lt a = xor_lt 16 (a / 32768 % 2 * polynomial) (a * 2 % 65536) (omega arith) (omega arith)

pub octet_lt : (r x : ℕ) → crc_octet r x < 65536
unfolding crc_octet crc_bits
octet_lt r x = bit_lt _

-- Nothing is lost: the polynomial is odd, so the bit that fell out can be read at the low end

fallen_out : (a : ℕ) → crc_bit a % 2 ≡ a / 32768 % 2
unfolding crc_bit
fallen_out a = omega (arith, xor_add_and (a / 32768 % 2 * polynomial) (a * 2 % 65536))

top_and_rest : (a : ℕ) → a % 65536 ≡ a / 32768 % 2 * 32768 + a * 2 % 65536 / 2
top_and_rest a = omega (arith, mod-pow-add a 1 15)

bit_inj : (a b : ℕ) → crc_bit a ≡ crc_bit b → a % 65536 ≡ b % 65536
unfolding crc_bit
bit_inj a b same =
    let top : a / 32768 % 2 ≡ b / 32768 % 2 = omega (arith, fallen_out a, fallen_out b) in
    let rest : a * 2 % 65536 ≡ b * 2 % 65536
    = xor_cancel _ _ (a / 32768 % 2 * polynomial) (cc (xor_comm (a * 2 % 65536) (a / 32768 % 2 * polynomial), xor_comm (b * 2 % 65536) (b / 32768 % 2 * polynomial))) in
    omega (arith, top_and_rest a, top_and_rest b)

bits_inj : (n a b : ℕ) → crc_bits n a ≡ crc_bits n b → a % 65536 ≡ b % 65536
unfolding crc_bits
bits_inj zero a b same = ap (λ (x : ℕ). x % 65536) same
bits_inj (suc n) a b same = bit_inj a b (omega (arith, bit_lt a, bit_lt b, bits_inj n (crc_bit a) (crc_bit b) same))

-- an octet loses nothing of the register
pub octet_inj : (r r' x : ℕ) → r < 65536 → r' < 65536 → crc_octet r x ≡ crc_octet r' x → r ≡ r'
unfolding crc_octet
octet_inj r r' x below below' same = omega (arith, xor_cancel_low 16 r r' (x * 256) (bits_inj 8 _ _ same))

-- nor does a list of octets
pub from_inj : (xs : List ℕ) (r r' : ℕ) → r < 65536 → r' < 65536 → crc_from r xs ≡ crc_from r' xs → r ≡ r'
unfolding crc_from
from_inj [] r r' below below' same = same
from_inj (x ∷ xs) r r' below below' same =
    octet_inj r r' x below below' (from_inj xs (crc_octet r x) (crc_octet r' x) (octet_lt r x) (octet_lt r' x) same)

-- the two octets of an amount are one number of 16 bits, joined to the register at once
amount_joins : (r m : ℕ) → crc_octet (crc_octet r (m / 256)) (m % 256) ≡ crc_bits 16 (bit_xor m r)
unfolding crc_octet crc_bits
amount_joins r m =
    cc (
      bits_pass 8 (bit_xor r (m / 256 * 256)) (m % 256) (omega arith),
      xor_assoc r (m / 256 * 256) (m % 256),
      halves m,
      xor_comm r m,
    )

-- nothing of the amount is lost, whatever follows
amount_inj : (r m m' : ℕ) (after : List ℕ) → m < 65536 → m' < 65536
    → crc_from r (m / 256 ∷ m % 256 ∷ after) ≡ crc_from r (m' / 256 ∷ m' % 256 ∷ after) → m ≡ m'
unfolding crc_from
amount_inj r m m' after below below' same =
    let alike : crc_octet (crc_octet r (m / 256)) (m % 256) ≡ crc_octet (crc_octet r (m' / 256)) (m' % 256) =
    from_inj after _ _ (octet_lt _ _) (octet_lt _ _) same
    in
    let joined : crc_bits 16 (bit_xor m r) ≡ crc_bits 16 (bit_xor m' r) = sym (amount_joins r m) ∙ alike ∙ amount_joins r m' in
    omega (arith, xor_cancel_low 16 m m' r (bits_inj 16 (bit_xor m r) (bit_xor m' r) joined))

-- 16 neighbouring bits that change are always seen: an amount and the check that follows it are one number of 32 bits

-- what the steps leave of such a number: the high half is shifted out over the low one
unfoldable rest : ℕ → ℕ
rest w = bit_xor (crc_bits 16 (w / 65536)) (w % 65536)

bits_zero : (n : ℕ) → crc_bits n 0 ≡ 0
bits_zero n = bits_linear n 0 0 ∙ xor_self (crc_bits n 0)

-- of 16 bits nothing is shifted out
rest_low : (q : ℕ) → q < 65536 → rest q ≡ q
unfolding rest
rest_low q below =
    let none-high : q / 65536 ≡ 0 = omega arith in
    let all_low : q % 65536 ≡ q = omega arith in
    rw (none-high, all_low, bits_zero 16) (xor_zero_l q)

-- a single bit that is shifted out leaves the polynomial
bit_out : (t : ℕ) → t < 2 → crc_bits 16 t ≡ t * polynomial
unfolding crc_bits crc_bit
bit_out zero below = refl
bit_out (suc zero) below = refl
bit_out (suc (suc t)) below = omega arith

-- the high half moves up by a bit, and takes in the bit t below
high_up : (high t : ℕ) → high < 32768 → t < 2 → crc_bits 16 (high * 2 + t) ≡ bit_xor (crc_bit (crc_bits 16 high)) (t * polynomial)
unfolding crc_bits
high_up high t below bit =
    let joined : high * 2 + t ≡ bit_xor (crc_bit high) t = rw (bit_up high below) (sym (xor_shifted high 1 t bit)) in
    ap (crc_bits 16) joined ∙ bits_linear 16 (crc_bit high) t ∙ ap (bit_xor (crc_bits 16 (crc_bit high))) (bit_out t bit)

-- so a step on what is left is the whole number moved up by a bit
rest_up : (w : ℕ) → w * 2 < 2 ^ 32 → crc_bit (rest w) ≡ rest (w * 2)
unfolding rest crc_bit
rest_up w below =
    let high = w / 65536 in
    let low = w % 65536 in
    let t = low / 32768 % 2 in
    let moved : w * 2 / 65536 ≡ high * 2 + t = omega arith in
    let within : w * 2 % 65536 ≡ low * 2 % 65536 = omega arith in
    bit_linear (crc_bits 16 high) low ∙ sym (xor_assoc (crc_bit (crc_bits 16 high)) (t * polynomial) (low * 2 % 65536))
    ∙ sym (ap₂ bit_xor (ap (crc_bits 16) moved ∙ high_up high t (omega arith) (omega arith)) within)

-- and so are n steps, by n bits
rest_bits : (n w : ℕ) → w * 2 ^ n < 2 ^ 32 → crc_bits n (rest w) ≡ rest (w * 2 ^ n)
unfolding crc_bits
rest_bits zero w below = sym (ap rest (mul-one w))
rest_bits (suc n) w below =
    let doubled : w * 2 ^ suc n ≡ w * 2 * 2 ^ n = rw (pow-suc 2 n) (omega arith) in
    let lower : w * 2 < 2 ^ 32 = omega (arith, mul-le-mul_left (w * 2) (pow_pos n)) in
    ap (crc_bits n) (rest_up w lower) ∙ rest_bits n (w * 2) (omega arith) ∙ sym (ap rest doubled)

-- what a change of the amount does to the register, whatever that was
amount_change : (r m x : ℕ)
    → crc_octet (crc_octet r (bit_xor m x / 256)) (bit_xor m x % 256) ≡ bit_xor (crc_octet (crc_octet r (m / 256)) (m % 256)) (crc_bits 16 x)
amount_change r m x =
    rw (amount_joins r (bit_xor m x), amount_joins r m, xor_swap m x r) (bits_linear 16 (bit_xor m r) x)

-- the check of a first octet and an amount
abbrev pub over_three : ℕ → ℕ → ℕ
over_three o m = crc (o ∷ m / 256 ∷ m % 256 ∷ [])

-- A change w of the 32 bits that lies within 16 neighbouring ones, the pattern q at s bits from the low end
module _ (q s w : ℕ) (some : 0 < q) (short : q < 65536) (made : w ≡ q * 2 ^ s) (inside : w < 2 ^ 32) where
  -- a check never follows such a change of its amount: q would leave nothing after s steps, and steps lose nothing
  burst_law : crc_bits 16 (w / 65536) ≡ w % 65536 → ⊥
  unfolding rest
  burst_law same =
      let nothing : rest w ≡ 0 = rw same (xor_self (w % 65536)) in
      let started : crc_bits s q ≡ crc_bits s 0
      = ap (crc_bits s) (sym (rest_low q short)) ∙ rest_bits s q (omega arith) ∙ sym (ap rest made) ∙ nothing ∙ sym (bits_zero s)
      in
      omega (arith, bits_inj s q 0 started)

  -- so where a check follows its amount, and w hits them, they fit no longer; whatever the octet before them
  pub burst_seen : (o m c : ℕ) → c ≡ over_three o m → bit_xor c (w % 65536) ≡ over_three o (bit_xor m (w / 65536)) → ⊥
  unfolding crc_from
  burst_seen o m c fit same =
      let changed = ap (λ (x : ℕ). bit_xor x (crc_bits 16 (w / 65536))) fit ∙ sym (amount_change (crc_octet start o) m (w / 65536)) in
      burst_law (xor_cancel _ _ c (xor_comm _ c ∙ changed ∙ sym same ∙ xor_comm c _))

-- Lists in parts

pub from_append : (xs ys : List ℕ) (r : ℕ) → crc_from r (xs ++ ys) ≡ crc_from (crc_from r xs) ys
unfolding crc_from
from_append [] ys r = refl
from_append (x ∷ xs) ys r = from_append xs ys (crc_octet r x)

-- what a register holds beside another goes its own way, as over octets of 0
from_beside : (xs : List ℕ) (r s : ℕ) → crc_from (bit_xor r s) xs ≡ bit_xor (crc_from r xs) (crc_from s (replicate (length xs) 0))
unfolding crc_from
from_beside [] r s = refl
from_beside (x ∷ xs) r s =
    ap (λ (y : ℕ). crc_from y xs) (ap (crc_octet (bit_xor r s)) (sym (xor_zero_r x)) ∙ octet_linear r s x 0) ∙ from_beside xs (crc_octet r x) (crc_octet s 0)

-- octets with their check behind them take the register from its start to 0
pub checked_zero : (xs : List ℕ) → crc (xs ++ crc xs / 256 ∷ crc xs % 256 ∷ []) ≡ 0
unfolding crc_from
checked_zero xs =
    from_append xs (crc xs / 256 ∷ crc xs % 256 ∷ []) start ∙ amount_joins (crc xs) (crc xs) ∙ ap (crc_bits 16) (xor_self (crc xs)) ∙ bits_zero 16

-- octets that do leave of themselves nothing but their number in any register
pub zero_alike : (xs : List ℕ) (r : ℕ) → crc xs ≡ 0 → crc_from r xs ≡ crc_from (bit_xor start r) (replicate (length xs) 0)
zero_alike xs r none =
    let back : r ≡ bit_xor start (bit_xor start r)
    = sym (xor_zero_l r) ∙ ap (λ (x : ℕ). bit_xor x r) (sym (xor_self start)) ∙ xor_assoc start start r in
    let left = crc_from (bit_xor start r) (replicate (length xs) 0) in
    ap (λ (x : ℕ). crc_from x xs) back ∙ from_beside xs start (bit_xor start r) ∙ ap (λ (x : ℕ). bit_xor x left) none ∙ xor_zero_l left

-- One hurt amount is always seen: lists of octets that differ in one amount alone have different CRCs
pub one_differs : (before after : List ℕ) (r m m' : ℕ) → m < 65536 → m' < 65536 → (m ≡ m' → ⊥)
    → crc_from r (before ++ m / 256 ∷ m % 256 ∷ after) ≡ crc_from r (before ++ m' / 256 ∷ m' % 256 ∷ after) → ⊥
one_differs before after r m m' below below' hurt same =
    hurt (amount_inj (crc_from r before) m m' after below below' (sym (from_append before _ r) ∙ same ∙ from_append before _ r))

-- The published values

-- the ASCII text 123456789
abbrev pub nine_digits : List ℕ
nine_digits = 0x31 ∷ 0x32 ∷ 0x33 ∷ 0x34 ∷ 0x35 ∷ 0x36 ∷ 0x37 ∷ 0x38 ∷ 0x39 ∷ []

pub vectors : (crc [] ≡ 0xFFFF) × (crc nine_digits ≡ 0x29B1)
unfolding crc_from crc_octet crc_bits crc_bit
vectors = (refl, refl)
