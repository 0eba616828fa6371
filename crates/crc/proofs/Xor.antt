-- Laws of xor beyond those of the library: order and grouping do not matter, an operand cancels, shifts up and products of bits pass through.
-- Assumes nothing.
use mathlib.Core.Path.{◌≡◌, refl, sym, ap, ◌∙◌}
use Prim.Native.Nat.{ℕ, zero, suc, ◌*◌, ◌/◌, ◌%◌, ◌^◌, ◌<◌}
use native.Mathlib.Nat.{add-zero, zero-mul, mod-lt}
use native.Mathlib.Omega.{arith}
use lib.Arith.{bin_ind}
use lib.Bits.{bit_xor, xor_add_and, xor_shr, xor_self, xor_zero_l, xor_zero_r, xor_comm, xor_mod, xor_block, xor_shifted}
use lib.Pow.{pow_pos, split}

-- by halving: the halves agree by induction, and the last digits by the sums that xor leaves
pub xor_assoc : (a b c : ℕ) → bit_xor (bit_xor a b) c ≡ bit_xor a (bit_xor b c)
xor_assoc =
    bin_ind (λ (n : ℕ). (b c : ℕ) → bit_xor (bit_xor n b) c ≡ bit_xor n (bit_xor b c)) (λ b c. refl)
    (λ n half b c.
    let halves : bit_xor (bit_xor n b) c / 2 ≡ bit_xor n (bit_xor b c) / 2
    = cc (xor_shr (bit_xor n b) c 1, xor_shr n b 1, xor_shr n (bit_xor b c) 1, xor_shr b c 1, half (b / 2) (c / 2)) in
    omega (arith, xor_add_and (bit_xor n b) c, xor_add_and n b, xor_add_and n (bit_xor b c), xor_add_and b c))

-- the last two operands change places
pub xor_swap : (a b c : ℕ) → bit_xor (bit_xor a b) c ≡ bit_xor (bit_xor a c) b
xor_swap a b c = xor_assoc a b c ∙ ap (bit_xor a) (xor_comm b c) ∙ sym (xor_assoc a c b)

-- the inner two of four operands change places
pub xor_medial : (a b c d : ℕ) → bit_xor (bit_xor a b) (bit_xor c d) ≡ bit_xor (bit_xor a c) (bit_xor b d)
xor_medial a b c d =
    sym (xor_assoc (bit_xor a b) c d) ∙ ap (λ (x : ℕ). bit_xor x d) (xor_swap a b c) ∙ xor_assoc (bit_xor a c) b d

-- a number is its high part and its k lowest binary digits
pub xor_split : (k m : ℕ) → m ≡ bit_xor (m / 2 ^ k * 2 ^ k) (m % 2 ^ k)
xor_split k m = sym (xor_shifted (m / 2 ^ k) k (m % 2 ^ k) (mod-lt m (pow_pos k)) ∙ split m k)

-- the same operand twice is none
xor_twice : (a b : ℕ) → bit_xor (bit_xor a b) b ≡ a
xor_twice a b = xor_assoc a b b ∙ ap (bit_xor a) (xor_self b) ∙ xor_zero_r a

pub xor_cancel : (a b c : ℕ) → bit_xor a c ≡ bit_xor b c → a ≡ b
xor_cancel a b c same = sym (xor_twice a c) ∙ ap (λ (x : ℕ). bit_xor x c) same ∙ xor_twice b c

-- the same in the lowest k binary digits
pub xor_cancel_low : (k a b c : ℕ) → bit_xor a c % 2 ^ k ≡ bit_xor b c % 2 ^ k → a % 2 ^ k ≡ b % 2 ^ k
xor_cancel_low k a b c same =
    xor_cancel (a % 2 ^ k) (b % 2 ^ k) (c % 2 ^ k) (sym (xor_mod a c k) ∙ same ∙ xor_mod b c k)

-- a function that passes through xor
abbrev pub Linear : (ℕ → ℕ) → Type 0
Linear f = (a b : ℕ) → f (bit_xor a b) ≡ bit_xor (f a) (f b)

-- the same of two numbers
abbrev pub Linear₂ : (ℕ → ℕ → ℕ) → Type 0
Linear₂ f = (a b x y : ℕ) → f (bit_xor a b) (bit_xor x y) ≡ bit_xor (f a x) (f b y)

-- a shift up passes through xor
pub xor_shift : (k a b : ℕ) → bit_xor a b * 2 ^ k ≡ bit_xor (a * 2 ^ k) (b * 2 ^ k)
xor_shift k a b = sym (simp add-zero at (xor_block k a b 0 0 (pow_pos k) (pow_pos k)))

-- and so does a product, where both operands are single bits
pub xor_bits_times : (m p q : ℕ) → p < 2 → q < 2 → bit_xor p q * m ≡ bit_xor (p * m) (q * m)
xor_bits_times m zero q below below' = cc (zero-mul m, xor_zero_l q, xor_zero_l (q * m))
xor_bits_times m (suc zero) zero below below' = cc (zero-mul m, xor_zero_r (1 * m))
xor_bits_times m (suc zero) (suc zero) below below' = cc (zero-mul m, xor_self (1 * m))
xor_bits_times m (suc zero) (suc (suc q)) below below' = omega arith
xor_bits_times m (suc (suc p)) q below below' = omega arith
