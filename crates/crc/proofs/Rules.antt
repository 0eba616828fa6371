-- Rules on a register of 16 bits and an octet, made of shifts, masks and xors. Each passes through xor, so its values at the powers of two decide it.
-- Assumes nothing.
use mathlib.Core.Path.{◌≡◌, refl, sym, ap, ap₂, ◌∙◌}
use mathlib.Core.List.{List, [], ◌∷◌, head-eq_of_cons-eq, tail-eq_of_cons-eq}
use Prim.Native.Nat.{ℕ, zero, suc, ◌+◌, ◌*◌, ◌/◌, ◌%◌, ◌-◌, ◌^◌, ◌<◌}
use native.Mathlib.Nat.{pow-suc}
use native.Mathlib.Omega.{arith}
use lib.Bits.{bit_and, bit_xor, xor_shr, xor_mod, xor_self, xor_zero_l, xor_zero_r, and_high}
use Rattle.crc.proofs.Xor.{Linear, Linear₂, xor_medial, xor_split, xor_shift}

-- The rules

pub data Rule : Type 0 where
  register : Rule
  octet : Rule
  -- a shift by so many places, up within 16 bits
  up : ℕ → Rule → Rule
  down : ℕ → Rule → Rule
  -- a mask over j places from place k on
  mask : (j k : ℕ) → Rule → Rule
  join : Rule → Rule → Rule

abbrev pub value_of : Rule → ℕ → ℕ → ℕ
value_of register r x = r
value_of octet r x = x
value_of (up k f) r x = value_of f r x * 2 ^ k % 65536
value_of (down k f) r x = value_of f r x / 2 ^ k
value_of (mask j k f) r x = bit_and (value_of f r x) (2 ^ (j + k) - 2 ^ k)
value_of (join f g) r x = bit_xor (value_of f r x) (value_of g r x)

-- They are linear

mask_linear : (j k : ℕ) → Linear (λ x. bit_and x (2 ^ (j + k) - 2 ^ k))
mask_linear j k a b =
    rw (and_high (bit_xor a b) j k, and_high a j k, and_high b j k, xor_shr a b k, xor_mod (a / 2 ^ k) (b / 2 ^ k) j)
    (xor_shift k (a / 2 ^ k % 2 ^ j) (b / 2 ^ k % 2 ^ j))

pub linear : (f : Rule) → Linear₂ (value_of f)
linear register a b x y = refl
linear octet a b x y = refl
linear (up k f) a b x y =
    rw (linear f a b x y, xor_shift k (value_of f a x) (value_of f b y)) (xor_mod (value_of f a x * 2 ^ k) (value_of f b y * 2 ^ k) 16)
linear (down k f) a b x y = rw (linear f a b x y) (xor_shr (value_of f a x) (value_of f b y) k)
linear (mask j k f) a b x y = rw (linear f a b x y) (mask_linear j k (value_of f a x) (value_of f b y))
linear (join f g) a b x y =
    rw (linear f a b x y, linear g a b x y) (xor_medial (value_of f a x) (value_of f b y) (value_of g a x) (value_of g b y))

-- The values at the powers of two decide

-- the values at 1, 2, 4 and so on, n of them
abbrev pub at_powers : (ℕ → ℕ) → ℕ → List ℕ
at_powers f zero = []
at_powers f (suc n) = f 1 ∷ at_powers (λ x. f (x * 2)) n

zero_at_zero : (f : ℕ → ℕ) → Linear f → f 0 ≡ 0
zero_at_zero f linear-f = linear-f 0 0 ∙ xor_self (f 0)

digit_decided : (f g : ℕ → ℕ) → Linear f → Linear g → f 1 ≡ g 1 → (d : ℕ) → d < 2 → f d ≡ g d
digit_decided f g linear-f linear-g same zero below = zero_at_zero f linear-f ∙ sym (zero_at_zero g linear-g)
digit_decided f g linear-f linear-g same (suc zero) below = same
digit_decided f g linear-f linear-g same (suc (suc d)) below = omega arith

doubled_linear : (f : ℕ → ℕ) → Linear f → Linear (λ x. f (x * 2))
doubled_linear f linear-f a b = ap f (xor_shift 1 a b) ∙ linear-f (a * 2) (b * 2)

by_digit : (f : ℕ → ℕ) → Linear f → (x : ℕ) → f x ≡ bit_xor (f (x / 2 * 2)) (f (x % 2))
by_digit f linear-f x = ap f (xor_split 1 x) ∙ linear-f (x / 2 * 2) (x % 2)

-- linear functions with the same values there agree at every number of n binary digits
decided : (f g : ℕ → ℕ) → Linear f → Linear g → (n : ℕ) → at_powers f n ≡ at_powers g n → (x : ℕ) → x < 2 ^ n → f x ≡ g x
decided f g linear-f linear-g zero same x below =
    let none : x ≡ 0 = omega arith in
    ap f none ∙ zero_at_zero f linear-f ∙ sym (ap g none ∙ zero_at_zero g linear-g)
decided f g linear-f linear-g (suc n) same x below =
    let rest = decided (λ y. f (y * 2)) (λ y. g (y * 2)) (doubled_linear f linear-f) (doubled_linear g linear-g) n (tail-eq_of_cons-eq same)
    (x / 2) (omega (arith, pow-suc 2 n))
    in
    let digit = digit_decided f g linear-f linear-g (head-eq_of_cons-eq same) (x % 2) (omega arith) in
    by_digit f linear-f x ∙ ap₂ bit_xor rest digit ∙ sym (by_digit g linear-g x)

apart : (f : ℕ → ℕ → ℕ) → Linear₂ f → (r x : ℕ) → f r x ≡ bit_xor (f r 0) (f 0 x)
apart f linear-f r x = sym (ap₂ f (xor_zero_r r) (xor_zero_l x)) ∙ linear-f r 0 0 x

-- so a register of 16 bits and an octet are decided by sixteen registers and eight octets
pub decided₂ : (f g : ℕ → ℕ → ℕ) → Linear₂ f → Linear₂ g
    → at_powers (λ r. f r 0) 16 ≡ at_powers (λ r. g r 0) 16 → at_powers (f 0) 8 ≡ at_powers (g 0) 8
    → (r x : ℕ) → r < 65536 → x < 256 → f r x ≡ g r x
decided₂ f g linear-f linear-g same same' r x below below' =
    let high = decided (λ r. f r 0) (λ r. g r 0) (λ a b. linear-f a b 0 0) (λ a b. linear-g a b 0 0) 16 same r below in
    let low = decided (f 0) (g 0) (linear-f 0 0) (linear-g 0 0) 8 same' x below' in
    apart f linear-f r x ∙ ap₂ bit_xor high low ∙ sym (apart g linear-g r x)
