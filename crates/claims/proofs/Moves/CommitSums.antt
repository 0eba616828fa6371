-- The commit: what was sent is what was taken, so over all cabinets a party's bookings of the cuts add up to what those at the last recovery's
-- end add up to.
use Prim.Native.Nat.{ℕ, zero, suc, ◌+◌, ◌*◌, ◌<◌}
use mathlib.Core.Path.{◌≡◌, refl}
use native.Mathlib.Omega.{arith}
use Rattle.group.specs.Group.{sum}

-- equations that hold up to multiples of 65,536, added up
pub sum_books : (x out base got : ℕ → ℕ) (n : ℕ) → ((c : ℕ) → c < n → (k : ℕ) × (x c + out c + 65536 * k ≡ base c + got c))
    → (k : ℕ) × (sum x n + sum out n + 65536 * k ≡ sum base n + sum got n)
unfolding sum
sum_books x out base got zero h = (0, refl)
sum_books x out base got (suc n) h =
    let here = h n (omega arith) in
    let below = sum_books x out base got n (λ c l. h c (omega arith)) in
    (here.0 + below.0, omega (arith, here.1, below.1))

-- with sent and taken equal, and a total that two octets hold, nothing has wrapped
pub sum_exact : (x out base got : ℕ → ℕ) (n total : ℕ) → total < 65536 → sum base n ≡ total → sum out n ≡ sum got n
    → ((c : ℕ) → c < n → (k : ℕ) × (x c + out c + 65536 * k ≡ base c + got c)) → sum x n ≡ total
sum_exact x out base got n total l b e h = let s = sum_books x out base got n h in omega (arith, s.1)
