-- The first of the four places that passes a test, found by asking them in order.
use Rattle.std.proofs.Common.{ℕ, zero, suc, ◌<◌, ◌≡◌, Bool, true, false, arith}
use Rattle.points.specs.Points.{first_place}

pub first_is : (test : ℕ → Bool) (i : ℕ) → i < 4 → ((k : ℕ) → k < i → test k ≡ false) → test i ≡ true → i ≡ first_place test
first_is test zero l before here = rw here
first_is test (suc zero) l before here = rw (before 0 (omega arith), here)
first_is test (suc (suc zero)) l before here = rw (before 0 (omega arith), before 1 (omega arith), here)
first_is test (suc (suc (suc zero))) l before here = rw (before 0 (omega arith), before 1 (omega arith), before 2 (omega arith), here)
first_is test (suc (suc (suc (suc i)))) l before here = absurd (omega arith)

pub first_none : (test : ℕ → Bool) → ((k : ℕ) → k < 4 → test k ≡ false) → 4 ≡ first_place test
first_none test before = rw (before 0 (omega arith), before 1 (omega arith), before 2 (omega arith), before 3 (omega arith))
