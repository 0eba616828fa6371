-- The digits of a number, the last one after the others, and how many there are.
use Rattle.std.proofs.Common.{◌≡◌, ℕ, zero, suc, ◌+◌, ◌/◌, ◌%◌, ◌^◌, ◌<◌, ◌≤◌, Bool, true, false, cond, ltb, List, [], ◌∷◌, ◌++◌, length, pow-suc, arith, length-append, le-ltb, lt-ltb}
use Rattle.protocol.specs.Listing.{digits}
use Rattle.buffer.specs.declared.Writer.{Writer}
use Rattle.buffer.specs.Added.{Added}
use Rattle.buffer.proofs.Texts.{and_then}

-- at most one more than in the part before the last
longer : (b : Bool) (f x y : ℕ) (l : List ℕ) → length l ≤ f → length (cond b (x ∷ []) (l ++ y ∷ [])) ≤ suc f
longer true f x y l h = omega arith
longer false f x y l h = rw length-append (omega arith)

pub at_most : (f n : ℕ) → length (digits f n) ≤ f
at_most zero n = omega arith
at_most (suc f) n = longer (ltb n 10) f (48 + n) (48 + n % 10) (digits f (n / 10)) (at_most f (n / 10))

module _ {x y : Writer} {n digit : ℕ} where
  -- a number of one digit
  pub one : n < 10 → digit ≡ 48 + n % 10 → Added (digit ∷ []) x y → (f : ℕ) → n < 10 ^ suc f → Added (digits (suc f) n) x y
  one h e w f l = let small : n % 10 ≡ n = omega arith in rw (lt-ltb n 10 h, ← small, ← e) w

  -- a number of more: it has one digit more than its tenth
  pub more : {mid : Writer} → 10 ≤ n → digit ≡ 48 + n % 10
      → ((f : ℕ) → n / 10 < 10 ^ suc f → Added (digits (suc f) (n / 10)) x mid) → Added (digit ∷ []) mid y
      → (f : ℕ) → n < 10 ^ suc f → Added (digits (suc f) n) x y
  more h e tenth w zero l = absurd (omega arith)
  more h e tenth w (suc f) l = rw (le-ltb n 10 h, ← e) (and_then (tenth f (omega (arith, pow-suc 10 (suc f)))) w)
