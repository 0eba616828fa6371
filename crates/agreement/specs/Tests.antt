-- What the tests of the crate decide.
use Rattle.std.specs.Prelude.{ℕ, ◌≡◌, Bool, true, List, length, take}

-- the test is true exactly where the fact holds
pub record Decides (test : Bool) (fact : Type 0) : Type 0 where
  pub sound : test ≡ true → fact
  pub complete : fact → test ≡ true

-- the text stands at the buffer's start and has the length `end`
pub record Held (buffer : List ℕ) (end : ℕ) (text : List ℕ) : Type 0 where
  pub ends : end ≡ length text
  pub start : take end buffer ≡ text
