-- What a writing function leaves: the text stored octet by octet from `at` on, and the place after it. Past the buffer's end nothing is
-- stored.
use Rattle.std.specs.Prelude.{◌≡◌, ℕ, ◌+◌, ◌%◌, ◌^◌, List, [], ◌∷◌, length, slice_set}

-- a place is a number of the machine: after the last one comes 0
abbrev pub next : ℕ → ℕ
next at = (at + 1) % 2 ^ 64

abbrev pub place_after : ℕ → List ℕ → ℕ
place_after at [] = at
place_after at (x ∷ text) = place_after (next at) text

abbrev pub stored_from : ℕ → List ℕ → List ℕ → List ℕ
stored_from at [] buffer = buffer
stored_from at (x ∷ text) buffer = stored_from (next at) text (slice_set buffer at x)

pub record Written (text : List ℕ) (at : ℕ) (before : List ℕ) (end : ℕ) (after : List ℕ) : Type 0 where
  pub ends : end ≡ place_after at text
  pub stored : after ≡ stored_from at text before
  pub kept : length after ≡ length before
