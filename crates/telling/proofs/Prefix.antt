-- The line of `word` needs no more of its files than the first 65,536 octets of the group file and the first 60,000 of the steps.
use Prim.Native.Nat.{ℕ, ◌<◌}
use mathlib.Core.Path.{◌≡◌}
use mathlib.Core.List.{List}
use native.Mathlib.Omega.{arith}
use lib.ListN.{get_or, take}
use Rattle.protocol.specs.Word.{word}
use Rattle.steps.proofs.Records.{first_parts}
use Rattle.report.proofs.Prefix.{same_load}

-- for a group file of octets
pub enough : (file steps : List ℕ) → ((i : ℕ) → get_or file i 0 < 256) → word (take 65536 file) (take 60000 steps) ≡ word file steps
unfolding word
enough file steps o = rw (same_load file (omega (arith, o 8, o 9)), first_parts 6 10000 steps (omega arith))
