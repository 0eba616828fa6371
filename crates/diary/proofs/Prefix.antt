-- An evening needs no more of its files than the first 65,536 octets of the group file and the first 90,000 of the plan.
use Prim.Native.Nat.{ℕ, ◌<◌}
use mathlib.Core.Path.{◌≡◌}
use mathlib.Core.List.{List}
use native.Mathlib.Omega.{arith}
use lib.ListN.{get_or, take}
use Rattle.protocol.specs.Evening.{evening}
use Rattle.steps.proofs.Records.{first_parts}
use Rattle.report.proofs.Prefix.{same_load}

-- for a group file of octets
pub enough : (file plan : List ℕ) → ((i : ℕ) → get_or file i 0 < 256) → evening (take 65536 file) (take 90000 plan) ≡ evening file plan
unfolding evening
enough file plan o = rw (same_load file (omega (arith, o 8, o 9)), first_parts 9 10000 plan (omega arith))
