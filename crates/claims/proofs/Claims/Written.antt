-- Files and operations that are written out hold octets, by computation.
use Prim.Native.Nat.{ℕ, zero, suc}
use mathlib.Core.Path.{◌≡◌}
use mathlib.Core.Bool.{Bool, true, ◌&&◌}
use mathlib.Core.List.{List, [], ◌∷◌}
use lib.Dec.{ltb}
use borrow.Author.Tests.{ltb-true}
use native.Mathlib.Omega.{arith}
use Rattle.protocol.specs.History.{Operation, stepping, pointing, returning}
use Rattle.protocol.specs.Restored.{Octets, OctetsIn, AllOctets}
use Rattle.claims.proofs.State.Fun.{and_true}

-- every number of the list is below 256
abbrev pub all_octets : List ℕ → Bool
all_octets [] = true
all_octets (x ∷ xs) = ltb x 256 && all_octets xs

abbrev pub octets_in : Operation → Bool
octets_in (stepping r) = all_octets r
octets_in (pointing name) = true
octets_in (returning name) = true

abbrev pub all_in : List Operation → Bool
all_in [] = true
all_in (x ∷ xs) = octets_in x && all_in xs

pub octets_of : (l : List ℕ) → all_octets l ≡ true → Octets l
octets_of [] e i = omega arith
octets_of (x ∷ xs) e zero = ltb-true x 256 (and_true {s = ltb x 256} e).0
octets_of (x ∷ xs) e (suc i) = octets_of xs (and_true {s = ltb x 256} e).1 i

pub operation_of : (x : Operation) → octets_in x ≡ true → OctetsIn x
operation_of (stepping r) e = octets_of r e
operation_of (pointing name) e = tt
operation_of (returning name) e = tt

pub operations_of_lem : (xs : List Operation) → all_in xs ≡ true → AllOctets xs
operations_of_lem [] e = tt
operations_of_lem (x ∷ xs) e = (operation_of x (and_true {s = octets_in x} e).0, operations_of_lem xs (and_true {s = octets_in x} e).1)
