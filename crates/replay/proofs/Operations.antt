-- The records of a list of steps or of a plan are octets.
use Prim.Native.Nat.{ℕ, ◌+◌}
use mathlib.Core.Bool.{Bool, true, false, cond}
use mathlib.Core.List.{List}
use native.Mathlib.Omega.{arith}
use lib.Dec.{eqb}
use lib.ListN.{length, get_or, drop}
use mir.Syntax.{w8}
use mir.Val.{Fits}
use Rattle.protocol.specs.History.{Operation, stepping}
use Rattle.protocol.specs.Restored.{Octets, OctetsIn, AllOctets}
use Rattle.protocol.specs.Evening.{no_operation, operation_of}
use Rattle.claims.proofs.State.Octets.{octets_take, octets_drop}
use Rattle.steps.specs.Steps.{operations_of}
use Rattle.replay.proofs.Moments.{all_octets}

either : (b : Bool) (x y : Operation) → OctetsIn x → OctetsIn y → OctetsIn (cond b x y)
either true x y p q = p
either false x y p q = q

none_in : OctetsIn no_operation
none_in i = omega arith

pub octets_of : (r : List ℕ) → Octets r → OctetsIn (operation_of r)
octets_of r o =
    let octets : List ℕ = drop 1 r in
    either (eqb (length r) 9) _ _
    (either (eqb (get_or r 0 0) 0) _ _
    (either (eqb (get_or octets 6 0 + get_or octets 7 0) 0) _ _ (octets_take 6 octets (octets_drop 1 r o)) none_in)
    (either (eqb (get_or r 0 0) 1) _ _ tt (either (eqb (get_or r 0 0) 2) _ _ tt none_in)))
    none_in

pub all_in : (plan : Bool) (list : List ℕ) → ((i : ℕ) → Fits w8 (get_or list i 0)) → AllOctets (operations_of plan list)
all_in true list octets = all_octets operation_of octets_of 9 (length list) list octets
all_in false list octets = all_octets stepping (λ r q. q) 6 (length list) list octets
