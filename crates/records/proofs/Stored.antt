-- The checks on parts are the checks of the group.
use Prim.Native.Nat.{◌-◌}
use mathlib.Core.Path.{◌≡◌}
use native.Mathlib.Omega.{arith}
use Rattle.group.specs.declared.Group.{Group}
use Rattle.group.specs.Group.{cabinet, is_crashed}
use Rattle.protocol.specs.declared.Step.{Step}
use Rattle.protocol.specs.Entry.{first_of, second_of, entry_refusal}
use Rattle.records.specs.Records.{entry_refusal_of}

pub entry_parts : (g : Group) (s : Step) → entry_refusal g s ≡ entry_refusal_of g.n (is_crashed g) s (cabinet g (first_of s - 1)) (cabinet g (second_of s - 1))
entry_parts g s = grind arith
