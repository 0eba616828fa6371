-- The fault that a cabinet has entered error for.
use Rattle.std.specs.Prelude.{Bool, false, Option, None, Some}
use Rattle.packet.specs.declared.Place.{Place}
use Rattle.packet.specs.Packet.{same_place}

-- the fault that a cabinet entered error for, if any
abbrev pub Alarm : Type 0
Alarm = Option Place

-- "A fault for the same place is noted; for another place it crashes the group."
abbrev pub is_for : Alarm → Place → Bool
is_for None p = false
is_for (Some q) p = same_place q p
