-- The operations that a chronicle tells more of than their answer. In a step cabinets count from 1, here from 0.
use Rattle.std.specs.Prelude.{◌-◌}
use Rattle.protocol.specs.declared.Step.{Step}
use Rattle.protocol.specs.declared.Step.TheVariants.{Send, Note, Begin, Deliver, Write, Saved, Fetch, Restored, Fail, Damage, Lose, Trip, Unsure}
use Rattle.protocol.specs.declared.Decoded.{Decoded}
use Rattle.protocol.specs.declared.Decoded.TheVariants.{Malformed, Unused, Taken}
use Rattle.turns.specs.declared.Order.{Order}
use Rattle.turns.specs.declared.Order.TheVariants.{Record, Point, Return}
use Rattle.newest.specs.declared.Sort.{Sort}
use Rattle.newest.specs.declared.Sort.TheVariants.{Delivery, SavedReport, PieceFetched, RestoredReport, Loss, Returning, Other}

abbrev pub sort_of : Step → Sort
sort_of (Send a b p q) = Other
sort_of (Note a p q) = Other
sort_of (Begin a) = Other
sort_of (Deliver a b) = Delivery (a - 1) (b - 1)
sort_of (Write a) = Other
sort_of (Saved a) = SavedReport (a - 1)
sort_of (Fetch a) = PieceFetched (a - 1)
sort_of (Restored a) = RestoredReport (a - 1)
sort_of (Fail a) = Loss (a - 1)
sort_of (Damage a b p w) = Other
sort_of (Lose a b p) = Other
sort_of (Trip a) = Loss (a - 1)
sort_of (Unsure a) = Other

abbrev pub sort_in : Decoded → Sort
sort_in Malformed = Other
sort_in Unused = Other
sort_in (Taken s) = sort_of s

abbrev pub sort_for : Order → Sort
sort_for (Record d) = sort_in d
sort_for Point = Other
sort_for Return = Returning
