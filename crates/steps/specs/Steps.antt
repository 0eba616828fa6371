-- The operations of a list of step records, or of a plan; a short last record counts.
use Rattle.std.specs.Prelude.{ℕ, Bool, List, map, length}
use Rattle.protocol.specs.Listing.{parts}
use Rattle.protocol.specs.History.{Operation}
use Rattle.turns.specs.Turns.{record_size, operation_in}

abbrev pub records_of : Bool → List ℕ → List (List ℕ)
records_of plan list = parts (record_size plan) (length list) list

abbrev pub operations_of : Bool → List ℕ → List Operation
operations_of plan list = map (operation_in plan) (records_of plan list)
