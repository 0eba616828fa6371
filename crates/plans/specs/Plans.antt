-- The operations of a plan.
use Rattle.std.specs.Prelude.{ℕ, List, length}
use Rattle.protocol.specs.History.{Operation}
use Rattle.protocol.specs.Evening.{operations, plan_records}

-- all of them: nine octets each, and a short last record counts
abbrev pub operations_in : List ℕ → List Operation
operations_in list = operations (plan_records (length list) list)
