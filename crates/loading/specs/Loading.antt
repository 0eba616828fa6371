-- A group that was taken, or the number of a refusal with no group.
use Rattle.std.specs.Prelude.{Result, Ok, Err}
use Rattle.refusal.specs.declared.Refusal.{Refusal}
use Rattle.refusal.specs.Refusal.{number}
use Rattle.group.specs.declared.Group.{Group}
use Rattle.group.specs.declared.Outcome.{Outcome}
use Rattle.group.specs.Group.{answering, taken}
use Rattle.load.specs.Load.{no_group}

abbrev pub outcome_of : Result Group Refusal → Outcome
outcome_of (Ok group) = taken group
outcome_of (Err refusal) = answering (number refusal) no_group
