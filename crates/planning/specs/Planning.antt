-- An answer with what a point that is taken, and a return, leave. A refusal changes nothing.
use Rattle.std.specs.Prelude.{Result, Ok, Err}
use Rattle.refusal.specs.declared.Refusal.{Refusal}
use Rattle.refusal.specs.Refusal.{number}
use Rattle.points.specs.declared.Points.{Points}
use Rattle.group.specs.declared.Group.{Group}
use Rattle.group.specs.declared.Outcome.{Outcome}
use Rattle.group.specs.Group.{answering, taken}
use Rattle.protocol.specs.declared.Noted.{Noted}
use Rattle.protocol.specs.Points.{noting}

abbrev pub noted_after : Points → Result Points Refusal → Noted
noted_after before (Ok points) = noting 0 points
noted_after before (Err refusal) = noting (number refusal) before

abbrev pub returned_after : Group → Result Group Refusal → Outcome
returned_after before (Ok g) = taken g
returned_after before (Err refusal) = answering (number refusal) before
