-- Parts of the group: a cabinet with its outgoing lines, a cabinet with one line; how they come out of the group and go back into it.
-- Cabinets are numbered from 0 here.
use Rattle.std.specs.Prelude.{ℕ, cond, ltb, Result, Ok, Err}
use Rattle.refusal.specs.declared.Refusal.{Refusal}
use Rattle.refusal.specs.Refusal.{number}
use Rattle.line.specs.declared.Line.{Line}
use Rattle.line.specs.Line.{empty_line}
use Rattle.cabinet.specs.declared.Cabinet.{Cabinet}
use Rattle.cabinet.specs.Cabinet.{absent}
use Rattle.outgoing.specs.declared.Outgoing.{Outgoing}
use Rattle.group.specs.declared.Group.{Group}
use Rattle.group.specs.Group.{cabinet, with_cabinet, outgoing, with_outgoing}
use Rattle.seat.specs.declared.Seat.{Seat}
use Rattle.seat.specs.declared.Spot.{Spot}
use Rattle.seat.specs.declared.SeatAnswer.{SeatAnswer}
use Rattle.seat.specs.declared.SpotAnswer.{SpotAnswer}

-- ---- a cabinet with its outgoing lines

abbrev pub seat : Group → ℕ → Seat
seat g i = record { cabinet = cabinet g i; lines = outgoing g i }

abbrev pub with_seat : Group → ℕ → Seat → Group
with_seat g i s = with_outgoing (with_cabinet g i s.cabinet) i s.lines

abbrev pub with_seat_cabinet : Seat → Cabinet → Seat
with_seat_cabinet s c = record { cabinet = c; lines = s.lines }

abbrev pub with_seat_lines : Seat → Outgoing → Seat
with_seat_lines s o = record { cabinet = s.cabinet; lines = o }

abbrev pub answered : ℕ → Seat → SeatAnswer
answered k s = record { answer = k; seat = s }

-- a refusal changes nothing
abbrev pub seat_after : Seat → Result Seat Refusal → SeatAnswer
seat_after before (Ok s) = answered 0 s
seat_after before (Err r) = answered (number r) before

-- ---- a cabinet with one line

abbrev pub spot : ℕ → Cabinet → Line → SpotAnswer
spot k c l = record { answer = k; cabinet = c; line = l }

abbrev pub spot_after : Spot → Result Spot Refusal → SpotAnswer
spot_after before (Ok s) = spot 0 s.cabinet s.line
spot_after before (Err r) = spot (number r) before.cabinet before.line

-- where nothing is refused
abbrev pub spot_left : Spot → SpotAnswer
spot_left s = spot 0 s.cabinet s.line

-- ---- by a number that may be past the eighth, of what stands at the place that it has among the eight

-- cabinet i, where c stands there
abbrev pub there : ℕ → Cabinet → Cabinet
there i c = cond (ltb i 8) c absent

-- what stands there once cabinet i is c
abbrev pub kept : ℕ → Cabinet → Cabinet → Cabinet
kept i c before = cond (ltb i 8) c before

abbrev pub line_there : ℕ → Line → Line
line_there j l = cond (ltb j 8) l empty_line

abbrev pub line_kept : ℕ → Line → Line → Line
line_kept j l before = cond (ltb j 8) l before
