-- What a turn leaves: the parts that it touches, changed and stored back. That this is the step of the group, as `protocol` has it, is proved in
-- proofs/Same.antt.
use Rattle.std.specs.Prelude.{ℕ, Bool, cond, get_or}
use Rattle.line.specs.Line.{oldest}
use Rattle.store.specs.Store.{is_away}
use Rattle.store.specs.Share.{share, with_share, serves_in}
use Rattle.cabinet.specs.declared.Cabinet.{Cabinet}
use Rattle.group.specs.declared.Group.{Group}
use Rattle.group.specs.declared.Outcome.{Outcome}
use Rattle.group.specs.Group.{cabinet, with_cabinet, outgoing, line, with_line, with_store, with_trips, with_settled, no_row, is_crashed, some, recovering_ones, answering, taken, crashed}
use Rattle.seat.specs.declared.SpotAnswer.{SpotAnswer}
use Rattle.seat.specs.Seat.{seat, with_seat}
use Rattle.protocol.specs.Kinds.{or_refuse, fail_step, trip_step}
use Rattle.saving.specs.declared.KeptAnswer.{KeptAnswer}
use Rattle.saving.specs.Saving.{owe_if}
use Rattle.restoring.specs.Restoring.{closing}
use Rattle.linkcheck.specs.Linkcheck.{link_fault}
use Rattle.turns.specs.declared.Order.{Order}
use Rattle.turns.specs.declared.Deed.{Deed}
use Rattle.turns.specs.declared.Call.{Call}
use Rattle.turns.specs.declared.Piece.{Piece}
use Rattle.turns.specs.declared.Report.{Report}
use Rattle.turns.specs.declared.Whole.{Whole}
use Rattle.turns.specs.declared.Whole.TheVariants.{Fail, Trip, LinkFault, Crash}
use Rattle.turns.specs.declared.Turn.{Turn}
use Rattle.turns.specs.declared.Turn.TheVariants.{Refused, Deed as ADeed, Call as ACall, Piece as APiece, Report as AReport, Whole as AWhole, Point as APoint, Return as AReturn}
use Rattle.turns.specs.Turns.{turn_of, linked, doer, deed_done, line_left, call_done, word_left, piece_done, coordinator_of, report_refusal, home_left, reported, concluded, trips_left, word_of, closes_with}

-- the turn of a record in a group
abbrev pub turn_in : Order → Group → ℕ → ℕ → Turn
turn_in o g a b =
    turn_of o g.n (is_crashed g) (some (recovering_ones g)) (cabinet g a) (cabinet g b) a (linked a b (get_or g.links a no_row)) (line g a b) g.packets

-- ---- one cabinet and the line from a to b

abbrev pub with_spot : Group → ℕ → ℕ → ℕ → SpotAnswer → Outcome
with_spot g x a b r = answering r.answer (with_line (with_cabinet g x r.cabinet) a b r.line)

unfoldable pub deed_stored : Deed → Group → ℕ → ℕ → Outcome
deed_stored d g a b = with_spot g (doer d a b) a b (deed_done d (cabinet g (doer d a b)) (line g a b) a b g.packets)

-- ---- the line from a to b, then b's cabinet and all its lines

abbrev pub with_line_left : Call → Group → ℕ → ℕ → Group
with_line_left d g a b = with_line g a b (line_left d (line g a b))

unfoldable pub call_stored : Call → Group → ℕ → ℕ → Outcome
call_stored d g a b =
    answering (call_done d (seat (with_line_left d g a b) b) a b (oldest (line g a b))).answer
    (with_settled (with_seat (with_line_left d g a b) b (call_done d (seat (with_line_left d g a b) b) a b (oldest (line g a b))).seat)
    (word_left d g.settled (cabinet g b) a b (oldest (line g a b))))

-- ---- a cabinet and its slots, then its home h

abbrev pub with_kept : Group → ℕ → KeptAnswer → Group
with_kept g a r = with_store (with_cabinet g a r.cabinet) (with_share g.store a r.share)

abbrev pub with_owing : Group → ℕ → ℕ → Bool → Group
with_owing g h a owes = with_cabinet g h (owe_if owes (cabinet g h) a)

unfoldable pub kept_stored : Group → ℕ → ℕ → KeptAnswer → Outcome
kept_stored g a h r = answering r.answer (with_owing (with_kept g a r) h a r.owes)

unfoldable pub piece_stored : Piece → Group → ℕ → Outcome
piece_stored d g a =
    kept_stored g a (serves_in (share g.store a))
    (piece_done d (cabinet g a) (cabinet g (serves_in (share g.store a))) (share g.store a) a)

-- ---- a home h, then a coordinator k

abbrev pub with_home_left : Report → Group → ℕ → ℕ → Group
with_home_left d g a h = with_cabinet g h (home_left d (cabinet g h) a)

-- told is the coordinator with the report
abbrev pub with_concluded : Report → Group → ℕ → Cabinet → Group
with_concluded d g k told =
    with_settled
    (with_trips (with_seat g k (concluded d (record { cabinet = told; lines = outgoing g k }))) (trips_left d told g.trips))
    (word_of d told k g.settled)

-- a restored report may do more
abbrev pub closed_if : Bool → Group → ℕ → ℕ → Group
closed_if asked g a k = cond asked (closing g a k) g

unfoldable pub report_taken : Report → Group → ℕ → ℕ → ℕ → Group
report_taken d g a h k =
    closed_if (closes_with d (is_away g.store a) (reported d (cabinet (with_home_left d g a h) k) a))
    (with_concluded d (with_home_left d g a h) k (reported d (cabinet (with_home_left d g a h) k) a)) a k

unfoldable pub report_at : Report → Group → ℕ → ℕ → ℕ → Outcome
report_at d g a h k =
    or_refuse (report_refusal d (cabinet g a) (cabinet g h) (cabinet g k) a) g (taken (report_taken d g a h k))

unfoldable pub report_stored : Report → Group → ℕ → Outcome
report_stored d g a =
    report_at d g a (serves_in (share g.store a)) (coordinator_of d (cabinet g a) (cabinet g (serves_in (share g.store a))))

-- ---- the whole group

unfoldable pub whole_stored : Whole → Group → ℕ → ℕ → Outcome
whole_stored Fail g a b = fail_step g a
whole_stored Trip g a b = trip_step g a
whole_stored LinkFault g a b = link_fault g a b
whole_stored Crash g a b = crashed g

-- ---- a turn; points and returns change no more than `Evening` says

unfoldable pub turn_stored : Turn → Group → ℕ → ℕ → Outcome
turn_stored (Refused k) g a b = answering k g
turn_stored (ADeed d) g a b = deed_stored d g a b
turn_stored (ACall d) g a b = call_stored d g a b
turn_stored (APiece d) g a b = piece_stored d g a
turn_stored (AReport d) g a b = report_stored d g a
turn_stored (AWhole w) g a b = whole_stored w g a b
turn_stored APoint g a b = taken g
turn_stored AReturn g a b = taken g
