-- What a record asks, which parts of the group it touches, and what is done to them. Cabinets are numbered from 0 here.
use Rattle.std.specs.Prelude.{ℕ, ◌+◌, ◌-◌, Bool, false, cond, ◌&&◌, List, length, get_or, take, drop, replicate, eqb, ltb}
use Rattle.marks.specs.Marks.{marked}
use Rattle.packet.specs.declared.Packet.{Packet}
use Rattle.packet.specs.declared.PacketVersion.{PacketVersion}
use Rattle.line.specs.declared.Line.{Line}
use Rattle.line.specs.Line.{oldest, rest}
use Rattle.settled.specs.Settled.{Settled}
use Rattle.store.specs.declared.Share.{Share}
use Rattle.cabinet.specs.declared.Cabinet.{Cabinet}
use Rattle.cabinet.specs.Cabinet.{coordinator, owing, saved_for, restored_for, unsure_for}
use Rattle.group.specs.declared.Row.{Row}
use Rattle.seat.specs.declared.Seat.{Seat}
use Rattle.seat.specs.declared.SeatAnswer.{SeatAnswer}
use Rattle.seat.specs.declared.SpotAnswer.{SpotAnswer}
use Rattle.seat.specs.Seat.{answered}
use Rattle.protocol.specs.declared.Step.{Step}
use Rattle.protocol.specs.declared.Step.TheVariants.{Send, Note, Begin, Deliver, Write, Saved, Fetch, Restored, Fail, Damage, Lose, Trip, Unsure}
use Rattle.protocol.specs.declared.Decoded.{Decoded}
use Rattle.protocol.specs.declared.Decoded.TheVariants.{Malformed, Unused, Taken}
use Rattle.protocol.specs.Entry.{decode, first_of, second_of}
use Rattle.protocol.specs.Evening.{operation_of}
use Rattle.protocol.specs.History.{Operation, stepping, pointing, returning}
use Rattle.records.specs.Records.{entry_refusal_of}
use Rattle.sending.specs.Sending.{send, note}
use Rattle.saving.specs.declared.KeptAnswer.{KeptAnswer}
use Rattle.saving.specs.Saving as S
use Rattle.restoring.specs.Restoring as R
use Rattle.delivery.specs.declared.Finding.{Finding}
use Rattle.delivery.specs.declared.Finding.TheVariants.{Fine, LinkFault as FoundFault, Crash as FoundCrash}
use Rattle.delivery.specs.Delivery as D
use Rattle.hurting.specs.Hurting as H
use Rattle.turns.specs.declared.Order.{Order}
use Rattle.turns.specs.declared.Order.TheVariants.{Record, Point, Return}
use Rattle.turns.specs.declared.Deed.{Deed}
use Rattle.turns.specs.declared.Deed.TheVariants.{Send as ToSend, Note as ToNote, Take, Damage as ToDamage, Lose as ToLose}
use Rattle.turns.specs.declared.Call.{Call}
use Rattle.turns.specs.declared.Call.TheVariants.{Begin as ToBegin, Signal}
use Rattle.turns.specs.declared.Piece.{Piece}
use Rattle.turns.specs.declared.Piece.TheVariants.{Write as ToWrite, Fetch as ToFetch}
use Rattle.turns.specs.declared.Report.{Report}
use Rattle.turns.specs.declared.Report.TheVariants.{Saved as OfSaved, Restored as OfRestored, Unsure as OfUnsure}
use Rattle.turns.specs.declared.Whole.TheVariants.{Fail as ToFail, Trip as ToTrip, LinkFault, Crash}
use Rattle.turns.specs.declared.Turn.{Turn}
use Rattle.turns.specs.declared.Turn.TheVariants.{Refused, Deed as ADeed, Call as ACall, Piece as APiece, Report as AReport, Whole as AWhole, Point as APoint, Return as AReturn}

-- ---- the record: a step record of a list, or a record of a plan

-- "A step record is six octets", and a plan's has nine
abbrev pub record_size : Bool → ℕ
record_size plan = cond plan 9 6

abbrev pub operation_in : Bool → List ℕ → Operation
operation_in plan r = cond plan (operation_of r) (stepping r)

abbrev pub order_for : Operation → Order
order_for (stepping r) = Record (decode r)
order_for (pointing name) = Point
order_for (returning name) = Return

unfoldable pub order_of : Bool → List ℕ → Order
order_of plan r = order_for (operation_in plan r)

-- the step in a plan's record, of whose nine octets r are the last eight
abbrev pub step_in : List ℕ → Decoded
step_in r = cond (eqb (get_or r 6 0 + get_or r 7 0) 0) (decode (take 6 r)) Malformed

-- the name in a record of nine octets
unfoldable pub name_in : List ℕ → List ℕ
name_in r = cond (eqb (length r) 9) (drop 1 r) (replicate 8 0)

-- the cabinets that it names: the second is the first again where a step names one only
abbrev pub first_in : Decoded → ℕ
first_in Malformed = 0
first_in Unused = 0
first_in (Taken s) = first_of s - 1

abbrev pub second_in : Decoded → ℕ
second_in Malformed = 0
second_in Unused = 0
second_in (Taken s) = second_of s - 1

abbrev pub first_named : Order → ℕ
first_named (Record d) = first_in d
first_named Point = 0
first_named Return = 0

abbrev pub second_named : Order → ℕ
second_named (Record d) = second_in d
second_named Point = 0
second_named Return = 0

-- ---- what it touches

-- the file has a link from a, whose row it is, to b
abbrev pub linked : ℕ → ℕ → Row → Bool
linked a b row = ltb a 8 && marked row.marks b

abbrev pub refused_or : ℕ → Turn → Turn
refused_or k t = cond (eqb k 0) t (Refused k)

-- a deliver at which nothing is found touches the receiver's lines only where the packet is a signal
abbrev pub taken_turn : Bool → Turn
taken_turn signal = cond signal (ACall Signal) (ADeed Take)

abbrev pub found : Finding → Packet → Turn
found Fine p = taken_turn (D.is_signal p)
found FoundFault p = AWhole LinkFault
found FoundCrash p = AWhole Crash

-- ".. or damage is done, while some working cabinet is in error, recovering or recovered"; "a loss crashes the group where damage would"
abbrev pub unless_recovering : Bool → Deed → Turn
unless_recovering recovering d = cond recovering (AWhole Crash) (ADeed d)

-- by its kind; e is the second cabinet that the step names, l the line from the first to it
unfoldable pub step_turn : Step → ℕ → Cabinet → Bool → Line → PacketVersion → Bool → Turn
step_turn (Send x y p q) a e on l v recovering = ADeed (ToSend p q)
step_turn (Note x p q) a e on l v recovering = ADeed (ToNote p q)
step_turn (Begin x) a e on l v recovering = ACall ToBegin
step_turn (Deliver x y) a e on l v recovering = refused_or (D.deliver_refusal on l) (found (D.finding e a (oldest l)) (oldest l))
step_turn (Write x) a e on l v recovering = APiece ToWrite
step_turn (Saved x) a e on l v recovering = AReport OfSaved
step_turn (Fetch x) a e on l v recovering = APiece ToFetch
step_turn (Restored x) a e on l v recovering = AReport OfRestored
step_turn (Fail x) a e on l v recovering = AWhole ToFail
step_turn (Damage x y p w) a e on l v recovering = refused_or (H.damage_refusal on l e a p w v) (unless_recovering recovering (ToDamage p w))
step_turn (Lose x y p) a e on l v recovering = refused_or (H.lose_refusal on l e a p) (unless_recovering recovering (ToLose p))
step_turn (Trip x) a e on l v recovering = AWhole ToTrip
step_turn (Unsure x) a e on l v recovering = AReport OfUnsure

-- c and e are the cabinets that it names
unfoldable pub record_turn : Decoded → ℕ → Bool → Bool → Cabinet → Cabinet → ℕ → Bool → Line → PacketVersion → Turn
record_turn Malformed n crashed recovering c e a on l v = Refused 8
record_turn Unused n crashed recovering c e a on l v = Refused 9
record_turn (Taken s) n crashed recovering c e a on l v =
    refused_or (entry_refusal_of n crashed s c e) (step_turn s a e on l v recovering)

unfoldable pub turn_of : Order → ℕ → Bool → Bool → Cabinet → Cabinet → ℕ → Bool → Line → PacketVersion → Turn
turn_of (Record d) n crashed recovering c e a on l v = record_turn d n crashed recovering c e a on l v
turn_of Point n crashed recovering c e a on l v = APoint
turn_of Return n crashed recovering c e a on l v = AReturn

-- ---- what is done: to one cabinet and the line from a to b

-- whose cabinet it is
abbrev pub doer : Deed → ℕ → ℕ → ℕ
doer (ToSend p q) a b = a
doer (ToNote p q) a b = a
doer Take a b = b
doer (ToDamage p w) a b = b
doer (ToLose p) a b = b

unfoldable pub deed_done : Deed → Cabinet → Line → ℕ → ℕ → PacketVersion → SpotAnswer
deed_done (ToSend p q) c l a b v = send c l b p q v
deed_done (ToNote p q) c l a b v = note c l p q
deed_done Take c l a b v = D.take c l a
deed_done (ToDamage p w) c l a b v = H.damage c l a p w
deed_done (ToLose p) c l a b v = H.lose c l a p

-- ---- to a cabinet and all its lines

-- what is left of the line from a to b
abbrev pub line_left : Call → Line → Line
line_left ToBegin l = l
line_left Signal l = rest l

unfoldable pub call_done : Call → Seat → ℕ → ℕ → Packet → SeatAnswer
call_done ToBegin s a b p = S.begin s a
call_done Signal s a b p = answered 0 (D.hear s a b p)

unfoldable pub word_left : Call → Settled → Cabinet → ℕ → ℕ → Packet → Settled
word_left ToBegin x c a b p = x
word_left Signal x c a b p = D.word_after x c a b p

-- ---- to a cabinet and its slots

unfoldable pub piece_done : Piece → Cabinet → Cabinet → Share → ℕ → KeptAnswer
piece_done ToWrite c home x a = S.write c home x a
piece_done ToFetch c home x a = R.fetch c home x

-- ---- to a home and a coordinator

-- the coordinator that a report on a goes to; c is cabinet a
abbrev pub coordinator_of : Report → Cabinet → Cabinet → ℕ
coordinator_of OfSaved c home = coordinator home
coordinator_of OfRestored c home = coordinator c
coordinator_of OfUnsure c home = coordinator c

unfoldable pub report_refusal : Report → Cabinet → Cabinet → Cabinet → ℕ → ℕ
report_refusal OfSaved c home k a = S.saved_refusal home k a
report_refusal OfRestored c home k a = R.restored_refusal c k a
report_refusal OfUnsure c home k a = R.unsure_refusal c k a

abbrev pub home_left : Report → Cabinet → ℕ → Cabinet
home_left OfSaved home a = owing home a false
home_left OfRestored home a = home
home_left OfUnsure home a = home

-- the coordinator with the report
abbrev pub reported : Report → Cabinet → ℕ → Cabinet
reported OfSaved k a = saved_for k a
reported OfRestored k a = restored_for k a
reported OfUnsure k a = unsure_for k a

-- .. and what it does where that is the last one
abbrev pub concluded : Report → Seat → Seat
concluded OfSaved s = S.commit_if_all s
concluded OfRestored s = s
concluded OfUnsure s = R.decide_if_all s

abbrev pub trips_left : Report → Cabinet → List ℕ → List ℕ
trips_left OfSaved k trips = S.trips_after k trips
trips_left OfRestored k trips = trips
trips_left OfUnsure k trips = trips

abbrev pub word_of : Report → Cabinet → ℕ → Settled → Settled
word_of OfSaved k m x = x
word_of OfRestored k m x = x
word_of OfUnsure k m x = R.word_after k m x

abbrev pub closes_with : Report → Bool → Cabinet → Bool
closes_with OfSaved away k = false
closes_with OfRestored away k = R.closes away k
closes_with OfUnsure away k = false
