-- The goals of `run` that the check leaves.
use borrow.Author.Rules.{rules}
use Prim.Native.Nat.{◌-◌}
use mathlib.Core.Path.{◌≡◌, sym, ap, ◌∙◌, subst}
use native.Mathlib.Omega.{arith}
use lib.ListN.{set, take, drop}
use Rattle.group.specs.declared.Outcome.{Outcome}
use Rattle.group.specs.Group.{with_settled, answering}
use Rattle.turns.specs.declared.Turn.{Turn}
use Rattle.turns.specs.Stored.{turn_in}
use Rattle.turns.proofs.Same.{Below}
use Rattle.steps.proofs.Turning.{made_of, call_below}
use Rattle.steps.proofs.Arms.{turn_read, deed_arm, deed_refused, call_arm, piece_arm, piece_refused, report_refused, report_arm}
use Rattle.steps.proofs.Holding.{eight_with, set_eight, pointed, point_without, returned, at_first, some_left, none_left, asked, going, at_last}
use Rattle.steps.proofs.run.Goals as goal

pub loop-rest-init : goal.loop-rest-init
loop-rest-init c =
    at_first _ _ _ _ _ (omega arith)
    (record {
      cabinets = search rules;
      links = search rules;
      outgoing = search rules;
    })

pub loop-rest-preserved-in-Refused : goal.loop-rest-preserved-in-Refused
loop-rest-preserved-in-Refused c =
    let l = c.loop-rest in
    let st = c.args in
    let inv = l.invariant in
    let e8 = inv.eight in
    let r = c.split_at.result.0.now in
    let o = c.order_of-order.result in
    let a = c.first_named-a.result in
    let b = c.second_named-b.result in
    let ei = c.place-i.ensures in
    let ej = c.place-j.ensures in
    let read : c.turn_of-turn.result ≡ turn_in o (with_settled l.g l.settled) a b =
    c.turn_of-turn.ensures
    ∙ rw (c.any_crashed-crashed.ensures, c.any_recovering-recovering.ensures, c.there-c.ensures, c.there-d.ensures, c.linked-on.ensures, c.line_there-l.ensures, c.line_to-line.ensures)
    (turn_read l.g l.settled o a b _ _ _ _ _ _ e8 ei ej) in
    let turned = sym read ∙ c.in-Refused.is in
    let ask = asked inv r o a b _ c.order_of-order.ensures c.first_named-a.ensures c.second_named-b.ensures turned in
    going inv (some_left _ c.is_empty.ensures c.loop-rest-test.true) c.record_size.ensures c.min-size.ensures c.split_at.ensures.front c.split_at.ensures.back (ask) c.put-at.ensures (e8)

pub loop-rest-preserved-then-r-eq0 : goal.loop-rest-preserved-then-r-eq0
loop-rest-preserved-then-r-eq0 c =
    let l = c.loop-rest in
    let st = c.args in
    let inv = l.invariant in
    let e8 = inv.eight in
    let r = c.split_at.result.0.now in
    let o = c.order_of-order.result in
    let a = c.first_named-a.result in
    let b = c.second_named-b.result in
    let ei = c.place-i.ensures in
    let ej = c.place-j.ensures in
    let read : c.turn_of-turn.result ≡ turn_in o (with_settled l.g l.settled) a b =
    c.turn_of-turn.ensures
    ∙ rw (c.any_crashed-crashed.ensures, c.any_recovering-recovering.ensures, c.there-c.ensures, c.there-d.ensures, c.linked-on.ensures, c.line_there-l.ensures, c.line_to-line.ensures)
    (turn_read l.g l.settled o a b _ _ _ _ _ _ e8 ei ej) in
    let turned = sym read ∙ c.in-Deed.is in
    let ask = asked inv r o a b _ c.order_of-order.ensures c.first_named-a.ensures c.second_named-b.ensures turned in
    going inv (some_left _ c.is_empty.ensures c.loop-rest-test.true) c.record_size.ensures c.min-size.ensures c.split_at.ensures.front c.split_at.ensures.back (ask ∙ ap (λ (u : Outcome). made_of u l.points) (deed_arm l.g l.settled _ a b _ _ _ _ _ _ _ _ _ _ _ _ e8 c.place-i.ensures c.line_to-line.ensures c.line_there-l.ensures c.doer-x.ensures c.place-k.ensures c.there.ensures c.deed_done-r.ensures c.kept-changed.ensures c.kept.ensures c.with_line_to-left.ensures)) c.put-at-in-Deed.ensures (record { cabinets = set_eight l.g.cabinets c.place-k.result c.kept-changed.result e8.cabinets; links = e8.links; outgoing = set_eight l.g.outgoing c.place-i.result c.with_line_to-left.result e8.outgoing })

pub loop-rest-preserved-else-r-eq0 : goal.loop-rest-preserved-else-r-eq0
loop-rest-preserved-else-r-eq0 c =
    let l = c.loop-rest in
    let st = c.args in
    let inv = l.invariant in
    let e8 = inv.eight in
    let r = c.split_at.result.0.now in
    let o = c.order_of-order.result in
    let a = c.first_named-a.result in
    let b = c.second_named-b.result in
    let ei = c.place-i.ensures in
    let ej = c.place-j.ensures in
    let read : c.turn_of-turn.result ≡ turn_in o (with_settled l.g l.settled) a b =
    c.turn_of-turn.ensures
    ∙ rw (c.any_crashed-crashed.ensures, c.any_recovering-recovering.ensures, c.there-c.ensures, c.there-d.ensures, c.linked-on.ensures, c.line_there-l.ensures, c.line_to-line.ensures)
    (turn_read l.g l.settled o a b _ _ _ _ _ _ e8 ei ej) in
    let turned = sym read ∙ c.in-Deed.is in
    let ask = asked inv r o a b _ c.order_of-order.ensures c.first_named-a.ensures c.second_named-b.ensures turned in
    going inv (some_left _ c.is_empty.ensures c.loop-rest-test.true) c.record_size.ensures c.min-size.ensures c.split_at.ensures.front c.split_at.ensures.back (ask ∙ ap (λ (u : Outcome). made_of u l.points) (deed_refused l.g l.settled _ a b _ _ _ _ _ _ _ _ _ e8 c.place-i.ensures c.line_to-line.ensures c.line_there-l.ensures c.doer-x.ensures c.place-k.ensures c.there.ensures c.deed_done-r.ensures c.if-r-eq0.false)) c.put-at-in-Deed.ensures (e8)

pub loop-rest-preserved-in-Call : goal.loop-rest-preserved-in-Call
loop-rest-preserved-in-Call c =
    let l = c.loop-rest in
    let st = c.args in
    let inv = l.invariant in
    let e8 = inv.eight in
    let r = c.split_at.result.0.now in
    let o = c.order_of-order.result in
    let a = c.first_named-a.result in
    let b = c.second_named-b.result in
    let ei = c.place-i.ensures in
    let ej = c.place-j.ensures in
    let read : c.turn_of-turn.result ≡ turn_in o (with_settled l.g l.settled) a b =
    c.turn_of-turn.ensures
    ∙ rw (c.any_crashed-crashed.ensures, c.any_recovering-recovering.ensures, c.there-c.ensures, c.there-d.ensures, c.linked-on.ensures, c.line_there-l.ensures, c.line_to-line.ensures)
    (turn_read l.g l.settled o a b _ _ _ _ _ _ e8 ei ej) in
    let turned = sym read ∙ c.in-Call.is in
    let ask = asked inv r o a b _ c.order_of-order.ensures c.first_named-a.ensures c.second_named-b.ensures turned in
    let low = subst (λ (u : Turn). Below u b) turned (call_below (with_settled l.g l.settled) o a b (eight_with l.g l.settled e8) c.first_named-a.ensures c.second_named-b.ensures) in
    going inv (some_left _ c.is_empty.ensures c.loop-rest-test.true) c.record_size.ensures c.min-size.ensures c.split_at.ensures.front c.split_at.ensures.back (ask ∙ ap (λ (u : Outcome). made_of u l.points) (call_arm l.g l.settled _ _ a b _ _ _ _ _ _ _ _ _ _ _ _ e8 low c.place-i.ensures c.place-j.ensures c.there-d.ensures c.line_to-line.ensures c.line_there-l.ensures c.line_left.ensures c.kept-in-Call.ensures c.with_line_to-left-in-Call.ensures (rw c.oldest.ensures at c.call_done-r.ensures) (rw c.oldest-in-Call.ensures at c.word_left-settled.ensures))) c.put-at-in-Call.ensures (record { cabinets = set_eight l.g.cabinets c.place-j.result c.call_done-r.result.seat.cabinet e8.cabinets; links = e8.links; outgoing = set_eight (set l.g.outgoing c.place-i.result c.with_line_to-left-in-Call.result) c.place-j.result c.call_done-r.result.seat.lines (set_eight l.g.outgoing c.place-i.result c.with_line_to-left-in-Call.result e8.outgoing) })

pub loop-rest-preserved-then-r-eq0-2 : goal.loop-rest-preserved-then-r-eq0-2
loop-rest-preserved-then-r-eq0-2 c =
    let l = c.loop-rest in
    let st = c.args in
    let inv = l.invariant in
    let e8 = inv.eight in
    let r = c.split_at.result.0.now in
    let o = c.order_of-order.result in
    let a = c.first_named-a.result in
    let b = c.second_named-b.result in
    let ei = c.place-i.ensures in
    let ej = c.place-j.ensures in
    let read : c.turn_of-turn.result ≡ turn_in o (with_settled l.g l.settled) a b =
    c.turn_of-turn.ensures
    ∙ rw (c.any_crashed-crashed.ensures, c.any_recovering-recovering.ensures, c.there-c.ensures, c.there-d.ensures, c.linked-on.ensures, c.line_there-l.ensures, c.line_to-line.ensures)
    (turn_read l.g l.settled o a b _ _ _ _ _ _ e8 ei ej) in
    let turned = sym read ∙ c.in-Piece.is in
    let ask = asked inv r o a b _ c.order_of-order.ensures c.first_named-a.ensures c.second_named-b.ensures turned in
    going inv (some_left _ c.is_empty.ensures c.loop-rest-test.true) c.record_size.ensures c.min-size.ensures c.split_at.ensures.front c.split_at.ensures.back (ask ∙ ap (λ (u : Outcome). made_of u l.points) (piece_arm l.g l.settled _ a _ _ _ _ _ _ _ _ _ _ _ _ _ e8 c.place-i.ensures c.there-c.ensures c.share-share.ensures c.serves-h.ensures c.place-k-in-Piece.ensures c.there-in-Piece.ensures c.piece_done-r.ensures c.kept-changed-then-r-eq0-2.ensures c.with_share-kept.ensures (rw c.owed_at.ensures at c.owe_if-owing.ensures))) c.put-at-in-Piece.ensures (record { cabinets = set_eight (set l.g.cabinets c.place-i.result c.kept-changed-then-r-eq0-2.result) c.place-k-in-Piece.result c.owe_if-owing.result (set_eight l.g.cabinets c.place-i.result c.kept-changed-then-r-eq0-2.result e8.cabinets); links = e8.links; outgoing = e8.outgoing })

pub loop-rest-preserved-else-r-eq0-2 : goal.loop-rest-preserved-else-r-eq0-2
loop-rest-preserved-else-r-eq0-2 c =
    let l = c.loop-rest in
    let st = c.args in
    let inv = l.invariant in
    let e8 = inv.eight in
    let r = c.split_at.result.0.now in
    let o = c.order_of-order.result in
    let a = c.first_named-a.result in
    let b = c.second_named-b.result in
    let ei = c.place-i.ensures in
    let ej = c.place-j.ensures in
    let read : c.turn_of-turn.result ≡ turn_in o (with_settled l.g l.settled) a b =
    c.turn_of-turn.ensures
    ∙ rw (c.any_crashed-crashed.ensures, c.any_recovering-recovering.ensures, c.there-c.ensures, c.there-d.ensures, c.linked-on.ensures, c.line_there-l.ensures, c.line_to-line.ensures)
    (turn_read l.g l.settled o a b _ _ _ _ _ _ e8 ei ej) in
    let turned = sym read ∙ c.in-Piece.is in
    let ask = asked inv r o a b _ c.order_of-order.ensures c.first_named-a.ensures c.second_named-b.ensures turned in
    going inv (some_left _ c.is_empty.ensures c.loop-rest-test.true) c.record_size.ensures c.min-size.ensures c.split_at.ensures.front c.split_at.ensures.back (ask ∙ ap (λ (u : Outcome). made_of u l.points) (piece_refused l.g l.settled _ a _ _ _ _ _ _ _ _ _ e8 c.place-i.ensures c.there-c.ensures c.share-share.ensures c.serves-h.ensures c.place-k-in-Piece.ensures c.there-in-Piece.ensures c.piece_done-r.ensures c.if-r-eq0-2.false)) c.put-at-in-Piece.ensures (e8)

pub loop-rest-preserved-then-closes_with : goal.loop-rest-preserved-then-closes_with
loop-rest-preserved-then-closes_with c =
    let l = c.loop-rest in
    let st = c.args in
    let inv = l.invariant in
    let e8 = inv.eight in
    let r = c.split_at.result.0.now in
    let o = c.order_of-order.result in
    let a = c.first_named-a.result in
    let b = c.second_named-b.result in
    let ei = c.place-i.ensures in
    let ej = c.place-j.ensures in
    let read : c.turn_of-turn.result ≡ turn_in o (with_settled l.g l.settled) a b =
    c.turn_of-turn.ensures
    ∙ rw (c.any_crashed-crashed.ensures, c.any_recovering-recovering.ensures, c.there-c.ensures, c.there-d.ensures, c.linked-on.ensures, c.line_there-l.ensures, c.line_to-line.ensures)
    (turn_read l.g l.settled o a b _ _ _ _ _ _ e8 ei ej) in
    let turned = sym read ∙ c.in-Report.is in
    let ask = asked inv r o a b _ c.order_of-order.ensures c.first_named-a.ensures c.second_named-b.ensures turned in
    let arm = rw c.if-closes_with.true at (report_arm l.g l.settled _ _ a _ _ _ _ _ _ _ _ _ _ _ _ _ _ _ _ _ _ _ _ _ e8 c.place-i.ensures c.there-c.ensures c.share-share-in-Report.ensures c.serves-h-in-Report.ensures c.place-x.ensures c.there-home.ensures c.coordinator_of-k.ensures c.place-y.ensures c.there-in-Report.ensures c.report_refusal-n.ensures c.if-n-eq0.true c.home_left.ensures c.kept-made.ensures c.reported-told.ensures c.concluded-s.ensures c.trips_left-left.ensures c.word_of-settled.ensures (rw c.is_away.ensures at c.closes_with.ensures)) in
    let closed = rw c.with_settled.ensures at c.closing-g.ensures in
    going inv (some_left _ c.is_empty.ensures c.loop-rest-test.true) c.record_size.ensures c.min-size.ensures c.split_at.ensures.front c.split_at.ensures.back (ask ∙ ap (λ (u : Outcome). made_of u l.points) (arm ∙ ap (answering 0) (sym closed))) (rw c.if-n-eq0.true at c.put-at-in-Report.ensures) (record { cabinets = search rules; links = search rules; outgoing = search rules })

pub loop-rest-preserved-else-closes_with : goal.loop-rest-preserved-else-closes_with
loop-rest-preserved-else-closes_with c =
    let l = c.loop-rest in
    let st = c.args in
    let inv = l.invariant in
    let e8 = inv.eight in
    let r = c.split_at.result.0.now in
    let o = c.order_of-order.result in
    let a = c.first_named-a.result in
    let b = c.second_named-b.result in
    let ei = c.place-i.ensures in
    let ej = c.place-j.ensures in
    let read : c.turn_of-turn.result ≡ turn_in o (with_settled l.g l.settled) a b =
    c.turn_of-turn.ensures
    ∙ rw (c.any_crashed-crashed.ensures, c.any_recovering-recovering.ensures, c.there-c.ensures, c.there-d.ensures, c.linked-on.ensures, c.line_there-l.ensures, c.line_to-line.ensures)
    (turn_read l.g l.settled o a b _ _ _ _ _ _ e8 ei ej) in
    let turned = sym read ∙ c.in-Report.is in
    let ask = asked inv r o a b _ c.order_of-order.ensures c.first_named-a.ensures c.second_named-b.ensures turned in
    let arm = rw c.if-closes_with.false at (report_arm l.g l.settled _ _ a _ _ _ _ _ _ _ _ _ _ _ _ _ _ _ _ _ _ _ _ _ e8 c.place-i.ensures c.there-c.ensures c.share-share-in-Report.ensures c.serves-h-in-Report.ensures c.place-x.ensures c.there-home.ensures c.coordinator_of-k.ensures c.place-y.ensures c.there-in-Report.ensures c.report_refusal-n.ensures c.if-n-eq0.true c.home_left.ensures c.kept-made.ensures c.reported-told.ensures c.concluded-s.ensures c.trips_left-left.ensures c.word_of-settled.ensures (rw c.is_away.ensures at c.closes_with.ensures)) in
    going inv (some_left _ c.is_empty.ensures c.loop-rest-test.true) c.record_size.ensures c.min-size.ensures c.split_at.ensures.front c.split_at.ensures.back (ask ∙ ap (λ (u : Outcome). made_of u l.points) arm) (rw c.if-n-eq0.true at c.put-at-in-Report.ensures) (record { cabinets = set_eight (set l.g.cabinets c.place-x.result c.kept-made.result) c.place-y.result c.concluded-s.result.cabinet (set_eight l.g.cabinets c.place-x.result c.kept-made.result e8.cabinets); links = e8.links; outgoing = set_eight l.g.outgoing c.place-y.result c.concluded-s.result.lines e8.outgoing })

pub loop-rest-preserved-else-n-eq0 : goal.loop-rest-preserved-else-n-eq0
loop-rest-preserved-else-n-eq0 c =
    let l = c.loop-rest in
    let st = c.args in
    let inv = l.invariant in
    let e8 = inv.eight in
    let r = c.split_at.result.0.now in
    let o = c.order_of-order.result in
    let a = c.first_named-a.result in
    let b = c.second_named-b.result in
    let ei = c.place-i.ensures in
    let ej = c.place-j.ensures in
    let read : c.turn_of-turn.result ≡ turn_in o (with_settled l.g l.settled) a b =
    c.turn_of-turn.ensures
    ∙ rw (c.any_crashed-crashed.ensures, c.any_recovering-recovering.ensures, c.there-c.ensures, c.there-d.ensures, c.linked-on.ensures, c.line_there-l.ensures, c.line_to-line.ensures)
    (turn_read l.g l.settled o a b _ _ _ _ _ _ e8 ei ej) in
    let turned = sym read ∙ c.in-Report.is in
    let ask = asked inv r o a b _ c.order_of-order.ensures c.first_named-a.ensures c.second_named-b.ensures turned in
    going inv (some_left _ c.is_empty.ensures c.loop-rest-test.true) c.record_size.ensures c.min-size.ensures c.split_at.ensures.front c.split_at.ensures.back (ask ∙ ap (λ (u : Outcome). made_of u l.points) (report_refused l.g l.settled _ a _ _ _ _ _ _ _ _ _ _ _ _ _ e8 c.place-i.ensures c.there-c.ensures c.share-share-in-Report.ensures c.serves-h-in-Report.ensures c.place-x.ensures c.there-home.ensures c.coordinator_of-k.ensures c.place-y.ensures c.there-in-Report.ensures c.report_refusal-n.ensures c.if-n-eq0.false)) c.put-at-in-Report.ensures (e8)

pub loop-rest-preserved-in-Whole : goal.loop-rest-preserved-in-Whole
loop-rest-preserved-in-Whole c =
    let l = c.loop-rest in
    let st = c.args in
    let inv = l.invariant in
    let e8 = inv.eight in
    let r = c.split_at.result.0.now in
    let o = c.order_of-order.result in
    let a = c.first_named-a.result in
    let b = c.second_named-b.result in
    let ei = c.place-i.ensures in
    let ej = c.place-j.ensures in
    let read : c.turn_of-turn.result ≡ turn_in o (with_settled l.g l.settled) a b =
    c.turn_of-turn.ensures
    ∙ rw (c.any_crashed-crashed.ensures, c.any_recovering-recovering.ensures, c.there-c.ensures, c.there-d.ensures, c.linked-on.ensures, c.line_there-l.ensures, c.line_to-line.ensures)
    (turn_read l.g l.settled o a b _ _ _ _ _ _ e8 ei ej) in
    let turned = sym read ∙ c.in-Whole.is in
    let ask = asked inv r o a b _ c.order_of-order.ensures c.first_named-a.ensures c.second_named-b.ensures turned in
    let done = rw c.with_settled-in-Whole.ensures at c.whole_done-r.ensures in
    going inv (some_left _ c.is_empty.ensures c.loop-rest-test.true) c.record_size.ensures c.min-size.ensures c.split_at.ensures.front c.split_at.ensures.back (ask ∙ ap (λ (u : Outcome). made_of u l.points) (sym done)) c.put-at-in-Whole.ensures (record { cabinets = search rules; links = search rules; outgoing = search rules })

pub loop-rest-preserved-in-Point : goal.loop-rest-preserved-in-Point
loop-rest-preserved-in-Point c =
    let l = c.loop-rest in
    let st = c.args in
    let inv = l.invariant in
    let e8 = inv.eight in
    let r = c.split_at.result.0.now in
    let o = c.order_of-order.result in
    let a = c.first_named-a.result in
    let b = c.second_named-b.result in
    let ei = c.place-i.ensures in
    let ej = c.place-j.ensures in
    let read : c.turn_of-turn.result ≡ turn_in o (with_settled l.g l.settled) a b =
    c.turn_of-turn.ensures
    ∙ rw (c.any_crashed-crashed.ensures, c.any_recovering-recovering.ensures, c.there-c.ensures, c.there-d.ensures, c.linked-on.ensures, c.line_there-l.ensures, c.line_to-line.ensures)
    (turn_read l.g l.settled o a b _ _ _ _ _ _ e8 ei ej) in
    let turned = sym read ∙ c.in-Point.is in
    let ask = asked inv r o a b _ c.order_of-order.ensures c.first_named-a.ensures c.second_named-b.ensures turned in
    let done = rw c.name_in.ensures at (c.noted_after-noted.ensures ∙ c.take_point-taken.ensures) ∙ point_without l.g l.settled l.points _ in
    going inv (some_left _ c.is_empty.ensures c.loop-rest-test.true) c.record_size.ensures c.min-size.ensures c.split_at.ensures.front c.split_at.ensures.back (ask ∙ pointed l.g l.settled l.points _ _ done) c.put-at-in-Point.ensures (e8)

pub loop-rest-preserved : goal.loop-rest-preserved
loop-rest-preserved c =
    let l = c.loop-rest in
    let st = c.args in
    let inv = l.invariant in
    let e8 = inv.eight in
    let r = c.split_at.result.0.now in
    let o = c.order_of-order.result in
    let a = c.first_named-a.result in
    let b = c.second_named-b.result in
    let ei = c.place-i.ensures in
    let ej = c.place-j.ensures in
    let read : c.turn_of-turn.result ≡ turn_in o (with_settled l.g l.settled) a b =
    c.turn_of-turn.ensures
    ∙ rw (c.any_crashed-crashed.ensures, c.any_recovering-recovering.ensures, c.there-c.ensures, c.there-d.ensures, c.linked-on.ensures, c.line_there-l.ensures, c.line_to-line.ensures)
    (turn_read l.g l.settled o a b _ _ _ _ _ _ e8 ei ej) in
    let turned = sym read ∙ c.in-Return.is in
    let ask = asked inv r o a b _ c.order_of-order.ensures c.first_named-a.ensures c.second_named-b.ensures turned in
    let done = rw (c.with_settled-before.ensures, c.name_in-in-Return.ensures) at (c.returned_after-r.ensures ∙ c.return_to-returned.ensures) in
    going inv (some_left _ c.is_empty.ensures c.loop-rest-test.true) c.record_size.ensures c.min-size.ensures c.split_at.ensures.front c.split_at.ensures.back (ask ∙ returned l.g l.settled l.points _ _ done) c.put-at-in-Return.ensures (record { cabinets = search rules; links = search rules; outgoing = search rules })

pub returns : goal.returns
returns c =
    let end = at_last c.loop-rest.invariant (none_left _ c.is_empty.ensures c.loop-rest-test.false) in
    record { value = rw c.with_settled-2.ensures end.0; answers_after = end.1 }
