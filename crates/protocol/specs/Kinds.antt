-- The kinds of step, 1 to 14 without 9, which card 6 withdrew: of each its refusals, "the first in the order written", and what it does when it is taken.
-- Cabinets are numbered from 0 here; the step entry has made checks 8 to 12.
use Rattle.std.specs.Prelude.{ℕ, ◌+◌, Bool, true, false, cond, not, ◌&&◌, ◌||◌, set, eqb, ltb, leb}
use Rattle.marks.specs.Marks.{marked, covers}
use Rattle.marks.specs.Reach.{mark, connected}
use Rattle.packet.specs.declared.Place.TheVariants.{Failed as AtFailed, Tripped as AtTripped}
use Rattle.outlet.specs.Outlet.{ends_of, party_of}
use Rattle.packet.specs.declared.Payload.{Payload}
use Rattle.packet.specs.declared.Pattern.{Pattern}
use Rattle.packet.specs.declared.Packet.{Packet}
use Rattle.packet.specs.declared.Packet.TheVariants.{Normal as NormalPacket}
use Rattle.packet.specs.Packet.{packed, is_empty, is_normal, pattern_right, damaged}
use Rattle.line.specs.Line.{oldest, rest, put, normals, packet_at, replaced, without}
use Rattle.state.specs.declared.State.TheVariants.{Normal, Checkpointing, Error, Recovering, Recovered}
use Rattle.settled.specs.declared.Reason.TheVariants.{Decided}
use Rattle.store.specs.declared.Store.{Store}
use Rattle.store.specs.Store.{is_last, is_away, put_piece}
use Rattle.cabinet.specs.declared.Cabinet.{Cabinet}
use Rattle.group.specs.declared.Group.{Group}
use Rattle.group.specs.declared.Outcome.{Outcome}
use Rattle.state.specs.State.{is_in, is_unknown, in_recovery, in_restoring, in_saving, bit_of}
use Rattle.image.specs.Image.{booking, first_note, with_octet, with_piece}
use Rattle.cabinet.specs.Cabinet.{in_use, coordinator, with_image, sending, hurt_from, wrote, owing, saved_for, fetched, restored_for, unsure_for}
use Rattle.group.specs.Group.{cabinet, with_cabinet, state_of, home, line, with_line, with_store, slot, rows_of, some, working, recovering_ones, trips_of, with_trips_of, settle, settle_over, answering, taken, crashed}
use Rattle.protocol.specs.Moves.{join, cut_if_all, commit, recover_with, leave, come_back, mark_failed, trip, alarm_to, end_recovery, note_lost}
use Rattle.protocol.specs.Receive.{receive}

-- a check of a refusal: where the test does not hold the answer is k, else the next check decides
abbrev pub need : Bool → ℕ → ℕ → ℕ
need true k next = next
need false k next = k

-- "A refusal leaves group and store unchanged."
abbrev pub or_refuse : ℕ → Group → Outcome → Outcome
or_refuse k g o = cond (eqb k 0) o (answering k g)

-- ---- 1 send

-- "15 for p above 4 in a send"; 16 asks the booking that the amount leaves; "17 now when that party's four places are full"
abbrev pub send_refusal : Group → ℕ → ℕ → ℕ → ℕ → ℕ
send_refusal g a b p q =
    need (marked (in_use (cabinet g a)) b) 13
    (need (is_in (state_of g a) Normal) 14
    (need (ltb 0 q && leb p 4) 15
    (need (leb q (booking (ends_of p).from (cabinet g a).image)) 16
    (need (ltb (normals (party_of (ends_of p).to) (line g a b)) 4) 17 0))))

-- what a send puts: a packet for the receiving outlet or the workshop, as the group's packet version has it
abbrev pub carried : Group → ℕ → ℕ → Payload
carried g p q = packed g.packets (ends_of p).to q

unfoldable pub sent : Group → ℕ → ℕ → ℕ → ℕ → Group
sent g a b p q =
    with_line (with_cabinet g a (sending (cabinet g a) b (ends_of p).from (carried g p q))) a b (put (line g a b) (NormalPacket (carried g p q)))

unfoldable pub send_step : Group → ℕ → ℕ → ℕ → ℕ → Outcome
send_step g a b p q = or_refuse (send_refusal g a b p q) g (taken (sent g a b p q))

-- ---- 2 note

-- "notes begin at 6"
abbrev pub note_refusal : Group → ℕ → ℕ → ℕ → ℕ
note_refusal g a p q = need (is_in (state_of g a) Normal) 14 (need (leb first_note p && (leb p 31 && leb q 255)) 15 0)

unfoldable pub note_step : Group → ℕ → ℕ → ℕ → Outcome
note_step g a p q =
    or_refuse (note_refusal g a p q) g (taken (with_cabinet g a (with_image (cabinet g a) (with_octet (cabinet g a).image p q))))

-- ---- 3 begin

abbrev pub begin_refusal : Group → ℕ → ℕ
begin_refusal g a = need (is_in (state_of g a) Normal && eqb (coordinator (cabinet g a)) a) 14 0

unfoldable pub begin_step : Group → ℕ → Outcome
begin_step g a = or_refuse (begin_refusal g a) g (taken (cut_if_all (join g a) a))

-- ---- 4 deliver

abbrev pub deliver_refusal : Group → ℕ → ℕ → ℕ
deliver_refusal g a b = need (mark (rows_of g.links) a b) 13 (need (not (is_empty (oldest (line g a b)))) 18 0)

-- "Over a link struck at b it is dropped."
unfoldable pub delivered : Group → ℕ → ℕ → Outcome
delivered g a b =
    cond (marked (in_use (cabinet g b)) a) (receive g (with_line g a b (rest (line g a b))) a b (oldest (line g a b)))
    (taken (with_line g a b (rest (line g a b))))

unfoldable pub deliver_step : Group → ℕ → ℕ → Outcome
deliver_step g a b = or_refuse (deliver_refusal g a b) g (delivered g a b)

-- ---- 5 write

abbrev pub write_refusal : Group → ℕ → ℕ
write_refusal g a =
    need (is_in (state_of g a) Checkpointing) 14 (need (not (in_recovery (state_of g (home g a)))) 19 0)

-- "Pieces go to slot 1 − version.", at each store of the pair that is present
abbrev pub piece_saved : Group → ℕ → Store
piece_saved g a =
    put_piece g.store a (not (bit_of (cabinet g a).phase.version)) (cabinet g a).noted.pieces (cabinet g a).image

unfoldable pub write_piece : Group → ℕ → Group
write_piece g a = with_cabinet (with_store g (piece_saved g a)) a (wrote (cabinet g a) a)

-- with piece 3 "The home then owes one saved report"
abbrev pub owe_if : Bool → Group → ℕ → ℕ → Group
owe_if true g h a = with_cabinet g h (owing (cabinet g h) a true)
owe_if false g h a = g

unfoldable pub write_step : Group → ℕ → Outcome
write_step g a =
    or_refuse (write_refusal g a) g (taken (owe_if (not (ltb (cabinet g a).noted.pieces 3)) (write_piece g a) (home g a) a))

-- ---- 6 saved

abbrev pub saved_refusal : Group → ℕ → ℕ
saved_refusal g a =
    need
    (marked (cabinet g (home g a)).owed a && in_saving (state_of g (coordinator (cabinet g (home g a)))))
    19 0

-- the report on a goes from home h to coordinator k
unfoldable pub report_saved : Group → ℕ → ℕ → ℕ → Group
report_saved g a h k =
    with_cabinet (with_cabinet g h (owing (cabinet g h) a false)) k
    (saved_for (cabinet (with_cabinet g h (owing (cabinet g h) a false)) k) a)

-- "When the coordinator has this save's reports for every cabinet in its table": the commit
unfoldable pub commit_if_all : Group → ℕ → Group
commit_if_all g k = cond (covers (cabinet g k).noted.saved (cabinet g k).table.cabinets) (commit g k) g

unfoldable pub saved_step : Group → ℕ → Outcome
saved_step g a =
    or_refuse (saved_refusal g a) g
    (taken
    (commit_if_all (report_saved g a (home g a) (coordinator (cabinet g (home g a))))
    (coordinator (cabinet g (home g a)))))

-- ---- 7 fetch

abbrev pub fetch_refusal : Group → ℕ → ℕ
fetch_refusal g a = need (is_in (state_of g a) Recovering) 14 (need (in_restoring (state_of g (home g a))) 19 0)

-- "from the slot of the home's version", as the home has it
unfoldable pub fetch_piece : Group → ℕ → Group
fetch_piece g a =
    with_cabinet g a
    (fetched (cabinet g a)
    (with_piece (cabinet g a).noted.pieces (slot g (home g a) a (bit_of (cabinet g (home g a)).phase.version)) (cabinet g a).image))

unfoldable pub fetch_step : Group → ℕ → Outcome
fetch_step g a = or_refuse (fetch_refusal g a) g (taken (fetch_piece g a))

-- ---- 8 restored

-- not reported already, every neighbour's fault heard, the coordinator ready to note it
abbrev pub may_report : Cabinet → Cabinet → ℕ → Bool
may_report c k a = not (marked k.noted.restored a) && (covers c.noted.heard (in_use c) && in_restoring k.phase.state)

abbrev pub restored_refusal : Group → ℕ → ℕ
restored_refusal g a =
    need (is_in (state_of g a) Recovered) 14 (need (may_report (cabinet g a) (cabinet g (coordinator (cabinet g a))) a) 19 0)

unfoldable pub report_restored : Group → ℕ → ℕ → Group
report_restored g a k = with_cabinet g k (restored_for (cabinet g k) a)

-- a store that is away comes back in the step in which it reports
unfoldable pub come_back_if_away : Group → ℕ → Group
come_back_if_away g a = cond (is_away g.store a) (come_back g a) g

-- "When the coordinator, in recovered, has restored reports from all in its table": the end of the recovery. A failed cabinet's image is
-- then that of the save restored; who settled the recovery stays
unfoldable pub end_if_all : Group → ℕ → Group
end_if_all g k =
    cond (is_in (state_of g k) Recovered && covers (cabinet g k).noted.restored (cabinet g k).table.cabinets) (settle_over (end_recovery (note_lost g k) k)) g

unfoldable pub restored_step : Group → ℕ → Outcome
restored_step g a =
    or_refuse (restored_refusal g a) g
    (taken (end_if_all (come_back_if_away (report_restored g a (coordinator (cabinet g a))) a) (coordinator (cabinet g a))))

-- ---- 10 fail

-- "for a store the group crashes only when neither is left"; "a cabinet fails .. while some working cabinet is in error, recovering or recovered; .. or at a fail
-- (the failing one left out) .. some working cabinet is not reached"
abbrev pub fail_crashes : Group → ℕ → Bool
fail_crashes g a =
    is_last g.store a || (some (recovering_ones g) || not (connected (rows_of g.sound) (set (working g) a false)))

unfoldable pub fail_step : Group → ℕ → Outcome
fail_step g a = cond (fail_crashes g a) (crashed g) (taken (alarm_to 8 (mark_failed (leave g a) a) a (AtFailed a)))

-- ---- what damage and loss share

-- "a normal packet of that line was hurt since the receiver's register restarted", damaged or lost: it may be once
abbrev pub hurt_already : Group → ℕ → ℕ → Packet → Bool
hurt_already g a b p = is_normal p && marked (cabinet g b).registers.hurt a

-- "One hurt for each line still holds, loss or damage": the receiver's mark
abbrev pub mark_hurt : Group → ℕ → ℕ → Group
mark_hurt g a b = with_cabinet g b (hurt_from (cabinet g b) a)

-- ".. or damage is done, while some working cabinet is in error, recovering or recovered"; "a loss crashes the group where damage would"
abbrev pub unless_recovering : Group → Group → Outcome
unless_recovering g left = cond (some (recovering_ones g)) (crashed g) (taken left)

-- ---- 11 damage

-- 15 as the group's packet version has it
abbrev pub damage_refusal : Group → ℕ → ℕ → ℕ → Pattern → ℕ
damage_refusal g a b p w =
    need (mark (rows_of g.links) a b) 13
    (need (not (is_empty (packet_at (line g a b) p))) 18
    (need (pattern_right g.packets w) 15
    (need (not (hurt_already g a b (packet_at (line g a b) p))) 20 0)))

abbrev pub hurt_if : Bool → Group → ℕ → ℕ → Group
hurt_if true g a b = mark_hurt g a b
hurt_if false g a b = g

unfoldable pub hurt : Group → ℕ → ℕ → ℕ → Pattern → Group
hurt g a b p w =
    hurt_if (is_normal (packet_at (line g a b) p)) (with_line g a b (replaced (line g a b) p (damaged (packet_at (line g a b) p) w))) a b

unfoldable pub damage_step : Group → ℕ → ℕ → ℕ → Pattern → Outcome
damage_step g a b p w = or_refuse (damage_refusal g a b p w) g (unless_recovering g (hurt g a b p w))

-- ---- 12 lose

-- "lose has damage's 13, 18 and 20, 18 also for a fail-safe packet"
abbrev pub lose_refusal : Group → ℕ → ℕ → ℕ → ℕ
lose_refusal g a b p =
    need (mark (rows_of g.links) a b) 13
    (need (is_normal (packet_at (line g a b) p)) 18
    (need (not (hurt_already g a b (packet_at (line g a b) p))) 20 0))

-- "removes the normal packet at place p from a line"
unfoldable pub lost : Group → ℕ → ℕ → ℕ → Group
lost g a b p = mark_hurt (with_line g a b (without (line g a b) p)) a b

unfoldable pub lose_step : Group → ℕ → ℕ → ℕ → Outcome
lose_step g a b p = or_refuse (lose_refusal g a b p) g (unless_recovering g (lost g a b p))

-- ---- 13 trip

-- a store's trip as its fail; "and so does a trip while some working cabinet is in error, recovering or recovered. The
-- coordinator's trip also crashes the group wherever its fail would"
abbrev pub trip_crashes : Group → ℕ → Bool
trip_crashes g a =
    is_last g.store a
    || (some (recovering_ones g)
    || (eqb (coordinator (cabinet g a)) a && not (connected (rows_of g.sound) (set (working g) a false))))

-- the k-th trip of a since the last commit
unfoldable pub trip_once : Group → ℕ → ℕ → Outcome
trip_once g a k = cond (trip_crashes g a) (crashed g) (taken (alarm_to 8 (trip (leave (with_trips_of g a k) a) a) a (AtTripped a)))

-- "A third trip of the same cabinet with no commit between .. is a fail."
unfoldable pub trip_step : Group → ℕ → Outcome
trip_step g a = cond (ltb (trips_of g a) 2) (trip_once g a (trips_of g a + 1)) (fail_step g a)

-- ---- 14 unsure

-- in error with unknown version
abbrev pub is_unsure : Cabinet → Bool
is_unsure c = is_in c.phase.state Error && is_unknown c.phase.version

-- not reported already, and the coordinator in error
abbrev pub takes_unsure : Cabinet → ℕ → Bool
takes_unsure k a = not (marked k.noted.unsure a) && is_in k.phase.state Error

-- "14 not in error with unknown version, or the fault is not the former coordinator; 19 reported already or the coordinator not in error":
-- the former one as noted on entering error, the coordinator that a's table names now
abbrev pub unsure_refusal : Group → ℕ → ℕ
unsure_refusal g a =
    need (is_unsure (cabinet g a) && (cabinet g a).noted.former) 14 (need (takes_unsure (cabinet g (coordinator (cabinet g a))) a) 19 0)

-- "each cabinet in error with unknown version reports unsure to the new coordinator"
unfoldable pub report_unsure : Group → ℕ → ℕ → Group
report_unsure g a k = with_cabinet g k (unsure_for (cabinet g k) a)

-- "When all in that table have reported, itself included, it sets its version to old and goes on as 01 says.": a word of its own
unfoldable pub decide_if_all : Group → ℕ → Group
decide_if_all g k =
    cond (covers (cabinet g k).noted.unsure (cabinet g k).table.cabinets) (settle (recover_with g k (bit_of (cabinet g k).phase.version)) k Decided) g

unfoldable pub unsure_step : Group → ℕ → Outcome
unsure_step g a =
    or_refuse (unsure_refusal g a) g
    (taken (decide_if_all (report_unsure g a (coordinator (cabinet g a))) (coordinator (cabinet g a))))
