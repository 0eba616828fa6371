-- Runs with the answer to each record, in which a wrong rule would answer otherwise: first those that document 01 calls tempting on the
-- rack, then others that no marked case shows.
use Rattle.std.specs.Prelude.{ℕ, ◌≡◌, List, [], ◌∷◌, ◌++◌, length, replicate}
use Rattle.load.specs.Load.{load}
use Rattle.protocol.specs.Entry.{answers_from}
use Rattle.protocol.specs.Marked.{file_of, row_of, two_cabinets, record_of, send, begin, deliver, fetch, restored, fail}
use Rattle.protocol.specs.Examples.{note, writes, saved, fetches, damage, unsure}

-- a run, and the answers that the paper gives
pub record Run : Type 0 where
  pub file : List ℕ
  pub records : List (List ℕ)
  pub answers : List ℕ

-- what the definitions answer
unfoldable pub answered : Run → List ℕ
answered r = answers_from (load r.file).group r.records

abbrev pub AsWritten : Run → Type 0
AsWritten r = answered r ≡ r.answers

-- every record before the last is taken
abbrev pub last_of : List ℕ → List (List ℕ) → List ℕ → ℕ → Run
last_of file before last answer =
    record { file = file; records = before ++ last ∷ []; answers = replicate (length before) 0 ++ answer ∷ [] }

-- every record is taken, and then some have these answers
abbrev pub asked_last : List ℕ → List (List ℕ) → List (List ℕ) → List ℕ → Run
asked_last file before last answers = record { file = file; records = before ++ last; answers = replicate (length before) 0 ++ answers }

-- ---- "Dropping a failed cabinet from the coordinator's list before the fault packet arrives: it would commit a save with a hole."

-- four in a ring, 1 the store and home of all; 3, which 1 has no link to, joins the save and has not its cut yet
abbrev pub far_from_three : List ℕ
far_from_three = file_of 1 (10 ∷ 20 ∷ 30 ∷ 40 ∷ []) (1 ∷ 2 ∷ 1 ∷ 4 ∷ 2 ∷ 3 ∷ 3 ∷ 4 ∷ [])

abbrev pub written_but_three : List (List ℕ)
written_but_three =
    begin 1 ∷ deliver 1 2 ∷ deliver 1 4 ∷ deliver 2 3 ∷ deliver 3 2 ∷ deliver 3 4 ∷ deliver 2 1 ∷ deliver 4 1
    ∷ writes 1 ++ writes 2 ++ writes 4

-- no report is owed on 3, which has written nothing
abbrev pub hole : Run
hole = last_of far_from_three (written_but_three ++ saved 1 ∷ saved 2 ∷ saved 4 ∷ fail 3 ∷ []) (saved 3) 19

-- the coordinator, with a report on each other one, goes on waiting for that on 3: it is not in normal
abbrev pub hole_late : Run
hole_late = last_of far_from_three (written_but_three ++ saved 1 ∷ saved 2 ∷ fail 3 ∷ saved 4 ∷ []) (begin 1) 14

-- ---- "Taking wait over while one cabinet has had resume: two versions." Nor is it decided by reports: "19 .. the coordinator not in error"

-- four in a ring, 4 the store and home of all, and a save of them up to its commit
abbrev pub far_from_one : List ℕ
far_from_one = file_of 4 (10 ∷ 20 ∷ 30 ∷ 40 ∷ []) (1 ∷ 2 ∷ 1 ∷ 3 ∷ 2 ∷ 4 ∷ 3 ∷ 4 ∷ [])

abbrev pub far_committed : List (List ℕ)
far_committed =
    begin 1 ∷ deliver 1 2 ∷ deliver 1 3 ∷ deliver 2 4 ∷ deliver 3 4 ∷ deliver 4 2 ∷ deliver 4 3 ∷ deliver 2 1 ∷ deliver 3 1
    ∷ writes 1 ++ writes 2 ++ writes 3 ++ writes 4
    ++ saved 1 ∷ saved 2 ∷ saved 3 ∷ saved 4 ∷ []

-- 2 takes its resume, then 1 fails: 2 has the new version, and 3 and 4, which do not know, are in error
abbrev pub resume_at_two : List (List ℕ)
resume_at_two = far_committed ++ deliver 1 2 ∷ fail 1 ∷ deliver 3 4 ∷ []

-- 2 knows and is the coordinator now; "kind 9 is withdrawn and gives 8"
abbrev pub wait : Run
wait = asked_last far_from_one resume_at_two (record_of 9 3 0 0 0 ∷ unsure 2 ∷ unsure 3 ∷ unsure 4 ∷ []) (8 ∷ 14 ∷ 19 ∷ 19 ∷ [])

-- "19 home not recovering or recovered": its old version is not that of the save which 2 is to come back from
abbrev pub home_in_doubt : Run
home_in_doubt = last_of far_from_one resume_at_two (fetch 2) 19

-- ---- "Restoring before all faults are heard: a late one starts a second recovery."

abbrev pub triangle : List ℕ
triangle = file_of 1 (10 ∷ 20 ∷ 30 ∷ []) (1 ∷ 2 ∷ 1 ∷ 3 ∷ 2 ∷ 3 ∷ [])

-- the fault of 2 is still on its line
abbrev pub heard : Run
heard = last_of triangle (fail 3 ∷ fetches 1) (restored 1) 19

-- 1, the coordinator, has heard 2; but 2 has not heard 1
abbrev pub heard_one_way : Run
heard_one_way = last_of triangle (fail 3 ∷ deliver 2 1 ∷ fetches 2) (restored 2) 19

-- ---- "In error, recovering and recovered everything from a neighbour is dropped until its fault packet has come"

-- 3, the store and home of all, has the resume of a save from 2; that from 1 is still on its line when 4 fails, and 1 does not know of
-- the fault. 3 stays in recovered.
abbrev pub old_resume : Run
old_resume =
    last_of (file_of 3 (10 ∷ 20 ∷ 30 ∷ 40 ∷ []) (1 ∷ 2 ∷ 1 ∷ 3 ∷ 2 ∷ 3 ∷ 3 ∷ 4 ∷ []))
    (begin 1 ∷ deliver 1 2 ∷ deliver 1 3 ∷ deliver 2 1 ∷ deliver 3 1 ∷ deliver 2 3 ∷ deliver 3 2 ∷ deliver 3 4 ∷ deliver 4 3
    ∷ writes 1 ++ writes 2 ++ writes 3 ++ writes 4
    ++ saved 1 ∷ saved 2 ∷ saved 3 ∷ saved 4
    ∷ deliver 1 2 ∷ deliver 2 3 ∷ fail 4
    ∷ fetches 3 ++ deliver 1 3 ∷ [])
    (send 3 2 5) 14

-- ---- "Over a link struck at b it is dropped."

-- 3 finds the link to 2 faulty, and then 2 that to 4, of which it tells 3 too: 2 does not know that their link is struck at 3, where
-- another place would crash the group
abbrev pub struck_at_receiver : Run
struck_at_receiver =
    last_of (file_of 4 (10 ∷ 20 ∷ 30 ∷ 40 ∷ []) (1 ∷ 2 ∷ 1 ∷ 3 ∷ 1 ∷ 4 ∷ 2 ∷ 3 ∷ 2 ∷ 4 ∷ 3 ∷ 4 ∷ []))
    (begin 1 ∷ deliver 1 2 ∷ deliver 1 4 ∷ damage 2 3 0 1 ∷ damage 4 2 0 1 ∷ deliver 2 3 ∷ deliver 4 2 ∷ []) (deliver 2 3) 0

-- ---- "A failing cabinet's lines are emptied both ways"

abbrev pub emptied : Run
emptied = last_of triangle (send 3 2 7 ∷ fail 3 ∷ []) (deliver 3 2) 18

-- one that failed before is no neighbour any more: when 2 fails too, 3 does not enter error, which would have it work
abbrev pub failed_before : Run
failed_before =
    last_of triangle
    (fail 3 ∷ deliver 1 2 ∷ deliver 2 1 ∷ fetches 1 ++ fetches 2 ++ restored 2 ∷ restored 1 ∷ deliver 1 2 ∷ deliver 1 2 ∷ fail 2 ∷ [])
    (begin 3) 12

-- ---- "14 not in normal": a save under way is not begun again

abbrev pub begin_again : Run
begin_again = last_of triangle (begin 1 ∷ []) (begin 1) 14

-- ---- "20 a normal packet, and a normal packet of that line was hurt since the receiver's register restarted"

-- with both patterns 30 and 20 amperes would be 31 and 13,093, which have the same check value (`Closed.Tempting.same_value`)
abbrev pub hurt_twice : Run
hurt_twice = last_of (two_cabinets 100 50) (send 1 2 30 ∷ send 1 2 20 ∷ damage 1 2 0 1 ∷ []) (damage 1 2 1 13105) 20

-- ---- "17 now when that party's four places are full": not below four

abbrev pub full_line : Run
full_line = last_of (two_cabinets 100 50) (replicate 4 (send 1 2 1)) (send 1 2 1) 17

-- ---- "15 p outside .. to 31 or q above 255", and "notes begin at 6"

abbrev pub note_low : Run
note_low = last_of triangle [] (note 1 5 7) 15

abbrev pub note_high : Run
note_high = last_of triangle [] (note 1 32 7) 15

abbrev pub note_wide : Run
note_wide = last_of triangle [] (note 1 6 256) 15

-- ---- "19 home in error, recovering or recovered"

-- 4 has its cut and does not know that 2 has failed; its home, 1, does
abbrev pub home_recovers : Run
home_recovers = last_of far_from_three (begin 1 ∷ deliver 1 4 ∷ deliver 4 3 ∷ deliver 3 4 ∷ fail 2 ∷ []) (record_of 5 4 0 0 0) 19

-- ---- "14 .. the fault is not the former coordinator"

-- 2 has written and does not know its version; the one that failed is 3
abbrev pub other_failed : Run
other_failed =
    last_of triangle
    (begin 1 ∷ deliver 1 2 ∷ deliver 1 3 ∷ deliver 2 1 ∷ deliver 3 1 ∷ deliver 2 3 ∷ deliver 3 2 ∷ writes 2 ++ fail 3 ∷ [])
    (unsure 2) 14

-- ---- "13 no link in a's table; 14 a not in normal": in that order

abbrev pub link_first : Run
link_first = last_of (row_of 10 (20 ∷ 30 ∷ [])) (begin 1 ∷ []) (send 1 3 5) 13

-- ---- "The group crashes when, and only when"

-- "a store cabinet fails;"
abbrev pub store_fails : Run
store_fails = last_of triangle [] (fail 1) 50

-- "a cabinet fails, or damage is done, while some working cabinet is in error, recovering or recovered;"
abbrev pub fails_in_recovery : Run
fails_in_recovery = last_of triangle (fail 3 ∷ []) (fail 2) 50

abbrev pub damage_in_recovery : Run
damage_in_recovery = last_of triangle (fail 3 ∷ []) (damage 1 2 0 1) 50

-- "two fault places meet": 2 and 3 find the links to 1 faulty, and 4 hears of both
abbrev pub places_meet : Run
places_meet =
    last_of (file_of 4 (10 ∷ 20 ∷ 30 ∷ 40 ∷ []) (1 ∷ 2 ∷ 1 ∷ 3 ∷ 1 ∷ 4 ∷ 2 ∷ 4 ∷ 3 ∷ 4 ∷ []))
    (begin 1 ∷ damage 1 2 0 1 ∷ damage 1 3 0 1 ∷ deliver 1 2 ∷ deliver 1 3 ∷ deliver 2 4 ∷ []) (deliver 3 4) 50

-- "at a fail (the failing one left out) .. some working cabinet is not reached"
abbrev pub fail_parts : Run
fail_parts = last_of (row_of 10 (20 ∷ 30 ∷ [])) [] (fail 2) 50

-- "at the finding of a link fault (that link left out) some working cabinet is not reached": a hit checkp over the one link
abbrev pub link_parts : Run
link_parts = last_of (two_cabinets 100 50) (begin 1 ∷ damage 1 2 0 1 ∷ []) (deliver 1 2) 50

-- "over links not found faulty": the link of 2, the store, and 3 was found so, and the group came back without it
abbrev pub faulty_link_parts : Run
faulty_link_parts =
    last_of (file_of 2 (10 ∷ 20 ∷ 30 ∷ []) (1 ∷ 2 ∷ 1 ∷ 3 ∷ 2 ∷ 3 ∷ []))
    (begin 1 ∷ deliver 1 2 ∷ damage 2 3 0 1 ∷ deliver 2 3 ∷ deliver 3 1 ∷ deliver 1 2 ∷ deliver 1 3 ∷ deliver 2 1
    ∷ fetches 1 ++ fetches 2 ++ fetches 3
    ++ restored 1 ∷ restored 2 ∷ restored 3 ∷ deliver 1 2 ∷ deliver 1 2 ∷ deliver 1 3 ∷ deliver 1 3 ∷ [])
    (fail 1) 50

-- ---- "Every step first": 8 to 12, "the first in the order written"

-- a withdrawn kind, with a field that is not 0 too; 4 is no cabinet and 3 fails; after the crash the same records, then one with a field
-- that is not 0, then two of no kind
abbrev pub in_order : Run
in_order = record {
  file = triangle;
  records =
      record_of 9 1 0 0 0 ∷ record_of 9 4 1 1 1 ∷ begin 4 ∷ fail 3 ∷ begin 3 ∷ fail 2 ∷ begin 4 ∷ begin 3 ∷ record_of 3 4 1 0 0
      ∷ record_of 15 4 1 0 0 ∷ record_of 9 4 1 0 0 ∷ [];
  answers = 8 ∷ 8 ∷ 11 ∷ 0 ∷ 12 ∷ 50 ∷ 10 ∷ 10 ∷ 9 ∷ 8 ∷ 8 ∷ [];
}

-- ---- the table

abbrev pub AllAsWritten : Type 0
AllAsWritten =
    AsWritten hole × AsWritten hole_late × AsWritten wait × AsWritten home_in_doubt × AsWritten heard × AsWritten heard_one_way
    × AsWritten old_resume × AsWritten struck_at_receiver × AsWritten emptied × AsWritten failed_before × AsWritten begin_again × AsWritten hurt_twice × AsWritten full_line × AsWritten note_low × AsWritten note_high × AsWritten note_wide × AsWritten home_recovers × AsWritten other_failed × AsWritten link_first × AsWritten store_fails
    × AsWritten fails_in_recovery × AsWritten damage_in_recovery × AsWritten places_meet × AsWritten fail_parts × AsWritten link_parts
    × AsWritten faulty_link_parts × AsWritten in_order
