-- Closed runs of document 02, card 6: three recoveries in which cabinets report unsure, runs with the answer to each record, and a state from
-- which the wait of document 01 and reports in its place come to the same images.
use Rattle.std.specs.Prelude.{ℕ, ◌≡◌, Bool, true, false, ◌&&◌, List, [], ◌∷◌, ◌++◌, map, eqb, Some}
use Rattle.std.proofs.Math.Option.{none, some}
use Rattle.marks.specs.Marks.{no_marks}
use Rattle.packet.specs.declared.Place.TheVariants.{Failed as AtFailed, Tripped as AtTripped}
use Rattle.state.specs.declared.State.{State}
use Rattle.state.specs.declared.State.TheVariants.{Normal}
use Rattle.state.specs.declared.Version.{Version}
use Rattle.state.specs.declared.Version.TheVariants.{Known}
use Rattle.cabinet.specs.Cabinet.{absent, resuming, alarmed, unsure_for}
use Rattle.image.specs.declared.Image.{Image}
use Rattle.group.specs.declared.Group.{Group}
use Rattle.group.specs.Group.{cabinet, state_of}
use Rattle.load.specs.Load.{load}
use Rattle.protocol.specs.Wait.{wait_over_refusal, waited_over}
use Rattle.protocol.specs.Entry.{step_all, answers_from}
use Rattle.protocol.specs.History.{stepping, steps}
use Rattle.protocol.specs.Marked.{file_of, record_of, send, begin, deliver, fetch, restored, fail}
use Rattle.protocol.specs.Examples.{note, writes, saved, fetches, damage, unsure, Example, Found, walk_to_end, for_each, to_a, image_with}
use Rattle.protocol.specs.Tempting.{Run, AsWritten, asked_last, triangle, far_from_one, far_committed}
use Rattle.protocol.specs.Trips.{trip}

-- ---- the new coordinator decides, though no link joined it to the one that is lost

-- a row of three: 3, the store and home of all, stands between 1 and 2
abbrev pub store_between : List ℕ
store_between = file_of 3 (100 ∷ 50 ∷ 20 ∷ []) (1 ∷ 3 ∷ 2 ∷ 3 ∷ [])

-- a save of 70, 50 and 50 in which 2 and 3 have written, and no longer know their version
abbrev pub half_written : List (List ℕ)
half_written = send 1 3 30 ∷ deliver 1 3 ∷ begin 1 ∷ deliver 1 3 ∷ deliver 3 2 ∷ deliver 2 3 ∷ writes 2 ++ writes 3

-- 1 fails before that save is committed: 2 and 3 come back from the start
abbrev pub decided_after_fail : Example
decided_after_fail = record {
  file = store_between;
  before = steps half_written;
  since =
      steps (fail 1 ∷ deliver 3 2 ∷ deliver 2 3
      -- "each cabinet in error with unknown version reports unsure to the new coordinator": 3 to 2, and 2 to itself
      ∷ unsure 3 ∷ unsure 2
      -- the recover of 2, and that of 3, which is dropped
      ∷ deliver 2 3 ∷ deliver 3 2
      ∷ fetches 2 ++ fetches 3
      ++ restored 3 ∷ []);
  last = stepping (restored 2);
  coordinator = 1;
}

abbrev pub decided_after_fail_finds : Found
decided_after_fail_finds = record {
  loaded = 0;
  taken = true;
  ended = true;
  place = Some (AtFailed 0);
  committed = 0;
  left = 0;
  begun = true;
  stands = false;
  by = 8;
  took = [] ∷ [] ∷ [] ∷ [];
  standing = image_with 70 0 ∷ image_with 50 0 ∷ image_with 50 0 ∷ [];
  held = none ∷ some (image_with 50 0) ∷ some (image_with 20 0) ∷ [];
  gone = some (image_with 100 0) ∷ none ∷ none ∷ [];
}

-- the save is committed, and its resume is on the line from 1 to 3
abbrev pub all_written : List (List ℕ)
all_written = half_written ++ deliver 3 1 ∷ writes 1 ++ saved 1 ∷ saved 2 ∷ saved 3 ∷ []

-- 1 trips before anybody takes it: all three are in error with unknown version
abbrev pub all_in_doubt : List (List ℕ)
all_in_doubt = trip 1 ∷ deliver 3 2 ∷ []

-- .. and the records up to there
abbrev pub until_wait : List (List ℕ)
until_wait = all_written ++ all_in_doubt

-- once 2 has decided: its recover goes to 3, and from there to 1
abbrev pub after_reports : List (List ℕ)
after_reports =
    deliver 2 3 ∷ deliver 2 3 ∷ deliver 1 3 ∷ deliver 3 1 ∷ deliver 3 1
    ∷ fetches 1 ++ fetches 2 ++ fetches 3
    ++ restored 1 ∷ restored 3 ∷ []

-- the tripped one reports too, and the save is passed over
abbrev pub decided_after_trip : Example
decided_after_trip = record {
  file = store_between;
  before = steps all_written;
  since = steps (all_in_doubt ++ unsure 1 ∷ unsure 2 ∷ unsure 3 ∷ after_reports);
  last = stepping (restored 2);
  coordinator = 1;
}

abbrev pub decided_after_trip_finds : Found
decided_after_trip_finds = record {
  loaded = 0;
  taken = true;
  ended = true;
  place = Some (AtTripped 0);
  committed = 1;
  left = 0;
  begun = true;
  stands = false;
  by = 8;
  took = [] ∷ [] ∷ [] ∷ [];
  standing = image_with 70 0 ∷ image_with 50 0 ∷ image_with 50 0 ∷ [];
  held = some (image_with 100 0) ∷ some (image_with 50 0) ∷ some (image_with 20 0) ∷ [];
  gone = none ∷ none ∷ none ∷ [];
}

-- ---- one report is missing, and nothing is decided

-- all others have reported: 2 is not in recovering (14), and there is no recover behind its fault (18); with the report of a there is one
abbrev pub missing : ℕ → List (List ℕ) → Run
missing a others =
    asked_last store_between (until_wait ++ others)
    (fetch 2 ∷ deliver 2 3 ∷ deliver 2 3 ∷ unsure a ∷ deliver 2 3 ∷ [])
    (14 ∷ 0 ∷ 18 ∷ 0 ∷ 0 ∷ [])

-- the coordinator's own report, that of the tripped one, and that of 3
abbrev pub own_missing : Run
own_missing = missing 2 (unsure 1 ∷ unsure 3 ∷ [])

abbrev pub tripped_missing : Run
tripped_missing = missing 1 (unsure 3 ∷ unsure 2 ∷ [])

abbrev pub third_missing : Run
third_missing = missing 3 (unsure 2 ∷ unsure 1 ∷ [])

-- ---- a recover comes before the last report: 3 has had the resume, the reports of all others decide nothing, and the save comes back

abbrev pub early : Example
early = record {
  file = far_from_one;
  -- a save of 5, 25, 30 and 40; 3 takes its resume and makes a note
  before = steps (send 1 2 5 ∷ deliver 1 2 ∷ far_committed ++ deliver 1 3 ∷ note 3 31 6 ∷ []);
  since =
      -- all but 3 report to 2: the tripped one, 4, which no link joined to it, and 2 itself
      steps (trip 1 ∷ deliver 2 4 ∷ unsure 1 ∷ unsure 4 ∷ unsure 2
      -- fault and recover from 3 to 4 and 1, and from 4 to 2
      ∷ deliver 3 4 ∷ deliver 3 4 ∷ deliver 3 1 ∷ deliver 3 1 ∷ deliver 4 2 ∷ deliver 4 2
      -- the other faults
      ∷ deliver 1 2 ∷ deliver 1 3 ∷ deliver 2 1 ∷ deliver 4 3
      ∷ fetches 1 ++ fetches 2 ++ fetches 3 ++ fetches 4
      ++ restored 1 ∷ restored 3 ∷ restored 4 ∷ []);
  last = stepping (restored 2);
  coordinator = 1;
}

abbrev pub early_finds : Found
early_finds = record {
  loaded = 0;
  taken = true;
  ended = true;
  place = Some (AtTripped 0);
  committed = 1;
  left = 1;
  begun = true;
  stands = true;
  by = 0;
  took = [] ∷ (to_a 5 ∷ []) ∷ [] ∷ [] ∷ [];
  standing = image_with 5 0 ∷ image_with 25 0 ∷ image_with 30 6 ∷ image_with 40 0 ∷ [];
  held = some (image_with 5 0) ∷ some (image_with 25 0) ∷ some (image_with 30 0) ∷ some (image_with 40 0) ∷ [];
  gone = none ∷ none ∷ none ∷ none ∷ [];
}

-- the versions at the end: all four have that of 3; the group is handed on, so that it is computed once
abbrev pub versions_of : Group → List Version
versions_of g = for_each 4 (λ c. (cabinet g c).phase.version)

unfoldable pub early_versions : List Version
early_versions = versions_of (walk_to_end early).world.group

-- ---- what is answered

-- a report names a alone; "19 reported already or the coordinator not in error", as 2 is not once it has decided: then 1 gets 19, and 2 itself 14
abbrev pub reports : Run
reports =
    asked_last store_between until_wait
    (record_of 14 3 1 0 0 ∷ record_of 14 3 0 1 0 ∷ record_of 14 3 0 0 1 ∷ unsure 0 ∷ unsure 4
    ∷ unsure 1 ∷ unsure 1 ∷ unsure 2 ∷ unsure 3 ∷ unsure 1 ∷ unsure 2 ∷ [])
    (9 ∷ 9 ∷ 9 ∷ 11 ∷ 11 ∷ 0 ∷ 19 ∷ 0 ∷ 0 ∷ 19 ∷ 14 ∷ [])

-- 1 has failed; 3 is in error, and 2, in checkpointed, knows of it with the fault from 3; then 3 fails too, and the group crashes
abbrev pub too_soon : Run
too_soon =
    asked_last store_between (half_written ++ fail 1 ∷ [])
    (unsure 1 ∷ unsure 3 ∷ unsure 2 ∷ deliver 3 2 ∷ unsure 3 ∷ fail 3 ∷ unsure 2 ∷ record_of 14 2 1 0 0 ∷ [])
    (12 ∷ 19 ∷ 14 ∷ 0 ∷ 0 ∷ 50 ∷ 10 ∷ 9 ∷ [])

-- 5 hangs on 2, and 2 on the store, 4: 3 has written and is in error, 2 is in normal, then in checkp-begin and then in checkpointing
abbrev pub far_next : List ℕ
far_next = file_of 4 (10 ∷ 10 ∷ 10 ∷ 10 ∷ 10 ∷ []) (1 ∷ 3 ∷ 2 ∷ 4 ∷ 2 ∷ 5 ∷ 3 ∷ 4 ∷ [])

abbrev pub still_saving : Run
still_saving =
    asked_last far_next (begin 1 ∷ deliver 1 3 ∷ deliver 3 4 ∷ deliver 4 3 ∷ writes 3 ++ fail 1 ∷ [])
    (unsure 3 ∷ deliver 4 2 ∷ unsure 3 ∷ deliver 2 5 ∷ deliver 5 2 ∷ unsure 3 ∷ []) (19 ∷ 0 ∷ 19 ∷ 0 ∷ 0 ∷ 19 ∷ [])

-- 3 had the resume, and its recover has come to 4 and 2: 2 is in recovered when 1 reports
abbrev pub too_late : Run
too_late =
    asked_last far_from_one
    (far_committed ++ deliver 1 3 ∷ trip 1 ∷ deliver 2 4 ∷ deliver 3 4 ∷ deliver 3 4 ∷ deliver 4 2 ∷ deliver 4 2 ∷ fetches 2)
    (restored 2 ∷ unsure 1 ∷ []) (19 ∷ 19 ∷ [])

-- a fault that 2 hears leaves the reports at it, and it need not have heard all to decide: then its home, which has no recover yet, is not ready (19)
abbrev pub heard_between : Run
heard_between =
    asked_last far_from_one (far_committed ++ trip 1 ∷ deliver 2 4 ∷ [])
    (unsure 1 ∷ unsure 3 ∷ unsure 4 ∷ deliver 1 2 ∷ unsure 3 ∷ unsure 2 ∷ fetch 2 ∷ []) (0 ∷ 0 ∷ 0 ∷ 0 ∷ 19 ∷ 0 ∷ 19 ∷ [])

-- "14 not in error with unknown version": in normal
abbrev pub not_in_error : Run
not_in_error = asked_last store_between [] (unsure 1 ∷ unsure 2 ∷ []) (14 ∷ 14 ∷ [])

-- ".. or the fault is not the former coordinator": it is a link here, which 3 finds at the checkp from 1 and 2 hears of; it is another cabinet
-- in `Tempting.other_failed` and `Trips.leads`
abbrev pub link_not_coordinator : Run
link_not_coordinator =
    asked_last triangle (begin 1 ∷ deliver 1 2 ∷ deliver 2 3 ∷ deliver 3 2 ∷ writes 2 ++ damage 1 3 0 1 ∷ deliver 1 3 ∷ deliver 3 2 ∷ []) (unsure 2 ∷ [])
    (14 ∷ [])

-- 2 is the store and home of all, and is joined to all but 1
abbrev pub around_two : List ℕ
around_two = file_of 2 (10 ∷ 10 ∷ 10 ∷ 10 ∷ 10 ∷ []) (1 ∷ 3 ∷ 2 ∷ 3 ∷ 2 ∷ 4 ∷ 2 ∷ 5 ∷ 4 ∷ 5 ∷ [])

-- a coordinator in error for another place takes a report, and has none of its own: 1 has failed, which 3 knows, and 2 knows of the link
-- between 4 and 5; when the two places meet the group crashes
abbrev pub other_place : Run
other_place =
    asked_last around_two
    (begin 1 ∷ deliver 1 3 ∷ deliver 3 2 ∷ deliver 2 3 ∷ deliver 2 4 ∷ deliver 4 2 ∷ deliver 2 5 ∷ deliver 5 2 ∷ writes 2 ++ writes 3
    ++ damage 5 4 0 1 ∷ fail 1 ∷ deliver 5 4 ∷ deliver 4 2 ∷ unsure 3 ∷ [])
    (unsure 2 ∷ unsure 3 ∷ deliver 3 2 ∷ []) (14 ∷ 19 ∷ 50 ∷ [])

abbrev pub AllAnswered : Type 0
AllAnswered =
    AsWritten own_missing × AsWritten tripped_missing × AsWritten third_missing × AsWritten reports × AsWritten too_soon × AsWritten still_saving
    × AsWritten too_late × AsWritten heard_between × AsWritten not_in_error × AsWritten link_not_coordinator × AsWritten other_place

-- ---- "Reports .. are forgotten with the others on entering error", and on entering normal: no run here shows it, so it is asked of one cabinet

abbrev pub Forgotten : Type 0
Forgotten =
    ((alarmed (unsure_for absent 2) 0 (AtFailed 1)).noted.unsure ≡ no_marks) × ((resuming (unsure_for absent 2) (Known true)).noted.unsure ≡ no_marks)

-- ---- "A recovery that ended under the wait, with one report of each working cabinet in the wait's place .., ends in the same save"

-- up to the wait they are `until_wait`; the records after it was taken at 3, and those after the reports, both to the recovery's end
abbrev pub end_under_wait : List (List ℕ)
end_under_wait =
    deliver 2 3 ∷ deliver 1 3 ∷ deliver 3 1 ∷ deliver 3 1 ∷ deliver 3 2
    ∷ fetches 1 ++ fetches 2 ++ fetches 3
    ++ restored 1 ∷ restored 3 ∷ restored 2 ∷ []

abbrev pub end_after_reports : List (List ℕ)
end_after_reports = after_reports ++ restored 2 ∷ []

abbrev pub waiting : Group
waiting = step_all (load store_between).group until_wait

abbrev pub wait_refusals : Group → List ℕ → List ℕ
wait_refusals g cs = map (wait_over_refusal g) cs

-- card 5, "Only neighbours may take wait over": not the tripped or failed one, nor 2, which no link joined to it, but 3 (cabinets count from 0
-- here); and document 01, nobody "while one cabinet has had resume", as 3 has in `early`: 2 is the other neighbour
abbrev pub WaitsAsked : Type 0
WaitsAsked =
    (wait_refusals waiting (0 ∷ 1 ∷ 2 ∷ []) ≡ 14 ∷ 14 ∷ 0 ∷ [])
    × (wait_refusals (step_all (load store_between).group (half_written ++ fail 1 ∷ deliver 3 2 ∷ [])) (0 ∷ 1 ∷ 2 ∷ []) ≡ 14 ∷ 14 ∷ 0 ∷ [])
    × (wait_refusals (step_all (load far_from_one).group (far_committed ++ deliver 1 3 ∷ trip 1 ∷ deliver 2 4 ∷ [])) (0 ∷ 1 ∷ 2 ∷ 3 ∷ []) ≡ 14 ∷ 19 ∷ 14 ∷ 14 ∷ [])

-- what records come to: whether all are taken, the state of 2, and the images. A restored step of 2 that is taken finds it in recovered, so with
-- normal after it the recovery has ended
pub record End : Type 0 where
  pub taken : Bool
  pub state : State
  pub images : List Image

abbrev pub all_taken : List ℕ → Bool
all_taken [] = true
all_taken (k ∷ ks) = eqb k 0 && all_taken ks

abbrev pub end_in : List ℕ → Group → End
end_in ks g = record { taken = all_taken ks; state = state_of g 1; images = for_each 3 (λ c. (cabinet g c).image) }

abbrev pub end_of : Group → List (List ℕ) → End
end_of g records = end_in (answers_from g records) (step_all g records)

abbrev pub same_end : End
same_end = record { taken = true; state = Normal; images = image_with 100 0 ∷ image_with 50 0 ∷ image_with 20 0 ∷ [] }

-- under the wait at 3, and with the reports in another order than in `decided_after_trip`
abbrev pub SameUnderBoth : Type 0
SameUnderBoth =
    (end_of (waited_over waiting 2) end_under_wait ≡ same_end)
    × (end_of waiting (unsure 3 ∷ unsure 2 ∷ unsure 1 ∷ end_after_reports) ≡ same_end)
