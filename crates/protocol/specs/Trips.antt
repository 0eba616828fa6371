-- Closed runs of document 02, card 5: six recoveries in which a cabinet has tripped (another, of a save whose resume was taken, is
-- `Unsure.early`), and cases of what is answered and printed.
use Rattle.std.specs.Prelude.{ℕ, ◌≡◌, true, false, List, [], ◌∷◌, ◌++◌, length, replicate, Some}
use Rattle.std.proofs.Math.Option.{none, some}
use Rattle.marks.specs.Marks.{next_up}
use Rattle.packet.specs.declared.Place.TheVariants.{Failed as AtFailed, Tripped as AtTripped}
use Rattle.protocol.specs.History.{stepping, steps}
use Rattle.protocol.specs.Listing.{ascii}
use Rattle.protocol.specs.Marked.{file_of, record_of, send, begin, deliver, restored, fail, ListingOf, Case}
use Rattle.protocol.specs.Examples.{note, writes, saved, fetches, damage, unsure, Example, Found, to_a, image_with, ring, ring_saved, row, row_committed}
use Rattle.protocol.specs.Tempting.{Run, asked_last}
use Rattle.protocol.specs.Losses.{lose, answers}

abbrev pub trip : ℕ → List ℕ
trip a = record_of 13 a 0 0 0

-- ---- a tripped cabinet comes back with its image

-- 3 trips, and has the version from the recover of 1; each of the three hears both others
abbrev pub last_trips : List (List ℕ)
last_trips =
    trip 3 ∷ deliver 1 2 ∷ deliver 2 1 ∷ deliver 1 3 ∷ deliver 1 3 ∷ deliver 3 1 ∷ deliver 3 2 ∷ deliver 2 3
    ∷ fetches 1 ++ fetches 2 ++ fetches 3
    ++ restored 1 ∷ restored 2 ∷ []

abbrev pub comes_back : Example
comes_back = record {
  file = ring;
  -- as in `Examples.after_save`
  before = steps (ring_saved ++ send 1 2 40 ∷ deliver 1 2 ∷ note 2 31 4 ∷ send 3 2 7 ∷ []);
  since = steps last_trips;
  last = stepping (restored 3);
  coordinator = 0;
}

abbrev pub comes_back_finds : Found
comes_back_finds = record {
  loaded = 0;
  taken = true;
  ended = true;
  place = Some (AtTripped 2);
  committed = 1;
  left = 1;
  begun = true;
  stands = true;
  by = 0;
  took = (to_a 10 ∷ []) ∷ (to_a 30 ∷ []) ∷ (to_a 5 ∷ []) ∷ [];
  standing = image_with 40 0 ∷ image_with 115 4 ∷ image_with 8 0 ∷ [];
  held = some (image_with 80 0) ∷ some (image_with 75 9) ∷ some (image_with 15 0) ∷ [];
  gone = none ∷ none ∷ none ∷ [];
}

-- ---- a tripped coordinator

-- as `Examples.passed_over`: two saves of the row, the second up to its commit
abbrev pub row_twice : List (List ℕ)
row_twice =
    send 1 2 30 ∷ deliver 1 2 ∷ note 3 31 6
    ∷ row_committed ++ deliver 1 2 ∷ deliver 2 3
    ∷ send 3 2 8 ∷ deliver 3 2 ∷ send 1 2 9 ∷ deliver 1 2 ∷ note 3 31 7
    ∷ row_committed

-- nobody took the resume: all report to 2, "the next higher number in use", which brings the others the old version and ends the recovery
abbrev pub first_trips_all_unsure : List (List ℕ)
first_trips_all_unsure =
    trip 1 ∷ deliver 2 3 ∷ deliver 3 2 ∷ deliver 2 1 ∷ deliver 1 2 ∷ unsure 2 ∷ unsure 3 ∷ unsure 1 ∷ deliver 2 3 ∷ deliver 2 1
    ∷ fetches 1 ++ fetches 2 ++ fetches 3
    ++ restored 1 ∷ restored 3 ∷ []

abbrev pub trip_passed_over : Example
trip_passed_over = record {
  file = row;
  before = steps row_twice;
  since = steps first_trips_all_unsure;
  last = stepping (restored 2);
  coordinator = 1;
}

abbrev pub trip_passed_over_finds : Found
trip_passed_over_finds = record {
  loaded = 0;
  taken = true;
  ended = true;
  place = Some (AtTripped 0);
  committed = 2;
  left = 1;
  begun = true;
  stands = false;
  by = 0;
  took = [] ∷ (to_a 30 ∷ []) ∷ [] ∷ [];
  standing = image_with 61 0 ∷ image_with 97 0 ∷ image_with 12 7 ∷ [];
  held = some (image_with 70 0) ∷ some (image_with 80 0) ∷ some (image_with 20 6) ∷ [];
  gone = none ∷ none ∷ none ∷ [];
}

-- ---- a third trip

-- and the resume that ends the recovery at 2 and 3
abbrev pub last_back : List (List ℕ)
last_back =
    last_trips ++ restored 3
    ∷ deliver 1 2 ∷ deliver 1 2 ∷ deliver 1 3
    ∷ deliver 2 1 ∷ deliver 2 1 ∷ deliver 2 3 ∷ deliver 2 3 ∷ deliver 3 1 ∷ deliver 3 1 ∷ deliver 3 2 ∷ deliver 3 2
    ∷ []

-- "A third trip of the same cabinet with no commit between .. is a fail."
abbrev pub third_trip_fails : Example
third_trip_fails = record {
  file = ring;
  before = steps (ring_saved ++ last_back ++ last_back ++ send 1 2 40 ∷ deliver 1 2 ∷ []);
  since = steps (trip 3 ∷ deliver 1 2 ∷ deliver 2 1 ∷ fetches 1 ++ fetches 2 ++ restored 1 ∷ []);
  last = stepping (restored 2);
  coordinator = 0;
}

abbrev pub third_trip_fails_finds : Found
third_trip_fails_finds = record {
  loaded = 0;
  taken = true;
  ended = true;
  place = Some (AtFailed 2);
  committed = 1;
  left = 1;
  begun = false;
  stands = false;
  by = 0;
  took = (to_a 10 ∷ []) ∷ (to_a 30 ∷ []) ∷ (to_a 5 ∷ []) ∷ [];
  standing = image_with 40 0 ∷ image_with 115 9 ∷ image_with 15 0 ∷ [];
  held = some (image_with 80 0) ∷ some (image_with 75 9) ∷ none ∷ [];
  gone = none ∷ none ∷ some (image_with 15 0) ∷ [];
}

-- ---- the lead that moved on begins a save

-- as `ring`, but 3 is the store and home of all
abbrev pub far_ring : List ℕ
far_ring = file_of 3 (100 ∷ 50 ∷ 20 ∷ []) (1 ∷ 2 ∷ 1 ∷ 3 ∷ 2 ∷ 3 ∷ [])

-- 1 trips, and 2 ends the recovery
abbrev pub led_by_second : List (List ℕ)
led_by_second =
    trip 1 ∷ deliver 2 1 ∷ deliver 2 1 ∷ deliver 1 2 ∷ deliver 1 3 ∷ deliver 2 3 ∷ deliver 3 2 ∷ deliver 3 1
    ∷ fetches 1 ++ fetches 2 ++ fetches 3
    ++ restored 1 ∷ restored 3 ∷ restored 2
    ∷ deliver 1 2 ∷ deliver 1 3 ∷ deliver 2 1 ∷ deliver 2 3 ∷ deliver 3 1 ∷ deliver 3 2
    ∷ deliver 1 2 ∷ deliver 1 3 ∷ deliver 2 3 ∷ deliver 3 1 ∷ deliver 3 2
    ∷ []

-- a save of 105, 49 and 16 that 2 begins and commits; then 2 trips, and 3 ends the recovery
abbrev pub lead_moves_on : Example
lead_moves_on = record {
  file = far_ring;
  before =
      steps (led_by_second ++ send 2 1 5 ∷ deliver 2 1 ∷ send 3 2 4
      ∷ begin 2 ∷ deliver 3 2 ∷ deliver 2 1 ∷ deliver 2 3 ∷ deliver 1 2 ∷ deliver 1 3 ∷ deliver 3 1 ∷ deliver 3 2
      ∷ writes 1 ++ writes 2 ++ writes 3
      ++ saved 1 ∷ saved 2 ∷ saved 3
      ∷ deliver 2 1 ∷ deliver 2 3 ∷ deliver 1 3 ∷ deliver 3 1
      ∷ send 1 2 6 ∷ deliver 1 2 ∷ []);
  since =
      steps (trip 2 ∷ deliver 1 3 ∷ deliver 3 1 ∷ deliver 1 2 ∷ deliver 3 2 ∷ deliver 3 2 ∷ deliver 2 1 ∷ deliver 2 3
      ∷ fetches 1 ++ fetches 2 ++ fetches 3
      ++ restored 1 ∷ restored 2 ∷ []);
  last = stepping (restored 3);
  coordinator = 2;
}

abbrev pub lead_moves_on_finds : Found
lead_moves_on_finds = record {
  loaded = 0;
  taken = true;
  ended = true;
  place = Some (AtTripped 1);
  committed = 1;
  left = 1;
  begun = true;
  stands = true;
  by = 1;
  took = (to_a 5 ∷ []) ∷ (to_a 4 ∷ []) ∷ [] ∷ [];
  standing = image_with 99 0 ∷ image_with 55 0 ∷ image_with 16 0 ∷ [];
  held = some (image_with 105 0) ∷ some (image_with 49 0) ∷ some (image_with 16 0) ∷ [];
  gone = none ∷ none ∷ none ∷ [];
}

-- ---- a cabinet between others trips and is not coordinator: it passes fault and recover on

-- a row of three, 1 the store and home of all
abbrev pub near_row : List ℕ
near_row = file_of 1 (100 ∷ 50 ∷ 20 ∷ []) (1 ∷ 2 ∷ 2 ∷ 3 ∷ [])

abbrev pub middle_trips : Example
middle_trips = record {
  file = near_row;
  before = steps (send 1 2 30 ∷ deliver 1 2 ∷ row_committed ++ deliver 1 2 ∷ deliver 2 3 ∷ send 2 3 8 ∷ deliver 2 3 ∷ []);
  since =
      steps (trip 2 ∷ deliver 1 2 ∷ deliver 1 2 ∷ deliver 2 1 ∷ deliver 3 2 ∷ deliver 2 3 ∷ deliver 2 3
      ∷ fetches 1 ++ fetches 2 ++ fetches 3
      ++ restored 2 ∷ restored 3 ∷ []);
  last = stepping (restored 1);
  coordinator = 0;
}

abbrev pub middle_trips_finds : Found
middle_trips_finds = record {
  loaded = 0;
  taken = true;
  ended = true;
  place = Some (AtTripped 1);
  committed = 1;
  left = 1;
  begun = true;
  stands = true;
  by = 0;
  took = [] ∷ (to_a 30 ∷ []) ∷ [] ∷ [];
  standing = image_with 70 0 ∷ image_with 72 0 ∷ image_with 28 0 ∷ [];
  held = some (image_with 70 0) ∷ some (image_with 80 0) ∷ some (image_with 20 0) ∷ [];
  gone = none ∷ none ∷ none ∷ [];
}

-- ---- a cabinet trips in the middle of a save: the report owed on it counts, and it comes back from that save

abbrev pub trips_while_saving : Example
trips_while_saving = record {
  file = near_row;
  before =
      steps (send 1 2 30 ∷ deliver 1 2 ∷ note 3 31 6
      ∷ begin 1 ∷ deliver 1 2 ∷ deliver 2 1 ∷ deliver 2 3 ∷ deliver 3 2
      ∷ writes 1 ++ writes 2 ++ writes 3);
  since =
      steps (trip 3 ∷ saved 1 ∷ saved 2 ∷ saved 3
      ∷ deliver 2 1 ∷ deliver 1 2 ∷ deliver 1 2 ∷ deliver 3 2 ∷ deliver 2 3 ∷ deliver 2 3
      ∷ fetches 1 ++ fetches 2 ++ fetches 3
      ++ restored 3 ∷ restored 2 ∷ []);
  last = stepping (restored 1);
  coordinator = 0;
}

abbrev pub trips_while_saving_finds : Found
trips_while_saving_finds = record {
  loaded = 0;
  taken = true;
  ended = true;
  place = Some (AtTripped 2);
  committed = 0;
  left = 1;
  begun = true;
  stands = true;
  by = 0;
  took = [] ∷ (to_a 30 ∷ []) ∷ [] ∷ [];
  standing = image_with 70 0 ∷ image_with 80 0 ∷ image_with 20 6 ∷ [];
  held = some (image_with 70 0) ∷ some (image_with 80 0) ∷ some (image_with 20 6) ∷ [];
  gone = none ∷ none ∷ none ∷ [];
}

-- ---- "after the highest the lowest": no run here shows it, since a store without a partner keeps the lead once it has it; so it is asked of a
-- table's marks. `Partners.lead_goes_round` is a run in which it does

abbrev pub RoundAgain : Type 0
RoundAgain =
    (next_up (true ∷ false ∷ true ∷ false ∷ false ∷ false ∷ false ∷ false ∷ []) 2 ≡ 0)
    × (next_up (false ∷ true ∷ true ∷ false ∷ false ∷ false ∷ false ∷ true ∷ []) 7 ≡ 1)
    × (next_up (true ∷ true ∷ true ∷ false ∷ false ∷ true ∷ false ∷ false ∷ []) 2 ≡ 5)

-- ---- cases

-- a fork of three, 3 the store and home of all: 2 and 3 hang together through the coordinator alone
abbrev pub fork : List ℕ
fork = file_of 3 (100 ∷ 50 ∷ 20 ∷ []) (1 ∷ 2 ∷ 1 ∷ 3 ∷ [])

-- a save of the fork is committed, and 2 took its resume; it is in the next one, 3 still waits
abbrev pub two_saves : List (List ℕ)
two_saves =
    begin 1 ∷ deliver 1 2 ∷ deliver 1 3 ∷ deliver 2 1 ∷ deliver 3 1
    ∷ writes 1 ++ writes 2 ++ writes 3
    ++ saved 1 ∷ saved 2 ∷ saved 3
    ∷ deliver 1 2 ∷ begin 1 ∷ deliver 1 2 ∷ writes 2

-- 3 of a row trips, and all come back
abbrev pub leaf_back : List (List ℕ)
leaf_back =
    trip 3 ∷ deliver 2 1 ∷ deliver 1 2 ∷ deliver 3 2 ∷ deliver 2 3 ∷ deliver 2 3
    ∷ fetches 1 ++ fetches 2 ++ fetches 3
    ++ restored 3 ∷ restored 2 ∷ restored 1
    ∷ deliver 1 2 ∷ deliver 2 1 ∷ deliver 3 2 ∷ deliver 1 2 ∷ deliver 2 1 ∷ deliver 2 3 ∷ deliver 3 2
    ∷ []

-- a save of the row is committed and passed over, and all come back
abbrev pub commit_lost : List (List ℕ)
commit_lost =
    row_committed ++ first_trips_all_unsure ++ restored 2
    ∷ deliver 1 2 ∷ deliver 2 1 ∷ deliver 2 3 ∷ deliver 3 2 ∷ deliver 1 2 ∷ deliver 3 2 ∷ []

-- 2 of the near row trips, and all come back
abbrev pub middle_back : List (List ℕ)
middle_back =
    trip 2 ∷ deliver 1 2 ∷ deliver 1 2 ∷ deliver 2 1 ∷ deliver 3 2 ∷ deliver 2 3 ∷ deliver 2 3
    ∷ fetches 1 ++ fetches 2 ++ fetches 3
    ++ restored 2 ∷ restored 3 ∷ restored 1
    ∷ deliver 1 2 ∷ deliver 2 1 ∷ deliver 2 1 ∷ deliver 2 3 ∷ deliver 3 2 ∷ deliver 3 2
    ∷ []

-- a row of three, 3 the store and home of all; 1 trips, all come back, and 2 leads
abbrev pub far_row : List ℕ
far_row = file_of 3 (100 ∷ 50 ∷ 20 ∷ []) (1 ∷ 2 ∷ 2 ∷ 3 ∷ [])

abbrev pub first_back : List (List ℕ)
first_back =
    trip 1 ∷ deliver 2 1 ∷ deliver 2 1 ∷ deliver 1 2 ∷ deliver 2 3 ∷ deliver 3 2
    ∷ fetches 1 ++ fetches 2 ++ fetches 3
    ++ restored 1 ∷ restored 3 ∷ restored 2
    ∷ deliver 1 2 ∷ deliver 2 1 ∷ deliver 1 2 ∷ deliver 2 3 ∷ deliver 2 3 ∷ deliver 3 2 ∷ deliver 3 2
    ∷ []

-- 2 of the far ring fails and the others come back; then 1 trips and comes back
abbrev pub second_gone : List (List ℕ)
second_gone =
    fail 2 ∷ deliver 1 3 ∷ deliver 3 1 ∷ fetches 1 ++ fetches 3 ++ restored 3 ∷ restored 1
    ∷ deliver 1 3 ∷ deliver 3 1 ∷ deliver 1 3 ∷ deliver 3 1
    ∷ trip 1 ∷ deliver 3 1 ∷ deliver 3 1 ∷ deliver 1 3 ∷ fetches 1 ++ fetches 3 ++ restored 1 ∷ restored 3
    ∷ []

-- a ring of five, 2 the store and home of all
abbrev pub ring_of_five : List ℕ
ring_of_five = file_of 2 (10 ∷ 10 ∷ 10 ∷ 10 ∷ 10 ∷ []) (1 ∷ 2 ∷ 1 ∷ 3 ∷ 2 ∷ 4 ∷ 3 ∷ 5 ∷ 4 ∷ 5 ∷ [])

-- 2 leads a save in which 3 is past its last piece, and 1, which leads no more, trips
abbrev pub former_trips : List (List ℕ)
former_trips = begin 2 ∷ deliver 2 1 ∷ deliver 2 3 ∷ deliver 1 2 ∷ deliver 1 3 ∷ deliver 3 1 ∷ deliver 3 2 ∷ writes 3 ++ trip 1 ∷ []

-- "the next higher number in use takes over": the lead is not handed back; nor is a report taken where the fault was not the coordinator
abbrev pub leads : Run
leads =
    asked_last far_ring led_by_second (begin 1 ∷ former_trips ++ unsure 3 ∷ [])
    (14 ∷ replicate (length former_trips) 0 ++ 14 ∷ [])

-- a count is "of the same cabinet"; a third trip is a fail in its crash cases too: 2 joins 1 and 3
abbrev pub counts : Run
counts = asked_last near_row (middle_back ++ leaf_back ++ middle_back) (trip 2 ∷ []) (50 ∷ [])

abbrev pub trip_cases : List Case
trip_cases =
    -- "Checks: as for fail; kind 13 passes check 8": it names a alone
    answers ring [] (record_of 13 3 1 0 0) 9
    ∷ answers ring [] (record_of 13 3 0 1 0) 9
    ∷ answers ring [] (record_of 13 3 0 0 1) 9
    ∷ answers ring [] (record_of 15 3 0 0 0) 8
    ∷ answers ring (trip 1 ∷ []) (trip 3) 10
    ∷ answers ring [] (trip 4) 11
    ∷ answers ring (fail 3 ∷ []) (trip 3) 12
    ∷ answers ring [] (trip 3) 0
    -- image zeros, version unknown; the neighbours know theirs
    ∷ record { asked = ListingOf ring (trip 3); expected = ascii "step 1 0\ncab 1 recovering 0 100 0 0\ncab 2 recovering 0 50 0 0\ncab 3 error u 0 0 0\n" }
    -- "its lines are emptied both ways", and those of its neighbours, which enter error
    ∷ answers ring (send 1 3 5 ∷ trip 3 ∷ []) (lose 1 3 0) 18
    -- "A store cabinet's trip crashes the group, and so does a trip while some working cabinet is in error, recovering or recovered."
    ∷ answers ring [] (trip 1) 50
    ∷ answers ring (trip 3 ∷ []) (trip 2) 50
    ∷ answers ring (trip 3 ∷ []) (trip 3) 50
    ∷ answers ring (trip 3 ∷ []) (fail 2) 50
    ∷ answers ring (fail 3 ∷ []) (trip 2) 50
    -- "The coordinator's trip also crashes the group wherever its fail would"
    ∷ answers fork [] (trip 1) 50
    ∷ answers fork two_saves (trip 1) 50
    ∷ answers far_row first_back (trip 2) 50
    ∷ answers near_row [] (trip 2) 0
    ∷ answers near_row [] (fail 2) 50
    -- at the finding of a link fault a tripped cabinet counts as working: without 1, 3 and 5 would not be reached
    ∷ answers ring_of_five (begin 1 ∷ deliver 1 2 ∷ deliver 2 4 ∷ damage 4 5 0 1 ∷ trip 1 ∷ []) (deliver 4 5) 0
    -- "with no commit between (one later passed over counts here)": the third trip is one, in error and not failed (12)
    ∷ answers row (leaf_back ++ leaf_back ++ commit_lost ++ trip 3 ∷ []) (note 3 31 1) 14
    -- the lead goes past a failed one
    ∷ answers far_ring second_gone (begin 3) 0
    ∷ []
