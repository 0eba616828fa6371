-- Closed runs of document 02, card 10: eight recoveries in which a store or its partner was lost, runs with every answer, what is held and owed at
-- the end of some, and cases of what is loaded, answered and printed.
use Rattle.std.specs.Prelude.{ℕ, ◌/◌, ◌≡◌, true, false, List, [], ◌∷◌, ◌++◌, length, replicate, set, Some}
use Rattle.std.proofs.Math.Option.{none, some}
use Rattle.marks.specs.Marks.{Marks, no_marks}
use Rattle.packet.specs.declared.Place.TheVariants.{Failed as AtFailed, Tripped as AtTripped}
use Rattle.image.specs.declared.Image.{Image}
use Rattle.image.specs.Image.{blank_image}
use Rattle.points.specs.Points.{no_points, point_at, image_at}
use Rattle.group.specs.Group.{cabinet}
use Rattle.load.specs.Load.{load, cabinet_count}
use Rattle.protocol.specs.History.{Operation, stepping, pointing, returning, steps}
use Rattle.protocol.specs.Listing.{ascii}
use Rattle.protocol.specs.declared.Site.{Site}
use Rattle.protocol.specs.declared.Turn.{Turn}
use Rattle.protocol.specs.Evening.{operate}
use Rattle.protocol.specs.Marked.{two_octets, header, record_of, send, begin, deliver, restored, fail, ListingOf, Case}
use Rattle.protocol.specs.Examples.{note, writes, saved, fetches, unsure, Example, Found, to_a, image_with, for_each, row_committed}
use Rattle.protocol.specs.Returns.{named}
use Rattle.protocol.specs.Outlets.{loads}
use Rattle.protocol.specs.OwnChecks.{header_two}
use Rattle.protocol.specs.Tempting.{Run, AsWritten, last_of, asked_last}
use Rattle.protocol.specs.Losses.{answers}
use Rattle.protocol.specs.Trips.{trip}

-- ---- files

-- an entry: home, store mark, outlet A's booking, and the partner, "a store-partner octet after its entry's bookings, 0 for none"
abbrev pub entry : ℕ → ℕ → ℕ → ℕ → List ℕ
entry home mark booking partner = home ∷ mark ∷ two_octets booking ++ two_octets 0 ++ two_octets 0 ++ partner ∷ []

abbrev pub in_arow : List (List ℕ) → List ℕ
in_arow [] = []
in_arow (x ∷ xs) = x ++ in_arow xs

abbrev pub file_with : List (List ℕ) → List ℕ → List ℕ
file_with entries links = header (length entries) (length links / 2) ++ in_arow entries ++ links

abbrev pub write : ℕ → List ℕ
write a = record_of 5 a 0 0 0

-- two stores that are partners; 1 is home of both
abbrev pub pair : List ℕ
pair = file_with (entry 1 1 100 2 ∷ entry 1 1 50 1 ∷ []) (1 ∷ 2 ∷ [])

-- rows of three with one pair of stores; the home of all is 3 with partner 1, or 1 with partner 2, or 2 with partner 1, or 3 with partner 2
abbrev pub far_home : List ℕ
far_home = file_with (entry 3 1 100 3 ∷ entry 3 0 50 0 ∷ entry 3 1 20 1 ∷ []) (1 ∷ 2 ∷ 2 ∷ 3 ∷ [])

abbrev pub near_home : List ℕ
near_home = file_with (entry 1 1 100 2 ∷ entry 1 1 50 1 ∷ entry 1 0 20 0 ∷ []) (1 ∷ 2 ∷ 2 ∷ 3 ∷ [])

abbrev pub middle_home : List ℕ
middle_home = file_with (entry 2 1 100 2 ∷ entry 2 1 50 1 ∷ entry 2 0 20 0 ∷ []) (1 ∷ 2 ∷ 2 ∷ 3 ∷ [])

abbrev pub middle_partner : List ℕ
middle_partner = file_with (entry 3 0 100 0 ∷ entry 3 1 50 3 ∷ entry 3 1 20 2 ∷ []) (1 ∷ 2 ∷ 2 ∷ 3 ∷ [])

-- a save of a row up to the cuts
abbrev pub row_cuts : List (List ℕ)
row_cuts = begin 1 ∷ deliver 1 2 ∷ deliver 2 1 ∷ deliver 2 3 ∷ deliver 3 2 ∷ []

-- ---- 1: the home fails in the middle of a save, which is committed, and the partner has what comes back

-- 1 has two pieces at both stores and writes the others at its own alone; "the other is home for its cabinets and owes its reports"
abbrev pub home_fails : Example
home_fails = record {
  file = far_home;
  before = steps (send 1 2 30 ∷ deliver 1 2 ∷ note 1 31 6 ∷ row_cuts ++ writes 2 ++ writes 3 ++ write 1 ∷ write 1 ∷ []);
  since =
      steps (fail 3 ∷ write 1 ∷ write 1 ∷ saved 1 ∷ saved 2 ∷ saved 3
      ∷ deliver 2 1 ∷ deliver 1 2 ∷ deliver 1 2
      ∷ fetches 1 ++ fetches 2
      ++ restored 2 ∷ []);
  last = stepping (restored 1);
  coordinator = 0;
}

abbrev pub home_fails_finds : Found
home_fails_finds = record {
  loaded = 0;
  taken = true;
  ended = true;
  place = Some (AtFailed 2);
  committed = 0;
  left = 1;
  begun = true;
  stands = true;
  by = 0;
  took = [] ∷ (to_a 30 ∷ []) ∷ [] ∷ [];
  standing = image_with 70 6 ∷ image_with 80 0 ∷ image_with 20 0 ∷ [];
  held = some (image_with 70 6) ∷ some (image_with 80 0) ∷ none ∷ [];
  gone = none ∷ none ∷ some (image_with 20 0) ∷ [];
}

-- ---- 2: the home fails in the middle of a save, which is not committed: the save before it comes back

abbrev pub home_fails_undone : Example
home_fails_undone = record {
  file = far_home;
  before =
      steps (send 1 2 30 ∷ deliver 1 2 ∷ note 1 31 6 ∷ row_committed ++ deliver 1 2 ∷ deliver 2 3
      ∷ send 2 1 9 ∷ deliver 2 1 ∷ row_cuts ++ writes 2 ++ writes 3 ++ write 1 ∷ write 1 ∷ []);
  since = steps (fail 3 ∷ deliver 2 1 ∷ deliver 1 2 ∷ deliver 1 2 ∷ fetches 1 ++ fetches 2 ++ restored 2 ∷ []);
  last = stepping (restored 1);
  coordinator = 0;
}

abbrev pub home_fails_undone_finds : Found
home_fails_undone_finds = record {
  loaded = 0;
  taken = true;
  ended = true;
  place = Some (AtFailed 2);
  committed = 1;
  left = 1;
  begun = true;
  stands = true;
  by = 0;
  took = [] ∷ (to_a 30 ∷ []) ∷ [] ∷ [];
  standing = image_with 79 6 ∷ image_with 71 0 ∷ image_with 20 0 ∷ [];
  held = some (image_with 70 6) ∷ some (image_with 80 0) ∷ none ∷ [];
  gone = none ∷ none ∷ some (image_with 20 0) ∷ [];
}

-- ---- 3: a home trips, a save is committed while it is away, it comes back, and its partner fails

-- a row of four; 4 and 1 are partners, 1 the home of 2 and 4 of the others
abbrev pub row_of_four : List ℕ
row_of_four =
    file_with (entry 4 1 100 4 ∷ entry 1 0 50 0 ∷ entry 4 0 20 0 ∷ entry 4 1 30 1 ∷ []) (1 ∷ 2 ∷ 2 ∷ 3 ∷ 3 ∷ 4 ∷ [])

-- what 2 writes goes to 1 alone; "A tripped partner takes the other's slots in the step in which it reports restored and is home again"
abbrev pub committed_while_away : List (List ℕ)
committed_while_away =
    send 1 2 30 ∷ deliver 1 2 ∷ note 2 31 6
    ∷ begin 1 ∷ deliver 1 2 ∷ deliver 2 1 ∷ deliver 2 3 ∷ deliver 3 2 ∷ deliver 3 4 ∷ deliver 4 3
    ∷ writes 1 ++ writes 3 ++ writes 4
    ++ trip 4 ∷ writes 2
    ++ saved 1 ∷ saved 2 ∷ saved 3 ∷ saved 4
    ∷ deliver 3 2 ∷ deliver 2 1 ∷ deliver 1 2 ∷ deliver 1 2 ∷ deliver 2 3 ∷ deliver 2 3 ∷ deliver 3 4 ∷ deliver 3 4 ∷ deliver 4 3
    ∷ fetches 1 ++ fetches 2 ++ fetches 3 ++ fetches 4
    ++ restored 4 ∷ restored 3 ∷ restored 2 ∷ restored 1
    ∷ deliver 1 2 ∷ deliver 2 3 ∷ deliver 3 4
    ∷ []

-- the three others come back by what 4 has: 2 by the slots that 4 took of its partner's cabinets, the pieces that it was not there for
abbrev pub partner_fails_next : Example
partner_fails_next = record {
  file = row_of_four;
  before = steps (committed_while_away ++ send 2 3 5 ∷ []);
  since =
      steps (fail 1 ∷ deliver 2 3 ∷ deliver 3 2 ∷ deliver 3 4 ∷ deliver 4 3
      ∷ fetches 2 ++ fetches 3 ++ fetches 4
      ++ restored 3 ∷ restored 4 ∷ []);
  last = stepping (restored 2);
  coordinator = 1;
}

abbrev pub partner_fails_next_finds : Found
partner_fails_next_finds = record {
  loaded = 0;
  taken = true;
  ended = true;
  place = Some (AtFailed 0);
  committed = 1;
  left = 1;
  begun = false;
  stands = false;
  by = 0;
  took = [] ∷ (to_a 30 ∷ []) ∷ [] ∷ [] ∷ [];
  standing = image_with 70 0 ∷ image_with 75 6 ∷ image_with 20 0 ∷ image_with 30 0 ∷ [];
  held = none ∷ some (image_with 80 6) ∷ some (image_with 20 0) ∷ some (image_with 30 0) ∷ [];
  gone = some (image_with 70 0) ∷ none ∷ none ∷ none ∷ [];
}

-- ---- 4: a coordinator that is home of all fails after a commit that nobody took: "Which save comes back is unchanged"

-- a save of the pair up to its commit
abbrev pub pair_committed : List (List ℕ)
pair_committed = begin 1 ∷ deliver 1 2 ∷ deliver 2 1 ∷ writes 1 ++ writes 2 ++ saved 1 ∷ saved 2 ∷ []

abbrev pub store_passed_over : Example
store_passed_over = record {
  file = pair;
  before =
      steps (send 1 2 30 ∷ deliver 1 2 ∷ note 2 31 6 ∷ pair_committed ++ deliver 1 2
      ∷ send 1 2 9 ∷ deliver 1 2 ∷ pair_committed);
  since = steps (fail 1 ∷ unsure 2 ∷ fetches 2);
  last = stepping (restored 2);
  coordinator = 1;
}

abbrev pub store_passed_over_finds : Found
store_passed_over_finds = record {
  loaded = 0;
  taken = true;
  ended = true;
  place = Some (AtFailed 0);
  committed = 2;
  left = 1;
  begun = true;
  stands = false;
  by = 0;
  took = [] ∷ (to_a 30 ∷ []) ∷ [];
  standing = image_with 61 0 ∷ image_with 89 6 ∷ [];
  held = none ∷ some (image_with 80 6) ∷ [];
  gone = some (image_with 70 0) ∷ none ∷ [];
}

-- ---- 5: "after the highest the lowest"

-- 1 trips, and 2 ends the recovery; the same the other way round
abbrev pub first_back : List (List ℕ)
first_back =
    trip 1 ∷ deliver 2 1 ∷ deliver 2 1 ∷ deliver 1 2
    ∷ fetches 1 ++ fetches 2
    ++ restored 1 ∷ restored 2 ∷ deliver 2 1 ∷ deliver 1 2 ∷ deliver 1 2
    ∷ []

abbrev pub second_trips : List (List ℕ)
second_trips = trip 2 ∷ deliver 1 2 ∷ deliver 1 2 ∷ deliver 2 1 ∷ fetches 1 ++ fetches 2 ++ restored 2 ∷ []

abbrev pub second_back : List (List ℕ)
second_back = second_trips ++ restored 1 ∷ deliver 1 2 ∷ deliver 2 1 ∷ deliver 2 1 ∷ []

-- 2, which has the lead, commits a save and trips; 1 ends the recovery
abbrev pub lead_goes_round : Example
lead_goes_round = record {
  file = pair;
  before =
      steps (first_back ++ send 1 2 30 ∷ deliver 1 2
      ∷ begin 2 ∷ deliver 2 1 ∷ deliver 1 2 ∷ writes 1 ++ writes 2 ++ saved 1 ∷ saved 2 ∷ deliver 2 1
      ∷ send 2 1 7 ∷ deliver 2 1 ∷ []);
  since = steps second_trips;
  last = stepping (restored 1);
  coordinator = 0;
}

abbrev pub lead_goes_round_finds : Found
lead_goes_round_finds = record {
  loaded = 0;
  taken = true;
  ended = true;
  place = Some (AtTripped 1);
  committed = 1;
  left = 1;
  begun = true;
  stands = true;
  by = 1;
  took = [] ∷ (to_a 30 ∷ []) ∷ [];
  standing = image_with 77 0 ∷ image_with 73 0 ∷ [];
  held = some (image_with 70 0) ∷ some (image_with 80 0) ∷ [];
  gone = none ∷ none ∷ [];
}

-- 2 begins no save any more, and 1 does; so too after the fail of 2
abbrev pub round : Run
round = asked_last pair (first_back ++ second_back) (begin 2 ∷ begin 1 ∷ []) (14 ∷ 0 ∷ [])

abbrev pub round_at_fail : Run
round_at_fail = asked_last pair (first_back ++ fail 2 ∷ fetches 1 ++ restored 1 ∷ []) (begin 2 ∷ begin 1 ∷ []) (12 ∷ 0 ∷ [])

-- ---- 6: a return at both stores, and then the home fails

abbrev pub return_at_both : Example
return_at_both = record {
  file = pair;
  before =
      pointing (named 65) ∷ steps (send 1 2 30 ∷ deliver 1 2 ∷ pair_committed ++ deliver 1 2 ∷ [])
      ++ returning (named 65) ∷ steps (send 1 2 4 ∷ deliver 1 2 ∷ []);
  since = steps (fail 1 ∷ fetches 2);
  last = stepping (restored 2);
  coordinator = 1;
}

abbrev pub return_at_both_finds : Found
return_at_both_finds = record {
  loaded = 0;
  taken = true;
  ended = true;
  place = Some (AtFailed 0);
  committed = 2;
  left = 2;
  begun = true;
  stands = false;
  by = 8;
  took = [] ∷ [] ∷ [];
  standing = image_with 96 0 ∷ image_with 54 0 ∷ [];
  held = none ∷ some (image_with 50 0) ∷ [];
  gone = some (image_with 100 0) ∷ none ∷ [];
}

-- ---- 7: pieces written while the partner is in error

-- 3 fails, and 2 knows of it; 1, which does not, writes at both and commits. All come back; then 1 trips, and what 2 has of it comes back
abbrev pub written_in_error : List (List ℕ)
written_in_error =
    send 1 2 30 ∷ deliver 1 2 ∷ row_cuts ++ writes 2 ++ writes 3
    ++ fail 3 ∷ writes 1
    ++ saved 1 ∷ saved 2 ∷ saved 3
    ∷ deliver 2 1 ∷ deliver 1 2 ∷ deliver 1 2
    ∷ fetches 1 ++ fetches 2
    ++ restored 2 ∷ restored 1 ∷ deliver 1 2 ∷ deliver 2 1 ∷ deliver 2 1
    ∷ []

abbrev pub partner_in_error : Example
partner_in_error = record {
  file = near_home;
  before = steps (written_in_error ++ send 1 2 8 ∷ []);
  since = steps (trip 1 ∷ deliver 2 1 ∷ deliver 2 1 ∷ deliver 1 2 ∷ fetches 1 ++ fetches 2 ++ restored 1 ∷ []);
  last = stepping (restored 2);
  coordinator = 1;
}

abbrev pub partner_in_error_finds : Found
partner_in_error_finds = record {
  loaded = 0;
  taken = true;
  ended = true;
  place = Some (AtTripped 0);
  committed = 1;
  left = 1;
  begun = false;
  stands = false;
  by = 0;
  took = [] ∷ (to_a 30 ∷ []) ∷ [] ∷ [];
  standing = image_with 62 0 ∷ image_with 80 0 ∷ image_with 20 0 ∷ [];
  held = some (image_with 70 0) ∷ some (image_with 80 0) ∷ none ∷ [];
  gone = none ∷ none ∷ some (image_with 20 0) ∷ [];
}

-- "19 home in error, recovering or recovered" is asked of the home alone: 1 would write at 2, which knows of the fail, and at itself
abbrev pub home_alone : Run
home_alone = last_of middle_home (row_cuts ++ fail 3 ∷ []) (write 1) 19

-- ---- 8: a store's third trip is its fail

abbrev pub third_trip_of_a_store : Example
third_trip_of_a_store = record {
  file = pair;
  before = steps (send 1 2 30 ∷ deliver 1 2 ∷ pair_committed ++ deliver 1 2 ∷ first_back ++ first_back ++ send 1 2 5 ∷ []);
  since = steps (trip 1 ∷ fetches 2);
  last = stepping (restored 2);
  coordinator = 1;
}

abbrev pub third_trip_of_a_store_finds : Found
third_trip_of_a_store_finds = record {
  loaded = 0;
  taken = true;
  ended = true;
  place = Some (AtFailed 0);
  committed = 1;
  left = 1;
  begun = false;
  stands = false;
  by = 0;
  took = [] ∷ (to_a 30 ∷ []) ∷ [];
  standing = image_with 65 0 ∷ image_with 80 0 ∷ [];
  held = none ∷ some (image_with 80 0) ∷ [];
  gone = some (image_with 70 0) ∷ none ∷ [];
}

-- ---- what is held and owed at the end of a run

-- every answer; of each cabinet its image, the cabinets on which it owes a report, and its image in the first point (blank where there is none)
pub record Seen : Type 0 where
  pub answers : List ℕ
  pub images : List Image
  pub owed : List Marks
  pub kept : List Image

pub record Sight : Type 0 where
  pub site : Site
  pub answers : List ℕ

-- the turn is handed on, so that it is computed once
abbrev pub sight_on : Sight → Turn → Sight
sight_on s t = record { site = t.site; answers = s.answers ++ t.answer ∷ [] }

unfoldable pub look : Sight → List Operation → Sight
look s [] = s
look s (x ∷ xs) = look (sight_on s (operate s.site x)) xs

abbrev pub seen_of : ℕ → Sight → Seen
seen_of n s = record {
  answers = s.answers;
  images = for_each n (λ c. (cabinet s.site.group c).image);
  owed = for_each n (λ c. (cabinet s.site.group c).owed);
  kept = for_each n (image_at (point_at s.site.points 0));
}

-- a run, and what the paper gives
pub record Looked : Type 0 where
  pub file : List ℕ
  pub operations : List Operation
  pub finds : Seen

unfoldable pub seen : Looked → Seen
seen x = seen_of (cabinet_count x.file) (look (record { site = record { group = (load x.file).group; points = no_points }; answers = [] }) x.operations)

abbrev pub AsSeen : Looked → Type 0
AsSeen x = seen x ≡ x.finds

-- every operation taken, no report owed and no point
abbrev pub all_taken : List ℕ → List (List ℕ) → List Image → Looked
all_taken file records images = record {
  file = file;
  operations = steps records;
  finds = record {
    answers = replicate (length records) 0;
    images = images;
    owed = replicate (cabinet_count file) no_marks;
    kept = replicate (cabinet_count file) blank_image;
  };
}

-- ---- slots taken, and reports passed on at a trip

-- 3, the home of all, trips before 1 has written; its reports on 2 and 3 are taken from 1, and so is the one on 1: the commit. All come back,
-- and 1 has its 70 amperes by its own slots
abbrev pub home_back : List (List ℕ)
home_back =
    send 1 2 30 ∷ deliver 1 2 ∷ row_cuts ++ writes 2 ++ writes 3
    ++ trip 3 ∷ writes 1
    ++ saved 1 ∷ saved 2 ∷ saved 3
    ∷ deliver 2 1 ∷ deliver 1 2 ∷ deliver 1 2 ∷ deliver 2 3 ∷ deliver 2 3 ∷ deliver 3 2
    ∷ fetches 1 ++ fetches 2 ++ fetches 3
    ++ restored 2 ∷ restored 3 ∷ restored 1
    ∷ deliver 1 2 ∷ deliver 2 1 ∷ deliver 2 1 ∷ deliver 2 3 ∷ deliver 3 2 ∷ deliver 3 2
    ∷ send 1 2 70
    ∷ []

-- then 2 trips, and 1 fetches from 3, which is home again: the slots that 3 took of its own cabinets
abbrev pub slots_taken : Looked
slots_taken =
    all_taken far_home (home_back ++ trip 2 ∷ deliver 1 2 ∷ deliver 1 2 ∷ deliver 2 1 ∷ fetches 1)
    (image_with 70 0 ∷ image_with 0 0 ∷ image_with 20 0 ∷ [])

-- ---- a home that comes back while its partner does not know of the fault

-- 1 has links to the stores 2 and 3, which are partners; 3 is home of 1, 1 of 2, and 2 of 3
abbrev pub crossed : List ℕ
crossed = file_with (entry 3 1 100 0 ∷ entry 1 1 50 3 ∷ entry 2 1 20 2 ∷ []) (1 ∷ 2 ∷ 1 ∷ 3 ∷ [])

-- 2 trips and has its image from 1. Until it reports 3 writes at itself, and owes a report on itself then; so it does on 1
abbrev pub until_reported : List (List ℕ)
until_reported =
    begin 1 ∷ deliver 1 2 ∷ deliver 1 3 ∷ deliver 2 1 ∷ deliver 3 1
    ∷ writes 1 ++ replicate 3 (write 3)
    ++ trip 2 ∷ deliver 1 2 ∷ deliver 1 2 ∷ deliver 2 1
    ∷ fetches 2 ++ write 3 ∷ []

-- 2 reports and is home again: nobody owes a report on 3, and 3 still owes the one on 1. A report kept by 3 would be read by nobody while 2 is home, and
-- forgotten where 3 enters error: so the marks show it, and no answer does
abbrev pub report_dropped : Looked
report_dropped = record {
  file = crossed;
  operations = steps (until_reported ++ restored 2 ∷ saved 3 ∷ []);
  finds = record {
    answers = replicate (length until_reported) 0 ++ 0 ∷ 19 ∷ [];
    images = image_with 100 0 ∷ image_with 50 0 ∷ image_with 20 0 ∷ [];
    owed = no_marks ∷ no_marks ∷ set no_marks 0 true ∷ [];
    kept = replicate 3 blank_image;
  };
}

-- .. and what is not written by then is refused, since 2 is in recovered
abbrev pub home_again : Run
home_again =
    asked_last crossed
    (begin 1 ∷ deliver 1 2 ∷ deliver 1 3 ∷ deliver 2 1 ∷ deliver 3 1
    ∷ write 3 ∷ trip 2 ∷ deliver 1 2 ∷ deliver 1 2 ∷ deliver 2 1
    ∷ fetches 2 ++ write 3 ∷ restored 2 ∷ [])
    (write 3 ∷ restored 2 ∷ []) (19 ∷ 19 ∷ [])

-- ---- pieces at both while the partner is in error, as it has them

abbrev pub both_written : Looked
both_written =
    all_taken near_home (written_in_error ++ trip 1 ∷ deliver 2 1 ∷ deliver 2 1 ∷ deliver 1 2 ∷ fetches 1)
    (image_with 70 0 ∷ image_with 80 0 ∷ image_with 20 0 ∷ [])

-- ---- points: a return at both stores, and a point taken with the home failed

-- after the return of `return_at_both` 1 fails; 2 comes back with the point's 50 amperes, makes a note and saves it. The point that is taken then
-- has the image that 2 has of itself, and of 1 the one that the return set
abbrev pub point_without_home : Looked
point_without_home = record {
  file = pair;
  operations =
      return_at_both.before ++ return_at_both.since ++ return_at_both.last
      ∷ steps (note 2 31 7 ∷ begin 2 ∷ writes 2 ++ saved 2 ∷ note 2 31 8 ∷ []) ++ pointing (named 65) ∷ [];
  finds = record {
    answers = replicate 35 0;
    images = image_with 96 0 ∷ image_with 50 8 ∷ [];
    owed = replicate 2 no_marks;
    kept = image_with 100 0 ∷ image_with 50 7 ∷ [];
  };
}

-- ---- reports that nobody owes

-- "(none where it enters error in that step)": 2 is next to 3, the home, and 1 is not; at a fail and at a trip
abbrev pub none_at_fail : Run
none_at_fail = asked_last middle_partner (row_cuts ++ writes 1 ++ writes 2 ++ fail 3 ∷ []) (saved 1 ∷ saved 2 ∷ []) (19 ∷ 19 ∷ [])

abbrev pub none_at_trip : Run
none_at_trip = asked_last middle_partner (row_cuts ++ writes 1 ++ writes 2 ++ trip 3 ∷ []) (saved 1 ∷ saved 2 ∷ []) (19 ∷ 19 ∷ [])

-- with a report that 2 owes over the recovery the next save would be committed with nothing written: a hole
abbrev pub old_report : Run
old_report =
    last_of pair (begin 1 ∷ deliver 1 2 ∷ writes 2 ++ fail 1 ∷ unsure 2 ∷ fetches 2 ++ restored 2 ∷ begin 2 ∷ []) (saved 2) 19

-- a report on one that tripped or failed meanwhile counts as ever; here at the fail of the home, as in `home_fails`
abbrev pub passed_on : Run
passed_on = last_of far_home (row_cuts ++ writes 1 ++ writes 2 ++ writes 3 ++ saved 1 ∷ fail 3 ∷ saved 3 ∷ saved 2 ∷ []) (saved 2) 19

-- ---- the runs

abbrev pub AllLooked : Type 0
AllLooked = AsSeen slots_taken × AsSeen report_dropped × AsSeen both_written × AsSeen point_without_home

abbrev pub AllAnswered : Type 0
AllAnswered =
    AsWritten round × AsWritten round_at_fail × AsWritten home_alone × AsWritten home_again × AsWritten none_at_fail × AsWritten none_at_trip
    × AsWritten old_report × AsWritten passed_on

-- ---- cases

-- two cabinets, 1 the home of both, with these marks and partners
abbrev pub two : ℕ → ℕ → ℕ → ℕ → List ℕ
two mark partner mark' partner' = file_with (entry 1 mark 100 partner ∷ entry 1 mark' 50 partner' ∷ []) (1 ∷ 2 ∷ [])

-- four stores with these partners
abbrev pub four_stores : ℕ → ℕ → ℕ → ℕ → List ℕ
four_stores p q r s = file_with (entry 1 1 1 p ∷ entry 2 1 2 q ∷ entry 3 1 3 r ∷ entry 4 1 4 s ∷ []) (1 ∷ 2 ∷ 2 ∷ 3 ∷ 3 ∷ 4 ∷ [])

-- 2 fails, and 1 comes back
abbrev pub second_gone : List (List ℕ)
second_gone = fail 2 ∷ fetches 1 ++ restored 1 ∷ []

abbrev pub partner_cases : List Case
partner_cases =
    -- "A store cabinet may name one partner store .., 0 for none, and partners name each other"
    loads (two 1 2 1 1) 0
    ∷ loads (two 1 0 1 0) 0
    ∷ loads (two 1 0 0 0) 0
    ∷ loads (four_stores 3 4 1 2) 0
    ∷ loads (four_stores 0 4 0 2) 0
    -- "4 also for a partner that is itself,"
    ∷ loads (two 1 1 1 0) 4
    ∷ loads (two 1 0 1 2) 4
    -- "not a store,"
    ∷ loads (two 1 2 0 1) 4
    ∷ loads (two 1 2 0 0) 4
    -- .. nor any cabinet
    ∷ loads (two 1 3 1 0) 4
    ∷ loads (two 1 255 1 0) 4
    -- "or not mutual"
    ∷ loads (two 1 2 1 0) 4
    ∷ loads (two 1 0 1 1) 4
    ∷ loads (four_stores 2 3 4 1) 4
    ∷ loads (four_stores 2 1 2 0) 4
    -- a cabinet that is no store names none
    ∷ loads (two 1 0 0 1) 4
    -- 3 comes before 4, and 4 before 5
    ∷ loads (set (two 1 1 1 0) 9 31) 3
    ∷ loads (set (two 1 1 1 0) 29 3) 4
    ∷ loads (set (two 1 2 1 1) 29 3) 5
    -- version 2 has the same entries
    ∷ loads (header_two 2 1 ++ entry 1 1 100 2 ++ entry 1 1 50 1 ++ 1 ∷ 2 ∷ []) 0
    ∷ loads (header_two 2 1 ++ entry 1 1 100 2 ++ entry 1 1 50 0 ++ 1 ∷ 2 ∷ []) 4
    -- entries of eight octets are refused
    ∷ loads (two_octets 2 ++ two_octets 1 ++ two_octets 10 ++ two_octets 26 ++ two_octets 28 ++ 1 ∷ 1 ∷ replicate 6 0 ++ 1 ∷ 0 ∷ replicate 6 0 ++ 1 ∷ 2 ∷ []) 3
    -- "for a store the group crashes only when neither is left": both are there
    ∷ answers pair [] (fail 1) 0
    ∷ answers pair [] (trip 1) 0
    ∷ answers pair [] (fail 2) 0
    ∷ answers pair [] (trip 2) 0
    -- a store without a partner, beside another store
    ∷ answers (two 1 0 1 0) [] (fail 1) 50
    ∷ answers (two 1 0 1 0) [] (trip 2) 50
    -- one whose partner failed
    ∷ answers pair second_gone (fail 1) 50
    ∷ answers pair second_gone (trip 1) 50
    -- one whose partner is away, or has come back
    ∷ answers pair (trip 2 ∷ []) (fail 1) 50
    ∷ answers pair (trip 2 ∷ []) (trip 1) 50
    ∷ answers pair second_back (fail 1) 0
    ∷ answers pair second_back (trip 1) 0
    -- other causes are as for any cabinet: 2 of a row joins the others, and somebody recovers
    ∷ answers middle_home [] (fail 2) 50
    ∷ answers middle_home [] (trip 2) 0
    ∷ answers near_home (fail 3 ∷ []) (fail 1) 50
    -- "12 a failed" after a store's third trip
    ∷ answers pair (first_back ++ first_back ++ trip 1 ∷ []) (begin 1) 12
    -- .. which crashes the group where its fail would: its partner has failed, so that the first does too
    ∷ answers pair (first_back ++ first_back ++ second_gone) (trip 1) 50
    -- the one that tripped has its image from its partner, which leads then
    ∷ record { asked = ListingOf pair (trip 1); expected = ascii "step 1 0\ncab 1 error u 0 0 0\ncab 2 recovering 0 50 0 0\n" }
    ∷ record {
      asked = ListingOf pair (in_arow first_back ++ begin 1 ++ begin 2);
      expected = ascii "step 1 0\nstep 2 0\nstep 3 0\nstep 4 0\nstep 5 0\nstep 6 0\nstep 7 0\nstep 8 0\nstep 9 0\nstep 10 0\nstep 11 0\nstep 12 0\nstep 13 0\nstep 14 0\nstep 15 0\nstep 16 0\nstep 17 0\nstep 18 14\nstep 19 0\ncab 1 normal 0 100 0 0\ncab 2 checkp-begin 0 50 0 0\n";
    }
    ∷ []
