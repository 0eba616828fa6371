-- Five runs in which a coordinator ends a recovery, so that the claim of `Restored` is about something: each as a file and records,
-- with what is found in it. The first restores a committed save, the second the save before one that is passed over, the third
-- follows a link fault that the check finds, the fourth is a second recovery, of a save made after the first one, and the fifth
-- restores a save that was restored once before its coordinator failed. None restores the start.
use Rattle.std.specs.Prelude.{ℕ, zero, suc, Bool, true, false, cond, ◌&&◌, List, [], ◌∷◌, ◌++◌, length, replicate, eqb, Some}
use Rattle.std.proofs.Math.Option.{Option, none, some}
use Rattle.outlet.specs.declared.Outlet.TheVariants.{A, B}
use Rattle.packet.specs.declared.PacketVersion.TheVariants.{One}
use Rattle.packet.specs.declared.Payload.{Payload}
use Rattle.packet.specs.Packet.{packed}
use Rattle.packet.specs.declared.Place.TheVariants.{Failed as AtFailed, Link as AtLink}
use Rattle.cabinet.specs.Alarm.{Alarm}
use Rattle.image.specs.declared.Image.{Image}
use Rattle.state.specs.State.{works}
use Rattle.group.specs.declared.Group.{Group}
use Rattle.group.specs.Group.{cabinet, state_of}
use Rattle.load.specs.Load.{load, cabinet_count}
use Rattle.protocol.specs.History.{Cut, History, Operation, stepping, steps, World, advance, opening, ends, latest}
use Rattle.protocol.specs.Restored.{taken_in, counted}
use Rattle.protocol.specs.Evening.{operate}
use Rattle.protocol.specs.Marked.{two_octets, file_of, record_of, send, begin, deliver, fetch, restored, fail}

-- ---- records

abbrev pub note : ℕ → ℕ → ℕ → List ℕ
note a p q = record_of 2 a 0 p q

-- all four pieces
abbrev pub writes : ℕ → List (List ℕ)
writes a = replicate 4 (record_of 5 a 0 0 0)

abbrev pub saved : ℕ → List ℕ
saved a = record_of 6 a 0 0 0

abbrev pub fetches : ℕ → List (List ℕ)
fetches a = replicate 4 (fetch a)

abbrev pub damage : ℕ → ℕ → ℕ → ℕ → List ℕ
damage a b p q = record_of 11 a b p q

abbrev pub unsure : ℕ → List ℕ
unsure a = record_of 14 a 0 0 0

-- ---- a run, and what is found in it

-- the operations up to the fault, those from the fault on, and the one in which the coordinator (numbered from 0) ends the recovery
pub record Example : Type 0 where
  pub file : List ℕ
  pub before : List Operation
  pub since : List Operation
  pub last : Operation
  pub coordinator : ℕ

-- those before the last one
abbrev pub operations_of : Example → List Operation
operations_of e = e.before ++ e.since

-- the run so far: whether every operation was taken, and what they made of the file. One walk serves all that is found.
pub record Walk : Type 0 where
  pub taken : Bool
  pub world : World

abbrev pub walk_on : Walk → Operation → Walk
walk_on w x = record {
  taken = w.taken && eqb (operate (record { group = w.world.group; points = w.world.points }) x).answer 0;
  world = advance w.world x;
}

unfoldable pub walk : Walk → List Operation → Walk
walk w [] = w
walk w (x ∷ xs) = walk (walk_on w x) xs

abbrev pub set_out : Example → Walk
set_out e = record { taken = true; world = opening (load e.file).group }

-- at the fault, before the last operation, and after it
abbrev pub walk_to_fault : Example → Walk
walk_to_fault e = walk (set_out e) e.before

abbrev pub walk_near : Example → Walk
walk_near e = walk (walk_to_fault e) e.since

abbrev pub walk_to_end : Example → Walk
walk_to_end e = walk_on (walk_near e) e.last

-- what is found; a list has one place for each cabinet
pub record Found : Type 0 where
  -- the answer of load, whether every operation is taken, and whether the last one ends the recovery
  pub loaded : ℕ
  pub taken : Bool
  pub ended : Bool
  -- the place that the coordinator entered error for
  pub place : Alarm
  -- the saves committed and the returns by the fault, and those left at the end: one passed over "counts as never committed"
  pub committed : ℕ
  pub left : ℕ
  -- before the last operation: a begin was taken since the start or the last recovery's end, and a save committed since then stands
  pub begun : Bool
  pub stands : Bool
  -- the save that the rule gives: its coordinator, numbered from 0 (the start has 8), and the packets that each had taken by its cut
  pub by : ℕ
  pub took : List (List Payload)
  -- the images at the fault; at the end those that the working cabinets hold, and those that count for the failed ones
  pub standing : List Image
  pub held : List (Option Image)
  pub gone : List (Option Image)

-- what was taken by a cut from the first n cabinets, from the first one first
abbrev pub taken_from : ℕ → Option Cut → List Payload
taken_from zero x = []
taken_from (suc n) x = taken_from n x ++ taken_in x n

-- the packets that cabinet c of n had taken by its cut
abbrev pub took_in : ℕ → History → ℕ → List Payload
took_in n h c = taken_from n ((latest h).cut c)

abbrev pub held_by : Group → ℕ → Option Image
held_by g c = cond (works (state_of g c)) (some (cabinet g c).image) none

abbrev pub gone_of : History → Group → ℕ → Option Image
gone_of h g c = cond (works (state_of g c)) none (counted h g c)

-- one for each of the first n cabinets
abbrev pub for_each : {T : Type 0} → ℕ → (ℕ → T) → List T
for_each zero f = []
for_each (suc n) f = for_each n f ++ f n ∷ []

abbrev pub size_of : Example → ℕ
size_of e = cabinet_count e.file

abbrev pub found_at : Example → World → World → Walk → Found
found_at e fault near end = record {
  loaded = (load e.file).answer;
  taken = end.taken;
  ended = works (state_of near.group e.coordinator) && ends near.group end.world.group e.coordinator;
  place = (cabinet near.group e.coordinator).phase.alarm;
  committed = length fault.history.saves;
  left = length end.world.history.saves;
  begun = near.history.begun;
  stands = near.history.standing;
  by = (latest end.world.history).by;
  took = for_each (size_of e) (took_in (size_of e) end.world.history);
  standing = for_each (size_of e) (λ c. (cabinet fault.group c).image);
  held = for_each (size_of e) (held_by end.world.group);
  gone = for_each (size_of e) (gone_of end.world.history end.world.group);
}

-- Each part of the walk is handed on, so that it is computed once.
abbrev pub found_near : Example → Walk → Walk → Found
found_near e fault near = found_at e fault.world near.world (walk_on near e.last)

abbrev pub found_from : Example → Walk → Found
found_from e fault = found_near e fault (walk fault e.since)

unfoldable pub found : Example → Found
found e = found_from e (walk_to_fault e)

-- what a packet of version 1 for an outlet carries
abbrev pub to_a : ℕ → Payload
to_a q = packed One A q

abbrev pub to_b : ℕ → Payload
to_b q = packed One B q

-- an image with a booking at outlet A and a note in its last octet
abbrev pub image_with : ℕ → ℕ → Image
image_with booking last = record { octets = two_octets booking ++ replicate 29 0 ++ last ∷ [] }

-- ---- a ring of three cabinets, 1 the store and home of all, and a save of it

abbrev pub ring : List ℕ
ring = file_of 1 (100 ∷ 50 ∷ 20 ∷ []) (1 ∷ 2 ∷ 1 ∷ 3 ∷ 2 ∷ 3 ∷ [])

-- a save up to its commit; what 3 sent to 1 is under way when it begins
abbrev pub ring_save : List (List ℕ)
ring_save =
    -- "the coordinator enters checkp-begin and puts checkp on all lines in use"
    begin 1
    -- "In checkp-begin, normal packets are taken from neighbours whose checkp has not come"
    ∷ deliver 3 1
    -- "A cabinet in normal that receives checkp compares first, then does the same."
    ∷ deliver 1 2 ∷ deliver 1 3
    -- "With checkp from all neighbours in use .. the cabinet enters checkpointing in that step: this is its cut."
    ∷ deliver 2 1 ∷ deliver 3 1 ∷ deliver 3 2 ∷ deliver 2 3
    -- "With piece 3 the cabinet enters checkpointed"
    ∷ writes 1 ++ writes 2 ++ writes 3
    -- "When the coordinator has this save's reports for every cabinet in its table it .. puts resume everywhere: the commit."
    ++ saved 1 ∷ saved 2 ∷ saved 3 ∷ []

-- from the bookings 100, 50 and 20 to 80, 75 and 15; 2 makes a note
abbrev pub ring_committed : List (List ℕ)
ring_committed = send 1 2 30 ∷ deliver 1 2 ∷ send 2 3 5 ∷ deliver 2 3 ∷ note 2 31 9 ∷ send 3 1 10 ∷ ring_save

-- "A cabinet in checkpointed that receives resume .. puts resume on its other lines. Resume in any other state .. is dropped."
abbrev pub ring_resumed : List (List ℕ)
ring_resumed = deliver 1 2 ∷ deliver 1 3 ∷ deliver 2 3 ∷ deliver 3 2 ∷ []

abbrev pub ring_saved : List (List ℕ)
ring_saved = ring_committed ++ ring_resumed

-- ---- 1: a recovery after a committed save

abbrev pub after_save : Example
after_save = record {
  file = ring;
  -- amperes and a note of which the save knows nothing; what 3 sends is never taken
  before = steps (ring_saved ++ send 1 2 40 ∷ deliver 1 2 ∷ note 2 31 4 ∷ send 3 2 7 ∷ []);
  since =
      -- "all its neighbours over links in use enter error in the same step", and having a known version go on to recovering
      steps (fail 3
      -- fault, which is noted, and recover, which is dropped in recovering: both ways
      ∷ deliver 1 2 ∷ deliver 1 2 ∷ deliver 2 1 ∷ deliver 2 1
      -- "After piece 3 the cabinet enters recovered."
      ∷ fetches 1 ++ fetches 2
      ++ restored 1 ∷ []);
  -- "When the coordinator, in recovered, has restored reports from all in its table, it enters normal"
  last = stepping (restored 2);
  coordinator = 0;
}

abbrev pub after_save_finds : Found
after_save_finds = record {
  loaded = 0;
  taken = true;
  ended = true;
  place = Some (AtFailed 2);
  committed = 1;
  left = 1;
  begun = true;
  stands = true;
  by = 0;
  took = (to_a 10 ∷ []) ∷ (to_a 30 ∷ []) ∷ (to_a 5 ∷ []) ∷ [];
  standing = image_with 40 0 ∷ image_with 115 4 ∷ image_with 8 0 ∷ [];
  held = some (image_with 80 0) ∷ some (image_with 75 9) ∷ none ∷ [];
  gone = none ∷ none ∷ some (image_with 15 0) ∷ [];
}

-- ---- 2: a recovery after a save passed over

-- a row of three, 2 the store and home of all: the coordinator is no store
abbrev pub row : List ℕ
row = file_of 2 (100 ∷ 50 ∷ 20 ∷ []) (1 ∷ 2 ∷ 2 ∷ 3 ∷ [])

-- a save of the row, up to its commit; 3 has one neighbour, so that the checkp it takes is its cut
abbrev pub row_committed : List (List ℕ)
row_committed =
    begin 1 ∷ deliver 1 2 ∷ deliver 2 1 ∷ deliver 2 3 ∷ deliver 3 2
    ∷ writes 1 ++ writes 2 ++ writes 3
    ++ saved 1 ∷ saved 2 ∷ saved 3 ∷ []

abbrev pub passed_over : Example
passed_over = record {
  file = row;
  -- the first save has 70, 80 and 20, and its resume is taken; the second has 61, 97 and 12
  before =
      steps (send 1 2 30 ∷ deliver 1 2 ∷ note 3 31 6
      ∷ row_committed ++ deliver 1 2 ∷ deliver 2 3
      ∷ send 3 2 8 ∷ deliver 3 2 ∷ send 1 2 9 ∷ deliver 1 2 ∷ note 3 31 7
      ∷ row_committed);
  since =
      -- "its coordinator failed before any working cabinet took that resume": 2 enters error with unknown version
      steps (fail 1
      -- "A cabinet in normal or a saving state that receives fault enters error for that place, and has heard that neighbour."
      ∷ deliver 2 3 ∷ deliver 3 2
      -- both report to 2, which with the last report "sets its version to old and goes on as 01 says"
      ∷ unsure 2 ∷ unsure 3
      -- "stay in error until recover comes, then set the version to the one it carries and do the same"; the second is dropped
      ∷ deliver 2 3 ∷ deliver 3 2
      ∷ fetches 2 ++ fetches 3
      ++ restored 3 ∷ []);
  -- the coordinator is 2 now, "the next higher number in use"
  last = stepping (restored 2);
  coordinator = 1;
}

abbrev pub passed_over_finds : Found
passed_over_finds = record {
  loaded = 0;
  taken = true;
  ended = true;
  place = Some (AtFailed 0);
  committed = 2;
  left = 1;
  begun = true;
  stands = false;
  by = 0;
  took = [] ∷ (to_a 30 ∷ []) ∷ [] ∷ [];
  standing = image_with 61 0 ∷ image_with 97 0 ∷ image_with 12 7 ∷ [];
  held = none ∷ some (image_with 80 0) ∷ some (image_with 20 6) ∷ [];
  gone = some (image_with 70 0) ∷ none ∷ none ∷ [];
}

-- ---- 3: a recovery after a link fault that the check finds

abbrev pub link_fault : Example
link_fault = record {
  file = ring;
  before =
      -- damage makes 7 amperes of the 6 that 2 sends, and 3 adds them: 80, 69 and 22 are more than the total
      steps (ring_saved ++ send 2 3 6 ∷ damage 2 3 0 1 ∷ deliver 2 3
      -- a save begins, and 2 puts its checkps
      ∷ begin 1 ∷ deliver 1 2 ∷ []);
  since =
      -- "unequal values mean a link fault": 3 finds it at the checkp from 2
      steps (deliver 2 3
      -- the fault goes from 3 to 1 and from 1 to both others; 2, which has struck its end of the link, tells 1
      ∷ deliver 3 1 ∷ deliver 1 2 ∷ deliver 1 3 ∷ deliver 2 1
      ∷ fetches 1 ++ fetches 2 ++ fetches 3
      ++ restored 1 ∷ restored 2 ∷ []);
  last = stepping (restored 3);
  coordinator = 0;
}

abbrev pub link_fault_finds : Found
link_fault_finds = record {
  loaded = 0;
  taken = true;
  ended = true;
  place = Some (AtLink 1 2);
  committed = 1;
  left = 1;
  begun = true;
  stands = true;
  by = 0;
  took = (to_a 10 ∷ []) ∷ (to_a 30 ∷ []) ∷ (to_a 5 ∷ []) ∷ [];
  standing = image_with 80 0 ∷ image_with 69 9 ∷ image_with 22 0 ∷ [];
  held = some (image_with 80 0) ∷ some (image_with 75 9) ∷ some (image_with 15 0) ∷ [];
  gone = none ∷ none ∷ none ∷ [];
}

-- ---- 4: a second recovery

-- four cabinets, 1 the store and home of all; 3 hangs on 1 alone
abbrev pub four_cabinets : List ℕ
four_cabinets = file_of 1 (100 ∷ 50 ∷ 20 ∷ 30 ∷ []) (1 ∷ 2 ∷ 1 ∷ 3 ∷ 1 ∷ 4 ∷ 2 ∷ 4 ∷ [])

-- a save of all four with 75, 45, 50 and 30, and its resume taken
abbrev pub four_saved : List (List ℕ)
four_saved =
    send 1 3 30 ∷ deliver 1 3 ∷ send 2 1 5 ∷ deliver 2 1
    ∷ begin 1 ∷ deliver 1 2 ∷ deliver 1 3 ∷ deliver 1 4 ∷ deliver 2 1 ∷ deliver 3 1 ∷ deliver 4 1 ∷ deliver 4 2 ∷ deliver 2 4
    ∷ writes 1 ++ writes 2 ++ writes 3 ++ writes 4
    ++ saved 1 ∷ saved 2 ∷ saved 3 ∷ saved 4
    ∷ deliver 1 2 ∷ deliver 1 3 ∷ deliver 1 4 ∷ deliver 2 4 ∷ deliver 4 2
    ∷ []

-- 3 fails and the others come back from that save; its last sending, 7 to 1, is undone
abbrev pub third_lost : List (List ℕ)
third_lost =
    send 3 1 7 ∷ deliver 3 1 ∷ fail 3
    ∷ deliver 1 2 ∷ deliver 1 4 ∷ deliver 2 1 ∷ deliver 4 1 ∷ deliver 4 2 ∷ deliver 2 4
    ∷ fetches 1 ++ fetches 2 ++ fetches 4
    ++ restored 2 ∷ restored 4 ∷ restored 1
    -- on each line a recover, which is dropped, and the resume that ends the recovery at 2 and 4
    ∷ deliver 1 2 ∷ deliver 1 2 ∷ deliver 1 4 ∷ deliver 1 4
    ∷ deliver 2 1 ∷ deliver 2 1 ∷ deliver 4 1 ∷ deliver 4 1 ∷ deliver 2 4 ∷ deliver 2 4 ∷ deliver 4 2 ∷ deliver 4 2
    ∷ []

-- a save of the three that are left with 66, 53 and 31
abbrev pub three_committed : List (List ℕ)
three_committed =
    send 1 2 11 ∷ deliver 1 2 ∷ send 2 4 3 ∷ deliver 2 4 ∷ send 4 1 2
    ∷ begin 1 ∷ deliver 4 1 ∷ deliver 1 2 ∷ deliver 1 4 ∷ deliver 2 1 ∷ deliver 4 1 ∷ deliver 2 4 ∷ deliver 4 2
    ∷ writes 1 ++ writes 2 ++ writes 4
    ++ saved 1 ∷ saved 2 ∷ saved 4 ∷ []

abbrev pub three_saved : List (List ℕ)
three_saved = three_committed ++ deliver 1 2 ∷ deliver 1 4 ∷ deliver 2 4 ∷ deliver 4 2 ∷ []

abbrev pub second_recovery : Example
second_recovery = record {
  file = four_cabinets;
  before = steps (four_saved ++ third_lost ++ three_saved ++ send 2 1 4 ∷ deliver 2 1 ∷ []);
  since = steps (fail 4 ∷ deliver 1 2 ∷ deliver 2 1 ∷ fetches 1 ++ fetches 2 ++ restored 2 ∷ []);
  last = stepping (restored 1);
  coordinator = 0;
}

abbrev pub second_recovery_finds : Found
second_recovery_finds = record {
  loaded = 0;
  taken = true;
  ended = true;
  place = Some (AtFailed 3);
  committed = 2;
  left = 2;
  begun = true;
  stands = true;
  by = 0;
  -- "Packets for a cut count from the start or the end of the last recovery before that save's begin": not the 30 and the 5
  took = (to_a 2 ∷ []) ∷ (to_a 11 ∷ []) ∷ [] ∷ (to_a 3 ∷ []) ∷ [];
  standing = image_with 70 0 ∷ image_with 49 0 ∷ image_with 43 0 ∷ image_with 31 0 ∷ [];
  held = some (image_with 66 0) ∷ some (image_with 53 0) ∷ none ∷ none ∷ [];
  -- "A failed cabinet's image is its image in the save restored after it failed": that of 3 is in the first save
  gone = none ∷ none ∷ some (image_with 50 0) ∷ some (image_with 31 0) ∷ [];
}

-- ---- 5: a save restored once, and then its coordinator fails

-- as `ring`, but 2 is the store and home of all
abbrev pub other_ring : List ℕ
other_ring = file_of 2 (100 ∷ 50 ∷ 20 ∷ []) (1 ∷ 2 ∷ 1 ∷ 3 ∷ 2 ∷ 3 ∷ [])

abbrev pub restored_before : Example
restored_before = record {
  file = other_ring;
  before =
      -- a save with 75, 80 and 15, up to its commit
      steps (send 1 2 30 ∷ deliver 1 2 ∷ send 3 1 5 ∷ deliver 3 1
      ∷ begin 1 ∷ deliver 1 2 ∷ deliver 1 3 ∷ deliver 2 1 ∷ deliver 3 1 ∷ deliver 3 2 ∷ deliver 2 3
      ∷ writes 1 ++ writes 2 ++ writes 3
      ++ saved 1 ∷ saved 2 ∷ saved 3
      -- 3 fails before anybody takes the resume; 2 has the version from the recover of 1
      ∷ fail 3 ∷ deliver 1 2 ∷ deliver 1 2 ∷ deliver 2 1
      ∷ fetches 1 ++ fetches 2
      ++ restored 2 ∷ restored 1 ∷ deliver 1 2
      ∷ send 1 2 6 ∷ deliver 1 2 ∷ []);
  -- "If its coordinator failed before any working cabinet took that resume or was restored from that save": it was restored
  since = steps (fail 1 ∷ fetches 2);
  last = stepping (restored 2);
  coordinator = 1;
}

abbrev pub restored_before_finds : Found
restored_before_finds = record {
  loaded = 0;
  taken = true;
  ended = true;
  place = Some (AtFailed 0);
  committed = 1;
  left = 1;
  begun = false;
  stands = false;
  by = 0;
  took = (to_a 5 ∷ []) ∷ (to_a 30 ∷ []) ∷ [] ∷ [];
  standing = image_with 69 0 ∷ image_with 86 0 ∷ image_with 15 0 ∷ [];
  held = none ∷ some (image_with 80 0) ∷ none ∷ [];
  gone = some (image_with 75 0) ∷ none ∷ some (image_with 15 0) ∷ [];
}
