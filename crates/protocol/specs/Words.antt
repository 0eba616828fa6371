-- Closed runs of document 02, card 8: what the question answers on the way and what the history says there, what the history notes of an entry
-- into error, and lines that the program prints.
use Rattle.std.specs.Prelude.{ℕ, ◌≡◌, Bool, true, false, ◌&&◌, ◌||◌, List, [], ◌∷◌, ◌++◌, map, replicate, eqb}
use Rattle.std.proofs.Math.Option.{Option, some}
use Rattle.state.specs.declared.State.{State}
use Rattle.state.specs.declared.State.TheVariants.{Normal, CheckpBegin}
use Rattle.group.specs.declared.Outcome.{Outcome}
use Rattle.load.specs.Load.{load}
use Rattle.protocol.specs.Entry.{decode, step}
use Rattle.protocol.specs.Listing.{Text, ascii}
use Rattle.protocol.specs.History.{steps, World, stepped, opening}
use Rattle.protocol.specs.Word.{which_word, numbers_of, Entry, Account, nothing_told, watch_decoded, account_after, said}
use Rattle.protocol.specs.Marked.{two_cabinets, record_of, begin, deliver, restored, fail, example_file, example_steps}
use Rattle.protocol.specs.Examples.{writes, saved, fetches, damage, unsure, row, other_ring}
use Rattle.protocol.specs.Tempting.{far_from_three, triangle, struck_at_receiver}
use Rattle.protocol.specs.Trips.{trip, near_row}
use Rattle.protocol.specs.Unsure.{store_between, until_wait, end_after_reports}

-- ---- a run, and what is told on the way

-- the run so far: whether every record was taken ("0 taken, 50 taken and the group crashed"), what the records made of the file, and the
-- history's account. It is `History.run` and `Word.account` in one walk (`Closed.Words.watched_is`)
pub record Watched : Type 0 where
  pub taken : Bool
  pub world : World
  pub account : Account

-- the outcome of a record is handed on, so that it is computed once
abbrev pub watched_by : Watched → List ℕ → Outcome → Watched
watched_by w r o = record {
  taken = w.taken && (eqb o.answer 0 || eqb o.answer 50);
  world = stepped w.world r o;
  account = watch_decoded w.account w.world.group o (decode r);
}

unfoldable pub watched : Watched → List (List ℕ) → Watched
watched w [] = w
watched w (r ∷ rs) = watched (watched_by w r (step w.world.group r)) rs

abbrev pub set_out : List ℕ → Watched
set_out file = record { taken = true; world = opening (load file).group; account = nothing_told }

-- a stop on the way: the records since the one before, whether a recovery in which one has entered recovering is open then, and the numbers told
pub record Stop : Type 0 where
  pub records : List (List ℕ)
  pub under_way : Bool
  pub told : List ℕ

-- in order: nobody has entered yet; in a recovery; after its end; and in a recovery that a crash has cut off
abbrev pub nobody : List (List ℕ) → Stop
nobody rs = record { records = rs; under_way = false; told = 24 ∷ [] }

abbrev pub during : List (List ℕ) → ℕ → ℕ → Stop
during rs i r = record { records = rs; under_way = true; told = i ∷ r ∷ [] }

abbrev pub after : List (List ℕ) → ℕ → ℕ → Stop
after rs i r = record { records = rs; under_way = false; told = i ∷ r ∷ [] }

abbrev pub hidden : List (List ℕ) → Stop
hidden rs = record { records = rs; under_way = true; told = 10 ∷ [] }

-- a run with its stops
pub record Telling : Type 0 where
  pub file : List ℕ
  pub stops : List Stop

-- what is found at a stop: the question's answer is `told`, and what the history says is `said`
pub record Found : Type 0 where
  pub taken : Bool
  pub under_way : Bool
  pub told : List ℕ
  pub said : List ℕ

abbrev pub found_in : Watched → Found
found_in w = record {
  taken = w.taken;
  under_way = w.account.under_way;
  told = numbers_of (which_word w.world.group);
  said = said w.world.group w.account;
}

-- the run up to a stop is handed on, so that it is computed once
abbrev pub found_there : Watched → (Watched → List Found) → List Found
found_there w next = found_in w ∷ next w

unfoldable pub found_from : Watched → List Stop → List Found
found_from w [] = []
found_from w (s ∷ ss) = found_there (watched w s.records) (λ there. found_from there ss)

abbrev pub expected_at : Stop → Found
expected_at s = record { taken = true; under_way = s.under_way; told = s.told; said = s.told }

abbrev pub AsTold : Telling → Type 0
AsTold t = found_from (set_out t.file) t.stops ≡ map expected_at t.stops

-- ---- 1: "it was coordinator before the fault and knew"

-- the coordinator was in normal, so that 3 fits too; the answer stays over the recovery's end
abbrev pub led_in_normal : Telling
led_in_normal = record {
  file = two_cabinets 100 50;
  stops = nobody [] ∷ during (fail 2 ∷ []) 1 1 ∷ after (fetches 1 ++ restored 1 ∷ []) 1 1 ∷ [];
}

-- the coordinator was in checkp-begin, so that 2 fits too; the other neighbour of the failed one enters with it and was in normal
abbrev pub led_in_begin : Telling
led_in_begin = record { file = triangle; stops = during (begin 1 ∷ fail 3 ∷ []) 1 1 ∷ [] }

-- the coordinator was in checkpointed, where no other reason fits
abbrev pub led_past_pieces : Telling
led_past_pieces = record {
  file = two_cabinets 100 50;
  stops =
      nobody (begin 1 ∷ deliver 1 2 ∷ deliver 2 1 ∷ writes 1)
      ∷ during (fail 2 ∷ []) 1 1 ∷ after (fetches 1 ++ restored 1 ∷ []) 1 1 ∷ [];
}

-- ---- 2: "it was in a save with pieces unfinished"

-- in checkp-begin; the coordinator, of lower number and with reason 1, enters later and changes nothing
abbrev pub unfinished_in_begin : Telling
unfinished_in_begin = record {
  file = near_row;
  stops =
      during (begin 1 ∷ deliver 1 2 ∷ fail 3 ∷ []) 2 2
      ∷ during (deliver 2 1 ∷ []) 2 2
      ∷ after (deliver 1 2 ∷ fetches 1 ++ fetches 2 ++ restored 2 ∷ restored 1 ∷ []) 2 2
      ∷ [];
}

-- in checkpointing, with three pieces written
abbrev pub unfinished_in_pieces : Telling
unfinished_in_pieces = record {
  file = near_row;
  stops = during (begin 1 ∷ deliver 1 2 ∷ deliver 2 3 ∷ deliver 3 2 ∷ replicate 3 (record_of 5 2 0 0 0) ++ fail 3 ∷ []) 2 2 ∷ [];
}

-- ---- 3: "it was in normal"

-- a neighbour that does not lead; then a second recovery, which the same cabinet settles for another reason
abbrev pub normal_then_decided : Telling
normal_then_decided = record {
  file = row;
  stops =
      -- 2 enters, and later 1, the coordinator
      during (fail 3 ∷ []) 2 3
      ∷ during (deliver 2 1 ∷ []) 2 3
      ∷ after (deliver 1 2 ∷ fetches 1 ++ fetches 2 ++ restored 2 ∷ restored 1 ∷ []) 2 3
      -- 1 fails in the next save, and 2 is in error with unknown version: "The latest recovery in which one has entered is meant" is still the first
      ∷ after (deliver 1 2 ∷ deliver 1 2 ∷ begin 1 ∷ deliver 1 2 ∷ writes 2 ++ fail 1 ∷ []) 2 3
      -- 2 decides
      ∷ during (unsure 2 ∷ []) 2 4
      ∷ after (fetches 2 ++ restored 2 ∷ []) 2 4
      ∷ [];
}

-- ---- 4: "it decided under the unsure rule"

-- the run of `Unsure.decided_after_trip`: nobody has entered while all three are in error with unknown version; 3 reports last, and 2 decides
abbrev pub decided : Telling
decided = record {
  file = store_between;
  stops =
      nobody until_wait ∷ nobody (unsure 1 ∷ unsure 2 ∷ []) ∷ during (unsure 3 ∷ []) 2 4 ∷ after end_after_reports 2 4 ∷ [];
}

-- ---- "the lowest number where several did in one step", with its own reason

-- neither leads: 2 was in normal, and 4 in checkp-begin
abbrev pub lowest_of_two : Telling
lowest_of_two = record { file = far_from_three; stops = during (begin 1 ∷ deliver 1 4 ∷ fail 3 ∷ []) 2 3 ∷ [] }

-- a coordinator that trips is not told, nor when it goes on later with the lowest number; then a second recovery, with another cabinet and reason
abbrev pub tripped_then_lowest : Telling
tripped_then_lowest = record {
  file = other_ring;
  stops =
      -- 1 led and knew until it tripped; 2, in checkp-begin, and 3, in normal, enter in that step
      during (begin 1 ∷ deliver 1 2 ∷ trip 1 ∷ []) 2 2
      -- 1 goes on by the recover of 2
      ∷ during (deliver 2 1 ∷ deliver 2 1 ∷ []) 2 2
      ∷ after
      (deliver 3 1 ∷ deliver 1 2 ∷ deliver 3 2 ∷ deliver 1 3 ∷ deliver 2 3
      ∷ fetches 1 ++ fetches 2 ++ fetches 3
      ++ restored 1 ∷ restored 3 ∷ restored 2 ∷ [])
      2 2
      -- 1, in normal, and 2, which leads now, enter in one step
      ∷ during (deliver 2 1 ∷ deliver 2 3 ∷ deliver 2 3 ∷ fail 3 ∷ []) 1 3
      ∷ [];
}

-- of two that enter error in one step only the higher number knows: 3 has had the resume, and 2 goes on by the recover of 3
abbrev pub resume_had : Telling
resume_had = record {
  file = other_ring;
  stops =
      nobody
      (begin 1 ∷ deliver 1 2 ∷ deliver 1 3 ∷ deliver 2 1 ∷ deliver 3 1 ∷ deliver 3 2 ∷ deliver 2 3
      ∷ writes 1 ++ writes 2 ++ writes 3
      ++ saved 1 ∷ saved 2 ∷ saved 3 ∷ deliver 1 3 ∷ [])
      ∷ during (fail 1 ∷ []) 3 3
      ∷ during (deliver 3 2 ∷ deliver 3 2 ∷ []) 3 3
      ∷ [];
}

-- ---- "a second fault before it ends belongs to it"

-- another cabinet enters for another place, with a lower number and another reason, and then the coordinator; when the places meet, 10 comes first
abbrev pub second_fault : Telling
second_fault = record {
  file = struck_at_receiver.file;
  stops =
      nobody (begin 1 ∷ deliver 1 2 ∷ deliver 1 4 ∷ damage 2 3 0 1 ∷ damage 4 2 0 1 ∷ [])
      -- 3, in normal, finds the link to 2 faulty
      ∷ during (deliver 2 3 ∷ []) 3 3
      -- 2, in checkp-begin, finds the link to 4 faulty
      ∷ during (deliver 4 2 ∷ []) 3 3
      -- 1 hears of the one, and then of the other
      ∷ during (deliver 3 1 ∷ []) 3 3
      ∷ hidden (deliver 2 1 ∷ [])
      ∷ [];
}

abbrev pub AllTold : Type 0
AllTold =
    AsTold led_in_normal × AsTold led_in_begin × AsTold led_past_pieces × AsTold unfinished_in_begin × AsTold unfinished_in_pieces × AsTold normal_then_decided
    × AsTold decided × AsTold lowest_of_two × AsTold tripped_then_lowest × AsTold resume_had × AsTold second_fault

-- ---- what the history notes of an entry into error

abbrev pub entry_with : Bool → Bool → State → Option Entry
entry_with led knew state = some (record { led = led; knew = knew; state = state })

-- at the trip of `tripped_then_lowest`: 1 led and does not know any more, and 2, which leads from then on, did not
abbrev pub EntriesNoted : Type 0
EntriesNoted =
    map (account_after other_ring (steps (begin 1 ∷ deliver 1 2 ∷ trip 1 ∷ []))).entry (0 ∷ 1 ∷ 2 ∷ [])
    ≡ entry_with true false CheckpBegin ∷ entry_with false true CheckpBegin ∷ entry_with false true Normal ∷ []

-- ---- what the program prints

pub record Printed : Type 0 where
  pub file : List ℕ
  pub steps : List ℕ
  pub text : Text

abbrev pub printed : List Printed
printed =
    -- "`load N` or `word N` if refused"
    record { file = []; steps = fail 2; text = ascii "load 1\n" }
    ∷ record { file = example_file; steps = []; text = ascii "word 24\n" }
    ∷ record { file = example_file; steps = fail 2 ++ fail 1; text = ascii "word 10\n" }
    -- after the end of document 01's recovery
    ∷ record { file = example_file; steps = example_steps; text = ascii "word 1 1\n" }
    -- a short last record is refused, and changes nothing
    ∷ record { file = near_row; steps = fail 3 ++ 10 ∷ 2 ∷ []; text = ascii "word 2 3\n" }
    ∷ []
