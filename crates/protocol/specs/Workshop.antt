-- Closed runs of document 02, card 9: a recovery that brings back the bookings of both parties, cases of what is loaded, answered and printed, what the
-- history notes of a hurt packet, and pairs of runs that differ in the amounts of workshop sends. Check values that stand here as numbers were
-- computed by another program.
use Rattle.std.specs.Prelude.{ℕ, ◌+◌, ◌≡◌, Bool, true, false, cond, ◌&&◌, List, [], ◌∷◌, ◌++◌, map, get_or, replicate, eqb, Some}
use Rattle.std.proofs.Math.Option.{Option, none, some}
use Rattle.outlet.specs.declared.Outlet.TheVariants.{A, B, W}
use Rattle.outlet.specs.declared.Party.{Party}
use Rattle.outlet.specs.declared.Party.TheVariants.{Buses, Workshop}
use Rattle.packet.specs.declared.PacketVersion.TheVariants.{One, Two}
use Rattle.packet.specs.declared.Payload.{Payload}
use Rattle.packet.specs.declared.Check.{Check}
use Rattle.packet.specs.declared.Place.TheVariants.{Failed as AtFailed, Link as AtLink}
use Rattle.packet.specs.declared.Packet.{Packet}
use Rattle.packet.specs.declared.Packet.TheVariants.{Checkp}
use Rattle.packet.specs.Packet.{packed, octets_of, start_check}
use Rattle.line.specs.Line.{oldest}
use Rattle.cabinet.specs.Alarm.{Alarm}
use Rattle.cabinet.specs.declared.Cabinet.{Cabinet}
use Rattle.image.specs.declared.Image.{Image}
use Rattle.image.specs.Image.{booking}
use Rattle.points.specs.Points.{no_points, point_at, image_at, same_name}
use Rattle.group.specs.declared.Group.{Group}
use Rattle.group.specs.Group.{cabinet, line}
use Rattle.load.specs.Load.{load, feeder_total}
use Rattle.protocol.specs.declared.Site.{Site}
use Rattle.protocol.specs.declared.Turn.{Turn}
use Rattle.protocol.specs.Entry.{step, step_all}
use Rattle.protocol.specs.History.{History, Operation, stepping, pointing, returning, steps, run, opening}
use Rattle.protocol.specs.Restored.{amperes}
use Rattle.protocol.specs.Listing.{ascii, state_word, version_word}
use Rattle.protocol.specs.Evening.{operate}
use Rattle.protocol.specs.Word.{which_word, numbers_of}
use Rattle.protocol.specs.Marked.{two_octets, Bookings, file_all, record_of, send, begin, deliver, restored, fail, ListingOf, CheckOf, Case}
use Rattle.protocol.specs.Examples.{note, writes, saved, fetches, damage, Example, Found, for_each, to_a, to_b, ring_save, ring_resumed}
use Rattle.protocol.specs.Returns.{named, store_at}
use Rattle.protocol.specs.Outlets.{send_AB, send_BA, send_BB, loads}
use Rattle.protocol.specs.Losses.{lose, answers}
use Rattle.protocol.specs.Trips.{trip}
use Rattle.protocol.specs.OwnChecks.{file_all_two, damage_by, found_at_three, register_at}

-- ---- files, records and packets

abbrev pub books : ℕ → ℕ → ℕ → Bookings
books a b w = record { a = a; b = b; w = w }

-- the links of a ring of three
abbrev pub ring_links : List ℕ
ring_links = 1 ∷ 2 ∷ 1 ∷ 3 ∷ 2 ∷ 3 ∷ []

-- two cabinets and the link between them
abbrev pub pair_all : Bookings → Bookings → List ℕ
pair_all x y = file_all 1 (x ∷ y ∷ []) (1 ∷ 2 ∷ [])

-- 1 has 100, 10 and for the workshop 40, 2 has 50, 20 and 5
abbrev pub shared_pair : List ℕ
shared_pair = pair_all (books 100 10 40) (books 50 20 5)

-- "a send's p is 4"
abbrev pub send_w : ℕ → ℕ → ℕ → List ℕ
send_w a b q = record_of 1 a b 4 q

-- what a packet of version 1 for the workshop carries
abbrev pub to_w : ℕ → Payload
to_w q = packed One W q

-- an image with all three bookings and a note in its first octet for notes
abbrev pub image_all : Bookings → ℕ → Image
image_all x first = record { octets = two_octets x.a ++ two_octets x.b ++ two_octets x.w ++ first ∷ replicate 25 0 }

-- ---- a recovery

abbrev pub both_parties : Example
both_parties = record {
  file = file_all 1 (books 100 10 40 ∷ books 50 20 5 ∷ books 20 300 7 ∷ []) ring_links;
  before =
      -- packets of both parties from 1 to 2, from 2 to 3 and from 3 to 1, and a save; the workshop's from 3 to 1 is under way when it begins
      steps (send_w 1 2 30 ∷ send_AB 1 2 30 ∷ deliver 1 2 ∷ deliver 1 2
      ∷ send_w 2 3 15 ∷ send_BA 2 3 15 ∷ deliver 2 3 ∷ deliver 2 3
      ∷ note 2 6 9 ∷ send_BB 3 1 270 ∷ deliver 3 1 ∷ send_w 3 1 12
      ∷ ring_save ++ ring_resumed
      -- amperes of both and a note of which the save knows nothing; what 3 sends is never taken
      ++ send_w 1 2 22 ∷ send_BA 1 2 280 ∷ deliver 1 2 ∷ deliver 1 2
      ∷ send_w 2 1 40 ∷ send_AB 2 1 50 ∷ deliver 2 1 ∷ deliver 2 1
      ∷ note 2 6 3 ∷ send_w 3 2 10 ∷ send_BB 3 2 30 ∷ []);
  since = steps (fail 3 ∷ deliver 1 2 ∷ deliver 1 2 ∷ deliver 2 1 ∷ deliver 2 1 ∷ fetches 1 ++ fetches 2 ++ restored 1 ∷ []);
  last = stepping (restored 2);
  coordinator = 0;
}

abbrev pub both_parties_finds : Found
both_parties_finds = record {
  loaded = 0;
  taken = true;
  ended = true;
  place = Some (AtFailed 2);
  committed = 1;
  left = 1;
  begun = true;
  stands = true;
  by = 0;
  took = (to_b 270 ∷ to_w 12 ∷ []) ∷ (to_w 30 ∷ to_b 30 ∷ []) ∷ (to_w 15 ∷ to_a 15 ∷ []) ∷ [];
  standing = image_all (books 70 50 40) 0 ∷ image_all (books 280 35 2) 3 ∷ image_all (books 35 0 0) 0 ∷ [];
  held = some (image_all (books 70 280 22) 0) ∷ some (image_all (books 50 35 20) 9) ∷ none ∷ [];
  gone = none ∷ none ∷ some (image_all (books 35 30 10) 0) ∷ [];
}

-- "Demand 3's total holds for each party by itself": what the working cabinets hold and what counts for the failed one, beside the file's total
abbrev pub amperes_of : Party → List (Option Image) → ℕ
amperes_of y [] = 0
amperes_of y (m ∷ ms) = amperes y m + amperes_of y ms

abbrev pub total_of : Party → Found → ℕ
total_of y x = amperes_of y x.held + amperes_of y x.gone

abbrev pub SumsStand : Type 0
SumsStand =
    (total_of Buses both_parties_finds ≡ 500) × (feeder_total both_parties.file Buses ≡ 500)
    × (total_of Workshop both_parties_finds ≡ 52) × (feeder_total both_parties.file Workshop ≡ 52)

-- ---- cases

-- the answer to a record after others, in `shared_pair`
abbrev pub shared : List (List ℕ) → List ℕ → ℕ → Case
shared = answers shared_pair

-- 30 amperes for the workshop go from 1 to 2, whole, and hurt so that they are 65,535
abbrev pub thirty_taken : List (List ℕ)
thirty_taken = send_w 1 2 30 ∷ deliver 1 2 ∷ []

abbrev pub thirty_hurt : List (List ℕ)
thirty_hurt = send_w 1 2 30 ∷ damage 1 2 0 65505 ∷ deliver 1 2 ∷ []

-- four packets of each party on the line from 1 to 2, the workshop's first
abbrev pub four_of_each : List (List ℕ)
four_of_each = replicate 4 (send_w 1 2 1) ++ replicate 4 (send 1 2 1)

abbrev pub workshop_cases : List Case
workshop_cases =
    -- "7 for either party's total": each by itself, so both may be 65,535
    loads (pair_all (books 60000 5000 65000) (books 500 35 535)) 0
    ∷ loads (pair_all (books 60000 5000 65000) (books 500 36 535)) 7
    ∷ loads (pair_all (books 60000 5000 65000) (books 500 35 536)) 7
    ∷ loads (pair_all (books 0 0 65535) (books 0 0 1)) 7
    ∷ loads (pair_all (books 65535 1 0) (books 0 0 0)) 7
    ∷ loads (pair_all (books 40000 0 40000) (books 0 20000 20000)) 0
    -- "two octets more at the end of the cabinet entry": entries of six are refused
    ∷ loads (two_octets 2 ++ two_octets 1 ++ two_octets 10 ++ two_octets 22 ++ two_octets 24 ++ 1 ∷ 1 ∷ two_octets 100 ++ two_octets 10 ++ 1 ∷ 0 ∷ two_octets 50 ++ two_octets 20 ++ 1 ∷ 2 ∷ []) 3
    -- "Normal packets carry 0x02 first for the workshop": the check runs over it
    ∷ record { asked = CheckOf (octets_of (to_w 30)); expected = 0x5103 ∷ [] }
    ∷ record { asked = CheckOf (0x02 ∷ 0x00 ∷ 0x1E ∷ []); expected = 0x5103 ∷ [] }
    ∷ record { asked = CheckOf (octets_of (packed Two W 30)); expected = 0 ∷ [] }
    ∷ record { asked = CheckOf (0x02 ∷ 0x00 ∷ 0x1E ∷ 0x51 ∷ 0x03 ∷ []); expected = 0 ∷ [] }
    -- "15 for p above 4 in a send"
    ∷ shared [] (record_of 1 1 2 5 5) 15
    ∷ shared [] (send_w 1 2 5) 0
    ∷ shared [] (send_w 1 2 0) 15
    -- 16 asks the workshop's booking, whatever outlet A has, and for outlets A and B not the workshop's
    ∷ shared [] (send_w 1 2 40) 0
    ∷ shared [] (send_w 1 2 41) 16
    ∷ shared [] (send_BB 1 2 11) 16
    ∷ answers (pair_all (books 5 0 100) (books 0 0 0)) [] (send 1 2 6) 16
    ∷ answers (pair_all (books 5 0 100) (books 0 0 0)) [] (send_w 1 2 100) 0
    -- the workshop's booking is charged, and neither outlet's
    ∷ shared (send_w 1 2 40 ∷ []) (send_w 1 2 1) 16
    ∷ shared (send_w 1 2 40 ∷ []) (send 1 2 100) 0
    ∷ shared (send_w 1 2 40 ∷ []) (send_BB 1 2 10) 0
    ∷ shared (send 1 2 100 ∷ []) (send_w 1 2 40) 0
    -- it is credited, and neither outlet's
    ∷ shared thirty_taken (send_w 2 1 35) 0
    ∷ shared thirty_taken (send_w 2 1 36) 16
    ∷ shared thirty_taken (send 2 1 51) 16
    ∷ shared thirty_taken (send_BB 2 1 21) 16
    ∷ shared (send 1 2 30 ∷ deliver 1 2 ∷ []) (send_w 2 1 6) 16
    -- "modulo 65,536", for the workshop alone: 2 has 50, 20 and 4 then
    ∷ shared thirty_hurt (send_w 2 1 5) 16
    ∷ shared thirty_hurt (send_w 2 1 4) 0
    ∷ shared thirty_hurt (send 2 1 50) 0
    ∷ shared thirty_hurt (send 2 1 51) 16
    ∷ shared thirty_hurt (send_BB 2 1 20) 0
    ∷ shared thirty_hurt (send_BB 2 1 21) 16
    -- "four of the eight normal places in each; the buses have the other four"
    ∷ shared (replicate 4 (send 1 2 1)) (send 1 2 1) 17
    ∷ shared (replicate 4 (send 1 2 1)) (send_w 1 2 1) 0
    ∷ shared (replicate 4 (send_w 1 2 1)) (send_w 1 2 1) 17
    ∷ shared (replicate 4 (send_w 1 2 1)) (send 1 2 1) 0
    ∷ shared (replicate 3 (send_w 1 2 1) ++ replicate 4 (send 1 2 1)) (send_w 1 2 1) 0
    ∷ shared four_of_each (send 1 2 1) 17
    ∷ shared four_of_each (send_BB 1 2 1) 17
    ∷ shared four_of_each (send_w 1 2 1) 17
    ∷ shared four_of_each (send_w 2 1 1) 0
    -- a packet that is taken, or lost, leaves a place to its own party
    ∷ shared (four_of_each ++ deliver 1 2 ∷ []) (send_w 1 2 1) 0
    ∷ shared (four_of_each ++ deliver 1 2 ∷ []) (send 1 2 1) 17
    ∷ shared (four_of_each ++ lose 1 2 4 ∷ []) (send 1 2 1) 0
    ∷ shared (four_of_each ++ lose 1 2 4 ∷ []) (send_w 1 2 1) 17
    -- one hurt for each line, whichever party's packet it was
    ∷ shared (send_w 1 2 5 ∷ send 1 2 5 ∷ damage 1 2 0 1 ∷ []) (damage 1 2 1 1) 20
    ∷ shared (send_w 1 2 5 ∷ send 1 2 5 ∷ lose 1 2 1 ∷ []) (damage 1 2 0 1) 20
    -- "notes begin at 6"
    ∷ shared [] (note 1 5 7) 15
    ∷ shared [] (note 1 6 7) 0
    -- "the listing prints its booking last"
    ∷ record {
      asked = ListingOf shared_pair (send_w 1 2 30 ++ deliver 1 2);
      expected = ascii "step 1 0\nstep 2 0\ncab 1 normal 0 100 10 10\ncab 2 normal 0 50 20 35\n";
    }
    ∷ []

-- ---- what the history notes of a hurt packet: of which party it was

-- the parties of which a packet was damaged, and the lines from 1 to 2 and back of which one was hurt; the history is handed on, so that it is computed once
abbrev pub notes_in : History → (Bool × Bool) × (Bool × Bool)
notes_in h = ((h.damaged Buses, h.damaged Workshop), (h.hurt 0 1, h.hurt 1 0))

unfoldable pub notes_after : List (List ℕ) → (Bool × Bool) × (Bool × Bool)
notes_after rs = notes_in (run (opening (load shared_pair).group) (steps rs)).history

abbrev pub PartyNoted : Type 0
PartyNoted =
    (notes_after (send_w 1 2 5 ∷ send 1 2 5 ∷ damage 1 2 0 1 ∷ []) ≡ ((false, true), (true, false)))
    × (notes_after (send_w 1 2 5 ∷ send 1 2 5 ∷ damage 1 2 1 1 ∷ []) ≡ ((true, false), (true, false)))
    × (notes_after (send_w 1 2 5 ∷ send 2 1 5 ∷ damage 1 2 0 1 ∷ damage 2 1 0 1 ∷ []) ≡ ((true, true), (true, true)))
    -- a loss damages nothing
    × (notes_after (send_w 1 2 5 ∷ lose 1 2 0 ∷ []) ≡ ((false, false), (true, false)))

-- ---- "Compare two runs of one group file with the same steps except for the amounts of workshop sends"

-- a file, and operations in parts, in which workshop send k (from 0) has the amount that is handed in for it; the amounts of one run, and of the other
pub record Twins : Type 0 where
  pub file : List ℕ
  pub parts : (ℕ → ℕ) → List (List Operation)
  pub amounts : List ℕ
  pub others : List ℕ

-- what is seen of a run
pub record Seen : Type 0 where
  pub site : Site
  -- what each operation is answered, and of these each workshop send
  pub answers : List ℕ
  pub sends : List ℕ
  -- what has to agree: after each operation of each cabinet, and after each part of the store, the first point and the latest recovery
  pub told : List (List ℕ)
  -- after each part the workshop's booking of each cabinet
  pub workshop : List (List ℕ)

-- of an image A's and B's booking, of a cabinet the word of its state, its version, and these
abbrev pub buses_of : Image → List ℕ
buses_of m = booking A m ∷ booking B m ∷ []

abbrev pub told_of : Cabinet → List ℕ
told_of c = state_word c.phase.state ++ version_word c.phase.version ++ buses_of c.image

abbrev pub is_workshop_send : Operation → Bool
is_workshop_send (stepping r) = eqb (get_or r 0 0) 1 && eqb (get_or r 3 0) 4
is_workshop_send (pointing name) = false
is_workshop_send (returning name) = false

-- the turn is handed on, so that it is computed once
abbrev pub seen_on : Seen → Operation → Turn → Seen
seen_on s x t = record {
  site = t.site;
  answers = s.answers ++ t.answer ∷ [];
  sends = cond (is_workshop_send x) (s.sends ++ t.answer ∷ []) s.sends;
  told = s.told ++ for_each t.site.group.n (λ c. told_of (cabinet t.site.group c));
  workshop = s.workshop;
}

unfoldable pub watch : Seen → List Operation → Seen
watch s [] = s
watch s (x ∷ xs) = watch (seen_on s x (operate s.site x)) xs

-- at the end of a part: both slots of each cabinet, its image in the first point, and which word settled the latest recovery
abbrev pub part_ended : Seen → Seen
part_ended s = record {
  site = s.site;
  answers = s.answers;
  sends = s.sends;
  told =
      s.told ++ map buses_of (store_at s.site.group.n s.site.group ++ for_each s.site.group.n (image_at (point_at s.site.points 0)))
      ++ numbers_of (which_word s.site.group) ∷ [];
  workshop = s.workshop ++ for_each s.site.group.n (λ c. booking W (cabinet s.site.group c).image) ∷ [];
}

unfoldable pub watch_parts : Seen → List (List Operation) → Seen
watch_parts s [] = s
watch_parts s (p ∷ ps) = watch_parts (part_ended (watch s p)) ps

abbrev pub seen_in : Twins → List ℕ → Seen
seen_in t amounts =
    watch_parts (record { site = record { group = (load t.file).group; points = no_points }; answers = []; sends = []; told = []; workshop = [] })
    (t.parts (λ k. get_or amounts k 0))

-- what is found of both runs, of the one first
pub record Compared : Type 0 where
  pub answers : List ℕ × List ℕ
  pub sends : List ℕ × List ℕ
  pub agree : Bool
  pub workshop : List (List ℕ) × List (List ℕ)

abbrev pub same_lists : List (List ℕ) → List (List ℕ) → Bool
same_lists [] [] = true
same_lists [] (y ∷ ys) = false
same_lists (x ∷ xs) [] = false
same_lists (x ∷ xs) (y ∷ ys) = same_name x y && same_lists xs ys

-- Both runs are handed on, so that each is computed once.
abbrev pub compared_of : Seen → Seen → Compared
compared_of x y = record {
  answers = (x.answers, y.answers);
  sends = (x.sends, y.sends);
  agree = same_lists x.told y.told;
  workshop = (x.workshop, y.workshop);
}

unfoldable pub compared : Twins → Compared
compared t = compared_of (seen_in t t.amounts) (seen_in t t.others)

-- ---- a short pair of runs: 2 takes packets of both parties, and 1 one for the workshop

abbrev pub twins_brief : Twins
twins_brief = record {
  file = pair_all (books 100 10 50000) (books 50 20 5);
  parts = λ q. steps (send_w 1 2 (q 0) ∷ deliver 1 2 ∷ send 2 1 51 ∷ send_w 2 1 (q 1) ∷ send 1 2 100 ∷ deliver 1 2 ∷ deliver 2 1 ∷ []) ∷ [];
  amounts = 40000 ∷ 5 ∷ [];
  others = 1 ∷ 2 ∷ [];
}

-- 2 has 50 amperes for outlet A, whatever came for the workshop: 16
abbrev pub given_brief : List ℕ
given_brief = 0 ∷ 0 ∷ 16 ∷ 0 ∷ 0 ∷ 0 ∷ 0 ∷ []

abbrev pub twins_brief_compared : Compared
twins_brief_compared = record {
  answers = (given_brief, given_brief);
  sends = (0 ∷ 0 ∷ [], 0 ∷ 0 ∷ []);
  agree = true;
  workshop = ((10005 ∷ 40000 ∷ []) ∷ [], (50001 ∷ 4 ∷ []) ∷ []);
}

-- ---- a damaged workshop packet in both: "Then bus bookings, logical states and all answers agree in both, damage to workshop packets included."

-- a ring of three, in which the workshop has 50,007
abbrev pub ring_bookings : List Bookings
ring_bookings = books 100 10 20000 ∷ books 50 20 30000 ∷ books 20 300 7 ∷ []

-- a save of both parties, and a point
abbrev pub saved_shared : (ℕ → ℕ) → List Operation
saved_shared q =
    steps (send_w 1 2 (q 0) ∷ send_AB 1 2 30 ∷ deliver 1 2 ∷ deliver 1 2 ∷ send_w 3 1 (q 1) ∷ ring_save ++ ring_resumed) ++ pointing (named 65) ∷ []

-- 2 sends for both, and what it sends for the workshop last is damaged; three records are refused, with 15, 16 and 20
abbrev pub hurt_shared : List ℕ → (ℕ → ℕ) → List (List ℕ)
hurt_shared hurting q =
    send_w 2 3 (q 2) ∷ deliver 2 3 ∷ send 2 3 5 ∷ deliver 2 3 ∷ record_of 1 1 2 5 1 ∷ send 1 2 71
    ∷ send_w 2 3 (q 3) ∷ hurting ∷ damage 2 3 0 1 ∷ []

-- all come back from the save, without the link from 2 to 3
abbrev pub back_shared : List (List ℕ)
back_shared = found_at_three ++ restored 3 ∷ []

-- what is left on the lines is taken, and 1 sends for both
abbrev pub on_shared : (ℕ → ℕ) → List (List ℕ)
on_shared q =
    deliver 1 2 ∷ deliver 1 2 ∷ deliver 1 3 ∷ deliver 1 3 ∷ deliver 2 1 ∷ deliver 2 1 ∷ deliver 3 1 ∷ deliver 3 1
    ∷ send_w 1 2 (q 4) ∷ deliver 1 2 ∷ send 1 3 4 ∷ deliver 1 3 ∷ []

-- a later save, after which 2 sends for both
abbrev pub later_shared : (ℕ → ℕ) → List (List ℕ)
later_shared q =
    send_w 1 3 (q 5) ∷ deliver 1 3 ∷ begin 1 ∷ deliver 1 2 ∷ deliver 1 3 ∷ deliver 2 1 ∷ deliver 3 1
    ∷ writes 1 ++ writes 2 ++ writes 3
    ++ saved 1 ∷ saved 2 ∷ saved 3 ∷ deliver 1 2 ∷ deliver 1 3
    ∷ send_w 2 1 (q 6) ∷ send 2 1 6 ∷ deliver 2 1 ∷ deliver 2 1 ∷ []

-- 3 trips, and all come back from that save
abbrev pub tripped_shared : List (List ℕ)
tripped_shared =
    trip 3 ∷ deliver 1 2 ∷ deliver 2 1 ∷ deliver 1 3 ∷ deliver 1 3 ∷ deliver 3 1
    ∷ fetches 1 ++ fetches 2 ++ fetches 3
    ++ restored 2 ∷ restored 3 ∷ restored 1 ∷ []

-- in version 1 the damaged packet is added, and the checkp of the next save finds it
abbrev pub twins_one : Twins
twins_one = record {
  file = file_all 1 ring_bookings ring_links;
  parts = λ q.
      saved_shared q ∷ steps (hurt_shared (damage 2 3 0 0xFFF0) q ++ deliver 2 3 ∷ []) ∷ steps (begin 1 ∷ deliver 1 2 ∷ back_shared) ∷ steps (on_shared q)
      ∷ (returning (named 65) ∷ []) ∷ steps (later_shared q) ∷ steps tripped_shared ∷ [];
  amounts = 17789 ∷ 7 ∷ 40000 ∷ 5 ∷ 2000 ∷ 218 ∷ 47789 ∷ [];
  others = 1 ∷ 2 ∷ 100 ∷ 20000 ∷ 20001 ∷ 1 ∷ 30000 ∷ [];
}

abbrev pub given_one : List ℕ
given_one = replicate 33 0 ++ (0 ∷ 0 ∷ 0 ∷ 0 ∷ 15 ∷ 16 ∷ 0 ∷ 0 ∷ 20 ∷ 0 ∷ []) ++ replicate 84 0

abbrev pub twins_one_compared : Compared
twins_one_compared = record {
  answers = (given_one, given_one);
  sends = (replicate 7 0, replicate 7 0);
  agree = true;
  workshop = (
    (2218 ∷ 47789 ∷ 0 ∷ [])
        -- 5 are damaged to 65,525, and the booking of 3 wraps
        ∷ (2218 ∷ 7784 ∷ 39989 ∷ [])
        ∷ (2218 ∷ 47789 ∷ 0 ∷ [])
        ∷ (218 ∷ 49789 ∷ 0 ∷ [])
        ∷ (2218 ∷ 47789 ∷ 0 ∷ [])
        ∷ (49789 ∷ 0 ∷ 218 ∷ [])
        ∷ (2000 ∷ 47789 ∷ 218 ∷ []) ∷ [],
    (20001 ∷ 30001 ∷ 5 ∷ [])
        -- 20,000 are damaged to 45,520, and it does not
        ∷ (20001 ∷ 9901 ∷ 45625 ∷ [])
        ∷ (20001 ∷ 30001 ∷ 5 ∷ [])
        ∷ (0 ∷ 50002 ∷ 5 ∷ [])
        ∷ (20001 ∷ 30001 ∷ 5 ∷ [])
        ∷ (50000 ∷ 1 ∷ 6 ∷ [])
        ∷ (20000 ∷ 30001 ∷ 6 ∷ []) ∷ [],
  );
}

-- in version 2 its own check finds it on taking, and its amount is not added
abbrev pub twins_two : Twins
twins_two = record {
  file = file_all_two 1 ring_bookings ring_links;
  parts = λ q.
      saved_shared q ∷ steps (hurt_shared (damage_by 2 0 2 3 0 0xFFF0) q) ∷ steps back_shared ∷ steps (on_shared q) ∷ (returning (named 65) ∷ []) ∷ steps (later_shared q)
      ∷ steps tripped_shared ∷ [];
  amounts = twins_one.amounts;
  others = twins_one.others;
}

abbrev pub given_two : List ℕ
given_two = replicate 33 0 ++ (0 ∷ 0 ∷ 0 ∷ 0 ∷ 15 ∷ 16 ∷ 0 ∷ 0 ∷ 20 ∷ []) ++ replicate 82 0

abbrev pub twins_two_compared : Compared
twins_two_compared = record {
  answers = (given_two, given_two);
  sends = (replicate 7 0, replicate 7 0);
  agree = true;
  workshop = (
    (2218 ∷ 47789 ∷ 0 ∷ []) ∷ (2218 ∷ 7784 ∷ 40000 ∷ []) ∷ (2218 ∷ 47789 ∷ 0 ∷ []) ∷ (218 ∷ 49789 ∷ 0 ∷ []) ∷ (2218 ∷ 47789 ∷ 0 ∷ []) ∷ (49789 ∷ 0 ∷ 218 ∷ [])
        ∷ (2000 ∷ 47789 ∷ 218 ∷ []) ∷ [],
    (20001 ∷ 30001 ∷ 5 ∷ []) ∷ (20001 ∷ 9901 ∷ 105 ∷ []) ∷ (20001 ∷ 30001 ∷ 5 ∷ []) ∷ (0 ∷ 50002 ∷ 5 ∷ []) ∷ (20001 ∷ 30001 ∷ 5 ∷ []) ∷ (50000 ∷ 1 ∷ 6 ∷ [])
        ∷ (20000 ∷ 30001 ∷ 6 ∷ []) ∷ [],
  );
}

-- ---- a lost workshop packet in both

-- 1 sends for the workshop and for outlet A, the first is lost and the second taken, and a save begins
abbrev pub lost_shared : ℕ → List (List ℕ)
lost_shared q = send_w 1 2 q ∷ send 1 2 30 ∷ lose 1 2 0 ∷ deliver 1 2 ∷ begin 1 ∷ []

-- the checkp from 1, the register of 2, and the place that 2 enters error for when it takes that checkp; the group before that is handed on, so
-- that it is computed once
abbrev pub loss_in : Group → (Packet × Check) × Alarm
loss_in g = ((oldest (line g 0 1), get_or (cabinet g 1).registers.taken 0 start_check), (cabinet (step g (deliver 1 2)).group 1).phase.alarm)

unfoldable pub loss_after : ℕ → (Packet × Check) × Alarm
loss_after q = loss_in (step_all (load twins_one.file).group (lost_shared q))

-- with 17,789 amperes the CRCs are equal and with 1 ampere they are not; the counts are unequal in both
abbrev pub LossFound : Type 0
LossFound =
    (loss_after 17789 ≡ ((Checkp (register_at 0x3F63 2), register_at 0x3F63 1), Some (AtLink 0 1)))
    × (loss_after 1 ≡ ((Checkp (register_at 0x001B 2), register_at 0x3F63 1), Some (AtLink 0 1)))

-- so both runs find the loss at that checkp, and come back from the start
abbrev pub twins_lost : Twins
twins_lost = record {
  file = twins_one.file;
  parts = λ q.
      steps (lost_shared (q 0))
      ∷ steps (deliver 1 2
      ∷ deliver 2 3 ∷ deliver 3 1 ∷ deliver 3 2 ∷ deliver 1 3
      ∷ fetches 1 ++ fetches 2 ++ fetches 3
      ++ restored 1 ∷ restored 2 ∷ restored 3 ∷ [])
      ∷ [];
  amounts = 17789 ∷ [];
  others = 1 ∷ [];
}

abbrev pub twins_lost_compared : Compared
twins_lost_compared = record {
  answers = (replicate 25 0, replicate 25 0);
  sends = (0 ∷ [], 0 ∷ []);
  agree = true;
  workshop = ((2211 ∷ 30000 ∷ 7 ∷ []) ∷ (20000 ∷ 30000 ∷ 7 ∷ []) ∷ [], (19999 ∷ 30000 ∷ 7 ∷ []) ∷ (20000 ∷ 30000 ∷ 7 ∷ []) ∷ []);
}
