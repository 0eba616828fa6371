-- Closed runs of document 02, card 2: a recovery that brings back both outlets' bookings, a return that does, and cases of what is loaded,
-- answered and printed.
use Rattle.std.specs.Prelude.{ℕ, true, List, [], ◌∷◌, ◌++◌, replicate, Some}
use Rattle.std.proofs.Math.Option.{none, some}
use Rattle.packet.specs.declared.Place.TheVariants.{Failed as AtFailed}
use Rattle.image.specs.declared.Image.{Image}
use Rattle.packet.specs.Packet.{octets_of}
use Rattle.group.specs.declared.Group.{Group}
use Rattle.group.specs.Group.{cabinet}
use Rattle.protocol.specs.History.{Operation, stepping, pointing, returning, steps}
use Rattle.protocol.specs.Listing.{ascii}
use Rattle.protocol.specs.Marked.{two_octets, file_both, record_of, send, begin, deliver, restored, fail, ListingOf, CheckOf, LoadOf, StepOf, Case}
use Rattle.protocol.specs.Examples.{note, writes, saved, fetches, damage, Example, Found, for_each, to_a, to_b, ring_save, ring_resumed}
use Rattle.protocol.specs.Returns.{named, site_after, store_at}

-- ---- files and records

-- two cabinets and the link between them
abbrev pub pair_of : ℕ × ℕ → ℕ × ℕ → List ℕ
pair_of x y = file_both 1 (x ∷ y ∷ []) (1 ∷ 2 ∷ [])

-- 1 has 100 and 10, 2 has 50 and 20
abbrev pub outlet_pair : List ℕ
outlet_pair = pair_of (100, 10) (50, 20)

-- "0 AA, 1 AB, 2 BA, 3 BB"; the first is `send`
abbrev pub send_AB : ℕ → ℕ → ℕ → List ℕ
send_AB a b q = record_of 1 a b 1 q

abbrev pub send_BA : ℕ → ℕ → ℕ → List ℕ
send_BA a b q = record_of 1 a b 2 q

abbrev pub send_BB : ℕ → ℕ → ℕ → List ℕ
send_BB a b q = record_of 1 a b 3 q

-- an image with the bookings of both outlets and a note in its first octet for notes
abbrev pub image_both : ℕ → ℕ → ℕ → Image
image_both a b first = record { octets = two_octets a ++ two_octets b ++ two_octets 0 ++ first ∷ replicate 25 0 }

-- ---- a recovery: "The store's images and every rule of recovery cover both."

abbrev pub both_outlets : Example
both_outlets = record {
  file = file_both 1 ((100, 10) ∷ (50, 20) ∷ (20, 300) ∷ []) (1 ∷ 2 ∷ 1 ∷ 3 ∷ 2 ∷ 3 ∷ []);
  before =
      -- a send over each pair of outlets, and a save with 63 and 280, 50 and 35, 42 and 30
      steps (send_AB 1 2 30 ∷ deliver 1 2 ∷ send_BA 2 3 15 ∷ deliver 2 3 ∷ send 1 3 7 ∷ deliver 1 3 ∷ note 2 6 9 ∷ send_BB 3 1 270
      ∷ ring_save ++ ring_resumed
      -- amperes and a note of which the save knows nothing; what 3 sends is never taken
      ++ send_BA 1 2 280 ∷ deliver 1 2 ∷ send_AB 2 1 50 ∷ deliver 2 1 ∷ note 2 6 3 ∷ send_BB 3 2 30 ∷ []);
  since = steps (fail 3 ∷ deliver 1 2 ∷ deliver 1 2 ∷ deliver 2 1 ∷ deliver 2 1 ∷ fetches 1 ++ fetches 2 ++ restored 1 ∷ []);
  last = stepping (restored 2);
  coordinator = 0;
}

abbrev pub both_outlets_finds : Found
both_outlets_finds = record {
  loaded = 0;
  taken = true;
  ended = true;
  place = Some (AtFailed 2);
  committed = 1;
  left = 1;
  begun = true;
  stands = true;
  by = 0;
  took = (to_b 270 ∷ []) ∷ (to_b 30 ∷ []) ∷ (to_a 7 ∷ to_a 15 ∷ []) ∷ [];
  standing = image_both 63 50 0 ∷ image_both 280 35 3 ∷ image_both 42 0 0 ∷ [];
  held = some (image_both 63 280 0) ∷ some (image_both 50 35 9) ∷ none ∷ [];
  gone = none ∷ none ∷ some (image_both 42 30 0) ∷ [];
}

-- ---- a point and a return: all images, "and both slots of every cabinet", with both bookings

-- a save of two cabinets with 70 and 10, 50 and 50, a point of it, and a return from 70 and 0, 60 and 50
abbrev pub pair_returned : List Operation
pair_returned =
    steps (send_AB 1 2 30 ∷ deliver 1 2
    ∷ begin 1 ∷ deliver 1 2 ∷ deliver 2 1 ∷ writes 1 ++ writes 2 ++ saved 1 ∷ saved 2 ∷ deliver 1 2 ∷ [])
    ++ pointing (named 65) ∷ steps (send_BA 1 2 10 ∷ deliver 1 2 ∷ []) ++ returning (named 65) ∷ []

abbrev pub pair_images : List Image
pair_images = image_both 70 10 0 ∷ image_both 50 50 0 ∷ []

-- slot 0 of both, slot 1 of both, and the images that they work on; the group is handed on, so that it is computed once
abbrev pub holds_of : Group → List Image
holds_of g = store_at 2 g ++ for_each 2 (λ c. (cabinet g c).image)

unfoldable pub pair_holds : List Image
pair_holds = holds_of (site_after outlet_pair pair_returned).group

-- ---- cases

-- the answer to a record after others that are taken
abbrev pub answers : List (List ℕ) → List ℕ → ℕ → Case
answers before asked answer = record { asked = StepOf outlet_pair before asked; expected = answer ∷ [] }

abbrev pub loads : List ℕ → ℕ → Case
loads file answer = record { asked = LoadOf file; expected = answer ∷ [] }

abbrev pub outlet_cases : List Case
outlet_cases =
    -- "The feeder total is now over all outlets."
    loads (pair_of (60000, 5000) (500, 35)) 0
    ∷ loads (pair_of (60000, 5000) (500, 36)) 7
    ∷ loads (pair_of (0, 65535) (0, 1)) 7
    -- "The cabinet entry in the group file grows to six octets": entries of four are refused
    ∷ loads (two_octets 2 ++ two_octets 1 ++ two_octets 10 ++ two_octets 18 ++ two_octets 20 ++ 1 ∷ 1 ∷ two_octets 100 ++ 1 ∷ 0 ∷ two_octets 50 ++ 1 ∷ 2 ∷ []) 3
    -- "the normal packet's first octet holds the receiving outlet as 0x00 or 0x01": the check runs over it
    ∷ record { asked = CheckOf (octets_of (to_a 30)); expected = 0x3F63 ∷ [] }
    ∷ record { asked = CheckOf (octets_of (to_b 30)); expected = 0x0853 ∷ [] }
    -- 15 for a p that names no outlets, "above 4" with card 9: after 14, before 16
    ∷ answers [] (record_of 1 1 2 5 5) 15
    ∷ answers [] (record_of 1 1 2 255 60000) 15
    ∷ answers (begin 1 ∷ []) (record_of 1 1 2 5 5) 14
    -- the sending outlet is charged, and the other one is not
    ∷ answers [] (send_BA 1 2 11) 16
    ∷ answers [] (send_AB 1 2 100) 0
    ∷ answers (send_AB 1 2 100 ∷ []) (send 1 2 1) 16
    ∷ answers (send_AB 1 2 100 ∷ []) (send_BB 1 2 10) 0
    ∷ answers (send_BA 1 2 10 ∷ []) (send_BB 1 2 1) 16
    -- the receiving outlet is credited, and the other one is not
    ∷ answers (send_AB 1 2 30 ∷ deliver 1 2 ∷ []) (send_BB 2 1 50) 0
    ∷ answers (send_AB 1 2 30 ∷ deliver 1 2 ∷ []) (send 2 1 51) 16
    ∷ answers (send_BA 1 2 10 ∷ deliver 1 2 ∷ []) (send_AB 2 1 60) 0
    ∷ answers (send_BA 1 2 10 ∷ deliver 1 2 ∷ []) (send_BA 2 1 21) 16
    -- "modulo 65,536", for that outlet alone: damage makes 65,535 of the 30, and 2 has 50 and 19 then
    ∷ answers (send_AB 1 2 30 ∷ damage 1 2 0 65505 ∷ deliver 1 2 ∷ []) (send_BB 2 1 20) 16
    ∷ answers (send_AB 1 2 30 ∷ damage 1 2 0 65505 ∷ deliver 1 2 ∷ []) (send_BB 2 1 19) 0
    ∷ answers (send_AB 1 2 30 ∷ damage 1 2 0 65505 ∷ deliver 1 2 ∷ []) (send 2 1 50) 0
    -- 17 where four packets of the buses stand in the line (card 9), whatever their outlets
    ∷ answers (replicate 2 (send 1 2 1) ++ replicate 1 (send_BB 1 2 1)) (send_AB 1 2 1) 0
    ∷ answers (replicate 2 (send 1 2 1) ++ replicate 2 (send_BB 1 2 1)) (send_AB 1 2 1) 17
    -- "The listing prints A's, then B's"
    ∷ record {
      asked = ListingOf outlet_pair (send_AB 1 2 30 ++ deliver 1 2);
      expected = ascii "step 1 0\nstep 2 0\ncab 1 normal 0 70 10 0\ncab 2 normal 0 50 50 0\n";
    }
    ∷ []
