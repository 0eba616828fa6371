-- Document 01, "Marked": the cases that are proved together, as one table of what is found and what the paper says.
-- Texts are quoted here as they are printed, and not made from the words of the listing's definition.
use Rattle.std.specs.Prelude.{ℕ, zero, suc, ◌+◌, ◌*◌, ◌/◌, ◌%◌, cond, List, [], ◌∷◌, ◌++◌, map, length, replicate, eqb}
use Rattle.crc.specs.Crc.{crc}
use Rattle.load.specs.Load.{load}
use Rattle.protocol.specs.Entry.{step, step_all}
use Rattle.protocol.specs.Listing.{Text, ascii, listing}

-- ---- group files

-- a two-octet number, high octet first
abbrev pub two_octets : ℕ → List ℕ
two_octets v = v / 256 ∷ v % 256 ∷ []

-- the header of a file of n cabinets and m links
abbrev pub header : ℕ → ℕ → List ℕ
header n m = two_octets n ++ two_octets m ++ two_octets 10 ++ two_octets (10 + 9 * n) ++ two_octets (10 + 9 * n + 2 * m)

-- what a cabinet books: for outlet A, for outlet B and for the workshop
pub record Bookings : Type 0 where
  pub a : ℕ
  pub b : ℕ
  pub w : ℕ

abbrev pub only_a : ℕ → Bookings
only_a a = record { a = a; b = 0; w = 0 }

abbrev pub for_buses : ℕ × ℕ → Bookings
for_buses x = record { a = x.0; b = x.1; w = 0 }

-- the entries of cabinets i, i + 1 and so on; cabinet s is the one store and the home of all, and has no partner
abbrev pub entries_from : ℕ → ℕ → List Bookings → List ℕ
entries_from s i [] = []
entries_from s i (x ∷ xs) = s ∷ cond (eqb i s) 1 0 ∷ two_octets x.a ++ two_octets x.b ++ two_octets x.w ++ 0 ∷ entries_from s (suc i) xs

-- a link is two numbers of the list
abbrev pub file_all : ℕ → List Bookings → List ℕ → List ℕ
file_all s bookings links = header (length bookings) (length links / 2) ++ entries_from s 1 bookings ++ links

-- "in 01's cases every entry octet that this or a later card adds is 0"; of both outlets, and of outlet A alone
abbrev pub file_both : ℕ → List (ℕ × ℕ) → List ℕ → List ℕ
file_both s bookings links = file_all s (map for_buses bookings) links

abbrev pub file_of : ℕ → List ℕ → List ℕ → List ℕ
file_of s bookings links = file_all s (map only_a bookings) links

-- n links: 1 to 2, 2 to 3, and so on
abbrev pub row_links : ℕ → List ℕ
row_links zero = []
row_links (suc n) = row_links n ++ suc n ∷ suc (suc n) ∷ []

-- a row of cabinets with these bookings, of which the first is the store and the home of all
abbrev pub row_of : ℕ → List ℕ → List ℕ
row_of booking bookings = file_of 1 (booking ∷ bookings) (row_links (length bookings))

abbrev pub two_cabinets : ℕ → ℕ → List ℕ
two_cabinets x y = row_of x (y ∷ [])

-- ---- step records

abbrev pub record_of : ℕ → ℕ → ℕ → ℕ → ℕ → List ℕ
record_of kind a b p q = kind ∷ a ∷ b ∷ p ∷ two_octets q

-- from outlet A to outlet A
abbrev pub send : ℕ → ℕ → ℕ → List ℕ
send a b q = record_of 1 a b 0 q

abbrev pub begin : ℕ → List ℕ
begin a = record_of 3 a 0 0 0

abbrev pub deliver : ℕ → ℕ → List ℕ
deliver a b = record_of 4 a b 0 0

abbrev pub fetch : ℕ → List ℕ
fetch a = record_of 7 a 0 0 0

abbrev pub restored : ℕ → List ℕ
restored a = record_of 8 a 0 0 0

abbrev pub fail : ℕ → List ℕ
fail a = record_of 10 a 0 0 0

-- ---- the table

-- what a case asks: the listing of a file and steps, the check of octets, the answer of load, or that of a step after others
pub data Question : Type 0 where
  ListingOf : (file steps : List ℕ) → Question
  CheckOf : (octets : List ℕ) → Question
  LoadOf : (file : List ℕ) → Question
  StepOf : (file : List ℕ) (before : List (List ℕ)) (asked : List ℕ) → Question

-- what the definitions say to it: a text, or one number
unfoldable pub found : Question → List ℕ
found (ListingOf file steps) = listing file steps
found (CheckOf octets) = crc octets ∷ []
found (LoadOf file) = (load file).answer ∷ []
found (StepOf file before asked) = (step (step_all (load file).group before) asked).answer ∷ []

-- a case: what is asked, and what the paper says
pub record Case : Type 0 where
  pub asked : Question
  pub expected : List ℕ

-- "Two cabinets, 1 the store and home of both, bookings 100 and 50. Steps: send 1 to 2 of 30, deliver, fail 2, fetch 1 four times,
-- restored 1."
abbrev pub example_file : List ℕ
example_file = two_cabinets 100 50

abbrev pub example_steps : List ℕ
example_steps = send 1 2 30 ++ deliver 1 2 ++ fail 2 ++ fetch 1 ++ fetch 1 ++ fetch 1 ++ fetch 1 ++ restored 1

-- ".. and each such booking prints as 0"
abbrev pub example_output : Text
example_output = ascii "step 1 0\nstep 2 0\nstep 3 0\nstep 4 0\nstep 5 0\nstep 6 0\nstep 7 0\nstep 8 0\ncab 1 normal 0 100 0 0\ncab 2 failed\n"

abbrev pub marked : List Case
marked =
    record { asked = ListingOf example_file example_steps; expected = example_output }
    -- "check of no octets 0xFFFF; of the ASCII text 123456789 0x29B1"
    ∷ record { asked = CheckOf []; expected = 0xFFFF ∷ [] }
    ∷ record { asked = CheckOf (ascii "123456789"); expected = 0x29B1 ∷ [] }
    -- "n of 8 loads, 9 gives 2"
    ∷ record { asked = LoadOf (row_of 0 (replicate 7 0)); expected = 0 ∷ [] }
    ∷ record { asked = LoadOf (row_of 0 (replicate 8 0)); expected = 2 ∷ [] }
    -- "total 65,535 loads, 65,536 gives 7"
    ∷ record { asked = LoadOf (two_cabinets 65000 535); expected = 0 ∷ [] }
    ∷ record { asked = LoadOf (two_cabinets 65000 536); expected = 7 ∷ [] }
    -- "sending 100 of 100 is taken, 101 gives 16"
    ∷ record { asked = StepOf (two_cabinets 100 50) [] (send 1 2 100); expected = 0 ∷ [] }
    ∷ record { asked = StepOf (two_cabinets 100 50) [] (send 1 2 101); expected = 16 ∷ [] }
    -- "01's marked ninth packet becomes the fifth"
    ∷ record { asked = StepOf (two_cabinets 100 50) (replicate 4 (send 1 2 1)) (send 1 2 1); expected = 17 ∷ [] }
    -- "begin at 2 while 1 works gives 14"
    ∷ record { asked = StepOf (two_cabinets 100 50) [] (begin 2); expected = 14 ∷ [] }
    ∷ []
