-- Document 01, "The group file" and the refusals of a load, with document 02, cards 2, 7, 9 and 10: a file's octets to the group, lines and store, or a
-- number 1 to 7.
use Rattle.std.specs.Prelude.{ℕ, zero, suc, ◌+◌, ◌-◌, ◌*◌, Bool, true, false, cond, not, ◌&&◌, ◌||◌, List, [], ◌∷◌, length, get_or, set, replicate, eqb, ltb, leb, None}
use Rattle.marks.specs.Marks.{Marks, no_marks}
use Rattle.marks.specs.Reach.{Rows, connected}
use Rattle.outlet.specs.declared.Outlet.{Outlet}
use Rattle.outlet.specs.declared.Outlet.TheVariants.{A, B, W}
use Rattle.outlet.specs.declared.Party.{Party}
use Rattle.outlet.specs.declared.Party.TheVariants.{Buses, Workshop}
use Rattle.packet.specs.declared.PacketVersion.{PacketVersion}
use Rattle.packet.specs.declared.PacketVersion.TheVariants.{One, Two}
use Rattle.state.specs.declared.State.TheVariants.{Normal}
use Rattle.state.specs.declared.Version.TheVariants.{Known}
use Rattle.image.specs.declared.Image.{Image}
use Rattle.cabinet.specs.declared.Cabinet.{Cabinet}
use Rattle.store.specs.declared.Slots.{Slots}
use Rattle.store.specs.declared.Store.{Store}
use Rattle.group.specs.declared.Group.{Group}
use Rattle.group.specs.declared.Outcome.{Outcome}
use Rattle.image.specs.Image.{blank_image, with_booking}
use Rattle.store.specs.Store.{blank_slots, empty_store, of_each}
use Rattle.registers.specs.Registers.{start_registers}
use Rattle.cabinet.specs.Cabinet.{nothing_noted, absent}
use Rattle.outgoing.specs.Lines.{empty_lines}
use Rattle.group.specs.Group.{no_row, no_trips, of_rows, sum, answering}

-- ---- the fields

-- "two-octet numbers have the high octet first"
abbrev pub number : List ℕ → ℕ → ℕ
number f i = get_or f i 0 * 256 + get_or f (i + 1) 0

abbrev pub cabinet_count : List ℕ → ℕ
cabinet_count f = number f 0

abbrev pub link_count : List ℕ → ℕ
link_count f = number f 2

-- the third number of the header, "offset of the cabinet table"
abbrev pub table_offset : List ℕ → ℕ
table_offset f = number f 4

-- what it is: 10, and in version 2 "offsets two higher"
abbrev pub table_in : PacketVersion → ℕ
table_in One = 10
table_in Two = 12

-- so it tells the versions apart: "A file of one version is never read as the other."
unfoldable pub version_of : List ℕ → PacketVersion
version_of f = cond (eqb (table_offset f) 12) Two One

-- "The cabinet entry in the group file grows to six octets", has "two octets more" for the workshop and "a store-partner octet after its entry's
-- bookings": where that of cabinet i, numbered from 0, stands
abbrev pub entry_at : List ℕ → ℕ → ℕ
entry_at f i = table_in (version_of f) + 9 * i

-- "offset of the link table .., total length", both "following" the size of an entry
abbrev pub link_table : List ℕ → ℕ
link_table f = entry_at f (cabinet_count f)

abbrev pub total_length : List ℕ → ℕ
total_length f = link_table f + 2 * link_count f

-- "home (one octet), store mark (one octet, 0 or 1), booking (two octets)", of outlet A, then B's booking, the workshop's, and the partner
abbrev pub home_of : List ℕ → ℕ → ℕ
home_of f i = get_or f (entry_at f i) 0

abbrev pub store_mark : List ℕ → ℕ → ℕ
store_mark f i = get_or f (entry_at f i + 1) 0

abbrev pub booking_of : Outlet → List ℕ → ℕ → ℕ
booking_of A f i = number f (entry_at f i + 2)
booking_of B f i = number f (entry_at f i + 4)
booking_of W f i = number f (entry_at f i + 6)

-- "A store cabinet may name one partner store .., 0 for none"
abbrev pub partner_of : List ℕ → ℕ → ℕ
partner_of f i = get_or f (entry_at f i + 8) 0

-- link entry k: "two cabinet numbers, lower first"
abbrev pub lower_of : List ℕ → ℕ → ℕ
lower_of f k = get_or f (link_table f + 2 * k) 0

abbrev pub higher_of : List ℕ → ℕ → ℕ
higher_of f k = get_or f (link_table f + 2 * k + 1) 0

-- ---- the checks

-- "Version 2 files have a sixth header number, 2 (another gives 3)"
abbrev pub version_named : PacketVersion → List ℕ → Bool
version_named One f = true
version_named Two f = eqb (number f 10) 2

-- 3: "an offset or length wrong, or not the true length"
abbrev pub offsets_right : List ℕ → Bool
offsets_right f =
    eqb (table_offset f) (table_in (version_of f))
    && (version_named (version_of f) f
    && (eqb (number f 6) (link_table f) && (eqb (number f 8) (total_length f) && eqb (total_length f) (length f))))

-- the partner that a store names is 1 to n, "4 also for a partner that is itself, not a store, or not mutual"
abbrev pub partners_right : List ℕ → ℕ → ℕ → Bool
partners_right f i p =
    leb p (cabinet_count f) && (not (eqb p (i + 1)) && (eqb (store_mark f (p - 1)) 1 && eqb (partner_of f (p - 1)) (i + 1)))

-- none is named, or a store names one
abbrev pub partner_right : List ℕ → ℕ → Bool
partner_right f i = eqb (partner_of f i) 0 || (eqb (store_mark f i) 1 && partners_right f i (partner_of f i))

-- 4: the mark is 0 or 1, the home is 1 to n, the home is a store, and the partner is right
abbrev pub cabinet_right : List ℕ → ℕ → Bool
cabinet_right f i =
    leb (store_mark f i) 1
    && (leb 1 (home_of f i) && (leb (home_of f i) (cabinet_count f) && (eqb (store_mark f (home_of f i - 1)) 1 && partner_right f i)))

abbrev pub cabinets_right : ℕ → List ℕ → Bool
cabinets_right zero f = true
cabinets_right (suc n) f = cabinets_right n f && cabinet_right f n

-- 5: two numbers of 1 to n, lower first
abbrev pub link_right : List ℕ → ℕ → Bool
link_right f k = leb 1 (lower_of f k) && (ltb (lower_of f k) (higher_of f k) && leb (higher_of f k) (cabinet_count f))

-- "entries rise strictly by first, then second number": an entry as one number, and entry k above the one before it
abbrev pub order_of : List ℕ → ℕ → ℕ
order_of f k = lower_of f k * 256 + higher_of f k

abbrev pub rises_to : List ℕ → ℕ → Bool
rises_to f zero = true
rises_to f (suc k) = ltb (order_of f k) (order_of f (suc k))

abbrev pub links_right : ℕ → List ℕ → Bool
links_right zero f = true
links_right (suc k) f = links_right k f && (link_right f k && rises_to f k)

-- a's mark for b is set; the link of entry k, both ways
abbrev pub linked : Rows → ℕ → ℕ → Rows
linked rs a b = set rs a (set (get_or rs a []) b true)

abbrev pub with_link : Rows → List ℕ → ℕ → Rows
with_link rs f k = linked (linked rs (lower_of f k - 1) (higher_of f k - 1)) (higher_of f k - 1) (lower_of f k - 1)

-- the rows of marks that the first k link entries make
abbrev pub link_rows : ℕ → List ℕ → Rows
link_rows zero f = replicate 8 no_marks
link_rows (suc k) f = with_link (link_rows k f) f k

abbrev pub rows_in : List ℕ → Rows
rows_in f = link_rows (link_count f) f

-- the row of the cabinets that the file has
abbrev pub present : List ℕ → Marks
present f =
    ltb 0 (cabinet_count f) ∷ ltb 1 (cabinet_count f) ∷ ltb 2 (cabinet_count f) ∷ ltb 3 (cabinet_count f) ∷ ltb 4 (cabinet_count f)
    ∷ ltb 5 (cabinet_count f) ∷ ltb 6 (cabinet_count f) ∷ ltb 7 (cabinet_count f) ∷ []

-- "The feeder's total is the sum of the bookings in the file", and "is now over all outlets"; "Demand 3's total holds for each party by
-- itself", so each has its own
abbrev pub entry_total : List ℕ → Party → ℕ → ℕ
entry_total f Buses i = booking_of A f i + booking_of B f i
entry_total f Workshop i = booking_of W f i

abbrev pub feeder_total : List ℕ → Party → ℕ
feeder_total f y = sum (λ i. entry_total f y i) (cabinet_count f)

-- "7 for either party's total"
abbrev pub totals_right : List ℕ → Bool
totals_right f = leb (feeder_total f Buses) 65535 && leb (feeder_total f Workshop) 65535

abbrev pub refuse : Bool → ℕ → ℕ → ℕ
refuse true k next = next
refuse false k next = k

-- "where several apply, the first in the order written"
abbrev pub load_refusal : List ℕ → ℕ
load_refusal f =
    refuse (leb 10 (length f)) 1
    (refuse (leb 2 (cabinet_count f) && leb (cabinet_count f) 8) 2
    (refuse (offsets_right f) 3
    (refuse (cabinets_right (cabinet_count f) f) 4
    (refuse (links_right (link_count f) f) 5
    (refuse (connected (rows_in f) (present f)) 6
    (refuse (totals_right f) 7 0))))))

-- ---- the group

-- the entry's bookings, and notes that are "zero at the start"
abbrev pub image_of : List ℕ → ℕ → Image
image_of f i = with_booking (with_booking (with_booking blank_image A (booking_of A f i)) B (booking_of B f i)) W (booking_of W f i)

-- "At the start every version variable is 0 .. and every cabinet is in normal."; a table names "its coordinator, at first the lowest"
abbrev pub starting_cabinet : List ℕ → Rows → ℕ → Cabinet
starting_cabinet f rows i = record {
  phase = record { state = Normal; version = Known false; alarm = None };
  table = record { cabinets = present f; links = get_or rows i no_marks; lead = 0 };
  noted = nothing_noted;
  registers = start_registers;
  image = image_of f i;
  owed = no_marks;
}

abbrev pub cabinet_of : List ℕ → Rows → ℕ → Cabinet
cabinet_of f rows i = cond (ltb i (cabinet_count f)) (starting_cabinet f rows i) absent

abbrev pub cabinets_of : List ℕ → Rows → List Cabinet
cabinets_of f rows =
    cabinet_of f rows 0 ∷ cabinet_of f rows 1 ∷ cabinet_of f rows 2 ∷ cabinet_of f rows 3 ∷ cabinet_of f rows 4 ∷ cabinet_of f rows 5
    ∷ cabinet_of f rows 6 ∷ cabinet_of f rows 7 ∷ []

-- "slot 0 holds the starting images"
abbrev pub slots_of : List ℕ → ℕ → Slots
slots_of f i = cond (ltb i (cabinet_count f)) (record { zero = image_of f i; one = blank_image }) blank_slots

-- the numbers past n are at home nowhere, and are no stores
abbrev pub home_number : List ℕ → ℕ → ℕ
home_number f i = cond (ltb i (cabinet_count f)) (home_of f i - 1) 8

abbrev pub is_store_in : List ℕ → ℕ → Bool
is_store_in f i = ltb i (cabinet_count f) && eqb (store_mark f i) 1

-- a partner's number, 8 for none
abbrev pub partner_number : List ℕ → ℕ → ℕ
partner_number f i = cond (ltb i (cabinet_count f) && ltb 0 (partner_of f i)) (partner_of f i - 1) 8

abbrev pub stores_in : List ℕ → Marks
stores_in f =
    is_store_in f 0 ∷ is_store_in f 1 ∷ is_store_in f 2 ∷ is_store_in f 3 ∷ is_store_in f 4 ∷ is_store_in f 5 ∷ is_store_in f 6 ∷ is_store_in f 7 ∷ []

abbrev pub homes_in : List ℕ → List ℕ
homes_in f =
    home_number f 0 ∷ home_number f 1 ∷ home_number f 2 ∷ home_number f 3 ∷ home_number f 4 ∷ home_number f 5 ∷ home_number f 6 ∷ home_number f 7 ∷ []

abbrev pub partners_in : List ℕ → List ℕ
partners_in f =
    partner_number f 0 ∷ partner_number f 1 ∷ partner_number f 2 ∷ partner_number f 3 ∷ partner_number f 4 ∷ partner_number f 5
    ∷ partner_number f 6 ∷ partner_number f 7 ∷ []

-- every store is present, and both stores of a pair have the same slots
abbrev pub store_of : List ℕ → Store
store_of f = record {
  homes = homes_in f;
  stores = stores_in f;
  partners = partners_in f;
  present = stores_in f;
  firsts = of_each (slots_of f);
  seconds = of_each (slots_of f);
}

abbrev pub group_of : List ℕ → Rows → Group
group_of f rows = record {
  n = cabinet_count f;
  cabinets = cabinets_of f rows;
  links = of_rows rows;
  sound = of_rows rows;
  outgoing = replicate 8 empty_lines;
  store = store_of f;
  trips = no_trips;
  packets = version_of f;
  settled = None;
}

-- a refused file leaves no group
abbrev pub no_group : Group
no_group = record {
  n = 0;
  cabinets = replicate 8 absent;
  links = replicate 8 no_row;
  sound = replicate 8 no_row;
  outgoing = replicate 8 empty_lines;
  store = empty_store;
  trips = no_trips;
  packets = One;
  settled = None;
}

abbrev pub load_with : List ℕ → ℕ → Outcome
load_with f k = cond (eqb k 0) (answering 0 (group_of f (rows_in f))) (answering k no_group)

unfoldable pub load : List ℕ → Outcome
load f = load_with f (load_refusal f)
