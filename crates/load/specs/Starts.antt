-- What holds of the group, lines and store that a file is loaded to.
use Rattle.std.specs.Prelude.{ℕ, ◌-◌, ◌≤◌, ◌<◌, ◌≡◌, Bool, true, false, List, length, get_or, ltb, None}
use Rattle.marks.specs.Marks.{marked, no_marks}
use Rattle.marks.specs.Reach.{mark, connected}
use Rattle.outlet.specs.declared.Party.{Party}
use Rattle.line.specs.Line.{empty_line}
use Rattle.state.specs.declared.State.TheVariants.{Normal}
use Rattle.state.specs.declared.Version.TheVariants.{Known}
use Rattle.image.specs.Image.{blank_image, booked}
use Rattle.registers.specs.Registers.{start_registers}
use Rattle.cabinet.specs.Cabinet.{nothing_noted, absent}
use Rattle.store.specs.Store.{is_present}
use Rattle.store.specs.Served.{Served}
use Rattle.group.specs.declared.Group.{Group}
use Rattle.outgoing.specs.Lines.{empty_lines}
use Rattle.group.specs.Group.{cabinet, outgoing, line, home, slot, rows_of, working, sum}
use Rattle.load.specs.Load.{cabinet_count, home_of, rows_in, present, feeder_total, image_of, starting_cabinet}

pub record Starts (f : List ℕ) (g : Group) : Type 0 where
  -- the number of cabinets is the file's, 2 to 8
  pub count : g.n ≡ cabinet_count f
  pub least : 2 ≤ g.n
  pub most : g.n ≤ 8
  -- every list has its eight places, every row its eight marks, every image its 32 octets
  pub eight_cabinets : length g.cabinets ≡ 8
  pub eight_links : length g.links ≡ 8
  pub eight_sound : length g.sound ≡ 8
  pub eight_outgoing : length g.outgoing ≡ 8
  pub eight_rows : length (rows_of g.links) ≡ 8
  pub eight_marks : (i : ℕ) → i < 8 → length (get_or (rows_of g.links) i no_marks) ≡ 8
  pub eight_in_tables : (i : ℕ) → (length (cabinet g i).table.cabinets ≡ 8) × (length (cabinet g i).table.links ≡ 8)
  pub image_size : (i : ℕ) → length (cabinet g i).image.octets ≡ 32
  pub slot_size : (h i : ℕ) (v : Bool) → length (slot g h i v).octets ≡ 32
  -- a cabinet of the file, whole and part by part
  pub starting : (i : ℕ) → i < g.n → cabinet g i ≡ starting_cabinet f (rows_in f) i
  pub phase : (i : ℕ) → i < g.n → (cabinet g i).phase ≡ record { state = Normal; version = Known false; alarm = None }
  pub in_table : (i : ℕ) → i < g.n → (cabinet g i).table.cabinets ≡ present f
  pub leading : (i : ℕ) → i < g.n → (cabinet g i).table.lead ≡ 0
  pub own_links : (i : ℕ) → i < g.n → (cabinet g i).table.links ≡ get_or (rows_of g.links) i no_marks
  pub noted : (i : ℕ) → i < g.n → (cabinet g i).noted ≡ nothing_noted
  pub registers : (i : ℕ) → i < g.n → (cabinet g i).registers ≡ start_registers
  pub owed : (i : ℕ) → i < g.n → (cabinet g i).owed ≡ no_marks
  pub image : (i : ℕ) → i < g.n → (cabinet g i).image ≡ image_of f i
  -- exactly the cabinets below n are present, and work
  pub presence : (i : ℕ) → marked (present f) i ≡ ltb i g.n
  pub at_work : working g ≡ present f
  -- the numbers past n have no cabinet
  pub past : (i : ℕ) → g.n ≤ i → cabinet g i ≡ absent
  -- every line is empty
  pub lines_empty : (i : ℕ) → outgoing g i ≡ empty_lines
  pub empty : (i j : ℕ) → line g i j ≡ empty_line
  -- "slot 0 holds the starting images", at every store; slot 1, and the slots past n, hold nothing yet
  pub slot_zero : (h i : ℕ) → i < g.n → slot g h i false ≡ (cabinet g i).image
  pub slot_one : (h i : ℕ) → slot g h i true ≡ blank_image
  pub slot_past : (h i : ℕ) (v : Bool) → g.n ≤ i → slot g h i v ≡ blank_image
  -- "each cabinet has one store cabinet as its home": the file's, which is present, and so every store
  pub stored : Served g.store
  pub homed : (i : ℕ) → i < g.n → home g i ≡ home_of f i - 1
  pub home_present : (i : ℕ) → i < g.n → is_present g.store (home g i) ≡ true
  pub present_below : (h : ℕ) → is_present g.store h ≡ true → h < g.n
  -- the links are the file's: both ways, none to oneself, none past n; none is found faulty yet
  pub file_links : rows_of g.links ≡ rows_in f
  pub all_sound : g.sound ≡ g.links
  pub both_ways : (i j : ℕ) → mark (rows_of g.links) i j ≡ mark (rows_of g.links) j i
  pub not_self : (i : ℕ) → mark (rows_of g.links) i i ≡ false
  pub none_from_past : (i j : ℕ) → g.n ≤ i → mark (rows_of g.links) i j ≡ false
  pub none_to_past : (i j : ℕ) → g.n ≤ j → mark (rows_of g.links) i j ≡ false
  pub joined : connected (rows_of g.sound) (working g) ≡ true
  -- the bookings of each party add up to its total
  pub total : (y : Party) → sum (λ i. booked y (cabinet g i).image) g.n ≡ feeder_total f y
  pub total_most : (y : Party) → feeder_total f y ≤ 65535
  -- every octet of every image is one
  pub image_octets : (i k : ℕ) → get_or (cabinet g i).image.octets k 0 < 256
  pub slot_octets : (h i : ℕ) (v : Bool) (k : ℕ) → get_or (slot g h i v).octets k 0 < 256
