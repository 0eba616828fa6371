-- What holds of every file that is loaded: the group, lines and store start as document 01 says.
use Prim.Native.Nat.{ℕ, zero, suc, ◌+◌, ◌≤◌, ◌<◌}
use mathlib.Core.Path.{◌≡◌, refl, sym, ◌∙◌, ap}
use mathlib.Core.Bool.{Bool, true, false, cond}
use mathlib.Core.List.{List, []}
use native.Mathlib.Omega.{arith}
use native.Mathlib.Decide.{ℕ_discrete, dec_lt}
use lib.ListN.{length, get_or, get_or-eq_default}
use lib.Dec.{ltb, eqb, lit<}
use borrow.Author.Tests.{lt-ltb, le-ltb, eq-eqb, ne_eqb}
use Rattle.marks.specs.Marks.{marked, no_marks}
use Rattle.marks.specs.Reach.{Rows, mark}
use Rattle.line.specs.Line.{empty_line}
use Rattle.cabinet.specs.declared.Cabinet.{Cabinet}
use Rattle.state.specs.State.{works}
use Rattle.outlet.specs.declared.Outlet.{Outlet}
use Rattle.outlet.specs.declared.Outlet.TheVariants.{A, B, W}
use Rattle.outlet.specs.declared.Party.{Party}
use Rattle.outlet.specs.declared.Party.TheVariants.{Buses, Workshop}
use Rattle.image.specs.Image.{blank_image, booked, with_booking}
use Rattle.image.proofs.Laws.{booking_small}
use Rattle.cabinet.specs.Cabinet.{absent}
use Rattle.outgoing.specs.declared.Outgoing.{Outgoing}
use Rattle.group.specs.declared.Group.{Group}
use Rattle.group.specs.declared.Outcome.{Outcome}
use Rattle.outgoing.specs.Lines.{empty_lines, line_to}
use Rattle.group.specs.Group.{cabinet, outgoing, line, rows_of, of_rows, working, answering, sum}
use Rattle.load.specs.Load.{cabinet_count, link_count, entry_at, booking_of, entry_total, rows_in, present, load_refusal, image_of, starting_cabinet, cabinet_of, cabinets_of, group_of, no_group, load_with, load}
use Rattle.load.specs.Starts.{Starts}
use Rattle.load.proofs.Lists.{eight, made, read_back, repeated, chosen, other}
use Rattle.marks.proofs.Lists.{get_d_in}
use Rattle.load.proofs.Passed.{Passed, passed}
use Rattle.load.proofs.Entries.{Entry, right_at, right_entry}
use Rattle.load.proofs.Stored.{slot_here, slot_gone, slot_one, either_slot, served, home_is_in, home_there, present_within}
use Rattle.load.proofs.Links.{Fair, fair_links, connected_same}

-- ---- an answer of 0 is a group that no check refused

accepted : (f : List ℕ) (k : ℕ) → (load_with f k).answer ≡ 0 → k ≡ 0
accepted f k e =
    elim (ℕ_discrete k 0) [
      | yes q ↦ q
      | no d ↦ sym (ap (λ (o : Outcome). o.answer) (other (eqb k 0) (answering 0 (group_of f (rows_in f))) (answering k no_group) (ne_eqb k 0 d))) ∙ e
    ]

pub no_refusal : (f : List ℕ) → (load f).answer ≡ 0 → load_refusal f ≡ 0
unfolding load
no_refusal f e = accepted f (load_refusal f) e

pub the_group : (f : List ℕ) → (load f).answer ≡ 0 → (load f).group ≡ group_of f (rows_in f)
unfolding load
the_group f e =
    ap (λ (o : Outcome). o.group)
    (chosen (eqb (load_refusal f) 0) (answering 0 (group_of f (rows_in f))) (answering (load_refusal f) no_group) (eq-eqb (load_refusal f) 0 (no_refusal f e)))

-- ---- octets

pub blank_octet : (k : ℕ) → get_or blank_image.octets k 0 < 256
blank_octet k = omega (arith, repeated {A = ℕ} 32 k 0)

pub image_octet : (f : List ℕ) → ((i : ℕ) → get_or f i 0 < 256) → (i k : ℕ) → get_or (image_of f i).octets k 0 < 256
image_octet f small i =
    booking_small W (with_booking (with_booking blank_image A (booking_of A f i)) B (booking_of B f i)) (booking_of W f i) (lt W)
    (booking_small B (with_booking blank_image A (booking_of A f i)) (booking_of B f i) (lt B)
    (booking_small A blank_image (booking_of A f i) (lt A) blank_octet))
  where
    lt : (o : Outlet) → booking_of o f i < 65536
    lt A = omega (arith, small (entry_at f i + 2), small (entry_at f i + 2 + 1))
    lt B = omega (arith, small (entry_at f i + 4), small (entry_at f i + 4 + 1))
    lt W = omega (arith, small (entry_at f i + 6), small (entry_at f i + 6 + 1))

image_booked : (y : Party) (f : List ℕ) (i : ℕ) → booked y (image_of f i) ≡ entry_total f y i
image_booked Buses f i = omega arith
image_booked Workshop f i = omega arith

plus : {a b c d : ℕ} → a ≡ b → c ≡ d → a + c ≡ b + d
plus p q = rw (p, q)

not_marked : (b : Bool) → (b ≡ true → ⊥) → b ≡ false
not_marked true d = absurd (d refl)
not_marked false d = refl

same_truth : (a b : Bool) → (a ≡ true → b ≡ true) → (b ≡ true → a ≡ true) → a ≡ b
same_truth true b p q = sym (p refl)
same_truth false true p q = q refl
same_truth false false p q = refl

le_refl : (n : ℕ) → n ≤ n
le_refl n = omega arith

-- ---- what stands at a number

module _ (f : List ℕ) (rows : Rows) where
  abbrev g : Group
  g = group_of f rows

  cabinet_at : (i : ℕ) → i < 8 → cabinet g i ≡ cabinet_of f rows i
  unfolding cabinet
  cabinet_at i h = made (cabinet_of f rows) absent i h

  cabinet_out : (i : ℕ) → 8 ≤ i → cabinet g i ≡ absent
  unfolding cabinet
  cabinet_out i h = get_or-eq_default (cabinets_of f rows) absent h

  module _ (most : cabinet_count f ≤ 8) where
    pub here : (i : ℕ) → i < cabinet_count f → cabinet g i ≡ starting_cabinet f rows i
    here i h = cabinet_at i (omega arith) ∙ chosen (ltb i (cabinet_count f)) (starting_cabinet f rows i) absent (lt-ltb i (cabinet_count f) h)

    gone : (i : ℕ) → cabinet_count f ≤ i → cabinet g i ≡ absent
    gone i h =
        elim (dec_lt i 8) [
          | yes l ↦ cabinet_at i l ∙ other (ltb i (cabinet_count f)) (starting_cabinet f rows i) absent (le-ltb i (cabinet_count f) h)
          | no l ↦ cabinet_out i (omega arith)
        ]

    -- what holds of a cabinet of the file and of none, holds at every number
    either : (P : Cabinet → Type 0) (i : ℕ) → P (starting_cabinet f rows i) → P absent → P (cabinet g i)
    either P i s a = elim (dec_lt i (cabinet_count f)) [ yes h ↦ rw (here i h) s | no h ↦ rw (gone i (omega arith)) a ]

    -- ---- the bookings

    booked_to : (y : Party) (m : ℕ) → m ≤ cabinet_count f → sum (λ i. booked y (cabinet g i).image) m ≡ sum (λ i. entry_total f y i) m
    unfolding sum
    booked_to y zero h = refl
    booked_to y (suc m) h = plus (ap (λ (c : Cabinet). booked y c.image) (here m (omega arith)) ∙ image_booked y f m) (booked_to y m (omega arith))

  -- ---- the lines

  outgoing_empty : (i : ℕ) → outgoing g i ≡ empty_lines
  unfolding outgoing
  outgoing_empty i = repeated 8 i empty_lines

  line_empty : (i j : ℕ) → line g i j ≡ empty_line
  unfolding line line_to empty_lines
  line_empty i j = ap (λ (o : Outgoing). line_to o j) (outgoing_empty i) ∙ repeated 8 j empty_line

  -- ---- the links

  works_if : (b : Bool) (i : ℕ) → works (cond b (starting_cabinet f rows i) absent).phase.state ≡ b
  works_if true i = refl
  works_if false i = refl

  works_at : (i : ℕ) → i < 8 → works (cabinet g i).phase.state ≡ ltb i (cabinet_count f)
  works_at i h = ap (λ (c : Cabinet). works c.phase.state) (cabinet_at i h) ∙ works_if (ltb i (cabinet_count f)) i

  working_present : working g ≡ present f
  unfolding working
  working_present =
      eight (works_at 0 (lit< tt)) (works_at 1 (lit< tt)) (works_at 2 (lit< tt)) (works_at 3 (lit< tt)) (works_at 4 (lit< tt)) (works_at 5 (lit< tt)) (works_at 6 (lit< tt)) (works_at 7 (lit< tt))

  pub rows_back : length rows ≡ 8 → rows_of (of_rows rows) ≡ rows
  unfolding rows_of of_rows
  rows_back e = read_back rows no_marks e

  eight_rows : length (of_rows rows) ≡ 8
  unfolding of_rows
  eight_rows = refl

  -- ---- the whole, where no check refuses the file

  module _ (ok : Passed f) (fair : Fair (cabinet_count f) rows) where
    row_eight : (i : ℕ) → length (get_or rows i no_marks) ≡ 8
    row_eight i =
        elim (dec_lt i 8) [
          | yes h ↦ ap length (get_d_in rows i no_marks [] (omega (arith, fair.size))) ∙ fair.row_size i h
          | no h ↦ ap length (get_or-eq_default rows no_marks {n = i} (omega (arith, fair.size)))
        ]

    presence : (i : ℕ) → marked (present f) i ≡ ltb i (cabinet_count f)
    presence i =
        elim (dec_lt i 8) [
          | yes h ↦ made (λ k. ltb k (cabinet_count f)) false i h
          | no h ↦ get_or-eq_default (present f) false {n = i} (omega arith) ∙ sym (le-ltb i (cabinet_count f) (omega (arith, ok.most)))
        ]

    entry : (i : ℕ) → i < cabinet_count f → Entry f i
    entry i h = right_entry f i (right_at f (cabinet_count f) ok.cabinets i h)

    sound_links : Fair (cabinet_count f) (rows_of (of_rows rows))
    sound_links = rw (rows_back fair.size) fair

    no_mark : (i j : ℕ) → (mark (rows_of (of_rows rows)) i j ≡ true → ⊥) → mark (rows_of (of_rows rows)) i j ≡ false
    no_mark i j d = not_marked (mark (rows_of (of_rows rows)) i j) d

    started : rows ≡ rows_in f → ((i : ℕ) → get_or f i 0 < 256) → Starts f g
    started file small = record {
      count = refl;
      least = ok.least;
      most = ok.most;
      eight_cabinets = refl;
      eight_links = eight_rows;
      eight_sound = eight_rows;
      eight_outgoing = refl;
      eight_rows = sound_links.size;
      eight_marks = λ i h. ap (λ (r : Rows). length (get_or r i no_marks)) (rows_back fair.size) ∙ row_eight i;
      eight_in_tables = λ i. either ok.most (λ c. (length c.table.cabinets ≡ 8) × (length c.table.links ≡ 8)) i (refl, row_eight i) (refl, refl);
      image_size = λ i. either ok.most (λ c. length c.image.octets ≡ 32) i refl refl;
      slot_size = λ h i v. either_slot f ok.most (λ m. length m.octets ≡ 32) h i v refl refl;
      starting = λ i h. here ok.most i h ∙ ap (λ (r : Rows). starting_cabinet f r i) file;
      phase = λ i h. ap (λ (c : Cabinet). c.phase) (here ok.most i h);
      in_table = λ i h. ap (λ (c : Cabinet). c.table.cabinets) (here ok.most i h);
      leading = λ i h. ap (λ (c : Cabinet). c.table.lead) (here ok.most i h);
      own_links = λ i h. ap (λ (c : Cabinet). c.table.links) (here ok.most i h) ∙ ap (λ (r : Rows). get_or r i no_marks) (sym (rows_back fair.size));
      noted = λ i h. ap (λ (c : Cabinet). c.noted) (here ok.most i h);
      registers = λ i h. ap (λ (c : Cabinet). c.registers) (here ok.most i h);
      owed = λ i h. ap (λ (c : Cabinet). c.owed) (here ok.most i h);
      image = λ i h. ap (λ (c : Cabinet). c.image) (here ok.most i h);
      presence = presence;
      at_work = working_present;
      past = gone ok.most;
      lines_empty = outgoing_empty;
      empty = line_empty;
      slot_zero = λ h i l. slot_here f ok.most h i l ∙ sym (ap (λ (c : Cabinet). c.image) (here ok.most i l));
      slot_one = slot_one f ok.most;
      slot_past = slot_gone f ok.most;
      stored = served f ok.most entry;
      homed = home_is_in f ok.most entry;
      home_present = home_there f ok.most entry;
      present_below = present_within f ok.most entry;
      file_links = rows_back fair.size ∙ file;
      all_sound = refl;
      both_ways = λ i j. same_truth (mark (rows_of (of_rows rows)) i j) (mark (rows_of (of_rows rows)) j i) (sound_links.both_ways i j) (sound_links.both_ways j i);
      not_self = λ i. no_mark i i (sound_links.not_self i);
      none_from_past = λ i j h. no_mark i j (λ m. let b = sound_links.below i j m in omega arith);
      none_to_past = λ i j h. no_mark i j (λ m. let b = sound_links.below i j m in omega arith);
      joined = connected_same (rows_back fair.size ∙ file) working_present ∙ ok.joined;
      total = λ y. booked_to ok.most y (cabinet_count f) (le_refl (cabinet_count f));
      total_most = ok.total;
      image_octets = λ i k. either ok.most (λ c. get_or c.image.octets k 0 < 256) i (image_octet f small i k) (blank_octet k);
      slot_octets = λ h i v k. either_slot f ok.most (λ m. get_or m.octets k 0 < 256) h i v (image_octet f small i k) (blank_octet k);
    }

-- every group that load answers with 0 starts as document 01 says
pub starts : (f : List ℕ) → ((i : ℕ) → get_or f i 0 < 256) → (load f).answer ≡ 0 → Starts f (load f).group
starts f small e =
    let ok = passed f (no_refusal f e) in
    rw (the_group f e) (started f (rows_in f) ok (fair_links f (link_count f) ok.most ok.links) refl small)
