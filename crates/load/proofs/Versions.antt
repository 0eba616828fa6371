-- A file that loads is one of its packet version, and is read as that.
use Prim.Native.Nat.{ℕ, ◌+◌, ◌-◌, ◌*◌, ◌<◌}
use mathlib.Core.Path.{◌≡◌, refl, sym, ◌∙◌, ap}
use mathlib.Core.Bool.{true, and-eq-true_iff}
use mathlib.Core.List.{List}
use native.Mathlib.Omega.{arith}
use lib.ListN.{length, get_or}
use lib.Dec.{eqb}
use borrow.Author.Tests.{eqb-true, eq-eqb, ne_eqb}
use Rattle.marks.specs.Reach.{Rows, mark}
use Rattle.outlet.specs.declared.Outlet.{Outlet}
use Rattle.outlet.specs.declared.Outlet.TheVariants.{A, B, W}
use Rattle.packet.specs.declared.PacketVersion.{PacketVersion}
use Rattle.packet.specs.declared.PacketVersion.TheVariants.{One, Two}
use Rattle.image.specs.Image.{booking}
use Rattle.cabinet.specs.declared.Cabinet.{Cabinet}
use Rattle.load.specs.Load.{number, cabinet_count, link_count, table_offset, table_in, version_of, link_table, total_length, booking_of, version_named, offsets_right, rows_in, image_of, group_of}
use Rattle.load.specs.Versions.{table_start, partner_named, SixthNumber, Written, Read, OneVersion, ReadAsWritten, NeverAsOther}
use Rattle.load.proofs.Lists.{chosen, other}
use Rattle.load.proofs.Passed.{Passed, passed}
use Rattle.load.proofs.Entries.{Entry, right_at, right_entry}
use Rattle.load.proofs.Stored.{store_in, store_at, partner_in, partner_at, home_is}
use Rattle.load.proofs.Links.{fair_links, entry_linked, only_entries}
use Rattle.load.proofs.Loaded.{no_refusal, the_group, here, rows_back}

same_start : (v : PacketVersion) → table_in v ≡ table_start v
same_start One = refl
same_start Two = refl

sixth : (v : PacketVersion) (f : List ℕ) → version_named v f ≡ true → SixthNumber v f
sixth One f r = tt
sixth Two f r = eqb-true (number f 10) 2 r

-- what check 3 asks, part by part
written : (f : List ℕ) → offsets_right f ≡ true → Written (version_of f) f
written f r =
    let v = version_of f in
    let start = same_start v in
    let first = (and-eq-true_iff (eqb (table_offset f) (table_in v)) _).0 r in
    let named = (and-eq-true_iff (version_named v f) _).0 first.1 in
    let links = (and-eq-true_iff (eqb (number f 6) (link_table f)) _).0 named.1 in
    let lengths = (and-eq-true_iff (eqb (number f 8) (total_length f)) (eqb (total_length f) (length f))).0 links.1 in
    let table = eqb-true (table_offset f) (table_in v) first.0 in
    let rows = eqb-true (number f 6) (link_table f) links.0 in
    let total = eqb-true (number f 8) (total_length f) lengths.0 in
    let whole = eqb-true (total_length f) (length f) lengths.1 in
    record {
      cabinets = omega arith;
      links = omega arith;
      total = omega arith;
      whole = omega arith;
      sixth = sixth v f named.0;
    }

-- ---- what is read

image_bookings : (o : Outlet) (f : List ℕ) (i : ℕ) → booking o (image_of f i) ≡ booking_of o f i
image_bookings A f i = omega arith
image_bookings B f i = omega arith
image_bookings W f i = omega arith

-- the definitions read at the offsets of the file's version
read : (f : List ℕ) → Passed f → Read (version_of f) f (group_of f (rows_in f))
read f ok =
    let table = same_start (version_of f) in
    let rows = rows_in f in
    let entry : (i : ℕ) → i < cabinet_count f → Entry f i = λ i h. right_entry f i (right_at f (cabinet_count f) ok.cabinets i h) in
    let marks = rows_back f rows (fair_links f (link_count f) ok.most ok.links).size in
    record {
      version = refl;
      count = refl;
      home = λ i h. home_is f ok.most entry i h ∙ ap (λ (at : ℕ). get_or f (at + 9 * i) 0 - 1) table;
      store = λ i h. store_at f ok.most i ∙ (store_in f i h ∙ ap (λ (at : ℕ). eqb (get_or f (at + 9 * i + 1) 0) 1) table);
      booked_a = λ i h. ap (λ (c : Cabinet). booking A c.image) (here f rows ok.most i h)
          ∙ (image_bookings A f i ∙ ap (λ (at : ℕ). number f (at + 9 * i + 2)) table);
      booked_b = λ i h. ap (λ (c : Cabinet). booking B c.image) (here f rows ok.most i h)
          ∙ (image_bookings B f i ∙ ap (λ (at : ℕ). number f (at + 9 * i + 4)) table);
      booked_w = λ i h. ap (λ (c : Cabinet). booking W c.image) (here f rows ok.most i h)
          ∙ (image_bookings W f i ∙ ap (λ (at : ℕ). number f (at + 9 * i + 6)) table);
      partner = λ i h. partner_at f ok.most i ∙ (partner_in f i h ∙ ap (λ (at : ℕ). partner_named (get_or f (at + 9 * i + 8) 0)) table);
      linked = λ k h. rw (marks, ← table) (entry_linked f (link_count f) ok.most ok.links k h);
      only = λ i j h e. rw (← table) (only_entries f (link_count f) ok.most ok.links i j h (sym (ap (λ (r : Rows). mark r i j) marks) ∙ e));
    }

-- ---- the claims

pub one_version : OneVersion
one_version f one two = omega (arith, one.cabinets, two.cabinets)

pub read_as_written : ReadAsWritten
read_as_written f e =
    let ok = passed f (no_refusal f e) in
    rw (the_group f e) (written f ok.offsets, read f ok)

-- the offset of the cabinet table says which
the_version : (v : PacketVersion) (f : List ℕ) → number f 4 ≡ table_start v → version_of f ≡ v
unfolding version_of
the_version One f e = other (eqb (number f 4) 12) Two One (ne_eqb (number f 4) 12 (λ q. omega arith))
the_version Two f e = chosen (eqb (number f 4) 12) Two One (eq-eqb (number f 4) 12 e)

pub never_as_other : NeverAsOther
never_as_other v f w e = rw (← the_version v f w.cabinets, the_group f e) (read f (passed f (no_refusal f e)))
