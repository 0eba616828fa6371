-- What covers an image, a packet, a line, registers and a cabinet goes through every change of one.
use Rattle.std.specs.Prelude.{None, Some}
use Prim.Native.Nat.{ℕ, zero, suc, ◌+◌, ◌-◌, ◌*◌, ◌/◌, ◌%◌, ◌≤◌}
use mathlib.Core.Path.{◌≡◌, refl, sym, ap, ◌∙◌}
use mathlib.Core.Bool.{Bool, true, false, cond, ◌||◌}
use mathlib.Core.List.{List, [], ◌∷◌, map, map-append}
use native.Mathlib.Omega.{arith}
use lib.ListN.{get_or, set, replicate, get_or-map}
use lib.Dec.{eqb}
use borrow.Author.Tests.{eq-eqb, ne_eqb}
use Rattle.marks.specs.Marks.{Marks, marked}
use Rattle.outlet.specs.declared.Outlet.{Outlet}
use Rattle.outlet.specs.declared.Outlet.TheVariants.{A, B, W}
use Rattle.outlet.specs.declared.Party.{Party}
use Rattle.outlet.specs.declared.Party.TheVariants.{Buses, Workshop}
use Rattle.outlet.specs.Outlet.{party_of, same_party}
use Rattle.packet.specs.Packet.{OwnCheck}
use Rattle.packet.specs.declared.Payload.{Payload}
use Rattle.packet.specs.declared.Check.{Check}
use Rattle.packet.specs.declared.Packet.{Packet}
use Rattle.packet.specs.declared.Packet.TheVariants.{Empty, Normal as NormalPacket, Checkp, Resume, Recover, Fault, Invalid}
use Rattle.packet.specs.Packet.{start_check, own_check, fits, is_empty, is_normal, is_of}
use Rattle.line.specs.declared.Cell.{Cell}
use Rattle.line.specs.declared.Line.{Line}
use Rattle.line.specs.Line.{empty_cell, packet_at, rest_cells, rest, put_cells, put, normals_in, normals, without_cells, without, replaced}
use Rattle.outgoing.specs.declared.Outgoing.{Outgoing}
use Rattle.outgoing.specs.Lines.{empty_lines, line_to, with_line_to, laden, put_if, put_row_to, put_all, checkps, put_checkps}
use Rattle.image.specs.declared.Image.{Image}
use Rattle.image.specs.Image.{booking, with_booking, first_note, with_octet, piece_to, with_piece}
use Rattle.pairs.specs.Covered.{cover_octet, cover_from, cover_image, cover_of, cover_own, cover_payload, cover_check, cover_packet, cover_cell, cover_line, cover_outgoing}

-- ---- lists

pub map_set : {A B : Type 0} (f : A → B) (l : List A) (i : ℕ) (x : A) → map f (set l i x) ≡ set (map f l) i (f x)
map_set f [] i x = refl
map_set f (y ∷ l) zero x = refl
map_set f (y ∷ l) (suc i) x = ap (λ k. f y ∷ k) (map_set f l i x)

pub map_repeated : {A B : Type 0} (f : A → B) (n : ℕ) (x : A) → map f (replicate n x) ≡ replicate n (f x)
map_repeated f zero x = refl
map_repeated f (suc n) x = ap (λ k. f x ∷ k) (map_repeated f n x)

pub choose : {A B : Type 0} (f : A → B) (t : Bool) (x y : A) → f (cond t x y) ≡ cond t (f x) (f y)
choose f true x y = refl
choose f false x y = refl

-- ---- octets

cover_0 : (i : ℕ) → cover_octet i 0 ≡ 0
cover_0 i = go (eqb i 4 || eqb i 5)
  where
    go : (t : Bool) → ◌≡◌ {A = ℕ} (cond t 0 0) 0
    go true = refl
    go false = refl

here : (s : ℕ) → s ≡ s + 0
here s = omega arith

there : (s i : ℕ) → suc s + i ≡ s + suc i
there s i = omega arith

first : (i : ℕ) → 0 + i ≡ i
first i = omega arith

get_from : (s : ℕ) (l : List ℕ) (i : ℕ) → get_or (cover_from s l) i 0 ≡ cover_octet (s + i) (get_or l i 0)
unfolding cover_from
get_from s [] i = sym (cover_0 (s + i))
get_from s (x ∷ l) zero = ap (λ k. cover_octet k x) (here s)
get_from s (x ∷ l) (suc i) = get_from (suc s) l i ∙ ap (λ k. cover_octet k (get_or l i 0)) (there s i)

set_from : (s : ℕ) (l : List ℕ) (i x : ℕ) → cover_from s (set l i x) ≡ set (cover_from s l) i (cover_octet (s + i) x)
unfolding cover_from
set_from s [] i x = refl
set_from s (y ∷ l) zero x = ap (λ k. cover_octet k x ∷ cover_from (suc s) l) (here s)
set_from s (y ∷ l) (suc i) x = ap (λ k. cover_octet s y ∷ k) (set_from (suc s) l i x ∙ ap (λ k. set (cover_from (suc s) l) i (cover_octet k x)) (there s i))

-- what is covered at a place is gone whatever is stored there
gone_from : (s : ℕ) (l : List ℕ) (i x : ℕ) → ((y : ℕ) → cover_octet (s + i) y ≡ 0) → cover_from s (set l i x) ≡ cover_from s l
unfolding cover_from
gone_from s [] i x none = refl
gone_from s (y ∷ l) zero x none =
    let at : (z : ℕ) → cover_octet s z ≡ 0 = λ z. ap (λ k. cover_octet k z) (here s) ∙ none z in
    ap (λ k. k ∷ cover_from (suc s) l) (at x ∙ sym (at y))
gone_from s (y ∷ l) (suc i) x none = ap (λ k. cover_octet s y ∷ k) (gone_from (suc s) l i x (λ z. ap (λ k. cover_octet k z) (there s i) ∙ none z))

-- ---- images

pub octet_covered : (m : Image) (i : ℕ) → get_or (cover_image m).octets i 0 ≡ cover_octet i (get_or m.octets i 0)
unfolding cover_image
octet_covered m i = get_from 0 m.octets i ∙ ap (λ k. cover_octet k (get_or m.octets i 0)) (first i)

pub stored_covered : (m : Image) (i x : ℕ) → cover_image (with_octet m i x) ≡ with_octet (cover_image m) i (cover_octet i x)
unfolding cover_image
stored_covered m i x =
    ap (λ (l : List ℕ). record { octets = l }) (set_from 0 m.octets i x ∙ ap (λ k. set (cover_from 0 m.octets) i (cover_octet k x)) (first i))

hidden : (m : Image) (i x : ℕ) → ((y : ℕ) → cover_octet i y ≡ 0) → cover_image (with_octet m i x) ≡ cover_image m
unfolding cover_image
hidden m i x none = ap (λ (l : List ℕ). record { octets = l }) (gone_from 0 m.octets i x (λ y. ap (λ k. cover_octet k y) (first i) ∙ none y))

-- bookings of the buses are not covered
pub booking_covered : (o : Outlet) (m : Image) → party_of o ≡ Buses → booking o (cover_image m) ≡ booking o m
booking_covered A m e = rw (octet_covered m 0, octet_covered m 1)
booking_covered B m e = rw (octet_covered m 2, octet_covered m 3)
booking_covered W m e = absurd (workshop_other e)
  where
    workshop_other : Workshop ≡ Buses → ⊥
    workshop_other q = absurd (let z : ◌≡◌ {A = ℕ} 0 1 = ap (λ (y : Party). cond (same_party y Buses) 1 0) q in omega (arith, z))

pub bus_covered : (o : Outlet) (m : Image) (v : ℕ) → party_of o ≡ Buses → cover_image (with_booking m o v) ≡ with_booking (cover_image m) o v
bus_covered A m v e = stored_covered (with_octet m 0 (v / 256)) 1 (v % 256) ∙ ap (λ (x : Image). with_octet x 1 (v % 256)) (stored_covered m 0 (v / 256))
bus_covered B m v e = stored_covered (with_octet m 2 (v / 256)) 3 (v % 256) ∙ ap (λ (x : Image). with_octet x 3 (v % 256)) (stored_covered m 2 (v / 256))
bus_covered W m v e = absurd (let z : ◌≡◌ {A = ℕ} 0 1 = ap (λ (y : Party). cond (same_party y Buses) 1 0) e in omega (arith, z))

-- the workshop's is
pub workshop_covered : (m : Image) (v : ℕ) → cover_image (with_booking m W v) ≡ cover_image m
workshop_covered m v = hidden (with_octet m 4 (v / 256)) 5 (v % 256) (λ y. refl) ∙ hidden m 4 (v / 256) (λ y. refl)

pub note_covered : (m : Image) (p v : ℕ) → first_note ≤ p → cover_image (with_octet m p v) ≡ with_octet (cover_image m) p v
note_covered m p v noted = stored_covered m p v ∙ ap (with_octet (cover_image m) p) (kept (eqb p 4) (eqb p 5) (apart 4 (omega arith)) (apart 5 (omega arith)))
  where
    apart : (k : ℕ) → (k ≡ p → ⊥) → eqb p k ≡ false
    apart k n = ne_eqb p k (λ e. n (sym e))

    kept : (t u : Bool) → t ≡ false → u ≡ false → cond (t || u) 0 v ≡ v
    kept t u e f = rw (e, f)

piece_covered : (n k : ℕ) (from to : Image) → cover_image (piece_to n k from to) ≡ piece_to n k (cover_image from) (cover_image to)
piece_covered zero k from to = refl
piece_covered (suc n) k from to =
    stored_covered (piece_to n k from to) (k * 8 + n) (get_or from.octets (k * 8 + n) 0)
    ∙ ap (with_octet (cover_image (piece_to n k from to)) (k * 8 + n)) (sym (octet_covered from (k * 8 + n)))
    ∙ ap (λ (x : Image). with_octet x (k * 8 + n) (get_or (cover_image from).octets (k * 8 + n) 0)) (piece_covered n k from to)

pub whole_piece_covered : (k : ℕ) (from to : Image) → cover_image (with_piece k from to) ≡ with_piece k (cover_image from) (cover_image to)
whole_piece_covered k from to = piece_covered 8 k from to

-- ---- packets

pub outlet_covered : (p : Payload) → (cover_payload p).outlet ≡ p.outlet
unfolding cover_payload
outlet_covered p = go (party_of p.outlet)
  where
    go : (y : Party) → (cover_of y p).outlet ≡ p.outlet
    go Buses = refl
    go Workshop = refl

pub bus_packet : (p : Payload) → party_of p.outlet ≡ Buses → cover_payload p ≡ p
unfolding cover_payload
bus_packet p e = rw e

pub workshop_packet : (p : Payload) → party_of p.outlet ≡ Workshop
    → cover_payload p ≡ record { outlet = p.outlet; amount = 0; own = cover_own (fits p) p.own }
unfolding cover_payload
workshop_packet p e = rw e

-- whether a packet fits is not covered
pub fits_covered : (p : Payload) → fits (cover_payload p) ≡ fits p
unfolding cover_payload fits
fits_covered p = go p.outlet p.own refl refl
  where
    chosen : (t : Bool) → eqb (cond t (own_check W 0) (own_check W 0 + 1)) (own_check W 0) ≡ t
    chosen true = eq-eqb (own_check W 0) (own_check W 0) refl
    chosen false = ne_eqb (own_check W 0 + 1) (own_check W 0) (λ e. omega (arith, e))

    go : (o : Outlet) (c : OwnCheck) → p.outlet ≡ o → p.own ≡ c → fits (cover_of (party_of p.outlet) p) ≡ fits p
    go A c e f = rw e
    go B c e f = rw e
    go W None e f = rw (e, f)
    go W (Some c) e f = rw (e, f) (chosen (eqb c (own_check W p.amount)))

pub empty_covered : (p : Packet) → is_empty (cover_packet p) ≡ is_empty p
empty_covered Empty = refl
empty_covered (NormalPacket p) = refl
empty_covered (Checkp v) = refl
empty_covered Resume = refl
empty_covered (Recover v) = refl
empty_covered (Fault p) = refl
empty_covered Invalid = refl

pub normal_covered : (p : Packet) → is_normal (cover_packet p) ≡ is_normal p
normal_covered Empty = refl
normal_covered (NormalPacket p) = refl
normal_covered (Checkp v) = refl
normal_covered Resume = refl
normal_covered (Recover v) = refl
normal_covered (Fault p) = refl
normal_covered Invalid = refl

party_covered : (y : Party) (p : Packet) → is_of y (cover_packet p) ≡ is_of y p
party_covered y Empty = refl
party_covered y (NormalPacket p) = ap (λ o. same_party (party_of o) y) (outlet_covered p)
party_covered y (Checkp v) = refl
party_covered y Resume = refl
party_covered y (Recover v) = refl
party_covered y (Fault p) = refl
party_covered y Invalid = refl

-- ---- lines

pub at_covered : (l : Line) (k : ℕ) → packet_at (cover_line l) k ≡ cover_packet (packet_at l k)
at_covered l k = ap (λ (c : Cell). c.packet) (get_or-map cover_cell l.cells k empty_cell)

line_of : {k l : List Cell} → k ≡ l → ◌≡◌ {A = Line} (record { cells = k }) (record { cells = l })
line_of e = ap (λ (l : List Cell). record { cells = l }) e

rest_cells_lem : (l : List Cell) → map cover_cell (rest_cells l) ≡ rest_cells (map cover_cell l)
rest_cells_lem [] = refl
rest_cells_lem (c ∷ cs) = map-append cover_cell cs (empty_cell ∷ [])

pub rest_covered : (l : Line) → cover_line (rest l) ≡ rest (cover_line l)
rest_covered l = line_of (rest_cells_lem l.cells)

put_cells_lem : (l : List Cell) (p : Packet) → map cover_cell (put_cells l p) ≡ put_cells (map cover_cell l) (cover_packet p)
put_cells_lem [] p = refl
put_cells_lem (c ∷ cs) p =
    choose (map cover_cell) (is_empty c.packet) (record { packet = p } ∷ cs) (c ∷ put_cells cs p)
    ∙ ap (λ t. cond t (record { packet = cover_packet p } ∷ map cover_cell cs) (cover_cell c ∷ map cover_cell (put_cells cs p))) (sym (empty_covered c.packet))
    ∙ ap (λ (k : List Cell). cond (is_empty (cover_packet c.packet)) (record { packet = cover_packet p } ∷ map cover_cell cs) (cover_cell c ∷ k)) (put_cells_lem cs p)

pub put_covered : (l : Line) (p : Packet) → cover_line (put l p) ≡ put (cover_line l) (cover_packet p)
put_covered l p = line_of (put_cells_lem l.cells p)

without_cells_lem : (l : List Cell) (k : ℕ) → map cover_cell (without_cells l k) ≡ without_cells (map cover_cell l) k
without_cells_lem [] k = refl
without_cells_lem (c ∷ cs) zero = map-append cover_cell cs (empty_cell ∷ [])
without_cells_lem (c ∷ cs) (suc k) = ap (λ (l : List Cell). cover_cell c ∷ l) (without_cells_lem cs k)

pub without_covered : (l : Line) (k : ℕ) → cover_line (without l k) ≡ without (cover_line l) k
without_covered l k = line_of (without_cells_lem l.cells k)

pub replaced_covered : (l : Line) (k : ℕ) (p : Packet) → cover_line (replaced l k p) ≡ replaced (cover_line l) k (cover_packet p)
replaced_covered l k p = line_of (map_set cover_cell l.cells k (record { packet = p }))

counted : (y : Party) (l : List Cell) → normals_in y (map cover_cell l) ≡ normals_in y l
counted y [] = refl
counted y (c ∷ cs) = rw (party_covered y c.packet, counted y cs)

pub normals_covered : (y : Party) (l : Line) → normals y (cover_line l) ≡ normals y l
normals_covered y l = counted y l.cells

-- ---- a cabinet's lines

pub line_covered : (o : Outgoing) (j : ℕ) → line_to (cover_outgoing o) j ≡ cover_line (line_to o j)
unfolding line_to
line_covered o j = get_or-map cover_line o.lines j (record { cells = replicate 12 empty_cell })

lines_of : {k l : List Line} → k ≡ l → ◌≡◌ {A = Outgoing} (record { lines = k }) (record { lines = l })
lines_of e = ap (λ (l : List Line). record { lines = l }) e

pub with_line_covered : (o : Outgoing) (j : ℕ) (l : Line) → cover_outgoing (with_line_to o j l) ≡ with_line_to (cover_outgoing o) j (cover_line l)
unfolding with_line_to
with_line_covered o j l = lines_of (map_set cover_line o.lines j l)

pub no_lines_covered : cover_outgoing empty_lines ≡ empty_lines
unfolding empty_lines
no_lines_covered = refl

put_if_covered : (t : Bool) (o : Outgoing) (j : ℕ) (p : Packet) → cover_outgoing (put_if t o j p) ≡ put_if t (cover_outgoing o) j (cover_packet p)
put_if_covered true o j p =
    with_line_covered o j (put (line_to o j) p) ∙ ap (with_line_to (cover_outgoing o) j) (put_covered (line_to o j) p ∙ ap (λ (l : Line). put l (cover_packet p)) (sym (line_covered o j)))
put_if_covered false o j p = refl

put_row_covered : (n : ℕ) (m : Marks) (ps : List Cell) (o : Outgoing) → cover_outgoing (put_row_to n m ps o) ≡ put_row_to n m (map cover_cell ps) (cover_outgoing o)
put_row_covered zero m ps o = refl
put_row_covered (suc n) m ps o =
    put_if_covered (marked m n) (put_row_to n m ps o) n (get_or ps n empty_cell).packet
    ∙ ap (λ p. put_if (marked m n) (cover_outgoing (put_row_to n m ps o)) n p) (sym (ap (λ (c : Cell). c.packet) (get_or-map cover_cell ps n empty_cell)))
    ∙ ap (λ (x : Outgoing). put_if (marked m n) x n (get_or (map cover_cell ps) n empty_cell).packet) (put_row_covered n m ps o)

pub put_all_covered : (m : Marks) (p : Packet) (o : Outgoing) → cover_outgoing (put_all m p o) ≡ put_all m (cover_packet p) (cover_outgoing o)
unfolding put_all
put_all_covered m p o =
    put_row_covered 8 m (replicate 8 (record { packet = p })) o ∙ ap (λ (ps : List Cell). put_row_to 8 m ps (cover_outgoing o)) (map_repeated cover_cell 8 (record { packet = p }))

checkps_covered : (rs : List Check) → map cover_cell (checkps rs) ≡ checkps (map cover_check rs)
checkps_covered rs = rw (at 0, at 1, at 2, at 3, at 4, at 5, at 6, at 7)
  where
    at : (k : ℕ) → get_or (map cover_check rs) k start_check ≡ cover_check (get_or rs k start_check)
    at k = get_or-map cover_check rs k start_check

pub put_checkps_covered : (m : Marks) (rs : List Check) (o : Outgoing) → cover_outgoing (put_checkps m rs o) ≡ put_checkps m (map cover_check rs) (cover_outgoing o)
unfolding put_checkps
put_checkps_covered m rs o = put_row_covered 8 m (checkps rs) o ∙ ap (λ (ps : List Cell). put_row_to 8 m ps (cover_outgoing o)) (checkps_covered rs)

pub laden_covered : (o : Outgoing) → laden (cover_outgoing o) ≡ laden o
unfolding laden
laden_covered o = rw (at 0, at 1, at 2, at 3, at 4, at 5, at 6, at 7)
  where
    at : (j : ℕ) → is_empty (packet_at (line_to (cover_outgoing o) j) 0) ≡ is_empty (packet_at (line_to o j) 0)
    at j = ap (λ (l : Line). is_empty (packet_at l 0)) (line_covered o j) ∙ ap is_empty (at_covered (line_to o j) 0) ∙ empty_covered (packet_at (line_to o j) 0)
