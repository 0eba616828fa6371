-- In every run each cabinet's rows have eight marks, its image 32 octets; each line has twelve cells, the packets first, at most four of
-- them normal ones of each party; each saved image has 32 octets.
use Prim.Native.Nat.{ℕ, zero, suc, ◌+◌, ◌*◌, ◌<◌, ◌≤◌}
use mathlib.Core.Path.{◌≡◌, refl, sym, ap, subst, ◌∙◌}
use mathlib.Core.Bool.{Bool, true, false, cond, false≢true}
use mathlib.Core.List.{List, [], ◌∷◌, ◌++◌}
use lib.ListN.{length, get_or, set, length-set}
use lib.Dec.{eqb, ltb}
use native.Mathlib.Omega.{arith}
use Rattle.marks.specs.Marks.{Marks, marked, either, without as without_marks}
use Rattle.outlet.specs.declared.Outlet.{Outlet}
use Rattle.outlet.specs.declared.Party.{Party}
use Rattle.outlet.specs.declared.Party.TheVariants.{Buses, Workshop}
use Rattle.outlet.specs.Outlet.{party_of, same_party}
use Rattle.packet.specs.declared.Check.{Check}
use Rattle.packet.specs.declared.Place.{Place}
use Rattle.packet.specs.declared.Place.TheVariants.{Failed as AtFailed, Tripped as AtTripped, Link as AtLink}
use Rattle.packet.specs.declared.Pattern.{Pattern}
use Rattle.packet.specs.declared.Payload.{Payload}
use Rattle.packet.specs.declared.Packet.{Packet}
use Rattle.packet.specs.declared.Packet.TheVariants.{Empty, Normal as NormalPacket, Checkp, Resume, Recover, Fault, Invalid}
use Rattle.line.specs.declared.Cell.{Cell}
use Rattle.line.specs.declared.Line.{Line}
use Rattle.packet.specs.Packet.{is_empty, is_normal, is_of, damaged, start_check}
use Rattle.packet.proofs.Bursts.{outlet_kept, bounded}
use Rattle.line.specs.Line.{empty_cell, empty_line, put, put_cells, rest_cells, without_cells, normals, normals_in, packet_at}
use Rattle.image.specs.declared.Image.{Image}
use Rattle.cabinet.specs.declared.Cabinet.{Cabinet}
use Rattle.image.specs.Image.{blank_image, charged, credited, with_octet, piece_to}
use Rattle.image.proofs.Laws.{octet_small, charged_small, credited_small, length_charged, length_credited}
use Rattle.registers.specs.Registers.{restart_if, restart_to}
use Rattle.table.specs.declared.Table.{Table}
use Rattle.table.specs.Table.{is_at, coordinator, struck_at, led_on_if}
use Rattle.cabinet.specs.Cabinet.{in_use, wrote, owing_also, owing_but, fetched, alarmed}
use Rattle.claims.proofs.State.Fun.{cond_elim}
use Rattle.claims.proofs.State.Every.{Closed, get_d_set, get_d_repeated}
use Rattle.claims.proofs.State.View.{content, packet_of}
use Rattle.claims.proofs.State.Cells.{Packed, packed_put, length_put, packed_rest, length_rest, packed_set, packed_without, length_without, empty_is}

-- ---- images

pub record Pictured (m : Image) : Type 0 where
  pub octets : length m.octets ≡ 32
  pub small : (i : ℕ) → get_or m.octets i 0 < 256

nothing_pictured : Pictured blank_image
nothing_pictured = record { octets = refl; small = λ i. get_d_repeated (λ (x : ℕ). x < 256) 32 i 0 0 (omega arith) (omega arith) }

pictured_set : (m : Image) (p v : ℕ) → v < 256 → Pictured m → Pictured (with_octet m p v)
pictured_set m p v l h = record { octets = length-set m.octets p v ∙ h.octets; small = octet_small m p v l h.small }

pictured_charged : (m : Image) (o : Outlet) (q : ℕ) → Pictured m → Pictured (charged m o q)
pictured_charged m o q h = record { octets = length_charged o m q ∙ h.octets; small = charged_small o m q h.small }

pictured_credited : (m : Image) (o : Outlet) (q : ℕ) → Pictured m → Pictured (credited m o q)
pictured_credited m o q h = record { octets = length_credited o m q ∙ h.octets; small = credited_small o m q h.small }

pictured_piece : (n k : ℕ) (from to : Image) → Pictured from → Pictured to → Pictured (piece_to n k from to)
pictured_piece zero k from to f t = t
pictured_piece (suc n) k from to f t = pictured_set _ (k * 8 + n) _ (f.small (k * 8 + n)) (pictured_piece n k from to f t)

-- ---- cabinets

pub record Shaped (c : Cabinet) : Type 0 where
  pub cabs : length c.table.cabinets ≡ 8
  pub links : length c.table.links ≡ 8
  pub come : length c.noted.come ≡ 8
  pub saved : length c.noted.saved ≡ 8
  pub restored : length c.noted.restored ≡ 8
  pub heard : length c.noted.heard ≡ 8
  pub unsure : length c.noted.unsure ≡ 8
  pub sent : length c.registers.sent ≡ 8
  pub taken : length c.registers.taken ≡ 8
  pub hurt : length c.registers.hurt ≡ 8
  pub owed : length c.owed ≡ 8
  pub image : Pictured c.image

length_restart_if : (t : Bool) (rs : List Check) (j : ℕ) → length (restart_if t rs j) ≡ length rs
length_restart_if true rs j = length-set rs j start_check
length_restart_if false rs j = refl

length_restart : (n : ℕ) (m : Marks) (rs : List Check) → length (restart_to n m rs) ≡ length rs
length_restart zero m rs = refl
length_restart (suc n) m rs = length_restart_if (marked m n) _ n ∙ length_restart n m rs

length_struck : (i : ℕ) (p : Place) (c : Cabinet) → Shaped c
    → (length (struck_at i p c.table).cabinets ≡ 8) × (length (struck_at i p c.table).links ≡ 8)
length_struck i (AtFailed a) c h = (length-set c.table.cabinets a false ∙ h.cabs, h.links)
length_struck i (AtTripped a) c h = (h.cabs, h.links)
length_struck i (AtLink a b) c h = (
  h.cabs,
  cond_elim (λ (x : Marks). length x ≡ 8) (eqb i a) (λ _. length-set c.table.links b false ∙ h.links)
      (λ _. cond_elim (λ (x : Marks). length x ≡ 8) (eqb i b) (λ _. length-set c.table.links a false ∙ h.links) (λ _. h.links)),
)

-- a table's rows have the same sizes whoever its coordinator is
length_led : (f : Bool) (t : Table) → (length t.cabinets ≡ 8) × (length t.links ≡ 8)
    → (length (led_on_if f t).cabinets ≡ 8) × (length (led_on_if f t).links ≡ 8)
length_led true t h = h
length_led false t h = h

shaped_wrote : (c : Cabinet) (i : ℕ) → Shaped c → Shaped (wrote c i)
shaped_wrote c i h = cond_elim Shaped (ltb c.noted.pieces 3) (λ _. search) (λ _. search)

shaped_fetched : (c : Cabinet) (m : Image) → Pictured m → Shaped c → Shaped (fetched c m)
shaped_fetched c m p h = cond_elim Shaped (ltb c.noted.pieces 3) (λ _. search) (λ _. search)

-- ---- lines

abbrev Fits : Packet → Type 0
Fits Empty = Unit {0}
Fits (NormalPacket p) = p.amount < 65536
Fits (Checkp v) = Unit {0}
Fits Resume = Unit {0}
Fits (Recover v) = Unit {0}
Fits (Fault p) = Unit {0}
Fits Invalid = Unit {0}

abbrev FitsCell : Cell → Type 0
FitsCell c = Fits c.packet

pub record Lined (l : Line) : Type 0 where
  pub twelve : length l.cells ≡ 12
  pub packed : Packed l.cells
  pub few : (y : Party) → normals y l ≤ 4
  pub fits : (k : ℕ) → FitsCell (get_or l.cells k empty_cell)

-- ---- a party's normal packets

safe_of : (y : Party) (p : Packet) → is_normal p ≡ false → is_of y p ≡ false
safe_of y Empty e = refl
safe_of y (NormalPacket p) e = absurd (false≢true (sym e))
safe_of y (Checkp v) e = refl
safe_of y Resume e = refl
safe_of y (Recover v) e = refl
safe_of y (Fault p) e = refl
safe_of y Invalid e = refl

module _ (y : Party) where
  empty_one : (p : Packet) → is_empty p ≡ true → is_of y p ≡ false
  empty_one p e = rw (empty_is p e)

  normals_put : (p : Packet) (cs : List Cell) → normals_in y (put_cells cs p) ≤ normals_in y cs + cond (is_of y p) 1 0
  normals_put p [] = omega arith
  normals_put p (c ∷ cs) = go (normals_put p cs) (is_empty c.packet) refl
    where
      go : normals_in y (put_cells cs p) ≤ normals_in y cs + cond (is_of y p) 1 0 → (t : Bool) → is_empty c.packet ≡ t
          → normals_in y (cond t (record { packet = p } ∷ cs) (c ∷ put_cells cs p)) ≤ normals_in y (c ∷ cs) + cond (is_of y p) 1 0
      go ih true e = rw (empty_one c.packet e) (omega arith)
      go ih false e = omega arith

  normals_pad : (cs : List Cell) → normals_in y (cs ++ (empty_cell ∷ [])) ≡ normals_in y cs
  normals_pad [] = refl
  normals_pad (c ∷ cs) = omega (arith, normals_pad cs)

  normals_rest : (cs : List Cell) → normals_in y (rest_cells cs) ≤ normals_in y cs
  normals_rest [] = omega arith
  normals_rest (c ∷ cs) = omega (arith, normals_pad cs)

  normals_without : (cs : List Cell) (k : ℕ) → normals_in y (without_cells cs k) ≤ normals_in y cs
  normals_without [] k = omega arith
  normals_without (c ∷ cs) zero = omega (arith, normals_pad cs)
  normals_without (c ∷ cs) (suc k) = omega (arith, normals_without cs k)

  normals_set : (cs : List Cell) (k : ℕ) (p : Packet) → is_of y p ≡ is_of y (get_or cs k empty_cell).packet
      → normals_in y (set cs k (record { packet = p })) ≡ normals_in y cs
  normals_set [] k p e = refl
  normals_set (c ∷ cs) zero p e = rw e
  normals_set (c ∷ cs) (suc k) p e = omega (arith, normals_set cs k p e)

-- damage leaves the outlet, so the packet stays of its party
damaged_of : (y : Party) (p : Packet) (w : Pattern) → is_of y (damaged p w) ≡ is_of y p
damaged_of y Empty w = refl
damaged_of y (NormalPacket p) w = ap (λ (o : Outlet). same_party (party_of o) y) (sym (outlet_kept p w))
damaged_of y (Checkp v) w = refl
damaged_of y Resume w = refl
damaged_of y (Recover v) w = refl
damaged_of y (Fault p) w = refl
damaged_of y Invalid w = refl

damaged_empty : (p : Packet) (w : Pattern) → is_empty (damaged p w) ≡ is_empty p
damaged_empty Empty w = refl
damaged_empty (NormalPacket p) w = refl
damaged_empty (Checkp v) w = refl
damaged_empty Resume w = refl
damaged_empty (Recover v) w = refl
damaged_empty (Fault p) w = refl
damaged_empty Invalid w = refl

damaged_fits : (p : Packet) (w : Pattern) → w.mask < 65536 → Fits p → Fits (damaged p w)
damaged_fits Empty w l h = tt
damaged_fits (NormalPacket p) w l h = bounded p w h l
damaged_fits (Checkp v) w l h = tt
damaged_fits Resume w l h = tt
damaged_fits (Recover v) w l h = tt
damaged_fits (Fault p) w l h = tt
damaged_fits Invalid w l h = tt

safe_fits : (p : Packet) → is_normal p ≡ false → Fits p
safe_fits Empty e = tt
safe_fits (NormalPacket p) e = absurd (false≢true (sym e))
safe_fits (Checkp v) e = tt
safe_fits Resume e = tt
safe_fits (Recover v) e = tt
safe_fits (Fault p) e = tt
safe_fits Invalid e = tt

fits_put : (p : Packet) → Fits p → (cs : List Cell) → ((k : ℕ) → FitsCell (get_or cs k empty_cell)) → (k : ℕ) → FitsCell (get_or (put_cells cs p) k empty_cell)
fits_put p f [] h k = h k
fits_put p f (c ∷ cs) h k = go (λ j. fits_put p f cs (λ i. h (suc i)) j) (is_empty c.packet) k
  where
    go : ((j : ℕ) → FitsCell (get_or (put_cells cs p) j empty_cell)) → (t : Bool) (k : ℕ) → FitsCell (get_or (cond t (record { packet = p } ∷ cs) (c ∷ put_cells cs p)) k empty_cell)
    go ih true zero = f
    go ih true (suc k) = h (suc k)
    go ih false zero = h zero
    go ih false (suc k) = ih k

fits_pad : (cs : List Cell) → ((k : ℕ) → FitsCell (get_or cs k empty_cell)) → (k : ℕ) → FitsCell (get_or (cs ++ (empty_cell ∷ [])) k empty_cell)
fits_pad [] h zero = tt
fits_pad [] h (suc k) = tt
fits_pad (c ∷ cs) h zero = h zero
fits_pad (c ∷ cs) h (suc k) = fits_pad cs (λ i. h (suc i)) k

fits_rest : (cs : List Cell) → ((k : ℕ) → FitsCell (get_or cs k empty_cell)) → (k : ℕ) → FitsCell (get_or (rest_cells cs) k empty_cell)
fits_rest [] h k = h k
fits_rest (c ∷ cs) h k = fits_pad cs (λ i. h (suc i)) k

fits_without : (cs : List Cell) (k : ℕ) → ((j : ℕ) → FitsCell (get_or cs j empty_cell)) → (j : ℕ) → FitsCell (get_or (without_cells cs k) j empty_cell)
fits_without [] k h j = h j
fits_without (c ∷ cs) zero h j = fits_pad cs (λ i. h (suc i)) j
fits_without (c ∷ cs) (suc k) h zero = h zero
fits_without (c ∷ cs) (suc k) h (suc j) = fits_without cs k (λ i. h (suc i)) j

content_empty : (cs : List Cell) (k : ℕ) → is_empty (get_or cs k empty_cell).packet ≡ true → content (set cs k empty_cell) ≡ content cs
unfolding content
content_empty [] k e = refl
content_empty (c ∷ cs) zero e = rw (empty_is c.packet e)
content_empty (c ∷ cs) (suc k) e = ap (packet_of c.packet) (content_empty cs k e)

packed_empty : (cs : List Cell) (k : ℕ) → is_empty (get_or cs k empty_cell).packet ≡ true → Packed cs → Packed (set cs k empty_cell)
unfolding content Packed
packed_empty [] k e h = h
packed_empty (c ∷ cs) zero e h = ((λ _. h.0 e), h.1)
packed_empty (c ∷ cs) (suc k) e h = ((λ x. content_empty cs k e ∙ h.0 x), packed_empty cs k e h.1)

-- nothing changes where no packet stands
packed_damaged : (cs : List Cell) (k : ℕ) (w : Pattern) → Packed cs → Packed (set cs k (record { packet = damaged (get_or cs k empty_cell).packet w }))
packed_damaged cs k w h = go (is_empty (get_or cs k empty_cell).packet) refl
  where
    go : (t : Bool) → is_empty (get_or cs k empty_cell).packet ≡ t → Packed (set cs k (record { packet = damaged (get_or cs k empty_cell).packet w }))
    go true e = rw (empty_is (get_or cs k empty_cell).packet e) (packed_empty cs k e h)
    go false e = packed_set cs k _ (damaged_empty (get_or cs k empty_cell).packet w ∙ e) e h

-- ---- together

shaped_alarmed : (c : Cabinet) (i : ℕ) (p : Place) → Shaped c → Shaped (alarmed c i p)
shaped_alarmed c i p h = let s = length_led (is_at p (coordinator c.table)) (struck_at i p c.table) (length_struck i p c h) in search

lined_put : (l : Line) (p : Packet) → Fits p → ((y : Party) → normals y l + cond (is_of y p) 1 0 ≤ 4) → Lined l → Lined (put l p)
lined_put l p f few h = record {
  twelve = length_put p l.cells ∙ h.twelve;
  packed = packed_put p l.cells h.packed;
  few = λ y. omega (arith, normals_put y p l.cells, few y);
  fits = fits_put p f l.cells h.fits;
}

same_party_lem : (x y : Party) → same_party x y ≡ true → x ≡ y
same_party_lem Buses Buses e = refl
same_party_lem Buses Workshop e = absurd (false≢true e)
same_party_lem Workshop Buses e = absurd (false≢true e)
same_party_lem Workshop Workshop e = refl

-- a send asks for a place of its own party alone, and takes none of the other one's
has_place : (l : Line) (p : Payload) → normals (party_of p.outlet) l < 4 → ((y : Party) → normals y l ≤ 4)
    → (y : Party) → normals y l + cond (is_of y (NormalPacket p)) 1 0 ≤ 4
has_place l p room few y =
    cond_elim (λ (k : ℕ). normals y l + k ≤ 4) (same_party (party_of p.outlet) y)
    (λ e. omega (arith, subst (λ (x : Party). normals x l < 4) (same_party_lem (party_of p.outlet) y e) room)) (λ _. omega (arith, few y))

nothing_lined : Lined empty_line
unfolding Packed content
nothing_lined = record {
  twelve = refl;
  packed = (
    (λ _. refl),
    (
      (λ _. refl),
      (
        (λ _. refl),
        (
          (λ _. refl),
          (
            (λ _. refl),
            (
              (λ _. refl),
              (
                (λ _. refl),
                (
                  (λ _. refl),
                  (
                    (λ _. refl),
                    ((λ _. refl), ((λ _. refl), ((λ _. refl), tt))),
                  ),
                ),
              ),
            ),
          ),
        ),
      ),
    ),
  );
  few = λ y. omega arith;
  fits = λ k. get_d_repeated FitsCell 12 k empty_cell empty_cell tt tt;
}

shaped_also : (c : Cabinet) (m : Marks) → Shaped c → Shaped (owing_also c m)
unfolding either
shaped_also c m h = search

shaped_but : (c : Cabinet) (m : Marks) → Shaped c → Shaped (owing_but c m)
unfolding without_marks
shaped_but c m h = search

pub shaped : Closed Shaped Lined Pictured
shaped = record {
  gone = record {
    cabs = refl;
    links = refl;
    come = refl;
    saved = refl;
    restored = refl;
    heard = refl;
    unsure = refl;
    sent = refl;
    taken = refl;
    hurt = refl;
    owed = refl;
    image = nothing_pictured;
  };
  sending = λ c j o p l h. let m = pictured_charged c.image o p.amount h.image in search length-set;
  noting = λ c k q l h. let m = pictured_set c.image k q l h.image in search length-set;
  taking = λ c j p h. let m = pictured_credited c.image p.outlet p.amount h.image in search length-set;
  hurt_from = λ c j h. search length-set;
  beginning = λ c h. let r = length_restart 8 (in_use c) c.registers.sent ∙ h.sent in search;
  comparing = λ c j h. search length-set;
  stated = λ c s h. search;
  versioned = λ c v h. search;
  wrote = shaped_wrote;
  owing = λ c j o h. search length-set;
  owing_also = shaped_also;
  owing_but = shaped_but;
  owing_none = λ c h. search;
  saved_for = λ c j h. search length-set;
  resuming = λ c v h. search;
  alarmed = shaped_alarmed;
  blanked = λ c h. let m = nothing_pictured in search;
  hearing = λ c j h. search length-set;
  recovering = λ c v h. search;
  fetched = shaped_fetched;
  restored_for = λ c j h. search length-set;
  unsure_for = λ c j h. search length-set;
  imaged = λ c h. h.image;
  pieced = λ k from to f t. pictured_piece 8 k from to f t;
  no_packets = nothing_lined;
  less = λ l h. record {
    twelve = length_rest l.cells ∙ h.twelve;
    packed = packed_rest l.cells h.packed;
    few = λ y. omega (arith, normals_rest y l.cells, h.few y);
    fits = fits_rest l.cells h.fits;
  };
  more = λ l p s h. lined_put l p (safe_fits p s) (λ y. rw (safe_of y p s) (omega (arith, h.few y))) h;
  sends = λ l p a room h. lined_put l (NormalPacket p) a (has_place l p room h.few) h;
  damages = λ l k q a h. record {
    twelve = length-set l.cells k _ ∙ h.twelve;
    packed = packed_damaged l.cells k q h.packed;
    few = λ y. omega (arith, h.few y, normals_set y l.cells k (damaged (packet_at l k) q) (damaged_of y (packet_at l k) q));
    fits = λ j. get_d_set FitsCell l.cells k j _ empty_cell (damaged_fits (packet_at l k) q a (h.fits k)) (h.fits j);
  };
  loses = λ l k h. record {
    twelve = length_without l.cells k ∙ h.twelve;
    packed = packed_without l.cells k h.packed;
    few = λ y. omega (arith, normals_without y l.cells k, h.few y);
    fits = fits_without l.cells k h.fits;
  };
}
