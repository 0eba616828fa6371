-- The sizes of rows, lines and images in a group as a file is loaded to it.
use Prim.Native.Nat.{ℕ, zero, suc, ◌-◌, ◌<◌}
use mathlib.Core.Path.{◌≡◌, refl, sym, ap, ◌∙◌, subst}
use mathlib.Core.Bool.{Bool, true}
use mathlib.Core.List.{List, []}
use lib.ListN.{length, get_or, set, replicate, length-set}
use lib.Seq.{set_out}
use lib.Dec.{eqb, ltb}
use native.Mathlib.Decide.{dec_lt}
use native.Mathlib.Omega.{arith}
use Rattle.marks.specs.Marks.{Marks, no_marks}
use Rattle.marks.specs.Reach.{Rows}
use Rattle.line.specs.Line.{empty_line}
use Rattle.image.specs.Image.{blank_image}
use Rattle.cabinet.specs.Cabinet.{absent}
use Rattle.outgoing.specs.declared.Outgoing.{Outgoing}
use Rattle.store.specs.declared.Slots.{Slots}
use Rattle.store.specs.Store.{blank_slots, slot_in, file_home, copy_at, slot_at, of_each}
use Rattle.store.specs.Served.{Served}
use Rattle.store.proofs.Laws.{Held}
use Rattle.group.specs.declared.Group.{Group}
use Rattle.outgoing.specs.Lines.{empty_lines, line_to}
use Rattle.group.specs.Group.{cabinet, outgoing, line}
use Rattle.marks.proofs.Lists.{get_d_in}
use Rattle.load.proofs.Loaded.{the_group, blank_octet, image_octet, starts}
use Rattle.load.specs.Load.{load, group_of, cabinet_count, cabinet_of, cabinets_of, image_of, slots_of, store_of, linked, link_rows, link_count, rows_in, lower_of, higher_of}
use Rattle.claims.proofs.State.Fun.{cond_elim}
use Rattle.claims.proofs.State.Every.{get_d_set, get_d_each, get_d_repeated}
use Rattle.claims.proofs.State.Shape.{Shaped, Lined, Pictured, shaped}
use Rattle.claims.proofs.State.Sim.{Fit}

abbrev Eight : Marks → Type 0
Eight m = length m ≡ 8

linked_eight : (rs : Rows) (a b : ℕ) → ((i : ℕ) → Eight (get_or rs i no_marks)) → (i : ℕ) → Eight (get_or (linked rs a b) i no_marks)
linked_eight rs a b h i = elim (dec_lt a (length rs)) [
  | yes l ↦ get_d_set Eight rs a i _ no_marks (length-set (get_or rs a []) b true ∙ ap length (get_d_in rs a [] no_marks l) ∙ h a) (h i)
  | no n ↦ rw (set_out rs a (set (get_or rs a []) b true) (omega arith)) (h i)
]

rows_eight : (k : ℕ) (f : List ℕ) (i : ℕ) → Eight (get_or (link_rows k f) i no_marks)
rows_eight zero f i = get_d_repeated Eight 8 i no_marks no_marks refl refl
rows_eight (suc k) f i =
    linked_eight (linked (link_rows k f) (lower_of f k - 1) (higher_of f k - 1)) (higher_of f k - 1) (lower_of f k - 1)
    (linked_eight (link_rows k f) (lower_of f k - 1) (higher_of f k - 1) (rows_eight k f)) i

module _ (f : List ℕ) (o : (i : ℕ) → get_or f i 0 < 256) where
  pictured : (i : ℕ) → Pictured (image_of f i)
  pictured i = record { octets = refl; small = image_octet f o i }

  blank_pictured : Pictured blank_image
  blank_pictured = record { octets = refl; small = blank_octet }

  starts_shaped : (rows : Rows) → ((i : ℕ) → Eight (get_or rows i no_marks)) → (i : ℕ) → Shaped (cabinet_of f rows i)
  starts_shaped rows h i =
      cond_elim Shaped (ltb i (cabinet_count f))
      (λ _. record {
        cabs = refl;
        links = h i;
        come = refl;
        saved = refl;
        restored = refl;
        heard = refl;
        unsure = refl;
        sent = refl;
        taken = refl;
        hurt = refl;
        owed = refl;
        image = pictured i;
      })
      (λ _. shaped.gone)

  all_empty : (a b : ℕ) → Lined (line_to (get_or (replicate 8 empty_lines) a empty_lines) b)
  unfolding line_to empty_lines
  all_empty a b =
      let none : Lined (get_or (replicate 8 empty_line) b empty_line) = get_d_repeated Lined 8 b empty_line empty_line shaped.no_packets shaped.no_packets in
      get_d_repeated (λ (x : Outgoing). Lined (get_or x.lines b empty_line)) 8 a empty_lines empty_lines none none

  lines_eight : (i : ℕ) → length (get_or (replicate 8 empty_lines) i empty_lines).lines ≡ 8
  unfolding empty_lines
  lines_eight i = get_d_repeated (λ (x : Outgoing). length x.lines ≡ 8) 8 i empty_lines empty_lines refl refl

  abbrev Both : Slots → Type 0
  Both s = Pictured s.zero × Pictured s.one

  slots_pictured : (i : ℕ) → Both (slots_of f i)
  unfolding blank_slots
  slots_pictured i = cond_elim Both (ltb i (cabinet_count f)) (λ _. (pictured i, blank_pictured)) (λ _. (blank_pictured, blank_pictured))

  pick : (s : Slots) (v : Bool) → Both s → Pictured (slot_in s v)
  pick s v h = cond_elim Pictured v (λ _. h.1) (λ _. h.0)

  all_pictured : (i : ℕ) → Both (get_or (of_each (slots_of f)) i blank_slots)
  unfolding blank_slots
  all_pictured i =
      let s = slots_pictured in
      get_d_each Both (of_each (slots_of f)) i blank_slots (s 0, (s 1, (s 2, (s 3, (s 4, (s 5, (s 6, (s 7, tt)))))))) (blank_pictured, blank_pictured)

  store_pictured : Held Pictured (store_of f)
  unfolding slot_at copy_at
  store_pictured h i v = pick _ v (cond_elim Both (eqb h (file_home (store_of f) i)) (λ _. all_pictured i) (λ _. all_pictured i))

  fit_group : Served (store_of f) → Fit (group_of f (rows_in f))
  unfolding cabinet outgoing line
  fit_group served = record {
    frame = record { cabinets = refl; outs = refl; lines = lines_eight; store = served };
    cabs = λ i.
        let s = starts_shaped (rows_in f) (rows_eight (link_count f) f) in
        get_d_each Shaped (cabinets_of f (rows_in f)) i absent (s 0, (s 1, (s 2, (s 3, (s 4, (s 5, (s 6, (s 7, tt)))))))) shaped.gone;
    lines = all_empty;
    slots = store_pictured;
  }

  pub loaded_fit : (load f).answer ≡ 0 → Fit (load f).group
  loaded_fit e =
      let made = the_group f e in
      subst Fit (sym made) (fit_group (subst (λ (g : Group). Served g.store) made (starts f o e).stored))
