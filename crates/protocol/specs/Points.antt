-- Document 02, card 1: taking a point and returning to one. Cabinets are numbered from 0 here.
use Rattle.std.specs.Prelude.{ℕ, true, cond, not, List, [], ◌∷◌, eqb, ltb}
use Rattle.state.specs.State.{bit_of}
use Rattle.image.specs.declared.Image.{Image}
use Rattle.cabinet.specs.declared.Cabinet.{Cabinet}
use Rattle.cabinet.specs.Cabinet.{with_image}
use Rattle.points.specs.declared.Point.{Point}
use Rattle.points.specs.declared.Points.{Points}
use Rattle.points.specs.Points.{point_at, with_point, image_at, place_of, place_for}
use Rattle.store.specs.declared.Slots.{Slots}
use Rattle.store.specs.Store.{of_each, set_slots}
use Rattle.group.specs.declared.Group.{Group}
use Rattle.group.specs.declared.Outcome.{Outcome}
use Rattle.group.specs.Group.{cabinet, with_cabinets, with_store, home, slot, is_crashed, quiet, taken}
use Rattle.protocol.specs.declared.Noted.{Noted}
use Rattle.protocol.specs.Kinds.{need, or_refuse}

-- ---- take a point

-- "keep the images of the committed version, and for a failed cabinet the image that 01 gives it or, where there was a return since it
-- failed, the one that the last return set": of each cabinet the slot that its version names, as its home has it. For a failed one that is noted
-- where the recovery from its fail ends (`Moves.note_lost`)
abbrev pub image_kept : Group → ℕ → Image
image_kept g i = slot g (home g i) i (bit_of (cabinet g i).phase.version)

unfoldable pub images_kept : Group → List Image
images_kept g =
    image_kept g 0 ∷ image_kept g 1 ∷ image_kept g 2 ∷ image_kept g 3 ∷ image_kept g 4 ∷ image_kept g 5 ∷ image_kept g 6 ∷ image_kept g 7 ∷ []

abbrev pub point_of : Group → List ℕ → Point
point_of g name = record { name = name; images = images_kept g }

-- "22 group not quiet, 23 four names taken already and this is a fifth; after 10"
abbrev pub point_refusal : Points → Group → List ℕ → ℕ
point_refusal ps g name = need (not (is_crashed g)) 10 (need (quiet g) 22 (need (ltb (place_for ps name) 4) 23 0))

abbrev pub noting : ℕ → Points → Noted
noting k ps = record { answer = k; points = ps }

-- a refusal leaves the points unchanged
unfoldable pub take_point : Points → Group → List ℕ → Noted
take_point ps g name =
    cond (eqb (point_refusal ps g name) 0) (noting 0 (with_point ps (place_for ps name) (point_of g name))) (noting (point_refusal ps g name) ps)

-- ---- return to a point

-- "A return sets all images, failed cabinets' saved ones too, and both slots of every cabinet to the point's.", at both stores of each pair
abbrev pub with_point_image : Group → Point → ℕ → Cabinet
with_point_image g p i = with_image (cabinet g i) (image_at p i)

abbrev pub both_slots : Point → ℕ → Slots
both_slots p i = record { zero = image_at p i; one = image_at p i }

abbrev pub images_set : Group → Point → List Cabinet
images_set g p =
    with_point_image g p 0 ∷ with_point_image g p 1 ∷ with_point_image g p 2 ∷ with_point_image g p 3 ∷ with_point_image g p 4 ∷ with_point_image g p 5
    ∷ with_point_image g p 6 ∷ with_point_image g p 7 ∷ []

unfoldable pub returned : Group → Point → Group
returned g p = with_store (with_cabinets g (images_set g p)) (set_slots g.store (of_each (both_slots p)))

-- "21 no such name, 22 group not quiet .. ; after 10"
abbrev pub return_refusal : Points → Group → List ℕ → ℕ
return_refusal ps g name = need (not (is_crashed g)) 10 (need (ltb (place_of ps name) 4) 21 (need (quiet g) 22 0))

unfoldable pub return_to : Points → Group → List ℕ → Outcome
return_to ps g name = or_refuse (return_refusal ps g name) g (taken (returned g (point_at ps (place_of ps name))))
