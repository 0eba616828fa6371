-- Points and returns, of covered points and a covered group.
use Prim.Native.Nat.{ℕ}
use mathlib.Core.Path.{◌≡◌, refl, sym, ap, ◌∙◌}
use Rattle.std.specs.Prelude.{Option, Some, None, is_some, unwrap_or, option_map}
use mathlib.Core.Bool.{Bool, cond, not}
use mathlib.Core.List.{List, map}
use lib.ListN.{get_or-map}
use lib.Dec.{eqb}
use Rattle.image.specs.declared.Image.{Image}
use Rattle.image.specs.Image.{blank_image}
use Rattle.state.specs.State.{bit_of}
use Rattle.cabinet.specs.declared.Cabinet.{Cabinet}
use Rattle.cabinet.specs.Cabinet.{with_image}
use Rattle.points.specs.declared.Point.{Point}
use Rattle.points.specs.declared.Points.{Points}
use Rattle.points.specs.Points.{no_point, held_at, is_kept, point_at, with_point, image_at, is_named, is_free, first_place, place_of, place_for}
use Rattle.store.specs.declared.Slots.{Slots}
use Rattle.store.specs.Store.{of_each, set_slots}
use Rattle.group.specs.declared.Group.{Group}
use Rattle.group.specs.Group.{cabinet, with_cabinets, with_store, home, slot}
use Rattle.protocol.specs.declared.Noted.{Noted}
use Rattle.protocol.specs.Points.{image_kept, images_kept, point_of, point_refusal, noting, take_point, with_point_image, both_slots, images_set, returned, return_refusal, return_to}
use Rattle.pairs.specs.Covered.{cover_from, cover_image, cover_cabinet, cover_store, cover, cover_point, cover_points}
use Rattle.pairs.proofs.Parts.{map_set, choose}
use Rattle.pairs.proofs.Stores.{slots_set}
use Rattle.pairs.proofs.Groups.{cabinet_at, home_at, slot_at_lem, crashed_covered, quiet_covered, is}
use Rattle.pairs.proofs.Steps.{Gives, took, refused}

-- ---- places and names

pub point_at_lem : (ps : Points) (k : ℕ) → point_at (cover_points ps) k ≡ cover_point (point_at ps k)
unfolding point_at cover_points cover_image cover_from
point_at_lem ps k = ap (λ o. unwrap_or o no_point) (get_or-map (option_map cover_point) ps.places k None) ∙ held_or (held_at ps k)
  where
    held_or : (o : Option Point) → unwrap_or (option_map cover_point o) no_point ≡ cover_point (unwrap_or o no_point)
    held_or None = refl
    held_or (Some p) = refl

kept_at : (ps : Points) (k : ℕ) → is_kept (cover_points ps) k ≡ is_kept ps k
unfolding cover_points
kept_at ps k = ap is_some (get_or-map (option_map cover_point) ps.places k None) ∙ held_still (held_at ps k)
  where
    held_still : (o : Option Point) → is_some (option_map cover_point o) ≡ is_some o
    held_still None = refl
    held_still (Some p) = refl

pub image_at_lem : (p : Point) (i : ℕ) → image_at (cover_point p) i ≡ cover_image (image_at p i)
unfolding image_at cover_image cover_from
image_at_lem p i = get_or-map cover_image p.images i blank_image

point_put : (ps : Points) (k : ℕ) (p : Point) → cover_points (with_point ps k p) ≡ with_point (cover_points ps) k (cover_point p)
unfolding with_point cover_points
point_put ps k p = ap (λ (l : List (Option Point)). record { places = l }) (map_set (option_map cover_point) ps.places k (Some p))

named_same : (ps : Points) (name : List ℕ) (k : ℕ) → is_named (cover_points ps) name k ≡ is_named ps name k
named_same ps name k = rw (kept_at ps k, point_at_lem ps k)

free_same : (ps : Points) (k : ℕ) → is_free (cover_points ps) k ≡ is_free ps k
free_same ps k = ap not (kept_at ps k)

first_same : (f g : ℕ → Bool) → ((k : ℕ) → f k ≡ g k) → first_place f ≡ first_place g
first_same f g same = rw (same 0, same 1, same 2, same 3)

place_same : (ps : Points) (name : List ℕ) → place_of (cover_points ps) name ≡ place_of ps name
unfolding place_of
place_same ps name = first_same (is_named (cover_points ps) name) (is_named ps name) (named_same ps name)

place_for_same : (ps : Points) (name : List ℕ) → place_for (cover_points ps) name ≡ place_for ps name
unfolding place_for
place_for_same ps name = rw (place_same ps name, first_same (is_free (cover_points ps)) (is_free ps) (free_same ps))

-- ---- a point taken

kept_same : (g : Group) (i : ℕ) → image_kept (cover g) i ≡ cover_image (image_kept g i)
kept_same g i =
    ap (λ (c : Cabinet). slot (cover g) (home (cover g) i) i (bit_of c.phase.version)) (cabinet_at g i)
    ∙ ap (λ h. slot (cover g) h i (bit_of (cabinet g i).phase.version)) (home_at g i) ∙ slot_at_lem g (home g i) i (bit_of (cabinet g i).phase.version)

images_same : (g : Group) → map cover_image (images_kept g) ≡ images_kept (cover g)
unfolding images_kept
images_same g = rw (kept_same g 0, kept_same g 1, kept_same g 2, kept_same g 3, kept_same g 4, kept_same g 5, kept_same g 6, kept_same g 7)

abbrev pub cover_noted : Noted → Noted
cover_noted n = record { answer = n.answer; points = cover_points n.points }

point_refusal_lem : (ps : Points) (g : Group) (name : List ℕ) → point_refusal ps g name ≡ point_refusal (cover_points ps) (cover g) name
point_refusal_lem ps g name = rw (crashed_covered g, quiet_covered g, place_for_same ps name)

pub point_covered : (ps : Points) (g : Group) (name : List ℕ) → cover_noted (take_point ps g name) ≡ take_point (cover_points ps) (cover g) name
unfolding take_point
point_covered ps g name =
    choose cover_noted (eqb (point_refusal ps g name) 0) _ _
    ∙ ap (λ (q : Points). cond (eqb (point_refusal ps g name) 0) (noting 0 q) (noting (point_refusal ps g name) (cover_points ps)))
    (point_put ps (place_for ps name) (point_of g name)
    ∙ ap (λ (m : List Image). with_point (cover_points ps) (place_for ps name) (record { name = name; images = m })) (images_same g)
    ∙ ap (λ k. with_point (cover_points ps) k (point_of (cover g) name)) (sym (place_for_same ps name)))
    ∙ ap (λ k. cond (eqb k 0) (noting 0 (with_point (cover_points ps) (place_for (cover_points ps) name) (point_of (cover g) name))) (noting k (cover_points ps)))
    (point_refusal_lem ps g name)

-- ---- a return

returned_covered : (p : Point) (g : Group) → cover (returned g p) ≡ returned (cover g) (cover_point p)
unfolding returned cover
returned_covered p g =
    ap (λ (cs : List Cabinet). with_store (with_cabinets (cover g) cs) (cover_store (set_slots g.store (of_each (both_slots p)))))
    (rw (at 0, at 1, at 2, at 3, at 4, at 5, at 6, at 7))
    ∙ ap (with_store (with_cabinets (cover g) (images_set (cover g) (cover_point p)))) (slots_set g.store (of_each (both_slots p)))
    ∙ ap (λ (ss : List Slots). with_store (with_cabinets (cover g) (images_set (cover g) (cover_point p))) (set_slots (cover_store g.store) ss))
    (rw (image_at_lem p 0, image_at_lem p 1, image_at_lem p 2, image_at_lem p 3, image_at_lem p 4, image_at_lem p 5, image_at_lem p 6, image_at_lem p 7))
  where
    at : (i : ℕ) → cover_cabinet (with_point_image g p i) ≡ with_point_image (cover g) (cover_point p) i
    at i = ap (λ (c : Cabinet). with_image c (cover_image (image_at p i))) (sym (cabinet_at g i)) ∙ ap (with_image (cabinet (cover g) i)) (sym (image_at_lem p i))

return_refusal_lem : (ps : Points) (g : Group) (name : List ℕ) → return_refusal ps g name ≡ return_refusal (cover_points ps) (cover g) name
return_refusal_lem ps g name = rw (crashed_covered g, quiet_covered g, place_same ps name)

pub return_covered : (ps : Points) (g : Group) (name : List ℕ) → Gives (return_to ps g name) (return_to (cover_points ps) (cover g) name)
unfolding return_to
return_covered ps g name =
    refused (return_refusal_lem ps g name) g
    (took (is (returned_covered (point_at ps (place_of ps name)) g
    ∙ ap (returned (cover g)) (sym (point_at_lem ps (place_of ps name)) ∙ ap (point_at (cover_points ps)) (sym (place_same ps name))))))
