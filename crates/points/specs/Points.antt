-- Document 02, card 1: "Up to four points, each named with eight octets". Four places, each empty or with a point; any eight octets are a name.
use Rattle.std.specs.Prelude.{ℕ, Bool, true, false, cond, not, ◌&&◌, List, [], ◌∷◌, get_or, set, replicate, eqb, ltb, Option, Some, None, is_some, unwrap_or}
use Rattle.image.specs.declared.Image.{Image}
use Rattle.image.specs.Image.{blank_image}
use Rattle.points.specs.declared.Point.{Point}
use Rattle.points.specs.declared.Points.{Points}

-- ---- places

-- what is read of a place without a point
abbrev pub no_point : Point
no_point = record { name = replicate 8 0; images = replicate 8 blank_image }

unfoldable pub no_points : Points
no_points = record { places = replicate 4 None }

-- the point at place i, if one stands there
abbrev pub held_at : Points → ℕ → Option Point
held_at ps i = get_or ps.places i None

-- place i has a point
abbrev pub is_kept : Points → ℕ → Bool
is_kept ps i = is_some (held_at ps i)

unfoldable pub point_at : Points → ℕ → Point
point_at ps i = unwrap_or (held_at ps i) no_point

-- place i with this point, or free
abbrev pub with_place : Points → ℕ → Option Point → Points
with_place ps i p = record { places = set ps.places i p }

unfoldable pub with_point : Points → ℕ → Point → Points
with_point ps i p = with_place ps i (Some p)

-- the image that a point has of cabinet i
unfoldable pub image_at : Point → ℕ → Image
image_at p i = get_or p.images i blank_image

-- ---- names

unfoldable pub same_name : List ℕ → List ℕ → Bool
same_name [] [] = true
same_name [] (y ∷ ys) = false
same_name (x ∷ xs) [] = false
same_name (x ∷ xs) (y ∷ ys) = eqb x y && same_name xs ys

-- the point at place i has this name
abbrev pub is_named : Points → List ℕ → ℕ → Bool
is_named ps name i = is_kept ps i && same_name (point_at ps i).name name

abbrev pub is_free : Points → ℕ → Bool
is_free ps i = not (is_kept ps i)

-- the first of the four places that passes a test, 4 where none does
abbrev pub first_place : (ℕ → Bool) → ℕ
first_place test = cond (test 0) 0 (cond (test 1) 1 (cond (test 2) 2 (cond (test 3) 3 4)))

-- where the point of this name is
unfoldable pub place_of : Points → List ℕ → ℕ
place_of ps name = first_place (is_named ps name)

-- where a point of this name goes: "A name used again replaces the old point", a new one takes a free place
unfoldable pub place_for : Points → List ℕ → ℕ
place_for ps name = cond (ltb (place_of ps name) 4) (place_of ps name) (first_place (is_free ps))
