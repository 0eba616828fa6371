-- Document 02, card 9: "Compare two runs of one group file with the same steps except for the amounts of workshop sends, each of which is taken in
-- both. Then bus bookings, logical states and all answers agree in both, damage to workshop packets included. Points, trips and recoveries are
-- in it as well."
use Rattle.std.specs.Prelude.{ℕ, ◌≡◌, Bool, true, false, ◌&&◌, List, [], ◌∷◌, length, get_or, take, eqb}
use Rattle.outlet.specs.declared.Outlet.TheVariants.{A, B}
use Rattle.image.specs.declared.Image.{Image}
use Rattle.image.specs.Image.{booking}
use Rattle.points.specs.Points.{no_points, point_at, image_at}
use Rattle.group.specs.Group.{cabinet, state_of, slot}
use Rattle.load.specs.Load.{load}
use Rattle.protocol.specs.declared.Site.{Site}
use Rattle.protocol.specs.History.{Operation, stepping, pointing, returning}
use Rattle.protocol.specs.Evening.{operate, operate_all, answers_to}
use Rattle.protocol.specs.Restored.{Octets, AllOctets}
use Rattle.protocol.specs.Word.{which_word}
use Rattle.pairs.specs.Covered.{cover_site}

-- ---- "the same steps except for the amounts of workshop sends"

-- a send record (kind 1) with p of 4, and its two octets q
abbrev pub workshop_send : ℕ → ℕ → ℕ → ℕ → List ℕ
workshop_send a b high low = 1 ∷ a ∷ b ∷ 4 ∷ high ∷ low ∷ []

pub data SameBut : List Operation → List Operation → Type 0 where
  none : SameBut [] []
  same : (x : Operation) {xs ys : List Operation} → SameBut xs ys → SameBut (x ∷ xs) (x ∷ ys)
  amounts : (a b high low high' low' : ℕ) {xs ys : List Operation} → SameBut xs ys
      → SameBut (stepping (workshop_send a b high low) ∷ xs) (stepping (workshop_send a b high' low') ∷ ys)

-- ---- "each of which is taken in both"

abbrev pub sends_for_workshop : Operation → Bool
sends_for_workshop (stepping r) = eqb (length r) 6 && (eqb (get_or r 0 0) 1 && eqb (get_or r 3 0) 4)
sends_for_workshop (pointing name) = false
sends_for_workshop (returning name) = false

-- each workshop send of a run is answered 0
unfoldable pub SendsTaken : Site → List Operation → Type 0
SendsTaken s [] = Unit {0}
SendsTaken s (x ∷ xs) = (sends_for_workshop x ≡ true → (operate s x).answer ≡ 0) × SendsTaken (operate s x).site xs

-- ---- what agrees

abbrev pub loaded : List ℕ → Site
loaded f = record { group = (load f).group; points = no_points }

-- "bus bookings": those of outlets A and B
abbrev pub buses_of : Image → ℕ × ℕ
buses_of m = (booking A m, booking B m)

pub record Agree (s t : Site) : Type 0 where
  -- of every cabinet, in the image that it works on and in both slots, as each store has them, and of every point
  pub buses : (i : ℕ) → buses_of (cabinet s.group i).image ≡ buses_of (cabinet t.group i).image
  pub slots : (h i : ℕ) (v : Bool) → buses_of (slot s.group h i v) ≡ buses_of (slot t.group h i v)
  pub points : (k i : ℕ) → buses_of (image_at (point_at s.points k) i) ≡ buses_of (image_at (point_at t.points k) i)
  -- "logical states", with the versions
  pub states : (i : ℕ) → state_of s.group i ≡ state_of t.group i
  pub versions : (i : ℕ) → (cabinet s.group i).phase.version ≡ (cabinet t.group i).phase.version
  -- the answer to the question which word settled it
  pub words : which_word s.group ≡ which_word t.group
  -- What may differ is what `Covered` covers: octets 4 and 5 of images, slots and points, amount and own check of workshop packets, and the
  -- CRCs of registers and checkps. All else is equal: notes, tables, lines, hurt marks, reports, which stores are away, counts of packets and of
  -- trips.
  pub all_else : cover_site s ≡ cover_site t

-- After every operation: the first k, whatever k is. The answers are those of all operations, in order.
abbrev pub TwoRuns : Type 0
TwoRuns =
    (f : List ℕ) → Octets f → (load f).answer ≡ 0 → (xs ys : List Operation) → AllOctets xs → AllOctets ys → SameBut xs ys
    → SendsTaken (loaded f) xs → SendsTaken (loaded f) ys
    → (answers_to (loaded f) xs ≡ answers_to (loaded f) ys) × ((k : ℕ) → Agree (operate_all (loaded f) (take k xs)) (operate_all (loaded f) (take k ys)))
