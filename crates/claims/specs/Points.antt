-- Document 02, card 1, of every run: what a point keeps when it is taken, what the points that stand are, and what a return brings back.
use Rattle.std.specs.Prelude.{ℕ, ◌<◌, ◌≡◌, true, false, List}
use Rattle.std.proofs.Math.Option.{Option, some}
use Rattle.outlet.specs.declared.Party.{Party}
use Rattle.state.specs.State.{works}
use Rattle.image.specs.declared.Image.{Image}
use Rattle.image.specs.Image.{booked}
use Rattle.points.specs.declared.Points.{Points}
use Rattle.points.specs.Points.{is_kept, point_at, image_at, place_of, place_for}
use Rattle.group.specs.declared.Group.{Group}
use Rattle.group.specs.Group.{cabinet, state_of, sum}
use Rattle.load.specs.Load.{load, cabinet_count, feeder_total}
use Rattle.protocol.specs.Points.{take_point, return_to}
use Rattle.protocol.specs.History.{Cut, History, Operation, stepping, pointing, returning, World, advance, run, ends, latest}
use Rattle.protocol.specs.Restored.{Octets, OctetsIn, AllOctets, world_after}

-- ---- a point that is taken

-- of a working cabinet the point has the image of its cut in the save that the rule gives, of a failed one "the image that 01 gives it or,
-- where there was a return since it failed, the one that the last return set"
abbrev pub KeptOf : Group → History → (ℕ → Image) → ℕ → Type 0
KeptOf g h m c =
    (works (state_of g c) ≡ true → (x : Cut) × ((latest h).cut c ≡ some x) × (m c ≡ x.image))
    × (works (state_of g c) ≡ false → h.lost c ≡ some (m c))

-- the point that is taken with a name
abbrev pub new_point : Points → Group → List ℕ → ℕ → Image
new_point ps g name = image_at (point_at (take_point ps g name).points (place_for ps name))

abbrev pub PointsKeepSaves : Type 0
PointsKeepSaves =
    (f : List ℕ) → Octets f → (load f).answer ≡ 0 → (xs : List Operation) → AllOctets xs → (name : List ℕ)
    → (take_point (world_after f xs).points (world_after f xs).group name).answer ≡ 0
    → (c : ℕ) → c < cabinet_count f
    → KeptOf (world_after f xs).group (world_after f xs).history (new_point (world_after f xs).points (world_after f xs).group name) c

-- ---- the points that stand

pub record Stand (n : ℕ) (total : Party → ℕ) (ps : Points) (h : History) : Type 0 where
  -- their names differ
  pub names : (j k : ℕ) → is_kept ps j ≡ true → is_kept ps k ≡ true → (point_at ps j).name ≡ (point_at ps k).name → j ≡ k
  -- each has the images that the history has under its name
  pub images : (k : ℕ) → is_kept ps k ≡ true
      → (m : ℕ → Option Image) × (h.points (point_at ps k).name ≡ some m) × ((c : ℕ) → c < n → m c ≡ some (image_at (point_at ps k) c))
  -- and these add up to the feeder's total, for each party by itself
  pub adds : (k : ℕ) → is_kept ps k ≡ true → (y : Party) → sum (λ c. booked y (image_at (point_at ps k) c)) n ≡ total y

abbrev pub PointsStand : Type 0
PointsStand =
    (f : List ℕ) → Octets f → (load f).answer ≡ 0 → (xs : List Operation) → AllOctets xs
    → Stand (cabinet_count f) (feeder_total f) (world_after f xs).points (world_after f xs).history

-- ---- a return

-- the image of cabinet c that the point of a name has
abbrev pub image_under : Points → List ℕ → ℕ → Image
image_under ps name c = image_at (point_at ps (place_of ps name)) c

-- "A recovery after a return and before the next commit brings back the point": w is the world before the return, which is taken; after it come
-- the operations xs and one more, x, which ends a recovery, and the save that the rule gives is still the return, whatever was committed
-- meanwhile and passed over. Then every working cabinet holds the point's image.
abbrev pub ReturnedFrom : ℕ → World → Type 0
ReturnedFrom n w =
    (name : List ℕ) → (return_to w.points w.group name).answer ≡ 0
    → (xs : List Operation) → AllOctets xs → (x : Operation) → OctetsIn x
    → (j : ℕ) → works (state_of (run (advance w (returning name)) xs).group j) ≡ true
    → ends (run (advance w (returning name)) xs).group (advance (run (advance w (returning name)) xs) x).group j ≡ true
    → latest (advance (run (advance w (returning name)) xs) x).history ≡ latest (advance w (returning name)).history
    → (c : ℕ) → c < n → works (state_of (advance (run (advance w (returning name)) xs) x).group c) ≡ true
    → (cabinet (advance (run (advance w (returning name)) xs) x).group c).image ≡ image_under w.points name c

abbrev pub ReturnsComeBack : Type 0
ReturnsComeBack =
    (f : List ℕ) → Octets f → (load f).answer ≡ 0 → (xs : List Operation) → AllOctets xs → ReturnedFrom (cabinet_count f) (world_after f xs)

-- "where there was a return since a cabinet failed, its image there is the one that the last return set, after later commits too": a return
-- that is taken sets it, and no step record or point changes it
abbrev pub ReturnsSetLost : Type 0
ReturnsSetLost =
    (f : List ℕ) → Octets f → (load f).answer ≡ 0 → (xs : List Operation) → AllOctets xs → (name : List ℕ)
    → (return_to (world_after f xs).points (world_after f xs).group name).answer ≡ 0
    → (c : ℕ) → c < cabinet_count f → works (state_of (world_after f xs).group c) ≡ false
    → (advance (world_after f xs) (returning name)).history.lost c ≡ some (image_under (world_after f xs).points name c)

abbrev pub LostStays : Type 0
LostStays =
    (w : World) (c : ℕ) (m : Image) → w.history.lost c ≡ some m
    → ((r : List ℕ) → (advance w (stepping r)).history.lost c ≡ some m) × ((name : List ℕ) → (advance w (pointing name)).history.lost c ≡ some m)
