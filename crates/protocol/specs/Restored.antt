-- Demand 3: what holds whenever a coordinator ends a recovery. `h` is the history with that last step noted, `g` the group as it leaves
-- it, `n` the number of cabinets and `total` the sum of each party's bookings in the file.
use Rattle.std.specs.Prelude.{ℕ, ◌<◌, ◌≡◌, Bool, true, false, cond, List, [], ◌∷◌, get_or}
use Rattle.std.proofs.Math.Option.{Option, none, some}
use Rattle.outlet.specs.declared.Party.{Party}
use Rattle.packet.specs.declared.Payload.{Payload}
use Rattle.state.specs.declared.Version.TheVariants.{Known}
use Rattle.image.specs.declared.Image.{Image}
use Rattle.state.specs.State.{works}
use Rattle.image.specs.Image.{booked}
use Rattle.group.specs.declared.Group.{Group}
use Rattle.group.specs.Group.{cabinet, state_of, sum}
use Rattle.load.specs.Load.{load, cabinet_count, feeder_total}
use Rattle.protocol.specs.History.{Cut, Save, History, Operation, stepping, pointing, returning, World, advance, run, opening, ends, latest, image_in}

-- "A cabinet with no cut in that save sent and took none"
abbrev pub sent_in : Option Cut → ℕ → List Payload
sent_in none j = []
sent_in (some c) j = c.sent j

abbrev pub taken_in : Option Cut → ℕ → List Payload
taken_in none j = []
taken_in (some c) j = c.taken j

-- at the cuts of a save what d had taken from c is what c had sent it, all, in order and undamaged, for every ordered pair
abbrev pub Balanced : Save → Type 0
Balanced s = (c d : ℕ) → taken_in (s.cut d) c ≡ sent_in (s.cut c) d

-- the image that counts for a cabinet: that of its cut, or for a failed one its image in the save restored after it failed, or the one that
-- the last return since then set
abbrev pub counted : History → Group → ℕ → Option Image
counted h g c = cond (works (state_of g c)) (image_in ((latest h).cut c)) (h.lost c)

abbrev pub amperes : Party → Option Image → ℕ
amperes y none = 0
amperes y (some m) = booked y m

pub record Restored (n : ℕ) (total : Party → ℕ) (h : History) (g : Group) : Type 0 where
  -- all working cabinets have one known version
  pub version : Bool
  pub known : (c : ℕ) → c < n → works (state_of g c) ≡ true → (cabinet g c).phase.version ≡ Known version
  -- each holds the image of its own cut in the one save that the rule gives
  pub held : (c : ℕ) → c < n → works (state_of g c) ≡ true → (x : Cut) × ((latest h).cut c ≡ some x) × ((cabinet g c).image ≡ x.image)
  pub balanced : Balanced (latest h)
  -- every failed cabinet has an image, and the bookings, failed cabinets' included, add up to the feeder's total, "for each party by itself"
  pub lost : (c : ℕ) → c < n → works (state_of g c) ≡ false → (m : Image) × (h.lost c ≡ some m)
  pub adds : (y : Party) → sum (λ c. amperes y (counted h g c)) n ≡ total y

-- ---- the claim

-- octets, as a file and a record hold them
abbrev pub Octets : List ℕ → Type 0
Octets l = (i : ℕ) → get_or l i 0 < 256

-- names may be of any numbers
abbrev pub OctetsIn : Operation → Type 0
OctetsIn (stepping r) = Octets r
OctetsIn (pointing name) = Unit {0}
OctetsIn (returning name) = Unit {0}

abbrev pub AllOctets : List Operation → Type 0
AllOctets [] = Unit {0}
AllOctets (x ∷ xs) = OctetsIn x × AllOctets xs

-- "The list starts from the group, lines and store that load returned": the group, its points and its history after the operations of a list
abbrev pub world_after : List ℕ → List Operation → World
world_after f xs = run (opening (load f).group) xs

-- For every file that loads, every list of operations xs and one operation x more, each of any length and taken or refused: if in
-- x the coordinator in the table of a working cabinet j goes from recovered to normal, all is restored. A recovery that ends earlier
-- in a list is covered by the operations up to it. A crashed group ends none.
abbrev pub DemandThree : Type 0
DemandThree =
    (f : List ℕ) → Octets f → (load f).answer ≡ 0 → (xs : List Operation) → AllOctets xs → (x : Operation) → OctetsIn x
    → (j : ℕ) → works (state_of (world_after f xs).group j) ≡ true → ends (world_after f xs).group (advance (world_after f xs) x).group j ≡ true
    → Restored (cabinet_count f) (feeder_total f) (advance (world_after f xs) x).history (advance (world_after f xs) x).group
