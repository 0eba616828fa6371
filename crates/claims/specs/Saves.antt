-- What the history takes for granted of saves, and what a reader would ask of them, as claims about every run: which save a resume and a
-- slot belong to, that a cut belongs to a begin since the last recovery's end, that a version is known where it is used, and what a
-- committed save holds.
use Rattle.std.specs.Prelude.{ℕ, ◌-◌, ◌<◌, ◌≡◌, Bool, true, false, List, ◌∷◌}
use Rattle.std.proofs.Math.Option.{some}
use Rattle.marks.specs.Marks.{marked, covers}
use Rattle.outlet.specs.declared.Party.{Party}
use Rattle.packet.specs.declared.Packet.TheVariants.{Resume}
use Rattle.line.specs.Line.{oldest, packet_at}
use Rattle.state.specs.declared.State.TheVariants.{Checkpointing, Checkpointed}
use Rattle.state.specs.declared.Version.TheVariants.{Known, Unknown}
use Rattle.image.specs.declared.Image.{Image}
use Rattle.state.specs.State.{works, is_unknown, bit_of}
use Rattle.cabinet.specs.Cabinet.{in_use, coordinator}
use Rattle.group.specs.declared.Group.{Group}
use Rattle.group.specs.Group.{cabinet, state_of, home, line, slot, sum}
use Rattle.load.specs.Load.{load, cabinet_count, feeder_total}
use Rattle.protocol.specs.declared.Step.TheVariants.{Saved}
use Rattle.protocol.specs.declared.Decoded.TheVariants.{Taken}
use Rattle.protocol.specs.Kinds.{write_refusal, fetch_refusal, unsure_refusal, report_unsure}
use Rattle.protocol.specs.Entry.{decode, step}
use Rattle.protocol.specs.History.{Cut, Save, History, Operation, stepping, advance, commits, latest, image_now}
use Rattle.protocol.specs.Restored.{Octets, AllOctets, world_after, Balanced, amperes}
use Rattle.claims.specs.Bounds.{Running}

-- ---- a commit

-- record r is taken, and in its step a save is committed
pub record Commits (g : Group) (r : List ℕ) : Type 0 where
  pub about : ℕ
  pub saved : decode r ≡ Taken (Saved about)
  pub taken : (step g r).answer ≡ 0
  pub commit : commits g (step g r).group (coordinator (cabinet g (home g (about - 1)))) ≡ true

-- of the group before a commit, and the history after it
abbrev pub EveryCommit : (ℕ → (Party → ℕ) → Group → History → Type 0) → Type 0
EveryCommit P =
    (f : List ℕ) → Octets f → (load f).answer ≡ 0 → (xs : List Operation) → AllOctets xs → (r : List ℕ) → Octets r
    → Commits (world_after f xs).group r → P (cabinet_count f) (feeder_total f) (world_after f xs).group (advance (world_after f xs) (stepping r)).history

-- the images of the newest save, lost cabinets' included, of a party
abbrev pub saved_total : ℕ → History → Party → ℕ
saved_total n h y = sum (λ c. amperes y (image_now h c)) n

-- at its cuts what each had taken from each other one is what that one had sent it, all, in order and undamaged; every cabinet has an
-- image in it or was lost with one; and these add up to the feeder's total, for each party by itself
abbrev pub CommitsWhole : Type 0
CommitsWhole =
    EveryCommit (λ n total g h.
    Balanced (latest h) × ((c : ℕ) → c < n → (m : Image) × (image_now h c ≡ some m)) × ((y : Party) → saved_total n h y ≡ total y))

-- "A save with a lost packet must never commit", and "Neither version may commit a hurt packet": where a save is committed, no normal packet
-- of any line was hurt, damaged or lost, since the start or the last recovery's end
abbrev pub CommitsUnhurt : Type 0
CommitsUnhurt = EveryCommit (λ n total g h. (a b : ℕ) → h.hurt a b ≡ false)

-- ---- which save a resume belongs to: the one last committed when it was put

-- where a save is committed no line holds a resume, so that every resume on a line belongs to the save last committed
abbrev pub CommitsBetweenResumes : Type 0
CommitsBetweenResumes = EveryCommit (λ n total g h. (a b k : ℕ) → packet_at (line g a b) k ≡ Resume → ⊥)

-- b takes the oldest packet from a, a resume, in checkpointed
pub record TakesResume (g : Group) (a b : ℕ) : Type 0 where
  pub waits : state_of g b ≡ Checkpointed
  pub uses : marked (in_use (cabinet g b)) a ≡ true
  pub resume : oldest (line g a b) ≡ Resume

-- that save was not passed over, so that it is the newest, x; b has its cut in it, and b's version is unknown
abbrev pub ResumeOfNewest : Type 0
ResumeOfNewest =
    Running (λ g h. (a b : ℕ) → TakesResume g a b
    → (h.standing ≡ true) × ((x : Save) × (xs : List Save) × (y : Cut) × (h.saves ≡ x ∷ xs) × (x.cut b ≡ some y)) × (is_unknown (cabinet g b).phase.version ≡ true))

-- ---- which save a slot belongs to: the one whose image of the cabinet it holds; a return counts as a save

-- slot v of cabinet c, as its home has it, belongs to the newest save
abbrev pub OfNewest : Group → History → ℕ → Bool → Type 0
OfNewest g h c v = (y : Cut) × ((latest h).cut c ≡ some y) × (slot g (home g c) c v ≡ y.image)

-- every version that is known, of whichever working cabinet, names the newest save in the slots of every working cabinet
abbrev pub VersionsNameNewest : Type 0
VersionsNameNewest =
    Running (λ g h. (c d : ℕ) → works (state_of g c) ≡ true → works (state_of g d) ≡ true
    → (v : Bool) → (cabinet g d).phase.version ≡ Known v → OfNewest g h c v)

-- a version is known wherever a slot is written by it or read by it
abbrev pub KnownWhereUsed : Type 0
KnownWhereUsed =
    Running (λ g h. (a : ℕ) → (write_refusal g a ≡ 0 → is_unknown (cabinet g a).phase.version ≡ false)
    × (fetch_refusal g a ≡ 0 → is_unknown (cabinet g (home g a)).phase.version ≡ false))

-- with the report of a its coordinator k has those of all in its table
abbrev pub LastReport : Group → ℕ → ℕ → Type 0
LastReport g a k = let c = cabinet (report_unsure g a k) k in covers c.noted.unsure c.table.cabinets ≡ true

-- a coordinator that decides has an old version, and that names the newest save: no lost version is gone on with
abbrev pub DecidedByOld : Type 0
DecidedByOld =
    Running (λ g h. (a : ℕ) → unsure_refusal g a ≡ 0 → LastReport g a (coordinator (cabinet g a))
    → (v : Bool) × ((cabinet g (coordinator (cabinet g a))).phase.version ≡ Unknown v) × ((c : ℕ) → works (state_of g c) ≡ true → OfNewest g h c v))

-- so a piece that is fetched is one of the newest save's image
abbrev pub FetchedOfNewest : Type 0
FetchedOfNewest =
    Running (λ g h. (a : ℕ) → fetch_refusal g a ≡ 0 → OfNewest g h a (bit_of (cabinet g (home g a)).phase.version))

-- ---- which begin a cut belongs to

-- a save begun before a recovery's end has no cut after it: whoever is in checkpointing is there since a begin after that end
abbrev pub CutsSinceBegin : Type 0
CutsSinceBegin = Running (λ g h. (c : ℕ) → state_of g c ≡ Checkpointing → h.begun ≡ true)
