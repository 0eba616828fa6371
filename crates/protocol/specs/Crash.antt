-- Document 01, "The group crashes when, and only when": the cases of that sentence, each in the paper's own terms, with those that
-- document 02 adds.
-- In a step cabinets count from 1, everywhere else here from 0.
use Rattle.std.specs.Prelude.{ℕ, ◌-◌, ◌<◌, ◌≤◌, ◌≡◌, true, false, ◌⊎◌, get_or, set, Some}
use Rattle.marks.specs.Marks.{Marks, marked, lowest}
use Rattle.marks.specs.Reach.{Rows, struck}
use Rattle.marks.specs.ReachLaws.{Path}
use Rattle.packet.specs.declared.Payload.{Payload}
use Rattle.packet.specs.declared.Pattern.{Pattern}
use Rattle.packet.specs.declared.Check.{Check}
use Rattle.packet.specs.declared.Place.{Place}
use Rattle.packet.specs.declared.Packet.{Packet}
use Rattle.packet.specs.declared.Packet.TheVariants.{Normal as NormalPacket, Checkp, Fault, Invalid}
use Rattle.packet.specs.Packet.{start_check, fits}
use Rattle.line.specs.Line.{oldest}
use Rattle.state.specs.declared.State.{State}
use Rattle.state.specs.declared.State.TheVariants.{Normal, CheckpBegin, Checkpointing, Checkpointed, Error, Recovering, Recovered}
use Rattle.store.specs.Store.{is_store, is_present, partner}
use Rattle.cabinet.specs.declared.Cabinet.{Cabinet}
use Rattle.group.specs.declared.Group.{Group}
use Rattle.cabinet.specs.Cabinet.{in_use, coordinator}
use Rattle.group.specs.Group.{cabinet, state_of, line, rows_of, working, trips_of}
use Rattle.protocol.specs.declared.Step.{Step}
use Rattle.protocol.specs.declared.Step.TheVariants.{Deliver, Fail, Damage, Lose, Trip}
use Rattle.protocol.specs.declared.Decoded.{Decoded}
use Rattle.protocol.specs.declared.Decoded.TheVariants.{Taken}
use Rattle.protocol.specs.Entry.{entry_refusal}
use Rattle.protocol.specs.Answers.{kind_refusal}

-- ---- states that the paper names together

-- "in error, recovering or recovered"
abbrev pub Recovers : State → Type 0
Recovers s = (s ≡ Error) ⊎ ((s ≡ Recovering) ⊎ (s ≡ Recovered))

-- "in checkpointing or checkpointed"
abbrev pub Saves : State → Type 0
Saves s = (s ≡ Checkpointing) ⊎ (s ≡ Checkpointed)

-- "in normal or in the three saving states"
abbrev pub Serves : State → Type 0
Serves s = (s ≡ Normal) ⊎ ((s ≡ CheckpBegin) ⊎ Saves s)

-- "these two states": those in which a checkp is compared, and a normal packet's own check
abbrev pub Compares : State → Type 0
Compares s = (s ≡ Normal) ⊎ (s ≡ CheckpBegin)

-- "some working cabinet is in error, recovering or recovered": whoever is in one of these states works
abbrev pub SomeRecovers : Group → Type 0
SomeRecovers g = (i : ℕ) × (i < 8) × Recovers (state_of g i)

-- ---- reach

-- "some working cabinet is not reached from the lowest-numbered working cabinet by stepping from neighbour to neighbour"
abbrev pub Unreached : Rows → Marks → Type 0
Unreached links works = (j : ℕ) × (j < 8) × (marked works j ≡ true) × (Path links works (lowest works) j → ⊥)

-- "over links not found faulty"
abbrev pub sound_links : Group → Rows
sound_links g = rows_of g.sound

-- ---- what a cabinet finds in a packet from neighbour a

-- "two fault places meet": "A fault for the same place is noted; for another place it crashes the group."
pub data PlacesMeet (c : Cabinet) : Packet → Type 0 where
  other_place : {p : Place} → Recovers c.phase.state → (c.phase.alarm ≡ Some p → ⊥) → PlacesMeet c (Fault p)

-- "the finding of a link fault"
pub data LinkFault (c : Cabinet) (a : ℕ) : Packet → Type 0 where
  -- "Every checkp is compared when taken in these two states; unequal values mean a link fault."
  unequal : {v : Check} → Compares c.phase.state → (v ≡ get_or c.registers.taken a start_check → ⊥) → LinkFault c a (Checkp v)
  -- "In checkp-begin, normal packets are taken from neighbours whose checkp has not come; one from another neighbour"
  after_checkp : {p : Payload} → c.phase.state ≡ CheckpBegin → marked c.noted.come a ≡ true → LinkFault c a (NormalPacket p)
  -- "or any normal packet in checkpointing or checkpointed, is a link fault"
  after_cut : {p : Payload} → Saves c.phase.state → LinkFault c a (NormalPacket p)
  -- document 02, card 7: "The receiver compares on taking it, and inequality is a link fault then and there"
  unfit : {p : Payload} → Compares c.phase.state → fits p ≡ false → LinkFault c a (NormalPacket p)
  -- "An invalid packet, in normal or in the three saving states, is a link fault between sender and receiver."
  hit : Serves c.phase.state → LinkFault c a Invalid

-- the line from a to b is in use at b: over any other a packet is dropped
abbrev pub LineInUse : Group → ℕ → ℕ → Type 0
LineInUse g a b = marked (in_use (cabinet g b)) a ≡ true

-- "for a store the group crashes only when neither is left": a store fails or trips, and its partner, if it names one, is not present
abbrev pub NeitherLeft : Group → ℕ → Type 0
NeitherLeft g a = (is_store g.store a ≡ true) × (is_present g.store (partner g.store a) ≡ false)

-- ---- the sentence

-- "The group crashes when, and only when:"
pub data Cause (g : Group) : Step → Type 0 where
  -- "a store cabinet fails;" where document 02, card 10 leaves it
  store_fails : {a : ℕ} → NeitherLeft g (a - 1) → Cause g (Fail a)
  -- "a cabinet fails, .., while some working cabinet is in error, recovering or recovered;"
  fails_in_recovery : {a : ℕ} → SomeRecovers g → Cause g (Fail a)
  -- "or damage is done, while some working cabinet is in error, recovering or recovered;"
  damage_in_recovery : {a b p : ℕ} {w : Pattern} → SomeRecovers g → Cause g (Damage a b p w)
  -- "a loss crashes the group where damage would"
  loss_in_recovery : {a b p : ℕ} → SomeRecovers g → Cause g (Lose a b p)
  -- "two fault places meet;"
  places_meet : {a b : ℕ} → LineInUse g (a - 1) (b - 1) → PlacesMeet (cabinet g (b - 1)) (oldest (line g (a - 1) (b - 1))) → Cause g (Deliver a b)
  -- "or at a fail (the failing one left out) .. some working cabinet is not reached"
  fail_parts : {a : ℕ} → Unreached (sound_links g) (set (working g) (a - 1) false) → Cause g (Fail a)
  -- "or at the finding of a link fault (that link left out) some working cabinet is not reached"
  link_parts : {a b : ℕ} → LineInUse g (a - 1) (b - 1) → LinkFault (cabinet g (b - 1)) (a - 1) (oldest (line g (a - 1) (b - 1)))
      → Unreached (struck (sound_links g) (a - 1) (b - 1)) (working g) → Cause g (Deliver a b)
  -- document 02, card 5: "A store cabinet's trip crashes the group," where card 10 leaves it
  store_trips : {a : ℕ} → NeitherLeft g (a - 1) → Cause g (Trip a)
  -- "and so does a trip while some working cabinet is in error, recovering or recovered."
  trips_in_recovery : {a : ℕ} → SomeRecovers g → Cause g (Trip a)
  -- "The coordinator's trip also crashes the group wherever its fail would"
  coordinator_trips : {a : ℕ} → coordinator (cabinet g (a - 1)) ≡ a - 1 → Cause g (Fail a) → Cause g (Trip a)
  -- "A third trip of the same cabinet with no commit between .. is a fail.": the group counts each one's trips since the last commit
  third_trip : {a : ℕ} → 2 ≤ trips_of g (a - 1) → Cause g (Fail a) → Cause g (Trip a)

-- the record is a step, no check refuses it, and one of the causes is there
pub data Crashes (g : Group) : Decoded → Type 0 where
  crashes : {s : Step} → entry_refusal g s ≡ 0 → kind_refusal g s ≡ 0 → Cause g s → Crashes g (Taken s)
