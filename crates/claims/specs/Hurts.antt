-- Of every run: a comparison at a checkp tells whether a packet of its line was hurt, and packets of a line that is not hurt fit their own check. Document 02, card 9
-- rests on both.
use Rattle.std.specs.Prelude.{ℕ, ◌≡◌, true, false, not, ◌||◌, get_or}
use Rattle.marks.specs.Marks.{marked}
use Rattle.packet.specs.declared.Payload.{Payload}
use Rattle.packet.specs.declared.Check.{Check}
use Rattle.packet.specs.declared.Packet.TheVariants.{Normal as NormalPacket, Checkp}
use Rattle.packet.specs.Packet.{start_check, same_check, fits}
use Rattle.line.specs.Line.{oldest, packet_at}
use Rattle.state.specs.declared.State.TheVariants.{Normal, CheckpBegin}
use Rattle.state.specs.State.{is_in}
use Rattle.group.specs.declared.Group.{Group}
use Rattle.group.specs.Group.{cabinet, state_of, line, some, recovering_ones}
use Rattle.protocol.specs.History.{History}
use Rattle.claims.specs.Bounds.{Running}

-- "Every checkp is compared when taken in these two states": b would compare v, in the oldest packet from a
pub record Compares (g : Group) (a b : ℕ) (v : Check) : Type 0 where
  pub comes : oldest (line g a b) ≡ Checkp v
  pub ready : (is_in (state_of g b) Normal || is_in (state_of g b) CheckpBegin) ≡ true

-- The values are unequal exactly when a normal packet of that line was hurt since the receiver's register restarted, which is the mark that
-- check 20 asks. And that is exactly when the history says that one was damaged or lost since the start or the last recovery's end: what was
-- hurt is found at the first comparison, so none before it was equal.
abbrev pub AsHurt : Group → History → ℕ → ℕ → Check → Type 0
AsHurt g h a b v =
    (same_check v (get_or (cabinet g b).registers.taken a start_check) ≡ not (marked (cabinet g b).registers.hurt a))
    × (marked (cabinet g b).registers.hurt a ≡ h.hurt a b)

abbrev pub ComparedAsHurt : Type 0
ComparedAsHurt = Running (λ g h. (a b : ℕ) (v : Check) → Compares g a b v → AsHurt g h a b v)

-- Where nobody is in error, recovering or recovered and the line is not marked so, every normal packet that stands in it fits its own check.
abbrev pub FitsUnhurt : Type 0
FitsUnhurt =
    Running (λ g h. some (recovering_ones g) ≡ false → (a b k : ℕ) (p : Payload) → packet_at (line g a b) k ≡ NormalPacket p
    → marked (cabinet g b).registers.hurt a ≡ false → fits p ≡ true)
