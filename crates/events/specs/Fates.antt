-- What became of the packet that a deliver takes off its line, and whether a recovery ended. Then what is claimed of the first: a packet that is
-- dropped changes nothing but its line.
use Rattle.std.specs.Prelude.{ℕ, ◌≡◌, Bool, true, false, cond, ◌&&◌, ◌||◌, eqb}
use Rattle.marks.specs.Marks.{marked}
use Rattle.packet.specs.declared.Payload.{Payload}
use Rattle.packet.specs.declared.Packet.{Packet}
use Rattle.packet.specs.declared.Packet.TheVariants.{Empty, Normal as NormalPacket, Checkp, Resume, Recover, Fault, Invalid}
use Rattle.line.specs.Line.{oldest, rest}
use Rattle.state.specs.declared.State.TheVariants.{Checkpointed, Error}
use Rattle.state.specs.State.{is_in, in_recovery}
use Rattle.cabinet.specs.declared.Cabinet.{Cabinet}
use Rattle.cabinet.specs.Cabinet.{in_use, taking}
use Rattle.group.specs.declared.Group.{Group}
use Rattle.group.specs.Group.{cabinet, with_cabinet, line, with_line, taken}
use Rattle.protocol.specs.Moves.{find_link_fault}
use Rattle.protocol.specs.Receive.{serving, takes, resumes_from}
use Rattle.protocol.specs.Kinds.{delivered}
use Rattle.protocol.specs.History.{ends}
use Rattle.linkcheck.specs.Linkcheck.{compares}
use Rattle.delivery.specs.declared.Finding.{Finding}
use Rattle.delivery.specs.declared.Finding.TheVariants.{Fine, LinkFault, Crash}
use Rattle.delivery.specs.Delivery.{finding}
use Rattle.newest.specs.declared.Sort.{Sort}
use Rattle.newest.specs.declared.Sort.TheVariants.{Delivery, SavedReport, PieceFetched, RestoredReport, Loss, Returning, Other}

-- ---- the packet

-- cabinet b, which is c, has a rule for the packet from a in its state (document 01, open points 5 and 6)
abbrev pub heeds : Cabinet → ℕ → ℕ → Packet → Bool
heeds c a b Empty = false
heeds c a b (NormalPacket p) = takes c a p
heeds c a b (Checkp v) = compares c.phase.state
heeds c a b Resume = is_in c.phase.state Checkpointed || resumes_from c a b
heeds c a b (Recover v) = is_in c.phase.state Error && marked c.noted.heard a
heeds c a b (Fault p) = serving c.phase.state || in_recovery c.phase.state
heeds c a b Invalid = false

abbrev pub is_fault : Finding → Bool
is_fault Fine = false
is_fault LinkFault = true
is_fault Crash = false

-- 1 taken, 2 dropped, 3 a link fault was found at it
unfoldable pub fate_of : Cabinet → ℕ → ℕ → Packet → ℕ
fate_of c a b p = cond (is_fault (finding c a p)) 3 (cond (marked (in_use c) a && heeds c a b p) 1 2)

-- of the oldest packet from a to b in group g
abbrev pub fate_at : Group → ℕ → ℕ → ℕ
fate_at g a b = fate_of (cabinet g b) a b (oldest (line g a b))

abbrev pub fate_by : Group → Sort → ℕ
fate_by g (Delivery a b) = fate_at g a b
fate_by g (SavedReport a) = 0
fate_by g (PieceFetched a) = 0
fate_by g (RestoredReport a) = 0
fate_by g (Loss a) = 0
fate_by g Returning = 0
fate_by g Other = 0

-- g is the group before the operation
unfoldable pub fate_in : ℕ → Group → Sort → ℕ
fate_in answer g s = cond (eqb answer 0) (fate_by g s) 0

-- ---- the end of a recovery: "in the step that takes a coordinator from recovered to normal"

abbrev pub ended_by : Group → Group → Sort → ℕ
ended_by g g' (Delivery a b) = 0
ended_by g g' (SavedReport a) = 0
ended_by g g' (PieceFetched a) = 0
ended_by g g' (RestoredReport a) = cond (ends g g' a) 1 0
ended_by g g' (Loss a) = 0
ended_by g g' Returning = 0
ended_by g g' Other = 0

unfoldable pub ended_in : ℕ → Group → Group → Sort → ℕ
ended_in answer g g' s = cond (eqb answer 0) (ended_by g g' s) 0

-- ---- what is claimed: the packet leaves its line, and then ..

abbrev pub left_behind : Group → ℕ → ℕ → Group
left_behind g a b = with_line g a b (rest (line g a b))

-- .. nothing else changes where it is dropped
abbrev pub DroppedChangesNothing : Type 0
DroppedChangesNothing = (g : Group) (a b : ℕ) → fate_at g a b ≡ 2 → delivered g a b ≡ taken (left_behind g a b)

-- .. b has found a link fault
abbrev pub FoundAtIt : Type 0
FoundAtIt = (g : Group) (a b : ℕ) → fate_at g a b ≡ 3 → delivered g a b ≡ find_link_fault g (left_behind g a b) a b

-- .. the amount of a normal packet that is taken is added
abbrev pub TakenIsAdded : Type 0
TakenIsAdded =
    (g : Group) (a b : ℕ) (p : Payload) → fate_at g a b ≡ 1 → oldest (line g a b) ≡ NormalPacket p
    → delivered g a b ≡ taken (with_cabinet (left_behind g a b) b (taking (cabinet g b) a p))
