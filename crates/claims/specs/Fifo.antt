-- Document 01 on lines, said of the step itself: "each direction is a line, first in, first out", and "a fail-safe packet always finds a
-- free place". `line_after` is what a line without bounds would hold after a taken step: what it held, less what is taken off, and then what
-- the rules put. It reads the cabinets before the step and after it, and the step; it knows no cells and no number of places.
-- In a step cabinets count from 1, everywhere else here from 0.
use Rattle.std.specs.Prelude.{ℕ, suc, ◌-◌, ◌≡◌, Bool, true, false, cond, not, ◌&&◌, ◌||◌, List, [], ◌∷◌, ◌++◌, get_or, set, take, drop, eqb, None, Some}
use Rattle.marks.specs.Marks.{marked}
use Rattle.packet.specs.declared.Packet.{Packet}
use Rattle.packet.specs.declared.Packet.TheVariants.{Empty, Normal as NormalPacket, Checkp, Resume, Recover, Fault}
use Rattle.packet.specs.Packet.{start_check, damaged, is_empty}
use Rattle.line.specs.Line.{packet_at}
use Rattle.state.specs.declared.State.TheVariants.{Normal, CheckpBegin, Checkpointing, Checkpointed, Error, Recovering}
use Rattle.cabinet.specs.Alarm.{Alarm}
use Rattle.cabinet.specs.Alarm.{is_for}
use Rattle.packet.specs.declared.Place.TheVariants.{Tripped as AtTripped}
use Rattle.cabinet.specs.declared.Cabinet.{Cabinet}
use Rattle.state.specs.State.{is_in, works, in_recovery, bit_of}
use Rattle.cabinet.specs.Cabinet.{in_use}
use Rattle.group.specs.declared.Group.{Group}
use Rattle.group.specs.Group.{cabinet, line}
use Rattle.load.specs.Load.{load}
use Rattle.protocol.specs.declared.Step.{Step}
use Rattle.protocol.specs.declared.Step.TheVariants.{Send, Note, Begin, Deliver, Write, Saved, Fetch, Restored, Fail, Damage, Lose, Trip, Unsure}
use Rattle.protocol.specs.declared.Decoded.TheVariants.{Taken}
use Rattle.protocol.specs.Receive.{serving}
use Rattle.protocol.specs.Kinds.{carried}
use Rattle.protocol.specs.Entry.{decode, step}
use Rattle.protocol.specs.History.{Operation}
use Rattle.protocol.specs.Restored.{Octets, AllOctets, world_after}
use Rattle.claims.specs.Bounds.{packets, Always}

-- ---- what a step takes off a line, hits on it or sends over it

-- the line of the step is that from a to b
abbrev pub is_line : ℕ → ℕ → ℕ → ℕ → Bool
is_line x y a b = eqb (x - 1) a && eqb (y - 1) b

-- "deliver the oldest packet from a to b"; "damage the packet at place p (0 oldest) from a to b"; a send puts its packet last; lose
-- "removes the normal packet at place p from a line"
abbrev pub handled : Group → Step → ℕ → ℕ → List Packet → List Packet
handled g (Send x y p q) a b l = cond (is_line x y a b) (l ++ NormalPacket (carried g p q) ∷ []) l
handled g (Note x p q) a b l = l
handled g (Begin x) a b l = l
handled g (Deliver x y) a b l = cond (is_line x y a b) (drop 1 l) l
handled g (Write x) a b l = l
handled g (Saved x) a b l = l
handled g (Fetch x) a b l = l
handled g (Restored x) a b l = l
handled g (Fail x) a b l = l
handled g (Damage x y p w) a b l = cond (is_line x y a b) (set l p (damaged (get_or l p Empty) w)) l
handled g (Lose x y p) a b l = cond (is_line x y a b) (take p l ++ drop (suc p) l) l
handled g (Trip x) a b l = l
handled g (Unsure x) a b l = l

-- ---- what a cabinet does, told by its state before the step and after it

-- "enters checkp-begin and puts checkp on all lines in use"; its cut may come in the same step
abbrev pub joins : Cabinet → Cabinet → Bool
joins c c' = is_in c.phase.state Normal && (is_in c'.phase.state CheckpBegin || is_in c'.phase.state Checkpointing)

-- enters normal: at the commit, with a resume taken in checkpointed, and when a recovery ends
abbrev pub resumes : Cabinet → Cabinet → Bool
resumes c c' = not (is_in c.phase.state Normal) && is_in c'.phase.state Normal

-- "Entering error", and with a known version recovering "all in that step"
abbrev pub enters_error : Cabinet → Cabinet → Bool
enters_error c c' = serving c.phase.state && in_recovery c'.phase.state

-- "stay in error until recover comes, then .. do the same"; so does a coordinator that decides
abbrev pub goes_on : Cabinet → Cabinet → Bool
goes_on c c' = is_in c.phase.state Error && is_in c'.phase.state Recovering

abbrev pub fails : Cabinet → Cabinet → Bool
fails c c' = works c.phase.state && not (works c'.phase.state)

-- cabinet b "itself enters error" for its own trip
abbrev pub trips : Cabinet → Cabinet → ℕ → Bool
trips c c' b = enters_error c c' && is_for c'.phase.alarm (AtTripped b)

-- ---- what it puts on a line in use

abbrev pub fault_of : Alarm → List Packet
fault_of None = []
fault_of (Some p) = Fault p ∷ []

-- "If the version is known, put recover with it and enter recovering"
abbrev pub recover_of : Cabinet → List Packet
recover_of c' = cond (is_in c'.phase.state Recovering) (Recover (bit_of c'.phase.version) ∷ []) []

-- "A cabinet in checkpointed that receives resume .. puts resume on its other lines": not back to b
abbrev pub came_from : Step → ℕ → ℕ → Bool
came_from (Send x y p q) a b = false
came_from (Note x p q) a b = false
came_from (Begin x) a b = false
came_from (Deliver x y) a b = is_line x y b a
came_from (Write x) a b = false
came_from (Saved x) a b = false
came_from (Fetch x) a b = false
came_from (Restored x) a b = false
came_from (Fail x) a b = false
came_from (Damage x y p w) a b = false
came_from (Lose x y p) a b = false
came_from (Trip x) a b = false
came_from (Unsure x) a b = false

-- cabinet a, c before the step and c' after it, on its line to b
abbrev pub put_by : Cabinet → Cabinet → Step → ℕ → ℕ → List Packet
put_by c c' s a b =
    cond (joins c c') (Checkp (get_or c.registers.sent b start_check) ∷ [])
    (cond (resumes c c') (cond (is_in c.phase.state Checkpointed && came_from s a b) [] (Resume ∷ []))
    (cond (enters_error c c') (fault_of c'.phase.alarm ++ recover_of c')
    (cond (goes_on c c') (recover_of c') [])))

-- ---- the line

-- "empty every outgoing line, a struck one too"; "A failing cabinet's lines are emptied both ways", and those of one that trips
abbrev pub emptied : Group → Group → ℕ → ℕ → Bool
emptied g g' a b =
    enters_error (cabinet g a) (cabinet g' a)
    || (fails (cabinet g a) (cabinet g' a) || (fails (cabinet g b) (cabinet g' b) || trips (cabinet g b) (cabinet g' b) b))

abbrev pub line_after : Group → Group → Step → ℕ → ℕ → List Packet
line_after g g' s a b =
    cond (emptied g g' a b) [] (handled g s a b (packets g a b))
    ++ cond (marked (in_use (cabinet g' a)) b) (put_by (cabinet g a) (cabinet g' a) s a b) []

-- ---- the claims, of every run

-- after every taken step each line holds what a line without bounds would hold: no packet goes for want of a place
abbrev pub FirstInFirstOut : Type 0
FirstInFirstOut =
    (f : List ℕ) → Octets f → (load f).answer ≡ 0 → (xs : List Operation) → AllOctets xs → (r : List ℕ) → Octets r
    → (s : Step) → decode r ≡ Taken s → (step (world_after f xs).group r).answer ≡ 0
    → (a b : ℕ) → packets (step (world_after f xs).group r).group a b ≡ line_after (world_after f xs).group (step (world_after f xs).group r).group s a b

-- packets stand before empty cells
abbrev pub PacketsFirst : Type 0
PacketsFirst = Always (λ g h. (a b k : ℕ) → is_empty (packet_at (line g a b) k) ≡ true → is_empty (packet_at (line g a b) (suc k)) ≡ true)
