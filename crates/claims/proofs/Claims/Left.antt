-- What a step leaves alone in the history: the points, and the image that a cabinet was lost with.
use Prim.Native.Nat.{ℕ, ◌-◌}
use mathlib.Core.Path.{◌≡◌, refl, ap, ◌∙◌}
use mathlib.Core.Bool.{Bool, true, false, ◌&&◌}
use mathlib.Core.Option.{some}
use lib.Dec.{eqb}
use Rattle.marks.specs.Marks.{marked}
use Rattle.packet.specs.declared.Packet.{Packet}
use Rattle.packet.specs.declared.Packet.TheVariants.{Empty, Normal as NormalPacket, Checkp, Resume, Recover, Fault, Invalid}
use Rattle.packet.specs.Packet.{fits}
use Rattle.line.specs.Line.{oldest, packet_at}
use Rattle.state.specs.declared.State.TheVariants.{Normal, Checkpointed, Recovering, Recovered}
use Rattle.image.specs.declared.Image.{Image}
use Rattle.cabinet.specs.Cabinet.{in_use, coordinator}
use Rattle.group.specs.declared.Group.{Group}
use Rattle.group.specs.declared.Outcome.{Outcome}
use Rattle.group.specs.Group.{cabinet, line, home}
use Rattle.protocol.specs.declared.Step.{Step}
use Rattle.protocol.specs.declared.Step.TheVariants.{Send, Note, Begin, Deliver, Write, Saved, Fetch, Restored, Fail, Damage, Lose, Trip, Unsure}
use Rattle.protocol.specs.declared.Decoded.{Decoded}
use Rattle.protocol.specs.declared.Decoded.TheVariants.{Malformed, Unused, Taken}
use Rattle.protocol.specs.Receive.{takes_from}
use Rattle.protocol.specs.History.{History, goes, note_taken, note_known, commits, note_commit, note_damage, lost_now, note_end, ends, observe, record_decoded}
use Rattle.claims.proofs.State.Fun.{cond_elim}

pub record Leaves (h h' : History) : Type 0 where
  pub points : h'.points ≡ h.points
  pub lost : (c : ℕ) (m : Image) → h.lost c ≡ some m → h'.lost c ≡ some m

nothing : (h : History) → Leaves h h
nothing h = record { points = refl; lost = λ c m e. e }

twice : {h k l : History} → Leaves h k → Leaves k l → Leaves h l
twice a b = record { points = b.points ∙ a.points; lost = λ c m e. b.lost c m (a.lost c m e) }

known_leaves : (t : Bool) (h : History) → Leaves h (note_known t h)
known_leaves true h = record { points = refl; lost = λ c m e. e }
known_leaves false h = nothing h

taken_leaves : (t : Bool) (h : History) (a b : ℕ) (p : Packet) → Leaves h (note_taken t h a b p)
taken_leaves true h a b Empty = nothing h
taken_leaves true h a b (NormalPacket p) = cond_elim (Leaves h) (fits p) (λ _. record { points = refl; lost = λ c m e. e }) (λ _. nothing h)
taken_leaves true h a b (Checkp v) = nothing h
taken_leaves true h a b Resume = nothing h
taken_leaves true h a b (Recover v) = nothing h
taken_leaves true h a b (Fault p) = nothing h
taken_leaves true h a b Invalid = nothing h
taken_leaves false h a b p = nothing h

commit_leaves : (t : Bool) (h : History) (k : ℕ) → Leaves h (note_commit t h k)
commit_leaves true h k = record { points = refl; lost = λ c m e. e }
commit_leaves false h k = nothing h

-- "A failed cabinet's image is its image in the save restored after it failed": not in a later one
end_leaves : (t : Bool) (h : History) (g : Group) → Leaves h (note_end t h g)
end_leaves true h g = record { points = refl; lost = λ c m e. ap (lost_now h g c) e }
end_leaves false h g = nothing h

damage_leaves : (p : Packet) (h : History) (a b : ℕ) → Leaves h (note_damage p h a b)
damage_leaves Empty h a b = nothing h
damage_leaves (NormalPacket p) h a b = record { points = refl; lost = λ c m e. e }
damage_leaves (Checkp v) h a b = nothing h
damage_leaves Resume h a b = nothing h
damage_leaves (Recover v) h a b = nothing h
damage_leaves (Fault p) h a b = nothing h
damage_leaves Invalid h a b = nothing h

observed_leaves : (h : History) (g g' : Group) (s : Step) → Leaves h (observe h g g' s)
observed_leaves h g g' (Send a b p q) = record { points = refl; lost = λ c m e. e }
observed_leaves h g g' (Note a p q) = nothing h
observed_leaves h g g' (Begin a) = record { points = refl; lost = λ c m e. e }
observed_leaves h g g' (Deliver a b) =
    twice
    (taken_leaves (marked (in_use (cabinet g (b - 1))) (a - 1) && takes_from (cabinet g (b - 1)) (a - 1)) h (a - 1) (b - 1) (oldest (line g (a - 1) (b - 1))))
    (known_leaves (goes g g' (b - 1) Checkpointed Normal) _)
observed_leaves h g g' (Write a) = nothing h
observed_leaves h g g' (Saved a) =
    let k = coordinator (cabinet g (home g (a - 1))) in commit_leaves (commits g g' k) h k
observed_leaves h g g' (Fetch a) = known_leaves (goes g g' (a - 1) Recovering Recovered) h
observed_leaves h g g' (Restored a) = end_leaves (ends g g' (a - 1)) h g'
observed_leaves h g g' (Fail a) = record { points = refl; lost = λ c m e. e }
observed_leaves h g g' (Damage a b p w) = damage_leaves (packet_at (line g (a - 1) (b - 1)) p) h (a - 1) (b - 1)
observed_leaves h g g' (Lose a b p) = record { points = refl; lost = λ c m e. e }
observed_leaves h g g' (Trip a) = record { points = refl; lost = λ c m e. e }
observed_leaves h g g' (Unsure a) = nothing h

pub step_leaves : (h : History) (g : Group) (o : Outcome) (d : Decoded) → Leaves h (record_decoded h g o d)
step_leaves h g o Malformed = nothing h
step_leaves h g o Unused = nothing h
step_leaves h g o (Taken s) =
    let x = observed_leaves h g o.group s in
    cond_elim (Leaves h) (eqb o.answer 0) (λ _. record { points = x.points; lost = x.lost }) (λ _. nothing h)
