-- `link_fault`, by whether the group stays connected.
use Prim.Native.Nat.{ℕ}
use mathlib.Core.Path.{◌≡◌, refl}
use mathlib.Core.Bool.{cond}
use Rattle.marks.specs.Reach.{struck, connected}
use Rattle.packet.specs.Packet.{link_place}
use Rattle.line.specs.Line.{rest}
use Rattle.group.specs.declared.Group.{Group}
use Rattle.group.specs.Group.{cabinet, with_outgoing, line, with_line, rows_of, with_sound, working, taken, crashed}
use Rattle.protocol.specs.Moves.{enter_error, find_link_fault}
use Rattle.linkcheck.specs.Linkcheck.{link_fault}
use Rattle.linkcheck.proofs.link_fault.Goals as goal

-- the packet that leaves changes neither the sound links nor who works
asked_before : (g : Group) (a b : ℕ) → link_fault g a b
    ≡ cond (connected (struck (rows_of g.sound) a b) (working g))
    (taken (enter_error (with_sound (with_line g a b (rest (line g a b))) (struck (rows_of g.sound) a b)) b (link_place a b)))
    (crashed g)
unfolding link_fault find_link_fault with_line with_outgoing working cabinet
asked_before g a b = refl

pub returns-then-connected : goal.returns-then-connected
returns-then-connected c = rw (asked_before _ _ _, c.taken.ensures, c.alarm.ensures, c.link_place.ensures, c.with_sound-g.ensures, c.with_line.ensures, c.rest-left.ensures, c.line.ensures, ← c.sound_rows.ensures, ← c.struck-rows.ensures, ← c.working.ensures, ← c.connected.ensures, c.if-connected.true)

pub returns-else-connected : goal.returns-else-connected
returns-else-connected c = rw (asked_before _ _ _, c.crashed.ensures, ← c.sound_rows.ensures, ← c.struck-rows.ensures, ← c.working.ensures, ← c.connected.ensures, c.if-connected.false)
