-- Damage and lose on parts: their checks are those of the group, and what they leave, stored back, is what they leave of the group.
use Prim.Native.Nat.{ℕ}
use mathlib.Core.Path.{◌≡◌, refl, ap, sym}
use mathlib.Core.Bool.{Bool, true, false}
use Rattle.marks.specs.Reach.{mark}
use Rattle.packet.specs.declared.Pattern.{Pattern}
use Rattle.packet.specs.Packet.{is_normal, damaged}
use Rattle.line.specs.declared.Line.{Line}
use Rattle.line.specs.Line.{packet_at, replaced, without}
use Rattle.cabinet.specs.Cabinet.{hurt_from}
use Rattle.group.specs.declared.Group.{Group}
use Rattle.group.specs.Group.{cabinet, with_cabinet, outgoing, with_outgoing, line, with_line, rows_of}
use Rattle.protocol.specs.Kinds as kinds
use Rattle.seat.proofs.Same.{cabinet_same}
use Rattle.hurting.specs.Hurting.{hurt_if, damage_refusal, damage, lose_refusal, lose}

-- ---- the checks

pub damage_refused : (g : Group) (a b p : ℕ) (w : Pattern)
    → kinds.damage_refusal g a b p w ≡ damage_refusal (mark (rows_of g.links) a b) (line g a b) (cabinet g b) a p w g.packets
damage_refused g a b p w = refl

pub lose_refused : (g : Group) (a b p : ℕ)
    → kinds.lose_refusal g a b p ≡ lose_refusal (mark (rows_of g.links) a b) (line g a b) (cabinet g b) a p
lose_refused g a b p = refl

-- ---- what is left

-- a cabinet and a line are different parts
marked_stored : (g : Group) (a b : ℕ) (l : Line) → kinds.mark_hurt (with_line g a b l) a b ≡ with_line (with_cabinet g b (hurt_from (cabinet g b) a)) a b l
unfolding cabinet with_cabinet outgoing with_outgoing with_line
marked_stored g a b l = refl

-- a receiver that notes nothing is stored as it was
by_kind : (t : Bool) (g : Group) (a b : ℕ) (l : Line)
    → kinds.hurt_if t (with_line g a b l) a b ≡ with_line (with_cabinet g b (hurt_if t (cabinet g b) a)) a b l
by_kind true g a b l = marked_stored g a b l
by_kind false g a b l = ap (λ h. with_line h a b l) (sym (cabinet_same g b))

pub damage_stored : (g : Group) (a b p : ℕ) (w : Pattern)
    → kinds.hurt g a b p w
    ≡ with_line (with_cabinet g b (damage (cabinet g b) (line g a b) a p w).cabinet) a b (damage (cabinet g b) (line g a b) a p w).line
unfolding kinds.hurt damage
damage_stored g a b p w =
    by_kind (is_normal (packet_at (line g a b) p)) g a b (replaced (line g a b) p (damaged (packet_at (line g a b) p) w))

pub lose_stored : (g : Group) (a b p : ℕ)
    → kinds.lost g a b p ≡ with_line (with_cabinet g b (lose (cabinet g b) (line g a b) a p).cabinet) a b (lose (cabinet g b) (line g a b) a p).line
unfolding kinds.lost lose
lose_stored g a b p = marked_stored g a b (without (line g a b) p)
