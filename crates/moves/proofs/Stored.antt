-- Each move of the group that one cabinet makes is its move on the cabinet and its lines, stored back.
-- Where a move stores twice, the group has as many cabinets as rows of lines: then it holds past the end as well.
use Prim.Native.Nat.{ℕ}
use mathlib.Core.Path.{◌≡◌, refl, ap, ◌∙◌}
use mathlib.Core.Bool.{Bool}
use lib.ListN.{length}
use Rattle.packet.specs.declared.Place.{Place}
use Rattle.packet.specs.declared.Packet.{Packet}
use Rattle.packet.specs.declared.Packet.TheVariants.{Resume, Recover, Fault}
use Rattle.state.specs.declared.Version.{Version}
use Rattle.state.specs.declared.Version.TheVariants.{Known, Unknown, Lost}
use Rattle.state.specs.State.{flipped}
use Rattle.settled.specs.declared.Reason.{Reason}
use Rattle.cabinet.specs.Cabinet.{in_use, beginning, cutting, resuming, recovering, alarmed}
use Rattle.outgoing.specs.Lines.{empty_lines, put_all, put_checkps}
use Rattle.group.specs.declared.Group.{Group}
use Rattle.group.specs.Group.{cabinet, with_cabinet, outgoing, with_outgoing, with_settled, settle, forget_trips}
use Rattle.seat.specs.declared.Seat.{Seat}
use Rattle.seat.specs.Seat.{seat, with_seat}
use Rattle.seat.proofs.Laws.{seat_then, cabinet_stored, lines_stored, both_stored, length_stays}
use Rattle.protocol.specs.Moves as G
use Rattle.moves.specs.Seats as S

pub broadcast_stored : (g : Group) (i : ℕ) (p : Packet) → G.broadcast g i p ≡ with_seat g i (S.broadcast (seat g i) p)
unfolding G.broadcast S.broadcast
broadcast_stored g i p = lines_stored g i (put_all (in_use (cabinet g i)) p (outgoing g i))

-- .. after a store
broadcast_then : (g : Group) (i : ℕ) (s : Seat) (p : Packet) → length g.cabinets ≡ length g.outgoing
    → G.broadcast (with_seat g i s) i p ≡ with_seat g i (S.broadcast s p)
broadcast_then g i s p e = broadcast_stored (with_seat g i s) i p ∙ seat_then (λ t. S.broadcast t p) g i s e

-- ---- saving

pub join_stored : (g : Group) (i : ℕ) → G.join g i ≡ with_seat g i (S.join (seat g i))
unfolding G.join S.join
join_stored g i =
    both_stored g i (beginning (cabinet g i)) (put_checkps (in_use (cabinet g i)) (cabinet g i).registers.sent (outgoing g i))

pub cut_stored : (g : Group) (i : ℕ) → G.cut_if_all g i ≡ with_seat g i (S.cut_if_all (seat g i))
unfolding G.cut_if_all S.cut_if_all
cut_stored g i = cabinet_stored g i (cutting (cabinet g i))

pub resume_stored : (g : Group) (i : ℕ) (v : Version) → length g.cabinets ≡ length g.outgoing
    → G.resume_with g i v ≡ with_seat g i (S.resume_with (seat g i) v)
unfolding G.resume_with S.resume_with
resume_stored g i v e = rw (cabinet_stored g i (resuming (cabinet g i) v)) (broadcast_then g i _ Resume e)

pub commit_stored : (g : Group) (i : ℕ) → length g.cabinets ≡ length g.outgoing
    → G.commit g i ≡ forget_trips (with_seat g i (S.commit (seat g i)))
unfolding G.commit S.commit
commit_stored g i e = ap forget_trips (resume_stored g i (flipped (cabinet g i).phase.version) e)

-- ---- failing and recovering

pub recover_stored : (g : Group) (i : ℕ) (v : Bool) → length g.cabinets ≡ length g.outgoing
    → G.recover_with g i v ≡ with_seat g i (S.recover_with (seat g i) v)
unfolding G.recover_with S.recover_with
recover_stored g i v e = rw (cabinet_stored g i (recovering (cabinet g i) v)) (broadcast_then g i _ (Recover v) e)

raise_stored : (g : Group) (i : ℕ) (p : Place) → length g.cabinets ≡ length g.outgoing
    → G.raise g i p ≡ with_seat g i (S.raise (seat g i) i p)
unfolding G.raise S.raise
raise_stored g i p e = broadcast_then g i (record { cabinet = alarmed (cabinet g i) i p; lines = empty_lines }) (Fault p) e

-- going on by its own word, after a store
known_then : (g : Group) (i : ℕ) (s : Seat) (v : Version) (r : Reason) → length g.cabinets ≡ length g.outgoing
    → G.recover_if_known (with_seat g i s) i v r ≡ with_settled (with_seat g i (S.recover_if_known s v)) (S.word_if_known v g.settled i r)
unfolding settle with_cabinet with_outgoing
known_then g i s (Known v) r e = ap (λ h. settle h i r) (recover_stored (with_seat g i s) i v (length_stays g i s e) ∙ seat_then (λ t. S.recover_with t v) g i s e)
known_then g i s (Unknown v) r e = refl
known_then g i s Lost r e = refl

pub error_stored : (g : Group) (i : ℕ) (p : Place) → length g.cabinets ≡ length g.outgoing
    → G.enter_error g i p ≡ with_settled (with_seat g i (S.enter_error (seat g i) i p)) (S.word_by g.settled (cabinet g i) i)
unfolding G.enter_error S.enter_error S.word_by
error_stored g i p e =
    rw (raise_stored g i p e) (known_then g i (S.raise (seat g i) i p) (cabinet g i).phase.version (G.reason_for (cabinet g i) i) e)

pub end_stored : (g : Group) (i : ℕ) → length g.cabinets ≡ length g.outgoing
    → G.end_recovery g i ≡ with_seat g i (S.end_recovery (seat g i))
unfolding G.end_recovery S.end_recovery
end_stored g i e = resume_stored g i (cabinet g i).phase.version e
