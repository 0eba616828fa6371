-- A deed or a piece that is refused leaves the group as it was.
use Prim.Native.Nat.{ℕ}
use mathlib.Core.Path.{◌≡◌, refl, ap, ◌∙◌}
use mathlib.Core.Bool.{Bool, true, false, cond, not}
use lib.Dec.{eqb, ltb}
use Rattle.image.specs.Image.{with_octet}
use Rattle.packet.specs.declared.PacketVersion.{PacketVersion}
use Rattle.line.specs.declared.Line.{Line}
use Rattle.store.specs.declared.Share.{Share}
use Rattle.store.specs.Share.{share, serves_in}
use Rattle.store.proofs.Shared.{share_same}
use Rattle.cabinet.specs.declared.Cabinet.{Cabinet}
use Rattle.cabinet.specs.Cabinet.{with_image, wrote}
use Rattle.group.specs.declared.Group.{Group}
use Rattle.group.specs.Group.{cabinet, line, answering}
use Rattle.seat.specs.declared.SpotAnswer.{SpotAnswer}
use Rattle.seat.specs.Seat.{spot}
use Rattle.seat.proofs.Same.{cabinet_same, line_same}
use Rattle.sending.specs.Sending.{send_refusal, sent, send, note_refusal, note}
use Rattle.saving.specs.declared.KeptAnswer.{KeptAnswer}
use Rattle.saving.specs.Saving.{write_refusal, piece_saved, leaving, write}
use Rattle.restoring.specs.Restoring.{fetch_refusal, fetch_piece, fetch}
use Rattle.delivery.specs.Delivery as D
use Rattle.hurting.specs.Hurting as H
use Rattle.turns.specs.declared.Deed.{Deed}
use Rattle.turns.specs.declared.Deed.TheVariants.{Send as ToSend, Note as ToNote, Take, Damage as ToDamage, Lose as ToLose}
use Rattle.turns.specs.declared.Piece.{Piece}
use Rattle.turns.specs.declared.Piece.TheVariants.{Write as ToWrite, Fetch as ToFetch}
use Rattle.turns.specs.Turns.{doer, deed_done, piece_done}
use Rattle.turns.specs.Stored.{deed_stored, kept_stored, piece_stored}

-- ---- one cabinet and the line from a to b

spot_by : (z : Bool) (done : SpotAnswer) (k : ℕ) (c : Cabinet) (l : Line) → done.answer ≡ 0 → ((cond z done (spot k c l)).answer ≡ 0 → ⊥)
    → ((cond z done (spot k c l)).cabinet ≡ c) × ((cond z done (spot k c l)).line ≡ l)
spot_by true done k c l e n = absurd (n e)
spot_by false done k c l e n = (refl, refl)

deed_left : (d : Deed) (c : Cabinet) (l : Line) (a b : ℕ) (v : PacketVersion) → ((deed_done d c l a b v).answer ≡ 0 → ⊥)
    → ((deed_done d c l a b v).cabinet ≡ c) × ((deed_done d c l a b v).line ≡ l)
unfolding deed_done send sent note D.take H.damage H.lose
deed_left (ToSend p q) c l a b v n = spot_by (eqb (send_refusal c l b p q) 0) (sent c l b p q v) (send_refusal c l b p q) c l refl n
deed_left (ToNote p q) c l a b v n =
    spot_by (eqb (note_refusal c.phase.state p q) 0) (spot 0 (with_image c (with_octet c.image p q)) l) (note_refusal c.phase.state p q) c l refl n
deed_left Take c l a b v n = absurd (n refl)
deed_left (ToDamage p w) c l a b v n = absurd (n refl)
deed_left (ToLose p) c l a b v n = absurd (n refl)

pub deed_refused_same : (d : Deed) (g : Group) (a b : ℕ) → ((deed_stored d g a b).answer ≡ 0 → ⊥)
    → deed_stored d g a b ≡ answering (deed_stored d g a b).answer g
unfolding deed_stored
deed_refused_same d g a b n =
    let left = deed_left d (cabinet g (doer d a b)) (line g a b) a b g.packets n in
    rw (left.0, left.1, cabinet_same g (doer d a b), line_same g a b)

-- ---- a cabinet and its slots

kept_by : (z : Bool) (done : KeptAnswer) (k : ℕ) (c : Cabinet) (x : Share) → done.answer ≡ 0 → ((cond z done (leaving k c x false)).answer ≡ 0 → ⊥)
    → cond z done (leaving k c x false) ≡ leaving (cond z done (leaving k c x false)).answer c x false
kept_by true done k c x e n = absurd (n e)
kept_by false done k c x e n = refl

piece_left : (d : Piece) (c home : Cabinet) (x : Share) (a : ℕ) → ((piece_done d c home x a).answer ≡ 0 → ⊥)
    → piece_done d c home x a ≡ leaving (piece_done d c home x a).answer c x false
unfolding piece_done write fetch
piece_left ToWrite c home x a n =
    kept_by (eqb (write_refusal c home) 0) (leaving 0 (wrote c a) (piece_saved x c) (not (ltb c.noted.pieces 3))) (write_refusal c home) c x refl n
piece_left ToFetch c home x a n = kept_by (eqb (fetch_refusal c home) 0) (leaving 0 (fetch_piece c home x) x false) (fetch_refusal c home) c x refl n

kept_same : (g : Group) (a h k : ℕ) → kept_stored g a h (leaving k (cabinet g a) (share g.store a) false) ≡ answering k g
unfolding kept_stored
kept_same g a h k = rw (cabinet_same g a, share_same g.store a, cabinet_same g h)

pub piece_refused_same : (d : Piece) (g : Group) (a : ℕ) → ((piece_stored d g a).answer ≡ 0 → ⊥)
    → piece_stored d g a ≡ answering (piece_stored d g a).answer g
unfolding piece_stored kept_stored
piece_refused_same d g a n =
    let left = piece_left d (cabinet g a) (cabinet g (serves_in (share g.store a))) (share g.store a) a n in
    ap (kept_stored g a (serves_in (share g.store a))) left ∙ kept_same g a (serves_in (share g.store a)) _
