-- Send and note, on the cabinet that acts and the line that it sends on. That each, stored back, is the step of the group is proved in
-- proofs/Stored.antt.
use Rattle.std.specs.Prelude.{ℕ, cond, ◌&&◌, eqb, ltb, leb}
use Rattle.marks.specs.Marks.{marked}
use Rattle.outlet.specs.Outlet.{ends_of, party_of}
use Rattle.packet.specs.declared.PacketVersion.{PacketVersion}
use Rattle.packet.specs.declared.Packet.TheVariants.{Normal as NormalPacket}
use Rattle.packet.specs.Packet.{packed}
use Rattle.line.specs.declared.Line.{Line}
use Rattle.line.specs.Line.{put, normals}
use Rattle.state.specs.declared.State.{State}
use Rattle.state.specs.declared.State.TheVariants.{Normal}
use Rattle.state.specs.State.{is_in}
use Rattle.image.specs.Image.{booking, first_note, with_octet}
use Rattle.cabinet.specs.declared.Cabinet.{Cabinet}
use Rattle.cabinet.specs.Cabinet.{in_use, with_image, sending}
use Rattle.seat.specs.declared.SpotAnswer.{SpotAnswer}
use Rattle.seat.specs.Seat.{spot}
use Rattle.protocol.specs.Kinds.{need}

-- ---- 1 send

-- "15 for p above 4 in a send"; 16 asks the booking that the amount leaves; "17 now when that party's four places are full"
abbrev pub send_refusal : Cabinet → Line → ℕ → ℕ → ℕ → ℕ
send_refusal c l b p q =
    need (marked (in_use c) b) 13
    (need (is_in c.phase.state Normal) 14
    (need (ltb 0 q && leb p 4) 15
    (need (leb q (booking (ends_of p).from c.image)) 16
    (need (ltb (normals (party_of (ends_of p).to) l) 4) 17 0))))

-- what a send puts: a packet for the receiving outlet or the workshop, as the packet version has it
unfoldable pub sent : Cabinet → Line → ℕ → ℕ → ℕ → PacketVersion → SpotAnswer
sent c l b p q v =
    spot 0 (sending c b (ends_of p).from (packed v (ends_of p).to q)) (put l (NormalPacket (packed v (ends_of p).to q)))

unfoldable pub send : Cabinet → Line → ℕ → ℕ → ℕ → PacketVersion → SpotAnswer
send c l b p q v = cond (eqb (send_refusal c l b p q) 0) (sent c l b p q v) (spot (send_refusal c l b p q) c l)

-- ---- 2 note

-- "notes begin at 6"
abbrev pub note_refusal : State → ℕ → ℕ → ℕ
note_refusal s p q = need (is_in s Normal) 14 (need (leb first_note p && (leb p 31 && leb q 255)) 15 0)

unfoldable pub note : Cabinet → Line → ℕ → ℕ → SpotAnswer
note c l p q =
    cond (eqb (note_refusal c.phase.state p q) 0) (spot 0 (with_image c (with_octet c.image p q)) l)
    (spot (note_refusal c.phase.state p q) c l)
