-- Closed runs of document 02, card 3: a recovery after a loss that the CRC alone would not see, and cases of what is answered and noted.
use Rattle.std.specs.Prelude.{ℕ, ◌≡◌, Bool, true, false, List, [], ◌∷◌, ◌++◌, length, get_or, replicate, Some}
use Rattle.std.proofs.Math.Option.{none, some}
use Rattle.outlet.specs.declared.Party.TheVariants.{Buses, Workshop}
use Rattle.crc.specs.Crc.{crc}
use Rattle.packet.specs.declared.Place.TheVariants.{Link as AtLink}
use Rattle.packet.specs.declared.Check.{Check}
use Rattle.packet.specs.declared.Packet.{Packet}
use Rattle.packet.specs.declared.Packet.TheVariants.{Checkp}
use Rattle.packet.specs.Packet.{octets_of, start_check}
use Rattle.line.specs.Line.{oldest, packet_at}
use Rattle.group.specs.declared.Group.{Group}
use Rattle.group.specs.Group.{cabinet, line}
use Rattle.load.specs.Load.{load}
use Rattle.protocol.specs.Entry.{step_all}
use Rattle.protocol.specs.History.{History, stepping, steps, run, opening}
use Rattle.protocol.specs.Marked.{file_of, two_cabinets, record_of, send, begin, deliver, restored, fail, StepOf, Case}
use Rattle.protocol.specs.Examples.{fetches, damage, Example, Found, to_a, image_with, ring, ring_saved, row}
use Rattle.protocol.specs.Tempting.{far_from_three}

abbrev pub lose : ℕ → ℕ → ℕ → List ℕ
lose a b p = record_of 12 a b p 0

-- ---- a loss that the CRC alone would not see

-- as `ring`, but 1 has enough to send 25,919: from a register at its start, a packet with that amount for outlet A leaves the CRC as it is
abbrev pub rich_ring : List ℕ
rich_ring = file_of 1 (30000 ∷ 50 ∷ 20 ∷ []) (1 ∷ 2 ∷ 1 ∷ 3 ∷ 2 ∷ 3 ∷ [])

-- with the packet and without it, also before another one
abbrev pub CrcUnmoved : Type 0
CrcUnmoved = (crc (octets_of (to_a 25919)) ≡ crc []) × (crc (octets_of (to_a 25919) ++ octets_of (to_a 4)) ≡ crc (octets_of (to_a 4)))

-- a register with the CRC of the second packet alone
abbrev pub counting : ℕ → Check
counting packets = record { crc = crc (octets_of (to_a 4)); count = packets }

abbrev pub silent_loss : Example
silent_loss = record {
  file = rich_ring;
  before =
      -- of two packets from 1 to 2 the first is lost, and the second moves up and is taken: 4,057, 79 and 15 are less than the total
      steps (ring_saved ++ send 1 2 25919 ∷ send 1 2 4 ∷ lose 1 2 0 ∷ deliver 1 2
      -- a save begins
      ∷ begin 1 ∷ []);
  since =
      -- the CRCs are equal and the counts are not, as in `TwoAndOne`: 2 finds a link fault at the checkp from 1
      steps (deliver 1 2
      -- the fault goes from 2 to 3, and from 3 to 1; 1, which has struck its end of the link, tells 3
      ∷ deliver 2 3 ∷ deliver 3 1 ∷ deliver 3 2 ∷ deliver 1 3
      ∷ fetches 1 ++ fetches 2 ++ fetches 3
      ++ restored 1 ∷ restored 2 ∷ []);
  last = stepping (restored 3);
  coordinator = 0;
}

abbrev pub silent_loss_finds : Found
silent_loss_finds = record {
  loaded = 0;
  taken = true;
  ended = true;
  place = Some (AtLink 0 1);
  committed = 1;
  left = 1;
  begun = true;
  stands = true;
  by = 0;
  took = (to_a 10 ∷ []) ∷ (to_a 30 ∷ []) ∷ (to_a 5 ∷ []) ∷ [];
  standing = image_with 4057 0 ∷ image_with 79 9 ∷ image_with 15 0 ∷ [];
  held = some (image_with 29980 0) ∷ some (image_with 75 9) ∷ some (image_with 15 0) ∷ [];
  gone = none ∷ none ∷ none ∷ [];
}

-- the same two packets between two cabinets, up to the begin
abbrev pub silent_pair : Group
silent_pair = step_all (load (two_cabinets 30000 50)).group (send 1 2 25919 ∷ send 1 2 4 ∷ lose 1 2 0 ∷ deliver 1 2 ∷ begin 1 ∷ [])

-- the checkp from 1, and the register of 2
abbrev pub ValuesOf : Group → Type 0
ValuesOf g = (oldest (line g 0 1) ≡ Checkp (counting 2)) × (get_or (cabinet g 1).registers.taken 0 start_check ≡ counting 1)

abbrev pub TwoAndOne : Type 0
TwoAndOne = ValuesOf silent_pair

-- ---- cases

-- the answer to a record after others
abbrev pub answers : List ℕ → List (List ℕ) → List ℕ → ℕ → Case
answers file before asked answer = record { asked = StepOf file before asked; expected = answer ∷ [] }

-- two cabinets with 100 and 50
abbrev pub pair_answers : List (List ℕ) → List ℕ → ℕ → Case
pair_answers = answers (two_cabinets 100 50)

-- a packet is lost, 3 fails, and 1 and 2 come back from the start
abbrev pub loss_undone : List (List ℕ)
loss_undone =
    send 1 2 30 ∷ lose 1 2 0 ∷ fail 3 ∷ deliver 1 2 ∷ deliver 1 2 ∷ deliver 2 1 ∷ deliver 2 1
    ∷ fetches 1 ++ fetches 2 ++ restored 1 ∷ restored 2 ∷ deliver 1 2 ∷ []

abbrev pub loss_cases : List Case
loss_cases =
    -- "removes the normal packet at place p from a line": those behind it move up
    pair_answers (send 1 2 5 ∷ send 1 2 7 ∷ lose 1 2 0 ∷ deliver 1 2 ∷ []) (send 2 1 57) 0
    ∷ pair_answers (send 1 2 5 ∷ send 1 2 7 ∷ lose 1 2 0 ∷ deliver 1 2 ∷ []) (send 2 1 58) 16
    ∷ pair_answers (send 1 2 5 ∷ send 1 2 7 ∷ lose 1 2 0 ∷ deliver 1 2 ∷ []) (deliver 1 2) 18
    ∷ pair_answers (send 1 2 5 ∷ send 1 2 7 ∷ send 1 2 9 ∷ lose 1 2 1 ∷ deliver 1 2 ∷ deliver 1 2 ∷ []) (send 2 1 64) 0
    ∷ pair_answers (send 1 2 5 ∷ send 1 2 7 ∷ send 1 2 9 ∷ lose 1 2 1 ∷ deliver 1 2 ∷ deliver 1 2 ∷ []) (send 2 1 65) 16
    ∷ pair_answers (replicate 4 (send 1 2 1) ++ lose 1 2 3 ∷ []) (send 1 2 1) 0
    -- "A save with a lost packet must never commit": a link fault, by which two cabinets are parted
    ∷ pair_answers (send 1 2 30 ∷ lose 1 2 0 ∷ begin 1 ∷ []) (deliver 1 2) 50
    ∷ answers (two_cabinets 30000 50) (send 1 2 25919 ∷ lose 1 2 0 ∷ begin 1 ∷ []) (deliver 1 2) 50
    -- a checkp that has moved up is compared like any
    ∷ pair_answers (send 1 2 30 ∷ begin 1 ∷ lose 1 2 0 ∷ []) (deliver 1 2) 50
    -- "kinds up to 12 pass check 8"; lose names no q
    ∷ pair_answers (send 1 2 5 ∷ []) (record_of 12 1 2 0 1) 9
    ∷ pair_answers (send 1 2 5 ∷ []) (record_of 12 1 2 0 256) 9
    ∷ pair_answers (send 1 2 5 ∷ []) (record_of 12 1 3 0 1) 9
    ∷ pair_answers (send 1 2 5 ∷ fail 1 ∷ []) (lose 1 2 0) 10
    ∷ pair_answers (send 1 2 5 ∷ []) (lose 1 3 0) 11
    ∷ pair_answers (send 1 2 5 ∷ []) (lose 0 2 0) 11
    -- 12 is asked of a alone
    ∷ answers ring (fail 3 ∷ []) (lose 3 1 0) 12
    ∷ answers ring (send 1 3 5 ∷ fail 3 ∷ []) (lose 1 3 0) 18
    -- "lose has damage's 13, 18 and 20, 18 also for a fail-safe packet"
    ∷ answers row (send 1 2 5 ∷ []) (lose 1 3 0) 13
    ∷ pair_answers [] (lose 1 2 0) 18
    ∷ pair_answers (send 1 2 5 ∷ []) (lose 1 2 1) 18
    ∷ pair_answers (send 1 2 5 ∷ []) (lose 1 2 255) 18
    ∷ pair_answers (send 1 2 5 ∷ []) (lose 2 1 0) 18
    ∷ pair_answers (begin 1 ∷ []) (lose 1 2 0) 18
    ∷ pair_answers (begin 1 ∷ damage 1 2 0 1 ∷ []) (lose 1 2 0) 18
    ∷ pair_answers (send 1 2 5 ∷ []) (lose 1 2 0) 0
    -- "One hurt for each line still holds, loss or damage"
    ∷ pair_answers (send 1 2 5 ∷ send 1 2 7 ∷ lose 1 2 0 ∷ []) (lose 1 2 0) 20
    ∷ pair_answers (send 1 2 5 ∷ send 1 2 7 ∷ lose 1 2 0 ∷ []) (damage 1 2 0 1) 20
    ∷ pair_answers (send 1 2 5 ∷ send 1 2 7 ∷ damage 1 2 0 1 ∷ []) (lose 1 2 1) 20
    ∷ pair_answers (send 1 2 5 ∷ lose 1 2 0 ∷ []) (lose 1 2 0) 18
    ∷ pair_answers (send 1 2 5 ∷ send 2 1 7 ∷ lose 1 2 0 ∷ []) (lose 2 1 0) 0
    -- a fail-safe packet's damage asks no mark and sets none
    ∷ pair_answers (send 1 2 5 ∷ send 1 2 7 ∷ lose 1 2 0 ∷ begin 1 ∷ []) (damage 1 2 1 1) 0
    ∷ pair_answers (send 1 2 5 ∷ begin 1 ∷ damage 1 2 1 1 ∷ []) (lose 1 2 0) 0
    -- ".. since the receiver's register restarted": "when it enters recovered"
    ∷ answers ring (loss_undone ++ send 1 2 5 ∷ []) (lose 1 2 0) 0
    -- "a loss crashes the group where damage would": 3 fails, 2 is in recovering, and 1 does not know; not where it is refused
    ∷ answers far_from_three (send 1 2 5 ∷ fail 3 ∷ []) (lose 1 2 0) 50
    ∷ answers far_from_three (send 1 2 5 ∷ fail 3 ∷ []) (lose 1 2 1) 18
    ∷ []

-- ---- what a crash leaves, and what the history notes

-- the packet whose loss crashes the group, after it
abbrev pub packet_after_crash : Packet
packet_after_crash = packet_at (line (step_all (load far_from_three).group (send 1 2 5 ∷ fail 3 ∷ lose 1 2 0 ∷ [])) 0 1) 0

-- after two packets from 1 to 2, of which one is hurt, and the begin of a save
abbrev pub noted : List ℕ → History
noted hurting = (run (opening (load (two_cabinets 100 50)).group) (steps (send 1 2 5 ∷ send 1 2 7 ∷ hurting ∷ begin 1 ∷ []))).history

-- whether one of the buses was damaged, none of the workshop, and what is noted of the lines from 1 to 2 and back
abbrev pub Notes : History → Bool → Bool → Bool → Type 0
Notes h damaged there back = (h.damaged Buses ≡ damaged) × (h.damaged Workshop ≡ false) × (h.hurt 0 1 ≡ there) × (h.hurt 1 0 ≡ back) × (length (h.sent 0 1) ≡ 2) × (h.taken 0 1 ≡ [])

abbrev pub HurtNoted : Type 0
HurtNoted = Notes (noted (lose 1 2 0)) false true false × Notes (noted (damage 1 2 0 1)) true true false
