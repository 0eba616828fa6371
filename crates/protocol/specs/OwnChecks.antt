-- Closed runs of document 02, card 7: four recoveries, three of them in groups of packet version 2, with what they find; what a hurt packet leaves
-- where it is taken or dropped; and cases of what is loaded and answered in either version. Check values that stand here as numbers were
-- computed by another program.
use Rattle.std.specs.Prelude.{ℕ, ◌+◌, ◌*◌, ◌/◌, ◌≡◌, Bool, true, List, [], ◌∷◌, ◌++◌, map, length, get_or, set, take, Some}
use Rattle.std.proofs.Math.Option.{none, some}
use Rattle.outlet.specs.declared.Outlet.TheVariants.{A, B}
use Rattle.outlet.specs.declared.Party.TheVariants.{Buses}
use Rattle.packet.specs.declared.PacketVersion.TheVariants.{One, Two}
use Rattle.packet.specs.declared.Pattern.{Pattern}
use Rattle.packet.specs.declared.Payload.{Payload}
use Rattle.packet.specs.declared.Check.{Check}
use Rattle.packet.specs.declared.Place.TheVariants.{Link as AtLink}
use Rattle.packet.specs.declared.Packet.TheVariants.{Checkp}
use Rattle.packet.specs.Packet.{own_check, packed, octets_of, start_check, step_check, hurt_by}
use Rattle.line.specs.Line.{oldest}
use Rattle.group.specs.declared.Group.{Group}
use Rattle.group.specs.declared.Outcome.{Outcome}
use Rattle.group.specs.Group.{cabinet, line}
use Rattle.load.specs.Load.{load}
use Rattle.protocol.specs.Entry.{step, step_all}
use Rattle.protocol.specs.Listing.{Text, ascii, cab_lines}
use Rattle.protocol.specs.History.{History, stepping, steps, run, opening}
use Rattle.protocol.specs.Marked.{two_octets, Bookings, only_a, for_buses, entries_from, two_cabinets, send, begin, deliver, fail, restored, Case}
use Rattle.protocol.specs.Examples.{note, fetches, damage, Example, Found, to_a, image_with, ring, ring_save, ring_saved}
use Rattle.protocol.specs.Outlets.{send_AB, loads}
use Rattle.protocol.specs.Losses.{lose, answers, pair_answers}

-- ---- group files of version 2, beside those of `Marked`

-- "Version 2 files have a sixth header number, 2 .., and offsets two higher"
abbrev pub header_two : ℕ → ℕ → List ℕ
header_two n m =
    two_octets n ++ two_octets m ++ two_octets 12 ++ two_octets (12 + 9 * n) ++ two_octets (12 + 9 * n + 2 * m) ++ two_octets 2

abbrev pub file_all_two : ℕ → List Bookings → List ℕ → List ℕ
file_all_two s bookings links = header_two (length bookings) (length links / 2) ++ entries_from s 1 bookings ++ links

abbrev pub file_both_two : ℕ → List (ℕ × ℕ) → List ℕ → List ℕ
file_both_two s bookings links = file_all_two s (map for_buses bookings) links

abbrev pub file_two : ℕ → List ℕ → List ℕ → List ℕ
file_two s bookings links = file_all_two s (map only_a bookings) links

-- `ring`, `row`, `far_from_three` and `two_cabinets 100 50` in version 2
abbrev pub ring_two : List ℕ
ring_two = file_two 1 (100 ∷ 50 ∷ 20 ∷ []) (1 ∷ 2 ∷ 1 ∷ 3 ∷ 2 ∷ 3 ∷ [])

abbrev pub row_two : List ℕ
row_two = file_two 2 (100 ∷ 50 ∷ 20 ∷ []) (1 ∷ 2 ∷ 2 ∷ 3 ∷ [])

abbrev pub far_from_three_two : List ℕ
far_from_three_two = file_two 1 (10 ∷ 20 ∷ 30 ∷ 40 ∷ []) (1 ∷ 2 ∷ 1 ∷ 4 ∷ 2 ∷ 3 ∷ 3 ∷ 4 ∷ [])

abbrev pub pair_two : List ℕ
pair_two = file_two 1 (100 ∷ 50 ∷ []) (1 ∷ 2 ∷ [])

-- ---- damage with shifts: "the high three bits of p shift q by 0 to 7 bits .., then by octets as b's high four bits say"

abbrev pub damage_by : ℕ → ℕ → ℕ → ℕ → ℕ → ℕ → List ℕ
damage_by octets bits a b p q = damage a (b + 16 * octets) (p + 32 * bits) q

-- ---- packets as octets, whole and hurt

-- a packet of version 2 for outlet A with this check
abbrev pub checked_a : ℕ → ℕ → Payload
checked_a q c = record { outlet = A; amount = q; own = Some c }

abbrev pub pattern : ℕ → ℕ → ℕ → Pattern
pattern octets bits q = record { mask = q; bits = bits; octets = octets }

-- the octets of a packet of 30 amperes for outlet A, hurt
abbrev pub hurt_thirty : Pattern → List ℕ
hurt_thirty w = octets_of (hurt_by (packed Two A 30) w)

abbrev pub OctetsSeen : Type 0
OctetsSeen =
    -- "the CRC-16 of the packet's first three": 00 00 1E and 01 00 1E
    (own_check A 30 ≡ 0x3F63) × (own_check B 30 ≡ 0x0853)
    -- three octets, and "two more"
    × (octets_of (packed One A 30) ≡ 0x00 ∷ 0x00 ∷ 0x1E ∷ []) × (octets_of (packed One B 30) ≡ 0x01 ∷ 0x00 ∷ 0x1E ∷ [])
    × (octets_of (packed Two A 30) ≡ 0x00 ∷ 0x00 ∷ 0x1E ∷ 0x3F ∷ 0x63 ∷ []) × (octets_of (packed Two B 30) ≡ 0x01 ∷ 0x00 ∷ 0x1E ∷ 0x08 ∷ 0x53 ∷ [])
    -- "all five octets but the first": no shift hits the check, two octets the amount, and one and a half both
    × (hurt_thirty (pattern 0 0 0x8001) ≡ 0x00 ∷ 0x00 ∷ 0x1E ∷ 0xBF ∷ 0x62 ∷ [])
    × (hurt_thirty (pattern 2 0 0x8001) ≡ 0x00 ∷ 0x80 ∷ 0x1F ∷ 0x3F ∷ 0x63 ∷ [])
    × (hurt_thirty (pattern 1 4 0xFFFF) ≡ 0x00 ∷ 0x0F ∷ 0xE1 ∷ 0xCF ∷ 0x63 ∷ [])
    -- in version 1 q is "XORed on a normal amount"
    × (octets_of (hurt_by (packed One A 30) (pattern 0 0 0x8001)) ≡ 0x00 ∷ 0x80 ∷ 0x1F ∷ [])

-- ---- a hurt packet is found on taking

-- after the committed save of `ring_saved`, with 80, 75 and 15: 40 amperes go from 1 to 2, and 2, which makes a note, sends 6 to 3
abbrev pub moved_on : List (List ℕ)
moved_on = ring_saved ++ send 1 2 40 ∷ deliver 1 2 ∷ note 2 31 4 ∷ send 2 3 6 ∷ []

-- 3 takes what 2 sent it, and finds a link fault; all come back from the save
abbrev pub found_at_three : List (List ℕ)
found_at_three =
    deliver 2 3
    -- the fault goes from 3 to 1 and from 1 to both others; 2, which has struck its end of the link, tells 1
    ∷ deliver 3 1 ∷ deliver 1 2 ∷ deliver 1 3 ∷ deliver 2 1
    ∷ fetches 1 ++ fetches 2 ++ fetches 3
    ++ restored 1 ∷ restored 2 ∷ []

-- damage makes 7 amperes of the 6. "inequality is a link fault then and there, its amount not added": no save need begin for it, and 3 never has
-- them. In version 1, in `hurt_until_checkp`, the same packet has no check of its own: 3 adds the 7, and the link fault is found when the next
-- save begins
abbrev pub hurt_on_taking : Example
hurt_on_taking = record {
  file = ring_two;
  before = steps (moved_on ++ damage_by 2 0 2 3 0 1 ∷ []);
  since = steps found_at_three;
  last = stepping (restored 3);
  coordinator = 0;
}

abbrev pub hurt_on_taking_finds : Found
hurt_on_taking_finds = record {
  loaded = 0;
  taken = true;
  ended = true;
  place = Some (AtLink 1 2);
  committed = 1;
  left = 1;
  begun = true;
  stands = true;
  by = 0;
  took = (checked_a 10 0x6DD6 ∷ []) ∷ (checked_a 30 0x3F63 ∷ []) ∷ (checked_a 5 0x9C39 ∷ []) ∷ [];
  standing = image_with 40 0 ∷ image_with 109 4 ∷ image_with 15 0 ∷ [];
  held = some (image_with 80 0) ∷ some (image_with 75 9) ∷ some (image_with 15 0) ∷ [];
  gone = none ∷ none ∷ none ∷ [];
}

-- ---- so is one of which the check alone is hurt

abbrev pub check_hurt_run : Example
check_hurt_run = record {
  file = ring_two;
  -- behind the 6 amperes 2 sends 9 more, of which damage leaves the amount as it is; the 6 are taken
  before = steps (moved_on ++ send 2 3 9 ∷ damage_by 0 0 2 3 1 0x8001 ∷ deliver 2 3 ∷ []);
  since = steps found_at_three;
  last = stepping (restored 3);
  coordinator = 0;
}

abbrev pub check_hurt_finds : Found
check_hurt_finds = record {
  loaded = 0;
  taken = true;
  ended = true;
  place = Some (AtLink 1 2);
  committed = 1;
  left = 1;
  begun = true;
  stands = true;
  by = 0;
  took = (checked_a 10 0x6DD6 ∷ []) ∷ (checked_a 30 0x3F63 ∷ []) ∷ (checked_a 5 0x9C39 ∷ []) ∷ [];
  standing = image_with 40 0 ∷ image_with 100 4 ∷ image_with 21 0 ∷ [];
  held = some (image_with 80 0) ∷ some (image_with 75 9) ∷ some (image_with 15 0) ∷ [];
  gone = none ∷ none ∷ none ∷ [];
}

-- ---- the first of the two in version 1

-- "version 1 files load as before": the 7 amperes are taken, so that 40, 109 and 22 are more than the total, and the save that begins then finds it at
-- the checkp from 2. In version 2, in `hurt_on_taking`, 3 has 15 all the time, and no save begins
abbrev pub hurt_until_checkp : Example
hurt_until_checkp = record {
  file = ring;
  before = steps (moved_on ++ damage 2 3 0 1 ∷ deliver 2 3 ∷ begin 1 ∷ deliver 1 2 ∷ []);
  since = steps found_at_three;
  last = stepping (restored 3);
  coordinator = 0;
}

abbrev pub hurt_until_checkp_finds : Found
hurt_until_checkp_finds = record {
  loaded = 0;
  taken = true;
  ended = true;
  place = Some (AtLink 1 2);
  committed = 1;
  left = 1;
  begun = true;
  stands = true;
  by = 0;
  took = (to_a 10 ∷ []) ∷ (to_a 30 ∷ []) ∷ (to_a 5 ∷ []) ∷ [];
  standing = image_with 40 0 ∷ image_with 109 4 ∷ image_with 22 0 ∷ [];
  held = some (image_with 80 0) ∷ some (image_with 75 9) ∷ some (image_with 15 0) ∷ [];
  gone = none ∷ none ∷ none ∷ [];
}

-- ---- a packet of version 2 that is lost is found at the checkp

abbrev pub fitting_loss : Example
fitting_loss = record {
  file = ring_two;
  -- of 40 and 4 amperes from 1 to 2 the first are lost, and the second are taken: 36, 79 and 15 are less than the total; a save begins
  before = steps (ring_saved ++ send 1 2 40 ∷ send 1 2 4 ∷ lose 1 2 0 ∷ deliver 1 2 ∷ begin 1 ∷ []);
  since =
      -- 2 compares two packets with one, as in `TwoAndOneFitting`
      steps (deliver 1 2
      -- the fault goes from 2 to 3, and from 3 to 1; 1, which has struck its end of the link, tells 3
      ∷ deliver 2 3 ∷ deliver 3 1 ∷ deliver 3 2 ∷ deliver 1 3
      ∷ fetches 1 ++ fetches 2 ++ fetches 3
      ++ restored 1 ∷ restored 2 ∷ []);
  last = stepping (restored 3);
  coordinator = 0;
}

abbrev pub fitting_loss_finds : Found
fitting_loss_finds = record {
  loaded = 0;
  taken = true;
  ended = true;
  place = Some (AtLink 0 1);
  committed = 1;
  left = 1;
  begun = true;
  stands = true;
  by = 0;
  took = (checked_a 10 0x6DD6 ∷ []) ∷ (checked_a 30 0x3F63 ∷ []) ∷ (checked_a 5 0x9C39 ∷ []) ∷ [];
  standing = image_with 36 0 ∷ image_with 79 9 ∷ image_with 15 0 ∷ [];
  held = some (image_with 80 0) ∷ some (image_with 75 9) ∷ some (image_with 15 0) ∷ [];
  gone = none ∷ none ∷ none ∷ [];
}

abbrev pub register_at : ℕ → ℕ → Check
register_at c packets = record { crc = c; count = packets }

-- `packet.Bursts.FittingAlike` in numbers: one packet that fits takes the register from its start to 0, one more to 0x110C, whatever they
-- carry. Over packets of version 1 with 40 and with 4 amperes it differs
abbrev pub RegistersAlike : Type 0
RegistersAlike =
    (step_check start_check (packed Two A 40) ≡ register_at 0 1) × (step_check start_check (packed Two B 7) ≡ register_at 0 1)
    × (step_check (register_at 0 1) (packed Two A 4) ≡ register_at 0x110C 2) × (step_check (register_at 0 1) (packed Two B 30) ≡ register_at 0x110C 2)
    × (step_check start_check (packed One A 40) ≡ register_at 0x69F6 1) × (step_check start_check (packed One A 4) ≡ register_at 0x8C18 1)

-- the packets of `fitting_loss` between two cabinets, up to the begin: the checkp from 1, and the register of 2
abbrev pub loss_pair : Group
loss_pair = step_all (load pair_two).group (send 1 2 40 ∷ send 1 2 4 ∷ lose 1 2 0 ∷ deliver 1 2 ∷ begin 1 ∷ [])

abbrev pub FittingValues : Group → Type 0
FittingValues g =
    (oldest (line g 0 1) ≡ Checkp (register_at 0x110C 2)) × (get_or (cabinet g 1).registers.taken 0 start_check ≡ register_at 0 1)

abbrev pub TwoAndOneFitting : Type 0
TwoAndOneFitting = FittingValues loss_pair

-- ---- what a record is answered and leaves: the lines of the cabinets, as the listing prints them

pub record Leaving : Type 0 where
  pub file : List ℕ
  pub before : List (List ℕ)
  pub asked : List ℕ
  pub answer : ℕ
  pub cabinets : Text

-- the outcome is handed on, so that it is computed once
abbrev pub left_in : Outcome → ℕ × Text
left_in o = (o.answer, cab_lines o.group.n o.group)

unfoldable pub left : Leaving → ℕ × Text
left l = left_in (step (step_all (load l.file).group l.before) l.asked)

abbrev pub Leaves : Leaving → Type 0
Leaves l = left l ≡ (l.answer, l.cabinets)

-- a packet as it was put is taken, by the outlet that it names; the file's bookings are read two octets higher
abbrev pub fitting_taken : Leaving
fitting_taken = record {
  file = file_both_two 1 ((100, 10) ∷ (50, 20) ∷ []) (1 ∷ 2 ∷ []);
  before = send_AB 1 2 30 ∷ [];
  asked = deliver 1 2;
  answer = 0;
  cabinets = ascii "cab 1 normal 0 70 10 0\ncab 2 normal 0 50 50 0\n";
}

-- one that is hurt in its amount, and one in its check, are not: 3 has the 20 amperes that it had
abbrev pub amount_hurt : Leaving
amount_hurt = record {
  file = ring_two;
  before = send 2 3 6 ∷ damage_by 2 0 2 3 0 1 ∷ [];
  asked = deliver 2 3;
  answer = 0;
  cabinets = ascii "cab 1 normal 0 100 0 0\ncab 2 normal 0 44 0 0\ncab 3 recovering 0 20 0 0\n";
}

abbrev pub check_hurt : Leaving
check_hurt = record {
  file = ring_two;
  before = send 2 3 6 ∷ damage 2 3 0 1 ∷ [];
  asked = deliver 2 3;
  answer = 0;
  cabinets = ascii "cab 1 normal 0 100 0 0\ncab 2 normal 0 44 0 0\ncab 3 recovering 0 20 0 0\n";
}

-- in version 1 the same record hits the amount, and 7 amperes are added
abbrev pub hurt_added : Leaving
hurt_added = record {
  file = ring;
  before = send 2 3 6 ∷ damage 2 3 0 1 ∷ [];
  asked = deliver 2 3;
  answer = 0;
  cabinets = ascii "cab 1 normal 0 100 0 0\ncab 2 normal 0 44 0 0\ncab 3 normal 0 27 0 0\n";
}

-- over the one link of two cabinets the fault parts them
abbrev pub hurt_parts : Leaving
hurt_parts = record {
  file = pair_two;
  before = send 1 2 30 ∷ damage_by 2 0 1 2 0 1 ∷ [];
  asked = deliver 1 2;
  answer = 50;
  cabinets = ascii "cab 1 crashed 0 70 0 0\ncab 2 crashed 0 50 0 0\n";
}

-- "In checkp-begin, normal packets are taken from neighbours whose checkp has not come": one that fits, and not a hurt one
abbrev pub fitting_in_begin : Leaving
fitting_in_begin = record {
  file = ring_two;
  before = send 2 3 6 ∷ begin 1 ∷ deliver 1 3 ∷ [];
  asked = deliver 2 3;
  answer = 0;
  cabinets = ascii "cab 1 checkp-begin 0 100 0 0\ncab 2 normal 0 44 0 0\ncab 3 checkp-begin 0 26 0 0\n";
}

abbrev pub hurt_in_begin : Leaving
hurt_in_begin = record {
  file = ring_two;
  before = send 2 3 6 ∷ damage_by 1 4 2 3 0 0xFFFF ∷ begin 1 ∷ deliver 1 3 ∷ [];
  asked = deliver 2 3;
  answer = 0;
  cabinets = ascii "cab 1 checkp-begin 0 100 0 0\ncab 2 normal 0 44 0 0\ncab 3 recovering 0 20 0 0\n";
}

-- "Packets not named for a state are dropped": 2 is in recovering since 3 has failed, of which 1 does not know
abbrev pub hurt_in_recovery : Leaving
hurt_in_recovery = record {
  file = far_from_three_two;
  before = send 1 2 5 ∷ damage_by 2 0 1 2 0 1 ∷ fail 3 ∷ [];
  asked = deliver 1 2;
  answer = 0;
  cabinets = ascii "cab 1 normal 0 5 0 0\ncab 2 recovering 0 20 0 0\ncab 3 failed\ncab 4 recovering 0 40 0 0\n";
}

-- "Over a link struck at b it is dropped": 2 has struck the link to 1 for a hit resume, behind which the hurt packet comes
abbrev pub hurt_over_struck : Leaving
hurt_over_struck = record {
  file = ring_two;
  before = send 3 1 10 ∷ ring_save ++ damage 1 2 0 1 ∷ send 1 2 5 ∷ damage_by 2 0 1 2 1 1 ∷ deliver 1 2 ∷ [];
  asked = deliver 1 2;
  answer = 0;
  cabinets = ascii "cab 1 normal 1 105 0 0\ncab 2 error u 50 0 0\ncab 3 checkpointed u 10 0 0\n";
}

abbrev pub AllLeave : Type 0
AllLeave =
    Leaves fitting_taken × Leaves amount_hurt × Leaves check_hurt × Leaves hurt_added × Leaves hurt_parts × Leaves fitting_in_begin × Leaves hurt_in_begin
    × Leaves hurt_in_recovery × Leaves hurt_over_struck

-- ---- what the history notes: a packet that does not fit is sent and not taken, and in version 1 the hurt one is taken as it came

abbrev pub noted_after : List ℕ → List ℕ → History
noted_after file hurting = (run (opening (load file).group) (steps (send 2 3 6 ∷ hurting ∷ deliver 2 3 ∷ []))).history

-- what was sent from 2 to 3 and taken there, whether a packet of the buses was damaged, and whether one of that line; the history is handed on, so that it is
-- computed once
abbrev pub logs_in : History → (List Payload × List Payload) × (Bool × Bool)
logs_in h = ((h.sent 1 2, h.taken 1 2), (h.damaged Buses, h.hurt 1 2))

unfoldable pub logs_after : List ℕ → List ℕ → (List Payload × List Payload) × (Bool × Bool)
logs_after file hurting = logs_in (noted_after file hurting)

abbrev pub HurtLogged : Type 0
HurtLogged =
    (logs_after ring_two (damage_by 2 0 2 3 0 1) ≡ ((checked_a 6 0xAC5A ∷ [], []), (true, true)))
    × (logs_after ring_two (damage 2 3 0 1) ≡ ((checked_a 6 0xAC5A ∷ [], []), (true, true)))
    × (logs_after ring (damage 2 3 0 1) ≡ ((to_a 6 ∷ [], to_a 7 ∷ []), (true, true)))

-- ---- cases

-- two cabinets with 100 and 50 in version 2; `pair_answers` has them in version 1
abbrev pub pair_two_answers : List (List ℕ) → List ℕ → ℕ → Case
pair_two_answers = answers pair_two

abbrev pub damage_cases : List Case
damage_cases =
    -- "within 16 neighbouring bits": every shift, up to the highest bit of the four octets
    pair_two_answers (send 1 2 30 ∷ []) (damage_by 0 0 1 2 0 0xFFFF) 0
    ∷ pair_two_answers (send 1 2 30 ∷ []) (damage_by 0 7 1 2 0 0xFFFF) 0
    ∷ pair_two_answers (send 1 2 30 ∷ []) (damage_by 1 0 1 2 0 0xFFFF) 0
    ∷ pair_two_answers (send 1 2 30 ∷ []) (damage_by 1 7 1 2 0 0xFFFF) 0
    ∷ pair_two_answers (send 1 2 30 ∷ []) (damage_by 2 0 1 2 0 0xFFFF) 0
    ∷ pair_two_answers (send 1 2 30 ∷ []) (damage_by 2 1 1 2 0 0x4000) 0
    ∷ pair_two_answers (send 1 2 30 ∷ []) (damage_by 2 7 1 2 0 0x0100) 0
    -- "15 also for an octet shift above 2, a shifted pattern outside the four octets"
    ∷ pair_two_answers (send 1 2 30 ∷ []) (damage_by 2 1 1 2 0 0x8000) 15
    ∷ pair_two_answers (send 1 2 30 ∷ []) (damage_by 2 7 1 2 0 0x0200) 15
    ∷ pair_two_answers (send 1 2 30 ∷ []) (damage_by 3 0 1 2 0 1) 15
    ∷ pair_two_answers (send 1 2 30 ∷ []) (damage_by 15 0 1 2 0 1) 15
    -- "q is 0"
    ∷ pair_two_answers (send 1 2 30 ∷ []) (damage_by 0 0 1 2 0 0) 15
    ∷ pair_two_answers (send 1 2 30 ∷ []) (damage_by 2 7 1 2 0 0) 15
    -- "11 reads b's low four bits"
    ∷ pair_two_answers (send 1 2 30 ∷ []) (damage_by 1 0 1 0 0 1) 11
    ∷ pair_two_answers (send 1 2 30 ∷ []) (damage_by 2 0 1 3 0 1) 11
    ∷ pair_two_answers (send 1 2 30 ∷ []) (damage_by 3 0 1 15 0 0) 11
    -- .. and so do 13 and 18, before 15
    ∷ answers row_two (send 1 2 30 ∷ []) (damage_by 3 0 1 3 0 0) 13
    ∷ answers ring_two (send 2 3 6 ∷ []) (damage_by 2 0 2 3 0 1) 0
    ∷ answers ring_two (send 2 3 6 ∷ []) (damage_by 2 0 2 1 0 1) 18
    -- ".. and 18 p's low five"
    ∷ pair_two_answers (send 1 2 30 ∷ []) (damage_by 0 1 1 2 1 1) 18
    ∷ pair_two_answers (send 1 2 30 ∷ []) (damage_by 0 7 1 2 31 1) 18
    ∷ pair_two_answers (send 1 2 30 ∷ send 1 2 5 ∷ []) (damage_by 0 7 1 2 1 1) 0
    ∷ pair_two_answers (send 1 2 30 ∷ []) (damage_by 3 0 1 2 1 0) 18
    -- 15 before 20
    ∷ pair_two_answers (send 1 2 30 ∷ send 1 2 5 ∷ damage 1 2 0 1 ∷ []) (damage_by 3 0 1 2 1 1) 15
    ∷ pair_two_answers (send 1 2 30 ∷ send 1 2 5 ∷ damage 1 2 0 1 ∷ []) (damage_by 2 7 1 2 1 1) 20
    -- 15 is asked of a fail-safe packet too
    ∷ pair_two_answers (begin 1 ∷ []) (damage_by 3 0 1 2 0 1) 15
    ∷ pair_two_answers (begin 1 ∷ []) (damage_by 2 1 1 2 0 0x8000) 15
    ∷ pair_two_answers (begin 1 ∷ []) (damage_by 2 1 1 2 0 0x4000) 0
    -- lose reads b and p as before
    ∷ pair_two_answers (send 1 2 30 ∷ []) (lose 1 18 0) 11
    ∷ pair_two_answers (send 1 2 30 ∷ []) (lose 1 2 32) 18
    ∷ pair_two_answers (send 1 2 30 ∷ []) (lose 1 2 0) 0
    -- "and a non-zero shift in version 1", of any packet
    ∷ pair_answers (send 1 2 30 ∷ []) (damage_by 0 1 1 2 0 1) 15
    ∷ pair_answers (send 1 2 30 ∷ []) (damage_by 1 0 1 2 0 1) 15
    ∷ pair_answers (send 1 2 30 ∷ []) (damage_by 0 0 1 2 0 0xFFFF) 0
    ∷ pair_answers (begin 1 ∷ []) (damage_by 0 1 1 2 0 1) 15
    ∷ pair_answers (begin 1 ∷ []) (damage_by 1 0 1 2 0 1) 15
    ∷ pair_answers (begin 1 ∷ []) (damage_by 0 0 1 2 0 1) 0
    -- .. after 11 and 18, which read the low bits there too, and before 20
    ∷ pair_answers (send 1 2 30 ∷ []) (damage_by 1 0 1 0 0 1) 11
    ∷ pair_answers (send 1 2 30 ∷ []) (damage_by 0 1 1 2 1 1) 18
    ∷ pair_answers (send 1 2 30 ∷ send 1 2 5 ∷ damage 1 2 0 1 ∷ []) (damage_by 0 1 1 2 1 1) 15
    ∷ pair_answers (send 1 2 30 ∷ send 1 2 5 ∷ damage 1 2 0 1 ∷ []) (damage_by 0 0 1 2 1 1) 20
    ∷ []

-- the first octets of a header that names 12, for n cabinets and a link
abbrev pub start_of_two : ℕ → ℕ → List ℕ
start_of_two octets n = take octets (header_two n 1)

abbrev pub version_cases : List Case
version_cases =
    loads pair_two 0
    ∷ loads (two_cabinets 100 50) 0
    -- "a sixth header number, 2 (another gives 3)"
    ∷ loads (set pair_two 11 0) 3
    ∷ loads (set pair_two 11 1) 3
    ∷ loads (set pair_two 11 3) 3
    ∷ loads (set pair_two 10 1) 3
    -- "A file of one version is never read as the other": each with the other's first offset
    ∷ loads (set (two_cabinets 100 50) 5 12) 3
    ∷ loads (set pair_two 5 10) 3
    -- neither is read with one of its offsets or its length that of the other: link table and length of a pair are 28 and 30, 30 and 32
    ∷ loads (set pair_two 7 28) 3
    ∷ loads (set pair_two 9 30) 3
    ∷ loads (set (two_cabinets 100 50) 7 30) 3
    ∷ loads (set (two_cabinets 100 50) 9 32) 3
    ∷ loads (set (two_cabinets 100 50) 9 32 ++ 0 ∷ 0 ∷ []) 3
    ∷ loads (two_cabinets 100 50 ++ 0 ∷ 0 ∷ []) 3
    -- "1 fewer than 10 octets" in both, so of 10 and 11 octets that name 12 the answer is 2 or 3
    ∷ loads (start_of_two 9 2) 1
    ∷ loads (start_of_two 10 2) 3
    ∷ loads (start_of_two 11 2) 3
    ∷ loads (start_of_two 12 2) 3
    ∷ loads (start_of_two 10 9) 2
    ∷ loads (start_of_two 11 1) 2
    ∷ []
