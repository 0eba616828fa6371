-- Document 02, card 9: what may differ between two runs that differ in the amounts of workshop sends, and no more. Here it is covered up, each
-- part by one value, whatever stood there; two groups are the same but for it where they are equal once it is covered.
use Rattle.std.specs.Prelude.{ℕ, suc, ◌+◌, Bool, cond, ◌||◌, List, [], ◌∷◌, map, option_map, eqb, None, Some}
use Rattle.crc.specs.Crc.{start}
use Rattle.outlet.specs.declared.Outlet.TheVariants.{W}
use Rattle.outlet.specs.declared.Party.{Party}
use Rattle.outlet.specs.declared.Party.TheVariants.{Buses, Workshop}
use Rattle.outlet.specs.Outlet.{party_of}
use Rattle.packet.specs.Packet.{OwnCheck}
use Rattle.packet.specs.declared.Payload.{Payload}
use Rattle.packet.specs.declared.Check.{Check}
use Rattle.packet.specs.declared.Packet.{Packet}
use Rattle.packet.specs.declared.Packet.TheVariants.{Empty, Normal as NormalPacket, Checkp, Resume, Recover, Fault, Invalid}
use Rattle.packet.specs.Packet.{own_check, fits}
use Rattle.line.specs.declared.Cell.{Cell}
use Rattle.line.specs.declared.Line.{Line}
use Rattle.outgoing.specs.declared.Outgoing.{Outgoing}
use Rattle.registers.specs.declared.Registers.{Registers}
use Rattle.image.specs.declared.Image.{Image}
use Rattle.cabinet.specs.declared.Cabinet.{Cabinet}
use Rattle.cabinet.specs.Cabinet.{with_image, with_registers}
use Rattle.points.specs.declared.Point.{Point}
use Rattle.points.specs.declared.Points.{Points}
use Rattle.store.specs.declared.Slots.{Slots}
use Rattle.store.specs.declared.Store.{Store}
use Rattle.store.specs.Store.{with_firsts, with_seconds}
use Rattle.group.specs.declared.Group.{Group}
use Rattle.group.specs.declared.Outcome.{Outcome}
use Rattle.group.specs.Group.{with_cabinets, with_lines, with_store, answering}
use Rattle.protocol.specs.declared.Site.{Site}

-- ---- images: the workshop's "own booking in octets 4 and 5"

abbrev pub cover_octet : ℕ → ℕ → ℕ
cover_octet i x = cond (eqb i 4 || eqb i 5) 0 x

-- of a list that starts with octet i
unfoldable pub cover_from : ℕ → List ℕ → List ℕ
cover_from i [] = []
cover_from i (x ∷ xs) = cover_octet i x ∷ cover_from (suc i) xs

unfoldable pub cover_image : Image → Image
cover_image m = record { octets = cover_from 0 m.octets }

-- ---- workshop packets: the amount, and the packet's own check, but for whether it fits

abbrev pub cover_own : Bool → OwnCheck → OwnCheck
cover_own fit None = None
cover_own fit (Some c) = Some (cond fit (own_check W 0) (own_check W 0 + 1))

abbrev pub cover_of : Party → Payload → Payload
cover_of Buses p = p
cover_of Workshop p = record { outlet = p.outlet; amount = 0; own = cover_own (fits p) p.own }

unfoldable pub cover_payload : Payload → Payload
cover_payload p = cover_of (party_of p.outlet) p

-- ---- registers and checkps: the CRC, not the count

abbrev pub cover_check : Check → Check
cover_check c = record { crc = start; count = c.count }

abbrev pub cover_packet : Packet → Packet
cover_packet Empty = Empty
cover_packet (NormalPacket p) = NormalPacket (cover_payload p)
cover_packet (Checkp c) = Checkp (cover_check c)
cover_packet Resume = Resume
cover_packet (Recover v) = Recover v
cover_packet (Fault p) = Fault p
cover_packet Invalid = Invalid

abbrev pub cover_registers : Registers → Registers
cover_registers r = record { sent = map cover_check r.sent; taken = map cover_check r.taken; hurt = r.hurt }

-- ---- the whole: lines, cabinets, slots and points

abbrev pub cover_cell : Cell → Cell
cover_cell c = record { packet = cover_packet c.packet }

abbrev pub cover_line : Line → Line
cover_line l = record { cells = map cover_cell l.cells }

abbrev pub cover_outgoing : Outgoing → Outgoing
cover_outgoing o = record { lines = map cover_line o.lines }

abbrev pub cover_cabinet : Cabinet → Cabinet
cover_cabinet c = with_image (with_registers c (cover_registers c.registers)) (cover_image c.image)

abbrev pub cover_slots : Slots → Slots
cover_slots s = record { zero = cover_image s.zero; one = cover_image s.one }

-- both copies of each slot, and no more of the store
abbrev pub cover_store : Store → Store
cover_store s = with_seconds (with_firsts s (map cover_slots s.firsts)) (map cover_slots s.seconds)

unfoldable pub cover : Group → Group
cover g =
    with_store (with_lines (with_cabinets g (map cover_cabinet g.cabinets)) (map cover_outgoing g.outgoing)) (cover_store g.store)

abbrev pub cover_point : Point → Point
cover_point p = record { name = p.name; images = map cover_image p.images }

unfoldable pub cover_points : Points → Points
cover_points ps = record { places = map (option_map cover_point) ps.places }

abbrev pub cover_site : Site → Site
cover_site s = record { group = cover s.group; points = cover_points s.points }

abbrev pub cover_outcome : Outcome → Outcome
cover_outcome o = answering o.answer (cover o.group)
