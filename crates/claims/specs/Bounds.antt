-- What the documents ask of every run beside demand 3: that the packet version stays and its packets are on the lines, that lines keep to
-- their sizes and that additions do not wrap. That none is ever too short is in `Fifo`.
use Rattle.std.specs.Prelude.{ℕ, ◌+◌, ◌<◌, ◌≤◌, ◌≡◌, true, false, List, [], ◌∷◌, length}
use Rattle.outlet.specs.declared.Party.{Party}
use Rattle.outlet.specs.declared.Party.TheVariants.{Buses, Workshop}
use Rattle.outlet.specs.Outlet.{party_of}
use Rattle.packet.specs.declared.PacketVersion.{PacketVersion}
use Rattle.packet.specs.declared.PacketVersion.TheVariants.{One, Two}
use Rattle.packet.specs.declared.Payload.{Payload}
use Rattle.packet.specs.declared.Packet.{Packet}
use Rattle.packet.specs.declared.Packet.TheVariants.{Empty, Normal as NormalPacket, Checkp, Resume, Recover, Fault, Invalid}
use Rattle.packet.specs.Packet.{octets_of}
use Rattle.line.specs.declared.Cell.{Cell}
use Rattle.line.specs.Line.{oldest, normals, packet_at}
use Rattle.image.specs.Image.{booking}
use Rattle.group.specs.declared.Group.{Group}
use Rattle.group.specs.Group.{cabinet, line, is_crashed}
use Rattle.load.specs.Load.{load}
use Rattle.protocol.specs.Receive.{takes_from}
use Rattle.protocol.specs.History.{History, Operation}
use Rattle.protocol.specs.Restored.{Octets, AllOctets, world_after}

-- ---- the packets of a line, oldest first

abbrev pub packet_of : Packet → List Packet → List Packet
packet_of Empty l = l
packet_of (NormalPacket p) l = NormalPacket p ∷ l
packet_of (Checkp v) l = Checkp v ∷ l
packet_of Resume l = Resume ∷ l
packet_of (Recover v) l = Recover v ∷ l
packet_of (Fault p) l = Fault p ∷ l
packet_of Invalid l = Invalid ∷ l

unfoldable pub content : List Cell → List Packet
content [] = []
content (c ∷ cs) = packet_of c.packet (content cs)

abbrev pub packets : Group → ℕ → ℕ → List Packet
packets g a b = content (line g a b).cells

-- the normal ones of them
abbrev pub normal_first : Packet → List Packet → List Packet
normal_first Empty l = l
normal_first (NormalPacket p) l = NormalPacket p ∷ l
normal_first (Checkp v) l = l
normal_first Resume l = l
normal_first (Recover v) l = l
normal_first (Fault p) l = l
normal_first Invalid l = l

unfoldable pub normals_of : List Packet → List Packet
normals_of [] = []
normals_of (p ∷ l) = normal_first p (normals_of l)

-- ---- what is asked of every run

-- of the group and its history after every list of operations (step records, points and returns) from a freshly loaded file
abbrev pub Always : (Group → History → Type 0) → Type 0
Always P =
    (f : List ℕ) → Octets f → (load f).answer ≡ 0 → (xs : List Operation) → AllOctets xs → P (world_after f xs).group (world_after f xs).history

-- of every group that has not crashed, and its history
abbrev pub Running : (Group → History → Type 0) → Type 0
Running P = Always (λ g h. is_crashed g ≡ false → P g h)

-- ---- the packet version

-- document 02, card 7: "Groups of packet version 2": a group stays of the version that its file has
abbrev pub VersionStays : Type 0
VersionStays = (f : List ℕ) (xs : List Operation) → (world_after f xs).group.packets ≡ (load f).group.packets

-- "A normal packet is three octets", and in version 2 has "two more"
abbrev pub packet_octets : PacketVersion → ℕ
packet_octets One = 3
packet_octets Two = 5

-- every normal packet that stands on a line, whole or hurt, has the octets of the group's version: so in version 2 each carries its own check
abbrev pub PacketsOfVersion : Type 0
PacketsOfVersion =
    Always (λ g h. (a b k : ℕ) (p : Payload) → packet_at (line g a b) k ≡ NormalPacket p → length (octets_of p) ≡ packet_octets g.packets)

-- ---- lines

-- "each direction is a line, first in, first out, of at most 12 packets, at most 8 of them normal"; the workshop has "four of the eight normal
-- places in each; the buses have the other four"
abbrev pub LinesBounded : Type 0
LinesBounded =
    Always (λ g h. (a b : ℕ) → (length (packets g a b) ≤ 12) × (normals Buses (line g a b) ≤ 4) × (normals Workshop (line g a b) ≤ 4)
    × (length (normals_of (packets g a b)) ≤ 8))

-- ---- amounts

-- "no normal packet has been damaged since the start or the end of the last recovery": none of that party
abbrev pub Undamaged : Party → History → Type 0
Undamaged y h = h.damaged y ≡ false

-- the booking of b that p names, an outlet's or the workshop's, has room for its amount
abbrev pub HasRoom : Group → ℕ → Payload → Type 0
HasRoom g b p = booking p.outlet (cabinet g b).image + p.amount < 65536

-- "A receiver adds an amount modulo 65,536; it is to be proved that this never wraps while .. ": b adds p, the oldest packet from a, and no
-- packet of p's party was damaged; packets of the other party may have been
abbrev pub NeverWraps : Type 0
NeverWraps =
    Running (λ g h. (a b : ℕ) (p : Payload) → Undamaged (party_of p.outlet) h → oldest (line g a b) ≡ NormalPacket p → takes_from (cabinet g b) a ≡ true → HasRoom g b p)
