-- A packet, a line and a cabinet as octets of a chronicle; docs/CHRONICLE.md has them in tables. Cabinets are numbered from 0 inside the program
-- and from 1 there.
use Rattle.std.specs.Prelude.{ℕ, zero, suc, ◌+◌, ◌/◌, ◌%◌, cond, List, [], ◌∷◌, ◌++◌, None, Some}
use Rattle.outlet.specs.declared.Outlet.TheVariants.{A, B, W}
use Rattle.outlet.specs.Outlet.{octet_of}
use Rattle.packet.specs.declared.Place.{Place}
use Rattle.packet.specs.declared.Place.TheVariants.{Failed, Tripped, Link}
use Rattle.packet.specs.declared.Packet.{Packet}
use Rattle.packet.specs.declared.Packet.TheVariants.{Empty, Normal, Checkp, Resume, Recover, Fault, Invalid}
use Rattle.packet.specs.Packet.{is_empty}
use Rattle.line.specs.declared.Line.{Line}
use Rattle.line.specs.Line.{packet_at}
use Rattle.outgoing.specs.declared.Outgoing.{Outgoing}
use Rattle.outgoing.specs.Lines.{line_to}
use Rattle.state.specs.declared.Version.{Version}
use Rattle.state.specs.declared.Version.TheVariants.{Known, Unknown, Lost}
use Rattle.state.specs.State.{rank, works}
use Rattle.image.specs.Image.{booking}
use Rattle.cabinet.specs.declared.Cabinet.{Cabinet}
use Rattle.cabinet.specs.Alarm.{Alarm}
use Rattle.cabinet.specs.Cabinet.{coordinator}
use Rattle.group.specs.declared.Group.{Group}
use Rattle.group.specs.Group.{outgoing}

-- ---- numbers

abbrev pub high : ℕ → ℕ
high n = n / 256 % 256

abbrev pub low : ℕ → ℕ
low n = n % 256

-- a cabinet's number, in an octet
abbrev pub numbered : ℕ → ℕ
numbered i = (i + 1) % 256

-- ---- the place of a fault: three octets

abbrev pub place_kind : Place → ℕ
place_kind (Failed a) = 1
place_kind (Tripped a) = 2
place_kind (Link a b) = 3

abbrev pub place_first : Place → ℕ
place_first (Failed a) = numbered a
place_first (Tripped a) = numbered a
place_first (Link a b) = numbered a

abbrev pub place_second : Place → ℕ
place_second (Failed a) = 0
place_second (Tripped a) = 0
place_second (Link a b) = numbered b

abbrev pub alarm_kind : Alarm → ℕ
alarm_kind None = 0
alarm_kind (Some p) = place_kind p

abbrev pub alarm_first : Alarm → ℕ
alarm_first None = 0
alarm_first (Some p) = place_first p

abbrev pub alarm_second : Alarm → ℕ
alarm_second None = 0
alarm_second (Some p) = place_second p

-- ---- a packet: four octets, and none where a cell is empty

abbrev pub four_octets : Packet → List ℕ
four_octets Empty = 0 ∷ 0 ∷ 0 ∷ 0 ∷ []
four_octets (Normal p) = 1 ∷ octet_of p.outlet ∷ high p.amount ∷ low p.amount ∷ []
four_octets (Checkp v) = 2 ∷ 0 ∷ 0 ∷ 0 ∷ []
four_octets Resume = 3 ∷ 0 ∷ 0 ∷ 0 ∷ []
four_octets (Recover v) = 4 ∷ cond v 1 0 ∷ 0 ∷ 0 ∷ []
four_octets (Fault p) = 5 ∷ place_kind p ∷ place_first p ∷ place_second p ∷ []
four_octets Invalid = 6 ∷ 0 ∷ 0 ∷ 0 ∷ []

unfoldable pub packet_octets : Packet → List ℕ
packet_octets p = cond (is_empty p) [] (four_octets p)

-- ---- lines

-- the packets at the first k places of a line, oldest first
abbrev pub packets_to : ℕ → Line → List ℕ
packets_to zero l = []
packets_to (suc k) l = packets_to k l ++ packet_octets (packet_at l k)

-- all of them, and then an octet 0
unfoldable pub line_octets : Line → List ℕ
line_octets l = packets_to 12 l ++ 0 ∷ []

-- the lines from a cabinet to those below b
abbrev pub lines_to : ℕ → Outgoing → List ℕ
lines_to zero o = []
lines_to (suc b) o = lines_to b o ++ line_octets (line_to o b)

-- the lines of a group of n from the cabinets below a
abbrev pub lines_from : ℕ → ℕ → Group → List ℕ
lines_from zero n g = []
lines_from (suc a) n g = lines_from a n g ++ lines_to n (outgoing g a)

-- ---- a cabinet

abbrev pub version_octet : Version → ℕ
version_octet (Known v) = cond v 1 0
version_octet (Unknown v) = cond v 3 2
version_octet Lost = 4

-- what is told of a cabinet that works; h is its home
unfoldable pub detail_octets : Cabinet → ℕ → List ℕ
detail_octets c h =
    version_octet c.phase.version ∷ numbered (coordinator c) ∷ alarm_kind c.phase.alarm ∷ alarm_first c.phase.alarm
    ∷ alarm_second c.phase.alarm ∷ c.noted.pieces ∷ numbered h
    ∷ high (booking A c.image) ∷ low (booking A c.image) ∷ high (booking B c.image) ∷ low (booking B c.image)
    ∷ high (booking W c.image) ∷ low (booking W c.image) ∷ []

-- its state, what it did, and unless it is failed the rest
unfoldable pub cabinet_octets : Cabinet → ℕ → ℕ → List ℕ
cabinet_octets c h did = rank c.phase.state ∷ did ∷ cond (works c.phase.state) (detail_octets c h) []
