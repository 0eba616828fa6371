-- A cabinet's outgoing lines: one of them read or replaced, and packets put on several at once.
-- Those marked `unfoldable` stay shut unless unfolded, so that a caller's goal names them and does not spell them out.
use Rattle.std.specs.Prelude.{ℕ, zero, suc, Bool, true, false, not, List, [], ◌∷◌, get_or, set, replicate}
use Rattle.marks.specs.Marks.{Marks, marked}
use Rattle.packet.specs.declared.Packet.{Packet}
use Rattle.packet.specs.declared.Packet.TheVariants.{Checkp}
use Rattle.packet.specs.declared.Check.{Check}
use Rattle.line.specs.declared.Cell.{Cell}
use Rattle.line.specs.declared.Line.{Line}
use Rattle.packet.specs.Packet.{start_check, is_empty}
use Rattle.line.specs.Line.{empty_cell, empty_line, oldest, put}
use Rattle.outgoing.specs.declared.Outgoing.{Outgoing}

unfoldable pub empty_lines : Outgoing
empty_lines = record { lines = replicate 8 empty_line }

unfoldable pub line_to : Outgoing → ℕ → Line
line_to o j = get_or o.lines j empty_line

unfoldable pub with_line_to : Outgoing → ℕ → Line → Outgoing
with_line_to o j l = record { lines = set o.lines j l }

-- the lines that hold a packet
abbrev pub is_laden : Outgoing → ℕ → Bool
is_laden o j = not (is_empty (oldest (line_to o j)))

unfoldable pub laden : Outgoing → Marks
laden o = is_laden o 0 ∷ is_laden o 1 ∷ is_laden o 2 ∷ is_laden o 3 ∷ is_laden o 4 ∷ is_laden o 5 ∷ is_laden o 6 ∷ is_laden o 7 ∷ []

-- a packet on the line to j, if it is asked for
abbrev pub put_if : Bool → Outgoing → ℕ → Packet → Outgoing
put_if true o j p = with_line_to o j (put (line_to o j) p)
put_if false o j p = o

-- on each marked line to a cabinet below n its packet of the row
abbrev pub put_row_to : ℕ → Marks → List Cell → Outgoing → Outgoing
put_row_to zero m ps o = o
put_row_to (suc n) m ps o = put_if (marked m n) (put_row_to n m ps o) n (get_or ps n empty_cell).packet

-- one packet on all marked lines
unfoldable pub put_all : Marks → Packet → Outgoing → Outgoing
put_all m p o = put_row_to 8 m (replicate 8 (record { packet = p })) o

-- on each marked line a checkp with that line's register
abbrev pub checkp_cell : List Check → ℕ → Cell
checkp_cell rs j = record { packet = Checkp (get_or rs j start_check) }

abbrev pub checkps : List Check → List Cell
checkps rs =
    checkp_cell rs 0 ∷ checkp_cell rs 1 ∷ checkp_cell rs 2 ∷ checkp_cell rs 3 ∷ checkp_cell rs 4 ∷ checkp_cell rs 5 ∷ checkp_cell rs 6
    ∷ checkp_cell rs 7 ∷ []

unfoldable pub put_checkps : Marks → List Check → Outgoing → Outgoing
put_checkps m rs o = put_row_to 8 m (checkps rs) o
