-- Document 01, "The group": a line is first in, first out, and holds at most 12 packets.
-- Its cells are a list of 12; the packets stand first, oldest first, and the empty cells after them.
use Rattle.std.specs.Prelude.{ℕ, zero, suc, ◌+◌, cond, List, [], ◌∷◌, ◌++◌, get_or, set, replicate}
use Rattle.packet.specs.declared.Packet.{Packet}
use Rattle.packet.specs.declared.Packet.TheVariants.{Empty}
use Rattle.line.specs.declared.Cell.{Cell}
use Rattle.line.specs.declared.Line.{Line}
use Rattle.outlet.specs.declared.Party.{Party}
use Rattle.packet.specs.Packet.{is_empty, is_of}

abbrev pub empty_cell : Cell
empty_cell = record { packet = Empty }

abbrev pub empty_line : Line
empty_line = record { cells = replicate 12 empty_cell }

-- the packet at a place, 0 the oldest; Empty where there is none
abbrev pub packet_at : Line → ℕ → Packet
packet_at l k = (get_or l.cells k empty_cell).packet

abbrev pub oldest : Line → Packet
oldest l = packet_at l 0

-- the line once its oldest packet is taken off
abbrev pub rest_cells : List Cell → List Cell
rest_cells [] = []
rest_cells (c ∷ cs) = cs ++ (empty_cell ∷ [])

abbrev pub rest : Line → Line
rest l = record { cells = rest_cells l.cells }

-- a packet goes into the first empty cell; on a full line it would be lost
abbrev pub put_cells : List Cell → Packet → List Cell
put_cells [] p = []
put_cells (c ∷ cs) p = cond (is_empty c.packet) (record { packet = p } ∷ cs) (c ∷ put_cells cs p)

-- where that cell is: the number of full ones before it
abbrev pub first_empty : List Cell → ℕ
first_empty [] = 0
first_empty (c ∷ cs) = cond (is_empty c.packet) 0 (suc (first_empty cs))

abbrev pub put : Line → Packet → Line
put l p = record { cells = put_cells l.cells p }

-- how many normal packets of a party stand in the line
abbrev pub normals_in : Party → List Cell → ℕ
normals_in y [] = 0
normals_in y (c ∷ cs) = cond (is_of y c.packet) 1 0 + normals_in y cs

abbrev pub normals : Party → Line → ℕ
normals y l = normals_in y l.cells

-- "removes the normal packet at place p from a line": those behind it move up; nothing changes past the line's end
abbrev pub without_cells : List Cell → ℕ → List Cell
without_cells [] k = []
without_cells (c ∷ cs) zero = cs ++ (empty_cell ∷ [])
without_cells (c ∷ cs) (suc k) = c ∷ without_cells cs k

abbrev pub without : Line → ℕ → Line
without l k = record { cells = without_cells l.cells k }

-- another packet at a place; nothing changes past the line's end
abbrev pub replaced : Line → ℕ → Packet → Line
replaced l k p = record { cells = set l.cells k (record { packet = p }) }
