-- Storing back what was read changes nothing, whatever the number.
use Prim.Native.Nat.{ℕ}
use mathlib.Core.Path.{◌≡◌, ap, ◌∙◌}
use mathlib.Core.List.{List, []}
use lib.Seq.{set-get_or}
use Rattle.line.specs.declared.Line.{Line}
use Rattle.line.specs.Line.{empty_line}
use Rattle.outgoing.specs.declared.Outgoing.{Outgoing}
use Rattle.outgoing.specs.Lines.{empty_lines, line_to, with_line_to}
use Rattle.cabinet.specs.declared.Cabinet.{Cabinet}
use Rattle.cabinet.specs.Cabinet.{absent}
use Rattle.group.specs.declared.Group.{Group}
use Rattle.group.specs.Group.{with_cabinets, with_lines, cabinet, with_cabinet, outgoing, with_outgoing, line, with_line}

pub cabinet_same : (g : Group) (i : ℕ) → with_cabinet g i (cabinet g i) ≡ g
unfolding cabinet with_cabinet
cabinet_same g i = ap (with_cabinets g) (set-get_or g.cabinets i absent)

abbrev of_lines : List Line → Outgoing
of_lines ls = record { lines = ls }

pub line_to_same : (o : Outgoing) (j : ℕ) → with_line_to o j (line_to o j) ≡ o
unfolding line_to with_line_to
line_to_same o j = ap of_lines (set-get_or o.lines j empty_line)

pub outgoing_same : (g : Group) (i : ℕ) → with_outgoing g i (outgoing g i) ≡ g
unfolding outgoing with_outgoing
outgoing_same g i = ap (with_lines g) (set-get_or g.outgoing i empty_lines)

pub line_same : (g : Group) (a b : ℕ) → with_line g a b (line g a b) ≡ g
unfolding line with_line
line_same g a b = ap (with_outgoing g a) (line_to_same (outgoing g a) b) ∙ outgoing_same g a

-- a line is as it was where a cabinet is stored
pub line_left : (g : Group) (i a b : ℕ) (c : Cabinet) → with_line (with_cabinet g i c) a b (line g a b) ≡ with_cabinet g i c
unfolding line outgoing with_cabinet
line_left g i a b c = line_same (with_cabinet g i c) a b
