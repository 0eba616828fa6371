-- The row of lines is what the definition makes, line by line.
use Rattle.std.proofs.Common.{rules, ℕ, zero, suc, ◌≡◌, Bool, true, false, cond, List, [], get_or, set, length, refl, ap, ◌∙◌, arith, ◌<◌}
use Rattle.std.proofs.Math.Seq.{set-get_or}
use Rattle.marks.specs.Marks.{Marks, marked}
use Rattle.marks.proofs.Lists.{get_d_in}
use Rattle.marks.proofs.Rows.{row_of_calls, gone_through, row_gone_through}
use Rattle.packet.specs.declared.Packet.{Packet}
use Rattle.line.specs.declared.Cell.{Cell}
use Rattle.line.specs.declared.Line.{Line}
use Rattle.line.specs.Line.{empty_cell, empty_line, put}
use Rattle.outgoing.specs.declared.Outgoing.{Outgoing}
use Rattle.outgoing.specs.Lines.{line_to, with_line_to, put_if, put_row_to}
use Rattle.outgoing.proofs.Outgoing.put_row.Goals as goal

module _ (m : Marks) (ps : List Cell) where
  -- a line with its packet of the row, if it is marked
  abbrev left : ℕ → Line → Line
  left i l = cond (marked m i) (put l (get_or ps i empty_cell).packet) l

  one_line : (b : Bool) (ls : List Line) (i : ℕ) (p : Packet)
      → record { lines = set ls i (cond b (put (get_or ls i empty_line) p) (get_or ls i empty_line)) } ≡ put_if b (record { lines = ls }) i p
  unfolding line_to with_line_to
  one_line true ls i p = refl
  one_line false ls i p = ap (λ (l : List Line). record { lines = l }) (set-get_or ls i empty_line)

  all_lines : (ls : List Line) (n : ℕ) → record { lines = gone_through left empty_line n ls } ≡ put_row_to n m ps (record { lines = ls })
  all_lines ls zero = refl
  all_lines ls (suc n) =
      one_line (marked m n) (gone_through left empty_line n ls) n (get_or ps n empty_cell).packet
      ∙ ap (λ (o : Outgoing). put_if (marked m n) o n (get_or ps n empty_cell).packet) (all_lines ls n)

pub returns : goal.returns
returns c =
    let a = c.args in
    let ls = a.self.lines in
    let long : length ls ≡ 8 = search rules in
    ap (λ (l : List Line). record { lines = l })
    (row_of_calls _ (λ i. left a.marks a.row i (get_or ls i empty_line)) _
    (λ i y q l called. let m : i < length ls = omega arith in search (rules, get_d_in ls i (record { cells = [] }) empty_line m)) _ c.from_fn.ensures.items
    ∙ row_gone_through (left a.marks a.row) empty_line ls long)
    ∙ all_lines a.marks a.row ls 8
