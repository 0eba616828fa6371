-- The row is that of what its closure gives at each number. Within the row the default that is read past its end does not count.
use Rattle.std.proofs.Common.{rules, ◌≡◌, [], length, ◌<◌, arith}
use Rattle.marks.proofs.Lists.{get_d_in}
use Rattle.marks.proofs.Rows.{row_of_calls}
use Rattle.line.specs.Line.{empty_line}
use Rattle.outgoing.specs.Lines.{line_to, is_laden, laden}
use Rattle.outgoing.proofs.Outgoing.laden.Goals as goal

pub returns : goal.returns
unfolding laden line_to
returns c =
    let long : length c.args.self.lines ≡ 8 = search rules in
    row_of_calls _ (is_laden c.args.self) _
    (λ i y q l called. let m : i < length c.args.self.lines = omega arith in search (rules, get_d_in c.args.self.lines i (record { cells = [] }) empty_line m)) _ c.from_fn.ensures.items
