-- The row is that of what its closure gives at each number. Within the row the default that is read past its end does not count.
use Rattle.std.proofs.Common.{rules, ◌≡◌, length, ◌<◌, arith}
use Rattle.marks.proofs.Lists.{get_d_in}
use Rattle.marks.proofs.Rows.{row_of_calls}
use Rattle.packet.specs.Packet.{start_check}
use Rattle.outgoing.specs.Lines.{checkp_cell}
use Rattle.outgoing.proofs.checkps.Goals as goal

pub returns : goal.returns
returns c =
    let long : length c.args.registers ≡ 8 = search rules in
    row_of_calls _ (checkp_cell c.args.registers) _
    (λ i y q l called. let m : i < length c.args.registers = omega arith in search (rules, get_d_in c.args.registers i (record { crc = 0; count = 0 }) start_check m)) _ c.from_fn.ensures.items
