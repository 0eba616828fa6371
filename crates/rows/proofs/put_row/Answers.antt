-- `put_row`: its head, the cabinets and the lines, in order.
use Rattle.buffer.proofs.Texts.{and_then}
use Rattle.rows.specs.Rows.{row_octets, head_octets}
use Rattle.rows.proofs.put_row.Goals as goal

pub returns : goal.returns
unfolding row_octets head_octets
returns c =
    let fate = rw c.fate_in.ensures at c.put-2.ensures in
    let told = rw (c.told_octets.ensures, c.which_word.ensures) at c.word.ensures in
    let ended = rw c.ended_in.ensures at c.put-3.ensures in
    let number = rw c.to_be_bytes.ensures at c.word-2.ensures in
    and_then (and_then (and_then (and_then (and_then (and_then c.put.ensures fate) told) ended) number) c.put_cabinets.ensures) c.put_all_lines.ensures
