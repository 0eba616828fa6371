-- `write_chronicle`: the answer of a refused load alone, or what it loaded and a row for each record.
use Rattle.std.proofs.Common.{rules}
use mathlib.Core.Path.{sym, refl}
use native.Mathlib.Omega.{arith}
use lib.Seq.{length-take-le}
use Rattle.loading.proofs.Refused.{no_answer}
use Rattle.report.proofs.Whole.{within}
use Rattle.chronicle.proofs.Turns.{sized}
use Rattle.chronicle.proofs.Whole.{no_more, well, refused, accepted}
use Rattle.chronicle.proofs.write_chronicle.Goals as goal

pub overflow_mul-record_size : goal.overflow_mul-record_size
overflow_mul-record_size c = omega (arith, (sized c.args.plan c.record_size.ensures).1)

pub returns-in-Err : goal.returns-in-Err
returns-in-Err c = let a = c.args in
    let text = refused a.plan a.list.now a.file.now (rw c.in-Err.is at c.load.ensures) (no_answer _) (rw c.from.ensures at c.put.ensures) in record {
      value = text.0;
      out_after = text.1.0;
      upper_bound = text.1.1;
      ends_well = well a.plan a.list.now a.file.now c.type_inv.file c.type_inv.list;
    }

pub slice_bounds-put_rows-end : goal.slice_bounds-put_rows-end
slice_bounds-put_rows-end c = sym (length-take-le _ _ (within _ c.min-used.ensures))

pub put_rows-requires : goal.put_rows-requires
put_rows-requires c = let a = c.args in
    no_more a.plan a.list.now c.record_size.ensures c.min-used.ensures

pub returns : goal.returns
returns c = let a = c.args in
    let f = c.type_inv.file in
    let h = c.type_inv.list in
    let text = accepted a.plan a.list.now a.file.now (rw c.in-Ok.is at c.load.ensures) refl f h c.record_size.ensures c.min-used.ensures c.none-points.ensures
    c.version_number.ensures c.word.ensures.written c.put_row.ensures.written c.put_rows.ensures.written in record {
      value = text.0;
      out_after = search (rules, text.1.0);
      upper_bound = text.1.1;
      ends_well = well a.plan a.list.now a.file.now f h;
    }
