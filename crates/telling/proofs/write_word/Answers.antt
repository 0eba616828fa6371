-- `write_word`: the line of a refused load, or that of what the group tells.
use Rattle.std.proofs.Common.{rules, refl}
use Rattle.loading.proofs.Refused.{no_answer}
use Rattle.report.proofs.Whole.{ends_well}
use Rattle.telling.proofs.Whole.{accepted, refused}
use Rattle.telling.proofs.write_word.Goals as goal

pub returns-in-Ok : goal.returns-in-Ok
returns-in-Ok c = let a = c.args in
    let text = accepted a.file.now a.list.now c.min-used.ensures (rw c.in-Ok.is at c.replay-replayed.ensures.value) refl c.told.ensures c.word_line.ensures.written in record {
      value = text.0;
      out_after = search (rules, text.1.0);
      upper_bound = text.1.1;
      ends_well = ends_well a.file.now a.list.now c.min-used.ensures c.replay-replayed.ensures.ends_well;
    }

pub returns-in-Err : goal.returns-in-Err
returns-in-Err c = let a = c.args in
    let text = refused a.file.now a.list.now c.min-used.ensures (rw c.in-Err.is at c.replay-replayed.ensures.value) (no_answer _) (rw c.from.ensures at c.load_line.ensures.written) in record {
      value = text.0;
      out_after = search (rules, text.1.0);
      upper_bound = text.1.1;
      ends_well = ends_well a.file.now a.list.now c.min-used.ensures c.replay-replayed.ensures.ends_well;
    }
