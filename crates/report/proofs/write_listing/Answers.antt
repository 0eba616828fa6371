-- `write_listing`: the line of a refused load, or the lines of the answers and of the cabinets.
use Rattle.std.proofs.Common.{rules, refl}
use Rattle.loading.proofs.Refused.{no_answer}
use Rattle.report.proofs.Whole.{accepted, refused, ends_well}
use Rattle.report.proofs.write_listing.Goals as goal

pub returns-in-Ok : goal.returns-in-Ok
returns-in-Ok c = let a = c.args in
    let text = accepted a.file.now a.list.now c.min-used.ensures (rw c.in-Ok.is at c.replay-replayed.ensures.value) refl _ (search rules) c.replay-replayed.ensures.answers_after
    c.step_lines.ensures.written c.cab_lines.ensures.written.written c.cab_lines.ensures.n_bound in record {
      value = text.0;
      out_after = search (rules, text.1.0);
      upper_bound = text.1.1;
      ends_well = ends_well a.file.now a.list.now c.min-used.ensures c.replay-replayed.ensures.ends_well;
    }

pub returns-in-Err : goal.returns-in-Err
returns-in-Err c = let a = c.args in
    let text = refused a.file.now a.list.now c.min-used.ensures (rw c.in-Err.is at c.replay-replayed.ensures.value) (no_answer _) (rw c.from.ensures at c.load_line.ensures.written) in record {
      value = text.0;
      out_after = search (rules, text.1.0);
      upper_bound = text.1.1;
      ends_well = ends_well a.file.now a.list.now c.min-used.ensures c.replay-replayed.ensures.ends_well;
    }
