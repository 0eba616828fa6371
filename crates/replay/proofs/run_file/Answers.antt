-- `run_file`: load's refusal, or the run; and demand 3 of every moment of it.
use Rattle.std.proofs.Common.{rules, refl, ap, ◌∙◌, ◌≡◌}
use Rattle.std.specs.Prelude.{Err}
use Rattle.protocol.specs.declared.Site.{Site}
use Rattle.loading.specs.Loading.{outcome_of}
use Rattle.loading.proofs.Refused.{no_answer}
use Rattle.steps.specs.Steps.{operations_of}
use Rattle.replay.proofs.Moments.{accepted, answered, refused, unanswered, ends_well}
use Rattle.replay.proofs.Operations.{all_in}
use Rattle.replay.proofs.run_file.Goals as goal

pub returns : goal.returns
returns c =
    let a = c.args in
    let xs = operations_of a.plan a.list.now in
    let o = c.in_ok-group.ensures in
    record {
      value = accepted a.file.now xs o refl (ap (λ (s : Site). s.group) (rw c.none-points.ensures at c.run-last.ensures.value));
      answers_after = answered a.file.now xs o a.answers.now refl (rw c.none-points.ensures at c.run-last.ensures.answers_after);
      ends_well = ends_well a.file.now c.type_inv.file xs (all_in a.plan a.list.now c.type_inv.list);
    }

pub returns-in_err-group : goal.returns-in_err-group
returns-in_err-group c =
    let a = c.args in
    let xs = operations_of a.plan a.list.now in
    let r = c.in_err-group.field-0.0 in
    let o = c.in_err-group.ensures in
    let is : c.from_residual.result ≡ Err r = search rules in
    record {
      value = ap outcome_of is ∙ refused a.file.now xs o (no_answer r);
      answers_after = unanswered a.file.now xs o a.answers.now (no_answer r);
      ends_well = ends_well a.file.now c.type_inv.file xs (all_in a.plan a.list.now c.type_inv.list);
    }
