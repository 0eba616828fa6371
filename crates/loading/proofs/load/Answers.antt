use Rattle.std.proofs.Common.{rules}
use Rattle.loading.proofs.Refused.{refused, loaded}
use Rattle.loading.proofs.load.Goals as goal

pub returns-in_err-check : goal.returns-in_err-check
returns-in_err-check c = refused c.args.file.now c.from_residual.result c.in_err-check.field-0.0 (search rules) c.in_err-check.ensures

pub returns : goal.returns
returns c = loaded c.args.file.now c.in_ok-check.ensures c.group_of.ensures
