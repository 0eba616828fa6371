-- `checkp_faulty`, by whether the state is one in which checkps are compared.
use Rattle.std.proofs.Common.{rules}
use Rattle.linkcheck.specs.Linkcheck.{checkp_faulty}
use Rattle.linkcheck.proofs.checkp_faulty.Goals as goal

pub returns-then-compares : goal.returns-then-compares
unfolding checkp_faulty
returns-then-compares c = rw (← c.compares.ensures, c.if-compares.true, ← c.check_at.ensures) (search rules)

pub returns-else-compares : goal.returns-else-compares
unfolding checkp_faulty
returns-else-compares c = rw (← c.compares.ensures, c.if-compares.false)
