-- `checkp_taken`, by whether the state is one in which checkps are compared.
use Rattle.std.proofs.Common.{◌≡◌, rules}
use Rattle.state.specs.declared.State.TheVariants.{Normal}
use Rattle.state.specs.State.{is_in}
use Rattle.linkcheck.specs.Linkcheck.{checkp_taken}
use Rattle.linkcheck.proofs.checkp_taken.Goals as goal

pub returns-then-compares : goal.returns-then-compares
unfolding checkp_taken
returns-then-compares c =
    let e : c.eq.result ≡ is_in c.args.s.cabinet.phase.state Normal = search rules in
    rw (c.take_checkp.ensures, c.join_if.ensures, e, ← c.compares.ensures, c.if-compares.true)

pub returns-else-compares : goal.returns-else-compares
unfolding checkp_taken
returns-else-compares c = rw (← c.compares.ensures, c.if-compares.false)
