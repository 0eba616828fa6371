-- `recover_taken`, by whether the cabinet waits in error and has had the neighbour's fault.
use Rattle.std.proofs.Common.{◌≡◌, rules}
use Rattle.state.specs.State.{is_in}
use Rattle.state.specs.declared.State.TheVariants.{Error}
use Rattle.signals.specs.Signals.{recover_taken}
use Rattle.signals.proofs.recover_taken.Goals.{else-eq-via-then-eq+else-marked, else-eq-via-else-eq}
use Rattle.signals.proofs.recover_taken.Goals as goal

pub returns-then-marked : goal.returns-then-marked
unfolding recover_taken
returns-then-marked c =
    let e : c.eq.result ≡ is_in c.args.s.cabinet.phase.state Error = search rules in
    rw (c.recover_with.ensures, ← e, c.if-eq.true, ← c.marked.ensures, c.if-marked.true)

pub returns-else-eq : goal.returns-else-eq
unfolding recover_taken
returns-else-eq c =
    let e : c.eq.result ≡ is_in c.args.s.cabinet.phase.state Error = search rules in
    elim c.else-eq.branch [
      | else-eq-via-then-eq+else-marked w ↦ rw (← e, w.if-eq.true, ← w.marked.ensures, w.if-marked.false)
      | else-eq-via-else-eq w ↦ rw (← e, w.if-eq.false)
    ]
