-- `resume_taken`, by the state.
use Rattle.std.proofs.Common.{◌≡◌, rules}
use Rattle.state.specs.State.{is_in}
use Rattle.state.specs.declared.State.TheVariants.{Checkpointed}
use Rattle.signals.specs.Signals.{resume_taken}
use Rattle.signals.proofs.resume_taken.Goals as goal

pub returns-then-eq : goal.returns-then-eq
unfolding resume_taken
returns-then-eq c =
    let e : c.eq.result ≡ is_in c.args.s.cabinet.phase.state Checkpointed = search rules in
    rw (c.adopt.ensures, ← e, c.if-eq.true)

pub returns-then-resumes_from : goal.returns-then-resumes_from
unfolding resume_taken
returns-then-resumes_from c =
    let e : c.eq.result ≡ is_in c.args.s.cabinet.phase.state Checkpointed = search rules in
    rw (c.end_recovery.ensures, ← e, c.if-eq.false, ← c.resumes_from.ensures, c.if-resumes_from.true)

pub returns-else-resumes_from : goal.returns-else-resumes_from
unfolding resume_taken
returns-else-resumes_from c =
    let e : c.eq.result ≡ is_in c.args.s.cabinet.phase.state Checkpointed = search rules in
    rw (← e, c.if-eq.false, ← c.resumes_from.ensures, c.if-resumes_from.false)
