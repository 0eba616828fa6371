-- `turn` is a run of one record.
use Rattle.chronicle.proofs.Turns.{one_turn}
use Rattle.chronicle.proofs.turn.Goals as goal

pub returns : goal.returns
returns c = let a = c.args in
    one_turn a.plan a.site a.octets.now _ c.run-site.ensures.value c.run-site.ensures.answers_after
