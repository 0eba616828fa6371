-- The goals of `word` that the check leaves.
use Rattle.std.proofs.Common.{add-one, take-suc, rules}
use Rattle.buffer.proofs.Texts.{and_then}
use Rattle.buffer.proofs.Writer.word.Goals as goal

pub loop-octet-preserved : goal.loop-octet-preserved
loop-octet-preserved c = let i = c.loop-octet.octet-index in
    let text = c.args.text.now in
    rw (add-one, take-suc text i 0 (search rules)) (and_then c.loop-octet.invariant c.put.ensures)
