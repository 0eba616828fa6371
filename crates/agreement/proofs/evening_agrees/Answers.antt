-- `agreement::evening_agrees` meets its contract: the library stores the whole text at the start of a buffer that has room for it.
use borrow.Author.Rules.{rules}
use Rattle.agreement.proofs.Stored.{decided}
use Rattle.agreement.proofs.evening_agrees.Goals as goal

pub returns : goal.returns
returns c =
    let wrote = c.write_evening-length.ensures in
    decided _ _ _ _ _ _ wrote.value wrote.out_after (search rules) c.holds.ensures
