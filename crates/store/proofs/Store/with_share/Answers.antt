-- `with_share` changes nothing past the eighth, as `set` does.
use borrow.Author.Rules.{rules}
use mathlib.Core.Path.{◌≡◌, refl}
use native.Mathlib.Omega.{arith}
use lib.ListN.{length}
use lib.Seq.{set_out}
use Rattle.store.specs.Share.{with_share}
use Rattle.store.proofs.Store.with_share.Goals as goal

pub returns-then-c-lt8 : goal.returns-then-c-lt8
unfolding with_share
returns-then-c-lt8 c = refl

pub returns-else-c-lt8 : goal.returns-else-c-lt8
unfolding with_share
returns-else-c-lt8 c = let a = c.args in
    let h : length a.self.firsts ≡ 8 = search rules in
    let k : length a.self.seconds ≡ 8 = search rules in
    rw (set_out a.self.firsts a.c a.x.first (omega arith), set_out a.self.seconds a.c a.x.second (omega arith))
