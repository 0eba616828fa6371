-- `grow` is the spread with enough fuel.
use borrow.Author.Rules.{rules}
use borrow.Author.Tests.{lt-ltb, le-ltb}
use Prim.Native.Nat.{ℕ, zero, suc, ◌<◌, ◌≤◌}
use mathlib.Core.Path.{◌≡◌, refl}
use mathlib.Core.Bool.{true}
use lib.ListN.{length, set}
use native.Mathlib.Omega.{arith}
use Rattle.marks.specs.Marks.{Marks}
use Rattle.marks.specs.Reach.{Rows, next, spread, unseen}
use Rattle.marks.specs.ReachLaws.{next_fewer}
use Rattle.marks.proofs.+grow.Goals as goal

module _ (rows : Rows) (working seen : Marks) (j : ℕ) (e : j ≡ next rows working seen) where
  -- one turn more takes one of the fuel
  more : (r : Marks) → j < 8 → unseen seen ≡ suc (unseen (set seen j true))
      → ((n : ℕ) → unseen (set seen j true) ≤ n → r ≡ spread n rows working (set seen j true)) → (n : ℕ) → unseen seen ≤ n → r ≡ spread n rows working seen
  more r h u ih zero le = absurd (omega arith)
  more r h u ih (suc n) le = rw (← e, lt-ltb j 8 h) (ih n (omega arith))

  -- where none is fresh, fuel changes nothing
  last : 8 ≤ j → (n : ℕ) → seen ≡ spread n rows working seen
  last h zero = refl
  last h (suc n) = rw (← e, le-ltb j 8 h)

pub grow-requires : goal.grow-requires
grow-requires t c =
    let a = c.args in
    let h : length a.seen ≡ 8 = search rules in
    (rw c.set_mark.ensures (omega (arith, next_fewer a.rows a.working a.seen _ c.next-found.ensures c.if-found-lt8.true h)), tt)

pub returns-then-found-lt8 : goal.returns-then-found-lt8
returns-then-found-lt8 t c =
    let a = c.args in
    let h : length a.seen ≡ 8 = search rules in
    let l = c.if-found-lt8.true in
    let e = c.next-found.ensures in
    more a.rows a.working a.seen _ e _ l (next_fewer a.rows a.working a.seen _ e l h) (rw c.set_mark.ensures at c.grow.ensures)

pub returns-else-found-lt8 : goal.returns-else-found-lt8
returns-else-found-lt8 t c = λ n le. last _ _ _ _ c.next-found.ensures c.if-found-lt8.false n
