-- `copy_at`, by whether the store is the home that the file names.
use borrow.Author.Tests.{eq-eqb, ne_eqb}
use Rattle.store.specs.Store.{copy_at}
use Rattle.store.proofs.Store.copy_at.Goals as goal

pub returns-then-h-file_home : goal.returns-then-h-file_home
unfolding copy_at
returns-then-h-file_home c = rw (c.first_of.ensures, ← c.file_home.ensures, eq-eqb _ _ c.if-h-file_home.true)

pub returns-else-h-file_home : goal.returns-else-h-file_home
unfolding copy_at
returns-else-h-file_home c = rw (c.second_of.ensures, ← c.file_home.ensures, ne_eqb _ _ c.if-h-file_home.false)
