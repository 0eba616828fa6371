-- `home`, by whether the home that the file names is present.
use Rattle.store.specs.Store.{home_in}
use Rattle.store.proofs.Store.home.Goals as goal

pub returns-then-is_present : goal.returns-then-is_present
unfolding home_in
returns-then-is_present c = rw (← c.file_home-h.ensures, ← c.is_present.ensures, c.if-is_present.true)

pub returns-else-is_present : goal.returns-else-is_present
unfolding home_in
returns-else-is_present c = rw (c.partner.ensures, ← c.file_home-h.ensures, ← c.is_present.ensures, c.if-is_present.false)
