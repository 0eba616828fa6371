-- `share` follows its definition, call by call.
use Rattle.store.specs.Share.{share}
use Rattle.store.proofs.Store.share.Goals as goal

pub returns : goal.returns
unfolding share
returns c = rw (c.is_present-2.ensures, c.is_present.ensures, c.second_of.ensures, c.first_of.ensures, c.partner-partner.ensures, c.file_home-home.ensures)
