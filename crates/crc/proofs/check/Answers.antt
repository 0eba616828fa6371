-- `crc::check` meets its contract: it is `over` from the start value.
-- Assumes nothing.
use Rattle.crc.proofs.check.Goals as goal

pub returns : goal.returns
returns c = rw c.over.ensures
