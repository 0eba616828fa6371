-- `adopt` follows its definition, call by call.
use Rattle.signals.specs.Signals.{adopt}
use Rattle.signals.proofs.adopt.Goals as goal

pub returns : goal.returns
unfolding adopt
returns c = rw (c.with_lines.ensures, c.put_all.ensures, c.with_cabinet-resumed.ensures, c.resuming.ensures, c.adopted.ensures, c.set_mark-others.ensures, c.in_use.ensures)
