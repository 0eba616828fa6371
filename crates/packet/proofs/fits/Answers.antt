-- `packet::fits` meets its contract, by whether the packet carries a check.
use Rattle.packet.specs.Packet.{fits}
use Rattle.packet.proofs.fits.Goals as goal

pub returns-in-None : goal.returns-in-None
unfolding fits
returns-in-None c = rw c.in-None.is

pub returns-in-Some : goal.returns-in-Some
unfolding fits
returns-in-Some c = rw (c.own_check.ensures, c.in-Some.is)
