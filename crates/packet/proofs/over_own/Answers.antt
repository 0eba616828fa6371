-- `packet::over_own` meets its contract: none, or the two octets of the check.
use Rattle.std.proofs.Common.{◌≡◌, ◌/◌, ◌%◌, arith}
use Rattle.crc.specs.Crc.{crc_from}
use Rattle.packet.proofs.over_own.Goals as goal

pub returns-in-None : goal.returns-in-None
unfolding crc_from
returns-in-None c = rw c.in-None.is

pub returns-in-Some : goal.returns-in-Some
unfolding crc_from
returns-in-Some c =
    let high : c.in-Some.c / 256 % 256 ≡ c.in-Some.c / 256 = omega arith in
    rw (c.octet-in-Some.ensures, c.octet.ensures, c.to_be_bytes.ensures, high, c.in-Some.is)
