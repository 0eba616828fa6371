-- `packet::over_three` meets its contract: the outlet's octet and the two of the amount, one after the other.
use Rattle.std.proofs.Common.{◌≡◌, ◌/◌, ◌%◌, arith}
use Rattle.crc.specs.Crc.{crc_from}
use Rattle.packet.proofs.over_three.Goals as goal

pub returns : goal.returns
unfolding crc_from
returns c =
    let high : c.args.amount / 256 % 256 ≡ c.args.amount / 256 = omega arith in
    rw (c.octet-2.ensures, c.octet.ensures, c.octet-first.ensures, c.from.ensures, c.to_be_bytes.ensures, high)
