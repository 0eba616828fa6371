-- `group::Group::with_cabinet` meets its contract: past the last place nothing is set.
use Rattle.std.proofs.Common.{◌≡◌, length, rules, arith}
use lib.Seq.{set_out}
use Rattle.group.specs.Group.{with_cabinet}
use Rattle.group.proofs.Group.with_cabinet.Goals as goal

pub returns-then-i-lt8 : goal.returns-then-i-lt8
unfolding with_cabinet
returns-then-i-lt8 c = search rules

pub returns-else-i-lt8 : goal.returns-else-i-lt8
unfolding with_cabinet
returns-else-i-lt8 c =
    let h : length c.args.self.cabinets ≡ 8 = search rules in
    rw (set_out c.args.self.cabinets c.args.i c.args.c (omega arith))
