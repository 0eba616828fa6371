-- `group::Group::with_outgoing` meets its contract: past the last place nothing is set.
use Rattle.std.proofs.Common.{◌≡◌, length, rules, arith}
use lib.Seq.{set_out}
use Rattle.group.specs.Group.{with_outgoing}
use Rattle.group.proofs.Group.with_outgoing.Goals as goal

pub returns-then-i-lt8 : goal.returns-then-i-lt8
unfolding with_outgoing
returns-then-i-lt8 c = search rules

pub returns-else-i-lt8 : goal.returns-else-i-lt8
unfolding with_outgoing
returns-else-i-lt8 c =
    let h : length c.args.self.outgoing ≡ 8 = search rules in
    rw (set_out c.args.self.outgoing c.args.i c.args.o (omega arith))
