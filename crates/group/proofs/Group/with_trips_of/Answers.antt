-- `group::Group::with_trips_of` meets its contract: past the last place nothing is set.
use Rattle.std.proofs.Common.{◌≡◌, length, rules, arith}
use lib.Seq.{set_out}
use Rattle.group.specs.Group.{with_trips_of}
use Rattle.group.proofs.Group.with_trips_of.Goals as goal

pub returns-then-i-lt8 : goal.returns-then-i-lt8
unfolding with_trips_of
returns-then-i-lt8 c = search rules

pub returns-else-i-lt8 : goal.returns-else-i-lt8
unfolding with_trips_of
returns-else-i-lt8 c =
    let h : length c.args.self.trips ≡ 8 = search rules in
    rw (set_out c.args.self.trips c.args.i c.args.count (omega arith))
