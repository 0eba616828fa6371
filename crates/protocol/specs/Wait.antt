-- Document 01's kind 9, wait over, with card 5's words. Card 6 withdrew it: no record is one, and no code does it. The definition stays for the
-- card's sentence, that a recovery ends in the same save under the wait and with reports in its place (`claims.NoClock`).
use Rattle.std.specs.Prelude.{ℕ, Bool, false, ◌&&◌, None, Some}
use Rattle.marks.specs.Marks.{Marks, marked, covers}
use Rattle.packet.specs.declared.Place.{Place}
use Rattle.packet.specs.declared.Place.TheVariants.{Failed as AtFailed, Tripped as AtTripped, Link as AtLink}
use Rattle.state.specs.declared.State.TheVariants.{Error}
use Rattle.cabinet.specs.Alarm.{Alarm}
use Rattle.cabinet.specs.declared.Cabinet.{Cabinet}
use Rattle.group.specs.declared.Group.{Group}
use Rattle.state.specs.State.{is_in, bit_of}
use Rattle.group.specs.Group.{cabinet, state_of, those, working}
use Rattle.protocol.specs.Moves.{recover_with}
use Rattle.protocol.specs.Kinds.{need, is_unsure}

-- the cabinet's own link mark to the place stands: "Only neighbours may take wait over"
abbrev pub joined_to : Place → Cabinet → Bool
joined_to (AtFailed k) c = marked c.table.links k
joined_to (AtTripped k) c = marked c.table.links k
joined_to (AtLink j k) c = false

-- the fault is the coordinator as it was before, as noted on entering error, and a link in use joined the two
abbrev pub lost_coordinator : Alarm → Cabinet → Bool
lost_coordinator None c = false
lost_coordinator (Some p) c = c.noted.former && joined_to p c

-- those in error with unknown version
unfoldable pub unsure_ones : Group → Marks
unsure_ones g = those is_unsure g

-- "14 not in error, or the fault is not a's coordinator as it was before, or no link in use joined them; 19 some working cabinet is not in
-- error with unknown version"
abbrev pub wait_over_refusal : Group → ℕ → ℕ
wait_over_refusal g a =
    need (is_in (state_of g a) Error && lost_coordinator (cabinet g a).phase.alarm (cabinet g a)) 14
    (need (covers (unsure_ones g) (working g)) 19 0)

-- "Taken, version becomes old and a goes on as if recover had brought it."
unfoldable pub waited_over : Group → ℕ → Group
waited_over g a = recover_with g a (bit_of (cabinet g a).phase.version)
