-- Fetch, restored and unsure, on the cabinets, lines and slots that they touch. That each, stored back, is the step of the group is proved in
-- proofs/Stored.antt.
use Rattle.std.specs.Prelude.{ℕ, Bool, false, cond, ◌&&◌, ◌||◌, eqb}
use Rattle.marks.specs.Marks.{covers}
use Rattle.state.specs.declared.State.TheVariants.{Recovering, Recovered}
use Rattle.state.specs.State.{is_in, in_restoring, bit_of}
use Rattle.settled.specs.declared.Reason.TheVariants.{Decided}
use Rattle.settled.specs.Settled.{Settled}
use Rattle.settled.specs.Settled.{enters}
use Rattle.image.specs.Image.{with_piece}
use Rattle.store.specs.declared.Share.{Share}
use Rattle.store.specs.Share.{serves_in, slot_in_share}
use Rattle.cabinet.specs.declared.Cabinet.{Cabinet}
use Rattle.cabinet.specs.Cabinet.{fetched}
use Rattle.group.specs.declared.Group.{Group}
use Rattle.seat.specs.declared.Seat.{Seat}
use Rattle.protocol.specs.Kinds.{need, may_report, come_back_if_away, end_if_all, is_unsure, takes_unsure}
use Rattle.moves.specs.Seats.{recover_with}
use Rattle.saving.specs.declared.KeptAnswer.{KeptAnswer}
use Rattle.saving.specs.Saving.{leaving}

-- ---- 7 fetch

abbrev pub fetch_refusal : Cabinet → Cabinet → ℕ
fetch_refusal c home = need (is_in c.phase.state Recovering) 14 (need (in_restoring home.phase.state) 19 0)

-- "from the slot of the home's version", as the home has it
unfoldable pub fetch_piece : Cabinet → Cabinet → Share → Cabinet
fetch_piece c home x =
    fetched c (with_piece c.noted.pieces (slot_in_share x (serves_in x) (bit_of home.phase.version)) c.image)

unfoldable pub fetch : Cabinet → Cabinet → Share → KeptAnswer
fetch c home x =
    cond (eqb (fetch_refusal c home) 0) (leaving 0 (fetch_piece c home x) x false) (leaving (fetch_refusal c home) c x false)

-- ---- 8 restored

abbrev pub restored_refusal : Cabinet → Cabinet → ℕ → ℕ
restored_refusal c k a = need (is_in c.phase.state Recovered) 14 (need (may_report c k a) 19 0)

-- "When the coordinator, in recovered, has restored reports from all in its table": the end of the recovery
abbrev pub all_restored : Cabinet → Bool
all_restored c = is_in c.phase.state Recovered && covers c.noted.restored c.table.cabinets

-- a report that does more than be noted by the coordinator, which is c then: a store that was away comes back, or the recovery ends
unfoldable pub closes : Bool → Cabinet → Bool
closes away c = away || all_restored c

unfoldable pub closing : Group → ℕ → ℕ → Group
closing g a k = end_if_all (come_back_if_away g a) k

-- ---- 14 unsure

-- "14 not in error with unknown version, or the fault is not the former coordinator; 19 reported already or the coordinator not in error"
abbrev pub unsure_refusal : Cabinet → Cabinet → ℕ → ℕ
unsure_refusal c k a = need (is_unsure c && c.noted.former) 14 (need (takes_unsure k a) 19 0)

-- "When all in that table have reported, itself included, it sets its version to old and goes on as 01 says."
abbrev pub all_unsure : Cabinet → Bool
all_unsure c = covers c.noted.unsure c.table.cabinets

unfoldable pub decide_if_all : Seat → Seat
decide_if_all s = cond (all_unsure s.cabinet) (recover_with s (bit_of s.cabinet.phase.version)) s

-- .. a word of its own
unfoldable pub word_after : Cabinet → ℕ → Settled → Settled
word_after c k x = cond (all_unsure c) (enters x k Decided) x
