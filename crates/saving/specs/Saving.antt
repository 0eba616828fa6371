-- Begin, write and saved, on the cabinets, lines and slots that they touch. That each, stored back, is the step of the group is proved in
-- proofs/Stored.antt.
use Rattle.std.specs.Prelude.{ℕ, Bool, true, false, cond, not, ◌&&◌, List, eqb, ltb, Result, Ok, Err}
use Rattle.refusal.specs.declared.Refusal.{Refusal}
use Rattle.refusal.specs.Refusal.{number}
use Rattle.marks.specs.Marks.{marked, covers}
use Rattle.state.specs.declared.State.TheVariants.{Normal, Checkpointing}
use Rattle.state.specs.State.{is_in, in_recovery, in_saving, bit_of}
use Rattle.store.specs.declared.Share.{Share}
use Rattle.store.specs.Share.{put_piece_in}
use Rattle.cabinet.specs.declared.Cabinet.{Cabinet}
use Rattle.cabinet.specs.Cabinet.{coordinator, wrote, owing}
use Rattle.group.specs.Group.{no_trips}
use Rattle.seat.specs.declared.Seat.{Seat}
use Rattle.seat.specs.declared.SeatAnswer.{SeatAnswer}
use Rattle.seat.specs.Seat.{answered}
use Rattle.protocol.specs.Kinds.{need}
use Rattle.moves.specs.Seats.{join, cut_if_all, commit}
use Rattle.saving.specs.declared.Kept.{Kept}
use Rattle.saving.specs.declared.KeptAnswer.{KeptAnswer}

-- ---- 3 begin

abbrev pub begin_refusal : Cabinet → ℕ → ℕ
begin_refusal c a = need (is_in c.phase.state Normal && eqb (coordinator c) a) 14 0

unfoldable pub begin : Seat → ℕ → SeatAnswer
begin s a = cond (eqb (begin_refusal s.cabinet a) 0) (answered 0 (cut_if_all (join s))) (answered (begin_refusal s.cabinet a) s)

-- ---- 5 write

abbrev pub write_refusal : Cabinet → Cabinet → ℕ
write_refusal c home = need (is_in c.phase.state Checkpointing) 14 (need (not (in_recovery home.phase.state)) 19 0)

-- "Pieces go to slot 1 − version.", at each store of the pair that is present
abbrev pub piece_saved : Share → Cabinet → Share
piece_saved x c = put_piece_in x (not (bit_of c.phase.version)) c.noted.pieces c.image

-- what a cabinet leaves that writes a piece or fetches one, and whether its home owes a report on it
abbrev pub leaving : ℕ → Cabinet → Share → Bool → KeptAnswer
leaving k c x owes = record { answer = k; cabinet = c; share = x; owes = owes }

-- a refusal changes nothing, and no report is owed
abbrev pub kept_after : Kept → Result Kept Refusal → KeptAnswer
kept_after before (Ok k) = leaving 0 k.cabinet k.share k.owes
kept_after before (Err r) = leaving (number r) before.cabinet before.share false

unfoldable pub write : Cabinet → Cabinet → Share → ℕ → KeptAnswer
write c home x a =
    cond (eqb (write_refusal c home) 0) (leaving 0 (wrote c a) (piece_saved x c) (not (ltb c.noted.pieces 3)))
    (leaving (write_refusal c home) c x false)

-- with piece 3 "The home then owes one saved report"
abbrev pub owe_if : Bool → Cabinet → ℕ → Cabinet
owe_if asked home a = cond asked (owing home a true) home

-- ---- 6 saved

abbrev pub saved_refusal : Cabinet → Cabinet → ℕ → ℕ
saved_refusal home k a = need (marked home.owed a && in_saving k.phase.state) 19 0

-- "When the coordinator has this save's reports for every cabinet in its table": the commit
abbrev pub all_saved : Cabinet → Bool
all_saved c = covers c.noted.saved c.table.cabinets

unfoldable pub commit_if_all : Seat → Seat
commit_if_all s = cond (all_saved s.cabinet) (commit s) s

-- .. and no trip before it counts any more
unfoldable pub trips_after : Cabinet → List ℕ → List ℕ
trips_after c trips = cond (all_saved c) no_trips trips
