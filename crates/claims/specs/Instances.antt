-- What the claims come to in runs of their own, by computation.
use Rattle.std.specs.Prelude.{ℕ, ◌≡◌, true, false, List, [], ◌∷◌, ◌++◌, map, get_or}
use Rattle.std.proofs.Math.Option.{some}
use Rattle.outlet.specs.declared.Party.TheVariants.{Buses, Workshop}
use Rattle.outlet.specs.Outlet.{party_of}
use Rattle.packet.specs.declared.Payload.{Payload}
use Rattle.packet.specs.declared.Check.{Check}
use Rattle.packet.specs.Packet.{start_check, step_check}
use Rattle.packet.specs.declared.Packet.TheVariants.{Normal as NormalPacket, Resume}
use Rattle.line.specs.Line.{oldest}
use Rattle.image.specs.Image.{blank_image}
use Rattle.state.specs.declared.State.TheVariants.{Recovering}
use Rattle.store.specs.Store.{is_present}
use Rattle.group.specs.Group.{state_of, line}
use Rattle.load.specs.Load.{cabinet_count, feeder_total}
use Rattle.protocol.specs.declared.Step.TheVariants.{Deliver, Lose}
use Rattle.protocol.specs.Marked.{two_cabinets, send, begin, deliver, restored, fail}
use Rattle.protocol.specs.Restored.{world_after}
use Rattle.protocol.specs.History.{World, stepping, pointing, returning, steps, advance, run, ends, latest}
use Rattle.protocol.specs.Returns.{named, point_after_loss, kept_after_loss}
use Rattle.protocol.specs.Outlets.{send_AB}
use Rattle.protocol.specs.Workshop.{shared_pair, send_w, to_w}
use Rattle.protocol.specs.Losses.{lose}
use Rattle.protocol.specs.Unsure.{store_between, until_wait, end_under_wait}
use Rattle.protocol.specs.Entry.{step}
use Rattle.protocol.specs.Examples.{to_a, to_b, damage, fetches, row, ring, ring_committed, four_cabinets, four_saved, third_lost, three_committed}
use Rattle.protocol.specs.Partners.{crossed, until_reported}
use Rattle.claims.specs.Stores.{away_after}
use Rattle.claims.specs.Bounds.{packets, Undamaged, HasRoom}
use Rattle.claims.specs.Fifo.{line_after}
use Rattle.claims.specs.Hurts.{Compares, AsHurt}
use Rattle.claims.specs.Saves.{saved_total, OfNewest}
use Rattle.claims.specs.Points.{KeptOf}
use Rattle.claims.specs.NoClock.{WaitTaken, waited, first_end, unsure_record, report, OneOfEach, decider, Replaced}

-- ---- additions: with a damaged packet of that party one would wrap, so that the premise of `NeverWraps` is wanted

-- damage makes 65,535 amperes of the 30 that 1 sends to 2, which has 50 at outlet A, 20 at outlet B and 5 for the workshop
abbrev pub swollen : List ℕ → World
swollen sending = world_after shared_pair (steps (sending ∷ damage 1 2 0 65505 ∷ []))

abbrev pub WouldWrap : World → Payload → Type 0
WouldWrap w p = (oldest (line w.group 0 1) ≡ NormalPacket p) × (HasRoom w.group 1 p → ⊥) × (Undamaged (party_of p.outlet) w.history → ⊥)

abbrev pub Wraps : Type 0
Wraps = WouldWrap (swollen (send 1 2 30)) (to_a 65535) × WouldWrap (swollen (send_AB 1 2 30)) (to_b 65535) × WouldWrap (swollen (send_w 1 2 30)) (to_w 65535)

-- of the other party nothing is damaged then
abbrev pub OthersUndamaged : Type 0
OthersUndamaged = Undamaged Workshop (swollen (send 1 2 30)).history × Undamaged Buses (swollen (send_w 1 2 30)).history

-- ---- lines: 2 takes the resume of 1, and puts one on its line to 3 and none on that back to 1

abbrev pub committed : World
committed = world_after ring (steps ring_committed)

abbrev pub resumed : World
resumed = advance committed (stepping (deliver 1 2))

abbrev pub ResumesOnward : Type 0
ResumesOnward =
    (line_after committed.group resumed.group (Deliver 1 2) 1 0 ≡ []) × (packets resumed.group 1 0 ≡ [])
    × (line_after committed.group resumed.group (Deliver 1 2) 1 2 ≡ Resume ∷ []) × (packets resumed.group 1 2 ≡ Resume ∷ [])

-- ---- losses: the packet behind the lost one stands first, the premise of `NeverWraps` is met, and the line is noted as hurt

abbrev pub two_sent : World
two_sent = world_after (two_cabinets 100 50) (steps (send 1 2 5 ∷ send 1 2 7 ∷ []))

abbrev pub one_lost : World
one_lost = advance two_sent (stepping (lose 1 2 0))

abbrev pub LossMovesUp : Type 0
LossMovesUp =
    (line_after two_sent.group one_lost.group (Lose 1 2 0) 0 1 ≡ NormalPacket (to_a 7) ∷ []) × (packets one_lost.group 0 1 ≡ NormalPacket (to_a 7) ∷ [])
    × Undamaged Buses one_lost.history × (one_lost.history.hurt 0 1 ≡ true)

-- ---- comparisons: 2 would take the checkp of a save that 1 begins, after a packet that is lost and after one that is taken

abbrev pub compare_after : List ℕ → World
compare_after next = world_after (two_cabinets 100 50) (steps (send 1 2 5 ∷ next ∷ begin 1 ∷ []))

abbrev pub ComparedThere : World → Check → Type 0
ComparedThere w v = Compares w.group 0 1 v × AsHurt w.group w.history 0 1 v

abbrev pub TwoComparisons : Type 0
TwoComparisons =
    ComparedThere (compare_after (lose 1 2 0)) (step_check start_check (to_a 5)) × ((compare_after (lose 1 2 0)).history.hurt 0 1 ≡ true)
    × ComparedThere (compare_after (deliver 1 2)) (step_check start_check (to_a 5)) × ((compare_after (deliver 1 2)).history.hurt 0 1 ≡ false)

-- ---- saves: the version of 2 is 1 now, and its slot 0 has the start

abbrev pub OtherSlotIsOlder : Type 0
OtherSlotIsOlder = OfNewest resumed.group resumed.history 1 false → ⊥

-- 3 was lost before the second save, which has no cut of it: its 50 amperes count
abbrev pub LostOnesCount : Type 0
LostOnesCount = saved_total 4 (world_after four_cabinets (steps (four_saved ++ third_lost ++ three_committed))).history Buses ≡ 200

-- ---- points: at the second one of the row 1 is lost with what it has in it, and 2 works

abbrev pub row_later : World
row_later = world_after row point_after_loss

abbrev pub KeptLater : ℕ → Type 0
KeptLater c = KeptOf row_later.group row_later.history (λ i. get_or kept_after_loss i blank_image) c

abbrev pub PointsOfLostOnes : Type 0
PointsOfLostOnes = KeptLater 0 × KeptLater 1

-- a return, sendings, and the fail of 2: 1 ends the recovery, and the save that the rule gives is still the return
abbrev pub pair_returned : World
pair_returned = world_after (two_cabinets 100 50) (pointing (named 65) ∷ returning (named 65) ∷ [])

abbrev pub pair_near : World
pair_near = run pair_returned (steps (send 1 2 30 ∷ deliver 1 2 ∷ fail 2 ∷ fetches 1))

abbrev pub pair_end : World
pair_end = advance pair_near (stepping (restored 1))

abbrev pub StillTheReturn : Type 0
StillTheReturn = (ends pair_near.group pair_end.group 0 ≡ true) × (latest pair_end.history ≡ latest pair_returned.history)

-- ---- no clock: the premises of `NoClock` are met. The first coordinator has tripped before anybody took the resume of its save, and all three
-- are in error with unknown version; wait over would be taken at the third, and the recovery ends in the start

abbrev pub in_doubt : World
in_doubt = world_after store_between (steps until_wait)

abbrev pub under_wait : World
under_wait = run (waited in_doubt 2) (steps end_under_wait)

abbrev pub WaitEnds : Type 0
WaitEnds = WaitTaken in_doubt.group 2 × (first_end (waited in_doubt 2) (steps end_under_wait) ≡ some under_wait) × ((latest under_wait.history).by ≡ 8)

-- so with a report of each, in any order, it ends in the start too if it ends; one order is there
abbrev pub InAnyOrder : Type 0
InAnyOrder =
    (cs : List ℕ) → OneOfEach in_doubt.group cs
    → Replaced (cabinet_count store_between) (feeder_total store_between) in_doubt under_wait (decider in_doubt.group 2) cs

abbrev pub LastFirst : Type 0
LastFirst =
    OneOfEach in_doubt.group (2 ∷ 1 ∷ 0 ∷ [])
    × (state_of (run in_doubt (map report (2 ∷ 1 ∷ 0 ∷ []))).group (decider in_doubt.group 2) ≡ Recovering)

-- a report that stands is not taken again, though wait over would be: the premise that none stands is wanted
abbrev pub StandingReport : Type 0
StandingReport =
    WaitTaken (advance in_doubt (report 0)).group 2 × ((step (advance in_doubt (report 0)).group (unsure_record 0)).answer ≡ 19)

-- ---- stores: 2 trips and is away, and is back in the step in which it reports

abbrev pub BackAgain : Type 0
BackAgain =
    (away_after crossed (steps until_reported) 1 ≡ true) × (away_after crossed (steps (until_reported ++ restored 2 ∷ [])) 1 ≡ false)
    × (is_present (world_after crossed (steps (until_reported ++ restored 2 ∷ []))).group.store 1 ≡ true)
