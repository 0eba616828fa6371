-- The instances of `specs/Instances`, by computation.
use Prim.Native.Nat.{ℕ, zero, suc}
use mathlib.Core.Path.{◌≡◌, refl, sym, ap, ◌∙◌}
use mathlib.Core.Bool.{Bool, true, cond, not, ◌&&◌, true≢false}
use mathlib.Core.List.{List, [], ◌∷◌}
use lib.Dec.{ltb}
use borrow.Author.Tests.{ne_eqb, le-ltb}
use native.Mathlib.Omega.{arith}
use Rattle.outlet.specs.declared.Party.TheVariants.{Buses}
use Rattle.crc.specs.Crc.{crc_bit, crc_bits, crc_octet, crc_from}
use Rattle.marks.specs.Marks.{lowest, covers, both, next_up, either, without}
use Rattle.marks.specs.Reach.{struck, connected}
use Rattle.packet.specs.Packet.{fits, shifted, pattern_right, hurt_by}
use Rattle.outgoing.specs.Lines.{empty_lines, line_to, with_line_to, laden, put_all, put_checkps}
use Rattle.image.specs.Image.{booked}
use Rattle.points.specs.Points.{no_points, point_at, with_point, image_at, same_name, place_of, place_for}
use Rattle.store.specs.Store.{home_in, is_last, is_away, homed_at, copy_at, with_copy_at, slot_at, piece_at, put_piece, leaves, comes_back, set_slots, blank_slots}
use Rattle.group.specs.Group.{cabinet, with_cabinet, state_of, outgoing, with_outgoing, line, with_line, rows_of, of_rows, with_sound, forget_trips, some, working, normal_ones, laden_ones, quiet, recovering_ones, trips_of, with_trips_of, is_crashed, sum, settle, settle_over}
use Rattle.load.specs.Load.{version_of, load}
use Rattle.protocol.specs.Moves.{broadcast, join, cut_if_all, take_checkp, resume_with, commit, adopt, recover_with, raise, enter_error, hear, find_link_fault, mark_failed, trip, alarm_to, end_recovery, note_lost, pass_reports, leave, drop_reports, come_back}
use Rattle.protocol.specs.Receive.{receive_normal, receive_checkp, receive_resume, receive_recover, receive_fault}
use Rattle.protocol.specs.Kinds.{sent, send_step, note_step, begin_step, delivered, deliver_step, write_piece, write_step, report_saved, commit_if_all, saved_step, fetch_piece, fetch_step, report_restored, end_if_all, restored_step, fail_step, hurt, damage_step, lost, lose_step, trip_once, trip_step, report_unsure, decide_if_all, unsure_step, come_back_if_away}
use Rattle.protocol.specs.Wait.{unsure_ones, waited_over}
use Rattle.protocol.specs.Entry.{step}
use Rattle.protocol.specs.Points.{images_kept, take_point, returned, return_to}
use Rattle.protocol.specs.History.{upd, logged, Operation, World, steps, advance, run, image_in}
use Rattle.protocol.specs.Restored.{AllOctets, amperes}
use Rattle.protocol.specs.Unsure.{store_between, until_wait, end_under_wait}
use Rattle.state.specs.State.{works}
use Rattle.claims.specs.Bounds.{content}
use Rattle.claims.specs.Instances.{Wraps, OthersUndamaged, ResumesOnward, LossMovesUp, TwoComparisons, OtherSlotIsOlder, LostOnesCount, PointsOfLostOnes, StillTheReturn, in_doubt, under_wait, WaitEnds, InAnyOrder, LastFirst, StandingReport, BackAgain}
use Rattle.claims.specs.Stores.{away_from}
use Rattle.claims.specs.NoClock.{Before, loaded, operated, is_report, ends_below, first_end, times}
use Rattle.claims.proofs.State.Fun.{and_true, not_true_false}
use Rattle.claims.proofs.Claims.NoClock.{no_clock_before}
use Rattle.claims.proofs.Claims.Written.{octets_of, operations_of_lem}

pub wraps : Wraps
unfolding crc_bit crc_bits crc_octet crc_from fits shifted pattern_right hurt_by lowest covers both next_up struck connected empty_lines line_to with_line_to put_all put_checkps cabinet with_cabinet outgoing with_outgoing line with_line rows_of of_rows with_sound forget_trips some working recovering_ones is_crashed sum version_of load broadcast join cut_if_all take_checkp resume_with commit adopt recover_with raise enter_error hear find_link_fault mark_failed alarm_to end_recovery note_lost receive_normal receive_checkp receive_resume receive_recover receive_fault sent send_step note_step begin_step delivered deliver_step write_piece write_step report_saved commit_if_all saved_step fetch_piece fetch_step report_restored end_if_all restored_step fail_step hurt damage_step step upd logged advance run settle settle_over blank_slots home_in copy_at slot_at with_copy_at piece_at put_piece is_last leaves either pass_reports leave is_away homed_at comes_back without drop_reports come_back come_back_if_away
wraps = (
  (refl, λ r. omega (arith, r), λ e. let z : ◌≡◌ {A = ℕ} 0 1 = cc in omega arith),
  (refl, λ r. omega (arith, r), λ e. let z : ◌≡◌ {A = ℕ} 0 1 = cc in omega arith),
  (refl, λ r. omega (arith, r), λ e. let z : ◌≡◌ {A = ℕ} 0 1 = cc in omega arith),
)

pub others_undamaged : OthersUndamaged
unfolding crc_bit crc_bits crc_octet crc_from shifted pattern_right hurt_by lowest covers both connected empty_lines line_to with_line_to cabinet with_cabinet outgoing with_outgoing line with_line rows_of of_rows some working recovering_ones is_crashed sum version_of load sent send_step hurt damage_step step upd logged advance run blank_slots
others_undamaged = (refl, refl)

pub resumes_onward : ResumesOnward
unfolding crc_bit crc_bits crc_octet crc_from fits shifted pattern_right hurt_by lowest covers both next_up struck connected empty_lines line_to with_line_to put_all put_checkps cabinet with_cabinet outgoing with_outgoing line with_line rows_of of_rows with_sound forget_trips some working recovering_ones is_crashed sum version_of load broadcast join cut_if_all take_checkp resume_with commit adopt recover_with raise enter_error hear find_link_fault mark_failed alarm_to end_recovery note_lost receive_normal receive_checkp receive_resume receive_recover receive_fault sent send_step note_step begin_step delivered deliver_step write_piece write_step report_saved commit_if_all saved_step fetch_piece fetch_step report_restored end_if_all restored_step fail_step hurt damage_step step upd logged advance run content settle settle_over blank_slots home_in copy_at slot_at with_copy_at piece_at put_piece is_last leaves either pass_reports leave is_away homed_at comes_back without drop_reports come_back come_back_if_away
resumes_onward = (refl, refl, refl, refl)

pub loss_moves_up : LossMovesUp
unfolding crc_bit crc_bits crc_octet crc_from lowest covers both connected empty_lines line_to with_line_to cabinet with_cabinet outgoing with_outgoing line with_line rows_of of_rows some working recovering_ones is_crashed sum version_of load sent send_step lost lose_step step upd logged advance run content blank_slots
loss_moves_up = (refl, refl, refl, refl)

pub two_comparisons : TwoComparisons
unfolding lost lose_step crc_bit crc_bits crc_octet crc_from fits shifted pattern_right hurt_by lowest covers both next_up struck connected empty_lines line_to with_line_to put_all put_checkps cabinet with_cabinet outgoing with_outgoing line with_line rows_of of_rows with_sound forget_trips some working recovering_ones is_crashed sum version_of load broadcast join cut_if_all take_checkp resume_with commit adopt recover_with raise enter_error hear find_link_fault mark_failed alarm_to end_recovery note_lost receive_normal receive_checkp receive_resume receive_recover receive_fault sent send_step note_step begin_step delivered deliver_step write_piece write_step report_saved commit_if_all saved_step fetch_piece fetch_step report_restored end_if_all restored_step fail_step hurt damage_step step upd logged advance run content settle settle_over blank_slots home_in copy_at slot_at with_copy_at piece_at put_piece is_last leaves either pass_reports leave is_away homed_at comes_back without drop_reports come_back come_back_if_away
two_comparisons = ((record { comes = refl; ready = refl }, (refl, refl)), refl, (record { comes = refl; ready = refl }, (refl, refl)), refl)

-- its cut has 75 amperes, the start 50
pub other_slot_is_older : OtherSlotIsOlder
unfolding crc_bit crc_bits crc_octet crc_from fits shifted pattern_right hurt_by lowest covers both next_up struck connected empty_lines line_to with_line_to put_all put_checkps cabinet with_cabinet outgoing with_outgoing line with_line rows_of of_rows with_sound forget_trips some working recovering_ones is_crashed sum version_of load broadcast join cut_if_all take_checkp resume_with commit adopt recover_with raise enter_error hear find_link_fault mark_failed alarm_to end_recovery note_lost receive_normal receive_checkp receive_resume receive_recover receive_fault sent send_step note_step begin_step delivered deliver_step write_piece write_step report_saved commit_if_all saved_step fetch_piece fetch_step report_restored end_if_all restored_step fail_step hurt damage_step step upd logged advance run settle settle_over blank_slots home_in copy_at slot_at with_copy_at piece_at put_piece is_last leaves either pass_reports leave is_away homed_at comes_back without drop_reports come_back come_back_if_away
other_slot_is_older y =
    let cut : 75 ≡ booked Buses y.0.image = ap (λ o. amperes Buses (image_in o)) y.1 in
    let start : 50 ≡ booked Buses y.0.image = ap (booked Buses) y.2 in
    omega (arith, cut, start)

pub lost_ones_count : LostOnesCount
unfolding crc_bit crc_bits crc_octet crc_from fits shifted pattern_right hurt_by lowest covers both next_up struck connected empty_lines line_to with_line_to put_all put_checkps cabinet with_cabinet outgoing with_outgoing line with_line rows_of of_rows with_sound forget_trips some working recovering_ones is_crashed sum version_of load broadcast join cut_if_all take_checkp resume_with commit adopt recover_with raise enter_error hear find_link_fault mark_failed alarm_to end_recovery note_lost receive_normal receive_checkp receive_resume receive_recover receive_fault sent send_step note_step begin_step delivered deliver_step write_piece write_step report_saved commit_if_all saved_step fetch_piece fetch_step report_restored end_if_all restored_step fail_step hurt damage_step step upd logged advance run settle settle_over blank_slots home_in copy_at slot_at with_copy_at piece_at put_piece is_last leaves either pass_reports leave is_away homed_at comes_back without drop_reports come_back come_back_if_away
lost_ones_count = refl

pub points_of_lost_ones : PointsOfLostOnes
unfolding crc_bit crc_bits crc_octet crc_from fits shifted pattern_right hurt_by lowest covers both next_up struck connected empty_lines line_to with_line_to laden put_all put_checkps no_points point_at with_point image_at same_name place_of place_for cabinet with_cabinet outgoing with_outgoing line with_line rows_of of_rows with_sound forget_trips some working normal_ones laden_ones quiet recovering_ones is_crashed sum version_of load broadcast join cut_if_all take_checkp resume_with commit adopt recover_with raise enter_error hear find_link_fault mark_failed alarm_to end_recovery note_lost receive_normal receive_checkp receive_resume receive_recover receive_fault sent send_step note_step begin_step delivered deliver_step write_piece write_step report_saved commit_if_all saved_step fetch_piece fetch_step report_restored end_if_all restored_step fail_step hurt damage_step report_unsure decide_if_all unsure_step step images_kept take_point returned return_to upd logged advance run settle settle_over blank_slots home_in copy_at slot_at with_copy_at piece_at put_piece is_last leaves either pass_reports leave is_away homed_at comes_back without drop_reports come_back come_back_if_away set_slots
points_of_lost_ones = (
  ((λ e. absurd (true≢false (sym e))), (λ e. refl)),
  ((λ e. (_, refl, refl)), (λ e. absurd (true≢false e))),
)

pub still_the_return : StillTheReturn
unfolding crc_bit crc_bits crc_octet crc_from fits shifted pattern_right hurt_by lowest covers both next_up struck connected empty_lines line_to with_line_to laden put_all put_checkps no_points point_at with_point image_at same_name place_of place_for cabinet with_cabinet outgoing with_outgoing line with_line rows_of of_rows with_sound forget_trips some working normal_ones laden_ones quiet recovering_ones is_crashed sum version_of load broadcast join cut_if_all take_checkp resume_with commit adopt recover_with raise enter_error hear find_link_fault mark_failed alarm_to end_recovery note_lost receive_normal receive_checkp receive_resume receive_recover receive_fault sent send_step note_step begin_step delivered deliver_step write_piece write_step report_saved commit_if_all saved_step fetch_piece fetch_step report_restored end_if_all restored_step fail_step hurt damage_step report_unsure decide_if_all unsure_step step images_kept take_point returned return_to upd logged advance run settle settle_over blank_slots home_in copy_at slot_at with_copy_at piece_at put_piece is_last leaves either pass_reports leave is_away homed_at comes_back without drop_reports come_back come_back_if_away set_slots
still_the_return = (refl, refl)

-- ---- no clock

pub wait_ends : WaitEnds
unfolding crc_bit crc_bits crc_octet crc_from fits lowest covers both next_up struck connected empty_lines line_to with_line_to put_all put_checkps cabinet with_cabinet outgoing with_outgoing line with_line rows_of of_rows some working recovering_ones trips_of with_trips_of forget_trips is_crashed sum version_of load broadcast join cut_if_all take_checkp resume_with commit adopt recover_with raise enter_error hear mark_failed trip alarm_to end_recovery note_lost receive_normal receive_checkp receive_resume receive_recover receive_fault sent send_step note_step begin_step delivered deliver_step write_piece write_step report_saved commit_if_all saved_step fetch_piece fetch_step report_restored end_if_all restored_step fail_step trip_once trip_step report_unsure decide_if_all unsure_step unsure_ones waited_over step upd logged advance run ends_below first_end settle settle_over blank_slots home_in copy_at slot_at with_copy_at piece_at put_piece is_last leaves either pass_reports leave is_away homed_at comes_back without drop_reports come_back come_back_if_away
wait_ends = (record { running = refl; fine = refl }, refl, refl)

pub standing_report : StandingReport
unfolding crc_bit crc_bits crc_octet crc_from fits lowest covers both next_up struck connected empty_lines line_to with_line_to put_all put_checkps cabinet with_cabinet outgoing with_outgoing line with_line rows_of of_rows some working recovering_ones trips_of with_trips_of forget_trips is_crashed sum version_of load broadcast join cut_if_all take_checkp resume_with commit adopt recover_with raise enter_error hear mark_failed trip alarm_to end_recovery note_lost receive_normal receive_checkp receive_resume receive_recover receive_fault sent send_step note_step begin_step delivered deliver_step write_piece write_step report_saved commit_if_all saved_step fetch_piece fetch_step report_restored end_if_all restored_step fail_step trip_once trip_step report_unsure decide_if_all unsure_step unsure_ones waited_over step upd logged advance run settle settle_over blank_slots home_in copy_at slot_at with_copy_at piece_at put_piece is_last leaves either pass_reports leave is_away homed_at comes_back without drop_reports come_back come_back_if_away
standing_report = (record { running = refl; fine = refl }, refl)

-- who works there
works_there : (c : ℕ) → works (state_of in_doubt.group c) ≡ ltb c 3
unfolding crc_bit crc_bits crc_octet crc_from fits lowest covers both next_up struck connected empty_lines line_to with_line_to put_all put_checkps cabinet with_cabinet outgoing with_outgoing line with_line rows_of of_rows some working recovering_ones trips_of with_trips_of forget_trips is_crashed sum version_of load broadcast join cut_if_all take_checkp resume_with commit adopt recover_with raise enter_error hear mark_failed trip alarm_to end_recovery note_lost receive_normal receive_checkp receive_resume receive_recover receive_fault sent send_step note_step begin_step delivered deliver_step write_piece write_step report_saved commit_if_all saved_step fetch_piece fetch_step report_restored end_if_all restored_step fail_step trip_once trip_step report_unsure decide_if_all unsure_step unsure_ones waited_over step upd logged advance run settle settle_over blank_slots home_in copy_at slot_at with_copy_at piece_at put_piece is_last leaves either pass_reports leave is_away homed_at comes_back without drop_reports come_back come_back_if_away
works_there zero = refl
works_there (suc zero) = refl
works_there (suc (suc zero)) = refl
works_there (suc (suc (suc zero))) = refl
works_there (suc (suc (suc (suc zero)))) = refl
works_there (suc (suc (suc (suc (suc zero))))) = refl
works_there (suc (suc (suc (suc (suc (suc zero)))))) = refl
works_there (suc (suc (suc (suc (suc (suc (suc zero))))))) = refl
works_there (suc (suc (suc (suc (suc (suc (suc (suc c)))))))) = sym (le-ltb (suc (suc (suc (suc (suc (suc (suc (suc c)))))))) 3 (omega arith))

-- each stands once in the list
times_there : (c : ℕ) → times c (2 ∷ 1 ∷ 0 ∷ []) ≡ cond (ltb c 3) 1 0
unfolding times
times_there zero = refl
times_there (suc zero) = refl
times_there (suc (suc zero)) = refl
times_there (suc (suc (suc c))) =
    rw (
      ne_eqb (suc (suc (suc c))) 2 (λ e. omega (arith, e)),
      ne_eqb (suc (suc (suc c))) 1 (λ e. omega (arith, e)),
      ne_eqb (suc (suc (suc c))) 0 (λ e. omega (arith, e)),
      le-ltb (suc (suc (suc c))) 3 (omega arith),
    )

pub last_first : LastFirst
unfolding crc_bit crc_bits crc_octet crc_from fits lowest covers both next_up struck connected empty_lines line_to with_line_to put_all put_checkps cabinet with_cabinet outgoing with_outgoing line with_line rows_of of_rows some working recovering_ones trips_of with_trips_of forget_trips is_crashed sum version_of load broadcast join cut_if_all take_checkp resume_with commit adopt recover_with raise enter_error hear mark_failed trip alarm_to end_recovery note_lost receive_normal receive_checkp receive_resume receive_recover receive_fault sent send_step note_step begin_step delivered deliver_step write_piece write_step report_saved commit_if_all saved_step fetch_piece fetch_step report_restored end_if_all restored_step fail_step trip_once trip_step report_unsure decide_if_all unsure_step unsure_ones waited_over step upd logged advance run settle settle_over blank_slots home_in copy_at slot_at with_copy_at piece_at put_piece is_last leaves either pass_reports leave is_away homed_at comes_back without drop_reports come_back come_back_if_away
last_first = ((λ c. times_there c ∙ sym (ap (λ (b : Bool). cond b 1 0) (works_there c))), refl)

-- operations none of which is a report
abbrev all_plain : List Operation → Bool
all_plain [] = true
all_plain (x ∷ xs) = not (is_report x) && all_plain xs

before_all : (f : List ℕ) (xs : List Operation) (w : World) → Before f w → AllOctets xs → all_plain xs ≡ true → Before f (run w xs)
unfolding run
before_all f [] w b o e = b
before_all f (x ∷ xs) w b o e =
    let q = and_true {s = not (is_report x)} e in
    before_all f xs (advance w x) (operated x o.0 (not_true_false q.0) b) o.1 q.1

row_loads : (load store_between).answer ≡ 0
unfolding lowest covers both connected sum version_of load blank_slots
row_loads = refl

pub in_any_order : InAnyOrder
in_any_order =
    no_clock_before store_between (octets_of store_between refl) row_loads in_doubt
    (before_all store_between (steps until_wait) _ loaded (operations_of_lem (steps until_wait) refl) refl) 2 wait_ends.0
    (steps end_under_wait) (operations_of_lem (steps end_under_wait) refl) under_wait wait_ends.1

pub back_again : BackAgain
unfolding crc_bit crc_bits crc_octet crc_from fits lowest covers both next_up struck connected empty_lines line_to with_line_to put_all put_checkps cabinet with_cabinet outgoing with_outgoing line with_line rows_of of_rows forget_trips some working recovering_ones is_crashed sum version_of load broadcast join cut_if_all take_checkp resume_with commit adopt recover_with raise enter_error hear alarm_to end_recovery note_lost receive_normal receive_checkp receive_resume receive_recover receive_fault begin_step delivered deliver_step write_piece write_step report_saved commit_if_all saved_step fetch_piece fetch_step report_restored end_if_all restored_step step upd logged advance run settle settle_over blank_slots home_in copy_at slot_at with_copy_at piece_at put_piece is_last leaves either pass_reports leave is_away homed_at comes_back without drop_reports come_back come_back_if_away trips_of with_trips_of trip trip_once trip_step away_from
back_again = (refl, refl, refl)
