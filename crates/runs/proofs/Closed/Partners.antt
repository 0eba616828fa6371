-- The runs and the cases of `specs/Partners`, by computation.
use mathlib.Core.Path.{◌≡◌, refl}
use mathlib.Core.List.{map}
use Rattle.crc.specs.Crc.{crc_bit, crc_bits, crc_octet, crc_from}
use Rattle.marks.specs.Marks.{lowest, covers, both, next_up, either, without}
use Rattle.marks.specs.Reach.{connected}
use Rattle.packet.specs.Packet.{fits}
use Rattle.outgoing.specs.Lines.{empty_lines, line_to, with_line_to, laden, put_all, put_checkps}
use Rattle.points.specs.Points.{no_points, point_at, with_point, image_at, same_name, place_of, place_for}
use Rattle.store.specs.Store.{home_in, is_last, is_away, homed_at, copy_at, with_copy_at, slot_at, piece_at, put_piece, leaves, comes_back, set_slots, empty_store}
use Rattle.group.specs.Group.{cabinet, with_cabinet, outgoing, with_outgoing, line, with_line, rows_of, of_rows, some, working, normal_ones, laden_ones, quiet, recovering_ones, trips_of, with_trips_of, forget_trips, is_crashed, crash_all, sum, settle, settle_over}
use Rattle.load.specs.Load.{version_of, load}
use Rattle.protocol.specs.Moves.{broadcast, join, cut_if_all, take_checkp, resume_with, commit, adopt, recover_with, raise, enter_error, hear, pass_reports, leave, drop_reports, come_back, mark_failed, trip, alarm_to, end_recovery, note_lost}
use Rattle.protocol.specs.Receive.{receive_normal, receive_checkp, receive_resume, receive_recover, receive_fault}
use Rattle.protocol.specs.Kinds.{sent, send_step, note_step, begin_step, delivered, deliver_step, write_piece, write_step, report_saved, commit_if_all, saved_step, fetch_piece, fetch_step, report_restored, come_back_if_away, end_if_all, restored_step, fail_step, trip_once, trip_step, report_unsure, decide_if_all, unsure_step}
use Rattle.protocol.specs.Entry.{step, step_all, answers_from}
use Rattle.protocol.specs.Listing.{parts, run_lines, listing}
use Rattle.protocol.specs.Points.{images_kept, take_point, returned, return_to}
use Rattle.protocol.specs.Evening.{operate}
use Rattle.protocol.specs.History.{upd, logged, advance}
use Rattle.protocol.specs.Marked.{Case, found as found_in}
use Rattle.protocol.specs.Examples.{walk, found}
use Rattle.protocol.specs.Tempting.{answered}
use Rattle.protocol.specs.Partners.{home_fails, home_fails_finds, home_fails_undone, home_fails_undone_finds, partner_fails_next, partner_fails_next_finds, store_passed_over, store_passed_over_finds, lead_goes_round, lead_goes_round_finds, return_at_both, return_at_both_finds, partner_in_error, partner_in_error_finds, third_trip_of_a_store, third_trip_of_a_store_finds, look, seen, AllLooked, AllAnswered, partner_cases}

pub partners_found : (found home_fails ≡ home_fails_finds) × (found home_fails_undone ≡ home_fails_undone_finds)
    × (found partner_fails_next ≡ partner_fails_next_finds) × (found store_passed_over ≡ store_passed_over_finds)
    × (found lead_goes_round ≡ lead_goes_round_finds) × (found return_at_both ≡ return_at_both_finds)
    × (found partner_in_error ≡ partner_in_error_finds) × (found third_trip_of_a_store ≡ third_trip_of_a_store_finds)
unfolding crc_bit crc_bits crc_octet crc_from fits lowest covers both next_up either without connected empty_lines line_to with_line_to laden put_all put_checkps no_points point_at with_point image_at same_name place_of place_for home_in is_last is_away homed_at copy_at with_copy_at slot_at piece_at put_piece leaves comes_back set_slots cabinet with_cabinet outgoing with_outgoing line with_line rows_of of_rows some working normal_ones laden_ones quiet recovering_ones trips_of with_trips_of forget_trips is_crashed sum version_of load broadcast join cut_if_all take_checkp resume_with commit adopt recover_with raise enter_error hear pass_reports leave drop_reports come_back mark_failed trip alarm_to end_recovery note_lost receive_normal receive_checkp receive_resume receive_recover receive_fault sent send_step note_step begin_step delivered deliver_step write_piece write_step report_saved commit_if_all saved_step fetch_piece fetch_step report_restored come_back_if_away end_if_all restored_step fail_step trip_once trip_step report_unsure decide_if_all unsure_step step images_kept take_point returned return_to operate upd logged advance walk found settle settle_over
partners_found = (refl, refl, refl, refl, refl, refl, refl, refl)

pub partners_looked : AllLooked
unfolding crc_bit crc_bits crc_octet crc_from fits lowest covers both next_up either without connected empty_lines line_to with_line_to laden put_all put_checkps no_points point_at with_point image_at same_name place_of place_for home_in is_last is_away homed_at copy_at with_copy_at slot_at piece_at put_piece leaves comes_back set_slots cabinet with_cabinet outgoing with_outgoing line with_line rows_of of_rows some working normal_ones laden_ones quiet recovering_ones trips_of with_trips_of forget_trips is_crashed sum version_of load broadcast join cut_if_all take_checkp resume_with commit adopt recover_with raise enter_error hear pass_reports leave drop_reports come_back mark_failed trip alarm_to end_recovery note_lost receive_normal receive_checkp receive_resume receive_recover receive_fault sent send_step note_step begin_step delivered deliver_step write_piece write_step report_saved commit_if_all saved_step fetch_piece fetch_step report_restored come_back_if_away end_if_all restored_step fail_step trip_once trip_step step images_kept take_point returned return_to operate settle settle_over look seen
partners_looked = (refl, refl, refl, refl)

pub partners_answered : AllAnswered
unfolding crc_bit crc_bits crc_octet crc_from lowest covers both next_up either without connected empty_lines line_to with_line_to put_all put_checkps home_in is_last is_away homed_at copy_at with_copy_at slot_at piece_at put_piece leaves comes_back cabinet with_cabinet outgoing with_outgoing line with_line rows_of of_rows some working recovering_ones trips_of with_trips_of forget_trips is_crashed sum version_of load broadcast join cut_if_all take_checkp resume_with commit adopt recover_with raise enter_error hear pass_reports leave drop_reports come_back mark_failed trip alarm_to end_recovery note_lost receive_checkp receive_resume receive_recover receive_fault begin_step delivered deliver_step write_piece write_step report_saved commit_if_all saved_step fetch_piece fetch_step report_restored come_back_if_away end_if_all restored_step fail_step trip_once trip_step report_unsure decide_if_all unsure_step step settle settle_over crash_all answers_from answered
partners_answered = (refl, refl, refl, refl, refl, refl, refl, refl)

pub partner_cases_lem : map (λ (c : Case). found_in c.asked) partner_cases ≡ map (λ (c : Case). c.expected) partner_cases
unfolding lowest covers both next_up either without connected empty_lines line_to with_line_to put_all put_checkps home_in is_last is_away homed_at copy_at slot_at leaves comes_back cabinet with_cabinet outgoing with_outgoing line with_line rows_of of_rows some working recovering_ones trips_of with_trips_of is_crashed sum version_of load broadcast join cut_if_all resume_with recover_with raise enter_error hear pass_reports leave drop_reports come_back mark_failed trip alarm_to end_recovery note_lost receive_resume receive_recover receive_fault begin_step delivered deliver_step fetch_piece fetch_step report_restored come_back_if_away end_if_all restored_step fail_step trip_once trip_step step settle settle_over crash_all empty_store step_all answers_from parts run_lines listing found_in
partner_cases_lem = refl
