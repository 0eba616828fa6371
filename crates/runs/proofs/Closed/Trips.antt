-- The runs and the cases of `specs/Trips`, by computation.
use mathlib.Core.Path.{◌≡◌, refl}
use mathlib.Core.List.{map}
use Rattle.crc.specs.Crc.{crc_bit, crc_bits, crc_octet, crc_from}
use Rattle.marks.specs.Marks.{lowest, covers, both, next_up}
use Rattle.marks.specs.Reach.{struck, connected}
use Rattle.packet.specs.Packet.{fits, shifted, pattern_right, hurt_by}
use Rattle.outgoing.specs.Lines.{empty_lines, line_to, with_line_to, put_all, put_checkps}
use Rattle.store.specs.Store.{home_in, is_last, is_away, copy_at, with_copy_at, slot_at, piece_at, put_piece, leaves}
use Rattle.group.specs.Group.{cabinet, with_cabinet, outgoing, with_outgoing, line, with_line, rows_of, of_rows, with_sound, some, working, recovering_ones, trips_of, with_trips_of, forget_trips, is_crashed, crash_all, sum, settle, settle_over}
use Rattle.load.specs.Load.{version_of, load}
use Rattle.protocol.specs.Moves.{broadcast, join, cut_if_all, take_checkp, resume_with, commit, adopt, recover_with, raise, enter_error, hear, find_link_fault, mark_failed, trip, alarm_to, end_recovery, note_lost, pass_reports, leave}
use Rattle.protocol.specs.Receive.{receive_normal, receive_checkp, receive_resume, receive_recover, receive_fault, receive_invalid}
use Rattle.protocol.specs.Kinds.{sent, send_step, note_step, begin_step, delivered, deliver_step, write_piece, write_step, report_saved, commit_if_all, saved_step, fetch_piece, fetch_step, report_restored, end_if_all, restored_step, fail_step, hurt, damage_step, lost, lose_step, trip_once, trip_step, report_unsure, decide_if_all, unsure_step, come_back_if_away}
use Rattle.protocol.specs.Entry.{step, step_all, answers_from}
use Rattle.protocol.specs.Listing.{parts, run_lines, listing}
use Rattle.protocol.specs.Evening.{operate}
use Rattle.protocol.specs.History.{upd, logged, advance}
use Rattle.protocol.specs.Marked.{Case, found as found_in}
use Rattle.protocol.specs.Examples.{walk, found}
use Rattle.protocol.specs.Tempting.{answered, AsWritten}
use Rattle.protocol.specs.Trips.{comes_back, comes_back_finds, trip_passed_over, trip_passed_over_finds, third_trip_fails, third_trip_fails_finds, lead_moves_on, lead_moves_on_finds, middle_trips, middle_trips_finds, trips_while_saving, trips_while_saving_finds, RoundAgain, leads, counts, trip_cases}

pub trips_found : (found comes_back ≡ comes_back_finds) × (found trip_passed_over ≡ trip_passed_over_finds)
    × (found third_trip_fails ≡ third_trip_fails_finds) × (found lead_moves_on ≡ lead_moves_on_finds) × (found middle_trips ≡ middle_trips_finds)
    × (found trips_while_saving ≡ trips_while_saving_finds)
unfolding crc_bit crc_bits crc_octet crc_from fits lowest covers both next_up struck connected empty_lines line_to with_line_to put_all put_checkps home_in is_last is_away copy_at with_copy_at slot_at piece_at put_piece leaves cabinet with_cabinet outgoing with_outgoing line with_line rows_of of_rows with_sound some working recovering_ones trips_of with_trips_of forget_trips is_crashed sum version_of load broadcast join cut_if_all take_checkp resume_with commit adopt recover_with raise enter_error hear pass_reports leave mark_failed trip alarm_to end_recovery note_lost receive_normal receive_checkp receive_resume receive_recover receive_fault sent send_step note_step begin_step delivered deliver_step write_piece write_step report_saved commit_if_all saved_step fetch_piece fetch_step report_restored end_if_all come_back_if_away restored_step fail_step trip_once trip_step report_unsure decide_if_all unsure_step step operate upd logged advance walk found settle settle_over
trips_found = (refl, refl, refl, refl, refl, refl)

pub round_again : RoundAgain
unfolding lowest both next_up
round_again = (refl, refl, refl)

pub runs_answered : AsWritten leads × AsWritten counts
unfolding crc_bit crc_bits crc_octet crc_from fits lowest covers both next_up struck connected empty_lines line_to with_line_to put_all put_checkps home_in is_last is_away copy_at with_copy_at slot_at piece_at put_piece leaves cabinet with_cabinet outgoing with_outgoing line with_line rows_of of_rows with_sound some working recovering_ones trips_of with_trips_of forget_trips is_crashed crash_all sum version_of load broadcast join cut_if_all take_checkp resume_with commit adopt recover_with raise enter_error hear pass_reports leave mark_failed trip alarm_to end_recovery note_lost receive_normal receive_checkp receive_resume receive_recover receive_fault sent send_step note_step begin_step delivered deliver_step write_piece write_step report_saved commit_if_all saved_step fetch_piece fetch_step report_restored end_if_all come_back_if_away restored_step fail_step trip_once trip_step report_unsure decide_if_all unsure_step step answers_from answered settle settle_over
runs_answered = (refl, refl)

pub trip_cases_lem : map (λ (c : Case). found_in c.asked) trip_cases ≡ map (λ (c : Case). c.expected) trip_cases
unfolding crc_bit crc_bits crc_octet crc_from fits shifted pattern_right hurt_by lowest covers both next_up struck connected empty_lines line_to with_line_to put_all put_checkps home_in is_last is_away copy_at with_copy_at slot_at piece_at put_piece leaves cabinet with_cabinet outgoing with_outgoing line with_line rows_of of_rows with_sound some working recovering_ones trips_of with_trips_of forget_trips is_crashed crash_all sum version_of load broadcast join cut_if_all take_checkp resume_with commit adopt recover_with raise enter_error hear find_link_fault pass_reports leave mark_failed trip alarm_to end_recovery note_lost receive_normal receive_checkp receive_resume receive_recover receive_fault receive_invalid sent send_step note_step begin_step delivered deliver_step write_piece write_step report_saved commit_if_all saved_step fetch_piece fetch_step report_restored end_if_all come_back_if_away restored_step fail_step hurt damage_step lost lose_step trip_once trip_step report_unsure decide_if_all unsure_step step step_all answers_from parts run_lines listing found_in settle settle_over
trip_cases_lem = refl
