-- The runs of `specs/Unsure`, by computation.
use mathlib.Core.Path.{◌≡◌, refl}
use mathlib.Core.Bool.{true}
use lib.ListN.{replicate}
use Rattle.crc.specs.Crc.{crc_bit, crc_bits, crc_octet, crc_from}
use Rattle.marks.specs.Marks.{lowest, covers, both, next_up}
use Rattle.marks.specs.Reach.{struck, connected}
use Rattle.state.specs.declared.Version.TheVariants.{Known}
use Rattle.packet.specs.Packet.{fits, shifted, pattern_right, hurt_by}
use Rattle.outgoing.specs.Lines.{empty_lines, line_to, with_line_to, put_all, put_checkps}
use Rattle.store.specs.Store.{home_in, is_last, is_away, copy_at, with_copy_at, slot_at, piece_at, put_piece, leaves}
use Rattle.group.specs.Group.{cabinet, with_cabinet, outgoing, with_outgoing, line, with_line, rows_of, of_rows, with_sound, some, working, recovering_ones, trips_of, with_trips_of, forget_trips, is_crashed, crash_all, sum, settle, settle_over}
use Rattle.load.specs.Load.{version_of, load}
use Rattle.protocol.specs.Moves.{broadcast, join, cut_if_all, take_checkp, resume_with, commit, adopt, recover_with, raise, enter_error, hear, find_link_fault, mark_failed, trip, alarm_to, end_recovery, note_lost, pass_reports, leave}
use Rattle.protocol.specs.Receive.{receive_normal, receive_checkp, receive_resume, receive_recover, receive_fault, receive_invalid}
use Rattle.protocol.specs.Kinds.{sent, send_step, note_step, begin_step, delivered, deliver_step, write_piece, write_step, report_saved, commit_if_all, saved_step, fetch_piece, fetch_step, report_restored, end_if_all, restored_step, fail_step, hurt, damage_step, trip_once, trip_step, report_unsure, decide_if_all, unsure_step, come_back_if_away}
use Rattle.protocol.specs.Wait.{unsure_ones, waited_over}
use Rattle.protocol.specs.Entry.{step, step_all, answers_from}
use Rattle.protocol.specs.Evening.{operate}
use Rattle.protocol.specs.History.{upd, logged, advance}
use Rattle.protocol.specs.Examples.{walk, found}
use Rattle.protocol.specs.Tempting.{answered}
use Rattle.protocol.specs.Unsure.{decided_after_fail, decided_after_fail_finds, decided_after_trip, decided_after_trip_finds, early, early_finds, early_versions, AllAnswered, Forgotten, WaitsAsked, SameUnderBoth}

pub decisions_found : (found decided_after_fail ≡ decided_after_fail_finds) × (found decided_after_trip ≡ decided_after_trip_finds) × (found early ≡ early_finds)
unfolding crc_bit crc_bits crc_octet crc_from fits lowest covers both next_up connected empty_lines line_to with_line_to put_all put_checkps home_in is_last is_away copy_at with_copy_at slot_at piece_at put_piece leaves cabinet with_cabinet outgoing with_outgoing line with_line rows_of of_rows some working recovering_ones trips_of with_trips_of forget_trips is_crashed sum version_of load broadcast join cut_if_all take_checkp resume_with commit adopt recover_with raise enter_error hear pass_reports leave mark_failed trip alarm_to end_recovery note_lost receive_normal receive_checkp receive_resume receive_recover receive_fault sent send_step note_step begin_step delivered deliver_step write_piece write_step report_saved commit_if_all saved_step fetch_piece fetch_step report_restored end_if_all come_back_if_away restored_step fail_step trip_once trip_step report_unsure decide_if_all unsure_step step operate upd logged advance walk found settle settle_over
decisions_found = (refl, refl, refl)

pub one_version : early_versions ≡ replicate 4 (Known true)
unfolding crc_bit crc_bits crc_octet crc_from fits lowest covers both next_up connected empty_lines line_to with_line_to put_all put_checkps home_in is_last is_away copy_at with_copy_at slot_at piece_at put_piece leaves cabinet with_cabinet outgoing with_outgoing line with_line rows_of of_rows some working recovering_ones trips_of with_trips_of forget_trips is_crashed sum version_of load broadcast join cut_if_all take_checkp resume_with commit adopt recover_with raise enter_error hear pass_reports leave mark_failed trip alarm_to end_recovery note_lost receive_normal receive_checkp receive_resume receive_recover receive_fault sent send_step note_step begin_step delivered deliver_step write_piece write_step report_saved commit_if_all saved_step fetch_piece fetch_step report_restored end_if_all come_back_if_away restored_step fail_step trip_once trip_step report_unsure decide_if_all unsure_step step operate upd logged advance walk early_versions settle settle_over
one_version = refl

pub reports_answered : AllAnswered
unfolding crc_bit crc_bits crc_octet crc_from fits shifted pattern_right hurt_by lowest covers both next_up struck connected empty_lines line_to with_line_to put_all put_checkps home_in is_last is_away copy_at with_copy_at slot_at piece_at put_piece leaves cabinet with_cabinet outgoing with_outgoing line with_line rows_of of_rows with_sound some working recovering_ones trips_of with_trips_of forget_trips is_crashed crash_all sum version_of load broadcast join cut_if_all take_checkp resume_with commit adopt recover_with raise enter_error hear find_link_fault pass_reports leave mark_failed trip alarm_to receive_normal receive_checkp receive_resume receive_recover receive_fault receive_invalid sent send_step begin_step delivered deliver_step write_piece write_step report_saved commit_if_all saved_step fetch_piece fetch_step come_back_if_away restored_step fail_step hurt damage_step trip_once trip_step report_unsure decide_if_all unsure_step step answers_from answered settle
reports_answered = (refl, refl, refl, refl, refl, refl, refl, refl, refl, refl, refl)

pub forgotten : Forgotten
forgotten = (refl, refl)

pub waits_asked : WaitsAsked
unfolding crc_bit crc_bits crc_octet crc_from fits lowest covers both connected empty_lines line_to with_line_to put_all put_checkps home_in is_last copy_at with_copy_at slot_at piece_at put_piece leaves cabinet with_cabinet outgoing with_outgoing line with_line rows_of of_rows some working recovering_ones trips_of with_trips_of forget_trips is_crashed sum version_of load broadcast join cut_if_all take_checkp resume_with commit adopt recover_with raise enter_error hear pass_reports leave mark_failed trip alarm_to receive_normal receive_checkp receive_resume receive_fault sent send_step begin_step delivered deliver_step write_piece write_step report_saved commit_if_all saved_step fail_step trip_once trip_step unsure_ones step step_all settle
waits_asked = (refl, refl, refl)

pub same_under_both : SameUnderBoth
unfolding crc_bit crc_bits crc_octet crc_from fits lowest covers both next_up connected empty_lines line_to with_line_to put_all put_checkps home_in is_last is_away copy_at with_copy_at slot_at piece_at put_piece leaves cabinet with_cabinet outgoing with_outgoing line with_line rows_of of_rows some working recovering_ones trips_of with_trips_of forget_trips is_crashed sum version_of load broadcast join cut_if_all take_checkp resume_with commit recover_with raise enter_error hear pass_reports leave trip alarm_to end_recovery note_lost receive_normal receive_checkp receive_recover receive_fault sent send_step begin_step delivered deliver_step write_piece write_step report_saved commit_if_all saved_step fetch_piece fetch_step report_restored end_if_all come_back_if_away restored_step trip_once trip_step report_unsure decide_if_all unsure_step waited_over step step_all answers_from settle settle_over
same_under_both = (refl, refl)
