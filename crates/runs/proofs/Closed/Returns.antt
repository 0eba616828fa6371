-- The runs of `specs/Returns`, by computation.
use mathlib.Core.Path.{◌≡◌, refl}
use mathlib.Core.List.{[], ◌∷◌, map}
use Rattle.crc.specs.Crc.{crc_bit, crc_bits, crc_octet, crc_from}
use Rattle.marks.specs.Marks.{lowest, covers, both, next_up}
use Rattle.marks.specs.Reach.{struck, connected}
use Rattle.packet.specs.Packet.{fits}
use Rattle.outgoing.specs.Lines.{empty_lines, line_to, with_line_to, laden, put_all, put_checkps}
use Rattle.points.specs.Points.{no_points, point_at, with_point, image_at, same_name, place_of, place_for}
use Rattle.store.specs.Store.{home_in, is_last, is_away, copy_at, with_copy_at, slot_at, piece_at, put_piece, leaves, set_slots}
use Rattle.group.specs.Group.{cabinet, with_cabinet, outgoing, with_outgoing, line, with_line, rows_of, of_rows, with_sound, some, working, normal_ones, laden_ones, quiet, recovering_ones, forget_trips, is_crashed, sum, crash_all, settle, settle_over}
use Rattle.load.specs.Load.{version_of, load}
use Rattle.protocol.specs.Moves.{broadcast, join, cut_if_all, take_checkp, resume_with, commit, adopt, recover_with, raise, enter_error, hear, find_link_fault, mark_failed, alarm_to, end_recovery, note_lost, pass_reports, leave}
use Rattle.protocol.specs.Receive.{receive_normal, receive_checkp, receive_resume, receive_recover, receive_fault}
use Rattle.protocol.specs.Kinds.{sent, send_step, note_step, begin_step, delivered, deliver_step, write_piece, write_step, report_saved, commit_if_all, saved_step, fetch_piece, fetch_step, report_restored, end_if_all, restored_step, fail_step, report_unsure, decide_if_all, unsure_step, come_back_if_away}
use Rattle.protocol.specs.Entry.{step}
use Rattle.protocol.specs.Listing.{parts}
use Rattle.protocol.specs.Points.{images_kept, take_point, returned, return_to}
use Rattle.protocol.specs.Evening.{operate, operate_all, answers_to, plan_text, evening}
use Rattle.protocol.specs.History.{upd, logged, advance}
use Rattle.protocol.specs.Examples.{walk, found, row}
use Rattle.protocol.specs.Returns.{named, kept_in, store_in, row_returned, return_first, return_first_finds, row_store, return_stays, return_stays_finds, point_after_loss, row_kept, found_kept, return_between, return_between_finds, star_kept, Asked, asked, answers_found, small_evening, small_printed}

pub returns_found : (found return_first ≡ return_first_finds) × (found return_stays ≡ return_stays_finds) × (found_kept return_between (named 65 ∷ named 66 ∷ named 67 ∷ []) ≡ (return_between_finds, star_kept))
unfolding crc_bit crc_bits crc_octet crc_from fits lowest covers both next_up struck connected empty_lines line_to with_line_to laden put_all put_checkps no_points point_at with_point image_at same_name place_of place_for home_in is_last is_away copy_at with_copy_at slot_at piece_at put_piece leaves set_slots cabinet with_cabinet outgoing with_outgoing line with_line rows_of of_rows with_sound some working normal_ones laden_ones quiet recovering_ones forget_trips is_crashed sum version_of load broadcast join cut_if_all take_checkp resume_with commit adopt recover_with raise enter_error hear find_link_fault pass_reports leave mark_failed alarm_to end_recovery note_lost receive_normal receive_checkp receive_resume receive_recover receive_fault sent send_step note_step begin_step delivered deliver_step write_piece write_step report_saved commit_if_all saved_step fetch_piece fetch_step report_restored end_if_all come_back_if_away restored_step fail_step report_unsure decide_if_all unsure_step step images_kept take_point returned return_to operate upd logged advance walk found found_kept settle settle_over
returns_found = (refl, refl, refl)

pub points_kept : kept_in row point_after_loss (named 65 ∷ named 66 ∷ []) ≡ row_kept
unfolding crc_bit crc_bits crc_octet crc_from fits lowest covers both next_up struck connected empty_lines line_to with_line_to laden put_all put_checkps no_points point_at with_point image_at same_name place_of place_for home_in is_last is_away copy_at with_copy_at slot_at piece_at put_piece leaves set_slots cabinet with_cabinet outgoing with_outgoing line with_line rows_of of_rows with_sound some working normal_ones laden_ones quiet recovering_ones forget_trips is_crashed sum version_of load broadcast join cut_if_all take_checkp resume_with commit adopt recover_with raise enter_error hear find_link_fault pass_reports leave mark_failed alarm_to end_recovery note_lost receive_normal receive_checkp receive_resume receive_recover receive_fault sent send_step note_step begin_step delivered deliver_step write_piece write_step report_saved commit_if_all saved_step fetch_piece fetch_step report_restored end_if_all come_back_if_away restored_step fail_step report_unsure decide_if_all unsure_step step images_kept take_point returned return_to operate operate_all kept_in settle settle_over
points_kept = refl

pub store_set : store_in row row_returned ≡ row_store
unfolding crc_bit crc_bits crc_octet crc_from fits lowest covers both struck connected empty_lines line_to with_line_to laden put_all put_checkps no_points point_at with_point image_at same_name place_of place_for home_in is_last is_away copy_at with_copy_at slot_at piece_at put_piece leaves set_slots cabinet with_cabinet outgoing with_outgoing line with_line rows_of of_rows with_sound some working normal_ones laden_ones quiet recovering_ones forget_trips is_crashed sum version_of load broadcast join cut_if_all take_checkp resume_with commit adopt recover_with raise enter_error hear find_link_fault pass_reports leave mark_failed alarm_to end_recovery note_lost receive_normal receive_checkp receive_resume receive_recover receive_fault sent send_step note_step begin_step delivered deliver_step write_piece write_step report_saved commit_if_all saved_step fetch_piece fetch_step report_restored end_if_all come_back_if_away restored_step fail_step step images_kept take_point returned return_to operate operate_all store_in settle settle_over
store_set = refl

pub all_answered : answers_found asked ≡ map (λ (q : Asked). q.answer) asked
unfolding crc_bit crc_bits crc_octet crc_from fits lowest covers both struck connected empty_lines line_to with_line_to laden put_all put_checkps no_points point_at with_point image_at same_name place_of place_for home_in is_last is_away copy_at with_copy_at slot_at piece_at put_piece leaves set_slots cabinet with_cabinet outgoing with_outgoing line with_line rows_of of_rows with_sound some working normal_ones laden_ones quiet recovering_ones is_crashed sum version_of load broadcast join cut_if_all take_checkp resume_with commit adopt recover_with raise enter_error hear find_link_fault pass_reports leave mark_failed alarm_to end_recovery note_lost receive_normal receive_checkp receive_resume receive_recover receive_fault sent send_step note_step begin_step delivered deliver_step write_piece write_step report_saved commit_if_all saved_step fetch_piece fetch_step report_restored end_if_all come_back_if_away restored_step fail_step step images_kept take_point returned return_to operate crash_all answers_to answers_found settle settle_over
all_answered = refl

pub text_printed : small_evening ≡ small_printed
unfolding crc_bit crc_bits crc_octet crc_from fits lowest covers both struck connected empty_lines line_to with_line_to laden put_all put_checkps no_points point_at with_point image_at same_name place_of place_for home_in is_last is_away copy_at with_copy_at slot_at piece_at put_piece leaves set_slots cabinet with_cabinet outgoing with_outgoing line with_line rows_of of_rows with_sound some working normal_ones laden_ones quiet recovering_ones is_crashed sum version_of load broadcast join cut_if_all take_checkp resume_with commit adopt recover_with raise enter_error hear find_link_fault pass_reports leave mark_failed alarm_to end_recovery note_lost receive_normal receive_checkp receive_resume receive_recover receive_fault sent send_step note_step begin_step delivered deliver_step write_piece write_step report_saved commit_if_all saved_step fetch_piece fetch_step report_restored end_if_all come_back_if_away restored_step fail_step step images_kept take_point returned return_to operate operate_all answers_to parts plan_text evening small_evening settle settle_over
text_printed = refl
