-- The pairs of `specs/Instances`, by computation.
use mathlib.Core.Path.{refl}
use Rattle.crc.specs.Crc.{crc_bit, crc_bits, crc_octet, crc_from}
use Rattle.marks.specs.Marks.{lowest, covers, both, next_up, either, without}
use Rattle.marks.specs.Reach.{struck, connected}
use Rattle.packet.specs.Packet.{own_check, fits, shifted, pattern_right, hurt_by}
use Rattle.outgoing.specs.Lines.{empty_lines, line_to, with_line_to, laden, put_all, put_checkps}
use Rattle.points.specs.Points.{no_points, point_at, with_point, image_at, same_name, place_of, place_for}
use Rattle.store.specs.Store.{home_in, is_last, is_away, homed_at, copy_at, with_copy_at, slot_at, piece_at, put_piece, leaves, comes_back, set_slots, blank_slots}
use Rattle.group.specs.Group.{cabinet, with_cabinet, outgoing, with_outgoing, line, with_line, rows_of, of_rows, with_sound, some, working, normal_ones, laden_ones, quiet, recovering_ones, trips_of, with_trips_of, forget_trips, is_crashed, sum, settle, settle_over}
use Rattle.load.specs.Load.{version_of, load}
use Rattle.protocol.specs.Moves.{broadcast, join, cut_if_all, take_checkp, resume_with, commit, adopt, recover_with, raise, enter_error, hear, find_link_fault, trip, alarm_to, end_recovery, note_lost, pass_reports, leave, drop_reports, come_back}
use Rattle.protocol.specs.Receive.{receive_normal, receive_checkp, receive_resume, receive_recover, receive_fault}
use Rattle.protocol.specs.Kinds.{sent, send_step, begin_step, delivered, deliver_step, write_piece, write_step, report_saved, commit_if_all, saved_step, fetch_piece, fetch_step, report_restored, end_if_all, restored_step, hurt, damage_step, lost, lose_step, trip_once, trip_step, come_back_if_away}
use Rattle.protocol.specs.Entry.{step}
use Rattle.protocol.specs.Points.{images_kept, take_point, returned, return_to}
use Rattle.protocol.specs.Evening.{operate, operate_all, answers_to}
use Rattle.pairs.specs.Covered.{cover_from, cover_image, cover_payload, cover, cover_points}
use Rattle.pairs.specs.Instances.{ShortPair, StoredPair}

pub short_pair : ShortPair
unfolding cover_from cover_image cover_payload cover cover_points operate_all answers_to crc_bit crc_bits crc_octet crc_from own_check fits shifted pattern_right hurt_by lowest covers both next_up struck connected empty_lines line_to with_line_to laden put_all put_checkps no_points point_at with_point image_at same_name place_of place_for cabinet with_cabinet outgoing with_outgoing line with_line blank_slots rows_of of_rows with_sound some working normal_ones laden_ones quiet recovering_ones trips_of with_trips_of forget_trips is_crashed sum version_of load broadcast join cut_if_all take_checkp resume_with commit adopt recover_with raise enter_error hear find_link_fault trip alarm_to end_recovery note_lost receive_normal receive_checkp receive_resume receive_recover receive_fault sent send_step begin_step delivered deliver_step write_piece write_step report_saved commit_if_all saved_step fetch_piece fetch_step report_restored end_if_all restored_step hurt damage_step lost lose_step trip_once trip_step step images_kept take_point returned return_to operate settle settle_over home_in copy_at slot_at with_copy_at piece_at put_piece is_last leaves either pass_reports leave is_away homed_at comes_back without drop_reports come_back come_back_if_away set_slots
short_pair = (refl, refl, refl, refl, refl, refl)

pub stored_pair : StoredPair
unfolding cover_from cover_image cover_payload cover cover_points operate_all answers_to crc_bit crc_bits crc_octet crc_from own_check fits shifted pattern_right hurt_by lowest covers both next_up struck connected empty_lines line_to with_line_to laden put_all put_checkps no_points point_at with_point image_at same_name place_of place_for cabinet with_cabinet outgoing with_outgoing line with_line blank_slots rows_of of_rows with_sound some working normal_ones laden_ones quiet recovering_ones trips_of with_trips_of forget_trips is_crashed sum version_of load broadcast join cut_if_all take_checkp resume_with commit adopt recover_with raise enter_error hear find_link_fault trip alarm_to end_recovery note_lost receive_normal receive_checkp receive_resume receive_recover receive_fault sent send_step begin_step delivered deliver_step write_piece write_step report_saved commit_if_all saved_step fetch_piece fetch_step report_restored end_if_all restored_step hurt damage_step lost lose_step trip_once trip_step step images_kept take_point returned return_to operate settle settle_over home_in copy_at slot_at with_copy_at piece_at put_piece is_last leaves either pass_reports leave is_away homed_at comes_back without drop_reports come_back come_back_if_away set_slots
stored_pair = (refl, refl, refl, refl)
