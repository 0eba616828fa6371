-- The runs and the cases of `specs/Outlets`, by computation.
use mathlib.Core.Path.{◌≡◌, refl}
use mathlib.Core.List.{◌++◌, map}
use Rattle.crc.specs.Crc.{crc_bit, crc_bits, crc_octet, crc_from}
use Rattle.marks.specs.Marks.{lowest, covers, both}
use Rattle.marks.specs.Reach.{connected}
use Rattle.packet.specs.Packet.{fits, shifted, pattern_right, hurt_by}
use Rattle.outgoing.specs.Lines.{empty_lines, line_to, with_line_to, laden, put_all, put_checkps}
use Rattle.points.specs.Points.{no_points, point_at, with_point, image_at, same_name, place_of, place_for}
use Rattle.store.specs.Store.{home_in, is_last, is_away, copy_at, with_copy_at, slot_at, piece_at, put_piece, leaves, set_slots}
use Rattle.group.specs.Group.{cabinet, with_cabinet, outgoing, with_outgoing, line, with_line, rows_of, of_rows, some, working, normal_ones, laden_ones, quiet, recovering_ones, forget_trips, is_crashed, sum, settle, settle_over}
use Rattle.load.specs.Load.{version_of, load}
use Rattle.protocol.specs.Moves.{broadcast, join, cut_if_all, take_checkp, resume_with, commit, adopt, recover_with, raise, enter_error, hear, mark_failed, alarm_to, end_recovery, note_lost, pass_reports, leave}
use Rattle.protocol.specs.Receive.{receive_normal, receive_checkp, receive_resume, receive_recover, receive_fault}
use Rattle.protocol.specs.Kinds.{sent, send_step, note_step, begin_step, delivered, deliver_step, write_piece, write_step, report_saved, commit_if_all, saved_step, fetch_piece, fetch_step, report_restored, end_if_all, restored_step, fail_step, hurt, damage_step, come_back_if_away}
use Rattle.protocol.specs.Entry.{step, step_all, answers_from}
use Rattle.protocol.specs.Listing.{parts, run_lines, listing}
use Rattle.protocol.specs.Points.{images_kept, take_point, returned, return_to}
use Rattle.protocol.specs.Evening.{operate, operate_all}
use Rattle.protocol.specs.History.{upd, logged, advance}
use Rattle.protocol.specs.Marked.{Case, found as found_in}
use Rattle.protocol.specs.Examples.{walk, found}
use Rattle.protocol.specs.Outlets.{both_outlets, both_outlets_finds, pair_images, pair_holds, outlet_cases}

pub outlets_found : found both_outlets ≡ both_outlets_finds
unfolding crc_bit crc_bits crc_octet crc_from fits lowest covers both connected empty_lines line_to with_line_to put_all put_checkps home_in is_last is_away copy_at with_copy_at slot_at piece_at put_piece leaves cabinet with_cabinet outgoing with_outgoing line with_line rows_of of_rows some working recovering_ones forget_trips is_crashed sum version_of load broadcast join cut_if_all take_checkp resume_with commit adopt recover_with raise enter_error hear pass_reports leave mark_failed alarm_to end_recovery note_lost receive_normal receive_checkp receive_resume receive_recover receive_fault sent send_step note_step begin_step delivered deliver_step write_piece write_step report_saved commit_if_all saved_step fetch_piece fetch_step report_restored end_if_all come_back_if_away restored_step fail_step step operate upd logged advance walk found settle settle_over
outlets_found = refl

pub outlets_returned : pair_holds ≡ pair_images ++ pair_images ++ pair_images
unfolding crc_bit crc_bits crc_octet crc_from fits lowest covers both connected empty_lines line_to with_line_to laden put_all put_checkps no_points point_at with_point image_at same_name place_of place_for home_in copy_at with_copy_at slot_at piece_at put_piece set_slots cabinet with_cabinet outgoing with_outgoing line with_line rows_of of_rows some working normal_ones laden_ones quiet forget_trips is_crashed sum version_of load broadcast join cut_if_all take_checkp resume_with commit adopt receive_normal receive_checkp receive_resume sent send_step begin_step delivered deliver_step write_piece write_step report_saved commit_if_all saved_step step images_kept take_point returned return_to operate operate_all pair_holds
outlets_returned = refl

pub outlet_cases_lem : map (λ (c : Case). found_in c.asked) outlet_cases ≡ map (λ (c : Case). c.expected) outlet_cases
unfolding crc_bit crc_bits crc_octet crc_from fits shifted pattern_right hurt_by lowest covers both connected empty_lines line_to with_line_to put_checkps cabinet with_cabinet outgoing with_outgoing line with_line rows_of of_rows some working is_crashed sum version_of load join cut_if_all receive_normal sent send_step note_step begin_step delivered deliver_step recovering_ones hurt damage_step step step_all answers_from parts run_lines listing found_in
outlet_cases_lem = refl
