-- The runs and cases that the wrong definitions of must-fail/ are refused by, by computation. All runs and cases are in the crate `runs`:
-- here stand as few as do, since every edit computes them again.
use mathlib.Core.Path.{◌≡◌, refl}
use mathlib.Core.List.{[], ◌∷◌, map, List}
use mathlib.Core.Bool.{false}
use Rattle.crc.specs.Crc.{crc_bit, crc_bits, crc_octet, crc_from}
use Rattle.marks.specs.Marks.{lowest, covers, both, next_up, either, without}
use Rattle.marks.specs.Reach.{struck, connected}
use Rattle.packet.specs.Packet.{fits, shifted, pattern_right, hurt_by, is_empty, own_check}
use Rattle.outgoing.specs.Lines.{empty_lines, line_to, with_line_to, put_all, put_checkps, laden}
use Rattle.store.specs.Store.{home_in, is_last, is_away, copy_at, with_copy_at, slot_at, piece_at, put_piece, leaves, set_slots, homed_at, comes_back}
use Rattle.group.specs.Group.{cabinet, with_cabinet, outgoing, with_outgoing, line, with_line, rows_of, of_rows, with_sound, some, working, recovering_ones, forget_trips, is_crashed, sum, settle, settle_over, normal_ones, laden_ones, quiet, crash_all, trips_of, with_trips_of}
use Rattle.load.specs.Load.{version_of, load}
use Rattle.points.specs.Points.{no_points, point_at, with_point, image_at, same_name, place_of, place_for}
use Rattle.line.specs.Line.{oldest}
use Rattle.protocol.specs.Moves.{broadcast, join, cut_if_all, take_checkp, resume_with, commit, adopt, recover_with, raise, enter_error, hear, find_link_fault, mark_failed, alarm_to, end_recovery, note_lost, trip, pass_reports, leave, drop_reports, come_back}
use Rattle.protocol.specs.Receive.{receive_normal, receive_checkp, receive_resume, receive_recover, receive_fault, receive_invalid}
use Rattle.protocol.specs.Kinds.{sent, send_step, note_step, begin_step, delivered, deliver_step, write_piece, write_step, report_saved, commit_if_all, saved_step, fetch_piece, fetch_step, report_restored, end_if_all, restored_step, fail_step, hurt, damage_step, report_unsure, decide_if_all, unsure_step, lost, lose_step, trip_once, trip_step, come_back_if_away}
use Rattle.protocol.specs.Entry.{step, step_all, answers_from}
use Rattle.protocol.specs.Evening.{operate, operate_all, answers_to, plan_text, evening}
use Rattle.protocol.specs.History.{upd, logged, advance, run}
use Rattle.protocol.specs.Examples.{walk, found, restored_before, restored_before_finds, row}
use Rattle.protocol.specs.Listing.{parts, run_lines, listing}
use Rattle.protocol.specs.Points.{images_kept, take_point, returned, return_to}
use Rattle.protocol.specs.Returns.{named, kept_in, return_stays, return_stays_finds, point_after_loss, row_kept, found_kept, return_between, return_between_finds, star_kept, Asked, asked, answers_found, small_evening, small_printed}
use Rattle.protocol.specs.Marked.{Case, found as found_in}
use Rattle.protocol.specs.Outlets.{outlet_cases}
use Rattle.protocol.specs.Tempting.{link_parts, answered, AsWritten, hole_late, old_resume, struck_at_receiver, link_first, in_order}
use Rattle.protocol.specs.Losses.{loss_cases, HurtNoted}
use Rattle.protocol.specs.Trips.{trip_passed_over, trip_passed_over_finds, leads, counts, trip_cases}
use Rattle.protocol.specs.Wait.{unsure_ones}
use Rattle.protocol.specs.Unsure.{WaitsAsked, too_late, heard_between, other_place}
use Rattle.protocol.specs.OwnChecks.{left, logs_after, HurtLogged, Leaves, fitting_taken, amount_hurt}
use Rattle.protocol.specs.Word.{which_word, account}
use Rattle.protocol.specs.Words.{watched, found_from, EntriesNoted, AsTold, led_in_begin, unfinished_in_begin, normal_then_decided}
use Rattle.protocol.specs.Workshop.{notes_after, PartyNoted, watch, watch_parts, compared, twins_brief, twins_brief_compared}
use Rattle.protocol.specs.Partners.{look, seen, AsSeen, slots_taken, report_dropped, both_written, point_without_home, old_report}

-- the answer to every record
pub answers : AsWritten hole_late × AsWritten old_resume × AsWritten struck_at_receiver × AsWritten link_first × AsWritten in_order × AsWritten leads
    × AsWritten counts × AsWritten too_late × AsWritten heard_between × AsWritten other_place
unfolding crc_bit crc_bits crc_octet crc_from fits shifted pattern_right hurt_by lowest covers both next_up struck connected empty_lines line_to with_line_to put_all put_checkps home_in is_last is_away copy_at with_copy_at slot_at piece_at put_piece leaves cabinet with_cabinet outgoing with_outgoing line with_line rows_of of_rows with_sound some working recovering_ones forget_trips is_crashed crash_all sum version_of load broadcast join cut_if_all take_checkp resume_with commit adopt recover_with raise enter_error hear find_link_fault pass_reports leave mark_failed alarm_to end_recovery note_lost receive_normal receive_checkp receive_resume receive_recover receive_fault receive_invalid sent send_step note_step begin_step delivered deliver_step write_piece write_step report_saved commit_if_all saved_step fetch_piece fetch_step report_restored end_if_all come_back_if_away restored_step fail_step hurt damage_step report_unsure decide_if_all unsure_step step answers_from answered settle settle_over trips_of with_trips_of trip trip_once trip_step
answers = (refl, refl, refl, refl, refl, refl, refl, refl, refl, refl)

-- whole recoveries
pub recoveries : (found restored_before ≡ restored_before_finds) × (found trip_passed_over ≡ trip_passed_over_finds) × (found return_stays ≡ return_stays_finds)
    × (found_kept return_between (named 65 ∷ named 66 ∷ named 67 ∷ []) ≡ (return_between_finds, star_kept))
unfolding crc_bit crc_bits crc_octet crc_from fits shifted pattern_right hurt_by lowest covers both next_up struck connected empty_lines line_to with_line_to put_all put_checkps home_in is_last is_away copy_at with_copy_at slot_at piece_at put_piece leaves set_slots cabinet with_cabinet outgoing with_outgoing line with_line rows_of of_rows with_sound some working recovering_ones forget_trips is_crashed sum version_of load broadcast join cut_if_all take_checkp resume_with commit adopt recover_with raise enter_error hear find_link_fault pass_reports leave mark_failed alarm_to end_recovery note_lost receive_normal receive_checkp receive_resume receive_recover receive_fault sent send_step note_step begin_step delivered deliver_step write_piece write_step report_saved commit_if_all saved_step fetch_piece fetch_step report_restored end_if_all come_back_if_away restored_step fail_step hurt damage_step report_unsure decide_if_all unsure_step step operate upd logged advance walk found settle settle_over trips_of with_trips_of trip trip_once trip_step laden no_points point_at with_point image_at same_name place_of place_for normal_ones laden_ones quiet images_kept take_point returned return_to found_kept
recoveries = (refl, refl, refl, refl)

-- points and plans
pub planned : (kept_in row point_after_loss (named 65 ∷ named 66 ∷ []) ≡ row_kept) × (answers_found asked ≡ map (λ (q : Asked). q.answer) asked)
    × (small_evening ≡ small_printed)
unfolding crc_bit crc_bits crc_octet crc_from fits lowest covers both next_up struck connected empty_lines line_to with_line_to laden put_all put_checkps no_points point_at with_point image_at same_name place_of place_for home_in is_last is_away copy_at with_copy_at slot_at piece_at put_piece leaves set_slots cabinet with_cabinet outgoing with_outgoing line with_line rows_of of_rows with_sound some working normal_ones laden_ones quiet recovering_ones forget_trips is_crashed sum version_of load broadcast join cut_if_all take_checkp resume_with commit adopt recover_with raise enter_error hear find_link_fault pass_reports leave mark_failed alarm_to end_recovery note_lost receive_normal receive_checkp receive_resume receive_recover receive_fault sent send_step note_step begin_step delivered deliver_step write_piece write_step report_saved commit_if_all saved_step fetch_piece fetch_step report_restored end_if_all come_back_if_away restored_step fail_step report_unsure decide_if_all unsure_step step images_kept take_point returned return_to operate operate_all kept_in settle settle_over crash_all answers_to answers_found parts plan_text evening small_evening
planned = (refl, refl, refl)

-- cases
abbrev AsExpected : List Case → Type 0
AsExpected cs = map (λ (c : Case). found_in c.asked) cs ≡ map (λ (c : Case). c.expected) cs

pub cases : AsExpected outlet_cases × AsExpected loss_cases × AsExpected trip_cases
unfolding crc_bit crc_bits crc_octet crc_from fits shifted pattern_right hurt_by lowest covers both connected empty_lines line_to with_line_to put_checkps home_in is_last is_away copy_at with_copy_at slot_at piece_at put_piece leaves cabinet with_cabinet outgoing with_outgoing line with_line rows_of of_rows some working is_crashed sum version_of load join cut_if_all receive_normal sent send_step note_step begin_step delivered deliver_step recovering_ones hurt damage_step step step_all answers_from parts run_lines listing found_in struck put_all with_sound crash_all broadcast take_checkp resume_with recover_with raise enter_error hear find_link_fault pass_reports leave mark_failed alarm_to end_recovery note_lost receive_checkp receive_resume receive_recover receive_fault fetch_piece fetch_step report_restored end_if_all come_back_if_away restored_step fail_step lost lose_step settle settle_over next_up trips_of with_trips_of forget_trips commit adopt trip receive_invalid write_piece write_step report_saved commit_if_all saved_step trip_once trip_step report_unsure decide_if_all unsure_step
cases = (refl, refl, refl)

-- what a packet that is hurt leaves, and what the history notes of a hurt
pub hurts : Leaves fitting_taken × Leaves amount_hurt × HurtLogged × HurtNoted
unfolding crc_bit crc_bits crc_octet crc_from own_check fits shifted pattern_right hurt_by lowest covers both struck connected empty_lines line_to with_line_to put_all put_checkps home_in is_last copy_at with_copy_at slot_at piece_at put_piece leaves cabinet with_cabinet outgoing with_outgoing line with_line rows_of of_rows with_sound some working recovering_ones forget_trips is_crashed crash_all sum version_of load broadcast join cut_if_all take_checkp resume_with commit recover_with raise enter_error find_link_fault pass_reports leave mark_failed alarm_to receive_normal receive_checkp receive_invalid sent send_step begin_step delivered deliver_step write_piece write_step report_saved commit_if_all saved_step fail_step hurt damage_step step step_all left settle upd logged advance run logs_after lost lose_step
hurts = (refl, refl, (refl, refl, refl), ((refl, refl, refl, refl, refl, refl), (refl, refl, refl, refl, refl, refl)))

-- where the wait of document 01 would be taken
pub waits : WaitsAsked
unfolding crc_bit crc_bits crc_octet crc_from fits lowest covers both connected empty_lines line_to with_line_to put_all put_checkps home_in is_last copy_at with_copy_at slot_at piece_at put_piece leaves cabinet with_cabinet outgoing with_outgoing line with_line rows_of of_rows some working recovering_ones trips_of with_trips_of forget_trips is_crashed sum version_of load broadcast join cut_if_all take_checkp resume_with commit adopt recover_with raise enter_error hear pass_reports leave mark_failed trip alarm_to receive_normal receive_checkp receive_resume receive_fault sent send_step begin_step delivered deliver_step write_piece write_step report_saved commit_if_all saved_step fail_step trip_once trip_step unsure_ones step step_all settle
waits = (refl, refl, refl)

-- what a crash leaves on a line
pub packet_stays : is_empty (oldest (line (step_all (load link_parts.file).group link_parts.records) 0 1)) ≡ false
unfolding shifted pattern_right hurt_by lowest covers both struck connected empty_lines line_to with_line_to put_checkps cabinet with_cabinet outgoing with_outgoing line with_line rows_of of_rows some working recovering_ones is_crashed crash_all sum version_of load join cut_if_all find_link_fault receive_invalid begin_step delivered deliver_step hurt damage_step step step_all
packet_stays = refl

-- which word settled it, and what the history notes of an entry into error
pub told : AsTold led_in_begin × AsTold unfinished_in_begin × AsTold normal_then_decided × EntriesNoted
unfolding crc_bit crc_bits crc_octet crc_from fits shifted pattern_right lowest covers both next_up struck connected empty_lines line_to with_line_to put_all put_checkps home_in is_last is_away copy_at with_copy_at slot_at piece_at put_piece leaves cabinet with_cabinet outgoing with_outgoing line with_line rows_of of_rows with_sound some working recovering_ones trips_of with_trips_of forget_trips is_crashed crash_all sum version_of load broadcast join cut_if_all take_checkp resume_with commit adopt recover_with raise enter_error hear find_link_fault pass_reports leave mark_failed trip alarm_to end_recovery note_lost receive_normal receive_checkp receive_resume receive_recover receive_fault receive_invalid sent send_step begin_step delivered deliver_step write_piece write_step report_saved commit_if_all saved_step fetch_piece fetch_step report_restored end_if_all come_back_if_away restored_step fail_step hurt damage_step trip_once trip_step report_unsure decide_if_all unsure_step step which_word watched found_from settle settle_over advance account
told = (refl, refl, refl, refl)

-- what the amounts of workshop sends leave alone, and of which party a damaged packet is noted
pub parted : (compared twins_brief ≡ twins_brief_compared) × PartyNoted
unfolding crc_bit crc_bits crc_octet crc_from fits shifted pattern_right hurt_by lowest covers both struck connected empty_lines line_to with_line_to no_points point_at image_at same_name home_in copy_at slot_at cabinet with_cabinet outgoing with_outgoing line with_line rows_of of_rows some working recovering_ones is_crashed crash_all sum version_of load find_link_fault receive_normal sent send_step delivered deliver_step hurt damage_step lost lose_step step operate upd logged advance run which_word notes_after watch watch_parts compared
parted = (refl, (refl, refl, refl, refl))

-- a store and its partner: what is held and owed at the end of runs, and a report that nobody owes
pub partnered : AsSeen slots_taken × AsSeen report_dropped × AsSeen both_written × AsSeen point_without_home × AsWritten old_report
unfolding crc_bit crc_bits crc_octet crc_from fits lowest covers both next_up either without connected empty_lines line_to with_line_to laden put_all put_checkps no_points point_at with_point image_at same_name place_of place_for home_in is_last is_away homed_at copy_at with_copy_at slot_at piece_at put_piece leaves comes_back set_slots cabinet with_cabinet outgoing with_outgoing line with_line rows_of of_rows some working normal_ones laden_ones quiet recovering_ones trips_of with_trips_of forget_trips is_crashed sum version_of load broadcast join cut_if_all take_checkp resume_with commit adopt recover_with raise enter_error hear pass_reports leave drop_reports come_back mark_failed trip alarm_to end_recovery note_lost receive_normal receive_checkp receive_resume receive_recover receive_fault sent send_step note_step begin_step delivered deliver_step write_piece write_step report_saved commit_if_all saved_step fetch_piece fetch_step report_restored come_back_if_away end_if_all restored_step fail_step trip_once trip_step step images_kept take_point returned return_to operate settle settle_over look seen report_unsure decide_if_all unsure_step answers_from answered
partnered = (refl, refl, refl, refl, refl)
