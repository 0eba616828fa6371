-- The runs and the cases of `specs/OwnChecks`, by computation.
use mathlib.Core.Path.{◌≡◌, refl}
use mathlib.Core.List.{map}
use Rattle.crc.specs.Crc.{crc_bit, crc_bits, crc_octet, crc_from}
use Rattle.marks.specs.Marks.{lowest, covers, both}
use Rattle.marks.specs.Reach.{struck, connected}
use Rattle.packet.specs.Packet.{own_check, fits, shifted, pattern_right, hurt_by}
use Rattle.outgoing.specs.Lines.{empty_lines, line_to, with_line_to, put_all, put_checkps}
use Rattle.store.specs.Store.{home_in, is_last, is_away, copy_at, with_copy_at, slot_at, piece_at, put_piece, leaves}
use Rattle.group.specs.Group.{cabinet, with_cabinet, outgoing, with_outgoing, line, with_line, rows_of, of_rows, with_sound, some, working, recovering_ones, forget_trips, is_crashed, crash_all, sum, settle, settle_over}
use Rattle.load.specs.Load.{version_of, load}
use Rattle.protocol.specs.Moves.{broadcast, join, cut_if_all, take_checkp, resume_with, commit, adopt, recover_with, raise, enter_error, hear, find_link_fault, mark_failed, alarm_to, end_recovery, note_lost, pass_reports, leave}
use Rattle.protocol.specs.Receive.{receive_normal, receive_checkp, receive_resume, receive_recover, receive_fault, receive_invalid}
use Rattle.protocol.specs.Kinds.{sent, send_step, note_step, begin_step, delivered, deliver_step, write_piece, write_step, report_saved, commit_if_all, saved_step, fetch_piece, fetch_step, report_restored, end_if_all, restored_step, fail_step, hurt, damage_step, lost, lose_step, come_back_if_away}
use Rattle.protocol.specs.Entry.{step, step_all}
use Rattle.protocol.specs.Evening.{operate}
use Rattle.protocol.specs.History.{upd, logged, advance, run}
use Rattle.protocol.specs.Marked.{Case, found as found_in}
use Rattle.protocol.specs.Examples.{walk, found}
use Rattle.protocol.specs.OwnChecks.{OctetsSeen, hurt_on_taking, hurt_on_taking_finds, check_hurt_run, check_hurt_finds, hurt_until_checkp, hurt_until_checkp_finds, fitting_loss, fitting_loss_finds, RegistersAlike, TwoAndOneFitting, left, AllLeave, logs_after, HurtLogged, damage_cases, version_cases}

pub octets_seen : OctetsSeen
unfolding crc_bit crc_bits crc_octet crc_from own_check shifted hurt_by
octets_seen = (refl, refl, refl, refl, refl, refl, refl, refl, refl, refl)

pub own_checks_found : (found hurt_on_taking ≡ hurt_on_taking_finds) × (found check_hurt_run ≡ check_hurt_finds) × (found hurt_until_checkp ≡ hurt_until_checkp_finds) × (found fitting_loss ≡ fitting_loss_finds)
unfolding crc_bit crc_bits crc_octet crc_from own_check fits shifted pattern_right hurt_by lowest covers both struck connected empty_lines line_to with_line_to put_all put_checkps home_in is_away copy_at with_copy_at slot_at piece_at put_piece cabinet with_cabinet outgoing with_outgoing line with_line rows_of of_rows with_sound some working recovering_ones forget_trips is_crashed sum version_of load broadcast join cut_if_all take_checkp resume_with commit adopt recover_with raise enter_error hear find_link_fault end_recovery note_lost receive_normal receive_checkp receive_resume receive_recover receive_fault sent send_step note_step begin_step delivered deliver_step write_piece write_step report_saved commit_if_all saved_step fetch_piece fetch_step report_restored end_if_all come_back_if_away restored_step hurt damage_step lost lose_step step operate upd logged advance walk found settle settle_over
own_checks_found = (refl, refl, refl, refl)

pub registers_alike : RegistersAlike
unfolding crc_bit crc_bits crc_octet crc_from own_check
registers_alike = (refl, refl, refl, refl, refl, refl)

pub two_and_one_fitting : TwoAndOneFitting
unfolding crc_bit crc_bits crc_octet crc_from own_check fits lowest covers both connected empty_lines line_to with_line_to put_checkps cabinet with_cabinet outgoing with_outgoing line with_line rows_of of_rows some working recovering_ones is_crashed sum version_of load join cut_if_all receive_normal sent send_step begin_step delivered deliver_step lost lose_step step step_all
two_and_one_fitting = (refl, refl)

pub all_leave : AllLeave
unfolding crc_bit crc_bits crc_octet crc_from own_check fits shifted pattern_right hurt_by lowest covers both struck connected empty_lines line_to with_line_to put_all put_checkps home_in is_last copy_at with_copy_at slot_at piece_at put_piece leaves cabinet with_cabinet outgoing with_outgoing line with_line rows_of of_rows with_sound some working recovering_ones forget_trips is_crashed crash_all sum version_of load broadcast join cut_if_all take_checkp resume_with commit recover_with raise enter_error find_link_fault pass_reports leave mark_failed alarm_to receive_normal receive_checkp receive_invalid sent send_step begin_step delivered deliver_step write_piece write_step report_saved commit_if_all saved_step fail_step hurt damage_step step step_all left settle
all_leave = (refl, refl, refl, refl, refl, refl, refl, refl, refl)

pub hurt_logged : HurtLogged
unfolding crc_bit crc_bits crc_octet crc_from own_check fits shifted pattern_right hurt_by lowest covers both struck connected empty_lines line_to with_line_to put_all cabinet with_cabinet outgoing with_outgoing line with_line rows_of of_rows with_sound some working recovering_ones is_crashed sum version_of load broadcast recover_with raise enter_error find_link_fault receive_normal sent send_step delivered deliver_step hurt damage_step step upd logged advance run logs_after settle
hurt_logged = (refl, refl, refl)

pub damage_cases_lem : map (λ (c : Case). found_in c.asked) damage_cases ≡ map (λ (c : Case). c.expected) damage_cases
unfolding crc_bit crc_bits crc_octet crc_from own_check shifted pattern_right hurt_by lowest covers both connected empty_lines line_to with_line_to put_checkps cabinet with_cabinet outgoing with_outgoing line with_line rows_of of_rows some working recovering_ones is_crashed sum version_of load join cut_if_all sent send_step begin_step hurt damage_step lost lose_step step step_all found_in
damage_cases_lem = refl

pub version_cases_lem : map (λ (c : Case). found_in c.asked) version_cases ≡ map (λ (c : Case). c.expected) version_cases
unfolding lowest covers connected sum version_of load found_in
version_cases_lem = refl
