-- The runs and the cases of `specs/Losses`, by computation.
use mathlib.Core.Path.{◌≡◌, refl}
use mathlib.Core.List.{map}
use Rattle.crc.specs.Crc.{crc_bit, crc_bits, crc_octet, crc_from}
use Rattle.marks.specs.Marks.{lowest, covers, both}
use Rattle.marks.specs.Reach.{struck, connected}
use Rattle.packet.specs.declared.Packet.TheVariants.{Normal as NormalPacket}
use Rattle.packet.specs.Packet.{fits, shifted, pattern_right, hurt_by}
use Rattle.outgoing.specs.Lines.{empty_lines, line_to, with_line_to, put_all, put_checkps}
use Rattle.store.specs.Store.{home_in, is_last, is_away, copy_at, with_copy_at, slot_at, piece_at, put_piece, leaves}
use Rattle.group.specs.Group.{cabinet, with_cabinet, outgoing, with_outgoing, line, with_line, rows_of, of_rows, with_sound, some, working, recovering_ones, forget_trips, is_crashed, crash_all, sum, settle, settle_over}
use Rattle.load.specs.Load.{version_of, load}
use Rattle.protocol.specs.Moves.{broadcast, join, cut_if_all, take_checkp, resume_with, commit, adopt, recover_with, raise, enter_error, hear, find_link_fault, mark_failed, alarm_to, end_recovery, note_lost, pass_reports, leave}
use Rattle.protocol.specs.Receive.{receive_normal, receive_checkp, receive_resume, receive_recover, receive_fault}
use Rattle.protocol.specs.Kinds.{sent, send_step, note_step, begin_step, delivered, deliver_step, write_piece, write_step, report_saved, commit_if_all, saved_step, fetch_piece, fetch_step, report_restored, end_if_all, restored_step, fail_step, hurt, damage_step, lost, lose_step, come_back_if_away}
use Rattle.protocol.specs.Entry.{step, step_all}
use Rattle.protocol.specs.Evening.{operate}
use Rattle.protocol.specs.History.{upd, logged, advance, run}
use Rattle.protocol.specs.Marked.{Case, found as found_in}
use Rattle.protocol.specs.Examples.{to_a, walk, found}
use Rattle.protocol.specs.Losses.{CrcUnmoved, TwoAndOne, silent_loss, silent_loss_finds, loss_cases, packet_after_crash, HurtNoted}

pub crc_unmoved : CrcUnmoved
unfolding crc_bit crc_bits crc_octet crc_from
crc_unmoved = (refl, refl)

pub loss_found : found silent_loss ≡ silent_loss_finds
unfolding crc_bit crc_bits crc_octet crc_from fits lowest covers both struck connected empty_lines line_to with_line_to put_all put_checkps home_in is_away copy_at with_copy_at slot_at piece_at put_piece cabinet with_cabinet outgoing with_outgoing line with_line rows_of of_rows with_sound some working recovering_ones forget_trips is_crashed sum version_of load broadcast join cut_if_all take_checkp resume_with commit adopt recover_with raise enter_error hear find_link_fault end_recovery note_lost receive_normal receive_checkp receive_resume receive_recover receive_fault sent send_step note_step begin_step delivered deliver_step write_piece write_step report_saved commit_if_all saved_step fetch_piece fetch_step report_restored end_if_all come_back_if_away restored_step lost lose_step step operate upd logged advance walk found settle settle_over
loss_found = refl

pub two_and_one : TwoAndOne
unfolding crc_bit crc_bits crc_octet crc_from fits lowest covers both connected empty_lines line_to with_line_to put_checkps cabinet with_cabinet outgoing with_outgoing line with_line rows_of of_rows some working recovering_ones is_crashed sum version_of load join cut_if_all receive_normal sent send_step begin_step delivered deliver_step lost lose_step step step_all
two_and_one = (refl, refl)

pub loss_cases_lem : map (λ (c : Case). found_in c.asked) loss_cases ≡ map (λ (c : Case). c.expected) loss_cases
unfolding crc_bit crc_bits crc_octet crc_from fits shifted pattern_right hurt_by lowest covers both struck connected empty_lines line_to with_line_to put_all put_checkps home_in is_last is_away copy_at slot_at leaves cabinet with_cabinet outgoing with_outgoing line with_line rows_of of_rows with_sound some working recovering_ones is_crashed crash_all sum version_of load broadcast join cut_if_all take_checkp resume_with recover_with raise enter_error hear find_link_fault pass_reports leave mark_failed alarm_to end_recovery note_lost receive_normal receive_checkp receive_resume receive_recover receive_fault sent send_step begin_step delivered deliver_step fetch_piece fetch_step report_restored end_if_all come_back_if_away restored_step fail_step hurt damage_step lost lose_step step step_all found_in settle settle_over
loss_cases_lem = refl

-- "crash .. does nothing else"
pub crash_loses_nothing : packet_after_crash ≡ NormalPacket (to_a 5)
unfolding crc_bit crc_bits crc_octet crc_from lowest covers both struck connected empty_lines line_to with_line_to put_all is_last leaves cabinet with_cabinet outgoing with_outgoing line with_line rows_of of_rows some working recovering_ones is_crashed crash_all sum version_of load broadcast recover_with raise enter_error pass_reports leave mark_failed alarm_to sent send_step fail_step lost lose_step step step_all settle
crash_loses_nothing = refl

pub hurt_noted : HurtNoted
unfolding crc_bit crc_bits crc_octet crc_from shifted pattern_right hurt_by lowest covers both connected empty_lines line_to with_line_to put_checkps cabinet with_cabinet outgoing with_outgoing line with_line rows_of of_rows some working recovering_ones is_crashed sum version_of load join cut_if_all sent send_step begin_step hurt damage_step lost lose_step step upd logged advance run
hurt_noted = ((refl, refl, refl, refl, refl, refl), (refl, refl, refl, refl, refl, refl))
