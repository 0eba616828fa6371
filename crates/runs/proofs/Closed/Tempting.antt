-- The runs of `specs/Tempting`, all of them at once, by computation.
use mathlib.Core.Path.{◌≡◌, refl}
use mathlib.Core.Bool.{false}
use mathlib.Core.List.{◌++◌}
use Rattle.crc.specs.Crc.{crc_bit, crc_bits, crc_octet, crc_from, crc}
use Rattle.marks.specs.Marks.{lowest, covers, both, next_up}
use Rattle.marks.specs.Reach.{struck, connected}
use Rattle.packet.specs.Packet.{octets_of, is_empty, fits, shifted, pattern_right, hurt_by}
use Rattle.line.specs.Line.{oldest}
use Rattle.outgoing.specs.Lines.{empty_lines, line_to, with_line_to, put_all, put_checkps}
use Rattle.store.specs.Store.{home_in, is_last, is_away, copy_at, with_copy_at, slot_at, piece_at, put_piece, leaves}
use Rattle.group.specs.Group.{cabinet, with_cabinet, outgoing, with_outgoing, line, with_line, rows_of, of_rows, with_sound, some, working, recovering_ones, forget_trips, is_crashed, crash_all, sum, settle, settle_over}
use Rattle.load.specs.Load.{version_of, load}
use Rattle.protocol.specs.Moves.{broadcast, join, cut_if_all, take_checkp, resume_with, commit, adopt, recover_with, raise, enter_error, hear, find_link_fault, mark_failed, alarm_to, end_recovery, note_lost, pass_reports, leave}
use Rattle.protocol.specs.Receive.{receive_normal, receive_checkp, receive_resume, receive_recover, receive_fault, receive_invalid}
use Rattle.protocol.specs.Kinds.{sent, send_step, note_step, begin_step, delivered, deliver_step, write_piece, write_step, report_saved, commit_if_all, saved_step, fetch_piece, fetch_step, report_restored, end_if_all, restored_step, fail_step, hurt, damage_step, report_unsure, decide_if_all, unsure_step, come_back_if_away}
use Rattle.protocol.specs.Entry.{step, step_all, answers_from}
use Rattle.protocol.specs.Examples.{to_a}
use Rattle.protocol.specs.Tempting.{link_parts, answered, AllAsWritten}

-- every record of every run gets the answer that the paper gives
pub runs_answered : AllAsWritten
unfolding crc_bit crc_bits crc_octet crc_from fits shifted pattern_right hurt_by lowest covers both next_up struck connected empty_lines line_to with_line_to put_all put_checkps home_in is_last is_away copy_at with_copy_at slot_at piece_at put_piece leaves cabinet with_cabinet outgoing with_outgoing line with_line rows_of of_rows with_sound some working recovering_ones forget_trips is_crashed crash_all sum version_of load broadcast join cut_if_all take_checkp resume_with commit adopt recover_with raise enter_error hear find_link_fault pass_reports leave mark_failed alarm_to end_recovery note_lost receive_normal receive_checkp receive_resume receive_recover receive_fault receive_invalid sent send_step note_step begin_step delivered deliver_step write_piece write_step report_saved commit_if_all saved_step fetch_piece fetch_step report_restored end_if_all come_back_if_away restored_step fail_step hurt damage_step report_unsure decide_if_all unsure_step step answers_from answered settle settle_over
runs_answered = (refl, refl, refl, refl, refl, refl, refl, refl, refl, refl, refl, refl, refl, refl, refl, refl, refl, refl, refl, refl, refl, refl, refl, refl, refl, refl, refl)

-- what `hurt_twice` asks for would not be seen by a comparison
pub same_value : crc (octets_of (to_a 30) ++ octets_of (to_a 20)) ≡ crc (octets_of (to_a 31) ++ octets_of (to_a 13093))
unfolding crc_bit crc_bits crc_octet crc_from
same_value = refl

-- "crash .. does nothing else": the packet whose delivery crashes the group stays in its line
pub packet_stays : is_empty (oldest (line (step_all (load link_parts.file).group link_parts.records) 0 1)) ≡ false
unfolding shifted pattern_right hurt_by lowest covers both struck connected empty_lines line_to with_line_to put_checkps cabinet with_cabinet outgoing with_outgoing line with_line rows_of of_rows some working recovering_ones is_crashed crash_all sum version_of load join cut_if_all find_link_fault receive_invalid begin_step delivered deliver_step hurt damage_step step step_all
packet_stays = refl
