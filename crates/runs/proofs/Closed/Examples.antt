-- The whole recoveries of `specs/Examples`, by computation.
use mathlib.Core.Path.{◌≡◌, refl}
use Rattle.crc.specs.Crc.{crc_bit, crc_bits, crc_octet, crc_from}
use Rattle.marks.specs.Marks.{lowest, covers, both, next_up}
use Rattle.marks.specs.Reach.{struck, connected}
use Rattle.packet.specs.Packet.{fits, shifted, pattern_right, hurt_by}
use Rattle.outgoing.specs.Lines.{empty_lines, line_to, with_line_to, put_all, put_checkps}
use Rattle.store.specs.Store.{home_in, is_last, is_away, copy_at, with_copy_at, slot_at, piece_at, put_piece, leaves}
use Rattle.group.specs.Group.{cabinet, with_cabinet, outgoing, with_outgoing, line, with_line, rows_of, of_rows, with_sound, some, working, recovering_ones, forget_trips, is_crashed, sum, settle, settle_over}
use Rattle.load.specs.Load.{version_of, load}
use Rattle.protocol.specs.Moves.{broadcast, join, cut_if_all, take_checkp, resume_with, commit, adopt, recover_with, raise, enter_error, hear, find_link_fault, mark_failed, alarm_to, end_recovery, note_lost, pass_reports, leave}
use Rattle.protocol.specs.Receive.{receive_normal, receive_checkp, receive_resume, receive_recover, receive_fault}
use Rattle.protocol.specs.Kinds.{sent, send_step, note_step, begin_step, delivered, deliver_step, write_piece, write_step, report_saved, commit_if_all, saved_step, fetch_piece, fetch_step, report_restored, end_if_all, restored_step, fail_step, hurt, damage_step, report_unsure, decide_if_all, unsure_step, come_back_if_away}
use Rattle.protocol.specs.Entry.{step}
use Rattle.protocol.specs.Evening.{operate}
use Rattle.protocol.specs.History.{upd, logged, advance}
use Rattle.protocol.specs.Examples.{walk, found, after_save, after_save_finds, passed_over, passed_over_finds, link_fault, link_fault_finds, second_recovery, second_recovery_finds, restored_before, restored_before_finds}

pub runs_found : (found after_save ≡ after_save_finds) × (found passed_over ≡ passed_over_finds) × (found link_fault ≡ link_fault_finds) × (found second_recovery ≡ second_recovery_finds) × (found restored_before ≡ restored_before_finds)
unfolding crc_bit crc_bits crc_octet crc_from fits shifted pattern_right hurt_by lowest covers both next_up struck connected empty_lines line_to with_line_to put_all put_checkps home_in is_last is_away copy_at with_copy_at slot_at piece_at put_piece leaves cabinet with_cabinet outgoing with_outgoing line with_line rows_of of_rows with_sound some working recovering_ones forget_trips is_crashed sum version_of load broadcast join cut_if_all take_checkp resume_with commit adopt recover_with raise enter_error hear find_link_fault pass_reports leave mark_failed alarm_to end_recovery note_lost receive_normal receive_checkp receive_resume receive_recover receive_fault sent send_step note_step begin_step delivered deliver_step write_piece write_step report_saved commit_if_all saved_step fetch_piece fetch_step report_restored end_if_all come_back_if_away restored_step fail_step hurt damage_step report_unsure decide_if_all unsure_step step operate upd logged advance walk found settle settle_over
runs_found = (refl, refl, refl, refl, refl)
