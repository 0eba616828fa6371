-- The marked cases of document 01, all of them at once, by computation.
use mathlib.Core.Path.{◌≡◌, refl}
use mathlib.Core.List.{map}
use Rattle.crc.specs.Crc.{crc_bit, crc_bits, crc_octet, crc_from}
use Rattle.marks.specs.Marks.{lowest, covers, both}
use Rattle.marks.specs.Reach.{connected}
use Rattle.packet.specs.Packet.{fits}
use Rattle.outgoing.specs.Lines.{empty_lines, line_to, with_line_to, put_all}
use Rattle.store.specs.Store.{home_in, is_last, is_away, copy_at, slot_at, leaves}
use Rattle.group.specs.Group.{cabinet, with_cabinet, outgoing, with_outgoing, line, with_line, rows_of, of_rows, some, working, recovering_ones, is_crashed, sum, settle, settle_over}
use Rattle.load.specs.Load.{version_of, load}
use Rattle.protocol.specs.Moves.{broadcast, resume_with, recover_with, raise, enter_error, mark_failed, alarm_to, end_recovery, note_lost, pass_reports, leave}
use Rattle.protocol.specs.Receive.{receive_normal}
use Rattle.protocol.specs.Kinds.{sent, send_step, begin_step, delivered, deliver_step, fetch_piece, fetch_step, report_restored, end_if_all, restored_step, fail_step, come_back_if_away}
use Rattle.protocol.specs.Entry.{step, step_all, answers_from}
use Rattle.protocol.specs.Listing.{parts, run_lines, listing}
use Rattle.protocol.specs.Marked.{Case, marked, found}

-- every case of the table is found as the paper has it
pub marked_cases : map (λ (c : Case). found c.asked) marked ≡ map (λ (c : Case). c.expected) marked
unfolding crc_bit crc_bits crc_octet crc_from fits lowest covers both connected empty_lines line_to with_line_to put_all home_in is_last is_away copy_at slot_at leaves cabinet with_cabinet outgoing with_outgoing line with_line rows_of of_rows some working recovering_ones is_crashed sum version_of load broadcast resume_with recover_with raise enter_error pass_reports leave mark_failed alarm_to end_recovery note_lost receive_normal sent send_step begin_step delivered deliver_step fetch_piece fetch_step report_restored end_if_all come_back_if_away restored_step fail_step step step_all answers_from parts run_lines listing found settle settle_over
marked_cases = refl
