-- The runs and the lines of `specs/Words`, by computation.
use Prim.Native.Nat.{ℕ}
use mathlib.Core.Path.{◌≡◌, refl}
use mathlib.Core.List.{List, [], ◌∷◌, map}
use Rattle.crc.specs.Crc.{crc_bit, crc_bits, crc_octet, crc_from}
use Rattle.marks.specs.Marks.{lowest, covers, both, next_up}
use Rattle.marks.specs.Reach.{struck, connected}
use Rattle.packet.specs.Packet.{fits, shifted, pattern_right}
use Rattle.outgoing.specs.Lines.{empty_lines, line_to, with_line_to, put_all, put_checkps}
use Rattle.store.specs.Store.{home_in, is_last, is_away, copy_at, with_copy_at, slot_at, piece_at, put_piece, leaves}
use Rattle.group.specs.Group.{cabinet, with_cabinet, outgoing, with_outgoing, line, with_line, rows_of, of_rows, with_sound, some, working, recovering_ones, trips_of, with_trips_of, forget_trips, is_crashed, crash_all, sum, settle, settle_over}
use Rattle.load.specs.Load.{version_of, load}
use Rattle.protocol.specs.Moves.{broadcast, join, cut_if_all, take_checkp, resume_with, commit, adopt, recover_with, raise, enter_error, hear, find_link_fault, mark_failed, trip, alarm_to, end_recovery, note_lost, pass_reports, leave}
use Rattle.protocol.specs.Receive.{receive_normal, receive_checkp, receive_resume, receive_recover, receive_fault, receive_invalid}
use Rattle.protocol.specs.Kinds.{sent, send_step, begin_step, delivered, deliver_step, write_piece, write_step, report_saved, commit_if_all, saved_step, fetch_piece, fetch_step, report_restored, end_if_all, restored_step, fail_step, hurt, damage_step, trip_once, trip_step, report_unsure, decide_if_all, unsure_step, come_back_if_away}
use Rattle.protocol.specs.Entry.{step, step_all}
use Rattle.protocol.specs.Listing.{parts}
use Rattle.protocol.specs.History.{steps, advance, run}
use Rattle.protocol.specs.Word.{which_word, word, account}
use Rattle.protocol.specs.Words.{Watched, watched_by, watched, found_from, AllTold, EntriesNoted, Printed, printed}

pub all_told : AllTold
unfolding crc_bit crc_bits crc_octet crc_from fits shifted pattern_right lowest covers both next_up struck connected empty_lines line_to with_line_to put_all put_checkps home_in is_last is_away copy_at with_copy_at slot_at piece_at put_piece leaves cabinet with_cabinet outgoing with_outgoing line with_line rows_of of_rows with_sound some working recovering_ones trips_of with_trips_of forget_trips is_crashed crash_all sum version_of load broadcast join cut_if_all take_checkp resume_with commit adopt recover_with raise enter_error hear find_link_fault pass_reports leave mark_failed trip alarm_to end_recovery note_lost receive_normal receive_checkp receive_resume receive_recover receive_fault receive_invalid sent send_step begin_step delivered deliver_step write_piece write_step report_saved commit_if_all saved_step fetch_piece fetch_step report_restored end_if_all come_back_if_away restored_step fail_step hurt damage_step trip_once trip_step report_unsure decide_if_all unsure_step step which_word watched found_from settle settle_over
all_told = (refl, refl, refl, refl, refl, refl, refl, refl, refl, refl, refl)

pub entries_noted : EntriesNoted
unfolding lowest covers both connected empty_lines line_to with_line_to put_checkps is_last leaves cabinet with_cabinet outgoing with_outgoing line with_line rows_of of_rows some working recovering_ones trips_of with_trips_of is_crashed sum version_of load broadcast join cut_if_all take_checkp recover_with raise enter_error pass_reports leave trip alarm_to receive_checkp begin_step delivered deliver_step trip_once trip_step step advance account settle
entries_noted = refl

pub all_printed : map (λ (p : Printed). word p.file p.steps) printed ≡ map (λ (p : Printed). p.text) printed
unfolding fits lowest covers both connected empty_lines line_to with_line_to home_in is_last is_away copy_at slot_at leaves cabinet with_cabinet outgoing with_outgoing line with_line rows_of of_rows some working recovering_ones is_crashed crash_all sum version_of load broadcast resume_with recover_with raise enter_error pass_reports leave mark_failed alarm_to end_recovery note_lost receive_normal sent send_step delivered deliver_step fetch_piece fetch_step report_restored end_if_all come_back_if_away restored_step fail_step step step_all parts which_word word settle settle_over
all_printed = refl

-- the walk is the run, and the history's account of it
pub watched_is : (w : Watched) (rs : List (List ℕ)) → ((watched w rs).world ≡ run w.world (steps rs)) × ((watched w rs).account ≡ account w.account w.world (steps rs))
unfolding watched run account advance
watched_is w [] = (refl, refl)
watched_is w (r ∷ rs) = watched_is (watched_by w r (step w.world.group r)) rs
