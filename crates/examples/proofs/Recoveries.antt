-- Demand 3 for each of the runs of `specs/Examples`, `specs/Returns`, `specs/Outlets`, `specs/Losses`, `specs/Trips`, `specs/Unsure`, `specs/OwnChecks`, `specs/Workshop` and `specs/Partners`: its premises are met in runs that restore a save.
use mathlib.Core.Path.{◌≡◌, refl, ap, sym, subst, ◌∙◌}
use mathlib.Core.Bool.{true}
use mathlib.Core.List.{List, [], ◌∷◌}
use Rattle.marks.specs.Marks.{both}
use Rattle.group.specs.Group.{state_of}
use Rattle.state.specs.State.{works}
use Rattle.image.specs.declared.Image.{Image}
use Rattle.load.specs.Load.{cabinet_count, feeder_total}
use Rattle.protocol.specs.History.{Operation, World, advance, run, ends as ends_in}
use Rattle.protocol.specs.Restored.{Restored, world_after}
use Rattle.protocol.specs.Examples.{Example, Found, operations_of, Walk, walk_on, walk, set_out, walk_to_fault, walk_near, walk_to_end, found, after_save, after_save_finds, passed_over, passed_over_finds, link_fault, link_fault_finds, second_recovery, second_recovery_finds, restored_before, restored_before_finds}
use Rattle.claims.proofs.State.Fun.{and_true}
use Rattle.claims.proofs.Claims.Written.{all_octets, octets_in, all_in, octets_of, operation_of, operations_of_lem}
use Rattle.claims.proofs.Claims.Demand.{run_append, demand_three}
use Rattle.protocol.specs.Returns.{found_kept, return_first, return_first_finds, return_stays, return_stays_finds, return_between, return_between_finds}
use Rattle.runs.proofs.Closed.Examples.{runs_found}
use Rattle.protocol.specs.Outlets.{both_outlets, both_outlets_finds}
use Rattle.protocol.specs.Losses.{silent_loss, silent_loss_finds}
use Rattle.protocol.specs.Workshop.{both_parties, both_parties_finds}
use Rattle.protocol.specs.Trips.{comes_back, comes_back_finds, trip_passed_over, trip_passed_over_finds, third_trip_fails, third_trip_fails_finds, lead_moves_on, lead_moves_on_finds, middle_trips, middle_trips_finds, trips_while_saving, trips_while_saving_finds}
use Rattle.runs.proofs.Closed.Returns.{returns_found}
use Rattle.runs.proofs.Closed.Outlets.{outlets_found}
use Rattle.runs.proofs.Closed.Losses.{loss_found}
use Rattle.runs.proofs.Closed.Workshop.{parties_found}
use Rattle.runs.proofs.Closed.Trips.{trips_found}
use Rattle.protocol.specs.Unsure.{decided_after_fail, decided_after_fail_finds, decided_after_trip, decided_after_trip_finds, early, early_finds}
use Rattle.runs.proofs.Closed.Unsure.{decisions_found}
use Rattle.protocol.specs.OwnChecks.{hurt_on_taking, hurt_on_taking_finds, check_hurt_run, check_hurt_finds, hurt_until_checkp, hurt_until_checkp_finds, fitting_loss, fitting_loss_finds}
use Rattle.runs.proofs.Closed.OwnChecks.{own_checks_found}
use Rattle.protocol.specs.Partners.{home_fails, home_fails_finds, home_fails_undone, home_fails_undone_finds, partner_fails_next, partner_fails_next_finds, store_passed_over, store_passed_over_finds, lead_goes_round, lead_goes_round_finds, return_at_both, return_at_both_finds, partner_in_error, partner_in_error_finds, third_trip_of_a_store, third_trip_of_a_store_finds}
use Rattle.runs.proofs.Closed.Partners.{partners_found}

-- ---- demand 3 for each

-- a walk goes where the operations lead
walk_run : (w : Walk) (xs : List Operation) → (walk w xs).world ≡ run w.world xs
unfolding walk run
walk_run w [] = refl
walk_run w (x ∷ xs) = walk_run (walk_on w x) xs

near : (e : Example) → (walk_near e).world ≡ world_after e.file (operations_of e)
near e = walk_run (walk_to_fault e) e.since ∙ ap (λ w. run w e.since) (walk_run (set_out e) e.before) ∙ run_append _ e.before e.since

-- what demand 3 says of a run
abbrev pub Demanded : Example → Type 0
Demanded e = Restored (cabinet_count e.file) (feeder_total e.file) (walk_to_end e).world.history (walk_to_end e).world.group

-- a run that is found to load and to end a recovery meets the premises
demanded : (e : Example) (x : Found) → found e ≡ x → x.loaded ≡ 0 → x.ended ≡ true
    → all_octets e.file ≡ true → all_in (operations_of e) ≡ true → octets_in e.last ≡ true → Demanded e
unfolding found
demanded e x is loads ends of os ol =
    let both = and_true {s = works (state_of (walk_near e).world.group e.coordinator)} (ap (λ (y : Found). y.ended) is ∙ ends) in
    subst
    (λ (w : World). works (state_of w.group e.coordinator) ≡ true → ends_in w.group (advance w e.last).group e.coordinator ≡ true
    → Restored (cabinet_count e.file) (feeder_total e.file) (advance w e.last).history (advance w e.last).group)
    (sym (near e))
    (demand_three e.file (octets_of e.file of) (ap (λ (y : Found). y.loaded) is ∙ loads)
    (operations_of e) (operations_of_lem (operations_of e) os) e.last (operation_of e.last ol)
    e.coordinator)
    both.0 both.1

pub after_save_restored : Demanded after_save
after_save_restored = demanded after_save after_save_finds runs_found.0 refl refl refl refl refl

pub passed_over_restored : Demanded passed_over
passed_over_restored = demanded passed_over passed_over_finds runs_found.1 refl refl refl refl refl

pub link_fault_restored : Demanded link_fault
link_fault_restored = demanded link_fault link_fault_finds runs_found.2 refl refl refl refl refl

pub second_recovery_restored : Demanded second_recovery
second_recovery_restored = demanded second_recovery second_recovery_finds runs_found.3 refl refl refl refl refl

pub restored_before_restored : Demanded restored_before
restored_before_restored = demanded restored_before restored_before_finds runs_found.4 refl refl refl refl refl

-- recoveries after a return

pub return_first_restored : Demanded return_first
return_first_restored = demanded return_first return_first_finds returns_found.0 refl refl refl refl refl

pub return_stays_restored : Demanded return_stays
return_stays_restored = demanded return_stays return_stays_finds returns_found.1 refl refl refl refl refl

pub return_between_restored : Demanded return_between
unfolding found found_kept
return_between_restored = demanded return_between return_between_finds (ap (λ (p : Found × List (List Image)). p.0) returns_found.2) refl refl refl refl refl

-- a recovery of both outlets

pub both_outlets_restored : Demanded both_outlets
both_outlets_restored = demanded both_outlets both_outlets_finds outlets_found refl refl refl refl refl

-- .. and of both parties

pub both_parties_restored : Demanded both_parties
both_parties_restored = demanded both_parties both_parties_finds parties_found refl refl refl refl refl

-- a recovery from a loss that the CRC alone would not see

pub silent_loss_restored : Demanded silent_loss
silent_loss_restored = demanded silent_loss silent_loss_finds loss_found refl refl refl refl refl

-- recoveries in which a cabinet has tripped

pub comes_back_restored : Demanded comes_back
comes_back_restored = demanded comes_back comes_back_finds trips_found.0 refl refl refl refl refl

pub trip_passed_over_restored : Demanded trip_passed_over
trip_passed_over_restored = demanded trip_passed_over trip_passed_over_finds trips_found.1 refl refl refl refl refl

pub third_trip_fails_restored : Demanded third_trip_fails
third_trip_fails_restored = demanded third_trip_fails third_trip_fails_finds trips_found.2 refl refl refl refl refl

pub lead_moves_on_restored : Demanded lead_moves_on
lead_moves_on_restored = demanded lead_moves_on lead_moves_on_finds trips_found.3 refl refl refl refl refl

pub middle_trips_restored : Demanded middle_trips
middle_trips_restored = demanded middle_trips middle_trips_finds trips_found.4 refl refl refl refl refl

pub trips_while_saving_restored : Demanded trips_while_saving
trips_while_saving_restored = demanded trips_while_saving trips_while_saving_finds trips_found.5 refl refl refl refl refl

-- recoveries in which cabinets report unsure

pub decided_after_fail_restored : Demanded decided_after_fail
decided_after_fail_restored = demanded decided_after_fail decided_after_fail_finds decisions_found.0 refl refl refl refl refl

pub decided_after_trip_restored : Demanded decided_after_trip
decided_after_trip_restored = demanded decided_after_trip decided_after_trip_finds decisions_found.1 refl refl refl refl refl

pub early_restored : Demanded early
early_restored = demanded early early_finds decisions_found.2 refl refl refl refl refl

-- recoveries from a packet that is hurt or lost, three of them in packet version 2

pub hurt_on_taking_restored : Demanded hurt_on_taking
hurt_on_taking_restored = demanded hurt_on_taking hurt_on_taking_finds own_checks_found.0 refl refl refl refl refl

pub check_hurt_restored : Demanded check_hurt_run
check_hurt_restored = demanded check_hurt_run check_hurt_finds own_checks_found.1 refl refl refl refl refl

pub hurt_until_checkp_restored : Demanded hurt_until_checkp
hurt_until_checkp_restored = demanded hurt_until_checkp hurt_until_checkp_finds own_checks_found.2 refl refl refl refl refl

pub fitting_loss_restored : Demanded fitting_loss
fitting_loss_restored = demanded fitting_loss fitting_loss_finds own_checks_found.3 refl refl refl refl refl

-- recoveries in which a store or its partner was lost

pub home_fails_restored : Demanded home_fails
home_fails_restored = demanded home_fails home_fails_finds partners_found.0 refl refl refl refl refl

pub home_fails_undone_restored : Demanded home_fails_undone
home_fails_undone_restored = demanded home_fails_undone home_fails_undone_finds partners_found.1 refl refl refl refl refl

pub partner_fails_next_restored : Demanded partner_fails_next
partner_fails_next_restored = demanded partner_fails_next partner_fails_next_finds partners_found.2 refl refl refl refl refl

pub store_passed_over_restored : Demanded store_passed_over
store_passed_over_restored = demanded store_passed_over store_passed_over_finds partners_found.3 refl refl refl refl refl

pub lead_goes_round_restored : Demanded lead_goes_round
lead_goes_round_restored = demanded lead_goes_round lead_goes_round_finds partners_found.4 refl refl refl refl refl

pub return_at_both_restored : Demanded return_at_both
return_at_both_restored = demanded return_at_both return_at_both_finds partners_found.5 refl refl refl refl refl

pub partner_in_error_restored : Demanded partner_in_error
partner_in_error_restored = demanded partner_in_error partner_in_error_finds partners_found.6 refl refl refl refl refl

pub third_trip_of_a_store_restored : Demanded third_trip_of_a_store
third_trip_of_a_store_restored = demanded third_trip_of_a_store third_trip_of_a_store_finds partners_found.7 refl refl refl refl refl
