-- The premises of `pairs.TwoRuns` in closed pairs of runs, by computation.
use Prim.Native.Nat.{ℕ}
use mathlib.Core.Path.{◌≡◌, refl, sym, ap, ◌∙◌, subst}
use mathlib.Core.Bool.{Bool, true, false, cond, ◌&&◌, ◌||◌, false≢true}
use mathlib.Core.Logic.{◌⊎◌, inl, inr, ⊎_elim}
use mathlib.Core.List.{List, [], ◌∷◌}
use lib.ListN.{length, get_or}
use lib.Dec.{eqb}
use borrow.Author.Tests.{eqb-true}
use native.Mathlib.Omega.{arith}
use Rattle.crc.specs.Crc.{crc_bit, crc_bits, crc_octet, crc_from}
use Rattle.marks.specs.Marks.{lowest, covers, both, next_up, either, without}
use Rattle.marks.specs.Reach.{struck, connected}
use Rattle.packet.specs.Packet.{own_check, fits, shifted, pattern_right, hurt_by}
use Rattle.outgoing.specs.Lines.{empty_lines, line_to, with_line_to, laden, put_all, put_checkps}
use Rattle.points.specs.Points.{no_points, point_at, with_point, image_at, same_name, place_of, place_for}
use Rattle.store.specs.Store.{home_in, is_last, is_away, homed_at, copy_at, with_copy_at, slot_at, piece_at, put_piece, leaves, comes_back, set_slots, blank_slots}
use Rattle.group.specs.Group.{cabinet, with_cabinet, outgoing, with_outgoing, line, with_line, rows_of, of_rows, with_sound, some, working, normal_ones, laden_ones, quiet, recovering_ones, trips_of, with_trips_of, forget_trips, is_crashed, sum, settle, settle_over}
use Rattle.load.specs.Load.{version_of, load}
use Rattle.protocol.specs.Moves.{broadcast, join, cut_if_all, take_checkp, resume_with, commit, adopt, recover_with, raise, enter_error, hear, find_link_fault, mark_failed, trip, alarm_to, end_recovery, note_lost, pass_reports, leave, drop_reports, come_back}
use Rattle.protocol.specs.Receive.{receive_normal, receive_checkp, receive_resume, receive_recover, receive_fault}
use Rattle.protocol.specs.Kinds.{sent, send_step, note_step, begin_step, delivered, deliver_step, write_piece, write_step, report_saved, commit_if_all, saved_step, fetch_piece, fetch_step, report_restored, end_if_all, restored_step, fail_step, hurt, damage_step, lost, lose_step, trip_once, trip_step, come_back_if_away}
use Rattle.protocol.specs.Entry.{step}
use Rattle.protocol.specs.Points.{images_kept, take_point, returned, return_to}
use Rattle.protocol.specs.Evening.{operate, operate_all, answers_to}
use Rattle.protocol.specs.declared.Site.{Site}
use Rattle.protocol.specs.declared.Turn.{Turn}
use Rattle.protocol.specs.History.{Operation, stepping, pointing, returning}
use Rattle.protocol.specs.Workshop.{Twins, twins_one, twins_two}
use Rattle.claims.proofs.State.Fun.{and_true}
use Rattle.claims.proofs.Invariant.Points.{same_name_lem}
use Rattle.pairs.specs.TwoRuns.{workshop_send, SameBut, none, same, amounts, sends_for_workshop, SendsTaken, loaded}
use Rattle.pairs.proofs.TwoRuns.{two_runs}
use Rattle.examples.specs.Pairs.{first_of, second_of, Meets, AgreeIn, TwinsAgree, twins_away, AwayAgree}
use Rattle.claims.proofs.Claims.Written.{all_octets, all_in, octets_of, operations_of_lem}

-- ---- the same but for amounts

six : (r : List ℕ) → length r ≡ 6 → r ≡ get_or r 0 0 ∷ get_or r 1 0 ∷ get_or r 2 0 ∷ get_or r 3 0 ∷ get_or r 4 0 ∷ get_or r 5 0 ∷ []
six [] e = absurd (omega (arith, e))
six (a ∷ []) e = absurd (omega (arith, e))
six (a ∷ b ∷ []) e = absurd (omega (arith, e))
six (a ∷ b ∷ c ∷ []) e = absurd (omega (arith, e))
six (a ∷ b ∷ c ∷ d ∷ []) e = absurd (omega (arith, e))
six (a ∷ b ∷ c ∷ d ∷ f ∷ []) e = absurd (omega (arith, e))
six (a ∷ b ∷ c ∷ d ∷ f ∷ h ∷ []) e = refl
six (a ∷ b ∷ c ∷ d ∷ f ∷ h ∷ i ∷ l) e = absurd (omega (arith, e))

abbrev is_send : List ℕ → Bool
is_send r = sends_for_workshop (stepping r)

send_is : (r : List ℕ) → is_send r ≡ true → r ≡ workshop_send (get_or r 1 0) (get_or r 2 0) (get_or r 4 0) (get_or r 5 0)
send_is r e =
    let long = and_true {s = eqb (length r) 6} e in
    let kind = and_true {s = eqb (get_or r 0 0) 1} long.1 in
    six r (eqb-true (length r) 6 long.0)
    ∙ ap (λ k. k ∷ get_or r 1 0 ∷ get_or r 2 0 ∷ get_or r 3 0 ∷ get_or r 4 0 ∷ get_or r 5 0 ∷ []) (eqb-true (get_or r 0 0) 1 kind.0)
    ∙ ap (λ p. 1 ∷ get_or r 1 0 ∷ get_or r 2 0 ∷ p ∷ get_or r 4 0 ∷ get_or r 5 0 ∷ []) (eqb-true (get_or r 3 0) 4 kind.1)

abbrev over_one_line : List ℕ → List ℕ → Bool
over_one_line r s = (is_send r && is_send s) && (eqb (get_or r 1 0) (get_or s 1 0) && eqb (get_or r 2 0) (get_or s 2 0))

abbrev matches : Operation → Operation → Bool
matches (stepping r) (stepping s) = same_name r s || over_one_line r s
matches (stepping r) (pointing n) = false
matches (stepping r) (returning n) = false
matches (pointing m) (stepping s) = false
matches (pointing m) (pointing n) = same_name m n
matches (pointing m) (returning n) = false
matches (returning m) (stepping s) = false
matches (returning m) (pointing n) = false
matches (returning m) (returning n) = same_name m n

abbrev same_but : List Operation → List Operation → Bool
same_but [] [] = true
same_but [] (y ∷ ys) = false
same_but (x ∷ xs) [] = false
same_but (x ∷ xs) (y ∷ ys) = matches x y && same_but xs ys

one_of : (t : Bool) {u : Bool} → (t || u) ≡ true → (t ≡ true) ⊎ (u ≡ true)
one_of true e = inl refl
one_of false e = inr e

is_same_but : (xs ys : List Operation) → same_but xs ys ≡ true → SameBut xs ys
is_same_but [] [] e = none
is_same_but [] (y ∷ ys) e = absurd (false≢true e)
is_same_but (x ∷ xs) [] e = absurd (false≢true e)
is_same_but (x ∷ xs) (y ∷ ys) e = let b = and_true {s = matches x y} e in one x y b.0 (is_same_but xs ys b.1)
  where
    one : (x y : Operation) → matches x y ≡ true → SameBut xs ys → SameBut (x ∷ xs) (y ∷ ys)
    one (stepping r) (stepping s) m later = ⊎_elim (λ q. subst (λ (z : List ℕ). SameBut (stepping r ∷ xs) (stepping z ∷ ys)) ((same_name_lem r s).0 q) (same (stepping r) later)) other (one_of (same_name r s) m)
      where
        other : over_one_line r s ≡ true → SameBut (stepping r ∷ xs) (stepping s ∷ ys)
        other q =
            let sends = and_true {s = is_send r && is_send s} q in
            let each = and_true {s = is_send r} sends.0 in
            let ends = and_true {s = eqb (get_or r 1 0) (get_or s 1 0)} sends.1 in
            let is-s = send_is s each.1 ∙ ap (λ a. workshop_send a (get_or s 2 0) (get_or s 4 0) (get_or s 5 0)) (sym (eqb-true _ _ ends.0)) ∙ ap (λ b. workshop_send (get_or r 1 0) b (get_or s 4 0) (get_or s 5 0)) (sym (eqb-true _ _ ends.1)) in
            subst (λ (z : List ℕ). SameBut (stepping z ∷ xs) (stepping s ∷ ys)) (sym (send_is r each.0))
            (subst (λ (z : List ℕ). SameBut (stepping (workshop_send (get_or r 1 0) (get_or r 2 0) (get_or r 4 0) (get_or r 5 0)) ∷ xs) (stepping z ∷ ys)) (sym is-s)
            (amounts (get_or r 1 0) (get_or r 2 0) (get_or r 4 0) (get_or r 5 0) (get_or s 4 0) (get_or s 5 0) later))
    one (stepping r) (pointing n) m later = absurd (false≢true m)
    one (stepping r) (returning n) m later = absurd (false≢true m)
    one (pointing m) (stepping s) q later = absurd (false≢true q)
    one (pointing m) (pointing n) q later = subst (λ (z : List ℕ). SameBut (pointing m ∷ xs) (pointing z ∷ ys)) ((same_name_lem m n).0 q) (same (pointing m) later)
    one (pointing m) (returning n) q later = absurd (false≢true q)
    one (returning m) (stepping s) q later = absurd (false≢true q)
    one (returning m) (pointing n) q later = absurd (false≢true q)
    one (returning m) (returning n) q later = subst (λ (z : List ℕ). SameBut (returning m ∷ xs) (returning z ∷ ys)) ((same_name_lem m n).0 q) (same (returning m) later)

-- ---- each workshop send taken

abbrev taken_in : Bool → Turn → (Site → Bool) → Bool
taken_in sends t later = cond sends (eqb t.answer 0) true && later t.site

unfoldable taken_from : Site → List Operation → Bool
taken_from s [] = true
taken_from s (x ∷ xs) = taken_in (sends_for_workshop x) (operate s x) (λ t. taken_from t xs)

all_taken : (xs : List Operation) (s : Site) → taken_from s xs ≡ true → SendsTaken s xs
unfolding taken_from SendsTaken
all_taken [] s e = tt
all_taken (x ∷ xs) s e =
    let b = and_true {s = cond (sends_for_workshop x) (eqb (operate s x).answer 0) true} e in
    (λ sends. eqb-true (operate s x).answer 0 (sym (ap (λ t. cond t (eqb (operate s x).answer 0) true) sends) ∙ b.0), all_taken xs (operate s x).site b.1)

-- ---- the pairs of runs

meets : (t : Twins) → all_octets t.file ≡ true → (load t.file).answer ≡ 0 → all_in (first_of t) ≡ true → all_in (second_of t) ≡ true → same_but (first_of t) (second_of t) ≡ true
    → taken_from (loaded t.file) (first_of t) ≡ true → taken_from (loaded t.file) (second_of t) ≡ true → Meets t
meets t o l f s b x y = record {
  octets = octets_of t.file o;
  loads = l;
  first = operations_of_lem (first_of t) f;
  second = operations_of_lem (second_of t) s;
  same = is_same_but (first_of t) (second_of t) b;
  taken = all_taken (first_of t) (loaded t.file) x;
  taken_too = all_taken (second_of t) (loaded t.file) y;
}

agree_in : (t : Twins) → Meets t → AgreeIn t
agree_in t m = two_runs t.file m.octets m.loads (first_of t) (second_of t) m.first m.second m.same m.taken m.taken_too

one_meets : Meets twins_one
unfolding taken_from crc_bit crc_bits crc_octet crc_from own_check fits shifted pattern_right hurt_by lowest covers both next_up struck connected empty_lines line_to with_line_to laden put_all put_checkps no_points point_at with_point image_at same_name place_of place_for cabinet with_cabinet outgoing with_outgoing line with_line blank_slots rows_of of_rows with_sound some working normal_ones laden_ones quiet recovering_ones trips_of with_trips_of forget_trips is_crashed sum version_of load broadcast join cut_if_all take_checkp resume_with commit adopt recover_with raise enter_error hear find_link_fault trip alarm_to end_recovery note_lost receive_normal receive_checkp receive_resume receive_recover receive_fault sent send_step begin_step delivered deliver_step write_piece write_step report_saved commit_if_all saved_step fetch_piece fetch_step report_restored end_if_all restored_step hurt damage_step lost lose_step trip_once trip_step step images_kept take_point returned return_to operate settle settle_over home_in copy_at slot_at with_copy_at piece_at put_piece is_last leaves either pass_reports leave is_away homed_at comes_back without drop_reports come_back come_back_if_away set_slots
one_meets = meets twins_one refl refl refl refl refl refl refl

two_meets : Meets twins_two
unfolding taken_from crc_bit crc_bits crc_octet crc_from own_check fits shifted pattern_right hurt_by lowest covers both next_up struck connected empty_lines line_to with_line_to laden put_all put_checkps no_points point_at with_point image_at same_name place_of place_for cabinet with_cabinet outgoing with_outgoing line with_line blank_slots rows_of of_rows with_sound some working normal_ones laden_ones quiet recovering_ones trips_of with_trips_of forget_trips is_crashed sum version_of load broadcast join cut_if_all take_checkp resume_with commit adopt recover_with raise enter_error hear find_link_fault trip alarm_to end_recovery note_lost receive_normal receive_checkp receive_resume receive_recover receive_fault sent send_step begin_step delivered deliver_step write_piece write_step report_saved commit_if_all saved_step fetch_piece fetch_step report_restored end_if_all restored_step hurt damage_step lost lose_step trip_once trip_step step images_kept take_point returned return_to operate settle settle_over home_in copy_at slot_at with_copy_at piece_at put_piece is_last leaves either pass_reports leave is_away homed_at comes_back without drop_reports come_back come_back_if_away set_slots
two_meets = meets twins_two refl refl refl refl refl refl refl

pub twins_agree : TwinsAgree
twins_agree = (one_meets, two_meets, agree_in twins_one one_meets, agree_in twins_two two_meets)

away_meets : Meets twins_away
unfolding taken_from crc_bit crc_bits crc_octet crc_from own_check fits shifted pattern_right hurt_by lowest covers both next_up struck connected empty_lines line_to with_line_to laden put_all put_checkps no_points point_at with_point image_at same_name place_of place_for cabinet with_cabinet outgoing with_outgoing line with_line blank_slots rows_of of_rows with_sound some working normal_ones laden_ones quiet recovering_ones trips_of with_trips_of forget_trips is_crashed sum version_of load broadcast join cut_if_all take_checkp resume_with commit adopt recover_with raise enter_error hear find_link_fault trip alarm_to end_recovery note_lost receive_normal receive_checkp receive_resume receive_recover receive_fault sent send_step begin_step delivered deliver_step write_piece write_step report_saved commit_if_all saved_step fetch_piece fetch_step report_restored end_if_all restored_step hurt damage_step lost lose_step trip_once trip_step step images_kept take_point returned return_to operate settle settle_over home_in copy_at slot_at with_copy_at piece_at put_piece is_last leaves either pass_reports leave is_away homed_at comes_back without drop_reports come_back come_back_if_away set_slots note_step fail_step mark_failed
away_meets = meets twins_away refl refl refl refl refl refl refl

pub away_agree : AwayAgree
unfolding crc_bit crc_bits crc_octet crc_from own_check fits shifted pattern_right hurt_by lowest covers both next_up struck connected empty_lines line_to with_line_to laden put_all put_checkps no_points point_at with_point image_at same_name place_of place_for cabinet with_cabinet outgoing with_outgoing line with_line blank_slots rows_of of_rows with_sound some working normal_ones laden_ones quiet recovering_ones trips_of with_trips_of forget_trips is_crashed sum version_of load broadcast join cut_if_all take_checkp resume_with commit adopt recover_with raise enter_error hear find_link_fault trip alarm_to end_recovery note_lost receive_normal receive_checkp receive_resume receive_recover receive_fault sent send_step begin_step delivered deliver_step write_piece write_step report_saved commit_if_all saved_step fetch_piece fetch_step report_restored end_if_all restored_step hurt damage_step lost lose_step trip_once trip_step step images_kept take_point returned return_to operate settle settle_over home_in copy_at slot_at with_copy_at piece_at put_piece is_last leaves either pass_reports leave is_away homed_at comes_back without drop_reports come_back come_back_if_away set_slots note_step fail_step mark_failed operate_all answers_to
away_agree = (away_meets, agree_in twins_away away_meets, refl, refl, refl)
