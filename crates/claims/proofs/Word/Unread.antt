-- Nothing but the question reads the note: every move and every kind of step makes the same of two groups that differ in it alone.
use Rattle.std.specs.Prelude.{None, Some}
use Prim.Native.Nat.{ℕ, zero, suc, ◌-◌}
use mathlib.Core.Path.{◌≡◌, refl, sym, ap, ◌∙◌, fun_ext}
use mathlib.Core.Bool.{Bool, true, false, cond, not, ◌&&◌, ◌||◌}
use mathlib.Core.List.{List, [], ◌∷◌}
use mathlib.Core.Option.{Option, none, some}
use lib.ListN.{get_or}
use lib.Dec.{eqb, ltb}
use Rattle.marks.specs.Marks.{marked, covers}
use Rattle.marks.specs.Reach.{struck, connected}
use Rattle.packet.specs.declared.Place.{Place}
use Rattle.packet.specs.declared.Place.TheVariants.{Failed as AtFailed, Tripped as AtTripped, Link as AtLink}
use Rattle.packet.specs.declared.Pattern.{Pattern}
use Rattle.packet.specs.declared.Packet.{Packet}
use Rattle.packet.specs.declared.Packet.TheVariants.{Empty, Normal as NormalPacket, Checkp, Resume, Recover, Fault, Invalid}
use Rattle.packet.specs.Packet.{is_normal, same_check, start_check, link_place, damaged}
use Rattle.line.specs.declared.Line.{Line}
use Rattle.line.specs.Line.{empty_line, oldest, rest, packet_at, replaced}
use Rattle.state.specs.declared.State.TheVariants.{Normal, CheckpBegin, Checkpointed, Error, Recovered}
use Rattle.state.specs.declared.Version.{Version}
use Rattle.state.specs.declared.Version.TheVariants.{Known, Unknown, Lost}
use Rattle.image.specs.declared.Image.{Image}
use Rattle.cabinet.specs.Alarm.{Alarm}
use Rattle.cabinet.specs.Alarm.{is_for}
use Rattle.state.specs.State.{is_in, in_recovery}
use Rattle.cabinet.specs.Cabinet.{in_use}
use Rattle.points.specs.declared.Points.{Points}
use Rattle.store.specs.Store.{home_in, is_away}
use Rattle.group.specs.declared.Group.{Group}
use Rattle.group.specs.declared.Outcome.{Outcome}
use Rattle.group.specs.Group.{cabinet, with_cabinet, state_of, outgoing, with_outgoing, line, with_line, rows_of, with_sound, working, normal_ones, laden_ones, quiet, some as any, recovering_ones, trips_of, with_trips_of, forget_trips, with_settled, settle, settle_over, is_crashed, answering, taken, crashed, crash_all}
use Rattle.protocol.specs.Moves.{broadcast, join, cut_if_all, take_checkp, resume_with, commit, adopt, recover_with, recover_if_known, raise, reason_for, enter_error, hear, find_link_fault, emptied_to, pass_reports, leave, drop_reports, come_back, mark_failed, trip, neighbours, enter_error_if, alarm_to, end_recovery, note_for, note_lost}
use Rattle.protocol.specs.Receive.{serving, takes, join_if, resumes_from, receive_normal, receive_checkp, receive_resume, receive_recover, receive_fault, receive_invalid, receive}
use Rattle.protocol.specs.declared.Step.{Step}
use Rattle.protocol.specs.declared.Step.TheVariants.{Send, Note, Begin, Deliver, Write, Saved, Fetch, Restored, Fail, Damage, Lose, Trip, Unsure}
use Rattle.protocol.specs.declared.Decoded.{Decoded}
use Rattle.protocol.specs.declared.Decoded.TheVariants.{Malformed, Unused, Taken}
use Rattle.protocol.specs.Kinds.{or_refuse, send_step, send_refusal, sent, note_step, note_refusal, begin_step, begin_refusal, deliver_step, deliver_refusal, delivered, write_step, write_refusal, write_piece, owe_if, saved_step, saved_refusal, report_saved, commit_if_all, fetch_step, fetch_refusal, fetch_piece, restored_step, restored_refusal, report_restored, come_back_if_away, end_if_all, fail_step, fail_crashes, hurt_if, hurt, damage_step, damage_refusal, lost, lose_step, lose_refusal, trip_step, trip_once, trip_crashes, unsure_step, unsure_refusal, report_unsure, decide_if_all}
use Rattle.protocol.specs.Entry.{step, step_decoded, perform, entry_refusal, decode}
use Rattle.protocol.specs.Points.{returned, return_refusal, return_to, images_kept, take_point}
use Rattle.protocol.specs.History.{History, World, Operation, stepping, pointing, returning, observe, lost_now, fresh, note_end, ends, note_cuts, note_return, if_taken, record_decoded, stepped, advance, run}
use Rattle.protocol.specs.Evening.{operate, answers_to}
use Rattle.claims.specs.Word.{with_note, unnoted, site_of, Unread, UnreadEver}

-- ---- groups and outcomes that are the same but for the note

abbrev bare : Group → Group
bare g = with_settled g None

data Same (g g' : Group) : Type 0 where
  but : bare g ≡ bare g' → Same g g'

bared : {g g' : Group} → Same g g' → bare g ≡ bare g'
bared (but e) = e

-- a move makes the same of a group and of it without its note, and so of any two that are the same but for it
abbrev Forgets : (Group → Group) → Type 0
Forgets m = (g : Group) → Same (m g) (m (bare g))

over : {m : Group → Group} → Forgets m → {g g' : Group} → Same g g' → Same (m g) (m g')
over {m} f {g} {g'} (but e) = but (bared (f g) ∙ ap (λ (x : Group). bare (m x)) e ∙ sym (bared (f g')))

abbrev plain : Outcome → Outcome
plain o = answering o.answer (bare o.group)

data Alike (o o' : Outcome) : Type 0 where
  alike : plain o ≡ plain o' → Alike o o'

took : {g g' : Group} → Same g g' → Alike (taken g) (taken g')
took (but e) = alike (ap taken e)

-- a choice by a test that reads no note
both : (t : Bool) {x y x' y' : Outcome} → Alike x x' → Alike y y' → Alike (cond t x y) (cond t x' y')
both true p q = p
both false p q = q

either : (t : Bool) {x y x' y' : Group} → Same x x' → Same y y' → Same (cond t x y) (cond t x' y')
either true p q = p
either false p q = q

refused : (k : ℕ) (g : Group) {o o' : Outcome} → Alike o o' → Alike (or_refuse k g o) (or_refuse k (bare g) o')
refused k g e = both (eqb k 0) e (alike refl)

-- ---- the moves that go by cases

commit_forgets : (k : ℕ) → Forgets (λ g. commit_if_all g k)
unfolding commit_if_all commit forget_trips resume_with broadcast with_outgoing outgoing with_cabinet cabinet
commit_forgets k g = either (covers (cabinet g k).noted.saved (cabinet g k).table.cabinets) (but refl) (but refl)

end_forgets : (k : ℕ) → Forgets (λ g. end_if_all g k)
unfolding end_if_all note_lost settle_over end_recovery resume_with broadcast with_outgoing outgoing with_cabinet cabinet
end_forgets k g =
    either (is_in (state_of g k) Recovered && covers (cabinet g k).noted.restored (cabinet g k).table.cabinets)
    (over {m = λ x. settle_over (end_recovery x k)} (λ x. but refl) (note (cabinet g k).phase.alarm)) (but refl)
  where
    note : (a : Alarm) → Same (note_for a g (cabinet g k).phase.version) (note_for a (bare g) (cabinet g k).phase.version)
    note None = but refl
    note (Some (AtFailed x)) = but refl
    note (Some (AtTripped x)) = but refl
    note (Some (AtLink x y)) = but refl

back_forgets : (a : ℕ) → Forgets (λ g. come_back_if_away g a)
unfolding come_back_if_away come_back drop_reports with_cabinet cabinet
back_forgets a g = either (is_away g.store a) (but refl) (but refl)

decide_forgets : (k : ℕ) → Forgets (λ g. decide_if_all g k)
unfolding decide_if_all settle recover_with broadcast with_outgoing outgoing with_cabinet cabinet
decide_forgets k g = either (covers (cabinet g k).noted.unsure (cabinet g k).table.cabinets) (but refl) (but refl)

error_forgets : (i : ℕ) (p : Place) → Forgets (λ g. enter_error g i p)
unfolding enter_error raise recover_with settle broadcast with_outgoing outgoing with_cabinet cabinet
error_forgets i p g = go (cabinet g i).phase.version
  where
    go : (v : Version) → Same (recover_if_known (raise g i p) i v (reason_for (cabinet g i) i)) (recover_if_known (raise (bare g) i p) i v (reason_for (cabinet g i) i))
    go (Known v) = but refl
    go (Unknown v) = but refl
    go Lost = but refl

emptied_forgets : (n a : ℕ) → Forgets (λ g. emptied_to n g a)
unfolding with_line with_outgoing outgoing
emptied_forgets zero a g = but refl
emptied_forgets (suc n) a g = over {m = λ x. with_line x n a empty_line} (λ x. but refl) (emptied_forgets n a g)

alarm_forgets : (n a : ℕ) (p : Place) → Forgets (λ g. alarm_to n g a p)
unfolding alarm_to cabinet
alarm_forgets zero a p g = but refl
alarm_forgets (suc n) a p g = go (neighbours g n a) (alarm_forgets n a p g)
  where
    go : (t : Bool) {x y : Group} → Same x y → Same (enter_error_if t x n p) (enter_error_if t y n p)
    go true e = over (error_forgets n p) e
    go false e = e

crash_alike : (g : Group) → Alike (crashed g) (crashed (bare g))
unfolding crash_all cabinet
crash_alike g = alike refl

-- ---- a packet received

module _ (before g : Group) (a b : ℕ) where
  link_alike : Alike (find_link_fault before g a b) (find_link_fault (bare before) (bare g) a b)
  unfolding find_link_fault working cabinet with_sound
  link_alike =
      both (connected (struck (rows_of g.sound) a b) (working g)) (took (over (error_forgets b (link_place a b)) (but refl))) (crash_alike before)

  receive_alike : (p : Packet) → Alike (receive before g a b p) (receive (bare before) (bare g) a b p)
  unfolding receive_normal receive_checkp receive_resume receive_recover receive_fault receive_invalid take_checkp cut_if_all join adopt recover_with hear end_recovery resume_with broadcast with_outgoing outgoing with_cabinet cabinet
  receive_alike Empty = alike refl
  receive_alike (NormalPacket p) =
      both (takes (cabinet g b) a p) (alike refl) (both (serving (state_of g b)) link_alike (alike refl))
  receive_alike (Checkp v) =
      both (is_in (state_of g b) Normal || is_in (state_of g b) CheckpBegin)
      (both (same_check v (get_or (cabinet g b).registers.taken a start_check)) (took (joined (is_in (state_of g b) Normal))) link_alike) (alike refl)
    where
      joined : (t : Bool) → Same (take_checkp (join_if t g b) a b) (take_checkp (join_if t (bare g) b) a b)
      joined true = but refl
      joined false = but refl
  receive_alike Resume = both (is_in (state_of g b) Checkpointed) (alike refl) (both (resumes_from (cabinet g b) a b) (alike refl) (alike refl))
  receive_alike (Recover v) = both (is_in (state_of g b) Error && marked (cabinet g b).noted.heard a) (alike refl) (alike refl)
  receive_alike (Fault p) =
      both (serving (state_of g b)) (took (over {m = λ x. hear x a b} (λ x. but refl) (error_forgets b p g)))
      (both (in_recovery (state_of g b)) (both (is_for (cabinet g b).phase.alarm p) (alike refl) (crash_alike before)) (alike refl))
  receive_alike Invalid = both (serving (state_of g b)) link_alike (alike refl)

-- ---- the kinds

module _ (g : Group) where
  abbrev Kind : (Group → Outcome) → Type 0
  Kind k = Alike (k g) (k (bare g))

  deliver_alike : (a b : ℕ) → Kind (λ g. deliver_step g a b)
  unfolding deliver_step delivered with_line line with_outgoing outgoing cabinet
  deliver_alike a b =
      refused (deliver_refusal g a b) g
      (both (marked (in_use (cabinet g b)) a) (receive_alike g (with_line g a b (rest (line g a b))) a b (oldest (line g a b))) (alike refl))

  write_alike : (a : ℕ) → Kind (λ g. write_step g a)
  unfolding write_step write_piece with_cabinet cabinet
  write_alike a = refused (write_refusal g a) g (took (owed (not (ltb (cabinet g a).noted.pieces 3))))
    where
      owed : (t : Bool) → Same (owe_if t (write_piece g a) (home_in g.store a) a) (owe_if t (write_piece (bare g) a) (home_in g.store a) a)
      owed true = but refl
      owed false = but refl

  fail_alike : (a : ℕ) → Kind (λ g. fail_step g a)
  unfolding fail_step leave pass_reports mark_failed recovering_ones working with_outgoing with_cabinet cabinet
  fail_alike a = both (fail_crashes g a) (crash_alike g) (took (over (alarm_forgets 8 a (AtFailed a)) (over (emptied_forgets 8 a) (but refl))))

  trip_alike : (a : ℕ) → Kind (λ g. trip_step g a)
  unfolding trip_step trip_once leave pass_reports trip trips_of with_trips_of recovering_ones working with_cabinet cabinet
  trip_alike a =
      both (ltb (trips_of g a) 2)
      (both (trip_crashes g a) (crash_alike g)
      (took (over (alarm_forgets 8 a (AtTripped a)) (over (emptied_forgets 8 a) (over (error_forgets a (AtTripped a)) (but refl))))))
      (fail_alike a)

  damage_alike : (a b p : ℕ) (w : Pattern) → Kind (λ g. damage_step g a b p w)
  unfolding damage_step hurt with_line line with_outgoing outgoing with_cabinet cabinet recovering_ones
  damage_alike a b p w =
      refused (damage_refusal g a b p w) g
      (both (any (recovering_ones g)) (crash_alike g) (took (hit (is_normal (packet_at (line g a b) p)) (replaced (line g a b) p (damaged (packet_at (line g a b) p) w)))))
    where
      hit : (t : Bool) (l : Line) → Same (hurt_if t (with_line g a b l) a b) (hurt_if t (with_line (bare g) a b l) a b)
      hit true l = but refl
      hit false l = but refl

  entered_alike : (s : Step) → Kind (λ g. or_refuse (entry_refusal g s) g (perform g s))
  unfolding is_crashed send_step sent note_step begin_step cut_if_all join saved_step report_saved fetch_step fetch_piece restored_step report_restored lose_step lost unsure_step report_unsure with_line line with_outgoing outgoing with_cabinet cabinet recovering_ones
  entered_alike (Send a b p q) = refused (entry_refusal g (Send a b p q)) g (refused (send_refusal g (a - 1) (b - 1) p q) g (alike refl))
  entered_alike (Note a p q) = refused (entry_refusal g (Note a p q)) g (refused (note_refusal g (a - 1) p q) g (alike refl))
  entered_alike (Begin a) = refused (entry_refusal g (Begin a)) g (refused (begin_refusal g (a - 1)) g (alike refl))
  entered_alike (Deliver a b) = refused (entry_refusal g (Deliver a b)) g (deliver_alike (a - 1) (b - 1))
  entered_alike (Write a) = refused (entry_refusal g (Write a)) g (write_alike (a - 1))
  entered_alike (Saved a) = refused (entry_refusal g (Saved a)) g (refused (saved_refusal g (a - 1)) g (took (commit_forgets _ (report_saved g (a - 1) _ _))))
  entered_alike (Fetch a) = refused (entry_refusal g (Fetch a)) g (refused (fetch_refusal g (a - 1)) g (alike refl))
  entered_alike (Restored a) = refused (entry_refusal g (Restored a)) g (refused (restored_refusal g (a - 1)) g (took (over (end_forgets _) (back_forgets (a - 1) (report_restored g (a - 1) _)))))
  entered_alike (Fail a) = refused (entry_refusal g (Fail a)) g (fail_alike (a - 1))
  entered_alike (Damage a b p w) = refused (entry_refusal g (Damage a b p w)) g (damage_alike (a - 1) (b - 1) p w)
  entered_alike (Lose a b p) =
      refused (entry_refusal g (Lose a b p)) g (refused (lose_refusal g (a - 1) (b - 1) p) g (both (any (recovering_ones g)) (crash_alike g) (alike refl)))
  entered_alike (Trip a) = refused (entry_refusal g (Trip a)) g (trip_alike (a - 1))
  entered_alike (Unsure a) = refused (entry_refusal g (Unsure a)) g (refused (unsure_refusal g (a - 1)) g (took (decide_forgets _ (report_unsure g (a - 1) _))))

  step_alike : (r : List ℕ) → Kind (λ g. step g r)
  unfolding step
  step_alike r = go (decode r)
    where
      go : (d : Decoded) → Kind (λ g. step_decoded g d)
      go Malformed = alike refl
      go Unused = alike refl
      go (Taken s) = entered_alike s

  return_alike : (ps : Points) (name : List ℕ) → Kind (λ g. return_to ps g name)
  unfolding return_to returned is_crashed quiet normal_ones working laden_ones outgoing cabinet
  return_alike ps name = refused (return_refusal ps g name) g (alike refl)

-- ---- the history

end_same : (t : Bool) (h : History) (g : Group) → note_end t h g ≡ note_end t h (bare g)
unfolding cabinet
end_same true h g = ap (λ (f : ℕ → Option Image). fresh h.saves h.start f h.points) (fun_ext (λ i. go i (h.lost i)))
  where
    go : (i : ℕ) (m : Option Image) → lost_now h g i m ≡ lost_now h (bare g) i m
    go i none = refl
    go i (some m) = refl
end_same false h g = refl

observe_same : (h : History) (g g' : Group) (s : Step) → observe h g g' s ≡ observe h (bare g) (bare g') s
unfolding cabinet line outgoing
observe_same h g g' (Send a b p q) = refl
observe_same h g g' (Note a p q) = refl
observe_same h g g' (Begin a) = refl
observe_same h g g' (Deliver a b) = refl
observe_same h g g' (Write a) = refl
observe_same h g g' (Saved a) = refl
observe_same h g g' (Fetch a) = refl
observe_same h g g' (Restored a) = end_same (ends g g' (a - 1)) h g'
observe_same h g g' (Fail a) = refl
observe_same h g g' (Damage a b p w) = refl
observe_same h g g' (Lose a b p) = refl
observe_same h g g' (Trip a) = refl
observe_same h g g' (Unsure a) = refl

step_same : (r : List ℕ) (w : World) (o : Outcome) → unnoted (stepped w r o) ≡ stepped (unnoted w) r (plain o)
unfolding cabinet
step_same r w o = ap (λ (y : History). record { group = bare o.group; points = w.points; history = y }) (go (decode r))
  where
    go : (d : Decoded) → record_decoded w.history w.group o d ≡ record_decoded w.history (bare w.group) (plain o) d
    go Malformed = refl
    go Unused = refl
    go (Taken s) = ap (λ (y : History). if_taken o.answer (note_cuts y w.group o.group) w.history) (observe_same w.history w.group o.group s)

-- the world after a return, by its outcome
abbrev back : List ℕ → World → Outcome → World
back name w o = record {
  group = o.group;
  points = w.points;
  history = if_taken o.answer (note_return (w.history.points name) w.history w.group) w.history;
}

back_same : (name : List ℕ) (w : World) (o : Outcome) → unnoted (back name w o) ≡ back name (unnoted w) (plain o)
unfolding cabinet
back_same name w o =
    ap (λ (y : History). record { group = bare o.group; points = w.points; history = if_taken o.answer y w.history }) (go (w.history.points name))
  where
    go : (m : Option (ℕ → Option Image)) → note_return m w.history w.group ≡ note_return m w.history (bare w.group)
    go none = refl
    go (some images) = refl

-- ---- one operation, and every list of them

onward : (f : World → Outcome → World) → ((w : World) (o : Outcome) → unnoted (f w o) ≡ f (unnoted w) (plain o))
    → (w : World) {o o' : Outcome} → Alike o o' → (o.answer ≡ o'.answer) × (unnoted (f w o) ≡ unnoted (f (unnoted w) o'))
onward f same w {o} {o'} (alike e) = (ap (λ (x : Outcome). x.answer) e, same w o ∙ ap (f (unnoted w)) e ∙ sym (same (unnoted w) o'))

-- what an operation makes of a world, it makes of it without the note
one : (w : World) (x : Operation)
    → ((operate (site_of w) x).answer ≡ (operate (site_of (unnoted w)) x).answer) × (unnoted (advance w x) ≡ unnoted (advance (unnoted w) x))
unfolding operate advance take_point is_crashed quiet normal_ones working laden_ones outgoing images_kept cabinet
one w (stepping r) = onward (λ v. stepped v r) (step_same r) w (step_alike w.group r)
one w (pointing name) = (refl, refl)
one w (returning name) = onward (back name) (back_same name) w (return_alike w.group w.points name)

pub unread : Unread
unread w s x = ((one (with_note w s) x).0 ∙ sym (one w x).0, (one (with_note w s) x).1 ∙ sym (one w x).1)

pub site_on : (w : World) (x : Operation) → (operate (site_of w) x).site ≡ site_of (advance w x)
unfolding operate advance
site_on w (stepping r) = refl
site_on w (pointing name) = refl
site_on w (returning name) = refl

many : (xs : List Operation) (v w : World) → unnoted v ≡ unnoted w
    → (answers_to (site_of v) xs ≡ answers_to (site_of w) xs) × (unnoted (run v xs) ≡ unnoted (run w xs))
unfolding answers_to run
many [] v w e = (refl, e)
many (x ∷ xs) v w e =
    let answer = (one v x).0 ∙ ap (λ (u : World). (operate (site_of u) x).answer) e ∙ sym (one w x).0 in
    let later = many xs (advance v x) (advance w x) ((one v x).1 ∙ ap (λ (u : World). unnoted (advance u x)) e ∙ sym (one w x).1) in
    (rw (answer, site_on v x, site_on w x, later.0), later.1)

pub unread_ever : UnreadEver
unread_ever w s xs = many xs (with_note w s) w refl
