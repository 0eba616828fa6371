-- Theorems on the step entry: what its answers are, that a refusal changes nothing, and when and how the group crashes.
use Prim.Native.Nat.{ℕ, ◌+◌, ◌-◌, ◌<◌, ◌≤◌}
use mathlib.Core.Path.{◌≡◌, refl, ap}
use mathlib.Core.Bool.{Bool, true, false, cond, not, ◌&&◌, ◌||◌}
use mathlib.Core.List.{List, ◌∷◌}
use mathlib.Core.Logic.{◌↔◌, ◌⊎◌, inl, inr}
use lib.ListN.{set}
use lib.Dec.{eqb, ltb}
use borrow.Author.Tests.{ltb-true, ltb-false}
use native.Mathlib.Omega.{arith}
use Rattle.marks.specs.Marks.{marked}
use Rattle.marks.specs.Reach.{connected}
use Rattle.packet.specs.declared.Pattern.{Pattern}
use Rattle.line.specs.Line.{oldest}
use Rattle.group.specs.declared.Group.{Group}
use Rattle.group.specs.declared.Outcome.{Outcome}
use Rattle.cabinet.specs.Cabinet.{in_use, coordinator}
use Rattle.group.specs.Group.{cabinet, line, some, working, recovering_ones, trips_of, taken, crash_all}
use Rattle.protocol.specs.declared.Step.{Step}
use Rattle.protocol.specs.declared.Step.TheVariants.{Send, Note, Begin, Deliver, Write, Saved, Fetch, Restored, Fail, Damage, Lose, Trip, Unsure}
use Rattle.protocol.specs.declared.Decoded.{Decoded}
use Rattle.protocol.specs.declared.Decoded.TheVariants.{Malformed, Unused, Taken}
use Rattle.protocol.specs.Kinds.{need, or_refuse, send_step, note_step, begin_step, deliver_refusal, delivered, deliver_step, write_step, saved_step, fetch_step, restored_step, fail_crashes, fail_step, damage_refusal, damage_step, lose_refusal, lose_step, trip_crashes, trip_once, trip_step, unsure_step}
use Rattle.protocol.specs.Entry.{decode, actor_works, entry_refusal, perform, step_decoded, step}
use Rattle.protocol.specs.Answers.{among, work_numbers, kind_numbers, refusal_numbers, kind_refusal}
use Rattle.store.specs.Store.{is_store, is_present, partner, is_last}
use Rattle.protocol.specs.Crash.{SomeRecovers, Unreached, sound_links, LineInUse, NeitherLeft, Cause, Crashes}
use Rattle.protocol.specs.Crash.Cause.{store_fails, fails_in_recovery, damage_in_recovery, loss_in_recovery, places_meet, fail_parts, link_parts, store_trips, trips_in_recovery, coordinator_trips, third_trip}
use Rattle.protocol.specs.Crash.Crashes.{crashes}
use Rattle.claims.proofs.State.Fun.{not_true_false}
use Rattle.claims.proofs.Answers.Tests.{Reflects, itself, or_reflects, and_reflects, same_number, some_recovers, not_reached}
use Rattle.claims.proofs.Answers.Answer.{Listed, checks, Answer, recast, refusing, guarded, only_if, crash_if, keeps, listed, crashes_all, exactly}
use Rattle.claims.proofs.Answers.Answer.Listed.{nothing}
use Rattle.claims.proofs.Answers.Answer.Answer.{took, refused}
use Rattle.claims.proofs.Answers.Deliver.{Upset, receive_answers}

-- ---- the kinds: their refusals, and those that crash nothing

-- a kind's refusal is 0 or stands under it in the paper
kind_listed : (g : Group) (s : Step) → Listed (kind_numbers s) (kind_refusal g s)
kind_listed g (Send a b p q) = search (checks, nothing) depth 6
kind_listed g (Note a p q) = search (checks, nothing)
kind_listed g (Begin a) = search (checks, nothing)
kind_listed g (Deliver a b) = search (checks, nothing)
kind_listed g (Write a) = search (checks, nothing)
kind_listed g (Saved a) = search (checks, nothing)
kind_listed g (Fetch a) = search (checks, nothing)
kind_listed g (Restored a) = search (checks, nothing)
kind_listed g (Fail a) = nothing
kind_listed g (Damage a b p q) = search (checks, nothing)
kind_listed g (Lose a b p) = search (checks, nothing)
kind_listed g (Trip a) = nothing
kind_listed g (Unsure a) = search (checks, nothing)

-- what a step that passed checks 8 to 12 answers
abbrev Answers : Group → Step → Outcome → Type 0
Answers g s o = Answer g (kind_numbers s) ((kind_refusal g s ≡ 0) × Cause g s) o

-- a kind that knows no cause of a crash
harmless : (g : Group) (s : Step) (g' : Group) → (Cause g s → ⊥) → Answers g s (or_refuse (kind_refusal g s) g (taken g'))
harmless g s g' n = guarded (kind_refusal g s) (kind_listed g s) (took n)

-- ---- fail

-- of a store's pair neither is left
last_found : (g : Group) (a : ℕ) → Reflects (is_last g.store a) (NeitherLeft g a)
unfolding is_last
last_found g a =
    and_reflects (is_store g.store a) (not (is_present g.store (partner g.store a))) (itself (is_store g.store a))
    (λ e. not_true_false e, λ e. ap not e)

fail_causes : (g : Group) (a : ℕ) → Reflects (fail_crashes g (a - 1)) (Cause g (Fail a))
fail_causes g a = (λ e. to (found.0 e), λ c. found.1 (from c))
  where
    last : Bool
    last = is_last g.store (a - 1)

    recovers : Bool
    recovers = some (recovering_ones g)

    parted : Bool
    parted = not (connected (sound_links g) (set (working g) (a - 1) false))

    found : Reflects (fail_crashes g (a - 1))
        (NeitherLeft g (a - 1) ⊎ (SomeRecovers g ⊎ Unreached (sound_links g) (set (working g) (a - 1) false)))
    found =
        or_reflects last (recovers || parted) (last_found g (a - 1))
        (or_reflects recovers parted (some_recovers g) (not_reached (sound_links g) (set (working g) (a - 1) false)))

    to : NeitherLeft g (a - 1) ⊎ (SomeRecovers g ⊎ Unreached (sound_links g) (set (working g) (a - 1) false)) → Cause g (Fail a)
    to (inl p) = store_fails p
    to (inr (inl p)) = fails_in_recovery p
    to (inr (inr p)) = fail_parts p

    from : Cause g (Fail a)
        → NeitherLeft g (a - 1) ⊎ (SomeRecovers g ⊎ Unreached (sound_links g) (set (working g) (a - 1) false))
    from (store_fails p) = inl p
    from (fails_in_recovery p) = inr (inl p)
    from (fail_parts p) = inr (inr p)

fail_answers : (g : Group) (a : ℕ) → Answers g (Fail a) (fail_step g (a - 1))
unfolding fail_step
fail_answers g a = recast (λ c. (refl, c), λ p. p.1) (crash_if (fail_crashes g (a - 1)) _ (fail_causes g a))

-- ---- trip

module _ (g : Group) (a : ℕ) where
  -- a left out, some working cabinet is not reached
  abbrev Parted : Type 0
  Parted = Unreached (sound_links g) (set (working g) (a - 1) false)

  abbrev Tripping : Type 0
  Tripping = NeitherLeft g (a - 1) ⊎ (SomeRecovers g ⊎ ((coordinator (cabinet g (a - 1)) ≡ a - 1) × Parted))

  abbrev parted : Bool
  parted = not (connected (sound_links g) (set (working g) (a - 1) false))

  trip_found : Reflects (trip_crashes g (a - 1)) Tripping
  trip_found =
      or_reflects (is_last g.store (a - 1)) (some (recovering_ones g) || (eqb (coordinator (cabinet g (a - 1))) (a - 1) && parted)) (last_found g (a - 1))
      (or_reflects (some (recovering_ones g)) (eqb (coordinator (cabinet g (a - 1))) (a - 1) && parted) (some_recovers g)
      (and_reflects (eqb (coordinator (cabinet g (a - 1))) (a - 1)) parted (same_number (coordinator (cabinet g (a - 1))) (a - 1))
      (not_reached (sound_links g) (set (working g) (a - 1) false))))

  -- a first or second one
  trip_causes : trips_of g (a - 1) < 2 → Reflects (trip_crashes g (a - 1)) (Cause g (Trip a))
  trip_causes few = (λ e. to (trip_found.0 e), λ c. trip_found.1 (from c))
    where
      to : Tripping → Cause g (Trip a)
      to (inl p) = store_trips p
      to (inr (inl r)) = trips_in_recovery r
      to (inr (inr (e, u))) = coordinator_trips e (fail_parts u)

      -- a coordinator's fail crashes by its store, by a recovery or by reach, and so does its trip
      from : Cause g (Trip a) → Tripping
      from (store_trips p) = inl p
      from (trips_in_recovery r) = inr (inl r)
      from (coordinator_trips e (store_fails p)) = inl p
      from (coordinator_trips e (fails_in_recovery r)) = inr (inl r)
      from (coordinator_trips e (fail_parts u)) = inr (inr (e, u))
      from (third_trip l c) = absurd (omega arith)

  -- a third one is a fail
  third_causes : 2 ≤ trips_of g (a - 1) → Cause g (Fail a) ↔ Cause g (Trip a)
  third_causes l = (λ c. third_trip l c, from)
    where
      from : Cause g (Trip a) → Cause g (Fail a)
      from (store_trips p) = store_fails p
      from (trips_in_recovery r) = fails_in_recovery r
      from (coordinator_trips e c) = c
      from (third_trip l c) = c

  trip_answers : Answers g (Trip a) (trip_step g (a - 1))
  unfolding trip_step trip_once
  trip_answers = go (ltb (trips_of g (a - 1)) 2) refl
    where
      go : (t : Bool) → ltb (trips_of g (a - 1)) 2 ≡ t
          → Answers g (Trip a) (cond t (trip_once g (a - 1) (trips_of g (a - 1) + 1)) (fail_step g (a - 1)))
      go true e =
          recast (λ c. (refl, c), λ p. p.1) (crash_if (trip_crashes g (a - 1)) _ (trip_causes (ltb-true (trips_of g (a - 1)) 2 e)))
      go false e =
          let c = third_causes (ltb-false (trips_of g (a - 1)) 2 e) in
          recast (λ p. (refl, c.0 p.1), λ p. (refl, c.1 p.1)) (fail_answers g a)

-- ---- damage

damage_answers : (g : Group) (a b p : ℕ) (w : Pattern) → Answers g (Damage a b p w) (damage_step g (a - 1) (b - 1) p w)
unfolding damage_step
damage_answers g a b p w =
    guarded (damage_refusal g (a - 1) (b - 1) p w) (kind_listed g (Damage a b p w))
    (recast (λ r. damage_in_recovery r, from) (crash_if (some (recovering_ones g)) _ (some_recovers g)))
  where
    from : Cause g (Damage a b p w) → SomeRecovers g
    from (damage_in_recovery r) = r

-- ---- lose

lose_answers : (g : Group) (a b p : ℕ) → Answers g (Lose a b p) (lose_step g (a - 1) (b - 1) p)
unfolding lose_step
lose_answers g a b p =
    guarded (lose_refusal g (a - 1) (b - 1) p) (kind_listed g (Lose a b p))
    (recast (λ r. loss_in_recovery r, from) (crash_if (some (recovering_ones g)) _ (some_recovers g)))
  where
    from : Cause g (Lose a b p) → SomeRecovers g
    from (loss_in_recovery r) = r

-- ---- deliver

deliver_answers : (g : Group) (a b : ℕ) → Answers g (Deliver a b) (deliver_step g (a - 1) (b - 1))
unfolding deliver_step delivered
deliver_answers g a b =
    guarded (deliver_refusal g (a - 1) (b - 1)) (kind_listed g (Deliver a b))
    (recast (to, from)
    (only_if (marked (in_use (cabinet g (b - 1))) (a - 1)) _ (itself (marked (in_use (cabinet g (b - 1))) (a - 1)))
    (receive_answers g (a - 1) (b - 1) (oldest (line g (a - 1) (b - 1))))))
  where
    to : LineInUse g (a - 1) (b - 1) × Upset g (a - 1) (b - 1) (oldest (line g (a - 1) (b - 1))) → Cause g (Deliver a b)
    to (t, inl meet) = places_meet t meet
    to (t, inr (find, u)) = link_parts t find u

    from : Cause g (Deliver a b) → LineInUse g (a - 1) (b - 1) × Upset g (a - 1) (b - 1) (oldest (line g (a - 1) (b - 1)))
    from (places_meet t meet) = (t, inl meet)
    from (link_parts t find u) = (t, inr (find, u))

-- ---- all kinds

performs : (g : Group) (s : Step) → Answers g s (perform g s)
unfolding send_step note_step begin_step write_step saved_step fetch_step restored_step unsure_step
performs g (Send a b p q) = harmless g (Send a b p q) _ (λ c. elim c [ ])
performs g (Note a p q) = harmless g (Note a p q) _ (λ c. elim c [ ])
performs g (Begin a) = harmless g (Begin a) _ (λ c. elim c [ ])
performs g (Deliver a b) = deliver_answers g a b
performs g (Write a) = harmless g (Write a) _ (λ c. elim c [ ])
performs g (Saved a) = harmless g (Saved a) _ (λ c. elim c [ ])
performs g (Fetch a) = harmless g (Fetch a) _ (λ c. elim c [ ])
performs g (Restored a) = harmless g (Restored a) _ (λ c. elim c [ ])
performs g (Fail a) = fail_answers g a
performs g (Damage a b p q) = damage_answers g a b p q
performs g (Lose a b p) = lose_answers g a b p
performs g (Trip a) = trip_answers g a
performs g (Unsure a) = harmless g (Unsure a) _ (λ c. elim c [ ])

-- ---- checks 8 to 12

work_listed : (g : Group) (s : Step) → Listed (work_numbers s) (need (actor_works g s) 12 0)
work_listed g (Send a b p q) = search (checks, nothing)
work_listed g (Note a p q) = search (checks, nothing)
work_listed g (Begin a) = search (checks, nothing)
work_listed g (Deliver a b) = search (checks, nothing)
work_listed g (Write a) = search (checks, nothing)
work_listed g (Saved a) = nothing
work_listed g (Fetch a) = search (checks, nothing)
work_listed g (Restored a) = search (checks, nothing)
work_listed g (Fail a) = search (checks, nothing)
work_listed g (Damage a b p q) = nothing
work_listed g (Lose a b p) = search (checks, nothing)
work_listed g (Trip a) = search (checks, nothing)
work_listed g (Unsure a) = search (checks, nothing)

entry_listed : (g : Group) (s : Step) → Listed (10 ∷ 11 ∷ work_numbers s) (entry_refusal g s)
entry_listed g s = search (checks, work_listed)

decoded_answers : (g : Group) (d : Decoded) → Answer g (refusal_numbers d) (Crashes g d) (step_decoded g d)
decoded_answers g Malformed = refused refl (λ c. elim c [ ])
decoded_answers g Unused = refused refl (λ c. elim c [ ])
decoded_answers g (Taken s) = recast (to, from) (refusing (entry_refusal g s) (entry_listed g s) (performs g s))
  where
    to : (entry_refusal g s ≡ 0) × ((kind_refusal g s ≡ 0) × Cause g s) → Crashes g (Taken s)
    to (e, (k, c)) = crashes e k c

    from : Crashes g (Taken s) → (entry_refusal g s ≡ 0) × ((kind_refusal g s ≡ 0) × Cause g s)
    from (crashes e k c) = (e, (k, c))

-- no refusal number is 50
pub not_fifty : (d : Decoded) → among 50 (refusal_numbers d) ≡ false
not_fifty Malformed = refl
not_fifty Unused = refl
not_fifty (Taken (Send a b p q)) = refl
not_fifty (Taken (Note a p q)) = refl
not_fifty (Taken (Begin a)) = refl
not_fifty (Taken (Deliver a b)) = refl
not_fifty (Taken (Write a)) = refl
not_fifty (Taken (Saved a)) = refl
not_fifty (Taken (Fetch a)) = refl
not_fifty (Taken (Restored a)) = refl
not_fifty (Taken (Fail a)) = refl
not_fifty (Taken (Damage a b p q)) = refl
not_fifty (Taken (Lose a b p)) = refl
not_fifty (Taken (Trip a)) = refl
not_fifty (Taken (Unsure a)) = refl

-- ---- the theorems

module _ (g : Group) (r : List ℕ) where
  step_answers : Answer g (refusal_numbers (decode r)) (Crashes g (decode r)) (step g r)
  unfolding step
  step_answers = decoded_answers g (decode r)

  -- "Answers: 0 taken, 50 taken and the group crashed, else the refusal": a number that the paper lists for the record
  pub answers_listed : ((step g r).answer ≡ 0) ⊎ (((step g r).answer ≡ 50) ⊎ (among (step g r).answer (refusal_numbers (decode r)) ≡ true))
  answers_listed = listed step_answers

  -- "A refusal leaves group and store unchanged."
  pub refusal_keeps : ((step g r).answer ≡ 0 → ⊥) → ((step g r).answer ≡ 50 → ⊥) → (step g r).group ≡ g
  refusal_keeps = keeps step_answers

  -- "crash stops the whole group in one step, which puts every working cabinet, a failing one too, in crashed and does nothing else"
  pub crash_stops : (step g r).answer ≡ 50 → (step g r).group ≡ crash_all g
  crash_stops = crashes_all (not_fifty (decode r)) step_answers

  -- "The group crashes when, and only when"
  pub crash_exactly : ((step g r).answer ≡ 50) ↔ Crashes g (decode r)
  crash_exactly = exactly (not_fifty (decode r)) step_answers
