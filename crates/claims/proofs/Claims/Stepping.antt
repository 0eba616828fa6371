-- Every step from a group that meets the invariant: it is refused and nothing changes, the group crashes, or the invariant holds again;
-- and where a coordinator ends a recovery in it, demand 3 holds.
use Prim.Native.Nat.{ℕ, ◌+◌, ◌-◌, ◌<◌}
use mathlib.Core.Path.{◌≡◌}
use mathlib.Core.Bool.{true, false, not, ◌&&◌, true≢false}
use lib.Dec.{eqb, ltb, leb}
use borrow.Author.Tests.{eqb-true, eqb-false, leb-true}
use native.Mathlib.Omega.{arith}
use Rattle.marks.specs.Reach.{mark}
use Rattle.outlet.specs.declared.Party.{Party}
use Rattle.packet.specs.Packet.{is_empty}
use Rattle.line.specs.Line.{oldest}
use Rattle.group.specs.declared.Group.{Group}
use Rattle.group.specs.declared.Outcome.{Outcome}
use Rattle.group.specs.Group.{line, rows_of, trips_of, is_crashed, some, recovering_ones}
use Rattle.protocol.specs.declared.Step.{Step}
use Rattle.protocol.specs.declared.Step.TheVariants.{Send, Note, Begin, Deliver, Write, Saved, Fetch, Restored as RestoredStep, Fail, Damage, Lose, Trip, Unsure}
use Rattle.protocol.specs.Kinds.{or_refuse, send_refusal, send_step, note_refusal, note_step, begin_refusal, begin_step, deliver_refusal, deliver_step, write_refusal, write_step, saved_refusal, saved_step, fetch_refusal, fetch_step, restored_refusal, restored_step, fail_crashes, fail_step, damage_refusal, damage_step, lose_refusal, lose_step, trip_crashes, trip_once, trip_step, unsure_refusal, unsure_step}
use Rattle.protocol.specs.Entry.{first_of, second_of, actor_works, is_cabinet, entry_refusal, perform}
use Rattle.protocol.specs.History.{History}
use Rattle.claims.proofs.State.Fun.{and_true, cond_elim, not_true_false}
use Rattle.claims.proofs.State.Every.{passed, Fits, asks_unsure}
use Rattle.claims.proofs.State.View.{view}
use Rattle.claims.proofs.State.Sim.{Fit}
use Rattle.claims.proofs.Invariant.Facts.{Ghost}
use Rattle.claims.proofs.Invariant.Whole.{Inv}
use Rattle.claims.proofs.Invariant.Past.{Past, Next, went_next, kept_next, after}
use Rattle.claims.proofs.Invariant.Staying.{Reports}
use Rattle.claims.proofs.Moves.Noting.{keeps_note}
use Rattle.claims.proofs.Moves.Sending.{keeps_send}
use Rattle.claims.proofs.Moves.Beginning.{keeps_begin}
use Rattle.claims.proofs.Moves.Writing.{keeps_write}
use Rattle.claims.proofs.Moves.Saving.{keeps_saved}
use Rattle.claims.proofs.Moves.Damaging.{keeps_damage}
use Rattle.claims.proofs.Moves.Losing.{keeps_lose}
use Rattle.claims.proofs.Moves.FailStep.{keeps_fail}
use Rattle.claims.proofs.Moves.TripStep.{keeps_trip}
use Rattle.claims.proofs.Moves.UnsureStep.{keeps_unsure}
use Rattle.claims.proofs.Moves.Fetching.{keeps_fetch}
use Rattle.claims.proofs.Moves.RestoredStep.{keeps_restored}
use Rattle.claims.proofs.Moves.Delivering.{keeps_delivered}

-- a cabinet's number in a step, less one
pub named_below : (total : Party → ℕ) (g : Group) (γ : Ghost) → Inv g.n total (view g) γ → (x : ℕ) → is_cabinet g x ≡ true → (x - 1 < g.n) × (x - 1 < 8)
named_below total g γ i x e =
    let u = and_true {s = leb 1 x} e in
    let lo = leb-true 1 x u.0 in
    let hi = leb-true x g.n u.1 in
    (omega arith, omega (arith, i.core.ground.most))

module _ (total : Party → ℕ) (g : Group) (h : History) (γ : Ghost) (w : Fit g) (i : Inv g.n total (view g) γ) (past : Past g.n (view g) γ h)
    (reports : Reports (view g)) where
  -- what a step owes if it is taken
  abbrev Owed : Step → Outcome → Type 0
  Owed s o = o.answer ≡ 0 → Next total g γ o.group (after h g o.group s) (asks_unsure s)

  -- a refusal is not taken
  checked : (s : Step) (k : ℕ) (o : Outcome) → (k ≡ 0 → Owed s o) → Owed s (or_refuse k g o)
  checked s k o f =
      cond_elim (Owed s) (eqb k 0) (λ e. f (eqb-true k 0 e)) (λ e a. absurd (eqb-false k 0 e a))

  abbrev below : (x : ℕ) → is_cabinet g x ≡ true → (x - 1 < g.n) × (x - 1 < 8)
  below = named_below total g γ i

  abbrev Named : Step → Type 0
  Named s = (is_cabinet g (first_of s) ≡ true) × (is_cabinet g (second_of s) ≡ true)

  performed : (s : Step) → Fits s → Named s → actor_works g s ≡ true → Owed s (perform g s)
  unfolding send_step note_step begin_step deliver_step write_step saved_step fetch_step restored_step fail_step damage_step lose_step trip_step trip_once unsure_step
  performed (Send a b p q) f c o =
      checked (Send a b p q) (send_refusal g (a - 1) (b - 1) p q) _
      (λ e _. kept_next i reports (keeps_send total g h γ w i past (a - 1) (b - 1) p q (below a c.0).1 (below b c.1).1 f e))
  performed (Note a p q) f c o =
      checked (Note a p q) (note_refusal g (a - 1) p q) _ (λ e _. kept_next i reports (keeps_note total g h γ w i past (a - 1) p q (below a c.0).1 e))
  performed (Begin a) f c o =
      checked (Begin a) (begin_refusal g (a - 1)) _ (λ e _. kept_next i reports (keeps_begin total g h γ w i past (a - 1) (below a c.0).1 e))
  performed (Deliver a b) f c o =
      checked (Deliver a b) (deliver_refusal g (a - 1) (b - 1)) _
      (λ e d. kept_next i reports (keeps_delivered total g h γ w i past (a - 1) (b - 1) (below a c.0).1 (below b c.1).1 (full e) d))
    where
      full : deliver_refusal g (a - 1) (b - 1) ≡ 0 → is_empty (oldest (line g (a - 1) (b - 1))) ≡ false
      full e =
          not_true_false
          (passed (not (is_empty (oldest (line g (a - 1) (b - 1))))) 17 0 (passed (mark (rows_of g.links) (a - 1) (b - 1)) 12 _ e).1).0
  performed (Write a) f c o =
      checked (Write a) (write_refusal g (a - 1)) _ (λ e _. kept_next i reports (keeps_write total g h γ w i past (a - 1) (below a c.0).1 (below a c.0).0 e))
  performed (Saved a) f c o =
      checked (Saved a) (saved_refusal g (a - 1)) _ (λ e _. kept_next i reports (keeps_saved total g h γ w i past (a - 1) (below a c.0).1 e))
  performed (Fetch a) f c o =
      checked (Fetch a) (fetch_refusal g (a - 1)) _ (λ e _. kept_next i reports (keeps_fetch total g h γ w i past (a - 1) (below a c.0).1 e))
  performed (RestoredStep a) f c o =
      checked (RestoredStep a) (restored_refusal g (a - 1)) _ (λ e _. keeps_restored total g h γ w i past reports (a - 1) (below a c.0).1 o e false)
  performed (Fail a) f c o =
      cond_elim (Owed (Fail a)) (fail_crashes g (a - 1)) (λ _ e. absurd (omega arith))
      (λ e _. kept_next i reports (keeps_fail total g h γ w i past (a - 1) (below a c.0).1 (below a c.0).0 o e))
  performed (Damage a b p q) f c o =
      checked (Damage a b p q) (damage_refusal g (a - 1) (b - 1) p q) _
      (λ e. cond_elim (Owed (Damage a b p q)) (some (recovering_ones g)) (λ _ d. absurd (omega arith))
      (λ r _. kept_next i reports (keeps_damage total g h γ w i past (a - 1) (b - 1) p q (below a c.0).1 (below b c.1).1 f e r)))
  performed (Lose a b p) f c o =
      checked (Lose a b p) (lose_refusal g (a - 1) (b - 1) p) _
      (λ e. cond_elim (Owed (Lose a b p)) (some (recovering_ones g)) (λ _ d. absurd (omega arith))
      (λ r _. kept_next i reports (keeps_lose total g h γ w i past (a - 1) (b - 1) p (below a c.0).1 (below b c.1).1 e r)))
  performed (Trip a) f c o =
      cond_elim (Owed (Trip a)) (ltb (trips_of g (a - 1)) 2)
      (λ _. cond_elim (Owed (Trip a)) (trip_crashes g (a - 1)) (λ _ e. absurd (omega arith))
      (λ e _. kept_next i reports (keeps_trip total g h γ w i past (a - 1) (below a c.0).1 (below a c.0).0 o e (trips_of g (a - 1) + 1))))
      (λ _. cond_elim (Owed (Trip a)) (fail_crashes g (a - 1)) (λ _ e. absurd (omega arith))
      (λ e _. kept_next i reports (keeps_fail total g h γ w i past (a - 1) (below a c.0).1 (below a c.0).0 o e)))
  performed (Unsure a) f c o =
      checked (Unsure a) (unsure_refusal g (a - 1)) _ (λ e _. went_next (λ f. absurd (true≢false f)) (keeps_unsure total g h γ w i past reports (a - 1) (below a c.0).1 e))

  -- the checks that come before every step
  pub entered : (s : Step) → Fits s → Owed s (or_refuse (entry_refusal g s) g (perform g s))
  entered s f =
      checked s (entry_refusal g s) (perform g s)
      (λ e. let one = passed (not (is_crashed g)) 9 _ e in
      let two = passed (is_cabinet g (first_of s) && is_cabinet g (second_of s)) 10 _ one.1 in
      performed s f (and_true {s = is_cabinet g (first_of s)} two.0) (passed (actor_works g s) 11 0 two.1).0)
