-- Lines are first in, first out, and none is ever too short: after every taken step each holds what a line without bounds would hold.
use Prim.Native.Nat.{ℕ, zero, suc, ◌-◌, ◌<◌, ◌+◌}
use mathlib.Core.Path.{◌≡◌, refl, sym, ap, ◌∙◌, subst}
use mathlib.Core.Logic.{⊎_elim}
use mathlib.Core.Bool.{Bool, true, false, not, ◌&&◌}
use mathlib.Core.List.{List, [], ◌∷◌, ◌++◌}
use lib.ListN.{get_or}
use lib.Dec.{eqb, ltb}
use borrow.Author.Tests.{eqb-true, eqb-false}
use native.Mathlib.Omega.{arith}
use Rattle.marks.specs.Reach.{mark}
use Rattle.outlet.specs.declared.Party.{Party}
use Rattle.packet.specs.declared.Packet.TheVariants.{Normal as NormalPacket}
use Rattle.line.specs.declared.Cell.{Cell}
use Rattle.packet.specs.Packet.{is_empty}
use Rattle.line.specs.Line.{empty_cell, oldest}
use Rattle.state.specs.State.{works}
use Rattle.protocol.specs.Moves.{leave, mark_failed, trip, alarm_to}
use Rattle.packet.specs.declared.Place.TheVariants.{Failed as AtFailed, Tripped as AtTripped}
use Rattle.claims.proofs.State.ViewMoves.{view_counted}
use Rattle.group.specs.declared.Group.{Group}
use Rattle.group.specs.declared.Outcome.{Outcome}
use Rattle.group.specs.Group.{cabinet, state_of, line, rows_of, is_crashed, some, recovering_ones, trips_of, with_trips_of}
use Rattle.load.specs.Load.{feeder_total}
use Rattle.protocol.specs.declared.Step.{Step}
use Rattle.protocol.specs.declared.Step.TheVariants.{Send, Note, Begin, Deliver, Write, Saved, Fetch, Restored, Fail, Damage, Lose, Trip, Unsure}
use Rattle.protocol.specs.declared.Decoded.TheVariants.{Taken}
use Rattle.protocol.specs.Kinds.{need, or_refuse, send_refusal, carried, sent, send_step, note_refusal, note_step, begin_refusal, begin_step, deliver_refusal, deliver_step, write_refusal, write_step, saved_refusal, saved_step, fetch_refusal, fetch_step, restored_refusal, restored_step, fail_crashes, fail_step, damage_refusal, hurt, damage_step, lose_refusal, lost, lose_step, trip_crashes, trip_once, trip_step, unsure_refusal, unsure_step}
use Rattle.protocol.specs.Entry.{step, step_decoded, decode, first_of, second_of, actor_works, is_cabinet, entry_refusal, perform}
use Rattle.protocol.specs.History.{History}
use Rattle.protocol.specs.Restored.{world_after}
use Rattle.claims.specs.Bounds.{packets}
use Rattle.claims.specs.Fifo.{handled, came_from, line_after, FirstInFirstOut, PacketsFirst}
use Rattle.claims.proofs.State.Fun.{is_true, and_true, not_true_false, cond_elim, kept_at}
use Rattle.claims.proofs.State.Every.{passed, Fits, FitsIn, decode_fits, every_step}
use Rattle.claims.proofs.State.View.{View, Own, view}
use Rattle.claims.proofs.State.Cells.{Packed, nothing_there}
use Rattle.claims.proofs.State.Shape.{Shaped, Lined, Pictured, shaped}
use Rattle.claims.proofs.State.Sim.{Fit, in_use_lem}
use Rattle.claims.proofs.Invariant.Facts.{Ghost}
use Rattle.claims.proofs.Invariant.Whole.{Inv}
use Rattle.claims.proofs.Invariant.Past.{Past}
use Rattle.claims.proofs.Moves.Sending.{seen as send-seen}
use Rattle.claims.proofs.Moves.Damaging.{hit, seen as damage-seen}
use Rattle.claims.proofs.Moves.Losing.{left, seen as lose-seen}
use Rattle.claims.proofs.Fifo.Unbounded.{Unbounded, idle_same, still}
use Rattle.claims.proofs.Fifo.Alarms.{puts_fail, puts_trip}
use Rattle.claims.proofs.Fifo.Rooms.{ready}
use Rattle.claims.proofs.Fifo.Delivers.{line_at, puts_deliver}
use Rattle.claims.proofs.Fifo.Steps.{cabinet_puts, fetch_puts, write_puts, begin_puts, saved_puts, restored_puts, unsure_puts}
use Rattle.claims.proofs.Moves.FailStep as failing
use Rattle.claims.proofs.Moves.TripStep as tripping
use Rattle.claims.proofs.Claims.Stepping.{named_below}
use Rattle.claims.proofs.Claims.Demand.{Runs, every_list}

module _ (total : Party → ℕ) (g : Group) (h : History) (γ : Ghost) (w : Fit g) (i : Inv g.n total (view g) γ) (past : Past g.n (view g) γ h) where
  abbrev v : View
  v = view g

  abbrev Ends : Step → View → Type 0
  Ends s u = Unbounded (λ a b. handled g s a b (v.lines a b)) (came_from s) v u

  abbrev Owed : Step → Outcome → Type 0
  Owed s o = o.answer ≡ 0 → Ends s (view o.group)

  -- a step that changes its own line and no state
  line_ends : (s : Step) (u : View) → ((c : ℕ) → (u.own c).state ≡ (v.own c).state) → ((c d : ℕ) → u.lines c d ≡ handled g s c d (v.lines c d)) → Ends s u
  line_ends s u = still (λ c d. handled g s c d (v.lines c d)) (came_from s) v u

  checked : (s : Step) (k : ℕ) (o : Outcome) → (k ≡ 0 → Owed s o) → Owed s (or_refuse k g o)
  checked s k o f = cond_elim (Owed s) (eqb k 0) (λ e. f (eqb-true k 0 e)) (λ e a. absurd (eqb-false k 0 e a))

  at : (x : ℕ) → is_cabinet g x ≡ true → (x - 1 < g.n) × (x - 1 < 8)
  at = named_below total g γ i

  failed : (a : ℕ) → is_cabinet g a ≡ true → works (state_of g (a - 1)) ≡ true → Owed (Fail a) (fail_step g (a - 1))
  unfolding fail_step
  failed a x o =
      cond_elim (Owed (Fail a)) (fail_crashes g (a - 1)) (λ _ e. absurd (omega arith))
      (λ e _.
      let gone = failing.gone total g h γ w i past (a - 1) (at a x).1 (at a x).0 o e in
      let after = alarm_to 8 (mark_failed (leave g (a - 1)) (a - 1)) (a - 1) (AtFailed (a - 1)) in
      subst (λ (u : View). Unbounded u.lines (λ c d. false) u (view after)) gone.seen
      (puts_fail (λ c d. false) (leave g (a - 1)) gone.fit (a - 1) (at a x).1
      (ready total (leave g (a - 1)) γ gone.fit gone.inv (a - 1) (failing.up1 total g h γ w i past (a - 1) (at a x).1 (at a x).0 o e)
      (failing.found1 total g h γ w i past (a - 1) (at a x).1 (at a x).0 o e).1)))

  -- a third trip is a fail
  tripped : (a : ℕ) → is_cabinet g a ≡ true → works (state_of g (a - 1)) ≡ true → Owed (Trip a) (trip_step g (a - 1))
  unfolding trip_step trip_once
  tripped a x o =
      cond_elim (Owed (Trip a)) (ltb (trips_of g (a - 1)) 2)
      (λ _. cond_elim (Owed (Trip a)) (trip_crashes g (a - 1)) (λ _ e. absurd (omega arith))
      (λ e _.
      let k = trips_of g (a - 1) + 1 in
      let counted = with_trips_of g (a - 1) k in
      let gone = tripping.gone total g h γ w i past (a - 1) (at a x).1 (at a x).0 o e k in
      let after = alarm_to 8 (trip (leave counted (a - 1)) (a - 1)) (a - 1) (AtTripped (a - 1)) in
      subst (λ (u : View). Unbounded u.lines (λ c d. false) u (view after)) (view_counted g (a - 1) k)
      (subst (λ (u : View). Unbounded u.lines (λ c d. false) u (view after)) gone.seen
      (puts_trip (λ c d. false) (leave counted (a - 1)) gone.fit (a - 1) (at a x).1
      (ready total (leave counted (a - 1)) γ gone.fit gone.inv (a - 1) (tripping.up1 total g h γ w i past (a - 1) (at a x).1 (at a x).0 o e k)
      (tripping.found1 total g h γ w i past (a - 1) (at a x).1 (at a x).0 o e k).1)))))
      (λ _. failed a x o)

  performed : (s : Step) → Fits s → is_cabinet g (first_of s) ≡ true → is_cabinet g (second_of s) ≡ true → actor_works g s ≡ true → Owed s (perform g s)
  unfolding send_step note_step begin_step deliver_step write_step saved_step fetch_step restored_step damage_step lose_step unsure_step
  performed (Send a b p q) f x y o =
      checked (Send a b p q) (send_refusal g (a - 1) (b - 1) p q) _ (λ e _.
      let seen = send-seen total g h γ w i past (a - 1) (b - 1) p q (at a x).1 (at b y).1 f e in
      line_ends (Send a b p q) (view (sent g (a - 1) (b - 1) p q)) (λ c. ap (λ (u : View). (u.own c).state) seen ∙ kept_at (λ (z : Own). z.state) v.own (a - 1) _ refl c)
      (λ c d. ap (λ (u : View). u.lines c d) seen ∙ line_at v.lines (λ l. l ++ (NormalPacket (carried g p q) ∷ [])) (a - 1) (b - 1) c d))
  performed (Note a p q) f x y o = checked (Note a p q) (note_refusal g (a - 1) p q) _ (λ e _. cabinet_puts total g γ w i (a - 1) _ (at a x).1 (idle_same (state_of g (a - 1))))
  performed (Begin a) f x y o = checked (Begin a) (begin_refusal g (a - 1)) _ (λ e _. begin_puts total g γ w i (a - 1) (at a x).1 o e)
  performed (Deliver a b) f x y o =
      checked (Deliver a b) (deliver_refusal g (a - 1) (b - 1)) _
      (λ e. puts_deliver total g h γ w i past (a - 1) (b - 1) (at a x).1 (at b y).1 o
      (not_true_false (passed (not (is_empty (oldest (line g (a - 1) (b - 1))))) 17 0 (passed (mark (rows_of g.links) (a - 1) (b - 1)) 12 _ e).1).0))
  performed (Write a) f x y o = checked (Write a) (write_refusal g (a - 1)) _ (λ e _. write_puts total g γ w i (a - 1) (at a x).1 (at a x).0 e (not (ltb (cabinet g (a - 1)).noted.pieces 3)))
  performed (Saved a) f x y o = checked (Saved a) (saved_refusal g (a - 1)) _ (λ e _. saved_puts total g γ w i (a - 1) (at a x).1 e)
  performed (Fetch a) f x y o = checked (Fetch a) (fetch_refusal g (a - 1)) _ (λ e _. fetch_puts total g γ w i (a - 1) (at a x).1 e)
  performed (Restored a) f x y o = checked (Restored a) (restored_refusal g (a - 1)) _ (λ e _. restored_puts total g γ w i (a - 1) (at a x).1 e)
  performed (Fail a) f x y o = failed a x o
  performed (Damage a b p q) f x y o =
      checked (Damage a b p q) (damage_refusal g (a - 1) (b - 1) p q) _ (λ e.
      cond_elim (Owed (Damage a b p q)) (some (recovering_ones g)) (λ _ d. absurd (omega arith)) (λ r _.
      let seen = damage-seen total g h γ w i past (a - 1) (b - 1) p q (at a x).1 (at b y).1 f e r in
      line_ends (Damage a b p q) (view (hurt g (a - 1) (b - 1) p q)) (λ c. ap (λ (u : View). (u.own c).state) seen)
      (λ c d. ap (λ (u : View). u.lines c d) seen ∙ line_at v.lines (λ l. hit l p q) (a - 1) (b - 1) c d)))
  performed (Lose a b p) f x y o =
      checked (Lose a b p) (lose_refusal g (a - 1) (b - 1) p) _ (λ e.
      cond_elim (Owed (Lose a b p)) (some (recovering_ones g)) (λ _ d. absurd (omega arith)) (λ r _.
      let seen = lose-seen total g h γ w i past (a - 1) (b - 1) p (at a x).1 (at b y).1 e r in
      line_ends (Lose a b p) (view (lost g (a - 1) (b - 1) p)) (λ c. ap (λ (u : View). (u.own c).state) seen)
      (λ c d. ap (λ (u : View). u.lines c d) seen ∙ line_at v.lines (λ l. left l p) (a - 1) (b - 1) c d)))
  performed (Trip a) f x y o = tripped a x o
  performed (Unsure a) f x y o = checked (Unsure a) (unsure_refusal g (a - 1)) _ (λ e _. unsure_puts total g γ w i (a - 1) (at a x).1 e)

  -- the checks that come before every step
  entered : (s : Step) → Fits s → Owed s (or_refuse (entry_refusal g s) g (perform g s))
  entered s f =
      checked s (entry_refusal g s) (perform g s)
      (λ e. let one = passed (not (is_crashed g)) 9 _ e in
      let two = passed (is_cabinet g (first_of s) && is_cabinet g (second_of s)) 10 _ one.1 in
      let named = and_true {s = is_cabinet g (first_of s)} two.0 in
      performed s f named.0 named.1 (passed (actor_works g s) 11 0 two.1).0)

-- ---- every run

-- nothing is taken of a crashed group
not_crashed : (g : Group) (s : Step) → (or_refuse (entry_refusal g s) g (perform g s)).answer ≡ 0 → is_crashed g ≡ true → ⊥
not_crashed g s e c =
    let f : ◌≡◌ {A = ℕ} 10 0 = sym (ap (λ (t : Bool). (or_refuse (need (not t) 10 (need (is_cabinet g (first_of s) && is_cabinet g (second_of s)) 11 (need (actor_works g s) 12 0))) g (perform g s)).answer) c) ∙ e in
    omega (arith, f)

opened : (g : Group) (r : List ℕ) (s : Step) → decode r ≡ Taken s → step g r ≡ or_refuse (entry_refusal g s) g (perform g s)
unfolding step
opened g r s e = ap (step_decoded g) e

pub first_in_first_out : FirstInFirstOut
first_in_first_out f of e xs o r or s d taken a b = ⊎_elim (λ c. absurd (not_crashed g s (sym (ap (λ (x : Outcome). x.answer) is) ∙ taken) c)) goes (every_list f of e xs o).going
  where
    g : Group
    g = (world_after f xs).group

    is : step g r ≡ or_refuse (entry_refusal g s) g (perform g s)
    is = opened g r s d

    goes : Runs (feeder_total f) g (world_after f xs).history → packets (step g r).group a b ≡ line_after g (step g r).group s a b
    goes w =
        let fit = every_step Shaped Lined Pictured shaped g r or w.fit in
        rw (in_use_lem (cabinet (step g r).group a) (fit.cabs a) b)
        (subst (λ (x : Outcome). Unbounded (λ i j. handled g s i j ((view g).lines i j)) (came_from s) (view g) (view x.group)) (sym is)
        (entered (feeder_total f) g (world_after f xs).history w.ghost w.fit w.inv w.past s (subst FitsIn d (decode_fits r or))
        (sym (ap (λ (x : Outcome). x.answer) is) ∙ taken)) a b)

-- ---- packets stand first

packed_next : (cs : List Cell) (k : ℕ) → Packed cs → is_empty (get_or cs k empty_cell).packet ≡ true → is_empty (get_or cs (suc k) empty_cell).packet ≡ true
unfolding Packed
packed_next [] k h e = refl
packed_next (c ∷ cs) zero h e = is_true _ (λ f. nothing_there cs 0 (h.0 e) f)
packed_next (c ∷ cs) (suc k) h e = packed_next cs k h.1 e

pub packets_first : PacketsFirst
packets_first f of e xs o a b k = packed_next (line (world_after f xs).group a b).cells k ((every_list f of e xs o).fit.lines a b).packed
