-- A fail or a trip: the lines of that cabinet are emptied both ways, and its neighbours' lines hold what they say on entering error; one
-- that trips puts its fault.
use Rattle.std.specs.Prelude.{Some}
use Prim.Native.Nat.{ℕ, zero, suc, ◌<◌, ◌≤◌}
use mathlib.Core.Path.{◌≡◌, refl, sym, ap, ◌∙◌, subst}
use mathlib.Core.Logic.{◌≢◌}
use mathlib.Core.Bool.{Bool, true, false, cond, not, ◌&&◌, and-not_self}
use mathlib.Core.List.{List, [], ◌∷◌}
use lib.Dec.{eqb, ltb}
use borrow.Author.Tests.{eq-eqb, ne_eqb, lt-ltb}
use native.Mathlib.Omega.{arith}
use native.Mathlib.Decide.{ℕ_discrete, dec_lt}
use Rattle.marks.specs.Marks.{marked}
use Rattle.packet.specs.declared.Check.{Check}
use Rattle.packet.specs.declared.Packet.{Packet}
use Rattle.packet.specs.declared.Packet.TheVariants.{Fault}
use Rattle.packet.specs.declared.Place.{Place}
use Rattle.packet.specs.declared.Place.TheVariants.{Failed as AtFailed, Tripped as AtTripped}
use Rattle.packet.specs.Packet.{same_place}
use Rattle.state.specs.declared.State.{State}
use Rattle.state.specs.declared.State.TheVariants.{Normal, Error, Failed}
use Rattle.state.specs.declared.Version.{Version}
use Rattle.state.specs.declared.Version.TheVariants.{Lost}
use Rattle.cabinet.specs.Alarm.{Alarm}
use Rattle.state.specs.State.{is_in, works}
use Rattle.cabinet.specs.Cabinet.{in_use}
use Rattle.group.specs.declared.Group.{Group}
use Rattle.group.specs.Group.{cabinet, state_of}
use Rattle.protocol.specs.Moves.{mark_failed, trip, alarm_to, neighbours, enter_error_if}
use Rattle.protocol.specs.History.{upd}
use Rattle.protocol.specs.Receive.{serving}
use Rattle.claims.proofs.State.Fun.{never, is_true, and_true, and-false, and_off, and_same, upd_same, upd_other}
use Rattle.claims.proofs.State.Every.{ok_mark_failed, ok_trip, ok_alarm}
use Rattle.claims.proofs.State.View.{View, Own, Side, used, view}
use Rattle.claims.proofs.State.Shape.{Shaped, Lined, Pictured, shaped}
use Rattle.claims.proofs.State.Sim.{Fit, in_use_lem}
use Rattle.claims.proofs.State.ViewMoves.{v_failed, sim_failed, lead_after, sim_tripped}
use Rattle.claims.proofs.Invariant.States.{serving_calm, serves_or_restores}
use Rattle.claims.proofs.Moves.ErrorSeen.{erred_state, erred, erred_line, o_erred, s_erred, error_seen, sim_error, erred_works}
use Rattle.claims.proofs.Moves.Failing.{failed_own, other_own, failed_side, still_works}
use Rattle.claims.proofs.Moves.Tripping.{o_tripped, tripped, tripped_seen}
use Rattle.claims.proofs.Fifo.Unbounded.{put_on, put_none, enters, enters_none, cond_same, cut_none, cut_still, Unbounded, still, one}
use Rattle.claims.proofs.Fifo.Puts.{put_error, enters_error}
use Rattle.claims.proofs.Fifo.Rooms.{Ready}

-- ---- its neighbours enter error, one after the other

-- k is as it was, serves, and enters error for another place than its own trip
abbrev Near : View → View → Place → ℕ → Type 0
Near v w q k = (w.own k ≡ v.own k) × (serving (v.own k).state ≡ true) × (same_place q (AtTripped k) ≡ false)

module _ (back : ℕ → ℕ → Bool) (v : View) (a : ℕ) (q : Place) (g1 : Group) (fit1 : Fit g1) where
  abbrev Ends : View → Type 0
  Ends w = Unbounded v.lines back v w

  abbrev after : ℕ → View
  after k = view (alarm_to k g1 a q)

  abbrev So : ℕ → View → Type 0
  So k w = Ends w × ((j : ℕ) → k ≤ j → w.own j ≡ (view g1).own j)

  one_more : (k : ℕ) (w : View) → Near v (view g1) q k → So k w → So (suc k) (erred w k q)
  one_more k w n h =
      let o = o_erred (w.own k) q (lead_after w k q) in
      let s = (v.own k).state in
      let x = (w.own k).version in
      let same : (w.own k).state ≡ s = ap (λ (y : Own). y.state) (h.1 k (omega arith) ∙ n.0) in (
        one v.lines back v w k o (s_erred w k q) (λ b. erred_line x q (used (s_erred w k q b))) w.slots
            (cut_none s o k (erred_works x ∙ sym (serving_calm s n.1).0) (and_off (enters s (erred_state x)) (same_place q (AtTripped k)) n.2) ∙ sym (cut_still s (w.own k) k same))
            (λ b. rw (put_error s x q (v.side k b).put (back k b) n.1, enters_error s x n.1)) h.0,
        λ j l. upd_other w.own k o j (λ r. omega arith) ∙ h.1 j (omega arith),
      )

  alarms : Ends (view g1) → ((k : ℕ) → neighbours g1 k a ≡ true → Near v (view g1) q k) → (k : ℕ) → k ≤ 8 → So k (after k)
  unfolding alarm_to
  alarms start near zero l = (start, λ j m. refl)
  alarms start near (suc k) l = go (neighbours g1 k a) refl (alarms start near k (omega arith))
    where
      go : (t : Bool) → neighbours g1 k a ≡ t → So k (after k) → So (suc k) (view (enter_error_if t (alarm_to k g1 a q) k q))
      go true e h =
          subst (So (suc k))
          (sym (sim_error (alarm_to k g1 a q) (ok_alarm Shaped Lined Pictured shaped k g1 a q fit1) k q (omega arith) ∙ error_seen (after k) k q))
          (one_more k (after k) (near k e) h)
      go false e h = (h.0, λ j m. h.1 j (omega arith))

-- ---- what is put by one that fails, and by one that trips

put_failed : (s : State) (x : Version) (q : Alarm) (k : Check) (back : Bool) → put_on s Failed x q k back ≡ []
put_failed s x q k back = rw (and-false (is_in s Normal), and-false (not (is_in s Normal)), and-false (serving s), and-false (is_in s Error))

put_tripped : (s : State) (x : Version) (q : Place) (k : Check) (back : Bool) → serving s ≡ true → put_on s Error x (Some q) k back ≡ Fault q ∷ []
put_tripped s x q k back e = rw (and-false (is_in s Normal), and-false (not (is_in s Normal)), e)

cond_empty : (t : Bool) (l : List Packet) → l ≡ [] → cond t [] l ≡ []
cond_empty true l e = refl
cond_empty false l e = e

-- who works serves, where nobody recovers
serves_now : (v : View) (a : ℕ) → Ready v a → (k : ℕ) → works (v.own k).state ≡ true → serving (v.own k).state ≡ true
serves_now v a r k e = is_true (serving (v.own k).state) (λ f. never (serves_or_restores (v.own k).state e (r.running k) f) (r.nobody k))

-- ---- a fail

module _ (back : ℕ → ℕ → Bool) (v : View) (a : ℕ) (r : Ready v a) where
  from_failed : (d : ℕ) → (v_failed v a).lines a d ≡ []
  from_failed d = cond_empty (ltb a 8 && eqb d a) _ (ap (λ (f : ℕ → List Packet). f d) (upd_same v.lines a (λ b. [])))

  to_failed : (c : ℕ) → c ≢ a → (v_failed v a).lines c a ≡ []
  to_failed c n = elim (dec_lt c 8) [
    | yes l ↦ rw (lt-ltb c 8 l, eq-eqb a a refl)
    | no m ↦ cond_empty (ltb c 8 && eqb a a) _ (ap (λ (f : ℕ → List Packet). f a) (upd_other v.lines a (λ b. []) c n) ∙ r.past c a (omega arith))
  ]

  off_failed : (c d : ℕ) → c ≢ a → d ≢ a → (v_failed v a).lines c d ≡ v.lines c d
  off_failed c d n m = rw (ne_eqb d a m, and-false (ltb c 8), upd_other v.lines a (λ b. []) c n)

  ends_failed : Unbounded v.lines back v (v_failed v a)
  ends_failed c d = elim (ℕ_discrete c a) [
    | yes e ↦ rw (e, failed_own v a, put_failed (v.own a).state, and-false (serving (v.own a).state), r.up, cond_same) (from_failed d)
    | no n ↦ elim (ℕ_discrete d a) [
      | yes f ↦ rw (f, failed_own v a, other_own v a c n, put_none (v.own c).state, enters_none (v.own c).state, and-not_self (works (v.own c).state), r.up, cond_same) (to_failed c n)
      | no m ↦ rw (other_own v a c n, other_own v a d m, failed_side v a c, off_failed c d n m) (still v.lines back v v (λ j. refl) (λ i j. refl) c d)
    ]
  ]

pub puts_fail : (back : ℕ → ℕ → Bool) (g : Group) → Fit g → (a : ℕ) → a < 8 → Ready (view g) a
    → Unbounded (view g).lines back (view g) (view (alarm_to 8 (mark_failed g a) a (AtFailed a)))
puts_fail back g fit a la r =
    (alarms back (view g) a (AtFailed a) (mark_failed g a) (ok_mark_failed Shaped Lined Pictured shaped g a fit) (subst (Unbounded (view g).lines back (view g)) (sym seen) (ends_failed back (view g) a r)) near 8 (omega arith)).0
  where
    seen : view (mark_failed g a) ≡ v_failed (view g) a
    seen = sim_failed g fit a la

    -- a neighbour that still works served before
    near : (k : ℕ) → neighbours (mark_failed g a) k a ≡ true → Near (view g) (view (mark_failed g a)) (AtFailed a) k
    near k e =
        let on = still_works (view g) a k (ap (λ (u : View). works (u.own k).state) (sym seen) ∙ (and_true {s = works (state_of (mark_failed g a) k)} e).0) in
        (ap (λ (u : View). u.own k) seen ∙ other_own (view g) a k on.0, serves_now (view g) a r k on.1, refl)

-- ---- a trip

module _ (back : ℕ → ℕ → Bool) (v : View) (a : ℕ) (r : Ready v a) where
  abbrev q : Place
  q = AtTripped a

  abbrev o' : Own
  o' = o_tripped (v.own a) a (lead_after v a q)

  tripped_own : (tripped v a).own a ≡ o'
  tripped_own = upd_same v.own a o'

  untripped_own : (c : ℕ) → c ≢ a → (tripped v a).own c ≡ v.own c
  untripped_own c n = upd_other v.own a o' c n

  untripped_side : (c : ℕ) → c ≢ a → (tripped v a).side c ≡ v.side c
  untripped_side c n = upd_other v.side a (s_erred v a q) c n

  -- nobody strikes a tripped one
  still_used : (d : ℕ) → used (s_erred v a q d) ≡ used (v.side a d)
  still_used d = rw (and_same (v.side a d).link, and_same (v.side a d).cab)

  tripped_used : (d : ℕ) → used ((tripped v a).side a d) ≡ used (v.side a d)
  tripped_used d = ap (λ (f : ℕ → Side). used (f d)) (upd_same v.side a (s_erred v a q)) ∙ still_used d

  serves : serving (v.own a).state ≡ true
  serves = serves_now v a r a r.up

  -- its own lines hold its fault
  from_tripped : (d : ℕ) → (tripped v a).lines a d ≡ cond (used (v.side a d)) (Fault q ∷ []) []
  from_tripped d = elim (ℕ_discrete d a) [
    | yes e ↦ cond_empty (ltb a 8 && eqb d a) _ (raised d ∙ none d e) ∙ sym (none d e)
    | no n ↦ rw (ne_eqb d a n, and-false (ltb a 8)) (raised d)
  ]
    where
      raised : (d : ℕ) → upd v.lines a (λ b. erred_line Lost q (used (s_erred v a q b))) a d ≡ cond (used (v.side a d)) (Fault q ∷ []) []
      raised d = ap (λ (f : ℕ → List Packet). f d) (upd_same v.lines a _) ∙ ap (erred_line Lost q) (still_used d)

      none : (d : ℕ) → d ≡ a → cond (used (v.side a d)) (Fault q ∷ []) [] ≡ []
      none d e = rw (e, r.alone)

  other_lines : (c d : ℕ) → c ≢ a → upd v.lines a (λ b. erred_line Lost q (used (s_erred v a q b))) c d ≡ v.lines c d
  other_lines c d n = ap (λ (f : ℕ → List Packet). f d) (upd_other v.lines a _ c n)

  to_tripped : (c : ℕ) → c ≢ a → (tripped v a).lines c a ≡ []
  to_tripped c n = elim (dec_lt c 8) [
    | yes l ↦ rw (lt-ltb c 8 l, eq-eqb a a refl)
    | no m ↦ cond_empty (ltb c 8 && eqb a a) _ (other_lines c a n ∙ r.past c a (omega arith))
  ]

  off_tripped : (c d : ℕ) → c ≢ a → d ≢ a → (tripped v a).lines c d ≡ v.lines c d
  off_tripped c d n m = rw (ne_eqb d a m, and-false (ltb c 8)) (other_lines c d n)

  ends_tripped : Unbounded v.lines back v (tripped v a)
  ends_tripped c d = elim (ℕ_discrete c a) [
    | yes e ↦ rw (e, tripped_own, tripped_used d, put_tripped (v.own a).state _ q _ _ serves, serves) (from_tripped d)
    | no n ↦ elim (ℕ_discrete d a) [
      | yes f ↦ rw (
        f,
        to_tripped c n,
        tripped_own,
        untripped_own c n,
        put_none (v.own c).state,
        enters_none (v.own c).state,
        and-not_self (works (v.own c).state),
        serves,
        r.up,
        eq-eqb a a refl,
        cond_same,
      )
      | no m ↦ rw (untripped_own c n, untripped_own d m, untripped_side c n, off_tripped c d n m) (still v.lines back v v (λ j. refl) (λ i j. refl) c d)
    ]
  ]

  -- its neighbours are others, and served before
  near_tripped : (g1 : Group) → Fit g1 → view g1 ≡ tripped v a → (k : ℕ) → neighbours g1 k a ≡ true → Near v (view g1) q k
  near_tripped g1 fit1 seen k e =
      let both = and_true {s = works (state_of g1 k)} e in
      let n : k ≢ a = λ x. never (ap (λ (j : ℕ). marked (in_use (cabinet g1 j)) a) (sym x) ∙ both.1) not_itself in
      let same : (view g1).own k ≡ v.own k = ap (λ (u : View). u.own k) seen ∙ untripped_own k n in
      (same, serves_now v a r k (ap (λ (o : Own). works o.state) (sym same) ∙ both.0), ne_eqb a k (λ x. n (sym x)))
    where
      not_itself : marked (in_use (cabinet g1 a)) a ≡ false
      not_itself = in_use_lem (cabinet g1 a) (fit1.cabs a) a ∙ ap (λ (u : View). used (u.side a a)) seen ∙ tripped_used a ∙ r.alone

pub puts_trip : (back : ℕ → ℕ → Bool) (g : Group) → Fit g → (a : ℕ) → a < 8 → Ready (view g) a
    → Unbounded (view g).lines back (view g) (view (alarm_to 8 (trip g a) a (AtTripped a)))
puts_trip back g fit a la r =
    let seen = sim_tripped g fit a la ∙ tripped_seen (view g) a in
    let fit1 = ok_trip Shaped Lined Pictured shaped g a fit in
    (alarms back (view g) a (AtTripped a) (trip g a) fit1 (subst (Unbounded (view g).lines back (view g)) (sym seen) (ends_tripped back (view g) a r))
    (near_tripped back (view g) a r (trip g a) fit1 seen) 8 (omega arith)).0
