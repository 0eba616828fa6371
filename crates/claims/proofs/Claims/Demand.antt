-- Demand 3: for every file that loads and every list of operations, whenever a coordinator ends a recovery.
use Prim.Native.Nat.{ℕ, zero, suc, ◌<◌, ◌≤◌}
use mathlib.Core.Path.{◌≡◌, refl, sym, ap, ◌∙◌, subst}
use mathlib.Core.Logic.{◌⊎◌, inl, inr, ⊎_elim}
use mathlib.Core.Bool.{Bool, true, false, cond, not, ◌&&◌}
use mathlib.Core.List.{List, [], ◌∷◌, ◌++◌}
use mathlib.Core.Option.{Option, some}
use lib.Dec.{eqb, ltb}
use borrow.Author.Tests.{eqb-true, eq-eqb, ne_eqb, lt-ltb}
use native.Mathlib.Omega.{arith}
use native.Mathlib.Decide.{ℕ_discrete, dec_lt}
use Rattle.marks.specs.Marks.{lowest}
use Rattle.marks.specs.MarksLaws.{lowest_le_marked}
use Rattle.outlet.specs.declared.Party.{Party}
use Rattle.packet.specs.declared.PacketVersion.{PacketVersion}
use Rattle.state.specs.declared.State.{State}
use Rattle.state.specs.declared.State.TheVariants.{Normal, Error, Recovered, Crashed}
use Rattle.image.specs.declared.Image.{Image}
use Rattle.cabinet.specs.declared.Cabinet.{Cabinet}
use Rattle.state.specs.State.{is_in, works, in_recovery}
use Rattle.cabinet.specs.Cabinet.{absent, coordinator, crashing, with_state}
use Rattle.points.specs.declared.Point.{Point}
use Rattle.points.specs.declared.Points.{Points}
use Rattle.points.specs.Points.{point_at, with_point, place_of, place_for}
use Rattle.store.specs.Store.{home_in}
use Rattle.group.specs.declared.Group.{Group}
use Rattle.group.specs.declared.Outcome.{Outcome}
use Rattle.group.specs.Group.{cabinet, state_of, those, some as any, is_crashed, quiet, crash_all}
use Rattle.load.specs.Load.{load, cabinet_count, feeder_total}
use Rattle.load.proofs.Loaded.{starts}
use Rattle.protocol.specs.declared.Noted.{Noted}
use Rattle.protocol.specs.declared.Step.{Step}
use Rattle.protocol.specs.declared.Decoded.{Decoded}
use Rattle.protocol.specs.declared.Decoded.TheVariants.{Malformed, Unused, Taken}
use Rattle.protocol.specs.Kinds.{need, or_refuse}
use Rattle.protocol.specs.Entry.{step, step_decoded, decode, first_of, second_of, is_cabinet, actor_works, perform}
use Rattle.protocol.specs.Points.{point_of, point_refusal, take_point, returned, return_refusal, return_to}
use Rattle.protocol.specs.History.{History, Operation, stepping, pointing, returning, World, note_point, note_return, if_taken, record_decoded, advance, run, opening, ends}
use Rattle.protocol.specs.Restored.{Restored, Octets, OctetsIn, AllOctets, world_after, DemandThree}
use Rattle.claims.proofs.State.Fun.{never, and_true, and_intro, not_true_false, cond_elim}
use Rattle.claims.proofs.State.Every.{passed, every_step, FitsIn, decode_fits, asks_unsure, asks_in}
use Rattle.claims.proofs.State.Fixed.{fixed, step_fixed, step_n}
use Rattle.claims.proofs.State.View.{view}
use Rattle.claims.proofs.State.Shape.{Shaped, Lined, Pictured, shaped}
use Rattle.claims.proofs.State.Sim.{Fit}
use Rattle.claims.proofs.State.Loaded.{loaded_fit}
use Rattle.claims.proofs.Answers.Tests.{in_state, those_marked}
use Rattle.claims.proofs.Answers.Entry.{refusal_keeps, crash_stops}
use Rattle.claims.proofs.Invariant.States.{failed_state, not_both}
use Rattle.claims.proofs.Invariant.Facts.{Ghost, unaware}
use Rattle.claims.proofs.Invariant.Whole.{Inv}
use Rattle.claims.proofs.Invariant.Past.{Past, Next, Ended, after, goes_not_normal, quiet_of}
use Rattle.claims.proofs.Invariant.Words.{un_or_aware, un_not_aware, aware_faulted, chief_of}
use Rattle.claims.proofs.Invariant.Opening.{starts_inv, starts_past, starts_silent}
use Rattle.claims.proofs.Invariant.Points.{PointsHeld, none_held, found}
use Rattle.claims.proofs.Invariant.Staying.{Goes, Reports, reports_kept, Silent, reports_none}
use Rattle.claims.proofs.Moves.Returning.{keeps_point, past_point, keeps_return, fit_returned, n_returned, states_returned}
use Rattle.claims.proofs.Claims.Left.{step_leaves}
use Rattle.claims.proofs.Claims.Stepping.{entered}

-- ---- what holds after every list of operations

-- there is a ghost with which the invariant holds

pub record Runs (total : Party → ℕ) (g : Group) (h : History) : Type 0 where
  pub ghost : Ghost
  pub fit : Fit g
  pub inv : Inv g.n total (view g) ghost
  pub past : Past g.n (view g) ghost h
  pub reports : Reports (view g)

abbrev pub Going : (Party → ℕ) → Group → History → Type 0
Going total g h = (is_crashed g ≡ true) ⊎ Runs total g h

-- all has its size and the points stand, whether the group has crashed or not
pub record Good (total : Party → ℕ) (w : World) : Type 0 where
  pub fit : Fit w.group
  pub points : PointsHeld w.group.n total w.points w.history.points
  pub going : Going total w.group w.history

-- ---- a crashed group

crash_cabinet : (g : Group) (c : ℕ) → c < 8 → cabinet (crash_all g) c ≡ crashing (cabinet g c)
unfolding cabinet crash_all
crash_cabinet g zero h = refl
crash_cabinet g (suc zero) h = refl
crash_cabinet g (suc (suc zero)) h = refl
crash_cabinet g (suc (suc (suc zero))) h = refl
crash_cabinet g (suc (suc (suc (suc zero)))) h = refl
crash_cabinet g (suc (suc (suc (suc (suc zero))))) h = refl
crash_cabinet g (suc (suc (suc (suc (suc (suc zero)))))) h = refl
crash_cabinet g (suc (suc (suc (suc (suc (suc (suc zero))))))) h = refl
crash_cabinet g (suc (suc (suc (suc (suc (suc (suc (suc c)))))))) h = absurd (omega arith)

crash_past : (g : Group) (c : ℕ) → 8 ≤ c → cabinet (crash_all g) c ≡ absent
unfolding cabinet crash_all
crash_past g zero h = absurd (omega arith)
crash_past g (suc zero) h = absurd (omega arith)
crash_past g (suc (suc zero)) h = absurd (omega arith)
crash_past g (suc (suc (suc zero))) h = absurd (omega arith)
crash_past g (suc (suc (suc (suc zero)))) h = absurd (omega arith)
crash_past g (suc (suc (suc (suc (suc zero))))) h = absurd (omega arith)
crash_past g (suc (suc (suc (suc (suc (suc zero)))))) h = absurd (omega arith)
crash_past g (suc (suc (suc (suc (suc (suc (suc zero))))))) h = absurd (omega arith)
crash_past g (suc (suc (suc (suc (suc (suc (suc (suc c)))))))) h = refl

not_normal : (c : Cabinet) → is_in (crashing c).phase.state Normal ≡ false
not_normal c = cond_elim (λ (x : Cabinet). is_in x.phase.state Normal ≡ false) (works c.phase.state) (λ _. refl) (λ e. ap (λ (s : State). is_in s Normal) (failed_state c.phase.state e))

crash_normal : (g : Group) (c : ℕ) → is_in (state_of (crash_all g) c) Normal ≡ false
crash_normal g c = elim (dec_lt c 8) [
  | yes l ↦ ap (λ (x : Cabinet). is_in x.phase.state Normal) (crash_cabinet g c l) ∙ not_normal (cabinet g c)
  | no n ↦ ap (λ (x : Cabinet). is_in x.phase.state Normal) (crash_past g c (omega arith))
]

-- nor is one in error
not_error : (c : Cabinet) → is_in (crashing c).phase.state Error ≡ false
not_error c = cond_elim (λ (x : Cabinet). is_in x.phase.state Error ≡ false) (works c.phase.state) (λ _. refl) (λ e. ap (λ (s : State). is_in s Error) (failed_state c.phase.state e))

pub crash_error : (g : Group) (c : ℕ) → is_in (state_of (crash_all g) c) Error ≡ false
crash_error g c = elim (dec_lt c 8) [
  | yes l ↦ ap (λ (x : Cabinet). is_in x.phase.state Error) (crash_cabinet g c l) ∙ not_error (cabinet g c)
  | no n ↦ ap (λ (x : Cabinet). is_in x.phase.state Error) (crash_past g c (omega arith))
]

crashed_one : (g : Group) (c : ℕ) → c < 8 → works (state_of g c) ≡ true → is_crashed (crash_all g) ≡ true
unfolding is_crashed any
crashed_one g c l w =
    let m = those (λ x. is_in x.phase.state Crashed) (crash_all g) in
    let e = those_marked (λ x. is_in x.phase.state Crashed) (crash_all g) c l
    ∙ ap (λ (x : Cabinet). is_in x.phase.state Crashed) (crash_cabinet g c l)
    ∙ ap (λ (t : Bool). is_in (cond t (with_state (cabinet g c) Crashed) (cabinet g c)).phase.state Crashed) w in
    lt-ltb (lowest m) 8 (omega (arith, lowest_le_marked m c e))

-- nothing more is taken
pub stopped : (g : Group) (r : List ℕ) → is_crashed g ≡ true → (step g r).group ≡ g
unfolding step
stopped g r c = go (decode r)
  where
    go : (d : Decoded) → (step_decoded g d).group ≡ g
    go Malformed = refl
    go Unused = refl
    go (Taken s) = ap (λ (t : Bool). (or_refuse (need (not t) 10 (need (is_cabinet g (first_of s) && is_cabinet g (second_of s)) 11 (need (actor_works g s) 12 0))) g (perform g s)).group) c

pub open_step : (g : Group) (r : List ℕ) → step g r ≡ step_decoded g (decode r)
unfolding step
open_step g r = refl

-- no cabinet goes from recovered to normal where the group stays
pub same_state : (g : Group) (j : ℕ) → ends g g j ≡ true → ⊥
same_state g j e = never e (not_both (state_of g (coordinator (cabinet g j))) Recovered Normal refl)

-- some cabinet works: the home of the coordinator
pub works_one : (total : Party → ℕ) (g : Group) (h : History) → Runs total g h → (c : ℕ) × (c < 8) × (works (state_of g c) ≡ true)
works_one total g h w =
    let u = w.inv.core.ground in
    let k = home_in g.store w.ghost.big.chief in
    let v = u.present_works k (u.home_present w.ghost.big.chief (u.within w.ghost.big.chief u.chief_in)) in
    (k, omega (arith, u.within k ((w.inv.core.nodes k).placed v), u.most), v)

-- ---- one step

module _ (total : Party → ℕ) (g : Group) (h : History) (r : List ℕ) (o : Octets r) where
  abbrev g' : Group
  g' = (step g r).group

  abbrev h' : History
  h' = record_decoded h g (step g r) (decode r)

  -- where a coordinator ends a recovery, all is as demanded
  abbrev pub Demanded : Type 0
  Demanded = (j : ℕ) → works (state_of g j) ≡ true → ends g g' j ≡ true → Restored g.n total h' g'

  module _ (w : Runs total g h) where
    abbrev γ : Ghost
    γ = w.ghost

    -- a coordinator that ends a recovery is aware of the fault
    pub stays_ends : {δ : Ghost} → Goes (view g) γ (view g') δ → (j : ℕ) → works (state_of g j) ≡ true → ends g g' j ≡ true → ⊥
    stays_ends stays j wj e = ⊎_elim calm (λ a. never went.1 (goes_not_normal stays k a)) (un_or_aware γ.big ((view g).own k) (ap works recovered))
      where
        k : ℕ
        k = coordinator (cabinet g j)

        went : (is_in (state_of g k) Recovered ≡ true) × (is_in (state_of g' k) Normal ≡ true)
        went = and_true {s = is_in (state_of g k) Recovered} e

        recovered : state_of g k ≡ Recovered
        recovered = (in_state (state_of g k) Recovered).0 went.0

        -- with a fault not yet overcome, k is aware of it; with none, the coordinator does not wait for a resume
        calm : unaware γ.big ((view g).own k) ≡ true → ⊥
        calm u =
            ⊎_elim (λ v. ((w.inv.core.nodes k).in_recovered u recovered).1 (chief_of g.n total g γ w.inv.core j v))
            (λ v. un_not_aware γ.big ((view g).own k) u (and_intro (aware_faulted γ.big ((view g).own j) v) (ap in_recovery recovered)))
            (un_or_aware γ.big ((view g).own j) wj)

    -- who is aware of a fault stays so, or the recovery ends
    abbrev pub Fated : Runs total g' h' → Type 0
    Fated u = Goes (view g) γ (view g') u.ghost ⊎ Ended total g g' h' u.ghost

    -- .. and no report comes unless the record is one
    abbrev pub Unasked : Type 0
    Unasked = asks_in (decode r) ≡ false → Silent (view g) → Silent (view g')

    abbrev pub Onward : Type 0
    Onward = (u : Runs total g' h') × Fated u × Demanded × Unasked

    went_on : (s : Step) → Next total g γ g' (after h g g' s) (asks_unsure s) → h' ≡ after h g g' s → asks_in (decode r) ≡ asks_unsure s → Onward
    went_on s n e k = (
      record {
        ghost = n.ghost;
        fit = every_step Shaped Lined Pictured shaped g r o w.fit;
        inv = subst (λ (m : ℕ). Inv m total (view g') n.ghost) (sym (step_n g r)) n.inv;
        past = subst (λ (m : ℕ). Past m (view g') n.ghost h') (sym (step_n g r)) (subst (Past g.n (view g') n.ghost) (sym e) n.past);
        reports = n.reports;
      },
      subst (λ (y : History). Goes (view g) γ (view g') n.ghost ⊎ Ended total g g' y n.ghost) (sym e) n.fate,
      λ j v f. ⊎_elim (λ x. absurd (stays_ends x j v f)) (λ x. subst (λ (y : History). Restored g.n total y g') (sym e) x.restored) n.fate,
      λ f. n.silent (sym k ∙ f),
    )

    taken_step : (d : Decoded) → FitsIn d → (step_decoded g d).answer ≡ 0 → step g r ≡ step_decoded g d → h' ≡ record_decoded h g (step g r) d → asks_in (decode r) ≡ asks_in d → Onward
    taken_step Malformed f a e q k = absurd (omega arith)
    taken_step Unused f a e q k = absurd (omega arith)
    taken_step (Taken s) f a e q k =
        went_on s
        (subst (λ (x : Outcome). Next total g γ x.group (after h g x.group s) (asks_unsure s)) (sym e) (entered total g h γ w.fit w.inv w.past w.reports s f a))
        (q ∙ ap (λ (t : Bool). cond t (after h g g' s) h) (eq-eqb (step g r).answer 0 (ap (λ (x : Outcome). x.answer) e ∙ a))) k

    pub taken_runs : (step g r).answer ≡ 0 → Onward
    taken_runs a =
        let e = open_step g r in taken_step (decode r) (decode_fits r o) (ap (λ (x : Outcome). x.answer) (sym e) ∙ a) e refl refl

    pub refused_same : (d : Decoded) → ((step g r).answer ≡ 0 → ⊥) → record_decoded h g (step g r) d ≡ h
    refused_same Malformed n = refl
    refused_same Unused n = refl
    refused_same (Taken s) n = ap (λ (t : Bool). cond t (after h g g' s) h) (ne_eqb (step g r).answer 0 n)

    pub crash_ends : (j : ℕ) → (step g r).answer ≡ 50 → ends g g' j ≡ true → ⊥
    crash_ends j f e =
        let k = coordinator (cabinet g j) in
        never (and_true {s = is_in (state_of g k) Recovered} e).1 (ap (λ (x : Group). is_in (state_of x k) Normal) (crash_stops g r f) ∙ crash_normal g k)

    pub crash_holds : (step g r).answer ≡ 50 → is_crashed g' ≡ true
    crash_holds f = let c = works_one total g h w in ap is_crashed (crash_stops g r f) ∙ crashed_one g c.0 c.1 c.2

    one_step : Going total g' h' × Demanded
    one_step = elim (ℕ_discrete (step g r).answer 0) [
      | yes a ↦ let t = taken_runs a in (inr t.0, t.2)
      | no n ↦ elim (ℕ_discrete (step g r).answer 50) [
        | yes f ↦ (
          inl (crash_holds f),
          λ j v e. absurd (crash_ends j f e),
        )
        | no m ↦ let same = refusal_keeps g r n m in (
          inr (record {
            ghost = γ;
            fit = subst Fit (sym same) w.fit;
            inv = subst (λ (x : Group). Inv x.n total (view x) γ) (sym same) w.inv;
            past = subst (λ (x : Group). Past x.n (view x) γ h') (sym same) (subst (Past g.n (view g) γ) (sym (refused_same (decode r) n)) w.past);
            reports = subst (λ (x : Group). Reports (view x)) (sym same) w.reports;
          }),
          λ j v e. absurd (same_state g j (subst (λ (x : Group). ends g x j ≡ true) same e)),
        )
      ]
    ]

  pub going_on : Going total g h → Going total g' h' × Demanded
  going_on (inl c) =
      let same = stopped g r c in
      (inl (ap is_crashed same ∙ c), λ j v e. absurd (same_state g j (subst (λ (x : Group). ends g x j ≡ true) same e)))
  going_on (inr w) = one_step w

-- ---- one operation

module _ (total : Party → ℕ) (w : World) (good : Good total w) where
  abbrev g₀ : Group
  g₀ = w.group

  abbrev h₀ : History
  h₀ = w.history

  abbrev n₀ : ℕ
  n₀ = g₀.n

  -- what holds of the world after an operation, and of a recovery that ends in it
  abbrev WorldOn : World → Type 0
  WorldOn u = Good total u × ((j : ℕ) → works (state_of g₀ j) ≡ true → ends g₀ u.group j ≡ true → Restored n₀ total u.history u.group)

  by_step : (r : List ℕ) → Octets r → WorldOn (advance w (stepping r))
  unfolding advance
  by_step r o =
      let s = going_on total g₀ h₀ r o good.going in (
        record {
          fit = every_step Shaped Lined Pictured shaped g₀ r o good.fit;
          points = subst (λ (m : ℕ). PointsHeld m total w.points (record_decoded h₀ g₀ (step g₀ r) (decode r)).points) (sym (step_n g₀ r))
              (subst (PointsHeld n₀ total w.points) (sym (step_leaves h₀ g₀ (step g₀ r) (decode r)).points) good.points);
          going = s.0;
        },
        s.1,
      )

  -- not crashed, so that the invariant holds
  runs : not (is_crashed g₀) ≡ true → Runs total g₀ h₀
  runs e = ⊎_elim (λ c. absurd (never c (not_true_false e))) (λ x. x) good.going

  by_point : (name : List ℕ) → WorldOn (advance w (pointing name))
  unfolding advance take_point
  by_point name =
      cond_elim (λ (x : Noted). WorldOn (record { group = g₀; points = x.points; history = if_taken x.answer (note_point h₀ name) h₀ })) (eqb k 0)
      (λ e. (taken_point (eqb-true k 0 e), λ j v f. absurd (same_state g₀ j f)))
      (λ e. (subst (λ (t : Bool). Good total (record { group = g₀; points = w.points; history = cond t (note_point h₀ name) h₀ })) (sym e) good, λ j v f. absurd (same_state g₀ j f)))
    where
      k : ℕ
      k = point_refusal w.points g₀ name

      taken_point : k ≡ 0 → Good total (record { group = g₀; points = with_point w.points (place_for w.points name) (point_of g₀ name); history = note_point h₀ name })
      taken_point e =
          let one = passed (not (is_crashed g₀)) 9 _ e in
          let two = passed (quiet g₀) 21 _ one.1 in
          let three = passed (ltb (place_for w.points name) 4) 22 0 two.1 in
          let u = runs one.0 in
          record {
            fit = good.fit;
            points = keeps_point total g₀ h₀ u.ghost u.fit u.inv u.past two.0 name good.points three.0;
            going = inr (record { ghost = u.ghost; fit = u.fit; inv = u.inv; past = past_point u.past name; reports = u.reports });
          }

  by_return : (name : List ℕ) → WorldOn (advance w (returning name))
  unfolding advance return_to
  by_return name =
      cond_elim (λ (x : Outcome). WorldOn (record { group = x.group; points = w.points; history = if_taken x.answer (note_return (h₀.points name) h₀ g₀) h₀ })) (eqb k 0)
      (λ e. returns (eqb-true k 0 e))
      (λ e. (subst (λ (t : Bool). Good total (record { group = g₀; points = w.points; history = cond t (note_return (h₀.points name) h₀ g₀) h₀ })) (sym e) good, λ j v f. absurd (same_state g₀ j f)))
    where
      k : ℕ
      k = return_refusal w.points g₀ name

      p : Point
      p = point_at w.points (place_of w.points name)

      returns : k ≡ 0 → WorldOn (record { group = returned g₀ p; points = w.points; history = note_return (h₀.points name) h₀ g₀ })
      returns e =
          let one = passed (not (is_crashed g₀)) 9 _ e in
          let two = passed (ltb (place_of w.points name) 4) 20 _ one.1 in
          let three = passed (quiet g₀) 21 0 two.1 in
          let u = runs one.0 in
          let f = found good.points name two.0 in
          let m = keeps_return total g₀ h₀ u.ghost u.fit u.inv u.past three.0 p f.0 f.2 in
          let fit = fit_returned g₀ good.fit p f.2 in
          let n = sym (n_returned g₀ good.fit p f.2) in
          subst (λ (x : Option (ℕ → Option Image)). WorldOn (record { group = returned g₀ p; points = w.points; history = note_return x h₀ g₀ })) (sym f.1) (
            record {
              fit = fit;
              points = subst (λ (c : ℕ). PointsHeld c total w.points h₀.points) n good.points;
              going = inr (record {
                ghost = m.ghost;
                fit = fit;
                inv = subst (λ (c : ℕ). Inv c total (view (returned g₀ p)) m.ghost) n m.inv;
                past = subst (λ (c : ℕ). Past c (view (returned g₀ p)) m.ghost (note_return (some f.0) h₀ g₀)) n m.past;
                reports = reports_kept (view g₀) u.ghost (quiet_of u.inv) (view (returned g₀ p)) m.ghost m.stays u.reports;
              });
            },
            λ j v t. absurd (same_ends j (states_returned g₀ good.fit p f.2) t),
          )
        where
          same_ends : (j : ℕ) → ((c : ℕ) → state_of (returned g₀ p) c ≡ state_of g₀ c) → ends g₀ (returned g₀ p) j ≡ true → ⊥
          same_ends j same t =
              let c = coordinator (cabinet g₀ j) in
              same_state g₀ j (ap (λ (s : State). is_in (state_of g₀ c) Recovered && is_in s Normal) (sym (same c)) ∙ t)

  pub one_more : (x : Operation) → OctetsIn x → WorldOn (advance w x)
  one_more (stepping r) o = by_step r o
  one_more (pointing name) o = by_point name
  one_more (returning name) o = by_return name

-- ---- every list of operations

good_run : (total : Party → ℕ) (xs : List Operation) (w : World) → AllOctets xs → Good total w → Good total (run w xs)
unfolding run
good_run total [] w o h = h
good_run total (x ∷ xs) w o h = good_run total xs (advance w x) o.1 (one_more total w h x o.0).0

return_fixed : (ps : Points) (g : Group) (name : List ℕ) → fixed (return_to ps g name).group ≡ fixed g
unfolding return_to returned
return_fixed ps g name = cond_elim (λ (x : Outcome). fixed x.group ≡ fixed g) (eqb (return_refusal ps g name) 0) (λ _. refl) (λ _. refl)

advance_fixed : (x : Operation) (w : World) → fixed (advance w x).group ≡ fixed w.group
unfolding advance
advance_fixed (stepping r) w = step_fixed w.group r
advance_fixed (pointing name) w = refl
advance_fixed (returning name) w = return_fixed w.points w.group name

pub run_fixed : (xs : List Operation) (w : World) → fixed (run w xs).group ≡ fixed w.group
unfolding run
run_fixed [] w = refl
run_fixed (x ∷ xs) w = run_fixed xs (advance w x) ∙ advance_fixed x w

pub advance_n : (x : Operation) (w : World) → (advance w x).group.n ≡ w.group.n
advance_n x w = ap (λ (y : ℕ × PacketVersion). y.0) (advance_fixed x w)

pub run_n : (xs : List Operation) (w : World) → (run w xs).group.n ≡ w.group.n
run_n xs w = ap (λ (y : ℕ × PacketVersion). y.0) (run_fixed xs w)

pub every_list : (f : List ℕ) → Octets f → (load f).answer ≡ 0 → (xs : List Operation) → AllOctets xs → Good (feeder_total f) (world_after f xs)
every_list f of e xs o =
    let st = starts f of e in
    let fit = loaded_fit f of e in
    good_run (feeder_total f) xs (opening (load f).group) o (record {
      fit = fit;
      points = none_held (load f).group.n (feeder_total f);
      going = inr (record { ghost = _; fit = fit; inv = starts_inv f (load f).group st fit; past = starts_past f (load f).group st fit; reports = reports_none (view (load f).group) (starts_silent f (load f).group st fit) });
    })

-- a list and then another
pub run_append : (w : World) (xs ys : List Operation) → run (run w xs) ys ≡ run w (xs ++ ys)
unfolding run
run_append w [] ys = refl
run_append w (x ∷ xs) ys = run_append (advance w x) xs ys

pub octets_append : (xs ys : List Operation) → AllOctets xs → AllOctets ys → AllOctets (xs ++ ys)
octets_append [] ys o p = p
octets_append (x ∷ xs) ys o p = (o.0, octets_append xs ys o.1 p)

-- the number of cabinets is the file's
pub count_after : (f : List ℕ) → Octets f → (load f).answer ≡ 0 → (xs : List Operation) → (world_after f xs).group.n ≡ cabinet_count f
count_after f of e xs = run_n xs (opening (load f).group) ∙ (starts f of e).count

pub demand_three : DemandThree
demand_three f of e xs o x ox j v en =
    subst (λ (n : ℕ). Restored n (feeder_total f) (advance (world_after f xs) x).history (advance (world_after f xs) x).group) (count_after f of e xs)
    ((one_more (feeder_total f) (world_after f xs) (every_list f of e xs o) x ox).1 j v en)
