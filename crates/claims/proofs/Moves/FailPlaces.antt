-- Once the neighbours of a failed cabinet have entered error for it, it is the one fault place, and the invariant holds whole again.
use Rattle.std.specs.Prelude.{Some}
use Prim.Native.Nat.{ℕ, zero, suc, ◌<◌}
use mathlib.Core.Path.{◌≡◌, refl, sym, ap, ◌∙◌, subst}
use mathlib.Core.Logic.{◌≢◌, ◌⊎◌, inl, inr, ⊎_elim}
use mathlib.Core.Bool.{Bool, true, false, not, ◌&&◌}
use lib.Dec.{eqb}
use borrow.Author.Tests.{eqb-false, eq-eqb, ne_eqb}
use native.Mathlib.Omega.{arith}
use native.Mathlib.Decide.{ℕ_discrete}
use Rattle.outlet.specs.declared.Party.{Party}
use Rattle.packet.specs.declared.Place.{Place}
use Rattle.packet.specs.declared.Place.TheVariants.{Failed as AtFailed}
use Rattle.state.specs.State.{in_recovery}
use Rattle.claims.proofs.State.Fun.{never, is_true, and_true, and_intro, and_not, not_true_false}
use Rattle.claims.proofs.State.View.{View, Own, Side, used}
use Rattle.table.specs.Table.{is_at}
use Rattle.claims.proofs.State.Methods.{s_alarmed}
use Rattle.claims.proofs.State.ViewMoves.{v_failed}
use Rattle.claims.proofs.Invariant.States.{place_same}
use Rattle.claims.proofs.Invariant.Facts.{Ghost, linked}
use Rattle.claims.proofs.Invariant.Whole.{Inv, PlacesOf, MeetsOf, Place-of, failed, work_of, aware_of, alarm_of}
use Rattle.claims.proofs.Invariant.Words.{un_of, aware_recovers, used_linked}
use Rattle.claims.proofs.Moves.ErrorSeen.{strike_used}
use Rattle.claims.proofs.Moves.Failing.{failed_off, failed_side, still_works, works_on, none_recovers}
use Rattle.claims.proofs.Moves.Alarming.{Alarmed, near, g_said}

-- of the first n numbers one passes a test, or none does
pub one_or_none : (f : ℕ → Bool) (n : ℕ) → ((i : ℕ) × (i < n) × (f i ≡ true)) ⊎ ((i : ℕ) → i < n → f i ≡ false)
one_or_none f zero = inr (λ i l. absurd (omega arith))
one_or_none f (suc n) = go (f n) refl (one_or_none f n)
  where
    go : (t : Bool) → f n ≡ t → ((i : ℕ) × (i < n) × (f i ≡ true)) ⊎ ((i : ℕ) → i < n → f i ≡ false)
        → ((i : ℕ) × (i < suc n) × (f i ≡ true)) ⊎ ((i : ℕ) → i < suc n → f i ≡ false)
    go true e r = inl (n, omega arith, e)
    go false e r =
        ⊎_elim (λ x. inl (x.0, omega (arith, x.1), x.2))
        (λ none. inr (λ i l. elim (ℕ_discrete i n) [ yes q ↦ ap f q ∙ e | no d ↦ none i (omega arith) ])) r

-- what is in use once a is struck is not a
struck_not : (a i d : ℕ) (s : Side) → used (s_alarmed (AtFailed a) i d s) ≡ true → d ≢ a
struck_not a i d s e q =
    never (and_true {s = s.link && true} e).1 (and_not s.cab (eqb d a) (eq-eqb d a q))

-- a was working, others too, and nobody knew of a fault
module _ (n : ℕ) (total : Party → ℕ) (a : ℕ) (v : View) (γ : Ghost) (i : Inv n total v γ) (unfaulted : γ.big.faulted ≡ false) (up : work_of v a ≡ true)
    (other : (j : ℕ) × (j ≢ a) × (work_of v j ≡ true)) (none : (c : ℕ) → in_recovery (v.own c).state ≡ false) where
  pub below_eight : (c : ℕ) → work_of v c ≡ true → c < 8
  below_eight c e = omega (arith, i.core.ground.within c ((i.core.nodes c).placed e), i.core.ground.most)

  abbrev beside : ℕ → Bool
  beside c = work_of v c && (not (eqb c a) && v.sound c a)

  -- some working cabinet has a sound link to it
  neighbour : (c : ℕ) × (c ≢ a) × (work_of v c ≡ true) × (v.sound c a ≡ true)
  neighbour = ⊎_elim found alone (one_or_none beside 8)
    where
      found : (c : ℕ) × (c < 8) × (beside c ≡ true) → (c : ℕ) × (c ≢ a) × (work_of v c ≡ true) × (v.sound c a ≡ true)
      found x =
          let p = and_true {s = work_of v x.0} x.2 in
          let q = and_true {s = not (eqb x.0 a)} p.1 in
          (x.0, eqb-false x.0 a (not_true_false q.0), p.0, q.1)

      alone : ((c : ℕ) → c < 8 → beside c ≡ false) → (c : ℕ) × (c ≢ a) × (work_of v c ≡ true) × (v.sound c a ≡ true)
      alone nobody =
          absurd (never (i.core.ground.reach (λ c. not (eqb c a))
          (λ x y px wx wy s. ap not (ne_eqb y a (λ q. never (and_intro wx (and_intro px (ap (v.sound x) (sym q) ∙ s))) (nobody x (below_eight x wx)))))
          other.0 other.2 (ap not (ne_eqb other.0 a other.1)) a up) (ap not (eq-eqb a a refl)))

  -- which has it in use, so it is alarmed
  pub alarmed_one : (c : ℕ) × (near (v_failed v a) a c ≡ true)
  alarmed_one =
      let x = neighbour in
      let c = x.0 in
      let un = un_of γ.big (v.own c) x.2 (none c) in
      let k : linked (γ.mind c) (γ.mind a) (γ.wire c a) ≡ true =
      and_intro (i.core.ground.sound_links c a x.3) (and_intro ((i.core.nodes c).placed x.2) ((i.core.nodes a).placed up)) in
      (c, and_intro (works_on v a c x.1 x.2) (ap (λ (s : ℕ → Side). used (s a)) (failed_side v a c) ∙ used_linked (i.core.pairs c a) un k))

  failed_meets : (c d : ℕ) → work_of (v_failed v a) c ≡ true → used ((v_failed v a).side c d) ≡ true → d ≢ a → work_of (v_failed v a) d ≡ true
  failed_meets c d e u nd =
      works_on v a d nd (i.meets c d (still_works v a c e).1 (ap (λ (s : ℕ → Side). used (s d)) (sym (failed_side v a c)) ∙ u))

  pub struck_meets : (c d : ℕ) → work_of (v_failed v a) c ≡ true → used (s_alarmed (AtFailed a) c d ((v_failed v a).side c d)) ≡ true → work_of (v_failed v a) d ≡ true
  struck_meets c d e u =
      failed_meets c d e (strike_used (AtFailed a) c d ((v_failed v a).side c d) u) (struck_not a c d ((v_failed v a).side c d) u)

  -- nobody recovers, and who works is not the failed one
  pub failed_none : (c : ℕ) → near (v_failed v a) a c ≡ true → (in_recovery ((v_failed v a).own c).state ≡ false) × (is_at (AtFailed a) c ≡ false)
  failed_none c e =
      (none_recovers v a none c, ne_eqb a c (λ q. (still_works v a c (and_true {s = work_of (v_failed v a) c} e).0).0 (sym q)))

  module _ (δ : Ghost) (w : View) (h : Alarmed n total 8 a (AtFailed a) (v_failed v a) δ w) (faulted : δ.big.faulted ≡ true)
      (tabs : (c : ℕ) → (δ.mind c).tab ≡ (γ.mind c).tab) (links : (c d : ℕ) → (δ.wire c d).lk ≡ (γ.wire c d).lk) where
    abbrev δ' : Ghost
    δ' = g_said δ h.said

    near_eight : (c : ℕ) → near (v_failed v a) a c ≡ true → c < 8
    near_eight c e = below_eight c (still_works v a c (and_true {s = work_of (v_failed v a) c} e).0).1

    -- who is aware was alarmed
    told_of : (c : ℕ) → aware_of w δ' c ≡ true → near (v_failed v a) a c ≡ true
    told_of c e =
        is_true (near (v_failed v a) a c) (λ f.
        never (aware_recovers δ'.big (w.own c) e) (ap (λ (o : Own). in_recovery o.state) (h.others c (inr f)).0 ∙ none_recovers v a none c))

    tab_a : (δ.mind a).tab ≡ true
    tab_a = tabs a ∙ (i.core.nodes a).placed up

    off_a : work_of w a ≡ false
    off_a = h.worked a ∙ failed_off v a

    aware_one : (c : ℕ) × (aware_of w δ' c ≡ true) × ((w.own c).alarm ≡ Some (AtFailed a))
    aware_one =
        let x = alarmed_one in
        let t = h.told x.0 (near_eight x.0 x.1) x.1 in
        (x.0, and_intro faulted t.0, t.1)

    alarmed_places : PlacesOf w δ'
    alarmed_places = record {
      standing = λ e. absurd (never faulted e);
      failed_for = λ x t e.
          let q : x ≡ a = elim (ℕ_discrete x a) [
            | yes s ↦ s
            | no s ↦ absurd (never (h.worked x ∙ works_on v a x s ((i.core.nodes x).present unfaulted (sym (tabs x) ∙ t))) e)
          ] in
          let y = aware_one in
          (y.0, y.1, y.2 ∙ ap (λ (z : ℕ). Some (AtFailed z)) (sym q));
      faulty_for = λ x y l k e.
          absurd (never (sym (links x y) ∙ k) (i.places.standing unfaulted x y ∙ ap (λ (s : ℕ → ℕ → Bool). s x y) (sym h.sound) ∙ e));
      someone = λ e. (aware_one.0, aware_one.1);
      from_one = λ c e p al.
          let n = told_of c e in
          subst (λ (z : Place). Place-of (work_of w) (λ c. (δ.mind c).tab) (aware_of w δ') (alarm_of w) (λ c d. (δ.wire c d).lk) w.sound z)
          (place_same (sym (h.told c (near_eight c n) n).1 ∙ al)) (failed a tab_a off_a);
    }

    alarmed_meets : MeetsOf w
    alarmed_meets c d e u = go (near (v_failed v a) a c) refl
      where
        works_before : work_of (v_failed v a) c ≡ true
        works_before = sym (h.worked c) ∙ e

        go : (t : Bool) → near (v_failed v a) a c ≡ t → work_of w d ≡ true
        go true f =
            let s = ap used (sym ((h.told c (near_eight c f) f).2 d)) ∙ u in
            h.worked d ∙ struck_meets c d works_before s
        go false f =
            let s = ap (λ (x : ℕ → Side). used (x d)) (sym (h.others c (inr f)).1) ∙ u in
            h.worked d
            ∙ failed_meets c d works_before s (λ q. never (and_intro works_before (ap (λ (x : ℕ). used ((v_failed v a).side c x)) (sym q) ∙ s)) f)

    pub alarmed_inv : Inv n total w δ'
    alarmed_inv = record { core = h.core; places = alarmed_places; meets = alarmed_meets }
