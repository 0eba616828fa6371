-- Where all working cabinets are in error and unsure of their version, and the coordinator is lost. One of the others has joined the save
-- under way, and what passes over the links of the last recovery's end makes that all but the coordinator: so the old version of
-- each of them names the save that the rule gives, and one of them may go on with it.
use Rattle.std.specs.Prelude.{Some}
use Prim.Native.Nat.{ℕ, ◌<◌}
use mathlib.Core.Path.{◌≡◌, refl, sym, ap, ◌∙◌}
use mathlib.Core.Logic.{◌≢◌, inl, inr, ⊎_elim}
use mathlib.Core.Bool.{Bool, true, false, cond, not, ◌&&◌, false≢true}
use lib.Dec.{eqb}
use borrow.Author.Tests.{eqb-true, eqb-false, ne_eqb}
use native.Mathlib.Omega.{arith}
use Rattle.outlet.specs.declared.Party.{Party}
use Rattle.packet.specs.declared.Place.{Place}
use Rattle.packet.specs.declared.Place.TheVariants.{Tripped as AtTripped}
use Rattle.state.specs.declared.State.TheVariants.{Error}
use Rattle.state.specs.declared.Version.TheVariants.{Unknown}
use Rattle.state.specs.State.{is_unknown}
use Rattle.table.specs.Table.{is_at}
use Rattle.claims.proofs.State.Fun.{never, is_false, and_true, and_intro, not_true_false}
use Rattle.claims.proofs.State.View.{View}
use Rattle.claims.proofs.State.Leading.{next_other}
use Rattle.claims.proofs.Invariant.States.{unknown_old}
use Rattle.claims.proofs.Invariant.Facts.{Ghost, unaware}
use Rattle.claims.proofs.Invariant.Whole.{Core, Inv, Place-of, failed, tripped, faulty, work_of, aware_of, alarm_of, tab_of, lk_of}
use Rattle.claims.proofs.Moves.FirstFault.{g_frozen}
use Rattle.claims.proofs.Moves.ErrorSeen.{v_recover}
use Rattle.claims.proofs.Moves.Erring.{frozen_pair, frozen_node, frozen_books, frozen_lead}
use Rattle.claims.proofs.Moves.Recovering.{recover_inv}

-- the coordinator of the last recovery's end
abbrev chief : Ghost → ℕ
chief γ = γ.big.chief

-- ---- a cabinet whose fault was its coordinator

module _ (n : ℕ) (total : Party → ℕ) (v : View) (γ : Ghost) (i : Inv n total v γ) (c : ℕ) (aw : aware_of v γ c ≡ true) (was : (v.own c).former ≡ true) where
  abbrev place : (q : Place) × ((v.own c).alarm ≡ Some q)
  place = (i.core.nodes c).place_known aw

  -- the fault is the coordinator of the last recovery's end
  at_chief : is_at place.0 (chief γ) ≡ true
  at_chief = sym ((i.core.leads c).moved aw place.0 place.1).0 ∙ was

  -- which is lost
  pub chief_lost : γ.big.alive ≡ false
  chief_lost = is_false γ.big.alive (λ e. alive_not place.0 at_chief (i.places.from_one c aw place.0 place.1) e)
    where
      alive_not : (q : Place) → is_at q (chief γ) ≡ true → Place-of (work_of v) (tab_of γ) (aware_of v γ) (alarm_of v) (lk_of γ) v.sound q → γ.big.alive ≡ true → ⊥
      alive_not _ at (failed x t w) e = never ((i.core.leads (chief γ)).lives refl e).0 (ap (work_of v) (sym (eqb-true x (chief γ) at)) ∙ w)
      alive_not _ at (tripped x y m) e =
          let q : x ≡ chief γ = eqb-true x (chief γ) at in
          ((i.core.leads (chief γ)).lives refl e).1 (ap (aware_of v γ) (sym q) ∙ y) (ap (alarm_of v) (sym q) ∙ m ∙ ap (λ (d : ℕ). Some (AtTripped d)) q)
      alive_not _ at (faulty x y l m s) e = absurd (false≢true at)

  -- its table names the next one
  pub led_on : (v.own c).lead ≡ γ.big.heir
  led_on = ((i.core.leads c).moved aw place.0 place.1).1 ∙ ap (λ (t : Bool). cond t γ.big.heir (chief γ)) at_chief

-- who is another, and works
module _ (n : ℕ) (total : Party → ℕ) (v : View) (γ : Ghost) (i : Inv n total v γ) (lost : γ.big.alive ≡ false) where
  another : (y : ℕ) × (y < 8) × (y ≢ chief γ) × (tab_of γ y ≡ true)
  another =
      let g = i.core.ground in
      let x = g.other lost in
      let t = (i.core.nodes x.0).placed x.2 in
      (x.0, omega (arith, g.within x.0 t, g.most), x.1, t)

  abbrev next : (γ.big.heir < 8) × (tab_of γ γ.big.heir ≡ true) × (γ.big.heir ≢ chief γ)
  next = rw i.core.ground.heir_is (next_other (tab_of γ) (chief γ) another.0 another.1 another.2 another.3)

  pub heir_below : γ.big.heir < 8
  heir_below = next.0

  pub heir_other : γ.big.heir ≢ chief γ
  heir_other = next.2

  pub heir_works : work_of v γ.big.heir ≡ true
  heir_works = i.core.ground.others_work lost γ.big.heir next.1 heir_other

-- ---- the old version names the save that the rule gives

module _ (n : ℕ) (total : Party → ℕ) (v : View) (γ : Ghost) (i : Inv n total v γ) (chief_lost : γ.big.alive ≡ false)
    (is_unsure_lem : (c : ℕ) → work_of v c ≡ true → is_unknown (v.own c).version ≡ true) (a : ℕ) (a-works : work_of v a ≡ true) (not_chief : a ≢ γ.big.chief) where
  -- another than the coordinator has its old version
  old_one : (c : ℕ) → work_of v c ≡ true → c ≢ chief γ → (x : Bool) × ((v.own c).version ≡ Unknown x)
  old_one c w d = unknown_old (v.own c).version (is_unsure_lem c w) (λ e. d (((i.core.leads c).blank w e).1 chief_lost))

  -- a cabinet that has joined is written
  joined_done : (c : ℕ) → work_of v c ≡ true → c ≢ chief γ → (γ.mind c).joined ≡ true → (γ.mind c).done ≡ true
  joined_done c w d j =
      let o = old_one c w d in
      (i.core.nodes c).wrote_done ((i.core.nodes c).old_joined w o.0 o.1 j).0

  -- those in use at the last recovery's end, but the coordinator
  abbrev rest : ℕ → Bool
  rest c = tab_of γ c && not (eqb c (chief γ))

  in_rest : (c : ℕ) → work_of v c ≡ true → c ≢ chief γ → rest c ≡ true
  in_rest c w d = and_intro ((i.core.nodes c).placed w) (ap not (ne_eqb c (chief γ) d))

  spreads : (c d : ℕ) → (γ.mind c).joined ≡ true → rest c ≡ true → rest d ≡ true → (γ.wire c d).lk ≡ true → (γ.mind d).joined ≡ true
  spreads c d j rc rd l =
      let tc = and_true {s = tab_of γ c} rc in
      let nc : c ≢ chief γ = eqb-false c (chief γ) (not_true_false tc.1) in
      let done : (γ.mind c).done ≡ true = joined_done c (i.core.ground.others_work chief_lost c tc.0 nc) nc j in
      (i.core.pairs d c).closed_joined (and_intro (i.core.ground.link_both d c ∙ l) (and_intro (and_true {s = tab_of γ d} rd).0 tc.0)) (rw done)

  a_joined : (γ.mind a).joined ≡ true
  a_joined =
      let one = i.core.chain.company a not_chief a-works (inr chief_lost) in
      let its : (γ.mind one.0).joined ≡ true = ⊎_elim (λ x. absurd (never x (ap not (is_unsure_lem one.0 one.2)))) (λ j. j) one.3 in
      i.core.ground.others_reach chief_lost (λ c. (γ.mind c).joined) spreads one.0 (in_rest one.0 one.2 one.1) its a (in_rest a a-works not_chief)

  pub old_is_top : (x : Bool) × ((v.own a).version ≡ Unknown x) × (x ≡ γ.big.topv)
  old_is_top =
      let o = old_one a a-works not_chief in
      (o.0, o.1, ((i.core.nodes a).old_joined a-works o.0 o.1 a_joined).1)

-- ---- it goes on with it

-- a coordinator that is not unaware commits nothing
freeze_core : (n : ℕ) (total : Party → ℕ) (v : View) (γ : Ghost) → Core n total v γ → unaware γ.big (v.own γ.big.chief) ≡ false → Core n total v (g_frozen γ)
freeze_core n total v γ i e = record {
  pairs = λ c d. frozen_pair _ _ _ _ _ _ _ _ _ _ _ _ (i.pairs c d);
  nodes = λ c. frozen_node _ _ _ _ _ _ (λ f. refl) (i.nodes c);
  books = λ c. frozen_books _ _ _ _ _ _ (i.books c);
  leads = λ c. frozen_lead _ _ _ _ (i.leads c);
  ground = i.ground;
  chain = record { no_commit = λ f. inl e; lives = i.chain.lives; alone = i.chain.alone; company = i.chain.company };
  sums = i.sums;
}

pub decided_inv : (n : ℕ) (total : Party → ℕ) (v : View) (γ : Ghost) → Inv n total v γ → γ.big.alive ≡ false → (a : ℕ) → aware_of v γ a ≡ true → (v.own a).state ≡ Error
    → Inv n total (v_recover v a γ.big.topv) (g_frozen γ)
decided_inv n total v γ i lost a aw error =
    recover_inv n total v (g_frozen γ)
    (record { core = freeze_core n total v γ i.core ((i.core.leads γ.big.chief).fallen refl lost); places = i.places; meets = i.meets }) a aw error refl
