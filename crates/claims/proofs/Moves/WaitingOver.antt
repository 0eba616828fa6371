-- Wait over, as document 01 had it: where it would be taken all working cabinets are in error and unsure and the coordinator is lost, and
-- where nobody's report stands the invariant holds after it.
use Rattle.std.specs.Prelude.{None, Some}
use Prim.Native.Nat.{ℕ, ◌<◌}
use mathlib.Core.Path.{◌≡◌, refl, sym, ap, ◌∙◌, subst}
use mathlib.Core.Logic.{◌≢◌}
use mathlib.Core.Bool.{Bool, true, false, not, ◌&&◌, false≢true}
use borrow.Author.Tests.{eqb-true}
use native.Mathlib.Omega.{arith}
use native.Mathlib.Decide.{ℕ_discrete}
use Rattle.marks.specs.Marks.{covers}
use Rattle.marks.specs.MarksLaws.{covers_has}
use Rattle.outlet.specs.declared.Party.{Party}
use Rattle.packet.specs.declared.Place.{Place}
use Rattle.packet.specs.declared.Place.TheVariants.{Failed as AtFailed, Tripped as AtTripped, Link as AtLink}
use Rattle.state.specs.declared.State.{State}
use Rattle.state.specs.declared.State.TheVariants.{Checkpointing, Error}
use Rattle.cabinet.specs.Alarm.{Alarm}
use Rattle.cabinet.specs.declared.Cabinet.{Cabinet}
use Rattle.state.specs.State.{is_in, works, is_unknown, bit_of}
use Rattle.table.specs.Table.{is_at}
use Rattle.group.specs.declared.Group.{Group}
use Rattle.group.specs.Group.{cabinet, state_of, working}
use Rattle.protocol.specs.Kinds.{need, is_unsure}
use Rattle.protocol.specs.Wait.{wait_over_refusal, lost_coordinator, joined_to, unsure_ones, waited_over}
use Rattle.protocol.specs.History.{History}
use Rattle.claims.proofs.State.Fun.{never, and_true, upd_same, upd_other}
use Rattle.claims.proofs.State.Every.{passed}
use Rattle.claims.proofs.State.View.{View, Own, Side, view}
use Rattle.claims.proofs.State.Methods.{hits_link}
use Rattle.claims.proofs.State.Sim.{Fit}
use Rattle.claims.proofs.Answers.Tests.{in_state, those_marked}
use Rattle.claims.proofs.Invariant.Facts.{Ghost}
use Rattle.claims.proofs.Invariant.Whole.{Inv, work_of, aware_of}
use Rattle.claims.proofs.Invariant.Staying.{Goes, Silent, error_aware, no_fault_lem}
use Rattle.claims.proofs.Invariant.Past.{Past, no_cuts, quiet_of}
use Rattle.claims.proofs.Invariant.Words.{aware_works}
use Rattle.claims.proofs.Moves.FirstFault.{g_frozen}
use Rattle.claims.proofs.Moves.ErrorSeen.{v_recover, sim_recover'}
use Rattle.claims.proofs.Moves.Recovering.{frozen_past, past_going, goes_going}
use Rattle.claims.proofs.Moves.Deciding.{chief_lost, old_is_top, decided_inv}

-- ---- what the two checks say

-- every working cabinet is in error and unsure
all_unsure : (g : Group) → covers (unsure_ones g) (working g) ≡ true → (c : ℕ) → c < 8 → works (state_of g c) ≡ true → is_unsure (cabinet g c) ≡ true
unfolding unsure_ones working
all_unsure g e c l w =
    sym (those_marked is_unsure g c l) ∙ covers_has (unsure_ones g) (working g) e c l (those_marked (λ c. works c.phase.state) g c l ∙ w)

-- the fault was the coordinator, and a link joins the cabinet to the place
lost_one : (m : Alarm) (c : Cabinet) → lost_coordinator m c ≡ true → (q : Place) × (m ≡ Some q) × (c.noted.former ≡ true) × (joined_to q c ≡ true)
lost_one None c e = absurd (false≢true e)
lost_one (Some q) c e = let p = and_true {s = c.noted.former} e in (q, refl, p.0, p.1)

module _ (total : Party → ℕ) (g : Group) (γ : Ghost) (i : Inv g.n total (view g) γ) (a : ℕ) (fine : wait_over_refusal g a ≡ 0) where
  abbrev v : View
  v = view g

  abbrev checks : (is_in (state_of g a) Error && lost_coordinator (cabinet g a).phase.alarm (cabinet g a) ≡ true) × (covers (unsure_ones g) (working g) ≡ true)
  checks =
      let one = passed (is_in (state_of g a) Error && lost_coordinator (cabinet g a).phase.alarm (cabinet g a)) 13 (need (covers (unsure_ones g) (working g)) 19 0) fine in
      (one.0, (passed (covers (unsure_ones g) (working g)) 18 0 one.1).0)

  is_error : is_in (state_of g a) Error ≡ true
  is_error = (and_true {s = is_in (state_of g a) Error} checks.0).0

  abbrev lost : (q : Place) × ((cabinet g a).phase.alarm ≡ Some q) × ((cabinet g a).noted.former ≡ true) × (joined_to q (cabinet g a) ≡ true)
  lost = lost_one (cabinet g a).phase.alarm (cabinet g a) (and_true {s = is_in (state_of g a) Error} checks.0).1

  pub wait_aware : aware_of v γ a ≡ true
  wait_aware = error_aware v γ (quiet_of i) a is_error

  pub wait_former : (cabinet g a).noted.former ≡ true
  wait_former = lost.2

  wait_lost : γ.big.alive ≡ false
  wait_lost = chief_lost g.n total v γ i a wait_aware wait_former

  below : (c : ℕ) → work_of v c ≡ true → c < 8
  below c w = omega (arith, i.core.ground.within c ((i.core.nodes c).placed w), i.core.ground.most)

  -- every working cabinet is in error, with unknown version
  pub wait_unsure : (c : ℕ) → work_of v c ≡ true → (is_in (state_of g c) Error ≡ true) × (is_unknown (cabinet g c).phase.version ≡ true)
  wait_unsure c w = and_true {s = is_in (state_of g c) Error} (all_unsure g checks.1 c (below c w) w)

  -- no link joins a cabinet to itself
  not_chief : a ≢ γ.big.chief
  not_chief e =
      never (linked_place lost.0 at lost.3)
      (((i.core.pairs a γ.big.chief).struck wait_aware lost.0 lost.1).1 ∙ ap (λ (t : Bool). t && not (hits_link lost.0 a γ.big.chief)) self)
    where
      self : (γ.wire a γ.big.chief).lk ≡ false
      self = ap (λ (c : ℕ). (γ.wire a c).lk) (sym e) ∙ i.core.ground.link_other a

      at : is_at lost.0 γ.big.chief ≡ true
      at = sym ((i.core.leads a).moved wait_aware lost.0 lost.1).0 ∙ wait_former

      linked_place : (q : Place) → is_at q γ.big.chief ≡ true → joined_to q (cabinet g a) ≡ true → (v.side a γ.big.chief).link ≡ true
      linked_place (AtFailed x) at j = ap (λ (c : ℕ). (v.side a c).link) (sym (eqb-true x γ.big.chief at)) ∙ j
      linked_place (AtTripped x) at j = ap (λ (c : ℕ). (v.side a c).link) (sym (eqb-true x γ.big.chief at)) ∙ j
      linked_place (AtLink x y) at j = absurd (false≢true at)

  old_top : bit_of (cabinet g a).phase.version ≡ γ.big.topv
  old_top =
      let o = old_is_top g.n total v γ i wait_lost (λ c w. (wait_unsure c w).1) a (aware_works γ.big (v.own a) wait_aware) not_chief in
      ap bit_of o.1 ∙ o.2

-- ---- after it

module _ (total : Party → ℕ) (g : Group) (h : History) (γ : Ghost) (w : Fit g) (i : Inv g.n total (view g) γ) (past : Past g.n (view g) γ h)
    (a : ℕ) (fine : wait_over_refusal g a ≡ 0) where
  abbrev g' : Group
  g' = waited_over g a

  aw : aware_of (view g) γ a ≡ true
  aw = wait_aware total g γ i a fine

  seen : view g' ≡ v_recover (view g) a γ.big.topv
  unfolding waited_over
  seen =
      sim_recover' g.n total g γ w i.core a (bit_of (cabinet g a).phase.version) (below total g γ i a fine a (aware_works γ.big ((view g).own a) aw)) aw
      ∙ ap (v_recover (view g) a) (old_top total g γ i a fine)

  pub waited_inv : Inv g.n total (view g') (g_frozen γ)
  waited_inv =
      subst (λ (x : View). Inv g.n total x (g_frozen γ)) (sym seen)
      (decided_inv g.n total (view g) γ i (wait_lost total g γ i a fine) a aw ((in_state (state_of g a) Error).0 (is_error total g γ i a fine)))

  pub waited_goes : Goes (view g) γ (view g') (g_frozen γ)
  waited_goes = goes_going total g h γ (g_frozen γ) g' (view g) a γ.big.topv refl no_fault_lem aw seen i

  other : (c : ℕ) → c ≢ a → (view g').own c ≡ (view g).own c
  other c n = ap (λ (x : View). x.own c) seen ∙ upd_other (view g).own a _ c n

  out : (s : State) → is_in ((view g').own a).state s ≡ is_in ((v_recover (view g) a γ.big.topv).own a).state s
  out s = ap (λ (x : View). is_in (x.own a).state s) seen

  -- nobody has its cut in it, so that the history is as it was
  pub waited_past : Past g.n (view g') (g_frozen γ) h
  waited_past =
      subst (λ (x : History). Past g.n (view g') (g_frozen γ) x)
      (no_cuts h g g' (λ c e. elim (ℕ_discrete c a) [
        | yes q ↦ absurd (never e (ap (λ (j : ℕ). is_in ((view g').own j).state Checkpointing) q ∙ out Checkpointing
            ∙ ap (λ (o : Own). is_in o.state Checkpointing) (upd_same (view g).own a _)))
        | no n ↦ ap (λ (o : Own). is_in o.state Checkpointing) (sym (other c n)) ∙ e
      ]))
      (past_going total g h γ (g_frozen γ) g' (view g) a γ.big.topv refl no_fault_lem aw seen (frozen_past g.n (view g) γ h true past))

  pub waited_silent : Silent (view g) → Silent (view g')
  waited_silent none c e d = elim (ℕ_discrete c a) [
    | yes q ↦ absurd (never e (ap (λ (j : ℕ). is_in ((view g').own j).state Error) q ∙ out Error ∙ ap (λ (o : Own). is_in o.state Error) (upd_same (view g).own a _)))
    | no n ↦ ap (λ (x : View). (x.side c d).unsure) seen ∙ ap (λ (f : ℕ → Side). (f d).unsure) (upd_other (view g).side a _ c n)
        ∙ none c (ap (λ (o : Own). is_in o.state Error) (sym (other c n)) ∙ e) d
  ]
