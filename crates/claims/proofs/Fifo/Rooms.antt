-- A cabinet that works stands below eight, and its lines have room; from eight on every line is empty. What a fail or a trip finds.
use Prim.Native.Nat.{ℕ, ◌<◌, ◌≤◌}
use mathlib.Core.Path.{◌≡◌, refl, sym, ap, ◌∙◌}
use mathlib.Core.Logic.{⊎_elim}
use mathlib.Core.Bool.{Bool, true, false, ◌&&◌}
use mathlib.Core.List.{[]}
use lib.Dec.{eqb}
use borrow.Author.Tests.{eqb-true}
use native.Mathlib.Omega.{arith}
use Rattle.outlet.specs.declared.Party.{Party}
use Rattle.packet.specs.declared.Place.{Place}
use Rattle.packet.specs.declared.Place.TheVariants.{Tripped as AtTripped}
use Rattle.packet.specs.Packet.{same_place}
use Rattle.state.specs.declared.State.TheVariants.{Crashed}
use Rattle.state.specs.State.{is_in, works, in_recovery}
use Rattle.group.specs.declared.Group.{Group}
use Rattle.group.specs.Group.{state_of, some, recovering_ones}
use Rattle.protocol.specs.Receive.{serving}
use Rattle.claims.proofs.State.Fun.{never, is_false, and_true}
use Rattle.claims.proofs.State.View.{View, used, view}
use Rattle.claims.proofs.State.Sim.{Fit}
use Rattle.claims.proofs.State.ViewMoves.{Room}
use Rattle.claims.proofs.Invariant.Facts.{Ghost}
use Rattle.claims.proofs.Invariant.Whole.{Inv, Place-of, failed, tripped, faulty, work_of, tab_of, aware_of, alarm_of, lk_of}
use Rattle.claims.proofs.Invariant.States.{serving_calm}
use Rattle.claims.proofs.Invariant.Words.{un_of, un_or_aware, aware_recovers, nobody_recovers, room_calm, room_aware}

-- cabinet a works, nobody recovers, and no line joins a to itself
pub record Ready (v : View) (a : ℕ) : Type 0 where
  pub up : works (v.own a).state ≡ true
  pub nobody : (c : ℕ) → in_recovery (v.own c).state ≡ false
  pub running : (c : ℕ) → is_in (v.own c).state Crashed ≡ false
  pub past : (c d : ℕ) → 8 ≤ c → v.lines c d ≡ []
  pub alone : used (v.side a a) ≡ false

module _ (total : Party → ℕ) (g : Group) (γ : Ghost) (w : Fit g) (i : Inv g.n total (view g) γ) where
  pub works_below : (c : ℕ) → works (state_of g c) ≡ true → c < 8
  works_below c up = omega (arith, i.core.ground.within c ((i.core.nodes c).placed up), i.core.ground.most)

  pub works_room : (c : ℕ) → works (state_of g c) ≡ true → Room (view g) c
  works_room c up = ⊎_elim (room_calm g.n total g γ w i.core c) (room_aware g.n total (view g) γ i.core c) (un_or_aware γ.big ((view g).own c) up)

  pub no_line : (c d : ℕ) → 8 ≤ c → (view g).lines c d ≡ []
  no_line c d l = (i.core.pairs c d).silent (is_false _ (λ e. omega (arith, works_below c (and_true {s = works (state_of g c)} e).0)))

  pub ready : (a : ℕ) → works (state_of g a) ≡ true → some (recovering_ones g) ≡ false → Ready (view g) a
  ready a up still = record {
    up = up;
    nobody = none;
    running = λ c. (i.core.nodes c).running;
    past = no_line;
    alone = ap (λ (t : Bool). t && ((view g).side a a).cab) (((i.core.pairs a a).table (un_of γ.big ((view g).own a) up (none a))).1 ∙ i.core.ground.link_other a);
  }
    where
      none : (c : ℕ) → in_recovery (state_of g c) ≡ false
      none = nobody_recovers g w still

  -- a serving cabinet is not the tripped one of a fault place
  pub not_its_trip : (b : ℕ) → serving (state_of g b) ≡ true → (q : Place) → Place-of (work_of (view g)) (tab_of γ) (aware_of (view g) γ) (alarm_of (view g)) (lk_of γ) (view g).sound q
      → same_place q (AtTripped b) ≡ false
  not_its_trip b serves _ (failed x t o) = refl
  not_its_trip b serves _ (tripped x k e) =
      is_false (eqb x b) (λ s.
      never (aware_recovers γ.big ((view g).own b) (ap (aware_of (view g) γ) (sym (eqb-true x b s)) ∙ k)) (serving_calm (state_of g b) serves).1)
  not_its_trip b serves _ (faulty x y l k s) = refl
