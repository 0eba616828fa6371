-- Nobody is in error, recovering or recovered, as at every fail or trip that does not crash the group: no fault is known, all that were in use
-- at the last recovery's end work, and the coordinator is not lost.
use Prim.Native.Nat.{ℕ, ◌<◌}
use mathlib.Core.Path.{◌≡◌, sym, ap, ◌∙◌}
use mathlib.Core.Logic.{◌≢◌}
use mathlib.Core.Bool.{true, false}
use Rattle.outlet.specs.declared.Party.{Party}
use Rattle.state.specs.State.{in_recovery}
use Rattle.group.specs.declared.Group.{Group}
use Rattle.group.specs.Group.{some, recovering_ones}
use Rattle.claims.proofs.State.Fun.{never, is_false}
use Rattle.claims.proofs.State.View.{View, view}
use Rattle.claims.proofs.State.Sim.{Fit}
use Rattle.claims.proofs.Invariant.Facts.{Ghost}
use Rattle.claims.proofs.Invariant.Whole.{Core, Inv, work_of}
use Rattle.claims.proofs.Invariant.Words.{un_of, chief_lives, aware_recovers, nobody_recovers}
use Rattle.claims.proofs.Moves.FirstFault.{g_faulted, flip_core}

module _ (total : Party → ℕ) (g : Group) (γ : Ghost) (fit : Fit g) (i : Inv g.n total (view g) γ) (calm : some (recovering_ones g) ≡ false) where
  abbrev v : View
  v = view g

  pub nobody : (c : ℕ) → in_recovery (v.own c).state ≡ false
  nobody = nobody_recovers g fit calm

  pub unfaulted : γ.big.faulted ≡ false
  unfaulted = is_false γ.big.faulted (λ e. let x = i.places.someone e in never (aware_recovers γ.big (v.own x.0) x.1) (nobody x.0))

  pub present : (c : ℕ) → (γ.mind c).tab ≡ true → work_of v c ≡ true
  present c = (i.core.nodes c).present unfaulted

  pub alive : γ.big.alive ≡ true
  alive =
      let k = γ.big.chief in
      chief_lives g.n total v γ i.core (un_of γ.big (v.own k) (present k i.core.ground.chief_in) (nobody k))

  pub flipped : Core g.n total v (g_faulted γ)
  flipped = flip_core g.n total v γ i.core nobody

  -- who is no store that is present has its home, which works, beside it
  pub another : (a : ℕ) → a < g.n → (v.own a).present ≡ false → (j : ℕ) × (j ≢ a) × (work_of v j ≡ true)
  another a an no_store =
      let s = i.core.ground.home_present a an in
      ((v.own a).home, (λ q. never (ap (λ (c : ℕ). (v.own c).present) (sym q) ∙ s) no_store), i.core.ground.present_works (v.own a).home s)
