-- A cabinet's lines out hold a row of their own, and those to it are emptied, as it fails or trips: what each line holds then.
use Prim.Native.Nat.{ℕ, ◌≤◌}
use mathlib.Core.Path.{◌≡◌, sym, ap, ◌∙◌, refl}
use mathlib.Core.Logic.{◌≢◌}
use mathlib.Core.Bool.{Bool, true, false, cond, ◌&&◌}
use mathlib.Core.List.{List, []}
use lib.Dec.{eqb, ltb}
use borrow.Author.Tests.{eqb-true, eq-eqb, ltb-false}
use native.Mathlib.Omega.{arith}
use Rattle.outlet.specs.declared.Party.{Party}
use Rattle.packet.specs.declared.Packet.{Packet}
use Rattle.protocol.specs.History.{upd}
use Rattle.claims.proofs.State.Fun.{never, is_false, and_true, cond_elim, upd_same, upd_other}
use Rattle.claims.proofs.State.View.{View}
use Rattle.claims.proofs.Invariant.Facts.{Ghost}
use Rattle.claims.proofs.Invariant.Whole.{Core, work_of}

module _ (n : ℕ) (total : Party → ℕ) (v : View) (γ : Ghost) (i : Core n total v γ) (a : ℕ) (row : ℕ → List Packet) where
  abbrev lines' : ℕ → ℕ → List Packet
  lines' c d = cond (ltb c 8 && eqb d a) [] (upd v.lines a row c d)

  -- nothing stands on the line to itself
  pub line_from : (d : ℕ) → (d ≡ a → row d ≡ []) → lines' a d ≡ row d
  line_from d self =
      cond_elim (λ (x : List Packet). x ≡ row d) (ltb a 8 && eqb d a) (λ e. sym (self (eqb-true d a (and_true {s = ltb a 8} e).1)))
      (λ e. ap (λ (f : ℕ → List Packet). f d) (upd_same v.lines a row))

  -- numbers from 8 on are no cabinets
  past_eight : (c : ℕ) → 8 ≤ c → work_of v c ≡ false
  past_eight c l = is_false (work_of v c) (λ e. omega (arith, i.ground.within c ((i.nodes c).placed e), i.ground.most))

  pub line_to : (c : ℕ) → c ≢ a → lines' c a ≡ []
  line_to c d =
      cond_elim (λ (x : List Packet). x ≡ []) (ltb c 8 && eqb a a) (λ e. refl)
      (λ e. ap (λ (f : ℕ → List Packet). f a) (upd_other v.lines a row c d)
      ∙ (i.pairs c a).silent (first_off _ _ (past_eight c (ltb-false c 8 (first (ltb c 8) (eq-eqb a a refl) e)))))
    where
      first : (s : Bool) {t : Bool} → t ≡ true → (s && t) ≡ false → s ≡ false
      first true e f = absurd (never e f)
      first false e f = refl

      first_off : (s t : Bool) → s ≡ false → (s && t) ≡ false
      first_off s t e = rw e

  pub line_aside : (c d : ℕ) → c ≢ a → d ≢ a → lines' c d ≡ v.lines c d
  line_aside c d nc nd =
      cond_elim (λ (x : List Packet). x ≡ v.lines c d) (ltb c 8 && eqb d a) (λ e. absurd (nd (eqb-true d a (and_true {s = ltb c 8} e).1)))
      (λ e. ap (λ (f : ℕ → List Packet). f d) (upd_other v.lines a row c nc))
