-- All neighbours in use of a failed or tripped cabinet enter error, one after the other: what they are then, and that the others are as they were.
use Rattle.std.specs.Prelude.{Some}
use Prim.Native.Nat.{ℕ, zero, suc, ◌<◌, ◌≤◌}
use mathlib.Core.Path.{◌≡◌, refl, sym, ap, ◌∙◌, subst}
use mathlib.Core.Logic.{◌≢◌, ◌⊎◌, inl, inr, ⊎_elim}
use mathlib.Core.Bool.{Bool, true, false, not, ◌&&◌, ◌||◌}
use native.Mathlib.Omega.{arith}
use native.Mathlib.Decide.{ℕ_discrete}
use Rattle.outlet.specs.declared.Party.{Party}
use Rattle.packet.specs.declared.Place.{Place}
use Rattle.table.specs.Table.{is_at}
use Rattle.state.specs.State.{works, in_recovery, is_unknown}
use Rattle.group.specs.declared.Group.{Group}
use Rattle.group.specs.Group.{cabinet}
use Rattle.protocol.specs.Moves.{alarm_to, neighbours, enter_error_if}
use Rattle.claims.proofs.State.Fun.{never, and_true, upd_elim, upd_same, upd_other}
use Rattle.claims.proofs.State.Every.{ok_alarm}
use Rattle.claims.proofs.State.View.{View, Own, Side, used, view}
use Rattle.claims.proofs.State.Shape.{Shaped, Lined, Pictured, shaped}
use Rattle.claims.proofs.State.Sim.{Fit, in_use_lem}
use Rattle.claims.proofs.State.Methods.{s_alarmed}
use Rattle.claims.proofs.State.ViewMoves.{lead_after}
use Rattle.claims.proofs.Invariant.Facts.{Ghost, unaware}
use Rattle.claims.proofs.Invariant.Whole.{Core, work_of}
use Rattle.claims.proofs.Invariant.Words.{un_of}
use Rattle.claims.proofs.Moves.FirstFault.{b_frozen, g_big}
use Rattle.claims.proofs.Moves.ErrorSeen.{erred, o_erred, s_erred, error_seen, sim_error, erred_recovers, erred_works}
use Rattle.claims.proofs.Moves.Erring.{error_core}

-- cabinet i works and has a link to a in use
abbrev pub near : View → ℕ → ℕ → Bool
near v a i = works (v.own i).state && used (v.side i a)

-- the ghost, once some that know their version may have entered error
abbrev pub g_said : Ghost → Bool → Ghost
g_said γ t = g_big γ (b_frozen γ.big t)

-- the neighbours of a below k have entered error
pub record Alarmed (n : ℕ) (total : Party → ℕ) (k a : ℕ) (q : Place) (v : View) (γ : Ghost) (w : View) : Type 0 where
  pub said : Bool
  pub core : Core n total w (g_said γ said)
  pub told : (i : ℕ) → i < k → near v a i ≡ true
      → (in_recovery (w.own i).state ≡ true) × ((w.own i).alarm ≡ Some q) × ((d : ℕ) → w.side i d ≡ s_alarmed q i d (v.side i d))
  pub others : (i : ℕ) → (k ≤ i) ⊎ (near v a i ≡ false) → (w.own i ≡ v.own i) × (w.side i ≡ v.side i)
  pub sound : w.sound ≡ v.sound
  pub worked : (i : ℕ) → work_of w i ≡ work_of v i

module _ (n : ℕ) (total : Party → ℕ) (a : ℕ) (q : Place) (v : View) (γ : Ghost) (faulted : γ.big.faulted ≡ true)
    (none : (c : ℕ) → near v a c ≡ true → (in_recovery (v.own c).state ≡ false) × (is_at q c ≡ false))
    (meets : (c d : ℕ) → work_of v c ≡ true → used (s_alarmed q c d (v.side c d)) ≡ true → work_of v d ≡ true) where
  pub alarm_start : Core n total v γ → Alarmed n total 0 a q v γ v
  alarm_start i = record {
    said = γ.big.frozen;
    core = i;
    told = λ i l. absurd (omega arith);
    others = λ i e. (refl, refl);
    sound = refl;
    worked = λ i. refl;
  }

  module _ (k : ℕ) (w : View) (h : Alarmed n total k a q v γ w) where
    pub alarm_past : near v a k ≡ false → Alarmed n total (suc k) a q v γ w
    alarm_past far = record {
      said = h.said;
      core = h.core;
      told = λ i l e. elim (ℕ_discrete i k) [ yes z ↦ absurd (never e (ap (near v a) z ∙ far)) | no d ↦ h.told i (omega arith) e ];
      others = λ i e. h.others i (⊎_elim (λ l. elim (ℕ_discrete i k) [ yes z ↦ inl (omega arith) | no d ↦ inl (omega arith) ]) (λ f. inr f) e);
      sound = h.sound;
      worked = h.worked;
    }

    own_same : w.own k ≡ v.own k
    own_same = (h.others k (inl (omega arith))).0

    side_same : w.side k ≡ v.side k
    side_same = (h.others k (inl (omega arith))).1

    module _ (close : near v a k ≡ true) where
      works_now : works (w.own k).state ≡ true
      works_now = ap (λ (o : Own). works o.state) own_same ∙ (and_true {s = works (v.own k).state} close).0

      calm_now : unaware (g_said γ h.said).big (w.own k) ≡ true
      calm_now = un_of (g_said γ h.said).big (w.own k) works_now (ap (λ (o : Own). in_recovery o.state) own_same ∙ (none k close).0)

      meets_now : (d : ℕ) → used (s_alarmed q k d (w.side k d)) ≡ true → work_of w d ≡ true
      meets_now d e =
          h.worked d ∙ meets k d (and_true {s = works (v.own k).state} close).0
          (ap (λ (s : ℕ → Side). used (s_alarmed q k d (s d))) (sym side_same) ∙ e)

      abbrev o' : Own
      o' = o_erred (w.own k) q (lead_after w k q)

      alarm_core : Core n total (erred w k q) (g_said γ (h.said || not (is_unknown (w.own k).version)))
      alarm_core =
          subst (λ (u : View). Core n total u (g_said γ (h.said || not (is_unknown (w.own k).version)))) (error_seen w k q)
          (error_core n total w (g_said γ h.said) h.core k calm_now faulted q (none k close).1 meets_now)

      pub alarm_one : Alarmed n total (suc k) a q v γ (erred w k q)
      alarm_one = record {
        said = h.said || not (is_unknown (w.own k).version);
        core = alarm_core;
        told = λ i l e. elim (ℕ_discrete i k) [
          | yes z ↦ rw z (
            ap (λ (o : Own). in_recovery o.state) (upd_same w.own k o') ∙ erred_recovers (w.own k).version,
            ap (λ (o : Own). o.alarm) (upd_same w.own k o'),
            λ d. ap (λ (f : ℕ → Side). f d) (upd_same w.side k (s_erred w k q))
                ∙ ap (λ (f : ℕ → Side). s_alarmed q k d (f d)) side_same,
          )
          | no d ↦ let t = h.told i (omega arith) e in (
            ap (λ (o : Own). in_recovery o.state) (upd_other w.own k o' i d) ∙ t.0,
            ap (λ (o : Own). o.alarm) (upd_other w.own k o' i d) ∙ t.1,
            λ j. ap (λ (f : ℕ → Side). f j) (upd_other w.side k (s_erred w k q) i d) ∙ t.2 j,
          )
        ];
        others = λ i e.
            let d : i ≢ k = λ z. ⊎_elim (λ l. omega arith) (λ f. never close (ap (near v a) (sym z) ∙ f)) e in
            let t = h.others i (⊎_elim (λ l. inl (omega arith)) (λ f. inr f) e) in
            (upd_other w.own k o' i d ∙ t.0, upd_other w.side k (s_erred w k q) i d ∙ t.1);
        sound = h.sound;
        worked = λ i.
            upd_elim (λ (o : Own). works o.state ≡ work_of v i) w.own k o' i
            (λ z. erred_works (w.own k).version ∙ sym (ap (work_of v) z ∙ (and_true {s = works (v.own k).state} close).0)) (λ d. h.worked i);
      }

-- the group after the alarm
module _ (n : ℕ) (total : Party → ℕ) (a : ℕ) (q : Place) (g : Group) (fit : Fit g) (γ : Ghost) (i : Core n total (view g) γ) (faulted : γ.big.faulted ≡ true)
    (none : (c : ℕ) → near (view g) a c ≡ true → (in_recovery ((view g).own c).state ≡ false) × (is_at q c ≡ false))
    (meets : (c d : ℕ) → work_of (view g) c ≡ true → used (s_alarmed q c d ((view g).side c d)) ≡ true → work_of (view g) d ≡ true) where
  pub alarm_all : (k : ℕ) → k ≤ 8 → Alarmed n total k a q (view g) γ (view (alarm_to k g a q))
  unfolding alarm_to
  alarm_all zero l = alarm_start n total a q (view g) γ faulted none meets i
  alarm_all (suc k) l = go (neighbours g k a) refl (alarm_all k (omega arith))
    where
      go : (t : Bool) → neighbours g k a ≡ t → Alarmed n total k a q (view g) γ (view (alarm_to k g a q))
          → Alarmed n total (suc k) a q (view g) γ (view (enter_error_if t (alarm_to k g a q) k q))
      go true e h =
          subst (λ (u : View). Alarmed n total (suc k) a q (view g) γ u)
          (sym (sim_error (alarm_to k g a q) (ok_alarm Shaped Lined Pictured shaped k g a q fit) k q (omega arith)
          ∙ error_seen (view (alarm_to k g a q)) k q))
          (alarm_one n total a q (view g) γ faulted none meets k (view (alarm_to k g a q)) h (rw (← in_use_lem (cabinet g k) (fit.cabs k) a) e))
      go false e h = alarm_past n total a q (view g) γ faulted none meets k (view (alarm_to k g a q)) h (rw (← in_use_lem (cabinet g k) (fit.cabs k) a) e)
