-- What a step may do to a cabinet's state and version, who of all enters recovering in it, and what becomes of the note.
use Rattle.std.specs.Prelude.{None, Some}
use Prim.Native.Nat.{ℕ, suc, ◌<◌, ◌≤◌}
use mathlib.Core.Path.{◌≡◌, refl, sym, ap, ◌∙◌}
use mathlib.Core.Logic.{◌≢◌, ◌⊎◌, inl, inr, ⊎_elim}
use mathlib.Core.Bool.{Bool, true, false, cond, not, ◌&&◌}
use native.Mathlib.Omega.{arith}
use native.Mathlib.Decide.{ℕ_discrete, dec_lt}
use lib.Dec.{eqb}
use Rattle.state.specs.declared.State.{State}
use Rattle.state.specs.declared.State.TheVariants.{Error, Recovering, Recovered}
use Rattle.state.specs.declared.Version.{Version}
use Rattle.state.specs.declared.Version.TheVariants.{Known, Unknown, Lost}
use Rattle.state.specs.State.{is_in, works, in_recovery, is_unknown}
use Rattle.settled.specs.declared.Reason.{Reason}
use Rattle.settled.specs.Settled.{Settled}
use Rattle.settled.specs.Settled.{reason_of, first_of, enters}
use Rattle.claims.proofs.State.Fun.{never, is_false, and_true, and_intro, not_true_false, or_left, or_right}
use Rattle.claims.proofs.State.View.{Own}
use Rattle.claims.proofs.Answers.Tests.{in_state}
use Rattle.claims.proofs.Moves.ErrorSeen.{erred_state}
use Rattle.claims.proofs.Moves.Rehoming.{o_homed}

-- ---- one cabinet: c before the step and d after it

pub data Turned (c d : Own) : Type 0 where
  out : in_recovery d.state ≡ false → Turned c d
  kept : d.state ≡ c.state → d.version ≡ c.version → Turned c d
  fetches : c.state ≡ Recovering → d.state ≡ Recovered → Turned c d
  -- it enters error, and does not know; who trips does not know any more
  errs : works c.state ≡ true → in_recovery c.state ≡ false → d.state ≡ Error → (d.version ≡ c.version) ⊎ (d.version ≡ Lost) → Turned c d
  -- it enters error, and knows
  comes : works c.state ≡ true → in_recovery c.state ≡ false → d.state ≡ Recovering → Turned c d
  -- it goes on from error
  goes_on : c.state ≡ Error → d.state ≡ Recovering → Turned c d

-- it enters recovering
abbrev pub newly : Own → Own → Bool
newly c d = not (is_in c.state Recovering) && is_in d.state Recovering

pub newly_same : (c d : Own) → d.state ≡ c.state → newly c d ≡ false
newly_same c d e = is_false (newly c d) (λ k.
    let u = and_true {s = not (is_in c.state Recovering)} k in
    never (ap (λ (s : State). is_in s Recovering) (sym e) ∙ u.1) (not_true_false u.0))

pub newly_other : (c d : Own) → is_in d.state Recovering ≡ false → newly c d ≡ false
newly_other c d e = is_false (newly c d) (λ k. never (and_true {s = not (is_in c.state Recovering)} k).1 e)

pub newly_so : (c d : Own) → is_in c.state Recovering ≡ false → d.state ≡ Recovering → newly c d ≡ true
newly_so c d n e = and_intro (ap not n) ((in_state d.state Recovering).1 e)

pub not_recovering : (s : State) → in_recovery s ≡ false → is_in s Recovering ≡ false
not_recovering s e = is_false (is_in s Recovering) (λ k. never (or_right (is_in s Error) _ (or_left (is_in s Recovering) _ k)) e)

-- ---- a step in which nobody enters error or goes on

abbrev pub Calm : Own → Own → Type 0
Calm c d = in_recovery d.state ≡ true → ((d.state ≡ c.state) × (d.version ≡ c.version)) ⊎ ((c.state ≡ Recovering) × (d.state ≡ Recovered))

pub calm_out : (c d : Own) → in_recovery d.state ≡ false → Calm c d
calm_out c d e k = absurd (never k e)

pub calm_then : (c d e : Own) → Calm c d → Calm d e → Calm c e
calm_then c d e f g k =
    ⊎_elim
    (λ s. ⊎_elim (λ t. inl (s.0 ∙ t.0, s.1 ∙ t.1)) (λ t. inr (t.0, s.0 ∙ t.1)) (f (ap in_recovery (sym s.0) ∙ k)))
    (λ s. ⊎_elim (λ t. inr (sym t.0 ∙ s.0, s.1)) (λ t. absurd (apart (sym s.0 ∙ t.1))) (f (ap in_recovery s.0)))
    (g k)
  where
    apart : Recovering ≡ Recovered → ⊥
    apart x = never {t = is_in Recovered Recovered} refl (ap (λ (s : State). is_in s Recovered) (sym x))

pub calm_turned : (c d : Own) → Calm c d → Turned c d
calm_turned c d f = go (in_recovery d.state) refl
  where
    go : (t : Bool) → in_recovery d.state ≡ t → Turned c d
    go true e = ⊎_elim (λ s. kept s.0 s.1) (λ s. fetches s.0 s.1) (f e)
    go false e = out e

pub calm_newly : (c d : Own) → Calm c d → newly c d ≡ false
calm_newly c d f = is_false (newly c d) (λ k.
    let u = and_true {s = not (is_in c.state Recovering)} k in
    let r = (in_state d.state Recovering).0 u.1 in
    ⊎_elim (λ s. never ((in_state c.state Recovering).1 (sym s.0 ∙ r)) (not_true_false u.0))
    (λ s. never ((in_state c.state Recovering).1 s.0) (not_true_false u.0))
    (f (ap in_recovery r)))

-- ---- who enters recovering by a word of its own, of the cabinets below n; v are the cabinets before and w after, t is the one that trips

-- the reason of cabinet i
abbrev pub reason_at : Own → ℕ → Reason
reason_at o i = reason_of (eqb o.lead i) o.state

-- the first one
pub record Enterer (v w : ℕ → Own) (t n i : ℕ) : Type 0 where
  pub below : i < n
  pub working : works (v i).state ≡ true
  pub calm : in_recovery (v i).state ≡ false
  pub knew : is_unknown (v i).version ≡ false
  pub whole : i ≢ t
  pub enters : newly (v i) (w i) ≡ true
  pub least : (j : ℕ) → j < i → newly (v j) (w j) ≡ false

pub data Who (v w : ℕ → Own) (s s' : Settled) (t n : ℕ) : Type 0 where
  nobody : s' ≡ s → ((j : ℕ) → j < n → newly (v j) (w j) ≡ false) → Who v w s s' t n
  first : (i : ℕ) → Enterer v w t n i → s' ≡ enters s i (reason_at (v i) i) → Who v w s s' t n

-- where the recovery goes on nobody else counts
pub enters_twice : (s : Settled) (i j : ℕ) (r q : Reason) → enters (enters s i r) j q ≡ enters s i r
enters_twice None i j r q = refl
enters_twice (Some f) i j r q = go f.going refl
  where
    go : (t : Bool) → f.going ≡ t → enters (cond t (Some f) (Some (first_of i r))) j q ≡ cond t (Some f) (Some (first_of i r))
    go true e = ap (λ (t : Bool). cond t (Some f) (Some (first_of j q))) e
    go false e = refl

-- the note once a cabinet with this version has entered error
abbrev pub settled_by : Version → Settled → ℕ → Reason → Settled
settled_by (Known x) s i r = enters s i r
settled_by (Unknown x) s i r = s
settled_by Lost s i r = s

module _ (v : ℕ → Own) (s : Settled) (t n : ℕ) where
  -- cabinet n does not enter
  pub who_past : (w : ℕ → Own) (s' : Settled) → newly (v n) (w n) ≡ false → Who v w s s' t n → Who v w s s' t (suc n)
  who_past w s' off (nobody e f) = nobody e (λ j l. elim (ℕ_discrete j n) [ yes q ↦ rw q off | no d ↦ f j (omega arith) ])
  who_past w s' off (first i h e) =
      first i (record { below = omega (arith, h.below); working = h.working; calm = h.calm; knew = h.knew; whole = h.whole; enters = h.enters; least = h.least }) e

  -- nor does any up to m
  pub who_up : (w : ℕ → Own) (s' : Settled) (m : ℕ) → n ≤ m → ((j : ℕ) → n ≤ j → newly (v j) (w j) ≡ false) → Who v w s s' t n → Who v w s s' t m
  who_up w s' m l off (nobody e f) = nobody e (λ j k. elim (dec_lt j n) [ yes q ↦ f j q | no d ↦ off j (omega arith) ])
  who_up w s' m l off (first i h e) =
      first i (record { below = omega (arith, h.below); working = h.working; calm = h.calm; knew = h.knew; whole = h.whole; enters = h.enters; least = h.least }) e

  -- cabinet n enters error: w before it, w' after it
  module _ (w w' : ℕ → Own) (s₁ s' : Settled) (same : (j : ℕ) → j < n → w' j ≡ w j) (working : works (v n).state ≡ true) (calm : in_recovery (v n).state ≡ false)
      (whole : n ≢ t) (state : (w' n).state ≡ erred_state (v n).version) (note : s' ≡ settled_by (v n).version s₁ n (reason_at (v n) n)) where
    earlier : (j : ℕ) → j < n → newly (v j) (w j) ≡ false → newly (v j) (w' j) ≡ false
    earlier j l e = ap (newly (v j)) (same j l) ∙ e

    stays_out : (w' n).state ≡ Error → s' ≡ s₁ → Who v w s s₁ t n → Who v w' s s' t (suc n)
    stays_out e q (nobody p f) =
        nobody (q ∙ p) (λ j l. elim (ℕ_discrete j n) [
          | yes z ↦ rw z (newly_other (v n) (w' n) (ap (λ (x : State). is_in x Recovering) e))
          | no d ↦ earlier j (omega arith) (f j (omega arith))
        ])
    stays_out e q (first i h p) =
        first i (record {
          below = omega (arith, h.below);
          working = h.working;
          calm = h.calm;
          knew = h.knew;
          whole = h.whole;
          enters = ap (newly (v i)) (same i h.below) ∙ h.enters;
          least = λ j l. earlier j (omega (arith, h.below)) (h.least j l);
        }) (q ∙ p)

    comes_in : is_unknown (v n).version ≡ false → (w' n).state ≡ Recovering → s' ≡ enters s₁ n (reason_at (v n) n) → Who v w s s₁ t n → Who v w' s s' t (suc n)
    comes_in k e q (nobody p f) =
        first n (record {
          below = omega arith;
          working = working;
          calm = calm;
          knew = k;
          whole = whole;
          enters = newly_so (v n) (w' n) (not_recovering (v n).state calm) e;
          least = λ j l. earlier j l (f j l);
        }) (q ∙ ap (λ (x : Settled). enters x n (reason_at (v n) n)) p)
    comes_in k e q (first i h p) =
        first i (record {
          below = omega (arith, h.below);
          working = h.working;
          calm = h.calm;
          knew = h.knew;
          whole = h.whole;
          enters = ap (newly (v i)) (same i h.below) ∙ h.enters;
          least = λ j l. earlier j (omega (arith, h.below)) (h.least j l);
        }) (q ∙ ap (λ (x : Settled). enters x n (reason_at (v n) n)) p ∙ enters_twice s i n (reason_at (v i) i) (reason_at (v n) n))

    pub who_errs : Who v w s s₁ t n → Who v w' s s' t (suc n)
    who_errs h = go (v n).version refl
      where
        go : (x : Version) → (v n).version ≡ x → Who v w' s s' t (suc n)
        go (Known x) e = comes_in (ap is_unknown e) (state ∙ ap erred_state e) (note ∙ ap (λ (y : Version). settled_by y s₁ n (reason_at (v n) n)) e) h
        go (Unknown x) e = stays_out (state ∙ ap erred_state e) (note ∙ ap (λ (y : Version). settled_by y s₁ n (reason_at (v n) n)) e) h
        go Lost e = stays_out (state ∙ ap erred_state e) (note ∙ ap (λ (y : Version). settled_by y s₁ n (reason_at (v n) n)) e) h

-- a cabinet that enters error
pub errs_turned : (c d : Own) → works c.state ≡ true → in_recovery c.state ≡ false → d.state ≡ erred_state c.version → d.version ≡ c.version → Turned c d
errs_turned c d w r e f = go c.version refl
  where
    go : (x : Version) → c.version ≡ x → Turned c d
    go (Known x) k = comes w r (e ∙ ap erred_state k)
    go (Unknown x) k = errs w r (e ∙ ap erred_state k) (inl f)
    go Lost k = errs w r (e ∙ ap erred_state k) (inl f)

-- ---- homes are not read

pub turned_home : {c d : Own} {h : ℕ} {p : Bool} → Turned (o_homed c h p) d → Turned c d
turned_home (out e) = out e
turned_home (kept e f) = kept e f
turned_home (fetches e f) = fetches e f
turned_home (errs w r e f) = errs w r e f
turned_home (comes w r e) = comes w r e
turned_home (goes_on e f) = goes_on e f

pub who_home : {v w : ℕ → Own} {s s' : Settled} {t n : ℕ} {h : ℕ → ℕ} {p : ℕ → Bool} → Who (λ j. o_homed (v j) (h j) (p j)) w s s' t n → Who v w s s' t n
who_home (nobody e f) = nobody e f
who_home (first i x e) =
    first i (record { below = x.below; working = x.working; calm = x.calm; knew = x.knew; whole = x.whole; enters = x.enters; least = x.least }) e
