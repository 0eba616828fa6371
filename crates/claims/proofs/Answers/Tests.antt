-- The tests that the rules of document 01 make, each with the fact that it stands for.
use Rattle.std.specs.Prelude.{None, Some}
use Prim.Native.Nat.{ℕ, zero, suc, ◌<◌}
use mathlib.Core.Path.{◌≡◌, refl, sym, ◌∙◌, ap}
use mathlib.Core.Bool.{Bool, true, false, cond, not, ◌&&◌, ◌||◌, false≢true, true≢false}
use mathlib.Core.Logic.{◌↔◌, ◌⊎◌, inl, inr, ⊎_elim}
use lib.Dec.{eqb}
use borrow.Author.Tests.{eqb-true, eq-eqb, ltb-true, lt-ltb, not-true}
use native.Mathlib.Omega.{arith}
use Rattle.marks.specs.Marks.{Marks, marked, lowest, covers_to, covers}
use Rattle.marks.specs.Reach.{Rows, reached, connected}
use Rattle.marks.specs.MarksLaws.{lowest_marked, lowest_le_marked}
use Rattle.marks.specs.ReachLaws.{path_reached, connected_paths}
use Rattle.packet.specs.declared.Check.{Check}
use Rattle.packet.specs.declared.Place.{Place}
use Rattle.packet.specs.declared.Place.TheVariants.{Failed as AtFailed, Tripped as AtTripped, Link as AtLink}
use Rattle.packet.specs.Packet.{same_check, same_place}
use Rattle.state.specs.declared.State.{State}
use Rattle.state.specs.declared.State.TheVariants.{Failed, Normal, CheckpBegin, Checkpointing, Checkpointed, Error, Recovering, Recovered, Crashed}
use Rattle.cabinet.specs.Alarm.{Alarm}
use Rattle.cabinet.specs.declared.Cabinet.{Cabinet}
use Rattle.group.specs.declared.Group.{Group}
use Rattle.cabinet.specs.Alarm.{is_for}
use Rattle.state.specs.State.{rank, is_in, in_recovery, in_saving}
use Rattle.group.specs.Group.{cabinet, state_of, those, some, recovering_ones}
use Rattle.protocol.specs.Receive.{serving}
use Rattle.protocol.specs.Crash.{Recovers, Saves, Serves, SomeRecovers, Unreached}
use Rattle.claims.proofs.State.Fun.{and_true, and_intro}

-- the test holds exactly if the fact does
abbrev pub Reflects : Bool → Type 0 → Type 0
Reflects t P = (t ≡ true) ↔ P

pub itself : (t : Bool) → Reflects t (t ≡ true)
itself t = (λ e. e, λ e. e)

pub not_reflects : (t : Bool) {P : Type 0} → Reflects t P → Reflects (not t) (P → ⊥)
not_reflects true r = (λ e. absurd (false≢true e), λ n. absurd (n (r.0 refl)))
not_reflects false r = (λ e p. false≢true (r.1 p), λ n. refl)

pub or_reflects : (t u : Bool) {P Q : Type 0} → Reflects t P → Reflects u Q → Reflects (t || u) (P ⊎ Q)
or_reflects true u r s = (λ e. inl (r.0 refl), λ q. refl)
or_reflects false u r s = (λ e. inr (s.0 e), λ q. ⊎_elim (λ p. absurd (false≢true (r.1 p))) (λ p. s.1 p) q)

pub and_reflects : (t u : Bool) {P Q : Type 0} → Reflects t P → Reflects u Q → Reflects (t && u) (P × Q)
and_reflects true u r s = (λ e. (r.0 refl, s.0 e), λ q. s.1 q.1)
and_reflects false u r s = (λ e. absurd (false≢true e), λ q. r.1 q.0)

-- ---- states

unrank : ℕ → State
unrank n =
    cond (eqb n 0) Failed
    (cond (eqb n 1) Normal
    (cond (eqb n 2) CheckpBegin
    (cond (eqb n 3) Checkpointing
    (cond (eqb n 4) Checkpointed (cond (eqb n 5) Error (cond (eqb n 6) Recovering (cond (eqb n 7) Recovered Crashed)))))))

unrank_rank : (s : State) → unrank (rank s) ≡ s
unfolding unrank
unrank_rank Failed = refl
unrank_rank Normal = refl
unrank_rank CheckpBegin = refl
unrank_rank Checkpointing = refl
unrank_rank Checkpointed = refl
unrank_rank Error = refl
unrank_rank Recovering = refl
unrank_rank Recovered = refl
unrank_rank Crashed = refl

pub in_state : (s t : State) → Reflects (is_in s t) (s ≡ t)
in_state s t =
    (λ e. sym (unrank_rank s) ∙ (ap unrank (eqb-true (rank s) (rank t) e) ∙ unrank_rank t), λ e. eq-eqb (rank s) (rank t) (ap rank e))

pub in_recovery_lem : (s : State) → Reflects (in_recovery s) (Recovers s)
in_recovery_lem s =
    or_reflects (is_in s Error) (is_in s Recovering || is_in s Recovered) (in_state s Error)
    (or_reflects (is_in s Recovering) (is_in s Recovered) (in_state s Recovering) (in_state s Recovered))

pub in_saving_lem : (s : State) → Reflects (in_saving s) (Saves s)
in_saving_lem s = or_reflects (is_in s Checkpointing) (is_in s Checkpointed) (in_state s Checkpointing) (in_state s Checkpointed)

pub in_serving : (s : State) → Reflects (serving s) (Serves s)
in_serving s =
    or_reflects (is_in s Normal) (is_in s CheckpBegin || in_saving s) (in_state s Normal)
    (or_reflects (is_in s CheckpBegin) (in_saving s) (in_state s CheckpBegin) (in_saving_lem s))

-- no state serves and recovers
pub serves_or_recovers : (s : State) → Serves s → Recovers s → ⊥
serves_or_recovers s p r = apart s ((in_serving s).1 p) ((in_recovery_lem s).1 r)
  where
    apart : (s : State) → serving s ≡ true → in_recovery s ≡ true → ⊥
    apart Failed p r = false≢true p
    apart Normal p r = false≢true r
    apart CheckpBegin p r = false≢true r
    apart Checkpointing p r = false≢true r
    apart Checkpointed p r = false≢true r
    apart Error p r = false≢true p
    apart Recovering p r = false≢true p
    apart Recovered p r = false≢true p
    apart Crashed p r = false≢true p

-- ---- fault places and check values

pub same_number : (a b : ℕ) → Reflects (eqb a b) (a ≡ b)
same_number a b = (eqb-true a b, eq-eqb a b)

pub same_place_lem : (p q : Place) → Reflects (same_place p q) (p ≡ q)
same_place_lem (AtFailed a) (AtFailed b) = (λ e. ap AtFailed (eqb-true a b e), λ e. eq-eqb a b (cc))
same_place_lem (AtFailed a) (AtTripped b) = (λ e. absurd (false≢true e), λ e. let z : ◌≡◌ {A = ℕ} 0 1 = cc in absurd (omega arith))
same_place_lem (AtFailed a) (AtLink b c) = (λ e. absurd (false≢true e), λ e. let z : ◌≡◌ {A = ℕ} 0 1 = cc in absurd (omega arith))
same_place_lem (AtTripped a) (AtFailed b) = (λ e. absurd (false≢true e), λ e. let z : ◌≡◌ {A = ℕ} 0 1 = cc in absurd (omega arith))
same_place_lem (AtTripped a) (AtTripped b) = (λ e. ap AtTripped (eqb-true a b e), λ e. eq-eqb a b (cc))
same_place_lem (AtTripped a) (AtLink b c) = (λ e. absurd (false≢true e), λ e. let z : ◌≡◌ {A = ℕ} 0 1 = cc in absurd (omega arith))
same_place_lem (AtLink a b) (AtFailed c) = (λ e. absurd (false≢true e), λ e. let z : ◌≡◌ {A = ℕ} 0 1 = cc in absurd (omega arith))
same_place_lem (AtLink a b) (AtTripped c) = (λ e. absurd (false≢true e), λ e. let z : ◌≡◌ {A = ℕ} 0 1 = cc in absurd (omega arith))
same_place_lem (AtLink a b) (AtLink c d) =
    let both = and_reflects (eqb a c) (eqb b d) (same_number a c) (same_number b d) in
    (λ e. let p : a ≡ c = (both.0 e).0 in let q : b ≡ d = (both.0 e).1 in cc, λ e. both.1 (cc, cc))

pub fault_for : (m : Alarm) (p : Place) → Reflects (is_for m p) (m ≡ Some p)
fault_for None p = (λ e. absurd (false≢true e), λ e. let z : ◌≡◌ {A = ℕ} 0 1 = cc in absurd (omega arith))
fault_for (Some q) p = (λ e. ap Some ((same_place_lem q p).0 e), λ e. (same_place_lem q p).1 (cc))

pub same_check_lem : (v w : Check) → Reflects (same_check v w) (v ≡ w)
same_check_lem v w = (
  λ e i. let f = and_true {s = eqb v.crc w.crc} e in record { crc = eqb-true v.crc w.crc f.0 i; count = eqb-true v.count w.count f.1 i },
  λ e. and_intro (eq-eqb v.crc w.crc (ap (λ (c : Check). c.crc) e)) (eq-eqb v.count w.count (ap (λ (c : Check). c.count) e)),
)

-- ---- some cabinet

module _ (f : Cabinet → Bool) (g : Group) where
  pub those_marked : (i : ℕ) → i < 8 → marked (those f g) i ≡ f (cabinet g i)
  those_marked zero h = refl
  those_marked (suc zero) h = refl
  those_marked (suc (suc zero)) h = refl
  those_marked (suc (suc (suc zero))) h = refl
  those_marked (suc (suc (suc (suc zero)))) h = refl
  those_marked (suc (suc (suc (suc (suc zero))))) h = refl
  those_marked (suc (suc (suc (suc (suc (suc zero)))))) h = refl
  those_marked (suc (suc (suc (suc (suc (suc (suc zero))))))) h = refl
  those_marked (suc (suc (suc (suc (suc (suc (suc (suc i)))))))) h = absurd (omega arith)

pub some_recovers : (g : Group) → Reflects (some (recovering_ones g)) (SomeRecovers g)
unfolding some recovering_ones
some_recovers g = (to, from)
  where
    to : some (recovering_ones g) ≡ true → SomeRecovers g
    to e =
        let l = ltb-true (lowest (recovering_ones g)) 8 e in
        let i = lowest (recovering_ones g) in
        (i, l, (in_recovery_lem (state_of g i)).0 (sym (those_marked (λ c. in_recovery c.phase.state) g i l) ∙ lowest_marked (recovering_ones g) l))

    from : SomeRecovers g → some (recovering_ones g) ≡ true
    from r =
        let m = lowest_le_marked (recovering_ones g) r.0 (those_marked (λ c. in_recovery c.phase.state) g r.0 r.1 ∙ (in_recovery_lem (state_of g r.0)).1 r.2) in
        lt-ltb (lowest (recovering_ones g)) 8 (omega (arith, r.1))

-- ---- reach

missed : (w h : Bool) → not w || h ≡ false → (w ≡ true) × (h ≡ false)
missed true h e = (refl, e)
missed false h e = absurd (true≢false e)

-- where not all that is wanted is had, one that is missing
abbrev Missing : ℕ → Marks → Marks → Type 0
Missing n h w = (j : ℕ) × (j < n) × (marked w j ≡ true) × (marked h j ≡ false)

missing_to : (h w : Marks) (n : ℕ) → covers_to n h w ≡ false → Missing n h w
missing_to h w zero e = absurd (true≢false e)
missing_to h w (suc n) e = go (covers_to n h w) (missing_to h w n) e
  where
    go : (t : Bool) → (t ≡ false → Missing n h w) → t && (not (marked w n) || marked h n) ≡ false → Missing (suc n) h w
    go true below e = let m = missed (marked w n) (marked h n) e in (n, omega arith, m.0, m.1)
    go false below e = let b = below refl in (b.0, omega (arith, b.1), b.2, b.3)

missing : (h w : Marks) → covers h w ≡ false → Missing 8 h w
unfolding covers
missing h w e = missing_to h w 8 e

unreached : (links : Rows) (works : Marks) → connected links works ≡ false → Unreached links works
unfolding connected
unreached links works e =
    let m = missing (reached links works) works e in
    let l = lowest_le_marked works m.0 m.2 in
    (m.0, m.1, m.2, λ path. true≢false (sym (path_reached links works m.0 (omega (arith, m.1)) path) ∙ m.3))

pub not_reached : (links : Rows) (works : Marks) → Reflects (not (connected links works)) (Unreached links works)
not_reached links works =
    (λ e. unreached links works (not-true (connected links works) e), λ u. none (connected links works) (λ t. u.3 (connected_paths links works t u.0 u.1 u.2)))
  where
    none : (t : Bool) → (t ≡ true → ⊥) → not t ≡ true
    none true n = absurd (n refl)
    none false n = refl
