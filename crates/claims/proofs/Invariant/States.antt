-- States and versions: what one of their tests says about the others.
use Rattle.std.specs.Prelude.{Some}
use Prim.Native.Nat.{ℕ}
use mathlib.Core.Path.{◌≡◌, refl, sym, ap, ◌∙◌}
use mathlib.Core.Logic.{◌⊎◌, inl, inr, ⊎_elim}
use mathlib.Core.Bool.{Bool, true, false, not, ◌&&◌, ◌||◌, false≢true, true≢false}
use native.Mathlib.Omega.{arith}
use Rattle.packet.specs.declared.Place.{Place}
use Rattle.state.specs.declared.State.{State}
use Rattle.state.specs.declared.State.TheVariants.{Failed, Normal, CheckpBegin, Checkpointing, Checkpointed, Error, Recovering, Recovered, Crashed}
use Rattle.state.specs.declared.Version.{Version}
use Rattle.state.specs.declared.Version.TheVariants.{Known, Unknown, Lost}
use Rattle.state.specs.State.{is_in, works, in_recovery, in_restoring, in_saving, is_unknown, bit_of}
use Rattle.protocol.specs.Receive.{serving}
use Rattle.claims.proofs.State.Fun.{never, is_false, and_true, or_left, or_right, or_split, not_not}
use Rattle.claims.proofs.Answers.Tests.{in_state}

-- ---- states

-- a test that holds of a state and not of another tells them apart
pub apart : (f : State → Bool) (s t : State) → f s ≡ true → f t ≡ false → is_in s t ≡ false
apart f s t e n = is_false (is_in s t) (λ i. never e (ap f ((in_state s t).0 i) ∙ n))

pub other_state : {s t u : State} → s ≡ t → is_in t u ≡ false → s ≡ u → ⊥
other_state {s} {t} {u} e f q = never ((in_state t u).1 (sym e ∙ q)) f

pub not_both : (s t u : State) → is_in t u ≡ false → (is_in s t && is_in s u) ≡ false
not_both s t u n = is_false _ (λ e.
    let b = and_true {s = is_in s t} e in
    other_state ((in_state s t).0 b.0) n ((in_state s u).0 b.1))

pub failed_state : (s : State) → works s ≡ false → s ≡ Failed
failed_state s e = (in_state s Failed).0 (sym (not_not (is_in s Failed)) ∙ ap not e)

pub recovering_works : (s : State) → in_recovery s ≡ true → works s ≡ true
recovering_works s e = ap not (apart (λ x. in_recovery x) s Failed e refl)

pub error_recovers : (s : State) → is_in s Error ≡ true → in_recovery s ≡ true
error_recovers s e = or_left (is_in s Error) _ e

pub serving_calm : (s : State) → serving s ≡ true → (works s ≡ true) × (in_recovery s ≡ false)
serving_calm s e =
    let off : (t : State) → serving t ≡ false → is_in s t ≡ false = λ t n. apart (λ x. serving x) s t e n in
    (ap not (off Failed refl), rw (off Error refl, off Recovering refl, off Recovered refl))

pub saving_works : (s : State) → in_saving s ≡ true → (works s ≡ true) × (in_recovery s ≡ false) × (is_in s Normal ≡ false)
saving_works s e =
    let off : (t : State) → in_saving t ≡ false → is_in s t ≡ false = λ t n. apart (λ x. in_saving x) s t e n in
    (ap not (off Failed refl), rw (off Error refl, off Recovering refl, off Recovered refl), off Normal refl)

pub restoring_one : (s : State) → in_restoring s ≡ true → (s ≡ Recovering) ⊎ (s ≡ Recovered)
restoring_one s e = ⊎_elim (λ r. inl ((in_state s Recovering).0 r)) (λ r. inr ((in_state s Recovered).0 r)) (or_split (is_in s Recovering) (is_in s Recovered) e)

pub restoring_works : (s : State) → in_restoring s ≡ true
    → (in_recovery s ≡ true) × (is_in s Error ≡ false) × (in_saving s ≡ false) × (is_in s Normal ≡ false) × (works s ≡ true)
restoring_works s e =
    let off : (t : State) → in_restoring t ≡ false → is_in s t ≡ false = λ t n. apart (λ x. in_restoring x) s t e n in
    (or_right (is_in s Error) (in_restoring s) e, off Error refl, rw (off Checkpointing refl, off Checkpointed refl), off Normal refl, ap not (off Failed refl))

pub opens_serve : (s : State) → (is_in s Normal || is_in s CheckpBegin) ≡ true → serving s ≡ true
opens_serve s e =
    ⊎_elim (λ n. or_left (is_in s Normal) _ n) (λ c. or_right (is_in s Normal) _ (or_left (is_in s CheckpBegin) _ c)) (or_split (is_in s Normal) (is_in s CheckpBegin) e)

pub serves_or_restores : (s : State) → works s ≡ true → is_in s Crashed ≡ false → serving s ≡ false → in_recovery s ≡ true
serves_or_restores Failed w c e = absurd (false≢true w)
serves_or_restores Normal w c e = absurd (true≢false e)
serves_or_restores CheckpBegin w c e = absurd (true≢false e)
serves_or_restores Checkpointing w c e = absurd (true≢false e)
serves_or_restores Checkpointed w c e = absurd (true≢false e)
serves_or_restores Error w c e = refl
serves_or_restores Recovering w c e = refl
serves_or_restores Recovered w c e = refl
serves_or_restores Crashed w c e = absurd (true≢false c)

-- ---- versions and places

pub known_same : {x y : Bool} → Known x ≡ Known y → x ≡ y
known_same e = ap bit_of e

pub known_not_unknown : {x y : Bool} → Known x ≡ Unknown y → ⊥
known_not_unknown e = false≢true (ap is_unknown e)

pub known_not_lost : {x : Bool} → Known x ≡ Lost → ⊥
known_not_lost e = false≢true (ap is_unknown e)

pub unknown_not_lost : {x : Bool} → Unknown x ≡ Lost → ⊥
unknown_not_lost {x} e = let z : ◌≡◌ {A = ℕ} 0 1 = ap place e in omega arith
  where
    place : Version → ℕ
    place (Known v) = 0
    place (Unknown v) = 0
    place Lost = 1

pub known_is_known : (x : Version) → is_unknown x ≡ false → x ≡ Known (bit_of x)
known_is_known (Known v) e = refl
known_is_known (Unknown v) e = absurd (true≢false e)
known_is_known Lost e = absurd (true≢false e)

pub unknown_old : (x : Version) → is_unknown x ≡ true → (x ≡ Lost → ⊥) → (v : Bool) × (x ≡ Unknown v)
unknown_old (Known v) e l = absurd (false≢true e)
unknown_old (Unknown v) e l = (v, refl)
unknown_old Lost e l = absurd (l refl)

pub place_same : {p q : Place} → Some p ≡ Some q → p ≡ q
place_same e = cc
