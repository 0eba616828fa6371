-- The line without bounds of `specs/Fifo`, said of views, and the one frame for all moves: lines out of a cabinet whose state stays hold
-- what they held.
use Prim.Native.Nat.{ℕ}
use mathlib.Core.Path.{◌≡◌, refl, sym, ap, ◌∙◌}
use mathlib.Core.Logic.{◌⊎◌, inl, inr}
use mathlib.Core.Bool.{Bool, true, false, cond, not, ◌&&◌, ◌||◌, and-not_self, or-false}
use mathlib.Core.List.{List, [], ◌∷◌, ◌++◌, append-nil}
use native.Mathlib.Decide.{ℕ_discrete}
use Rattle.packet.specs.declared.Place.TheVariants.{Tripped as AtTripped}
use Rattle.packet.specs.declared.Check.{Check}
use Rattle.packet.specs.declared.Packet.{Packet}
use Rattle.packet.specs.declared.Packet.TheVariants.{Checkp, Resume, Recover}
use Rattle.state.specs.declared.State.{State}
use Rattle.state.specs.declared.State.TheVariants.{Failed, Normal, CheckpBegin, Checkpointing, Checkpointed, Error, Recovering, Recovered, Crashed}
use Rattle.state.specs.declared.Version.{Version}
use Rattle.cabinet.specs.Alarm.{Alarm}
use Rattle.image.specs.declared.Image.{Image}
use Rattle.cabinet.specs.Alarm.{is_for}
use Rattle.state.specs.State.{is_in, works, in_recovery, bit_of}
use Rattle.protocol.specs.History.{upd}
use Rattle.protocol.specs.Receive.{serving}
use Rattle.claims.specs.Fifo.{fault_of}
use Rattle.claims.proofs.State.Fun.{upd_same, upd_other, upd_case}
use Rattle.claims.proofs.State.View.{View, Own, Side, used}
use Rattle.claims.proofs.Invariant.Frame.{moved}

-- ---- what is put, by the states before and after

abbrev pub enters : State → State → Bool
enters s t = serving s && in_recovery t

abbrev pub said : State → Version → List Packet
said t x = cond (is_in t Recovering) (Recover (bit_of x) ∷ []) []

abbrev pub put_on : State → State → Version → Alarm → Check → Bool → List Packet
put_on s t x q k back =
    cond (is_in s Normal && (is_in t CheckpBegin || is_in t Checkpointing)) (Checkp k ∷ [])
    (cond (not (is_in s Normal) && is_in t Normal) (cond (is_in s Checkpointed && back) [] (Resume ∷ []))
    (cond (enters s t) (fault_of q ++ said t x)
    (cond (is_in s Error && is_in t Recovering) (said t x) [])))

pub put_none : (s : State) (x : Version) (q : Alarm) (k : Check) (back : Bool) → put_on s s x q k back ≡ []
put_none Failed x q k back = refl
put_none Normal x q k back = refl
put_none CheckpBegin x q k back = refl
put_none Checkpointing x q k back = refl
put_none Checkpointed x q k back = refl
put_none Error x q k back = refl
put_none Recovering x q k back = refl
put_none Recovered x q k back = refl
put_none Crashed x q k back = refl

pub enters_none : (s : State) → enters s s ≡ false
enters_none Failed = refl
enters_none Normal = refl
enters_none CheckpBegin = refl
enters_none Checkpointing = refl
enters_none Checkpointed = refl
enters_none Error = refl
enters_none Recovering = refl
enters_none Recovered = refl
enters_none Crashed = refl

pub cond_same : {A : Type 0} (u : Bool) (x : A) → cond u x x ≡ x
cond_same true x = refl
cond_same false x = refl

-- nothing is put, nothing emptied
abbrev pub Idle : State → State → Type 0
Idle s t = (works t ≡ works s) × (enters s t ≡ false) × ((x : Version) (q : Alarm) (k : Check) (back : Bool) → put_on s t x q k back ≡ [])

pub idle_same : (s : State) → Idle s s
idle_same s = (refl, enters_none s, put_none s)

-- as much is put where a cabinet that joins has its cut in the same step
abbrev pub Cut : State → State → Type 0
Cut s t = (s ≡ t) ⊎ ((s ≡ CheckpBegin) × (t ≡ Checkpointing))

abbrev pub Alike : Own → Own → Type 0
Alike o p = Cut o.state p.state × (p.version ≡ o.version) × (p.alarm ≡ o.alarm)

alike_put : (r s t : State) → Cut s t → (x : Version) (q : Alarm) (k : Check) (back : Bool) → put_on r s x q k back ≡ put_on r t x q k back
alike_put r s t (inl e) x q k back = rw e
alike_put r s t (inr e) x q k back = rw (e.0, e.1)

alike_works : (s t : State) → Cut s t → works s ≡ works t
alike_works s t (inl e) = ap works e
alike_works s t (inr e) = rw (e.0, e.1)

alike_enters : (r s t : State) → Cut s t → enters r s ≡ enters r t
alike_enters r s t (inl e) = ap (enters r) e
alike_enters r s t (inr e) = rw (e.0, e.1)

-- ---- the lines to a cabinet are emptied where it fails or trips

abbrev pub trips_in : State → Own → ℕ → Bool
trips_in s o b = enters s o.state && is_for o.alarm (AtTripped b)

abbrev pub cut_off : State → Own → ℕ → Bool
cut_off s o b = (works s && not (works o.state)) || trips_in s o b

pub cut_none : (s : State) (o : Own) (b : ℕ) → works o.state ≡ works s → trips_in s o b ≡ false → cut_off s o b ≡ false
cut_none s o b alive calm = rw (calm, alive, and-not_self (works s))

cut_idle : (s : State) (o : Own) (b : ℕ) → works o.state ≡ works s → enters s o.state ≡ false → cut_off s o b ≡ false
cut_idle s o b alive calm = cut_none s o b alive (ap (λ (t : Bool). t && is_for o.alarm (AtTripped b)) calm)

pub cut_still : (s : State) (o : Own) (b : ℕ) → o.state ≡ s → cut_off s o b ≡ false
cut_still s o b e = cut_idle s o b (ap works e) (ap (enters s) e ∙ enters_none s)

alike_cut : (s : State) (o p : Own) (b : ℕ) → Alike o p → cut_off s p b ≡ cut_off s o b
alike_cut s o p b y = rw (y.2, ← alike_works _ _ y.0, ← alike_enters s _ _ y.0)

-- ---- the claim of a line and of all lines: `base` is what was left or sent on them, `back` where no resume is put

module _ (base : ℕ → ℕ → List Packet) (back : ℕ → ℕ → Bool) (v : View) where
  -- a's line to b, where a is o now and b is cut off or not
  abbrev pub Line : ℕ → ℕ → Own → Bool → Side → List Packet → Type 0
  Line a b o cut s l =
      l ≡ cond (enters (v.own a).state o.state || ((works (v.own a).state && not (works o.state)) || cut)) [] (base a b)
      ++ cond (used s) (put_on (v.own a).state o.state o.version o.alarm (v.side a b).put (back a b)) []

  abbrev pub Unbounded : View → Type 0
  Unbounded w = (a b : ℕ) → Line a b (w.own a) (cut_off (v.own b).state (w.own b) b) (w.side a b) (w.lines a b)

  -- no state changes so that something is put, and all lines are as they were left
  pub idle : (w : View) → ((c : ℕ) → Idle (v.own c).state (w.own c).state) → ((a b : ℕ) → w.lines a b ≡ base a b) → Unbounded w
  idle w states lines a b =
      let x = states a in let y = states b in
      lines a b
      ∙ sym (rw (x.2, x.1, x.0, cut_idle (v.own b).state (w.own b) b y.0 y.1, and-not_self (works (v.own a).state), cond_same) (append-nil (base a b)))

  pub still : (w : View) → ((c : ℕ) → (w.own c).state ≡ (v.own c).state) → ((a b : ℕ) → w.lines a b ≡ base a b) → Unbounded w
  still w states lines = idle w (λ c. rw (states c) (idle_same (v.own c).state)) lines

  -- one cabinet i is replaced, with its sides and its lines out
  pub one : (u : View) (i : ℕ) (o : Own) (s : ℕ → Side) (f : ℕ → List Packet) (z : ℕ → Bool → Image) → cut_off (v.own i).state o i ≡ cut_off (v.own i).state (u.own i) i
      → ((b : ℕ) → Line i b o (cut_off (v.own b).state (u.own b) b) (s b) (f b)) → Unbounded u → Unbounded (moved u i o s (upd u.lines i f) z)
  one u i o s f z same here before a b =
      rw (upd_case (λ (j : ℕ) (x : Own). cut_off (v.own j).state x j ≡ cut_off (v.own j).state (u.own j) j) u.own i o same (λ j n. refl) b)
      (elim (ℕ_discrete a i) [
        | yes e ↦ rw (e, upd_same u.own i o, upd_same u.side i s, upd_same u.lines i f) (here b)
        | no n ↦ rw (upd_other u.own i o a n, upd_other u.side i s a n, upd_other u.lines i f a n) (before a b)
      ])

  -- and no cabinet fails or trips
  pub moves : (u : View) → ((c : ℕ) → (u.own c).state ≡ (v.own c).state) → ((a b : ℕ) → u.lines a b ≡ base a b)
      → (i : ℕ) (o : Own) (s : ℕ → Side) (f : ℕ → List Packet) (z : ℕ → Bool → Image) → works o.state ≡ works (v.own i).state
      → trips_in (v.own i).state o i ≡ false
      → ((b : ℕ) → f b ≡ cond (enters (v.own i).state o.state) [] (u.lines i b)
      ++ cond (used (s b)) (put_on (v.own i).state o.state o.version o.alarm (v.side i b).put (back i b)) [])
      → Unbounded (moved u i o s (upd u.lines i f) z)
  moves u states lines i o s f z alive calm here =
      one u i o s f z (cut_none (v.own i).state o i alive calm ∙ sym (cut_still (v.own i).state (u.own i) i (states i)))
      (λ b. here b ∙ sym (rw (cut_still (v.own b).state (u.own b) b (states b), alive, and-not_self (works (v.own i).state), or-false (enters (v.own i).state o.state), ← lines i b)))
      (still u states lines)

  -- what is put stays the same: states, versions and places do, but for a cut after joining
  pub quiet : (u w : View) → ((a b : ℕ) → w.lines a b ≡ u.lines a b) → ((a b : ℕ) → used (w.side a b) ≡ used (u.side a b))
      → ((c : ℕ) → Alike (u.own c) (w.own c)) → Unbounded u → Unbounded w
  quiet u w lines sides alike before a b =
      let x = alike a in let y = alike b in
      rw (
        lines a b,
        sides a b,
        x.1,
        x.2,
        ← alike_put (v.own a).state _ _ x.0,
        ← alike_works _ _ x.0,
        ← alike_enters (v.own a).state _ _ x.0,
        alike_cut (v.own b).state (u.own b) (w.own b) b y,
      ) (before a b)
