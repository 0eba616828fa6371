-- How the ghost of the proof stands to the history that the claim speaks of, and what a step owes.
use Prim.Native.Nat.{ℕ, ◌<◌, ◌≤◌}
use mathlib.Core.Path.{◌≡◌, refl, sym, ap, ◌∙◌, fun_ext}
use mathlib.Core.Logic.{◌≢◌, ◌⊎◌, inl, ⊎_elim}
use mathlib.Core.Bool.{Bool, true, false, cond, not, ◌&&◌, true≢false}
use mathlib.Core.List.{List, [], ◌∷◌}
use mathlib.Core.Option.{Option, none, some}
use native.Mathlib.Omega.{arith}
use Rattle.outlet.specs.declared.Party.{Party}
use Rattle.state.specs.declared.State.{State}
use Rattle.state.specs.declared.State.TheVariants.{Normal, Checkpointing, Checkpointed, Error}
use Rattle.image.specs.declared.Image.{Image}
use Rattle.state.specs.State.{is_in, works, in_recovery, in_saving}
use Rattle.image.specs.Image.{booked}
use Rattle.group.specs.declared.Group.{Group}
use Rattle.group.specs.Group.{state_of, sum}
use Rattle.protocol.specs.declared.Step.{Step}
use Rattle.protocol.specs.History.{Cut, Save, History, upd, bare_cut, bare_save, latest, newest, saved_image, image_in, with_cuts, observe, note_cuts, cut_in, ends}
use Rattle.protocol.specs.Restored.{sent_in, taken_in, Balanced, Restored}
use Rattle.claims.proofs.State.Fun.{never, is_false, and_true, or_left, or_right, upd_elim, kept_at, sum_tail}
use Rattle.claims.proofs.State.View.{View, Own, Side, view}
use Rattle.claims.proofs.Invariant.States.{apart}
use Rattle.claims.proofs.Invariant.Facts.{Big, Ghost, aware, unaware}
use Rattle.claims.proofs.Invariant.Whole.{Inv, aware_of, work_of}
use Rattle.claims.proofs.Invariant.Staying.{Faults, Goes, Stays, Reports, Silent, reports_kept, none_comes, stays_calm, error_aware}
use Rattle.claims.proofs.Invariant.Words.{un_not_aware}

-- the image of a cabinet in a save: its cut's, or for one lost before, the image that it was lost with
abbrev pub HeldIn : Option Image → Option Cut → Image → Type 0
HeldIn lost cut m = (lost ≡ some m) ⊎ ((lost ≡ none) × ((x : Cut) × (cut ≡ some x) × (x.image ≡ m)))

-- a save was committed since the start or the last recovery's end, and the last one was not passed over
abbrev pub Stands : History → Type 0
Stands h = (h.standing ≡ true) × ((x : Save) × (xs : List Save) × (h.saves ≡ x ∷ xs))

pub record Past (n : ℕ) (v : View) (γ : Ghost) (h : History) : Type 0 where
  -- the logs
  pub sent : (c d : ℕ) → h.sent c d ≡ (γ.wire c d).sent
  pub taken : (c d : ℕ) → h.taken c d ≡ (γ.wire c d).taken
  pub damaged : (y : Party) → h.damaged y ≡ not (γ.big.clean y)
  pub hurt : (c d : ℕ) → h.hurt c d ≡ (γ.wire c d).hurt
  -- D1: the logs at a cut are the logs now
  pub cuts : γ.big.alive ≡ true → (c : ℕ) → (γ.mind c).done ≡ true → (x : Cut) × (h.cuts c ≡ some x) × (x.image ≡ (γ.mind c).cut)
      × ((d : ℕ) → x.sent d ≡ (γ.wire c d).sent) × ((d : ℕ) → x.taken d ≡ (γ.wire d c).taken)
  pub no_cut : γ.big.alive ≡ true → γ.big.begun ≡ true → (c : ℕ) → (γ.mind c).tab ≡ false → h.cuts c ≡ none
  -- the save that the rule gives
  pub known : (latest h).known ≡ γ.big.adopted
  pub tops : (c : ℕ) → c < n → HeldIn (h.lost c) ((latest h).cut c) (γ.mind c).top
  pub balanced : Balanced (latest h)
  pub present : (c : ℕ) → (γ.mind c).tab ≡ true → h.lost c ≡ none
  pub gone : (c : ℕ) → c < n → (γ.mind c).tab ≡ false → h.lost c ≡ some (γ.mind c).top
  pub beyond : (y : Party) (c : ℕ) → n ≤ c → booked y (γ.mind c).top ≡ 0
  -- the one before it, wanted while the coordinator alone knows of the newest
  pub below : γ.big.adopted ≡ false → (x : Save) × (xs : List Save) × (h.saves ≡ x ∷ xs) × (x.by ≡ γ.big.chief)
      × ((j : ℕ) → j ≢ γ.big.chief → work_of v j ≡ true → (newest xs h.start).known ≡ true)
      × ((c : ℕ) → c < n → HeldIn (h.lost c) ((newest xs h.start).cut c) (γ.mind c).prev) × Balanced (newest xs h.start)
  -- a save under way, or one that may be so again, was begun since the last recovery's end
  pub begun : (γ.big.begun ≡ true) ⊎ (γ.big.adopted ≡ false) → h.begun ≡ true
  -- who waits for a resume in checkpointed waits for that of a save that stands
  pub waits : (c : ℕ) → is_in (v.own c).state Checkpointed ≡ true → (γ.mind c).joined ≡ false → Stands h

-- ---- the save that the rule gives

pub held_now : (lost : Option Image) (cut : Option Cut) (m : Image) → HeldIn lost cut m → saved_image lost (image_in cut) ≡ some m
held_now lost cut m = ⊎_elim (λ e. rw e) (λ e. rw (e.0, e.1.1, e.1.2))

-- where nothing counts as sent or taken
pub bare_balanced : (images : ℕ → Option Image) → Balanced (bare_save images)
bare_balanced images c d = none_taken (images d) ∙ sym (none_sent (images c))
  where
    none_taken : (m : Option Image) → taken_in (bare_cut m) c ≡ []
    none_taken none = refl
    none_taken (some m) = refl

    none_sent : (m : Option Image) → sent_in (bare_cut m) d ≡ []
    none_sent none = refl
    none_sent (some m) = refl

-- a working cabinet has its cut in it
pub cut_held : {n : ℕ} {total : Party → ℕ} {v : View} {γ : Ghost} {h : History} → Inv n total v γ → Past n v γ h → (c : ℕ) → work_of v c ≡ true
    → (y : Cut) × ((latest h).cut c ≡ some y) × (y.image ≡ (γ.mind c).top)
cut_held i p c w =
    let t = (i.core.nodes c).placed w in
    ⊎_elim (λ e. absurd (some_none (sym e ∙ p.present c t))) (λ e. e.1) (p.tops c (i.core.ground.within c t))
  where
    some_none : {m : Image} → some m ≡ none → ⊥
    some_none e = let z : ◌≡◌ {A = ℕ} 0 1 = cc in omega arith

-- the images in it add up, for each party
pub tops_add : {n : ℕ} {total : Party → ℕ} {v : View} {γ : Ghost} {h : History} → Inv n total v γ → Past n v γ h
    → (y : Party) → sum (λ c. booked y (γ.mind c).top) n ≡ total y
tops_add {n} {γ} i p y = sym (sum_tail (λ c. booked y (γ.mind c).top) n 8 i.core.ground.most (p.beyond y)) ∙ i.core.sums.tops y

-- ---- what a taken step owes

-- the history once step s took group g to g'
abbrev pub after : History → Group → Group → Step → History
after h g g' s = note_cuts (observe h g g' s) g g'

pub record Kept (total : Party → ℕ) (g : Group) (γ : Ghost) (g' : Group) (h' : History) : Type 0 where
  pub ghost : Ghost
  pub inv : Inv g.n total (view g') ghost
  pub past : Past g.n (view g') ghost h'
  pub stays : Stays (view g) γ (view g') ghost

-- ---- the history where no cabinet has its cut in the step, and where no cabinet's work changes nor comes to wait

pub no_cuts : (h : History) (g g' : Group) → ((i : ℕ) → is_in (state_of g' i) Checkpointing ≡ true → is_in (state_of g i) Checkpointing ≡ true) → note_cuts h g g' ≡ h
no_cuts h g g' e = λ t. with_cuts h (same t)
  where
    one : (i : ℕ) (s u : Bool) → (s ≡ true → u ≡ true) → cond (s && not u) (some (cut_in h g' i)) (h.cuts i) ≡ h.cuts i
    one i true true f = refl
    one i true false f = absurd (true≢false (sym (f refl)))
    one i false u f = refl

    same : (note_cuts h g g').cuts ≡ h.cuts
    same = fun_ext (λ i. one i _ _ (e i))

pub past_view : {n : ℕ} {v w : View} {γ : Ghost} {h : History} → ((j : ℕ) → work_of w j ≡ work_of v j)
    → ((j : ℕ) → is_in (w.own j).state Checkpointed ≡ true → (γ.mind j).joined ≡ false → is_in (v.own j).state Checkpointed ≡ true)
    → Past n v γ h → Past n w γ h
past_view e f p = record {
  sent = p.sent;
  taken = p.taken;
  damaged = p.damaged;
  hurt = p.hurt;
  cuts = p.cuts;
  no_cut = p.no_cut;
  known = p.known;
  tops = p.tops;
  balanced = p.balanced;
  present = p.present;
  gone = p.gone;
  beyond = p.beyond;
  below = λ a. let b = p.below a in (b.0, b.1, b.2, b.3, (λ j d k. b.4 j d (sym (e j) ∙ k)), b.5, b.6);
  begun = p.begun;
  waits = λ c s j. p.waits c (f c s j) j;
}

-- no state changes
pub past_same : {n : ℕ} {v w : View} {γ : Ghost} {h : History} → ((j : ℕ) → (w.own j).state ≡ (v.own j).state) → Past n v γ h → Past n w γ h
past_same e p = past_view (λ j. ap works (e j)) (λ j s _. ap (λ (x : State). is_in x Checkpointed) (sym (e j)) ∙ s) p

pub past_still : {n : ℕ} {γ : Ghost} {h : History} (g g' : Group) → ((j : ℕ) → state_of g' j ≡ state_of g j) → Past n (view g) γ h
    → Past n (view g') γ (note_cuts h g g')
past_still {h} g g' e p = rw (no_cuts h g g' (λ j s. ap (λ (x : State). is_in x Checkpointing) (sym (e j)) ∙ s)) (past_same e p)

-- one cabinet's state changes, and it does not come to wait
pub past_one : {n : ℕ} {v w : View} {γ : Ghost} {h : History} (c : ℕ) (o : Own) → ((j : ℕ) → (w.own j).state ≡ (upd v.own c o j).state)
    → works o.state ≡ work_of v c → is_in o.state Checkpointed ≡ false → Past n v γ h → Past n w γ h
past_one {v} c o e same off =
    past_view (λ j. ap works (e j) ∙ kept_at (λ (x : Own). works x.state) v.own c o same j)
    (λ j s _. upd_elim (λ (x : Own). is_in x.state Checkpointed ≡ true → is_in (v.own j).state Checkpointed ≡ true) v.own c o j
    (λ _ t. absurd (never t off)) (λ _ t. t) (ap (λ (x : State). is_in x Checkpointed) (sym (e j)) ∙ s))

-- nor has it its cut
pub past_turn : {n : ℕ} {γ : Ghost} {h : History} (g g' : Group) (c : ℕ) (o : Own) → ((j : ℕ) → state_of g' j ≡ (upd (view g).own c o j).state)
    → works o.state ≡ work_of (view g) c → in_saving o.state ≡ false → Past n (view g) γ h → Past n (view g') γ (note_cuts h g g')
past_turn {h} g g' c o e same off p =
    rw (no_cuts h g g'
    (λ j s. upd_elim (λ (x : Own). is_in x.state Checkpointing ≡ true → is_in (state_of g j) Checkpointing ≡ true) (view g).own c o j
    (λ _ t. absurd (never (or_left (is_in o.state Checkpointing) _ t) off)) (λ _ t. t) (ap (λ (x : State). is_in x Checkpointing) (sym (e j)) ∙ s)))
    (past_one c o e same (is_false _ (λ t. never (or_right (is_in o.state Checkpointing) _ t) off)) p)

pub aware_not_normal : (b : Big) (o : Own) → aware b o ≡ true → is_in o.state Normal ≡ false
aware_not_normal b o e = apart (λ s. in_recovery s) o.state Normal (and_true {s = b.faulted} e).1 refl

-- who is aware of a fault does not go to normal
pub goes_not_normal : {v : View} {γ : Ghost} {w : View} {δ : Ghost} → Goes v γ w δ → (c : ℕ) → aware_of v γ c ≡ true → is_in (w.own c).state Normal ≡ false
goes_not_normal {w} {δ} o c a = aware_not_normal δ.big (w.own c) (o.on c a).0

-- nobody is in error without a fault
pub quiet_of : {n : ℕ} {total : Party → ℕ} {v : View} {γ : Ghost} → Inv n total v γ → (c : ℕ) → γ.big.faulted ≡ false → is_in (v.own c).state Error ≡ false
quiet_of i c e = ((i.core.nodes c).quiet e).0

-- nor is one in error that is not aware of a fault
pub calm_error : {n : ℕ} {total : Party → ℕ} {v : View} {γ : Ghost} → Inv n total v γ → (c : ℕ) → unaware γ.big (v.own c) ≡ true → is_in (v.own c).state Error ≡ false
calm_error {v} {γ} i c un = is_false _ (λ e. un_not_aware γ.big (v.own c) un (error_aware v γ (quiet_of i) c e))

-- a move of a cabinet that is not aware of a fault, and stays out of error
pub calm_stays : {n : ℕ} {total : Party → ℕ} {v : View} {γ : Ghost} → Inv n total v γ → (w : View) (δ : Ghost) (c : ℕ) (o : Own) (s : ℕ → Side)
    → w.own ≡ upd v.own c o → w.side ≡ upd v.side c s → unaware γ.big (v.own c) ≡ true → is_in o.state Error ≡ false
    → Faults v γ δ → Stays v γ w δ
calm_stays {v} {γ} i w δ c o s own side un out =
    stays_calm v γ (quiet_of i) w δ c o s own side un (λ e. absurd (never e out))

-- all working cabinets are in error for one place
abbrev pub OnePlace : View → Type 0
OnePlace v = (c d : ℕ) → work_of v c ≡ true → work_of v d ≡ true → (v.own c).alarm ≡ (v.own d).alarm

-- what a step brings in which a recovery ends
pub record Ended (total : Party → ℕ) (g g' : Group) (h' : History) (δ : Ghost) : Type 0 where
  pub restored : Restored g.n total h' g'
  pub known : (latest h').known ≡ true
  pub place : OnePlace (view g)
  pub over : δ.big.faulted ≡ false
  -- nobody comes to work
  pub gone : (c : ℕ) → works (state_of g c) ≡ false → works (state_of g' c) ≡ false
  pub who : (j : ℕ) × (works (state_of g j) ≡ true) × (ends g g' j ≡ true)

-- what a step owes that may end a recovery, or be a report
pub record Next (total : Party → ℕ) (g : Group) (γ : Ghost) (g' : Group) (h' : History) (asks : Bool) : Type 0 where
  pub ghost : Ghost
  pub inv : Inv g.n total (view g') ghost
  pub past : Past g.n (view g') ghost h'
  pub reports : Reports (view g')
  pub silent : asks ≡ false → Silent (view g) → Silent (view g')
  pub fate : Goes (view g) γ (view g') ghost ⊎ Ended total g g' h' ghost

-- and one that ends none
pub record Went (total : Party → ℕ) (g : Group) (γ : Ghost) (g' : Group) (h' : History) : Type 0 where
  pub ghost : Ghost
  pub inv : Inv g.n total (view g') ghost
  pub past : Past g.n (view g') ghost h'
  pub reports : Reports (view g')
  pub goes : Goes (view g) γ (view g') ghost

pub went_next : {total : Party → ℕ} {g : Group} {γ : Ghost} {g' : Group} {h' : History} {asks : Bool} → (asks ≡ false → Silent (view g) → Silent (view g'))
    → Went total g γ g' h' → Next total g γ g' h' asks
went_next s k = record { ghost = k.ghost; inv = k.inv; past = k.past; reports = k.reports; silent = s; fate = inl k.goes }

pub kept_next : {total : Party → ℕ} {g : Group} {γ : Ghost} {g' : Group} {h' : History} {asks : Bool} → Inv g.n total (view g) γ → Reports (view g)
    → Kept total g γ g' h' → Next total g γ g' h' asks
kept_next {g} {γ} {g'} i r k = went_next (λ _. none_comes (view g) γ (view g') k.ghost k.stays) (record {
  ghost = k.ghost;
  inv = k.inv;
  past = k.past;
  reports = reports_kept (view g) γ (quiet_of i) (view g') k.ghost k.stays r;
  goes = k.stays.goes;
})
