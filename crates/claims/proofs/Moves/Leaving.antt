-- A store that is to fail or trip leaves: its partner is home for its cabinets and owes its reports. No cabinet's state, version or image changes,
-- and no slot as a home has it.
use Prim.Native.Nat.{ℕ, ◌<◌}
use mathlib.Core.Path.{◌≡◌, refl, sym, ap, ◌∙◌, subst, fun_ext}
use mathlib.Core.Logic.{◌≢◌, ◌⊎◌, inl, inr, ⊎_elim}
use mathlib.Core.Bool.{Bool, true, false, cond, not, ◌&&◌}
use mathlib.Core.Option.{some as just}
use lib.ListN.{length, length-set, get_or-eq_default}
use lib.Seq.{get_or-set_same, get_or-set_other}
use lib.Dec.{eqb}
use borrow.Author.Tests.{eq-eqb, ne_eqb}
use native.Mathlib.Omega.{arith}
use native.Mathlib.Decide.{ℕ_discrete, dec_lt}
use Rattle.marks.specs.Marks.{Marks, marked, either, no_marks}
use Rattle.marks.specs.MarksLaws.{marked_either}
use Rattle.outlet.specs.declared.Party.{Party}
use Rattle.store.specs.declared.Store.{Store}
use Rattle.store.specs.Store.{partner, is_present, home_in, is_last, leaves}
use Rattle.store.specs.Served.{Served}
use Rattle.store.proofs.Laws.{not_last, leave_present, leave_home, leave_slot}
use Rattle.state.specs.declared.State.{State}
use Rattle.state.specs.declared.State.TheVariants.{Checkpointing}
use Rattle.state.specs.State.{is_in, works, in_recovery}
use Rattle.cabinet.specs.declared.Cabinet.{Cabinet}
use Rattle.cabinet.specs.Cabinet.{absent, with_owed, owing_also, owing_none}
use Rattle.group.specs.declared.Group.{Group}
use Rattle.group.specs.Group.{cabinet, with_cabinet, with_store, state_of, outgoing, line, those, some, working, recovering_ones}
use Rattle.protocol.specs.History.{History, with_cuts, cut_in, note_cuts}
use Rattle.protocol.specs.Moves.{pass_reports, leave}
use Rattle.claims.proofs.State.Fun.{never, or_split, and_true, and_intro, and_not}
use Rattle.claims.proofs.State.Every.{get_d_repeated, ok_leave}
use Rattle.claims.proofs.State.View.{View, own_of, side_of, view}
use Rattle.claims.proofs.State.Shape.{Shaped, Lined, Pictured, shaped}
use Rattle.claims.proofs.State.Sim.{Fit}
use Rattle.claims.proofs.State.ViewMoves.{no_cabinet}
use Rattle.claims.proofs.Invariant.Facts.{Ghost, unaware}
use Rattle.claims.proofs.Invariant.Whole.{Inv, work_of}
use Rattle.claims.proofs.Invariant.Past.{Past, Kept, past_same}
use Rattle.claims.proofs.Invariant.Staying.{Stays}
use Rattle.claims.proofs.Invariant.Words.{un_of}
use Rattle.claims.proofs.Moves.Rehoming.{rehomed, rehomed_inv}

-- ---- what is stored at one cabinet is found there, and nowhere else

pub cabinet_at : (g : Group) (i : ℕ) (c : Cabinet) → length g.cabinets ≡ 8 → i < 8 → cabinet (with_cabinet g i c) i ≡ c
unfolding cabinet with_cabinet
cabinet_at g i c e l = get_or-set_same g.cabinets i c absent (omega arith)

pub cabinet_beside : (g : Group) (i : ℕ) (c : Cabinet) (j : ℕ) → j ≢ i → cabinet (with_cabinet g i c) j ≡ cabinet g j
unfolding cabinet with_cabinet
cabinet_beside g i c j d = get_or-set_other g.cabinets i j c absent d

-- a cabinet that differs from another in the reports that it owes at most
abbrev pub OwesOnly : Cabinet → Cabinet → Type 0
OwesOnly x y = x ≡ with_owed y x.owed

-- the reports that it may owe
abbrev Passed : Marks → Marks → Marks → Type 0
Passed new own more = (d : ℕ) → marked new d ≡ true → (marked own d ≡ true) ⊎ (marked more d ≡ true)

past_either : (m n : Marks) (d : ℕ) → (d < 8 → ⊥) → marked (either m n) d ≡ false
unfolding either
past_either m n d o = get_or-eq_default (either m n) false {n = d} (omega arith)

either_passed : (m n : Marks) → Passed (either m n) m n
either_passed m n d e = elim (dec_lt d 8) [
  | yes l ↦ or_split (marked m d) (marked n d) (sym (marked_either m n d l) ∙ e)
  | no o ↦ absurd (never e (past_either m n d o))
]

pub none_marked : (d : ℕ) → marked no_marks d ≡ false
none_marked d = get_d_repeated (λ (b : Bool). b ≡ false) 8 d false false refl refl

-- ---- who owes what once the reports of a have passed to p

module _ (g : Group) (eight : length g.cabinets ≡ 8) (a p : ℕ) (la : a < 8) where
  abbrev more : Cabinet
  more = owing_also (cabinet g p) (cabinet g a).owed

  abbrev mid : Group
  mid = with_cabinet g p more

  eight_mid : length mid.cabinets ≡ 8
  unfolding with_cabinet
  eight_mid = length-set g.cabinets p more ∙ eight

  -- at p, and at any other than a
  at_mid : (c : ℕ) → OwesOnly (cabinet mid c) (cabinet g c)
      × ((d : ℕ) → marked (cabinet mid c).owed d ≡ true → (marked (cabinet g c).owed d ≡ true) ⊎ ((c ≡ p) × (marked (cabinet g a).owed d ≡ true)))
  at_mid c = elim (ℕ_discrete c p) [
    | yes q ↦ elim (dec_lt p 8) [
      | yes l ↦
          let e : cabinet mid c ≡ more = ap (cabinet mid) q ∙ cabinet_at g p more eight l in
          let f : cabinet g c ≡ cabinet g p = ap (cabinet g) q in
          rw (e, f) (refl, λ d m. ⊎_elim (λ x. inl x) (λ x. inr (q, x)) (either_passed (cabinet g p).owed (cabinet g a).owed d m))
      | no l ↦ rw (ap (λ (x : Group). cabinet x c) (no_cabinet g eight p more (omega arith))) (refl, λ d m. inl m)
    ]
    | no n ↦ rw (cabinet_beside g p more c n) (refl, λ d m. inl m)
  ]

  abbrev left : Group
  left = pass_reports g a p

  pub at_left : (c : ℕ) → OwesOnly (cabinet left c) (cabinet g c)
      × ((d : ℕ) → marked (cabinet left c).owed d ≡ true
      → (c ≢ a) × ((marked (cabinet g c).owed d ≡ true) ⊎ ((c ≡ p) × (marked (cabinet g a).owed d ≡ true))))
  unfolding pass_reports
  at_left c = elim (ℕ_discrete c a) [
    | yes q ↦ rw (ap (cabinet left) q ∙ cabinet_at mid a (owing_none (cabinet g a)) eight_mid la, ap (cabinet g) q)
        (refl, λ d m. absurd (never m (none_marked d)))
    | no n ↦ rw (cabinet_beside mid a (owing_none (cabinet g a)) c n) ((at_mid c).0, λ d m. (n, (at_mid c).1 d m))
  ]

-- ---- the store leaves

-- what is found once it has
pub record Left (total : Party → ℕ) (g : Group) (γ : Ghost) (a : ℕ) : Type 0 where
  pub homes : ℕ → ℕ
  pub presents : ℕ → Bool
  pub owed : ℕ → ℕ → Bool
  pub seen : view (leave g a) ≡ rehomed (view g) homes presents owed
  pub fit : Fit (leave g a)
  pub number : (leave g a).n ≡ g.n
  pub inv : Inv (leave g a).n total (view (leave g a)) γ
  pub absent : ((view (leave g a)).own a).present ≡ false

module _ (total : Party → ℕ) (g : Group) (γ : Ghost) (fit : Fit g) (i : Inv g.n total (view g) γ) (a : ℕ) (la : a < 8)
    (stays : is_last g.store a ≡ false) (nobody : (c : ℕ) → in_recovery ((view g).own c).state ≡ false) where
  abbrev s : Store
  s = g.store

  abbrev s' : Store
  s' = leaves s a

  abbrev p : ℕ
  p = partner s a

  abbrev g0 : Group
  g0 = with_store g s'

  served : Served s
  served = fit.frame.store

  abbrev owed : ℕ → ℕ → Bool
  owed c d = marked (cabinet (pass_reports g0 a p) c).owed d

  eight0 : length g0.cabinets ≡ 8
  eight0 = fit.frame.cabinets

  abbrev after : View
  after = rehomed (view g) (home_in s') (is_present s') owed

  only : (c : ℕ) → OwesOnly (cabinet (pass_reports g0 a p) c) (cabinet g0 c)
  only c = (at_left g0 eight0 a p la c).0

  seen : view (leave g a) ≡ after
  unfolding leave pass_reports cabinet with_cabinet outgoing line
  seen = λ t. record {
    own = λ c. own_of (home_in s' c) (is_present s' c) (only c t);
    side = λ c. side_of (only c t);
    lines = (view g).lines;
    slots = fun_ext (λ c. fun_ext (λ v. leave_slot s served a la stays c v)) t;
    sound = (view g).sound;
  }

  -- ---- homes

  -- a home that leaves has a partner that is present, and that is another
  follows : is_present s a ≡ true → (is_present s p ≡ true) × (p ≢ a)
  follows e =
      let store = served.present_stores a e in
      (not_last s a stays store, served.other a store)

  there : (h : ℕ) → is_present s h ≡ true → h ≢ a → is_present s' h ≡ true
  there h e d = leave_present s a h ∙ and_intro e (ap not (ne_eqb h a d))

  home_left : (c : ℕ) → home_in s c ≡ a → home_in s' c ≡ p
  home_left c e = leave_home s served a la stays c ∙ ap (λ (t : Bool). cond t p (home_in s c)) (eq-eqb (home_in s c) a e)

  home_kept : (c : ℕ) → home_in s c ≢ a → home_in s' c ≡ home_in s c
  home_kept c d = leave_home s served a la stays c ∙ ap (λ (t : Bool). cond t p (home_in s c)) (ne_eqb (home_in s c) a d)

  home_present : (c : ℕ) → c < g.n → is_present s' (home_in s' c) ≡ true
  home_present c l =
      let now : is_present s (home_in s c) ≡ true = i.core.ground.home_present c l in
      elim (ℕ_discrete (home_in s c) a) [
        | yes e ↦ let f = follows (ap (is_present s) (sym e) ∙ now) in ap (is_present s') (home_left c e) ∙ there p f.0 f.1
        | no d ↦ ap (is_present s') (home_kept c d) ∙ there (home_in s c) now d
      ]

  present_works : (c : ℕ) → is_present s' c ≡ true → work_of (view g) c ≡ true
  present_works c e = i.core.ground.present_works c (and_true {s = is_present s c} (sym (leave_present s a c) ∙ e)).0

  -- ---- reports

  -- one that a owes is on a cabinet whose home is a
  from_home : (d : ℕ) → ((view g).side a d).owed ≡ true → (home_in s d ≡ a) × (is_present s a ≡ true)
  from_home d e =
      let h = i.core.pairs a d in
      let q : home_in s d ≡ a = h.owes_home e in
      let t = (i.core.nodes d).joined_tab ((i.core.nodes d).done_joined ((i.core.nodes d).wrote_done (h.owes e).0)) in
      (q, ap (is_present s) (sym q) ∙ i.core.ground.home_present d (i.core.ground.within d t))

  owing : (c d : ℕ) → owed c d ≡ true → (c ≢ a) × ((((view g).side c d).owed ≡ true) ⊎ ((c ≡ p) × (((view g).side a d).owed ≡ true)))
  unfolding cabinet
  owing c d e = (at_left g0 eight0 a p la c).1 d e

  owes : (c d : ℕ) → owed c d ≡ true → ((γ.mind d).wrote ≡ true) × ((γ.mind d).told ≡ false) × (unaware γ.big ((view g).own c) ≡ true)
  owes c d e =
      ⊎_elim (λ x. (i.core.pairs c d).owes x)
      (λ x.
      let y = (i.core.pairs a d).owes x.1 in
      let up : work_of (view g) c ≡ true = ap (work_of (view g)) x.0 ∙ i.core.ground.present_works p (follows (from_home d x.1).1).0 in
      (y.0, y.1, un_of γ.big ((view g).own c) up (nobody c)))
      (owing c d e).1

  owes_home : (c d : ℕ) → owed c d ≡ true → home_in s' d ≡ c
  owes_home c d e =
      let x = owing c d e in
      ⊎_elim (λ y. let q : home_in s d ≡ c = (i.core.pairs c d).owes_home y in home_kept d (λ f. x.0 (sym q ∙ f)) ∙ q)
      (λ y. home_left d (from_home d y.1).0 ∙ sym y.0) x.1

  inv_left : Inv g.n total (view (leave g a)) γ
  inv_left =
      subst (λ (u : View). Inv g.n total u γ) (sym seen)
      (rehomed_inv g.n total (view g) γ i (home_in s') (is_present s') owed home_present present_works owes owes_home)

  number : (leave g a).n ≡ g.n
  unfolding leave pass_reports with_cabinet
  number = refl

  -- it is no store that is present any more
  is_gone : ((view (leave g a)).own a).present ≡ false
  is_gone = ap (λ (u : View). (u.own a).present) seen ∙ leave_present s a a ∙ and_not (is_present s a) (eqb a a) (eq-eqb a a refl)

  pub store_leaves : Left total g γ a
  store_leaves = record {
    homes = home_in s';
    presents = is_present s';
    owed = owed;
    seen = seen;
    fit = ok_leave Shaped Lined Pictured shaped g a stays fit;
    number = number;
    inv = subst (λ (n : ℕ). Inv n total (view (leave g a)) γ) (sym number) inv_left;
    absent = is_gone;
  }

-- ---- what holds of the group without the store holds of the group

module _ (total : Party → ℕ) (g : Group) (γ : Ghost) (a : ℕ) (left : Left total g γ a) where
  pub state_left : (c : ℕ) → state_of (leave g a) c ≡ state_of g c
  state_left c = ap (λ (u : View). (u.own c).state) left.seen

  pub lead_left : (c : ℕ) → ((view (leave g a)).own c).lead ≡ ((view g).own c).lead
  lead_left c = ap (λ (u : View). (u.own c).lead) left.seen

  those_left : (f : State → Bool) → those (λ c. f c.phase.state) (leave g a) ≡ those (λ c. f c.phase.state) g
  those_left f = rw (state_left 0, state_left 1, state_left 2, state_left 3, state_left 4, state_left 5, state_left 6, state_left 7)

  pub working_left : working (leave g a) ≡ working g
  unfolding working
  working_left = those_left works

  pub calm_left : some (recovering_ones g) ≡ false → some (recovering_ones (leave g a)) ≡ false
  unfolding recovering_ones
  calm_left e = ap some (those_left in_recovery) ∙ e

  pub sound_left : (leave g a).sound ≡ g.sound
  unfolding leave pass_reports with_cabinet
  sound_left = refl

  pub past_left : {h : History} → Past g.n (view g) γ h → Past (leave g a).n (view (leave g a)) γ h
  past_left {h} past = subst (λ (n : ℕ). Past n (view (leave g a)) γ h) (sym left.number) (past_same state_left past)

  stays_left : (w : View) (δ : Ghost) → Stays (view (leave g a)) γ w δ → Stays (view g) γ w δ
  stays_left w δ s = same_stays (view g) left.homes left.presents left.owed (subst (λ (u : View). Stays u γ w δ) left.seen s)
    where
      same_stays : (v : View) (h : ℕ → ℕ) (p : ℕ → Bool) (o : ℕ → ℕ → Bool) → Stays (rehomed v h p o) γ w δ → Stays v γ w δ
      same_stays v h p o x = record {
        goes = record { first = x.goes.first; on = x.goes.on; gone = x.goes.gone };
        knows = x.knows;
        learns = x.learns;
        marks = x.marks;
        bare = x.bare;
      }

  pub from_left : (g' : Group) (h : History) → Kept total (leave g a) γ g' (note_cuts h (leave g a) g') → Kept total g γ g' (note_cuts h g g')
  from_left g' h k = record {
    ghost = k.ghost;
    inv = subst (λ (n : ℕ). Inv n total (view g') k.ghost) left.number k.inv;
    past = subst (λ (n : ℕ). Past n (view g') k.ghost (note_cuts h g g')) left.number (subst (Past (leave g a).n (view g') k.ghost) same_cuts k.past);
    stays = stays_left (view g') k.ghost k.stays;
  }
    where
      same_cuts : note_cuts h (leave g a) g' ≡ note_cuts h g g'
      same_cuts = λ t. with_cuts h (λ i. cond (is_in (state_of g' i) Checkpointing && not (is_in (state_left i t) Checkpointing)) (just (cut_in h g' i)) (h.cuts i))
