-- A store that is away comes back: it takes its partner's slots and is home again for its own cabinets, on which no report is owed any more.
-- No cabinet's state, version or image changes, and no slot as a home has it.
use Prim.Native.Nat.{ℕ, ◌<◌, ◌≤◌}
use mathlib.Core.Path.{◌≡◌, refl, sym, ap, ◌∙◌, subst, fun_ext}
use mathlib.Core.Logic.{◌≢◌, ⊎_elim}
use mathlib.Core.Bool.{Bool, true, false, cond}
use lib.ListN.{length, get_or-eq_default}
use lib.Dec.{eqb}
use borrow.Author.Tests.{eq-eqb, ne_eqb, eqb-true}
use native.Mathlib.Omega.{arith}
use native.Mathlib.Decide.{ℕ_discrete, dec_lt}
use Rattle.marks.specs.Marks.{Marks, marked, without}
use Rattle.marks.specs.MarksLaws.{marked_without}
use Rattle.outlet.specs.declared.Party.{Party}
use Rattle.store.specs.declared.Store.{Store}
use Rattle.store.specs.Store.{file_home, partner, is_present, home_in, is_away, homed_at, comes_back}
use Rattle.store.specs.Served.{Served}
use Rattle.store.proofs.Laws.{back_present, back_home, back_slot, away_home}
use Rattle.cabinet.specs.declared.Cabinet.{Cabinet}
use Rattle.cabinet.specs.Cabinet.{absent, owing_but}
use Rattle.group.specs.declared.Group.{Group}
use Rattle.group.specs.Group.{cabinet, with_cabinet, with_store, outgoing, line}
use Rattle.protocol.specs.Moves.{drop_reports, come_back}
use Rattle.protocol.specs.Kinds.{come_back_if_away}
use Rattle.claims.proofs.State.Fun.{never, cond_elim, or_split, or_left, or_right, and_true, not_true_false, row_at}
use Rattle.claims.proofs.State.Every.{ok_come_back}
use Rattle.claims.proofs.State.View.{View, own_of, side_of, used, view}
use Rattle.claims.proofs.State.Shape.{Shaped, Lined, Pictured, shaped}
use Rattle.claims.proofs.State.Sim.{Fit}
use Rattle.claims.proofs.State.ViewMoves.{no_cabinet}
use Rattle.claims.proofs.Invariant.Facts.{Ghost}
use Rattle.claims.proofs.Invariant.Whole.{Inv, work_of}
use Rattle.claims.proofs.Invariant.Staying.{SamePhase}
use Rattle.claims.proofs.Moves.Rehoming.{rehomed, rehomed_inv}
use Rattle.claims.proofs.Moves.Leaving.{cabinet_at, cabinet_beside, none_marked, OwesOnly}

-- a mark that is left was there, and is none of those dropped
past_without : (m n : Marks) (d : ℕ) → (d < 8 → ⊥) → marked (without m n) d ≡ false
unfolding without
past_without m n d o = get_or-eq_default (without m n) false {n = d} (omega arith)

left_marked : (m n : Marks) (d : ℕ) → marked (without m n) d ≡ true → (d < 8) × (marked m d ≡ true) × (marked n d ≡ false)
left_marked m n d e = elim (dec_lt d 8) [
  | yes l ↦ let x = and_true {s = marked m d} (sym (marked_without m n d l) ∙ e) in (l, x.0, not_true_false x.1)
  | no o ↦ absurd (never e (past_without m n d o))
]

homed_mark : (s : Store) (a d : ℕ) → d < 8 → marked (homed_at s a) d ≡ eqb (file_home s d) a
unfolding homed_at
homed_mark s a d l = row_at (λ c. eqb (file_home s c) a) false d l

past_cabinet : (g : Group) → length g.cabinets ≡ 8 → (c : ℕ) → 8 ≤ c → cabinet g c ≡ absent
unfolding cabinet
past_cabinet g e c l = get_or-eq_default g.cabinets absent {n = c} (omega arith)

-- ---- who owes what once p has dropped what it owes on the cabinets of n

module _ (g : Group) (eight : length g.cabinets ≡ 8) (p : ℕ) (n : Marks) where
  abbrev less : Cabinet
  less = owing_but (cabinet g p) n

  abbrev left : Group
  left = with_cabinet g p less

  at_back : (c : ℕ) → OwesOnly (cabinet left c) (cabinet g c)
      × ((d : ℕ) → marked (cabinet left c).owed d ≡ true → (marked (cabinet g c).owed d ≡ true) × (c ≡ p → (d < 8) × (marked n d ≡ false)))
  at_back c = elim (ℕ_discrete c p) [
    | yes q ↦ elim (dec_lt p 8) [
      | yes l ↦ rw (ap (cabinet left) q ∙ cabinet_at g p less eight l, ap (cabinet g) q)
          (refl, λ d m. let x = left_marked (cabinet g p).owed n d m in (x.1, λ _. (x.0, x.2)))
      | no l ↦ rw (ap (λ (x : Group). cabinet x c) (no_cabinet g eight p less (omega arith)))
          (refl, λ d m. (m, λ _. absurd (never m (ap (λ (x : Cabinet). marked x.owed d) (past_cabinet g eight c (omega arith)) ∙ none_marked d))))
    ]
    | no o ↦ rw (cabinet_beside g p less c o) (refl, λ d m. (m, λ q. absurd (o q)))
  ]

-- ---- the store comes back

-- what is found once it has, of n cabinets
pub record Back (n : ℕ) (total : Party → ℕ) (g : Group) (γ : Ghost) (a : ℕ) (g' : Group) : Type 0 where
  pub inv : Inv n total (view g') γ
  pub fit : Fit g'
  pub number : g'.n ≡ g.n
  pub phase : (c : ℕ) → SamePhase ((view g').own c) ((view g).own c)
  pub unsure : (c d : ℕ) → ((view g').side c d).unsure ≡ ((view g).side c d).unsure

module _ (g : Group) (fit : Fit g) (a : ℕ) (away : is_away g.store a ≡ true) where
  abbrev s : Store
  s = g.store

  abbrev s' : Store
  s' = comes_back s a

  abbrev p : ℕ
  p = partner s a

  abbrev g0 : Group
  g0 = with_store g s'

  served : Served s
  served = fit.frame.store

  abbrev dropped : Marks
  dropped = homed_at s' a

  abbrev owed : ℕ → ℕ → Bool
  owed c d = marked (cabinet (with_cabinet g0 p (owing_but (cabinet g0 p) dropped)) c).owed d

  eight0 : length g0.cabinets ≡ 8
  eight0 = fit.frame.cabinets

  only : (c : ℕ) → OwesOnly (cabinet (with_cabinet g0 p (owing_but (cabinet g0 p) dropped)) c) (cabinet g0 c)
  only c = (at_back g0 eight0 p dropped c).0

  abbrev after : View
  after = rehomed (view g) (home_in s') (is_present s') owed

  pub seen_back : view (come_back g a) ≡ after
  unfolding come_back drop_reports cabinet with_cabinet outgoing line
  seen_back = λ t. record {
    own = λ c. own_of (home_in s' c) (is_present s' c) (only c t);
    side = λ c. side_of (only c t);
    lines = (view g).lines;
    slots = fun_ext (λ c. fun_ext (λ v. back_slot s served a away c v)) t;
    sound = (view g).sound;
  }

  module _ (total : Party → ℕ) (γ : Ghost) (i : Inv g.n total (view g) γ) (up : work_of (view g) a ≡ true) where
    -- ---- homes

    home_back : (c : ℕ) → file_home s c ≡ a → home_in s' c ≡ a
    home_back c e = back_home s served a away c ∙ ap (λ (t : Bool). cond t a (home_in s c)) (eq-eqb (file_home s c) a e)

    home_kept : (c : ℕ) → file_home s c ≢ a → home_in s' c ≡ home_in s c
    home_kept c d = back_home s served a away c ∙ ap (λ (t : Bool). cond t a (home_in s c)) (ne_eqb (file_home s c) a d)

    home_present : (c : ℕ) → c < g.n → is_present s' (home_in s' c) ≡ true
    home_present c l = elim (ℕ_discrete (file_home s c) a) [
      | yes e ↦ ap (is_present s') (home_back c e) ∙ back_present s served a away a ∙ or_right (is_present s a) (eqb a a) (eq-eqb a a refl)
      | no d ↦ ap (is_present s') (home_kept c d) ∙ back_present s served a away (home_in s c)
          ∙ or_left (is_present s (home_in s c)) (eqb (home_in s c) a) (i.core.ground.home_present c l)
    ]

    present_works : (c : ℕ) → is_present s' c ≡ true → work_of (view g) c ≡ true
    present_works c e =
        ⊎_elim (λ x. i.core.ground.present_works c x) (λ x. ap (work_of (view g)) (eqb-true c a x) ∙ up)
        (or_split (is_present s c) (eqb c a) (sym (back_present s served a away c) ∙ e))

    -- ---- reports

    owing : (c d : ℕ) → owed c d ≡ true → (((view g).side c d).owed ≡ true) × (c ≡ p → file_home s d ≢ a)
    unfolding cabinet comes_back
    owing c d e =
        let x = (at_back g0 eight0 p dropped c).1 d e in
        (x.0, λ q f. let y = x.1 q in never (homed_mark s' a d y.0 ∙ eq-eqb (file_home s d) a f) y.1)

    owes_home : (c d : ℕ) → owed c d ≡ true → home_in s' d ≡ c
    owes_home c d e =
        let x = owing c d e in
        let q : home_in s d ≡ c = (i.core.pairs c d).owes_home x.0 in
        elim (ℕ_discrete (file_home s d) a) [
          | yes f ↦ absurd (x.1 (sym q ∙ away_home s a away d f) f)
          | no n ↦ home_kept d n ∙ q
        ]

    inv_back : Inv g.n total (view (come_back g a)) γ
    inv_back =
        subst (λ (u : View). Inv g.n total u γ) (sym seen_back)
        (rehomed_inv g.n total (view g) γ i (home_in s') (is_present s') owed home_present present_works (λ c d e. (i.core.pairs c d).owes (owing c d e).0) owes_home)

    number : (come_back g a).n ≡ g.n
    unfolding come_back drop_reports with_cabinet
    number = refl

    phase_back : (c : ℕ) → SamePhase ((view (come_back g a)).own c) ((view g).own c)
    phase_back c = subst (λ (u : View). SamePhase (u.own c) ((view g).own c)) (sym seen_back) (refl, refl, refl, refl, refl)

    store_back : Back g.n total g γ a (come_back g a)
    store_back = record {
      inv = inv_back;
      fit = ok_come_back Shaped Lined Pictured shaped g a away fit;
      number = number;
      phase = phase_back;
      unsure = λ c d. ap (λ (u : View). (u.side c d).unsure) seen_back;
    }

-- what is seen of a step that lets it come back: no state, no use of a line and no packet changes
pub record Homed (v w : View) : Type 0 where
  pub states : (c : ℕ) → (w.own c).state ≡ (v.own c).state
  pub uses : (c d : ℕ) → used (w.side c d) ≡ used (v.side c d)
  pub lines : (c d : ℕ) → w.lines c d ≡ v.lines c d

pub back_homed : (g : Group) → Fit g → (a : ℕ) → Homed (view g) (view (come_back_if_away g a))
unfolding come_back_if_away
back_homed g fit a =
    cond_elim (λ (x : Group). Homed (view g) (view x)) (is_away g.store a)
    (λ e. subst (Homed (view g)) (sym (seen_back g fit a e)) (record { states = λ c. refl; uses = λ c d. refl; lines = λ c d. refl }))
    (λ _. record { states = λ c. refl; uses = λ c d. refl; lines = λ c d. refl })

-- where it was not away nothing changes
pub comes_back_lem : (total : Party → ℕ) (g : Group) (γ : Ghost) (fit : Fit g) (i : Inv g.n total (view g) γ) (a : ℕ) → work_of (view g) a ≡ true
    → Back g.n total g γ a (come_back_if_away g a)
unfolding come_back_if_away
comes_back_lem total g γ fit i a up =
    cond_elim (Back g.n total g γ a) (is_away g.store a) (λ e. store_back g fit a e total γ i up)
    (λ _. record { inv = i; fit = fit; number = refl; phase = λ c. (refl, refl, refl, refl, refl); unsure = λ c d. refl })
