-- Laws of the reach check (exactly those are reached that a path over working neighbours leads to) and of a struck link.
use Rattle.std.specs.Prelude.{ℕ, zero, suc, ◌≤◌, ◌<◌, ◌≡◌, refl, Bool, true, false, not, ◌&&◌, ◌||◌, [], ◌∷◌, ◌⊎◌, length, get_or, set, ltb}
use Rattle.std.proofs.Common.{sym, ◌∙◌, ap, inl, inr, ⊎_elim, get_or-set_same, get_or-set_other, ltb-true, ltb-false, eq-or-lt_of_le, arith}
use Rattle.std.proofs.Math.ListN.{length-set, get_or-eq_default}
use Rattle.std.proofs.lemmas.List.{get_or-replicate}
use Rattle.std.proofs.Math.Decide.{ℕ_discrete, dec_lt}
use Rattle.marks.specs.Marks.{Marks, marked, no_marks, lowest}
use Rattle.marks.specs.Reach.{Rows, mark, cleared, struck, touched, fresh, next, spread, unseen, first, reached, connected}
use Rattle.marks.specs.MarksLaws.{cond_elim, never_both, true_unless, lowest_from_passes, lowest_from_least, lowest_le_marked, covers_has, has_covers}

-- from s to a cabinet by stepping over marks onto working cabinets
pub data Path (rows : Rows) (working : Marks) (s : ℕ) : ℕ → Type 0 where
  here : Path rows working s s
  step : {i j : ℕ} → Path rows working s i → j < 8 → marked working j ≡ true → mark rows i j ≡ true → Path rows working s j

-- ---- one turn of the spread

fresh_parts : (works seen touches : Bool) → works && (not seen && touches) ≡ true → (works ≡ true) × (seen ≡ false) × (touches ≡ true)
fresh_parts true false touches h = (refl, refl, h)
fresh_parts true true touches h = absurd (never_both false h refl)
fresh_parts false seen touches h = absurd (never_both false h refl)

fresh_facts : (rows : Rows) (working seen : Marks) (j : ℕ) → fresh rows working seen j ≡ true
    → (marked working j ≡ true) × (marked seen j ≡ false) × (touched 8 rows seen j ≡ true)
fresh_facts rows working seen j h = fresh_parts (marked working j) (marked seen j) (touched 8 rows seen j) h

-- the next one is fresh
next_facts : (rows : Rows) (working seen : Marks) → next rows working seen < 8
    → (marked working (next rows working seen) ≡ true) × (marked seen (next rows working seen) ≡ false) × (touched 8 rows seen (next rows working seen) ≡ true)
next_facts rows working seen l =
    fresh_facts rows working seen (next rows working seen) (lowest_from_passes (fresh rows working seen) 8 0 l)

or_and : (t s m : Bool) → t || (s && m) ≡ true → (t ≡ true) ⊎ ((s ≡ true) × (m ≡ true))
or_and true s m h = inl refl
or_and false true m h = inr (refl, h)
or_and false false m h = inl h

and_or : (t s m : Bool) → (t ≡ true) ⊎ ((s ≡ true) × (m ≡ true)) → t || (s && m) ≡ true
and_or true s m h = refl
and_or false true m (inl e) = absurd (never_both false e refl)
and_or false true m (inr e) = e.1
and_or false false m (inl e) = e
and_or false false m (inr e) = e.0

-- who touches j, and that it does
touched_by : (rows : Rows) (seen : Marks) (j n : ℕ) → touched n rows seen j ≡ true → (i : ℕ) × (marked seen i ≡ true) × (mark rows i j ≡ true)
touched_by rows seen j zero h = absurd (never_both false h refl)
touched_by rows seen j (suc n) h =
    ⊎_elim (λ e. touched_by rows seen j n e) (λ e. (n, e.0, e.1)) (or_and (touched n rows seen j) (marked seen n) (mark rows n j) h)

touches : (rows : Rows) (seen : Marks) (j n i : ℕ) → i < n → marked seen i ≡ true → mark rows i j ≡ true → touched n rows seen j ≡ true
touches rows seen j zero i l s m = absurd (omega arith)
touches rows seen j (suc n) i l s m =
    and_or (touched n rows seen j) (marked seen n) (mark rows n j)
    (⊎_elim
    (λ q. inr (ap (marked seen) (sym q) ∙ s, ap (λ (k : ℕ). mark rows k j) (sym q) ∙ m))
    (λ below. inl (touches rows seen j n i below s m))
    (eq-or-lt_of_le (upto l)))
  where
    upto : i < suc n → i ≤ n
    upto h = omega arith

-- marking one more: those marked before, and that one
set_keeps : (seen : Marks) (k j : ℕ) → marked seen j ≡ true → marked (set seen k true) j ≡ true
set_keeps [] k j h = h
set_keeps (x ∷ seen) zero zero h = refl
set_keeps (x ∷ seen) zero (suc j) h = h
set_keeps (x ∷ seen) (suc k) zero h = h
set_keeps (x ∷ seen) (suc k) (suc j) h = set_keeps seen k j h

set_adds : (seen : Marks) (k j : ℕ) → marked (set seen k true) j ≡ true → (j ≡ k) ⊎ (marked seen j ≡ true)
set_adds seen k j h =
    elim (ℕ_discrete j k) [ yes q ↦ inl q | no d ↦ inr (sym (get_or-set_other seen k j true false d) ∙ h) ]

one_fewer : (seen : Marks) (j : ℕ) → j < length seen → marked seen j ≡ false → unseen seen ≡ suc (unseen (set seen j true))
one_fewer [] j l e = absurd (omega arith)
one_fewer (false ∷ seen) zero l e = refl
one_fewer (true ∷ seen) zero l e = absurd (never_both true refl e)
one_fewer (false ∷ seen) (suc j) l e = ap suc (one_fewer seen j (omega arith) e)
one_fewer (true ∷ seen) (suc j) l e = one_fewer seen j (omega arith) e

unseen_most : (seen : Marks) → unseen seen ≤ length seen
unseen_most [] = omega arith
unseen_most (true ∷ seen) = omega (arith, unseen_most seen)
unseen_most (false ∷ seen) = omega (arith, unseen_most seen)

-- once the next one is marked, one fewer is unseen
pub next_fewer : (rows : Rows) (working seen : Marks) (j : ℕ) → j ≡ next rows working seen → j < 8 → length seen ≡ 8
    → unseen seen ≡ suc (unseen (set seen j true))
next_fewer rows working seen j e b l =
    one_fewer seen j (omega arith) (ap (marked seen) e ∙ (next_facts rows working seen (rw (← e) b)).1)

all_seen : (seen : Marks) (j : ℕ) → unseen seen ≤ 0 → j < length seen → marked seen j ≡ true
all_seen [] j u l = absurd (omega arith)
all_seen (true ∷ seen) zero u l = refl
all_seen (true ∷ seen) (suc j) u l = all_seen seen j u (omega arith)
all_seen (false ∷ seen) j u l = absurd (omega arith)

length_first : (working : Marks) → length (first working) ≡ 8
length_first working = length-set no_marks (lowest working) true

pub first_unseen : (working : Marks) → unseen (first working) ≤ 8
first_unseen working = rw (length_first working) at (unseen_most (first working))

none_marked : (j : ℕ) → marked no_marks j ≡ false
none_marked j = elim (dec_lt j 8) [ yes l ↦ get_or-replicate 8 j false false l | no g ↦ get_or-eq_default no_marks false {n = j} (omega arith) ]

le_lt : {a b c : ℕ} → a ≤ b → b < c → a < c
le_lt l k = omega arith

-- ---- the spread

module _ (rows : Rows) (working : Marks) where
  spread_keeps : (n : ℕ) (seen : Marks) (j : ℕ) → marked seen j ≡ true → marked (spread n rows working seen) j ≡ true
  spread_keeps zero seen j h = h
  spread_keeps (suc n) seen j h =
      cond_elim (λ m. marked m j ≡ true) (ltb (next rows working seen) 8) (spread n rows working (set seen (next rows working seen) true)) seen
      (λ t. spread_keeps n (set seen (next rows working seen) true) j (set_keeps seen (next rows working seen) j h))
      (λ f. h)

  spread_sound : (s n : ℕ) (seen : Marks) → ((j : ℕ) → marked seen j ≡ true → Path rows working s j)
      → (j : ℕ) → marked (spread n rows working seen) j ≡ true → Path rows working s j
  spread_sound s zero seen paths j h = paths j h
  spread_sound s (suc n) seen paths j h =
      let k = next rows working seen in
      cond_elim (λ m. marked m j ≡ true → Path rows working s j) (ltb k 8) (spread n rows working (set seen k true)) seen
      (λ t. spread_sound s n (set seen k true) (λ i e. ⊎_elim (λ q. rw q (path (ltb-true k 8 t))) (λ o. paths i o) (set_adds seen k i e)) j)
      (λ f. paths j)
      h
    where
      path : next rows working seen < 8 → Path rows working s (next rows working seen)
      path l =
          let facts = next_facts rows working seen l in
          let by = touched_by rows seen (next rows working seen) 8 facts.2 in
          step (paths by.0 by.1) l facts.0 by.2

  -- no step leads from a marked one to an unmarked one
  abbrev Closed : Marks → Type 0
  Closed m = (i j : ℕ) → i < 8 → j < 8 → marked m i ≡ true → marked working j ≡ true → mark rows i j ≡ true → marked m j ≡ true

  none_fresh : (seen : Marks) → 8 ≤ next rows working seen → Closed seen
  none_fresh seen l i j il jl s w m =
      true_unless (marked seen j) (λ u. never_both (fresh rows working seen j) (rw (w, u, touches rows seen j 8 i il s m)) (lowest_from_least (fresh rows working seen) 8 0 refl j (omega arith) (omega arith)))

  spread_closed : (n : ℕ) (seen : Marks) → length seen ≡ 8 → unseen seen ≤ n → Closed (spread n rows working seen)
  spread_closed zero seen l u = λ i j il jl s w m. all_seen seen j u (omega arith)
  spread_closed (suc n) seen l u =
      let k = next rows working seen in
      cond_elim Closed (ltb k 8) (spread n rows working (set seen k true)) seen
      (λ t. spread_closed n (set seen k true) (length-set seen k true ∙ l) (fewer (ltb-true k 8 t)))
      (λ f. none_fresh seen (ltb-false k 8 f))
    where
      fewer : next rows working seen < 8 → unseen (set seen (next rows working seen) true) ≤ n
      fewer b = omega (arith, next_fewer rows working seen (next rows working seen) refl b l)

  -- a path from a marked one stays among those marked where no step leads out
  path_stays : (m : Marks) (s : ℕ) → Closed m → s < 8 → marked m s ≡ true → {j : ℕ} → Path rows working s j → (j < 8) × (marked m j ≡ true)
  path_stays m s c l e here = (l, e)
  path_stays m s c l e (step {i} {j} p jl w k) =
      let ih = path_stays m s c l e p in
      (jl, c i j ih.0 jl ih.1 w k)

  first_only : (j : ℕ) → marked (first working) j ≡ true → j ≡ lowest working
  first_only j h = ⊎_elim (λ q. q) (λ e. absurd (never_both (marked no_marks j) e (none_marked j))) (set_adds no_marks (lowest working) j h)

  -- whatever is reached has a path from the lowest working one
  pub reached_path : (j : ℕ) → marked (reached rows working) j ≡ true → Path rows working (lowest working) j
  reached_path j h = spread_sound (lowest working) 8 (first working) (λ i e. rw (first_only i e) here) j h

  -- whatever has a path from the lowest working one is reached
  pub path_reached : (j : ℕ) → lowest working < 8 → Path rows working (lowest working) j → marked (reached rows working) j ≡ true
  path_reached j l p =
      (path_stays (reached rows working) (lowest working)
      (spread_closed 8 (first working) (length_first working) (first_unseen working))
      l
      (spread_keeps 8 (first working) (lowest working) (get_or-set_same no_marks (lowest working) true false l))
      p).1

  -- the check says yes exactly if every working cabinet has a path from the lowest working one
  pub connected_paths : connected rows working ≡ true → (j : ℕ) → j < 8 → marked working j ≡ true → Path rows working (lowest working) j
  unfolding connected
  connected_paths c j l w = reached_path j (covers_has (reached rows working) working c j l w)

  pub paths_connected : ((j : ℕ) → j < 8 → marked working j ≡ true → Path rows working (lowest working) j) → connected rows working ≡ true
  unfolding connected
  paths_connected f =
      has_covers (reached rows working) working (λ j l w. path_reached j (le_lt (lowest_le_marked working j w) l) (f j l w))

-- ---- a struck link

unmarks : (m : Marks) (j : ℕ) → marked (set m j false) j ≡ false
unmarks [] j = refl
unmarks (x ∷ m) zero = refl
unmarks (x ∷ m) (suc j) = unmarks m j

stays_unmarked : (m : Marks) (k j : ℕ) → marked m j ≡ false → marked (set m k false) j ≡ false
stays_unmarked [] k j h = h
stays_unmarked (x ∷ m) zero zero h = refl
stays_unmarked (x ∷ m) zero (suc j) h = h
stays_unmarked (x ∷ m) (suc k) zero h = h
stays_unmarked (x ∷ m) (suc k) (suc j) h = stays_unmarked m k j h

cleared_there : (rows : Rows) (i j : ℕ) → mark (cleared rows i j) i j ≡ false
cleared_there [] i j = refl
cleared_there (row ∷ rows) zero j = unmarks row j
cleared_there (row ∷ rows) (suc i) j = cleared_there rows i j

stays_cleared : (rows : Rows) (i j k l : ℕ) → mark rows k l ≡ false → mark (cleared rows i j) k l ≡ false
stays_cleared [] i j k l h = h
stays_cleared (row ∷ rows) zero j zero l h = stays_unmarked row j l h
stays_cleared (row ∷ rows) zero j (suc k) l h = h
stays_cleared (row ∷ rows) (suc i) j zero l h = h
stays_cleared (row ∷ rows) (suc i) j (suc k) l h = stays_cleared rows i j k l h

cleared_other : (rows : Rows) (i j k l : ℕ) → ((k ≡ i) × (l ≡ j) → ⊥) → mark (cleared rows i j) k l ≡ mark rows k l
cleared_other [] i j k l d = refl
cleared_other (row ∷ rows) zero j zero l d = get_or-set_other row j l false false (λ q. d (refl, q))
cleared_other (row ∷ rows) zero j (suc k) l d = refl
cleared_other (row ∷ rows) (suc i) j zero l d = refl
cleared_other (row ∷ rows) (suc i) j (suc k) l d = cleared_other rows i j k l (λ q. d (ap suc q.0, q.1))

cleared_row : (rows : Rows) (i j k : ℕ) → length (get_or (cleared rows i j) k []) ≡ length (get_or rows k [])
cleared_row [] i j k = refl
cleared_row (row ∷ rows) zero j zero = length-set row j false
cleared_row (row ∷ rows) zero j (suc k) = refl
cleared_row (row ∷ rows) (suc i) j zero = refl
cleared_row (row ∷ rows) (suc i) j (suc k) = cleared_row rows i j k

module _ (rows : Rows) (a b : ℕ) where
  pub struck_there : mark (struck rows a b) a b ≡ false
  unfolding struck
  struck_there = stays_cleared (cleared rows a b) b a a b (cleared_there rows a b)

  pub struck_back : mark (struck rows a b) b a ≡ false
  unfolding struck
  struck_back = cleared_there (cleared rows a b) b a

  pub struck_other : (i j : ℕ) → ((i ≡ a) × (j ≡ b) → ⊥) → ((i ≡ b) × (j ≡ a) → ⊥) → mark (struck rows a b) i j ≡ mark rows i j
  unfolding struck
  struck_other i j d e = cleared_other (cleared rows a b) b a i j e ∙ cleared_other rows a b i j d

  pub length_struck : length (struck rows a b) ≡ length rows
  unfolding struck
  length_struck = simp length-set

  pub length_struck_row : (i : ℕ) → length (get_or (struck rows a b) i []) ≡ length (get_or rows i [])
  unfolding struck
  length_struck_row i = cleared_row (cleared rows a b) b a i ∙ cleared_row rows a b i
