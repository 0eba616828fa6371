-- What a run keeps follows the history, over every operation: its number is the newest save's, and while that save may be passed over it has
-- the coordinator and the number below as well.
use Prim.Native.Nat.{ℕ, suc, ◌-◌}
use mathlib.Core.Path.{◌≡◌, refl, sym, ap, ◌∙◌}
use mathlib.Core.Logic.{◌≢◌, ⊎_elim}
use mathlib.Core.Bool.{Bool, true, false, cond, not, ◌&&◌, true≢false}
use mathlib.Core.List.{List, [], ◌∷◌}
use mathlib.Core.Option.{Option, some}
use lib.ListN.{length, drop}
use lib.Dec.{eqb, ltb}
use borrow.Author.Tests.{eqb-true, eqb-false, lt-ltb, le-ltb}
use native.Mathlib.Omega.{arith}
use native.Mathlib.Decide.{ℕ_discrete}
use Rattle.marks.specs.Marks.{marked}
use Rattle.outlet.specs.declared.Party.{Party}
use Rattle.packet.specs.declared.Packet.{Packet}
use Rattle.packet.specs.declared.Packet.TheVariants.{Empty, Normal as NormalPacket, Checkp, Resume, Recover, Fault, Invalid}
use Rattle.packet.specs.Packet.{fits}
use Rattle.line.specs.Line.{oldest, packet_at}
use Rattle.state.specs.declared.State.TheVariants.{Normal, Checkpointed, Recovering, Recovered}
use Rattle.image.specs.declared.Image.{Image}
use Rattle.state.specs.State.{works}
use Rattle.cabinet.specs.Cabinet.{in_use, coordinator}
use Rattle.points.specs.Points.{place_of}
use Rattle.store.specs.Store.{is_last, is_present, home_in, partner}
use Rattle.store.proofs.Laws.{not_last}
use Rattle.group.specs.declared.Group.{Group}
use Rattle.group.specs.declared.Outcome.{Outcome}
use Rattle.group.specs.Group.{cabinet, state_of, home, line, is_crashed, trips_of}
use Rattle.protocol.specs.declared.Step.{Step}
use Rattle.protocol.specs.declared.Step.TheVariants.{Send, Note, Begin, Deliver, Write, Saved, Fetch, Restored, Fail, Damage, Lose, Trip, Unsure}
use Rattle.protocol.specs.declared.Decoded.{Decoded}
use Rattle.protocol.specs.declared.Decoded.TheVariants.{Malformed, Unused, Taken}
use Rattle.protocol.specs.Receive.{takes_from}
use Rattle.protocol.specs.Kinds.{fail_crashes, fail_step, trip_crashes, trip_once, trip_step}
use Rattle.protocol.specs.Entry.{step, step_decoded, decode, entry_refusal, perform}
use Rattle.protocol.specs.Points.{take_point, return_to, return_refusal}
use Rattle.protocol.specs.Evening.{operate}
use Rattle.protocol.specs.History.{Save, History, Operation, stepping, pointing, returning, World, advance, at_start, bare_save, newest, latest, passes_over, pass_over, mark_known, goes, commits, ends, note_taken, note_known, note_commit, note_damage, note_passed, note_end, record_decoded}
use Rattle.claims.proofs.State.Fun.{never, and_true, and_not, or-false, not_true_false, cond_elim}
use Rattle.claims.proofs.State.Every.{passed as check-passed}
use Rattle.claims.proofs.State.View.{view}
use Rattle.claims.proofs.Invariant.Past.{after}
use Rattle.claims.proofs.Invariant.Points.{found}
use Rattle.claims.proofs.Moves.FailStep.{kept_known}
use Rattle.claims.proofs.Claims.Demand.{Runs, Good, open_step}
use Rattle.newest.specs.declared.Newest.{Newest}
use Rattle.newest.specs.Sorts.{sort_of, sort_in}
use Rattle.newest.specs.Newest.{start_newest, made, made_if, known_if, passed, newest_by, newest_in}
use Rattle.numbers.specs.Numbers.{renumbered, number_of, numbers_after, newest_after}

-- two choices by one test
cond_both : {A B : Type 0} (P : A → B → Type 0) (t : Bool) {x y : A} {u v : B} → (t ≡ true → P x u) → (t ≡ false → P y v) → P (cond t x y) (cond t u v)
cond_both P true f g = f refl
cond_both P false f g = g refl

-- m is kept beside the saves l, newest first, whose numbers are ns, with the start s below them
pub record FollowsIn (m : Newest) (ns : List ℕ) (l : List Save) (s : Save) : Type 0 where
  pub long : length ns ≡ length l
  pub number : m.number ≡ number_of ns
  pub known : m.known ≡ (newest l s).known
  -- wanted while the newest may be passed over
  pub by : (newest l s).known ≡ false → m.by ≡ (newest l s).by
  pub before : (newest l s).known ≡ false → m.before ≡ number_of (drop 1 ns)
  -- everybody knows of the start
  pub start : s.known ≡ true

abbrev pub Follows : Newest → List ℕ → History → Type 0
Follows m ns h = FollowsIn m ns h.saves h.start

pub follows_start : (g : Group) → Follows start_newest [] (at_start g)
follows_start g = record {
  long = refl;
  number = refl;
  known = refl;
  by = λ e. absurd (true≢false e);
  before = λ e. absurd (true≢false e);
  start = refl;
}

-- ---- how an operation changes the list of saves

module _ (k : ℕ) (ns : List ℕ) where
  as_long : (l l' : List Save) → length l' ≡ length l → renumbered k l l' ns ≡ ns
  as_long l l' e = rw (le-ltb (length l) (length l') (omega arith), le-ltb (length l') (length l) (omega arith))

  one_longer : (l : List Save) (x : Save) → renumbered k l (x ∷ l) ns ≡ k ∷ ns
  one_longer l x = rw (lt-ltb (length l) (suc (length l)) (omega arith))

  one_shorter : (l : List Save) (x : Save) → renumbered k (x ∷ l) l ns ≡ drop 1 ns
  one_shorter l x = rw (le-ltb (suc (length l)) (length l) (omega arith), lt-ltb (length l) (suc (length l)) (omega arith))

one_less : (ns : List ℕ) (n : ℕ) → length ns ≡ suc n → length (drop 1 ns) ≡ n
one_less [] n e = absurd (omega arith)
one_less (x ∷ xs) n e = omega arith

module _ (k : ℕ) (m : Newest) (ns : List ℕ) (s : Save) where
  -- after operation k, which made l' of l
  abbrev Next : Newest → List Save → List Save → Type 0
  Next m' l l' = FollowsIn m' (renumbered k l l' ns) l' s

  -- no save comes or goes
  unchanged : (l : List Save) → FollowsIn m ns l s → Next m l l
  unchanged l f = rw (as_long k ns l l refl) f

  -- a save is made that nobody knows of yet, or one that everybody does
  committed : (l : List Save) (x : Save) → x.known ≡ false → FollowsIn m ns l s → Next (made m k x.by false) l (x ∷ l)
  committed l x e f = rw (one_longer k ns l x) (record {
    long = ap suc f.long;
    number = refl;
    known = sym e;
    by = λ _. refl;
    before = λ _. f.number;
    start = f.start;
  })

  returned : (l : List Save) (x : Save) → x.known ≡ true → FollowsIn m ns l s → Next (made m k 8 true) l (x ∷ l)
  returned l x e f = rw (one_longer k ns l x) (record {
    long = ap suc f.long;
    number = refl;
    known = sym e;
    by = λ n. absurd (never e n);
    before = λ n. absurd (never e n);
    start = f.start;
  })

  -- the newest is known from now on
  marked_known : (l : List Save) → FollowsIn m ns l s → Next (known_if true m) l (mark_known l)
  marked_known [] f = record {
    long = f.long;
    number = f.number;
    known = sym f.start;
    by = λ n. absurd (never f.start n);
    before = λ n. absurd (never f.start n);
    start = f.start;
  }
  marked_known (x ∷ xs) f = rw (as_long k ns (x ∷ xs) (mark_known (x ∷ xs)) refl) (record {
    long = f.long;
    number = f.number;
    known = refl;
    by = λ n. absurd (true≢false n);
    before = λ n. absurd (true≢false n);
    start = f.start;
  })

  -- coordinator a fails or trips: both pass the newest over by one test
  module _ (a : ℕ) where
    one_test : (l : List Save) → FollowsIn m ns l s → (eqb m.by a && not m.known) ≡ passes_over a l
    one_test [] f = and_not (eqb m.by a) m.known (f.known ∙ f.start)
    one_test (x ∷ xs) f = go x.known refl
      where
        go : (t : Bool) → x.known ≡ t → (eqb m.by a && not m.known) ≡ (eqb x.by a && not x.known)
        go true e = and_not (eqb m.by a) m.known (f.known ∙ e) ∙ sym (and_not (eqb x.by a) x.known e)
        go false e = rw (f.by e, f.known)

    passed_over : (l : List Save) → (passes_over a l ≡ true → (newest (pass_over a l) s).known ≡ true) → FollowsIn m ns l s → Next (passed m a) l (pass_over a l)
    passed_over [] under f = rw (one_test [] f) f
    passed_over (x ∷ xs) under f =
        rw (one_test (x ∷ xs) f)
        (cond_both (λ (m' : Newest) (l' : List Save). Next m' (x ∷ xs) l') (passes_over a (x ∷ xs)) goes_away (λ _. unchanged (x ∷ xs) f))
      where
        goes_away : passes_over a (x ∷ xs) ≡ true → Next (record { number = m.before; before = m.before; by = 8; known = true }) (x ∷ xs) xs
        goes_away e =
            let unknown = not_true_false (and_true {s = eqb x.by a} e).1 in
            let below = ap (λ (t : Bool). (newest (cond t xs (x ∷ xs)) s).known) (sym e) ∙ under e in
            rw (one_shorter k ns xs x) (record {
              long = one_less ns (length xs) f.long;
              number = f.before unknown;
              known = sym below;
              by = λ n. absurd (never below n);
              before = λ n. absurd (never below n);
              start = f.start;
            })

-- ---- a save passed over gives way to one that is known

module _ (total : Party → ℕ) (g : Group) (h : History) (runs : Runs total g h) (a : ℕ) (stays : is_last g.store a ≡ false) where
  -- another cabinet works: the home of the coordinator, or that one's partner
  another : (j : ℕ) × (j ≢ a) × (works (state_of g j) ≡ true)
  another =
      let ground = runs.inv.core.ground in
      let served = runs.fit.frame.store in
      let chief = runs.ghost.big.chief in
      let k = home_in g.store chief in
      let here : is_present g.store k ≡ true = ground.home_present chief (ground.within chief ground.chief_in) in
      elim (ℕ_discrete k a) [
        | yes q ↦
            let store = served.present_stores a (ap (is_present g.store) (sym q) ∙ here) in
            (partner g.store a, served.other a store, ground.present_works (partner g.store a) (not_last g.store a stays store))
        | no d ↦ (k, d, ground.present_works k here)
      ]

  -- so everybody knew of the save below
  below_known : passes_over a h.saves ≡ true → (latest (note_passed h a)).known ≡ true
  below_known e = go runs.ghost.big.adopted refl
    where
      go : (t : Bool) → runs.ghost.big.adopted ≡ t → (latest (note_passed h a)).known ≡ true
      go true k = ap (λ (x : History). (latest x).known) (kept_known g.n (view g) runs.ghost h runs.past a k) ∙ runs.past.known ∙ k
      go false k =
          let b = runs.past.below k in
          let over : passes_over a (b.0 ∷ b.1) ≡ true = rw b.2 at e in
          let mine = eqb-true b.0.by a (and_true {s = eqb b.0.by a} over).0 in
          let j = another in
          ap (λ (l : List Save). (newest (pass_over a l) h.start).known) b.2
          ∙ ap (λ (t : Bool). (newest (cond t b.1 (b.0 ∷ b.1)) h.start).known) over
          ∙ b.4 j.0 (λ q. j.1 (q ∙ sym b.3 ∙ mine)) j.2

-- one that fails or trips without a crash is not the last store of its pair
module _ (g : Group) (a : ℕ) where
  fail_stays : (fail_step g a).answer ≡ 0 → is_last g.store a ≡ false
  unfolding fail_step
  fail_stays =
      cond_elim (λ (o : Outcome). o.answer ≡ 0 → is_last g.store a ≡ false) (fail_crashes g a)
      (λ _ e. absurd (omega arith)) (λ e _. (or-false {s = is_last g.store a} e).0)

  trip_stays : (trip_step g a).answer ≡ 0 → is_last g.store a ≡ false
  unfolding trip_step trip_once
  trip_stays =
      cond_elim (λ (o : Outcome). o.answer ≡ 0 → is_last g.store a ≡ false) (ltb (trips_of g a) 2)
      (λ _. cond_elim (λ (o : Outcome). o.answer ≡ 0 → is_last g.store a ≡ false) (trip_crashes g a)
      (λ _ e. absurd (omega arith)) (λ e _. (or-false {s = is_last g.store a} e).0))
      (λ _. fail_stays)

-- a step that is taken passed the checks, and so did its kind
entered : (g : Group) (s : Step) → (step_decoded g (Taken s)).answer ≡ 0 → (entry_refusal g s ≡ 0) × ((perform g s).answer ≡ 0)
entered g s =
    cond_elim (λ (o : Outcome). o.answer ≡ 0 → (entry_refusal g s ≡ 0) × ((perform g s).answer ≡ 0)) (eqb (entry_refusal g s) 0)
    (λ e a. (eqb-true (entry_refusal g s) 0 e, a)) (λ e a. absurd (eqb-false (entry_refusal g s) 0 e a))

-- ---- what leaves the saves alone

abbrev SameSaves : History → History → Type 0
SameSaves h' h = (h'.saves ≡ h.saves) × (h'.start ≡ h.start)

taken_same : (t : Bool) (h : History) (a b : ℕ) (p : Packet) → SameSaves (note_taken t h a b p) h
taken_same true h a b Empty = (refl, refl)
taken_same true h a b (NormalPacket p) = cond_elim (λ (x : History). SameSaves x h) (fits p) (λ _. (refl, refl)) (λ _. (refl, refl))
taken_same true h a b (Checkp v) = (refl, refl)
taken_same true h a b Resume = (refl, refl)
taken_same true h a b (Recover v) = (refl, refl)
taken_same true h a b (Fault p) = (refl, refl)
taken_same true h a b Invalid = (refl, refl)
taken_same false h a b p = (refl, refl)

damage_same : (p : Packet) (h : History) (a b : ℕ) → SameSaves (note_damage p h a b) h
damage_same Empty h a b = (refl, refl)
damage_same (NormalPacket p) h a b = (refl, refl)
damage_same (Checkp v) h a b = (refl, refl)
damage_same Resume h a b = (refl, refl)
damage_same (Recover v) h a b = (refl, refl)
damage_same (Fault p) h a b = (refl, refl)
damage_same Invalid h a b = (refl, refl)

end_same : (t : Bool) (h : History) (g : Group) → SameSaves (note_end t h g) h
end_same true h g = (refl, refl)
end_same false h g = (refl, refl)

-- ---- one operation

module _ (k : ℕ) (m : Newest) (ns : List ℕ) where
  -- what is kept after operation k, which took history h to h'
  abbrev Onward : Newest → History → History → Type 0
  Onward m' h h' = Follows m' (renumbered k h.saves h'.saves ns) h'

  none_made : (h : History) → Follows m ns h → Onward m h h
  none_made h f = unchanged k m ns h.start h.saves f

  same_saves : (h h' : History) → SameSaves h' h → Follows m ns h → Onward m h h'
  same_saves h h' e f = rw (as_long k ns h.saves h'.saves (ap length e.0)) (rw (e.0, e.1) f)

  known_noted : (t : Bool) (h h' : History) → SameSaves h' h → Follows m ns h → Onward (known_if t m) h (note_known t h')
  known_noted true h h' e f = rw (e.0, e.1) (marked_known k m ns h.start h.saves f)
  known_noted false h h' e f = same_saves h h' e f

  commit_noted : (t : Bool) (h : History) (c : ℕ) → Follows m ns h → Onward (made_if t m k c) h (note_commit t h c)
  commit_noted true h c f = committed k m ns h.start h.saves (record { by = c; cut = h.cuts; known = false }) refl f
  commit_noted false h c f = none_made h f

  module _ (total : Party → ℕ) (g : Group) (h : History) (runs : Runs total g h) (f : Follows m ns h) where
    passed_noted : (a : ℕ) → is_last g.store a ≡ false → Onward (passed m a) h (note_passed h a)
    passed_noted a stays = passed_over k m ns h.start a h.saves (below_known total g h runs a stays) f

    observed : (g' : Group) (s : Step) → (perform g s).answer ≡ 0 → Onward (newest_by m k g g' (sort_of s)) h (after h g g' s)
    observed g' (Send a b p q) e = none_made h f
    observed g' (Note a p q) e = none_made h f
    observed g' (Begin a) e = none_made h f
    observed g' (Deliver a b) e =
        let t = marked (in_use (cabinet g (b - 1))) (a - 1) && takes_from (cabinet g (b - 1)) (a - 1) in
        let p = oldest (line g (a - 1) (b - 1)) in
        known_noted (goes g g' (b - 1) Checkpointed Normal) h (note_taken t h (a - 1) (b - 1) p) (taken_same t h (a - 1) (b - 1) p) f
    observed g' (Write a) e = none_made h f
    observed g' (Saved a) e = let c = coordinator (cabinet g (home g (a - 1))) in commit_noted (commits g g' c) h c f
    observed g' (Fetch a) e = known_noted (goes g g' (a - 1) Recovering Recovered) h h (refl, refl) f
    observed g' (Restored a) e = let t = ends g g' (a - 1) in same_saves h (note_end t h g') (end_same t h g') f
    observed g' (Fail a) e = passed_noted (a - 1) (fail_stays g (a - 1) e)
    observed g' (Damage a b p w) e =
        let x = packet_at (line g (a - 1) (b - 1)) p in same_saves h (note_damage x h (a - 1) (b - 1)) (damage_same x h (a - 1) (b - 1)) f
    observed g' (Lose a b p) e = none_made h f
    observed g' (Trip a) e = passed_noted (a - 1) (trip_stays g (a - 1) e)
    observed g' (Unsure a) e = none_made h f

  module _ (total : Party → ℕ) (w : World) (good : Good total w) (f : Follows m ns w.history) where
    abbrev g : Group
    g = w.group

    abbrev h : History
    h = w.history

    -- not crashed, so that the invariant holds
    runs : not (is_crashed g) ≡ true → Runs total g h
    runs e = ⊎_elim (λ c. absurd (never c (not_true_false e))) (λ x. x) good.going

    -- a step that is refused or crashes the group makes none
    by_step : (r : List ℕ) → Onward (newest_after k w (stepping r) m) h (advance w (stepping r)).history
    unfolding advance operate newest_in
    by_step r = go (decode r) (open_step g r)
      where
        go : (d : Decoded) → step g r ≡ step_decoded g d
            → Onward (cond (eqb (step g r).answer 0) (newest_by m k g (step g r).group (sort_in d)) m) h (record_decoded h g (step g r) d)
        go Malformed e = cond_elim (λ (x : Newest). Onward x h h) (eqb (step g r).answer 0) (λ _. none_made h f) (λ _. none_made h f)
        go Unused e = cond_elim (λ (x : Newest). Onward x h h) (eqb (step g r).answer 0) (λ _. none_made h f) (λ _. none_made h f)
        go (Taken s) e =
            cond_both (λ (x : Newest) (y : History). Onward x h y) (eqb (step g r).answer 0)
            (λ a.
            let b = entered g s (ap (λ (o : Outcome). o.answer) (sym e) ∙ eqb-true (step g r).answer 0 a) in
            observed total g h (runs (check-passed (not (is_crashed g)) 9 _ b.0).0) f (step g r).group s b.1)
            (λ _. none_made h f)

    by_point : (name : List ℕ) → Onward (newest_after k w (pointing name) m) h (advance w (pointing name)).history
    unfolding advance operate newest_in
    by_point name =
        cond_both (λ (x : Newest) (y : History). Onward x h y) (eqb (take_point w.points g name).answer 0)
        (λ _. none_made h f) (λ _. none_made h f)

    -- a return that is taken finds its point, and so does the history
    return_finds : (name : List ℕ) → (return_to w.points g name).answer ≡ 0 → (images : ℕ → Option Image) × (h.points name ≡ some images)
    unfolding return_to
    return_finds name =
        cond_elim (λ (o : Outcome). o.answer ≡ 0 → (images : ℕ → Option Image) × (h.points name ≡ some images)) (eqb (return_refusal w.points g name) 0)
        (λ e _.
        let one = check-passed (not (is_crashed g)) 9 _ (eqb-true (return_refusal w.points g name) 0 e) in
        let two = check-passed (ltb (place_of w.points name) 4) 20 _ one.1 in
        let x = found good.points name two.0 in
        (x.0, x.1))
        (λ e a. absurd (eqb-false (return_refusal w.points g name) 0 e a))

    by_return : (name : List ℕ) → Onward (newest_after k w (returning name) m) h (advance w (returning name)).history
    unfolding advance operate newest_in
    by_return name =
        cond_both (λ (x : Newest) (y : History). Onward x h y) (eqb (return_to w.points g name).answer 0)
        (λ e.
        let x = return_finds name (eqb-true (return_to w.points g name).answer 0 e) in
        rw x.1 (returned k m ns h.start h.saves (bare_save x.0) refl f))
        (λ _. none_made h f)

pub follows : (total : Party → ℕ) (w : World) → Good total w → (x : Operation) (k : ℕ) (m : Newest) (ns : List ℕ)
    → Follows m ns w.history → Follows (newest_after k w x m) (numbers_after k w (advance w x) ns) (advance w x).history
follows total w good (stepping r) k m ns f = by_step k m ns total w good f r
follows total w good (pointing name) k m ns f = by_point k m ns total w good f name
follows total w good (returning name) k m ns f = by_return k m ns total w good f name
