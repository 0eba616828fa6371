-- From a group whose working cabinets are all aware of a fault to where the recovery ends: no commit, no fail, no trip and no return comes
-- between, so that the save which the rule gives stays, and nobody's fault place changes.
use Prim.Native.Nat.{ℕ, zero, suc, ◌-◌, ◌<◌}
use mathlib.Core.Path.{◌≡◌, refl, sym, ap, ◌∙◌, subst}
use mathlib.Core.Logic.{◌⊎◌, ⊎_elim}
use mathlib.Core.Bool.{Bool, true, false, cond, not, ◌&&◌}
use mathlib.Core.List.{List, [], ◌∷◌}
use mathlib.Core.Option.{Option, none, some}
use lib.Dec.{eqb, ltb}
use borrow.Author.Tests.{eqb-true, eqb-false}
use native.Mathlib.Omega.{arith}
use native.Mathlib.Decide.{ℕ_discrete}
use Rattle.marks.specs.Marks.{marked}
use Rattle.outlet.specs.declared.Party.{Party}
use Rattle.packet.specs.declared.Packet.{Packet}
use Rattle.packet.specs.declared.Packet.TheVariants.{Empty, Normal as NormalPacket, Checkp, Resume, Recover, Fault, Invalid}
use Rattle.packet.specs.Packet.{fits}
use Rattle.line.specs.Line.{oldest, packet_at}
use Rattle.state.specs.declared.State.TheVariants.{Normal, Checkpointed, Recovering, Recovered}
use Rattle.cabinet.specs.Alarm.{Alarm}
use Rattle.state.specs.State.{works, in_recovery, in_saving}
use Rattle.cabinet.specs.Cabinet.{in_use, coordinator}
use Rattle.points.specs.Points.{place_of}
use Rattle.store.specs.Store.{is_last}
use Rattle.group.specs.declared.Group.{Group}
use Rattle.group.specs.declared.Outcome.{Outcome}
use Rattle.group.specs.Group.{cabinet, state_of, line, is_crashed, some as any, recovering_ones, trips_of, quiet, home}
use Rattle.protocol.specs.declared.Step.{Step}
use Rattle.protocol.specs.declared.Step.TheVariants.{Send, Note, Begin, Deliver, Write, Saved, Fetch, Restored as RestoredStep, Fail, Damage, Lose, Trip, Unsure}
use Rattle.protocol.specs.declared.Decoded.{Decoded}
use Rattle.protocol.specs.declared.Decoded.TheVariants.{Malformed, Unused, Taken}
use Rattle.protocol.specs.declared.Noted.{Noted}
use Rattle.protocol.specs.Receive.{takes_from}
use Rattle.protocol.specs.Kinds.{or_refuse, fail_crashes, fail_step, trip_crashes, trip_once, trip_step}
use Rattle.protocol.specs.Entry.{step, step_decoded, decode, entry_refusal, perform}
use Rattle.protocol.specs.Points.{take_point, point_refusal, return_to, return_refusal}
use Rattle.protocol.specs.History.{Save, History, Operation, stepping, pointing, returning, World, advance, latest, observe, note_known, note_taken, note_commit, note_damage, note_end, note_point, note_return, record_decoded, if_taken, commits, goes, ends}
use Rattle.protocol.specs.Restored.{Restored, OctetsIn, AllOctets, Octets}
use Rattle.claims.specs.NoClock.{ends_below, first_end}
use Rattle.claims.proofs.State.Fun.{never, is_false, and_true, and_intro, or_left, or_right, cond_elim}
use Rattle.claims.proofs.State.Every.{passed}
use Rattle.claims.proofs.State.View.{view}
use Rattle.claims.proofs.Answers.Tests.{some_recovers, in_recovery_lem}
use Rattle.claims.proofs.Answers.Entry.{refusal_keeps}
use Rattle.claims.proofs.Invariant.States.{saving_works}
use Rattle.claims.proofs.Invariant.Whole.{aware_of}
use Rattle.claims.proofs.Invariant.Staying.{Goes}
use Rattle.claims.proofs.Invariant.Facts.{Ghost}
use Rattle.claims.proofs.Invariant.Past.{Ended}
use Rattle.claims.proofs.Invariant.Words.{aware_recovers, aware_works}
use Rattle.claims.proofs.Moves.Returning.{past_point, nobody}
use Rattle.claims.proofs.Claims.Demand.{Runs, open_step, stopped, same_state, taken_runs, works_one, refused_same, crash_ends, crash_holds, stays_ends, advance_n}

-- ---- one save

-- the same coordinator and the same cuts: whether it is known changes on the way
abbrev pub SameSave : Save → Save → Type 0
SameSave x y = (x.by ≡ y.by) × (x.cut ≡ y.cut)

same_save : (x y z : Save) → SameSave x y → SameSave y z → SameSave x z
same_save x y z p q = (p.0 ∙ q.0, p.1 ∙ q.1)

known_same : (t : Bool) (h : History) → SameSave (latest (note_known t h)) (latest h)
known_same true h = go h.saves refl
  where
    go : (l : List Save) → h.saves ≡ l → SameSave (latest (note_known true h)) (latest h)
    go [] e = rw e (refl, refl)
    go (x ∷ xs) e = rw e (refl, refl)
known_same false h = (refl, refl)

taken_same : (t : Bool) (h : History) (a b : ℕ) (p : Packet) → SameSave (latest (note_taken t h a b p)) (latest h)
taken_same true h a b Empty = (refl, refl)
taken_same true h a b (NormalPacket p) = cond_elim (λ (x : History). SameSave (latest x) (latest h)) (fits p) (λ _. (refl, refl)) (λ _. (refl, refl))
taken_same true h a b (Checkp v) = (refl, refl)
taken_same true h a b Resume = (refl, refl)
taken_same true h a b (Recover v) = (refl, refl)
taken_same true h a b (Fault p) = (refl, refl)
taken_same true h a b Invalid = (refl, refl)
taken_same false h a b p = (refl, refl)

damage_same : (p : Packet) (h : History) (a b : ℕ) → SameSave (latest (note_damage p h a b)) (latest h)
damage_same Empty h a b = (refl, refl)
damage_same (NormalPacket p) h a b = (refl, refl)
damage_same (Checkp v) h a b = (refl, refl)
damage_same Resume h a b = (refl, refl)
damage_same (Recover v) h a b = (refl, refl)
damage_same (Fault p) h a b = (refl, refl)
damage_same Invalid h a b = (refl, refl)

end_same : (t : Bool) (h : History) (g : Group) → SameSave (latest (note_end t h g)) (latest h)
end_same true h g = (refl, refl)
end_same false h g = (refl, refl)

-- ---- a fail or a trip in a recovery crashes the group

module _ (g : Group) (recovers : any (recovering_ones g) ≡ true) where
  fail_fifty : (a : ℕ) → (fail_step g a).answer ≡ 0 → ⊥
  unfolding fail_step
  fail_fifty a e =
      let c : fail_crashes g a ≡ true = or_right (is_last g.store a) _ (or_left (any (recovering_ones g)) _ recovers) in
      omega (arith, rw c at e)

  trip_fifty : (a : ℕ) → (trip_step g a).answer ≡ 0 → ⊥
  unfolding trip_step trip_once
  trip_fifty a =
      cond_elim (λ (o : Outcome). o.answer ≡ 0 → ⊥) (ltb (trips_of g a) 2)
      (λ _ e. let c : trip_crashes g a ≡ true = or_right (is_last g.store a) _ (or_left (any (recovering_ones g)) _ recovers) in omega (arith, rw c at e))
      (λ _. fail_fifty a)

  refused_or : (k : ℕ) (o : Outcome) → (o.answer ≡ 0 → ⊥) → (or_refuse k g o).answer ≡ 0 → ⊥
  refused_or k o f = cond_elim (λ (x : Outcome). x.answer ≡ 0 → ⊥) (eqb k 0) (λ _. f) (λ e a. eqb-false k 0 e a)

  -- so a step that is taken then, while nobody saves, leaves the save that the rule gives
  module _ (h : History) (g' : Group) (unsaving : (c : ℕ) → in_saving (state_of g c) ≡ false) where
    commit_same : (k : ℕ) → SameSave (latest (note_commit (commits g g' k) h k)) (latest h)
    commit_same k = subst (λ (t : Bool). SameSave (latest (note_commit t h k)) (latest h)) (sym off) (refl, refl)
      where
        off : commits g g' k ≡ false
        off = is_false _ (λ e. never (and_true {s = in_saving (state_of g k)} e).0 (unsaving k))

    observed_same : (s : Step) → (or_refuse (entry_refusal g s) g (perform g s)).answer ≡ 0 → SameSave (latest (observe h g g' s)) (latest h)
    observed_same (Send a b p q) e = (refl, refl)
    observed_same (Note a p q) e = (refl, refl)
    observed_same (Begin a) e = (refl, refl)
    observed_same (Deliver a b) e =
        let t = marked (in_use (cabinet g (b - 1))) (a - 1) && takes_from (cabinet g (b - 1)) (a - 1) in
        let p = oldest (line g (a - 1) (b - 1)) in
        let k = note_taken t h (a - 1) (b - 1) p in
        same_save (latest (observe h g g' (Deliver a b))) (latest k) (latest h) (known_same (goes g g' (b - 1) Checkpointed Normal) k) (taken_same t h (a - 1) (b - 1) p)
    observed_same (Write a) e = (refl, refl)
    observed_same (Saved a) e = commit_same (coordinator (cabinet g (home g (a - 1))))
    observed_same (Fetch a) e = known_same (goes g g' (a - 1) Recovering Recovered) h
    observed_same (RestoredStep a) e = end_same (ends g g' (a - 1)) h g'
    observed_same (Fail a) e = absurd (refused_or (entry_refusal g (Fail a)) (fail_step g (a - 1)) (fail_fifty (a - 1)) e)
    observed_same (Damage a b p w) e = damage_same (packet_at (line g (a - 1) (b - 1)) p) h (a - 1) (b - 1)
    observed_same (Lose a b p) e = (refl, refl)
    observed_same (Trip a) e = absurd (refused_or (entry_refusal g (Trip a)) (trip_step g (a - 1)) (trip_fifty (a - 1)) e)
    observed_same (Unsure a) e = (refl, refl)

-- ---- who was there when it began, with the places that they had, and the save

pub record Since : Type 0 where
  pub total : Party → ℕ
  pub there : ℕ → Bool
  pub place : ℕ → Alarm
  pub save : Save

pub record During (f : Since) (g : Group) (h : History) : Type 0 where
  pub runs : Runs f.total g h
  pub on : (c : ℕ) → f.there c ≡ true → (aware_of (view g) runs.ghost c ≡ true) × ((cabinet g c).phase.alarm ≡ f.place c)
  pub off : (c : ℕ) → f.there c ≡ false → works (state_of g c) ≡ false
  pub save : SameSave (latest h) f.save

module _ {f : Since} where
  -- no one of them leaves, and no one else comes
  pub during_goes : {g g' : Group} {h h' : History} (d : During f g h) (u : Runs f.total g' h')
      → Goes (view g) d.runs.ghost (view g') u.ghost → SameSave (latest h') (latest h) → During f g' h'
  during_goes {h} {h'} d u o e = record {
    runs = u;
    on = λ c t. let x = d.on c t in let y = o.on c x.0 in (y.0, y.1 ∙ x.1);
    off = λ c t. o.gone c (d.off c t);
    save = same_save (latest h') (latest h) f.save e d.save;
  }

  module _ {g : Group} {h : History} (d : During f g h) where
    is_there : (c : ℕ) → works (state_of g c) ≡ true → f.there c ≡ true
    is_there c w = go (f.there c) refl
      where
        go : (t : Bool) → f.there c ≡ t → t ≡ true
        go true e = refl
        go false e = absurd (never w (d.off c e))

    recovering : (c : ℕ) → works (state_of g c) ≡ true → in_recovery (state_of g c) ≡ true
    recovering c w = aware_recovers d.runs.ghost.big ((view g).own c) (d.on c (is_there c w)).0

    unsaving : (c : ℕ) → in_saving (state_of g c) ≡ false
    unsaving c = is_false _ (λ e. let x = saving_works (state_of g c) e in never (recovering c x.0) x.1)

    some_one : (c : ℕ) × (c < 8) × (works (state_of g c) ≡ true)
    some_one = works_one f.total g h d.runs

    recovers : any (recovering_ones g) ≡ true
    recovers =
        let c = some_one in
        (some_recovers g).1 (c.0, c.1, (in_recovery_lem (state_of g c.0)).0 (recovering c.0 c.2))

    taken_saves : (r : List ℕ) → (step g r).answer ≡ 0 → SameSave (latest (record_decoded h g (step g r) (decode r))) (latest h)
    taken_saves r a = go (decode r) (open_step g r)
      where
        go : (x : Decoded) → step g r ≡ step_decoded g x → SameSave (latest (record_decoded h g (step g r) x)) (latest h)
        go Malformed e = (refl, refl)
        go Unused e = (refl, refl)
        go (Taken t) e =
            cond_elim (λ (y : History). SameSave (latest y) (latest h)) (eqb (step g r).answer 0)
            (λ _. observed_same g recovers h (step g r).group unsaving t (ap (λ (x : Outcome). x.answer) (sym e) ∙ a))
            (λ _. (refl, refl))

-- ---- where a recovery ends

ends_none : (n : ℕ) (g g' : Group) → ((j : ℕ) → works (state_of g j) ≡ true → ends g g' j ≡ true → ⊥) → ends_below n g g' ≡ false
unfolding ends_below
ends_none zero g g' f = refl
ends_none (suc j) g g' f =
    rw (is_false (works (state_of g j) && ends g g' j) (λ e. let x = and_true {s = works (state_of g j)} e in f j x.0 x.1)) (ends_none j g g' f)

ends_some : (n j : ℕ) (g g' : Group) → j < n → works (state_of g j) ≡ true → ends g g' j ≡ true → ends_below n g g' ≡ true
unfolding ends_below
ends_some zero j g g' l w e = absurd (omega arith)
ends_some (suc n) j g g' l w e = elim (ℕ_discrete j n) [
  | yes q ↦ or_left _ (ends_below n g g') (subst (λ (k : ℕ). (works (state_of g k) && ends g g' k) ≡ true) q (and_intro w e))
  | no m ↦ or_right (works (state_of g n) && ends g g' n) _ (ends_some n j g g' (omega arith) w e)
]

-- ---- one operation

module _ (f : Since) where
  abbrev pub At-end : ℕ → World → Type 0
  At-end n u =
      Restored n f.total u.history u.group × (SameSave (latest u.history) f.save × ((latest u.history).known ≡ true))
      × ((c d : ℕ) → f.there c ≡ true → f.there d ≡ true → f.place c ≡ f.place d)

  -- the group crashes, the recovery goes on, or it ends
  pub data After (w : World) (x : Operation) : Type 0 where
    crashes : is_crashed (advance w x).group ≡ true → ends_below 8 w.group (advance w x).group ≡ false → After w x
    goes_on : During f (advance w x).group (advance w x).history → ends_below 8 w.group (advance w x).group ≡ false → After w x
    finishes : At-end w.group.n (advance w x) → ends_below 8 w.group (advance w x).group ≡ true → After w x

  module _ (w : World) (d : During f w.group w.history) where
    abbrev g : Group
    g = w.group

    abbrev h : History
    h = w.history

    below : (c : ℕ) → works (state_of g c) ≡ true → c < 8
    below c e = let n = d.runs.inv.core in omega (arith, n.ground.within c ((n.nodes c).placed e), n.ground.most)

    module _ (r : List ℕ) (o : Octets r) where
      abbrev g' : Group
      g' = (step g r).group

      abbrev h' : History
      h' = record_decoded h g (step g r) (decode r)

      same_places : {δ : Ghost} → Ended f.total g g' h' δ → (c k : ℕ) → f.there c ≡ true → f.there k ≡ true → f.place c ≡ f.place k
      same_places e c k tc tk =
          let at : (j : ℕ) → f.there j ≡ true → works (state_of g j) ≡ true = λ j t. aware_works d.runs.ghost.big ((view g).own j) (d.on j t).0 in
          sym (d.on c tc).1 ∙ e.place c k (at c tc) (at k tk) ∙ (d.on k tk).1

      stepped : After w (stepping r)
      unfolding advance
      stepped = elim (ℕ_discrete (step g r).answer 0) [
        | yes a ↦
            let t = taken_runs f.total g h r o d.runs a in
            let e = taken_saves d r a in
            ⊎_elim
            (λ k. goes_on (during_goes d t.0 k e) (ends_none 8 g g' (λ j v x. stays_ends f.total g h r o d.runs k j v x)))
            (λ k. finishes (k.restored, (same_save (latest h') (latest h) f.save e d.save, k.known), same_places k) (let j = k.who in ends_some 8 j.0 g g' (below j.0 j.1) j.1 j.2))
            t.1
        | no n ↦ elim (ℕ_discrete (step g r).answer 50) [
          | yes x ↦ crashes (crash_holds f.total g h r o d.runs x) (ends_none 8 g g' (λ j v e. crash_ends f.total g h r o d.runs j x e))
          | no m ↦
              let same = refusal_keeps g r n m in
              let past = refused_same f.total g h r o d.runs (decode r) n in
              goes_on (subst (λ (x : Group). During f x h') (sym same) (subst (During f g) (sym past) d))
              (ends_none 8 g g' (λ j v e. same_state g j (subst (λ (x : Group). ends g x j ≡ true) same e)))
        ]
      ]

    pointed : (name : List ℕ) → After w (pointing name)
    unfolding advance take_point
    pointed name =
        goes_on
        (cond_elim (λ (x : Noted). During f g (if_taken x.answer (note_point h name) h)) (eqb k 0)
        (λ e. with_point)
        (λ e. subst (λ (t : Bool). During f g (cond t (note_point h name) h)) (sym e) d))
        (ends_none 8 g g (λ j v e. same_state g j e))
      where
        k : ℕ
        k = point_refusal w.points g name

        with_point : During f g (note_point h name)
        with_point = record {
          runs = record { ghost = d.runs.ghost; fit = d.runs.fit; inv = d.runs.inv; past = past_point d.runs.past name; reports = d.runs.reports };
          on = d.on;
          off = d.off;
          save = d.save;
        }

    came_back : (name : List ℕ) → After w (returning name)
    unfolding advance return_to
    came_back name =
        goes_on
        (cond_elim (λ (x : Outcome). During f x.group (if_taken x.answer (note_return (h.points name) h g) h)) (eqb k 0)
        (λ e. absurd (not_quiet (eqb-true k 0 e)))
        (λ e. subst (λ (t : Bool). During f g (cond t (note_return (h.points name) h g) h)) (sym e) d))
        (cond_elim (λ (x : Outcome). ends_below 8 g x.group ≡ false) (eqb k 0)
        (λ e. absurd (not_quiet (eqb-true k 0 e))) (λ e. ends_none 8 g g (λ j v e. same_state g j e)))
      where
        k : ℕ
        k = return_refusal w.points g name

        not_quiet : k ≡ 0 → ⊥
        not_quiet e =
            let two = passed (ltb (place_of w.points name) 4) 20 _ (passed (not (is_crashed g)) 9 _ e).1 in
            let three = passed (quiet g) 21 0 two.1 in
            let c = some_one d in
            never (recovering d c.0 c.2) (nobody f.total g h d.runs.ghost d.runs.fit d.runs.inv d.runs.past three.0 c.0)

    one_after : (x : Operation) → OctetsIn x → After w x
    one_after (stepping r) o = stepped r o
    one_after (pointing name) o = pointed name
    one_after (returning name) o = came_back name

-- ---- to the end

-- a crashed group ends no recovery
pub crashed_stays : (w : World) (x : Operation) → is_crashed w.group ≡ true → (advance w x).group ≡ w.group
unfolding advance return_to
crashed_stays w (stepping r) c = stopped w.group r c
crashed_stays w (pointing name) c = refl
crashed_stays w (returning name) c =
    cond_elim (λ (x : Outcome). x.group ≡ w.group) (eqb (return_refusal w.points w.group name) 0)
    (λ e. absurd (never (passed (not (is_crashed w.group)) 9 _ (eqb-true (return_refusal w.points w.group name) 0 e)).0 (ap not c))) (λ _. refl)

crashed_none : (xs : List Operation) (w : World) → is_crashed w.group ≡ true → first_end w xs ≡ none
unfolding first_end
crashed_none [] w c = refl
crashed_none (x ∷ xs) w c =
    let e = crashed_stays w x c in
    rw (ap (ends_below 8 w.group) e ∙ ends_none 8 w.group w.group (λ j v f. same_state w.group j f))
    (crashed_none xs (advance w x) (ap is_crashed e ∙ c))

some_not_none : {A : Type 0} {x : A} → none ≡ some x → ⊥
some_not_none e = let z : ◌≡◌ {A = ℕ} 0 1 = cc in omega arith

some_same : {A : Type 0} {x y : A} → some x ≡ some y → x ≡ y
some_same {A} {x} e = ap from e
  where
    from : Option A → A
    from none = x
    from (some z) = z

pub to_end : (f : Since) (xs : List Operation) (w : World) → During f w.group w.history → AllOctets xs → (u : World) → first_end w xs ≡ some u
    → At-end f w.group.n u
unfolding first_end
to_end f [] w d o u e = absurd (some_not_none e)
to_end f (x ∷ xs) w d o u e = go (λ k m. to_end f xs (advance w x) k o.1 u m) (one_after f w d x o.0)
  where
    go : (During f (advance w x).group (advance w x).history → first_end (advance w x) xs ≡ some u → At-end f (advance w x).group.n u)
        → After f w x → At-end f w.group.n u
    go more (crashes c n) = absurd (some_not_none (sym (crashed_none xs (advance w x) c) ∙ (rw n at e)))
    go more (goes_on k n) = subst (λ (m : ℕ). At-end f m u) (advance_n x w) (more k (rw n at e))
    go more (finishes k n) = subst (λ (y : World). At-end f w.group.n y) (some_same (rw n at e)) k
