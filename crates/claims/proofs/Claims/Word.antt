-- The note of which word settled a recovery is what the history says, after every list of operations.
use Rattle.std.specs.Prelude.{None, Some, Err}
use Prim.Native.Nat.{ℕ, zero, suc, ◌<◌}
use mathlib.Core.Path.{◌≡◌, refl, sym, ap, ◌∙◌, subst}
use mathlib.Core.Logic.{◌⊎◌, inl, inr, ⊎_elim}
use mathlib.Core.Bool.{Bool, true, false, cond, not, ◌&&◌, true≢false, false≢true}
use mathlib.Core.List.{List, [], ◌∷◌}
use mathlib.Core.Option.{Option, none, some}
use lib.Dec.{eqb, ltb}
use borrow.Author.Tests.{eqb-true, eq-eqb, ne_eqb, lt-ltb, le-ltb}
use native.Mathlib.Omega.{arith}
use native.Mathlib.Decide.{ℕ_discrete, dec_lt}
use Rattle.marks.specs.Marks.{marked, lowest}
use Rattle.marks.specs.MarksLaws.{lowest_marked, lowest_le_marked}
use Rattle.outlet.specs.declared.Party.{Party}
use Rattle.state.specs.declared.State.{State}
use Rattle.state.specs.declared.State.TheVariants.{Failed, Normal, CheckpBegin, Checkpointing, Checkpointed, Error, Recovering, Recovered, Crashed}
use Rattle.state.specs.declared.Version.{Version}
use Rattle.state.specs.declared.Version.TheVariants.{Unknown}
use Rattle.state.specs.State.{is_in, works, in_recovery, is_unknown}
use Rattle.settled.specs.declared.Reason.{Reason}
use Rattle.settled.specs.declared.Reason.TheVariants.{Led, Unfinished, InNormal, Decided}
use Rattle.settled.specs.Settled.{Settled}
use Rattle.settled.specs.Settled.{number_of, unfinished, reason_of, first_of as first_by, enters, ends as note_ends}
use Rattle.cabinet.specs.declared.Phase.{Phase}
use Rattle.cabinet.specs.declared.Cabinet.{Cabinet}
use Rattle.group.specs.declared.Group.{Group}
use Rattle.group.specs.declared.Outcome.{Outcome}
use Rattle.group.specs.Group.{cabinet, state_of, is_crashed, quiet, crash_all}
use Rattle.load.specs.Load.{load, load_refusal, feeder_total}
use Rattle.load.proofs.Loaded.{starts}
use Rattle.protocol.specs.declared.Step.{Step}
use Rattle.protocol.specs.declared.Step.TheVariants.{Send, Note, Begin, Deliver, Write, Saved, Fetch, Restored as RestoredStep, Fail, Damage, Lose, Trip, Unsure}
use Rattle.protocol.specs.Kinds.{need, or_refuse}
use Rattle.protocol.specs.Listing.{load_line, records}
use Rattle.protocol.specs.Entry.{step_all, step, decode, step_decoded, entry_refusal, perform, is_cabinet, first_of, second_of, actor_works}
use Rattle.protocol.specs.declared.Decoded.{Decoded}
use Rattle.protocol.specs.declared.Decoded.TheVariants.{Malformed, Unused, Taken}
use Rattle.points.specs.declared.Point.{Point}
use Rattle.points.specs.Points.{point_at, place_of}
use Rattle.protocol.specs.Points.{take_point, return_to, returned, return_refusal}
use Rattle.protocol.specs.History.{History, Operation, stepping, pointing, returning, steps, World, advance, run, opening, ends, record_decoded, if_taken, note_point, note_return}
use Rattle.protocol.specs.Restored.{Octets, OctetsIn, AllOctets, world_after}
use Rattle.protocol.specs.Word.{told_of, which_word, numbers_of, word_line, word, Entry, Account, nothing_told, reason_in, entry_of, note_entries, enters_recovering, enterers, note_first, note_over, tells, watch, watch_decoded, watch_one, account, account_after, said_of, said}
use Rattle.claims.specs.Word.{WordOfHistory, IsReason, ReasonsFit, LineOfHistory}
use Rattle.claims.proofs.State.Fun.{never, is_false, and_true, and_intro, cond_elim, or_left}
use Rattle.claims.proofs.State.Every.{passed, asks_unsure}
use Rattle.claims.proofs.State.Fixed.{step_n}
use Rattle.claims.proofs.State.Octets.{parts_octets}
use Rattle.claims.proofs.State.View.{Own, view}
use Rattle.claims.proofs.Answers.Tests.{in_state}
use Rattle.claims.proofs.Answers.Entry.{refusal_keeps, crash_stops}
use Rattle.claims.proofs.Invariant.States.{unknown_not_lost, known_not_unknown}
use Rattle.claims.proofs.Invariant.Facts.{Ghost}
use Rattle.claims.proofs.Invariant.Whole.{aware_of}
use Rattle.claims.proofs.Invariant.Words.{un_of, aware_works}
use Rattle.claims.proofs.Invariant.Past.{Ended}
use Rattle.claims.proofs.Invariant.Staying.{Goes, SomeKnows}
use Rattle.claims.proofs.Invariant.Points.{found}
use Rattle.claims.proofs.Moves.Returning.{past_point, states_returned, nobody as calm-there}
use Rattle.claims.proofs.Word.Turns.{Turned, out, kept, fetches, errs, comes, goes_on, newly, newly_so, newly_same, not_recovering, Enterer, nobody, first, reason_at}
use Rattle.claims.proofs.Word.Kinds.{GoesOn, Turn, turns, hears, decides, over, trips_in, ends_in, entered_turn}
use Rattle.claims.proofs.Claims.Demand.{Runs, Good, Onward, open_step, taken_runs, stays_ends, refused_same, crash_holds, one_more, every_list, stopped}
use Rattle.claims.proofs.Claims.During.{crashed_stays}

-- ---- the note beside the account

abbrev open_in : Settled → Bool
open_in None = false
open_in (Some f) = f.going

abbrev first_in : Settled → Option (ℕ × ℕ)
first_in None = none
first_in (Some f) = some (f.cabinet, number_of f.reason)

pub record Said (g : Group) (h : Account) : Type 0 where
  pub open' : h.under_way ≡ open_in g.settled
  pub told : h.first ≡ first_in g.settled

-- a cabinet past its last piece that does not know its version
abbrev EnteredLate : Account → ℕ → Type 0
EnteredLate h c = (e : Entry) × (h.entry c ≡ some e) × (e.knew ≡ false) × (e.state ≡ Checkpointed)

pub record Heeds (g : Group) (γ : Ghost) (h : Account) : Type 0 where
  -- who is in error and has an old version entered it so
  pub late : (c : ℕ) → is_in (state_of g c) Error ≡ true → (x : Bool) → (cabinet g c).phase.version ≡ Unknown x → EnteredLate h c
  -- where one that is aware of a fault knows its version, one has entered recovering
  pub knows : SomeKnows (view g) γ → h.under_way ≡ true

-- ---- the lowest of those that enter

marked_enterers : (g g' : Group) (j : ℕ) → j < 8 → marked (enterers g g') j ≡ enters_recovering g g' j
marked_enterers g g' zero l = refl
marked_enterers g g' (suc zero) l = refl
marked_enterers g g' (suc (suc zero)) l = refl
marked_enterers g g' (suc (suc (suc zero))) l = refl
marked_enterers g g' (suc (suc (suc (suc zero)))) l = refl
marked_enterers g g' (suc (suc (suc (suc (suc zero))))) l = refl
marked_enterers g g' (suc (suc (suc (suc (suc (suc zero)))))) l = refl
marked_enterers g g' (suc (suc (suc (suc (suc (suc (suc zero))))))) l = refl
marked_enterers g g' (suc (suc (suc (suc (suc (suc (suc (suc j)))))))) l = absurd (omega arith)

none_lowest : (g g' : Group) → ((j : ℕ) → j < 8 → newly ((view g).own j) ((view g').own j) ≡ false) → ltb (lowest (enterers g g')) 8 ≡ false
none_lowest g g' off =
    let m = enterers g g' in
    elim (dec_lt (lowest m) 8) [
      | yes l ↦ absurd (never (sym (marked_enterers g g' (lowest m) l) ∙ lowest_marked m l) (off (lowest m) l))
      | no n ↦ le-ltb (lowest m) 8 (omega arith)
    ]

first_lowest : (g g' : Group) (i : ℕ) → i < 8 → newly ((view g).own i) ((view g').own i) ≡ true
    → ((j : ℕ) → j < i → newly ((view g).own j) ((view g').own j) ≡ false) → lowest (enterers g g') ≡ i
first_lowest g g' i l on least =
    let m = enterers g g' in
    let most = lowest_le_marked m i (marked_enterers g g' i l ∙ on) in
    elim (dec_lt (lowest m) i) [
      | yes k ↦ absurd (never (sym (marked_enterers g g' (lowest m) (omega arith)) ∙ lowest_marked m (omega arith)) (least (lowest m) k))
      | no n ↦ omega arith
    ]

-- ---- the reasons

reason_fits : (led d : Bool) (s : State) → works s ≡ true → in_recovery s ≡ false → is_in s Crashed ≡ false → (led ≡ false → is_in s Checkpointed ≡ false)
    → cond (led && true) 1 (cond (unfinished s) 2 (cond (is_in s Normal) 3 (cond d 4 0))) ≡ number_of (reason_of led s)
reason_fits true d s w c r f = refl
reason_fits false d Failed w c r f = absurd (false≢true w)
reason_fits false d Normal w c r f = refl
reason_fits false d CheckpBegin w c r f = refl
reason_fits false d Checkpointing w c r f = refl
reason_fits false d Checkpointed w c r f = absurd (true≢false (f refl))
reason_fits false d Error w c r f = absurd (true≢false c)
reason_fits false d Recovering w c r f = absurd (true≢false c)
reason_fits false d Recovered w c r f = absurd (true≢false c)
reason_fits false d Crashed w c r f = absurd (true≢false r)

decided_fits : (e : Entry) → e.knew ≡ false → e.state ≡ Checkpointed → reason_in true (some e) ≡ 4
decided_fits e k s = rw (k, s) (go e.led)
  where
    go : (t : Bool) → ◌≡◌ {A = ℕ} (cond (t && false) 1 4) 4
    go true = refl
    go false = refl

-- ---- the parts of the account

tells_entry : (h : Account) (g g' : Group) (t : ℕ) (d e : Bool) → (tells h g g' t d e).entry ≡ (note_entries h g g' t).entry
tells_entry h g g' t d e = over_entry e (note_first (note_entries h g g' t) (lowest (enterers g g')) d) ∙ first_entry
  where
    over_entry : (x : Bool) (k : Account) → (note_over x k).entry ≡ k.entry
    over_entry true k = refl
    over_entry false k = refl

    first_entry : (note_first (note_entries h g g' t) (lowest (enterers g g')) d).entry ≡ (note_entries h g g' t).entry
    first_entry =
        cond_elim (λ (k : Account). k.entry ≡ (note_entries h g g' t).entry) (ltb (lowest (enterers g g')) 8 && not h.under_way) (λ _. refl) (λ _. refl)

open_enters : (s : Settled) (i : ℕ) (r : Reason) → open_in (enters s i r) ≡ true
open_enters None i r = refl
open_enters (Some f) i r = go f.going refl
  where
    go : (t : Bool) → f.going ≡ t → open_in (cond t (Some f) (Some (first_by i r))) ≡ true
    go true e = e
    go false e = refl

over_ends : (s : Settled) → (open_in (note_ends s) ≡ false) × (first_in (note_ends s) ≡ first_in s)
over_ends None = (refl, refl)
over_ends (Some f) = (refl, refl)

-- nobody is noted
unnoted : (h : Account) (i : ℕ) (d : Bool) → (ltb i 8 && not h.under_way) ≡ false → note_first h i d ≡ h
unnoted h i d e = ap (λ (t : Bool). cond t (record { entry = h.entry; under_way = true; first = some (i, reason_in d (h.entry i)) }) h) e

-- cabinet i enters by a word of its own
noted_said : (h : Account) (g g' : Group) (i : ℕ) (d : Bool) (r : Reason) → i < 8 → Said g h → g'.settled ≡ enters g.settled i r
    → reason_in d (h.entry i) ≡ number_of r → Said g' (note_first h i d)
noted_said h g g' i d r l said e fits = go g.settled refl
  where
    fresh : (s : Settled) → g.settled ≡ s → open_in s ≡ false → enters s i r ≡ Some (first_by i r) → Said g' (note_first h i d)
    fresh s q o n =
        let unopened : (ltb i 8 && not h.under_way) ≡ true = and_intro (lt-ltb i 8 l) (ap not (said.open' ∙ ap open_in q ∙ o)) in
        let note : g'.settled ≡ Some (first_by i r) = e ∙ ap (λ (x : Settled). enters x i r) q ∙ n in
        rw unopened (record { open' = sym (ap open_in note); told = ap (λ (k : ℕ). some (i, k)) fits ∙ sym (ap first_in note) })

    go : (s : Settled) → g.settled ≡ s → Said g' (note_first h i d)
    go None q = fresh None q refl refl
    go (Some f) q = on f.going refl
      where
        off : (t : Bool) → (t && false) ≡ false
        off true = refl
        off false = refl

        on : (t : Bool) → f.going ≡ t → Said g' (note_first h i d)
        on true k =
            let same : g'.settled ≡ g.settled = e ∙ ap (λ (x : Settled). enters x i r) q ∙ ap (λ (t : Bool). cond t (Some f) (Some (first_by i r))) k ∙ sym q in
            rw (unnoted h i d (ap (λ (t : Bool). ltb i 8 && not t) (said.open' ∙ ap open_in q ∙ k) ∙ off (ltb i 8)))
            (record { open' = said.open' ∙ ap open_in (sym same); told = said.told ∙ ap first_in (sym same) })
        on false k = fresh (Some f) q k (ap (λ (t : Bool). cond t (Some f) (Some (first_by i r))) k)

-- ---- a taken step

module _ (total : Party → ℕ) (g : Group) (p : History) (u : Runs total g p) (g' : Group) (p' : History) (u' : Runs total g' p') (h : Account) (said : Said g h) (heeds : Heeds g u.ghost h)
    (t : ℕ) (d e : Bool) (no_end : Goes (view g) u.ghost (view g') u'.ghost → (j : ℕ) → works (state_of g j) ≡ true → ends g g' j ≡ true → ⊥)
    (fate : Goes (view g) u.ghost (view g') u'.ghost ⊎ Ended total g g' p' u'.ghost) (count : g'.n ≡ g.n) where
  abbrev v : ℕ → Own
  v = (view g).own

  abbrev w : ℕ → Own
  w = (view g').own

  abbrev γ : Ghost
  γ = u.ghost

  abbrev γ' : Ghost
  γ' = u'.ghost

  abbrev entered : Account
  entered = note_entries h g g' t

  abbrev after : Account
  after = tells h g g' t d e

  below : (c : ℕ) → works (state_of g' c) ≡ true → c < 8
  below c k = omega (arith, u'.inv.core.ground.within c ((u'.inv.core.nodes c).placed k), u'.inv.core.ground.most)

  -- an entry that is noted in the step, and one that is not
  entry_new : (c : ℕ) → in_recovery (state_of g c) ≡ false → in_recovery (state_of g' c) ≡ true → entered.entry c ≡ some (entry_of g t c)
  entry_new c k l = ap (λ (x : Bool). cond x (some (entry_of g t c)) (h.entry c)) (and_intro (ap not k) l)

  entry_old : (c : ℕ) → in_recovery (state_of g c) ≡ true → entered.entry c ≡ h.entry c
  entry_old c k = ap (λ (x : Bool). cond (not x && in_recovery (state_of g' c)) (some (entry_of g t c)) (h.entry c)) k

  entered_said : g'.settled ≡ g.settled → Said g' entered
  entered_said k = record { open' = said.open' ∙ ap open_in (sym k); told = said.told ∙ ap first_in (sym k) }

  -- before it enters error, who is not coordinator and knows is not past its last piece
  sure : (i : ℕ) → works (v i).state ≡ true → in_recovery (v i).state ≡ false → is_unknown (v i).version ≡ false → eqb (v i).lead i ≡ false
      → is_in (v i).state Checkpointed ≡ false
  sure i wk c k n =
      let un = un_of γ.big (v i) wk c in
      let chief : (v i).lead ≡ γ.big.chief = (u.inv.core.leads i).steady un in
      let other : eqb i γ.big.chief ≡ false = ne_eqb i γ.big.chief (λ q. never (eq-eqb (v i).lead i (chief ∙ sym q)) n) in
      is_false (is_in (v i).state Checkpointed) (λ x. never ((u.inv.core.nodes i).unknown_at un ∙ and_intro x (ap not other)) k)

  fits_first : (i : ℕ) → Enterer v w t 8 i → reason_in d (entered.entry i) ≡ number_of (reason_at (v i) i)
  fits_first i k =
      let now : in_recovery (w i).state ≡ true = ap in_recovery ((in_state (w i).state Recovering).0 (and_true {s = not (is_in (v i).state Recovering)} k.enters).1) in
      let knew : (not (is_unknown (v i).version) && not (eqb i t)) ≡ true = and_intro (ap not k.knew) (ap not (ne_eqb i t k.whole)) in
      ap (reason_in d) (entry_new i k.calm now)
      ∙ ap (λ (x : Bool). cond (eqb (v i).lead i && x) 1 (cond (unfinished (v i).state) 2 (cond (is_in (v i).state Normal) 3 (cond d 4 0)))) knew
      ∙ reason_fits (eqb (v i).lead i) d (v i).state k.working k.calm (u.inv.core.nodes i).running (sure i k.working k.calm k.knew)

  -- ---- who is in error after it

  late_kept : (c : ℕ) → is_in (state_of g' c) Error ≡ true → (x : Bool) → (cabinet g' c).phase.version ≡ Unknown x → Turned (v c) (w c) → EnteredLate entered c
  late_kept c k x q (out r) = absurd (never (or_left (is_in (w c).state Error) _ k) r)
  late_kept c k x q (kept r f) =
      let before = ap (λ (s : State). is_in s Error) (sym r) ∙ k in
      let l = heeds.late c before x (sym f ∙ q) in
      (l.0, entry_old c (or_left (is_in (v c).state Error) _ before) ∙ l.1, l.2, l.3)
  late_kept c k x q (fetches r f) = absurd (never k (ap (λ (s : State). is_in s Error) f))
  late_kept c k x q (errs wk cm f (inl z)) =
      let before : (v c).version ≡ Unknown x = sym z ∙ q in
      let un = un_of γ.big (v c) wk cm in
      let at = (and_true {s = is_in (v c).state Checkpointed} (sym ((u.inv.core.nodes c).unknown_at un) ∙ ap is_unknown before)).0 in (
        entry_of g t c,
        entry_new c cm (or_left (is_in (w c).state Error) _ k),
        ap (λ (y : Version). not (is_unknown y) && not (eqb c t)) before,
        (in_state (v c).state Checkpointed).0 at,
      )
  late_kept c k x q (errs wk cm f (inr z)) = absurd (unknown_not_lost (sym q ∙ z))
  late_kept c k x q (comes wk cm f) = absurd (never k (ap (λ (s : State). is_in s Error) f))
  late_kept c k x q (goes_on r f) = absurd (never k (ap (λ (s : State). is_in s Error) f))

  late_after : ((c : ℕ) → Turned (v c) (w c)) → (c : ℕ) → is_in (state_of g' c) Error ≡ true → (x : Bool) → (cabinet g' c).phase.version ≡ Unknown x → EnteredLate after c
  late_after at c k x q =
      let l = late_kept c k x q (at c) in
      (l.0, ap (λ (f : ℕ → Option Entry). f c) (tells_entry h g g' t d e) ∙ l.1, l.2, l.3)

  -- ---- who knows after it

  -- one that is aware of a fault and knows its version is recovering or recovered
  restores : (c : ℕ) → aware_of (view g') γ' c ≡ true → is_unknown (w c).version ≡ false → is_in (w c).state Error ≡ false
  restores c a k = sym ((u'.inv.core.nodes c).unknown_aware a) ∙ k

  -- .. and was so before, if it does not enter in the step
  knew_before : (c : ℕ) → aware_of (view g') γ' c ≡ true → is_unknown (w c).version ≡ false → newly (v c) (w c) ≡ false → Turned (v c) (w c)
      → (in_recovery (v c).state ≡ true) × (is_in (v c).state Error ≡ false)
  knew_before c a k n (out r) = absurd (never (and_true {s = γ'.big.faulted} a).1 r)
  knew_before c a k n (kept r f) = (ap in_recovery (sym r) ∙ (and_true {s = γ'.big.faulted} a).1, ap (λ (s : State). is_in s Error) (sym r) ∙ restores c a k)
  knew_before c a k n (fetches r f) = (ap in_recovery r, ap (λ (s : State). is_in s Error) r)
  knew_before c a k n (errs wk cm f z) = absurd (never ((in_state (w c).state Error).1 f) (restores c a k))
  knew_before c a k n (comes wk cm f) = absurd (never (newly_so (v c) (w c) (not_recovering (v c).state cm) f) n)
  knew_before c a k n (goes_on r f) = absurd (never (newly_so (v c) (w c) (ap (λ (s : State). is_in s Recovering) r) f) n)

  knows_still : Goes (view g) γ (view g') γ' → ((c : ℕ) → Turned (v c) (w c)) → ((j : ℕ) → j < 8 → newly (v j) (w j) ≡ false) → SomeKnows (view g') γ' → SomeKnows (view g) γ
  knows_still goes at off (c, a, k) = go γ.big.faulted refl
    where
      b : (in_recovery (v c).state ≡ true) × (is_in (v c).state Error ≡ false)
      b = knew_before c a k (off c (below c (aware_works γ'.big (w c) a))) (at c)

      go : (x : Bool) → γ.big.faulted ≡ x → SomeKnows (view g) γ
      go true q = let aw = and_intro q b.0 in (c, aw, (u.inv.core.nodes c).unknown_aware aw ∙ b.1)
      go false q = absurd (never b.0 (goes.first q (and_true {s = γ'.big.faulted} a).0 c))

  -- where a recovery has ended nobody is aware of a fault
  none_knows : Ended total g g' p' γ' → SomeKnows (view g') γ' → ⊥
  none_knows k x = never (and_true {s = γ'.big.faulted} x.1).0 k.over

  known_by : (Goes (view g) γ (view g') γ' → SomeKnows (view g') γ' → after.under_way ≡ true) → SomeKnows (view g') γ' → after.under_way ≡ true
  known_by f x = ⊎_elim (λ goes. f goes x) (λ k. absurd (none_knows k x)) fate

  -- ---- the four ways

  abbrev Holds : Type 0
  Holds = Said g' after × Heeds g' γ' after

  not_over : e ≡ false → after ≡ note_first entered (lowest (enterers g g')) d
  not_over q = ap (λ (x : Bool). note_over x (note_first entered (lowest (enterers g g')) d)) q

  by_nobody : e ≡ false → ((c : ℕ) → Turned (v c) (w c)) → g'.settled ≡ g.settled → ((j : ℕ) → j < 8 → newly (v j) (w j) ≡ false) → Holds
  by_nobody q at same off = (
    subst (Said g') (sym is) (entered_said same),
    record { late = late_after at; knows = known_by (λ goes x. ap (λ (k : Account). k.under_way) is ∙ heeds.knows (knows_still goes at off x)) },
  )
    where
      is : after ≡ entered
      is = not_over q ∙ unnoted entered (lowest (enterers g g')) d (ap (λ (x : Bool). x && not h.under_way) (none_lowest g g' off))

  -- cabinet i enters by a word of its own
  by_word : e ≡ false → ((c : ℕ) → Turned (v c) (w c)) → (i : ℕ) (r : Reason) → i < 8 → lowest (enterers g g') ≡ i → g'.settled ≡ enters g.settled i r
      → reason_in d (entered.entry i) ≡ number_of r → Holds
  by_word q at i r l low note fits = (
    said',
    record { late = late_after at; knows = λ _. said'.open' ∙ ap open_in note ∙ open_enters g.settled i r },
  )
    where
      said' : Said g' after
      said' =
          subst (Said g') (sym (not_over q ∙ ap (λ (k : ℕ). note_first entered k d) low))
          (noted_said entered g g' i d r l (record { open' = said.open'; told = said.told }) note fits)

  gone_on : (b : ℕ) → GoesOn v w b → (c : ℕ) → Turned (v c) (w c)
  gone_on b k c = elim (ℕ_discrete c b) [
    | yes q ↦ rw q (goes_on k.erred k.restores)
    | no n ↦ kept (ap (λ (o : Own). o.state) (k.others c n)) (ap (λ (o : Own). o.version) (k.others c n))
  ]

  gone_lowest : (b : ℕ) → GoesOn v w b → lowest (enterers g g') ≡ b
  gone_lowest b k =
      first_lowest g g' b k.below (newly_so (v b) (w b) (ap (λ (s : State). is_in s Recovering) k.erred) k.restores)
      (λ j l. newly_same (v j) (w j) (ap (λ (o : Own). o.state) (k.others j (λ q. omega arith))))

  by_recover : e ≡ false → (b : ℕ) → GoesOn v w b → g'.settled ≡ g.settled → SomeKnows (view g) γ → Holds
  by_recover q b k same knows = (
    subst (Said g') (sym is) (entered_said same),
    record { late = late_after (gone_on b k); knows = λ _. ap (λ (x : Account). x.under_way) is ∙ heeds.knows knows },
  )
    where
      shut : (x : Bool) → (x && false) ≡ false
      shut true = refl
      shut false = refl

      is : after ≡ entered
      is =
          not_over q
          ∙ unnoted entered (lowest (enterers g g')) d (ap (λ (x : Bool). ltb (lowest (enterers g g')) 8 && not x) (heeds.knows knows) ∙ shut (ltb (lowest (enterers g g')) 8))

  by_decision : e ≡ false → d ≡ true → (b : ℕ) → GoesOn v w b → g'.settled ≡ enters g.settled b Decided → (x : Bool) → (v b).version ≡ Unknown x → Holds
  by_decision q so b k note x old =
      let l = heeds.late b ((in_state (v b).state Error).1 k.erred) x old in
      by_word q (gone_on b k) b Decided k.below (gone_lowest b k) note
      (ap (λ (y : Bool). reason_in y (entered.entry b)) so ∙ ap (reason_in true) (entry_old b (ap in_recovery k.erred) ∙ l.1) ∙ decided_fits l.0 l.2 l.3)

  by_end : e ≡ true → (j : ℕ) → works (state_of g j) ≡ true → ends g g' j ≡ true → ((c : ℕ) → newly (v c) (w c) ≡ false) → g'.settled ≡ note_ends g.settled → Holds
  by_end q j wk en off note = (
    record {
      open' = ap (λ (k : Account). k.under_way) is ∙ sym (ap open_in note ∙ (over_ends g.settled).0);
      told = ap (λ (k : Account). k.first) is ∙ said.told ∙ sym (ap first_in note ∙ (over_ends g.settled).1);
    },
    record {
      late = λ c k x z. absurd (all_know c k x z);
      knows = λ x. ⊎_elim (λ goes. absurd (no_end goes j wk en)) (λ k. absurd (none_knows k x)) fate;
    },
  )
    where
      is : after ≡ note_over true entered
      is =
          ap (λ (x : Bool). note_over x (note_first entered (lowest (enterers g g')) d)) q
          ∙ ap (note_over true) (unnoted entered (lowest (enterers g g')) d (ap (λ (x : Bool). x && not h.under_way) (none_lowest g g' (λ c _. off c))))

      all_know : (c : ℕ) → is_in (state_of g' c) Error ≡ true → (x : Bool) → (cabinet g' c).phase.version ≡ Unknown x → ⊥
      all_know c k x z =
          let up : works (state_of g' c) ≡ true = ap works ((in_state (state_of g' c) Error).0 k) in
          ⊎_elim (λ goes. no_end goes j wk en)
          (λ y. known_not_unknown (sym (y.restored.known c (omega (arith, count, u'.inv.core.ground.within c ((u'.inv.core.nodes c).placed up))) up) ∙ z)) fate

  pub told_after : Turn g γ g' t d e → Holds
  told_after (turns q at (nobody same off)) = by_nobody q at same off
  told_after (turns q at (first i k note)) =
      by_word q at i (reason_at (v i) i) k.below (first_lowest g g' i k.below k.enters k.least) note (fits_first i k)
  told_after (hears q b k same knows) = by_recover q b k same knows
  told_after (decides q so b k note x old) = by_decision q so b k note x old
  told_after (over q j wk en off note) = by_end q j wk en off note

watch_tells : (h : Account) (g g' : Group) (s : Step) → watch h g g' s ≡ tells h g g' (trips_in s) (asks_unsure s) (ends_in g g' s)
watch_tells h g g' (Send a b p q) = refl
watch_tells h g g' (Note a p q) = refl
watch_tells h g g' (Begin a) = refl
watch_tells h g g' (Deliver a b) = refl
watch_tells h g g' (Write a) = refl
watch_tells h g g' (Saved a) = refl
watch_tells h g g' (Fetch a) = refl
watch_tells h g g' (RestoredStep a) = refl
watch_tells h g g' (Fail a) = refl
watch_tells h g g' (Damage a b p w) = refl
watch_tells h g g' (Lose a b p) = refl
watch_tells h g g' (Trip a) = refl
watch_tells h g g' (Unsure a) = refl

-- ---- one operation

-- the account of a world: where it runs, what the next step needs
abbrev Going : (Party → ℕ) → World → Account → Type 0
Going total w h = (is_crashed w.group ≡ true) ⊎ ((u : Runs total w.group w.history) × Heeds w.group u.ghost h)

abbrev Tells : (Party → ℕ) → World → Account → Type 0
Tells total w h = Said w.group h × Going total w h

crash_note : (g : Group) → (crash_all g).settled ≡ g.settled
unfolding crash_all
crash_note g = refl

-- where nobody recovers nothing is asked
none_late : (g : Group) (γ : Ghost) (h : Account) → ((c : ℕ) → in_recovery (state_of g c) ≡ false) → Heeds g γ h
none_late g γ h calm = record {
  late = λ c e. absurd (never (or_left (is_in (state_of g c) Error) _ e) (calm c));
  knows = λ x. absurd (never (and_true {s = γ.big.faulted} x.1).1 (calm x.0));
}

-- a crashed group takes nothing
not_taken : (g : Group) (r : List ℕ) → is_crashed g ≡ true → (step g r).answer ≡ 0 → ⊥
unfolding step
not_taken g r c = go (decode r)
  where
    go : (d : Decoded) → (step_decoded g d).answer ≡ 0 → ⊥
    go Malformed e = omega arith
    go Unused e = omega arith
    go (Taken s) e =
        let ten : (or_refuse (entry_refusal g s) g (perform g s)).answer ≡ 10 = ap (λ (t : Bool). (or_refuse (need (not t) 10 (need (is_cabinet g (first_of s) && is_cabinet g (second_of s)) 11 (need (actor_works g s) 12 0))) g (perform g s)).answer) c in
        omega arith

module _ (total : Party → ℕ) (w : World) (h : Account) (said : Said w.group h) where
  abbrev g₀ : Group
  g₀ = w.group

  abbrev h₀ : History
  h₀ = w.history

  module _ (r : List ℕ) (o : Octets r) where
    abbrev g₁ : Group
    g₁ = (step g₀ r).group

    abbrev h₁ : History
    h₁ = record_decoded h₀ g₀ (step g₀ r) (decode r)

    abbrev after₁ : Decoded → Account
    after₁ d = watch_decoded h g₀ (step g₀ r) d

    -- a record that is not taken adds nothing
    unchanged : (d : Decoded) → ((step g₀ r).answer ≡ 0 → ⊥) → after₁ d ≡ h
    unchanged Malformed n = refl
    unchanged Unused n = refl
    unchanged (Taken s) n = ap (λ (t : Bool). cond t (watch h g₀ g₁ s) h) (ne_eqb (step g₀ r).answer 0 n)

    module _ (u : Runs total g₀ h₀) (heeds : Heeds g₀ u.ghost h) (a : (step g₀ r).answer ≡ 0) where
      on : Onward total g₀ h₀ r o u
      on = taken_runs total g₀ h₀ r o u a

      by_taken : (d : Decoded) → step g₀ r ≡ step_decoded g₀ d → Said g₁ (after₁ d) × Heeds g₁ on.0.ghost (after₁ d)
      by_taken Malformed q = absurd (let z : 8 ≡ 0 = ap (λ (x : Outcome). x.answer) (sym q) ∙ a in omega arith)
      by_taken Unused q = absurd (let z : 9 ≡ 0 = ap (λ (x : Outcome). x.answer) (sym q) ∙ a in omega arith)
      by_taken (Taken s) q =
          subst (λ (k : Account). Said g₁ k × Heeds g₁ on.0.ghost k)
          (sym (ap (λ (t : Bool). cond t (watch h g₀ g₁ s) h) (eq-eqb (step g₀ r).answer 0 a) ∙ watch_tells h g₀ g₁ s))
          (told_after total g₀ h₀ u g₁ h₁ on.0 h said heeds (trips_in s) (asks_unsure s) (ends_in g₀ g₁ s) (stays_ends total g₀ h₀ r o u) on.1 (step_n g₀ r)
          (subst (λ (x : Outcome). Turn g₀ u.ghost x.group (trips_in s) (asks_unsure s) (ends_in g₀ x.group s)) (sym q)
          (entered_turn total g₀ h₀ u.ghost u.fit u.inv u.past u.reports s (ap (λ (x : Outcome). x.answer) (sym q) ∙ a))))

    by_record : Going total w h → Tells total (advance w (stepping r)) (watch_one h w (stepping r))
    unfolding advance
    by_record (inl c) =
        let same = stopped g₀ r c in
        let crashed = ap is_crashed same ∙ c in
        (subst (λ (x : Group). Said x (after₁ (decode r))) (sym same) (subst (Said g₀) (sym (unchanged (decode r) (not_taken g₀ r c))) said), inl crashed)
    by_record (inr (u, heeds)) = elim (ℕ_discrete (step g₀ r).answer 0) [
      | yes a ↦ let k = by_taken u heeds a (decode r) (open_step g₀ r) in (k.0, inr ((on u heeds a).0, k.1))
      | no n ↦
          let old = subst (Said g₀) (sym (unchanged (decode r) n)) said in
          elim (ℕ_discrete (step g₀ r).answer 50) [
            | yes f ↦ (
              subst (λ (x : Group). Said x (after₁ (decode r))) (sym (crash_stops g₀ r f))
                  (record { open' = old.open' ∙ ap open_in (sym (crash_note g₀)); told = old.told ∙ ap first_in (sym (crash_note g₀)) }),
              inl (crash_holds total g₀ h₀ r o u f),
            )
            | no m ↦ let same = refusal_keeps g₀ r n m in (
              subst (λ (x : Group). Said x (after₁ (decode r))) (sym same) old,
              inr (subst (λ (x : Group). (y : Runs total x h₁) × Heeds x y.ghost (after₁ (decode r))) (sym same)
                  (subst (λ (x : History). (y : Runs total g₀ x) × Heeds g₀ y.ghost (after₁ (decode r))) (sym (refused_same total g₀ h₀ r o u (decode r) n))
                  (subst (λ (k : Account). (y : Runs total g₀ h₀) × Heeds g₀ y.ghost k) (sym (unchanged (decode r) n)) (u, heeds)))),
            )
          ]
    ]

  -- ---- points and returns

  by_point : (name : List ℕ) → Going total w h → Tells total (advance w (pointing name)) h
  unfolding advance
  by_point name (inl c) = (said, inl c)
  by_point name (inr (u, heeds)) =
      let noted : Runs total g₀ (note_point h₀ name) = record { ghost = u.ghost; fit = u.fit; inv = u.inv; past = past_point u.past name; reports = u.reports } in
      (said, inr (cond_elim (λ (x : History). (y : Runs total g₀ x) × Heeds g₀ y.ghost h) (eqb (take_point w.points g₀ name).answer 0) (λ _. (noted, heeds)) (λ _. (u, heeds))))

  module _ (good : Good total w) (name : List ℕ) where
    abbrev k : ℕ
    k = return_refusal w.points g₀ name

    abbrev p : Point
    p = point_at w.points (place_of w.points name)

    return_note : (return_to w.points g₀ name).group.settled ≡ g₀.settled
    unfolding return_to returned
    return_note = cond_elim (λ (x : Outcome). x.group.settled ≡ g₀.settled) (eqb k 0) (λ _. refl) (λ _. refl)

    said_on : Said (advance w (returning name)).group h
    unfolding advance
    said_on = record { open' = said.open' ∙ ap open_in (sym return_note); told = said.told ∙ ap first_in (sym return_note) }

    module _ (u : Runs total g₀ h₀) where
      -- a return that is taken leaves the states, and nobody recovers
      nobody_there : k ≡ 0 → (c : ℕ) → in_recovery (state_of (returned g₀ p) c) ≡ false
      nobody_there e c =
          let two = passed (ltb (place_of w.points name) 4) 20 _ (passed (not (is_crashed g₀)) 9 _ e).1 in
          let three = passed (quiet g₀) 21 0 two.1 in
          ap in_recovery (states_returned g₀ good.fit p (found good.points name two.0).2 c)
          ∙ calm-there total g₀ h₀ u.ghost u.fit u.inv u.past three.0 c

      returned_going : Good total (advance w (returning name)) → Heeds g₀ u.ghost h → Going total (advance w (returning name)) h
      unfolding advance return_to
      returned_going next heeds =
          cond_elim (λ (x : Outcome). Good total (record { group = x.group; points = w.points; history = if_taken x.answer (note_return (h₀.points name) h₀ g₀) h₀ })
          → Going total (record { group = x.group; points = w.points; history = if_taken x.answer (note_return (h₀.points name) h₀ g₀) h₀ }) h) (eqb k 0)
          (λ e now. ⊎_elim (λ c. inl c) (λ y. inr (y, none_late (returned g₀ p) y.ghost h (nobody_there (eqb-true k 0 e)))) now.going)
          (λ e _. inr (subst (λ (t : Bool). (y : Runs total g₀ (cond t (note_return (h₀.points name) h₀ g₀) h₀)) × Heeds g₀ y.ghost h) (sym e) (u, heeds)))
          next

    by_return : Going total w h → Tells total (advance w (returning name)) h
    by_return (inl c) = (said_on, inl (ap is_crashed (crashed_stays w (returning name) c) ∙ c))
    by_return (inr (u, heeds)) = (said_on, returned_going u (one_more total w good (returning name) tt).0 heeds)

  by_operation : Good total w → (x : Operation) → OctetsIn x → Going total w h → Tells total (advance w x) (watch_one h w x)
  by_operation good (stepping r) o = by_record r o
  by_operation good (pointing name) o = by_point name
  by_operation good (returning name) o = by_return good name

-- ---- every list

tells_run : (total : Party → ℕ) (xs : List Operation) (w : World) (h : Account) → AllOctets xs → Good total w → Tells total w h → Tells total (run w xs) (account h w xs)
unfolding run account
tells_run total [] w h o good t = t
tells_run total (x ∷ xs) w h o good t =
    tells_run total xs (advance w x) (watch_one h w x) o.1 (one_more total w good x o.0).0 (by_operation total w h t.0 good x o.0 t.1)

-- a loaded group: nothing is noted, nobody recovers
loaded_note : (f : List ℕ) → (load f).group.settled ≡ None
unfolding load
loaded_note f = cond_elim (λ (x : Outcome). x.group.settled ≡ None) (eqb (load_refusal f) 0) (λ _. refl) (λ _. refl)

loaded_calm : (f : List ℕ) → Octets f → (load f).answer ≡ 0 → (c : ℕ) → in_recovery (state_of (load f).group c) ≡ false
loaded_calm f of e c =
    let st = starts f of e in
    elim (dec_lt c (load f).group.n) [
      | yes l ↦ ap (λ (x : Phase). in_recovery x.state) (st.phase c l)
      | no n ↦ ap (λ (x : Cabinet). in_recovery x.phase.state) (st.past c (omega arith))
    ]

tells_all : (f : List ℕ) → Octets f → (load f).answer ≡ 0 → (xs : List Operation) → AllOctets xs → Tells (feeder_total f) (world_after f xs) (account_after f xs)
unfolding run
tells_all f of e xs o =
    let g = (load f).group in
    let good = every_list f of e [] tt in
    tells_run (feeder_total f) xs (opening g) nothing_told o good (
      record { open' = sym (ap open_in (loaded_note f)); told = sym (ap first_in (loaded_note f)) },
      ⊎_elim (λ c. inl c) (λ u. inr (u, none_late g u.ghost nothing_told (loaded_calm f of e))) good.going,
    )

pub word_of_history : WordOfHistory
unfolding which_word
word_of_history f of e xs o =
    let t = (tells_all f of e xs o).0 in
    let g = (world_after f xs).group in
    go g.settled (is_crashed g) t.told
  where
    go : (s : Settled) (c : Bool) → (account_after f xs).first ≡ first_in s → numbers_of (cond c (Err 10) (told_of s)) ≡ cond c (10 ∷ []) (said_of (account_after f xs).first)
    go s true q = refl
    go None false q = rw q
    go (Some x) false q = rw q

pub reasons_fit : ReasonsFit
reasons_fit f of e xs o i r q = go (world_after f xs).group.settled (sym q ∙ (tells_all f of e xs o).0.told)
  where
    bounds : (x : Reason) → IsReason (number_of x)
    bounds Led = (omega arith, omega arith)
    bounds Unfinished = (omega arith, omega arith)
    bounds InNormal = (omega arith, omega arith)
    bounds Decided = (omega arith, omega arith)

    second : Option (ℕ × ℕ) → ℕ
    second none = 1
    second (some x) = x.1

    go : (s : Settled) → some (i, r) ≡ first_in s → IsReason r
    go None z = subst IsReason (sym (ap second z)) (omega arith, omega arith)
    go (Some x) z = subst IsReason (sym (ap second z)) (bounds x.reason)

-- ---- the line of the program

steps_groups : (rs : List (List ℕ)) (w : World) → step_all w.group rs ≡ (run w (steps rs)).group
unfolding step_all run advance
steps_groups [] w = refl
steps_groups (r ∷ rs) w = steps_groups rs (advance w (stepping r))

pub line_of_history : LineOfHistory
unfolding word
line_of_history f list of ol e =
    let rs = records 10000 list in
    ap (λ (t : Bool). cond t (word_line (numbers_of (which_word (step_all (load f).group rs)))) (load_line (load f).answer)) (eq-eqb (load f).answer 0 e)
    ∙ ap (λ (g : Group). word_line (numbers_of (which_word g))) (steps_groups rs (opening (load f).group))
    ∙ ap word_line (word_of_history f of e (steps rs) (parts_octets stepping (λ r o. o) 6 10000 list ol))
