-- What is claimed of saves in every run: which save a resume and a slot belong to, which begin a cut belongs to, where a version is known,
-- and what a committed save holds.
use Prim.Native.Nat.{ℕ, ◌-◌, ◌<◌}
use mathlib.Core.Path.{◌≡◌, refl, sym, ap, ◌∙◌, subst}
use mathlib.Core.Logic.{inl}
use mathlib.Core.Bool.{Bool, true, false, not, ◌&&◌, true≢false}
use mathlib.Core.List.{List, ◌∷◌}
use mathlib.Core.Option.{some}
use native.Mathlib.Omega.{arith}
use lib.ListN.{get_or}
use lib.Dec.{eqb}
use borrow.Author.Tests.{eqb-true, eqb-false, ne_eqb}
use Rattle.outlet.specs.declared.Party.{Party}
use Rattle.packet.specs.declared.Packet.TheVariants.{Empty, Resume}
use Rattle.packet.specs.Packet.{is_empty}
use Rattle.line.specs.Line.{packet_at}
use Rattle.state.specs.declared.State.TheVariants.{Checkpointing, Checkpointed, Error, Recovering}
use Rattle.state.specs.declared.Version.{Version}
use Rattle.state.specs.declared.Version.TheVariants.{Known, Unknown, Lost}
use Rattle.image.specs.declared.Image.{Image}
use Rattle.state.specs.State.{is_in, works, in_restoring, is_unknown, bit_of}
use Rattle.image.specs.Image.{booked}
use Rattle.cabinet.specs.Cabinet.{coordinator}
use Rattle.store.specs.Store.{home_in}
use Rattle.group.specs.declared.Group.{Group}
use Rattle.group.specs.declared.Outcome.{Outcome}
use Rattle.group.specs.Group.{cabinet, state_of, line, slot, is_crashed, taken, sum}
use Rattle.load.specs.Load.{load, feeder_total}
use Rattle.protocol.specs.declared.Step.TheVariants.{Saved}
use Rattle.protocol.specs.declared.Decoded.{Decoded}
use Rattle.protocol.specs.declared.Decoded.TheVariants.{Taken}
use Rattle.protocol.specs.Kinds.{need, or_refuse, write_refusal, fetch_refusal, is_unsure, unsure_refusal, saved_refusal, saved_step, report_saved, commit_if_all}
use Rattle.protocol.specs.Entry.{step, step_decoded, entry_refusal, is_cabinet}
use Rattle.protocol.specs.History.{Cut, Save, History, Operation, advance, commits, note_commit, record_decoded, latest, newest, image_now}
use Rattle.protocol.specs.Restored.{Octets, AllOctets, world_after, Balanced, amperes}
use Rattle.claims.specs.Saves.{Commits, saved_total, CommitsWhole, CommitsUnhurt, CommitsBetweenResumes, TakesResume, ResumeOfNewest, VersionsNameNewest, KnownWhereUsed, OfNewest, LastReport, DecidedByOld, FetchedOfNewest, CutsSinceBegin}
use Rattle.claims.proofs.State.Fun.{never, is_true, and_true, and_intro, not_true_false, cond_elim, sum_cong}
use Rattle.claims.proofs.State.Every.{passed}
use Rattle.claims.proofs.State.Fixed.{step_n}
use Rattle.claims.proofs.State.View.{view}
use Rattle.claims.proofs.State.Cells.{content_set}
use Rattle.claims.proofs.Answers.Tests.{in_state}
use Rattle.claims.proofs.Invariant.States.{restoring_works}
use Rattle.claims.proofs.Invariant.Facts.{Ghost, linked}
use Rattle.claims.proofs.Invariant.Past.{held_now, cut_held, tops_add}
use Rattle.claims.proofs.Invariant.Words.{un_of}
use Rattle.claims.proofs.Moves.Waking.{resume_open, resume_fresh}
use Rattle.claims.proofs.Moves.Saving.{chief_alive, all_wrote}
use Rattle.claims.proofs.Moves.UnsureStep.{old}
use Rattle.claims.proofs.Claims.Stepping.{named_below}
use Rattle.claims.proofs.Claims.Demand.{Runs, open_step, taken_runs, count_after}
use Rattle.claims.proofs.Claims.Bounds.{running}

-- ---- a group that runs

module _ (total : Party → ℕ) (g : Group) (h : History) (w : Runs total g h) where
  abbrev γ : Ghost
  γ = w.ghost

  -- ---- versions

  writes_known : (a : ℕ) → write_refusal g a ≡ 0 → is_unknown (cabinet g a).phase.version ≡ false
  writes_known a e =
      let cuts = (in_state (state_of g a) Checkpointing).0 (passed (is_in (state_of g a) Checkpointing) 13 _ e).0 in
      (w.inv.core.nodes a).unknown_at (un_of γ.big ((view g).own a) (rw cuts) (rw cuts)) ∙ rw cuts

  -- a cabinet is recovering, so there is a fault, and its home is aware of it
  fetches_known : (a : ℕ) → fetch_refusal g a ≡ 0 → is_unknown (cabinet g (home_in g.store a)).phase.version ≡ false
  fetches_known a e =
      let home = home_in g.store a in
      let one = passed (is_in (state_of g a) Recovering) 13 _ e in
      let restores = restoring_works (state_of g home) (passed (in_restoring (state_of g home)) 18 0 one.1).0 in
      let faulted = is_true γ.big.faulted (λ f. never one.0 ((w.inv.core.nodes a).quiet f).1) in
      (w.inv.core.nodes home).unknown_aware (and_intro faulted restores.0) ∙ restores.1

  names_newest : (c d : ℕ) → works (state_of g c) ≡ true → works (state_of g d) ≡ true → (v : Bool) → (cabinet g d).phase.version ≡ Known v
      → (y : Cut) × ((latest h).cut c ≡ some y) × (slot g (home_in g.store c) c v ≡ y.image)
  names_newest c d wc wd v e =
      let y = cut_held w.inv w.past c wc in
      (y.0, y.1, ap (slot g (home_in g.store c) c) ((w.inv.core.nodes d).known wd v e) ∙ (w.inv.core.nodes c).slot_top ((w.inv.core.nodes c).placed wc) ∙ sym y.2)

  -- the home knows its version, and that names the newest save
  fetches_newest : (a : ℕ) → fetch_refusal g a ≡ 0
      → (y : Cut) × ((latest h).cut a ≡ some y) × (slot g (home_in g.store a) a (bit_of (cabinet g (home_in g.store a)).phase.version) ≡ y.image)
  fetches_newest a e = go (cabinet g home).phase.version refl (fetches_known a e)
    where
      home : ℕ
      home = home_in g.store a

      one : (is_in (state_of g a) Recovering ≡ true) × (need (in_restoring (state_of g home)) 19 0 ≡ 0)
      one = passed (is_in (state_of g a) Recovering) 13 _ e

      go : (v : Version) → (cabinet g home).phase.version ≡ v → is_unknown v ≡ false
          → (y : Cut) × ((latest h).cut a ≡ some y) × (slot g (home_in g.store a) a (bit_of v) ≡ y.image)
      go (Known v) is _ =
          names_newest a home (ap works ((in_state (state_of g a) Recovering).0 one.0))
          (restoring_works (state_of g home) (passed (in_restoring (state_of g home)) 18 0 one.1).0).4 v is
      go (Unknown v) is k = absurd (true≢false k)
      go Lost is k = absurd (true≢false k)

  -- the old version of a coordinator that decides names the newest save
  decided_newest : (a : ℕ) → unsure_refusal g a ≡ 0 → LastReport g a (coordinator (cabinet g a))
      → (v : Bool) × ((cabinet g (coordinator (cabinet g a))).phase.version ≡ Unknown v) × ((c : ℕ) → works (state_of g c) ≡ true → OfNewest g h c v)
  decided_newest a e full =
      let o = old total g h γ w.fit w.inv w.past w.reports a below e full in (
        o.0,
        o.1,
        λ c wc.
            let y = cut_held w.inv w.past c wc in
            (y.0, y.1, ap (slot g (home_in g.store c) c) o.2 ∙ (w.inv.core.nodes c).slot_top ((w.inv.core.nodes c).placed wc) ∙ sym y.2),
      )
    where
      one : (is_unsure (cabinet g a) && (cabinet g a).noted.former) ≡ true
      one = (passed (is_unsure (cabinet g a) && (cabinet g a).noted.former) 13 _ e).0

      in_error : state_of g a ≡ Error
      in_error = (in_state (state_of g a) Error).0 (and_true {s = is_in (state_of g a) Error} (and_true {s = is_unsure (cabinet g a)} one).0).0

      below : a < 8
      below = let n = w.inv.core in omega (arith, n.ground.within a ((n.nodes a).placed (ap works in_error)), n.ground.most)

  -- ---- begins

  begun_since : (c : ℕ) → state_of g c ≡ Checkpointing → h.begun ≡ true
  begun_since c e =
      let n = w.inv.core.nodes c in
      w.past.begun (inl (n.joined_begun (n.done_joined (n.in_checkpointing (un_of γ.big ((view g).own c) (rw e) (rw e)) e).0)))

  -- ---- resumes

  -- a resume that stands in a line is among its packets
  on_line : (a b k : ℕ) → packet_at (line g a b) k ≡ Resume → get_or ((view g).lines a b) k Empty ≡ Resume
  on_line a b k e = (content_set (line g a b).cells k Resume refl (ap is_empty e) (w.fit.lines a b).packed).1 ∙ e

  takes_newest : (a b : ℕ) → TakesResume g a b
      → (h.standing ≡ true) × ((x : Save) × (xs : List Save) × (y : Cut) × (h.saves ≡ x ∷ xs) × (x.cut b ≡ some y))
      × (is_unknown (cabinet g b).phase.version ≡ true)
  takes_newest a b t =
      let n = w.inv.core.nodes b in
      let saved = t.waits in
      let un = un_of γ.big ((view g).own b) (rw saved) (rw saved) in
      let f = resume_fresh g.n total (view g) γ w.inv a b 0 (on_line a b 0 t.resume) saved in
      let s = w.past.waits b ((in_state (state_of g b) Checkpointed).1 saved) f.0 in
      let y = cut_held w.inv w.past b (ap works saved) in (
        s.0,
        (s.1.0, s.1.1, y.0, s.1.2, ap (λ (l : List Save). (newest l h.start).cut b) (sym s.1.2) ∙ y.1),
        n.unknown_at un ∙ rw (saved, ne_eqb b γ.big.chief f.1),
      )

  -- ---- what the newest save holds

  held_image : (c : ℕ) → c < g.n → image_now h c ≡ some (γ.mind c).top
  held_image c l = held_now (h.lost c) ((latest h).cut c) (γ.mind c).top (w.past.tops c l)

  saved_sum : (y : Party) → saved_total g.n h y ≡ sum (λ c. booked y (γ.mind c).top) g.n
  saved_sum y = sum_cong _ _ g.n (λ c l. ap (amperes y) (held_image c l))

  abbrev Whole : ℕ → Type 0
  Whole n = Balanced (latest h) × ((c : ℕ) → c < n → (m : Image) × (image_now h c ≡ some m)) × ((y : Party) → saved_total n h y ≡ total y)

  whole_save : Whole g.n
  whole_save = (w.past.balanced, (λ c l. ((γ.mind c).top, held_image c l)), (λ y. saved_sum y ∙ tops_add w.inv w.past y))

pub decided_by_old : DecidedByOld
decided_by_old f of e xs o c a = decided_newest _ _ _ (running f of e xs o c) a

pub known_where_used : KnownWhereUsed
known_where_used f of e xs o c a = let w = running f of e xs o c in (writes_known _ _ _ w a, fetches_known _ _ _ w a)

pub versions_name_newest : VersionsNameNewest
versions_name_newest f of e xs o c = names_newest _ _ _ (running f of e xs o c)

pub fetched_of_newest : FetchedOfNewest
fetched_of_newest f of e xs o c = fetches_newest _ _ _ (running f of e xs o c)

pub cuts_since_begin : CutsSinceBegin
cuts_since_begin f of e xs o c = begun_since _ _ _ (running f of e xs o c)

pub resume_of_newest : ResumeOfNewest
resume_of_newest f of e xs o c = takes_newest _ _ _ (running f of e xs o c)

-- ---- a commit

-- what is taken was not refused
pub refuses : (k : ℕ) (g : Group) (o : Outcome) → (or_refuse k g o).answer ≡ 0 → (k ≡ 0) × (or_refuse k g o ≡ o)
refuses k g o =
    cond_elim (λ (x : Outcome). x.answer ≡ 0 → (k ≡ 0) × (x ≡ o)) (eqb k 0) (λ e _. (eqb-true k 0 e, refl)) (λ e a. absurd (eqb-false k 0 e a))

module _ (g : Group) (r : List ℕ) (c : Commits g r) where
  abbrev a : ℕ
  a = c.about - 1

  decoded : step g r ≡ step_decoded g (Taken (Saved c.about))
  decoded = open_step g r ∙ ap (step_decoded g) c.saved

  entry : (entry_refusal g (Saved c.about) ≡ 0) × (step_decoded g (Taken (Saved c.about)) ≡ saved_step g a)
  entry = refuses (entry_refusal g (Saved c.about)) g (saved_step g a) (ap (λ (x : Outcome). x.answer) (sym decoded) ∙ c.taken)

  entered : (not (is_crashed g) ≡ true) × (is_cabinet g c.about ≡ true)
  entered =
      let one = passed (not (is_crashed g)) 9 _ entry.0 in
      (one.0, (and_true {s = is_cabinet g c.about} (passed (is_cabinet g c.about && is_cabinet g c.about) 10 _ one.1).0).0)

  abbrev K : ℕ
  K = coordinator (cabinet g (home_in g.store a))

  report : (saved_refusal g a ≡ 0) × ((step g r).group ≡ commit_if_all (report_saved g a (home_in g.store a) K) K)
  unfolding saved_step
  report =
      let s = refuses (saved_refusal g a) g (taken (commit_if_all (report_saved g a (home_in g.store a) K) K))
      (ap (λ (x : Outcome). x.answer) (sym (decoded ∙ entry.1)) ∙ c.taken) in
      (s.0, ap (λ (x : Outcome). x.group) (decoded ∙ entry.1 ∙ s.1))

  module _ (total : Party → ℕ) (h : History) (w : Runs total g h) where
    named : a < 8
    named = (named_below total g w.ghost w.inv c.about entered.1).1

    -- every cabinet of the save has its cut
    all_cut : (y : ℕ) → (w.ghost.mind y).tab ≡ true → (w.ghost.mind y).done ≡ true
    all_cut y t =
        (w.inv.core.nodes y).wrote_done
        (all_wrote total g h w.ghost w.fit w.inv w.past a named report.0 (ap (λ (z : Group). commits g z K) (sym report.1) ∙ c.commit) y t)

    -- no line holds a resume: its receiver would have its cut
    no_resumes : (x y k : ℕ) → packet_at (line g x y) k ≡ Resume → ⊥
    no_resumes x y k e =
        let u = resume_open g.n total (view g) w.ghost w.inv x y k (on_line total g h w x y k e) in
        never (all_cut y ((w.inv.core.nodes y).placed u.0)) u.1

    -- nothing was hurt on a line whose receiver has its cut, nor on one that joins nobody
    none_hurt : (x y : ℕ) → h.hurt x y ≡ false
    none_hurt x y = w.past.hurt x y ∙ go (linked (w.ghost.mind x) (w.ghost.mind y) (w.ghost.wire x y)) refl
      where
        go : (t : Bool) → linked (w.ghost.mind x) (w.ghost.mind y) (w.ghost.wire x y) ≡ t → (w.ghost.wire x y).hurt ≡ false
        go true e =
            let tab = (and_true {s = (w.ghost.mind x).tab} (and_true {s = (w.ghost.wire x y).lk} e).1).1 in
            ((w.inv.core.pairs x y).closed_equal e (rw (all_cut y tab)) (chief_alive total g h w.ghost w.fit w.inv w.past a named report.0)).2
        go false e = ((w.inv.core.pairs x y).apart e).4

module _ (f : List ℕ) (of : Octets f) (e : (load f).answer ≡ 0) (xs : List Operation) (o : AllOctets xs) (r : List ℕ)
    (c : Commits (world_after f xs).group r) where
  abbrev before : Runs (feeder_total f) (world_after f xs).group (world_after f xs).history
  before = running f of e xs o (not_true_false (entered (world_after f xs).group r c).0)

pub commits_between_resumes : CommitsBetweenResumes
commits_between_resumes f of e xs o r or c = no_resumes (world_after f xs).group r c (feeder_total f) (world_after f xs).history (before f of e xs o r c)

-- a saved report hurts nothing
saved_hurts : (h : History) (g : Group) (o : Outcome) (x : ℕ) → (record_decoded h g o (Taken (Saved x))).hurt ≡ h.hurt
saved_hurts h g o x =
    cond_elim (λ (y : History). y.hurt ≡ h.hurt) (eqb o.answer 0)
    (λ _. committed (commits g o.group (coordinator (cabinet g (home_in g.store (x - 1))))) (coordinator (cabinet g (home_in g.store (x - 1))))) (λ _. refl)
  where
    committed : (t : Bool) (k : ℕ) → (note_commit t h k).hurt ≡ h.hurt
    committed true k = refl
    committed false k = refl

pub commits_unhurt : CommitsUnhurt
unfolding advance
commits_unhurt f of e xs o r or c a b =
    let g = (world_after f xs).group in
    let h = (world_after f xs).history in
    ap (λ (m : ℕ → ℕ → Bool). m a b) (ap (λ (d : Decoded). (record_decoded h g (step g r) d).hurt) c.saved ∙ saved_hurts h g (step g r) c.about)
    ∙ none_hurt g r c (feeder_total f) h (before f of e xs o r c) a b

pub commits_whole : CommitsWhole
unfolding advance
commits_whole f of e xs o r or c =
    let w = (taken_runs (feeder_total f) (world_after f xs).group (world_after f xs).history r or (before f of e xs o r c) c.taken).0 in
    subst (Whole (feeder_total f) _ _ w) (step_n (world_after f xs).group r ∙ count_after f of e xs)
    (whole_save (feeder_total f) _ _ w)
