-- The kinds of step beside deliver, fail, trip, send, damage and lose: what they put, in a group that meets the invariant.
use Prim.Native.Nat.{ℕ, ◌<◌}
use mathlib.Core.Path.{◌≡◌, refl, sym, ap, ◌∙◌, subst}
use mathlib.Core.Bool.{Bool, true, false, not, ◌&&◌}
use mathlib.Core.List.{List}
use lib.Dec.{eqb, ltb}
use Rattle.marks.specs.Marks.{marked, covers}
use Rattle.outlet.specs.declared.Party.{Party}
use Rattle.packet.specs.declared.Packet.{Packet}
use Rattle.state.specs.declared.State.TheVariants.{Normal, Checkpointing, Checkpointed, Error, Recovering, Recovered}
use Rattle.state.specs.declared.Version.{Version}
use Rattle.settled.specs.declared.Reason.TheVariants.{Decided}
use Rattle.cabinet.specs.declared.Cabinet.{Cabinet}
use Rattle.state.specs.State.{is_in, works, in_recovery, in_restoring, in_saving, bit_of}
use Rattle.cabinet.specs.Cabinet.{in_use, coordinator}
use Rattle.store.specs.Store.{is_present, home_in}
use Rattle.claims.proofs.Moves.ComingBack.{Homed, back_homed}
use Rattle.group.specs.declared.Group.{Group}
use Rattle.group.specs.Group.{cabinet, with_cabinet, state_of}
use Rattle.protocol.specs.Moves.{join, cut_if_all, resume_with, commit, end_recovery, note_lost}
use Rattle.protocol.specs.Kinds.{begin_refusal, write_refusal, write_piece, owe_if, saved_refusal, report_saved, commit_if_all, fetch_refusal, fetch_piece, restored_refusal, may_report, report_restored, end_if_all, is_unsure, takes_unsure, unsure_refusal, report_unsure, decide_if_all, come_back_if_away}
use Rattle.protocol.specs.History.{upd}
use Rattle.claims.proofs.State.Fun.{and_true, and-false, cond_elim, kept_at, kept_pair, upd_case, upd_same}
use Rattle.claims.proofs.State.Every.{passed, with_cabinet_lem, ok_join, ok_write_piece, ok_report_saved, ok_note_lost, ok_come_back_if_away}
use Rattle.claims.proofs.State.View.{View, Own, Side, used, own_in, side_of, view, set_cabinet}
use Rattle.claims.proofs.State.Shape.{Shaped, Lined, Pictured, shaped}
use Rattle.claims.proofs.State.Sim.{Fit, view_cabinet}
use Rattle.claims.proofs.State.Methods.{s_owed}
use Rattle.claims.proofs.State.ViewMoves.{Room, view_forget, view_settle, view_over, v_owe, v_restored, v_unsure, sim_join, sim_owe, sim_restored, sim_unsure, sim_note}
use Rattle.claims.proofs.Answers.Tests.{in_state}
use Rattle.claims.proofs.Invariant.States.{saving_works, restoring_works}
use Rattle.claims.proofs.Invariant.Facts.{Ghost}
use Rattle.claims.proofs.Invariant.Whole.{Inv}
use Rattle.claims.proofs.Invariant.Words.{un_works}
use Rattle.claims.proofs.Moves.Writing.{sim_write}
use Rattle.claims.proofs.Moves.Reporting.{v_reported, sim_report}
use Rattle.claims.proofs.Fifo.Unbounded.{Idle, Unbounded, idle_same, idle, still}
use Rattle.claims.proofs.Fifo.Puts.{puts_join, puts_resume, puts_recover, puts_cut}
use Rattle.claims.proofs.Fifo.Rooms.{works_below, works_room}

module _ (total : Party → ℕ) (g : Group) (γ : Ghost) (w : Fit g) (i : Inv g.n total (view g) γ) where
  abbrev v : View
  v = view g

  abbrev pub Puts : View → Type 0
  Puts u = Unbounded v.lines (λ c d. false) v u

  same_states : (c : ℕ) → (v.own c).state ≡ (v.own c).state
  same_states c = refl

  same_lines : (c d : ℕ) → v.lines c d ≡ v.lines c d
  same_lines c d = refl

  -- ---- steps that put nothing

  -- a store at one cabinet
  pub cabinet_puts : (a : ℕ) (c : Cabinet) → a < 8 → Idle (state_of g a) c.phase.state → Puts (view (with_cabinet g a c))
  cabinet_puts a c la states =
      subst Puts (sym (view_cabinet g w.frame a c la))
      (idle v.lines (λ c d. false) v (set_cabinet v a (own_in g a c) (side_of c))
      (upd_case (λ (j : ℕ) (o : Own). Idle (v.own j).state o.state) v.own a (own_in g a c) states (λ j n. idle_same (v.own j).state)) same_lines)

  pub fetch_puts : (a : ℕ) → a < 8 → fetch_refusal g a ≡ 0 → Puts (view (fetch_piece g a))
  unfolding fetch_piece
  fetch_puts a la fine =
      cabinet_puts a _ la
      (cond_elim (λ (c : Cabinet). Idle (state_of g a) c.phase.state) (ltb (cabinet g a).noted.pieces 3) (λ _. idle_same (state_of g a)) (λ _. rw state (refl, refl, λ x q k back. refl)))
    where
      state : state_of g a ≡ Recovering
      state = (in_state (state_of g a) Recovering).0 (passed (is_in (state_of g a) Recovering) 13 _ fine).0

  module _ (a : ℕ) (la : a < 8) (ln : a < g.n) (fine : write_refusal g a ≡ 0) where
    writing : state_of g a ≡ Checkpointing
    writing = (in_state (state_of g a) Checkpointing).0 (passed (is_in (state_of g a) Checkpointing) 13 _ fine).0

    abbrev bit : Bool
    bit = bit_of (cabinet g a).phase.version

    here : is_present g.store (home_in g.store a) ≡ true
    here = i.core.ground.home_present a ln

    wrote_states : (t : Bool) → ltb (cabinet g a).noted.pieces 3 ≡ t → (c : ℕ) → Idle (v.own c).state ((view (write_piece g a)).own c).state
    wrote_states true e c =
        subst (λ (u : View). Idle (v.own c).state (u.own c).state) (sym (sim_write g w a la here true e bit refl))
        (upd_case (λ (j : ℕ) (o : Own). Idle (v.own j).state o.state) v.own a _ (idle_same (v.own a).state) (λ j n. idle_same (v.own j).state) c)
    wrote_states false e c =
        subst (λ (u : View). Idle (v.own c).state (u.own c).state) (sym (sim_write g w a la here false e bit refl))
        (upd_case (λ (j : ℕ) (o : Own). Idle (v.own j).state o.state) v.own a _ (rw writing (refl, refl, λ x q k back. refl)) (λ j n. idle_same (v.own j).state) c)

    wrote_lines : (c d : ℕ) → (view (write_piece g a)).lines c d ≡ v.lines c d
    wrote_lines c d = ap (λ (u : View). u.lines c d) (sim_write g w a la here _ refl bit refl)

    home_below : home_in g.store a < 8
    home_below = works_below total g γ w i (home_in g.store a) (i.core.ground.present_works (home_in g.store a) (i.core.ground.home_present a ln))

    pub write_puts : (t : Bool) → Puts (view (owe_if t (write_piece g a) (home_in g.store a) a))
    write_puts true =
        let u = view (write_piece g a) in
        subst Puts (sym (sim_owe (write_piece g a) (ok_write_piece Shaped Lined Pictured shaped g w a) (home_in g.store a) a true home_below la))
        (idle v.lines (λ c d. false) v (v_owe u (home_in g.store a) a true)
        (λ c. rw (kept_at (λ (o : Own). o.state) u.own (home_in g.store a) (u.own (home_in g.store a)) refl c) (wrote_states _ refl c)) wrote_lines)
    write_puts false = idle v.lines (λ c d. false) v (view (write_piece g a)) (wrote_states _ refl) wrote_lines

  -- ---- a save begins, is committed, a recovery goes on and ends

  pub begin_puts : (a : ℕ) → a < 8 → works (state_of g a) ≡ true → begin_refusal g a ≡ 0 → Puts (view (cut_if_all (join g a) a))
  begin_puts a la up fine =
      puts_cut v.lines (λ c d. false) v (join g a) (ok_join Shaped Lined Pictured shaped g a w)
      (puts_join v.lines (λ c d. false) v g w same_states same_lines a la room (λ b. refl) normal) a la
      (ap (λ (u : View). (u.own a).state) (sim_join g w a la room) ∙ ap (λ (o : Own). o.state) (upd_same v.own a _))
    where
      room : Room v a
      room = works_room total g γ w i a up

      normal : state_of g a ≡ Normal
      normal =
          (in_state (state_of g a) Normal).0
          (and_true {s = is_in (state_of g a) Normal} (passed (is_in (state_of g a) Normal && eqb (coordinator (cabinet g a)) a) 13 0 fine).0).0

  -- after a report that changes marks only, k may enter normal
  module _ (u : Group) (fit : Fit u) (k : ℕ) (up : works (state_of g k) ≡ true) (away : is_in (state_of g k) Normal ≡ false)
      (states : (c : ℕ) → ((view u).own c).state ≡ (v.own c).state) (sides : (d : ℕ) → used ((view u).side k d) ≡ used (v.side k d))
      (lines : (c d : ℕ) → (view u).lines c d ≡ v.lines c d) where
    report_puts : Puts (view u)
    report_puts = still v.lines (λ c d. false) v (view u) states lines

    normal_puts : (x : Version) → Puts (view (resume_with u k x))
    normal_puts x =
        puts_resume v.lines (λ c d. false) v u fit states lines k (works_below total g γ w i k up)
        (λ d e. rw (lines k d) (works_room total g γ w i k up d (sym (sides d) ∙ e))) x up away (λ b. and-false (is_in (v.own k).state Checkpointed))

  -- the report is on a, from its home to the coordinator k
  module _ (a : ℕ) (la : a < 8) (fine : saved_refusal g a ≡ 0) where
    abbrev home : ℕ
    home = home_in g.store a

    abbrev k : ℕ
    k = coordinator (cabinet g home)

    abbrev u : Group
    u = report_saved g a home k

    asked : ((v.side home a).owed ≡ true) × (in_saving (state_of g k) ≡ true)
    asked = and_true {s = marked (cabinet g home).owed a} (passed (marked (cabinet g home).owed a && in_saving (state_of g k)) 18 0 fine).0

    home_works : works (state_of g home) ≡ true
    home_works = un_works γ.big (v.own home) ((i.core.pairs home a).owes asked.0).2

    k_saves : (works (state_of g k) ≡ true) × (in_recovery (state_of g k) ≡ false) × (is_in (state_of g k) Normal ≡ false)
    k_saves = saving_works (state_of g k) asked.1

    told : view u ≡ v_reported v a home k
    told = sim_report g w a home k la (works_below total g γ w i home home_works) (works_below total g γ w i k k_saves.0)

    abbrev o1 : ℕ → Own
    o1 = upd v.own home (v.own home)

    abbrev s1 : ℕ → ℕ → Side
    s1 = upd v.side home (upd (v.side home) a (s_owed (v.side home a) false))

    told_states : (c : ℕ) → ((view u).own c).state ≡ (v.own c).state
    told_states c =
        ap (λ (x : View). (x.own c).state) told ∙ kept_at (λ (x : Own). x.state) o1 k (o1 k) refl c ∙ kept_at (λ (x : Own). x.state) v.own home (v.own home) refl c

    told_sides : (d : ℕ) → used ((view u).side k d) ≡ used (v.side k d)
    told_sides d =
        ap (λ (x : View). used (x.side k d)) told ∙ kept_pair used s1 k a _ refl k d ∙ kept_pair used v.side home a (s_owed (v.side home a) false) refl k d

    pub saved_puts : Puts (view (commit_if_all u k))
    unfolding commit_if_all commit
    saved_puts =
        let fit = ok_report_saved Shaped Lined Pictured shaped g a home k w in
        let lines : (c d : ℕ) → (view u).lines c d ≡ v.lines c d = λ c d. ap (λ (x : View). x.lines c d) told in
        cond_elim (λ (x : Group). Puts (view x)) (covers (cabinet u k).noted.saved (cabinet u k).table.cabinets)
        (λ _. subst Puts (sym (view_forget _)) (normal_puts u fit k k_saves.0 k_saves.2 told_states told_sides lines _))
        (λ _. report_puts u fit k k_saves.0 k_saves.2 told_states told_sides lines)

  -- the report on a goes to its coordinator
  module _ (a : ℕ) (la : a < 8) (fine : restored_refusal g a ≡ 0) where
    abbrev chief : ℕ
    chief = coordinator (cabinet g a)

    abbrev r0 : Group
    r0 = report_restored g a chief

    abbrev r : Group
    r = come_back_if_away r0 a

    chief_restores : in_restoring (state_of g chief) ≡ true
    chief_restores =
        let e = (passed (may_report (cabinet g a) (cabinet g chief) a) 18 0 (passed (is_in (state_of g a) Recovered) 13 _ fine).1).0 in
        (and_true {s = covers (cabinet g a).noted.heard (in_use (cabinet g a))} (and_true {s = not (marked (cabinet g chief).noted.restored a)} e).1).1

    chief_works : works (state_of g chief) ≡ true
    chief_works = (restoring_works (state_of g chief) chief_restores).4

    noted : view r0 ≡ v_restored v chief a
    unfolding report_restored
    noted = sim_restored g w chief a (works_below total g γ w i chief chief_works) la

    fit0 : Fit r0
    unfolding report_restored
    fit0 = with_cabinet_lem Shaped Lined Pictured shaped g chief _ (shaped.restored_for (cabinet g chief) a (w.cabs chief)) w

    fit : Fit r
    fit = ok_come_back_if_away Shaped Lined Pictured shaped r0 a fit0

    back : Homed (view r0) (view r)
    back = back_homed r0 fit0 a

    pub restored_puts : Puts (view (end_if_all r chief))
    unfolding end_if_all end_recovery
    restored_puts =
        let away = (restoring_works (state_of g chief) chief_restores).3 in
        let states : (c : ℕ) → ((view r).own c).state ≡ (v.own c).state = λ c. back.states c ∙ ap (λ (x : View). (x.own c).state) noted ∙ kept_at (λ (x : Own). x.state) v.own chief (v.own chief) refl c in
        let sides : (d : ℕ) → used ((view r).side chief d) ≡ used (v.side chief d) = λ d. back.uses chief d ∙ ap (λ (x : View). used (x.side chief d)) noted ∙ kept_pair used v.side chief a _ refl chief d in
        let lines : (c d : ℕ) → (view r).lines c d ≡ v.lines c d = λ c d. back.lines c d ∙ ap (λ (x : View). x.lines c d) noted in
        let n = sim_note r fit chief in
        cond_elim (λ (x : Group). Puts (view x)) (is_in (state_of r chief) Recovered && covers (cabinet r chief).noted.restored (cabinet r chief).table.cabinets)
        (λ _. subst Puts (sym (view_over _)) (normal_puts (note_lost r chief) (ok_note_lost Shaped Lined Pictured shaped r chief fit) chief chief_works away
        (λ c. ap (λ (o : Own). o.state) (n.own c).1 ∙ states c) (λ d. ap used (n.sides chief d) ∙ sides d)
        (λ c d. ap (λ (f : ℕ → ℕ → List Packet). f c d) n.lines ∙ lines c d) _))
        (λ _. report_puts r fit chief chief_works away states sides lines)

  -- the report on a goes to the coordinator that its table names now, which is in error: with the last mark it goes on
  module _ (a : ℕ) (la : a < 8) (fine : unsure_refusal g a ≡ 0) where
    abbrev decider : ℕ
    decider = coordinator (cabinet g a)

    abbrev t : Group
    t = report_unsure g a decider

    errs : state_of g decider ≡ Error
    errs =
        let e = (passed (takes_unsure (cabinet g decider) a) 18 0 (passed (is_unsure (cabinet g a) && (cabinet g a).noted.former) 13 _ fine).1).0 in
        (in_state (state_of g decider) Error).0 (and_true {s = not (marked (cabinet g decider).noted.unsure a)} e).1

    errs_works : works (state_of g decider) ≡ true
    errs_works = ap works errs

    errs_below : decider < 8
    errs_below = works_below total g γ w i decider errs_works

    reported : view t ≡ v_unsure v decider a
    unfolding report_unsure
    reported = sim_unsure g w decider a errs_below la

    fits : Fit t
    unfolding report_unsure
    fits = with_cabinet_lem Shaped Lined Pictured shaped g decider _ (shaped.unsure_for (cabinet g decider) a (w.cabs decider)) w

    pub unsure_puts : Puts (view (decide_if_all t decider))
    unfolding decide_if_all
    unsure_puts =
        let states : (c : ℕ) → ((view t).own c).state ≡ (v.own c).state = λ c. ap (λ (x : View). (x.own c).state) reported ∙ kept_at (λ (x : Own). x.state) v.own decider (v.own decider) refl c in
        let sides : (d : ℕ) → used ((view t).side decider d) ≡ used (v.side decider d) = λ d. ap (λ (x : View). used (x.side decider d)) reported ∙ kept_pair used v.side decider a _ refl decider d in
        let lines : (c d : ℕ) → (view t).lines c d ≡ v.lines c d = λ c d. ap (λ (x : View). x.lines c d) reported in
        cond_elim (λ (x : Group). Puts (view x)) (covers (cabinet t decider).noted.unsure (cabinet t decider).table.cabinets)
        (λ _. subst Puts (sym (view_settle _ decider Decided)) (puts_recover v.lines (λ c d. false) v t fits states lines decider errs_below
        (λ d e. rw (lines decider d) (works_room total g γ w i decider errs_works d (sym (sides d) ∙ e))) _ errs))
        (λ _. still v.lines (λ c d. false) v (view t) states lines)
