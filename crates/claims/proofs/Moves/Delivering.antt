-- Kind 4, deliver, whole: whatever packet comes and whatever state its receiver is in, short of a crash, the step keeps what it owes.
use Prim.Native.Nat.{ℕ, ◌<◌}
use mathlib.Core.Path.{◌≡◌, refl, sym, ap, ◌∙◌, subst}
use mathlib.Core.Logic.{◌≢◌, ⊎_elim}
use mathlib.Core.Bool.{Bool, true, false, cond, not, ◌&&◌, ◌||◌, false≢true, true≢false}
use mathlib.Core.List.{List, [], ◌∷◌, nil≢cons}
use lib.ListN.{get_or}
use native.Mathlib.Omega.{arith}
use Rattle.marks.specs.Marks.{marked}
use Rattle.marks.specs.Reach.{struck, connected}
use Rattle.outlet.specs.declared.Party.{Party}
use Rattle.packet.specs.declared.Payload.{Payload}
use Rattle.packet.specs.declared.Check.{Check}
use Rattle.packet.specs.declared.Place.{Place}
use Rattle.packet.specs.declared.Packet.{Packet}
use Rattle.packet.specs.declared.Packet.TheVariants.{Empty, Normal as NormalPacket, Checkp, Resume, Recover, Fault, Invalid}
use Rattle.packet.specs.Packet.{is_empty, is_normal, fits, same_check, start_check}
use Rattle.line.specs.Line.{oldest, rest}
use Rattle.state.specs.declared.State.{State}
use Rattle.state.specs.declared.State.TheVariants.{Normal, CheckpBegin, Checkpointed, Recovered}
use Rattle.cabinet.specs.declared.Cabinet.{Cabinet}
use Rattle.state.specs.State.{is_in, works, in_saving}
use Rattle.cabinet.specs.Cabinet.{in_use, taking}
use Rattle.group.specs.declared.Group.{Group}
use Rattle.group.specs.declared.Outcome.{Outcome}
use Rattle.group.specs.Group.{cabinet, with_cabinet, state_of, line, rows_of, working, taken}
use Rattle.protocol.specs.Moves.{find_link_fault, take_checkp, adopt, end_recovery}
use Rattle.protocol.specs.Receive.{serving, takes_from, takes, join_if, resumes_from, receive, receive_normal, receive_checkp, receive_resume, receive_recover, receive_fault, receive_invalid}
use Rattle.protocol.specs.Kinds.{delivered}
use Rattle.protocol.specs.History.{History, logged, with_taken, goes, note_taken, note_known, note_cuts}
use Rattle.claims.proofs.State.Fun.{never, is_true, is_false, and_true, and_intro, cond_elim, and_off, or_split}
use Rattle.claims.proofs.State.View.{view, used, content}
use Rattle.claims.proofs.State.Sim.{Fit, in_use_lem}
use Rattle.claims.proofs.State.Methods.{hits_link}
use Rattle.claims.proofs.State.ViewMoves.{sim_off}
use Rattle.claims.proofs.Answers.Tests.{in_state, same_check_lem}
use Rattle.claims.proofs.Invariant.States.{serving_calm, not_both, apart, opens_serve}
use Rattle.claims.proofs.Invariant.Facts.{Ghost, aware, unaware, linked, behind, resume_first, count, is_fault, is_invalid}
use Rattle.claims.proofs.Invariant.Whole.{Inv}
use Rattle.claims.proofs.Invariant.Past.{Past, Kept}
use Rattle.claims.proofs.Invariant.Words.{un_of, un_or_aware, live_line, linked_back, used_linked}
use Rattle.claims.proofs.Moves.Dropping.{keeps_drop}
use Rattle.claims.proofs.Moves.Taking.{no_stray, keeps_take}
use Rattle.claims.proofs.Moves.Beginning.{keeps_checkp}
use Rattle.claims.proofs.Moves.Adopting.{keeps_adopt, adopt_goes}
use Rattle.claims.proofs.Moves.Hearing.{off}
use Rattle.claims.proofs.Moves.Heeding.{off_cabinet, keeps_receive_fault, keeps_receive_recover, taken_none, taken_unfit, known_none}
use Rattle.claims.proofs.Moves.LinkFault.{keeps_link_fault, fault_state, invalid_upset, unfit_upset, unequal_upset}
use Rattle.claims.proofs.Moves.Resuming.{keeps_resume, resume_goes, keeps_resume_dropped}

-- ---- states

takes_open : (c : Cabinet) (a : ℕ) → takes_from c a ≡ true → is_in c.phase.state Checkpointed ≡ false
takes_open c a e = apart (λ s. is_in s Normal || (is_in s CheckpBegin && not (marked c.noted.come a))) c.phase.state Checkpointed e refl

-- a cabinet that does not serve takes no packet
idle_takes : (c : Cabinet) (a : ℕ) → serving c.phase.state ≡ false → takes_from c a ≡ false
idle_takes c a = go (is_in c.phase.state Normal) (is_in c.phase.state CheckpBegin) (in_saving c.phase.state) (not (marked c.noted.come a))
  where
    go : (n b s t : Bool) → (n || (b || s)) ≡ false → (n || (b && t)) ≡ false
    go true b s t e = e
    go false true s t e = absurd (true≢false e)
    go false false s t e = refl

not_first : (v : Check) (l : List Packet) → resume_first (Checkp v ∷ l) ≡ true → ⊥
unfolding resume_first
not_first v l e = false≢true e

some_invalid : (l : List Packet) → count is_invalid (Invalid ∷ l) ≡ 0 → ⊥
unfolding count
some_invalid l e = omega arith

module _ (total : Party → ℕ) (g : Group) (h : History) (γ : Ghost) (w : Fit g) (i : Inv g.n total (view g) γ) (past : Past g.n (view g) γ h)
    (a b : ℕ) (la : a < 8) (lb : b < 8) (full : is_empty (oldest (line g a b)) ≡ false) where
  abbrev p : Packet
  p = oldest (line g a b)

  abbrev left : List Packet
  left = content (rest (line g a b)).cells

  here : (view g).lines a b ≡ p ∷ left
  here = sim_off g a b full

  live : (works (state_of g a) ≡ true) × (works (state_of g b) ≡ true) × (used ((view g).side a b) ≡ true)
  live = live_line (i.core.pairs a b) (λ e. nil≢cons (sym e ∙ here))

  -- a line to oneself holds nothing
  pub other : a ≢ b
  other e = ⊎_elim calm knows (un_or_aware γ.big ((view g).own a) live.0)
    where
      link : ((view g).side a b).link ≡ true
      link = (and_true {s = ((view g).side a b).link} live.2).0

      none : (γ.wire a b).lk ≡ false
      none = ap (λ (x : ℕ). (γ.wire a x).lk) (sym e) ∙ i.core.ground.link_other a

      calm : unaware γ.big ((view g).own a) ≡ true → ⊥
      calm u = never link (((i.core.pairs a b).table u).1 ∙ none)

      knows : aware γ.big ((view g).own a) ≡ true → ⊥
      knows u =
          let q = (i.core.nodes a).place_known u in
          never link (((i.core.pairs a b).struck u q.0 q.1).1 ∙ ap (λ (t : Bool). t && not (hits_link q.0 a b)) none)

  -- what a deliver owes: the history notes what was added, and a resume taken in checkpointed
  abbrev taking_it : Bool
  taking_it = marked (in_use (cabinet g b)) a && takes_from (cabinet g b) a

  abbrev noted : Group → History
  noted g' = note_known (goes g g' b Checkpointed Normal) (note_taken taking_it h a b p)

  abbrev Owed : Outcome → Type 0
  Owed o = o.answer ≡ 0 → Kept total g γ o.group (note_cuts (noted o.group) g o.group)

  -- where there is nothing to note
  unnoted : (g' : Group) → note_taken taking_it h a b p ≡ h → goes g g' b Checkpointed Normal ≡ false → Kept total g γ g' (note_cuts h g g')
      → Kept total g γ g' (note_cuts (noted g') g g')
  unnoted g' e f k =
      subst (λ (x : History). Kept total g γ g' (note_cuts x g g')) (sym (known_none (goes g g' b Checkpointed Normal) (note_taken taking_it h a b p) f ∙ e)) k

  none_taken : is_normal p ≡ false → note_taken taking_it h a b p ≡ h
  none_taken e = taken_none taking_it h a b p e

  state_off : state_of (off g a b) b ≡ state_of g b
  state_off = ap (λ (c : Cabinet). c.phase.state) (off_cabinet g a b b)

  off_goes : goes g (off g a b) b Checkpointed Normal ≡ false
  off_goes = ap (λ (s : State). is_in (state_of g b) Checkpointed && is_in s Normal) state_off ∙ not_both (state_of g b) Checkpointed Normal refl

  -- ---- over a line that is not in use at b

  unused_drop : marked (in_use (cabinet g b)) a ≡ false → Owed (taken (off g a b))
  unused_drop e _ =
      unnoted (off g a b) (ap (λ (t : Bool). note_taken (t && takes_from (cabinet g b) a) h a b p) e) off_goes
      (keeps_drop total g h γ w i past a b la lb full
      (λ n u k. never (back u k) unused) (λ r u k. absurd (never (back (and_true {s = unaware γ.big ((view g).own b)} r).0 k) unused))
      (λ f u. absurd (never (and_true {s = used ((view g).side a b)} u).1 unused)))
    where
      unused : used ((view g).side b a) ≡ false
      unused = sym (in_use_lem (cabinet g b) (w.cabs b) a) ∙ e

      back : unaware γ.big ((view g).own b) ≡ true → linked (γ.mind a) (γ.mind b) (γ.wire a b) ≡ true → used ((view g).side b a) ≡ true
      back u k = used_linked (i.core.pairs b a) u (linked_back g.n (view g) γ i.core.ground a b k)

  -- ---- over a line in use

  serves_un : serving (state_of g b) ≡ true → unaware γ.big ((view g).own b) ≡ true
  serves_un e = let c = serving_calm (state_of g b) e in un_of γ.big ((view g).own b) c.0 c.1

  module _ (uses : marked (in_use (cabinet g b)) a ≡ true) where
    serving_off : serving (state_of (off g a b) b) ≡ serving (state_of g b)
    serving_off = ap serving state_off

    -- ---- a link fault

    link_owed : (sv : serving (state_of g b) ≡ true) → note_taken taking_it h a b p ≡ h
        → (serving (state_of g b) ≡ true → γ.big.calm ≡ true → ⊥) → Owed (find_link_fault g (off g a b) a b)
    unfolding find_link_fault
    link_owed sv e upset =
        cond_elim Owed (connected (struck (rows_of (off g a b).sound) a b) (working (off g a b)))
        (λ c _. let k = keeps_link_fault total g h γ w i past a b la lb other full uses sv (upset sv) c in
        unnoted _ e (and_off (is_in (state_of g b) Checkpointed) _ (fault_state total g h γ w i past a b la lb other full uses sv)) k)
        (λ c f. absurd (omega arith))

    -- none but one that does not fit is a link fault
    not_linked_fault : (q : Payload) → p ≡ NormalPacket q → takes_from (cabinet g b) a ≡ false → unaware γ.big ((view g).own b) ≡ true → ⊥
    not_linked_fault q e f u = no_stray total g γ i a b la q e u f

    normal_owed : (q : Payload) → p ≡ NormalPacket q → Owed (receive_normal g (off g a b) a b q)
    unfolding receive_normal
    normal_owed q e =
        cond_elim Owed (takes (cabinet (off g a b) b) a q)
        (λ t _. let y = and_true {s = takes_from (cabinet g b) a} (ap (λ (c : Cabinet). takes c a q) (sym (off_cabinet g a b b)) ∙ t) in took y.0 y.1)
        (λ f. cond_elim Owed (serving (state_of (off g a b) b))
        (λ s. hurt_one (sym serving_off ∙ s) (ap (λ (c : Cabinet). takes c a q) (sym (off_cabinet g a b b)) ∙ f))
        (λ s _. dropped (idle_takes (cabinet g b) a (sym serving_off ∙ s))))
      where
        added : Group
        added = with_cabinet (off g a b) b (taking (cabinet (off g a b) b) a q)

        took : takes_from (cabinet g b) a ≡ true → fits q ≡ true → Kept total g γ added (note_cuts (noted added) g added)
        took t y =
            subst (λ (x : History). Kept total g γ added (note_cuts x g added))
            (sym (known_none (goes g added b Checkpointed Normal) (note_taken taking_it h a b p) (ap (λ (u : Bool). u && is_in (state_of added b) Normal) (takes_open (cabinet g b) a t))
            ∙ ap (λ (u : Bool). note_taken u h a b p) (and_intro uses t) ∙ ap (note_taken true h a b) e ∙ ap (λ (u : Bool). cond u (with_taken h (logged h.taken a b q)) h) y))
            (keeps_take total g γ i a b la q e h w past lb t y)

        -- a cabinet that serves takes every packet that fits
        hurt_one : serving (state_of g b) ≡ true → takes (cabinet g b) a q ≡ false → Owed (find_link_fault g (off g a b) a b)
        hurt_one sv f =
            let in-time : takes_from (cabinet g b) a ≡ true = is_true (takes_from (cabinet g b) a) (λ out. not_linked_fault q e out (serves_un sv)) in
            let bad : fits q ≡ false = is_false (fits q) (λ y. never (and_intro in-time y) f) in
            link_owed sv (ap (note_taken taking_it h a b) e ∙ taken_unfit taking_it h a b q bad) (λ s. unfit_upset total g h γ w i past a b la lb other full uses s q e bad)

        dropped : takes_from (cabinet g b) a ≡ false → Kept total g γ (off g a b) (note_cuts (noted (off g a b)) g (off g a b))
        dropped out =
            unnoted (off g a b) (ap (λ (t : Bool). note_taken (marked (in_use (cabinet g b)) a && t) h a b p) out ∙ ap (λ (t : Bool). note_taken (t && false) h a b p) uses) off_goes
            (keeps_drop total g h γ w i past a b la lb full
            (λ n u k. not_linked_fault q e out u) (λ r u k. absurd (not_linked_fault q e out (and_true {s = unaware γ.big ((view g).own b)} r).0))
            (λ x u. absurd (never x (ap is_fault e))))

    -- ---- a checkp

    -- a checkp that is dropped comes to a cabinet that does not wait for a resume
    checkp_drop : (v : Check) → p ≡ Checkp v → Kept total g γ (off g a b) (note_cuts h g (off g a b))
    checkp_drop v e =
        keeps_drop total g h γ w i past a b la lb full (λ n u k. never n (ap is_normal e)) (λ r u k. absurd (no_resume r u k)) (λ x u. absurd (never x (ap is_fault e)))
      where
        line_is : (view g).lines a b ≡ Checkp v ∷ left
        line_is = here ∙ ap (λ (x : Packet). x ∷ left) e

        no_resume : behind γ.big ((view g).own b) (γ.mind b) ≡ true → unaware γ.big ((view g).own a) ≡ true → linked (γ.mind a) (γ.mind b) (γ.wire a b) ≡ true → ⊥
        no_resume r u k = go (behind γ.big ((view g).own a) (γ.mind a)) refl
          where
            go : (t : Bool) → behind γ.big ((view g).own a) (γ.mind a) ≡ t → ⊥
            go true f = ⊎_elim (λ x. nil≢cons (sym x ∙ line_is)) (λ x. not_recover x.0 (sym line_is ∙ x.2)) ((i.core.pairs a b).behind_empty f)
              where
                not_recover : (y : Bool) → Checkp v ∷ left ≡ Recover y ∷ [] → ⊥
                not_recover y q = let z : ◌≡◌ {A = ℕ} 0 1 = cc in omega arith
            go false f = not_first v left (subst (λ (l : List Packet). resume_first l ≡ true) line_is ((i.core.pairs a b).resumed k u f r))

    checkp_owed : (v : Check) → p ≡ Checkp v → Owed (receive_checkp g (off g a b) a b v)
    unfolding receive_checkp
    checkp_owed v e =
        cond_elim Owed (is_in (state_of (off g a b) b) Normal || is_in (state_of (off g a b) b) CheckpBegin)
        (λ s. cond_elim Owed (same_check v (get_or (cabinet (off g a b) b).registers.taken a start_check))
        (λ t _. unnoted (take_checkp (join_if (is_in (state_of (off g a b) b) Normal) (off g a b) b) a b) (none_taken (ap is_normal e)) (open_goes (ap open_one (sym state_off) ∙ s) _)
        (keeps_checkp total g h γ w i past a b la lb v e s t))
        (λ f. unequal s f))
        (λ s _. unnoted (off g a b) (none_taken (ap is_normal e)) off_goes (checkp_drop v e))
      where
        open_one : State → Bool
        open_one s = is_in s Normal || is_in s CheckpBegin

        open_goes : open_one (state_of g b) ≡ true → (x : Bool) → (is_in (state_of g b) Checkpointed && x) ≡ false
        open_goes s x = ap (λ (t : Bool). t && x) (apart (λ x. is_in x Normal || is_in x CheckpBegin) (state_of g b) Checkpointed s refl)

        unequal : open_one (state_of (off g a b) b) ≡ true → same_check v (get_or (cabinet (off g a b) b).registers.taken a start_check) ≡ false → Owed (find_link_fault g (off g a b) a b)
        unequal s f = link_owed (opens_serve (state_of g b) (ap open_one (sym state_off) ∙ s)) (none_taken (ap is_normal e))
            (λ sv. unequal_upset total g h γ w i past a b la lb other full uses sv v e (λ q. never ((same_check_lem v _).1 (q ∙ ap (λ (c : Cabinet). get_or c.registers.taken a start_check) (sym (off_cabinet g a b b)))) f))

    -- ---- a resume

    resume_owed : p ≡ Resume → Owed (receive_resume (off g a b) a b)
    unfolding receive_resume
    resume_owed e =
        cond_elim Owed (is_in (state_of (off g a b) b) Checkpointed) (λ s _. adopted_it ((in_state (state_of g b) Checkpointed).0 (ap (λ (x : State). is_in x Checkpointed) (sym state_off) ∙ s)))
        (λ s. let apart = ap (λ (x : State). is_in x Checkpointed) (sym state_off) ∙ s in
        cond_elim Owed (resumes_from (cabinet (off g a b) b) a b)
        (λ r _. let r' = ap (λ (c : Cabinet). resumes_from c a b) (sym (off_cabinet g a b b)) ∙ r in
        unnoted (end_recovery (off g a b) b) (none_taken (ap is_normal e)) (resume_goes total g h γ w i past a b la lb e live.1 r') (keeps_resume total g h γ w i past a b la lb e live.1 r'))
        (λ r _. unnoted (off g a b) (none_taken (ap is_normal e)) off_goes
        (keeps_resume_dropped total g h γ w i past a b la lb e live.1 apart (ap (λ (c : Cabinet). resumes_from c a b) (sym (off_cabinet g a b b)) ∙ r))))
      where
        adopted_it : state_of g b ≡ Checkpointed → Kept total g γ (adopt (off g a b) a b) (note_cuts (noted (adopt (off g a b) a b)) g (adopt (off g a b) a b))
        adopted_it s =
            subst (λ (x : History). Kept total g γ (adopt (off g a b) a b) (note_cuts x g (adopt (off g a b) a b)))
            (sym (ap (λ (t : Bool). note_known t (note_taken taking_it h a b p)) (adopt_goes total g h γ w i past a b la lb e s) ∙ ap (note_known true) (none_taken (ap is_normal e))))
            (keeps_adopt total g h γ w i past a b la lb e s)

    -- ---- an invalid packet

    invalid_drop : p ≡ Invalid → serving (state_of g b) ≡ false → Kept total g γ (off g a b) (note_cuts h g (off g a b))
    unfolding count
    invalid_drop e s =
        keeps_drop total g h γ w i past a b la lb full (λ n u k. never n (ap is_normal e)) (λ r u k. absurd (not_waiting r)) (λ x u. absurd (never x (ap is_fault e)))
      where
        none_hurt : γ.big.calm ≡ true → ⊥
        none_hurt c = some_invalid left (subst (λ (l : List Packet). count is_invalid l ≡ 0) (here ∙ ap (λ (x : Packet). x ∷ left) e) ((i.core.pairs a b).sound c))

        saved_serves : (t : Bool) → is_in (state_of g b) Checkpointed ≡ t → t ≡ true → ⊥
        saved_serves t f q = never (ap serving ((in_state (state_of g b) Checkpointed).0 (f ∙ q))) s

        not_waiting : behind γ.big ((view g).own b) (γ.mind b) ≡ true → ⊥
        not_waiting r =
            let u = and_true {s = unaware γ.big ((view g).own b)} r in
            ⊎_elim (λ f. saved_serves (is_in (state_of g b) Checkpointed) refl (and_true {s = is_in (state_of g b) Checkpointed} f).0)
            (λ f. none_hurt ((i.core.nodes b).in_recovered u.0 ((in_state (state_of g b) Recovered).0 f)).2) (or_split (is_in (state_of g b) Checkpointed && not (γ.mind b).joined) (is_in (state_of g b) Recovered) u.1)

    invalid_owed : p ≡ Invalid → Owed (receive_invalid g (off g a b) a b)
    unfolding receive_invalid
    invalid_owed e =
        cond_elim Owed (serving (state_of (off g a b) b))
        (λ s. link_owed (sym serving_off ∙ s) (none_taken (ap is_normal e)) (λ sv. invalid_upset total g h γ w i past a b la lb other full uses sv e))
        (λ s _. unnoted (off g a b) (none_taken (ap is_normal e)) off_goes (invalid_drop e (sym serving_off ∙ s)))

    -- ---- whatever it is

    fault_owed : (q : Place) → p ≡ Fault q → Owed (receive_fault g (off g a b) a b q)
    fault_owed q e f =
        let k = keeps_receive_fault total g h γ w i past a b la lb other q e f in
        unnoted _ (none_taken (ap is_normal e)) k.1 k.0

    recover_owed : (x : Bool) → p ≡ Recover x → Owed (receive_recover (off g a b) a b x)
    recover_owed x e f =
        let k = keeps_receive_recover total g h γ w i past a b la lb other x e f in
        unnoted _ (none_taken (ap is_normal e)) k.1 k.0

    received : (q : Packet) → p ≡ q → Owed (receive g (off g a b) a b q)
    received Empty e = absurd (never (ap is_empty e) full)
    received (NormalPacket q) e = normal_owed q e
    received (Checkp v) e = checkp_owed v e
    received Resume e = resume_owed e
    received (Recover x) e = recover_owed x e
    received (Fault q) e = fault_owed q e
    received Invalid e = invalid_owed e

  pub keeps_delivered : Owed (delivered g a b)
  unfolding delivered
  keeps_delivered =
      cond_elim Owed (marked (in_use (cabinet g b)) a) (λ u. received u p refl) unused_drop
