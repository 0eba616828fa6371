-- Each move puts on the lines what a line without bounds would hold, where these have room. `u` is the group once a packet is taken
-- off or a report is made, `v` the view before the step.
use Rattle.std.specs.Prelude.{None, Some}
use Prim.Native.Nat.{ℕ, ◌<◌}
use mathlib.Core.Path.{◌≡◌, refl, sym, ◌∙◌, subst}
use mathlib.Core.Logic.{inl, inr}
use mathlib.Core.Bool.{Bool, true, false, cond, not, ◌&&◌}
use mathlib.Core.List.{List, [], ◌∷◌, ◌++◌, append-nil}
use lib.Dec.{eqb}
use Rattle.marks.specs.Marks.{covers}
use Rattle.packet.specs.declared.Check.{Check}
use Rattle.packet.specs.declared.Packet.{Packet}
use Rattle.packet.specs.declared.Packet.TheVariants.{Checkp, Resume, Recover, Fault}
use Rattle.packet.specs.declared.Place.{Place}
use Rattle.packet.specs.declared.Place.TheVariants.{Tripped as AtTripped}
use Rattle.packet.specs.Packet.{same_place}
use Rattle.state.specs.declared.State.{State}
use Rattle.state.specs.declared.State.TheVariants.{Normal, CheckpBegin, Checkpointing, Checkpointed, Error}
use Rattle.state.specs.declared.Version.{Version}
use Rattle.state.specs.declared.Version.TheVariants.{Known, Unknown, Lost}
use Rattle.cabinet.specs.Alarm.{Alarm}
use Rattle.cabinet.specs.declared.Cabinet.{Cabinet}
use Rattle.state.specs.State.{is_in, works}
use Rattle.cabinet.specs.Cabinet.{in_use, with_state, comparing}
use Rattle.group.specs.declared.Group.{Group}
use Rattle.group.specs.Group.{cabinet, with_cabinet}
use Rattle.protocol.specs.History.{upd}
use Rattle.protocol.specs.Moves.{join, cut_if_all, resume_with, adopt, recover_with, enter_error, hear}
use Rattle.protocol.specs.Receive.{serving}
use Rattle.claims.proofs.State.Fun.{and-false, and_off, and_same, cond_elim, kept_at, kept_pair, upd_same, upd_id, upd_case}
use Rattle.claims.proofs.State.View.{View, Own, Side, used, own_in, side_of, view, set_cabinet}
use Rattle.claims.proofs.State.Sim.{Fit, view_cabinet}
use Rattle.claims.proofs.State.Methods.{s_begun, s_cleared}
use Rattle.claims.proofs.State.ViewMoves.{Room, v_put, o_phase, o_bare, lead_after, sim_join, sim_resume, sim_recover, v_hear, v_compare, sim_hear, sim_compare}
use Rattle.claims.proofs.Invariant.States.{serving_calm}
use Rattle.claims.proofs.Invariant.Logs.{resumed_by}
use Rattle.claims.proofs.Moves.Adopting.{others, sim_adopt}
use Rattle.claims.proofs.Moves.Resuming.{all_used, view_woken, room_resumed}
use Rattle.claims.proofs.Moves.Rousing.{o_resumed}
use Rattle.claims.proofs.Moves.Waking.{woken}
use Rattle.claims.proofs.Moves.ErrorSeen.{erred_state, erred_rest, erred_line, o_erred, s_erred, o_goes, goes_line, error_seen, sim_error, erred_works, erred_recovers, recover_seen}
use Rattle.claims.proofs.Fifo.Unbounded.{enters, put_on, Unbounded, Cut, Alike, moves, quiet}

-- ---- what is put, state by state

put_last : (u : Bool) (l : List Packet) (p : Packet) → cond u (l ++ (p ∷ [])) l ≡ l ++ cond u (p ∷ []) []
put_last true l p = refl
put_last false l p = sym (append-nil l)

put_resume : (s : State) (x : Version) (q : Alarm) (k : Check) (back : Bool) → is_in s Normal ≡ false
    → put_on s Normal x q k back ≡ cond (is_in s Checkpointed && back) [] (Resume ∷ [])
put_resume s x q k back e = rw e

woke : (u c : Bool) (l : List Packet) → resumed_by (u && not c) l ≡ l ++ cond u (cond c [] (Resume ∷ [])) []
woke true true l = sym (append-nil l)
woke true false l = refl
woke false c l = sym (append-nil l)

pub put_error : (s : State) (x : Version) (q : Place) (k : Check) (back : Bool) → serving s ≡ true → put_on s (erred_state x) x (Some q) k back ≡ Fault q ∷ erred_rest x
put_error s (Known x) q k back e = rw (and-false (is_in s Normal), and-false (not (is_in s Normal)), e)
put_error s (Unknown x) q k back e = rw (and-false (is_in s Normal), and-false (not (is_in s Normal)), e)
put_error s Lost q k back e = rw (and-false (is_in s Normal), and-false (not (is_in s Normal)), e)

pub enters_error : (s : State) (x : Version) → serving s ≡ true → enters s (erred_state x) ≡ true
enters_error s x e = rw (e, erred_recovers x)

module _ (base : ℕ → ℕ → List Packet) (back : ℕ → ℕ → Bool) (v : View) where
  abbrev pub Ends : View → Type 0
  Ends w = Unbounded base back v w

  module _ (u : Group) (fit : Fit u) (states : (c : ℕ) → ((view u).own c).state ≡ (v.own c).state) (lines : (a b : ℕ) → (view u).lines a b ≡ base a b)
      (i : ℕ) (l : i < 8) where
    pub puts_join : Room (view u) i → ((b : ℕ) → ((view u).side i b).put ≡ (v.side i b).put) → (v.own i).state ≡ Normal → Ends (view (join u i))
    puts_join room registers normal =
        subst Ends (sym (sim_join u fit i l room))
        (moves base back v (view u) states lines i (o_bare (o_phase ((view u).own i) CheckpBegin ((view u).own i).version ((view u).own i).alarm))
        (λ b. s_begun ((view u).side i b)) (v_put (view u) i (λ b. Checkp ((view u).side i b).put)) (view u).slots (rw normal) (rw normal)
        (λ b. rw (normal, registers b) (put_last (used ((view u).side i b)) ((view u).lines i b) (Checkp (v.side i b).put))))

    puts_woken : (x : Version) (r : ℕ → Bool) → works (v.own i).state ≡ true → is_in (v.own i).state Normal ≡ false
        → ((b : ℕ) → r b ≡ (used ((view u).side i b) && not (is_in (v.own i).state Checkpointed && back i b))) → Ends (woken (view u) i x r)
    puts_woken x r up away chosen =
        let s = (v.own i).state in
        moves base back v (view u) states lines i (o_resumed ((view u).own i) x) (λ b. s_cleared ((view u).side i b)) (λ b. resumed_by (r b) ((view u).lines i b))
        (view u).slots (sym up) (and-false (enters s Normal))
        (λ b. rw (chosen b, put_resume s x None (v.side i b).put (back i b) away, and-false (serving s))
        (woke (used ((view u).side i b)) (is_in s Checkpointed && back i b) ((view u).lines i b)))

    pub puts_resume : Room (view u) i → (x : Version) → works (v.own i).state ≡ true → is_in (v.own i).state Normal ≡ false
        → ((b : ℕ) → (is_in (v.own i).state Checkpointed && back i b) ≡ false) → Ends (view (resume_with u i x))
    puts_resume room x up away all =
        subst Ends (sym (sim_resume u fit i x l (room_resumed (view u) i x room) ∙ view_woken (view u) i x))
        (puts_woken x (all_used (view u) i) up away (λ b. rw (all b) (sym (and_same (used ((view u).side i b))))))

    pub puts_adopt : Room (view u) i → (a : ℕ) → (v.own i).state ≡ Checkpointed → ((b : ℕ) → back i b ≡ eqb b a) → Ends (view (adopt u a i))
    puts_adopt room a saved toldBy =
        subst Ends (sym (sim_adopt u fit a i l room))
        (puts_woken _ (others (view u) a i) (rw saved) (rw saved) (λ b. rw (saved, toldBy b)))

    -- going on with a version
    pub puts_recover : Room (view u) i → (x : Bool) → (v.own i).state ≡ Error → Ends (view (recover_with u i x))
    puts_recover room x error =
        subst Ends (sym (sim_recover u fit i x l (λ b e. room b (plain b e)) ∙ recover_seen (view u) i x))
        (moves base back v (view u) states lines i (o_goes ((view u).own i) x) ((view u).side i) (λ b. goes_line x ((view u).lines i b) (used ((view u).side i b)))
        (view u).slots (rw error) (rw error) (λ b. rw error (put_last (used ((view u).side i b)) ((view u).lines i b) (Recover x))))
      where
        plain : (b : ℕ) → used (upd (view u).side i ((view u).side i) i b) ≡ true → used ((view u).side i b) ≡ true
        plain b e = subst (λ (s : ℕ → Side). used (s b) ≡ true) (upd_same (view u).side i ((view u).side i)) e

    -- entering error for another place than its own trip
    pub puts_error : (q : Place) → same_place q (AtTripped i) ≡ false → serving (v.own i).state ≡ true → Ends (view (enter_error u i q))
    puts_error q other serves =
        subst Ends (sym (sim_error u fit i q l ∙ error_seen (view u) i q))
        (moves base back v (view u) states lines i (o_erred ((view u).own i) q (lead_after (view u) i q)) (s_erred (view u) i q)
        (λ b. erred_line ((view u).own i).version q (used (s_erred (view u) i q b))) (view u).slots
        (erred_works ((view u).own i).version ∙ sym (serving_calm (v.own i).state serves).0)
        (and_off (enters (v.own i).state (erred_state ((view u).own i).version)) (same_place q (AtTripped i)) other)
        (λ b. rw (put_error (v.own i).state ((view u).own i).version q (v.side i b).put (back i b) serves, enters_error (v.own i).state ((view u).own i).version serves)))

  -- ---- moves that put nothing more

  module _ (u : Group) (fit : Fit u) (before : Ends (view u)) (i : ℕ) (l : i < 8) where
    same_used : (a : ℕ) (s : Side) → used s ≡ used ((view u).side i a) → (c d : ℕ) → used (upd (view u).side i (upd ((view u).side i) a s) c d) ≡ used ((view u).side c d)
    same_used a s e = kept_pair used (view u).side i a s e

    same_own : (c : ℕ) → Alike ((view u).own c) (upd (view u).own i ((view u).own i) c)
    same_own c = rw (upd_id (view u).own i) (inl refl, refl, refl)

    pub puts_hear : (a : ℕ) → a < 8 → Ends (view (hear u a i))
    puts_hear a la =
        subst Ends (sym (sim_hear u fit a i la l)) (quiet base back v (view u) (v_hear (view u) a i) (λ c d. refl) (same_used a _ refl) same_own before)

    pub puts_compare : (a : ℕ) → a < 8 → Ends (view (with_cabinet u i (comparing (cabinet u i) a)))
    puts_compare a la =
        subst Ends (sym (sim_compare u fit a i la l)) (quiet base back v (view u) (v_compare (view u) a i) (λ c d. refl) (same_used a _ refl) same_own before)

    pub puts_cut : ((view u).own i).state ≡ CheckpBegin → Ends (view (cut_if_all u i))
    unfolding cut_if_all
    puts_cut begins =
        cond_elim (λ (c : Cabinet). Ends (view (with_cabinet u i c))) (covers (cabinet u i).noted.come (in_use (cabinet u i)))
        (λ _. cut (with_state (cabinet u i) Checkpointing) (inr (begins, refl)) refl refl (λ d. refl)) (λ _. cut (cabinet u i) (inl refl) refl refl (λ d. refl))
      where
        cut : (c : Cabinet) → Cut ((view u).own i).state c.phase.state → c.phase.version ≡ ((view u).own i).version → c.phase.alarm ≡ ((view u).own i).alarm
            → ((d : ℕ) → used (side_of c d) ≡ used ((view u).side i d)) → Ends (view (with_cabinet u i c))
        cut c s x q sides =
            subst Ends (sym (view_cabinet u fit.frame i c l))
            (quiet base back v (view u) (set_cabinet (view u) i (own_in u i c) (side_of c)) (λ a b. refl)
            (λ a b. kept_at (λ (f : ℕ → Side). used (f b)) (view u).side i (side_of c) (sides b) a)
            (upd_case (λ (j : ℕ) (o : Own). Alike ((view u).own j) o) (view u).own i (own_in u i c) (s, x, q) (λ j n. (inl refl, refl, refl))) before)
