-- Kind 4, deliver: the oldest packet is off its line, and the receiver puts what the rules say for that packet in its state.
use Prim.Native.Nat.{ℕ, ◌<◌}
use mathlib.Core.Path.{◌≡◌, refl, sym, ap, ◌∙◌, subst}
use mathlib.Core.Bool.{Bool, true, false, cond, ◌&&◌, ◌||◌}
use mathlib.Core.List.{List, ◌∷◌}
use lib.ListN.{get_or, drop}
use lib.Dec.{eqb, ltb}
use borrow.Author.Tests.{eq-eqb, ne_eqb}
use native.Mathlib.Omega.{arith}
use native.Mathlib.Decide.{ℕ_discrete}
use Rattle.marks.specs.Marks.{marked}
use Rattle.marks.specs.Reach.{Rows, struck, connected}
use Rattle.outlet.specs.declared.Party.{Party}
use Rattle.packet.specs.declared.Payload.{Payload}
use Rattle.packet.specs.declared.Check.{Check}
use Rattle.packet.specs.declared.Place.{Place}
use Rattle.packet.specs.declared.Place.TheVariants.{Tripped as AtTripped, Link as AtLink}
use Rattle.packet.specs.declared.Packet.{Packet}
use Rattle.packet.specs.declared.Packet.TheVariants.{Empty, Normal as NormalPacket, Checkp, Resume, Recover, Fault, Invalid}
use Rattle.packet.specs.Packet.{is_empty, same_check, same_place, start_check, link_place}
use Rattle.line.specs.Line.{oldest}
use Rattle.state.specs.declared.State.{State}
use Rattle.state.specs.declared.State.TheVariants.{Normal, CheckpBegin, Checkpointed, Error, Recovered}
use Rattle.cabinet.specs.Alarm.{is_for}
use Rattle.state.specs.State.{is_in, works, in_recovery}
use Rattle.cabinet.specs.Cabinet.{in_use, comparing}
use Rattle.group.specs.declared.Group.{Group}
use Rattle.group.specs.declared.Outcome.{Outcome}
use Rattle.group.specs.Group.{cabinet, with_cabinet, state_of, outgoing, line, rows_of, working, with_sound, taken}
use Rattle.protocol.specs.History.{History, upd}
use Rattle.protocol.specs.Moves.{join, take_checkp, enter_error, find_link_fault, end_recovery}
use Rattle.protocol.specs.Receive.{serving, takes, join_if, resumes_from, receive, receive_normal, receive_checkp, receive_resume, receive_recover, receive_fault, receive_invalid}
use Rattle.protocol.specs.Kinds.{delivered}
use Rattle.claims.proofs.State.Fun.{and_true, and_same, and-false, cond_elim, kept_at, upd_same, upd_other, pair_same, pair_other}
use Rattle.claims.proofs.State.Every.{with_cabinet_lem, ok_join, ok_enter_error}
use Rattle.claims.proofs.State.View.{View, Own, view, set_line}
use Rattle.claims.proofs.State.Shape.{Shaped, Lined, Pictured, shaped}
use Rattle.claims.proofs.State.Sim.{Fit}
use Rattle.claims.proofs.State.ViewMoves.{Room, v_take, sim_off, view_off, sim_take, sim_join, sim_compare}
use Rattle.claims.proofs.Answers.Tests.{in_state}
use Rattle.claims.proofs.Invariant.States.{opens_serve}
use Rattle.claims.proofs.Invariant.Facts.{Ghost, Pair}
use Rattle.claims.proofs.Invariant.Whole.{Inv}
use Rattle.claims.proofs.Invariant.Past.{Past}
use Rattle.claims.proofs.Moves.Hearing.{fault_aware, fault_place, off, left_of, off_fit, off_line}
use Rattle.claims.proofs.Moves.LinkFault.{fit_sound}
use Rattle.claims.proofs.Moves.Delivering.{other}
use Rattle.claims.proofs.Fifo.Unbounded.{Unbounded, still}
use Rattle.claims.proofs.Fifo.Rooms.{works_room, not_its_trip}
use Rattle.claims.proofs.Fifo.Puts.{puts_join, puts_resume, puts_adopt, puts_recover, puts_error, puts_hear, puts_compare, puts_cut}

-- one line changed by a function of what it holds
pub line_at : {A : Type 0} (f : ℕ → ℕ → A) (F : A → A) (a b c d : ℕ) → upd f a (upd (f a) b (F (f a b))) c d ≡ cond (eqb a c && eqb b d) (F (f c d)) (f c d)
line_at f F a b c d = elim (ℕ_discrete c a) [
  | yes e ↦ elim (ℕ_discrete d b) [
    | yes j ↦ rw (e, j, pair_same f a b (F (f a b)), eq-eqb a a refl, eq-eqb b b refl)
    | no j ↦ rw (pair_other f a b (F (f a b)) c d (λ x y. j y), ne_eqb b d (λ q. j (sym q)), and-false (eqb a c))
  ]
  | no n ↦ rw (pair_other f a b (F (f a b)) c d (λ x y. n x), ne_eqb a c (λ q. n (sym q)))
]

eqb_turn : (a b : ℕ) → eqb a b ≡ eqb b a
eqb_turn a b = elim (ℕ_discrete a b) [ yes e ↦ rw e | no n ↦ ne_eqb a b n ∙ sym (ne_eqb b a (λ q. n (sym q))) ]

-- a link found faulty changes no state and no line
sound_states : (g : Group) (rs : Rows) (c : ℕ) → ((view (with_sound g rs)).own c).state ≡ ((view g).own c).state
unfolding cabinet with_sound
sound_states g rs c = refl

sound_lines : (g : Group) (rs : Rows) (c d : ℕ) → (view (with_sound g rs)).lines c d ≡ (view g).lines c d
unfolding outgoing line with_sound
sound_lines g rs c d = refl

-- ---- the step

module _ (total : Party → ℕ) (g : Group) (h : History) (γ : Ghost) (w : Fit g) (i : Inv g.n total (view g) γ) (past : Past g.n (view g) γ h)
    (a b : ℕ) (la : a < 8) (lb : b < 8) (up : works (state_of g b) ≡ true) (full : is_empty (oldest (line g a b)) ≡ false) where
  abbrev v : View
  v = view g

  abbrev base : ℕ → ℕ → List Packet
  base c d = cond (eqb a c && eqb b d) (drop 1 (v.lines c d)) (v.lines c d)

  abbrev back : ℕ → ℕ → Bool
  back c d = eqb a d && eqb b c

  abbrev Ends : View → Type 0
  Ends u = Unbounded base back v u

  abbrev Owed : Outcome → Type 0
  Owed o = o.answer ≡ 0 → Ends (view o.group)

  -- ---- the packet is off the line

  abbrev g1 : Group
  g1 = off g a b

  fit1 : Fit g1
  fit1 = off_fit g a b w

  seen : view g1 ≡ set_line v a b (drop 1 (v.lines a b))
  seen = view_off g w a b la lb ∙ ap (set_line v a b) (sym (ap (drop 1) (sim_off g a b full)))

  states : (c : ℕ) → ((view g1).own c).state ≡ (v.own c).state
  states c = ap (λ (u : View). (u.own c).state) seen

  lines : (c d : ℕ) → (view g1).lines c d ≡ base c d
  lines c d = ap (λ (u : View). u.lines c d) seen ∙ line_at v.lines (drop 1) a b c d

  dropped : Ends (view g1)
  dropped = still base back v (view g1) states lines

  room : Room (view g1) b
  room = subst (λ (u : View). Room u b) (sym seen)
      (λ d e. rw (upd_other v.lines a (upd (v.lines a) b (drop 1 (v.lines a b))) b (λ q. other total g h γ w i past a b la lb full (sym q)))
      (works_room total g γ w i b up d e))

  -- what b is in
  state_is : (s : State) → is_in (state_of g1 b) s ≡ true → state_of g b ≡ s
  state_is s e = sym (states b) ∙ (in_state (state_of g1 b) s).0 e

  -- ---- by packet

  linked : serving (state_of g1 b) ≡ true → Owed (find_link_fault g g1 a b)
  unfolding find_link_fault
  linked serves = cond_elim Owed (connected (struck (rows_of g1.sound) a b) (working g1)) (λ _ _. found (struck (rows_of g1.sound) a b)) (λ _ e. absurd (omega arith))
    where
      not_trip : (t : Bool) → same_place (cond t (AtLink a b) (AtLink b a)) (AtTripped b) ≡ false
      not_trip true = refl
      not_trip false = refl

      found : (rs : Rows) → Ends (view (enter_error (with_sound g1 rs) b (link_place a b)))
      found rs =
          puts_error base back v (with_sound g1 rs) (fit_sound g1 rs fit1) (λ c. sound_states g1 rs c ∙ states c) (λ c d. sound_lines g1 rs c d ∙ lines c d) b lb (link_place a b) (not_trip (ltb a b))
          (ap serving (sym (states b)) ∙ serves)

  normal : (p : Payload) → Owed (receive_normal g g1 a b p)
  unfolding receive_normal
  normal p =
      cond_elim Owed (takes (cabinet g1 b) a p)
      (λ _ _. subst Ends (sym (sim_take g1 fit1 a b p la lb))
      (still base back v (v_take (view g1) a b p) (λ c. kept_at (λ (o : Own). o.state) (view g1).own b _ refl c ∙ states c) lines))
      (λ _. cond_elim Owed (serving (state_of g1 b)) linked (λ _ _. dropped))

  taken_checkp : (u : Group) → Fit u → Ends (view u) → state_of u b ≡ CheckpBegin → Ends (view (take_checkp u a b))
  unfolding take_checkp
  taken_checkp u fit ends begins =
      puts_cut base back v (with_cabinet u b (comparing (cabinet u b) a)) (with_cabinet_lem Shaped Lined Pictured shaped u b _ (shaped.comparing (cabinet u b) a (fit.cabs b)) fit)
      (puts_compare base back v u fit ends b lb a la) b lb
      (ap (λ (x : View). (x.own b).state) (sim_compare u fit a b la lb) ∙ ap (λ (o : Own). o.state) (upd_same (view u).own b ((view u).own b)) ∙ begins)

  checkp : (x : Check) → Owed (receive_checkp g g1 a b x)
  unfolding receive_checkp
  checkp x =
      cond_elim Owed (is_in (state_of g1 b) Normal || is_in (state_of g1 b) CheckpBegin)
      (λ e. cond_elim Owed (same_check x (get_or (cabinet g1 b).registers.taken a start_check)) (λ _ _. go (is_in (state_of g1 b) Normal) refl e)
      (λ _. linked (opens_serve (state_of g1 b) e)))
      (λ _ _. dropped)
    where
      go : (t : Bool) → is_in (state_of g1 b) Normal ≡ t → (t || is_in (state_of g1 b) CheckpBegin) ≡ true → Ends (view (take_checkp (join_if t g1 b) a b))
      go true e f =
          taken_checkp (join g1 b) (ok_join Shaped Lined Pictured shaped g1 b fit1)
          (puts_join base back v g1 fit1 states lines b lb room (λ d. ap (λ (u : View). (u.side b d).put) seen) (state_is Normal e))
          (ap (λ (u : View). (u.own b).state) (sim_join g1 fit1 b lb room) ∙ ap (λ (o : Own). o.state) (upd_same (view g1).own b _))
      go false e f = taken_checkp g1 fit1 dropped ((in_state (state_of g1 b) CheckpBegin).0 f)

  resume : Owed (receive_resume g1 a b)
  unfolding receive_resume end_recovery
  resume =
      cond_elim Owed (is_in (state_of g1 b) Checkpointed)
      (λ e _. puts_adopt base back v g1 fit1 states lines b lb room a (state_is Checkpointed e) (λ d. rw (eq-eqb b b refl, and_same) (eqb_turn a d)))
      (λ _. cond_elim Owed (resumes_from (cabinet g1 b) a b)
      (λ e _. let s = state_is Recovered (and_true {s = is_in (state_of g1 b) Recovered} e).0 in
      puts_resume base back v g1 fit1 states lines b lb room (cabinet g1 b).phase.version up (rw s) (λ d. rw s))
      (λ _ _. dropped))

  recover : (x : Bool) → Owed (receive_recover g1 a b x)
  unfolding receive_recover
  recover x =
      cond_elim Owed (is_in (state_of g1 b) Error && marked (cabinet g1 b).noted.heard a)
      (λ e _. puts_recover base back v g1 fit1 states lines b lb room x (state_is Error (and_true {s = is_in (state_of g1 b) Error} e).0)) (λ _ _. dropped)

  -- a serving receiver is not the tripped one that the packet tells of: its sender is aware of the fault, the receiver is not
  fault_other : (q : Place) → oldest (line g a b) ≡ Fault q → serving (state_of g b) ≡ true → same_place q (AtTripped b) ≡ false
  fault_other q is serves =
      let held = off_line g a b (Fault q) is refl in
      let pair : Pair γ.big a b (v.own a) (γ.mind a) (v.own b) (γ.mind b) (v.side a b) (v.side b a) (Fault q ∷ left_of g a b) (γ.wire a b) = rw held at (i.core.pairs a b) in
      not_its_trip total g γ w i b serves q (i.places.from_one a (fault_aware {d = b} pair) q (fault_place {d = b} pair (i.core.nodes a).place_known))

  fault : (q : Place) → oldest (line g a b) ≡ Fault q → Owed (receive_fault g g1 a b q)
  unfolding receive_fault
  fault q is =
      cond_elim Owed (serving (state_of g1 b))
      (λ e _. puts_hear base back v (enter_error g1 b q) (ok_enter_error Shaped Lined Pictured shaped g1 b q fit1)
      (let s = ap serving (sym (states b)) ∙ e in puts_error base back v g1 fit1 states lines b lb q (fault_other q is s) s) b lb a la)
      (λ _. cond_elim Owed (in_recovery (state_of g1 b))
      (λ _. cond_elim Owed (is_for (cabinet g1 b).phase.alarm q) (λ _ _. puts_hear base back v g1 fit1 dropped b lb a la) (λ _ e. absurd (omega arith)))
      (λ _ _. dropped))

  invalid : Owed (receive_invalid g g1 a b)
  unfolding receive_invalid
  invalid = cond_elim Owed (serving (state_of g1 b)) linked (λ _ _. dropped)

  received : (p : Packet) → oldest (line g a b) ≡ p → Owed (receive g g1 a b p)
  received Empty is = λ _. dropped
  received (NormalPacket p) is = normal p
  received (Checkp x) is = checkp x
  received Resume is = resume
  received (Recover x) is = recover x
  received (Fault q) is = fault q is
  received Invalid is = invalid

  pub puts_deliver : Owed (delivered g a b)
  unfolding delivered
  puts_deliver = cond_elim Owed (marked (in_use (cabinet g b)) a) (λ _. received (oldest (line g a b)) refl) (λ _ _. dropped)
