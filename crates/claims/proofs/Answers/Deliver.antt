-- What a delivered packet may do to the group: the answer of each kind of packet, and when it is a crash.
use Rattle.std.specs.Prelude.{Some}
use Prim.Native.Nat.{ℕ}
use mathlib.Core.Path.{◌≡◌, refl}
use mathlib.Core.Bool.{Bool, true, false, not, ◌&&◌, ◌||◌, false≢true}
use mathlib.Core.List.{[]}
use mathlib.Core.Logic.{◌↔◌, ◌⊎◌, inl, inr, ⊎_elim}
use lib.ListN.{get_or}
use Rattle.marks.specs.Marks.{marked}
use Rattle.marks.specs.Reach.{struck, connected}
use Rattle.packet.specs.declared.Payload.{Payload}
use Rattle.packet.specs.declared.Check.{Check}
use Rattle.packet.specs.declared.Place.{Place}
use Rattle.packet.specs.declared.Packet.{Packet}
use Rattle.packet.specs.declared.Packet.TheVariants.{Empty, Normal as NormalPacket, Checkp, Resume, Recover, Fault, Invalid}
use Rattle.packet.specs.Packet.{start_check, same_check, fits}
use Rattle.line.specs.Line.{rest}
use Rattle.state.specs.declared.State.{State}
use Rattle.state.specs.declared.State.TheVariants.{Normal, CheckpBegin}
use Rattle.group.specs.declared.Group.{Group}
use Rattle.cabinet.specs.Alarm.{is_for}
use Rattle.state.specs.State.{is_in, in_recovery}
use Rattle.group.specs.Group.{cabinet, state_of, line, with_outgoing, with_line, working}
use Rattle.protocol.specs.Moves.{find_link_fault}
use Rattle.protocol.specs.Receive.{serving, takes_from, takes, receive_normal, receive_checkp, receive_resume, receive_recover, receive_fault, receive_invalid, receive}
use Rattle.protocol.specs.Crash.{Recovers, Saves, Serves, Compares, Unreached, sound_links, PlacesMeet, LinkFault}
use Rattle.protocol.specs.Crash.PlacesMeet.{other_place}
use Rattle.protocol.specs.Crash.LinkFault.{unequal, after_checkp, after_cut, unfit, hit}
use Rattle.claims.proofs.State.Fun.{never, and_true, and_intro}
use Rattle.claims.proofs.Answers.Tests.{Reflects, itself, not_reflects, or_reflects, and_reflects, in_state, in_recovery_lem, in_serving, serves_or_recovers, fault_for, same_check_lem, not_reached}
use Rattle.claims.proofs.Answers.Answer.{Answer, recast, either, only_if, unless, crash_unless}
use Rattle.claims.proofs.Answers.Answer.Answer.{took}

-- ---- a normal packet out of place

true_unless : (t : Bool) → ((t ≡ true → ⊥) → ⊥) → t ≡ true
true_unless true n = refl
true_unless false n = absurd (n (λ e. false≢true e))

-- not taken where it serves: the two ways of the paper
abbrev Late : State → Bool → Type 0
Late s come = ((s ≡ CheckpBegin) × (come ≡ true)) ⊎ Saves s

abbrev in_time : State → Bool → Bool
in_time s come = is_in s Normal || (is_in s CheckpBegin && not come)

late : (s : State) (come : Bool) → ((in_time s come ≡ true → ⊥) × Serves s) ↔ Late s come
late s come = (to, from)
  where
    taking : Reflects (in_time s come) ((s ≡ Normal) ⊎ ((s ≡ CheckpBegin) × (come ≡ true → ⊥)))
    taking =
        or_reflects (is_in s Normal) (is_in s CheckpBegin && not come) (in_state s Normal)
        (and_reflects (is_in s CheckpBegin) (not come) (in_state s CheckpBegin) (not_reflects come (itself come)))

    to : (in_time s come ≡ true → ⊥) × Serves s → Late s come
    to (n, inl e) = absurd (n (taking.1 (inl e)))
    to (n, inr (inl e)) = inl (e, true_unless come (λ m. n (taking.1 (inr (e, m)))))
    to (n, inr (inr e)) = inr e

    from : Late s come → (in_time s come ≡ true → ⊥) × Serves s
    from (inl (e, m)) = (λ t. false≢true (rw (e, m) at t), inr (inl e))
    from (inr (inl e)) = (λ t. false≢true (rw e at t), inr (inr (inl e)))
    from (inr (inr e)) = (λ t. false≢true (rw e at t), inr (inr (inr e)))

-- ---- each kind of packet

module _ (g : Group) (a b : ℕ) where
  -- a link fault found on the link from a to b would part the group
  abbrev Parts : Type 0
  Parts = Unreached (struck (sound_links g) a b) (working g)

  -- what upsets the group when cabinet b takes a packet from a
  abbrev pub Upset : Packet → Type 0
  Upset p = PlacesMeet (cabinet g b) p ⊎ (LinkFault (cabinet g b) a p × Parts)

  calm : {p : Packet} → (PlacesMeet (cabinet g b) p → ⊥) → (LinkFault (cabinet g b) a p → ⊥) → Upset p → ⊥
  calm n m (inl meet) = n meet
  calm n m (inr find) = m find.0

  -- the group once the packet is off its line
  abbrev after : Group
  after = with_line g a b (rest (line g a b))

  abbrev state : State
  state = state_of g b

  -- the receiver's register
  abbrev register : Check
  register = get_or (cabinet g b).registers.taken a start_check

  find_answers : Answer g [] Parts (find_link_fault g after a b)
  unfolding find_link_fault working cabinet with_line with_outgoing
  find_answers = crash_unless (connected (struck (sound_links g) a b) (working g)) _ (not_reached (struck (sound_links g) a b) (working g))

  normal_answers : (p : Payload) → Answer g [] (Upset (NormalPacket p)) (receive_normal g after a b p)
  unfolding receive_normal cabinet with_line with_outgoing
  normal_answers p =
      recast (to, from)
      (unless (takes (cabinet g b) a p) _ (itself (takes (cabinet g b) a p)) (only_if (serving state) _ (in_serving state) find_answers))
    where
      untaken : (takes_from (cabinet g b) a ≡ true → ⊥) → takes (cabinet g b) a p ≡ true → ⊥
      untaken n e = n (and_true {s = takes_from (cabinet g b) a} e).0

      -- it does not fit, or it comes too late
      found : (t : Bool) → fits p ≡ t → (takes (cabinet g b) a p ≡ true → ⊥) → Serves state → LinkFault (cabinet g b) a (NormalPacket p)
      found true e n s =
          ⊎_elim (λ l. after_checkp l.0 l.1) (λ l. after_cut l) ((late state (marked (cabinet g b).noted.come a)).0 ((λ t. n (and_intro t e)), s))
      found false e n s = ⊎_elim (λ l. unfit (inl l) e) (λ l. ⊎_elim (λ k. unfit (inr k) e) (λ k. after_cut k) l) s

      to : (takes (cabinet g b) a p ≡ true → ⊥) × (Serves state × Parts) → Upset (NormalPacket p)
      to (n, (s, u)) = inr (found (fits p) refl n s, u)

      from : Upset (NormalPacket p) → (takes (cabinet g b) a p ≡ true → ⊥) × (Serves state × Parts)
      from (inl x') = elim x' [ ]
      from (inr (after_checkp e m, u)) = let l = (late state (marked (cabinet g b).noted.come a)).1 (inl (e, m)) in (untaken l.0, (l.1, u))
      from (inr (after_cut e, u)) = let l = (late state (marked (cabinet g b).noted.come a)).1 (inr e) in (untaken l.0, (l.1, u))
      from (inr (unfit c e, u)) =
          (λ t. never (and_true {s = takes_from (cabinet g b) a} t).1 e, (⊎_elim (λ l. inl l) (λ l. inr (inl l)) c, u))

  checkp_answers : (v : Check) → Answer g [] (Upset (Checkp v)) (receive_checkp g after a b v)
  unfolding receive_checkp cabinet with_line with_outgoing
  checkp_answers v =
      recast (to, from)
      (only_if (is_in state Normal || is_in state CheckpBegin) _ (or_reflects (is_in state Normal) (is_in state CheckpBegin) (in_state state Normal) (in_state state CheckpBegin))
      (unless (same_check v register) _ (same_check_lem v register) find_answers))
    where
      to : Compares state × ((v ≡ register → ⊥) × Parts) → Upset (Checkp v)
      to (s, (n, u)) = inr (unequal s n, u)

      from : Upset (Checkp v) → Compares state × ((v ≡ register → ⊥) × Parts)
      from (inl x') = elim x' [ ]
      from (inr (unequal s n, u)) = (s, (n, u))

  fault_answers : (p : Place) → Answer g [] (Upset (Fault p)) (receive_fault g after a b p)
  unfolding receive_fault cabinet with_line with_outgoing
  fault_answers p =
      recast (to, from)
      (unless (serving state) _ (in_serving state)
      (only_if (in_recovery state) _ (in_recovery_lem state)
      (crash_unless (is_for (cabinet g b).phase.alarm p) _ (not_reflects (is_for (cabinet g b).phase.alarm p) (fault_for (cabinet g b).phase.alarm p)))))
    where
      to : (Serves state → ⊥) × (Recovers state × ((cabinet g b).phase.alarm ≡ Some p → ⊥)) → Upset (Fault p)
      to (n, (r, m)) = inl (other_place r m)

      from : Upset (Fault p) → (Serves state → ⊥) × (Recovers state × ((cabinet g b).phase.alarm ≡ Some p → ⊥))
      from (inl (other_place r m)) = (λ s. serves_or_recovers state s r, (r, m))
      from (inr f) = elim f.0 [ ]

  invalid_answers : Answer g [] (Upset Invalid) (receive_invalid g after a b)
  unfolding receive_invalid cabinet with_line with_outgoing
  invalid_answers = recast (to, from) (only_if (serving state) _ (in_serving state) find_answers)
    where
      to : Serves state × Parts → Upset Invalid
      to (s, u) = inr (hit s, u)

      from : Upset Invalid → Serves state × Parts
      from (inl x') = elim x' [ ]
      from (inr (hit s, u)) = (s, u)

  resume_answers : Answer g [] (Upset Resume) (receive_resume after a b)
  unfolding receive_resume cabinet with_line with_outgoing
  resume_answers = let n : Upset Resume → ⊥ = calm (λ m. elim m [ ]) (λ f. elim f [ ]) in search (either, took)

  recover_answers : (v : Bool) → Answer g [] (Upset (Recover v)) (receive_recover after a b v)
  unfolding receive_recover cabinet with_line with_outgoing
  recover_answers v = let n : Upset (Recover v) → ⊥ = calm (λ m. elim m [ ]) (λ f. elim f [ ]) in search (either, took)

  pub receive_answers : (p : Packet) → Answer g [] (Upset p) (receive g after a b p)
  receive_answers Empty = took (calm (λ m. elim m [ ]) (λ f. elim f [ ]))
  receive_answers (NormalPacket p) = normal_answers p
  receive_answers (Checkp v) = checkp_answers v
  receive_answers Resume = resume_answers
  receive_answers (Recover v) = recover_answers v
  receive_answers (Fault p) = fault_answers p
  receive_answers Invalid = invalid_answers
