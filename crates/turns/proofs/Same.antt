-- The step of a group, as `protocol` has it, is the turn that its record asks for, stored back.
use Prim.Native.Nat.{ℕ, zero, suc, ◌-◌, ◌<◌}
use mathlib.Core.Path.{◌≡◌, refl, sym, ap, ◌∙◌, subst}
use mathlib.Core.Bool.{Bool, true, false, cond, not, ◌&&◌}
use lib.Dec.{eqb, ltb}
use lib.ListN.{length, get_or, get_or-eq_default}
use native.Mathlib.Omega.{arith}
use native.Mathlib.Decide.{dec_lt}
use borrow.Author.Tests.{ltb-true}
use Rattle.marks.specs.Marks.{marked, covers, no_marks}
use Rattle.marks.specs.Reach.{mark}
use Rattle.packet.specs.declared.Packet.{Packet}
use Rattle.packet.specs.declared.Pattern.{Pattern}
use Rattle.packet.specs.declared.PacketVersion.{PacketVersion}
use Rattle.line.specs.declared.Line.{Line}
use Rattle.line.specs.Line.{oldest}
use Rattle.state.specs.declared.State.TheVariants.{Recovered}
use Rattle.state.specs.State.{is_in, works}
use Rattle.cabinet.specs.declared.Cabinet.{Cabinet}
use Rattle.cabinet.specs.Cabinet.{absent, in_use, coordinator, restored_for, unsure_for}
use Rattle.store.proofs.Shared.{share_home}
use Rattle.group.specs.declared.Group.{Group}
use Rattle.group.specs.declared.Outcome.{Outcome}
use Rattle.group.specs.Group.{cabinet, with_cabinet, state_of, outgoing, with_outgoing, with_settled, line, home, rows_of, no_row, is_crashed, some, recovering_ones, answering, taken, crashed}
use Rattle.protocol.specs.declared.Step.{Step}
use Rattle.protocol.specs.declared.Step.TheVariants.{Send, Note, Begin, Deliver, Write, Saved, Fetch, Restored, Fail, Damage, Lose, Trip, Unsure}
use Rattle.protocol.specs.declared.Decoded.{Decoded}
use Rattle.protocol.specs.declared.Decoded.TheVariants.{Malformed, Unused, Taken}
use Rattle.protocol.specs.Kinds as K
use Rattle.protocol.specs.Entry.{first_of, second_of, actor_works, is_cabinet, entry_refusal, perform, step_decoded}
use Rattle.records.specs.Records.{entry_refusal_of}
use Rattle.seat.proofs.Same.{cabinet_same, line_same}
use Rattle.records.proofs.Stored.{entry_parts}
use Rattle.sending.proofs.Stored.{send_stored, note_stored}
use Rattle.seat.specs.Seat.{with_seat}
use Rattle.saving.proofs.Stored as S
use Rattle.restoring.specs.Restoring.{decide_if_all, word_after}
use Rattle.restoring.proofs.Stored as R
use Rattle.delivery.specs.declared.Finding.{Finding}
use Rattle.delivery.specs.declared.Finding.TheVariants.{Fine, LinkFault, Crash}
use Rattle.delivery.specs.Delivery.{finding, is_signal, deliver_refusal, take}
use Rattle.delivery.proofs.Stored as D
use Rattle.hurting.specs.Hurting as H
use Rattle.hurting.proofs.Stored as HS
use Rattle.turns.specs.declared.Order.TheVariants.{Record}
use Rattle.turns.specs.declared.Deed.{Deed}
use Rattle.turns.specs.declared.Deed.TheVariants.{Damage as ToDamage, Lose as ToLose}
use Rattle.turns.specs.declared.Call.TheVariants.{Begin as ToBegin}
use Rattle.turns.specs.declared.Piece.TheVariants.{Write as ToWrite, Fetch as ToFetch}
use Rattle.turns.specs.declared.Report.{Report}
use Rattle.turns.specs.declared.Report.TheVariants.{Saved as OfSaved, Restored as OfRestored, Unsure as OfUnsure}
use Rattle.turns.specs.declared.Turn.{Turn}
use Rattle.turns.specs.declared.Turn.TheVariants.{Refused, Deed as ADeed, Call as ACall, Piece as APiece, Report as AReport, Whole as AWhole, Point as APoint, Return as AReturn}
use Rattle.turns.specs.Turns.{first_in, second_in, linked, refused_or, taken_turn, found, unless_recovering, step_turn, record_turn, turn_of, deed_done, call_done, word_left, piece_done, report_refusal}
use Rattle.turns.specs.Stored.{turn_in, turn_stored, deed_stored, call_stored, kept_stored, piece_stored, with_concluded, report_taken, report_at, report_stored, whole_stored}

-- ---- eight of each

pub record Eight (g : Group) : Type 0 where
  pub cabinets : length g.cabinets ≡ 8
  pub links : length g.links ≡ 8
  pub outgoing : length g.outgoing ≡ 8

-- a cabinet that works is one of them
pub works_below : (g : Group) (i : ℕ) → Eight g → works (state_of g i) ≡ true → i < 8
unfolding cabinet
works_below g i h w = elim (dec_lt i 8) [
  | yes b ↦ b
  | no q ↦
      let none : works absent.phase.state ≡ true = subst (λ (c : Cabinet). works c.phase.state ≡ true) (get_or-eq_default g.cabinets absent {n = i} (omega (arith, h.cabinets))) w in
      let z : ◌≡◌ {A = ℕ} 0 1 = cc in absurd (omega arith)
]

-- ---- tests

last_holds : (p q r : Bool) → eqb (K.need p 10 (K.need q 11 (K.need r 12 0))) 0 ≡ true → r ≡ true
last_holds true true true e = refl
last_holds true true false e = let z : ◌≡◌ {A = ℕ} 0 1 = cc in absurd (omega arith)
last_holds true false r e = let z : ◌≡◌ {A = ℕ} 0 1 = cc in absurd (omega arith)
last_holds false q r e = let z : ◌≡◌ {A = ℕ} 0 1 = cc in absurd (omega arith)

actor_works_lem : (g : Group) (s : Step) → eqb (entry_refusal g s) 0 ≡ true → actor_works g s ≡ true
actor_works_lem g s e = last_holds (not (is_crashed g)) (is_cabinet g (first_of s) && is_cabinet g (second_of s)) (actor_works g s) e

row_there : (g : Group) (a b : ℕ) (below : Bool) → ltb a 8 ≡ below
    → mark (rows_of g.links) a b ≡ (below && marked (get_or g.links a no_row).marks b)
unfolding rows_of
row_there g zero b below e = rw (sym e)
row_there g (suc zero) b below e = rw (sym e)
row_there g (suc (suc zero)) b below e = rw (sym e)
row_there g (suc (suc (suc zero))) b below e = rw (sym e)
row_there g (suc (suc (suc (suc zero)))) b below e = rw (sym e)
row_there g (suc (suc (suc (suc (suc zero))))) b below e = rw (sym e)
row_there g (suc (suc (suc (suc (suc (suc zero)))))) b below e = rw (sym e)
row_there g (suc (suc (suc (suc (suc (suc (suc zero))))))) b below e = rw (sym e)
row_there g (suc (suc (suc (suc (suc (suc (suc (suc a)))))))) b true e = let l = ltb-true (suc (suc (suc (suc (suc (suc (suc (suc a)))))))) 8 e in absurd (omega arith)
row_there g (suc (suc (suc (suc (suc (suc (suc (suc a)))))))) b false e = refl

pub linked_there : (g : Group) (a b : ℕ) → mark (rows_of g.links) a b ≡ linked a b (get_or g.links a no_row)
linked_there g a b = row_there g a b (ltb a 8) refl

-- a refusal of both
refused_by : (z : Bool) (k : ℕ) (t : Turn) (o : Outcome) (g : Group) (a b : ℕ) → (z ≡ true → o ≡ turn_stored t g a b)
    → cond z o (answering k g) ≡ turn_stored (cond z t (Refused k)) g a b
unfolding turn_stored
refused_by true k t o g a b e = e refl
refused_by false k t o g a b e = refl

refused_same : (k : ℕ) (t : Turn) (o : Outcome) (g : Group) (a b : ℕ) → (eqb k 0 ≡ true → o ≡ turn_stored t g a b)
    → K.or_refuse k g o ≡ turn_stored (refused_or k t) g a b
refused_same k t o g a b = refused_by (eqb k 0) k t o g a b

-- ---- deliver

fine_same : (g : Group) (a b : ℕ) (signal : Bool) → Eight g → b < 8 → finding (cabinet g b) a (oldest (line g a b)) ≡ Fine
    → is_signal (oldest (line g a b)) ≡ signal → K.delivered g a b ≡ turn_stored (taken_turn signal) g a b
unfolding turn_stored deed_stored deed_done call_stored call_done word_left take
fine_same g a b true h l f e = D.fine_hear g a b (h.cabinets ∙ sym h.outgoing) f e
fine_same g a b false h l f e = D.fine_take g a b f e

delivered_same : (g : Group) (a b : ℕ) (f : Finding) → Eight g → b < 8 → finding (cabinet g b) a (oldest (line g a b)) ≡ f
    → K.delivered g a b ≡ turn_stored (found f (oldest (line g a b))) g a b
unfolding turn_stored whole_stored
delivered_same g a b Fine h l e = fine_same g a b (is_signal (oldest (line g a b))) h l e refl
delivered_same g a b LinkFault h l e = D.fault g a b e
delivered_same g a b Crash h l e = D.crash g a b e

deliver_same : (g : Group) (a b : ℕ) → Eight g → b < 8
    → K.deliver_step g a b
    ≡ turn_stored
    (refused_or (deliver_refusal (linked a b (get_or g.links a no_row)) (line g a b))
    (found (finding (cabinet g b) a (oldest (line g a b))) (oldest (line g a b))))
    g a b
unfolding K.deliver_step
deliver_same g a b h l =
    rw (← linked_there g a b)
    (refused_same (K.deliver_refusal g a b) (found (finding (cabinet g b) a (oldest (line g a b))) (oldest (line g a b))) (K.delivered g a b) g a b
    (λ e. delivered_same g a b (finding (cabinet g b) a (oldest (line g a b))) h l refl))

-- ---- damage and lose

hurt_by : (z : Bool) (d : Deed) (left : Group) (g : Group) (a b : ℕ) → taken left ≡ deed_stored d g a b
    → cond z (crashed g) (taken left) ≡ turn_stored (unless_recovering z d) g a b
unfolding turn_stored whole_stored
hurt_by true d left g a b e = refl
hurt_by false d left g a b e = e

damage_same : (g : Group) (a b p : ℕ) (w : Pattern)
    → K.damage_step g a b p w
    ≡ turn_stored
    (refused_or (H.damage_refusal (linked a b (get_or g.links a no_row)) (line g a b) (cabinet g b) a p w g.packets)
    (unless_recovering (some (recovering_ones g)) (ToDamage p w)))
    g a b
unfolding K.damage_step deed_stored deed_done H.damage
damage_same g a b p w =
    rw (← linked_there g a b)
    (refused_same (K.damage_refusal g a b p w) (unless_recovering (some (recovering_ones g)) (ToDamage p w)) (K.unless_recovering g (K.hurt g a b p w)) g a b
    (λ e. hurt_by (some (recovering_ones g)) (ToDamage p w) (K.hurt g a b p w) g a b (ap taken (HS.damage_stored g a b p w))))

lose_same : (g : Group) (a b p : ℕ)
    → K.lose_step g a b p
    ≡ turn_stored
    (refused_or (H.lose_refusal (linked a b (get_or g.links a no_row)) (line g a b) (cabinet g b) a p)
    (unless_recovering (some (recovering_ones g)) (ToLose p)))
    g a b
unfolding K.lose_step deed_stored deed_done H.lose
lose_same g a b p =
    rw (← linked_there g a b)
    (refused_same (K.lose_refusal g a b p) (unless_recovering (some (recovering_ones g)) (ToLose p)) (K.unless_recovering g (K.lost g a b p)) g a b
    (λ e. hurt_by (some (recovering_ones g)) (ToLose p) (K.lost g a b p) g a b (ap taken (HS.lose_stored g a b p))))

-- ---- begin, write and fetch

begin_same : (g : Group) (a : ℕ) → Eight g → a < 8 → K.begin_step g a ≡ call_stored ToBegin g a a
unfolding call_stored call_done word_left with_cabinet with_outgoing
begin_same g a h l = rw (line_same g a a) (S.begin_stored g a)

write_same : (g : Group) (a : ℕ) → Eight g → a < 8 → K.write_step g a ≡ piece_stored ToWrite g a
unfolding piece_stored piece_done kept_stored
write_same g a h l = S.write_stored g a

fetch_same : (g : Group) (a : ℕ) → Eight g → a < 8 → K.fetch_step g a ≡ piece_stored ToFetch g a
unfolding piece_stored piece_done kept_stored
fetch_same g a h l = R.fetch_stored g a

-- ---- the reports: a coordinator past the eighth takes none

taken_by : (z : Bool) (k : ℕ) (g o p : Group) → (z ≡ true → o ≡ p) → cond z (taken o) (answering k g) ≡ cond z (taken p) (answering k g)
taken_by true k g o p e = ap taken (e refl)
taken_by false k g o p e = refl

taken_same : (k : ℕ) (g o p : Group) → (eqb k 0 ≡ true → o ≡ p) → K.or_refuse k g (taken o) ≡ K.or_refuse k g (taken p)
taken_same k = taken_by (eqb k 0) k

saved_none : (t : Bool) → eqb (K.need (t && false) 19 0) 0 ≡ true → {A : Type 0} → A
saved_none true e = let z : ◌≡◌ {A = ℕ} 0 1 = cc in absurd (omega arith)
saved_none false e = let z : ◌≡◌ {A = ℕ} 0 1 = cc in absurd (omega arith)

later_none : (s t u : Bool) → eqb (K.need s 14 (K.need (t && (u && false)) 19 0)) 0 ≡ true → {A : Type 0} → A
later_none false t u e = let z : ◌≡◌ {A = ℕ} 0 1 = cc in absurd (omega arith)
later_none true false u e = let z : ◌≡◌ {A = ℕ} 0 1 = cc in absurd (omega arith)
later_none true true false e = let z : ◌≡◌ {A = ℕ} 0 1 = cc in absurd (omega arith)
later_none true true true e = let z : ◌≡◌ {A = ℕ} 0 1 = cc in absurd (omega arith)

unsure_none : (s t : Bool) → eqb (K.need s 14 (K.need (t && false) 19 0)) 0 ≡ true → {A : Type 0} → A
unsure_none false t e = let z : ◌≡◌ {A = ℕ} 0 1 = cc in absurd (omega arith)
unsure_none true false e = let z : ◌≡◌ {A = ℕ} 0 1 = cc in absurd (omega arith)
unsure_none true true e = let z : ◌≡◌ {A = ℕ} 0 1 = cc in absurd (omega arith)

-- no report goes to the cabinet that is not there
pub report_none : (d : Report) (c home : Cabinet) (a : ℕ) → eqb (report_refusal d c home absent a) 0 ≡ true → {A : Type 0} → A
unfolding report_refusal
report_none OfSaved c home a e = saved_none (marked home.owed a) e
report_none OfRestored c home a e = later_none (is_in c.phase.state Recovered) (not (marked no_marks a)) (covers c.noted.heard (in_use c)) e
report_none OfUnsure c home a e = unsure_none (K.is_unsure c && c.noted.former) (not (marked no_marks a)) e

pub coordinator_below : (d : Report) (c home : Cabinet) (a k : ℕ) (g : Group) → Eight g → eqb (report_refusal d c home (cabinet g k) a) 0 ≡ true → k < 8
unfolding cabinet
coordinator_below d c home a k g h e = elim (dec_lt k 8) [
  | yes l ↦ l
  | no q ↦ report_none d c home a (rw (get_or-eq_default g.cabinets absent {n = k} (omega (arith, h.cabinets))) at e)
]

saved_taken : (g : Group) (a h k : ℕ) → Eight g → K.commit_if_all (K.report_saved g a h k) k ≡ report_taken OfSaved g a h k
unfolding report_taken with_cabinet with_outgoing
saved_taken g a h k e = S.saved_stored g a h k (e.cabinets ∙ sym e.outgoing)

saved_same : (g : Group) (a : ℕ) → Eight g → K.saved_step g a ≡ report_stored OfSaved g a
unfolding K.saved_step report_stored report_at report_refusal
saved_same g a h =
    let k = coordinator (cabinet g (home g a)) in
    rw (share_home g.store a)
    (taken_same (K.saved_refusal g a) g (K.commit_if_all (K.report_saved g a (home g a) k) k) (report_taken OfSaved g a (home g a) k)
    (λ e. saved_taken g a (home g a) k h))

-- a home that makes no report stays as it was
restored_left : (g : Group) (k : ℕ) (told : Cabinet) → with_seat g k (record { cabinet = told; lines = outgoing g k }) ≡ with_concluded OfRestored g k told
unfolding with_cabinet with_outgoing
restored_left g k told = refl

restored_taken : (g : Group) (a h k : ℕ) → K.end_if_all (K.come_back_if_away (K.report_restored g a k) a) k ≡ report_taken OfRestored g a h k
unfolding report_taken
restored_taken g a h k = rw (cabinet_same g h, ← restored_left g k (restored_for (cabinet g k) a)) (R.restored_stored g a k)

restored_same : (g : Group) (a : ℕ) → Eight g → K.restored_step g a ≡ report_stored OfRestored g a
unfolding K.restored_step report_stored report_at report_refusal
restored_same g a h =
    let k = coordinator (cabinet g a) in
    rw (share_home g.store a)
    (taken_same (K.restored_refusal g a) g (K.end_if_all (K.come_back_if_away (K.report_restored g a k) a) k) (report_taken OfRestored g a (home g a) k)
    (λ e. restored_taken g a (home g a) k))

unsure_left : (g : Group) (k : ℕ) (told : Cabinet)
    → with_settled (with_seat g k (decide_if_all (record { cabinet = told; lines = outgoing g k }))) (word_after told k g.settled) ≡ with_concluded OfUnsure g k told
unfolding with_cabinet with_outgoing
unsure_left g k told = refl

unsure_taken : (g : Group) (a h k : ℕ) → Eight g → K.decide_if_all (K.report_unsure g a k) k ≡ report_taken OfUnsure g a h k
unfolding report_taken
unsure_taken g a h k e = rw (cabinet_same g h, ← unsure_left g k (unsure_for (cabinet g k) a)) (R.unsure_stored g a k (e.cabinets ∙ sym e.outgoing))

unsure_same : (g : Group) (a : ℕ) → Eight g → K.unsure_step g a ≡ report_stored OfUnsure g a
unfolding K.unsure_step report_stored report_at report_refusal
unsure_same g a h =
    let k = coordinator (cabinet g a) in
    rw (share_home g.store a)
    (taken_same (K.unsure_refusal g a) g (K.decide_if_all (K.report_unsure g a k) k) (report_taken OfUnsure g a (home g a) k)
    (λ e. unsure_taken g a (home g a) k h))

-- ---- any step

perform_same : (g : Group) (s : Step) → Eight g → actor_works g s ≡ true
    → perform g s
    ≡ turn_stored
    (step_turn s (first_of s - 1) (cabinet g (second_of s - 1)) (linked (first_of s - 1) (second_of s - 1) (get_or g.links (first_of s - 1) no_row))
    (line g (first_of s - 1) (second_of s - 1)) g.packets (some (recovering_ones g)))
    g (first_of s - 1) (second_of s - 1)
unfolding step_turn turn_stored deed_stored deed_done whole_stored
perform_same g (Send x y p q) h w = send_stored g (x - 1) (y - 1) p q
perform_same g (Note x p q) h w = note_stored g (x - 1) (x - 1) p q
perform_same g (Begin x) h w = begin_same g (x - 1) h (works_below g (x - 1) h w)
perform_same g (Deliver x y) h w = deliver_same g (x - 1) (y - 1) h (works_below g (y - 1) h w)
perform_same g (Write x) h w = write_same g (x - 1) h (works_below g (x - 1) h w)
perform_same g (Saved x) h w = saved_same g (x - 1) h
perform_same g (Fetch x) h w = fetch_same g (x - 1) h (works_below g (x - 1) h w)
perform_same g (Restored x) h w = restored_same g (x - 1) h
perform_same g (Fail x) h w = refl
perform_same g (Damage x y p q) h w = damage_same g (x - 1) (y - 1) p q
perform_same g (Lose x y p) h w = lose_same g (x - 1) (y - 1) p
perform_same g (Trip x) h w = refl
perform_same g (Unsure x) h w = unsure_same g (x - 1) h

pub same : (g : Group) (d : Decoded) → Eight g → step_decoded g d ≡ turn_stored (turn_in (Record d) g (first_in d) (second_in d)) g (first_in d) (second_in d)
unfolding turn_of record_turn turn_stored
same g Malformed h = refl
same g Unused h = refl
same g (Taken s) h =
    rw (← entry_parts g s)
    (refused_same (entry_refusal g s) (step_turn s (first_of s - 1) (cabinet g (second_of s - 1)) (linked (first_of s - 1) (second_of s - 1) (get_or g.links (first_of s - 1) no_row)) (line g (first_of s - 1) (second_of s - 1)) g.packets (some (recovering_ones g))) (perform g s) g (first_of s - 1) (second_of s - 1) (λ e. perform_same g s h (actor_works_lem g s e)))

-- ---- whom a turn names

-- a call goes to one of the eight
abbrev pub Below : Turn → ℕ → Type 0
Below (Refused k) b = Unit {0}
Below (ADeed d) b = Unit {0}
Below (ACall d) b = b < 8
Below (APiece d) b = Unit {0}
Below (AReport d) b = Unit {0}
Below (AWhole w) b = Unit {0}
Below APoint b = Unit {0}
Below AReturn b = Unit {0}

refused_below : (z : Bool) (k : ℕ) (t : Turn) (b : ℕ) → (z ≡ true → Below t b) → Below (cond z t (Refused k)) b
refused_below true k t b h = h refl
refused_below false k t b h = tt

fine_below : (z : Bool) (b : ℕ) → b < 8 → Below (taken_turn z) b
fine_below true b l = l
fine_below false b l = tt

found_below : (f : Finding) (p : Packet) (b : ℕ) → b < 8 → Below (found f p) b
found_below Fine p b l = fine_below (is_signal p) b l
found_below LinkFault p b l = tt
found_below Crash p b l = tt

hurt_below : (z : Bool) (d : Deed) (b : ℕ) → Below (unless_recovering z d) b
hurt_below true d b = tt
hurt_below false d b = tt

step_below : (g : Group) (s : Step) (a : ℕ) (on r : Bool) (l : Line) → Eight g → actor_works g s ≡ true
    → Below (step_turn s a (cabinet g (second_of s - 1)) on l g.packets r) (second_of s - 1)
unfolding step_turn
step_below g (Send x y p q) a on r l h w = tt
step_below g (Note x p q) a on r l h w = tt
step_below g (Begin x) a on r l h w = works_below g (x - 1) h w
step_below g (Deliver x y) a on r l h w =
    refused_below (eqb (deliver_refusal on l) 0) _ _ (y - 1) (λ e. found_below (finding (cabinet g (y - 1)) a (oldest l)) (oldest l) (y - 1) (works_below g (y - 1) h w))
step_below g (Write x) a on r l h w = tt
step_below g (Saved x) a on r l h w = tt
step_below g (Fetch x) a on r l h w = tt
step_below g (Restored x) a on r l h w = tt
step_below g (Fail x) a on r l h w = tt
step_below g (Damage x y p q) a on r l h w = refused_below (eqb (H.damage_refusal on l (cabinet g (y - 1)) a p q g.packets) 0) _ _ (y - 1) (λ e. hurt_below r (ToDamage p q) (y - 1))
step_below g (Lose x y p) a on r l h w = refused_below (eqb (H.lose_refusal on l (cabinet g (y - 1)) a p) 0) _ _ (y - 1) (λ e. hurt_below r (ToLose p) (y - 1))
step_below g (Trip x) a on r l h w = tt
step_below g (Unsure x) a on r l h w = tt

pub below : (g : Group) (d : Decoded) → Eight g → Below (turn_in (Record d) g (first_in d) (second_in d)) (second_in d)
unfolding turn_of record_turn
below g Malformed h = tt
below g Unused h = tt
below g (Taken s) h =
    rw (← entry_parts g s)
    (refused_below (eqb (entry_refusal g s) 0) _ _ (second_of s - 1) (λ e. step_below g s _ _ _ _ h (actor_works_lem g s e)))

-- a step's turn is no point and no return
abbrev pub Stepped : Turn → Type 0
Stepped (Refused k) = Unit {0}
Stepped (ADeed d) = Unit {0}
Stepped (ACall d) = Unit {0}
Stepped (APiece d) = Unit {0}
Stepped (AReport d) = Unit {0}
Stepped (AWhole w) = Unit {0}
Stepped APoint = ⊥
Stepped AReturn = ⊥

refused_stepped : (z : Bool) (k : ℕ) (t : Turn) → Stepped t → Stepped (cond z t (Refused k))
refused_stepped true k t h = h
refused_stepped false k t h = tt

fine_stepped : (z : Bool) → Stepped (taken_turn z)
fine_stepped true = tt
fine_stepped false = tt

found_stepped : (f : Finding) (p : Packet) → Stepped (found f p)
found_stepped Fine p = fine_stepped (is_signal p)
found_stepped LinkFault p = tt
found_stepped Crash p = tt

hurt_stepped : (z : Bool) (d : Deed) → Stepped (unless_recovering z d)
hurt_stepped true d = tt
hurt_stepped false d = tt

step_stepped : (s : Step) (a : ℕ) (e : Cabinet) (on r : Bool) (l : Line) (v : PacketVersion) → Stepped (step_turn s a e on l v r)
unfolding step_turn
step_stepped (Send x y p q) a e on r l v = tt
step_stepped (Note x p q) a e on r l v = tt
step_stepped (Begin x) a e on r l v = tt
step_stepped (Deliver x y) a e on r l v = refused_stepped (eqb (deliver_refusal on l) 0) _ _ (found_stepped (finding e a (oldest l)) (oldest l))
step_stepped (Write x) a e on r l v = tt
step_stepped (Saved x) a e on r l v = tt
step_stepped (Fetch x) a e on r l v = tt
step_stepped (Restored x) a e on r l v = tt
step_stepped (Fail x) a e on r l v = tt
step_stepped (Damage x y p q) a e on r l v = refused_stepped (eqb (H.damage_refusal on l e a p q v) 0) _ _ (hurt_stepped r (ToDamage p q))
step_stepped (Lose x y p) a e on r l v = refused_stepped (eqb (H.lose_refusal on l e a p) 0) _ _ (hurt_stepped r (ToLose p))
step_stepped (Trip x) a e on r l v = tt
step_stepped (Unsure x) a e on r l v = tt

pub record_stepped : (d : Decoded) (n : ℕ) (crashed r : Bool) (c e : Cabinet) (a : ℕ) (on : Bool) (l : Line) (v : PacketVersion) → Stepped (record_turn d n crashed r c e a on l v)
unfolding record_turn
record_stepped Malformed n crashed r c e a on l v = tt
record_stepped Unused n crashed r c e a on l v = tt
record_stepped (Taken s) n crashed r c e a on l v = refused_stepped (eqb (entry_refusal_of n crashed s c e) 0) _ _ (step_stepped s a e on r l v)
