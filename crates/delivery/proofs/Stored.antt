-- Deliver of the group, by what the receiver finds at the packet: what it does with it, on its cabinet and the line or on its cabinet and its
-- own lines, is stored back.
use Prim.Native.Nat.{ℕ}
use mathlib.Core.Path.{◌≡◌, refl, sym, ap, ◌∙◌}
use mathlib.Core.Bool.{Bool, true, false, cond}
use native.Mathlib.Omega.{arith}
use lib.ListN.{length, length-set}
use Rattle.marks.specs.Marks.{marked}
use Rattle.packet.specs.declared.Packet.{Packet}
use Rattle.packet.specs.declared.Packet.TheVariants.{Empty, Normal as NormalPacket, Checkp, Resume, Recover, Fault, Invalid}
use Rattle.line.specs.Line.{oldest, rest}
use Rattle.cabinet.specs.declared.Cabinet.{Cabinet}
use Rattle.cabinet.specs.Cabinet.{in_use}
use Rattle.outgoing.specs.Lines.{with_line_to}
use Rattle.group.specs.declared.Group.{Group}
use Rattle.group.specs.Group.{cabinet, with_cabinet, outgoing, with_outgoing, line, with_line, with_settled, taken, crashed}
use Rattle.seat.proofs.Same.{cabinet_same}
use Rattle.seat.specs.Seat.{seat, with_seat}
use Rattle.seat.proofs.Laws.{seat_same}
use Rattle.protocol.specs.Moves.{find_link_fault}
use Rattle.protocol.specs.Receive.{receive}
use Rattle.protocol.specs.Kinds.{delivered}
use Rattle.linkcheck.specs.Linkcheck.{link_fault}
use Rattle.linkcheck.proofs.Stored as C
use Rattle.signals.proofs.Stored as S
use Rattle.delivery.specs.declared.Finding.TheVariants.{Fine, LinkFault, Crash}
use Rattle.delivery.specs.Delivery.{finding_by, finding, is_signal, taken_by, take, heard_by, hear, word_from, word_after}

-- ---- a packet that is received

received : (before g : Group) (a b : ℕ) (p : Packet) → finding_by (cabinet g b) a p ≡ Fine → is_signal p ≡ false
    → receive before g a b p ≡ taken (with_cabinet g b (taken_by (cabinet g b) a p))
received before g a b Empty f s = ap taken (sym (cabinet_same g b))
received before g a b (NormalPacket p) f s = C.normal_stored before g a b p (grind arith)
received before g a b (Checkp v) f s = absurd (grind arith)
received before g a b Resume f s = absurd (grind arith)
received before g a b (Recover v) f s = absurd (grind arith)
received before g a b (Fault p) f s = absurd (grind arith)
received before g a b Invalid f s =
    C.invalid_dropped before g a b (grind arith) ∙ ap taken (sym (cabinet_same g b))

heard : (before g : Group) (a b : ℕ) (p : Packet) → length g.cabinets ≡ length g.outgoing → finding_by (cabinet g b) a p ≡ Fine
    → is_signal p ≡ true
    → receive before g a b p ≡ taken (with_settled (with_seat g b (heard_by (seat g b) a b p)) (word_from g.settled (cabinet g b) b p))
heard before g a b Empty e f s = absurd (grind arith)
heard before g a b (NormalPacket p) e f s = absurd (grind arith)
heard before g a b (Checkp v) e f s =
    C.checkp_stored before g a b v e (grind arith) ∙ ap taken (sym (S.word_same g b _))
heard before g a b Resume e f s = S.resume_stored g a b e ∙ ap taken (sym (S.word_same g b _))
heard before g a b (Recover v) e f s = S.recover_stored g a b v e ∙ ap taken (sym (S.word_same g b _))
heard before g a b (Fault p) e f s = S.fault_stored before g a b p e (grind arith)
heard before g a b Invalid e f s = absurd (grind arith)

faulted : (before g : Group) (a b : ℕ) (p : Packet) → finding_by (cabinet g b) a p ≡ LinkFault
    → receive before g a b p ≡ find_link_fault before g a b
faulted before g a b p f = grind (arith, C.normal_fault, C.checkp_fault, C.invalid_fault)

crashes : (before g : Group) (a b : ℕ) (p : Packet) → finding_by (cabinet g b) a p ≡ Crash → receive before g a b p ≡ crashed before
crashes before g a b p f = grind (arith, S.fault_crash)

-- ---- the group without the packet

abbrev popped : Group → ℕ → ℕ → Group
popped g a b = with_line g a b (rest (line g a b))

-- the receiver is as it was
cabinet_popped : (g : Group) (a b : ℕ) → cabinet (popped g a b) b ≡ cabinet g b
unfolding cabinet with_line with_outgoing
cabinet_popped g a b = refl

settled_popped : (g : Group) (a b : ℕ) → (popped g a b).settled ≡ g.settled
unfolding with_line with_outgoing
settled_popped g a b = refl

length_popped : (g : Group) (a b : ℕ) → length g.cabinets ≡ length g.outgoing
    → length (popped g a b).cabinets ≡ length (popped g a b).outgoing
unfolding with_line with_outgoing
length_popped g a b e = e ∙ sym (length-set g.outgoing a (with_line_to (outgoing g a) b (rest (line g a b))))

-- cabinet and line are stored in either order
cabinet_first : (g : Group) (a b : ℕ) (c : Cabinet) → with_cabinet (popped g a b) b c ≡ with_line (with_cabinet g b c) a b (rest (line g a b))
unfolding with_line with_outgoing with_cabinet outgoing
cabinet_first g a b c = refl

-- ---- deliver, by whether the receiver has the link in use

take_by : (used : Bool) (g : Group) (a b : ℕ) (p : Packet) → cond used (finding_by (cabinet g b) a p) Fine ≡ Fine → is_signal p ≡ false
    → cond used (receive g (popped g a b) a b p) (taken (popped g a b))
    ≡ taken (with_line (with_cabinet g b (cond used (taken_by (cabinet g b) a p) (cabinet g b))) a b (rest (line g a b)))
take_by true g a b p f s =
    received g (popped g a b) a b p (ap (λ c. finding_by c a p) (cabinet_popped g a b) ∙ f) s
    ∙ ap (λ c. taken (with_cabinet (popped g a b) b (taken_by c a p))) (cabinet_popped g a b)
    ∙ ap taken (cabinet_first g a b (taken_by (cabinet g b) a p))
take_by false g a b p f s =
    ap taken
    (sym (cabinet_same (popped g a b) b) ∙ ap (with_cabinet (popped g a b) b) (cabinet_popped g a b) ∙ cabinet_first g a b (cabinet g b))

pub fine_take : (g : Group) (a b : ℕ) → finding (cabinet g b) a (oldest (line g a b)) ≡ Fine → is_signal (oldest (line g a b)) ≡ false
    → delivered g a b
    ≡ taken (with_line (with_cabinet g b (take (cabinet g b) (line g a b) a).cabinet) a b (take (cabinet g b) (line g a b) a).line)
unfolding delivered finding take
fine_take g a b f s = take_by (marked (in_use (cabinet g b)) a) g a b (oldest (line g a b)) f s

hear_by : (used : Bool) (g : Group) (a b : ℕ) (p : Packet) → length g.cabinets ≡ length g.outgoing
    → cond used (finding_by (cabinet g b) a p) Fine ≡ Fine → is_signal p ≡ true
    → cond used (receive g (popped g a b) a b p) (taken (popped g a b))
    ≡ taken (with_settled (with_seat (popped g a b) b (cond used (heard_by (seat (popped g a b) b) a b p) (seat (popped g a b) b)))
    (cond used (word_from g.settled (cabinet g b) b p) g.settled))
hear_by true g a b p e f s =
    heard g (popped g a b) a b p (length_popped g a b e) (ap (λ c. finding_by c a p) (cabinet_popped g a b) ∙ f) s
    ∙ ap (λ c. taken (with_settled (with_seat (popped g a b) b (heard_by (seat (popped g a b) b) a b p)) (word_from (popped g a b).settled c b p)))
    (cabinet_popped g a b)
    ∙ ap (λ x. taken (with_settled (with_seat (popped g a b) b (heard_by (seat (popped g a b) b) a b p)) (word_from x (cabinet g b) b p)))
    (settled_popped g a b)
hear_by false g a b p e f s =
    ap taken
    (sym (seat_same (popped g a b) b) ∙ sym (S.word_same (popped g a b) b (seat (popped g a b) b))
    ∙ ap (with_settled (with_seat (popped g a b) b (seat (popped g a b) b))) (settled_popped g a b))

-- the test is asked of the cabinet that is in the seat
asked_there : (g : Group) (a b : ℕ) (p : Packet)
    → hear (seat (popped g a b) b) a b p
    ≡ cond (marked (in_use (cabinet g b)) a) (heard_by (seat (popped g a b) b) a b p) (seat (popped g a b) b)
unfolding hear
asked_there g a b p =
    ap (λ c. cond (marked (in_use c) a) (heard_by (seat (popped g a b) b) a b p) (seat (popped g a b) b)) (cabinet_popped g a b)

pub fine_hear : (g : Group) (a b : ℕ) → length g.cabinets ≡ length g.outgoing
    → finding (cabinet g b) a (oldest (line g a b)) ≡ Fine → is_signal (oldest (line g a b)) ≡ true
    → delivered g a b
    ≡ taken (with_settled
    (with_seat (with_line g a b (rest (line g a b))) b (hear (seat (with_line g a b (rest (line g a b))) b) a b (oldest (line g a b))))
    (word_after g.settled (cabinet g b) a b (oldest (line g a b))))
unfolding delivered finding word_after
fine_hear g a b e f s =
    hear_by (marked (in_use (cabinet g b)) a) g a b (oldest (line g a b)) e f s
    ∙ ap (λ u. taken (with_settled (with_seat (popped g a b) b u) (word_after g.settled (cabinet g b) a b (oldest (line g a b)))))
    (sym (asked_there g a b (oldest (line g a b))))

fault_by : (used : Bool) (g : Group) (a b : ℕ) (p : Packet) → cond used (finding_by (cabinet g b) a p) Fine ≡ LinkFault
    → cond used (receive g (popped g a b) a b p) (taken (popped g a b)) ≡ find_link_fault g (popped g a b) a b
fault_by true g a b p f = faulted g (popped g a b) a b p (ap (λ c. finding_by c a p) (cabinet_popped g a b) ∙ f)
fault_by false g a b p f = absurd (grind arith)

pub fault : (g : Group) (a b : ℕ) → finding (cabinet g b) a (oldest (line g a b)) ≡ LinkFault → delivered g a b ≡ link_fault g a b
unfolding delivered finding link_fault
fault g a b f = fault_by (marked (in_use (cabinet g b)) a) g a b (oldest (line g a b)) f

crash_by : (used : Bool) (g : Group) (a b : ℕ) (p : Packet) → cond used (finding_by (cabinet g b) a p) Fine ≡ Crash
    → cond used (receive g (popped g a b) a b p) (taken (popped g a b)) ≡ crashed g
crash_by true g a b p f = crashes g (popped g a b) a b p (ap (λ c. finding_by c a p) (cabinet_popped g a b) ∙ f)
crash_by false g a b p f = absurd (grind arith)

pub crash : (g : Group) (a b : ℕ) → finding (cabinet g b) a (oldest (line g a b)) ≡ Crash → delivered g a b ≡ crashed g
unfolding delivered finding
crash g a b f = crash_by (marked (in_use (cabinet g b)) a) g a b (oldest (line g a b)) f
