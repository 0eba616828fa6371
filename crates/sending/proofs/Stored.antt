-- Send and note on parts, stored back, are the steps of the group. A refusal stores what was read.
use Prim.Native.Nat.{ℕ}
use mathlib.Core.Path.{◌≡◌, refl, ap, sym, ◌∙◌}
use mathlib.Core.Bool.{Bool, true, false, cond}
use lib.Dec.{eqb}
use Rattle.cabinet.specs.declared.Cabinet.{Cabinet}
use Rattle.cabinet.specs.Cabinet.{with_image}
use Rattle.image.specs.Image.{with_octet}
use Rattle.group.specs.declared.Group.{Group}
use Rattle.group.specs.declared.Outcome.{Outcome}
use Rattle.group.specs.Group.{cabinet, with_cabinet, state_of, line, with_line, answering, taken}
use Rattle.seat.specs.declared.SpotAnswer.{SpotAnswer}
use Rattle.seat.specs.Seat.{spot}
use Rattle.protocol.specs.Kinds as kinds
use Rattle.protocol.specs.Kinds.{or_refuse, send_step, note_step}
use Rattle.seat.proofs.Same.{cabinet_same, line_left}
use Rattle.sending.specs.Sending.{send_refusal, sent, send, note_refusal, note}

-- cabinet a and the line from it to b stored, with an answer
abbrev stored : Group → ℕ → ℕ → SpotAnswer → Outcome
stored g a b r = answering r.answer (with_line (with_cabinet g a r.cabinet) a b r.line)

-- what was read
unchanged : (g : Group) (a b k : ℕ) → answering k g ≡ stored g a b (spot k (cabinet g a) (line g a b))
unchanged g a b k = ap (answering k) (sym (line_left g a a b (cabinet g a) ∙ cabinet_same g a))

by_test : (t : Bool) (g : Group) (a b k : ℕ) (o : Outcome) (r : SpotAnswer) → o ≡ stored g a b r
    → cond t o (answering k g) ≡ stored g a b (cond t r (spot k (cabinet g a) (line g a b)))
by_test true g a b k o r e = e
by_test false g a b k o r e = unchanged g a b k

by_refusal : (g : Group) (a b k : ℕ) (o : Outcome) (r : SpotAnswer) → o ≡ stored g a b r
    → or_refuse k g o ≡ stored g a b (cond (eqb k 0) r (spot k (cabinet g a) (line g a b)))
by_refusal g a b k = by_test (eqb k 0) g a b k

sent_stored : (g : Group) (a b p q : ℕ) → taken (kinds.sent g a b p q) ≡ stored g a b (sent (cabinet g a) (line g a b) b p q g.packets)
unfolding kinds.sent sent
sent_stored g a b p q = refl

pub send_stored : (g : Group) (a b p q : ℕ)
    → send_step g a b p q
    ≡ answering (send (cabinet g a) (line g a b) b p q g.packets).answer
    (with_line (with_cabinet g a (send (cabinet g a) (line g a b) b p q g.packets).cabinet) a b (send (cabinet g a) (line g a b) b p q g.packets).line)
unfolding send_step send
send_stored g a b p q = by_refusal g a b (send_refusal (cabinet g a) (line g a b) b p q) _ _ (sent_stored g a b p q)

noted_stored : (g : Group) (a b : ℕ) (c : Cabinet) → taken (with_cabinet g a c) ≡ stored g a b (spot 0 c (line g a b))
noted_stored g a b c = ap taken (sym (line_left g a a b c))

-- for any b: its line stays
pub note_stored : (g : Group) (a b p q : ℕ)
    → note_step g a p q
    ≡ answering (note (cabinet g a) (line g a b) p q).answer
    (with_line (with_cabinet g a (note (cabinet g a) (line g a b) p q).cabinet) a b (note (cabinet g a) (line g a b) p q).line)
unfolding note_step note
note_stored g a b p q = by_refusal g a b (note_refusal (state_of g a) p q) _ _ (noted_stored g a b (with_image (cabinet g a) (with_octet (cabinet g a).image p q)))
