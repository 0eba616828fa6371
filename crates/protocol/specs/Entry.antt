-- The step entry: a record is decoded, checks 8 to 12 are made in order, and its kind's rule decides the rest.
use Rattle.std.specs.Prelude.{ℕ, ◌+◌, ◌-◌, ◌*◌, ◌/◌, ◌%◌, Bool, true, cond, not, ◌&&◌, List, [], ◌∷◌, length, get_or, eqb, leb}
use Rattle.group.specs.declared.Group.{Group}
use Rattle.group.specs.declared.Outcome.{Outcome}
use Rattle.state.specs.State.{works}
use Rattle.group.specs.Group.{state_of, is_crashed, answering}
use Rattle.protocol.specs.declared.Step.{Step}
use Rattle.protocol.specs.declared.Step.TheVariants.{Send, Note, Begin, Deliver, Write, Saved, Fetch, Restored, Fail, Damage, Lose, Trip, Unsure}
use Rattle.protocol.specs.declared.Decoded.{Decoded}
use Rattle.protocol.specs.declared.Decoded.TheVariants.{Malformed, Unused, Taken}
use Rattle.protocol.specs.Kinds.{need, or_refuse, send_step, note_step, begin_step, deliver_step, write_step, saved_step, fetch_step, restored_step, fail_step, damage_step, lose_step, trip_step, unsure_step}

-- ---- "A step record is six octets: kind, a, b, p, q (two octets)."

-- "Fields not named below must be 0."
abbrev pub if_zero : ℕ → Decoded → Decoded
if_zero x d = cond (eqb x 0) d Unused

-- the kinds that name a cabinet and nothing else
abbrev pub alone_of : ℕ → ℕ → Decoded
alone_of kind a =
    cond (eqb kind 3) (Taken (Begin a))
    (cond (eqb kind 5) (Taken (Write a))
    (cond (eqb kind 6) (Taken (Saved a))
    (cond (eqb kind 7) (Taken (Fetch a))
    (cond (eqb kind 8) (Taken (Restored a))
    (cond (eqb kind 10) (Taken (Fail a))
    (cond (eqb kind 13) (Taken (Trip a))
    (cond (eqb kind 14) (Taken (Unsure a)) Malformed)))))))

-- the numbers of kinds: "kind 9 is withdrawn and gives 8"
abbrev pub is_kind : ℕ → Bool
is_kind kind = leb 1 kind && (leb kind 14 && not (eqb kind 9))

-- document 02, card 7: damage reads "b's low four bits" and "p's low five"; the others say how far the pattern is shifted
abbrev pub damage_of : ℕ → ℕ → ℕ → ℕ → Step
damage_of a b p q = Damage a (b % 16) (p % 32) (record { mask = q; bits = p / 32; octets = b / 16 })

abbrev pub fields_of : ℕ → ℕ → ℕ → ℕ → ℕ → Decoded
fields_of kind a b p q =
    cond (eqb kind 1) (Taken (Send a b p q))
    (cond (eqb kind 2) (if_zero b (Taken (Note a p q)))
    (cond (eqb kind 4) (if_zero (p + q) (Taken (Deliver a b)))
    (cond (eqb kind 11) (Taken (damage_of a b p q))
    (cond (eqb kind 12) (if_zero q (Taken (Lose a b p)))
    (cond (is_kind kind) (if_zero (b + p + q) (alone_of kind a)) Malformed)))))

abbrev pub decode : List ℕ → Decoded
decode r = cond (eqb (length r) 6) (fields_of (get_or r 0 0) (get_or r 1 0) (get_or r 2 0) (get_or r 3 0) (get_or r 4 0 * 256 + get_or r 5 0)) Malformed

-- the paper's number for what a record decodes to: 0 where it is a step
abbrev pub decoded_number : Decoded → ℕ
decoded_number Malformed = 8
decoded_number Unused = 9
decoded_number (Taken s) = 0

-- ---- checks 10 to 12

-- the cabinets that a step names: the second is the first again where it names one only
abbrev pub first_of : Step → ℕ
first_of (Send a b p q) = a
first_of (Note a p q) = a
first_of (Begin a) = a
first_of (Deliver a b) = a
first_of (Write a) = a
first_of (Saved a) = a
first_of (Fetch a) = a
first_of (Restored a) = a
first_of (Fail a) = a
first_of (Damage a b p w) = a
first_of (Lose a b p) = a
first_of (Trip a) = a
first_of (Unsure a) = a

abbrev pub second_of : Step → ℕ
second_of (Send a b p q) = b
second_of (Note a p q) = a
second_of (Begin a) = a
second_of (Deliver a b) = b
second_of (Write a) = a
second_of (Saved a) = a
second_of (Fetch a) = a
second_of (Restored a) = a
second_of (Fail a) = a
second_of (Damage a b p w) = b
second_of (Lose a b p) = b
second_of (Trip a) = a
second_of (Unsure a) = a

-- "12 a failed (in deliver, b failed; saved and damage skip this check)"
abbrev pub actor_works : Group → Step → Bool
actor_works g (Send a b p q) = works (state_of g (a - 1))
actor_works g (Note a p q) = works (state_of g (a - 1))
actor_works g (Begin a) = works (state_of g (a - 1))
actor_works g (Deliver a b) = works (state_of g (b - 1))
actor_works g (Write a) = works (state_of g (a - 1))
actor_works g (Saved a) = true
actor_works g (Fetch a) = works (state_of g (a - 1))
actor_works g (Restored a) = works (state_of g (a - 1))
actor_works g (Fail a) = works (state_of g (a - 1))
actor_works g (Damage a b p w) = true
actor_works g (Lose a b p) = works (state_of g (a - 1))
actor_works g (Trip a) = works (state_of g (a - 1))
actor_works g (Unsure a) = works (state_of g (a - 1))

-- "cabinets, numbered 1 to n"
abbrev pub is_cabinet : Group → ℕ → Bool
is_cabinet g a = leb 1 a && leb a g.n

abbrev pub entry_refusal : Group → Step → ℕ
entry_refusal g s =
    need (not (is_crashed g)) 10 (need (is_cabinet g (first_of s) && is_cabinet g (second_of s)) 11 (need (actor_works g s) 12 0))

-- ---- the step

abbrev pub perform : Group → Step → Outcome
perform g (Send a b p q) = send_step g (a - 1) (b - 1) p q
perform g (Note a p q) = note_step g (a - 1) p q
perform g (Begin a) = begin_step g (a - 1)
perform g (Deliver a b) = deliver_step g (a - 1) (b - 1)
perform g (Write a) = write_step g (a - 1)
perform g (Saved a) = saved_step g (a - 1)
perform g (Fetch a) = fetch_step g (a - 1)
perform g (Restored a) = restored_step g (a - 1)
perform g (Fail a) = fail_step g (a - 1)
perform g (Damage a b p w) = damage_step g (a - 1) (b - 1) p w
perform g (Lose a b p) = lose_step g (a - 1) (b - 1) p
perform g (Trip a) = trip_step g (a - 1)
perform g (Unsure a) = unsure_step g (a - 1)

abbrev pub step_decoded : Group → Decoded → Outcome
step_decoded g Malformed = answering (decoded_number Malformed) g
step_decoded g Unused = answering (decoded_number Unused) g
step_decoded g (Taken s) = or_refuse (entry_refusal g s) g (perform g s)

unfoldable pub step : Group → List ℕ → Outcome
step g r = step_decoded g (decode r)

-- ---- several steps: "each step gets what the one before returned, refused or not"

-- the group after the last record
unfoldable pub step_all : Group → List (List ℕ) → Group
step_all g [] = g
step_all g (r ∷ rs) = step_all (step g r).group rs

-- what each record is answered
unfoldable pub answers_from : Group → List (List ℕ) → List ℕ
answers_from g [] = []
answers_from g (r ∷ rs) = (step g r).answer ∷ answers_from (step g r).group rs
