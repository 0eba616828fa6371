-- Document 02, card 8: which word settled the latest recovery. First the question, asked of the group, and the line that the program `word`
-- prints; then what the history says, from the groups before and after each step and never from the note.
use Rattle.std.specs.Prelude.{ℕ, ◌+◌, ◌-◌, Bool, true, false, cond, not, ◌&&◌, List, [], ◌∷◌, ◌++◌, eqb, ltb, None, Some, Result, Err, Ok}
use Rattle.std.proofs.Math.Option.{Option, none, some}
use Rattle.marks.specs.Marks.{Marks, lowest}
use Rattle.state.specs.declared.State.{State}
use Rattle.state.specs.declared.State.TheVariants.{Normal, Recovering}
use Rattle.state.specs.State.{is_in, in_recovery, is_unknown}
use Rattle.settled.specs.declared.First.{First}
use Rattle.settled.specs.Settled.{Settled}
use Rattle.settled.specs.Settled.{number_of, unfinished}
use Rattle.cabinet.specs.Cabinet.{coordinator}
use Rattle.group.specs.declared.Group.{Group}
use Rattle.group.specs.declared.Outcome.{Outcome}
use Rattle.group.specs.Group.{cabinet, state_of, is_crashed}
use Rattle.load.specs.Load.{load}
use Rattle.protocol.specs.declared.Step.{Step}
use Rattle.protocol.specs.declared.Step.TheVariants.{Send, Note, Begin, Deliver, Write, Saved, Fetch, Restored, Fail, Damage, Lose, Trip, Unsure}
use Rattle.protocol.specs.declared.Decoded.{Decoded}
use Rattle.protocol.specs.declared.Decoded.TheVariants.{Malformed, Unused, Taken}
use Rattle.protocol.specs.Entry.{decode, step, step_all}
use Rattle.protocol.specs.Listing.{Text, ascii, decimal, load_line, records}
use Rattle.protocol.specs.History.{Operation, stepping, pointing, returning, World, advance, opening, ends}

-- what is told of the word that settled the latest recovery: who it was, or a refusal's number
abbrev pub Told : Type 0
Told = Result First ℕ

-- ---- the question

-- "24 none has yet, asked after 10"
abbrev pub told_of : Settled → Told
told_of None = Err 24
told_of (Some f) = Ok f

unfoldable pub which_word : Group → Told
which_word g = cond (is_crashed g) (Err 10) (told_of g.settled)

-- its numbers: a refusal's alone, or "I R", cabinets numbered from 1
abbrev pub numbers_of : Told → List ℕ
numbers_of (Err k) = k ∷ []
numbers_of (Ok f) = (f.cabinet + 1) ∷ number_of f.reason ∷ []

-- ---- the program: "runs the listing's two files and prints one line, `word I R` (`load N` or `word N` if refused)"

abbrev pub spaced : List ℕ → Text
spaced [] = []
spaced (k ∷ ks) = 32 ∷ decimal k ++ spaced ks

abbrev pub word_line : List ℕ → Text
word_line ks = ascii "word" ++ spaced ks ++ 10 ∷ []

abbrev pub line_for : Outcome → List ℕ → Text
line_for o steps = cond (eqb o.answer 0) (word_line (numbers_of (which_word (step_all o.group (records 10000 steps))))) (load_line o.answer)

unfoldable pub word : List ℕ → List ℕ → Text
word file steps = line_for (load file) steps

-- ---- what the history says

-- of a cabinet "at its entry into error": whether it was coordinator before the fault, in its own table; whether it knew its version; and
-- which state it was in
pub record Entry : Type 0 where
  pub led : Bool
  pub knew : Bool
  pub state : State

pub record Account : Type 0 where
  -- each cabinet's last entry into error
  pub entry : ℕ → Option Entry
  -- one has entered recovering since the last recovery's end
  pub under_way : Bool
  -- in the latest recovery in which one has: the first, numbered from 0, and its reason
  pub first : Option (ℕ × ℕ)

abbrev pub nothing_told : Account
nothing_told = record { entry = λ i. none; under_way = false; first = none }

-- "1 to 4: it was coordinator before the fault and knew, it was in a save with pieces unfinished, it was in normal, or it decided under the
-- unsure rule. The first that fits, in that order."; 0 where none fits, which is never printed (`claims.Word.WordOfHistory`)
abbrev pub reason_in : Bool → Option Entry → ℕ
reason_in decided none = 0
reason_in decided (some e) =
    cond (e.led && e.knew) 1 (cond (unfinished e.state) 2 (cond (is_in e.state Normal) 3 (cond decided 4 0)))

-- cabinet i is in error, recovering or recovered after the step and was not before
abbrev pub enters_error : Group → Group → ℕ → Bool
enters_error g g' i = not (in_recovery (state_of g i)) && in_recovery (state_of g' i)

-- as it was before the step; who trips in it does not know
abbrev pub entry_of : Group → ℕ → ℕ → Entry
entry_of g tripped i = record {
  led = eqb (coordinator (cabinet g i)) i;
  knew = not (is_unknown (cabinet g i).phase.version) && not (eqb i tripped);
  state = state_of g i;
}

abbrev pub note_entries : Account → Group → Group → ℕ → Account
note_entries h g g' tripped = record {
  entry = λ i. cond (enters_error g g' i) (some (entry_of g tripped i)) (h.entry i);
  under_way = h.under_way;
  first = h.first;
}

abbrev pub enters_recovering : Group → Group → ℕ → Bool
enters_recovering g g' i = not (is_in (state_of g i) Recovering) && is_in (state_of g' i) Recovering

abbrev pub enterers : Group → Group → Marks
enterers g g' =
    enters_recovering g g' 0 ∷ enters_recovering g g' 1 ∷ enters_recovering g g' 2 ∷ enters_recovering g g' 3 ∷ enters_recovering g g' 4
    ∷ enters_recovering g g' 5 ∷ enters_recovering g g' 6 ∷ enters_recovering g g' 7 ∷ []

-- "the first cabinet that entered recovering, the lowest number where several did in one step": i of them, 8 where nobody did
abbrev pub note_first : Account → ℕ → Bool → Account
note_first h i decided =
    cond (ltb i 8 && not h.under_way) (record { entry = h.entry; under_way = true; first = some (i, reason_in decided (h.entry i)) }) h

-- "a second fault before it ends belongs to it"
abbrev pub note_over : Bool → Account → Account
note_over true h = record { entry = h.entry; under_way = false; first = h.first }
note_over false h = h

-- a taken step in which the cabinet `tripped` trips (8: none does), in which a cabinet decides if one enters recovering, and which ends a
-- recovery
abbrev pub tells : Account → Group → Group → ℕ → Bool → Bool → Account
tells h g g' tripped decided over = note_over over (note_first (note_entries h g g' tripped) (lowest (enterers g g')) decided)

-- g is the group before it and g' after it
abbrev pub watch : Account → Group → Group → Step → Account
watch h g g' (Send a b p q) = tells h g g' 8 false false
watch h g g' (Note a p q) = tells h g g' 8 false false
watch h g g' (Begin a) = tells h g g' 8 false false
watch h g g' (Deliver a b) = tells h g g' 8 false false
watch h g g' (Write a) = tells h g g' 8 false false
watch h g g' (Saved a) = tells h g g' 8 false false
watch h g g' (Fetch a) = tells h g g' 8 false false
watch h g g' (Restored a) = tells h g g' 8 false (ends g g' (a - 1))
watch h g g' (Fail a) = tells h g g' 8 false false
watch h g g' (Damage a b p w) = tells h g g' 8 false false
watch h g g' (Lose a b p) = tells h g g' 8 false false
watch h g g' (Trip a) = tells h g g' (a - 1) false false
watch h g g' (Unsure a) = tells h g g' 8 true false

abbrev pub watch_decoded : Account → Group → Outcome → Decoded → Account
watch_decoded h g o Malformed = h
watch_decoded h g o Unused = h
watch_decoded h g o (Taken s) = cond (eqb o.answer 0) (watch h g o.group s) h

abbrev pub watch_one : Account → World → Operation → Account
watch_one h w (stepping r) = watch_decoded h w.group (step w.group r) (decode r)
watch_one h w (pointing name) = h
watch_one h w (returning name) = h

-- after a list of operations
unfoldable pub account : Account → World → List Operation → Account
account h w [] = h
account h w (x ∷ xs) = account (watch_one h w x) (advance w x) xs

abbrev pub account_after : List ℕ → List Operation → Account
account_after f xs = account nothing_told (opening (load f).group) xs

abbrev pub said_of : Option (ℕ × ℕ) → List ℕ
said_of none = 24 ∷ []
said_of (some x) = (x.0 + 1) ∷ x.1 ∷ []

-- the numbers that the history gives to the same question
abbrev pub said : Group → Account → List ℕ
said g h = cond (is_crashed g) (10 ∷ []) (said_of h.first)
