-- One step line more, and how long the lines are.
use Prim.Native.Nat.{ℕ, zero, suc, ◌+◌, ◌*◌, ◌≤◌}
use mathlib.Core.Path.{◌≡◌, sym, ap, ◌∙◌}
use mathlib.Core.Bool.{Bool, true, false, cond}
use mathlib.Core.List.{List, [], ◌∷◌, ◌++◌, append_assoc, append-nil}
use native.Mathlib.Nat.{add-zero, add-suc, suc-add}
use native.Mathlib.Omega.{arith}
use lib.ListN.{length, length-append}
use Rattle.state.specs.declared.State.{State}
use Rattle.state.specs.declared.State.TheVariants.{Failed, Normal, CheckpBegin, Checkpointing, Checkpointed, Error, Recovering, Recovered, Crashed}
use Rattle.state.specs.declared.Version.{Version}
use Rattle.state.specs.declared.Version.TheVariants.{Known, Unknown, Lost}
use Rattle.cabinet.specs.declared.Cabinet.{Cabinet}
use Rattle.state.specs.State.{works}
use Rattle.outlet.specs.declared.Outlet.TheVariants.{A, B, W}
use Rattle.image.specs.Image.{booking}
use Rattle.group.specs.declared.Group.{Group}
use Rattle.group.specs.Group.{cabinet}
use Rattle.protocol.specs.Listing.{Text, state_word, version_word, bookings, load_line, step_line, step_lines, cab_line, cab_lines}
use Rattle.buffer.proofs.Digits.{at_most}

-- ---- one line more

one_more : (k : ℕ) (answers : List ℕ) (answer : ℕ) → step_lines k (answers ++ (answer ∷ [])) ≡ step_lines k answers ++ step_line (k + length answers) answer
one_more k [] answer = rw (add-zero k) (append-nil (step_line k answer))
one_more k (a ∷ answers) answer =
    rw (add-suc k (length answers), ← suc-add k (length answers))
    (ap (λ (t : Text). step_line k a ++ t) (one_more (suc k) answers answer) ∙ sym (append_assoc (step_line k a) (step_lines (suc k) answers) (step_line (suc k + length answers) answer)))

pub next_line : (answers : List ℕ) (i answer : ℕ) → length answers ≡ i → step_lines 1 (answers ++ (answer ∷ [])) ≡ step_lines 1 answers ++ step_line (i + 1) answer
next_line answers i answer e =
    let k : i + 1 ≡ 1 + length answers = omega arith in
    rw k (one_more 1 answers answer)

-- ---- lengths

pub load_length : (k : ℕ) → length (load_line k) ≤ 11
load_length k = simp length-append (omega (arith, at_most 5 k))

step_length : (k answer : ℕ) → length (step_line k answer) ≤ 17
step_length k answer = simp length-append (omega (arith, at_most 5 k, at_most 5 answer))

pub steps_length : (k : ℕ) (answers : List ℕ) → length (step_lines k answers) ≤ 17 * length answers
steps_length k [] = omega arith
steps_length k (a ∷ answers) = rw (length-append (step_line k a) (step_lines (suc k) answers)) (omega (arith, step_length k a, steps_length (suc k) answers))

state_length : (s : State) → length (state_word s) ≤ 13
state_length Failed = omega arith
state_length Normal = omega arith
state_length CheckpBegin = omega arith
state_length Checkpointing = omega arith
state_length Checkpointed = omega arith
state_length Error = omega arith
state_length Recovering = omega arith
state_length Recovered = omega arith
state_length Crashed = omega arith

version_length : (v : Version) → length (version_word v) ≤ 1
version_length (Known b) = omega arith
version_length (Unknown b) = omega arith
version_length Lost = omega arith

either_length : (b : Bool) (t : Text) → length (cond b t []) ≤ length t
either_length true t = omega arith
either_length false t = omega arith

cab_length : (i : ℕ) (c : Cabinet) → length (cab_line i c) ≤ 44
cab_length i c =
    let t : Text = 32 ∷ version_word c.phase.version ++ bookings c.image in
    let e : length t ≤ 20 =
    simp length-append (omega (arith, version_length c.phase.version, at_most 5 (booking A c.image), at_most 5 (booking B c.image), at_most 5 (booking W c.image))) in
    simp length-append
    (omega (arith, at_most 5 (i + 1), state_length c.phase.state, either_length (works c.phase.state) t))

pub cabs_length : (n : ℕ) (g : Group) → length (cab_lines n g) ≤ 44 * n
cabs_length zero g = omega arith
cabs_length (suc n) g = rw (length-append (cab_lines n g) (cab_line n (cabinet g n))) (omega (arith, cabs_length n g, cab_length n (cabinet g n)))
