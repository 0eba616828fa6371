-- What a cabinet did in an operation, told by its state before it and after it.
use Rattle.std.specs.Prelude.{ℕ, ◌+◌, ◌≡◌, Bool, cond, not, ◌&&◌, ◌||◌}
use Rattle.state.specs.declared.State.TheVariants.{Checkpointing}
use Rattle.state.specs.State.{is_in}
use Rattle.cabinet.specs.declared.Cabinet.{Cabinet}
use Rattle.group.specs.declared.Group.{Group}
use Rattle.group.specs.Group.{cabinet}
use Rattle.claims.specs.Fifo.{enters_error, fails, trips, emptied}

-- its outgoing lines were emptied, and the lines to it; c is cabinet i before the operation and c' after it
abbrev pub empties_out : Cabinet → Cabinet → Bool
empties_out c c' = enters_error c c' || fails c c'

abbrev pub empties_in : Cabinet → Cabinet → ℕ → Bool
empties_in c c' i = fails c c' || trips c c' i

-- it had its cut, as the history has it (`protocol.History.note_cuts`)
abbrev pub cuts : Cabinet → Cabinet → Bool
cuts c c' = is_in c'.phase.state Checkpointing && not (is_in c.phase.state Checkpointing)

unfoldable pub deeds : Cabinet → Cabinet → ℕ → ℕ
deeds c c' i = cond (empties_out c c') 1 0 + cond (empties_in c c' i) 2 0 + cond (cuts c c') 4 0

-- the line from a to b is emptied exactly where a's outgoing ones are or those to b are: with `claims.Fifo.FirstInFirstOut` these marks and the
-- record tell which packets of a line are those of the row before
abbrev pub EmptiedAsTold : Type 0
EmptiedAsTold =
    (g g' : Group) (a b : ℕ) → emptied g g' a b ≡ (empties_out (cabinet g a) (cabinet g' a) || empties_in (cabinet g b) (cabinet g' b) b)
