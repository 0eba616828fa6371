-- A row of a chronicle: the answer to an operation, what it came to, and the group after it. docs/CHRONICLE.md has it in a table.
use Rattle.std.specs.Prelude.{ℕ, zero, suc, List, [], ◌∷◌, ◌++◌, Err, Ok}
use Rattle.settled.specs.Settled.{number_of}
use Rattle.group.specs.declared.Group.{Group}
use Rattle.group.specs.Group.{cabinet, home}
use Rattle.protocol.specs.Word.{Told}
use Rattle.protocol.specs.Word.{which_word}
use Rattle.newest.specs.declared.Sort.{Sort}
use Rattle.events.specs.Fates.{fate_in, ended_in}
use Rattle.events.specs.Deeds.{deeds}
use Rattle.layout.specs.Layout.{high, low, numbered, cabinet_octets, lines_from}

-- which word settled the latest recovery: the cabinet and its reason, or 0 and the refusal
abbrev pub told_first : Told → ℕ
told_first (Err k) = 0
told_first (Ok f) = numbered f.cabinet

abbrev pub told_second : Told → ℕ
told_second (Err k) = k
told_second (Ok f) = number_of f.reason

unfoldable pub head_octets : ℕ → ℕ → Told → ℕ → ℕ → List ℕ
head_octets answer fate told ended number = answer ∷ fate ∷ told_first told ∷ told_second told ∷ ended ∷ high number ∷ low number ∷ []

-- the cabinets below i; g is the group before the operation and g' after it
abbrev pub cabinets_to : ℕ → Group → Group → List ℕ
cabinets_to zero g g' = []
cabinets_to (suc i) g g' = cabinets_to i g g' ++ cabinet_octets (cabinet g' i) (home g' i) (deeds (cabinet g i) (cabinet g' i) i)

-- the save that the rule gives after it has the number `number`
unfoldable pub row_octets : ℕ → Group → Group → Sort → ℕ → List ℕ
row_octets answer g g' s number =
    head_octets answer (fate_in answer g s) (which_word g') (ended_in answer g g' s) number
    ++ cabinets_to g'.n g g' ++ lines_from g'.n g'.n g'
