-- The chronicle of a run: for a group file and a list of records the answer to each, the group after it, and which save the rule gives then.
-- docs/CHRONICLE.md has its octets in tables.
use Rattle.std.specs.Prelude.{ℕ, suc, Bool, cond, List, [], ◌∷◌, ◌++◌, map, eqb}
use Rattle.packet.specs.declared.PacketVersion.{PacketVersion}
use Rattle.packet.specs.declared.PacketVersion.TheVariants.{One, Two}
use Rattle.group.specs.declared.Group.{Group}
use Rattle.group.specs.declared.Outcome.{Outcome}
use Rattle.load.specs.Load.{load}
use Rattle.protocol.specs.Listing.{parts}
use Rattle.protocol.specs.History.{Operation, World, advance, opening}
use Rattle.turns.specs.Turns.{record_size, operation_in, order_for}
use Rattle.newest.specs.declared.Sort.TheVariants.{Other}
use Rattle.newest.specs.Sorts.{sort_for}
use Rattle.numbers.specs.Numbers.{numbers_after, number_of, answer_to}
use Rattle.rows.specs.Rows.{row_octets}

-- "the first 10,000 records; a short last one counts as a record", of a list of steps or of a plan
abbrev pub first_operations : Bool → List ℕ → List Operation
first_operations plan list = map (operation_in plan) (parts (record_size plan) 10000 list)

abbrev pub version_number : PacketVersion → ℕ
version_number One = 1
version_number Two = 2

-- a row for each operation, the first with the number k; `numbers` are those of the history's saves before it
abbrev pub rows_from : ℕ → World → List ℕ → List Operation → List ℕ
rows_from k w numbers [] = []
rows_from k w numbers (x ∷ xs) =
    row_octets (answer_to w x) w.group (advance w x).group (sort_for (order_for x)) (number_of (numbers_after k w (advance w x) numbers))
    ++ rows_from (suc k) (advance w x) (numbers_after k w (advance w x) numbers) xs

-- the group as loaded, and what became of it
abbrev pub loaded_octets : Group → List Operation → List ℕ
loaded_octets g xs = (0 ∷ g.n ∷ version_number g.packets ∷ []) ++ row_octets 0 g g Other 0 ++ rows_from 1 (opening g) [] xs

abbrev pub chronicle_of : Outcome → List Operation → List ℕ
chronicle_of o xs = cond (eqb o.answer 0) (loaded_octets o.group xs) (o.answer ∷ [])

unfoldable pub chronicle : Bool → List ℕ → List ℕ → List ℕ
chronicle plan file list = chronicle_of (load file) (first_operations plan list)
