-- The same rows with the number of the save as a run keeps it: what the loop is promised equal to. That they are those of `Chronicle` is proved
-- (proofs/Same.antt), for every run from a loaded file.
use Rattle.std.specs.Prelude.{ℕ, suc, Bool, List, [], ◌∷◌, ◌++◌}
use Rattle.protocol.specs.declared.Site.{Site}
use Rattle.protocol.specs.declared.Turn.{Turn}
use Rattle.protocol.specs.Evening.{operate}
use Rattle.protocol.specs.History.{Operation}
use Rattle.turns.specs.Turns.{order_for}
use Rattle.steps.specs.Steps.{operations_of}
use Rattle.newest.specs.declared.Sort.{Sort}
use Rattle.newest.specs.declared.Newest.{Newest}
use Rattle.newest.specs.Sorts.{sort_for}
use Rattle.newest.specs.Newest.{start_newest, newest_in}
use Rattle.rows.specs.Rows.{row_octets}

-- operation k of sort s is answered and leaves what t says
abbrev pub newest_of : ℕ → Site → Turn → Sort → Newest → Newest
newest_of k here t s m = newest_in t.answer m k here.group t.site.group s

abbrev pub row_of : ℕ → Site → Turn → Sort → Newest → List ℕ
row_of k here t s m = row_octets t.answer here.group t.site.group s (newest_of k here t s m).number

abbrev pub rows_by : ℕ → Site → Newest → List Operation → List ℕ
rows_by k here m [] = []
rows_by k here m (x ∷ xs) =
    row_of k here (operate here x) (sort_for (order_for x)) m
    ++ rows_by (suc k) (operate here x).site (newest_of k here (operate here x) (sort_for (order_for x)) m) xs

-- the rows of all records of a list
unfoldable pub rows_of : Bool → Site → List ℕ → List ℕ
rows_of plan here list = rows_by 1 here start_newest (operations_of plan list)
