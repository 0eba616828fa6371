-- The listing: the whole text that the program prints for a group file and a file of step records.
use Rattle.std.specs.Prelude.{ℕ, zero, suc, ◌+◌, ◌/◌, ◌%◌, cond, List, [], ◌∷◌, ◌++◌, length, take, drop, eqb, ltb}
use Prim.Native.Char.{code}
use Prim.Native.String.{String, [] as nothing, ◌∷◌ as ◌then◌}
use Rattle.state.specs.declared.State.{State}
use Rattle.state.specs.declared.State.TheVariants.{Failed, Normal, CheckpBegin, Checkpointing, Checkpointed, Error, Recovering, Recovered, Crashed}
use Rattle.state.specs.declared.Version.{Version}
use Rattle.state.specs.declared.Version.TheVariants.{Known, Unknown, Lost}
use Rattle.cabinet.specs.declared.Cabinet.{Cabinet}
use Rattle.group.specs.declared.Group.{Group}
use Rattle.group.specs.declared.Outcome.{Outcome}
use Rattle.state.specs.State.{works}
use Rattle.outlet.specs.declared.Outlet.TheVariants.{A, B, W}
use Rattle.image.specs.declared.Image.{Image}
use Rattle.image.specs.Image.{booking}
use Rattle.group.specs.Group.{cabinet}
use Rattle.load.specs.Load.{load}
use Rattle.protocol.specs.Entry.{step_all, answers_from}

-- a text is the list of its ASCII octets
abbrev pub Text : Type 0
Text = List ℕ

-- a quoted text as that list
abbrev pub ascii : String → Text
ascii nothing = []
ascii (◌then◌ c s) = code c ∷ ascii s

-- ---- words

abbrev space : ℕ
space = 32

abbrev newline : ℕ
newline = 10

abbrev pub load_word : Text
load_word = ascii "load"

abbrev pub step_word : Text
step_word = ascii "step"

abbrev pub cab_word : Text
cab_word = ascii "cab"

-- the names of the states in 004 III-D, and failed
abbrev pub state_word : State → Text
state_word Failed = ascii "failed"
state_word Normal = ascii "normal"
state_word CheckpBegin = ascii "checkp-begin"
state_word Checkpointing = ascii "checkpointing"
state_word Checkpointed = ascii "checkpointed"
state_word Error = ascii "error"
state_word Recovering = ascii "recovering"
state_word Recovered = ascii "recovered"
state_word Crashed = ascii "crashed"

-- "version u for unknown"
abbrev pub version_word : Version → Text
version_word (Known v) = cond v 49 48 ∷ []
version_word (Unknown v) = 117 ∷ []
version_word Lost = 117 ∷ []

-- ---- numbers in decimal, of at most five digits

abbrev pub digits : ℕ → ℕ → Text
digits zero n = []
digits (suc f) n = cond (ltb n 10) ((48 + n) ∷ []) (digits f (n / 10) ++ ((48 + n % 10) ∷ []))

abbrev pub decimal : ℕ → Text
decimal n = digits 5 n

-- ---- lines

abbrev pub load_line : ℕ → Text
load_line k = load_word ++ space ∷ decimal k ++ newline ∷ []

-- what number k was answered
abbrev pub answer_line : Text → ℕ → ℕ → Text
answer_line word k answer = word ++ space ∷ decimal k ++ space ∷ decimal answer ++ newline ∷ []

abbrev pub step_line : ℕ → ℕ → Text
step_line k answer = answer_line step_word k answer

-- "The listing prints A's, then B's"; of the workshop "the listing prints its booking last"
abbrev pub bookings : Image → Text
bookings m = space ∷ decimal (booking A m) ++ space ∷ decimal (booking B m) ++ space ∷ decimal (booking W m)

-- the state and, unless it is failed, version and bookings
abbrev pub cab_rest : Cabinet → Text
cab_rest c =
    state_word c.phase.state
    ++ cond (works c.phase.state) (space ∷ version_word c.phase.version ++ bookings c.image) []

abbrev pub cab_line : ℕ → Cabinet → Text
cab_line i c = cab_word ++ space ∷ decimal (i + 1) ++ space ∷ cab_rest c ++ newline ∷ []

-- the lines of the cabinets below n
abbrev pub cab_lines : ℕ → Group → Text
cab_lines zero g = []
cab_lines (suc n) g = cab_lines n g ++ cab_line n (cabinet g n)

-- ---- the run

-- the first n parts of a list, of w each; a short last one counts
unfoldable pub parts : ℕ → ℕ → List ℕ → List (List ℕ)
parts w zero s = []
parts w (suc n) s = cond (eqb (length s) 0) [] (take w s ∷ parts w n (drop w s))

-- "the first 10,000 records; a short last one counts as a record"
abbrev pub records : ℕ → List ℕ → List (List ℕ)
records n s = parts 6 n s

-- a line for each answer, the first with the number k
abbrev pub step_lines : ℕ → List ℕ → Text
step_lines k [] = []
step_lines k (answer ∷ answers) = step_line k answer ++ step_lines (suc k) answers

-- the steps, and the cabinets after the last
unfoldable pub run_lines : Group → List (List ℕ) → Text
run_lines g rs = step_lines 1 (answers_from g rs) ++ cab_lines (step_all g rs).n (step_all g rs)

abbrev pub listing_of : Outcome → List ℕ → Text
listing_of o steps = cond (eqb o.answer 0) (run_lines o.group (records 10000 steps)) (load_line o.answer)

unfoldable pub listing : List ℕ → List ℕ → Text
listing file steps = listing_of (load file) steps
