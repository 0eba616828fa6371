-- The logical states of a cabinet and its version variable.
use Rattle.std.specs.Prelude.{ℕ, Bool, true, false, not, ◌||◌, eqb}
use Rattle.state.specs.declared.State.{State}
use Rattle.state.specs.declared.State.TheVariants.{Failed, Normal, CheckpBegin, Checkpointing, Checkpointed, Error, Recovering, Recovered, Crashed}
use Rattle.state.specs.declared.Version.{Version}
use Rattle.state.specs.declared.Version.TheVariants.{Known, Unknown, Lost}

-- a number for each state, by which states are compared
abbrev pub rank : State → ℕ
rank Failed = 0
rank Normal = 1
rank CheckpBegin = 2
rank Checkpointing = 3
rank Checkpointed = 4
rank Error = 5
rank Recovering = 6
rank Recovered = 7
rank Crashed = 8

abbrev pub is_in : State → State → Bool
is_in s t = eqb (rank s) (rank t)

-- "A working cabinet is one not failed."
abbrev pub works : State → Bool
works s = not (is_in s Failed)

-- in error, recovering or recovered: between the finding of a fault and the end of its recovery
abbrev pub in_recovery : State → Bool
in_recovery s = is_in s Error || (is_in s Recovering || is_in s Recovered)

abbrev pub in_restoring : State → Bool
in_restoring s = is_in s Recovering || is_in s Recovered

-- in checkpointing or checkpointed: past the cut of a save
abbrev pub in_saving : State → Bool
in_saving s = is_in s Checkpointing || is_in s Checkpointed

abbrev pub is_unknown : Version → Bool
is_unknown (Known v) = false
is_unknown (Unknown v) = true
is_unknown Lost = true

-- the version, and while it is unknown the old one; a lost one has none, and false stands for it
abbrev pub bit_of : Version → Bool
bit_of (Known v) = v
bit_of (Unknown v) = v
bit_of Lost = false

-- "keep version as old and set it to unknown"
abbrev pub doubted : Version → Version
doubted (Known v) = Unknown v
doubted (Unknown v) = Unknown v
doubted Lost = Lost

-- the commit at the coordinator: "flips its version"
abbrev pub flipped : Version → Version
flipped (Known v) = Known (not v)
flipped (Unknown v) = Unknown v
flipped Lost = Lost

-- a resume taken in checkpointed: "sets version to 1 − old"
abbrev pub adopted : Version → Version
adopted (Known v) = Known v
adopted (Unknown v) = Known (not v)
adopted Lost = Lost
