-- What a file, a step or an operation is refused for, and the number that is printed for it.
use Rattle.std.specs.Prelude.{ℕ, Result, Ok, Err}
use Rattle.refusal.specs.declared.Refusal.{Refusal}
use Rattle.refusal.specs.declared.Refusal.TheVariants.{TooShort, CabinetCount, Lengths, CabinetEntries, LinkEntries, Unconnected, Totals, Malformed, UnusedField, AfterCrash, NoSuchCabinet, CabinetFailed, NotLinked, WrongState, WrongValue, NotCovered, LineFull, NothingThere, NotReady, HurtAlready, NoSuchPoint, NotQuiet, NoPlaceLeft, NobodyYet}

abbrev pub number : Refusal → ℕ
number TooShort = 1
number CabinetCount = 2
number Lengths = 3
number CabinetEntries = 4
number LinkEntries = 5
number Unconnected = 6
number Totals = 7
number Malformed = 8
number UnusedField = 9
number AfterCrash = 10
number NoSuchCabinet = 11
number CabinetFailed = 12
number NotLinked = 13
number WrongState = 14
number WrongValue = 15
number NotCovered = 16
number LineFull = 17
number NothingThere = 18
number NotReady = 19
number HurtAlready = 20
number NoSuchPoint = 21
number NotQuiet = 22
number NoPlaceLeft = 23
number NobodyYet = 24

-- 0 for what is taken, or the refusal's number
abbrev pub answer_of : {A : Type 0} → Result A Refusal → ℕ
answer_of (Ok taken) = 0
answer_of (Err refusal) = number refusal

-- what was asked for, or the refusal's number
abbrev pub numbered : {A : Type 0} → Result A Refusal → Result A ℕ
numbered (Ok x) = Ok x
numbered (Err refusal) = Err (number refusal)
