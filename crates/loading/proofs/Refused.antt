-- `load` by what the checks of a file answer; no refusal has the number 0.
use Rattle.std.proofs.Common.{ℕ, ◌≡◌, refl, sym, ◌∙◌, ap, List, false, true≢false, eq-eqb}
use Rattle.std.specs.Prelude.{eqb, Result, Err}
use Rattle.refusal.specs.declared.Refusal.{Refusal}
use Rattle.refusal.specs.declared.Refusal.TheVariants.{TooShort, CabinetCount, Lengths, CabinetEntries, LinkEntries, Unconnected, Totals, Malformed, UnusedField, AfterCrash, NoSuchCabinet, CabinetFailed, NotLinked, WrongState, WrongValue, NotCovered, LineFull, NothingThere, NotReady, HurtAlready, NoSuchPoint, NotQuiet, NoPlaceLeft, NobodyYet}
use Rattle.refusal.specs.Refusal.{number}
use Rattle.group.specs.declared.Group.{Group}
use Rattle.group.specs.Group.{answering, taken}
use Rattle.load.specs.Load.{rows_in, group_of, load_refusal, load_with, load}
use Rattle.load.proofs.Lists.{other}
use Rattle.loading.specs.Loading.{outcome_of}

never_zero : (refusal : Refusal) → eqb (number refusal) 0 ≡ false
never_zero TooShort = refl
never_zero CabinetCount = refl
never_zero Lengths = refl
never_zero CabinetEntries = refl
never_zero LinkEntries = refl
never_zero Unconnected = refl
never_zero Totals = refl
never_zero Malformed = refl
never_zero UnusedField = refl
never_zero AfterCrash = refl
never_zero NoSuchCabinet = refl
never_zero CabinetFailed = refl
never_zero NotLinked = refl
never_zero WrongState = refl
never_zero WrongValue = refl
never_zero NotCovered = refl
never_zero LineFull = refl
never_zero NothingThere = refl
never_zero NotReady = refl
never_zero HurtAlready = refl
never_zero NoSuchPoint = refl
never_zero NotQuiet = refl
never_zero NoPlaceLeft = refl
never_zero NobodyYet = refl

pub no_answer : (refusal : Refusal) → number refusal ≡ 0 → ⊥
no_answer refusal zero = true≢false (sym (eq-eqb (number refusal) 0 zero) ∙ never_zero refusal)

pub refused : (file : List ℕ) (result : Result Group Refusal) (refusal : Refusal) → result ≡ Err refusal → number refusal ≡ load_refusal file → outcome_of result ≡ load file
unfolding load
refused file result refusal is e = ap outcome_of is ∙ sym (other (eqb (number refusal) 0) _ _ (never_zero refusal)) ∙ ap (load_with file) e

pub loaded : (file : List ℕ) {group : Group} → 0 ≡ load_refusal file → group ≡ group_of file (rows_in file) → taken group ≡ load file
unfolding load
loaded file e q = ap (answering 0) q ∙ ap (load_with file) e
