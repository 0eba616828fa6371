-- Document 02, card 6: "A recovery that ended under the wait, with one report of each working cabinet in the wait's place and whatever steps
-- after, ends in the same save if it ends." Cabinets count from 0 here, in a record from 1.
use Rattle.std.specs.Prelude.{ℕ, zero, suc, ◌+◌, ◌≡◌, Bool, false, cond, ◌&&◌, ◌||◌, List, [], ◌∷◌, map, get_or, eqb}
use Rattle.std.proofs.Math.Option.{Option, none, some}
use Rattle.outlet.specs.declared.Party.{Party}
use Rattle.marks.specs.Marks.{marked}
use Rattle.state.specs.declared.State.TheVariants.{Error, Recovering}
use Rattle.state.specs.State.{works}
use Rattle.cabinet.specs.Cabinet.{coordinator}
use Rattle.group.specs.declared.Group.{Group}
use Rattle.group.specs.Group.{cabinet, state_of, is_crashed}
use Rattle.load.specs.Load.{load, cabinet_count, feeder_total}
use Rattle.protocol.specs.Wait.{wait_over_refusal, waited_over}
use Rattle.protocol.specs.Entry.{step}
use Rattle.protocol.specs.History.{Operation, stepping, pointing, returning, World, advance, run, opening, ends, latest}
use Rattle.protocol.specs.Restored.{Octets, OctetsIn, AllOctets, Restored}

-- ---- runs with waits

-- nobody's report stands at a cabinet in error
abbrev pub NoReports : Group → Type 0
NoReports g = (c j : ℕ) → state_of g c ≡ Error → marked (cabinet g c).noted.unsure j ≡ false

-- wait over at a is refused by no check (11 and 12 ask no more: a cabinet in error works)
pub record WaitTaken (g : Group) (a : ℕ) : Type 0 where
  pub running : is_crashed g ≡ false
  pub fine : wait_over_refusal g a ≡ 0

-- .. and taken: the history notes nothing of it
abbrev pub waited : World → ℕ → World
waited w a = record { group = waited_over w.group a; points = w.points; history = w.history }

-- what operations lead to, with waits among them where nobody's report stands
pub data Reached (f : List ℕ) : World → Type 0 where
  start : Reached f (opening (load f).group)
  next : {w : World} (x : Operation) → OctetsIn x → Reached f w → Reached f (advance w x)
  wait : {w : World} (a : ℕ) → WaitTaken w.group a → NoReports w.group → Reached f w → Reached f (waited w a)

-- a record of kind 14
abbrev pub is_report : Operation → Bool
is_report (stepping r) = eqb (get_or r 0 0) 14
is_report (pointing name) = false
is_report (returning name) = false

-- the runs of before this card: no operation is a report, and wait over may be taken, there by a record of kind 9
pub data Before (f : List ℕ) : World → Type 0 where
  loaded : Before f (opening (load f).group)
  operated : {w : World} (x : Operation) → OctetsIn x → is_report x ≡ false → Before f w → Before f (advance w x)
  waited_at : {w : World} (a : ℕ) → WaitTaken w.group a → Before f w → Before f (waited w a)

-- in them nobody's report stands
abbrev pub BeforeUnreported : Type 0
BeforeUnreported = (f : List ℕ) → Octets f → (load f).answer ≡ 0 → (w : World) → Before f w → Reached f w × NoReports w.group

-- ---- where a recovery ends

-- the coordinator in the table of a working cabinet below n goes from recovered to normal
unfoldable pub ends_below : ℕ → Group → Group → Bool
ends_below zero g g' = false
ends_below (suc j) g g' = (works (state_of g j) && ends g g' j) || ends_below j g g'

-- the world in which the first of the operations that ends a recovery leaves it
unfoldable pub first_end : World → List Operation → Option World
first_end w [] = none
first_end w (x ∷ xs) = cond (ends_below 8 w.group (advance w x).group) (some (advance w x)) (first_end (advance w x) xs)

-- ---- the reports

-- cabinet c reports unsure
abbrev pub unsure_record : ℕ → List ℕ
unsure_record c = 14 ∷ suc c ∷ 0 ∷ 0 ∷ 0 ∷ 0 ∷ []

abbrev pub report : ℕ → Operation
report c = stepping (unsure_record c)

-- how often a cabinet stands in a list
unfoldable pub times : ℕ → List ℕ → ℕ
times c [] = 0
times c (x ∷ xs) = cond (eqb c x) 1 0 + times c xs

-- "one report of each working cabinet", in any order
abbrev pub OneOfEach : Group → List ℕ → Type 0
OneOfEach g cs = (c : ℕ) → times c cs ≡ cond (works (state_of g c)) 1 0

-- one after the other, each is taken
unfoldable pub AllTaken : World → List ℕ → Type 0
AllTaken w [] = Unit {0}
AllTaken w (c ∷ cs) = ((step w.group (unsure_record c)).answer ≡ 0) × AllTaken (advance w (report c)) cs

-- ---- the claim

-- from w one report of each in cs, where under the wait the recovery ended in u
pub record Replaced (n : ℕ) (total : Party → ℕ) (w u : World) (k : ℕ) (cs : List ℕ) : Type 0 where
  -- under the wait all was restored
  pub restored : Restored n total u.history u.group
  -- each report is taken, and with the last one the coordinator goes on
  pub taken : AllTaken w cs
  pub decided : state_of (run w (map report cs)).group k ≡ Recovering
  -- whatever operations come after, where the recovery ends all is restored, and from the same save
  pub same : (ys : List Operation) → AllOctets ys → (t : World) → first_end (run w (map report cs)) ys ≡ some t
      → Restored n total t.history t.group × (latest u.history ≡ latest t.history)

-- who decides: the one that the waiting cabinet's table names
abbrev pub decider : Group → ℕ → ℕ
decider g a = coordinator (cabinet g a)

-- a recovery that ended with the wait at a, and one report of each in the wait's place
abbrev pub SameInPlace : List ℕ → World → ℕ → Type 0
SameInPlace f w a =
    (xs : List Operation) → AllOctets xs → (u : World) → first_end (waited w a) xs ≡ some u
    → (cs : List ℕ) → OneOfEach w.group cs → Replaced (cabinet_count f) (feeder_total f) w u (decider w.group a) cs

-- from every state of a run in which wait over would be taken and nobody's report stands
abbrev pub NoClock : Type 0
NoClock =
    (f : List ℕ) → Octets f → (load f).answer ≡ 0 → (w : World) → Reached f w → (a : ℕ) → WaitTaken w.group a → NoReports w.group
    → SameInPlace f w a

-- so from every state of a run of before this card in which it would be taken
abbrev pub NoClockBefore : Type 0
NoClockBefore =
    (f : List ℕ) → Octets f → (load f).answer ≡ 0 → (w : World) → Before f w → (a : ℕ) → WaitTaken w.group a → SameInPlace f w a
