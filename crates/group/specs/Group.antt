-- The whole group: one accessor and one store function for each component, and what is asked of all cabinets at once.
-- Those marked `unfoldable` stay shut unless unfolded, so that a caller's goal names them and does not spell them out.
use Rattle.std.specs.Prelude.{ℕ, zero, suc, ◌+◌, Bool, not, ◌&&◌, List, [], ◌∷◌, get_or, set, replicate, ltb}
use Rattle.marks.specs.Marks.{Marks, lowest, covers, no_marks}
use Rattle.marks.specs.Reach.{Rows}
use Rattle.line.specs.declared.Line.{Line}
use Rattle.state.specs.declared.State.{State}
use Rattle.state.specs.declared.State.TheVariants.{Normal, Crashed}
use Rattle.image.specs.declared.Image.{Image}
use Rattle.store.specs.Store.{home_in, slot_at}
use Rattle.cabinet.specs.declared.Cabinet.{Cabinet}
use Rattle.group.specs.declared.Row.{Row}
use Rattle.outgoing.specs.declared.Outgoing.{Outgoing}
use Rattle.store.specs.declared.Store.{Store}
use Rattle.group.specs.declared.Group.{Group}
use Rattle.group.specs.declared.Outcome.{Outcome}
use Rattle.settled.specs.declared.Reason.{Reason}
use Rattle.settled.specs.Settled.{Settled}
use Rattle.settled.specs.Settled.{enters, ends}
use Rattle.state.specs.State.{works, is_in, in_recovery}
use Rattle.cabinet.specs.Cabinet.{absent, crashing}
use Rattle.outgoing.specs.Lines.{empty_lines, line_to, with_line_to, laden}

-- ---- the components, each replaced by one function

abbrev pub with_cabinets : Group → List Cabinet → Group
with_cabinets g cs = record { n = g.n; cabinets = cs; links = g.links; sound = g.sound; outgoing = g.outgoing; store = g.store; trips = g.trips; packets = g.packets; settled = g.settled }

abbrev pub with_sound_rows : Group → List Row → Group
with_sound_rows g rs = record { n = g.n; cabinets = g.cabinets; links = g.links; sound = rs; outgoing = g.outgoing; store = g.store; trips = g.trips; packets = g.packets; settled = g.settled }

abbrev pub with_lines : Group → List Outgoing → Group
with_lines g os = record { n = g.n; cabinets = g.cabinets; links = g.links; sound = g.sound; outgoing = os; store = g.store; trips = g.trips; packets = g.packets; settled = g.settled }

abbrev pub with_store : Group → Store → Group
with_store g s = record { n = g.n; cabinets = g.cabinets; links = g.links; sound = g.sound; outgoing = g.outgoing; store = s; trips = g.trips; packets = g.packets; settled = g.settled }

abbrev pub with_trips : Group → List ℕ → Group
with_trips g ts = record { n = g.n; cabinets = g.cabinets; links = g.links; sound = g.sound; outgoing = g.outgoing; store = g.store; trips = ts; packets = g.packets; settled = g.settled }

abbrev pub with_settled : Group → Settled → Group
with_settled g s = record { n = g.n; cabinets = g.cabinets; links = g.links; sound = g.sound; outgoing = g.outgoing; store = g.store; trips = g.trips; packets = g.packets; settled = s }

-- ---- cabinets

unfoldable pub cabinet : Group → ℕ → Cabinet
cabinet g i = get_or g.cabinets i absent

unfoldable pub with_cabinet : Group → ℕ → Cabinet → Group
with_cabinet g i c = with_cabinets g (set g.cabinets i c)

abbrev pub state_of : Group → ℕ → State
state_of g i = (cabinet g i).phase.state

-- ---- lines

unfoldable pub outgoing : Group → ℕ → Outgoing
outgoing g i = get_or g.outgoing i empty_lines

unfoldable pub with_outgoing : Group → ℕ → Outgoing → Group
with_outgoing g i o = with_lines g (set g.outgoing i o)

-- the line from a to b
unfoldable pub line : Group → ℕ → ℕ → Line
line g a b = line_to (outgoing g a) b

unfoldable pub with_line : Group → ℕ → ℕ → Line → Group
with_line g a b l = with_outgoing g a (with_line_to (outgoing g a) b l)

-- ---- the store: the home that serves a cabinet, and its slot 0 or 1 as store h has it

abbrev pub home : Group → ℕ → ℕ
home g c = home_in g.store c

abbrev pub slot : Group → ℕ → ℕ → Bool → Image
slot g h c v = slot_at g.store h c v

-- ---- how often each cabinet has tripped since the last commit

unfoldable pub trips_of : Group → ℕ → ℕ
trips_of g i = get_or g.trips i 0

unfoldable pub with_trips_of : Group → ℕ → ℕ → Group
with_trips_of g i k = with_trips g (set g.trips i k)

abbrev pub no_trips : List ℕ
no_trips = replicate 8 0

unfoldable pub forget_trips : Group → Group
forget_trips g = with_trips g no_trips

-- ---- which word settled the latest recovery (document 02, card 8)

-- cabinet i enters recovering by its own word
unfoldable pub settle : Group → ℕ → Reason → Group
settle g i r = with_settled g (enters g.settled i r)

-- the recovery ends
unfoldable pub settle_over : Group → Group
settle_over g = with_settled g (ends g.settled)

-- ---- links: "one row of eight marks for each cabinet"

abbrev pub no_row : Row
no_row = record { marks = no_marks }

unfoldable pub rows_of : List Row → Rows
rows_of rs =
    (get_or rs 0 no_row).marks ∷ (get_or rs 1 no_row).marks ∷ (get_or rs 2 no_row).marks ∷ (get_or rs 3 no_row).marks ∷ (get_or rs 4 no_row).marks
    ∷ (get_or rs 5 no_row).marks ∷ (get_or rs 6 no_row).marks ∷ (get_or rs 7 no_row).marks ∷ []

abbrev pub row_at : Rows → ℕ → Row
row_at rs i = record { marks = get_or rs i no_marks }

unfoldable pub of_rows : Rows → List Row
of_rows rs = row_at rs 0 ∷ row_at rs 1 ∷ row_at rs 2 ∷ row_at rs 3 ∷ row_at rs 4 ∷ row_at rs 5 ∷ row_at rs 6 ∷ row_at rs 7 ∷ []

unfoldable pub with_sound : Group → Rows → Group
with_sound g rs = with_sound_rows g (of_rows rs)

-- ---- asked of all cabinets

-- the row of those for which a test holds
abbrev pub those : (Cabinet → Bool) → Group → Marks
those f g =
    f (cabinet g 0) ∷ f (cabinet g 1) ∷ f (cabinet g 2) ∷ f (cabinet g 3) ∷ f (cabinet g 4) ∷ f (cabinet g 5) ∷ f (cabinet g 6)
    ∷ f (cabinet g 7) ∷ []

unfoldable pub some : Marks → Bool
some m = ltb (lowest m) 8

unfoldable pub working : Group → Marks
working g = those (λ c. works c.phase.state) g

-- those in error, recovering or recovered
unfoldable pub recovering_ones : Group → Marks
recovering_ones g = those (λ c. in_recovery c.phase.state) g

unfoldable pub is_crashed : Group → Bool
is_crashed g = some (those (λ c. is_in c.phase.state Crashed) g)

-- those in normal
unfoldable pub normal_ones : Group → Marks
normal_ones g = those (λ c. is_in c.phase.state Normal) g

-- those that have a packet in one of their lines
abbrev pub has_laden : Group → ℕ → Bool
has_laden g i = some (laden (outgoing g i))

unfoldable pub laden_ones : Group → Marks
laden_ones g =
    has_laden g 0 ∷ has_laden g 1 ∷ has_laden g 2 ∷ has_laden g 3 ∷ has_laden g 4 ∷ has_laden g 5 ∷ has_laden g 6 ∷ has_laden g 7 ∷ []

-- document 02, card 1: "every working cabinet in normal and every line empty"
unfoldable pub quiet : Group → Bool
quiet g = covers (normal_ones g) (working g) && not (some (laden_ones g))

-- ---- a number of each of the first n cabinets, added up

unfoldable pub sum : (ℕ → ℕ) → ℕ → ℕ
sum f zero = 0
sum f (suc n) = f n + sum f n

-- ---- answers

abbrev pub answering : ℕ → Group → Outcome
answering k g = record { answer = k; group = g }

-- a taken step, and "50 taken and the group crashed"
abbrev pub taken : Group → Outcome
taken g = answering 0 g

unfoldable pub crash_all : Group → Group
crash_all g =
    with_cabinets g
    (crashing (cabinet g 0) ∷ crashing (cabinet g 1) ∷ crashing (cabinet g 2) ∷ crashing (cabinet g 3) ∷ crashing (cabinet g 4)
    ∷ crashing (cabinet g 5) ∷ crashing (cabinet g 6) ∷ crashing (cabinet g 7) ∷ [])

abbrev pub crashed : Group → Outcome
crashed g = answering 50 (crash_all g)
