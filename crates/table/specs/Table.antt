-- Document 01, "The group": "Each cabinet has its own table of cabinets and links still in use."
-- Document 02, card 5: "So each table now names its coordinator, at first the lowest".
use Rattle.std.specs.Prelude.{ℕ, Bool, true, false, cond, set, eqb}
use Rattle.marks.specs.Marks.{Marks, both, next_up}
use Rattle.packet.specs.declared.Place.{Place}
use Rattle.packet.specs.declared.Place.TheVariants.{Failed as AtFailed, Tripped as AtTripped, Link as AtLink}
use Rattle.table.specs.declared.Table.{Table}

-- ---- what a table says

-- the neighbours over links in use: the table has the link and the cabinet
abbrev pub in_use : Table → Marks
in_use t = both t.links t.cabinets

-- who is coordinator: the one that the table names
abbrev pub coordinator : Table → ℕ
coordinator t = t.lead

-- ---- a table's parts replaced

abbrev pub with_cabinets : Table → Marks → Table
with_cabinets t m = record { cabinets = m; links = t.links; lead = t.lead }

abbrev pub with_links : Table → Marks → Table
with_links t m = record { cabinets = t.cabinets; links = m; lead = t.lead }

abbrev pub with_lead : Table → ℕ → Table
with_lead t k = record { cabinets = t.cabinets; links = t.links; lead = k }

-- ---- a place struck, and the lead that moves on

-- a place struck from the table of cabinet i: a cabinet that failed, or i's own end of a link; "nobody strikes a tripped one"
abbrev pub struck_at : ℕ → Place → Table → Table
struck_at i (AtFailed a) t = with_cabinets t (set t.cabinets a false)
struck_at i (AtTripped a) t = t
struck_at i (AtLink a b) t = with_links t (cond (eqb i a) (set t.links b false) (cond (eqb i b) (set t.links a false) t.links))

-- the place is cabinet k, failed or tripped
abbrev pub is_at : Place → ℕ → Bool
is_at (AtFailed a) k = eqb a k
is_at (AtTripped a) k = eqb a k
is_at (AtLink a b) k = false

-- "when that one fails or trips the next higher number in use takes over, after the highest the lowest"
abbrev pub led_on_if : Bool → Table → Table
led_on_if true t = with_lead t (next_up t.cabinets t.lead)
led_on_if false t = t

-- the table of cabinet i once it has entered error for a place
abbrev pub faulted_at : ℕ → Place → Table → Table
faulted_at i p t = led_on_if (is_at p (coordinator t)) (struck_at i p t)
