-- One cabinet: what its table says, and each change that a rule of the documents makes to it alone.
use Rattle.std.specs.Prelude.{ℕ, ◌+◌, Bool, true, false, cond, set, eqb, ltb, None, Some}
use Rattle.marks.specs.Marks.{Marks, covers, either, without, no_marks}
use Rattle.outlet.specs.declared.Outlet.{Outlet}
use Rattle.packet.specs.declared.Payload.{Payload}
use Rattle.packet.specs.declared.Place.{Place}
use Rattle.registers.specs.declared.Registers.{Registers}
use Rattle.registers.specs.Registers.{start_registers, run_over_sent, run_over_taken, mark_hurt, restart_sent, restart_taken}
use Rattle.table.specs.declared.Table.{Table}
use Rattle.table.specs.Table.{is_at, faulted_at, in_use as table_in_use, coordinator as table_coordinator}
use Rattle.image.specs.Image.{blank_image, charged, credited}
use Rattle.state.specs.declared.State.{State}
use Rattle.state.specs.declared.State.TheVariants.{Failed, Normal, CheckpBegin, Checkpointing, Checkpointed, Error, Recovering, Recovered, Crashed}
use Rattle.state.specs.declared.Version.{Version}
use Rattle.state.specs.declared.Version.TheVariants.{Known, Lost}
use Rattle.cabinet.specs.Alarm.{Alarm}
use Rattle.cabinet.specs.declared.Phase.{Phase}
use Rattle.cabinet.specs.declared.Noted.{Noted}
use Rattle.image.specs.declared.Image.{Image}
use Rattle.cabinet.specs.declared.Cabinet.{Cabinet}
use Rattle.state.specs.State.{works, doubted}

-- ---- a cabinet's parts, each replaced by one function

abbrev pub with_phase : Cabinet → Phase → Cabinet
with_phase c p = record { phase = p; table = c.table; noted = c.noted; registers = c.registers; image = c.image; owed = c.owed }

abbrev pub with_table : Cabinet → Table → Cabinet
with_table c t = record { phase = c.phase; table = t; noted = c.noted; registers = c.registers; image = c.image; owed = c.owed }

abbrev pub with_noted : Cabinet → Noted → Cabinet
with_noted c n = record { phase = c.phase; table = c.table; noted = n; registers = c.registers; image = c.image; owed = c.owed }

abbrev pub with_registers : Cabinet → Registers → Cabinet
with_registers c r = record { phase = c.phase; table = c.table; noted = c.noted; registers = r; image = c.image; owed = c.owed }

abbrev pub with_image : Cabinet → Image → Cabinet
with_image c m = record { phase = c.phase; table = c.table; noted = c.noted; registers = c.registers; image = m; owed = c.owed }

abbrev pub with_owed : Cabinet → Marks → Cabinet
with_owed c o = record { phase = c.phase; table = c.table; noted = c.noted; registers = c.registers; image = c.image; owed = o }

-- .. and the parts of those
abbrev pub with_state : Cabinet → State → Cabinet
with_state c s = with_phase c (record { state = s; version = c.phase.version; alarm = c.phase.alarm })

abbrev pub with_version : Cabinet → Version → Cabinet
with_version c v = with_phase c (record { state = c.phase.state; version = v; alarm = c.phase.alarm })

abbrev pub with_alarm : Cabinet → Alarm → Cabinet
with_alarm c a = with_phase c (record { state = c.phase.state; version = c.phase.version; alarm = a })

abbrev pub with_come : Cabinet → Marks → Cabinet
with_come c m = with_noted c (record { come = m; pieces = c.noted.pieces; saved = c.noted.saved; restored = c.noted.restored; heard = c.noted.heard; former = c.noted.former; unsure = c.noted.unsure })

abbrev pub with_pieces : Cabinet → ℕ → Cabinet
with_pieces c k = with_noted c (record { come = c.noted.come; pieces = k; saved = c.noted.saved; restored = c.noted.restored; heard = c.noted.heard; former = c.noted.former; unsure = c.noted.unsure })

abbrev pub with_saved : Cabinet → Marks → Cabinet
with_saved c m = with_noted c (record { come = c.noted.come; pieces = c.noted.pieces; saved = m; restored = c.noted.restored; heard = c.noted.heard; former = c.noted.former; unsure = c.noted.unsure })

abbrev pub with_restored : Cabinet → Marks → Cabinet
with_restored c m = with_noted c (record { come = c.noted.come; pieces = c.noted.pieces; saved = c.noted.saved; restored = m; heard = c.noted.heard; former = c.noted.former; unsure = c.noted.unsure })

abbrev pub with_heard : Cabinet → Marks → Cabinet
with_heard c m = with_noted c (record { come = c.noted.come; pieces = c.noted.pieces; saved = c.noted.saved; restored = c.noted.restored; heard = m; former = c.noted.former; unsure = c.noted.unsure })

abbrev pub with_unsure : Cabinet → Marks → Cabinet
with_unsure c m = with_noted c (record { come = c.noted.come; pieces = c.noted.pieces; saved = c.noted.saved; restored = c.noted.restored; heard = c.noted.heard; former = c.noted.former; unsure = m })

-- ---- starting values

abbrev pub nothing_noted : Noted
nothing_noted = record { come = no_marks; pieces = 0; saved = no_marks; restored = no_marks; heard = no_marks; former = false; unsure = no_marks }

-- what stands at the numbers past n: a cabinet that does not work
abbrev pub absent : Cabinet
absent = record {
  phase = record { state = Failed; version = Known false; alarm = None };
  table = record { cabinets = no_marks; links = no_marks; lead = 8 };
  noted = nothing_noted;
  registers = start_registers;
  image = blank_image;
  owed = no_marks;
}

-- ---- what a cabinet's table says: its neighbours over links in use, and its coordinator

abbrev pub in_use : Cabinet → Marks
in_use c = table_in_use c.table

abbrev pub coordinator : Cabinet → ℕ
coordinator c = table_coordinator c.table

-- ---- normal packets

-- a send from outlet o taken: the amount leaves its booking, and the sender's register runs over the packet
abbrev pub sending : Cabinet → ℕ → Outlet → Payload → Cabinet
sending c j o p = with_image (with_registers c (run_over_sent c.registers j p)) (charged c.image o p.amount)

-- a packet taken: the amount joins the booking of the outlet that it names, and the receiver's register runs over the packet
abbrev pub taking : Cabinet → ℕ → Payload → Cabinet
taking c j p = with_image (with_registers c (run_over_taken c.registers j p)) (credited c.image p.outlet p.amount)

-- a normal packet of the line from j was hurt
abbrev pub hurt_from : Cabinet → ℕ → Cabinet
hurt_from c j = with_registers c (mark_hurt c.registers j)

-- ---- saving

-- enters checkp-begin, once its checkps are put; nothing is noted yet of the new save
abbrev pub beginning : Cabinet → Cabinet
beginning c = with_noted (with_registers (with_state c CheckpBegin) (restart_sent c.registers (in_use c))) nothing_noted

-- an equal comparison with the checkp from j: it has come, and the receiver's register restarts
abbrev pub comparing : Cabinet → ℕ → Cabinet
comparing c j = with_come (with_registers c (restart_taken c.registers j)) (set c.noted.come j true)

-- "With checkp from all neighbours in use (none left counts as all) the cabinet enters checkpointing": its cut
abbrev pub cutting : Cabinet → Cabinet
cutting c = cond (covers c.noted.come (in_use c)) (with_state c Checkpointing) c

-- one piece more is written; with piece 3 cabinet i enters checkpointed, and all but the coordinator keep the version as old
abbrev pub wrote : Cabinet → ℕ → Cabinet
wrote c i =
    cond (ltb c.noted.pieces 3) (with_pieces c (c.noted.pieces + 1))
    (with_pieces
    (with_version (with_state c Checkpointed) (cond (eqb (coordinator c) i) c.phase.version (doubted c.phase.version))) 4)

-- a home owes the saved report on j, or has made it
abbrev pub owing : Cabinet → ℕ → Bool → Cabinet
owing c j o = with_owed c (set c.owed j o)

-- .. and the reports of a home that it takes over from; it owes none of these any more; it owes nothing
abbrev pub owing_also : Cabinet → Marks → Cabinet
owing_also c m = with_owed c (either c.owed m)

abbrev pub owing_but : Cabinet → Marks → Cabinet
owing_but c m = with_owed c (without c.owed m)

abbrev pub owing_none : Cabinet → Cabinet
owing_none c = with_owed c no_marks

-- the coordinator has the saved report on j
abbrev pub saved_for : Cabinet → ℕ → Cabinet
saved_for c j = with_saved c (set c.noted.saved j true)

-- enters normal with a version; nothing is noted any more
abbrev pub resuming : Cabinet → Version → Cabinet
resuming c v = with_noted (with_phase c (record { state = Normal; version = v; alarm = None })) nothing_noted

-- ---- failing and recovering

-- what is noted on entering error: whether the place is the coordinator as it was before, and nothing else
abbrev pub fault_noted : Bool → Noted
fault_noted f = record { come = no_marks; pieces = 0; saved = no_marks; restored = no_marks; heard = no_marks; former = f; unsure = no_marks }

-- "Entering error: strike the place from the table, .. forget what was noted ..; a home forgets the reports it owes"; the lead moves on
-- where the place is the coordinator, which is noted
abbrev pub alarmed : Cabinet → ℕ → Place → Cabinet
alarmed c i p =
    owing_none
    (with_noted (with_table (with_alarm (with_state c Error) (Some p)) (faulted_at i p c.table)) (fault_noted (is_at p (coordinator c))))

-- a trip "turns cabinet a's image to zeros and its version to unknown", with no old one
abbrev pub blanked : Cabinet → Cabinet
blanked c = with_image (with_version c Lost) blank_image

-- the fault packet of neighbour j has come
abbrev pub hearing : Cabinet → ℕ → Cabinet
hearing c j = with_heard c (set c.noted.heard j true)

-- the coordinator has the report of j that it is unsure
abbrev pub unsure_for : Cabinet → ℕ → Cabinet
unsure_for c j = with_unsure c (set c.noted.unsure j true)

-- enters recovering with a known version
abbrev pub recovering : Cabinet → Bool → Cabinet
recovering c v = with_version (with_state c Recovering) (Known v)

-- one piece more is fetched; with piece 3 the cabinet enters recovered, and all its registers restart
abbrev pub fetched : Cabinet → Image → Cabinet
fetched c m =
    cond (ltb c.noted.pieces 3) (with_image (with_pieces c (c.noted.pieces + 1)) m)
    (with_image (with_registers (with_pieces (with_state c Recovered) 4) start_registers) m)

-- the coordinator has the restored report of j
abbrev pub restored_for : Cabinet → ℕ → Cabinet
restored_for c j = with_restored c (set c.noted.restored j true)

-- "crash .. puts every working cabinet .. in crashed and does nothing else"
abbrev pub crashing : Cabinet → Cabinet
crashing c = cond (works c.phase.state) (with_state c Crashed) c
