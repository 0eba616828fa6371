-- Document 01, "Packets and the link check", with document 02, card 3: the check registers of one cabinet, and which lines in had a packet hurt.
use Rattle.std.specs.Prelude.{ℕ, zero, suc, Bool, true, false, List, get_or, set, replicate}
use Rattle.marks.specs.Marks.{Marks, marked, no_marks}
use Rattle.packet.specs.declared.Check.{Check}
use Rattle.packet.specs.declared.Payload.{Payload}
use Rattle.packet.specs.Packet.{start_check, step_check}
use Rattle.registers.specs.declared.Registers.{Registers}

-- ---- the parts, each replaced by one function

abbrev pub with_sent : Registers → List Check → Registers
with_sent r rs = record { sent = rs; taken = r.taken; hurt = r.hurt }

abbrev pub with_taken : Registers → List Check → Registers
with_taken r rs = record { sent = r.sent; taken = rs; hurt = r.hurt }

abbrev pub with_hurt : Registers → Marks → Registers
with_hurt r m = record { sent = r.sent; taken = r.taken; hurt = m }

-- ---- starting values

-- at the start, and "all of a cabinet's, both ways, when it enters recovered"
abbrev pub start_registers : Registers
start_registers = record { sent = replicate 8 start_check; taken = replicate 8 start_check; hurt = no_marks }

-- ---- normal packets: "It runs over the octets of normal packets, at the sender when put, at the receiver when taken."

abbrev pub run_over_sent : Registers → ℕ → Payload → Registers
run_over_sent r j p = with_sent r (set r.sent j (step_check (get_or r.sent j start_check) p))

abbrev pub run_over_taken : Registers → ℕ → Payload → Registers
run_over_taken r j p = with_taken r (set r.taken j (step_check (get_or r.taken j start_check) p))

-- "a normal packet of that line was hurt since the receiver's register restarted"
abbrev pub mark_hurt : Registers → ℕ → Registers
mark_hurt r j = with_hurt r (set r.hurt j true)

-- ---- restarts

-- "The sender's register restarts after a checkp is put", so on the lines in use
abbrev pub restart_if : Bool → List Check → ℕ → List Check
restart_if true rs j = set rs j start_check
restart_if false rs j = rs

abbrev pub restart_to : ℕ → Marks → List Check → List Check
restart_to zero m rs = rs
restart_to (suc n) m rs = restart_if (marked m n) (restart_to n m rs) n

abbrev pub restart_sent : Registers → Marks → Registers
restart_sent r m = with_sent r (restart_to 8 m r.sent)

-- ".. the receiver's after an equal comparison", and no packet counts as hurt since
abbrev pub restart_taken : Registers → ℕ → Registers
restart_taken r j = with_hurt (with_taken r (set r.taken j start_check)) (set r.hurt j false)
