-- What covers a cabinet goes through every change that a rule makes to it alone. Of a packet sent or taken the covered cabinet sees how many there
-- were, and the amount where it is the buses'.
use Prim.Native.Nat.{ℕ, zero, suc, ◌+◌, ◌-◌, ◌%◌}
use mathlib.Core.Path.{◌≡◌, refl, sym, ap, ◌∙◌}
use mathlib.Core.Bool.{Bool, true, false}
use mathlib.Core.List.{List, map}
use lib.ListN.{get_or, set, get_or-map}
use lib.Dec.{ltb}
use Rattle.crc.specs.Crc.{start}
use Rattle.marks.specs.Marks.{Marks, marked, covers}
use Rattle.outlet.specs.declared.Outlet.{Outlet}
use Rattle.outlet.specs.declared.Outlet.TheVariants.{A, B, W}
use Rattle.outlet.specs.Outlet.{party_of}
use Rattle.packet.specs.declared.Payload.{Payload}
use Rattle.packet.specs.declared.Check.{Check}
use Rattle.packet.specs.Packet.{start_check, step_check}
use Rattle.registers.specs.Registers.{with_sent, with_taken, with_hurt, restart_if, restart_to}
use Rattle.image.specs.declared.Image.{Image}
use Rattle.image.specs.Image.{booking, with_booking, charged, credited}
use Rattle.state.specs.declared.State.TheVariants.{CheckpBegin, Checkpointing, Crashed}
use Rattle.state.specs.State.{works}
use Rattle.cabinet.specs.declared.Cabinet.{Cabinet}
use Rattle.cabinet.specs.Cabinet.{with_image, with_registers, with_noted, with_state, with_come, in_use, nothing_noted, sending, taking, beginning, comparing, cutting, wrote, blanked, fetched, crashing}
use Rattle.pairs.specs.Covered.{cover_from, cover_image, cover_of, cover_payload, cover_check, cover_registers, cover_cabinet}
use Rattle.pairs.proofs.Parts.{map_set, choose, booking_covered, bus_covered, workshop_covered, outlet_covered}

-- ---- changes that read nothing covered

restart_if_lem : (t : Bool) (rs : List Check) (j : ℕ) → map cover_check (restart_if t rs j) ≡ restart_if t (map cover_check rs) j
restart_if_lem true rs j = map_set cover_check rs j start_check
restart_if_lem false rs j = refl

restart_to_lem : (n : ℕ) (m : Marks) (rs : List Check) → map cover_check (restart_to n m rs) ≡ restart_to n m (map cover_check rs)
restart_to_lem zero m rs = refl
restart_to_lem (suc n) m rs =
    restart_if_lem (marked m n) (restart_to n m rs) n ∙ ap (λ (l : List Check). restart_if (marked m n) l n) (restart_to_lem n m rs)

pub begin_covered : (c : Cabinet) → cover_cabinet (beginning c) ≡ beginning (cover_cabinet c)
begin_covered c =
    ap (λ (l : List Check). with_noted (with_registers (with_state (cover_cabinet c) CheckpBegin) (with_sent (cover_registers c.registers) l)) nothing_noted)
    (restart_to_lem 8 (in_use c) c.registers.sent)

pub compare_covered : (j : ℕ) (c : Cabinet) → cover_cabinet (comparing c j) ≡ comparing (cover_cabinet c) j
compare_covered j c =
    ap (λ (l : List Check). with_come (with_registers (cover_cabinet c) (with_hurt (with_taken (cover_registers c.registers) l) (set c.registers.hurt j false))) (set c.noted.come j true))
    (map_set cover_check c.registers.taken j start_check)

pub cut_covered : (c : Cabinet) → cover_cabinet (cutting c) ≡ cutting (cover_cabinet c)
cut_covered c = choose cover_cabinet (covers c.noted.come (in_use c)) (with_state c Checkpointing) c

pub wrote_covered : (i : ℕ) (c : Cabinet) → cover_cabinet (wrote c i) ≡ wrote (cover_cabinet c) i
wrote_covered i c = choose cover_cabinet (ltb c.noted.pieces 3) _ _

pub blank_covered : (c : Cabinet) → cover_cabinet (blanked c) ≡ blanked (cover_cabinet c)
unfolding cover_image cover_from
blank_covered c = refl

pub fetch_covered : (c : Cabinet) (m : Image) → cover_cabinet (fetched c m) ≡ fetched (cover_cabinet c) (cover_image m)
fetch_covered c m = choose cover_cabinet (ltb c.noted.pieces 3) _ _

pub crash_covered : (c : Cabinet) → cover_cabinet (crashing c) ≡ crashing (cover_cabinet c)
crash_covered c = choose cover_cabinet (works c.phase.state) (with_state c Crashed) c

-- ---- a packet sent or taken

-- a covered register counts it
abbrev counted : Check → Check
counted c = record { crc = start; count = (c.count + 1) % 65536 }

abbrev pub counted_at : List Check → ℕ → List Check
counted_at rs j = set rs j (counted (get_or rs j start_check))

register_covered : (rs : List Check) (j : ℕ) (p : Payload) → map cover_check (set rs j (step_check (get_or rs j start_check) p)) ≡ counted_at (map cover_check rs) j
register_covered rs j p =
    map_set cover_check rs j (step_check (get_or rs j start_check) p)
    ∙ ap (λ (c : Check). set (map cover_check rs) j (counted c)) (sym (get_or-map cover_check rs j start_check))

-- a booking of the buses changes, the workshop's is covered
abbrev pub charged_bus : Outlet → Image → ℕ → Image
charged_bus A m q = charged m A q
charged_bus B m q = charged m B q
charged_bus W m q = m

abbrev pub credited_bus : Outlet → Image → ℕ → Image
credited_bus A m q = credited m A q
credited_bus B m q = credited m B q
credited_bus W m q = m

charged_covered : (o : Outlet) (m : Image) (q : ℕ) → cover_image (charged m o q) ≡ charged_bus o (cover_image m) q
charged_covered A m q = bus_covered A m (booking A m - q) refl ∙ ap (λ k. with_booking (cover_image m) A (k - q)) (sym (booking_covered A m refl))
charged_covered B m q = bus_covered B m (booking B m - q) refl ∙ ap (λ k. with_booking (cover_image m) B (k - q)) (sym (booking_covered B m refl))
charged_covered W m q = workshop_covered m (booking W m - q)

credited_covered : (o : Outlet) (m : Image) (q : ℕ) → cover_image (credited m o q) ≡ credited_bus o (cover_image m) q
credited_covered A m q = bus_covered A m ((booking A m + q) % 65536) refl ∙ ap (λ k. with_booking (cover_image m) A ((k + q) % 65536)) (sym (booking_covered A m refl))
credited_covered B m q = bus_covered B m ((booking B m + q) % 65536) refl ∙ ap (λ k. with_booking (cover_image m) B ((k + q) % 65536)) (sym (booking_covered B m refl))
credited_covered W m q = workshop_covered m ((booking W m + q) % 65536)

abbrev pub sending_bus : Cabinet → ℕ → Outlet → ℕ → Cabinet
sending_bus c j o q = with_image (with_registers c (with_sent c.registers (counted_at c.registers.sent j))) (charged_bus o c.image q)

pub send_covered : (c : Cabinet) (j : ℕ) (o : Outlet) (p : Payload) → cover_cabinet (sending c j o p) ≡ sending_bus (cover_cabinet c) j o p.amount
send_covered c j o p =
    ap (λ (l : List Check). with_image (with_registers (cover_cabinet c) (with_sent (cover_registers c.registers) l)) (cover_image (charged c.image o p.amount)))
    (register_covered c.registers.sent j p)
    ∙ ap (λ (m : Image). with_image (with_registers (cover_cabinet c) (with_sent (cover_registers c.registers) (counted_at (map cover_check c.registers.sent) j))) m)
    (charged_covered o c.image p.amount)

abbrev pub taking_bus : Cabinet → ℕ → Payload → Cabinet
taking_bus c j p =
    with_image (with_registers c (with_taken c.registers (counted_at c.registers.taken j))) (credited_bus p.outlet c.image p.amount)

-- the covered packet does the same
amount_kept : (o : Outlet) (m : Image) (p : Payload) → credited_bus o m p.amount ≡ credited_bus o m (cover_of (party_of o) p).amount
amount_kept A m p = refl
amount_kept B m p = refl
amount_kept W m p = refl

packet_does : (m : Image) (p : Payload) → credited_bus p.outlet m p.amount ≡ credited_bus (cover_payload p).outlet m (cover_payload p).amount
unfolding cover_payload
packet_does m p = amount_kept p.outlet m p ∙ ap (λ (o : Outlet). credited_bus o m (cover_payload p).amount) (sym (outlet_covered p))

pub take_covered : (c : Cabinet) (j : ℕ) (p : Payload) → cover_cabinet (taking c j p) ≡ taking_bus (cover_cabinet c) j (cover_payload p)
take_covered c j p =
    ap (λ (l : List Check). with_image (with_registers (cover_cabinet c) (with_taken (cover_registers c.registers) l)) (cover_image (credited c.image p.outlet p.amount)))
    (register_covered c.registers.taken j p)
    ∙ ap (λ (m : Image). with_image (with_registers (cover_cabinet c) (with_taken (cover_registers c.registers) (counted_at (map cover_check c.registers.taken) j))) m)
    (credited_covered p.outlet c.image p.amount ∙ packet_does (cover_image c.image) p)
