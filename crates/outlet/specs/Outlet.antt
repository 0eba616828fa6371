-- Document 02, cards 2 and 9: "The new model has outlets A and B", and "The depot workshop gets its own booking". How a send and a packet name
-- the three, and which party each belongs to.
use Rattle.std.specs.Prelude.{ℕ, Bool, true, false, cond, eqb}
use Rattle.outlet.specs.declared.Outlet.{Outlet}
use Rattle.outlet.specs.declared.Outlet.TheVariants.{A, B, W}
use Rattle.outlet.specs.declared.Party.{Party}
use Rattle.outlet.specs.declared.Party.TheVariants.{Buses, Workshop}
use Rattle.outlet.specs.declared.Ends.{Ends}

-- "the normal packet's first octet holds the receiving outlet as 0x00 or 0x01"; "Normal packets carry 0x02 first for the workshop"
abbrev pub octet_of : Outlet → ℕ
octet_of A = 0x00
octet_of B = 0x01
octet_of W = 0x02

-- "A send names the outlet at each end in p (0 AA, 1 AB, 2 BA, 3 BB)": the sender's first; for the workshop "a send's p is 4". A send with
-- p above 4 is refused (`protocol.Kinds.send_refusal`).
abbrev pub ends_of : ℕ → Ends
ends_of p =
    cond (eqb p 0) (record { from = A; to = A })
    (cond (eqb p 1) (record { from = A; to = B })
    (cond (eqb p 2) (record { from = B; to = A })
    (cond (eqb p 3) (record { from = B; to = B }) (record { from = W; to = W }))))

-- the two parties that share the lines: the buses and the workshop
abbrev pub party_of : Outlet → Party
party_of A = Buses
party_of B = Buses
party_of W = Workshop

abbrev pub same_party : Party → Party → Bool
same_party Buses Buses = true
same_party Buses Workshop = false
same_party Workshop Buses = false
same_party Workshop Workshop = true
