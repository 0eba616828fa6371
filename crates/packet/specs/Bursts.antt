-- Document 02, card 7: what a packet's own check sees, and what damage does to a normal packet. Proved in `proofs/Bursts.antt`, for every packet and every pattern.
-- "Damage may hit all five octets but the first, within 16 neighbouring bits".
-- That no hurt packet is committed is said of whole groups (`CommitsUnhurt` in `claims.Saves`).
use Rattle.std.specs.Prelude.{◌≡◌, ℕ, ◌<◌, true, false, ◌≢◌, None, Some}
use Rattle.outlet.specs.declared.Outlet.{Outlet}
use Rattle.packet.specs.declared.PacketVersion.{PacketVersion}
use Rattle.packet.specs.declared.Pattern.{Pattern}
use Rattle.packet.specs.declared.Payload.{Payload}
use Rattle.packet.specs.declared.Check.{Check}
use Rattle.packet.specs.Packet.{packed, fits, step_check, pattern_right, hurt_by}

-- a packet as it is put fits
abbrev pub PutFits : Type 0
PutFits = (v : PacketVersion) (o : Outlet) (m : ℕ) → fits (packed v o m) ≡ true

-- damage that is taken is always seen where a packet carries its own check: the packet fitted, and the hurt one does not
abbrev pub BurstsSeen : Type 0
BurstsSeen =
    (p : Payload) (c : ℕ) → p.own ≡ Some c → fits p ≡ true
    → (v : PacketVersion) (w : Pattern) → w.mask < 65536 → pattern_right v w ≡ true → fits (hurt_by p w) ≡ false

-- the link's register does not stand in for the comparison: over packets that fit it tells how many they are, and not which
abbrev pub FittingAlike : Type 0
FittingAlike =
    (p q : Payload) (c d : ℕ) → p.own ≡ Some c → q.own ≡ Some d → fits p ≡ true → fits q ≡ true → (k : Check) → step_check k p ≡ step_check k q

-- where it carries none, damage that is taken changes the amount, and the hurt packet carries none either
abbrev pub AmountsChange : Type 0
AmountsChange =
    (p : Payload) → p.own ≡ None → (v : PacketVersion) (w : Pattern) → pattern_right v w ≡ true
    → ((hurt_by p w).own ≡ None) × (p.amount ≢ (hurt_by p w).amount)

-- "all five octets but the first": the outlet stays
abbrev pub OutletKept : Type 0
OutletKept = (p : Payload) (w : Pattern) → p.outlet ≡ (hurt_by p w).outlet

-- an amount stays one of 16 bits
abbrev pub Bounded : Type 0
Bounded = (p : Payload) (w : Pattern) → p.amount < 65536 → w.mask < 65536 → (hurt_by p w).amount < 65536
