-- What a packet's own check sees, and what damage does to a normal packet, proved for every packet and every pattern.
use Rattle.std.specs.Prelude.{None, Some}
use Rattle.std.proofs.Common.{◌≡◌, ℕ, ◌+◌, ◌*◌, ◌/◌, ◌%◌, ◌^◌, ◌<◌, Bool, true, cond, ◌&&◌, ltb, [], ◌∷◌, ◌++◌, replicate, sym, refl, ap, ◌∙◌, arith, ltb-true, eq-eqb, ne_eqb, eqb-true}
use mathlib.Core.Bool.{and-eq-true_iff}
use lib.Bits.{bit_xor, xor_lt, xor_comm, xor_zero_l}
use Rattle.crc.proofs.Xor.{xor_cancel}
use Rattle.crc.specs.Crc.{start, crc_from, crc}
use Rattle.crc.proofs.Laws.{checked_zero, zero_alike, burst_seen}
use Rattle.outlet.specs.Outlet.{octet_of}
use Rattle.packet.specs.declared.PacketVersion.{PacketVersion}
use Rattle.packet.specs.declared.PacketVersion.TheVariants.{One, Two}
use Rattle.packet.specs.Packet.{OwnCheck}
use Rattle.packet.specs.declared.Pattern.{Pattern}
use Rattle.packet.specs.declared.Payload.{Payload}
use Rattle.packet.specs.Packet.{first_three, own_check, own_octets, octets_of, fits_with, fits, in_reach, shifted, may_shift, pattern_right, hurt_as, hurt_by}
use Rattle.packet.specs.Bursts.{PutFits, FittingAlike, BurstsSeen, AmountsChange, OutletKept, Bounded}

pub put_fits : PutFits
unfolding fits
put_fits One o m = refl
put_fits Two o m = eq-eqb (own_check o m) (own_check o m) refl

-- ---- for each kind of own check

outlet_as : (k : OwnCheck) (p : Payload) (w : Pattern) → p.outlet ≡ (hurt_as k p w).outlet
outlet_as None p w = refl
outlet_as (Some c) p w = refl

pub outlet_kept : OutletKept
unfolding hurt_by
outlet_kept p w = outlet_as p.own p w

amount_as : (k : OwnCheck) (p : Payload) (w : Pattern) → p.amount < 65536 → w.mask < 65536 → (hurt_as k p w).amount < 65536
amount_as None p w below short = xor_lt 16 p.amount w.mask below short
amount_as (Some c) p w below short = xor_lt 16 p.amount (shifted w / 65536 % 65536) below (omega arith)

pub bounded : Bounded
unfolding hurt_by
bounded p w below short = amount_as p.own p w below short

-- ---- what the test of patterns says

record Taken (w : Pattern) : Type 0 where
  changes : 0 < w.mask
  made : shifted w ≡ w.mask * 2 ^ (w.bits + 8 * w.octets)
  inside : shifted w < 2 ^ 32

taken : (v : PacketVersion) (w : Pattern) → pattern_right v w ≡ true → Taken w
unfolding pattern_right shifted
taken v w right =
    let first = (and-eq-true_iff (ltb 0 w.mask) (in_reach w && (ltb (shifted w) (2 ^ 32) && may_shift v w))).0 right in
    let second = (and-eq-true_iff (in_reach w) (ltb (shifted w) (2 ^ 32) && may_shift v w)).0 first.1 in
    let third = (and-eq-true_iff (ltb (shifted w) (2 ^ 32)) (may_shift v w)).0 second.1 in
    record {
      changes = ltb-true 0 w.mask first.0;
      made = ap (λ (b : Bool). cond b (w.mask * 2 ^ (w.bits + 8 * w.octets)) 0) second.0;
      inside = ltb-true (shifted w) (2 ^ 32) third.0;
    }

-- ---- the laws

-- a number that is XORed with another than 0 changes
xor_changes : (a x : ℕ) → 0 < x → a ≡ bit_xor a x → ⊥
xor_changes a x some same = omega (arith, xor_cancel 0 x a (xor_zero_l a ∙ same ∙ xor_comm a x))

pub amounts_change : AmountsChange
unfolding hurt_by
amounts_change p none v w right =
    let alike : hurt_by p w ≡ hurt_as None p w = ap (λ (k : OwnCheck). hurt_as k p w) none in (
      ap (λ (x : Payload). x.own) alike,
      λ same. xor_changes p.amount w.mask (taken v w right).changes (same ∙ ap (λ (x : Payload). x.amount) alike),
    )

-- a packet that fits carries the check of its first three octets
carries : (p : Payload) (c : ℕ) → p.own ≡ Some c → fits p ≡ true → c ≡ own_check p.outlet p.amount
unfolding fits
carries p c own fit = eqb-true c _ (sym (ap (λ (k : OwnCheck). fits_with k (own_check p.outlet p.amount)) own) ∙ fit)

-- what it leaves in a register: as much as five octets of 0
leaves : (p : Payload) (c r : ℕ) → p.own ≡ Some c → fits p ≡ true → crc_from r (octets_of p) ≡ crc_from (bit_xor start r) (replicate 5 0)
unfolding own_check
leaves p c r own fit =
    let three = first_three p.outlet p.amount in
    let whole : octets_of p ≡ three ++ crc three / 256 ∷ crc three % 256 ∷ []
    = ap (λ (k : OwnCheck). three ++ own_octets k) (own ∙ ap (λ (x : ℕ). Some x) (carries p c own fit)) in
    ap (crc_from r) whole ∙ zero_alike (three ++ crc three / 256 ∷ crc three % 256 ∷ []) r (checked_zero three)

pub fitting_alike : FittingAlike
fitting_alike p q c d own other fit fit' k =
    ap (λ (x : ℕ). record { crc = x; count = (k.count + 1) % 65536 }) (leaves p c k.crc own fit ∙ sym (leaves q d k.crc other fit'))

pub bursts_seen : BurstsSeen
unfolding fits hurt_by own_check
bursts_seen p c own fit v w short right =
    let t = taken v w right in
    let x = shifted w in
    let before = carries p c own fit in
    let whole : x / 65536 % 65536 ≡ x / 65536 = omega (arith, t.inside) in
    ap (λ (k : OwnCheck). fits (hurt_as k p w)) own
    ∙ ne_eqb (bit_xor c (x % 65536)) (own_check p.outlet (bit_xor p.amount (x / 65536 % 65536)))
    (λ same. burst_seen w.mask (w.bits + 8 * w.octets) x t.changes short t.made t.inside
    (octet_of p.outlet) p.amount c before (same ∙ ap (λ (h : ℕ). own_check p.outlet (bit_xor p.amount h)) whole))
