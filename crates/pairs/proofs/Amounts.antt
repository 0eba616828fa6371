-- Sends and damage, of a covered group: the amount of a workshop send, and what damage makes of a workshop packet, are covered.
use Rattle.std.specs.Prelude.{None, Some}
use Prim.Native.Nat.{ℕ, ◌<◌}
use mathlib.Core.Path.{◌≡◌, refl, sym, ap, ◌∙◌}
use mathlib.Core.Bool.{Bool, true, false, not, ◌&&◌}
use lib.Dec.{ltb, leb}
use borrow.Author.Tests.{leb-true}
use native.Mathlib.Decide.{ℕ_discrete}
use native.Mathlib.Omega.{arith}
use Rattle.marks.specs.Marks.{marked}
use Rattle.marks.specs.Reach.{mark}
use Rattle.outlet.specs.declared.Outlet.{Outlet}
use Rattle.outlet.specs.declared.Outlet.TheVariants.{A, B, W}
use Rattle.outlet.specs.declared.Party.{Party}
use Rattle.outlet.specs.declared.Party.TheVariants.{Buses, Workshop}
use Rattle.outlet.specs.Outlet.{ends_of, party_of}
use Rattle.packet.specs.declared.PacketVersion.{PacketVersion}
use Rattle.packet.specs.declared.PacketVersion.TheVariants.{One, Two}
use Rattle.packet.specs.Packet.{OwnCheck}
use Rattle.packet.specs.declared.Pattern.{Pattern}
use Rattle.packet.specs.declared.Payload.{Payload}
use Rattle.packet.specs.declared.Packet.{Packet}
use Rattle.packet.specs.declared.Packet.TheVariants.{Empty, Normal as NormalPacket, Checkp, Resume, Recover, Fault, Invalid}
use Rattle.packet.specs.Packet.{own_check, packed, fits, is_empty, is_normal, pattern_right, hurt_as, hurt_by, damaged}
use Rattle.packet.proofs.Bursts.{put_fits, outlet_kept}
use Rattle.line.specs.declared.Line.{Line}
use Rattle.line.specs.Line.{put, normals, packet_at, replaced}
use Rattle.image.specs.Image.{booking}
use Rattle.state.specs.declared.State.TheVariants.{Normal}
use Rattle.state.specs.State.{is_in}
use Rattle.cabinet.specs.declared.Cabinet.{Cabinet}
use Rattle.cabinet.specs.Cabinet.{in_use, sending}
use Rattle.group.specs.declared.Group.{Group}
use Rattle.group.specs.declared.Outcome.{Outcome}
use Rattle.group.specs.Group.{cabinet, with_cabinet, state_of, outgoing, line, with_line, rows_of, some, recovering_ones, taken}
use Rattle.protocol.specs.Kinds.{need, or_refuse, send_refusal, carried, sent, send_step, hurt_already, unless_recovering, damage_refusal, hurt_if, hurt, damage_step}
use Rattle.pairs.specs.Covered.{cover_own, cover_payload, cover_packet, cover_line, cover}
use Rattle.pairs.proofs.Parts.{booking_covered, bus_packet, workshop_packet, empty_covered, put_covered, replaced_covered, normals_covered}
use Rattle.pairs.proofs.Cabinets.{sending_bus, send_covered}
use Rattle.pairs.proofs.Groups.{cabinet_at, line_at, cabinet_put, line_put, Covers, is, path, onto}
use Rattle.pairs.proofs.Steps.{Gives, took, refused, refused_or, at, mark_hurt_lem, packet_same, normal_same, hurt_same, unless_open}

-- ---- a send

-- what a send puts, covered: the amount only where it is the buses'
abbrev amount_of : Party → ℕ → ℕ
amount_of Buses q = q
amount_of Workshop q = 0

put_covered_as : (v : PacketVersion) (o : Outlet) (q : ℕ) → cover_payload (packed v o q) ≡ packed v o (amount_of (party_of o) q)
unfolding cover_payload
put_covered_as v A q = refl
put_covered_as v B q = refl
put_covered_as One W q = refl
put_covered_as Two W q = ap (λ t. record { outlet = W; amount = 0; own = cover_own t (Some (own_check W q)) }) (put_fits Two W q)

-- a send by a covered group
abbrev pub sent_bus : Group → ℕ → ℕ → ℕ → ℕ → Group
sent_bus g a b p q =
    with_line (with_cabinet g a (sending_bus (cabinet g a) b (ends_of p).from q)) a b (put (line g a b) (NormalPacket (carried g p (amount_of (party_of (ends_of p).to) q))))

pub sent_covered : (a b p q : ℕ) (g : Group) → cover (sent g a b p q) ≡ sent_bus (cover g) a b p q
unfolding sent cover with_cabinet line outgoing
sent_covered a b p q g =
    line_put (with_cabinet g a (sending (cabinet g a) b (ends_of p).from (carried g p q))) a b (put (line g a b) (NormalPacket (carried g p q)))
    ∙ ap (λ (l : Line). with_line (cover (with_cabinet g a (sending (cabinet g a) b (ends_of p).from (carried g p q)))) a b l) (put_covered (line g a b) (NormalPacket (carried g p q)))
    ∙ ap (λ (x : Group). with_line x a b (put (cover_line (line g a b)) (NormalPacket (cover_payload (carried g p q)))))
    (cabinet_put g a (sending (cabinet g a) b (ends_of p).from (carried g p q)) ∙ ap (with_cabinet (cover g) a) (send_covered (cabinet g a) b (ends_of p).from (carried g p q) ∙ ap (λ (c : Cabinet). sending_bus c b (ends_of p).from q) (sym (cabinet_at g a))))
    ∙ ap (λ (x : Payload). with_line (with_cabinet (cover g) a (sending_bus (cabinet (cover g) a) b (ends_of p).from q)) a b (put (cover_line (line g a b)) (NormalPacket x))) (put_covered_as g.packets (ends_of p).to q)
    ∙ ap (λ (l : Line). with_line (with_cabinet (cover g) a (sending_bus (cabinet (cover g) a) b (ends_of p).from q)) a b (put l (NormalPacket (carried g p (amount_of (party_of (ends_of p).to) q))))) (sym (line_at g a b))

-- the outlet that a send leaves is the buses' where p is below 4
bus_ends : (p : ℕ) → p < 4 → party_of (ends_of p).from ≡ Buses
bus_ends p l = elim (ℕ_discrete p 0) [
  | yes e ↦ rw e
  | no n ↦ elim (ℕ_discrete p 1) [
    | yes e ↦ rw e
    | no m ↦ elim (ℕ_discrete p 2) [
      | yes e ↦ rw e
      | no k ↦ let e : p ≡ 3 = omega (arith, n, m, k) in rw e
    ]
  ]
]

-- what refuses a send that is not the workshop's reads nothing covered
send_refusal_lem : (g : Group) (a b p q : ℕ) → (p ≡ 4 → ⊥) → send_refusal g a b p q ≡ send_refusal (cover g) a b p q
send_refusal_lem g a b p q other =
    at (λ c. need (marked (in_use c) b) 13 (need (is_in c.phase.state Normal) 14 (need (ltb 0 q && leb p 4) 15 (covered (cabinet g a) (line g a b))))) (λ c. refl) g a
    ∙ ap (λ k. need (marked (in_use (cabinet (cover g) a)) b) 13 (need (is_in (state_of (cover g) a) Normal) 14 k)) (by_p (leb p 4) refl)
  where
    covered : Cabinet → Line → ℕ
    covered c l = need (leb q (booking (ends_of p).from c.image)) 16 (need (ltb (normals (party_of (ends_of p).to) l) 4) 17 0)

    below : leb p 4 ≡ true → p < 4
    below e = let l = leb-true p 4 e in omega (arith, other)

    by_p : (t : Bool) → leb p 4 ≡ t → need (ltb 0 q && leb p 4) 15 (covered (cabinet g a) (line g a b)) ≡ need (ltb 0 q && leb p 4) 15 (covered (cabinet (cover g) a) (line (cover g) a b))
    by_p true e =
        ap (λ k. need (ltb 0 q && leb p 4) 15 (need (leb q k) 16 (need (ltb (normals (party_of (ends_of p).to) (line g a b)) 4) 17 0)))
        (sym (booking_covered (ends_of p).from (cabinet g a).image (bus_ends p (below e))) ∙ ap (λ (c : Cabinet). booking (ends_of p).from c.image) (sym (cabinet_at g a)))
        ∙ ap (λ k. need (ltb 0 q && leb p 4) 15 (need (leb q (booking (ends_of p).from (cabinet (cover g) a).image)) 16 (need (ltb k 4) 17 0)))
        (sym (normals_covered (party_of (ends_of p).to) (line g a b)) ∙ ap (normals (party_of (ends_of p).to)) (sym (line_at g a b)))
    by_p false e = rw e (none (ltb 0 q) (covered (cabinet g a) (line g a b)) (covered (cabinet (cover g) a) (line (cover g) a b)))
      where
        none : (t : Bool) (j k : ℕ) → need (t && false) 15 j ≡ need (t && false) 15 k
        none true j k = refl
        none false j k = refl

abbrev pub send_bus : Group → ℕ → ℕ → ℕ → ℕ → Outcome
send_bus g a b p q = or_refuse (send_refusal g a b p q) g (taken (sent_bus g a b p q))

pub send_step_lem : (g : Group) (a b p q : ℕ) → (p ≡ 4 → ⊥) → Gives (send_step g a b p q) (send_bus (cover g) a b p q)
unfolding send_step
send_step_lem g a b p q other = refused (send_refusal_lem g a b p q other) g (took (is (sent_covered a b p q g)))

-- of a workshop send the amount is covered
pub workshop_sent : (a b q r : ℕ) (g h : Group) → cover g ≡ cover h → cover (sent g a b 4 q) ≡ cover (sent h a b 4 r)
workshop_sent a b q r g h e = sent_covered a b 4 q g ∙ ap (λ (x : Group). sent_bus x a b 4 q) e ∙ sym (sent_covered a b 4 r h)

-- ---- damage

-- what it leaves of a packet, covered: of a workshop packet one that does not fit
abbrev hurt_of : Party → Payload → Pattern → Payload
hurt_of Buses p w = hurt_by p w
hurt_of Workshop p w = record { outlet = p.outlet; amount = 0; own = cover_own false p.own }

abbrev damaged_bus : Packet → Pattern → Packet
damaged_bus Empty w = Empty
damaged_bus (NormalPacket p) w = NormalPacket (hurt_of (party_of p.outlet) p w)
damaged_bus (Checkp v) w = Invalid
damaged_bus Resume w = Invalid
damaged_bus (Recover v) w = Invalid
damaged_bus (Fault p) w = Invalid
damaged_bus Invalid w = Invalid

-- a packet that carries a check does not fit once it is hurt
abbrev pub Unfits : Payload → Pattern → Type 0
Unfits p w = (c : ℕ) → p.own ≡ Some c → fits (hurt_by p w) ≡ false

own_is : (p : Payload) (w : Pattern) → (hurt_by p w).own ≡ (hurt_as p.own p w).own
unfolding hurt_by
own_is p w = refl

payload_hurt : (p : Payload) (w : Pattern) → Unfits p w → cover_payload (hurt_by p w) ≡ hurt_of (party_of (cover_payload p).outlet) (cover_payload p) w
payload_hurt p w seen = go (party_of p.outlet) refl
  where
    kept : (hurt_by p w).outlet ≡ p.outlet
    kept = sym (outlet_kept p w)

    own_same : (k : OwnCheck) → p.own ≡ k → cover_own (fits (hurt_by p w)) (hurt_as p.own p w).own ≡ cover_own false (cover_own (fits p) p.own)
    own_same None e = rw e
    own_same (Some c) e = rw (seen c e, e)

    go : (y : Party) → party_of p.outlet ≡ y → cover_payload (hurt_by p w) ≡ hurt_of (party_of (cover_payload p).outlet) (cover_payload p) w
    go Buses e =
        bus_packet (hurt_by p w) (ap party_of kept ∙ e)
        ∙ sym (ap (λ (y : Party). hurt_of y p w) e)
        ∙ ap (λ (x : Payload). hurt_of (party_of x.outlet) x w) (sym (bus_packet p e))
    go Workshop e =
        workshop_packet (hurt_by p w) (ap party_of kept ∙ e)
        ∙ ap (λ (o : Outlet). record { outlet = o; amount = 0; own = cover_own (fits (hurt_by p w)) (hurt_by p w).own }) kept
        ∙ ap (λ (k : OwnCheck). record { outlet = p.outlet; amount = 0; own = k }) (same_own ∙ own_same p.own refl)
        ∙ sym (ap (λ (y : Party). hurt_of y (record { outlet = p.outlet; amount = 0; own = cover_own (fits p) p.own }) w) e)
        ∙ ap (λ (x : Payload). hurt_of (party_of x.outlet) x w) (sym (workshop_packet p e))
      where
        same_own : cover_own (fits (hurt_by p w)) (hurt_by p w).own ≡ cover_own (fits (hurt_by p w)) (hurt_as p.own p w).own
        same_own = ap (cover_own (fits (hurt_by p w))) (own_is p w)

packet_hurt : (x : Packet) (w : Pattern) → ((p : Payload) → x ≡ NormalPacket p → Unfits p w) → cover_packet (damaged x w) ≡ damaged_bus (cover_packet x) w
packet_hurt Empty w seen = refl
packet_hurt (NormalPacket p) w seen = ap NormalPacket (payload_hurt p w (seen p refl))
packet_hurt (Checkp v) w seen = refl
packet_hurt Resume w seen = refl
packet_hurt (Recover v) w seen = refl
packet_hurt (Fault p) w seen = refl
packet_hurt Invalid w seen = refl

abbrev hurt_bus : Group → ℕ → ℕ → ℕ → Pattern → Group
hurt_bus g a b k w =
    hurt_if (is_normal (packet_at (line g a b) k)) (with_line g a b (replaced (line g a b) k (damaged_bus (packet_at (line g a b) k) w))) a b

hurt_covered : (g : Group) (a b k : ℕ) (w : Pattern) → ((p : Payload) → packet_at (line g a b) k ≡ NormalPacket p → Unfits p w)
    → Covers (hurt g a b k w) (hurt_bus (cover g) a b k w)
unfolding hurt
hurt_covered g a b k w seen =
    is (path (marked_so (is_normal (packet_at (line g a b) k)) line_hurt)
    ∙ ap (λ t. hurt_if t (with_line (cover g) a b (replaced (line (cover g) a b) k (damaged_bus (packet_at (line (cover g) a b) k) w))) a b) (normal_same g a b k))
  where
    marked_so : (t : Bool) {x y : Group} → Covers x y → Covers (hurt_if t x a b) (hurt_if t y a b)
    marked_so true e = onto (mark_hurt_lem a b) e
    marked_so false e = e

    line_hurt : Covers (with_line g a b (replaced (line g a b) k (damaged (packet_at (line g a b) k) w)))
        (with_line (cover g) a b (replaced (line (cover g) a b) k (damaged_bus (packet_at (line (cover g) a b) k) w)))
    line_hurt =
        is (line_put g a b (replaced (line g a b) k (damaged (packet_at (line g a b) k) w))
        ∙ ap (with_line (cover g) a b) (replaced_covered (line g a b) k (damaged (packet_at (line g a b) k) w)
        ∙ ap (replaced (cover_line (line g a b)) k) (packet_hurt (packet_at (line g a b) k) w seen ∙ ap (λ x. damaged_bus x w) (packet_same g a b k))
        ∙ ap (λ (l : Line). replaced l k (damaged_bus (packet_at (line (cover g) a b) k) w)) (sym (line_at g a b))))

damage_refusal_lem : (g : Group) (a b k : ℕ) (w : Pattern) → damage_refusal g a b k w ≡ damage_refusal (cover g) a b k w
unfolding cover
damage_refusal_lem g a b k w =
    ap (λ t. need (mark (rows_of g.links) a b) 13 (need (not t) 18 (need (pattern_right g.packets w) 15 (need (not (hurt_already g a b (packet_at (line g a b) k))) 20 0))))
    (sym (empty_covered (packet_at (line g a b) k)) ∙ ap is_empty (packet_same g a b k))
    ∙ ap (λ t. need (mark (rows_of g.links) a b) 13 (need (not (is_empty (packet_at (line (cover g) a b) k))) 18 (need (pattern_right g.packets w) 15 (need (not t) 20 0))))
    (hurt_same g a b k)

abbrev pub damage_bus : Group → ℕ → ℕ → ℕ → Pattern → Outcome
damage_bus g a b k w = or_refuse (damage_refusal g a b k w) g (unless_recovering g (hurt_bus g a b k w))

pub damage_step_lem : (g : Group) (a b k : ℕ) (w : Pattern)
    → (damage_refusal g a b k w ≡ 0 → some (recovering_ones g) ≡ false → (p : Payload) → packet_at (line g a b) k ≡ NormalPacket p → Unfits p w)
    → Gives (damage_step g a b k w) (damage_bus (cover g) a b k w)
unfolding damage_step
damage_step_lem g a b k w seen =
    refused_or (damage_refusal_lem g a b k w) g (λ none. unless_open g (λ still. hurt_covered g a b k w (seen none still)))
