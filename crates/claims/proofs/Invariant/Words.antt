-- What the words of the invariant come to: who is aware, which line is in use, who coordinates, and that a line has room.
use Prim.Native.Nat.{ℕ, ◌+◌, ◌≤◌}
use mathlib.Core.Path.{◌≡◌, refl, sym, ◌∙◌, ap}
use mathlib.Core.Logic.{◌⊎◌, inl, inr}
use mathlib.Core.Bool.{Bool, true, false, cond, not, ◌&&◌}
use mathlib.Core.List.{List, [], ◌∷◌, ◌++◌}
use lib.ListN.{length, get_or-eq_default}
use native.Mathlib.Omega.{arith}
use Rattle.outlet.specs.declared.Party.{Party}
use Rattle.outlet.specs.declared.Party.TheVariants.{Buses, Workshop}
use Rattle.outlet.specs.Outlet.{party_of, same_party}
use Rattle.packet.specs.declared.Packet.{Packet}
use Rattle.packet.specs.declared.Packet.TheVariants.{Empty, Normal as NormalPacket, Checkp, Resume, Recover, Fault, Invalid}
use Rattle.packet.specs.declared.Place.{Place}
use Rattle.line.specs.declared.Cell.{Cell}
use Rattle.packet.specs.Packet.{is_of}
use Rattle.line.specs.Line.{normals_in}
use Rattle.state.specs.declared.Version.{Version}
use Rattle.state.specs.declared.Version.TheVariants.{Lost}
use Rattle.state.specs.State.{works, in_recovery}
use Rattle.cabinet.specs.Cabinet.{coordinator, absent}
use Rattle.group.specs.declared.Group.{Group}
use Rattle.group.specs.Group.{cabinet, line, some, recovering_ones, state_of}
use Rattle.cabinet.specs.declared.Cabinet.{Cabinet}
use native.Mathlib.Decide.{dec_lt}
use Rattle.claims.proofs.State.Fun.{never, is_true, is_false, and_true, and_intro}
use Rattle.claims.proofs.State.View.{View, Own, Side, used, content, packet_of, view}
use Rattle.claims.proofs.State.Sim.{Fit}
use Rattle.claims.proofs.State.ViewMoves.{Room}
use Rattle.claims.proofs.Answers.Tests.{some_recovers, in_recovery_lem}
use Rattle.claims.proofs.Invariant.States.{recovering_works}
use Rattle.claims.proofs.Invariant.Facts.{Big, Mind, Wire, Ghost, Pair, Lead, Alarms, aware, unaware, linked, count, is_safe}
use Rattle.claims.proofs.Invariant.Whole.{Core, GroundOf}

-- ---- aware and unaware

module _ (b : Big) (o : Own) where
  pub un_of : works o.state ≡ true → in_recovery o.state ≡ false → unaware b o ≡ true
  un_of w r = rw (w, r) (no_fault_lem b.faulted)
    where
      no_fault_lem : (t : Bool) → (true && not (t && false)) ≡ true
      no_fault_lem true = refl
      no_fault_lem false = refl

  pub un_works : unaware b o ≡ true → works o.state ≡ true
  un_works e = (and_true {s = works o.state} e).0

  pub un_not_aware : unaware b o ≡ true → aware b o ≡ true → ⊥
  un_not_aware e a = never (rw a at (and_true {s = works o.state} e).1) refl

  pub aware_faulted : aware b o ≡ true → b.faulted ≡ true
  aware_faulted e = (and_true {s = b.faulted} e).0

  pub aware_recovers : aware b o ≡ true → in_recovery o.state ≡ true
  aware_recovers e = (and_true {s = b.faulted} e).1

  pub aware_works : aware b o ≡ true → works o.state ≡ true
  aware_works e = recovering_works o.state (aware_recovers e)

  pub aware_not_un : aware b o ≡ true → unaware b o ≡ false
  aware_not_un e = is_false (unaware b o) (λ u. un_not_aware u e)

  pub un_or_aware : works o.state ≡ true → (unaware b o ≡ true) ⊎ (aware b o ≡ true)
  un_or_aware w = go (aware b o) refl
    where
      go : (t : Bool) → aware b o ≡ t → (unaware b o ≡ true) ⊎ (aware b o ≡ true)
      go true e = inr e
      go false e = inl (rw (w, e))

  pub failed_not_un : works o.state ≡ false → unaware b o ≡ false
  failed_not_un w = rw w

-- nobody recovers, numbers past the last cabinet included
pub nobody_recovers : (g : Group) → Fit g → some (recovering_ones g) ≡ false → (c : ℕ) → in_recovery (state_of g c) ≡ false
unfolding cabinet
nobody_recovers g w e c = elim (dec_lt c 8) [
  | yes l ↦ is_false (in_recovery (state_of g c)) (λ r. never ((some_recovers g).1 (c, l, (in_recovery_lem (state_of g c)).0 r)) e)
  | no n ↦ ap (λ (x : Cabinet). in_recovery x.phase.state) (get_or-eq_default g.cabinets absent {n = c} (omega (arith, w.frame.cabinets)))
]

-- ---- lines in use

module _ {b : Big} {c d : ℕ} {o : Own} {m : Mind} {p : Own} {n : Mind} {s t : Side} {l : List Packet} {w : Wire} (h : Pair b c d o m p n s t l w) where
  -- a line in use at a cabinet that is not aware of a fault
  pub linked_used : unaware b o ≡ true → m.tab ≡ true → used s ≡ true → linked m n w ≡ true
  linked_used un tab us =
      let u = and_true {s = s.link} {t = s.cab} us in
      and_intro (sym (h.table un).1 ∙ u.0) (and_intro tab (sym (h.table un).0 ∙ u.1))

  pub used_linked : unaware b o ≡ true → linked m n w ≡ true → used s ≡ true
  used_linked un k =
      let u = and_true {s = w.lk} k in
      let v = and_true {s = m.tab} u.1 in
      and_intro ((h.table un).1 ∙ u.0) ((h.table un).0 ∙ v.1)

  -- where a packet stands, both ends work and the line is in use at its sender
  pub live_line : (l ≡ [] → ⊥) → (works o.state ≡ true) × (works p.state ≡ true) × (used s ≡ true)
  live_line some =
      let e = is_true (works o.state && (works p.state && used s)) (λ f. some (h.silent f)) in
      let u = and_true {s = works o.state} e in
      let v = and_true {s = works p.state} u.1 in
      (u.0, v.0, v.1)

-- linked goes both ways
pub linked_back : (n : ℕ) (v : View) (γ : Ghost) → GroundOf n v γ → (c d : ℕ) → linked (γ.mind c) (γ.mind d) (γ.wire c d) ≡ true
    → linked (γ.mind d) (γ.mind c) (γ.wire d c) ≡ true
linked_back n v γ g c d e =
    let u = and_true {s = (γ.wire c d).lk} e in
    let x = and_true {s = (γ.mind c).tab} u.1 in
    and_intro (g.link_both d c ∙ u.0) (and_intro x.1 x.0)

-- ---- who coordinates

-- the coordinator of a cabinet that is not aware of a fault
pub chief_of : (n : ℕ) (total : Party → ℕ) (g : Group) (γ : Ghost) → Core n total (view g) γ → (a : ℕ) → unaware γ.big ((view g).own a) ≡ true
    → coordinator (cabinet g a) ≡ γ.big.chief
chief_of n total g γ i a un = (i.leads a).steady un

-- one that is not aware of a fault is not lost
pub chief_lives : (n : ℕ) (total : Party → ℕ) (v : View) (γ : Ghost) → Core n total v γ → unaware γ.big (v.own γ.big.chief) ≡ true → γ.big.alive ≡ true
chief_lives n total v γ i un = is_true γ.big.alive (λ e. never un ((i.leads γ.big.chief).fallen refl e))

-- who leads, where a cabinet knows of the same fault as before and its version is not lost anew
module _ (b : Big) (c : ℕ) (o p : Own) (h : Lead b c o) where
  pub lead_same : works p.state ≡ works o.state → aware b p ≡ aware b o → p.alarm ≡ o.alarm → p.lead ≡ o.lead → p.former ≡ o.former
      → (p.version ≡ Lost → o.version ≡ Lost) → Lead b c p
  lead_same work knows alarm lead former lost = record {
    steady = λ u. lead ∙ h.steady (sym same ∙ u);
    moved = λ a q e. let m = h.moved (sym knows ∙ a) q (sym alarm ∙ e) in (former ∙ m.0, lead ∙ m.1);
    lives = λ k e. let l = h.lives k e in (work ∙ l.0, λ a f. l.1 (sym knows ∙ a) (sym alarm ∙ f));
    fallen = λ k e. same ∙ h.fallen k e;
    blank = λ w e. let x = h.blank (sym work ∙ w) (lost e) in (knows ∙ x.0, x.1);
  }
    where
      same : unaware b p ≡ unaware b o
      same = rw (work, knows)

  -- or does not know of one, before and after
  pub lead_calm : unaware b o ≡ true → unaware b p ≡ true → p.lead ≡ o.lead → (p.version ≡ Lost → ⊥) → Lead b c p
  lead_calm un up lead known = record {
    steady = λ u. lead ∙ h.steady un;
    moved = λ a. absurd (un_not_aware b p up a);
    lives = λ k e. (un_works b p up, λ a. absurd (un_not_aware b p up a));
    fallen = λ k e. absurd (never un (h.fallen k e));
    blank = λ w e. absurd (known e);
  }

-- the coordinator is lost, and the cabinet is not aware of it
pub lead_lost : (b : Big) (c : ℕ) (o : Own) → in_recovery o.state ≡ false → b.alive ≡ false → (c ≡ b.chief → works o.state ≡ false)
    → (works o.state ≡ true → o.lead ≡ b.chief) → (works o.state ≡ true → o.version ≡ Lost → ⊥) → Lead b c o
lead_lost b c o calm dead gone lead known = record {
  steady = λ u. lead (un_works b o u);
  moved = λ a. absurd (never (aware_recovers b o a) calm);
  lives = λ k e. absurd (never e dead);
  fallen = λ k e. failed_not_un b o (gone k);
  blank = λ w e. absurd (known w e);
}

-- ---- a line has room

pub one_party : (x : Party) → cond (same_party x Buses) 1 0 + cond (same_party x Workshop) 1 0 ≡ 1
one_party Buses = refl
one_party Workshop = refl

-- the normal packets of both parties
abbrev both_in : List Cell → ℕ
both_in cs = normals_in Buses cs + normals_in Workshop cs

counted_once : (p : Packet) (cs : List Cell) → length (content cs) ≤ count is_safe (content cs) + both_in cs
    → length (packet_of p (content cs)) ≤ count is_safe (packet_of p (content cs)) + ((cond (is_of Buses p) 1 0 + normals_in Buses cs) + (cond (is_of Workshop p) 1 0 + normals_in Workshop cs))
unfolding count
counted_once Empty cs h = omega arith
counted_once (NormalPacket q) cs h = omega (arith, one_party (party_of q.outlet))
counted_once (Checkp v) cs h = omega arith
counted_once Resume cs h = omega arith
counted_once (Recover v) cs h = omega arith
counted_once (Fault q) cs h = omega arith
counted_once Invalid cs h = omega arith

-- every packet is fail-safe or a normal one of a party
pub all_counted : (cs : List Cell) → length (content cs) ≤ count is_safe (content cs) + both_in cs
unfolding content count
all_counted [] = omega arith
all_counted (c ∷ cs) = counted_once c.packet cs (all_counted cs)

-- a fail-safe packet finds a free place on every line out of a cabinet that is not aware of a fault
pub room_calm : (n : ℕ) (total : Party → ℕ) (g : Group) (γ : Ghost) → Fit g → Core n total (view g) γ → (c : ℕ) → unaware γ.big ((view g).own c) ≡ true → Room (view g) c
room_calm n total g γ w i c un d us =
    let few = (w.lines c d).few in
    let safe = (i.pairs c d).room un in
    omega (arith, all_counted (line g c d).cells, few Buses, few Workshop, most (γ.mind c).joined)
  where
    most : (t : Bool) → cond t 1 0 ≤ 1
    most true = omega arith
    most false = omega arith

alarms_short : (x : Version) (q : Place) (l : List Packet) → Alarms x q l → length l ≤ 2
alarms_short x q l a = rw a.is (go a.faults a.recovers)
  where
    go : (f r : Bool) → length (cond f (Fault q ∷ []) [] ++ cond r (Recover a.value ∷ []) []) ≤ 2
    go true true = omega arith
    go true false = omega arith
    go false true = omega arith
    go false false = omega arith

-- and of one that is
pub room_aware : (n : ℕ) (total : Party → ℕ) (v : View) (γ : Ghost) → Core n total v γ → (c : ℕ) → aware γ.big (v.own c) ≡ true → Room v c
room_aware n total v γ i c aw d us =
    let q = (i.nodes c).place_known aw in
    omega (arith, alarms_short _ _ _ ((i.pairs c d).alarms aw q.0 q.1))
