-- In every run each normal packet on a line has the octets of the group's packet version.
use Rattle.std.specs.Prelude.{None, Some}
use Prim.Native.Nat.{ℕ, zero, suc}
use mathlib.Core.Path.{◌≡◌, refl, sym, ap, ◌∙◌, subst}
use mathlib.Core.Bool.{cond, ◌&&◌}
use mathlib.Core.List.{List, [], ◌∷◌, ◌++◌}
use lib.ListN.{length, get_or, set, take, drop}
use lib.Dec.{eqb}
use native.Mathlib.Omega.{arith}
use native.Mathlib.Decide.{ℕ_discrete}
use Rattle.marks.specs.Marks.{marked}
use Rattle.outlet.specs.declared.Outlet.{Outlet}
use Rattle.packet.specs.declared.PacketVersion.{PacketVersion}
use Rattle.packet.specs.declared.PacketVersion.TheVariants.{One, Two}
use Rattle.packet.specs.Packet.{OwnCheck}
use Rattle.packet.specs.declared.Pattern.{Pattern}
use Rattle.packet.specs.declared.Payload.{Payload}
use Rattle.packet.specs.declared.Packet.{Packet}
use Rattle.packet.specs.declared.Packet.TheVariants.{Empty, Normal as NormalPacket, Checkp, Resume, Recover, Fault, Invalid}
use Rattle.packet.specs.Packet.{first_three, packed, own_octets, octets_of, hurt_as, hurt_by, damaged}
use Rattle.line.specs.declared.Cell.{Cell}
use Rattle.line.specs.declared.Line.{Line}
use Rattle.line.specs.Line.{empty_cell}
use Rattle.state.specs.declared.State.TheVariants.{Checkpointed, Recovering}
use Rattle.state.specs.State.{is_in}
use Rattle.cabinet.specs.Alarm.{Alarm}
use Rattle.cabinet.specs.declared.Cabinet.{Cabinet}
use Rattle.cabinet.specs.Cabinet.{in_use}
use Rattle.points.specs.declared.Points.{Points}
use Rattle.group.specs.declared.Group.{Group}
use Rattle.group.specs.declared.Outcome.{Outcome}
use Rattle.group.specs.Group.{cabinet, outgoing, line, crash_all}
use Rattle.load.specs.Load.{load}
use Rattle.load.proofs.Loaded.{starts}
use Rattle.protocol.specs.declared.Step.{Step}
use Rattle.protocol.specs.declared.Step.TheVariants.{Send, Note, Begin, Deliver, Write, Saved, Fetch, Restored, Fail, Damage, Lose, Trip, Unsure}
use Rattle.protocol.specs.declared.Decoded.{Decoded}
use Rattle.protocol.specs.declared.Decoded.TheVariants.{Malformed, Unused, Taken}
use Rattle.protocol.specs.Entry.{decode, step, step_decoded}
use Rattle.protocol.specs.Points.{return_refusal, returned, return_to}
use Rattle.protocol.specs.History.{World, Operation, stepping, pointing, returning, advance, run, opening}
use Rattle.protocol.specs.Restored.{Octets, AllOctets, world_after}
use Rattle.claims.specs.Bounds.{packet_octets, packet_of, content, packets, PacketsOfVersion}
use Rattle.claims.specs.Fifo.{is_line, handled, joins, resumes, enters_error, goes_on, fault_of, recover_of, came_from, put_by, emptied, line_after}
use Rattle.claims.proofs.State.Fun.{cond_elim}
use Rattle.claims.proofs.State.Every.{each, get_d_each}
use Rattle.claims.proofs.Answers.Entry.{refusal_keeps, crash_stops}
use Rattle.claims.proofs.Claims.Demand.{run_append, octets_append}
use Rattle.claims.proofs.Claims.Bounds.{version_stays}
use Rattle.claims.proofs.Claims.Fifo.{first_in_first_out}

-- ---- lists

module _ {A : Type 0} (P : A → Type 0) where
  each_append : (xs ys : List A) → each P xs → each P ys → each P (xs ++ ys)
  each_append [] ys h k = k
  each_append (x ∷ xs) ys h k = (h.0, each_append xs ys h.1 k)

  each_take : (n : ℕ) (xs : List A) → each P xs → each P (take n xs)
  each_take zero xs h = tt
  each_take (suc n) [] h = tt
  each_take (suc n) (x ∷ xs) h = (h.0, each_take n xs h.1)

  each_drop : (n : ℕ) (xs : List A) → each P xs → each P (drop n xs)
  each_drop zero xs h = h
  each_drop (suc n) [] h = tt
  each_drop (suc n) (x ∷ xs) h = each_drop n xs h.1

  each_set : (xs : List A) (k : ℕ) (y : A) → P y → each P xs → each P (set xs k y)
  each_set [] k y p h = tt
  each_set (x ∷ xs) zero y p h = (p, h.1)
  each_set (x ∷ xs) (suc k) y p h = (h.0, each_set xs k y p h.1)

-- ---- packets

abbrev OfVersion : PacketVersion → Packet → Type 0
OfVersion v Empty = Unit {0}
OfVersion v (NormalPacket p) = length (octets_of p) ≡ packet_octets v
OfVersion v (Checkp c) = Unit {0}
OfVersion v Resume = Unit {0}
OfVersion v (Recover x) = Unit {0}
OfVersion v (Fault p) = Unit {0}
OfVersion v Invalid = Unit {0}

put_octets : (v : PacketVersion) (o : Outlet) (m : ℕ) → length (octets_of (packed v o m)) ≡ packet_octets v
put_octets One o m = refl
put_octets Two o m = refl

hurt_octets : (p : Payload) (w : Pattern) → length (octets_of (hurt_by p w)) ≡ length (octets_of p)
unfolding hurt_by
hurt_octets p w = go p.own
  where
    go : (k : OwnCheck) → length (octets_of (hurt_as k p w)) ≡ length (first_three p.outlet p.amount ++ own_octets k)
    go None = refl
    go (Some c) = refl

module _ (v : PacketVersion) where
  damaged_of : (p : Packet) (w : Pattern) → OfVersion v p → OfVersion v (damaged p w)
  damaged_of Empty w h = tt
  damaged_of (NormalPacket p) w h = hurt_octets p w ∙ h
  damaged_of (Checkp c) w h = tt
  damaged_of Resume w h = tt
  damaged_of (Recover x) w h = tt
  damaged_of (Fault p) w h = tt
  damaged_of Invalid w h = tt

  abbrev AllOf : List Packet → Type 0
  AllOf l = each (OfVersion v) l

  -- what the rules put beside a send is no normal packet
  fault_of_lem : (x : Alarm) → AllOf (fault_of x)
  fault_of_lem None = tt
  fault_of_lem (Some p) = (tt, tt)

  recover_of_lem : (c : Cabinet) → AllOf (recover_of c)
  recover_of_lem c = cond_elim AllOf (is_in c.phase.state Recovering) (λ _. (tt, tt)) (λ _. tt)

  put_of : (c c' : Cabinet) (s : Step) (a b : ℕ) → AllOf (put_by c c' s a b)
  put_of c c' s a b =
      cond_elim AllOf (joins c c') (λ _. (tt, tt))
      (λ _. cond_elim AllOf (resumes c c') (λ _. cond_elim AllOf (is_in c.phase.state Checkpointed && came_from s a b) (λ _. tt) (λ _. (tt, tt)))
      (λ _. cond_elim AllOf (enters_error c c') (λ _. each_append (OfVersion v) (fault_of c'.phase.alarm) (recover_of c') (fault_of_lem c'.phase.alarm) (recover_of_lem c'))
      (λ _. cond_elim AllOf (goes_on c c') (λ _. recover_of_lem c') (λ _. tt))))

-- ---- a step

handled_of : (g : Group) (s : Step) (a b : ℕ) (l : List Packet) → AllOf g.packets l → AllOf g.packets (handled g s a b l)
handled_of g (Send x y p q) a b l h =
    cond_elim (AllOf g.packets) (is_line x y a b) (λ _. each_append (OfVersion g.packets) l _ h (put_octets g.packets _ q, tt)) (λ _. h)
handled_of g (Note x p q) a b l h = h
handled_of g (Begin x) a b l h = h
handled_of g (Deliver x y) a b l h = cond_elim (AllOf g.packets) (is_line x y a b) (λ _. each_drop (OfVersion g.packets) 1 l h) (λ _. h)
handled_of g (Write x) a b l h = h
handled_of g (Saved x) a b l h = h
handled_of g (Fetch x) a b l h = h
handled_of g (Restored x) a b l h = h
handled_of g (Fail x) a b l h = h
handled_of g (Damage x y p w) a b l h =
    cond_elim (AllOf g.packets) (is_line x y a b)
    (λ _. each_set (OfVersion g.packets) l p _ (damaged_of g.packets (get_or l p Empty) w (get_d_each (OfVersion g.packets) l p Empty h tt)) h) (λ _. h)
handled_of g (Lose x y p) a b l h =
    cond_elim (AllOf g.packets) (is_line x y a b)
    (λ _. each_append (OfVersion g.packets) (take p l) (drop (suc p) l) (each_take (OfVersion g.packets) p l h) (each_drop (OfVersion g.packets) (suc p) l h)) (λ _. h)
handled_of g (Trip x) a b l h = h
handled_of g (Unsure x) a b l h = h

-- every line of a group has packets of that version
abbrev Carrying : PacketVersion → Group → Type 0
Carrying v g = (a b : ℕ) → AllOf v (packets g a b)

line_of : (g g' : Group) (s : Step) (a b : ℕ) → Carrying g.packets g → AllOf g.packets (line_after g g' s a b)
line_of g g' s a b h =
    each_append (OfVersion g.packets) (cond (emptied g g' a b) [] (handled g s a b (packets g a b))) _
    (cond_elim (AllOf g.packets) (emptied g g' a b) (λ _. tt) (λ _. handled_of g s a b (packets g a b) (h a b)))
    (cond_elim (AllOf g.packets) (marked (in_use (cabinet g' a)) b) (λ _. put_of g.packets (cabinet g a) (cabinet g' a) s a b) (λ _. tt))

crash_of : (v : PacketVersion) (g : Group) → Carrying v g → Carrying v (crash_all g)
unfolding line outgoing crash_all
crash_of v g h = h

return_of : (v : PacketVersion) (ps : Points) (g : Group) (name : List ℕ) → Carrying v g → Carrying v (return_to ps g name).group
unfolding line outgoing return_to returned
return_of v ps g name h = cond_elim (λ (x : Outcome). Carrying v x.group) (eqb (return_refusal ps g name) 0) (λ _. h) (λ _. h)

decoded : (g : Group) (r : List ℕ) (d : Decoded) → decode r ≡ d → (step g r).answer ≡ (step_decoded g d).answer
unfolding step
decoded g r d is = ap (λ (x : Decoded). (step_decoded g x).answer) is

-- ---- every run

module _ (f : List ℕ) (of : Octets f) (e : (load f).answer ≡ 0) where
  abbrev v : PacketVersion
  v = (load f).group.packets

  step_of : (xs : List Operation) → AllOctets xs → (r : List ℕ) → Octets r → Carrying v (world_after f xs).group → Carrying v (step (world_after f xs).group r).group
  step_of xs o r or h = elim (ℕ_discrete (step g r).answer 0) [
    | yes taken ↦ took (decode r) refl taken
    | no kept ↦ elim (ℕ_discrete (step g r).answer 50) [
      | yes stops ↦ subst (Carrying v) (sym (crash_stops g r stops)) (crash_of v g h)
      | no goes ↦ subst (Carrying v) (sym (refusal_keeps g r kept goes)) h
    ]
  ]
    where
      g : Group
      g = (world_after f xs).group

      took : (d : Decoded) → decode r ≡ d → (step g r).answer ≡ 0 → Carrying v (step g r).group
      took Malformed is taken = absurd (omega (arith, taken, decoded g r Malformed is))
      took Unused is taken = absurd (omega (arith, taken, decoded g r Unused is))
      took (Taken s) is taken = λ a b.
          subst (AllOf v) (sym (first_in_first_out f of e xs o r or s is taken a b))
          (subst (λ (u : PacketVersion). AllOf u (line_after g (step g r).group s a b)) (version_stays f xs)
          (line_of g (step g r).group s a b (subst (λ (u : PacketVersion). Carrying u g) (sym (version_stays f xs)) h)))

  one_of : (xs : List Operation) → AllOctets xs → (x : Operation) → AllOctets (x ∷ []) → Carrying v (world_after f xs).group → Carrying v (advance (world_after f xs) x).group
  unfolding advance
  one_of xs o (stepping r) ox h = step_of xs o r ox.0 h
  one_of xs o (pointing name) ox h = h
  one_of xs o (returning name) ox h = return_of v (world_after f xs).points (world_after f xs).group name h

  from : (xs ys : List Operation) → AllOctets xs → AllOctets ys → Carrying v (world_after f xs).group → Carrying v (run (world_after f xs) ys).group
  unfolding run
  from xs [] o p h = h
  from xs (y ∷ ys) o p h =
      let next : advance (world_after f xs) y ≡ world_after f (xs ++ y ∷ []) = run_append (opening (load f).group) xs (y ∷ []) in
      subst (λ (w : World). Carrying v (run w ys).group) (sym next)
      (from (xs ++ y ∷ []) ys (octets_append xs (y ∷ []) o (p.0, tt)) p.1
      (subst (λ (w : World). Carrying v w.group) next (one_of xs o y (p.0, tt) h)))

  at_start : Carrying v (load f).group
  unfolding content
  at_start a b = subst (λ (l : Line). AllOf v (content l.cells)) (sym ((starts f of e).empty a b)) tt

-- where a packet stands
standing : (v : PacketVersion) (cs : List Cell) (k : ℕ) (p : Payload) → (get_or cs k empty_cell).packet ≡ NormalPacket p → AllOf v (content cs) → length (octets_of p) ≡ packet_octets v
unfolding content
standing v [] k p is h = subst (OfVersion v) is tt
standing v (c ∷ cs) zero p is h = (subst (AllOf v) (ap (λ (x : Packet). packet_of x (content cs)) is) h).0
standing v (c ∷ cs) (suc k) p is h = standing v cs k p is (behind c.packet h)
  where
    behind : (x : Packet) → AllOf v (packet_of x (content cs)) → AllOf v (content cs)
    behind Empty h = h
    behind (NormalPacket q) h = h.1
    behind (Checkp q) h = h.1
    behind Resume h = h.1
    behind (Recover q) h = h.1
    behind (Fault q) h = h.1
    behind Invalid h = h.1

pub packets_of_version : PacketsOfVersion
unfolding run
packets_of_version f of e xs o a b k p is =
    standing (load f).group.packets (line (world_after f xs).group a b).cells k p is (from f of e [] xs tt o (at_start f of e) a b)
    ∙ ap packet_octets (sym (version_stays f xs))
