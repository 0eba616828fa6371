-- What the documents ask of every run beside demand 3: the packet version stays, lines keep to their sizes, and additions do not wrap.
use Prim.Native.Nat.{ℕ, zero, suc, ◌+◌, ◌<◌, ◌≤◌}
use mathlib.Core.Path.{◌≡◌, refl, sym, ap, ◌∙◌, subst}
use mathlib.Core.Logic.{⊎_elim}
use mathlib.Core.Bool.{Bool, true, false, not, ◌&&◌, ◌||◌, false≢true, cond}
use mathlib.Core.List.{List, [], ◌∷◌, nil≢cons}
use lib.ListN.{length}
use native.Mathlib.Omega.{arith}
use native.Mathlib.Decide.{ℕ_discrete}
use Rattle.marks.specs.Marks.{marked}
use Rattle.outlet.specs.declared.Outlet.{Outlet}
use Rattle.outlet.specs.declared.Outlet.TheVariants.{A, B, W}
use Rattle.outlet.specs.declared.Party.{Party}
use Rattle.outlet.specs.declared.Party.TheVariants.{Buses, Workshop}
use Rattle.outlet.specs.Outlet.{party_of}
use Rattle.packet.specs.declared.PacketVersion.{PacketVersion}
use Rattle.packet.specs.declared.Payload.{Payload}
use Rattle.packet.specs.declared.Packet.{Packet}
use Rattle.packet.specs.declared.Packet.TheVariants.{Empty, Normal as NormalPacket, Checkp, Resume, Recover, Fault, Invalid}
use Rattle.packet.specs.Packet.{is_of}
use Rattle.line.specs.declared.Cell.{Cell}
use Rattle.line.specs.Line.{oldest, rest, normals_in}
use Rattle.state.specs.declared.State.{State}
use Rattle.state.specs.declared.State.TheVariants.{Failed, Normal, CheckpBegin, Checkpointing, Checkpointed, Error, Recovering, Recovered, Crashed}
use Rattle.state.specs.State.{is_in, works, in_recovery}
use Rattle.image.specs.Image.{booked}
use Rattle.image.proofs.Laws.{booking_within, share}
use Rattle.group.specs.declared.Group.{Group}
use Rattle.group.specs.Group.{cabinet, state_of, line, is_crashed, sum}
use Rattle.load.specs.Load.{load, feeder_total}
use Rattle.protocol.specs.Receive.{takes_from}
use Rattle.protocol.specs.History.{Operation, opening}
use Rattle.protocol.specs.Restored.{Octets, AllOctets, world_after}
use Rattle.claims.specs.Bounds.{VersionStays, LinesBounded, HasRoom, NeverWraps, normals_of}
use Rattle.claims.proofs.State.Fun.{never, is_true, sum_add, sum_swap}
use Rattle.claims.proofs.State.View.{View, packet_of, content, view}
use Rattle.claims.proofs.State.ViewMoves.{sim_off}
use Rattle.claims.proofs.Invariant.Facts.{Ghost, Pair, unaware, amounts_in, amount}
use Rattle.claims.proofs.Invariant.Whole.{Inv, out_of, got_of}
use Rattle.claims.proofs.Invariant.Words.{un_of, un_works, live_line, one_party}
use Rattle.claims.proofs.Claims.Demand.{Runs, every_list, run_fixed}

pub version_stays : VersionStays
version_stays f xs = ap (λ (y : ℕ × PacketVersion). y.1) (run_fixed xs (opening (load f).group))

-- ---- sizes

one_within : (p : Packet) (l : List Packet) → length (packet_of p l) ≤ suc (length l)
one_within Empty l = omega arith
one_within (NormalPacket q) l = omega arith
one_within (Checkp v) l = omega arith
one_within Resume l = omega arith
one_within (Recover v) l = omega arith
one_within (Fault q) l = omega arith
one_within Invalid l = omega arith

packets_within : (cs : List Cell) → length (content cs) ≤ length cs
unfolding content
packets_within [] = omega arith
packets_within (c ∷ cs) = omega (arith, one_within c.packet (content cs), packets_within cs)

-- a normal packet is of one of the parties
one_normal : (p : Packet) (l : List Packet) (j k : ℕ) → length (normals_of l) ≤ j + k
    → length (normals_of (packet_of p l)) ≤ (cond (is_of Buses p) 1 0 + j) + (cond (is_of Workshop p) 1 0 + k)
unfolding normals_of
one_normal Empty l j k h = omega arith
one_normal (NormalPacket q) l j k h = omega (arith, one_party (party_of q.outlet))
one_normal (Checkp v) l j k h = omega arith
one_normal Resume l j k h = omega arith
one_normal (Recover v) l j k h = omega arith
one_normal (Fault q) l j k h = omega arith
one_normal Invalid l j k h = omega arith

normals_both : (cs : List Cell) → length (normals_of (content cs)) ≤ normals_in Buses cs + normals_in Workshop cs
unfolding content normals_of
normals_both [] = omega arith
normals_both (c ∷ cs) = one_normal c.packet (content cs) (normals_in Buses cs) (normals_in Workshop cs) (normals_both cs)

pub lines_bounded : LinesBounded
lines_bounded f of e xs o a b =
    let h = (every_list f of e xs o).fit.lines a b in
    let cs = (line (world_after f xs).group a b).cells in
    (omega (arith, packets_within cs, h.twelve), h.few Buses, h.few Workshop, omega (arith, normals_both cs, h.few Buses, h.few Workshop))

-- ---- what holds of every group that has not crashed

pub running : (f : List ℕ) → Octets f → (load f).answer ≡ 0 → (xs : List Operation) → AllOctets xs
    → is_crashed (world_after f xs).group ≡ false → Runs (feeder_total f) (world_after f xs).group (world_after f xs).history
running f of e xs o c = ⊎_elim (λ x. absurd (never x c)) (λ w. w) (every_list f of e xs o).going

-- ---- additions

-- what a packet carries is all its own party's
all_own : (o : Outlet) (q : ℕ) → share (party_of o) o q ≡ q
all_own A q = refl
all_own B q = refl
all_own W q = refl

sum_less : (f g : ℕ → ℕ) (n : ℕ) → ((i : ℕ) → f i ≤ g i) → sum f n ≤ sum g n
unfolding sum
sum_less f g zero h = omega arith
sum_less f g (suc n) h = omega (arith, h n, sum_less f g n h)

-- a sum grows by q where one of its terms does and none falls
sum_more : (f g : ℕ → ℕ) (a n q : ℕ) → a < n → ((i : ℕ) → f i ≤ g i) → f a + q ≤ g a → sum f n + q ≤ sum g n
unfolding sum
sum_more f g a zero q l h e = absurd (omega arith)
sum_more f g a (suc n) q l h e = elim (ℕ_discrete n a) [
  | yes d ↦ omega (arith, rw (sym d) at e, sum_less f g n h)
  | no d ↦ omega (arith, sum_more f g a n q (omega arith) h e, h n)
]

takes_calm : (s : State) (t : Bool) → is_in s Normal || (is_in s CheckpBegin && not t) ≡ true → (works s ≡ true) × (in_recovery s ≡ false)
takes_calm Failed t e = absurd (false≢true e)
takes_calm Normal t e = (refl, refl)
takes_calm CheckpBegin t e = (refl, refl)
takes_calm Checkpointing t e = absurd (false≢true e)
takes_calm Checkpointed t e = absurd (false≢true e)
takes_calm Error t e = absurd (false≢true e)
takes_calm Recovering t e = absurd (false≢true e)
takes_calm Recovered t e = absurd (false≢true e)
takes_calm Crashed t e = absurd (false≢true e)

module _ (total : Party → ℕ) (g : Group) (γ : Ghost) (i : Inv g.n total (view g) γ) (a b : ℕ) (p : Payload) (clean : γ.big.clean (party_of p.outlet) ≡ true)
    (first : oldest (line g a b) ≡ NormalPacket p) (takes : takes_from (cabinet g b) a ≡ true) where
  abbrev v : View
  v = view g

  abbrev left : List Packet
  left = content (rest (line g a b)).cells

  here : Pair γ.big a b (v.own a) (γ.mind a) (v.own b) (γ.mind b) (v.side a b) (v.side b a) (NormalPacket p ∷ left) (γ.wire a b)
  here =
      subst (λ (l : List Packet). Pair γ.big a b (v.own a) (γ.mind a) (v.own b) (γ.mind b) (v.side a b) (v.side b a) l (γ.wire a b))
      (sim_off g a b (rw first) ∙ ap (λ (x : Packet). x ∷ left) first) (i.core.pairs a b)

  calm : unaware γ.big (v.own b) ≡ true
  calm = let c = takes_calm (state_of g b) (marked (cabinet g b).noted.come a) takes in un_of γ.big (v.own b) c.0 c.1

  below_eight : (c : ℕ) → works (state_of g c) ≡ true → c < 8
  below_eight c e = omega (arith, i.core.ground.within c ((i.core.nodes c).placed e), i.core.ground.most)

  la : a < 8
  la = below_eight a (live_line here (λ e. nil≢cons (sym e))).0

  lb : b < 8
  lb = below_eight b (un_works γ.big (v.own b) calm)

  -- the packet's party, and nothing is asked of the other one
  abbrev y : Party
  y = party_of p.outlet

  -- no more was taken than was sent, on this line with the packet that stands first
  taken_within : (c d : ℕ) → (γ.wire c d).got y ≤ (γ.wire c d).out y
  taken_within c d = omega (arith, (i.core.pairs c d).no_more y clean)

  with_first : (γ.wire a b).got y + p.amount ≤ (γ.wire a b).out y
  unfolding amounts_in amount
  with_first = omega (arith, here.no_more y clean, all_own p.outlet p.amount)

  -- over all lines
  all_within : sum (λ c. got_of γ c y) 8 + p.amount ≤ sum (λ c. out_of γ c y) 8
  all_within =
      let taken : ℕ → ℕ → ℕ = λ c d. (γ.wire c d).got y in
      let sent : ℕ → ℕ → ℕ = λ c d. (γ.wire c d).out y in
      let from-a = sum_more (taken a) (sent a) b 8 p.amount lb (taken_within a) with_first in
      let from_all =
      sum_more (λ c. sum (taken c) 8) (λ c. out_of γ c y) a 8 p.amount la (λ c. sum_less (taken c) (sent c) 8 (taken_within c)) from-a in
      omega (arith, from_all, sum_swap taken 8 8)

  -- no cabinet has sent more than it had, and b has what it books over
  all_booked : sum (λ c. out_of γ c y) 8 + booked y (v.own b).image ≤ sum (λ c. booked y (γ.mind c).base + got_of γ c y) 8
  all_booked =
      let k = (i.core.books b).live calm y in
      sum_more (λ c. out_of γ c y) (λ c. booked y (γ.mind c).base + got_of γ c y) b 8 (booked y (v.own b).image) lb (λ c. (i.core.books c).bounded y)
      (omega (arith, k.1))

  -- what bounds a party's bookings together bounds each
  no_wrap : HasRoom g b p
  no_wrap =
      let s = i.core.sums in
      omega (arith, booking_within p.outlet (cabinet g b).image, all_within, all_booked, sum_add (λ c. booked y (γ.mind c).base) (λ c. got_of γ c y) 8, s.bases y, s.least y)

pub never_wraps : NeverWraps
never_wraps f of e xs o c a b p unhurt =
    let w = running f of e xs o c in
    let y = party_of p.outlet in
    no_wrap _ _ w.ghost w.inv a b p (is_true (w.ghost.big.clean y) (λ x. never (w.past.damaged y ∙ ap not x) unhurt))
