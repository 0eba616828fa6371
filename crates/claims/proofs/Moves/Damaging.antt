-- Kind 11, damage: a packet on a line is hurt while nobody recovers. A fail-safe packet becomes invalid; a normal one has another amount,
-- and the receiver's hurt mark says so.
use Rattle.std.specs.Prelude.{None, Some}
use Prim.Native.Nat.{ℕ, zero, suc, ◌+◌, ◌<◌, ◌≤◌}
use mathlib.Core.Path.{◌≡◌, refl, sym, ap, ◌∙◌, subst}
use mathlib.Core.Logic.{◌≢◌}
use mathlib.Core.Bool.{Bool, true, false, cond, not, false≢true, true≢false, ◌||◌}
use mathlib.Core.List.{List, [], ◌∷◌, ◌++◌, nil≢cons}
use lib.ListN.{get_or, set}
use native.Mathlib.Omega.{arith}
use Rattle.marks.specs.Reach.{mark}
use Rattle.outlet.specs.declared.Outlet.{Outlet}
use Rattle.outlet.specs.declared.Party.{Party}
use Rattle.outlet.specs.Outlet.{party_of, same_party}
use Rattle.packet.specs.declared.PacketVersion.{PacketVersion}
use Rattle.packet.specs.Packet.{OwnCheck}
use Rattle.packet.specs.declared.Pattern.{Pattern}
use Rattle.packet.specs.declared.Payload.{Payload}
use Rattle.packet.specs.declared.Check.{Check}
use Rattle.packet.specs.declared.Packet.{Packet}
use Rattle.packet.specs.declared.Packet.TheVariants.{Empty, Normal as NormalPacket, Checkp, Resume, Recover, Fault, Invalid}
use Rattle.packet.specs.Packet.{fits, is_empty, is_normal, pattern_right, hurt_by, damaged, is_of}
use Rattle.packet.proofs.Bursts.{bursts_seen, amounts_change, outlet_kept, bounded}
use Rattle.line.specs.Line.{packet_at, replaced}
use Rattle.state.specs.declared.State.{State}
use Rattle.state.specs.declared.State.TheVariants.{Checkpointing, Error}
use Rattle.state.specs.State.{is_in, works}
use Rattle.group.specs.declared.Group.{Group}
use Rattle.group.specs.Group.{line, with_line, rows_of, some, recovering_ones}
use Rattle.protocol.specs.Kinds.{need, hurt_already, damage_refusal, hurt}
use Rattle.protocol.specs.History.{History, note_cuts, note_damage}
use Rattle.claims.proofs.State.Fun.{never, is_false, and_intro, not_true_false}
use Rattle.claims.proofs.State.Every.{passed, with_line_lem}
use Rattle.claims.proofs.State.View.{View, content, view, set_line}
use Rattle.claims.proofs.State.Cells.{content_set}
use Rattle.claims.proofs.State.Shape.{Shaped, Lined, Pictured, shaped}
use Rattle.claims.proofs.State.Sim.{Fit, view_line}
use Rattle.claims.proofs.Invariant.Facts.{Wire, Ghost, amount_of, amounts_in, count, is_fault, is_checkp, is_safe, checkp_last, resumes, resume_first, Amounts, Fitting, Hurt, amount_changed, unfit, Differ, here, amount, part}
use Rattle.claims.proofs.Invariant.Whole.{Inv}
use Rattle.claims.proofs.Invariant.Past.{Past, Kept, no_cuts, past_same}
use Rattle.claims.proofs.Invariant.Logs.{head_eq, tail_eq}
use Rattle.claims.proofs.Invariant.Words.{nobody_recovers}
use Rattle.claims.proofs.Invariant.Staying.{stays_none}
use Rattle.claims.proofs.Invariant.States.{error_recovers}
use Rattle.claims.proofs.Moves.Sending.{wire_kept}
use Rattle.claims.proofs.Moves.Hurting.{Hit, resumes_later, differ_later, small_later, g_uncalm, w_hurt, v_hit, g_hit, hurt_inv, seen_mark, note_hit, hit_past, less_later}

-- ---- a line with one packet damaged

abbrev pub hit : List Packet → ℕ → Pattern → List Packet
hit l k w = set l k (damaged (get_or l k Empty) w)

damaged_plain : (f : Packet → Bool) (x : Packet) (q : Pattern) → is_empty x ≡ false → f Invalid ≡ false → ((p : Payload) → f (NormalPacket p) ≡ false) → f (damaged x q) ≡ false
damaged_plain f Empty q e i n = absurd (true≢false e)
damaged_plain f (NormalPacket p) q e i n = n _
damaged_plain f (Checkp v) q e i n = i
damaged_plain f Resume q e i n = i
damaged_plain f (Recover v) q e i n = i
damaged_plain f (Fault p) q e i n = i
damaged_plain f Invalid q e i n = i

damaged_safe : (x : Packet) (q : Pattern) → is_safe (damaged x q) ≡ is_safe x
damaged_safe Empty q = refl
damaged_safe (NormalPacket p) q = refl
damaged_safe (Checkp v) q = refl
damaged_safe Resume q = refl
damaged_safe (Recover v) q = refl
damaged_safe (Fault p) q = refl
damaged_safe Invalid q = refl

count_none : (f : Packet → Bool) (l : List Packet) (k : ℕ) (y : Packet) → f y ≡ false → count f l ≡ 0 → count f (set l k y) ≡ 0
unfolding count
count_none f [] k y e z = refl
count_none f (x ∷ l) zero y e z = rw e (omega arith)
count_none f (x ∷ l) (suc k) y e z = omega (arith, count_none f l k y e (omega arith))

count_same : (f : Packet → Bool) (l : List Packet) (k : ℕ) (y : Packet) → f y ≡ f (get_or l k Empty) → count f (set l k y) ≡ count f l
unfolding count
count_same f [] k y e = refl
count_same f (x ∷ l) zero y e = ap (λ (t : Bool). cond t 1 0 + count f l) e
count_same f (x ∷ l) (suc k) y e = ap (λ (j : ℕ). cond (f x) 1 0 + j) (count_same f l k y e)

last_kept : (l : List Packet) (k : ℕ) (y : Packet) → is_checkp y ≡ false → checkp_last l → checkp_last (set l k y)
unfolding checkp_last
last_kept [] k y e c = c
last_kept (x ∷ l) zero y e c = ((λ f. absurd (never f e)), c.1)
last_kept (x ∷ l) (suc k) y e c = ((λ f. ap (λ (r : List Packet). set r k y) (c.0 f)), last_kept l k y e c.1)

-- a checkp at the end was there before
set_nil : (l : List Packet) (k : ℕ) (y : Packet) → set l k y ≡ [] → l ≡ []
set_nil [] k y e = refl
set_nil (x ∷ l) zero y e = absurd (nil≢cons (sym e))
set_nil (x ∷ l) (suc k) y e = absurd (nil≢cons (sym e))

ended : (l : List Packet) (k : ℕ) (y : Packet) (v : Check) (j : List Packet) → is_checkp y ≡ false → set l k y ≡ j ++ (Checkp v ∷ [])
    → (r : List Packet) × (l ≡ r ++ (Checkp v ∷ []))
ended [] k y v [] n e = absurd (nil≢cons e)
ended [] k y v (z ∷ j) n e = absurd (nil≢cons e)
ended (x ∷ l) zero y v [] n e = absurd (never (ap is_checkp (head_eq e)) n)
ended (x ∷ l) zero y v (z ∷ j) n e = (x ∷ j, ap (λ (r : List Packet). x ∷ r) (tail_eq e))
ended (x ∷ l) (suc k) y v [] n e = ([], rw (set_nil l k y (tail_eq e)) (ap (λ (p : Packet). p ∷ []) (head_eq e)))
ended (x ∷ l) (suc k) y v (z ∷ j) n e = let r = ended l k y v j n (tail_eq e) in (x ∷ r.0, ap (λ (r : List Packet). x ∷ r) r.1)

resumes_hit : (x : Packet) (q : Pattern) (r : Bool) → resumes x r ≡ true → resumes (damaged x q) r ≡ true
resumes_hit Empty q r e = absurd (false≢true e)
resumes_hit (NormalPacket p) q r e = absurd (false≢true e)
resumes_hit (Checkp v) q r e = refl
resumes_hit Resume q r e = refl
resumes_hit (Recover v) q r e = refl
resumes_hit (Fault p) q r e = refl
resumes_hit Invalid q r e = refl

resume_hit : (l : List Packet) (k : ℕ) (q : Pattern) → resume_first l ≡ true → resume_first (hit l k q) ≡ true
unfolding resume_first
resume_hit [] k q e = absurd (false≢true e)
resume_hit (x ∷ l) zero q e = resumes_hit x q (resume_first l) e
resume_hit (x ∷ l) (suc k) q e = resumes_later x (resume_first l) (resume_first (hit l k q)) (resume_hit l k q) e

-- ---- its amounts

plain_amount : (x : Packet) (q : Pattern) (r : List Payload) → is_normal x ≡ false → amount_of (damaged x q) r ≡ amount_of x r
plain_amount Empty q r e = refl
plain_amount (NormalPacket p) q r e = absurd (true≢false e)
plain_amount (Checkp v) q r e = refl
plain_amount Resume q r e = refl
plain_amount (Recover v) q r e = refl
plain_amount (Fault p) q r e = refl
plain_amount Invalid q r e = refl

-- damage to a fail-safe packet leaves them
amounts_hit : (l : List Packet) (k : ℕ) (q : Pattern) → is_normal (get_or l k Empty) ≡ false → amounts_in (hit l k q) ≡ amounts_in l
unfolding amounts_in
amounts_hit [] k q e = refl
amounts_hit (x ∷ l) zero q e = plain_amount x q (amounts_in l) e
amounts_hit (x ∷ l) (suc k) q e = ap (amount_of x) (amounts_hit l k q e)

-- damage leaves the outlet, so it leaves the amounts of the other party
module _ (y : Party) (q : Pattern) where
  no_part : (p : Payload) → same_party (party_of p.outlet) y ≡ false → part y p ≡ 0
  no_part p e = rw e

  first_less : (x : Packet) (r : List Payload) → is_of y x ≡ false → amount y (amount_of (damaged x q) r) ≤ amount y (amount_of x r)
  unfolding amount
  first_less Empty r e = omega arith
  first_less (NormalPacket p) r e =
      omega (arith, no_part p e, no_part (hurt_by p q) (ap (λ (o : Outlet). same_party (party_of o) y) (sym (outlet_kept p q)) ∙ e))
  first_less (Checkp v) r e = omega arith
  first_less Resume r e = omega arith
  first_less (Recover v) r e = omega arith
  first_less (Fault p) r e = omega arith
  first_less Invalid r e = omega arith

  less_hit : (l : List Packet) (k : ℕ) → is_of y (get_or l k Empty) ≡ false → amount y (amounts_in (hit l k q)) ≤ amount y (amounts_in l)
  unfolding amounts_in
  less_hit [] k e = omega arith
  less_hit (x ∷ l) zero e = first_less x (amounts_in l) e
  less_hit (x ∷ l) (suc k) e = less_later y x (amounts_in (hit l k q)) (amounts_in l) (less_hit l k e)

-- what damage that is taken leaves of a packet that fitted
hurts : (v : PacketVersion) (p : Payload) (q : Pattern) → q.mask < 65536 → pattern_right v q ≡ true → fits p ≡ true → Hurt p (hurt_by p q)
hurts v p q s r f = go p.own refl
  where
    go : (k : OwnCheck) → p.own ≡ k → Hurt p (hurt_by p q)
    go None e = let c = amounts_change p e v q r in amount_changed e c.0 (outlet_kept p q) c.1
    go (Some c) e = unfit (bursts_seen p c e f v q s r)

module _ (version : PacketVersion) (q : Pattern) (lq : q.mask < 65536) (right : pattern_right version q ≡ true) where
  differ_first : (x : Packet) (r : List Payload) → is_normal x ≡ true → Fitting (amount_of x r) → Differ true (amount_of x r) (amount_of (damaged x q) r)
  unfolding Fitting
  differ_first Empty r e f = absurd (false≢true e)
  differ_first (NormalPacket p) r e f = here (hurts version p q lq right f.0)
  differ_first (Checkp v) r e f = absurd (false≢true e)
  differ_first Resume r e f = absurd (false≢true e)
  differ_first (Recover v) r e f = absurd (false≢true e)
  differ_first (Fault p) r e f = absurd (false≢true e)
  differ_first Invalid r e f = absurd (false≢true e)

  fitting_rest : (x : Packet) (r : List Payload) → Fitting (amount_of x r) → Fitting r
  unfolding Fitting
  fitting_rest Empty r f = f
  fitting_rest (NormalPacket p) r f = f.1
  fitting_rest (Checkp v) r f = f
  fitting_rest Resume r f = f
  fitting_rest (Recover v) r f = f
  fitting_rest (Fault p) r f = f
  fitting_rest Invalid r f = f

  -- damage to a normal packet changes one
  differ_hit : (l : List Packet) (k : ℕ) → is_normal (get_or l k Empty) ≡ true → Fitting (amounts_in l) → Differ true (amounts_in l) (amounts_in (hit l k q))
  unfolding amounts_in
  differ_hit [] k e f = absurd (false≢true e)
  differ_hit (x ∷ l) zero e f = differ_first x (amounts_in l) e f
  differ_hit (x ∷ l) (suc k) e f = differ_later x (amounts_in l) (amounts_in (hit l k q)) (differ_hit l k e (fitting_rest x (amounts_in l) f))

small_first : (x : Packet) (q : Pattern) (r : List Payload) → q.mask < 65536 → Amounts (amount_of x r) → Amounts (amount_of (damaged x q) r)
unfolding Amounts
small_first Empty q r l a = a
small_first (NormalPacket p) q r l a = (bounded p q a.0 l, a.1)
small_first (Checkp v) q r l a = a
small_first Resume q r l a = a
small_first (Recover v) q r l a = a
small_first (Fault p) q r l a = a
small_first Invalid q r l a = a

small_hit : (l : List Packet) (k : ℕ) (q : Pattern) → q.mask < 65536 → Amounts (amounts_in l) → Amounts (amounts_in (hit l k q))
unfolding amounts_in
small_hit [] k q h a = a
small_hit (x ∷ l) zero q h a = small_first x q (amounts_in l) h a
small_hit (x ∷ l) (suc k) q h a = small_later x (amounts_in l) (amounts_in (hit l k q)) (small_hit l k q h) a

-- ---- what is left of the line

module _ (version : PacketVersion) (l : List Packet) (k : ℕ) (q : Pattern) (lq : q.mask < 65536) (right : pattern_right version q ≡ true) (full : is_empty (get_or l k Empty) ≡ false) where
  abbrev new : Packet
  new = damaged (get_or l k Empty) q

  no_checkp : is_checkp new ≡ false
  no_checkp = damaged_plain is_checkp (get_or l k Empty) q full refl (λ r. refl)

  no_fault_lem : is_fault new ≡ false
  no_fault_lem = damaged_plain is_fault (get_or l k Empty) q full refl (λ r. refl)

  damage_hits : Hit (is_normal (get_or l k Empty)) l (hit l k q)
  damage_hits = record {
    full = λ e. true≢false (sym (ap (λ (r : List Packet). is_empty (get_or r k Empty)) e) ∙ full);
    faults = count_none is_fault l k new no_fault_lem;
    checkps = count_none is_checkp l k new no_checkp;
    last = last_kept l k new no_checkp;
    ended = λ c v r e. ended l k new v r no_checkp e;
    resumed = resume_hit l k q;
    safe = rw (count_same is_safe l k new (damaged_safe (get_or l k Empty) q)) (omega arith);
    other = differ_hit version q lq right l k;
    same = amounts_hit l k q;
    small = small_hit l k q lq;
  }

still_clean : (t c : Bool) → cond t false c ≡ true → (t ≡ false) × (c ≡ true)
still_clean true c e = absurd (false≢true e)
still_clean false c e = (refl, e)

damaged_now : (t c d : Bool) → d ≡ not c → (t || d) ≡ not (cond t false c)
damaged_now true c d e = refl
damaged_now false c d e = e

-- ---- the step

module _ (total : Party → ℕ) (g : Group) (h : History) (γ : Ghost) (w : Fit g) (i : Inv g.n total (view g) γ) (past : Past g.n (view g) γ h)
    (a b p : ℕ) (q : Pattern) (la : a < 8) (lb : b < 8) (lq : q.mask < 65536) (fine : damage_refusal g a b p q ≡ 0) (still : some (recovering_ones g) ≡ false) where
  abbrev old : Packet
  old = packet_at (line g a b) p

  checks : (r s t u : Bool) → need r 13 (need (not s) 18 (need t 15 (need (not u) 20 0))) ≡ 0 → (s ≡ false) × (t ≡ true) × (u ≡ false)
  checks r s t u e =
      let e1 = passed r 12 _ e in
      let e2 = passed (not s) 17 _ e1.1 in
      let e3 = passed t 14 _ e2.1 in
      (not_true_false e2.0, e3.0, not_true_false (passed (not u) 19 0 e3.1).0)

  met : (is_empty old ≡ false) × (pattern_right g.packets q ≡ true) × (hurt_already g a b old ≡ false)
  met = checks (mark (rows_of g.links) a b) _ _ _ fine

  abbrev v : View
  v = view g

  lined : (content (replaced (line g a b) p (damaged old q)).cells ≡ set (v.lines a b) p (damaged old q)) × (get_or (v.lines a b) p Empty ≡ old)
  lined = content_set (line g a b).cells p (damaged old q) (damaged_plain is_empty old q met.0 refl (λ r. refl)) met.0 (w.lines a b).packed

  full_there : is_empty (get_or (v.lines a b) p Empty) ≡ false
  full_there = ap is_empty lined.1 ∙ met.0

  abbrev there : Packet
  there = get_or (v.lines a b) p Empty

  abbrev normal : Bool
  normal = is_normal there

  not_twice : normal ≡ true → (v.side b a).hurt ≡ false
  not_twice e = is_false (v.side b a).hurt (λ f. never (and_intro (ap is_normal (sym lined.1) ∙ e) f) met.2)

  hits : Hit normal (v.lines a b) (hit (v.lines a b) p q)
  hits = damage_hits g.packets (v.lines a b) p q lq met.1 full_there

  -- no longer clean for the party of the packet, where it is normal
  abbrev clean' : Packet → Party → Bool
  clean' x y = cond (is_of y x) false (γ.big.clean y)

  abbrev g1 : Group
  g1 = with_line g a b (replaced (line g a b) p (damaged old q))

  seen_line : view g1 ≡ set_line v a b (hit (v.lines a b) p q)
  seen_line =
      view_line g w.frame a b _ la lb
      ∙ ap (set_line v a b) (lined.0 ∙ ap (λ (x : Packet). set (v.lines a b) p (damaged x q)) (sym lined.1))

  fit1 : Fit g1
  fit1 = with_line_lem Shaped Lined Pictured shaped g a b _ (shaped.damages (line g a b) p q lq (w.lines a b)) w

  abbrev g' : Group
  g' = hurt g a b p q

  pub seen : view g' ≡ v_hit v a b (is_normal old) (hit (v.lines a b) p q)
  unfolding hurt
  seen = seen_mark v g1 fit1 a b la lb _ seen_line (is_normal old)

  state_kept : (c : ℕ) → ((view g').own c).state ≡ (v.own c).state
  state_kept c = ap (λ (x : View). (x.own c).state) seen

  abbrev δ : Packet → Ghost
  δ x = g_hit (g_uncalm γ (clean' x)) a b (is_normal x)

  kept_inv : Inv g.n total (v_hit v a b (is_normal old) (hit (v.lines a b) p q)) (δ old)
  kept_inv =
      subst (λ (x : Packet). Inv g.n total (v_hit v a b (is_normal x) (hit (v.lines a b) p q)) (δ x)) lined.1
      (hurt_inv g.n total v γ i (nobody_recovers g w still) a b normal (clean' there) _ hits not_twice
      (λ y e. (still_clean (is_of y there) (γ.big.clean y) e).1) (λ y e. less_hit y q (v.lines a b) p (still_clean (is_of y there) (γ.big.clean y) e).0))

  -- a fail-safe packet is of no party
  past_safe : Past g.n (view g') (δ Invalid) h
  past_safe =
      hit_past (past_same state_kept past) a b false γ.big.clean h.damaged h.hurt past.damaged
      (λ c d. past.hurt c d ∙ sym (wire_kept (λ (y : Wire). y.hurt) γ a b (w_hurt false (γ.wire a b)) refl c d))

  past_mark : (x : Packet) → Past g.n (view g') (δ x) (note_damage x h a b)
  past_mark Empty = past_safe
  past_mark (NormalPacket r) =
      hit_past (past_same state_kept past) a b true (clean' (NormalPacket r)) (note_damage (NormalPacket r) h a b).damaged _
      (λ y. damaged_now (is_of y (NormalPacket r)) (γ.big.clean y) (h.damaged y) (past.damaged y)) (note_hit past a b)
  past_mark (Checkp c) = past_safe
  past_mark Resume = past_safe
  past_mark (Recover c) = past_safe
  past_mark (Fault c) = past_safe
  past_mark Invalid = past_safe

  pub keeps_damage : Kept total g γ g' (note_cuts (note_damage (packet_at (line g a b) p) h a b) g g')
  keeps_damage = record {
    ghost = δ old;
    inv = subst (λ (x : View). Inv g.n total x (δ old)) (sym seen) kept_inv;
    past = rw (no_cuts (note_damage old h a b) g g' (λ c e. ap (λ (s : State). is_in s Checkpointing) (sym (state_kept c)) ∙ e)) (past_mark old);
    stays = stays_none v γ (view g') (δ old) (nobody_recovers g w still) (λ c e. ap works (state_kept c) ∙ e)
        (λ c e. absurd (never (error_recovers (v.own c).state (ap (λ (s : State). is_in s Error) (sym (state_kept c)) ∙ e)) (nobody_recovers g w still c)));
  }
