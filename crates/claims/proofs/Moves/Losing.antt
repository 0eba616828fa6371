-- Kind 12, lose: a normal packet goes from a line while nobody recovers, those behind it move up, and the receiver's hurt mark says so.
use Prim.Native.Nat.{ℕ, zero, suc, ◌<◌, ◌≤◌}
use mathlib.Core.Path.{◌≡◌, refl, sym, ap, ◌∙◌, subst}
use mathlib.Core.Bool.{Bool, true, false, not, false≢true, true≢false}
use mathlib.Core.List.{List, [], ◌∷◌, ◌++◌}
use lib.ListN.{get_or, take, drop}
use native.Mathlib.Omega.{arith}
use Rattle.marks.specs.Reach.{mark}
use Rattle.outlet.specs.declared.Party.{Party}
use Rattle.packet.specs.declared.Payload.{Payload}
use Rattle.packet.specs.declared.Check.{Check}
use Rattle.packet.specs.declared.Packet.{Packet}
use Rattle.packet.specs.declared.Packet.TheVariants.{Empty, Normal as NormalPacket, Checkp, Resume, Recover, Fault, Invalid}
use Rattle.packet.specs.Packet.{is_empty, is_normal}
use Rattle.line.specs.Line.{packet_at, without}
use Rattle.state.specs.declared.State.{State}
use Rattle.state.specs.declared.State.TheVariants.{Checkpointing, Error}
use Rattle.state.specs.State.{is_in, works}
use Rattle.group.specs.declared.Group.{Group}
use Rattle.group.specs.Group.{line, with_line, rows_of, some, recovering_ones}
use Rattle.protocol.specs.Kinds.{need, hurt_already, lose_refusal, lost}
use Rattle.protocol.specs.History.{History, note_cuts, note_hurt}
use Rattle.claims.proofs.State.Fun.{never, is_false, and_intro, not_true_false}
use Rattle.claims.proofs.State.Every.{passed, with_line_lem}
use Rattle.claims.proofs.State.View.{View, view, set_line}
use Rattle.claims.proofs.State.Cells.{content_set, content_without}
use Rattle.claims.proofs.State.Shape.{Shaped, Lined, Pictured, shaped}
use Rattle.claims.proofs.State.Sim.{Fit, view_line}
use Rattle.claims.proofs.Invariant.Facts.{Ghost, amount_of, amounts_in, count, is_fault, is_safe, is_checkp, checkp_last, resumes, resume_first, Amounts, Differ, missing, amount}
use Rattle.claims.proofs.Invariant.Whole.{Inv}
use Rattle.claims.proofs.Invariant.Past.{Past, Kept, no_cuts, past_same}
use Rattle.claims.proofs.Invariant.Logs.{head_eq, tail_eq, amount_rest, small_rest}
use Rattle.claims.proofs.Invariant.Words.{nobody_recovers}
use Rattle.claims.proofs.Invariant.Staying.{stays_none}
use Rattle.claims.proofs.Invariant.States.{error_recovers}
use Rattle.claims.proofs.Moves.Hurting.{Hit, resumes_later, differ_later, small_later, g_uncalm, v_hit, g_hit, hurt_inv, seen_mark, note_hit, hit_past, less_later}

-- ---- a line without one packet

abbrev pub left : List Packet → ℕ → List Packet
left l k = take k l ++ drop (suc k) l

left_nil : (l : List Packet) (k : ℕ) → l ≡ [] → left l k ≡ []
left_nil l zero e = rw e refl
left_nil l (suc k) e = rw e refl

no_normal : (k : ℕ) → is_normal (get_or [] k Empty) ≡ true → ⊥
no_normal zero e = false≢true e
no_normal (suc k) e = false≢true e

count_left : (f : Packet → Bool) (l : List Packet) (k : ℕ) → count f (left l k) ≤ count f l
unfolding count
count_left f [] zero = omega arith
count_left f [] (suc k) = omega arith
count_left f (x ∷ l) zero = omega arith
count_left f (x ∷ l) (suc k) = omega (arith, count_left f l k)

last_left : (l : List Packet) (k : ℕ) → checkp_last l → checkp_last (left l k)
unfolding checkp_last
last_left [] zero c = c
last_left [] (suc k) c = c
last_left (x ∷ l) zero c = c.1
last_left (x ∷ l) (suc k) c = ((λ e. left_nil l k (c.0 e)), last_left l k c.1)

-- a checkp at the end was there before: no normal packet stood behind it
ended_left : (l : List Packet) (k : ℕ) → is_normal (get_or l k Empty) ≡ true → checkp_last l → (v : Check) (j : List Packet) → left l k ≡ j ++ (Checkp v ∷ [])
    → (r : List Packet) × (l ≡ r ++ (Checkp v ∷ []))
unfolding checkp_last
ended_left [] k n c v j e = absurd (no_normal k n)
ended_left (x ∷ l) zero n c v j e = (x ∷ j, ap (λ (r : List Packet). x ∷ r) e)
ended_left (x ∷ l) (suc k) n c v [] e = absurd (no_normal k (subst (λ (r : List Packet). is_normal (get_or r k Empty) ≡ true) (c.0 (ap is_checkp (head_eq e))) n))
ended_left (x ∷ l) (suc k) n c v (z ∷ j) e =
    let r = ended_left l k n c.1 v j (tail_eq e) in (x ∷ r.0, ap (λ (r : List Packet). x ∷ r) r.1)

no_resume : (x : Packet) (r : Bool) → is_normal x ≡ true → resumes x r ≡ true → ⊥
no_resume Empty r n e = false≢true e
no_resume (NormalPacket p) r n e = false≢true e
no_resume (Checkp v) r n e = false≢true n
no_resume Resume r n e = false≢true n
no_resume (Recover v) r n e = false≢true n
no_resume (Fault p) r n e = false≢true n
no_resume Invalid r n e = false≢true n

resume_left : (l : List Packet) (k : ℕ) → is_normal (get_or l k Empty) ≡ true → resume_first l ≡ true → resume_first (left l k) ≡ true
unfolding resume_first
resume_left [] k n e = absurd (false≢true e)
resume_left (x ∷ l) zero n e = absurd (no_resume x (resume_first l) n e)
resume_left (x ∷ l) (suc k) n e = resumes_later x (resume_first l) (resume_first (left l k)) (resume_left l k n) e

-- ---- its amounts

differ_first : (x : Packet) (r : List Payload) → is_normal x ≡ true → Differ true (amount_of x r) r
differ_first Empty r n = absurd (false≢true n)
differ_first (NormalPacket p) r n = missing
differ_first (Checkp v) r n = absurd (false≢true n)
differ_first Resume r n = absurd (false≢true n)
differ_first (Recover v) r n = absurd (false≢true n)
differ_first (Fault p) r n = absurd (false≢true n)
differ_first Invalid r n = absurd (false≢true n)

differ_left : (l : List Packet) (k : ℕ) → is_normal (get_or l k Empty) ≡ true → Differ true (amounts_in l) (amounts_in (left l k))
unfolding amounts_in
differ_left [] k n = absurd (no_normal k n)
differ_left (x ∷ l) zero n = differ_first x (amounts_in l) n
differ_left (x ∷ l) (suc k) n = differ_later x (amounts_in l) (amounts_in (left l k)) (differ_left l k n)

small_left : (l : List Packet) (k : ℕ) → Amounts (amounts_in l) → Amounts (amounts_in (left l k))
unfolding amounts_in
small_left [] zero a = a
small_left [] (suc k) a = a
small_left (x ∷ l) zero a = small_rest x l a
small_left (x ∷ l) (suc k) a = small_later x (amounts_in l) (amounts_in (left l k)) (small_left l k) a

-- less is on the way
less_left : (y : Party) (l : List Packet) (k : ℕ) → amount y (amounts_in (left l k)) ≤ amount y (amounts_in l)
unfolding amounts_in
less_left y [] zero = omega arith
less_left y [] (suc k) = omega arith
less_left y (x ∷ l) zero = amount_rest y x l
less_left y (x ∷ l) (suc k) = less_later y x (amounts_in (left l k)) (amounts_in l) (less_left y l k)

none_left : (f : Packet → Bool) (l : List Packet) (k : ℕ) → count f l ≡ 0 → count f (left l k) ≡ 0
none_left f l k e = omega (arith, count_left f l k)

loss_hits : (l : List Packet) (k : ℕ) → is_normal (get_or l k Empty) ≡ true → Hit true l (left l k)
loss_hits l k n = record {
  full = λ e. no_normal k (subst (λ (r : List Packet). is_normal (get_or r k Empty) ≡ true) e n);
  faults = none_left is_fault l k;
  checkps = none_left is_checkp l k;
  last = last_left l k;
  ended = ended_left l k n;
  resumed = resume_left l k n;
  safe = count_left is_safe l k;
  other = λ e f. differ_left l k n;
  same = λ e. absurd (true≢false e);
  small = small_left l k;
}

normal_full : (x : Packet) → is_normal x ≡ true → is_empty x ≡ false
normal_full Empty n = absurd (false≢true n)
normal_full (NormalPacket p) n = refl
normal_full (Checkp v) n = refl
normal_full Resume n = refl
normal_full (Recover v) n = refl
normal_full (Fault p) n = refl
normal_full Invalid n = refl

-- ---- the step

module _ (total : Party → ℕ) (g : Group) (h : History) (γ : Ghost) (w : Fit g) (i : Inv g.n total (view g) γ) (past : Past g.n (view g) γ h)
    (a b p : ℕ) (la : a < 8) (lb : b < 8) (fine : lose_refusal g a b p ≡ 0) (still : some (recovering_ones g) ≡ false) where
  abbrev old : Packet
  old = packet_at (line g a b) p

  checks : (r s u : Bool) → need r 13 (need s 18 (need (not u) 20 0)) ≡ 0 → (s ≡ true) × (u ≡ false)
  checks r s u e =
      let e1 = passed r 12 _ e in
      let e2 = passed s 17 _ e1.1 in
      (e2.0, not_true_false (passed (not u) 19 0 e2.1).0)

  met : (is_normal old ≡ true) × (hurt_already g a b old ≡ false)
  met = checks (mark (rows_of g.links) a b) _ _ fine

  full_there : is_empty old ≡ false
  full_there = normal_full old met.0

  abbrev v : View
  v = view g

  there : get_or (v.lines a b) p Empty ≡ old
  there = (content_set (line g a b).cells p old full_there full_there (w.lines a b).packed).1

  normal_there : is_normal (get_or (v.lines a b) p Empty) ≡ true
  normal_there = ap is_normal there ∙ met.0

  not_twice : (v.side b a).hurt ≡ false
  not_twice = is_false (v.side b a).hurt (λ f. never (and_intro met.0 f) met.1)

  abbrev g1 : Group
  g1 = with_line g a b (without (line g a b) p)

  seen_line : view g1 ≡ set_line v a b (left (v.lines a b) p)
  seen_line = view_line g w.frame a b _ la lb ∙ ap (set_line v a b) (content_without (line g a b).cells p full_there (w.lines a b).packed)

  fit1 : Fit g1
  fit1 = with_line_lem Shaped Lined Pictured shaped g a b _ (shaped.loses (line g a b) p (w.lines a b)) w

  abbrev g' : Group
  g' = lost g a b p

  pub seen : view g' ≡ v_hit v a b true (left (v.lines a b) p)
  unfolding lost
  seen = seen_mark v g1 fit1 a b la lb _ seen_line true

  state_kept : (c : ℕ) → ((view g').own c).state ≡ (v.own c).state
  state_kept c = ap (λ (x : View). (x.own c).state) seen

  abbrev δ : Ghost
  δ = g_hit (g_uncalm γ γ.big.clean) a b true

  pub keeps_lose : Kept total g γ g' (note_cuts (note_hurt h a b) g g')
  keeps_lose = record {
    ghost = δ;
    inv = subst (λ (x : View). Inv g.n total x δ) (sym seen)
        (hurt_inv g.n total v γ i (nobody_recovers g w still) a b true γ.big.clean _ (loss_hits (v.lines a b) p normal_there) (λ e. not_twice) (λ y e. e)
        (λ y e. less_left y (v.lines a b) p));
    past = rw (no_cuts (note_hurt h a b) g g' (λ c e. ap (λ (s : State). is_in s Checkpointing) (sym (state_kept c)) ∙ e))
        (hit_past (past_same state_kept past) a b true γ.big.clean h.damaged _ past.damaged (note_hit past a b));
    stays = stays_none v γ (view g') δ (nobody_recovers g w still) (λ c e. ap works (state_kept c) ∙ e)
        (λ c e. absurd (never (error_recovers (v.own c).state (ap (λ (s : State). is_in s Error) (sym (state_kept c)) ∙ e)) (nobody_recovers g w still c)));
  }
