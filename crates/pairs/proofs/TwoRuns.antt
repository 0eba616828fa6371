-- Two runs that differ in the amounts of workshop sends: what one step makes of two groups that are the same once covered, and every list by
-- induction. Of each run by itself it is used that a comparison tells whether the line was hurt, and that packets of a line not hurt fit.
use Rattle.std.specs.Prelude.{Err}
use Prim.Native.Nat.{ℕ, zero, suc, ◌+◌, ◌-◌, ◌*◌, ◌<◌}
use mathlib.Core.Path.{◌≡◌, refl, sym, ap, ◌∙◌, subst}
use mathlib.Core.Logic.{⊎_elim}
use mathlib.Core.Bool.{Bool, true, false, cond, not, ◌&&◌, ◌||◌, true≢false}
use mathlib.Core.List.{List, [], ◌∷◌}
use lib.ListN.{length, get_or, take}
use lib.Dec.{eqb}
use borrow.Author.Tests.{eqb-true, eq-eqb}
use Rattle.marks.specs.Marks.{marked}
use Rattle.marks.specs.Reach.{mark}
use Rattle.outlet.specs.declared.Outlet.TheVariants.{A, B}
use Rattle.outlet.specs.declared.Party.{Party}
use Rattle.packet.specs.declared.Pattern.{Pattern}
use Rattle.packet.specs.declared.Payload.{Payload}
use Rattle.packet.specs.declared.Packet.{Packet}
use Rattle.packet.specs.declared.Packet.TheVariants.{Empty, Normal as NormalPacket, Checkp, Resume, Recover, Fault, Invalid}
use Rattle.packet.specs.Packet.{is_empty, pattern_right}
use Rattle.packet.proofs.Bursts.{bursts_seen}
use Rattle.line.specs.Line.{oldest, rest, packet_at}
use Rattle.image.specs.declared.Image.{Image}
use Rattle.image.specs.Image.{booking}
use Rattle.state.specs.declared.State.TheVariants.{Normal, CheckpBegin}
use Rattle.state.specs.State.{is_in, works}
use Rattle.cabinet.specs.declared.Cabinet.{Cabinet}
use Rattle.cabinet.specs.Cabinet.{in_use}
use Rattle.points.specs.declared.Point.{Point}
use Rattle.points.specs.declared.Points.{Points}
use Rattle.points.specs.Points.{point_at, image_at}
use Rattle.group.specs.declared.Group.{Group}
use Rattle.group.specs.declared.Outcome.{Outcome}
use Rattle.group.specs.Group.{cabinet, state_of, slot, with_outgoing, line, with_line, rows_of, some, recovering_ones, is_crashed, answering, taken}
use Rattle.load.specs.Load.{load}
use Rattle.protocol.specs.declared.Site.{Site}
use Rattle.protocol.specs.declared.Noted.{Noted}
use Rattle.protocol.specs.declared.Step.{Step}
use Rattle.protocol.specs.declared.Step.TheVariants.{Send, Note, Begin, Deliver, Write, Saved, Fetch, Restored, Fail, Damage, Lose, Trip, Unsure}
use Rattle.protocol.specs.declared.Decoded.{Decoded}
use Rattle.protocol.specs.declared.Decoded.TheVariants.{Malformed, Unused, Taken}
use Rattle.protocol.specs.Kinds.{need, or_refuse, sent, send_step, send_refusal, note_step, begin_step, deliver_refusal, deliver_step, write_step, saved_step, fetch_step, restored_step, fail_step, hurt_already, damage_refusal, lose_step, trip_step, unsure_step}
use Rattle.protocol.specs.Entry.{if_zero, alone_of, is_kind, damage_of, decode, first_of, second_of, actor_works, is_cabinet, entry_refusal, perform, step_decoded, step}
use Rattle.protocol.specs.Points.{take_point, return_to}
use Rattle.protocol.specs.History.{History, World, Operation, stepping, pointing, returning, advance, run, opening}
use Rattle.protocol.specs.Evening.{operate, operate_all, answers_to}
use Rattle.protocol.specs.Restored.{Octets, OctetsIn, AllOctets}
use Rattle.protocol.specs.Word.{told_of, which_word}
use Rattle.claims.specs.Word.{site_of}
use Rattle.claims.proofs.State.Fun.{and_true, not_true_false}
use Rattle.claims.proofs.State.Every.{passed, Fits, FitsIn, decode_fits}
use Rattle.claims.proofs.Claims.Demand.{Runs, Good, one_more, every_list}
use Rattle.claims.proofs.Word.Unread.{site_on}
use Rattle.claims.proofs.Claims.Saves.{refuses}
use Rattle.claims.proofs.Claims.Hurts.{compared, fitting}
use Rattle.pairs.specs.Covered.{cover_image, cover_packet, cover, cover_points, cover_site, cover_outcome}
use Rattle.pairs.specs.TwoRuns.{buses_of, workshop_send, SameBut, none, same, amounts, sends_for_workshop, SendsTaken, Agree, TwoRuns}
use Rattle.pairs.proofs.Parts.{booking_covered}
use Rattle.pairs.proofs.Groups.{cabinet_at, slot_at_lem, reads, crashed_covered}
use Rattle.pairs.proofs.Steps.{Gives, gives, given, refused_or, received, agrees, deliver_with, deliver_covered, at, note_step_lem, begin_step_lem, write_step_lem, saved_step_lem, fetch_step_lem, restored_step_lem, fail_step_lem, trip_step_lem, unsure_step_lem, lose_step_lem, packet_same}
use Rattle.pairs.proofs.Amounts.{Unfits, send_bus, send_step_lem, workshop_sent, damage_bus, damage_step_lem}
use Rattle.pairs.proofs.Points.{point_at_lem, image_at_lem, cover_noted, point_covered, return_covered}

-- ---- a run by itself

module _ {total : Party → ℕ} {g : Group} {h : History} (going : Runs total g h) where
  -- a comparison says whether the line is hurt, which is not covered
  abbrev unhurt : ℕ → ℕ → Bool
  unhurt a b = not (marked (cabinet (cover g) b).registers.hurt a)

  module _ (a b : ℕ) (left : Group) (as_before : state_of left b ≡ state_of g b) where
    received_same : (p : Packet) → oldest (line g a b) ≡ p
        → received (agrees (cabinet g b) a p) (cover g) left a b (cover_packet p) ≡ received (unhurt a b) (cover g) left a b (cover_packet p)
    received_same Empty e = refl
    received_same (NormalPacket p) e = refl
    received_same (Checkp v) e = go (is_in (state_of g b) Normal || is_in (state_of g b) CheckpBegin) refl
      where
        go : (t : Bool) → (is_in (state_of g b) Normal || is_in (state_of g b) CheckpBegin) ≡ t
            → received (agrees (cabinet g b) a (Checkp v)) (cover g) left a b (Checkp v) ≡ received (unhurt a b) (cover g) left a b (Checkp v)
        go true r =
            ap (λ t. received t (cover g) left a b (Checkp v))
            ((compared going a b v (record { comes = e; ready = r })).0 ∙ ap not (at (λ c. marked c.registers.hurt a) (λ c. refl) g b))
        go false r = rw (as_before, r)
    received_same Resume e = refl
    received_same (Recover v) e = refl
    received_same (Fault p) e = refl
    received_same Invalid e = refl

  deliver_same : (a b : ℕ) → Gives (deliver_step g a b) (deliver_with (unhurt a b) (cover g) a b)
  unfolding with_line with_outgoing cabinet
  deliver_same a b =
      gives (given (deliver_covered a b g)
      ∙ ap (λ (o : Outcome). or_refuse (deliver_refusal (cover g) a b) (cover g) (cond (marked (in_use (cabinet (cover g) b)) a) o (taken left)))
      (ap (received (agrees (cabinet g b) a (oldest (line g a b))) (cover g) left a b) (sym (packet_same g a b 0))
      ∙ received_same a b left (reads (λ c. c.phase.state) g b) (oldest (line g a b)) refl
      ∙ ap (received (unhurt a b) (cover g) left a b) (packet_same g a b 0)))
    where
      left : Group
      left = with_line (cover g) a b (rest (line (cover g) a b))

  -- damage that is taken hits a packet that fits
  unfits : (a b k : ℕ) (w : Pattern) → w.mask < 65536 → damage_refusal g a b k w ≡ 0 → some (recovering_ones g) ≡ false
      → (p : Payload) → packet_at (line g a b) k ≡ NormalPacket p → Unfits p w
  unfits a b k w small fine still p here c own =
      bursts_seen p c own (fitting going still a b k p here unmarked) g.packets w small met.0
    where
      checks : (r s t u : Bool) → need r 13 (need s 18 (need t 15 (need (not u) 20 0))) ≡ 0 → (t ≡ true) × (not u ≡ true)
      checks r s t u e =
          let e2 = passed s 17 _ (passed r 12 _ e).1 in
          let e3 = passed t 14 _ e2.1 in
          (e3.0, (passed (not u) 19 0 e3.1).0)

      met : (pattern_right g.packets w ≡ true) × (not (hurt_already g a b (packet_at (line g a b) k)) ≡ true)
      met = checks (mark (rows_of g.links) a b) (not (is_empty (packet_at (line g a b) k))) (pattern_right g.packets w) (hurt_already g a b (packet_at (line g a b) k)) fine

      unmarked : marked (cabinet g b).registers.hurt a ≡ false
      unmarked = not_true_false (ap (λ (x : Packet). not (hurt_already g a b x)) (sym here) ∙ met.1)

-- ---- a step that is no workshop send, as a function of the covered group

abbrev perform_bus : Group → Step → Outcome
perform_bus g (Send a b p q) = send_bus g (a - 1) (b - 1) p q
perform_bus g (Note a p q) = note_step g (a - 1) p q
perform_bus g (Begin a) = begin_step g (a - 1)
perform_bus g (Deliver a b) = deliver_with (not (marked (cabinet g (b - 1)).registers.hurt (a - 1))) g (a - 1) (b - 1)
perform_bus g (Write a) = write_step g (a - 1)
perform_bus g (Saved a) = saved_step g (a - 1)
perform_bus g (Fetch a) = fetch_step g (a - 1)
perform_bus g (Restored a) = restored_step g (a - 1)
perform_bus g (Fail a) = fail_step g (a - 1)
perform_bus g (Damage a b p w) = damage_bus g (a - 1) (b - 1) p w
perform_bus g (Lose a b p) = lose_step g (a - 1) (b - 1) p
perform_bus g (Trip a) = trip_step g (a - 1)
perform_bus g (Unsure a) = unsure_step g (a - 1)

abbrev step_bus : Group → Decoded → Outcome
step_bus g Malformed = answering 8 g
step_bus g Unused = answering 9 g
step_bus g (Taken s) = or_refuse (entry_refusal g s) g (perform_bus g s)

abbrev plain_step : Step → Bool
plain_step (Send a b p q) = not (eqb p 4)
plain_step (Note a p q) = true
plain_step (Begin a) = true
plain_step (Deliver a b) = true
plain_step (Write a) = true
plain_step (Saved a) = true
plain_step (Fetch a) = true
plain_step (Restored a) = true
plain_step (Fail a) = true
plain_step (Damage a b p w) = true
plain_step (Lose a b p) = true
plain_step (Trip a) = true
plain_step (Unsure a) = true

abbrev plain : Decoded → Bool
plain Malformed = true
plain Unused = true
plain (Taken s) = plain_step s

performs : {total : Party → ℕ} {g : Group} {h : History} → Runs total g h → (s : Step) → Fits s → plain_step s ≡ true → Gives (perform g s) (perform_bus (cover g) s)
performs {g = g} run (Send a b p q) f e = send_step_lem g (a - 1) (b - 1) p q (λ four. true≢false (sym (eq-eqb p 4 four) ∙ not_true_false e))
performs {g = g} run (Note a p q) f e = note_step_lem (a - 1) p q g
performs {g = g} run (Begin a) f e = begin_step_lem (a - 1) g
performs run (Deliver a b) f e = deliver_same run (a - 1) (b - 1)
performs {g = g} run (Write a) f e = write_step_lem (a - 1) g
performs {g = g} run (Saved a) f e = saved_step_lem (a - 1) g
performs {g = g} run (Fetch a) f e = fetch_step_lem (a - 1) g
performs {g = g} run (Restored a) f e = restored_step_lem (a - 1) g
performs {g = g} run (Fail a) f e = fail_step_lem (a - 1) g
performs {g = g} run (Damage a b p w) f e = damage_step_lem g (a - 1) (b - 1) p w (unfits run (a - 1) (b - 1) p w f)
performs {g = g} run (Lose a b p) f e = lose_step_lem (a - 1) (b - 1) p g
performs {g = g} run (Trip a) f e = trip_step_lem (a - 1) g
performs {g = g} run (Unsure a) f e = unsure_step_lem (a - 1) g

actor_same : (g : Group) (s : Step) → actor_works g s ≡ actor_works (cover g) s
actor_same g (Send a b p q) = at (λ c. works c.phase.state) (λ c. refl) g (a - 1)
actor_same g (Note a p q) = at (λ c. works c.phase.state) (λ c. refl) g (a - 1)
actor_same g (Begin a) = at (λ c. works c.phase.state) (λ c. refl) g (a - 1)
actor_same g (Deliver a b) = at (λ c. works c.phase.state) (λ c. refl) g (b - 1)
actor_same g (Write a) = at (λ c. works c.phase.state) (λ c. refl) g (a - 1)
actor_same g (Saved a) = refl
actor_same g (Fetch a) = at (λ c. works c.phase.state) (λ c. refl) g (a - 1)
actor_same g (Restored a) = at (λ c. works c.phase.state) (λ c. refl) g (a - 1)
actor_same g (Fail a) = at (λ c. works c.phase.state) (λ c. refl) g (a - 1)
actor_same g (Damage a b p w) = refl
actor_same g (Lose a b p) = at (λ c. works c.phase.state) (λ c. refl) g (a - 1)
actor_same g (Trip a) = at (λ c. works c.phase.state) (λ c. refl) g (a - 1)
actor_same g (Unsure a) = at (λ c. works c.phase.state) (λ c. refl) g (a - 1)

entry_same : (g : Group) (s : Step) → entry_refusal g s ≡ entry_refusal (cover g) s
unfolding cover
entry_same g s =
    ap (λ t. need (not t) 10 (need (is_cabinet g (first_of s) && is_cabinet g (second_of s)) 11 (need (actor_works g s) 12 0))) (sym (crashed_covered g))
    ∙ ap (λ t. need (not (is_crashed (cover g))) 10 (need (is_cabinet g (first_of s) && is_cabinet g (second_of s)) 11 (need t 12 0))) (actor_same g s)

-- where the entry refuses nothing the group has not crashed, and so its run goes on
goes_on : {total : Party → ℕ} {w : World} → Good total w → (s : Step) → entry_refusal w.group s ≡ 0 → Runs total w.group w.history
goes_on {w = w} good s e = ⊎_elim (λ crashed. absurd (true≢false (sym (passed (not (is_crashed w.group)) 9 _ e).0 ∙ ap not crashed))) (λ r. r) good.going

step_covered : {total : Party → ℕ} (w : World) → Good total w → (r : List ℕ) → Octets r → plain (decode r) ≡ true → Gives (step w.group r) (step_bus (cover w.group) (decode r))
unfolding step
step_covered w good r o e = go (decode r) (decode_fits r o) e
  where
    go : (d : Decoded) → FitsIn d → plain d ≡ true → Gives (step_decoded w.group d) (step_bus (cover w.group) d)
    go Malformed f p = gives refl
    go Unused f p = gives refl
    go (Taken s) f p = refused_or (entry_same w.group s) w.group (λ none. performs (goes_on good s none) s f p)

-- ---- which records are workshop sends

both_plain : (t : Bool) (d e : Decoded) → plain d ≡ true → plain e ≡ true → plain (cond t d e) ≡ true
both_plain true d e p q = p
both_plain false d e p q = q

zero_plain : (x : ℕ) (d : Decoded) → plain d ≡ true → plain (if_zero x d) ≡ true
zero_plain x d p = both_plain (eqb x 0) d Unused p refl

alone_plain : (kind a : ℕ) → plain (alone_of kind a) ≡ true
alone_plain kind a =
    both_plain (eqb kind 3) _ _ refl (both_plain (eqb kind 5) _ _ refl (both_plain (eqb kind 6) _ _ refl (both_plain (eqb kind 7) _ _ refl
    (both_plain (eqb kind 8) _ _ refl (both_plain (eqb kind 10) _ _ refl (both_plain (eqb kind 13) _ _ refl (both_plain (eqb kind 14) _ _ refl refl)))))))

-- what the kinds but 1 decode to
abbrev others : ℕ → ℕ → ℕ → ℕ → ℕ → Decoded
others kind a b p q =
    cond (eqb kind 2) (if_zero b (Taken (Note a p q)))
    (cond (eqb kind 4) (if_zero (p + q) (Taken (Deliver a b)))
    (cond (eqb kind 11) (Taken (damage_of a b p q))
    (cond (eqb kind 12) (if_zero q (Taken (Lose a b p)))
    (cond (is_kind kind) (if_zero (b + p + q) (alone_of kind a)) Malformed))))

others_plain : (kind a b p q : ℕ) → plain (others kind a b p q) ≡ true
others_plain kind a b p q =
    both_plain (eqb kind 2) _ _ (zero_plain b (Taken (Note a p q)) refl) (both_plain (eqb kind 4) _ _ (zero_plain (p + q) (Taken (Deliver a b)) refl)
    (both_plain (eqb kind 11) _ _ refl (both_plain (eqb kind 12) _ _ (zero_plain q (Taken (Lose a b p)) refl)
    (both_plain (is_kind kind) _ _ (zero_plain (b + p + q) (alone_of kind a) (alone_plain kind a)) refl))))

other_plain : (r : List ℕ) → sends_for_workshop (stepping r) ≡ false → plain (decode r) ≡ true
other_plain r e = go (eqb (length r) 6) (eqb (get_or r 0 0) 1) (eqb (get_or r 3 0) 4) refl e
  where
    q : ℕ
    q = get_or r 4 0 * 256 + get_or r 5 0

    go : (t u v : Bool) → eqb (get_or r 3 0) 4 ≡ v → (t && (u && v)) ≡ false
        → plain (cond t (cond u (Taken (Send (get_or r 1 0) (get_or r 2 0) (get_or r 3 0) q)) (others (get_or r 0 0) (get_or r 1 0) (get_or r 2 0) (get_or r 3 0) q)) Malformed) ≡ true
    go true true true f z = absurd (true≢false z)
    go true true false f z = ap not f
    go true false v f z = others_plain (get_or r 0 0) (get_or r 1 0) (get_or r 2 0) (get_or r 3 0) q
    go false u v f z = refl

workshop_decoded : (r : List ℕ) → sends_for_workshop (stepping r) ≡ true
    → decode r ≡ Taken (Send (get_or r 1 0) (get_or r 2 0) 4 (get_or r 4 0 * 256 + get_or r 5 0))
workshop_decoded r e =
    let six = and_true {s = eqb (length r) 6} e in
    let one = and_true {s = eqb (get_or r 0 0) 1} six.1 in
    rw (six.0, one.0, eqb-true (get_or r 3 0) 4 one.1)

-- one that is taken leaves what a send leaves
workshop_taken : (g : Group) (a b q : ℕ) → (step_decoded g (Taken (Send a b 4 q))).answer ≡ 0 → (step_decoded g (Taken (Send a b 4 q))).group ≡ sent g (a - 1) (b - 1) 4 q
unfolding send_step
workshop_taken g a b q e =
    let entered = (refuses (entry_refusal g (Send a b 4 q)) g (send_step g (a - 1) (b - 1) 4 q) e).1 in
    let passed-all = (refuses (send_refusal g (a - 1) (b - 1) 4 q) g (taken (sent g (a - 1) (b - 1) 4 q)) (sym (ap (λ (o : Outcome). o.answer) entered) ∙ e)).1 in
    ap (λ (o : Outcome). o.group) (entered ∙ passed-all)

-- ---- one operation in both runs

abbrev Same : Site → Site → Type 0
Same s t = cover_site s ≡ cover_site t

abbrev site : Group → Points → Site
site g ps = record { group = g; points = ps }

together : (s t : Site) → cover s.group ≡ cover t.group → cover_points s.points ≡ cover_points t.points → Same s t
together s t e f = ap (λ (g : Group). site g (cover_points s.points)) e ∙ ap (site (cover t.group)) f

-- answered the same, and the same once covered
abbrev Answered : World → World → Operation → Operation → Type 0
Answered v w x y = ((operate (site_of v) x).answer ≡ (operate (site_of w) y).answer) × Same (operate (site_of v) x).site (operate (site_of w) y).site

module _ {total : Party → ℕ} (v w : World) (gv : Good total v) (gw : Good total w) (e : Same (site_of v) (site_of w)) where
  points_same : cover_points v.points ≡ cover_points w.points
  points_same = ap (λ (x : Site). x.points) e

  groups_same : cover v.group ≡ cover w.group
  groups_same = ap (λ (x : Site). x.group) e

  by_outcome : (x y : Operation) (o p : Outcome) → operate (site_of v) x ≡ record { answer = o.answer; site = site o.group v.points }
      → operate (site_of w) y ≡ record { answer = p.answer; site = site p.group w.points } → cover_outcome o ≡ cover_outcome p → Answered v w x y
  by_outcome x y o p ex ey q = rw (ex, ey) (
    ap (λ (z : Outcome). z.answer) q,
    together (site o.group v.points) (site p.group w.points) (ap (λ (z : Outcome). z.group) q) points_same,
  )

  plain_step_lem : (r : List ℕ) → Octets r → plain (decode r) ≡ true → Answered v w (stepping r) (stepping r)
  unfolding operate
  plain_step_lem r o p =
      by_outcome (stepping r) (stepping r) (step v.group r) (step w.group r) refl refl
      (given (step_covered v gv r o p) ∙ ap (λ (g : Group). step_bus g (decode r)) groups_same ∙ sym (given (step_covered w gw r o p)))

  -- two workshop sends over one line, each taken
  workshop_step : (r s : List ℕ) (a b p q : ℕ) → decode r ≡ Taken (Send a b 4 p) → decode s ≡ Taken (Send a b 4 q)
      → (operate (site_of v) (stepping r)).answer ≡ 0 → (operate (site_of w) (stepping s)).answer ≡ 0 → Answered v w (stepping r) (stepping s)
  unfolding operate step
  workshop_step r s a b p q dr ds tr ts = (
    tr ∙ sym ts,
    together (site (step v.group r).group v.points) (site (step w.group s).group w.points)
        (ap cover (left v.group r p dr tr) ∙ workshop_sent (a - 1) (b - 1) p q v.group w.group groups_same ∙ sym (ap cover (left w.group s q ds ts))) points_same,
  )
    where
      left : (g : Group) (r : List ℕ) (q : ℕ) → decode r ≡ Taken (Send a b 4 q) → (step g r).answer ≡ 0 → (step g r).group ≡ sent g (a - 1) (b - 1) 4 q
      left g r q d t =
          ap (λ (x : Decoded). (step_decoded g x).group) d
          ∙ workshop_taken g a b q (sym (ap (λ (x : Decoded). (step_decoded g x).answer) d) ∙ t)

  step_both : (r : List ℕ) → Octets r → (sends_for_workshop (stepping r) ≡ true → (operate (site_of v) (stepping r)).answer ≡ 0)
      → (sends_for_workshop (stepping r) ≡ true → (operate (site_of w) (stepping r)).answer ≡ 0) → Answered v w (stepping r) (stepping r)
  step_both r o tv tw = go (sends_for_workshop (stepping r)) refl
    where
      go : (t : Bool) → sends_for_workshop (stepping r) ≡ t → Answered v w (stepping r) (stepping r)
      go true is = workshop_step r r (get_or r 1 0) (get_or r 2 0) (get_or r 4 0 * 256 + get_or r 5 0) (get_or r 4 0 * 256 + get_or r 5 0) (workshop_decoded r is) (workshop_decoded r is) (tv is) (tw is)
      go false is = plain_step_lem r o (other_plain r is)

  point_both : (name : List ℕ) → Answered v w (pointing name) (pointing name)
  unfolding operate
  point_both name =
      let noted : cover_noted (take_point v.points v.group name) ≡ cover_noted (take_point w.points w.group name)
      = point_covered v.points v.group name ∙ ap (λ (x : Site). take_point x.points x.group name) e ∙ sym (point_covered w.points w.group name) in
      (ap (λ (n : Noted). n.answer) noted, together (operate (site_of v) (pointing name)).site (operate (site_of w) (pointing name)).site groups_same (ap (λ (n : Noted). n.points) noted))

  return_both : (name : List ℕ) → Answered v w (returning name) (returning name)
  unfolding operate
  return_both name =
      by_outcome (returning name) (returning name) (return_to v.points v.group name) (return_to w.points w.group name) refl refl
      (given (return_covered v.points v.group name) ∙ ap (λ (x : Site). return_to x.points x.group name) e ∙ sym (given (return_covered w.points w.group name)))

  one_both : (x : Operation) → OctetsIn x → (sends_for_workshop x ≡ true → (operate (site_of v) x).answer ≡ 0) → (sends_for_workshop x ≡ true → (operate (site_of w) x).answer ≡ 0)
      → Answered v w x x
  one_both (stepping r) o tv tw = step_both r o tv tw
  one_both (pointing name) o tv tw = point_both name
  one_both (returning name) o tv tw = return_both name

-- ---- every two lists

abbrev Both : Site → Site → List Operation → List Operation → Type 0
Both s t xs ys = (answers_to s xs ≡ answers_to t ys) × ((k : ℕ) → Same (operate_all s (take k xs)) (operate_all t (take k ys)))

both_more : (s t : Site) (x y : Operation) (xs ys : List Operation) → Same s t → (operate s x).answer ≡ (operate t y).answer
    → Both (operate s x).site (operate t y).site xs ys → Both s t (x ∷ xs) (y ∷ ys)
unfolding answers_to operate_all
both_more s t x y xs ys now answer later = (
  ap (λ k. k ∷ answers_to (operate s x).site xs) answer ∙ ap (λ l. (operate t y).answer ∷ l) later.0,
  λ k. after k,
)
  where
    after : (k : ℕ) → Same (operate_all s (take k (x ∷ xs))) (operate_all t (take k (y ∷ ys)))
    after zero = now
    after (suc k) = later.1 k

-- what is said of the sites after an operation, of the worlds after it
moved : {s s' t t' : Site} → s ≡ s' → t ≡ t' → Same s t → Same s' t'
moved e f same-now = ap cover_site (sym e) ∙ same-now ∙ ap cover_site f

back : {s s' t t' : Site} (xs ys : List Operation) → s ≡ s' → t ≡ t' → Both s' t' xs ys → Both s t xs ys
back {s} {t' = t'} xs ys e f b = subst (λ (y : Site). Both s y xs ys) (sym f) (subst (λ (x : Site). Both x t' xs ys) (sym e) b)

walk : {total : Party → ℕ} (v w : World) → Good total v → Good total w → Same (site_of v) (site_of w) → {xs ys : List Operation} → SameBut xs ys → AllOctets xs → AllOctets ys
    → SendsTaken (site_of v) xs → SendsTaken (site_of w) ys → Both (site_of v) (site_of w) xs ys
unfolding SendsTaken operate_all answers_to
walk v w gv gw e none ox oy tv tw = (refl, λ k. nothing k)
  where
    nothing : (k : ℕ) → Same (operate_all (site_of v) (take k [])) (operate_all (site_of w) (take k []))
    nothing zero = e
    nothing (suc k) = e
walk {total} v w gv gw e {xs = _ ∷ xs} {ys = _ ∷ ys} (same x later) ox oy tv tw =
    let one = one_both v w gv gw e x ox.0 tv.0 tw.0 in
    let on = walk (advance v x) (advance w x) (one_more total v gv x ox.0).0 (one_more total w gw x oy.0).0 (moved (site_on v x) (site_on w x) one.1) later ox.1 oy.1
    (subst (λ (s : Site). SendsTaken s xs) (site_on v x) tv.1) (subst (λ (s : Site). SendsTaken s ys) (site_on w x) tw.1) in
    both_more (site_of v) (site_of w) x x xs ys e one.0 (back xs ys (site_on v x) (site_on w x) on)
walk {total} v w gv gw e {xs = _ ∷ xs} {ys = _ ∷ ys} (amounts a b high low high' low' later) ox oy tv tw =
    let x = stepping (workshop_send a b high low) in
    let y = stepping (workshop_send a b high' low') in
    let one = workshop_step v w gv gw e (workshop_send a b high low) (workshop_send a b high' low') a b (high * 256 + low) (high' * 256 + low') refl refl (tv.0 refl) (tw.0 refl) in
    let on = walk (advance v x) (advance w y) (one_more total v gv x ox.0).0 (one_more total w gw y oy.0).0 (moved (site_on v x) (site_on w y) one.1) later ox.1 oy.1
    (subst (λ (s : Site). SendsTaken s xs) (site_on v x) tv.1) (subst (λ (s : Site). SendsTaken s ys) (site_on w y) tw.1) in
    both_more (site_of v) (site_of w) x y xs ys e one.0 (back xs ys (site_on v x) (site_on w y) on)

-- ---- what agrees, in the card's words

bus : (m : Image) → buses_of m ≡ buses_of (cover_image m)
bus m = ap (λ k. (k, booking B m)) (sym (booking_covered A m refl)) ∙ ap (λ k. (booking A (cover_image m), k)) (sym (booking_covered B m refl))

image_buses : (g h : Group) → cover g ≡ cover h → (i : ℕ) → buses_of (cabinet g i).image ≡ buses_of (cabinet h i).image
image_buses g h e i = seen g ∙ ap (λ (x : Group). buses_of (cabinet x i).image) e ∙ sym (seen h)
  where
    seen : (g : Group) → buses_of (cabinet g i).image ≡ buses_of (cabinet (cover g) i).image
    seen g = bus (cabinet g i).image ∙ ap (λ (c : Cabinet). buses_of c.image) (sym (cabinet_at g i))

slot_buses : (g h : Group) → cover g ≡ cover h → (s i : ℕ) (v : Bool) → buses_of (slot g s i v) ≡ buses_of (slot h s i v)
slot_buses g h e s i v = seen g ∙ ap (λ (x : Group). buses_of (slot x s i v)) e ∙ sym (seen h)
  where
    seen : (g : Group) → buses_of (slot g s i v) ≡ buses_of (slot (cover g) s i v)
    seen g = bus (slot g s i v) ∙ ap buses_of (sym (slot_at_lem g s i v))

point_buses : (p q : Points) → cover_points p ≡ cover_points q → (k i : ℕ) → buses_of (image_at (point_at p k) i) ≡ buses_of (image_at (point_at q k) i)
point_buses p q e k i = seen p ∙ ap (λ (x : Points). buses_of (image_at (point_at x k) i)) e ∙ sym (seen q)
  where
    seen : (p : Points) → buses_of (image_at (point_at p k) i) ≡ buses_of (image_at (point_at (cover_points p) k) i)
    seen p =
        bus (image_at (point_at p k) i) ∙ ap buses_of (sym (image_at_lem (point_at p k) i)) ∙ ap (λ (x : Point). buses_of (image_at x i)) (sym (point_at_lem p k))

word_same : (g : Group) → which_word g ≡ which_word (cover g)
unfolding which_word cover
word_same g = ap (λ t. cond t (Err 10) (told_of g.settled)) (sym (crashed_covered g))

agree : (s t : Site) → Same s t → Agree s t
agree s t e =
    let g = ap (λ (x : Site). x.group) e in
    let p = ap (λ (x : Site). x.points) e in
    record {
      buses = image_buses s.group t.group g;
      slots = slot_buses s.group t.group g;
      points = point_buses s.points t.points p;
      states = λ i. at (λ c. c.phase.state) (λ c. refl) s.group i ∙ ap (λ (x : Group). state_of x i) g ∙ sym (at (λ c. c.phase.state) (λ c. refl) t.group i);
      versions = λ i. at (λ c. c.phase.version) (λ c. refl) s.group i ∙ ap (λ (x : Group). (cabinet x i).phase.version) g ∙ sym (at (λ c. c.phase.version) (λ c. refl) t.group i);
      words = word_same s.group ∙ ap which_word g ∙ sym (word_same t.group);
      all_else = e;
    }

pub two_runs : TwoRuns
unfolding run
two_runs f of e xs ys ox oy but tx ty =
    let good = every_list f of e [] tt in
    let both = walk (opening (load f).group) (opening (load f).group) good good refl but ox oy tx ty in
    (both.0, λ k. agree _ _ (both.1 k))
