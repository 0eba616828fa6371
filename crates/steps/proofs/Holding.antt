-- What holds at each turn of the loop: the group, with the word that is kept beside it, has what the records before left of it, and eight of each part.
use Prim.Native.Nat.{ℕ, zero, suc, ◌<◌, ◌≤◌, ◌^◌, min}
use mathlib.Core.Path.{◌≡◌, refl, sym, ap, ◌∙◌}
use mathlib.Core.Bool.{Bool, true, false}
use mathlib.Core.List.{List, [], ◌∷◌}
use native.Mathlib.Omega.{arith, min_cases}
use lib.ListN.{length, set, take, drop, length-set, length-drop}
use lib.Seq.{sets}
use borrow.Author.Tests.{ne_eqb}
use Rattle.std.proofs.Common.{◌==◌, true≢false}
use Rattle.points.specs.declared.Points.{Points}
use Rattle.settled.specs.Settled.{Settled}
use Rattle.group.specs.declared.Group.{Group}
use Rattle.group.specs.declared.Outcome.{Outcome}
use Rattle.group.specs.Group.{with_settled, cabinet, outgoing, is_crashed, quiet, working, normal_ones, laden_ones}
use Rattle.buffer.specs.Written.{Written}
use Rattle.protocol.specs.declared.Noted.{Noted}
use Rattle.protocol.specs.declared.Site.{Site}
use Rattle.protocol.specs.History.{pointing, returning}
use Rattle.protocol.specs.Points.{take_point, images_kept, return_to}
use Rattle.protocol.specs.Evening.{operate, operate_all, answers_to}
use Rattle.turns.specs.declared.Order.{Order}
use Rattle.turns.specs.declared.Turn.{Turn}
use Rattle.turns.specs.Turns.{record_size, operation_in, order_of, first_named, second_named}
use Rattle.turns.specs.Stored.{turn_in}
use Rattle.turns.proofs.Same.{Eight}
use Rattle.steps.specs.Steps.{operations_of}
use Rattle.steps.proofs.Records.{To-do, start, turn, ended}
use Rattle.steps.proofs.Operations.{all_of, said_of, none_made, none_said, one_made, one_said, each_said}
use Rattle.steps.proofs.Turning.{turn_made, operated}

-- the group of a turn, with its points
abbrev pub site_of : Group → Settled → Points → Site
site_of g x ps = record { group = with_settled g x; points = ps }

pub record Holds (plan : Bool) (l : List ℕ) (whole : Site) (full buffer : List ℕ) (g : Group) (ps : Points) (x : Settled) (rest : List ℕ) (at : ℕ) : Type 0 where
  pub to_do : To-do (record_size plan) (all_of plan) (said_of plan) l whole full buffer (site_of g x ps) rest at
  pub eight : Eight g

-- a word that is put back where it stood
pub word_same : (g : Group) → with_settled g g.settled ≡ g
word_same g = refl

pub eight_with : (g : Group) (x : Settled) → Eight g → Eight (with_settled g x)
eight_with g x h = record { cabinets = h.cabinets; links = h.links; outgoing = h.outgoing }

-- what a point and a return make
pub pointed : (g : Group) (x : Settled) (ps : Points) (name : List ℕ) (n : Noted) → n ≡ take_point ps (with_settled g x) name
    → operate (site_of g x ps) (pointing name) ≡ record { answer = n.answer; site = site_of g x n.points }
unfolding operate
pointed g x ps name n e = rw e

-- who settled the recovery is asked by no point
pub point_without : (g : Group) (x : Settled) (ps : Points) (name : List ℕ) → take_point ps g name ≡ take_point ps (with_settled g x) name
unfolding take_point images_kept is_crashed quiet working normal_ones laden_ones cabinet outgoing
point_without g x ps name = refl

pub returned : (g : Group) (x : Settled) (ps : Points) (name : List ℕ) (o : Outcome) → o ≡ return_to ps (with_settled g x) name
    → operate (site_of g x ps) (returning name) ≡ record { answer = o.answer; site = site_of o.group o.group.settled ps }
unfolding operate
returned g x ps name o e = rw e

pub set_eight : {A : Type 0} (l : List A) (i : ℕ) (y : A) → length l ≡ 8 → length (set l i y) ≡ 8
set_eight l i y h = length-set l i y ∙ h

pub few_octets : (plan : Bool) → record_size plan ≤ 9
few_octets true = omega arith
few_octets false = omega arith

some_octets : (plan : Bool) → 0 < record_size plan
some_octets true = omega arith
some_octets false = omega arith

pub at_first : (plan : Bool) (l buffer : List ℕ) (g : Group) (ps : Points) → length l < 2 ^ 64 → Eight g
    → Holds plan l (operate_all (record { group = g; points = ps }) (operations_of plan l)) (sets buffer 0 (answers_to (record { group = g; points = ps }) (operations_of plan l))) buffer g ps g.settled l 0
at_first plan l buffer g ps h e = record {
  to_do = start (record_size plan) (all_of plan) (said_of plan) l buffer (record { group = g; points = ps }) (λ rs. each_said plan rs (record { group = g; points = ps })) h;
  eight = e;
}

-- whether octets are left
pub some_left : (n : ℕ) {b : Bool} → b ≡ (n == 0) → b ≡ false → 0 < n
some_left zero e f = let z : true ≡ false = sym e ∙ f in absurd (true≢false z)
some_left (suc n) e f = omega arith

pub none_left : (n : ℕ) {b : Bool} → b ≡ (n == 0) → b ≡ true → n ≤ 0
none_left zero e t = omega arith
none_left (suc n) e t = let z : true ≡ false = sym t ∙ e ∙ ne_eqb (suc n) 0 (λ q. omega arith) in absurd (true≢false z)

-- fewer octets are left
pub fewer : (plan : Bool) (rest : List ℕ) {size n : ℕ} → size ≡ record_size plan → n ≡ min size (length rest) → 0 < length rest → length (drop n rest) < length rest
fewer plan rest {size} {n} es e m =
    let some : 0 < size = rw es (some_octets plan) in
    min_cases size (length rest) _ (λ s q. omega (arith, length-drop n rest)) (λ s q. omega (arith, length-drop n rest))

module _ {plan : Bool} {l full buffer : List ℕ} {whole : Site} {g : Group} {ps : Points} {x : Settled} {rest : List ℕ} {at : ℕ}
    (h : Holds plan l whole full buffer g ps x rest at) where
  -- the operation of the record is the turn that was read
  pub asked : (r : List ℕ) (o : Order) (a b : ℕ) (t : Turn) → o ≡ order_of plan r → a ≡ first_named o → b ≡ second_named o → turn_in o (with_settled g x) a b ≡ t
      → operate (site_of g x ps) (operation_in plan r) ≡ turn_made t (site_of g x ps) r a b
  asked r o a b t eo ea eb et =
      operated (site_of g x ps) r plan o a b (eight_with g x h.eight) eo ea eb
      ∙ ap (λ (u : Turn). turn_made u (site_of g x ps) r a b) et

  -- a turn more
  pub going : {g' : Group} {ps' : Points} {x' : Settled} {k n end size : ℕ} {buffer' one after : List ℕ} → 0 < length rest → size ≡ record_size plan → n ≡ min size (length rest)
      → one ≡ take n rest → after ≡ drop n rest
      → operate (site_of g x ps) (operation_in plan one) ≡ record { answer = k; site = site_of g' x' ps' }
      → Written (k ∷ []) at buffer end buffer' → Eight g' → Holds plan l whole full buffer' g' ps' x' after end
  going {n = n} m es et er ea e w e8 =
      let made = rw er at e in
      rw ea (record {
        to_do = turn (record_size plan) (all_of plan) (said_of plan) h.to_do (some_octets plan) m (rw (← es) et)
            (one_made plan (site_of g x ps) (take n rest) made) (one_said plan (site_of g x ps) (take n rest) made) w;
        eight = e8;
      })

  pub at_last : length rest ≤ 0 → (site_of g x ps ≡ whole) × (buffer ≡ full)
  at_last m = ended (record_size plan) (all_of plan) (said_of plan) h.to_do (none_made plan (site_of g x ps)) (none_said plan (site_of g x ps)) m
