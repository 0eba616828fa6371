-- An operation is the turn that its record asks for.
use Prim.Native.Nat.{ℕ, ◌+◌}
use mathlib.Core.Path.{◌≡◌, refl, ap, ◌∙◌}
use mathlib.Core.Bool.{Bool, true, false, cond}
use mathlib.Core.List.{List}
use native.Mathlib.Omega.{arith}
use lib.Dec.{eqb}
use lib.ListN.{length, get_or, drop, take}
use Rattle.points.specs.declared.Points.{Points}
use Rattle.group.specs.declared.Group.{Group}
use Rattle.group.specs.declared.Outcome.{Outcome}
use Rattle.group.specs.Group.{answering}
use Rattle.protocol.specs.declared.Site.{Site}
use Rattle.protocol.specs.declared.Turn.{Turn as Made}
use Rattle.protocol.specs.Entry.{decode, step}
use Rattle.protocol.specs.History.{Operation, stepping, pointing, returning}
use Rattle.protocol.specs.Evening.{operate, no_operation}
use Rattle.turns.specs.declared.Order.{Order}
use Rattle.turns.specs.declared.Order.TheVariants.{Record, Point, Return}
use Rattle.turns.specs.declared.Turn.{Turn}
use Rattle.turns.specs.declared.Turn.TheVariants.{Refused, Deed as ADeed, Call as ACall, Piece as APiece, Report as AReport, Whole as AWhole, Point as APoint, Return as AReturn}
use Rattle.turns.specs.Turns.{operation_in, order_for, order_of, name_in, first_in, second_in, first_named, second_named, turn_of}
use Rattle.turns.specs.Stored.{turn_in, turn_stored, deed_stored, call_stored, piece_stored, report_stored, whole_stored}
use Rattle.turns.proofs.Same.{Eight, same, below, Below, Stepped, record_stepped}

abbrev pub made_of : Outcome → Points → Made
made_of o ps = record { answer = o.answer; site = record { group = o.group; points = ps } }

-- what a turn makes of a group and its points
abbrev pub turn_made : Turn → Site → List ℕ → ℕ → ℕ → Made
turn_made (Refused k) s r a b = made_of (answering k s.group) s.points
turn_made (ADeed d) s r a b = made_of (deed_stored d s.group a b) s.points
turn_made (ACall d) s r a b = made_of (call_stored d s.group a b) s.points
turn_made (APiece d) s r a b = made_of (piece_stored d s.group a) s.points
turn_made (AReport d) s r a b = made_of (report_stored d s.group a) s.points
turn_made (AWhole w) s r a b = made_of (whole_stored w s.group a b) s.points
turn_made APoint s r a b = operate s (pointing (name_in r))
turn_made AReturn s r a b = operate s (returning (name_in r))

-- a step's turn is no point and no return
stepped_made : (t : Turn) (s : Site) (r : List ℕ) (a b : ℕ) → Stepped t → made_of (turn_stored t s.group a b) s.points ≡ turn_made t s r a b
unfolding turn_stored
stepped_made (Refused k) s r a b h = refl
stepped_made (ADeed d) s r a b h = refl
stepped_made (ACall d) s r a b h = refl
stepped_made (APiece d) s r a b h = refl
stepped_made (AReport d) s r a b h = refl
stepped_made (AWhole w) s r a b h = refl
stepped_made APoint s r a b h = absurd h
stepped_made AReturn s r a b h = absurd h

-- ---- the name that a plan's record has

named_by : (p q z o t : Bool) (rest name : List ℕ) (x : List ℕ)
    → cond p (cond q (cond z (stepping x) no_operation) (cond o (pointing rest) (cond t (returning rest) no_operation))) no_operation ≡ pointing name
    → (p ≡ true) × (rest ≡ name)
named_by true false z true t rest name x e = (refl, cc)
named_by true true true o t rest name x e = let z : ◌≡◌ {A = ℕ} 0 1 = cc in absurd (omega arith)
named_by true true false o t rest name x e = let z : ◌≡◌ {A = ℕ} 0 1 = cc in absurd (omega arith)
named_by true false z false true rest name x e = let z : ◌≡◌ {A = ℕ} 0 1 = cc in absurd (omega arith)
named_by true false z false false rest name x e = let z : ◌≡◌ {A = ℕ} 0 1 = cc in absurd (omega arith)
named_by false q z o t rest name x e = let z : ◌≡◌ {A = ℕ} 0 1 = cc in absurd (omega arith)

returned_by : (p q z o t : Bool) (rest name : List ℕ) (x : List ℕ)
    → cond p (cond q (cond z (stepping x) no_operation) (cond o (pointing rest) (cond t (returning rest) no_operation))) no_operation ≡ returning name
    → (p ≡ true) × (rest ≡ name)
returned_by true false z false true rest name x e = (refl, cc)
returned_by true true true o t rest name x e = let z : ◌≡◌ {A = ℕ} 0 1 = cc in absurd (omega arith)
returned_by true true false o t rest name x e = let z : ◌≡◌ {A = ℕ} 0 1 = cc in absurd (omega arith)
returned_by true false z true t rest name x e = let z : ◌≡◌ {A = ℕ} 0 1 = cc in absurd (omega arith)
returned_by true false z false false rest name x e = let z : ◌≡◌ {A = ℕ} 0 1 = cc in absurd (omega arith)
returned_by false q z o t rest name x e = let z : ◌≡◌ {A = ℕ} 0 1 = cc in absurd (omega arith)

point_named : (plan : Bool) (r name : List ℕ) → operation_in plan r ≡ pointing name → name_in r ≡ name
unfolding name_in
point_named true r name e =
    let x = named_by (eqb (length r) 9) (eqb (get_or r 0 0) 0) (eqb (get_or (drop 1 r) 6 0 + get_or (drop 1 r) 7 0) 0) (eqb (get_or r 0 0) 1) (eqb (get_or r 0 0) 2) (drop 1 r) name (take 6 (drop 1 r)) e in
    rw x.0 x.1
point_named false r name e = let z : ◌≡◌ {A = ℕ} 0 1 = cc in absurd (omega arith)

return_named : (plan : Bool) (r name : List ℕ) → operation_in plan r ≡ returning name → name_in r ≡ name
unfolding name_in
return_named true r name e =
    let x = returned_by (eqb (length r) 9) (eqb (get_or r 0 0) 0) (eqb (get_or (drop 1 r) 6 0 + get_or (drop 1 r) 7 0) 0) (eqb (get_or r 0 0) 1) (eqb (get_or r 0 0) 2) (drop 1 r) name (take 6 (drop 1 r)) e in
    rw x.0 x.1
return_named false r name e = let z : ◌≡◌ {A = ℕ} 0 1 = cc in absurd (omega arith)

-- ---- an operation

by_operation : (s : Site) (r : List ℕ) (plan : Bool) (x : Operation) → Eight s.group → operation_in plan r ≡ x
    → operate s x ≡ turn_made (turn_in (order_for x) s.group (first_named (order_for x)) (second_named (order_for x))) s r (first_named (order_for x)) (second_named (order_for x))
unfolding operate step turn_of
by_operation s r plan (stepping q) h e =
    ap (λ o. made_of o s.points) (same s.group (decode q) h)
    ∙ stepped_made (turn_in (Record (decode q)) s.group (first_in (decode q)) (second_in (decode q))) s r (first_in (decode q)) (second_in (decode q)) (record_stepped (decode q) _ _ _ _ _ _ _ _ _)
by_operation s r plan (pointing name) h e = rw (point_named plan r name e)
by_operation s r plan (returning name) h e = rw (return_named plan r name e)

pub operated : (s : Site) (r : List ℕ) (plan : Bool) (o : Order) (a b : ℕ) → Eight s.group → o ≡ order_of plan r → a ≡ first_named o → b ≡ second_named o
    → operate s (operation_in plan r) ≡ turn_made (turn_in o s.group a b) s r a b
unfolding order_of
operated s r plan o a b h eo ea eb = rw (ea, eb, eo) (by_operation s r plan (operation_in plan r) h refl)

-- a call goes to one of the eight
order_below : (g : Group) (o : Order) → Eight g → Below (turn_in o g (first_named o) (second_named o)) (second_named o)
unfolding turn_of
order_below g (Record d) h = below g d h
order_below g Point h = tt
order_below g Return h = tt

pub call_below : (g : Group) (o : Order) (a b : ℕ) → Eight g → a ≡ first_named o → b ≡ second_named o → Below (turn_in o g a b) b
call_below g o a b h ea eb = rw (ea, eb) (order_below g o h)
