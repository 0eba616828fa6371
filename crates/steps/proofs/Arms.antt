-- What each arm of the loop reads and stores is what the turn leaves. The group is g with x for the word that settled the recovery; c, d, .. are what
-- is read, at the places of numbers among eight.
use Prim.Native.Nat.{ℕ, ◌%◌, ◌<◌}
use mathlib.Core.Path.{◌≡◌, refl, sym, ap, ◌∙◌}
use mathlib.Core.Bool.{Bool, true, false, cond, ◌&&◌}
use mathlib.Core.List.{List}
use native.Mathlib.Omega.{arith}
use borrow.Author.Tests.{ltb-true, ltb-false, eq-eqb, ne_eqb}
use lib.Dec.{eqb, ltb}
use lib.ListN.{length, get_or, set, length-set}
use lib.Seq.{set-get_or, set_out}
use Rattle.marks.specs.Marks.{marked}
use Rattle.marks.proofs.Lists.{get_d_in}
use Rattle.line.specs.declared.Line.{Line}
use Rattle.line.specs.Line.{oldest}
use Rattle.state.specs.declared.State.TheVariants.{Crashed}
use Rattle.state.specs.State.{is_in, in_recovery}
use Rattle.settled.specs.Settled.{Settled}
use Rattle.cabinet.specs.declared.Cabinet.{Cabinet}
use Rattle.cabinet.specs.Cabinet.{absent}
use Rattle.outgoing.specs.declared.Outgoing.{Outgoing}
use Rattle.outgoing.specs.Lines.{empty_lines, line_to, with_line_to}
use Rattle.store.specs.declared.Share.{Share}
use Rattle.store.specs.declared.Store.{Store}
use Rattle.store.specs.Store.{is_away}
use Rattle.store.specs.Share.{share, with_share, serves_in}
use Rattle.group.specs.declared.Row.{Row}
use Rattle.group.specs.declared.Group.{Group}
use Rattle.group.specs.declared.Outcome.{Outcome}
use Rattle.group.specs.Group.{cabinet, with_cabinet, outgoing, with_outgoing, line, with_line, with_settled, no_row, answering}
use Rattle.survey.specs.Survey.{any_of}
use Rattle.survey.proofs.Rows.{any_crashed, any_recovering}
use Rattle.seat.specs.declared.Seat.{Seat}
use Rattle.seat.specs.declared.SeatAnswer.{SeatAnswer}
use Rattle.seat.specs.declared.SpotAnswer.{SpotAnswer}
use Rattle.seat.specs.Seat.{there, kept, line_there, line_kept}
use Rattle.seat.proofs.Places.{cabinet_there, cabinet_kept, line_there_lem, line_kept_lem}
use Rattle.saving.specs.declared.KeptAnswer.{KeptAnswer}
use Rattle.saving.specs.Saving.{owe_if}
use Rattle.restoring.specs.Restoring.{closing}
use Rattle.turns.specs.declared.Order.{Order}
use Rattle.turns.specs.declared.Deed.{Deed}
use Rattle.turns.specs.declared.Call.{Call}
use Rattle.turns.specs.declared.Piece.{Piece}
use Rattle.turns.specs.declared.Report.{Report}
use Rattle.turns.specs.Turns.{linked, turn_of, doer, deed_done, line_left, call_done, word_left, piece_done, coordinator_of, report_refusal, home_left, reported, concluded, trips_left, word_of, closes_with}
use Rattle.turns.specs.Stored.{turn_in, deed_stored, call_stored, kept_stored, piece_stored, report_taken, report_at, report_stored}
use Rattle.turns.proofs.Same.{Eight, coordinator_below}
use Rattle.turns.proofs.Refused.{deed_refused_same, piece_refused_same}

-- ---- the turn

row_by : (rows : List Row) (a b i : ℕ) (x : Row) (low : Bool) → length rows ≡ 8 → i ≡ a % 8 → ltb a 8 ≡ low
    → (low && marked (get_or rows i x).marks b) ≡ (low && marked (get_or rows a no_row).marks b)
row_by rows a b i x true h ei e =
    let l : a < 8 = ltb-true a 8 e in
    let same : i ≡ a = omega arith in
    rw (same, get_d_in rows a x no_row (omega arith))
row_by rows a b i x false h ei e = refl

pub turn_read : (g : Group) (x : Settled) (o : Order) (a b i j : ℕ) (cx dx : Cabinet) (rx : Row) (ox : Outgoing) → Eight g → i ≡ a % 8 → j ≡ b % 8
    → turn_of o g.n (any_of (λ c. is_in c.phase.state Crashed) g.cabinets) (any_of (λ c. in_recovery c.phase.state) g.cabinets)
    (there a (get_or g.cabinets i cx)) (there b (get_or g.cabinets j dx)) a (linked a b (get_or g.links i rx))
    (line_there a (line_to (get_or g.outgoing i ox) b)) g.packets
    ≡ turn_in o (with_settled g x) a b
unfolding cabinet outgoing line
turn_read g x o a b i j cx dx rx ox h ei ej =
    rw (
      any_crashed (with_settled g x),
      any_recovering (with_settled g x),
      row_by g.links a b i rx (ltb a 8) h.links ei refl,
      ei,
      ej,
      cabinet_there g.cabinets a cx h.cabinets,
      cabinet_there g.cabinets b dx h.cabinets,
      line_there_lem g.outgoing a b ox h.outgoing,
    )

-- ---- one cabinet and the line from a to b

abbrev pub with_two : Group → List Cabinet → List Outgoing → Group
with_two g cs os = record { n = g.n; cabinets = cs; links = g.links; sound = g.sound; outgoing = os; store = g.store; trips = g.trips; packets = g.packets; settled = g.settled }

pub deed_arm : (g : Group) (x : Settled) (d : Deed) (a b i k who : ℕ) (cx c changed : Cabinet) (ox left : Outgoing) (on l keeps : Line) (r : SpotAnswer) → Eight g
    → i ≡ a % 8 → on ≡ line_to (get_or g.outgoing i ox) b → l ≡ line_there a on → who ≡ doer d a b → k ≡ who % 8
    → c ≡ there who (get_or g.cabinets k cx) → r ≡ deed_done d c l a b g.packets → changed ≡ kept who r.cabinet (get_or g.cabinets k cx)
    → keeps ≡ line_kept a r.line on → left ≡ with_line_to (get_or g.outgoing i ox) b keeps
    → deed_stored d (with_settled g x) a b
    ≡ answering r.answer (with_settled (with_two g (set g.cabinets k changed) (set g.outgoing i left)) x)
unfolding deed_stored cabinet with_cabinet outgoing with_outgoing line with_line
deed_arm g x d a b i k who cx c changed ox left on l keeps r h ei eon el ew ek ec er ech ekeeps eleft =
    let same : r ≡ deed_done d (get_or g.cabinets (doer d a b) absent) (line_to (get_or g.outgoing a empty_lines) b) a b g.packets =
    er ∙ rw (ec, el, eon, ek, ei, ew, cabinet_there g.cabinets (doer d a b) cx h.cabinets, line_there_lem g.outgoing a b ox h.outgoing) in
    rw (← same, eleft, ekeeps, eon, ech, ek, ei, ew, cabinet_kept g.cabinets (doer d a b) cx r.cabinet h.cabinets, line_kept_lem g.outgoing a b ox r.line h.outgoing)

pub deed_refused : (g : Group) (x : Settled) (d : Deed) (a b i k who : ℕ) (cx c : Cabinet) (ox : Outgoing) (on l : Line) (r : SpotAnswer) → Eight g
    → i ≡ a % 8 → on ≡ line_to (get_or g.outgoing i ox) b → l ≡ line_there a on → who ≡ doer d a b → k ≡ who % 8
    → c ≡ there who (get_or g.cabinets k cx) → r ≡ deed_done d c l a b g.packets → (r.answer ≡ 0 → ⊥)
    → deed_stored d (with_settled g x) a b ≡ answering r.answer (with_settled g x)
deed_refused g x d a b i k who cx c ox on l r h ei eon el ew ek ec er z =
    let said : (deed_stored d (with_settled g x) a b).answer ≡ r.answer =
    ap (λ (o : Outcome). o.answer) (deed_arm g x d a b i k who cx c _ ox _ on l _ r h ei eon el ew ek ec er refl refl refl) in
    deed_refused_same d (with_settled g x) a b (λ e. z (sym said ∙ e)) ∙ ap (λ (n : ℕ). answering n (with_settled g x)) said

-- ---- the line from a to b, then b's cabinet and all its lines

pub call_arm : (g : Group) (x y : Settled) (d : Call) (a b i j : ℕ) (dx c : Cabinet) (ox oy left : Outgoing) (on l rest keeps : Line) (r : SeatAnswer) → Eight g → b < 8
    → i ≡ a % 8 → j ≡ b % 8 → c ≡ there b (get_or g.cabinets j dx) → on ≡ line_to (get_or g.outgoing i ox) b → l ≡ line_there a on
    → rest ≡ line_left d l → keeps ≡ line_kept a rest on → left ≡ with_line_to (get_or g.outgoing i ox) b keeps
    → r ≡ call_done d (record { cabinet = c; lines = get_or (set g.outgoing i left) j oy }) a b (oldest l) → y ≡ word_left d x c a b (oldest l)
    → call_stored d (with_settled g x) a b
    ≡ answering r.answer (with_settled (with_two g (set g.cabinets j r.seat.cabinet) (set (set g.outgoing i left) j r.seat.lines)) y)
unfolding call_stored cabinet with_cabinet outgoing with_outgoing line with_line
call_arm g x y d a b i j dx c ox oy left on l rest keeps r h lb ei ej ec eon el erest ekeeps eleft er ey =
    let lines : set g.outgoing i left ≡ set g.outgoing a (with_line_to (get_or g.outgoing a empty_lines) b rest) =
    rw (eleft, ekeeps, eon, ei) (line_kept_lem g.outgoing a b ox rest h.outgoing) in
    let at_b : j ≡ b = omega arith in
    let el' : l ≡ line_to (get_or g.outgoing a empty_lines) b = el ∙ rw (eon, ei) (line_there_lem g.outgoing a b ox h.outgoing) in
    let ec' : c ≡ get_or g.cabinets b absent = ec ∙ rw ej (cabinet_there g.cabinets b dx h.cabinets) in
    let long : length (set g.outgoing a (with_line_to (get_or g.outgoing a empty_lines) b rest)) ≡ 8 = length-set g.outgoing a _ ∙ h.outgoing in
    let theirs : get_or (set g.outgoing i left) j oy ≡ get_or (set g.outgoing a (with_line_to (get_or g.outgoing a empty_lines) b rest)) b empty_lines =
    rw (lines, at_b) (get_d_in (set g.outgoing a (with_line_to (get_or g.outgoing a empty_lines) b rest)) b oy empty_lines (omega (arith, long))) in
    let same : r ≡ call_done d (record { cabinet = get_or g.cabinets b absent; lines = get_or (set g.outgoing a (with_line_to (get_or g.outgoing a empty_lines) b (line_left d (line_to (get_or g.outgoing a empty_lines) b)))) b empty_lines }) a b (oldest (line_to (get_or g.outgoing a empty_lines) b)) =
    er ∙ rw (theirs, ec', erest, el') in
    rw (← same, ey, lines, at_b, ec', erest, el')

-- ---- a cabinet and its slots, then its home h

abbrev pub with_kept_store : Group → List Cabinet → Store → Group
with_kept_store g cs s = record { n = g.n; cabinets = cs; links = g.links; sound = g.sound; outgoing = g.outgoing; store = s; trips = g.trips; packets = g.packets; settled = g.settled }

owed_by : (cs : List Cabinet) (h k a : ℕ) (ex e : Cabinet) (owes low : Bool) → length cs ≡ 8 → k ≡ h % 8 → ltb h 8 ≡ low
    → e ≡ owe_if (owes && low) (get_or cs k ex) a → set cs k e ≡ set cs h (owe_if owes (get_or cs h absent) a)
owed_by cs h k a ex e owes true hl ek el ee =
    let l : h < 8 = ltb-true h 8 el in
    let same : k ≡ h = omega arith in
    rw (ee, same, get_d_in cs h ex absent (omega arith)) (both owes)
  where
    both : (t : Bool) → set cs h (owe_if (t && true) (get_or cs h absent) a) ≡ set cs h (owe_if t (get_or cs h absent) a)
    both true = refl
    both false = refl
owed_by cs h k a ex e owes false hl ek el ee =
    let l = ltb-false h 8 el in
    rw ee (nothing owes ∙ sym (set_out cs h _ (omega arith)))
  where
    nothing : (t : Bool) → set cs k (owe_if (t && false) (get_or cs k ex) a) ≡ cs
    nothing true = set-get_or cs k ex
    nothing false = set-get_or cs k ex

pub piece_arm : (g : Group) (x : Settled) (d : Piece) (a i h k : ℕ) (cx c hx home changed ex owing : Cabinet) (sh : Share) (store : Store) (r : KeptAnswer) → Eight g
    → i ≡ a % 8 → c ≡ there a (get_or g.cabinets i cx) → sh ≡ share g.store a → h ≡ serves_in sh → k ≡ h % 8
    → home ≡ there h (get_or g.cabinets k hx) → r ≡ piece_done d c home sh a → changed ≡ kept a r.cabinet (get_or g.cabinets i cx)
    → store ≡ with_share g.store a r.share → owing ≡ owe_if (r.owes && ltb h 8) (get_or (set g.cabinets i changed) k ex) a
    → piece_stored d (with_settled g x) a
    ≡ answering r.answer (with_settled (with_kept_store g (set (set g.cabinets i changed) k owing) store) x)
unfolding piece_stored kept_stored cabinet with_cabinet
piece_arm g x d a i h k cx c hx home changed ex owing sh store r e8 ei ec esh eh ek ehome er ech est eow =
    let same : r ≡ piece_done d (get_or g.cabinets a absent) (get_or g.cabinets (serves_in (share g.store a)) absent) (share g.store a) a =
    er ∙ rw (ec, ehome, ek, eh, esh, ei, cabinet_there g.cabinets a cx e8.cabinets, cabinet_there g.cabinets (serves_in (share g.store a)) hx e8.cabinets) in
    let cs : set g.cabinets i changed ≡ set g.cabinets a r.cabinet = rw (ech, ei) (cabinet_kept g.cabinets a cx r.cabinet e8.cabinets) in
    let long : length (set g.cabinets a r.cabinet) ≡ 8 = length-set g.cabinets a r.cabinet ∙ e8.cabinets in
    let owed = owed_by (set g.cabinets a r.cabinet) h k a ex owing r.owes (ltb h 8) long ek refl (eow ∙ rw cs) in
    rw (← same, est, cs, owed, eh, esh)

pub piece_refused : (g : Group) (x : Settled) (d : Piece) (a i h k : ℕ) (cx c hx home : Cabinet) (sh : Share) (r : KeptAnswer) → Eight g
    → i ≡ a % 8 → c ≡ there a (get_or g.cabinets i cx) → sh ≡ share g.store a → h ≡ serves_in sh → k ≡ h % 8
    → home ≡ there h (get_or g.cabinets k hx) → r ≡ piece_done d c home sh a → (r.answer ≡ 0 → ⊥)
    → piece_stored d (with_settled g x) a ≡ answering r.answer (with_settled g x)
piece_refused g x d a i h k cx c hx home sh r e8 ei ec esh eh ek ehome er z =
    let said : (piece_stored d (with_settled g x) a).answer ≡ r.answer =
    ap (λ (o : Outcome). o.answer) (piece_arm g x d a i h k cx c hx home _ cx _ sh _ r e8 ei ec esh eh ek ehome er refl refl refl) in
    piece_refused_same d (with_settled g x) a (λ e. z (sym said ∙ e)) ∙ ap (λ (n : ℕ). answering n (with_settled g x)) said

-- ---- a home h, then a coordinator k

refusal_read : (g : Group) (d : Report) (a i h m k y n : ℕ) (cx c hx home kx chief : Cabinet) (sh : Share) → Eight g
    → i ≡ a % 8 → c ≡ there a (get_or g.cabinets i cx) → sh ≡ share g.store a → h ≡ serves_in sh → m ≡ h % 8
    → home ≡ there h (get_or g.cabinets m hx) → k ≡ coordinator_of d c home → y ≡ k % 8 → chief ≡ there k (get_or g.cabinets y kx)
    → n ≡ report_refusal d c home chief a
    → (c ≡ cabinet g a) × ((home ≡ cabinet g h) × (n ≡ report_refusal d (cabinet g a) (cabinet g h) (cabinet g k) a))
unfolding cabinet
refusal_read g d a i h m k y n cx c hx home kx chief sh e8 ei ec esh eh em ehome ek ey echief en =
    let c' : c ≡ get_or g.cabinets a absent = ec ∙ rw ei (cabinet_there g.cabinets a cx e8.cabinets) in
    let h' : home ≡ get_or g.cabinets h absent = ehome ∙ rw em (cabinet_there g.cabinets h hx e8.cabinets) in
    let k' : chief ≡ get_or g.cabinets k absent = echief ∙ rw ey (cabinet_there g.cabinets k kx e8.cabinets) in
    (c', (h', en ∙ rw (c', h', k')))

pub report_refused : (g : Group) (x : Settled) (d : Report) (a i h m k y n : ℕ) (cx c hx home kx chief : Cabinet) (sh : Share) → Eight g
    → i ≡ a % 8 → c ≡ there a (get_or g.cabinets i cx) → sh ≡ share g.store a → h ≡ serves_in sh → m ≡ h % 8
    → home ≡ there h (get_or g.cabinets m hx) → k ≡ coordinator_of d c home → y ≡ k % 8 → chief ≡ there k (get_or g.cabinets y kx)
    → n ≡ report_refusal d c home chief a → (n ≡ 0 → ⊥) → report_stored d (with_settled g x) a ≡ answering n (with_settled g x)
unfolding report_stored report_at cabinet
report_refused g x d a i h m k y n cx c hx home kx chief sh e8 ei ec esh eh em ehome ek ey echief en z =
    let read = refusal_read g d a i h m k y n cx c hx home kx chief sh e8 ei ec esh eh em ehome ek ey echief en in
    let k' : k ≡ coordinator_of d (get_or g.cabinets a absent) (get_or g.cabinets h absent) = ek ∙ rw (read.0, read.1.0) in
    let h' : serves_in (share g.store a) ≡ h = sym (eh ∙ rw esh) in
    rw (h', ← k', ← read.1.1, ne_eqb n 0 z)

-- what is stored where the report is taken
abbrev pub with_report : Group → List Cabinet → List Outgoing → List ℕ → Group
with_report g cs os ts = record { n = g.n; cabinets = cs; links = g.links; sound = g.sound; outgoing = os; store = g.store; trips = ts; packets = g.packets; settled = g.settled }

pub report_arm : (g : Group) (x z : Settled) (d : Report) (a i h m k y n : ℕ) (cx c hx home kx chief left made tx told : Cabinet) (sh : Share) (ox : Outgoing) (s : Seat) (ts : List ℕ) (closed : Bool)
    → Eight g → i ≡ a % 8 → c ≡ there a (get_or g.cabinets i cx) → sh ≡ share g.store a → h ≡ serves_in sh → m ≡ h % 8
    → home ≡ there h (get_or g.cabinets m hx) → k ≡ coordinator_of d c home → y ≡ k % 8 → chief ≡ there k (get_or g.cabinets y kx)
    → n ≡ report_refusal d c home chief a → n ≡ 0 → left ≡ home_left d home a → made ≡ kept h left (get_or g.cabinets m hx)
    → told ≡ reported d (get_or (set g.cabinets m made) y tx) a → s ≡ concluded d (record { cabinet = told; lines = get_or g.outgoing y ox })
    → ts ≡ trips_left d told g.trips → z ≡ word_of d told k x → closed ≡ closes_with d (is_away g.store a) told
    → report_stored d (with_settled g x) a
    ≡ answering 0
    (cond closed
    (closing (with_settled (with_report g (set (set g.cabinets m made) y s.cabinet) (set g.outgoing y s.lines) ts) z) a k)
    (with_settled (with_report g (set (set g.cabinets m made) y s.cabinet) (set g.outgoing y s.lines) ts) z))
unfolding report_stored report_at report_taken cabinet with_cabinet outgoing with_outgoing
report_arm g x z d a i h m k y n cx c hx home kx chief left made tx told sh ox s ts closed e8 ei ec esh eh em ehome ek ey echief en ez eleft emade etold es ets ew ecl =
    let read = refusal_read g d a i h m k y n cx c hx home kx chief sh e8 ei ec esh eh em ehome ek ey echief en in
    let k' : k ≡ coordinator_of d (get_or g.cabinets a absent) (get_or g.cabinets h absent) = ek ∙ rw (read.0, read.1.0) in
    let h' : serves_in (share g.store a) ≡ h = sym (eh ∙ rw esh) in
    let zero : eqb (report_refusal d (cabinet g a) (cabinet g h) (cabinet g k) a) 0 ≡ true = rw (← read.1.1) (eq-eqb n 0 ez) in
    let low = coordinator_below d (cabinet g a) (cabinet g h) a k g e8 zero in
    let at-k : y ≡ k = omega arith in
    let at-h : set g.cabinets m made ≡ set g.cabinets h (home_left d home a) =
    rw (emade, eleft, em) (cabinet_kept g.cabinets h hx (home_left d home a) e8.cabinets) in
    let cs : set g.cabinets m made ≡ set g.cabinets h (home_left d (get_or g.cabinets h absent) a) =
    at-h ∙ ap (λ (e : Cabinet). set g.cabinets h (home_left d e a)) read.1.0 in
    let long : length (set g.cabinets h (home_left d (get_or g.cabinets h absent) a)) ≡ 8 = length-set g.cabinets h _ ∙ e8.cabinets in
    let told' : told ≡ reported d (get_or (set g.cabinets h (home_left d (get_or g.cabinets h absent) a)) k absent) a =
    etold ∙ rw (cs, at-k, get_d_in (set g.cabinets h (home_left d (get_or g.cabinets h absent) a)) k tx absent (omega (arith, long))) in
    let s' : s ≡ concluded d (record { cabinet = told; lines = get_or g.outgoing k empty_lines }) =
    es ∙ rw (at-k, get_d_in g.outgoing k ox empty_lines (omega (arith, e8.outgoing))) in
    rw (h', ← k', zero, ← told', ← s', ecl, ets, ew, cs, at-k)
