-- The loop of `put_rows`: one record at a time, whose run is that of its operation.
use Prim.Native.Nat.{ℕ, suc, ◌+◌, ◌-◌, ◌*◌, ◌≤◌, ◌<◌, min}
use mathlib.Core.Path.{◌≡◌, refl, sym, ap, ◌∙◌}
use mathlib.Core.Bool.{Bool, true, false}
use mathlib.Core.List.{List, [], ◌∷◌, ◌++◌, map, append-nil}
use native.Mathlib.Omega.{arith, min_cases}
use lib.ListN.{length, get_or, length-append}
use lib.Seq.{sets}
use Rattle.buffer.specs.declared.Writer.{Writer}
use Rattle.buffer.specs.Added.{Added}
use Rattle.report.proofs.Chunks.{Ahead, at_first, one_on, at_last, its_records}
use Rattle.protocol.specs.declared.Site.{Site}
use Rattle.protocol.specs.declared.Turn.{Turn}
use Rattle.protocol.specs.Evening.{operate, operate_all, answers_to}
use Rattle.turns.specs.declared.Order.{Order}
use Rattle.turns.specs.Turns.{record_size, operation_in, order_for, order_of}
use Rattle.steps.specs.Steps.{operations_of}
use Rattle.steps.proofs.Records.{no_octets, no_more}
use Rattle.newest.specs.declared.Newest.{Newest}
use Rattle.newest.specs.declared.Sort.{Sort}
use Rattle.newest.specs.Sorts.{sort_for}
use Rattle.newest.specs.Newest.{start_newest, newest_in}
use Rattle.rows.specs.Rows.{row_octets}
use Rattle.chronicle.specs.Kept.{rows_by, rows_of}

pub sized : (plan : Bool) {size : ℕ} → size ≡ record_size plan → (0 < size) × (size ≤ 9)
sized true {size} e = rw e (omega arith, omega arith)
sized false {size} e = rw e (omega arith, omega arith)

-- ---- the records of a list, and a run of one

none_left : (plan : Bool) → operations_of plan [] ≡ []
none_left plan = ap (map (operation_in plan)) (no_octets (record_size plan) 0)

next_record : (plan : Bool) {l : List ℕ} (x y : List ℕ) → l ≡ x ++ y → length x ≡ min (record_size plan) (length l) → 0 < length l
    → operations_of plan l ≡ operation_in plan x ∷ operations_of plan y
next_record plan x y e h s = ap (map (operation_in plan)) (its_records (record_size plan) y (sized plan refl).0 e h s)

one_record : (plan : Bool) (r : List ℕ) → 0 < length r → length r ≤ record_size plan → operations_of plan r ≡ operation_in plan r ∷ []
one_record plan r h k =
    let whole : length r ≡ min (record_size plan) (length r) = min_cases (record_size plan) (length r) _ (λ l q. omega arith) (λ l q. omega arith) in
    next_record plan r [] (sym (append-nil r)) whole h ∙ rw (none_left plan)

-- the run of one record, with the buffer that takes its answer
pub one_turn : (plan : Bool) (s : Site) (r : List ℕ) {after : Site} {answers : List ℕ} (d : ℕ) → after ≡ operate_all s (operations_of plan r)
    → answers ≡ sets (0 ∷ []) 0 (answers_to s (operations_of plan r)) → 0 < length r → length r ≤ record_size plan
    → ◌≡◌ {A = Turn} (record { answer = get_or answers 0 d; site = after }) (operate s (operation_in plan r))
unfolding operate_all answers_to
one_turn plan s r d e q h k = rw (e, q, one_record plan r h k)

pub its_order : (plan : Bool) (r : List ℕ) → order_of plan r ≡ order_for (operation_in plan r)
unfolding order_of
its_order plan r = refl

-- ---- a record more

-- the rows for the octets that are left, after i records
abbrev pub rows_left : Bool → ℕ → Site → Newest → List ℕ → List ℕ
rows_left plan i here m l = rows_by (i + 1) here m (operations_of plan l)

pub begun : (plan : Bool) (first : Site) (l : List ℕ) (x : Writer) (i : ℕ) (m : Newest) (rest : List ℕ) → i ≡ 0 → m ≡ start_newest → rest ≡ l
    → Ahead (rows_of plan first l) (rows_left plan i first m rest) x x
unfolding rows_of
begun plan first l x i m rest e f h = rw (e, f, h) (at_first _ x)

pub few_left : (plan : Bool) (i : ℕ) {l : List ℕ} (x y : List ℕ) → l ≡ x ++ y → length x ≡ min (record_size plan) (length l)
    → length l ≤ (10000 - i) * record_size plan → length y ≤ (10000 - (i + 1)) * record_size plan
few_left true i {l} x y e h f =
    let both : length l ≡ length x + length y = rw e (length-append x y) in
    min_cases 9 (length l) _ (λ a q. omega (arith, both)) (λ a q. omega (arith, both))
few_left false i {l} x y e h f =
    let both : length l ≡ length x + length y = rw e (length-append x y) in
    min_cases 6 (length l) _ (λ a q. omega (arith, both)) (λ a q. omega (arith, both))

pub going : {whole : List ℕ} (plan : Bool) (i : ℕ) {l : List ℕ} (x y : List ℕ) (here : Site) (m : Newest) {m' : Newest} {t : Turn} {o : Order} {s : Sort} {start now next : Writer}
    → l ≡ x ++ y → length x ≡ min (record_size plan) (length l) → 0 < length l → Ahead whole (rows_left plan i here m l) start now
    → (0 < length x → length x ≤ record_size plan → t ≡ operate here (operation_in plan x)) → o ≡ order_of plan x → s ≡ sort_for o
    → m' ≡ newest_in t.answer m (i + 1) here.group t.site.group s → Added (row_octets t.answer here.group t.site.group s m'.number) now next
    → Ahead whole (rows_left plan (i + 1) t.site m' y) start next
going plan i {l} x y here m {m'} {t} {o} {s} e h some a ft eo es em w =
    let first : 0 < length x = min_cases (record_size plan) (length l) _ (λ a q. omega (arith, (sized plan refl).0)) (λ a q. omega arith) in
    let few : length x ≤ record_size plan = min_cases (record_size plan) (length l) _ (λ a q. omega arith) (λ a q. omega arith) in
    let et : t ≡ operate here (operation_in plan x) = ft first few in
    let sort : s ≡ sort_for (order_for (operation_in plan x)) = es ∙ ap sort_for (eo ∙ its_order plan x) in
    let number : i + 1 + 1 ≡ suc (i + 1) = omega arith in
    one_on a (rw (next_record plan x y e h some, ← et, ← sort, ← em, number)) w

pub at_end : {whole : List ℕ} (plan : Bool) (i : ℕ) (l : List ℕ) (here : Site) (m : Newest) {start now : Writer} → length l ≡ 0
    → Ahead whole (rows_left plan i here m l) start now → Added whole start now
at_end plan i l here m h a = at_last (rw (no_more l (omega arith), none_left plan) at a)
