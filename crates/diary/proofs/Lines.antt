-- One line more of a plan, and how long the lines are.
use Prim.Native.Nat.{ℕ, suc, ◌+◌, ◌-◌, ◌*◌, ◌≤◌, ◌<◌, min}
use mathlib.Core.Path.{◌≡◌, refl, ap, ◌∙◌}
use mathlib.Core.Bool.{Bool, true, false, cond}
use mathlib.Core.List.{List, [], ◌∷◌, ◌++◌}
use native.Mathlib.Nat.{add-zero}
use native.Mathlib.Omega.{arith, min_cases}
use lib.Dec.{eqb}
use lib.ListN.{length, get_or, drop, length-append}
use lib.Seq.{drop-drop, get_or-drop}
use Rattle.protocol.specs.Listing.{Text, step_word, answer_line}
use Rattle.protocol.specs.Evening.{point_word, return_word, word_of, plan_lines, plan_records}
use Rattle.buffer.specs.declared.Writer.{Writer}
use Rattle.buffer.specs.Added.{Added}
use Rattle.buffer.proofs.Digits.{at_most}
use Rattle.steps.proofs.Records.{no_octets, no_more}
use Rattle.report.proofs.Chunks.{Ahead, one_on, at_last, its_records}

-- ---- one record more

-- the lines for the octets that are left, after i records
abbrev pub lines_from : ℕ → List ℕ → List ℕ → Text
lines_from i l answers = plan_lines (i + 1) (plan_records (length l) l) (drop i answers)

pub one_more : {whole : Text} (i : ℕ) (answers : List ℕ) {l : List ℕ} (x y : List ℕ) {start now next : Writer} → l ≡ x ++ y → length x ≡ min 9 (length l) → 0 < length l
    → Ahead whole (lines_from i l answers) start now → Added (answer_line (word_of (get_or x 0 0)) (i + 1) (get_or answers i 0)) now next
    → Ahead whole (lines_from (i + 1) y answers) start next
one_more i answers {l} x y e h s a w =
    let first : get_or (drop i answers) 0 0 ≡ get_or answers i 0 = get_or-drop i answers 0 0 ∙ ap (λ (m : ℕ). get_or answers m 0) (add-zero i) in
    let later : drop 1 (drop i answers) ≡ drop (i + 1) answers = drop-drop 1 i answers in
    let number : i + 1 + 1 ≡ suc (i + 1) = omega arith in
    one_on a (rw (its_records 9 y (omega arith) e h s, first, later, number)) w

pub few_left : (i : ℕ) {l : List ℕ} (x y : List ℕ) → l ≡ x ++ y → length x ≡ min 9 (length l) → length l ≤ (10000 - i) * 9 → length y ≤ (10000 - (i + 1)) * 9
few_left i {l} x y e h f =
    let both : length l ≡ length x + length y = rw e (length-append x y) in
    min_cases 9 (length l) _ (λ a q. omega (arith, both)) (λ a q. omega (arith, both))

pub at_end : {whole : Text} (i : ℕ) (answers l : List ℕ) {start now : Writer} → length l ≡ 0
    → Ahead whole (lines_from i l answers) start now → Added whole start now
at_end i answers l h a = at_last (rw (no_more l (omega arith), no_octets 9 0) at a)

-- answers beyond the records are not looked at
pub the_first : (k : ℕ) (rs : List (List ℕ)) (answers more : List ℕ) → length answers ≡ length rs → plan_lines k rs (answers ++ more) ≡ plan_lines k rs answers
the_first k [] answers more e = refl
the_first k (r ∷ rs) [] more e = absurd (omega arith)
the_first k (r ∷ rs) (a ∷ answers) more e =
    ap (λ (t : Text). answer_line (word_of (get_or r 0 0)) k a ++ t) (the_first (suc k) rs answers more (omega arith))

-- ---- lengths

either : (b : Bool) (x y : Text) → length x ≤ 6 → length y ≤ 6 → length (cond b x y) ≤ 6
either true x y p q = p
either false x y p q = q

word_length : (k : ℕ) → length (word_of k) ≤ 6
word_length k = either (eqb k 1) point_word _ (omega arith) (either (eqb k 2) return_word step_word (omega arith) (omega arith))

line_length : (first k answer : ℕ) → length (answer_line (word_of first) k answer) ≤ 19
line_length first k answer =
    let word : Text = word_of first in
    let short : length word ≤ 6 = word_length first in
    simp length-append (omega (arith, at_most 5 k, at_most 5 answer))

pub lines_length : (k : ℕ) (rs : List (List ℕ)) (answers : List ℕ) → length (plan_lines k rs answers) ≤ 19 * length rs
lines_length k [] answers = omega arith
lines_length k (r ∷ rs) answers =
    rw (length-append (answer_line (word_of (get_or r 0 0)) k (get_or answers 0 0)) (plan_lines (suc k) rs (drop 1 answers)))
    (omega (arith, line_length (get_or r 0 0) k (get_or answers 0 0), lines_length (suc k) rs (drop 1 answers)))
