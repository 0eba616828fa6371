-- What stands at a number's place among eight, read and stored by the number: past the eighth there is nothing, and nothing is stored.
use Prim.Native.Nat.{ℕ, zero, suc, ◌<◌, ◌%◌}
use mathlib.Core.Path.{◌≡◌, refl, sym, ap, ◌∙◌}
use mathlib.Core.Bool.{Bool, true, false, cond}
use mathlib.Core.List.{List, []}
use lib.Dec.{ltb}
use lib.ListN.{length, get_or, set, get_or-eq_default}
use lib.Seq.{set_out, set-get_or}
use native.Mathlib.Omega.{arith}
use borrow.Author.Tests.{ltb-true, ltb-false}
use Rattle.line.specs.declared.Line.{Line}
use Rattle.line.specs.Line.{empty_line}
use Rattle.marks.proofs.Lists.{get_d_in}
use Rattle.cabinet.specs.declared.Cabinet.{Cabinet}
use Rattle.cabinet.specs.Cabinet.{absent}
use Rattle.outgoing.specs.declared.Outgoing.{Outgoing}
use Rattle.outgoing.specs.Lines.{empty_lines, line_to, with_line_to}
use Rattle.seat.proofs.Same.{line_to_same}
use Rattle.seat.specs.Seat.{there, kept, line_there, line_kept}

-- ---- any eight

read_by : {A : Type 0} (l : List A) (i : ℕ) (x d : A) (below : Bool) → length l ≡ 8 → ltb i 8 ≡ below → cond below (get_or l (i % 8) x) d ≡ get_or l i d
read_by l i x d true h e =
    let b : i < 8 = ltb-true i 8 e in
    let same : i % 8 ≡ i = omega arith in
    rw same (get_d_in l i x d (omega arith))
read_by l i x d false h e =
    let b = ltb-false i 8 e in
    sym (get_or-eq_default l d {n = i} (omega arith))

store_by : {A : Type 0} (l : List A) (i : ℕ) (x y : A) (below : Bool) → length l ≡ 8 → ltb i 8 ≡ below
    → set l (i % 8) (cond below y (get_or l (i % 8) x)) ≡ set l i y
store_by l i x y true h e =
    let b : i < 8 = ltb-true i 8 e in
    let same : i % 8 ≡ i = omega arith in
    rw same
store_by l i x y false h e =
    let b = ltb-false i 8 e in
    set-get_or l (i % 8) x ∙ sym (set_out l i y (omega arith))

-- ---- cabinets

pub cabinet_there : (cs : List Cabinet) (i : ℕ) (x : Cabinet) → length cs ≡ 8 → there i (get_or cs (i % 8) x) ≡ get_or cs i absent
cabinet_there cs i x h = read_by cs i x absent (ltb i 8) h refl

pub cabinet_kept : (cs : List Cabinet) (i : ℕ) (x c : Cabinet) → length cs ≡ 8 → set cs (i % 8) (kept i c (get_or cs (i % 8) x)) ≡ set cs i c
cabinet_kept cs i x c h = store_by cs i x c (ltb i 8) h refl

-- ---- lines

none_there : (j : ℕ) → line_to empty_lines j ≡ empty_line
unfolding empty_lines line_to
none_there zero = refl
none_there (suc zero) = refl
none_there (suc (suc zero)) = refl
none_there (suc (suc (suc zero))) = refl
none_there (suc (suc (suc (suc zero)))) = refl
none_there (suc (suc (suc (suc (suc zero))))) = refl
none_there (suc (suc (suc (suc (suc (suc zero)))))) = refl
none_there (suc (suc (suc (suc (suc (suc (suc zero))))))) = refl
none_there (suc (suc (suc (suc (suc (suc (suc (suc j)))))))) = refl

line_by : (os : List Outgoing) (i j : ℕ) (x : Outgoing) (below : Bool) → length os ≡ 8 → ltb i 8 ≡ below
    → cond below (line_to (get_or os (i % 8) x) j) empty_line ≡ line_to (get_or os i empty_lines) j
line_by os i j x true h e =
    let b : i < 8 = ltb-true i 8 e in
    let same : i % 8 ≡ i = omega arith in
    rw (same, get_d_in os i x empty_lines (omega arith))
line_by os i j x false h e =
    let b = ltb-false i 8 e in
    rw (get_or-eq_default os empty_lines {n = i} (omega arith)) (sym (none_there j))

pub line_there_lem : (os : List Outgoing) (i j : ℕ) (x : Outgoing) → length os ≡ 8
    → line_there i (line_to (get_or os (i % 8) x) j) ≡ line_to (get_or os i empty_lines) j
line_there_lem os i j x h = line_by os i j x (ltb i 8) h refl

kept_by : (os : List Outgoing) (i j : ℕ) (x : Outgoing) (l : Line) (below : Bool) → length os ≡ 8 → ltb i 8 ≡ below
    → set os (i % 8) (with_line_to (get_or os (i % 8) x) j (cond below l (line_to (get_or os (i % 8) x) j)))
    ≡ set os i (with_line_to (get_or os i empty_lines) j l)
kept_by os i j x l true h e =
    let b : i < 8 = ltb-true i 8 e in
    let same : i % 8 ≡ i = omega arith in
    rw (same, get_d_in os i x empty_lines (omega arith))
kept_by os i j x l false h e =
    let b = ltb-false i 8 e in
    ap (set os (i % 8)) (line_to_same (get_or os (i % 8) x) j) ∙ set-get_or os (i % 8) x ∙ sym (set_out os i (with_line_to (get_or os i empty_lines) j l) (omega arith))

pub line_kept_lem : (os : List Outgoing) (i j : ℕ) (x : Outgoing) (l : Line) → length os ≡ 8
    → set os (i % 8) (with_line_to (get_or os (i % 8) x) j (line_kept i l (line_to (get_or os (i % 8) x) j)))
    ≡ set os i (with_line_to (get_or os i empty_lines) j l)
line_kept_lem os i j x l h = kept_by os i j x l (ltb i 8) h refl
