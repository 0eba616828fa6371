-- How long a row is: at most 3,263 octets.
use Prim.Native.Nat.{ℕ, zero, suc, ◌+◌, ◌*◌, ◌≤◌}
use mathlib.Core.Path.{◌≡◌, refl, ap, ◌∙◌}
use mathlib.Core.List.{List, ◌++◌}
use native.Mathlib.Nat.{mul-le-mul_right}
use native.Mathlib.Omega.{arith}
use lib.ListN.{length, length-append}
use Rattle.group.specs.declared.Group.{Group}
use Rattle.group.specs.Group.{cabinet, home}
use Rattle.protocol.specs.Word.{Told}
use Rattle.protocol.specs.Word.{which_word}
use Rattle.newest.specs.declared.Sort.{Sort}
use Rattle.events.specs.Fates.{fate_in, ended_in}
use Rattle.events.specs.Deeds.{deeds}
use Rattle.layout.specs.Layout.{cabinet_octets, lines_from}
use Rattle.layout.proofs.Lengths.{cabinet_length, lines_length}
use Rattle.rows.specs.Rows.{head_octets, cabinets_to, row_octets}

head_length : (answer fate : ℕ) (t : Told) (ended number : ℕ) → length (head_octets answer fate t ended number) ≡ 7
unfolding head_octets
head_length answer fate t ended number = refl

cabinets_length : (i : ℕ) (g g' : Group) → length (cabinets_to i g g') ≤ 15 * i
cabinets_length zero g g' = omega arith
cabinets_length (suc i) g g' =
    rw (length-append (cabinets_to i g g') (cabinet_octets (cabinet g' i) (home g' i) (deeds (cabinet g i) (cabinet g' i) i)))
    (omega (arith, cabinets_length i g g', cabinet_length (cabinet g' i) (home g' i) (deeds (cabinet g i) (cabinet g' i) i)))

few_lines : (n : ℕ) → n ≤ 8 → n * n ≤ 64
few_lines n h = omega (arith, mul-le-mul_right n h)

three : (a b c : List ℕ) → length (a ++ b ++ c) ≡ length a + length b + length c
three a b c = rw (length-append (a ++ b) c, length-append a b)

opened : (answer : ℕ) (g g' : Group) (s : Sort) (number : ℕ)
    → row_octets answer g g' s number
    ≡ head_octets answer (fate_in answer g s) (which_word g') (ended_in answer g g' s) number ++ cabinets_to g'.n g g' ++ lines_from g'.n g'.n g'
unfolding row_octets
opened answer g g' s number = refl

pub row_length : (answer : ℕ) (g g' : Group) (s : Sort) (number : ℕ) → g'.n ≤ 8 → length (row_octets answer g g' s number) ≤ 3263
row_length answer g g' s number h =
    let parts = ap length (opened answer g g' s number)
    ∙ three (head_octets answer (fate_in answer g s) (which_word g') (ended_in answer g g' s) number) (cabinets_to g'.n g g') (lines_from g'.n g'.n g') in
    omega (arith, parts, head_length answer (fate_in answer g s) (which_word g') (ended_in answer g g' s) number, cabinets_length g'.n g g', lines_length g'.n g', few_lines g'.n h)
