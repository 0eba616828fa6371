-- The listing needs no more of its files than the first 65,536 octets of the group file and the first 60,000 of the steps.
use Prim.Native.Nat.{ℕ, ◌+◌, ◌≤◌, ◌<◌}
use mathlib.Core.Path.{◌≡◌, refl, sym, ap, ◌∙◌}
use mathlib.Core.Bool.{Bool, true, false, ◌&&◌, and-false}
use mathlib.Core.List.{List}
use native.Mathlib.Omega.{arith, min_cases}
use lib.Dec.{leb, eqb}
use lib.ListN.{length, get_or, take}
use lib.Seq.{take_all, length-take-le, get_or-take}
use borrow.Author.Tests.{le-leb, eqb-true}
use Rattle.group.specs.Group.{answering}
use Rattle.load.specs.Load.{number, cabinet_count, total_length, offsets_right, refuse, no_group, load_with, load}
use Rattle.protocol.specs.Listing.{listing}
use Rattle.steps.proofs.Records.{first_parts}

-- ---- the group file: where it is longer than its header can say, the header alone decides the refusal

not_both : (x y : Bool) → (x ≡ true → y ≡ true → ⊥) → (x && y) ≡ false
not_both true true h = absurd (h refl refl)
not_both true false h = refl
not_both false y h = refl

length_wrong : (f : List ℕ) → number f 8 ≤ 65535 → 65535 < length f → offsets_right f ≡ false
length_wrong f m l =
    rw
    (not_both (eqb (number f 8) (total_length f)) (eqb (total_length f) (length f)) (λ p q. omega (arith, eqb-true (number f 8) (total_length f) p, eqb-true (total_length f) (length f) q)), and-false, and-false, and-false)

abbrev count_right : List ℕ → Bool
count_right f = leb 2 (cabinet_count f) && leb (cabinet_count f) 8

by_header : (long counts offsets : Bool) (next : ℕ) → long ≡ true → offsets ≡ false
    → refuse long 1 (refuse counts 2 (refuse offsets 3 next)) ≡ refuse counts 2 3
by_header long counts offsets next e h = rw (e, h)

no_group_lem : (f : List ℕ) (counts : Bool) → load_with f (refuse counts 2 3) ≡ answering (refuse counts 2 3) no_group
no_group_lem f true = refl
no_group_lem f false = refl

long_load : (f : List ℕ) → number f 8 ≤ 65535 → 65535 < length f → load f ≡ answering (refuse (count_right f) 2 3) no_group
unfolding load
long_load f m l =
    ap (load_with f) (by_header (leb 10 (length f)) (count_right f) (offsets_right f) _ (le-leb 10 (length f) (omega arith)) (length_wrong f m l))
    ∙ no_group_lem f (count_right f)

same_number : (f : List ℕ) (i : ℕ) → i < 9 → number (take 65536 f) i ≡ number f i
same_number f i h = rw (get_or-take 65536 f i 0 (omega arith), get_or-take 65536 f (i + 1) 0 (omega arith))

pub same_load : (f : List ℕ) → number f 8 ≤ 65535 → load (take 65536 f) ≡ load f
same_load f m =
    min_cases 65536 (length f) _
    (λ l q.
    let t : List ℕ = take 65536 f in
    let n : length t ≡ 65536 = length-take-le 65536 f l in
    let same : cabinet_count t ≡ cabinet_count f = same_number f 0 (omega arith) in
    let small : number t 8 ≤ 65535 = omega (arith, same_number f 8 (omega arith)) in
    long_load t small (omega arith) ∙ rw same (sym (long_load f m (omega arith))))
    (λ l q. ap load (take_all 65536 f l))

-- ---- the listing, for a group file of octets

pub enough : (file steps : List ℕ) → ((i : ℕ) → get_or file i 0 < 256) → listing (take 65536 file) (take 60000 steps) ≡ listing file steps
unfolding listing
enough file steps o = rw (same_load file (omega (arith, o 8, o 9)), first_parts 6 10000 steps (omega arith))
