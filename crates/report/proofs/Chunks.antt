-- Texts that are written a part at a time, and the records of a list as its chunks.
use Rattle.std.proofs.Common.{◌≡◌, ℕ, zero, suc, ◌*◌, ◌-◌, ◌<◌, ◌≤◌, List, [], ◌∷◌, ◌++◌, length, take, drop, min, refl, ap, ◌∙◌, arith, length-drop}
use mathlib.Core.List.{append_assoc, append-nil}
use native.Mathlib.Nat.{mul-le-mul_right}
use native.Mathlib.Omega.{min_cases}
use Rattle.buffer.specs.declared.Writer.{Writer}
use Rattle.buffer.specs.Added.{Added}
use Rattle.buffer.proofs.Texts.{nothing, and_then}
use Rattle.protocol.specs.Listing.{parts}
use Rattle.steps.proofs.Records.{some_part, enough}

-- ---- of a whole text all but what is left was written

pub record Ahead (whole left : List ℕ) (start now : Writer) : Type 0 where
  pub done : List ℕ
  pub written : Added done start now
  pub all : done ++ left ≡ whole

pub at_first : (whole : List ℕ) (start : Writer) → Ahead whole whole start start
at_first whole start = record {
  done = [];
  written = record { written = nothing start.end start.out.now; same_buffer = refl };
  all = refl;
}

pub one_on : {whole left left' text : List ℕ} {start now next : Writer} → Ahead whole left start now → left ≡ text ++ left' → Added text now next
    → Ahead whole left' start next
one_on {left' = left'} {text = text} a e w = record {
  done = a.done ++ text;
  written = and_then a.written w;
  all = append_assoc a.done text left' ∙ rw (← e) a.all;
}

pub at_last : {whole : List ℕ} {start now : Writer} → Ahead whole [] start now → Added whole start now
at_last a = rw (← a.all, append-nil) a.written

-- ---- a chunk of a list is the first record of what is left, and the other records are those of the rest

at_seam : (w : ℕ) (x y : List ℕ) → length x ≡ min w (length (x ++ y)) → (take w (x ++ y) ≡ x) × (drop w (x ++ y) ≡ y)
at_seam zero [] y h = (refl, refl)
at_seam zero (a ∷ x) y h = absurd (min_cases 0 (length ((a ∷ x) ++ y)) _ (λ l q. omega arith) (λ l q. omega arith))
at_seam (suc w) [] [] h = (refl, refl)
at_seam (suc w) [] (b ∷ y) h = absurd (min_cases (suc w) (length (b ∷ y)) _ (λ l q. omega arith) (λ l q. omega arith))
at_seam (suc w) (a ∷ x) y h =
    let n : ℕ = length (x ++ y) in
    let one_less : length x ≡ min w n =
    min_cases (suc w) (suc n) _
    (λ l q. min_cases w n _ (λ l' q'. omega arith) (λ l' q'. omega arith))
    (λ l q. min_cases w n _ (λ l' q'. omega arith) (λ l' q'. omega arith)) in
    let rest = at_seam w x y one_less in
    (ap (λ (t : List ℕ). a ∷ t) rest.0, rest.1)

first_record : (w : ℕ) (l : List ℕ) → 0 < w → 0 < length l → parts w (length l) l ≡ take w l ∷ parts w (length (drop w l)) (drop w l)
first_record w [] p h = absurd (omega arith)
first_record w (a ∷ l) p h =
    let s : List ℕ = a ∷ l in
    let rest : List ℕ = drop w s in
    let room : 1 * length l ≤ w * length l = mul-le-mul_right (length l) p in
    let own : 1 * length rest ≤ w * length rest = mul-le-mul_right (length rest) p in
    some_part w (length l) s h
    ∙ ap (λ (r : List (List ℕ)). take w s ∷ r) (enough w (length l) (length rest) rest (omega (arith, length-drop w s)) (omega arith))

pub its_records : (w : ℕ) {l x : List ℕ} (y : List ℕ) → 0 < w → l ≡ x ++ y → length x ≡ min w (length l) → 0 < length l
    → parts w (length l) l ≡ x ∷ parts w (length y) y
its_records w {l} {x} y p e h s =
    let seam = at_seam w x y (rw e at h) in
    first_record w l p s ∙ rw (e, seam.0, seam.1)
