-- Texts written one after the other.
use Rattle.std.proofs.Common.{◌≡◌, ℕ, suc, ◌+◌, ◌^◌, ◌<◌, ◌≤◌, List, [], ◌∷◌, ◌++◌, length, take, set, sym, refl, ap, ◌∙◌, add-zero, arith, length-set}
use lib.Seq.{sets, sets-eq, take-append_seam}
use Rattle.buffer.specs.Written.{Written, next, place_after, stored_from}
use Rattle.buffer.specs.declared.Writer.{Writer}
use Rattle.buffer.specs.Added.{Added}

place_append : (at : ℕ) (a b : List ℕ) → place_after (place_after at a) b ≡ place_after at (a ++ b)
place_append at [] b = refl
place_append at (x ∷ a) b = place_append (next at) a b

stored_append : (at : ℕ) (a b l : List ℕ) → stored_from (place_after at a) b (stored_from at a l) ≡ stored_from at (a ++ b) l
stored_append at [] b l = refl
stored_append at (x ∷ a) b l = stored_append (next at) a b (set l at x)

pub then : {a d b c f : List ℕ} {at m e : ℕ} → Written a at b m c → Written d m c e f → Written (a ++ d) at b e f
then {a} {d} {b} {c} {f} {at} {m} {e} v w = record {
  ends = w.ends ∙ rw v.ends (place_append at a d);
  stored = w.stored ∙ rw (v.ends, v.stored) (stored_append at a d b);
  kept = w.kept ∙ v.kept;
}

pub nothing : (at : ℕ) (b : List ℕ) → Written [] at b at b
nothing at b = record { ends = refl; stored = refl; kept = refl }

-- one octet
pub octet : {b c : List ℕ} {at x end : ℕ} → end ≡ next at → c ≡ set b at x → Written (x ∷ []) at b end c
octet {b} {c} {at} {x} n e = record { ends = n; stored = e; kept = ap length e ∙ length-set b at x }

-- ---- where no place starts again at 0

one_on : (at : ℕ) (n : ℕ) → at + suc n < 2 ^ 64 → next at ≡ suc at
one_on at n h = omega arith

pub place_added : (at : ℕ) (text : List ℕ) → at + length text < 2 ^ 64 → place_after at text ≡ at + length text
place_added at [] h = sym (add-zero at)
place_added at (x ∷ text) h = rw (one_on at (length text) h) (place_added (suc at) text (omega arith) ∙ omega arith)

pub stored_sets : (at : ℕ) (text l : List ℕ) → at + length text < 2 ^ 64 → stored_from at text l ≡ sets l at text
stored_sets at [] l h = refl
stored_sets at (x ∷ text) l h = rw (one_on at (length text) h) (stored_sets (suc at) text (set l at x) (omega arith))

-- a whole text stands at the buffer's start
pub at_start : (whole before : List ℕ) → length whole ≤ length before → take (length whole) (sets before 0 whole) ≡ whole
at_start whole before h = rw (sets-eq whole before 0 (omega arith)) (take-append_seam whole _)

-- one text after another, by the same writer
pub and_then : {a d : List ℕ} {x y z : Writer} → Added a x y → Added d y z → Added (a ++ d) x z
and_then v w = record {
  written = then v.written w.written;
  same_buffer = w.same_buffer ∙ v.same_buffer;
}
