-- What each check says of a file that no check refuses, and which check answers first.
use Prim.Native.Nat.{ℕ, ◌≤◌}
use mathlib.Core.Path.{◌≡◌, refl}
use mathlib.Core.List.{List}
use mathlib.Core.Bool.{Bool, true, false, ◌&&◌, and-eq-true_iff}
use native.Mathlib.Omega.{arith}
use lib.ListN.{length}
use lib.Dec.{leb}
use borrow.Author.Tests.{le-leb, leb-true}
use Rattle.marks.specs.Reach.{connected}
use Rattle.outlet.specs.declared.Party.{Party}
use Rattle.outlet.specs.declared.Party.TheVariants.{Buses, Workshop}
use Rattle.load.specs.Load.{cabinet_count, link_count, offsets_right, cabinets_right, links_right, rows_in, present, feeder_total, totals_right, refuse, load_refusal}

pub record Passed (f : List ℕ) : Type 0 where
  pub long : 10 ≤ length f
  pub least : 2 ≤ cabinet_count f
  pub most : cabinet_count f ≤ 8
  pub offsets : offsets_right f ≡ true
  pub cabinets : cabinets_right (cabinet_count f) f ≡ true
  pub links : links_right (link_count f) f ≡ true
  pub joined : connected (rows_in f) (present f) ≡ true
  pub total : (y : Party) → feeder_total f y ≤ 65535

-- an answer of 0 past a check: the check passed, and the next answer is 0
past : (b : Bool) (k next : ℕ) → (k ≡ 0 → ⊥) → refuse b k next ≡ 0 → (b ≡ true) × (next ≡ 0)
past true k next h e = (refl, e)
past false k next h e = absurd (h e)

pub passed : (f : List ℕ) → load_refusal f ≡ 0 → Passed f
passed f e =
    let p₁ = past (leb 10 (length f)) 1 _ (λ q. omega arith) e in
    let p₂ = past (leb 2 (cabinet_count f) && leb (cabinet_count f) 8) 2 _ (λ q. omega arith) p₁.1 in
    let p₃ = past (offsets_right f) 3 _ (λ q. omega arith) p₂.1 in
    let p₄ = past (cabinets_right (cabinet_count f) f) 4 _ (λ q. omega arith) p₃.1 in
    let p₅ = past (links_right (link_count f) f) 5 _ (λ q. omega arith) p₄.1 in
    let p₆ = past (connected (rows_in f) (present f)) 6 _ (λ q. omega arith) p₅.1 in
    let p₇ = past (totals_right f) 7 _ (λ q. omega arith) p₆.1 in
    let count = (and-eq-true_iff (leb 2 (cabinet_count f)) (leb (cabinet_count f) 8)).0 p₂.0 in
    record {
      long = leb-true 10 (length f) p₁.0;
      least = leb-true 2 (cabinet_count f) count.0;
      most = leb-true (cabinet_count f) 8 count.1;
      offsets = p₃.0;
      cabinets = p₄.0;
      links = p₅.0;
      joined = p₆.0;
      total = below p₇.0;
    }
  where
    below : totals_right f ≡ true → (y : Party) → feeder_total f y ≤ 65535
    below e Buses = leb-true (feeder_total f Buses) 65535 ((and-eq-true_iff (leb (feeder_total f Buses) 65535) (leb (feeder_total f Workshop) 65535)).0 e).0
    below e Workshop = leb-true (feeder_total f Workshop) 65535 ((and-eq-true_iff (leb (feeder_total f Buses) 65535) (leb (feeder_total f Workshop) 65535)).0 e).1

-- "where several apply, the first in the order written": a wrong offset gives 3, whatever cabinets and links are
pub third_first : (f : List ℕ) → 10 ≤ length f → leb 2 (cabinet_count f) && leb (cabinet_count f) 8 ≡ true → offsets_right f ≡ false → load_refusal f ≡ 3
third_first f long count wrong = rw (le-leb 10 (length f) long, count, wrong)
