-- An image moved in pieces: after piece k the first 8 × (k + 1) octets are those of the image that it comes from.
use Prim.Native.Nat.{ℕ, zero, suc, ◌+◌, ◌*◌, ◌<◌, ◌≤◌}
use mathlib.Core.Path.{◌≡◌, refl, sym, ◌∙◌}
use mathlib.Core.List.{List, [], ◌∷◌}
use lib.ListN.{length, get_or, length-set}
use lib.Seq.{get_or-set_same, get_or-set_other}
use native.Mathlib.Omega.{arith}
use native.Mathlib.Decide.{ℕ_discrete}
use Rattle.image.specs.declared.Image.{Image}
use Rattle.image.specs.Image.{piece_to, with_piece}
use Rattle.claims.proofs.State.Shape.{Pictured}
use Rattle.claims.proofs.Invariant.Facts.{SameTo}

piece_length : (n k : ℕ) (from to : Image) → length (piece_to n k from to).octets ≡ length to.octets
piece_length zero k from to = refl
piece_length (suc n) k from to = length-set (piece_to n k from to).octets (k * 8 + n) _ ∙ piece_length n k from to

piece_to_lem : (n k : ℕ) (from to : Image) → k * 8 + n ≤ length to.octets → SameTo (k * 8) to from → SameTo (k * 8 + n) (piece_to n k from to) from
piece_to_lem zero k from to l e i h = e i (omega arith)
piece_to_lem (suc n) k from to l e i h = elim (ℕ_discrete i (k * 8 + n)) [
  | yes q ↦ rw q (get_or-set_same (piece_to n k from to).octets (k * 8 + n) _ 0 (omega (arith, piece_length n k from to)))
  | no d ↦ get_or-set_other (piece_to n k from to).octets (k * 8 + n) i _ 0 d ∙ piece_to_lem n k from to (omega arith) e i (omega arith)
]

-- one piece more
pub piece_more : (k : ℕ) (from to : Image) → Pictured to → k < 4 → SameTo (8 * k) to from → SameTo (8 * (k + 1)) (with_piece k from to) from
piece_more k from to p l e i h = piece_to_lem 8 k from to (omega (arith, p.octets)) (λ j q. e j (omega arith)) i (omega arith)

lists_same : (l m : List ℕ) → length l ≡ length m → ((i : ℕ) → i < length l → get_or l i 0 ≡ get_or m i 0) → l ≡ m
lists_same [] [] n e = refl
lists_same [] (y ∷ m) n e = absurd (omega arith)
lists_same (x ∷ l) [] n e = absurd (omega arith)
lists_same (x ∷ l) (y ∷ m) n e =
    let head : x ≡ y = e 0 (omega arith) in
    let tail : l ≡ m = lists_same l m (omega arith) (λ i h. e (suc i) (omega arith)) in
    λ t. head t ∷ tail t

-- all four pieces: the image itself
pub all_pieces : (x y : Image) → Pictured x → Pictured y → SameTo 32 x y → x ≡ y
all_pieces x y p q e =
    let o : x.octets ≡ y.octets = lists_same x.octets y.octets (p.octets ∙ sym q.octets) (λ i h. e i (omega (arith, p.octets))) in
    λ t. record { octets = o t }
