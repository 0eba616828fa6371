-- What a cabinet's share of the store tells and changes is what the store does: its home, its slots, and a piece put into them.
use Prim.Native.Nat.{ℕ, zero, suc}
use mathlib.Core.Path.{◌≡◌, refl, sym, ◌∙◌, ap}
use mathlib.Core.Bool.{Bool, true, false, cond}
use mathlib.Core.List.{List, [], ◌∷◌}
use lib.ListN.{get_or, set}
use lib.Seq.{set-get_or}
use lib.Dec.{eqb}
use borrow.Author.Tests.{eq-eqb}
use Rattle.image.specs.declared.Image.{Image}
use Rattle.store.specs.declared.Slots.{Slots}
use Rattle.store.specs.declared.Share.{Share}
use Rattle.store.specs.declared.Store.{Store}
use Rattle.store.specs.Store.{blank_slots, slot_in, with_firsts, with_seconds, file_home, partner, is_present, home_in, first_of, second_of, copy_at, with_copy_at, slot_at, piece_at, put_piece}
use Rattle.store.specs.Share.{share, with_share, serves_in, slot_in_share, with_piece_in, piece_to, put_piece_in}

-- ---- what is read

pub share_home : (s : Store) (c : ℕ) → serves_in (share s c) ≡ home_in s c
unfolding share home_in
share_home s c = refl

read_one : (t : Bool) (x y : Slots) (v : Bool) → cond t (slot_in x v) (slot_in y v) ≡ slot_in (cond t x y) v
read_one true x y v = refl
read_one false x y v = refl

pub share_slot : (s : Store) (h c : ℕ) (v : Bool) → slot_in_share (share s c) h v ≡ slot_at s h c v
unfolding share slot_at copy_at
share_slot s h c v = read_one (eqb h (file_home s c)) (first_of s c) (second_of s c) v

-- ---- what is written

both : (s : Store) {a b x y : List Slots} → a ≡ b → x ≡ y → with_seconds (with_firsts s a) x ≡ with_seconds (with_firsts s b) y
both s {b = b} {x = x} p q = ap (λ (l : List Slots). with_seconds (with_firsts s l) x) p ∙ ap (with_seconds (with_firsts s b)) q

pub share_same : (s : Store) (c : ℕ) → with_share s c (share s c) ≡ s
unfolding share with_share
share_same s c = both s (set-get_or s.firsts c blank_slots) (set-get_or s.seconds c blank_slots)

-- a piece at one store, as a piece in the share
at_one : (s : Store) (c : ℕ) (v : Bool) (k : ℕ) (m : Image) (t p : Bool)
    → cond p (cond t (with_firsts s (set s.firsts c (with_piece_in (cond t (first_of s c) (second_of s c)) v k m))) (with_seconds s (set s.seconds c (with_piece_in (cond t (first_of s c) (second_of s c)) v k m)))) s
    ≡ with_share s c (piece_to (share s c) t p v k m)
unfolding share with_share piece_to
at_one s c v k m t false = sym (share_same s c)
at_one s c v k m true true = both s refl (sym (set-get_or s.seconds c blank_slots))
at_one s c v k m false true = both s (sym (set-get_or s.firsts c blank_slots)) refl

piece_one : (s : Store) (h c : ℕ) (v : Bool) (k : ℕ) (m : Image)
    → piece_at s h c v k m ≡ with_share s c (piece_to (share s c) (eqb h (file_home s c)) (is_present s h) v k m)
unfolding piece_at with_copy_at copy_at slot_at
piece_one s h c v k m = at_one s c v k m (eqb h (file_home s c)) (is_present s h)

-- what is stored over a place read back is stored there at once
again : (f : Slots → Slots) (l : List Slots) (c : ℕ) (x d : Slots) → set (set l c x) c (f (get_or (set l c x) c d)) ≡ set l c (f x)
again f [] c x d = refl
again f (y ∷ l) zero x d = refl
again f (y ∷ l) (suc c) x d = ap (λ (r : List Slots). y ∷ r) (again f l c x d)

piece_two : (s : Store) (c : ℕ) (x : Share) (v : Bool) (k : ℕ) (m : Image) (t p : Bool)
    → with_share (with_share s c x) c (piece_to (share (with_share s c x) c) t p v k m) ≡ with_share s c (piece_to x t p v k m)
unfolding share with_share piece_to
piece_two s c x v k m t false = share_same (with_share s c x) c
piece_two s c x v k m true true = both s
    (again (λ y. with_piece_in y v k m) s.firsts c x.first blank_slots)
    (set-get_or (set s.seconds c x.second) c blank_slots)
piece_two s c x v k m false true = both s
    (set-get_or (set s.firsts c x.first) c blank_slots)
    (again (λ y. with_piece_in y v k m) s.seconds c x.second blank_slots)

pub share_put : (s : Store) (c : ℕ) (v : Bool) (k : ℕ) (m : Image) → with_share s c (put_piece_in (share s c) v k m) ≡ put_piece s c v k m
unfolding share with_share put_piece_in put_piece
share_put s c v k m =
    let h = file_home s c in
    let x = piece_to (share s c) true (is_present s h) v k m in
    let e : piece_at s h c v k m ≡ with_share s c x = piece_one s h c v k m ∙ ap (λ (t : Bool). with_share s c (piece_to (share s c) t (is_present s h) v k m)) (eq-eqb h h refl) in
    sym (ap (λ (z : Store). piece_at z (partner s h) c v k m) e
    ∙ (piece_one (with_share s c x) (partner s h) c v k m
    ∙ piece_two s c x v k m (eqb (partner s h) h) (is_present s (partner s h))))
