-- A line's cells as the list of its packets: putting, taking off, replacing, losing.
use Prim.Native.Nat.{ℕ, zero, suc, ◌<◌}
use mathlib.Core.Path.{◌≡◌, refl, sym, ap, ◌∙◌}
use mathlib.Core.Bool.{Bool, true, false, cond, false≢true}
use mathlib.Core.List.{List, [], ◌∷◌, ◌++◌, nil≢cons}
use lib.ListN.{length, get_or, set, take, drop, length-append}
use native.Mathlib.Omega.{arith}
use Rattle.packet.specs.declared.Packet.{Packet}
use Rattle.packet.specs.declared.Packet.TheVariants.{Empty, Normal as NormalPacket, Checkp, Resume, Recover, Fault, Invalid}
use Rattle.line.specs.declared.Cell.{Cell}
use Rattle.packet.specs.Packet.{is_empty}
use Rattle.line.specs.Line.{empty_cell, rest_cells, put_cells, without_cells}
use Rattle.claims.proofs.State.Fun.{cond_elim}
use Rattle.claims.proofs.State.View.{packet_of, content}

-- ---- empty and full cells

pub empty_is : (p : Packet) → is_empty p ≡ true → p ≡ Empty
empty_is Empty e = refl
empty_is (NormalPacket p) e = absurd (false≢true e)
empty_is (Checkp v) e = absurd (false≢true e)
empty_is Resume e = absurd (false≢true e)
empty_is (Recover v) e = absurd (false≢true e)
empty_is (Fault p) e = absurd (false≢true e)
empty_is Invalid e = absurd (false≢true e)

pub full_is : (p : Packet) (l : List Packet) → is_empty p ≡ false → packet_of p l ≡ p ∷ l
full_is Empty l e = absurd (false≢true (sym e))
full_is (NormalPacket p) l e = refl
full_is (Checkp v) l e = refl
full_is Resume l e = refl
full_is (Recover v) l e = refl
full_is (Fault p) l e = refl
full_is Invalid l e = refl

-- after the first empty cell all are empty
unfoldable pub Packed : List Cell → Type 0
Packed [] = Unit {0}
Packed (c ∷ cs) = (is_empty c.packet ≡ true → content cs ≡ []) × Packed cs

-- ---- put

pub content_put : (p : Packet) → is_empty p ≡ false → (cs : List Cell) → length (content cs) < length cs → Packed cs
    → content (put_cells cs p) ≡ content cs ++ (p ∷ [])
unfolding content Packed
content_put p f [] h k = absurd (omega arith)
content_put p f (c ∷ cs) h k = go (content_put p f cs) (is_empty c.packet) refl
  where
    go : (length (content cs) < length cs → Packed cs → content (put_cells cs p) ≡ content cs ++ (p ∷ [])) → (t : Bool) → is_empty c.packet ≡ t
        → content (cond t (record { packet = p } ∷ cs) (c ∷ put_cells cs p)) ≡ packet_of c.packet (content cs) ++ (p ∷ [])
    go ih true e = rw (full_is p (content cs) f, empty_is c.packet e, k.0 e)
    go ih false e =
        let l : length (content cs) < length cs = omega (arith, ap length (full_is c.packet (content cs) e)) in
        rw (full_is c.packet (content (put_cells cs p)) e, full_is c.packet (content cs) e)
        (ap (λ (r : List Packet). c.packet ∷ r) (ih l k.1))

pub packed_put : (p : Packet) (cs : List Cell) → Packed cs → Packed (put_cells cs p)
unfolding content Packed
packed_put p [] k = k
packed_put p (c ∷ cs) k = go (packed_put p cs k.1) (is_empty c.packet) refl
  where
    go : Packed (put_cells cs p) → (t : Bool) → is_empty c.packet ≡ t → Packed (cond t (record { packet = p } ∷ cs) (c ∷ put_cells cs p))
    go ih true e = ((λ _. k.0 e), k.1)
    go ih false e = ((λ x. absurd (false≢true (sym e ∙ x))), ih)

pub length_put : (p : Packet) (cs : List Cell) → length (put_cells cs p) ≡ length cs
length_put p [] = refl
length_put p (c ∷ cs) =
    cond_elim (λ (x : List Cell). length x ≡ suc (length cs)) (is_empty c.packet) (λ _. refl) (λ _. ap suc (length_put p cs))

-- ---- take off

content_pad : (cs : List Cell) → content (cs ++ (empty_cell ∷ [])) ≡ content cs
unfolding content
content_pad [] = refl
content_pad (c ∷ cs) = ap (packet_of c.packet) (content_pad cs)

packed_pad : (cs : List Cell) → Packed cs → Packed (cs ++ (empty_cell ∷ []))
unfolding content Packed
packed_pad [] k = ((λ _. refl), tt)
packed_pad (c ∷ cs) k = ((λ e. content_pad cs ∙ k.0 e), packed_pad cs k.1)

pub length_rest : (cs : List Cell) → length (rest_cells cs) ≡ length cs
length_rest [] = refl
length_rest (c ∷ cs) = omega (arith, length-append cs (empty_cell ∷ []))

pub packed_rest : (cs : List Cell) → Packed cs → Packed (rest_cells cs)
unfolding Packed
packed_rest [] k = k
packed_rest (c ∷ cs) k = packed_pad cs k.1

-- the oldest packet stands in front of the others
pub content_oldest : (cs : List Cell) → is_empty (get_or cs 0 empty_cell).packet ≡ false
    → content cs ≡ (get_or cs 0 empty_cell).packet ∷ content (rest_cells cs)
unfolding content
content_oldest [] e = absurd (false≢true (sym e))
content_oldest (c ∷ cs) e = rw (content_pad cs) (full_is c.packet (content cs) e)

-- ---- replace at a place that is taken

tail_nil : (p : Packet) (l : List Packet) → packet_of p l ≡ [] → l ≡ []
tail_nil Empty l e = e
tail_nil (NormalPacket p) l e = absurd (nil≢cons (sym e))
tail_nil (Checkp v) l e = absurd (nil≢cons (sym e))
tail_nil Resume l e = absurd (nil≢cons (sym e))
tail_nil (Recover v) l e = absurd (nil≢cons (sym e))
tail_nil (Fault p) l e = absurd (nil≢cons (sym e))
tail_nil Invalid l e = absurd (nil≢cons (sym e))

pub nothing_there : (cs : List Cell) (j : ℕ) → content cs ≡ [] → is_empty (get_or cs j empty_cell).packet ≡ false → ⊥
unfolding content
nothing_there [] j z q = false≢true (sym q)
nothing_there (c ∷ cs) zero z q = nil≢cons (sym z ∙ full_is c.packet (content cs) q)
nothing_there (c ∷ cs) (suc j) z q = nothing_there cs j (tail_nil c.packet (content cs) z) q

-- the packets with another one at a place, and the packet that stood there
abbrev Replaced : List Cell → ℕ → Packet → Type 0
Replaced cs k p =
    (content (set cs k (record { packet = p })) ≡ set (content cs) k p) × (get_or (content cs) k Empty ≡ (get_or cs k empty_cell).packet)

pub content_set : (cs : List Cell) (k : ℕ) (p : Packet) → is_empty p ≡ false → is_empty (get_or cs k empty_cell).packet ≡ false → Packed cs
    → Replaced cs k p
unfolding content Packed
content_set [] k p f e h = absurd (false≢true (sym e))
content_set (c ∷ cs) zero p f e h =
    (rw (full_is p (content cs) f, full_is c.packet (content cs) e), rw (full_is c.packet (content cs) e))
content_set (c ∷ cs) (suc k) p f e h = go (content_set cs k p f e h.1) (is_empty c.packet) refl
  where
    go : Replaced cs k p → (t : Bool) → is_empty c.packet ≡ t
        → (packet_of c.packet (content (set cs k (record { packet = p }))) ≡ set (packet_of c.packet (content cs)) (suc k) p)
        × (get_or (packet_of c.packet (content cs)) (suc k) Empty ≡ (get_or cs k empty_cell).packet)
    go ih true t = absurd (nothing_there cs k (h.0 t) e)
    go ih false t = (
      rw (full_is c.packet (content (set cs k (record { packet = p }))) t, full_is c.packet (content cs) t)
          (ap (λ (r : List Packet). c.packet ∷ r) ih.0),
      rw (full_is c.packet (content cs) t) ih.1,
    )

pub packed_set : (cs : List Cell) (k : ℕ) (p : Packet) → is_empty p ≡ false → is_empty (get_or cs k empty_cell).packet ≡ false → Packed cs
    → Packed (set cs k (record { packet = p }))
unfolding content Packed
packed_set [] k p f e h = h
packed_set (c ∷ cs) zero p f e h = ((λ x. absurd (false≢true (sym f ∙ x))), h.1)
packed_set (c ∷ cs) (suc k) p f e h = ((λ x. absurd (nothing_there cs k (h.0 x) e)), packed_set cs k p f e h.1)

-- ---- without the packet at a place that holds one

-- the packets without the one at a place
abbrev Without : List Cell → ℕ → Type 0
Without cs k = content (without_cells cs k) ≡ take k (content cs) ++ drop (suc k) (content cs)

pub content_without : (cs : List Cell) (k : ℕ) → is_empty (get_or cs k empty_cell).packet ≡ false → Packed cs → Without cs k
unfolding content Packed
content_without [] k e h = absurd (false≢true (sym e))
content_without (c ∷ cs) zero e h = rw (full_is c.packet (content cs) e) (content_pad cs)
content_without (c ∷ cs) (suc k) e h = go (content_without cs k e h.1) (is_empty c.packet) refl
  where
    go : Without cs k → (t : Bool) → is_empty c.packet ≡ t
        → packet_of c.packet (content (without_cells cs k)) ≡ take (suc k) (packet_of c.packet (content cs)) ++ drop (suc (suc k)) (packet_of c.packet (content cs))
    go ih true t = absurd (nothing_there cs k (h.0 t) e)
    go ih false t =
        rw (full_is c.packet (content (without_cells cs k)) t, full_is c.packet (content cs) t) (ap (λ (r : List Packet). c.packet ∷ r) ih)

pub length_without : (cs : List Cell) (k : ℕ) → length (without_cells cs k) ≡ length cs
length_without [] k = refl
length_without (c ∷ cs) zero = omega (arith, length-append cs (empty_cell ∷ []))
length_without (c ∷ cs) (suc k) = ap suc (length_without cs k)

-- a line with no packets has none after a loss
content_still : (cs : List Cell) (k : ℕ) → content cs ≡ [] → content (without_cells cs k) ≡ []
unfolding content
content_still [] k e = refl
content_still (c ∷ cs) zero e = content_pad cs ∙ tail_nil c.packet (content cs) e
content_still (c ∷ cs) (suc k) e =
    rw (content_still cs k (tail_nil c.packet (content cs) e)) (sym (ap (packet_of c.packet) (tail_nil c.packet (content cs) e)) ∙ e)

pub packed_without : (cs : List Cell) (k : ℕ) → Packed cs → Packed (without_cells cs k)
unfolding Packed
packed_without [] k h = h
packed_without (c ∷ cs) zero h = packed_pad cs h.1
packed_without (c ∷ cs) (suc k) h = ((λ e. content_still cs k (h.0 e)), packed_without cs k h.1)
