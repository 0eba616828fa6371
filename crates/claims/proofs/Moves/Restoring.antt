-- A restored report: the cabinet is recovered and has heard its neighbours, and its coordinator notes it.
use Prim.Native.Nat.{ℕ}
use mathlib.Core.Path.{◌≡◌, refl, subst}
use mathlib.Core.Bool.{Bool, true}
use mathlib.Core.List.{List}
use Rattle.outlet.specs.declared.Party.{Party}
use Rattle.packet.specs.declared.Packet.{Packet}
use Rattle.state.specs.declared.State.TheVariants.{Recovered}
use Rattle.image.specs.declared.Image.{Image}
use Rattle.claims.proofs.State.View.{View, Own, Side, used}
use Rattle.claims.proofs.State.Methods.{s_marks}
use Rattle.claims.proofs.State.ViewMoves.{v_restored}
use Rattle.claims.proofs.Invariant.Facts.{Big, Mind, Wire, Ghost, Pair, Node, Books, aware}
use Rattle.claims.proofs.Invariant.Whole.{Inv, PairAt, aware_of}
use Rattle.claims.proofs.Invariant.Frame.{moved, minded, move_pairs, move_nodes, move_books, same_view, quiet_inv}
use Rattle.claims.proofs.Invariant.Marking.{mark_inv}

-- ---- the cabinet is ready

abbrev pub m_ready : Mind → Mind
m_ready m = record {
  tab = m.tab;
  joined = m.joined;
  done = m.done;
  wrote = m.wrote;
  told = m.told;
  ready = true;
  cut = m.cut;
  base = m.base;
  top = m.top;
  prev = m.prev;
}

abbrev pub g_ready : Ghost → ℕ → Ghost
g_ready γ a = minded γ γ.big a (m_ready (γ.mind a)) γ.wire

module _ (b : Big) (c d : ℕ) (o : Own) (m : Mind) (p : Own) (n : Mind) (s t : Side) (l : List Packet) (w : Wire) (h : Pair b c d o m p n s t l w) where
  ready_from : Pair b c d o (m_ready m) p n s t l w
  ready_from = search

  ready_to : (used t ≡ true → t.heard ≡ true) → Pair b c d o m p (m_ready n) s t l w
  ready_to e =
      let one : aware b o ≡ true → s.restored ≡ true → (m_ready n).ready ≡ true = λ a f. refl in
      let two : (m_ready n).ready ≡ true → used t ≡ true → t.heard ≡ true = λ f. e in
      search

ready_node : (b : Big) (c : ℕ) (o : Own) (m : Mind) (z : Bool → Image) → aware b o ≡ true → o.state ≡ Recovered → Node b c o m z → Node b c o (m_ready m) z
ready_node b c o m z a r h =
    let one : (m_ready m).ready ≡ true → (aware b o ≡ true) × (o.state ≡ Recovered) = λ e. (a, r) in search

module _ (n : ℕ) (total : Party → ℕ) (v : View) (γ : Ghost) (i : Inv n total v γ) (a : ℕ) (aw : aware_of v γ a ≡ true) (rec : (v.own a).state ≡ Recovered)
    (heard : (d : ℕ) → used (v.side a d) ≡ true → (v.side a d).heard ≡ true) where
  abbrev m' : Mind
  m' = m_ready (γ.mind a)

  ready_pairs : (k j : ℕ) → PairAt (moved v a (v.own a) (v.side a) v.lines v.slots) (g_ready γ a) k j
  ready_pairs =
      let h = i.core.pairs in
      move_pairs v γ γ.big a (v.own a) m' (v.side a) v.lines v.slots γ.wire (λ k j x y. refl) (λ k j x y. refl) (λ k j x y. h k j)
      (λ j x. ready_from _ _ _ _ _ _ _ _ _ _ _ (h a j))
      (ready_to _ _ _ _ _ _ _ _ _ _ _ (ready_from _ _ _ _ _ _ _ _ _ _ _ (h a a)) (heard a))
      (λ k x. ready_to _ _ _ _ _ _ _ _ _ _ _ (h k a) (heard k))

  pub ready_inv : Inv n total v (g_ready γ a)
  ready_inv =
      subst (λ (x : View). Inv n total x (g_ready γ a)) (same_view v a)
      (quiet_inv n total v γ i a (v.own a) m' (v.side a) v.lines v.slots γ.wire
      (refl, refl, refl, refl, refl, refl, refl) (refl, refl, refl, refl, refl, refl, refl) (λ i j. refl) (λ d. refl)
      ready_pairs
      (move_nodes v γ γ.big a (v.own a) m' (v.side a) v.lines v.slots γ.wire (λ j d. refl) (λ j d. i.core.nodes j)
      (ready_node _ _ _ _ _ aw rec (i.core.nodes a)))
      (move_books v γ γ.big a (v.own a) m' (v.side a) v.lines v.slots γ.wire (λ j. refl) (λ j. refl) (λ j n. i.core.books j) (ready_books (i.core.books a))))
    where
      ready_books : {x y : Party → ℕ} → Books γ.big (v.own a) (γ.mind a) x y → Books γ.big (v.own a) m' x y
      ready_books h = record { bounded = h.bounded; live = h.live; at_cut = h.at_cut }

-- ---- the coordinator notes it

abbrev s_restored : Side → Side
s_restored s = s_marks s s.come s.saved true s.heard s.unsure

module _ (b : Big) (c d : ℕ) (o : Own) (m : Mind) (p : Own) (n : Mind) (s t : Side) (l : List Packet) (w : Wire) (h : Pair b c d o m p n s t l w) where
  mark_from : n.ready ≡ true → Pair b c d o m p n (s_restored s) t l w
  mark_from r =
      let one : aware b o ≡ true → (s_restored s).restored ≡ true → n.ready ≡ true = λ a f. r in search

  mark_to : Pair b c d o m p n s (s_restored t) l w
  mark_to = search

pub marked_inv : (n : ℕ) (total : Party → ℕ) (v : View) (γ : Ghost) → Inv n total v γ → (k a : ℕ) → (γ.mind a).ready ≡ true → Inv n total (v_restored v k a) γ
marked_inv n total v γ i k a ready =
    mark_inv n total v γ i k a (s_restored (v.side k a)) refl (λ t p. mark_from _ _ _ _ _ _ _ _ _ _ _ p ready) (λ s p. mark_to _ _ _ _ _ _ _ _ _ _ _ p)
