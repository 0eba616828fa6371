-- Kind 2, note: an octet of the notes changes, and no fact of the invariant reads it.
use Prim.Native.Nat.{ℕ, ◌*◌, ◌<◌, ◌≤◌}
use mathlib.Core.Path.{◌≡◌, refl, sym, ap, ◌∙◌, subst}
use mathlib.Core.Bool.{Bool, true, ◌&&◌}
use mathlib.Core.List.{List}
use lib.Dec.{leb}
use borrow.Author.Tests.{leb-true}
use Rattle.outlet.specs.declared.Party.{Party}
use Rattle.packet.specs.declared.Packet.{Packet}
use Rattle.state.specs.declared.State.TheVariants.{Normal, Recovering, Recovered}
use Rattle.image.specs.declared.Image.{Image}
use Rattle.state.specs.State.{is_in}
use Rattle.image.specs.Image.{booked, first_note, with_octet}
use Rattle.image.proofs.Laws.{booked_noted}
use Rattle.cabinet.specs.Cabinet.{with_image}
use Rattle.group.specs.declared.Group.{Group}
use Rattle.group.specs.Group.{cabinet, with_cabinet, state_of}
use Rattle.protocol.specs.Kinds.{note_refusal}
use Rattle.protocol.specs.History.{History, note_cuts}
use Rattle.claims.proofs.State.Fun.{never, and_true, kept_at}
use Rattle.claims.proofs.State.Every.{passed}
use Rattle.claims.proofs.State.View.{View, Own, Side, view}
use Rattle.claims.proofs.State.Sim.{Fit, view_cabinet}
use Rattle.claims.proofs.State.ViewMoves.{o_image}
use Rattle.claims.proofs.Answers.Tests.{in_state}
use Rattle.claims.proofs.Invariant.Facts.{Big, Mind, Wire, Ghost, Pair, Node, Books, SameTo, aware, unaware}
use Rattle.claims.proofs.Invariant.Whole.{Inv, PairAt, BooksAt}
use Rattle.claims.proofs.Invariant.Staying.{no_fault_lem}
use Rattle.claims.proofs.Invariant.Past.{Past, Kept, past_still, calm_stays}
use Rattle.claims.proofs.Invariant.Words.{un_of}
use Rattle.claims.proofs.Invariant.Frame.{same_ghost, moved, minded, move_pairs, move_nodes, move_books, quiet_inv}

-- another image is no matter to any pair
module _ (b : Big) (c d : ℕ) (o : Own) (m : Mind) (p : Own) (n : Mind) (s t : Side) (l : List Packet) (w : Wire) (h : Pair b c d o m p n s t l w) where
  pub image_from : (x : Image) → Pair b c d (o_image o x) m p n s t l w
  image_from x = search

  pub image_to : (x : Image) → Pair b c d o m (o_image p x) n s t l w
  image_to x = search

-- ---- the cabinet in normal

module _ (b : Big) (c : ℕ) (o : Own) (m : Mind) (z : Bool → Image) (h : Node b c o m z) (un : unaware b o ≡ true) (normal : o.state ≡ Normal) where
  no_aware : {A : Type 0} → aware b o ≡ true → A
  no_aware e = absurd (never (rw normal at (and_true {s = b.faulted} e).1) refl)

  no_done : {A : Type 0} → m.done ≡ true → A
  no_done e = absurd (never (h.done_joined e) (h.in_normal un normal))

  pub image_node : (x : Image) → Node b c (o_image o x) m z
  image_node x =
      let ir : aware b o ≡ true → o.state ≡ Recovering → (o.pieces < 4) × SameTo (8 * o.pieces) x m.top = no_aware in
      let re : aware b o ≡ true → o.state ≡ Recovered → (x ≡ m.top) × (b.adopted ≡ true) = no_aware in
      let cu : b.alive ≡ true → m.done ≡ true → unaware b o ≡ true → x ≡ m.cut = λ a. no_done in
      search

pub image_books : (b : Big) (o : Own) (m : Mind) (out got : Party → ℕ) (x : Image) → ((y : Party) → booked y x ≡ booked y o.image) → Books b o m out got → Books b (o_image o x) m out got
image_books b o m out got x e h = record { bounded = h.bounded; live = λ u y. ((h.live u y).0, rw (e y) (h.live u y).1); at_cut = h.at_cut }

-- ---- together

abbrev noted : View → ℕ → Image → View
noted v c x = moved v c (o_image (v.own c) x) (v.side c) v.lines v.slots

module _ (n : ℕ) (total : Party → ℕ) (v : View) (γ : Ghost) (c : ℕ) (x : Image) (i : Inv n total v γ) (un : unaware γ.big (v.own c) ≡ true)
    (normal : (v.own c).state ≡ Normal) (same : (y : Party) → booked y x ≡ booked y (v.own c).image) where
  abbrev o' : Own
  o' = o_image (v.own c) x

  abbrev γ' : Ghost
  γ' = minded γ γ.big c (γ.mind c) γ.wire

  noted_pairs : (k j : ℕ) → PairAt (noted v c x) γ' k j
  noted_pairs =
      let h = i.core.pairs in
      move_pairs v γ γ.big c o' (γ.mind c) (v.side c) v.lines v.slots γ.wire (λ k j n d. refl) (λ k j n d. refl) (λ k j n d. h k j)
      (λ j n. image_from _ _ _ _ _ _ _ _ _ _ _ (h c j) x)
      (image_to _ _ _ _ _ _ _ _ _ _ _ (image_from _ _ _ _ _ _ _ _ _ _ _ (h c c) x) x)
      (λ k n. image_to _ _ _ _ _ _ _ _ _ _ _ (h k c) x)

  noted_books : (k : ℕ) → BooksAt (noted v c x) γ' k
  noted_books k = move_books v γ γ.big c o' (γ.mind c) (v.side c) v.lines v.slots γ.wire (λ j. refl) (λ j. refl)
      (λ j n. i.core.books j) (image_books _ _ _ _ _ x same (i.core.books c)) k

  pub noted_inv : Inv n total (noted v c x) γ'
  noted_inv = quiet_inv n total v γ i c o' (γ.mind c) (v.side c) v.lines v.slots γ.wire
      (refl, refl, refl, refl, refl, refl, refl) (refl, refl, refl, refl, refl, refl, refl) (λ i j. refl) (λ d. refl)
      noted_pairs
      (move_nodes v γ γ.big c o' (γ.mind c) (v.side c) v.lines v.slots γ.wire (λ j d. refl) (λ j d. i.core.nodes j)
      (image_node _ _ _ _ _ (i.core.nodes c) un normal x))
      noted_books

-- ---- the step

module _ (total : Party → ℕ) (g : Group) (h : History) (γ : Ghost) (w : Fit g) (i : Inv g.n total (view g) γ) (past : Past g.n (view g) γ h)
    (a p q : ℕ) (la : a < 8) (fine : note_refusal g a p q ≡ 0) where
  normal : state_of g a ≡ Normal
  normal = (in_state (state_of g a) Normal).0 (passed (is_in (state_of g a) Normal) 13 _ fine).0

  beyond : first_note ≤ p
  beyond =
      leb-true first_note p (and_true {s = leb first_note p} (passed (leb first_note p && (leb p 31 && leb q 255)) 14 0 (passed (is_in (state_of g a) Normal) 13 _ fine).1).0).0

  -- a cabinet in normal knows of no fault
  calm : unaware γ.big ((view g).own a) ≡ true
  calm = un_of γ.big ((view g).own a) (rw normal) (rw normal)

  abbrev g' : Group
  g' = with_cabinet g a (with_image (cabinet g a) (with_octet (cabinet g a).image p q))

  seen : view g' ≡ noted (view g) a (with_octet (cabinet g a).image p q)
  seen = view_cabinet g w.frame a _ la

  state_kept : (c : ℕ) → ((view g').own c).state ≡ ((view g).own c).state
  state_kept c = ap (λ (x : View). (x.own c).state) seen ∙ kept_at (λ (x : Own). x.state) (view g).own a _ refl c

  pub keeps_note : Kept total g γ g' (note_cuts h g g')
  keeps_note = record {
    ghost = γ;
    inv = subst (λ (x : View). Inv g.n total x γ) (sym seen)
        (subst (λ (δ : Ghost). Inv g.n total (noted (view g) a (with_octet (cabinet g a).image p q)) δ) (same_ghost γ a)
        (noted_inv g.n total (view g) γ a (with_octet (cabinet g a).image p q) i calm normal (λ y. booked_noted y (cabinet g a).image p q beyond)));
    past = past_still g g' state_kept past;
    stays = calm_stays i (view g') γ a _ _ (ap (λ (u : View). u.own) seen) (ap (λ (u : View). u.side) seen) calm (rw normal) no_fault_lem;
  }
