-- Kind 6, saved, without the commit: a home's report on cabinet a goes to the coordinator, and is told.
use Prim.Native.Nat.{ℕ, ◌<◌}
use mathlib.Core.Path.{◌≡◌, refl, sym, ap, ◌∙◌, subst}
use mathlib.Core.Bool.{Bool, true, false, false≢true}
use mathlib.Core.List.{List}
use Rattle.outlet.specs.declared.Party.{Party}
use Rattle.packet.specs.declared.Packet.{Packet}
use Rattle.state.specs.declared.State.TheVariants.{CheckpBegin}
use Rattle.image.specs.declared.Image.{Image}
use Rattle.state.specs.State.{is_in, in_saving}
use Rattle.cabinet.specs.Cabinet.{owing}
use Rattle.group.specs.declared.Group.{Group}
use Rattle.group.specs.Group.{cabinet}
use Rattle.protocol.specs.Kinds.{report_saved}
use Rattle.claims.proofs.State.Fun.{never, is_false, upd_elim, upd_same, kept_at}
use Rattle.claims.proofs.State.Every.{with_cabinet_lem}
use Rattle.claims.proofs.State.View.{View, Own, Side, view}
use Rattle.claims.proofs.State.Shape.{Shaped, Lined, Pictured, shaped}
use Rattle.claims.proofs.State.Sim.{Fit}
use Rattle.claims.proofs.State.Methods.{s_marks}
use Rattle.claims.proofs.State.ViewMoves.{v_owe, v_saved, sim_owe, sim_saved}
use Rattle.claims.proofs.Invariant.States.{apart}
use Rattle.claims.proofs.Invariant.Facts.{Big, Mind, Wire, Ghost, Pair, Node, Books, unaware}
use Rattle.claims.proofs.Invariant.Whole.{Inv, PairAt}
use Rattle.claims.proofs.Invariant.Frame.{moved, minded, move_pairs, move_nodes, move_books, same_view, quiet_inv}
use Rattle.claims.proofs.Invariant.Marking.{mark_inv}
use Rattle.claims.proofs.Moves.Writing.{owe_inv}

abbrev pub m_told : Mind → Mind
m_told m = record { tab = m.tab; joined = m.joined; done = m.done; wrote = m.wrote; told = true; ready = m.ready; cut = m.cut; base = m.base; top = m.top; prev = m.prev }

abbrev pub g_told : Ghost → ℕ → Ghost
g_told γ a = minded γ γ.big a (m_told (γ.mind a)) γ.wire

-- ---- the report is told

module _ (b : Big) (c d : ℕ) (o : Own) (m : Mind) (p : Own) (n : Mind) (s t : Side) (l : List Packet) (w : Wire) (h : Pair b c d o m p n s t l w) where
  pub told_from : Pair b c d o (m_told m) p n s t l w
  told_from = search

  pub told_to : n.wrote ≡ true → s.owed ≡ false → Pair b c d o m p (m_told n) s t l w
  told_to wrote bare =
      let ow : s.owed ≡ true → (n.wrote ≡ true) × (◌≡◌ {A = Bool} true false) × (unaware b o ≡ true) = λ e. absurd (never e bare) in
      let re : c ≡ b.chief → in_saving o.state ≡ true → unaware b o ≡ true → s.saved ≡ true → (n.wrote ≡ true) × (◌≡◌ {A = Bool} true true) = λ e f u g. (wrote, refl) in
      search

told_node : (b : Big) (c : ℕ) (o : Own) (m : Mind) (z : Bool → Image) → m.wrote ≡ true → Node b c o m z → Node b c o (m_told m) z
told_node b c o m z wrote h = let tw : ◌≡◌ {A = Bool} true true → m.wrote ≡ true = λ e. wrote in search

told_books : (b : Big) (o : Own) (m : Mind) (out got : Party → ℕ) → Books b o m out got → Books b o (m_told m) out got
told_books b o m out got h = record { bounded = h.bounded; live = h.live; at_cut = h.at_cut }

module _ (n : ℕ) (total : Party → ℕ) (v : View) (γ : Ghost) (i : Inv n total v γ) (a : ℕ) (wrote : (γ.mind a).wrote ≡ true) (bare : (c : ℕ) → (v.side c a).owed ≡ false) where
  abbrev m' : Mind
  m' = m_told (γ.mind a)

  told_pairs : (k j : ℕ) → PairAt (moved v a (v.own a) (v.side a) v.lines v.slots) (g_told γ a) k j
  told_pairs =
      let h = i.core.pairs in
      move_pairs v γ γ.big a (v.own a) m' (v.side a) v.lines v.slots γ.wire (λ k j n d. refl) (λ k j n d. refl) (λ k j n d. h k j)
      (λ j n. told_from _ _ _ _ _ _ _ _ _ _ _ (h a j))
      (told_to _ _ _ _ _ _ _ _ _ _ _ (told_from _ _ _ _ _ _ _ _ _ _ _ (h a a)) wrote (bare a))
      (λ k n. told_to _ _ _ _ _ _ _ _ _ _ _ (h k a) wrote (bare k))

  pub told_inv : Inv n total v (g_told γ a)
  told_inv =
      subst (λ (x : View). Inv n total x (g_told γ a)) (same_view v a)
      (quiet_inv n total v γ i a (v.own a) m' (v.side a) v.lines v.slots γ.wire
      (refl, refl, refl, refl, refl, refl, refl) (refl, refl, refl, refl, refl, refl, refl) (λ i j. refl) (λ d. refl)
      told_pairs
      (move_nodes v γ γ.big a (v.own a) m' (v.side a) v.lines v.slots γ.wire (λ j d. refl) (λ j d. i.core.nodes j)
      (told_node _ _ _ _ _ wrote (i.core.nodes a)))
      (move_books v γ γ.big a (v.own a) m' (v.side a) v.lines v.slots γ.wire (λ j. refl) (λ j. refl) (λ j n. i.core.books j)
      (told_books _ _ _ _ _ (i.core.books a))))

-- ---- the coordinator's mark

abbrev s_saved : Side → Side
s_saved s = s_marks s s.come true s.restored s.heard s.unsure

module _ (b : Big) (c d : ℕ) (o : Own) (m : Mind) (p : Own) (n : Mind) (s t : Side) (l : List Packet) (w : Wire) (h : Pair b c d o m p n s t l w) where
  saved_from : n.wrote ≡ true → n.told ≡ true → in_saving o.state ≡ true → Pair b c d o m p n (s_saved s) t l w
  saved_from wrote told saves =
      let re : c ≡ b.chief → in_saving o.state ≡ true → unaware b o ≡ true → ◌≡◌ {A = Bool} true true → (n.wrote ≡ true) × (n.told ≡ true) = λ e f u g. (wrote, told) in
      let be : c ≡ b.chief → is_in o.state CheckpBegin ≡ true → unaware b o ≡ true → ◌≡◌ {A = Bool} true false = λ e f u. absurd (never f (apart (λ x. in_saving x) o.state CheckpBegin saves refl)) in
      search

  saved_to : Pair b c d o m p n s (s_saved t) l w
  saved_to = search

pub saved_inv : (n : ℕ) (total : Party → ℕ) (v : View) (γ : Ghost) → Inv n total v γ → (k a : ℕ) → (γ.mind a).wrote ≡ true → (γ.mind a).told ≡ true → in_saving (v.own k).state ≡ true
    → Inv n total (v_saved v k a) γ
saved_inv n total v γ i k a wrote told saves =
    mark_inv n total v γ i k a (s_saved (v.side k a)) refl (λ t p. saved_from _ _ _ _ _ _ _ _ _ _ _ p wrote told saves) (λ s p. saved_to _ _ _ _ _ _ _ _ _ _ _ p)

-- ---- together

abbrev pub v_reported : View → ℕ → ℕ → ℕ → View
v_reported v a h k = v_saved (v_owe v h a false) k a

module _ (n : ℕ) (total : Party → ℕ) (v : View) (γ : Ghost) (i : Inv n total v γ) (a h k : ℕ) (owed : (v.side h a).owed ≡ true) (saves : in_saving (v.own k).state ≡ true) where
  abbrev v1 : View
  v1 = v_owe v h a false

  bare : (c : ℕ) → (v1.side c a).owed ≡ false
  bare c =
      upd_elim (λ (f : ℕ → Side). (f a).owed ≡ false) v.side h _ c
      (λ e. ap (λ (x : Side). x.owed) (upd_same (v.side h) a _))
      (λ d. is_false (v.side c a).owed (λ e. d (sym ((i.core.pairs c a).owes_home e) ∙ (i.core.pairs h a).owes_home owed)))

  report_wrote : (γ.mind a).wrote ≡ true
  report_wrote = ((i.core.pairs h a).owes owed).0

  told_here : ((g_told γ a).mind a).told ≡ true
  told_here = ap (λ (x : Mind). x.told) (upd_same γ.mind a (m_told (γ.mind a)))

  pub report_inv : Inv n total (v_reported v a h k) (g_told γ a)
  report_inv =
      saved_inv n total v1 (g_told γ a)
      (told_inv n total v1 γ (owe_inv n total v γ i h a false (λ e. absurd (false≢true e)) (λ e. absurd (false≢true e))) a report_wrote bare) k a
      (ap (λ (x : Mind). x.wrote) (upd_same γ.mind a (m_told (γ.mind a))) ∙ report_wrote) told_here
      (ap in_saving (kept_at (λ (x : Own). x.state) v.own h (v.own h) refl k) ∙ saves)

pub sim_report : (g : Group) → Fit g → (a h k : ℕ) → a < 8 → h < 8 → k < 8 → view (report_saved g a h k) ≡ v_reported (view g) a h k
unfolding report_saved
sim_report g w a h k la lh lk =
    sim_saved _ (with_cabinet_lem Shaped Lined Pictured shaped g h _ (shaped.owing (cabinet g h) a false (w.cabs h)) w) k a lk la
    ∙ ap (λ (x : View). v_saved x k a) (sim_owe g w h a false lh la)
