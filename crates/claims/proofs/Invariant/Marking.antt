-- A mark that one cabinet holds of another is set or taken away: what a move owes that changes one side of one cabinet alone.
use Prim.Native.Nat.{ℕ}
use mathlib.Core.Path.{◌≡◌, refl, sym, ap, ◌∙◌, subst}
use mathlib.Core.Option.{some}
use Rattle.outlet.specs.declared.Party.{Party}
use Rattle.image.specs.declared.Image.{Image}
use Rattle.image.specs.Image.{booked}
use Rattle.protocol.specs.History.{History, latest, newest, upd}
use Rattle.claims.proofs.State.Fun.{upd_elim, kept_at, upd_case}
use Rattle.claims.proofs.State.View.{View, Side, used, set_cabinet}
use Rattle.claims.proofs.Invariant.Facts.{Mind, Ghost, Pair}
use Rattle.claims.proofs.Invariant.Whole.{Inv, PairAt}
use Rattle.claims.proofs.Invariant.Past.{Past, HeldIn}
use Rattle.claims.proofs.Invariant.Frame.{same_ghost, moved, minded, move_pairs, move_nodes, move_books, quiet_inv}

-- the pairs in which cabinet h's side towards a is read, from h and to h
module _ (n : ℕ) (total : Party → ℕ) (v : View) (γ : Ghost) (i : Inv n total v γ) (h a : ℕ) (f : Side) (uses : used f ≡ used (v.side h a))
    (from : (t : Side) → Pair γ.big h a (v.own h) (γ.mind h) (v.own a) (γ.mind a) (v.side h a) t (v.lines h a) (γ.wire h a)
    → Pair γ.big h a (v.own h) (γ.mind h) (v.own a) (γ.mind a) f t (v.lines h a) (γ.wire h a))
    (to : (s : Side) → Pair γ.big a h (v.own a) (γ.mind a) (v.own h) (γ.mind h) s (v.side h a) (v.lines a h) (γ.wire a h)
    → Pair γ.big a h (v.own a) (γ.mind a) (v.own h) (γ.mind h) s f (v.lines a h) (γ.wire a h)) where
  abbrev s' : ℕ → Side
  s' = upd (v.side h) a f

  self : Pair γ.big h h (v.own h) (γ.mind h) (v.own h) (γ.mind h) (s' h) (s' h) (v.lines h h) (γ.wire h h)
  self =
      upd_elim (λ (x : Side). Pair γ.big h h (v.own h) (γ.mind h) (v.own h) (γ.mind h) x x (v.lines h h) (γ.wire h h)) (v.side h) a f h
      (λ e. let there = rw (sym e) at from in let back = rw (sym e) at to in back f (there (v.side h h) (i.core.pairs h h)))
      (λ d. i.core.pairs h h)

  mark_pairs : (k j : ℕ) → PairAt (moved v h (v.own h) s' v.lines v.slots) (minded γ γ.big h (γ.mind h) γ.wire) k j
  mark_pairs =
      let p = i.core.pairs in
      move_pairs v γ γ.big h (v.own h) (γ.mind h) s' v.lines v.slots γ.wire (λ k j n d. refl) (λ k j n d. refl) (λ k j n d. p k j)
      (λ j n. upd_case (λ (j : ℕ) (x : Side). Pair γ.big h j (v.own h) (γ.mind h) (v.own j) (γ.mind j) x (v.side j h) (v.lines h j) (γ.wire h j))
      (v.side h) a f (from (v.side a h) (p h a)) (λ j d. p h j) j)
      self
      (λ k n. upd_case (λ (k : ℕ) (x : Side). Pair γ.big k h (v.own k) (γ.mind k) (v.own h) (γ.mind h) (v.side k h) x (v.lines k h) (γ.wire k h))
      (v.side h) a f (to (v.side a h) (p a h)) (λ j d. p j h) k)

  uses_at : (j : ℕ) → used (s' j) ≡ used (v.side h j)
  uses_at = upd_case (λ (j : ℕ) (x : Side). used x ≡ used (v.side h j)) (v.side h) a f uses (λ j d. refl)

  pub mark_inv : Inv n total (set_cabinet v h (v.own h) s') γ
  mark_inv =
      subst (λ (δ : Ghost). Inv n total (set_cabinet v h (v.own h) s') δ) (same_ghost γ h)
      (quiet_inv n total v γ i h (v.own h) (γ.mind h) s' v.lines v.slots γ.wire
      (refl, refl, refl, refl, refl, refl, refl) (refl, refl, refl, refl, refl, refl, refl) (λ i j. refl) uses_at
      mark_pairs
      (move_nodes v γ γ.big h (v.own h) (γ.mind h) s' v.lines v.slots γ.wire (λ j d. refl) (λ j d. i.core.nodes j) (i.core.nodes h))
      (move_books v γ γ.big h (v.own h) (γ.mind h) s' v.lines v.slots γ.wire (λ j. refl) (λ j. refl) (λ j n. i.core.books j) (i.core.books h)))

-- the history, where a cabinet's ghost changes in nothing that the history is compared with
module _ (n : ℕ) (v : View) (γ : Ghost) (h : History) (p : Past n v γ h) (a : ℕ) (m : Mind) (tab : m.tab ≡ (γ.mind a).tab) (joined : m.joined ≡ (γ.mind a).joined) (done : m.done ≡ (γ.mind a).done)
    (cut : m.cut ≡ (γ.mind a).cut) (top : m.top ≡ (γ.mind a).top) (prev : m.prev ≡ (γ.mind a).prev) where
  abbrev δ : Ghost
  δ = minded γ γ.big a m γ.wire

  tab_at : (c : ℕ) → (δ.mind c).tab ≡ (γ.mind c).tab
  tab_at = kept_at (λ (x : Mind). x.tab) γ.mind a m tab

  top_at : (c : ℕ) → (δ.mind c).top ≡ (γ.mind c).top
  top_at = kept_at (λ (x : Mind). x.top) γ.mind a m top

  pub past_mind : Past n v δ h
  past_mind = record {
    sent = p.sent;
    taken = p.taken;
    damaged = p.damaged;
    hurt = p.hurt;
    cuts = λ e c f.
        let x = p.cuts e c (sym (kept_at (λ (x : Mind). x.done) γ.mind a m done c) ∙ f) in
        (x.0, x.1, x.2 ∙ sym (kept_at (λ (x : Mind). x.cut) γ.mind a m cut c), x.3, x.4);
    no_cut = λ e f c t. p.no_cut e f c (sym (tab_at c) ∙ t);
    known = p.known;
    tops = λ c l. subst (λ (x : Image). HeldIn (h.lost c) ((latest h).cut c) x) (sym (top_at c)) (p.tops c l);
    balanced = p.balanced;
    present = λ c t. p.present c (sym (tab_at c) ∙ t);
    gone = λ c l t. p.gone c l (sym (tab_at c) ∙ t) ∙ ap some (sym (top_at c));
    beyond = λ y c l. ap (booked y) (top_at c) ∙ p.beyond y c l;
    below = λ e.
        let x = p.below e in (
          x.0,
          x.1,
          x.2,
          x.3,
          x.4,
          (λ c l. subst (λ (y : Image). HeldIn (h.lost c) ((newest x.1 h.start).cut c) y) (sym (kept_at (λ (x : Mind). x.prev) γ.mind a m prev c)) (x.5 c l)),
          x.6,
        );
    begun = p.begun;
    waits = λ c s j. p.waits c s (sym (kept_at (λ (x : Mind). x.joined) γ.mind a m joined c) ∙ j);
  }
