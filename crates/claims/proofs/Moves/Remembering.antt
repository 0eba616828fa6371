-- Where a recovery ends the failed cabinet's version takes the note of the slot that has its image: nothing else changes, and no fact reads
-- the version of a cabinet that has failed since the last recovery's end.
use Rattle.std.specs.Prelude.{Some}
use Prim.Native.Nat.{ℕ, ◌<◌}
use mathlib.Core.Path.{◌≡◌, refl, sym, ap, ◌∙◌, subst}
use mathlib.Core.Logic.{inl, inr, ⊎_elim}
use mathlib.Core.Bool.{Bool, true, false, not, false≢true}
use mathlib.Core.List.{List}
use native.Mathlib.Omega.{arith}
use borrow.Author.Tests.{eqb-true}
use Rattle.outlet.specs.declared.Party.{Party}
use Rattle.packet.specs.declared.Place.{Place}
use Rattle.packet.specs.declared.Place.TheVariants.{Failed as AtFailed}
use Rattle.packet.specs.declared.Packet.{Packet}
use Rattle.state.specs.declared.Version.{Version}
use Rattle.cabinet.specs.Alarm.{Alarm}
use Rattle.image.specs.declared.Image.{Image}
use Rattle.state.specs.State.{works, in_recovery, is_unknown}
use Rattle.group.specs.declared.Group.{Group}
use Rattle.group.specs.Group.{cabinet}
use Rattle.protocol.specs.History.{upd}
use Rattle.protocol.specs.Moves.{note_at, note_for, note_lost}
use Rattle.claims.proofs.State.Fun.{never, and_true, upd_same, upd_other, kept_at}
use Rattle.claims.proofs.State.View.{View, Own, Side, view}
use Rattle.claims.proofs.State.Sim.{Fit}
use Rattle.claims.proofs.State.Methods.{hits_cabinet}
use Rattle.claims.proofs.State.ViewMoves.{o_version, sim_version}
use Rattle.claims.proofs.Invariant.States.{failed_state}
use Rattle.claims.proofs.Invariant.Facts.{Big, Mind, Wire, Ghost, Pair, Node, Lead, Alarms, aware, unaware}
use Rattle.claims.proofs.Invariant.Whole.{Place-of, failed, tripped, faulty, Inv, PairAt, NodeAt, BooksAt, work_of, aware_of, alarm_of, calm_of, known_of, GroundOf, PlacesOf, ChainOf}
use Rattle.claims.proofs.Invariant.Frame.{moved, same_ghost, move_pairs, move_nodes, move_books, move_leads, move_ground, move_places, move_meets}

-- ---- a cabinet that has failed since the last recovery's end

module _ (b : Big) (o : Own) (gone : works o.state ≡ false) where
  not_aware : {A : Type 0} → aware b o ≡ true → A
  not_aware e = absurd (never (and_true {s = b.faulted} e).1 (ap in_recovery (failed_state o.state gone)))

  not_calm : {A : Type 0} → unaware b o ≡ true → A
  not_calm e = absurd (never (and_true {s = works o.state} e).0 gone)

module _ (b : Big) (c d : ℕ) (o : Own) (m : Mind) (p : Own) (n : Mind) (s t : Side) (l : List Packet) (w : Wire) (h : Pair b c d o m p n s t l w) (y : Version) where
  version_from : works o.state ≡ false → Pair b c d (o_version o y) m p n s t l w
  version_from gone =
      let al : aware b o ≡ true → (q : Place) → o.alarm ≡ Some q → Alarms y q l = not_aware b o gone in
      search

  version_to : Pair b c d o m (o_version p y) n s t l w
  version_to = search

version_node : (b : Big) (c : ℕ) (o : Own) (m : Mind) (z : Bool → Image) (y : Version) → works o.state ≡ false → m.tab ≡ true → Node b c o m z
    → Node b c (o_version o y) m z
version_node b c o m z y gone tab h = record {
  placed = h.placed;
  present = h.present;
  running = h.running;
  quiet = h.quiet;
  place_known = h.place_known;
  in_normal = h.in_normal;
  in_begin = h.in_begin;
  in_checkpointing = h.in_checkpointing;
  in_checkpointed = h.in_checkpointed;
  chief_saved = h.chief_saved;
  in_recovered = h.in_recovered;
  in_error = h.in_error;
  in_recovering = h.in_recovering;
  restored = h.restored;
  ready_is = h.ready_is;
  told_wrote = h.told_wrote;
  wrote_done = h.wrote_done;
  done_joined = h.done_joined;
  joined_tab = h.joined_tab;
  joined_begun = h.joined_begun;
  chief_begun = h.chief_begun;
  known = λ e. absurd (never e gone);
  unknown_at = not_calm b o gone;
  unknown_aware = not_aware b o gone;
  old_joined = λ e. absurd (never e gone);
  old_before = λ e. absurd (never e gone);
  knows = not_aware b o gone;
  waits = h.waits;
  cut_image = h.cut_image;
  gone = h.gone;
  slot_top = h.slot_top;
  slot_prev = h.slot_prev;
  slot_cut = h.slot_cut;
  slot_pieces = h.slot_pieces;
  noted = λ e. absurd (never tab e);
  sizes = h.sizes;
}

module _ (n : ℕ) (total : Party → ℕ) (v : View) (γ : Ghost) (i : Inv n total v γ) (x : ℕ) (y : Version) (gone : work_of v x ≡ false) (tab : (γ.mind x).tab ≡ true) where
  abbrev o' : Own
  o' = o_version (v.own x) y

  abbrev v' : View
  v' = moved v x o' (v.side x) v.lines v.slots

  version_pairs : (c d : ℕ) → PairAt v' γ c d
  version_pairs c d =
      let h = i.core.pairs in
      subst (λ (δ : Ghost). PairAt v' δ c d) (same_ghost γ x)
      (move_pairs v γ γ.big x o' (γ.mind x) (v.side x) v.lines v.slots γ.wire (λ k j a e. refl) (λ k j a e. refl) (λ k j a e. h k j)
      (λ j a. version_from _ _ _ _ _ _ _ _ _ _ _ (h x j) y gone)
      (version_to _ _ _ _ _ _ _ _ _ _ _ (version_from _ _ _ _ _ _ _ _ _ _ _ (h x x) y gone) y)
      (λ j a. version_to _ _ _ _ _ _ _ _ _ _ _ (h j x) y) c d)

  version_nodes : (c : ℕ) → NodeAt v' γ c
  version_nodes c =
      subst (λ (δ : Ghost). NodeAt v' δ c) (same_ghost γ x)
      (move_nodes v γ γ.big x o' (γ.mind x) (v.side x) v.lines v.slots γ.wire (λ j a. refl) (λ j a. i.core.nodes j)
      (version_node _ _ _ _ _ y gone tab (i.core.nodes x)) c)

  version_books : (c : ℕ) → BooksAt v' γ c
  version_books c =
      let k = i.core.books x in
      subst (λ (δ : Ghost). BooksAt v' δ c) (same_ghost γ x)
      (move_books v γ γ.big x o' (γ.mind x) (v.side x) v.lines v.slots γ.wire (λ j. refl) (λ j. refl) (λ j a. i.core.books j)
      (record { bounded = k.bounded; live = k.live; at_cut = k.at_cut }) c)

  same_at : {A : Type 0} (f : Own → A) → f o' ≡ f (v.own x) → (c : ℕ) → f (v'.own c) ≡ f (v.own c)
  same_at f e c = kept_at f v.own x o' e c

  work_at : (c : ℕ) → work_of v' c ≡ work_of v c
  work_at = same_at (λ (a : Own). works a.state) refl

  calm_at : (c : ℕ) → calm_of v' γ c ≡ calm_of v γ c
  calm_at = same_at (unaware γ.big) refl

  -- whoever works has its version as before
  known_at : (c : ℕ) → work_of v c ≡ true → known_of v' c ≡ known_of v c
  known_at c w = ap (λ (a : Own). not (is_unknown a.version)) (upd_other v.own x o' c (λ e. never w (ap (work_of v) e ∙ gone)))

  version_chain : ChainOf v' γ
  version_chain = record {
    no_commit = λ f. ⊎_elim (λ e. inl (calm_at _ ∙ e)) (λ e. inr (e.0, e.1, calm_at e.0 ∙ e.2, e.3)) (h.no_commit f);
    lives = h.lives;
    alone = λ e f j w. h.alone e f j (sym (work_at j) ∙ w);
    company = λ j d w e.
        let c = h.company j d (sym (work_at j) ∙ w) e in
        (c.0, c.1, work_at c.0 ∙ c.2, ⊎_elim (λ k. inl (known_at c.0 c.2 ∙ k)) (λ k. inr k) c.3);
  }
    where
      h : ChainOf v γ
      h = i.core.chain

  version_lead : Lead γ.big x o'
  version_lead =
      let h = i.core.leads x in
      record { steady = h.steady; moved = h.moved; lives = h.lives; fallen = h.fallen; blank = λ w. absurd (never w gone) }

  pub version_inv : Inv n total v' γ
  version_inv = record {
    core = record {
      pairs = version_pairs;
      nodes = version_nodes;
      books = version_books;
      leads = move_leads v γ γ.big x o' (γ.mind x) (v.side x) v.lines v.slots γ.wire (λ c d. i.core.leads c) version_lead;
      ground = subst (GroundOf n v') (same_ghost γ x)
          (move_ground v γ x o' (γ.mind x) (v.side x) v.lines v.slots γ.wire refl refl (λ a b. refl) γ.big refl refl refl refl refl i.core.ground);
      chain = version_chain;
      sums = i.core.sums;
    };
    places = subst (PlacesOf v') (same_ghost γ x)
        (move_places v γ x o' (γ.mind x) (v.side x) v.lines v.slots γ.wire refl refl (λ a b. refl) γ.big refl refl refl i.places);
    meets = move_meets v x o' (v.side x) v.lines v.slots refl (λ d. refl) i.meets;
  }

-- ---- the group

-- working cabinets have their versions as before, the failed one that of the coordinator
pub record Remembered (n : ℕ) (total : Party → ℕ) (v : View) (γ : Ghost) (k : ℕ) (q : Place) (u : View) : Type 0 where
  pub inv : Inv n total u γ
  pub note : (c : ℕ) → hits_cabinet q c ≡ true → (u.own c).version ≡ (v.own k).version

module _ (total : Party → ℕ) (g : Group) (γ : Ghost) (w : Fit g) (i : Inv g.n total (view g) γ) (k : ℕ) where
  abbrev y₀ : Version
  y₀ = (cabinet g k).phase.version

  abbrev Noted : Place → Group → Type 0
  Noted q g' = Remembered g.n total (view g) γ k q (view g')

  at_place : (q : Place) → Place-of (work_of (view g)) (λ c. (γ.mind c).tab) (aware_of (view g) γ) (alarm_of (view g)) (λ c d. (γ.wire c d).lk) (view g).sound q → Noted q (note_at q g y₀)
  at_place _ (failed x tab gone) =
      let below : x < 8 = omega (arith, i.core.ground.within x tab, i.core.ground.most) in
      let o : Own = o_version ((view g).own x) y₀ in
      subst (Remembered g.n total (view g) γ k (AtFailed x)) (sym (sim_version g w x y₀ below)) (record {
        inv = version_inv g.n total (view g) γ i x y₀ gone tab;
        note = λ c e. ap (λ (j : ℕ). (upd (view g).own x o j).version) (eqb-true c x e) ∙ ap (λ (a : Own). a.version) (upd_same (view g).own x o);
      })
  at_place _ (tripped x f e) = record { inv = i; note = λ c e. absurd (false≢true e) }
  at_place _ (faulty x y l f e) = record { inv = i; note = λ c e. absurd (false≢true e) }

  pub remembered : aware_of (view g) γ k ≡ true → (q : Place) → (cabinet g k).phase.alarm ≡ Some q → Noted q (note_lost g k)
  unfolding note_lost
  remembered aw q e = subst (λ (a : Alarm). Noted q (note_for a g y₀)) (sym e) (at_place q (i.places.from_one k aw q e))
