-- The end of a recovery, for one cabinet: it has failed, or is recovered and waits for the resume, or is the coordinator in normal.
use Prim.Native.Nat.{ℕ}
use mathlib.Core.Path.{◌≡◌, refl, sym, ap, ◌∙◌, subst}
use mathlib.Core.Logic.{◌≢◌}
use mathlib.Core.Bool.{Bool, true, false, true≢false, false≢true}
use native.Mathlib.Omega.{arith}
use Rattle.state.specs.declared.State.{State}
use Rattle.state.specs.declared.State.TheVariants.{Failed, Normal, CheckpBegin, Checkpointing, Checkpointed, Error, Recovering, Recovered}
use Rattle.state.specs.declared.Version.TheVariants.{Unknown}
use Rattle.image.specs.declared.Image.{Image}
use Rattle.state.specs.State.{is_in, works, is_unknown, bit_of}
use Rattle.claims.proofs.State.Fun.{never}
use Rattle.claims.proofs.State.View.{Own}
use Rattle.claims.proofs.Invariant.States.{failed_state, other_state}
use Rattle.claims.proofs.Invariant.Facts.{Big, Mind, Node, Books, Lead, aware, unaware, nothing}
use Rattle.claims.proofs.Invariant.Words.{un_works}
use Rattle.claims.proofs.Moves.Rousing.{o_resumed}
use Rattle.claims.proofs.Moves.EndPairs.{b_end, m_end}

module _ (b : Big) (k x c : ℕ) (o : Own) (m : Mind) (z : Bool → Image) (h : Node b c o m z) (knows : works o.state ≡ true → aware b o ≡ true)
    (rec : works o.state ≡ true → o.state ≡ Recovered) where
  -- a cabinet is failed or recovered
  only : (P : State → Type 0) → P Failed → P Recovered → P o.state
  only P f r = go (works o.state) refl
    where
      go : (t : Bool) → works o.state ≡ t → P o.state
      go true e = subst P (sym (rec e)) r
      go false e = subst P (sym (failed_state o.state e)) f

  not_in : (s : State) → is_in Recovered s ≡ false → works o.state ≡ true → o.state ≡ s → ⊥
  not_in s n wo e = other_state (rec wo) n e

  known_all : works o.state ≡ true → is_unknown o.version ≡ false
  known_all w = h.unknown_aware (knows w) ∙ rw (rec w)

  not_unknown : works o.state ≡ true → (v : Bool) → o.version ≡ Unknown v → ⊥
  not_unknown w v e = never (ap is_unknown e) (known_all w)

  abbrev b' : Big
  b' = b_end b k x

  abbrev m' : Mind
  m' = m_end m (works o.state)

  -- a failed one's version names its slot: who failed since the last recovery's end has the note of this one
  abbrev Note : Type 0
  Note = m.tab ≡ true → works o.state ≡ false → bit_of o.version ≡ b.topv

  named : Note → works o.state ≡ false → z (bit_of o.version) ≡ m.top
  named note e = go m.tab refl
    where
      go : (t : Bool) → m.tab ≡ t → z (bit_of o.version) ≡ m.top
      go true t = ap z (note t e) ∙ h.slot_top t
      go false t = h.noted t

  -- another than the coordinator
  pub ended_node : Note → c ≢ k → Node b' c o m' z
  ended_node note other =
      let wo : unaware b' o ≡ true → works o.state ≡ true = un_works b' o in
      record {
        placed = λ w. w;
        present = λ f w. w;
        running = h.running;
        quiet = λ f. (only (λ s. is_in s Error ≡ false) refl refl, only (λ s. is_in s Recovering ≡ false) refl refl);
        place_known = λ a. absurd (false≢true a);
        in_normal = λ u e. absurd (not_in Normal refl (wo u) e);
        in_begin = λ u e. absurd (not_in CheckpBegin refl (wo u) e);
        in_checkpointing = λ u e. absurd (not_in Checkpointing refl (wo u) e);
        in_checkpointed = λ u e. absurd (not_in Checkpointed refl (wo u) e);
        chief_saved = λ u e. absurd (not_in Checkpointed refl (wo u) e);
        in_recovered = λ u e. (refl, other, refl);
        in_error = λ a. absurd (false≢true a);
        in_recovering = λ a. absurd (false≢true a);
        restored = λ a. absurd (false≢true a);
        ready_is = λ e. absurd (false≢true e);
        told_wrote = λ e. absurd (false≢true e);
        wrote_done = λ e. absurd (false≢true e);
        done_joined = λ e. absurd (false≢true e);
        joined_tab = λ e. absurd (false≢true e);
        joined_begun = λ e. absurd (false≢true e);
        chief_begun = λ e. refl;
        known = h.known;
        unknown_at = λ u. known_all (wo u) ∙ rw (rec (wo u));
        unknown_aware = λ a. absurd (false≢true a);
        old_joined = λ w v e. absurd (not_unknown w v e);
        old_before = λ w v e. absurd (not_unknown w v e);
        knows = λ a. absurd (false≢true a);
        waits = λ e. absurd (true≢false e);
        cut_image = λ a e. absurd (false≢true e);
        gone = λ e. (refl, λ f. absurd (true≢false f));
        slot_top = λ e. h.slot_top (h.placed e);
        slot_prev = λ e. absurd (true≢false e);
        slot_cut = λ a e. absurd (false≢true e);
        slot_pieces = λ a u e. absurd (not_in Checkpointing refl (wo u) e);
        noted = named note;
        sizes = h.sizes;
      }

  -- the coordinator
  abbrev o' : Own
  o' = o_resumed o o.version

  clash : {A : Type 0} (s : State) → is_in Normal s ≡ false → Normal ≡ s → is_in s s ≡ true → A
  clash s n e f = absurd (never (ap (λ (x : State). is_in x s) e ∙ f) n)

  pub ended_chief : works o.state ≡ true → Node b' c o' m' z
  ended_chief w = record {
    placed = λ x. w;
    present = λ f x. refl;
    running = refl;
    quiet = λ f. (refl, refl);
    place_known = λ a. absurd (false≢true a);
    in_normal = λ u e. refl;
    in_begin = λ u e. clash CheckpBegin refl e refl;
    in_checkpointing = λ u e. clash Checkpointing refl e refl;
    in_checkpointed = λ u e. clash Checkpointed refl e refl;
    chief_saved = λ u e. clash Checkpointed refl e refl;
    in_recovered = λ u e. clash Recovered refl e refl;
    in_error = λ a. absurd (false≢true a);
    in_recovering = λ a. absurd (false≢true a);
    restored = λ a. absurd (false≢true a);
    ready_is = λ e. absurd (false≢true e);
    told_wrote = λ e. absurd (false≢true e);
    wrote_done = λ e. absurd (false≢true e);
    done_joined = λ e. absurd (false≢true e);
    joined_tab = λ e. absurd (false≢true e);
    joined_begun = λ e. absurd (false≢true e);
    chief_begun = λ e. refl;
    known = λ x. h.known w;
    unknown_at = λ u. known_all w;
    unknown_aware = λ a. absurd (false≢true a);
    old_joined = λ x v e. absurd (not_unknown w v e);
    old_before = λ x v e. absurd (not_unknown w v e);
    knows = λ a. absurd (false≢true a);
    waits = λ e. absurd (true≢false e);
    cut_image = λ a e. absurd (false≢true e);
    gone = λ e. (refl, λ f. absurd (true≢false f));
    slot_top = λ x. h.slot_top (h.placed w);
    slot_prev = λ e. absurd (true≢false e);
    slot_cut = λ a e. absurd (false≢true e);
    slot_pieces = λ a u e. clash Checkpointing refl e refl;
    noted = λ e. absurd (never w e);
    sizes = h.sizes;
  }

  -- the books start anew, from the image of the save
  pub ended_books : (p : Own) → p.image ≡ o.image → (unaware b' p ≡ true → works o.state ≡ true) → Books b' p m' nothing nothing
  ended_books p e wo = record {
    bounded = λ y. omega arith;
    live = λ u y. (0, rw (e, (h.restored (knows (wo u)) (rec (wo u))).0) (omega arith));
    at_cut = λ a x. absurd (false≢true x);
  }

  -- who ended the recovery leads
  pub ended_lead : (p : Own) → p.lead ≡ o.lead → p.version ≡ o.version → works p.state ≡ works o.state
      → (works o.state ≡ true → o.lead ≡ k) → (c ≡ k → works o.state ≡ true) → Lead b' c p
  ended_lead p lead version work led up = record {
    steady = λ u. lead ∙ led (sym work ∙ un_works b' p u);
    moved = λ a. absurd (false≢true a);
    lives = λ e f. (work ∙ up e, λ a. absurd (false≢true a));
    fallen = λ e f. absurd (true≢false f);
    blank = λ w e. absurd (never (ap is_unknown (sym version ∙ e)) (known_all (sym work ∙ w)));
  }
