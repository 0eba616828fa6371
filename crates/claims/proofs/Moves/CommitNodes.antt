-- The commit, seen at one cabinet: the slot that the pieces went to is now that of the newest save.
use Prim.Native.Nat.{ℕ}
use mathlib.Core.Path.{◌≡◌, refl, sym, ap, ◌∙◌}
use mathlib.Core.Logic.{◌≢◌, ◌⊎◌, inl, inr}
use mathlib.Core.Bool.{Bool, true, false, cond, not, false≢true}
use borrow.Author.Tests.{ne_eqb}
use Rattle.outlet.specs.declared.Party.{Party}
use Rattle.state.specs.declared.State.{State}
use Rattle.state.specs.declared.State.TheVariants.{Failed, Normal, CheckpBegin, Checkpointing, Checkpointed, Error, Recovering, Recovered, Crashed}
use Rattle.state.specs.declared.Version.{Version}
use Rattle.state.specs.declared.Version.TheVariants.{Known}
use Rattle.image.specs.declared.Image.{Image}
use Rattle.state.specs.State.{is_in, works, in_recovery, is_unknown, bit_of}
use Rattle.claims.proofs.State.Fun.{never, is_true, is_false, and_intro, cond_elim, not_not}
use Rattle.claims.proofs.State.View.{Own}
use Rattle.claims.proofs.State.Shape.{Pictured}
use Rattle.claims.proofs.Answers.Tests.{in_state}
use Rattle.claims.proofs.Invariant.States.{other_state}
use Rattle.claims.proofs.Invariant.Facts.{Big, Mind, Node, Books, Lead, aware, unaware}
use Rattle.claims.proofs.Invariant.Words.{un_works, un_not_aware, un_or_aware}
use Rattle.claims.proofs.Moves.Rousing.{o_resumed, resumed_not_aware}
use Rattle.claims.proofs.Moves.CommitPairs.{b_commit, m_commit, Through}

module _ (b : Big) (c : ℕ) (o : Own) (m : Mind) (z : Bool → Image) (h : Node b c o m z) where
  -- whoever has written and knows of no fault waits in checkpointed
  pub wrote_state : unaware b o ≡ true → m.wrote ≡ true → o.state ≡ Checkpointed
  wrote_state un wrote = go o.state refl
    where
      joined : m.joined ≡ true
      joined = h.done_joined (h.wrote_done wrote)

      unfaulted : in_recovery o.state ≡ true → b.faulted ≡ false
      unfaulted e = is_false b.faulted (λ f. un_not_aware b o un (and_intro f e))

      go : (s : State) → o.state ≡ s → o.state ≡ Checkpointed
      go Failed e = absurd (never (un_works b o un) (rw e))
      go Normal e = absurd (never joined (h.in_normal un e))
      go CheckpBegin e = absurd (never (h.wrote_done wrote) (h.in_begin un e).1)
      go Checkpointing e = absurd (never wrote (h.in_checkpointing un e).1)
      go Checkpointed e = e
      go Error e = absurd (never (rw e) (h.quiet (unfaulted (rw e))).0)
      go Recovering e = absurd (never (rw e) (h.quiet (unfaulted (rw e))).1)
      go Recovered e = absurd (never joined (h.in_recovered un e).0)
      go Crashed e = absurd (never (rw e) h.running)

  module _ (through : Through m) (lives : b.alive ≡ true) (thaw : b.frozen ≡ false) where
    -- a working cabinet is in use, so it has gone through the save
    pub now_through : works o.state ≡ true → (m.joined ≡ true) × (m.done ≡ true) × (m.wrote ≡ true) × (m.told ≡ true)
    now_through e = through (h.placed e)

    pub now_saved : unaware b o ≡ true → o.state ≡ Checkpointed
    now_saved un = wrote_state un (now_through (un_works b o un)).2

    aware_unknown : aware b o ≡ true → is_unknown o.version ≡ true
    aware_unknown e = is_true (is_unknown o.version) (λ f. never (h.knows e f) thaw)

    aware_error : aware b o ≡ true → is_in o.state Error ≡ true
    aware_error e = sym (h.unknown_aware e) ∙ aware_unknown e

    not_restoring : {A : Type 0} (s : State) → is_in Error s ≡ false → aware b o ≡ true → o.state ≡ s → A
    not_restoring s d e f = absurd (other_state ((in_state o.state Error).0 (aware_error e)) d f)

    new_top : m.tab ≡ true → z (not b.topv) ≡ cond m.tab m.cut m.top
    new_top e = h.slot_cut lives (through e).2 ∙ sym (ap (λ (t : Bool). cond t m.cut m.top) e)

    old_top : m.tab ≡ true → z (not (not b.topv)) ≡ m.top
    old_top e = ap z (not_not b.topv) ∙ h.slot_top e

    kept_gone : m.tab ≡ false → (m.base ≡ cond m.tab m.cut m.top) × (m.top ≡ cond m.tab m.cut m.top)
    kept_gone e = let q : m.top ≡ cond m.tab m.cut m.top = sym (ap (λ (t : Bool). cond t m.cut m.top) e) in ((h.gone e).0 ∙ q, q)

    new_sizes : Pictured m.cut × (Pictured (cond m.tab m.cut m.top) × Pictured m.top)
    new_sizes = (h.sizes.0, (cond_elim Pictured m.tab (λ e. h.sizes.0) (λ e. h.sizes.1.0), h.sizes.1.0))

    -- ---- any cabinet but the coordinator

    module _ (other : c ≢ b.chief) where
      unknown_now : works o.state ≡ true → is_unknown o.version ≡ true
      unknown_now e = go (un_or_aware b o e)
        where
          go : (unaware b o ≡ true) ⊎ (aware b o ≡ true) → is_unknown o.version ≡ true
          go (inl u) = h.unknown_at u ∙ rw (now_saved u, ne_eqb c b.chief other)
          go (inr a) = aware_unknown a

      pub commit_node : Node (b_commit b) c o (m_commit m) z
      commit_node = record {
        placed = h.placed;
        present = h.present;
        running = h.running;
        quiet = h.quiet;
        place_known = h.place_known;
        in_normal = λ u e. refl;
        in_begin = λ u e. absurd (other_state (now_saved u) refl e);
        in_checkpointing = λ u e. absurd (other_state (now_saved u) refl e);
        in_checkpointed = λ u e. inl refl;
        chief_saved = λ u e q. absurd (other q);
        in_recovered = λ u e. absurd (other_state (now_saved u) refl e);
        in_error = h.in_error;
        in_recovering = λ e f. not_restoring Recovering refl e f;
        restored = λ e f. not_restoring Recovered refl e f;
        ready_is = h.ready_is;
        told_wrote = λ e. e;
        wrote_done = λ e. e;
        done_joined = λ e. e;
        joined_tab = λ e. absurd (false≢true e);
        joined_begun = λ e. e;
        chief_begun = λ e. refl;
        known = λ e v f. absurd (never (unknown_now e) (ap is_unknown f));
        unknown_at = h.unknown_at;
        unknown_aware = h.unknown_aware;
        old_joined = λ e v f j. absurd (false≢true j);
        old_before = λ e v f j. (h.old_joined e v f (now_through e).0).1 ∙ sym (not_not b.topv);
        knows = h.knows;
        waits = λ e n w. (refl, now_saved);
        cut_image = λ a e. absurd (false≢true e);
        gone = λ e. ((kept_gone e).0, λ f. (kept_gone e).1);
        slot_top = new_top;
        slot_prev = λ e t d. old_top t;
        slot_cut = λ a e. absurd (false≢true e);
        slot_pieces = λ a u e. absurd (other_state (now_saved u) refl e);
        noted = λ e. h.noted e ∙ (kept_gone e).1;
        sizes = new_sizes;
      }

    -- ---- the coordinator

    module _ (chief : c ≡ b.chief) (un : unaware b o ≡ true) where
      abbrev o' : Own
      o' = o_resumed o (Known (not b.topv))

      abbrev x' : Version
      x' = Known (not b.topv)

      pub chief_node : Node (b_commit b) c o' (m_commit m) z
      chief_node = record {
        placed = λ e. h.placed (un_works b o un);
        present = λ e f. refl;
        running = refl;
        quiet = λ e. (refl, refl);
        place_known = λ e. resumed_not_aware (b_commit b) o x' e;
        in_normal = λ u e. refl;
        in_begin = λ u e. absurd (other_state refl refl e);
        in_checkpointing = λ u e. absurd (other_state refl refl e);
        in_checkpointed = λ u e. absurd (other_state refl refl e);
        chief_saved = λ u e q. absurd (other_state refl refl e);
        in_recovered = λ u e. absurd (other_state refl refl e);
        in_error = λ e. resumed_not_aware (b_commit b) o x' e;
        in_recovering = λ e. resumed_not_aware (b_commit b) o x' e;
        restored = λ e. resumed_not_aware (b_commit b) o x' e;
        ready_is = λ e. absurd (un_not_aware b o un (h.ready_is e).0);
        told_wrote = λ e. e;
        wrote_done = λ e. e;
        done_joined = λ e. e;
        joined_tab = λ e. absurd (false≢true e);
        joined_begun = λ e. e;
        chief_begun = λ e. refl;
        known = λ e v f. sym (ap bit_of f);
        unknown_at = λ u. refl;
        unknown_aware = λ e. resumed_not_aware (b_commit b) o x' e;
        old_joined = λ e v f j. absurd (false≢true j);
        old_before = λ e v f j. absurd (false≢true (ap is_unknown f));
        knows = λ e. resumed_not_aware (b_commit b) o x' e;
        waits = λ e n. absurd (n chief);
        cut_image = λ a e. absurd (false≢true e);
        gone = λ e. ((kept_gone e).0, λ f. (kept_gone e).1);
        slot_top = new_top;
        slot_prev = λ e t d. old_top t;
        slot_cut = λ a e. absurd (false≢true e);
        slot_pieces = λ a u e. absurd (other_state refl refl e);
        noted = λ e. absurd (never (h.placed (un_works b o un)) e);
        sizes = new_sizes;
      }

pub commit_books : (b : Big) (o : Own) (m : Mind) (out got : Party → ℕ) → Books b o m out got → Books (b_commit b) o (m_commit m) out got
commit_books b o m out got h = record { bounded = h.bounded; live = h.live; at_cut = λ a e. absurd (false≢true e) }

pub chief_books : (b : Big) (o : Own) (m : Mind) (out got : Party → ℕ) (x : Version) → unaware b o ≡ true → Books b o m out got → Books (b_commit b) (o_resumed o x) (m_commit m) out got
chief_books b o m out got x un h = record { bounded = h.bounded; live = λ u. h.live un; at_cut = λ a e. absurd (false≢true e) }

-- who leads does not hang on the save
pub commit_lead : (b : Big) (c : ℕ) (o : Own) → Lead b c o → Lead (b_commit b) c o
commit_lead b c o h = record { steady = h.steady; moved = h.moved; lives = h.lives; fallen = h.fallen; blank = h.blank }
