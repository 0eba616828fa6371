-- The marks of the ghost that say of a fault, and the first fault: while nobody is in error, recovering or recovered, saying that there
-- is one changes no fact.
use Prim.Native.Nat.{ℕ}
use mathlib.Core.Path.{◌≡◌, refl, subst}
use mathlib.Core.Logic.{inl, inr, ⊎_elim}
use mathlib.Core.Bool.{Bool, true, false, not, ◌||◌, true≢false}
use mathlib.Core.List.{List}
use Rattle.outlet.specs.declared.Party.{Party}
use Rattle.packet.specs.declared.Packet.{Packet}
use Rattle.state.specs.declared.State.TheVariants.{CheckpBegin}
use Rattle.image.specs.declared.Image.{Image}
use Rattle.state.specs.State.{is_in, in_recovery, is_unknown}
use Rattle.claims.proofs.State.Fun.{never, is_false, and_true, and_intro, or_map}
use Rattle.claims.proofs.State.View.{View, Own, Side}
use Rattle.claims.proofs.Invariant.Facts.{Big, Mind, Wire, Ghost, Pair, Node, Books, Lead, aware, unaware, behind, closed}
use Rattle.claims.proofs.Invariant.Whole.{Core, ChainOf, calm_of}
use Rattle.claims.proofs.Invariant.Words.{un_of, un_works, aware_recovers}

-- ---- the ghost

abbrev pub b_faulted : Big → Big
b_faulted b = record { faulted = true; topv = b.topv; adopted = b.adopted; chief = b.chief; heir = b.heir; alive = b.alive; begun = b.begun; frozen = b.frozen; calm = b.calm; clean = b.clean }

abbrev pub b_frozen : Big → Bool → Big
b_frozen b t = record { faulted = b.faulted; topv = b.topv; adopted = b.adopted; chief = b.chief; heir = b.heir; alive = b.alive; begun = b.begun; frozen = t; calm = b.calm; clean = b.clean }

abbrev pub g_big : Ghost → Big → Ghost
g_big γ b = record { big = b; mind = γ.mind; wire = γ.wire }

-- some cabinet has entered error
abbrev pub g_faulted : Ghost → Ghost
g_faulted γ = g_big γ (b_faulted γ.big)

-- some cabinet that is aware of the fault knows its version
abbrev pub g_frozen : Ghost → Ghost
g_frozen γ = g_big γ (b_frozen γ.big true)

-- a cabinet has entered error
abbrev pub g_error : Ghost → Own → Ghost
g_error γ o = g_big γ (b_frozen γ.big (γ.big.frozen || not (is_unknown o.version)))

-- ---- the first fault: nobody is in error, recovering or recovered

module _ (b : Big) (o : Own) (r : in_recovery o.state ≡ false) where
  calm_before : unaware (b_faulted b) o ≡ true → unaware b o ≡ true
  calm_before e = un_of b o (un_works (b_faulted b) o e) r

  calm_after : unaware b o ≡ true → unaware (b_faulted b) o ≡ true
  calm_after e = un_of (b_faulted b) o (un_works b o e) r

  none_aware : {A : Type 0} → aware (b_faulted b) o ≡ true → A
  none_aware e = absurd (never (aware_recovers (b_faulted b) o e) r)

  none_before : {A : Type 0} → aware b o ≡ true → A
  none_before e = absurd (never (aware_recovers b o e) r)

  behind_before : (m : Mind) → behind (b_faulted b) o m ≡ true → behind b o m ≡ true
  behind_before m e =
      let u = and_true {s = unaware (b_faulted b) o} e in
      and_intro (calm_before u.0) u.1

  behind_after : (m : Mind) → behind (b_faulted b) o m ≡ false → behind b o m ≡ false
  behind_after m e =
      is_false (behind b o m) (λ k. let u = and_true {s = unaware b o} k in never (and_intro (calm_after u.0) u.1) e)

  closed_before : (m : Mind) (t : Side) → closed (b_faulted b) o m t ≡ true → closed b o m t ≡ true
  closed_before m t e =
      or_map m.done _ _ (λ k.
      let u = and_true {s = is_in o.state CheckpBegin} k in
      let v = and_true {s = unaware (b_faulted b) o} u.1 in
      and_intro u.0 (and_intro (calm_before v.0) v.1)) e

flip_pair : (b : Big) (c d : ℕ) (o : Own) (m : Mind) (p : Own) (n : Mind) (s t : Side) (l : List Packet) (w : Wire) → Pair b c d o m p n s t l w
    → in_recovery o.state ≡ false → in_recovery p.state ≡ false → Pair (b_faulted b) c d o m p n s t l w
flip_pair b c d o m p n s t l w h ro rp =
    let un = calm_before b o ro in
    let up = calm_before b p rp in
    record {
      table = λ u. h.table (un u);
      struck = none_aware b o ro;
      closed_joined = λ j e. h.closed_joined j (closed_before b p rp n t e);
      closed_equal = λ j e. h.closed_equal j (closed_before b p rp n t e);
      closed_empty = λ j e u. h.closed_empty j (closed_before b p rp n t e) (un u);
      apart = h.apart;
      owes = λ e. let f = h.owes e in (f.0, f.1, calm_after b o ro f.2);
      owes_home = h.owes_home;
      reported = λ e i u. h.reported e i (un u);
      begun_bare = λ e i u. h.begun_bare e i (un u);
      readied = none_aware b o ro;
      ready_heard = h.ready_heard;
      silent = h.silent;
      alarms = none_aware b o ro;
      unheard = none_aware b o ro;
      heard = λ e. none_aware b p rp (and_true {s = aware (b_faulted b) p} e).0;
      heard_of = λ e. none_aware b p rp (and_true {s = aware (b_faulted b) p} e).0;
      no_fault = λ u. h.no_fault (un u);
      no_checkp = λ u. h.no_checkp (un u);
      last_checkp = λ u. h.last_checkp (un u);
      behind_empty = λ e. h.behind_empty (behind_before b o ro m e);
      resumed = λ j u f e. h.resumed j (un u) (behind_after b o ro m f) (behind_before b p rp n e);
      came = λ j u. h.came j (up u);
      tail_heard = λ j u. h.tail_heard j (up u);
      stream = λ j u v. h.stream j (un u) (up v);
      fresh = none_aware b o ro;
      room = λ u. h.room (un u);
      sound = h.sound;
      unhurt = λ e u. h.unhurt e (up u);
      no_more = h.no_more;
      small = h.small;
      fit = h.fit;
    }

flip_node : (b : Big) (c : ℕ) (o : Own) (m : Mind) (z : Bool → Image) → Node b c o m z → in_recovery o.state ≡ false → Node (b_faulted b) c o m z
flip_node b c o m z h r =
    let un = calm_before b o r in
    record {
      placed = h.placed;
      present = λ e. absurd (true≢false e);
      running = h.running;
      quiet = λ e. absurd (true≢false e);
      place_known = none_aware b o r;
      in_normal = λ u. h.in_normal (un u);
      in_begin = λ u. h.in_begin (un u);
      in_checkpointing = λ u. h.in_checkpointing (un u);
      in_checkpointed = λ u. h.in_checkpointed (un u);
      chief_saved = λ u. h.chief_saved (un u);
      in_recovered = λ u. h.in_recovered (un u);
      in_error = none_aware b o r;
      in_recovering = none_aware b o r;
      restored = none_aware b o r;
      ready_is = λ e. none_before b o r (h.ready_is e).0;
      told_wrote = h.told_wrote;
      wrote_done = h.wrote_done;
      done_joined = h.done_joined;
      joined_tab = h.joined_tab;
      joined_begun = h.joined_begun;
      chief_begun = h.chief_begun;
      known = h.known;
      unknown_at = λ u. h.unknown_at (un u);
      unknown_aware = none_aware b o r;
      old_joined = h.old_joined;
      old_before = h.old_before;
      knows = none_aware b o r;
      waits = λ a n e. ((h.waits a n e).0, λ u. (h.waits a n e).1 (un u));
      cut_image = λ a k u. h.cut_image a k (un u);
      gone = h.gone;
      slot_top = h.slot_top;
      slot_prev = h.slot_prev;
      slot_cut = h.slot_cut;
      slot_pieces = λ a u. h.slot_pieces a (un u);
      noted = h.noted;
      sizes = h.sizes;
    }

flip_books : (b : Big) (o : Own) (m : Mind) (out got : Party → ℕ) → Books b o m out got → in_recovery o.state ≡ false → Books (b_faulted b) o m out got
flip_books b o m out got h r = record { bounded = h.bounded; live = λ u. h.live (calm_before b o r u); at_cut = h.at_cut }

flip_lead : (b : Big) (c : ℕ) (o : Own) → Lead b c o → in_recovery o.state ≡ false → Lead (b_faulted b) c o
flip_lead b c o h r = record {
  steady = λ u. h.steady (calm_before b o r u);
  moved = none_aware b o r;
  lives = λ k e. ((h.lives k e).0, none_aware b o r);
  fallen = λ k e. is_false (unaware (b_faulted b) o) (λ u. never (calm_before b o r u) (h.fallen k e));
  blank = λ w e. none_before b o r (h.blank w e).0;
}

module _ (n : ℕ) (total : Party → ℕ) (v : View) (γ : Ghost) (i : Core n total v γ) (none : (c : ℕ) → in_recovery (v.own c).state ≡ false) where
  flip_calm : (c : ℕ) → calm_of v γ c ≡ false → calm_of v (g_faulted γ) c ≡ false
  flip_calm c e = is_false (calm_of v (g_faulted γ) c) (λ u. never (calm_before γ.big (v.own c) (none c) u) e)

  flip_chain : ChainOf v (g_faulted γ)
  flip_chain =
      let h = i.chain in
      record {
        no_commit = λ e. ⊎_elim (λ f. inl (flip_calm γ.big.chief f)) (λ f. inr (f.0, f.1, flip_calm f.0 f.2, f.3)) (h.no_commit e);
        lives = h.lives;
        alone = h.alone;
        company = λ j d w e. h.company j d w (⊎_elim (λ f. absurd (true≢false f.0)) (λ f. inr f) e);
      }

  pub flip_core : Core n total v (g_faulted γ)
  flip_core = record {
    pairs = λ c d. flip_pair _ _ _ _ _ _ _ _ _ _ _ (i.pairs c d) (none c) (none d);
    nodes = λ c. flip_node _ _ _ _ _ (i.nodes c) (none c);
    books = λ c. flip_books _ _ _ _ _ (i.books c) (none c);
    leads = λ c. flip_lead _ _ _ (i.leads c) (none c);
    ground = i.ground;
    chain = flip_chain;
    sums = i.sums;
  }

-- some cabinet is about to enter error: it is the first, or the fault is known already
pub fault_core : (n : ℕ) (total : Party → ℕ) (v : View) (γ : Ghost) → Core n total v γ → (γ.big.faulted ≡ false → (j : ℕ) → in_recovery (v.own j).state ≡ false)
    → Core n total v (g_faulted γ)
fault_core n total v γ i first = go γ.big.faulted refl
  where
    go : (t : Bool) → γ.big.faulted ≡ t → Core n total v (g_faulted γ)
    go true e = subst (λ (x : Ghost). Core n total v x) (λ t. g_big γ (record {
      faulted = e t;
      topv = γ.big.topv;
      adopted = γ.big.adopted;
      chief = γ.big.chief;
      heir = γ.big.heir;
      alive = γ.big.alive;
      begun = γ.big.begun;
      frozen = γ.big.frozen;
      calm = γ.big.calm;
      clean = γ.big.clean;
    })) i
    go false e = flip_core n total v γ i (first e)
