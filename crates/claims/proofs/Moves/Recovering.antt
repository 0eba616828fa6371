-- A recover packet: it may always be dropped. Kind 4, deliver: a recover packet taken in error from a neighbour that was heard brings
-- the version of the save that the rule gives; any other is dropped.
use Prim.Native.Nat.{ℕ, ◌<◌}
use mathlib.Core.Path.{◌≡◌, refl, sym, ap, ◌∙◌, subst}
use mathlib.Core.Logic.{⊎_elim}
use mathlib.Core.Bool.{Bool, true, false≢true}
use mathlib.Core.List.{List, ◌∷◌}
use Rattle.marks.specs.Marks.{marked}
use Rattle.outlet.specs.declared.Party.{Party}
use Rattle.packet.specs.declared.Place.{Place}
use Rattle.packet.specs.declared.Packet.{Packet}
use Rattle.packet.specs.declared.Packet.TheVariants.{Recover}
use Rattle.line.specs.Line.{oldest}
use Rattle.state.specs.declared.State.TheVariants.{Error, Recovering}
use Rattle.state.specs.declared.Version.{Version}
use Rattle.state.specs.declared.Version.TheVariants.{Known}
use Rattle.state.specs.State.{is_in, works, is_unknown}
use Rattle.group.specs.declared.Group.{Group}
use Rattle.group.specs.Group.{cabinet, state_of, line}
use Rattle.protocol.specs.History.{History, upd, note_cuts}
use Rattle.protocol.specs.Moves.{recover_with}
use Rattle.claims.proofs.State.Fun.{never, is_true, and_intro, kept_at}
use Rattle.claims.proofs.State.View.{View, Own, view, set_line, Side}
use Rattle.claims.proofs.State.Sim.{Fit}
use Rattle.claims.proofs.State.ViewMoves.{o_phase, view_off}
use Rattle.claims.proofs.Answers.Tests.{in_state}
use Rattle.claims.proofs.Invariant.Facts.{Ghost, Alarms, aware, is_fault, resume_first}
use Rattle.claims.proofs.Invariant.Whole.{Core, Inv, PlacesOf}
use Rattle.claims.proofs.Invariant.Past.{Past, Kept, past_still, past_turn, quiet_of}
use Rattle.claims.proofs.Invariant.Logs.{alarm_first}
use Rattle.claims.proofs.Invariant.Words.{aware_works}
use Rattle.claims.proofs.Invariant.Frame.{same_ghost, move_places, move_meets}
use Rattle.claims.proofs.Invariant.Staying.{Goes, SomeKnows, phase_same, stays_same, goes_on, stays_on, Faults, no_fault_lem}
use Rattle.claims.proofs.Moves.Dropping.{head_pair, line_inv, drop_pair}
use Rattle.claims.proofs.Moves.FirstFault.{g_big, b_frozen}
use Rattle.claims.proofs.Moves.ErrorSeen.{v_recover, sim_recover'}
use Rattle.claims.proofs.Moves.GoingOn.{recover_core}
use Rattle.claims.proofs.Moves.Hearing.{off, left_of, off_fit, off_line}

-- ---- the packet comes off

pub recover_off_inv : (n : ℕ) (total : Party → ℕ) (v : View) (γ : Ghost) → Inv n total v γ → (a b : ℕ) (x : Bool) (k : List Packet) → v.lines a b ≡ Recover x ∷ k
    → Inv n total (set_line v a b k) γ
unfolding resume_first
recover_off_inv n total v γ i a b x k is =
    let h = head_pair n total v γ i a b (Recover x) k is in
    line_inv n total v γ i a b k
    (drop_pair _ _ _ _ _ _ _ _ _ (Recover x) k _ h (λ e. absurd (false≢true e)) (λ f e u j. h.resumed j u f e) (λ e. absurd (false≢true e)))

-- ---- the step, where the packet is dropped

module _ (total : Party → ℕ) (g : Group) (h : History) (γ : Ghost) (w : Fit g) (i : Inv g.n total (view g) γ) (past : Past g.n (view g) γ h)
    (a b : ℕ) (la : a < 8) (lb : b < 8) (x : Bool) (recover : oldest (line g a b) ≡ Recover x) where
  abbrev k : List Packet
  k = left_of g a b

  abbrev g1 : Group
  g1 = off g a b

  off_inv : Inv g.n total (set_line (view g) a b k) γ
  off_inv = recover_off_inv g.n total (view g) γ i a b x k (off_line g a b (Recover x) recover refl)

  state_kept : (c : ℕ) → ((view g1).own c).state ≡ ((view g).own c).state
  state_kept c = ap (λ (y : View). (y.own c).state) (view_off g w a b la lb)

  pub keeps_recover_dropped : Kept total g γ g1 (note_cuts h g g1)
  keeps_recover_dropped = record {
    ghost = γ;
    inv = subst (λ (y : View). Inv g.n total y γ) (sym (view_off g w a b la lb)) off_inv;
    past = past_still g g1 state_kept past;
    stays = stays_same (view g) γ (quiet_of i) (view g1) γ (λ c. phase_same (ap (λ (y : View). y.own c) (view_off g w a b la lb)))
        (λ c d. ap (λ (y : View). (y.side c d).unsure) (view_off g w a b la lb)) no_fault_lem;
  }

-- ---- a cabinet in error goes on with the version of the save that the rule gives

module _ (n : ℕ) (total : Party → ℕ) (v : View) (γ : Ghost) (i : Inv n total v γ) (c : ℕ) (aw : aware γ.big (v.own c) ≡ true) (error : (v.own c).state ≡ Error)
    (frozen : γ.big.frozen ≡ true) where
  abbrev v' : View
  v' = v_recover v c γ.big.topv

  abbrev o' : Own
  o' = o_phase (v.own c) Recovering (Known γ.big.topv) (v.own c).alarm

  same_work : works o'.state ≡ works (v.own c).state
  same_work = sym (aware_works γ.big (v.own c) aw)

  still_aware : aware γ.big o' ≡ aware γ.big (v.own c)
  still_aware = rw error

  pub recover_inv : Inv n total v' γ
  recover_inv = record {
    core = recover_core n total v γ i.core c aw error frozen (λ d u. i.meets c d (aware_works γ.big (v.own c) aw) u);
    places = subst (λ (δ : Ghost). PlacesOf v' δ) (same_ghost γ c)
        (move_places v γ c o' (γ.mind c) (v.side c) v'.lines v.slots γ.wire same_work refl (λ i j. refl) γ.big refl still_aware refl i.places);
    meets = move_meets v c o' (v.side c) v'.lines v.slots same_work (λ d. refl) i.meets;
  }

-- the history is no matter to whether some aware cabinet knows its version
pub frozen_past : (n : ℕ) (v : View) (γ : Ghost) (h : History) (t : Bool) → Past n v γ h → Past n v (g_big γ (b_frozen γ.big t)) h
frozen_past n v γ h t p = search

-- such a step; the view before it has the cabinets of g, but for marks
module _ (total : Party → ℕ) (g : Group) (h : History) (γ δ : Ghost) (g' : Group) (v : View) (c : ℕ) (x : Bool) (same : v.own ≡ (view g).own)
    (faults : Faults (view g) γ δ) (aw : aware γ.big ((view g).own c) ≡ true) (seen : view g' ≡ v_recover v c x) where
  abbrev goes : ℕ → Own
  goes = upd (view g).own c (o_phase ((view g).own c) Recovering (Known x) ((view g).own c).alarm)

  state_at : (d : ℕ) → ((view g').own d).state ≡ (goes d).state
  state_at d =
      ap (λ (y : View). (y.own d).state) seen
      ∙ ap (λ (f : ℕ → Own). (upd f c (o_phase (f c) Recovering (Known x) (f c).alarm) d).state) same

  own_at : (view g').own ≡ goes
  own_at =
      ap (λ (y : View). y.own) seen ∙ ap (λ (f : ℕ → Own). upd f c (o_phase (f c) Recovering (Known x) (f c).alarm)) same

  pub past_going : Past g.n (view g) δ h → Past g.n (view g') δ (note_cuts h g g')
  past_going past = past_turn g g' c _ state_at (sym (aware_works γ.big ((view g).own c) aw)) refl past

  pub goes_going : (i : Inv g.n total (view g) γ) → Goes (view g) γ (view g') δ
  goes_going i = goes_on (view g) γ (quiet_of i) (view g') δ c _ own_at faults aw refl (refl, refl, refl)

  -- where the version is one that another knows
  keeps_going : (i : Inv g.n total (view g) γ) → Past g.n (view g) δ h → Inv g.n total (v_recover v c x) δ → v.side ≡ (view g).side → SomeKnows (view g) γ
      → Kept total g γ g' (note_cuts h g g')
  keeps_going i past inv sides known = record {
    ghost = δ;
    inv = subst (λ (y : View). Inv g.n total y δ) (sym seen) inv;
    past = past_going past;
    stays = stays_on (view g) γ (quiet_of i) (view g') δ c _ own_at faults aw refl (refl, refl, refl) unsure_kept refl refl (λ _. known);
  }
    where
      unsure_kept : (d j : ℕ) → ((view g').side d j).unsure ≡ ((view g).side d j).unsure
      unsure_kept d j =
          ap (λ (y : View). (y.side d j).unsure) seen ∙ ap (λ (f : ℕ → Side). (f j).unsure) (kept_at (λ (f : ℕ → Side). f) v.side c (v.side c) refl d)
          ∙ ap (λ (f : ℕ → ℕ → Side). (f d j).unsure) sides

-- ---- the step, where the packet is taken

-- a recover packet holds its sender's version
pub recover_head : (x : Version) (q : Place) (y : Bool) (k : List Packet) → Alarms x q (Recover y ∷ k) → x ≡ Known y
recover_head x q y k a =
    ⊎_elim (λ e. absurd (false≢true (ap is_fault e))) (λ e. let same : e.0 ≡ y = cc in e.1 ∙ ap Known same) (alarm_first x q (Recover y) k a)

module _ (total : Party → ℕ) (g : Group) (h : History) (γ : Ghost) (w : Fit g) (i : Inv g.n total (view g) γ) (past : Past g.n (view g) γ h)
    (a b : ℕ) (la : a < 8) (lb : b < 8) (x : Bool) (recover : oldest (line g a b) ≡ Recover x)
    (error : is_in (state_of g b) Error ≡ true) (heard : marked (cabinet g b).noted.heard a ≡ true) where
  abbrev v1 : View
  v1 = set_line (view g) a b (left_of g a b)

  abbrev g2 : Group
  g2 = recover_with (off g a b) b x

  in_error : state_of g b ≡ Error
  in_error = (in_state (state_of g b) Error).0 error

  pub error_aware : aware γ.big ((view g).own b) ≡ true
  error_aware = and_intro (is_true γ.big.faulted (λ e. never error ((i.core.nodes b).quiet e).0)) (rw in_error)

  pub a_aware : aware γ.big ((view g).own a) ≡ true
  a_aware = ((i.core.pairs a b).heard_of (and_intro error_aware heard)).0

  -- the sender knows its version
  pub a_knows : (cabinet g a).phase.version ≡ Known x
  a_knows =
      let q = (i.core.nodes a).place_known a_aware in
      recover_head (cabinet g a).phase.version q.0 x (left_of g a b)
      (rw (off_line g a b (Recover x) recover refl) at ((i.core.pairs a b).alarms a_aware q.0 q.1))

  is_top : x ≡ γ.big.topv
  is_top = (i.core.nodes a).known (aware_works γ.big ((view g).own a) a_aware) x a_knows

  is_frozen : γ.big.frozen ≡ true
  is_frozen = (i.core.nodes a).knows a_aware (ap is_unknown a_knows)

  inv_off : Inv g.n total v1 γ
  inv_off = recover_off_inv g.n total (view g) γ i a b x (left_of g a b) (off_line g a b (Recover x) recover refl)

  abbrev sees : view (off g a b) ≡ v1
  sees = view_off g w a b la lb

  pub going : view g2 ≡ v_recover v1 b x
  going =
      sim_recover' g.n total (off g a b) γ (off_fit g a b w) (subst (λ (y : View). Core g.n total y γ) (sym sees) inv_off.core) b x lb
      (subst (λ (y : View). aware γ.big (y.own b) ≡ true) (sym sees) error_aware)
      ∙ ap (λ (y : View). v_recover y b x) sees

  pub keeps_recover : Kept total g γ g2 (note_cuts h g g2)
  keeps_recover =
      keeps_going total g h γ γ g2 v1 b x refl no_fault_lem error_aware going i past
      (subst (λ (y : Bool). Inv g.n total (v_recover v1 b y) γ) (sym is_top) (recover_inv g.n total v1 γ inv_off b error_aware in_error is_frozen))
      refl (a, a_aware, ap is_unknown a_knows)
