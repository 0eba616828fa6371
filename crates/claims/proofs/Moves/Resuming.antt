-- A resume taken in recovered: the recovery has ended, and the cabinet goes on in normal with its version and puts resume on all its lines.
-- A resume that no rule takes is dropped, and none that is waited for is among them.
use Prim.Native.Nat.{ℕ, ◌<◌}
use mathlib.Core.Path.{◌≡◌, refl, sym, ap, ◌∙◌, subst}
use mathlib.Core.Logic.{◌≢◌, ⊎_elim}
use mathlib.Core.Bool.{Bool, true, false, not, false≢true}
use mathlib.Core.List.{List, ◌∷◌}
use lib.Dec.{eqb}
use borrow.Author.Tests.{ne_eqb}
use Rattle.marks.specs.Marks.{marked}
use Rattle.outlet.specs.declared.Party.{Party}
use Rattle.packet.specs.declared.Packet.{Packet}
use Rattle.packet.specs.declared.Packet.TheVariants.{Resume}
use Rattle.packet.specs.Packet.{is_normal}
use Rattle.line.specs.Line.{oldest, rest}
use Rattle.state.specs.declared.State.{State}
use Rattle.state.specs.declared.State.TheVariants.{Normal, Checkpointed, Recovered}
use Rattle.state.specs.declared.Version.{Version}
use Rattle.state.specs.declared.Version.TheVariants.{Known}
use Rattle.state.specs.State.{is_in, works, bit_of}
use Rattle.cabinet.specs.Cabinet.{coordinator}
use Rattle.group.specs.declared.Group.{Group}
use Rattle.group.specs.Group.{cabinet, state_of, line, with_line}
use Rattle.protocol.specs.History.{History, upd, goes, note_cuts}
use Rattle.protocol.specs.Moves.{end_recovery}
use Rattle.protocol.specs.Receive.{resumes_from}
use Rattle.claims.proofs.State.Fun.{never, is_true, and_true, and_intro, upd_same, upd_other}
use Rattle.claims.proofs.State.Every.{with_line_lem}
use Rattle.claims.proofs.State.View.{View, Side, used, content, view, set_line}
use Rattle.claims.proofs.State.Shape.{Shaped, Lined, Pictured, shaped}
use Rattle.claims.proofs.State.Sim.{Fit}
use Rattle.claims.proofs.State.ViewMoves.{Room, v_put, v_broadcast, v_resumed, sim_resume, sim_off, view_off}
use Rattle.claims.proofs.Answers.Tests.{in_state}
use Rattle.claims.proofs.Invariant.States.{known_is_known}
use Rattle.claims.proofs.Invariant.Facts.{Ghost, aware, unaware, linked, behind, is_fault}
use Rattle.claims.proofs.Invariant.Whole.{Inv}
use Rattle.claims.proofs.Invariant.Staying.{no_fault_lem}
use Rattle.claims.proofs.Invariant.Past.{Past, Kept, past_turn, calm_stays}
use Rattle.claims.proofs.Invariant.Logs.{resumed_by}
use Rattle.claims.proofs.Invariant.Words.{un_or_aware, un_not_aware, chief_of, room_calm, used_linked}
use Rattle.claims.proofs.Moves.Dropping.{keeps_drop}
use Rattle.claims.proofs.Moves.Waking.{adopted_same, woken, g_adopted, woken_swap, woken_off, sender_calm, resume_other}

-- ---- the move in the view

-- the lines that get a resume: all in use
abbrev pub all_used : View → ℕ → ℕ → Bool
all_used v b d = used (v.side b d)

pub view_woken : (v : View) (b : ℕ) (x : Version) → v_broadcast (v_resumed v b x) b Resume ≡ woken v b x (all_used v b)
view_woken v b x = λ t. record {
  own = (woken v b x (all_used v b)).own;
  side = (woken v b x (all_used v b)).side;
  lines = upd v.lines b (row t);
  slots = v.slots;
  sound = v.sound;
}
  where
    row : v_put (v_resumed v b x) b (λ d. Resume) ≡ (λ d. resumed_by (all_used v b d) (v.lines b d))
    row = ap (λ (s : ℕ → Side). λ d. resumed_by (used (s d)) (v.lines b d)) (upd_same v.side b _)

pub room_resumed : (v : View) (b : ℕ) (x : Version) → Room v b → Room (v_resumed v b x) b
room_resumed v b x r d e = r d (ap (λ (s : ℕ → Side). used (s d)) (sym (upd_same v.side b _)) ∙ e)

-- ---- the step

module _ (total : Party → ℕ) (g : Group) (h : History) (γ : Ghost) (w : Fit g) (i : Inv g.n total (view g) γ) (past : Past g.n (view g) γ h)
    (a b : ℕ) (la : a < 8) (lb : b < 8) (first : oldest (line g a b) ≡ Resume) (working : works (state_of g b) ≡ true) where
  abbrev v : View
  v = view g

  abbrev k : List Packet
  k = content (rest (line g a b)).cells

  is_first : v.lines a b ≡ Resume ∷ k
  is_first = sim_off g a b (rw first) ∙ ap (λ (p : Packet). p ∷ k) first

  other : a ≢ b
  other = resume_other g.n total v γ i a b k is_first

  abbrev g1 : Group
  g1 = with_line g a b (rest (line g a b))

  -- ---- it is taken

  module _ (takes : resumes_from (cabinet g b) a b ≡ true) where
    recovered : state_of g b ≡ Recovered
    recovered = (in_state (state_of g b) Recovered).0 (and_true {s = is_in (state_of g b) Recovered} takes).0

    heard : (v.side b a).heard ≡ true
    heard = (and_true {s = marked (cabinet g b).noted.heard a} (and_true {s = is_in (state_of g b) Recovered} takes).1).0

    -- whoever had heard this neighbour's fault packet would have it aware
    calm : unaware γ.big (v.own b) ≡ true
    calm = ⊎_elim (λ e. e) heard_of (un_or_aware γ.big (v.own b) working)
      where
        heard_of : aware γ.big (v.own b) ≡ true → unaware γ.big (v.own b) ≡ true
        heard_of e =
            absurd (un_not_aware γ.big (v.own a) (sender_calm g.n total v γ i a b k is_first)
            ((i.core.pairs a b).heard_of (and_intro e heard)).0)

    waiting : behind γ.big (v.own b) (γ.mind b) ≡ true
    waiting = and_intro calm (rw recovered)

    fresh : (γ.mind b).joined ≡ false
    fresh = ((i.core.nodes b).in_recovered calm recovered).0

    not_chief : b ≢ γ.big.chief
    not_chief = ((i.core.nodes b).in_recovered calm recovered).1

    was_adopted : γ.big.adopted ≡ true
    was_adopted = is_true γ.big.adopted
        (λ e. false≢true (ap (λ (s : State). is_in s Checkpointed) (sym recovered)
        ∙ (in_state (state_of g b) Checkpointed).1 (((i.core.nodes b).waits e not_chief working).1 calm)))

    same_version : (v.own b).version ≡ Known γ.big.topv
    same_version =
        let k = known_is_known (v.own b).version ((i.core.nodes b).unknown_at calm ∙ rw recovered) in
        k ∙ ap Known ((i.core.nodes b).known working (bit_of (v.own b).version) k)

    abbrev g' : Group
    g' = end_recovery g1 b

    off : view g1 ≡ set_line v a b k
    off = view_off g w a b la lb

    space : Room (view g1) b
    space = subst (λ (u : View). Room u b) (sym off)
        (λ d e. rw (upd_other v.lines a (upd (v.lines a) b k) b (λ q. other (sym q))) (room_calm g.n total g γ w i.core b calm d e))

    abbrev r : ℕ → Bool
    r = all_used v b

    seen : view g' ≡ set_line (woken v b (Known γ.big.topv) r) a b k
    unfolding end_recovery
    seen =
        let w1 = with_line_lem Shaped Lined Pictured shaped g a b _ (shaped.less (line g a b) (w.lines a b)) w in
        sim_resume g1 w1 b (cabinet g1 b).phase.version lb (room_resumed (view g1) b (cabinet g1 b).phase.version space)
        ∙ view_woken (view g1) b (cabinet g1 b).phase.version
        ∙ ap (λ (u : View). woken u b (u.own b).version (all_used u b)) off
        ∙ ap (λ (y : Version). woken (set_line v a b k) b y r) same_version
        ∙ woken_swap v a b k (Known γ.big.topv) r other

    same_ghost : g_adopted γ ≡ γ
    same_ghost = λ t. record { big = adopted_same γ.big was_adopted t; mind = γ.mind; wire = γ.wire }

    -- what the history asks
    pub resume_goes : goes g g' b Checkpointed Normal ≡ false
    resume_goes = rw recovered

    pub keeps_resume : Kept total g γ g' (note_cuts h g g')
    keeps_resume = record {
      ghost = γ;
      inv = subst (λ (u : View). Inv g.n total u γ) (sym seen)
          (subst (λ (δ : Ghost). Inv g.n total (set_line (woken v b (Known γ.big.topv) r) a b k) δ) same_ghost
          (woken_off g.n total v γ i a b k is_first waiting fresh not_chief r (λ d e. e) (λ d j e. used_linked (i.core.pairs b d) calm j)));
      past = past_turn g g' b _ (λ c. ap (λ (u : View). (u.own c).state) seen) (sym working) refl past;
      stays = calm_stays i (view g') γ b _ _ (ap (λ (u : View). u.own) seen) (ap (λ (u : View). u.side) seen) calm refl no_fault_lem;
    }

  -- ---- it is dropped

  module _ (saved : is_in (state_of g b) Checkpointed ≡ false) (drops : resumes_from (cabinet g b) a b ≡ false) where
    -- whoever waits for this resume takes it
    none_waits : behind γ.big (v.own b) (γ.mind b) ≡ true → linked (γ.mind a) (γ.mind b) (γ.wire a b) ≡ true → ⊥
    none_waits e j =
        let calm = (and_true {s = unaware γ.big (v.own b)} e).0 in
        let is-in : is_in (state_of g b) Recovered ≡ true = rw saved at (and_true {s = unaware γ.big (v.own b)} e).1 in
        let not_chief = ((i.core.nodes b).in_recovered calm ((in_state (state_of g b) Recovered).0 is-in)).1 in
        let away : eqb (coordinator (cabinet g b)) b ≡ false = ne_eqb _ _ (λ q. not_chief (sym q ∙ chief_of g.n total g γ i.core b calm)) in
        never (and_intro is-in (and_intro ((i.core.pairs a b).tail_heard j calm is-in) (ap not away))) drops

    pub keeps_resume_dropped : Kept total g γ g1 (note_cuts h g g1)
    keeps_resume_dropped =
        keeps_drop total g h γ w i past a b la lb (rw first)
        (λ e. absurd (false≢true (ap is_normal (sym first) ∙ e))) (λ e u j. absurd (none_waits e j))
        (λ e. absurd (false≢true (ap is_fault (sym first) ∙ e)))
