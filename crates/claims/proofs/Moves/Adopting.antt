-- A resume taken in checkpointed: the cabinet's version is that of the save that the rule gives, it goes on in normal and puts resume on its
-- other lines. From now on the save is known to more than its coordinator.
use Prim.Native.Nat.{ℕ, ◌<◌, ◌≤◌}
use mathlib.Core.Path.{◌≡◌, refl, sym, ap, ◌∙◌, subst, fun_ext}
use mathlib.Core.Logic.{◌≢◌, ⊎_elim, inl}
use mathlib.Core.Bool.{Bool, true, false, cond, not, ◌&&◌, false≢true, true≢false}
use mathlib.Core.List.{List, [], ◌∷◌, ◌++◌, nil≢cons}
use lib.ListN.{get_or, set, replicate, get_or-replicate}
use lib.Dec.{eqb}
use borrow.Author.Tests.{ne_eqb}
use native.Mathlib.Omega.{arith}
use native.Mathlib.Decide.{dec_lt}
use Rattle.marks.specs.Marks.{Marks, marked}
use Rattle.outlet.specs.declared.Party.{Party}
use Rattle.packet.specs.declared.Packet.{Packet}
use Rattle.packet.specs.declared.Packet.TheVariants.{Resume, Empty}
use Rattle.line.specs.declared.Cell.{Cell}
use Rattle.line.specs.Line.{empty_cell, oldest, rest}
use Rattle.state.specs.declared.State.TheVariants.{Normal, Checkpointed}
use Rattle.state.specs.declared.Version.{Version}
use Rattle.state.specs.declared.Version.TheVariants.{Known, Unknown, Lost}
use Rattle.state.specs.State.{is_in, works, is_unknown, adopted}
use Rattle.cabinet.specs.Cabinet.{in_use, resuming}
use Rattle.group.specs.declared.Group.{Group}
use Rattle.outgoing.specs.Lines.{put_all}
use Rattle.group.specs.Group.{cabinet, with_cabinet, state_of, line, with_line}
use Rattle.protocol.specs.History.{History, Save, upd, goes, newest, mark_known, note_known, note_cuts, with_known}
use Rattle.protocol.specs.Restored.{Balanced}
use Rattle.protocol.specs.Moves.{adopt}
use Rattle.claims.proofs.State.Fun.{and_true, and_intro, upd_same, upd_other, not_not}
use Rattle.claims.proofs.State.Every.{with_cabinet_lem, with_line_lem}
use Rattle.claims.proofs.State.View.{View, Own, used, content, view, set_lines, set_line}
use Rattle.claims.proofs.State.Shape.{Shaped, Lined, Pictured, shaped}
use Rattle.claims.proofs.State.Sim.{Fit, view_outgoing, in_use_lem, past_use, row_content}
use Rattle.claims.proofs.State.Methods.{unmark}
use Rattle.claims.proofs.State.ViewMoves.{Room, view_resumed, sim_off, view_off}
use Rattle.claims.proofs.Answers.Tests.{in_state}
use Rattle.claims.proofs.Invariant.Facts.{Ghost, unaware, linked, behind}
use Rattle.claims.proofs.Invariant.Whole.{Inv}
use Rattle.claims.proofs.Invariant.Staying.{no_fault_lem}
use Rattle.claims.proofs.Invariant.Past.{Past, Kept, past_turn, calm_stays}
use Rattle.claims.proofs.Invariant.Logs.{resumed_by}
use Rattle.claims.proofs.Invariant.Words.{un_of, un_not_aware, room_calm, used_linked}
use Rattle.claims.proofs.Moves.Waking.{woken, g_adopted, woken_swap, woken_off, sender_ahead, resume_other, resume_fresh}

-- ---- the move in the view

-- the lines that get a resume: those in use but the one that brought it
abbrev pub others : View → ℕ → ℕ → ℕ → Bool
others v a b d = used (v.side b d) && not (eqb d a)

module _ (g : Group) (w : Fit g) (a b : ℕ) (lb : b < 8) (room : Room (view g) b) where
  abbrev m : Marks
  m = set (in_use (cabinet g b)) a false

  in_marks : (d : ℕ) → marked m d ≡ others (view g) a b d
  in_marks d = unmark (in_use (cabinet g b)) a d ∙ ap (λ (t : Bool). t && not (eqb d a)) (in_use_lem (cabinet g b) (w.cabs b) d)

  past_marks : (d : ℕ) → 8 ≤ d → marked m d ≡ false
  past_marks d l = unmark (in_use (cabinet g b)) a d ∙ rw (past_use (cabinet g b) d l)

  abbrev cells : List Cell
  cells = replicate 8 (record { packet = Resume })

  cell_at : (d : ℕ) → d < 8 → (get_or cells d empty_cell).packet ≡ Resume
  cell_at d l = ap (λ (x : Cell). x.packet) (get_or-replicate 8 d (record { packet = Resume }) empty_cell l)

  after_one : (d : ℕ)
      → cond (marked m d) ((view g).lines b d ++ ((get_or cells d empty_cell).packet ∷ [])) ((view g).lines b d)
      ≡ resumed_by (others (view g) a b d) ((view g).lines b d)
  after_one d = elim (dec_lt d 8) [
    | yes l ↦ rw (in_marks d, cell_at d l)
    | no n ↦ let none = past_marks d (omega arith) in rw (none, ← in_marks d, none)
  ]

  abbrev x : Version
  x = adopted (cabinet g b).phase.version

  pub sim_adopt : view (adopt g a b) ≡ woken (view g) b x (others (view g) a b)
  unfolding adopt put_all
  sim_adopt =
      let changed = with_cabinet_lem Shaped Lined Pictured shaped g b _ (shaped.resuming (cabinet g b) x (w.cabs b)) w in
      view_outgoing (with_cabinet g b (resuming (cabinet g b) x)) changed.frame b _ lb
      ∙ ap (set_lines (view (with_cabinet g b (resuming (cabinet g b) x))) b)
      (row_content g w b m cells past_marks (λ d l. rw (cell_at d l))
      (λ d e. room d (and_true {s = used ((view g).side b d)} (sym (in_marks d) ∙ e)).0) ∙ fun_ext after_one)
      ∙ ap (λ (v : View). set_lines v b (λ d. resumed_by (others (view g) a b d) ((view g).lines b d))) (view_resumed g w b x lb)

-- ---- the history: the newest save is known

known_newest : (s : List Save) (z : Save) → (s ≡ [] → z.known ≡ true) → (newest (mark_known s) z).known ≡ true
known_newest [] z e = e refl
known_newest (x ∷ s) z e = refl

known_balanced : (s : List Save) (z : Save) → Balanced (newest s z) → Balanced (newest (mark_known s) z)
known_balanced [] z e = e
known_balanced (x ∷ s) z e = e

known_cut : (s : List Save) (z : Save) → (newest (mark_known s) z).cut ≡ (newest s z).cut
known_cut [] z = refl
known_cut (x ∷ s) z = refl

pub past_adopted : (n : ℕ) (v : View) (γ : Ghost) (h : History) → Past n v γ h → Past n v (g_adopted γ) (note_known true h)
past_adopted n v γ h p = record {
  sent = p.sent;
  taken = p.taken;
  damaged = p.damaged;
  hurt = p.hurt;
  cuts = p.cuts;
  no_cut = p.no_cut;
  known = known_newest h.saves h.start start_known;
  tops = λ c l. rw (known_cut h.saves h.start) (p.tops c l);
  balanced = known_balanced h.saves h.start p.balanced;
  present = p.present;
  gone = p.gone;
  beyond = p.beyond;
  below = λ e. absurd (true≢false e);
  begun = ⊎_elim (λ e. p.begun (inl e)) (λ e. absurd (true≢false e));
  waits = λ c s j. let x = p.waits c s j in (x.0, (with_known x.1.0 true, x.1.1, ap mark_known x.1.2));
}
  where
    start_known : h.saves ≡ [] → h.start.known ≡ true
    start_known e = go γ.big.adopted refl
      where
        go : (t : Bool) → γ.big.adopted ≡ t → h.start.known ≡ true
        go true f = ap (λ (s : List Save). (newest s h.start).known) (sym e) ∙ p.known ∙ f
        go false f = absurd (nil≢cons (sym e ∙ (p.below f).2))

-- ---- the step

module _ (total : Party → ℕ) (g : Group) (h : History) (γ : Ghost) (w : Fit g) (i : Inv g.n total (view g) γ) (past : Past g.n (view g) γ h)
    (a b : ℕ) (la : a < 8) (lb : b < 8) (first : oldest (line g a b) ≡ Resume) (saved : state_of g b ≡ Checkpointed) where
  abbrev v : View
  v = view g

  abbrev k : List Packet
  k = content (rest (line g a b)).cells

  is_first : v.lines a b ≡ Resume ∷ k
  is_first = sim_off g a b (rw first) ∙ ap (λ (p : Packet). p ∷ k) first

  calm : unaware γ.big (v.own b) ≡ true
  calm = un_of γ.big (v.own b) (rw saved) (rw saved)

  abbrev waits : ((γ.mind b).joined ≡ false) × (b ≢ γ.big.chief)
  waits = resume_fresh g.n total v γ i a b 0 (ap (λ (l : List Packet). get_or l 0 Empty) is_first) saved

  fresh : (γ.mind b).joined ≡ false
  fresh = waits.0

  not_chief : b ≢ γ.big.chief
  not_chief = waits.1

  waiting : behind γ.big (v.own b) (γ.mind b) ≡ true
  waiting = and_intro calm (rw (saved, fresh))

  -- the version is the one after the old
  newer : adopted (v.own b).version ≡ Known γ.big.topv
  newer = go (v.own b).version refl
    where
      go : (y : Version) → (v.own b).version ≡ y → adopted y ≡ Known γ.big.topv
      go (Known x) e = absurd (false≢true (ap is_unknown (sym e) ∙ (i.core.nodes b).unknown_at calm ∙ rw (saved, ne_eqb b γ.big.chief not_chief)))
      go (Unknown x) e = ap Known (ap not ((i.core.nodes b).old_before (rw saved) x e fresh) ∙ not_not γ.big.topv)
      go Lost e = absurd (un_not_aware γ.big (v.own b) calm ((i.core.leads b).blank (rw saved) e).0)

  abbrev g1 : Group
  g1 = with_line g a b (rest (line g a b))

  abbrev g' : Group
  g' = adopt g1 a b

  other : a ≢ b
  other = resume_other g.n total v γ i a b k is_first

  off : view g1 ≡ set_line v a b k
  off = view_off g w a b la lb

  space : Room (view g1) b
  space = subst (λ (u : View). Room u b) (sym off)
      (λ d e. rw (upd_other v.lines a (upd (v.lines a) b k) b (λ q. other (sym q))) (room_calm g.n total g γ w i.core b calm d e))

  abbrev r : ℕ → Bool
  r = others v a b

  seen : view g' ≡ set_line (woken v b (Known γ.big.topv) r) a b k
  seen =
      sim_adopt g1 (with_line_lem Shaped Lined Pictured shaped g a b _ (shaped.less (line g a b) (w.lines a b)) w) a b lb space
      ∙ ap (λ (u : View). woken u b (adopted (u.own b).version) (others u a b)) off
      ∙ ap (λ (y : Version). woken (set_line v a b k) b y r) newer
      ∙ woken_swap v a b k (Known γ.big.topv) r other

  -- whoever waits for a resume of this cabinet is not the one that brought it
  reached : (d : ℕ) → linked (γ.mind b) (γ.mind d) (γ.wire b d) ≡ true → behind γ.big (v.own d) (γ.mind d) ≡ true → r d ≡ true
  reached d j e = and_intro (used_linked (i.core.pairs b d) calm j) (ap not (ne_eqb d a apart))
    where
      apart : d ≢ a
      apart q = sender_ahead g.n total v γ i a b k is_first (ap (λ (c : ℕ). behind γ.big (v.own c) (γ.mind c)) (sym q) ∙ e)

  -- what the history asks
  pub adopt_goes : goes g g' b Checkpointed Normal ≡ true
  adopt_goes =
      and_intro ((in_state (state_of g b) Checkpointed).1 saved)
      (ap (λ (u : View). is_in (u.own b).state Normal) seen ∙ ap (λ (y : Own). is_in y.state Normal) (upd_same v.own b _))

  pub keeps_adopt : Kept total g γ g' (note_cuts (note_known true h) g g')
  keeps_adopt = record {
    ghost = g_adopted γ;
    inv = subst (λ (u : View). Inv g.n total u (g_adopted γ)) (sym seen)
        (woken_off g.n total v γ i a b k is_first waiting fresh not_chief r (λ d e. (and_true {s = used (v.side b d)} e).0) reached);
    past = past_turn g g' b _ (λ c. ap (λ (u : View). (u.own c).state) seen) (sym (ap works saved)) refl (past_adopted g.n v γ h past);
    stays = calm_stays i (view g') (g_adopted γ) b _ _ (ap (λ (u : View). u.own) seen) (ap (λ (u : View). u.side) seen) calm refl no_fault_lem;
  }
