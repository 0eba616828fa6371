-- The commit: every cabinet in use has written and told, so the cuts become the newest save; the coordinator enters normal and puts resume.
use Prim.Native.Nat.{ℕ, ◌+◌, ◌*◌}
use mathlib.Core.Path.{◌≡◌, refl, sym, ap, ◌∙◌, subst, fun_ext}
use mathlib.Core.Logic.{◌≢◌, ⊎_elim, inl}
use mathlib.Core.Bool.{Bool, true, false, cond, not, false≢true}
use mathlib.Core.List.{List, [], ◌∷◌, ◌++◌}
use native.Mathlib.Omega.{arith}
use Rattle.outlet.specs.declared.Party.{Party}
use Rattle.packet.specs.declared.Packet.{Packet}
use Rattle.packet.specs.declared.Packet.TheVariants.{Resume}
use Rattle.state.specs.declared.State.TheVariants.{Checkpointed}
use Rattle.state.specs.declared.Version.TheVariants.{Known}
use Rattle.state.specs.State.{works}
use Rattle.image.specs.Image.{booked}
use Rattle.protocol.specs.History.{upd}
use Rattle.group.specs.Group.{sum}
use Rattle.claims.proofs.State.Fun.{never, is_false, and_true, upd_same, upd_other, sum_cong, sum_zero, kept_at, sum_swap, same_at}
use Rattle.claims.proofs.State.View.{View, Own, Side, used}
use Rattle.claims.proofs.State.Methods.{s_cleared}
use Rattle.claims.proofs.State.ViewMoves.{v_put, v_broadcast, v_resumed}
use Rattle.claims.proofs.Invariant.States.{known_not_lost}
use Rattle.claims.proofs.Invariant.Facts.{Big, Mind, Ghost, Pair, unaware, linked}
use Rattle.claims.proofs.Invariant.Whole.{Inv, PairAt, ChainOf, SumsOf, PlacesOf, out_of, got_of}
use Rattle.claims.proofs.Invariant.Logs.{resumed_by}
use Rattle.claims.proofs.Invariant.Words.{chief_lives, un_works, un_not_aware, used_linked, lead_calm}
use Rattle.claims.proofs.Invariant.Frame.{same_ghost, moved, minded, move_pairs, move_nodes, move_books, move_leads, move_ground, move_meets}
use Rattle.claims.proofs.Moves.Rousing.{o_resumed, resumed_un, roused_from, roused_to, roused_places}
use Rattle.claims.proofs.Moves.CommitPairs.{b_commit, m_commit, g_commit, s_unsaved, Through, unsaved_from, turned, line_empty, not_closed}
use Rattle.claims.proofs.Moves.CommitNodes.{wrote_state, commit_node, chief_node, commit_books, chief_books, commit_lead}
use Rattle.claims.proofs.Moves.CommitSums.{sum_exact}

-- the group after the commit
abbrev pub v_commit : View → Ghost → View
v_commit v γ = v_broadcast (v_resumed v γ.big.chief (Known (not γ.big.topv))) γ.big.chief Resume

module _ (n : ℕ) (total : Party → ℕ) (v : View) (γ : Ghost) (i : Inv n total v γ) (un : unaware γ.big (v.own γ.big.chief) ≡ true)
    (all : (c : ℕ) → (γ.mind c).tab ≡ true → ((γ.mind c).wrote ≡ true) × ((γ.mind c).told ≡ true)) where
  abbrev k : ℕ
  k = γ.big.chief

  abbrev b : Big
  b = γ.big

  abbrev δ : Ghost
  δ = g_commit γ

  pub lives : b.alive ≡ true
  lives = chief_lives n total v γ i.core un

  pub through : (c : ℕ) → Through (γ.mind c)
  through c t =
      let a = all c t in let done = (i.core.nodes c).wrote_done a.0 in
      ((i.core.nodes c).done_joined done, done, a.0, a.1)

  told_of : (c : ℕ) → (γ.mind c).wrote ≡ true → (γ.mind c).told ≡ true
  told_of c e = let h = i.core.nodes c in (all c (h.joined_tab (h.done_joined (h.wrote_done e)))).1

  -- no cabinet that is aware of a fault knows its version
  thaw : b.frozen ≡ false
  thaw = is_false b.frozen (λ f. ⊎_elim (λ e. never un e) (λ e. never (all e.0 e.1).0 e.3) (i.core.chain.no_commit f))

  waits : (c : ℕ) → unaware b (v.own c) ≡ true → ((γ.mind c).tab ≡ true) × ((v.own c).state ≡ Checkpointed)
  waits c u =
      let t = (i.core.nodes c).placed (un_works b (v.own c) u) in
      (t, wrote_state _ _ _ _ _ (i.core.nodes c) u (all c t).0)

  -- all that was sent was taken
  pub equal : (c d : ℕ) → ((γ.wire c d).sent ≡ (γ.wire c d).taken) × ((γ.wire c d).out ≡ (γ.wire c d).got)
  equal c d = go (linked (γ.mind c) (γ.mind d) (γ.wire c d)) refl
    where
      go : (t : Bool) → linked (γ.mind c) (γ.mind d) (γ.wire c d) ≡ t → ((γ.wire c d).sent ≡ (γ.wire c d).taken) × ((γ.wire c d).out ≡ (γ.wire c d).got)
      go true e =
          let tab = (and_true {s = (γ.mind c).tab} (and_true {s = (γ.wire c d).lk} e).1).1 in
          let a = (i.core.pairs c d).closed_equal e (rw (through d tab).1) lives in (a.0, a.1)
      go false e = let a = (i.core.pairs c d).apart e in (a.0 ∙ sym a.1, a.2 ∙ sym a.3)

  -- ---- pairs

  turn : (c d : ℕ) (s t : Side) → Pair b c d (v.own c) (γ.mind c) (v.own d) (γ.mind d) s t (v.lines c d) (γ.wire c d) → (c ≡ k → s.saved ≡ false)
      → Pair (b_commit b) c d (v.own c) (m_commit (γ.mind c)) (v.own d) (m_commit (γ.mind d)) s t (v.lines c d) (γ.wire c d)
  turn c d s t h unsaved = turned _ _ _ _ _ _ _ _ _ _ _ h unsaved (waits c) (waits d) (through c) (through d) (told_of d)

  abbrev o' : Own
  o' = o_resumed (v.own k) (Known (not b.topv))

  abbrev s' : ℕ → Side
  s' j = s_cleared (v.side k j)

  abbrev put : ℕ → List Packet
  put j = resumed_by (used (v.side k j)) (v.lines k j)

  from_any : (j : ℕ) → Pair (b_commit b) k j o' (m_commit (γ.mind k)) (v.own j) (m_commit (γ.mind j)) (s' j) (v.side j k) (put j) (γ.wire k j)
  from_any j =
      let h = unsaved_from _ _ _ _ _ _ _ _ _ _ _ (i.core.pairs k j) in
      let g = turn k j (s_unsaved (v.side k j)) (v.side j k) h (λ e. refl) in
      roused_from _ _ _ _ _ _ _ _ _ _ _ g un
      (inl (line_empty _ _ _ _ _ _ _ _ _ _ _ h (λ e. refl) (waits k) (waits j) (through k) (through j) (told_of j) un))
      (λ q. not_closed _ _ _ _ _ _ _ _ _ _ _ h (λ e. refl) (waits k) (waits j) (through k) (through j) (told_of j))
      (i.meets k j (un_works b (v.own k) un)) (Known (not b.topv)) (used (v.side k j)) (λ e. e) (λ q e. used_linked g un q)

  unready : (γ.mind k).ready ≡ false
  unready = is_false _ (λ e. un_not_aware b (v.own k) un ((i.core.nodes k).ready_is e).0)

  abbrev lines' : ℕ → ℕ → List Packet
  lines' = upd v.lines k put

  line_k : (j : ℕ) → lines' k j ≡ put j
  line_k j = ap (λ (f : ℕ → List Packet). f j) (upd_same v.lines k put)

  line_of : (c j : ℕ) → c ≢ k → lines' c j ≡ v.lines c j
  line_of c j d = ap (λ (f : ℕ → List Packet). f j) (upd_other v.lines k put c d)

  abbrev v' : View
  v' = moved v k o' s' lines' v.slots

  abbrev δ' : Ghost
  δ' = minded δ (b_commit b) k (m_commit (γ.mind k)) γ.wire

  commit_pairs : (c d : ℕ) → PairAt v' δ' c d
  commit_pairs =
      move_pairs v δ (b_commit b) k o' (m_commit (γ.mind k)) s' lines' v.slots γ.wire (λ c j n d. line_of c j n) (λ c j n d. refl)
      (λ c j n d. turn c j _ _ (i.core.pairs c j) (λ e. absurd (n e)))
      (λ j n. subst (λ (l : List Packet). Pair (b_commit b) k j o' (m_commit (γ.mind k)) (v.own j) (m_commit (γ.mind j)) (s' j) (v.side j k) l (γ.wire k j))
      (sym (line_k j)) (from_any j))
      (subst (λ (l : List Packet). Pair (b_commit b) k k o' (m_commit (γ.mind k)) o' (m_commit (γ.mind k)) (s' k) (s' k) l (γ.wire k k))
      (sym (line_k k)) (roused_to _ _ _ _ _ _ _ _ _ _ _ (from_any k) un refl refl unready (Known (not b.topv))))
      (λ c n. subst (λ (l : List Packet). Pair (b_commit b) c k (v.own c) (m_commit (γ.mind c)) o' (m_commit (γ.mind k)) (v.side c k) (s' c) l (γ.wire c k))
      (sym (line_of c k n))
      (roused_to _ _ _ _ _ _ _ _ _ _ _ (turn c k _ _ (i.core.pairs c k) (λ e. absurd (n e))) un refl refl unready (Known (not b.topv))))

  -- ---- bookings

  out_got : (y : Party) → sum (λ c. out_of γ c y) 8 ≡ sum (λ c. got_of γ c y) 8
  out_got y =
      sum_cong (λ c. out_of γ c y) (λ c. sum (λ d. (γ.wire c d).got y) 8) 8 (λ c l. sum_cong _ _ 8 (λ d q. same_at (equal c d).1 y))
      ∙ sum_swap (λ c d. (γ.wire c d).got y) 8 8

  -- a cabinet that is not in use sent nothing and took nothing
  idle : (c : ℕ) → (γ.mind c).tab ≡ false → (y : Party) → (out_of γ c y ≡ 0) × (got_of γ c y ≡ 0)
  idle c t y = (
    sum_zero _ 8 (λ d l. same_at ((i.core.pairs c d).apart (off_from d)).2 y),
    sum_zero _ 8 (λ d l. same_at ((i.core.pairs d c).apart (off_to d)).3 y),
  )
    where
      off_from : (d : ℕ) → linked (γ.mind c) (γ.mind d) (γ.wire c d) ≡ false
      off_from d = is_false _ (λ e. never (and_true {s = (γ.mind c).tab} (and_true {s = (γ.wire c d).lk} e).1).0 t)

      off_to : (d : ℕ) → linked (γ.mind d) (γ.mind c) (γ.wire d c) ≡ false
      off_to d = is_false _ (λ e. never (and_true {s = (γ.mind d).tab} (and_true {s = (γ.wire d c).lk} e).1).1 t)

  one_book : (y : Party) (c : ℕ) → (x : ℕ) × (booked y (m_commit (γ.mind c)).top + out_of γ c y + 65536 * x ≡ booked y (γ.mind c).base + got_of γ c y)
  one_book y c = go (γ.mind c).tab refl
    where
      go : (t : Bool) → (γ.mind c).tab ≡ t
          → (x : ℕ) × (booked y (cond t (γ.mind c).cut (γ.mind c).top) + out_of γ c y + 65536 * x ≡ booked y (γ.mind c).base + got_of γ c y)
      go true e = (i.core.books c).at_cut lives (through c e).1 y
      go false e = let z = idle c e y in (0, omega (arith, z.0, z.1, ap (booked y) ((i.core.nodes c).gone e).0))

  commit_sums : SumsOf total δ
  commit_sums =
      let s = i.core.sums in
      record {
        least = s.least;
        bases = s.bases;
        tops = λ y. sum_exact (λ c. booked y (m_commit (γ.mind c)).top) (λ c. out_of γ c y) (λ c. booked y (γ.mind c).base) (λ c. got_of γ c y) 8 (total y) (s.least y) (s.bases y) (out_got y)
            (λ c l. one_book y c);
        prevs = λ e. s.tops;
      }

  -- ---- the rest

  work_kept : works o'.state ≡ works (v.own k).state
  work_kept = sym (un_works b (v.own k) un)

  commit_places : PlacesOf v' δ
  commit_places = roused_places v γ k (Known (not b.topv)) un s' lines' v.slots i.places

  commit_chain : ChainOf v' δ'
  commit_chain = record {
    no_commit = λ f. absurd (never f thaw);
    lives = λ e. lives;
    alone = λ e f j w. absurd (false≢true (sym (kept_at (λ (x : Mind). x.done) δ.mind k (m_commit (γ.mind k)) refl k) ∙ f));
    company = λ j d w e. ⊎_elim (λ q. absurd (false≢true q.1)) (λ q. absurd (never lives q)) e;
  }

  commit_moved : Inv n total v' δ
  commit_moved = subst (λ (x : Ghost). Inv n total v' x) (same_ghost δ k) (record {
    core = record {
      pairs = commit_pairs;
      nodes = move_nodes v δ (b_commit b) k o' (m_commit (γ.mind k)) s' lines' v.slots γ.wire (λ j d. refl)
          (λ j d. commit_node _ _ _ _ _ (i.core.nodes j) (through j) lives thaw d)
          (chief_node _ _ _ _ _ (i.core.nodes k) (through k) lives thaw refl un);
      books = move_books v δ (b_commit b) k o' (m_commit (γ.mind k)) s' lines' v.slots γ.wire (λ j. refl) (λ j. refl)
          (λ j d. commit_books _ _ _ _ _ (i.core.books j)) (chief_books _ _ _ _ _ (Known (not b.topv)) un (i.core.books k));
      leads = move_leads v δ (b_commit b) k o' (m_commit (γ.mind k)) s' lines' v.slots γ.wire (λ j d. commit_lead _ _ _ (i.core.leads j))
          (commit_lead _ _ _ (lead_calm b k (v.own k) o' (i.core.leads k) un (resumed_un b (v.own k) (Known (not b.topv))) refl known_not_lost));
      ground = move_ground v δ k o' (m_commit (γ.mind k)) s' lines' v.slots γ.wire work_kept refl (λ i j. refl) (b_commit b) refl refl refl refl refl i.core.ground;
      chain = commit_chain;
      sums = subst (λ (x : Ghost). SumsOf total x) (sym (same_ghost δ k)) commit_sums;
    };
    places = subst (λ (x : Ghost). PlacesOf v' x) (sym (same_ghost δ k)) commit_places;
    meets = move_meets v k o' s' lines' v.slots work_kept (λ d. refl) i.meets;
  })

  -- the same, as the group shows it
  seen : v_commit v γ ≡ v'
  seen = λ t. record {
    own = upd v.own k o';
    side = upd v.side k s';
    lines = upd v.lines k (puts t);
    slots = v.slots;
    sound = v.sound;
  }
    where
      puts : v_put (v_resumed v k (Known (not b.topv))) k (λ j. Resume) ≡ put
      puts = fun_ext (λ j. ap (λ (f : ℕ → Side). cond (used (f j)) (v.lines k j ++ (Resume ∷ [])) (v.lines k j)) (upd_same v.side k s'))

  pub commit_inv : Inv n total (v_commit v γ) (g_commit γ)
  commit_inv = subst (λ (x : View). Inv n total x (g_commit γ)) (sym seen) commit_moved
