-- A checkp compared: where its value is that of the receiver's register, all that was sent so far is what was taken, and where it is
-- not, a packet of the line was hurt.
use Prim.Native.Nat.{ℕ, zero, suc}
use mathlib.Core.Path.{◌≡◌, refl, sym, ap, ◌∙◌, subst, fun_ext}
use mathlib.Core.Logic.{◌≢◌, inl, ⊎_elim}
use mathlib.Core.Bool.{Bool, true, false, not, ◌&&◌, false≢true}
use mathlib.Core.List.{List, [], ◌∷◌, ◌++◌, append-nil, nil≢cons}
use lib.ListN.{length, take, drop, take-append-drop}
use lib.Seq.{drop-length}
use native.Mathlib.Omega.{arith}
use native.Mathlib.Decide.{ℕ_discrete}
use Rattle.outlet.specs.declared.Party.{Party}
use Rattle.packet.specs.declared.Check.{Check}
use Rattle.packet.specs.declared.Payload.{Payload}
use Rattle.packet.specs.declared.Packet.{Packet}
use Rattle.packet.specs.declared.Packet.TheVariants.{Checkp}
use Rattle.packet.specs.Packet.{start_check}
use Rattle.state.specs.declared.State.{State}
use Rattle.state.specs.declared.State.TheVariants.{CheckpBegin, Recovered}
use Rattle.image.specs.declared.Image.{Image}
use Rattle.state.specs.State.{is_in, works}
use Rattle.protocol.specs.History.{upd}
use Rattle.claims.proofs.State.Fun.{never, is_true, is_false, and_true, and_intro, upd_elim, upd_same, upd_other, or_right, upd_id, kept_at, kept_pair, same_at}
use Rattle.claims.proofs.State.View.{View, Own, Side, used, set_line}
use Rattle.claims.proofs.State.Methods.{s_compared}
use Rattle.claims.proofs.State.ViewMoves.{v_compare}
use Rattle.claims.proofs.Invariant.Facts.{Big, Mind, Wire, Ghost, Pair, Stream, Node, aware, unaware, linked, closed, amounts_in, count, checkp_last, check_of, Amounts, Differ, same, is_checkp, amount}
use Rattle.claims.proofs.Invariant.Whole.{Inv}
use Rattle.claims.proofs.Invariant.Logs.{equal_checks, fitting_drop, check_none, differ_none, only_alarms, no_checkp_end, count_none}
use Rattle.claims.proofs.Invariant.Words.{un_or_aware, un_not_aware, linked_used, live_line}
use Rattle.claims.proofs.Invariant.Frame.{out_kept, got_kept, move_pairs, move_nodes, move_books, quiet_inv}

-- ---- logs

amounts_drop : (i : ℕ) (l : List Payload) → Amounts l → Amounts (drop i l)
unfolding Amounts
amounts_drop zero l a = a
amounts_drop (suc i) [] a = a
amounts_drop (suc i) (p ∷ l) a = amounts_drop i l a.1

-- ---- the sender of a checkp

module _ (b : Big) (c d : ℕ) (o : Own) (m : Mind) (p : Own) (n : Mind) (s t : Side) (x : Check) (k : List Packet) (w : Wire)
    (h : Pair b c d o m p n s t (Checkp x ∷ k) w) (z : Bool → Image) (node : Node b c o m z) where
  there : (works o.state ≡ true) × (works p.state ≡ true) × (used s ≡ true)
  there = live_line h (λ e. nil≢cons (sym e))

  -- it knows of no fault
  pub checkp_un : unaware b o ≡ true
  checkp_un =
      ⊎_elim (λ u. u) (λ a. absurd (only_alarms _ _ (Checkp x) k refl (h.alarms a (node.place_known a).0 (node.place_known a).1))) (un_or_aware b o there.0)

  pub checkp_linked : linked m n w ≡ true
  checkp_linked = linked_used h checkp_un (node.placed there.0) there.2

  -- it has joined the save
  pub checkp_joined : m.joined ≡ true
  unfolding count
  checkp_joined = is_true m.joined (λ f. absurd (omega (arith, h.no_checkp checkp_un f)))

  -- no packet follows
  pub checkp_end : k ≡ []
  unfolding checkp_last
  checkp_end = (h.last_checkp checkp_un).0 refl

  -- the receiver waits for it
  pub checkp_open : closed b p n t ≡ false
  checkp_open = is_false _ (λ e. nil≢cons (sym (h.closed_empty checkp_linked e checkp_un)))

  module _ (up : unaware b p ≡ true) where
    stream : Stream (m.joined && not (n.joined && t.come)) t.hurt s.put t.took w (Checkp x ∷ k)
    stream = h.stream checkp_linked checkp_un up

    sent_value : x ≡ check_of (drop w.ver w.sent)
    sent_value = stream.carries x [] (ap (λ (r : List Packet). Checkp x ∷ r) checkp_end)

    all_taken : drop w.ver w.taken ++ amounts_in (Checkp x ∷ k) ≡ drop w.ver w.taken
    unfolding amounts_in
    all_taken = rw (checkp_end, append-nil)

    differing : Differ t.hurt (drop w.ver w.sent) (drop w.ver w.taken)
    differing = subst (Differ t.hurt (drop w.ver w.sent)) all_taken stream.differ

    -- an unequal value: a packet of the line was hurt
    pub unequal_pair : x ≢ t.took → t.hurt ≡ true
    unequal_pair other = is_true t.hurt (λ f.
        other (sent_value
        ∙ (ap check_of (differ_none (subst (λ (y : Bool). Differ y (drop w.ver w.sent) (drop w.ver w.taken)) f differing))
        ∙ sym stream.reads)))

    -- an equal one: none was, and what was sent is what was taken
    pub equal_pair : x ≡ t.took → (t.hurt ≡ false) × (drop w.ver w.sent ≡ drop w.ver w.taken)
    equal_pair equal =
        equal_checks t.hurt _ _ differing (amounts_drop w.ver w.sent h.small.0) (amounts_drop w.ver w.taken h.small.1.0) (fitting_drop w.ver w.taken h.fit.1)
        (sym sent_value ∙ (equal ∙ stream.reads))

    module _ (equal : x ≡ t.took) (begins : p.state ≡ CheckpBegin) (joined : n.joined ≡ true) where
      unhurt_equal : (t.hurt ≡ false) × (drop w.ver w.sent ≡ drop w.ver w.taken)
      unhurt_equal = equal_pair equal

      pub equal_logs : w.sent ≡ w.taken
      equal_logs =
          sym (take-append-drop w.ver w.sent)
          ∙ (ap (λ (r : List Payload). r ++ drop w.ver w.sent) stream.equal
          ∙ (ap (λ (r : List Payload). take w.ver w.taken ++ r) unhurt_equal.1 ∙ take-append-drop w.ver w.taken))

      -- nothing is on the way, and nothing was hurt
      pub equal_sums : (w.out ≡ w.got) × (w.hurt ≡ false)
      unfolding amounts_in amount
      equal_sums = (
        fun_ext (λ y. omega (arith, stream.on_way unhurt_equal.0 y, ap (amount y) (ap amounts_in checkp_end))),
        sym stream.tells ∙ unhurt_equal.0,
      )

      not_come : t.come ≡ false
      not_come = is_false t.come (λ e. never (comes e) checkp_open)
        where
          comes : t.come ≡ true → closed b p n t ≡ true
          comes e = or_right n.done _ (and_intro (ap (λ (z : State). is_in z CheckpBegin) begins) (and_intro up e))

      restarted : s.put ≡ start_check
      restarted = rw (checkp_joined, joined, not_come) at stream.writes

-- ---- an equal comparison covers all that was sent

abbrev pub w_covered : Wire → Wire
w_covered w = record { sent = w.sent; taken = w.taken; ver = length w.sent; out = w.out; got = w.got; hurt = w.hurt; lk = w.lk }

abbrev pub g_compare : Ghost → ℕ → ℕ → Ghost
g_compare γ a b = record { big = γ.big; mind = γ.mind; wire = upd γ.wire a (upd (γ.wire a) b (w_covered (γ.wire a b))) }

covered_stream : (w : Wire) → w.sent ≡ w.taken → w.out ≡ w.got → w.hurt ≡ false → Stream false false start_check start_check (w_covered w) []
unfolding amounts_in amount
covered_stream w e f u = record {
  equal = ap (take (length w.sent)) e;
  within = omega (arith, ap length e);
  within_sent = omega arith;
  differ = rw (drop-length, ended) same;
  reads = sym (ap check_of ended ∙ check_none);
  writes = sym (ap check_of (drop-length w.sent) ∙ check_none);
  carries = λ v k x. absurd (no_checkp_end [] v k (count_none is_checkp) x);
  on_way = λ x y. omega (arith, same_at f y);
  tells = sym u;
}
  where
    ended : drop (length w.sent) w.taken ≡ []
    ended = rw (e, drop-length)

module _ (b : Big) (c d : ℕ) (o : Own) (m : Mind) (p : Own) (n : Mind) (s t : Side) (x : Check) (k : List Packet) (w : Wire)
    (h : Pair b c d o m p n s t (Checkp x ∷ k) w) (z : Bool → Image) (node : Node b c o m z) (up : unaware b p ≡ true) (equal : x ≡ t.took)
    (begins : p.state ≡ CheckpBegin) (joined : n.joined ≡ true) where
  un : unaware b o ≡ true
  un = checkp_un _ _ _ _ _ _ _ _ _ _ _ _ h z node

  all_equal : (w.sent ≡ w.taken) × (w.out ≡ w.got) × (w.hurt ≡ false)
  all_equal =
      let sums = equal_sums _ _ _ _ _ _ _ _ _ _ _ _ h z node up equal begins joined in
      (equal_logs _ _ _ _ _ _ _ _ _ _ _ _ h z node up equal begins joined, sums.0, sums.1)

  covered : Stream (m.joined && not (n.joined && true)) false s.put start_check (w_covered w) []
  covered =
      rw (checkp_joined _ _ _ _ _ _ _ _ _ _ _ _ h z node, joined, restarted _ _ _ _ _ _ _ _ _ _ _ _ h z node up equal begins joined)
      (covered_stream w all_equal.0 all_equal.1 all_equal.2)

  not_aware : {A : Type 0} → aware b o ≡ true → A
  not_aware e = absurd (un_not_aware b o un e)

  pub compare_here : Pair b c d o m p n s (s_compared t) [] (w_covered w)
  unfolding count checkp_last amounts_in Amounts amount
  compare_here = record {
    table = h.table;
    struck = h.struck;
    closed_joined = λ j e. checkp_joined _ _ _ _ _ _ _ _ _ _ _ _ h z node;
    closed_equal = λ j e a. all_equal;
    closed_empty = λ j e u. refl;
    apart = λ e. absurd (never (checkp_linked _ _ _ _ _ _ _ _ _ _ _ _ h z node) e);
    owes = h.owes;
    owes_home = h.owes_home;
    reported = h.reported;
    begun_bare = h.begun_bare;
    readied = h.readied;
    ready_heard = h.ready_heard;
    silent = λ e. refl;
    alarms = λ a. not_aware a;
    unheard = λ a. not_aware a;
    heard = λ e. refl;
    heard_of = h.heard_of;
    no_fault = λ u. refl;
    no_checkp = λ u f. refl;
    last_checkp = λ u. tt;
    behind_empty = λ e. inl refl;
    resumed = λ j u f e. absurd (false≢true (rw begins at (and_true {s = unaware b p} e).1));
    came = λ j u e. refl;
    tail_heard = h.tail_heard;
    stream = λ j u v. covered;
    fresh = h.fresh;
    room = λ u. omega arith;
    sound = λ e. refl;
    unhurt = λ e u. refl;
    no_more = λ y e. omega (arith, h.no_more y e);
    small = (h.small.0, (h.small.1.0, tt));
    fit = h.fit;
  }

-- the line the other way: nothing of it is compared
pub compare_back : (b : Big) (c d : ℕ) (o : Own) (m : Mind) (p : Own) (n : Mind) (s t : Side) (l : List Packet) (w : Wire) → Pair b c d o m p n s t l w
    → Pair b c d o m p n (s_compared s) t l w
compare_back b c d o m p n s t l w h =
    let fr : aware b o ≡ true → is_in o.state Recovered ≡ true → (s.put ≡ start_check) × (start_check ≡ start_check) × (◌≡◌ {A = Bool} false false) =
    λ a e. ((h.fresh a e).0, refl, refl)
    in
    search

-- ---- together

module _ (n : ℕ) (total : Party → ℕ) (v : View) (γ : Ghost) (i : Inv n total v γ) (a b : ℕ) (x : Check) (k : List Packet) (here : v.lines a b ≡ Checkp x ∷ k)
    (un : unaware γ.big (v.own b) ≡ true) where
  abbrev pub Between : List Packet → Type 0
  Between l = Pair γ.big a b (v.own a) (γ.mind a) (v.own b) (γ.mind b) (v.side a b) (v.side b a) l (γ.wire a b)

  pub between : Between (Checkp x ∷ k)
  between = subst Between here (i.core.pairs a b)

  -- a checkp whose value is another
  pub unequal_hurt : x ≢ (v.side b a).took → (v.side b a).hurt ≡ true
  unequal_hurt = unequal_pair _ _ _ _ _ _ _ _ _ _ _ _ between _ (i.core.nodes a) un

  -- one whose value is the register's
  pub equal_unhurt : x ≡ (v.side b a).took → (v.side b a).hurt ≡ false
  equal_unhurt e = (equal_pair _ _ _ _ _ _ _ _ _ _ _ _ between _ (i.core.nodes a) un e).0

  -- and the mark tells of all that was hurt since the last recovery's end
  pub mark_tells : (v.side b a).hurt ≡ (γ.wire a b).hurt
  mark_tells = (stream _ _ _ _ _ _ _ _ _ _ _ _ between _ (i.core.nodes a) un).tells

  -- the ends of a line with a checkp are two
  pub checkp_other : b ≢ a
  checkp_other e =
      let lk = (and_true {s = (γ.wire a b).lk} (checkp_linked _ _ _ _ _ _ _ _ _ _ _ _ between _ (i.core.nodes a))).0 in
      never lk (ap (λ (j : ℕ). (γ.wire a j).lk) e ∙ i.core.ground.link_other a)

  module _ (equal : x ≡ (v.side b a).took) (begins : (v.own b).state ≡ CheckpBegin) where
    abbrev s' : ℕ → Side
    s' = upd (v.side b) a (s_compared (v.side b a))

    abbrev lines' : ℕ → ℕ → List Packet
    lines' = upd v.lines a (upd (v.lines a) b k)

    abbrev wire' : ℕ → ℕ → Wire
    wire' = (g_compare γ a b).wire

    line_other : (c d : ℕ) → c ≢ a → lines' c d ≡ v.lines c d
    line_other c d n = ap (λ (f : ℕ → List Packet). f d) (upd_other v.lines a _ c n)

    wire_other : (c d : ℕ) → c ≢ a → wire' c d ≡ γ.wire c d
    wire_other c d n = ap (λ (f : ℕ → Wire). f d) (upd_other γ.wire a _ c n)

    line_past : (c d : ℕ) → d ≢ b → lines' c d ≡ v.lines c d
    line_past c d n =
        upd_elim (λ (f : ℕ → List Packet). f d ≡ v.lines c d) v.lines a _ c
        (λ q. upd_other (v.lines a) b k d n ∙ ap (λ (y : ℕ). v.lines y d) (sym q)) (λ e. refl)

    wire_past : (c d : ℕ) → d ≢ b → wire' c d ≡ γ.wire c d
    wire_past c d n =
        upd_elim (λ (f : ℕ → Wire). f d ≡ γ.wire c d) γ.wire a _ c
        (λ q. upd_other (γ.wire a) b _ d n ∙ ap (λ (y : ℕ). γ.wire y d) (sym q)) (λ e. refl)

    -- the pair of sender and receiver
    at_here : Pair γ.big a b (v.own a) (γ.mind a) (v.own b) (γ.mind b) (v.side a b) (s' a) (lines' a b) (wire' a b)
    at_here =
        rw (
          upd_same (v.side b) a (s_compared (v.side b a)),
          upd_same v.lines a (upd (v.lines a) b k),
          upd_same (v.lines a) b k,
          upd_same γ.wire a (upd (γ.wire a) b (w_covered (γ.wire a b))),
          upd_same (γ.wire a) b (w_covered (γ.wire a b)),
          checkp_end _ _ _ _ _ _ _ _ _ _ _ _ between _ (i.core.nodes a),
        ) (compare_here _ _ _ _ _ _ _ _ _ _ _ _ between _ (i.core.nodes a) un equal begins ((i.core.nodes b).in_begin un begins).0)

    from_b : (j : ℕ) → Pair γ.big b j (v.own b) (γ.mind b) (v.own j) (γ.mind j) (s' j) (v.side j b) (lines' b j) (wire' b j)
    from_b j =
        rw (line_other b j checkp_other, wire_other b j checkp_other)
        (elim (ℕ_discrete j a) [
          | yes e ↦ rw (e, upd_same (v.side b) a (s_compared (v.side b a))) (compare_back _ _ _ _ _ _ _ _ _ _ _ (i.core.pairs b a))
          | no n ↦ rw (upd_other (v.side b) a (s_compared (v.side b a)) j n) (i.core.pairs b j)
        ])

    to_b : (c : ℕ) → Pair γ.big c b (v.own c) (γ.mind c) (v.own b) (γ.mind b) (v.side c b) (s' c) (lines' c b) (wire' c b)
    to_b c = elim (ℕ_discrete c a) [
      | yes e ↦ rw e at_here
      | no n ↦ rw (upd_other (v.side b) a (s_compared (v.side b a)) c n, line_other c b n, wire_other c b n) (i.core.pairs c b)
    ]

    self : Pair γ.big b b (v.own b) (γ.mind b) (v.own b) (γ.mind b) (s' b) (s' b) (lines' b b) (wire' b b)
    self =
        rw (line_other b b checkp_other, wire_other b b checkp_other, upd_other (v.side b) a (s_compared (v.side b a)) b checkp_other)
        (i.core.pairs b b)

    abbrev v' : View
    v' = set_line (v_compare v a b) a b k

    abbrev δ : Ghost
    δ = record { big = γ.big; mind = upd γ.mind b (γ.mind b); wire = wire' }

    link_kept : (c d : ℕ) → (wire' c d).lk ≡ (γ.wire c d).lk
    link_kept = kept_pair (λ (y : Wire). y.lk) γ.wire a b (w_covered (γ.wire a b)) refl

    out_stays : (c d : ℕ) → (wire' c d).out ≡ (γ.wire c d).out
    out_stays = kept_pair (λ (y : Wire). y.out) γ.wire a b (w_covered (γ.wire a b)) refl

    got_stays : (c d : ℕ) → (wire' c d).got ≡ (γ.wire c d).got
    got_stays = kept_pair (λ (y : Wire). y.got) γ.wire a b (w_covered (γ.wire a b)) refl

    used_kept : (d : ℕ) → used (s' d) ≡ used (v.side b d)
    used_kept = kept_at used (v.side b) a (s_compared (v.side b a)) refl

    compared : Inv n total v' δ
    compared = quiet_inv n total v γ i b (v.own b) (γ.mind b) s' lines' v.slots wire'
        (refl, refl, refl, refl, refl, refl, refl) (refl, refl, refl, refl, refl, refl, refl) link_kept used_kept
        (move_pairs v γ γ.big b (v.own b) (γ.mind b) s' lines' v.slots wire' (λ c d x y. line_past c d y) (λ c d x y. wire_past c d y)
        (λ c d x y. i.core.pairs c d) (λ j x. from_b j) self (λ c x. to_b c))
        (move_nodes v γ γ.big b (v.own b) (γ.mind b) s' lines' v.slots wire' (λ c x. refl) (λ c x. i.core.nodes c) (i.core.nodes b))
        (move_books v γ γ.big b (v.own b) (γ.mind b) s' lines' v.slots wire' (λ c. out_kept γ δ c (out_stays c))
        (λ c. got_kept γ δ c (λ d. got_stays d c)) (λ c x. i.core.books c) (i.core.books b))

    -- an equal comparison in checkp-begin
    pub compare_inv : Inv n total v' (g_compare γ a b)
    compare_inv = subst (λ (m : ℕ → Mind). Inv n total v' (record { big = γ.big; mind = m; wire = wire' })) (upd_id γ.mind b) compared
