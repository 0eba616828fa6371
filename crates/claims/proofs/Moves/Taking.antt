-- A normal packet that its receiver adds, and that none comes to a cabinet that would not add it.
use Rattle.std.specs.Prelude.{Some}
use Prim.Native.Nat.{ℕ, ◌+◌, ◌*◌, ◌<◌}
use mathlib.Core.Path.{◌≡◌, refl, sym, ap, ◌∙◌, subst}
use mathlib.Core.Logic.{◌≢◌, ◌⊎◌, inl, inr, ⊎_elim}
use mathlib.Core.Bool.{Bool, true, false, not, ◌&&◌, ◌||◌, false≢true, true≢false}
use mathlib.Core.List.{List, [], ◌∷◌, ◌++◌, append_assoc, nil≢cons}
use lib.ListN.{drop, length-append}
use lib.Seq.{drop-append-le, take-append-le}
use native.Mathlib.Omega.{arith}
use native.Mathlib.Decide.{ℕ_discrete}
use Rattle.marks.specs.Marks.{marked}
use Rattle.outlet.specs.declared.Party.{Party}
use Rattle.packet.specs.declared.Payload.{Payload}
use Rattle.packet.specs.declared.Check.{Check}
use Rattle.packet.specs.declared.Place.{Place}
use Rattle.packet.specs.declared.Packet.{Packet}
use Rattle.packet.specs.declared.Packet.TheVariants.{Normal as NormalPacket, Recover}
use Rattle.packet.specs.Packet.{start_check, step_check, fits}
use Rattle.line.specs.Line.{oldest, rest}
use Rattle.state.specs.declared.State.{State}
use Rattle.state.specs.declared.State.TheVariants.{Failed, Normal, CheckpBegin, Checkpointing, Checkpointed, Error, Recovering, Recovered, Crashed}
use Rattle.image.specs.declared.Image.{Image}
use Rattle.state.specs.State.{is_in, works, in_recovery}
use Rattle.image.specs.Image.{booked, credited}
use Rattle.image.proofs.Laws.{booked_credited}
use Rattle.cabinet.specs.Cabinet.{taking}
use Rattle.group.specs.declared.Group.{Group}
use Rattle.group.specs.Group.{cabinet, with_cabinet, state_of, line, with_line, sum}
use Rattle.protocol.specs.Receive.{takes_from}
use Rattle.protocol.specs.History.{History, upd, logged, with_taken, note_cuts}
use Rattle.claims.proofs.State.Fun.{never, and_true, and_intro, is_true, is_false, upd_same, upd_other, upd_elim, sum_at, or_right, kept_at, pair_same, pair_other, pair_both}
use Rattle.claims.proofs.State.Every.{with_line_lem}
use Rattle.claims.proofs.State.View.{View, Own, Side, used, content, view}
use Rattle.claims.proofs.State.Shape.{Shaped, Lined, Pictured, shaped}
use Rattle.claims.proofs.State.Sim.{Fit}
use Rattle.claims.proofs.State.Methods.{s_registers}
use Rattle.claims.proofs.State.ViewMoves.{o_image, v_take, sim_take, sim_off, view_off}
use Rattle.claims.proofs.Invariant.Facts.{Big, Mind, Wire, Ghost, Pair, Node, Books, Stream, SameTo, aware, unaware, linked, behind, closed, amounts_in, count, is_invalid, checkp_last, resume_first, Amounts, Fitting, Differ, amount, part}
use Rattle.claims.proofs.Invariant.Whole.{Inv, PairAt, BooksAt, out_of, got_of}
use Rattle.claims.proofs.Invariant.Staying.{no_fault_lem}
use Rattle.claims.proofs.Invariant.Past.{Past, Kept, no_cuts, calm_stays, calm_error}
use Rattle.claims.proofs.Invariant.Logs.{check_snoc, count_rest, small_snoc, fitting_snoc, fitting_at, fitting_drop, differ_none, only_alarms}
use Rattle.claims.proofs.Invariant.Words.{un_of, un_works, un_not_aware, un_or_aware, linked_used, live_line}
use Rattle.claims.proofs.Invariant.Frame.{moved, minded, move_pairs, move_nodes, same_mind, quiet_inv, out_kept, got_kept}
use Rattle.claims.proofs.Moves.Noting.{image_from, image_to}
use Rattle.claims.proofs.Moves.Sending.{wires, g_wire, wire_kept}

abbrev pub w_taken : Wire → Payload → Wire
w_taken w q = record { sent = w.sent; taken = w.taken ++ (q ∷ []); ver = w.ver; out = w.out; got = λ y. w.got y + part y q; hurt = w.hurt; lk = w.lk }

-- ---- where a normal packet stands first on a line

different : (p : Payload) (k l : List Packet) (v : Bool) → NormalPacket p ∷ k ≡ Recover v ∷ l → ⊥
different p k l v e = let z : ◌≡◌ {A = ℕ} 0 1 = cc in omega arith

-- nor does that of one that waits for a resume
no_end : (s : Bool) (p : Payload) (k : List Packet) → (NormalPacket p ∷ k ≡ []) ⊎ ((v : Bool) × (s ≡ true) × (NormalPacket p ∷ k ≡ Recover v ∷ [])) → ⊥
no_end s p k = ⊎_elim (λ e. nil≢cons (sym e)) (λ e. different p k [] e.0 e.2)

module _ (b : Big) (c d : ℕ) (o : Own) (m : Mind) (p : Own) (n : Mind) (s t : Side) (k : List Packet) (w : Wire) (q : Payload)
    (h : Pair b c d o m p n s t (NormalPacket q ∷ k) w) (alarmed : aware b o ≡ true → (x : Place) × (o.alarm ≡ Some x))
    (tab : works o.state ≡ true → m.tab ≡ true) where
  lively : (works o.state ≡ true) × (works p.state ≡ true) × (used s ≡ true)
  lively = live_line h (λ e. nil≢cons (sym e))

  not_aware : aware b o ≡ true → ⊥
  not_aware e = only_alarms o.version (alarmed e).0 (NormalPacket q) k refl (h.alarms e (alarmed e).0 (alarmed e).1)

  pub sender_calm : unaware b o ≡ true
  sender_calm = ⊎_elim (λ u. u) (λ e. absurd (not_aware e)) (un_or_aware b o lively.0)

  pub sender_linked : linked m n w ≡ true
  sender_linked = linked_used h sender_calm (tab lively.0) lively.2

  -- its receiver has not closed the line
  pub not_closed : closed b p n t ≡ true → ⊥
  not_closed e = nil≢cons (sym (h.closed_empty sender_linked e sender_calm))

  -- and waits for no resume
  pub not_waiting : behind b p n ≡ true → ⊥
  unfolding resume_first
  not_waiting e =
      let ahead : behind b o m ≡ false = is_false (behind b o m) (λ f. no_end (is_in o.state Recovered) q k (h.behind_empty f)) in
      true≢false (sym (h.resumed sender_linked sender_calm ahead e))

  -- one that does not fit its check was hurt: all that was sent fits
  pub unfit_marked : unaware b p ≡ true → fits q ≡ false → t.hurt ≡ true
  unfolding amounts_in
  unfit_marked up u =
      is_true t.hurt (λ e.
      let z : drop w.ver w.sent ≡ drop w.ver w.taken ++ (q ∷ amounts_in k)
      = differ_none (subst (λ (y : Bool). Differ y (drop w.ver w.sent) (drop w.ver w.taken ++ (q ∷ amounts_in k))) e (h.stream sender_linked sender_calm up).differ) in
      never (fitting_at (drop w.ver w.taken) q (amounts_in k) (subst Fitting z (fitting_drop w.ver w.sent h.fit.0))) u)

  -- ---- the packet is added

  module _ (up : unaware b p ≡ true) (fit : fits q ≡ true) (x : Image) where
    abbrev t' : Side
    t' = s_registers t t.put (step_check t.took q) t.hurt

    small_taken : (q.amount < 65536) × Amounts (amounts_in k)
    unfolding Amounts amounts_in
    small_taken = h.small.1.1

    streams : Stream (m.joined && not (n.joined && t.come)) t.hurt s.put t'.took (w_taken w q) k
    unfolding amounts_in amount
    streams =
        let f = h.stream sender_linked sender_calm up in
        let more = drop-append-le w.ver w.taken (q ∷ []) f.within in
        record {
          equal = f.equal ∙ sym (take-append-le w.ver w.taken (q ∷ []) f.within);
          within = omega (arith, f.within, length-append w.taken (q ∷ []));
          within_sent = f.within_sent;
          differ = rw (more, append_assoc) f.differ;
          reads = rw (more, check_snoc) (ap (λ (r : Check). step_check r q) f.reads);
          writes = f.writes;
          carries = λ v j e. f.carries v (NormalPacket q ∷ j) (ap (λ (r : List Packet). NormalPacket q ∷ r) e);
          on_way = λ e y. omega (arith, f.on_way e y);
          tells = f.tells;
        }

    taken_pair : Pair b c d o m (o_image p x) n s t' k (w_taken w q)
    unfolding count checkp_last amounts_in amount
    taken_pair = record {
      table = h.table;
      struck = h.struck;
      closed_joined = h.closed_joined;
      closed_equal = λ j e a. absurd (not_closed e);
      closed_empty = λ j e u. absurd (not_closed e);
      apart = λ e. absurd (never sender_linked e);
      owes = h.owes;
      owes_home = h.owes_home;
      reported = h.reported;
      begun_bare = h.begun_bare;
      readied = h.readied;
      ready_heard = h.ready_heard;
      silent = λ e. absurd (never (and_intro lively.0 (and_intro lively.1 lively.2)) e);
      alarms = λ a. absurd (not_aware a);
      unheard = λ a. absurd (not_aware a);
      heard = λ e. absurd (un_not_aware b p up (and_true {s = aware b p} e).0);
      heard_of = h.heard_of;
      no_fault = λ u. omega (arith, h.no_fault u);
      no_checkp = λ u f. omega (arith, h.no_checkp u f);
      last_checkp = λ u. (h.last_checkp u).1;
      behind_empty = λ e. absurd (no_end (is_in o.state Recovered) q k (h.behind_empty e));
      resumed = λ j u f e. absurd (not_waiting e);
      came = h.came;
      tail_heard = h.tail_heard;
      stream = λ j u v. streams;
      fresh = h.fresh;
      room = λ u. omega (arith, h.room u);
      sound = λ e. count_rest is_invalid (NormalPacket q) k (h.sound e);
      unhurt = h.unhurt;
      no_more = λ y e. omega (arith, h.no_more y e);
      small = (h.small.0, (small_snoc w.taken q h.small.1.0 small_taken.0, small_taken.1));
      fit = (h.fit.0, fitting_snoc w.taken q h.fit.1 fit);
    }

-- the pair back: the receiver's register stands at the sending end
pub took_from : (b : Big) (c d : ℕ) (o : Own) (m : Mind) (p : Own) (n : Mind) (s t : Side) (l : List Packet) (w : Wire) → Pair b c d o m p n s t l w
    → unaware b o ≡ true → (v : Check) → Pair b c d o m p n (s_registers s s.put v s.hurt) t l w
took_from b c d o m p n s t l w h un v =
    let f : aware b o ≡ true → is_in o.state Recovered ≡ true → (s.put ≡ start_check) × (v ≡ start_check) × (s.hurt ≡ false) = λ a. absurd (un_not_aware b o un a) in
    search

-- ---- the receiver

module _ (b : Big) (c : ℕ) (o : Own) (m : Mind) (z : Bool → Image) (h : Node b c o m z) (un : unaware b o ≡ true) (undone : m.done ≡ true → ⊥) where
  pub added_node : (x : Image) → Node b c (o_image o x) m z
  added_node x =
      let ir : aware b o ≡ true → o.state ≡ Recovering → (o.pieces < 4) × SameTo (8 * o.pieces) x m.top = λ a. absurd (un_not_aware b o un a) in
      let re : aware b o ≡ true → o.state ≡ Recovered → (x ≡ m.top) × (b.adopted ≡ true) = λ a. absurd (un_not_aware b o un a) in
      let cu : b.alive ≡ true → m.done ≡ true → unaware b o ≡ true → x ≡ m.cut = λ a d. absurd (undone d) in
      search

  pub taken_books : (out got more q : Party → ℕ) (x : Image) → ((y : Party) → (j : ℕ) × (booked y x + 65536 * j ≡ booked y o.image + q y))
      → ((y : Party) → more y ≡ got y + q y) → Books b o m out got → Books b (o_image o x) m out more
  taken_books out got more q x added e g = record {
    bounded = λ y. omega (arith, g.bounded y, e y);
    live = λ u y. let k = g.live un y in (k.0 + (added y).0, omega (arith, k.1, (added y).1, e y));
    at_cut = λ a d. absurd (undone d);
  }

-- ---- together

module _ (n : ℕ) (total : Party → ℕ) (v : View) (γ : Ghost) (i : Inv n total v γ) (a b : ℕ) (la : a < 8) (q : Payload) (k : List Packet)
    (first : v.lines a b ≡ NormalPacket q ∷ k) where
  here : Pair γ.big a b (v.own a) (γ.mind a) (v.own b) (γ.mind b) (v.side a b) (v.side b a) (NormalPacket q ∷ k) (γ.wire a b)
  here =
      subst (λ (l : List Packet). Pair γ.big a b (v.own a) (γ.mind a) (v.own b) (γ.mind b) (v.side a b) (v.side b a) l (γ.wire a b)) first
      (i.core.pairs a b)

  pub take_linked : linked (γ.mind a) (γ.mind b) (γ.wire a b) ≡ true
  take_linked = sender_linked _ _ _ _ _ _ _ _ _ k _ q here (i.core.nodes a).place_known (i.core.nodes a).placed

  pub take_other : a ≢ b
  take_other e = never (and_true {s = (γ.wire a b).lk} take_linked).0 (ap (λ (j : ℕ). (γ.wire a j).lk) (sym e) ∙ i.core.ground.link_other a)

  pub take_open : closed γ.big (v.own b) (γ.mind b) (v.side b a) ≡ true → ⊥
  take_open = not_closed _ _ _ _ _ _ _ _ _ k _ q here (i.core.nodes a).place_known (i.core.nodes a).placed

  pub take_waits : behind γ.big (v.own b) (γ.mind b) ≡ true → ⊥
  take_waits = not_waiting _ _ _ _ _ _ _ _ _ k _ q here (i.core.nodes a).place_known (i.core.nodes a).placed

  pub take_unfit : unaware γ.big (v.own b) ≡ true → fits q ≡ false → (v.side b a).hurt ≡ true
  take_unfit = unfit_marked _ _ _ _ _ _ _ _ _ k _ q here (i.core.nodes a).place_known (i.core.nodes a).placed

  pub take_undone : (γ.mind b).done ≡ true → ⊥
  take_undone e = take_open (rw e)

  -- a receiver that does not know of a fault adds the packet: it is in normal, or in checkp-begin and waits for the sender's checkp
  pub must_take : unaware γ.big (v.own b) ≡ true → ((v.own b).state ≡ Normal) ⊎ (((v.own b).state ≡ CheckpBegin) × ((v.side b a).come ≡ false))
  must_take un = go (v.own b).state refl
    where
      node : Node γ.big b (v.own b) (γ.mind b) (v.slots b)
      node = i.core.nodes b

      calm_state : (s : State) → (v.own b).state ≡ s → in_recovery s ≡ true → γ.big.faulted ≡ false
      calm_state s e r =
          is_false γ.big.faulted (λ f. un_not_aware γ.big (v.own b) un (and_intro f (ap in_recovery e ∙ r)))

      waits : is_in (v.own b).state Checkpointed && not (γ.mind b).joined || is_in (v.own b).state Recovered ≡ true → ⊥
      waits e = take_waits (and_intro un e)

      go : (s : State) → (v.own b).state ≡ s → ((v.own b).state ≡ Normal) ⊎ (((v.own b).state ≡ CheckpBegin) × ((v.side b a).come ≡ false))
      go Failed e = absurd (never (un_works γ.big (v.own b) un) (rw e))
      go Normal e = inl e
      go CheckpBegin e =
          let at : is_in (v.own b).state CheckpBegin ≡ true = rw e in
          inr (e, is_false (v.side b a).come (λ f. take_open (or_right (γ.mind b).done _ (and_intro at (and_intro un f)))))
      go Checkpointing e = absurd (take_undone (node.in_checkpointing un e).0)
      go Checkpointed e = absurd (⊎_elim (λ (f : (γ.mind b).joined ≡ false). waits (rw (e, f))) (λ f. take_undone (node.wrote_done f)) (node.in_checkpointed un e))
      go Error e = absurd (never (rw e) (node.quiet (calm_state Error e refl)).0)
      go Recovering e = absurd (never (rw e) (node.quiet (calm_state Recovering e refl)).1)
      go Recovered e = absurd (waits (rw e))
      go Crashed e = absurd (never (rw e) node.running)

  module _ (un : unaware γ.big (v.own b) ≡ true) (fit : fits q ≡ true) (x : Image)
      (added : (y : Party) → (j : ℕ) × (booked y x + 65536 * j ≡ booked y (v.own b).image + part y q)) where
    abbrev o' : Own
    o' = o_image (v.own b) x

    abbrev to_a : Side
    to_a = s_registers (v.side b a) (v.side b a).put (step_check (v.side b a).took q) (v.side b a).hurt

    abbrev sides : ℕ → Side
    sides = upd (v.side b) a to_a

    abbrev lines' : ℕ → ℕ → List Packet
    lines' = upd v.lines a (upd (v.lines a) b k)

    abbrev wire' : Wire
    wire' = w_taken (γ.wire a b) q

    abbrev w' : ℕ → ℕ → Wire
    w' = wires γ a b wire'

    abbrev v' : View
    v' = moved v b o' sides lines' v.slots

    abbrev γ' : Ghost
    γ' = minded γ γ.big b (γ.mind b) w'

    taken_to : (c : ℕ) → c ≢ b → Pair γ.big c b (v.own c) (γ.mind c) o' (γ.mind b) (v.side c b) (sides c) (lines' c b) (w' c b)
    taken_to c d = elim (ℕ_discrete c a) [
      | yes e ↦ rw (e, upd_same (v.side b) a to_a, pair_same v.lines a b k, pair_same γ.wire a b wire')
          (taken_pair _ _ _ _ _ _ _ _ _ k _ q here (i.core.nodes a).place_known (i.core.nodes a).placed un fit x)
      | no f ↦ rw (upd_other (v.side b) a to_a c f, pair_other v.lines a b k c b (λ y z. f y), pair_other γ.wire a b wire' c b (λ y z. f y))
          (image_to _ _ _ _ _ _ _ _ _ _ _ (i.core.pairs c b) x)
    ]

    taken_self : Pair γ.big b b o' (γ.mind b) o' (γ.mind b) (sides b) (sides b) (lines' b b) (w' b b)
    taken_self =
        let away : b ≢ a = λ e. take_other (sym e) in
        rw (upd_other (v.side b) a to_a b away, pair_other v.lines a b k b b (λ y z. away y), pair_other γ.wire a b wire' b b (λ y z. away y))
        (image_to _ _ _ _ _ _ _ _ _ _ _ (image_from _ _ _ _ _ _ _ _ _ _ _ (i.core.pairs b b) x) x)

    taken_from : (c : ℕ) → c ≢ b → Pair γ.big b c o' (γ.mind b) (v.own c) (γ.mind c) (sides c) (v.side c b) (lines' b c) (w' b c)
    taken_from c d =
        rw (pair_other v.lines a b k b c (λ y z. d z), pair_other γ.wire a b wire' b c (λ y z. d z))
        (elim (ℕ_discrete c a) [
          | yes e ↦ rw (e, upd_same (v.side b) a to_a)
              (took_from _ _ _ _ _ _ _ _ _ _ _ (image_from _ _ _ _ _ _ _ _ _ _ _ (i.core.pairs b a) x) un to_a.took)
          | no f ↦ rw (upd_other (v.side b) a to_a c f) (image_from _ _ _ _ _ _ _ _ _ _ _ (i.core.pairs b c) x)
        ])

    taken_pairs : (c d : ℕ) → PairAt v' γ' c d
    taken_pairs =
        move_pairs v γ γ.big b o' (γ.mind b) sides lines' v.slots w' (λ c d n m. pair_other v.lines a b k c d (λ y z. m z))
        (λ c d n m. pair_other γ.wire a b wire' c d (λ y z. m z)) (λ c d n m. i.core.pairs c d) taken_from taken_self taken_to

    -- what the receiver has taken grows by the amount, for the packet's party
    got_more : (y : Party) → got_of γ' b y ≡ got_of γ b y + part y q
    got_more y =
        let f : ℕ → ℕ = λ c. (γ.wire c b).got y in
        let g : ℕ → ℕ = λ c. (w' c b).got y in
        let at : g a ≡ f a + part y q = ap (λ (w : Wire). w.got y) (pair_same γ.wire a b wire') in
        let all : sum g 8 + f a ≡ sum f 8 + g a =
        sum_at f g a 8 la (λ c n. ap (λ (w : Wire). w.got y) (pair_other γ.wire a b wire' c b (λ y z. n y))) in
        omega arith

    got_other : (c : ℕ) → c ≢ b → got_of γ' c ≡ got_of γ c
    got_other c n = got_kept γ γ' c (λ d. ap (λ (w : Wire). w.got) (pair_other γ.wire a b wire' d c (λ y z. n z)))

    out_same : (c : ℕ) → out_of γ' c ≡ out_of γ c
    out_same c = out_kept γ γ' c (λ d. wire_kept (λ (w : Wire). w.out) γ a b wire' refl c d)

    books' : (c : ℕ) → BooksAt v' γ' c
    books' c = rw (out_same c) (elim (ℕ_discrete c b) [
      | yes e ↦ rw (e, upd_same v.own b o', upd_same γ.mind b (γ.mind b))
          (taken_books _ b _ _ (v.slots b) (i.core.nodes b) un take_undone _ _ _ (λ y. part y q) x added got_more (i.core.books b))
      | no d ↦ rw (upd_other v.own b o' c d, upd_other γ.mind b (γ.mind b) c d, got_other c d) (i.core.books c)
    ])

    moved_inv : Inv n total v' γ'
    moved_inv =
        let links : (c d : ℕ) → (w' c d).lk ≡ (γ.wire c d).lk = wire_kept (λ (w : Wire). w.lk) γ a b wire' refl in
        quiet_inv n total v γ i b o' (γ.mind b) sides lines' v.slots w'
        (refl, refl, refl, refl, refl, refl, refl) (refl, refl, refl, refl, refl, refl, refl) links (λ d. upd_elim (λ (s : Side). used s ≡ used (v.side b d)) (v.side b) a to_a d (λ e. rw e) (λ e. refl))
        taken_pairs
        (move_nodes v γ γ.big b o' (γ.mind b) sides lines' v.slots w' (λ j d. refl) (λ j d. i.core.nodes j)
        (added_node _ _ _ _ _ (i.core.nodes b) un take_undone x))
        books'

    pub taken_inv : Inv n total v' (g_wire γ a b wire')
    taken_inv = subst (λ (δ : Ghost). Inv n total v' δ) (same_mind γ γ.big b w') moved_inv

-- ---- the step

module _ (total : Party → ℕ) (g : Group) (γ : Ghost) (i : Inv g.n total (view g) γ) (a b : ℕ) (la : a < 8) (q : Payload)
    (first : oldest (line g a b) ≡ NormalPacket q) where
  abbrev left : List Packet
  left = content (rest (line g a b)).cells

  lined : (view g).lines a b ≡ NormalPacket q ∷ left
  lined = sim_off g a b (rw first) ∙ ap (λ (p : Packet). p ∷ left) first

  -- no normal packet comes to a cabinet that knows of no fault and would not add it
  pub no_stray : unaware γ.big ((view g).own b) ≡ true → takes_from (cabinet g b) a ≡ false → ⊥
  no_stray un out = ⊎_elim normal begun (must_take g.n total (view g) γ i a b la q left lined un)
    where
      normal : state_of g b ≡ Normal → ⊥
      normal e = never (rw e) out

      begun : (state_of g b ≡ CheckpBegin) × (marked (cabinet g b).noted.come a ≡ false) → ⊥
      begun e = never (rw (e.0, e.1)) out

  module _ (h : History) (w : Fit g) (past : Past g.n (view g) γ h) (lb : b < 8) (takes : takes_from (cabinet g b) a ≡ true) (fit : fits q ≡ true) where
    abbrev g1 : Group
    g1 = with_line g a b (rest (line g a b))

    abbrev g' : Group
    g' = with_cabinet g1 b (taking (cabinet g1 b) a q)

    abbrev v : View
    v = view g

    calm : unaware γ.big (v.own b) ≡ true
    calm = go (state_of g b) (marked (cabinet g b).noted.come a) refl takes
      where
        go : (s : State) (t : Bool) → state_of g b ≡ s → is_in s Normal || (is_in s CheckpBegin && not t) ≡ true → unaware γ.big (v.own b) ≡ true
        go Failed t e f = absurd (false≢true f)
        go Normal t e f = un_of γ.big (v.own b) (rw e) (rw e)
        go CheckpBegin t e f = un_of γ.big (v.own b) (rw e) (rw e)
        go Checkpointing t e f = absurd (false≢true f)
        go Checkpointed t e f = absurd (false≢true f)
        go Error t e f = absurd (false≢true f)
        go Recovering t e f = absurd (false≢true f)
        go Recovered t e f = absurd (false≢true f)
        go Crashed t e f = absurd (false≢true f)

    abbrev image' : Image
    image' = credited (cabinet g b).image q.outlet q.amount

    added : (y : Party) → (j : ℕ) × (booked y image' + 65536 * j ≡ booked y (cabinet g b).image + part y q)
    added y = booked_credited y q.outlet (cabinet g b).image q.amount (w.cabs b).image.octets

    seen : view g' ≡ moved v b (o_image (v.own b) image') (sides g.n total v γ i a b la q left lined calm fit image' added)
        (upd v.lines a (upd (v.lines a) b left)) v.slots
    seen =
        sim_take g1 (with_line_lem Shaped Lined Pictured shaped g a b _ (shaped.less (line g a b) (w.lines a b)) w) a b q la lb
        ∙ ap (λ (x : View). v_take x a b q) (view_off g w a b la lb)

    state_kept : (c : ℕ) → ((view g').own c).state ≡ (v.own c).state
    state_kept c = ap (λ (x : View). (x.own c).state) seen ∙ kept_at (λ (x : Own). x.state) v.own b (o_image (v.own b) image') refl c

    abbrev wire1 : Wire
    wire1 = w_taken (γ.wire a b) q

    abbrev δ : Ghost
    δ = g_wire γ a b wire1

    abbrev h' : History
    h' = with_taken h (logged h.taken a b q)

    log_taken : (c d : ℕ) → h'.taken c d ≡ (δ.wire c d).taken
    unfolding logged
    log_taken =
        pair_both (λ (x : Wire). x.taken) h.taken γ.wire a b (h.taken a b ++ (q ∷ [])) wire1
        (ap (λ (l : List Payload). l ++ (q ∷ [])) (past.taken a b)) past.taken

    sent_kept : (c d : ℕ) → (δ.wire c d).sent ≡ (γ.wire c d).sent
    sent_kept = wire_kept (λ (x : Wire). x.sent) γ a b wire1 refl

    -- the receiver has not cut, so its logs are in no cut of the save under way
    past' : Past g.n (view g') δ h'
    past' = record {
      sent = λ c d. past.sent c d ∙ sym (sent_kept c d);
      taken = log_taken;
      damaged = past.damaged;
      hurt = λ c d. past.hurt c d ∙ sym (wire_kept (λ (x : Wire). x.hurt) γ a b wire1 refl c d);
      cuts = λ e c f.
          let x = past.cuts e c f in
          let away : c ≢ b = λ j. take_undone g.n total v γ i a b la q left lined (rw j at f) in
          (x.0, x.1, x.2, (λ d. x.3 d ∙ sym (sent_kept c d)), (λ d. x.4 d ∙ sym (ap (λ (y : Wire). y.taken) (pair_other γ.wire a b wire1 d c (λ y z. away z)))));
      no_cut = past.no_cut;
      known = past.known;
      tops = past.tops;
      balanced = past.balanced;
      present = past.present;
      gone = past.gone;
      beyond = past.beyond;
      below = λ e. let y = past.below e in (y.0, y.1, y.2, y.3, (λ j d k. y.4 j d (sym (ap works (state_kept j)) ∙ k)), y.5, y.6);
      begun = past.begun;
      waits = λ c s. past.waits c (ap (λ (x : State). is_in x Checkpointed) (sym (state_kept c)) ∙ s);
    }

    -- the packet comes off the line, and its receiver adds the amount
    pub keeps_take : Kept total g γ g' (note_cuts h' g g')
    keeps_take = record {
      ghost = δ;
      inv = subst (λ (x : View). Inv g.n total x δ) (sym seen)
          (taken_inv g.n total v γ i a b la q left lined calm fit image' added);
      past = rw (no_cuts h' g g' (λ c e. ap (λ (s : State). is_in s Checkpointing) (sym (state_kept c)) ∙ e)) past';
      stays = calm_stays i (view g') δ b _ _ (ap (λ (u : View). u.own) seen) (ap (λ (u : View). u.side) seen) calm (calm_error i b calm) no_fault_lem;
    }
