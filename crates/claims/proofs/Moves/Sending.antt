-- Kind 1, send: a normal packet comes last on a line in use, and its amount leaves the booking of the sender's outlet or workshop.
use Prim.Native.Nat.{ℕ, ◌+◌, ◌<◌}
use mathlib.Core.Path.{◌≡◌, refl, sym, ap, ◌∙◌, subst}
use mathlib.Core.Logic.{◌≢◌}
use mathlib.Core.Bool.{Bool, true, false, not, ◌&&◌, cond}
use mathlib.Core.List.{List, [], ◌∷◌, ◌++◌, append_assoc}
use lib.ListN.{length, length-append}
use lib.Seq.{drop-append-le, take-append-le}
use lib.Dec.{ltb, leb, eqb}
use borrow.Author.Tests.{leb-true}
use native.Mathlib.Omega.{arith}
use native.Mathlib.Decide.{ℕ_discrete}
use Rattle.marks.specs.Marks.{marked}
use Rattle.outlet.specs.declared.Outlet.{Outlet}
use Rattle.outlet.specs.Outlet.{ends_of, party_of, same_party}
use Rattle.outlet.specs.declared.Party.{Party}
use Rattle.outlet.specs.declared.Party.TheVariants.{Buses, Workshop}
use Rattle.outlet.specs.declared.Ends.{Ends}
use Rattle.packet.specs.declared.Payload.{Payload}
use Rattle.packet.specs.declared.Check.{Check}
use Rattle.packet.specs.declared.Packet.{Packet}
use Rattle.packet.specs.declared.Packet.TheVariants.{Normal as NormalPacket}
use Rattle.packet.specs.Packet.{step_check, fits}
use Rattle.packet.proofs.Bursts.{put_fits}
use Rattle.line.specs.Line.{normals}
use Rattle.state.specs.declared.State.{State}
use Rattle.state.specs.declared.State.TheVariants.{Normal, Checkpointing, Checkpointed}
use Rattle.image.specs.declared.Image.{Image}
use Rattle.state.specs.State.{is_in, works}
use Rattle.image.specs.Image.{booking, booked, charged}
use Rattle.image.proofs.Laws.{booked_charged}
use Rattle.cabinet.specs.Cabinet.{in_use}
use Rattle.group.specs.declared.Group.{Group}
use Rattle.group.specs.Group.{cabinet, state_of, line, sum}
use Rattle.protocol.specs.Kinds.{need, send_refusal, carried, sent}
use Rattle.protocol.specs.History.{History, upd, logged, with_sent, note_cuts}
use Rattle.claims.proofs.State.Fun.{never, and_true, and_intro, upd_same, upd_other, upd_elim, sum_at, kept_at, upd_pair, pair_same, pair_other, pair_both, cond_elim}
use Rattle.claims.proofs.State.Every.{passed}
use Rattle.claims.proofs.State.View.{View, Own, Side, used, view}
use Rattle.claims.proofs.State.Sim.{Fit, in_use_lem}
use Rattle.claims.proofs.State.Methods.{s_registers}
use Rattle.claims.proofs.State.ViewMoves.{o_image, v_sent, sim_sent}
use Rattle.claims.proofs.Answers.Tests.{in_state}
use Rattle.claims.proofs.Invariant.Facts.{Big, Mind, Wire, Ghost, Pair, Books, Stream, aware, unaware, linked, behind, closed, amounts_in, count, is_fault, is_checkp, is_safe, is_invalid, amount, part}
use Rattle.claims.proofs.Invariant.Whole.{Inv, PairAt, BooksAt, out_of, got_of}
use Rattle.claims.proofs.Invariant.Staying.{no_fault_lem}
use Rattle.claims.proofs.Invariant.Past.{Past, Kept, no_cuts, calm_stays}
use Rattle.claims.proofs.Invariant.Logs.{amounts_snoc, count_snoc, resume_more, differ_more, check_snoc, no_checkp_end, amount_snoc, small_snoc, fitting_snoc, checkp_last_lem}
use Rattle.claims.proofs.Invariant.Words.{un_of, un_works, linked_used, all_counted}
use Rattle.claims.proofs.Invariant.Frame.{moved, minded, move_pairs, move_nodes, same_mind, quiet_inv, out_kept, got_kept}
use Rattle.claims.proofs.Moves.Noting.{image_from, image_to, image_node}

-- ---- the logs of one pair replaced

abbrev pub w_sent : Wire → Payload → Wire
w_sent w q = record { sent = w.sent ++ (q ∷ []); taken = w.taken; ver = w.ver; out = λ y. w.out y + part y q; got = w.got; hurt = w.hurt; lk = w.lk }

abbrev pub wires : Ghost → ℕ → ℕ → Wire → ℕ → ℕ → Wire
wires γ a b w = upd γ.wire a (upd (γ.wire a) b w)

abbrev pub g_wire : Ghost → ℕ → ℕ → Wire → Ghost
g_wire γ a b w = record { big = γ.big; mind = γ.mind; wire = wires γ a b w }

-- what reads the same of the new logs as of the old ones reads the same everywhere
pub wire_kept : {A : Type 0} (f : Wire → A) (γ : Ghost) (a b : ℕ) (w : Wire) → f w ≡ f (γ.wire a b) → (c d : ℕ) → f (wires γ a b w c d) ≡ f (γ.wire c d)
wire_kept {A} f γ a b w e c d =
    upd_pair (λ (y : Wire). f y ≡ f (γ.wire c d)) γ.wire a b w c d (λ p q. rw (p, q) e) refl

-- ---- the pair of sender and receiver

module _ (b : Big) (c d : ℕ) (o : Own) (m : Mind) (p : Own) (n : Mind) (s t : Side) (l : List Packet) (w : Wire) (h : Pair b c d o m p n s t l w)
    (un : unaware b o ≡ true) (normal : o.state ≡ Normal) (early : m.joined ≡ false) (tab : m.tab ≡ true) (us : used s ≡ true)
    (there : works p.state ≡ true) (q : Payload) (small : q.amount < 65536) (fit : fits q ≡ true) (x : Image) where
  is_linked : linked m n w ≡ true
  is_linked = linked_used h un tab us

  not_closed : closed b p n t ≡ true → ⊥
  not_closed e = never (h.closed_joined is_linked e) early

  not_aware : aware b o ≡ true → ⊥
  not_aware e = never (rw normal at (and_true {s = b.faulted} e).1) refl

  not_behind : behind b o m ≡ true → ⊥
  not_behind e = never (rw normal at (and_true {s = unaware b o} e).1) refl

  abbrev more : List Packet
  more = l ++ (NormalPacket q ∷ [])

  no_checkps : count is_checkp more ≡ 0
  no_checkps = count_snoc is_checkp l (NormalPacket q) ∙ ap (λ (k : ℕ). k + 0) (h.no_checkp un early)

  abbrev s' : Side
  s' = s_registers s (step_check s.put q) s.took s.hurt

  streams : unaware b p ≡ true → Stream (m.joined && not (n.joined && t.come)) t.hurt s'.put t.took (w_sent w q) more
  streams up =
      let f = h.stream is_linked un up in
      let longer = drop-append-le w.ver w.sent (q ∷ []) f.within_sent in
      record {
        equal = take-append-le w.ver w.sent (q ∷ []) f.within_sent ∙ f.equal;
        within = f.within;
        within_sent = omega (arith, f.within_sent, length-append w.sent (q ∷ []));
        differ = rw (longer, amounts_snoc, ← append_assoc) (differ_more (q ∷ []) f.differ);
        reads = f.reads;
        writes = rw (longer, check_snoc, early) (ap (λ (k : Check). step_check k q) (rw early at f.writes));
        carries = λ v k e. absurd (no_checkp_end more v k no_checkps e);
        on_way = λ e y. omega (arith, f.on_way e y, ap (amount y) (amounts_snoc l q), amount_snoc y (amounts_in l) q);
        tells = f.tells;
      }

  pub sent_pair : Pair b c d (o_image o x) m p n s' t more (w_sent w q)
  sent_pair = record {
    table = h.table;
    struck = h.struck;
    closed_joined = h.closed_joined;
    closed_equal = λ k e a. absurd (not_closed e);
    closed_empty = λ k e u. absurd (not_closed e);
    apart = λ e. absurd (never is_linked e);
    owes = h.owes;
    owes_home = h.owes_home;
    reported = h.reported;
    begun_bare = h.begun_bare;
    readied = h.readied;
    ready_heard = h.ready_heard;
    silent = λ e. absurd (never (and_intro (un_works b o un) (and_intro there us)) e);
    alarms = λ a. absurd (not_aware a);
    unheard = λ a. absurd (not_aware a);
    heard = λ e. absurd (not_aware (h.heard_of e).0);
    heard_of = h.heard_of;
    no_fault = λ u. count_snoc is_fault l (NormalPacket q) ∙ ap (λ (k : ℕ). k + 0) (h.no_fault u);
    no_checkp = λ u f. no_checkps;
    last_checkp = λ u. checkp_last_lem l (NormalPacket q) (h.no_checkp un early);
    behind_empty = λ e. absurd (not_behind e);
    resumed = λ k u f e. resume_more l (NormalPacket q ∷ []) (h.resumed k u f e);
    came = h.came;
    tail_heard = h.tail_heard;
    stream = λ k u up. streams up;
    fresh = λ a. absurd (not_aware a);
    room = λ u. omega (arith, count_snoc is_safe l (NormalPacket q), h.room u);
    sound = λ e. count_snoc is_invalid l (NormalPacket q) ∙ ap (λ (k : ℕ). k + 0) (h.sound e);
    unhurt = h.unhurt;
    no_more = λ y e. omega (arith, h.no_more y e, ap (amount y) (amounts_snoc l q), amount_snoc y (amounts_in l) q);
    small = (small_snoc w.sent q h.small.0 small, (h.small.1.0, rw (amounts_snoc l q) (small_snoc (amounts_in l) q h.small.1.1 small)));
    fit = (fitting_snoc w.sent q h.fit.0 fit, h.fit.1);
  }

-- the pair back: the sender's register stands at the receiving end
pub put_back : (b : Big) (c d : ℕ) (o : Own) (m : Mind) (p : Own) (n : Mind) (s t : Side) (l : List Packet) (w : Wire) → Pair b c d o m p n s t l w
    → (v : Check) → Pair b c d o m p n s (s_registers t v t.took t.hurt) l w
put_back b c d o m p n s t l w h v = search

-- ---- the books of the sender

pub sent_books : (b : Big) (o : Own) (m : Mind) (out more got q : Party → ℕ) (x : Image) → unaware b o ≡ true → (m.done ≡ true → ⊥)
    → ((y : Party) → booked y x + q y ≡ booked y o.image) → ((y : Party) → more y ≡ out y + q y) → Books b o m out got → Books b (o_image o x) m more got
sent_books b o m out more got q x un undone paid e h = record {
  bounded = λ y. omega (arith, (h.live un y).1, paid y, e y);
  live = λ u y. ((h.live un y).0, omega (arith, (h.live un y).1, paid y, e y));
  at_cut = λ a d. absurd (undone d);
}

-- ---- together

module _ (n : ℕ) (total : Party → ℕ) (v : View) (γ : Ghost) (i : Inv n total v γ) (a b : ℕ) (lb : b < 8) (normal : (v.own a).state ≡ Normal)
    (us : used (v.side a b) ≡ true) (q : Payload) (small : q.amount < 65536) (fit : fits q ≡ true) (x : Image)
    (paid : (y : Party) → booked y x + part y q ≡ booked y (v.own a).image) where
  abbrev o' : Own
  o' = o_image (v.own a) x

  abbrev to_b : Side
  to_b = s_registers (v.side a b) (step_check (v.side a b).put q) (v.side a b).took (v.side a b).hurt

  abbrev sides : ℕ → Side
  sides = upd (v.side a) b to_b

  abbrev filled : List Packet
  filled = v.lines a b ++ (NormalPacket q ∷ [])

  abbrev lines' : ℕ → ℕ → List Packet
  lines' = upd v.lines a (upd (v.lines a) b filled)

  abbrev wire' : Wire
  wire' = w_sent (γ.wire a b) q

  abbrev w' : ℕ → ℕ → Wire
  w' = wires γ a b wire'

  abbrev v' : View
  v' = moved v a o' sides lines' v.slots

  abbrev γ' : Ghost
  γ' = minded γ γ.big a (γ.mind a) w'

  un : unaware γ.big (v.own a) ≡ true
  un = un_of γ.big (v.own a) (rw normal) (rw normal)

  early : (γ.mind a).joined ≡ false
  early = (i.core.nodes a).in_normal un normal

  undone : (γ.mind a).done ≡ true → ⊥
  undone e = never ((i.core.nodes a).done_joined e) early

  tab : (γ.mind a).tab ≡ true
  tab = (i.core.nodes a).placed (un_works γ.big (v.own a) un)

  -- a line in use joins two
  pub send_other : a ≢ b
  send_other e =
      let k = linked_used (i.core.pairs a b) un tab us in
      never (and_true {s = (γ.wire a b).lk} k).0 (ap (λ (j : ℕ). (γ.wire a j).lk) (sym e) ∙ i.core.ground.link_other a)

  sent_from : (j : ℕ) → j ≢ a → Pair γ.big a j o' (γ.mind a) (v.own j) (γ.mind j) (sides j) (v.side j a) (lines' a j) (w' a j)
  sent_from j d = elim (ℕ_discrete j b) [
    | yes e ↦ rw (e, upd_same (v.side a) b to_b, pair_same v.lines a b filled, pair_same γ.wire a b wire')
        (sent_pair _ _ _ _ _ _ _ _ _ _ _ (i.core.pairs a b) un normal early tab us (i.meets a b (un_works γ.big (v.own a) un) us) q small fit x)
    | no f ↦ rw (upd_other (v.side a) b to_b j f, pair_other v.lines a b filled a j (λ y z. f z), pair_other γ.wire a b wire' a j (λ y z. f z))
        (image_from _ _ _ _ _ _ _ _ _ _ _ (i.core.pairs a j) x)
  ]

  sent_self : Pair γ.big a a o' (γ.mind a) o' (γ.mind a) (sides a) (sides a) (lines' a a) (w' a a)
  sent_self =
      rw (upd_other (v.side a) b to_b a send_other, pair_other v.lines a b filled a a (λ y z. send_other z), pair_other γ.wire a b wire' a a (λ y z. send_other z))
      (image_to _ _ _ _ _ _ _ _ _ _ _ (image_from _ _ _ _ _ _ _ _ _ _ _ (i.core.pairs a a) x) x)

  sent_to : (k : ℕ) → k ≢ a → Pair γ.big k a (v.own k) (γ.mind k) o' (γ.mind a) (v.side k a) (sides k) (lines' k a) (w' k a)
  sent_to k d =
      rw (pair_other v.lines a b filled k a (λ y z. d y), pair_other γ.wire a b wire' k a (λ y z. d y))
      (elim (ℕ_discrete k b) [
        | yes e ↦ rw (e, upd_same (v.side a) b to_b)
            (put_back _ _ _ _ _ _ _ _ _ _ _ (image_to _ _ _ _ _ _ _ _ _ _ _ (i.core.pairs b a) x) to_b.put)
        | no f ↦ rw (upd_other (v.side a) b to_b k f) (image_to _ _ _ _ _ _ _ _ _ _ _ (i.core.pairs k a) x)
      ])

  sent_pairs : (c d : ℕ) → PairAt v' γ' c d
  sent_pairs =
      move_pairs v γ γ.big a o' (γ.mind a) sides lines' v.slots w' (λ c d n m. pair_other v.lines a b filled c d (λ y z. n y))
      (λ c d n m. pair_other γ.wire a b wire' c d (λ y z. n y)) (λ c d n m. i.core.pairs c d) sent_from sent_self sent_to

  -- what the sender has sent grows by the amount, for the packet's party
  out_more : (y : Party) → out_of γ' a y ≡ out_of γ a y + part y q
  out_more y =
      let f : ℕ → ℕ = λ d. (γ.wire a d).out y in
      let g : ℕ → ℕ = λ d. (w' a d).out y in
      let here : g b ≡ f b + part y q = ap (λ (w : Wire). w.out y) (pair_same γ.wire a b wire') in
      let all : sum g 8 + f b ≡ sum f 8 + g b = sum_at f g b 8 lb (λ d n. ap (λ (w : Wire). w.out y) (pair_other γ.wire a b wire' a d (λ y z. n z))) in
      omega arith

  out_other : (c : ℕ) → c ≢ a → out_of γ' c ≡ out_of γ c
  out_other c n = out_kept γ γ' c (λ d. ap (λ (w : Wire). w.out) (pair_other γ.wire a b wire' c d (λ y z. n y)))

  got_same : (c : ℕ) → got_of γ' c ≡ got_of γ c
  got_same c = got_kept γ γ' c (λ d. wire_kept (λ (w : Wire). w.got) γ a b wire' refl d c)

  books' : (c : ℕ) → BooksAt v' γ' c
  books' c = rw (got_same c) (elim (ℕ_discrete c a) [
    | yes e ↦ rw (e, upd_same v.own a o', upd_same γ.mind a (γ.mind a))
        (sent_books _ _ _ _ _ _ (λ y. part y q) x un undone paid out_more (i.core.books a))
    | no d ↦ rw (upd_other v.own a o' c d, upd_other γ.mind a (γ.mind a) c d, out_other c d) (i.core.books c)
  ])

  moved_inv : Inv n total v' γ'
  moved_inv =
      let links : (c d : ℕ) → (w' c d).lk ≡ (γ.wire c d).lk = wire_kept (λ (w : Wire). w.lk) γ a b wire' refl in
      quiet_inv n total v γ i a o' (γ.mind a) sides lines' v.slots w'
      (refl, refl, refl, refl, refl, refl, refl) (refl, refl, refl, refl, refl, refl, refl) links (λ d. upd_elim (λ (s : Side). used s ≡ used (v.side a d)) (v.side a) b to_b d (λ e. rw e) (λ e. refl))
      sent_pairs
      (move_nodes v γ γ.big a o' (γ.mind a) sides lines' v.slots w' (λ j d. refl) (λ j d. i.core.nodes j)
      (image_node _ _ _ _ _ (i.core.nodes a) un normal x))
      books'

  pub sent_inv : Inv n total v' (g_wire γ a b wire')
  sent_inv = subst (λ (δ : Ghost). Inv n total v' δ) (same_mind γ γ.big a w') moved_inv

-- ---- the step

-- both ends of a send are one party's
ends_party : (s : ℕ) → party_of (ends_of s).from ≡ party_of (ends_of s).to
ends_party s =
    let P : Ends → Type 0 = λ e. party_of e.from ≡ party_of e.to in
    cond_elim P (eqb s 0) (λ _. refl)
    (λ _. cond_elim P (eqb s 1) (λ _. refl) (λ _. cond_elim P (eqb s 2) (λ _. refl) (λ _. cond_elim P (eqb s 3) (λ _. refl) (λ _. refl))))

module _ (total : Party → ℕ) (g : Group) (h : History) (γ : Ghost) (w : Fit g) (i : Inv g.n total (view g) γ) (past : Past g.n (view g) γ h)
    (a b s q : ℕ) (la : a < 8) (lb : b < 8) (lq : q < 65536) (fine : send_refusal g a b s q ≡ 0) where
  abbrev from : Outlet
  from = (ends_of s).from

  abbrev p : Payload
  p = carried g s q

  checks : (r s t u x : Bool) → need r 13 (need s 14 (need t 15 (need u 16 (need x 17 0)))) ≡ 0 → (r ≡ true) × (s ≡ true) × (u ≡ true)
  checks r s t u x e =
      let e1 = passed r 12 _ e in
      let e2 = passed s 13 _ e1.1 in
      let e3 = passed t 14 _ e2.1 in
      (e1.0, e2.0, (passed u 15 _ e3.1).0)

  abbrev v : View
  v = view g

  met : (marked (in_use (cabinet g a)) b ≡ true) × (is_in (state_of g a) Normal ≡ true) × (leb q (booking from (cabinet g a).image) ≡ true)
  met = checks _ _ (ltb 0 q && leb s 4) _ (ltb (normals (party_of (ends_of s).to) (line g a b)) 4) fine

  us : used (v.side a b) ≡ true
  us = sym (in_use_lem (cabinet g a) (w.cabs a) b) ∙ met.0

  normal : state_of g a ≡ Normal
  normal = (in_state (state_of g a) Normal).0 met.1

  calm : unaware γ.big (v.own a) ≡ true
  calm = un_of γ.big (v.own a) (rw normal) (rw normal)

  -- four normal packets of each party at most stand beside two fail-safe ones
  room : length (v.lines a b) < 12
  room =
      let few = (w.lines a b).few in
      let safe = (i.core.pairs a b).room calm in
      let early = (i.core.nodes a).in_normal calm normal in
      omega (arith, all_counted (line g a b).cells, few Buses, few Workshop, rw early at safe)

  abbrev g' : Group
  g' = sent g a b s q

  abbrev paid_image : Image
  paid_image = charged (cabinet g a).image from q

  paid : (y : Party) → booked y paid_image + part y p ≡ booked y (cabinet g a).image
  paid y =
      subst (λ (x : Party). booked y paid_image + cond (same_party x y) q 0 ≡ booked y (cabinet g a).image) (ends_party s)
      (booked_charged y from (cabinet g a).image q (w.cabs a).image.octets (leb-true q (booking from (cabinet g a).image) met.2))

  pub seen : view g' ≡ v_sent v a b from p
  seen = sim_sent g w a b s q lq la lb room

  state_kept : (c : ℕ) → ((view g').own c).state ≡ (v.own c).state
  state_kept c = ap (λ (x : View). (x.own c).state) seen ∙ kept_at (λ (x : Own). x.state) v.own a (o_image (v.own a) paid_image) refl c

  abbrev δ : Ghost
  δ = g_wire γ a b (w_sent (γ.wire a b) p)

  abbrev h' : History
  h' = with_sent h (logged h.sent a b p)

  log_sent : (c d : ℕ) → h'.sent c d ≡ (δ.wire c d).sent
  unfolding logged
  log_sent =
      pair_both (λ (x : Wire). x.sent) h.sent γ.wire a b (h.sent a b ++ (p ∷ [])) (w_sent (γ.wire a b) p)
      (ap (λ (l : List Payload). l ++ (p ∷ [])) (past.sent a b)) past.sent

  taken_kept : (c d : ℕ) → (δ.wire c d).taken ≡ (γ.wire c d).taken
  taken_kept = wire_kept (λ (x : Wire). x.taken) γ a b (w_sent (γ.wire a b) p) refl

  -- the sender has not cut, so its logs are in no cut of the save under way
  past' : Past g.n (view g') δ h'
  past' = record {
    sent = log_sent;
    taken = λ c d. past.taken c d ∙ sym (taken_kept c d);
    damaged = past.damaged;
    hurt = λ c d. past.hurt c d ∙ sym (wire_kept (λ (x : Wire). x.hurt) γ a b (w_sent (γ.wire a b) p) refl c d);
    cuts = λ e c f.
        let x = past.cuts e c f in
        let away : c ≢ a = λ j. undone g.n total v γ i a b lb normal us p lq (put_fits g.packets (ends_of s).to q) paid_image paid (rw j at f) in
        (x.0, x.1, x.2, (λ d. x.3 d ∙ sym (ap (λ (y : Wire). y.sent) (pair_other γ.wire a b (w_sent (γ.wire a b) p) c d (λ y z. away y)))), (λ d. x.4 d ∙ sym (taken_kept d c)));
    no_cut = past.no_cut;
    known = past.known;
    tops = past.tops;
    balanced = past.balanced;
    present = past.present;
    gone = past.gone;
    beyond = past.beyond;
    below = λ e. let y = past.below e in (y.0, y.1, y.2, y.3, (λ j d k. y.4 j d (sym (ap works (state_kept j)) ∙ k)), y.5, y.6);
    begun = past.begun;
    waits = λ c s. past.waits c (ap (λ (x : State). is_in x Checkpointed) (sym (state_kept c)) ∙ s);
  }

  pub keeps_send : Kept total g γ g' (note_cuts h' g g')
  keeps_send = record {
    ghost = δ;
    inv = subst (λ (x : View). Inv g.n total x δ) (sym seen)
        (sent_inv g.n total v γ i a b lb normal us p lq (put_fits g.packets (ends_of s).to q) paid_image paid);
    past = rw (no_cuts h' g g' (λ c e. ap (λ (s : State). is_in s Checkpointing) (sym (state_kept c)) ∙ e)) past';
    stays = calm_stays i (view g') δ a _ _ (ap (λ (u : View). u.own) seen) (ap (λ (u : View). u.side) seen) (un_of γ.big (v.own a) (rw normal) (rw normal)) (rw normal) no_fault_lem;
  }
