-- A cabinet in error goes on to recovering with the version of the save that the rule gives: all facts hold again.
use Prim.Native.Nat.{ℕ, ◌+◌}
use mathlib.Core.Path.{◌≡◌, refl, sym, ap, ◌∙◌, subst}
use mathlib.Core.Logic.{◌≢◌, inl, inr, ⊎_elim}
use mathlib.Core.Bool.{Bool, true, false, cond, not, ◌&&◌, false≢true}
use mathlib.Core.List.{List, [], ◌∷◌, ◌++◌}
use native.Mathlib.Omega.{arith}
use Rattle.outlet.specs.declared.Party.{Party}
use Rattle.packet.specs.declared.Place.{Place}
use Rattle.packet.specs.declared.Packet.{Packet}
use Rattle.packet.specs.declared.Packet.TheVariants.{Recover, Fault}
use Rattle.state.specs.declared.State.{State}
use Rattle.state.specs.declared.State.TheVariants.{Error, Recovered}
use Rattle.state.specs.declared.Version.{Version}
use Rattle.state.specs.declared.Version.TheVariants.{Known}
use Rattle.image.specs.declared.Image.{Image}
use Rattle.state.specs.State.{is_in, works, is_unknown}
use Rattle.protocol.specs.History.{upd}
use Rattle.claims.proofs.State.Fun.{never, is_false, and_true, and_intro, upd_elim, upd_same, upd_other, kept_at, or_map}
use Rattle.claims.proofs.State.View.{View, Own, Side, used}
use Rattle.claims.proofs.Invariant.States.{known_same, known_not_unknown, known_not_lost}
use Rattle.claims.proofs.Invariant.Facts.{Big, Mind, Wire, Ghost, Pair, Node, Books, Alarms, aware, unaware, closed, amounts_in, is_fault, is_invalid, count}
use Rattle.claims.proofs.Invariant.Whole.{Core, PairAt, ChainOf, work_of, calm_of, known_of}
use Rattle.claims.proofs.Invariant.Logs.{count_snoc, amounts_plain}
use Rattle.claims.proofs.Invariant.Words.{un_not_aware, aware_faulted, aware_works, aware_not_un, lead_same}
use Rattle.claims.proofs.Invariant.Frame.{minded, move_pairs, move_nodes, move_books, move_leads, move_ground, move_sums, same_ghost}
use Rattle.claims.proofs.Moves.ErrorSeen.{v_recover, o_goes, goes_line, gone_on, recover_seen}

-- ---- its lines

goes_count : (f : Packet → Bool) (x : Bool) (l : List Packet) (u : Bool) → f (Recover x) ≡ false → count f (goes_line x l u) ≡ count f l
goes_count f x l true e = count_snoc f l (Recover x) ∙ rw e (plus_none (count f l))
  where
    plus_none : (k : ℕ) → k + 0 ≡ k
    plus_none k = omega arith
goes_count f x l false e = refl

goes_amounts : (x : Bool) (l : List Packet) (u : Bool) → amounts_in (goes_line x l u) ≡ amounts_in l
unfolding amounts_in
goes_amounts x l true = amounts_plain l (Recover x) refl
goes_amounts x l false = refl

-- recover comes behind the fault, or alone once the fault is heard
goes_alarms : (x : Bool) (y : Version) (q : Place) (l : List Packet) (u : Bool) → is_unknown y ≡ true → Alarms y q l → Alarms (Known x) q (goes_line x l u)
goes_alarms x y q l u e h = go h.faults h.recovers h.is h.knows u
  where
    go : (f r : Bool) → l ≡ cond f (Fault q ∷ []) [] ++ cond r (Recover h.value ∷ []) [] → (r ≡ true → y ≡ Known h.value) → (u : Bool) → Alarms (Known x) q (goes_line x l u)
    go f true a k u = absurd (never e (ap is_unknown (k refl)))
    go true false a k true = record { faults = true; recovers = true; value = x; is = rw a; knows = λ e. refl }
    go true false a k false = record { faults = true; recovers = false; value = x; is = rw a; knows = λ e. absurd (false≢true e) }
    go false false a k true = record { faults = false; recovers = true; value = x; is = rw a; knows = λ e. refl }
    go false false a k false = record { faults = false; recovers = false; value = x; is = rw a; knows = λ e. absurd (false≢true e) }

goes_first : (x : Bool) (q : Place) (l : List Packet) (u : Bool) → (k : List Packet) × (l ≡ Fault q ∷ k) → (k : List Packet) × (goes_line x l u ≡ Fault q ∷ k)
goes_first x q l true h = (h.0 ++ (Recover x ∷ []), rw h.1)
goes_first x q l false h = h

module _ (b : Big) (o : Own) (x : Bool) (aw : aware b o ≡ true) where
  goes_aware : aware b (o_goes o x) ≡ true
  goes_aware = and_intro (aware_faulted b o aw) refl

  goes_not_calm : {A : Type 0} → unaware b (o_goes o x) ≡ true → A
  goes_not_calm e = absurd (un_not_aware b (o_goes o x) e goes_aware)

module _ (b : Big) (c d : ℕ) (o : Own) (m : Mind) (p : Own) (n : Mind) (s t : Side) (l : List Packet) (w : Wire) (h : Pair b c d o m p n s t l w) (x : Bool) where
  goes_from : aware b o ≡ true → is_unknown o.version ≡ true → (used s ≡ true → works p.state ≡ true) → Pair b c d (o_goes o x) m p n s t (goes_line x l (used s)) w
  goes_from aw unknown meets = record {
    table = no;
    struck = λ a. h.struck aw;
    closed_joined = h.closed_joined;
    closed_equal = h.closed_equal;
    closed_empty = λ j e. no;
    apart = h.apart;
    owes = λ e. absurd (un_not_aware b o (h.owes e).2 aw);
    owes_home = h.owes_home;
    reported = λ e i. no;
    begun_bare = λ e i. no;
    readied = λ a. h.readied aw;
    ready_heard = h.ready_heard;
    silent = λ e. none (used s) refl e;
    alarms = λ a q e. goes_alarms x o.version q l (used s) unknown (h.alarms aw q e);
    unheard = λ a u e f q g. goes_first x q l (used s) (h.unheard aw u e f q g);
    heard = λ e. goes_count is_fault x l (used s) refl ∙ h.heard e;
    heard_of = λ e. (goes_aware b o x aw, (h.heard_of e).1);
    no_fault = no;
    no_checkp = no;
    last_checkp = no;
    behind_empty = λ e. no (and_true {s = unaware b (o_goes o x)} e).0;
    resumed = λ j. no;
    came = h.came;
    tail_heard = h.tail_heard;
    stream = λ j. no;
    fresh = λ a e. absurd (false≢true e);
    room = no;
    sound = λ e. goes_count is_invalid x l (used s) refl ∙ h.sound e;
    unhurt = h.unhurt;
    no_more = λ y e. rw (goes_amounts x l (used s)) (h.no_more y e);
    small = (h.small.0, (h.small.1.0, rw (goes_amounts x l (used s)) h.small.1.1));
    fit = h.fit;
  }
    where
      no : {A : Type 0} → unaware b (o_goes o x) ≡ true → A
      no = goes_not_calm b o x aw

      none : (u : Bool) → used s ≡ u → (works p.state && u) ≡ false → goes_line x l u ≡ []
      none true e f = absurd (never (and_intro (meets e) refl) f)
      none false e f = h.silent (is_false (works o.state && (works p.state && used s)) (λ k. never (and_true {s = works p.state} (and_true {s = works o.state} k).1).1 e))

  goes_to : aware b p ≡ true → Pair b c d o m (o_goes p x) n s t l w
  goes_to aw = record {
    table = h.table;
    struck = h.struck;
    closed_joined = λ j e. h.closed_joined j (closes e);
    closed_equal = λ j e. h.closed_equal j (closes e);
    closed_empty = λ j e. h.closed_empty j (closes e);
    apart = h.apart;
    owes = h.owes;
    owes_home = h.owes_home;
    reported = h.reported;
    begun_bare = h.begun_bare;
    readied = h.readied;
    ready_heard = h.ready_heard;
    silent = λ e. h.silent (silences (works o.state) (used s) e);
    alarms = h.alarms;
    unheard = λ a u e f. h.unheard a u (aware_works b p aw)
        (is_false (aware b p && t.heard) (λ k. never (and_intro (goes_aware b p x aw) (and_true {s = aware b p} k).1) f));
    heard = λ e. h.heard (hears e);
    heard_of = λ e. h.heard_of (hears e);
    no_fault = h.no_fault;
    no_checkp = h.no_checkp;
    last_checkp = h.last_checkp;
    behind_empty = h.behind_empty;
    resumed = λ j u e f. no (and_true {s = unaware b (o_goes p x)} f).0;
    came = λ j. no;
    tail_heard = λ j. no;
    stream = λ j u. no;
    fresh = h.fresh;
    room = h.room;
    sound = h.sound;
    unhurt = λ e. no;
    no_more = h.no_more;
    small = h.small;
    fit = h.fit;
  }
    where
      no : {A : Type 0} → unaware b (o_goes p x) ≡ true → A
      no = goes_not_calm b p x aw

      hears : (aware b (o_goes p x) && t.heard) ≡ true → (aware b p && t.heard) ≡ true
      hears e = and_intro aw (and_true {s = aware b (o_goes p x)} e).1

      closes : closed b (o_goes p x) n t ≡ true → closed b p n t ≡ true
      closes e = or_map n.done _ _ (λ k. absurd (false≢true k)) e

      silences : (k y : Bool) → (k && y) ≡ false → (k && (works p.state && y)) ≡ false
      silences k y e = rw (aware_works b p aw) e

module _ (b : Big) (c : ℕ) (o : Own) (m : Mind) (z : Bool → Image) (h : Node b c o m z) (aw : aware b o ≡ true) (err : o.state ≡ Error) (froze : b.frozen ≡ true) where
  goes_node : Node b c (o_goes o b.topv) m z
  goes_node =
      let w = aware_works b o aw in
      record {
        placed = λ e. h.placed w;
        present = λ e f. refl;
        running = refl;
        quiet = λ e. absurd (never (aware_faulted b o aw) e);
        place_known = λ a. h.place_known aw;
        in_normal = no;
        in_begin = no;
        in_checkpointing = no;
        in_checkpointed = no;
        chief_saved = no;
        in_recovered = no;
        in_error = λ a e. h.in_error aw err;
        in_recovering = λ a e. rw (h.in_error aw err) (omega arith, λ i l. absurd (omega arith));
        restored = λ a e. absurd (false≢true (ap (λ (s : State). is_in s Recovered) e));
        ready_is = λ e. absurd (false≢true (ap (λ (s : State). is_in s Recovered) (sym err ∙ (h.ready_is e).1)));
        told_wrote = h.told_wrote;
        wrote_done = h.wrote_done;
        done_joined = h.done_joined;
        joined_tab = h.joined_tab;
        joined_begun = h.joined_begun;
        chief_begun = h.chief_begun;
        known = λ e v k. sym (known_same k);
        unknown_at = no;
        unknown_aware = λ a. refl;
        old_joined = λ e v k. absurd (known_not_unknown k);
        old_before = λ e v k. absurd (known_not_unknown k);
        knows = λ a e. froze;
        waits = λ a n e. ((h.waits a n w).0, no);
        cut_image = λ a d. no;
        gone = h.gone;
        slot_top = h.slot_top;
        slot_prev = h.slot_prev;
        slot_cut = h.slot_cut;
        slot_pieces = λ a. no;
        noted = λ e. absurd (never (h.placed w) e);
        sizes = h.sizes;
      }
    where
      no : {A : Type 0} → unaware b (o_goes o b.topv) ≡ true → A
      no = goes_not_calm b o b.topv aw

module _ (n : ℕ) (total : Party → ℕ) (v : View) (γ : Ghost) (i : Core n total v γ) (c : ℕ) (aw : aware γ.big (v.own c) ≡ true) (err : (v.own c).state ≡ Error)
    (froze : γ.big.frozen ≡ true) (meets : (d : ℕ) → used (v.side c d) ≡ true → work_of v d ≡ true) where
  abbrev top : Bool
  top = γ.big.topv

  abbrev goer : Own
  goer = o_goes (v.own c) top

  abbrev went : ℕ → List Packet
  went d = goes_line top (v.lines c d) (used (v.side c d))

  abbrev wents : ℕ → ℕ → List Packet
  wents = upd v.lines c went

  went_same : (d : ℕ) → wents c d ≡ went d
  went_same d = ap (λ (f : ℕ → List Packet). f d) (upd_same v.lines c went)

  went_other : (a d : ℕ) → a ≢ c → wents a d ≡ v.lines a d
  went_other a d e = ap (λ (f : ℕ → List Packet). f d) (upd_other v.lines c went a e)

  recover_pairs : (a d : ℕ) → PairAt (gone_on v c top) (minded γ γ.big c (γ.mind c) γ.wire) a d
  recover_pairs =
      let h = i.pairs in
      let unknown = (i.nodes c).unknown_aware aw ∙ ap (λ (s : State). is_in s Error) err in
      move_pairs v γ γ.big c goer (γ.mind c) (v.side c) wents v.slots γ.wire (λ a d e f. went_other a d e) (λ a d e f. refl) (λ a d e f. h a d)
      (λ d e. rw (went_same d) (goes_from _ _ _ _ _ _ _ _ _ _ _ (h c d) top aw unknown (meets d)))
      (rw (went_same c) (goes_to _ _ _ _ _ _ _ _ _ _ _ (goes_from _ _ _ _ _ _ _ _ _ _ _ (h c c) top aw unknown (meets c)) top aw))
      (λ a e. rw (went_other a c e) (goes_to _ _ _ _ _ _ _ _ _ _ _ (h a c) top aw))

  goes_work : works goer.state ≡ works (v.own c).state
  goes_work = sym (aware_works γ.big (v.own c) aw)

  goes_books : (out got : Party → ℕ) → Books γ.big (v.own c) (γ.mind c) out got → Books γ.big goer (γ.mind c) out got
  goes_books out got k = record { bounded = k.bounded; live = λ u. goes_not_calm γ.big (v.own c) top aw u; at_cut = k.at_cut }

  recover_chain : ChainOf (gone_on v c top) γ
  recover_chain =
      let h = i.chain in
      let work : (j : ℕ) → work_of (gone_on v c top) j ≡ work_of v j = kept_at (λ (x : Own). works x.state) v.own c goer goes_work in
      record {
        no_commit = λ e. ⊎_elim (λ x. inl (calm γ.big.chief x)) (λ x. inr (x.0, x.1, calm x.0 x.2, x.3)) (h.no_commit e);
        lives = h.lives;
        alone = λ a d j w. h.alone a d j (sym (work j) ∙ w);
        company = λ j d w e. let f = h.company j d (sym (work j) ∙ w) e in (f.0, f.1, work f.0 ∙ f.2, ⊎_elim (λ k. inl (known f.0 k)) (λ k. inr k) f.3);
      }
    where
      calm : (j : ℕ) → calm_of v γ j ≡ false → calm_of (gone_on v c top) γ j ≡ false
      calm j = upd_elim (λ (x : Own). calm_of v γ j ≡ false → unaware γ.big x ≡ false) v.own c goer j
          (λ e f. aware_not_un γ.big goer (goes_aware γ.big (v.own c) top aw)) (λ e f. f)

      known : (j : ℕ) → known_of v j ≡ true → known_of (gone_on v c top) j ≡ true
      known j = upd_elim (λ (x : Own). known_of v j ≡ true → not (is_unknown x.version) ≡ true) v.own c goer j (λ e k. refl) (λ e k. k)

  recovered_core : Core n total (gone_on v c top) (minded γ γ.big c (γ.mind c) γ.wire)
  recovered_core = record {
    pairs = recover_pairs;
    nodes = move_nodes v γ γ.big c goer (γ.mind c) (v.side c) wents v.slots γ.wire (λ j d. refl) (λ j d. i.nodes j)
        (goes_node _ _ _ _ _ (i.nodes c) aw err froze);
    books = move_books v γ γ.big c goer (γ.mind c) (v.side c) wents v.slots γ.wire (λ j. refl) (λ j. refl) (λ j d. i.books j) (goes_books _ _ (i.books c));
    leads = move_leads v γ γ.big c goer (γ.mind c) (v.side c) wents v.slots γ.wire (λ j d. i.leads j)
        (lead_same γ.big c (v.own c) goer (i.leads c) goes_work (goes_aware γ.big (v.own c) top aw ∙ sym aw) refl refl refl (λ e. absurd (known_not_lost e)));
    ground = move_ground v γ c goer (γ.mind c) (v.side c) wents v.slots γ.wire goes_work refl (λ a d. refl) γ.big refl refl refl refl refl i.ground;
    chain = subst (λ (x : Ghost). ChainOf (gone_on v c top) x) (sym (same_ghost γ c)) recover_chain;
    sums = move_sums total γ γ.big c (γ.mind c) γ.wire refl refl refl refl i.sums;
  }

  pub recover_core : Core n total (v_recover v c γ.big.topv) γ
  recover_core =
      subst (λ (u : View). Core n total u γ) (sym (recover_seen v c top))
      (subst (λ (x : Ghost). Core n total (gone_on v c top) x) (same_ghost γ c) recovered_core)
