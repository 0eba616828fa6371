-- A cabinet goes to normal and puts resume on lines out of it: what that leaves of the facts about the pairs from it and to it, and of the
-- fault places.
use Rattle.std.specs.Prelude.{None}
use Prim.Native.Nat.{ℕ}
use Rattle.state.specs.State.{works}
use Rattle.cabinet.specs.Alarm.{Alarm}
use Rattle.image.specs.declared.Image.{Image}
use Rattle.packet.specs.declared.Place.{Place}
use Rattle.state.specs.declared.State.TheVariants.{Normal}
use Rattle.state.specs.declared.Version.{Version}
use Rattle.packet.specs.declared.Packet.TheVariants.{Resume}
use Rattle.packet.specs.declared.Packet.{Packet}
use Rattle.packet.specs.declared.Payload.{Payload}
use Rattle.protocol.specs.History.{upd}
use lib.ListN.{drop}
use mathlib.Core.Bool.{Bool, true, false, not, ◌&&◌, true≢false, false≢true}
use mathlib.Core.List.{List, [], ◌++◌}
use mathlib.Core.Logic.{inl, ⊎_elim, inr}
use mathlib.Core.Path.{◌≡◌, refl, sym, ap, ◌∙◌, subst, fun_ext}
use native.Mathlib.Omega.{arith}
use Rattle.claims.proofs.State.Fun.{never, and_true, and_intro, upd_elim, upd_same, is_false, kept}
use Rattle.claims.proofs.State.View.{View, Own, Side, used}
use Rattle.claims.proofs.State.Methods.{s_cleared}
use Rattle.claims.proofs.State.ViewMoves.{o_phase, o_bare, v_put, v_broadcast, v_resumed}
use Rattle.claims.proofs.Invariant.Facts.{Big, Mind, Wire, Ghost, Pair, Stream, aware, unaware, linked, behind, closed, amounts_in, resume_first, Amounts, Differ, amount}
use Rattle.claims.proofs.Invariant.Whole.{Place-of, failed, tripped, faulty, Places, PlacesOf}
use Rattle.claims.proofs.Invariant.Logs.{no_checkp_end, Short, Bare, resumed_by, short_bare, short_first}
use Rattle.claims.proofs.Invariant.Words.{un_of, un_not_aware, un_works}
use Rattle.claims.proofs.Invariant.Frame.{moved}

pub wait_short : {b : Big} {c d : ℕ} {o : Own} {m : Mind} {p : Own} {n : Mind} {s t : Side} {l : List Packet} {w : Wire} → Pair b c d o m p n s t l w
    → behind b o m ≡ true → Short l
wait_short h wait = ⊎_elim (λ e. inl e) (λ e. inr (e.0, e.2)) (h.behind_empty wait)

-- ---- the cabinet

-- it goes on in normal, with a version
abbrev pub o_resumed : Own → Version → Own
o_resumed o x = o_bare (o_phase o Normal x None)

module _ (b : Big) (o : Own) (x : Version) where
  pub resumed_un : unaware b (o_resumed o x) ≡ true
  resumed_un = un_of b (o_resumed o x) refl refl

  pub resumed_not_aware : {A : Type 0} → aware b (o_resumed o x) ≡ true → A
  resumed_not_aware e = absurd (un_not_aware b (o_resumed o x) resumed_un e)

  pub resumed_not_behind : (m : Mind) {A : Type 0} → behind b (o_resumed o x) m ≡ true → A
  resumed_not_behind m e = absurd (false≢true (and_true {s = unaware b (o_resumed o x)} e).1)

-- ---- the pairs from the cabinet

module _ (b : Big) (c d : ℕ) (o : Own) (m : Mind) (p : Own) (n : Mind) (s t : Side) (l : List Packet) (w : Wire) (h : Pair b c d o m p n s t l w)
    (un : unaware b o ≡ true) (short : Short l) (opened : linked m n w ≡ true → closed b p n t ≡ true → ⊥) (met : used s ≡ true → works p.state ≡ true)
    (x : Version) (r : Bool) (where-used : r ≡ true → used s ≡ true) (where-waited : linked m n w ≡ true → behind b p n ≡ true → r ≡ true) where
  bare : Bare (resumed_by r l)
  bare = short_bare r l short

  first : r ≡ true → resume_first (resumed_by r l) ≡ true
  first e = rw e (short_first l short)

  before : amounts_in l ≡ []
  before = (short_bare false l short).none

  was_un : aware b o ≡ true → ⊥
  was_un e = un_not_aware b o un e

  silence : (works p.state && used s) ≡ false → resumed_by r l ≡ []
  silence e = go r refl
    where
      go : (u : Bool) → r ≡ u → resumed_by u l ≡ []
      go true f = absurd (never (and_intro (met (where-used f)) (where-used f)) e)
      go false f = h.silent (rw (un_works b o un) e)

  flow : linked m n w ≡ true → unaware b p ≡ true → Stream (m.joined && not (n.joined && t.come)) t.hurt s.put t.took w (resumed_by r l)
  flow j up =
      let f = h.stream j un up in
      record {
        equal = f.equal;
        within = f.within;
        within_sent = f.within_sent;
        differ = subst (λ (q : List Payload). Differ t.hurt (drop w.ver w.sent) (drop w.ver w.taken ++ q))
            (before ∙ sym bare.none) f.differ;
        reads = f.reads;
        writes = f.writes;
        carries = λ v k e. absurd (no_checkp_end _ v k bare.checkps e);
        on_way = λ e y. omega (arith, f.on_way e y, ap (amount y) (before ∙ sym bare.none));
        tells = f.tells;
      }

  pub roused_from : Pair b c d (o_resumed o x) m p n (s_cleared s) t (resumed_by r l) w
  roused_from = record {
    table = λ u. h.table un;
    struck = resumed_not_aware b o x;
    closed_joined = h.closed_joined;
    closed_equal = h.closed_equal;
    closed_empty = λ j e u. absurd (opened j e);
    apart = h.apart;
    owes = λ e. let f = h.owes e in (f.0, f.1, resumed_un b o x);
    owes_home = h.owes_home;
    reported = λ q e. absurd (false≢true e);
    begun_bare = λ q e. absurd (false≢true e);
    readied = resumed_not_aware b o x;
    ready_heard = h.ready_heard;
    silent = silence;
    alarms = resumed_not_aware b o x;
    unheard = resumed_not_aware b o x;
    heard = λ e. bare.faults;
    heard_of = λ e. absurd (was_un (h.heard_of e).0);
    no_fault = λ u. bare.faults;
    no_checkp = λ u j. bare.checkps;
    last_checkp = λ u. bare.last;
    behind_empty = resumed_not_behind b o x m;
    resumed = λ j u f e. first (where-waited j e);
    came = h.came;
    tail_heard = h.tail_heard;
    stream = λ j u up. flow j up;
    fresh = resumed_not_aware b o x;
    room = λ u. omega (arith, bare.safe);
    sound = λ e. bare.invalids;
    unhurt = h.unhurt;
    no_more = λ y e. omega (arith, h.no_more y e, ap (amount y) (before ∙ sym bare.none));
    small = (h.small.0, (h.small.1.0, subst Amounts (before ∙ sym bare.none) h.small.1.1));
    fit = h.fit;
  }

-- ---- the pairs to the cabinet

module _ (b : Big) (c d : ℕ) (o : Own) (m : Mind) (p : Own) (n : Mind) (s t : Side) (l : List Packet) (w : Wire) (h : Pair b c d o m p n s t l w)
    (up : unaware b p ≡ true) (fresh : n.joined ≡ false) (open_yet : n.done ≡ false) (unready : n.ready ≡ false) (x : Version) where
  still_open : closed b (o_resumed p x) n (s_cleared t) ≡ true → ⊥
  still_open e = never e (rw open_yet)

  no_hearing : {A : Type 0} → (aware b (o_resumed p x) && false) ≡ true → A
  no_hearing e = resumed_not_aware b p x (and_true {s = aware b (o_resumed p x)} e).0

  not_heard : (aware b p && t.heard) ≡ false
  not_heard = is_false _ (λ e. un_not_aware b p up (and_true {s = aware b p} e).0)

  flow_to : linked m n w ≡ true → unaware b o ≡ true → Stream (m.joined && not (n.joined && false)) t.hurt s.put t.took w l
  flow_to j u =
      subst (λ (q : Bool). Stream (m.joined && not q) t.hurt s.put t.took w l) (no_join n.joined fresh) (h.stream j u up)
    where
      no_join : (q : Bool) → q ≡ false → (q && t.come) ≡ (q && false)
      no_join true e = absurd (true≢false e)
      no_join false e = refl

  pub roused_to : Pair b c d o m (o_resumed p x) n s (s_cleared t) l w
  roused_to = record {
    table = h.table;
    struck = h.struck;
    closed_joined = λ j e. absurd (still_open e);
    closed_equal = λ j e. absurd (still_open e);
    closed_empty = λ j e. absurd (still_open e);
    apart = h.apart;
    owes = h.owes;
    owes_home = h.owes_home;
    reported = h.reported;
    begun_bare = h.begun_bare;
    readied = h.readied;
    ready_heard = λ e. absurd (never e unready);
    silent = λ e. h.silent (rw (un_works b p up) e);
    alarms = h.alarms;
    unheard = λ a us wp f. h.unheard a us (un_works b p up) not_heard;
    heard = no_hearing;
    heard_of = no_hearing;
    no_fault = h.no_fault;
    no_checkp = h.no_checkp;
    last_checkp = h.last_checkp;
    behind_empty = h.behind_empty;
    resumed = λ j u f. resumed_not_behind b p x n;
    came = λ j u e. absurd (false≢true e);
    tail_heard = λ j u e. absurd (false≢true e);
    stream = λ j u q. flow_to j u;
    fresh = h.fresh;
    room = h.room;
    sound = h.sound;
    unhurt = λ e u. h.unhurt e up;
    no_more = h.no_more;
    small = h.small;
    fit = h.fit;
  }

-- ---- the fault places: the cabinet is not aware of one, so its alarm is no matter

places_alarm : (faulted : Bool) (work tab knows : ℕ → Bool) (alarm alarm' : ℕ → Alarm) (lk sound : ℕ → ℕ → Bool)
    → ((c : ℕ) → knows c ≡ true → alarm' c ≡ alarm c) → Places faulted work tab knows alarm lk sound → Places faulted work tab knows alarm' lk sound
places_alarm faulted work tab knows alarm alarm' lk sound same p = record {
  standing = p.standing;
  failed_for = λ x t w. let f = p.failed_for x t w in (f.0, f.1, same f.0 f.1 ∙ f.2);
  faulty_for = λ x y l t w. let f = p.faulty_for x y l t w in (f.0, f.1, same f.0 f.1 ∙ f.2);
  someone = p.someone;
  from_one = λ c k q e. place q (p.from_one c k q (sym (same c k) ∙ e));
}
  where
    place : (q : Place) → Place-of work tab knows alarm lk sound q → Place-of work tab knows alarm' lk sound q
    place _ (failed x t w) = failed x t w
    place _ (tripped x k a) = tripped x k (same x k ∙ a)
    place _ (faulty x y l k s) = faulty x y l k s

module _ (v : View) (γ : Ghost) (c : ℕ) (x : Version) (calm : unaware γ.big (v.own c) ≡ true) (s : ℕ → Side) (l : ℕ → ℕ → List Packet)
    (z : ℕ → Bool → Image) where
  abbrev own' : Own
  own' = o_resumed (v.own c) x

  aware_same : aware γ.big own' ≡ aware γ.big (v.own c)
  aware_same = is_false _ (resumed_not_aware γ.big (v.own c) x) ∙ sym (is_false _ (un_not_aware γ.big (v.own c) calm))

  pub roused_places : PlacesOf v γ → PlacesOf (moved v c own' s l z) γ
  roused_places p =
      places_alarm _ _ _ _ (λ j. (v.own j).alarm) _ _ _
      (λ j e. upd_elim (λ (y : Own). aware γ.big y ≡ true → y.alarm ≡ (v.own j).alarm) v.own c own' j
      (λ d a. resumed_not_aware γ.big (v.own c) x a) (λ d a. refl) e)
      (rw (
        kept (λ (y : Own). aware γ.big y) v.own c own' aware_same,
        kept (λ (y : Own). works y.state) v.own c own' (sym (un_works γ.big (v.own c) calm)),
      ) p)

-- ---- the whole group, as the move leaves it

abbrev pub roused_lines : View → ℕ → ℕ → ℕ → List Packet
roused_lines v k = upd v.lines k (λ d. resumed_by (used (v.side k d)) (v.lines k d))

abbrev pub roused : View → ℕ → Version → View
roused v k x = moved v k (o_resumed (v.own k) x) (λ d. s_cleared (v.side k d)) (roused_lines v k) v.slots

pub seen_roused : (v : View) (k : ℕ) (x : Version) → v_broadcast (v_resumed v k x) k Resume ≡ roused v k x
seen_roused v k x = λ t. record {
  own = (roused v k x).own;
  side = (roused v k x).side;
  lines = upd v.lines k (put t);
  slots = v.slots;
  sound = v.sound;
}
  where
    put : v_put (v_resumed v k x) k (λ b. Resume) ≡ (λ d. resumed_by (used (v.side k d)) (v.lines k d))
    put = fun_ext (λ d. ap (λ (f : ℕ → Side). resumed_by (used (f d)) (v.lines k d)) (upd_same v.side k (λ b. s_cleared (v.side k b))))
