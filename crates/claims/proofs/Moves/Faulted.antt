-- Kind 4, deliver: a fault packet taken in normal or a saving state. Its sender is aware of the fault, so its place is one already, and the
-- receiver enters error for it and has heard the sender.
use Rattle.std.specs.Prelude.{Some}
use Prim.Native.Nat.{ℕ, ◌<◌}
use mathlib.Core.Path.{◌≡◌, refl, sym, ap, ◌∙◌, subst}
use mathlib.Core.Logic.{◌≢◌}
use mathlib.Core.Bool.{Bool, true, false}
use mathlib.Core.List.{List, ◌∷◌}
use borrow.Author.Tests.{ne_eqb}
use Rattle.outlet.specs.declared.Party.{Party}
use Rattle.table.specs.Table.{is_at}
use Rattle.packet.specs.declared.Place.{Place}
use Rattle.packet.specs.declared.Place.TheVariants.{Failed as AtFailed, Link as AtLink}
use Rattle.packet.specs.declared.Packet.{Packet}
use Rattle.packet.specs.declared.Packet.TheVariants.{Fault}
use Rattle.line.specs.Line.{oldest}
use Rattle.state.specs.declared.State.{State}
use Rattle.state.specs.declared.State.TheVariants.{Normal}
use Rattle.state.specs.State.{is_in, works}
use Rattle.group.specs.declared.Group.{Group}
use Rattle.group.specs.Group.{cabinet, state_of, line}
use Rattle.protocol.specs.Receive.{serving}
use Rattle.protocol.specs.Moves.{enter_error, hear}
use Rattle.protocol.specs.History.{History, upd, note_cuts}
use Rattle.claims.proofs.State.Fun.{never, and_intro, upd_elim, upd_same, upd_other, kept, kept_at, upd_swap, kept_pair}
use Rattle.claims.proofs.State.Every.{ok_enter_error}
use Rattle.claims.proofs.State.View.{View, Own, used, view, set_line, Side}
use Rattle.claims.proofs.State.Shape.{Shaped, Lined, Pictured, shaped}
use Rattle.claims.proofs.State.Sim.{Fit}
use Rattle.claims.proofs.State.ViewMoves.{v_hear, lead_after, sim_hear, view_off}
use Rattle.claims.proofs.Invariant.States.{serving_calm, place_same}
use Rattle.claims.proofs.Invariant.Facts.{Ghost, aware, unaware}
use Rattle.claims.proofs.Invariant.Whole.{Core, Inv, Place-of, failed, tripped, faulty, PlacesOf, MeetsOf, work_of, alarm_of, aware_of, tab_of, lk_of}
use Rattle.claims.proofs.Invariant.Past.{Past, Kept, past_turn, quiet_of}
use Rattle.claims.proofs.Invariant.Words.{un_of, un_works, un_not_aware, aware_faulted}
use Rattle.claims.proofs.Invariant.Staying.{phase_same, stays_calm, stays_marked, no_fault_lem}
use Rattle.claims.proofs.Moves.FirstFault.{g_error}
use Rattle.claims.proofs.Moves.ErrorSeen.{v_error, o_erred, s_erred, erred_line, erred, error_seen, strike_used, sim_error, erred_recovers, erred_works, erred_not_normal, erred_not_saving}
use Rattle.claims.proofs.Moves.Erring.{error_core, error_meets, place_map}
use Rattle.claims.proofs.Moves.Hearing.{v_heard, fault_aware, fault_place, hear_inv, off, left_of, off_fit, off_line}
use Rattle.claims.proofs.Moves.Recovering.{frozen_past}

-- ---- entering error for a place that is one already

module _ (n : ℕ) (total : Party → ℕ) (v : View) (γ : Ghost) (i : Inv n total v γ) (b : ℕ) (un : unaware γ.big (v.own b) ≡ true) (fault : γ.big.faulted ≡ true)
    (q : Place) (place : Place-of (work_of v) (tab_of γ) (aware_of v γ) (alarm_of v) (lk_of γ) v.sound q) where
  abbrev δ : Ghost
  δ = g_error γ (v.own b)

  abbrev o' : Own
  o' = o_erred (v.own b) q (lead_after v b q)

  same_work : work_of (erred v b q) ≡ work_of v
  same_work = kept (λ (x : Own). works x.state) v.own b o' (erred_works (v.own b).version ∙ sym (un_works γ.big (v.own b) un))

  -- who was aware of the fault still is, for the same place
  abbrev Knower : View → Ghost → Place → Type 0
  Knower u ε p = (c : ℕ) × (aware_of u ε c ≡ true) × (alarm_of u c ≡ Some p)

  same_own : (c : ℕ) → aware_of v γ c ≡ true → (erred v b q).own c ≡ v.own c
  same_own c e = upd_other v.own b o' c (λ x. un_not_aware γ.big (v.own b) un (ap (λ (y : ℕ). aware_of v γ y) (sym x) ∙ e))

  knower : (p : Place) → Knower v γ p → Knower (erred v b q) δ p
  knower p k =
      let same = same_own k.0 k.1 in
      (k.0, ap (λ (o : Own). aware γ.big o) same ∙ k.1, ap (λ (o : Own). o.alarm) same ∙ k.2)

  -- it is another cabinet's fault: a failed one does not work, a tripped one is aware
  elsewhere : is_at q b ≡ false
  elsewhere = at_other q place
    where
      at_other : (p : Place) → Place-of (work_of v) (tab_of γ) (aware_of v γ) (alarm_of v) (lk_of γ) v.sound p → is_at p b ≡ false
      at_other _ (failed x t w) = ne_eqb x b (λ e. never (ap (work_of v) e ∙ un_works γ.big (v.own b) un) w)
      at_other _ (tripped x k a) = ne_eqb x b (λ e. un_not_aware γ.big (v.own b) un (ap (aware_of v γ) (sym e) ∙ k))
      at_other _ (faulty x y l k e) = refl

  still : (p : Place) → Place-of (work_of v) (tab_of γ) (aware_of v γ) (alarm_of v) (lk_of γ) v.sound p
      → Place-of (work_of (erred v b q)) (tab_of γ) (aware_of (erred v b q) δ) (alarm_of (erred v b q)) (lk_of γ) v.sound p
  still p =
      place_map (work_of v) (work_of (erred v b q)) (tab_of γ) (aware_of v γ) (aware_of (erred v b q) δ) (alarm_of v) (alarm_of (erred v b q)) (lk_of γ) v.sound v.sound
      (λ x. ap (λ (f : ℕ → Bool). f x) same_work)
      (λ x e. (ap (λ (o : Own). aware γ.big o) (same_own x e) ∙ e, ap (λ (o : Own). o.alarm) (same_own x e))) (λ x y e. e) p

  one_place : (c : ℕ) → aware_of (erred v b q) δ c ≡ true → (p : Place) → alarm_of (erred v b q) c ≡ Some p
      → Place-of (work_of v) (tab_of γ) (aware_of v γ) (alarm_of v) (lk_of γ) v.sound p
  one_place c =
      upd_elim (λ (o : Own). aware γ.big o ≡ true → (p : Place) → o.alarm ≡ Some p
      → Place-of (work_of v) (tab_of γ) (aware_of v γ) (alarm_of v) (lk_of γ) v.sound p) v.own b o' c
      (λ x e p f. subst (Place-of (work_of v) (tab_of γ) (aware_of v γ) (alarm_of v) (lk_of γ) v.sound) (place_same f) place) (λ x. i.places.from_one c)

  entered_places : PlacesOf (erred v b q) δ
  entered_places = record {
    standing = i.places.standing;
    failed_for = λ x t w. knower (AtFailed x) (i.places.failed_for x t (ap (λ (f : ℕ → Bool). f x) (sym same_work) ∙ w));
    faulty_for = λ x y l k s. knower (AtLink x y) (i.places.faulty_for x y l k s);
    someone = λ e. let k = i.places.someone e in (k.0, ap (λ (o : Own). aware γ.big o) (same_own k.0 k.1) ∙ k.1);
    from_one = λ c e p f. still p (one_place c e p f);
  }

  pub entered_inv : Inv n total (erred v b q) δ
  entered_inv = record {
    core = subst (λ (x : View). Core n total x δ) (error_seen v b q) (error_core n total v γ i.core b un fault q elsewhere
        (λ d u. i.meets b d (un_works γ.big (v.own b) un) (strike_used q b d (v.side b d) u)));
    places = entered_places;
    meets = subst MeetsOf (error_seen v b q) (error_meets v b q (un_works γ.big (v.own b) un) i.meets);
  }

-- ---- the packet comes off before or after

pub off_after : (v : View) (a b : ℕ) (q : Place) (k : List Packet) → a ≢ b → v_hear (erred (set_line v a b k) b q) a b ≡ v_heard (erred v b q) a b k
off_after v a b q k d = λ t. record {
  own = (v_hear (erred v b q) a b).own;
  side = (v_hear (erred v b q) a b).side;
  lines = rows t;
  slots = v.slots;
  sound = v.sound;
}
  where
    rows : (erred (set_line v a b k) b q).lines ≡ (v_heard (erred v b q) a b k).lines
    rows =
        upd_swap v.lines a b (upd (v.lines a) b k) (λ j. erred_line (v.own b).version q (used (s_erred v b q j))) d
        ∙ ap (λ (f : ℕ → List Packet). upd (erred v b q).lines a (upd f b k)) (sym (upd_other v.lines b _ a d))

-- ---- the step

module _ (total : Party → ℕ) (g : Group) (h : History) (γ : Ghost) (w : Fit g) (i : Inv g.n total (view g) γ) (past : Past g.n (view g) γ h)
    (a b : ℕ) (la : a < 8) (lb : b < 8) (other : a ≢ b) (q : Place) (fault : oldest (line g a b) ≡ Fault q) (serves : serving (state_of g b) ≡ true) where
  abbrev k : List Packet
  k = left_of g a b

  abbrev g' : Group
  g' = hear (enter_error (off g a b) b q) a b

  abbrev v2 : View
  v2 = erred (view g) b q

  abbrev δ' : Ghost
  δ' = g_error γ ((view g).own b)

  is_line : (view g).lines a b ≡ Fault q ∷ k
  is_line = off_line g a b (Fault q) fault refl

  a_aware : aware γ.big ((view g).own a) ≡ true
  a_aware = fault_aware {d = b} (rw is_line at (i.core.pairs a b))

  a_place : (cabinet g a).phase.alarm ≡ Some q
  a_place = fault_place {d = b} (rw is_line at (i.core.pairs a b)) (i.core.nodes a).place_known

  is_faulted : γ.big.faulted ≡ true
  is_faulted = aware_faulted γ.big ((view g).own a) a_aware

  calm : unaware γ.big ((view g).own b) ≡ true
  calm = let s = serving_calm (state_of g b) serves in un_of γ.big ((view g).own b) s.0 s.1

  error_inv : Inv g.n total v2 δ'
  error_inv = entered_inv g.n total (view g) γ i b calm is_faulted q (i.places.from_one a a_aware q a_place)

  abbrev o2 : Own
  o2 = o_erred ((view g).own b) q (lead_after (view g) b q)

  at_b : v2.own b ≡ o2
  at_b = upd_same (view g).own b o2

  heard_inv : Inv g.n total (v_heard v2 a b k) δ'
  heard_inv =
      hear_inv g.n total v2 δ' error_inv a b other q k
      (ap (λ (f : ℕ → List Packet). f b) (upd_other (view g).lines b _ a other) ∙ is_line)
      (ap (λ (o : Own). aware γ.big o) at_b ∙ and_intro is_faulted (erred_recovers (cabinet g b).phase.version))
      (ap (λ (o : Own). o.alarm) at_b)

  seen : view g' ≡ v_heard v2 a b k
  seen =
      sim_hear (enter_error (off g a b) b q) (ok_enter_error Shaped Lined Pictured shaped (off g a b) b q (off_fit g a b w)) a b la lb
      ∙ ap (λ (x : View). v_hear x a b)
      (sim_error (off g a b) (off_fit g a b w) b q lb ∙ ap (λ (x : View). v_error x b q) (view_off g w a b la lb) ∙ error_seen (set_line (view g) a b k) b q)
      ∙ off_after (view g) a b q k other

  state_at : (c : ℕ) → ((view g').own c).state ≡ (v2.own c).state
  state_at c = ap (λ (x : View). (x.own c).state) seen ∙ kept_at (λ (x : Own). x.state) v2.own b _ refl c

  pub fault_not_normal : is_in (state_of g' b) Normal ≡ false
  fault_not_normal =
      ap (λ (s : State). is_in s Normal) (state_at b) ∙ ap (λ (o : Own). is_in o.state Normal) at_b ∙ erred_not_normal (cabinet g b).phase.version

  pub keeps_fault : Kept total g γ g' (note_cuts h g g')
  keeps_fault = record {
    ghost = δ';
    inv = subst (λ (x : View). Inv g.n total x δ') (sym seen) heard_inv;
    past = past_turn g g' b o2 state_at (erred_works (cabinet g b).phase.version ∙ sym (un_works γ.big ((view g).own b) calm))
        (erred_not_saving (cabinet g b).phase.version) (frozen_past g.n (view g) γ h _ past);
    stays = stays_marked (stays_calm (view g) γ (quiet_of i) v2 δ' b _ _ refl refl calm (λ e d. refl) no_fault_lem) (view g') δ'
        (λ c. phase_same (ap (λ (x : View). x.own c) seen ∙ kept_at (λ (x : Own). x) v2.own b _ refl c))
        (λ c d. ap (λ (x : View). (x.side c d).unsure) seen ∙ kept_pair (λ (s : Side). s.unsure) v2.side b a _ refl c d) no_fault_lem;
  }
