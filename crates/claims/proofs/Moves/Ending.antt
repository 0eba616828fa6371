-- The end of a recovery: with restored reports of all in its table the coordinator finds every working cabinet recovered, for one
-- fault place and with one table; from then on the group is as at the start, from the images of the save that the rule gives.
use Rattle.std.specs.Prelude.{None, Some}
use Prim.Native.Nat.{ℕ, ◌<◌}
use mathlib.Core.Path.{◌≡◌, refl, sym, ap, ◌∙◌, subst, fun_ext}
use mathlib.Core.Logic.{◌≢◌, inl}
use mathlib.Core.Bool.{Bool, true, false, not, ◌&&◌, ◌||◌, true≢false, false≢true}
use mathlib.Core.List.{List}
use lib.Dec.{eqb}
use borrow.Author.Tests.{eqb-true, eq-eqb, ne_eqb}
use native.Mathlib.Omega.{arith}
use native.Mathlib.Decide.{dec_lt}
use Rattle.outlet.specs.declared.Party.{Party}
use Rattle.packet.specs.declared.Place.{Place}
use Rattle.packet.specs.declared.Place.TheVariants.{Failed as AtFailed, Link as AtLink}
use Rattle.packet.specs.declared.Packet.{Packet}
use Rattle.packet.specs.Packet.{start_check}
use Rattle.state.specs.declared.State.{State}
use Rattle.state.specs.declared.State.TheVariants.{Error, Recovered}
use Rattle.cabinet.specs.Alarm.{Alarm}
use Rattle.cabinet.specs.Alarm.{is_for}
use Rattle.state.specs.State.{is_in, works, is_unknown, bit_of}
use Rattle.protocol.specs.History.{upd}
use Rattle.claims.proofs.State.Fun.{never, is_false, and_true, and_intro, sum_zero, upd_same, upd_other, upd_elim, kept}
use Rattle.claims.proofs.State.View.{View, Own, Side, used}
use Rattle.claims.proofs.State.Leading.{next_over}
use Rattle.claims.proofs.State.Methods.{s_cleared, hits_cabinet, hits_link}
use Rattle.claims.proofs.Answers.Tests.{fault_for}
use Rattle.claims.proofs.Invariant.Facts.{Big, Mind, Ghost, Pair, Books, unaware, nothing}
use Rattle.claims.proofs.Invariant.Whole.{Ground, Place-of, failed, tripped, faulty, Places, Inv, PairAt, NodeAt, BooksAt, LeadAt, work_of, aware_of, alarm_of, out_of, got_of, GroundOf, PlacesOf, MeetsOf, ChainOf, SumsOf}
use Rattle.claims.proofs.Invariant.Logs.{resumed_by}
use Rattle.claims.proofs.Invariant.Words.{un_works, aware_works, used_linked}
use Rattle.claims.proofs.Invariant.Frame.{same_ghost, moved, move_pairs, move_nodes, move_leads}
use Rattle.claims.proofs.Moves.Rousing.{o_resumed, wait_short, roused_from, roused_to}
use Rattle.claims.proofs.Moves.EndPairs.{b_end, m_end, w_end, Done, ended_pair}
use Rattle.claims.proofs.Moves.EndNodes.{ended_node, ended_chief, ended_books, ended_lead}

-- ---- one place for all

-- whether a place concerns a cabinet that works, or a link that stands
module _ {work tab knows : ℕ → Bool} {alarm : ℕ → Alarm} {lk sound : ℕ → ℕ → Bool} where
  pub misses : (q : Place) → Place-of work tab knows alarm lk sound q → (d : ℕ) → work d ≡ true → hits_cabinet q d ≡ false
  misses _ (failed x t w) d e = ne_eqb d x (λ f. never e (ap work f ∙ w))
  misses _ (tripped x k a) d e = refl
  misses _ (faulty x y l k s) d e = refl

  stands : (q : Place) → Place-of work tab knows alarm lk sound q → ((i j : ℕ) → sound i j ≡ sound j i) → (c d : ℕ) → sound c d ≡ true → hits_link q c d ≡ false
  stands _ (failed x t w) both c d e = refl
  stands _ (tripped x k a) both c d e = refl
  stands _ (faulty x y l k s) both c d e = go (eqb c x) (eqb d y) (eqb c y) (eqb d x) refl refl refl refl
    where
      here : eqb c x ≡ true → eqb d y ≡ true → ⊥
      here f h = never e (ap (λ (i : ℕ). sound i d) (eqb-true c x f) ∙ ap (sound x) (eqb-true d y h) ∙ s)

      there : eqb c y ≡ true → eqb d x ≡ true → ⊥
      there f h = never e (ap (λ (i : ℕ). sound i d) (eqb-true c y f) ∙ ap (sound y) (eqb-true d x h) ∙ both y x ∙ s)

      go : (p q r u : Bool) → eqb c x ≡ p → eqb d y ≡ q → eqb c y ≡ r → eqb d x ≡ u → ((p && q) || (not p && (r && u))) ≡ false
      go true true r u a b f h = absurd (here a b)
      go true false r u a b f h = refl
      go false q true true a b f h = absurd (there f h)
      go false q true false a b f h = refl
      go false q false u a b f h = refl

hits_itself : (x : ℕ) → hits_cabinet (AtFailed x) x ≡ true
hits_itself x = eq-eqb x x refl

hits_link_lem : (x y : ℕ) → hits_link (AtLink x y) x y ≡ true
hits_link_lem x y = rw (eq-eqb x x refl, eq-eqb y y refl)

hits_back : (x y : ℕ) → x < y → hits_link (AtLink x y) y x ≡ true
hits_back x y l = rw (ne_eqb y x (omega arith), eq-eqb x x refl, eq-eqb y y refl)

module _ (n : ℕ) (total : Party → ℕ) (v : View) (γ : Ghost) (i : Inv n total v γ) (k : ℕ) (aw : aware_of v γ k ≡ true)
    (all : (j : ℕ) → (v.side k j).cab ≡ true → (v.side k j).restored ≡ true) where
  abbrev b : Big
  b = γ.big

  pub the_place : (q : Place) × ((v.own k).alarm ≡ Some q)
  the_place = (i.core.nodes k).place_known aw

  abbrev q : Place
  q = the_place.0

  -- every working cabinet has reported restored
  all_ready : (d : ℕ) → work_of v d ≡ true → (γ.mind d).ready ≡ true
  all_ready d w =
      let miss = misses q (i.places.from_one k aw q the_place.1) d w in
      let cab : (v.side k d).cab ≡ true = ((i.core.pairs k d).struck aw q the_place.1).0 ∙ rw ((i.core.nodes d).placed w, miss) in
      (i.core.pairs k d).readied aw (all d cab)

  pub all_aware : (d : ℕ) → work_of v d ≡ true → aware_of v γ d ≡ true
  all_aware d w = ((i.core.nodes d).ready_is (all_ready d w)).0

  pub all_recovered : (d : ℕ) → work_of v d ≡ true → (v.own d).state ≡ Recovered
  all_recovered d w = ((i.core.nodes d).ready_is (all_ready d w)).1

  -- a sound link between working cabinets is in use at both
  in_use_at : (c d : ℕ) → work_of v c ≡ true → work_of v d ≡ true → v.sound c d ≡ true → used (v.side c d) ≡ true
  in_use_at c d wc wd s =
      let p = (i.core.nodes c).place_known (all_aware c wc) in
      let f = (i.core.pairs c d).struck (all_aware c wc) p.0 p.1 in
      let at = i.places.from_one c (all_aware c wc) p.0 p.1 in
      and_intro
      (f.1 ∙ rw (i.core.ground.sound_links c d s, stands p.0 at i.core.ground.sound_both c d s))
      (f.0 ∙ rw ((i.core.nodes d).placed wd, misses p.0 at d wd))

  pub one_place : (d : ℕ) → work_of v d ≡ true → (v.own d).alarm ≡ Some q
  one_place d w =
      (fault_for (v.own d).alarm q).0
      (i.core.ground.reach (λ j. is_for (v.own j).alarm q)
      (λ c e f wc we s.
      let u = in_use_at e c we wc (i.core.ground.sound_both e c ∙ s) in
      let heard = (i.core.pairs c e).ready_heard (all_ready e we) u in
      let same = ((i.core.pairs c e).heard_of (and_intro (all_aware e we) heard)).1 in
      ap (λ (x : Alarm). is_for x q) (sym same) ∙ f)
      k (aware_works b (v.own k) aw) ((fault_for (v.own k).alarm q).1 the_place.1) d w)

  done_at : (d : ℕ) → Done b q (v.own d) (γ.mind d)
  done_at d = record { knows = all_aware d; recovered = all_recovered d; place = one_place d; ready = all_ready d }

  at_place : Place-of (work_of v) (λ c. (γ.mind c).tab) (aware_of v γ) (alarm_of v) (λ c d. (γ.wire c d).lk) v.sound q
  at_place = i.places.from_one k aw q the_place.1

  -- the tables are who works and which links stand
  pub tabs_at : (d : ℕ) → ((γ.mind d).tab && not (hits_cabinet q d)) ≡ work_of v d
  tabs_at d = go (work_of v d) refl (γ.mind d).tab refl
    where
      go : (w : Bool) → work_of v d ≡ w → (t : Bool) → (γ.mind d).tab ≡ t → (t && not (hits_cabinet q d)) ≡ w
      go true e true f = ap not (misses q at_place d e)
      go true e false f = absurd (never ((i.core.nodes d).placed e) f)
      go false e false f = refl
      go false e true f =
          let a = i.places.failed_for d f e in
          let same : Some q ≡ Some (AtFailed d) = sym (one_place a.0 (aware_works b (v.own a.0) a.1)) ∙ a.2 in
          ap (λ (x : Alarm). not (hits_at x)) same ∙ ap not (hits_itself d)
        where
          hits_at : Alarm → Bool
          hits_at None = false
          hits_at (Some p) = hits_cabinet p d

  links_at : (c d : ℕ) → ((γ.wire c d).lk && not (hits_link q c d)) ≡ v.sound c d
  links_at c d = go (v.sound c d) refl (γ.wire c d).lk refl
    where
      hits_at : Alarm → Bool
      hits_at None = false
      hits_at (Some p) = hits_link p c d

      struck_one : (x y : ℕ) → x < y → (γ.wire x y).lk ≡ true → v.sound x y ≡ false → Some q ≡ Some (AtLink x y)
      struck_one x y l f e =
          let a = i.places.faulty_for x y l f e in
          sym (one_place a.0 (aware_works b (v.own a.0) a.1)) ∙ a.2

      go : (w : Bool) → v.sound c d ≡ w → (t : Bool) → (γ.wire c d).lk ≡ t → (t && not (hits_link q c d)) ≡ w
      go true e true f = ap not (stands q at_place i.core.ground.sound_both c d e)
      go true e false f = absurd (never (i.core.ground.sound_links c d e) f)
      go false e false f = refl
      go false e true f = elim (dec_lt c d) [
        | yes l ↦ ap (λ (x : Alarm). not (hits_at x)) (struck_one c d l f e) ∙ ap not (hits_link_lem c d)
        | no m ↦ elim (dec_lt d c) [
          | yes l ↦ ap (λ (x : Alarm). not (hits_at x)) (struck_one d c l (i.core.ground.link_both d c ∙ f) (i.core.ground.sound_both d c ∙ e)) ∙ ap not (hits_back d c l)
          | no l ↦ absurd (never f (ap (λ (x : ℕ). (γ.wire c x).lk) (same m l) ∙ i.core.ground.link_other c))
        ]
      ]
        where
          same : (c < d → ⊥) → (d < c → ⊥) → d ≡ c
          same m l = omega arith

  -- all tables name one coordinator
  pub one_lead : (c d : ℕ) → work_of v c ≡ true → work_of v d ≡ true → (v.own c).lead ≡ (v.own d).lead
  one_lead c d wc wd =
      ((i.core.leads c).moved (all_aware c wc) q (one_place c wc)).1 ∙ sym ((i.core.leads d).moved (all_aware d wd) q (one_place d wd)).1

  -- ---- the ghost, and the group once the coordinator k has gone to normal

  -- who leads after it
  abbrev x' : ℕ
  x' = next_over (work_of v) k

  abbrev γ' : Ghost
  γ' = record { big = b_end b k x'; mind = λ c. m_end (γ.mind c) (work_of v c); wire = λ c d. w_end (v.sound c d) }

  sound_back : (c d : ℕ) → work_of v d ≡ true → work_of v c ≡ true → v.sound c d ≡ true → used (v.side d c) ≡ true
  sound_back c d wd wc s = in_use_at d c wd wc (i.core.ground.sound_both d c ∙ s)

  fresh_at : (c d : ℕ) → work_of v d ≡ true → ((v.side d c).put ≡ start_check) × ((v.side d c).took ≡ start_check) × ((v.side d c).hurt ≡ false)
  fresh_at c d w = (i.core.pairs d c).fresh (all_aware d w) (rw (all_recovered d w))

  -- with the fault forgotten, and the coordinator still recovered
  calmed : (c d : ℕ) → PairAt v γ' c d
  calmed c d =
      ended_pair b k x' q c d (v.own c) (γ.mind c) (v.own d) (γ.mind d) (v.side c d) (v.side d c) (v.lines c d) (γ.wire c d) (i.core.pairs c d)
      (done_at c) (done_at d) (v.sound c d) (tabs_at d) (links_at c d) (sound_back c d) (fresh_at c d)

  wk : work_of v k ≡ true
  wk = aware_works b (v.own k) aw

  recovered_k : (v.own k).state ≡ Recovered
  recovered_k = all_recovered k wk

  calm_end : (o : Own) → works o.state ≡ true → unaware (b_end b k x') o ≡ true
  calm_end o e = rw e

  tabled : (c d : ℕ) → work_of v c ≡ true → ((v.side c d).cab ≡ work_of v d) × ((v.side c d).link ≡ v.sound c d)
  tabled c d w = (calmed c d).table (calm_end (v.own c) w)

  meets_end : (c d : ℕ) → work_of v c ≡ true → used (v.side c d) ≡ true → work_of v d ≡ true
  meets_end c d w u = sym (tabled c d w).0 ∙ (and_true {s = (v.side c d).link} u).1

  abbrev o' : Own
  o' = o_resumed (v.own k) (v.own k).version

  abbrev lines' : ℕ → ℕ → List Packet
  lines' = upd v.lines k (λ d. resumed_by (used (v.side k d)) (v.lines k d))

  abbrev s' : ℕ → Side
  s' d = s_cleared (v.side k d)

  abbrev v' : View
  v' = moved v k o' s' lines' v.slots

  ended_from : (d : ℕ) (p : Own) (n : Mind) (t : Side) → (used (v.side k d) ≡ true → works p.state ≡ true)
      → Pair (b_end b k x') k d (v.own k) (γ'.mind k) p n (v.side k d) t (v.lines k d) (w_end (v.sound k d))
      → Pair (b_end b k x') k d o' (γ'.mind k) p n (s' d) t (lines' k d) (w_end (v.sound k d))
  ended_from d p n t meets h =
      subst (λ (f : ℕ → List Packet). Pair (b_end b k x') k d o' (γ'.mind k) p n (s' d) t (f d) (w_end (v.sound k d)))
      (sym (upd_same v.lines k (λ d. resumed_by (used (v.side k d)) (v.lines k d))))
      (roused_from (b_end b k x') k d (v.own k) (γ'.mind k) p n (v.side k d) t (v.lines k d) (w_end (v.sound k d)) h
      (calm_end (v.own k) wk) (wait_short h (and_intro (calm_end (v.own k) wk) (rw recovered_k))) (λ j e. never (h.closed_joined j e) refl) meets
      (v.own k).version (used (v.side k d)) (λ e. e) (λ j e. used_linked h (calm_end (v.own k) wk) j))

  ended_to : (c : ℕ) (o : Own) (m : Mind) (s : Side) (l : List Packet)
      → Pair (b_end b k x') c k o m (v.own k) (γ'.mind k) s (v.side k c) l (w_end (v.sound c k))
      → Pair (b_end b k x') c k o m o' (γ'.mind k) s (s' c) l (w_end (v.sound c k))
  ended_to c o m s l h =
      roused_to (b_end b k x') c k o m (v.own k) (γ'.mind k) s (v.side k c) l (w_end (v.sound c k)) h
      (calm_end (v.own k) wk) refl refl refl (v.own k).version

  ended_pairs : (c d : ℕ) → PairAt v' γ' c d
  ended_pairs c d =
      subst (λ (δ : Ghost). PairAt v' δ c d) (same_ghost γ' k)
      (move_pairs v γ' (b_end b k x') k o' (γ'.mind k) s' lines' v.slots γ'.wire
      (λ x y n m. ap (λ (f : ℕ → List Packet). f y) (upd_other v.lines k (λ d. resumed_by (used (v.side k d)) (v.lines k d)) x n)) (λ x y n m. refl) (λ x y n m. calmed x y)
      (λ d n. ended_from d (v.own d) (γ'.mind d) (v.side d k) (meets_end k d wk) (calmed k d))
      (ended_to k o' (γ'.mind k) (s' k) (lines' k k) (ended_from k (v.own k) (γ'.mind k) (v.side k k) (meets_end k k wk) (calmed k k)))
      (λ c n. subst (λ (f : ℕ → List Packet). Pair (b_end b k x') c k (v.own c) (γ'.mind c) o' (γ'.mind k) (v.side c k) (s' c) (f k) (w_end (v.sound c k)))
      (sym (upd_other v.lines k (λ d. resumed_by (used (v.side k d)) (v.lines k d)) c n))
      (ended_to c (v.own c) (γ'.mind c) (v.side c k) (v.lines c k) (calmed c k)))
      c d)

  -- ---- all facts together

  nothing_out : (c : ℕ) → out_of γ' c ≡ nothing
  nothing_out c = fun_ext (λ y. sum_zero (λ d. 0) 8 (λ j l. refl))

  nothing_got : (c : ℕ) → got_of γ' c ≡ nothing
  nothing_got c = fun_ext (λ y. sum_zero (λ d. 0) 8 (λ j l. refl))

  ended_book : (c : ℕ) → Books (b_end b k x') (upd v.own k o' c) (γ'.mind c) nothing nothing
  ended_book c =
      upd_elim (λ (p : Own). Books (b_end b k x') p (γ'.mind c) nothing nothing) v.own k o' c
      (λ e. subst (λ (j : ℕ). Books (b_end b k x') o' (γ'.mind j) nothing nothing) (sym e)
      (ended_books b k x' k (v.own k) (γ.mind k) (v.slots k) (i.core.nodes k) (all_aware k) (all_recovered k) o' refl (λ u. wk)))
      (λ n. ended_books b k x' c (v.own c) (γ.mind c) (v.slots c) (i.core.nodes c) (all_aware c) (all_recovered c) (v.own c) refl (un_works (b_end b k x') (v.own c)))

  ended_bookss : (c : ℕ) → BooksAt v' γ' c
  ended_bookss c =
      subst (λ (x : Party → ℕ). Books (b_end b k x') (upd v.own k o' c) (γ'.mind c) x (got_of γ' c)) (sym (nothing_out c))
      (subst (λ (x : Party → ℕ). Books (b_end b k x') (upd v.own k o' c) (γ'.mind c) nothing x) (sym (nothing_got c)) (ended_book c))

  work_same : work_of v' ≡ work_of v
  work_same = kept (λ (x : Own). works x.state) v.own k o' (sym wk)

  -- every table names k, and the version of who failed since the last recovery's end names its slot
  module _ (led : (j : ℕ) → work_of v j ≡ true → (v.own j).lead ≡ k)
      (note : (d : ℕ) → (γ.mind d).tab ≡ true → work_of v d ≡ false → bit_of (v.own d).version ≡ γ.big.topv) where
    ended_nodes : (c : ℕ) → NodeAt v' γ' c
    ended_nodes c =
        subst (λ (δ : Ghost). NodeAt v' δ c) (same_ghost γ' k)
        (move_nodes v γ' (b_end b k x') k o' (γ'.mind k) s' lines' v.slots γ'.wire (λ j n. refl)
        (λ j n. ended_node b k x' j (v.own j) (γ.mind j) (v.slots j) (i.core.nodes j) (all_aware j) (all_recovered j) (note j) n)
        (ended_chief b k x' k (v.own k) (γ.mind k) (v.slots k) (i.core.nodes k) (all_aware k) (all_recovered k) wk) c)

    ended_leads : (c : ℕ) → LeadAt v' γ' c
    ended_leads =
        move_leads v γ' (b_end b k x') k o' (γ'.mind k) s' lines' v.slots γ'.wire
        (λ j n. ended_lead b k x' j (v.own j) (γ.mind j) (v.slots j) (i.core.nodes j) (all_aware j) (all_recovered j) (v.own j) refl refl refl (led j) (λ e. absurd (n e)))
        (ended_lead b k x' k (v.own k) (γ.mind k) (v.slots k) (i.core.nodes k) (all_aware k) (all_recovered k) o' refl refl (sym wk) (led k) (λ e. wk))

    self_apart : (c : ℕ) → v.sound c c ≡ false
    self_apart c = is_false (v.sound c c) (λ e. never (i.core.ground.sound_links c c e) (i.core.ground.link_other c))

    ended_ground : GroundOf n v' γ'
    ended_ground =
        let g = i.core.ground in
        subst (λ (f : ℕ → Bool). Ground n k x' true f (work_of v) (λ c. (upd v.own k o' c).present) (λ c. (upd v.own k o' c).home) v.sound v.sound) (sym work_same)
        (subst (λ (f : ℕ → Bool). Ground n k x' true (work_of v) (work_of v) f (λ c. (upd v.own k o' c).home) v.sound v.sound) (sym (kept (λ (x : Own). x.present) v.own k o' refl))
        (subst (λ (f : ℕ → ℕ). Ground n k x' true (work_of v) (work_of v) (λ c. (v.own c).present) f v.sound v.sound) (sym (kept (λ (x : Own). x.home) v.own k o' refl))
        (record {
          most = g.most;
          within = λ c w. g.within c ((i.core.nodes c).placed w);
          chief_in = wk;
          heir_is = refl;
          link_both = g.sound_both;
          link_other = self_apart;
          sound_both = g.sound_both;
          sound_links = λ c d e. e;
          home_present = g.home_present;
          present_works = g.present_works;
          reach = g.reach;
          others_work = λ e. absurd (true≢false e);
          others_reach = λ e. absurd (true≢false e);
          other = λ e. absurd (true≢false e);
        })))

    ended_chain : ChainOf v' γ'
    ended_chain = record {
      no_commit = λ e. absurd (false≢true e);
      lives = λ e. absurd (true≢false e);
      alone = λ e. absurd (true≢false e);
      company = λ j d w x. (j, d, w, inl (known_at j d (sym (ap (λ (f : ℕ → Bool). f j) work_same) ∙ w)));
    }
      where
        known_at : (j : ℕ) → j ≢ k → work_of v j ≡ true → not (is_unknown (v'.own j).version) ≡ true
        known_at j d w =
            ap (λ (x : Own). not (is_unknown x.version)) (upd_other v.own k o' j d)
            ∙ ap not ((i.core.nodes j).unknown_aware (all_aware j w) ∙ ap (λ (s : State). is_in s Error) (all_recovered j w))

    ended_places : PlacesOf v' γ'
    ended_places =
        subst (λ (f : ℕ → Bool). Places false f (work_of v) (λ c. false) (alarm_of v') v.sound v.sound) (sym work_same)
        (record {
          standing = λ e c d. refl;
          failed_for = λ x t w. absurd (never t w);
          faulty_for = λ x y l t s. absurd (never t s);
          someone = λ e. absurd (false≢true e);
          from_one = λ c e. absurd (false≢true e);
        })

    ended_meets : MeetsOf v'
    ended_meets c d w u =
        ap (λ (f : ℕ → Bool). f d) work_same
        ∙ meets_end c d (sym (ap (λ (f : ℕ → Bool). f c) work_same) ∙ w)
        (upd_elim (λ (f : ℕ → Side). used (f d) ≡ true → used (v.side c d) ≡ true) v.side k s' c (λ e x. ap (λ (j : ℕ). used (v.side j d)) e ∙ x) (λ n x. x) u)

    ended_sums : SumsOf total γ'
    ended_sums = record { least = i.core.sums.least; bases = i.core.sums.tops; tops = i.core.sums.tops; prevs = λ e. absurd (true≢false e) }

    pub ended_inv : Inv n total v' γ'
    ended_inv = record {
      core = record { pairs = ended_pairs; nodes = ended_nodes; books = ended_bookss; leads = ended_leads; ground = ended_ground; chain = ended_chain; sums = ended_sums };
      places = ended_places;
      meets = ended_meets;
    }
