-- A cabinet that enters error, and all neighbours of one that failed or tripped: who of them enters recovering, and what is noted.
use Prim.Native.Nat.{ℕ, zero, suc, ◌<◌, ◌≤◌}
use mathlib.Core.Path.{◌≡◌, refl, sym, ap, ◌∙◌, subst}
use mathlib.Core.Logic.{◌≢◌}
use mathlib.Core.Bool.{Bool, true, false}
use native.Mathlib.Omega.{arith}
use native.Mathlib.Decide.{ℕ_discrete}
use Rattle.packet.specs.declared.Place.{Place}
use Rattle.state.specs.declared.State.TheVariants.{Recovering}
use Rattle.state.specs.declared.Version.{Version}
use Rattle.state.specs.declared.Version.TheVariants.{Known, Unknown, Lost}
use Rattle.state.specs.State.{is_in, works, in_recovery}
use Rattle.group.specs.declared.Group.{Group}
use Rattle.group.specs.Group.{cabinet, with_cabinet, with_outgoing, state_of, settle}
use Rattle.protocol.specs.History.{upd}
use Rattle.protocol.specs.Moves.{broadcast, recover_with, recover_if_known, raise, reason_for, enter_error, neighbours, enter_error_if, alarm_to}
use Rattle.claims.proofs.State.Fun.{and_true, upd_same, upd_other}
use Rattle.claims.proofs.State.Every.{ok_alarm}
use Rattle.claims.proofs.State.View.{View, Own, view}
use Rattle.claims.proofs.State.Shape.{Shaped, Lined, Pictured, shaped}
use Rattle.claims.proofs.State.Sim.{Fit}
use Rattle.claims.proofs.State.ViewMoves.{lead_after}
use Rattle.claims.proofs.Moves.ErrorSeen.{o_erred, sim_error, error_seen}
use Rattle.claims.proofs.Word.Turns.{Turned, kept, Who, nobody, newly, newly_same, newly_other, reason_at, settled_by, who_past, who_errs, errs_turned}

-- ---- one cabinet

pub error_note : (g : Group) (i : ℕ) (p : Place) → (enter_error g i p).settled ≡ settled_by (cabinet g i).phase.version g.settled i (reason_for (cabinet g i) i)
unfolding enter_error settle recover_with raise broadcast with_outgoing with_cabinet
error_note g i p = go (cabinet g i).phase.version
  where
    go : (x : Version) → (recover_if_known (raise g i p) i x (reason_for (cabinet g i) i)).settled ≡ settled_by x g.settled i (reason_for (cabinet g i) i)
    go (Known x) = refl
    go (Unknown x) = refl
    go Lost = refl

pub error_owns : (g : Group) → Fit g → (i : ℕ) (p : Place) → i < 8
    → (view (enter_error g i p)).own ≡ upd (view g).own i (o_erred ((view g).own i) p (lead_after (view g) i p))
error_owns g fit i p l = ap (λ (x : View). x.own) (sim_error g fit i p l ∙ error_seen (view g) i p)

-- ---- the neighbours of a in g₁, which is g but for cabinet a

module _ (g g₁ : Group) (fit : Fit g₁) (a t : ℕ) (q : Place) (same : (j : ℕ) → j ≢ a → (view g₁).own j ≡ (view g).own j) (note : g₁.settled ≡ g.settled)
    (calm : (j : ℕ) → in_recovery ((view g).own j).state ≡ false) (down : is_in ((view g₁).own a).state Recovering ≡ false)
    (apart : neighbours g₁ a a ≡ true → ⊥) (whole : (j : ℕ) → j < 8 → j ≢ a → j ≢ t) where
  abbrev v : ℕ → Own
  v = (view g).own

  abbrev after : ℕ → Group
  after n = alarm_to n g₁ a q

  abbrev w : ℕ → ℕ → Own
  w n = (view (after n)).own

  -- those below n have been asked
  pub record Asked (n : ℕ) (x : Group) : Type 0 where
    pub ahead : (j : ℕ) → n ≤ j → (view x).own j ≡ (view g₁).own j
    pub self : (view x).own a ≡ (view g₁).own a
    pub others : (j : ℕ) → j ≢ a → Turned (v j) ((view x).own j)
    pub who : Who v (view x).own g.settled x.settled t n

  abbrev Go : Bool → ℕ → Group
  Go x n = enter_error_if x (after n) n q

  module _ (n : ℕ) (l : n < 8) (h : Asked n (after n)) where
    -- as it was in g
    before : n ≢ a → w n n ≡ v n
    before d = h.ahead n (omega arith) ∙ same n d

    past_it : newly (v n) (w n n) ≡ false
    past_it = elim (ℕ_discrete n a) [
      | yes e ↦ newly_other (v n) (w n n) (ap (λ (o : Own). is_in o.state Recovering) (ap (w n) e ∙ h.self) ∙ down)
      | no d ↦ newly_same (v n) (w n n) (ap (λ (o : Own). o.state) (before d))
    ]

    module _ (near : neighbours g₁ n a ≡ true) where
      other : n ≢ a
      other e = apart (ap (λ (j : ℕ). neighbours g₁ j a) (sym e) ∙ near)

      abbrev o' : Own
      o' = o_erred (w n n) q (lead_after (view (after n)) n q)

      owns : (view (Go true n)).own ≡ upd (w n) n o'
      owns = error_owns (after n) (ok_alarm Shaped Lined Pictured shaped n g₁ a q fit) n q l

      at_n : (view (Go true n)).own n ≡ o'
      at_n = ap (λ (f : ℕ → Own). f n) owns ∙ upd_same (w n) n o'

      at_other : (j : ℕ) → j ≢ n → (view (Go true n)).own j ≡ w n j
      at_other j d = ap (λ (f : ℕ → Own). f j) owns ∙ upd_other (w n) n o' j d

      working : works (v n).state ≡ true
      working = ap (λ (o : Own). works o.state) (sym (same n other)) ∙ (and_true {s = works (state_of g₁ n)} near).0

      state_n : ((view (Go true n)).own n).state ≡ (o_erred (v n) q 0).state
      state_n = ap (λ (o : Own). o.state) at_n ∙ ap (λ (o : Own). (o_erred o q 0).state) (before other)

      version_n : ((view (Go true n)).own n).version ≡ (v n).version
      version_n = ap (λ (o : Own). o.version) at_n ∙ ap (λ (o : Own). o.version) (before other)

      noted : (Go true n).settled ≡ settled_by (v n).version (after n).settled n (reason_at (v n) n)
      noted = error_note (after n) n q ∙ ap (λ (o : Own). settled_by o.version (after n).settled n (reason_at o n)) (before other)

      asked_near : Asked (suc n) (Go true n)
      asked_near = record {
        ahead = λ j k. at_other j (λ e. omega arith) ∙ h.ahead j (omega arith);
        self = at_other a (λ e. other (sym e)) ∙ h.self;
        others = λ j d. elim (ℕ_discrete j n) [
          | yes e ↦ rw e (errs_turned (v n) ((view (Go true n)).own n) working (calm n) state_n version_n)
          | no m ↦ subst (Turned (v j)) (sym (at_other j m)) (h.others j d)
        ];
        who = who_errs v g.settled t n (w n) (view (Go true n)).own (after n).settled (Go true n).settled (λ j k. at_other j (λ e. omega arith)) working (calm n)
            (whole n l other) state_n noted h.who;
      }

    asked_far : Asked (suc n) (Go false n)
    asked_far = record {
      ahead = λ j k. h.ahead j (omega arith);
      self = h.self;
      others = h.others;
      who = who_past v g.settled t n (w n) (after n).settled past_it h.who;
    }

  pub asked : (n : ℕ) → n ≤ 8 → Asked n (after n)
  unfolding alarm_to
  asked zero l = record {
    ahead = λ j k. refl;
    self = refl;
    others = λ j d. kept (ap (λ (o : Own). o.state) (same j d)) (ap (λ (o : Own). o.version) (same j d));
    who = nobody note (λ j k. absurd (omega arith));
  }
  asked (suc n) l = go (neighbours g₁ n a) refl (asked n (omega arith))
    where
      go : (x : Bool) → neighbours g₁ n a ≡ x → Asked n (after n) → Asked (suc n) (Go x n)
      go true e h = asked_near n (omega arith) h e
      go false e h = asked_far n (omega arith) h
