-- Entering error and going on to recovering, as the view sees them, and what they leave of the group.
use Rattle.std.specs.Prelude.{Some}
use Prim.Native.Nat.{ℕ, ◌<◌}
use mathlib.Core.Path.{◌≡◌, refl, sym, ap, ◌∙◌, fun_ext, subst}
use mathlib.Core.Logic.{◌≢◌}
use mathlib.Core.Bool.{Bool, true, false, cond, not, ◌&&◌, false≢true}
use mathlib.Core.List.{List, [], ◌∷◌, ◌++◌}
use lib.ListN.{length}
use native.Mathlib.Omega.{arith}
use Rattle.outlet.specs.declared.Party.{Party}
use Rattle.packet.specs.declared.Place.{Place}
use Rattle.packet.specs.declared.Packet.{Packet}
use Rattle.packet.specs.declared.Packet.TheVariants.{Recover, Fault}
use Rattle.state.specs.declared.State.{State}
use Rattle.state.specs.declared.State.TheVariants.{Normal, CheckpBegin, Error, Recovering, Recovered, Crashed}
use Rattle.state.specs.declared.Version.{Version}
use Rattle.state.specs.declared.Version.TheVariants.{Known, Unknown, Lost}
use Rattle.state.specs.State.{is_in, works, in_recovery, is_unknown, in_saving}
use Rattle.group.specs.declared.Group.{Group}
use Rattle.group.specs.Group.{cabinet}
use Rattle.protocol.specs.History.{upd}
use Rattle.protocol.specs.Moves.{recover_with, recover_if_known, raise, reason_for, enter_error}
use Rattle.claims.proofs.State.Fun.{and_true, upd_same, upd_other, upd_id, kept_at, upd_twice}
use Rattle.claims.proofs.State.Every.{ok_raise}
use Rattle.claims.proofs.State.View.{View, Own, Side, used, view}
use Rattle.claims.proofs.State.Shape.{Shaped, Lined, Pictured, shaped}
use Rattle.claims.proofs.State.Sim.{Fit}
use Rattle.claims.proofs.State.Methods.{s_alarmed, hits_cabinet, hits_link}
use Rattle.claims.proofs.State.ViewMoves.{Room, v_broadcast, v_alarmed, v_silenced, v_recovering, o_phase, o_alarmed, lead_after, view_settle, sim_raise, sim_recover}
use Rattle.claims.proofs.Invariant.Facts.{Ghost, Alarms, aware, amounts_in, is_invalid, count}
use Rattle.claims.proofs.Invariant.Whole.{Core, work_of}
use Rattle.claims.proofs.Invariant.Words.{room_aware}
use Rattle.claims.proofs.Invariant.Frame.{moved}

-- ---- the moves as the view sees them

-- entering error before recover is put: the lines out hold the fault packet alone
abbrev pub v_raise : View → ℕ → Place → View
v_raise v c q = v_broadcast (v_silenced (v_alarmed v c q) c) c (Fault q)

-- going on with a version
abbrev pub v_recover : View → ℕ → Bool → View
v_recover v c x = v_broadcast (v_recovering v c x) c (Recover x)

abbrev pub v_known : View → ℕ → Version → View
v_known v c (Known x) = v_recover v c x
v_known v c (Unknown x) = v
v_known v c Lost = v

abbrev pub v_error : View → ℕ → Place → View
v_error v c q = v_known (v_raise v c q) c (v.own c).version

-- a cabinet that has entered error: it is in error, or, where it knows its version, recovering
abbrev pub erred_state : Version → State
erred_state (Known x) = Recovering
erred_state (Unknown x) = Error
erred_state Lost = Error

abbrev pub erred_rest : Version → List Packet
erred_rest (Known x) = Recover x ∷ []
erred_rest (Unknown x) = []
erred_rest Lost = []

abbrev pub erred_line : Version → Place → Bool → List Packet
erred_line x q u = cond u (Fault q ∷ erred_rest x) []

-- its coordinator from then on is k
abbrev pub o_erred : Own → Place → ℕ → Own
o_erred o q k = o_phase (o_alarmed o q k) (erred_state o.version) o.version (Some q)

abbrev pub s_erred : View → ℕ → Place → ℕ → Side
s_erred v c q d = s_alarmed q c d (v.side c d)

abbrev pub erred : View → ℕ → Place → View
erred v c q =
    moved v c (o_erred (v.own c) q (lead_after v c q)) (s_erred v c q)
    (upd v.lines c (λ d. erred_line (v.own c).version q (used (s_erred v c q d)))) v.slots

-- going on: recover comes last on the lines in use
abbrev pub o_goes : Own → Bool → Own
o_goes o x = o_phase o Recovering (Known x) o.alarm

abbrev pub goes_line : Bool → List Packet → Bool → List Packet
goes_line x l u = cond u (l ++ (Recover x ∷ [])) l

abbrev pub gone_on : View → ℕ → Bool → View
gone_on v c x =
    moved v c (o_goes (v.own c) x) (v.side c) (upd v.lines c (λ d. goes_line x (v.lines c d) (used (v.side c d)))) v.slots

pub recover_seen : (v : View) (c : ℕ) (x : Bool) → v_recover v c x ≡ gone_on v c x
recover_seen v c x = λ t. record {
  own = upd v.own c (o_goes (v.own c) x);
  side = upd v.side c (v.side c);
  lines = upd v.lines c (λ d. goes_line x (v.lines c d) (used (upd_same v.side c (v.side c) t d)));
  slots = v.slots;
  sound = v.sound;
}

abbrev pub raised : View → ℕ → Place → View
raised v c q =
    moved v c (o_alarmed (v.own c) q (lead_after v c q)) (s_erred v c q)
    (upd v.lines c (λ d. cond (used (s_erred v c q d)) (Fault q ∷ []) [])) v.slots

pub raise_seen : (v : View) (c : ℕ) (q : Place) → v_raise v c q ≡ raised v c q
raise_seen v c q = λ t. record {
  own = (raised v c q).own;
  side = (raised v c q).side;
  lines = rows t;
  slots = v.slots;
  sound = v.sound;
}
  where
    none : (d : ℕ) → upd v.lines c (λ b. []) c d ≡ []
    none d = ap (λ (f : ℕ → List Packet). f d) (upd_same v.lines c (λ b. []))

    row : (d : ℕ) → cond (used (upd v.side c (s_erred v c q) c d)) (upd v.lines c (λ b. []) c d ++ (Fault q ∷ [])) (upd v.lines c (λ b. []) c d)
        ≡ cond (used (s_erred v c q d)) (Fault q ∷ []) []
    row d = rw (upd_same v.side c (s_erred v c q), none d)

    rows : (v_raise v c q).lines ≡ (raised v c q).lines
    rows = upd_twice v.lines c _ _ ∙ ap (upd v.lines c) (fun_ext row)

known_seen : (v : View) (c : ℕ) (q : Place) (x : Bool) → (v.own c).version ≡ Known x → gone_on (raised v c q) c x ≡ erred v c q
known_seen v c q x e = λ t. record { own = owns t; side = sides t; lines = rows t; slots = v.slots; sound = v.sound }
  where
    owns : (gone_on (raised v c q) c x).own ≡ (erred v c q).own
    owns = upd_twice v.own c _ _ ∙ ap (upd v.own c) (rw (upd_same v.own c (o_alarmed (v.own c) q (lead_after v c q)), e))

    sides : (gone_on (raised v c q) c x).side ≡ (erred v c q).side
    sides = upd_id (upd v.side c (s_erred v c q)) c

    both : (u : Bool) → goes_line x (cond u (Fault q ∷ []) []) u ≡ erred_line (Known x) q u
    both true = refl
    both false = refl

    row : (d : ℕ) → goes_line x ((raised v c q).lines c d) (used ((raised v c q).side c d)) ≡ erred_line (v.own c).version q (used (s_erred v c q d))
    row d = rw (upd_same v.side c (s_erred v c q), upd_same v.lines c (λ b. cond (used (s_erred v c q b)) (Fault q ∷ []) []), e) (both (used (s_erred v c q d)))

    rows : (gone_on (raised v c q) c x).lines ≡ (erred v c q).lines
    rows = upd_twice v.lines c _ _ ∙ ap (upd v.lines c) (fun_ext row)

unknown_seen : (v : View) (c : ℕ) (q : Place) (x : Bool) → (v.own c).version ≡ Unknown x → raised v c q ≡ erred v c q
unknown_seen v c q x e = rw e

lost_seen : (v : View) (c : ℕ) (q : Place) → (v.own c).version ≡ Lost → raised v c q ≡ erred v c q
lost_seen v c q e = rw e

pub error_seen : (v : View) (c : ℕ) (q : Place) → v_error v c q ≡ erred v c q
error_seen v c q = go (v.own c).version refl
  where
    go : (x : Version) → (v.own c).version ≡ x → v_known (v_raise v c q) c x ≡ erred v c q
    go (Known x) e = recover_seen (v_raise v c q) c x ∙ ap (λ (u : View). gone_on u c x) (raise_seen v c q) ∙ known_seen v c q x e
    go (Unknown x) e = raise_seen v c q ∙ unknown_seen v c q x e
    go Lost e = raise_seen v c q ∙ lost_seen v c q e

-- ---- the state entered

pub erred_recovers : (x : Version) → in_recovery (erred_state x) ≡ true
erred_recovers (Known x) = refl
erred_recovers (Unknown x) = refl
erred_recovers Lost = refl

pub erred_works : (x : Version) → works (erred_state x) ≡ true
erred_works (Known x) = refl
erred_works (Unknown x) = refl
erred_works Lost = refl

pub erred_not_normal : (x : Version) → is_in (erred_state x) Normal ≡ false
erred_not_normal (Known x) = refl
erred_not_normal (Unknown x) = refl
erred_not_normal Lost = refl

pub erred_not_saving : (x : Version) → in_saving (erred_state x) ≡ false
erred_not_saving (Known x) = refl
erred_not_saving (Unknown x) = refl
erred_not_saving Lost = refl

pub erred_running : (x : Version) → is_in (erred_state x) Crashed ≡ false
erred_running (Known x) = refl
erred_running (Unknown x) = refl
erred_running Lost = refl

pub erred_not_begun : (x : Version) → is_in (erred_state x) CheckpBegin ≡ false
erred_not_begun (Known x) = refl
erred_not_begun (Unknown x) = refl
erred_not_begun Lost = refl

pub erred_not_restored : (x : Version) → is_in (erred_state x) Recovered ≡ false
erred_not_restored (Known x) = refl
erred_not_restored (Unknown x) = refl
erred_not_restored Lost = refl

pub erred_unknown : (x : Version) → is_unknown x ≡ is_in (erred_state x) Error
erred_unknown (Known x) = refl
erred_unknown (Unknown x) = refl
erred_unknown Lost = refl

-- ---- its lines

pub erred_alarms : (x : Version) (q : Place) (u : Bool) → Alarms x q (erred_line x q u)
erred_alarms (Known x) q true = record { faults = true; recovers = true; value = x; is = refl; knows = λ e. refl }
erred_alarms (Unknown x) q true = record { faults = true; recovers = false; value = x; is = refl; knows = λ e. absurd (false≢true e) }
erred_alarms Lost q true = record { faults = true; recovers = false; value = false; is = refl; knows = λ e. absurd (false≢true e) }
erred_alarms (Known x) q false = record { faults = false; recovers = false; value = x; is = refl; knows = λ e. absurd (false≢true e) }
erred_alarms (Unknown x) q false = record { faults = false; recovers = false; value = x; is = refl; knows = λ e. absurd (false≢true e) }
erred_alarms Lost q false = record { faults = false; recovers = false; value = false; is = refl; knows = λ e. absurd (false≢true e) }

pub erred_sound : (x : Version) (q : Place) (u : Bool) → count is_invalid (erred_line x q u) ≡ 0
unfolding count
erred_sound (Known x) q true = refl
erred_sound (Unknown x) q true = refl
erred_sound Lost q true = refl
erred_sound x q false = refl

pub erred_bare : (x : Version) (q : Place) (u : Bool) → amounts_in (erred_line x q u) ≡ []
unfolding amounts_in
erred_bare (Known x) q true = refl
erred_bare (Unknown x) q true = refl
erred_bare Lost q true = refl
erred_bare x q false = refl

and_part : (s t x y : Bool) → ((s && x) && (t && y)) ≡ true → (s && t) ≡ true
and_part true true x y e = refl
and_part true false x y e = absurd (false≢true (and_true {s = x} e).1)
and_part false t x y e = absurd (false≢true e)

-- what is in use after the strike was in use before
pub strike_used : (q : Place) (c d : ℕ) (s : Side) → used (s_alarmed q c d s) ≡ true → used s ≡ true
strike_used q c d s e = and_part s.link s.cab (not (hits_link q c d)) (not (hits_cabinet q d)) e

-- ---- the group

pub sim_error : (g : Group) → Fit g → (c : ℕ) (q : Place) → c < 8 → view (enter_error g c q) ≡ v_error (view g) c q
unfolding enter_error
sim_error g w c q l = go (cabinet g c).phase.version
  where
    fit : Fit (raise g c q)
    fit = ok_raise Shaped Lined Pictured shaped g c q w

    seen : view (raise g c q) ≡ raised (view g) c q
    seen = sim_raise g w c q l ∙ raise_seen (view g) c q

    short : (t : Bool) → length (cond t (Fault q ∷ []) []) < 12
    short true = omega arith
    short false = omega arith

    room : (x : Bool) → Room (v_recovering (view (raise g c q)) c x) c
    room x =
        subst (λ (u : View). Room (v_recovering u c x) c) (sym seen)
        (λ b e. rw (upd_same (view g).lines c (λ d. cond (used (s_erred (view g) c q d)) (Fault q ∷ []) [])) (short (used (s_erred (view g) c q b))))

    go : (x : Version) → view (recover_if_known (raise g c q) c x (reason_for (cabinet g c) c)) ≡ v_known (v_raise (view g) c q) c x
    go (Known x) = view_settle _ c _ ∙ sim_recover (raise g c q) fit c x l (room x) ∙ ap (λ (u : View). v_recover u c x) (sim_raise g w c q l)
    go (Unknown x) = sim_raise g w c q l
    go Lost = sim_raise g w c q l

pub sim_recover' : (n : ℕ) (total : Party → ℕ) (g : Group) (γ : Ghost) → Fit g → Core n total (view g) γ → (c : ℕ) (x : Bool) → c < 8
    → aware γ.big ((view g).own c) ≡ true → view (recover_with g c x) ≡ v_recover (view g) c x
sim_recover' n total g γ w i c x l aw = sim_recover g w c x l (λ b e. room_aware n total (view g) γ i c aw b (plain b e))
  where
    plain : (b : ℕ) → used (upd (view g).side c ((view g).side c) c b) ≡ true → used ((view g).side c b) ≡ true
    plain b e = subst (λ (s : ℕ → Side). used (s b) ≡ true) (upd_same (view g).side c ((view g).side c)) e

-- ---- what is left of the group

pub error_own : (v : View) (c : ℕ) (q : Place) → (v_error v c q).own c ≡ o_erred (v.own c) q (lead_after v c q)
error_own v c q = ap (λ (u : View). u.own c) (error_seen v c q) ∙ upd_same v.own c (o_erred (v.own c) q (lead_after v c q))

pub error_knows : (v : View) (c : ℕ) (q : Place) → in_recovery ((v_error v c q).own c).state ≡ true
error_knows v c q = ap (λ (o : Own). in_recovery o.state) (error_own v c q) ∙ erred_recovers (v.own c).version

pub error_side : (v : View) (c : ℕ) (q : Place) (d : ℕ) → (v_error v c q).side c d ≡ s_alarmed q c d (v.side c d)
error_side v c q d =
    ap (λ (u : View). u.side c d) (error_seen v c q) ∙ ap (λ (f : ℕ → Side). f d) (upd_same v.side c (s_erred v c q))

pub error_line : (v : View) (c : ℕ) (q : Place) (a d : ℕ) → a ≢ c → (v_error v c q).lines a d ≡ v.lines a d
error_line v c q a d n =
    ap (λ (u : View). u.lines a d) (error_seen v c q)
    ∙ ap (λ (f : ℕ → List Packet). f d) (upd_other v.lines c (λ b. erred_line (v.own c).version q (used (s_erred v c q b))) a n)

pub error_works : (v : View) (c : ℕ) (q : Place) → works (v.own c).state ≡ true → (j : ℕ) → work_of (v_error v c q) j ≡ work_of v j
error_works v c q w j =
    ap (λ (u : View). work_of u j) (error_seen v c q)
    ∙ kept_at (λ (x : Own). works x.state) v.own c (o_erred (v.own c) q (lead_after v c q)) (erred_works (v.own c).version ∙ sym w) j

-- nobody aware, and not the cabinet itself, is in normal after it
pub error_here : (v : View) (c : ℕ) (q : Place) → is_in ((v_error v c q).own c).state Normal ≡ false
error_here v c q =
    ap (λ (u : View). is_in (u.own c).state Normal) (error_seen v c q)
    ∙ ap (λ (o : Own). is_in o.state Normal) (upd_same v.own c (o_erred (v.own c) q (lead_after v c q))) ∙ erred_not_normal (v.own c).version
