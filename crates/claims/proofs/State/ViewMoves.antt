-- The moves of the protocol, seen in the view: each is one change of a cabinet with its sides, and one of its lines out.
use Rattle.std.specs.Prelude.{None, Some}
use Prim.Native.Nat.{ℕ, zero, suc, ◌<◌, ◌≤◌}
use mathlib.Core.Path.{◌≡◌, refl, sym, ap, ◌∙◌, fun_ext, subst}
use mathlib.Core.Logic.{◌≢◌}
use mathlib.Core.Bool.{Bool, true, false, cond, ◌&&◌}
use mathlib.Core.List.{List, [], ◌∷◌, ◌++◌}
use lib.Seq.{set_out}
use lib.ListN.{length, get_or, replicate, get_or-replicate}
use lib.Dec.{eqb, ltb}
use borrow.Author.Tests.{lt-ltb, le-ltb, eq-eqb, ne_eqb}
use native.Mathlib.Omega.{arith}
use native.Mathlib.Decide.{dec_lt}
use Rattle.marks.specs.Marks.{marked}
use Rattle.packet.specs.declared.Check.{Check}
use Rattle.outlet.specs.declared.Outlet.{Outlet}
use Rattle.outlet.specs.Outlet.{ends_of}
use Rattle.packet.specs.declared.Payload.{Payload}
use Rattle.packet.specs.declared.Packet.{Packet}
use Rattle.packet.specs.declared.Packet.TheVariants.{Normal as NormalPacket, Checkp, Resume, Recover, Fault}
use Rattle.packet.specs.declared.Place.{Place}
use Rattle.packet.specs.declared.Place.TheVariants.{Failed as AtFailed, Tripped as AtTripped, Link as AtLink}
use Rattle.line.specs.declared.Cell.{Cell}
use Rattle.packet.specs.Packet.{is_empty, start_check, step_check}
use Rattle.line.specs.declared.Line.{Line}
use Rattle.line.specs.Line.{empty_cell, empty_line, oldest, rest}
use Rattle.state.specs.declared.Version.{Version}
use Rattle.state.specs.declared.Version.TheVariants.{Known, Lost}
use Rattle.state.specs.declared.State.{State}
use Rattle.state.specs.declared.State.TheVariants.{Failed, Normal, CheckpBegin, Checkpointing, Error, Recovering}
use Rattle.cabinet.specs.Alarm.{Alarm}
use Rattle.settled.specs.declared.Reason.{Reason}
use Rattle.image.specs.declared.Image.{Image}
use Rattle.cabinet.specs.declared.Cabinet.{Cabinet}
use Rattle.image.specs.Image.{blank_image, charged, credited}
use Rattle.table.specs.Table.{is_at}
use Rattle.cabinet.specs.Cabinet.{in_use, sending, taking, hurt_from, beginning, comparing, owing, saved_for, resuming, alarmed, blanked, recovering, restored_for, unsure_for, with_state, with_version}
use Rattle.group.specs.declared.Group.{Group}
use Rattle.outgoing.specs.Lines.{put_all, put_checkps, checkps, empty_lines, line_to}
use Rattle.group.specs.Group.{cabinet, with_cabinets, with_cabinet, outgoing, with_outgoing, line, with_line, rows_of, with_trips_of, forget_trips, settle, settle_over}
use Rattle.protocol.specs.History.{upd}
use Rattle.protocol.specs.Moves.{broadcast, join, resume_with, recover_with, recover_if_known, raise, reason_for, enter_error, hear, emptied_to, mark_failed, trip, note_at, note_for, note_lost}
use Rattle.protocol.specs.Kinds.{carried, sent}
use Rattle.claims.proofs.State.Fun.{upd_elim, upd_same, and-false}
use Rattle.claims.proofs.State.Every.{get_d_repeated, with_cabinet_lem, with_outgoing_lem, put_checkps_lem, with_trips, out_of, no_packets_lem, ok_emptied, ok_raise}
use Rattle.claims.proofs.State.View.{View, Own, Side, own_in, used, content, view, set_cabinet, set_lines, set_line}
use Rattle.claims.proofs.State.Cells.{content_oldest}
use Rattle.claims.proofs.State.Shape.{Shaped, Lined, Pictured, shaped}
use Rattle.claims.proofs.State.Sim.{Fit, cabinet_same, contents, put_content, view_line, view_cabinet, view_outgoing, in_use_lem, past_use, row_content}
use Rattle.claims.proofs.State.Leading.{lead_over}
use Rattle.claims.proofs.State.Methods.{s_marks, s_owed, s_registers, s_cleared, s_compared, s_begun, s_alarmed, side_hurt, side_sending, side_taking, side_comparing, side_owing, side_saved, side_hearing, side_restored, side_unsure, side_beginning, side_resuming, side_alarmed, lead_alarmed}

-- ---- the counts of trips are no part of the view

pub view_forget : (g : Group) → view (forget_trips g) ≡ view g
unfolding cabinet outgoing line rows_of forget_trips
view_forget g = refl

pub view_counted : (g : Group) (a k : ℕ) → view (with_trips_of g a k) ≡ view g
unfolding cabinet outgoing line rows_of with_trips_of
view_counted g a k = refl

pub fit_counted : (g : Group) (a k : ℕ) → Fit g → Fit (with_trips_of g a k)
fit_counted g a k w = with_trips Shaped Lined Pictured shaped g a k w

-- ---- nor is who settled the recovery

pub view_settle : (g : Group) (i : ℕ) (r : Reason) → view (settle g i r) ≡ view g
unfolding cabinet outgoing line rows_of settle
view_settle g i r = refl

pub view_over : (g : Group) → view (settle_over g) ≡ view g
unfolding cabinet outgoing line rows_of settle_over
view_over g = refl

-- ---- a packet on all lines in use of cabinet i

abbrev pub v_put : View → ℕ → (ℕ → Packet) → ℕ → List Packet
v_put v i f b = cond (used (v.side i b)) (v.lines i b ++ (f b ∷ [])) (v.lines i b)

abbrev pub v_broadcast : View → ℕ → Packet → View
v_broadcast v i p = set_lines v i (v_put v i (λ b. p))

abbrev pub Room : View → ℕ → Type 0
Room v i = (b : ℕ) → used (v.side i b) ≡ true → length (v.lines i b) < 12

module _ (g : Group) (w : Fit g) (i : ℕ) (l : i < 8) (room : Room (view g) i) where
  room_marked : (b : ℕ) → marked (in_use (cabinet g i)) b ≡ true → length ((view g).lines i b) < 12
  room_marked b e = room b (sym (in_use_lem (cabinet g i) (w.cabs i) b) ∙ e)

  after_put : (ps : List Cell) (f : ℕ → Packet) → ((b : ℕ) → b < 8 → (get_or ps b empty_cell).packet ≡ f b)
      → (b : ℕ) → cond (marked (in_use (cabinet g i)) b) ((view g).lines i b ++ ((get_or ps b empty_cell).packet ∷ [])) ((view g).lines i b) ≡ v_put (view g) i f b
  after_put ps f same b = elim (dec_lt b 8) [
    | yes h ↦ rw (in_use_lem (cabinet g i) (w.cabs i) b, same b h)
    | no n ↦ let no-use = past_use (cabinet g i) b (omega arith) in rw (no-use, ← in_use_lem (cabinet g i) (w.cabs i) b, no-use)
  ]

  pub sim_broadcast : (p : Packet) → is_empty p ≡ false → view (broadcast g i p) ≡ v_broadcast (view g) i p
  unfolding broadcast put_all
  sim_broadcast p f =
      let ps : List Cell = replicate 8 (record { packet = p }) in
      let at : (b : ℕ) → b < 8 → (get_or ps b empty_cell).packet ≡ p = λ b h. ap (λ (x : Cell). x.packet) (get_or-replicate 8 b (record { packet = p }) empty_cell h) in
      view_outgoing g w.frame i _ l
      ∙ ap (set_lines (view g) i)
      (row_content g w i (in_use (cabinet g i)) ps (past_use (cabinet g i)) (λ b h. rw (at b h) f) room_marked ∙ fun_ext (after_put ps (λ b. p) at))

-- ---- a change of one cabinet and of its side towards another

abbrev pub v_hear : View → ℕ → ℕ → View
v_hear v a b =
    let s = v.side b a in
    set_cabinet v b (v.own b) (upd (v.side b) a (s_marks s s.come s.saved s.restored true s.unsure))

pub sim_hear : (g : Group) → Fit g → (a b : ℕ) → a < 8 → b < 8 → view (hear g a b) ≡ v_hear (view g) a b
unfolding hear
sim_hear g w a b la lb =
    view_cabinet g w.frame b _ lb ∙ ap (set_cabinet (view g) b ((view g).own b)) (side_hearing (cabinet g b) (w.cabs b) a la)

abbrev pub v_hurt : View → ℕ → ℕ → View
v_hurt v a b =
    let s = v.side b a in
    set_cabinet v b (v.own b) (upd (v.side b) a (s_registers s s.put s.took true))

pub sim_hurt : (g : Group) → Fit g → (a b : ℕ) → a < 8 → b < 8 → view (with_cabinet g b (hurt_from (cabinet g b) a)) ≡ v_hurt (view g) a b
sim_hurt g w a b la lb =
    view_cabinet g w.frame b _ lb ∙ ap (set_cabinet (view g) b ((view g).own b)) (side_hurt (cabinet g b) (w.cabs b) a la)

abbrev pub v_owe : View → ℕ → ℕ → Bool → View
v_owe v h a o = set_cabinet v h (v.own h) (upd (v.side h) a (s_owed (v.side h a) o))

pub sim_owe : (g : Group) → Fit g → (h a : ℕ) (o : Bool) → h < 8 → a < 8 → view (with_cabinet g h (owing (cabinet g h) a o)) ≡ v_owe (view g) h a o
sim_owe g w h a o lh la =
    view_cabinet g w.frame h _ lh ∙ ap (set_cabinet (view g) h ((view g).own h)) (side_owing (cabinet g h) (w.cabs h) a la o)

abbrev pub v_saved : View → ℕ → ℕ → View
v_saved v k a =
    let s = v.side k a in
    set_cabinet v k (v.own k) (upd (v.side k) a (s_marks s s.come true s.restored s.heard s.unsure))

pub sim_saved : (g : Group) → Fit g → (k a : ℕ) → k < 8 → a < 8 → view (with_cabinet g k (saved_for (cabinet g k) a)) ≡ v_saved (view g) k a
sim_saved g w k a lk la =
    view_cabinet g w.frame k _ lk ∙ ap (set_cabinet (view g) k ((view g).own k)) (side_saved (cabinet g k) (w.cabs k) a la)

abbrev pub v_restored : View → ℕ → ℕ → View
v_restored v k a =
    let s = v.side k a in
    set_cabinet v k (v.own k) (upd (v.side k) a (s_marks s s.come s.saved true s.heard s.unsure))

pub sim_restored : (g : Group) → Fit g → (k a : ℕ) → k < 8 → a < 8 → view (with_cabinet g k (restored_for (cabinet g k) a)) ≡ v_restored (view g) k a
sim_restored g w k a lk la =
    view_cabinet g w.frame k _ lk ∙ ap (set_cabinet (view g) k ((view g).own k)) (side_restored (cabinet g k) (w.cabs k) a la)

abbrev pub v_unsure : View → ℕ → ℕ → View
v_unsure v k a =
    let s = v.side k a in
    set_cabinet v k (v.own k) (upd (v.side k) a (s_marks s s.come s.saved s.restored s.heard true))

pub sim_unsure : (g : Group) → Fit g → (k a : ℕ) → k < 8 → a < 8 → view (with_cabinet g k (unsure_for (cabinet g k) a)) ≡ v_unsure (view g) k a
sim_unsure g w k a lk la =
    view_cabinet g w.frame k _ lk ∙ ap (set_cabinet (view g) k ((view g).own k)) (side_unsure (cabinet g k) (w.cabs k) a la)

abbrev pub o_image : Own → Image → Own
o_image o m = record { state = o.state; version = o.version; alarm = o.alarm; pieces = o.pieces; image = m; home = o.home; present = o.present; lead = o.lead; former = o.former }

abbrev pub o_phase : Own → State → Version → Alarm → Own
o_phase o s v a = record { state = s; version = v; alarm = a; pieces = o.pieces; image = o.image; home = o.home; present = o.present; lead = o.lead; former = o.former }

abbrev pub o_pieces : Own → ℕ → Own
o_pieces o k = record { state = o.state; version = o.version; alarm = o.alarm; pieces = k; image = o.image; home = o.home; present = o.present; lead = o.lead; former = o.former }

-- nothing is noted any more
abbrev pub o_bare : Own → Own
o_bare o = record { state = o.state; version = o.version; alarm = o.alarm; pieces = 0; image = o.image; home = o.home; present = o.present; lead = o.lead; former = false }

-- in error for a place, with a coordinator k from then on
abbrev pub o_alarmed : Own → Place → ℕ → Own
o_alarmed o p k = record {
  state = Error;
  version = o.version;
  alarm = Some p;
  pieces = 0;
  image = o.image;
  home = o.home;
  present = o.present;
  lead = k;
  former = is_at p o.lead;
}

-- a normal packet taken
abbrev pub v_take : View → ℕ → ℕ → Payload → View
v_take v a b p =
    let s = v.side b a in let m = (v.own b).image in
    set_cabinet v b (o_image (v.own b) (credited m p.outlet p.amount))
    (upd (v.side b) a (s_registers s s.put (step_check s.took p) s.hurt))

pub sim_take : (g : Group) → Fit g → (a b : ℕ) (p : Payload) → a < 8 → b < 8 → view (with_cabinet g b (taking (cabinet g b) a p)) ≡ v_take (view g) a b p
sim_take g w a b p la lb =
    view_cabinet g w.frame b _ lb
    ∙ ap (set_cabinet (view g) b (own_in g b (taking (cabinet g b) a p))) (side_taking (cabinet g b) (w.cabs b) a la p)

-- an equal comparison, before the cut is asked
abbrev pub v_compare : View → ℕ → ℕ → View
v_compare v a b = set_cabinet v b (v.own b) (upd (v.side b) a (s_compared (v.side b a)))

pub sim_compare : (g : Group) → Fit g → (a b : ℕ) → a < 8 → b < 8 → view (with_cabinet g b (comparing (cabinet g b) a)) ≡ v_compare (view g) a b
sim_compare g w a b la lb =
    view_cabinet g w.frame b _ lb ∙ ap (set_cabinet (view g) b ((view g).own b)) (side_comparing (cabinet g b) (w.cabs b) a la)

-- ---- a change of one cabinet and all its sides, then a packet on its lines in use

abbrev pub v_joined : View → ℕ → View
v_joined v i = set_cabinet v i (o_bare (o_phase (v.own i) CheckpBegin (v.own i).version (v.own i).alarm)) (λ b. s_begun (v.side i b))

-- the checkps are put first, each with its line's register
abbrev pub v_join : View → ℕ → View
v_join v i = v_joined (set_lines v i (v_put v i (λ b. Checkp (v.side i b).put))) i

abbrev pub v_resumed : View → ℕ → Version → View
v_resumed v i x = set_cabinet v i (o_bare (o_phase (v.own i) Normal x None)) (λ b. s_cleared (v.side i b))

pub view_resumed : (g : Group) → Fit g → (i : ℕ) (x : Version) → i < 8 → view (with_cabinet g i (resuming (cabinet g i) x)) ≡ v_resumed (view g) i x
view_resumed g w i x l =
    view_cabinet g w.frame i _ l
    ∙ ap (set_cabinet (view g) i (own_in g i (resuming (cabinet g i) x))) (fun_ext (λ b. side_resuming (cabinet g i) (w.cabs i) x b))

abbrev pub v_recovering : View → ℕ → Bool → View
v_recovering v i x = set_cabinet v i (o_phase (v.own i) Recovering (Known x) (v.own i).alarm) (v.side i)

pub view_recovering : (g : Group) → Fit g → (i : ℕ) (x : Bool) → i < 8 → view (with_cabinet g i (recovering (cabinet g i) x)) ≡ v_recovering (view g) i x
view_recovering g w i x l = view_cabinet g w.frame i _ l

-- a broadcast after a change of the cabinet alone
module _ (g : Group) (w : Fit g) (i : ℕ) (l : i < 8) (c : Cabinet) (hc : Shaped c) (u : View) (e : view (with_cabinet g i c) ≡ u) (room : Room u i) where
  pub sim_then : (p : Packet) → is_empty p ≡ false → view (broadcast (with_cabinet g i c) i p) ≡ v_broadcast u i p
  sim_then p f =
      sim_broadcast (with_cabinet g i c) (with_cabinet_lem Shaped Lined Pictured shaped g i c hc w) i l (subst (λ (x : View). Room x i) (sym e) room) p f
      ∙ ap (λ (x : View). v_broadcast x i p) e

pub sim_resume : (g : Group) → Fit g → (i : ℕ) (x : Version) → i < 8 → Room (v_resumed (view g) i x) i
    → view (resume_with g i x) ≡ v_broadcast (v_resumed (view g) i x) i Resume
unfolding resume_with
sim_resume g w i x l room = sim_then g w i l _ (shaped.resuming (cabinet g i) x (w.cabs i)) _ (view_resumed g w i x l) room Resume refl

pub sim_recover : (g : Group) → Fit g → (i : ℕ) (x : Bool) → i < 8 → Room (v_recovering (view g) i x) i
    → view (recover_with g i x) ≡ v_broadcast (v_recovering (view g) i x) i (Recover x)
unfolding recover_with
sim_recover g w i x l room = sim_then g w i l _ (shaped.recovering (cabinet g i) x (w.cabs i)) _ (view_recovering g w i x l) room (Recover x) refl

-- the coordinator that i's table names once it has entered error for a place
abbrev pub lead_after : View → ℕ → Place → ℕ
lead_after v i p = lead_over p (v.own i).lead (λ b. (s_alarmed p i b (v.side i b)).cab)

-- entering error, before recover is put: the lines out hold the fault packet alone
abbrev pub v_alarmed : View → ℕ → Place → View
v_alarmed v i p = set_cabinet v i (o_alarmed (v.own i) p (lead_after v i p)) (λ b. s_alarmed p i b (v.side i b))

abbrev pub v_silenced : View → ℕ → View
v_silenced v i = set_lines v i (λ b. [])

pub no_content : contents empty_lines ≡ (λ b. [])
unfolding empty_lines line_to content
no_content = fun_ext (λ b. get_d_repeated (λ (x : Line). content x.cells ≡ []) 8 b empty_line empty_line refl refl)

module _ (g : Group) (w : Fit g) (i : ℕ) (p : Place) (l : i < 8) where
  alarm_one : Fit (with_cabinet g i (alarmed (cabinet g i) i p))
  alarm_one = with_cabinet_lem Shaped Lined Pictured shaped g i _ (shaped.alarmed (cabinet g i) i p (w.cabs i)) w

  view_alarmed : view (with_cabinet g i (alarmed (cabinet g i) i p)) ≡ v_alarmed (view g) i p
  view_alarmed =
      view_cabinet g w.frame i _ l
      ∙ ap (set_cabinet (view g) i (own_in g i (alarmed (cabinet g i) i p))) (fun_ext (λ b. side_alarmed (cabinet g i) i p b))
      ∙ ap (λ (k : ℕ). set_cabinet (view g) i (o_alarmed ((view g).own i) p k) (λ b. s_alarmed p i b ((view g).side i b))) (lead_alarmed (cabinet g i) i p)

  silence : Fit (with_outgoing (with_cabinet g i (alarmed (cabinet g i) i p)) i empty_lines)
  silence = with_outgoing_lem Shaped Lined Pictured shaped _ i _ (no_packets_lem Shaped Lined Pictured shaped) alarm_one

  view_silence : view (with_outgoing (with_cabinet g i (alarmed (cabinet g i) i p)) i empty_lines) ≡ v_silenced (v_alarmed (view g) i p) i
  view_silence =
      view_outgoing _ alarm_one.frame i empty_lines l ∙ ap (set_lines _ i) no_content ∙ ap (λ (x : View). v_silenced x i) view_alarmed

  pub sim_raise : view (raise g i p) ≡ v_broadcast (v_silenced (v_alarmed (view g) i p) i) i (Fault p)
  unfolding raise
  sim_raise =
      sim_broadcast _ silence i l (subst (λ (x : View). Room x i) (sym view_silence) no_room) (Fault p) refl
      ∙ ap (λ (x : View). v_broadcast x i (Fault p)) view_silence
    where
      no_room : Room (v_silenced (v_alarmed (view g) i p) i) i
      no_room b e = rw (upd_same (view g).lines i (λ b. [])) (omega arith)

-- ---- join: a checkp on each line in use, with that line's register

checkp_at : (rs : List Check) (b : ℕ) → b < 8 → (get_or (checkps rs) b empty_cell).packet ≡ Checkp (get_or rs b start_check)
checkp_at rs zero h = refl
checkp_at rs (suc zero) h = refl
checkp_at rs (suc (suc zero)) h = refl
checkp_at rs (suc (suc (suc zero))) h = refl
checkp_at rs (suc (suc (suc (suc zero)))) h = refl
checkp_at rs (suc (suc (suc (suc (suc zero))))) h = refl
checkp_at rs (suc (suc (suc (suc (suc (suc zero)))))) h = refl
checkp_at rs (suc (suc (suc (suc (suc (suc (suc zero))))))) h = refl
checkp_at rs (suc (suc (suc (suc (suc (suc (suc (suc b)))))))) h = absurd (omega arith)

module _ (g : Group) (w : Fit g) (i : ℕ) (l : i < 8) (room : Room (view g) i) where
  abbrev regs : List Check
  regs = (cabinet g i).registers.sent

  view_checkps : view (with_outgoing g i (put_checkps (in_use (cabinet g i)) regs (outgoing g i))) ≡ set_lines (view g) i (v_put (view g) i (λ b. Checkp ((view g).side i b).put))
  unfolding put_checkps
  view_checkps =
      view_outgoing g w.frame i _ l
      ∙ ap (set_lines (view g) i)
      (row_content g w i (in_use (cabinet g i)) (checkps regs) (past_use (cabinet g i)) (λ b h. rw (checkp_at regs b h)) (room_marked g w i l room)
      ∙ fun_ext (after_put g w i l room (checkps regs) (λ b. Checkp (get_or regs b start_check)) (checkp_at regs)))

  checkps_put : Fit (with_outgoing g i (put_checkps (in_use (cabinet g i)) regs (outgoing g i)))
  checkps_put =
      with_outgoing_lem Shaped Lined Pictured shaped g i _
      (put_checkps_lem Shaped Lined Pictured shaped (in_use (cabinet g i)) regs (outgoing g i) (out_of Shaped Lined Pictured shaped g i w)) w

  pub sim_join : view (join g i) ≡ v_join (view g) i
  unfolding join with_outgoing cabinet
  sim_join =
      view_cabinet _ checkps_put.frame i _ l
      ∙ ap (set_cabinet (view (with_outgoing g i (put_checkps (in_use (cabinet g i)) regs (outgoing g i)))) i (own_in g i (beginning (cabinet g i))))
      (fun_ext (λ b. side_beginning (cabinet g i) (w.cabs i) b))
      ∙ ap (λ (x : View). set_cabinet x i (own_in g i (beginning (cabinet g i))) (λ b. s_begun ((view g).side i b))) view_checkps

-- ---- lines

-- the oldest packet from a to b is taken off
pub sim_off : (g : Group) (a b : ℕ) → is_empty (oldest (line g a b)) ≡ false → (view g).lines a b ≡ oldest (line g a b) ∷ content (rest (line g a b)).cells
sim_off g a b e = content_oldest (line g a b).cells e

pub view_off : (g : Group) → Fit g → (a b : ℕ) → a < 8 → b < 8 → view (with_line g a b (rest (line g a b))) ≡ set_line (view g) a b (content (rest (line g a b)).cells)
view_off g w a b la lb = view_line g w.frame a b _ la lb

-- a send: the packet comes last, and the sender has paid at outlet o
abbrev pub v_sent : View → ℕ → ℕ → Outlet → Payload → View
v_sent v a b o p =
    let s = v.side a b in let m = (v.own a).image in
    set_line
    (set_cabinet v a (o_image (v.own a) (charged m o p.amount)) (upd (v.side a) b (s_registers s (step_check s.put p) s.took s.hurt)))
    a b (v.lines a b ++ (NormalPacket p ∷ []))

pub sim_sent : (g : Group) → Fit g → (a b s q : ℕ) → q < 65536 → a < 8 → b < 8 → length ((view g).lines a b) < 12
    → view (sent g a b s q) ≡ v_sent (view g) a b (ends_of s).from (carried g s q)
unfolding sent
sim_sent g w a b s q lq la lb room =
    let o = (ends_of s).from in
    let p = carried g s q in
    let paid = with_cabinet_lem Shaped Lined Pictured shaped g a (sending (cabinet g a) b o p) (shaped.sending (cabinet g a) b o p lq (w.cabs a)) w in
    view_line _ paid.frame a b _ la lb
    ∙ ap (set_line (view (with_cabinet g a (sending (cabinet g a) b o p))) a b) (put_content (line g a b) (w.lines a b) (NormalPacket p) refl room)
    ∙ ap (λ (x : View). set_line x a b ((view g).lines a b ++ (NormalPacket p ∷ [])))
    (view_cabinet g w.frame a _ la
    ∙ ap (set_cabinet (view g) a (own_in g a (sending (cabinet g a) b o p))) (side_sending (cabinet g a) (w.cabs a) b lb o p))

-- the lines to a failed or tripped cabinet are emptied
abbrev pub v_emptied : ℕ → View → ℕ → View
v_emptied n v a = record {
  own = v.own;
  side = v.side;
  lines = λ i b. cond (ltb i n && eqb b a) [] (v.lines i b);
  slots = v.slots;
  sound = v.sound;
}

nothing_in : content empty_line.cells ≡ []
unfolding content
nothing_in = refl

ltb_more : (i n : ℕ) → i ≢ n → ltb i (suc n) ≡ ltb i n
ltb_more i n d = elim (dec_lt i n)
    [ yes h ↦ rw (lt-ltb i n h, lt-ltb i (suc n) (omega arith)) | no h ↦ rw (le-ltb i n (omega arith), le-ltb i (suc n) (omega arith)) ]

-- one line more is emptied
emptied_more : (v : View) (n a i b : ℕ) → upd (v_emptied n v a).lines n (upd ((v_emptied n v a).lines n) a []) i b ≡ (v_emptied (suc n) v a).lines i b
emptied_more v n a i b =
    upd_elim (λ (f : ℕ → List Packet). f b ≡ (v_emptied (suc n) v a).lines i b) (v_emptied n v a).lines n _ i
    (λ e. upd_elim (λ (x : List Packet). x ≡ (v_emptied (suc n) v a).lines i b) ((v_emptied n v a).lines n) a [] b
    (λ f. rw (e, f, lt-ltb n (suc n) (omega arith), eq-eqb a a refl))
    (λ f. rw (e, ne_eqb b a f, and-false, and-false)))
    (λ d. rw (ltb_more i n d))

pub sim_emptied : (n : ℕ) (g : Group) (a : ℕ) → Fit g → n ≤ 8 → a < 8 → view (emptied_to n g a) ≡ v_emptied n (view g) a
sim_emptied zero g a w l la = λ t. record {
  own = (view g).own;
  side = (view g).side;
  lines = λ i b. none_yet i b t;
  slots = (view g).slots;
  sound = (view g).sound;
}
  where
    none_yet : (i b : ℕ) → (view g).lines i b ≡ (v_emptied 0 (view g) a).lines i b
    none_yet i b = rw (le-ltb i 0 (omega arith))
sim_emptied (suc n) g a w l la =
    let h = ok_emptied Shaped Lined Pictured shaped n g a w in
    let e = sim_emptied n g a w (omega arith) la in
    view_line (emptied_to n g a) h.frame n a empty_line (omega arith) la
    ∙ ap (λ (x : List Packet). set_line (view (emptied_to n g a)) n a x) nothing_in
    ∙ ap (λ (x : View). set_line x n a []) e
    ∙ (λ t. record {
      own = (view g).own;
      side = (view g).side;
      lines = λ i b. emptied_more (view g) n a i b t;
      slots = (view g).slots;
      sound = (view g).sound;
    })

-- a failed cabinet: its state, and its lines both ways
abbrev pub v_failed : View → ℕ → View
v_failed v a = v_emptied 8 (v_silenced (set_cabinet v a (o_phase (v.own a) Failed (v.own a).version (v.own a).alarm) (v.side a)) a) a

pub sim_failed : (g : Group) → Fit g → (a : ℕ) → a < 8 → view (mark_failed g a) ≡ v_failed (view g) a
unfolding mark_failed
sim_failed g w a la =
    let one = with_cabinet_lem Shaped Lined Pictured shaped g a (with_state (cabinet g a) Failed) (shaped.stated (cabinet g a) Failed (w.cabs a)) w in
    let two = with_outgoing_lem Shaped Lined Pictured shaped _ a _ (no_packets_lem Shaped Lined Pictured shaped) one in
    sim_emptied 8 _ a two (omega arith) la
    ∙ ap (λ (x : View). v_emptied 8 x a)
    (view_outgoing _ one.frame a empty_lines la ∙ ap (set_lines _ a) no_content ∙ ap (λ (x : View). v_silenced x a) (view_cabinet g w.frame a _ la))

-- a tripped cabinet: in error for its own trip, its image and version gone, its lines emptied both ways before its fault is put
abbrev pub o_blank : Own → Own
o_blank o = record {
  state = o.state;
  version = Lost;
  alarm = o.alarm;
  pieces = o.pieces;
  image = blank_image;
  home = o.home;
  present = o.present;
  lead = o.lead;
  former = o.former;
}

abbrev pub v_blank : View → ℕ → View
v_blank v a = set_cabinet v a (o_blank (v.own a)) (v.side a)

abbrev pub v_tripped : View → ℕ → View
v_tripped v a = v_emptied 8 (v_broadcast (v_silenced (v_alarmed (v_blank v a) a (AtTripped a)) a) a (Fault (AtTripped a))) a

-- its version is lost, so no recover is put
pub sim_tripped : (g : Group) → Fit g → (a : ℕ) → a < 8 → view (trip g a) ≡ v_tripped (view g) a
unfolding trip enter_error
sim_tripped g w a la =
    let one = with_cabinet_lem Shaped Lined Pictured shaped g a (blanked (cabinet g a)) (shaped.blanked (cabinet g a) (w.cabs a)) w in
    let two = ok_raise Shaped Lined Pictured shaped (with_cabinet g a (blanked (cabinet g a))) a (AtTripped a) one in
    ap (λ (c : Cabinet). view (emptied_to 8 (recover_if_known (raise (with_cabinet g a (blanked (cabinet g a))) a (AtTripped a)) a c.phase.version (reason_for c a)) a))
    (cabinet_same g w.frame a (blanked (cabinet g a)) la)
    ∙ sim_emptied 8 _ a two (omega arith) la
    ∙ ap (λ (x : View). v_emptied 8 x a)
    (sim_raise _ one a (AtTripped a) la
    ∙ ap (λ (x : View). v_broadcast (v_silenced (v_alarmed x a (AtTripped a)) a) a (Fault (AtTripped a))) (view_cabinet g w.frame a (blanked (cabinet g a)) la))

-- the cut
abbrev pub v_cut : View → ℕ → View
v_cut v i = set_cabinet v i (o_phase (v.own i) Checkpointing (v.own i).version (v.own i).alarm) (v.side i)

pub sim_cut : (g : Group) → Fit g → (i : ℕ) → i < 8 → view (with_cabinet g i (with_state (cabinet g i) Checkpointing)) ≡ v_cut (view g) i
sim_cut g w i l = view_cabinet g w.frame i _ l

-- ---- the note of a failed cabinet's slot: a version changes, if anything does

abbrev pub o_version : Own → Version → Own
o_version o y = o_phase o o.state y o.alarm

pub record Versions (v u : View) : Type 0 where
  pub own : (c : ℕ) → (y : Version) × (u.own c ≡ o_version (v.own c) y)
  pub sides : (c d : ℕ) → u.side c d ≡ v.side c d
  pub lines : u.lines ≡ v.lines
  pub sound : u.sound ≡ v.sound

same_versions : (v : View) → Versions v v
same_versions v = record { own = λ c. ((v.own c).version, refl); sides = λ c d. refl; lines = refl; sound = refl }

pub no_cabinet : (g : Group) → length g.cabinets ≡ 8 → (x : ℕ) (c : Cabinet) → 8 ≤ x → with_cabinet g x c ≡ g
unfolding with_cabinet
no_cabinet g e x c l = λ t. with_cabinets g (set_out g.cabinets x c (omega arith) t)

pub sim_version : (g : Group) → Fit g → (x : ℕ) (y : Version) → x < 8
    → view (with_cabinet g x (with_version (cabinet g x) y)) ≡ set_cabinet (view g) x (o_version ((view g).own x) y) ((view g).side x)
sim_version g w x y l = view_cabinet g w.frame x (with_version (cabinet g x) y) l

note_at_lem : (p : Place) (g : Group) (y : Version) → Fit g → Versions (view g) (view (note_at p g y))
note_at_lem (AtLink x z) g y w = same_versions (view g)
note_at_lem (AtTripped x) g y w = same_versions (view g)
note_at_lem (AtFailed x) g y w = elim (dec_lt x 8) [
  | no n ↦ subst (λ (u : Group). Versions (view g) (view u)) (sym (no_cabinet g w.frame.cabinets x (with_version (cabinet g x) y) (omega arith))) (same_versions (view g))
  | yes l ↦ subst (Versions (view g)) (sym (sim_version g w x y l)) (record {
    own = λ c. upd_elim (λ (o : Own). (z : Version) × (o ≡ o_version ((view g).own c) z)) (view g).own x (o_version ((view g).own x) y) c
        (λ e. (y, ap (λ (j : ℕ). o_version ((view g).own j) y) (sym e))) (λ n. (((view g).own c).version, refl));
    sides = λ c d. upd_elim (λ (s : ℕ → Side). s d ≡ (view g).side c d) (view g).side x ((view g).side x) c
        (λ e. ap (λ (j : ℕ). (view g).side j d) (sym e)) (λ n. refl);
    lines = refl;
    sound = refl;
  })
]

note_for_lem : (a : Alarm) (g : Group) (y : Version) → Fit g → Versions (view g) (view (note_for a g y))
note_for_lem None g y w = same_versions (view g)
note_for_lem (Some p) g y w = note_at_lem p g y w

pub sim_note : (g : Group) → Fit g → (k : ℕ) → Versions (view g) (view (note_lost g k))
unfolding note_lost
sim_note g w k = note_for_lem (cabinet g k).phase.alarm g (cabinet g k).phase.version w
