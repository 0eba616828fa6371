-- What holds of each cabinet, each line and each saved image by itself, and is kept by each change of one, holds in every run.
-- One walk over all moves and kinds of step serves every such property.
use Rattle.std.specs.Prelude.{None, Some}
use Prim.Native.Nat.{ℕ, zero, suc, ◌+◌, ◌-◌, ◌*◌, ◌<◌}
use mathlib.Core.Path.{◌≡◌, refl, ◌∙◌}
use mathlib.Core.Bool.{Bool, true, false, cond, not, ◌&&◌, ◌||◌}
use mathlib.Core.List.{List, [], ◌∷◌}
use lib.ListN.{length, get_or, set, replicate, length-set}
use lib.Dec.{eqb, ltb, leb}
use borrow.Author.Tests.{ltb-true, leb-true, eqb-true}
use native.Mathlib.Omega.{arith}
use Rattle.marks.specs.Marks.{Marks, marked, covers}
use Rattle.marks.specs.Reach.{struck, connected}
use Rattle.outlet.specs.declared.Outlet.{Outlet}
use Rattle.outlet.specs.Outlet.{ends_of, party_of}
use Rattle.packet.specs.declared.Payload.{Payload}
use Rattle.packet.specs.declared.Check.{Check}
use Rattle.packet.specs.declared.Place.{Place}
use Rattle.packet.specs.declared.Place.TheVariants.{Failed as AtFailed, Tripped as AtTripped, Link as AtLink}
use Rattle.packet.specs.declared.Pattern.{Pattern}
use Rattle.packet.specs.declared.Packet.{Packet}
use Rattle.packet.specs.declared.Packet.TheVariants.{Empty, Normal as NormalPacket, Checkp, Resume, Recover, Fault, Invalid}
use Rattle.line.specs.declared.Cell.{Cell}
use Rattle.line.specs.declared.Line.{Line}
use Rattle.packet.specs.Packet.{is_normal, damaged, link_place, same_check, start_check}
use Rattle.line.specs.Line.{empty_cell, empty_line, put, rest, oldest, normals, packet_at, replaced, without}
use Rattle.state.specs.declared.State.{State}
use Rattle.state.specs.declared.State.TheVariants.{Failed, Normal, CheckpBegin, Checkpointing, Checkpointed, Error, Recovered, Crashed}
use Rattle.state.specs.declared.Version.{Version}
use Rattle.state.specs.declared.Version.TheVariants.{Known, Unknown, Lost}
use Rattle.image.specs.declared.Image.{Image}
use Rattle.cabinet.specs.Alarm.{Alarm}
use Rattle.cabinet.specs.declared.Cabinet.{Cabinet}
use Rattle.cabinet.specs.Alarm.{is_for}
use Rattle.state.specs.State.{is_in, works, in_recovery}
use Rattle.image.specs.Image.{booking, first_note, with_octet, with_piece}
use Rattle.cabinet.specs.Cabinet.{absent, in_use, with_image, with_state, with_version, sending, taking, hurt_from, beginning, comparing, cutting, wrote, owing, owing_also, owing_but, owing_none, saved_for, resuming, alarmed, blanked, hearing, recovering, fetched, restored_for, unsure_for, crashing}
use Rattle.settled.specs.declared.Reason.{Reason}
use Rattle.settled.specs.declared.Reason.TheVariants.{Decided}
use Rattle.settled.specs.Settled.{Settled}
use Rattle.outgoing.specs.declared.Outgoing.{Outgoing}
use Rattle.store.specs.declared.Store.{Store}
use Rattle.store.specs.Store.{is_last, is_away, leaves, comes_back}
use Rattle.store.specs.Served.{Served}
use Rattle.store.proofs.Laws.{Held, piece_kept, piece_held, leave_kept, leave_held, back_kept, back_held}
use Rattle.group.specs.declared.Group.{Group}
use Rattle.group.specs.declared.Outcome.{Outcome}
use Rattle.outgoing.specs.Lines.{empty_lines, line_to, with_line_to, put_if, put_row_to, put_all, checkps, put_checkps}
use Rattle.group.specs.Group.{cabinet, with_cabinet, state_of, outgoing, with_outgoing, line, with_line, with_store, home, rows_of, with_sound, working, some, recovering_ones, trips_of, with_trips_of, forget_trips, with_settled, settle, settle_over, taken, crash_all, crashed}
use Rattle.protocol.specs.declared.Step.{Step}
use Rattle.protocol.specs.declared.Step.TheVariants.{Send, Note, Begin, Deliver, Write, Saved, Fetch, Restored, Fail, Damage, Lose, Trip, Unsure}
use Rattle.protocol.specs.declared.Decoded.{Decoded}
use Rattle.protocol.specs.declared.Decoded.TheVariants.{Malformed, Unused, Taken}
use Rattle.protocol.specs.Moves.{broadcast, join, cut_if_all, take_checkp, resume_with, commit, adopt, recover_with, recover_if_known, raise, enter_error, hear, find_link_fault, emptied_to, pass_reports, leave, drop_reports, come_back, mark_failed, trip, neighbours, enter_error_if, alarm_to, end_recovery, note_at, note_for, note_lost}
use Rattle.protocol.specs.Receive.{serving, takes, receive_normal, join_if, receive_checkp, resumes_from, receive_resume, receive_recover, receive_fault, receive_invalid, receive}
use Rattle.protocol.specs.Kinds.{need, or_refuse, send_refusal, carried, sent, send_step, note_refusal, note_step, begin_step, begin_refusal, deliver_refusal, delivered, deliver_step, write_refusal, piece_saved, write_piece, owe_if, write_step, saved_refusal, report_saved, commit_if_all, saved_step, fetch_refusal, fetch_piece, fetch_step, restored_refusal, report_restored, come_back_if_away, end_if_all, restored_step, fail_crashes, fail_step, hurt_if, hurt, damage_refusal, damage_step, lose_refusal, lost, lose_step, trip_crashes, trip_once, trip_step, unsure_refusal, report_unsure, decide_if_all, unsure_step}
use Rattle.protocol.specs.Entry.{step, step_decoded, perform, entry_refusal, decode, fields_of, alone_of, is_kind}
use Rattle.claims.proofs.State.Fun.{never, cond_elim, and_true, or-false}

-- ---- lists: what holds of the element stored and of the old ones holds of each one after the store

module _ {A : Type 0} (P : A → Type 0) where
  pub get_d_set : (l : List A) (i j : ℕ) (v d : A) → P v → P (get_or l j d) → P (get_or (set l i v) j d)
  get_d_set [] i j v d new old = old
  get_d_set (x ∷ xs) zero zero v d new old = new
  get_d_set (x ∷ xs) zero (suc j) v d new old = old
  get_d_set (x ∷ xs) (suc i) zero v d new old = old
  get_d_set (x ∷ xs) (suc i) (suc j) v d new old = get_d_set xs i j v d new old

  abbrev pub each : List A → Type 0
  each [] = Unit {0}
  each (x ∷ xs) = P x × each xs

  pub get_d_each : (l : List A) (j : ℕ) (d : A) → each l → P d → P (get_or l j d)
  get_d_each [] j d all past = past
  get_d_each (x ∷ xs) zero d all past = all.0
  get_d_each (x ∷ xs) (suc j) d all past = get_d_each xs j d all.1 past

  pub get_d_repeated : (n j : ℕ) (x d : A) → P x → P d → P (get_or (replicate n x) j d)
  get_d_repeated zero j x d new past = past
  get_d_repeated (suc n) zero x d new past = new
  get_d_repeated (suc n) (suc j) x d new past = get_d_repeated n j x d new past

-- ---- a chain of refusals that ends in 0 passed each of its checks

pub passed : (t : Bool) (k next : ℕ) → need t (suc k) next ≡ 0 → (t ≡ true) × (next ≡ 0)
passed true k next e = (refl, e)
passed false k next e = absurd (omega arith)

right : (t u : Bool) → (t && u) ≡ true → u ≡ true
right t u e = (and_true {s = t} {t = u} e).1

-- the last check of note, and of send
pub second : (t u : Bool) → need t 14 (need u 15 0) ≡ 0 → u ≡ true
second t u e = (passed u 14 0 (passed t 13 (need u 15 0) e).1).0

fifth : (t u v w x : Bool) → need t 13 (need u 14 (need v 15 (need w 16 (need x 17 0)))) ≡ 0 → x ≡ true
fifth t u v w x e =
    let e1 = (passed t 12 (need u 14 (need v 15 (need w 16 (need x 17 0)))) e).1 in
    let e2 = (passed u 13 (need v 15 (need w 16 (need x 17 0))) e1).1 in
    let e3 = (passed v 14 (need w 16 (need x 17 0)) e2).1 in
    (passed x 16 0 (passed w 15 (need x 17 0) e3).1).0

-- ---- which steps are reports

abbrev pub asks_unsure : Step → Bool
asks_unsure (Send a b p q) = false
asks_unsure (Note a p q) = false
asks_unsure (Begin a) = false
asks_unsure (Deliver a b) = false
asks_unsure (Write a) = false
asks_unsure (Saved a) = false
asks_unsure (Fetch a) = false
asks_unsure (Restored a) = false
asks_unsure (Fail a) = false
asks_unsure (Damage a b p w) = false
asks_unsure (Lose a b p) = false
asks_unsure (Trip a) = false
asks_unsure (Unsure a) = true

abbrev pub asks_in : Decoded → Bool
asks_in Malformed = false
asks_in Unused = false
asks_in (Taken s) = asks_unsure s

-- ---- what a record of octets decodes to: the amount of a send and the pattern of damage have two octets

abbrev pub Fits : Step → Type 0
Fits (Send a b p q) = q < 65536
Fits (Note a p q) = Unit {0}
Fits (Begin a) = Unit {0}
Fits (Deliver a b) = Unit {0}
Fits (Write a) = Unit {0}
Fits (Saved a) = Unit {0}
Fits (Fetch a) = Unit {0}
Fits (Restored a) = Unit {0}
Fits (Fail a) = Unit {0}
Fits (Damage a b p w) = w.mask < 65536
Fits (Lose a b p) = Unit {0}
Fits (Trip a) = Unit {0}
Fits (Unsure a) = Unit {0}

abbrev pub FitsIn : Decoded → Type 0
FitsIn Malformed = Unit {0}
FitsIn Unused = Unit {0}
FitsIn (Taken s) = Fits s

-- .. and a record of another kind than 14 is no report
abbrev Reads : ℕ → Decoded → Type 0
Reads kind d = FitsIn d × (eqb kind 14 ≡ false → asks_in d ≡ false)

alone_reads : (kind a : ℕ) → Reads kind (alone_of kind a)
alone_reads kind a =
    cond_elim (Reads kind) (eqb kind 3) (λ _. (tt, λ _. refl))
    (λ _. cond_elim (Reads kind) (eqb kind 5) (λ _. (tt, λ _. refl))
    (λ _. cond_elim (Reads kind) (eqb kind 6) (λ _. (tt, λ _. refl))
    (λ _. cond_elim (Reads kind) (eqb kind 7) (λ _. (tt, λ _. refl))
    (λ _. cond_elim (Reads kind) (eqb kind 8) (λ _. (tt, λ _. refl))
    (λ _. cond_elim (Reads kind) (eqb kind 10) (λ _. (tt, λ _. refl))
    (λ _. cond_elim (Reads kind) (eqb kind 13) (λ _. (tt, λ _. refl))
    (λ _. cond_elim (Reads kind) (eqb kind 14) (λ e. (tt, λ f. absurd (never e f))) (λ _. (tt, λ _. refl)))))))))

fields_read : (kind a b p q : ℕ) → q < 65536 → Reads kind (fields_of kind a b p q)
fields_read kind a b p q l =
    let plain : (t : Bool) (s : Step) → Fits s → asks_unsure s ≡ false → Reads kind (cond t (Taken s) Unused) = λ t s f e.
    cond_elim (Reads kind) t (λ _. (f, λ _. e)) (λ _. (tt, λ _. refl)) in
    cond_elim (Reads kind) (eqb kind 1) (λ _. (l, λ _. refl))
    (λ _. cond_elim (Reads kind) (eqb kind 2) (λ _. plain (eqb b 0) (Note a p q) tt refl)
    (λ _. cond_elim (Reads kind) (eqb kind 4) (λ _. plain (eqb (p + q) 0) (Deliver a b) tt refl)
    (λ _. cond_elim (Reads kind) (eqb kind 11) (λ _. (l, λ _. refl))
    (λ _. cond_elim (Reads kind) (eqb kind 12) (λ _. plain (eqb q 0) (Lose a b p) tt refl)
    (λ _. cond_elim (Reads kind) (is_kind kind)
    (λ _. cond_elim (Reads kind) (eqb (b + p + q) 0) (λ _. alone_reads kind a) (λ _. (tt, λ _. refl))) (λ _. (tt, λ _. refl)))))))

decode_reads : (r : List ℕ) → ((i : ℕ) → get_or r i 0 < 256) → Reads (get_or r 0 0) (decode r)
decode_reads r o =
    cond_elim (Reads (get_or r 0 0)) (eqb (length r) 6)
    (λ _. fields_read (get_or r 0 0) (get_or r 1 0) (get_or r 2 0) (get_or r 3 0) (get_or r 4 0 * 256 + get_or r 5 0) (omega (arith, o 4, o 5))) (λ _. (tt, λ _. refl))

pub decode_fits : (r : List ℕ) → ((i : ℕ) → get_or r i 0 < 256) → FitsIn (decode r)
decode_fits r o = (decode_reads r o).0

pub decode_asks : (r : List ℕ) → ((i : ℕ) → get_or r i 0 < 256) → eqb (get_or r 0 0) 14 ≡ false → asks_in (decode r) ≡ false
decode_asks r o = (decode_reads r o).1

-- ---- the properties and what has to be shown of them

pub record Closed (C : Cabinet → Type 0) (L : Line → Type 0) (I : Image → Type 0) : Type 0 where
  pub gone : C absent
  pub sending : (c : Cabinet) (j : ℕ) (o : Outlet) (p : Payload) → p.amount < 65536 → C c → C (sending c j o p)
  pub noting : (c : Cabinet) (k q : ℕ) → q < 256 → C c → C (with_image c (with_octet c.image k q))
  pub taking : (c : Cabinet) (j : ℕ) (p : Payload) → C c → C (taking c j p)
  pub hurt_from : (c : Cabinet) (j : ℕ) → C c → C (hurt_from c j)
  pub beginning : (c : Cabinet) → C c → C (beginning c)
  pub comparing : (c : Cabinet) (j : ℕ) → C c → C (comparing c j)
  pub stated : (c : Cabinet) (s : State) → C c → C (with_state c s)
  pub versioned : (c : Cabinet) (v : Version) → C c → C (with_version c v)
  pub wrote : (c : Cabinet) (i : ℕ) → C c → C (wrote c i)
  pub owing : (c : Cabinet) (j : ℕ) (o : Bool) → C c → C (owing c j o)
  pub owing_also : (c : Cabinet) (m : Marks) → C c → C (owing_also c m)
  pub owing_but : (c : Cabinet) (m : Marks) → C c → C (owing_but c m)
  pub owing_none : (c : Cabinet) → C c → C (owing_none c)
  pub saved_for : (c : Cabinet) (j : ℕ) → C c → C (saved_for c j)
  pub resuming : (c : Cabinet) (v : Version) → C c → C (resuming c v)
  pub alarmed : (c : Cabinet) (i : ℕ) (p : Place) → C c → C (alarmed c i p)
  pub blanked : (c : Cabinet) → C c → C (blanked c)
  pub hearing : (c : Cabinet) (j : ℕ) → C c → C (hearing c j)
  pub recovering : (c : Cabinet) (v : Bool) → C c → C (recovering c v)
  pub fetched : (c : Cabinet) (m : Image) → I m → C c → C (fetched c m)
  pub restored_for : (c : Cabinet) (j : ℕ) → C c → C (restored_for c j)
  pub unsure_for : (c : Cabinet) (j : ℕ) → C c → C (unsure_for c j)
  pub imaged : (c : Cabinet) → C c → I c.image
  pub pieced : (k : ℕ) (from to : Image) → I from → I to → I (with_piece k from to)
  pub no_packets : L empty_line
  pub less : (l : Line) → L l → L (rest l)
  pub more : (l : Line) (p : Packet) → is_normal p ≡ false → L l → L (put l p)
  pub sends : (l : Line) (p : Payload) → p.amount < 65536 → normals (party_of p.outlet) l < 4 → L l → L (put l (NormalPacket p))
  pub damages : (l : Line) (k : ℕ) (w : Pattern) → w.mask < 65536 → L l → L (replaced l k (damaged (packet_at l k) w))
  pub loses : (l : Line) (k : ℕ) → L l → L (without l k)

-- the arrays of a group have eight elements each, and its store serves every cabinet
pub record Framed (g : Group) : Type 0 where
  pub cabinets : length g.cabinets ≡ 8
  pub outs : length g.outgoing ≡ 8
  pub lines : (i : ℕ) → length (outgoing g i).lines ≡ 8
  pub store : Served g.store

pub record All (C : Cabinet → Type 0) (L : Line → Type 0) (I : Image → Type 0) (g : Group) : Type 0 where
  pub frame : Framed g
  pub cabs : (i : ℕ) → C (cabinet g i)
  pub lines : (a b : ℕ) → L (line g a b)
  pub slots : Held I g.store

module _ (C : Cabinet → Type 0) (L : Line → Type 0) (I : Image → Type 0) (k : Closed C L I) where
  abbrev pub Ok : Group → Type 0
  Ok g = All C L I g

  -- ---- the stores

  pub with_cabinet_lem : (g : Group) (i : ℕ) (c : Cabinet) → C c → Ok g → Ok (with_cabinet g i c)
  unfolding cabinet with_cabinet outgoing line
  with_cabinet_lem g i c hc h = record {
    frame = record { cabinets = length-set g.cabinets i c ∙ h.frame.cabinets; outs = h.frame.outs; lines = h.frame.lines; store = h.frame.store };
    cabs = λ j. get_d_set C g.cabinets i j c absent hc (h.cabs j);
    lines = h.lines;
    slots = h.slots;
  }

  pub record Out (o : Outgoing) : Type 0 where
    pub eight : length o.lines ≡ 8
    pub each_line : (b : ℕ) → L (line_to o b)

  pub out_of : (g : Group) (i : ℕ) → Ok g → Out (outgoing g i)
  unfolding line
  out_of g i h = record { eight = h.frame.lines i; each_line = λ b. h.lines i b }

  pub with_outgoing_lem : (g : Group) (i : ℕ) (o : Outgoing) → Out o → Ok g → Ok (with_outgoing g i o)
  unfolding cabinet outgoing with_outgoing line
  with_outgoing_lem g i o ho h = record {
    frame = record {
      cabinets = h.frame.cabinets;
      outs = length-set g.outgoing i o ∙ h.frame.outs;
      lines = λ a. get_d_set (λ x. length x.lines ≡ 8) g.outgoing i a o empty_lines ho.eight (h.frame.lines a);
      store = h.frame.store;
    };
    cabs = h.cabs;
    lines = λ a b. get_d_set (λ x. L (line_to x b)) g.outgoing i a o empty_lines (ho.each_line b) (h.lines a b);
    slots = h.slots;
  }

  pub with_line_lem : (g : Group) (a b : ℕ) (l : Line) → L l → Ok g → Ok (with_line g a b l)
  unfolding outgoing line with_line line_to with_line_to
  with_line_lem g a b l hl h =
      with_outgoing_lem g a _
      (record {
        eight = length-set (outgoing g a).lines b l ∙ h.frame.lines a;
        each_line = λ j. get_d_set L (outgoing g a).lines b j l empty_line hl (h.lines a j);
      })
      h

  pub with_store_lem : (g : Group) (s : Store) → Served s → Held I s → Ok g → Ok (with_store g s)
  unfolding cabinet outgoing line
  with_store_lem g s served held h = record {
    frame = record { cabinets = h.frame.cabinets; outs = h.frame.outs; lines = h.frame.lines; store = served };
    cabs = h.cabs;
    lines = h.lines;
    slots = held;
  }

  -- what is counted of trips is no part of a cabinet, a line or an image
  pub with_trips : (g : Group) (a n : ℕ) → Ok g → Ok (with_trips_of g a n)
  unfolding cabinet outgoing line with_trips_of
  with_trips g a n h = record {
    frame = record { cabinets = h.frame.cabinets; outs = h.frame.outs; lines = h.frame.lines; store = h.frame.store };
    cabs = h.cabs;
    lines = h.lines;
    slots = h.slots;
  }

  no_trips : (g : Group) → Ok g → Ok (forget_trips g)
  unfolding cabinet outgoing line forget_trips
  no_trips g h = record {
    frame = record { cabinets = h.frame.cabinets; outs = h.frame.outs; lines = h.frame.lines; store = h.frame.store };
    cabs = h.cabs;
    lines = h.lines;
    slots = h.slots;
  }

  -- ---- packets on several lines

  put_if_lem : (t : Bool) (o : Outgoing) (j : ℕ) (p : Packet) → is_normal p ≡ false → Out o → Out (put_if t o j p)
  unfolding line_to with_line_to
  put_if_lem true o j p s h = record {
    eight = length-set o.lines j _ ∙ h.eight;
    each_line = λ b. get_d_set L o.lines j b _ empty_line (k.more (line_to o j) p s (h.each_line j)) (h.each_line b);
  }
  put_if_lem false o j p s h = h

  abbrev Safe : Cell → Type 0
  Safe c = is_normal c.packet ≡ false

  put_row : (n : ℕ) (m : Marks) (ps : List Cell) (o : Outgoing) → ((j : ℕ) → Safe (get_or ps j empty_cell)) → Out o → Out (put_row_to n m ps o)
  put_row zero m ps o s h = h
  put_row (suc n) m ps o s h = put_if_lem (marked m n) _ n _ (s n) (put_row n m ps o s h)

  pub put_all_lem : (m : Marks) (p : Packet) (o : Outgoing) → is_normal p ≡ false → Out o → Out (put_all m p o)
  unfolding put_all
  put_all_lem m p o s h =
      put_row 8 m (replicate 8 (record { packet = p })) o (λ j. get_d_repeated Safe 8 j (record { packet = p }) empty_cell s refl) h

  pub put_checkps_lem : (m : Marks) (rs : List Check) (o : Outgoing) → Out o → Out (put_checkps m rs o)
  unfolding put_checkps
  put_checkps_lem m rs o h =
      put_row 8 m (checkps rs) o
      (λ j. get_d_each Safe (checkps rs) j empty_cell (refl, (refl, (refl, (refl, (refl, (refl, (refl, (refl, tt)))))))) refl) h

  -- ---- the moves

  pub ok_broadcast : (g : Group) (i : ℕ) (p : Packet) → is_normal p ≡ false → Ok g → Ok (broadcast g i p)
  unfolding broadcast
  ok_broadcast g i p s h = with_outgoing_lem g i _ (put_all_lem (in_use (cabinet g i)) p (outgoing g i) s (out_of g i h)) h

  pub ok_join : (g : Group) (i : ℕ) → Ok g → Ok (join g i)
  unfolding join
  ok_join g i h =
      with_cabinet_lem _ i _ (k.beginning _ (h.cabs i))
      (with_outgoing_lem g i _ (put_checkps_lem (in_use (cabinet g i)) (cabinet g i).registers.sent (outgoing g i) (out_of g i h)) h)

  cut_one : (c : Cabinet) → C c → C (cutting c)
  cut_one c hc = cond_elim C (covers c.noted.come (in_use c)) (λ _. k.stated c Checkpointing hc) (λ _. hc)

  pub ok_cut : (g : Group) (i : ℕ) → Ok g → Ok (cut_if_all g i)
  unfolding cut_if_all
  ok_cut g i h = with_cabinet_lem g i _ (cut_one _ (h.cabs i)) h

  pub ok_take_checkp : (g : Group) (a b : ℕ) → Ok g → Ok (take_checkp g a b)
  unfolding take_checkp
  ok_take_checkp g a b h = ok_cut _ b (with_cabinet_lem g b _ (k.comparing _ a (h.cabs b)) h)

  pub ok_resume_with : (g : Group) (i : ℕ) (v : Version) → Ok g → Ok (resume_with g i v)
  unfolding resume_with
  ok_resume_with g i v h = ok_broadcast _ i Resume refl (with_cabinet_lem g i _ (k.resuming _ v (h.cabs i)) h)

  pub ok_commit : (g : Group) (i : ℕ) → Ok g → Ok (commit g i)
  unfolding commit
  ok_commit g i h = no_trips _ (ok_resume_with g i _ h)

  pub ok_adopt : (g : Group) (a b : ℕ) → Ok g → Ok (adopt g a b)
  unfolding adopt
  ok_adopt g a b h =
      with_outgoing_lem _ b _ (put_all_lem (set (in_use (cabinet g b)) a false) Resume (outgoing g b) refl (out_of g b h))
      (with_cabinet_lem g b _ (k.resuming _ _ (h.cabs b)) h)

  pub ok_recover_with : (g : Group) (i : ℕ) (v : Bool) → Ok g → Ok (recover_with g i v)
  unfolding recover_with
  ok_recover_with g i v h = ok_broadcast _ i (Recover v) refl (with_cabinet_lem g i _ (k.recovering _ v (h.cabs i)) h)

  -- who settled the recovery is told of no cabinet, line or slot
  pub with_settled_lem : (g : Group) (s : Settled) → Ok g → Ok (with_settled g s)
  unfolding cabinet outgoing line
  with_settled_lem g s h = record {
    frame = record { cabinets = h.frame.cabinets; outs = h.frame.outs; lines = h.frame.lines; store = h.frame.store };
    cabs = h.cabs;
    lines = h.lines;
    slots = h.slots;
  }

  pub ok_settle : (g : Group) (i : ℕ) (r : Reason) → Ok g → Ok (settle g i r)
  unfolding settle
  ok_settle g i r h = with_settled_lem g _ h

  pub ok_settle_over : (g : Group) → Ok g → Ok (settle_over g)
  unfolding settle_over
  ok_settle_over g h = with_settled_lem g _ h

  pub ok_recover_if_known : (g : Group) (i : ℕ) (v : Version) (r : Reason) → Ok g → Ok (recover_if_known g i v r)
  ok_recover_if_known g i (Known v) r h = ok_settle _ i r (ok_recover_with g i v h)
  ok_recover_if_known g i (Unknown v) r h = h
  ok_recover_if_known g i Lost r h = h

  pub no_packets_lem : Out empty_lines
  unfolding empty_lines line_to
  no_packets_lem = record { eight = refl; each_line = λ b. get_d_repeated L 8 b empty_line empty_line k.no_packets k.no_packets }

  pub ok_raise : (g : Group) (i : ℕ) (p : Place) → Ok g → Ok (raise g i p)
  unfolding raise
  ok_raise g i p h = ok_broadcast _ i (Fault p) refl (with_outgoing_lem _ i _ no_packets_lem (with_cabinet_lem g i _ (k.alarmed _ i p (h.cabs i)) h))

  pub ok_enter_error : (g : Group) (i : ℕ) (p : Place) → Ok g → Ok (enter_error g i p)
  unfolding enter_error
  ok_enter_error g i p h = ok_recover_if_known _ i (cabinet g i).phase.version _ (ok_raise g i p h)

  pub ok_hear : (g : Group) (a b : ℕ) → Ok g → Ok (hear g a b)
  unfolding hear
  ok_hear g a b h = with_cabinet_lem g b _ (k.hearing _ a (h.cabs b)) h

  pub ok_end_recovery : (g : Group) (i : ℕ) → Ok g → Ok (end_recovery g i)
  unfolding end_recovery
  ok_end_recovery g i h = ok_resume_with g i _ h

  pub ok_emptied : (n : ℕ) (g : Group) (a : ℕ) → Ok g → Ok (emptied_to n g a)
  ok_emptied zero g a h = h
  ok_emptied (suc n) g a h = with_line_lem _ n a empty_line k.no_packets (ok_emptied n g a h)

  pub ok_mark_failed : (g : Group) (a : ℕ) → Ok g → Ok (mark_failed g a)
  unfolding mark_failed
  ok_mark_failed g a h = ok_emptied 8 _ a (with_outgoing_lem _ a _ no_packets_lem (with_cabinet_lem g a _ (k.stated _ Failed (h.cabs a)) h))

  -- a store leaves, and comes back
  pub ok_leave : (g : Group) (a : ℕ) → is_last g.store a ≡ false → Ok g → Ok (leave g a)
  unfolding leave pass_reports cabinet
  ok_leave g a stays h =
      let left : Ok (with_store g (leaves g.store a)) = with_store_lem g _ (leave_kept g.store h.frame.store a stays) (leave_held I g.store h.slots a) h in
      with_cabinet_lem _ a _ (k.owing_none _ (left.cabs a)) (with_cabinet_lem _ _ _ (k.owing_also _ _ (left.cabs _)) left)

  pub ok_come_back : (g : Group) (a : ℕ) → is_away g.store a ≡ true → Ok g → Ok (come_back g a)
  unfolding come_back drop_reports
  ok_come_back g a away h =
      let back : Ok (with_store g (comes_back g.store a)) = with_store_lem g _ (back_kept g.store h.frame.store a away) (back_held I g.store h.slots (k.imaged _ k.gone) a) h in
      with_cabinet_lem _ _ _ (k.owing_but _ _ (back.cabs _)) back

  pub ok_come_back_if_away : (g : Group) (a : ℕ) → Ok g → Ok (come_back_if_away g a)
  unfolding come_back_if_away
  ok_come_back_if_away g a h = cond_elim Ok (is_away g.store a) (λ e. ok_come_back g a e h) (λ _. h)

  pub ok_trip : (g : Group) (a : ℕ) → Ok g → Ok (trip g a)
  unfolding trip
  ok_trip g a h = ok_emptied 8 _ a (ok_enter_error _ a (AtTripped a) (with_cabinet_lem g a _ (k.blanked _ (h.cabs a)) h))

  pub ok_enter_error_if : (t : Bool) (g : Group) (i : ℕ) (p : Place) → Ok g → Ok (enter_error_if t g i p)
  ok_enter_error_if true g i p h = ok_enter_error g i p h
  ok_enter_error_if false g i p h = h

  pub ok_alarm : (n : ℕ) (g : Group) (a : ℕ) (p : Place) → Ok g → Ok (alarm_to n g a p)
  unfolding alarm_to
  ok_alarm zero g a p h = h
  ok_alarm (suc n) g a p h = ok_enter_error_if (neighbours g n a) _ n p (ok_alarm n g a p h)

  crash_one : (c : Cabinet) → C c → C (crashing c)
  crash_one c hc = cond_elim C (works c.phase.state) (λ _. k.stated c Crashed hc) (λ _. hc)

  pub ok_crashed : (g : Group) → Ok g → Ok (crashed g).group
  unfolding cabinet outgoing line crash_all
  ok_crashed g h = record {
    frame = record { cabinets = refl; outs = h.frame.outs; lines = h.frame.lines; store = h.frame.store };
    cabs = λ i.
        get_d_each C (crashed g).group.cabinets i absent (
          crash_one _ (h.cabs 0),
          (
            crash_one _ (h.cabs 1),
            (
              crash_one _ (h.cabs 2),
              (
                crash_one _ (h.cabs 3),
                (
                  crash_one _ (h.cabs 4),
                  (crash_one _ (h.cabs 5), (crash_one _ (h.cabs 6), (crash_one _ (h.cabs 7), tt))),
                ),
              ),
            ),
          ),
        )
        k.gone;
    lines = h.lines;
    slots = h.slots;
  }

  -- ---- a packet received

  abbrev pub OkOf : Outcome → Type 0
  OkOf o = Ok o.group

  pub ok_link_fault : (before g : Group) (a b : ℕ) → Ok before → Ok g → OkOf (find_link_fault before g a b)
  unfolding find_link_fault cabinet outgoing line with_sound
  ok_link_fault before g a b hb h =
      cond_elim OkOf (connected (struck (rows_of g.sound) a b) (working g))
      (λ _. ok_enter_error (with_sound g (struck (rows_of g.sound) a b)) b (link_place a b) (record {
        frame = record { cabinets = h.frame.cabinets; outs = h.frame.outs; lines = h.frame.lines; store = h.frame.store };
        cabs = h.cabs;
        lines = h.lines;
        slots = h.slots;
      }))
      (λ _. ok_crashed before hb)

  pub ok_join_if : (t : Bool) (g : Group) (b : ℕ) → Ok g → Ok (join_if t g b)
  ok_join_if true g b h = ok_join g b h
  ok_join_if false g b h = h

  module _ (before g : Group) (a b : ℕ) (hb : Ok before) (h : Ok g) where
    pub ok_normal : (p : Payload) → OkOf (receive_normal before g a b p)
    unfolding receive_normal
    ok_normal p =
        cond_elim OkOf (takes (cabinet g b) a p) (λ _. with_cabinet_lem g b _ (k.taking _ a p (h.cabs b)) h)
        (λ _. cond_elim OkOf (serving (state_of g b)) (λ _. ok_link_fault before g a b hb h) (λ _. h))

    pub ok_checkp : (v : Check) → OkOf (receive_checkp before g a b v)
    unfolding receive_checkp
    ok_checkp v =
        cond_elim OkOf (is_in (state_of g b) Normal || is_in (state_of g b) CheckpBegin)
        (λ _. cond_elim OkOf (same_check v (get_or (cabinet g b).registers.taken a start_check))
        (λ _. ok_take_checkp _ a b (ok_join_if (is_in (state_of g b) Normal) g b h)) (λ _. ok_link_fault before g a b hb h)) (λ _. h)

    pub ok_resume : OkOf (receive_resume g a b)
    unfolding receive_resume
    ok_resume =
        cond_elim OkOf (is_in (state_of g b) Checkpointed) (λ _. ok_adopt g a b h)
        (λ _. cond_elim OkOf (resumes_from (cabinet g b) a b) (λ _. ok_end_recovery g b h) (λ _. h))

    pub ok_recover : (v : Bool) → OkOf (receive_recover g a b v)
    unfolding receive_recover
    ok_recover v =
        cond_elim OkOf (is_in (state_of g b) Error && marked (cabinet g b).noted.heard a) {x = taken (recover_with g b v)} {y = taken g}
        (λ _. ok_recover_with g b v h) (λ _. h)

    pub ok_fault : (p : Place) → OkOf (receive_fault before g a b p)
    unfolding receive_fault
    ok_fault p =
        cond_elim OkOf (serving (state_of g b)) (λ _. ok_hear _ a b (ok_enter_error g b p h))
        (λ _. cond_elim OkOf (in_recovery (state_of g b))
        (λ _. cond_elim OkOf (is_for (cabinet g b).phase.alarm p) (λ _. ok_hear g a b h) (λ _. ok_crashed before hb)) (λ _. h))

    pub ok_invalid : OkOf (receive_invalid before g a b)
    unfolding receive_invalid
    ok_invalid = cond_elim OkOf (serving (state_of g b)) (λ _. ok_link_fault before g a b hb h) (λ _. h)

    pub ok_receive : (p : Packet) → OkOf (receive before g a b p)
    ok_receive Empty = h
    ok_receive (NormalPacket p) = ok_normal p
    ok_receive (Checkp v) = ok_checkp v
    ok_receive Resume = ok_resume
    ok_receive (Recover v) = ok_recover v
    ok_receive (Fault p) = ok_fault p
    ok_receive Invalid = ok_invalid

  -- ---- the kinds of step

  -- a step is its effect where no check refuses it
  or_refuse_lem : (n : ℕ) (g : Group) (o : Outcome) → (n ≡ 0 → OkOf o) → Ok g → OkOf (or_refuse n g o)
  or_refuse_lem n g o y h = cond_elim OkOf (eqb n 0) (λ e. y (eqb-true n 0 e)) (λ _. h)

  module _ (g : Group) (h : Ok g) where
    pub ok_send : (a b p q : ℕ) → q < 65536 → OkOf (send_step g a b p q)
    unfolding send_step sent
    ok_send a b p q l =
        or_refuse_lem (send_refusal g a b p q) g (taken (sent g a b p q))
        (λ e.
        let room = ltb-true (normals (party_of (ends_of p).to) (line g a b)) 4 (fifth (marked (in_use (cabinet g a)) b) (is_in (state_of g a) Normal) (ltb 0 q && leb p 4) (leb q (booking (ends_of p).from (cabinet g a).image)) (ltb (normals (party_of (ends_of p).to) (line g a b)) 4) e) in
        with_line_lem (with_cabinet g a (sending (cabinet g a) b (ends_of p).from (carried g p q))) a b
        (put (line g a b) (NormalPacket (carried g p q)))
        (k.sends (line g a b) (carried g p q) l room (h.lines a b))
        (with_cabinet_lem g a _ (k.sending _ b (ends_of p).from (carried g p q) l (h.cabs a)) h))
        h

    pub ok_note : (a p q : ℕ) → OkOf (note_step g a p q)
    unfolding note_step
    ok_note a p q =
        or_refuse_lem (note_refusal g a p q) g _
        (λ e.
        let fits = right (leb p 31) (leb q 255) (right (leb first_note p) (leb p 31 && leb q 255) (second (is_in (state_of g a) Normal) (leb first_note p && (leb p 31 && leb q 255)) e)) in
        with_cabinet_lem g a _ (k.noting (cabinet g a) p q (omega (arith, leb-true q 255 fits)) (h.cabs a)) h)
        h

    pub ok_begin : (a : ℕ) → OkOf (begin_step g a)
    unfolding begin_step
    ok_begin a = or_refuse_lem (begin_refusal g a) g _ (λ _. ok_cut _ a (ok_join g a h)) h

    pub ok_deliver : (a b : ℕ) → OkOf (deliver_step g a b)
    unfolding deliver_step delivered
    ok_deliver a b =
        let off : Ok (with_line g a b (rest (line g a b))) = with_line_lem g a b _ (k.less _ (h.lines a b)) h in
        or_refuse_lem (deliver_refusal g a b) g (delivered g a b)
        (λ _. cond_elim OkOf (marked (in_use (cabinet g b)) a) (λ _. ok_receive g _ a b h off (oldest (line g a b))) (λ _. off)) h

    pub ok_piece : (a : ℕ) → Ok (with_store g (piece_saved g a))
    ok_piece a =
        with_store_lem g _ (piece_kept g.store h.frame.store a _ _ _)
        (piece_held I g.store h.slots a _ _ _ (λ x i. k.pieced _ _ _ (k.imaged _ (h.cabs a)) i)) h

    pub ok_write_piece : (a : ℕ) → Ok (write_piece g a)
    unfolding write_piece cabinet
    ok_write_piece a = with_cabinet_lem _ a _ (k.wrote _ a (h.cabs a)) (ok_piece a)

  pub ok_owe_if : (t : Bool) (g : Group) (home a : ℕ) → Ok g → Ok (owe_if t g home a)
  ok_owe_if true g home a h = with_cabinet_lem g home _ (k.owing _ a true (h.cabs home)) h
  ok_owe_if false g home a h = h

  pub ok_report_saved : (g : Group) (a home i : ℕ) → Ok g → Ok (report_saved g a home i)
  unfolding report_saved
  ok_report_saved g a home i h =
      let made : Ok (with_cabinet g home (owing (cabinet g home) a false)) = with_cabinet_lem g home _ (k.owing _ a false (h.cabs home)) h in
      with_cabinet_lem _ i _ (k.saved_for _ a (made.cabs i)) made

  pub ok_commit_if_all : (g : Group) (i : ℕ) → Ok g → Ok (commit_if_all g i)
  unfolding commit_if_all
  ok_commit_if_all g i h =
      cond_elim Ok (covers (cabinet g i).noted.saved (cabinet g i).table.cabinets) (λ _. ok_commit g i h) (λ _. h)

  pub ok_fetch_piece : (g : Group) (a : ℕ) → Ok g → Ok (fetch_piece g a)
  unfolding fetch_piece
  ok_fetch_piece g a h =
      with_cabinet_lem g a _ (k.fetched _ _ (k.pieced _ _ _ (h.slots _ a _) (k.imaged _ (h.cabs a)))
      (h.cabs a))
      h

  ok_note_at : (p : Place) (g : Group) (v : Version) → Ok g → Ok (note_at p g v)
  ok_note_at (AtFailed x) g v h = with_cabinet_lem g x _ (k.versioned _ v (h.cabs x)) h
  ok_note_at (AtTripped x) g v h = h
  ok_note_at (AtLink x y) g v h = h

  ok_note_for : (a : Alarm) (g : Group) (v : Version) → Ok g → Ok (note_for a g v)
  ok_note_for None g v h = h
  ok_note_for (Some p) g v h = ok_note_at p g v h

  pub ok_note_lost : (g : Group) (i : ℕ) → Ok g → Ok (note_lost g i)
  unfolding note_lost
  ok_note_lost g i h = ok_note_for (cabinet g i).phase.alarm g (cabinet g i).phase.version h

  pub ok_end_if_all : (g : Group) (i : ℕ) → Ok g → Ok (end_if_all g i)
  unfolding end_if_all
  ok_end_if_all g i h =
      cond_elim Ok (is_in (state_of g i) Recovered && covers (cabinet g i).noted.restored (cabinet g i).table.cabinets)
      (λ _. ok_settle_over _ (ok_end_recovery (note_lost g i) i (ok_note_lost g i h))) (λ _. h)

  pub ok_decide_if_all : (g : Group) (i : ℕ) → Ok g → Ok (decide_if_all g i)
  unfolding decide_if_all
  ok_decide_if_all g i h =
      cond_elim Ok (covers (cabinet g i).noted.unsure (cabinet g i).table.cabinets) (λ _. ok_settle _ i Decided (ok_recover_with g i _ h)) (λ _. h)

  pub ok_hurt_if : (t : Bool) (g : Group) (a b : ℕ) → Ok g → Ok (hurt_if t g a b)
  ok_hurt_if true g a b h = with_cabinet_lem g b _ (k.hurt_from _ a (h.cabs b)) h
  ok_hurt_if false g a b h = h

  module _ (g : Group) (h : Ok g) (a : ℕ) where
    pub ok_write : OkOf (write_step g a)
    unfolding write_step
    ok_write = or_refuse_lem (write_refusal g a) g _
        (λ _. ok_owe_if (not (ltb (cabinet g a).noted.pieces 3)) _ (home g a) a (ok_write_piece g h a)) h

    pub ok_saved : OkOf (saved_step g a)
    unfolding saved_step
    ok_saved = or_refuse_lem (saved_refusal g a) g _ (λ _. ok_commit_if_all _ _ (ok_report_saved g a _ _ h)) h

    pub ok_fetch : OkOf (fetch_step g a)
    unfolding fetch_step
    ok_fetch = or_refuse_lem (fetch_refusal g a) g _ (λ _. ok_fetch_piece g a h) h

    pub ok_restored : OkOf (restored_step g a)
    unfolding restored_step report_restored
    ok_restored =
        or_refuse_lem (restored_refusal g a) g _ (λ _. ok_end_if_all _ _ (ok_come_back_if_away _ a (with_cabinet_lem g _ _ (k.restored_for _ a (h.cabs _)) h))) h

    pub ok_unsure : OkOf (unsure_step g a)
    unfolding unsure_step report_unsure
    ok_unsure = or_refuse_lem (unsure_refusal g a) g _ (λ _. ok_decide_if_all _ _ (with_cabinet_lem g _ _ (k.unsure_for _ a (h.cabs _)) h)) h

    pub ok_fail : OkOf (fail_step g a)
    unfolding fail_step
    ok_fail =
        cond_elim OkOf (fail_crashes g a) (λ _. ok_crashed g h)
        (λ e. ok_alarm 8 _ a (AtFailed a) (ok_mark_failed _ a (ok_leave g a (or-false {s = is_last g.store a} e).0 h)))

    pub ok_trip_once : (n : ℕ) → OkOf (trip_once g a n)
    unfolding trip_once with_trips_of
    ok_trip_once n =
        cond_elim OkOf (trip_crashes g a) (λ _. ok_crashed g h)
        (λ e. ok_alarm 8 _ a (AtTripped a) (ok_trip _ a (ok_leave (with_trips_of g a n) a (or-false {s = is_last g.store a} e).0 (with_trips g a n h))))

    pub ok_trip_step : OkOf (trip_step g a)
    unfolding trip_step
    ok_trip_step = cond_elim OkOf (ltb (trips_of g a) 2) (λ _. ok_trip_once (trips_of g a + 1)) (λ _. ok_fail)

    pub ok_damage : (b p : ℕ) (w : Pattern) → w.mask < 65536 → OkOf (damage_step g a b p w)
    unfolding damage_step hurt
    ok_damage b p w l =
        or_refuse_lem (damage_refusal g a b p w) g _
        (λ _. cond_elim OkOf (some (recovering_ones g)) (λ _. ok_crashed g h)
        (λ _. ok_hurt_if (is_normal (packet_at (line g a b) p)) _ a b (with_line_lem g a b _ (k.damages _ p w l (h.lines a b)) h)))
        h

    pub ok_lose : (b p : ℕ) → OkOf (lose_step g a b p)
    unfolding lose_step lost
    ok_lose b p =
        or_refuse_lem (lose_refusal g a b p) g _
        (λ _. cond_elim OkOf (some (recovering_ones g)) (λ _. ok_crashed g h) (λ _. ok_hurt_if true _ a b (with_line_lem g a b _ (k.loses _ p (h.lines a b)) h))) h

  -- ---- the step entry, and every run

  abbrev pub Octets : List ℕ → Type 0
  Octets r = (i : ℕ) → get_or r i 0 < 256

  pub ok_perform : (g : Group) → Ok g → (s : Step) → Fits s → OkOf (perform g s)
  ok_perform g h (Send a b p q) f = ok_send g h (a - 1) (b - 1) p q f
  ok_perform g h (Note a p q) f = ok_note g h (a - 1) p q
  ok_perform g h (Begin a) f = ok_begin g h (a - 1)
  ok_perform g h (Deliver a b) f = ok_deliver g h (a - 1) (b - 1)
  ok_perform g h (Write a) f = ok_write g h (a - 1)
  ok_perform g h (Saved a) f = ok_saved g h (a - 1)
  ok_perform g h (Fetch a) f = ok_fetch g h (a - 1)
  ok_perform g h (Restored a) f = ok_restored g h (a - 1)
  ok_perform g h (Fail a) f = ok_fail g h (a - 1)
  ok_perform g h (Damage a b p w) f = ok_damage g h (a - 1) (b - 1) p w f
  ok_perform g h (Lose a b p) f = ok_lose g h (a - 1) (b - 1) p
  ok_perform g h (Trip a) f = ok_trip_step g h (a - 1)
  ok_perform g h (Unsure a) f = ok_unsure g h (a - 1)

  pub ok_decoded : (g : Group) → Ok g → (d : Decoded) → FitsIn d → OkOf (step_decoded g d)
  ok_decoded g h Malformed f = h
  ok_decoded g h Unused f = h
  ok_decoded g h (Taken s) f = or_refuse_lem (entry_refusal g s) g (perform g s) (λ _. ok_perform g h s f) h

  pub every_step : (g : Group) (r : List ℕ) → Octets r → Ok g → OkOf (step g r)
  unfolding step
  every_step g r o h = ok_decoded g h (decode r) (decode_fits r o)
