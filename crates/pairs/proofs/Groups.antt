-- What covers a group goes through every component of it, and through every move.
use Rattle.std.specs.Prelude.{None, Some}
use Prim.Native.Nat.{ℕ, zero, suc}
use mathlib.Core.Path.{◌≡◌, refl, sym, ap, ◌∙◌}
use mathlib.Core.Bool.{Bool, true, false, cond, ◌&&◌}
use mathlib.Core.List.{List, map}
use lib.ListN.{set, get_or-map}
use Rattle.marks.specs.Marks.{marked}
use Rattle.marks.specs.Reach.{struck, connected}
use Rattle.packet.specs.declared.Place.{Place}
use Rattle.packet.specs.declared.Place.TheVariants.{Failed as AtFailed, Tripped as AtTripped, Link as AtLink}
use Rattle.packet.specs.declared.Packet.{Packet}
use Rattle.packet.specs.declared.Packet.TheVariants.{Resume, Recover, Fault}
use Rattle.packet.specs.Packet.{link_place}
use Rattle.line.specs.declared.Line.{Line}
use Rattle.line.specs.Line.{empty_line}
use Rattle.outgoing.specs.declared.Outgoing.{Outgoing}
use Rattle.outgoing.specs.Lines.{empty_lines, line_to, with_line_to, laden, put_all, put_checkps}
use Rattle.state.specs.declared.State.TheVariants.{Failed, Normal, Crashed}
use Rattle.state.specs.declared.Version.{Version}
use Rattle.state.specs.declared.Version.TheVariants.{Known, Unknown, Lost}
use Rattle.state.specs.State.{flipped, adopted, works, is_in, in_recovery}
use Rattle.settled.specs.declared.Reason.{Reason}
use Rattle.store.specs.declared.Store.{Store}
use Rattle.store.specs.Store.{partner, home_in, homed_at, slot_at, leaves, comes_back}
use Rattle.cabinet.specs.Alarm.{Alarm}
use Rattle.cabinet.specs.declared.Cabinet.{Cabinet}
use Rattle.cabinet.specs.Cabinet.{absent, in_use, with_state, with_version, beginning, comparing, cutting, resuming, alarmed, blanked, hearing, recovering, crashing, owing_also, owing_but, owing_none}
use Rattle.group.specs.declared.Group.{Group}
use Rattle.group.specs.declared.Outcome.{Outcome}
use Rattle.group.specs.Group.{cabinet, with_cabinets, with_cabinet, outgoing, with_outgoing, line, with_line, with_store, home, slot, rows_of, with_sound, those, some, working, recovering_ones, is_crashed, normal_ones, laden_ones, quiet, forget_trips, settle, answering, taken, crash_all, crashed}
use Rattle.protocol.specs.Moves.{broadcast, join, cut_if_all, take_checkp, resume_with, commit, adopt, recover_with, recover_if_known, raise, reason_for, enter_error, hear, find_link_fault, emptied_to, pass_reports, leave, drop_reports, come_back, mark_failed, trip, neighbours, enter_error_if, alarm_to, end_recovery, note_for, note_lost}
use Rattle.pairs.specs.Covered.{cover_from, cover_image, cover_packet, cover_line, cover_outgoing, cover_cabinet, cover_store, cover, cover_outcome}
use Rattle.pairs.proofs.Parts.{map_set, choose, line_covered, with_line_covered, no_lines_covered, put_all_covered, put_checkps_covered, laden_covered}
use Rattle.pairs.proofs.Cabinets.{begin_covered, compare_covered, cut_covered, blank_covered, crash_covered}
use Rattle.pairs.proofs.Stores.{home_kept, homed_kept, slot_kept, leaves_covered, back_covered}

-- ---- the components, read

pub cabinet_at : (g : Group) (i : ℕ) → cabinet (cover g) i ≡ cover_cabinet (cabinet g i)
unfolding cover cabinet cover_image cover_from
cabinet_at g i = get_or-map cover_cabinet g.cabinets i absent

pub lines_at : (g : Group) (i : ℕ) → outgoing (cover g) i ≡ cover_outgoing (outgoing g i)
unfolding cover outgoing empty_lines
lines_at g i = get_or-map cover_outgoing g.outgoing i empty_lines

pub line_at : (g : Group) (a b : ℕ) → line (cover g) a b ≡ cover_line (line g a b)
unfolding line
line_at g a b = ap (λ (o : Outgoing). line_to o b) (lines_at g a) ∙ line_covered (outgoing g a) b

-- the store is there as covered, so who is home and which stores are present read the same
pub store_at : (g : Group) → (cover g).store ≡ cover_store g.store
unfolding cover
store_at g = refl

pub home_at : (g : Group) (c : ℕ) → home (cover g) c ≡ home g c
home_at g c = ap (λ (s : Store). home_in s c) (store_at g) ∙ home_kept g.store c

pub slot_at_lem : (g : Group) (h c : ℕ) (v : Bool) → slot (cover g) h c v ≡ cover_image (slot g h c v)
slot_at_lem g h c v = ap (λ (s : Store). slot_at s h c v) (store_at g) ∙ slot_kept g.store h c v

-- ---- and replaced

pub cabinet_put : (g : Group) (i : ℕ) (c : Cabinet) → cover (with_cabinet g i c) ≡ with_cabinet (cover g) i (cover_cabinet c)
unfolding cover with_cabinet
cabinet_put g i c = ap (with_cabinets (cover g)) (map_set cover_cabinet g.cabinets i c)

pub lines_put : (g : Group) (i : ℕ) (o : Outgoing) → cover (with_outgoing g i o) ≡ with_outgoing (cover g) i (cover_outgoing o)
unfolding cover with_outgoing
lines_put g i o =
    ap (λ (os : List Outgoing). record { n = g.n; cabinets = map cover_cabinet g.cabinets; links = g.links; sound = g.sound; outgoing = os; store = cover_store g.store; trips = g.trips; packets = g.packets; settled = g.settled })
    (map_set cover_outgoing g.outgoing i o)

pub line_put : (g : Group) (a b : ℕ) (l : Line) → cover (with_line g a b l) ≡ with_line (cover g) a b (cover_line l)
unfolding with_line
line_put g a b l =
    lines_put g a (with_line_to (outgoing g a) b l)
    ∙ ap (with_outgoing (cover g) a) (with_line_covered (outgoing g a) b l ∙ ap (λ (o : Outgoing). with_line_to o b (cover_line l)) (sym (lines_at g a)))

pub store_put : (g : Group) (s : Store) → cover (with_store g s) ≡ with_store (cover g) (cover_store s)
unfolding cover
store_put g s = refl

-- ---- a move makes of a covered group what it makes of the group, covered

pub data Covers (x y : Group) : Type 0 where
  is : cover x ≡ y → Covers x y

pub path : {x y : Group} → Covers x y → cover x ≡ y
path (is e) = e

abbrev pub Commutes : (Group → Group) → Type 0
Commutes m = (g : Group) → Covers (m g) (m (cover g))

pub onto : {m : Group → Group} → Commutes m → {x y : Group} → Covers x y → Covers (m x) (m y)
onto {m} f {x} (is e) = is (path (f x) ∙ ap m e)

pub at_cabinet : (f : Cabinet → Cabinet) → ((c : Cabinet) → cover_cabinet (f c) ≡ f (cover_cabinet c)) → (i : ℕ) → Commutes (λ g. with_cabinet g i (f (cabinet g i)))
at_cabinet f same i g = is (cabinet_put g i (f (cabinet g i)) ∙ ap (with_cabinet (cover g) i) (same (cabinet g i) ∙ ap f (sym (cabinet_at g i))))

at_lines : (f : Cabinet → Outgoing → Outgoing) → ((c : Cabinet) (o : Outgoing) → cover_outgoing (f c o) ≡ f (cover_cabinet c) (cover_outgoing o))
    → (i : ℕ) → Commutes (λ g. with_outgoing g i (f (cabinet g i) (outgoing g i)))
at_lines f same i g =
    is (lines_put g i (f (cabinet g i) (outgoing g i))
    ∙ ap (with_outgoing (cover g) i) (same (cabinet g i) (outgoing g i) ∙ ap (λ (c : Cabinet). f c (cover_outgoing (outgoing g i))) (sym (cabinet_at g i))
    ∙ ap (f (cabinet (cover g) i)) (sym (lines_at g i))))

no_lines_at : (i : ℕ) → Commutes (λ g. with_outgoing g i empty_lines)
no_lines_at i g = is (lines_put g i empty_lines ∙ ap (with_outgoing (cover g) i) no_lines_covered)

-- a group reads the same of a cabinet, covered or not, but for its registers and its image
pub reads : {A : Type 0} (f : Cabinet → A) (g : Group) (i : ℕ) → f (cabinet (cover g) i) ≡ f (cover_cabinet (cabinet g i))
reads f g i = ap f (cabinet_at g i)

those_covered : (f : Cabinet → Bool) → ((c : Cabinet) → f (cover_cabinet c) ≡ f c) → (g : Group) → those f (cover g) ≡ those f g
those_covered f same g = rw (at 0, at 1, at 2, at 3, at 4, at 5, at 6, at 7)
  where
    at : (i : ℕ) → f (cabinet (cover g) i) ≡ f (cabinet g i)
    at i = reads f g i ∙ same (cabinet g i)

-- ---- asked of all cabinets

pub working_covered : (g : Group) → working (cover g) ≡ working g
unfolding working
working_covered g = those_covered (λ c. works c.phase.state) (λ c. refl) g

pub recovering_covered : (g : Group) → recovering_ones (cover g) ≡ recovering_ones g
unfolding recovering_ones
recovering_covered g = those_covered (λ c. in_recovery c.phase.state) (λ c. refl) g

pub crashed_covered : (g : Group) → is_crashed (cover g) ≡ is_crashed g
unfolding is_crashed
crashed_covered g = ap some (those_covered (λ c. is_in c.phase.state Crashed) (λ c. refl) g)

pub quiet_covered : (g : Group) → quiet (cover g) ≡ quiet g
unfolding quiet normal_ones laden_ones
quiet_covered g =
    rw (those_covered (λ c. is_in c.phase.state Normal) (λ c. refl) g, working_covered g, at 0, at 1, at 2, at 3, at 4, at 5, at 6, at 7)
  where
    at : (i : ℕ) → laden (outgoing (cover g) i) ≡ laden (outgoing g i)
    at i = ap laden (lines_at g i) ∙ laden_covered (outgoing g i)

-- ---- the moves

pub broadcast_covered : (i : ℕ) (p : Packet) → cover_packet p ≡ p → Commutes (λ g. broadcast g i p)
unfolding broadcast
broadcast_covered i p same g =
    at_lines (λ c o. put_all (in_use c) p o) (λ c o. put_all_covered (in_use c) p o ∙ ap (λ q. put_all (in_use c) q (cover_outgoing o)) same) i g

pub join_covered : (i : ℕ) → Commutes (λ g. join g i)
unfolding join with_outgoing cabinet
join_covered i g =
    onto {m = λ x. with_cabinet x i (beginning (cabinet x i))} (at_cabinet beginning begin_covered i)
    (at_lines (λ c o. put_checkps (in_use c) c.registers.sent o) (λ c o. put_checkps_covered (in_use c) c.registers.sent o) i g)

pub cut_all_covered : (i : ℕ) → Commutes (λ g. cut_if_all g i)
unfolding cut_if_all
cut_all_covered i g = at_cabinet cutting cut_covered i g

pub take_checkp_covered : (a b : ℕ) → Commutes (λ g. take_checkp g a b)
unfolding take_checkp
take_checkp_covered a b g = onto (cut_all_covered b) (at_cabinet (λ c. comparing c a) (compare_covered a) b g)

pub resume_covered : (i : ℕ) (v : Version) → Commutes (λ g. resume_with g i v)
unfolding resume_with
resume_covered i v g = onto (broadcast_covered i Resume refl) (at_cabinet (λ c. resuming c v) (λ c. refl) i g)

-- with what is read of a cabinet before the move
pub reading : {A : Type 0} (f : Cabinet → A) (m : A → Group → Group) → ((x : A) → Commutes (m x)) → ((c : Cabinet) → f (cover_cabinet c) ≡ f c)
    → (i : ℕ) → Commutes (λ g. m (f (cabinet g i)) g)
reading f m same kept i g =
    is (path (same (f (cabinet g i)) g) ∙ ap (λ x. m x (cover g)) (sym (kept (cabinet g i)) ∙ ap f (sym (cabinet_at g i))))

forget_covered : Commutes forget_trips
unfolding forget_trips cover
forget_covered g = is refl

pub commit_covered : (k : ℕ) → Commutes (λ g. commit g k)
unfolding commit
commit_covered k g = onto forget_covered (reading (λ c. flipped c.phase.version) (λ v x. resume_with x k v) (λ v. resume_covered k v) (λ c. refl) k g)

pub adopt_covered : (a b : ℕ) → Commutes (λ g. adopt g a b)
unfolding adopt with_cabinet outgoing
adopt_covered a b g =
    is (lines_put (with_cabinet g b (resuming c (adopted c.phase.version))) b (put_all (set (in_use c) a false) Resume (outgoing g b))
    ∙ rw (cabinet_put g b (resuming c (adopted c.phase.version)), put_all_covered (set (in_use c) a false) Resume (outgoing g b), cabinet_at g b, lines_at g b))
  where
    c : Cabinet
    c = cabinet g b

pub recover_covered : (i : ℕ) (v : Bool) → Commutes (λ g. recover_with g i v)
unfolding recover_with
recover_covered i v g = onto (broadcast_covered i (Recover v) refl) (at_cabinet (λ c. recovering c v) (λ c. refl) i g)

pub settle_covered : (i : ℕ) (r : Reason) → Commutes (λ g. settle g i r)
unfolding settle cover
settle_covered i r g = is refl

if_known_covered : (i : ℕ) (v : Version) (r : Reason) → Commutes (λ g. recover_if_known g i v r)
if_known_covered i (Known v) r g = onto (settle_covered i r) (recover_covered i v g)
if_known_covered i (Unknown v) r g = is refl
if_known_covered i Lost r g = is refl

raise_covered : (i : ℕ) (p : Place) → Commutes (λ g. raise g i p)
unfolding raise
raise_covered i p g = onto (broadcast_covered i (Fault p) refl) (onto (no_lines_at i) (at_cabinet (λ c. alarmed c i p) (λ c. refl) i g))

pub error_covered : (i : ℕ) (p : Place) → Commutes (λ g. enter_error g i p)
unfolding enter_error
error_covered i p g =
    reading {A = Version × Reason} (λ c. (c.phase.version, reason_for c i)) (λ x y. recover_if_known (raise y i p) i x.0 x.1)
    (λ x y. onto (if_known_covered i x.0 x.1) (raise_covered i p y)) (λ c. refl) i g

pub hear_covered : (a b : ℕ) → Commutes (λ g. hear g a b)
unfolding hear
hear_covered a b g = at_cabinet (λ c. hearing c a) (λ c. refl) b g

emptied_covered : (n a : ℕ) → Commutes (λ g. emptied_to n g a)
emptied_covered zero a g = is refl
emptied_covered (suc n) a g = onto {m = λ x. with_line x n a empty_line} (λ x. is (line_put x n a empty_line)) (emptied_covered n a g)

at_store : (f : Store → Store) → ((s : Store) → cover_store (f s) ≡ f (cover_store s)) → Commutes (λ g. with_store g (f g.store))
at_store f same g =
    is (store_put g (f g.store) ∙ ap (with_store (cover g)) (same g.store ∙ ap f (sym (store_at g))))

partner_at : (g : Group) (a : ℕ) → partner (cover g).store a ≡ partner g.store a
unfolding cover
partner_at g a = refl

-- what a store owes goes to its partner
pass_covered : (a p : ℕ) → Commutes (λ g. pass_reports g a p)
unfolding pass_reports
pass_covered a p g =
    is (cabinet_put (with_cabinet g p (owing_also (cabinet g p) (cabinet g a).owed)) a (owing_none (cabinet g a))
    ∙ rw (cabinet_put g p (owing_also (cabinet g p) (cabinet g a).owed), cabinet_at g p, cabinet_at g a))

pub leave_covered : (a : ℕ) → Commutes (λ g. leave g a)
unfolding leave
leave_covered a g =
    is (path (onto (pass_covered a (partner g.store a)) (at_store (λ s. leaves s a) (leaves_covered a) g))
    ∙ ap (pass_reports (with_store (cover g) (leaves (cover g).store a)) a) (sym (partner_at g a)))

-- .. and what its partner still owes on its cabinets is dropped where it comes back
drop_covered : (a p : ℕ) → Commutes (λ g. drop_reports g a p)
unfolding drop_reports
drop_covered a p g =
    is (path (at_cabinet (λ c. owing_but c (homed_at g.store a)) (λ c. refl) p g)
    ∙ ap (λ m. with_cabinet (cover g) p (owing_but (cabinet (cover g) p) m)) (sym (ap (λ (s : Store). homed_at s a) (store_at g) ∙ homed_kept g.store a)))

pub come_back_covered : (a : ℕ) → Commutes (λ g. come_back g a)
unfolding come_back
come_back_covered a g =
    is (path (onto (drop_covered a (partner g.store a)) (at_store (λ s. comes_back s a) (back_covered a) g))
    ∙ ap (drop_reports (with_store (cover g) (comes_back (cover g).store a)) a) (sym (partner_at g a)))

pub failed_covered : (a : ℕ) → Commutes (λ g. mark_failed g a)
unfolding mark_failed
failed_covered a g = onto (emptied_covered 8 a) (onto (no_lines_at a) (at_cabinet (λ c. with_state c Failed) (λ c. refl) a g))

pub trip_covered : (a : ℕ) → Commutes (λ g. trip g a)
unfolding trip
trip_covered a g = onto (emptied_covered 8 a) (onto (error_covered a (AtTripped a)) (at_cabinet blanked blank_covered a g))

neighbours_covered : (g : Group) (i a : ℕ) → neighbours (cover g) i a ≡ neighbours g i a
neighbours_covered g i a = reads (λ c. works c.phase.state && marked (in_use c) a) g i

pub alarm_covered : (n a : ℕ) (p : Place) → Commutes (λ g. alarm_to n g a p)
unfolding alarm_to
alarm_covered zero a p g = is refl
alarm_covered (suc n) a p g = go (neighbours g n a) (neighbours (cover g) n a) (sym (neighbours_covered g n a)) (alarm_covered n a p g)
  where
    go : (t u : Bool) → t ≡ u → {x y : Group} → Covers x y → Covers (enter_error_if t x n p) (enter_error_if u y n p)
    go true u same e = rw (sym same) (onto (error_covered n p) e)
    go false u same e = rw (sym same) e

pub end_covered : (i : ℕ) → Commutes (λ g. end_recovery g i)
unfolding end_recovery
end_covered i g = reading (λ c. c.phase.version) (λ v x. resume_with x i v) (λ v. resume_covered i v) (λ c. refl) i g

note_for_covered : (a : Alarm) (v : Version) → Commutes (λ g. note_for a g v)
note_for_covered None v g = is refl
note_for_covered (Some (AtFailed x)) v g = at_cabinet (λ c. with_version c v) (λ c. refl) x g
note_for_covered (Some (AtTripped x)) v g = is refl
note_for_covered (Some (AtLink x y)) v g = is refl

pub lost_covered : (k : ℕ) → Commutes (λ g. note_lost g k)
unfolding note_lost
lost_covered k g =
    reading {A = Alarm × Version} (λ c. (c.phase.alarm, c.phase.version)) (λ x y. note_for x.0 y x.1) (λ x y. note_for_covered x.0 x.1 y) (λ c. refl) k g

-- ---- outcomes

pub crash_all_covered : (g : Group) → cover_outcome (crashed g) ≡ crashed (cover g)
unfolding crash_all cover
crash_all_covered g = ap (λ (cs : List Cabinet). answering 50 (with_cabinets (cover g) cs)) (rw (at 0, at 1, at 2, at 3, at 4, at 5, at 6, at 7))
  where
    at : (i : ℕ) → cover_cabinet (crashing (cabinet g i)) ≡ crashing (cabinet (cover g) i)
    at i = crash_covered (cabinet g i) ∙ ap crashing (sym (cabinet_at g i))

pub link_fault_covered : (before g : Group) (a b : ℕ) → cover_outcome (find_link_fault before g a b) ≡ find_link_fault (cover before) (cover g) a b
unfolding find_link_fault with_sound cover
link_fault_covered before g a b =
    choose cover_outcome (connected (struck (rows_of g.sound) a b) (working g)) _ _
    ∙ ap (λ (x : Group). cond (connected (struck (rows_of g.sound) a b) (working g)) (taken x) (cover_outcome (crashed before)))
    (path (error_covered b (link_place a b) (with_sound g (struck (rows_of g.sound) a b))))
    ∙ ap (λ (o : Outcome). cond (connected (struck (rows_of g.sound) a b) (working g)) (taken (enter_error (with_sound (cover g) (struck (rows_of g.sound) a b)) b (link_place a b))) o)
    (crash_all_covered before)
    ∙ ap (λ m. cond (connected (struck (rows_of g.sound) a b) m) (taken (enter_error (with_sound (cover g) (struck (rows_of g.sound) a b)) b (link_place a b))) (crashed (cover before)))
    (sym (working_covered g))
