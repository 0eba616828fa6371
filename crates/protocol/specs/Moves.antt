-- The moves that the rules of the documents are made of, each once.
use Rattle.std.specs.Prelude.{ℕ, zero, suc, Bool, true, false, cond, ◌&&◌, set, eqb, None, Some}
use Rattle.marks.specs.Marks.{marked}
use Rattle.marks.specs.Reach.{struck, connected}
use Rattle.packet.specs.declared.Place.{Place}
use Rattle.packet.specs.declared.Place.TheVariants.{Failed as AtFailed, Tripped as AtTripped, Link as AtLink}
use Rattle.packet.specs.declared.Packet.{Packet}
use Rattle.packet.specs.declared.Packet.TheVariants.{Resume, Recover, Fault}
use Rattle.packet.specs.Packet.{link_place}
use Rattle.line.specs.Line.{empty_line}
use Rattle.state.specs.declared.State.TheVariants.{Failed}
use Rattle.state.specs.declared.Version.{Version}
use Rattle.state.specs.declared.Version.TheVariants.{Known, Unknown, Lost}
use Rattle.settled.specs.declared.Reason.{Reason}
use Rattle.settled.specs.Settled.{reason_of}
use Rattle.store.specs.Store.{partner, homed_at, leaves, comes_back}
use Rattle.cabinet.specs.declared.Cabinet.{Cabinet}
use Rattle.cabinet.specs.Alarm.{Alarm}
use Rattle.group.specs.declared.Group.{Group}
use Rattle.group.specs.declared.Outcome.{Outcome}
use Rattle.state.specs.State.{flipped, adopted, works}
use Rattle.cabinet.specs.Cabinet.{in_use, coordinator, beginning, comparing, cutting, resuming, alarmed, blanked, hearing, recovering, with_state, with_version, owing_also, owing_but, owing_none}
use Rattle.outgoing.specs.Lines.{empty_lines, put_all, put_checkps}
use Rattle.group.specs.Group.{cabinet, with_cabinet, with_store, state_of, outgoing, with_outgoing, with_line, rows_of, with_sound, working, forget_trips, settle, taken, crashed}

-- a packet on all lines in use of cabinet i
unfoldable pub broadcast : Group → ℕ → Packet → Group
broadcast g i p = with_outgoing g i (put_all (in_use (cabinet g i)) p (outgoing g i))

-- ---- saving

-- join: "enters checkp-begin and puts checkp on all lines in use"
unfoldable pub join : Group → ℕ → Group
join g i =
    with_cabinet (with_outgoing g i (put_checkps (in_use (cabinet g i)) (cabinet g i).registers.sent (outgoing g i))) i (beginning (cabinet g i))

-- cut: if the checkps of all neighbours in use have come, the cabinet enters checkpointing
unfoldable pub cut_if_all : Group → ℕ → Group
cut_if_all g i = with_cabinet g i (cutting (cabinet g i))

-- take checkp: an equal comparison of b with the checkp from a
unfoldable pub take_checkp : Group → ℕ → ℕ → Group
take_checkp g a b = cut_if_all (with_cabinet g b (comparing (cabinet g b) a)) b

-- enter normal with a version, and put resume on all lines in use
unfoldable pub resume_with : Group → ℕ → Version → Group
resume_with g i v = broadcast (with_cabinet g i (resuming (cabinet g i) v)) i Resume

-- commit: "it flips its version, enters normal and puts resume everywhere"; a third trip is one "with no commit between", so no trip
-- before it counts any more
unfoldable pub commit : Group → ℕ → Group
commit g k = forget_trips (resume_with g k (flipped (cabinet g k).phase.version))

-- take a resume in checkpointed: "sets version to 1 − old, enters normal and puts resume on its other lines"
unfoldable pub adopt : Group → ℕ → ℕ → Group
adopt g a b =
    with_outgoing (with_cabinet g b (resuming (cabinet g b) (adopted (cabinet g b).phase.version))) b
    (put_all (set (in_use (cabinet g b)) a false) Resume (outgoing g b))

-- ---- failing and recovering

-- go on with a known version: "put recover with it and enter recovering"
unfoldable pub recover_with : Group → ℕ → Bool → Group
recover_with g i v = broadcast (with_cabinet g i (recovering (cabinet g i) v)) i (Recover v)

-- .. "If the version is known", and by this word of its own the cabinet may settle the recovery (document 02, card 8)
abbrev pub recover_if_known : Group → ℕ → Version → Reason → Group
recover_if_known g i (Known v) r = settle (recover_with g i v) i r
recover_if_known g i (Unknown v) r = g
recover_if_known g i Lost r = g

-- enter error: strike, empty every outgoing line, forget, put fault; "If the version is known, put recover with it"
unfoldable pub raise : Group → ℕ → Place → Group
raise g i p = broadcast (with_outgoing (with_cabinet g i (alarmed (cabinet g i) i p)) i empty_lines) i (Fault p)

-- the reason of cabinet i that it could go on, as it is before it enters error: "it was coordinator before the fault and knew, .."
abbrev pub reason_for : Cabinet → ℕ → Reason
reason_for c i = reason_of (eqb (coordinator c) i) c.phase.state

unfoldable pub enter_error : Group → ℕ → Place → Group
enter_error g i p = recover_if_known (raise g i p) i (cabinet g i).phase.version (reason_for (cabinet g i) i)

-- hear fault: b has had a's fault packet
unfoldable pub hear : Group → ℕ → ℕ → Group
hear g a b = with_cabinet g b (hearing (cabinet g b) a)

-- find a link fault at b on the link from a: "(that link left out) some working cabinet is not reached" crashes the group
unfoldable pub find_link_fault : Group → Group → ℕ → ℕ → Outcome
find_link_fault before g a b =
    cond (connected (struck (rows_of g.sound) a b) (working g))
    (taken (enter_error (with_sound g (struck (rows_of g.sound) a b)) b (link_place a b)))
    (crashed before)

-- the lines to cabinet a from those below n are emptied
abbrev pub emptied_to : ℕ → Group → ℕ → Group
emptied_to zero g a = g
emptied_to (suc n) g a = with_line (emptied_to n g a) n a empty_line

-- Document 02, card 10: a store that fails or trips leaves, and its partner p "is home for its cabinets and owes its reports"; where p then
-- enters error in that step it forgets them with its own ("none where it enters error in that step")
unfoldable pub pass_reports : Group → ℕ → ℕ → Group
pass_reports g a p =
    with_cabinet (with_cabinet g p (owing_also (cabinet g p) (cabinet g a).owed)) a (owing_none (cabinet g a))

unfoldable pub leave : Group → ℕ → Group
leave g a = pass_reports (with_store g (leaves g.store a)) a (partner g.store a)

-- come back: "A tripped partner takes the other's slots in the step in which it reports restored and is home again"; what its partner p still
-- owes on its cabinets is dropped, since p is their home no more
unfoldable pub drop_reports : Group → ℕ → ℕ → Group
drop_reports g a p = with_cabinet g p (owing_but (cabinet g p) (homed_at g.store a))

unfoldable pub come_back : Group → ℕ → Group
come_back g a = drop_reports (with_store g (comes_back g.store a)) a (partner g.store a)

-- mark failed: "A failing cabinet's lines are emptied both ways"
unfoldable pub mark_failed : Group → ℕ → Group
mark_failed g a = emptied_to 8 (with_outgoing (with_cabinet g a (with_state (cabinet g a) Failed)) a empty_lines) a

-- trip: "turns cabinet a's image to zeros and its version to unknown, its table kept" (but for who is coordinator); "its lines are emptied
-- both ways .. The cabinet itself enters error with unknown version and puts fault"
unfoldable pub trip : Group → ℕ → Group
trip g a = emptied_to 8 (enter_error (with_cabinet g a (blanked (cabinet g a))) a (AtTripped a)) a

-- cabinet i works and has a link to a in use
abbrev pub neighbours : Group → ℕ → ℕ → Bool
neighbours g i a = works (state_of g i) && marked (in_use (cabinet g i)) a

-- ".. and all its neighbours over links in use enter error in the same step", for a place that says failed or tripped
abbrev pub enter_error_if : Bool → Group → ℕ → Place → Group
enter_error_if true g i p = enter_error g i p
enter_error_if false g i p = g

unfoldable pub alarm_to : ℕ → Group → ℕ → Place → Group
alarm_to zero g a p = g
alarm_to (suc n) g a p =
    enter_error_if (neighbours g n a) (alarm_to n g a p) n p

-- end the recovery: "it enters normal and puts resume on all lines in use"; so does a cabinet in recovered on resume
unfoldable pub end_recovery : Group → ℕ → Group
end_recovery g i = resume_with g i (cabinet g i).phase.version

-- Document 02, card 1: which slot has a failed cabinet's image is noted where the recovery from its fail ends. Its own version, which no
-- rule reads any more, takes the note: it becomes that of the save which the others come back from
abbrev pub note_at : Place → Group → Version → Group
note_at (AtFailed x) g v = with_cabinet g x (with_version (cabinet g x) v)
note_at (AtTripped x) g v = g
note_at (AtLink x y) g v = g

abbrev pub note_for : Alarm → Group → Version → Group
note_for None g v = g
note_for (Some p) g v = note_at p g v

unfoldable pub note_lost : Group → ℕ → Group
note_lost g k = note_for (cabinet g k).phase.alarm g (cabinet g k).phase.version
