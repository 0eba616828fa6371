-- Document 01, "Which save" and "Words of demand 3", with document 02, cards 1, 3, 5, 7 and 9: the history of a run, a fold over the file and the
-- operations (step records, points taken, returns) with what the rules make of them. Of the groups before and after a step it reads
-- states, tables, homes, images, the packet version, the packet that is taken or damaged, and which checkps have come; no version of an
-- image, slot, register, report, piece or fault place. Of a point it reads whether it is taken: what it keeps, the history knows by itself. In a step cabinets count
-- from 1, here from 0.
use Rattle.std.specs.Prelude.{ℕ, ◌-◌, Bool, true, false, cond, not, ◌&&◌, ◌||◌, List, [], ◌∷◌, ◌++◌, map, eqb, ltb}
use Rattle.std.proofs.Math.Option.{Option, none, some}
use Rattle.marks.specs.Marks.{marked}
use Rattle.outlet.specs.declared.Party.{Party}
use Rattle.outlet.specs.Outlet.{party_of, same_party}
use Rattle.packet.specs.declared.Payload.{Payload}
use Rattle.packet.specs.declared.Packet.{Packet}
use Rattle.packet.specs.declared.Packet.TheVariants.{Empty, Normal as NormalPacket, Checkp, Resume, Recover, Fault, Invalid}
use Rattle.packet.specs.Packet.{fits}
use Rattle.line.specs.Line.{oldest, packet_at}
use Rattle.state.specs.declared.State.{State}
use Rattle.state.specs.declared.State.TheVariants.{Normal, Checkpointing, Checkpointed, Recovering, Recovered}
use Rattle.image.specs.declared.Image.{Image}
use Rattle.state.specs.State.{is_in, works, in_saving}
use Rattle.cabinet.specs.Cabinet.{in_use, coordinator}
use Rattle.points.specs.declared.Points.{Points}
use Rattle.points.specs.Points.{no_points, same_name}
use Rattle.group.specs.declared.Group.{Group}
use Rattle.group.specs.declared.Outcome.{Outcome}
use Rattle.group.specs.Group.{cabinet, state_of, home, line}
use Rattle.protocol.specs.declared.Step.{Step}
use Rattle.protocol.specs.declared.Step.TheVariants.{Send, Note, Begin, Deliver, Write, Saved, Fetch, Restored, Fail, Damage, Lose, Trip, Unsure}
use Rattle.protocol.specs.declared.Decoded.{Decoded}
use Rattle.protocol.specs.declared.Decoded.TheVariants.{Malformed, Unused, Taken}
use Rattle.protocol.specs.Receive.{takes_from}
use Rattle.protocol.specs.Kinds.{carried}
use Rattle.protocol.specs.Entry.{decode, step}
use Rattle.protocol.specs.Points.{take_point, return_to}

-- a function with one value replaced
unfoldable pub upd : {A : Type 0} → (ℕ → A) → ℕ → A → ℕ → A
upd f a v i = cond (eqb i a) v (f i)

-- for each ordered pair of cabinets the packets on the line between them, whole, oldest first
abbrev pub Log : Type 0
Log = ℕ → ℕ → List Payload

-- one packet more on the line from a to b
unfoldable pub logged : Log → ℕ → ℕ → Payload → Log
logged l a b p = upd l a (upd (l a) b (l a b ++ (p ∷ [])))

-- a cabinet's cut: its image, what it had sent to each other one and taken from each other one
pub record Cut : Type 0 where
  pub image : Image
  pub sent : ℕ → List Payload
  pub taken : ℕ → List Payload

-- a committed save: its coordinator (8, no cabinet, for the start and for a return), the cuts, and whether a cabinet took its resume or
-- was restored from it
pub record Save : Type 0 where
  pub by : ℕ
  pub cut : ℕ → Option Cut
  pub known : Bool

-- what points keep: under each name an image of each cabinet
abbrev pub Kept : Type 0
Kept = List ℕ → Option (ℕ → Option Image)

pub record History : Type 0 where
  -- since the start or the last recovery's end: the packets of the taken sends, as put, and those added, as they came
  pub sent : Log
  pub taken : Log
  -- the cuts since the last begin
  pub cuts : ℕ → Option Cut
  -- the committed saves and the returns, newest first, those passed over left out; below them the start
  pub saves : List Save
  pub start : Save
  -- a failed cabinet's image in the save restored after it failed, or the one that the last return since then set
  pub lost : ℕ → Option Image
  -- the points, of each name the one last taken with it
  pub points : Kept
  -- a normal packet of a party was damaged since the start or the last recovery's end: no matter to demand 3, it is for `claims.Bounds.NeverWraps`
  pub damaged : Party → Bool
  -- a normal packet of the line from one to another was hurt, damaged or lost, since then: no matter to it either, for `claims.Saves.CommitsUnhurt`
  pub hurt : ℕ → ℕ → Bool
  -- what `claims.Saves` speaks of, no matter to demand 3 either: a begin was taken since the start or the last recovery's end; a save was
  -- committed since then, and the last one was not passed over nor is there a return after it, so that it is the newest
  pub begun : Bool
  pub standing : Bool

abbrev pub no_log : Log
no_log a b = []

-- ---- the start

-- a save that everybody knows, with nothing sent or taken
abbrev pub bare_cut : Option Image → Option Cut
bare_cut none = none
bare_cut (some m) = some (record { image = m; sent = λ j. []; taken = λ j. [] })

abbrev pub bare_save : (ℕ → Option Image) → Save
bare_save images = record { by = 8; cut = λ i. bare_cut (images i); known = true }

abbrev pub start_save : Group → Save
start_save g = bare_save (λ i. cond (ltb i g.n) (some (cabinet g i).image) none)

-- what counts anew from the start and from every recovery's end
abbrev pub fresh : List Save → Save → (ℕ → Option Image) → Kept → History
fresh saves start lost points = record {
  sent = no_log;
  taken = no_log;
  cuts = λ i. none;
  saves = saves;
  start = start;
  lost = lost;
  points = points;
  damaged = λ y. false;
  hurt = λ a b. false;
  begun = false;
  standing = false;
}

abbrev pub at_start : Group → History
at_start g = fresh [] (start_save g) (λ i. none) (λ name. none)

-- ---- which save

-- "the last one committed before the recovery's end, or the start where there is none. If its coordinator failed before any working
-- cabinet took that resume or was restored from that save, the one before; the save passed over then counts as never committed."
-- "The restored save for a tripped coordinator follows the rule for a failed one."
-- So `saves` never holds one passed over: it is dropped in the fail or trip itself. While another cabinet works, only the newest can be one
-- that nobody took or was restored from, so one at most is dropped.
abbrev pub newest : List Save → Save → Save
newest [] s = s
newest (x ∷ xs) s = x

abbrev pub latest : History → Save
latest h = newest h.saves h.start

-- coordinator a fails or trips
abbrev pub passes_over : ℕ → List Save → Bool
passes_over a [] = false
passes_over a (x ∷ xs) = eqb x.by a && not x.known

abbrev pub pass_over : ℕ → List Save → List Save
pass_over a [] = []
pass_over a (x ∷ xs) = cond (passes_over a (x ∷ xs)) xs (x ∷ xs)

abbrev pub with_known : Save → Bool → Save
with_known s k = record { by = s.by; cut = s.cut; known = k }

abbrev pub mark_known : List Save → List Save
mark_known [] = []
mark_known (x ∷ xs) = with_known x true ∷ xs

-- ---- the parts of a history, each replaced by one function

abbrev pub with_sent : History → Log → History
with_sent h l = record { sent = l; taken = h.taken; cuts = h.cuts; saves = h.saves; start = h.start; lost = h.lost; points = h.points; damaged = h.damaged; hurt = h.hurt; begun = h.begun; standing = h.standing }

abbrev pub with_taken : History → Log → History
with_taken h l = record { sent = h.sent; taken = l; cuts = h.cuts; saves = h.saves; start = h.start; lost = h.lost; points = h.points; damaged = h.damaged; hurt = h.hurt; begun = h.begun; standing = h.standing }

abbrev pub with_cuts : History → (ℕ → Option Cut) → History
with_cuts h c = record { sent = h.sent; taken = h.taken; cuts = c; saves = h.saves; start = h.start; lost = h.lost; points = h.points; damaged = h.damaged; hurt = h.hurt; begun = h.begun; standing = h.standing }

abbrev pub with_saves : History → List Save → History
with_saves h s = record { sent = h.sent; taken = h.taken; cuts = h.cuts; saves = s; start = h.start; lost = h.lost; points = h.points; damaged = h.damaged; hurt = h.hurt; begun = h.begun; standing = h.standing }

abbrev pub with_damaged : History → (Party → Bool) → History
with_damaged h t = record { sent = h.sent; taken = h.taken; cuts = h.cuts; saves = h.saves; start = h.start; lost = h.lost; points = h.points; damaged = t; hurt = h.hurt; begun = h.begun; standing = h.standing }

abbrev pub with_hurt : History → (ℕ → ℕ → Bool) → History
with_hurt h m = record { sent = h.sent; taken = h.taken; cuts = h.cuts; saves = h.saves; start = h.start; lost = h.lost; points = h.points; damaged = h.damaged; hurt = m; begun = h.begun; standing = h.standing }

abbrev pub with_begun : History → Bool → History
with_begun h t = record { sent = h.sent; taken = h.taken; cuts = h.cuts; saves = h.saves; start = h.start; lost = h.lost; points = h.points; damaged = h.damaged; hurt = h.hurt; begun = t; standing = h.standing }

abbrev pub with_standing : History → Bool → History
with_standing h t = record { sent = h.sent; taken = h.taken; cuts = h.cuts; saves = h.saves; start = h.start; lost = h.lost; points = h.points; damaged = h.damaged; hurt = h.hurt; begun = h.begun; standing = t }

-- ---- what a taken step adds to the history; g is the group before it and g' after it

-- cabinet i goes from one state to another in the step
abbrev pub goes : Group → Group → ℕ → State → State → Bool
goes g g' i s t = is_in (state_of g i) s && is_in (state_of g' i) t

-- a normal packet whose amount the receiver adds, by the very tests of the rule (`Receive.takes`): a hurt amount may be 0, so the booking
-- would not tell
abbrev pub note_taken : Bool → History → ℕ → ℕ → Packet → History
note_taken true h a b Empty = h
note_taken true h a b (NormalPacket p) = cond (fits p) (with_taken h (logged h.taken a b p)) h
note_taken true h a b (Checkp v) = h
note_taken true h a b Resume = h
note_taken true h a b (Recover v) = h
note_taken true h a b (Fault p) = h
note_taken true h a b Invalid = h
note_taken false h a b p = h

-- a resume taken in checkpointed, or the last piece fetched: it is the newest save's (`claims.Saves.{ResumeOfNewest, FetchedOfNewest}`)
abbrev pub note_known : Bool → History → History
note_known true h = with_saves h (mark_known h.saves)
note_known false h = h

-- "it flips its version, enters normal and puts resume everywhere: the commit": the coordinator goes from checkpointing or checkpointed to normal
abbrev pub commits : Group → Group → ℕ → Bool
commits g g' k = in_saving (state_of g k) && is_in (state_of g' k) Normal

abbrev pub note_commit : Bool → History → ℕ → History
note_commit true h k = with_standing (with_saves h (record { by = k; cut = h.cuts; known = false } ∷ h.saves)) true
note_commit false h k = h

-- a normal packet of the line from a to b is hurt
abbrev pub note_hurt : History → ℕ → ℕ → History
note_hurt h a b = with_hurt h (upd h.hurt a (upd (h.hurt a) b true))

-- damage hits a normal packet, which is of one of the parties
abbrev pub note_damage : Packet → History → ℕ → ℕ → History
note_damage Empty h a b = h
note_damage (NormalPacket p) h a b = note_hurt (with_damaged h (λ y. same_party (party_of p.outlet) y || h.damaged y)) a b
note_damage (Checkp v) h a b = h
note_damage Resume h a b = h
note_damage (Recover v) h a b = h
note_damage (Fault p) h a b = h
note_damage Invalid h a b = h

-- a save whose coordinator fails or trips before it is known is passed over
abbrev pub note_passed : History → ℕ → History
note_passed h a = with_standing (with_saves h (pass_over a h.saves)) (h.standing && not (passes_over a h.saves))

abbrev pub image_in : Option Cut → Option Image
image_in none = none
image_in (some c) = some c.image

-- "A failed cabinet's image is its image in the save restored after it failed."
abbrev pub lost_now : History → Group → ℕ → Option Image → Option Image
lost_now h g i (some m) = some m
lost_now h g i none = cond (works (state_of g i)) none (image_in ((latest h).cut i))

-- "Packets for a cut count from the start or the end of the last recovery before that save's begin": they count anew at every end,
-- and a save begun before one has no cut after it (`claims.Saves.CutsSinceBegin`). The cabinets failed since the last end have their image now.
abbrev pub note_end : Bool → History → Group → History
note_end true h g = fresh h.saves h.start (λ i. lost_now h g i (h.lost i)) h.points
note_end false h g = h

-- "a recovery ends in the step that takes a coordinator from recovered to normal": the coordinator in the table of cabinet j
abbrev pub ends : Group → Group → ℕ → Bool
ends g g' j = goes g g' (coordinator (cabinet g j)) Recovered Normal

abbrev pub observe : History → Group → Group → Step → History
observe h g g' (Send a b p q) = with_sent h (logged h.sent (a - 1) (b - 1) (carried g p q))
observe h g g' (Note a p q) = h
observe h g g' (Begin a) = with_begun (with_cuts h (λ i. none)) true
observe h g g' (Deliver a b) =
    note_known (goes g g' (b - 1) Checkpointed Normal)
    (note_taken (marked (in_use (cabinet g (b - 1))) (a - 1) && takes_from (cabinet g (b - 1)) (a - 1)) h (a - 1) (b - 1)
    (oldest (line g (a - 1) (b - 1))))
observe h g g' (Write a) = h
observe h g g' (Saved a) =
    let k = coordinator (cabinet g (home g (a - 1))) in note_commit (commits g g' k) h k
observe h g g' (Fetch a) = note_known (goes g g' (a - 1) Recovering Recovered) h
observe h g g' (Restored a) = note_end (ends g g' (a - 1)) h g'
observe h g g' (Fail a) = note_passed h (a - 1)
observe h g g' (Damage a b p w) = note_damage (packet_at (line g (a - 1) (b - 1)) p) h (a - 1) (b - 1)
-- a packet that is lost was sent and is never taken
observe h g g' (Lose a b p) = note_hurt h (a - 1) (b - 1)
-- also where a third trip is a fail
observe h g g' (Trip a) = note_passed h (a - 1)
observe h g g' (Unsure a) = h

-- "A cut belongs to the last begin taken by then, and its image is the cabinet's as that step leaves it."
abbrev pub cut_in : History → Group → ℕ → Cut
cut_in h g i = record { image = (cabinet g i).image; sent = h.sent i; taken = λ j. h.taken j i }

abbrev pub note_cuts : History → Group → Group → History
note_cuts h g g' =
    with_cuts h (λ i. cond (is_in (state_of g' i) Checkpointing && not (is_in (state_of g i) Checkpointing)) (some (cut_in h g' i)) (h.cuts i))

-- ---- points and returns

-- the image that the save which the rule gives has of a cabinet: of its cut, or for one lost before it, the image that it was lost with
abbrev pub saved_image : Option Image → Option Image → Option Image
saved_image none m = m
saved_image (some x) m = some x

abbrev pub image_now : History → ℕ → Option Image
image_now h i = saved_image (h.lost i) (image_in ((latest h).cut i))

-- "A name used again replaces the old point."
abbrev pub with_points : History → Kept → History
with_points h p = record { sent = h.sent; taken = h.taken; cuts = h.cuts; saves = h.saves; start = h.start; lost = h.lost; points = p; damaged = h.damaged; hurt = h.hurt; begun = h.begun; standing = h.standing }

abbrev pub note_point : History → List ℕ → History
note_point h name = with_points h (λ other. cond (same_name other name) (some (image_now h)) (h.points other))

-- "A recovery after a return and before the next commit brings back the point": a return is a save that everybody knows, so that it is
-- never passed over, and one passed over after it gives way to it. Nothing counts as sent or taken by it; the logs run on.
-- "where there was a return since a cabinet failed, its image there is the one that the last return set"
abbrev pub note_return : Option (ℕ → Option Image) → History → Group → History
note_return none h g = h
note_return (some images) h g = record {
  sent = h.sent;
  taken = h.taken;
  cuts = h.cuts;
  saves = bare_save images ∷ h.saves;
  start = h.start;
  lost = λ i. cond (works (state_of g i)) none (images i);
  points = h.points;
  damaged = h.damaged;
  hurt = h.hurt;
  begun = h.begun;
  standing = false;
}

-- ---- the run

abbrev pub if_taken : ℕ → History → History → History
if_taken answer h' h = cond (eqb answer 0) h' h

-- a refusal adds nothing; a step answered 50 sends and takes nothing, and nobody fails or trips in it, and ends the group
abbrev pub record_decoded : History → Group → Outcome → Decoded → History
record_decoded h g o Malformed = h
record_decoded h g o Unused = h
record_decoded h g o (Taken s) = if_taken o.answer (note_cuts (observe h g o.group s) g o.group) h

-- "In demand 3 points and returns may stand between the steps": a step record, a point taken and a return, each of these with a name
pub data Operation : Type 0 where
  stepping : List ℕ → Operation
  pointing : List ℕ → Operation
  returning : List ℕ → Operation

abbrev pub steps : List (List ℕ) → List Operation
steps rs = map stepping rs

pub record World : Type 0 where
  pub group : Group
  pub points : Points
  pub history : History

-- the world after a step record, by its outcome, which is handed on so that a closed run computes it once
abbrev pub stepped : World → List ℕ → Outcome → World
stepped w r o = record { group = o.group; points = w.points; history = record_decoded w.history w.group o (decode r) }

unfoldable pub advance : World → Operation → World
advance w (stepping r) = stepped w r (step w.group r)
advance w (pointing name) = record {
  group = w.group;
  points = (take_point w.points w.group name).points;
  history = if_taken (take_point w.points w.group name).answer (note_point w.history name) w.history;
}
advance w (returning name) = record {
  group = (return_to w.points w.group name).group;
  points = w.points;
  history = if_taken (return_to w.points w.group name).answer (note_return (w.history.points name) w.history w.group) w.history;
}

unfoldable pub run : World → List Operation → World
run w [] = w
run w (x ∷ xs) = run (advance w x) xs

-- the group as loaded, with no points and nothing in its history
abbrev pub opening : Group → World
opening g = record { group = g; points = no_points; history = at_start g }
