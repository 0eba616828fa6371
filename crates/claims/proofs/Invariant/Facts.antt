-- The invariant behind demand 3, as named facts about one cabinet, an ordered pair of cabinets and the whole group.
-- Letters: A tables and places, B progress in a save, C versions, D what a save holds, E the store, F reports, G lines.
use Rattle.std.specs.Prelude.{None, Some}
use Prim.Native.Nat.{ℕ, ◌+◌, ◌*◌, ◌<◌, ◌≤◌}
use mathlib.Core.Path.{◌≡◌}
use mathlib.Core.Logic.{◌≢◌, ◌⊎◌}
use mathlib.Core.Bool.{Bool, true, false, cond, not, ◌&&◌, ◌||◌}
use mathlib.Core.List.{List, [], ◌∷◌, ◌++◌}
use lib.ListN.{length, get_or, take, drop}
use lib.Dec.{eqb}
use Rattle.outlet.specs.declared.Party.{Party}
use Rattle.packet.specs.declared.Check.{Check}
use Rattle.packet.specs.declared.Payload.{Payload}
use Rattle.packet.specs.declared.Place.{Place}
use Rattle.packet.specs.declared.Place.TheVariants.{Tripped as AtTripped}
use Rattle.packet.specs.declared.Packet.{Packet}
use Rattle.packet.specs.declared.Packet.TheVariants.{Empty, Normal as NormalPacket, Checkp, Resume, Recover, Fault, Invalid}
use Rattle.packet.specs.Packet.{start_check, step_check, fits}
use Rattle.state.specs.declared.State.TheVariants.{Normal, CheckpBegin, Checkpointing, Checkpointed, Error, Recovering, Recovered, Crashed}
use Rattle.state.specs.declared.Version.{Version}
use Rattle.state.specs.declared.Version.TheVariants.{Known, Unknown, Lost}
use Rattle.image.specs.declared.Image.{Image}
use Rattle.state.specs.State.{is_in, works, in_recovery, in_saving, is_unknown, bit_of}
use Rattle.image.specs.Image.{booked}
use Rattle.image.proofs.Laws.{share}
use Rattle.table.specs.Table.{is_at}
use Rattle.claims.proofs.State.View.{Own, Side, used}
use Rattle.claims.proofs.State.Shape.{Pictured}
use Rattle.claims.proofs.State.Methods.{hits_cabinet, hits_link}

-- ---- the ghost: what the proof remembers of the run

-- of the whole group
pub record Big : Type 0 where
  -- some cabinet entered error since the last recovery's end
  pub faulted : Bool
  -- the version value that names the save which the rule gives, and whether some cabinet took its resume or was restored from it
  pub topv : Bool
  pub adopted : Bool
  -- the coordinator of the last recovery's end, who leads after it, whether it is not lost (it has neither failed nor tripped since) and
  -- whether it has joined the save under way
  pub chief : ℕ
  pub heir : ℕ
  pub alive : Bool
  pub begun : Bool
  -- some cabinet that is aware of the fault has known its version
  pub frozen : Bool
  -- no damage and no loss, and no damage to a normal packet of a party, since the last recovery's end
  pub calm : Bool
  pub clean : Party → Bool

-- of a cabinet
pub record Mind : Type 0 where
  -- in use at the last recovery's end
  pub tab : Bool
  -- how far it is in the save under way: begun, cut, written, reported saved
  pub joined : Bool
  pub done : Bool
  pub wrote : Bool
  pub told : Bool
  -- it has reported restored
  pub ready : Bool
  -- its images at its cut, at the last recovery's end, in the save that the rule gives and in the one before
  pub cut : Image
  pub base : Image
  pub top : Image
  pub prev : Image

-- of an ordered pair
pub record Wire : Type 0 where
  -- the packets sent and taken since the last recovery's end, and how many of them a comparison has covered
  pub sent : List Payload
  pub taken : List Payload
  pub ver : ℕ
  -- each party's amperes sent and taken since the images of `base` were
  pub out : Party → ℕ
  pub got : Party → ℕ
  -- a normal packet of the line was hurt, damaged or lost, since the last recovery's end
  pub hurt : Bool
  -- the link was in use at the last recovery's end
  pub lk : Bool

pub record Ghost : Type 0 where
  pub big : Big
  pub mind : ℕ → Mind
  pub wire : ℕ → ℕ → Wire

-- ---- words

abbrev pub aware : Big → Own → Bool
aware b o = b.faulted && in_recovery o.state

abbrev pub unaware : Big → Own → Bool
unaware b o = works o.state && not (aware b o)

abbrev pub linked : Mind → Mind → Wire → Bool
linked m n w = w.lk && (m.tab && n.tab)

-- waits for a resume
abbrev pub behind : Big → Own → Mind → Bool
behind b o m = unaware b o && ((is_in o.state Checkpointed && not m.joined) || is_in o.state Recovered)

-- d has c's checkp of the save under way, or has cut: what c sent before it is all there
abbrev pub closed : Big → Own → Mind → Side → Bool
closed b p n t = n.done || (is_in p.state CheckpBegin && (unaware b p && t.come))

-- ---- packets of a line

abbrev pub amount_of : Packet → List Payload → List Payload
amount_of Empty l = l
amount_of (NormalPacket p) l = p ∷ l
amount_of (Checkp v) l = l
amount_of Resume l = l
amount_of (Recover v) l = l
amount_of (Fault p) l = l
amount_of Invalid l = l

unfoldable pub amounts_in : List Packet → List Payload
amounts_in [] = []
amounts_in (p ∷ l) = amount_of p (amounts_in l)

abbrev pub is_fault : Packet → Bool
is_fault Empty = false
is_fault (NormalPacket p) = false
is_fault (Checkp v) = false
is_fault Resume = false
is_fault (Recover v) = false
is_fault (Fault p) = true
is_fault Invalid = false

abbrev pub is_checkp : Packet → Bool
is_checkp Empty = false
is_checkp (NormalPacket p) = false
is_checkp (Checkp v) = true
is_checkp Resume = false
is_checkp (Recover v) = false
is_checkp (Fault p) = false
is_checkp Invalid = false

abbrev pub is_safe : Packet → Bool
is_safe Empty = false
is_safe (NormalPacket p) = false
is_safe (Checkp v) = true
is_safe Resume = true
is_safe (Recover v) = true
is_safe (Fault p) = true
is_safe Invalid = true

abbrev pub is_invalid : Packet → Bool
is_invalid Empty = false
is_invalid (NormalPacket p) = false
is_invalid (Checkp v) = false
is_invalid Resume = false
is_invalid (Recover v) = false
is_invalid (Fault p) = false
is_invalid Invalid = true

-- how many packets pass a test
unfoldable pub count : (Packet → Bool) → List Packet → ℕ
count f [] = 0
count f (p ∷ l) = cond (f p) 1 0 + count f l

-- a checkp stands only at the end
unfoldable pub checkp_last : List Packet → Type 0
checkp_last [] = Unit {0}
checkp_last (p ∷ l) = (is_checkp p ≡ true → l ≡ []) × checkp_last l

-- before any normal or checkp there is a resume or an invalid
abbrev pub resumes : Packet → Bool → Bool
resumes Empty r = false
resumes (NormalPacket p) r = false
resumes (Checkp v) r = false
resumes Resume r = true
resumes (Recover v) r = r
resumes (Fault p) r = false
resumes Invalid r = true

unfoldable pub resume_first : List Packet → Bool
resume_first [] = false
resume_first (p ∷ l) = resumes p (resume_first l)

-- ---- logs and check values

-- a register after a list of packets, and one that started before them
unfoldable pub check_from : Check → List Payload → Check
check_from c [] = c
check_from c (p ∷ l) = check_from (step_check c p) l

unfoldable pub check_of : List Payload → Check
check_of l = check_from start_check l

-- every amount has two octets
unfoldable pub Amounts : List Payload → Type 0
Amounts [] = Unit {0}
Amounts (p ∷ l) = (p.amount < 65536) × Amounts l

-- every packet fits its own check, if it carries one
unfoldable pub Fitting : List Payload → Type 0
Fitting [] = Unit {0}
Fitting (p ∷ l) = (fits p ≡ true) × Fitting l

-- the part of a packet's amount that is a party's: all of it or nothing
abbrev pub part : Party → Payload → ℕ
part y p = share y p.outlet p.amount

-- a party's amounts of a log, added up
unfoldable pub amount : Party → List Payload → ℕ
amount y [] = 0
amount y (p ∷ l) = part y p + amount y l

-- nothing, for either party
abbrev pub nothing : Party → ℕ
nothing y = 0

-- what damage leaves of a packet: another amount for the same outlet where it carries no check, and else one that does not fit
pub data Hurt : Payload → Payload → Type 0 where
  amount_changed : {p q : Payload} → p.own ≡ None → q.own ≡ None → p.outlet ≡ q.outlet → p.amount ≢ q.amount → Hurt p q
  unfit : {p q : Payload} → fits q ≡ false → Hurt p q

-- equal, or different in exactly one place, by a packet that is hurt or one left out
pub data Differ : Bool → List Payload → List Payload → Type 0 where
  same : {l : List Payload} → Differ false l l
  here : {p q : Payload} {l : List Payload} → Hurt p q → Differ true (p ∷ l) (q ∷ l)
  missing : {p : Payload} {l : List Payload} → Differ true (p ∷ l) l
  later : {b : Bool} {p : Payload} {k l : List Payload} → Differ b k l → Differ b (p ∷ k) (p ∷ l)

-- G5: what is sent after the last comparison, beside what is taken after it or still on the way
pub record Stream (waiting hurt : Bool) (put took : Check) (w : Wire) (l : List Packet) : Type 0 where
  pub equal : take w.ver w.sent ≡ take w.ver w.taken
  pub within : w.ver ≤ length w.taken
  pub within_sent : w.ver ≤ length w.sent
  pub differ : Differ hurt (drop w.ver w.sent) (drop w.ver w.taken ++ amounts_in l)
  pub reads : took ≡ check_of (drop w.ver w.taken)
  pub writes : put ≡ cond waiting start_check (check_of (drop w.ver w.sent))
  pub carries : (v : Check) (k : List Packet) → l ≡ k ++ (Checkp v ∷ []) → v ≡ check_of (drop w.ver w.sent)
  -- D8: the amperes that are not taken are on the way, unless a packet is hurt
  pub on_way : hurt ≡ false → (y : Party) → w.out y ≡ w.got y + amount y (amounts_in l)
  -- the mark tells of all that was hurt since the last recovery's end
  pub tells : hurt ≡ w.hurt

-- G1: the line out of an aware cabinet: its fault and its recover, or what is left of them
pub record Alarms (x : Version) (q : Place) (l : List Packet) : Type 0 where
  pub faults : Bool
  pub recovers : Bool
  pub value : Bool
  pub is : l ≡ cond faults (Fault q ∷ []) [] ++ cond recovers (Recover value ∷ []) []
  pub knows : recovers ≡ true → x ≡ Known value

-- ---- facts about an ordered pair, from c to d; s is c's side towards d, t is d's towards c

pub record Pair (b : Big) (c d : ℕ) (o : Own) (m : Mind) (p : Own) (n : Mind) (s t : Side) (l : List Packet) (w : Wire) : Type 0 where
  -- A1, A2
  pub table : unaware b o ≡ true → (s.cab ≡ n.tab) × (s.link ≡ w.lk)
  pub struck : aware b o ≡ true → (q : Place) → o.alarm ≡ Some q
      → (s.cab ≡ (n.tab && not (hits_cabinet q d))) × (s.link ≡ (w.lk && not (hits_link q c d)))
  -- D2
  pub closed_joined : linked m n w ≡ true → closed b p n t ≡ true → m.joined ≡ true
  pub closed_equal : linked m n w ≡ true → closed b p n t ≡ true → b.alive ≡ true → (w.sent ≡ w.taken) × (w.out ≡ w.got) × (w.hurt ≡ false)
  pub closed_empty : linked m n w ≡ true → closed b p n t ≡ true → unaware b o ≡ true → l ≡ []
  -- D3
  pub apart : linked m n w ≡ false → (w.sent ≡ []) × (w.taken ≡ []) × (w.out ≡ nothing) × (w.got ≡ nothing) × (w.hurt ≡ false)
  -- F1, F2, F4
  pub owes : s.owed ≡ true → (n.wrote ≡ true) × (n.told ≡ false) × (unaware b o ≡ true)
  pub owes_home : s.owed ≡ true → p.home ≡ c
  pub reported : c ≡ b.chief → in_saving o.state ≡ true → unaware b o ≡ true → s.saved ≡ true → (n.wrote ≡ true) × (n.told ≡ true)
  pub begun_bare : c ≡ b.chief → is_in o.state CheckpBegin ≡ true → unaware b o ≡ true → s.saved ≡ false
  pub readied : aware b o ≡ true → s.restored ≡ true → n.ready ≡ true
  pub ready_heard : n.ready ≡ true → used t ≡ true → t.heard ≡ true
  -- G0
  pub silent : (works o.state && (works p.state && used s)) ≡ false → l ≡ []
  -- G1
  pub alarms : aware b o ≡ true → (q : Place) → o.alarm ≡ Some q → Alarms o.version q l
  pub unheard : aware b o ≡ true → (used s && used t) ≡ true → works p.state ≡ true → (aware b p && t.heard) ≡ false
      → (q : Place) → o.alarm ≡ Some q → (k : List Packet) × (l ≡ Fault q ∷ k)
  pub heard : (aware b p && t.heard) ≡ true → count is_fault l ≡ 0
  -- G2
  pub heard_of : (aware b p && t.heard) ≡ true → (aware b o ≡ true) × (o.alarm ≡ p.alarm)
  -- G3
  pub no_fault : unaware b o ≡ true → count is_fault l ≡ 0
  pub no_checkp : unaware b o ≡ true → m.joined ≡ false → count is_checkp l ≡ 0
  pub last_checkp : unaware b o ≡ true → checkp_last l
  pub behind_empty : behind b o m ≡ true → (l ≡ []) ⊎ ((v : Bool) × (is_in o.state Recovered ≡ true) × (l ≡ Recover v ∷ []))
  -- G4
  pub resumed : linked m n w ≡ true → unaware b o ≡ true → behind b o m ≡ false → behind b p n ≡ true → resume_first l ≡ true
  -- past its cut a cabinet has had every checkp, and a recovered one has heard every neighbour
  pub came : linked m n w ≡ true → unaware b p ≡ true → in_saving p.state ≡ true → t.come ≡ true
  pub tail_heard : linked m n w ≡ true → unaware b p ≡ true → is_in p.state Recovered ≡ true → t.heard ≡ true
  -- G5
  pub stream : linked m n w ≡ true → unaware b o ≡ true → unaware b p ≡ true
      → Stream (m.joined && not (n.joined && t.come)) t.hurt s.put t.took w l
  -- G6
  pub fresh : aware b o ≡ true → is_in o.state Recovered ≡ true → (s.put ≡ start_check) × (s.took ≡ start_check) × (s.hurt ≡ false)
  -- G7
  pub room : unaware b o ≡ true → count is_safe l ≤ 2 + cond m.joined 1 0
  -- G8, and what damage and loss have not touched
  pub sound : b.calm ≡ true → count is_invalid l ≡ 0
  pub unhurt : b.calm ≡ true → unaware b p ≡ true → t.hurt ≡ false
  -- W: of a party no more is taken or on the way than was sent; a loss leaves less
  pub no_more : (y : Party) → b.clean y ≡ true → w.got y + amount y (amounts_in l) ≤ w.out y
  pub small : Amounts w.sent × (Amounts w.taken × Amounts (amounts_in l))
  -- G10
  pub fit : Fitting w.sent × Fitting w.taken

-- ---- facts about one cabinet; z are its slots in the store

-- the first k octets of two images are the same
abbrev pub SameTo : ℕ → Image → Image → Type 0
SameTo k x y = (i : ℕ) → i < k → get_or x.octets i 0 ≡ get_or y.octets i 0

pub record Node (b : Big) (c : ℕ) (o : Own) (m : Mind) (z : Bool → Image) : Type 0 where
  -- A3
  pub placed : works o.state ≡ true → m.tab ≡ true
  pub present : b.faulted ≡ false → m.tab ≡ true → works o.state ≡ true
  pub running : is_in o.state Crashed ≡ false
  pub quiet : b.faulted ≡ false → (is_in o.state Error ≡ false) × (is_in o.state Recovering ≡ false)
  pub place_known : aware b o ≡ true → (q : Place) × (o.alarm ≡ Some q)
  -- B
  pub in_normal : unaware b o ≡ true → o.state ≡ Normal → m.joined ≡ false
  pub in_begin : unaware b o ≡ true → o.state ≡ CheckpBegin → (m.joined ≡ true) × (m.done ≡ false) × (o.pieces ≡ 0)
  pub in_checkpointing : unaware b o ≡ true → o.state ≡ Checkpointing → (m.done ≡ true) × (m.wrote ≡ false) × (o.pieces < 4)
  pub in_checkpointed : unaware b o ≡ true → o.state ≡ Checkpointed → (m.joined ≡ false) ⊎ (m.wrote ≡ true)
  pub chief_saved : unaware b o ≡ true → o.state ≡ Checkpointed → c ≡ b.chief → m.joined ≡ true
  pub in_recovered : unaware b o ≡ true → o.state ≡ Recovered → (m.joined ≡ false) × (c ≢ b.chief) × (b.calm ≡ true)
  pub in_error : aware b o ≡ true → o.state ≡ Error → o.pieces ≡ 0
  pub in_recovering : aware b o ≡ true → o.state ≡ Recovering → (o.pieces < 4) × SameTo (8 * o.pieces) o.image m.top
  pub restored : aware b o ≡ true → o.state ≡ Recovered → (o.image ≡ m.top) × (b.adopted ≡ true)
  pub ready_is : m.ready ≡ true → (aware b o ≡ true) × (o.state ≡ Recovered)
  pub told_wrote : m.told ≡ true → m.wrote ≡ true
  pub wrote_done : m.wrote ≡ true → m.done ≡ true
  pub done_joined : m.done ≡ true → m.joined ≡ true
  pub joined_tab : m.joined ≡ true → m.tab ≡ true
  pub joined_begun : m.joined ≡ true → b.begun ≡ true
  pub chief_begun : c ≡ b.chief → m.joined ≡ b.begun
  -- C1 to C4
  pub known : works o.state ≡ true → (v : Bool) → o.version ≡ Known v → v ≡ b.topv
  pub unknown_at : unaware b o ≡ true → is_unknown o.version ≡ (is_in o.state Checkpointed && not (eqb c b.chief))
  pub unknown_aware : aware b o ≡ true → is_unknown o.version ≡ is_in o.state Error
  pub old_joined : works o.state ≡ true → (v : Bool) → o.version ≡ Unknown v → m.joined ≡ true → (m.wrote ≡ true) × (v ≡ b.topv)
  pub old_before : works o.state ≡ true → (v : Bool) → o.version ≡ Unknown v → m.joined ≡ false → v ≡ not b.topv
  pub knows : aware b o ≡ true → is_unknown o.version ≡ false → b.frozen ≡ true
  -- C6
  pub waits : b.adopted ≡ false → c ≢ b.chief → works o.state ≡ true → (m.joined ≡ false) × (unaware b o ≡ true → o.state ≡ Checkpointed)
  -- D5, D7
  pub cut_image : b.alive ≡ true → m.done ≡ true → unaware b o ≡ true → o.image ≡ m.cut
  pub gone : m.tab ≡ false → (m.base ≡ m.top) × (b.adopted ≡ false → m.prev ≡ m.top)
  -- E1 to E3: of failed cabinets too, until the recovery ends; the coordinator writes over the save before once it has its cut
  pub slot_top : m.tab ≡ true → z b.topv ≡ m.top
  pub slot_prev : b.adopted ≡ false → m.tab ≡ true → (c ≡ b.chief → m.done ≡ false) → z (not b.topv) ≡ m.prev
  pub slot_cut : b.alive ≡ true → m.wrote ≡ true → z (not b.topv) ≡ m.cut
  pub slot_pieces : b.alive ≡ true → unaware b o ≡ true → o.state ≡ Checkpointing → SameTo (8 * o.pieces) (z (not b.topv)) m.cut
  -- E5: once the recovery from its fail has ended, a failed cabinet's version names the slot that has its image
  pub noted : m.tab ≡ false → z (bit_of o.version) ≡ m.top
  -- images have their 32 octets
  pub sizes : Pictured m.cut × (Pictured m.top × Pictured m.prev)

-- ---- who leads; c is the cabinet and o what it holds of itself

pub record Lead (b : Big) (c : ℕ) (o : Own) : Type 0 where
  -- A1, A2: the lead moves on where the fault is the coordinator
  pub steady : unaware b o ≡ true → o.lead ≡ b.chief
  pub moved : aware b o ≡ true → (q : Place) → o.alarm ≡ Some q
      → (o.former ≡ is_at q b.chief) × (o.lead ≡ cond (is_at q b.chief) b.heir b.chief)
  -- a coordinator that is not lost works, and is in error for another fault than its own trip
  pub lives : c ≡ b.chief → b.alive ≡ true → (works o.state ≡ true) × (aware b o ≡ true → o.alarm ≡ Some (AtTripped c) → ⊥)
  pub fallen : c ≡ b.chief → b.alive ≡ false → unaware b o ≡ false
  -- a version with no old one is that of a cabinet that is aware, and of the coordinator where that is lost
  pub blank : works o.state ≡ true → o.version ≡ Lost → (aware b o ≡ true) × (b.alive ≡ false → c ≡ b.chief)

-- ---- what a cabinet has booked for each party; out is the sum of what it sent since `base`, got that of what it took

pub record Books (b : Big) (o : Own) (m : Mind) (out got : Party → ℕ) : Type 0 where
  -- D4
  pub bounded : (y : Party) → out y ≤ booked y m.base + got y
  pub live : unaware b o ≡ true → (y : Party) → (k : ℕ) × (booked y o.image + out y + 65536 * k ≡ booked y m.base + got y)
  -- D5
  pub at_cut : b.alive ≡ true → m.done ≡ true → (y : Party) → (k : ℕ) × (booked y m.cut + out y + 65536 * k ≡ booked y m.base + got y)
