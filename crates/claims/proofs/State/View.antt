-- A group seen as functions of cabinet numbers: what the invariant of demand 3 speaks of. List lengths and empty cells stay behind
-- the view. What a cabinet holds of itself is its `Own`, what it holds of another cabinet is its `Side` towards that one.
use Prim.Native.Nat.{ℕ}
use mathlib.Core.Bool.{Bool, cond, not, ◌&&◌}
use mathlib.Core.List.{List}
use lib.ListN.{get_or}
use Rattle.marks.specs.Marks.{marked}
use Rattle.marks.specs.Reach.{mark}
use Rattle.packet.specs.declared.Check.{Check}
use Rattle.packet.specs.declared.Packet.{Packet}
use Rattle.packet.specs.Packet.{start_check}
use Rattle.state.specs.declared.State.{State}
use Rattle.state.specs.declared.Version.{Version}
use Rattle.cabinet.specs.Alarm.{Alarm}
use Rattle.image.specs.declared.Image.{Image}
use Rattle.cabinet.specs.declared.Cabinet.{Cabinet}
use Rattle.group.specs.declared.Group.{Group}
use Rattle.store.specs.Store.{is_present}
use Rattle.group.specs.Group.{cabinet, line, home, slot, rows_of}
use Rattle.protocol.specs.History.{upd}
pub use Rattle.claims.specs.Bounds.{packet_of}
unfoldable pub use Rattle.claims.specs.Bounds.{content}

pub record Own : Type 0 where
  pub state : State
  pub version : Version
  pub alarm : Alarm
  pub pieces : ℕ
  pub image : Image
  pub home : ℕ
  pub present : Bool
  pub lead : ℕ
  pub former : Bool

pub record Side : Type 0 where
  pub cab : Bool
  pub link : Bool
  pub come : Bool
  pub saved : Bool
  pub restored : Bool
  pub heard : Bool
  pub unsure : Bool
  pub owed : Bool
  pub hurt : Bool
  pub put : Check
  pub took : Check

-- the home that serves a cabinet and whether it is itself a store that is present are told by the store
abbrev pub own_of : ℕ → Bool → Cabinet → Own
own_of h p c = record {
  state = c.phase.state;
  version = c.phase.version;
  alarm = c.phase.alarm;
  pieces = c.noted.pieces;
  image = c.image;
  home = h;
  present = p;
  lead = c.table.lead;
  former = c.noted.former;
}

abbrev pub side_of : Cabinet → ℕ → Side
side_of c j = record {
  cab = marked c.table.cabinets j;
  link = marked c.table.links j;
  come = marked c.noted.come j;
  saved = marked c.noted.saved j;
  restored = marked c.noted.restored j;
  heard = marked c.noted.heard j;
  unsure = marked c.noted.unsure j;
  owed = marked c.owed j;
  hurt = marked c.registers.hurt j;
  put = get_or c.registers.sent j start_check;
  took = get_or c.registers.taken j start_check;
}

-- the line towards the other is in use
abbrev pub used : Side → Bool
used s = s.link && s.cab

pub record View : Type 0 where
  pub own : ℕ → Own
  pub side : ℕ → ℕ → Side
  pub lines : ℕ → ℕ → List Packet
  pub slots : ℕ → Bool → Image
  pub sound : ℕ → ℕ → Bool

abbrev pub own_in : Group → ℕ → Cabinet → Own
own_in g i c = own_of (home g i) (is_present g.store i) c

-- of a cabinet's slots the copy is seen that its home has
abbrev pub view : Group → View
view g = record {
  own = λ i. own_in g i (cabinet g i);
  side = λ i. side_of (cabinet g i);
  lines = λ a b. content (line g a b).cells;
  slots = λ c. slot g (home g c) c;
  sound = mark (rows_of g.sound);
}

-- ---- the stores

abbrev pub set_cabinet : View → ℕ → Own → (ℕ → Side) → View
set_cabinet v i o s = record { own = upd v.own i o; side = upd v.side i s; lines = v.lines; slots = v.slots; sound = v.sound }

abbrev pub set_lines : View → ℕ → (ℕ → List Packet) → View
set_lines v i f = record { own = v.own; side = v.side; lines = upd v.lines i f; slots = v.slots; sound = v.sound }

abbrev pub set_line : View → ℕ → ℕ → List Packet → View
set_line v a b l = set_lines v a (upd (v.lines a) b l)

abbrev pub same : Bool → Bool → Bool
same a b = cond a b (not b)

abbrev pub set_slot : View → ℕ → Bool → Image → View
set_slot v i x m = record {
  own = v.own;
  side = v.side;
  lines = v.lines;
  slots = upd v.slots i (λ y. cond (same x y) m (v.slots i y));
  sound = v.sound;
}

abbrev pub set_sound : View → (ℕ → ℕ → Bool) → View
set_sound v s = record { own = v.own; side = v.side; lines = v.lines; slots = v.slots; sound = s }
