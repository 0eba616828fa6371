-- Document 02, card 7: "Version 2 files have a sixth header number, 2 .., and offsets two higher; version 1 files load as before. A file of one
-- version is never read as the other."
use Rattle.std.specs.Prelude.{ℕ, ◌+◌, ◌-◌, ◌*◌, ◌<◌, ◌≡◌, true, cond, List, length, get_or, eqb, ltb}
use Rattle.outlet.specs.declared.Outlet.TheVariants.{A, B, W}
use Rattle.packet.specs.declared.PacketVersion.{PacketVersion}
use Rattle.packet.specs.declared.PacketVersion.TheVariants.{One, Two}
use Rattle.marks.specs.Reach.{mark}
use Rattle.image.specs.Image.{booking}
use Rattle.store.specs.Store.{file_home, is_store, partner}
use Rattle.group.specs.declared.Group.{Group}
use Rattle.group.specs.Group.{cabinet, rows_of}
use Rattle.load.specs.Load.{number, load}

-- where the cabinet table of a version stands: "10", and "two higher"
abbrev pub table_start : PacketVersion → ℕ
table_start One = 10
table_start Two = 12

-- .. and its link entry k
abbrev pub link_start : PacketVersion → List ℕ → ℕ → ℕ
link_start v f k = table_start v + 9 * number f 0 + 2 * k

-- the partner that an octet names, numbered from 0, and 8 for none
abbrev pub partner_named : ℕ → ℕ
partner_named p = cond (ltb 0 p) (p - 1) 8

-- "a sixth header number, 2"
abbrev pub SixthNumber : PacketVersion → List ℕ → Type 0
SixthNumber One f = Unit {0}
SixthNumber Two f = number f 10 ≡ 2

-- the header and the length are those of a file of version v
pub record Written (v : PacketVersion) (f : List ℕ) : Type 0 where
  pub cabinets : number f 4 ≡ table_start v
  pub links : number f 6 ≡ table_start v + 9 * number f 0
  pub total : number f 8 ≡ table_start v + 9 * number f 0 + 2 * number f 2
  pub whole : length f ≡ table_start v + 9 * number f 0 + 2 * number f 2
  pub sixth : SixthNumber v f

-- the group has the packet version v, and each entry is read at v's offsets: cabinets, and the links, of which it has no other
pub record Read (v : PacketVersion) (f : List ℕ) (g : Group) : Type 0 where
  pub version : g.packets ≡ v
  pub count : g.n ≡ number f 0
  pub home : (i : ℕ) → i < g.n → file_home g.store i ≡ get_or f (table_start v + 9 * i) 0 - 1
  pub store : (i : ℕ) → i < g.n → is_store g.store i ≡ eqb (get_or f (table_start v + 9 * i + 1) 0) 1
  pub booked_a : (i : ℕ) → i < g.n → booking A (cabinet g i).image ≡ number f (table_start v + 9 * i + 2)
  pub booked_b : (i : ℕ) → i < g.n → booking B (cabinet g i).image ≡ number f (table_start v + 9 * i + 4)
  pub booked_w : (i : ℕ) → i < g.n → booking W (cabinet g i).image ≡ number f (table_start v + 9 * i + 6)
  pub partner : (i : ℕ) → i < g.n → partner g.store i ≡ partner_named (get_or f (table_start v + 9 * i + 8) 0)
  pub linked : (k : ℕ) → k < number f 2 → mark (rows_of g.links) (get_or f (link_start v f k) 0 - 1) (get_or f (link_start v f k + 1) 0 - 1) ≡ true
  pub only : (i j : ℕ) → i < j → mark (rows_of g.links) i j ≡ true
      → (k : ℕ) × (k < number f 2) × (get_or f (link_start v f k) 0 ≡ i + 1) × (get_or f (link_start v f k + 1) 0 ≡ j + 1)

-- ---- the claims

-- no file is written in both versions
abbrev pub OneVersion : Type 0
OneVersion = (f : List ℕ) → Written One f → Written Two f → ⊥

-- a file that loads is written in one of them, and is read as what it is
abbrev pub ReadAsWritten : Type 0
ReadAsWritten =
    (f : List ℕ) → (load f).answer ≡ 0 → Written (load f).group.packets f × Read (load f).group.packets f (load f).group

-- so one that is written in version v and loads is read as v
abbrev pub NeverAsOther : Type 0
NeverAsOther = (v : PacketVersion) (f : List ℕ) → Written v f → (load f).answer ≡ 0 → Read v f (load f).group
