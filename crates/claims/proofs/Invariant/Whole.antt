-- The facts about the whole group, and the invariant: all facts together. Each group of facts reads only the functions that it names,
-- so that a move which leaves those alone keeps it.
use Rattle.std.specs.Prelude.{Some}
use Prim.Native.Nat.{ℕ, ◌<◌, ◌≤◌}
use mathlib.Core.Path.{◌≡◌}
use mathlib.Core.Logic.{◌≢◌, ◌⊎◌}
use mathlib.Core.Bool.{Bool, true, false, not, ◌&&◌}
use lib.Dec.{eqb}
use Rattle.outlet.specs.declared.Party.{Party}
use Rattle.packet.specs.declared.Place.{Place}
use Rattle.packet.specs.declared.Place.TheVariants.{Failed as AtFailed, Tripped as AtTripped, Link as AtLink}
use Rattle.cabinet.specs.Alarm.{Alarm}
use Rattle.image.specs.declared.Image.{Image}
use Rattle.state.specs.State.{works, is_unknown}
use Rattle.image.specs.Image.{booked}
use Rattle.group.specs.Group.{sum}
use Rattle.claims.proofs.State.View.{View, used}
use Rattle.claims.proofs.State.Leading.{next_over}
use Rattle.claims.proofs.Invariant.Reaching.{Reach}
use Rattle.claims.proofs.Invariant.Facts.{Big, Ghost, Pair, Node, Books, Lead, aware, unaware}

-- ---- who is there, which links stand, and that all are reached (A3, A4, A8, A13)

pub record Ground (n chief heir : ℕ) (alive : Bool) (work tab present : ℕ → Bool) (home : ℕ → ℕ) (lk sound : ℕ → ℕ → Bool) : Type 0 where
  pub most : n ≤ 8
  pub within : (c : ℕ) → tab c ≡ true → c < n
  pub chief_in : tab chief ≡ true
  pub heir_is : heir ≡ next_over tab chief
  pub link_both : (c d : ℕ) → lk c d ≡ lk d c
  pub link_other : (c : ℕ) → lk c c ≡ false
  pub sound_both : (c d : ℕ) → sound c d ≡ sound d c
  pub sound_links : (c d : ℕ) → sound c d ≡ true → lk c d ≡ true
  pub home_present : (c : ℕ) → c < n → present (home c) ≡ true
  pub present_works : (c : ℕ) → present c ≡ true → work c ≡ true
  -- A4: over sound links
  pub reach : Reach work sound
  -- A13: the coordinator is lost: all others work, and without it they are reached over the links of the last recovery's end
  pub others_work : alive ≡ false → (c : ℕ) → tab c ≡ true → c ≢ chief → work c ≡ true
  pub others_reach : alive ≡ false → Reach (λ c. tab c && not (eqb c chief)) lk
  -- .. and there is another
  pub other : alive ≡ false → (j : ℕ) × (j ≢ chief) × (work j ≡ true)

-- ---- fault places (A5, A6)

pub data Place-of (work tab knows : ℕ → Bool) (alarm : ℕ → Alarm) (lk sound : ℕ → ℕ → Bool) : Place → Type 0 where
  failed : (x : ℕ) → tab x ≡ true → work x ≡ false → Place-of work tab knows alarm lk sound (AtFailed x)
  -- a tripped cabinet is in error for its own trip
  tripped : (x : ℕ) → knows x ≡ true → alarm x ≡ Some (AtTripped x) → Place-of work tab knows alarm lk sound (AtTripped x)
  faulty : (x y : ℕ) → x < y → lk x y ≡ true → sound x y ≡ false → Place-of work tab knows alarm lk sound (AtLink x y)

pub record Places (faulted : Bool) (work tab knows : ℕ → Bool) (alarm : ℕ → Alarm) (lk sound : ℕ → ℕ → Bool) : Type 0 where
  pub standing : faulted ≡ false → (c d : ℕ) → lk c d ≡ sound c d
  pub failed_for : (x : ℕ) → tab x ≡ true → work x ≡ false → (c : ℕ) × (knows c ≡ true) × (alarm c ≡ Some (AtFailed x))
  pub faulty_for : (x y : ℕ) → x < y → lk x y ≡ true → sound x y ≡ false → (c : ℕ) × (knows c ≡ true) × (alarm c ≡ Some (AtLink x y))
  pub someone : faulted ≡ true → (c : ℕ) × (knows c ≡ true)
  pub from_one : (c : ℕ) → knows c ≡ true → (p : Place) → alarm c ≡ Some p → Place-of work tab knows alarm lk sound p

-- ---- versions (C5, C6, C8)

pub record Chain (b : Big) (work calm tab joined done wrote known : ℕ → Bool) : Type 0 where
  -- once a cabinet that is aware knows its version, no commit can follow
  pub no_commit : b.frozen ≡ true → (calm b.chief ≡ false) ⊎ ((w : ℕ) × (tab w ≡ true) × (calm w ≡ false) × (wrote w ≡ false))
  pub lives : b.adopted ≡ false → b.alive ≡ true
  pub alone : b.adopted ≡ false → done b.chief ≡ true → (j : ℕ) → work j ≡ true → j ≡ b.chief
  pub company : (j : ℕ) → j ≢ b.chief → work j ≡ true → ((b.faulted ≡ false) × (b.adopted ≡ true)) ⊎ (b.alive ≡ false)
      → (c : ℕ) × (c ≢ b.chief) × (work c ≡ true) × ((known c ≡ true) ⊎ (joined c ≡ true))

-- ---- bookings add up, those of each party by themselves (D6)

pub record Sums (total : Party → ℕ) (adopted : Bool) (base top prev : ℕ → Image) : Type 0 where
  pub least : (y : Party) → total y < 65536
  pub bases : (y : Party) → sum (λ c. booked y (base c)) 8 ≡ total y
  pub tops : (y : Party) → sum (λ c. booked y (top c)) 8 ≡ total y
  pub prevs : adopted ≡ false → (y : Party) → sum (λ c. booked y (prev c)) 8 ≡ total y

-- ---- the functions that these facts read

module _ (v : View) where
  abbrev pub work_of : ℕ → Bool
  work_of c = works (v.own c).state

  abbrev pub alarm_of : ℕ → Alarm
  alarm_of c = (v.own c).alarm

  abbrev pub home_of : ℕ → ℕ
  home_of c = (v.own c).home

  abbrev pub present_of : ℕ → Bool
  present_of c = (v.own c).present

  abbrev pub known_of : ℕ → Bool
  known_of c = not (is_unknown (v.own c).version)

  abbrev pub aware_of : Ghost → ℕ → Bool
  aware_of γ c = aware γ.big (v.own c)

  abbrev pub calm_of : Ghost → ℕ → Bool
  calm_of γ c = unaware γ.big (v.own c)

module _ (γ : Ghost) where
  abbrev pub tab_of : ℕ → Bool
  tab_of c = (γ.mind c).tab

  abbrev pub lk_of : ℕ → ℕ → Bool
  lk_of c d = (γ.wire c d).lk

  abbrev pub out_of : ℕ → Party → ℕ
  out_of c y = sum (λ d. (γ.wire c d).out y) 8

  abbrev pub got_of : ℕ → Party → ℕ
  got_of c y = sum (λ d. (γ.wire d c).got y) 8

-- ---- the invariant

abbrev pub PairAt : View → Ghost → ℕ → ℕ → Type 0
PairAt v γ c d =
    Pair γ.big c d (v.own c) (γ.mind c) (v.own d) (γ.mind d) (v.side c d) (v.side d c) (v.lines c d) (γ.wire c d)

abbrev pub NodeAt : View → Ghost → ℕ → Type 0
NodeAt v γ c = Node γ.big c (v.own c) (γ.mind c) (v.slots c)

abbrev pub LeadAt : View → Ghost → ℕ → Type 0
LeadAt v γ c = Lead γ.big c (v.own c)

abbrev pub BooksAt : View → Ghost → ℕ → Type 0
BooksAt v γ c = Books γ.big (v.own c) (γ.mind c) (out_of γ c) (got_of γ c)

abbrev pub GroundOf : ℕ → View → Ghost → Type 0
GroundOf n v γ =
    Ground n γ.big.chief γ.big.heir γ.big.alive (work_of v) (tab_of γ) (present_of v) (home_of v) (lk_of γ) v.sound

abbrev pub PlacesOf : View → Ghost → Type 0
PlacesOf v γ = Places γ.big.faulted (work_of v) (tab_of γ) (aware_of v γ) (alarm_of v) (lk_of γ) v.sound

-- no working cabinet has a failed neighbour in use
abbrev pub MeetsOf : View → Type 0
MeetsOf v = (c d : ℕ) → work_of v c ≡ true → used (v.side c d) ≡ true → work_of v d ≡ true

abbrev pub ChainOf : View → Ghost → Type 0
ChainOf v γ =
    Chain γ.big (work_of v) (calm_of v γ) (tab_of γ) (λ c. (γ.mind c).joined) (λ c. (γ.mind c).done) (λ c. (γ.mind c).wrote) (known_of v)

abbrev pub SumsOf : (Party → ℕ) → Ghost → Type 0
SumsOf total γ = Sums total γ.big.adopted (λ c. (γ.mind c).base) (λ c. (γ.mind c).top) (λ c. (γ.mind c).prev)

-- what each move keeps by itself
pub record Core (n : ℕ) (total : Party → ℕ) (v : View) (γ : Ghost) : Type 0 where
  pub pairs : (c d : ℕ) → PairAt v γ c d
  pub nodes : (c : ℕ) → NodeAt v γ c
  pub books : (c : ℕ) → BooksAt v γ c
  pub leads : (c : ℕ) → LeadAt v γ c
  pub ground : GroundOf n v γ
  pub chain : ChainOf v γ
  pub sums : SumsOf total γ

-- with the fault places, which a fail leaves open until every neighbour has entered error
pub record Inv (n : ℕ) (total : Party → ℕ) (v : View) (γ : Ghost) : Type 0 where
  pub core : Core n total v γ
  pub places : PlacesOf v γ
  pub meets : MeetsOf v
