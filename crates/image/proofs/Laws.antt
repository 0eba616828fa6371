-- What a change of an image does to its bookings, and to what it books.
use Rattle.std.proofs.Common.{◌≡◌, ℕ, zero, suc, ◌+◌, ◌-◌, ◌*◌, ◌/◌, ◌%◌, ◌<◌, ◌≤◌, Bool, true, false, cond, ◌⊎◌, List, [], ◌∷◌, length, get_or, set, refl, ap, ◌∙◌, inl, inr, arith, length-set, get_or-set_other, get_or-set_same}
use Rattle.outlet.specs.declared.Outlet.{Outlet}
use Rattle.outlet.specs.declared.Outlet.TheVariants.{A, B, W}
use Rattle.outlet.specs.declared.Party.{Party}
use Rattle.outlet.specs.declared.Party.TheVariants.{Buses, Workshop}
use Rattle.outlet.specs.Outlet.{party_of, same_party}
use Rattle.image.specs.declared.Image.{Image}
use Rattle.image.specs.Image.{booking_at, booking, booked, with_booking, charged, credited, first_note, with_octet}

pub booking_within : (o : Outlet) (m : Image) → booking o m ≤ booked (party_of o) m
booking_within A m = omega arith
booking_within B m = omega arith
booking_within W m = omega arith

-- ---- one booking written

-- two neighbouring octets replaced: they hold the new number, and all others what they held
module _ (l : List ℕ) (at v : ℕ) where
  abbrev after : List ℕ
  after = set (set l at (v / 256)) (at + 1) (v % 256)

  pair_same : at + 1 < length l → get_or after at 0 * 256 + get_or after (at + 1) 0 ≡ v
  pair_same room =
      let one = length-set l at (v / 256) in
      let high = get_or-set_other (set l at (v / 256)) (at + 1) at (v % 256) 0 (omega arith) ∙ get_or-set_same l at (v / 256) 0 (omega arith) in
      let low = get_or-set_same (set l at (v / 256)) (at + 1) (v % 256) 0 (omega arith) in
      omega (arith, high, low)

  pair_other : (k : ℕ) → (k ≡ at → ⊥) → (k ≡ at + 1 → ⊥) → get_or after k 0 ≡ get_or l k 0
  pair_other k n m = get_or-set_other (set l at (v / 256)) (at + 1) k (v % 256) 0 m ∙ get_or-set_other l at k (v / 256) 0 n

-- it is the one that is read
pub booking_same : (o : Outlet) (m : Image) (v : ℕ) → length m.octets ≡ 32 → booking o (with_booking m o v) ≡ v
booking_same A m v long = pair_same m.octets 0 v (omega arith)
booking_same B m v long = pair_same m.octets 2 v (omega arith)
booking_same W m v long = pair_same m.octets 4 v (omega arith)

-- the others' stay
module _ (m : Image) (v : ℕ) where
  apart_from : (at k : ℕ) → (at + 1 < k) ⊎ (k + 1 < at)
      → get_or (after m.octets at v) k 0 * 256 + get_or (after m.octets at v) (k + 1) 0 ≡ get_or m.octets k 0 * 256 + get_or m.octets (k + 1) 0
  apart_from at k (inl l) =
      omega (arith, pair_other m.octets at v k (λ e. omega arith) (λ e. omega arith), pair_other m.octets at v (k + 1) (λ e. omega arith) (λ e. omega arith))
  apart_from at k (inr l) =
      omega (arith, pair_other m.octets at v k (λ e. omega arith) (λ e. omega arith), pair_other m.octets at v (k + 1) (λ e. omega arith) (λ e. omega arith))

  pub booking_other : (o other : Outlet) → (o ≡ other → ⊥) → booking other (with_booking m o v) ≡ booking other m
  booking_other A A n = absurd (n refl)
  booking_other A B n = apart_from 0 2 (inl (omega arith))
  booking_other A W n = apart_from 0 4 (inl (omega arith))
  booking_other B A n = apart_from 2 0 (inr (omega arith))
  booking_other B B n = absurd (n refl)
  booking_other B W n = apart_from 2 4 (inl (omega arith))
  booking_other W A n = apart_from 4 0 (inr (omega arith))
  booking_other W B n = apart_from 4 2 (inr (omega arith))
  booking_other W W n = absurd (n refl)

distinct : (o other : Outlet) → (booking_at o ≡ booking_at other → ⊥) → o ≡ other → ⊥
distinct o other n e = n (ap booking_at e)

-- ---- what an amount is to a party: all of it or nothing

-- the part of an amount for an outlet that is a party's
abbrev pub share : Party → Outlet → ℕ → ℕ
share y o q = cond (same_party (party_of o) y) q 0

booked_with : (y : Party) (o : Outlet) (m : Image) (v : ℕ) → length m.octets ≡ 32 → booked y (with_booking m o v) + share y o (booking o m) ≡ booked y m + share y o v
booked_with Buses A m v long = omega (arith, booking_same A m v long, booking_other m v A B (distinct A B (λ e. omega arith)))
booked_with Buses B m v long = omega (arith, booking_same B m v long, booking_other m v B A (distinct B A (λ e. omega arith)))
booked_with Buses W m v long = omega (arith, booking_other m v W A (distinct W A (λ e. omega arith)), booking_other m v W B (distinct W B (λ e. omega arith)))
booked_with Workshop A m v long = omega (arith, booking_other m v A W (distinct A W (λ e. omega arith)))
booked_with Workshop B m v long = omega (arith, booking_other m v B W (distinct B W (λ e. omega arith)))
booked_with Workshop W m v long = omega (arith, booking_same W m v long)

-- ---- what an image books, after a send, a packet taken and a note

-- what is sent is no longer booked
pub booked_charged : (y : Party) (o : Outlet) (m : Image) (q : ℕ) → length m.octets ≡ 32 → q ≤ booking o m → booked y (charged m o q) + share y o q ≡ booked y m
booked_charged y o m q long covered = go (same_party (party_of o) y) (booked_with y o m (booking o m - q) long)
  where
    go : (t : Bool) → booked y (charged m o q) + cond t (booking o m) 0 ≡ booked y m + cond t (booking o m - q) 0 → booked y (charged m o q) + cond t q 0 ≡ booked y m
    go true e = omega (arith, e, covered)
    go false e = omega (arith, e)

-- what is taken is booked, up to a multiple of 65,536
pub booked_credited : (y : Party) (o : Outlet) (m : Image) (q : ℕ) → length m.octets ≡ 32
    → (k : ℕ) × (booked y (credited m o q) + 65536 * k ≡ booked y m + share y o q)
booked_credited y o m q long = go (same_party (party_of o) y) (booked_with y o m ((booking o m + q) % 65536) long)
  where
    go : (t : Bool) → booked y (credited m o q) + cond t (booking o m) 0 ≡ booked y m + cond t ((booking o m + q) % 65536) 0
        → (k : ℕ) × (booked y (credited m o q) + 65536 * k ≡ booked y m + cond t q 0)
    go true e = ((booking o m + q) / 65536, omega (arith, e))
    go false e = (0, omega (arith, e))

-- a note changes no booking
pub booking_noted : (o : Outlet) (m : Image) (p v : ℕ) → first_note ≤ p → booking o (with_octet m p v) ≡ booking o m
booking_noted A m p v noted =
    omega (arith, get_or-set_other m.octets p 0 v 0 (omega arith), get_or-set_other m.octets p 1 v 0 (omega arith))
booking_noted B m p v noted =
    omega (arith, get_or-set_other m.octets p 2 v 0 (omega arith), get_or-set_other m.octets p 3 v 0 (omega arith))
booking_noted W m p v noted =
    omega (arith, get_or-set_other m.octets p 4 v 0 (omega arith), get_or-set_other m.octets p 5 v 0 (omega arith))

pub booked_noted : (y : Party) (m : Image) (p v : ℕ) → first_note ≤ p → booked y (with_octet m p v) ≡ booked y m
booked_noted Buses m p v noted = omega (arith, booking_noted A m p v noted, booking_noted B m p v noted)
booked_noted Workshop m p v noted = booking_noted W m p v noted

-- ---- an image of octets stays one

abbrev pub Small : Image → Type 0
Small m = (i : ℕ) → get_or m.octets i 0 < 256

small_set : (l : List ℕ) (p v : ℕ) → v < 256 → ((i : ℕ) → get_or l i 0 < 256) → (i : ℕ) → get_or (set l p v) i 0 < 256
small_set [] p v below small i = small i
small_set (x ∷ l) zero v below small zero = below
small_set (x ∷ l) zero v below small (suc i) = small (suc i)
small_set (x ∷ l) (suc p) v below small zero = small zero
small_set (x ∷ l) (suc p) v below small (suc i) = small_set l p v below (λ j. small (suc j)) i

pub octet_small : (m : Image) (p v : ℕ) → v < 256 → Small m → Small (with_octet m p v)
octet_small m p v below small = small_set m.octets p v below small

pub booking_small : (o : Outlet) (m : Image) (v : ℕ) → v < 65536 → Small m → Small (with_booking m o v)
booking_small o m v below small =
    octet_small (with_octet m (booking_at o) (v / 256)) (booking_at o + 1) (v % 256) (omega arith)
    (octet_small m (booking_at o) (v / 256) (omega arith) small)

booking_lt : (o : Outlet) (m : Image) → Small m → booking o m < 65536
booking_lt A m small = omega (arith, small 0, small 1)
booking_lt B m small = omega (arith, small 2, small 3)
booking_lt W m small = omega (arith, small 4, small 5)

pub charged_small : (o : Outlet) (m : Image) (q : ℕ) → Small m → Small (charged m o q)
charged_small o m q small = booking_small o m (booking o m - q) (omega (arith, booking_lt o m small)) small

pub credited_small : (o : Outlet) (m : Image) (q : ℕ) → Small m → Small (credited m o q)
credited_small o m q small = booking_small o m ((booking o m + q) % 65536) (omega arith) small

pub length_booking : (o : Outlet) (m : Image) (v : ℕ) → length (with_booking m o v).octets ≡ length m.octets
length_booking o m v = length-set (set m.octets (booking_at o) (v / 256)) (booking_at o + 1) (v % 256) ∙ length-set m.octets (booking_at o) (v / 256)

pub length_charged : (o : Outlet) (m : Image) (q : ℕ) → length (charged m o q).octets ≡ length m.octets
length_charged o m q = length_booking o m (booking o m - q)

pub length_credited : (o : Outlet) (m : Image) (q : ℕ) → length (credited m o q).octets ≡ length m.octets
length_credited o m q = length_booking o m ((booking o m + q) % 65536)
