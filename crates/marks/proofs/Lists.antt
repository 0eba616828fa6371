-- Laws on lists: within a list the default does not count, and past its end it is what is read.
use Prim.Native.Nat.{ℕ, zero, suc, ◌<◌}
use mathlib.Core.Path.{◌≡◌, refl}
use mathlib.Core.List.{List, [], ◌∷◌}
use native.Mathlib.Omega.{arith}
use lib.ListN.{length, get_or}

pub get_d_in : {A : Type 0} (l : List A) (i : ℕ) (d e : A) → i < length l → get_or l i d ≡ get_or l i e
get_d_in [] i d e h = absurd (omega arith)
get_d_in (x ∷ l) zero d e h = refl
get_d_in (x ∷ l) (suc i) d e h = get_d_in l i d e (omega arith)
