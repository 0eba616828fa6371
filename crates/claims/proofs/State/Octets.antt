-- What a list of octets is cut into holds octets.
use Prim.Native.Nat.{ℕ, zero, suc}
use mathlib.Core.Bool.{Bool, true, false, cond}
use mathlib.Core.List.{List, [], ◌∷◌, map}
use lib.ListN.{length, take, drop}
use lib.Dec.{eqb}
use native.Mathlib.Omega.{arith}
use Rattle.protocol.specs.Listing.{parts}
use Rattle.protocol.specs.History.{Operation}
use Rattle.protocol.specs.Restored.{Octets, OctetsIn, AllOctets}

pub octets_take : (n : ℕ) (l : List ℕ) → Octets l → Octets (take n l)
octets_take zero l o i = omega arith
octets_take (suc n) [] o i = omega arith
octets_take (suc n) (x ∷ l) o zero = o zero
octets_take (suc n) (x ∷ l) o (suc i) = octets_take n l (λ j. o (suc j)) i

pub octets_drop : (n : ℕ) (l : List ℕ) → Octets l → Octets (drop n l)
octets_drop zero l o = o
octets_drop (suc n) [] o = o
octets_drop (suc n) (x ∷ l) o = octets_drop n l (λ i. o (suc i))

-- of the operations that the parts of a list stand for
module _ (f : List ℕ → Operation) (each : (r : List ℕ) → Octets r → OctetsIn (f r)) (w : ℕ) where
  pub parts_octets : (n : ℕ) (l : List ℕ) → Octets l → AllOctets (map f (parts w n l))
  unfolding parts
  parts_octets zero l o = tt
  parts_octets (suc n) l o = go (eqb (length l) 0) (parts_octets n (drop w l) (octets_drop w l o))
    where
      go : (t : Bool) → AllOctets (map f (parts w n (drop w l))) → AllOctets (map f (cond t [] (take w l ∷ parts w n (drop w l))))
      go true r = tt
      go false r = (each (take w l) (octets_take w l o), r)
