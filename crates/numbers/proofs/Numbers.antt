-- The claim of `Numbers`: at every moment of every run from a loaded file both give one number.
use Prim.Native.Nat.{ℕ, suc}
use mathlib.Core.Path.{◌≡◌}
use mathlib.Core.List.{List, [], ◌∷◌}
use Rattle.outlet.specs.declared.Party.{Party}
use Rattle.load.specs.Load.{load, feeder_total}
use Rattle.protocol.specs.History.{Operation, World, advance, run, opening}
use Rattle.protocol.specs.Restored.{Octets, AllOctets}
use Rattle.claims.proofs.Claims.Demand.{Good, one_more, every_list}
use Rattle.newest.specs.declared.Newest.{Newest}
use Rattle.newest.specs.Newest.{start_newest}
use Rattle.numbers.specs.Numbers.{number_of, numbers_after, newest_after, numbers_from, newest_from, KeptAsNumbered}
use Rattle.numbers.proofs.Follows.{Follows, follows_start, follows}

-- at the opening all is good
pub good_opening : (f : List ℕ) → Octets f → (load f).answer ≡ 0 → Good (feeder_total f) (opening (load f).group)
unfolding run
good_opening f o e = every_list f o e [] tt

-- from a world with which what is kept goes along, over every list
kept_on : (total : Party → ℕ) (xs : List Operation) → AllOctets xs → (w : World) → Good total w → (k : ℕ) (m : Newest) (ns : List ℕ)
    → Follows m ns w.history → (newest_from k w m xs).number ≡ number_of (numbers_from k w ns xs)
kept_on total [] o w good k m ns f = f.number
kept_on total (x ∷ xs) o w good k m ns f =
    kept_on total xs o.1 (advance w x) (one_more total w good x o.0).0 (suc k) (newest_after k w x m) (numbers_after k w (advance w x) ns)
    (follows total w good x k m ns f)

pub kept_as_numbered : KeptAsNumbered
kept_as_numbered f o e xs ox =
    kept_on (feeder_total f) xs ox (opening (load f).group) (good_opening f o e) 1 start_newest [] (follows_start (load f).group)
