-- The save that the rule "Which save" gives, by the number of the operation that made it, as a run keeps it: that number and the one of the save
-- before, its coordinator, and whether a cabinet took its resume or was restored from it. `Numbers` has the number as the history gives it.
use Rattle.std.specs.Prelude.{ℕ, Bool, true, false, cond, not, ◌&&◌, eqb}
use Rattle.state.specs.declared.State.TheVariants.{Normal, Checkpointed, Recovering, Recovered}
use Rattle.cabinet.specs.Cabinet.{coordinator}
use Rattle.group.specs.declared.Group.{Group}
use Rattle.group.specs.Group.{cabinet, home}
use Rattle.protocol.specs.History.{goes, commits}
use Rattle.newest.specs.declared.Sort.{Sort}
use Rattle.newest.specs.declared.Sort.TheVariants.{Delivery, SavedReport, PieceFetched, RestoredReport, Loss, Returning, Other}
use Rattle.newest.specs.declared.Newest.{Newest}

-- the start
abbrev pub start_newest : Newest
start_newest = record { number = 0; before = 0; by = 8; known = true }

-- operation k makes a save: a commit by a coordinator, or a return, which everybody knows
abbrev pub made : Newest → ℕ → ℕ → Bool → Newest
made m k by known = record { number = k; before = m.number; by = by; known = known }

abbrev pub made_if : Bool → Newest → ℕ → ℕ → Newest
made_if true m k by = made m k by false
made_if false m k by = m

-- a cabinet took its resume, or was restored from it
abbrev pub known_if : Bool → Newest → Newest
known_if true m = record { number = m.number; before = m.before; by = m.by; known = true }
known_if false m = m

-- coordinator a fails or trips: "If its coordinator failed before any working cabinet took that resume or was restored from that save, the one
-- before", of which then everybody knows
abbrev pub passed : Newest → ℕ → Newest
passed m a = cond (eqb m.by a && not m.known) (record { number = m.before; before = m.before; by = 8; known = true }) m

-- g is the group before operation k and g' after it
abbrev pub newest_by : Newest → ℕ → Group → Group → Sort → Newest
newest_by m k g g' (Delivery a b) = known_if (goes g g' b Checkpointed Normal) m
newest_by m k g g' (SavedReport a) = let c = coordinator (cabinet g (home g a)) in made_if (commits g g' c) m k c
newest_by m k g g' (PieceFetched a) = known_if (goes g g' a Recovering Recovered) m
newest_by m k g g' (RestoredReport a) = m
newest_by m k g g' (Loss a) = passed m a
newest_by m k g g' Returning = made m k 8 true
newest_by m k g g' Other = m

-- a refusal makes none, nor does a crash
unfoldable pub newest_in : ℕ → Newest → ℕ → Group → Group → Sort → Newest
newest_in answer m k g g' s = cond (eqb answer 0) (newest_by m k g g' s) m
