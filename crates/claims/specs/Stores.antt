-- Document 02, card 10: what holds in every run of homes, of the two copies of a slot, and of who is present.
use Rattle.std.specs.Prelude.{ℕ, ◌-◌, ◌<◌, ◌≡◌, Bool, true, false, cond, not, ◌&&◌, List, [], ◌∷◌, eqb}
use Rattle.state.specs.State.{works}
use Rattle.store.specs.Store.{is_store, is_present}
use Rattle.store.specs.Served.{Served}
use Rattle.group.specs.Group.{state_of, home, is_crashed}
use Rattle.load.specs.Load.{load, cabinet_count}
use Rattle.protocol.specs.declared.Step.{Step}
use Rattle.protocol.specs.declared.Step.TheVariants.{Send, Note, Begin, Deliver, Write, Saved, Fetch, Restored, Fail, Damage, Lose, Trip, Unsure}
use Rattle.protocol.specs.declared.Decoded.{Decoded}
use Rattle.protocol.specs.declared.Decoded.TheVariants.{Malformed, Unused, Taken}
use Rattle.protocol.specs.Entry.{decode, step}
use Rattle.protocol.specs.History.{upd, Operation, stepping, pointing, returning, World, advance, opening}
use Rattle.protocol.specs.Restored.{Octets, AllOctets, world_after}

-- "Pieces go to both while both work": where both stores of a pair are present they have the same slots; and what else `Served` says
abbrev pub StoresServe : Type 0
StoresServe = (f : List ℕ) → Octets f → (load f).answer ≡ 0 → (xs : List Operation) → AllOctets xs → Served (world_after f xs).group.store

-- "each cabinet has one store cabinet as its home": one that is present, and works
abbrev pub HomesWork : Type 0
HomesWork =
    (f : List ℕ) → Octets f → (load f).answer ≡ 0 → (xs : List Operation) → AllOctets xs → is_crashed (world_after f xs).group ≡ false
    → (c : ℕ) → c < cabinet_count f
    → (is_present (world_after f xs).group.store (home (world_after f xs).group c) ≡ true) × (works (state_of (world_after f xs).group (home (world_after f xs).group c)) ≡ true)

-- ---- who is present

-- the cabinets that have tripped and not yet reported restored, by the steps taken: an answer and its step, after those before
abbrev pub away_by : (ℕ → Bool) → Step → ℕ → Bool
away_by away (Send a b p q) = away
away_by away (Note a p q) = away
away_by away (Begin a) = away
away_by away (Deliver a b) = away
away_by away (Write a) = away
away_by away (Saved a) = away
away_by away (Fetch a) = away
away_by away (Restored a) = upd away (a - 1) false
away_by away (Fail a) = away
away_by away (Damage a b p w) = away
away_by away (Lose a b p) = away
away_by away (Trip a) = upd away (a - 1) true
away_by away (Unsure a) = away

abbrev pub note_away : (ℕ → Bool) → ℕ → Decoded → ℕ → Bool
note_away away k Malformed = away
note_away away k Unused = away
note_away away k (Taken s) = cond (eqb k 0) (away_by away s) away

unfoldable pub away_from : World → (ℕ → Bool) → List Operation → ℕ → Bool
away_from w away [] = away
away_from w away (stepping r ∷ xs) = away_from (advance w (stepping r)) (note_away away (step w.group r).answer (decode r)) xs
away_from w away (pointing name ∷ xs) = away_from (advance w (pointing name)) away xs
away_from w away (returning name ∷ xs) = away_from (advance w (returning name)) away xs

abbrev pub away_after : List ℕ → List Operation → ℕ → Bool
away_after f xs = away_from (opening (load f).group) (λ i. false) xs

-- The mark in the store says of every cabinet whether it is a store that works and is not away.
abbrev pub PresentAsSaid : Type 0
PresentAsSaid =
    (f : List ℕ) → Octets f → (load f).answer ≡ 0 → (xs : List Operation) → AllOctets xs → is_crashed (world_after f xs).group ≡ false
    → (i : ℕ) → is_present (world_after f xs).group.store i
    ≡ (is_store (world_after f xs).group.store i && (works (state_of (world_after f xs).group i) && not (away_after f xs i)))
