-- Pairs of runs by computation: what the claim comes to in them, and that no more could be claimed.
use Rattle.std.specs.Prelude.{ℕ, ◌≡◌, true, List, [], ◌∷◌, ◌++◌}
use Rattle.outlet.specs.declared.Outlet.TheVariants.{W}
use Rattle.image.specs.Image.{booking}
use Rattle.group.specs.declared.Group.{Group}
use Rattle.group.specs.Group.{cabinet, slot}
use Rattle.protocol.specs.declared.Site.{Site}
use Rattle.protocol.specs.History.{stepping, steps}
use Rattle.protocol.specs.Evening.{operate_all, answers_to}
use Rattle.protocol.specs.Marked.{two_octets, begin, deliver}
use Rattle.protocol.specs.Workshop.{twins_brief}
use Rattle.protocol.specs.Partners.{file_with, write}
use Rattle.pairs.specs.Covered.{cover, cover_site}
use Rattle.pairs.specs.TwoRuns.{workshop_send, loaded, buses_of}

-- 1 sends for the workshop, 156 × 256 + 64 amperes or 1, and 2 takes them; then 1 sends once more and begins a save, so that its checkp tells of a packet
abbrev pub answers_at : ℕ → ℕ → List ℕ
answers_at high low = answers_to (loaded twins_brief.file) (stepping (workshop_send 1 2 high low) ∷ stepping (deliver 1 2) ∷ stepping (workshop_send 1 2 0 low) ∷ stepping (begin 1) ∷ [])

abbrev pub site_at : ℕ → ℕ → Site
site_at high low = operate_all (loaded twins_brief.file) (stepping (workshop_send 1 2 high low) ∷ stepping (deliver 1 2) ∷ stepping (workshop_send 1 2 0 low) ∷ stepping (begin 1) ∷ [])

abbrev pub ShortPair : Type 0
ShortPair =
    (answers_at 156 64 ≡ 0 ∷ 0 ∷ 0 ∷ 0 ∷ []) × (answers_at 0 1 ≡ 0 ∷ 0 ∷ 0 ∷ 0 ∷ [])
    -- what agrees: all that is not covered, and of 2 the bookings of the buses
    × (cover_site (site_at 156 64) ≡ cover_site (site_at 0 1)) × (buses_of (cabinet (site_at 156 64).group 1).image ≡ buses_of (cabinet (site_at 0 1).group 1).image)
    -- and what differs
    × (booking W (cabinet (site_at 156 64).group 1).image ≡ 40005) × (booking W (cabinet (site_at 0 1).group 1).image ≡ 6)

-- ---- in the store, as both stores of a pair have it (card 10)

-- an entry with a partner and the workshop's booking: home, store mark, outlet A's booking, the workshop's, the partner
abbrev pub entry_with : ℕ → ℕ → ℕ → ℕ → ℕ → List ℕ
entry_with home mark booked workshop partner = home ∷ mark ∷ two_octets booked ++ two_octets 0 ++ two_octets workshop ++ partner ∷ []

-- 1 is home of both and 2 its partner; 2 takes what 1 sends for the workshop, and the first piece of its image goes to both
abbrev pub stored_at : ℕ → ℕ → Site
stored_at high low =
    operate_all (loaded (file_with (entry_with 1 1 100 40000 2 ∷ entry_with 1 1 50 5 1 ∷ []) (1 ∷ 2 ∷ [])))
    (steps (workshop_send 1 2 high low ∷ deliver 1 2 ∷ begin 1 ∷ deliver 1 2 ∷ deliver 2 1 ∷ write 2 ∷ []))

-- the workshop's booking of 2 in slot 1, as 1 has it and as 2 has it
abbrev pub workshop_saved : Group → ℕ × ℕ
workshop_saved g = (booking W (slot g 0 1 true), booking W (slot g 1 1 true))

abbrev pub StoredPair : Type 0
StoredPair =
    (workshop_saved (stored_at 156 64).group ≡ (40005, 40005)) × (workshop_saved (stored_at 0 1).group ≡ (6, 6))
    -- it is covered in both
    × (workshop_saved (cover (stored_at 156 64).group) ≡ (0, 0)) × (workshop_saved (cover (stored_at 0 1).group) ≡ (0, 0))
