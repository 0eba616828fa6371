-- Document 02, card 8: "It must be what the history says of that cabinet at its entry into error."
use Rattle.std.specs.Prelude.{ℕ, ◌≤◌, ◌≡◌, List, None}
use Rattle.std.proofs.Math.Option.{some}
use Rattle.settled.specs.Settled.{Settled}
use Rattle.group.specs.Group.{with_settled}
use Rattle.load.specs.Load.{load}
use Rattle.protocol.specs.declared.Site.{Site}
use Rattle.protocol.specs.Listing.{records}
use Rattle.protocol.specs.Evening.{operate, answers_to}
use Rattle.protocol.specs.History.{Operation, steps, World, advance, run}
use Rattle.protocol.specs.Restored.{Octets, AllOctets, world_after}
use Rattle.protocol.specs.Word.{numbers_of, which_word, word_line, word, account_after, said}

-- After every list of operations from a file that loads, the group answers to the question what the history says: 10, 24, or the first
-- cabinet that entered recovering in the latest recovery in which one has, with the reason that it had at its entry into error.
abbrev pub WordOfHistory : Type 0
WordOfHistory =
    (f : List ℕ) → Octets f → (load f).answer ≡ 0 → (xs : List Operation) → AllOctets xs
    → numbers_of (which_word (world_after f xs).group) ≡ said (world_after f xs).group (account_after f xs)

-- One of the four reasons always fits who is the first: nobody is it by a recover packet.
abbrev pub IsReason : ℕ → Type 0
IsReason r = (1 ≤ r) × (r ≤ 4)

abbrev pub ReasonsFit : Type 0
ReasonsFit =
    (f : List ℕ) → Octets f → (load f).answer ≡ 0 → (xs : List Operation) → AllOctets xs → (i r : ℕ) → (account_after f xs).first ≡ some (i, r)
    → IsReason r

-- And what the program `word` prints for two files of octets, of which the group file loads, is the line of what the history says.
abbrev pub LineOfHistory : Type 0
LineOfHistory =
    (f list : List ℕ) → Octets f → Octets list → (load f).answer ≡ 0
    → word f list ≡ word_line (said (world_after f (steps (records 10000 list))).group (account_after f (steps (records 10000 list))))

-- ---- who reads the note

-- a world with another note in its group; a world but for the note
abbrev pub with_note : World → Settled → World
with_note w s = record { group = with_settled w.group s; points = w.points; history = w.history }

abbrev pub unnoted : World → World
unnoted w = with_note w None

-- its group and points
abbrev pub site_of : World → Site
site_of w = record { group = w.group; points = w.points }

-- Nothing but the question reads the note: with any other an operation is answered the same, and leaves the same world but for the note.
abbrev pub Unread : Type 0
Unread =
    (w : World) (s : Settled) (x : Operation)
    → ((operate (site_of (with_note w s)) x).answer ≡ (operate (site_of w) x).answer) × (unnoted (advance (with_note w s) x) ≡ unnoted (advance w x))

-- So it is for every list of operations.
abbrev pub UnreadEver : Type 0
UnreadEver =
    (w : World) (s : Settled) (xs : List Operation)
    → (answers_to (site_of (with_note w s)) xs ≡ answers_to (site_of w) xs) × (unnoted (run (with_note w s) xs) ≡ unnoted (run w xs))
