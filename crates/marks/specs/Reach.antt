-- Rows of marks, one row for each cabinet: a link struck, and who is reached from the lowest working cabinet.
-- `struck` and `connected` stay shut unless unfolded, as those of Marks do.
use Rattle.std.specs.Prelude.{ℕ, zero, suc, List, [], ◌∷◌, Bool, true, false, cond, not, ◌&&◌, ◌||◌, get_or, set, ltb}
use Rattle.marks.specs.Marks.{Marks, marked, no_marks, lowest_from, lowest, covers}

abbrev pub Rows : Type 0
Rows = List Marks

-- cabinet i has a mark for j
abbrev pub mark : Rows → ℕ → ℕ → Bool
mark rows i j = get_or (get_or rows i []) j false

-- i's mark for j is cleared
abbrev pub cleared : Rows → ℕ → ℕ → Rows
cleared rows i j = set rows i (set (get_or rows i []) j false)

-- the link between a and b is struck, both ways; nothing changes where a number is out of range
unfoldable pub struck : Rows → ℕ → ℕ → Rows
struck rows a b = cleared (cleared rows a b) b a

-- one of the first n is seen and has a mark for j
abbrev pub touched : ℕ → Rows → Marks → ℕ → Bool
touched zero rows seen j = false
touched (suc n) rows seen j = touched n rows seen j || (marked seen n && mark rows n j)

-- j works, is not yet seen, and a seen one has a mark for it
abbrev pub fresh : Rows → Marks → Marks → ℕ → Bool
fresh rows working seen j = marked working j && (not (marked seen j) && touched 8 rows seen j)

-- the lowest fresh one, 8 where none is
abbrev pub next : Rows → Marks → Marks → ℕ
next rows working seen = lowest_from (fresh rows working seen) 8 0

-- the lowest fresh one is seen too, again and again, until none is fresh
abbrev pub spread : ℕ → Rows → Marks → Marks → Marks
spread zero rows working seen = seen
spread (suc n) rows working seen =
    cond (ltb (next rows working seen) 8) (spread n rows working (set seen (next rows working seen) true)) seen

-- how many are not yet seen
abbrev pub unseen : Marks → ℕ
unseen [] = 0
unseen (true ∷ seen) = unseen seen
unseen (false ∷ seen) = suc (unseen seen)

-- just the lowest working one, or none where none works
abbrev pub first : Marks → Marks
first working = set no_marks (lowest working) true

-- those reached from the lowest working one by stepping from working neighbour to working neighbour
abbrev pub reached : Rows → Marks → Marks
reached rows working = spread 8 rows working (first working)

-- every working cabinet is reached from the lowest working one
unfoldable pub connected : Rows → Marks → Bool
connected rows working = covers (reached rows working) working
