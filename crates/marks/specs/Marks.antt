-- Eight marks, one for each cabinet: the lowest one marked, those wanted and had, those in both, in either or in one alone, the next one up.
-- `lowest`, `covers`, `both`, `either`, `without` and `next_up` stay shut unless unfolded, so that a caller's goal names them and does not spell them out.
use Rattle.std.specs.Prelude.{ℕ, zero, suc, ◌+◌, List, [], ◌∷◌, Bool, true, false, cond, not, ◌&&◌, ◌||◌, get_or, replicate, ltb}

abbrev pub Marks : Type 0
Marks = List Bool

abbrev pub no_marks : Marks
no_marks = replicate 8 false

abbrev pub marked : Marks → ℕ → Bool
marked m i = get_or m i false

-- the lowest number that passes the test, of the n from i on; 8 where none does
abbrev pub lowest_from : (ℕ → Bool) → ℕ → ℕ → ℕ
lowest_from test zero i = 8
lowest_from test (suc n) i = cond (test i) i (lowest_from test n (i + 1))

-- the lowest number marked, 8 where none is
unfoldable pub lowest : Marks → ℕ
lowest m = lowest_from (marked m) 8 0

-- each of the first n that is wanted is had
abbrev pub covers_to : ℕ → Marks → Marks → Bool
covers_to zero h w = true
covers_to (suc n) h w = covers_to n h w && (not (marked w n) || marked h n)

-- every one of the eight that is wanted is had
unfoldable pub covers : Marks → Marks → Bool
covers h w = covers_to 8 h w

-- cabinet i is marked in both
abbrev pub in_both : Marks → Marks → ℕ → Bool
in_both a b i = marked a i && marked b i

-- the marks that stand in both
unfoldable pub both : Marks → Marks → Marks
both a b =
    in_both a b 0 ∷ in_both a b 1 ∷ in_both a b 2 ∷ in_both a b 3 ∷ in_both a b 4 ∷ in_both a b 5 ∷ in_both a b 6 ∷ in_both a b 7 ∷ []

-- the marks that stand in either
abbrev pub in_either : Marks → Marks → ℕ → Bool
in_either a b i = marked a i || marked b i

unfoldable pub either : Marks → Marks → Marks
either a b =
    in_either a b 0 ∷ in_either a b 1 ∷ in_either a b 2 ∷ in_either a b 3 ∷ in_either a b 4 ∷ in_either a b 5 ∷ in_either a b 6 ∷ in_either a b 7 ∷ []

-- the marks of a that do not stand in b
abbrev pub in_first : Marks → Marks → ℕ → Bool
in_first a b i = marked a i && not (marked b i)

unfoldable pub without : Marks → Marks → Marks
without a b =
    in_first a b 0 ∷ in_first a b 1 ∷ in_first a b 2 ∷ in_first a b 3 ∷ in_first a b 4 ∷ in_first a b 5 ∷ in_first a b 6 ∷ in_first a b 7 ∷ []

-- the numbers above x
abbrev pub above : ℕ → Marks
above x = ltb x 0 ∷ ltb x 1 ∷ ltb x 2 ∷ ltb x 3 ∷ ltb x 4 ∷ ltb x 5 ∷ ltb x 6 ∷ ltb x 7 ∷ []

-- the number i, or where that is none the lowest marked
abbrev pub or_lowest : ℕ → Marks → ℕ
or_lowest i m = cond (ltb i 8) i (lowest m)

-- "the next higher number .., after the highest the lowest": of those marked, the next one after x
unfoldable pub next_up : Marks → ℕ → ℕ
next_up m x = or_lowest (lowest (both m (above x))) m
