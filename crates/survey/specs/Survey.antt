-- What is asked of all cabinets at once, of the row of them: what `group` asks of the group.
use Rattle.std.specs.Prelude.{Bool, List, [], ◌∷◌, get_or}
use Rattle.cabinet.specs.declared.Cabinet.{Cabinet}
use Rattle.cabinet.specs.Cabinet.{absent}
use Rattle.group.specs.Group.{some}

-- the test holds of one of the eight
abbrev pub any_of : (Cabinet → Bool) → List Cabinet → Bool
any_of f cs =
    some
    (f (get_or cs 0 absent) ∷ f (get_or cs 1 absent) ∷ f (get_or cs 2 absent) ∷ f (get_or cs 3 absent) ∷ f (get_or cs 4 absent) ∷ f (get_or cs 5 absent)
    ∷ f (get_or cs 6 absent) ∷ f (get_or cs 7 absent) ∷ [])
