-- Closed runs of document 02, card 1: recoveries after a return, what points keep, what a return leaves in the store, and what is answered.
use Rattle.std.specs.Prelude.{ℕ, true, false, List, [], ◌∷◌, ◌++◌, map, replicate, Some}
use Rattle.std.proofs.Math.Option.{none, some}
use Rattle.packet.specs.declared.Place.TheVariants.{Failed as AtFailed}
use Rattle.image.specs.declared.Image.{Image}
use Rattle.points.specs.declared.Points.{Points}
use Rattle.points.specs.Points.{no_points, point_at, image_at, place_of}
use Rattle.group.specs.declared.Group.{Group}
use Rattle.group.specs.Group.{home, slot}
use Rattle.load.specs.Load.{load, cabinet_count}
use Rattle.protocol.specs.declared.Site.{Site}
use Rattle.protocol.specs.Listing.{Text, ascii}
use Rattle.protocol.specs.History.{Operation, stepping, pointing, returning, steps}
use Rattle.protocol.specs.Evening.{operate_all, answers_to, evening}
use Rattle.protocol.specs.Marked.{file_of, two_cabinets, send, begin, deliver, restored, fail}
use Rattle.protocol.specs.Examples.{Example, Found, Walk, walk_to_fault, found_from, size_of, for_each, note, writes, saved, fetches, unsure, to_a, image_with, row, row_committed}

-- ---- names and sites

-- eight octets, the last of them k
abbrev pub named : ℕ → List ℕ
named k = replicate 7 32 ++ k ∷ []

-- the group and its points after operations on a loaded file
abbrev pub site_after : List ℕ → List Operation → Site
site_after f xs = operate_all (record { group = (load f).group; points = no_points }) xs

-- the images that the points of some names have; the site is handed on, so that it is computed once
abbrev pub kept_at : ℕ → Points → List (List ℕ) → List (List Image)
kept_at n ps names = map (λ name. for_each n (image_at (point_at ps (place_of ps name)))) names

unfoldable pub kept_in : List ℕ → List Operation → List (List ℕ) → List (List Image)
kept_in f xs names = kept_at (cabinet_count f) (site_after f xs).points names

-- what is found in a run, and what the points of some names have at its fault, in one walk
abbrev pub found_with : Example → List (List ℕ) → Walk → Found × List (List Image)
found_with e names fault = (found_from e fault, kept_at (size_of e) fault.world.points names)

unfoldable pub found_kept : Example → List (List ℕ) → Found × List (List Image)
found_kept e names = found_with e names (walk_to_fault e)

-- slot 0 and slot 1 of each cabinet, as its home has them
abbrev pub store_at : ℕ → Group → List Image
store_at n g = for_each n (λ c. slot g (home g c) c false) ++ for_each n (λ c. slot g (home g c) c true)

unfoldable pub store_in : List ℕ → List Operation → List Image
store_in f xs = store_at (cabinet_count f) (site_after f xs).group

-- ---- 1: a return, and then the coordinator fails: the point comes back, and not the save committed after it was taken

-- a save of the row, and its resume taken
abbrev pub row_saved : List (List ℕ)
row_saved = row_committed ++ deliver 1 2 ∷ deliver 2 3 ∷ []

-- the point has 70, 80 and 20, the second save 70, 88 and 12
abbrev pub row_returned : List Operation
row_returned =
    steps (send 1 2 30 ∷ deliver 1 2 ∷ note 3 31 6 ∷ row_saved)
    ++ pointing (named 65)
    ∷ steps (send 3 2 8 ∷ deliver 3 2 ∷ note 3 31 7 ∷ row_saved)
    ++ returning (named 65) ∷ []

abbrev pub return_first : Example
return_first = record {
  file = row;
  before = row_returned ++ steps (send 1 2 9 ∷ deliver 1 2 ∷ []);
  since =
      steps (fail 1
      ∷ deliver 2 3 ∷ deliver 2 3 ∷ deliver 3 2 ∷ deliver 3 2
      ∷ fetches 2 ++ fetches 3
      ++ restored 3 ∷ []);
  last = stepping (restored 2);
  coordinator = 1;
}

abbrev pub return_first_finds : Found
return_first_finds = record {
  loaded = 0;
  taken = true;
  ended = true;
  place = Some (AtFailed 0);
  committed = 3;
  left = 3;
  begun = true;
  stands = false;
  by = 8;
  took = [] ∷ [] ∷ [] ∷ [];
  standing = image_with 61 0 ∷ image_with 89 0 ∷ image_with 20 6 ∷ [];
  held = none ∷ some (image_with 80 0) ∷ some (image_with 20 6) ∷ [];
  gone = some (image_with 70 0) ∷ none ∷ none ∷ [];
}

-- "A return sets .. both slots of every cabinet to the point's."
abbrev pub row_store : List Image
row_store =
    image_with 70 0 ∷ image_with 80 0 ∷ image_with 20 6
    ∷ image_with 70 0 ∷ image_with 80 0 ∷ image_with 20 6 ∷ []

-- ---- 2: a return, a commit that nobody took, the coordinator's fail: the save passed over gives way to the return

abbrev pub return_stays : Example
return_stays = record {
  file = row;
  before = row_returned ++ steps (send 1 2 9 ∷ deliver 1 2 ∷ row_committed);
  since =
      steps (fail 1
      ∷ deliver 2 3 ∷ deliver 3 2
      ∷ unsure 2 ∷ unsure 3
      ∷ deliver 2 3 ∷ deliver 3 2
      ∷ fetches 2 ++ fetches 3
      ++ restored 3 ∷ []);
  last = stepping (restored 2);
  coordinator = 1;
}

abbrev pub return_stays_finds : Found
return_stays_finds = record {
  loaded = 0;
  taken = true;
  ended = true;
  place = Some (AtFailed 0);
  committed = 4;
  left = 3;
  begun = true;
  stands = false;
  by = 8;
  took = [] ∷ [] ∷ [] ∷ [];
  standing = image_with 61 0 ∷ image_with 89 0 ∷ image_with 20 6 ∷ [];
  held = none ∷ some (image_with 80 0) ∷ some (image_with 20 6) ∷ [];
  gone = some (image_with 70 0) ∷ none ∷ none ∷ [];
}

-- a point after it: the version that 1 failed with names the save passed over, and the note the save restored
abbrev pub point_after_loss : List Operation
point_after_loss =
    return_stays.before ++ return_stays.since ++ return_stays.last
    ∷ steps (deliver 2 3 ∷ deliver 3 2 ∷ []) ++ pointing (named 66) ∷ []

abbrev pub kept_after_loss : List Image
kept_after_loss = image_with 70 0 ∷ image_with 80 0 ∷ image_with 20 6 ∷ []

-- the point before it has the same
abbrev pub row_kept : List (List Image)
row_kept = kept_after_loss ∷ kept_after_loss ∷ []

-- ---- 3: cabinets that failed before the point, between the point and the return, and after the return, each with a later commit

-- 1, the store and home of all, is joined to four others
abbrev pub star : List ℕ
star = file_of 1 (100 ∷ 50 ∷ 40 ∷ 30 ∷ 20 ∷ []) (1 ∷ 2 ∷ 1 ∷ 3 ∷ 1 ∷ 4 ∷ 1 ∷ 5 ∷ [])

-- the same records for each of some cabinets
abbrev pub for_all : List ℕ → (ℕ → List (List ℕ)) → List (List ℕ)
for_all [] f = []
for_all (c ∷ cs) f = f c ++ for_all cs f

-- a save of 1 and the others that are left, and its resume taken
abbrev pub star_saved : List ℕ → List (List ℕ)
star_saved others =
    begin 1 ∷ for_all others (λ c. deliver 1 c ∷ []) ++ for_all others (λ c. deliver c 1 ∷ [])
    ++ writes 1 ++ for_all others writes
    ++ saved 1 ∷ for_all others (λ c. saved c ∷ [])
    ++ for_all others (λ c. deliver 1 c ∷ [])

-- c fails and the others come back; on each line a fault, a recover and a resume
abbrev pub star_lost : ℕ → List ℕ → List (List ℕ)
star_lost c others =
    fail c
    ∷ for_all others (λ d. deliver 1 d ∷ deliver 1 d ∷ deliver d 1 ∷ deliver d 1 ∷ [])
    ++ fetches 1 ++ for_all others fetches
    ++ for_all others (λ d. restored d ∷ []) ++ restored 1
    ∷ for_all others (λ d. deliver 1 d ∷ deliver d 1 ∷ [])

-- up to a second point: 5 is lost with 30, in the first save; 4, after the first point, with 32, in the fourth
abbrev pub star_two_lost : List Operation
star_two_lost =
    steps (send 1 5 10 ∷ deliver 1 5 ∷ star_saved (2 ∷ 3 ∷ 4 ∷ 5 ∷ [])
    ++ star_lost 5 (2 ∷ 3 ∷ 4 ∷ [])
    ++ send 1 4 7 ∷ deliver 1 4 ∷ star_saved (2 ∷ 3 ∷ 4 ∷ []))
    ++ pointing (named 65)
    ∷ steps (send 4 1 5 ∷ deliver 4 1 ∷ star_saved (2 ∷ 3 ∷ 4 ∷ []) ++ star_saved (2 ∷ 3 ∷ 4 ∷ [])
    ++ star_lost 4 (2 ∷ 3 ∷ [])
    ++ send 2 1 6 ∷ deliver 2 1 ∷ star_saved (2 ∷ 3 ∷ []))
    ++ pointing (named 66) ∷ []

abbrev pub first_kept : List Image
first_kept = image_with 83 0 ∷ image_with 50 0 ∷ image_with 40 0 ∷ image_with 37 0 ∷ image_with 30 0 ∷ []

abbrev pub second_kept : List Image
second_kept = image_with 94 0 ∷ image_with 44 0 ∷ image_with 40 0 ∷ image_with 32 0 ∷ image_with 30 0 ∷ []

-- a return to the first point, with later commits and a third point; 3 is lost after it, in the sixth save
abbrev pub return_between : Example
return_between = record {
  file = star;
  before =
      star_two_lost ++ returning (named 65)
      ∷ steps (send 3 1 8 ∷ deliver 3 1 ∷ star_saved (2 ∷ 3 ∷ [])
      ++ star_lost 3 (2 ∷ [])
      ++ send 2 1 9 ∷ deliver 2 1 ∷ star_saved (2 ∷ [])
      -- of this the point knows nothing
      ++ send 1 2 1 ∷ deliver 1 2 ∷ [])
      ++ pointing (named 67) ∷ [];
  since = steps (fail 2 ∷ fetches 1);
  last = stepping (restored 1);
  coordinator = 0;
}

abbrev pub return_between_finds : Found
return_between_finds = record {
  loaded = 0;
  taken = true;
  ended = true;
  place = Some (AtFailed 1);
  committed = 8;
  left = 8;
  begun = true;
  stands = true;
  by = 0;
  took = (to_a 9 ∷ []) ∷ [] ∷ [] ∷ [] ∷ [] ∷ [];
  standing = image_with 99 0 ∷ image_with 42 0 ∷ image_with 32 0 ∷ image_with 37 0 ∷ image_with 30 0 ∷ [];
  held = some (image_with 100 0) ∷ none ∷ none ∷ none ∷ none ∷ [];
  -- 4 had 32 in the save restored after it failed; "its image there is the one that the last return set, after later commits too"
  gone = none ∷ some (image_with 41 0) ∷ some (image_with 32 0) ∷ some (image_with 37 0) ∷ some (image_with 30 0) ∷ [];
}

-- in the third point 4 has what the return set, 3 what it had in the sixth save, and the others have the seventh
abbrev pub last_kept : List Image
last_kept = image_with 100 0 ∷ image_with 41 0 ∷ image_with 32 0 ∷ image_with 37 0 ∷ image_with 30 0 ∷ []

abbrev pub star_kept : List (List Image)
star_kept = first_kept ∷ second_kept ∷ last_kept ∷ []

-- ---- what is answered

-- each operation beside its answer, on a row of two
pub record Asked : Type 0 where
  pub operation : Operation
  pub answer : ℕ

abbrev pub is : Operation → ℕ → Asked
is x k = record { operation = x; answer = k }

abbrev pub asked : List Asked
asked =
    is (returning (named 65)) 21
    ∷ is (pointing (named 65)) 0
    ∷ is (stepping (send 1 2 30)) 0
    -- a packet is on the line; 21 comes before 22
    ∷ is (pointing (named 66)) 22
    ∷ is (returning (named 65)) 22
    ∷ is (returning (named 66)) 21
    ∷ is (stepping (deliver 1 2)) 0
    ∷ is (pointing (named 66)) 0
    ∷ is (pointing (named 67)) 0
    ∷ is (pointing (named 68)) 0
    -- "four names taken already and this is a fifth"; a name used again is none
    ∷ is (pointing (named 69)) 23
    ∷ is (pointing (named 65)) 0
    ∷ is (returning (named 69)) 21
    ∷ is (returning (named 68)) 0
    -- 1 begins a save, and takes both packets of it; 22 comes before 23
    ∷ is (stepping (begin 1)) 0
    ∷ is (stepping (deliver 1 2)) 0
    ∷ is (stepping (deliver 2 1)) 0
    ∷ is (pointing (named 69)) 22
    ∷ is (returning (named 65)) 22
    -- the store fails: "after 10"
    ∷ is (stepping (fail 1)) 50
    ∷ is (pointing (named 69)) 10
    ∷ is (returning (named 69)) 10
    ∷ []

unfoldable pub answers_found : List Asked → List ℕ
answers_found qs = answers_to (record { group = (load (two_cabinets 100 50)).group; points = no_points }) (map (λ (q : Asked). q.operation) qs)

-- ---- what is printed

-- 1 and a name; 0, a step record and two octets 0; the same with another octet; 2 and a name; a short record
abbrev pub small_plan : List ℕ
small_plan =
    1 ∷ named 65 ++ 0 ∷ send 1 2 30 ++ 0 ∷ 0 ∷ 0 ∷ deliver 1 2 ++ 0 ∷ 1 ∷ 0 ∷ deliver 1 2 ++ 0 ∷ 0 ∷ 2 ∷ named 65 ++ 2 ∷ named 66 ++ 3 ∷ named 65
    ++ 1 ∷ 65 ∷ []

unfoldable pub small_evening : Text
small_evening = evening (two_cabinets 100 50) small_plan

abbrev pub small_printed : Text
small_printed =
    ascii "point 1 0\nstep 2 0\nstep 3 8\nstep 4 0\nreturn 5 0\nreturn 6 21\nstep 7 8\npoint 8 8\ncab 1 normal 0 100 0 0\ncab 2 normal 0 50 0 0\n"
