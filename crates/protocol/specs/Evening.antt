-- The program `evening`: the whole text that it prints for a group file and a plan. A plan has records of nine octets: 0, a step record
-- and two octets 0; or 1 and a name, to take a point; or 2 and a name, to return to one.
use Rattle.std.specs.Prelude.{ℕ, suc, ◌+◌, cond, List, [], ◌∷◌, ◌++◌, map, length, get_or, take, drop, eqb}
use Rattle.points.specs.Points.{no_points}
use Rattle.group.specs.declared.Outcome.{Outcome}
use Rattle.load.specs.Load.{load}
use Rattle.protocol.specs.declared.Site.{Site}
use Rattle.protocol.specs.declared.Turn.{Turn}
use Rattle.protocol.specs.Entry.{step}
use Rattle.protocol.specs.Listing.{Text, ascii, step_word, answer_line, load_line, cab_lines, parts}
use Rattle.protocol.specs.Points.{take_point, return_to}
use Rattle.protocol.specs.History.{Operation, stepping, pointing, returning}

-- ---- operations, with what each is answered

unfoldable pub operate : Site → Operation → Turn
operate s (stepping r) = record {
  answer = (step s.group r).answer;
  site = record { group = (step s.group r).group; points = s.points };
}
operate s (pointing name) = record {
  answer = (take_point s.points s.group name).answer;
  site = record { group = s.group; points = (take_point s.points s.group name).points };
}
operate s (returning name) = record {
  answer = (return_to s.points s.group name).answer;
  site = record { group = (return_to s.points s.group name).group; points = s.points };
}

-- the group and its points after the last operation
unfoldable pub operate_all : Site → List Operation → Site
operate_all s [] = s
operate_all s (x ∷ xs) = operate_all (operate s x).site xs

-- what each is answered
unfoldable pub answers_to : Site → List Operation → List ℕ
answers_to s [] = []
answers_to s (x ∷ xs) = (operate s x).answer ∷ answers_to (operate s x).site xs

-- ---- the records of a plan

-- "Anything else .. answers 8 and changes nothing": so does a step record of no octets
abbrev pub no_operation : Operation
no_operation = stepping []

-- by the first octet; r are the eight behind it
abbrev pub operation_by : ℕ → List ℕ → Operation
operation_by k r =
    cond (eqb k 0) (cond (eqb (get_or r 6 0 + get_or r 7 0) 0) (stepping (take 6 r)) no_operation)
    (cond (eqb k 1) (pointing r)
    (cond (eqb k 2) (returning r) no_operation))

abbrev pub operation_of : List ℕ → Operation
operation_of r = cond (eqb (length r) 9) (operation_by (get_or r 0 0) (drop 1 r)) no_operation

abbrev pub operations : List (List ℕ) → List Operation
operations rs = map operation_of rs

-- "The first 10,000 count"; "a short last record too"
abbrev pub plan_records : ℕ → List ℕ → List (List ℕ)
plan_records n s = parts 9 n s

-- ---- lines

abbrev pub point_word : Text
point_word = ascii "point"

abbrev pub return_word : Text
return_word = ascii "return"

-- "by the first octet, `step` for any other"
abbrev pub word_of : ℕ → Text
word_of k = cond (eqb k 1) point_word (cond (eqb k 2) return_word step_word)

-- a line for each record, the first with the number k
abbrev pub plan_lines : ℕ → List (List ℕ) → List ℕ → Text
plan_lines k [] answers = []
plan_lines k (r ∷ rs) answers = answer_line (word_of (get_or r 0 0)) k (get_or answers 0 0) ++ plan_lines (suc k) rs (drop 1 answers)

-- the operations, and the cabinets after the last
unfoldable pub plan_text : Site → List (List ℕ) → Text
plan_text s rs =
    plan_lines 1 rs (answers_to s (operations rs)) ++ cab_lines (operate_all s (operations rs)).group.n (operate_all s (operations rs)).group

abbrev pub evening_of : Outcome → List ℕ → Text
evening_of o plan =
    cond (eqb o.answer 0) (plan_text (record { group = o.group; points = no_points }) (plan_records 10000 plan)) (load_line o.answer)

unfoldable pub evening : List ℕ → List ℕ → Text
evening file plan = evening_of (load file) plan
