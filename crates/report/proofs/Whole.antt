-- The whole text, by the answer of the load, and demand 3 of the run that it lists.
use Prim.Native.Nat.{ℕ, ◌+◌, ◌*◌, ◌/◌, ◌≤◌, ◌<◌, ◌^◌, min}
use mathlib.Core.Path.{◌≡◌, sym, ap, subst, ◌∙◌}
use mathlib.Core.List.{List, ◌++◌}
use native.Mathlib.Nat.{zero-add, mul-le-mul_right}
use native.Mathlib.Omega.{arith, min_cases}
use lib.ListN.{length, take, length-take, length-append}
use lib.Seq.{sets, length-sets, take_all}
use Rattle.points.specs.Points.{no_points}
use Rattle.group.specs.declared.Outcome.{Outcome}
use Rattle.load.specs.Load.{load}
use Rattle.protocol.specs.Listing.{Text, load_line, step_lines, cab_lines, parts, records, run_lines, listing}
use Rattle.protocol.specs.History.{steps}
use Rattle.buffer.specs.Written.{Written}
use Rattle.buffer.proofs.Texts.{then, place_added, stored_sets, at_start}
use Rattle.protocol.specs.Entry.{step_all, answers_from}
use Rattle.replay.specs.Replay.{records_in, replayed, answers_of, EndsWell}
use Rattle.steps.proofs.Records.{enough, first_parts, count}
use Rattle.replay.proofs.Steps.{each_answered, steps_groups, steps_answers}
use Rattle.replay.proofs.Moments.{answer_of, loaded, unloaded, group_of}
use Rattle.report.proofs.Lines.{load_length, steps_length, cabs_length}

-- ---- the records that a text is made of

pub within : (m : ℕ) {used n : ℕ} → used ≡ min n m → used ≤ n
within m {used} {n} u = min_cases n m _ (λ l q. omega arith) (λ l q. omega arith)

pub limited : (n : ℕ) {used m : ℕ} → used ≡ min n m → used ≤ m
limited n {used} {m} u = min_cases n m _ (λ l q. omega arith) (λ l q. omega arith)

pub no_more : {n : ℕ} (l : List ℕ) → n ≤ length l → length l ≡ 10000 → length (take n l) ≤ 10000
no_more {n} l h e = omega (arith, length-take n l)

part : (most : ℕ) {used : ℕ} (list : List ℕ) → used ≡ min (length list) most → take used list ≡ take most list
part most {used} list u =
    min_cases (length list) most _
    (λ l q. rw (u, q) (take_all (length list) list (omega arith) ∙ sym (take_all most list l)))
    (λ l q. rw (u, q))

-- all parts of the octets that are used are the first n of the list
pub the_parts : (w n : ℕ) {used : ℕ} (list : List ℕ) → 0 < w → used ≡ min (length list) (w * n)
    → parts w (length (take used list)) (take used list) ≡ parts w n list
the_parts w n {used} list p u =
    let whole : List ℕ = take (w * n) list in
    let room : 1 * length whole ≤ w * length whole = mul-le-mul_right (length whole) p in
    ap (λ (l : List ℕ). parts w (length l) l) (part (w * n) list u)
    ∙ enough w (length whole) n whole (omega arith) (omega (arith, length-take (w * n) list))
    ∙ first_parts w n list p

how_many : {used : ℕ} (list : List ℕ) → used ≡ min (length list) 60000 → (used + 5) / 6 ≡ length (records 10000 list)
how_many {used} list u =
    sym (ap length (sym (first_parts 6 10000 list (omega arith))) ∙ count 10000 (take 60000 list) (omega (arith, length-take 60000 list))
    ∙ ap (λ (n : ℕ). (n + 5) / 6) (ap length (sym (part 60000 list u)) ∙ length-take used list ∙ min_cases (length list) 60000 _ (λ l q. omega arith) (λ l q. omega arith)))

-- ---- the text

-- a text written from the start, of a bounded length
pub exactly : (most : ℕ) {text whole before after : List ℕ} {end : ℕ} → most < 2 ^ 64 → text ≡ whole → length text ≤ most
    → Written text 0 before end after → (end ≡ length whole) × ((after ≡ sets before 0 whole) × (end ≤ most))
exactly most {text} {whole} {before} {after} {end} m e h w =
    let at-end : end ≡ length text = w.ends ∙ place_added 0 text (omega arith) ∙ zero-add (length text) in
    rw (← e) (at-end, (w.stored ∙ stored_sets 0 text before (omega arith), omega arith))

module _ (file list : List ℕ) {used : ℕ} (u : used ≡ min (length list) 60000) {o : Outcome} (e : o ≡ replayed file (steps (records_in (take used list)))) where
  abbrev rs : List (List ℕ)
  rs = records 10000 list

  pub run_of : o ≡ replayed file (steps rs)
  run_of = e ∙ ap (λ (r : List (List ℕ)). replayed file (steps r)) (the_parts 6 10000 list (omega arith) u)

  module _ (z : o.answer ≡ 0) where
    pub last : o.group ≡ step_all (load file).group rs
    last = group_of file (steps rs) run_of z ∙ sym (steps_groups rs (load file).group no_points)

    told : {answers : List ℕ} (room : List ℕ) → length answers ≡ 10000 → answers ≡ sets room 0 (answers_of file (steps (records_in (take used list))))
        → take ((used + 5) / 6) answers ≡ answers_from (load file).group rs
    told {answers} room l s =
        let said : List ℕ = answers_from (load file).group rs in
        let n : length said ≡ (used + 5) / 6 = each_answered rs (load file).group ∙ sym (how_many list u) in
        let a : answers ≡ sets room 0 said =
        s ∙ ap (λ (r : List (List ℕ)). sets room 0 (answers_of file (steps r))) (the_parts 6 10000 list (omega arith) u)
        ∙ rw (loaded file (steps rs) run_of z) (ap (sets room 0) (sym (steps_answers rs (load file).group no_points))) in
        let r : length room ≡ length answers = sym (ap length a ∙ length-sets room 0 said) in
        rw (← n, a) (at_start said room (omega (arith, limited (length list) u)))

    lines : listing file list ≡ step_lines 1 (answers_from (load file).group rs) ++ cab_lines (step_all (load file).group rs).n (step_all (load file).group rs)
    unfolding listing run_lines
    lines = rw (loaded file (steps rs) run_of z)

    pub accepted : {answers before mid after : List ℕ} {at end : ℕ} (room : List ℕ) → length answers ≡ 10000
        → answers ≡ sets room 0 (answers_of file (steps (records_in (take used list))))
        → Written (step_lines 1 (take ((used + 5) / 6) answers)) 0 before at mid → Written (cab_lines o.group.n o.group) at mid end after → o.group.n ≤ 255
        → (end ≡ length (listing file list)) × ((after ≡ sets before 0 (listing file list)) × (end ≤ 200000))
    accepted {answers} room l s v w n =
        let steps : Text = step_lines 1 (take ((used + 5) / 6) answers) in
        let cabs : Text = cab_lines o.group.n o.group in
        let all : steps ++ cabs ≡ listing file list = rw (told room l s, last) (sym lines) in
        let short : length (steps ++ cabs) ≤ 200000 =
        rw (length-append steps cabs) (omega (arith, steps_length 1 (take ((used + 5) / 6) answers), length-take ((used + 5) / 6) answers, cabs_length o.group.n o.group, limited (length list) u)) in
        exactly 200000 (omega arith) all short (then v w)

  module _ (z : o.answer ≡ 0 → ⊥) where
    line : load_line o.answer ≡ listing file list
    unfolding listing
    line = rw (unloaded file (steps rs) run_of z, answer_of file (steps rs) run_of)

    pub refused : {before after : List ℕ} {end : ℕ} → Written (load_line o.answer) 0 before end after
        → (end ≡ length (listing file list)) × ((after ≡ sets before 0 (listing file list)) × (end ≤ 200000))
    refused w = exactly 200000 (omega arith) line (omega (arith, load_length o.answer)) w

-- ---- demand 3

pub ends_well : (file list : List ℕ) {used : ℕ} → used ≡ min (length list) 60000
    → ((load file).answer ≡ 0 → EndsWell file (steps (records_in (take used list)))) → (load file).answer ≡ 0 → EndsWell file (steps (records 10000 list))
ends_well file list {used} u h z = subst (λ (r : List (List ℕ)). EndsWell file (steps r)) (the_parts 6 10000 list (omega arith) u) (h z)
