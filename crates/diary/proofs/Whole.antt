-- The whole text, by the answer of the load, and demand 3 of the run that it is about.
use Prim.Native.Nat.{ℕ, ◌+◌, ◌*◌, ◌≤◌, min}
use mathlib.Core.Bool.{true}
use mathlib.Core.Path.{◌≡◌, sym, ap, subst, ◌∙◌}
use mathlib.Core.List.{List, ◌++◌}
use native.Mathlib.Omega.{arith}
use lib.ListN.{length, take, drop, length-append}
use lib.Seq.{sets, length-sets, sets-eq}
use Rattle.group.specs.declared.Outcome.{Outcome}
use Rattle.load.specs.Load.{load}
use Rattle.protocol.specs.declared.Site.{Site}
use Rattle.protocol.specs.Listing.{Text, load_line, cab_lines}
use Rattle.protocol.specs.Evening.{operate_all, answers_to, operations, plan_records, plan_lines, plan_text, evening}
use Rattle.buffer.specs.Written.{Written}
use Rattle.buffer.proofs.Texts.{then}
use Rattle.replay.specs.Replay.{at_first, replayed, answers_of, EndsWell}
use Rattle.steps.proofs.Records.{at_most}
use Rattle.replay.proofs.Moments.{answer_of, loaded, unloaded, group_of}
use Rattle.plans.specs.Plans.{operations_in}
use Rattle.steps.proofs.Operations.{each_said}
use Rattle.report.proofs.Lines.{load_length, cabs_length}
use Rattle.report.proofs.Whole.{the_parts, exactly}
use Rattle.diary.proofs.Lines.{the_first, lines_length}

module _ (file list : List ℕ) {used : ℕ} (u : used ≡ min (length list) 90000) {o : Outcome} (e : o ≡ replayed file (operations_in (take used list))) where
  abbrev rs : List (List ℕ)
  rs = plan_records 10000 list

  abbrev first : Site
  first = at_first (load file).group

  these : plan_records (length (take used list)) (take used list) ≡ rs
  these = the_parts 9 10000 list (omega arith) u

  run_of : o ≡ replayed file (operations rs)
  run_of = e ∙ ap (λ (r : List (List ℕ)). replayed file (operations r)) these

  module _ (z : o.answer ≡ 0) where
    told : {answers : List ℕ} (room : List ℕ) → length answers ≡ 10000 → answers ≡ sets room 0 (answers_of file (operations_in (take used list)))
        → plan_lines 1 (plan_records (length (take used list)) (take used list)) answers ≡ plan_lines 1 rs (answers_to first (operations rs))
    told {answers} room l s =
        let said : List ℕ = answers_to first (operations rs) in
        let n : length said ≡ length rs = each_said true rs first in
        let a : answers ≡ sets room 0 said =
        s ∙ ap (λ (r : List (List ℕ)). sets room 0 (answers_of file (operations r))) these ∙ rw (loaded file (operations rs) run_of z) in
        let r : length room ≡ 10000 = sym (ap length a ∙ length-sets room 0 said) ∙ l in
        rw (these, a, sets-eq said room 0 (omega (arith, at_most 9 10000 list))) (the_first 1 rs said (drop (0 + length said) room) n)

    lines : evening file list ≡ plan_lines 1 rs (answers_to first (operations rs)) ++ cab_lines (operate_all first (operations rs)).group.n (operate_all first (operations rs)).group
    unfolding evening plan_text
    lines = rw (loaded file (operations rs) run_of z)

    pub accepted : {answers before mid after : List ℕ} {at end : ℕ} (room : List ℕ) → length answers ≡ 10000 → answers ≡ sets room 0 (answers_of file (operations_in (take used list)))
        → Written (plan_lines 1 (plan_records (length (take used list)) (take used list)) answers) 0 before at mid → Written (cab_lines o.group.n o.group) at mid end after
        → o.group.n ≤ 255 → (end ≡ length (evening file list)) × ((after ≡ sets before 0 (evening file list)) × (end ≤ 201220))
    accepted {answers} room l s v w n =
        let said : Text = plan_lines 1 (plan_records (length (take used list)) (take used list)) answers in
        let cabs : Text = cab_lines o.group.n o.group in
        let all : said ++ cabs ≡ evening file list = rw (told room l s, group_of file (operations rs) run_of z) (sym lines) in
        let few : length said ≤ 19 * length rs = rw (told room l s) (lines_length 1 rs (answers_to first (operations rs))) in
        let short : length (said ++ cabs) ≤ 201220 =
        rw (length-append said cabs) (omega (arith, few, at_most 9 10000 list, cabs_length o.group.n o.group)) in
        exactly 201220 (omega arith) all short (then v w)

  module _ (z : o.answer ≡ 0 → ⊥) where
    line : load_line o.answer ≡ evening file list
    unfolding evening
    line = rw (unloaded file (operations rs) run_of z, answer_of file (operations rs) run_of)

    pub refused : {before after : List ℕ} {end : ℕ} → Written (load_line o.answer) 0 before end after
        → (end ≡ length (evening file list)) × ((after ≡ sets before 0 (evening file list)) × (end ≤ 201220))
    refused w = exactly 201220 (omega arith) line (omega (arith, load_length o.answer)) w

-- ---- demand 3

pub ends_well : (file list : List ℕ) {used : ℕ} → used ≡ min (length list) 90000
    → ((load file).answer ≡ 0 → EndsWell file (operations_in (take used list))) → (load file).answer ≡ 0 → EndsWell file (operations (plan_records 10000 list))
ends_well file list {used} u h z = subst (λ (r : List (List ℕ)). EndsWell file (operations r)) (the_parts 9 10000 list (omega arith) u) (h z)
