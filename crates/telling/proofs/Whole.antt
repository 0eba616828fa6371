-- The whole line, by the answer of the load.
use Rattle.std.specs.Prelude.{Err, Ok}
use Prim.Native.Nat.{ℕ, ◌+◌, ◌≤◌, min}
use mathlib.Core.Path.{◌≡◌}
use mathlib.Core.List.{List}
use native.Mathlib.Omega.{arith}
use lib.ListN.{length, take, length-append}
use lib.Seq.{sets}
use Rattle.settled.specs.Settled.{number_of}
use Rattle.group.specs.declared.Outcome.{Outcome}
use Rattle.protocol.specs.Word.{Told}
use Rattle.protocol.specs.Listing.{load_line, records}
use Rattle.protocol.specs.History.{steps}
use Rattle.protocol.specs.Word.{which_word, numbers_of, word_line, word}
use Rattle.buffer.specs.Written.{Written}
use Rattle.buffer.proofs.Digits.{at_most}
use Rattle.replay.specs.Replay.{records_in, replayed}
use Rattle.replay.proofs.Moments.{answer_of, loaded, unloaded}
use Rattle.report.proofs.Lines.{load_length}
use Rattle.report.proofs.Whole.{exactly, run_of, last}

word_length : (t : Told) → length (word_line (numbers_of t)) ≤ 17
word_length (Err k) = simp length-append (omega (arith, at_most 5 k))
word_length (Ok f) = simp length-append (omega (arith, at_most 5 (f.cabinet + 1), at_most 5 (number_of f.reason)))

module _ (file list : List ℕ) {used : ℕ} (u : used ≡ min (length list) 60000) {o : Outcome} (e : o ≡ replayed file (steps (records_in (take used list)))) where
  abbrev rs : List (List ℕ)
  rs = records 10000 list

  module _ (z : o.answer ≡ 0) where
    told : {t : Told} → t ≡ which_word o.group → word_line (numbers_of t) ≡ word file list
    unfolding word
    told a = rw (a, last file list u e z, loaded file (steps rs) (run_of file list u e) z)

    pub accepted : {t : Told} {before after : List ℕ} {end : ℕ} → t ≡ which_word o.group → Written (word_line (numbers_of t)) 0 before end after
        → (end ≡ length (word file list)) × ((after ≡ sets before 0 (word file list)) × (end ≤ 17))
    accepted {t} a w = exactly 17 (omega arith) (told a) (word_length t) w

  module _ (z : o.answer ≡ 0 → ⊥) where
    line : load_line o.answer ≡ word file list
    unfolding word
    line = rw (unloaded file (steps rs) (run_of file list u e) z, answer_of file (steps rs) (run_of file list u e))

    pub refused : {before after : List ℕ} {end : ℕ} → Written (load_line o.answer) 0 before end after
        → (end ≡ length (word file list)) × ((after ≡ sets before 0 (word file list)) × (end ≤ 17))
    refused w = exactly 17 (omega arith) line (omega (arith, load_length o.answer)) w
