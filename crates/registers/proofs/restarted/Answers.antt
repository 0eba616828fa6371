-- The row of restarted registers is what the definition makes, line by line.
use Rattle.std.proofs.Common.{rules, ℕ, zero, suc, ◌≡◌, Bool, true, false, cond, List, get_or, set, length, refl, ap, ◌∙◌}
use Rattle.std.proofs.Math.Seq.{set-get_or}
use Rattle.marks.specs.Marks.{Marks, marked}
use Rattle.marks.proofs.Rows.{row_of_calls, gone_through, row_gone_through}
use Rattle.packet.specs.declared.Check.{Check}
use Rattle.packet.specs.Packet.{start_check}
use Rattle.registers.specs.Registers.{restart_if, restart_to}
use Rattle.registers.proofs.restarted.Goals as goal

-- a line's register, at its start if it restarts
abbrev left : Marks → ℕ → Check → Check
left m i r = cond (marked m i) start_check r

-- what is read past a row's end; no such place is read
abbrev beyond : Check
beyond = record { crc = 0; count = 0 }

one_line : (b : Bool) (rs : List Check) (i : ℕ) → set rs i (cond b start_check (get_or rs i beyond)) ≡ restart_if b rs i
one_line true rs i = refl
one_line false rs i = set-get_or rs i beyond

all_lines : (m : Marks) (rs : List Check) (n : ℕ) → gone_through (left m) beyond n rs ≡ restart_to n m rs
all_lines m rs zero = refl
all_lines m rs (suc n) =
    one_line (marked m n) (gone_through (left m) beyond n rs) n
    ∙ ap (λ (l : List Check). restart_if (marked m n) l n) (all_lines m rs n)

pub returns : goal.returns
returns c =
    let long : length c.args.checks ≡ 8 = search rules in
    row_of_calls _ (λ i. left c.args.marks i (get_or c.args.checks i beyond)) _ (λ i y q l called. search rules) _ c.from_fn.ensures.items
    ∙ row_gone_through (left c.args.marks) beyond c.args.checks long
    ∙ all_lines c.args.marks c.args.checks 8
