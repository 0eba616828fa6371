-- A text stored whole at the start of a buffer that has room for it.
use Prim.Native.Nat.{ℕ, ◌≤◌}
use mathlib.Core.Path.{◌≡◌, ◌∙◌, sym}
use mathlib.Core.Bool.{Bool}
use mathlib.Core.List.{List}
use lib.ListN.{length, take}
use lib.Seq.{sets}
use native.Mathlib.Omega.{arith}
use Rattle.buffer.proofs.Texts.{at_start}
use Rattle.agreement.specs.Tests.{Decides, Held}

pub decided : (r : Bool) (whole text before after : List ℕ) (end : ℕ) → end ≡ length whole → after ≡ sets before 0 whole → end ≤ length before
    → Decides r (Held after end text) → Decides r (text ≡ whole)
decided r whole text before after end l s room d =
    let all : take end after ≡ whole = rw (l, s) (at_start whole before (omega arith)) in
    record {
      sound = λ t. sym (d.sound t).start ∙ all;
      complete = λ e. d.complete (record { ends = rw e l; start = all ∙ sym e });
    }
