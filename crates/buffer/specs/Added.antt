-- What a function that is lent a writer does with it: it writes a text at the writer's end, in the same buffer.
use Rattle.std.specs.Prelude.{◌≡◌, List, ℕ}
use Rattle.buffer.specs.declared.Writer.{Writer}
use Rattle.buffer.specs.Written.{Written}

pub record Added (text : List ℕ) (before after : Writer) : Type 0 where
  pub written : Written text before.end before.out.now after.end after.out.now
  pub same_buffer : after.out.ghost_name ≡ before.out.ghost_name
