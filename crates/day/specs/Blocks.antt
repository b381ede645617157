-- What a clause sees of the input and the output.
-- Assumes nothing.
use Rattle.std.specs.Prelude.{ℕ, Bool, List}

-- the input's block with its unread bytes, those from one place to another, the output's block with how many of its bytes are still to be written, and
-- whether the output has taken all that was written
pub record Blocks : Type 0 where
  pub input : List ℕ
  pub from : ℕ
  pub to : ℕ
  pub output : List ℕ
  pub at : ℕ
  pub live : Bool
