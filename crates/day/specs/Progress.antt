-- What a clause sees of how far a day has been read.
-- Assumes nothing.
use Rattle.std.specs.Prelude.{ℕ, Option}
use Rattle.day.specs.Blocks.{Blocks}
use Rattle.day.specs.declared.Call.{Call}

-- the flow of the day, its next message, if it goes on, the number of its last line, and how many messages are still to be read
pub record Progress : Type 0 where
  pub flow : Blocks
  pub next : Option Call
  pub last : ℕ
  pub left : ℕ
