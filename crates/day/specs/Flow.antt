-- What is found in the input's block, and what becomes of the blocks and of the day.
-- Assumes nothing.
use Rattle.std.specs.Prelude.{ℕ, ◌+◌, ◌-◌, ◌≤◌, ◌<◌, min, Bool, List, ◌++◌, ◌≡◌, take, drop, Option, Some, None, MatchOption}
use Rattle.forms.specs.Choice.{if◌then◌otherwise◌}
use Rattle.tape.specs.declared.Line.{Line}
use Rattle.tape.specs.Lines.{unread, Reads, to_feed}
use Rattle.day.specs.Blocks.{Blocks}
use Rattle.day.specs.Progress.{Progress}
use Rattle.day.specs.declared.flow.Seen.{Seen}

-- how far to look for the line feed of a line, which has at most 56 bytes ahead of it
abbrev pub reach_of : ℕ → ℕ → ℕ
reach_of from to = min (from + 57) to

-- the bytes from one place to another
abbrev pub between : List ℕ → ℕ → ℕ → List ℕ
between bytes from to = take (to - from) (drop from bytes)

-- the search from a place on finds the line that ends at the first line feed, and the place after that; it finds none where no line feed is in reach
abbrev pub Sees : List ℕ → ℕ → ℕ → Option Seen → Type 0
Sees bytes from to r =
    let end = from + to_feed (between bytes from (reach_of from to)) in
    MatchOption r (reach_of from to ≤ end) (λ s. (end < reach_of from to) × Reads (between bytes from end) s.line × (s.next ≡ end + 1))

-- the bytes with so many of them, from a place on, moved to the front; the bytes after these stay
abbrev pub lowered : List ℕ → ℕ → ℕ → List ℕ
lowered bytes gone keep = take keep (drop gone bytes) ++ drop keep bytes

-- the blocks with the unread bytes moved to the front
abbrev pub lowered_flow : Blocks → Blocks
lowered_flow f = record { input = lowered f.input f.from (f.to - f.from); from = 0; to = f.to - f.from; output = f.output; at = f.at; live = f.live }

-- the blocks with so many bytes still to be written, and whether the output has taken all that was written
abbrev pub written : ℕ → Bool → Blocks → Blocks
written at live f = record { input = f.input; from = f.from; to = f.to; output = f.output; at = at; live = live }

-- the blocks after the pending output was written, or refused
abbrev pub flushed : Bool → Blocks → Blocks
flushed live f = written 0 live f

-- what taking a line gives
pub record Taken : Type 0 where
  pub line : Option Line
  pub flow : Blocks

-- a line that was found, and the blocks after it
abbrev pub found_of : Option Line → ℕ → Blocks → Taken
found_of line next f = record { line = line; flow = record { input = f.input; from = next; to = f.to; output = f.output; at = f.at; live = f.live } }

-- the result where no line was found
abbrev pub missing_of : Blocks → Taken
missing_of f = record { line = unread; flow = f }

-- the result of a search
abbrev pub taken_of : Option Seen → Blocks → Taken
taken_of None f = missing_of f
taken_of (Some s) f = found_of s.line s.next f

-- the same day with another flow: it goes on while the output takes what is written
abbrev pub with_flow : Progress → Blocks → Progress
with_flow d flow = record { flow = flow; next = (if flow.live then d.next otherwise None); last = d.last; left = d.left }
