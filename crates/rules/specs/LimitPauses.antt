-- How often a stock can pause (R-2): how far apart its limit pauses start, and how many there are. `limit_pauses` of Readings.antt lists their
-- starts.
-- Assumes nothing.
use Rattle.std.specs.Prelude.{ℕ, ◌+◌, ◌≤◌, List, [], ◌∷◌}
use Rattle.rules.specs.Machine.{Every}

-- of any two of the dates, the one that comes later in the list is at least d after the other
abbrev pub Apart : ℕ → List ℕ → Type 0
Apart d [] = Unit {0}
Apart d (t ∷ ts) = Every (λ later. t + d ≤ later) ts × Apart d ts

-- two limit pauses of one stock start at least so far apart: 300,000 until a reopening is accepted, and 15,000 in Limit
abbrev pub least_distance : ℕ
least_distance = 315_000

-- and there are at most so many in a day
abbrev pub pauses_bound : ℕ
pauses_bound = 75
