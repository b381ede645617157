-- What the checks of a survey look for: `bad_trades` of the rules, with times and prices apart (document 01, "Numbers given back").
-- Assumes nothing.
use Rattle.std.specs.Prelude.{ℕ, Bool, false, ◌||◌, List, ◌==◌, nat_lt}
use mathlib.Core.List.{foldl}
use Rattle.rules.specs.Numbers.{Seen}

-- the times gone over, with one more: it is bad after the clock, or before the time ahead of it
unfoldable pub see_time : ℕ → Seen → ℕ → Seen
see_time clock seen time = record { bad = (seen.bad || nat_lt clock time) || nat_lt time seen.last; last = time }

-- all times gone over
unfoldable pub times_seen : ℕ → List ℕ → Seen
times_seen clock times = foldl (see_time clock) (record { bad = false; last = 0 }) times

-- a price was bad before, or this one is out of range
unfoldable pub see_price : Bool → ℕ → Bool
see_price bad price = (bad || price == 0) || nat_lt 999_999_999 price

-- one of all prices is out of range
unfoldable pub prices_bad : List ℕ → Bool
prices_bad prices = foldl see_price false prices
