-- The number of each refusal (document 01, "Numbers given back").
-- Assumes nothing.
use Rattle.std.specs.Prelude.{ℕ, Result, Ok, Err, ⊤}
use Rattle.rules.specs.declared.Refusal.{Refusal}
use Rattle.rules.specs.declared.Refusal.TheVariants as is

-- the number that a refused call is answered with
abbrev pub number_of : Refusal → ℕ
-- 0 or over 64 stocks, an array or setup's list of the wrong length, or this stock's rubbish
number_of is.Rubbish = 1
-- setup only: E or a stock's setup out of range
number_of is.BadSetup = 2
-- stock number too large
number_of is.NoStock = 3
-- price, participant or time out of range
number_of is.OutOfRange = 4
-- time before the stock's clock
number_of is.BeforeClock = 5
-- a moment not after the message's time is unsettled
number_of is.Unsettled = 6
-- the table: the stock is Closed
number_of is.ClosedStock = 7
-- not the primary
number_of is.NotPrimary = 8
-- the table: the state does not take the message
number_of is.WrongState = 9
-- R before pause start + 300,000; X before E
number_of is.NotYet = 10
-- the table: T in a pause
number_of is.InPause = 11
-- T outside bands in force
number_of is.OutsideBands = 12
-- T with 512 trades held
number_of is.NoRoom = 13
-- settling: nothing due
number_of is.NothingDue = 14
-- O at 300,000 or later
number_of is.TooLate = 15
-- P without straddle
number_of is.NoStraddle = 16

-- the number that a call is answered with: 0 where it is done
abbrev pub refused_by : Result ⊤ Refusal → ℕ
refused_by (Ok done) = 0
refused_by (Err why) = number_of why
