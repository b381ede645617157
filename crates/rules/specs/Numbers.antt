-- Ranges, the checks in their order, the answers, and setup (document 01, "Units and ranges", "Numbers given back", "What the book holds").
-- Assumes nothing.
use Rattle.std.specs.Prelude.{ℕ, ◌+◌, ◌-◌, ◌*◌, Bool, true, false, not, leb, ltb, eqb, length}
use mathlib.Core.List.{List, [], ◌∷◌, foldl}
use Rattle.forms.specs.Choice.{if◌then◌otherwise◌, all_of, any_of}
use Rattle.forms.specs.Checks.{Check, first}
use Rattle.forms.specs.Checks.Check.{◌when◌}
use Rattle.band.specs.Band.{no_mean, printed_by}
use Rattle.band.specs.declared.Mean.{Mean}
use Rattle.rules.specs.Stock.{Trade, Whole, Waiting, Paused, state_of, clock_of, is}
use Rattle.rules.specs.Quotes.{in_force, bands_in, best_of, straddle}
use Rattle.rules.specs.States.{no_quotes}
use Rattle.rules.specs.Moments.{no_moment, due_by, past_at, next_of, fire}
use Rattle.rules.specs.Messages.{kind, time_of, taken, after}
use Rattle.rules.specs.declared.Setup.{Setup}
use Rattle.rules.specs.declared.Quotes.{Quotes}
use Rattle.rules.specs.declared.Stock.{Stock}
use Rattle.rules.specs.declared.Moment.{Moment}
use Rattle.rules.specs.declared.Best.{Best}
use Rattle.rules.specs.declared.Answer.{Answer}
use Rattle.rules.specs.declared.Notice.{Notice}
use Rattle.rules.specs.declared.Upcoming.{Upcoming}
use Rattle.rules.specs.declared.Message.{Message}
use Rattle.rules.specs.declared.Message.TheVariants.{Trade as T, Quote as Q, Opening as O, Pause as P, Reopening as R, Closing as X}

-- ------------------------------------------------------------------ "Units and ranges": each test says that something is out of range

-- a side of a quote is a price or 0
abbrev pub not_side : ℕ → Bool
not_side price = ltb 999_999_999 price

-- a price is 1 to 999,999,999
unfoldable pub not_price : ℕ → Bool
not_price price = any_of (eqb price 0 ∷ not_side price ∷ [])

-- a participant is 0 to 15
abbrev pub not_participant : ℕ → Bool
not_participant participant = ltb 15 participant

-- a time is at most E + 300,000
abbrev pub not_time : ℕ → ℕ → Bool
not_time end time = ltb (end + 300_000) time

-- the session's end is from 3,600,000 up to 23,400,000
unfoldable pub bad_end : ℕ → Bool
bad_end end = any_of (ltb end 3_600_000 ∷ ltb 23_400_000 end ∷ [])

-- the tier is 1 or 2, the leverage 1 to 3 and in tier 1 only 1; the primary is a participant, the close a price
unfoldable pub bad_setup : Setup → Bool
bad_setup u = any_of (
    eqb u.tier 0 ∷
    ltb 2 u.tier ∷
    eqb u.leverage 0 ∷
    ltb 3 u.leverage ∷
    all_of (eqb u.tier 1 ∷ ltb 1 u.leverage ∷ []) ∷
    not_participant u.primary ∷
    not_price u.close ∷
    [])

-- ------------------------------------------------------------------ "Numbers given back": what is rubbish

-- a kept time is out of range; stale ones are checked too
unfoldable pub bad_times : Stock → Bool
bad_times s = any_of (
    not_time s.end (clock_of s) ∷
    not_time s.end s.reference.start ∷
    not_time s.end s.course.entry ∷
    not_time s.end s.course.pause ∷
    [])

-- one was out of range before, or this side of a quote is
unfoldable pub or_not_side : Bool → ℕ → Bool
or_not_side bad price = if bad then true otherwise not_side price

-- a bid or an offer is out of range
unfoldable pub bad_quotes : Quotes → Bool
bad_quotes q = foldl or_not_side (foldl or_not_side false q.bids) q.offers

-- a reference is that of at most 512 prices, and its sum is one that so many prices can have (R-3)
unfoldable pub not_reference : Mean → Bool
not_reference m = any_of (ltb 512 m.count ∷ ltb m.sum m.count ∷ ltb (999_999_999 * m.count) m.sum ∷ [])

-- the reference is not one that prices can have, or it is missing in Trading, Limit or a pause
unfoldable pub bad_reference : Stock → Bool
bad_reference s = any_of (
    not_reference s.reference.price ∷
    all_of (eqb s.reference.price.count 0 ∷ leb 1 (state_of s) ∷ leb (state_of s) 4 ∷ []) ∷
    [])

-- the trades gone over so far: whether one was bad, and the time of the last
pub record Seen : Type 0 where
  pub bad : Bool
  pub last : ℕ

-- a held trade is bad: its price is out of range, or its time is after the clock (so that a time out of range is bad too) or before that of the
-- previous trade
unfoldable pub bad_trade : ℕ → ℕ → Trade → Bool
bad_trade clock last t = any_of (not_price t.price ∷ ltb clock t.at ∷ ltb t.at last ∷ [])

-- the trades gone over, with one more
unfoldable pub see : ℕ → Seen → Trade → Seen
see clock seen t = record { bad = if seen.bad then true otherwise bad_trade clock seen.last t; last = t.at }

-- a held trade is bad
unfoldable pub bad_trades : ℕ → List Trade → Bool
bad_trades clock w = (foldl (see clock) (record { bad = false; last = 0 }) w).bad

-- a stock is bad whatever its window: its state is over 5, a part of it is out of range, or it is Paused although the pause
-- began at E - 600,000 or after it
unfoldable pub bad_stock : Stock → Bool
bad_stock s = any_of (
    ltb 5 (state_of s) ∷
    bad_setup s.setup ∷
    bad_end s.end ∷
    bad_times s ∷
    bad_quotes s.quotes ∷
    bad_reference s ∷
    all_of (is Paused s ∷ leb (s.end - 600_000) s.course.pause ∷ []) ∷
    [])

-- a stock is rubbish: it is bad, it has over 512 trades or a bad one, or a moment still to come is past
unfoldable pub rubbish : Whole → Bool
rubbish h = let s = h.stock in any_of (
    bad_stock s ∷
    ltb 512 (length h.window) ∷
    bad_trades (clock_of s) h.window ∷
    past_at (clock_of s) (next_of h) ∷
    [])

-- ------------------------------------------------------------------ "Numbers given back": the first checks of every call but setup

-- the shape is wrong: a book has 1 to 64 stocks, and 512 places of each array for each
unfoldable pub bad_shape : ℕ → ℕ → ℕ → Bool
bad_shape stocks times prices = any_of (
    eqb stocks 0 ∷
    ltb 64 stocks ∷
    not (eqb times (512 * stocks)) ∷
    not (eqb prices (512 * stocks)) ∷
    [])

-- the shape of the book, then the number of the stock; the checks of the stock follow
unfoldable pub call_checks : ℕ → ℕ → ℕ → ℕ → List Check
call_checks stocks times prices at =
    1 when bad_shape stocks times prices ∷
    3 when leb stocks at ∷
    []

-- ------------------------------------------------------------------ "Numbers given back": the checks of a message

-- 4: a price, a participant or the time is out of range
unfoldable pub out_of_range : ℕ → Message → Bool
out_of_range end (T time price) = any_of (not_price price ∷ not_time end time ∷ [])
out_of_range end (Q time participant bid offer) = any_of (not_participant participant ∷ not_side bid ∷ not_side offer ∷ not_time end time ∷ [])
out_of_range end (O time participant price) = any_of (not_participant participant ∷ not_price price ∷ not_time end time ∷ [])
out_of_range end (P time participant) = any_of (not_participant participant ∷ not_time end time ∷ [])
out_of_range end (R time participant price) = any_of (not_participant participant ∷ not_price price ∷ not_time end time ∷ [])
out_of_range end (X time participant price) = any_of (not_participant participant ∷ not_price price ∷ not_time end time ∷ [])

-- O, P, R and X must name the primary
unfoldable pub not_primary : ℕ → Message → Bool
not_primary primary (T time price) = false
not_primary primary (Q time participant bid offer) = false
not_primary primary (O time participant price) = not (eqb participant primary)
not_primary primary (P time participant) = not (eqb participant primary)
not_primary primary (R time participant price) = not (eqb participant primary)
not_primary primary (X time participant price) = not (eqb participant primary)

-- a price outside bands in force
unfoldable pub outside : Stock → ℕ → Bool
outside s price = all_of (in_force s ∷ any_of (ltb price (bands_in s).lower ∷ ltb (bands_in s).upper price ∷ []) ∷ [])

-- the last checks, which differ from message to message; of the window they use only the number of trades
unfoldable pub own_checks : Message → ℕ → Stock → List Check
own_checks (T time price) held s = 12 when outside s price ∷ 13 when leb 512 held ∷ []
own_checks (Q time participant bid offer) held s = []
own_checks (O time participant price) held s = 15 when leb 300_000 time ∷ []
own_checks (P time participant) held s = 16 when not (straddle s) ∷ []
own_checks (R time participant price) held s = 10 when ltb time (s.course.pause + 300_000) ∷ []
own_checks (X time participant price) held s = 10 when ltb time s.end ∷ []

-- 7, 9 and 11: the table's number, where it is not 0
abbrev pub table_check : ℕ → List Check → List Check
table_check number checks = number when not (eqb number 0) ∷ checks

-- the checks of a message to a stock that is no rubbish, by its trades' count and its earliest moment
unfoldable pub message_checks : Message → ℕ → Moment → Stock → List Check
message_checks m held earliest s =
    4 when out_of_range s.end m ∷
    5 when ltb (time_of m) (clock_of s) ∷
    6 when due_by (time_of m) earliest ∷
    8 when not_primary s.setup.primary m ∷
    table_check (taken (kind m) (state_of s)) (own_checks m held s)

-- all checks of a message, in their order
unfoldable pub checks : Message → Whole → List Check
checks m h = 1 when rubbish h ∷ message_checks m (length h.window) (next_of h) h.stock

-- the number that a message is answered with
unfoldable pub tells : Message → Whole → ℕ
tells m h = first (checks m h)

-- ------------------------------------------------------------------ "Numbers given back": the checks of settling

-- settling a stock that is no rubbish does its earliest moment if that is not after the time, or answers 14
unfoldable pub time_checks : ℕ → Moment → Stock → List Check
time_checks time earliest s =
    4 when not_time s.end time ∷
    14 when not (due_by time earliest) ∷
    []

-- all checks of settling, in their order
unfoldable pub settle_checks : ℕ → Whole → List Check
settle_checks time h = 1 when rubbish h ∷ time_checks time (next_of h) h.stock

-- the number that settling to a time is answered with
unfoldable pub settles : ℕ → Whole → ℕ
settles time h = first (settle_checks time h)

-- ------------------------------------------------------------------ "Numbers given back": the check of reading

-- reading a stock checks only whether it is rubbish
unfoldable pub read_checks : Whole → List Check
read_checks h = 1 when rubbish h ∷ []

-- the number that reading is answered with
unfoldable pub reads : Whole → ℕ
reads h = first (read_checks h)

-- ------------------------------------------------------------------ "Numbers given back": the answers

-- no bid and no offer
abbrev pub no_best : Best
no_best = record { bid = record { price = 0; flag = 0 }; offer = record { price = 0; flag = 0 } }

-- a number with zeros beside it
abbrev pub zeros : ℕ → Answer
zeros number = record { number = number; state = 0; reference = 0; lower = 0; upper = 0; best = no_best }

-- the reference as an answer gives it, rounded; 0 where there is none
abbrev pub printed_reference : Stock → ℕ
printed_reference s = printed_by s.reference.price

-- a number with what the stock shows; after 1, 2 and 3 zeros
unfoldable pub answer : ℕ → Stock → Answer
answer number s =
    if any_of (eqb number 1 ∷ eqb number 2 ∷ eqb number 3 ∷ []) then zeros number otherwise
    record { number = number; state = state_of s; reference = printed_reference s; lower = (bands_in s).lower; upper = (bands_in s).upper; best = best_of s }

-- the stock after a message: as the rules make it where the number is 0, else as it was
unfoldable pub after_telling : Message → Whole → Whole
after_telling m h = if eqb (tells m h) 0 then after m h otherwise h

-- the stock after settling: with its earliest moment done where the number is 0, else as it was
unfoldable pub after_settling : ℕ → Whole → Whole
after_settling time h = if eqb (settles time h) 0 then fire h otherwise h

-- the answer to a message: the number, and what the stock then shows
unfoldable pub tell_answer : Message → Whole → Answer
tell_answer m h = answer (tells m h) (after_telling m h).stock

-- the answer to reading: the number, and what the stock shows
unfoldable pub read_answer : Whole → Answer
read_answer h = answer (reads h) h.stock

-- a number with no moment
abbrev pub none_coming : ℕ → Upcoming
none_coming number = record { number = number; mark = 0; time = 0 }

-- the answer to asking what comes next: the number of reading, and where it is 0 the stock's earliest moment
unfoldable pub next_answer : Whole → Upcoming
next_answer h = if eqb (reads h) 0 then record { number = 0; mark = (next_of h).mark; time = (next_of h).time } otherwise none_coming (reads h)

-- an answer with the mark and the time of a moment
abbrev pub beside : Moment → Answer → Notice
beside m a = record { answer = a; mark = m.mark; time = m.time }

-- a number with zeros beside it, and no moment
abbrev pub no_notice : ℕ → Notice
no_notice number = beside no_moment (zeros number)

-- the dated notice of a moment: the answer, with the mark and the time
unfoldable pub notice : Whole → Notice
notice h = beside (next_of h) (answer 0 (fire h).stock)

-- the answer to settling: the notice, or zeros for the mark and the time where no moment was done
unfoldable pub settle_answer : ℕ → Whole → Notice
settle_answer time h = if eqb (settles time h) 0 then notice h otherwise beside no_moment (answer (settles time h) h.stock)

-- ------------------------------------------------------------------ "What the book holds": setup; its checks, "Numbers given back"

-- a stock after setup: Waiting, no quotes, every clock 0, no trade
unfoldable pub fresh : ℕ → Setup → Whole
fresh end u = record {
  stock = record {
    setup = u;
    end = end;
    course = record { state = Waiting; clock = 0; early = 1; entry = 0; pause = 0 };
    reference = record { price = no_mean; start = 0; hold = 0 };
    quotes = no_quotes;
  };
  window = [];
}

-- one was out of range before, or this setup is
unfoldable pub or_bad_setup : Bool → Setup → Bool
or_bad_setup bad u = if bad then true otherwise bad_setup u

-- the checks of a setup: 1 for the shape and the list, 2 for what is out of range
unfoldable pub setup_checks : ℕ → ℕ → ℕ → ℕ → List Setup → List Check
setup_checks stocks times prices end us =
    1 when any_of (bad_shape stocks times prices ∷ not (eqb (length us) stocks) ∷ []) ∷
    2 when any_of (bad_end end ∷ foldl or_bad_setup false us ∷ []) ∷
    []

-- the number that a setup is answered with, of a book of so many stocks and places
unfoldable pub sets_up : ℕ → ℕ → ℕ → ℕ → List Setup → ℕ
sets_up stocks times prices end us = first (setup_checks stocks times prices end us)

-- the answer to a setup: the number with zeros
unfoldable pub setup_answer : ℕ → ℕ → ℕ → ℕ → List Setup → Answer
setup_answer stocks times prices end us = zeros (sets_up stocks times prices end us)
