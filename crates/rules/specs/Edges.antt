-- Records and calls at the edges of what the rules allow, with the expected answers (document 01, "Units and ranges", "Moments",
-- "Numbers given back"; document 02, R-4).
-- Assumes nothing.
use Rattle.std.specs.Prelude.{ℕ, ◌-◌, Bool, not, List, [], ◌∷◌, eqb, length, set, replicate}
use Rattle.forms.specs.Choice.{if◌then◌otherwise◌}
use Rattle.forms.specs.Checks.{first}
use Rattle.band.specs.Band.{no_mean, price_of}
use Rattle.rules.specs.Stock.{Waiting, Paused, Late, state_of, clock_of, Trade, Whole, Trading}
use Rattle.rules.specs.States.{no_quotes}
use Rattle.rules.specs.Moments.{mark_z, mark_p, mark_c, mark_h, mark_w, mark_x, mark_v, mark_f}
use Rattle.rules.specs.Messages.{taken, letter_t, letter_q, letter_o, letter_p, letter_r, letter_x}
use Rattle.rules.specs.Numbers.{rubbish, tells, settles, fresh, call_checks, sets_up, answer, setup_answer, after_telling, after_settling, tell_answer, settle_answer, next_answer}
use Rattle.rules.specs.Totals.{brought}
use Rattle.rules.specs.Counted as with_totals
use Rattle.rules.specs.Counted.{Counted, totals_answer}
use Rattle.rules.specs.Book.{book_tells, book_settles, book_next, book_totals}
use Rattle.rules.specs.Days.{line, noticed, same_numbers, listed, total_numbers}
use Rattle.rules.specs.declared.Setup.{Setup}
use Rattle.rules.specs.declared.Reference.{Reference}
use Rattle.rules.specs.declared.Quotes.{Quotes}
use Rattle.rules.specs.declared.Summary.{Summary}
use Rattle.rules.specs.declared.Upcoming.{Upcoming}
use Rattle.rules.specs.declared.Message.{Message}
use Rattle.rules.specs.declared.Message.TheVariants.{Trade as T, Quote as Q, Opening as O, Pause as P, Reopening as R, Closing as X}

-- a stock of a session that ends at 3,600,000
abbrev sound : ℕ → ℕ → ℕ → ℕ → ℕ → Reference → Quotes → List Trade → Whole
sound state clock early entry pause reference quotes w = record {
  stock = record {
    setup = listed 2;
    end = 3_600_000;
    course = record { state = state; clock = clock; early = early; entry = entry; pause = pause };
    reference = reference;
    quotes = quotes;
  };
  window = w;
}

-- a reference that is a price, or none where that is 0
abbrev referring : ℕ → ℕ → ℕ → Reference
referring price start hold = record { price = if eqb price 0 then no_mean otherwise price_of price; start = start; hold = hold }

-- a reference that is a mean, started at 990,000, in its hold
abbrev mean_of : (sum count : ℕ) → Reference
mean_of sum count = record { price = record { sum = sum; count = count }; start = 990_000; hold = 1 }

-- the same with the hold ended
abbrev old_mean_of : (sum count : ℕ) → Reference
old_mean_of sum count = record { price = record { sum = sum; count = count }; start = 0; hold = 0 }

abbrev trade : ℕ → ℕ → Trade
trade at price = record { at = at; price = price }

-- Trading at 1,000,000, with a reference and a window
abbrev trading_with : Reference → List Trade → Whole
trading_with r w = sound 1 1_000_000 0 0 0 r no_quotes w

-- Trading within a hold, with no quote and no trade
abbrev plain : Whole
plain = trading_with (referring 100_000 990_000 1) []

-- Waiting at a time, after f
abbrev waiting : ℕ → Whole
waiting time = sound 0 time 0 0 0 (referring 0 0 0) no_quotes []

-- the bids or the offers of participants 5 and 6
abbrev sides : ℕ → ℕ → List ℕ
sides one other = set (set (replicate 16 0) 5 one) 6 other

-- Trading with bids and offers; the bands are 90,000 and 110,000
abbrev quoted : List ℕ → List ℕ → Whole
quoted bids offers = sound 1 1_000_000 0 0 0 (referring 100_000 0 0) (record { bids = bids; offers = offers }) []

-- in Limit, with quotes
abbrev limited : Quotes → Whole
limited quotes = sound 2 1_000_000 0 990_000 0 (referring 100_000 0 0) quotes []

-- the same with a trade, and an offer at the lower band
abbrev limited_with : Trade → Whole
limited_with t = sound 2 1_000_000 0 990_000 0 (referring 100_000 0 0) (record { bids = no_quotes.bids; offers = set no_quotes.offers 5 90_000 }) (t ∷ [])

-- a new stock with quotes
abbrev set_up_with : Quotes → Whole
set_up_with quotes = sound 0 0 1 0 0 (referring 0 0 0) quotes []

-- a Late pause, at the session's end
abbrev late_at_end : Whole
late_at_end = sound 4 3_600_000 0 0 3_000_000 (referring 1 0 0) no_quotes []

-- a stock as setup leaves it
abbrev new_stock : Whole
new_stock = fresh 3_600_000 (listed 2)

-- Trading at a time, with a best bid below the lower band
abbrev straddled : ℕ → Whole
straddled time = sound 1 time 0 0 0 (referring 100_000 0 0) (record { bids = set no_quotes.bids 5 1; offers = no_quotes.offers }) []

-- Trading with a best offer at the lower band
abbrev at_band : Reference → Whole
at_band r = sound 1 1_000_000 0 0 0 r (record { bids = no_quotes.bids; offers = set no_quotes.offers 5 90_000 }) []

-- a stock of a setup and a session's end
abbrev set_up_as : ℕ → Setup → Whole
set_up_as end u = record { stock = record { setup = u; end = end; course = (fresh end u).stock.course; reference = referring 0 0 0; quotes = no_quotes }; window = [] }

-- a stock with the six times and the other four totals
abbrev totalled : (waiting trading limit paused late closed limits pauses highest lowest : ℕ) → Whole → Counted
totalled waiting trading limit paused late closed limits pauses highest lowest h = record {
  whole = h;
  totals = record {
    spent = record { waiting = waiting; trading = trading; limit = limit; paused = paused; late = late; closed = closed };
    limits = limits;
    pauses = pauses;
    highest = highest;
    lowest = lowest;
  };
}

-- all its time spent in Waiting
abbrev counted : Whole → Counted
counted h = totalled (clock_of h.stock) 0 0 0 0 0 0 0 0 0 h

-- time spent in every state, most of it in Waiting, and a highest and a lowest
abbrev mixed : Whole → Counted
mixed h = totalled (clock_of h.stock - 15) 1 2 3 4 5 7 8 100_100 99_900 h

-- the totals after a message, and after settling
abbrev totals_told : Message → Counted → List ℕ
totals_told m c = total_numbers (with_totals.after_telling m c).totals

abbrev totals_settled : ℕ → Counted → List ℕ
totals_settled time c = total_numbers (with_totals.after_settling time c).totals

-- number and totals, as they are asked for
abbrev summary : Summary → List ℕ
summary x = x.number ∷ total_numbers x.totals

-- state, clock, early, entry, pause, the reference's sum, count, start and hold, and how many bids, offers and trades there are
abbrev numbers_of : Whole → List ℕ
numbers_of h =
    let c = h.stock.course in
    let r = h.stock.reference in
    let q = h.stock.quotes in
    c.state ∷ c.clock ∷ c.early ∷ c.entry ∷ c.pause ∷ r.price.sum ∷ r.price.count ∷ r.start ∷ r.hold ∷ length q.bids ∷ length q.offers ∷ length h.window ∷ []

-- the state, and the reference's sum and count
abbrev referred : Whole → List ℕ
referred h = state_of h.stock ∷ h.stock.reference.price.sum ∷ h.stock.reference.price.count ∷ []

-- number, mark and time of what comes next
abbrev upcoming : Upcoming → List ℕ
upcoming u = u.number ∷ u.mark ∷ u.time ∷ []

pub data Edge : Type 0 where
  -- a record that is rubbish, and one that is not
  bad good : Whole → Edge
  -- a message to a record, and settling it to a time, with the number given
  told : Whole → Message → ℕ → Edge
  settles_to : Whole → ℕ → ℕ → Edge
  -- a call that names a stock of a book of so many stocks, times and prices
  names : (stocks times prices at : ℕ) → ℕ → Edge
  -- a setup of so many stocks, times and prices, to an end
  set_up_row : (stocks times prices end : ℕ) → List Setup → ℕ → Edge
  -- numbers of a record, or an answer as a line with a time and a mark
  shown : List ℕ → List ℕ → Edge

unfoldable pub as_answered : Edge → Bool
as_answered (bad h) = rubbish h
as_answered (good h) = not (rubbish h)
as_answered (told h m number) = eqb (tells m h) number
as_answered (settles_to h time number) = eqb (settles time h) number
as_answered (names stocks times prices at number) = eqb (first (call_checks stocks times prices at)) number
as_answered (set_up_row stocks times prices end us number) = eqb (sets_up stocks times prices end us) number
as_answered (shown is should) = same_numbers is should

unfoldable pub edges : List Edge
edges =
    -- the state, and the kept times
    good (trading_with (referring 100_000 990_000 1) (trade 990_000 100_000 ∷ [])) ∷
    good (sound 5 3_900_000 0 3_900_000 3_900_000 (referring 0 3_900_000 0) no_quotes []) ∷
    bad (sound 6 3_900_000 0 0 0 (referring 0 0 0) no_quotes []) ∷
    bad (sound 5 3_900_001 0 0 0 (referring 0 0 0) no_quotes []) ∷
    bad (sound 5 3_900_000 0 3_900_001 0 (referring 0 0 0) no_quotes []) ∷
    bad (sound 5 3_900_000 0 0 3_900_001 (referring 0 0 0) no_quotes []) ∷
    bad (sound 5 3_900_000 0 0 0 (referring 0 3_900_001 0) no_quotes []) ∷
    -- a reference, over the range and missing
    good (trading_with (referring 999_999_999 990_000 1) []) ∷
    bad (trading_with (referring 1_000_000_000 990_000 1) []) ∷
    bad (trading_with (referring 0 990_000 1) []) ∷
    bad (sound 2 1_000_000 0 990_000 0 (referring 0 990_000 1) no_quotes []) ∷
    bad (sound 3 1_000_000 0 0 990_000 (referring 0 990_000 1) no_quotes []) ∷
    bad (sound 4 3_000_000 0 0 3_000_000 (referring 0 0 0) no_quotes []) ∷
    -- the sum and the count of a reference (R-3): each edge, also in Waiting and in Closed, where none is good
    good (trading_with (mean_of 512 512) []) ∷
    good (trading_with (mean_of 511_999_999_488 512) []) ∷
    good (trading_with (mean_of 1_999_999_998 2) []) ∷
    bad (trading_with (mean_of 513 513) []) ∷
    bad (trading_with (mean_of 511 512) []) ∷
    bad (trading_with (mean_of 511_999_999_489 512) []) ∷
    bad (trading_with (mean_of 1_999_999_999 2) []) ∷
    bad (trading_with (mean_of 0 1) []) ∷
    bad (trading_with (mean_of 100_000 0) []) ∷
    good (sound 0 1_000_000 0 0 0 (mean_of 100_001 2) no_quotes []) ∷
    bad (sound 0 1_000_000 0 0 0 (mean_of 1 0) no_quotes []) ∷
    bad (sound 0 1_000_000 0 0 0 (mean_of 0 1) no_quotes []) ∷
    good (sound 5 3_600_000 0 0 0 (mean_of 0 0) no_quotes []) ∷
    bad (sound 5 3_600_000 0 0 0 (mean_of 513 513) no_quotes []) ∷
    bad (sound 5 3_600_000 0 0 0 (mean_of 2_000_000_000 2) no_quotes []) ∷
    -- which pair each event takes, not reduced: the window's at f, at a T in Waiting, at v, h and T by the Test, and where Limit ends with a trade;
    -- the old one at p, and where Limit ends with none; the price of O and R with count 1; a sum may need more than 32 bits
    shown (referred (after_settling 300_000 (sound 0 100_000 1 0 0 (referring 0 0 0) no_quotes (trade 90_000 1 ∷ trade 100_000 2 ∷ [])))) (1 ∷ 3 ∷ 2 ∷ []) ∷
    shown (referred (after_settling 300_000 (sound 0 100_000 1 0 0 (referring 0 0 0) no_quotes (replicate 5 (trade 90_000 999_999_999))))) (1 ∷ 4_999_999_995 ∷ 5 ∷ []) ∷
    shown (referred (after_telling (T 400_000 7) (waiting 400_000))) (1 ∷ 7 ∷ 1 ∷ []) ∷
    shown (referred (after_telling (T 400_000 7) (sound 0 400_000 0 0 0 (referring 0 0 0) no_quotes (trade 390_000 4 ∷ [])))) (1 ∷ 11 ∷ 2 ∷ []) ∷
    shown (referred (after_settling 1_000_000 (trading_with (old_mean_of 100_000 1) (trade 700_000 100_000 ∷ trade 990_000 101_000 ∷ trade 990_000 101_000 ∷ []))))
    (1 ∷ 202_000 ∷ 2 ∷ []) ∷
    shown (referred (after_settling 1_020_000 (trading_with (mean_of 100_000 1) (trade 990_000 98_999 ∷ trade 990_000 99_000 ∷ [])))) (1 ∷ 197_999 ∷ 2 ∷ []) ∷
    shown (referred (after_telling (T 1_000_000 101_001) (trading_with (old_mean_of 100_000 1) (trade 990_000 101_000 ∷ [])))) (1 ∷ 202_001 ∷ 2 ∷ []) ∷
    shown (referred (after_telling (T 1_000_000 101_000) (trading_with (old_mean_of 100_000 1) (trade 990_000 100_999 ∷ [])))) (1 ∷ 100_000 ∷ 1 ∷ []) ∷
    shown (referred (after_telling (Q 1_000_000 5 0 0) (sound 2 1_000_000 0 990_000 0 (old_mean_of 300_001 3) no_quotes (trade 990_000 100_000 ∷ trade 990_000 100_002 ∷ []))))
    (1 ∷ 200_002 ∷ 2 ∷ []) ∷
    shown (referred (after_telling (Q 1_000_000 5 0 0) (sound 2 1_000_000 0 990_000 0 (old_mean_of 300_001 3) no_quotes []))) (1 ∷ 300_001 ∷ 3 ∷ []) ∷
    shown (referred (after_settling 1_590_000 (sound 3 1_000_000 0 0 990_000 (old_mean_of 300_001 3) no_quotes []))) (1 ∷ 300_001 ∷ 3 ∷ []) ∷
    shown (referred (after_telling (R 1_290_000 2 100_000) (sound 3 1_000_000 0 0 990_000 (old_mean_of 300_001 3) no_quotes []))) (1 ∷ 100_000 ∷ 1 ∷ []) ∷
    shown (referred (after_telling (O 1_000 2 100_000) new_stock)) (1 ∷ 100_000 ∷ 1 ∷ []) ∷
    -- h, a quote, a pause and closing keep both numbers
    shown (referred (after_settling 1_020_000 (trading_with (mean_of 300_001 3) []))) (1 ∷ 300_001 ∷ 3 ∷ []) ∷
    shown (referred (after_telling (Q 1_000_000 5 99_000 0) (trading_with (mean_of 300_001 3) []))) (1 ∷ 300_001 ∷ 3 ∷ []) ∷
    shown (referred (after_settling 1_005_000 (sound 2 1_000_000 0 990_000 0 (old_mean_of 300_001 3) no_quotes []))) (3 ∷ 300_001 ∷ 3 ∷ []) ∷
    shown (referred (after_settling 3_600_000 (sound 1 3_590_000 0 0 0 (old_mean_of 300_001 3) no_quotes []))) (5 ∷ 300_001 ∷ 3 ∷ []) ∷
    -- what is printed: the rounded reference, in every state, and the bands of the exact one; from 105,500, as 105,499.5 is printed, they would be
    -- 95,000 and 116,100
    shown (line 0 0 (tell_answer (P 1_000_000 2) (trading_with (mean_of 1_100_001 10) []))) (0 ∷ 0 ∷ 16 ∷ 1 ∷ 110_000 ∷ 99_000 ∷ 121_000 ∷ 0 ∷ 0 ∷ 0 ∷ 0 ∷ []) ∷
    shown (line 0 0 (tell_answer (P 1_000_000 2) (trading_with (mean_of 210_999 2) []))) (0 ∷ 0 ∷ 16 ∷ 1 ∷ 105_500 ∷ 94_900 ∷ 116_000 ∷ 0 ∷ 0 ∷ 0 ∷ 0 ∷ []) ∷
    shown (noticed (settle_answer 0 (sound 5 3_600_000 0 0 0 (mean_of 201_999 2) no_quotes []))) (0 ∷ 0 ∷ 14 ∷ 5 ∷ 101_000 ∷ 0 ∷ 0 ∷ 0 ∷ 0 ∷ 0 ∷ 0 ∷ []) ∷
    shown (noticed (settle_answer 0 (sound 0 1_000_000 0 0 0 (mean_of 300_001 3) no_quotes []))) (0 ∷ 0 ∷ 14 ∷ 0 ∷ 100_000 ∷ 0 ∷ 0 ∷ 0 ∷ 0 ∷ 0 ∷ 0 ∷ []) ∷
    -- O and R take their price alone, and p the old pair, also where trades are held
    shown (referred (after_telling (O 100_000 2 100_000) (sound 0 100_000 1 0 0 (referring 0 0 0) no_quotes (trade 90_000 7 ∷ [])))) (1 ∷ 100_000 ∷ 1 ∷ []) ∷
    shown (referred (after_telling (R 1_290_000 2 100_000) (sound 3 1_000_000 0 0 990_000 (old_mean_of 300_001 3) no_quotes (trade 995_000 7 ∷ [])))) (1 ∷ 100_000 ∷ 1 ∷ []) ∷
    shown (referred (after_settling 1_590_000 (sound 3 1_300_000 0 0 990_000 (old_mean_of 300_001 3) no_quotes (trade 1_300_000 7 ∷ [])))) (1 ∷ 300_001 ∷ 3 ∷ []) ∷
    -- w, a declared pause, a trade that does not move it and c keep both numbers
    shown (referred (after_settling 2_100_000 (sound 1 2_000_000 0 0 0 (old_mean_of 300_001 3) no_quotes []))) (1 ∷ 300_001 ∷ 3 ∷ []) ∷
    shown (referred (after_telling (P 1_000_000 2) (sound 1 1_000_000 0 0 0 (old_mean_of 300_001 3) (record { bids = set no_quotes.bids 5 1; offers = no_quotes.offers }) []))) (3 ∷ 300_001 ∷ 3 ∷ []) ∷
    shown (referred (after_telling (T 1_000_000 100_001) (trading_with (old_mean_of 300_001 3) []))) (1 ∷ 300_001 ∷ 3 ∷ []) ∷
    shown (referred (after_settling 3_900_000 (sound 4 3_600_000 0 0 3_000_000 (old_mean_of 300_001 3) no_quotes []))) (5 ∷ 300_001 ∷ 3 ∷ []) ∷
    -- printed in Limit, Paused and a Late pause, after an accepted T and by the notice of f
    shown (noticed (settle_answer 0 (sound 2 1_000_000 0 990_000 0 (old_mean_of 210_999 2) no_quotes []))) (0 ∷ 0 ∷ 14 ∷ 2 ∷ 105_500 ∷ 94_900 ∷ 116_000 ∷ 0 ∷ 0 ∷ 0 ∷ 0 ∷ []) ∷
    shown (noticed (settle_answer 0 (sound 3 1_000_000 0 0 990_000 (old_mean_of 210_999 2) no_quotes []))) (0 ∷ 0 ∷ 14 ∷ 3 ∷ 105_500 ∷ 0 ∷ 0 ∷ 0 ∷ 0 ∷ 0 ∷ 0 ∷ []) ∷
    shown (noticed (settle_answer 0 (sound 4 3_600_000 0 0 3_000_000 (old_mean_of 210_999 2) no_quotes []))) (0 ∷ 0 ∷ 14 ∷ 4 ∷ 105_500 ∷ 0 ∷ 0 ∷ 0 ∷ 0 ∷ 0 ∷ 0 ∷ []) ∷
    shown (line 0 0 (tell_answer (T 1_000_000 101_001) (trading_with (old_mean_of 100_000 1) (trade 990_000 101_000 ∷ [])))) (0 ∷ 0 ∷ 0 ∷ 1 ∷ 101_001 ∷ 90_900 ∷ 111_100 ∷ 0 ∷ 0 ∷ 0 ∷ 0 ∷ []) ∷
    shown (noticed (settle_answer 300_000 (sound 0 100_000 1 0 0 (referring 0 0 0) no_quotes (trade 90_000 100_000 ∷ trade 100_000 100_001 ∷ [])))) (300_000 ∷ mark_f ∷ 0 ∷ 1 ∷ 100_001 ∷ 80_000 ∷ 120_000 ∷ 0 ∷ 0 ∷ 0 ∷ 0 ∷ []) ∷
    -- the bands of 100,055.67; from 100,055 the lower would be 90,000
    shown (line 0 0 (tell_answer (P 1_000_000 2) (trading_with (mean_of 300_167 3) []))) (0 ∷ 0 ∷ 16 ∷ 1 ∷ 100_056 ∷ 90_100 ∷ 110_100 ∷ 0 ∷ 0 ∷ 0 ∷ 0 ∷ []) ∷
    -- a trade and a quote at the bands of 105,499.5, which are 94,900 and 116,000
    told (trading_with (mean_of 210_999 2) []) (T 1_000_000 94_899) 12 ∷
    told (trading_with (mean_of 210_999 2) []) (T 1_000_000 94_900) 0 ∷
    told (trading_with (mean_of 210_999 2) []) (T 1_000_000 116_000) 0 ∷
    told (trading_with (mean_of 210_999 2) []) (T 1_000_000 116_001) 12 ∷
    shown (referred (after_telling (Q 1_000_000 5 116_000 0) (trading_with (mean_of 210_999 2) []))) (2 ∷ 210_999 ∷ 2 ∷ []) ∷
    -- a pause that began too late to be one
    good (sound 3 3_000_000 0 0 2_999_999 (referring 1 0 0) no_quotes []) ∷
    bad (sound 3 3_000_000 0 0 3_000_000 (referring 1 0 0) no_quotes []) ∷
    good (sound 4 3_000_000 0 0 3_000_000 (referring 1 0 0) no_quotes []) ∷
    -- quotes
    good (sound 0 0 1 0 0 (referring 0 0 0) (record { bids = set no_quotes.bids 15 999_999_999; offers = no_quotes.offers }) []) ∷
    bad (sound 0 0 1 0 0 (referring 0 0 0) (record { bids = set no_quotes.bids 15 1_000_000_000; offers = no_quotes.offers }) []) ∷
    bad (sound 0 0 1 0 0 (referring 0 0 0) (record { bids = no_quotes.bids; offers = set no_quotes.offers 0 1_000_000_000 }) []) ∷
    -- held trades: how many, their prices, their order
    good (trading_with (referring 1 990_000 1) (replicate 512 (trade 990_000 1))) ∷
    bad (trading_with (referring 1 990_000 1) (replicate 513 (trade 990_000 1))) ∷
    bad (trading_with (referring 1 990_000 1) (trade 990_000 0 ∷ [])) ∷
    bad (trading_with (referring 1 990_000 1) (trade 990_000 0 ∷ trade 990_000 1 ∷ [])) ∷
    good (trading_with (referring 1 990_000 1) (trade 990_000 999_999_999 ∷ trade 1_000_000 1 ∷ [])) ∷
    bad (trading_with (referring 1 990_000 1) (trade 990_000 1_000_000_000 ∷ [])) ∷
    bad (trading_with (referring 1 990_000 1) (trade 1_000_001 1 ∷ [])) ∷
    bad (trading_with (referring 1 990_000 1) (trade 990_000 1 ∷ trade 989_999 1 ∷ [])) ∷
    -- a moment still to come and past: h, f, x, p, v, z; and one dated at the clock
    good (trading_with (referring 1 970_000 1) []) ∷
    bad (trading_with (referring 1 969_999 1) []) ∷
    good (trading_with (referring 1 969_999 0) []) ∷
    good (sound 0 300_000 1 0 0 (referring 0 0 0) no_quotes []) ∷
    bad (sound 0 300_001 1 0 0 (referring 0 0 0) no_quotes []) ∷
    good (sound 2 1_000_000 0 985_000 0 (referring 1 0 0) no_quotes []) ∷
    bad (sound 2 1_000_000 0 984_999 0 (referring 1 0 0) no_quotes []) ∷
    bad (sound 3 1_000_000 0 0 399_999 (referring 1 0 0) no_quotes []) ∷
    good (trading_with (referring 1 0 0) (trade 700_000 1 ∷ [])) ∷
    bad (trading_with (referring 1 0 0) (trade 699_999 1 ∷ [])) ∷
    bad (sound 1 3_600_001 0 0 0 (referring 1 0 0) no_quotes []) ∷
    -- what is not rubbish: a reference in Waiting, trades and quotes in Closed, a Late pause with an early start
    good (sound 0 300_000 0 0 0 (referring 100_000 0 1) no_quotes []) ∷
    good (sound 5 3_600_000 0 0 0 (referring 1 0 1) (record { bids = replicate 16 1; offers = replicate 16 1 }) (trade 0 1 ∷ [])) ∷
    good (sound 4 1_000_000 0 0 0 (referring 1 0 0) no_quotes []) ∷
    -- setups
    good (set_up_as 23_400_000 (record { tier = 2; leverage = 3; primary = 15; close = 999_999_999 })) ∷
    bad (set_up_as 23_400_001 (listed 2)) ∷
    bad (set_up_as 3_599_999 (listed 2)) ∷
    bad (set_up_as 3_600_000 (record { tier = 0; leverage = 1; primary = 0; close = 1 })) ∷
    bad (set_up_as 3_600_000 (record { tier = 3; leverage = 1; primary = 0; close = 1 })) ∷
    bad (set_up_as 3_600_000 (record { tier = 2; leverage = 0; primary = 0; close = 1 })) ∷
    bad (set_up_as 3_600_000 (record { tier = 2; leverage = 4; primary = 0; close = 1 })) ∷
    bad (set_up_as 3_600_000 (record { tier = 1; leverage = 2; primary = 0; close = 1 })) ∷
    bad (set_up_as 3_600_000 (record { tier = 1; leverage = 1; primary = 16; close = 1 })) ∷
    bad (set_up_as 3_600_000 (record { tier = 1; leverage = 1; primary = 0; close = 0 })) ∷
    bad (set_up_as 3_600_000 (record { tier = 1; leverage = 1; primary = 0; close = 1_000_000_000 })) ∷
    -- one check before a later one: 1 and 4, 4 and 5, 5 and 8, 6 and 8, 8 and 9, 11 and 13, 12 and 13
    told (trading_with (referring 0 990_000 1) []) (T 1_000_000 0) 1 ∷
    told plain (T 999_999 0) 4 ∷
    told plain (R 999_999 3 100_000) 5 ∷
    told (trading_with (referring 100_000 970_000 1) []) (R 1_000_000 3 100_000) 6 ∷
    told plain (R 1_000_000 3 100_000) 8 ∷
    told plain (R 1_000_000 2 100_000) 9 ∷
    told (sound 3 1_000_000 0 0 990_000 (referring 1 0 0) no_quotes (replicate 512 (trade 990_000 1))) (T 1_000_000 1) 11 ∷
    told (trading_with (referring 100_000 990_000 1) (replicate 512 (trade 990_000 100_000))) (T 1_000_000 89_999) 12 ∷
    told (trading_with (referring 100_000 990_000 1) (replicate 512 (trade 990_000 100_000))) (T 1_000_000 90_000) 13 ∷
    told (trading_with (referring 100_000 990_000 1) (replicate 511 (trade 990_000 100_000))) (T 1_000_000 110_000) 0 ∷
    told plain (T 1_000_000 110_001) 12 ∷
    -- ranges of a message
    told plain (Q 1_000_000 15 999_999_999 0) 0 ∷
    told plain (Q 1_000_000 16 0 0) 4 ∷
    told plain (Q 1_000_000 15 0 1_000_000_000) 4 ∷
    told plain (Q 1_000_000 15 1_000_000_000 0) 4 ∷
    told plain (Q 3_900_001 15 0 0) 4 ∷
    told plain (T 1_000_000 1_000_000_000) 4 ∷
    told plain (T 3_900_001 100_000) 4 ∷
    told plain (P 1_000_000 16) 4 ∷
    told plain (P 3_900_001 2) 4 ∷
    told new_stock (O 0 16 1) 4 ∷
    told new_stock (O 0 2 0) 4 ∷
    told new_stock (O 0 2 1_000_000_000) 4 ∷
    told new_stock (O 3_900_001 2 1) 4 ∷
    told new_stock (R 0 16 1) 4 ∷
    told new_stock (R 0 2 0) 4 ∷
    told new_stock (R 0 2 1_000_000_000) 4 ∷
    told new_stock (R 3_900_001 2 1) 4 ∷
    told late_at_end (X 3_600_000 16 1) 4 ∷
    told late_at_end (X 3_600_000 2 1_000_000_000) 4 ∷
    told late_at_end (X 3_600_000 2 0) 4 ∷
    told late_at_end (X 3_900_001 2 1) 4 ∷
    told late_at_end (X 3_600_000 2 1) 0 ∷
    -- not the primary: O, P and X, and R above
    told new_stock (O 0 3 1) 8 ∷
    told new_stock (O 0 2 1) 0 ∷
    told plain (P 1_000_000 3) 8 ∷
    told late_at_end (X 3_600_000 3 1) 8 ∷
    told new_stock (O 0 1 1) 8 ∷
    told plain (P 1_000_000 1) 8 ∷
    told plain (R 1_000_000 1 100_000) 8 ∷
    told late_at_end (X 3_600_000 1 1) 8 ∷
    -- the message's time decides, and not the clock: X at E, O at 300,000, a late T in Waiting, which no band stops
    told (sound 4 3_005_000 0 0 3_005_000 (referring 1 0 0) no_quotes []) (X 3_600_000 2 1) 0 ∷
    told (sound 4 3_005_000 0 0 3_005_000 (referring 1 0 0) no_quotes []) (X 3_599_999 2 1) 10 ∷
    told (waiting 0) (O 300_000 2 1) 15 ∷
    told (waiting 400_000) (T 400_000 1) 0 ∷
    told (sound 0 400_000 0 0 0 (referring 100_000 0 0) no_quotes []) (T 400_000 1) 0 ∷
    -- 15 for an opening at 300,000 or later, after 8 and the table's 9 and 7; the table's 9 also before 300,000
    told (waiting 0) (O 299_999 2 1) 0 ∷
    told (waiting 400_000) (O 400_000 2 1) 15 ∷
    told (waiting 0) (O 300_000 3 1) 8 ∷
    told (straddled 100_000) (O 100_000 2 1) 9 ∷
    told (limited no_quotes) (O 1_000_000 2 1) 9 ∷
    told (sound 5 3_600_000 0 0 0 (referring 0 0 0) no_quotes []) (O 3_600_000 2 1) 7 ∷
    -- 16 for a pause without straddle: no quote, quotes at the bands, a limit quote, a bid below the lower band behind a better one, an offer above
    -- the upper behind a better one, sides that are left out, a crossed market; a straddle by one tick is taken
    told plain (P 1_000_000 2) 16 ∷
    told (quoted (sides 90_000 0) (sides 110_000 0)) (P 1_000_000 2) 16 ∷
    told (at_band (referring 100_000 0 0)) (P 1_000_000 2) 16 ∷
    told (quoted (sides 89_999 90_000) (sides 0 0)) (P 1_000_000 2) 16 ∷
    told (quoted (sides 0 0) (sides 110_001 110_000)) (P 1_000_000 2) 16 ∷
    told (quoted (sides 110_001 0) (sides 89_999 0)) (P 1_000_000 2) 16 ∷
    told (quoted (sides 100_001 0) (sides 100_000 0)) (P 1_000_000 2) 16 ∷
    told (quoted (sides 89_999 0) (sides 0 0)) (P 1_000_000 2) 0 ∷
    told (quoted (sides 0 0) (sides 110_001 0)) (P 1_000_000 2) 0 ∷
    -- 16 after 8 and the table's 9 and 7; the table's 9 also with a straddle
    told (straddled 1_000_000) (P 1_000_000 3) 8 ∷
    told (waiting 0) (P 0 2) 9 ∷
    told (limited no_quotes) (P 1_000_000 2) 9 ∷
    told (limited (straddled 0).stock.quotes) (P 1_000_000 2) 9 ∷
    told (sound 3 1_000_000 0 0 990_000 (referring 1 0 0) no_quotes []) (P 1_000_000 2) 9 ∷
    told late_at_end (P 3_600_000 2) 9 ∷
    told (sound 5 3_600_000 0 0 0 (referring 1 0 0) no_quotes []) (P 3_600_000 2) 7 ∷
    -- a straddle makes a pause until E - 600,000 and then a Late pause; without one there is none
    shown (tells (P 2_999_999 2) (straddled 2_990_000) ∷ state_of (after_telling (P 2_999_999 2) (straddled 2_990_000)).stock ∷ []) (0 ∷ Paused ∷ []) ∷
    shown (tells (P 3_000_000 2) (straddled 2_990_000) ∷ state_of (after_telling (P 3_000_000 2) (straddled 2_990_000)).stock ∷ []) (0 ∷ Late ∷ []) ∷
    -- a quote is taken in each state but Closed
    told (sound 3 1_000_000 0 0 990_000 (referring 1 0 0) no_quotes []) (Q 1_000_000 0 1 1) 0 ∷
    told (sound 4 3_000_000 0 0 3_000_000 (referring 1 0 0) no_quotes []) (Q 3_000_000 0 1 1) 0 ∷
    -- settling: 1, 4, 14; a time before the clock is 14
    settles_to (trading_with (referring 0 990_000 1) []) 3_900_001 1 ∷
    settles_to plain 3_900_001 4 ∷
    settles_to (sound 5 3_600_000 0 0 0 (referring 1 0 0) no_quotes []) 3_900_001 4 ∷
    settles_to (sound 5 3_600_000 0 0 0 (referring 1 0 0) no_quotes []) 3_900_000 14 ∷
    settles_to plain 0 14 ∷
    settles_to (trading_with (referring 100_000 970_000 1) []) 1_000_000 0 ∷
    -- w until the clock is there, also in a Late pause; v and h in one too; nothing in Closed
    settles_to (sound 1 899_999 0 0 0 (referring 1 890_000 1) no_quotes []) 900_000 0 ∷
    settles_to (sound 1 900_000 0 0 0 (referring 1 890_000 1) no_quotes []) 900_000 14 ∷
    settles_to (sound 4 2_099_999 0 0 0 (referring 1 0 0) no_quotes []) 2_100_000 0 ∷
    settles_to (sound 4 2_100_000 0 0 0 (referring 1 0 0) no_quotes []) 2_100_000 14 ∷
    settles_to (sound 4 899_999 0 0 0 (referring 1 0 0) no_quotes []) 900_000 0 ∷
    settles_to (sound 0 899_999 0 0 0 (referring 0 0 0) no_quotes []) 900_000 0 ∷
    settles_to (sound 0 2_099_999 0 0 0 (referring 0 0 0) no_quotes []) 2_100_000 0 ∷
    settles_to (sound 4 1_000_000 0 0 0 (referring 1 0 0) no_quotes (trade 700_000 1 ∷ [])) 1_000_000 0 ∷
    settles_to (sound 4 1_000_000 0 0 0 (referring 1 970_000 1) no_quotes []) 1_000_000 0 ∷
    settles_to (sound 5 0 1 0 0 (referring 1 0 1) no_quotes (trade 0 1 ∷ [])) 3_900_000 14 ∷
    -- in one millisecond z before h; and, though no story brings them together, p before h and v, c before v
    shown ((settle_answer 3_600_000 (sound 1 3_590_000 0 0 0 (referring 1 3_570_000 1) no_quotes [])).mark ∷ []) (mark_z ∷ []) ∷
    shown ((settle_answer 1_000_000 (sound 3 990_000 0 0 400_000 (referring 1 970_000 1) no_quotes [])).mark ∷ []) (mark_p ∷ []) ∷
    shown ((settle_answer 1_000_000 (sound 3 990_000 0 0 400_000 (referring 1 0 0) no_quotes (trade 700_000 1 ∷ []))).mark ∷ []) (mark_p ∷ []) ∷
    shown ((settle_answer 3_900_000 (sound 4 3_700_000 0 0 0 (referring 1 0 0) no_quotes (trade 3_600_000 1 ∷ []))).mark ∷ []) (mark_c ∷ []) ∷
    -- a pause that starts at E - 600,000 is a Late pause, one that starts a millisecond earlier is not; closing empties the window
    shown (state_of (after_settling 3_000_000 (sound 2 2_985_000 0 2_985_000 0 (referring 1 0 0) no_quotes [])).stock ∷ []) (Late ∷ []) ∷
    shown (state_of (after_settling 2_999_999 (sound 2 2_984_999 0 2_984_999 0 (referring 1 0 0) no_quotes [])).stock ∷ []) (Paused ∷ []) ∷
    shown (length (after_settling 3_600_000 (sound 1 3_500_000 0 0 0 (referring 1 0 0) no_quotes (trade 3_400_000 1 ∷ []))).window ∷ []) (0 ∷ []) ∷
    shown (length (after_settling 3_900_000 (sound 4 3_600_000 0 0 0 (referring 1 0 0) no_quotes (trade 3_600_000 1 ∷ []))).window ∷ []) (0 ∷ []) ∷
    shown (length (after_telling (X 3_600_000 2 1) (sound 4 3_600_000 0 0 0 (referring 1 0 0) no_quotes (trade 3_600_000 1 ∷ []))).window ∷ []) (0 ∷ []) ∷
    -- a trade and h that do not move the reference do not look at the quotes
    shown (state_of (after_telling (T 1_000_000 100_000) (at_band (referring 100_000 0 0))).stock ∷ []) (Trading ∷ []) ∷
    shown (state_of (after_settling 1_000_000 (at_band (referring 100_000 970_000 1))).stock ∷ []) (Trading ∷ []) ∷
    -- the shape of a book before the stock number
    names 1 512 512 0 0 ∷
    names 1 512 512 1 3 ∷
    names 1 512 511 1 1 ∷
    names 1 513 512 0 1 ∷
    names 0 0 0 0 1 ∷
    names 64 32_768 32_768 63 0 ∷
    names 65 33_280 33_280 0 1 ∷
    -- setup: 1 and 2
    set_up_row 0 0 0 3_600_000 [] 1 ∷
    set_up_row 65 33_280 33_280 3_600_000 (replicate 65 (listed 1)) 1 ∷
    set_up_row 64 32_768 32_768 3_600_000 (replicate 64 (listed 1)) 0 ∷
    set_up_row 1 511 512 0 (listed 1 ∷ []) 1 ∷
    set_up_row 1 512 513 0 (listed 1 ∷ []) 1 ∷
    set_up_row 1 512 512 0 [] 1 ∷
    set_up_row 1 512 512 3_600_000 (listed 1 ∷ listed 1 ∷ []) 1 ∷
    set_up_row 1 513 512 3_600_000 (listed 1 ∷ []) 1 ∷
    set_up_row 1 512 512 0 (listed 1 ∷ []) 2 ∷
    set_up_row 2 1_024 1_024 3_600_000 (listed 1 ∷ listed 3 ∷ []) 2 ∷
    -- the first five minutes: no reference before 300,000, an opening until then; one trade is enough for f
    shown (state_of (after_settling 300_000 (sound 0 100_000 1 0 0 (referring 0 0 0) no_quotes (trade 100_000 1 ∷ []))).stock ∷ []) (Trading ∷ []) ∷
    shown (state_of (after_telling (T 299_999 1) new_stock).stock ∷ []) (Waiting ∷ []) ∷
    told new_stock (O 299_999 2 1) 0 ∷
    -- the codes of the letters and of the marks
    shown (letter_t ∷ letter_q ∷ letter_o ∷ letter_p ∷ letter_r ∷ letter_x ∷ []) (84 ∷ 81 ∷ 79 ∷ 80 ∷ 82 ∷ 88 ∷ []) ∷
    shown (mark_z ∷ mark_w ∷ mark_x ∷ mark_p ∷ mark_c ∷ mark_v ∷ mark_f ∷ mark_h ∷ []) (122 ∷ 119 ∷ 120 ∷ 112 ∷ 99 ∷ 118 ∷ 102 ∷ 104 ∷ []) ∷
    -- an opening and a closing in a state that does not take them
    told plain (O 1_000_000 2 1) 9 ∷
    told plain (X 1_000_000 2 1) 9 ∷
    -- a state over 5 refuses as Closed does
    shown (taken 0 6 ∷ []) (7 ∷ []) ∷
    -- a stock as setup starts it
    shown (numbers_of new_stock) (0 ∷ 0 ∷ 1 ∷ 0 ∷ 0 ∷ 0 ∷ 0 ∷ 0 ∷ 0 ∷ 16 ∷ 16 ∷ 0 ∷ []) ∷
    -- the stock after its opening: a start, a new hold, the price alone in the window
    shown (numbers_of (after_telling (O 1_000 2 100_000) new_stock)) (1 ∷ 1_000 ∷ 1 ∷ 0 ∷ 0 ∷ 100_000 ∷ 1 ∷ 1_000 ∷ 1 ∷ 16 ∷ 16 ∷ 1 ∷ []) ∷
    -- zeros after 1, 2 and 3, and beside a setup that is done; no mark and no time where settling did nothing
    shown (line 0 0 (tell_answer (T 1_000_000 1) (trading_with (referring 0 990_000 1) []))) (0 ∷ 0 ∷ 1 ∷ 0 ∷ 0 ∷ 0 ∷ 0 ∷ 0 ∷ 0 ∷ 0 ∷ 0 ∷ []) ∷
    shown (line 0 0 (answer 2 (trading_with (referring 1 990_000 1) []).stock)) (0 ∷ 0 ∷ 2 ∷ 0 ∷ 0 ∷ 0 ∷ 0 ∷ 0 ∷ 0 ∷ 0 ∷ 0 ∷ []) ∷
    shown (line 0 0 (answer 3 (trading_with (referring 1 990_000 1) []).stock)) (0 ∷ 0 ∷ 3 ∷ 0 ∷ 0 ∷ 0 ∷ 0 ∷ 0 ∷ 0 ∷ 0 ∷ 0 ∷ []) ∷
    shown (line 0 0 (setup_answer 1 512 512 0 (listed 1 ∷ []))) (0 ∷ 0 ∷ 2 ∷ 0 ∷ 0 ∷ 0 ∷ 0 ∷ 0 ∷ 0 ∷ 0 ∷ 0 ∷ []) ∷
    shown (line 0 0 (setup_answer 1 512 512 3_600_000 (listed 1 ∷ []))) (0 ∷ 0 ∷ 0 ∷ 0 ∷ 0 ∷ 0 ∷ 0 ∷ 0 ∷ 0 ∷ 0 ∷ 0 ∷ []) ∷
    shown (line 0 0 (book_tells 3_600_000 (counted new_stock ∷ []) 512 512 1 (T 0 1))) (0 ∷ 0 ∷ 3 ∷ 0 ∷ 0 ∷ 0 ∷ 0 ∷ 0 ∷ 0 ∷ 0 ∷ 0 ∷ []) ∷
    -- 1 for the shape before 3, and 3 before what the stock would answer
    shown (line 0 0 (book_tells 3_600_000 (counted new_stock ∷ []) 511 512 1 (T 0 1))) (0 ∷ 0 ∷ 1 ∷ 0 ∷ 0 ∷ 0 ∷ 0 ∷ 0 ∷ 0 ∷ 0 ∷ 0 ∷ []) ∷
    shown (line 0 0 (book_tells 3_600_000 (counted (trading_with (referring 0 0 0) []) ∷ []) 512 512 1 (T 0 1))) (0 ∷ 0 ∷ 3 ∷ 0 ∷ 0 ∷ 0 ∷ 0 ∷ 0 ∷ 0 ∷ 0 ∷ 0 ∷ []) ∷
    shown (noticed (book_settles 3_600_000 (counted new_stock ∷ []) 512 512 1 7)) (0 ∷ 0 ∷ 3 ∷ 0 ∷ 0 ∷ 0 ∷ 0 ∷ 0 ∷ 0 ∷ 0 ∷ 0 ∷ []) ∷
    shown (noticed (settle_answer 3_900_001 (trading_with (referring 100_000 970_000 1) [])))
    (0 ∷ 0 ∷ 4 ∷ 1 ∷ 100_000 ∷ 90_000 ∷ 110_000 ∷ 0 ∷ 0 ∷ 0 ∷ 0 ∷ []) ∷
    -- every other number with what the stock shows: 15, 16 and 13, and 4 in Waiting with a reference
    shown (line 0 0 (tell_answer (O 400_000 2 1) (sound 0 400_000 0 0 0 (referring 100_000 0 0) no_quotes [])))
    (0 ∷ 0 ∷ 15 ∷ 0 ∷ 100_000 ∷ 0 ∷ 0 ∷ 0 ∷ 0 ∷ 0 ∷ 0 ∷ []) ∷
    shown (line 0 0 (tell_answer (P 1_000_000 2) plain)) (0 ∷ 0 ∷ 16 ∷ 1 ∷ 100_000 ∷ 90_000 ∷ 110_000 ∷ 0 ∷ 0 ∷ 0 ∷ 0 ∷ []) ∷
    shown (line 0 0 (tell_answer (T 1_000_000 90_000) (trading_with (referring 100_000 990_000 1) (replicate 512 (trade 990_000 100_000)))))
    (0 ∷ 0 ∷ 13 ∷ 1 ∷ 100_000 ∷ 90_000 ∷ 110_000 ∷ 0 ∷ 0 ∷ 0 ∷ 0 ∷ []) ∷
    shown (line 0 0 (tell_answer (T 400_000 0) (sound 0 400_000 0 0 0 (referring 100_000 0 0) no_quotes [])))
    (0 ∷ 0 ∷ 4 ∷ 0 ∷ 100_000 ∷ 0 ∷ 0 ∷ 0 ∷ 0 ∷ 0 ∷ 0 ∷ []) ∷
    shown (noticed (settle_answer 1_000_000 plain))
    (0 ∷ 0 ∷ 14 ∷ 1 ∷ 100_000 ∷ 90_000 ∷ 110_000 ∷ 0 ∷ 0 ∷ 0 ∷ 0 ∷ []) ∷
    shown (noticed (settle_answer 1_000_000 (trading_with (referring 100_000 970_000 1) [])))
    (1_000_000 ∷ mark_h ∷ 0 ∷ 1 ∷ 100_000 ∷ 90_000 ∷ 110_000 ∷ 0 ∷ 0 ∷ 0 ∷ 0 ∷ []) ∷
    -- what comes next: f for a new stock, w where f has happened, p for a pause, none in Closed; zeros for rubbish, a wrong shape and an unknown
    -- stock
    shown (upcoming (next_answer new_stock)) (0 ∷ mark_f ∷ 300_000 ∷ []) ∷
    shown (upcoming (next_answer (sound 0 300_000 0 0 0 (referring 0 0 0) no_quotes []))) (0 ∷ mark_w ∷ 900_000 ∷ []) ∷
    shown (upcoming (next_answer (sound 3 1_000_000 0 0 990_000 (referring 1 0 0) no_quotes []))) (0 ∷ mark_p ∷ 1_590_000 ∷ []) ∷
    shown (upcoming (next_answer (sound 5 0 1 0 0 (referring 1 0 1) no_quotes (trade 0 1 ∷ [])))) (0 ∷ 0 ∷ 0 ∷ []) ∷
    shown (upcoming (next_answer (trading_with (referring 0 990_000 1) []))) (1 ∷ 0 ∷ 0 ∷ []) ∷
    shown (upcoming (book_next 3_600_000 (counted new_stock ∷ []) 512 512 0)) (0 ∷ mark_f ∷ 300_000 ∷ []) ∷
    shown (upcoming (book_next 3_600_000 (counted new_stock ∷ []) 511 512 1)) (1 ∷ 0 ∷ 0 ∷ []) ∷
    shown (upcoming (book_next 3_600_000 (counted new_stock ∷ []) 512 512 1)) (3 ∷ 0 ∷ 0 ∷ []) ∷
    -- day totals (R-4). The time since the clock belongs to the state before the event, whatever state is then entered
    shown (totals_told (T 1_000_010 100_000) (mixed (waiting 1_000_000))) (999_995 ∷ 1 ∷ 2 ∷ 3 ∷ 4 ∷ 5 ∷ 7 ∷ 8 ∷ 100_100 ∷ 99_900 ∷ []) ∷
    shown (totals_told (Q 1_000_010 5 99_000 0) (mixed plain)) (999_985 ∷ 11 ∷ 2 ∷ 3 ∷ 4 ∷ 5 ∷ 7 ∷ 8 ∷ 100_100 ∷ 99_900 ∷ []) ∷
    shown (totals_settled 1_005_000 (mixed (limited no_quotes))) (999_985 ∷ 1 ∷ 5_002 ∷ 3 ∷ 4 ∷ 5 ∷ 7 ∷ 9 ∷ 100_100 ∷ 99_900 ∷ []) ∷
    shown (totals_told (R 1_290_000 2 200_000) (mixed (sound 3 1_000_000 0 0 990_000 (referring 1 0 0) no_quotes [])))
    (999_985 ∷ 1 ∷ 2 ∷ 290_003 ∷ 4 ∷ 5 ∷ 7 ∷ 8 ∷ 100_100 ∷ 99_900 ∷ []) ∷
    shown (totals_told (X 3_600_010 2 200_000) (mixed late_at_end)) (3_599_985 ∷ 1 ∷ 2 ∷ 3 ∷ 14 ∷ 5 ∷ 7 ∷ 8 ∷ 100_100 ∷ 99_900 ∷ []) ∷
    shown (total_numbers (brought 0 (sound 5 10 0 0 0 (referring 0 0 0) no_quotes []).stock (sound 5 30 0 0 0 (referring 0 0 0) no_quotes []).stock (mixed plain).totals))
    (999_985 ∷ 1 ∷ 2 ∷ 3 ∷ 4 ∷ 25 ∷ 7 ∷ 8 ∷ 100_100 ∷ 99_900 ∷ []) ∷
    -- an opening is no trade, and may begin a Limit at once; so may a quote, and one that ends a Limit and begins another
    shown (totals_told (O 1_000 2 200_000) (counted new_stock)) (1_000 ∷ 0 ∷ 0 ∷ 0 ∷ 0 ∷ 0 ∷ 0 ∷ 0 ∷ 0 ∷ 0 ∷ []) ∷
    shown (totals_told (O 1_000 2 100_000) (counted (set_up_with (record { bids = no_quotes.bids; offers = set no_quotes.offers 5 80_000 }))))
    (1_000 ∷ 0 ∷ 0 ∷ 0 ∷ 0 ∷ 0 ∷ 1 ∷ 0 ∷ 0 ∷ 0 ∷ []) ∷
    shown (totals_told (Q 1_000_000 5 110_000 0) (mixed plain)) (999_985 ∷ 1 ∷ 2 ∷ 3 ∷ 4 ∷ 5 ∷ 8 ∷ 8 ∷ 100_100 ∷ 99_900 ∷ []) ∷
    shown (totals_told (Q 1_000_000 6 0 0) (mixed (limited (record { bids = no_quotes.bids; offers = set no_quotes.offers 5 90_000 }))))
    (999_985 ∷ 1 ∷ 2 ∷ 3 ∷ 4 ∷ 5 ∷ 7 ∷ 8 ∷ 100_100 ∷ 99_900 ∷ []) ∷
    shown (totals_told (Q 1_000_000 5 0 72_900) (mixed (limited_with (trade 995_000 81_000)))) (999_985 ∷ 1 ∷ 2 ∷ 3 ∷ 4 ∷ 5 ∷ 8 ∷ 8 ∷ 100_100 ∷ 99_900 ∷ []) ∷
    shown (totals_told (Q 1_000_000 5 0 75_000) (mixed (limited_with (trade 995_000 81_000)))) (999_985 ∷ 1 ∷ 2 ∷ 3 ∷ 4 ∷ 5 ∷ 7 ∷ 8 ∷ 100_100 ∷ 99_900 ∷ []) ∷
    -- pauses by x and by P, of both kinds
    shown (totals_settled 3_000_000 (mixed (sound 2 2_985_000 0 2_985_000 0 (referring 1 0 0) no_quotes []))) (2_984_985 ∷ 1 ∷ 15_002 ∷ 3 ∷ 4 ∷ 5 ∷ 7 ∷ 9 ∷ 100_100 ∷ 99_900 ∷ []) ∷
    shown (totals_told (P 2_999_999 2) (mixed (straddled 2_990_000))) (2_989_985 ∷ 10_000 ∷ 2 ∷ 3 ∷ 4 ∷ 5 ∷ 7 ∷ 9 ∷ 100_100 ∷ 99_900 ∷ []) ∷
    shown (totals_told (P 3_000_000 2) (mixed (straddled 2_990_000))) (2_989_985 ∷ 10_001 ∷ 2 ∷ 3 ∷ 4 ∷ 5 ∷ 7 ∷ 9 ∷ 100_100 ∷ 99_900 ∷ []) ∷
    -- the highest and the lowest T: the first of a day, a higher and a lower one; also where one of them was 0 alone, or the lowest was the greater
    shown (totals_told (T 1_000_000 100_000) (counted plain)) (1_000_000 ∷ 0 ∷ 0 ∷ 0 ∷ 0 ∷ 0 ∷ 0 ∷ 0 ∷ 100_000 ∷ 100_000 ∷ []) ∷
    shown (totals_told (T 1_000_000 100_101) (mixed plain)) (999_985 ∷ 1 ∷ 2 ∷ 3 ∷ 4 ∷ 5 ∷ 7 ∷ 8 ∷ 100_101 ∷ 99_900 ∷ []) ∷
    shown (totals_told (T 1_000_000 99_899) (mixed plain)) (999_985 ∷ 1 ∷ 2 ∷ 3 ∷ 4 ∷ 5 ∷ 7 ∷ 8 ∷ 100_100 ∷ 99_899 ∷ []) ∷
    shown (totals_told (T 1_000_000 100_000) (totalled 1_000_000 0 0 0 0 0 0 0 100_100 0 plain)) (1_000_000 ∷ 0 ∷ 0 ∷ 0 ∷ 0 ∷ 0 ∷ 0 ∷ 0 ∷ 100_100 ∷ 100_000 ∷ []) ∷
    shown (totals_told (T 1_000_000 100_000) (totalled 1_000_000 0 0 0 0 0 0 0 99_900 100_100 plain)) (1_000_000 ∷ 0 ∷ 0 ∷ 0 ∷ 0 ∷ 0 ∷ 0 ∷ 0 ∷ 100_000 ∷ 100_000 ∷ []) ∷
    -- a refused T (12), a message before the clock (5) and settling with nothing due (14) change none
    shown (totals_told (T 1_000_010 110_001) (mixed plain)) (999_985 ∷ 1 ∷ 2 ∷ 3 ∷ 4 ∷ 5 ∷ 7 ∷ 8 ∷ 100_100 ∷ 99_900 ∷ []) ∷
    shown (totals_told (T 999_999 100_000) (counted plain)) (1_000_000 ∷ 0 ∷ 0 ∷ 0 ∷ 0 ∷ 0 ∷ 0 ∷ 0 ∷ 0 ∷ 0 ∷ []) ∷
    shown (totals_settled 1_010_000 (mixed plain)) (999_985 ∷ 1 ∷ 2 ∷ 3 ∷ 4 ∷ 5 ∷ 7 ∷ 8 ∷ 100_100 ∷ 99_900 ∷ []) ∷
    -- the counts stop at 4,294,967,295
    shown (totals_told (Q 1_000_000 5 110_000 0) (totalled 1_000_000 0 0 0 0 0 4_294_967_294 0 0 0 plain)) (1_000_000 ∷ 0 ∷ 0 ∷ 0 ∷ 0 ∷ 0 ∷ 4_294_967_295 ∷ 0 ∷ 0 ∷ 0 ∷ []) ∷
    shown (totals_told (Q 1_000_000 5 110_000 0) (totalled 1_000_000 0 0 0 0 0 4_294_967_295 0 0 0 plain)) (1_000_000 ∷ 0 ∷ 0 ∷ 0 ∷ 0 ∷ 0 ∷ 4_294_967_295 ∷ 0 ∷ 0 ∷ 0 ∷ []) ∷
    shown (totals_settled 1_005_000 (totalled 1_000_000 0 0 0 0 0 0 4_294_967_295 0 0 (limited no_quotes))) (1_000_000 ∷ 0 ∷ 5_000 ∷ 0 ∷ 0 ∷ 0 ∷ 0 ∷ 4_294_967_295 ∷ 0 ∷ 0 ∷ []) ∷
    -- wrong totals: six times that are one off the clock or would be the clock if the sum wrapped, and a highest or a lowest over the range
    shown (summary (totals_answer (totalled 100_000 200_000 300_000 200_000 150_000 50_001 1 2 999_999_999 999_999_999 plain)))
    (1 ∷ 0 ∷ 0 ∷ 0 ∷ 0 ∷ 0 ∷ 0 ∷ 0 ∷ 0 ∷ 0 ∷ 0 ∷ []) ∷
    shown (summary (totals_answer (totalled 100_000 200_000 300_000 200_000 150_000 50_000 4_294_967_295 4_294_967_295 999_999_999 999_999_999 plain)))
    (0 ∷ 100_000 ∷ 200_000 ∷ 300_000 ∷ 200_000 ∷ 150_000 ∷ 50_000 ∷ 4_294_967_295 ∷ 4_294_967_295 ∷ 999_999_999 ∷ 999_999_999 ∷ []) ∷
    shown (with_totals.reads (totalled 999_999 0 0 0 0 0 0 0 0 0 plain) ∷ with_totals.reads (totalled 999_999 0 0 0 0 1 0 0 0 0 plain) ∷ with_totals.reads (totalled 999_999 0 0 0 1 1 0 0 0 0 plain) ∷ [])
    (1 ∷ 0 ∷ 1 ∷ []) ∷
    shown (with_totals.reads (totalled 4_294_967_295 1_000_001 0 0 0 0 0 0 0 0 plain) ∷ with_totals.tells (T 1_000_000 0) (totalled 0 0 4_294_967_295 0 0 1_000_001 0 0 0 0 plain) ∷ []) (1 ∷ 1 ∷ []) ∷
    shown (with_totals.reads (totalled 1_000_000 0 0 0 0 0 0 0 1_000_000_000 0 plain) ∷ with_totals.settles 1_000_000 (totalled 1_000_000 0 0 0 0 0 0 0 0 1_000_000_000 plain) ∷ []) (1 ∷ 1 ∷ []) ∷
    shown (with_totals.reads (totalled 1_000_000 0 0 0 0 0 0 0 0 999_999_999 plain) ∷ with_totals.reads (totalled 1_000_000 0 0 0 0 0 0 0 1 2 plain) ∷ []) (0 ∷ 0 ∷ []) ∷
    -- in every state, and with a clock of 0
    shown (with_totals.reads (totalled 0 0 0 0 0 1 0 0 0 0 new_stock) ∷ with_totals.reads (totalled 0 0 0 0 0 0 0 0 0 0 (waiting 1_000_000)) ∷ with_totals.reads (totalled 0 0 0 0 0 0 0 0 0 0 (limited no_quotes)) ∷ with_totals.reads (totalled 0 0 0 0 0 0 0 0 0 0 (sound 3 1_000_000 0 0 990_000 (referring 1 0 0) no_quotes [])) ∷ with_totals.reads (totalled 0 0 0 0 0 0 0 0 0 0 late_at_end) ∷ with_totals.reads (totalled 0 0 0 0 0 0 0 0 0 0 (sound 5 1_000_000 0 0 0 (referring 0 0 0) no_quotes [])) ∷ []) (1 ∷ 1 ∷ 1 ∷ 1 ∷ 1 ∷ 1 ∷ []) ∷
    shown (with_totals.reads (counted new_stock) ∷ with_totals.reads (counted (waiting 1_000_000)) ∷ with_totals.reads (counted (limited no_quotes)) ∷ with_totals.reads (counted (sound 3 1_000_000 0 0 990_000 (referring 1 0 0) no_quotes [])) ∷ with_totals.reads (counted late_at_end) ∷ with_totals.reads (counted (sound 5 1_000_000 0 0 0 (referring 0 0 0) no_quotes [])) ∷ []) (0 ∷ 0 ∷ 0 ∷ 0 ∷ 0 ∷ 0 ∷ []) ∷
    -- time in Limit or in a pause with a count of 0 is not wrong
    shown (with_totals.reads (totalled 0 0 1_000_000 0 0 0 0 0 0 0 plain) ∷ with_totals.reads (totalled 0 0 0 1_000_000 0 0 0 0 0 0 plain) ∷ with_totals.reads (totalled 0 0 0 0 1_000_000 0 0 0 0 0 plain) ∷ []) (0 ∷ 0 ∷ 0 ∷ []) ∷
    -- 1 for wrong totals with zeros beside it, and asking a book: 1 for the shape, 3, 1 for rubbish
    shown (line 0 0 (with_totals.tell_answer (Q 1_000_000 5 99_000 0) (totalled 0 0 0 0 0 0 0 0 0 0 plain))) (0 ∷ 0 ∷ 1 ∷ 0 ∷ 0 ∷ 0 ∷ 0 ∷ 0 ∷ 0 ∷ 0 ∷ 0 ∷ []) ∷
    shown (upcoming (with_totals.next_answer (totalled 0 0 0 0 0 0 0 0 0 0 plain))) (1 ∷ 0 ∷ 0 ∷ []) ∷
    shown (summary (book_totals 3_600_000 (mixed plain ∷ []) 512 512 0)) (0 ∷ 999_985 ∷ 1 ∷ 2 ∷ 3 ∷ 4 ∷ 5 ∷ 7 ∷ 8 ∷ 100_100 ∷ 99_900 ∷ []) ∷
    shown (summary (book_totals 3_600_000 (mixed plain ∷ []) 511 512 1)) (1 ∷ 0 ∷ 0 ∷ 0 ∷ 0 ∷ 0 ∷ 0 ∷ 0 ∷ 0 ∷ 0 ∷ 0 ∷ []) ∷
    shown (summary (book_totals 3_600_000 (mixed plain ∷ []) 512 512 1)) (3 ∷ 0 ∷ 0 ∷ 0 ∷ 0 ∷ 0 ∷ 0 ∷ 0 ∷ 0 ∷ 0 ∷ 0 ∷ []) ∷
    shown (summary (book_totals 3_600_000 (mixed (trading_with (referring 0 990_000 1) []) ∷ []) 512 512 0)) (1 ∷ 0 ∷ 0 ∷ 0 ∷ 0 ∷ 0 ∷ 0 ∷ 0 ∷ 0 ∷ 0 ∷ 0 ∷ []) ∷
    []
