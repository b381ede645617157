-- Document 01 in words: ranges, quotes, moments, rubbish, numbers and answers, in the order of its sections. Each name is a proposition over
-- numbers, or a table of such: no test of the rules is used. From the rules it takes only the names of states (Stock), of marks (Moments) and of
-- fields; from the crate band it takes the bands, and the words for the printed mean and one percent. The demands `numbers`, `book_numbers`,
-- `setup_numbers`, `moments_are`, `shows`, `answers` and `mean` say that the rules compute this. The crates stock and book state what bytes mean,
-- and what a refusal leaves of them.
--
-- To read it: `A and B`, `A or B`, `¬ A` are "and", "or", "not", and "and" binds before "or"; `a ≡ b` is "equals"; `(x : ℕ) × A` is "there is
-- a number x with A"; `(x : ℕ) → A` is "for every x, A"; `n for A` is a row of a table: the number n, given where A holds and no row
-- above does. The key of Demands.antt has the rest.
-- Assumes nothing.
use Rattle.std.specs.Prelude.{ℕ, ◌+◌, ◌-◌, ◌*◌, ◌≤◌, ◌<◌, List, [], ◌∷◌, ◌≡◌, length}
use Rattle.forms.specs.Words.{◌or◌, ◌and◌, Some, IsOneOf, Number, Gives, Otherwise}
use Rattle.forms.specs.Words.Number.{◌for◌}
use Rattle.band.specs.Band.{percent_of, factor_of, bands_of}
use Rattle.band.specs.Words as arithmetic
use Rattle.band.specs.declared.Bands.{Bands}
use Rattle.band.specs.declared.Mean.{Mean}
use Rattle.rules.specs.Stock.{Trade, Whole, Waiting, Trading, Limit, Paused, Late, Closed, state_of, clock_of}
use Rattle.rules.specs.Moments.{mark_z, mark_w, mark_x, mark_p, mark_c, mark_v, mark_f, mark_h}
use Rattle.rules.specs.declared.Side.{Side}
use Rattle.rules.specs.declared.Answer.{Answer}
use Rattle.rules.specs.declared.Notice.{Notice}
use Rattle.rules.specs.declared.Setup.{Setup}
use Rattle.rules.specs.declared.Quotes.{Quotes}
use Rattle.rules.specs.declared.Stock.{Stock}
use Rattle.rules.specs.declared.Moment.{Moment}
use Rattle.rules.specs.declared.Upcoming.{Upcoming}
use Rattle.rules.specs.declared.Message.{Message}
use Rattle.rules.specs.declared.Message.TheVariants.{Trade as T, Quote as Q, Opening as O, Pause as P, Reopening as R, Closing as X}

-- ------------------------------------------------------------------ "What the book holds"

-- 1 to 64 stocks, and 512 places of each array for each
abbrev pub IsShape : ℕ → ℕ → ℕ → Type 0
IsShape stocks times prices = 1 ≤ stocks and stocks ≤ 64 and times ≡ 512 * stocks and prices ≡ 512 * stocks

-- ------------------------------------------------------------------ "Units and ranges"

-- a price is 1 to 999,999,999
abbrev pub IsPrice : ℕ → Type 0
IsPrice price = 1 ≤ price and price ≤ 999_999_999

-- a side of a quote is a price, or 0 where it is absent
abbrev pub IsSide : ℕ → Type 0
IsSide price = price ≤ 999_999_999

-- a participant is 0 to 15
abbrev pub IsParticipant : ℕ → Type 0
IsParticipant participant = participant ≤ 15

-- the session's end E is from 3,600,000 up to 23,400,000
abbrev pub IsEnd : ℕ → Type 0
IsEnd end = 3_600_000 ≤ end and end ≤ 23_400_000

-- a time is at most E + 300,000
abbrev pub IsTime : ℕ → ℕ → Type 0
IsTime end time = time ≤ end + 300_000

-- the tier is 1 or 2, the leverage at most 3 and in tier 1 only 1; the primary is a participant, the previous close a price
abbrev pub IsSetup : Setup → Type 0
IsSetup u =
    1 ≤ u.tier and u.tier ≤ 2
    and 1 ≤ u.leverage and u.leverage ≤ 3
    and (u.tier ≡ 1 → u.leverage ≤ 1)
    and IsParticipant u.primary
    and IsPrice u.close

-- ------------------------------------------------------------------ "Band arithmetic": the mean (R-3); of "States", one percent

-- the sum of the prices of trades
abbrev pub sum_of : List Trade → ℕ
sum_of [] = 0
sum_of (t ∷ ts) = t.price + sum_of ts

-- the mean of trades, exact: the sum of their prices and how many they are, not reduced; without a trade there is none
abbrev pub IsMean : List Trade → Mean → Type 0
IsMean w mean = 1 ≤ length w and mean.sum ≡ sum_of w and mean.count ≡ length w

-- a price as a mean: a sum with count 1
abbrev pub IsPriceAlone : ℕ → Mean → Type 0
IsPriceAlone price mean = mean.sum ≡ price and mean.count ≡ 1

-- 100 x |mean - reference| >= reference, in band's words, of the exact numbers
abbrev pub OnePercent : Mean → Mean → Type 0
OnePercent mean reference = arithmetic.OnePercent mean.sum mean.count reference.sum reference.count

-- the printed value, in band's words: the whole price nearest to the mean, a half going up; 0 where there is none
abbrev pub IsPrinted : Mean → ℕ → Type 0
IsPrinted mean price = (mean.count ≡ 0 and price ≡ 0) or arithmetic.IsPrinted mean.sum mean.count price

-- ------------------------------------------------------------------ "Quotes and flags"

-- the bands of the exact reference, by the stock's close, and by the k of a time ("Band arithmetic")
abbrev pub bands_at : Stock → ℕ → Bands
bands_at s time =
    bands_of s.reference.price.sum s.reference.price.count (percent_of s.setup.tier s.setup.close) (factor_of s.setup.leverage time s.end)

-- the bands in force: in Trading by the k of the clock, in Limit by the k at its entry, and none elsewhere
abbrev pub HasBands : Stock → Bands → Type 0
HasBands s l = (state_of s ≡ Trading and l ≡ bands_at s (clock_of s)) or (state_of s ≡ Limit and l ≡ bands_at s s.course.entry)

-- a bid counts if it is present and not above the upper band in force
abbrev pub BidCounts : Stock → ℕ → Type 0
BidCounts s bid = 1 ≤ bid and ((l : Bands) → HasBands s l → bid ≤ l.upper)

-- an offer counts if it is present and not below the lower band in force
abbrev pub OfferCounts : Stock → ℕ → Type 0
OfferCounts s offer = 1 ≤ offer and ((l : Bands) → HasBands s l → l.lower ≤ offer)

-- the best bid is the highest that counts
abbrev pub BestBid : Stock → ℕ → Type 0
BestBid s best =
    IsOneOf best s.quotes.bids and BidCounts s best
    and ((bid : ℕ) → IsOneOf bid s.quotes.bids → BidCounts s bid → bid ≤ best)

-- the best offer is the lowest that counts
abbrev pub BestOffer : Stock → ℕ → Type 0
BestOffer s best =
    IsOneOf best s.quotes.offers and OfferCounts s best
    and ((offer : ℕ) → IsOneOf offer s.quotes.offers → OfferCounts s offer → best ≤ offer)

-- a straddle, which is flag 2 on a side: the best bid is below the lower band, or the best offer above the upper
abbrev pub Straddle : Stock → Type 0
Straddle s = (l : Bands) × HasBands s l × (((bid : ℕ) × BestBid s bid × (bid < l.lower)) or ((offer : ℕ) × BestOffer s offer × (l.upper < offer)))

-- flag 3 on a side: the best bid is the upper band, or the best offer the lower
abbrev pub AtBand : Stock → Type 0
AtBand s = (l : Bands) × HasBands s l × (BestBid s l.upper or BestOffer s l.lower)

-- the best bid is higher than the best offer; where a side is absent nothing crosses
abbrev pub Crossing : Stock → Type 0
Crossing s = (bid : ℕ) × (offer : ℕ) × BestBid s bid × BestOffer s offer × (offer < bid)

-- a best bid as it is shown: 0 with flag 0 where there is none; flag 2 non-executable, 3 limit, 1 plain
abbrev pub BidShown : Stock → Side → Type 0
BidShown s bid =
    (¬ ((b : ℕ) × BestBid s b) and bid.price ≡ 0 and bid.flag ≡ 0)
    or (BestBid s bid.price and Gives (
    2 for ((l : Bands) × HasBands s l × (bid.price < l.lower)) ∷
    3 for ((l : Bands) × HasBands s l × (bid.price ≡ l.upper)) ∷
    1 for Otherwise ∷
    []) bid.flag)

-- a best offer as it is shown: 0 with flag 0 where there is none; flag 2 non-executable, 3 limit, 1 plain
abbrev pub OfferShown : Stock → Side → Type 0
OfferShown s offer =
    (¬ ((o : ℕ) × BestOffer s o) and offer.price ≡ 0 and offer.flag ≡ 0)
    or (BestOffer s offer.price and Gives (
    2 for ((l : Bands) × HasBands s l × (l.upper < offer.price)) ∷
    3 for ((l : Bands) × HasBands s l × (offer.price ≡ l.lower)) ∷
    1 for Otherwise ∷
    []) offer.flag)

-- ------------------------------------------------------------------ "Moments"

-- a mark, its time, and the words for which it is still to come
pub record Coming : Type 1 where
  pub mark : ℕ
  pub time : ℕ
  pub comes : Type 0

infix 0 ◌at◌while◌
abbrev pub ◌at◌while◌ : ℕ → ℕ → Type 0 → Coming
mark at time while comes = record { mark = mark; time = time; comes = comes }

-- the time of the oldest trade, where there is one
abbrev pub oldest_at : List Trade → ℕ
oldest_at [] = 0
oldest_at (t ∷ ts) = t.at

-- the table of moments, in the order of ties, each with its states: up to Limit these are 0, 1 and 2, up to Late 0 to 4, from Trading to Late 1 to 4. w is still to come
-- while the clock is before it, f and h while their markers are not 0; v is that of the oldest trade
abbrev pub moments : Whole → List Coming
moments h =
    let s = h.stock in
    (mark_z at s.end while state_of s ≤ Limit) ∷
    (mark_w at 900_000 while state_of s ≤ Late and clock_of s < 900_000) ∷
    (mark_w at s.end - 1_500_000 while state_of s ≤ Late and clock_of s < s.end - 1_500_000) ∷
    (mark_x at s.course.entry + 15_000 while state_of s ≡ Limit) ∷
    (mark_p at s.course.pause + 600_000 while state_of s ≡ Paused) ∷
    (mark_c at s.end + 300_000 while state_of s ≡ Late) ∷
    (mark_v at oldest_at h.window + 300_000 while state_of s ≤ Late and ¬ (length h.window ≡ 0)) ∷
    (mark_f at 300_000 while state_of s ≡ Waiting and ¬ (s.course.early ≡ 0)) ∷
    (mark_h at s.reference.start + 30_000 while Trading ≤ state_of s and state_of s ≤ Late and ¬ (s.reference.hold ≡ 0)) ∷
    []

-- one of the moments is still to come, and its time has the property
abbrev pub Comes : (ℕ → Type 0) → List Coming → Type 0
Comes At [] = ⊥
Comes At (c ∷ cs) = (c.comes and At c.time) or Comes At cs

-- a moment not after `time` is unsettled
abbrev pub Due : ℕ → Whole → Type 0
Due time h = Comes (λ t. t ≤ time) (moments h)

-- the moment of a notice
abbrev pub its_moment : Notice → Moment
its_moment n = record { mark = n.mark; time = n.time }

-- the moment m is the earliest still to come, and of two at one time the one that stands first
abbrev pub IsFirst : Moment → List Coming → Type 0
IsFirst m [] = ⊥
IsFirst m (c ∷ cs) =
    (c.comes and m.mark ≡ c.mark and m.time ≡ c.time and ¬ Comes (λ time. time < c.time) cs)
    or ((c.comes → m.time < c.time) and IsFirst m cs)

-- no moment is still to come
abbrev pub NoneComes : Whole → Type 0
NoneComes h = ¬ Comes (λ time. Otherwise) (moments h)

-- ------------------------------------------------------------------ "Numbers given back": rubbish

-- a kept time is after E + 300,000; stale ones are checked too
abbrev pub BadTime : Stock → Type 0
BadTime s =
    ¬ IsTime s.end (clock_of s)
    or ¬ IsTime s.end s.reference.start
    or ¬ IsTime s.end s.course.entry
    or ¬ IsTime s.end s.course.pause

-- a bid or an offer out of range
abbrev pub BadQuote : Quotes → Type 0
BadQuote q = Some (λ bid. ¬ IsSide bid) q.bids or Some (λ offer. ¬ IsSide offer) q.offers

-- a reference is that of at most 512 prices, and its sum is one that so many prices can have: from the count up to 999,999,999 times the count; none
-- has the sum 0 and the count 0
abbrev pub IsReference : Mean → Type 0
IsReference m = m.count ≤ 512 and m.count ≤ m.sum and m.sum ≤ 999_999_999 * m.count

-- a reference that no prices can have, or a missing one in Trading, Limit or a pause
abbrev pub BadReference : Stock → Type 0
BadReference s =
    let m = s.reference.price in
    ¬ IsReference m or (m.count ≡ 0 and Trading ≤ state_of s and state_of s ≤ Late)

-- a held trade whose price is out of range, or whose time is after the clock or before that of the previous trade; a time out of range is after the clock, or
-- the clock is out of range itself (`BadTime`)
abbrev pub BadTrade : ℕ → ℕ → List Trade → Type 0
BadTrade clock ahead [] = ⊥
BadTrade clock ahead (t ∷ ts) = (¬ IsPrice t.price or clock < t.at or t.at < ahead) or BadTrade clock t.at ts

-- a state over 5; E or a number of the setup out of range; a bad kept time, quote or reference; Paused although the pause began at E - 600,000 or after it
abbrev pub BadStock : Stock → Type 0
BadStock s =
    Closed < state_of s
    or ¬ IsSetup s.setup
    or ¬ IsEnd s.end
    or BadTime s
    or BadQuote s.quotes
    or BadReference s
    or (state_of s ≡ Paused and s.end - 600_000 ≤ s.course.pause)

-- a stock is rubbish: it is bad, it has over 512 trades or a bad one, or the time of a moment still to come is before the clock
abbrev pub Rubbish : Whole → Type 0
Rubbish h =
    BadStock h.stock
    or 512 < length h.window
    or BadTrade (clock_of h.stock) 0 h.window
    or Comes (λ time. time < clock_of h.stock) (moments h)

-- ------------------------------------------------------------------ "Numbers given back": the calls, each with its table

-- 4: a price, a participant or the time is out of range
abbrev pub OutOfRange : ℕ → Message → Type 0
OutOfRange end (T time price) = ¬ IsPrice price or ¬ IsTime end time
OutOfRange end (Q time participant bid offer) = ¬ IsParticipant participant or ¬ IsSide bid or ¬ IsSide offer or ¬ IsTime end time
OutOfRange end (O time participant price) = ¬ IsParticipant participant or ¬ IsPrice price or ¬ IsTime end time
OutOfRange end (P time participant) = ¬ IsParticipant participant or ¬ IsTime end time
OutOfRange end (R time participant price) = ¬ IsParticipant participant or ¬ IsPrice price or ¬ IsTime end time
OutOfRange end (X time participant price) = ¬ IsParticipant participant or ¬ IsPrice price or ¬ IsTime end time

-- O, P, R and X name the primary
abbrev pub FromPrimary : Stock → Message → Type 0
FromPrimary s (T time price) = Otherwise
FromPrimary s (Q time participant bid offer) = Otherwise
FromPrimary s (O time participant price) = participant ≡ s.setup.primary
FromPrimary s (P time participant) = participant ≡ s.setup.primary
FromPrimary s (R time participant price) = participant ≡ s.setup.primary
FromPrimary s (X time participant price) = participant ≡ s.setup.primary

-- 12: a price outside bands in force. In Trading their k is that of the clock; it is also that of the message's time, since otherwise a w is
-- unsettled and gives 6. In Limit their k is that of the entry
abbrev pub Outside : Stock → ℕ → Type 0
Outside s price = (l : Bands) × HasBands s l × (price < l.lower or l.upper < price)

-- the numbers of each message from 8 on: the primary, the table of message by state (7, 9, 11), and its own
abbrev pub own_refusals : Message → Whole → List Number
own_refusals (T time price) h =
    let s = h.stock in
    7 for (state_of s ≡ Closed) ∷
    11 for (state_of s ≡ Paused or state_of s ≡ Late) ∷
    12 for Outside s price ∷
    13 for (512 ≤ length h.window) ∷
    []
own_refusals (Q time participant bid offer) h =
    7 for (state_of h.stock ≡ Closed) ∷
    []
own_refusals (O time participant price) h =
    let s = h.stock in
    8 for (¬ (participant ≡ s.setup.primary)) ∷
    7 for (state_of s ≡ Closed) ∷
    9 for (¬ (state_of s ≡ Waiting)) ∷
    15 for (300_000 ≤ time) ∷
    []
own_refusals (P time participant) h =
    let s = h.stock in
    8 for (¬ (participant ≡ s.setup.primary)) ∷
    7 for (state_of s ≡ Closed) ∷
    9 for (¬ (state_of s ≡ Trading)) ∷
    16 for (¬ Straddle s) ∷
    []
own_refusals (R time participant price) h =
    let s = h.stock in
    8 for (¬ (participant ≡ s.setup.primary)) ∷
    7 for (state_of s ≡ Closed) ∷
    9 for (¬ (state_of s ≡ Paused)) ∷
    10 for (time < s.course.pause + 300_000) ∷
    []
own_refusals (X time participant price) h =
    let s = h.stock in
    8 for (¬ (participant ≡ s.setup.primary)) ∷
    7 for (state_of s ≡ Closed) ∷
    9 for (¬ (state_of s ≡ Late)) ∷
    10 for (time < s.end) ∷
    []

-- the time that a message names
abbrev pub time_in : Message → ℕ
time_in (T time price) = time
time_in (Q time participant bid offer) = time
time_in (O time participant price) = time
time_in (P time participant) = time
time_in (R time participant price) = time
time_in (X time participant price) = time

-- a message: 1, 4, 5, 6, and its own
abbrev pub refusals : Message → Whole → List Number
refusals m h =
    1 for Rubbish h ∷
    4 for OutOfRange h.stock.end m ∷
    5 for (time_in m < clock_of h.stock) ∷
    6 for Due (time_in m) h ∷
    own_refusals m h

-- no check before the table of message by state applies: the stock is no rubbish, every field is in range, the time is not before the clock, no
-- moment is unsettled, and O, P, R and X come from the primary
abbrev pub ReachesTable : Message → Whole → Type 0
ReachesTable m h =
    ¬ Rubbish h
    and ¬ OutOfRange h.stock.end m
    and clock_of h.stock ≤ time_in m
    and ¬ Due (time_in m) h
    and FromPrimary h.stock m

-- 9: the stock is neither Closed nor in the one state that takes O, P, R or X; no state answers T or Q with 9
abbrev pub WrongState : Stock → Message → Type 0
WrongState s (T time price) = ⊥
WrongState s (Q time participant bid offer) = ⊥
WrongState s (O time participant price) = ¬ (state_of s ≡ Closed) and ¬ (state_of s ≡ Waiting)
WrongState s (P time participant) = ¬ (state_of s ≡ Closed) and ¬ (state_of s ≡ Trading)
WrongState s (R time participant price) = ¬ (state_of s ≡ Closed) and ¬ (state_of s ≡ Paused)
WrongState s (X time participant price) = ¬ (state_of s ≡ Closed) and ¬ (state_of s ≡ Late)

-- 15: an opening at 300,000 or later, of a stock that is Waiting
abbrev pub TooLate : Stock → Message → Type 0
TooLate s m = (time : ℕ) × (participant : ℕ) × (price : ℕ) × (m ≡ O time participant price and state_of s ≡ Waiting and 300_000 ≤ time)

-- 16: a pause of a stock that is Trading and shows flag 2 on neither side
abbrev pub NoStraddle : Stock → Message → Type 0
NoStraddle s m =
    (time : ℕ) × (participant : ℕ) × (m ≡ P time participant and state_of s ≡ Trading
    and ((bid : Side) → BidShown s bid → ¬ (bid.flag ≡ 2)) and ((offer : Side) → OfferShown s offer → ¬ (offer.flag ≡ 2)))

-- settling to a time: 1, 4, and 14 where nothing is due; 5 is for messages only
abbrev pub settle_refusals : ℕ → Whole → List Number
settle_refusals time h =
    1 for Rubbish h ∷
    4 for (¬ IsTime h.stock.end time) ∷
    14 for (¬ Due time h) ∷
    []

-- reading, which changes nothing: 1
abbrev pub read_refusals : Whole → List Number
read_refusals h = 1 for Rubbish h ∷ []

-- one of these calls on a book of so many stocks and places: 1 for the shape and 3 for an unknown stock come before its own numbers, also before
-- rubbish
abbrev pub book_refusals : (stocks times prices i : ℕ) → List Number → List Number
book_refusals stocks times prices i own =
    1 for (¬ IsShape stocks times prices) ∷
    3 for (stocks ≤ i) ∷
    own

-- setup: 1 for the shape and for a list of the wrong length, 2 for an E or a setup out of range
abbrev pub setup_refusals : (stocks times prices end : ℕ) → List Setup → List Number
setup_refusals stocks times prices end us =
    1 for (¬ IsShape stocks times prices or ¬ (length us ≡ stocks)) ∷
    2 for (¬ IsEnd end or Some (λ u. ¬ IsSetup u) us) ∷
    []

-- ------------------------------------------------------------------ "Numbers given back": the answers

-- zeros beside the number
abbrev pub ShowsNothing : Answer → Type 0
ShowsNothing a =
    a.state ≡ 0 and a.reference ≡ 0 and a.lower ≡ 0 and a.upper ≡ 0
    and a.best.bid.price ≡ 0 and a.best.bid.flag ≡ 0 and a.best.offer.price ≡ 0 and a.best.offer.flag ≡ 0

-- lower and upper are the bands in force, and 0 where there are none
abbrev pub BandsShown : Stock → Bands → Type 0
BandsShown s l = HasBands s l or (¬ ((b : Bands) × HasBands s b) and l.lower ≡ 0 and l.upper ≡ 0)

-- state, printed reference, lower, upper, best bid and flag, best offer and flag of a stock
abbrev pub ShowsStock : Stock → Answer → Type 0
ShowsStock s a =
    a.state ≡ state_of s and IsPrinted s.reference.price a.reference and BandsShown s (record { lower = a.lower; upper = a.upper })
    and BidShown s a.best.bid and OfferShown s a.best.offer

-- a number that is given back is one of those above, or 0
abbrev pub IsNumber : ℕ → Type 0
IsNumber number = number ≤ 16

-- every number of an answer is in its range; bands can pass the largest price
abbrev pub AnswerInRange : Answer → Type 0
AnswerInRange a =
    IsNumber a.number and a.state ≤ Closed and IsSide a.reference and a.lower ≤ 2_200_000_000 and a.upper ≤ 2_200_000_000
    and IsSide a.best.bid.price and a.best.bid.flag ≤ 3 and IsSide a.best.offer.price and a.best.offer.flag ≤ 3

-- every number of a notice is in its range: a letter's code or 0, and a time of a session
abbrev pub NoticeInRange : Notice → Type 0
NoticeInRange n = AnswerInRange n.answer and n.mark ≤ mark_z and n.time ≤ 23_700_000

-- every number of what comes next is in its range
abbrev pub UpcomingInRange : Upcoming → Type 0
UpcomingInRange u = IsNumber u.number and u.mark ≤ mark_z and u.time ≤ 23_700_000

-- a number with what the stock shows; after 1, 2 and 3 zeros
abbrev pub Shows : ℕ → Stock → Answer → Type 0
Shows n s a =
    let nothing = n ≡ 1 or n ≡ 2 or n ≡ 3 in
    a.number ≡ n and ((nothing and ShowsNothing a) or (¬ nothing and ShowsStock s a))

-- no moment
abbrev pub ShowsNone : Upcoming → Type 0
ShowsNone u = u.mark ≡ 0 and u.time ≡ 0

-- the earliest moment still to come, mark 0 and time 0 where there is none
abbrev pub ShowsNext : Whole → Upcoming → Type 0
ShowsNext h u =
    (¬ (u.mark ≡ 0) and IsFirst (record { mark = u.mark; time = u.time }) (moments h))
    or (NoneComes h and ShowsNone u)
