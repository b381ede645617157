-- A stock read off its accepted history (demand 2): what document 01 says of held trades, quotes, the reference and the clock in "States",
-- "Moments" and "Messages", its limit pauses (R-2) and its day totals (R-4). `Changes` says in words what one event does; the window at an event
-- that starts a reference is the stock's.
-- Assumes nothing.
use Rattle.std.specs.Prelude.{ℕ, zero, suc, ◌+◌, ◌≤◌, ◌<◌, Bool, List, [], ◌∷◌, ◌++◌, ◌≡◌, eqb, ltb}
use Rattle.forms.specs.Choice.{if◌then◌otherwise◌}
use Rattle.forms.specs.Words.{◌or◌, ◌and◌, IsOneOf}
use Rattle.rules.specs.Stock.{Trade, Whole, Waiting, Trading, Limit, Paused, Late, Closed, state_of}
use Rattle.band.specs.declared.Mean.{Mean}
use Rattle.rules.specs.Moments.{mark_x}
use Rattle.rules.specs.Machine.{Event, message, moment, dated, becomes, left, Since, Every}
use Rattle.rules.specs.Book.{machine, Story}
use Rattle.rules.specs.Changes.{joins, quote_by, Starts, StartsOne}
use Rattle.rules.specs.declared.Notice.{Notice}
use Rattle.rules.specs.declared.Message.{Message}
use Rattle.rules.specs.declared.Message.TheVariants.{Trade as T, Quote as Q, Opening as O, Pause as P, Reopening as R, Closing as X}

-- the mark of a notice
abbrev pub mark_of : Notice → ℕ
mark_of n = n.mark

-- ------------------------------------------------------------------ the held trades and the quotes

-- the trades since the last opening or reopening, whose price is the first of them; w are the trades before the story
abbrev pub joined : List Trade → Story → List Trade
joined w [] = w
joined w (e ∷ es) = joined (joins w e) es

-- the last bid and offer of participant i; `last` are those before the story
abbrev pub last_quote : ℕ → ℕ × ℕ → Story → ℕ × ℕ
last_quote i last [] = last
last_quote i last (e ∷ es) = last_quote i (quote_by i last e) es

-- ------------------------------------------------------------------ the reference ("States")

-- no event of the story starts a reference
abbrev pub NoneStarted : Whole → Story → Type 0
NoneStarted h [] = Unit {0}
NoneStarted h (e ∷ es) = ¬ StartsOne h e × NoneStarted (becomes machine h e) es

-- an event of the story, dated `start`, started a reference of that exact price, and none was started since
abbrev pub StartedBy : Mean → ℕ → Whole → Story → Type 0
StartedBy price start h es = Since machine (λ h e. Starts h e price) NoneStarted start h es

-- ------------------------------------------------------------------ dates ("Moments")

-- the date of the last event, 0 before any
abbrev pub last_date : ℕ → Story → ℕ
last_date last [] = last
last_date last (e ∷ es) = last_date (dated machine e) es

-- ------------------------------------------------------------------ limit pauses (R-2)

-- the starts of the limit pauses among a stock's notices, in order: a limit pause is one that x began, Paused or Late, and it starts at x's date
unfoldable pub limit_pauses : List Notice → List ℕ
limit_pauses [] = []
limit_pauses (n ∷ ns) = if eqb (mark_of n) mark_x then n.time ∷ limit_pauses ns otherwise limit_pauses ns

-- ------------------------------------------------------------------ moments in a row

-- how many moments of a mark there are
unfoldable pub count_of : ℕ → Story → ℕ
count_of mark [] = 0
count_of mark (message m ∷ es) = count_of mark es
count_of mark (moment n ∷ es) = (if eqb (mark_of n) mark then 1 otherwise 0) + count_of mark es

-- the events are moments only
abbrev pub MomentsOnly : Story → Type 0
MomentsOnly [] = Unit {0}
MomentsOnly (message m ∷ es) = ⊥
MomentsOnly (moment n ∷ es) = MomentsOnly es

-- ------------------------------------------------------------------ day totals (R-4): the six times

-- the events up to `time`, that millisecond included
unfoldable pub up_to : ℕ → Story → Story
up_to time [] = []
up_to time (e ∷ es) = if ltb time (dated machine e) then [] otherwise e ∷ up_to time es

-- the state of a stock in a millisecond: the one that the last event up to then left; h is the stock before the story
abbrev pub state_at : Whole → Story → ℕ → ℕ
state_at h es time = state_of (left machine h (up_to time es)).stock

-- how many of the numbers below n are such
unfoldable pub how_many : (ℕ → Bool) → ℕ → ℕ
how_many such zero = 0
how_many such (suc n) = (if such n then 1 otherwise 0) + how_many such n

-- how many milliseconds, from 0 to the last event, the stock was in a state
abbrev pub milliseconds_in : ℕ → Whole → Story → ℕ
milliseconds_in state h es = how_many (λ time. eqb (state_at h es time) state) (last_date 0 es)

-- the six times, each by its own state
abbrev pub waiting_time : Whole → Story → ℕ
waiting_time h es = milliseconds_in Waiting h es

abbrev pub trading_time : Whole → Story → ℕ
trading_time h es = milliseconds_in Trading h es

abbrev pub limit_time : Whole → Story → ℕ
limit_time h es = milliseconds_in Limit h es

abbrev pub paused_time : Whole → Story → ℕ
paused_time h es = milliseconds_in Paused h es

abbrev pub late_time : Whole → Story → ℕ
late_time h es = milliseconds_in Late h es

abbrev pub closed_time : Whole → Story → ℕ
closed_time h es = milliseconds_in Closed h es

-- ------------------------------------------------------------------ day totals: the counts, the highest and the lowest

-- n events of the story are such
abbrev pub Counts : (Whole → Event Message Notice → Type 0) → Whole → Story → ℕ → Type 0
Counts Such h [] n = n ≡ 0
Counts Such h (e ∷ es) n =
    (Such h e and ((m : ℕ) × (n ≡ suc m) × Counts Such (becomes machine h e) es m))
    or (¬ Such h e and Counts Such (becomes machine h e) es n)

-- a count of n is kept as k: it stops at 4,294,967,295
abbrev pub KeptCount : ℕ → ℕ → Type 0
KeptCount n k = (n ≤ 4_294_967_295 and k ≡ n) or (4_294_967_295 < n and k ≡ 4_294_967_295)

-- the price of an event that is a T
abbrev pub trade_price : Event Message Notice → List ℕ
trade_price (message (T time price)) = price ∷ []
trade_price (message (Q time participant bid offer)) = []
trade_price (message (O time participant price)) = []
trade_price (message (P time participant)) = []
trade_price (message (R time participant price)) = []
trade_price (message (X time participant price)) = []
trade_price (moment n) = []

-- the prices of all T of the story
abbrev pub trade_prices : Story → List ℕ
trade_prices [] = []
trade_prices (e ∷ es) = trade_price e ++ trade_prices es

-- n is the highest of the prices, or the lowest; 0 where there is none
abbrev pub IsHighest : ℕ → List ℕ → Type 0
IsHighest n prices = (prices ≡ [] and n ≡ 0) or (IsOneOf n prices and Every (λ price. price ≤ n) prices)

abbrev pub IsLowest : ℕ → List ℕ → Type 0
IsLowest n prices = (prices ≡ [] and n ≡ 0) or (IsOneOf n prices and Every (λ price. n ≤ price) prices)
