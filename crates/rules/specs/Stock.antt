-- One stock and its window of trades (document 01, "What the book holds", "States").
-- Assumes nothing.
use Rattle.std.specs.Prelude.{ℕ, ◌+◌, Bool, ltb, eqb, length}
use mathlib.Core.List.{List, [], ◌∷◌, foldl}
use Rattle.forms.specs.Choice.{if◌then◌otherwise◌}
use Rattle.band.specs.declared.Mean.{Mean}
use Rattle.rules.specs.declared.Course.{Course}
use Rattle.rules.specs.declared.Reference.{Reference}
use Rattle.rules.specs.declared.Quotes.{Quotes}
use Rattle.rules.specs.declared.Stock.{Stock}
use Rattle.rules.specs.declared.Figures.{Figures}

-- a held trade
pub record Trade : Type 0 where
  pub at : ℕ
  pub price : ℕ

-- a stock with its window, the oldest trade first
pub record Whole : Type 0 where
  pub stock : Stock
  pub window : List Trade

-- ------------------------------------------------------------------ "States": their numbers

-- no reference yet
abbrev pub Waiting : ℕ
Waiting = 0

-- bands are in force
abbrev pub Trading : ℕ
Trading = 1

-- bands are in force, and a best quote is at one
abbrev pub Limit : ℕ
Limit = 2

-- a pause that may end in Trading
abbrev pub Paused : ℕ
Paused = 3

-- a Late pause, which ends in Closed
abbrev pub Late : ℕ
Late = 4

-- closed for the rest of the day
abbrev pub Closed : ℕ
Closed = 5

-- the state that a stock is in
abbrev pub state_of : Stock → ℕ
state_of s = s.course.state

-- the time of what last happened to a stock: a message was accepted or a moment settled
abbrev pub clock_of : Stock → ℕ
clock_of s = s.course.clock

-- the stock is in that state
abbrev pub is : ℕ → Stock → Bool
is state s = eqb (state_of s) state

-- ------------------------------------------------------------------ setters

-- the stock with another course: state, clock, and what is kept with them
abbrev pub with_course : Course → Stock → Stock
with_course c s = record { setup = s.setup; end = s.end; course = c; reference = s.reference; quotes = s.quotes }

-- the stock with other quotes
abbrev pub with_quotes : Quotes → Stock → Stock
with_quotes q s = record { setup = s.setup; end = s.end; course = s.course; reference = s.reference; quotes = q }

-- the stock with another reference
abbrev pub with_reference : Reference → Stock → Stock
with_reference r s = record { setup = s.setup; end = s.end; course = s.course; reference = r; quotes = s.quotes }

-- the stock with its clock at `time`
abbrev pub at_time : ℕ → Stock → Stock
at_time time s =
    let c = s.course in
    with_course (record { state = c.state; clock = time; early = c.early; entry = c.entry; pause = c.pause }) s

-- the stock in another state
abbrev pub in_state : ℕ → Stock → Stock
in_state state s =
    let c = s.course in
    with_course (record { state = state; clock = c.clock; early = c.early; entry = c.entry; pause = c.pause }) s

-- the stock in Limit, entered now
abbrev pub enter_limit : Stock → Stock
enter_limit s =
    let c = s.course in
    with_course (record { state = Limit; clock = c.clock; early = c.early; entry = c.clock; pause = c.pause }) s

-- the stock in a pause of either kind, started now
abbrev pub enter_pause : ℕ → Stock → Stock
enter_pause state s =
    let c = s.course in
    with_course (record { state = state; clock = c.clock; early = c.early; entry = c.entry; pause = c.clock }) s

-- the stock once the moment f has happened
abbrev pub not_early : Stock → Stock
not_early s =
    let c = s.course in
    with_course (record { state = c.state; clock = c.clock; early = 0; entry = c.entry; pause = c.pause }) s

-- the stock with the reference `price`, which is exact (R-3), started now, with a new hold
abbrev pub refer_to : Mean → Stock → Stock
refer_to price s = with_reference (record { price = price; start = clock_of s; hold = 1 }) s

-- the stock once the moment h has happened
abbrev pub hold_ended : Stock → Stock
hold_ended s = with_reference (record { price = s.reference.price; start = s.reference.start; hold = 0 }) s

-- ------------------------------------------------------------------ "States": the window

-- the sum of the prices
unfoldable pub total : List Trade → ℕ
total w = foldl (λ sum t. sum + t.price) 0 w

-- the time of the oldest trade, 0 where there is none
unfoldable pub oldest : List Trade → ℕ
oldest [] = 0
oldest (t ∷ ts) = t.at

-- the figures of a window that the state rules use: count, oldest, sum
unfoldable pub figures_of : List Trade → Figures
figures_of w = record { count = length w; oldest = oldest w; sum = total w }

-- the window is empty
abbrev pub no_trades : Figures → Bool
no_trades f = eqb f.count 0

-- the mean of the window's prices, exact: their own sum and count (R-3)
abbrev pub mean_in : Figures → Mean
mean_in f = record { sum = f.sum; count = f.count }

-- The trades that have not left at `time`, when each stays for 300,000. The oldest stand first.
unfoldable pub staying : ℕ → List Trade → List Trade
staying time [] = []
staying time (t ∷ ts) = if ltb time (t.at + 300_000) then t ∷ ts otherwise staying time ts
