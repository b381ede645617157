-- Day totals in words (document 02, R-4): what an event makes of them, and the tables of numbers of a stock with totals. No test of the rules is used.
-- `Words` and `Changes` say how to read it.
-- Assumes nothing.
use Rattle.std.specs.Prelude.{ℕ, ◌+◌, ◌-◌, ◌<◌, List, ◌∷◌, ◌≡◌}
use Rattle.forms.specs.Words.{◌or◌, ◌and◌, Number}
use Rattle.forms.specs.Words.Number.{◌for◌}
use Rattle.rules.specs.Stock.{Whole, Waiting, Trading, Limit, Paused, Late, Closed, state_of, clock_of}
use Rattle.rules.specs.Machine.{Event, message}
use Rattle.rules.specs.Counted.{Counted}
use Rattle.rules.specs.Words as words
use Rattle.rules.specs.Words.{IsSide}
use Rattle.rules.specs.Changes.{date_of, IsNew, StartsPause, Enters}
use Rattle.rules.specs.declared.Stock.{Stock}
use Rattle.rules.specs.declared.StateTimes.{StateTimes}
use Rattle.rules.specs.declared.Totals.{Totals}
use Rattle.rules.specs.declared.Notice.{Notice}
use Rattle.rules.specs.declared.Message.{Message}
use Rattle.rules.specs.declared.Message.TheVariants.{Trade as T}

-- ------------------------------------------------------------------ what an event makes of the totals

-- the time from the clock to the event was spent in the state before it, and in no other
abbrev pub SpentAfter : Whole → Event Message Notice → StateTimes → StateTimes → Type 0
SpentAfter h e t t' =
    let s = h.stock in
    let more = date_of e - clock_of s in
    IsNew (state_of s ≡ Waiting) t'.waiting (t.waiting + more) t.waiting
    and IsNew (state_of s ≡ Trading) t'.trading (t.trading + more) t.trading
    and IsNew (state_of s ≡ Limit) t'.limit (t.limit + more) t.limit
    and IsNew (state_of s ≡ Paused) t'.paused (t.paused + more) t.paused
    and IsNew (state_of s ≡ Late) t'.late (t.late + more) t.late
    and IsNew (state_of s ≡ Closed) t'.closed (t.closed + more) t.closed

-- one more where the words hold, up to 4,294,967,295
abbrev pub CountAfter : Type 0 → ℕ → ℕ → Type 0
CountAfter Words n n' = IsNew (Words and n < 4_294_967_295) n' (n + 1) n

-- the event is a T of that price
abbrev pub Trades : Event Message Notice → ℕ → Type 0
Trades e price = (time : ℕ) × (e ≡ message (T time price))

-- the event is no T
abbrev pub NoTrade : Event Message Notice → Type 0
NoTrade e = (price : ℕ) → ¬ Trades e price

-- the highest after a T is its price if that is higher; any other event leaves it
abbrev pub HighestAfter : Event Message Notice → ℕ → ℕ → Type 0
HighestAfter e n n' = ((price : ℕ) × Trades e price × IsNew (n < price) n' price n) or (NoTrade e and n' ≡ n)

-- the lowest after a T is its price if that is lower, or if there was no lowest; any other event leaves it
abbrev pub LowestAfter : Event Message Notice → ℕ → ℕ → Type 0
LowestAfter e n n' = ((price : ℕ) × Trades e price × IsNew (n ≡ 0 or price < n) n' price n) or (NoTrade e and n' ≡ n)

-- the totals t' after an event, where h was the stock before it and s' is the stock after it
abbrev pub TotalsAfter : Whole → Event Message Notice → Stock → Totals → Totals → Type 0
TotalsAfter h e s' t t' =
    SpentAfter h e t.spent t'.spent
    and CountAfter (Enters h e s') t.limits t'.limits
    and CountAfter (StartsPause e) t.pauses t'.pauses
    and HighestAfter e t.highest t'.highest
    and LowestAfter e t.lowest t'.lowest

-- every total is 0
abbrev pub NoTotals : Totals → Type 0
NoTotals t =
    let s = t.spent in
    s.waiting ≡ 0 and s.trading ≡ 0 and s.limit ≡ 0 and s.paused ≡ 0 and s.late ≡ 0 and s.closed ≡ 0
    and t.limits ≡ 0 and t.pauses ≡ 0 and t.highest ≡ 0 and t.lowest ≡ 0

-- ------------------------------------------------------------------ the numbers of a stock with totals

-- totals are wrong: the six times, added without wrapping, are not the clock, or the highest or the lowest is over the price range
abbrev pub WrongTotals : ℕ → Totals → Type 0
WrongTotals clock t =
    let s = t.spent in
    ¬ (s.waiting + s.trading + s.limit + s.paused + s.late + s.closed ≡ clock)
    or ¬ IsSide t.highest
    or ¬ IsSide t.lowest

-- the totals of a stock are wrong
abbrev pub Wrong : Counted → Type 0
Wrong c = WrongTotals (clock_of c.whole.stock) c.totals

-- a message, settling to a time, and reading: 1 also for wrong totals, and then the table of the stock
abbrev pub refusals : Message → Counted → List Number
refusals m c = 1 for Wrong c ∷ words.refusals m c.whole

abbrev pub settle_refusals : ℕ → Counted → List Number
settle_refusals time c = 1 for Wrong c ∷ words.settle_refusals time c.whole

abbrev pub read_refusals : Counted → List Number
read_refusals c = 1 for Wrong c ∷ words.read_refusals c.whole

-- no check before the table of message by state applies
abbrev pub ReachesTable : Message → Counted → Type 0
ReachesTable m c = ¬ Wrong c and words.ReachesTable m c.whole
