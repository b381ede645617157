-- What a message does to a stock beside its window (document 01, "Messages"), which figures a window can have, and a stock with what it shows.
-- Assumes nothing.
use Rattle.forms.specs.Choice.{if◌then◌otherwise◌}
use Rattle.band.specs.Band.{price_of, fits}
use Rattle.band.specs.Words as arithmetic
use Rattle.rules.specs.Stock.{at_time, mean_in}
use Rattle.rules.specs.States.{begin_trading, begin_pause, shut}
use Rattle.rules.specs.Messages.{time_of, trade_rules, quote_rules, with_quote}
use Rattle.rules.specs.declared.Stock.{Stock}
use Rattle.rules.specs.declared.Figures.{Figures}
use Rattle.rules.specs.declared.Message.{Message}
use Rattle.rules.specs.declared.Message.TheVariants.{Trade as T, Quote as Q, Opening as O, Pause as P, Reopening as R, Closing as X}
use Rattle.quotes.specs.Parts.{kept_of}
use Rattle.quotes.specs.Shown.{shown_of}
use Rattle.states.specs.declared.After.{After}

-- figures whose mean band has room for, as for that of every window
abbrev pub Fits : Figures → Type 0
Fits f = arithmetic.Fits (mean_in f)

-- the figures, or those of no trade where it has none
unfoldable pub fit : Figures → Figures
fit f = if fits (mean_in f) then f otherwise record { count = 0; oldest = 0; sum = 0 }

-- each message's effect on the stock, whose clock is already at its time
unfoldable pub effect_at : Message → Figures → Stock → Stock
effect_at (T time price) f s = trade_rules f s
effect_at (Q time participant bid offer) f s = quote_rules f (with_quote participant bid offer s)
effect_at (O time participant price) f s = begin_trading (price_of price) s
effect_at (P time participant) f s = begin_pause s
effect_at (R time participant price) f s = begin_trading (price_of price) s
effect_at (X time participant price) f s = shut s

-- an accepted message, with the figures of the window that it leaves
unfoldable pub effect_of : Message → Figures → Stock → Stock
effect_of m f s = effect_at m f (at_time (time_of m) s)

-- a stock by its parts, and what it shows
abbrev pub after_of : Stock → After
after_of s = record { kept = kept_of s; quotes = s.quotes; shown = shown_of s }
