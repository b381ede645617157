-- The state rules (document 01, "States"; for pauses and closing, "Moments"). Of the window they use only the figures.
-- Assumes nothing.
use Rattle.std.specs.Prelude.{◌-◌, Bool, not, [], ◌∷◌, leb, eqb, replicate}
use Rattle.forms.specs.Choice.{if◌then◌otherwise◌, all_of}
use Rattle.band.specs.Band.{moves_of}
use Rattle.band.specs.declared.Mean.{Mean}
use Rattle.rules.specs.Stock.{Trading, Paused, Late, Closed, is, clock_of, with_quotes, in_state, refer_to, enter_limit, enter_pause, no_trades, mean_in}
use Rattle.rules.specs.Quotes.{best_of, at_limit, crossed}
use Rattle.rules.specs.declared.Quotes.{Quotes}
use Rattle.rules.specs.declared.Stock.{Stock}
use Rattle.rules.specs.declared.Figures.{Figures}

-- Looking at the quotes: from Trading to Limit, if flag 3 is on a side and the quotes do not cross.
unfoldable pub look : Stock → Stock
look s = if all_of (is Trading s ∷ at_limit s ∷ not (crossed (best_of s)) ∷ []) then enter_limit s otherwise s

-- an entry into Trading, with a reference that starts now
unfoldable pub begin_trading : Mean → Stock → Stock
begin_trading price s = look (in_state Trading (refer_to price s))

-- Leaving Limit, once flag 3 is on no side: the mean of the window is the new reference, and without a trade the old one stays.
unfoldable pub leave : Figures → Stock → Stock
leave f s = if at_limit s then s otherwise begin_trading (if no_trades f then s.reference.price otherwise mean_in f) s

-- whether a mean is one percent of the reference or more away from it; nothing is rounded (R-3)
abbrev pub is_far : Mean → Mean → Bool
is_far mean reference = moves_of mean.sum mean.count reference.sum reference.count

-- Test: in Trading, with the hold ended and a trade in the window, a mean one percent away becomes the reference.
unfoldable pub test : Figures → Stock → Stock
test f s =
    if all_of (is Trading s ∷ eqb s.reference.hold 0 ∷ not (no_trades f) ∷ is_far (mean_in f) s.reference.price ∷ [])
    then look (refer_to (mean_in f) s) otherwise s

-- a pause starts now; from E - 600,000 on it is a Late pause
unfoldable pub begin_pause : Stock → Stock
begin_pause s = enter_pause (if leb (s.end - 600_000) (clock_of s) then Late otherwise Paused) s

-- quotes with every side of every participant absent
abbrev pub no_quotes : Quotes
no_quotes = record { bids = replicate 16 0; offers = replicate 16 0 }

-- Closed empties the quotes and keeps the reference; the window is emptied apart from this
unfoldable pub shut : Stock → Stock
shut s = in_state Closed (with_quotes no_quotes s)
