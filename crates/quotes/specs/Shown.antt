-- What a stock shows (document 01, "Quotes and flags"; of answers, "Numbers given back").
-- Assumes nothing.
use Rattle.std.specs.Prelude.{Option, Some, None}
use Rattle.band.specs.declared.Bands.{Bands}
use Rattle.rules.specs.Quotes.{bands_in, best_of}
use Rattle.rules.specs.declared.Stock.{Stock}
use Rattle.quotes.specs.declared.Shown.{Shown}

-- the bands in force, and the best bid and the best offer with their flags
abbrev pub shown_of : Stock → Shown
shown_of s = record { bands = bands_in s; best = best_of s }

-- the bands as they are shown: zeros where none are in force
abbrev pub or_zeros : Option Bands → Bands
or_zeros (Some bands) = bands
or_zeros None = record { lower = 0; upper = 0 }
