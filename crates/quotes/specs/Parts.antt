-- A stock and its parts, for the functions that do not take a whole stock.
-- Assumes nothing.
use Rattle.band.specs.Band.{fit}
use Rattle.band.specs.Words.{Fits}
use Rattle.rules.specs.States.{no_quotes}
use Rattle.rules.specs.declared.Quotes.{Quotes}
use Rattle.rules.specs.declared.Stock.{Stock}
use Rattle.quotes.specs.declared.Basis.{Basis}
use Rattle.quotes.specs.declared.Kept.{Kept}

-- the stock that has these parts
abbrev pub stock_of : Kept → Quotes → Stock
stock_of k q = record { setup = k.setup; end = k.end; course = k.course; reference = k.reference; quotes = q }

-- a stock without its quotes
abbrev pub kept_of : Stock → Kept
kept_of s = record { setup = s.setup; end = s.end; course = s.course; reference = s.reference }

-- the stock that has these parts and no quotes
abbrev pub bare : Kept → Stock
bare k = stock_of k no_quotes

-- band has room for the reference; it has for that of every record that is not rubbish
abbrev pub Room : Kept → Type 0
Room k = Fits k.reference.price

-- a stock without its quotes, whose reference counts as none where there is no room for it
abbrev pub fitted : Kept → Kept
fitted k = record {
  setup = k.setup;
  end = k.end;
  course = k.course;
  reference = record { price = fit k.reference.price; start = k.reference.start; hold = k.reference.hold };
}

-- the numbers that the bands of a stock depend on
abbrev pub basis_of : Kept → Basis
basis_of k = record {
  tier = k.setup.tier;
  leverage = k.setup.leverage;
  close = k.setup.close;
  end = k.end;
  state = k.course.state;
  clock = k.course.clock;
  entry = k.course.entry;
  reference = k.reference.price;
}

-- the stock with this basis and these quotes; a reference that band has no room for counts as none, and every other number is 0
abbrev pub stock_by : Basis → Quotes → Stock
stock_by b q = record {
  setup = record { tier = b.tier; leverage = b.leverage; primary = 0; close = b.close };
  end = b.end;
  course = record { state = b.state; clock = b.clock; early = 0; entry = b.entry; pause = 0 };
  reference = record { price = fit b.reference; start = 0; hold = 0 };
  quotes = q;
}
