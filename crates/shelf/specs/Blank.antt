-- Records before any setup: every number is 0.
-- Assumes nothing.
use Rattle.std.specs.Prelude.{ℕ, List, replicate}
use Rattle.rules.specs.Totals.{no_totals}
use Rattle.stock.specs.declared.Record.{Record}
use Rattle.shelf.specs.declared.Shelf.{Shelf}

abbrev pub blank_record : Record
blank_record = record {
  stock = record {
    setup = record { tier = 0; leverage = 0; primary = 0; close = 0 };
    end = 0;
    course = record { state = 0; clock = 0; early = 0; entry = 0; pause = 0 };
    reference = record { price = record { sum = 0; count = 0 }; start = 0; hold = 0 };
    quotes = record { bids = replicate 16 0; offers = replicate 16 0 };
  };
  count = 0;
  totals = no_totals;
}

-- eight such records
abbrev pub blank_records : List Record
blank_records = replicate 8 blank_record

-- the promise of `blank`
abbrev pub blank_shelf : ℕ → Shelf
blank_shelf n = record { records = blank_records; stocks = n }
