-- The bytes of a book in words: which entry of which array is what, and the table of numbers of each call on any bytes (document 01,
-- "What the book holds", "Numbers given back"). Ranges, rubbish and the tables of one stock are those of the rules' Words; the key of the
-- rules' Demands.antt says how to read them.
-- Assumes nothing.
use Rattle.std.specs.Prelude.{ℕ, ◌+◌, ◌*◌, ◌≤◌, ◌<◌, List, ◌≡◌, length, get_or}
use Rattle.forms.specs.Words.{◌and◌, Number}
use Rattle.rules.specs.Stock.{Trade}
use Rattle.rules.specs.Counted.{Counted}
use Rattle.rules.specs.Book.{blank}
use Rattle.rules.specs.Words.{IsShape, book_refusals}
use Rattle.stock.specs.declared.Record.{Record}
use Rattle.calls.specs.Words.{setup_refusals}
use Rattle.book.specs.Lent.{Lent, no_record}

-- ------------------------------------------------------------------ what the bytes of a stock mean

-- the record of stock i
abbrev pub record_at : ℕ → Lent → Record
record_at i b = get_or b.records i no_record

-- place j of stock i, which is entry 512 i + j of each array, has this time and this price
abbrev pub InPlace : ℕ → ℕ → Lent → (time price : ℕ) → Type 0
InPlace i j b time price = time ≡ get_or b.times (512 * i + j) 0 and price ≡ get_or b.prices (512 * i + j) 0

-- no trade
abbrev pub no_trade : Trade
no_trade = record { at = 0; price = 0 }

-- the bytes of stock i mean h: the record has the stock and its totals, and counts the trades of the window; trade j, from the oldest on, is in
-- place j. A stock has 512 places: a trade that is counted beyond them reads 0, and the stock is rubbish
pub record Means (i : ℕ) (b : Lent) (h : Counted) : Type 0 where
  pub stock : h.whole.stock ≡ (record_at i b).stock
  pub totals : h.totals ≡ (record_at i b).totals
  pub count : length h.whole.window ≡ (record_at i b).count
  pub held : (j : ℕ) → j < length h.whole.window → j < 512 → let t = get_or h.whole.window j no_trade in InPlace i j b t.at t.price
  pub beyond : (j : ℕ) → j < length h.whole.window → 512 ≤ j → get_or h.whole.window j no_trade ≡ no_trade

-- a place behind the held trades of stock i is 0
abbrev pub UnusedAre0 : ℕ → Lent → Type 0
UnusedAre0 i b = (j : ℕ) → (record_at i b).count ≤ j → j < 512 → InPlace i j b 0 0

-- the bytes are those of a book that was set up: 512 places of each array for each stock, of which those in use mean the stock
pub record LaidOut (hs : List Counted) (b : Lent) : Type 0 where
  pub stocks : length b.records ≡ length hs
  pub times : length b.times ≡ 512 * length hs
  pub prices : length b.prices ≡ 512 * length hs
  pub each : (i : ℕ) → i < length hs → Means i b (get_or hs i (blank 0))
  pub unused : (i : ℕ) → i < length hs → UnusedAre0 i b

-- ------------------------------------------------------------------ the number of each call

-- the shape of a book's bytes is right
abbrev pub InShape : Lent → Type 0
InShape b = IsShape (length b.records) (length b.times) (length b.prices)

-- the numbers of a call on stock i: 1 for a wrong shape, 3 for an unknown stock, and then those of the stock
abbrev pub call_table : ℕ → Lent → List Number → List Number
call_table i b own = book_refusals (length b.records) (length b.times) (length b.prices) i own

-- the numbers of a setup: 1 for a wrong shape and for a list that does not have four numbers for each stock; 2 for an E or a setup out of range
abbrev pub setup_table : ℕ → List ℕ → Lent → List Number
setup_table end list b = setup_refusals (length b.records) (length b.times) (length b.prices) end list
