-- The bytes that a book of the rules has: what an accepted setup and calls leave (document 01, "What the book holds").
-- Assumes nothing.
use Rattle.std.specs.Prelude.{ℕ, replicate}
use mathlib.Core.List.{List, map, flatten}
use Rattle.rules.specs.Counted.{Counted}
use Rattle.stock.specs.View.{Bytes, bytes, lay}
use Rattle.book.specs.Lent.{Lent, lent}

-- 512 places, all 0
abbrev pub empty : List ℕ
empty = replicate 512 0

-- a stock's bytes: its window at the front of places that are otherwise 0
abbrev pub stock_bytes : Counted → Bytes
stock_bytes h = lay h (bytes (record { stock = h.whole.stock; count = 0; totals = h.totals }) empty empty)

-- a book's bytes: stock after stock
abbrev pub layout : List Counted → Lent
layout hs = lent (map (λ h. (stock_bytes h).kept) hs) (flatten (map (λ h. (stock_bytes h).times) hs)) (flatten (map (λ h. (stock_bytes h).prices) hs))
