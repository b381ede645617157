-- The ranges, and of a stock that is rubbish all but its moments: each test decides its words, by `search words`.
-- Assumes nothing.
use Prim.Native.Nat.{ℕ, ◌<◌}
use mathlib.Core.Bool.{Bool, true, false}
use mathlib.Core.List.{List, [], ◌∷◌, foldl}
use mathlib.Core.Logic.{◌⊎◌, inl, inr}
use mathlib.Core.Path.{refl}
use lib.Dec.{ltb}
use Rattle.forms.specs.Choice.{if◌then◌otherwise◌}
use Rattle.forms.specs.Words.{◌or◌, Some}
use Rattle.forms.proofs.Decides.{Decides, words, Stable, stable, reworded, never, always, or_some, some}
use Rattle.band.specs.declared.Mean.{Mean}
use Rattle.rules.specs.Stock.{Trade}
use Rattle.rules.specs.Numbers.{not_price, bad_end, bad_setup, bad_times, or_not_side, bad_quotes, not_reference, bad_reference, bad_trade, see, bad_trades, bad_stock, out_of_range, bad_shape, or_bad_setup}
use Rattle.rules.specs.Words.{IsShape, IsPrice, IsSide, IsEnd, IsSetup, BadTime, BadQuote, IsReference, BadReference, BadTrade, BadStock, OutOfRange}
use Rattle.rules.specs.declared.Setup.{Setup}
use Rattle.rules.specs.declared.Quotes.{Quotes}
use Rattle.rules.specs.declared.Stock.{Stock}
use Rattle.rules.specs.declared.Message.{Message}
use Rattle.rules.specs.declared.Message.TheVariants.{Trade as T, Quote as Q, Opening as O, Pause as P, Reopening as R, Closing as X}

-- ------------------------------------------------------------------ ranges

pub shape_is : (stocks times prices : ℕ) → Decides (bad_shape stocks times prices) (¬ IsShape stocks times prices)
unfolding bad_shape
shape_is stocks times prices = search words depth 20

price_is : (price : ℕ) → Decides (not_price price) (¬ IsPrice price)
unfolding not_price
price_is price = search words

side_is : (price : ℕ) → Decides (ltb 999_999_999 price) (¬ IsSide price)
side_is price = search words

pub end_is : (end : ℕ) → Decides (bad_end end) (¬ IsEnd end)
unfolding bad_end
end_is end = search words

pub setup_is : (u : Setup) → Decides (bad_setup u) (¬ IsSetup u)
unfolding bad_setup
setup_is u = search (words, price_is) depth 20

pub setups_are : (us : List Setup) → Decides (foldl or_bad_setup false us) (Some (λ u. ¬ IsSetup u) us)
unfolding or_bad_setup
setups_are us = some _ _ setup_is us

-- what is not out of range is in it
pub in_price : (price : ℕ) → ¬ ¬ IsPrice price → IsPrice price
in_price price = let s : Stable (IsPrice price) = search stable in s.undenied

pub in_side : (price : ℕ) → ¬ ¬ IsSide price → IsSide price
in_side price = let s : Stable (IsSide price) = search stable in s.undenied

pub in_reference : (m : Mean) → ¬ ¬ IsReference m → IsReference m
in_reference m = let s : Stable (IsReference m) = search stable in s.undenied

pub in_end : (end : ℕ) → ¬ ¬ IsEnd end → IsEnd end
in_end end = let s : Stable (IsEnd end) = search stable in s.undenied

pub in_setup : (u : Setup) → ¬ ¬ IsSetup u → IsSetup u
in_setup u = let s : Stable (IsSetup u) = search stable depth 20 in s.undenied

pub range_is : (end : ℕ) (m : Message) → Decides (out_of_range end m) (OutOfRange end m)
unfolding out_of_range
range_is end (T time price) = search (words, price_is) depth 20
range_is end (Q time participant bid offer) = search words depth 20
range_is end (O time participant price) = search (words, price_is) depth 20
range_is end (P time participant) = search words depth 20
range_is end (R time participant price) = search (words, price_is) depth 20
range_is end (X time participant price) = search (words, price_is) depth 20

-- ------------------------------------------------------------------ a stock

times_are : (s : Stock) → Decides (bad_times s) (BadTime s)
unfolding bad_times
times_are s = search words depth 20

quotes_are : (q : Quotes) → Decides (bad_quotes q) (BadQuote q)
unfolding bad_quotes or_not_side
quotes_are q = or_some _ _ side_is _ _ q.offers (some _ _ side_is q.bids)

mean_is : (m : Mean) → Decides (not_reference m) (¬ IsReference m)
unfolding not_reference
mean_is m = search words depth 20

reference_is : (s : Stock) → Decides (bad_reference s) (BadReference s)
unfolding bad_reference
reference_is s = search (words, mean_is) depth 20

pub stock_is : (s : Stock) → Decides (bad_stock s) (BadStock s)
unfolding bad_stock
stock_is s = search (words, setup_is, end_is, times_are, quotes_are, reference_is) depth 20

-- ------------------------------------------------------------------ its trades

trade_is : (clock ahead : ℕ) (t : Trade) → Decides (bad_trade clock ahead t) (¬ IsPrice t.price or clock < t.at or t.at < ahead)
unfolding bad_trade
trade_is clock ahead t = search (words, price_is) depth 20

-- where one was bad before them, or one of them is
trades_from : (clock ahead : ℕ) (b : Bool) (A : Type 0) (w : List Trade) → Decides b A
    → Decides (foldl (see clock) (record { bad = b; last = ahead }) w).bad (A or BadTrade clock ahead w)
unfolding see if◌then◌otherwise◌
trades_from clock ahead b A [] d = reworded (inl, out) d
  where
    out : A ⊎ ⊥ → A
    out (inl a) = a
    out (inr z) = absurd z
trades_from clock ahead true A (t ∷ ts) d =
    reworded ((λ _. inl (d.holds refl)), (λ _. inl tt)) (trades_from clock t.at true (Unit {0}) ts (always _ tt))
trades_from clock ahead false A (t ∷ ts) d =
    reworded (inr, out) (trades_from clock t.at (bad_trade clock ahead t) _ ts (trade_is clock ahead t))
  where
    out : A ⊎ BadTrade clock ahead (t ∷ ts) → BadTrade clock ahead (t ∷ ts)
    out (inl a) = absurd (d.fails refl a)
    out (inr k) = k

pub trades_are : (clock : ℕ) (w : List Trade) → Decides (bad_trades clock w) (BadTrade clock 0 w)
unfolding bad_trades
trades_are clock w = reworded (out, inr) (trades_from clock 0 false ⊥ w (never _ (λ z. z)))
  where
    out : ⊥ ⊎ BadTrade clock 0 w → BadTrade clock 0 w
    out (inl z) = absurd z
    out (inr k) = k
