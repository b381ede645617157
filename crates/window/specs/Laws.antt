-- What the places of a window obey. Each field is a theorem: `laws` of proofs/Laws.antt proves the record.
-- Assumes nothing.
use Rattle.std.specs.Prelude.{◌≡◌, ℕ, ◌<◌, ◌≤◌, true, List, map, length, drop, nat_lt, slice_index, slice_index_or, Option}
use Rattle.forms.specs.Choice.{if◌then◌otherwise◌}
use Rattle.forms.specs.Promises.{Determines}
use Rattle.rules.specs.Stock.{Trade, figures_of, staying}
use Rattle.rules.specs.declared.Figures.{Figures}
use Rattle.window.specs.Places.{trades, laid, Written, whole, survey_of, gone_of, rest_of, wiped}
use Rattle.window.specs.declared.Change.{Change}

-- as many trades are read as are counted
abbrev pub TradesCounted : Type 0
TradesCounted = (n : ℕ) (times prices : List ℕ) → length (trades n times prices) ≡ n

-- trade j of the window is in place j, its time in the one array and its price in the other
abbrev pub TradeInPlace : Type 0
TradeInPlace = (n : ℕ) (times prices : List ℕ) (j : ℕ) (d : Trade) → j < n
    → slice_index_or (trades n times prices) j d ≡ record { at = slice_index times j; price = slice_index prices j }

-- `trades` reads back what `laid` wrote, whatever the places held before
abbrev pub ReadBack : Type 0
ReadBack = (count : ℕ) (w : List Trade) (times prices : List ℕ)
    → trades (length w) (laid count (map (λ t. t.at) w) times) (laid count (map (λ t. t.price) w) prices) ≡ w

-- after the written window, a place that was used is 0, and any other is as it was
abbrev pub FreedAreZero : Type 0
FreedAreZero = (count : ℕ) (front xs : List ℕ) (i : ℕ) → length front ≤ i
    → slice_index (laid count front xs) i ≡ (if nat_lt i count then 0 otherwise slice_index xs i)

-- the trades that stay at a time are all but those that `gone_of` counts
abbrev pub GoneAreTheRest : Type 0
GoneAreTheRest = (time count : ℕ) (times prices : List ℕ) → count ≤ length times
    → staying time (trades count times prices) ≡ drop (gone_of time count times) (trades count times prices)

-- where f are the figures of the window, `rest_of` gives the figures of its trades without the `gone` oldest
abbrev pub RestOfAWindow : Type 0
RestOfAWindow = (gone : ℕ) (f : Figures) (times prices : List ℕ) → whole f.count times prices ≡ true
    → f ≡ figures_of (trades f.count times prices) → rest_of gone f times prices ≡ figures_of (drop gone (trades f.count times prices))

-- both arrays as a call left them
pub record Places : Type 0 where
  pub times : List ℕ
  pub prices : List ℕ

pub record Laws : Type 0 where
  pub trades_counted : TradesCounted
  pub trade_in_place : TradeInPlace
  pub read_back : ReadBack
  pub freed_are_zero : FreedAreZero
  pub gone_are_the_rest : GoneAreTheRest
  pub rest_of_a_window : RestOfAWindow
  -- two results that a promise of src/lib.rt allows agree
  pub survey_determined : (clock count : ℕ) (times prices : List ℕ) → Determines (λ (r : Option Figures). r ≡ survey_of clock count times prices)
  pub gone_determined : (time count : ℕ) (times : List ℕ) → Determines (λ (r : ℕ). r ≡ gone_of time count times)
  pub rest_determined : (gone : ℕ) (f : Figures) (times prices : List ℕ) → Determines (λ (r : Figures). r ≡ rest_of gone f times prices)
  pub wipe_determined : (xs : List ℕ) → Determines (λ (ys : List ℕ). ys ≡ wiped xs)
  pub write_determined : (change : Change) (count : ℕ) (times prices : List ℕ)
      → Determines (λ (r : Places). Written change count times prices r.times r.prices)
