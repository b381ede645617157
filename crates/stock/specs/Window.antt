-- The window that a call holds.
-- Assumes nothing.
use Rattle.std.specs.Prelude.{ℕ, ◌*◌, ◌≤◌, true, List, ◌≡◌, drop, length}
use Rattle.rules.specs.Stock.{figures_of, total}
use Rattle.rules.specs.declared.Figures.{Figures}
use Rattle.window.specs.Places.{trades, whole}

-- these are the figures of the window that the places hold; however many trades leave, the sum of the others is in the price range for each
pub record Held (f : Figures) (times prices : List ℕ) : Type 0 where
  pub places : whole f.count times prices ≡ true
  pub figures : f ≡ figures_of (trades f.count times prices)
  pub good : (gone : ℕ) → let w = drop gone (trades f.count times prices) in total w ≤ 999_999_999 * length w
