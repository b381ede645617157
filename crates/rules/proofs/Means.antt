-- The exact mean of a window, in words.
-- Assumes nothing.
use Prim.Native.Nat.{ℕ, ◌+◌, ◌≤◌}
use mathlib.Core.List.{List, [], ◌∷◌, foldl, map}
use mathlib.Core.Path.{◌≡◌, refl, sym, ◌∙◌, ap₂}
use native.Mathlib.Omega.{arith}
use lib.ListN.{length, length-map}
use Rattle.band.proofs.Laws as band
use Rattle.band.specs.declared.Mean.{Mean}
use Rattle.rules.specs.Stock.{Trade, total, figures_of, mean_in}
use Rattle.rules.specs.Words.{sum_of, IsMean}
use Rattle.rules.specs.Demands.{MeanIs, MeanBetween}

total_from : (a : ℕ) (w : List Trade) → foldl (λ sum t. sum + t.price) a w ≡ a + sum_of w
total_from a [] = omega arith
total_from a (t ∷ ts) = let e = total_from (a + t.price) ts in omega arith

total_is : (w : List Trade) → foldl (λ sum t. sum + t.price) 0 w ≡ sum_of w
total_is w = omega (arith, total_from 0 w)

pub mean : MeanIs
unfolding figures_of total
mean w l = (l, (total_is w, refl))

prices_total : (a : ℕ) (w : List Trade) → foldl ◌+◌ a (map (λ t. t.price) w) ≡ foldl (λ sum t. sum + t.price) a w
prices_total a [] = refl
prices_total a (t ∷ ts) = prices_total (a + t.price) ts

pub mean_between : MeanBetween
unfolding figures_of total
mean_between low high w k =
    let b = band.mean_between low high (map (λ t. t.price) w) k in
    rw (← length-map w (λ t. t.price), ← prices_total 0 w) b

-- a mean is of a trade at least, and it is this one
pub only_mean : (w : List Trade) (r : Mean) → IsMean w r → (1 ≤ length w) × (r ≡ mean_in (figures_of w))
unfolding figures_of total
only_mean w r (l, (s, c)) = (l, ap₂ (λ sum count. record { sum = sum; count = count }) (s ∙ sym (total_is w)) c)
