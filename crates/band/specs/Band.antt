-- The band arithmetic (document 01, "Band arithmetic") and the one percent test ("States"). A price is whole ten-thousandths of a dollar. A
-- mean is a fraction, a sum of prices by their count, and so is a reference n / d (R-3). Only bands and the printed value are rounded.
-- Assumes nothing.
use Rattle.std.specs.Prelude.{ℕ, ◌+◌, ◌-◌, ◌*◌, ◌/◌, min, Bool, ltb, leb, eqb, length}
use mathlib.Core.List.{List, [], ◌∷◌, foldl}
use Rattle.forms.specs.Choice.{if◌then◌otherwise◌, all_of, any_of}
use Rattle.band.specs.declared.Bands.{Bands}
use Rattle.band.specs.declared.Mean.{Mean}

-- the value that means the small rule, in the place of a percent
abbrev pub small : ℕ
small = 0

-- the percent that the previous close fixes for the day; an unknown tier counts as tier 2
unfoldable pub percent_of : ℕ → ℕ → ℕ
percent_of tier close =
    if ltb 30_000 close then (if eqb tier 1 then 5 otherwise 10) otherwise
    if leb 7_500 close then 20 otherwise
    small

-- factor k: the leverage, doubled at the session's start and end; a leverage over 3 counts as 0
unfoldable pub factor_of : ℕ → ℕ → ℕ → ℕ
factor_of leverage time end =
    if ltb 3 leverage then 0 otherwise
    if any_of (ltb time 900_000 ∷ leb (end - 1_500_000) time ∷ []) then 2 * leverage otherwise
    leverage

-- a price as a mean: a sum with count 1
abbrev pub price_of : ℕ → Mean
price_of price = record { sum = price; count = 1 }

-- no mean: there is no price
abbrev pub no_mean : Mean
no_mean = record { sum = 0; count = 0 }

-- the exact mean of prices: their sum, and how many they are
abbrev pub mean_of_all : List ℕ → Mean
mean_of_all prices = record { sum = foldl ◌+◌ 0 prices; count = length prices }

-- whether the functions of src/lib.rt have room for a mean
unfoldable pub fits : Mean → Bool
fits m = all_of (ltb m.sum 17_592_186_044_416 ∷ ltb m.count 4_096 ∷ [])

-- the mean, or none where they have no room for it
unfoldable pub fit : Mean → Mean
fit m = if fits m then m otherwise no_mean

-- A, the distance of the bands from a reference n / d, as a numerator over d in hundredths of a price's unit; by the small rule at most k times
-- 15 cents
unfoldable pub spread_of : ℕ → ℕ → ℕ → ℕ → ℕ
spread_of n d percent k =
    if eqb percent small then k * min (150_000 * d) (75 * n) otherwise
    k * percent * n

-- x / d hundredths of a price's unit, rounded to whole cents, a half up
unfoldable pub cent : ℕ → ℕ → ℕ
cent x d = (x + 5_000 * d) / (10_000 * d) * 100

-- a difference of natural numbers, which is at least 0
abbrev pub minus_of : ℕ → ℕ → ℕ
minus_of x y = x - y

-- the reference less A
unfoldable pub lower_of : ℕ → ℕ → ℕ → ℕ → ℕ
lower_of n d percent k = cent (100 * n - spread_of n d percent k) d

-- the reference plus A, or one cent where that rounds to 0
unfoldable pub upper_of : ℕ → ℕ → ℕ → ℕ → ℕ
upper_of n d percent k =
    let u = cent (100 * n + spread_of n d percent k) d in
    if eqb u 0 then 100 otherwise u

unfoldable pub bands_of : ℕ → ℕ → ℕ → ℕ → Bands
bands_of n d percent k = record { lower = lower_of n d percent k; upper = upper_of n d percent k }

-- the bands as the functions give them: a reference that they have no room for counts as none
abbrev pub bands_by : Mean → ℕ → ℕ → Bands
bands_by reference percent k = bands_of (fit reference).sum (fit reference).count percent k

-- the printed value of a mean, in whole ten-thousandths, a half rounded up; without a price it is 0, since x / 0 is 0
unfoldable pub printed_of : ℕ → ℕ → ℕ
printed_of sum count = (2 * sum + count) / (2 * count)

-- the same of a mean
abbrev pub printed_by : Mean → ℕ
printed_by m = printed_of m.sum m.count

-- the distance of two numbers: one of the two differences is 0
unfoldable pub distance : ℕ → ℕ → ℕ
distance a b = (a - b) + (b - a)

-- the one percent test of a mean m / c and a reference n / d: 100 x |mean - reference| >= reference, with nothing rounded
unfoldable pub moves_of : ℕ → ℕ → ℕ → ℕ → Bool
moves_of m c n d = leb (n * c) (100 * distance (m * d) (n * c))

-- the test as the functions give it
abbrev pub moves_by : Mean → Mean → Bool
moves_by mean reference = moves_of (fit mean).sum (fit mean).count (fit reference).sum (fit reference).count
