-- The band arithmetic in words (document 01, "Band arithmetic"), and the one percent test ("States"). Each name is a proposition over numbers, or
-- a table of such; from Band.antt they use only the name `small`. The laws `percent_is`, `factor_is`, `fits_is`, `spread_is`, `cent_is`,
-- `bands_are`, `printed_is` and `moves_is` say that Band.antt computes this.
--
-- To read it: `A and B`, `A or B`, `¬ A` are "and", "or", "not"; `a ≡ b` is "equals"; `(x : ℕ) × A` is "there is a number x with A"; `n for A`
-- is a row of a table: the number n, given where A holds and no row above does. A price is whole ten-thousandths of a dollar, and a
-- reference is n / d.
-- Assumes nothing.
use Rattle.std.specs.Prelude.{ℕ, ◌+◌, ◌-◌, ◌*◌, ◌^◌, ◌≤◌, ◌<◌, List, [], ◌∷◌, ◌≡◌}
use Rattle.forms.specs.Words.{◌or◌, ◌and◌, Number, Gives, Otherwise}
use Rattle.forms.specs.Words.Number.{◌for◌}
use Rattle.band.specs.Band.{small}
use Rattle.band.specs.declared.Mean.{Mean}

-- ------------------------------------------------------------------ percent and k

-- the percent by the close: above 30,000 it is 5 in tier 1 and 10 in tier 2, from 7,500 on it is 20, and under that the small rule holds
abbrev pub percents : (tier close : ℕ) → List Number
percents tier close =
    5 for (30_000 < close and tier ≡ 1) ∷
    10 for (30_000 < close and tier ≡ 2) ∷
    20 for (7_500 ≤ close and close ≤ 30_000) ∷
    small for (close < 7_500) ∷
    []

-- k is the leverage, and twice as much before 900,000 and from E - 1,500,000 on
abbrev pub factors : (leverage time end : ℕ) → List Number
factors leverage time end =
    (2 * leverage) for (time < 900_000 or end - 1_500_000 ≤ time) ∷
    leverage for Otherwise ∷
    []

-- ------------------------------------------------------------------ the means that the functions take

-- a sum of at most 44 bits and a count of at most 12: for these src/lib.rt has room; 512 prices of 32 bits have a sum of at most 41
abbrev pub Fits : Mean → Type 0
Fits m = m.sum < 2 ^ 44 and m.count < 2 ^ 12

-- ------------------------------------------------------------------ the bands of a reference n / d

-- A, as a numerator over d in hundredths of a price's unit: k x percent x n; by the small rule k times the lesser of 15 cents and 75 percent
abbrev pub spreads : (n d percent k : ℕ) → List Number
spreads n d percent k =
    (k * percent * n) for (¬ (percent ≡ small)) ∷
    (k * (75 * n)) for (75 * n < 150_000 * d) ∷
    (k * (150_000 * d)) for Otherwise ∷
    []

-- x / d, in hundredths of a price's unit, to the nearest cent: at most half a cent above it and less than half below, so a half goes up
abbrev pub NearestCent : (x d price : ℕ) → Type 0
NearestCent x d price =
    (cents : ℕ) × (price ≡ 100 * cents) × (10_000 * cents * d ≤ x + 5_000 * d) × (x < 10_000 * cents * d + 5_000 * d)

-- lower is the reference less A, to the nearest cent, and 0 where A is more
abbrev pub IsLower : (n d a lower : ℕ) → Type 0
IsLower n d a lower = (a ≤ 100 * n and NearestCent (100 * n - a) d lower) or (100 * n < a and lower ≡ 0)

-- upper is the reference plus A, to the nearest cent, and one cent where that is 0
abbrev pub IsUpper : (n d a upper : ℕ) → Type 0
IsUpper n d a upper = (1 ≤ upper and NearestCent (100 * n + a) d upper) or (NearestCent (100 * n + a) d 0 and upper ≡ 100)

-- both bands
abbrev pub AreBands : (n d percent k lower upper : ℕ) → Type 0
AreBands n d percent k lower upper = (a : ℕ) × Gives (spreads n d percent k) a × IsLower n d a lower × IsUpper n d a upper

-- ------------------------------------------------------------------ the printed mean, and one percent

-- the whole number nearest to sum / count: at most a half above it and less than a half below, so a half goes up; without a price there is none
abbrev pub IsPrinted : (sum count price : ℕ) → Type 0
IsPrinted sum count price = 2 * price * count ≤ 2 * sum + count and 2 * sum < 2 * price * count + count

-- 100 x |mean - reference| >= reference, of a mean m / c and a reference n / d, each times c x d
abbrev pub OnePercent : (m c n d : ℕ) → Type 0
OnePercent m c n d = 100 * (n * c) + n * c ≤ 100 * (m * d) or 100 * (m * d) + n * c ≤ 100 * (n * c)
