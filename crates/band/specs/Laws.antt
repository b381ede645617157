-- What the band arithmetic obeys. Each field is a theorem: `laws` of proofs/Laws.antt proves the record. `A ↔ B` is "A exactly where B": a law of
-- that form determines a function's result by the words of Words.antt.
-- Assumes nothing.
use Rattle.std.specs.Prelude.{ℕ, ◌*◌, ◌≤◌, true, List, [], ◌∷◌, ◌↔◌, ◌≡◌}
use Rattle.forms.specs.Promises.{Determines}
use Rattle.forms.specs.Tables.{every}
use Rattle.forms.specs.Words.{Gives}
use Rattle.band.specs.Band.{percent_of, factor_of, price_of, no_mean, mean_of_all, fits, fit, spread_of, lower_of, upper_of, minus_of, bands_of, bands_by, cent, printed_of, printed_by, distance, moves_of, moves_by}
use Rattle.band.specs.Words.{percents, factors, Fits, spreads, NearestCent, AreBands, IsPrinted, OnePercent}
use Rattle.band.specs.Examples.{right, by_hand}
use Rattle.band.specs.declared.Bands.{Bands}
use Rattle.band.specs.declared.Fitted.{Fitted}
use Rattle.band.specs.declared.Mean.{Mean}

-- every price of the list is from `low` to `high`
abbrev pub Within : ℕ → ℕ → List ℕ → Type 0
Within low high [] = Unit {0}
Within low high (price ∷ prices) = ((low ≤ price) × (price ≤ high)) × Within low high prices

-- ------------------------------------------------------------------ what Band.antt computes, in words

-- the percent of tiers 1 and 2, for every close
abbrev pub PercentIs : Type 0
PercentIs = (tier close percent : ℕ) → 1 ≤ tier → tier ≤ 2 → (percent_of tier close ≡ percent) ↔ Gives (percents tier close) percent

-- k of a leverage up to 3, at every time of every session
abbrev pub FactorIs : Type 0
FactorIs = (leverage time end k : ℕ) → leverage ≤ 3 → (factor_of leverage time end ≡ k) ↔ Gives (factors leverage time end) k

-- which means are taken as they are; any other counts as none
abbrev pub FitsIs : Type 0
FitsIs = (m : Mean) → ((fits m ≡ true) ↔ Fits m) × (Fits m → fit m ≡ m) × (¬ Fits m → fit m ≡ no_mean)

-- A of every reference, percent and k
abbrev pub SpreadIs : Type 0
SpreadIs = (n d percent k a : ℕ) → (spread_of n d percent k ≡ a) ↔ Gives (spreads n d percent k) a

-- rounding to the cent
abbrev pub CentIs : Type 0
CentIs = (x d price : ℕ) → 1 ≤ d → (cent x d ≡ price) ↔ NearestCent x d price

-- both bands of every reference, percent and k
abbrev pub BandsAre : Type 0
BandsAre = (n d percent k : ℕ) (l : Bands) → 1 ≤ d → (bands_of n d percent k ≡ l) ↔ AreBands n d percent k l.lower l.upper

-- the printed mean of one price or more
abbrev pub PrintedIs : Type 0
PrintedIs = (sum count price : ℕ) → 1 ≤ count → (printed_of sum count ≡ price) ↔ IsPrinted sum count price

-- the one percent test
abbrev pub MovesIs : Type 0
MovesIs = (m c n d : ℕ) → (moves_of m c n d ≡ true) ↔ OnePercent m c n d

-- ------------------------------------------------------------------ another fraction for the same number

-- the bands depend only on the number n / d: jn / jd has the same bands
abbrev pub BandsScaled : Type 0
BandsScaled = (j n d percent k : ℕ) → 1 ≤ j → bands_of (j * n) (j * d) percent k ≡ bands_of n d percent k

-- the one percent test depends only on the numbers m / c and n / d
abbrev pub MovesScaled : Type 0
MovesScaled = (i j m c n d : ℕ) → 1 ≤ i → 1 ≤ j → moves_of (i * m) (i * c) (j * n) (j * d) ≡ moves_of m c n d

-- ------------------------------------------------------------------ bands, of a reference n / d

-- a reference of 1,000 or more lies between its bands, for every close, tier and leverage, at every time
abbrev pub Around : Type 0
Around = (n d tier close leverage time end : ℕ) → 1 ≤ d → 1_000 * d ≤ n → 1 ≤ leverage → leverage ≤ 3
    → (lower_of n d (percent_of tier close) (factor_of leverage time end) * d ≤ n)
    × (n ≤ upper_of n d (percent_of tier close) (factor_of leverage time end) * d)

-- lower <= upper, for every reference, percent and k
abbrev pub Ordered : Type 0
Ordered = (n d percent k : ℕ) → lower_of n d percent k ≤ upper_of n d percent k

-- both bands are whole cents, for every reference, percent and k
abbrev pub WholeCents : Type 0
WholeCents = (n d percent k : ℕ)
    → ((cents : ℕ) × (lower_of n d percent k ≡ 100 * cents)) × ((cents : ℕ) × (upper_of n d percent k ≡ 100 * cents))

-- the upper band is never 0
abbrev pub UpperNotZero : Type 0
UpperNotZero = (n d percent k : ℕ) → 1 ≤ upper_of n d percent k

-- for every reference up to the largest price the upper band is at most 2,200,000,000, which fits 32 bits but not 31
abbrev pub UpperFits : Type 0
UpperFits = (n d tier close leverage time end : ℕ) → n ≤ 999_999_999 * d
    → upper_of n d (percent_of tier close) (factor_of leverage time end) ≤ 2_200_000_000

-- ------------------------------------------------------------------ the mean

-- the exact mean lies within any bounds of the prices, so between the least and the greatest: each bound times the count bounds the sum
abbrev pub MeanBetween : Type 0
MeanBetween = (low high : ℕ) (prices : List ℕ) → Within low high prices → let m = mean_of_all prices in
    (low * m.count ≤ m.sum) × (m.sum ≤ high * m.count)

-- the printed value is within half a ten-thousandth of the mean: twice the distance, times the count, is at most the count
abbrev pub PrintedNear : Type 0
PrintedNear = (sum count : ℕ) → 1 ≤ count → 2 * distance (printed_of sum count * count) sum ≤ count

-- the printed value lies within whole bounds of the mean, so that of prices in range is in range
abbrev pub PrintedBetween : Type 0
PrintedBetween = (low high sum count : ℕ) → 1 ≤ count → low * count ≤ sum → sum ≤ high * count
    → (low ≤ printed_of sum count) × (printed_of sum count ≤ high)

-- ------------------------------------------------------------------ all of them

pub record Laws : Type 0 where
  pub percent_is : PercentIs
  pub factor_is : FactorIs
  pub fits_is : FitsIs
  pub spread_is : SpreadIs
  pub cent_is : CentIs
  pub bands_are : BandsAre
  pub printed_is : PrintedIs
  pub moves_is : MovesIs
  pub bands_scaled : BandsScaled
  pub moves_scaled : MovesScaled
  pub around : Around
  pub ordered : Ordered
  pub whole_cents : WholeCents
  pub upper_not_zero : UpperNotZero
  pub upper_fits : UpperFits
  pub mean_between : MeanBetween
  pub printed_near : PrintedNear
  pub printed_between : PrintedBetween
  -- the definitions give the results that were worked out by hand
  pub examples : every right by_hand ≡ true
  -- two results that a promise of src/lib.rt allows agree
  pub percent_determined : (tier close : ℕ) → Determines (λ r. r ≡ percent_of tier close)
  pub factor_determined : (leverage time end : ℕ) → Determines (λ r. r ≡ factor_of leverage time end)
  pub fits_determined : (m : Mean) → Determines (λ r. r ≡ fits m)
  pub fitted_determined : (mean : Mean) → Determines (λ (r : Fitted). r.mean ≡ fit mean)
  pub price_determined : (price : ℕ) → Determines (λ (r : Fitted). r.mean ≡ price_of price)
  pub minus_determined : (x y : ℕ) → Determines (λ r. r ≡ minus_of x y)
  pub bands_determined : (reference : Mean) (percent k : ℕ) → Determines (λ r. r ≡ bands_by reference percent k)
  pub printed_determined : (m : Mean) → Determines (λ r. r ≡ printed_by m)
  pub moves_determined : (mean reference : Mean) → Determines (λ r. r ≡ moves_by mean reference)
