-- Examples worked out by hand: the rows of document 01, "Checked by hand", that need the band arithmetic alone, and the edges of k and of the one
-- percent test.
-- Assumes nothing.
use Rattle.std.specs.Prelude.{ℕ, ◌+◌, Bool, not, List, [], ◌∷◌, eqb}
use Rattle.forms.specs.Choice.{all_of}
use Rattle.band.specs.Band.{small, percent_of, factor_of, lower_of, upper_of, printed_of, moves_of}

-- the inputs of a function, and last the expected result
pub data Row : Type 0 where
  percent : (tier close is : ℕ) → Row
  factor : (leverage time end is : ℕ) → Row
  bands : (n d percent k lower upper : ℕ) → Row
  printed : (sum count is : ℕ) → Row
  stays : (m c n d : ℕ) → Row
  changes : (m c n d : ℕ) → Row

unfoldable pub right : Row → Bool
right (percent tier close is) = eqb (percent_of tier close) is
right (factor leverage time end is) = eqb (factor_of leverage time end) is
right (bands n d p k lower upper) = all_of (eqb (lower_of n d p k) lower ∷ eqb (upper_of n d p k) upper ∷ [])
right (printed sum count is) = eqb (printed_of sum count) is
right (stays m c n d) = not (moves_of m c n d)
right (changes m c n d) = moves_of m c n d

unfoldable pub by_hand : List Row
by_hand =
    -- B1 and B2, the example of the Tenth Amendment's notice: $11.50 in tier 2, from 9:45 on and, doubled, before it
    bands 115_000 1 10 1 103_500 126_500 ∷
    bands 115_000 1 10 2 92_000 138_000 ∷
    -- B3 to B7
    bands 31_000 1 5 1 29_500 32_600 ∷
    bands 5_000 1 small 1 3_500 6_500 ∷
    bands 1_000 1 small 1 300 1_800 ∷
    bands 1_000 1 small 2 0 2_500 ∷
    bands 28 1 small 1 0 100 ∷
    -- B8, in both tiers; the small rule is percent 0
    percent 1 7_499 0 ∷
    percent 1 7_500 20 ∷
    percent 2 7_499 small ∷
    percent 2 7_500 20 ∷
    -- B9, and the same edge in tier 2
    percent 1 30_000 20 ∷
    percent 1 30_001 5 ∷
    percent 2 30_000 20 ∷
    percent 2 30_001 10 ∷
    -- B11, the printed value: a half is rounded up, less than a half is dropped, and without a price it is 0; a count that does not divide the sum
    printed (1 + 2) 2 2 ∷
    printed 10 4 3 ∷
    printed 9 4 2 ∷
    printed 0 0 0 ∷
    printed 100 3 33 ∷
    printed 101 3 34 ∷
    -- B11, the exact test: the mean of 1 and 2 is one and a half; it changes a reference of 1, and one of 2, which a mean of 2 leaves
    changes (1 + 2) 2 1 1 ∷
    changes (1 + 2) 2 2 1 ∷
    stays 2 1 2 1 ∷
    -- doubled until 9:45 and from 15:35, on a day that ends at 16:00
    factor 1 899_999 23_400_000 2 ∷
    factor 1 900_000 23_400_000 1 ∷
    factor 3 21_899_999 23_400_000 3 ∷
    factor 3 21_900_000 23_400_000 6 ∷
    -- an unknown leverage
    factor 4 0 23_400_000 0 ∷
    -- B10, the exact test, from above and from below: one percent is enough
    stays 100_999 1 100_000 1 ∷
    changes 101_000 1 100_000 1 ∷
    stays 99_001 1 100_000 1 ∷
    changes 99_000 1 100_000 1 ∷
    -- document 02's own example (R-3), the mean of 100,999 and 101,000 against 100,000: it stays, although it prints as 101,000; 101,000 changes
    stays (100_999 + 101_000) 2 100_000 1 ∷
    printed (100_999 + 101_000) 2 101_000 ∷
    changes (101_000 + 101_000) 2 100_000 1 ∷
    -- B10, the printed value: 100,999.33 prints as 100,999; 99,000.5 stays, and prints as 99,001, which would stay too
    printed (100_999 + 100_999 + 101_000) 3 100_999 ∷
    stays (99_000 + 99_001) 2 100_000 1 ∷
    printed (99_000 + 99_001) 2 99_001 ∷
    -- a mean of 99,000.25 stays, although it prints as 99,000, which would change
    stays (99_000 + 99_000 + 99_000 + 99_001) 4 100_000 1 ∷
    printed (99_000 + 99_000 + 99_000 + 99_001) 4 99_000 ∷
    -- the test of a reference of 100,000.5
    stays 101_000 1 200_001 2 ∷
    changes 101_001 1 200_001 2 ∷
    -- a reference of 99,999.5 prints as 100,000: a mean of 100,999.5 changes it, and leaves 100,000 as it is (above); 100,999 changes neither
    changes 201_999 2 199_999 2 ∷
    stays 201_998 2 199_999 2 ∷
    -- bands of 100,999.5 by percent, of 1,000.5 and 3,000.5 by the small rule
    bands 201_999 2 10 1 90_900 111_100 ∷
    bands 2_001 2 small 1 300 1_800 ∷
    bands 6_001 2 small 1 1_500 4_500 ∷
    -- 999.5, which is under 1,000 and prints as 1,000
    bands 1_999 2 5 1 900 1_000 ∷
    printed 1_999 2 1_000 ∷
    -- 5 percent of 1,105 are 55.25: A rounded to 55 would make the lower band 1,100
    bands 1_105 1 5 1 1_000 1_200 ∷
    -- 100,166.67 and 100,041.67, whose lower and upper band are half a cent; with A rounded to a hundredth, or the reference rounded down, they
    -- would be 90,100 and 120,000
    bands 300_500 3 5 2 90_200 110_200 ∷
    bands 300_125 3 10 2 80_000 120_100 ∷
    -- exactly one percent of a fraction: 101,000.505 against 100,000.5
    changes 20_200_101 200 200_001 2 ∷
    stays 20_200_100 200 200_001 2 ∷
    -- bands that are half a cent before they are rounded up
    bands 2_050 1 small 1 600 3_600 ∷
    bands 2_050 1 small 2 0 5_100 ∷
    []
