-- Examples worked out by hand (document 01, "Checked by hand"): the table B1 to B12.
-- Assumes nothing.
use Rattle.std.specs.Prelude.{ℕ, ◌+◌, Bool, List, [], ◌∷◌, ◌++◌, map, eqb, length}
use Rattle.forms.specs.Choice.{all_of}
use Rattle.band.specs.Examples
use Rattle.rules.specs.Stock.{Trading, in_state, refer_to, hold_ended, staying}
use Rattle.rules.specs.States.{test}
use Rattle.rules.specs.Numbers.{fresh, printed_reference}
use Rattle.rules.specs.Book.{no_setup}

pub data Row : Type 0 where
  -- a row of the band arithmetic: B1 to B11
  arithmetic : Examples.Row → Row
  -- B10 and B11: in Trading with the hold ended, a reference n / d and a window of c trades with sum m; the reference's sum and count after the
  -- Test, and its printed value
  after_test : (n d m c sum count prints : ℕ) → Row
  -- B12: the time of a trade, and how many are held at another
  held : (at time is : ℕ) → Row

unfoldable pub right : Row → Bool
right (arithmetic row) = Examples.right row
right (after_test n d m c sum count prints) =
    let before = hold_ended (refer_to (record { sum = n; count = d }) (in_state Trading (fresh 23_400_000 no_setup).stock)) in
    let s = test (record { count = c; oldest = 0; sum = m }) before in
    all_of (eqb s.reference.price.sum sum ∷ eqb s.reference.price.count count ∷ eqb (printed_reference s) prints ∷ [])
right (held at time is) = eqb (length (staying time (record { at = at; price = 1 } ∷ []))) is

unfoldable pub by_hand : List Row
by_hand =
    map arithmetic Examples.by_hand ++
    -- B10
    after_test 100_000 1 100_999 1 100_000 1 100_000 ∷
    after_test 100_000 1 101_000 1 101_000 1 101_000 ∷
    -- document 02's own example (R-3): trades of 100,999 and 101,000 leave 100,000 as it is; two of 101,000 do not, and their pair is not reduced
    after_test 100_000 1 (100_999 + 101_000) 2 100_000 1 100_000 ∷
    after_test 100_000 1 (101_000 + 101_000) 2 202_000 2 101_000 ∷
    -- B11: the mean of 1 and 2 prints as 2, is kept as it is, and moves a reference of 2
    after_test 1 1 (1 + 2) 2 3 2 2 ∷
    after_test 2 1 (1 + 2) 2 3 2 2 ∷
    -- a mean that prints as 101,000 is kept as 100,999.5: 102,009.5 changes it, and leaves 101,000 as it is; 102,009 changes neither; 99,990
    -- leaves it, and would change 101,000
    after_test 99_000 1 (100_999 + 101_000) 2 201_999 2 101_000 ∷
    after_test 201_999 2 (102_009 + 102_010) 2 204_019 2 102_010 ∷
    after_test 101_000 1 (102_009 + 102_010) 2 101_000 1 101_000 ∷
    after_test 201_999 2 102_009 1 201_999 2 101_000 ∷
    after_test 201_999 2 99_990 1 201_999 2 101_000 ∷
    -- B12
    held 0 299_999 1 ∷
    held 0 300_000 0 ∷
    []
