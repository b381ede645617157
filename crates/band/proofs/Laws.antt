-- The laws of specs/Laws.antt; those in words are proved in Words.antt. Those that callers cite by themselves are public.
-- Assumes nothing.
use Prim.Native.Nat.{ℕ, ◌+◌, ◌-◌, ◌*◌, ◌/◌, ◌≤◌, ◌<◌, min}
use mathlib.Core.List.{List, [], ◌∷◌, foldl}
use mathlib.Core.Logic.{◌⊎◌, inl, inr, ⊎_elim}
use mathlib.Core.HLevel.{is_prop→PathP}
use mathlib.Core.Path.{◌≡◌, ◌∙◌, refl, sym, ap}
use native.Mathlib.Nat.{mul-le-mul, mul-le-mul_right, le_of_mul-le-mul_right, mul_left_comm, mul-suc, add-mul, div-mul-le_self, le-div_iff_mul-le, div-lt_iff_lt-mul, div-zero, le_trans}
use native.Mathlib.Decide.{ℕ_discrete}
use native.Mathlib.Omega.{arith}
use borrow.Author.Tests.{ltb-true, ltb-false, eqb-true, eqb-false, eq-eqb, ne_eqb}
use lib.Dec.{ltb, eqb}
use lib.ListN.{length}
use Rattle.forms.proofs.Choice.{if_true, if_false, if_arms}
use Rattle.std.specs.Coded.{×_prop, le_prop}
use Rattle.forms.specs.Promises.{Determines}
use Rattle.forms.proofs.Promises.{agree}
use Rattle.band.specs.Band.{small, percent_of, factor_of, spread_of, cent, lower_of, upper_of, minus_of, bands_of, bands_by, fits, fit, price_of, printed_of, printed_by, distance, moves_by}
use Rattle.band.specs.Words.{Fits}
use Rattle.band.specs.declared.Bands.{Bands}
use Rattle.band.specs.declared.Fitted.{Fitted}
use Rattle.band.specs.declared.Mean.{Mean}
use Rattle.band.specs.Laws.{Within, Around, Ordered, WholeCents, UpperNotZero, UpperFits, MeanBetween, PrintedNear, PrintedBetween, Laws}
use Rattle.band.proofs.Words.{cent_nearest, printed_given, percent_is, factor_is, fits_is, spread_is, cent_is, bands_are, printed_is, moves_is, bands_scaled, moves_scaled}
use Rattle.band.proofs.Examples.{examples}

-- ------------------------------------------------------------------ percent and factor

-- the small rule, or a percent from 5 to 20
percent_range : (tier close : ℕ) → (percent_of tier close ≡ small) ⊎ ((5 ≤ percent_of tier close) × (percent_of tier close ≤ 20))
unfolding percent_of
percent_range tier close =
    let P : ℕ → Type 0 = λ p. (p ≡ small) ⊎ ((5 ≤ p) × (p ≤ 20)) in
    if_arms P _ (λ e. if_arms P _ (λ e. inr (omega arith)) (λ e. inr (omega arith)))
    (λ e. if_arms P _ (λ e. inr (omega arith)) (λ e. inl refl))

-- the leverage is at most 3 where it counts, and k is at most twice that
pub factor_most : (leverage time end : ℕ) → factor_of leverage time end ≤ 6
unfolding factor_of
factor_most leverage time end =
    let P : ℕ → Type 0 = λ k. k ≤ 6 in
    if_arms P (ltb 3 leverage) (λ e. omega arith)
    (λ e. let i = ltb-false 3 leverage e in if_arms P _ (λ e. omega arith) (λ e. omega arith))

pub factor_least : (leverage time end : ℕ) → 1 ≤ leverage → leverage ≤ 3 → 1 ≤ factor_of leverage time end
unfolding factor_of
factor_least leverage time end h i =
    let P : ℕ → Type 0 = λ k. 1 ≤ k in
    if_arms P (ltb 3 leverage) (λ e. let j = ltb-true 3 leverage e in omega arith)
    (λ e. if_arms P _ (λ e. omega arith) (λ e. omega arith))

-- ------------------------------------------------------------------ rounding

-- a rounded number is within half a cent of x / d
nearest : (x d : ℕ) → 1 ≤ d → (100 * (cent x d * d) ≤ x + 5_000 * d) × (x < 100 * (cent x d * d) + 5_000 * d)
nearest x d h =
    let near = cent_nearest x d h in
    let by = ap (λ price. price * d) near.1 in
    (omega arith, omega arith)

-- without a price nothing is divided, so there is nothing to round
cent_of_none : (x d : ℕ) → d ≡ 0 → cent x d ≡ 0
unfolding cent
cent_of_none x d z = rw (z, div-zero)

-- so the lower band is 0 and the upper one cent
pub bands_of_none : (m : Mean) (p k : ℕ) → m.count ≡ 0 → ◌≡◌ {A = Bands} (record { lower = 0; upper = 100 }) (bands_of m.sum m.count p k)
unfolding bands_of lower_of upper_of
bands_of_none m p k z =
    let a = spread_of m.sum m.count p k in
    simp (cent_of_none (100 * m.sum - a) m.count z, cent_of_none (100 * m.sum + a) m.count z, eq-eqb 0 0 refl, if_true)

cent_mono : (x y d : ℕ) → x ≤ y → cent x d ≤ cent y d
unfolding cent
cent_mono x y d i = go (ℕ_discrete d 0)
  where
    go : Dec (d ≡ 0) → cent x d ≤ cent y d
    go (yes z) = rw (cent_of_none x d z) (omega arith)
    go (no z) =
        let q : (x + 5_000 * d) / (10_000 * d) ≤ (y + 5_000 * d) / (10_000 * d) =
        (le-div_iff_mul-le {k = 10_000 * d} (omega arith)).1 (le_trans (div-mul-le_self (x + 5_000 * d) (10_000 * d)) (omega arith)) in
        omega arith

-- ------------------------------------------------------------------ A, and the bands

-- A is at least half a cent, so that rounding does not reach over the reference
spread_least : (n d percent k : ℕ) → 1_000 * d ≤ n → 1 ≤ k → (percent ≡ small) ⊎ ((5 ≤ percent) × (percent ≤ 20))
    → 5_000 * d ≤ spread_of n d percent k
unfolding spread_of
spread_least n d p k h i (inl e) =
    let m : 1 * min (150_000 * d) (75 * n) ≤ k * min (150_000 * d) (75 * n) = mul-le-mul_right _ i in
    rw (eq-eqb p small e, if_true) (omega arith)
spread_least n d p k h i (inr j) =
    let m : 1 * 5 * n ≤ k * p * n = mul-le-mul_right n (mul-le-mul i j.0) in
    rw (ne_eqb p small (λ e. omega arith), if_false) (omega arith)

-- A is at most 120 percent, or 6 times 15 cents
spread_most : (n d percent k : ℕ) → k ≤ 6 → (percent ≡ small) ⊎ ((5 ≤ percent) × (percent ≤ 20))
    → (spread_of n d percent k ≤ 120 * n) ⊎ (spread_of n d percent k ≤ 900_000 * d)
unfolding spread_of
spread_most n d p k i (inl e) =
    let m : k * min (150_000 * d) (75 * n) ≤ 6 * min (150_000 * d) (75 * n) = mul-le-mul_right _ i in
    rw (eq-eqb p small e, if_true) (inr (omega arith))
spread_most n d p k i (inr j) =
    let m : k * p * n ≤ 6 * 20 * n = mul-le-mul_right n (mul-le-mul i j.1) in
    rw (ne_eqb p small (λ e. omega arith), if_false) (inl (omega arith))

-- the upper band is at least the rounded number
upper_above : (n d percent k : ℕ) → cent (100 * n + spread_of n d percent k) d ≤ upper_of n d percent k
unfolding upper_of
upper_above n d p k =
    let u = cent (100 * n + spread_of n d p k) d in
    if_arms (λ x. u ≤ x) (eqb u 0) (λ e. let z = eqb-true u 0 e in omega arith) (λ e. omega arith)

pub around : Around
unfolding lower_of
around n d tier close leverage time end h i l m =
    let p = percent_of tier close in
    let k = factor_of leverage time end in
    let a = spread_of n d p k in
    let far = spread_least n d p k i (factor_least leverage time end l m) (percent_range tier close) in
    let down = nearest (100 * n - a) d h in
    let up = nearest (100 * n + a) d h in
    let more = mul-le-mul_right d (upper_above n d p k) in
    (omega arith, omega arith)

pub ordered : Ordered
unfolding lower_of
ordered n d p k =
    le_trans (cent_mono (100 * n - spread_of n d p k) (100 * n + spread_of n d p k) d (omega arith)) (upper_above n d p k)

-- a rounded number is whole cents, whatever it is
cents : (x d : ℕ) → cent x d ≡ 100 * ((x + 5_000 * d) / (10_000 * d))
unfolding cent
cents x d = omega arith

whole_cents : WholeCents
unfolding lower_of upper_of
whole_cents n d p k =
    let u = cent (100 * n + spread_of n d p k) d in
    ((_, cents _ d), if_arms (λ x. (c : ℕ) × (x ≡ 100 * c)) (eqb u 0) (λ e. (1, refl)) (λ e. (_, cents _ d)))

upper_not_zero : UpperNotZero
unfolding upper_of
upper_not_zero n d p k =
    let u = cent (100 * n + spread_of n d p k) d in
    if_arms (λ x. 1 ≤ x) (eqb u 0) (λ e. omega arith) (λ e. let some = eqb-false u 0 e in omega arith)

-- a number that is rounded to whole cents and is at most 219,999,999.78
cent_fits : (x d : ℕ) → x ≤ 219_999_999_780 * d → cent x d ≤ 2_200_000_000
cent_fits x d i = go (ℕ_discrete d 0)
  where
    go : Dec (d ≡ 0) → cent x d ≤ 2_200_000_000
    go (yes z) = rw (cent_of_none x d z) (omega arith)
    go (no z) =
        let h : 1 ≤ d = omega arith in
        let below = nearest x d h in
        let by_d : cent x d * d ≤ 2_200_000_048 * d = omega arith in
        let small_u : cent x d ≤ 2_200_000_048 = le_of_mul-le-mul_right by_d h in
        let whole = (cent_nearest x d h).1 in
        omega arith

pub upper_fits : UpperFits
unfolding upper_of
upper_fits n d tier close leverage time end i =
    let p = percent_of tier close in
    let k = factor_of leverage time end in
    let a = spread_of n d p k in
    let most : 100 * n + a ≤ 219_999_999_780 * d =
    ⊎_elim (λ l. omega arith) (λ l. omega arith) (spread_most n d p k (factor_most leverage time end) (percent_range tier close)) in
    let fits = cent_fits (100 * n + a) d most in
    if_arms (λ x. x ≤ 2_200_000_000) (eqb (cent (100 * n + a) d) 0) (λ e. omega arith) (λ e. fits)

-- ------------------------------------------------------------------ the mean

pub printed_most : (sum count high : ℕ) → sum ≤ high * count → printed_of sum count ≤ high
unfolding printed_of
printed_most s c high h = go (ℕ_discrete c 0)
  where
    go : Dec (c ≡ 0) → (2 * s + c) / (2 * c) ≤ high
    go (yes z) = rw (z, div-zero) (omega arith)
    go (no z) =
        let p : 0 < 2 * c = omega arith in
        let by = mul_left_comm high 2 c in
        let q : (2 * s + c) / (2 * c) < high + 1 = (div-lt_iff_lt-mul p).1 (rw add-mul (omega arith)) in
        omega arith

printed_least : (sum count low : ℕ) → 1 ≤ count → low * count ≤ sum → low ≤ printed_of sum count
unfolding printed_of
printed_least s c low h i =
    let by = mul_left_comm low 2 c in
    (le-div_iff_mul-le {k = 2 * c} (omega arith)).1 (omega arith)

pub printed_between : PrintedBetween
printed_between low high s c h l m = (printed_least s c low h l, printed_most s c high m)

pub printed_of_none : (sum count : ℕ) → count ≡ 0 → printed_of sum count ≡ 0
unfolding printed_of
printed_of_none s c z = rw (z, div-zero)

printed_near : PrintedNear
unfolding distance
printed_near s c h = let near = printed_given s c h in omega arith

-- bounds of each price bound the sum
sums : (low high sum : ℕ) (prices : List ℕ) → Within low high prices
    → (sum + low * length prices ≤ foldl ◌+◌ sum prices) × (foldl ◌+◌ sum prices ≤ sum + high * length prices)
sums low high s [] w = (omega arith, omega arith)
sums low high s (x ∷ xs) w =
    let rest = sums low high (s + x) xs w.1 in
    let l = mul-suc low (length xs) in
    let h = mul-suc high (length xs) in
    (omega arith, omega arith)

pub mean_between : MeanBetween
mean_between low high xs w = let s = sums low high 0 xs w in (omega arith, omega arith)

-- ------------------------------------------------------------------ a mean that fits

-- of a mean that fits nothing but the mean is told
same : (r s : Fitted) → r.mean ≡ s.mean → r ≡ s
same r s e = λ i. record { mean = e i; room = is_prop→PathP (λ j. Fits (e j)) (λ j. ×_prop le_prop le_prop) r.room s.room i }

one_fitted : (m : Mean) → Determines (λ (r : Fitted). r.mean ≡ m)
one_fitted m r s e f = same r s (e ∙ sym f)

-- ------------------------------------------------------------------ all of them

pub laws : Laws
laws = record {
  percent_is = percent_is;
  factor_is = factor_is;
  fits_is = fits_is;
  spread_is = spread_is;
  cent_is = cent_is;
  bands_are = bands_are;
  printed_is = printed_is;
  moves_is = moves_is;
  bands_scaled = bands_scaled;
  moves_scaled = moves_scaled;
  around = around;
  ordered = ordered;
  whole_cents = whole_cents;
  upper_not_zero = upper_not_zero;
  upper_fits = upper_fits;
  mean_between = mean_between;
  printed_near = printed_near;
  printed_between = printed_between;
  examples = examples;
  percent_determined = λ tier close. agree (percent_of tier close);
  factor_determined = λ leverage time end. agree (factor_of leverage time end);
  fits_determined = λ m. agree (fits m);
  fitted_determined = λ mean. one_fitted (fit mean);
  price_determined = λ price. one_fitted (price_of price);
  minus_determined = λ x y. agree (minus_of x y);
  bands_determined = λ reference percent k. agree (bands_by reference percent k);
  printed_determined = λ m. agree (printed_by m);
  moves_determined = λ mean reference. agree (moves_by mean reference);
}
