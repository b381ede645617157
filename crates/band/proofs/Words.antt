-- Band.antt computes what Words.antt says, and its results are those of the number n / d, whatever fraction stands for it.
-- Assumes nothing.
use Prim.Native.Nat.{ℕ, ◌+◌, ◌-◌, ◌*◌, ◌/◌, ◌≤◌, ◌<◌, min}
use mathlib.Core.Bool.{Bool, true, false}
use mathlib.Core.Logic.{◌⊎◌, inl, inr, ⊎_map, ⊎_elim}
use mathlib.Core.Path.{◌≡◌, refl, sym, ◌∙◌, ap, ap₂, subst}
use native.Mathlib.Nat.{mul_left_comm, mul-le-mul_left, le_of_mul-le-mul_left, mul-pos, mul-sub, mul-div-mul_left, div-mul-le_self, lt-div-mul-add, div-eq_of_lt-le, min-eq_left, min-eq_right}
use native.Mathlib.Omega.{arith}
use borrow.Author.Tests.{ltb-true, ltb-false, leb-true, leb-false, le-ltb, eqb-true, eqb-false, ne_eqb}
use lib.Dec.{ltb, leb, eqb}
use Rattle.forms.specs.Choice.{if◌then◌otherwise◌}
use Rattle.forms.specs.Words.{Gives}
use Rattle.forms.proofs.Choice.{if_true, if_false, if_arms}
use Rattle.forms.proofs.Decides.{Decides, either_way, is_true, exactly_where, is_false, by_le, by_lt, words, choice, take, skip, exactly}
use Rattle.band.specs.Band.{small, percent_of, factor_of, spread_of, cent, lower_of, upper_of, bands_of, printed_of, distance, moves_of, fits, fit, no_mean}
use Rattle.band.specs.Words.{percents, factors, spreads, NearestCent, IsLower, IsUpper, AreBands, IsPrinted, OnePercent, Fits}
use Rattle.band.specs.declared.Bands.{Bands}
use Rattle.band.specs.declared.Mean.{Mean}
use Rattle.band.specs.Laws.{PercentIs, FactorIs, SpreadIs, CentIs, BandsAre, PrintedIs, FitsIs, MovesIs, BandsScaled, MovesScaled}

-- ------------------------------------------------------------------ percent and k

percent_given : (tier close : ℕ) → 1 ≤ tier → tier ≤ 2 → Gives (percents tier close) (percent_of tier close)
unfolding percent_of
percent_given tier close h i =
    if_arms (Gives (percents tier close)) _
    (λ e. let over = ltb-true _ _ e in
    if_arms (Gives (percents tier close)) _
    (λ t. take 5 _ _ _ (over, eqb-true _ _ t) refl)
    (λ t. let other = eqb-false _ _ t in skip 5 _ _ _ (λ k. other k.1) (take 10 _ _ _ (over, omega arith) refl)))
    (λ e. let most = ltb-false _ _ e in
    skip 5 _ _ _ (λ k. omega (arith, k.0)) (skip 10 _ _ _ (λ k. omega (arith, k.0))
    (if_arms (Gives _) _
    (λ l. take 20 _ _ _ (leb-true _ _ l, most) refl)
    (λ l. let less = leb-false _ _ l in skip 20 _ _ _ (λ k. omega (arith, k.0)) (take small _ _ _ less refl)))))

pub percent_is : PercentIs
percent_is tier close p h i = exactly _ _ p (percent_given tier close h i)

factor_given : (leverage time end : ℕ) → leverage ≤ 3 → Gives (factors leverage time end) (factor_of leverage time end)
unfolding factor_of
factor_given leverage time end h =
    rw (if_false {A = ℕ} (ltb 3 leverage) 0 _ (le-ltb 3 leverage h))
    (choice _ _ _ _ _ (search words) (λ _. take leverage _ _ _ tt refl))

pub factor_is : FactorIs
factor_is leverage time end k h = exactly _ _ k (factor_given leverage time end h)

-- ------------------------------------------------------------------ the means that the functions take

pub fits_decides : (m : Mean) → Decides (fits m) (Fits m)
unfolding fits
fits_decides m = search words

pub fit_as_it_is : (m : Mean) → Fits m → fit m ≡ m
unfolding fit
fit_as_it_is m k = if_true _ _ _ (is_true _ (fits_decides m) k)

pub fit_none : (m : Mean) → fits m ≡ false → fit m ≡ no_mean
unfolding fit
fit_none m n = if_false _ _ _ n

pub fits_is : FitsIs
fits_is m = (exactly_where (fits_decides m), fit_as_it_is m, λ n. fit_none m (is_false _ (fits_decides m) n))

-- ------------------------------------------------------------------ A, and the cent

-- which of two is the lesser
lesser : (a b : ℕ) → ((b < a) × (min a b ≡ b)) ⊎ ((¬ (b < a)) × (min a b ≡ a))
lesser a b = ⊎_map (λ l. (l, min-eq_right (omega arith))) (λ n. (n, min-eq_left (omega arith))) (either_way _ (by_lt b a))

spread_given : (n d percent k : ℕ) → Gives (spreads n d percent k) (spread_of n d percent k)
unfolding spread_of
spread_given n d p k =
    if_arms (Gives (spreads n d p k)) _
    (λ e. skip _ _ _ _ (λ other. other (eqb-true _ _ e)) (⊎_elim
    (λ l. take _ _ _ _ l.0 (ap (λ a. k * a) l.1))
    (λ l. skip _ _ _ _ l.0 (take _ _ _ _ tt (ap (λ a. k * a) l.1)))
    (lesser (150_000 * d) (75 * n))))
    (λ e. take _ _ _ _ (eqb-false _ _ e) refl)

pub spread_is : SpreadIs
spread_is n d p k a = exactly _ _ a (spread_given n d p k)

pub cent_nearest : (x d : ℕ) → 1 ≤ d → NearestCent x d (cent x d)
unfolding cent
cent_nearest x d h =
    let q = (x + 5_000 * d) / (10_000 * d) in
    let below = div-mul-le_self (x + 5_000 * d) (10_000 * d) in
    let above = lt-div-mul-add {a = x + 5_000 * d} {b = 10_000 * d} (omega arith) in
    (q, omega arith, omega arith, omega arith)

one_cent : (x d price : ℕ) → NearestCent x d price → cent x d ≡ price
unfolding cent
one_cent x d price (q, e, most, least) =
    let is : (x + 5_000 * d) / (10_000 * d) ≡ q = div-eq_of_lt-le (10_000 * d) (omega arith) (omega arith) in
    omega arith

pub cent_is : CentIs
cent_is x d price h = ((λ e. subst (NearestCent x d) e (cent_nearest x d h)), one_cent x d price)

-- ------------------------------------------------------------------ the bands

-- where A is more, there is nothing left to round
nothing : (n d a : ℕ) → 1 ≤ d → 100 * n < a → cent (100 * n - a) d ≡ 0
nothing n d a h l = one_cent (100 * n - a) d 0 (0, refl, omega arith, omega arith)

lower_given : (n d a : ℕ) → 1 ≤ d → IsLower n d a (cent (100 * n - a) d)
lower_given n d a h =
    ⊎_map (λ l. (l, cent_nearest (100 * n - a) d h)) (λ l. (omega arith, nothing n d a h (omega arith))) (either_way _ (by_le a (100 * n)))

one_lower : (n d a lower : ℕ) → 1 ≤ d → IsLower n d a lower → cent (100 * n - a) d ≡ lower
one_lower n d a lower h (inl l) = one_cent _ d lower l.1
one_lower n d a lower h (inr l) = nothing n d a h l.0 ∙ sym l.1

-- the upper band, where the rounded number is u
abbrev not_nothing : ℕ → ℕ
not_nothing u = if eqb u 0 then 100 otherwise u

upper_given : (n d a : ℕ) → 1 ≤ d → IsUpper n d a (not_nothing (cent (100 * n + a) d))
upper_given n d a h =
    let u = cent (100 * n + a) d in
    let near = cent_nearest (100 * n + a) d h in
    if_arms (IsUpper n d a) (eqb u 0)
    (λ e. inr (subst (NearestCent (100 * n + a) d) (eqb-true u 0 e) near, refl))
    (λ e. inl (let some = eqb-false u 0 e in omega arith, near))

one_upper : (n d a upper : ℕ) → IsUpper n d a upper → not_nothing (cent (100 * n + a) d) ≡ upper
one_upper n d a upper (inl l) = rw (one_cent _ d upper l.1, ne_eqb upper 0 (λ z. omega (arith, l.0)), if_false)
one_upper n d a upper (inr l) = rw (one_cent _ d 0 l.0, if_true) (sym l.1)

bands_given : (n d percent k : ℕ) → 1 ≤ d → AreBands n d percent k (lower_of n d percent k) (upper_of n d percent k)
unfolding lower_of upper_of
bands_given n d p k h = (spread_of n d p k, spread_given n d p k, lower_given n d _ h, upper_given n d _ h)

one_bands : (n d percent k : ℕ) (l : Bands) → 1 ≤ d → AreBands n d percent k l.lower l.upper → bands_of n d percent k ≡ l
unfolding bands_of lower_of upper_of
one_bands n d p k l h (a, g, down, up) =
    let e = (spread_is n d p k a).1 g in
    ap₂ (λ x y. record { lower = x; upper = y })
    (ap (λ a. cent (100 * n - a) d) e ∙ one_lower n d a l.lower h down)
    (ap (λ a. not_nothing (cent (100 * n + a) d)) e ∙ one_upper n d a l.upper up)

pub bands_are : BandsAre
unfolding bands_of
bands_are n d p k l h = ((λ e. subst (λ l. AreBands n d p k l.lower l.upper) e (bands_given n d p k h)), one_bands n d p k l h)

-- ------------------------------------------------------------------ the printed mean, and one percent

pub printed_given : (s c : ℕ) → 1 ≤ c → IsPrinted s c (printed_of s c)
unfolding printed_of
printed_given s c h =
    let below = div-mul-le_self (2 * s + c) (2 * c) in
    let above = lt-div-mul-add {a = 2 * s + c} {b = 2 * c} (omega arith) in
    (omega arith, omega arith)

one_printed : (s c m : ℕ) → IsPrinted s c m → printed_of s c ≡ m
unfolding printed_of
one_printed s c m k = div-eq_of_lt-le (2 * c) (omega arith) (omega arith)

pub printed_is : PrintedIs
printed_is s c m h = ((λ e. subst (IsPrinted s c) e (printed_given s c h)), one_printed s c m)

pub moves_decides : (m c n d : ℕ) → Decides (moves_of m c n d) (OnePercent m c n d)
unfolding moves_of distance
moves_decides m c n d = record {
  holds = λ t. let far = leb-true (n * c) (100 * distance (m * d) (n * c)) t in ⊎_elim (λ l. inl (omega arith)) (λ l. inr (omega arith)) (either_way _ (by_le (n * c) (m * d)));
  fails = λ f. let near = leb-false (n * c) (100 * distance (m * d) (n * c)) f in ⊎_elim (λ l. omega arith) (λ l. omega arith);
}

pub moves_is : MovesIs
moves_is m c n d = exactly_where (moves_decides m c n d)

-- ------------------------------------------------------------------ another fraction for the same number

cent_scaled : (j x d : ℕ) → 1 ≤ j → cent (j * x) (j * d) ≡ cent x d
unfolding cent
cent_scaled j x d h =
    let above : j * x + 5_000 * (j * d) ≡ j * (x + 5_000 * d) = omega arith in
    let below : 10_000 * (j * d) ≡ j * (10_000 * d) = omega arith in
    ap (λ q. q * 100) (ap₂ ◌/◌ above below ∙ mul-div-mul_left (x + 5_000 * d) (10_000 * d) h)

min_scaled : (j a b : ℕ) → min (j * a) (j * b) ≡ j * min a b
min_scaled j a b =
    ⊎_elim (λ l. min-eq_right (mul-le-mul_left j (omega arith)) ∙ sym (ap (λ x. j * x) l.1))
    (λ l. min-eq_left (mul-le-mul_left j (omega arith)) ∙ sym (ap (λ x. j * x) l.1)) (lesser a b)

if_scaled : (b : Bool) (j x y : ℕ) → (if b then j * x otherwise j * y) ≡ j * (if b then x otherwise y)
unfolding if◌then◌otherwise◌
if_scaled true j x y = refl
if_scaled false j x y = refl

spread_scaled : (j n d percent k : ℕ) → spread_of (j * n) (j * d) percent k ≡ j * spread_of n d percent k
unfolding spread_of
spread_scaled j n d p k =
    let least = min_scaled j (150_000 * d) (75 * n) in
    let small_rule : k * min (150_000 * (j * d)) (75 * (j * n)) ≡ j * (k * min (150_000 * d) (75 * n)) =
    ap (λ x. k * x) (ap₂ min (mul_left_comm 150_000 j d) (mul_left_comm 75 j n) ∙ least) ∙ mul_left_comm k j _ in
    ap₂ (λ x y. if eqb p small then x otherwise y) small_rule (mul_left_comm (k * p) j n)
    ∙ if_scaled _ j _ _

pub bands_scaled : BandsScaled
unfolding bands_of lower_of upper_of
bands_scaled j n d p k h =
    let s = spread_scaled j n d p k in
    let A = spread_of n d p k in
    let less : 100 * (j * n) - spread_of (j * n) (j * d) p k ≡ j * (100 * n - A) = omega (arith, s, mul-sub j (100 * n) A) in
    let more : 100 * (j * n) + spread_of (j * n) (j * d) p k ≡ j * (100 * n + A) = omega (arith, s) in
    ap₂ (λ x y. record { lower = x; upper = not_nothing y })
    (ap (λ x. cent x (j * d)) less ∙ cent_scaled j _ d h)
    (ap (λ x. cent x (j * d)) more ∙ cent_scaled j _ d h)

scaled_le : (f a b : ℕ) → 1 ≤ f → leb (f * a) (f * b) ≡ leb a b
scaled_le f a b h =
    ⊎_elim (λ l. is_true _ (by_le _ _) (mul-le-mul_left f l) ∙ sym (is_true _ (by_le a b) l))
    (λ n. is_false _ (by_le _ _) (λ l. n (le_of_mul-le-mul_left l h)) ∙ sym (is_false _ (by_le a b) n)) (either_way _ (by_le a b))

-- 100 times the distance of two numbers, both scaled
distance_scaled : (f a b : ℕ) → 100 * distance (f * a) (f * b) ≡ f * (100 * distance a b)
unfolding distance
distance_scaled f a b = omega (arith, mul-sub f a b, mul-sub f b a)

pub moves_scaled : MovesScaled
unfolding moves_of
moves_scaled i j m c n d h l =
    let reference : (j * n) * (i * c) ≡ (i * j) * (n * c) = omega arith in
    let mean : (i * m) * (j * d) ≡ (i * j) * (m * d) = omega arith in
    ap₂ (λ a b. leb a (100 * distance b a)) reference mean
    ∙ ap (leb _) (distance_scaled (i * j) (m * d) (n * c))
    ∙ scaled_le (i * j) _ _ (mul-pos h l)
