-- What the passes of src/pass.rt give, and what the two passes of a survey come to together.
-- Assumes nothing.
use Rattle.std.proofs.Common.{not, eqb, cond, zip, leb, take_all, ◌≡◌, ℕ, zero, suc, ◌+◌, ◌-◌, ◌%◌, ◌^◌, ◌<◌, ◌≤◌, Bool, true, false, ◌||◌, ltb, List, [], ◌∷◌, length, get_or, take, drop, sym, refl, ap, ◌∙◌, arith, length-take, take-suc, ltb-false, ltb-true, le-ltb, lt-ltb, ne_eqb}
use mathlib.Core.Bool.{or-false, or-true}
use mathlib.Core.List.{foldl, foldl-append}
use lib.Bits.{bit_or, or_zero_r}
use Rattle.std.specs.List.{prefix_len}
use borrow.Author.Tests.{leb-true, leb-false}
use Rattle.forms.specs.Choice.{if◌then◌otherwise◌, any_of}
use Rattle.forms.proofs.Bits.{or_left, or_right}
use Rattle.rules.specs.Numbers.{Seen, not_price, bad_trade, see, bad_trades}
use Rattle.window.specs.Places.{trades, left_of}
use Rattle.window.specs.Passes.{see_time, times_seen, see_price, prices_bad}

-- ------------------------------------------------------------------ the times

-- held against the clock is only the time at hand: a time after it is followed by one after it, or by one before itself
latest : (bad : Bool) (clock before t : ℕ) → ((bad || ltb t before) || ltb clock t) ≡ (((bad || ltb clock before) || ltb clock t) || ltb t before)
latest true clock before t = refl
latest false clock before t = go (ltb clock before) (ltb clock t) (ltb t before) refl refl refl
  where
    go : (a b c : Bool) → ltb clock before ≡ a → ltb clock t ≡ b → ltb t before ≡ c → (c || b) ≡ ((a || b) || c)
    go true true true _ _ _ = refl
    go true true false _ _ _ = refl
    go true false true _ _ _ = refl
    go true false false p q r =
        let z : ⊥ = omega (arith, ltb-true clock before p, ltb-false clock t q, ltb-false t before r) in
        absurd z
    go false true true _ _ _ = refl
    go false true false _ _ _ = refl
    go false false true _ _ _ = refl
    go false false false _ _ _ = refl

pub no_times : (clock : ℕ) (ts : List ℕ) → length ts ≡ 0 → false ≡ (times_seen clock ts).bad
unfolding times_seen
no_times clock [] e = refl
no_times clock (t ∷ ts) e = absurd (omega (arith, e))

-- a time below the one ahead of it leaves bits
abbrev pub falls : ℕ → ℕ × ℕ → ℕ
falls bits p = bit_or bits (p.0 - p.1)

fallen : (bits before t : ℕ) → not (eqb (bit_or bits (before - t)) 0) ≡ (not (eqb bits 0) || ltb t before)
fallen bits before t = go (ltb t before) refl
  where
    go : (b : Bool) → ltb t before ≡ b → not (eqb (bit_or bits (before - t)) 0) ≡ (not (eqb bits 0) || b)
    go true e =
        let some : bit_or bits (before - t) ≡ 0 → ⊥ = λ z. omega (arith, z, ltb-true t before e, or_right bits (before - t)) in
        rw (ne_eqb _ 0 some, or-true)
    go false e =
        let none : before - t ≡ 0 = omega (arith, ltb-false t before e) in
        rw (none, or_zero_r bits, or-false)

-- what is seen after more times, where `bits` say whether one up to the time t was out of order: the last of all is held against the clock
seen_on : (clock t bits : ℕ) (ts : List ℕ)
    → (foldl (see_time clock) (record { bad = not (eqb bits 0) || ltb clock t; last = t }) ts).bad
    ≡ (not (eqb (foldl falls bits (zip (t ∷ ts) ts)) 0) || ltb clock (get_or (t ∷ ts) (length ts) 0))
unfolding see_time
seen_on clock t bits [] = refl
seen_on clock t bits (u ∷ ts) =
    ap (λ (b : Bool). (foldl (see_time clock) (record { bad = b; last = u }) ts).bad) (sym (latest (not (eqb bits 0)) clock t u))
    ∙ ap (λ (b : Bool). (foldl (see_time clock) (record { bad = b || ltb clock u; last = u }) ts).bad) (sym (fallen bits t u))
    ∙ seen_on clock u (bit_or bits (t - u)) ts

pub times_are : (clock : ℕ) (ts others : List ℕ) (fall last : ℕ) → 0 < length ts → others ≡ take (length ts - 1) (drop 1 ts)
    → fall ≡ foldl falls 0 (zip ts others) → last ≡ get_or ts (length ts - 1) 0 → (not (eqb fall 0) || ltb clock last) ≡ (times_seen clock ts).bad
unfolding times_seen see_time
times_are clock [] others fall last some o b l = absurd (omega (arith, some))
times_are clock (t ∷ ts) others fall last some o b l =
    let n : length (t ∷ ts) - 1 ≡ length ts = omega arith in
    let rest : others ≡ ts = o ∙ rw (n, take_all (length ts) ts (omega arith)) in
    rw (b, rest, l, n) (sym (simp (le-ltb t 0 (omega arith), or-false) (seen_on clock t 0 ts)))

-- ------------------------------------------------------------------ the bits of the prices, each less 1

-- a price less 1, where 0 wraps
abbrev pub less_one : ℕ → ℕ
less_one p = (p + (2 ^ 32 - 1)) % 2 ^ 32

-- where less than 999,999,999 is left, the price was 1 to 999,999,999
in_range : (p : ℕ) → p < 2 ^ 32 → less_one p < 999_999_999 → (1 ≤ p) × (p ≤ 999_999_999)
in_range p fits low = (omega arith, omega arith)

-- where the bits of all are below 999,999,999, no price is out of range
pub prices_are : (bits : ℕ) (ps : List ℕ) → ((i : ℕ) → get_or ps i 0 < 2 ^ 32) → foldl (λ b p. bit_or b (less_one p)) bits ps < 999_999_999
    → (bits < 999_999_999) × (prices_bad ps ≡ false)
unfolding prices_bad see_price
prices_are bits [] fits low = (low, refl)
prices_are bits (p ∷ ps) fits low =
    let rest = prices_are (bit_or bits (less_one p)) ps (λ i. fits (suc i)) low in
    let bits_below = or_left bits (less_one p) in
    let less_below = or_right bits (less_one p) in
    let good = in_range p (fits 0) (omega (arith, rest.0, less_below)) in
    (omega (arith, rest.0, bits_below), rw (ne_eqb p 0 (λ z. omega (arith, good.0)), le-ltb 999_999_999 p good.1) rest.1)

-- ------------------------------------------------------------------ how many have left

pub left_is : (t : ℕ) (us : List ℕ) → prefix_len (λ u. leb (u + 300_000) t) us ≡ left_of t us
unfolding left_of if◌then◌otherwise◌
left_is t [] = refl
left_is t (u ∷ us) = go (leb (u + 300_000) t) refl (left_is t us)
  where
    go : (b : Bool) → leb (u + 300_000) t ≡ b → prefix_len (λ u. leb (u + 300_000) t) us ≡ left_of t us
        → cond b (1 + prefix_len (λ u. leb (u + 300_000) t) us) 0 ≡ (if ltb t (u + 300_000) then 0 otherwise suc (left_of t us))
    go true e rest = rw (le-ltb t _ (leb-true _ _ e)) (omega (arith, rest))
    go false e rest = rw (lt-ltb t _ (leb-false _ _ e)) refl

pub left_few : (t : ℕ) (xs : List ℕ) → left_of t xs ≤ length xs
unfolding left_of if◌then◌otherwise◌
left_few t [] = omega arith
left_few t (u ∷ us) = go (ltb t (u + 300_000)) (left_few t us)
  where
    go : (b : Bool) → left_of t us ≤ length us → (if b then 0 otherwise suc (left_of t us)) ≤ suc (length us)
    go true h = omega arith
    go false h = omega arith

pub few_left : (t n r : ℕ) (xs : List ℕ) → r ≡ left_of t (take n xs) → r ≤ n
few_left t n r xs e = omega (arith, e, left_few t (take n xs), length-take n xs)

-- ------------------------------------------------------------------ both passes of a survey

-- one trade more is bad as its time or its price is
apart : (a b c d e f : Bool) → (if a || b then true otherwise any_of (any_of (e ∷ f ∷ []) ∷ c ∷ d ∷ [])) ≡ (((a || c) || d) || ((b || e) || f))
unfolding if◌then◌otherwise◌ any_of
apart true b c d e f = refl
apart false true true d e f = refl
apart false true false true e f = refl
apart false true false false e f = refl
apart false false true d true f = refl
apart false false true d false true = refl
apart false false true d false false = refl
apart false false false true true f = refl
apart false false false true false true = refl
apart false false false true false false = refl
apart false false false false true f = refl
apart false false false false false true = refl
apart false false false false false false = refl

-- the trades are gone over as the times and the prices are, side by side
side_by_side : (clock n : ℕ) (ts ps : List ℕ) → n ≤ length ts → n ≤ length ps
    → foldl (see clock) (record { bad = false; last = 0 }) (trades n ts ps)
    ≡ record { bad = (times_seen clock (take n ts)).bad || prices_bad (take n ps); last = (times_seen clock (take n ts)).last }
unfolding trades see bad_trade not_price times_seen see_time prices_bad see_price
side_by_side clock zero ts ps h k = refl
side_by_side clock (suc n) ts ps h k =
    simp (foldl-append, side_by_side clock n ts ps (omega arith) (omega arith), take-suc ts n 0 (omega arith), take-suc ps n 0 (omega arith), apart)

pub judged : (clock n : ℕ) (ts ps : List ℕ) → n ≤ length ts → n ≤ length ps
    → bad_trades clock (trades n ts ps) ≡ ((times_seen clock (take n ts)).bad || prices_bad (take n ps))
unfolding bad_trades
judged clock n ts ps h k = ap (λ (s : Seen). s.bad) (side_by_side clock n ts ps h k)
