-- The laws of specs/Laws.antt.
-- Assumes nothing.
use Rattle.std.proofs.Common.{◌≡◌, ℕ, zero, suc, ◌+◌, ◌-◌, ◌<◌, ◌≤◌, max, Bool, true, false, ltb, List, [], ◌∷◌, ◌++◌, map, length, get_or, take, drop, replicate, refl, ap, ◌∙◌, not-suc-le-zero, arith, drop_of_length-le, get_or-drop, get_or-append-add, ltb-false, ltb-true, le-leb}
use lib.ListN.{length-replicate, get_or-replicate, get_or-append}
use Rattle.forms.specs.Choice.{if◌then◌otherwise◌}
use Rattle.forms.proofs.Choice.{tests, if_true, if_false}
use Rattle.forms.proofs.Promises.{agree}
use Rattle.rules.specs.Stock.{Trade, total, oldest, figures_of, staying}
use Rattle.window.specs.Places.{trades, laid, Written, survey_of, left_of, gone_of, rest_of, wiped}
use Rattle.window.specs.Laws.{TradeInPlace, ReadBack, FreedAreZero, GoneAreTheRest, RestOfAWindow, Places, Laws}
use Rattle.window.specs.declared.Change.{Change}
use Rattle.window.proofs.Window.{length_trades, length_rest, times_of, total_parts}

-- ------------------------------------------------------------------ which place is which trade's

trade_in_place : TradeInPlace
unfolding trades
trade_in_place zero ts ps j d h = absurd (not-suc-le-zero h)
trade_in_place (suc n) ts ps j d h = go (trade_in_place n ts ps j d) (ltb j n) refl
  where
    long : length (trades n ts ps) ≡ n
    long = length_trades n ts ps

    go : (j < n → get_or (trades n ts ps) j d ≡ record { at = get_or ts j 0; price = get_or ps j 0 }) → (b : Bool) → ltb j n ≡ b
        → get_or (trades n ts ps ++ (record { at = get_or ts n 0; price = get_or ps n 0 } ∷ [])) j d ≡ record { at = get_or ts j 0; price = get_or ps j 0 }
    go before true q = get_or-append (trades n ts ps) _ d j (omega (arith, long, ltb-true j n q)) ∙ before (ltb-true j n q)
    go before false q =
        let e : j ≡ n = omega (arith, ltb-false j n q) in
        let f : j ≡ length (trades n ts ps) + 0 = omega (arith, e, long) in
        ap (λ k. get_or (trades n ts ps ++ (record { at = get_or ts n 0; price = get_or ps n 0 } ∷ [])) k d) f
        ∙ get_or-append-add (trades n ts ps) _ 0 d ∙ rw e

-- ------------------------------------------------------------------ what is laid is read again

trades_cons : (n x y : ℕ) (xs ys : List ℕ) → trades (suc n) (x ∷ xs) (y ∷ ys) ≡ record { at = x; price = y } ∷ trades n xs ys
unfolding trades
trades_cons zero x y xs ys = refl
trades_cons (suc n) x y xs ys = rw (trades_cons n x y xs ys)

trades_front : (w : List Trade) (ts ps : List ℕ) → trades (length w) (map (λ t. t.at) w ++ ts) (map (λ t. t.price) w ++ ps) ≡ w
unfolding trades
trades_front [] ts ps = refl
trades_front (t ∷ w) ts ps = trades_cons (length w) t.at t.price _ _ ∙ ap (λ (l : List Trade). t ∷ l) (trades_front w ts ps)

read_back : ReadBack
unfolding laid
read_back count w times prices = trades_front w _ _

-- ------------------------------------------------------------------ behind what is laid

freed_are_zero : FreedAreZero
unfolding laid
freed_are_zero n front xs i h =
    ap (λ j. get_or (front ++ (zeros ++ others)) j 0) at ∙ get_or-append-add front (zeros ++ others) k 0 ∙ behind (ltb i n) refl
  where
    zeros : List ℕ
    zeros = replicate (n - length front) 0

    others : List ℕ
    others = drop (max n (length front)) xs

    k : ℕ
    k = i - length front

    at : i ≡ length front + k
    at = omega arith

    behind : (b : Bool) → ltb i n ≡ b → get_or (zeros ++ others) k 0 ≡ (if ltb i n then 0 otherwise get_or xs i 0)
    behind true q =
        let freed : k < n - length front = omega (arith, ltb-true i n q) in
        simp (q, if_true) (get_or-append zeros others 0 k (simp length-replicate freed) ∙ get_or-replicate (n - length front) k 0 0 freed)
    behind false q =
        let l = ltb-false i n q in
        let past : k ≡ length zeros + (k - (n - length front)) = simp length-replicate (omega arith) in
        let place : max n (length front) + (k - (n - length front)) ≡ i = omega arith in
        simp (q, if_false) (ap (λ j. get_or (zeros ++ others) j 0) past ∙ get_or-append-add zeros others _ 0 ∙ get_or-drop _ xs _ 0
        ∙ ap (λ j. get_or xs j 0) place)

-- ------------------------------------------------------------------ the trades that are gone

staying_drop : (time : ℕ) (w : List Trade) → staying time w ≡ drop (left_of time (map (λ t. t.at) w)) w
unfolding staying left_of if◌then◌otherwise◌
staying_drop time [] = refl
staying_drop time (t ∷ w) = go (ltb time (t.at + 300_000)) (staying_drop time w)
  where
    go : (b : Bool) → staying time w ≡ drop (left_of time (map (λ t. t.at) w)) w
        → (if b then t ∷ w otherwise staying time w) ≡ drop (if b then 0 otherwise suc (left_of time (map (λ t. t.at) w))) (t ∷ w)
    go true e = refl
    go false e = e

gone_are_the_rest : GoneAreTheRest
unfolding gone_of
gone_are_the_rest time count times prices h =
    staying_drop time (trades count times prices) ∙ simp (times_of count times prices h, le-leb count (length times) h, if_true)

-- ------------------------------------------------------------------ the figures of those that stay

rest_of_a_window : RestOfAWindow
unfolding rest_of figures_of total oldest
rest_of_a_window gone f times prices places figures = go (ltb gone f.count) refl
  where
    w : List Trade
    w = trades f.count times prices

    sum : f.sum ≡ total (take gone w) + total (drop gone w)
    sum = ap (λ g. g.sum) figures ∙ total_parts gone w

    go : (b : Bool) → ltb gone f.count ≡ b → rest_of gone f times prices ≡ figures_of (drop gone w)
    go true q =
        let l : total (take gone w) ≤ f.sum = omega (arith, sum) in
        let others : f.sum - total (take gone w) ≡ total (drop gone w) = omega (arith, sum) in
        if_true _ _ _ (search tests) ∙ simp (others, length_rest)
    go false q =
        let none : drop gone w ≡ [] = drop_of_length-le w {i = gone} (omega (arith, ltb-false gone f.count q, length_trades f.count times prices)) in
        if_false _ _ _ (search tests) ∙ rw none

-- ------------------------------------------------------------------ all of them

written_agree : (change : Change) (count : ℕ) (times prices : List ℕ) (r s : Places) → Written change count times prices r.times r.prices
    → Written change count times prices s.times s.prices → r ≡ s
written_agree change count times prices r s a b =
    let t : r.times ≡ s.times = cc in
    let p : r.prices ≡ s.prices = cc in
    let both : ◌≡◌ {A = Places} (record { times = r.times; prices = r.prices }) (record { times = s.times; prices = s.prices }) = rw (t, p) in
    both

pub laws : Laws
laws = record {
  trades_counted = length_trades;
  trade_in_place = trade_in_place;
  read_back = read_back;
  freed_are_zero = freed_are_zero;
  gone_are_the_rest = gone_are_the_rest;
  rest_of_a_window = rest_of_a_window;
  survey_determined = λ clock count times prices. agree (survey_of clock count times prices);
  gone_determined = λ time count times. agree (gone_of time count times);
  rest_determined = λ gone f times prices. agree (rest_of gone f times prices);
  wipe_determined = λ xs. agree (wiped xs);
  write_determined = written_agree;
}
