-- Fewer than 2,000 moments happen in a row: each spends 300,000, and a stock has less than 2,000 times that to spend.
-- Assumes nothing.
use Prim.Native.Nat.{ℕ, ◌+◌, ◌-◌, ◌*◌, ◌≤◌, ◌<◌, min}
use mathlib.Core.Bool.{Bool, true, false}
use mathlib.Core.List.{List, [], ◌∷◌, ◌++◌}
use mathlib.Core.Path.{◌≡◌, refl}
use native.Mathlib.Nat.{le_refl}
use native.Mathlib.Omega.{arith}
use borrow.Author.Tests.{eqb-true, le-ltb, ne_eqb}
use lib.Dec.{eqb}
use lib.ListN.{length}
use Rattle.forms.specs.Choice.{if◌then◌otherwise◌, any_of}
use Rattle.forms.proofs.Choice.{if_arms, all_head, all_tail}
use Rattle.band.specs.declared.Mean.{Mean}
use Rattle.rules.specs.Stock.{Trade, Whole, Waiting, Trading, Limit, Paused, Late, state_of, clock_of, is, at_time, in_state, enter_limit, enter_pause, not_early, refer_to, hold_ended, oldest, figures_of, mean_in, staying}
use Rattle.rules.specs.States.{look, begin_trading, test, begin_pause, shut}
use Rattle.rules.specs.Moments.{limit_lasts, first_five, effect, window_after, come, next_of, fire}
use Rattle.rules.specs.Messages.{after}
use Rattle.rules.specs.Numbers.{fresh, notice}
use Rattle.rules.specs.Machine.{message, moment, Lawful, left}
use Rattle.rules.specs.Book.{machine, Story}
use Rattle.rules.specs.Readings.{MomentsOnly}
use Rattle.rules.specs.Demands.{leaves, FewMoments}
use Rattle.rules.specs.declared.Stock.{Stock}
use Rattle.rules.specs.declared.Figures.{Figures}
use Rattle.rules.specs.declared.Moment.{Moment}
use Rattle.rules.proofs.Lawful.{machine_laws}
use Rattle.rules.proofs.Timely.{Timely, moment_timely, timely_left, fresh_timely}
use Rattle.rules.proofs.Sound.{Ranges, Sane, fewer, moment_sane, sane_left, fresh_sane}
use Rattle.rules.proofs.MomentRows.{IsRow, row_z, row_w_early, row_w_late, row_x, row_p, row_c, row_v, row_f, row_h, settled_row}

-- ------------------------------------------------------------------ what is spent

-- how far the holds have come: each h brings them 30,000 on
abbrev hold_time : Stock → ℕ
hold_time s = if eqb s.reference.hold 0 then clock_of s otherwise s.reference.start

-- what a limit state lacks of 300,000
abbrev rest : ℕ
rest = 300_000 - limit_lasts

-- how far the limit states and pauses have come: x brings them 300,000 on, and p more than that
abbrev pause_time : Stock → ℕ
pause_time s = if is Limit s then s.course.entry otherwise if is Paused s then s.course.pause + rest otherwise clock_of s

gone : Stock → ℕ
gone s = 10 * hold_time s + pause_time s

-- 1 while the clock is before the date
wait : ℕ → ℕ → ℕ
wait date clock = min 1 (date - clock)

abbrev waits : ℕ → ℕ → ℕ
waits end clock = wait 900_000 clock + wait (end - 1_500_000) clock

-- what can still come once: v of n trades, w, f, and counted twice a Late pause and closing
still : ℕ → Stock → ℕ
still n s = n + waits s.end (clock_of s) + min 1 s.course.early + 2 * min 2 (5 - state_of s)

-- from s with n trades to s' with n', k or more is spent
abbrev Spends : ℕ → ℕ → Stock → ℕ → Stock → Type 0
Spends k n s n' s' = k + 300_000 * still n' s' + gone s ≤ 300_000 * still n s + gone s'

wait_by : (date c : ℕ) → wait date c ≤ 1
unfolding wait
wait_by date c = omega arith

wait_on : (date c t : ℕ) → c ≤ t → wait date t ≤ wait date c
unfolding wait
wait_on date c t l = omega arith

wait_over : (date c t : ℕ) → c < t → date ≡ t → 1 + wait date t ≤ wait date c
unfolding wait
wait_over date c t l e = omega arith

still_by : (n : ℕ) (s : Stock) → still n s ≤ n + 7
unfolding still
still_by n s = omega (arith, wait_by 900_000 (clock_of s), wait_by (s.end - 1_500_000) (clock_of s))

gone_by : (s : Stock) → Ranges s → (hold_time s ≤ clock_of s) × (pause_time s ≤ clock_of s + rest)
gone_by s r =
    let By : ℕ → Type 0 = λ p. p ≤ clock_of s + rest in (
      if_arms (λ p. p ≤ clock_of s) _ (λ _. le_refl _) (λ _. r.start_by),
      if_arms By _ (λ _. omega arith) (λ _. if_arms By _ (λ _. omega arith) (λ _. omega arith)),
    )

-- ------------------------------------------------------------------ the rules

if_le : (b : Bool) {x y x' y' : ℕ} → x ≤ x' → y ≤ y' → (if b then x otherwise y) ≤ (if b then x' otherwise y')
unfolding if◌then◌otherwise◌
if_le true p q = p
if_le false p q = q

-- time goes on to t, past k of the moments w
time_spends : (k n t : ℕ) (s : Stock) → clock_of s ≤ t → k + waits s.end t ≤ waits s.end (clock_of s)
    → Spends (300_000 * k) n s n (at_time t s)
unfolding still gone
time_spends k n t s l w =
    let a = if_le (eqb s.reference.hold 0) l (le_refl s.reference.start) in
    let b = if_le (is Limit s) (le_refl s.course.entry) (if_le (is Paused s) (le_refl (s.course.pause + rest)) l) in
    omega arith

look_spends : (n : ℕ) (s : Stock) → Spends 0 n s n (look s)
unfolding look
look_spends n s = if_arms (Spends 0 n s n) _ (λ t. limit_spends (eqb-true _ _ (all_head _ _ t))) (λ _. omega arith)
  where
    limit_spends : state_of s ≡ Trading → Spends 0 n s n (enter_limit s)
    limit_spends e = unfold still gone if◌then◌otherwise◌ in rw e (omega arith)

test_spends : (n : ℕ) (f : Figures) (s : Stock) → Spends 0 n s n (test f s)
unfolding test
test_spends n f s = if_arms (Spends 0 n s n) _ (λ t. refer_spends (eqb-true _ _ (all_head _ _ (all_tail _ _ t)))) (λ _. omega arith)
  where
    s' : Stock
    s' = refer_to (mean_in f) s

    refer_spends : s.reference.hold ≡ 0 → Spends 0 n s n (look s')
    refer_spends e =
        let a : Spends 0 n s n s' = unfold still gone if◌then◌otherwise◌ in rw e (omega arith) in
        omega (arith, look_spends n s')

-- k later than the limit states and pauses had come
trading_spends : (k n : ℕ) (price : Mean) (s : Stock) → Ranges s → state_of s ≤ Paused → k + pause_time s ≤ clock_of s
    → Spends k n s n (begin_trading price s)
unfolding begin_trading
trading_spends k n price s r l p =
    let s' : Stock = in_state Trading (refer_to price s) in
    let a : Spends k n s n s' = unfold still gone if◌then◌otherwise◌ in omega (arith, (gone_by s r).0) in
    omega (arith, look_spends n s')

pause_spends : (n : ℕ) (s : Stock) → state_of s ≡ Limit → clock_of s ≡ s.course.entry + limit_lasts → Spends 300_000 n s n (begin_pause s)
unfolding begin_pause
pause_spends n s e c = if_arms (λ p. Spends 300_000 n s n (enter_pause p s)) _
    (λ _. unfold still gone if◌then◌otherwise◌ in rw e (omega arith)) (λ _. unfold still gone if◌then◌otherwise◌ in rw e (omega arith))

shut_spends : (n : ℕ) (s : Stock) → Ranges s → state_of s ≤ Late → Spends 300_000 n s 0 (shut s)
unfolding shut still gone if◌then◌otherwise◌
shut_spends n s r l = omega (arith, (gone_by s r).1)

five_spends : (n : ℕ) (f : Figures) (s : Stock) → Ranges s → state_of s ≡ Waiting → (s.course.early ≡ 0 → ⊥)
    → Spends 300_000 n s n (first_five f s)
unfolding first_five
five_spends n f s r e y =
    let a : Spends 300_000 n s n (not_early s) = unfold still gone in omega arith in
    let p : 0 + pause_time s ≤ clock_of s = unfold if◌then◌otherwise◌ in rw e (omega arith) in
    if_arms (Spends 300_000 n s n) _ (λ _. a) (λ _. omega (arith, trading_spends 0 n (mean_in f) (not_early s) (omega arith) (omega arith) p))

hold_spends : (n : ℕ) (s : Stock) → (s.reference.hold ≡ 0 → ⊥) → clock_of s ≡ s.reference.start + 30_000
    → Spends 300_000 n s n (hold_ended s)
unfolding still gone if◌then◌otherwise◌
hold_spends n s y c = rw (ne_eqb _ 0 y) (omega arith)

-- v lets a trade leave
trade_spends : (t : ℕ) (w : List Trade) (s : Stock) → (length w ≡ 0 → ⊥) → t ≡ oldest w + 300_000
    → Spends 300_000 (length w) s (length (staying t w)) s
unfolding still staying oldest if◌then◌otherwise◌
trade_spends t [] s y e = absurd (y refl)
trade_spends t (a ∷ w) s y e = rw (le-ltb t (a.at + 300_000) (omega arith)) (omega (arith, fewer t w))

-- ------------------------------------------------------------------ a moment

come_spends : (m : Moment) (h : Whole) → Ranges h.stock → clock_of h.stock ≤ m.time → IsRow (figures_of h.window) h.stock m
    → Spends 300_000 (length h.window) h.stock (length (come m h).window) (come m h).stock
unfolding come effect window_after figures_of if◌then◌otherwise◌ any_of
come_spends m h r l row = go row
  where
    s : Stock
    s = at_time m.time h.stock

    now : Ranges s
    now = omega arith

    n : ℕ
    n = length h.window

    late : ℕ
    late = h.stock.end - 1_500_000

    -- a moment that is not w, and w
    but_w : (n' : ℕ) (s' : Stock) → Spends 300_000 n s n' s' → Spends 300_000 n h.stock n' s'
    but_w n' s' a = omega (arith, time_spends 0 n m.time h.stock l (omega (arith, wait_on 900_000 _ _ l, wait_on late _ _ l)))

    by_w : 1 + waits h.stock.end m.time ≤ waits h.stock.end (clock_of h.stock) → Spends 300_000 n h.stock n (look s)
    by_w a = omega (arith, time_spends 1 n m.time h.stock l a, look_spends n s)

    go : IsRow (figures_of h.window) h.stock m → Spends 300_000 n h.stock (length (come m h).window) (come m h).stock
    go (row_z p d q) = rw p (but_w _ _ (shut_spends n s now (omega arith)))
    go (row_w_early p d c q) = rw p (by_w (omega (arith, wait_over 900_000 _ _ c (omega arith), wait_on late _ _ l)))
    go (row_w_late p d c q) = rw p (by_w (omega (arith, wait_over late _ _ c (omega arith), wait_on 900_000 _ _ l)))
    go (row_x p d q) = rw p (but_w _ _ (pause_spends n s q d))
    go (row_p p d q) = rw p (but_w _ _ (trading_spends 300_000 n _ s now (omega arith) (rw q (omega arith))))
    go (row_c p d q) = rw p (but_w _ _ (shut_spends n s now (omega arith)))
    go (row_v p d q y) =
        let w = staying m.time h.window in
        rw p (but_w _ _ (omega (arith, trade_spends m.time h.window s y d, test_spends (length w) (figures_of w) s)))
    go (row_f p d q y) = rw p (but_w _ _ (five_spends n _ s now q y))
    go (row_h p d a b y) = rw p (but_w _ _ (omega (arith, hold_spends n s y d, test_spends n (figures_of h.window) (hold_ended s))))

-- ------------------------------------------------------------------ moments in a row

spent : (ns : Story) (h : Whole) → Sane h → Timely h → Lawful machine h ns → MomentsOnly ns
    → 300_000 * length ns + gone h.stock ≤ 300_000 * still (length h.window) h.stock + 261_000_000
unfolding fire notice
spent [] h i j v o = unfold gone in
    let r = gone_by h.stock i.stock.ranges in
    omega (arith, i.end_ok.1)
spent (message m ∷ ns) h i j v o = absurd o
spent (moment n ∷ ns) h i j v o =
    let e = v.0.1 in
    omega (
      arith,
      come_spends (next_of h) h i.stock.ranges (machine_laws.forward _ h e) (settled_row _ h e),
      spent ns (fire h) (moment_sane _ h i e) (moment_timely _ h j e) v.2 o,
    )

-- a lawful story is lawful up to a place in it, and from there on
parts : (es ns : Story) (h : Whole) → Lawful machine h (es ++ ns) → Lawful machine h es × Lawful machine (left machine h es) ns
parts [] ns h v = (tt, v)
parts (message m ∷ es) ns h v = let r = parts es ns (after m h) v.1 in ((v.0, r.0), r.1)
parts (moment n ∷ es) ns h v = let r = parts es ns (fire h) v.2 in ((v.0, v.1, r.0), r.1)

pub few_moments : FewMoments
few_moments end u es ns a o =
    let h = leaves end u es in
    let v = parts es ns (fresh end u) a.lawful in
    let i = sane_left es (fresh end u) (fresh_sane end u a.end_ok a.setup_ok) v.0 in
    let j = timely_left es (fresh end u) (fresh_timely end u) v.0 in
    omega (arith, spent ns h i j v.1 o, still_by (length h.window) h.stock)
