-- What the rules leave as it stands, said once for whatever it is; and so of the setup, the session's end and, but for an event's own
-- time, the clock.
-- Assumes nothing.
use Prim.Native.Nat.{ℕ}
use mathlib.Core.Path.{◌≡◌, refl}
use borrow.Author.Tests.{eqb-true}
use Rattle.forms.proofs.Choice.{if_arms}
use Rattle.band.specs.declared.Mean.{Mean}
use Rattle.rules.specs.Stock.{Whole, Trading, clock_of, in_state, enter_limit, refer_to, not_early, hold_ended, at_time}
use Rattle.rules.specs.States.{look, begin_trading, leave, test, begin_pause, shut}
use Rattle.rules.specs.Moments.{mark_z, mark_w, mark_x, mark_p, mark_c, mark_v, mark_f, effect, first_five, come}
use Rattle.rules.specs.Messages.{time_of, trade_rules, quote_rules, with_quote, does, after}
use Rattle.rules.specs.declared.Setup.{Setup}
use Rattle.rules.specs.declared.Stock.{Stock}
use Rattle.rules.specs.declared.Figures.{Figures}
use Rattle.rules.specs.declared.Moment.{Moment}
use Rattle.rules.specs.declared.Message.{Message}
use Rattle.rules.specs.declared.Message.TheVariants.{Trade as T, Quote as Q, Opening as O, Pause as P, Reopening as R, Closing as X}

-- ------------------------------------------------------------------ what stands through the state rules

-- it stands when Limit is entered, when a reference starts, and when Trading begins with one
pub record Stands (F : Stock → Type 0) : Type 0 where
  pub in_limit : (s : Stock) → F s → F (enter_limit s)
  pub referred : (price : Mean) (s : Stock) → F s → F (refer_to price s)
  pub in_trading : (price : Mean) (s : Stock) → F s → F (in_state Trading (refer_to price s))

module _ {F : Stock → Type 0} (k : Stands F) where
  pub look_stands : (s : Stock) → F s → F (look s)
  unfolding look
  look_stands s i = if_arms F _ (λ _. k.in_limit s i) (λ _. i)

  pub trading_stands : (price : Mean) (s : Stock) → F s → F (begin_trading price s)
  unfolding begin_trading
  trading_stands price s i = look_stands _ (k.in_trading price s i)

  leave_stands : (f : Figures) (s : Stock) → F s → F (leave f s)
  unfolding leave
  leave_stands f s i = if_arms F _ (λ _. i) (λ _. trading_stands _ s i)

  pub test_stands : (f : Figures) (s : Stock) → F s → F (test f s)
  unfolding test
  test_stands f s i = if_arms F _ (λ _. look_stands _ (k.referred _ s i)) (λ _. i)

  pub five_stands : (f : Figures) (s : Stock) → F (not_early s) → F (first_five f s)
  unfolding first_five
  five_stands f s i = if_arms F _ (λ _. i) (λ _. trading_stands _ _ i)

  pub trade_stands : (f : Figures) (s : Stock) → F s → F (trade_rules f s)
  unfolding trade_rules
  trade_stands f s i = if_arms F _ (λ _. if_arms F _ (λ _. trading_stands _ s i) (λ _. i)) (λ _. test_stands f s i)

  pub quote_stands : (f : Figures) (s : Stock) → F s → F (quote_rules f s)
  unfolding quote_rules
  quote_stands f s i = if_arms F _ (λ _. leave_stands f s i) (λ _. look_stands s i)

  -- through a message: by these, a quote being set first, and by a pause and closing themselves
  pub does_stands : (m : Message) (h : Whole) → ((i b o : ℕ) → F (with_quote i b o h.stock)) → F (begin_pause h.stock) → F (shut h.stock)
      → F h.stock → F (does m h).stock
  unfolding does
  does_stands (T t a) h q p x i = trade_stands _ _ i
  does_stands (Q t j b o) h q p x i = quote_stands _ _ (q j b o)
  does_stands (O t j a) h q p x i = trading_stands _ _ i
  does_stands (P t j) h q p x i = p
  does_stands (R t j a) h q p x i = trading_stands _ _ i
  does_stands (X t j a) h q p x i = x

-- ------------------------------------------------------------------ what a moment does, by its mark

pub effect_by : (F : Stock → Type 0) (mark : ℕ) (f : Figures) (s : Stock)
    → (mark ≡ mark_z → F (shut s))
    → (mark ≡ mark_w → F (look s))
    → (mark ≡ mark_x → F (begin_pause s))
    → (mark ≡ mark_p → F (begin_trading s.reference.price s))
    → (mark ≡ mark_c → F (shut s))
    → (mark ≡ mark_v → F (test f s))
    → (mark ≡ mark_f → F (first_five f s))
    → F (test f (hold_ended s))
    → F (effect mark f s)
unfolding effect
effect_by F mark f s z w x p c v five h =
    if_arms F _ (λ e. z (eqb-true mark _ e)) (λ _.
    if_arms F _ (λ e. w (eqb-true mark _ e)) (λ _.
    if_arms F _ (λ e. x (eqb-true mark _ e)) (λ _.
    if_arms F _ (λ e. p (eqb-true mark _ e)) (λ _.
    if_arms F _ (λ e. c (eqb-true mark _ e)) (λ _.
    if_arms F _ (λ e. v (eqb-true mark _ e)) (λ _.
    if_arms F _ (λ e. five (eqb-true mark _ e)) (λ _. h)))))))

-- ------------------------------------------------------------------ the clock, the setup and the session's end

abbrev pub kept : Stock → ℕ × Setup × ℕ
kept s = (clock_of s, s.setup, s.end)

stands_kept : (k : ℕ × Setup × ℕ) → Stands (λ s. kept s ≡ k)
stands_kept k = record { in_limit = λ s e. e; referred = λ r s e. e; in_trading = λ r s e. e }

pub come_kept : (m : Moment) (h : Whole) → kept (come m h).stock ≡ (m.time, h.stock.setup, h.stock.end)
unfolding come shut begin_pause
come_kept m h =
    let s = at_time m.time h.stock in
    let k = stands_kept (kept s) in
    effect_by (λ s'. kept s' ≡ kept s) m.mark _ s (λ _. refl) (λ _. look_stands k s refl) (λ _. refl) (λ _. trading_stands k _ s refl)
    (λ _. refl) (λ _. test_stands k _ s refl) (λ _. five_stands k _ s refl) (test_stands k _ (hold_ended s) refl)

pub after_kept : (m : Message) (h : Whole) → kept (after m h).stock ≡ (time_of m, h.stock.setup, h.stock.end)
unfolding after shut begin_pause
after_kept m h = does_stands (stands_kept _) m (record { stock = at_time (time_of m) h.stock; window = h.window }) (λ i b o. refl) refl refl refl
