-- The window after an event, and trades in order.
-- Assumes nothing.
use Prim.Native.Nat.{ℕ, suc, ◌+◌, ◌≤◌, ◌<◌}
use mathlib.Core.Bool.{Bool, true, false}
use mathlib.Core.List.{List, [], ◌∷◌, ◌++◌}
use mathlib.Core.Logic.{inl, inr, ⊎_map}
use mathlib.Core.Path.{◌≡◌, refl, sym, ap, ◌∙◌}
use native.Mathlib.Nat.{le_refl}
use native.Mathlib.Omega.{arith}
use borrow.Author.Tests.{eq-eqb, ne_eqb, ltb-true, lt-ltb}
use lib.Dec.{ltb}
use lib.ListN.{length}
use Rattle.forms.specs.Choice.{if◌then◌otherwise◌}
use Rattle.forms.proofs.Choice.{if_true, if_false, if_arms}
use Rattle.forms.proofs.Decides.{either_way, by_eq}
use Rattle.rules.specs.Stock.{Trade, Whole, clock_of, staying}
use Rattle.rules.specs.Moments.{mark_v, window_after, come, next_of, fire}
use Rattle.rules.specs.Messages.{does, after}
use Rattle.rules.specs.Numbers.{notice}
use Rattle.rules.specs.Machine.{message, moment}
use Rattle.rules.specs.Changes.{closing_mark, recent, IsNew}
use Rattle.rules.specs.Words.{IsPrice, BadTrade, Rubbish}
use Rattle.rules.specs.Demands.{TradesAre}
use Rattle.rules.specs.declared.Moment.{Moment}
use Rattle.rules.specs.declared.Message.TheVariants.{Trade as T, Quote as Q, Opening as O, Pause as P, Reopening as R, Closing as X}
use Rattle.rules.proofs.Numbers.{settled_sound}
use Rattle.rules.proofs.Ranges.{in_price}

-- ------------------------------------------------------------------ trades in order

-- the trades are of a price, in order, and from `last` to the clock
abbrev pub InOrder : ℕ → ℕ → List Trade → Type 0
InOrder last clock [] = Unit {0}
InOrder last clock (t ∷ ts) = IsPrice t.price × (last ≤ t.at) × (t.at ≤ clock) × InOrder t.at clock ts

-- with an earlier `last` and a later clock
pub wider_in_order : (u v c d : ℕ) (w : List Trade) → v ≤ u → c ≤ d → InOrder u c w → InOrder v d w
wider_in_order u v c d [] k l o = tt
wider_in_order u v c d (t ∷ w) k l o = (o.0, omega (arith, o.1), omega (arith, o.2), wider_in_order t.at t.at c d w (le_refl _) l o.3)

-- with a trade at the clock behind them
pub joined_in_order : (u c : ℕ) (t : Trade) (w : List Trade) → u ≤ t.at → c ≤ t.at → IsPrice t.price → InOrder u c w → InOrder u t.at (w ++ (t ∷ []))
joined_in_order u c t [] k l p o = (p, k, le_refl _, tt)
joined_in_order u c t (a ∷ w) k l p o = (o.0, o.1, omega (arith, o.2), joined_in_order a.at c t w (omega (arith, o.2)) l p o.3)

-- ------------------------------------------------------------------ they are those that check 1 lets pass

pub trades_clean : (c ahead : ℕ) (w : List Trade) → InOrder ahead c w → ¬ BadTrade c ahead w
trades_clean c ahead [] o b = b
trades_clean c ahead (t ∷ w) o (inl (inl n)) = n o.0
trades_clean c ahead (t ∷ w) o (inl (inr (inl l))) = omega (arith, o.2)
trades_clean c ahead (t ∷ w) o (inl (inr (inr l))) = omega (arith, o.1)
trades_clean c ahead (t ∷ w) o (inr b) = trades_clean c t.at w o.3 b

in_order : (clock ahead : ℕ) (w : List Trade) → ¬ BadTrade clock ahead w → InOrder ahead clock w
in_order clock ahead [] n = tt
in_order clock ahead (t ∷ w) n =
    let price = in_price t.price (λ k. n (inl (inl k))) in
    let from : ¬ (t.at < ahead) = λ k. n (inl (inr (inr k))) in
    let to : ¬ (clock < t.at) = λ k. n (inl (inr (inl k))) in
    (price, omega arith, omega arith, in_order clock t.at w (λ k. n (inr k)))

pub window_in_order : (h : Whole) → ¬ Rubbish h → InOrder 0 (clock_of h.stock) h.window
window_in_order h n = in_order _ 0 h.window (λ k. n (inr (inr (inl k))))

-- ------------------------------------------------------------------ recent trades

module _ (time clock : ℕ) where
  recent_all : (last : ℕ) (l : List Trade) → InOrder last clock l → time < last + 300_000 → recent time l ≡ l
  unfolding recent
  recent_all last [] o h = refl
  recent_all last (a ∷ l) o h =
      let k : time < a.at + 300_000 = omega (arith, o.1) in
      if_true _ _ _ (lt-ltb time (a.at + 300_000) k) ∙ ap (λ z. a ∷ z) (recent_all a.at l o.3 k)

  -- of trades in order those that have left are the first ones
  pub staying_recent : (last : ℕ) (l : List Trade) → InOrder last clock l → staying time l ≡ recent time l
  unfolding staying recent if◌then◌otherwise◌
  staying_recent last [] o = refl
  staying_recent last (a ∷ l) o = go (staying_recent a.at l o.3) (ltb time (a.at + 300_000)) refl
    where
      go : staying time l ≡ recent time l → (b : Bool) → ltb time (a.at + 300_000) ≡ b
          → (if b then a ∷ l otherwise staying time l) ≡ (if b then a ∷ recent time l otherwise recent time l)
      go ih true e = ap (λ z. a ∷ z) (sym (recent_all a.at l o.3 (ltb-true time (a.at + 300_000) e)))
      go ih false e = ih

-- of trades in order those that have not left are in order
pub recent_in_order : (time u c : ℕ) (w : List Trade) → InOrder u c w → InOrder u c (recent time w) × (length (recent time w) ≤ length w)
unfolding recent
recent_in_order time u c [] o = (tt, le_refl _)
recent_in_order time u c (t ∷ w) o =
    let k = recent_in_order time t.at c w o.3 in
    if_arms (λ v. InOrder u c v × (length v ≤ suc (length w))) _ {x = t ∷ recent time w} {y = recent time w}
    (λ _. ((o.0, o.1, o.2, k.0), omega (arith, k.1)))
    (λ _. (wider_in_order t.at u c c (recent time w) o.1 (le_refl _) k.0, omega (arith, k.1)))

-- ------------------------------------------------------------------ the window after an event

moment_trades : (m : Moment) (clock : ℕ) (w : List Trade) → InOrder 0 clock w
    → IsNew (m.mark ≡ mark_v) (window_after m w) (recent m.time w) (if closing_mark m.mark then [] otherwise w)
unfolding window_after
moment_trades m clock w o = ⊎_map
    (λ e. (e, if_true _ _ _ (eq-eqb m.mark mark_v e) ∙ staying_recent m.time clock 0 w o))
    (λ n. (n, if_false _ _ _ (ne_eqb m.mark mark_v n)))
    (either_way _ (by_eq m.mark mark_v))

pub trades : TradesAre
unfolding after does fire come notice
trades h (message (T time price)) v = inr ((λ z. omega arith), refl)
trades h (message (Q time participant bid offer)) v = inr ((λ z. omega arith), refl)
trades h (message (O time participant price)) v = inr ((λ z. omega arith), refl)
trades h (message (P time participant)) v = inr ((λ z. omega arith), refl)
trades h (message (R time participant price)) v = inr ((λ z. omega arith), refl)
trades h (message (X time participant price)) v = inr ((λ z. omega arith), refl)
trades h (moment n) v = rw v.1 (moment_trades (next_of h) _ h.window (window_in_order h (settled_sound v.0.0 h v.0.1)))
