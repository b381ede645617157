-- What a step does to the window and its figures, before a place is written.
-- Assumes nothing.
use Prim.Native.Nat.{ℕ, ◌*◌, ◌≤◌, ◌<◌}
use mathlib.Core.Bool.{Bool, true, false}
use mathlib.Core.List.{List, [], ◌∷◌, ◌++◌}
use mathlib.Core.Path.{◌≡◌, refl, sym, ap, ◌∙◌}
use native.Mathlib.Nat.{zero-add}
use native.Mathlib.Omega.{arith}
use borrow.Author.Tests.{eq-eqb, ne_eqb, leb-true, eqb-true}
use lib.Dec.{eqb}
use lib.ListN.{length, drop, length-drop}
use Rattle.forms.specs.Choice.{if◌then◌otherwise◌, any_of}
use Rattle.forms.proofs.Choice.{if_true, if_false, all_head, all_tail}
use Rattle.rules.specs.Stock.{Trade, Whole, figures_of, total, oldest, at_time}
use Rattle.rules.specs.Moments.{effect, window_after, come}
use Rattle.rules.specs.Messages.{does, after}
use Rattle.rules.specs.declared.Figures.{Figures}
use Rattle.rules.specs.declared.Message.{Message}
use Rattle.rules.specs.declared.Message.TheVariants.{Trade as T, Quote as Q, Opening as O, Pause as P, Reopening as R, Closing as X}
use Rattle.rules.specs.declared.Moment.{Moment}
use Rattle.rules.specs.declared.Quotes.{Quotes}
use Rattle.rules.specs.declared.Stock.{Stock}
use Rattle.quotes.specs.Parts.{stock_of, Room, fitted}
use Rattle.quotes.specs.declared.Kept.{Kept}
use Rattle.quotes.proofs.Laws.{fitted_is}
use Rattle.window.specs.Places.{trades, whole, gone_of, changed, rest_of}
use Rattle.window.specs.declared.Change.{Change}
use Rattle.window.specs.declared.Change.TheVariants.{Stay, Join, Leave, Empty, Start}
use Rattle.window.proofs.Laws as window
use Rattle.window.proofs.Window.{length_trades, figures_snoc}
use Rattle.states.specs.After.{fit, effect_of, after_of}
use Rattle.states.specs.declared.After.{After}
use Rattle.states.proofs.Laws as states
use Rattle.stock.specs.View.{holding}
use Rattle.stock.specs.Window.{Held}
use Rattle.stock.specs.Steps.{change_of, change_at, with_trade, Changed, Makes}

-- ------------------------------------------------------------------ the window once it is changed

pub by_message : (m : Message) (h : Whole) → changed (change_of m) h.window ≡ (after m h).window
unfolding changed change_of after does
by_message (T time price) h = refl
by_message (Q time participant bid offer) h = refl
by_message (O time participant price) h = refl
by_message (P time participant) h = refl
by_message (R time participant price) h = refl
by_message (X time participant price) h = refl

pub by_moment : (m : Moment) (count : ℕ) (ts ps : List ℕ) → count ≤ length ts
    → changed (change_at m.mark m.time count ts) (trades count ts ps) ≡ window_after m (trades count ts ps)
unfolding changed change_at window_after if◌then◌otherwise◌ any_of
by_moment m count ts ps h = go (eqb m.mark 118) (eqb m.mark 122) (eqb m.mark 99) refl refl refl
  where
    go : (v z c : Bool) → eqb m.mark 118 ≡ v → eqb m.mark 122 ≡ z → eqb m.mark 99 ≡ c
        → changed (change_at m.mark m.time count ts) (trades count ts ps) ≡ window_after m (trades count ts ps)
    go true z c p q r = rw p (sym ((window.laws).gone_are_the_rest m.time count ts ps h))
    go false true c p q r = rw (p, q)
    go false false true p q r = rw (p, q, r)
    go false false false p q r = rw (p, q, r)

-- the change of a moment, by its mark
module _ (mark time count : ℕ) (ts : List ℕ) where
  pub change_v : (gone : ℕ) → mark ≡ 118 → gone ≡ gone_of time count ts → Leave gone ≡ change_at mark time count ts
  unfolding change_at
  change_v gone v e = simp (eq-eqb _ _ v, if_true, e)

  pub change_z : mark ≡ 122 → Empty ≡ change_at mark time count ts
  unfolding change_at any_of
  change_z z = let v : mark ≡ 118 → ⊥ = λ v. omega arith in simp (ne_eqb _ _ v, eq-eqb _ _ z, if_true, if_false)

  pub change_c : mark ≡ 99 → Empty ≡ change_at mark time count ts
  unfolding change_at any_of
  change_c c =
      let v : mark ≡ 118 → ⊥ = λ v. omega arith in
      let z : mark ≡ 122 → ⊥ = λ z. omega arith in
      simp (ne_eqb _ _ v, ne_eqb _ _ z, eq-eqb _ _ c, if_true, if_false)

  pub change_none : (mark ≡ 118 → ⊥) → (mark ≡ 122 → ⊥) → (mark ≡ 99 → ⊥) → Stay ≡ change_at mark time count ts
  unfolding change_at any_of
  change_none v z c = simp (ne_eqb _ _ v, ne_eqb _ _ z, ne_eqb _ _ c, if_false)

-- ------------------------------------------------------------------ its figures

with_trade_lem : (w : List Trade) (t : Trade) → with_trade (figures_of w) t.at t.price ≡ figures_of (w ++ (t ∷ []))
unfolding with_trade figures_of
with_trade_lem w t = sym (figures_snoc w t)

module _ (f : Figures) (ts ps : List ℕ) (k : Held f ts ps) where
  -- how the figures read of the places
  of_count : f.count ≤ 512
  unfolding whole
  of_count = leb-true _ _ (all_head _ _ (all_tail _ _ (all_tail _ _ k.places)))

  of_sum : f.sum ≡ total (trades f.count ts ps)
  unfolding figures_of
  of_sum = ap (λ g. g.sum) k.figures

  of_times : length ts ≡ 512
  unfolding whole
  of_times = eqb-true _ _ (all_head _ _ k.places)

  pub can_join : (f.count ≤ 512) × (f.sum ≤ 999_999_999 * f.count)
  can_join = (of_count, omega (arith, of_sum, k.good 0, length_trades f.count ts ps))

  module _ (change : Change) where
    pub stayed : change ≡ Stay → Changed change f.count ts ps f
    unfolding changed
    stayed q = record { figures = rw q k.figures; small = let c = can_join in (omega arith, omega arith) }

    pub joined : (time price : ℕ) (r : Figures) → change ≡ Join time price → price < 4_294_967_296 → r ≡ with_trade f time price
        → Changed change f.count ts ps r
    unfolding changed with_trade
    joined time price r q h e = record {
      figures = rw q (e ∙ ap (λ g. with_trade g time price) k.figures ∙ with_trade_lem (trades f.count ts ps) (record { at = time; price = price }));
      small = let c = can_join in rw e (omega arith, omega arith);
    }

    pub left : (gone : ℕ) (r : Figures) → change ≡ Leave gone → r ≡ rest_of gone f ts ps → Changed change f.count ts ps r
    unfolding changed figures_of
    left gone r q e =
        let w = trades f.count ts ps in
        let is : r ≡ figures_of (drop gone w) = e ∙ (window.laws).rest_of_a_window gone f ts ps k.places k.figures in
        let few = of_count in
        let counted = length_trades f.count ts ps in
        let dropped = length-drop gone w in
        record { figures = rw q is; small = rw is (omega (arith, k.good gone), omega arith) }

    pub emptied : (r : Figures) → change ≡ Empty → r.count ≡ 0 → r.oldest ≡ 0 → r.sum ≡ 0 → Changed change f.count ts ps r
    unfolding changed figures_of total oldest
    emptied r q c o t = record { figures = rw q (λ x. record { count = c x; oldest = o x; sum = t x }); small = (omega arith, omega arith) }

    pub started : (time price : ℕ) → change ≡ Start time price → price < 4_294_967_296
        → Changed change f.count ts ps (record { count = 1; oldest = time; sum = price })
    unfolding changed figures_of total oldest
    started time price q h = record { figures = rw q (simp zero-add); small = (omega arith, omega arith) }

-- ------------------------------------------------------------------ the step

module _ (n : Kept) (q : Quotes) (f g : Figures) (ts ps : List ℕ) (change : Change) (st : After) (k : Held f ts ps)
    (room : Room n) (c : Changed change f.count ts ps g) where
  abbrev s : Stock
  s = stock_of n q

  abbrev h : Whole
  h = holding s f.count ts ps

  -- there is room for the reference, so the stock is taken as it is
  as_it_is : stock_of (fitted n) q ≡ s
  as_it_is = ap (λ n. stock_of n q) ((fitted_is n).0 room)

  -- the step that leaves a rule's window makes of the stock what that window's figures make of it
  made : (rule : Whole → Whole) → changed change h.window ≡ (rule h).window → (g ≡ figures_of (rule h).window → st ≡ after_of (rule h).stock)
      → Makes rule h (record { after = st; count = g.count; change = change })
  unfolding figures_of
  made rule e q =
      let is : g ≡ figures_of (rule h).window = c.figures ∙ ap figures_of e in
      record { after = q is; count = ap (λ g. g.count) is; window = e }

  pub message_step : (m : Message) → change ≡ change_of m → st ≡ after_of (effect_of m (fit g) (stock_of (fitted n) q))
      → Makes (after m) h (record { after = st; count = g.count; change = change })
  message_step m e o = made (after m) (rw e (by_message m h)) (λ is.
      o ∙ ap (λ s. after_of (effect_of m (fit g) s)) as_it_is
      ∙ ap after_of (ap (λ g. effect_of m g s) ((states.laws).fits_as_it_is g c.small ∙ is) ∙ (states.laws).as_the_rules m h))

  pub moment_step : (m : Moment) (time : ℕ) → time ≡ m.time → change ≡ change_at m.mark time f.count ts
      → st ≡ after_of (effect m.mark (fit g) (at_time time (stock_of (fitted n) q))) → Makes (come m) h (record { after = st; count = g.count; change = change })
  unfolding come
  moment_step m time z e o =
      made (come m) (rw (e, z) (by_moment m f.count ts ps (omega (arith, of_count f ts ps k, of_times f ts ps k)))) (λ is.
      o ∙ ap (λ s. after_of (effect m.mark (fit g) (at_time time s))) as_it_is
      ∙ rw (z, (states.laws).fits_as_it_is g c.small, is))
