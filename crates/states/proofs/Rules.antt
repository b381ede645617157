-- What each state rule comes to before the quotes are looked at, from what the functions that it calls promise.
-- Assumes nothing.
use Prim.Native.Nat.{◌+◌, ◌-◌, ◌≤◌, ◌<◌}
use mathlib.Core.Bool.{Bool, true, false, not}
use mathlib.Core.List.{[], ◌∷◌}
use mathlib.Core.Path.{◌≡◌, sym, ◌∙◌}
use native.Mathlib.Omega.{arith}
use borrow.Author.Tests.{le-leb, lt-leb, eq-eqb, ne_eqb}
use lib.Dec.{eqb}
use Rattle.forms.specs.Choice.{all_of}
use Rattle.forms.proofs.Choice.{ne_not, if_true, if_false, all_yes, all_empty, all_not_here, all_not_there}
use Rattle.band.specs.Band.{fit, moves_of}
use Rattle.band.specs.declared.Mean.{Mean}
use Rattle.band.proofs.Words.{fit_as_it_is}
use Rattle.rules.specs.Stock.{Waiting, Trading, Limit, Paused, Late, in_state, refer_to, not_early, enter_pause, no_trades, mean_in}
use Rattle.rules.specs.States.{look, begin_trading, test, begin_pause}
use Rattle.rules.specs.Messages.{trade_rules, quote_rules}
use Rattle.rules.specs.Moments.{first_five}
use Rattle.rules.specs.declared.Figures.{Figures}
use Rattle.rules.specs.declared.Quotes.{Quotes}
use Rattle.rules.specs.declared.Stock.{Stock}
use Rattle.quotes.specs.Parts.{stock_of, kept_of, bare, Room}
use Rattle.quotes.specs.declared.Kept.{Kept}
use Rattle.states.specs.After.{Fits}
use Rattle.states.specs.Turns.{turned_to, left_to, Turns}
use Rattle.states.specs.declared.room.Ready.{Ready}
use Rattle.states.specs.declared.rule.Turn.{Turn}
use Rattle.states.specs.declared.rule.Turn.TheVariants.{Still, Looking}

module _ (k : Kept) where
  -- ------------------------------------------------------------------ turns

  pub looks : (rule : Stock → Stock) (n : Ready) → n.kept.course.state ≡ Trading → ((q : Quotes) → look (stock_of n.kept q) ≡ rule (stock_of k q))
      → Turns rule k (Looking n)
  unfolding turned_to left_to quote_rules
  looks rule n s r = record { turned = r; left = λ f q. let e : eqb n.kept.course.state Limit ≡ false = rw s in if_false _ _ _ e ∙ r q }

  pub stays : (rule : Stock → Stock) (n : Ready) → ((q : Quotes) → stock_of n.kept q ≡ rule (stock_of k q)) → Turns rule k (Still n)
  unfolding turned_to left_to
  stays rule n r = record { turned = r; left = λ f q. r q }

  -- a turn by one rule is one by another that makes the same of the stock
  by_rule : (j : Kept) (rule other : Stock → Stock) (t : Turn) → Turns rule j t → ((q : Quotes) → rule (stock_of j q) ≡ other (stock_of k q))
      → Turns other k t
  by_rule j rule other t r e = record { turned = λ q. r.turned q ∙ e q; left = λ f q. r.left f q ∙ e q }

  pub begun : (price : Mean) (n : Ready) → n.kept ≡ kept_of (in_state Trading (refer_to price (bare k))) → Turns (begin_trading price) k (Looking n)
  unfolding begin_trading
  begun price n e = looks _ n (rw e) (λ q. rw e)

  -- ------------------------------------------------------------------ a pause

  pub paused_late : (n : Ready) → k.end ≤ k.course.clock + 600_000 → n.kept ≡ kept_of (enter_pause Late (bare k)) → Turns begin_pause k (Still n)
  unfolding begin_pause
  paused_late n h e =
      let l : k.end - 600_000 ≤ k.course.clock = omega arith in
      stays _ n (λ q. simp (le-leb _ _ l, if_true, e))

  pub paused_early : (n : Ready) → k.course.clock + 600_000 < k.end → n.kept ≡ kept_of (enter_pause Paused (bare k)) → Turns begin_pause k (Still n)
  unfolding begin_pause
  paused_early n h e =
      let l : k.course.clock < k.end - 600_000 = omega arith in
      stays _ n (λ q. simp (lt-leb _ _ l, if_false, e))

  -- ------------------------------------------------------------------ the Test, and the first reference

  module _ (f : Figures) where
    -- what the Test asks
    abbrev Moves : Bool
    Moves =
        let reference = k.reference.price in
        all_of (eqb k.course.state Trading ∷ eqb k.reference.hold 0 ∷ not (no_trades f) ∷ moves_of f.sum f.count reference.sum reference.count ∷ [])

    pub test_stays : (n : Ready) → n.kept ≡ k → Moves ≡ false → Turns (test f) k (Still n)
    unfolding test
    test_stays n e z = stays _ n (λ q. rw (e, if_false _ _ _ z))

    module _ (mean : Mean) (e : mean ≡ mean_in f) where
      module _ (x : Bool) (g : Fits f) (r : Room k)
          (m : x ≡ moves_of (fit mean).sum (fit mean).count (fit k.reference.price).sum (fit k.reference.price).count) where
        -- there is room for both, so the Test is that of the rules
        moved : (b : Bool) → x ≡ b → moves_of f.sum f.count k.reference.price.sum k.reference.price.count ≡ b
        moved b y = sym (rw (e, fit_as_it_is (mean_in f) g, fit_as_it_is k.reference.price r) at m) ∙ y

        pub test_moves : (n : Ready) → k.course.state ≡ Trading → k.reference.hold ≡ 0 → (f.count ≡ 0 → ⊥) → x ≡ true
            → n.kept ≡ kept_of (refer_to mean (bare k)) → Turns (test f) k (Looking n)
        unfolding test
        test_moves n s h z y q =
            let all : Moves ≡ true = all_yes _ _ (eq-eqb _ _ s) (all_yes _ _ (eq-eqb _ _ h) (all_yes _ _ (ne_not _ _ z) (all_yes _ _ (moved true y) all_empty))) in
            looks _ n (rw q s) (λ p. rw q (rw e (sym (if_true _ _ _ all))))

        pub test_near : (n : Ready) → n.kept ≡ k → x ≡ false → Turns (test f) k (Still n)
        test_near n i y = test_stays n i (all_not_there _ _ (all_not_there _ _ (all_not_there _ _ (all_not_here _ _ (moved false y)))))

      pub opens : (t : Turn) → k.course.state ≡ Waiting → 300_000 ≤ k.course.clock → Turns (begin_trading mean) k t → Turns (trade_rules f) k t
      unfolding trade_rules
      opens t w h r = by_rule k _ _ t r (λ q. simp (eq-eqb _ _ w, le-leb _ _ h, if_true, e))

      pub five_some : (n : Kept) (t : Turn) → n ≡ kept_of (not_early (bare k)) → (f.count ≡ 0 → ⊥) → Turns (begin_trading mean) n t → Turns (first_five f) k t
      unfolding first_five
      five_some n t q z r = by_rule n _ _ t r (λ p. simp (q, e, ne_eqb _ _ z, if_false))

    pub waits : (n : Ready) → n.kept ≡ k → k.course.state ≡ Waiting → k.course.clock < 300_000 → Turns (trade_rules f) k (Still n)
    unfolding trade_rules
    waits n e w h = stays _ n (λ q. rw e (simp (eq-eqb _ _ w, lt-leb _ _ h, if_true, if_false)))

    pub tests : (t : Turn) → (k.course.state ≡ Waiting → ⊥) → Turns (test f) k t → Turns (trade_rules f) k t
    unfolding trade_rules
    tests t w r = by_rule k _ _ t r (λ q. simp (ne_eqb _ _ w, if_false))

    pub five_none : (n : Ready) → n.kept ≡ kept_of (not_early (bare k)) → f.count ≡ 0 → Turns (first_five f) k (Still n)
    unfolding first_five
    five_none n q z = stays _ n (λ p. simp (eq-eqb _ _ z, if_true, q))
