use Rattle.std.proofs.Common.{slice_get, rules, Option, Some, None, ◌≡◌, ℕ, ◌+◌, ◌≤◌, Bool, true, false, not, ◌||◌, List, length, get_or, take, sym, ◌∙◌, arith}
use Rattle.std.specs.Option.{unwrap_or}
use Rattle.std.proofs.lemmas.Option.{unwrap_or-slice_get}
use mathlib.Core.List.{foldl}
use Rattle.forms.proofs.Choice.{tests, if_true, if_false, all_yes, all_empty, all_not_here, all_not_there}
use Rattle.rules.specs.Stock.{figures_of}
use Rattle.rules.specs.Numbers.{bad_trades}
use Rattle.window.specs.Places.{trades, whole, survey_of}
use Rattle.window.specs.Passes.{times_seen, prices_bad}
use Rattle.rules.specs.declared.Figures.{Figures}
use Rattle.window.proofs.Window.{is_whole, length_trades, oldest_rest, total_of}
use Rattle.window.proofs.Passes.{judged}
use Rattle.window.proofs.survey.Goals as goal

module _ (clock n : ℕ) (ts ps : List ℕ) (lt : length ts ≡ 512) (lp : length ps ≡ 512) (h : n ≤ 512) (late wrong : Bool)
    (el : late ≡ (times_seen clock (take n ts)).bad) (ew : wrong ≡ prices_bad (take n ps)) where
  both : bad_trades clock (trades n ts ps) ≡ (late || wrong)
  both = judged clock n ts ps (omega arith) (omega arith) ∙ rw (el, ew)

  unsound : (late || wrong) ≡ true → None ≡ survey_of clock n ts ps
  unfolding survey_of
  unsound e =
      let q : not (bad_trades clock (trades n ts ps)) ≡ false = rw (both, e) in
      sym (if_false _ _ _ (all_not_there _ _ (all_not_here _ _ q)))

  sound : (o s : ℕ) → (late || wrong) ≡ false → o ≡ unwrap_or (slice_get (take n ts) 0) 0 → s ≡ foldl ◌+◌ 0 (take n ps)
      → ◌≡◌ {A = Option Figures} (Some (record { count = n; oldest = o; sum = s })) (survey_of clock n ts ps)
  unfolding survey_of figures_of
  sound o s e f' g =
      let f : o ≡ get_or (take n ts) 0 0 = f' ∙ unwrap_or-slice_get (take n ts) 0 0 in
      let q : not (bad_trades clock (trades n ts ps)) ≡ true = rw (both, e) in
      let a : n ≤ length ts = omega arith in
      let b : n ≤ length ps = omega arith in
      sym (if_true _ _ _ (all_yes _ _ (is_whole n ts ps lt lp h) (all_yes _ _ q all_empty))
      ∙ simp (length_trades, oldest_rest 0 n ts ps a, total_of n ts ps b, f, g))

pub returns-then-times-ne-PLACES : goal.returns-then-times-ne-PLACES
unfolding survey_of whole
returns-then-times-ne-PLACES c = search tests

pub returns-then-prices-ne-PLACES : goal.returns-then-prices-ne-PLACES
unfolding survey_of whole
returns-then-prices-ne-PLACES c = search tests

pub returns-then-n-gt-PLACES : goal.returns-then-n-gt-PLACES
unfolding survey_of whole
returns-then-n-gt-PLACES c = search tests

pub returns-then-late-wrong : goal.returns-then-late-wrong
returns-then-late-wrong c = search unsound

pub returns : goal.returns
returns c = search (sound, rules)
