use Rattle.std.proofs.Common.{rules, get_or-take, ◌≡◌, ℕ, ◌+◌, ◌-◌, ◌<◌, ◌≤◌, List, length, get_or, take, sym, ◌∙◌, arith}
use mathlib.Core.List.{foldl}
use Rattle.forms.proofs.Choice.{tests, goes}
use Rattle.rules.specs.Stock.{total}
use Rattle.rules.specs.declared.Figures.{Figures}
use Rattle.window.specs.Places.{trades, whole, no_figures, rest_of}
use Rattle.window.proofs.Window.{is_whole, oldest_rest, total_first}
use Rattle.window.proofs.rest.Goals as goal

module _ (k : ℕ) (f : Figures) (ts ps : List ℕ) (lt : length ts ≡ 512) (lp : length ps ≡ 512) (h : f.count ≤ 512) (i : k < f.count) (s : ℕ)
    (e : s ≡ foldl ◌+◌ 0 (take k ps)) where
  left : s ≡ total (take k (trades f.count ts ps))
  left = e ∙ sym (total_first k f.count ts ps (omega arith) (omega arith))

  too_little : f.sum < s → no_figures ≡ rest_of k f ts ps
  unfolding rest_of
  too_little l = let q = rw left at l in search tests

  some_left : (o : ℕ) → s ≤ f.sum → o ≡ get_or ts k 0
      → ◌≡◌ {A = Figures} (record { count = f.count - k; oldest = o; sum = f.sum - s }) (rest_of k f ts ps)
  unfolding rest_of
  some_left o l g =
      let q = rw left at l in
      let w = is_whole f.count ts ps lt lp h in
      goes _ _ _ _ (search tests) (simp (left, g, oldest_rest k f.count ts ps (omega arith), get_or-take f.count ts k 0 i))

pub returns-then-times-ne-PLACES : goal.returns-then-times-ne-PLACES
unfolding rest_of whole
returns-then-times-ne-PLACES c = search (tests, rules)

pub returns-then-prices-ne-PLACES : goal.returns-then-prices-ne-PLACES
unfolding rest_of whole
returns-then-prices-ne-PLACES c = search (tests, rules)

pub returns-then-f-gt-MOST_TRADES : goal.returns-then-f-gt-MOST_TRADES
unfolding rest_of whole
returns-then-f-gt-MOST_TRADES c = search (tests, rules)

pub returns-then-f-gone : goal.returns-then-f-gone
unfolding rest_of
returns-then-f-gone c = search (tests, rules)

pub returns-then-f-left : goal.returns-then-f-left
returns-then-f-left c = search (too_little, rules)

pub returns : goal.returns
returns c = search some_left
