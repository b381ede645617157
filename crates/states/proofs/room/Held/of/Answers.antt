use mathlib.Core.Bool.{Bool, true, false}
use mathlib.Core.Path.{◌≡◌, sym, ◌∙◌}
use borrow.Author.Rules.{rules}
use Rattle.forms.proofs.Choice.{if_true, if_false}
use Rattle.band.specs.Band.{fits}
use Rattle.band.specs.declared.Mean.{Mean}
use Rattle.band.proofs.Words.{fits_decides}
use Rattle.rules.specs.Stock.{mean_in}
use Rattle.rules.specs.declared.Figures.{Figures}
use Rattle.states.specs.After.{Fits, fit}
use Rattle.states.proofs.room.Held.of.Goals as goal

module _ (f : Figures) (m : Mean) (room : Bool) (em : m ≡ mean_in f) (er : room ≡ fits m) where
  found : (b : Bool) → room ≡ b → fits (mean_in f) ≡ b
  found b y = rw (← em) (sym er ∙ y)

  taken : room ≡ true → Fits f
  taken y = (fits_decides (mean_in f)).holds (found true y)

  as_it_is : room ≡ true → f ≡ fit f
  unfolding fit
  as_it_is y = sym (if_true _ _ _ (found true y))

  none : room ≡ false → record { count = 0; oldest = 0; sum = 0 } ≡ fit f
  unfolding fit
  none y = sym (if_false _ _ _ (found false y))

pub invariant_of-result : goal.invariant_of-result
invariant_of-result c = record { room = search taken }

pub returns-then-fits : goal.returns-then-fits
returns-then-fits c = search as_it_is

pub returns : goal.returns
returns c = search (none, rules)
