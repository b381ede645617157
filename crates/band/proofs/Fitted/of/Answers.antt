use borrow.Author.Rules.{rules}
use mathlib.Core.Bool.{Bool, true, false}
use mathlib.Core.Path.{◌≡◌, sym, ◌∙◌}
use Rattle.band.specs.Band.{fits, fit, no_mean}
use Rattle.band.specs.Words.{Fits}
use Rattle.band.specs.declared.Mean.{Mean}
use Rattle.band.proofs.Words.{fits_decides, fit_as_it_is, fit_none}
use Rattle.band.proofs.Fitted.of.Goals as goal

module _ (room : Bool) (m : Mean) (e : room ≡ fits m) where
  taken : room ≡ true → Fits m
  taken y = (fits_decides m).holds (sym e ∙ y)

  as_it_is : room ≡ true → m ≡ fit m
  as_it_is y = sym (fit_as_it_is m (taken y))

  none : room ≡ false → no_mean ≡ fit m
  none n = sym (fit_none m (sym e ∙ n))

pub invariant_of-result : goal.invariant_of-result
invariant_of-result c = record { room = search taken }

pub returns-then-fits : goal.returns-then-fits
returns-then-fits c = search as_it_is

pub returns : goal.returns
returns c = search (none, rules)
