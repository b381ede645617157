use native.Mathlib.Nat.{mul_assoc}
use mathlib.Core.Path.{sym}
use Rattle.band.specs.Band.{spread_of}
use Rattle.forms.proofs.Choice.{tests, passes}
use Rattle.band.proofs.Fitted.spread.Goals as goal

pub returns-then-percent-eq-SMALL-clause-spread : goal.returns-then-percent-eq-SMALL-clause-spread
unfolding spread_of
returns-then-percent-eq-SMALL-clause-spread c = search tests

pub returns-clause-spread : goal.returns-clause-spread
unfolding spread_of
returns-clause-spread c = passes _ _ _ _ (search tests) (sym (mul_assoc c.args.k c.args.percent c.args.self.mean.sum))
