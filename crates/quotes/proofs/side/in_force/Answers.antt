use Rattle.forms.proofs.Bools.{or_any}
use Rattle.rules.specs.Quotes.{in_force}
use Rattle.quotes.proofs.side.in_force.Goals as goal

pub returns : goal.returns
unfolding in_force
returns c = search or_any
