use Rattle.rules.specs.Numbers.{not_price}
use Rattle.forms.proofs.Bools.{either}
use Rattle.judge.proofs.range.not_price.Goals as goal

pub returns : goal.returns
unfolding not_price
returns c = search either
