use Rattle.rules.specs.Numbers.{bad_end}
use Rattle.forms.proofs.Bools.{either}
use Rattle.judge.proofs.bad_end.Goals as goal

pub returns : goal.returns
unfolding bad_end
returns c = search either
