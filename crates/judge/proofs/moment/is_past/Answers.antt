use Rattle.rules.specs.Moments.{past_at}
use Rattle.forms.proofs.Bools.{and_all}
use Rattle.judge.proofs.moment.is_past.Goals as goal

pub returns : goal.returns
unfolding past_at
returns c = search and_all
