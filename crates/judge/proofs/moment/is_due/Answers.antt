use Rattle.rules.specs.Moments.{due_by}
use Rattle.forms.proofs.Bools.{and_all}
use Rattle.judge.proofs.moment.is_due.Goals as goal

pub returns : goal.returns
unfolding due_by
returns c = search and_all
