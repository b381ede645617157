use Rattle.rules.specs.Numbers.{time_checks}
use Rattle.forms.proofs.Bools.{refusals}
use Rattle.judge.proofs.settle_refusal.Goals as goal

pub returns-then-not_time : goal.returns-then-not_time
unfolding time_checks
returns-then-not_time c = search refusals depth 20

pub returns-then-not-is_due : goal.returns-then-not-is_due
unfolding time_checks
returns-then-not-is_due c = search refusals depth 20

pub returns : goal.returns
unfolding time_checks
returns c = search refusals depth 20
