use Rattle.forms.proofs.Bools.{refusals}
use Rattle.rules.specs.Numbers.{call_checks}
use Rattle.calls.proofs.call_refusal.Goals as goal

pub returns-then-bad_shape : goal.returns-then-bad_shape
unfolding call_checks
returns-then-bad_shape c = search refusals depth 20

pub returns-then-stocks-i : goal.returns-then-stocks-i
unfolding call_checks
returns-then-stocks-i c = search refusals depth 20

pub returns : goal.returns
unfolding call_checks
returns c = search refusals depth 20
