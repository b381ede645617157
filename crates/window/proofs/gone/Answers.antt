use Rattle.std.proofs.Common.{◌≤◌, arith}
use Rattle.forms.proofs.Choice.{tests}
use Rattle.window.specs.Places.{gone_of}
use Rattle.window.proofs.Passes.{few_left}
use Rattle.window.proofs.gone.Goals as goal

pub overflow_cast-result : goal.overflow_cast-result
overflow_cast-result c = let few : c.gone_in.result ≤ c.args.count = search few_left in omega arith

pub returns-then-n-times : goal.returns-then-n-times
unfolding gone_of
returns-then-n-times c = search tests

pub returns : goal.returns
unfolding gone_of
returns c = search tests
