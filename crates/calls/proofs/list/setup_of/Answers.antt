use Rattle.calls.proofs.Setups.{setup_first}
use Rattle.calls.proofs.list.setup_of.Goals as goal

pub returns : goal.returns
returns c = search setup_first
