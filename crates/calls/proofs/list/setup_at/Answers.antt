use Rattle.calls.proofs.Setups.{setup_from, setup_past}
use Rattle.calls.proofs.list.setup_at.Goals as goal

pub returns-then-i-list : goal.returns-then-i-list
returns-then-i-list c = search setup_from

pub returns : goal.returns
returns c = search setup_past
