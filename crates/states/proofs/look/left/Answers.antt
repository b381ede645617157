use Rattle.states.proofs.Looks.{left_as, left_anew}
use Rattle.states.proofs.look.left.Goals as goal

pub returns-then-ends_limit : goal.returns-then-ends_limit
returns-then-ends_limit c = search left_anew

pub returns : goal.returns
returns c = search left_as
