use Rattle.states.proofs.Looks.{turned_is}
use Rattle.states.proofs.look.turned.Goals as goal

pub returns : goal.returns
returns c = search turned_is
